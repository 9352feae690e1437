-- What a copy asked in a turn that fails it asked once, and it asked nothing before its first turn.
use Rattle.std.proofs.Common.{◌≡◌, ◌≢◌, ◌<◌, ◌≤◌, inl, inr, ℕ, Bool, false, List, ◌++◌, Option, None, slice_get, ap, sym, subst, ◌∙◌, arith}
use Rattle.lnbd_model.specs.declared.target.Place.{Place}
use Rattle.lnbd_callbacks.specs.Calls.{Call}
use Rattle.lnbd_callbacks.specs.Steps.{OneByOne}
use Rattle.lnbd_link.specs.Call as wire
use Rattle.lnbd_asked.specs.Transcript.{dealt_with, Dealt}
use Rattle.lnbd_poll.specs.Held.{Held, AreAt}
use Rattle.lnbd_poll.specs.Seen.{Seen}
use Rattle.lnbd_poll.specs.Seen as poll
use Rattle.lnbd_poll.specs.declared.noticed.Turn.{Turn}
use Rattle.lnbd_poll.specs.Turned.{TurnsCut, TurnsWhole}
use Rattle.lnbd_poll.specs.Turns.{Ending, Turns, Whole}
use Rattle.lnbd_plan.specs.declared.options.CopyOptions.{CopyOptions}
use Rattle.lnbd_plan.specs.Laws.{told_by}
use Rattle.lnbd_board.specs.declared.how.How.{How}
use Rattle.lnbd_board.specs.declared.ticket.Ticket.{Ticket}
use Rattle.lnbd_board.specs.Files as board
use Rattle.lnbd_course.specs.Asks.{AreAskedOnce, HasAskedOnce}
use Rattle.lnbd_course.specs.Between.{Between}
use Rattle.lnbd_course.specs.Cells.{AreInCells}
use Rattle.lnbd_course.specs.Flushes.{IsUnflushed, NoneFlushes, OneFlushes}
use Rattle.lnbd_course.specs.Parts.{FlushesAtMostOnce, PartAsksOnce}
use Rattle.lnbd_course.specs.Runs.{WritesRuns}
use Rattle.lnbd_course.specs.Spares.{ReadsNoZeros, WritesNoZeros}
use Rattle.lnbd_drives.proofs.Exports.{turns_give_none}
use Rattle.lnbd_course.proofs.Parts.{parts_ask_once}
use Rattle.lnbd_course.proofs.Quiet.{at_most_stays, dealt_stays, nothing_stays}
use Rattle.lnbd_conduct.specs.Changes.{KeepsToCells, Behaves, ReadsWerePassed, FlushesOnFirst, KeepsToRuns}
use Rattle.lnbd_copy.specs.Copier.{IsOnItsWay}
use Rattle.lnbd_copy.specs.Copier as copier
use Rattle.lnbd_copy.specs.Faults.{GoesIdly}
use Rattle.lnbd_copy.specs.Job as job
use Rattle.lnbd_copy.specs.Giving.{GivesNone}
use Rattle.lnbd_copy.specs.Settled.{HasSettled}
use Rattle.lnbd_conduct.specs.Settled.{Settled, SparesFound, SparesTold}
use Rattle.lnbd_conduct.specs.Shares.{IsAlwaysShared}
use Rattle.lnbd_conduct.specs.Answered.{ReadsAreAnswered, ReadsArePassed, WasPassed}
use Rattle.lnbd_conduct.specs.Terms as both
use Rattle.lnbd_copy.specs.Way.{IsUnderWay, Way}
use Rattle.lnbd_conduct.specs.Told.{Told}
use Rattle.lnbd_copy.proofs.AlikeLemmas.{alike_later, settled_later}
use Rattle.lnbd_copy.proofs.AlwaysLemmas.{AreTerms, always_stays, always_turned, some_longer, way_settled}
use Rattle.lnbd_copy.proofs.CellLemmas.{cells_stay, part_in_cells}
use Rattle.lnbd_copy.proofs.CopierLemmas.{told_as}
use Rattle.lnbd_copy.proofs.EndLemmas.{planned_once, with_all}
use Rattle.lnbd_copy.proofs.FailLemmas.{all_stand}
use Rattle.lnbd_copy.proofs.FlushedLemmas.{first_turned}
use Rattle.lnbd_copy.proofs.HeardLemmas.{may_stay, passed_stays}
use Rattle.lnbd_copy.proofs.IdleLemmas.{StaysIdly, told_idly}
use Rattle.lnbd_copy.proofs.RefusalLemmas.{turns_connected}
use Rattle.lnbd_copy.proofs.OrderLemmas.{same_given}
use Rattle.lnbd_copy.proofs.RunLemmas.{part_runs, runs_stay}
use Rattle.lnbd_copy.proofs.SettledLemmas.{same_since, settled_with}
use Rattle.lnbd_copy.proofs.TurnLemmas.{since_on, some_same}
use Rattle.lnbd_copy.proofs.UntouchedLemmas.{grain_some, part_spares, untouched_stays}

abbrev steps : board.Seen → List (Call Ticket) → board.Seen → Type 0
steps = OneByOne board.Files

-- What holds of a copy's calls.

answered_stays : (extents : Bool) (from : Place) → StaysIdly (ReadsAreAnswered extents from)
answered_stays extents from calls more quiet none answered = record {
  each = λ link cookie command is p reads.
      let same = dealt_stays calls more quiet none from in
      may_stay extents from p calls more (answered.each link cookie command (sym (ap (λ (d : Dealt). d.asked link cookie) same) ∙ is) p reads);
}

passes_stay : (extents : Bool) (from to : Place) → StaysIdly (ReadsWerePassed extents from to)
passes_stay extents from to calls more quiet none passed = record {
  source = passed.source;
  destination = passed.destination;
  shown = some_longer calls more passed.shown;
  shown' = some_longer calls more passed.shown';
  none = passed.none;
  is = record {
    each = λ link cookie command is p reads.
        let same = dealt_stays calls more quiet none from in
        passed_stays extents (both.grain passed.source passed.destination) from p calls more (passed.is.each link cookie command (sym (ap (λ (d : Dealt). d.asked link cookie) same) ∙ is) p reads);
  };
  all = alike_later extents from to passed.source passed.destination calls more none passed.all;
}

found_stays : (options : CopyOptions) (from to : Place) → StaysIdly (SparesFound options from to)
found_stays options from to calls more quiet none found = record {
  source = found.source;
  destination = found.destination;
  shown = some_longer calls more found.shown;
  shown' = some_longer calls more found.shown';
  none = found.none;
  is = subst (WritesNoZeros (both.how_by options found.source found.destination)) (sym (dealt_stays calls more quiet none to)) found.is;
  all = alike_later options.extents from to found.source found.destination calls more none found.all;
}

behaves_stays : (options : CopyOptions) (from to : Place) → StaysIdly (Behaves options from to)
behaves_stays options from to calls more quiet none b = record {
  asks = at_most_stays calls more quiet none options.allocated options.destination_is_zero from to b.asks;
  answered = answered_stays options.extents from calls more quiet none b.answered;
  dense = elim b.dense [
    | inl nothing ↦ inl (nothing_stays calls more quiet nothing)
    | inr found ↦ inr (found_stays options from to calls more quiet none found)
  ];
  flushes = subst OneFlushes (sym (dealt_stays calls more quiet none to)) b.flushes;
  unflushed = λ unwanted. subst NoneFlushes (sym (dealt_stays calls more quiet none to)) (b.unflushed unwanted);
  untouched = elim b.untouched [
    | inl nothing ↦ inl (nothing_stays calls more quiet nothing)
    | inr spared ↦ inr (untouched_stays options.extents from to calls more quiet none spared)
  ];
  shared = always_stays options from to calls more quiet none b.shared;
  cut = elim b.cut [
    | inl nothing ↦ inl (nothing_stays calls more quiet nothing)
    | inr kept ↦ inr (cells_stay options from to calls more quiet none kept)
  ];
  first = λ link cookie command asks flushes.
      ap (λ (l : List ℕ). slice_get l 1) (same_given calls more none) ∙ b.first link cookie command (sym (ap (λ (d : Dealt). d.asked link cookie) (dealt_stays calls more quiet none to)) ∙ asks) flushes;
  passed = elim b.passed [
    | inl nothing ↦ inl (nothing_stays calls more quiet nothing)
    | inr passed ↦ inr (passes_stay options.extents from to calls more quiet none passed)
  ];
  runs = elim b.runs [
    | inl nothing ↦ inl (nothing_stays calls more quiet nothing)
    | inr kept ↦ inr (runs_stay options from to calls more quiet none kept)
  ];
}

pub behaves_idly : (options : CopyOptions) (from to : Place) (start a b : Option (List wire.Call)) → GoesIdly a b → Told start a (Behaves options from to) → Told start b (Behaves options from to)
behaves_idly options from to start a b idly told = told_idly (Behaves options from to) start a b (behaves_stays options from to) idly told

-- Two facts of the same calls.
pub told_both : {A B : List wire.Call → Type 0} (start told : Option (List wire.Call)) → Told start told A → Told start told B → Told start told (λ calls. A calls × B calls)
told_both {A} {B} start told one other = record {
  since = λ all is.
      let a = one.since all is in
      let b = other.since all is in
      record { before = a.before; calls = a.calls; was = a.was; now = a.now; is = (a.is, subst B (same_since start all b a) b.is) };
}

-- A turn, whole or short.

pub record IsTurn (before : List (Seen Ticket)) (now : board.Seen) (calls : List wire.Call) (after : List (Seen Ticket)) (now' : board.Seen) : Type 0 where
  pub ending : Ending
  pub turns : Turns steps before now calls after now' ending

-- of which nothing behind the end of what is planned was asked, nothing was behind the last byte
once_within : (allocated skip : Bool) (end size : ℕ) (source destination : Dealt) → end ≤ size → AreAskedOnce allocated skip end source destination → AreAskedOnce allocated skip size source destination
once_within allocated skip end size source destination fits once = record {
  looks = once.looks;
  stores = once.stores;
  reads_once = once.reads_once;
  changes_once = once.changes_once;
  reads_within = λ link cookie command is p here. (let l = once.reads_within link cookie command is p here in omega (arith, l, fits));
  changes_within = λ link cookie command is p here. (let l = once.changes_within link cookie command is p here in omega (arith, l, fits));
  holes = once.holes;
  looks_plain = once.looks_plain;
  stores_plain = once.stores_plain;
  skips = once.skips;
  extents = once.extents;
}

module _ (j : job.Seen) (way : Way) (now now' : board.Seen) (parting : Bool) (calls part : List wire.Call) (held held' : List (Held Ticket)) (after : List (Seen Ticket)) (is : job.IsJob j way now) (well : now.error ≡ None) (on : IsUnderWay parting way now calls held) (at : AreAt held' after)
    (turn : IsTurn on.seens now part after now') (two : way.from ≢ way.to) where
  asked : PartAsksOnce way.how now.flushing way.from way.to j.terms.size j.windows.plan.end (calls ++ part)
  asked =
      let between = subst (λ (o : Option ℕ). Between way.from way.to o way.how on.has way.slices now calls on.seens) is.size on.stands.between in
      let within = is.planned.within in
      let ends = is.ends in
      parts_ask_once way.from way.to j.terms.size way.how on.has way.slices j.windows.plan.slices now now' calls part on.seens after turn.ending j.windows.plan.cells (told_by 0 is.planned.parts) j.windows.plan.end
      between well turn.turns (all_stand held' after at) (planned_once j way now is) (omega (arith, within, ends)) two

  pub part_asks : HasAskedOnce way.how.allocated way.how.skip way.from way.to (calls ++ part)
  part_asks =
      let within = is.planned.within in
      let ends = is.ends in
      record {
        links = asked.links;
        size = j.terms.size;
        told = asked.told;
        asked = once_within way.how.allocated way.how.skip j.windows.plan.end j.terms.size (dealt_with way.from (calls ++ part)) (dealt_with way.to (calls ++ part)) (omega (arith, within, ends)) asked.asked;
      }

  pub part_answers : ReadsAreAnswered way.extents way.from (calls ++ part)
  part_answers = record {
    each = λ link cookie command is_asked p reads.
        let low = asked.asked.reads_within link cookie command is_asked p reads in
        let reached = is.heard.planned in
        may_stay way.extents way.from p calls part (on.hears.answered well two j.windows.grain p (is.heard.before p (omega (arith, low, reached))));
  }

  pub part_passes : ReadsArePassed way.extents j.terms.grain way.from (calls ++ part)
  part_passes = record {
    each = λ link cookie command is_asked p reads.
        let low = asked.asked.reads_within link cookie command is_asked p reads in
        let reached = is.heard.planned in
        passed_stays way.extents j.terms.grain way.from p calls part
        (subst (λ (g : ℕ). WasPassed way.extents g way.from p calls) is.grain (on.hears.passed well two j.windows.grain p (is.heard.before p (omega (arith, low, reached)))));
  }

  pub part_dense : WritesNoZeros way.how (dealt_with way.to (calls ++ part))
  part_dense = asked.dense

  pub part_flushes : FlushesAtMostOnce way.to (calls ++ part)
  part_flushes = asked.flushes

  pub part_unflushed : now.flushing ≡ false → IsUnflushed way.to (calls ++ part)
  part_unflushed = asked.unflushed

-- What holds of the calls of a copy on its way holds after a turn.
module _ (copy : copier.Seen) (now : board.Seen) (held : List (Held Ticket)) (start a b : Option (List wire.Call)) (Leads : List (Seen Ticket) → List wire.Call → List (Seen Ticket) → Type 0)
    (turns : (before : List (Seen Ticket)) (calls : List wire.Call) (after : List (Seen Ticket)) → Leads before calls after → IsTurn before copy.board calls after now)
    (goes : poll.Goes a b (λ seens. AreAt copy.held seens) (λ seens. AreAt held seens) Leads) (well : copy.board.error ≡ None) (on : IsOnItsWay start a copy) (two : copy.from ≢ copy.to) where
  apart : on.way.from ≢ on.way.to
  apart e = two (sym on.from ∙ e ∙ on.to)

  some_grain : 0 < on.job.terms.grain
  some_grain = let settled = on.settled.first in subst (λ (n : ℕ). 0 < n) (sym settled.settled.grain) (grain_some settled.source settled.destination)

  abbrev Asked : List wire.Call → Type 0
  Asked calls = HasAskedOnce on.way.how.allocated on.way.how.skip on.way.from on.way.to calls × ReadsAreAnswered on.way.extents on.way.from calls × WritesNoZeros on.way.how (dealt_with on.way.to calls) × FlushesAtMostOnce on.way.to calls × (copy.board.flushing ≡ false → IsUnflushed on.way.to calls) × ReadsNoZeros on.job.terms.grain (dealt_with on.way.from calls)
      × AreInCells on.job.terms.cell on.job.terms.zero_cell (dealt_with on.way.from calls) (dealt_with on.way.to calls) × ReadsArePassed on.way.extents on.job.terms.grain on.way.from calls × WritesRuns on.way.how (dealt_with on.way.from calls) (dealt_with on.way.to calls)

  turn_asked : Told start b Asked
  turn_asked = record {
    since = λ all is.
        let first = (goes on.stand.seens on.stand.at).grown all is in
        let since = on.on.since first.0 first.1 in
        let went = goes since.is.seens since.is.at in
        let grown = went.grown all is in
        let same : grown.0 ≡ first.0 = some_same grown.0 first.0 (sym grown.1 ∙ first.1) in
        let turn = turns since.is.seens went.calls went.after went.leads in
        let parting = job.is_parting on.job.phase in
        since_on start first.0 all went.calls (grown.2 ∙ ap (λ (l : List wire.Call). l ++ went.calls) same) since (
          part_asks on.job on.way copy.board now parting since.calls went.calls copy.held held went.after on.is well since.is went.at turn apart,
          part_answers on.job on.way copy.board now parting since.calls went.calls copy.held held went.after on.is well since.is went.at turn apart,
          part_dense on.job on.way copy.board now parting since.calls went.calls copy.held held went.after on.is well since.is went.at turn apart,
          part_flushes on.job on.way copy.board now parting since.calls went.calls copy.held held went.after on.is well since.is went.at turn apart,
          part_unflushed on.job on.way copy.board now parting since.calls went.calls copy.held held went.after on.is well since.is went.at turn apart,
          part_spares on.job on.way copy.board now parting since.calls went.calls copy.held held went.after on.is well since.is went.at turn.ending turn.turns apart some_grain,
          part_in_cells copy.options on.settled.first.source on.settled.first.destination on.job on.way on.settled.first.settled copy.board now parting since.calls went.calls copy.held held went.after on.is well since.is went.at turn.ending turn.turns apart,
          part_passes on.job on.way copy.board now parting since.calls went.calls copy.held held went.after on.is well since.is went.at turn apart,
          part_runs on.job on.way copy.board now parting since.calls went.calls copy.held held went.after on.is well since.is went.at turn.ending turn.turns apart,
        );
  }

  turn_gives : GivesNone a b
  turn_gives = record {
    on = λ all is.
        let went = goes on.stand.seens on.stand.at in
        let grown = went.grown all is in
        let turn = turns on.stand.seens went.calls went.after went.leads in
        record {
          before = grown.0;
          more = went.calls;
          was = grown.1;
          are = grown.2;
          none = λ link. turns_give_none steps link went.calls on.stand.seens went.after copy.board now turn.ending turn.turns;
          connected = turns_connected steps on.stand.seens copy.board went.calls went.after now turn.ending turn.turns;
        };
  }

  turn_settled : HasSettled copy.options copy.from copy.to start b on.job.terms
  turn_settled = settled_later copy.options copy.from copy.to start a b on.job.terms turn_gives on.settled

  turn_dense : Told start b (SparesFound copy.options copy.from copy.to)
  turn_dense =
      settled_with (λ source destination calls. WritesNoZeros (both.how_by copy.options source destination) (dealt_with copy.to calls)) copy.options copy.from copy.to start b on.job.terms
      turn_settled
      (told_as start b
      (λ calls is. subst (λ (how : How). WritesNoZeros how (dealt_with copy.to calls)) (on.is.how ∙ turn_settled.first.settled.how) (subst (λ (t : Place). WritesNoZeros on.way.how (dealt_with t calls)) on.to is.2))
      turn_asked)

  turn_spares : Told start b (SparesTold copy.options.extents copy.from copy.to)
  turn_spares =
      settled_with (λ source destination calls. ReadsNoZeros (both.grain source destination) (dealt_with copy.from calls)) copy.options copy.from copy.to start b on.job.terms
      turn_settled
      (told_as start b
      (λ calls is. subst (λ (block : ℕ). ReadsNoZeros block (dealt_with copy.from calls)) turn_settled.first.settled.grain (subst (λ (f : Place). ReadsNoZeros on.job.terms.grain (dealt_with f calls)) on.from is.5))
      turn_asked)

  turn_passes : Told start b (ReadsWerePassed copy.options.extents copy.from copy.to)
  turn_passes =
      settled_with (λ source destination calls. ReadsArePassed copy.options.extents (both.grain source destination) copy.from calls) copy.options copy.from copy.to start b on.job.terms
      turn_settled
      (told_as start b
      (λ calls is. subst (λ (block : ℕ). ReadsArePassed copy.options.extents block copy.from calls) turn_settled.first.settled.grain
      (subst (λ (x : Bool). ReadsArePassed x on.job.terms.grain copy.from calls) on.extents (subst (λ (f : Place). ReadsArePassed on.way.extents on.job.terms.grain f calls) on.from is.7)))
      turn_asked)

  turn_cells : Told start b (KeepsToCells copy.options copy.from copy.to)
  turn_cells =
      let source = turn_settled.first.source in
      let destination = turn_settled.first.destination in
      let settled = turn_settled.first.settled in
      settled_with (λ source destination calls. AreInCells (both.cell copy.options source destination) (both.zero_cell copy.options source destination) (dealt_with copy.from calls) (dealt_with copy.to calls)) copy.options copy.from copy.to start b on.job.terms
      turn_settled
      (told_as start b
      (λ calls is.
      subst (λ (n : ℕ). AreInCells n (both.zero_cell copy.options source destination) (dealt_with copy.from calls) (dealt_with copy.to calls)) settled.cell
      (subst (λ (n : ℕ). AreInCells on.job.terms.cell n (dealt_with copy.from calls) (dealt_with copy.to calls)) settled.zero_cell
      (subst (λ (t : Place). AreInCells on.job.terms.cell on.job.terms.zero_cell (dealt_with copy.from calls) (dealt_with t calls)) on.to
      (subst (λ (f : Place). AreInCells on.job.terms.cell on.job.terms.zero_cell (dealt_with f calls) (dealt_with on.way.to calls)) on.from is.6))))
      turn_asked)

  turn_runs : Told start b (KeepsToRuns copy.options copy.from copy.to)
  turn_runs =
      settled_with (λ source destination calls. WritesRuns (both.how_by copy.options source destination) (dealt_with copy.from calls) (dealt_with copy.to calls)) copy.options copy.from copy.to start b on.job.terms
      turn_settled
      (told_as start b
      (λ calls is.
      subst (λ (how : How). WritesRuns how (dealt_with copy.from calls) (dealt_with copy.to calls)) (on.is.how ∙ turn_settled.first.settled.how)
      (subst (λ (t : Place). WritesRuns on.way.how (dealt_with copy.from calls) (dealt_with t calls)) on.to
      (subst (λ (f : Place). WritesRuns on.way.how (dealt_with f calls) (dealt_with on.way.to calls)) on.from is.8)))
      turn_asked)

  turn_always : Told start a (IsAlwaysShared copy.options copy.from copy.to) → Told start b (IsAlwaysShared copy.options copy.from copy.to)
  turn_always always = record {
    since = λ all is.
        let first = (goes on.stand.seens on.stand.at).grown all is in
        let since = on.on.since first.0 first.1 in
        let went = goes since.is.seens since.is.at in
        let grown = went.grown all is in
        let same : grown.0 ≡ first.0 = some_same grown.0 first.0 (sym grown.1 ∙ first.1) in
        let turn = turns since.is.seens went.calls went.after went.leads in
        let settled = (way_settled copy start a well on two).since first.0 first.1 in
        let was = always.since first.0 first.1 in
        since_on start first.0 all went.calls (grown.2 ∙ ap (λ (l : List wire.Call). l ++ went.calls) same) since
        (always_turned copy start a well on two since.calls went.calls now went.after turn.ending since.is turn.turns
        (subst (Settled copy.options.extents copy.from copy.to (AreTerms copy start a well on two)) (same_since start first.0 settled since) settled.is)
        (subst (IsAlwaysShared copy.options copy.from copy.to) (same_since start first.0 was since) was.is));
  }

  turn_first : Told start a (FlushesOnFirst copy.to) → Told start b (FlushesOnFirst copy.to)
  turn_first was = record {
    since = λ all is.
        let first = (goes on.stand.seens on.stand.at).grown all is in
        let since = on.on.since first.0 first.1 in
        let went = goes since.is.seens since.is.at in
        let grown = went.grown all is in
        let same : grown.0 ≡ first.0 = some_same grown.0 first.0 (sym grown.1 ∙ first.1) in
        let turn = turns since.is.seens went.calls went.after went.leads in
        let had = was.since first.0 first.1 in
        since_on start first.0 all went.calls (grown.2 ∙ ap (λ (l : List wire.Call). l ++ went.calls) same) since
        (subst (λ (t : Place). FlushesOnFirst t (since.calls ++ went.calls)) on.to
        (first_turned on.way.from on.way.to on.way.size on.way.how since.is.has on.way.slices copy.board now since.calls went.calls since.is.seens went.after turn.ending since.is.stands.between turn.turns
        (all_stand copy.held since.is.seens since.is.at) (all_stand held went.after went.at) apart since.is.flushes
        (subst (λ (t : Place). FlushesOnFirst t since.calls) (sym on.to) (subst (FlushesOnFirst copy.to) (same_since start first.0 had since) had.is))));
  }

  pub turn_behaves : Told start a (Behaves copy.options copy.from copy.to) → Told start b (Behaves copy.options copy.from copy.to)
  turn_behaves was =
      let allocated : on.way.how.allocated ≡ copy.options.allocated = ap (λ (h : How). h.allocated) on.is.how ∙ on.wished.allocated in
      let skip : on.way.how.skip ≡ copy.options.destination_is_zero = ap (λ (h : How). h.skip) on.is.how ∙ on.wished.skip in
      told_as start b
      (λ calls is.
      let once : HasAskedOnce copy.options.allocated copy.options.destination_is_zero copy.from copy.to calls =
      subst (λ (x : Bool). HasAskedOnce copy.options.allocated x copy.from copy.to calls) skip
      (subst (λ (x : Bool). HasAskedOnce x on.way.how.skip copy.from copy.to calls) allocated
      (subst (λ (t : Place). HasAskedOnce on.way.how.allocated on.way.how.skip copy.from t calls) on.to (subst (λ (f : Place). HasAskedOnce on.way.how.allocated on.way.how.skip f on.way.to calls) on.from is.0.0))) in
      record {
        asks = record { links = once.links; asked = inr once };
        answered = subst (λ (x : Bool). ReadsAreAnswered x copy.from calls) on.extents (subst (λ (f : Place). ReadsAreAnswered on.way.extents f calls) on.from is.0.1);
        dense = inr is.1.0;
        untouched = inr is.1.1.0;
        flushes = subst (λ (t : Place). FlushesAtMostOnce t calls) on.to is.0.3;
        unflushed = λ unwanted. subst (λ (t : Place). IsUnflushed t calls) on.to (is.0.4 (on.is.unwanted (on.wished.unflushed unwanted)));
        shared = is.1.1.1.1.1.1.0;
        cut = inr is.1.1.1.0;
        first = is.1.1.1.1.1.1.1;
        passed = inr is.1.1.1.1.0;
        runs = inr is.1.1.1.1.1.0;
      })
      (told_both start b turn_asked (told_both start b turn_dense (told_both start b turn_spares (told_both start b turn_cells (told_both start b turn_passes (told_both start b turn_runs (told_both start b (turn_always (told_as start a (λ calls is. is.shared) was)) (turn_first (told_as start a (λ calls is. is.first) was)))))))))

pub whole_behaves : (copy : copier.Seen) (now : board.Seen) (held : List (Held Ticket)) (start a b : Option (List wire.Call)) (f g : ℕ) (turn : Turn) → poll.Goes a b (λ seens. AreAt copy.held seens) (λ seens. AreAt held seens) (λ before calls after. TurnsWhole steps f g turn before copy.board calls after now) →
    copy.board.error ≡ None → IsOnItsWay start a copy → copy.from ≢ copy.to → Told start a (Behaves copy.options copy.from copy.to) → Told start b (Behaves copy.options copy.from copy.to)
whole_behaves copy now held start a b f g turn goes well on two was =
    turn_behaves copy now held start a b (λ before calls after. TurnsWhole steps f g turn before copy.board calls after now) (λ before calls after leads. record { ending = Whole leads.moved; turns = leads.turns }) goes well on two was

pub cut_behaves : (copy : copier.Seen) (now : board.Seen) (held : List (Held Ticket)) (start a b : Option (List wire.Call)) (f g : ℕ) → poll.Goes a b (λ seens. AreAt copy.held seens) (λ seens. AreAt held seens) (λ before calls after. TurnsCut steps f g before copy.board calls after now) →
    copy.board.error ≡ None → IsOnItsWay start a copy → copy.from ≢ copy.to → Told start a (Behaves copy.options copy.from copy.to) → Told start b (Behaves copy.options copy.from copy.to)
cut_behaves copy now held start a b f g goes well on two was =
    turn_behaves copy now held start a b (λ before calls after. TurnsCut steps f g before copy.board calls after now) (λ before calls after leads. record { ending = leads.ending; turns = leads.turns }) goes well on two was

-- From turn to turn.
pub fair_on : (first now : copier.Seen) (start a b : Option (List wire.Call)) → now ≡ with_all first now → (IsOnItsWay start a now → now.from ≢ now.to → Told start a (Behaves now.options now.from now.to) → Told start b (Behaves now.options now.from now.to)) →
    IsOnItsWay start a now → (first.from ≢ first.to → Told start a (Behaves first.options first.from first.to)) → first.from ≢ first.to → Told start b (Behaves first.options first.from first.to)
fair_on first now start a b kept fair on was two =
    (subst (λ (s : copier.Seen). s.from ≢ s.to → Told start a (Behaves s.options s.from s.to) → Told start b (Behaves s.options s.from s.to)) kept (λ apart told. fair on apart told)) two (was two)
