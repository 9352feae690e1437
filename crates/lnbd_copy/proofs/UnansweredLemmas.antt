-- While slices are copied, and no handle has anything to write, as much is unanswered by the calls of a copy as may be.
use Rattle.std.proofs.Common.{◌≡◌, ◌≢◌, ◌<◌, ◌≤◌, ◌⊎◌, inl, inr, ltb-true, ◌+◌, ◌*◌, ◌-◌, ℕ, Bool, true, false, not, ◌||◌, ◌==◌, nat_lt, List, [], ◌∷◌, ◌++◌, length, min, Option, Some, None, is_some, if◌then◌else◌, refl, ap, sym, subst, ◌∙◌, arith}
use Rattle.std.proofs.lemmas.Bool.{eq-eqb, false≢true}
use Rattle.lnbd_model.specs.declared.target.Place.{Place}
use Rattle.lnbd_link.specs.Call as wire
use Rattle.lnbd_link.specs.declared.wires.Want.{Want}
use Rattle.lnbd_history.specs.Answers.{direction_after, in_flight_after, state_after}
use Rattle.lnbd_model.specs.declared.state.State.{State}
use Rattle.lnbd_poll.specs.Held.{Held, AreAt, is_on_its_way, is_wanting, want_of, wants_after, wants_now, with_want}
use Rattle.lnbd_poll.proofs.HeldLemmas.{wants_same}
use Rattle.lnbd_poll.specs.Seen.{Seen}
use Rattle.lnbd_asked.specs.Transcript.{dealt_with, is_of}
use Rattle.lnbd_plan.specs.declared.grid.Slice.{Slice}
use Rattle.lnbd_board.specs.declared.how.How.{How}
use Rattle.lnbd_board.specs.declared.ticket.Ticket.{Ticket}
use Rattle.lnbd_board.specs.Files as board
use Rattle.lnbd_course.specs.Told as course
use Rattle.lnbd_course.specs.Between.{Between}
use Rattle.lnbd_course.specs.Reached.{WasTold}
use Rattle.lnbd_course.specs.Slices.{AreBegun, AsksExtentsOf}
use Rattle.lnbd_course.specs.UnderWay.{AreUnderWay, NoneWrites}
use Rattle.lnbd_course.proofs.Placed.{links_are_of_sides}
use Rattle.lnbd_course.proofs.Reached.{told_are_known}
use Rattle.lnbd_course.proofs.Slices.{ended_are_begun, quiet_are_begun}
use Rattle.lnbd_course.proofs.Passed.{none_are_awaited}
use Rattle.lnbd_course.proofs.UnderWay.{quiet_asks, quiet_counts}
use Rattle.lnbd_copy.specs.declared.job.Phase.{Phase}
use Rattle.lnbd_copy.specs.declared.job.Phase.TheVariants.{Copying, Flushing, Parting}
use Rattle.lnbd_copy.specs.Copier.{IsOnItsWay}
use Rattle.lnbd_copy.specs.Copier as copier
use Rattle.lnbd_conduct.specs.Answered.{WasPassed}
use Rattle.lnbd_conduct.specs.Slices.{ArePlannedTo, AsksForNone, AsksForWindow, IsFull, IsFullBy, IsUntold, cells_of, window}
use Rattle.lnbd_copy.specs.Job as work
use Rattle.lnbd_copy.specs.Unanswered.{HasAllAsked}
use Rattle.lnbd_conduct.specs.Waiting.{NoneForWriting}
use Rattle.lnbd_copy.specs.UnderWay.{AreAwaited, IsBusy}
use Rattle.lnbd_copy.specs.UnderWay as state
use Rattle.lnbd_copy.specs.Way.{IsOn, IsUnderWay, Stands, Way, known_of}
use Rattle.lnbd_copy.specs.Windows as windows
use Rattle.lnbd_copy.proofs.AnswerLemmas.{none_held}
use Rattle.lnbd_copy.proofs.CopierLemmas.{told_as}
use Rattle.lnbd_copy.proofs.EndLemmas.{between_sized}
use Rattle.lnbd_copy.proofs.FailLemmas.{all_stand}
use Rattle.lnbd_copy.proofs.SettledLemmas.{settled_with}
use Rattle.lnbd_copy.proofs.WholeLemmas as whole

-- A pause wants no link for writing where no handle has anything to write.

or_third : (a b c : Bool) → c ≡ true → (a || (b || c)) ≡ true
or_third true b c e = refl
or_third false true c e = refl
or_third false false c e = e

one_unwritten : (at : State) (link in_flight direction : ℕ) (others : List Want) → NoneForWriting (with_want (want_of link at in_flight direction) others) → (direction ≢ 3) × NoneForWriting others
one_unwritten at link in_flight direction others none = go (is_wanting at in_flight direction) refl none
  where
    go : (b : Bool) → is_wanting at in_flight direction ≡ b → NoneForWriting (with_want (if b then Some (record { link = link; direction = direction }) else None) others) → (direction ≢ 3) × NoneForWriting others
    go true is none = let l = none.0 in ((λ e. omega (arith, l, e)), none.1)
    go false is none = ((λ e. false≢true (sym is ∙ or_third (is_on_its_way at) (not (in_flight == 0)) (direction == 3) (eq-eqb direction 3 e))), none)

all_unwritten : (seens : List (Seen Ticket)) → NoneForWriting (wants_after seens) → NoneWrites seens
all_unwritten [] none = tt
all_unwritten (seen ∷ all) none =
    let one = one_unwritten (state_after seen.history) seen.link (in_flight_after seen.history) (direction_after seen.history) (wants_after all) none in
    (one.0, all_unwritten all one.1)

pub none_writes : (held : List (Held Ticket)) (seens : List (Seen Ticket)) → AreAt held seens → NoneForWriting (wants_now held) → NoneWrites seens
none_writes held seens at none = all_unwritten seens (subst NoneForWriting (wants_same held seens at) none)

-- a range that is wanted
wanted_is : (planned : windows.Seen) → is_some (windows.wanted planned) ≡ true → windows.wanted planned ≡ Some (planned.at, windows.window_end planned - planned.at)
wanted_is planned = elim (nat_lt planned.at (windows.window_end planned)) as (λ b. let range : Option (ℕ × ℕ) = if b then Some (planned.at, windows.window_end planned - planned.at) else None in is_some range ≡ true → range ≡ Some (planned.at, windows.window_end planned - planned.at)) [
  | true ↦ λ some. refl
  | false ↦ λ none. absurd (false≢true none)
]

wanted_below : (planned : windows.Seen) → is_some (windows.wanted planned) ≡ true → planned.at < windows.window_end planned
wanted_below planned some = ltb-true planned.at (windows.window_end planned) (is_less (nat_lt planned.at (windows.window_end planned)) some)
  where
    is_less : (b : Bool) → is_some {T = ℕ × ℕ} (if b then Some (planned.at, windows.window_end planned - planned.at) else None) ≡ true → b ≡ true
    is_less true some = refl
    is_less false some = absurd (false≢true some)

-- Of a copy that is under way, whatever it is at.
module _ (j : work.Seen) (way : Way) (now : board.Seen) (calls : List wire.Call) (held : List (Held Ticket)) (parting : Bool) (is : work.IsJob j way now) (on : IsUnderWay parting way now calls held) (well : now.error ≡ None) (two : way.from ≢ way.to) where
  -- what stands with all handles taken out
  abbrev alone : Stands way on.has now calls []
  alone = none_held way on.has now calls held on.seens on.at on.stands

  abbrev between : Between way.from way.to (Some j.terms.size) way.how on.has way.slices now calls []
  between = between_sized way j.terms.size on.has now calls is.size alone

  -- links of the source's export are its own
  of_source : (link : ℕ) → is_of way.from calls link ≡ true → on.has link ≡ true
  of_source = (links_are_of_sides way.from way.to j.terms.size way.how on.has way.slices now calls between two).0.source

  -- Asking for extents passed each position before the place where it goes on.
  was_passed : (p : ℕ) → p < j.windows.at → WasPassed way.extents j.terms.grain way.from p calls
  was_passed p low = subst (λ (g : ℕ). WasPassed way.extents g way.from p calls) is.grain (on.hears.passed well two j.windows.grain p (is.heard.before p low))

  -- Where no extents are waited for none are asked for.
  pub asks_for_none : j.asked ≡ false → AsksForNone way.from calls
  asks_for_none none =
      let unasked : way.asked ≡ None = is.asked ∙ ap (λ (b : Bool). if b then windows.wanted j.windows else None) none in
      none_are_awaited way.from way.how on.has way.slices now calls (known_of way) (subst (λ (o : Option (ℕ × ℕ)). course.ToldCourse way.how on.has way.slices now calls [] o (known_of way)) unasked alone.told) well of_source

  pub planned_to : ArePlannedTo way.extents j.windows.plan.end way.from j.terms.size j.terms.grain (cells_of j.terms) (way.slices ++ j.windows.plan.slices) calls
  planned_to = whole.planned_to j way now calls is on.has alone well two (on.hears.answered well two) (on.hears.passed well two)

  -- Once all slices are over nothing is under way, and nothing is left.
  abbrev pub full_over : work.IsOver j now → IsFull way.extents j.terms way.from way.to calls
  full_over over =
      let ended = ended_are_begun way.from way.to j.terms.size way.how on.has way.slices now calls between over.rows well two in
      let none : length j.windows.plan.slices ≡ 0 = ap (λ (l : List Slice). length l) over.handed in
      let all = over.planned in
      record {
        begun = way.slices;
        left = j.windows.plan.slices;
        end = j.windows.plan.end;
        planned = planned_to;
        unfinished = 0;
        are = subst (λ (how : How). AreBegun how (dealt_with way.from calls) (dealt_with way.to calls) way.slices 0) is.how ended.0;
        begins = omega (arith, none);
        requests = subst (λ (n : ℕ). AreUnderWay way.from way.to n calls) (omega (arith, none)) ended.1;
        extents = λ less left. absurd (omega (arith, left, all));
        untold = λ left. absurd (omega (arith, left, all));
        asks = inr (asks_for_none over.heard);
      }

-- While slices are copied.
module _ (j : work.Seen) (way : Way) (now : board.Seen) (calls : List wire.Call) (held : List (Held Ticket)) (is : work.IsJob j way now) (full : state.WorksInFull j now) (well : now.error ≡ None) (on : IsOn way now calls held) (written : NoneForWriting (wants_now held)) (two : way.from ≢ way.to) where
  -- extents are awaited of this range
  awaits : (range : ℕ × ℕ) → way.asked ≡ Some range → AreAwaited j.asked now → AsksExtentsOf range way.from calls
  awaits range e awaited =
      quiet_asks way.from way.to way.size way.how on.has way.slices now calls on.seens range (known_of way) on.stands.between
      (subst (λ (o : Option (ℕ × ℕ)). course.ToldCourse way.how on.has way.slices now calls on.seens o (known_of way)) e on.stands.told) well awaited.untold (all_stand held on.seens on.at) (none_writes held on.seens on.at written) on.all two

  -- what is asked for was not told yet
  asked_untold : is_some way.asked ≡ true → now.mapped ≡ false
  asked_untold some = elim j.asked as (λ b. j.asked ≡ b → now.mapped ≡ false) [
    | true ↦ λ asked. full.untold asked
    | false ↦ λ none. absurd (false≢true (sym (ap (λ (o : Option (ℕ × ℕ)). is_some o) (is.asked ∙ ap (λ (b : Bool). if b then windows.wanted j.windows else None) none)) ∙ some))
  ] refl

  -- each position that was told of is known so
  told_reached : (p : ℕ) → WasTold way.from p calls → way.reach p ≡ true
  told_reached =
      told_are_known way.from way.how on.has way.slices now calls on.seens way.asked (known_of way) on.stands.told well asked_untold (all_stand held on.seens on.at) on.all (of_source j way now calls held false is on well two)

  pub window_untold : j.windows.plan.end < j.terms.size → IsUntold way.from (min (j.windows.plan.end + window) j.terms.size - 1) calls
  window_untold left told =
      let ends = is.ends in
      let p : ℕ = min (j.windows.plan.end + window) j.terms.size - 1 in
      let behind : j.windows.plan.end ≤ p = omega (arith, left) in
      let more : p + 1 < windows.window_end j.windows = is.reached.inside p (told_reached p told) behind in
      let same : windows.window_end j.windows ≡ min (j.windows.plan.end + window) j.terms.size = ap (λ (s : ℕ). min (j.windows.plan.end + window) s) ends in
      omega (arith, more, same, left)

  rest_untold : (p : ℕ) → j.windows.at + j.terms.grain ≤ p → IsUntold way.from p calls
  rest_untold p far told =
      let ahead = is.heard.planned in
      let grain = is.grain in
      let low = is.reached.near p (told_reached p told) (omega (arith, far, ahead)) in
      omega (arith, far, low, grain)

  -- a range is wanted only of a window that is left
  pub window_left : is_some (windows.wanted j.windows) ≡ true → j.windows.plan.end < j.terms.size
  window_left some =
      let ends = is.ends in
      let ahead = is.heard.planned in
      let below = wanted_below j.windows some in
      omega (arith, ends, ahead, below)

  -- Extents are awaited: they are asked for of what is left of the window under way.
  pub asks_for_window : is_some (windows.wanted j.windows) ≡ true → AreAwaited j.asked now → AsksForWindow way.extents j.windows.plan.end way.from j.terms.size j.terms.grain calls
  asks_for_window some awaited =
      let ends = is.ends in
      let wanted : windows.wanted j.windows ≡ Some (j.windows.at, windows.window_end j.windows - j.windows.at) = wanted_is j.windows some in
      record {
        at = j.windows.at;
        ahead = is.heard.planned;
        inside = subst (λ (size : ℕ). j.windows.at < min (j.windows.plan.end + window) size) ends (wanted_below j.windows some);
        asks = subst (λ (size : ℕ). AsksExtentsOf (j.windows.at, min (j.windows.plan.end + window) size - j.windows.at) way.from calls) ends
            (awaits (j.windows.at, windows.window_end j.windows - j.windows.at) (is.asked ∙ ap (λ (b : Bool). if b then windows.wanted j.windows else None) awaited.awaited ∙ wanted) awaited);
        untold = rest_untold;
        blocks = is.heard.blocks;
        steps = is.heard.steps ∙ ap (λ (g : ℕ). j.windows.plan.end + is.heard.blocks * g) is.grain;
        passed = λ p from_start low. was_passed j way now calls held false is on well two p low;
      }

  abbrev pub full_copying : IsFull way.extents j.terms way.from way.to calls
  full_copying = record {
    begun = way.slices;
    left = j.windows.plan.slices;
    end = j.windows.plan.end;
    planned = planned_to j way now calls held false is on well two;
    unfinished = length now.rows;
    are = subst (λ (how : How). AreBegun how (dealt_with way.from calls) (dealt_with way.to calls) way.slices (length now.rows)) is.how
        (quiet_are_begun way.from way.to way.size way.how on.has way.slices now calls on.seens on.stands.between well (all_stand held on.seens on.at) (none_writes held on.seens on.at written) on.all two full.requests);
    begins = full.slices;
    requests = subst (λ (n : ℕ). AreUnderWay way.from way.to n calls) (full.requests ∙ full.slices)
        (quiet_counts way.from way.to way.size way.how on.has way.slices now calls on.seens on.stands.between well (all_stand held on.seens on.at) (none_writes held on.seens on.at written) on.all two);
    extents = λ less left.
        let ends = is.ends in
        let some = full.left (omega (arith, left, ends)) in
        asks_for_window some (full.extents less some);
    untold = window_untold;
    asks = elim j.asked as (λ b. j.asked ≡ b → ((j.windows.plan.end < j.terms.size) × AsksForWindow way.extents j.windows.plan.end way.from j.terms.size j.terms.grain calls) ⊎ AsksForNone way.from calls) [
      | true ↦ λ asked. inl (window_left (is.onward.some asked), asks_for_window (is.onward.some asked) (record { awaited = asked; untold = full.untold asked }))
      | false ↦ λ none. inr (asks_for_none j way now calls held false is on well two none)
    ] refl;
  }

pub copies_or : (phase : Phase) → (phase ≡ Copying) ⊎ (phase ≢ Copying)
copies_or Copying = inl refl
copies_or Flushing = inr (λ e. cc e)
copies_or Parting = inr (λ e. cc e)

-- Whatever the copy is at.
is_full : (j : work.Seen) (way : Way) (now : board.Seen) (calls : List wire.Call) (held : List (Held Ticket)) → work.IsJob j way now → (j.phase ≡ Copying → state.WorksInFull j now) → now.error ≡ None → IsUnderWay (work.is_parting j.phase) way now calls held → NoneForWriting (wants_now held) →
    way.from ≢ way.to → IsFull way.extents j.terms way.from way.to calls
is_full j way now calls held is busy well on written two = elim (copies_or j.phase) [
  | inl copying ↦ full_copying j way now calls held is (busy copying) well (subst (λ (p : Bool). IsUnderWay p way now calls held) (ap work.is_parting copying) on) written two
  | inr past ↦ full_over j way now calls held (work.is_parting j.phase) is on well two (is.over past)
]

pub way_all_asked : (copy : copier.Seen) (start told : Option (List wire.Call)) → copy.board.error ≡ None → IsBusy copy.job copy.board → IsOnItsWay start told copy → copy.from ≢ copy.to → HasAllAsked start told copy
way_all_asked copy start told well busy on two = record {
  on = λ written.
      let apart : on.way.from ≢ on.way.to = λ e. two (sym on.from ∙ e ∙ on.to) in
      settled_with (λ source destination calls. IsFullBy copy.options copy.from copy.to source destination calls) copy.options copy.from copy.to start told on.job.terms on.settled
      (told_as start told
      (λ calls is. record {
        terms = on.job.terms;
        settled = on.settled.first.settled;
        limited = on.limited;
        full = subst (λ (e : Bool). IsFull e on.job.terms copy.from copy.to calls) on.extents
            (subst (λ (t : Place). IsFull on.way.extents on.job.terms copy.from t calls) on.to
            (subst (λ (f : Place). IsFull on.way.extents on.job.terms f on.way.to calls) on.from (is_full on.job on.way copy.board calls copy.held on.is (busy.full on.job on.there) well is written apart)));
      })
      on.on);
}
