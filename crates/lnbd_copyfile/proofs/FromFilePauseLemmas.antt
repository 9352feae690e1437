-- At each pause of a copy from a file to an export as much is under way as may be.
use Rattle.std.proofs.Common.{◌≡◌, ◌≢◌, ◌≤◌, inl, inr, ℕ, false, List, [], ◌∷◌, length, Option, None, refl, ap, sym, subst, ◌∙◌, arith}
use Rattle.std.proofs.lemmas.Bool.{false≢true}
use Rattle.lnbd_link.specs.Call as wire
use Rattle.lnbd_link.specs.Part.{Adds}
use Rattle.lnbd_link.specs.declared.wires.Want.{Want}
use Rattle.lnbd_model.specs.declared.target.Place.{Place}
use Rattle.lnbd_model.specs.declared.target.Target.{Target}
use Rattle.lnbd_plan.specs.declared.options.CopyOptions.{CopyOptions}
use Rattle.lnbd_poll.specs.Held.{wants_now}
use Rattle.lnbd_board.specs.declared.row.Row.{Row}
use Rattle.lnbd_board.specs.Files as board
use Rattle.lnbd_course.specs.Asks.{GrewBy}
use Rattle.lnbd_course.specs.Far.{FromFile}
use Rattle.lnbd_conduct.specs.declared.terms.Terms.{Terms}
use Rattle.lnbd_conduct.specs.Told.{Told}
use Rattle.lnbd_conduct.specs.Waiting.{NoneForWriting}
use Rattle.lnbd_usage.specs.Links.{targets}
use Rattle.lnbd_usage.specs.Pauses.{AtEachPause}
use Rattle.lnbd_copy.specs.Lasting.{Lasts}
use Rattle.lnbd_copy.specs.Links.{HaveSameLinks, LinksGo}
use Rattle.lnbd_copy.specs.Pauses.{Unpaused}
use Rattle.lnbd_copy.specs.Way.{Stand}
use Rattle.lnbd_copy.proofs.EndLemmas.{told_part}
use Rattle.lnbd_copy.proofs.LastLemmas.{told_later}
use Rattle.lnbd_copy.proofs.LinkLemmas.{links_same, links_then}
use Rattle.lnbd_copy.proofs.PauseLemmas.{no_pauses, one_more, unpaused_then}
use Rattle.lnbd_copy.proofs.PausedLemmas.{told_stays}
use Rattle.lnbd_copy.proofs.SettledLemmas.{same_since, told_both}
use Rattle.lnbd_copy.proofs.TurnLemmas.{since_on, told_begins, told_map}
use Rattle.lnbd_store.specs.Shelf.{Shelf}
use Rattle.lnbd_connections.specs.Steps as steps
use Rattle.lnbd_connections.specs.Unready.{AwaitsMore, IsUnready, KeepsAwaiting, PausesUnready}
use Rattle.lnbd_connections.proofs.UnreadyLemmas.{awaits_first}
use Rattle.lnbd_copyfile.specs.declared.from_file_job.Phase.{Phase}
use Rattle.lnbd_copyfile.specs.declared.from_file_job.Phase.TheVariants.{Copying, Flushing, Parting}
use Rattle.lnbd_copyfile.specs.FromFile.{GoesFurther, HasNotBegun, IsGoing, Seen, new_way}
use Rattle.lnbd_copyfile.specs.FromFileFull.{HasAllUnderWayFrom, IsFullFrom, IsFullPauseFrom, PausesAreFullFrom}
use Rattle.lnbd_copyfile.specs.FromFileJob as work
use Rattle.lnbd_copyfile.specs.FromFilePauses.{GoesFull, IsAwaited, IsFullSoFar, PausesFull, RestsFull}
use Rattle.lnbd_copyfile.specs.Sent.{HasNothingToSend}
use Rattle.lnbd_copyfile.specs.Shares.{AreSettledFrom}
use Rattle.lnbd_copyfile.specs.SharingFrom.{HasTermsFrom}
use Rattle.lnbd_copyfile.specs.ToFilePauses.{HoldsAll}
use Rattle.lnbd_copyfile.proofs.AllHeldLemmas.{all_held}
use Rattle.lnbd_copyfile.proofs.FromFileLemmas.{made_first}
use Rattle.lnbd_copyfile.proofs.FromFileFullLemmas.{full_copying_from, full_over_from}
use Rattle.lnbd_copyfile.proofs.ToFilePauseLemmas.{holds_on, same_count}

-- what the first connection was told was told before
pub terms_last : (options : CopyOptions) (to : Place) (start a b : Option (List wire.Call)) (terms terms2 : Terms) → Lasts a b → terms2 ≡ terms → HasTermsFrom options to start a terms →
    HasTermsFrom options to start b terms2
terms_last options to start a b terms terms2 lasts same had = record {
  destination = had.destination;
  shown = told_later start a b lasts had.shown;
  settled = subst (λ (t : Terms). AreSettledFrom options had.destination t) (sym same) had.settled;
}

-- Steps.

pub full_none_from : (file : ℕ) (job : work.Seen) (told : Option (List wire.Call)) (copy : Seen) (shelf : Option Shelf) (given : ℕ) → GoesFull file job job told told copy copy shelf shelf given given
full_none_from file job told copy shelf given = record { on = λ options to start opened before so. so }

pub pauses_unpaused_from : (file : ℕ) (job : work.Seen) (a b : Option (List wire.Call)) (copy : Seen) (shelf : Option Shelf) (given : ℕ) → Unpaused a b → PausesFull file job a b copy shelf given
pauses_unpaused_from file job a b copy shelf given unpaused = record { on = λ options to start opened before so. told_stays start a b unpaused so.pauses }

pub pauses_so_from : (file : ℕ) (job job2 : work.Seen) (a b c : Option (List wire.Call)) (copy copy2 : Seen) (x y : Option Shelf) (t u : ℕ) → GoesFull file job job2 a b copy copy2 x y t u → c ≡ b →
    PausesFull file job a c copy x t
pauses_so_from file job job2 a b c copy copy2 x y t u one same = record {
  on = λ options to start opened before so.
      subst (λ (l : Option (List wire.Call)). Told start l (PausesAreFullFrom options to)) (sym same) (one.on options to start opened before so).pauses;
}

-- One turn, with what was done behind it.

module _ (file : ℕ) (j j1 : work.Seen) (c0 c1 c2 c3 : Seen) (t0 t1 t3 : Option (List wire.Call)) (x y : Option Shelf) (t u : ℕ)
    (goes : steps.Goes c0.board c0.held t0 c1.board c1.held t1) (links : Stand c0.held → LinksGo [] c0.held t0 c1.held t1) (turned : Stand c0.held → Unpaused t0 t1)
    (acted : HaveSameLinks c1.held c2.held) (parting : j.phase ≡ Parting → j1.phase ≡ Parting)
    (same_terms : j1.terms ≡ j.terms) (ends : j1.windows.size ≡ j.windows.size) (most : length c1.board.rows ≤ j.terms.limit → length c2.board.rows ≤ j.terms.limit)
    (stays : j1.phase ≢ Parting → (c3 ≡ c2) × (t3 ≡ t1)) (left : LinksGo [] c2.held t1 c3.held t3)
    (unpaused : Unpaused t1 t3) (further : GoesFurther file j j1 t0 t3 c0 c3 x y t u) where
  all_links : Stand c0.held → LinksGo [] c0.held t0 c3.held t3
  all_links stand = links_then c0.held c2.held c3.held t0 t1 t3 (links_then c0.held c1.held c2.held t0 t1 t1 (links stand) (links_same c1.held c2.held t1 acted)) left

  pub full_turned_from : GoesFull file j j1 t0 t3 c0 c3 x y t u
  full_turned_from = record {
    on = λ options to start opened before so.
        let stand = so.going.stand in
        record {
          going = further.on to start opened before so.going;
          holds = λ none.
              holds_on c0.held c3.held start t0 t3 (all_links stand) (ap (λ (s : Seen). length s.held) (stays none).0 ∙ same_count c1.held c2.held acted ∙ goes.many stand)
              (so.holds (λ parts. none (parting parts)));
          ends = ends ∙ so.ends ∙ sym (ap (λ (s : Terms). s.size) same_terms);
          terms = terms_last options to start t0 t3 j.terms j1.terms (all_links stand).lasts same_terms so.terms;
          within = λ none. (
              let rows = (goes.filed stand).many in
              let within = so.within (λ parts. none (parting parts)) in
              let few = most (omega (arith, rows, within)) in
              let left : length c3.board.rows ≡ length c2.board.rows = ap (λ (s : Seen). length s.board.rows) (stays none).0 in
              let limit : j1.terms.limit ≡ j.terms.limit = ap (λ (s : Terms). s.limit) same_terms in
              omega (arith, few, left, limit));
          pauses = told_stays start t0 t3 (unpaused_then t0 t1 t3 (turned stand) unpaused) so.pauses;
        };
  }

  -- Where nothing happened in it as much is under way as may be.
  module _ (well : c3.board.error ≡ None) (nothing : j1.phase ≡ Copying → HasNothingToSend j1 c2.board) where
    flushing_not : Flushing ≡ Copying → ⊥
    flushing_not e = cc

    parting_not : Parting ≡ Copying → ⊥
    parting_not e = cc

    copying_not : Copying ≡ Parting → ⊥
    copying_not e = cc

    over_so : (options : CopyOptions) (to : Place) (start : Option (List wire.Call)) (opened : Option Shelf) (before : ℕ) → j1.phase ≢ Copying →
        IsFullSoFar options file to start t3 j1 c3 opened y before u → Told start t3 (λ calls. IsFullFrom j1.terms to calls)
    over_so options to start opened before not new =
        let g = new.going in
        told_map start t3 (λ calls on. subst (λ (p : Place). IsFullFrom j1.terms p calls) g.at (full_over_from j1 g.zero g.way c3.board calls c3.held g.read g.is on well (g.is.over not))) g.on

    under_way : (options : CopyOptions) (to : Place) (start : Option (List wire.Call)) (opened : Option Shelf) (before : ℕ) (p : Phase) → j1.phase ≡ p → NoneForWriting (wants_now c3.held) →
        IsFullSoFar options file to start t3 j1 c3 opened y before u → Told start t3 (λ calls. IsFullFrom j1.terms to calls)
    under_way options to start opened before Copying e quiet new =
        let g = new.going in
        let none : j1.phase ≢ Parting = λ parts. copying_not (sym e ∙ parts) in
        let holds = new.holds none in
        let many = holds.many in
        let same : c2.board ≡ c3.board = sym (ap (λ (s : Seen). s.board) (stays none).0) in
        told_map start t3
        (λ calls all. subst (λ (p : Place). IsFullFrom j1.terms p calls) g.at
        (full_copying_from j1 g.zero g.way c3.board calls c3.held g.read g.is all.0 well (subst (λ (s : board.Seen). HasNothingToSend j1 s) same (nothing e)) (new.within none) quiet
        (all_held calls c3.held all.0.seens all.0.at all.1.0 (let to_ : length (targets calls) ≡ length holds.to = ap (λ (l : List Target). length l) all.1.1 in omega (arith, to_, many)))))
        (told_both start t3 g.on (told_both start t3 holds.links holds.connects))
    under_way options to start opened before Flushing e quiet new = over_so options to start opened before (λ copying. flushing_not (sym e ∙ copying)) new
    under_way options to start opened before Parting e quiet new = over_so options to start opened before (λ copying. parting_not (sym e ∙ copying)) new

    pub rests_turned_from : RestsFull file j t0 t3 c0 c3 x t
    rests_turned_from = record {
      on = λ options to start opened before so quiet.
          let new = full_turned_from.on options to start opened before so in
          told_map start t3 (λ calls both. record { destination = new.terms.destination; told = both.1; terms = j1.terms; settled = new.terms.settled; full = both.0 })
          (told_both start t3 (under_way options to start opened before j1.phase refl quiet new) new.terms.shown);
    }

-- The pause behind it, where nothing happened.

paused_full : (options : CopyOptions) (to : Place) (start a b : Option (List wire.Call)) (wants : List Want) → Adds a b (wire.Pause wants) →
    (NoneForWriting wants → Told start a (HasAllUnderWayFrom options to)) →
    Told start a (PausesAreFullFrom options to) → Told start b (PausesAreFullFrom options to)
paused_full options to start a b wants adds asked told = record {
  since = λ all is.
      let added = adds all is in
      let since = told.since added.0 added.1 in
      since_on start added.0 all (wire.Pause wants ∷ []) added.2 since
      (one_more (IsFullPauseFrom options to) since.calls wants
      (λ none. let now = (asked none).since added.0 added.1 in inr (subst (HasAllUnderWayFrom options to) (same_since start added.0 now since) now.is)) since.is);
}

module _ (file : ℕ) (j j1 : work.Seen) (c0 c3 c4 : Seen) (t0 t3 t4 : Option (List wire.Call)) (x y : Option Shelf) (t u : ℕ) where
  pub full_paused : GoesFull file j j1 t0 t3 c0 c3 x y t u → RestsFull file j t0 t3 c0 c3 x t → steps.Goes c3.board c3.held t3 c4.board c4.held t4 → c4.board ≡ c3.board →
      LinksGo [] c3.held t3 c4.held t4 → Adds t3 t4 (wire.Pause (wants_now c3.held)) → GoesFurther file j j1 t0 t4 c0 c4 x y t u → GoesFull file j j1 t0 t4 c0 c4 x y t u
  full_paused full rests goes same links paused further = record {
    on = λ options to start opened before so.
        let new = full.on options to start opened before so in
        record {
          going = further.on to start opened before so.going;
          holds = λ none. holds_on c3.held c4.held start t3 t4 links (goes.many new.going.stand) (new.holds none);
          ends = new.ends;
          terms = terms_last options to start t3 t4 j1.terms j1.terms links.lasts refl new.terms;
          within = λ none. (
              let within = new.within none in
              let rows : length c4.board.rows ≡ length c3.board.rows = ap (λ (s : board.Seen). length s.rows) same in
              omega (arith, within, rows));
          pauses = paused_full options to start t3 t4 (wants_now c3.held) paused (λ quiet. rests.on options to start opened before so quiet) new.pauses;
        };
  }

-- From the beginning.

-- until all are ready a connection negotiates still
pub unready_full_from : (options : CopyOptions) (to : Place) (start told : Option (List wire.Call)) → Told start told (AtEachPause (IsUnready false to)) → Told start told (PausesAreFullFrom options to)
unready_full_from options to start told unready = told_map start told (λ calls each before after wants are none. inl (each before after wants are none)) unready

-- before any is made
pub first_unready : (to : Place) (start told : Option (List wire.Call)) → Unpaused start told → Told start told (AtEachPause (IsUnready false to))
first_unready to start told unpaused = told_stays start start told unpaused (told_begins start (no_pauses (IsUnready false to)))

-- while connections are made
module _ (to : Place) (start a b : Option (List wire.Call)) (copy copy2 : Seen) where
  pub awaits_more : AwaitsMore to false copy.board copy.held a copy2.board copy2.held b → IsAwaited to start a copy → IsAwaited to start b copy2
  awaits_more more was = record {
    how = was.how;
    so = more.on false (FromFile []) (new_way to None was.how) start refl (λ none. refl) (λ asks. absurd (false≢true asks)) was.so;
  }

  pub awaits_settled : KeepsAwaiting copy.board copy.held a copy2.board copy2.held b → IsAwaited to start a copy → IsAwaited to start b copy2
  awaits_settled keeps was = record { how = was.how; so = keeps.on false (FromFile []) (new_way to None was.how) start was.so }

pub unready_settled : (to : Place) (start a b : Option (List wire.Call)) (copy : Seen) → PausesUnready copy.board copy.held a b → IsAwaited to start a copy →
    Told start b (AtEachPause (IsUnready false to))
unready_settled to start a b copy pauses was = pauses.on false (FromFile []) (new_way to None was.how) start was.so

-- the first one
pub awaits_met : (to : Place) (start b : Option (List wire.Call)) (copy mid : Seen) → HasNotBegun copy → AwaitsMore to false copy.board copy.held start mid.board mid.held b → IsAwaited to start b mid
awaits_met to start b copy mid new more =
    let made = made_first to start copy new in
    awaits_more to start start b copy mid more
    (record { how = made.how; so = awaits_first false (FromFile []) (new_way to None made.how) start copy.board copy.held new.held made.stand made.on })

-- All is ready.
pub full_begun : (options : CopyOptions) (file : ℕ) (to : Place) (start told : Option (List wire.Call)) (job : work.Seen) (copy : Seen) (shelf : Option Shelf) (given : ℕ) →
    IsGoing to file job start told copy shelf shelf given given → HoldsAll start told copy.held → job.windows.size ≡ job.terms.size → HasTermsFrom options to start told job.terms →
    copy.board.rows ≡ [] → Told start told (AtEachPause (IsUnready false to)) → IsFullSoFar options file to start told job copy shelf shelf given given
full_begun options file to start told job copy shelf given going holds ends terms empty unready = record {
  going = going;
  holds = λ none. holds;
  ends = ends;
  terms = terms;
  within = λ none. (let none : length copy.board.rows ≡ 0 = ap (λ (l : List (ℕ × Row)). length l) empty in omega (arith, none));
  pauses = unready_full_from options to start told unready;
}

-- The part that the transcript grew by is so.
pub full_grew_from : (options : CopyOptions) (to : Place) (a b c : Option (List wire.Call)) → Told a b (PausesAreFullFrom options to) → Unpaused b c → GrewBy (PausesAreFullFrom options to) a c
full_grew_from options to a b c told unpaused = told_part a c (told_stays a b c unpaused told)
