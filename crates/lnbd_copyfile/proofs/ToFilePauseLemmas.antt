-- At each pause of a copy from an export to a file as much is under way as may be.
use Rattle.std.proofs.Common.{◌≡◌, ◌≤◌, ◌+◌, inl, inr, ℕ, Bool, true, false, List, [], ◌∷◌, ◌++◌, length, Option, None, Result, Ok}
use Rattle.std.proofs.Common.{Err, replicate, refl, ap, sym, subst, ◌∙◌, arith, append-nil, length-append}
use Rattle.std.proofs.lemmas.Bool.{false≢true}
use Rattle.std.specs.Prelude.{OnOk}
use Rattle.std.proofs.Math.ListN.{length-replicate}
use Rattle.lnbd_link.specs.Call as wire
use Rattle.lnbd_link.specs.Part.{Adds}
use Rattle.lnbd_link.specs.declared.wires.Want.{Want}
use Rattle.lnbd_model.specs.declared.target.Place.{Place}
use Rattle.lnbd_model.specs.declared.target.Target.{Target}
use Rattle.lnbd_plan.specs.declared.options.CopyOptions.{CopyOptions}
use Rattle.lnbd_poll.specs.Held.{Held, wants_now}
use Rattle.lnbd_board.specs.declared.how.How.{How}
use Rattle.lnbd_board.specs.declared.row.Row.{Row}
use Rattle.lnbd_board.specs.declared.ticket.Ticket.{Ticket}
use Rattle.lnbd_board.specs.Files as board
use Rattle.lnbd_board.specs.Rows.{Stands}
use Rattle.lnbd_course.specs.Asks.{GrewBy}
use Rattle.lnbd_course.specs.Far.{FarStood, ToFile}
use Rattle.lnbd_conduct.specs.declared.terms.Terms.{Terms}
use Rattle.lnbd_conduct.specs.Links.{ConnectTo}
use Rattle.lnbd_conduct.specs.Told.{Told}
use Rattle.lnbd_conduct.specs.Waiting.{NoneForWriting}
use Rattle.lnbd_usage.specs.Links.{targets}
use Rattle.lnbd_usage.specs.Pauses.{AtEachPause}
use Rattle.lnbd_copy.specs.Lasting.{Lasts}
use Rattle.lnbd_copy.specs.Links.{HaveSameLinks, LinksGo}
use Rattle.lnbd_copy.specs.Pauses.{Unpaused}
use Rattle.lnbd_copy.specs.Way.{Stand}
use Rattle.lnbd_copy.proofs.EndLemmas.{told_part}
use Rattle.lnbd_copy.proofs.LastLemmas.{at_once, told_later}
use Rattle.lnbd_copy.proofs.LinkLemmas.{links_begin, links_same, links_then}
use Rattle.lnbd_copy.proofs.PauseLemmas.{one_more, unpaused_then}
use Rattle.lnbd_copy.proofs.PausedLemmas.{told_stays}
use Rattle.lnbd_copy.proofs.SettledLemmas.{same_since, told_both}
use Rattle.lnbd_copy.proofs.TurnLemmas.{since_on, told_begins, told_map}
use Rattle.lnbd_store.specs.Shelf.{Shelf}
use Rattle.lnbd_connections.specs.Steps as steps
use Rattle.lnbd_connections.specs.Unready.{AwaitsAll, AwaitsMore, IsUnready, KeepsAwaiting}
use Rattle.lnbd_connections.specs.Uses.{Uses}
use Rattle.lnbd_connections.proofs.UnreadyLemmas.{awaits_first}
use Rattle.lnbd_copyfile.specs.Fullness.{StaysWell}
use Rattle.lnbd_copyfile.specs.Jobs.{Seen}
use Rattle.lnbd_copyfile.specs.ToFile.{GoesFurther, IsBeginning, IsCopying, IsSetUp, LeavesIf, beginning}
use Rattle.lnbd_copyfile.specs.ToFileFull.{HasAllUnderWayTo, IsFullPauseTo, IsFullTo, PausesAreFullTo}
use Rattle.lnbd_copyfile.specs.ToFileJob.{HasNothingToDo}
use Rattle.lnbd_copyfile.specs.Shares.{AreSettledTo}
use Rattle.lnbd_copyfile.specs.Sharing.{FindsTermsTo}
use Rattle.lnbd_copyfile.specs.ToFilePauses.{GoesFull, HasSettledTerms, HoldsAll, IsFullSoFar, IsReadyFull, PausesFull, RestsFull}
use Rattle.lnbd_copyfile.proofs.AllHeldLemmas.{all_held, count_links}
use Rattle.lnbd_copyfile.proofs.LinkClauses.{shown_told}
use Rattle.lnbd_copyfile.proofs.ToFileFullLemmas.{full_copying, full_over}
use Rattle.lnbd_copyfile.proofs.ToFileRunLemmas.{further_goes}

-- Handles are held still.

module _ (held held2 : List (Held Ticket)) (start a b : Option (List wire.Call)) where
  pub holds_on : LinksGo [] held a held2 b → length held2 ≡ length held → HoldsAll start a held → HoldsAll start b held2
  holds_on links many was = record {
    to = was.to;
    links = links.on start was.links;
    connects = subst (λ (l : List Target). Told start b (ConnectTo l)) (append-nil was.to) (links.connects start was.to was.connects);
    many = many ∙ was.many;
  }

  -- what the first connection was told was told before
  pub terms_on : (options : CopyOptions) (at : Place) (terms terms2 : Terms) → Lasts a b → terms2 ≡ terms → HasSettledTerms options at start a terms → HasSettledTerms options at start b terms2
  terms_on options at terms terms2 lasts same had = record {
    source = had.source;
    shown = told_later start a b lasts had.shown;
    settled = subst (λ (t : Terms). AreSettledTo options had.source t) (sym same) had.settled;
  }

pub same_count : (held held2 : List (Held Ticket)) → HaveSameLinks held held2 → length held2 ≡ length held
same_count held held2 same = sym (count_links held2) ∙ ap (λ (l : List ℕ). length l) same.same ∙ count_links held

-- Steps.

pub full_none : (file : ℕ) (job : Seen) (now : board.Seen) (held : List (Held Ticket)) (told : Option (List wire.Call)) (shelf : Option Shelf) (taken : ℕ) →
    GoesFull file job now held told shelf taken job now held told shelf taken
full_none file job now held told shelf taken = record { on = λ options at start was had so. so }

pub full_then : (file : ℕ) (job job2 job3 : Seen) (now now2 now3 : board.Seen) (held held2 held3 : List (Held Ticket)) (a b c : Option (List wire.Call)) (x y z : Option Shelf) (t u v : ℕ) →
    GoesFull file job now held a x t job2 now2 held2 b y u → GoesFull file job2 now2 held2 b y u job3 now3 held3 c z v → GoesFull file job now held a x t job3 now3 held3 c z v
full_then file job job2 job3 now now2 now3 held held2 held3 a b c x y z t u v one two = record {
  on = λ options at start was had so. two.on options at start was had (one.on options at start was had so);
}

pub pauses_unpaused : (file : ℕ) (job : Seen) (now : board.Seen) (held : List (Held Ticket)) (a b : Option (List wire.Call)) (shelf : Option Shelf) (taken : ℕ) → Unpaused a b →
    PausesFull file job now held a shelf taken b
pauses_unpaused file job now held a b shelf taken unpaused = record { on = λ options at start was had so. told_stays start a b unpaused so.pauses }

pub pauses_went : (file : ℕ) (job job2 : Seen) (now now2 : board.Seen) (held held2 : List (Held Ticket)) (a b c : Option (List wire.Call)) (x y : Option Shelf) (t u : ℕ) →
    GoesFull file job now held a x t job2 now2 held2 b y u → PausesFull file job2 now2 held2 b y u c → PausesFull file job now held a x t c
pauses_went file job job2 now now2 held held2 a b c x y t u one two = record { on = λ options at start was had so. two.on options at start was had (one.on options at start was had so) }

pub pauses_so : (file : ℕ) (job job2 : Seen) (now now2 : board.Seen) (held held2 : List (Held Ticket)) (a b c : Option (List wire.Call)) (x y : Option Shelf) (t u : ℕ) →
    GoesFull file job now held a x t job2 now2 held2 b y u → c ≡ b → PausesFull file job now held a x t c
pauses_so file job job2 now now2 held held2 a b c x y t u one same = record {
  on = λ options at start was had so. subst (λ (l : Option (List wire.Call)). Told start l (PausesAreFullTo options at)) (sym same) (one.on options at start was had so).pauses;
}

-- One turn, with what was done behind it.

module _ (file : ℕ) (j j1 : Seen) (b0 b1 b2 b3 : board.Seen) (h0 h1 h2 h3 : List (Held Ticket)) (t0 t1 t3 : Option (List wire.Call)) (x y : Option Shelf) (t u : ℕ)
    (goes : steps.Goes b0 h0 t0 b1 h1 t1) (links : Stand h0 → LinksGo [] h0 t0 h1 t1) (turned : Stand h0 → Unpaused t0 t1) (acted : HaveSameLinks h1 h2) (parting : j.is_parting ≡ true →
    j1.is_parting ≡ true)
    (same_terms : j1.terms ≡ j.terms) (most : length b1.rows ≤ j.terms.limit → length b2.rows ≤ j.terms.limit) (leaves : LeavesIf j1.is_parting b2 h2 t1 b3 h3 t3) (left : LinksGo [] h2 t1 h3 t3)
    (unpaused : Unpaused t1 t3) (further : GoesFurther file j b0 h0 t0 x t j1 b3 h3 t3 y u) where
  all_links : Stand h0 → LinksGo [] h0 t0 h3 t3
  all_links stand = links_then h0 h2 h3 t0 t1 t3 (links_then h0 h1 h2 t0 t1 t1 (links stand) (links_same h1 h2 t1 acted)) left

  rows_left : (p : Bool) → LeavesIf p b2 h2 t1 b3 h3 t3 → length b3.rows ≡ length b2.rows
  rows_left true leaves = leaves.filed.many
  rows_left false same = ap (λ (s : board.Seen). length s.rows) same.0

  held_left : (p : Bool) → p ≡ false → LeavesIf p b2 h2 t1 b3 h3 t3 → length h3 ≡ length h2
  held_left true e leaves = absurd (false≢true (sym e))
  held_left false e same = ap (λ (l : List (Held Ticket)). length l) same.1

  not_before : (p : Bool) → j.is_parting ≡ p → j1.is_parting ≡ false → j.is_parting ≡ false
  not_before true e none = absurd (false≢true (sym none ∙ parting e))
  not_before false e none = e

  pub full_turned : GoesFull file j b0 h0 t0 x t j1 b3 h3 t3 y u
  full_turned = record {
    on = λ options at start was had so.
        let stand = so.copying.stand in
        record {
          copying = further.on at start was had so.copying;
          holds = λ none.
              holds_on h0 h3 start t0 t3 (all_links stand) (held_left j1.is_parting none leaves ∙ same_count h1 h2 acted ∙ goes.many stand) (so.holds (not_before j.is_parting refl none));
          terms = terms_on h0 h3 start t0 t3 options at j.terms j1.terms (all_links stand).lasts same_terms so.terms;
          within = (
              let rows = (goes.filed stand).many in
              let within = so.within in
              let few = most (omega (arith, rows, within)) in
              let left = rows_left j1.is_parting leaves in
              let limit = ap (λ (s : Terms). s.limit) same_terms in
              omega (arith, few, left, limit));
          pauses = told_stays start t0 t3 (unpaused_then t0 t1 t3 (turned stand) unpaused) so.pauses;
        };
  }

  -- Where nothing happened in it as much is under way as may be.
  module _ (well : b1.error ≡ None) (stays : StaysWell b1.how b1 b2) (board_same : b3 ≡ b2) (told_same : t3 ≡ t1) (nothing : j1.is_parting ≡ false → HasNothingToDo j1 b3) where
    no_error : (at : Place) (start : Option (List wire.Call)) (was : Option Shelf) (had : ℕ) → IsCopying file at start t0 j b0 h0 was x had t → Told start t3 (λ calls. b3.error ≡ None)
    no_error at start was had c =
        subst (λ (s : Option (List wire.Call)). Told start s (λ calls. b3.error ≡ None)) (sym told_same)
        (told_map start t1
        (λ calls on.
        let s : FarStood (ToFile c.made) c.way.how c.way.slices b1 on.stands.course.histories = on.stands.course.stood.stood in
        let how : c.way.how ≡ b1.how = c.job_.how ∙ sym ((goes.filed c.stand).how ∙ c.job_.writes) in
        ap (λ (s : board.Seen). s.error) board_same
        ∙ stays.on c.way.slices s.asked c.made (subst (λ (h : How). Stands h c.way.slices b1.rows s.asked c.made) how (s.stands well)) well)
        (goes.on (ToFile c.made) c.way start c.stand c.on))

    under_way : (options : CopyOptions) (at : Place) (start : Option (List wire.Call)) (was : Option Shelf) (had : ℕ) (p : Bool) → j1.is_parting ≡ p → NoneForWriting (wants_now h3) →
        IsFullSoFar options file at start t0 j b0 h0 was x had t → IsFullSoFar options file at start t3 j1 b3 h3 was y had u → Told start t3 (λ calls. IsFullTo j1.terms at calls)
    under_way options at start was had true e quiet so new =
        let c = new.copying in
        told_map start t3 (λ calls both. subst (λ (p : Place). IsFullTo j1.terms p calls) c.place (full_over j1 c.way b3 calls h3 c.made c.job_ both.0 both.1 (c.job_.over e)))
        (told_both start t3 c.on (no_error at start was had so.copying))
    under_way options at start was had false e quiet so new =
        let c = new.copying in
        let holds = new.holds e in
        let many = holds.many in
        told_map start t3
        (λ calls all. subst (λ (p : Place). IsFullTo j1.terms p calls) c.place
        (full_copying j1 c.way b3 calls h3 c.made c.job_ all.0 all.1.0 (nothing e) new.within quiet
        (all_held calls h3 all.0.seens all.0.at all.1.1.0 (let to : length (targets calls) ≡ length holds.to = ap (λ (l : List Target). length l) all.1.1.1 in omega (arith, to, many)))))
        (told_both start t3 c.on (told_both start t3 (no_error at start was had so.copying) (told_both start t3 holds.links holds.connects)))

    pub rests_turned : RestsFull file j b0 h0 t0 x t h3 t3
    rests_turned = record {
      on = λ options at start was had so quiet.
          let new = full_turned.on options at start was had so in
          told_map start t3 (λ calls both. record { source = new.terms.source; told = both.1; terms = j1.terms; settled = new.terms.settled; full = both.0 })
          (told_both start t3 (under_way options at start was had j1.is_parting refl quiet so new) new.terms.shown);
    }

-- The pause behind it, where nothing happened.

paused_full : (options : CopyOptions) (at : Place) (start a b : Option (List wire.Call)) (wants : List Want) → Adds a b (wire.Pause wants) →
    (NoneForWriting wants → Told start a (HasAllUnderWayTo options at)) →
    Told start a (PausesAreFullTo options at) → Told start b (PausesAreFullTo options at)
paused_full options at start a b wants adds asked told = record {
  since = λ all is.
      let added = adds all is in
      let since = told.since added.0 added.1 in
      since_on start added.0 all (wire.Pause wants ∷ []) added.2 since
      (one_more (IsFullPauseTo options at) since.calls wants
      (λ none. let now = (asked none).since added.0 added.1 in inr (subst (HasAllUnderWayTo options at) (same_since start added.0 now since) now.is)) since.is);
}

module _ (file : ℕ) (j j1 : Seen) (b0 b3 : board.Seen) (h0 h3 h4 : List (Held Ticket)) (t0 t3 t4 : Option (List wire.Call)) (x y : Option Shelf) (t u : ℕ) where
  pub full_rested : (happened : Bool) → GoesFull file j b0 h0 t0 x t j1 b3 h3 t3 y u → (happened ≡ false → RestsFull file j b0 h0 t0 x t h3 t3) → steps.Goes b3 h3 t3 b3 h4 t4 →
      LinksGo [] h3 t3 h4 t4 →
      (happened ≡ false → Adds t3 t4 (wire.Pause (wants_now h3))) → (happened ≡ true → t4 ≡ t3) → GoesFull file j b0 h0 t0 x t j1 b3 h4 t4 y u
  full_rested happened full rests goes links paused same = record {
    on = λ options at start was had so.
        let new = full.on options at start was had so in
        record {
          copying = (further_goes file j1 b3 b3 h3 h4 t3 t4 y u goes).on at start was had new.copying;
          holds = λ none. holds_on h3 h4 start t3 t4 links (goes.many new.copying.stand) (new.holds none);
          terms = terms_on h3 h4 start t3 t4 options at j1.terms j1.terms links.lasts refl new.terms;
          within = new.within;
          pauses = go options at start was had so new happened refl;
        };
  }
    where
      go : (options : CopyOptions) (at : Place) (start : Option (List wire.Call)) (was : Option Shelf) (had : ℕ) → IsFullSoFar options file at start t0 j b0 h0 was x had t →
          IsFullSoFar options file at start t3 j1 b3 h3 was y had u → (h : Bool) → happened ≡ h → Told start t4 (PausesAreFullTo options at)
      go options at start was had so new true e = subst (λ (l : Option (List wire.Call)). Told start l (PausesAreFullTo options at)) (sym (same e)) new.pauses
      go options at start was had so new false e = paused_full options at start t3 t4 (wants_now h3) (paused e) (λ quiet. (rests e).on options at start was had so quiet) new.pauses

-- From the beginning.

-- until the file is made a connection negotiates still
pub unready_full : (options : CopyOptions) (at : Place) (start told : Option (List wire.Call)) → Told start told (AtEachPause (IsUnready options.extents at)) →
    Told start told (PausesAreFullTo options at)
unready_full options at start told unready = told_map start told (λ calls each before after wants are none. inl (each before after wants are none)) unready

-- Once all is ready as much is under way at each pause, whatever it comes to.
pub full_stored : (options : CopyOptions) (at : Place) (file : ℕ) (start told told' : Option (List wire.Call)) (job : Seen) (now : board.Seen) (held : List (Held Ticket))
    (terms : Terms) (shelf : Option Shelf) (taken : ℕ) → IsSetUp at start told job now held → IsReadyFull options at start told terms held → job.terms ≡ terms → now.rows ≡ [] →
    PausesFull file job now held told shelf taken told' → Told start told' (PausesAreFullTo options at)
full_stored options at file start told told' job now held terms shelf taken set ready same empty full =
    full.on options at start shelf taken (record {
      copying = set file shelf taken;
      holds = λ none. ready.holds;
      terms = record { source = ready.settled.source; shown = ready.settled.shown; settled = subst (λ (s : Terms). AreSettledTo options ready.settled.source s) (sym same) ready.settled.settled };
      within = (let none : length now.rows ≡ 0 = ap (λ (l : List (ℕ × Row)). length l) empty in omega (arith, none));
      pauses = ready.pauses;
    })

-- The part that the transcript grew by is so.
pub full_grew : (options : CopyOptions) (at : Place) (a b c : Option (List wire.Call)) → Told a b (PausesAreFullTo options at) → Unpaused b c → GrewBy (PausesAreFullTo options at) a c
full_grew options at a b c told unpaused = told_part a c (told_stays a b c unpaused told)

-- Connections are made.

-- what the first one was told
pub terms_found : (options : CopyOptions) (at : Place) (size : Option ℕ) (start told : Option (List wire.Call)) (now : board.Seen) (held : List (Held Ticket)) (terms : Terms) →
    FindsTermsTo options terms held →
    IsBeginning at size start told now held → HasSettledTerms options at start told terms
terms_found options at size start told now held terms finds b = record {
  source = finds.source;
  shown = told_map start told (λ calls under. at_once calls (shown_told (ToFile []) _ now calls held finds.source under finds.shown)) b.on;
  settled = finds.settled;
}

module _ (first more : ℕ) (to : Target) (held held2 held3 : List (Held Ticket)) (a b c : Option (List wire.Call)) (i k l : ℕ) where
  pub holds_first : held ≡ [] → Uses false first (to ∷ []) held a i held2 b k → Uses false first (replicate more to) held2 b k held3 c l → length held3 ≡ 1 + more → HoldsAll a c held3
  holds_first empty one two many = record {
    to = (to ∷ []) ++ replicate more to;
    links = two.links.on a (one.links.on a (links_begin held a empty));
    connects = two.links.connects a (to ∷ []) (one.links.connects a [] (told_begins a refl));
    many = many ∙ sym (length-append (to ∷ []) (replicate more to) ∙ ap (λ (n : ℕ). 1 + n) (length-replicate more to));
  }

-- the first one is made, and negotiates
pub awaits_begun : (at : Place) (extents : Bool) (start told : Option (List wire.Call)) (now now2 : board.Seen) (held held2 : List (Held Ticket)) → held ≡ [] →
    IsBeginning at None start start now held → AwaitsMore at extents now held start now2 held2 told → AwaitsAll extents (ToFile []) (beginning at None now.how) start told now2 held2
awaits_begun at extents start told now now2 held held2 none begins more =
    let way = beginning at None now.how in
    more.on extents (ToFile []) way start refl (λ empty. refl) (λ asks. ap length none) (awaits_first extents (ToFile []) way start now held none begins.stand begins.on)

-- and then the further ones, which ask for no extents
pub awaits_further : (at : Place) (extents : Bool) (n : ℕ) (how : How) (start a b c : Option (List wire.Call)) (now now2 now3 : board.Seen) (held held2 held3 : List (Held Ticket)) →
    length held ≡ n + 1 → length held2 ≡ length held → KeepsAwaiting now held a now2 held2 b → AwaitsMore at false now2 held2 b now3 held3 c →
    AwaitsAll extents (ToFile []) (beginning at None how) start a now held → AwaitsAll extents (ToFile []) (beginning at None how) start c now3 held3
awaits_further at extents n how start a b c now now2 now3 held held2 held3 many same settles more first =
    let way = beginning at None how in
    more.on extents (ToFile []) way start refl (λ empty. absurd (omega (arith, many, same, empty))) (λ asks. absurd (false≢true asks)) (settles.on extents (ToFile []) way start first)

pub ok_so : {T F A : Type 0} (r : Result T F) → A → OnOk r A
ok_so (Ok value) a = a
ok_so (Err fault) a = tt
