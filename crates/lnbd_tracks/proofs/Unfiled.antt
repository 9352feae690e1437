-- Nothing is filed under a cookie that no command has.
use Rattle.std.proofs.Common.{◌≡◌, ℕ, ◌+◌, Bool, true, false, List, [], ◌∷◌, Option, Some, None, refl, ap, sym, ◌∙◌, ◌==◌, ◌⊎◌, inl, inr, if◌then◌else◌, ◌≢◌}
use Rattle.std.proofs.lemmas.Bool.{eq-eqb, ne_eqb, cases_eq}
use Rattle.lnbd_model.specs.declared.export.Context.{Context as MetaContext}
use Rattle.lnbd_history.specs.Commands.{Flight, Request, request_of}
use Rattle.lnbd_history.specs.Entries.{Item, Filing, Entry, Filed, Freed, Cleared, own, is_ended}
use Rattle.lnbd_history.specs.Events.{Answer, Event, History, Set, StrictMode, Start, Opt, Abort, Issue, Refuse, Disconnect, Wrote, Arrived, End, LinkFailed, Retire, ClearLog, Close}
use Rattle.lnbd_history.specs.History.{asked, request, filing_of, reading}
use Rattle.lnbd_tracks.specs.Tracks.{is_issue}
use Rattle.lnbd_tracks.proofs.Coming.{event_keeps}

module _ {K : Type 0} where
  pub own_same : (f : Filing K) (entries : List (Entry K)) → own f.cookie (Filed f ∷ entries) ≡ f ∷ own f.cookie entries
  own_same f entries = ap (λ (b : Bool). if b then f ∷ own f.cookie entries else own f.cookie entries) (eq-eqb f.cookie f.cookie refl)

  pub own_other : (c : ℕ) (f : Filing K) (entries : List (Entry K)) → f.cookie ≢ c → own c (Filed f ∷ entries) ≡ own c entries
  own_other c f entries other = ap (λ (b : Bool). if b then f ∷ own c entries else own c entries) (ne_eqb f.cookie c other)

  -- what is asked of a cookie is asked by a command alone
  pub request_stays : (before : History K) (event : Event K) (c : ℕ) → is_issue event ≡ false → request (event ∷ before) c ≡ request before c
  request_stays before (Set setting) c e = refl
  request_stays before (StrictMode bits) c e = refl
  request_stays before Start c e = refl
  request_stays before (Opt option) c e = refl
  request_stays before Abort c e = refl
  request_stays before (Issue command) c e = absurd (cc)
  request_stays before (Refuse command why) c e = refl
  request_stays before Disconnect c e = refl
  request_stays before (Wrote n) c e = refl
  request_stays before (Arrived bytes answers) c e = refl
  request_stays before (End answers) c e = refl
  request_stays before (LinkFailed answers) c e = refl
  request_stays before (Retire cookie) c e = refl
  request_stays before ClearLog c e = refl
  request_stays before Close c e = refl

  none_of : (b : Bool) (q : Request K) (a : Option (Request K)) → (if b then Some q else a) ≡ None → a ≡ None
  none_of true q a e = absurd (cc)
  none_of false q a e = e

  -- what no command has after an event, none had before it
  none_before : (before : History K) (event : Event K) (c : ℕ) → request (event ∷ before) c ≡ None → request before c ≡ None
  none_before before (Issue command) c e = none_of ((asked before).issued + 1 == c) (request_of (asked before).admitted command) (request before c) e
  none_before before (Set setting) c e = e
  none_before before (StrictMode bits) c e = e
  none_before before Start c e = e
  none_before before (Opt option) c e = e
  none_before before Abort c e = e
  none_before before (Refuse command why) c e = e
  none_before before Disconnect c e = e
  none_before before (Wrote n) c e = e
  none_before before (Arrived bytes answers) c e = e
  none_before before (End answers) c e = e
  none_before before (LinkFailed answers) c e = e
  none_before before (Retire cookie) c e = e
  none_before before ClearLog c e = e
  none_before before Close c e = e

  Unfiled : History K → List (Entry K) → Type 0
  Unfiled before entries = (c : ℕ) → request before c ≡ None → own c entries ≡ []

  module _ (before : History K) where
    filed_so : (asks : Request K) (c : ℕ) (item : Item) (contexts : List MetaContext) (answers : List Answer) (entries : List (Entry K)) → Unit {0} → request before c ≡ Some asks → is_ended (own c entries) ≡ false → Unfiled before entries →
        Unfiled before (Filed (filing_of asks c (own c entries) contexts item answers) ∷ entries)
    unfolding Unfiled
    filed_so asks c item contexts answers entries any is going h k none = go (cases_eq c k)
      where
        go : (c ≡ k) ⊎ (c ≡ k → ⊥) → own k (Filed (filing_of asks c (own c entries) contexts item answers) ∷ entries) ≡ []
        go (inl same) = let bad : None ≡ Some asks = sym none ∙ ap (request before) (sym same) ∙ is in cc
        go (inr other) = own_other k (filing_of asks c (own c entries) contexts item answers) entries other ∙ h k none

    freed_so : (flight : Flight K) (entries : List (Entry K)) → Unfiled before entries → Unfiled before (Freed flight ∷ entries)
    unfolding Unfiled
    freed_so flight entries h = h

    cleared_so : (entries : List (Entry K)) → Unfiled before entries → Unfiled before (Cleared ∷ entries)
    unfolding Unfiled
    cleared_so entries h = h

    one_more : (event : Event K) → Unfiled before (reading before).known.entries → Unfiled (event ∷ before) (reading (event ∷ before)).known.entries
    unfolding Unfiled
    one_more event h c none = event_keeps before (Unfiled before) (λ item. Unit {0}) filed_so (λ item. tt) freed_so cleared_so event h c (none_before before event c none)

  all_unfiled : (history : History K) → Unfiled history (reading history).known.entries
  unfolding Unfiled
  all_unfiled [] = λ c none. refl
  all_unfiled (event ∷ before) = one_more before event (all_unfiled before)

  pub unfiled : (history : History K) (c : ℕ) → request history c ≡ None → own c (reading history).known.entries ≡ []
  unfolding Unfiled
  unfiled history c none = all_unfiled history c none
