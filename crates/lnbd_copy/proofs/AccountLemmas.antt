-- From pause to pause the calls of a copy bear out how its slices are bound, and each went to the connections with the fewest.
use Rattle.std.proofs.Common.{◌≡◌, ◌≢◌, ◌<◌, ◌≤◌, ◌⊎◌, inl, inr, ◌==◌, ℕ, zero, suc, Bool, true, false, List, [], ◌∷◌, ◌++◌, length, length-append, map, Option, Some, None, slice_get, if◌then◌else◌, nat_lt, ltb-true, refl, ap, sym, subst, ◌∙◌, arith}
use Rattle.std.proofs.lemmas.Bool.{false≢true, lt-ltb}
use Rattle.lnbd_model.specs.declared.target.Place.{Place}
use Rattle.lnbd_model.specs.declared.export.ExportInfo.{ExportInfo}
use Rattle.lnbd_link.specs.Call as wire
use Rattle.lnbd_link.specs.Part.{Adds}
use Rattle.lnbd_link.specs.declared.wires.Want.{Want}
use Rattle.lnbd_asked.specs.Transcript.{dealt_with}
use Rattle.lnbd_poll.specs.Held.{Held, wants_now}
use Rattle.lnbd_poll.specs.Seen.{Seen}
use Rattle.lnbd_plan.specs.declared.options.CopyOptions.{CopyOptions}
use Rattle.lnbd_board.specs.declared.row.Row.{Row}
use Rattle.lnbd_board.specs.declared.ticket.Ticket.{Ticket}
use Rattle.lnbd_board.specs.Files as board
use Rattle.lnbd_course.specs.Asks.{GrewBy}
use Rattle.lnbd_course.specs.Between.{place_of}
use Rattle.lnbd_course.specs.Spread.{FewOn, how_many}
use Rattle.lnbd_usage.specs.Pauses.{AtEachPause}
use Rattle.lnbd_conduct.specs.declared.sides.Sides.{Sides}
use Rattle.lnbd_conduct.specs.declared.terms.Terms.{Terms}
use Rattle.lnbd_conduct.specs.Connects.{one_each}
use Rattle.lnbd_conduct.specs.Driven.{given_links}
use Rattle.lnbd_conduct.specs.Fewest.{Account, AreBorneOut, BearOut, BearOutBy, DealsOnce, DealsOn, SlicesGoToFewest, bound_on, bound_to, no_slices}
use Rattle.lnbd_conduct.specs.Settled.{Settled}
use Rattle.lnbd_conduct.specs.Shares.{AreFewOnEach}
use Rattle.lnbd_conduct.specs.Sides.{connection_of, is_source}
use Rattle.lnbd_conduct.specs.Told.{Told}
use Rattle.lnbd_conduct.specs.Waiting.{NoneForWriting}
use Rattle.lnbd_copy.specs.declared.job.Phase.TheVariants.{Copying}
use Rattle.lnbd_copy.specs.Copier.{IsOnItsWay}
use Rattle.lnbd_copy.specs.Copier as copier
use Rattle.lnbd_copy.specs.Fewest.{GoesToFewest, HasAccounts, HaveBeenDealt, account_of}
use Rattle.lnbd_copy.specs.Job as work
use Rattle.lnbd_copy.specs.Pauses.{Unpaused}
use Rattle.lnbd_copy.specs.UnderWay.{IsBusy}
use Rattle.lnbd_copy.specs.UnderWay as state
use Rattle.lnbd_copy.specs.Unready.{IsOpeningPause}
use Rattle.lnbd_copy.specs.Way.{IsOn, IsUnderWay, Way, connection_on, is_bound}
use Rattle.lnbd_copy.proofs.BoundLemmas.{bound_many}
use Rattle.lnbd_copy.proofs.BoundedLemmas.{handle_has_few, over_has_few}
use Rattle.lnbd_copy.proofs.CopierLemmas.{told_as}
use Rattle.lnbd_copy.proofs.EndLemmas.{told_part}
use Rattle.lnbd_copy.proofs.FewestLemmas.{deals_none, deals_step, deals_then}
use Rattle.lnbd_copy.proofs.PauseLemmas.{one_more, pauses_stay}
use Rattle.lnbd_copy.proofs.SettledLemmas.{same_since, settled_with}
use Rattle.lnbd_copy.proofs.ShareLemmas.{many_bound}
use Rattle.lnbd_copy.proofs.TurnLemmas.{since_on}
use Rattle.lnbd_copy.proofs.UnansweredLemmas.{copies_or, full_copying, full_over}

-- By the calls no more is unanswered on a link than slices are bound to its connection.

none_some : {A : Type 0} (one : A) → None ≡ Some one → ⊥
none_some one e = cc

some_same : {A : Type 0} (one other : A) → Some one ≡ Some other → one ≡ other
some_same one other e = cc

-- the handle that has the link in this place
link_held : (index link : ℕ) (seens : List (Seen Ticket)) → slice_get (map (λ (seen : Seen Ticket). seen.link) seens) index ≡ Some link → (seen : Seen Ticket) × ((slice_get seens index ≡ Some seen) × (seen.link ≡ link))
link_held index link [] is = absurd (none_some link is)
link_held zero link (seen ∷ others) is = (seen, (refl, some_same seen.link link is))
link_held (suc index) link (seen ∷ others) is = link_held index link others is

bound_rows : (source : Bool) (connection : ℕ) (now : board.Seen) → how_many (λ row. connection_on source row == connection) now.rows ≡ bound_to connection (bound_on source (account_of now))
bound_rows true connection now = many_bound (λ row. row.source) connection now.rows
bound_rows false connection now = many_bound (λ row. row.destination) connection now.rows

-- on the terms of this account
abbrev FewBound : Sides → (from to : Place) → Account → List wire.Call → Type 0
FewBound sides from to account calls = (index link : ℕ) → slice_get (given_links calls) index ≡ Some link → FewOn (bound_to (connection_of sides index) (bound_on (is_source sides index) account)) link (dealt_with (place_of from to (is_source sides index)) calls)

held_few : (way : Way) (now : board.Seen) (calls : List wire.Call) (held : List (Held Ticket)) → IsOn way now calls held → now.error ≡ None → FewBound way.sides way.from way.to (account_of now) calls
held_few way now calls held on well index link given =
    let h = link_held index link on.seens (ap (λ (l : List ℕ). slice_get l index) (sym on.order) ∙ given) in
    let place = place_of way.from way.to (is_source way.sides index) in
    let few : FewOn (how_many (is_bound way.sides index) now.rows) h.0.link (dealt_with place calls) = handle_has_few way now calls held on well place index h.0 h.1.0 in
    subst (λ (l : ℕ). FewOn (bound_to (connection_of way.sides index) (bound_on (is_source way.sides index) (account_of now))) l (dealt_with place calls)) h.1.1
    (subst (λ (n : ℕ). FewOn n h.0.link (dealt_with place calls)) (bound_rows (is_source way.sides index) (connection_of way.sides index) now) few)

-- without rows on any
over_few : (parting : Bool) (way : Way) (now : board.Seen) (calls : List wire.Call) (held : List (Held Ticket)) → IsUnderWay parting way now calls held → now.error ≡ None → now.rows ≡ [] → FewBound way.sides way.from way.to (account_of now) calls
over_few parting way now calls held on well over index link given = go (bound_to (connection_of way.sides index) (bound_on (is_source way.sides index) (account_of now))) (is_source way.sides index)
  where
    go : (most : ℕ) (source : Bool) → FewOn most link (dealt_with (place_of way.from way.to source) calls)
    go most true = (over_has_few most most parting way now calls held on well over).source link
    go most false = (over_has_few most most parting way now calls held on well over).destination link

-- So the calls bear out the account.
bears_out : (j : work.Seen) (way : Way) (now : board.Seen) (calls : List wire.Call) (held : List (Held Ticket)) → work.IsJob j way now → (j.phase ≡ Copying → state.WorksInFull j now) → now.error ≡ None → IsUnderWay (work.is_parting j.phase) way now calls held →
    NoneForWriting (wants_now held) → way.from ≢ way.to → BearOut way.extents j.terms way.from way.to (account_of now) calls
bears_out j way now calls held is busy well on written two = elim (copies_or j.phase) [
  | inl copying ↦
      let held_on : IsOn way now calls held = subst (λ (p : Bool). IsUnderWay p way now calls held) (ap work.is_parting copying) on in
      record {
        full = full_copying j way now calls held is (busy copying) well held_on written two;
        begun = held_on.begun;
        source = bound_many (λ row. row.source) now.rows;
        destination = bound_many (λ row. row.destination) now.rows;
        few = subst (λ (s : Sides). FewBound s way.from way.to (account_of now) calls) is.sides (held_few way now calls held held_on well);
      }
  | inr past ↦
      let over = is.over past in
      record {
        full = full_over j way now calls held (work.is_parting j.phase) is on well two over;
        begun = on.begun;
        source = bound_many (λ row. row.source) now.rows ∙ ap (λ (l : List (ℕ × Row)). length l) over.rows;
        destination = bound_many (λ row. row.destination) now.rows ∙ ap (λ (l : List (ℕ × Row)). length l) over.rows;
        few = subst (λ (s : Sides). FewBound s way.from way.to (account_of now) calls) is.sides (over_few (work.is_parting j.phase) way now calls held on well over.rows);
      }
]

abbrev pub BearItOut : CopyOptions → Sides → (from to : Place) → Account → List wire.Call → Type 0
BearItOut options sides from to account calls = Settled options.extents from to (λ source destination. BearOutBy options sides from to account source destination calls) calls

pub way_bears_out : (copy : copier.Seen) (start told : Option (List wire.Call)) → IsBusy copy.job copy.board → (on : IsOnItsWay start told copy) → copy.from ≢ copy.to → NoneForWriting (wants_now copy.held) →
    Told start told (BearItOut copy.options on.job.terms.sides copy.from copy.to (account_of copy.board))
way_bears_out copy start told busy on two written =
    let apart : on.way.from ≢ on.way.to = λ e. two (sym on.from ∙ e ∙ on.to) in
    let account = account_of copy.board in
    settled_with (λ source destination calls. BearOutBy copy.options on.job.terms.sides copy.from copy.to account source destination calls) copy.options copy.from copy.to start told on.job.terms on.settled
    (told_as start told
    (λ calls is. record {
      terms = on.job.terms;
      settled = on.settled.first.settled;
      many = refl;
      are = subst (λ (e : Bool). BearOut e on.job.terms copy.from copy.to account calls) on.extents
          (subst (λ (t : Place). BearOut on.way.extents on.job.terms copy.from t account calls) on.to
          (subst (λ (f : Place). BearOut on.way.extents on.job.terms f on.way.to account calls) on.from (bears_out on.job on.way copy.board calls copy.held on.is (busy.full on.job on.there) on.well is written apart)));
    })
    on.on)

-- Accounts.

module _ (options : CopyOptions) (sides : Sides) (from to : Place) where
  -- what is so of one account is so of another that is the same
  borne_as : (one other : Account) (calls : List wire.Call) → other ≡ one → BearItOut options sides from to one calls → BearItOut options sides from to other calls
  borne_as one other calls same bear = subst (λ (a : Account). BearItOut options sides from to a calls) (sym same) bear

  -- A pause follows: the account of so many calls is what is so now, and those of fewer stay.
  module _ (now : Account) (calls : List wire.Call) (wants : List Want) (has : HasAccounts options sides from to now calls) (bear : NoneForWriting wants → BearItOut options sides from to now calls) where
    abbrev pick : Bool → ℕ → Account
    pick b n = if b then has.account n else now

    abbrev account' : ℕ → Account
    account' n = pick (nat_lt n (length calls)) n

    picks_on : (m n : ℕ) (b c : Bool) → m ≤ n → (c ≡ true → b ≡ true) → DealsOn sides (pick b m) (pick c n)
    picks_on m n true true less both = has.later m n less
    picks_on m n true false less both = has.goes m
    picks_on m n false true less both = absurd (false≢true (both refl))
    picks_on m n false false less both = deals_none sides now

    picks_first : (b : Bool) → DealsOn sides no_slices (pick b 0)
    picks_first true = has.first
    picks_first false = deals_then sides no_slices (has.account 0) now has.first (has.goes 0)

    picks_now : (n : ℕ) (b : Bool) → DealsOn sides (pick b n) now
    picks_now n true = has.goes n
    picks_now n false = deals_none sides now

    picks_last : (b : Bool) → (b ≡ true → ⊥) → pick b (length calls) ≡ now
    picks_last true none = absurd (none refl)
    picks_last false none = refl

    not_less : nat_lt (length calls) (length calls) ≡ true → ⊥
    not_less e = let less = ltb-true (length calls) (length calls) e in absurd (omega (arith, less))

    earlier : AtEachPause (AreBorneOut options sides from to account') calls
    earlier before after wants is none =
        let longer = length-append before (wire.Pause wants ∷ after) in
        let all : length calls ≡ length (before ++ wire.Pause wants ∷ after) = ap (λ (l : List wire.Call). length l) is in
        let less : nat_lt (length before) (length calls) ≡ true = lt-ltb (length before) (length calls) (omega (arith, longer, all)) in
        elim (has.pauses before after wants is none) [
          | inl negotiates ↦ inl negotiates
          | inr borne ↦ inr (borne_as (has.account (length before)) (account' (length before)) before (ap (λ (b : Bool). pick b (length before)) less) borne)
        ]

    pub one_account : HasAccounts options sides from to now (calls ++ wire.Pause wants ∷ [])
    one_account = record {
      account = account';
      first = picks_first (nat_lt 0 (length calls));
      later = λ m n less. picks_on m n (nat_lt m (length calls)) (nat_lt n (length calls)) less (λ e. let l = ltb-true n (length calls) e in lt-ltb m (length calls) (omega (arith, l, less)));
      goes = λ n. picks_now n (nat_lt n (length calls));
      pauses = one_more (AreBorneOut options sides from to account') calls wants (λ none. inr (borne_as now (account' (length calls)) calls (picks_last (nat_lt (length calls) (length calls)) not_less) (bear none))) earlier;
    }

  accounts_pause : (now : Account) (start a b : Option (List wire.Call)) (wants : List Want) → Adds a b (wire.Pause wants) → (NoneForWriting wants → Told start a (BearItOut options sides from to now)) → Told start a (HasAccounts options sides from to now) → Told start b (HasAccounts options sides from to now)
  accounts_pause now start a b wants adds bear told = record {
    since = λ all is.
        let added = adds all is in
        let since = told.since added.0 added.1 in
        since_on start added.0 all (wire.Pause wants ∷ []) added.2 since
        (one_account now since.calls wants since.is (λ none. let borne = (bear none).since added.0 added.1 in subst (BearItOut options sides from to now) (same_since start added.0 borne since) borne.is));
  }

  -- Calls follow without a pause, and slices are dealt on.
  accounts_on : (old new : Account) (start a b : Option (List wire.Call)) → Unpaused a b → DealsOnce sides old new → Told start a (HasAccounts options sides from to old) → Told start b (HasAccounts options sides from to new)
  accounts_on old new start a b unpaused deals told = record {
    since = λ all is.
        let made = unpaused.on all is in
        let since = told.since made.before made.was in
        let has = since.is in
        since_on start made.before all made.more made.now since (record {
          account = has.account;
          first = has.first;
          later = has.later;
          goes = λ n. deals_step sides (has.account n) old new (has.goes n) deals;
          pauses = pauses_stay (AreBorneOut options sides from to has.account) since.calls made.more made.are has.pauses;
        });
  }

  -- They show that slices go to the connections with the fewest.
  accounts_show : (now : Account) (start told : Option (List wire.Call)) → Told start told (HasAccounts options sides from to now) → Told start told (SlicesGoToFewest options from to)
  accounts_show now start told accounts = told_as start told (λ calls has. record { sides = sides; account = has.account; first = has.first; later = has.later; pauses = has.pauses }) accounts

-- What is shown stays so without a pause.
fairly_unpaused : (options : CopyOptions) (from to : Place) (start a b : Option (List wire.Call)) → Unpaused a b → Told start a (SlicesGoToFewest options from to) → Told start b (SlicesGoToFewest options from to)
fairly_unpaused options from to start a b unpaused told = record {
  since = λ all is.
      let made = unpaused.on all is in
      let since = told.since made.before made.was in
      let has = since.is in
      since_on start made.before all made.more made.now since (record {
        sides = has.sides;
        account = has.account;
        first = has.first;
        later = has.later;
        pauses = pauses_stay (AreBorneOut options has.sides from to has.account) since.calls made.more made.are has.pauses;
      });
}

-- A copy.

job_same : (one other : work.Seen) → Some one ≡ Some other → one ≡ other
job_same one other e = cc

-- it has accounts, once it has a job
pub record KeepsAccounts (copy : copier.Seen) (start told : Option (List wire.Call)) : Type 0 where
  pub each : (one : work.Seen) → copy.job ≡ Some one → copy.from ≢ copy.to → Told start told (HasAccounts copy.options one.terms.sides copy.from copy.to (account_of copy.board))

abbrev pub GoesFairly : copier.Seen → (start told : Option (List wire.Call)) → Type 0
GoesFairly copy start told = copy.from ≢ copy.to → Told start told (SlicesGoToFewest copy.options copy.from copy.to)

abbrev OpensSo : copier.Seen → (start told : Option (List wire.Call)) → Type 0
OpensSo copy start told = Told start told (AtEachPause (IsOpeningPause copy.options.extents copy.from copy.to))

pub accounts_open : (old new : copier.Seen) (start told : Option (List wire.Call)) → new ≡ record old { start = new.start; held = new.held; board = new.board; job = new.job } → OpensSo old start told → IsOnItsWay start told new → KeepsAccounts new start told
accounts_open old new start told kept opening on = record {
  each = λ one is two. told_as start told
      (λ calls opens. record {
        account = λ n. no_slices;
        first = deals_none one.terms.sides no_slices;
        later = λ m n less. deals_none one.terms.sides no_slices;
        goes = λ n. subst (λ (j : work.Seen). HaveBeenDealt j.terms.sides new.board) (job_same on.job one (sym on.there ∙ is)) on.dealt;
        pauses = λ before after wants are none. inl (opens before after wants are none);
      })
      (subst (λ (s : copier.Seen). OpensSo s start told) (sym kept) opening);
}

-- without a job too
pub fairly_open : (old new : copier.Seen) (start told : Option (List wire.Call)) → new ≡ record old { start = new.start; held = new.held; board = new.board; job = new.job } → OpensSo old start told → GoesFairly new start told
fairly_open old new start told kept opening two = told_as start told
    (λ calls opens. record { sides = one_each; account = λ n. no_slices; first = deals_none one_each no_slices; later = λ m n less. deals_none one_each no_slices; pauses = λ before after wants are none. inl (opens before after wants are none) })
    (subst (λ (s : copier.Seen). OpensSo s start told) (sym kept) opening)

pub accounts_turn : (old new : copier.Seen) (start a b : Option (List wire.Call)) → new ≡ record old { held = new.held; board = new.board; job = new.job } → Unpaused a b → GoesToFewest old.job new.job old.board new.board → IsOnItsWay start a old → KeepsAccounts old start a → KeepsAccounts new start b
accounts_turn old new start a b kept unpaused goes on keeps = record {
  each = λ one is two.
      let had = goes.each on.job on.there in
      let apart : old.from ≢ old.to = subst (λ (s : copier.Seen). s.from ≢ s.to) kept two in
      let all : Told start b (HasAccounts old.options on.job.terms.sides old.from old.to (account_of new.board)) =
      accounts_on old.options on.job.terms.sides old.from old.to (account_of old.board) (account_of new.board) start a b unpaused had.takes (keeps.each on.job on.there apart) in
      subst (λ (s : copier.Seen). Told start b (HasAccounts s.options one.terms.sides s.from s.to (account_of new.board))) (sym kept)
      (subst (λ (j : work.Seen). Told start b (HasAccounts old.options j.terms.sides old.from old.to (account_of new.board))) (job_same had.next one (sym had.there ∙ is))
      (subst (λ (t : Terms). Told start b (HasAccounts old.options t.sides old.from old.to (account_of new.board))) (sym had.terms) all));
}

pub accounts_rest : (old new : copier.Seen) (start a b : Option (List wire.Call)) → new ≡ record old { held = new.held } → Adds a b (wire.Pause (wants_now old.held)) → (on : IsOnItsWay start a old) →
    (old.from ≢ old.to → NoneForWriting (wants_now old.held) → Told start a (BearItOut old.options on.job.terms.sides old.from old.to (account_of old.board))) → KeepsAccounts old start a → KeepsAccounts new start b
accounts_rest old new start a b kept adds on bear keeps = subst (λ (s : copier.Seen). KeepsAccounts s start b) (sym kept) (record {
  each = λ one is two.
      accounts_pause old.options one.terms.sides old.from old.to (account_of old.board) start a b (wants_now old.held) adds
      (λ none. subst (λ (j : work.Seen). Told start a (BearItOut old.options j.terms.sides old.from old.to (account_of old.board))) (job_same on.job one (sym on.there ∙ is)) (bear two none))
      (keeps.each one is two);
})

pub keeps_fairly : (copy : copier.Seen) (start told : Option (List wire.Call)) → IsOnItsWay start told copy → KeepsAccounts copy start told → GoesFairly copy start told
keeps_fairly copy start told on keeps two = accounts_show copy.options on.job.terms.sides copy.from copy.to (account_of copy.board) start told (keeps.each on.job on.there two)

pub fairly_turn : (old new : copier.Seen) (start a b : Option (List wire.Call)) → new ≡ record old { held = new.held; board = new.board; job = new.job } → Unpaused a b → GoesFairly old start a → GoesFairly new start b
fairly_turn old new start a b kept unpaused fairly = subst (λ (s : copier.Seen). GoesFairly s start b) (sym kept) (λ two. fairly_unpaused old.options old.from old.to start a b unpaused (fairly two))

pub fairly_held : (old new : copier.Seen) (start a b : Option (List wire.Call)) → new ≡ record old { held = new.held } → b ≡ a → GoesFairly old start a → GoesFairly new start b
fairly_held old new start a b kept same fairly = subst (λ (s : copier.Seen). GoesFairly s start b) (sym kept) (subst (λ (t : Option (List wire.Call)). GoesFairly old start t) (sym same) fairly)

-- The part that the transcript grew by is so.
pub done_fairly : (copy new : copier.Seen) (a b c : Option (List wire.Call)) → new ≡ record copy { start = new.start; held = new.held; board = new.board; job = new.job } → Unpaused b c → copy.from ≢ copy.to → GoesFairly new a b → GrewBy (SlicesGoToFewest copy.options copy.from copy.to) a c
done_fairly copy new a b c kept unpaused two fairly =
    let fairly' : GoesFairly copy a b = subst (λ (s : copier.Seen). GoesFairly s a b) kept fairly in
    told_part a c (fairly_unpaused copy.options copy.from copy.to a b c unpaused (fairly' two))
