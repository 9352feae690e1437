-- A command that comes to an error tells the board of it.
use Rattle.std.proofs.Common.{◌≡◌, ◌⊎◌, inl, inr, ℕ, ◌+◌, Bool, true, false, List, [], ◌∷◌, ◌++◌, map, Option, Some, None, refl, ap, sym, subst, ◌∙◌, arith, ◌==◌, if◌then◌else◌}
use Rattle.std.proofs.lemmas.Bool.{cases_eq, false≢true, ne_eqb}
use Rattle.lnbd_model.specs.declared.export.Context.{Context as MetaContext}
use Rattle.lnbd_model.specs.declared.failure.Failure.{Failure}
use Rattle.lnbd_callbacks.specs.Calls.{Call, Complete, Free}
use Rattle.lnbd_callbacks.specs.Steps.{OneByOne}
use Rattle.lnbd_callbacks.specs.declared.caller.Verdict.{Verdict}
use Rattle.lnbd_outcome.specs.Outcome.{failure_of}
use Rattle.lnbd_history.specs.Commands.{Command, Flight, Request}
use Rattle.lnbd_history.specs.Entries.{Item, Dropped, Filing, Entry, Filed, Freed, Cleared, completes, hears, own, is_ended, error_in, bytes_in, hearing_in, call_of, acts_of, free_acts}
use Rattle.lnbd_history.specs.Events.{Answer, Event, History, Set, StrictMode, Start, Opt, Abort, Issue, Refuse, Disconnect, Wrote, Arrived, End, LinkFailed, Retire, ClearLog, Close}
use Rattle.lnbd_history.specs.History.{asked, request, left, filing_of, reading, with_answers}
use Rattle.lnbd_history.proofs.Cookies.{request_past}
use Rattle.lnbd_asked.specs.Driven.{outcome_after}
use Rattle.lnbd_asked.specs.Transcript.{outcome_of}
use Rattle.lnbd_board.specs.declared.ticket.Ticket.{Ticket}
use Rattle.lnbd_board.specs.Files.{Seen, Files, filed, filed_done, content_first}
use Rattle.lnbd_tracks.specs.Failing.{CameTo}
use Rattle.lnbd_tracks.specs.Laws.{is_coming}
use Rattle.lnbd_tracks.specs.Tracks.{NoneFails, Histories, Happens, Adds, is_issue}
use Rattle.lnbd_tracks.specs.Unfailed.{ComingUnfailed, IsUnfailed, OthersUnfailed}
use Rattle.lnbd_tracks.proofs.Along.{along}
use Rattle.lnbd_tracks.proofs.Calling.{files_well, filing_completes, heard_well, none_earlier}
use Rattle.lnbd_tracks.proofs.Coming.{closed_keeps}
use Rattle.lnbd_tracks.proofs.Outcomes.{comes_done, own_well, still_waits}
use Rattle.lnbd_tracks.proofs.Staying.{issue_is, next_beside}
use Rattle.lnbd_tracks.proofs.Unfiled.{own_other, own_same, request_stays, unfiled}

-- What the board was told.

some_error : (told : Option ℕ) (error : ℕ) → content_first told error ≡ None → ⊥
some_error None error e = cc
some_error (Some first) error e = go (error == 71) e
  where
    go : (b : Bool) → (if b then Some error else Some first) ≡ None → ⊥
    go true e = cc
    go false e = cc

told_none : (by : Ticket) (error : ℕ) (buf : List ℕ) (old : Seen) → (filed by error buf old).error ≡ None → error ≡ 0
told_none by error buf old none = go (cases_eq error 0)
  where
    go : (error ≡ 0) ⊎ (error ≡ 0 → ⊥) → error ≡ 0
    go (inl same) = same
    go (inr differ) = absurd (some_error old.error error (sym (ap (λ (b : Bool). (if b then filed_done by buf old else record old { error = content_first old.error error }).error) (ne_eqb error 0 differ)) ∙ none))

-- Where the board has no error after them, the completion among these calls tells none.
told_no_error : (front : List (Call Ticket)) (by : Ticket) (error : ℕ) (buf : List ℕ) (verdict : Verdict) (rest : List (Call Ticket)) (before after : Seen) →
    OneByOne Files before (front ++ Complete by error buf verdict ∷ rest) after → after.error ≡ None → error ≡ 0
told_no_error [] by error buf verdict rest before after f none =
    let is : f.0 ≡ filed by error buf before = f.1.0.1 in
    told_none by error buf before (sym (ap (λ (s : Seen). s.error) is) ∙ none_earlier rest f.0 after f.1.1 none)
told_no_error (call ∷ front) by error buf verdict rest before after f none = told_no_error front by error buf verdict rest f.0 after f.1.1 none

-- On the link on which something happens.

none_some : {A : Type 0} (one : A) → None ≡ Some one → ⊥
none_some one e = cc

some_same : (one other : Request Ticket) → Some one ≡ Some other → one ≡ other
some_same one other e = cc

module _ (history : History Ticket) (k : ℕ) (q : Request Ticket) (is : request history k ≡ Some q) where
  abbrev Well : List (Entry Ticket) → Type 0
  Well entries = failure_of (outcome_of (Some q) (own k entries)) ≡ None

  record Still (entries : List (Entry Ticket)) (now : Seen) : Type 0 where
    fails : NoneFails entries
    on : now.error ≡ None → Well entries

  same_well : (entries entries2 : List (Entry Ticket)) → own k entries2 ≡ own k entries → Well entries → Well entries2
  same_well entries entries2 same well = ap (λ (l : List (Filing Ticket)). failure_of (outcome_of (Some q) l)) same ∙ well

  -- What completes nothing leaves a command that has not ended as it is.
  waits_well : (f : Filing Ticket) (entries : List (Entry Ticket)) → f.cookie ≡ k → completes f.item ≡ false → is_ended (own k entries) ≡ false → Well (Filed f ∷ entries)
  waits_well f entries same more going =
      ap (λ (l : List (Filing Ticket)). failure_of (outcome_of (Some q) l)) (subst (λ (n : ℕ). own n (Filed f ∷ entries) ≡ f ∷ own n entries) same (own_same f entries))
      ∙ ap failure_of (still_waits q f (own k entries) more going)

  module _ (asks : Request Ticket) (c : ℕ) (item : Item) (contexts : List MetaContext) (answers : List Answer) (entries : List (Entry Ticket)) (before after : Seen) (there : request history c ≡ Some asks) (going : is_ended (own c entries) ≡ false) (s : Still entries before) where
    abbrev f : Filing Ticket
    f = filing_of asks c (own c entries) contexts item answers

    abbrev told : List (Call Ticket)
    told = map call_of (acts_of f (own c entries))

    module _ (files : OneByOne Files before told after) where
      fails_now : NoneFails (Filed f ∷ entries)
      fails_now = (heard_well asks.flight (hearing_in asks (own c entries) contexts item) item answers f.verdict (error_in asks (f ∷ own c entries)) (bytes_in asks (f ∷ own c entries)) (files_well told before after files), s.fails)

      one_here : c ≡ k → after.error ≡ None → Well (Filed f ∷ entries)
      one_here same none = go (completes item) refl
        where
          mine : asks ≡ q
          mine = some_same asks q (sym there ∙ ap (λ (n : ℕ). request history n) same ∙ is)

          go : (b : Bool) → completes item ≡ b → Well (Filed f ∷ entries)
          go true done =
              let made = filing_completes asks.flight (hearing_in asks (own c entries) contexts item) item f.heard (left (hears asks.flight (hearing_in asks (own c entries) contexts item)) answers) (error_in asks (f ∷ own c entries)) (bytes_in asks (f ∷ own c entries)) done in
              let no_error = told_no_error made.front asks.flight.done.callback (error_in asks (f ∷ own c entries)) (bytes_in asks (f ∷ own c entries)) made.verdict (Free asks.flight.done.callback ∷ []) before after
              (subst (λ (l : List (Call Ticket)). OneByOne Files before l after) made.is files) none in
              ap (λ (l : List (Filing Ticket)). failure_of (outcome_of (Some q) l)) (subst (λ (n : ℕ). own n (Filed f ∷ entries) ≡ f ∷ own c entries) same (own_same f entries))
              ∙ ap (λ (r : Request Ticket). failure_of (outcome_of (Some r) (f ∷ own c entries))) (sym mine)
              ∙ ap failure_of (comes_done asks f (own c entries) done (fails_now.0, own_well c entries s.fails) no_error)
          go false more = waits_well f entries same more (ap (λ (n : ℕ). is_ended (own n entries)) (sym same) ∙ going)

      still_filed : Still (Filed f ∷ entries) after
      still_filed = record { fails = fails_now; on = λ none. go none (cases_eq c k) }
        where
          go : after.error ≡ None → (c ≡ k) ⊎ (c ≡ k → ⊥) → Well (Filed f ∷ entries)
          go none (inl same) = one_here same none
          go none (inr differ) = same_well entries (Filed f ∷ entries) (own_other k f entries differ) (s.on (none_earlier told before after files none))

  still_freed : (flight : Flight Ticket) (entries : List (Entry Ticket)) (before after : Seen) → Still entries before → OneByOne Files before (map call_of (free_acts flight)) after → Still (Freed flight ∷ entries) after
  still_freed flight entries before after s files = record { fails = s.fails; on = λ none. s.on (none_earlier (map call_of (free_acts flight)) before after files none) }

  still_cleared : (entries : List (Entry Ticket)) (now : Seen) → Still entries now → Still (Cleared ∷ entries) now
  still_cleared entries now s = record { fails = s.fails; on = s.on }

  well_coming : (event : Event Ticket) (added : List (Call Ticket)) (before after : Seen) → NoneFails (reading history).known.entries → (before.error ≡ None → Well (reading history).known.entries) →
      Adds event history added → OneByOne Files before added after → after.error ≡ None → Well (reading (event ∷ history)).known.entries
  well_coming event added before after fails was adds files none =
      (along history Still still_filed still_freed still_cleared event added before after (record { fails = fails; on = was }) adds files).on none

  -- What else happens completes no command.
  dropped : (asks : Request Ticket) (c : ℕ) (item : Item) (contexts : List MetaContext) (answers : List Answer) (entries : List (Entry Ticket)) → item ≡ Dropped → request history c ≡ Some asks → is_ended (own c entries) ≡ false → Well entries →
      Well (Filed (filing_of asks c (own c entries) contexts item answers) ∷ entries)
  dropped asks c item contexts answers entries drops there going well = go (cases_eq c k)
    where
      go : (c ≡ k) ⊎ (c ≡ k → ⊥) → Well (Filed (filing_of asks c (own c entries) contexts item answers) ∷ entries)
      go (inl same) = waits_well (filing_of asks c (own c entries) contexts item answers) entries same (ap completes drops) (ap (λ (n : ℕ). is_ended (own n entries)) (sym same) ∙ going)
      go (inr differ) = same_well entries (Filed (filing_of asks c (own c entries) contexts item answers) ∷ entries) (own_other k (filing_of asks c (own c entries) contexts item answers) entries differ) well

  well_quiet : (event : Event Ticket) → is_coming event ≡ false → Well (reading history).known.entries → Well (reading (event ∷ history)).known.entries
  well_quiet (Set setting) e was = was
  well_quiet (StrictMode bits) e was = was
  well_quiet Start e was = was
  well_quiet (Opt option) e was = was
  well_quiet Abort e was = was
  well_quiet (Issue command) e was = was
  well_quiet (Refuse command why) e was = was
  well_quiet Disconnect e was = was
  well_quiet (Wrote n) e was = was
  well_quiet (Arrived bytes answers) e was = absurd (false≢true (sym e))
  well_quiet (End answers) e was = absurd (false≢true (sym e))
  well_quiet (LinkFailed answers) e was = absurd (false≢true (sym e))
  well_quiet (Retire cookie) e was = was
  well_quiet ClearLog e was = was
  well_quiet Close e was = closed_keeps history Well (λ item. item ≡ Dropped) dropped (with_answers [] (reading history).known) refl was

-- A command that was just asked came to nothing.
pub fresh_well : (history : History Ticket) (command : Command Ticket) (q : Request Ticket) → failure_of (outcome_of (Some q) (own ((asked history).issued + 1) (reading (Issue command ∷ history)).known.entries)) ≡ None
fresh_well history command q = ap (λ (l : List (Filing Ticket)). failure_of (outcome_of (Some q) l)) (unfiled history ((asked history).issued + 1) (request_past history ((asked history).issued + 1) (omega arith)))

-- Several handles.

-- What no command of the link came to after the event is what none came to at all.
module _ (link : ℕ) (event : Event Ticket) (histories histories2 : Histories) (happens : Happens link event histories histories2) (why : Failure) (elsewhere : CameTo why histories → ⊥) where
  came_here : ((cookie : ℕ) (asks : Request Ticket) → request (event ∷ histories link) cookie ≡ Some asks → failure_of (outcome_of (Some asks) (own cookie (reading (event ∷ histories link)).known.entries)) ≡ None) → CameTo why histories2 → ⊥
  came_here well came = go (cases_eq link came.link)
    where
      beside : histories2 came.link ≡ histories came.link → ⊥
      beside still = elsewhere (record {
        link = came.link;
        cookie = came.cookie;
        asks = came.asks;
        asked = ap (λ (h : History Ticket). request h came.cookie) (sym still) ∙ came.asked;
        came = ap (λ (h : History Ticket). failure_of (outcome_after h came.cookie)) (sym still) ∙ came.came;
      })

      here : histories2 came.link ≡ event ∷ histories link → ⊥
      here went =
          let asked_for : request (event ∷ histories link) came.cookie ≡ Some came.asks = ap (λ (h : History Ticket). request h came.cookie) (sym went) ∙ came.asked in
          none_some why (
          sym (well came.cookie came.asks asked_for)
          ∙ sym (ap (λ (a : Option (Request Ticket)). failure_of (outcome_of a (own came.cookie (reading (event ∷ histories link)).known.entries))) asked_for)
          ∙ ap (λ (h : History Ticket). failure_of (outcome_after h came.cookie)) (sym went)
          ∙ came.came)

      go : (link ≡ came.link) ⊎ (link ≡ came.link → ⊥) → ⊥
      go (inl same) = here (ap histories2 (sym same) ∙ happens.here)
      go (inr differ) = beside (happens.others came.link (λ e. differ (sym e)))

-- no command of a link came to anything before
well_before : (link : ℕ) (histories : Histories) (now : Seen) → IsUnfailed histories now → now.error ≡ None → (cookie : ℕ) (asks : Request Ticket) → request (histories link) cookie ≡ Some asks → failure_of (outcome_of (Some asks) (own cookie (reading (histories link)).known.entries)) ≡ None
well_before link histories now u none cookie asks is = go (failure_of (outcome_of (Some asks) (own cookie (reading (histories link)).known.entries))) refl
  where
    go : (failed : Option Failure) → failure_of (outcome_of (Some asks) (own cookie (reading (histories link)).known.entries)) ≡ failed → failure_of (outcome_of (Some asks) (own cookie (reading (histories link)).known.entries)) ≡ None
    go None e = e
    go (Some why) e = absurd (u.on none why (record {
      link = link;
      cookie = cookie;
      asks = asks;
      asked = is;
      came = ap (λ (a : Option (Request Ticket)). failure_of (outcome_of a (own cookie (reading (histories link)).known.entries))) is ∙ e;
    }))

pub coming_unfailed : ComingUnfailed
coming_unfailed link event histories histories2 added before after u fails other happens adds files = record {
  on = λ none why came.
      came_here link event histories histories2 happens why (u.on (none_earlier added before after files none) why)
      (λ cookie asks is.
      let was : request (histories link) cookie ≡ Some asks = sym (request_stays (histories link) event cookie other) ∙ is in
      well_coming (histories link) cookie asks was event added before after fails (λ well. well_before link histories before u well cookie asks was) adds files none) came;
}

-- what is not asked, or is asked under another cookie, was asked before
module _ (history : History Ticket) (event : Event Ticket) (quiet : is_coming event ≡ false) (well : (cookie : ℕ) (asks : Request Ticket) → request history cookie ≡ Some asks → failure_of (outcome_of (Some asks) (own cookie (reading history).known.entries)) ≡ None) where
  others_well : (cookie : ℕ) (asks : Request Ticket) → request (event ∷ history) cookie ≡ Some asks → failure_of (outcome_of (Some asks) (own cookie (reading (event ∷ history)).known.entries)) ≡ None
  others_well cookie asks is = go (is_issue event) refl
    where
      was_asked : request history cookie ≡ Some asks → failure_of (outcome_of (Some asks) (own cookie (reading (event ∷ history)).known.entries)) ≡ None
      was_asked was = well_quiet history cookie asks was event quiet (well cookie asks was)

      issued : (command : Command Ticket) → event ≡ Issue command → ((asked history).issued + 1 ≡ cookie) ⊎ ((asked history).issued + 1 ≡ cookie → ⊥) → failure_of (outcome_of (Some asks) (own cookie (reading (event ∷ history)).known.entries)) ≡ None
      issued command e (inl same) =
          subst (λ (x : Event Ticket). failure_of (outcome_of (Some asks) (own cookie (reading (x ∷ history)).known.entries)) ≡ None) (sym e)
          (subst (λ (n : ℕ). failure_of (outcome_of (Some asks) (own n (reading (Issue command ∷ history)).known.entries)) ≡ None) same (fresh_well history command asks))
      issued command e (inr differ) = was_asked (sym (next_beside history command cookie differ) ∙ ap (λ (x : Event Ticket). request (x ∷ history) cookie) (sym e) ∙ is)

      go : (b : Bool) → is_issue event ≡ b → failure_of (outcome_of (Some asks) (own cookie (reading (event ∷ history)).known.entries)) ≡ None
      go true e = let i = issue_is event e in issued i.command i.is (cases_eq ((asked history).issued + 1) cookie)
      go false e = was_asked (sym (request_stays history event cookie e) ∙ is)

pub others_unfailed : OthersUnfailed
others_unfailed link event histories histories2 before after u quiet happens earlier = record {
  on = λ none why came.
      came_here link event histories histories2 happens why (u.on (earlier none) why)
      (others_well (histories link) event quiet (well_before link histories before u (earlier none))) came;
}

-- Before any handle was asked anything.
pub none_unfailed : (now : Seen) → IsUnfailed (λ link. []) now
none_unfailed now = record { on = λ none why came. none_some came.asks came.asked }
