-- Faulty content that a command comes to is told to the board, and stays its error.
use Rattle.std.proofs.Common.{◌≡◌, ◌⊎◌, inl, inr, ℕ, ◌+◌, Bool, true, false, List, [], ◌∷◌, ◌++◌, map, Option, Some, None, refl, ap, sym, subst, ◌∙◌, ◌==◌, if◌then◌else◌}
use Rattle.std.proofs.lemmas.Bool.{cases_eq, eqb-true, false≢true}
use Rattle.lnbd_keyed.specs.Keyed.{value_at}
use Rattle.lnbd_model.specs.declared.errors.TheConstants.{EPROTO}
use Rattle.lnbd_model.specs.declared.export.Context.{Context as MetaContext}
use Rattle.lnbd_model.specs.declared.failure.Failure.{Failure}
use Rattle.lnbd_callbacks.specs.Calls.{Call, Chunk, Complete, Extents, Free}
use Rattle.lnbd_callbacks.specs.Steps.{OneByOne}
use Rattle.lnbd_callbacks.specs.declared.caller.Verdict.{Verdict}
use Rattle.lnbd_outcome.specs.Outcome.{failure_of}
use Rattle.lnbd_history.specs.Commands.{Command, Flight, Request}
use Rattle.lnbd_history.specs.Entries.{Item, Dropped, Filing, Entry, Filed, Freed, Cleared, completes, hears, own, is_ended, error_in, bytes_in, hearing_in, call_of, acts_of, free_acts}
use Rattle.lnbd_history.specs.Events.{Answer, Event, History, Set, StrictMode, Start, Opt, Abort, Issue, Refuse, Disconnect, Wrote, Arrived, End, LinkFailed, Retire, ClearLog, Close}
use Rattle.lnbd_history.specs.History.{asked, request, left, filing_of, reading, with_answers}
use Rattle.lnbd_asked.specs.Driven.{outcome_after}
use Rattle.lnbd_asked.specs.Transcript.{outcome_of}
use Rattle.lnbd_board.specs.declared.ticket.Ticket.{Ticket}
use Rattle.lnbd_board.specs.declared.ticket.Ticket.TheVariants as ticket
use Rattle.lnbd_board.specs.Files.{Seen, Files, came_with, content_first, filed_done, is_map, is_unfit, or_error, rows_with}
use Rattle.lnbd_tracks.specs.Failing.{CameTo, failure_by}
use Rattle.lnbd_tracks.specs.Laws.{is_coming}
use Rattle.lnbd_tracks.specs.Tracks.{NoneFails, Histories, Happens, Adds, is_issue}
use Rattle.lnbd_tracks.specs.Unfailed.{ComingTellsContent, OthersTellContent}
use Rattle.lnbd_tracks.proofs.Along.{along}
use Rattle.lnbd_tracks.proofs.Calling.{files_well, filing_completes, heard_well, hears_error}
use Rattle.lnbd_tracks.proofs.Coming.{closed_keeps}
use Rattle.lnbd_tracks.proofs.Failing.{comes_failed}
use Rattle.lnbd_tracks.proofs.Outcomes.{NoneFailed, comes_done, own_well, still_waits}
use Rattle.lnbd_tracks.proofs.Staying.{issue_is, next_beside}
use Rattle.lnbd_tracks.proofs.Unfailed.{fresh_well}
use Rattle.lnbd_tracks.proofs.Unfiled.{own_other, own_same, request_stays}

-- What the board was told.

-- its error is that of faulty content
abbrev IsFaulty : Option ℕ → Type 0
IsFaulty error = error ≡ Some EPROTO

or_stays : (told : Option ℕ) (error : ℕ) → IsFaulty told → IsFaulty (or_error told error)
or_stays None error e = absurd (cc)
or_stays (Some first) error e = e

first_stays : (told : Option ℕ) (error : ℕ) → IsFaulty told → IsFaulty (content_first told error)
first_stays None error e = absurd (cc)
first_stays (Some first) error e = go (error == 71) refl
  where
    go : (b : Bool) → (error == 71) ≡ b → IsFaulty (if b then Some error else Some first)
    go true same = ap (λ (n : ℕ). Some n) (eqb-true error 71 same)
    go false same = e

-- of two boards
either_faulty : (b : Bool) (one other : Seen) → IsFaulty one.error → IsFaulty other.error → IsFaulty (if b then one else other).error
either_faulty true one other f g = f
either_faulty false one other f g = g

done_stays : (by : Ticket) (buf : List ℕ) (before : Seen) → IsFaulty before.error → IsFaulty (filed_done by buf before).error
done_stays (ticket.Slice n) buf before e =
    either_faulty (is_unfit (value_at n before.rows) buf) (record before { error = or_error before.error 71 }) (record before { rows = rows_with (value_at n before.rows) n buf before.rows; came = came_with (value_at n before.rows) n before.came })
    (or_stays before.error 71 e) e
done_stays ticket.Extents buf before e = e
done_stays ticket.Flush buf before e = e

one_stays : (call : Call Ticket) (before after : Seen) → Files before call after → IsFaulty before.error → IsFaulty after.error
one_stays (Chunk by bytes offset status error heard) before after f e = ap (λ (s : Seen). s.error) f.1 ∙ e
one_stays (Extents by context offset entries error heard) before after f e = hears_error (is_map by context) entries before after f.1 ∙ e
one_stays (Complete by error buf verdict) before after f e =
    ap (λ (s : Seen). s.error) f.1 ∙ either_faulty (error == 0) (filed_done by buf before) (record before { error = content_first before.error error }) (done_stays by buf before e) (first_stays before.error error e)
one_stays (Free by) before after f e = ap (λ (s : Seen). s.error) f ∙ e

all_stay : (calls : List (Call Ticket)) (before after : Seen) → OneByOne Files before calls after → IsFaulty before.error → IsFaulty after.error
all_stay [] before after f e = ap (λ (s : Seen). s.error) f ∙ e
all_stay (call ∷ calls) before after f e = all_stay calls f.0 after f.1.1 (one_stays call before f.0 f.1.0 e)

content_told : (told : Option ℕ) → IsFaulty (content_first told 71)
content_told None = refl
content_told (Some first) = refl

-- Where a completion among these calls tells faulty content, that is the board's error after them.
told_content : (front : List (Call Ticket)) (by : Ticket) (error : ℕ) (buf : List ℕ) (verdict : Verdict) (rest : List (Call Ticket)) (before after : Seen) →
    OneByOne Files before (front ++ Complete by error buf verdict ∷ rest) after → error ≡ EPROTO → IsFaulty after.error
told_content [] by error buf verdict rest before after f content =
    all_stay rest f.0 after f.1.1 (subst (λ (n : ℕ). (f.0 ≡ (if n == 0 then filed_done by buf before else record before { error = content_first before.error n })) → IsFaulty f.0.error) (sym content) (λ is. ap (λ (s : Seen). s.error) is ∙ content_told before.error) f.1.0.1)
told_content (call ∷ front) by error buf verdict rest before after f content = told_content front by error buf verdict rest f.0 after f.1.1 content

-- On the link on which something happens.

none_some : {A : Type 0} (one : A) → None ≡ Some one → ⊥
none_some one e = cc

some_same : {A : Type 0} (one other : A) → Some one ≡ Some other → one ≡ other
some_same one other e = cc

module _ (history : History Ticket) (k : ℕ) (q : Request Ticket) (is : request history k ≡ Some q) where
  -- the command came to faulty content
  abbrev Faults : List (Entry Ticket) → Type 0
  Faults entries = failure_of (outcome_of (Some q) (own k entries)) ≡ Some (failure_by EPROTO)

  record Still (entries : List (Entry Ticket)) (now : Seen) : Type 0 where
    fails : NoneFails entries
    on : Faults entries → IsFaulty now.error

  -- What completes nothing leaves a command that has not ended as it is.
  waits_well : (f : Filing Ticket) (entries : List (Entry Ticket)) → f.cookie ≡ k → completes f.item ≡ false → is_ended (own k entries) ≡ false → Faults (Filed f ∷ entries) → ⊥
  waits_well f entries same more going faults = none_some (failure_by EPROTO) (
      sym (ap (λ (l : List (Filing Ticket)). failure_of (outcome_of (Some q) l)) (subst (λ (n : ℕ). own n (Filed f ∷ entries) ≡ f ∷ own n entries) same (own_same f entries)) ∙ ap failure_of (still_waits q f (own k entries) more going))
      ∙ faults)

  other_faults : (f : Filing Ticket) (entries : List (Entry Ticket)) → (f.cookie ≡ k → ⊥) → Faults (Filed f ∷ entries) → Faults entries
  other_faults f entries differ faults = ap (λ (l : List (Filing Ticket)). failure_of (outcome_of (Some q) l)) (sym (own_other k f entries differ)) ∙ faults

  -- what completes it and makes it so tells the number
  number_told : (f : Filing Ticket) (earlier : List (Filing Ticket)) → completes f.item ≡ true → NoneFailed (f ∷ earlier) → failure_of (outcome_of (Some q) (f ∷ earlier)) ≡ Some (failure_by EPROTO) → error_in q (f ∷ earlier) ≡ EPROTO
  number_told f earlier done well faults = go (cases_eq (error_in q (f ∷ earlier)) 0)
    where
      go : (error_in q (f ∷ earlier) ≡ 0) ⊎ (error_in q (f ∷ earlier) ≡ 0 → ⊥) → error_in q (f ∷ earlier) ≡ EPROTO
      go (inl no_error) = absurd (none_some (failure_by EPROTO) (sym (ap failure_of (comes_done q f earlier done well no_error)) ∙ faults))
      go (inr error) = ap (λ (why : Failure). why.error) (some_same (failure_by (error_in q (f ∷ earlier))) (failure_by EPROTO) (sym (comes_failed q f earlier done well error) ∙ faults))

  module _ (asks : Request Ticket) (c : ℕ) (item : Item) (contexts : List MetaContext) (answers : List Answer) (entries : List (Entry Ticket)) (before after : Seen) (there : request history c ≡ Some asks) (going : is_ended (own c entries) ≡ false) (s : Still entries before) where
    abbrev f : Filing Ticket
    f = filing_of asks c (own c entries) contexts item answers

    abbrev told : List (Call Ticket)
    told = map call_of (acts_of f (own c entries))

    module _ (files : OneByOne Files before told after) where
      fails_now : NoneFails (Filed f ∷ entries)
      fails_now = (heard_well asks.flight (hearing_in asks (own c entries) contexts item) item answers f.verdict (error_in asks (f ∷ own c entries)) (bytes_in asks (f ∷ own c entries)) (files_well told before after files), s.fails)

      one_here : c ≡ k → Faults (Filed f ∷ entries) → IsFaulty after.error
      one_here same faults = go (completes item) refl
        where
          mine : asks ≡ q
          mine = some_same asks q (sym there ∙ ap (λ (n : ℕ). request history n) same ∙ is)

          here : failure_of (outcome_of (Some q) (f ∷ own c entries)) ≡ Some (failure_by EPROTO)
          here = sym (ap (λ (l : List (Filing Ticket)). failure_of (outcome_of (Some q) l)) (subst (λ (n : ℕ). own n (Filed f ∷ entries) ≡ f ∷ own c entries) same (own_same f entries))) ∙ faults

          go : (b : Bool) → completes item ≡ b → IsFaulty after.error
          go true done =
              let made = filing_completes asks.flight (hearing_in asks (own c entries) contexts item) item f.heard (left (hears asks.flight (hearing_in asks (own c entries) contexts item)) answers) (error_in asks (f ∷ own c entries)) (bytes_in asks (f ∷ own c entries)) done in
              told_content made.front asks.flight.done.callback (error_in asks (f ∷ own c entries)) (bytes_in asks (f ∷ own c entries)) made.verdict (Free asks.flight.done.callback ∷ []) before after
              (subst (λ (l : List (Call Ticket)). OneByOne Files before l after) made.is files)
              (ap (λ (r : Request Ticket). error_in r (f ∷ own c entries)) mine ∙ number_told f (own c entries) done (fails_now.0, own_well c entries s.fails) here)
          go false more = absurd (waits_well f entries same more (ap (λ (n : ℕ). is_ended (own n entries)) (sym same) ∙ going) faults)

      still_filed : Still (Filed f ∷ entries) after
      still_filed = record { fails = fails_now; on = λ faults. go faults (cases_eq c k) }
        where
          go : Faults (Filed f ∷ entries) → (c ≡ k) ⊎ (c ≡ k → ⊥) → IsFaulty after.error
          go faults (inl same) = one_here same faults
          go faults (inr differ) = all_stay told before after files (s.on (other_faults f entries differ faults))

  still_freed : (flight : Flight Ticket) (entries : List (Entry Ticket)) (before after : Seen) → Still entries before → OneByOne Files before (map call_of (free_acts flight)) after → Still (Freed flight ∷ entries) after
  still_freed flight entries before after s files = record { fails = s.fails; on = λ faults. all_stay (map call_of (free_acts flight)) before after files (s.on faults) }

  still_cleared : (entries : List (Entry Ticket)) (now : Seen) → Still entries now → Still (Cleared ∷ entries) now
  still_cleared entries now s = record { fails = s.fails; on = s.on }

  coming_told : (event : Event Ticket) (added : List (Call Ticket)) (before after : Seen) → NoneFails (reading history).known.entries → (Faults (reading history).known.entries → IsFaulty before.error) →
      Adds event history added → OneByOne Files before added after → Faults (reading (event ∷ history)).known.entries → IsFaulty after.error
  coming_told event added before after fails was adds files faults =
      (along history Still still_filed still_freed still_cleared event added before after (record { fails = fails; on = was }) adds files).on faults

  -- What else happens completes no command.
  abbrev WereFaults : List (Entry Ticket) → Type 0
  WereFaults entries = Faults entries → Faults (reading history).known.entries

  dropped : (asks : Request Ticket) (c : ℕ) (item : Item) (contexts : List MetaContext) (answers : List Answer) (entries : List (Entry Ticket)) → item ≡ Dropped → request history c ≡ Some asks → is_ended (own c entries) ≡ false → WereFaults entries →
      WereFaults (Filed (filing_of asks c (own c entries) contexts item answers) ∷ entries)
  dropped asks c item contexts answers entries drops there going were = λ faults. go faults (cases_eq c k)
    where
      go : Faults (Filed (filing_of asks c (own c entries) contexts item answers) ∷ entries) → (c ≡ k) ⊎ (c ≡ k → ⊥) → Faults (reading history).known.entries
      go faults (inl same) = absurd (waits_well (filing_of asks c (own c entries) contexts item answers) entries same (ap completes drops) (ap (λ (n : ℕ). is_ended (own n entries)) (sym same) ∙ going) faults)
      go faults (inr differ) = were (other_faults (filing_of asks c (own c entries) contexts item answers) entries differ faults)

  quiet_were : (event : Event Ticket) → is_coming event ≡ false → WereFaults (reading (event ∷ history)).known.entries
  quiet_were (Set setting) e = λ was. was
  quiet_were (StrictMode bits) e = λ was. was
  quiet_were Start e = λ was. was
  quiet_were (Opt option) e = λ was. was
  quiet_were Abort e = λ was. was
  quiet_were (Issue command) e = λ was. was
  quiet_were (Refuse command why) e = λ was. was
  quiet_were Disconnect e = λ was. was
  quiet_were (Wrote n) e = λ was. was
  quiet_were (Arrived bytes answers) e = absurd (false≢true (sym e))
  quiet_were (End answers) e = absurd (false≢true (sym e))
  quiet_were (LinkFailed answers) e = absurd (false≢true (sym e))
  quiet_were (Retire cookie) e = λ was. was
  quiet_were ClearLog e = λ was. was
  quiet_were Close e = closed_keeps history WereFaults (λ item. item ≡ Dropped) dropped (with_answers [] (reading history).known) refl (λ was. was)

-- Several handles.

-- where a command of a link came to it, some handle's did
of_link : (link : ℕ) (histories : Histories) (cookie : ℕ) (asks : Request Ticket) → request (histories link) cookie ≡ Some asks → failure_of (outcome_of (Some asks) (own cookie (reading (histories link)).known.entries)) ≡ Some (failure_by EPROTO) → CameTo (failure_by EPROTO) histories
of_link link histories cookie asks is came = record {
  link = link;
  cookie = cookie;
  asks = asks;
  asked = is;
  came = ap (λ (a : Option (Request Ticket)). failure_of (outcome_of a (own cookie (reading (histories link)).known.entries))) is ∙ came;
}

-- A command came to it on the link of the event, or elsewhere, where one did before.
module _ (link : ℕ) (event : Event Ticket) (histories histories2 : Histories) (happens : Happens link event histories histories2) (now : Option ℕ) (before : CameTo (failure_by EPROTO) histories → IsFaulty now)
    (here : (cookie : ℕ) (asks : Request Ticket) → request (event ∷ histories link) cookie ≡ Some asks → failure_of (outcome_of (Some asks) (own cookie (reading (event ∷ histories link)).known.entries)) ≡ Some (failure_by EPROTO) → IsFaulty now) where
  came_told : CameTo (failure_by EPROTO) histories2 → IsFaulty now
  came_told came = go (cases_eq link came.link)
    where
      beside : histories2 came.link ≡ histories came.link → IsFaulty now
      beside still = before (record {
        link = came.link;
        cookie = came.cookie;
        asks = came.asks;
        asked = ap (λ (h : History Ticket). request h came.cookie) (sym still) ∙ came.asked;
        came = ap (λ (h : History Ticket). failure_of (outcome_after h came.cookie)) (sym still) ∙ came.came;
      })

      at : histories2 came.link ≡ event ∷ histories link → IsFaulty now
      at went =
          let asked_for : request (event ∷ histories link) came.cookie ≡ Some came.asks = ap (λ (h : History Ticket). request h came.cookie) (sym went) ∙ came.asked in
          here came.cookie came.asks asked_for (
          sym (ap (λ (a : Option (Request Ticket)). failure_of (outcome_of a (own came.cookie (reading (event ∷ histories link)).known.entries))) asked_for)
          ∙ ap (λ (h : History Ticket). failure_of (outcome_after h came.cookie)) (sym went)
          ∙ came.came)

      go : (link ≡ came.link) ⊎ (link ≡ came.link → ⊥) → IsFaulty now
      go (inl same) = at (ap histories2 (sym same) ∙ happens.here)
      go (inr differ) = beside (happens.others came.link (λ e. differ (sym e)))

pub coming_tells_content : ComingTellsContent
coming_tells_content link event histories histories2 added before after u fails other happens adds files = record {
  on = came_told link event histories histories2 happens after.error (λ came. all_stay added before after files (u.on came))
      (λ cookie asks is faults.
      let was : request (histories link) cookie ≡ Some asks = sym (request_stays (histories link) event cookie other) ∙ is in
      coming_told (histories link) cookie asks was event added before after fails (λ came. u.on (of_link link histories cookie asks was came)) adds files faults);
}

-- what is not asked, or is asked under another cookie, was asked before
module _ (link : ℕ) (event : Event Ticket) (histories : Histories) (quiet : is_coming event ≡ false) where
  others_came : (cookie : ℕ) (asks : Request Ticket) → request (event ∷ histories link) cookie ≡ Some asks → failure_of (outcome_of (Some asks) (own cookie (reading (event ∷ histories link)).known.entries)) ≡ Some (failure_by EPROTO) → CameTo (failure_by EPROTO) histories
  others_came cookie asks is faults = go (is_issue event) refl
    where
      was_asked : request (histories link) cookie ≡ Some asks → CameTo (failure_by EPROTO) histories
      was_asked was = of_link link histories cookie asks was (quiet_were (histories link) cookie asks was event quiet faults)

      issued : (command : Command Ticket) → event ≡ Issue command → ((asked (histories link)).issued + 1 ≡ cookie) ⊎ ((asked (histories link)).issued + 1 ≡ cookie → ⊥) → CameTo (failure_by EPROTO) histories
      issued command e (inl same) = absurd (none_some (failure_by EPROTO) (
          sym (fresh_well (histories link) command asks)
          ∙ ap (λ (n : ℕ). failure_of (outcome_of (Some asks) (own n (reading (Issue command ∷ histories link)).known.entries))) same
          ∙ ap (λ (x : Event Ticket). failure_of (outcome_of (Some asks) (own cookie (reading (x ∷ histories link)).known.entries))) (sym e)
          ∙ faults))
      issued command e (inr differ) = was_asked (sym (next_beside (histories link) command cookie differ) ∙ ap (λ (x : Event Ticket). request (x ∷ histories link) cookie) (sym e) ∙ is)

      go : (b : Bool) → is_issue event ≡ b → CameTo (failure_by EPROTO) histories
      go true e = let i = issue_is event e in issued i.command i.is (cases_eq ((asked (histories link)).issued + 1) cookie)
      go false e = was_asked (sym (request_stays (histories link) event cookie e) ∙ is)

pub others_tell_content : OthersTellContent
others_tell_content link event histories histories2 before after u quiet happens stays = record {
  on = came_told link event histories histories2 happens after.error (λ came. stays (u.on came)) (λ cookie asks is faults. stays (u.on (others_came link event histories quiet cookie asks is faults)));
}
