-- An error that a board has is one that a command came to, and what a command came to stays.
use Rattle.std.proofs.Common.{◌≡◌, ◌≢◌, ◌⊎◌, inl, inr, ℕ, ◌<◌, Bool, true, false, not, ◌&&◌, ◌||◌, List, [], ◌∷◌, ◌++◌, length, map, Option, Some, None, refl, ap, sym, subst, ◌∙◌, arith, ◌==◌, if◌then◌else◌}
use Rattle.std.proofs.lemmas.Bool.{cases_eq, eq-eqb, false≢true, ne_eqb}
use Rattle.std.proofs.lemmas.List.{append-nil, append_assoc, append_cancel_left}
use Rattle.std.specs.List.{list_any}
use Rattle.lnbd_keyed.specs.Keyed.{value_at}
use Rattle.lnbd_model.specs.Errors.{known_errors, error_of}
use Rattle.lnbd_model.specs.declared.errors.TheConstants.{EPROTO, ENOTCONN}
use Rattle.lnbd_model.specs.declared.export.Context.{Context as MetaContext}
use Rattle.lnbd_model.specs.declared.failure.Failure.{Failure}
use Rattle.lnbd_model.specs.declared.failure.Origin.{Origin}
use Rattle.lnbd_model.specs.declared.failure.Origin.TheVariants as from
use Rattle.lnbd_callbacks.specs.Calls.{Call, Chunk, Extents, Complete, Free}
use Rattle.lnbd_callbacks.specs.Steps.{OneByOne}
use Rattle.lnbd_outcome.specs.Faults.{has_all, has_fault}
use Rattle.lnbd_outcome.specs.Outcome.{Unfinished, bytes, error_number, failing, failure, failure_of, item_failure, or_else, verdict}
use Rattle.lnbd_outcome.specs.Pieces.{Piece, Query, is_completed, is_last, number_of}
use Rattle.lnbd_history.specs.Commands.{Flight, query_of}
use Rattle.lnbd_history.specs.Commands as commands
use Rattle.lnbd_history.specs.Entries.{Item, Framed, Lost, Dropped, Filing, Entry, Filed, Freed, Cleared, acts_of, bytes_in, call_of, calls, completes, error_in, free_acts, hearing_in, hears, is_ended, own, pieces}
use Rattle.lnbd_history.specs.Events.{Answer, Event, History}
use Rattle.lnbd_history.specs.History.{filing_of, left, reading, request}
use Rattle.lnbd_asked.specs.Driven.{outcome_after}
use Rattle.lnbd_asked.specs.InStep.{silent_pieces}
use Rattle.lnbd_asked.specs.Transcript.{outcome_of}
use Rattle.lnbd_plan.specs.declared.grid.Slice.{Slice}
use Rattle.lnbd_board.specs.declared.how.How.{How}
use Rattle.lnbd_board.specs.declared.row.Row.{Row}
use Rattle.lnbd_board.specs.declared.row.Stage.{Stage}
use Rattle.lnbd_board.specs.declared.row.Stage.TheVariants as stage
use Rattle.lnbd_board.specs.declared.ticket.Ticket.{Ticket}
use Rattle.lnbd_board.specs.declared.ticket.Ticket.TheVariants as ticket
use Rattle.lnbd_board.specs.Files.{Seen, Files, came_with, filed_done, is_map, is_reading, is_unfit, or_error, content_first, rows_with}
use Rattle.lnbd_board.specs.Requests.{Each, Request, own as own_of, said_unanswered}
use Rattle.lnbd_board.specs.Rows.{IsReading, Stands, StandsAt, slice_at}
use Rattle.lnbd_board.specs.Turns.{IsAnswered, Tells, TellAll}
use Rattle.lnbd_board.proofs.Lists.{Each-append, Each-back, Each-front, Each-map, answers_wait}
use Rattle.lnbd_board.proofs.Steps.{read_done, row_stands}
use Rattle.lnbd_board.proofs.Turning.{calls_kept}
use Rattle.lnbd_tracks.specs.Failing.{CameTo, DestinationFails, FailuresAreKnown, FailuresStay, SourceFails, failure_by, ToldBy}
use Rattle.lnbd_tracks.specs.Tracks.{Adds, AllTrack, Happens, Histories, NoneFails, is_issue}
use Rattle.lnbd_tracks.proofs.Calling.{IsQuiet, IsWell, destination_all, files_well, filing_completes, filing_quiet, frees_quiet, heard_well, hears_error, none_earlier, source_all}
use Rattle.lnbd_tracks.proofs.Coming.{event_keeps}
use Rattle.lnbd_tracks.proofs.Mapped.{asked_at, at}
use Rattle.lnbd_tracks.proofs.Outcomes.{NoneFailed, heard_alike, own_well, waits}
use Rattle.lnbd_tracks.proofs.Tracking.{event_tracks}
use Rattle.lnbd_tracks.proofs.Unfiled.{own_other, own_same, request_stays}

none_some : {A : Type 0} (one : A) → None ≡ Some one → ⊥
none_some one e = cc

some_same : {A : Type 0} (one other : A) → Some one ≡ Some other → one ≡ other
some_same one other e = cc

-- A failure is known by its number.

Known : Option Failure → Type 0
Known failed = (why : Failure) → failed ≡ Some why → why ≡ failure_by why.error

known_none : Known None
unfolding Known
known_none why e = absurd (none_some why e)

known_some : (why : Failure) → why ≡ failure_by why.error → Known (Some why)
unfolding Known
known_some why known other e = subst (λ (f : Failure). f ≡ failure_by f.error) (some_same why other e) known

failed_with : Origin → ℕ → Failure
failed_with origin error = record { origin = origin; error = error }

known_failing : (origin : Origin) (error : ℕ) → failed_with origin error ≡ failure_by error → Known (failing origin error)
unfolding failed_with
known_failing origin error known = go (error == 0)
  where
    go : (b : Bool) → Known (if b then None else Some (record { origin = origin; error = error }))
    go true = known_none
    go false = known_some (record { origin = origin; error = error }) known

known_or_else : (a b : Option Failure) → Known a → Known b → Known (or_else a b)
known_or_else None b ka kb = kb
known_or_else (Some why) b ka kb = ka

known_if : (t : Bool) (a b : Option Failure) → Known a → Known b → Known (if t then a else b)
known_if true a b ka kb = ka
known_if false a b ka kb = kb

-- a server tells no number but the known ones
not_told : (n m : ℕ) → list_any (λ known. m == known) known_errors ≡ false → (22 == m) ≡ false → (error_of n == m) ≡ false
not_told n m unknown other = go (list_any (λ known. n == known) known_errors) refl
  where
    go : (b : Bool) → list_any (λ known. n == known) known_errors ≡ b → ((if b then n else 22) == m) ≡ false
    go true e = ne_eqb n m (λ same. false≢true (sym unknown ∙ ap (λ (x : ℕ). list_any (λ known. x == known) known_errors) (sym same) ∙ e))
    go false e = other

told_known : (n : ℕ) → failed_with from.Told (error_of n) ≡ failure_by (error_of n)
unfolding failed_with
told_known n = sym (
    ap (λ (b : Bool). failed_with (if b then from.Content else if error_of n == ENOTCONN then from.Lost else from.Told) (error_of n)) (not_told n EPROTO refl refl)
    ∙ ap (λ (b : Bool). failed_with (if b then from.Lost else from.Told) (error_of n)) (not_told n ENOTCONN refl refl))

content_known : failed_with from.Content EPROTO ≡ failure_by EPROTO
unfolding failed_with
content_known = refl

lost_known : failed_with from.Lost ENOTCONN ≡ failure_by ENOTCONN
unfolding failed_with
lost_known = refl

known_item : (query : Query) (earlier : List Piece) (contexts : List MetaContext) (item : Item) → Known (item_failure query earlier contexts item)
known_item query earlier contexts (Framed content last) =
    known_if (has_fault query earlier contexts content) _ _ (known_failing from.Content EPROTO content_known) (known_failing from.Told (error_of (number_of content)) (told_known (number_of content)))
known_item query earlier contexts Lost = known_failing from.Lost ENOTCONN lost_known
known_item query earlier contexts Dropped = known_none

-- what a command comes to that is completed
verdict_failure : (failed : Option Failure) (held : List ℕ) → failure_of (verdict failed held) ≡ failed
verdict_failure None held = refl
verdict_failure (Some why) held = refl

module _ {K : Type 0} where
  known_by : (query : Query) (filings : List (Filing K)) → Known (failure query (silent_pieces filings))
  known_by query [] = known_none
  known_by query (f ∷ earlier) =
      known_or_else _ _ (known_or_else _ _ (known_or_else _ _ (known_by query earlier) (known_item query (silent_pieces earlier) f.contexts f.item)) known_none)
      (known_if (is_last f.item && not (has_all query f.contexts (silent_pieces (f ∷ earlier)))) _ _ (known_failing from.Content EPROTO content_known) known_none)

  pub failures_are_known : FailuresAreKnown K
  unfolding Known
  failures_are_known None own why e = absurd (none_some why e)
  failures_are_known (Some q) own why e = go (is_completed (silent_pieces own)) e
    where
      go : (b : Bool) → failure_of (if b then verdict (failure (query_of q) (silent_pieces own)) (bytes (query_of q) (silent_pieces own)) else Unfinished) ≡ Some why → why ≡ failure_by why.error
      go true is = known_by (query_of q) own why (sym (verdict_failure (failure (query_of q) (silent_pieces own)) (bytes (query_of q) (silent_pieces own))) ∙ is)
      go false is = absurd (none_some why is)

  -- What completes a command with an error fails it so, where no callback answered one.
  module _ (q : commands.Request K) (f : Filing K) (earlier : List (Filing K)) (completed : completes f.item ≡ true) (well : NoneFailed (f ∷ earlier)) where
    abbrev failed : List Piece → Option Failure
    failed ps = failure (query_of q) ps

    is_known : (o : Option Failure) → failed (pieces (f ∷ earlier)) ≡ o → error_number o ≢ 0 → o ≡ Some (failure_by (error_number o))
    unfolding Known
    is_known None is some = absurd (some refl)
    is_known (Some why) is some = ap (λ (w : Failure). Some w) (known_by (query_of q) (f ∷ earlier) why (ap failed (heard_alike (f ∷ earlier) well) ∙ is))

    pub comes_failed : error_in q (f ∷ earlier) ≢ 0 → failure_of (outcome_of (Some q) (f ∷ earlier)) ≡ Some (failure_by (error_in q (f ∷ earlier)))
    comes_failed some =
        ap (λ (b : Bool). failure_of (if b then verdict (failed (silent_pieces (f ∷ earlier))) (bytes (query_of q) (silent_pieces (f ∷ earlier))) else Unfinished))
        (ap (λ (b : Bool). b || is_completed (silent_pieces earlier)) completed)
        ∙ verdict_failure (failed (silent_pieces (f ∷ earlier))) (bytes (query_of q) (silent_pieces (f ∷ earlier)))
        ∙ ap failed (heard_alike (f ∷ earlier) well)
        ∙ is_known (failed (pieces (f ∷ earlier))) refl some

  -- A command that came to a failure has ended,
  failed_ended : (q : commands.Request K) (filings : List (Filing K)) (why : Failure) → failure_of (outcome_of (Some q) filings) ≡ Some why → is_ended filings ≡ true
  failed_ended q filings why e = go (is_ended filings) refl
    where
      go : (b : Bool) → is_ended filings ≡ b → is_ended filings ≡ true
      go true is = is
      go false is = absurd (none_some why (sym (ap failure_of (waits q filings is)) ∙ e))

  -- and nothing comes for it any more.
  own_kept : (before : History K) (event : Event K) (c : ℕ) → is_ended (own c (reading before).known.entries) ≡ true → own c (reading (event ∷ before)).known.entries ≡ own c (reading before).known.entries
  own_kept before event c over =
      event_keeps before (λ entries. own c entries ≡ own c (reading before).known.entries) (λ item. Unit {0}) same (λ item. tt) (λ flight entries h. h) (λ entries h. h) event refl
    where
      same : (asks : commands.Request K) (k : ℕ) (item : Item) (contexts : List MetaContext) (answers : List Answer) (entries : List (Entry K)) → Unit {0} → request before k ≡ Some asks → is_ended (own k entries) ≡ false → own c entries ≡ own c (reading before).known.entries →
          own c (Filed (filing_of asks k (own k entries) contexts item answers) ∷ entries) ≡ own c (reading before).known.entries
      same asks k item contexts answers entries any there going h = go (cases_eq k c)
        where
          go : (k ≡ c) ⊎ (k ≡ c → ⊥) → own c (Filed (filing_of asks k (own k entries) contexts item answers) ∷ entries) ≡ own c (reading before).known.entries
          go (inl e) = absurd (false≢true (sym going ∙ ap (λ (x : ℕ). is_ended (own x entries)) e ∙ ap is_ended h ∙ over))
          go (inr differ) = own_other c (filing_of asks k (own k entries) contexts item answers) entries differ ∙ h

module _ (why : Failure) (event : Event Ticket) (c : ℕ) (q : commands.Request Ticket) where
  -- what was asked under this cookie came to this
  abbrev Came : History Ticket → Type 0
  Came history = (request history c ≡ Some q) × (failure_of (outcome_after history c) ≡ Some why)

  failed_stays : (before : History Ticket) → Came before → request (event ∷ before) c ≡ Some q → failure_of (outcome_after (event ∷ before) c) ≡ Some why
  failed_stays before came there =
      let e : failure_of (outcome_of (Some q) (own c (reading before).known.entries)) ≡ Some why = sym (ap (λ a. failure_of (outcome_of a (own c (reading before).known.entries))) came.0) ∙ came.1 in
      ap (λ a. failure_of (outcome_of a (own c (reading (event ∷ before)).known.entries))) there
      ∙ ap (λ l. failure_of (outcome_of (Some q) l)) (own_kept before event c (failed_ended q (own c (reading before).known.entries) why e))
      ∙ e

pub failures_stay : FailuresStay
failures_stay why link event histories histories2 happens c = record {
  link = c.link;
  cookie = c.cookie;
  asks = c.asks;
  asked = there;
  came = at link event histories histories2 happens c.link (Came why event c.cookie c.asks) (λ h. request h c.cookie ≡ Some c.asks → failure_of (outcome_after h c.cookie) ≡ Some why)
      (λ h b t. failed_stays why event c.cookie c.asks h b t) (λ h b t. b.1) (c.asked, c.came) there;
}
  where
    there : request (histories2 c.link) c.cookie ≡ Some c.asks
    there = asked_at link event histories histories2 happens c.link c.cookie c.asks c.asked

-- The calls of an event: each completion with an error is of a command that came to it.

module _ (asks : ℕ → Option (commands.Request Ticket)) where
  record CameBy (error : ℕ) (entries : List (Entry Ticket)) : Type 0 where
    cookie : ℕ
    q : commands.Request Ticket
    asked : asks cookie ≡ Some q
    came : failure_of (outcome_of (Some q) (own cookie entries)) ≡ Some (failure_by error)

  abbrev Explained : List (Entry Ticket) → Call Ticket → Type 0
  Explained entries (Chunk by bytes offset status error heard) = Unit {0}
  Explained entries (Extents by context offset extents error heard) = Unit {0}
  Explained entries (Complete by error buf verdict) = error ≢ 0 → CameBy error entries
  Explained entries (Free by) = Unit {0}

  quiet_explained : (entries : List (Entry Ticket)) (call : Call Ticket) → IsQuiet call → Explained entries call
  quiet_explained entries (Chunk by bytes offset status error heard) quiet = tt
  quiet_explained entries (Extents by context offset extents error heard) quiet = tt
  quiet_explained entries (Complete by error buf verdict) quiet = absurd quiet
  quiet_explained entries (Free by) quiet = tt

  -- They stay so with one thing more.
  module _ (f : Filing Ticket) (entries : List (Entry Ticket)) (going : is_ended (own f.cookie entries) ≡ false) where
    came_more : (error : ℕ) → CameBy error entries → CameBy error (Filed f ∷ entries)
    came_more error c = record { cookie = c.cookie; q = c.q; asked = c.asked; came = go (cases_eq f.cookie c.cookie) }
      where
        go : (f.cookie ≡ c.cookie) ⊎ (f.cookie ≡ c.cookie → ⊥) → failure_of (outcome_of (Some c.q) (own c.cookie (Filed f ∷ entries))) ≡ Some (failure_by error)
        go (inl same) = absurd (false≢true (sym going ∙ ap (λ (x : ℕ). is_ended (own x entries)) same ∙ failed_ended c.q (own c.cookie entries) (failure_by error) c.came))
        go (inr differ) = ap (λ l. failure_of (outcome_of (Some c.q) l)) (own_other c.cookie f entries differ) ∙ c.came

    explained_more : (call : Call Ticket) → Explained entries call → Explained (Filed f ∷ entries) call
    explained_more (Chunk by bytes offset status error heard) e = tt
    explained_more (Extents by context offset extents error heard) e = tt
    explained_more (Complete by error buf verdict) e = λ some. came_more error (e some)
    explained_more (Free by) e = tt

  same_explained : (entries entries2 : List (Entry Ticket)) → ((c : ℕ) → own c entries2 ≡ own c entries) → (call : Call Ticket) → Explained entries call → Explained entries2 call
  same_explained entries entries2 same (Chunk by bytes offset status error heard) e = tt
  same_explained entries entries2 same (Extents by context offset extents error heard) e = tt
  same_explained entries entries2 same (Complete by error buf verdict) e = λ some.
      let c = e some in
      record { cookie = c.cookie; q = c.q; asked = c.asked; came = ap (λ l. failure_of (outcome_of (Some c.q) l)) (same c.cookie) ∙ c.came }
  same_explained entries entries2 same (Free by) e = tt

  -- The calls of one thing more.
  module _ (entries : List (Entry Ticket)) (q : commands.Request Ticket) (c : ℕ) (item : Item) (contexts : List MetaContext) (answers : List Answer) (asked_for : asks c ≡ Some q) (well : NoneFails entries) where
    abbrev f : Filing Ticket
    f = filing_of q c (own c entries) contexts item answers

    abbrev told : List (Call Ticket)
    told = map call_of (acts_of f (own c entries))

    abbrev rest : List Answer
    rest = left (hears q.flight (hearing_in q (own c entries) contexts item)) answers

    well_now : Each IsWell told → NoneFails (Filed f ∷ entries)
    well_now w = (heard_well q.flight (hearing_in q (own c entries) contexts item) item answers f.verdict (error_in q (f ∷ own c entries)) (bytes_in q (f ∷ own c entries)) w, well)

    one_explained : Each IsWell told → Each (Explained (Filed f ∷ entries)) told
    one_explained w = go (completes item) refl
      where
        failed : completes item ≡ true → error_in q (f ∷ own c entries) ≢ 0 → CameBy (error_in q (f ∷ own c entries)) (Filed f ∷ entries)
        failed done some = record {
          cookie = c;
          q = q;
          asked = asked_for;
          came = ap (λ l. failure_of (outcome_of (Some q) l)) (own_same f entries) ∙ comes_failed q f (own c entries) done ((well_now w).0, own_well c entries well) some;
        }

        go : (b : Bool) → completes item ≡ b → Each (Explained (Filed f ∷ entries)) told
        go true done =
            let made = filing_completes q.flight (hearing_in q (own c entries) contexts item) item f.heard rest (error_in q (f ∷ own c entries)) (bytes_in q (f ∷ own c entries)) done in
            subst (Each (Explained (Filed f ∷ entries))) (sym made.is)
            (Each-append (Explained (Filed f ∷ entries)) made.front _ (Each-map (quiet_explained (Filed f ∷ entries)) made.front made.quiet) (failed done, (tt, tt)))
        go false unfinished =
            Each-map (quiet_explained (Filed f ∷ entries)) told
            (filing_quiet q.flight (hearing_in q (own c entries) contexts item) item f.heard rest (error_in q (f ∷ own c entries)) (bytes_in q (f ∷ own c entries)) unfinished)

  -- So are all calls that these entries have more than there were at the start, if each was answered so that all is well.
  record AllExplained (entries : List (Entry Ticket)) (added : List (Call Ticket)) : Type 0 where
    well : NoneFails entries
    each : Each (Explained entries) added

  record Explains (start : List (Call Ticket)) (entries : List (Entry Ticket)) : Type 0 where
    added : List (Call Ticket)
    is : calls entries ≡ start ++ added
    all : Each IsWell added → AllExplained entries added

  module _ (start : List (Call Ticket)) where
    explains_none : (entries : List (Entry Ticket)) → start ≡ calls entries → NoneFails entries → Explains start entries
    explains_none entries e well = record { added = []; is = sym e ∙ sym (append-nil start); all = λ w. record { well = well; each = tt } }

    explains_filed : (q : commands.Request Ticket) (c : ℕ) (item : Item) (contexts : List MetaContext) (answers : List Answer) (entries : List (Entry Ticket)) → Unit {0} → asks c ≡ Some q → is_ended (own c entries) ≡ false → Explains start entries →
        Explains start (Filed (filing_of q c (own c entries) contexts item answers) ∷ entries)
    explains_filed q c item contexts answers entries any asked_for going g =
        let f = filing_of q c (own c entries) contexts item answers in
        let more : List (Call Ticket) = map call_of (acts_of f (own c entries)) in
        record {
          added = g.added ++ more;
          is = ap (λ l. l ++ more) g.is ∙ append_assoc start g.added more;
          all = λ w. (
              let one = g.all (Each-front IsWell g.added more w) in
              let new = Each-back IsWell g.added more w in
              record {
                well = well_now entries q c item contexts answers asked_for one.well new;
                each = Each-append (Explained (Filed f ∷ entries)) g.added more (Each-map (explained_more f entries going) g.added one.each) (one_explained entries q c item contexts answers asked_for one.well new);
              });
        }

    explains_freed : (flight : Flight Ticket) (entries : List (Entry Ticket)) → Explains start entries → Explains start (Freed flight ∷ entries)
    explains_freed flight entries g =
        let more : List (Call Ticket) = map call_of (free_acts flight) in
        record {
          added = g.added ++ more;
          is = ap (λ l. l ++ more) g.is ∙ append_assoc start g.added more;
          all = λ w. (
              let one = g.all (Each-front IsWell g.added more w) in
              record {
                well = one.well;
                each = Each-append (Explained (Freed flight ∷ entries)) g.added more (Each-map (same_explained entries (Freed flight ∷ entries) (λ k. refl)) g.added one.each)
                    (Each-map (quiet_explained (Freed flight ∷ entries)) more (frees_quiet flight));
              });
        }

    explains_cleared : (entries : List (Entry Ticket)) → Explains start entries → Explains start (Cleared ∷ entries)
    explains_cleared entries g = record {
      added = g.added;
      is = g.is;
      all = λ w. (let one = g.all w in record { well = one.well; each = Each-map (same_explained entries (Cleared ∷ entries) (λ k. refl)) g.added one.each });
    }

-- Of an event.
event_explains : (before : History Ticket) (event : Event Ticket) (added : List (Call Ticket)) → NoneFails (reading before).known.entries → Adds event before added → Each IsWell added → Each (Explained (request before) (reading (event ∷ before)).known.entries) added
event_explains before event added well adds w =
    let start : List (Call Ticket) = calls (reading before).known.entries in
    let g : Explains (request before) start (reading (event ∷ before)).known.entries =
    event_keeps before (Explains (request before) start) (λ item. Unit {0}) (explains_filed (request before) start) (λ item. tt) (explains_freed (request before) start) (explains_cleared (request before) start)
    event (explains_none (request before) start (reading before).known.entries refl well) in
    let same : g.added ≡ added = append_cancel_left start g.added added (sym g.is ∙ adds) in
    subst (λ l. Each (Explained (request before) (reading (event ∷ before)).known.entries) l) same (g.all (subst (λ l. Each IsWell l) (sym same) w)).each

-- A read that is answered fits its slice, where the invariant stands.

module _ (how : How) (slices : List Slice) (rows : List (ℕ × Row)) (source destination : List Request) (stands : Stands how slices rows source destination) (n : ℕ) (buf : List ℕ) (source2 destination2 : List Request)
    (answered : IsAnswered (ticket.Slice n) buf source destination source2 destination2) where
  reading_fits : (row : Row) → value_at n rows ≡ Some row → row.stage ≡ stage.Reading → not (length buf == row.slice.length) ≡ false
  reading_fits row held e = go answered
    where
      r : (n < length slices) × (row.slice ≡ slice_at slices n) × StandsAt how (slice_at slices n) row.stage (own_of n source) (own_of n destination)
      r = row_stands how slices n row rows source destination stands held

      k : IsReading (slice_at slices n) (own_of n source) (own_of n destination)
      k = subst (λ (s : Stage). StandsAt how (slice_at slices n) s (own_of n source) (own_of n destination)) e r.2

      go : IsAnswered (ticket.Slice n) buf source destination source2 destination2 → not (length buf == row.slice.length) ≡ false
      go (inl h) =
          let size : length buf ≡ row.slice.length = (read_done how n (slice_at slices n) buf source source2 (own_of n destination) k h.0).known.size ∙ sym (ap (λ (s : Slice). s.length) r.1) in
          ap not (eq-eqb (length buf) row.slice.length size)
      go (inr h) =
          let w = answers_wait n buf destination destination2 h.1 in
          let z : said_unanswered (own_of n destination) ≡ 0 = ap said_unanswered k.unchanged in
          absurd (omega (arith, w, z))

  fits : is_unfit (value_at n rows) buf ≡ false
  fits = go (value_at n rows) refl
    where
      by_stage : (row : Row) → value_at n rows ≡ Some row → (s : Stage) → row.stage ≡ s → (is_reading s && not (length buf == row.slice.length)) ≡ false
      by_stage row held stage.Reading e = reading_fits row held e
      by_stage row held stage.Last e = refl
      by_stage row held (stage.Came bytes) e = refl
      by_stage row held (stage.Writing bytes left) e = refl
      by_stage row held (stage.Holding bytes left) e = refl
      by_stage row held (stage.Finished bytes) e = refl

      go : (o : Option Row) → value_at n rows ≡ o → is_unfit o buf ≡ false
      go None is = refl
      go (Some row) is = by_stage row is row.stage refl

-- An error that calls lead to was told by one of them.

module _ (how : How) (slices : List Slice) (M : ℕ → Type 0) where
  abbrev Suits : Call Ticket → Type 0
  Suits (Chunk by bytes offset status error heard) = Unit {0}
  Suits (Extents by context offset extents error heard) = Unit {0}
  Suits (Complete by error buf verdict) = error ≢ 0 → M error
  Suits (Free by) = Unit {0}

  -- an error of a board was there before, or is so
  abbrev Leads : (before after : Option ℕ) → Type 0
  Leads before after = (error : ℕ) → after ≡ Some error → (before ≡ Some error) ⊎ M error

  same_leads : (before after : Option ℕ) → after ≡ before → Leads before after
  same_leads before after same error e = inl (sym same ∙ e)

  kept_leads : (before : Option ℕ) (code : ℕ) → (before ≡ None → M code) → Leads before (or_error before code)
  kept_leads None code m error e = inr (subst M (some_same code error e) (m refl))
  kept_leads (Some first) code m error e = inl e

  content_leads : (before : Option ℕ) (code : ℕ) → M code → Leads before (content_first before code)
  content_leads None code m error e = inr (subst M (some_same code error e) m)
  content_leads (Some first) code m error e = go (code == 71) e
    where
      go : (b : Bool) → (if b then Some code else Some first) ≡ Some error → (Some first ≡ Some error) ⊎ M error
      go true e = inr (subst M (some_same code error e) m)
      go false e = inl e

  either_leads : (b : Bool) (one other : Seen) (before : Option ℕ) → (b ≡ true → Leads before one.error) → (b ≡ false → Leads before other.error) → Leads before (if b then one else other).error
  either_leads true one other before f g = f refl
  either_leads false one other before f g = g refl

  module _ (before : Seen) (source destination source2 destination2 : List Request) (stands : before.error ≡ None → Stands how slices before.rows source destination) where
    done_leads : (by : Ticket) (buf : List ℕ) → IsAnswered by buf source destination source2 destination2 → Leads before.error (filed_done by buf before).error
    done_leads (ticket.Slice n) buf answered =
        either_leads (is_unfit (value_at n before.rows) buf) (record before { error = or_error before.error 71 }) (record before { rows = rows_with (value_at n before.rows) n buf before.rows; came = came_with (value_at n before.rows) n before.came })
        before.error
        (λ unfit. kept_leads before.error 71 (λ none. absurd (false≢true (sym (fits how slices before.rows source destination (stands none) n buf source2 destination2 answered) ∙ unfit))))
        (λ fit. same_leads before.error before.error refl)
    done_leads ticket.Extents buf answered = same_leads before.error before.error refl
    done_leads ticket.Flush buf answered = same_leads before.error before.error refl

    not_zero : (error : ℕ) → (error == 0) ≡ false → error ≢ 0
    not_zero error e same = false≢true (sym e ∙ eq-eqb error 0 same)

    is_zero : (error : ℕ) → (error == 0) ≡ true → error ≡ 0
    is_zero error e = go (cases_eq error 0)
      where
        go : (error ≡ 0) ⊎ (error ≡ 0 → ⊥) → error ≡ 0
        go (inl same) = same
        go (inr differ) = absurd (false≢true (sym (ne_eqb error 0 differ) ∙ e))

    one_leads : (call : Call Ticket) (after : Seen) → Files before call after → Tells call source destination source2 destination2 → Suits call → Leads before.error after.error
    one_leads (Chunk by bytes offset status error heard) after f t s = same_leads before.error after.error (ap (λ (b : Seen). b.error) f.1)
    one_leads (Extents by context offset extents error heard) after f t s = same_leads before.error after.error (hears_error (is_map by context) extents before after f.1)
    one_leads (Complete by error buf verdict) after f t s =
        subst (λ (b : Seen). Leads before.error b.error) (sym f.1)
        (either_leads (error == 0) (filed_done by buf before) (record before { error = content_first before.error error }) before.error
        (λ e. done_leads by buf (t (is_zero error e))) (λ e. content_leads before.error error (s (not_zero error e))))
    one_leads (Free by) after f t s = same_leads before.error after.error (ap (λ (b : Seen). b.error) f)

  all_lead : (calls : List (Call Ticket)) (before after : Seen) (source destination source2 destination2 : List Request) → OneByOne Files before calls after → TellAll calls source destination source2 destination2 →
      (before.error ≡ None → Stands how slices before.rows source destination) → Each Suits calls → Leads before.error after.error
  all_lead [] before after source destination source2 destination2 f t stands s = same_leads before.error after.error (ap (λ (b : Seen). b.error) f)
  all_lead (call ∷ calls) before after source destination source2 destination2 f t stands s = λ error e. first error (all_lead calls f.0 after t.0 t.1.0 source2 destination2 f.1.1 t.1.1.1 stands' s.1 error e)
    where
      one : OneByOne Files before (call ∷ []) f.0
      one = (f.0, (f.1.0, refl))

      stands' : f.0.error ≡ None → Stands how slices f.0.rows t.0 t.1.0
      stands' none = (calls_kept how (call ∷ []) before f.0 source destination t.0 t.1.0 one none (t.0, (t.1.0, (t.1.1.0, (refl, refl))))).on slices (stands (none_earlier (call ∷ []) before f.0 one none))

      first : (error : ℕ) → (f.0.error ≡ Some error) ⊎ M error → (before.error ≡ Some error) ⊎ M error
      first error (inl k) = one_leads before source destination t.0 t.1.0 stands call f.0 f.1.0 t.1.1.0 s.0 error k
      first error (inr m) = inr m

-- Of an event of either side.

module _ (link : ℕ) (event : Event Ticket) (histories histories2 : Histories) (happens : Happens link event histories histories2) (other : is_issue event ≡ false) where
  came_to : (error : ℕ) → CameBy (request (histories link)) error (reading (event ∷ histories link)).known.entries → CameTo (failure_by error) histories2
  came_to error c =
      let there : request (event ∷ histories link) c.cookie ≡ Some c.q = request_stays (histories link) event c.cookie other ∙ c.asked in
      record {
        link = link;
        cookie = c.cookie;
        asks = c.q;
        asked = ap (λ (h : History Ticket). request h c.cookie) happens.here ∙ there;
        came = ap (λ (h : History Ticket). failure_of (outcome_after h c.cookie)) happens.here
            ∙ ap (λ a. failure_of (outcome_of a (own c.cookie (reading (event ∷ histories link)).known.entries))) there ∙ c.came;
      }

  suits : (how : How) (slices : List Slice) (call : Call Ticket) → Explained (request (histories link)) (reading (event ∷ histories link)).known.entries call → Suits how slices (λ error. CameTo (failure_by error) histories2) call
  suits how slices (Chunk by bytes offset status error heard) e = tt
  suits how slices (Extents by context offset extents error heard) e = tt
  suits how slices (Complete by error buf verdict) e = λ some. came_to error (e some)
  suits how slices (Free by) e = tt

-- What happens on the handles of one side, whatever the other side was asked.

pub source_alone_fails : (how : How) (slices : List Slice) (link : ℕ) (event : Event Ticket) (sources sources2 : Histories) (added : List (Call Ticket)) (before after : Seen)
    (source destination : List Request) →
    AllTrack sources source → (before.error ≡ None → Stands how slices before.rows source destination) → is_issue event ≡ false → Happens link event sources sources2 →
    Adds event (sources link) added → OneByOne Files before added after →
    ToldBy sources2 before after
source_alone_fails how slices link event sources sources2 added before after source destination reads stands other happens adds files =
    let w = files_well added before after files in
    let g = event_tracks link (sources link) event source (reads link) other added adds w in
    all_lead how slices (λ error. CameTo (failure_by error) sources2) added before after source destination g.new destination files (source_all added source g.new destination g.tells) stands
    (Each-map (suits link event sources sources2 happens other how slices) added (event_explains (sources link) event added (reads link).well adds w))

pub destination_alone_fails : (how : How) (slices : List Slice) (link : ℕ) (event : Event Ticket) (destinations destinations2 : Histories) (added : List (Call Ticket)) (before after : Seen)
    (source destination : List Request) →
    AllTrack destinations destination → (before.error ≡ None → Stands how slices before.rows source destination) → is_issue event ≡ false → Happens link event destinations destinations2 →
    Adds event (destinations link) added → OneByOne Files before added after →
    ToldBy destinations2 before after
destination_alone_fails how slices link event destinations destinations2 added before after source destination changes stands other happens adds files =
    let w = files_well added before after files in
    let g = event_tracks link (destinations link) event destination (changes link) other added adds w in
    all_lead how slices (λ error. CameTo (failure_by error) destinations2) added before after source destination source g.new files (destination_all added destination g.new source g.tells) stands
    (Each-map (suits link event destinations destinations2 happens other how slices) added (event_explains (destinations link) event added (changes link).well adds w))

pub source_fails : SourceFails
source_fails how slices link event sources sources2 destinations added before after source destination reads changes stands other happens adds files =
    source_alone_fails how slices link event sources sources2 added before after source destination reads stands other happens adds files

pub destination_fails : DestinationFails
destination_fails how slices link event sources destinations destinations2 added before after source destination reads changes stands other happens adds files =
    destination_alone_fails how slices link event destinations destinations2 added before after source destination changes stands other happens adds files
