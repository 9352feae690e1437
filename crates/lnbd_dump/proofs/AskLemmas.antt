-- A command is asked, and what it came to is taken.
use Rattle.std.proofs.Common.{◌≡◌, ℕ, ◌+◌, ◌-◌, ◌<◌, ◌≤◌, ◌^◌, Bool, true, false, List, [], ◌∷◌, length, get_or, Option, Some, None, Result, Ok, Err, refl, sym, ◌∙◌, ap, subst, arith}
use Rattle.std.specs.Prelude.{IfErr, IfOk, OnErr, slice_get, if◌then◌else◌, ◌&&◌, nat_le, nat_lt}
use Rattle.std.specs.Option.{option_map}
use Rattle.std.proofs.lemmas.Bool.{false≢true, le-leb, lt-ltb}
use Rattle.lnbd_model.specs.declared.failure.Failure.{Failure}
use Rattle.lnbd_model.specs.declared.state.State.{State}
use Rattle.lnbd_model.specs.Kind.{is_read}
use Rattle.lnbd_extents.specs.Positions.{within}
use Rattle.lnbd_outcome.specs.Outcome.{Done, Unfinished, Failed, bytes, error_number, failure, outcome, verdict}
use Rattle.lnbd_outcome.specs.Pieces.{Piece, Query, is_completed}
use Rattle.lnbd_history.specs.Answers as answer
use Rattle.lnbd_history.specs.declared.kinds.Completed.TheVariants as completed
use Rattle.lnbd_history.specs.Commands.{Command, Request, query_of}
use Rattle.lnbd_history.specs.Entries.{calls, own, pieces}
use Rattle.lnbd_history.specs.Events.{ClearLog, History, Issue, Refuse, Retire}
use Rattle.lnbd_history.specs.History.{asked, is_extended, reading, request}
use Rattle.lnbd_machine.specs.Machine.{Machine}
use Rattle.lnbd_standing.specs.Standing.{StandsFor}
use Rattle.lnbd_standing.proofs.Standing.{stands_right}
use Rattle.lnbd_handle.specs.declared.issue.IssueFault.{IssueFault}
use Rattle.lnbd_handle.specs.declared.issue.IssueFault.TheVariants as fault
use Rattle.lnbd_handle.specs.Histories as histories
use Rattle.lnbd_handle.specs.Histories.{Adds, AddsFault, ForEach}
use Rattle.lnbd_handle.specs.Issues.{read_of}
use Rattle.lnbd_asked.specs.Driven.{Spelled, outcome_after}
use Rattle.lnbd_asked.specs.Transcript.{outcome_of}
use Rattle.lnbd_kept.specs.Kept.{AllKeep}
use Rattle.lnbd_kept.proofs.FiledLemmas.{done_is_outcome}
use Rattle.lnbd_drives.proofs.Framing.{done_silent}
use Rattle.lnbd_drives.specs.Driving.{happened}
use Rattle.lnbd_poll.specs.Held.{Held}
use Rattle.lnbd_poll.specs.Lends.{with_handle}
use Rattle.lnbd_poll.specs.Seen.{Seen}
use Rattle.lnbd_tracks.proofs.Outcomes.{bytes_come_back}
use Rattle.lnbd_waits.specs.Waits.{Holds}
use Rattle.lnbd_waits.proofs.WaitLemmas.{at_handle}
use Rattle.lnbd_dump.specs.declared.reader.Latest.{Latest}
use Rattle.lnbd_dump.specs.declared.reader.Reader.{Reader}
use Rattle.lnbd_dump.specs.declared.stop.Stop.{Stop}
use Rattle.lnbd_dump.specs.declared.stop.Stop.TheVariants as stop
use Rattle.lnbd_dump.specs.Asks.{AsksOne, AsksRead, AsksStatus, reading_of, status_of}
use Rattle.lnbd_dump.specs.Heard.{Hears}
use Rattle.lnbd_dump.specs.HeardLaws.{keeps_both}
use Rattle.lnbd_dump.specs.Leads.{Acts, By_read, IsRead, Leads, Tells}
use Rattle.lnbd_dump.specs.Showing.{StaysWell}
use Rattle.lnbd_dump.specs.Stops.{HasStop, IsStop}
use Rattle.lnbd_dump.specs.Takes.{Stands, TakesResult}
use Rattle.lnbd_dump.proofs.LaterLemmas.{later_event}
use Rattle.lnbd_dump.proofs.LeadLemmas.{leads_event, leads_none}

-- ---- A command is asked.

fits_length : (b : Bool) (size : ℕ) → size ≤ 134217728 → size < 256 ^ (if b then 8 else 4)
fits_length true size small = omega (arith, small)
fits_length false size small = omega (arith, small)

spelled_read : (extended : Bool) (cookie offset size : ℕ) → cookie < 2 ^ 64 → offset < 2 ^ 64 → size ≤ 134217728 → Spelled extended cookie (reading_of offset size)
spelled_read extended cookie offset size small low few = record {
  cookie_ = small;
  flags = omega arith;
  own = refl;
  offset = low;
  length_ = fits_length extended size few;
  data_ = refl;
  ranged = λ e. absurd (false≢true (sym e));
}

spelled_status : (extended : Bool) (cookie offset size : ℕ) → cookie < 2 ^ 64 → offset < 2 ^ 64 → size ≤ 134217728 → Spelled extended cookie (status_of offset size)
spelled_status extended cookie offset size small low few = record {
  cookie_ = small;
  flags = omega arith;
  own = refl;
  offset = low;
  length_ = fits_length extended size few;
  data_ = refl;
  ranged = λ e. absurd (false≢true (sym e));
}

-- where the handle stands then, with this asked
asked_one : (held : Held Reader) (others : List (Held Reader)) (handle handle' : Machine Reader) (command : Command Reader) (cookie : ℕ) (seen : Seen Reader) → Holds (held ∷ others) seen
    → StandsFor 1024 (Issue command ∷ seen.history) handle' → cookie ≡ handle'.known.issued → ((n : ℕ) → n ≡ cookie → Spelled (is_extended (reading seen.history).known) n command)
    → (after : Seen Reader) × Holds (with_handle (held ∷ others) 0 handle') after × Leads false seen [] after after × AsksOne command cookie seen.history after.history
asked_one held others handle handle' command cookie seen at stands issued spells =
    let next : handle'.known.issued ≡ (asked seen.history).issued + 1 = (stands_right 1024 (Issue command ∷ seen.history) handle' stands).issued in
    let is : (asked seen.history).issued + 1 ≡ cookie = sym (issued ∙ next) in (
      happened (Issue command) seen,
      (record { link = at.0.link; stands = stands; unread = at.0.unread }, at.1),
      leads_event seen (Issue command) refl (spells ((asked seen.history).issued + 1) is) refl (λ k. k) (later_event (Issue command) seen.history refl (λ k. k)),
      record { is = refl; number = sym is },
    )

pub asks_read : (all : List (Held Reader)) (handle handle' : Machine Reader) (buffer : List ℕ) (offset size cookie : ℕ) (seen : Seen Reader) → option_map (λ held. held.handle) (slice_get all 0) ≡ Some handle → Holds all seen
    → length buffer ≡ size → size ≤ 134217728 → offset < 2 ^ 64 → cookie < 2 ^ 64 → cookie ≡ handle'.known.issued → ForEach handle (Adds (Issue (read_of buffer offset (record {}) 0)) handle')
    → (after : Seen Reader) × Holds (with_handle all 0 handle') after × Leads false seen [] after after × AsksRead cookie offset size seen.history after.history
asks_read [] handle handle' buffer offset size cookie seen is at long few low small issued adds = absurd at
asks_read (held ∷ others) handle handle' buffer offset size cookie seen is at long few low small issued adds =
    let s = adds seen.history (at_handle (held ∷ others) handle seen is at) in
    let bare : StandsFor 1024 (Issue (reading_of offset (length buffer)) ∷ seen.history) handle' =
    record { lawful = (s.lawful.0, s.lawful.1, (s.lawful.2.0, λ w. absurd (false≢true w))); going = s.going; same = s.same } in
    let stands : StandsFor 1024 (Issue (reading_of offset size) ∷ seen.history) handle' = subst (λ (n : ℕ). StandsFor 1024 (Issue (reading_of offset n) ∷ seen.history) handle') long bare in
    asked_one held others handle handle' (reading_of offset size) cookie seen at stands issued
    (λ n same. spelled_read (is_extended (reading seen.history).known) n offset size (subst (λ (k : ℕ). k < 2 ^ 64) (sym same) small) low few)

pub asks_status : (all : List (Held Reader)) (handle handle' : Machine Reader) (offset size cookie : ℕ) (seen : Seen Reader) → option_map (λ held. held.handle) (slice_get all 0) ≡ Some handle → Holds all seen
    → size ≤ 134217728 → offset < 2 ^ 64 → cookie < 2 ^ 64 → cookie ≡ handle'.known.issued → ForEach handle (Adds (Issue (status_of offset size)) handle')
    → (after : Seen Reader) × Holds (with_handle all 0 handle') after × Leads false seen [] after after × AsksStatus cookie offset size seen.history after.history
asks_status [] handle handle' offset size cookie seen is at few low small issued adds = absurd at
asks_status (held ∷ others) handle handle' offset size cookie seen is at few low small issued adds =
    asked_one held others handle handle' (status_of offset size) cookie seen at (adds seen.history (at_handle (held ∷ others) handle seen is at)) issued
    (λ n same. spelled_status (is_extended (reading seen.history).known) n offset size (subst (λ (k : ℕ). k < 2 ^ 64) (sym same) small) low few)

-- a command that is not asked was refused, or memory ran out
pub not_asked : (result : Result ℕ (IssueFault Reader)) (failed : IssueFault Reader) (command : Command Reader) (world world' : Latest) (all : List (Held Reader)) (handle handle' : Machine Reader) (seen : Seen Reader) → result ≡ Err failed
    → option_map (λ held. held.handle) (slice_get all 0) ≡ Some handle → Holds all seen → IfErr result (λ told. ForEach handle (AddsFault Hears command told handle' world world'))
    → (after : Seen Reader) × Holds (with_handle all 0 handle') after × Leads false seen [] after after × StaysWell seen.history after.history
not_asked result failed command world world' [] handle handle' seen fails is at adds = absurd at
not_asked (Ok cookie) failed command world world' (held ∷ others) handle handle' seen fails is at adds = absurd (cc fails)
not_asked (Err (fault.NoMemory buf first done)) failed command world world' (held ∷ others) handle handle' seen fails is at adds =
    let stands = at_handle (held ∷ others) handle seen is at in
    (seen, (record { link = at.0.link; stands = adds seen.history stands; unread = at.0.unread }, at.1), leads_none false seen, λ info w. w)
not_asked (Err (fault.Refused why buf)) failed command world world' (held ∷ others) handle handle' seen fails is at adds =
    let stands = at_handle (held ∷ others) handle seen is at in
    let added = adds seen.history stands in
    let keeps : AllKeep (calls (reading seen.history).known.entries) → AllKeep (calls (reading (Refuse command why ∷ seen.history)).known.entries) =
    λ k. subst AllKeep (sym added.1.told) (keeps_both (calls (reading seen.history).known.entries) added.1.calls k added.1.world.keeps) in (
      happened (Refuse command why) seen,
      (record { link = at.0.link; stands = added.0; unread = at.0.unread }, at.1),
      leads_event seen (Refuse command why) refl tt refl (λ k. k) (later_event (Refuse command why) seen.history refl keeps),
      λ info w. w,
    )

-- The notes are dropped.
pub log_cleared : (all : List (Held Reader)) (handle handle' : Machine Reader) (seen : Seen Reader) → option_map (λ held. held.handle) (slice_get all 0) ≡ Some handle → Holds all seen → ForEach handle (Adds ClearLog handle')
    → (after : Seen Reader) × Holds (with_handle all 0 handle') after × Leads false seen [] after after × (after.history ≡ ClearLog ∷ seen.history)
log_cleared [] handle handle' seen is at adds = absurd at
log_cleared (held ∷ others) handle handle' seen is at adds =
    let stands = at_handle (held ∷ others) handle seen is at in (
      happened ClearLog seen,
      (record { link = at.0.link; stands = adds seen.history stands; unread = at.0.unread }, at.1),
      leads_event seen ClearLog refl tt refl (λ k. k) (later_event ClearLog seen.history refl (λ k. k)),
      refl,
    )

-- ---- What a command came to is taken.

retired : (held : Held Reader) (others : List (Held Reader)) (handle' : Machine Reader) (cookie : ℕ) (seen : Seen Reader) → Holds (held ∷ others) seen → StandsFor 1024 (Retire cookie ∷ seen.history) handle'
    → Holds (with_handle (held ∷ others) 0 handle') (happened (Retire cookie) seen) × Leads false seen [] (happened (Retire cookie) seen) (happened (Retire cookie) seen)
retired held others handle' cookie seen at stands = (
  (record { link = at.0.link; stands = stands; unread = at.0.unread }, at.1),
  leads_event seen (Retire cookie) refl tt refl (λ k. k) (later_event (Retire cookie) seen.history refl (λ k. k)),
)

pub takes_done : (all : List (Held Reader)) (handle handle' : Machine Reader) (kept : List ℕ) (cookie : ℕ) (seen : Seen Reader) → option_map (λ held. held.handle) (slice_get all 0) ≡ Some handle → Holds all seen
    → ForEach handle (λ history. completed.Done kept ≡ answer.completed_after history cookie) → ForEach handle (Adds (Retire cookie) handle')
    → (after : Seen Reader) × Holds (with_handle all 0 handle') after × Leads false seen [] after after × TakesResult cookie kept seen.history after.history
takes_done [] handle handle' kept cookie seen is at told adds = absurd at
takes_done (held ∷ others) handle handle' kept cookie seen is at told adds =
    let stands = at_handle (held ∷ others) handle seen is at in
    let r = retired held others handle' cookie seen at (adds seen.history stands) in
    (happened (Retire cookie) seen, r.0, r.1, record { is = refl; done = sym (told seen.history stands) })

stop_is : (at : State) (error : ℕ) (why : Stop) (cookie : ℕ) (buf : List ℕ) (history : History Reader) → Stands at error why → at ≡ answer.state_after (Retire cookie ∷ history) → completed.Failed error buf ≡ answer.completed_after history cookie → IsStop (Retire cookie ∷ history) why
stop_is at error (stop.Died cause) cookie buf history stands same told = sym same ∙ stands
stop_is at error (stop.Failed number) cookie buf history stands same told =
    record { earlier = history; since = Retire cookie ∷ []; is = refl; cookie = cookie; buf = buf; told = sym told ∙ ap (λ (n : ℕ). completed.Failed n buf) (sym stands) }
stop_is at error (stop.Halted why) cookie buf history stands same told = absurd stands
stop_is at error (stop.Broke breach) cookie buf history stands same told = absurd stands
stop_is at error stop.Output cookie buf history stands same told = absurd stands
stop_is at error (stop.Range size) cookie buf history stands same told = absurd stands
stop_is at error (stop.Uneven size block) cookie buf history stands same told = absurd stands

pub takes_failed : (all : List (Held Reader)) (handle handle' : Machine Reader) (error : ℕ) (buf : List ℕ) (cookie : ℕ) (at : State) (why : Stop) (seen : Seen Reader) → option_map (λ held. held.handle) (slice_get all 0) ≡ Some handle → Holds all seen
    → ForEach handle (λ history. completed.Failed error buf ≡ answer.completed_after history cookie) → ForEach handle (Adds (Retire cookie) handle') → ((s : Seen Reader) → Holds (with_handle all 0 handle') s → at ≡ answer.state_after s.history) → Stands at error why
    → (after : Seen Reader) × Holds (with_handle all 0 handle') after × Leads false seen [] after after × IsStop after.history why × StaysWell seen.history after.history
takes_failed [] handle handle' error buf cookie at why seen is held told adds state_is stands = absurd held
takes_failed (first ∷ others) handle handle' error buf cookie at why seen is held told adds state_is stands =
    let now = at_handle (first ∷ others) handle seen is held in
    let r = retired first others handle' cookie seen held (adds seen.history now) in
    (happened (Retire cookie) seen, r.0, r.1, stop_is at error why cookie buf seen.history stands (state_is (happened (Retire cookie) seen) r.0) (told seen.history now), λ info w. w)

-- nothing was had
pub takes_none : (all : List (Held Reader)) (handle handle' : Machine Reader) (seen : Seen Reader) → option_map (λ held. held.handle) (slice_get all 0) ≡ Some handle → Holds all seen → ForEach handle (histories.Stays handle')
    → (after : Seen Reader) × Holds (with_handle all 0 handle') after × Leads false seen [] after after × StaysWell seen.history after.history
takes_none [] handle handle' seen is held stays = absurd held
takes_none (first ∷ others) handle handle' seen is held stays =
    (seen, (record { link = held.0.link; stands = stays seen.history (at_handle (first ∷ others) handle seen is held); unread = held.0.unread }, held.1), leads_none false seen, λ info w. w)

-- there is still one
pub one_left : (all : List (Held Reader)) (handle : Machine Reader) → length all ≡ 1 → 0 < length (with_handle all 0 handle)
one_left [] handle one = absurd (omega (arith, one))
one_left (held ∷ others) handle one = omega arith

-- of so many bytes
pub sized : (old new : List (Held Reader)) (result : Result ℕ Stop) (offset n size : ℕ) → n ≡ size → Acts old new (λ before after. HasStop result after.history × OnErr result (StaysWell before.history after.history) × IfOk result (λ cookie. AsksRead cookie offset n before.history after.history))
    → Acts old new (λ before after. HasStop result after.history × OnErr result (StaysWell before.history after.history) × IfOk result (λ cookie. AsksRead cookie offset size before.history after.history))
sized old new result offset n size is acts = subst (λ (k : ℕ). Acts old new (λ before after. HasStop result after.history × OnErr result (StaysWell before.history after.history) × IfOk result (λ cookie. AsksRead cookie offset k before.history after.history))) is acts

-- What is done has no error, and its bytes are those that came.
record IsWell (query : Query) (all : List Piece) (kept : List ℕ) : Type 0 where
  none : error_number (failure query all) ≡ 0
  are : bytes query all ≡ kept

well : (query : Query) (all : List Piece) (kept : List ℕ) → outcome query all ≡ Done kept → IsWell query all kept
well query all kept e = go (is_completed all) (failure query all) refl e
  where
    done_same : (one other : List ℕ) → Done one ≡ Done other → one ≡ other
    done_same one other d = cc

    unfinished : Unfinished ≡ Done kept → ⊥
    unfinished d = cc

    failed : (f : Failure) (b : List ℕ) → Failed f b ≡ Done kept → ⊥
    failed f b d = cc

    go : (b : Bool) (f : Option Failure) → failure query all ≡ f → (if b then verdict f (bytes query all) else Unfinished) ≡ Done kept → IsWell query all kept
    go true None is d = record { none = ap error_number is; are = done_same (bytes query all) kept d }
    go true (Some f) is d = absurd (failed f (bytes query all) d)
    go false f is d = absurd (unfinished d)

within_it : (at long offset size i : ℕ) → at ≡ offset → long ≡ size → i < size → within (at, long) (offset + i) ≡ true
within_it at long offset size i e f lt =
    let low : nat_le at (offset + i) ≡ true = le-leb at (offset + i) (omega (arith, e)) in
    let high : nat_lt (offset + i) (at + long) ≡ true = lt-ltb (offset + i) (at + long) (omega (arith, e, f, lt)) in
    ap (λ (b : Bool). b && nat_lt (offset + i) (at + long)) low ∙ high

place : (offset i at : ℕ) → at ≡ offset → i ≡ offset + i - at
place offset i at e = omega (arith, e)

-- what it came to where no callback has a say
pub silent_done : (history : History Reader) (cookie : ℕ) (asks : Request Reader) (kept : List ℕ) → request history cookie ≡ Some asks → AllKeep (calls (reading history).known.entries) → answer.completed_after history cookie ≡ completed.Done kept → outcome_after history cookie ≡ Done kept
silent_done history cookie asks kept there keep done =
    let came : answer.outcome_after history cookie ≡ Done kept = done_is_outcome history cookie kept keep done in
    let mine : answer.outcome_of (Some asks) (own cookie (reading history).known.entries) ≡ Done kept = sym (ap (λ a. answer.outcome_of a (own cookie (reading history).known.entries)) there) ∙ came in
    ap (λ a. outcome_of a (own cookie (reading history).known.entries)) there ∙ done_silent (own cookie (reading history).known.entries) (query_of asks) kept mine

-- The bytes of a read that is done were told, one of each of its positions.
pub read_told : (history : History Reader) (cookie offset size : ℕ) (kept : List ℕ) → IsRead history cookie offset size → AllKeep (calls (reading history).known.entries) → answer.completed_after history cookie ≡ completed.Done kept
    → (length kept ≡ size) × ((i : ℕ) → i < size → Tells history (offset + i) (get_or kept i 0))
read_told history cookie offset size kept read keep done =
    let came : answer.outcome_after history cookie ≡ Done kept = done_is_outcome history cookie kept keep done in
    let mine : answer.outcome_of (Some read.asks) (own cookie (reading history).known.entries) ≡ Done kept = sym (ap (λ a. answer.outcome_of a (own cookie (reading history).known.entries)) read.there) ∙ came in
    let w = well (query_of read.asks) (pieces (own cookie (reading history).known.entries)) kept mine in
    let back = bytes_come_back read.asks (own cookie (reading history).known.entries) (λ other. read.payload) w.none in
    let long : length kept ≡ size = ap (λ (l : List ℕ). length l) (sym w.are) ∙ back.read (ap is_read read.kind) ∙ read.length_ in (
      long,
      λ i lt. By_read (record {
        cookie = cookie;
        asks = read.asks;
        bytes = kept;
        there = read.there;
        kind = read.kind;
        done = silent_done history cookie read.asks kept read.there keep done;
        has_it = within_it read.asks.offset read.asks.length offset size i read.offset read.length_ lt;
        is = ap (λ (n : ℕ). get_or kept n 0) (place offset i read.asks.offset read.offset);
      }),
    )
