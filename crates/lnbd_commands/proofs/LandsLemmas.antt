-- A simple reply lands as the machine says, and so does a death.
use Rattle.std.proofs.Common.{◌≡◌, ℕ, ◌-◌, Bool, true, false, not, ◌&&◌, ◌||◌, List, [], get_or, length, Option, Some, None, refl, ap, sym, ◌∙◌, arith, ◌==◌, if◌then◌else◌}
use Rattle.std.specs.Prelude.{replicate}
use Rattle.std.proofs.lemmas.Grind.{common_steps}
use Rattle.lnbd_extents.specs.Positions.{within, holds, any_at, all_at}
use Rattle.lnbd_extents.specs.Ranges.{with_positions}
use Rattle.lnbd_extents.proofs.PositionLaws.{all_intro}
use Rattle.lnbd_extents.proofs.RangeLaws.{holds-with_positions}
use Rattle.lnbd_model.specs.Errors.{error_of}
use Rattle.lnbd_model.specs.Kind.{is_read, is_status}
use Rattle.lnbd_model.specs.declared.errors.TheConstants.{EPROTO, ENOTCONN}
use Rattle.lnbd_model.specs.declared.failure.Failure.{Failure}
use Rattle.lnbd_model.specs.declared.failure.Origin.TheVariants as from
use Rattle.lnbd_model.specs.declared.kind.Kind.{Kind}
use Rattle.lnbd_model.specs.declared.kind.Kind.TheVariants.{Read, Write, Flush, Trim, Cache, Zero, BlockStatus}
use Rattle.lnbd_records.specs.Content.{Data, Error, Bare, Nothing}
use Rattle.lnbd_chunks.specs.Chunk.{Waiting}
use Rattle.lnbd_chunks.specs.Reply.{content_size, simple_content}
use Rattle.lnbd_outcome.specs.Pieces.{Query, Framed, Lost, is_whole, content_of}
use Rattle.lnbd_outcome.specs.Outcome.{buffer, error_number, failing, or_else}
use Rattle.lnbd_outcome.specs.Hearing.{Hearing, Chunk, read_data, content_heard}
use Rattle.lnbd_outcome.specs.Facts.{Facts, is_bad, is_told, telling, facts_with, heard_by, failure_told}
use Rattle.lnbd_callbacks.specs.Calls.{Call}
use Rattle.lnbd_callbacks.specs.Desk.{Log}
use Rattle.lnbd_history.specs.Entries.{heard_error, hears}
use Rattle.lnbd_machine.specs.Machine.{Row, query_in, heard_in, hearing, result_bytes, told_bytes}
use Rattle.lnbd_commands.specs.Lands.{Landing, lost, Hears, Lands, known_of, reply_item, reply_bad, reply_failure, reply_hearing}
use Rattle.lnbd_commands.specs.Rows.{IsReal}
use Rattle.lnbd_commands.proofs.LandLemmas.{each_content}
use Rattle.lnbd_commands.proofs.RealLemmas.{or_none, real_failing, real_or, real_zero, first_none, second_none, failed_first}
use Rattle.lnbd_commands.proofs.SimpleLemmas.{told_failing}

zero_of : (n : ℕ) → (n == 0) ≡ true → n ≡ 0
zero_of n e = grind (arith, common_steps)

-- What a simple reply of the right size does to a command of which these facts are known.
module _ (flags offset size : ℕ) (facts : Facts) (bytes : List ℕ) where
  abbrev asked : Kind → Query
  asked kind = record { kind = kind; flags = flags; offset = offset; length = size; payload = [] }

  abbrev waiting : Kind → Waiting
  waiting kind = record { kind = kind; offset = offset; length = size; faults = facts.faults }

  abbrev bad_by : Kind → ℕ → Bool
  bad_by kind error = (error == 0) && (if is_read kind then (is_whole (asked kind) && facts.came) || any_at (holds facts.told) offset size else is_status kind)

  -- whether it has a content fault
  bad_done : (kind : Kind) → length bytes ≡ (if is_read kind then size else 0) → is_bad (asked kind) [] facts (if is_read kind then Data offset bytes else Bare)
      ≡ (if is_read kind then (is_whole (asked kind) && facts.came) || any_at (holds facts.told) offset size else is_status kind)
  bad_done Read sized = rw sized refl
  bad_done Write sized = refl
  bad_done Flush sized = refl
  bad_done Trim sized = refl
  bad_done Cache sized = refl
  bad_done Zero sized = refl
  bad_done BlockStatus sized = refl

  pub bad_as : (kind : Kind) (error : ℕ) → length bytes ≡ content_size (waiting kind) error → is_bad (asked kind) [] facts (simple_content (waiting kind) error bytes) ≡ bad_by kind error
  bad_as kind error =
      elim (error == 0) as (λ b. length bytes ≡ (if b then if is_read kind then size else 0 else 0) →
      is_bad (asked kind) [] facts (if b then if is_read kind then Data offset bytes else Bare else Error error)
      ≡ (b && (if is_read kind then (is_whole (asked kind) && facts.came) || any_at (holds facts.told) offset size else is_status kind))) [
        | true ↦ λ sized. bad_done kind sized
        | false ↦ λ sized. refl
      ]

  -- what the callback hears
  heard_done : (kind : Kind) (before : ℕ) → content_heard (asked kind) [] before (if is_read kind then Data offset bytes else Bare) ≡ (if is_read kind then Some (Chunk bytes offset read_data before) else None)
  heard_done Read before = refl
  heard_done Write before = refl
  heard_done Flush before = refl
  heard_done Trim before = refl
  heard_done Cache before = refl
  heard_done Zero before = refl
  heard_done BlockStatus before = refl

  heard_good : (kind : Kind) (error before : ℕ) → content_heard (asked kind) [] before (simple_content (waiting kind) error bytes) ≡ (if not (error == 0) then None else if is_read kind then Some (Chunk bytes offset read_data before) else None)
  heard_good kind error before =
      elim (error == 0) as (λ b. content_heard (asked kind) [] before (if b then if is_read kind then Data offset bytes else Bare else Error error)
      ≡ (if not b then None else if is_read kind then Some (Chunk bytes offset read_data before) else None)) [
        | true ↦ heard_done kind before
        | false ↦ refl
      ]

  heard_if : (bad : Bool) (kind : Kind) (error before : ℕ) →
      (if bad then None else content_heard (asked kind) [] before (simple_content (waiting kind) error bytes)) ≡ reply_hearing kind bad error offset bytes before
  heard_if true kind error before = refl
  heard_if false kind error before = heard_good kind error before

  pub heard_as : (kind : Kind) (error : ℕ) → length bytes ≡ content_size (waiting kind) error →
      heard_by (asked kind) facts [] (Framed (simple_content (waiting kind) error bytes) true) ≡ reply_hearing kind (bad_by kind error) error offset bytes (error_number facts.failure)
  heard_as kind error sized =
      ap (λ (b : Bool). if b then None else content_heard (asked kind) [] (error_number facts.failure) (simple_content (waiting kind) error bytes)) (bad_as kind error sized)
      ∙ heard_if (bad_by kind error) kind error (error_number facts.failure)

  -- what it fails the command with
  told_as : (bad : Bool) (kind : Kind) (error : ℕ) → failure_told bad (Framed (simple_content (waiting kind) error bytes) true) ≡ reply_failure bad error
  told_as true kind error = refl
  told_as false kind error =
      elim (error == 0) as (λ b. (error == 0) ≡ b → failure_told false (Framed (if b then if is_read kind then Data offset bytes else Bare else Error error) true) ≡ failing from.Told (error_of error)) [
        | true ↦ λ e. go kind ∙ ap (λ n. failing from.Told (error_of n)) (sym (zero_of error e))
        | false ↦ λ e. refl
      ] refl
    where
      go : (kind : Kind) → failure_told false (Framed (if is_read kind then Data offset bytes else Bare) true) ≡ failing from.Told (error_of 0)
      go Read = refl
      go Write = refl
      go Flush = refl
      go Trim = refl
      go Cache = refl
      go Zero = refl
      go BlockStatus = refl

  -- a reply without error and without a fault tells all
  all_data : all_at (holds (with_positions offset size facts.told)) offset size ≡ true
  all_data = all_intro (holds (with_positions offset size facts.told)) offset size (λ p low high.
      let here : within (offset, size) p ≡ true = grind (arith, common_steps) in
      holds-with_positions offset size facts.told p ∙ ap (λ (b : Bool). b || holds facts.told p) here)

  told_all : (kind : Kind) (heard : ℕ) → length bytes ≡ (if is_read kind then size else 0) → is_bad (asked kind) [] facts (if is_read kind then Data offset bytes else Bare) ≡ false →
      is_told (asked kind) [] (telling (asked kind) [] (Framed (if is_read kind then Data offset bytes else Bare) true) heard facts) ≡ true
  told_all Read heard sized fine = rw (fine, sized) all_data
  told_all Write heard sized fine = refl
  told_all Flush heard sized fine = refl
  told_all Trim heard sized fine = refl
  told_all Cache heard sized fine = refl
  told_all Zero heard sized fine = refl
  told_all BlockStatus heard sized fine = absurd (cc (fine))

  lacks_none : (kind : Kind) (error heard : ℕ) → length bytes ≡ content_size (waiting kind) error → (bad : Bool) → bad_by kind error ≡ bad →
      or_else (or_else (or_else facts.failure (reply_failure bad error)) (failing from.Callback heard))
      (if true && not (is_told (asked kind) [] (telling (asked kind) [] (Framed (simple_content (waiting kind) error bytes) true) heard facts)) then failing from.Content EPROTO else None)
      ≡ or_else (or_else facts.failure (reply_failure bad error)) (failing from.Callback heard)
  lacks_none kind error heard sized true e = failed_first facts.failure (record { origin = from.Content; error = EPROTO }) (failing from.Callback heard) _
  lacks_none kind error heard sized false e =
      elim (error == 0) as (λ b. (error == 0) ≡ b → length bytes ≡ (if b then if is_read kind then size else 0 else 0) →
      is_bad (asked kind) [] facts (if b then if is_read kind then Data offset bytes else Bare else Error error) ≡ false →
      or_else (or_else (or_else facts.failure (failing from.Told (error_of error))) (failing from.Callback heard))
      (if true && not (is_told (asked kind) [] (telling (asked kind) [] (Framed (if b then if is_read kind then Data offset bytes else Bare else Error error) true) heard facts)) then failing from.Content EPROTO else None)
      ≡ or_else (or_else facts.failure (failing from.Told (error_of error))) (failing from.Callback heard)) [
        | true ↦ λ z long fine. rw (told_all kind heard long fine) (or_none (or_else (or_else facts.failure (failing from.Told (error_of error))) (failing from.Callback heard)))
        | false ↦ λ z long fine. rw (told_failing error z) (failed_first facts.failure (record { origin = from.Told; error = error_of error }) (failing from.Callback heard) _)
      ] refl sized (bad_as kind error sized ∙ e)

  pub fails_as : (kind : Kind) (error heard : ℕ) → length bytes ≡ content_size (waiting kind) error →
      (facts_with (asked kind) [] (Framed (simple_content (waiting kind) error bytes) true) heard facts).failure
      ≡ or_else (or_else facts.failure (reply_failure (bad_by kind error) error)) (failing from.Callback heard)
  fails_as kind error heard sized =
      ap (λ (t : Option Failure). or_else (or_else (or_else facts.failure t) (failing from.Callback heard))
      (if true && not (is_told (asked kind) [] (telling (asked kind) [] (Framed (simple_content (waiting kind) error bytes) true) heard facts)) then failing from.Content EPROTO else None))
      (told_as (is_bad (asked kind) [] facts (simple_content (waiting kind) error bytes)) kind error ∙ ap (λ (b : Bool). reply_failure b error) (bad_as kind error sized))
      ∙ lacks_none kind error heard sized (bad_by kind error) refl

-- Where the command came to no error, the reply had none, and no fault.
good_reply : (bad : Bool) (error : ℕ) → reply_failure bad error ≡ None → (error ≡ 0) × (bad ≡ false)
good_reply true error e = absurd (cc (e))
good_reply false error e =
    elim (error == 0) as (λ b. (error == 0) ≡ b → (error ≡ 0) × (false ≡ false)) [
      | true ↦ λ z. (zero_of error z, refl)
      | false ↦ λ z. let some : Some (record { origin = from.Told; error = error_of error }) ≡ None = sym (told_failing error z) ∙ e in absurd (cc (some))
    ] refl

pub good_end : (early : Option Failure) (bad : Bool) (error heard : ℕ) → IsReal early → error_number (or_else (or_else early (reply_failure bad error)) (failing from.Callback heard)) ≡ 0 → (error ≡ 0) × (bad ≡ false)
good_end early bad error heard real done =
    let told : IsReal (reply_failure bad error) = real_reply bad error in
    let none = real_zero _ (real_or (or_else early (reply_failure bad error)) (failing from.Callback heard) (real_or early (reply_failure bad error) real told) (real_failing from.Callback heard)) done in
    good_reply bad error (second_none early (reply_failure bad error) (first_none (or_else early (reply_failure bad error)) (failing from.Callback heard) none))
  where
    real_reply : (bad : Bool) (error : ℕ) → IsReal (reply_failure bad error)
    real_reply true error = real_failing from.Content EPROTO
    real_reply false error = real_failing from.Told (error_of error)

-- What goes to the completion callback.
land_bytes : (kind : Kind) (flags offset size faults error failed : ℕ) (bad : Bool) (bytes old : List ℕ) →
    length bytes ≡ content_size (record { kind = kind; offset = offset; length = size; faults = faults }) error → (failed ≡ 0 → (error ≡ 0) × (bad ≡ false)) →
    buffer kind size old failed bytes
    ≡ buffer kind size (told_bytes bad kind offset size (simple_content (record { kind = kind; offset = offset; length = size; faults = faults }) error bytes) old) failed
    (told_bytes bad kind offset size (simple_content (record { kind = kind; offset = offset; length = size; faults = faults }) error bytes) old)
land_bytes Read flags offset size faults error failed bad bytes old h k =
    elim (failed == 0) as (λ b. (failed == 0) ≡ b →
    (if b then bytes else replicate size 0)
    ≡ (if b then told_bytes bad Read offset size (simple_content (record { kind = Read; offset = offset; length = size; faults = faults }) error bytes) old else replicate size 0)) [
      | true ↦ λ e.
          let none = k (zero_of failed e) in
          let long : length bytes ≡ size = rw none.0 at h in
          rw (none.0, none.1) (sym (each_content offset size (λ p. get_or old (p - offset) 0) bytes long))
      | false ↦ λ e. refl
    ] refl
land_bytes Write flags offset size faults error failed bad bytes old h k = refl
land_bytes Flush flags offset size faults error failed bad bytes old h k = refl
land_bytes Trim flags offset size faults error failed bad bytes old h k = refl
land_bytes Cache flags offset size faults error failed bad bytes old h k = refl
land_bytes Zero flags offset size faults error failed bad bytes old h k = refl
land_bytes BlockStatus flags offset size faults error failed bad bytes old h k = refl

-- a death
module _ {K : Type 0} (row : Row K) (landing : Landing K) (unheard : landing.heard ≡ None) (fails : landing.failure ≡ or_else row.facts.failure (failing from.Lost ENOTCONN))
    (fills : landing.bytes ≡ buffer row.kind row.length row.bytes (error_number landing.failure) row.bytes) where
  lost_failure : landing.failure ≡ (hearing row [] Lost None).facts.failure
  lost_failure = fails ∙ sym (or_none (or_else row.facts.failure (failing from.Lost ENOTCONN))) ∙ sym (or_none _)

  lost_old : (kind : Kind) → row.bytes ≡ told_bytes false kind row.offset row.length Nothing row.bytes
  lost_old Read = refl
  lost_old Write = refl
  lost_old Flush = refl
  lost_old Trim = refl
  lost_old Cache = refl
  lost_old Zero = refl
  lost_old BlockStatus = refl

  lost_bytes : landing.bytes ≡ result_bytes (hearing row [] Lost None)
  lost_bytes =
      fills ∙ ap (λ (old : List ℕ). buffer row.kind row.length old (error_number landing.failure) old) (lost_old row.kind)
      ∙ ap (λ (o : Option Failure). buffer row.kind row.length (told_bytes false row.kind row.offset row.length Nothing row.bytes) (error_number o) (told_bytes false row.kind row.offset row.length Nothing row.bytes)) lost_failure

  pub lands_lost : landing ≡ lost row landing.flight
  lands_lost i = record { flight = landing.flight; heard = unheard i; failure = lost_failure i; bytes = lost_bytes i }

module _ {K World : Type 0} (steps : World → List (Call K) → World → Type 0) (row : Row K) (error : ℕ) (bytes : List ℕ) (landing : Landing K) (before after : Log) (start end : World)
    (real : IsReal row.facts.failure) (sized : length bytes ≡ content_size (known_of row) error) (flies : row.flight ≡ Some landing.flight)
    (told : Hears steps row.flight (reply_hearing row.kind (reply_bad row error) error row.offset bytes (error_number row.facts.failure)) landing.heard before after start end)
    (fails : landing.failure ≡ or_else (or_else row.facts.failure (reply_failure (reply_bad row error) error)) (failing from.Callback (heard_error landing.heard)))
    (fills : landing.bytes ≡ buffer row.kind row.length row.bytes (error_number landing.failure) bytes) where
  heard_is : heard_in row [] (reply_item row error bytes) ≡ reply_hearing row.kind (reply_bad row error) error row.offset bytes (error_number row.facts.failure)
  heard_is = heard_as row.flags row.offset row.length row.facts bytes row.kind error sized

  failure_is : landing.failure ≡ (hearing row [] (reply_item row error bytes) landing.heard).facts.failure
  failure_is = fails ∙ sym (fails_as row.flags row.offset row.length row.facts bytes row.kind error (heard_error landing.heard) sized)

  told_so : Bool → List ℕ
  told_so bad = told_bytes bad row.kind row.offset row.length (content_of (reply_item row error bytes)) row.bytes

  bytes_are : landing.bytes ≡ result_bytes (hearing row [] (reply_item row error bytes) landing.heard)
  unfolding told_so
  bytes_are =
      fills ∙ land_bytes row.kind row.flags row.offset row.length row.facts.faults error (error_number landing.failure) (reply_bad row error) bytes row.bytes sized
      (λ done. good_end row.facts.failure (reply_bad row error) error (heard_error landing.heard) real (sym (ap (λ (f : Option Failure). error_number f) fails) ∙ done))
      ∙ ap (λ (b : Bool). buffer row.kind row.length (told_so b) (error_number landing.failure) (told_so b)) (sym (bad_as row.flags row.offset row.length row.facts bytes row.kind error sized))
      ∙ ap (λ (o : Option Failure). buffer row.kind row.length (told_so (is_bad (query_in row) [] row.facts (content_of (reply_item row error bytes)))) (error_number o) (told_so (is_bad (query_in row) [] row.facts (content_of (reply_item row error bytes))))) failure_is

  pub lands_reply : Lands steps row (reply_item row error bytes) landing before after start end
  lands_reply = record {
    flight = flies;
    heard = told.hears landing.flight flies ∙ ap (λ (o : Option Hearing). hears landing.flight o) (sym heard_is);
    counted = told.counted;
    failure = failure_is;
    bytes = bytes_are;
    calls = rw heard_is (told.calls landing.flight flies);
    log = rw heard_is (told.log landing.flight flies);
  }
