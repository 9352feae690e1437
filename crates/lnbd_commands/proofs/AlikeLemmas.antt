-- What simple replies, a death and a close come to is the same whichever meta contexts are agreed.
use Rattle.std.proofs.Common.{◌≡◌, ℕ, Bool, true, false, List, [], Option, Some, None, refl, ap, ◌∙◌, ◌==◌, if◌then◌else◌}
use Rattle.lnbd_model.specs.Errors.{error_of}
use Rattle.lnbd_model.specs.Kind.{is_read}
use Rattle.lnbd_model.specs.declared.export.Context.{Context as MetaContext}
use Rattle.lnbd_model.specs.declared.failure.Failure.{Failure}
use Rattle.lnbd_model.specs.declared.failure.Origin.TheVariants as from
use Rattle.lnbd_model.specs.declared.kind.Kind.{Kind}
use Rattle.lnbd_model.specs.declared.kind.Kind.TheVariants.{Read, Write, Flush, Trim, Cache, Zero, BlockStatus}
use Rattle.lnbd_records.specs.Content.{Content, Data, Error, Bare}
use Rattle.lnbd_outcome.specs.Pieces.{Query, Item, Framed, Lost, Dropped}
use Rattle.lnbd_outcome.specs.Outcome.{failing, or_else}
use Rattle.lnbd_outcome.specs.Facts.{Facts, facts_with, heard_by, is_bad}
use Rattle.lnbd_callbacks.specs.declared.caller.Heard.{Heard}
use Rattle.lnbd_history.specs.Entries.{heard_error}
use Rattle.lnbd_machine.specs.Machine.{Row, heard_in, hearing}
use Rattle.lnbd_commands.specs.Lands.{reply_item}
use Rattle.lnbd_commands.proofs.SimpleLemmas.{told_failing}

-- an item says the same under these meta contexts and under those
pub record Alike {K : Type 0} (row : Row K) (item : Item) (these those : List MetaContext) : Type 0 where
  pub heard : heard_in row these item ≡ heard_in row those item
  pub comes : (heard : Option Heard) → hearing row these item heard ≡ hearing row those item heard

pub alike_same : {K : Type 0} (row : Row K) (item : Item) (these those : List MetaContext) → these ≡ those → Alike row item these those
alike_same row item these those e = record {
  heard = ap (λ (contexts : List MetaContext). heard_in row contexts item) e;
  comes = λ heard. ap (λ (contexts : List MetaContext). hearing row contexts item heard) e;
}

pub alike_lost : {K : Type 0} (row : Row K) (contexts : List MetaContext) → Alike row Lost contexts []
alike_lost row contexts = record { heard = refl; comes = λ heard. refl }

pub alike_dropped : {K : Type 0} (row : Row K) (contexts : List MetaContext) → Alike row Dropped contexts []
alike_dropped row contexts = record { heard = refl; comes = λ heard. refl }

module _ (flags offset size : ℕ) (facts : Facts) (contexts : List MetaContext) (bytes : List ℕ) (heard : ℕ) where
  abbrev asked : Kind → Query
  asked kind = record { kind = kind; flags = flags; offset = offset; length = size; payload = [] }

  abbrev IsSame : Kind → Content → Type 0
  IsSame kind content = facts_with (asked kind) contexts (Framed content true) heard facts ≡ facts_with (asked kind) [] (Framed content true) heard facts

  -- what failed before, or fails by the reply itself, is not asked for what it lacks
  failed_first : (early : Option Failure) (first : Failure) (late : Option Failure) (a b : Option Failure) →
      or_else (or_else (or_else early (Some first)) late) a ≡ or_else (or_else (or_else early (Some first)) late) b
  failed_first None first late a b = refl
  failed_first (Some failure) first late a b = refl

  error_same : (kind : Kind) (error : ℕ) → (error == 0) ≡ false → IsSame kind (Error error)
  error_same kind error e =
      rw (told_failing error e) (ap (λ (f : Option Failure). record (facts_with (asked kind) [] (Framed (Error error) true) heard facts) { failure = f })
      (failed_first facts.failure (record { origin = from.Told; error = error_of error }) (failing from.Callback heard) _ _))

  done_same : (kind : Kind) → IsSame kind (if is_read kind then Data offset bytes else Bare)
  done_same Read = refl
  done_same Write = refl
  done_same Flush = refl
  done_same Trim = refl
  done_same Cache = refl
  done_same Zero = refl
  done_same BlockStatus = ap (λ (f : Option Failure). record (facts_with (asked BlockStatus) [] (Framed Bare true) heard facts) { failure = f })
      (failed_first facts.failure (record { origin = from.Content; error = 71 }) (failing from.Callback heard) _ _)

  pub facts_same : (kind : Kind) (error : ℕ) → IsSame kind (if error == 0 then if is_read kind then Data offset bytes else Bare else Error error)
  facts_same kind error =
      elim (error == 0) as (λ b. (error == 0) ≡ b → IsSame kind (if b then if is_read kind then Data offset bytes else Bare else Error error)) [
        | true ↦ λ e. done_same kind
        | false ↦ λ e. error_same kind error e
      ] refl

  pub bad_same : (kind : Kind) (error : ℕ) →
      is_bad (asked kind) contexts facts (if error == 0 then if is_read kind then Data offset bytes else Bare else Error error)
      ≡ is_bad (asked kind) [] facts (if error == 0 then if is_read kind then Data offset bytes else Bare else Error error)
  bad_same kind error =
      elim (error == 0) as (λ b. is_bad (asked kind) contexts facts (if b then if is_read kind then Data offset bytes else Bare else Error error)
      ≡ is_bad (asked kind) [] facts (if b then if is_read kind then Data offset bytes else Bare else Error error)) [
        | true ↦ done kind
        | false ↦ refl
      ]
    where
      done : (kind : Kind) → is_bad (asked kind) contexts facts (if is_read kind then Data offset bytes else Bare) ≡ is_bad (asked kind) [] facts (if is_read kind then Data offset bytes else Bare)
      done Read = refl
      done Write = refl
      done Flush = refl
      done Trim = refl
      done Cache = refl
      done Zero = refl
      done BlockStatus = refl

  pub heard_same : (kind : Kind) (error : ℕ) →
      heard_by (asked kind) facts contexts (Framed (if error == 0 then if is_read kind then Data offset bytes else Bare else Error error) true)
      ≡ heard_by (asked kind) facts [] (Framed (if error == 0 then if is_read kind then Data offset bytes else Bare else Error error) true)
  heard_same kind error =
      elim (error == 0) as (λ b. heard_by (asked kind) facts contexts (Framed (if b then if is_read kind then Data offset bytes else Bare else Error error) true)
      ≡ heard_by (asked kind) facts [] (Framed (if b then if is_read kind then Data offset bytes else Bare else Error error) true)) [
        | true ↦ done kind
        | false ↦ refl
      ]
    where
      done : (kind : Kind) → heard_by (asked kind) facts contexts (Framed (if is_read kind then Data offset bytes else Bare) true) ≡ heard_by (asked kind) facts [] (Framed (if is_read kind then Data offset bytes else Bare) true)
      done Read = refl
      done Write = refl
      done Flush = refl
      done Trim = refl
      done Cache = refl
      done Zero = refl
      done BlockStatus = refl

pub alike_reply : {K : Type 0} (row : Row K) (error : ℕ) (bytes : List ℕ) (contexts : List MetaContext) → Alike row (reply_item row error bytes) contexts []
alike_reply {K} row error bytes contexts = record {
  heard = heard_same row.flags row.offset row.length row.facts contexts bytes 0 row.kind error;
  comes = λ heard.
      ap (λ (f : Facts). record (hearing row contexts (reply_item row error bytes) heard) { facts = f }) (facts_same row.flags row.offset row.length row.facts contexts bytes (heard_error heard) row.kind error)
      ∙ ap (λ (bad : Bool). record (hearing row [] (reply_item row error bytes) heard) {
        bytes = Rattle.lnbd_machine.specs.Machine.told_bytes bad row.kind row.offset row.length (Rattle.lnbd_outcome.specs.Pieces.content_of (reply_item row error bytes)) row.bytes;
      }) (bad_same row.flags row.offset row.length row.facts contexts bytes (heard_error heard) row.kind error);
}
