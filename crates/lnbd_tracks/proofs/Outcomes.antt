-- What a command comes to as one thing more is filed for it, where no callback answered an error.
use Rattle.std.proofs.Common.{◌≡◌, ℕ, zero, suc, ◌+◌, Bool, true, false, ◌||◌, List, [], ◌∷◌, length, replicate, Option, Some, refl, ap, sym, ◌∙◌, arith, ◌==◌, if◌then◌else◌}
use Rattle.std.proofs.lemmas.Bool.{eq-eqb, or_parts}
use Rattle.lnbd_model.specs.Kind.{is_read, is_write}
use Rattle.lnbd_model.specs.declared.failure.Failure.{Failure}
use Rattle.lnbd_outcome.specs.Faults.{byte_told}
use Rattle.lnbd_outcome.specs.Outcome.{Outcome, Unfinished, Done, verdict, failure, bytes, each}
use Rattle.lnbd_outcome.specs.Pieces.{Piece, is_completed}
use Rattle.lnbd_outcome.proofs.Contents.{real_failure}
use Rattle.lnbd_history.specs.Commands.{Request, query_of}
use Rattle.lnbd_history.specs.Entries.{Item, Framed, Lost, Dropped, Filing, Entry, Filed, Freed, Cleared, completes, ends, own, is_ended, heard_error, piece_of, pieces, error_in, bytes_in}
use Rattle.lnbd_asked.specs.InStep.{silent_pieces}
use Rattle.lnbd_asked.specs.Transcript.{outcome_of}
use Rattle.lnbd_tracks.specs.Laws.{BytesComeBack}
use Rattle.lnbd_tracks.specs.Tracks.{NoneFails}

length_each : (byte : ℕ → ℕ) (p n : ℕ) → length (each byte p n) ≡ n
length_each byte p zero = refl
length_each byte p (suc n) = let e = length_each byte (p + 1) n in omega (arith, e)

-- what doesn't end a command doesn't complete it
completes_ends : (item : Item) → ends item ≡ false → completes item ≡ false
completes_ends (Framed content last) e = e
completes_ends Lost e = e
completes_ends Dropped e = refl

module _ {K : Type 0} where
  -- no callback of one command answered an error
  abbrev pub NoneFailed : List (Filing K) → Type 0
  NoneFailed [] = Unit {0}
  NoneFailed (f ∷ earlier) = (heard_error f.heard ≡ 0) × NoneFailed earlier

  pub own_well : (c : ℕ) (entries : List (Entry K)) → NoneFails entries → NoneFailed (own c entries)
  own_well c [] w = tt
  own_well c (Filed f ∷ entries) w =
      let rest = own_well c entries w.1 in
      elim (f.cookie == c) as (λ b. NoneFailed (if b then f ∷ own c entries else own c entries)) [ true ↦ (w.0, rest) | false ↦ rest ]
  own_well c (Freed flight ∷ entries) w = own_well c entries w
  own_well c (Cleared ∷ entries) w = own_well c entries w

  -- a piece to which this error was answered
  heard_as : Filing K → ℕ → Piece
  heard_as f n = record { item = f.item; contexts = f.contexts; heard = n }

  -- then it counts for nothing that they were asked
  pub heard_alike : (filings : List (Filing K)) → NoneFailed filings → silent_pieces filings ≡ pieces filings
  unfolding heard_as
  heard_alike [] w = refl
  heard_alike (f ∷ earlier) w = ap (λ (n : ℕ). heard_as f n ∷ silent_pieces earlier) (sym w.0) ∙ ap (λ (ps : List Piece). piece_of f ∷ ps) (heard_alike earlier w.1)

  uncompleted : (filings : List (Filing K)) → is_ended filings ≡ false → is_completed (silent_pieces filings) ≡ false
  uncompleted [] e = refl
  uncompleted (f ∷ earlier) e =
      let parts = or_parts (ends f.item) (is_ended earlier) e in
      ap (λ (b : Bool). b || is_completed (silent_pieces earlier)) (completes_ends f.item parts.0) ∙ uncompleted earlier parts.1

  -- what a command comes to that is completed, or isn't
  outcome_by : (asks : Request K) (filings : List (Filing K)) (b : Bool) → Outcome
  outcome_by asks filings b = if b then verdict (failure (query_of asks) (silent_pieces filings)) (bytes (query_of asks) (silent_pieces filings)) else Unfinished

  by_completed : (asks : Request K) (filings : List (Filing K)) (b : Bool) → is_completed (silent_pieces filings) ≡ b → outcome_of (Some asks) filings ≡ outcome_by asks filings b
  unfolding outcome_by
  by_completed asks filings b e = ap (λ (c : Bool). if c then verdict (failure (query_of asks) (silent_pieces filings)) (bytes (query_of asks) (silent_pieces filings)) else Unfinished) e

  -- A command waits until it has ended,
  pub waits : (asks : Request K) (filings : List (Filing K)) → is_ended filings ≡ false → outcome_of (Some asks) filings ≡ Unfinished
  unfolding outcome_by
  waits asks filings e = by_completed asks filings false (uncompleted filings e)

  -- and also where what comes completes nothing.
  pub still_waits : (asks : Request K) (f : Filing K) (earlier : List (Filing K)) → completes f.item ≡ false → is_ended earlier ≡ false → outcome_of (Some asks) (f ∷ earlier) ≡ Unfinished
  unfolding outcome_by
  still_waits asks f earlier c e = by_completed asks (f ∷ earlier) false (ap (λ (b : Bool). b || is_completed (silent_pieces earlier)) c ∙ uncompleted earlier e)

  -- Where it completes the command without an error, that is done, with its bytes.
  pub comes_done : (asks : Request K) (f : Filing K) (earlier : List (Filing K)) → completes f.item ≡ true → NoneFailed (f ∷ earlier) → error_in asks (f ∷ earlier) ≡ 0 →
      outcome_of (Some asks) (f ∷ earlier) ≡ Done (bytes_in asks (f ∷ earlier))
  unfolding outcome_by
  comes_done asks f earlier c w e =
      by_completed asks (f ∷ earlier) true (ap (λ (b : Bool). b || is_completed (silent_pieces earlier)) c)
      ∙ ap (λ (ps : List Piece). verdict (failure (query_of asks) ps) (bytes (query_of asks) ps)) (heard_alike (f ∷ earlier) w)
      ∙ ap (λ (o : Option Failure). verdict o (bytes_in asks (f ∷ earlier))) (real_failure (query_of asks) (pieces (f ∷ earlier)) e)

  pub bytes_come_back : BytesComeBack K
  bytes_come_back asks filings plain e = record { read = read; change = change }
    where
      read : is_read asks.kind ≡ true → length (bytes_in asks filings) ≡ asks.length
      read r =
          ap (λ (b : Bool). length (if b then if error_in asks filings == 0 then each (byte_told (query_of asks) (pieces filings)) asks.offset asks.length else replicate asks.length 0 else if is_write asks.kind then asks.payload else [])) r
          ∙ ap (λ (b : Bool). length (if b then each (byte_told (query_of asks) (pieces filings)) asks.offset asks.length else replicate asks.length 0)) (eq-eqb (error_in asks filings) 0 e)
          ∙ length_each (byte_told (query_of asks) (pieces filings)) asks.offset asks.length

      written : (b : Bool) → is_write asks.kind ≡ b → (if b then asks.payload else []) ≡ asks.payload
      written true w = refl
      written false w = sym (plain w)

      change : is_read asks.kind ≡ false → bytes_in asks filings ≡ asks.payload
      change r =
          ap (λ (b : Bool). if b then if error_in asks filings == 0 then each (byte_told (query_of asks) (pieces filings)) asks.offset asks.length else replicate asks.length 0 else if is_write asks.kind then asks.payload else []) r
          ∙ written (is_write asks.kind) refl
