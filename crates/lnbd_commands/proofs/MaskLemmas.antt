-- The bytes of a read that were told, of a buffer that may hold others.
use Rattle.std.proofs.Common.{◌≡◌, ℕ, zero, suc, ◌+◌, ◌-◌, ◌<◌, ◌≤◌, List, [], ◌∷◌, length, get_or, Bool, true, false, ◌==◌, if◌then◌else◌, Option, Some, None, refl, ap, sym, ◌∙◌, arith, replicate}
use Rattle.std.proofs.lemmas.Grind.{common_steps}
use Rattle.lnbd_extents.specs.Positions.{holds, all_at}
use Rattle.lnbd_extents.specs.Ranges.{with_positions}
use Rattle.lnbd_extents.proofs.PositionLaws.{all_elim}
use Rattle.lnbd_extents.proofs.RangeLaws.{holds-with_positions}
use Rattle.lnbd_model.specs.declared.kind.Kind.{Kind}
use Rattle.lnbd_model.specs.declared.kind.Kind.TheVariants.{Read, Write, Flush, Trim, Cache, Zero, BlockStatus}
use Rattle.lnbd_outcome.specs.Outcome.{each}
use Rattle.lnbd_outcome.specs.Pieces.{has_place, byte_of, start_of, size_of}
use Rattle.lnbd_records.specs.Content.{Content}
use Rattle.lnbd_structured.specs.Placed.{with_content}
use Rattle.lnbd_machine.specs.Machine.{first_bytes}
use Rattle.lnbd_model.specs.Kind.{is_read}
use Rattle.lnbd_model.specs.declared.failure.Failure.{Failure}
use Rattle.lnbd_outcome.specs.Outcome.{buffer}
use Rattle.lnbd_outcome.specs.Pieces.{Query}
use Rattle.lnbd_structured.specs.Assembly.{Assembled}
use Rattle.lnbd_structured.proofs.PlaceLemmas.{zeros_placed}
use Rattle.lnbd_records.specs.Content.{Hole}
use Rattle.lnbd_structured.specs.Placed.{written}
use Rattle.lnbd_history.specs.Commands.{Flight}
use Rattle.lnbd_history.specs.Entries.{Kept}
use Rattle.lnbd_machine.specs.Machine.{Row}
use Rattle.lnbd_commands.specs.declared.content.Content.{Content as Brought}
use Rattle.lnbd_commands.specs.Contents.{brought_in}
use Rattle.lnbd_commands.specs.Lands.{IsWhole}
use Rattle.lnbd_commands.specs.Rows.{masked, open_bytes, seen_bytes, seen_facts, IsHeld, IsOpen}
use Rattle.std.specs.Prelude.{take, drop}
use Rattle.std.proofs.lemmas.List.{length-replicate}

-- A read of which nothing was told has zeros.
none_shown : (offset size : ℕ) (buf : List ℕ) (start : ℕ) → each (λ p. if holds [] p then get_or buf (p - offset) 0 else 0) start size ≡ replicate size 0
none_shown offset zero buf start = refl
none_shown offset (suc n) buf start = ap (λ (t : List ℕ). 0 ∷ t) (none_shown offset n buf (start + 1))

pub open_first : (kind : Kind) (offset size : ℕ) (buf : List ℕ) → open_bytes kind [] offset size buf ≡ first_bytes kind size buf
open_first Read offset size buf = none_shown offset size buf offset
open_first Write offset size buf = refl
open_first Flush offset size buf = refl
open_first Trim offset size buf = refl
open_first Cache offset size buf = refl
open_first Zero offset size buf = refl
open_first BlockStatus offset size buf = refl

-- Lists of bytes at places.
pub each_same : (f g : ℕ → ℕ) (s n : ℕ) → ((p : ℕ) → s ≤ p → p < s + n → f p ≡ g p) → each f s n ≡ each g s n
each_same f g s zero h = refl
each_same f g s (suc n) h =
    let here : f s ≡ g s = h s (omega arith) (omega arith) in
    let rest : each f (s + 1) n ≡ each g (s + 1) n = each_same f g (s + 1) n (λ p a b. h p (omega arith) (omega arith)) in
    cc

each_is : (f : ℕ → ℕ) (s n : ℕ) (xs : List ℕ) → length xs ≡ n → ((i : ℕ) → i < n → get_or xs i 0 ≡ f (s + i)) → xs ≡ each f s n
each_is f s zero [] l e = refl
each_is f s zero (x ∷ xs) l e = absurd (omega arith)
each_is f s (suc n) [] l e = absurd (omega arith)
each_is f s (suc n) (x ∷ xs) l e =
    let h : x ≡ f s = e 0 (omega arith) ∙ ap f (omega arith) in
    let t : xs ≡ each f (s + 1) n = each_is f (s + 1) n xs (omega arith) (λ i k. e (suc i) (omega arith) ∙ ap f (omega arith)) in
    cc

pub get_each : (f : ℕ → ℕ) (s n i : ℕ) → i < n → get_or (each f s n) i 0 ≡ f (s + i)
get_each f s zero i l = absurd (omega arith)
get_each f s (suc n) zero l = ap f (omega arith)
get_each f s (suc n) (suc i) l = get_each f (s + 1) n i (omega arith) ∙ ap f (omega arith)

pub length_each : (f : ℕ → ℕ) (s n : ℕ) → length (each f s n) ≡ n
length_each f s zero = refl
length_each f s (suc n) = ap suc (length_each f (s + 1) n)

-- A read of which all was told has what its buffer holds.
pub masked_all : (told : List (ℕ × ℕ)) (offset size : ℕ) (buf : List ℕ) → length buf ≡ size → all_at (holds told) offset size ≡ true → masked told offset size buf ≡ buf
masked_all told offset size buf long all =
    sym (each_is (λ p. if holds told p then get_or buf (p - offset) 0 else 0) offset size buf long (λ i l.
    let here : holds told (offset + i) ≡ true = all_elim (holds told) offset size all (offset + i) (omega arith) (omega arith) in
    let place : offset + i - offset ≡ i = omega arith in
    rw (here, place) refl))

-- Content that is put into its place is shown there, and what was told before is shown as it was.
pub masked_told : (told : List (ℕ × ℕ)) (offset size : ℕ) (content : Content) (buf : List ℕ) → length buf ≡ size →
    masked (with_positions (start_of content) (size_of content) told) offset size (with_content offset content buf)
    ≡ each (λ p. if has_place content p then byte_of content p else get_or (masked told offset size buf) (p - offset) 0) offset size
masked_told told offset size content buf long =
    each_same _ _ offset size (λ p a b. here p a b (has_place content p) refl)
  where
    new : ℕ → ℕ
    new p = if has_place content p then byte_of content p else get_or buf (p - offset) 0

    at_place : (p : ℕ) → offset ≤ p → p < offset + size → get_or (with_content offset content buf) (p - offset) 0 ≡ (if has_place content p then byte_of content p else get_or buf (p - offset) 0)
    at_place p a b =
        let i : offset + (p - offset) ≡ p = omega arith in
        get_each (λ p. if has_place content p then byte_of content p else get_or buf (p - offset) 0) offset (length buf) (p - offset) (omega arith)
        ∙ ap (λ q. if has_place content q then byte_of content q else get_or buf (q - offset) 0) i

    before : (p : ℕ) → offset ≤ p → p < offset + size → get_or (masked told offset size buf) (p - offset) 0 ≡ (if holds told p then get_or buf (p - offset) 0 else 0)
    before p a b =
        let i : offset + (p - offset) ≡ p = omega arith in
        get_each (λ p. if holds told p then get_or buf (p - offset) 0 else 0) offset size (p - offset) (omega arith)
        ∙ ap (λ q. if holds told q then get_or buf (q - offset) 0 else 0) i

    here : (p : ℕ) → offset ≤ p → p < offset + size → (b : Bool) → has_place content p ≡ b →
        (if holds (with_positions (start_of content) (size_of content) told) p then get_or (with_content offset content buf) (p - offset) 0 else 0)
        ≡ (if has_place content p then byte_of content p else get_or (masked told offset size buf) (p - offset) 0)
    here p a b true e = rw (holds-with_positions (start_of content) (size_of content) told p, e, at_place p a b, e) refl
    here p a b false e = rw (holds-with_positions (start_of content) (size_of content) told p, e, at_place p a b, e, before p a b) refl

-- Zeros that were put into their place stand there.
cut_out : (old xs : List ℕ) (at n m : ℕ) → at + length xs ≤ length old → length xs ≡ n → m ≡ n → take m (drop at (written old at xs)) ≡ xs
cut_out old xs at n m h l e = grind (arith, common_steps)

pub hole_zeros : (offset place size m : ℕ) (old : List ℕ) → offset ≤ place → place + size ≤ offset + length old → m ≡ size →
    take m (drop (place - offset) (with_content offset (Hole place size) old)) ≡ replicate size 0
hole_zeros offset place size m old low high e =
    let n : length (replicate {A = ℕ} size 0) ≡ size = length-replicate size 0 in
    ap (λ (buf : List ℕ). take m (drop (place - offset) buf)) (sym (zeros_placed offset place size old low high))
    ∙ cut_out old (replicate size 0) (place - offset) size m (omega (arith, n)) n e

-- The buffer of a row that lands.
module _ {K : Type 0} (flags offset size : ℕ) (flight : Option (Flight K)) (buf : List ℕ) (assembly : Assembled) (failure : Option Failure) (error : ℕ) where
  abbrev pub row_as : Kind → Option Kept → Row K
  row_as kind kept = record { kind = kind; flags = flags; offset = offset; length = size; flight = flight; bytes = seen_bytes kept kind assembly.facts.told offset size buf; facts = seen_facts kept assembly failure; kept = kept }

  pub land_seen : (kind : Kind) (kept : Option Kept) (content : Option Brought) → kept ≡ None → (is_read kind ≡ true → length buf ≡ size) → (is_read kind ≡ true → error ≡ 0 → IsWhole content (row_as kind kept)) →
      buffer kind (length buf) buf error (brought_in content buf) ≡ buffer kind size (seen_bytes kept kind assembly.facts.told offset size buf) error (brought_in content (seen_bytes kept kind assembly.facts.told offset size buf))
  land_seen Read None content none long whole =
      elim (error == 0) as (λ b. (error == 0) ≡ b →
      (if b then brought_in content buf else replicate (length buf) 0) ≡ (if b then brought_in content (masked assembly.facts.told offset size buf) else replicate size 0)) [
        | true ↦ λ e. done content (whole refl (grind (arith, common_steps)))
        | false ↦ λ e. ap (λ n. replicate n 0) (long refl)
      ] refl
    where
      done : (content : Option Brought) → IsWhole content (row_as Read None) → brought_in content buf ≡ brought_in content (masked assembly.facts.told offset size buf)
      done None all = sym (masked_all assembly.facts.told offset size buf (long refl) all)
      done (Some content) all = refl
  land_seen Write None content none long whole = refl
  land_seen Flush None content none long whole = refl
  land_seen Trim None content none long whole = refl
  land_seen Cache None content none long whole = refl
  land_seen Zero None content none long whole = refl
  land_seen BlockStatus None content none long whole = refl
  land_seen kind (Some kept) content none long whole = absurd (cc (none))

-- what is held of a row in flight
pub opened : (kept : Option Kept) (query : Query) (buf : List ℕ) (assembly : Assembled) → kept ≡ None → IsHeld kept query buf assembly → IsOpen query buf assembly
opened None query buf assembly none held = held
opened (Some kept) query buf assembly none held = absurd (cc (none))

pub opened_facts : (kept : Option Kept) (assembly : Assembled) (failure : Option Failure) → kept ≡ None → seen_facts kept assembly failure ≡ assembly.facts
opened_facts None assembly failure none = refl
opened_facts (Some kept) assembly failure none = absurd (cc (none))

pub length_with : (offset : ℕ) (content : Content) (old : List ℕ) → length (with_content offset content old) ≡ length old
length_with offset content old = length_each _ offset (length old)
