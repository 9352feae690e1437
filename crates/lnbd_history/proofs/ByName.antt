-- The reply to EXPORT_NAME is shown where it is there whole.
use Rattle.std.proofs.Common.{◌≡◌, ℕ, ◌+◌, ◌^◌, ◌<◌, ◌≤◌, Bool, true, false, List, [], ◌∷◌, length, drop, Option, Some, None, refl, ap, sym, subst, ◌∙◌, arith, nat_lt, if◌then◌else◌, inl, inr}
use Rattle.std.proofs.lemmas.Bool.{ltb-false, lt-ltb, le-ltb, leb-true}
use Rattle.std.proofs.lemmas.List.{length-drop}
use Rattle.lnbd_model.specs.declared.breach.Breach.TheVariants.{SizeTooBig}
use Rattle.lnbd_records.specs.Handshake.{export_name_reply, padding}
use Rattle.lnbd_records.specs.Numbers.{number, IsBytes, number_at}
use Rattle.lnbd_records.proofs.NumberLaws.{reads_then, then_reads}
use Rattle.lnbd_stream.specs.Grammar.{wants}
use Rattle.lnbd_stream.proofs.Grammar.{once_there, once_less, once_some, wants_true, wants_false, wants_is}
use Rattle.lnbd_history.specs.Arrivals.{Shown, ExportReply, Broken, shows_by_name}
use Rattle.lnbd_history.specs.Filled.{BeginsWithExport, ExportIsAwaited, ExportIsTold, ExportIsTooBig}

-- what is shown of the whole reply
whole : List ℕ → Option Shown
whole bytes = wants (nat_lt (number_at 0 8 bytes) (2 ^ 63)) (Broken SizeTooBig) (Some (ExportReply (number_at 0 8 bytes) (number_at 8 2 bytes)))

size_of : Bool → ℕ
size_of no_zeroes = if no_zeroes then 10 else 134

size_of-is : (no_zeroes : Bool) → size_of no_zeroes ≡ 10 + padding no_zeroes
unfolding size_of
size_of-is true = refl
size_of-is false = refl

shows_whole : (n : Bool) (bytes : List ℕ) → 10 + padding n ≤ length bytes → shows_by_name n bytes ≡ whole bytes
unfolding shows_by_name whole size_of
shows_whole n bytes enough = let e = size_of-is n in once_there (if n then 10 else 134) bytes (whole bytes) (omega (arith, enough, e))

shows_none : (n : Bool) (bytes : List ℕ) → length bytes < 10 + padding n → shows_by_name n bytes ≡ None
unfolding shows_by_name whole size_of
shows_none n bytes less = let e = size_of-is n in once_less (if n then 10 else 134) bytes (whole bytes) (omega (arith, less, e))

-- what was shown was there whole
shown_whole : (n : Bool) (bytes : List ℕ) (found : Shown) → shows_by_name n bytes ≡ Some found → (10 + padding n ≤ length bytes) × (whole bytes ≡ Some found)
unfolding shows_by_name whole size_of
shown_whole n bytes found e =
    let k = once_some (if n then 10 else 134) bytes (whole bytes) found e in
    let s = size_of-is n in
    (omega (arith, k.0, s), k.1)

whole_some : (bytes : List ℕ) → whole bytes ≡ None → ⊥
unfolding whole
whole_some bytes e = elim (wants_is _ _ _ _ e) [ inl told ↦ (let bad : Some (ExportReply (number_at 0 8 bytes) (number_at 8 2 bytes)) ≡ None = told.1 in cc) | inr broken ↦ (let bad : Some (Broken SizeTooBig) ≡ None = broken.1 in cc) ]

pub is_awaited : ExportIsAwaited
is_awaited n bytes = (there, shows_none n bytes)
  where
    there : shows_by_name n bytes ≡ None → length bytes < 10 + padding n
    there e = go (nat_lt (length bytes) (10 + padding n)) refl
      where
        go : (b : Bool) → nat_lt (length bytes) (10 + padding n) ≡ b → length bytes < 10 + padding n
        go true is = leb-true _ _ is
        go false is = absurd (whole_some bytes (sym (shows_whole n bytes (ltb-false _ _ is)) ∙ e))

-- Bytes that are there whole begin with the reply that they spell.
spells : (n : Bool) (bytes : List ℕ) → IsBytes bytes → 10 + padding n ≤ length bytes → BeginsWithExport n (number_at 0 8 bytes) (number_at 8 2 bytes) bytes
spells n bytes h enough = record {
  rest = drop 10 bytes;
  spelled = reads_then (8 ∷ 2 ∷ []) bytes h (omega (arith, enough));
  padded = let d = length-drop 10 bytes in omega (arith, enough, d);
}

-- the same read back
record Spelled (n : Bool) (size flags : ℕ) (bytes : List ℕ) : Type 0 where
  enough : 10 + padding n ≤ length bytes
  size_is : number_at 0 8 bytes ≡ size
  flags_are : number_at 8 2 bytes ≡ flags

spelled_of : (n : Bool) (size flags : ℕ) (bytes : List ℕ) → BeginsWithExport n size flags bytes → Spelled n size flags bytes
spelled_of n size flags bytes b =
    let r = then_reads (export_name_reply size flags) b.rest bytes b.spelled in
    let same : number 8 (number_at 0 8 bytes) ∷ number 2 (number_at 8 2 bytes) ∷ [] ≡ number 8 size ∷ number 2 flags ∷ [] = r.fields in
    let s = r.size in
    let p = b.padded in
    record { enough = omega (arith, s, p); size_is = cc; flags_are = cc }

pub is_told : ExportIsTold
unfolding whole
is_told n size flags bytes h = (there, back)
  where
    there : shows_by_name n bytes ≡ Some (ExportReply size flags) → (size < 2 ^ 63) × BeginsWithExport n size flags bytes
    there e =
        let w = shown_whole n bytes (ExportReply size flags) e in
        elim (wants_is _ _ _ _ w.1) [
          | inl told ↦ (
              let same : Some (ExportReply (number_at 0 8 bytes) (number_at 8 2 bytes)) ≡ Some (ExportReply size flags) = told.1 in
              let s : number_at 0 8 bytes ≡ size = cc in
              let f : number_at 8 2 bytes ≡ flags = cc in
              let low : number_at 0 8 bytes < 2 ^ 63 = leb-true _ _ told.0 in
              (subst (λ (x : ℕ). x < 2 ^ 63) s low, subst (λ (x : ℕ). BeginsWithExport n size x bytes) f (subst (λ (x : ℕ). BeginsWithExport n x (number_at 8 2 bytes) bytes) s (spells n bytes h w.0))))
          | inr broken ↦ (let bad : Some (Broken SizeTooBig) ≡ Some (ExportReply size flags) = broken.1 in cc)
        ]

    back : (size < 2 ^ 63) × BeginsWithExport n size flags bytes → shows_by_name n bytes ≡ Some (ExportReply size flags)
    back p =
        let r = spelled_of n size flags bytes p.1 in
        let low : nat_lt (number_at 0 8 bytes) (2 ^ 63) ≡ true = ap (λ (x : ℕ). nat_lt x (2 ^ 63)) r.size_is ∙ lt-ltb size (2 ^ 63) p.0 in
        shows_whole n bytes r.enough ∙ wants_true _ _ _ low ∙ ap (λ (x : ℕ). Some (ExportReply x (number_at 8 2 bytes))) r.size_is ∙ ap (λ (x : ℕ). Some (ExportReply size x)) r.flags_are

pub is_too_big : ExportIsTooBig
unfolding whole
is_too_big n bytes h = (there, back)
  where
    there : shows_by_name n bytes ≡ Some (Broken SizeTooBig) → (size flags : ℕ) × (2 ^ 63 ≤ size) × BeginsWithExport n size flags bytes
    there e =
        let w = shown_whole n bytes (Broken SizeTooBig) e in
        elim (wants_is _ _ _ _ w.1) [
          | inl told ↦ (let bad : Some (ExportReply (number_at 0 8 bytes) (number_at 8 2 bytes)) ≡ Some (Broken SizeTooBig) = told.1 in cc)
          | inr broken ↦ (number_at 0 8 bytes, number_at 8 2 bytes, ltb-false _ _ broken.0, spells n bytes h w.0)
        ]

    back : (size flags : ℕ) × (2 ^ 63 ≤ size) × BeginsWithExport n size flags bytes → shows_by_name n bytes ≡ Some (Broken SizeTooBig)
    back (size, flags, high, b) =
        let r = spelled_of n size flags bytes b in
        let over : nat_lt (number_at 0 8 bytes) (2 ^ 63) ≡ false = ap (λ (x : ℕ). nat_lt x (2 ^ 63)) r.size_is ∙ le-ltb size (2 ^ 63) high in
        shows_whole n bytes r.enough ∙ wants_false _ _ _ over
