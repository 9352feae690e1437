-- What an input held, by what was read of it.
use Rattle.std.proofs.Common.{◌≡◌, ◌≤◌, ◌+◌, ℕ, zero, suc, List, [], ◌∷◌, ◌++◌, length, length-append, take, drop, Option, Some, None, refl, sym, ◌∙◌, ap, subst, arith}
use Rattle.std.proofs.lemmas.List.{append-nil, append_assoc, length-take, take_all, take_at, drop_at}
use Rattle.std.proofs.Math.ListN.{drop_of_length-le}
use Rattle.std.specs.Option.{option_map}
use Rattle.lnbd_link.specs.Part.{Gives}
use Rattle.lnbd_lines.specs.declared.line.Line.{Line}
use Rattle.lnbd_lines.specs.Scripts.{IsFault, IsScript}
use Rattle.lnbd_cli.specs.Inputs.{ReadAtMost, ReadUpTo}

held : (old new : Option (List ℕ)) (part bytes : List ℕ) → Gives old new part → old ≡ Some bytes → (ys : List ℕ) × (new ≡ Some ys) × (bytes ≡ part ++ ys)
held old None part bytes given is = absurd (cc (given, is))
held old (Some ys) part bytes given is =
    let h : Some (part ++ ys) ≡ Some bytes = sym given ∙ is in
    let e : part ++ ys ≡ bytes = cc h in
    (ys, refl, sym e)

both : (old mid new : Option (List ℕ)) (one two : List ℕ) → Gives old mid one → Gives mid new two → Gives old new (one ++ two)
both old mid None one two a b = a ∙ ap (option_map (λ (l : List ℕ). one ++ l)) b
both old mid (Some ys) one two a b = a ∙ ap (option_map (λ (l : List ℕ). one ++ l)) b ∙ ap (λ (l : List ℕ). Some l) (sym (append_assoc one two ys))

up_to : (old new : Option (List ℕ)) (part : List ℕ) → Gives old new part → ReadUpTo (length part) old new
up_to old new part given bytes is =
    let h = held old new part bytes given is in
    h.1 ∙ ap (λ (l : List ℕ). Some l) (sym (ap (drop (length part)) h.2 ∙ drop_at part h.0 (length part) refl))

-- two parts came
pub at_most : (old mid new : Option (List ℕ)) (one two : List ℕ) (most : ℕ) → Gives old mid one → Gives mid new two → length one + length two ≤ most → ReadAtMost most old new
at_most old mid new one two most a b few = (length (one ++ two), subst (λ n. n ≤ most) (sym (length-append one two)) few, up_to old new (one ++ two) (both old mid new one two a b))

-- as many came as are wanted
pub full : (old new : Option (List ℕ)) (part : List ℕ) (n : ℕ) → Gives old new part → n ≡ length part → (bytes : List ℕ) → old ≡ Some bytes → (part ≡ take n bytes) × (new ≡ Some (drop n bytes))
full old new part n given few bytes is =
    let h = held old new part bytes given is in
    (sym (ap (take n) h.2 ∙ take_at part h.0 n (sym few)), subst (λ k. new ≡ Some (drop k bytes)) (sym few) (up_to old new part given bytes is))

-- fewer came, and none was left
pub ended : (old new : Option (List ℕ)) (part : List ℕ) (n : ℕ) → Gives old new part → length part ≤ n → ((ys : List ℕ) → new ≡ Some ys → ys ≡ []) → (bytes : List ℕ) → old ≡ Some bytes
    → (part ≡ take n bytes) × (new ≡ Some (drop n bytes))
ended old new part n given few none bytes is =
    let h = held old new part bytes given is in
    let e : part ≡ bytes = sym (h.2 ∙ ap (λ (l : List ℕ). part ++ l) (none h.0 h.1) ∙ append-nil part) in
    let fits : length bytes ≤ n = subst (λ (l : List ℕ). length l ≤ n) e few in
    (e ∙ sym (take_all n bytes fits), h.1 ∙ ap (λ (l : List ℕ). Some l) (none h.0 h.1 ∙ sym (drop_of_length-le bytes fits)))

-- what is short enough is all
whole : (bytes : List ℕ) (n : ℕ) → length (take (suc n) bytes) ≤ n → (take (suc n) bytes ≡ bytes) × (drop (suc n) bytes ≡ [])
whole [] n h = (refl, refl)
whole (x ∷ xs) zero h = absurd (omega (arith, h))
whole (x ∷ xs) (suc n) h = let t = whole xs n (omega (arith, h)) in (ap (λ (l : List ℕ). x ∷ l) t.0, t.1)

-- A front that is a script is all of it.
pub script : (bytes : List ℕ) (left : Option (List ℕ)) (lines : List Line) → IsScript (take 16777217 bytes) lines → left ≡ Some (drop 16777217 bytes) → IsScript bytes lines × (left ≡ Some [])
script bytes left lines s is =
    let w = whole bytes 16777216 s.limit in
    (subst (λ (l : List ℕ). IsScript l lines) w.0 s, is ∙ ap (λ (l : List ℕ). Some l) w.1)

-- A fault of a front is one of all.
pub fault : (bytes : List ℕ) (n : ℕ) → IsFault (take 16777217 bytes) n → IsFault bytes n
fault bytes zero f = omega (arith, f, length-take 16777217 bytes)
fault bytes (suc n) f = subst (λ (l : List ℕ). IsFault l (suc n)) (whole bytes 16777216 f.0).0 f

-- A front that no lines spell is of no script.
pub none : (bytes : List ℕ) → ((lines : List Line) → ¬ IsScript (take 16777217 bytes) lines) → (lines : List Line) → ¬ IsScript bytes lines
none bytes refused lines s = refused lines (subst (λ (l : List ℕ). IsScript l lines) (sym (take_all 16777217 bytes (omega (arith, s.limit)))) s)

-- nothing was read
pub kept : (old new : Option (List ℕ)) → Gives old new [] → new ≡ old
kept old None given = sym given
kept old (Some ys) given = sym given
