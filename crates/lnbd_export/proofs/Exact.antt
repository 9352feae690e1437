-- Statuses tell each position's own, no other, and neighbours differ.
use Rattle.std.proofs.Common.{◌≡◌, ℕ, zero, suc, ◌+◌, ◌-◌, ◌<◌, Bool, true, false, List, [], ◌∷◌, length, get_or, Some, refl, inl, inr, ap, sym, subst, ◌∙◌, arith, cond, ◌==◌, if◌then◌else◌, nat_lt}
use Rattle.std.proofs.lemmas.Bool.{cases_lt, lt-ltb, le-ltb, eqb-true, eq-eqb}
use Rattle.lnbd_model.specs.declared.export.Extent.{Extent}
use Rattle.lnbd_extents.specs.Lists.{span, flags_at, StartsOtherwise, AreJoined}
use Rattle.lnbd_export.specs.Statuses.{status_of, longer, statuses, AreStatuses}

span_longer : (f : ℕ) (es : List Extent) → span (longer f es) ≡ suc (span es)
span_longer f [] = omega arith
span_longer f (e ∷ es) = go (e.flags == f)
  where
    go : (b : Bool) → span (cond b (record { length = e.length + 1; flags = f } ∷ es) (record { length = 1; flags = f } ∷ e ∷ es)) ≡ suc (e.length + span es)
    go true = omega arith
    go false = omega arith

first_longer : (f : ℕ) (es : List Extent) → flags_at (longer f es) 0 ≡ Some f
first_longer f [] = refl
first_longer f (e ∷ es) = go (e.flags == f)
  where
    go : (b : Bool) → flags_at (cond b (record { length = e.length + 1; flags = f } ∷ es) (record { length = 1; flags = f } ∷ e ∷ es)) 0 ≡ Some f
    go true = let some : nat_lt 0 (e.length + 1) ≡ true = lt-ltb 0 (e.length + 1) (omega arith) in rw some refl
    go false = refl

next_longer : (f : ℕ) (es : List Extent) (i : ℕ) → i < span es → flags_at (longer f es) (suc i) ≡ flags_at es i
next_longer f [] i less = absurd (omega arith)
next_longer f (e ∷ es) i less = go (e.flags == f) refl
  where
    go : (b : Bool) → (e.flags == f) ≡ b → flags_at (cond b (record { length = e.length + 1; flags = f } ∷ es) (record { length = 1; flags = f } ∷ e ∷ es)) (suc i) ≡ (if nat_lt i e.length then Some e.flags else flags_at es (i - e.length))
    go false t =
        let past : nat_lt (suc i) 1 ≡ false = le-ltb (suc i) 1 (omega arith) in
        let here : suc i - 1 ≡ i = omega arith in
        rw (past, here) refl
    go true t = elim (cases_lt i e.length) [
      | inl h ↦
          let one : nat_lt (suc i) (e.length + 1) ≡ true = lt-ltb (suc i) (e.length + 1) (omega arith) in
          let two : nat_lt i e.length ≡ true = lt-ltb i e.length h in
          let same : f ≡ e.flags = sym (eqb-true e.flags f t) in
          rw (one, two) (ap (λ n. Some n) same)
      | inr h ↦
          let one : nat_lt (suc i) (e.length + 1) ≡ false = le-ltb (suc i) (e.length + 1) (omega arith) in
          let two : nat_lt i e.length ≡ false = le-ltb i e.length h in
          let here : suc i - (e.length + 1) ≡ i - e.length = omega arith in
          rw (one, two, here) refl
    ]

joined_longer : (f : ℕ) (es : List Extent) → AreJoined es → AreJoined (longer f es)
joined_longer f [] are = (omega arith, tt, tt)
joined_longer f (e ∷ es) are = go (e.flags == f) refl
  where
    go : (b : Bool) → (e.flags == f) ≡ b → AreJoined (cond b (record { length = e.length + 1; flags = f } ∷ es) (record { length = 1; flags = f } ∷ e ∷ es))
    go true t = (omega arith, subst (λ (n : ℕ). StartsOtherwise n es) (eqb-true e.flags f t) are.1, are.2)
    go false t = (omega arith, λ same. let no : true ≡ false = sym (eq-eqb e.flags f (sym same)) ∙ t in cc, are)

status_at : (told : Bool) (more : List Bool) → AreStatuses more (statuses more) → (i : ℕ) → i < suc (length more) → flags_at (longer (status_of told) (statuses more)) i ≡ Some (status_of (get_or (told ∷ more) i false))
status_at told more rest zero less = first_longer (status_of told) (statuses more)
status_at told more rest (suc i) less = let n = rest.all in next_longer (status_of told) (statuses more) i (omega arith) ∙ rest.status i (omega arith)

pub statuses_exact : (flags : List Bool) → AreStatuses flags (statuses flags)
statuses_exact [] = record { status = λ i less. absurd (omega arith); all = refl; joined = tt }
statuses_exact (told ∷ more) =
    let rest = statuses_exact more in
    record {
      status = λ i less. status_at told more rest i less;
      all = span_longer (status_of told) (statuses more) ∙ ap (λ (n : ℕ). suc n) rest.all;
      joined = joined_longer (status_of told) (statuses more) rest.joined;
    }
