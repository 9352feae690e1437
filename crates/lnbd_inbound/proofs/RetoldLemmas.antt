-- The calls as they are told give and open the numbers that those beneath do, and as many fail.
use Rattle.std.proofs.Common.{◌≡◌, ℕ, ◌+◌, ◌≤◌, Bool, true, false, ◌||◌, cond, List, [], ◌∷◌, ◌++◌, Some, None, length, refl, ◌∙◌, ap, arith}
use Rattle.std.proofs.lemmas.List.Sums.{sum_by-append}
use Rattle.std.specs.List.{list_any}
use Rattle.lnbd_link.specs.declared.wires.Accepted.TheVariants as accepted
use Rattle.lnbd_link.specs.Call.{Call, Connect, Listen, Accept, Read, Write, Pause, Shut, Moved, Unready, Ended, ReadFault, WriteFault}
use Rattle.lnbd_link.specs.Failed.{failed}
use Rattle.lnbd_link.specs.Listed.{has_failed}
use Rattle.lnbd_link.specs.Numbers.{given_by, gives, is_number, is_given, open_by, open_after, is_open}
use Rattle.lnbd_inbound.specs.declared.marks.Mark.{Mark}
use Rattle.lnbd_inbound.specs.declared.marks.Mark.TheVariants as mark
use Rattle.lnbd_inbound.specs.Retold.{swapped, accepting, replaced, told_as, retold}

-- both calls give the same number, open and shut the same ones, and fail alike
record Alike (c d : Call) : Type 0 where
  pub given : given_by c ≡ given_by d
  pub opens : (n : ℕ) (was : Bool) → open_by n was c ≡ open_by n was d
  pub fails : has_failed c ≡ has_failed d

itself : (c : Call) → Alike c c
itself c = record { given = refl; opens = λ n was. refl; fails = refl }

alike_swapped : (c : Call) → Alike (swapped c) c
alike_swapped (Connect to link) = record { given = refl; opens = λ n was. refl; fails = refl }
alike_swapped (Listen at listener) = record { given = refl; opens = λ n was. refl; fails = refl }
alike_swapped (Accept listener answer) = itself (Accept listener answer)
alike_swapped (Read link room answer) = itself (Read link room answer)
alike_swapped (Write link offered answer) = itself (Write link offered answer)
alike_swapped (Pause wants) = itself (Pause wants)
alike_swapped (Shut link) = itself (Shut link)

alike_accepting : (c : Call) → Alike (accepting c) c
alike_accepting (Connect to (Some link)) = record { given = refl; opens = λ n was. refl; fails = refl }
alike_accepting (Connect to None) = record { given = refl; opens = λ n was. refl; fails = refl }
alike_accepting (Listen at listener) = itself (Listen at listener)
alike_accepting (Accept listener answer) = itself (Accept listener answer)
alike_accepting (Read link room (Moved bytes)) = itself (Read link room (Moved bytes))
alike_accepting (Read link room Unready) = itself (Read link room Unready)
alike_accepting (Read link room Ended) = record { given = refl; opens = λ n was. refl; fails = refl }
alike_accepting (Read link room ReadFault) = itself (Read link room ReadFault)
alike_accepting (Write link offered answer) = itself (Write link offered answer)
alike_accepting (Pause wants) = itself (Pause wants)
alike_accepting (Shut link) = itself (Shut link)

alike_replaced : (call : Call) → given_by call ≡ None → ((n : ℕ) (was : Bool) → open_by n was call ≡ was) → has_failed call ≡ true → (c : Call) → Alike (replaced call c) c
alike_replaced call g o f (Connect to link) = itself (Connect to link)
alike_replaced call g o f (Listen at listener) = itself (Listen at listener)
alike_replaced call g o f (Accept listener (accepted.Link link)) = itself (Accept listener (accepted.Link link))
alike_replaced call g o f (Accept listener accepted.NotReady) = itself (Accept listener accepted.NotReady)
alike_replaced call g o f (Accept listener accepted.Failed) = record { given = g; opens = o; fails = f }
alike_replaced call g o f (Read link room answer) = itself (Read link room answer)
alike_replaced call g o f (Write link offered answer) = itself (Write link offered answer)
alike_replaced call g o f (Pause wants) = itself (Pause wants)
alike_replaced call g o f (Shut link) = itself (Shut link)

alike : (m : Mark) (c : Call) → Alike (told_as m c) c
alike mark.Same c = itself c
alike mark.Swapped c = alike_swapped c
alike mark.Accepts c = alike_accepting c
alike (mark.Reads room) c = alike_replaced (Read 0 room ReadFault) refl (λ n was. refl) refl c
alike (mark.Writes offered) c = alike_replaced (Write 0 offered WriteFault) refl (λ n was. refl) refl c

retold_opens : (n : ℕ) (was : Bool) (ms : List Mark) (cs : List Call) → open_after n was (retold ms cs) ≡ open_after n was cs
retold_opens n was [] cs = refl
retold_opens n was (m ∷ ms) [] = refl
retold_opens n was (m ∷ ms) (c ∷ cs) = ap (λ b. open_after n b (retold ms cs)) ((alike m c).opens n was) ∙ retold_opens n (open_by n was c) ms cs

pub retold_open : (n : ℕ) (ms : List Mark) (cs : List Call) → is_open n (retold ms cs) ≡ is_open n cs
retold_open n ms cs = retold_opens n false ms cs

pub retold_given : (n : ℕ) (ms : List Mark) (cs : List Call) → is_given n (retold ms cs) ≡ is_given n cs
retold_given n [] cs = refl
retold_given n (m ∷ ms) [] = refl
retold_given n (m ∷ ms) (c ∷ cs) = ap (λ g. is_number n g || list_any (gives n) (retold ms cs)) (alike m c).given ∙ ap (λ b. is_number n (given_by c) || b) (retold_given n ms cs)

failed-first : (c : Call) (cs : List Call) → failed (c ∷ cs) ≡ (0 + cond (has_failed c) 1 0) + failed cs
failed-first c cs = sum_by-append (λ (x : Call). cond (has_failed x) 1 0) (c ∷ []) cs

pub retold_failed : (ms : List Mark) (cs : List Call) → failed (retold ms cs) ≡ failed cs
retold_failed [] cs = refl
retold_failed (m ∷ ms) [] = refl
retold_failed (m ∷ ms) (c ∷ cs) =
    let same : cond {A = ℕ} (has_failed (told_as m c)) 1 0 ≡ cond {A = ℕ} (has_failed c) 1 0 = ap (λ (b : Bool). cond {A = ℕ} b 1 0) (alike m c).fails in
    let rest = retold_failed ms cs in
    omega (arith, failed-first (told_as m c) (retold ms cs), failed-first c cs, same, rest)

-- one call more, with its mark
pub retold_call : (ms : List Mark) (m : Mark) (cs : List Call) (c : Call) → length ms ≡ length cs → retold (ms ++ m ∷ []) (cs ++ c ∷ []) ≡ retold ms cs ++ told_as m c ∷ []
retold_call [] m [] c e = refl
retold_call [] m (d ∷ cs) c e = absurd (omega (arith, e))
retold_call (l ∷ ms) m [] c e = absurd (omega (arith, e))
retold_call (l ∷ ms) m (d ∷ cs) c e = ap (λ told. told_as l d ∷ told) (retold_call ms m cs c (omega (arith, e)))

-- a mark without a call
pub retold_mark : (ms : List Mark) (m : Mark) (cs : List Call) → length cs ≤ length ms → retold (ms ++ m ∷ []) cs ≡ retold ms cs
retold_mark [] m [] e = refl
retold_mark [] m (d ∷ cs) e = absurd (omega (arith, e))
retold_mark (l ∷ ms) m [] e = refl
retold_mark (l ∷ ms) m (d ∷ cs) e = ap (λ told. told_as l d ∷ told) (retold_mark ms m cs (omega (arith, e)))
