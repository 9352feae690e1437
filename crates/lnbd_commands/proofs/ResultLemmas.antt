-- A result that is taken.
use Rattle.std.proofs.Common.{◌≡◌, ℕ, ◌+◌, ◌<◌, List, [], ◌∷◌, ◌++◌, Bool, true, false, cond, refl, ap, sym, subst, arith, Some, None, Option, length, ◌==◌, ◌≢◌, ◌∙◌}
use Rattle.std.specs.Prelude.{is_none, is_some}
use Rattle.std.proofs.lemmas.Grind.{common_steps}
use Rattle.lnbd_keyed.specs.Keyed.{value_at, without, IsAbove, IsBelow, IsRising}
use Rattle.lnbd_keyed.proofs.KeyedLemmas.{IsAbove_without, IsBelow_without, IsRising_without}
use Rattle.lnbd_inflight.specs.Done.{is_done, forgetting}
use Rattle.lnbd_inflight.proofs.Order.{done_other}
use Rattle.lnbd_history.specs.Commands.{Flight}
use Rattle.lnbd_machine.specs.Machine.{Row}
use Rattle.lnbd_commands.specs.Commands.{Commands}
use Rattle.lnbd_commands.specs.Sound.{IsSound, IsRow, AreRows, live_numbers, row_numbers}
use Rattle.lnbd_commands.proofs.MarkLemmas.{row_of}

module _ {K : Type 0} where
  none_of : (o : Option (Flight K)) → is_none o ≡ true → o ≡ None
  none_of None h = refl
  none_of (Some f) h = absurd (cc (h))

  -- a row with something kept is not in flight
  pub kept_landed : (c : ℕ) (r : Row K) (done : List ℕ) (rows : List (ℕ × Row K)) → AreRows done rows → value_at c rows ≡ Some r → is_some r.kept ≡ true → r.flight ≡ None
  kept_landed c r done rows a h k = none_of r.flight (sym (row_of c r done rows a h).kept ∙ k)

  -- what was seen of a row holds of the row that is taken out
  pub kept_seen : (b : Bool) (seen r : Row K) (o : Option (Row K)) → Some seen ≡ o → Some r ≡ o → b ≡ is_some seen.kept → b ≡ true → is_some r.kept ≡ true
  kept_seen b seen r o h k e t = let same : seen ≡ r = cc in ap (λ (s : Row K). is_some s.kept) (sym same) ∙ (sym e ∙ t)

  -- a row that is not in flight goes with no number
  live_without : (c : ℕ) (r : Row K) (rows : List (ℕ × Row K)) → value_at c rows ≡ Some r → r.flight ≡ None → live_numbers (without c rows) ≡ live_numbers rows
  live_without c r [] h n = refl
  live_without c r (x ∷ xs) h n =
      elim (c == x.0) as (λ b. cond b (Some x.1) (value_at c xs) ≡ Some r → live_numbers (cond b xs (x ∷ without c xs)) ≡ live_numbers (x ∷ xs)) [
        | true ↦ λ e. let same : x.1.flight ≡ None = cc in rw same refl
        | false ↦ λ e. ap (λ l. row_numbers x.1.flight ++ l) (live_without c r xs e n)
      ] h

  row_other : (c n : ℕ) (r : Row K) (done : List ℕ) → n ≢ c → IsRow (is_done n done) r → IsRow (is_done n (forgetting c done)) r
  row_other c n r done other row = subst (λ (b : Bool). IsRow b r) (sym (done_other n c done other)) row

  rows_other : (c n : ℕ) (done : List ℕ) (rows : List (ℕ × Row K)) → c ≡ n → IsAbove n rows → AreRows done rows → AreRows (forgetting c done) rows
  rows_other c n done [] same up a = tt
  rows_other c n done (x ∷ xs) same up a = (row_other c x.0 x.1 done (λ e. let l : n < x.0 = up.0 in absurd (omega (arith, e, same, l))) a.0, rows_other c n done xs same up.1 a.1)

  rows_forget : (c : ℕ) (done : List ℕ) (rows : List (ℕ × Row K)) → IsRising rows → AreRows done rows → AreRows (forgetting c done) (without c rows)
  rows_forget c done [] up a = tt
  rows_forget c done (x ∷ xs) up a =
      elim (c == x.0) as (λ b. (c == x.0) ≡ b → AreRows (forgetting c done) (cond b xs (x ∷ without c xs))) [
        | true ↦ λ t. let same : c ≡ x.0 = grind (arith, common_steps) in rows_other c x.0 done xs same up.0 a.1
        | false ↦ λ t. let other : x.0 ≢ c = grind (arith, common_steps) in (row_other c x.0 x.1 done other a.0, rows_forget c done xs up.1 a.1)
      ] refl

  -- a command that is completed is retired
  pub sound_retired : (m : Commands K) (c : ℕ) (r : Row K) → IsSound m → value_at c m.rows ≡ Some r → r.flight ≡ None → IsSound (record m { rows = without c m.rows; done = forgetting c m.done })
  sound_retired m c r s h n =
      let same : live_numbers (without c m.rows) ≡ live_numbers m.rows = live_without c r m.rows h n in
      record {
        live = s.live ∙ sym same;
        numbered = subst (λ (l : List (ℕ × Bool)). IsRising l) (sym same) s.numbered;
        below = subst (λ (l : List (ℕ × Bool)). IsBelow l (m.log.admitted + 1)) (sym same) s.below;
        cookies = IsRising_without c m.rows s.cookies;
        positive = IsAbove_without 0 c m.rows s.positive;
        issued = IsBelow_without (m.issued + 1) c m.rows s.issued;
        rows = rows_forget c m.done m.rows s.cookies s.rows;
        counted = let k = s.counted in let e = ap length same in omega arith;
      }
