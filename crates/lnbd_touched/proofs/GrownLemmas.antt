-- Calls after calls, and counts that rise.
use Rattle.std.proofs.Common.{◌≡◌, ◌+◌, ℕ, List, [], ◌∷◌, ◌++◌, Option, Result, Ok, Err, arith, subst, ◌∙◌}
use Rattle.std.specs.Prelude.{IfOk, IfErr, OnOk, OnErr}
use Rattle.lnbd_link.specs.Part.{Adds}
use Rattle.lnbd_link.proofs.Parts.{grows_none, grows_on}
use Rattle.lnbd_link.specs.Count.{raised_by}
use Rattle.lnbd_touched.specs.Grown.{Grew, RoseBy}

module _ {A : Type 0} where
  pub grew_none : (told : Option (List A)) (P : List A → Type 0) → P [] → Grew told told P
  grew_none told P is = record { calls = []; grown = grows_none told; leads = is }

  pub grew_one : (told told' : Option (List A)) (call : A) (P : List A → Type 0) → Adds told told' call → P (call ∷ []) → Grew told told' P
  grew_one told told' call P add is = record { calls = call ∷ []; grown = add; leads = is }

  -- one call, and then more
  pub grew_first : (a b c : Option (List A)) (call : A) (P Q : List A → Type 0) → ((calls : List A) → P calls → Q (call ∷ calls)) → Adds a b call → Grew b c P → Grew a c Q
  grew_first a b c call P Q f add g = record { calls = call ∷ g.calls; grown = grows_on a b c (call ∷ []) g.calls add g.grown; leads = f g.calls g.leads }

  -- calls, and then one more
  pub grew_last : (a b c : Option (List A)) (call : A) (P Q : List A → Type 0) → ((calls : List A) → P calls → Q (calls ++ call ∷ [])) → Grew a b P → Adds b c call → Grew a c Q
  grew_last a b c call P Q f g add = record { calls = g.calls ++ call ∷ []; grown = grows_on a b c g.calls (call ∷ []) g.grown add; leads = f g.calls g.leads }

  -- some calls, and then more
  pub grew_both : (a b c : Option (List A)) (P Q R : List A → Type 0) → ((calls more : List A) → P calls → Q more → R (calls ++ more)) → Grew a b P → Grew b c Q → Grew a c R
  grew_both a b c P Q R f g h = record { calls = g.calls ++ h.calls; grown = grows_on a b c g.calls h.calls g.grown h.grown; leads = f g.calls h.calls g.leads h.leads }

  pub grew_as : (a b : Option (List A)) (P Q : List A → Type 0) → ((calls : List A) → P calls → Q calls) → Grew a b P → Grew a b Q
  grew_as a b P Q f g = record { calls = g.calls; grown = g.grown; leads = f g.calls g.leads }

-- Answers.

pub ok_as : {A E : Type 0} (r : Result A E) (P Q : A → Type 0) → ((a : A) → P a → Q a) → IfOk r P → IfOk r Q
ok_as (Ok a) P Q f is = f a is
ok_as (Err e) P Q f is = tt

pub err_as : {A E : Type 0} (r : Result A E) (P Q : E → Type 0) → ((e : E) → P e → Q e) → IfErr r P → IfErr r Q
err_as (Ok a) P Q f is = tt
err_as (Err e) P Q f is = f e is

pub ok_both : {A E : Type 0} (r : Result A E) (P Q R : A → Type 0) → ((a : A) → P a → Q a → R a) → IfOk r P → IfOk r Q → IfOk r R
ok_both (Ok a) P Q R f p q = f a p q
ok_both (Err e) P Q R f p q = tt

pub done_as : {A E : Type 0} (r : Result A E) (P Q : Type 0) → (P → Q) → OnOk r P → OnOk r Q
done_as (Ok a) P Q f is = f is
done_as (Err e) P Q f is = tt

pub failed_as : {A E : Type 0} (r : Result A E) (P Q : Type 0) → (P → Q) → OnErr r P → OnErr r Q
failed_as (Ok a) P Q f is = tt
failed_as (Err e) P Q f is = f is

pub ok_with : {A E : Type 0} (r : Result A E) (P : A → Type 0) (a : A) → IfOk r P → r ≡ Ok a → P a
ok_with {A} {E} r P a is e = subst (λ (x : Result A E). IfOk x P) e is

pub err_with : {A E : Type 0} (r : Result A E) (P : E → Type 0) (e : E) → IfErr r P → r ≡ Err e → P e
err_with {A} {E} r P e is k = subst (λ (x : Result A E). IfErr x P) k is

-- Counts of bytes.

pub rose_none : (count : ℕ) → RoseBy 0 count count
rose_none count = record { on = λ few. omega arith }

pub rose_once : (n old new : ℕ) → new ≡ raised_by n old → RoseBy n old new
rose_once n old new is = record { on = λ few. is ∙ omega (arith, few) }

pub rose_then : (n m a b c : ℕ) → RoseBy n a b → RoseBy m b c → RoseBy (n + m) a c
rose_then n m a b c f g = record { on = λ few. let one = f.on (omega (arith, few)) in let two = g.on (omega (arith, few, one)) in omega (arith, one, two) }

pub rose_same : (old new : ℕ) → new ≡ old → RoseBy 0 old new
rose_same old new is = record { on = λ few. omega (arith, is) }
