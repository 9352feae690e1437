-- Where a link was connected to stays, and is told for links that were given alone.
use Rattle.std.proofs.Common.{◌≡◌, ◌≢◌, ◌==◌, ℕ, Bool, true, false, ◌&&◌, ◌||◌, List, [], ◌∷◌, ◌++◌, Option, Some, None, refl, ap, sym, ◌∙◌, if◌then◌else◌, bytes_eq}
use Rattle.std.proofs.lemmas.Bool.{false≢true, eq-eqb, eqb-true}
use Rattle.std.proofs.lemmas.Slice.Eq.{bytes_eq-Decides}
use Rattle.lnbd_model.specs.declared.target.Target.{Target}
use Rattle.lnbd_model.specs.declared.target.Target.TheVariants.{Tcp, Unix}
use Rattle.lnbd_link.specs.Call as wire
use Rattle.lnbd_link.specs.Call.{Connect, Listen, Accept, Read, Write, Pause, Shut}
use Rattle.lnbd_link.specs.Numbers.{is_given, is_number, accept_told}
use Rattle.lnbd_link.specs.Traffic.{target_of}
use Rattle.lnbd_link.proofs.Openings.{is_given-append}
use Rattle.lnbd_asked.specs.Transcript.{is_target, is_name}

abbrev pub or_else : Option Target → Option Target → Option Target
or_else (Some one) other = Some one
or_else None other = other

or_none : (one : Option Target) → or_else one None ≡ one
or_none None = refl
or_none (Some one) = refl

pub target_more : (link : ℕ) (some more : List wire.Call) → target_of link (some ++ more) ≡ or_else (target_of link some) (target_of link more)
target_more link [] more = refl
target_more link (Connect to None ∷ some) more = target_more link some more
target_more link (Connect to (Some n) ∷ some) more = go (n == link) (target_more link some more)
  where
    go : (b : Bool) → target_of link (some ++ more) ≡ or_else (target_of link some) (target_of link more) →
        (if b then Some to else target_of link (some ++ more)) ≡ or_else (if b then Some to else target_of link some) (target_of link more)
    go true rest = refl
    go false rest = rest
target_more link (Listen at given ∷ some) more = target_more link some more
target_more link (Accept n answer ∷ some) more = target_more link some more
target_more link (Read n room answer ∷ some) more = target_more link some more
target_more link (Write n offered answer ∷ some) more = target_more link some more
target_more link (Pause wants ∷ some) more = target_more link some more
target_more link (Shut n ∷ some) more = target_more link some more

second_not : (a b : Bool) → (a || b) ≡ false → b ≡ false
second_not true b e = absurd (false≢true (sym e))
second_not false b e = e

-- A link that was not given was connected nowhere.
pub target_none : (link : ℕ) (calls : List wire.Call) → is_given link calls ≡ false → target_of link calls ≡ None
target_none link [] e = refl
target_none link (Connect to None ∷ calls) e = target_none link calls e
target_none link (Connect to (Some n) ∷ calls) e = go (n == link) e (target_none link calls)
  where
    go : (b : Bool) → (b || is_given link calls) ≡ false → (is_given link calls ≡ false → target_of link calls ≡ None) → (if b then Some to else target_of link calls) ≡ None
    go true e rest = absurd (false≢true (sym e))
    go false e rest = rest e
target_none link (Listen at given ∷ calls) e = target_none link calls (second_not (is_number link given) (is_given link calls) e)
target_none link (Accept n answer ∷ calls) e = target_none link calls (second_not (is_number link (accept_told answer)) (is_given link calls) e)
target_none link (Read n room answer ∷ calls) e = target_none link calls e
target_none link (Write n offered answer ∷ calls) e = target_none link calls e
target_none link (Pause wants ∷ calls) e = target_none link calls e
target_none link (Shut n ∷ calls) e = target_none link calls e

-- Calls that make no link change nothing.
pub target_stays : (link : ℕ) (calls more : List wire.Call) → is_given link more ≡ false → target_of link (calls ++ more) ≡ target_of link calls
target_stays link calls more none = target_more link calls more ∙ ap (or_else (target_of link calls)) (target_none link more none) ∙ or_none (target_of link calls)

or_false : (b : Bool) → (b || false) ≡ b
or_false true = refl
or_false false = refl

pub given_stays : (link : ℕ) (calls more : List wire.Call) → is_given link more ≡ false → is_given link (calls ++ more) ≡ is_given link calls
given_stays link calls more none = is_given-append link calls more ∙ ap (λ b. is_given link calls || b) none ∙ or_false (is_given link calls)

-- A link that was just made was connected there, and others are as they were.

pub target_new : (link : ℕ) (calls : List wire.Call) (to : Target) → is_given link calls ≡ false → target_of link (calls ++ Connect to (Some link) ∷ []) ≡ Some to
target_new link calls to new =
    target_more link calls (Connect to (Some link) ∷ []) ∙ ap (λ (t : Option Target). or_else t (target_of link (Connect to (Some link) ∷ []))) (target_none link calls new)
    ∙ ap (λ (b : Bool). let none : Option Target = None in if b then Some to else none) (eq-eqb link link refl)

pub new_none : (link n : ℕ) (to : Target) → link ≢ n → is_given n (Connect to (Some link) ∷ []) ≡ false
new_none link n to differ = go (link == n) refl
  where
    go : (b : Bool) → (link == n) ≡ b → ((link == n) || false) ≡ false
    go true e = absurd (differ (eqb-true link n e))
    go false e = ap (λ b. b || false) e

-- Places.

same_bytes : (one other : List ℕ) → bytes_eq one other ≡ true → one ≡ other
same_bytes one other e = (bytes_eq-Decides one other).0 e

bytes_same : (one other : List ℕ) → one ≡ other → bytes_eq one other ≡ true
bytes_same one other e = (bytes_eq-Decides one other).1 e

pub both : (a b : Bool) → (a && b) ≡ true → (a ≡ true) × (b ≡ true)
both true true e = (refl, refl)
both true false e = absurd (false≢true e)
both false b e = absurd (false≢true e)

pub target_is : (to : Target) (told : Option Target) → is_target to told ≡ true → told ≡ Some to
target_is to None e = absurd (false≢true e)
target_is (Tcp host port) (Some (Tcp other n)) e =
    let b = both (bytes_eq host other) (port == n) e in
    ap (λ h. Some (Tcp h n)) (sym (same_bytes host other b.0)) ∙ ap (λ p. Some (Tcp host p)) (sym (eqb-true port n b.1))
target_is (Tcp host port) (Some (Unix path)) e = absurd (false≢true e)
target_is (Unix path) (Some (Unix other)) e = ap (λ p. Some (Unix p)) (sym (same_bytes path other e))
target_is (Unix path) (Some (Tcp host port)) e = absurd (false≢true e)

pub is_there : (to : Target) → is_target to (Some to) ≡ true
is_there (Tcp host port) = ap (λ b. b && (port == port)) (bytes_same host host refl) ∙ eq-eqb port port refl
is_there (Unix path) = bytes_same path path refl

pub name_is : (name : List ℕ) (told : Option (List ℕ)) → is_name name told ≡ true → told ≡ Some name
name_is name None e = absurd (false≢true e)
name_is name (Some other) e = ap (λ n. Some n) (sym (same_bytes name other e))

pub is_called : (name : List ℕ) → is_name name (Some name) ≡ true
is_called name = bytes_same name name refl
