-- A server's hello that `lnbd_wire` read, by what its bytes show.
use Rattle.std.proofs.Common.{◌≡◌, ◌≢◌, ℕ, ◌<◌, ◌≤◌, Bool, true, false, not, nat_lt, List, [], ◌∷◌, Some, None, length, if◌then◌else◌, inl, inr, refl, sym, ◌∙◌, arith, ◌==◌}
use Rattle.std.proofs.lemmas.Grind.{common_steps}
use Rattle.lnbd_model.specs.declared.breach.Breach.TheVariants.{BadHello, NotFixed, OldStyle}
use Rattle.lnbd_records.specs.Numbers.{number, IsRow, Begins, has_bit, number_at}
use Rattle.lnbd_records.specs.Handshake.{hello, init_magic, oldstyle_magic, option_magic}
use Rattle.lnbd_records.proofs.NumberLaws.{begins_read, first_of}
use Rattle.lnbd_wire.specs.declared.hello.HelloRead.{HelloRead}
use Rattle.lnbd_wire.specs.declared.hello.HelloRead.TheVariants.{Value, NeedMore, BadFirst, BadSecond}
use Rattle.lnbd_wire.specs.Hello.{IsHelloRead}
use Rattle.lnbd_history.specs.Arrivals.{Broken, Hello, shows_hello}
use Rattle.lnbd_stream.specs.Grammar.{once, wants}
use Rattle.lnbd_negotiate.specs.Reading.{IsHelloShown, second_breach}

-- what the first and the second number are
record Two (first second : ℕ) (bytes : List ℕ) : Type 0 where
  long : 16 ≤ length bytes
  first_is : number_at 0 8 bytes ≡ first
  second_is : number_at 8 8 bytes ≡ second

two_of : (first second : ℕ) (bytes : List ℕ) → Begins (IsRow (number 8 first ∷ number 8 second ∷ [])) bytes → Two first second bytes
two_of first second bytes b =
    let r = begins_read (number 8 first ∷ number 8 second ∷ []) bytes b in
    let e = r.fields in
    record { long = omega (arith, r.long); first_is = cc; second_is = cc }

record Three (flags : ℕ) (bytes : List ℕ) : Type 0 where
  long : 18 ≤ length bytes
  first_is : number_at 0 8 bytes ≡ init_magic
  second_is : number_at 8 8 bytes ≡ option_magic
  flags_is : number_at 16 2 bytes ≡ flags

three_of : (flags : ℕ) (bytes : List ℕ) → Begins (IsRow (hello flags)) bytes → Three flags bytes
three_of flags bytes b =
    let r = begins_read (hello flags) bytes b in
    let e = r.fields in
    record { long = omega (arith, r.long); first_is = cc; second_is = cc; flags_is = cc }

short_of : (n : ℕ) (bytes : List ℕ) → length bytes < n → nat_lt (length bytes) n ≡ true
short_of n bytes less = grind (arith, common_steps)

long_of : (n : ℕ) (bytes : List ℕ) → n ≤ length bytes → nat_lt (length bytes) n ≡ false
long_of n bytes there = grind (arith, common_steps)

is_of : (a b : ℕ) → a ≡ b → (a == b) ≡ true
is_of a b same = grind (arith, common_steps)

differs_of : (a b : ℕ) → a ≢ b → (a == b) ≡ false
differs_of a b other = grind (arith, common_steps, other)

before_first : (bytes : List ℕ) → length bytes < 8 → shows_hello bytes ≡ None
unfolding shows_hello once
before_first bytes less = rw (short_of 8 bytes less) refl

before_second : (bytes : List ℕ) → 8 ≤ length bytes → number_at 0 8 bytes ≡ init_magic → length bytes < 16 → shows_hello bytes ≡ None
unfolding shows_hello once wants
before_second bytes there first less = rw (long_of 8 bytes there, is_of (number_at 0 8 bytes) init_magic first, short_of 16 bytes less) refl

bad_first : (bytes : List ℕ) → 8 ≤ length bytes → number_at 0 8 bytes ≢ init_magic → shows_hello bytes ≡ Some (Broken BadHello)
unfolding shows_hello once wants
bad_first bytes there other = rw (long_of 8 bytes there, differs_of (number_at 0 8 bytes) init_magic other) refl

breach_of : (old : Bool) → (if not old then Some (Broken BadHello) else Some (Broken OldStyle)) ≡ Some (Broken (if old then OldStyle else BadHello))
breach_of true = refl
breach_of false = refl

bad_second : (second : ℕ) (bytes : List ℕ) → second ≢ option_magic → Two init_magic second bytes → shows_hello bytes ≡ Some (Broken (second_breach second))
unfolding shows_hello once wants
bad_second second bytes other two =
    let there : 8 ≤ length bytes = omega (arith, two.long) in
    rw (long_of 8 bytes there, is_of (number_at 0 8 bytes) init_magic two.first_is, long_of 16 bytes two.long, two.second_is, differs_of second option_magic other) (breach_of (second == oldstyle_magic))

before_flags : (bytes : List ℕ) → Two init_magic option_magic bytes → length bytes < 18 → shows_hello bytes ≡ None
unfolding shows_hello once wants
before_flags bytes two less =
    let there : 8 ≤ length bytes = omega (arith, two.long) in
    rw (long_of 8 bytes there, is_of (number_at 0 8 bytes) init_magic two.first_is, long_of 16 bytes two.long, two.second_is, short_of 18 bytes less) refl

whole : (flags : ℕ) (bytes : List ℕ) → Three flags bytes → shows_hello bytes ≡ wants (has_bit 1 flags) (Broken NotFixed) (Some (Hello flags))
unfolding shows_hello once wants
whole flags bytes three =
    let first : 8 ≤ length bytes = omega (arith, three.long) in
    let second : 16 ≤ length bytes = omega (arith, three.long) in
    rw (long_of 8 bytes first, is_of (number_at 0 8 bytes) init_magic three.first_is, long_of 16 bytes second, three.second_is, long_of 18 bytes three.long, three.flags_is) refl

pub hello_read : (read : HelloRead) (bytes : List ℕ) → IsHelloRead bytes read → IsHelloShown bytes read
hello_read (Value flags) bytes said = let three = three_of flags bytes said in (three.long, whole flags bytes three)
hello_read NeedMore bytes cut = elim cut [
  | inl less ↦ before_first bytes less
  | inr begun ↦ elim begun [
    | inl one ↦ let f = first_of 8 init_magic [] bytes one.0 in before_second bytes f.0 f.1 one.1
    | inr two ↦ before_flags bytes (two_of init_magic option_magic bytes two.0) two.1
  ]
]
hello_read (BadFirst other) bytes said =
    let f = first_of 8 other [] bytes said.1 in
    bad_first bytes f.0 (λ same. said.0 (sym f.1 ∙ same))
hello_read (BadSecond other) bytes said = bad_second other bytes said.0 (two_of init_magic other bytes said.1)
