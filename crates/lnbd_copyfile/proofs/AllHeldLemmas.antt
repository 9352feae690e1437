-- Where no more links were given than handles are held, each that was given is that of a handle.
use Rattle.std.proofs.Common.{◌≡◌, ◌≤◌, ◌<◌, ◌+◌, ℕ, Bool, true, false, ◌||◌, ◌==◌, List, [], ◌∷◌, length, Option, Some, None, refl, ap, sym, ◌∙◌, arith}
use Rattle.std.specs.List.{list_any}
use Rattle.std.proofs.lemmas.Bool.{false≢true}
use Rattle.std.proofs.lemmas.Grind.{common_steps}
use Rattle.std.proofs.lemmas.Bool.Decides.{nat_tests}
use Rattle.lnbd_link.specs.Call as wire
use Rattle.lnbd_link.specs.Numbers.{given_by, gives, is_given, is_number, is_open}
use Rattle.lnbd_poll.specs.Alone.{AreApart}
use Rattle.lnbd_poll.specs.Held.{AreAt, Held}
use Rattle.lnbd_poll.specs.Seen.{Seen}
use Rattle.lnbd_board.specs.declared.ticket.Ticket.{Ticket}
use Rattle.lnbd_course.specs.UnderWay.{AllHeld}
use Rattle.lnbd_conduct.specs.Driven.{given_links, with_given}
use Rattle.lnbd_conduct.specs.Links.{once_if}
use Rattle.lnbd_copy.specs.Links.{LinksStand, links_of, times}
use Rattle.lnbd_copy.proofs.LinkLemmas.{unopened}
use Rattle.lnbd_usage.specs.Links.{serves, targets}

-- A number that is in a list may be taken out of it.

record Without (n : ℕ) (list : List ℕ) : Type 0 where
  rest : List ℕ
  fewer : length list ≡ length rest + 1
  same : (m : ℕ) → times m list ≡ once_if (n == m) + times m rest

is_it : (n m : ℕ) → (n == m) ≡ true → n ≡ m
is_it n m e = grind (arith, nat_tests, common_steps)

without : (n : ℕ) (list : List ℕ) → 0 < times n list → Without n list
without n [] some = absurd (omega (arith, some))
without n (x ∷ xs) some = go (x == n) refl some (λ more. without n xs more)
  where
    go : (b : Bool) → (x == n) ≡ b → 0 < once_if b + times n xs → (0 < times n xs → Without n xs) → Without n (x ∷ xs)
    go true e more later = record { rest = xs; fewer = omega arith; same = λ m. ap (λ (k : ℕ). once_if (k == m) + times m xs) (is_it x n e) }
    go false e more later =
        let one = later (omega (arith, more)) in
        let fewer = one.fewer in
        record { rest = x ∷ one.rest; fewer = omega (arith, fewer); same = λ m. let same = one.same m in omega (arith, same) }

-- A list that has each number of another as often as it, and one more often, is longer.
longer : (few many : List ℕ) (one : ℕ) → ((n : ℕ) → times n few ≤ times n many) → times one few < times one many → length few < length many
longer [] many one all more = go many more
  where
    go : (list : List ℕ) → 0 < times one list → 0 < length list
    go [] some = absurd (omega (arith, some))
    go (x ∷ xs) some = omega arith
longer (x ∷ xs) many one all more =
    let self : once_if (x == x) ≡ 1 = ap once_if (same_number x) in
    let here = all x in
    let w = without x many (omega (arith, here, self)) in
    let fewer = w.fewer in
    let rest = longer xs w.rest one (λ n. let same = w.same n in let a = all n in omega (arith, same, a)) (let same = w.same one in omega (arith, same, more)) in
    omega (arith, rest, fewer)
  where
    same_number : (n : ℕ) → (n == n) ≡ true
    same_number n = grind (arith, nat_tests, common_steps)

-- The links that calls gave.

or_false : (a b : Bool) → (a || b) ≡ true → a ≡ false → b ≡ true
or_false a b e none = sym (ap (λ (c : Bool). c || b) none) ∙ e

given_times : (link : ℕ) (calls : List wire.Call) → is_given link calls ≡ true → 0 < times link (given_links calls)
given_times link [] given = absurd (false≢true given)
given_times link (call ∷ calls) given = go (is_number link (given_by call)) refl (λ more. given_times link calls more)
  where
    later : (n : ℕ) → 0 < times link (given_links calls) → 0 < times link (n ∷ given_links calls)
    later n some = omega (arith, some)

    with_it : (o : Option ℕ) → 0 < times link (given_links calls) → 0 < times link (with_given o (given_links calls))
    with_it None some = some
    with_it (Some n) some = later n some

    is_this : (o : Option ℕ) → is_number link o ≡ true → 0 < times link (with_given o (given_links calls))
    is_this None e = absurd (false≢true e)
    is_this (Some n) e = let one : once_if (n == link) ≡ 1 = ap once_if e in omega (arith, one)

    go : (b : Bool) → is_number link (given_by call) ≡ b → (is_given link calls ≡ true → 0 < times link (given_links calls)) → 0 < times link (with_given (given_by call) (given_links calls))
    go true e more = is_this (given_by call) e
    go false e more = with_it (given_by call) (more (or_false (gives link call) (is_given link calls) given e))

few_given : (calls : List wire.Call) → list_any serves calls ≡ false → length (given_links calls) ≤ length (targets calls)
few_given [] none = omega arith
few_given (wire.Connect to (Some link) ∷ calls) none = let rest = few_given calls none in omega (arith, rest)
few_given (wire.Connect to None ∷ calls) none = let rest = few_given calls none in omega (arith, rest)
few_given (wire.Listen at listener ∷ calls) none = absurd (false≢true (sym none))
few_given (wire.Accept listener answer ∷ calls) none = absurd (false≢true (sym none))
few_given (wire.Read link room answer ∷ calls) none = few_given calls none
few_given (wire.Write link offered answer ∷ calls) none = few_given calls none
few_given (wire.Pause wants ∷ calls) none = few_given calls none
few_given (wire.Shut link ∷ calls) none = few_given calls none

-- A link that is open was given.
open_given : (link : ℕ) (calls : List wire.Call) (o g : Bool) → is_open link calls ≡ o → is_given link calls ≡ g → once_if o ≤ times link (given_links calls)
open_given link calls false g is given = omega arith
open_given link calls true true is given = given_times link calls given
open_given link calls true false is given = absurd (false≢true (sym (unopened link calls given) ∙ is))

apart_times : (link : ℕ) (held : List (Held Ticket)) (seens : List (Seen Ticket)) → AreAt held seens → AreApart link seens → times link (links_of held) ≡ 0
apart_times link [] [] at apart = refl
apart_times link [] (seen ∷ others) at apart = absurd at
apart_times link (one ∷ more) [] at apart = absurd at
apart_times link (one ∷ more) (seen ∷ others) at apart =
    let rest = apart_times link more others at.1 apart.1 in
    let not : once_if (one.link == link) ≡ 0 = go (one.link == link) refl in
    omega (arith, rest, not)
  where
    go : (b : Bool) → (one.link == link) ≡ b → once_if (one.link == link) ≡ 0
    go false e = ap once_if e
    go true e = absurd (apart.0 (at.0.link ∙ is_it one.link link e))

pub count_links : (held : List (Held Ticket)) → length (links_of held) ≡ length held
count_links [] = refl
count_links (one ∷ more) = let rest = count_links more in omega (arith, rest)

pub all_held : (calls : List wire.Call) (held : List (Held Ticket)) (seens : List (Seen Ticket)) → AreAt held seens → LinksStand held calls → length (targets calls) ≤ length held → AllHeld calls seens
all_held calls held seens at links few link apart = go (is_given link calls) refl
  where
    none : times link (links_of held) ≡ 0
    none = apart_times link held seens at apart

    count : length (links_of held) ≡ length held
    count = count_links held

    go : (g : Bool) → is_given link calls ≡ g → is_given link calls ≡ false
    go false e = e
    go true e =
        let some = given_times link calls e in
        let less = longer (links_of held) (given_links calls) link
        (λ n. let opened = links.opened n in let had = open_given n calls (is_open n calls) (is_given n calls) refl refl in omega (arith, opened, had)) (omega (arith, none, some)) in
        let most = few_given calls links.none in
        absurd (omega (arith, less, most, few, count))
