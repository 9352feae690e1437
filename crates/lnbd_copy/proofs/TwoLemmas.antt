-- While two handles are held and none was taken out, the calls connected to each side once.
use Rattle.std.proofs.Common.{◌≡◌, ◌≢◌, ◌⊎◌, inl, inr, ℕ, Bool, true, false, ◌==◌, List, [], ◌∷◌, length, map, Option, Some, None, slice_get, if◌then◌else◌, refl, ap, sym, subst, ◌∙◌, arith}
use Rattle.std.proofs.lemmas.Bool.{false≢true, ne_eqb}
use Rattle.lnbd_model.specs.declared.target.Target.{Target}
use Rattle.lnbd_link.specs.Call as wire
use Rattle.lnbd_link.specs.Numbers.{accept_told, is_given}
use Rattle.lnbd_link.specs.Traffic.{target_of}
use Rattle.lnbd_poll.specs.Alone.{HaveOwnLinks}
use Rattle.lnbd_poll.specs.Held.{Held}
use Rattle.lnbd_poll.specs.Seen.{Seen}
use Rattle.lnbd_board.specs.declared.ticket.Ticket.{Ticket}
use Rattle.lnbd_board.specs.Files as board
use Rattle.lnbd_course.specs.Between.{place_of}
use Rattle.lnbd_course.proofs.Asking.{not_one}
use Rattle.lnbd_conduct.specs.Links.{AllConnected, ConnectTo}
use Rattle.lnbd_usage.specs.Links.{targets}
use Rattle.lnbd_conduct.specs.Driven.{given_links, with_given}
use Rattle.lnbd_copy.specs.Way.{IsOn, Way}
use Rattle.lnbd_copy.proofs.GroundLemmas.{given_at}
use Rattle.lnbd_copy.proofs.TurnLemmas.{at_count}

-- The links that calls gave.

cons_none : (a : ℕ) (l : List ℕ) → a ∷ l ≡ [] → ⊥
cons_none a l e = cc

none_cons : (a : ℕ) (l : List ℕ) → [] ≡ a ∷ l → ⊥
none_cons a l e = cc

head_same : (a b : ℕ) (l m : List ℕ) → a ∷ l ≡ b ∷ m → a ≡ b
head_same a b l m e = cc

tail_same : (a b : ℕ) (l m : List ℕ) → a ∷ l ≡ b ∷ m → l ≡ m
tail_same a b l m e = cc

none_some : (to : Target) → None ≡ Some to → ⊥
none_some to e = cc

some_same : (one other : Target) → Some one ≡ Some other → one ≡ other
some_same one other e = cc

with_none : (o : Option ℕ) (rest : List ℕ) → with_given o rest ≡ [] → rest ≡ []
with_none None rest e = e
with_none (Some n) rest e = absurd (cons_none n rest e)

-- the first is that of this call, or of the others
with_some : (o : Option ℕ) (rest : List ℕ) (a : ℕ) (more : List ℕ) → with_given o rest ≡ a ∷ more → (rest ≡ a ∷ more) ⊎ (rest ≡ more)
with_some None rest a more e = inl e
with_some (Some n) rest a more e = inr (tail_same n a rest more e)

-- Where they are connected to.

target_free : (link : ℕ) (calls : List wire.Call) → given_links calls ≡ [] → target_of link calls ≡ None
target_free link [] e = refl
target_free link (wire.Connect to (Some n) ∷ calls) e = absurd (cons_none n (given_links calls) e)
target_free link (wire.Connect to None ∷ calls) e = target_free link calls e
target_free link (wire.Listen at listener ∷ calls) e = target_free link calls (with_none listener (given_links calls) e)
target_free link (wire.Accept listener answer ∷ calls) e = target_free link calls (with_none (accept_told answer) (given_links calls) e)
target_free link (wire.Read n room answer ∷ calls) e = target_free link calls e
target_free link (wire.Write n offered answer ∷ calls) e = target_free link calls e
target_free link (wire.Pause wants ∷ calls) e = target_free link calls e
target_free link (wire.Shut n ∷ calls) e = target_free link calls e

other_number : (n link : ℕ) (to : Target) (other : Option Target) → n ≢ link → (if n == link then Some to else other) ≡ other
other_number n link to other apart = ap (λ (b : Bool). if b then Some to else other) (ne_eqb n link apart)

same_number : (n link : ℕ) (to : Target) (other : Option Target) → n ≡ link → (if n == link then Some to else other) ≡ Some to
same_number n link to other same = subst (λ (m : ℕ). (if n == m then Some to else other) ≡ Some to) same (self n)
  where
    self : (m : ℕ) → (if m == m then Some to else other) ≡ Some to
    self m = grind arith

target_other : (link b : ℕ) (calls : List wire.Call) → b ≢ link → given_links calls ≡ b ∷ [] → target_of link calls ≡ None
target_other link b [] apart e = refl
target_other link b (wire.Connect to (Some n) ∷ calls) apart e =
    other_number n link to (target_of link calls) (λ same. apart (sym (head_same n b (given_links calls) [] e) ∙ same)) ∙ target_free link calls (tail_same n b (given_links calls) [] e)
target_other link b (wire.Connect to None ∷ calls) apart e = target_other link b calls apart e
target_other link b (wire.Listen at listener ∷ calls) apart e = elim (with_some listener (given_links calls) b [] e) [ inl one ↦ target_other link b calls apart one | inr none ↦ target_free link calls none ]
target_other link b (wire.Accept listener answer ∷ calls) apart e = elim (with_some (accept_told answer) (given_links calls) b [] e) [ inl one ↦ target_other link b calls apart one | inr none ↦ target_free link calls none ]
target_other link b (wire.Read n room answer ∷ calls) apart e = target_other link b calls apart e
target_other link b (wire.Write n offered answer ∷ calls) apart e = target_other link b calls apart e
target_other link b (wire.Pause wants ∷ calls) apart e = target_other link b calls apart e
target_other link b (wire.Shut n ∷ calls) apart e = target_other link b calls apart e

-- None is connected to where no link was given,
no_targets : (calls : List wire.Call) → AllConnected calls → given_links calls ≡ [] → targets calls ≡ []
no_targets [] all e = refl
no_targets (wire.Connect to (Some n) ∷ calls) all e = absurd (cons_none n (given_links calls) e)
no_targets (wire.Connect to None ∷ calls) all e = absurd (false≢true (sym all))
no_targets (wire.Listen at listener ∷ calls) all e = no_targets calls all (with_none listener (given_links calls) e)
no_targets (wire.Accept listener answer ∷ calls) all e = no_targets calls all (with_none (accept_told answer) (given_links calls) e)
no_targets (wire.Read n room answer ∷ calls) all e = no_targets calls all e
no_targets (wire.Write n offered answer ∷ calls) all e = no_targets calls all e
no_targets (wire.Pause wants ∷ calls) all e = no_targets calls all e
no_targets (wire.Shut n ∷ calls) all e = no_targets calls all e

both_same : (a b : Target) (l m : List Target) → a ≡ b → l ≡ m → a ∷ l ≡ b ∷ m
both_same a b l m e f = cc

-- one where one was,
one_target : (b : ℕ) (y : Target) (calls : List wire.Call) → AllConnected calls → given_links calls ≡ b ∷ [] → target_of b calls ≡ Some y → targets calls ≡ y ∷ []
one_target b y [] all e there = absurd (none_cons b [] e)
one_target b y (wire.Connect to (Some n) ∷ calls) all e there =
    both_same to y (targets calls) [] (some_same to y (sym (same_number n b to (target_of b calls) (head_same n b (given_links calls) [] e)) ∙ there)) (no_targets calls all (tail_same n b (given_links calls) [] e))
one_target b y (wire.Connect to None ∷ calls) all e there = absurd (false≢true (sym all))
one_target b y (wire.Listen at listener ∷ calls) all e there = elim (with_some listener (given_links calls) b [] e) [ inl one ↦ one_target b y calls all one there | inr none ↦ absurd (none_some y (sym (target_free b calls none) ∙ there)) ]
one_target b y (wire.Accept listener answer ∷ calls) all e there = elim (with_some (accept_told answer) (given_links calls) b [] e) [ inl one ↦ one_target b y calls all one there | inr none ↦ absurd (none_some y (sym (target_free b calls none) ∙ there)) ]
one_target b y (wire.Read n room answer ∷ calls) all e there = one_target b y calls all e there
one_target b y (wire.Write n offered answer ∷ calls) all e there = one_target b y calls all e there
one_target b y (wire.Pause wants ∷ calls) all e there = one_target b y calls all e there
one_target b y (wire.Shut n ∷ calls) all e there = one_target b y calls all e there

-- and two where two were.
two_targets : (a b : ℕ) (x y : Target) (calls : List wire.Call) → b ≢ a → AllConnected calls → given_links calls ≡ a ∷ b ∷ [] → target_of a calls ≡ Some x → target_of b calls ≡ Some y → targets calls ≡ x ∷ y ∷ []
two_targets a b x y [] apart all e here there = absurd (none_cons a (b ∷ []) e)
two_targets a b x y (wire.Connect to (Some n) ∷ calls) apart all e here there =
    let head : n ≡ a = head_same n a (given_links calls) (b ∷ []) e in
    let tail : given_links calls ≡ b ∷ [] = tail_same n a (given_links calls) (b ∷ []) e in
    both_same to x (targets calls) (y ∷ []) (some_same to x (sym (same_number n a to (target_of a calls) head) ∙ here))
    (one_target b y calls all tail (sym (other_number n b to (target_of b calls) (λ same. apart (sym same ∙ head))) ∙ there))
two_targets a b x y (wire.Connect to None ∷ calls) apart all e here there = absurd (false≢true (sym all))
two_targets a b x y (wire.Listen at listener ∷ calls) apart all e here there = elim (with_some listener (given_links calls) a (b ∷ []) e) [ inl two ↦ two_targets a b x y calls apart all two here there | inr one ↦ absurd (none_some x (sym (target_other a b calls apart one) ∙ here)) ]
two_targets a b x y (wire.Accept listener answer ∷ calls) apart all e here there = elim (with_some (accept_told answer) (given_links calls) a (b ∷ []) e) [ inl two ↦ two_targets a b x y calls apart all two here there | inr one ↦ absurd (none_some x (sym (target_other a b calls apart one) ∙ here)) ]
two_targets a b x y (wire.Read n room answer ∷ calls) apart all e here there = two_targets a b x y calls apart all e here there
two_targets a b x y (wire.Write n offered answer ∷ calls) apart all e here there = two_targets a b x y calls apart all e here there
two_targets a b x y (wire.Pause wants ∷ calls) apart all e here there = two_targets a b x y calls apart all e here there
two_targets a b x y (wire.Shut n ∷ calls) apart all e here there = two_targets a b x y calls apart all e here there

-- Two handles.

-- these two
record AreTwo (seens : List (Seen Ticket)) : Type 0 where
  one : Seen Ticket
  other : Seen Ticket
  are : seens ≡ one ∷ other ∷ []

are_two : (seens : List (Seen Ticket)) → length seens ≡ 2 → AreTwo seens
are_two [] e = absurd (omega (arith, e))
are_two (one ∷ []) e = absurd (omega (arith, e))
are_two (one ∷ other ∷ []) e = record { one = one; other = other; are = refl }
are_two (one ∷ other ∷ third ∷ more) e = absurd (omega (arith, e))

pub two_connected : (way : Way) (now : board.Seen) (calls : List wire.Call) (held : List (Held Ticket)) → IsOn way now calls held → AllConnected calls → length held ≡ 2 → ConnectTo (way.from.to ∷ way.to.to ∷ []) calls
two_connected way now calls held on all count =
    let two = are_two on.seens (sym (at_count held on.seens on.at) ∙ count) in
    let between = on.stands.between in
    let course = between.course in
    let there0 : slice_get on.seens 0 ≡ Some two.one = ap (λ (l : List (Seen Ticket)). slice_get l 0) two.are in
    let there1 : slice_get on.seens 1 ≡ Some two.other = ap (λ (l : List (Seen Ticket)). slice_get l 1) two.are in
    let given0 = given_at calls two.one.link (is_given two.one.link calls) refl (λ none. not_one two.one.link 0 two.one on.seens there0 (course.unused two.one.link none).apart refl) in
    let given1 = given_at calls two.other.link (is_given two.other.link calls) refl (λ none. not_one two.other.link 1 two.other on.seens there1 (course.unused two.other.link none).apart refl) in
    let side0 : on.has two.one.link ≡ true = on.sided 0 two.one there0 in
    let side1 : on.has two.other.link ≡ false = on.sided 1 two.other there1 in
    let own = subst HaveOwnLinks two.are course.drive.own in
    two_targets two.one.link two.other.link way.from.to way.to.to calls own.0.0 all (on.order ∙ ap (λ (l : List (Seen Ticket)). map (λ (seen : Seen Ticket). seen.link) l) two.are)
    (subst (λ (b : Bool). target_of two.one.link calls ≡ Some (place_of way.from way.to b).to) side0 (between.placed.address two.one.link given0))
    (subst (λ (b : Bool). target_of two.other.link calls ≡ Some (place_of way.from way.to b).to) side1 (between.placed.address two.other.link given1))
