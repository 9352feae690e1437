-- Handles that are held: what a pause waits for, and how they are closed.
use Rattle.std.proofs.Common.{arith, ◌≡◌, ◌≢◌, ◌<◌, ◌+◌, ℕ, zero, suc, add-one, List, [], ◌∷◌, ◌++◌, length, take, drop, get_or, slice_set, Option, Some, None, refl, sym, ◌∙◌, ap, subst, append_assoc}
use Rattle.std.specs.Prelude.{◌↔◌, IsSome, slice_get}
use Rattle.std.proofs.lemmas.Bool.{false≢true}
use Rattle.std.proofs.lemmas.List.{append-nil}
use Rattle.lnbd_callbacks.specs.Calls.{Call}
use Rattle.lnbd_model.specs.declared.state.State.{State}
use Rattle.lnbd_history.specs.Answers.{state_after, in_flight_after, direction_after}
use Rattle.lnbd_machine.specs.Now.{state_now, in_flight_now, direction_now}
use Rattle.lnbd_standing.proofs.Standing.{stands_right}
use Rattle.lnbd_commands.specs.declared.close.Closed.{Closed}
use Rattle.lnbd_handle.specs.Histories.{ForEach, Closes}
use Rattle.lnbd_link.specs.declared.wires.Want.{Want}
use Rattle.lnbd_handle.specs.Placing.{Handled}
use Rattle.lnbd_poll.specs.declared.held.Held.{Held as Kept}
use Rattle.lnbd_poll.specs.Seen.{Seen, IsAt}
use Rattle.lnbd_poll.specs.Lends.{with_handle}
use Rattle.lnbd_poll.specs.Held.{Held, all_held, seen_held, AllClose, AreAt, want_now, want_of, wants_after, wants_now, with_want}

-- Wants.

with_append : (want : Option Want) (xs ys : List Want) → with_want want xs ++ ys ≡ with_want want (xs ++ ys)
with_append None xs ys = refl
with_append (Some want) xs ys = refl

module _ {K : Type 0} where
  wants_append : (xs ys : List (Held K)) → wants_now (xs ++ ys) ≡ wants_now xs ++ wants_now ys
  wants_append [] ys = refl
  wants_append (x ∷ xs) ys = ap (with_want (want_now x)) (wants_append xs ys) ∙ sym (with_append (want_now x) (wants_now xs) (wants_now ys))

  take_one : (i : ℕ) (xs : List (Held K)) (x : Held K) → i < length xs → x ≡ get_or xs i x → take (suc i) xs ≡ take i xs ++ x ∷ []
  take_one i [] x within is = absurd (omega (arith, within))
  take_one zero (y ∷ ys) x within is = ap (λ (h : Held K). h ∷ []) (sym is)
  take_one (suc i) (y ∷ ys) x within is = ap (λ (l : List (Held K)). y ∷ l) (take_one i ys x (omega (arith, within)) is)

  pub wants_on : (i : ℕ) (all : List (Held K)) (x : Held K) (wants : List Want) → i < length all → x ≡ get_or all i x → wants ≡ wants_now (take i all) → wants ++ with_want (want_now x) [] ≡ wants_now (take (i + 1) all)
  wants_on i all x wants within is so_far =
      let one : take (i + 1) all ≡ take i all ++ x ∷ [] = rw add-one (take_one i all x within is) in
      ap (λ (l : List Want). l ++ with_want (want_now x) []) so_far ∙ sym (wants_append (take i all) (x ∷ [])) ∙ ap wants_now (sym one)

  want_same : (held : Held K) (seen : Seen K) → IsAt held.link held.handle held.inbox seen → want_now held ≡ want_of seen.link (state_after seen.history) (in_flight_after seen.history) (direction_after seen.history)
  want_same held seen at =
      let right = stands_right 1024 seen.history held.handle at.stands in
      ap (λ (n : ℕ). want_of n (state_now held.handle.known) (in_flight_now held.handle.known) (direction_now held.handle.known)) (sym at.link)
      ∙ ap (λ (s : State). want_of seen.link s (in_flight_now held.handle.known) (direction_now held.handle.known)) right.state
      ∙ ap (λ (n : ℕ). want_of seen.link (state_after seen.history) n (direction_now held.handle.known)) right.in_flight
      ∙ ap (λ (n : ℕ). want_of seen.link (state_after seen.history) (in_flight_after seen.history) n) right.direction

  pub wants_same : (all : List (Held K)) (seen : List (Seen K)) → AreAt all seen → wants_now all ≡ wants_after seen
  wants_same [] [] at = refl
  wants_same [] (s ∷ ss) at = absurd at
  wants_same (x ∷ xs) [] at = absurd at
  wants_same (x ∷ xs) (s ∷ ss) at = ap (with_want (want_now x)) (wants_same xs ss at.1) ∙ ap (λ (w : Option Want). with_want w (wants_after ss)) (want_same x s at.0)

-- Indices.

get_other : {A : Type 0} (xs : List A) (i j : ℕ) (y : A) → j ≢ i → slice_get (slice_set xs i y) j ≡ slice_get xs j
get_other [] i j y differ = refl
get_other (x ∷ xs) zero zero y differ = absurd (differ refl)
get_other (x ∷ xs) zero (suc j) y differ = refl
get_other (x ∷ xs) (suc i) zero y differ = refl
get_other (x ∷ xs) (suc i) (suc j) y differ = get_other xs i j y (λ is. differ (ap suc is))

module _ {K : Type 0} where
  pub set_handle : (i : ℕ) (xs : List (Kept K)) (x : Kept K) (handle : Handled K) → i < length xs → x ≡ get_or xs i x → all_held (slice_set xs i (record x { handle = handle })) ≡ with_handle (all_held xs) i handle.machine
  set_handle i [] x handle within is = absurd (omega (arith, within))
  set_handle zero (y ∷ ys) x handle within is = ap (λ (h : Kept K). seen_held (record h { handle = handle }) ∷ all_held ys) is
  set_handle (suc i) (y ∷ ys) x handle within is = ap (λ (l : List (Held K)). seen_held y ∷ l) (set_handle i ys x handle (omega (arith, within)) is)

  pub set_held : (i : ℕ) (xs : List (Kept K)) (x : Kept K) → all_held (slice_set xs i x) ≡ slice_set (all_held xs) i (seen_held x)
  set_held i [] x = refl
  set_held zero (y ∷ ys) x = refl
  set_held (suc i) (y ∷ ys) x = ap (λ (l : List (Held K)). seen_held y ∷ l) (set_held i ys x)

  pub other_held : (xs : List (Kept K)) (i other : ℕ) (x : Kept K) → other ≢ i → slice_get (all_held (slice_set xs i x)) other ≡ slice_get (all_held xs) other
  other_held xs i other x differ = ap (λ (l : List (Held K)). slice_get l other) (set_held i xs x) ∙ get_other (all_held xs) i other (seen_held x) differ

  pub held_length : (xs : List (Kept K)) → length (all_held xs) ≡ length xs
  held_length [] = refl
  held_length (x ∷ xs) = let same = held_length xs in omega (arith, same)

  held_append : (xs ys : List (Kept K)) → all_held (xs ++ ys) ≡ all_held xs ++ all_held ys
  held_append [] ys = refl
  held_append (x ∷ xs) ys = ap (λ (l : List (Held K)). seen_held x ∷ l) (held_append xs ys)

  held_take : (i : ℕ) (xs : List (Kept K)) → all_held (take i xs) ≡ take i (all_held xs)
  held_take zero xs = refl
  held_take (suc i) [] = refl
  held_take (suc i) (x ∷ xs) = ap (λ (l : List (Held K)). seen_held x ∷ l) (held_take i xs)

  held_drop : (i : ℕ) (xs : List (Kept K)) → all_held (drop i xs) ≡ drop i (all_held xs)
  held_drop zero xs = refl
  held_drop (suc i) [] = refl
  held_drop (suc i) (x ∷ xs) = held_drop i xs

  pub held_added : (xs now : List (Kept K)) (x : Kept K) → now ≡ xs ++ x ∷ [] → all_held now ≡ all_held xs ++ seen_held x ∷ []
  held_added xs now x is = ap all_held is ∙ held_append xs (x ∷ [])

  pub held_without : (i j : ℕ) (xs now : List (Kept K)) → now ≡ take i xs ++ drop j xs → all_held now ≡ take i (all_held xs) ++ drop j (all_held xs)
  held_without i j xs now is = ap all_held is ∙ held_append (take i xs) (drop j xs) ∙ ap (λ (l : List (Held K)). l ++ all_held (drop j xs)) (held_take i xs) ∙ ap (λ (l : List (Held K)). take i (all_held xs) ++ l) (held_drop j xs)

  pub held_here : (i : ℕ) (xs : List (Kept K)) (x : Kept K) → x ≡ get_or xs i x → seen_held x ≡ get_or (all_held xs) i (seen_held x)
  held_here i [] x is = refl
  held_here zero (y ∷ ys) x is = ap seen_held is
  held_here (suc i) (y ∷ ys) x is = held_here i ys x is

  pub get_here : (i : ℕ) (xs : List (Kept K)) (x : Kept K) → i < length xs → x ≡ get_or xs i x → slice_get (all_held xs) i ≡ Some (seen_held x)
  get_here i [] x within is = absurd (omega (arith, within))
  get_here zero (y ∷ ys) x within is = ap (λ (h : Kept K). Some (seen_held h)) (sym is)
  get_here (suc i) (y ∷ ys) x within is = get_here i ys x (omega (arith, within)) is

-- Closing.

pub none_left : {A : Type 0} (n : ℕ) (o : Option A) → o ≡ None → (IsSome o ↔ (0 < n)) → n ≡ 0
none_left zero o is some = refl
none_left (suc n) o is some = absurd (false≢true (subst IsSome is (some.1 (omega arith))))

module _ {K World : Type 0} (steps : World → List (Call K) → World → Type 0) where
  -- The handles that are closed so far: whatever the closing of the others does goes on from here.
  pub record Closing (seen : List (Seen K)) (before : World) (items : List (Held K)) (closed : List Closed) (now : World) : Type 0 where
    pub left : List (Seen K)
    pub at : AreAt items left
    pub goes_on : (more : List Closed) (after : World) → AllClose steps left more now after → AllClose steps seen (closed ++ more) before after

  pub closing_none : (seen : List (Seen K)) (before : World) (all items : List (Held K)) (closed : List Closed) → items ≡ all → length closed ≡ 0 → AreAt all seen → Closing seen before items closed before
  closing_none seen before all items [] is none at = record { left = seen; at = subst (λ (l : List (Held K)). AreAt l seen) (sym is) at; goes_on = λ more after c. c }
  closing_none seen before all items (c ∷ cs) is none at = absurd (omega (arith, none))

  pub closing_on : (seen : List (Seen K)) (before now after : World) (items others : List (Held K)) (x : Held K) (closed : List Closed) (one : Closed) → Closing seen before items closed now → items ≡ x ∷ others
      → ForEach x.handle (Closes steps one.notes one.opened one.freed now after) → Closing seen before others (closed ++ one ∷ []) after
  closing_on seen before now after items others x closed one c is closes = go c.left refl (subst (λ (l : List (Held K)). AreAt l c.left) is c.at)
    where
      go : (left : List (Seen K)) → c.left ≡ left → AreAt (x ∷ others) c.left → Closing seen before others (closed ++ one ∷ []) after
      go [] none at = absurd (subst (λ (l : List (Seen K)). AreAt (x ∷ others) l) none at)
      go (s ∷ ss) is_left at =
          let here = subst (λ (l : List (Seen K)). AreAt (x ∷ others) l) is_left at in
          record {
            left = ss;
            at = here.1;
            goes_on = λ more end rest. subst (λ (l : List Closed). AllClose steps seen l before end) (sym (append_assoc closed (one ∷ []) more))
                (c.goes_on (one ∷ more) end (subst (λ (l : List (Seen K)). AllClose steps l (one ∷ more) now end) (sym is_left) (after, closes s.history here.0.stands, rest)));
          }

  pub closing_done : (seen : List (Seen K)) (before now : World) (items : List (Held K)) (closed : List Closed) → Closing seen before items closed now → length items ≡ 0 → AllClose steps seen closed before now
  closing_done seen before now items closed c none = go c.left items refl none c.at
    where
      go : (left : List (Seen K)) (items : List (Held K)) → c.left ≡ left → length items ≡ 0 → AreAt items c.left → AllClose steps seen closed before now
      go left (x ∷ xs) is none at = absurd (omega (arith, none))
      go (s ∷ ss) [] is none at = absurd (subst (λ (l : List (Seen K)). AreAt [] l) is at)
      go [] [] is none at = subst (λ (l : List Closed). AllClose steps seen l before now) (append-nil closed) (c.goes_on [] now (subst (λ (l : List (Seen K)). AllClose steps l [] now now) (sym is) refl))
