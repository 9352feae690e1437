-- Which callbacks live: none after a close, and else those of the commands in flight.
use Rattle.std.proofs.Common.{◌≡◌, ◌≢◌, ℕ, zero, suc, ◌+◌, ◌≤◌, ◌<◌, Bool, true, false, not, ◌&&◌, ◌||◌, cond, List, [], ◌∷◌, Option, Some, None, is_some, filter, Contains, All, refl, ap, ◌∙◌, arith, ◌==◌, ◌⊎◌, inl, inr, if◌then◌else◌, nat_lt}
use Rattle.std.specs.List.{range_with_len}
use Rattle.std.proofs.lemmas.Bool.{eqb-true, eq-eqb, ne_eqb, cases_eq, ltb-true, ltb-false}
use Rattle.std.proofs.lemmas.List.Elements.{All-contains, filter_passes, All-filter, All-nil, All-cons, All-weaker}
use Rattle.lnbd_callbacks.specs.Slot.{Slot}
use Rattle.lnbd_history.specs.Commands.{Flight, Request}
use Rattle.lnbd_history.specs.Entries.{own, is_ended, notes, frees}
use Rattle.lnbd_history.specs.Events.{History, Close}
use Rattle.lnbd_history.specs.History.{asked, request, reading}
use Rattle.lnbd_history.specs.Laws.{notes_by}
use Rattle.lnbd_history.specs.Live.{is_unfreed, live_after, is_number_of, has_callback, IsInFlight, NoneLivesAfterClose, LiveAreInFlight}
use Rattle.lnbd_history.proofs.Cookies.{request_within}
use Rattle.lnbd_history.proofs.Freed.{only_above, only_most, only_within, weigh_asks, flies, live, IsSound, is_sound, close_frees_all}
use Rattle.lnbd_history.proofs.Sums.{upto, upto_at}
use Rattle.lnbd_history.proofs.Weights.{only, only-same, only-other, frees_by, weigh_first, weigh_flight}

-- Lists of numbers.

none_passes : (p : ℕ → Bool) (a n : ℕ) → ((x : ℕ) → a ≤ x → x < a + n → p x ≡ false) → filter p (range_with_len a n) ≡ []
none_passes p a zero none = refl
none_passes p a (suc n) none =
    ap (λ (b : Bool). cond b (a ∷ filter p (range_with_len (a + 1) n)) (filter p (range_with_len (a + 1) n))) (none a (omega arith) (omega arith))
    ∙ none_passes p (a + 1) n (λ x low high. none x (omega (arith, low)) (omega (arith, high)))

within : (a n : ℕ) → All (λ x. (a ≤ x) × (x < a + n)) (range_with_len a n)
within a zero = All-nil (λ x. (a ≤ x) × (x < a + 0))
within a (suc n) =
    let later : All (λ x. (a ≤ x) × (x < a + suc n)) (range_with_len (a + 1) n) =
    All-weaker (λ x. (a + 1 ≤ x) × (x < a + 1 + n)) (λ x. (a ≤ x) × (x < a + suc n)) (λ x both. wider x both.0 both.1) (range_with_len (a + 1) n) (within (a + 1) n) in
    All-cons (λ x. (a ≤ x) × (x < a + suc n)) a (range_with_len (a + 1) n) (omega arith, omega arith) later
  where
    wider : (x : ℕ) → a + 1 ≤ x → x < a + 1 + n → (a ≤ x) × (x < a + suc n)
    wider x low high = (omega (arith, low), omega (arith, high))

behind : (x y : ℕ) (xs : List ℕ) → Contains xs x → Contains (y ∷ xs) x
behind x y xs there = (suc there.0, let less = there.1 in omega (arith, less), there.2)

if_first : (b : Bool) (x y : ℕ) (xs : List ℕ) → Contains xs x → Contains (cond b (y ∷ xs) xs) x
if_first true x y xs there = behind x y xs there
if_first false x y xs there = there

passes : (p : ℕ → Bool) (x a n : ℕ) → p x ≡ true → a ≤ x → x < a + n → Contains (filter p (range_with_len a n)) x
passes p x a zero pass low high = absurd (omega (arith, low, high))
passes p x a (suc n) pass low high = go (cases_eq a x) (passes p x (a + 1) n pass)
  where
    rest : List ℕ
    rest = filter p (range_with_len (a + 1) n)

    go : (a ≡ x) ⊎ (a ≡ x → ⊥) → (a + 1 ≤ x → x < a + 1 + n → Contains rest x) → Contains (cond (p a) (a ∷ rest) rest) x
    go (inl is) ih = let here : p a ≡ true = ap p is ∙ pass in rw here (0, omega arith, is)
    go (inr other) ih = if_first (p a) x a rest (ih (omega (arith, low, other)) (omega (arith, high)))

-- Sums.

some_of : (f : ℕ → ℕ) (a : ℕ) → upto f a ≢ 0 → (c : ℕ) × (1 ≤ c) × (c ≤ a) × (f c ≢ 0)
unfolding upto
some_of f zero h = absurd (h refl)
some_of f (suc a) h = go (cases_eq (f (suc a)) 0) (some_of f a)
  where
    go : (f (suc a) ≡ 0) ⊎ (f (suc a) ≡ 0 → ⊥) → (upto f a ≢ 0 → (c : ℕ) × (1 ≤ c) × (c ≤ a) × (f c ≢ 0)) → (c : ℕ) × (1 ≤ c) × (c ≤ suc a) × (f c ≢ 0)
    go (inl none) ih = let rest = ih (λ e. h (omega (arith, e, none))) in (rest.0, rest.1, let high = rest.2 in omega (arith, high), rest.3)
    go (inr some) ih = (suc a, omega arith, omega arith, some)

only_zero : (a : ℕ) → upto (only 0) a ≡ 0
unfolding upto
only_zero zero = refl
only_zero (suc a) = let rest = only_zero a in let none = only-other 0 (suc a) (ne_eqb (suc a) 0 (λ e. absurd (omega (arith, e)))) in omega (arith, rest, none)

module _ {K : Type 0} where
  -- A callback of a command has a weight.

  callback_weighs : (flight : Flight K) (n : ℕ) → has_callback flight n ≡ true → 1 ≤ weigh_flight (only n) flight
  callback_weighs flight n has = go flight.first has
    where
      done : (b : Bool) → (flight.done.number == n) ≡ b → b ≡ true → 1 ≤ only n flight.done.number
      done b e is = let w = only-same n flight.done.number (e ∙ is) in omega (arith, w)

      go : (first : Option (Slot K)) → (is_number_of first n || (flight.done.number == n)) ≡ true → 1 ≤ weigh_first (only n) first + only n flight.done.number
      go None e = let w = done (flight.done.number == n) refl e in omega (arith, w)
      go (Some slot) e = either (slot.number == n) refl e
        where
          either : (b : Bool) → (slot.number == n) ≡ b → (b || (flight.done.number == n)) ≡ true → 1 ≤ only n slot.number + only n flight.done.number
          either true s e = let w = only-same n slot.number s in omega (arith, w)
          either false s e = let w = done (flight.done.number == n) refl e in omega (arith, w)

  weighs_callback : (flight : Flight K) (n : ℕ) → weigh_flight (only n) flight ≢ 0 → has_callback flight n ≡ true
  weighs_callback flight n some = go flight.first some
    where
      right : (a : Bool) → (a || true) ≡ true
      right true = refl
      right false = refl

      done : (b : Bool) → (flight.done.number == n) ≡ b → (only n flight.done.number ≡ 0 → ⊥) → b ≡ true
      done true e nz = refl
      done false e nz = absurd (nz (only-other n flight.done.number e))

      go : (first : Option (Slot K)) → (weigh_first (only n) first + only n flight.done.number ≡ 0 → ⊥) → (is_number_of first n || (flight.done.number == n)) ≡ true
      go None nz = done (flight.done.number == n) refl (λ z. nz (omega (arith, z)))
      go (Some slot) nz = either (slot.number == n) refl
        where
          either : (b : Bool) → (slot.number == n) ≡ b → (b || (flight.done.number == n)) ≡ true
          either true s = refl
          either false s = done (flight.done.number == n) refl (λ z. nz (let w = only-other n slot.number s in omega (arith, z, w)))

  module _ (history : History K) (n : ℕ) where
    lives : ℕ → ℕ
    lives = live (request history) (reading history).known.entries (only n)

    -- freed once or in flight once, where it was admitted
    balanced : frees (notes_by n (notes (reading history).known.entries)) + upto lives (asked history).issued ≡ upto (only n) (asked history).admitted
    unfolding IsSound lives
    balanced = let all = (is_sound history).balance (only n) in let freed = frees_by n (notes (reading history).known.entries) in omega (arith, all, freed)

    in_flight : (c : ℕ) → lives c ≢ 0 → IsInFlight history n
    unfolding lives live flies weigh_asks
    in_flight c some = go (request history c) refl (is_ended (own c (reading history).known.entries)) refl some
      where
        go : (a : Option (Request K)) → request history c ≡ a → (b : Bool) → is_ended (own c (reading history).known.entries) ≡ b →
            ((if is_some a && not b then weigh_asks (only n) a else 0) ≡ 0 → ⊥) → IsInFlight history n
        go None asks b ended nz = absurd (nz refl)
        go (Some q) asks true ended nz = absurd (nz refl)
        go (Some q) asks false ended nz = record { cookie = c; asks = q; issued = asks; unended = ended; callback = weighs_callback q.flight n nz }

    out_flight : IsInFlight history n → 1 ≤ upto lives (asked history).issued
    unfolding lives live flies weigh_asks
    out_flight there =
        let bound = request_within history there.cookie there.asks there.issued in
        let part = upto_at lives there.cookie (asked history).issued bound.0 bound.1 in
        let weighs = callback_weighs there.asks.flight n there.callback in
        let is : lives there.cookie ≡ weigh_flight (only n) there.asks.flight =
        ap (λ a. if is_some a && not (is_ended (own there.cookie (reading history).known.entries)) then weigh_asks (only n) a else 0) there.issued
        ∙ ap (λ (b : Bool). if not b then weigh_flight (only n) there.asks.flight else 0) there.unended in
        omega (arith, part, weighs, is)

    admitted : upto (only n) (asked history).admitted ≢ 0 → (1 ≤ n) × (n < 1 + (asked history).admitted)
    admitted some = (low (cases_eq n 0), high)
      where
        low : (n ≡ 0) ⊎ (n ≡ 0 → ⊥) → 1 ≤ n
        low (inl z) = absurd (some (ap (λ m. upto (only m) (asked history).admitted) z ∙ only_zero (asked history).admitted))
        low (inr nz) = omega (arith, nz)

        high : n < 1 + (asked history).admitted
        high = go (nat_lt (asked history).admitted n) refl
          where
            go : (b : Bool) → nat_lt (asked history).admitted n ≡ b → n < 1 + (asked history).admitted
            go true e = absurd (some (only_above n (asked history).admitted (ltb-true (asked history).admitted n e)))
            go false e = let not_less = ltb-false (asked history).admitted n e in omega (arith, not_less)

  pub none_lives_after_close : NoneLivesAfterClose K
  none_lives_after_close before = none_passes (is_unfreed (Close ∷ before)) 1 (asked before).admitted
      (λ x low high. let once = (close_frees_all before).each x low (omega (arith, high)) in ap (λ (k : ℕ). k == 0) once)

  pub live_are_in_flight : LiveAreInFlight K
  live_are_in_flight history n = (forth, back)
    where
      forth : Contains (live_after history) n → IsInFlight history n
      forth there =
          let unfreed = All-contains (λ x. is_unfreed history x ≡ true) (live_after history) n (filter_passes (is_unfreed history) (range_with_len 1 (asked history).admitted)) there in
          let none = eqb-true (frees (notes_by n (notes (reading history).known.entries))) 0 unfreed in
          let bound = All-contains (λ x. (1 ≤ x) × (x < 1 + (asked history).admitted)) (live_after history) n
          (All-filter (is_unfreed history) (λ x. (1 ≤ x) × (x < 1 + (asked history).admitted)) (range_with_len 1 (asked history).admitted) (within 1 (asked history).admitted)) there in
          let high = bound.1 in
          let once = only_within n (asked history).admitted bound.0 (omega (arith, high)) in
          let all = balanced history n in
          let one = some_of (lives history n) (asked history).issued (λ e. absurd (omega (arith, e, none, once, all))) in
          in_flight history n one.0 one.3

      back : IsInFlight history n → Contains (live_after history) n
      back there =
          let some = out_flight history n there in
          let all = balanced history n in
          let most = only_most n (asked history).admitted in
          let none : frees (notes_by n (notes (reading history).known.entries)) ≡ 0 = omega (arith, some, all, most) in
          let bound = admitted history n (λ e. absurd (omega (arith, some, all, e))) in
          passes (is_unfreed history) n 1 (asked history).admitted (eq-eqb (frees (notes_by n (notes (reading history).known.entries))) 0 none) bound.0 bound.1
