-- The table and what was filed: each row is the fold over its command's own entries.
use Rattle.std.proofs.Common.{◌≡◌, ℕ, ◌+◌, Bool, true, false, cond, not, ◌&&◌, ◌||◌, List, [], ◌∷◌, ◌++◌, filter, map, length, Option, Some, None, is_some, option_map, refl, ap, sym, subst, ◌∙◌, arith, ◌==◌, ◌≢◌, ◌⊎◌, inl, inr, nat_eq, if◌then◌else◌}
use Rattle.std.proofs.lemmas.Bool.{eq-eqb, ne_eqb, cases_eq, false≢true}
use Rattle.std.proofs.lemmas.List.Elements.{filter-append}
use Rattle.lnbd_model.specs.declared.note.Note.{Note}
use Rattle.lnbd_model.specs.declared.note.Note.TheVariants as note
use Rattle.lnbd_keyed.specs.Keyed.{value_at, without, IsAbove, IsBelow, IsRising}
use Rattle.lnbd_keyed.proofs.OrderLaws.{IsAbove_with, IsAbove_without, IsAbove_append, IsBelow_with, IsBelow_without, IsBelow_append, IsBelow_less, IsRising_with, IsRising_without, IsRising_append}
use Rattle.lnbd_keyed.proofs.LookupLaws.{value_at_with, value_at_with_other, value_at_without, value_at_without_other, value_at_last, value_at_last_other}
use Rattle.lnbd_history.specs.Commands.{Command, Flight, Request, request_of}
use Rattle.lnbd_outcome.specs.Pieces.{is_completed}
use Rattle.lnbd_history.specs.Entries.{Filing, Entry, Filed, Freed, Cleared, completes, ends, kept_by, kept_in, own, pieces, is_ended, retires, is_retired, acts_of, note_of, notes, log, kept_cookies, free_acts, frees}
use Rattle.lnbd_machine.specs.Machine.{Row, new_row, add, filed, marked, dropped}
use Rattle.lnbd_machine.proofs.Fold.{row_of, EndsLast, Settled}

or_false : (a : Bool) → (a || false) ≡ a
or_false true = refl
or_false false = refl

or_true : (a : Bool) → (a || true) ≡ true
or_true true = refl
or_true false = refl

pub or_parts : (a b : Bool) → (a || b) ≡ false → (a ≡ false) × (b ≡ false)
or_parts true b e = absurd (false≢true (sym e))
or_parts false b e = (refl, e)

and_first : (a b : Bool) → (a && b) ≡ true → a ≡ true
and_first true b e = refl
and_first false b e = e

frees-append : (xs ys : List Note) → frees (xs ++ ys) ≡ frees xs + frees ys
frees-append [] ys = omega arith
frees-append (note.Chunk slot offset length status error heard ∷ xs) ys = frees-append xs ys
frees-append (note.Extents slot context offset count error heard ∷ xs) ys = frees-append xs ys
frees-append (note.Completed slot error kept ∷ xs) ys = frees-append xs ys
frees-append (note.Freed slot ∷ xs) ys = omega (arith, frees-append xs ys)

module _ {K : Type 0} where
  -- the row that is owed
  abbrev pub row_at : Bool → List (Filing K) → Option (Request K) → Option (Row K)
  row_at gone own asks = cond gone None (option_map (λ q. row_of q own) asks)

  own_same : (f : Filing K) (entries : List (Entry K)) → own f.cookie (Filed f ∷ entries) ≡ f ∷ own f.cookie entries
  own_same f entries = ap (λ (b : Bool). if b then f ∷ own f.cookie entries else own f.cookie entries) (eq-eqb f.cookie f.cookie refl)

  own_other : (c : ℕ) (f : Filing K) (entries : List (Entry K)) → f.cookie ≢ c → own c (Filed f ∷ entries) ≡ own c entries
  own_other c f entries other = ap (λ (b : Bool). if b then f ∷ own c entries else own c entries) (ne_eqb f.cookie c other)

-- Rows are compared by cookie. Nothing is filed under what was not asked, nor under what has ended, what is retired has ended, and
-- what is kept is completed.
pub record Tabled {K : Type 0} (issued2 admitted2 : ℕ) (asks : ℕ → Option (Request K)) (taken : ℕ → Bool) (issued admitted freed : ℕ) (rows : List (ℕ × Row K)) (done : List ℕ) (told : List Note) (entries : List (Entry K)) : Type 0 where
  pub issued_is : issued ≡ issued2
  pub admitted_is : admitted ≡ admitted2
  pub freed_is : freed ≡ frees (notes entries)
  pub rows_are : (c : ℕ) → value_at c rows ≡ row_at (taken c || is_retired (own c entries)) (own c entries) (asks c)
  pub rising : IsRising rows
  pub above : IsAbove 0 rows
  pub below : IsBelow rows (issued2 + 1)
  pub done_is : done ≡ filter (λ c. not (taken c)) (kept_cookies entries)
  pub told_is : told ≡ log entries
  pub past : (c : ℕ) → asks c ≡ None → own c entries ≡ []
  pub over : (c : ℕ) → (taken c || is_retired (own c entries)) ≡ true → is_ended (own c entries) ≡ true
  pub last : (c : ℕ) → EndsLast (own c entries)
  pub settled : (c : ℕ) → Settled (own c entries)

-- a command in flight
pub record Flies {K : Type 0} (asks : ℕ → Option (Request K)) (taken : ℕ → Bool) (entries : List (Entry K)) (c : ℕ) (q : Request K) : Type 0 where
  pub asked_for : asks c ≡ Some q
  pub here : (taken c || is_retired (own c entries)) ≡ false
  pub going : is_ended (own c entries) ≡ false

module _ {K : Type 0} (issued2 admitted2 : ℕ) (asks : ℕ → Option (Request K)) (taken : ℕ → Bool) (issued admitted freed : ℕ) (rows : List (ℕ × Row K)) (done : List ℕ) (told : List Note) (entries : List (Entry K)) (same : Tabled issued2 admitted2 asks taken issued admitted freed rows done told entries) where
  -- One entry more, under a command in flight.
  module _ (f : Filing K) (flies : Flies asks taken entries f.cookie f.request) (decided : is_some (kept_by f.verdict) ≡ true → completes f.item ≡ true) where
    gone_now : (taken f.cookie || is_retired (own f.cookie (Filed f ∷ entries))) ≡ retires f
    gone_now =
        let parts = or_parts (taken f.cookie) (is_retired (own f.cookie entries)) flies.here in
        ap (λ o. taken f.cookie || is_retired o) (own_same f entries)
        ∙ ap (λ (b : Bool). b || (retires f || is_retired (own f.cookie entries))) parts.0
        ∙ ap (λ (b : Bool). retires f || b) parts.1 ∙ or_false (retires f)

    row_here : value_at f.cookie rows ≡ Some (row_of f.request (own f.cookie entries))
    row_here = same.rows_are f.cookie ∙ ap (λ (b : Bool). row_at b (own f.cookie entries) (asks f.cookie)) flies.here ∙ ap (λ q. row_at false (own f.cookie entries) q) flies.asked_for

    new_row_here : Row K
    new_row_here = add (row_of f.request (own f.cookie entries)) f.contexts f.item f.heard f.verdict

    rows_here : (b : Bool) → value_at f.cookie (filed b f.cookie new_row_here rows) ≡ row_at b (own f.cookie (Filed f ∷ entries)) (asks f.cookie)
    unfolding new_row_here
    rows_here true = value_at_without f.cookie rows same.rising
    rows_here false = value_at_with f.cookie (row_of f.request (own f.cookie entries)) new_row_here rows row_here
        ∙ sym (ap (λ q. row_at false (own f.cookie (Filed f ∷ entries)) q) flies.asked_for ∙ ap (λ o. row_at false o (Some f.request)) (own_same f entries))

    rows_there : (c : ℕ) → f.cookie ≢ c → (b : Bool) → value_at c (filed b f.cookie new_row_here rows) ≡ value_at c rows
    rows_there c other true = value_at_without_other c f.cookie rows (λ e. other (sym e))
    rows_there c other false = value_at_with_other c f.cookie new_row_here rows (λ e. other (sym e))

    rows_now : (c : ℕ) → (f.cookie ≡ c) ⊎ (f.cookie ≡ c → ⊥) → value_at c (filed (retires f) f.cookie new_row_here rows) ≡ row_at (taken c || is_retired (own c (Filed f ∷ entries))) (own c (Filed f ∷ entries)) (asks c)
    rows_now c (inl is) = subst (λ (x : ℕ). value_at x (filed (retires f) f.cookie new_row_here rows) ≡ row_at (taken x || is_retired (own x (Filed f ∷ entries))) (own x (Filed f ∷ entries)) (asks x)) is
        (rows_here (retires f) ∙ ap (λ (b : Bool). row_at b (own f.cookie (Filed f ∷ entries)) (asks f.cookie)) (sym gone_now))
    rows_now c (inr other) = rows_there c other (retires f) ∙ same.rows_are c
        ∙ ap (λ o. row_at (taken c || is_retired o) o (asks c)) (sym (own_other c f entries other))

    rising_now : (b : Bool) → IsRising (filed b f.cookie new_row_here rows)
    rising_now true = IsRising_without f.cookie rows same.rising
    rising_now false = IsRising_with f.cookie new_row_here rows same.rising

    above_now : (b : Bool) → IsAbove 0 (filed b f.cookie new_row_here rows)
    above_now true = IsAbove_without 0 f.cookie rows same.above
    above_now false = IsAbove_with 0 f.cookie new_row_here rows same.above

    below_now : (b : Bool) → IsBelow (filed b f.cookie new_row_here rows) (issued2 + 1)
    below_now true = IsBelow_without (issued2 + 1) f.cookie rows same.below
    below_now false = IsBelow_with (issued2 + 1) f.cookie new_row_here rows same.below

    not_taken : filter (λ c. not (taken c)) (f.cookie ∷ []) ≡ f.cookie ∷ []
    not_taken = ap (λ (b : Bool). cond (not b) (f.cookie ∷ []) []) (or_parts (taken f.cookie) (is_retired (own f.cookie entries)) flies.here).0

    done_now : (b : Bool) → marked b f.cookie done ≡ filter (λ c. not (taken c)) (if b then kept_cookies entries ++ f.cookie ∷ [] else kept_cookies entries)
    done_now true = ap (λ (d : List ℕ). d ++ f.cookie ∷ []) same.done_is ∙ ap (λ (d : List ℕ). filter (λ c. not (taken c)) (kept_cookies entries) ++ d) (sym not_taken)
        ∙ sym (filter-append (λ c. not (taken c)) (kept_cookies entries) (f.cookie ∷ []))
    done_now false = same.done_is

    past_now : (c : ℕ) → asks c ≡ None → (f.cookie ≡ c) ⊎ (f.cookie ≡ c → ⊥) → own c (Filed f ∷ entries) ≡ []
    past_now c none (inl is) = let bad : None ≡ Some f.request = sym none ∙ ap asks (sym is) ∙ flies.asked_for in cc
    past_now c none (inr other) = own_other c f entries other ∙ same.past c none

    over_here : (taken f.cookie || is_retired (own f.cookie (Filed f ∷ entries))) ≡ true → is_ended (own f.cookie (Filed f ∷ entries)) ≡ true
    over_here left =
        let last : ends f.item ≡ true = and_first (ends f.item) (not (is_some (kept_by f.verdict))) (sym gone_now ∙ left) in
        ap is_ended (own_same f entries) ∙ ap (λ (b : Bool). b || is_ended (own f.cookie entries)) last

    over_now : (c : ℕ) → (taken c || is_retired (own c (Filed f ∷ entries))) ≡ true → (f.cookie ≡ c) ⊎ (f.cookie ≡ c → ⊥) → is_ended (own c (Filed f ∷ entries)) ≡ true
    over_now c left (inl is) = subst (λ (x : ℕ). (taken x || is_retired (own x (Filed f ∷ entries))) ≡ true → is_ended (own x (Filed f ∷ entries)) ≡ true) is over_here left
    over_now c left (inr other) = ap is_ended (own_other c f entries other) ∙ same.over c (ap (λ o. taken c || is_retired o) (sym (own_other c f entries other)) ∙ left)

    last_now : (c : ℕ) → (f.cookie ≡ c) ⊎ (f.cookie ≡ c → ⊥) → EndsLast (own c (Filed f ∷ entries))
    last_now c (inl is) = subst (λ (x : ℕ). EndsLast (own x (Filed f ∷ entries))) is (subst EndsLast (sym (own_same f entries)) flies.going)
    last_now c (inr other) = subst EndsLast (sym (own_other c f entries other)) (same.last c)

    settled_as : (b : Bool) → ends f.item ≡ b → is_some (if b then kept_by f.verdict else kept_in (own f.cookie entries)) ≡ true → (completes f.item || is_completed (pieces (own f.cookie entries))) ≡ true
    settled_as true e there = ap (λ (b : Bool). b || is_completed (pieces (own f.cookie entries))) (decided there)
    settled_as false e there = ap (λ (b : Bool). completes f.item || b) (same.settled f.cookie there) ∙ or_true (completes f.item)

    settled_here : Settled (f ∷ own f.cookie entries)
    settled_here = settled_as (ends f.item) refl

    settled_now : (c : ℕ) → (f.cookie ≡ c) ⊎ (f.cookie ≡ c → ⊥) → Settled (own c (Filed f ∷ entries))
    settled_now c (inl is) = subst (λ (x : ℕ). Settled (own x (Filed f ∷ entries))) is (subst Settled (sym (own_same f entries)) settled_here)
    settled_now c (inr other) = subst Settled (sym (own_other c f entries other)) (same.settled c)

    pub filed_same : Tabled issued2 admitted2 asks taken issued admitted (freed + frees (map note_of (acts_of f (own f.cookie entries))))
        (filed (retires f) f.cookie (add (row_of f.request (own f.cookie entries)) f.contexts f.item f.heard f.verdict) rows)
        (marked (is_some (kept_by f.verdict)) f.cookie done) (told ++ map note_of (acts_of f (own f.cookie entries))) (Filed f ∷ entries)
    unfolding new_row_here
    filed_same = record {
      issued_is = same.issued_is;
      admitted_is = same.admitted_is;
      freed_is = ap (λ (n : ℕ). n + frees (map note_of (acts_of f (own f.cookie entries)))) same.freed_is ∙ sym (frees-append (notes entries) (map note_of (acts_of f (own f.cookie entries))));
      rows_are = λ c. rows_now c (cases_eq f.cookie c);
      rising = rising_now (retires f);
      above = above_now (retires f);
      below = below_now (retires f);
      done_is = done_now (is_some (kept_by f.verdict));
      told_is = ap (λ (t : List Note). t ++ map note_of (acts_of f (own f.cookie entries))) same.told_is;
      past = λ c none. past_now c none (cases_eq f.cookie c);
      over = λ c left. over_now c left (cases_eq f.cookie c);
      last = λ c. last_now c (cases_eq f.cookie c);
      settled = λ c. settled_now c (cases_eq f.cookie c);
    }

  -- A command that is issued.
  module _ (command : Command K) (count : ℕ) (fresh : asks (issued2 + 1) ≡ None) where
    asks_now : ℕ → Option (Request K)
    asks_now c = if issued2 + 1 == c then Some (request_of admitted2 command) else asks c

    not_gone : (b : Bool) → (taken (issued2 + 1) || is_retired (own (issued2 + 1) entries)) ≡ b → b ≡ false
    not_gone true e = absurd (false≢true (ap is_ended (sym (same.past (issued2 + 1) fresh)) ∙ same.over (issued2 + 1) e))
    not_gone false e = refl

    issued_row : value_at (issued2 + 1) (rows ++ (issued2 + 1, new_row (request_of admitted2 command)) ∷ []) ≡ row_at (taken (issued2 + 1) || is_retired (own (issued2 + 1) entries)) (own (issued2 + 1) entries) (asks_now (issued2 + 1))
    unfolding asks_now
    issued_row =
        let e : (issued2 + 1 == issued2 + 1) ≡ true = eq-eqb (issued2 + 1) (issued2 + 1) refl in
        value_at_last (issued2 + 1) (new_row (request_of admitted2 command)) rows same.below
        ∙ sym (ap (λ (b : Bool). row_at b (own (issued2 + 1) entries) (asks_now (issued2 + 1))) (not_gone (taken (issued2 + 1) || is_retired (own (issued2 + 1) entries)) refl)
        ∙ ap (λ o. row_at false o (asks_now (issued2 + 1))) (same.past (issued2 + 1) fresh)
        ∙ ap (λ (b : Bool). row_at false [] (if b then Some (request_of admitted2 command) else asks (issued2 + 1))) e)

    issued_rows : (c : ℕ) → (issued2 + 1 ≡ c) ⊎ (issued2 + 1 ≡ c → ⊥) → value_at c (rows ++ (issued2 + 1, new_row (request_of admitted2 command)) ∷ []) ≡ row_at (taken c || is_retired (own c entries)) (own c entries) (asks_now c)
    unfolding asks_now
    issued_rows c (inl is) = subst (λ (x : ℕ). value_at x (rows ++ (issued2 + 1, new_row (request_of admitted2 command)) ∷ []) ≡ row_at (taken x || is_retired (own x entries)) (own x entries) (asks_now x)) is issued_row
    issued_rows c (inr other) = value_at_last_other c (issued2 + 1) (new_row (request_of admitted2 command)) rows (λ e. other (sym e)) ∙ same.rows_are c
        ∙ ap (λ (b : Bool). row_at (taken c || is_retired (own c entries)) (own c entries) (if b then Some (request_of admitted2 command) else asks c)) (sym (ne_eqb (issued2 + 1) c other))

    issued_past : (c : ℕ) → asks_now c ≡ None → (issued2 + 1 ≡ c) ⊎ (issued2 + 1 ≡ c → ⊥) → own c entries ≡ []
    unfolding asks_now
    issued_past c none (inl is) = let e : (issued2 + 1 == c) ≡ true = eq-eqb (issued2 + 1) c is in
        let bad : Some (request_of admitted2 command) ≡ None = sym (ap (λ (b : Bool). if b then Some (request_of admitted2 command) else asks c) e) ∙ none in cc
    issued_past c none (inr other) = same.past c (sym (ap (λ (b : Bool). if b then Some (request_of admitted2 command) else asks c) (ne_eqb (issued2 + 1) c other)) ∙ none)

    issued_table : Tabled (issued2 + 1) (admitted2 + count) asks_now taken (issued + 1) (admitted + count) freed (rows ++ (issued2 + 1, new_row (request_of admitted2 command)) ∷ []) done told entries
    issued_table = record {
      issued_is = ap (λ (n : ℕ). n + 1) same.issued_is;
      admitted_is = ap (λ (n : ℕ). n + count) same.admitted_is;
      freed_is = same.freed_is;
      rows_are = λ c. issued_rows c (cases_eq (issued2 + 1) c);
      rising = IsRising_append (issued2 + 1) (new_row (request_of admitted2 command)) rows same.rising same.below;
      above = IsAbove_append 0 (issued2 + 1) (new_row (request_of admitted2 command)) rows same.above (omega arith);
      below = IsBelow_append (issued2 + 1 + 1) (issued2 + 1) (new_row (request_of admitted2 command)) rows (IsBelow_less (issued2 + 1) (issued2 + 1 + 1) rows (omega arith) same.below) (omega arith);
      done_is = same.done_is;
      told_is = same.told_is;
      past = λ c none. issued_past c none (cases_eq (issued2 + 1) c);
      over = same.over;
      last = same.last;
      settled = same.settled;
    }

    pub issued_same : Tabled (issued2 + 1) (admitted2 + count) (λ c. if issued2 + 1 == c then Some (request_of admitted2 command) else asks c) taken (issued + 1) (admitted + count) freed (rows ++ (issued + 1, new_row (request_of admitted command)) ∷ []) done told entries
    unfolding asks_now
    issued_same =
        subst (λ (n : ℕ). Tabled (issued2 + 1) (admitted2 + count) asks_now taken (issued + 1) (admitted + count) freed (rows ++ (n + 1, new_row (request_of admitted command)) ∷ []) done told entries) (sym same.issued_is)
        (subst (λ (n : ℕ). Tabled (issued2 + 1) (admitted2 + count) asks_now taken (issued + 1) (admitted + count) freed (rows ++ (issued2 + 1, new_row (request_of n command)) ∷ []) done told entries) (sym same.admitted_is) issued_table)

  -- The callbacks of a refused command.
  pub refused_same : (flight : Flight K) (count : ℕ) → Tabled issued2 (admitted2 + count) asks taken issued (admitted + count) (freed + frees (map note_of (free_acts flight))) rows done (told ++ map note_of (free_acts flight)) (Freed flight ∷ entries)
  refused_same flight count = record {
    issued_is = same.issued_is;
    admitted_is = ap (λ (n : ℕ). n + count) same.admitted_is;
    freed_is = ap (λ (n : ℕ). n + frees (map note_of (free_acts flight))) same.freed_is ∙ sym (frees-append (notes entries) (map note_of (free_acts flight)));
    rows_are = same.rows_are;
    rising = same.rising;
    above = same.above;
    below = same.below;
    done_is = same.done_is;
    told_is = ap (λ (t : List Note). t ++ map note_of (free_acts flight)) same.told_is;
    past = same.past;
    over = same.over;
    last = same.last;
    settled = same.settled;
  }

  -- A log that is cleared.
  pub cleared_same : Tabled issued2 admitted2 asks taken issued admitted freed rows done [] (Cleared ∷ entries)
  cleared_same = record { issued_is = same.issued_is; admitted_is = same.admitted_is; freed_is = same.freed_is; rows_are = same.rows_are; rising = same.rising; above = same.above; below = same.below; done_is = same.done_is; told_is = refl; past = same.past; over = same.over; last = same.last; settled = same.settled }

  -- A result that is taken.
  module _ (k : ℕ) (finished : is_ended (own k entries) ≡ true) where
    same_eq : (x : ℕ) → nat_eq x k ≡ (k == x)
    same_eq x = go (cases_eq k x)
      where
        go : (k ≡ x) ⊎ (k ≡ x → ⊥) → nat_eq x k ≡ (k == x)
        go (inl is) = eq-eqb x k (sym is) ∙ sym (eq-eqb k x is)
        go (inr other) = ne_eqb x k (λ e. other (sym e)) ∙ sym (ne_eqb k x other)

    dropped_as : (a b : Bool) (x : ℕ) (xs ys : List ℕ) → nat_eq x k ≡ a → dropped k xs ≡ ys → dropped k (cond (not b) (x ∷ xs) xs) ≡ cond (not (a || b)) (x ∷ ys) ys
    dropped_as true true x xs ys e rest = rest
    dropped_as false true x xs ys e rest = rest
    dropped_as true false x xs ys e rest = ap (λ (a : Bool). cond (not a) (x ∷ dropped k xs) (dropped k xs)) e ∙ rest
    dropped_as false false x xs ys e rest = ap (λ (a : Bool). cond (not a) (x ∷ dropped k xs) (dropped k xs)) e ∙ ap (λ (r : List ℕ). x ∷ r) rest

    dropped-filter : (xs : List ℕ) → dropped k (filter (λ c. not (taken c)) xs) ≡ filter (λ c. not ((k == c) || taken c)) xs
    dropped-filter [] = refl
    dropped-filter (x ∷ xs) = dropped_as (k == x) (taken x) x (filter (λ c. not (taken c)) xs) (filter (λ c. not ((k == c) || taken c)) xs) (same_eq x) (dropped-filter xs)

    retired_rows : (c : ℕ) → (k ≡ c) ⊎ (k ≡ c → ⊥) → value_at c (without k rows) ≡ row_at (((k == c) || taken c) || is_retired (own c entries)) (own c entries) (asks c)
    retired_rows c (inl is) =
        let e : (k == c) ≡ true = eq-eqb k c is in
        subst (λ (x : ℕ). value_at x (without k rows) ≡ None) is (value_at_without k rows same.rising)
        ∙ sym (ap (λ (b : Bool). row_at ((b || taken c) || is_retired (own c entries)) (own c entries) (asks c)) e)
    retired_rows c (inr other) =
        value_at_without_other c k rows (λ e. other (sym e)) ∙ same.rows_are c
        ∙ sym (ap (λ (b : Bool). row_at ((b || taken c) || is_retired (own c entries)) (own c entries) (asks c)) (ne_eqb k c other))

    retired_over : (c : ℕ) → (((k == c) || taken c) || is_retired (own c entries)) ≡ true → (k ≡ c) ⊎ (k ≡ c → ⊥) → is_ended (own c entries) ≡ true
    retired_over c left (inl is) = subst (λ (x : ℕ). is_ended (own x entries) ≡ true) is finished
    retired_over c left (inr other) = same.over c (sym (ap (λ (b : Bool). (b || taken c) || is_retired (own c entries)) (ne_eqb k c other)) ∙ left)

    pub retired_same : Tabled issued2 admitted2 asks (λ c. (k == c) || taken c) issued admitted freed (without k rows) (dropped k done) told entries
    retired_same = record {
      issued_is = same.issued_is;
      admitted_is = same.admitted_is;
      freed_is = same.freed_is;
      rows_are = λ c. retired_rows c (cases_eq k c);
      rising = IsRising_without k rows same.rising;
      above = IsAbove_without 0 k rows same.above;
      below = IsBelow_without (issued2 + 1) k rows same.below;
      done_is = ap (dropped k) same.done_is ∙ dropped-filter (kept_cookies entries);
      told_is = same.told_is;
      past = same.past;
      over = λ c left. retired_over c left (cases_eq k c);
      last = same.last;
      settled = same.settled;
    }
