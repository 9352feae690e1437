-- All commands in flight, one after another.
use Rattle.std.proofs.Common.{◌≡◌, ℕ, zero, suc, ◌+◌, ◌-◌, ◌<◌, ◌≤◌, List, [], ◌∷◌, ◌++◌, Bool, true, false, ◌&&◌, nat_lt, ltb-false, cond, refl, ap, sym, subst, arith, Some, None, Option, IsSome, ◌∙◌, append_assoc, append-nil, ◌==◌}
use Rattle.std.specs.Prelude.{is_some, is_none, not}
use Rattle.std.specs.List.{find}
use Rattle.std.proofs.lemmas.Grind.{common_steps}
use Rattle.lnbd_keyed.specs.Keyed.{value_at, keys, IsRising, IsBelow}
use Rattle.lnbd_keyed.proofs.KeyedLemmas.{value_at_above, IsBelow_at}
use Rattle.lnbd_callbacks.specs.Calls.{Call}
use Rattle.lnbd_callbacks.specs.Slot.{Slot}
use Rattle.lnbd_callbacks.specs.declared.caller.Heard.{Heard}
use Rattle.lnbd_inflight.specs.Done.{is_done}
use Rattle.lnbd_history.specs.Commands.{Flight}
use Rattle.lnbd_history.specs.Entries.{Item, first_acts}
use Rattle.lnbd_history.specs.Events.{Answer}
use Rattle.lnbd_history.specs.History.{cookies}
use Rattle.lnbd_machine.specs.Machine.{Row, State, Doing, file_in, file_row, file_flight, file_all, created}
use Rattle.lnbd_machine.proofs.Walk.{walk_keys}
use Rattle.lnbd_commands.specs.Commands.{Commands, with_commands, waiting_as, waiting_at}
use Rattle.lnbd_commands.specs.Rows.{flight_of_row}
use Rattle.lnbd_commands.specs.Sound.{IsSound, AreRows}
use Rattle.lnbd_commands.specs.Takes.{Takes}

module _ {K : Type 0} where
  -- nothing is told to no chunk callback
  pub no_first_acts : (first : Option (Slot K)) (heard : Option Heard) → first_acts first None heard ≡ []
  no_first_acts None heard = refl
  no_first_acts (Some slot) heard = refl

  -- what is filed under a command that is not in flight changes nothing
  pub file_calm : (c : ℕ) (item : Item) (doing : Doing K) → flight_of_row (value_at c doing.state.rows) ≡ None → file_in c item doing ≡ doing
  file_calm c item doing h = go (value_at c doing.state.rows) h
    where
      in_row : (row : Row K) (o : Option (Flight K)) → o ≡ None → file_flight o row c item doing ≡ doing
      in_row row None e = refl
      in_row row (Some f) e = absurd (cc (e))

      go : (o : Option (Row K)) → flight_of_row o ≡ None → file_row o c item doing ≡ doing
      go None e = refl
      go (Some row) e = in_row row row.flight e

  pub file_all-append : (item : Item) (a b : List ℕ) (doing : Doing K) → file_all item (a ++ b) doing ≡ file_all item b (file_all item a doing)
  file_all-append item [] b doing = refl
  file_all-append item (c ∷ a) b doing = file_all-append item a b (file_in c item doing)

  -- Between two that are not done, what is held is done, so it is not in flight.
  no_flight : (o : Option (Flight K)) → true ≡ is_none o → o ≡ None
  no_flight None k = refl
  no_flight (Some f) k = absurd (cc (k))

  at_row : (b : Bool) (row : Row K) (o : Option (Row K)) → row.flight ≡ None → flight_of_row o ≡ None → flight_of_row (cond b (Some row) o) ≡ None
  at_row true row o k r = k
  at_row false row o k r = r

  -- a cookie above one and below the next that isn't done
  pub calm_between : (above next c : ℕ) (done : List ℕ) (rows : List (ℕ × Row K)) → IsRising rows → AreRows done rows →
      find (λ cookie. nat_lt above cookie && not (is_done cookie done)) (keys rows) ≡ Some next → above < c → c < next → flight_of_row (value_at c rows) ≡ None
  calm_between above next c done [] up a h m l = refl
  calm_between above next c done (x ∷ xs) up a h m l = go (nat_lt above x.0) refl (is_done x.0 done) refl h (λ k. calm_between above next c done xs up.1 a.1 k m l)
    where
      go : (b : Bool) → nat_lt above x.0 ≡ b → (d : Bool) → is_done x.0 done ≡ d → cond (b && not d) (Some x.0) (find (λ cookie. nat_lt above cookie && not (is_done cookie done)) (keys xs)) ≡ Some next →
          (find (λ cookie. nat_lt above cookie && not (is_done cookie done)) (keys xs) ≡ Some next → flight_of_row (value_at c xs) ≡ None) → flight_of_row (value_at c (x ∷ xs)) ≡ None
      go b f true e k rest = at_row (c == x.0) x.1 (value_at c xs) (no_flight x.1.flight (sym e ∙ a.0.flies)) (rest (settled b k))
        where
          settled : (b : Bool) → cond (b && not true) (Some x.0) (find (λ cookie. nat_lt above cookie && not (is_done cookie done)) (keys xs)) ≡ Some next → find (λ cookie. nat_lt above cookie && not (is_done cookie done)) (keys xs) ≡ Some next
          settled true k = k
          settled false k = k
      go true f false e k rest =
          let same : x.0 ≡ next = cc in
          let low : c < x.0 = omega arith in
          let none : value_at c xs ≡ None = value_at_above c x.0 xs up.0 (omega arith) in
          let other : (c == x.0) ≡ false = grind (arith, common_steps) in
          rw (other, none) refl
      go false f false e k rest =
          let low : x.0 ≤ above = ltb-false above x.0 f in
          let other : (c == x.0) ≡ false = grind (arith, common_steps) in
          rw other (rest k)

  -- above the last that isn't done
  pub calm_after : (above c : ℕ) (done : List ℕ) (rows : List (ℕ × Row K)) → AreRows done rows →
      find (λ cookie. nat_lt above cookie && not (is_done cookie done)) (keys rows) ≡ None → above < c → flight_of_row (value_at c rows) ≡ None
  calm_after above c done [] a h m = refl
  calm_after above c done (x ∷ xs) a h m = go (nat_lt above x.0) refl (is_done x.0 done) refl h (λ k. calm_after above c done xs a.1 k m)
    where
      go : (b : Bool) → nat_lt above x.0 ≡ b → (d : Bool) → is_done x.0 done ≡ d → cond (b && not d) (Some x.0) (find (λ cookie. nat_lt above cookie && not (is_done cookie done)) (keys xs)) ≡ None →
          (find (λ cookie. nat_lt above cookie && not (is_done cookie done)) (keys xs) ≡ None → flight_of_row (value_at c xs) ≡ None) → flight_of_row (value_at c (x ∷ xs)) ≡ None
      go b f true e k rest = at_row (c == x.0) x.1 (value_at c xs) (no_flight x.1.flight (sym e ∙ a.0.flies)) (rest (settled b k))
        where
          settled : (b : Bool) → cond (b && not true) (Some x.0) (find (λ cookie. nat_lt above cookie && not (is_done cookie done)) (keys xs)) ≡ None → find (λ cookie. nat_lt above cookie && not (is_done cookie done)) (keys xs) ≡ None
          settled true k = k
          settled false k = k
      go true f false e k rest = absurd (cc (k))
      go false f false e k rest =
          let low : x.0 ≤ above = ltb-false above x.0 f in
          let other : (c == x.0) ≡ false = grind (arith, common_steps) in
          rw other (rest k)

  -- what is held and not done is in flight
  pub waits_undone : (c : ℕ) (m : Commands K) → IsSound m → IsSome (value_at c m.rows) → is_done c m.done ≡ false → is_some (waiting_at c m) ≡ true
  waits_undone c m sound held undone = go (value_at c m.rows) refl held
    where
      in_row : (row : Row K) (o : Option (Flight K)) → false ≡ is_none o → is_some (Rattle.lnbd_machine.specs.Machine.waiting_row o row) ≡ true
      in_row row None k = absurd (cc (k))
      in_row row (Some f) k = refl

      go : (o : Option (Row K)) → value_at c m.rows ≡ o → IsSome o → is_some (waiting_as o) ≡ true
      go None e h = absurd (cc (h))
      go (Some row) e h = in_row row row.flight (sym undone ∙ (Rattle.lnbd_commands.proofs.MarkLemmas.row_of c row m.done m.rows sound.rows e).flies)

  -- Parts of an event, one after another.
  pub takes_none : {World : Type 0} (steps : World → List (Call K) → World → Type 0) (part : Doing K → Doing K) (m : Commands K) (w : World) → steps w [] w →
      ((state : State K) (more : List Answer) (made : List (Call K)) → part (record { state = with_commands m state; answers = more; calls = made }) ≡ record { state = with_commands m state; answers = more; calls = made }) →
      Takes steps part m m w w
  takes_none steps part m w none same = record {
    answers = [];
    calls = [];
    world = none;
    does = λ state more made. same state more made ∙ ap (λ (l : List (Call K)). record { state = with_commands m state; answers = more; calls = l }) (sym (append-nil made));
  }

  pub takes_then : {World : Type 0} (steps : World → List (Call K) → World → Type 0) (first second both : Doing K → Doing K) (a b c : Commands K) (u v w : World) →
      ((x y z : World) (p q : List (Call K)) → steps x p y → steps y q z → steps x (p ++ q) z) →
      ((doing : Doing K) → both doing ≡ second (first doing)) →
      Takes steps first a b u v → Takes steps second b c v w → Takes steps both a c u w
  takes_then steps first second both a b c u v w join split one two = record {
    answers = one.answers ++ two.answers;
    calls = one.calls ++ two.calls;
    world = join u v w one.calls two.calls one.world two.world;
    does = λ state more made.
        ap (λ (l : List Answer). both (record { state = with_commands a state; answers = l; calls = made })) (append_assoc one.answers two.answers more)
        ∙ (split (record { state = with_commands a state; answers = one.answers ++ (two.answers ++ more); calls = made })
        ∙ (ap second (one.does state (two.answers ++ more) made)
        ∙ (two.does state more (made ++ one.calls)
        ∙ ap (λ (l : List (Call K)). record { state = with_commands c state; answers = more; calls = l }) (append_assoc made one.calls two.calls))));
  }

  -- the cookies up to one more
  one_more : (item : Item) (n : ℕ) (doing : Doing K) → file_all item (cookies (suc n)) doing ≡ file_in (suc n) item (file_all item (cookies n) doing)
  one_more item n doing = file_all-append item (cookies n) (suc n ∷ []) doing

  pub one_more_at : (item : Item) (n k : ℕ) (doing : Doing K) → k ≡ suc n → file_all item (cookies k) doing ≡ file_in k item (file_all item (cookies n) doing)
  one_more_at item n k doing e = subst (λ (k : ℕ). file_all item (cookies k) doing ≡ file_in k item (file_all item (cookies n) doing)) (sym e) (one_more item n doing)

  -- Where no cookie from one to another is in flight, nothing is filed between them.
  calm_on : {World : Type 0} (steps : World → List (Call K) → World → Type 0) (item : Item) (k n : ℕ) (old new : Commands K) (u w : World) →
      ((c : ℕ) → n < c → c ≤ n + k → flight_of_row (value_at c new.rows) ≡ None) →
      Takes steps (file_all item (cookies n)) old new u w → Takes steps (file_all item (cookies (n + k))) old new u w
  calm_on steps item zero n old new u w calm t = let none : n ≡ n + zero = omega arith in subst (λ (m : ℕ). Takes steps (file_all item (cookies m)) old new u w) none t
  calm_on steps item (suc k) n old new u w calm t =
      let before = calm_on steps item k n old new u w (λ c over under. calm c over (omega arith)) t in
      record {
        answers = before.answers;
        calls = before.calls;
        world = before.world;
        does = λ state more made.
            one_more_at item (n + k) (n + suc k) (record { state = with_commands old state; answers = before.answers ++ more; calls = made }) (omega arith)
            ∙ (ap (λ (d : Doing K). file_in (n + suc k) item d) (before.does state more made)
            ∙ file_calm (n + suc k) item (record { state = with_commands new state; answers = more; calls = made ++ before.calls }) (calm (n + suc k) (omega arith) (omega arith)));
      }

  pub takes_calm : {World : Type 0} (steps : World → List (Call K) → World → Type 0) (item : Item) (n m : ℕ) (old new : Commands K) (u w : World) → n ≤ m →
      ((c : ℕ) → n < c → c ≤ m → flight_of_row (value_at c new.rows) ≡ None) →
      Takes steps (file_all item (cookies n)) old new u w → Takes steps (file_all item (cookies m)) old new u w
  takes_calm steps item n m old new u w l calm t =
      let all : n + (m - n) ≡ m = omega arith in
      subst (λ (j : ℕ). Takes steps (file_all item (cookies j)) old new u w) all (calm_on steps item (m - n) n old new u w (λ c over under. calm c over (omega arith)) t)

  -- filing issues no command
  issued_flight : (f : Option (Flight K)) (row : Row K) (cookie : ℕ) (item : Item) (d : Doing K) → (file_flight f row cookie item d).state.issued ≡ d.state.issued
  issued_flight None row cookie item d = refl
  issued_flight (Some flight) row cookie item d = refl

  issued_row : (r : Option (Row K)) (cookie : ℕ) (item : Item) (d : Doing K) → (file_row r cookie item d).state.issued ≡ d.state.issued
  issued_row None cookie item d = refl
  issued_row (Some row) cookie item d = issued_flight row.flight row cookie item d

  pub filed_issued : {World : Type 0} (steps : World → List (Call K) → World → Type 0) (cookie : ℕ) (item : Item) (old new : Commands K) (u w : World) → Takes steps (file_in cookie item) old new u w → new.issued ≡ old.issued
  filed_issued steps cookie item old new u w t =
      let any : State K = created.known in
      let doing : Doing K = record { state = with_commands old any; answers = t.answers ++ []; calls = [] } in
      sym (ap (λ (d : Doing K). d.state.issued) (t.does any [] [])) ∙ issued_row (value_at cookie old.rows) cookie item doing

  pub held_below : (n c : ℕ) (rows : List (ℕ × Row K)) → IsBelow rows n → IsSome (value_at c rows) → c < n
  held_below n c rows a h = elim (value_at c rows) as (λ (o : Option (Row K)). value_at c rows ≡ o → IsSome o → c < n) [ None ↦ λ e k. absurd (cc (k)) | Some r ↦ λ e k. IsBelow_at n c r rows a e ] refl h

  -- a walk over all cookies is the walk over those of the table
  pub takes_keys : {World : Type 0} (steps : World → List (Call K) → World → Type 0) (item : Item) (old new : Commands K) (u w : World) → IsSound old →
      Takes steps (file_all item (cookies old.issued)) old new u w → Takes steps (file_all item (keys old.rows)) old new u w
  takes_keys steps item old new u w sound t = record {
    answers = t.answers;
    calls = t.calls;
    world = t.world;
    does = λ state more made. walk_keys item old.issued (record { state = with_commands old state; answers = t.answers ++ more; calls = made }) sound.cookies sound.positive sound.issued ∙ t.does state more made;
  }
