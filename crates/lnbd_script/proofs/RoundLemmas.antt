-- One handle after another in a round, and one round after another.
use Rattle.std.proofs.Common.{◌≡◌, inl, inr, ◌<◌, ◌≤◌, ◌+◌, ◌||◌, ℕ, zero, suc, add-one, Bool, true, false, List, [], ◌∷◌, ◌++◌, length, take, get_or, slice_set, vec_len, vec_capacity, Option, Some, None, Result, Ok, Err, IfOk, OnErr, OnOk, refl, sym, ◌∙◌, ap, subst, append_assoc, arith}
use Rattle.std.proofs.lemmas.Bool.{false≢true}
use Rattle.std.proofs.lemmas.List.{append-nil, length-append}
use Rattle.std.proofs.lemmas.List.Folds.{list_any-append}
use Rattle.std.specs.List.{list_any}
use Rattle.lnbd_model.specs.declared.fault.NoMemory.{NoMemory}
use Rattle.lnbd_model.specs.declared.state.State.{State}
use Rattle.lnbd_history.specs.Answers.{state_after, in_flight_after}
use Rattle.lnbd_machine.specs.Now.{in_flight_now, direction_now}
use Rattle.lnbd_link.specs.Call.{Call, Pause}
use Rattle.lnbd_link.specs.Count.{Rises}
use Rattle.lnbd_link.specs.Part.{Grows, Adds}
use Rattle.lnbd_link.specs.declared.wires.Want.{Want}
use Rattle.lnbd_link.proofs.Parts.{grows_none, grows_on}
use Rattle.lnbd_poll.specs.Held.{want_of, with_want}
use Rattle.lnbd_script.specs.declared.event.Event.{Event}
use Rattle.lnbd_script.specs.declared.place.Place.{Place}
use Rattle.lnbd_script.specs.declared.place.Place.TheVariants as place
use Rattle.lnbd_script.specs.declared.session.Session.{Session}
use Rattle.lnbd_script.specs.declared.sessions.Sessions.{Sessions}
use Rattle.lnbd_script.specs.declared.told.Halt.{Halt}
use Rattle.lnbd_script.specs.declared.told.Halt.TheVariants as halt
use Rattle.lnbd_script.specs.Rounds.{At_rest, Is_silent, Is_still, PartShort, Round, Runs_short, Settles, Stirs, TakesPart, busy_if, is_any_busy, is_busy_held, want_if, wants_of, with_round}
use Rattle.lnbd_script.specs.Scenes.{Held, Scene, held_of, seen_of}
use Rattle.lnbd_script.specs.Seen.{Goes, IsAt, Seen}
use Rattle.lnbd_script.specs.Steps.{AreHeld, GoesAll, GoesAt, IsHeld, Stands, TurnsOnce, WentAll, WentOver, is_busy_linked, is_busy_place, is_open, want_linked, want_now, wants_now}
use Rattle.lnbd_script.specs.Turns.{TurnsShort, stirs}
use Rattle.lnbd_script.proofs.PlaceLemmas.{at_first, held_again}
use Rattle.lnbd_script.proofs.SceneLemmas.{are_length}
use Rattle.lnbd_script.proofs.TurnLemmas.{answers_at, busy_is}

-- One handle's part.

no_part_is : (link : Option ℕ) (before : Seen) → link ≡ None → TakesPart link before [] before
no_part_is link before is = subst (λ (l : Option ℕ). TakesPart l before [] before) (sym is) (refl, refl)

-- a session without a link
pub part_unlinked : (session : Session) (first : Option Event) (a : Option (List Call)) → session.link ≡ None
    → GoesAt a a (place.Open session) (place.Open session) first first (λ before calls after. TakesPart before.link before calls after × (false ≡ list_any stirs calls))
part_unlinked session first a none held at = record {
  calls = [];
  after = seen_of held first;
  grown = grows_none a;
  leads = (no_part_is held.link (seen_of held first) (sym at.link ∙ none), refl);
  at = at;
  first_is = refl;
}

-- a handle that is not used yet, or closed, has no link
pub unlinked : (p : Place) (held : Held) → is_open p ≡ false → IsHeld held p → held.link ≡ None
unlinked place.Unused held closed at = ap (λ (h : Held). h.link) at
unlinked (place.Open session) held closed at = absurd (false≢true (sym closed))
unlinked (place.Over over) held closed at = at.link

pub part_closed : (p : Place) (first : Option Event) (a : Option (List Call)) → is_open p ≡ false
    → GoesAt a a p p first first (λ before calls after. TakesPart before.link before calls after × (false ≡ list_any stirs calls))
part_closed p first a closed held at = record {
  calls = [];
  after = seen_of held first;
  grown = grows_none a;
  leads = (no_part_is held.link (seen_of held first) (unlinked p held closed at), refl);
  at = at;
  first_is = refl;
}

-- One session's turn.

part_open : (session session' : Session) (first : Option Event) (link : ℕ) (stirred : Bool) (a b : Option (List Call)) → session.link ≡ Some link
    → Goes a b (record { handle = session.handle; link = session.link; heeded = session.heeded; first = first }) session' (λ before calls after. TurnsOnce link stirred before calls after)
    → GoesAt a b (place.Open session) (place.Open session') first session'.first (λ before calls after. TakesPart before.link before calls after × (stirred ≡ list_any stirs calls))
part_open session session' first link stirred a b linked goes held at =
    let w = goes (seen_of held first) (at_first held session first at) in
    record {
      calls = w.calls;
      after = w.after;
      grown = w.grown;
      leads = (subst (λ (l : Option ℕ). TakesPart l (seen_of held first) w.calls w.after) (sym linked ∙ at.link) w.leads.turns, w.leads.stirring);
      at = held_again w.after session' w.at;
      first_is = w.at.first;
    }

part_short : (session session' : Session) (first : Option Event) (link : ℕ) (a b : Option (List Call)) → session.link ≡ Some link
    → Goes a b (record { handle = session.handle; link = session.link; heeded = session.heeded; first = first }) session' (λ before calls after. TurnsShort link before calls after)
    → GoesAt a b (place.Open session) (place.Open session') first session'.first (λ before calls after. PartShort before.link before calls after)
part_short session session' first link a b linked goes held at =
    let w = goes (seen_of held first) (at_first held session first at) in
    record {
      calls = w.calls;
      after = w.after;
      grown = w.grown;
      leads = subst (λ (l : Option ℕ). PartShort l (seen_of held first) w.calls w.after) (sym linked ∙ at.link) w.leads;
      at = held_again w.after session' w.at;
      first_is = w.at.first;
    }

pub part_ok : (r : Result Bool NoMemory) (session session' : Session) (first : Option Event) (link : ℕ) (a b : Option (List Call)) → session.link ≡ Some link
    → IfOk r (λ stirred. Goes a b (record { handle = session.handle; link = session.link; heeded = session.heeded; first = first }) session' (λ before calls after. TurnsOnce link stirred before calls after))
    → IfOk r (λ stirred. GoesAt a b (place.Open session) (place.Open session') first session'.first (λ before calls after. TakesPart before.link before calls after × (stirred ≡ list_any stirs calls)))
part_ok (Ok stirred) session session' first link a b linked goes = part_open session session' first link stirred a b linked goes
part_ok (Err lacks) session session' first link a b linked goes = tt

pub part_lacks : (r : Result Bool NoMemory) (session session' : Session) (first : Option Event) (link : ℕ) (a b : Option (List Call)) → session.link ≡ Some link
    → OnErr r (Goes a b (record { handle = session.handle; link = session.link; heeded = session.heeded; first = first }) session' (λ before calls after. TurnsShort link before calls after))
    → OnErr r (GoesAt a b (place.Open session) (place.Open session') first session'.first (λ before calls after. PartShort before.link before calls after))
part_lacks (Ok stirred) session session' first link a b linked goes = tt
part_lacks (Err lacks) session session' first link a b linked goes = part_short session session' first link a b linked goes

-- Bytes are left unread only where memory ran out.
pub part_whole : (r : Result Bool NoMemory) (session : Session) (first : Option Event) (left : List ℕ) → OnOk r ((seen : Seen) → IsAt seen (record { handle = session.handle; link = session.link; heeded = session.heeded; first = first }) → left ≡ [])
    → OnOk r ((held : Held) → IsHeld held (place.Open session) → left ≡ [])
part_whole (Ok stirred) session first left whole = λ held at. whole (seen_of held first) (at_first held session first at)
part_whole (Err lacks) session first left whole = tt

-- One handle after another.

at_here : (done : List Held) (h : Held) (hs : List Held) (places : List Place) (x : Place) → AreHeld (done ++ h ∷ hs) places → x ≡ get_or places (length done) x → IsHeld h x
at_here [] h hs [] x at is = absurd at
at_here [] h hs (p ∷ ps) x at is = subst (λ (y : Place). IsHeld h y) (sym is) at.0
at_here (d ∷ ds) h hs [] x at is = absurd at
at_here (d ∷ ds) h hs (p ∷ ps) x at is = at_here ds h hs ps x at.1 is

at_put : (done : List Held) (h here : Held) (hs : List Held) (places : List Place) (x : Place) → AreHeld (done ++ h ∷ hs) places → IsHeld here x → AreHeld (done ++ here ∷ hs) (slice_set places (length done) x)
at_put [] h here hs [] x at is = absurd at
at_put [] h here hs (p ∷ ps) x at is = (is, at.1)
at_put (d ∷ ds) h here hs [] x at is = absurd at
at_put (d ∷ ds) h here hs (p ∷ ps) x at is = (at.0, at_put ds h here hs ps x at.1 is)

any_on : (xs ys : List Call) (a b both : Bool) → both ≡ (a || b) → a ≡ list_any stirs xs → b ≡ list_any stirs ys → both ≡ list_any stirs (xs ++ ys)
any_on xs ys a b both is p q = is ∙ ap (λ (x : Bool). x || b) p ∙ ap (λ (y : Bool). list_any stirs xs || y) q ∙ sym (list_any-append stirs xs ys)

-- The handles of a round so far: whatever the others do goes on from here.
pub record Passing (a b : Option (List Call)) (handles : List Held) (first : Option Event) (places : List Place) (first' : Option Event) (i : ℕ) (stirred : Bool) : Type 0 where
  pub calls : List Call
  pub done : List Held
  pub left : List Held
  pub grown : Grows a b calls
  pub count : length done ≡ i
  pub at : AreHeld (done ++ left) places
  pub stirring : stirred ≡ list_any stirs calls
  pub goes_on : (whole : Bool) (c : List Call) (after : List Held) (f : Option Event) → Round whole left first' c after f → Round whole handles first (calls ++ c) (done ++ after) f

pub passing_none : (a : Option (List Call)) (handles : List Held) (first : Option Event) (places : List Place) → AreHeld handles places → Passing a a handles first places first 0 false
passing_none a handles first places at = record { calls = []; done = []; left = handles; grown = grows_none a; count = refl; at = at; stirring = refl; goes_on = λ whole c after f r. r }

-- the handle whose turn it is, if none is left
none_left : {A : Type 0} (done left : List Held) (places : List Place) (i : ℕ) → left ≡ [] → AreHeld (done ++ left) places → length done ≡ i → i < length places → A
none_left done left places i none at count within =
    let long = are_length (done ++ left) places at in
    let short : length (done ++ left) ≡ length done = ap (λ (q : List Held). length (done ++ q)) none ∙ ap length (append-nil done) in
    absurd (omega (arith, long, short, count, within))

module _ (a b c : Option (List Call)) (handles : List Held) (first : Option Event) (places : List Place) (first' first'' : Option Event) (i : ℕ) (stirred : Bool) (x y : Place)
    (p : Passing a b handles first places first' i stirred) (within : i < length places) (x_is : x ≡ get_or places i x) where
  pub passing_on : (part both : Bool) → both ≡ (stirred || part)
      → GoesAt b c x y first' first'' (λ before calls after. TakesPart before.link before calls after × (part ≡ list_any stirs calls))
      → Passing a c handles first (slice_set places i y) first'' (i + 1) both
  passing_on part both is goes = go p.left refl
    where
      go : (left : List Held) → p.left ≡ left → Passing a c handles first (slice_set places i y) first'' (i + 1) both
      go [] none = none_left p.done p.left places i none p.at p.count within
      go (h ∷ hs) is_left =
          let at = subst (λ (q : List Held). AreHeld (p.done ++ q) places) is_left p.at in
          let here = at_here p.done h hs places x at (subst (λ (n : ℕ). x ≡ get_or places n x) (sym p.count) x_is) in
          let w = goes h here in
          record {
            calls = p.calls ++ w.calls;
            done = p.done ++ held_of w.after ∷ [];
            left = hs;
            grown = grows_on a b c p.calls w.calls p.grown w.grown;
            count = let long = length-append p.done (held_of w.after ∷ []) in omega (arith, long, p.count);
            at = subst (λ (q : List Held). AreHeld q (slice_set places i y)) (sym (append_assoc p.done (held_of w.after ∷ []) hs))
                (subst (λ (n : ℕ). AreHeld (p.done ++ held_of w.after ∷ hs) (slice_set places n y)) p.count (at_put p.done h (held_of w.after) hs places y at w.at));
            stirring = any_on p.calls w.calls stirred part both is p.stirring w.leads.1;
            goes_on = λ whole d after f r.
                let r' = subst (λ (e : Option Event). Round whole hs e d after f) w.first_is r in
                let mine : Round whole (h ∷ hs) first' (w.calls ++ d) (held_of w.after ∷ after) f
                = inl (record { own = w.calls; here = w.after; part = w.leads.0; other = d; there = after; others = r'; calls_are = refl; after_is = refl }) in
                let all = p.goes_on whole (w.calls ++ d) (held_of w.after ∷ after) f (subst (λ (q : List Held). Round whole q first' (w.calls ++ d) (held_of w.after ∷ after) f) (sym is_left) mine) in
                subst (λ (q : List Held). Round whole handles first ((p.calls ++ w.calls) ++ d) q f) (sym (append_assoc p.done (held_of w.after ∷ []) after))
                (subst (λ (k : List Call). Round whole handles first k (p.done ++ held_of w.after ∷ after) f) (sym (append_assoc p.calls w.calls d)) all);
          }

  pub passing_here : (h : Held) × IsHeld h x
  passing_here = go p.left refl
    where
      go : (left : List Held) → p.left ≡ left → (h : Held) × IsHeld h x
      go [] none = none_left p.done p.left places i none p.at p.count within
      go (h ∷ hs) is_left = (h, at_here p.done h hs places x (subst (λ (q : List Held). AreHeld (p.done ++ q) places) is_left p.at) (subst (λ (n : ℕ). x ≡ get_or places n x) (sym p.count) x_is))

  pub passing_short : GoesAt b c x y first' first'' (λ before calls after. PartShort before.link before calls after)
      → WentAll a c (slice_set places i y) (λ calls after. Round false handles first calls after first'')
  passing_short goes = go p.left refl
    where
      go : (left : List Held) → p.left ≡ left → WentAll a c (slice_set places i y) (λ calls after. Round false handles first calls after first'')
      go [] none = none_left p.done p.left places i none p.at p.count within
      go (h ∷ hs) is_left =
          let at = subst (λ (q : List Held). AreHeld (p.done ++ q) places) is_left p.at in
          let here = at_here p.done h hs places x at (subst (λ (n : ℕ). x ≡ get_or places n x) (sym p.count) x_is) in
          let w = goes h here in
          let mine : Round false (h ∷ hs) first' w.calls (held_of w.after ∷ hs) first''
          = inr (refl, record { here = w.after; part = w.leads; after_is = refl; first_is = w.first_is }) in
          record {
            calls = p.calls ++ w.calls;
            after = p.done ++ held_of w.after ∷ hs;
            grown = grows_on a b c p.calls w.calls p.grown w.grown;
            leads = p.goes_on false w.calls (held_of w.after ∷ hs) first'' (subst (λ (q : List Held). Round false q first' w.calls (held_of w.after ∷ hs) first'') (sym is_left) mine);
            at = subst (λ (n : ℕ). AreHeld (p.done ++ held_of w.after ∷ hs) (slice_set places n y)) p.count (at_put p.done h (held_of w.after) hs places y at w.at);
          }

pub passing_end : (a b : Option (List Call)) (handles : List Held) (first : Option Event) (places : List Place) (first' : Option Event) (i : ℕ) (stirred : Bool) → length places ≤ i → Passing a b handles first places first' i stirred
    → WentAll a b places (λ calls after. Round true handles first calls after first' × (stirred ≡ list_any stirs calls))
passing_end a b handles first places first' i stirred past p = go p.left refl
  where
    go : (left : List Held) → p.left ≡ left → WentAll a b places (λ calls after. Round true handles first calls after first' × (stirred ≡ list_any stirs calls))
    go (h ∷ hs) more =
        let long = are_length (p.done ++ p.left) places p.at in
        let longer : length (p.done ++ p.left) ≡ length (p.done ++ h ∷ hs) = ap (λ (q : List Held). length (p.done ++ q)) more in
        let sum = length-append p.done (h ∷ hs) in
        absurd (omega (arith, long, longer, sum, p.count, past))
    go [] none =
        let none_is : Round true p.left first' [] [] first' = subst (λ (q : List Held). Round true q first' [] [] first') (sym none) (refl, refl, refl, refl) in
        let last = p.goes_on true [] [] first' none_is in
        record {
          calls = p.calls;
          after = p.done ++ [];
          grown = p.grown;
          leads = (subst (λ (k : List Call). Round true handles first k (p.done ++ []) first') (append-nil p.calls) last, p.stirring);
          at = subst (λ (q : List Held). AreHeld (p.done ++ q) places) none p.at;
        }

-- What is left to do, and what a pause waits for.

busy_some : (link : Option ℕ) (held : Held) (first : Option Event) (session : Session) → IsAt (seen_of held first) session → is_busy_linked link session ≡ busy_if link held.history
busy_some None held first session at = refl
busy_some (Some link) held first session at = busy_is (seen_of held first) session at

busy_place : (held : Held) (p : Place) → IsHeld held p → is_busy_place p ≡ is_busy_held held
busy_place held place.Unused at = sym (ap is_busy_held at)
busy_place held (place.Open session) at = busy_some session.link held session.first session at ∙ ap (λ (l : Option ℕ). busy_if l held.history) at.link
busy_place held (place.Over over) at = sym (ap (λ (l : Option ℕ). busy_if l held.history) at.link)

pub busy_all : (handles : List Held) (places : List Place) → AreHeld handles places → list_any is_busy_place places ≡ is_any_busy handles
busy_all [] [] at = refl
busy_all [] (p ∷ ps) at = absurd at
busy_all (h ∷ hs) [] at = absurd at
busy_all (h ∷ hs) (p ∷ ps) at = ap (λ (b : Bool). b || list_any is_busy_place ps) (busy_place h p at.0) ∙ ap (λ (b : Bool). is_busy_held h || b) (busy_all hs ps at.1)

want_some : (link : Option ℕ) (held : Held) (first : Option Event) (session : Session) → IsAt (seen_of held first) session → want_linked link session ≡ want_if link held.history
want_some None held first session at = refl
want_some (Some link) held first session at =
    let right = answers_at (seen_of held first) session at in
    ap (λ (s : State). want_of link s (in_flight_now session.handle.machine.known) (direction_now session.handle.machine.known)) right.state
    ∙ ap (λ (n : ℕ). want_of link (state_after held.history) n (direction_now session.handle.machine.known)) right.in_flight
    ∙ ap (λ (n : ℕ). want_of link (state_after held.history) (in_flight_after held.history) n) right.direction

want_place : (held : Held) (p : Place) → IsHeld held p → want_now p ≡ want_if held.link held.history
want_place held place.Unused at = sym (ap (λ (h : Held). want_if h.link h.history) at)
want_place held (place.Open session) at = want_some session.link held session.first session at ∙ ap (λ (l : Option ℕ). want_if l held.history) at.link
want_place held (place.Over over) at = sym (ap (λ (l : Option ℕ). want_if l held.history) at.link)

pub wants_same : (handles : List Held) (places : List Place) → AreHeld handles places → wants_now places ≡ wants_of handles
wants_same [] [] at = refl
wants_same [] (p ∷ ps) at = absurd at
wants_same (h ∷ hs) [] at = absurd at
wants_same (h ∷ hs) (p ∷ ps) at = ap (λ (w : Option Want). with_want w (wants_now ps)) (want_place h p at.0) ∙ ap (λ (l : List Want). with_want (want_if h.link h.history) l) (wants_same hs ps at.1)

with_append : (want : Option Want) (xs ys : List Want) → with_want want xs ++ ys ≡ with_want want (xs ++ ys)
with_append None xs ys = refl
with_append (Some want) xs ys = refl

wants_append : (xs ys : List Place) → wants_now (xs ++ ys) ≡ wants_now xs ++ wants_now ys
wants_append [] ys = refl
wants_append (x ∷ xs) ys = ap (with_want (want_now x)) (wants_append xs ys) ∙ sym (with_append (want_now x) (wants_now xs) (wants_now ys))

take_one : (i : ℕ) (xs : List Place) (x : Place) → i < length xs → x ≡ get_or xs i x → take (suc i) xs ≡ take i xs ++ x ∷ []
take_one i [] x within is = absurd (omega (arith, within))
take_one zero (y ∷ ys) x within is = ap (λ (h : Place). h ∷ []) (sym is)
take_one (suc i) (y ∷ ys) x within is = ap (λ (l : List Place). y ∷ l) (take_one i ys x (omega (arith, within)) is)

pub wants_on : (i : ℕ) (all : List Place) (x : Place) (wants : List Want) → i < length all → x ≡ get_or all i x → wants ≡ wants_now (take i all) → wants ++ with_want (want_now x) [] ≡ wants_now (take (i + 1) all)
wants_on i all x wants within is so_far =
    let one : take (i + 1) all ≡ take i all ++ x ∷ [] = rw add-one (take_one i all x within is) in
    ap (λ (l : List Want). l ++ with_want (want_now x) []) so_far ∙ sym (wants_append (take i all) (x ∷ [])) ∙ ap wants_now (sym one)

-- One round after another.

-- After a round all stands where it led; the waiting may have risen.
pub stands_round : (scene : Scene) (sessions sessions' : Sessions) (i j : ℕ) (handles : List Held) → Stands scene sessions i → AreHeld handles sessions'.places.items → vec_len sessions'.places ≡ vec_len sessions.places
    → sessions'.current ≡ sessions.current → sessions'.start ≡ sessions.start → vec_capacity sessions'.wants ≡ vec_capacity sessions.wants → i ≤ j → Stands (with_round handles sessions'.first scene.waits scene) sessions' j
stands_round scene sessions sessions' i j handles s at count current start room later = record {
  held = at;
  count = count ∙ s.count;
  current = current ∙ s.current;
  inside = s.inside;
  first = refl;
  started = omega (arith, start, s.started, later);
  rises = omega (arith, start, s.rises, later);
  few = s.few;
  small = omega (arith, start, s.small);
  room = omega (arith, room, s.room);
}

-- a pause that was borne
pub stands_waited : (scene : Scene) (sessions sessions' : Sessions) (i j : ℕ) → Stands scene sessions i → sessions'.places ≡ sessions.places → sessions'.current ≡ sessions.current → sessions'.first ≡ sessions.first → sessions'.start ≡ sessions.start
    → vec_capacity sessions'.wants ≡ vec_capacity sessions.wants → Rises 1 i j → j < sessions'.start + 1000000000 → j < 18446744073709551615 → Stands (with_round scene.handles scene.first (scene.waits + 1) scene) sessions' j
stands_waited scene sessions sessions' i j s places current first start room rises short open_ = record {
  held = subst (λ ps. AreHeld scene.handles ps.items) (sym places) s.held;
  count = ap vec_len places ∙ s.count;
  current = current ∙ s.current;
  inside = s.inside;
  first = first ∙ s.first;
  started = omega (arith, start, s.started, rises, open_);
  rises = omega (arith, start, s.rises, rises);
  few = omega (arith, start, s.rises, rises, short, open_);
  small = omega (arith, start, s.small);
  room = omega (arith, room, s.room);
}

-- The rounds of a settle so far: whatever the others do goes on from here.
pub record Settling (a b : Option (List Call)) (sessions : Sessions) (idles : ℕ) (scene : Scene) : Type 0 where
  pub calls : List Call
  pub now : Scene
  pub grown : Grows a b calls
  pub at : Stands now sessions idles
  pub goes_on : (c : List Call) (after : Scene) (end : Result (Unit {0}) Halt) → Settles now c after end → Settles scene (calls ++ c) after end

pub settling_none : (a : Option (List Call)) (sessions : Sessions) (idles : ℕ) (scene : Scene) → Stands scene sessions idles → Settling a a sessions idles scene
settling_none a sessions idles scene at = record { calls = []; now = scene; grown = grows_none a; at = at; goes_on = λ c after end s. s }

-- nothing is left to do
pub settling_done : (a b : Option (List Call)) (sessions : Sessions) (idles : ℕ) (scene : Scene) → list_any is_busy_place sessions.places.items ≡ false → Settling a b sessions idles scene
    → WentOver a b idles sessions (λ calls after. Settles scene calls after (Ok tt))
settling_done a b sessions idles scene rests s = record {
  calls = s.calls;
  after = s.now;
  grown = s.grown;
  leads = subst (λ (l : List Call). Settles scene l s.now (Ok tt)) (append-nil s.calls)
      (s.goes_on [] s.now (Ok tt) (At_rest s.now [] s.now (Ok tt) (sym (busy_all s.now.handles sessions.places.items s.at.held) ∙ rests) refl refl refl));
  at = s.at;
}

-- what a round left as it was, where it was
pub record Rounded (sessions sessions' : Sessions) (i j : ℕ) : Type 0 where
  pub count : vec_len sessions'.places ≡ vec_len sessions.places
  pub current : sessions'.current ≡ sessions.current
  pub start : sessions'.start ≡ sessions.start
  pub room : vec_capacity sessions'.wants ≡ vec_capacity sessions.wants
  pub later : i ≤ j

-- what a pause left as it was
pub record Paused (sessions sessions' : Sessions) : Type 0 where
  pub places : sessions'.places ≡ sessions.places
  pub current : sessions'.current ≡ sessions.current
  pub first : sessions'.first ≡ sessions.first
  pub start : sessions'.start ≡ sessions.start
  pub room : vec_capacity sessions'.wants ≡ vec_capacity sessions.wants

-- after a pause that was the last all stands where it did
stands_later : (scene : Scene) (sessions sessions' : Sessions) (i j : ℕ) → Stands scene sessions i → Paused sessions sessions' → Rises 1 i j → Stands scene sessions' j
stands_later scene sessions sessions' i j s p rises = record {
  held = subst (λ ps. AreHeld scene.handles ps.items) (sym p.places) s.held;
  count = ap vec_len p.places ∙ s.count;
  current = p.current ∙ s.current;
  inside = s.inside;
  first = p.first ∙ s.first;
  started = omega (arith, p.start, s.started, rises, s.small);
  rises = omega (arith, p.start, s.rises, rises, s.small);
  few = s.few;
  small = omega (arith, p.start, s.small);
  room = omega (arith, p.room, s.room);
}

module _ (a b c : Option (List Call)) (sessions sessions' : Sessions) (i j : ℕ) (scene : Scene) (s : Settling a b sessions i scene) (busy : list_any is_busy_place sessions.places.items ≡ true) (r : Rounded sessions sessions' i j) where
  is_busy_then : is_any_busy s.now.handles ≡ true
  is_busy_then = sym (busy_all s.now.handles sessions.places.items s.at.held) ∙ busy

  abbrev HasRound : (whole : Bool) → (List Call → Type 0) → Type 0
  HasRound whole Also = GoesAll b c sessions.places.items sessions'.places.items (λ before calls after. Round whole before sessions.first calls after sessions'.first × Also calls)

  -- memory ran out in a round
  pub settling_short : GoesAll b c sessions.places.items sessions'.places.items (λ before calls after. Round false before sessions.first calls after sessions'.first)
      → WentOver a c j sessions' (λ calls after. Settles scene calls after (Err halt.NoMemory))
  settling_short goes =
      let w = goes s.now.handles s.at.held in
      let e = with_round w.after sessions'.first s.now.waits s.now in
      let round = subst (λ (f : Option Event). Round false s.now.handles f w.calls w.after sessions'.first) s.at.first w.leads in
      record {
        calls = s.calls ++ w.calls;
        after = e;
        grown = grows_on a b c s.calls w.calls s.grown w.grown;
        leads = s.goes_on w.calls e (Err halt.NoMemory) (Runs_short s.now w.calls e (Err halt.NoMemory) w.after sessions'.first is_busy_then round refl refl);
        at = stands_round s.now sessions sessions' i j w.after s.at w.at r.count r.current r.start r.room r.later;
      }

  module _ (stirred : Bool) (goes : HasRound true (λ calls. stirred ≡ list_any stirs calls)) where
    -- a round in which something happened
    pub settling_on : stirred ≡ true → Settling a c sessions' j scene
    settling_on is =
        let w = goes s.now.handles s.at.held in
        let e = with_round w.after sessions'.first s.now.waits s.now in
        let round = subst (λ (f : Option Event). Round true s.now.handles f w.calls w.after sessions'.first) s.at.first w.leads.0 in
        record {
          calls = s.calls ++ w.calls;
          now = e;
          grown = grows_on a b c s.calls w.calls s.grown w.grown;
          at = stands_round s.now sessions sessions' i j w.after s.at w.at r.count r.current r.start r.room r.later;
          goes_on = λ x after end rest. subst (λ (l : List Call). Settles scene l after end) (sym (append_assoc s.calls w.calls x))
              (s.goes_on (w.calls ++ x) after end (Stirs s.now (w.calls ++ x) after end w.calls w.after sessions'.first x is_busy_then round (sym w.leads.1 ∙ is) rest refl));
        }

    module _ (d : Option (List Call)) (k : ℕ) (paused : Sessions) (is : stirred ≡ false) (told : Adds c d (Pause (wants_now sessions'.places.items))) (p : Paused sessions' paused) (rises : Rises 1 j k) where
      pause_is : (handles : List Held) → AreHeld handles sessions'.places.items → Adds c d (Pause (wants_of handles))
      pause_is handles at = subst (λ (ws : List Want). Adds c d (Pause ws)) (wants_same handles sessions'.places.items at) told

      -- one in which nothing happened, and a pause that was borne
      pub settling_still : k < paused.start + 1000000000 → k < 18446744073709551615 → Settling a d paused k scene
      settling_still short open_ =
          let w = goes s.now.handles s.at.held in
          let e = with_round w.after sessions'.first s.now.waits s.now in
          let round = subst (λ (f : Option Event). Round true s.now.handles f w.calls w.after sessions'.first) s.at.first w.leads.0 in
          let at = stands_round s.now sessions sessions' i j w.after s.at w.at r.count r.current r.start r.room r.later in
          let pause = Pause (wants_of w.after) ∷ [] in
          let own = w.calls ++ pause in
          record {
            calls = s.calls ++ own;
            now = with_round w.after sessions'.first (s.now.waits + 1) s.now;
            grown = grows_on a b d s.calls own s.grown (grows_on b c d w.calls pause w.grown (pause_is w.after w.at));
            at = stands_waited e sessions' paused j k at p.places p.current p.first p.start p.room rises short open_;
            goes_on = λ x after end rest. subst (λ (l : List Call). Settles scene l after end) (sym (append_assoc s.calls own x))
                (s.goes_on (own ++ x) after end (Is_still s.now (own ++ x) after end w.calls w.after sessions'.first x is_busy_then round (sym w.leads.1 ∙ is) s.at.few rest (append_assoc w.calls pause x)));
          }

      -- one in which nothing happened, and a pause that was the last
      pub settling_silent : WentOver a d k paused (λ calls after. Settles scene calls after (Err halt.Silent))
      settling_silent =
          let w = goes s.now.handles s.at.held in
          let e = with_round w.after sessions'.first s.now.waits s.now in
          let round = subst (λ (f : Option Event). Round true s.now.handles f w.calls w.after sessions'.first) s.at.first w.leads.0 in
          let at = stands_round s.now sessions sessions' i j w.after s.at w.at r.count r.current r.start r.room r.later in
          let pause = Pause (wants_of w.after) ∷ [] in
          let own = w.calls ++ pause in
          record {
            calls = s.calls ++ own;
            after = e;
            grown = grows_on a b d s.calls own s.grown (grows_on b c d w.calls pause w.grown (pause_is w.after w.at));
            leads = s.goes_on own e (Err halt.Silent) (Is_silent s.now own e (Err halt.Silent) w.calls w.after sessions'.first is_busy_then round (sym w.leads.1 ∙ is) s.at.few refl refl refl);
            at = stands_later e sessions' paused j k at p rises;
          }
