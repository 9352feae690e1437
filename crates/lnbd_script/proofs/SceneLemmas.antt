-- All handles of a script, by their numbers.
use Rattle.std.proofs.Common.{◌≡◌, ◌<◌, ◌≤◌, ◌+◌, ℕ, zero, suc, add-one, Bool, true, false, List, [], ◌∷◌, ◌++◌, length, get_or, set, replicate, vec_len, vec_capacity, if◌then◌else◌, Option, Result, Ok, Err, OnOk, refl, sym, ◌∙◌, ap, subst, arith, nat_lt}
use Rattle.std.proofs.lemmas.Bool.{false≢true}
use Rattle.std.proofs.lemmas.Bool.Decides.{nat_tests}
use Rattle.lnbd_history.specs.Laws.{is_closed}
use Rattle.lnbd_link.specs.Call.{Call}
use Rattle.lnbd_link.proofs.Parts.{grows_none}
use Rattle.lnbd_lines.specs.declared.line.Line.{Line}
use Rattle.lnbd_script.specs.declared.event.Event.{Event}
use Rattle.lnbd_script.specs.declared.place.Place.{Place}
use Rattle.lnbd_script.specs.declared.place.Place.TheVariants as place
use Rattle.lnbd_script.specs.declared.sessions.Sessions.{Sessions}
use Rattle.lnbd_script.specs.declared.reach.Reach.{Reach}
use Rattle.lnbd_script.specs.declared.reach.Reach.TheVariants as reach
use Rattle.lnbd_script.specs.declared.told.Halt.{Halt}
use Rattle.lnbd_script.specs.declared.told.Told.TheVariants as told
use Rattle.lnbd_script.specs.Acts.{Acts, ActsAlone, ActsAs, SettlesIf, reach_of}
use Rattle.lnbd_script.specs.Lines.{Answers, LineEnd}
use Rattle.lnbd_script.specs.Scenes.{Held, Scene, choosing, current_of, held_at, held_of, seen_of, unused, with_current}
use Rattle.lnbd_script.specs.Rounds.{Settles}
use Rattle.lnbd_script.specs.Seen.{Seen}
use Rattle.lnbd_script.specs.Steps.{AreHeld, GoesAt, GoesOver, IsHeld, Stands, WentOver, current_place, is_open, is_used, settled_end}
use Rattle.lnbd_script.proofs.PlaceLemmas.{open_going}

pub are_length : (handles : List Held) (places : List Place) → AreHeld handles places → length handles ≡ length places
are_length [] [] at = refl
are_length [] (p ∷ ps) at = absurd at
are_length (h ∷ hs) [] at = absurd at
are_length (h ∷ hs) (p ∷ ps) at = let same = are_length hs ps at.1 in omega (arith, same)

pub at_index : (handles : List Held) (places : List Place) (i : ℕ) (p : Place) → AreHeld handles places → i < length places → p ≡ get_or places i p → IsHeld (get_or handles i unused) p
at_index [] [] i p at within is = absurd (omega (arith, within))
at_index [] (q ∷ qs) i p at within is = absurd at
at_index (h ∷ hs) [] i p at within is = absurd at
at_index (h ∷ hs) (q ∷ qs) zero p at within is = subst (λ (x : Place). IsHeld h x) (sym is) at.0
at_index (h ∷ hs) (q ∷ qs) (suc i) p at within is = at_index hs qs i p at.1 (omega (arith, within)) is

pub at_set : (handles : List Held) (places : List Place) (i : ℕ) (h : Held) (p : Place) → AreHeld handles places → IsHeld h p → AreHeld (set handles i h) (set places i p)
at_set [] [] i h p at here = tt
at_set [] (q ∷ qs) i h p at here = absurd at
at_set (g ∷ gs) [] i h p at here = absurd at
at_set (g ∷ gs) (q ∷ qs) zero h p at here = (here, at.1)
at_set (g ∷ gs) (q ∷ qs) (suc i) h p at here = (at.0, at_set gs qs i h p at.1 here)

pub at_same : (handles : List Held) (places : List Place) (i : ℕ) (p q : Place) → AreHeld handles places → i < length places → p ≡ get_or places i p → ((h : Held) → IsHeld h p → IsHeld h q) → AreHeld handles (set places i q)
at_same [] [] i p q at within is same = absurd (omega (arith, within))
at_same [] (x ∷ xs) i p q at within is same = absurd at
at_same (h ∷ hs) [] i p q at within is same = absurd at
at_same (h ∷ hs) (x ∷ xs) zero p q at within is same = (same h (subst (λ (y : Place). IsHeld h y) (sym is) at.0), at.1)
at_same (h ∷ hs) (x ∷ xs) (suc i) p q at within is same = (at.0, at_same hs xs i p q at.1 (omega (arith, within)) is same)

pub get_other : {A : Type 0} (xs : List A) (i : ℕ) (a b : A) → i < length xs → get_or xs i a ≡ get_or xs i b
get_other [] i a b within = absurd (omega (arith, within))
get_other (x ∷ xs) zero a b within = refl
get_other (x ∷ xs) (suc i) a b within = get_other xs i a b (omega (arith, within))

pub get_set : {A : Type 0} (xs : List A) (i : ℕ) (a d : A) → i < length xs → get_or (set xs i a) i d ≡ a
get_set [] i a d within = absurd (omega (arith, within))
get_set (x ∷ xs) zero a d within = refl
get_set (x ∷ xs) (suc i) a d within = get_set xs i a d (omega (arith, within))

pub are_unused : (n : ℕ) → AreHeld (replicate n unused) (replicate n place.Unused)
are_unused zero = tt
are_unused (suc n) = (refl, are_unused n)

pub replicate_more : {A : Type 0} (n : ℕ) (x : A) → replicate n x ++ x ∷ [] ≡ replicate (n + 1) x
replicate_more {A = A} n x = rw add-one (go n)
  where
    go : (n : ℕ) → replicate n x ++ x ∷ [] ≡ replicate (suc n) x
    go zero = refl
    go (suc n) = ap (λ (l : List A). x ∷ l) (go n)

-- A line on the current handle leaves the others as they were.
pub acted : (line : Line) (scene : Scene) (sessions sessions' : Sessions) (p q : Place) (i j : ℕ) (a b : Option (List Call)) (end : LineEnd) → Stands scene sessions i
    → sessions'.places.items ≡ set sessions.places.items sessions.current q → vec_len sessions'.places ≡ vec_len sessions.places → sessions'.current ≡ sessions.current → sessions'.start ≡ sessions.start → vec_capacity sessions'.wants ≡ vec_capacity sessions.wants
    → sessions.current < length sessions.places.items → p ≡ get_or sessions.places.items sessions.current p → i ≤ j
    → GoesAt a b p q sessions.first sessions'.first (λ before calls after. Answers line before calls after end)
    → WentOver a b j sessions' (λ calls after. ActsAlone line scene calls after end)
acted line scene sessions sessions' p q i j a b end s items count current start room inside is later goes =
    let number = sessions.current in
    let here = at_index scene.handles sessions.places.items number p s.held inside is in
    let w = goes (get_or scene.handles number unused) here in
    let there = at_set scene.handles sessions.places.items number (held_of w.after) q s.held w.at in
    let seen_is : seen_of (get_or scene.handles number unused) sessions.first ≡ current_of scene
    = ap (λ (n : ℕ). seen_of (get_or scene.handles n unused) sessions.first) s.current ∙ ap (λ (f : Option Event). seen_of (held_at scene scene.current) f) s.first in
    record {
      calls = w.calls;
      after = with_current w.after scene;
      grown = w.grown;
      leads = record { seen = w.after; answers = subst (λ (x : Seen). Answers line x w.calls w.after end) seen_is w.leads; after_is = refl };
      at = record {
        held = subst (λ (n : ℕ). AreHeld (set scene.handles n (held_of w.after)) sessions'.places.items) s.current (subst (λ (ps : List Place). AreHeld (set scene.handles number (held_of w.after)) ps) (sym items) there);
        count = count ∙ s.count;
        current = current ∙ s.current;
        inside = s.inside;
        first = w.first_is;
        started = omega (arith, start, s.started, later);
        rises = omega (arith, start, s.rises, later);
        few = s.few;
        small = omega (arith, start, s.small);
        room = omega (arith, room, s.room);
      };
    }

-- Bytes are left unread only where memory ran out.
pub acted_whole : (scene : Scene) (sessions : Sessions) (p : Place) (i : ℕ) (end : LineEnd) (left : List ℕ) → Stands scene sessions i → sessions.current < length sessions.places.items → p ≡ get_or sessions.places.items sessions.current p
    → OnOk end ((held : Held) → IsHeld held p → left ≡ []) → OnOk end (left ≡ [])
acted_whole scene sessions p i (Ok tells) left s inside is whole = whole (get_or scene.handles sessions.current unused) (at_index scene.handles sessions.places.items sessions.current p s.held inside is)
acted_whole scene sessions p i (Err halt) left s inside is whole = tt

-- The current handle stands where the scene says.
pub at_current : (scene : Scene) (sessions : Sessions) (i : ℕ) (p : Place) → Stands scene sessions i → p ≡ current_place sessions → IsHeld (held_at scene scene.current) p
at_current scene sessions i p s is =
    let current = s.current in
    let inside = s.inside in
    let count = s.count in
    let within : sessions.current < length sessions.places.items = omega (arith, current, inside, count, sessions.places.ok.0) in
    let p_is : p ≡ get_or sessions.places.items sessions.current p = is ∙ get_other sessions.places.items sessions.current place.Unused p within in
    subst (λ (n : ℕ). IsHeld (get_or scene.handles n unused) p) s.current (at_index scene.handles sessions.places.items sessions.current p s.held within p_is)

-- One line of a script.

inside_if : (n m : ℕ) (b : Bool) → nat_lt n 16 ≡ b → m < 16 → (if b then n else m) < 16
inside_if n m true is small = grind (arith, nat_tests)
inside_if n m false is small = small

-- a handle is made current
pub chosen : (line : Line) (number : ℕ) (sessions new : Sessions) (i : ℕ) (a : Option (List Call)) → reach_of line ≡ reach.Choice number
    → new ≡ record { places = sessions.places; current = if nat_lt number 16 then number else sessions.current; first = sessions.first; start = sessions.start; wants = sessions.wants; inbox = sessions.inbox; hears = sessions.hears }
    → GoesOver a a i i sessions new (λ before calls after. Acts line before calls after (Ok told.Done))
chosen line number sessions new i a reach is scene s = record {
  calls = [];
  after = choosing number scene;
  grown = grows_none a;
  leads = subst (λ (r : Reach). ActsAs r line scene [] (choosing number scene) (Ok told.Done)) (sym reach) (refl, refl, refl);
  at = subst (λ (x : Sessions). Stands (choosing number scene) x i) (sym is) (record {
    held = s.held;
    count = s.count;
    current = ap (λ (n : ℕ). if nat_lt number 16 then number else n) s.current;
    inside = inside_if number scene.current (nat_lt number 16) refl s.inside;
    first = s.first;
    started = s.started;
    rises = s.rises;
    few = s.few;
    small = s.small;
    room = s.room;
  });
}

-- a line that acts on the current handle alone
pub acts_alone : (line : Line) (sessions new : Sessions) (i j : ℕ) (a b : Option (List Call)) (end : LineEnd) → reach_of line ≡ reach.Current → GoesOver a b i j sessions new (λ before calls after. ActsAlone line before calls after end)
    → GoesOver a b i j sessions new (λ before calls after. Acts line before calls after end)
acts_alone line sessions new i j a b end reach goes scene s =
    let w = goes scene s in
    record { calls = w.calls; after = w.after; grown = w.grown; leads = subst (λ (r : Reach). ActsAs r line scene w.calls w.after end) (sym reach) w.leads; at = w.at }

over_closed : (held : Held) (p : Place) → is_used p ≡ true → is_open p ≡ false → IsHeld held p → is_closed held.history ≡ true
over_closed held place.Unused used closed at = absurd (false≢true used)
over_closed held (place.Open session) used closed at = absurd (false≢true (sym closed))
over_closed held (place.Over over) used closed at = at.closed

-- a settle where the current handle is closed
pub settle_gone : (sessions : Sessions) (p : Place) (i : ℕ) (a : Option (List Call)) → p ≡ current_place sessions → is_used (current_place sessions) ≡ true → is_open p ≡ false
    → GoesOver a a i i sessions sessions (λ before calls after. SettlesIf (is_closed (current_of before).history) before calls after (Ok told.Gone))
settle_gone sessions p i a is used closed scene s =
    let here = at_current scene sessions i p s is in
    record {
      calls = [];
      after = scene;
      grown = grows_none a;
      leads = subst (λ (c : Bool). SettlesIf c scene [] scene (Ok told.Gone)) (sym (over_closed (held_at scene scene.current) p (ap is_used is ∙ used) closed here)) (refl, refl, refl);
      at = s;
    }

settles_as : (scene after : Scene) (calls : List Call) (end : Result (Unit {0}) Halt) → Settles scene calls after end → SettlesIf false scene calls after (settled_end end)
settles_as scene after calls (Ok done) s = (refl, s)
settles_as scene after calls (Err halt) s = s

pub settled_whole : (end : Result (Unit {0}) Halt) (tells : LineEnd) (P : Type 0) → tells ≡ settled_end end → OnOk end P → OnOk tells P
settled_whole (Ok done) tells P is holds = subst (λ (e : LineEnd). OnOk e P) (sym is) holds
settled_whole (Err halt) tells P is holds = subst (λ (e : LineEnd). OnOk e P) (sym is) tt

-- and where it is not
pub settle_on : (sessions new : Sessions) (p : Place) (i j : ℕ) (a b : Option (List Call)) (end : Result (Unit {0}) Halt) (told : LineEnd) → told ≡ settled_end end → p ≡ current_place sessions → is_open p ≡ true
    → GoesOver a b i j sessions new (λ before calls after. Settles before calls after end)
    → GoesOver a b i j sessions new (λ before calls after. SettlesIf (is_closed (current_of before).history) before calls after told)
settle_on sessions new p i j a b end told told_is is on goes scene s =
    let w = goes scene s in
    let going = open_going (held_at scene scene.current) p on (at_current scene sessions i p s is) in
    record {
      calls = w.calls;
      after = w.after;
      grown = w.grown;
      leads = subst (λ (x : LineEnd). SettlesIf (is_closed (current_of scene).history) scene w.calls w.after x) (sym told_is) (subst (λ (c : Bool). SettlesIf c scene w.calls w.after (settled_end end)) (sym going) (settles_as scene w.after w.calls end w.leads));
      at = w.at;
    }
