-- Turn after turn.
use Rattle.std.proofs.Common.{◌≡◌, ◌≤◌, ℕ, Bool, true, false, List, [], ◌∷◌, ◌++◌, Option, Some, None, Result, Ok, Err, refl, sym, ◌∙◌, ap, subst, append_assoc, arith}
use Rattle.std.proofs.lemmas.Bool.{false≢true}
use Rattle.std.proofs.lemmas.List.{append-nil}
use Rattle.std.specs.Prelude.{slice_get}
use Rattle.std.specs.Option.{option_map}
use Rattle.lnbd_callbacks.specs.Calls.{Call}
use Rattle.lnbd_machine.specs.Machine.{Machine}
use Rattle.lnbd_standing.specs.Standing.{StandsFor}
use Rattle.lnbd_handle.specs.Histories.{ForEach}
use Rattle.lnbd_link.specs.Call as wire
use Rattle.lnbd_link.specs.Call.{Pause}
use Rattle.lnbd_link.specs.Part.{Adds, Grows}
use Rattle.lnbd_link.specs.declared.wires.Want.{Want}
use Rattle.lnbd_link.proofs.Parts.{grows_none, grows_on}
use Rattle.lnbd_poll.specs.declared.noticed.Turn.{Turn}
use Rattle.lnbd_poll.specs.declared.noticed.Turn.TheVariants as turn
use Rattle.lnbd_poll.specs.Seen.{Goes, Seen, Went}
use Rattle.lnbd_poll.specs.Held.{Held, AreAt, wants_after, wants_now}
use Rattle.lnbd_poll.specs.Steps.{TookEnough, TookShort}
use Rattle.lnbd_poll.specs.Turns.{Blames, TurnsOne, turn_of}
use Rattle.lnbd_poll.proofs.TurnLemmas.{blames_on}
use Rattle.lnbd_waits.specs.declared.waiting.Awaited.{Awaited}
use Rattle.lnbd_waits.specs.declared.waiting.Halt.{Halt}
use Rattle.lnbd_waits.specs.declared.waiting.Halt.TheVariants as halt
use Rattle.lnbd_waits.specs.Waits.{Holds, Is_silent, Is_still, Is_there, Moves, Runs_short, Waited, Waits, is_awaited, want}
use Rattle.lnbd_waits.proofs.StillLemmas.{still_same, wanted}

pub blames_none : (f g : ℕ) → Blames [] f g
blames_none f g never = absurd (false≢true never)

blames_pause : (wants : List Want) (f g : ℕ) → Blames (Pause wants ∷ []) f g
blames_pause wants f g never = absurd (false≢true never)

-- what a turn tells of how much happened
pub some_moved : (moved : Option ℕ) (told : Turn) (n : ℕ) → told ≡ turn.Moved n → told ≡ turn_of moved → (m : ℕ) × (moved ≡ Some m)
some_moved (Some m) told n is tells = (m, refl)
some_moved None told n is tells = absurd (cc (sym is ∙ tells))

pub none_moved : (moved : Option ℕ) (told : Turn) → told ≡ turn.Still → told ≡ turn_of moved → moved ≡ None
none_moved None told is tells = refl
none_moved (Some m) told is tells = absurd (cc (sym is ∙ tells))

-- The one handle that is held.

pub at_handle : {K : Type 0} (all : List (Held K)) (handle : Machine K) (seen : Seen K) → option_map (λ held. held.handle) (slice_get all 0) ≡ Some handle → Holds all seen → StandsFor 1024 seen.history handle
at_handle [] handle seen is at = absurd at
at_handle {K} (held ∷ others) handle seen is at = let same : held.handle ≡ handle = cc is in subst (λ (m : Machine K). StandsFor 1024 seen.history m) same at.0.stands

pub awaited_is : {K : Type 0} (all : List (Held K)) (handle : Machine K) (awaited : Awaited) (b : Bool) → option_map (λ held. held.handle) (slice_get all 0) ≡ Some handle
    → ForEach handle (λ history. b ≡ is_awaited awaited history) → (seen : Seen K) → Holds all seen → b ≡ is_awaited awaited seen.history
awaited_is all handle awaited b is to_come seen at = to_come seen.history (at_handle all handle seen is at)

module _ {K World : Type 0} (steps : World → List (Call K) → World → Type 0) (awaited : Awaited) where
  -- The turns so far: whatever the others do goes on from here.
  pub record Waiting (a b : Option (List wire.Call)) (f g : ℕ) (all : List (Held K)) (seen : Seen K) (world world' : World) : Type 0 where
    pub calls : List wire.Call
    pub now : Seen K
    pub grown : Grows a b calls
    pub at : Holds all now
    pub blames : Blames calls f g
    pub goes_on : (c : List wire.Call) (after : Seen K) (last : World) (end : Result (Unit {0}) Halt) → Waits steps awaited now world' c after last end → Waits steps awaited seen world (calls ++ c) after last end

  pub waiting_none : (a : Option (List wire.Call)) (f : ℕ) (all : List (Held K)) (seen : Seen K) (world : World) → Holds all seen → Waiting a a f f all seen world world
  waiting_none a f all seen world at = record { calls = []; now = seen; grown = grows_none a; at = at; blames = blames_none f f; goes_on = λ c after last end w. w }

  -- a turn in which something happened
  pub waiting_on : (a b c : Option (List wire.Call)) (f g h : ℕ) (all all' : List (Held K)) (seen : Seen K) (world half half' : World) (told : Turn) (n : ℕ) (b' : Bool) → told ≡ turn.Moved n → b' ≡ true → f ≤ g → g ≤ h
      → ((s : Seen K) → Holds all s → b' ≡ is_awaited awaited s.history)
      → Waiting a b f g all seen world half → Goes b c (Holds all) (Holds all') (λ before calls after. TookEnough steps g h told before half calls after half') → Waiting a c f h all' seen world half'
  waiting_on a b c f g h all all' seen world half half' told n b' is busy fg gh asks w goes =
      let went = goes w.now w.at in
      let part = went.leads.2 in
      let some = some_moved part.moved told n is part.tells in
      let turns = subst (λ (m : Option ℕ). TurnsOne steps went.leads.0 w.now half went.calls went.after half' m) some.1 part.turns in
      record {
        calls = w.calls ++ went.calls;
        now = went.after;
        grown = grows_on a b c w.calls went.calls w.grown went.grown;
        at = went.at;
        blames = blames_on w.calls went.calls f g h w.blames part.blames fg gh;
        goes_on = λ x after last end r. subst (λ (l : List wire.Call). Waits steps awaited seen world l after last end) (sym (append_assoc w.calls went.calls x))
            (w.goes_on (went.calls ++ x) after last end (Moves w.now half (went.calls ++ x) after last end went.leads.0 some.0 went.calls went.after half' x (sym (asks w.now w.at) ∙ busy) turns went.leads.1 r refl));
      }

  -- a turn in which nothing happened, and a pause
  record Paused (a c : Option (List wire.Call)) (f h : ℕ) (all' : List (Held K)) (before : Seen K) (world world' : World) : Type 0 where
    own : List wire.Call
    after : Seen K
    grown : Grows a c (own ++ Pause (want after ∷ []) ∷ [])
    at : Holds all' after
    blames : Blames (own ++ Pause (want after ∷ []) ∷ []) f h
    silent : Waits steps awaited before world (own ++ Pause (want after ∷ []) ∷ []) after world' (Err halt.Silent)
    going : (x : List wire.Call) (end : Result (Unit {0}) Halt) (last : Seen K) (last' : World) → Waits steps awaited after world' x last last' end → Waits steps awaited before world ((own ++ Pause (want after ∷ []) ∷ []) ++ x) last last' end

  paused : (a b c : Option (List wire.Call)) (f g h : ℕ) (all all' : List (Held K)) (before : Seen K) (half half' : World) (told : Turn) → told ≡ turn.Still → is_awaited awaited before.history ≡ true → f ≤ g → g ≤ h → Holds all before
      → Goes a b (Holds all) (Holds all') (λ before calls after. TookEnough steps f g told before half calls after half') → Adds b c (Pause (wants_now all')) → ((seen : List (Seen K)) → AreAt all' seen → wants_now all' ≡ wants_after seen)
      → Paused a c f h all' before half half'
  paused a b c f g h all all' before half half' told is busy fg gh at goes pause wants =
      let went = goes before at in
      let part = went.leads.2 in
      let turns = subst (λ (m : Option ℕ). TurnsOne steps went.leads.0 before half went.calls went.after half' m) (none_moved part.moved told is part.tells) part.turns in
      let still : is_awaited awaited went.after.history ≡ true = ap (is_awaited awaited) (still_same steps went.leads.0 before went.after went.calls half half' turns went.leads.1) ∙ busy in
      let same : wants_now all' ≡ want went.after ∷ [] = wants (went.after ∷ []) went.at ∙ wanted awaited went.after still in
      let one = Pause (want went.after ∷ []) in
      record {
        own = went.calls;
        after = went.after;
        grown = grows_on a b c went.calls (one ∷ []) went.grown (subst (λ (l : List Want). Adds b c (Pause l)) same pause);
        at = went.at;
        blames = blames_on went.calls (one ∷ []) f g h part.blames (blames_pause (want went.after ∷ []) g h) fg gh;
        silent = Is_silent before half (went.calls ++ one ∷ []) went.after half' (Err halt.Silent) went.leads.0 went.calls busy turns went.leads.1 refl refl;
        going = λ x end last last' r. Is_still before half ((went.calls ++ one ∷ []) ++ x) last last' end went.leads.0 went.calls went.after half' x busy turns went.leads.1 r (append_assoc went.calls (one ∷ []) x);
      }

  pub waiting_still : (a b c d : Option (List wire.Call)) (f g h i : ℕ) (all all' : List (Held K)) (seen : Seen K) (world half half' : World) (told : Turn) (b' : Bool) → told ≡ turn.Still → b' ≡ true → f ≤ g → g ≤ h → h ≤ i
      → ((s : Seen K) → Holds all s → b' ≡ is_awaited awaited s.history)
      → Waiting a b f g all seen world half → Goes b c (Holds all) (Holds all') (λ before calls after. TookEnough steps g h told before half calls after half')
      → Adds c d (Pause (wants_now all')) → ((seen : List (Seen K)) → AreAt all' seen → wants_now all' ≡ wants_after seen) → (last : List (Held K)) → last ≡ all' → Waiting a d f i last seen world half'
  waiting_still a b c d f g h i all all' seen world half half' told b' is busy fg gh hi asks w goes pause wants last same =
      let p = paused b c d g h i all all' w.now half half' told is (sym (asks w.now w.at) ∙ busy) gh hi w.at goes pause wants in
      let own = p.own ++ Pause (want p.after ∷ []) ∷ [] in
      record {
        calls = w.calls ++ own;
        now = p.after;
        grown = grows_on a b d w.calls own w.grown p.grown;
        at = subst (λ (l : List (Held K)). Holds l p.after) (sym same) p.at;
        blames = blames_on w.calls own f g i w.blames p.blames fg (omega (arith, gh, hi));
        goes_on = λ x after final end r. subst (λ (l : List wire.Call). Waits steps awaited seen world l after final end) (sym (append_assoc w.calls own x))
            (w.goes_on (own ++ x) after final end (p.going x end after final r));
      }

  -- a turn in which nothing happened, and a pause behind which there is no patience any more
  pub waiting_silent : (a b c d : Option (List wire.Call)) (f g h i : ℕ) (all all' : List (Held K)) (seen : Seen K) (world half half' : World) (told : Turn) (b' : Bool) → told ≡ turn.Still → b' ≡ true → f ≤ g → g ≤ h → h ≤ i
      → ((s : Seen K) → Holds all s → b' ≡ is_awaited awaited s.history)
      → Waiting a b f g all seen world half → Goes b c (Holds all) (Holds all') (λ before calls after. TookEnough steps g h told before half calls after half')
      → Adds c d (Pause (wants_now all')) → ((seen : List (Seen K)) → AreAt all' seen → wants_now all' ≡ wants_after seen) → (last : List (Held K)) → last ≡ all'
      → Went a d (Holds last) (λ calls after. Waited steps awaited f i (Err halt.Silent) seen world calls after half')
  waiting_silent a b c d f g h i all all' seen world half half' told b' is busy fg gh hi asks w goes pause wants last same =
      let p = paused b c d g h i all all' w.now half half' told is (sym (asks w.now w.at) ∙ busy) gh hi w.at goes pause wants in
      let own = p.own ++ Pause (want p.after ∷ []) ∷ [] in
      record {
        calls = w.calls ++ own;
        after = p.after;
        grown = grows_on a b d w.calls own w.grown p.grown;
        leads = record {
          waits = w.goes_on own p.after half' (Err halt.Silent) p.silent;
          blames = blames_on w.calls own f g i w.blames p.blames fg (omega (arith, gh, hi));
        };
        at = subst (λ (l : List (Held K)). Holds l p.after) (sym same) p.at;
      }

  pub waiting_short : (a b c : Option (List wire.Call)) (f g h : ℕ) (all all' : List (Held K)) (seen : Seen K) (world half half' : World) (b' : Bool) → b' ≡ true → f ≤ g → g ≤ h
      → ((s : Seen K) → Holds all s → b' ≡ is_awaited awaited s.history)
      → Waiting a b f g all seen world half → Goes b c (Holds all) (Holds all') (λ before calls after. TookShort steps g h before half calls after half')
      → Went a c (Holds all') (λ calls after. Waited steps awaited f h (Err halt.NoMemory) seen world calls after half')
  waiting_short a b c f g h all all' seen world half half' b' busy fg gh asks w goes =
      let went = goes w.now w.at in
      let part = went.leads.1 in
      record {
        calls = w.calls ++ went.calls;
        after = went.after;
        grown = grows_on a b c w.calls went.calls w.grown went.grown;
        leads = record {
          waits = w.goes_on went.calls went.after half' (Err halt.NoMemory) (Runs_short w.now half went.calls went.after half' (Err halt.NoMemory) part.moved (sym (asks w.now w.at) ∙ busy) part.turns refl);
          blames = blames_on w.calls went.calls f g h w.blames part.blames fg gh;
        };
        at = went.at;
      }

  -- It is there.
  pub waiting_done : (a b : Option (List wire.Call)) (f g : ℕ) (all : List (Held K)) (seen : Seen K) (world half : World) (b' : Bool) → b' ≡ false
      → ((s : Seen K) → Holds all s → b' ≡ is_awaited awaited s.history)
      → Waiting a b f g all seen world half → Went a b (Holds all) (λ calls after. Waited steps awaited f g (Ok tt) seen world calls after half)
  waiting_done a b f g all seen world half b' there asks w = record {
    calls = w.calls;
    after = w.now;
    grown = w.grown;
    leads = record {
      waits = subst (λ (l : List wire.Call). Waits steps awaited seen world l w.now half (Ok tt)) (append-nil w.calls)
          (w.goes_on [] w.now half (Ok tt) (Is_there w.now half [] w.now half (Ok tt) (sym (asks w.now w.at) ∙ there) refl refl refl refl));
      blames = w.blames;
    };
    at = w.at;
  }
