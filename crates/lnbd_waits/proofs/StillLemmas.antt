-- A turn in which nothing happened leaves the handle as it was, and a pause then waits for its link.
use Rattle.std.proofs.Common.{◌≡◌, ◌==◌, ◌||◌, not, ℕ, Bool, true, false, List, [], ◌∷◌, length, Option, Some, None, is_some, refl, sym, ◌∙◌, ap, subst, if◌then◌else◌}
use Rattle.std.proofs.lemmas.Bool.{false≢true}
use Rattle.lnbd_model.specs.declared.state.State.{State}
use Rattle.lnbd_model.specs.declared.state.State.TheVariants as state
use Rattle.lnbd_callbacks.specs.Calls.{Call}
use Rattle.lnbd_history.specs.Answers.{direction_after, in_flight_after, state_after}
use Rattle.lnbd_history.specs.Events.{History}
use Rattle.lnbd_link.specs.Call as wire
use Rattle.lnbd_link.specs.Call.{ReadTold, Moved, Unready, Ended, ReadFault, WriteTold, Sent, Full, WriteFault}
use Rattle.lnbd_poll.specs.declared.noticed.Noticed.{Noticed}
use Rattle.lnbd_poll.specs.declared.noticed.Noticed.TheVariants as noticed
use Rattle.lnbd_poll.specs.Held.{is_on_its_way, is_wanting, with_want, wants_after}
use Rattle.lnbd_poll.specs.Seen.{Seen}
use Rattle.lnbd_poll.specs.Notices.{Arrives, Hears, ReadsIf, ReadsOn, Sends, WritesIf, is_reading, is_waiting}
use Rattle.lnbd_poll.specs.Turns.{Goes_on, Stops, Told, TurnsOne, WritesAll, is_lost, is_moved, is_short, moved_by, together}
use Rattle.lnbd_waits.specs.declared.waiting.Awaited.{Awaited}
use Rattle.lnbd_waits.specs.declared.waiting.Awaited.TheVariants as awaited
use Rattle.lnbd_waits.specs.Waits.{is_awaited, is_to_come, want}

pub some_none : {A : Type 0} (n : ℕ) → Some n ≡ None → A
some_none n is = absurd (false≢true (sym (ap is_some is)))

pub both_none : (a b : Option ℕ) → None ≡ together a b → (a ≡ None) × (b ≡ None)
both_none None b is = (refl, sym is)
both_none (Some n) None is = some_none n (sym is)
both_none (Some n) (Some m) is = some_none _ (sym is)

-- something was noticed
pub noticed_some : {A : Type 0} (notice other : Noticed) (n : ℕ) → notice ≡ other → moved_by other ≡ Some n → moved_by notice ≡ None → A
noticed_some notice other n is some none = some_none n (sym some ∙ (sym (ap moved_by is) ∙ none))

pub moved_some : {A : Type 0} (notice : Noticed) (rest : Option ℕ) → is_moved notice ≡ true → together (moved_by notice) rest ≡ None → A
moved_some (noticed.Moved n) None some is = some_none n is
moved_some (noticed.Moved n) (Some m) some is = some_none _ is
moved_some noticed.NotReady rest some is = absurd (false≢true some)
moved_some noticed.Idle rest some is = absurd (false≢true some)
moved_some noticed.Ended rest some is = absurd (false≢true some)
moved_some noticed.LinkFailed rest some is = absurd (false≢true some)
moved_some noticed.NoMemory rest some is = absurd (false≢true some)

module _ {K World : Type 0} (steps : World → List (Call K) → World → Type 0) where
  pub untold : (notice other : Noticed) (middle after : History K) (world world' : World) → notice ≡ other → is_lost other ≡ false → Told steps (is_lost notice) middle world after world' → after ≡ middle
  untold notice other middle after world world' is none told = (subst (λ (b : Bool). Told steps b middle world after world') (ap is_lost is ∙ none) told).0

  write_still : (b : Bool) (link : ℕ) (notice : Noticed) (before middle after : History K) (calls : List wire.Call) (world world' : World) → WritesIf b link notice before calls middle → Told steps (is_lost notice) middle world after world' → moved_by notice ≡ None → after ≡ before
  write_still false link notice before middle after calls world world' w t none = untold notice noticed.Idle middle after world world' w.0 refl t ∙ w.2
  write_still true link notice before middle after calls world world' w t none = go w.0 w.2
    where
      go : (told : WriteTold) → Sends told notice before middle → after ≡ before
      go (Sent bytes) s = noticed_some notice (noticed.Moved (length bytes)) (length bytes) s.0 refl none
      go Full s = untold notice noticed.NotReady middle after world world' s.0 refl t ∙ s.1
      go WriteFault s = noticed_some notice noticed.LinkFailed 0 s.0 refl none

  writes_still : (link : ℕ) (before : History K) (world : World) (calls : List wire.Call) (after : History K) (world' : World) (moved : Option ℕ) → WritesAll steps link before world calls after world' moved → moved ≡ None → after ≡ before
  writes_still link before world calls after world' moved (Stops _ _ _ _ _ _ notice w stop is) none = write_still (is_waiting before) link notice before w.middle after calls world world' w.writes w.told (sym is ∙ none)
  writes_still link before world calls after world' moved (Goes_on _ _ _ _ _ _ notice own middle half other rest w some more calls_are is) none = moved_some notice rest some (sym is ∙ none)

  pub arrives_some : {A : Type 0} (bytes : List ℕ) (notice : Noticed) (before after : Seen K) (world world' : World) → Arrives steps bytes notice before after world world' → moved_by notice ≡ None → is_short notice ≡ false → A
  arrives_some bytes (noticed.Moved n) before after world world' a none enough = some_none n none
  arrives_some bytes noticed.NoMemory before after world world' a none enough = absurd (false≢true (sym enough))
  arrives_some bytes noticed.NotReady before after world world' a none enough = absurd a
  arrives_some bytes noticed.Idle before after world world' a none enough = absurd a
  arrives_some bytes noticed.Ended before after world world' a none enough = absurd a
  arrives_some bytes noticed.LinkFailed before after world world' a none enough = absurd a

  pub read_still : (b : Bool) (notice : Noticed) (before after : Seen K) (calls : List wire.Call) (world world' : World) → ReadsIf steps b notice before world calls after world' → moved_by notice ≡ None → is_short notice ≡ false → after ≡ before
  read_still false notice before after calls world world' r none enough = r.2.0
  read_still true notice before after calls world world' r none enough = on before.unread r
    where
      hears : (told : ReadTold) → Hears steps told notice before after world world' → after ≡ before
      hears (Moved bytes) h = arrives_some bytes notice before after world world' h.1 none enough
      hears Unready h = h.1.0
      hears Ended h = noticed_some notice noticed.Ended 0 h.0 refl none
      hears ReadFault h = noticed_some notice noticed.LinkFailed 0 h.0 refl none

      on : (unread : List ℕ) → ReadsOn steps unread notice before world calls after world' → after ≡ before
      on [] r = hears r.0 r.2
      on (byte ∷ bytes) r = arrives_some (byte ∷ bytes) notice before after world world' r.1 none enough

  pub still_same : (notice : Noticed) (before after : Seen K) (calls : List wire.Call) (world world' : World) → TurnsOne steps notice before world calls after world' None → is_short notice ≡ false → after.history ≡ before.history
  still_same notice before after calls world world' t enough =
      let quiet = both_none t.sent (moved_by notice) t.moved_is in
      let middle : Seen K = record { link = before.link; history = t.middle; unread = before.unread } in
      let read = read_still (is_reading t.middle) notice middle after t.read t.half world' t.reads quiet.1 enough in
      ap (λ (s : Seen K). s.history) read ∙ writes_still before.link before.history world t.written t.middle t.half t.sent t.writes quiet.0

-- What is awaited is waited for.

first_or : (a b : Bool) → a ≡ true → (a || b) ≡ true
first_or true b is = refl
first_or false b is = absurd (false≢true is)

later_or : (a b : Bool) → b ≡ true → (a || b) ≡ true
later_or true b is = refl
later_or false b is = is

wanting : (which : Awaited) (at : State) (n d : ℕ) → is_to_come which at n d ≡ true → is_wanting at n d ≡ true
wanting awaited.Written at n d is = later_or (is_on_its_way at) (not (n == 0) || (d == 3)) (later_or (not (n == 0)) (d == 3) is)
wanting awaited.Answers state.Negotiating n d is = refl
wanting awaited.Answers state.Closing n d is = refl
wanting awaited.Answers state.Created n d is = first_or (not (n == 0)) (d == 3) is
wanting awaited.Answers state.OptMode n d is = first_or (not (n == 0)) (d == 3) is
wanting awaited.Answers state.Ready n d is = first_or (not (n == 0)) (d == 3) is
wanting awaited.Answers state.Closed n d is = first_or (not (n == 0)) (d == 3) is
wanting awaited.Answers (state.Dead why) n d is = first_or (not (n == 0)) (d == 3) is
wanting awaited.End state.Closing n d is = refl
wanting awaited.End state.Created n d is = absurd (false≢true is)
wanting awaited.End state.Negotiating n d is = absurd (false≢true is)
wanting awaited.End state.OptMode n d is = absurd (false≢true is)
wanting awaited.End state.Ready n d is = absurd (false≢true is)
wanting awaited.End state.Closed n d is = absurd (false≢true is)
wanting awaited.End (state.Dead why) n d is = absurd (false≢true is)

pub wanted : {K : Type 0} (which : Awaited) (seen : Seen K) → is_awaited which seen.history ≡ true → wants_after (seen ∷ []) ≡ want seen ∷ []
wanted which seen is = ap (λ (b : Bool). with_want (if b then Some (want seen) else None) []) (wanting which (state_after seen.history) (in_flight_after seen.history) (direction_after seen.history) is)
