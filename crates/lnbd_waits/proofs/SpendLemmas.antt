-- What a turn spends of what may still come and go.
use Rattle.std.proofs.Common.{◌≡◌, ◌<◌, ◌≤◌, ◌==◌, ◌||◌, ℕ, Bool, true, false, not, List, [], ◌∷◌, length, take, Option, Some, None, is_some, refl, sym, ◌∙◌, ap, subst, arith, length-take}
use Rattle.std.proofs.lemmas.Bool.{false≢true}
use Rattle.lnbd_callbacks.specs.Calls.{Call}
use Rattle.lnbd_history.specs.Events.{Event, History, Arrived, End, LinkFailed, Wrote}
use Rattle.lnbd_history.specs.Answers.{direction_of, is_living, out_after}
use Rattle.lnbd_history.specs.Laws.{is_closed}
use Rattle.lnbd_machine.specs.Machine.{Machine, machine}
use Rattle.lnbd_machine.specs.Now.{out_now}
use Rattle.lnbd_standing.specs.Standing.{StandsFor, May}
use Rattle.lnbd_standing.proofs.Standing.{goes_on, stands_right}
use Rattle.lnbd_bounds.specs.Budget.{budget, IsSpending}
use Rattle.lnbd_bounds.proofs.Spending.{spends}
use Rattle.lnbd_link.specs.Call as wire
use Rattle.lnbd_link.specs.Call.{ReadTold, Moved, Unready, Ended, ReadFault, WriteTold, Sent, Full, WriteFault}
use Rattle.lnbd_poll.specs.Held.{Held}
use Rattle.lnbd_poll.specs.declared.noticed.Noticed.{Noticed}
use Rattle.lnbd_poll.specs.declared.noticed.Noticed.TheVariants as noticed
use Rattle.lnbd_poll.specs.Seen.{Follows, Seen}
use Rattle.lnbd_poll.specs.Notices.{Arrives, Hears, ReadsIf, ReadsOn, Sends, WritesIf, is_reading, is_waiting}
use Rattle.lnbd_poll.specs.Turns.{Goes_on, Stops, Told, TurnsOne, WritesAll, is_lost, is_moved, is_short, moved_by, together}
use Rattle.lnbd_waits.specs.Waits.{Holds}

-- Where a handle reads or writes it lives.
lives : (living : Bool) (out : List ℕ) → not (direction_of living out == 0) ≡ true → living ≡ true
lives true out h = refl
lives false out h = absurd (false≢true h)

lives_waiting : (living : Bool) (out : List ℕ) → (direction_of living out == 3) ≡ true → living ≡ true
lives_waiting true out h = refl
lives_waiting false out h = absurd (false≢true h)

stirred_is : (notice other : Noticed) → notice ≡ other → is_some (moved_by notice) ≡ is_some (moved_by other)
stirred_is notice other is = ap (λ (n : Noticed). is_some (moved_by n)) is

some_or : (a b : Option ℕ) → is_some (together a b) ≡ (is_some a || is_some b)
some_or None b = refl
some_or (Some n) None = refl
some_or (Some n) (Some m) = refl

module _ {K : Type 0} where
  -- the machine of what has happened, and what may still come and go
  abbrev left : History K → ℕ
  left history = budget (machine history)

  abbrev Standing : History K → Type 0
  Standing history = StandsFor 1024 history (machine history)

  -- From one place to another so much was spent, and some where something happened.
  record Spends (before after : History K) (stirred : Bool) : Type 0 where
    standing : Standing after
    later : left after ≤ left before
    less : stirred ≡ true → left after < left before

  spends_none : (history : History K) (stirred : Bool) → stirred ≡ false → Standing history → Spends history history stirred
  spends_none history stirred is standing = record { standing = standing; later = omega arith; less = λ e. absurd (false≢true (sym is ∙ e)) }

  happened : (before after : History K) (event : Event K) (stirred : Bool) → Standing before → May 1024 (machine before) event → is_closed (event ∷ before) ≡ false → IsSpending (machine before) event → after ≡ event ∷ before → Spends before after stirred
  happened before after event stirred standing may going spending is =
      let on = goes_on 1024 before (machine before) event standing may in
      let less : budget (machine (event ∷ before)) < left before = subst (λ (m : Machine K). budget m < left before) on.same (spends 1024 before (machine before) event standing may spending) in
      subst (λ (h : History K). Spends before h stirred) (sym is) (record { standing = subst (λ (m : Machine K). StandsFor 1024 (event ∷ before) m) on.same (on.stands going); later = omega (arith, less); less = λ e. less })

  reads_living : (history : History K) → Standing history → is_reading history ≡ true → is_living (machine history).known.stage ≡ true
  reads_living history standing h =
      let same = (stands_right 1024 history (machine history) standing).direction in
      lives (is_living (machine history).known.stage) (out_now (machine history).known) (ap (λ (d : ℕ). not (d == 0)) same ∙ h)

  waits_living : (history : History K) → Standing history → is_waiting history ≡ true → is_living (machine history).known.stage ≡ true
  waits_living history standing h =
      let same = (stands_right 1024 history (machine history) standing).direction in
      lives_waiting (is_living (machine history).known.stage) (out_now (machine history).known) (ap (λ (d : ℕ). d == 3) same ∙ h)

  sent_within : (history : History K) (bytes : List ℕ) → Standing history → bytes ≡ take (length bytes) (out_after history) → length bytes ≤ length (out_now (machine history).known)
  sent_within history bytes standing is =
      let same = (stands_right 1024 history (machine history) standing).out in
      let size = ap (λ (l : List ℕ). length l) is in
      subst (λ (o : List ℕ). length bytes ≤ length o) (sym same) (omega (arith, size, length-take (length bytes) (out_after history)))

  -- What the one handle has left, before and after a turn.
  abbrev pub budget_of : List (Held K) → ℕ
  budget_of [] = 0
  budget_of (held ∷ others) = budget held.handle

  stands_at : (all : List (Held K)) (seen : Seen K) → Holds all seen → Standing seen.history × (budget_of all ≡ left seen.history)
  stands_at [] seen at = absurd at
  stands_at (held ∷ others) seen at = (subst (λ (m : Machine K). StandsFor 1024 seen.history m) at.0.stands.same at.0.stands, ap budget at.0.stands.same)

module _ {K World : Type 0} (steps : World → List (Call K) → World → Type 0) where
  -- One write and one read.

  write_spends : (b : Bool) (link : ℕ) (notice : Noticed) (before middle after : History K) (calls : List wire.Call) (world world' : World) → Standing before → is_waiting before ≡ b → WritesIf b link notice before calls middle → Told steps (is_lost notice) middle world after world'
      → Spends before after (is_some (moved_by notice))
  write_spends false link notice before middle after calls world world' standing waiting w t =
      let same = t_same notice w.0 w.2 in
      subst (λ (h : History K). Spends before h (is_some (moved_by notice))) (sym same) (spends_none before (is_some (moved_by notice)) (stirred_is notice noticed.Idle w.0) standing)
    where
      t_same : (n : Noticed) → notice ≡ noticed.Idle → middle ≡ before → after ≡ before
      t_same n is kept = (subst (λ (b : Bool). Told steps b middle world after world') (ap is_lost is) t).0 ∙ kept
  write_spends true link notice before middle after calls world world' standing waiting w t = go w.0 w.2
    where
      go : (told : WriteTold) → Sends told notice before middle → Spends before after (is_some (moved_by notice))
      go (Sent bytes) s =
          let same = (subst (λ (b : Bool). Told steps b middle world after world') (ap is_lost s.0) t).0 in
          happened before after (Wrote (length bytes)) (is_some (moved_by notice)) standing (sent_within before bytes standing s.2) refl s.1 (same ∙ s.3)
      go Full s =
          let same = (subst (λ (b : Bool). Told steps b middle world after world') (ap is_lost s.0) t).0 in
          subst (λ (h : History K). Spends before h (is_some (moved_by notice))) (sym (same ∙ s.1)) (spends_none before (is_some (moved_by notice)) (stirred_is notice noticed.NotReady s.0) standing)
      go WriteFault s =
          let lost = subst (λ (b : Bool). Told steps b middle world after world') (ap is_lost s.0) t in
          happened before after (LinkFailed lost.0) (is_some (moved_by notice)) standing tt refl (waits_living before standing waiting) (lost.1 ∙ ap (λ (h : History K). LinkFailed lost.0 ∷ h) s.1)

  writes_spend : (link : ℕ) (before : History K) (world : World) (calls : List wire.Call) (after : History K) (world' : World) (moved : Option ℕ) → WritesAll steps link before world calls after world' moved → Standing before → Spends before after (is_some moved)
  writes_spend link before world calls after world' moved (Stops _ _ _ _ _ _ notice w stop is) standing =
      subst (λ (m : Option ℕ). Spends before after (is_some m)) (sym is) (write_spends (is_waiting before) link notice before w.middle after calls world world' standing refl w.writes w.told)
  writes_spend link before world calls after world' moved (Goes_on _ _ _ _ _ _ notice own middle half other rest w some more calls_are is) standing =
      let one = write_spends (is_waiting before) link notice before w.middle middle own world half standing refl w.writes w.told in
      let two = writes_spend link middle half other after world' rest more one.standing in
      record { standing = two.standing; later = omega (arith, one.later, two.later); less = λ e. omega (arith, one.less (moved_some notice some), two.later) }
    where
      moved_some : (n : Noticed) → is_moved n ≡ true → is_some (moved_by n) ≡ true
      moved_some (noticed.Moved n) e = refl
      moved_some noticed.NotReady e = absurd (false≢true e)
      moved_some noticed.Idle e = absurd (false≢true e)
      moved_some noticed.Ended e = absurd (false≢true e)
      moved_some noticed.LinkFailed e = absurd (false≢true e)
      moved_some noticed.NoMemory e = absurd (false≢true e)

  followed : (before after : Seen K) (event : Event K) (unread : List ℕ) (world world' : World) → Follows steps event unread before after world world' → after.history ≡ event ∷ before.history
  followed before after event unread world world' f = ap (λ (s : Seen K). s.history) f.is

  arrives_spends : (bytes : List ℕ) (notice : Noticed) (before after : Seen K) (world world' : World) → Standing before.history → is_reading before.history ≡ true → 0 < length bytes → is_short notice ≡ false → Arrives steps bytes notice before after world world'
      → Spends before.history after.history (is_some (moved_by notice))
  arrives_spends bytes (noticed.Moved n) before after world world' standing reading some enough a =
      happened before.history after.history (Arrived bytes a.1.0) true standing (reads_living before.history standing reading) refl some (followed before after (Arrived bytes a.1.0) [] world world' a.1.1)
  arrives_spends bytes noticed.NoMemory before after world world' standing reading some enough a = absurd (false≢true (sym enough))
  arrives_spends bytes noticed.NotReady before after world world' standing reading some enough a = absurd a
  arrives_spends bytes noticed.Idle before after world world' standing reading some enough a = absurd a
  arrives_spends bytes noticed.Ended before after world world' standing reading some enough a = absurd a
  arrives_spends bytes noticed.LinkFailed before after world world' standing reading some enough a = absurd a

  read_spends : (b : Bool) (notice : Noticed) (before after : Seen K) (calls : List wire.Call) (world world' : World) → Standing before.history → is_reading before.history ≡ b → is_short notice ≡ false → ReadsIf steps b notice before world calls after world'
      → Spends before.history after.history (is_some (moved_by notice))
  read_spends false notice before after calls world world' standing reading enough r =
      subst (λ (s : Seen K). Spends before.history s.history (is_some (moved_by notice))) (sym r.2.0) (spends_none before.history (is_some (moved_by notice)) (stirred_is notice noticed.Idle r.0) standing)
  read_spends true notice before after calls world world' standing reading enough r = on before.unread r
    where
      hears : (told : ReadTold) → Hears steps told notice before after world world' → Spends before.history after.history (is_some (moved_by notice))
      hears (Moved bytes) h = arrives_spends bytes notice before after world world' standing reading h.0 enough h.1
      hears Unready h = subst (λ (s : Seen K). Spends before.history s.history (is_some (moved_by notice))) (sym h.1.0) (spends_none before.history (is_some (moved_by notice)) (stirred_is notice noticed.NotReady h.0) standing)
      hears Ended h = happened before.history after.history (End h.1.0) (is_some (moved_by notice)) standing tt refl (reads_living before.history standing reading) (followed before after (End h.1.0) [] world world' h.1.1)
      hears ReadFault h = happened before.history after.history (LinkFailed h.1.0) (is_some (moved_by notice)) standing tt refl (reads_living before.history standing reading) (followed before after (LinkFailed h.1.0) [] world world' h.1.1)

      on : (unread : List ℕ) → ReadsOn steps unread notice before world calls after world' → Spends before.history after.history (is_some (moved_by notice))
      on [] r = hears r.0 r.2
      on (byte ∷ bytes) r = arrives_spends (byte ∷ bytes) notice before after world world' standing reading (omega arith) enough r.1

  turn_spends : (notice : Noticed) (before after : Seen K) (calls : List wire.Call) (world world' : World) (moved : Option ℕ) → is_short notice ≡ false → TurnsOne steps notice before world calls after world' moved → Standing before.history → Spends before.history after.history (is_some moved)
  turn_spends notice before after calls world world' moved enough t standing =
      let one = writes_spend before.link before.history world t.written t.middle t.half t.sent t.writes standing in
      let middle : Seen K = record { link = before.link; history = t.middle; unread = before.unread } in
      let two = read_spends (is_reading t.middle) notice middle after t.read t.half world' one.standing refl enough t.reads in
      record { standing = two.standing; later = omega (arith, one.later, two.later); less = λ e. either (is_some t.sent) (is_some (moved_by notice)) one two (sym (ap (λ (m : Option ℕ). is_some m) t.moved_is ∙ some_or t.sent (moved_by notice)) ∙ e) }
    where
      either : (a b : Bool) → Spends before.history t.middle a → Spends t.middle after.history b → (a || b) ≡ true → left after.history < left before.history
      either true b one two h = omega (arith, one.less refl, two.later)
      either false b one two h = omega (arith, one.later, two.less h)

  pub handle_spends : (notice : Noticed) (all all' : List (Held K)) (before after : Seen K) (calls : List wire.Call) (world world' : World) (moved : Option ℕ) → is_short notice ≡ false → Holds all before → Holds all' after → TurnsOne steps notice before world calls after world' moved
      → (budget_of all' ≤ budget_of all) × (is_some moved ≡ true → budget_of all' < budget_of all)
  handle_spends notice all all' before after calls world world' moved enough at at' t =
      let s = stands_at all before at in
      let s' = stands_at all' after at' in
      let spent = turn_spends notice before after calls world world' moved enough t s.0 in
      (omega (arith, s.1, s'.1, spent.later), λ e. omega (arith, s.1, s'.1, spent.less e))
