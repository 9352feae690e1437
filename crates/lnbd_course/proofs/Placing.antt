-- What stands of a copy from one place to another is kept by each step of it.
use Rattle.std.proofs.Common.{◌≡◌, ◌⊎◌, inl, inr, ℕ, ◌+◌, ◌≤◌, Bool, true, false, List, [], ◌∷◌, ◌++◌, Option, Some, None, slice_get, take, drop, arith, refl, ap, sym, subst, ◌∙◌}
use Rattle.std.proofs.lemmas.Bool.{cases_eq, false≢true}
use Rattle.lnbd_model.specs.declared.target.Place.{Place}
use Rattle.lnbd_link.specs.Call as wire
use Rattle.lnbd_link.specs.Numbers.{is_given}
use Rattle.lnbd_link.specs.Traffic.{target_of}
use Rattle.lnbd_machine.specs.Machine.{Machine}
use Rattle.lnbd_standing.specs.Standing.{StandsFor}
use Rattle.lnbd_history.specs.Events.{Event, History, Issue}
use Rattle.lnbd_asked.specs.Exports.{DrivenIsOf, HasToldSize, size_known}
use Rattle.lnbd_asked.specs.Transcript.{on_link}
use Rattle.lnbd_poll.specs.Alone.{AreApart}
use Rattle.lnbd_poll.specs.Seen.{Seen}
use Rattle.lnbd_poll.specs.Turns.{Turns, Whole}
use Rattle.lnbd_drives.specs.Driving.{with_event}
use Rattle.lnbd_drives.proofs.Exports.{handles_are_of, turns_give_none}
use Rattle.lnbd_drives.proofs.Passing.{said_stays}
use Rattle.lnbd_drives.proofs.Turning.{turns_pass_others}
use Rattle.lnbd_plan.specs.declared.grid.Slice.{Slice}
use Rattle.lnbd_board.specs.declared.how.How.{How}
use Rattle.lnbd_board.specs.declared.ticket.Ticket.{Ticket}
use Rattle.lnbd_board.specs.Files as board
use Rattle.lnbd_tracks.specs.Tracks.{Histories}
use Rattle.lnbd_course.specs.Between.{Between, BetweenOf, ArePlaced, SideWasTold, AreSettled}
use Rattle.lnbd_course.specs.Betweens.{NothingIsBetween, SettlingKeepsBetween, AgreeingSettles, TurnsKeepBetween, CallsKeepBetween, SourceAsksKeepBetween, DestinationAsksKeepBetween, BoardMovesKeepBetween, OthersKeepBetween, TakingKeepsBetween}
use Rattle.lnbd_course.specs.Course.{Course, CourseOf, Stood}
use Rattle.lnbd_course.proofs.Address.{target_stays, given_stays}
use Rattle.lnbd_course.proofs.Asking.{then, goes_on, source_asks_keep, destination_asks_keep, others_keep, board_moves_keep, was_apart, not_one}
use Rattle.lnbd_course.proofs.Holding.{no_history, nothing_is_on_course, settling_keeps, turned_keeps, calls_keep, removed_keeps, removed, take_drop, apart_or, one_has}
use Rattle.lnbd_course.proofs.Later.{IsLater, later_same, later_on, told_later}
use Rattle.lnbd_course.proofs.Standing.{event_stood, quiet_stood, with_others}
use Rattle.lnbd_course.proofs.Turning.{Turned, steps, turns_all}

-- More calls: each link that was given is given, and where it was connected to stays.
pub record Goes (calls calls' : List wire.Call) : Type 0 where
  pub given : (n : ℕ) → is_given n calls' ≡ is_given n calls
  pub target : (n : ℕ) → target_of n calls' ≡ target_of n calls

pub goes_same : (calls : List wire.Call) → Goes calls calls
goes_same calls = record { given = λ n. refl; target = λ n. refl }

pub goes_more : (calls more : List wire.Call) → ((n : ℕ) → is_given n more ≡ false) → Goes calls (calls ++ more)
goes_more calls more none = record { given = λ n. given_stays n calls more (none n); target = λ n. target_stays n calls more (none n) }

-- On a link without a handle nothing happened.
pub record Rests (calls calls' : List wire.Call) (before after : Histories) (n : ℕ) : Type 0 where
  pub history : after n ≡ before n
  pub said : on_link n calls' ≡ on_link n calls

rests_same : (calls : List wire.Call) (before after : Histories) (n : ℕ) → after n ≡ before n → Rests calls calls before after n
rests_same calls before after n e = record { history = e; said = refl }

module _ (calls calls' : List wire.Call) (has : ℕ → Bool) (before after : Histories) (goes : Goes calls calls') (later : (n : ℕ) → IsLater (before n) (after n)) where
  pub placed_later : (from to : Place) → ArePlaced from to calls has before → ArePlaced from to calls' has after
  placed_later from to p = record {
    address = λ n g. goes.target n ∙ p.address n (sym (goes.given n) ∙ g);
    name = λ n g. (later n).name ∙ p.name n (sym (goes.given n) ∙ g);
  }

  pub side_later : (source : Bool) (size : ℕ) → SideWasTold source size calls has before → SideWasTold source size calls' has after
  side_later source size s = record { link = s.link; given = goes.given s.link ∙ s.given; side = s.side; told = told_later (before s.link) (after s.link) size (later s.link) s.told }

  pub settled_later : (size : Option ℕ) → AreSettled size calls has before → AreSettled size calls' has after
  settled_later None t = tt
  settled_later (Some size) t = record { room = t.room; source = side_later true size t.source; destination = side_later false t.room t.destination; fits = t.fits }

pub of_rests : (calls calls' : List wire.Call) (before after : Histories) (n : ℕ) → Rests calls calls' before after n → DrivenIsOf (before n) (on_link n calls) → DrivenIsOf (after n) (on_link n calls')
of_rests calls calls' before after n r d = subst (λ h. DrivenIsOf h (on_link n calls')) (sym r.history) (subst (DrivenIsOf (before n)) (sym r.said) d)

-- A step keeps it that keeps the course, and what was told of sizes.
module _ (from to : Place) (has : ℕ → Bool) (Sizes : List wire.Call → Histories → Type 0) where
  unfoldable pub step_on : (Facts Facts' : board.Seen → Histories → Type 0) (now now' : board.Seen) (calls calls' : List wire.Call) (seens seens' : List (Seen Ticket)) →
      (b : BetweenOf Facts Sizes from to has now calls seens) → (c : CourseOf Facts' now' calls' seens') →
      Goes calls calls' → ((n : ℕ) → IsLater (b.course.histories n) (c.histories n)) → ((n : ℕ) → AreApart n seens' → AreApart n seens × Rests calls calls' b.course.histories c.histories n) →
      Sizes calls' c.histories → BetweenOf Facts' Sizes from to has now' calls' seens'
  step_on Facts Facts' now now' calls calls' seens seens' b c goes later rests told = record {
    course = c;
    placed = placed_later calls calls' has b.course.histories c.histories goes later from to b.placed;
    parted = λ n apart. let r = rests n apart in of_rests calls calls' b.course.histories c.histories n r.1 (b.parted n r.0);
    told = told;
  }

-- So it is of two exports.
module _ (from to : Place) (size : Option ℕ) (has : ℕ → Bool) where
  unfoldable pub step_keeps : (how how' : How) (slices slices' : List Slice) (now now' : board.Seen) (calls calls' : List wire.Call) (seens seens' : List (Seen Ticket)) →
      (b : Between from to size how has slices now calls seens) → (c : Course how' has slices' now' calls' seens') →
      Goes calls calls' → ((n : ℕ) → IsLater (b.course.histories n) (c.histories n)) → ((n : ℕ) → AreApart n seens' → AreApart n seens × Rests calls calls' b.course.histories c.histories n) →
      Between from to size how' has slices' now' calls' seens'
  step_keeps how how' slices slices' now now' calls calls' seens seens' b c goes later rests =
      step_on from to has (λ calls histories. AreSettled size calls has histories) (Stood how has slices) (Stood how' has slices') now now' calls calls' seens seens' b c goes later rests
      (settled_later calls calls' has b.course.histories c.histories goes later size b.told)

-- Turns and calls.

pub turn_rests : (now now' : board.Seen) (calls part : List wire.Call) (before after : List (Seen Ticket)) (moved : Option ℕ) (old : Histories) → Turns steps before now part after now' (Whole moved) →
    (S : board.Seen → Histories → Type 0) (t : Turned S before after now' old) →
    (n : ℕ) → AreApart n after → AreApart n before × Rests calls (calls ++ part) old t.histories n
turn_rests now now' calls part before after moved old turns S t n apart =
    let was = t.was_apart n apart in
    (was, record { history = t.others n was; said = said_stays n calls part (turns_pass_others steps n part before after now now' (Whole moved) was turns) })

-- after a turn that keeps something in which the course stands
unfoldable pub turned_between : (from to : Place) (size : Option ℕ) (how : How) (has : ℕ → Bool) (slices : List Slice) (now now' : board.Seen) (calls part : List wire.Call) (before after : List (Seen Ticket)) (moved : Option ℕ) (b : Between from to size how has slices now calls before) →
    Turns steps before now part after now' (Whole moved) → (S : board.Seen → Histories → Type 0) → Turned S before after now' b.course.histories → ((histories : Histories) → S now' histories → Stood how has slices now' histories) →
    Between from to size how has slices now' (calls ++ part) after
unfolding step_keeps step_on turned_keeps
turned_between from to size how has slices now now' calls part before after moved b turns S t stood =
    step_keeps from to size has how how slices slices now now' calls (calls ++ part) before after b (turned_keeps how has slices now now' calls part before after moved b.course turns S t stood)
    (goes_more calls part (λ n. turns_give_none steps n part before after now now' (Whole moved) turns))
    t.later
    (turn_rests now now' calls part before after moved b.course.histories turns S t)

pub turns_keep_between : TurnsKeepBetween
turns_keep_between from to size how has slices now now' calls part before after moved b turns =
    turned_between from to size how has slices now now' calls part before after moved b turns (Stood how has slices)
    (turns_all (Stood how has slices) (event_stood how has slices) (quiet_stood how has slices) before now part after now' (Whole moved) b.course.histories turns b.course.drive.own b.course.held b.course.stood) (λ histories s. s)

pub calls_keep_between : CallsKeepBetween
unfolding calls_keep
calls_keep_between from to size how has slices now calls more seens b quiet none =
    step_keeps from to size has how how slices slices now now calls (calls ++ more) seens seens b (calls_keep how has slices now calls more seens b.course quiet)
    (goes_more calls more none)
    (λ n. later_same (b.course.histories n) (b.course.histories n) refl)
    (λ n apart. (apart, record { history = refl; said = said_stays n calls more (quiet n) }))

-- What a caller does, and the board.

module _ (calls : List wire.Call) (seens : List (Seen Ticket)) (index : ℕ) (seen : Seen Ticket) (there : slice_get seens index ≡ Some seen) (event : Event Ticket) (histories : Histories) where
  pub event_rests : (n : ℕ) → AreApart n (with_event index event seens) → AreApart n seens × Rests calls calls histories (then event histories seen.link) n
  event_rests n apart =
      let was = was_apart n index event seens apart in
      (was, rests_same calls histories (then event histories seen.link) n (with_others seen.link (event ∷ histories seen.link) histories n (not_one n index seen seens there was)))

pub source_asks_keep_between : SourceAsksKeepBetween
unfolding source_asks_keep goes_on
source_asks_keep_between from to size how has slices slices' now now' calls seens index seen command b there is spells asks =
    step_keeps from to size has how how slices slices' now now' calls calls seens (with_event index (Issue command) seens) b
    (source_asks_keep how has slices slices' now now' calls seens index seen command b.course there is spells asks)
    (goes_same calls) (later_on seen.link (Issue command) b.course.histories refl) (event_rests calls seens index seen there (Issue command) b.course.histories)

pub destination_asks_keep_between : DestinationAsksKeepBetween
unfolding destination_asks_keep goes_on
destination_asks_keep_between from to size how has slices slices' now now' calls seens index seen command b there is spells asks =
    step_keeps from to size has how how slices slices' now now' calls calls seens (with_event index (Issue command) seens) b
    (destination_asks_keep how has slices slices' now now' calls seens index seen command b.course there is spells asks)
    (goes_same calls) (later_on seen.link (Issue command) b.course.histories refl) (event_rests calls seens index seen there (Issue command) b.course.histories)

pub others_keep_between : OthersKeepBetween
unfolding others_keep goes_on
others_keep_between from to size how has slices now calls seens index seen event b there s unnamed =
    step_keeps from to size has how how slices slices now now calls calls seens (with_event index event seens) b
    (others_keep how has slices now calls seens index seen event b.course there s.inward s.unasked s.still s.spelled s.mode)
    (goes_same calls) (later_on seen.link event b.course.histories unnamed) (event_rests calls seens index seen there event b.course.histories)

pub board_moves_keep_between : BoardMovesKeepBetween
unfolding board_moves_keep
board_moves_keep_between from to size how has slices now now' calls seens b earlier same keeps =
    step_keeps from to size has how how slices slices now now' calls calls seens seens b (board_moves_keep how has slices now now' calls seens b.course earlier same keeps)
    (goes_same calls) (λ n. later_same (b.course.histories n) (b.course.histories n) refl) (λ n apart. (apart, rests_same calls b.course.histories b.course.histories n refl))

-- The beginning.

none_some : {A : Type 0} (x : A) → None ≡ Some x → ⊥
none_some x e = cc

none_left : (since earlier : History Ticket) → (let none : History Ticket = [] in none) ≡ since ++ earlier → earlier ≡ []
none_left [] earlier e = sym e
none_left (one ∷ since) earlier e = absurd (cc)

pub nothing_placed : (from to : Place) (has : ℕ → Bool) (histories : Histories) → ArePlaced from to [] has histories
nothing_placed from to has histories = record { address = λ n g. absurd (false≢true g); name = λ n g. absurd (false≢true g) }

pub nothing_is_of : (n : ℕ) → DrivenIsOf {K = Ticket} [] (on_link n [])
nothing_is_of n = record {
  name = λ name e. absurd (none_some name e);
  size = λ size e. absurd (none_some size e);
  asked = λ l. absurd (let z : 1 ≤ 0 = l in omega (arith, z));
  told = λ size w. absurd (none_some size (ap (λ (h : History Ticket). size_known h) (sym (none_left w.since w.earlier w.is)) ∙ w.knew));
}

pub nothing_is_between : NothingIsBetween
unfolding nothing_is_on_course
nothing_is_between from to how has now none uncounted = record {
  course = nothing_is_on_course how has now none uncounted;
  placed = nothing_placed from to has no_history;
  parted = λ n apart. nothing_is_of n;
  told = tt;
}

pub settling_keeps_between : SettlingKeepsBetween
unfolding settling_keeps
settling_keeps_between from to size how how' has now now' calls seens b none well unflushed none' uncounted =
    step_keeps from to size has how how' [] [] now now' calls calls seens seens b (settling_keeps how how' has now now' calls seens b.course none well unflushed none' uncounted)
    (goes_same calls) (λ n. later_same (b.course.histories n) (b.course.histories n) refl) (λ n apart. (apart, rests_same calls b.course.histories b.course.histories n refl))

-- Sizes.

-- the link of a handle that is held was given
held_given : (Facts : board.Seen → Histories → Type 0) (now : board.Seen) (calls : List wire.Call) (seens : List (Seen Ticket)) (index : ℕ) (seen : Seen Ticket) → CourseOf Facts now calls seens →
    slice_get seens index ≡ Some seen → is_given seen.link calls ≡ true
held_given Facts now calls seens index seen c there = go (is_given seen.link calls) refl
  where
    go : (b : Bool) → is_given seen.link calls ≡ b → is_given seen.link calls ≡ true
    go true e = e
    go false e = absurd (not_one seen.link index seen seens there (c.unused seen.link e).apart refl)

pub side_told : (Facts : board.Seen → Histories → Type 0) (has : ℕ → Bool) (now : board.Seen) (calls : List wire.Call) (seens : List (Seen Ticket)) (index : ℕ) (seen : Seen Ticket) (source : Bool)
    (size : ℕ) → (c : CourseOf Facts now calls seens) →
    slice_get seens index ≡ Some seen → has seen.link ≡ source → HasToldSize seen.history size → SideWasTold source size calls has c.histories
side_told Facts has now calls seens index seen source size c there side told = record {
  link = seen.link;
  given = held_given Facts now calls seens index seen c there;
  side = side;
  told = subst (λ h. HasToldSize h size) (sym (one_has index seen c.histories seens there c.held)) told;
}

pub agreeing_settles : AgreeingSettles
agreeing_settles from to how has slices now calls seens index index' one other size room b there side told there' side' told' fits = record {
  course = b.course;
  placed = b.placed;
  parted = b.parted;
  told = record {
    room = room;
    source = side_told (Stood how has slices) has now calls seens index one true size b.course there side told;
    destination = side_told (Stood how has slices) has now calls seens index' other false room b.course there' side' told';
    fits = fits;
  };
}

-- A handle is taken out.

pub taken_between : (Facts : board.Seen → Histories → Type 0) (Sizes : List wire.Call → Histories → Type 0) (from to : Place) (has : ℕ → Bool) (now : board.Seen) (calls : List wire.Call)
    (seens : List (Seen Ticket)) (index : ℕ) (seen : Seen Ticket) (limit : ℕ) (handle : Machine Ticket) →
    BetweenOf Facts Sizes from to has now calls seens → slice_get seens index ≡ Some seen → StandsFor limit seen.history handle →
    BetweenOf Facts Sizes from to has now calls (take index seens ++ drop (index + 1) seens)
unfolding removed_keeps
taken_between Facts Sizes from to has now calls seens index seen limit handle b there stands =
    subst (BetweenOf Facts Sizes from to has now calls) (take_drop index seens) (record {
      course = removed_keeps Facts now calls seens index seen limit handle b.course there stands;
      placed = b.placed;
      parted = λ n apart. by n apart (cases_eq n seen.link);
      told = b.told;
    })
  where
    taken : DrivenIsOf (b.course.histories seen.link) (on_link seen.link calls)
    taken = subst (λ h. DrivenIsOf h (on_link seen.link calls)) (sym (one_has index seen b.course.histories seens there b.course.held)) (handles_are_of limit calls seens index seen handle b.course.drive there stands)

    by : (n : ℕ) → AreApart n (removed index seens) → (n ≡ seen.link) ⊎ (n ≡ seen.link → ⊥) → DrivenIsOf (b.course.histories n) (on_link n calls)
    by n apart (inl is) = subst (λ (m : ℕ). DrivenIsOf (b.course.histories m) (on_link m calls)) (sym is) taken
    by n apart (inr differ) = b.parted n (apart_or n index seen seens there apart differ)

pub taking_keeps_between : TakingKeepsBetween
taking_keeps_between from to size how has slices now calls seens index seen limit handle b there stands =
    taken_between (Stood how has slices) (λ calls histories. AreSettled size calls has histories) from to has now calls seens index seen limit handle b there stands
