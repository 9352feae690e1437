-- The connections of a copy are asked to end, and are taken out.
use Rattle.std.proofs.Common.{◌≡◌, ℕ, zero, suc, ◌+◌, Bool, true, false, List, [], ◌∷◌, ◌++◌, Option, None, Some, Result, Ok, Err, slice_get, take, drop, refl, ap, sym, subst, ◌∙◌}
use Rattle.std.specs.Option.{option_map}
use Rattle.lnbd_asked.specs.Exports.{is_naming}
use Rattle.lnbd_history.specs.Events.{Disconnect, Event}
use Rattle.lnbd_link.specs.Call as wire
use Rattle.lnbd_link.specs.Part.{Adds}
use Rattle.lnbd_machine.specs.Machine.{Machine}
use Rattle.lnbd_model.specs.declared.refusal.Why.{Why}
use Rattle.lnbd_standing.specs.Standing.{StandsFor}
use Rattle.lnbd_handle.specs.Histories.{AddsOnOk, ForEach, max_unretired}
use Rattle.lnbd_handle.specs.Histories as histories
use Rattle.lnbd_poll.specs.Held.{Held, AreAt}
use Rattle.lnbd_poll.specs.Lends.{with_handle}
use Rattle.lnbd_poll.specs.Seen.{Seen}
use Rattle.lnbd_drives.specs.Driving.{with_event}
use Rattle.lnbd_board.specs.declared.row.Row.{Row}
use Rattle.lnbd_board.specs.declared.ticket.Ticket.{Ticket}
use Rattle.lnbd_board.specs.Files as board
use Rattle.lnbd_board.specs.Rows as rows
use Rattle.lnbd_course.specs.Between.{IsSetting}
use Rattle.lnbd_copy.specs.Driven.{HasEnded}
use Rattle.lnbd_conduct.specs.Driven.{HasParted, may_come}
use Rattle.lnbd_copy.specs.Grounds.{Happens}
use Rattle.lnbd_copy.specs.Leaving.{Leaves, Parts}
use Rattle.lnbd_copy.specs.Way.{Filed, IsLeaving, IsOn, Stands, Way}
use Rattle.lnbd_conduct.specs.Sides.{is_source}
use Rattle.lnbd_copy.proofs.FiledLemmas.{filed_none, filed_then}
use Rattle.lnbd_copy.proofs.FirstLemmas.{adds_none, gives_none, gives_then}
use Rattle.lnbd_copy.proofs.LastLemmas.{lasts_adds, lasts_none, lasts_then}
use Rattle.lnbd_copy.proofs.HeldLemmas.{held_event}
use Rattle.lnbd_copy.proofs.LiveLemmas.{disconnect_lives, live_event, live_without}
use Rattle.lnbd_copy.proofs.BindingLemmas.{bound_event}
use Rattle.lnbd_copy.proofs.BegunLemmas.{event_first}
use Rattle.lnbd_copy.proofs.DrivenLemmas.{drive_event, drive_without}
use Rattle.lnbd_copy.proofs.HeardLemmas.{hears_on, hears_parting}
use Rattle.lnbd_copy.proofs.OrderLemmas.{in_order, ordered_event}
use Rattle.lnbd_copy.proofs.FlushedLemmas.{FlushesNone, second_event, second_left}
use Rattle.lnbd_copy.proofs.QueriedLemmas.{AsksNone, queried_event, queried_left}
use Rattle.lnbd_copy.proofs.SinceLemmas.{leaves_without}
use Rattle.lnbd_copy.proofs.UnendedLemmas.{ended_disconnect, ended_leaving, ended_left}
use Rattle.lnbd_copy.proofs.StepLemmas.{others_stand, taking_stands, unasked_moves_stand}
use Rattle.lnbd_copy.proofs.TurnLemmas.{SameLinks, called, links_stay, none_some, placed_same, some_same, told_on}

-- No handle is asked.

pub parts_none : (now : board.Seen) (held : List (Held Ticket)) → Parts now held held
parts_none now held = record { stand = λ s. s; live = λ l. l; on = λ way calls ended on. on }

-- With what happened on a handle.

-- this one was there, and the same handles stand with the event on it
pub record Happened (index : ℕ) (event : Event Ticket) (seens : List (Seen Ticket)) (new : List (Held Ticket)) : Type 0 where
  pub seen : Seen Ticket
  pub there : slice_get seens index ≡ Some seen
  pub at : AreAt new (with_event index event seens)

module _ (handle handle' : Machine Ticket) where
  abbrev pub IsThere : ℕ → List (Held Ticket) → Type 0
  IsThere index all = option_map (λ held. held.handle) (slice_get all index) ≡ Some handle

  pub happens : (event : Event Ticket) (index : ℕ) (all : List (Held Ticket)) (seens : List (Seen Ticket)) → ForEach handle (histories.Adds event handle') → IsThere index all → AreAt all seens → Happened index event seens (with_handle all index handle')
  happens event index [] seens adds is at = absurd (none_some handle is)
  happens event index (held ∷ others) [] adds is at = absurd at
  happens event zero (held ∷ others) (seen ∷ more) adds is at =
      let stands = adds seen.history (subst (λ (m : Machine Ticket). StandsFor max_unretired seen.history m) (some_same held.handle handle is) at.0.stands) in
      record { seen = seen; there = refl; at = (record { link = at.0.link; stands = stands; unread = at.0.unread }, at.1) }
  happens event (suc index) (held ∷ others) (seen ∷ more) adds is at =
      let rest = happens event index others more adds is at.1 in
      record { seen = rest.seen; there = rest.there; at = (at.0, rest.at) }

  -- nothing happened
  still : (index : ℕ) (all : List (Held Ticket)) (seens : List (Seen Ticket)) → ForEach handle (histories.Stays handle') → IsThere index all → AreAt all seens → AreAt (with_handle all index handle') seens
  still index [] seens stays is at = absurd (none_some handle is)
  still index (held ∷ others) [] stays is at = absurd at
  still zero (held ∷ others) (seen ∷ more) stays is at =
      let stands = stays seen.history (subst (λ (m : Machine Ticket). StandsFor max_unretired seen.history m) (some_same held.handle handle is) at.0.stands) in
      (record { link = at.0.link; stands = stands; unread = at.0.unread }, at.1)
  still (suc index) (held ∷ others) (seen ∷ more) stays is at = (at.0, still index others more stays is at.1)

event_links : (index : ℕ) (event : Event Ticket) (seens : List (Seen Ticket)) → SameLinks seens (with_event index event seens)
event_links index event [] = tt
event_links zero event (seen ∷ others) = (refl, links_stay others)
event_links (suc index) event (seen ∷ others) = (refl, event_links index event others)

-- An event on a handle that asks nothing of it, sets nothing and brings nothing: a copy stays on its way.
pub event_on : (way : Way) (now : board.Seen) (calls : List wire.Call) (held held' : List (Held Ticket)) (index : ℕ) (event : Event Ticket) (on : IsOn way now calls held) (did : Happened index event on.seens held') → IsSetting did.seen.history event → is_naming event ≡ false → may_come event ≡ true →
    AsksNone event → FlushesNone event → HasEnded way.ended false way.extents way.how.skip way.flush way.from way.to calls (with_event index event on.seens) → IsOn way now calls held'
event_on way now calls held held' index event on did sets unnamed may unqueried unflushed ends =
    let after = with_event index event on.seens in
    record {
      has = on.has;
      seens = after;
      at = did.at;
      sided = placed_same false way.sides on.has on.seens after (event_links index event on.seens) on.sided;
      begun = on.begun;
      stands = others_stand way on.has now calls on.seens index did.seen event on.stands did.there sets unnamed;
      rest = on.rest;
      all = held_event calls index event on.seens on.all;
      hears = hears_on false way.extents way.from way.to way.heard now.error now.error (λ well. well) calls on.seens after (event_first index event on.seens) on.hears;
      bound = bound_event way.sides now index event on.seens sets.unasked on.bound;
      drives = drive_event way.extents way.from way.to on.has calls index event on.seens may on.drives;
      ends = ends;
      order = ordered_event (is_source way.sides) on.has calls false index event on.seens on.order;
      queried = queried_event way.queries index event on.seens unqueried on.queried;
      flushes = second_event calls index event on.seens unflushed on.flushes;
    }

-- A handle that asks for the end changes nothing else.
parts : (now : board.Seen) (index : ℕ) (held : List (Held Ticket)) (handle handle' : Machine Ticket) → ForEach handle (histories.Adds Disconnect handle') → option_map (λ held. held.handle) (slice_get held index) ≡ Some handle
    → Parts now held (with_handle held index handle')
parts now index held handle handle' adds is = record {
  stand = λ s. record { seens = with_event index Disconnect s.seens; at = (happens handle handle' Disconnect index held s.seens adds is s.at).at };
  live = λ l. record { seens = with_event index Disconnect l.seens; at = (happens handle handle' Disconnect index held l.seens adds is l.at).at; alive = live_event Disconnect disconnect_lives index l.seens l.alive };
  on = λ way calls ended on.
      event_on way now calls held (with_handle held index handle') index Disconnect on (happens handle handle' Disconnect index held on.seens adds is on.at)
      (record { inward = refl; unasked = refl; still = refl; spelled = tt; mode = refl }) refl refl (λ before. refl) (λ before none. none)
      (ended_disconnect way.extents way.how.skip way.flush way.from way.to calls way.ended index on.seens ended on.ends);
}

stays : (now : board.Seen) (index : ℕ) (held : List (Held Ticket)) (handle handle' : Machine Ticket) → ForEach handle (histories.Stays handle') → option_map (λ held. held.handle) (slice_get held index) ≡ Some handle
    → Parts now held (with_handle held index handle')
stays now index held handle handle' same is = record {
  stand = λ s. record { seens = s.seens; at = still handle handle' index held s.seens same is s.at };
  live = λ l. record { seens = l.seens; at = still handle handle' index held l.seens same is l.at; alive = l.alive };
  on = λ way calls ended on. record {
    has = on.has;
    seens = on.seens;
    at = still handle handle' index held on.seens same is on.at;
    sided = on.sided;
    begun = on.begun;
    stands = on.stands;
    rest = on.rest;
    all = on.all;
    hears = on.hears;
    bound = on.bound;
    drives = on.drives;
    ends = on.ends;
    order = on.order;
    queried = on.queried;
    flushes = on.flushes;
  };
}

-- A handle was asked for the end, whether that was taken or not.
pub parts_or_not : (now : board.Seen) (index : ℕ) (held : List (Held Ticket)) (handle handle' : Machine Ticket) (result : Result (Unit {0}) Why) → option_map (λ held. held.handle) (slice_get held index) ≡ Some handle
    → ForEach handle (AddsOnOk result Disconnect handle') → Parts now held (with_handle held index handle')
parts_or_not now index held handle handle' (Ok done) is adds = parts now index held handle handle' adds is
parts_or_not now index held handle handle' (Err why) is same = stays now index held handle handle' same is

pub parts_then : (now : board.Seen) (held held2 held3 : List (Held Ticket)) → Parts now held held2 → Parts now held2 held3 → Parts now held held3
parts_then now held held2 held3 one two = record { stand = λ s. two.stand (one.stand s); live = λ l. two.live (one.live l); on = λ way calls ended on. two.on way calls ended (one.on way calls ended on) }

-- A handle is taken out.

taken_at : (n : ℕ) (held : List (Held Ticket)) (seens : List (Seen Ticket)) → AreAt held seens → AreAt (take n held) (take n seens)
taken_at zero [] [] at = tt
taken_at (suc n) [] [] at = tt
taken_at n [] (seen ∷ all) at = absurd at
taken_at n (one ∷ others) [] at = absurd at
taken_at zero (one ∷ others) (seen ∷ all) at = tt
taken_at (suc n) (one ∷ others) (seen ∷ all) at = (at.0, taken_at n others all at.1)

dropped_at : (n : ℕ) (held : List (Held Ticket)) (seens : List (Seen Ticket)) → AreAt held seens → AreAt (drop n held) (drop n seens)
dropped_at zero [] [] at = tt
dropped_at (suc n) [] [] at = tt
dropped_at n [] (seen ∷ all) at = absurd at
dropped_at n (one ∷ others) [] at = absurd at
dropped_at zero (one ∷ others) (seen ∷ all) at = at
dropped_at (suc n) (one ∷ others) (seen ∷ all) at = dropped_at n others all at.1

joined_at : (held held2 : List (Held Ticket)) (seens seens2 : List (Seen Ticket)) → AreAt held seens → AreAt held2 seens2 → AreAt (held ++ held2) (seens ++ seens2)
joined_at [] held2 [] seens2 at more = more
joined_at [] held2 (seen ∷ all) seens2 at more = absurd at
joined_at (one ∷ others) held2 [] seens2 at more = absurd at
joined_at (one ∷ others) held2 (seen ∷ all) seens2 at more = (at.0, joined_at others held2 all seens2 at.1 more)

pub without_at : (index : ℕ) (held : List (Held Ticket)) (seens : List (Seen Ticket)) → AreAt held seens → AreAt (take index held ++ drop (index + 1) held) (take index seens ++ drop (index + 1) seens)
without_at index held seens at = joined_at (take index held) (drop (index + 1) held) (take index seens) (drop (index + 1) seens) (taken_at index held seens at) (dropped_at (index + 1) held seens at)

-- where the handle stands that was taken out
pub record Stood (index : ℕ) (seens : List (Seen Ticket)) (handle : Machine Ticket) : Type 0 where
  pub seen : Seen Ticket
  pub there : slice_get seens index ≡ Some seen
  pub stands : StandsFor max_unretired seen.history handle

pub stood : (index : ℕ) (held : List (Held Ticket)) (seens : List (Seen Ticket)) (taken : ℕ × Machine Ticket) → option_map {U = ℕ × Machine Ticket} (λ held. (held.link, held.handle)) (slice_get held index) ≡ Some taken → AreAt held seens → Stood index seens taken.1
stood index [] seens taken is at = absurd (none_some taken is)
stood index (one ∷ others) [] taken is at = absurd at
stood zero (one ∷ others) (seen ∷ all) taken is at =
    record { seen = seen; there = refl; stands = subst (λ (m : Machine Ticket). StandsFor max_unretired seen.history m) (ap (λ (p : ℕ × Machine Ticket). p.1) (some_same (one.link, one.handle) taken is)) at.0.stands }
stood (suc index) (one ∷ others) (seen ∷ all) taken is at =
    let rest = stood index others all taken is at.1 in
    record { seen = rest.seen; there = rest.there; stands = rest.stands }

-- what is filed on a board without rows keeps what stands, where no extents are waited for and no flush is answered
filed_stands : (way : Way) (has : ℕ → Bool) (now now' : board.Seen) (calls : List wire.Call) (seens : List (Seen Ticket)) → way.asked ≡ None → Filed now now' → now'.flushed ≡ now.flushed → now.rows ≡ [] → Stands way has now calls seens → Stands way has now' calls seens
filed_stands way has now now' calls seens unasked filed unanswered none stands =
    let same : now'.rows ≡ now.rows = filed.none none ∙ sym none in
    unasked_moves_stand way has now now' calls seens unasked stands filed.error (record { read = filed.read; written = filed.written; zeroed = filed.zeroed; flushing = filed.flushing; flushed = unanswered }) (λ source destination. record {
      on = λ all kept. subst (λ (r : List (ℕ × Row)). rows.Stands way.how all r source destination) (sym same) kept;
    })

hung_up : (way : Way) (now now' : board.Seen) (calls : List wire.Call) (held : List (Held Ticket)) (index : ℕ) (taken : ℕ × Machine Ticket) → Happens HasParted index held → option_map {U = ℕ × Machine Ticket} (λ held. (held.link, held.handle)) (slice_get held index) ≡ Some taken → way.asked ≡ None → Filed now now' → ForEach taken.1 (λ history. now'.flushed ≡ now.flushed) → now.rows ≡ []
    → IsLeaving way now calls held → IsLeaving way now' calls (take index held ++ drop (index + 1) held)
hung_up way now now' calls held index taken parted is unasked filed unanswered none on =
    let one = stood index held on.seens taken is on.at in
    let has = parted.on on.seens on.at in
    let left = take index on.seens ++ drop (index + 1) on.seens in
    record {
      has = on.has;
      seens = left;
      at = without_at index held on.seens on.at;
      sided = tt;
      begun = on.begun ∙ sym filed.begun;
      stands = filed_stands way on.has now now' calls left unasked filed (unanswered one.seen.history one.stands) none (taking_stands way on.has now calls on.seens index one.seen max_unretired taken.1 on.stands one.there one.stands);
      rest = on.rest;
      all = tt;
      hears = hears_parting true way.extents way.from way.to way.heard now.error now'.error filed.error calls on.seens left on.hears;
      bound = tt;
      drives = drive_without way.extents way.from way.to on.has calls on.seens index one.seen one.there one.stands.lawful (subst (λ (s : Seen Ticket). HasParted s.history) (some_same has.seen one.seen (sym has.there ∙ one.there)) has.is) on.stands.between.course.drive on.stands.between.placed.address on.drives;
      ends = ended_left way.extents way.how.skip way.flush way.from way.to calls way.ended on.seens left
          (leaves_without way.extents way.how.skip way.flush way.from way.to on.has calls on.seens index one.seen one.there one.stands.lawful (subst (λ (s : Seen Ticket). HasParted s.history) (some_same has.seen one.seen (sym has.there ∙ one.there)) has.is) on.stands.between.course.drive on.stands.between.placed.address on.drives) on.ends;
      order = on.order;
      queried = queried_left way.queries index on.seens on.queried;
      flushes = second_left calls index on.seens on.flushes;
    }

-- A handle is taken out and closed, and its link is shut.
pub leaves_one : (a b : Option (List wire.Call)) (now now' : board.Seen) (held held' : List (Held Ticket)) (index : ℕ) (one : ℕ × Machine Ticket) → option_map {U = ℕ × Machine Ticket} (λ held. (held.link, held.handle)) (slice_get held index) ≡ Some one
    → held' ≡ take index held ++ drop (index + 1) held → Filed now now' → ForEach one.1 (λ history. now'.flushed ≡ now.flushed) → ForEach one.1 (λ history. now'.error ≡ now.error) → Adds a b (wire.Shut one.0) → Happens HasParted index held → Leaves now held a now' held' b
leaves_one a b now now' held held' index one is held_is filed unanswered unfailed adds parted = subst (λ (l : List (Held Ticket)). Leaves now held a now' l b) (sym held_is) (record {
  stand = λ s. record { seens = take index s.seens ++ drop (index + 1) s.seens; at = without_at index held s.seens s.at };
  live = λ l. record { seens = take index l.seens ++ drop (index + 1) l.seens; at = without_at index held l.seens l.at; alive = live_without index l.seens l.alive };
  well = λ s none. (let there = stood index held s.seens one is s.at in unfailed there.seen.history there.stands ∙ none);
  filed = filed;
  on = λ way start unasked none told. told_on start a b (wire.Shut one.0) adds
      (λ calls on. called true way now' calls (wire.Shut one.0 ∷ []) (take index held ++ drop (index + 1) held) (λ n. refl) (λ n. refl) (hung_up way now now' calls held index one parted is unasked filed unanswered none on)) told;
  lasts = lasts_adds a b (wire.Shut one.0) adds;
  gives = adds_none a b (wire.Shut one.0) (λ link. refl) refl adds;
})

pub leaves_none : (now : board.Seen) (held : List (Held Ticket)) (told : Option (List wire.Call)) → Leaves now held told now held told
leaves_none now held told = record { stand = λ s. s; live = λ l. l; well = λ s none. none; filed = filed_none now; on = λ way start unasked none is. is; lasts = lasts_none told; gives = gives_none told }

pub leaves_then : (now now2 now3 : board.Seen) (held held2 held3 : List (Held Ticket)) (a b c : Option (List wire.Call)) → Leaves now held a now2 held2 b → Leaves now2 held2 b now3 held3 c → Leaves now held a now3 held3 c
leaves_then now now2 now3 held held2 held3 a b c one two = record {
  stand = λ s. two.stand (one.stand s);
  live = λ l. two.live (one.live l);
  well = λ s none. two.well (one.stand s) (one.well s none);
  filed = filed_then now now2 now3 one.filed two.filed;
  on = λ way start unasked none told. two.on way start unasked (one.filed.none none) (one.on way start unasked none told);
  lasts = lasts_then a b c one.lasts two.lasts;
  gives = gives_then a b c one.gives two.gives;
}

-- A copy on its way may leave once its connections were to end.
pub on_leaving : (way : Way) (now : board.Seen) (calls : List wire.Call) (held : List (Held Ticket)) → way.ended ≡ true → IsOn way now calls held → IsLeaving way now calls held
on_leaving way now calls held ended on = record { has = on.has; seens = on.seens; at = on.at; sided = tt; begun = on.begun; stands = on.stands; rest = on.rest; all = tt; hears = hears_parting false way.extents way.from way.to way.heard now.error now.error (λ well. well) calls on.seens on.seens on.hears; bound = tt; drives = on.drives; ends = ended_leaving way.extents way.how.skip way.flush way.from way.to calls way.ended on.seens ended on.all on.ends; order = in_order false way.sides on.has calls on.seens on.sided on.order; queried = on.queried; flushes = on.flushes }
