-- Steps that ask nothing of the file keep a copy on its way, and follow one another.
use Rattle.std.proofs.Common.{arith, ◌≡◌, ◌≤◌, ℕ, zero, suc, ◌+◌, Bool, false, List, [], ◌∷◌, ◌++◌, length, Option, Some, Result, Ok, Err, slice_get, take, drop, refl, ap, sym, subst, ◌∙◌}
use Rattle.std.specs.Option.{option_map}
use Rattle.std.specs.Prelude.{IfOk, OnOk}
use Rattle.lnbd_callbacks.specs.Steps.{OneByOne}
use Rattle.lnbd_handle.specs.Histories.{AddsOnOk, ForEach, max_unretired}
use Rattle.lnbd_handle.specs.Histories as histories
use Rattle.lnbd_history.specs.Events.{Disconnect}
use Rattle.lnbd_link.specs.declared.wires.Want.{Want}
use Rattle.lnbd_link.specs.Call as wire
use Rattle.lnbd_link.specs.Numbers.{is_given}
use Rattle.lnbd_link.specs.Part.{Adds}
use Rattle.lnbd_machine.specs.Machine.{Machine}
use Rattle.lnbd_model.specs.declared.refusal.Why.{Why}
use Rattle.lnbd_model.specs.declared.target.Place.{Place}
use Rattle.lnbd_poll.specs.declared.noticed.Turn.{Turn}
use Rattle.lnbd_poll.specs.Held.{Held, AreAt}
use Rattle.lnbd_poll.specs.Lends.{with_handle}
use Rattle.lnbd_poll.specs.Seen.{Seen}
use Rattle.lnbd_poll.specs.Seen as poll
use Rattle.lnbd_poll.specs.Turned.{TurnsWhole}
use Rattle.lnbd_poll.specs.Turns.{Whole}
use Rattle.lnbd_records.specs.Limits.{max_text}
use Rattle.lnbd_standing.specs.Standing.{StandsFor}
use Rattle.lnbd_drives.specs.Driving.{with_event}
use Rattle.lnbd_plan.specs.declared.fault.CopyFault.{CopyFault}
use Rattle.lnbd_board.specs.declared.ticket.Ticket.{Ticket}
use Rattle.lnbd_board.specs.Files.{Files}
use Rattle.lnbd_board.specs.Files as board
use Rattle.lnbd_course.specs.Far.{Far}
use Rattle.lnbd_conduct.specs.Begun.{opened}
use Rattle.lnbd_copy.specs.Way.{Filed}
use Rattle.lnbd_copy.proofs.DialLemmas.{count_more, last_at, last_free}
use Rattle.lnbd_copy.proofs.FiledLemmas.{filed_none, filed_then}
use Rattle.lnbd_copy.proofs.PartLemmas.{happens, without_at}
use Rattle.lnbd_copy.proofs.TurnLemmas.{at_count, links_count, none_some, since_on, some_same, told_on, turns_led}
use Rattle.lnbd_connections.specs.Steps.{Dials, Goes, Leaves, Parts}
use Rattle.lnbd_connections.specs.Way.{IsUnderWay, Way}
use Rattle.lnbd_connections.proofs.WayLemmas.{way_called, way_dialed, way_did, way_left, way_turned}

-- Turns and pauses.

pub goes_none : (now : board.Seen) (held : List (Held Ticket)) (told : Option (List wire.Call)) → Goes now held told now held told
goes_none now held told = record { stand = λ s. s; many = λ s. refl; filed = λ s. filed_none now; on = λ far way start s told. told }

pub goes_on : (now now2 now3 : board.Seen) (held held2 held3 : List (Held Ticket)) (a b c : Option (List wire.Call)) → Goes now held a now2 held2 b → Goes now2 held2 b now3 held3 c →
    Goes now held a now3 held3 c
goes_on now now2 now3 held held2 held3 a b c one two = record {
  stand = λ s. two.stand (one.stand s);
  many = λ s. two.many (one.stand s) ∙ one.many s;
  filed = λ s. filed_then now now2 now3 (one.filed s) (two.filed (one.stand s));
  on = λ far way start s told. two.on far way start (one.stand s) (one.on far way start s told);
}

pub turned_goes : (a b : Option (List wire.Call)) (f g : ℕ) (turn : Turn) (now now' : board.Seen) (held held' : List (Held Ticket)) →
    poll.Goes a b (λ seens. AreAt held seens) (λ seens. AreAt held' seens) (λ before calls after. TurnsWhole (OneByOne Files) f g turn before now calls after now') → Goes now held a now' held' b
turned_goes a b f g turn now now' held held' goes = record {
  stand = λ s. let went = goes s.seens s.at in record { seens = went.after; at = went.at };
  many = λ s.
      let went = goes s.seens s.at in
      let led = turns_led s.seens now went.calls went.after now' (Whole went.leads.moved) went.leads.turns in
      at_count held' went.after went.at ∙ links_count s.seens went.after led.links ∙ sym (at_count held s.seens s.at);
  filed = λ s. let went = goes s.seens s.at in (turns_led s.seens now went.calls went.after now' (Whole went.leads.moved) went.leads.turns).filed;
  on = λ far way start s told. record {
    since = λ all is.
        let first = (goes s.seens s.at).grown all is in
        let since = told.since first.0 first.1 in
        let went = goes since.is.seens since.is.at in
        let grown = went.grown all is in
        let same : grown.0 ≡ first.0 = some_same grown.0 first.0 (sym grown.1 ∙ first.1) in
        since_on start first.0 all went.calls (grown.2 ∙ ap (λ (l : List wire.Call). l ++ went.calls) same) since
        (way_turned far way now since.calls held since.is now' went.calls held' went.after went.leads.moved went.leads.turns went.at);
  };
}

pub turned_ok : (a b : Option (List wire.Call)) (f g : ℕ) (r : Result Turn CopyFault) (now now' : board.Seen) (held held' : List (Held Ticket)) →
    IfOk r (λ turn. poll.Goes a b (λ seens. AreAt held seens) (λ seens. AreAt held' seens) (λ before calls after. TurnsWhole (OneByOne Files) f g turn before now calls after now')) →
    OnOk r (Goes now held a now' held' b)
turned_ok a b f g (Ok turn) now now' held held' goes = turned_goes a b f g turn now now' held held' goes
turned_ok a b f g (Err why) now now' held held' goes = tt

pub paused_goes : (a b : Option (List wire.Call)) (wants : List Want) (now : board.Seen) (held held' : List (Held Ticket)) → held' ≡ held → Adds a b (wire.Pause wants) →
    Goes now held a now held' b
paused_goes a b wants now held held' same adds = subst (λ (l : List (Held Ticket)). Goes now held a now l b) (sym same) (record {
  stand = λ s. s;
  many = λ s. refl;
  filed = λ s. filed_none now;
  on = λ far way start s told. told_on start a b (wire.Pause wants) adds (λ calls on. way_called far way now calls held on (wire.Pause wants ∷ []) (λ link. refl) (λ link. refl)) told;
})

-- Connections are made.

pub dials : (a b c : Option (List wire.Call)) (place : Place) (now : board.Seen) (held held' : List (Held Ticket)) (link : ℕ) (extents : Bool) (handle : Machine Ticket) →
    Adds a b (wire.Connect place.to (Some link)) → ((calls : List wire.Call) → a ≡ Some calls → is_given link calls ≡ false) → c ≡ b → length place.name ≤ max_text →
    StandsFor max_unretired (opened place.name extents) handle → held' ≡ held ++ record { link = link; handle = handle; inbox = [] } ∷ [] → Dials place 1 now held a held' c
dials a b c place now held held' link extents handle adds fresh told_is short stands held_is =
    subst (λ (t : Option (List wire.Call)). Dials place 1 now held a held' t) (sym told_is) (subst (λ (l : List (Held Ticket)). Dials place 1 now held a l b) (sym held_is) (record {
      stand = λ s. record {
        seens = s.seens ++ record { link = link; history = opened place.name extents; unread = [] } ∷ [];
        at = last_at held s.seens link handle (opened place.name
            extents) s.at stands;
      };
      many = count_more held (record { link = link; handle = handle; inbox = [] });
      on = λ far way start is told. record {
        since = λ all told_all.
            let grown = adds all told_all in
            let since = told.since grown.0 grown.1 in
            let free = last_free link since.before since.calls (subst (λ (l : List wire.Call). is_given link l ≡ false) since.now (fresh grown.0 grown.1)) in
            since_on start grown.0 all (wire.Connect place.to (Some link) ∷ []) grown.2 since (at_place far way since.calls is since.is free);
      };
    }))
  where
    at_place : (far : Far) (way : Way) (calls : List wire.Call) → way.at ≡ place → IsUnderWay far way now calls held → is_given link calls ≡ false →
        IsUnderWay far way now (calls ++ wire.Connect place.to (Some link) ∷ []) (held ++ record { link = link; handle = handle; inbox = [] } ∷ [])
    at_place far way calls is on free =
        subst (λ (p : Place). IsUnderWay far way now (calls ++ wire.Connect p.to (Some link) ∷ []) (held ++ record { link = link; handle = handle; inbox = [] } ∷ [])) is
        (way_dialed far way now calls held on link extents handle free (subst (λ (p : Place). length p.name ≤ max_text) (sym is) short)
        (subst (λ (p : Place). StandsFor max_unretired (opened p.name extents) handle) (sym is) stands))

pub dials_none : (place : Place) (now : board.Seen) (held : List (Held Ticket)) (told : Option (List wire.Call)) → Dials place 0 now held told held told
dials_none place now held told = record { stand = λ s. s; many = omega arith; on = λ far way start is told. told }

-- and one more
pub dials_then : (place : Place) (more : ℕ) (now now2 : board.Seen) (held held2 held3 : List (Held Ticket)) (a b c : Option (List wire.Call)) → now2 ≡ now →
    Dials place more now held a held2 b → Dials place 1 now2 held2 b held3 c → Dials place (more + 1) now held a held3 c
dials_then place more now now2 held held2 held3 a b c same one last =
    let two = subst (λ (s : board.Seen). Dials place 1 s held2 b held3 c) same last in
    record {
      stand = λ s. two.stand (one.stand s);
      many = let m = one.many in let n = two.many in omega (arith, m, n);
      on = λ far way start is told. two.on far way start is (one.on far way start is told);
    }

-- Connections are asked to end.

pub parts_none : (now : board.Seen) (held : List (Held Ticket)) → Parts now held held
parts_none now held = record { stand = λ s. s; on = λ far way calls on. on }

pub parts_then : (now : board.Seen) (held held2 held3 : List (Held Ticket)) → Parts now held held2 → Parts now held2 held3 → Parts now held held3
parts_then now held held2 held3 one two = record { stand = λ s. two.stand (one.stand s); on = λ far way calls on. two.on far way calls (one.on far way calls on) }

-- A handle on which nothing happened stands where it did.
still : (handle handle' : Machine Ticket) (index : ℕ) (all : List (Held Ticket)) (seens : List (Seen Ticket)) → ForEach handle (histories.Stays handle') →
    option_map (λ held. held.handle) (slice_get all index) ≡ Some handle → AreAt all seens → AreAt (with_handle all index handle') seens
still handle handle' index [] seens stays is at = absurd (none_some handle is)
still handle handle' index (held ∷ others) [] stays is at = absurd at
still handle handle' zero (held ∷ others) (seen ∷ more) stays is at =
    let stands = stays seen.history (subst (λ (m : Machine Ticket). StandsFor max_unretired seen.history m) (some_same held.handle handle is) at.0.stands) in
    (record { link = at.0.link; stands = stands; unread = at.0.unread }, at.1)
still handle handle' (suc index) (held ∷ others) (seen ∷ more) stays is at = (at.0, still handle handle' index others more stays is at.1)

-- A handle was asked for the end, whether that was taken or not.
pub parts_or_not : (now : board.Seen) (index : ℕ) (held : List (Held Ticket)) (handle handle' : Machine Ticket) (result : Result (Unit {0}) Why) →
    option_map (λ held. held.handle) (slice_get held index) ≡ Some handle → ForEach handle (AddsOnOk result Disconnect handle') → Parts now held (with_handle held index handle')
parts_or_not now index held handle handle' (Ok done) is adds = record {
  stand = λ s. record { seens = with_event index Disconnect s.seens; at = (happens handle handle' Disconnect index held s.seens adds is s.at).at };
  on = λ far way calls on.
      way_did far way now calls held on (with_handle held index handle') index Disconnect (happens handle handle' Disconnect index held on.seens adds is on.at)
      (record { inward = refl; unasked = refl; still = refl; spelled = tt; mode = refl }) refl;
}
parts_or_not now index held handle handle' (Err why) is same = record {
  stand = λ s. record { seens = s.seens; at = still handle handle' index held s.seens same is s.at };
  on = λ far way calls on. record { seens = on.seens; at = still handle handle' index held on.seens same is on.at; begun = on.begun; stands = on.stands };
}

-- Handles are taken out.

pub leaves_none : (now : board.Seen) (held : List (Held Ticket)) (told : Option (List wire.Call)) → Leaves now held told now held told
leaves_none now held told = record { stand = λ s. s; filed = filed_none now; on = λ far way start unasked none is. is }

pub leaves_then : (now now2 now3 : board.Seen) (held held2 held3 : List (Held Ticket)) (a b c : Option (List wire.Call)) → Leaves now held a now2 held2 b →
    Leaves now2 held2 b now3 held3 c → Leaves now held a now3 held3 c
leaves_then now now2 now3 held held2 held3 a b c one two = record {
  stand = λ s. two.stand (one.stand s);
  filed = filed_then now now2 now3 one.filed two.filed;
  on = λ far way start unasked none told. two.on far way start unasked (one.filed.none none) (one.on far way start unasked none told);
}

-- A handle is taken out and closed, and its link is shut.
pub leaves_one : (a b : Option (List wire.Call)) (now now' : board.Seen) (held held' : List (Held Ticket)) (index : ℕ) (one : ℕ × Machine Ticket) →
    option_map {U = ℕ × Machine Ticket} (λ held. (held.link, held.handle)) (slice_get held index) ≡ Some one → held' ≡ take index held ++ drop (index + 1) held → Filed now now' →
    ForEach one.1 (λ history. now'.flushed ≡ now.flushed) → Adds a b (wire.Shut one.0) → Leaves now held a now' held' b
leaves_one a b now now' held held' index one is held_is filed unanswered adds = subst (λ (l : List (Held Ticket)). Leaves now held a now' l b) (sym held_is) (record {
  stand = λ s. record { seens = take index s.seens ++ drop (index + 1) s.seens; at = without_at index held s.seens s.at };
  filed = filed;
  on = λ far way start unasked none told. told_on start a b (wire.Shut one.0) adds
      (λ calls on. way_called far way now' calls (take index held ++ drop (index + 1) held) (way_left far way now calls held on now' index one is unasked filed unanswered none) (wire.Shut
      one.0 ∷ [])
      (λ n. refl) (λ n. refl)) told;
})
