-- While connections are made, a pause that wants no link for writing is one at which a connection negotiates still.
use Rattle.std.proofs.Common.{◌≡◌, ◌≢◌, ◌≤◌, ◌+◌, inl, inr, ℕ, zero, suc, Bool, true, false, ◌==◌, List, [], ◌∷◌, ◌++◌, length, Option, Some, None, Result, Ok, Err}
use Rattle.std.proofs.Common.{IfOk, OnOk, OnErr, slice_get, if◌then◌else◌, refl, ap, sym, subst, ◌∙◌, arith, append-nil}
use Rattle.std.proofs.lemmas.Bool.{false≢true}
use Rattle.lnbd_callbacks.specs.Steps.{OneByOne}
use Rattle.lnbd_handle.specs.Histories.{max_unretired}
use Rattle.lnbd_history.specs.Answers.{direction_after, state_after}
use Rattle.lnbd_history.specs.Events.{History}
use Rattle.lnbd_asked.specs.Exports.{name_set}
use Rattle.lnbd_link.specs.Call as wire
use Rattle.lnbd_link.specs.Numbers.{is_given}
use Rattle.lnbd_link.specs.Part.{Adds}
use Rattle.lnbd_machine.specs.Machine.{Machine}
use Rattle.lnbd_model.specs.declared.state.State.TheVariants as state
use Rattle.lnbd_model.specs.declared.target.Place.{Place}
use Rattle.lnbd_poll.specs.declared.noticed.Turn.{Turn}
use Rattle.lnbd_poll.specs.Alone.{calls_on}
use Rattle.lnbd_poll.specs.Held.{AreAt, Held, wants_now}
use Rattle.lnbd_poll.specs.Seen.{Seen}
use Rattle.lnbd_poll.specs.Seen as poll
use Rattle.lnbd_poll.specs.Turned.{TurnsCut, TurnsWhole}
use Rattle.lnbd_poll.specs.Turns.{Turns, Whole}
use Rattle.lnbd_records.specs.Limits.{max_text}
use Rattle.lnbd_standing.specs.Standing.{StandsFor}
use Rattle.lnbd_drives.proofs.Exports.{turns_give_none}
use Rattle.lnbd_drives.proofs.Turning.{turns_pass_others}
use Rattle.lnbd_plan.specs.declared.fault.CopyFault.{CopyFault}
use Rattle.lnbd_board.specs.declared.ticket.Ticket.{Ticket}
use Rattle.lnbd_board.specs.Files as board
use Rattle.lnbd_course.specs.Course.{with_link}
use Rattle.lnbd_course.specs.Far.{Far}
use Rattle.lnbd_course.specs.FarCourse.{FarCourse, every}
use Rattle.lnbd_course.specs.UnderWay.{NoneWrites}
use Rattle.lnbd_course.proofs.Asking.{not_one}
use Rattle.lnbd_course.proofs.FarKeeping as keeping
use Rattle.lnbd_course.proofs.Holding.{one_has}
use Rattle.lnbd_course.proofs.Turning.{steps}
use Rattle.lnbd_conduct.specs.Answered.{or_later}
use Rattle.lnbd_conduct.specs.Begun.{opened}
use Rattle.lnbd_conduct.specs.Told.{Told}
use Rattle.lnbd_conduct.specs.Waiting.{NoneForWriting}
use Rattle.lnbd_copy.specs.Driven.{AllDriveOn, beginning_on}
use Rattle.lnbd_copy.specs.Links.{LinksGo, LinksStand}
use Rattle.lnbd_copy.specs.Pauses.{Unpaused}
use Rattle.lnbd_copy.specs.Statuses.{first_held}
use Rattle.lnbd_copy.specs.Unready.{IsLoud}
use Rattle.lnbd_copy.specs.Way.{Stand}
use Rattle.lnbd_copy.proofs.DialLemmas.{last_at, last_free, opened_name, opened_set}
use Rattle.lnbd_copy.proofs.DrivenLemmas.{drive_dialed, drive_later, went_there}
use Rattle.lnbd_copy.proofs.DrivenTurns.{AllBrought, brought_apart, brought_on, turns_brought}
use Rattle.lnbd_copy.proofs.FullLemmas.{cut_unpaused, turned_unpaused}
use Rattle.lnbd_copy.proofs.GroundLemmas.{driven_at, given_at, seen_same}
use Rattle.lnbd_copy.proofs.HeardLemmas.{first_later, given_then, no_more_given}
use Rattle.lnbd_copy.proofs.HeldLemmas.{held_more, held_on}
use Rattle.lnbd_copy.proofs.LinkLemmas.{held_open, links_begin, links_paused, links_turned}
use Rattle.lnbd_copy.proofs.PauseLemmas.{either_way, no_pauses}
use Rattle.lnbd_copy.proofs.PausedLemmas.{told_rests, told_stays}
use Rattle.lnbd_copy.proofs.SettledLemmas.{same_rest, told_both}
use Rattle.lnbd_copy.proofs.TurnLemmas.{at_count, since_on, some_same, told_begins, told_map, told_on}
use Rattle.lnbd_copy.proofs.UnansweredLemmas.{none_writes}
use Rattle.lnbd_connections.specs.Unready.{AwaitsAll, AwaitsMore, IsConnecting, IsUnready, KeepsAwaiting, NegotiatesStill, PausesUnready}
use Rattle.lnbd_connections.specs.Way.{IsUnderWay, Way}

no_seen : (seen : Seen Ticket) → None ≡ Some seen → ⊥
no_seen seen e = cc

-- Which handle is the first.

brought_first : (before after : List (Seen Ticket)) → AllBrought before after → first_held after ≡ first_held before
brought_first [] [] brought = refl
brought_first [] (here ∷ there) brought = absurd brought
brought_first (seen ∷ others) [] brought = absurd brought
brought_first (seen ∷ others) (here ∷ there) brought = ap Some brought.0.link

last_first : (seens : List (Seen Ticket)) (last : Seen Ticket) → or_later (first_held seens) (Some last.link) ≡ first_held (seens ++ last ∷ [])
last_first [] last = refl
last_first (seen ∷ others) last = refl

-- a link more of the export's
all_of_it : (link other : ℕ) → with_link link true every other ≡ every other
all_of_it link other = elim (link == other) as (λ b. (if b then true else true) ≡ true) [ true ↦ refl | false ↦ refl ]

-- None that writes is among handles of which none does.
writes_none : (seens : List (Seen Ticket)) (index : ℕ) (seen : Seen Ticket) → NoneWrites seens → slice_get seens index ≡ Some seen → direction_after seen.history ≢ 3
writes_none [] index seen none is = absurd (no_seen seen is)
writes_none (first ∷ others) zero seen none is = subst (λ (s : Seen Ticket). direction_after s.history ≢ 3) (seen_same first seen is) none.0
writes_none (first ∷ others) (suc index) seen none is = writes_none others index seen none.1 is

module _ (extents : Bool) (far : Far) (way : Way) (now : board.Seen) (calls : List wire.Call) (held : List (Held Ticket)) (c : IsConnecting extents far way now calls held) where
  -- Of handles of which one negotiates, or writes, and none writes, one negotiates.
  negotiates : IsLoud held → LinksStand held calls → NoneForWriting (wants_now held) → NegotiatesStill extents way.at calls
  negotiates loud links none =
      let h = loud.loud.on c.seens c.at in
      let course = c.stands.course in
      let still : state_after h.seen.history ≡ state.Negotiating = elim h.is [
        | inl is ↦ is
        | inr writes ↦ absurd (writes_none c.seens loud.index h.seen (none_writes held c.seens c.at none) h.there writes)
      ] in
      let given : is_given h.seen.link calls ≡ true =
      given_at calls h.seen.link (is_given h.seen.link calls) refl (λ none. not_one h.seen.link loud.index h.seen c.seens h.there (course.unused h.seen.link none).apart refl) in
      record {
        drove = record {
          link = h.seen.link;
          history = h.seen.history;
          drives = driven_at calls loud.index h.seen held c.seens h.there c.at course.drive.drive course.drive.plain;
          address = c.stands.placed.address h.seen.link given;
          name = ap (λ (history : History Ticket). name_set history) (sym (one_has loud.index h.seen course.histories c.seens h.there course.held)) ∙ c.stands.placed.name h.seen.link given;
          is = still;
          began = went_there (beginning_on extents way.at way.at every calls) c.seens loud.index h.seen h.there c.drives.went;
        };
        opened = held_open held c.seens calls loud.index h.seen c.at h.there links;
      }

  -- Handles turn,
  connecting_turned : (now' : board.Seen) (part : List wire.Call) (held' : List (Held Ticket)) (after : List (Seen Ticket)) (moved : Option ℕ) →
      Turns (OneByOne board.Files) c.seens now part after now' (Whole moved) → AreAt held' after → IsConnecting extents far way now' (calls ++ part) held'
  connecting_turned now' part held' after moved turns at =
      let brought = turns_brought c.seens now part after now' (Whole moved) turns in
      let none = λ (link : ℕ). turns_give_none steps link part c.seens after now now' (Whole moved) turns in
      record {
        seens = after;
        at = at;
        stands = keeping.turns_keep_far far way.at way.size way.how way.slices now now' calls part c.seens after way.asked way.known moved c.stands turns;
        all = held_on false calls part c.seens after (λ link. brought_apart link c.seens after brought) none c.all;
        first = first_later false calls part c.seens after (brought_first c.seens after brought) (no_more_given part c.seens none) c.first;
        drives = drive_later extents way.at way.at every calls part c.seens after none (λ link. brought_apart link c.seens after brought)
            (λ link apart. turns_pass_others steps link part c.seens after now now' (Whole moved) apart turns) (brought_on (beginning_on extents way.at way.at every calls) c.seens after
            brought) c.drives;
      }

  -- the wires wait,
  connecting_called : (more : List wire.Call) → ((link : ℕ) → calls_on link more ≡ []) → ((link : ℕ) → is_given link more ≡ false) → IsConnecting extents far way now (calls ++ more) held
  connecting_called more quiet none = record {
    seens = c.seens;
    at = c.at;
    stands = keeping.calls_keep_far far way.at way.size way.how way.slices now calls more c.seens way.asked way.known c.stands quiet none;
    all = held_on false calls more c.seens c.seens (λ link apart. apart) none c.all;
    first = first_later false calls more c.seens c.seens refl (no_more_given more c.seens none) c.first;
    drives = drive_later extents way.at way.at every calls more c.seens c.seens none (λ link apart. apart) (λ link apart. quiet link) (λ went. went) c.drives;
  }

  -- or one more is held, on a link that was just made.
  connecting_dialed : (link : ℕ) (asks : Bool) (handle : Machine Ticket) → is_given link calls ≡ false → length way.at.name ≤ max_text → StandsFor max_unretired (opened way.at.name asks) handle →
      (length held ≡ 0 → extents ≡ asks) → (asks ≡ true → length held ≡ 0) →
      IsConnecting extents far way now (calls ++ wire.Connect way.at.to (Some link) ∷ []) (held ++ record { link = link; handle = handle; inbox = [] } ∷ [])
  connecting_dialed link asks handle new short stands wants only =
      let last : Seen Ticket = record { link = link; history = opened way.at.name asks; unread = [] } in
      let more : List wire.Call = calls ++ wire.Connect way.at.to (Some link) ∷ [] in
      let count : length held ≡ length c.seens = at_count held c.seens c.at in
      let all = held_more calls way.at.to link c.seens last refl c.all in
      record {
        seens = c.seens ++ last ∷ [];
        at = last_at held c.seens link handle (opened way.at.name asks) c.at stands;
        stands = keeping.opens_far far way.at way.size way.how way.slices now calls c.seens way.asked way.known link (opened way.at.name asks) c.stands new (opened_set way.at.name asks short)
            (opened_name way.at.name asks);
        all = all;
        first = given_then calls (wire.Connect way.at.to (Some link) ∷ []) ∙ ap (λ (o : Option ℕ). or_later o (Some link)) c.first ∙ last_first c.seens last;
        drives = subst (λ (has : ℕ → Bool). AllDriveOn extents way.at way.at has more (c.seens ++ last ∷ [])) (λ i n. all_of_it link n i)
            (drive_dialed extents way.at way.at every calls way.at.to link true c.seens way.at asks refl (λ none. refl) (c.stands.course.unused link new).apart c.first
            (λ none. wants (count ∙ none)) (λ is. sym count ∙ only is) all c.drives);
      }

-- Steps.

pub awaits_none : (now : board.Seen) (held : List (Held Ticket)) (told : Option (List wire.Call)) → KeepsAwaiting now held told now held told
awaits_none now held told = record { on = λ extents far way start so. so }

pub awaits_then : (now now2 now3 : board.Seen) (held held2 held3 : List (Held Ticket)) (a b c : Option (List wire.Call)) → KeepsAwaiting now held a now2 held2 b →
    KeepsAwaiting now2 held2 b now3 held3 c → KeepsAwaiting now held a now3 held3 c
awaits_then now now2 now3 held held2 held3 a b c one two = record { on = λ extents far way start so. two.on extents far way start (one.on extents far way start so) }

pub unready_none : (now : board.Seen) (held : List (Held Ticket)) (told : Option (List wire.Call)) → PausesUnready now held told told
unready_none now held told = record { on = λ extents far way start so. so.pauses }

pub unready_unpaused : (now : board.Seen) (held : List (Held Ticket)) (a b : Option (List wire.Call)) → (Stand held → Unpaused a b) → PausesUnready now held a b
unready_unpaused now held a b unpaused = record { on = λ extents far way start so. told_stays start a b (unpaused so.stand) so.pauses }

pub unready_then : (now now2 : board.Seen) (held held2 : List (Held Ticket)) (a b c : Option (List wire.Call)) → KeepsAwaiting now held a now2 held2 b → PausesUnready now2 held2 b c →
    PausesUnready now held a c
unready_then now now2 held held2 a b c one two = record { on = λ extents far way start so. two.on extents far way start (one.on extents far way start so) }

-- A turn.
awaits_turned : (a b : Option (List wire.Call)) (f g : ℕ) (turn : Turn) (now now' : board.Seen) (held held' : List (Held Ticket)) →
    poll.Goes a b (λ seens. AreAt held seens) (λ seens. AreAt held' seens) (λ before calls after. TurnsWhole (OneByOne board.Files) f g turn before now calls after now') →
    KeepsAwaiting now held a now' held' b
awaits_turned a b f g turn now now' held held' goes = record {
  on = λ extents far way start so.
      let s = so.stand in
      record {
        stand = (let went = goes s.seens s.at in record { seens = went.after; at = went.at });
        on = record {
          since = λ all is.
              let first = (goes s.seens s.at).grown all is in
              let since = so.on.since first.0 first.1 in
              let went = goes since.is.seens since.is.at in
              let grown = went.grown all is in
              let same : grown.0 ≡ first.0 = some_same grown.0 first.0 (sym grown.1 ∙ first.1) in
              since_on start first.0 all went.calls (grown.2 ∙ ap (λ (l : List wire.Call). l ++ went.calls) same) since
              (connecting_turned extents far way now since.calls held since.is now' went.calls held' went.after went.leads.moved went.leads.turns went.at);
        };
        links = (links_turned a b f g turn now now' held held' goes s).on start so.links;
        pauses = told_stays start a b (turned_unpaused a b f g turn now now' held held' goes s) so.pauses;
      };
}

pub awaits_turned_ok : (a b : Option (List wire.Call)) (f g : ℕ) (r : Result Turn CopyFault) (now now' : board.Seen) (held held' : List (Held Ticket)) →
    IfOk r (λ turn. poll.Goes a b (λ seens. AreAt held seens) (λ seens. AreAt held' seens) (λ before calls after. TurnsWhole (OneByOne board.Files) f g turn before now calls after now')) →
    OnOk r (KeepsAwaiting now held a now' held' b)
awaits_turned_ok a b f g (Ok turn) now now' held held' goes = awaits_turned a b f g turn now now' held held' goes
awaits_turned_ok a b f g (Err why) now now' held held' goes = tt

-- A turn pauses nowhere, whatever it comes to.
pub turned_quietly : (r : Result Turn CopyFault) (a b : Option (List wire.Call)) (f g : ℕ) (now now' : board.Seen) (held held' : List (Held Ticket)) →
    IfOk r (λ turn. poll.Goes a b (λ seens. AreAt held seens) (λ seens. AreAt held' seens) (λ before calls after. TurnsWhole (OneByOne board.Files) f g turn before now calls after now')) →
    OnErr r (poll.Goes a b (λ seens. AreAt held seens) (λ seens. AreAt held' seens) (λ before calls after. TurnsCut (OneByOne board.Files) f g before now calls after now')) → Stand held → Unpaused a b
turned_quietly (Ok turn) a b f g now now' held held' ok cut stand = turned_unpaused a b f g turn now now' held held' ok stand
turned_quietly (Err why) a b f g now now' held held' ok cut stand = cut_unpaused a b f g now now' held held' cut stand

-- A pause, while a handle negotiates or writes.
module _ (now : board.Seen) (held held' : List (Held Ticket)) (a b : Option (List wire.Call)) (loud : IsLoud held) where
  pub awaits_paused : held' ≡ held → Adds a b (wire.Pause (wants_now held)) → KeepsAwaiting now held a now held' b
  awaits_paused same adds = subst (λ (l : List (Held Ticket)). KeepsAwaiting now held a now l b) (sym same) (record {
    on = λ extents far way start so. record {
      stand = so.stand;
      on = told_on start a b (wire.Pause (wants_now held)) adds
          (λ calls c. connecting_called extents far way now calls held c (wire.Pause (wants_now held) ∷ []) (λ link. refl) (λ link. refl)) so.on;
      links = (links_paused held held a b (wants_now held) refl adds).on start so.links;
      pauses = told_rests start a b (wants_now held) adds
          (told_map start a (λ calls both. negotiates extents far way now calls held both.0 loud both.1) (told_both start a so.on so.links)) so.pauses;
    };
  })

  pub unready_paused : (r : Result (Unit {0}) CopyFault) → held' ≡ held → OnOk r (Adds a b (wire.Pause (wants_now held))) → OnErr r (b ≡ a) → PausesUnready now held a b
  unready_paused r same adds still =
      either_way r adds still (λ one. record { on = λ extents far way start so. ((awaits_paused same one).on extents far way start so).pauses })
      (λ one. subst (λ (t : Option (List wire.Call)). PausesUnready now held a t) (sym one) (unready_none now held a))

-- One connection more.
module _ (a b c : Option (List wire.Call)) (place : Place) (now now2 : board.Seen) (held held' : List (Held Ticket)) (link : ℕ) (asks : Bool) (handle : Machine Ticket)
    (adds : Adds a b (wire.Connect place.to (Some link))) (fresh : (calls : List wire.Call) → a ≡ Some calls → is_given link calls ≡ false) (told_is : c ≡ b) (short : length place.name ≤ max_text)
    (stands : StandsFor max_unretired (opened place.name asks) handle) (held_is : held' ≡ held ++ record { link = link; handle = handle; inbox = [] } ∷ []) where
  at_place : (extents : Bool) (far : Far) (way : Way) (calls : List wire.Call) → way.at ≡ place → (length held ≡ 0 → extents ≡ asks) → (asks ≡ true → length held ≡ 0) →
      IsConnecting extents far way now calls held → is_given link calls ≡ false →
      IsConnecting extents far way now (calls ++ wire.Connect place.to (Some link) ∷ []) (held ++ record { link = link; handle = handle; inbox = [] } ∷ [])
  at_place extents far way calls is wants only on free =
      subst (λ (p : Place). IsConnecting extents far way now (calls ++ wire.Connect p.to (Some link) ∷ []) (held ++ record { link = link; handle = handle; inbox = [] } ∷ [])) is
      (connecting_dialed extents far way now calls held on link asks handle free (subst (λ (p : Place). length p.name ≤ max_text) (sym is) short)
      (subst (λ (p : Place). StandsFor max_unretired (opened p.name asks) handle) (sym is) stands) wants only)

  connected : (extents : Bool) (far : Far) (way : Way) (start : Option (List wire.Call)) → way.at ≡ place → (length held ≡ 0 → extents ≡ asks) → (asks ≡ true → length held ≡ 0) →
      Told start a (λ calls. IsConnecting extents far way now calls held) → Told start c (λ calls. IsConnecting extents far way now calls held')
  connected extents far way start is wants only told = subst (λ (t : Option (List wire.Call)). Told start t (λ calls. IsConnecting extents far way now calls held')) (sym told_is)
      (subst (λ (l : List (Held Ticket)). Told start b (λ calls. IsConnecting extents far way now calls l)) (sym held_is) (record {
        since = λ all told_all.
            let grown = adds all told_all in
            let since = told.since grown.0 grown.1 in
            let free = last_free link since.before since.calls (subst (λ (l : List wire.Call). is_given link l ≡ false) since.now (fresh grown.0 grown.1)) in
            since_on start grown.0 all (wire.Connect place.to (Some link) ∷ []) grown.2 since (at_place extents far way since.calls is wants only since.is free);
      }))

  pub awaits_dialed : now2 ≡ now → (Stand held → Stand held') → LinksGo (place.to ∷ []) held a held' c → Unpaused a c → AwaitsMore place asks now held a now2 held' c
  awaits_dialed same stand links unpaused = subst (λ (s : board.Seen). AwaitsMore place asks now held a s held' c) (sym same) (record {
    on = λ extents far way start is wants only so. record {
      stand = stand so.stand;
      on = connected extents far way start is wants only so.on;
      links = links.on start so.links;
      pauses = told_stays start a c unpaused so.pauses;
    };
  })

-- Further ones, of which none asks for extents.

pub more_awaits_none : (place : Place) (now : board.Seen) (held : List (Held Ticket)) (told : Option (List wire.Call)) → AwaitsMore place false now held told now held told
more_awaits_none place now held told = record { on = λ extents far way start is wants only so. so }

pub more_awaits_then : (place : Place) (more : ℕ) (now now2 now3 : board.Seen) (held held2 held3 : List (Held Ticket)) (a b c : Option (List wire.Call)) → length held2 ≡ length held + more →
    AwaitsMore place false now held a now2 held2 b → AwaitsMore place false now2 held2 b now3 held3 c → AwaitsMore place false now held a now3 held3 c
more_awaits_then place more now now2 now3 held held2 held3 a b c many one two = record {
  on = λ extents far way start is wants only so.
      two.on extents far way start is (λ none. wants (omega (arith, many, none))) (λ asks. absurd (false≢true asks)) (one.on extents far way start is wants only so);
}

-- At the beginning no handle is held, and none of these calls was made.

no_handles : (held : List (Held Ticket)) (seens : List (Seen Ticket)) → held ≡ [] → AreAt held seens → seens ≡ []
no_handles held [] none at = refl
no_handles held (seen ∷ others) none at = absurd (subst (λ (l : List (Held Ticket)). AreAt l (seen ∷ others)) none at)

none_link : (link : ℕ) → None ≡ Some link → ⊥
none_link link e = cc

connecting_first : (extents : Bool) (far : Far) (way : Way) (now : board.Seen) (held : List (Held Ticket)) → held ≡ [] → IsUnderWay far way now [] held → IsConnecting extents far way now [] held
connecting_first extents far way now held none on =
    let seens : on.seens ≡ [] = no_handles held on.seens none on.at in
    record {
      seens = [];
      at = subst (λ (l : List (Seen Ticket)). AreAt held l) seens on.at;
      stands = subst (λ (l : List (Seen Ticket)). FarCourse far way.at way.size way.how way.slices now [] l way.asked way.known) seens on.stands;
      all = λ link apart. refl;
      first = refl;
      drives = record { went = tt; left = λ link apart given. absurd (false≢true given); first = λ link is. absurd (none_link link is) };
    }

pub awaits_first : (extents : Bool) (far : Far) (way : Way) (told : Option (List wire.Call)) (now : board.Seen) (held : List (Held Ticket)) → held ≡ [] → Stand held →
    Told told told (λ calls. IsUnderWay far way now calls held) → AwaitsAll extents far way told told now held
awaits_first extents far way told now held none stand on = record {
  stand = stand;
  on = record {
    since = λ all is.
        let since = on.since all is in
        let nothing : since.calls ≡ [] =
        same_rest since.before since.calls [] (sym since.now ∙ some_same all since.before (sym is ∙ since.was) ∙ sym (append-nil since.before)) in
        record {
          before = since.before;
          calls = [];
          was = since.was;
          now = since.now ∙ ap (λ (l : List wire.Call). since.before ++ l) nothing;
          is = connecting_first extents far way now held none (subst (λ (l : List wire.Call). IsUnderWay far way now l held) nothing since.is);
        };
  };
  links = links_begin held told none;
  pauses = told_begins told (no_pauses (IsUnready extents way.at));
}
