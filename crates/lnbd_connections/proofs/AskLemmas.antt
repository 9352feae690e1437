-- What the calls of a step show as asked, handles were asked before it.
use Rattle.std.proofs.Common.{◌≡◌, ◌≤◌, ◌⊎◌, inl, inr, ℕ, Bool, true, false, ◌&&◌, List, [], ◌∷◌, ◌++◌, length, Option, Some, None, Result, Ok, Err, nat_le, refl, ap, sym, subst, ◌∙◌, append-nil, if◌then◌else◌}
use Rattle.std.proofs.lemmas.Bool.{cases_eq, false≢true}
use Rattle.std.specs.Option.{option_map}
use Rattle.std.specs.Prelude.{IfOk, OnErr}
use Rattle.lnbd_model.specs.declared.target.Place.{Place}
use Rattle.lnbd_link.specs.Call as wire
use Rattle.lnbd_link.specs.Numbers.{is_given}
use Rattle.lnbd_link.specs.Part.{Adds}
use Rattle.lnbd_link.specs.Traffic.{target_of}
use Rattle.lnbd_handle.specs.Histories.{max_unretired}
use Rattle.lnbd_history.specs.Commands as commands
use Rattle.lnbd_history.specs.Commands.{Command}
use Rattle.lnbd_history.specs.Events.{Abort, Arrived, ClearLog, Close, Disconnect, End, Event, History, Issue, LinkFailed, Opt, Refuse, Retire, Set, Start, StrictMode, Wrote}
use Rattle.lnbd_history.specs.History.{request}
use Rattle.lnbd_machine.specs.Machine.{Machine}
use Rattle.lnbd_records.specs.Limits.{max_text}
use Rattle.lnbd_standing.specs.Standing.{StandsFor}
use Rattle.lnbd_asked.specs.Driven.{outcome_after, written}
use Rattle.lnbd_asked.specs.Link.{Nobody}
use Rattle.lnbd_asked.specs.Transcript.{Dealt, asked_on, bare, is_name, is_of, is_target, name_asked, on_link, only_if, size_told}
use Rattle.lnbd_poll.specs.Held.{AreAt, Held}
use Rattle.lnbd_poll.specs.Seen.{Seen}
use Rattle.lnbd_poll.specs.Seen as poll
use Rattle.lnbd_poll.specs.declared.noticed.Turn.{Turn}
use Rattle.lnbd_poll.specs.Turned.{TurnsCut, TurnsWhole}
use Rattle.lnbd_poll.specs.Turns.{Breaks_off, Ending, Turns, Whole}
use Rattle.lnbd_drives.proofs.Exports.{turns_give_none}
use Rattle.lnbd_drives.proofs.Passing.{both_off, said_stays}
use Rattle.lnbd_drives.proofs.Turning.{turns_pass_others}
use Rattle.lnbd_plan.specs.declared.fault.CopyFault.{CopyFault}
use Rattle.lnbd_board.specs.declared.ticket.Ticket.{Ticket}
use Rattle.lnbd_board.specs.Files as board
use Rattle.lnbd_board.specs.Holds.{WasToldSize}
use Rattle.lnbd_board.specs.Requests.{IsIn, Request, Under}
use Rattle.lnbd_board.specs.Requests as requested
use Rattle.lnbd_tracks.specs.Tracks.{AllTrack, Happens, Histories, is_issue, request_of}
use Rattle.lnbd_tracks.proofs.Under.{found}
use Rattle.lnbd_course.specs.Asks.{AreOwnLinks}
use Rattle.lnbd_course.specs.Failed.{AllStand}
use Rattle.lnbd_course.specs.Far.{Far}
use Rattle.lnbd_course.specs.FarCourse.{FarCourse, IsSettled}
use Rattle.lnbd_course.specs.Spares.{ReadsNoZeros}
use Rattle.lnbd_course.proofs.Address.{given_stays, is_called, is_there, target_stays}
use Rattle.lnbd_course.proofs.Failing.{there_or_apart}
use Rattle.lnbd_course.proofs.Holding.{not_before, one_has}
use Rattle.lnbd_course.proofs.Later.{told_later}
use Rattle.lnbd_course.proofs.Parts.{all_run, none_unread, run_of, turn_runs}
use Rattle.lnbd_course.proofs.Quiet.{dealt_stays, links_stay}
use Rattle.lnbd_course.proofs.Spared.{parts_spare_far}
use Rattle.lnbd_course.proofs.Turning.{Turned, steps, turns_all}
use Rattle.lnbd_course.proofs.Unread.{AsksSo, drives_asks}
use Rattle.lnbd_conduct.specs.Begun.{opened}
use Rattle.lnbd_conduct.specs.Told.{Told}
use Rattle.lnbd_copy.specs.Faults.{GoesIdly}
use Rattle.lnbd_copy.proofs.FailLemmas.{all_stand}
use Rattle.lnbd_copy.proofs.IdleLemmas.{StaysIdly, idly_adds, idly_none, idly_then, told_idly}
use Rattle.lnbd_copy.proofs.TurnLemmas.{none_some, since_on, some_same, told_map}
use Rattle.lnbd_connections.specs.Asks.{Asks, AsksNone, DialsOnly, WasSettled}
use Rattle.lnbd_connections.specs.Steps.{Dials, Goes}
use Rattle.lnbd_connections.specs.Way.{IsUnderWay, Way}
use Rattle.lnbd_connections.proofs.StepLemmas.{dials}
use Rattle.lnbd_copy.specs.Lasting.{Lasts}
use Rattle.lnbd_copy.proofs.LastLemmas.{lasts_adds, lasts_none, lasts_then}

-- A turn asks nothing of a handle.

same_asked : (event : Event Ticket) (before : History Ticket) → is_issue event ≡ false → (cookie : ℕ) → request (event ∷ before) cookie ≡ request before cookie
same_asked (Set setting) before other cookie = refl
same_asked (StrictMode bits) before other cookie = refl
same_asked Start before other cookie = refl
same_asked (Opt option) before other cookie = refl
same_asked Abort before other cookie = refl
same_asked (Issue command) before other cookie = absurd (false≢true (sym other))
same_asked (Refuse command why) before other cookie = refl
same_asked Disconnect before other cookie = refl
same_asked (Wrote n) before other cookie = refl
same_asked (Arrived bytes answers) before other cookie = refl
same_asked (End answers) before other cookie = refl
same_asked (LinkFailed answers) before other cookie = refl
same_asked (Retire retired) before other cookie = refl
same_asked ClearLog before other cookie = refl
same_asked Close before other cookie = refl

module _ (old : Histories) where
  abbrev AskAsOld : board.Seen → Histories → Type 0
  AskAsOld now histories = (link cookie : ℕ) → request (histories link) cookie ≡ request (old link) cookie

  event_asks : (link : ℕ) (event : Event Ticket) (before after : Histories) → Happens link event before after → is_issue event ≡ false →
      (now now' : board.Seen) → AskAsOld now before → AskAsOld now' after
  event_asks link event before after happens other now now' same n cookie = go (cases_eq n link)
    where
      go : (n ≡ link) ⊎ (n ≡ link → ⊥) → request (after n) cookie ≡ request (old n) cookie
      go (inl is) =
          subst (λ (m : ℕ). request (after m) cookie ≡ request (old m) cookie) (sym is)
          (ap (λ (h : History Ticket). request h cookie) happens.here ∙ same_asked event (before link) other cookie ∙ same link cookie)
      go (inr differ) = ap (λ (h : History Ticket). request h cookie) (happens.others n differ) ∙ same n cookie

only_if_some : {A : Type 0} (test : Bool) (one : Option A) (x : A) → only_if test one ≡ Some x → one ≡ Some x
only_if_some true one x e = e
only_if_some false one x e = absurd (none_some x e)

in_middle : (front back : List Request) (r : Request) → IsIn r (front ++ r ∷ back)
in_middle [] back r = inl refl
in_middle (x ∷ front) back r = inr (in_middle front back r)

-- a command that a history was asked
record IsAsked (history : History Ticket) (cookie : ℕ) (command : Command Nobody) : Type 0 where
  asks : commands.Request Ticket
  is : request history cookie ≡ Some asks
  same : bare asks ≡ command

-- it is in the list
listed_here : (histories : Histories) (requests : List Request) (link cookie : ℕ) (command : Command Nobody) → AllTrack histories requests → IsAsked (histories link) cookie command →
    Under link cookie command requests
listed_here histories requests link cookie command all a =
    let r : Request = requested.request link cookie a.asks.flight.done.callback (record { command = bare a.asks; outcome = outcome_after (histories link) cookie }) in
    let there = found link cookie r requests ((all link).each cookie ∙ ap (λ o. request_of link cookie o (outcome_after (histories link) cookie)) a.is) in
    record { request = r; within = subst (IsIn r) (sym there.is) (in_middle there.front there.back r); on = refl; by = refl; asks = a.same }

-- A part of a turn.
module _ (far : Far) (way : Way) (now now' : board.Seen) (calls part : List wire.Call) (before after : List (Seen Ticket)) (ending : Ending)
    (b : FarCourse far way.at way.size way.how way.slices now calls before way.asked way.known) (turns : Turns steps before now part after now' ending) (stands : AllStand after) where
  abbrev old : Histories
  old = b.course.histories

  abbrev all : List wire.Call
  all = calls ++ part

  t : Turned (AskAsOld old) before after now' old
  t = turns_all (AskAsOld old)
      (λ link event one other happens now now' same unissued plays. event_asks old link event one other happens unissued now now' same)
      (λ link event one other happens now same unissued still. event_asks old link event one other happens unissued now now same)
      before now part after now' ending old turns b.course.drive.own b.course.held (λ link cookie. refl)

  none_given : (link : ℕ) → is_given link part ≡ false
  none_given link = turns_give_none steps link part before after now now' ending turns

  target_is_still : (link : ℕ) → target_of link all ≡ target_of link calls
  target_is_still link = target_stays link calls part (none_given link)

  -- each link says what the history says that its handle has then
  says : (link : ℕ) → AsksSo (t.histories link) (on_link link all)
  says link = elim (there_or_apart link after stands) [
    | inl h ↦ (
        let run = run_of all after h.index h.seen h.there
        (turn_runs calls before now part after now' ending turns (all_run calls before b.course.drive.drive b.course.drive.plain) (none_unread before b.course.drive.plain) b.course.drive.own) in
        let stand = h.stands.stands in
        subst (λ (n : ℕ). AsksSo (t.histories n) (on_link n all)) h.same
        (subst (λ (x : History Ticket). AsksSo x (on_link h.seen.link all)) (sym (one_has h.index h.seen t.histories after h.there t.held))
        (drives_asks h.stands.limit h.seen.link all h.seen.history h.seen.unread stand.lawful run.spelled stand.going run.off run.drives)))
    | inr apart ↦ (
        let was = t.was_apart link apart in
        let said = b.course.parted link was in
        let is_of_ = b.parted link was in
        subst (λ (x : History Ticket). AsksSo x (on_link link all)) (sym (t.others link was))
        (subst (AsksSo (old link)) (sym (said_stays link calls part (turns_pass_others steps link part before after now now' ending was turns)))
        (record { requests = said.requests; name = is_of_.name; told = λ size told. (let s = is_of_.told size told in (s, (is_of_.size size s).0)) })))
  ]

  -- what was asked on a link its history had been asked before
  asked_before : (link cookie : ℕ) (command : Command Nobody) → asked_on (on_link link all) cookie ≡ Some command → IsAsked (old link) cookie command
  asked_before link cookie command e =
      go (nat_le cookie (written (t.histories link))) (request (old link) cookie) refl
      (sym (ap (λ (o : Option (commands.Request Ticket)). if nat_le cookie (written (t.histories link)) then option_map bare o else None) (t.stood link cookie))
      ∙ sym ((says link).requests cookie) ∙ e)
    where
      go : (out : Bool) (o : Option (commands.Request Ticket)) → request (old link) cookie ≡ o → (if out then option_map bare (request (old link) cookie) else None) ≡ Some command →
          IsAsked (old link) cookie command
      go true (Some asks) is k = record { asks = asks; is = is; same = some_same (bare asks) command (sym (ap (λ (o : Option (commands.Request Ticket)). option_map bare o) is) ∙ k) }
      go true None is k = absurd (none_some command (sym (ap (λ (o : Option (commands.Request Ticket)). option_map bare o) is) ∙ k))
      go false o is k = absurd (none_some command k)

  own_links : AreOwnLinks way.at way.at all
  own_links = record {
    connected = λ link given. inl (target_is_still link ∙ b.placed.address link (sym (given_stays link calls part (none_given link)) ∙ given));
    used = λ link free.
        let unused = b.course.unused link (not_before link calls part free) in
        both_off link calls part unused.quiet (turns_pass_others steps link part before after now now' ending unused.apart turns);
  }

  -- once the size is settled it was told
  settled : (size : Option ℕ) → IsSettled size calls old → WasSettled way.at size all
  settled None s = tt
  settled (Some size) s =
      let later = t.later s.link in
      let said = (says s.link).told size (told_later (old s.link) (t.histories s.link) size later s.told) in
      let address : target_of s.link all ≡ Some way.at.to = target_is_still s.link ∙ b.placed.address s.link s.given in
      let here : is_of way.at all s.link ≡ true =
      ap (λ o. is_target way.at.to o && is_name way.at.name (name_asked (on_link s.link all).wishes)) address
      ∙ ap (λ c. c && is_name way.at.name (name_asked (on_link s.link all).wishes)) (is_there way.at.to)
      ∙ ap (is_name way.at.name) (said.1 ∙ ap (λ n. Some n) (later.name ∙ b.placed.name s.link s.given))
      ∙ is_called way.at.name in
      record { link = s.link; told = ap (λ (c : Bool). only_if c (size_told (on_link s.link all))) here ∙ said.0 }

  pub turn_asks : now.error ≡ None → Asks far way now.flushing all
  turn_asks well = record {
    links = own_links;
    told = settled way.size b.told;
    asked = b.course.stood.stood.asked;
    only = λ link cookie command e.
        let is = only_if_some (is_of way.at all link) (asked_on (on_link link all) cookie) command e in
        listed_here old b.course.stood.stood.asked link cookie command b.course.stood.stood.tracked (asked_before link cookie command is);
    rows = now.rows;
    stands = b.course.stood.stood.stands well;
    flushes = b.course.stood.stood.counted.flushes;
    numbered = b.course.stood.stood.numbered;
    spares = λ made is block plan. parts_spare_far made way.at way.size way.how way.slices now now' calls part before after ending block way.asked way.known
        (subst (λ (f : Far). FarCourse f way.at way.size way.how way.slices now calls before way.asked way.known) is b) well turns stands plan;
  }

-- So it is with what was asked between two turns,
pub asks_still : (far : Far) (way : Way) (now : board.Seen) (calls : List wire.Call) (held : List (Held Ticket)) → now.error ≡ None → IsUnderWay far way now calls held →
    Asks far way now.flushing calls
asks_still far way now calls held well on = subst (λ (l : List wire.Call). Asks far way now.flushing l) (append-nil calls)
    (turn_asks far way now now calls [] on.seens on.seens (Whole (Some 0)) on.stands
    (Breaks_off on.seens now [] on.seens now (Whole (Some 0)) refl refl refl refl) (all_stand held on.seens on.at) well)

-- and it stays so with calls that read and write no link, and make none.
pub asks_stay : (far : Far) (way : Way) (flushing : Bool) → StaysIdly (Asks far way flushing)
asks_stay far way flushing calls more quiet none a = record {
  links = links_stay calls more quiet none way.at way.at a.links;
  told = told way.size a.told;
  asked = a.asked;
  only = λ link cookie command e. a.only link cookie command (sym (ap (λ (d : Dealt). d.asked link cookie) (dealt_stays calls more quiet none way.at)) ∙ e);
  rows = a.rows;
  stands = a.stands;
  flushes = a.flushes;
  numbered = a.numbered;
  spares = λ made is block plan. subst (ReadsNoZeros block) (sym (dealt_stays calls more quiet none way.at)) (a.spares made is block plan);
}
  where
    told : (size : Option ℕ) → WasSettled way.at size calls → WasSettled way.at size (calls ++ more)
    told None is = tt
    told (Some size) is = subst (λ (d : Dealt). WasToldSize d size) (sym (dealt_stays calls more quiet none way.at)) is

-- Steps.

-- A turn, whole or short.
record IsTurn (before : List (Seen Ticket)) (now : board.Seen) (calls : List wire.Call) (after : List (Seen Ticket)) (now' : board.Seen) : Type 0 where
  ending : Ending
  turns : Turns steps before now calls after now' ending

turned_asks : (now now' : board.Seen) (held held' : List (Held Ticket)) (a b : Option (List wire.Call)) (Leads : List (Seen Ticket) → List wire.Call → List (Seen Ticket) → Type 0) →
    ((before : List (Seen Ticket)) (calls : List wire.Call) (after : List (Seen Ticket)) → Leads before calls after → IsTurn before now calls after now') →
    poll.Goes a b (λ seens. AreAt held seens) (λ seens. AreAt held' seens) Leads → now.error ≡ None → AsksNone now held a b
turned_asks now now' held held' a b Leads leads goes well = record {
  on = λ far way start s told. inr (record {
    since = λ all is.
        let first = (goes s.seens s.at).grown all is in
        let since = told.since first.0 first.1 in
        let went = goes since.is.seens since.is.at in
        let grown = went.grown all is in
        let same : grown.0 ≡ first.0 = some_same grown.0 first.0 (sym grown.1 ∙ first.1) in
        let turn = leads since.is.seens went.calls went.after went.leads in
        since_on start first.0 all went.calls (grown.2 ∙ ap (λ (l : List wire.Call). l ++ went.calls) same) since
        (turn_asks far way now now' since.calls went.calls since.is.seens went.after turn.ending since.is.stands turn.turns (all_stand held' went.after went.at) well);
  });
  lasts = λ s. record {
    on = λ all is.
        let went = goes s.seens s.at in
        let grown = went.grown all is in
        record { before = grown.0; after = went.calls; are = grown.2; is = grown.1 };
  };
}

pub turn_asks_none : (a b : Option (List wire.Call)) (f g : ℕ) (r : Result Turn CopyFault) (now now' : board.Seen) (held held' : List (Held Ticket)) →
    IfOk r (λ turn. poll.Goes a b (λ seens. AreAt held seens) (λ seens. AreAt held' seens) (λ before calls after. TurnsWhole steps f g turn before now calls after now')) →
    OnErr r (poll.Goes a b (λ seens. AreAt held seens) (λ seens. AreAt held' seens) (λ before calls after. TurnsCut steps f g before now calls after now')) → now.error ≡ None →
    AsksNone now held a b
turn_asks_none a b f g (Ok turn) now now' held held' whole cut well =
    turned_asks now now' held held' a b (λ before calls after. TurnsWhole steps f g turn before now calls after now') (λ before calls after w. record { ending = Whole w.moved; turns = w.turns })
    whole well
turn_asks_none a b f g (Err why) now now' held held' whole cut well =
    turned_asks now now' held held' a b (λ before calls after. TurnsCut steps f g before now calls after now') (λ before calls after c. record { ending = c.ending; turns = c.turns }) cut well

pub asks_none : (now : board.Seen) (held : List (Held Ticket)) (told : Option (List wire.Call)) → AsksNone now held told told
asks_none now held told = record { on = λ far way start s is. inl (idly_none told); lasts = λ s. lasts_none told }

pub idly_lasts : (a b : Option (List wire.Call)) → GoesIdly a b → Lasts a b
idly_lasts a b idly = record { on = λ all is. (let idle = idly.on all is in record { before = idle.before; after = idle.more; are = idle.are; is = idle.was }) }

-- one of both, and behind it calls that read and write no link
still_either : (far : Far) (way : Way) (flushing : Bool) (start a b c : Option (List wire.Call)) → GoesIdly b c → GoesIdly a b ⊎ Told start b (Asks far way flushing) →
    GoesIdly a c ⊎ Told start c (Asks far way flushing)
still_either far way flushing start a b c idly (inl one) = inl (idly_then a b c one idly)
still_either far way flushing start a b c idly (inr asks) = inr (told_idly (Asks far way flushing) start b c (asks_stay far way flushing) idly asks)

-- one of both, and behind it another of both
then_either : (far : Far) (way : Way) (flushing : Bool) (start a b c : Option (List wire.Call)) → GoesIdly a b ⊎ Told start b (Asks far way flushing) →
    GoesIdly b c ⊎ Told start c (Asks far way flushing) → GoesIdly a c ⊎ Told start c (Asks far way flushing)
then_either far way flushing start a b c one (inl idly) = still_either far way flushing start a b c idly one
then_either far way flushing start a b c one (inr asks) = inr asks

pub asks_idly : (now : board.Seen) (held : List (Held Ticket)) (a b c : Option (List wire.Call)) → AsksNone now held a b → GoesIdly b c → AsksNone now held a c
asks_idly now held a b c one idly = record {
  on = λ far way start s is. still_either far way now.flushing start a b c idly (one.on far way start s is);
  lasts = λ s. lasts_then a b c (one.lasts s) (idly_lasts b c idly);
}

pub asks_then : (now now2 : board.Seen) (held held2 : List (Held Ticket)) (a b c : Option (List wire.Call)) → Goes now held a now2 held2 b → AsksNone now held a b → AsksNone now2 held2 b c →
    AsksNone now held a c
asks_then now now2 held held2 a b c goes one two = record {
  on = λ far way start s is. then_either far way now.flushing start a b c (one.on far way start s is)
      (subst (λ (f : Bool). GoesIdly b c ⊎ Told start c (Asks far way f)) (goes.filed s).flushing (two.on far way start (goes.stand s) (goes.on far way start s is)));
  lasts = λ s. lasts_then a b c (one.lasts s) (two.lasts (goes.stand s));
}

-- Connections.

pub dials_only_none : (place : Place) (now : board.Seen) (held : List (Held Ticket)) (told : Option (List wire.Call)) → DialsOnly place now held told told
dials_only_none place now held told = record { on = λ far way start there well s is. inl (idly_none told); lasts = lasts_none told }

-- one that was refused
pub dials_only_refused : (place : Place) (now : board.Seen) (held : List (Held Ticket)) (a b : Option (List wire.Call)) → Adds a b (wire.Connect place.to None) → DialsOnly place now held a b
dials_only_refused place now held a b adds = record {
  on = λ far way start there well s is. inl (idly_adds a b (wire.Connect place.to None) (λ link. refl) (λ link. refl) adds);
  lasts = lasts_adds a b (wire.Connect place.to None) adds;
}

-- one on which a handle is held, or would have been
pub dials_only_one : (a b c : Option (List wire.Call)) (place : Place) (now : board.Seen) (held : List (Held Ticket)) (link : ℕ) (extents : Bool) (handle : Machine Ticket) →
    Adds a b (wire.Connect place.to (Some link)) → ((calls : List wire.Call) → a ≡ Some calls → is_given link calls ≡ false) → length place.name ≤ max_text →
    StandsFor max_unretired (opened place.name extents) handle → GoesIdly b c → DialsOnly place now held a c
dials_only_one a b c place now held link extents handle adds fresh short stands idly = record {
  on = λ far way start there well s is.
      let more : List (Held Ticket) = held ++ record { link = link; handle = handle; inbox = [] } ∷ [] in
      let dialed = dials a b b place now held more link extents handle adds fresh refl short stands refl in
      inr (told_idly (Asks far way now.flushing) start b c (asks_stay far way now.flushing) idly (told_map start b (λ calls on. asks_still far way now calls more well on) (dialed.on far way start there is)));
  lasts = lasts_then a b c (lasts_adds a b (wire.Connect place.to (Some link)) adds) (idly_lasts b c idly);
}

-- and one more
pub dials_only_then : (place : Place) (more : ℕ) (now now2 : board.Seen) (held held2 : List (Held Ticket)) (a b c : Option (List wire.Call)) → now2 ≡ now → Dials place more now held a held2 b →
    DialsOnly place now held a b → DialsOnly place now2 held2 b c → DialsOnly place now held a c
dials_only_then place more now now2 held held2 a b c same dialed one last =
    let two = subst (λ (s : board.Seen). DialsOnly place s held2 b c) same last in
    record {
      on = λ far way start there well s is.
          then_either far way now.flushing start a b c (one.on far way start there well s is) (two.on far way start there well (dialed.stand s) (dialed.on far way start there is));
      lasts = lasts_then a b c one.lasts two.lasts;
    }
