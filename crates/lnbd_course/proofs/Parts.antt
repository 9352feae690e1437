-- What the calls of a part of a turn show as asked, handles were asked before the turn.
use Rattle.std.proofs.Common.{◌≡◌, ◌≢◌, ◌⊎◌, inl, inr, ℕ, zero, suc, ◌≤◌, Bool, true, false, not, ◌&&◌, List, [], ◌∷◌, ◌++◌, cond, Option, Some, None, slice_get, nat_le, refl, ap, sym, subst, ◌∙◌, append_assoc, append-nil, arith, if◌then◌else◌}
use Rattle.std.proofs.lemmas.Bool.{cases_eq, false≢true}
use Rattle.std.specs.Option.{option_map}
use Rattle.lnbd_model.specs.declared.target.Place.{Place}
use Rattle.lnbd_model.specs.declared.target.Target.{Target}
use Rattle.lnbd_link.specs.Call as wire
use Rattle.lnbd_link.specs.Numbers.{is_given}
use Rattle.lnbd_link.specs.Traffic.{target_of}
use Rattle.lnbd_history.specs.Commands as commands
use Rattle.lnbd_history.specs.Commands.{Command}
use Rattle.lnbd_history.specs.Events.{Event, History, Set, StrictMode, Start, Opt, Abort, Issue, Refuse, Disconnect, Wrote, Arrived, End, LinkFailed, Retire, ClearLog, Close}
use Rattle.lnbd_history.specs.History.{asked, request}
use Rattle.lnbd_history.proofs.Cookies.{request_past, request_zero}
use Rattle.lnbd_asked.specs.Driven.{outcome_after, written}
use Rattle.lnbd_asked.specs.Link.{Nobody}
use Rattle.lnbd_asked.specs.Transcript.{asked_on, bare, dealt_with, is_name, is_of, is_target, name_asked, on_link, only_if, size_told}
use Rattle.lnbd_poll.specs.Alone.{AreApart, HaveOwnLinks, calls_on}
use Rattle.lnbd_poll.specs.Seen.{Seen}
use Rattle.lnbd_poll.specs.Turns.{Turns, All_took, Takes, Runs_short, Breaks_off, Ending}
use Rattle.lnbd_drives.specs.Driving.{AllDrive, AllPlain, AllPass}
use Rattle.lnbd_drives.proofs.Exports.{turns_give_none}
use Rattle.lnbd_drives.proofs.Passing.{both_off, said_stays}
use Rattle.lnbd_drives.proofs.Taking.{Runs, runs_past, part_ran, part_off}
use Rattle.lnbd_drives.proofs.Turning.{turns_pass_others}
use Rattle.lnbd_plan.specs.declared.grid.Slice.{Slice}
use Rattle.lnbd_board.specs.declared.how.How.{How}
use Rattle.lnbd_board.specs.declared.ticket.Ticket.{Ticket}
use Rattle.lnbd_board.specs.Files as board
use Rattle.lnbd_board.specs.Holds.{WasToldSize}
use Rattle.lnbd_board.specs.Pieces.{IsDense}
use Rattle.lnbd_board.specs.Requests.{IsIn, Request, Under}
use Rattle.lnbd_board.specs.Requests as requested
use Rattle.lnbd_board.specs.Rows.{AsksOfDestination}
use Rattle.lnbd_board.proofs.Lists.{in_each}
use Rattle.lnbd_tracks.specs.Tracks.{AllTrack, Happens, Histories, is_issue, told_by, request_of}
use Rattle.lnbd_tracks.proofs.Under.{found}
use Rattle.lnbd_course.specs.Asks.{AreOwnLinks}
use Rattle.lnbd_course.specs.Between.{Between, place_of}
use Rattle.lnbd_course.specs.Counted.{flushes_of, is_flush}
use Rattle.lnbd_course.specs.Course.{AllHave, beside, on_side}
use Rattle.lnbd_course.specs.Failed.{AllStand}
use Rattle.lnbd_course.specs.UnderWay.{AllHeld}
use Rattle.lnbd_course.specs.Parts.{NothingWasAsked, PartsAskOnce}
use Rattle.lnbd_course.proofs.Address.{both, is_called, is_there, name_is, target_is, target_stays, given_stays}
use Rattle.lnbd_course.proofs.Dense.{dense_of}
use Rattle.lnbd_course.proofs.Failing.{says as driven_says, there_or_apart}
use Rattle.lnbd_course.proofs.Flushing.{flushes, flushes_same, none_there, one_at_most}
use Rattle.lnbd_course.proofs.Holding.{not_before, one_has}
use Rattle.lnbd_course.proofs.Later.{told_later}
use Rattle.lnbd_course.proofs.Once.{AreListed, asked_once, each_asked, none_meet}
use Rattle.lnbd_course.proofs.Placed.{given_by_target, place_same}
use Rattle.lnbd_course.proofs.Standing.{on_here}
use Rattle.lnbd_course.proofs.Turning.{Turned, steps, turns_all}
use Rattle.lnbd_course.proofs.Unread.{AsksSo, drives_asks}

none_some : {A : Type 0} (one : A) → None ≡ Some one → ⊥
none_some one e = cc

some_same : {A : Type 0} (one other : A) → Some one ≡ Some other → one ≡ other
some_same one other e = cc

either_none : (b : Bool) → (let none : Option (Command Nobody) = None in if b then none else none) ≡ None
either_none true = refl
either_none false = refl

-- Each handle runs, its link being its own.

abbrev pub AllRun : List wire.Call → List (Seen Ticket) → Type 0
AllRun calls [] = Unit {0}
AllRun calls (seen ∷ others) = Runs seen.link calls seen.history seen.unread × AllRun calls others

abbrev pub NoneUnread : List (Seen Ticket) → Type 0
NoneUnread [] = Unit {0}
NoneUnread (seen ∷ others) = (seen.unread ≡ []) × NoneUnread others

pub all_run : (calls : List wire.Call) (seens : List (Seen Ticket)) → AllDrive calls seens → AllPlain seens → AllRun calls seens
all_run calls [] drive plain = tt
all_run calls (seen ∷ others) drive plain = (record { drives = drive.0; spelled = plain.0.spelled; off = plain.0.mode }, all_run calls others drive.1 plain.1)

pub none_unread : (seens : List (Seen Ticket)) → AllPlain seens → NoneUnread seens
none_unread [] plain = tt
none_unread (seen ∷ others) plain = (plain.0.arrived, none_unread others plain.1)

all_past : (calls more : List wire.Call) (seens : List (Seen Ticket)) → AllRun calls seens → AllPass more seens → AllRun (calls ++ more) seens
all_past calls more [] run off = tt
all_past calls more (seen ∷ others) run off = (runs_past seen.link calls seen.history seen.unread more run.0 off.0, all_past calls more others run.1 off.1)

-- a part passes the links of the others
others_pass : (link : ℕ) (own : List wire.Call) (others : List (Seen Ticket)) → ((n : ℕ) → link ≢ n → calls_on n own ≡ []) → AreApart link others → AllPass own others
others_pass link own [] off apart = tt
others_pass link own (seen ∷ others) off apart = (off seen.link (λ is. apart.0 (sym is)), others_pass link own others off apart.1)

-- So it is after a turn, whole or short, though bytes may be unread.
pub turn_runs : (calls : List wire.Call) (before : List (Seen Ticket)) (now : board.Seen) (part : List wire.Call) (after : List (Seen Ticket)) (now' : board.Seen) (ending : Ending) → Turns steps before now part after now' ending →
    AllRun calls before → NoneUnread before → HaveOwnLinks before → AllRun (calls ++ part) after
turn_runs calls before now part after now' ending (All_took _ _ _ _ _ _ is none after_is world_is end) run unread own = subst (AllRun (calls ++ part)) (sym after_is) tt
turn_runs calls before now part after now' ending (Takes _ _ _ _ _ _ seen others notice mine here half moved other there rest is turns enough more calls_are after_is end) run unread own =
    let run' = subst (AllRun calls) is run in
    let unread' = subst NoneUnread is unread in
    let links = subst HaveOwnLinks is own in
    let ran = part_ran steps calls notice seen now mine here half moved turns unread'.0 (subst (Runs seen.link calls seen.history) unread'.0 run'.0) in
    let past = all_past calls mine others run'.1 (others_pass seen.link mine others (λ n d. part_off steps n notice seen now mine here half moved d turns) links.0) in
    let all : List wire.Call = (calls ++ mine) ++ other in
    let all_are : all ≡ calls ++ part = append_assoc calls mine other ∙ ap (λ cs. calls ++ cs) (sym calls_are) in
    let runs : Runs here.link all here.history here.unread =
    subst (λ (n : ℕ). Runs n all here.history here.unread) (sym ran.same) (runs_past seen.link (calls ++ mine) here.history here.unread other ran.runs (turns_pass_others steps seen.link other others there half now' rest links.0 more)) in
    subst (AllRun (calls ++ part)) (sym after_is) (subst (λ (cs : List wire.Call). AllRun cs (here ∷ there)) all_are (runs, turn_runs (calls ++ mine) others half other there now' rest more past unread'.1 links.1))
turn_runs calls before now part after now' ending (Runs_short _ _ _ _ _ _ seen others here moved is turns after_is end) run unread own =
    let run' = subst (AllRun calls) is run in
    let unread' = subst NoneUnread is unread in
    let links = subst HaveOwnLinks is own in
    let ran = part_ran steps calls _ seen now part here now' moved turns unread'.0 (subst (Runs seen.link calls seen.history) unread'.0 run'.0) in
    let past = all_past calls part others run'.1 (others_pass seen.link part others (λ n d. part_off steps n _ seen now part here now' moved d turns) links.0) in
    subst (AllRun (calls ++ part)) (sym after_is) (subst (λ (n : ℕ). Runs n (calls ++ part) here.history here.unread) (sym ran.same) ran.runs, past)
turn_runs calls before now part after now' ending (Breaks_off _ _ _ _ _ _ none after_is world_is end) run unread own =
    subst (AllRun (calls ++ part)) (sym after_is) (subst (λ (cs : List wire.Call). AllRun cs before) (sym (ap (λ (l : List wire.Call). calls ++ l) none ∙ append-nil calls)) run)

pub run_of : (calls : List wire.Call) (seens : List (Seen Ticket)) (index : ℕ) (seen : Seen Ticket) → slice_get seens index ≡ Some seen → AllRun calls seens → Runs seen.link calls seen.history seen.unread
run_of calls [] index seen there run = absurd (none_some seen there)
run_of calls (first ∷ others) zero seen there run = subst (λ (s : Seen Ticket). Runs s.link calls s.history s.unread) (some_same first seen there) run.0
run_of calls (first ∷ others) (suc index) seen there run = run_of calls others index seen there run.1

-- A turn asks nothing of a handle.

-- the same was asked by both
record SameAsked (one other : History Ticket) : Type 0 where
  requests : (cookie : ℕ) → request one cookie ≡ request other cookie
  issued : (asked one).issued ≡ (asked other).issued

none_issued : (event : Event Ticket) (before : History Ticket) → is_issue event ≡ false → SameAsked (event ∷ before) before
none_issued (Set setting) before other = record { requests = λ cookie. refl; issued = refl }
none_issued (StrictMode bits) before other = record { requests = λ cookie. refl; issued = refl }
none_issued Start before other = record { requests = λ cookie. refl; issued = refl }
none_issued (Opt option) before other = record { requests = λ cookie. refl; issued = refl }
none_issued Abort before other = record { requests = λ cookie. refl; issued = refl }
none_issued (Issue command) before other = absurd (false≢true (sym other))
none_issued (Refuse command why) before other = record { requests = λ cookie. refl; issued = refl }
none_issued Disconnect before other = record { requests = λ cookie. refl; issued = refl }
none_issued (Wrote n) before other = record { requests = λ cookie. refl; issued = refl }
none_issued (Arrived bytes answers) before other = record { requests = λ cookie. refl; issued = refl }
none_issued (End answers) before other = record { requests = λ cookie. refl; issued = refl }
none_issued (LinkFailed answers) before other = record { requests = λ cookie. refl; issued = refl }
none_issued (Retire retired) before other = record { requests = λ cookie. refl; issued = refl }
none_issued ClearLog before other = record { requests = λ cookie. refl; issued = refl }
none_issued Close before other = record { requests = λ cookie. refl; issued = refl }

asked_then : (one other more : History Ticket) → SameAsked one other → SameAsked other more → SameAsked one more
asked_then one other more a b = record { requests = λ cookie. a.requests cookie ∙ b.requests cookie; issued = a.issued ∙ b.issued }

module _ (old : Histories) where
  abbrev AskAsOld : board.Seen → Histories → Type 0
  AskAsOld now histories = (link : ℕ) → SameAsked (histories link) (old link)

  event_asks : (link : ℕ) (event : Event Ticket) (before after : Histories) → Happens link event before after → is_issue event ≡ false → (now now' : board.Seen) → AskAsOld now before → AskAsOld now' after
  event_asks link event before after happens other now now' same n = go (cases_eq n link)
    where
      go : (n ≡ link) ⊎ (n ≡ link → ⊥) → SameAsked (after n) (old n)
      go (inl is) =
          subst (λ (m : ℕ). SameAsked (after m) (old m)) (sym is)
          (subst (λ (h : History Ticket). SameAsked h (old link)) (sym happens.here) (asked_then (event ∷ before link) (before link) (old link) (none_issued event (before link) other) (same link)))
      go (inr differ) = subst (λ (h : History Ticket). SameAsked h (old n)) (sym (happens.others n differ)) (same n)

-- Where no command was issued, none was asked.

pub none_asked : (history : History Ticket) → (asked history).issued ≡ 0 → (cookie : ℕ) → request history cookie ≡ None
none_asked history none zero = request_zero history
none_asked history none (suc n) = request_past history (suc n) (omega (arith, none))

-- Of these handles each one issued none.
abbrev pub AllUnissued : List (Seen Ticket) → Type 0
AllUnissued [] = Unit {0}
AllUnissued (seen ∷ others) = ((asked seen.history).issued ≡ 0) × AllUnissued others

unissued_of : (seens : List (Seen Ticket)) (index : ℕ) (seen : Seen Ticket) → slice_get seens index ≡ Some seen → AllUnissued seens → (asked seen.history).issued ≡ 0
unissued_of [] index seen there all = absurd (none_some seen there)
unissued_of (first ∷ others) zero seen there all = subst (λ (s : Seen Ticket). (asked s.history).issued ≡ 0) (some_same first seen there) all.0
unissued_of (first ∷ others) (suc index) seen there all = unissued_of others index seen there all.1

all_unissued : (histories : Histories) (seens : List (Seen Ticket)) → AllHave histories seens → ((link : ℕ) → (asked (histories link)).issued ≡ 0) → AllUnissued seens
all_unissued histories [] have none = tt
all_unissued histories (seen ∷ others) have none = (subst (λ (h : History Ticket). (asked h).issued ≡ 0) have.0 (none seen.link), all_unissued histories others have.1 none)

-- Where each link that was given is that of a handle, so it is on each link.
module _ (from to : Place) (size : Option ℕ) (how : How) (has : ℕ → Bool) (slices : List Slice) (now : board.Seen) (calls : List wire.Call) (seens : List (Seen Ticket)) (b : Between from to size how has slices now calls seens) (stands : AllStand seens)
    (held : AllHeld calls seens) (unissued : AllUnissued seens) where
  pub links_unissued : (link : ℕ) → (asked (b.course.histories link)).issued ≡ 0
  links_unissued link = elim (there_or_apart link seens stands) [
    | inl h ↦
        subst (λ (n : ℕ). (asked (b.course.histories n)).issued ≡ 0) h.same
        (subst (λ (x : History Ticket). (asked x).issued ≡ 0) (sym (one_has h.index h.seen b.course.histories seens h.there b.course.held)) (unissued_of seens h.index h.seen h.there unissued))
    | inr apart ↦ subst (λ (x : History Ticket). (asked x).issued ≡ 0) (sym (b.course.unused link (held link apart)).blank) refl
  ]

  -- so nothing was asked yet
  pub nothing_yet : NothingWasAsked calls
  nothing_yet link cookie = (driven_says from to size how has slices now calls seens b stands link).requests cookie
      ∙ ap (λ (o : Option (commands.Request Ticket)). if nat_le cookie (written (b.course.histories link)) then option_map bare o else None) (none_asked (b.course.histories link) (links_unissued link) cookie)
      ∙ either_none (nat_le cookie (written (b.course.histories link)))

only_if_some : {A : Type 0} (test : Bool) (one : Option A) (x : A) → only_if test one ≡ Some x → (test ≡ true) × (one ≡ Some x)
only_if_some true one x e = (refl, e)
only_if_some false one x e = absurd (none_some x e)

in_middle : (front back : List Request) (r : Request) → IsIn r (front ++ r ∷ back)
in_middle [] back r = inl refl
in_middle (x ∷ front) back r = inr (in_middle front back r)

-- a command that a history was asked
record IsAsked (history : History Ticket) (cookie : ℕ) (command : Command Nobody) : Type 0 where
  asks : commands.Request Ticket
  is : request history cookie ≡ Some asks
  same : bare asks ≡ command

-- it is in the list of its side
listed_here : (side : ℕ → Bool) (histories : Histories) (requests : List Request) (link cookie : ℕ) (command : Command Nobody) → AllTrack (on_side side histories) requests → side link ≡ true → IsAsked (histories link) cookie command → Under link cookie command requests
listed_here side histories requests link cookie command all here a =
    let r : Request = requested.request link cookie a.asks.flight.done.callback (record { command = bare a.asks; outcome = outcome_after (histories link) cookie }) in
    let there = found link cookie r requests ((all link).each cookie
    ∙ ap (λ (h : History Ticket). told_by link cookie h) (on_here side histories link here)
    ∙ ap (λ o. request_of link cookie o (outcome_after (histories link) cookie)) a.is) in
    record { request = r; within = subst (IsIn r) (sym there.is) (in_middle there.front there.back r); on = refl; by = refl; asks = a.same }

-- A part of a turn.
module _ (from to : Place) (size : Option ℕ) (how : How) (has : ℕ → Bool) (slices : List Slice) (now now' : board.Seen) (calls part : List wire.Call) (before after : List (Seen Ticket)) (ending : Ending)
    (b : Between from to size how has slices now calls before) (turns : Turns steps before now part after now' ending) (stands : AllStand after) where
  abbrev old : Histories
  old = b.course.histories

  abbrev all : List wire.Call
  all = calls ++ part

  t : Turned (AskAsOld old) before after now' old
  t = turns_all (AskAsOld old)
      (λ link event one other happens now now' same unissued plays. event_asks old link event one other happens unissued now now' same)
      (λ link event one other happens now same unissued still. event_asks old link event one other happens unissued now now same)
      before now part after now' ending old turns b.course.drive.own b.course.held (λ link. record { requests = λ cookie. refl; issued = refl })

  none_given : (link : ℕ) → is_given link part ≡ false
  none_given link = turns_give_none steps link part before after now now' ending turns

  target_is_still : (link : ℕ) → target_of link all ≡ target_of link calls
  target_is_still link = target_stays link calls part (none_given link)

  -- each link says what the history says that its handle has then
  says : (link : ℕ) → AsksSo (t.histories link) (on_link link all)
  says link = elim (there_or_apart link after stands) [
    | inl h ↦ (
        let run = run_of all after h.index h.seen h.there
        (turn_runs calls before now part after now' ending turns (all_run calls before b.course.drive.drive b.course.drive.plain) (none_unread before b.course.drive.plain) b.course.drive.own) in
        let stand = h.stands.stands in
        subst (λ (n : ℕ). AsksSo (t.histories n) (on_link n all)) h.same
        (subst (λ (x : History Ticket). AsksSo x (on_link h.seen.link all)) (sym (one_has h.index h.seen t.histories after h.there t.held))
        (drives_asks h.stands.limit h.seen.link all h.seen.history h.seen.unread stand.lawful run.spelled stand.going run.off run.drives)))
    | inr apart ↦ (
        let was = t.was_apart link apart in
        let said = b.course.parted link was in
        let is_of_ = b.parted link was in
        subst (λ (x : History Ticket). AsksSo x (on_link link all)) (sym (t.others link was))
        (subst (AsksSo (old link)) (sym (said_stays link calls part (turns_pass_others steps link part before after now now' ending was turns)))
        (record { requests = said.requests; name = is_of_.name; told = λ size told. (let s = is_of_.told size told in (s, (is_of_.size size s).0)) })))
  ]

  -- what was asked on a link its history had been asked before
  asked_before : (link cookie : ℕ) (command : Command Nobody) → asked_on (on_link link all) cookie ≡ Some command → IsAsked (old link) cookie command
  asked_before link cookie command e = go (nat_le cookie (written (t.histories link))) (request (old link) cookie) refl (sym (ap (λ (o : Option (commands.Request Ticket)). if nat_le cookie (written (t.histories link)) then option_map bare o else None) ((t.stood link).requests cookie)) ∙ sym ((says link).requests cookie) ∙ e)
    where
      go : (out : Bool) (o : Option (commands.Request Ticket)) → request (old link) cookie ≡ o → (if out then option_map bare (request (old link) cookie) else None) ≡ Some command → IsAsked (old link) cookie command
      go true (Some asks) is k = record { asks = asks; is = is; same = some_same (bare asks) command (sym (ap (λ (o : Option (commands.Request Ticket)). option_map bare o) is) ∙ k) }
      go true None is k = absurd (none_some command (sym (ap (λ (o : Option (commands.Request Ticket)). option_map bare o) is) ∙ k))
      go false o is k = absurd (none_some command k)

  pub nothing_asked : ((link : ℕ) → (asked (old link)).issued ≡ 0) → NothingWasAsked all
  nothing_asked none link cookie = (says link).requests cookie
      ∙ ap (λ (o : Option (commands.Request Ticket)). if nat_le cookie (written (t.histories link)) then option_map bare o else None) ((t.stood link).requests cookie ∙ none_asked (old link) (none link) cookie)
      ∙ either_none (nat_le cookie (written (t.histories link)))

  -- and no command is issued in the turn
  pub still_unissued : ((link : ℕ) → (asked (old link)).issued ≡ 0) → AllUnissued after
  still_unissued none = all_unissued t.histories after t.held (λ link. (t.stood link).issued ∙ none link)

  -- Links.

  side_of : (source : Bool) (target : Option Target) → target ≡ Some (place_of from to source).to → (target ≡ Some from.to) ⊎ (target ≡ Some to.to)
  side_of true target is = inl is
  side_of false target is = inr is

  pub own_links : AreOwnLinks from to all
  own_links = record {
    connected = λ link given. side_of (has link) (target_of link all) (target_is_still link ∙ b.placed.address link (sym (given_stays link calls part (none_given link)) ∙ given));
    used = λ link free.
        let unused = b.course.unused link (not_before link calls part free) in
        both_off link calls part unused.quiet (turns_pass_others steps link part before after now now' ending unused.apart turns);
  }

  -- the side of a link that is of a place
  of_place : (place : Place) (link : ℕ) → is_of place all link ≡ true → place_of from to (has link) ≡ place
  of_place place link e =
      let mine = place_of from to (has link) in
      let c = both (is_target place.to (target_of link all)) (is_name place.name (name_asked (on_link link all).wishes)) e in
      let was : target_of link calls ≡ Some place.to = sym (target_is_still link) ∙ target_is place.to (target_of link all) c.0 in
      let given = given_by_target link calls place.to was in
      let called = (says link).name place.name (name_is place.name (name_asked (on_link link all).wishes) c.1) in
      place_same mine place (some_same mine.to place.to (sym (b.placed.address link given) ∙ was)) (sym (b.placed.name link given) ∙ sym (t.later link).name ∙ sym called)

  pub source_here : from ≢ to → (link : ℕ) → is_of from all link ≡ true → has link ≡ true
  source_here two link e = go (has link) refl
    where
      go : (side : Bool) → has link ≡ side → has link ≡ true
      go true is = is
      go false is = absurd (two (sym (sym (ap (place_of from to) is) ∙ of_place from link e)))

  destination_here : from ≢ to → (link : ℕ) → is_of to all link ≡ true → beside has link ≡ true
  destination_here two link e = go (has link) refl
    where
      go : (side : Bool) → has link ≡ side → beside has link ≡ true
      go false is = ap not is
      go true is = absurd (two (sym (ap (place_of from to) is) ∙ of_place to link e))

  -- Each request that was asked is in the list of its side.

  pub source_listed : from ≢ to → AreListed b.course.stood.source (dealt_with from all)
  source_listed two link cookie command e =
      let c = only_if_some (is_of from all link) (asked_on (on_link link all) cookie) command e in
      listed_here has old b.course.stood.source link cookie command b.course.stood.reads (source_here two link c.0) (asked_before link cookie command c.1)

  pub destination_listed : from ≢ to → AreListed b.course.stood.destination (dealt_with to all)
  destination_listed two link cookie command e =
      let c = only_if_some (is_of to all link) (asked_on (on_link link all) cookie) command e in
      listed_here (beside has) old b.course.stood.destination link cookie command b.course.stood.changes (destination_here two link c.0) (asked_before link cookie command c.1)

-- Once the size is settled it was told.
module _ (from to : Place) (size : ℕ) (how : How) (has : ℕ → Bool) (slices : List Slice) (now now' : board.Seen) (calls part : List wire.Call) (before after : List (Seen Ticket)) (ending : Ending)
    (b : Between from to (Some size) how has slices now calls before) (turns : Turns steps before now part after now' ending) (stands : AllStand after) where
  size_was_told : WasToldSize (dealt_with from (calls ++ part)) size
  size_was_told =
      let s = b.told.source in
      let all : List wire.Call = calls ++ part in
      let turned = t from to (Some size) how has slices now now' calls part before after ending b turns stands in
      let later = turned.later s.link in
      let said = (says from to (Some size) how has slices now now' calls part before after ending b turns stands s.link).told size (told_later (b.course.histories s.link) (turned.histories s.link) size later s.told) in
      let mine = place_of from to (has s.link) in
      let address : target_of s.link all ≡ Some mine.to = target_is_still from to (Some size) how has slices now now' calls part before after ending b turns stands s.link ∙ b.placed.address s.link s.given in
      let here : is_of mine all s.link ≡ true =
      ap (λ o. is_target mine.to o && is_name mine.name (name_asked (on_link s.link all).wishes)) address
      ∙ ap (λ c. c && is_name mine.name (name_asked (on_link s.link all).wishes)) (is_there mine.to)
      ∙ ap (is_name mine.name) (said.1 ∙ ap (λ n. Some n) (later.name ∙ b.placed.name s.link s.given))
      ∙ is_called mine.name in
      record {
        link = s.link;
        told = ap (λ (c : Bool). only_if c (size_told (on_link s.link all))) (subst (λ (side : Bool). is_of (place_of from to side) all s.link ≡ true) s.side here) ∙ said.0;
      }

pub parts_ask_once : PartsAskOnce
parts_ask_once from to size how has slices rest now now' calls part before after ending cells told end b well turns stands planned fits two =
    let stood = b.course.stood.stands well in
    let listed = source_listed from to (Some size) how has slices now now' calls part before after ending b turns stands two in
    let listed' = destination_listed from to (Some size) how has slices now now' calls part before after ending b turns stands two in
    record {
      links = own_links from to (Some size) how has slices now now' calls part before after ending b turns stands;
      told = size_was_told from to size how has slices now now' calls part before after ending b turns stands;
      asked = asked_once how cells told end end slices rest now.rows b.course.stood.source b.course.stood.destination (dealt_with from (calls ++ part)) (dealt_with to (calls ++ part)) stood planned (let l : end ≤ end = omega arith in l) listed listed';
      dense = each_asked (IsDense how) b.course.stood.destination (dealt_with to (calls ++ part)) listed'
          (λ r there. dense_of how slices r.ticket r.said.command (in_each (λ (x : Request). AsksOfDestination how slices x.ticket x.said.command) r b.course.stood.destination there stood.changes));
      flushes = λ link cookie link' cookie' one other asks asks' here too.
          let few = one_at_most now.flushing (flushes_of b.course.stood.destination) b.course.stood.counted.flushes in
          none_meet flushes b.course.stood.destination (dealt_with to (calls ++ part)) listed' (λ p. subst (λ (n : ℕ). n ≤ 1) (sym (flushes_same p b.course.stood.destination)) few) link cookie link' cookie' 0 one other asks asks' here too;
      unflushed = λ none.
          each_asked (λ (c : Command Nobody). is_flush c.kind ≡ false) b.course.stood.destination (dealt_with to (calls ++ part)) listed'
          (none_there b.course.stood.destination (b.course.stood.counted.flushes ∙ ap (λ (f : Bool). cond f 1 0) none));
    }
