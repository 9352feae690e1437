-- A flush is asked of the handle alone whose link was given second, and so by the calls on that link alone.
use Rattle.std.proofs.Common.{◌≡◌, ◌≢◌, ◌⊎◌, inl, inr, ◌&&◌, ◌==◌, ℕ, ◌+◌, zero, suc, Bool, true, false, List, [], ◌∷◌, ◌++◌, map, cond, take, drop, Option, Some, None, slice_get, if◌then◌else◌, refl, ap, sym, subst, ◌∙◌}
use Rattle.std.proofs.lemmas.Bool.{eq-eqb, false≢true}
use Rattle.lnbd_model.specs.declared.target.Place.{Place}
use Rattle.lnbd_model.specs.declared.target.Target.{Target}
use Rattle.lnbd_callbacks.specs.Calls.{Call}
use Rattle.lnbd_callbacks.specs.Steps.{OneByOne}
use Rattle.lnbd_outcome.specs.Outcome.{Outcome}
use Rattle.lnbd_link.specs.Call as wire
use Rattle.lnbd_link.specs.Numbers.{is_given}
use Rattle.lnbd_link.specs.Traffic.{target_of}
use Rattle.lnbd_history.specs.Commands.{Command, request_of}
use Rattle.lnbd_history.specs.Commands as commands
use Rattle.lnbd_history.specs.Events.{Event, History, Set, StrictMode, Start, Opt, Abort, Issue, Refuse, Disconnect, Wrote, Arrived, End, LinkFailed, Retire, ClearLog, Close}
use Rattle.lnbd_history.specs.History.{asked, request}
use Rattle.lnbd_asked.specs.Driven.{is_inward, outcome_after}
use Rattle.lnbd_asked.specs.Link.{Link, Nobody}
use Rattle.lnbd_asked.specs.Transcript.{asked_on, dealt_with, is_name, is_target, name_asked, on_link, only_if}
use Rattle.lnbd_poll.specs.Alone.{AreApart}
use Rattle.lnbd_poll.specs.Seen.{Seen}
use Rattle.lnbd_poll.specs.Turns.{Ending, Turns}
use Rattle.lnbd_drives.specs.Driving.{with_event}
use Rattle.lnbd_drives.proofs.Exports.{turns_give_none}
use Rattle.lnbd_drives.proofs.Passing.{said_stays}
use Rattle.lnbd_drives.proofs.Turning.{turns_pass_others}
use Rattle.lnbd_plan.specs.declared.grid.Slice.{Slice}
use Rattle.lnbd_board.specs.declared.how.How.{How}
use Rattle.lnbd_board.specs.declared.ticket.Ticket.{Ticket}
use Rattle.lnbd_board.specs.Files as board
use Rattle.lnbd_board.specs.Requests.{IsIn, Request, Under}
use Rattle.lnbd_tracks.specs.Tracks.{AllTrack, Histories, told_by, under}
use Rattle.lnbd_tracks.specs.Tracks as tracks
use Rattle.lnbd_course.specs.Between.{Between}
use Rattle.lnbd_course.specs.Counted.{is_flush}
use Rattle.lnbd_course.specs.Course.{beside, on_side}
use Rattle.lnbd_course.specs.Failed.{AllStand}
use Rattle.lnbd_course.proofs.Address.{target_stays}
use Rattle.lnbd_course.proofs.Failing.{IsThere, there_or_apart}
use Rattle.lnbd_course.proofs.Holding.{one_has}
use Rattle.lnbd_course.proofs.Parts.{destination_listed}
use Rattle.lnbd_conduct.specs.Begun.{opened}
use Rattle.lnbd_conduct.specs.Driven.{given_links}
use Rattle.lnbd_conduct.specs.Changes.{FlushesOnFirst}
use Rattle.lnbd_copy.specs.Way.{AsksNoFlush, SecondFlushes}
use Rattle.lnbd_copy.proofs.DrivenTurns.{AllBrought, AreOfLink, Brought}
use Rattle.lnbd_copy.proofs.OrderLemmas.{given_more, same_given}

-- One history.

-- it asks for no flush
abbrev pub FlushesNone : Event Ticket → Type 0
FlushesNone event = (before : History Ticket) → AsksNoFlush before → AsksNoFlush (event ∷ before)

-- what a link takes and brings does not
of_link_flushes_none : (event : Event Ticket) → is_inward event ≡ false → FlushesNone event
of_link_flushes_none (Set setting) of = λ before none. none
of_link_flushes_none (StrictMode bits) of = λ before none. none
of_link_flushes_none Start of = λ before none. none
of_link_flushes_none (Opt option) of = λ before none. none
of_link_flushes_none Abort of = λ before none. none
of_link_flushes_none (Issue command) of = absurd (false≢true (sym of))
of_link_flushes_none (Refuse command why) of = λ before none. none
of_link_flushes_none Disconnect of = λ before none. none
of_link_flushes_none (Wrote n) of = λ before none. none
of_link_flushes_none (Arrived bytes answers) of = λ before none. none
of_link_flushes_none (End answers) of = λ before none. none
of_link_flushes_none (LinkFailed answers) of = λ before none. none
of_link_flushes_none (Retire cookie) of = λ before none. none
of_link_flushes_none ClearLog of = λ before none. none
of_link_flushes_none Close of = λ before none. none

link_flushes_none : (since before : History Ticket) → AreOfLink since → AsksNoFlush before → AsksNoFlush (since ++ before)
link_flushes_none [] before of none = none
link_flushes_none (event ∷ since) before of none = of_link_flushes_none event of.0 (since ++ before) (link_flushes_none since before of.1 none)

brought_flushes_none : (before after : History Ticket) → Brought before after → AsksNoFlush before → AsksNoFlush after
brought_flushes_none before after b none = subst AsksNoFlush (sym b.are) (link_flushes_none b.since before b.link none)

none_asks : (asks : commands.Request Ticket) → None ≡ Some asks → ⊥
none_asks asks e = cc

some_asks : (one other : commands.Request Ticket) → Some one ≡ Some other → one ≡ other
some_asks one other e = cc

-- nor does a command of another kind
pub other_flushes_none : (command : Command Ticket) → is_flush command.kind ≡ false → FlushesNone (Issue command)
other_flushes_none command other = λ before none cookie asks is. go before none cookie asks ((asked before).issued + 1 == cookie) is
  where
    go : (before : History Ticket) → AsksNoFlush before → (cookie : ℕ) (asks : commands.Request Ticket) (b : Bool) → (if b then Some (request_of (asked before).admitted command) else request before cookie) ≡ Some asks → is_flush asks.kind ≡ false
    go before none cookie asks true is = ap (λ (r : commands.Request Ticket). is_flush r.kind) (sym (some_asks (request_of (asked before).admitted command) asks is)) ∙ other
    go before none cookie asks false is = none cookie asks is

opened_flushes_none : (name : List ℕ) (extents : Bool) → AsksNoFlush (opened name extents)
opened_flushes_none name true = λ cookie asks is. absurd (none_asks asks is)
opened_flushes_none name false = λ cookie asks is. absurd (none_asks asks is)

-- Handles.

abbrev second : List wire.Call → Option ℕ
second calls = slice_get (given_links calls) 1

-- One of them is, or was, of the second link, or was asked for none.
abbrev IsSecondOr : List wire.Call → ℕ → History Ticket → Type 0
IsSecondOr calls link history = (second calls ≡ Some link) ⊎ AsksNoFlush history

second_or : (calls calls' : List wire.Call) (link link' : ℕ) (history history' : History Ticket) → (second calls ≡ Some link → second calls' ≡ Some link') → (AsksNoFlush history → AsksNoFlush history') → IsSecondOr calls link history → IsSecondOr calls' link' history'
second_or calls calls' link link' history history' same none (inl is) = inl (same is)
second_or calls calls' link link' history history' same none (inr other) = inr (none other)

pub second_event : (calls : List wire.Call) (index : ℕ) (event : Event Ticket) (seens : List (Seen Ticket)) → FlushesNone event → SecondFlushes calls seens → SecondFlushes calls (with_event index event seens)
second_event calls index event [] none all = tt
second_event calls zero event (seen ∷ others) none all = (second_or calls calls seen.link seen.link seen.history (event ∷ seen.history) (λ is. is) (none seen.history) all.0, all.1)
second_event calls (suc index) event (seen ∷ others) none all = (all.0, second_event calls index event others none all.1)

-- A command is asked, and a flush of the second alone.
second_command : (calls : List wire.Call) (index : ℕ) (command : Command Ticket) (seens : List (Seen Ticket)) → (is_flush command.kind ≡ true → (seen : Seen Ticket) → slice_get seens index ≡ Some seen → second calls ≡ Some seen.link) → SecondFlushes calls seens → SecondFlushes calls (with_event index (Issue command) seens)
second_command calls index command [] may all = tt
second_command calls zero command (seen ∷ others) may all = (go (is_flush command.kind) refl, all.1)
  where
    go : (b : Bool) → is_flush command.kind ≡ b → IsSecondOr calls seen.link (Issue command ∷ seen.history)
    go true flushes = inl (may flushes seen refl)
    go false other = second_or calls calls seen.link seen.link seen.history (Issue command ∷ seen.history) (λ is. is) (other_flushes_none command other seen.history) all.0
second_command calls (suc index) command (seen ∷ others) may all = (all.0, second_command calls index command others may all.1)

none_seen : (seen : Seen Ticket) → None ≡ Some seen → ⊥
none_seen seen e = cc

same_seen : (one other : Seen Ticket) → Some one ≡ Some other → one ≡ other
same_seen one other e = cc

abbrev links : List (Seen Ticket) → List ℕ
links seens = map (λ (seen : Seen Ticket). seen.link) seens

link_there : (index : ℕ) (seen : Seen Ticket) (seens : List (Seen Ticket)) → slice_get seens index ≡ Some seen → slice_get (links seens) index ≡ Some seen.link
link_there index seen [] there = absurd (none_seen seen there)
link_there zero seen (first ∷ others) there = ap (λ (s : Seen Ticket). Some s.link) (same_seen first seen there)
link_there (suc index) seen (first ∷ others) there = link_there index seen others there

pub second_asked : (calls : List wire.Call) (index : ℕ) (command : Command Ticket) (seens : List (Seen Ticket)) → given_links calls ≡ links seens → (is_flush command.kind ≡ true → index ≡ 1) → SecondFlushes calls seens → SecondFlushes calls (with_event index (Issue command) seens)
second_asked calls index command seens order may all =
    second_command calls index command seens
    (λ flushes seen there. ap (λ (l : List ℕ). slice_get l 1) order ∙ link_there 1 seen seens (subst (λ (i : ℕ). slice_get seens i ≡ Some seen) (may flushes) there)) all

-- Calls are added.
second_map : (calls calls' : List wire.Call) (seens : List (Seen Ticket)) → ((link : ℕ) → second calls ≡ Some link → second calls' ≡ Some link) → SecondFlushes calls seens → SecondFlushes calls' seens
second_map calls calls' [] same all = tt
second_map calls calls' (seen ∷ others) same all = (second_or calls calls' seen.link seen.link seen.history seen.history (same seen.link) (λ none. none) all.0, second_map calls calls' others same all.1)

pub second_called : (calls more : List wire.Call) (seens : List (Seen Ticket)) → ((link : ℕ) → is_given link more ≡ false) → SecondFlushes calls seens → SecondFlushes (calls ++ more) seens
second_called calls more seens none all = second_map calls (calls ++ more) seens (λ link is. ap (λ (l : List ℕ). slice_get l 1) (same_given calls more none) ∙ is) all

pub second_turned : (calls part : List wire.Call) (before after : List (Seen Ticket)) → AllBrought before after → ((link : ℕ) → is_given link part ≡ false) → SecondFlushes calls before → SecondFlushes (calls ++ part) after
second_turned calls part [] [] brought none all = tt
second_turned calls part [] (here ∷ there) brought none all = absurd brought
second_turned calls part (seen ∷ others) [] brought none all = absurd brought
second_turned calls part (seen ∷ others) (here ∷ there) brought none all = (
  second_or calls (calls ++ part) seen.link here.link seen.history here.history
      (λ is. ap (λ (l : List ℕ). slice_get l 1) (same_given calls part none) ∙ is ∙ ap (λ (n : ℕ). Some n) (sym brought.0.link))
      (brought_flushes_none seen.history here.history brought.0.brought) all.0,
  second_turned calls part others there brought.1 none all.1,
)

second_both : (calls : List wire.Call) (seens more : List (Seen Ticket)) → SecondFlushes calls seens → SecondFlushes calls more → SecondFlushes calls (seens ++ more)
second_both calls [] more all rest = rest
second_both calls (seen ∷ others) more all rest = (all.0, second_both calls others more all.1 rest)

none_link : (link : ℕ) → None ≡ Some link → ⊥
none_link link e = cc

front_there : (front back : List ℕ) (index link : ℕ) → slice_get front index ≡ Some link → slice_get (front ++ back) index ≡ Some link
front_there [] back index link there = absurd (none_link link there)
front_there (first ∷ front) back zero link there = there
front_there (first ∷ front) back (suc index) link there = front_there front back index link there

-- One handle more begins.
pub second_dialed : (calls : List wire.Call) (to : Target) (seens : List (Seen Ticket)) (link : ℕ) (name : List ℕ) (extents : Bool) → SecondFlushes calls seens →
    SecondFlushes (calls ++ wire.Connect to (Some link) ∷ []) (seens ++ record { link = link; history = opened name extents; unread = [] } ∷ [])
second_dialed calls to seens link name extents all =
    second_both (calls ++ wire.Connect to (Some link) ∷ []) seens (record { link = link; history = opened name extents; unread = [] } ∷ [])
    (second_map calls (calls ++ wire.Connect to (Some link) ∷ []) seens (λ n is. ap (λ (l : List ℕ). slice_get l 1) (given_more calls (wire.Connect to (Some link) ∷ [])) ∙ front_there (given_links calls) (link ∷ []) 1 n is) all)
    (inr (opened_flushes_none name extents), tt)

-- A handle is taken out.

second_taken : (calls : List wire.Call) (n : ℕ) (seens : List (Seen Ticket)) → SecondFlushes calls seens → SecondFlushes calls (take n seens)
second_taken calls zero [] all = tt
second_taken calls (suc n) [] all = tt
second_taken calls zero (seen ∷ others) all = tt
second_taken calls (suc n) (seen ∷ others) all = (all.0, second_taken calls n others all.1)

second_dropped : (calls : List wire.Call) (n : ℕ) (seens : List (Seen Ticket)) → SecondFlushes calls seens → SecondFlushes calls (drop n seens)
second_dropped calls zero [] all = tt
second_dropped calls (suc n) [] all = tt
second_dropped calls zero (seen ∷ others) all = all
second_dropped calls (suc n) (seen ∷ others) all = second_dropped calls n others all.1

pub second_left : (calls : List wire.Call) (index : ℕ) (seens : List (Seen Ticket)) → SecondFlushes calls seens → SecondFlushes calls (take index seens ++ drop (index + 1) seens)
second_left calls index seens all = second_both calls (take index seens) (drop (index + 1) seens) (second_taken calls index seens all) (second_dropped calls (index + 1) seens all)

second_there : (calls : List wire.Call) (seens : List (Seen Ticket)) (index : ℕ) (seen : Seen Ticket) → slice_get seens index ≡ Some seen → SecondFlushes calls seens → IsSecondOr calls seen.link seen.history
second_there calls [] index seen there all = absurd (none_seen seen there)
second_there calls (one ∷ others) zero seen there all = subst (λ (s : Seen Ticket). IsSecondOr calls s.link s.history) (same_seen one seen there) all.0
second_there calls (one ∷ others) (suc index) seen there all = second_there calls others index seen there all.1

-- By the calls.

-- a command of this kind is that of a request in a history
record HasAsked (history : History Ticket) (cookie : ℕ) (command : Command Nobody) : Type 0 where
  asks : commands.Request Ticket
  is : request history cookie ≡ Some asks
  same : asks.kind ≡ command.kind

both_true : (a b : Bool) → a ≡ true → b ≡ true → (a && b) ≡ true
both_true true b is is' = is'
both_true false b is is' = absurd (false≢true is)

in_under : (link cookie : ℕ) (r : Request) (requests : List Request) → r.link ≡ link → r.cookie ≡ cookie → IsIn r requests → IsIn r (under link cookie requests)
in_under link cookie r [] on by there = absurd there
in_under link cookie r (x ∷ xs) on by (inl same) =
    let here : ((x.link == link) && (x.cookie == cookie)) ≡ true = both_true (x.link == link) (x.cookie == cookie) (eq-eqb x.link link (ap (λ (y : Request). y.link) same ∙ on)) (eq-eqb x.cookie cookie (ap (λ (y : Request). y.cookie) same ∙ by)) in
    subst (λ (b : Bool). IsIn r (cond b (x ∷ under link cookie xs) (under link cookie xs))) (sym here) (inl same)
in_under link cookie r (x ∷ xs) on by (inr there) = go ((x.link == link) && (x.cookie == cookie)) (in_under link cookie r xs on by there)
  where
    go : (b : Bool) → IsIn r (under link cookie xs) → IsIn r (cond b (x ∷ under link cookie xs) (under link cookie xs))
    go true rest = inr rest
    go false rest = rest

of_request : (link cookie : ℕ) (r : Request) (o : Option (commands.Request Ticket)) (history : History Ticket) (outcome : Outcome) → request history cookie ≡ o → IsIn r (tracks.request_of link cookie o outcome) → HasAsked history cookie r.said.command
of_request link cookie r None history outcome is there = absurd there
of_request link cookie r (Some asks) history outcome is (inl same) = record { asks = asks; is = is; same = ap (λ (y : Request). y.said.command.kind) same }
of_request link cookie r (Some asks) history outcome is (inr there) = absurd there

request_there : (side : ℕ → Bool) (histories : Histories) (requests : List Request) (link cookie : ℕ) (command : Command Nobody) → AllTrack (on_side side histories) requests → Under link cookie command requests → HasAsked (histories link) cookie command
request_there side histories requests link cookie command all u = go (side link) (subst (IsIn u.request) ((all link).each cookie) (in_under link cookie u.request requests u.on u.by u.within))
  where
    there : HasAsked (histories link) cookie u.request.said.command → HasAsked (histories link) cookie command
    there h = record { asks = h.asks; is = h.is; same = h.same ∙ ap (λ (c : Command Nobody). c.kind) u.asks }

    go : (b : Bool) → IsIn u.request (told_by link cookie (if b then histories link else [])) → HasAsked (histories link) cookie command
    go true in_ = there (of_request link cookie u.request (request (histories link) cookie) (histories link) (outcome_after (histories link) cookie) refl in_)
    go false in_ = absurd in_

abbrev steps : board.Seen → List (Call Ticket) → board.Seen → Type 0
steps = OneByOne board.Files

-- So it is after a turn, whole or short: it asks for nothing that was not asked of a handle before.
pub first_turned : (from to : Place) (size : Option ℕ) (how : How) (has : ℕ → Bool) (slices : List Slice) (now now' : board.Seen) (calls part : List wire.Call) (before after : List (Seen Ticket)) (ending : Ending) → Between from to size how has slices now calls before →
    Turns steps before now part after now' ending → AllStand before → AllStand after → from ≢ to → SecondFlushes calls before → FlushesOnFirst to calls → FlushesOnFirst to (calls ++ part)
first_turned from to size how has slices now now' calls part before after ending b turns stands stands' two second_alone was = λ link cookie command asks flushes.
    ap (λ (l : List ℕ). slice_get l 1) (same_given calls part none) ∙ go link cookie command asks flushes (there_or_apart link before stands)
  where
    none : (link : ℕ) → is_given link part ≡ false
    none link = turns_give_none steps link part before after now now' ending turns

    -- a link without a handle says what it said
    still : (link cookie : ℕ) → AreApart link before → (dealt_with to (calls ++ part)).asked link cookie ≡ (dealt_with to calls).asked link cookie
    still link cookie apart =
        ap (λ (l : Link). only_if (is_target to.to (target_of link (calls ++ part)) && is_name to.name (name_asked l.wishes)) (asked_on l cookie)) (said_stays link calls part (turns_pass_others steps link part before after now now' ending apart turns))
        ∙ ap (λ (t : Option Target). only_if (is_target to.to t && is_name to.name (name_asked (on_link link calls).wishes)) (asked_on (on_link link calls) cookie)) (target_stays link calls part (none link))

    no_flush : {A : Type 0} (h : History Ticket) (cookie : ℕ) (command : Command Nobody) → HasAsked h cookie command → is_flush command.kind ≡ true → AsksNoFlush h → A
    no_flush h cookie command a flushes other = absurd (false≢true (sym (other cookie a.asks a.is) ∙ ap is_flush a.same ∙ flushes))

    go : (link cookie : ℕ) (command : Command Nobody) → (dealt_with to (calls ++ part)).asked link cookie ≡ Some command → is_flush command.kind ≡ true → IsThere link before ⊎ AreApart link before → second calls ≡ Some link
    go link cookie command asks flushes (inr apart) = was link cookie command (sym (still link cookie apart) ∙ asks) flushes
    go link cookie command asks flushes (inl h) =
        let a = request_there (beside has) b.course.histories b.course.stood.destination link cookie command b.course.stood.changes
        (destination_listed from to size how has slices now now' calls part before after ending b turns stands' two link cookie command asks) in
        let same : b.course.histories link ≡ h.seen.history = sym (ap b.course.histories h.same) ∙ one_has h.index h.seen b.course.histories before h.there b.course.held in
        elim (second_there calls before h.index h.seen h.there second_alone) [
          | inl is ↦ is ∙ ap (λ (n : ℕ). Some n) h.same
          | inr other ↦ no_flush h.seen.history cookie command (subst (λ (x : History Ticket). HasAsked x cookie command) same a) flushes other
        ]
