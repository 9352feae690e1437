-- How often extents are asked for: what comes on handles adds no question, each question asks once, and asking goes on behind what was heard.
use Rattle.std.proofs.Common.{◌≡◌, ◌<◌, ◌≤◌, ℕ, zero, suc, ◌+◌, ◌-◌, Bool, true, false, List, [], ◌∷◌, ◌++◌, Option, Some, None, cond, is_some, nat_lt, min, if◌then◌else◌, take, drop, refl, ap, sym, subst, ◌∙◌, arith}
use Rattle.std.proofs.lemmas.Bool.{false≢true}
use Rattle.std.proofs.lemmas.Grind.{common_steps}
use Rattle.lnbd_model.specs.Kind.{is_status}
use Rattle.lnbd_plan.specs.declared.grid.Slice.{Slice}
use Rattle.lnbd_history.specs.Commands.{Command}
use Rattle.lnbd_history.specs.Events.{Event, History, Set, StrictMode, Start, Opt, Abort, Issue, Refuse, Disconnect, Wrote, Arrived, End, LinkFailed, Retire, ClearLog, Close}
use Rattle.lnbd_asked.specs.Driven.{is_inward}
use Rattle.lnbd_poll.specs.Seen.{Seen}
use Rattle.lnbd_drives.specs.Driving.{with_event}
use Rattle.lnbd_board.specs.declared.ticket.Ticket.{Ticket}
use Rattle.lnbd_course.specs.Little.{extents_asked}
use Rattle.lnbd_conduct.specs.Begun.{opened}
use Rattle.lnbd_copy.specs.Job as work
use Rattle.lnbd_conduct.specs.Links.{once_if}
use Rattle.lnbd_copy.specs.Way.{WereQueried}
use Rattle.lnbd_copy.specs.Windows as windows
use Rattle.lnbd_conduct.specs.Slices.{window}
use Rattle.lnbd_copy.proofs.DrivenTurns.{AllBrought, AreOfLink, Brought}

-- One history.

-- it asks for no extents
abbrev pub AsksNone : Event Ticket → Type 0
AsksNone event = (before : History Ticket) → extents_asked (event ∷ before) ≡ extents_asked before

-- what a link takes and brings does not
of_link_asks_none : (event : Event Ticket) → is_inward event ≡ false → AsksNone event
of_link_asks_none (Set setting) of = λ before. refl
of_link_asks_none (StrictMode bits) of = λ before. refl
of_link_asks_none Start of = λ before. refl
of_link_asks_none (Opt option) of = λ before. refl
of_link_asks_none Abort of = λ before. refl
of_link_asks_none (Issue command) of = absurd (false≢true (sym of))
of_link_asks_none (Refuse command why) of = λ before. refl
of_link_asks_none Disconnect of = λ before. refl
of_link_asks_none (Wrote n) of = λ before. refl
of_link_asks_none (Arrived bytes answers) of = λ before. refl
of_link_asks_none (End answers) of = λ before. refl
of_link_asks_none (LinkFailed answers) of = λ before. refl
of_link_asks_none (Retire cookie) of = λ before. refl
of_link_asks_none ClearLog of = λ before. refl
of_link_asks_none Close of = λ before. refl

link_asks_none : (since before : History Ticket) → AreOfLink since → extents_asked (since ++ before) ≡ extents_asked before
link_asks_none [] before of = refl
link_asks_none (event ∷ since) before of = of_link_asks_none event of.0 (since ++ before) ∙ link_asks_none since before of.1

brought_asks_none : (before after : History Ticket) → Brought before after → extents_asked after ≡ extents_asked before
brought_asks_none before after b = ap extents_asked b.are ∙ link_asks_none b.since before b.link

-- nor does a command of another kind
pub other_asks_none : (command : Command Ticket) → is_status command.kind ≡ false → AsksNone (Issue command)
other_asks_none command other = λ before.
    let none : 0 + extents_asked before ≡ extents_asked before = omega arith in
    ap (λ (b : Bool). cond b 1 0 + extents_asked before) other ∙ none

opened_asks_none : (name : List ℕ) (extents : Bool) → extents_asked (opened name extents) ≡ 0
opened_asks_none name true = refl
opened_asks_none name false = refl

-- Handles.

as_few : (most n m : ℕ) → m ≡ n → n ≤ most → m ≤ most
as_few most n m same few = omega (arith, same, few)

one_more : (asks : Bool) (n most : ℕ) → n ≤ most → cond asks 1 0 + n ≤ most + 1
one_more true n most few = let more : 1 + n ≤ most + 1 = omega (arith, few) in more
one_more false n most few = let more : 0 + n ≤ most + 1 = omega (arith, few) in more

-- so few are fewer than one more
more_queried : (most : ℕ) (seens : List (Seen Ticket)) → WereQueried most seens → WereQueried (most + 1) seens
more_queried most [] all = tt
more_queried most (seen ∷ others) all = let few = all.0 in (omega (arith, few), more_queried most others all.1)

pub queried_event : (most index : ℕ) (event : Event Ticket) (seens : List (Seen Ticket)) → AsksNone event → WereQueried most seens → WereQueried most (with_event index event seens)
queried_event most index event [] none all = tt
queried_event most zero event (seen ∷ others) none all = (as_few most (extents_asked seen.history) (extents_asked (event ∷ seen.history)) (none seen.history) all.0, all.1)
queried_event most (suc index) event (seen ∷ others) none all = (all.0, queried_event most index event others none all.1)

-- One of them is asked once more.
pub queried_asked : (most index : ℕ) (command : Command Ticket) (seens : List (Seen Ticket)) → WereQueried most seens → WereQueried (most + 1) (with_event index (Issue command) seens)
queried_asked most index command [] all = tt
queried_asked most zero command (seen ∷ others) all = (one_more (is_status command.kind) (extents_asked seen.history) most all.0, more_queried most others all.1)
queried_asked most (suc index) command (seen ∷ others) all = let few = all.0 in (omega (arith, few), queried_asked most index command others all.1)

pub queried_turned : (most : ℕ) (before after : List (Seen Ticket)) → AllBrought before after → WereQueried most before → WereQueried most after
queried_turned most [] [] brought all = tt
queried_turned most [] (here ∷ there) brought all = absurd brought
queried_turned most (seen ∷ others) [] brought all = absurd brought
queried_turned most (seen ∷ others) (here ∷ there) brought all =
    (as_few most (extents_asked seen.history) (extents_asked here.history) (brought_asks_none seen.history here.history brought.0.brought) all.0, queried_turned most others there brought.1 all.1)

queried_both : (most : ℕ) (seens more : List (Seen Ticket)) → WereQueried most seens → WereQueried most more → WereQueried most (seens ++ more)
queried_both most [] more all rest = rest
queried_both most (seen ∷ others) more all rest = (all.0, queried_both most others more all.1 rest)

-- One handle more begins.
pub queried_dialed : (most : ℕ) (seens : List (Seen Ticket)) (link : ℕ) (name : List ℕ) (extents : Bool) → WereQueried most seens → WereQueried most (seens ++ record { link = link; history = opened name extents; unread = [] } ∷ [])
queried_dialed most seens link name extents all =
    queried_both most seens (record { link = link; history = opened name extents; unread = [] } ∷ []) all (as_few most 0 (extents_asked (opened name extents)) (opened_asks_none name extents) (omega arith), tt)

-- A handle is taken out.

queried_taken : (most n : ℕ) (seens : List (Seen Ticket)) → WereQueried most seens → WereQueried most (take n seens)
queried_taken most zero [] all = tt
queried_taken most (suc n) [] all = tt
queried_taken most zero (seen ∷ others) all = tt
queried_taken most (suc n) (seen ∷ others) all = (all.0, queried_taken most n others all.1)

queried_dropped : (most n : ℕ) (seens : List (Seen Ticket)) → WereQueried most seens → WereQueried most (drop n seens)
queried_dropped most zero [] all = tt
queried_dropped most (suc n) [] all = tt
queried_dropped most zero (seen ∷ others) all = all
queried_dropped most (suc n) (seen ∷ others) all = queried_dropped most n others all.1

pub queried_left : (most index : ℕ) (seens : List (Seen Ticket)) → WereQueried most seens → WereQueried most (take index seens ++ drop (index + 1) seens)
queried_left most index seens all = queried_both most (take index seens) (drop (index + 1) seens) (queried_taken most index seens all) (queried_dropped most (index + 1) seens all)

-- Windows.

-- No range is wanted of a window that is told whole.
pub none_wanted : (planned : windows.Seen) (start end : ℕ) → planned.plan.end ≡ start → end ≡ min (start + window) planned.size → end ≤ planned.at → is_some (windows.wanted planned) ≡ true → ⊥
none_wanted planned start end begins ends past wanted =
    let same : windows.window_end planned ≡ end = ap (λ (e : ℕ). min (e + window) planned.size) begins ∙ sym ends in
    let test : nat_lt planned.at end ≡ false = grind (arith, common_steps) in
    let none : windows.wanted planned ≡ None = ap (λ (e : ℕ). if nat_lt planned.at e then Some (planned.at, e - planned.at) else None) same ∙ ap (λ (b : Bool). if b then Some (planned.at, end - planned.at) else None) test in
    false≢true (sym (ap (λ (o : Option (ℕ × ℕ)). is_some o) none) ∙ wanted)

-- Nothing was asked yet.
pub onward_begins : (job : work.Seen) (queries : ℕ) → queries ≡ 0 → job.asked ≡ false → job.windows.at ≤ job.windows.size → work.AsksOnward job queries
onward_begins job queries none unasked inside = record { few = omega (arith, none); some = λ asked. absurd (false≢true (sym unasked ∙ asked)); inside = inside }

-- Extents are asked for, of a range that is wanted.
pub onward_asked : (job : work.Seen) (queries : ℕ) (range : ℕ × ℕ) → job.asked ≡ false → windows.wanted job.windows ≡ Some range → work.AsksOnward job queries → work.AsksOnward (record job { asked = true }) (queries + 1)
onward_asked job queries range unasked wanted onward =
    let few : queries ≤ job.windows.at + 0 = subst (λ (b : Bool). queries ≤ job.windows.at + once_if b) unasked onward.few in
    let more : queries + 1 ≤ job.windows.at + 1 = omega (arith, few) in
    record { few = more; some = λ asked. ap (λ (o : Option (ℕ × ℕ)). is_some o) wanted; inside = onward.inside }

-- They are heard, and asking goes on behind them.
pub onward_heard : (job : work.Seen) (planned : windows.Seen) (queries : ℕ) → job.asked ≡ true → (is_some (windows.wanted job.windows) ≡ true → job.windows.at < planned.at) → planned.at ≤ planned.size → work.AsksOnward job queries →
    work.AsksOnward (record job { windows = planned; asked = false }) queries
onward_heard job planned queries asked ahead inside onward =
    let few : queries ≤ job.windows.at + 1 = subst (λ (b : Bool). queries ≤ job.windows.at + once_if b) asked onward.few in
    let less = ahead (onward.some asked) in
    let fewer : queries ≤ planned.at + 0 = omega (arith, few, less) in
    record { few = fewer; some = λ again. absurd (false≢true again); inside = inside }

-- Slices begin.
pub onward_begun : (job : work.Seen) (planned : windows.Seen) (queries : ℕ) (left : List Slice) → planned ≡ record job.windows { plan = record job.windows.plan { slices = left } } → work.AsksOnward job queries → work.AsksOnward (record job { windows = planned }) queries
onward_begun job planned queries left is onward = subst (λ (w : windows.Seen). work.AsksOnward (record job { windows = w }) queries) (sym is) (record { few = onward.few; some = onward.some; inside = onward.inside })
