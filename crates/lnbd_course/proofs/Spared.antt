-- No READ covers a block that was told as zero whole, also where a turn ends short.
use Rattle.std.proofs.Common.{◌≡◌, inl, inr, ℕ, ◌<◌, ◌≤◌, ◌*◌, ◌/◌, Bool, true, false, ◌&&◌, List, [], ◌∷◌, ◌++◌, Option, Some, None, slice_get, refl, ap, sym, subst, ◌∙◌, arith, if◌then◌else◌, zero, suc, nat_le, leb-true, append-nil}
use Rattle.std.proofs.lemmas.Bool.{cases_lt}
use Rattle.std.proofs.Math.Nat.{div-mul-le_self, lt-div-mul-add}
use Rattle.lnbd_model.specs.declared.kind.Kind.TheVariants.{BlockStatus}
use Rattle.lnbd_model.specs.declared.target.Place.{Place}
use Rattle.lnbd_outcome.specs.Outcome.{Done, Unfinished}
use Rattle.lnbd_link.specs.Call as wire
use Rattle.lnbd_history.specs.Commands as commands
use Rattle.lnbd_history.specs.Commands.{Command}
use Rattle.lnbd_history.specs.Entries.{own}
use Rattle.lnbd_history.specs.Events.{Answer, History, Arrived}
use Rattle.lnbd_history.specs.Laws.{Lawful}
use Rattle.lnbd_history.specs.History.{reading, request}
use Rattle.lnbd_asked.specs.Driven.{AllSpell, DrivenSays, Drives, Arrives, outcome_after, zero_after}
use Rattle.lnbd_asked.specs.Honest.{has}
use Rattle.lnbd_asked.specs.Link.{Nobody}
use Rattle.lnbd_asked.specs.Transcript.{answered, asked_on, bare, dealt_with, is_of, on_link, only_if, outcome_of, told_zero, zero_told}
use Rattle.lnbd_asked.proofs.Driving.{driven_say_so}
use Rattle.lnbd_poll.specs.Seen.{Seen}
use Rattle.lnbd_poll.specs.Turns.{Ending, Turns}
use Rattle.lnbd_drives.proofs.Modes.{arrived_mode, mode}
use Rattle.lnbd_drives.proofs.Passing.{said_stays}
use Rattle.lnbd_drives.proofs.Taking.{Runs}
use Rattle.lnbd_drives.proofs.Turning.{turns_pass_others}
use Rattle.lnbd_plan.specs.declared.cells.Cells.{Cells}
use Rattle.lnbd_plan.specs.declared.grid.Slice.{Slice}
use Rattle.lnbd_plan.specs.Laws.{IsPlannedOnce, slices_at}
use Rattle.lnbd_plan.proofs.OnceLaws.{at_both}
use Rattle.lnbd_board.specs.declared.how.How.{How}
use Rattle.lnbd_board.specs.declared.ticket.Ticket.{Ticket}
use Rattle.lnbd_board.specs.Files as board
use Rattle.lnbd_board.specs.Requests.{Each, IsIn, Request, reads, reads_over}
use Rattle.lnbd_board.specs.Requests as asked
use Rattle.lnbd_board.specs.Rows.{AsksOfSource, Stands}
use Rattle.lnbd_board.proofs.Inside.{reads_nowhere}
use Rattle.lnbd_board.proofs.Lists.{Each-back, none_reads}
use Rattle.lnbd_extents.proofs.PositionLaws.{all_elim}
use Rattle.lnbd_tracks.specs.Heeding.{Heeds, IsHeard, is_whole}
use Rattle.lnbd_tracks.specs.Mapping.{first_tells, is_extents, tells_extents}
use Rattle.lnbd_tracks.specs.Tracks.{Histories}
use Rattle.lnbd_tracks.specs.Tracks as tracks
use Rattle.lnbd_tracks.proofs.Under as under
use Rattle.lnbd_course.specs.Course.{CourseOf, Stood}
use Rattle.lnbd_course.specs.Failed.{AllStand, HasHandle}
use Rattle.lnbd_course.specs.Far.{FarStood, ToFile}
use Rattle.lnbd_course.specs.FarCourse.{every}
use Rattle.lnbd_course.specs.Spared.{IsBehind, PartsSpare, PartsSpareFar}
use Rattle.lnbd_course.specs.Spares.{ReadsNoZeros, WasToldWhole}
use Rattle.lnbd_course.specs.Told.{Known, Knows}
use Rattle.lnbd_course.proofs.Failing.{there_or_apart}
use Rattle.lnbd_course.proofs.Frozen.{AllRead, FreezeAsOld, Frozen, IsRead, all_read, at_once, event_freezes, frozen_at_once, frozen_here}
use Rattle.lnbd_course.proofs.Holding.{one_has}
use Rattle.lnbd_course.proofs.Listing.{IsAsked, asked_by, in_middle, none_end}
use Rattle.lnbd_course.proofs.Parts.{all_run, none_unread, run_of, source_here, turn_runs}
use Rattle.lnbd_course.proofs.Sparing.{either_true, extents_by, unread}
use Rattle.lnbd_course.proofs.Standing.{on_here}
use Rattle.lnbd_course.proofs.Turning.{Turned, steps, turns_all}

none_some : {A : Type 0} (one : A) → None ≡ Some one → ⊥
none_some one e = cc

some_same : {A : Type 0} (one other : A) → Some one ≡ Some other → one ≡ other
some_same one other e = cc

only_if_some : {A : Type 0} (test : Bool) (one : Option A) (x : A) → only_if test one ≡ Some x → (test ≡ true) × (one ≡ Some x)
only_if_some true one x e = (refl, e)
only_if_some false one x e = absurd (none_some x e)

and_left : (a b : Bool) → (a && b) ≡ true → a ≡ true
and_left true b e = refl
and_left false b e = e

-- What a link says, where what was read may not have arrived: by a history in which nothing more came for what was over.
pub record Says (old : History Ticket) (link : ℕ) (calls : List wire.Call) : Type 0 where
  pub history : History Ticket
  pub frozen : Frozen old history
  pub says : DrivenSays history (on_link link calls)

pub says_read : (old : History Ticket) (calls : List wire.Call) (seen : Seen Ticket) → HasHandle seen.history → Runs seen.link calls seen.history seen.unread → Frozen old seen.history → IsRead seen → Says old seen.link calls
says_read old calls seen stands run frozen (inl none) = record {
  history = seen.history;
  frozen = frozen;
  says = driven_say_so stands.limit seen.link calls seen.history stands.stands.lawful run.spelled stands.stands.going run.off (subst (Drives seen.link calls seen.history) none run.drives);
}
says_read old calls seen stands run frozen (inr a) = by a.bytes a.answers a.before a.is
  where
    by : (bytes : List ℕ) (answers : List Answer) (before : History Ticket) → seen.history ≡ Arrived bytes answers ∷ before → Says old seen.link calls
    by bytes answers before is =
        let lawful = subst (λ (h : History Ticket). Lawful stands.limit h) is stands.stands.lawful in
        let spelled = subst AllSpell is run.spelled in
        let off : mode (Arrived bytes answers ∷ before) ≡ false = ap mode (sym is) ∙ run.off in
        let drives = at_once seen.link calls bytes answers before seen.unread (subst (λ (h : History Ticket). Drives seen.link calls h seen.unread) is run.drives) in
        let all : List ℕ = bytes ++ seen.unread in
        record {
          history = Arrived all answers ∷ before;
          frozen = frozen_at_once old bytes seen.unread answers before (subst (λ (h : History Ticket). Frozen old h) is frozen);
          says = driven_say_so stands.limit seen.link calls (Arrived all answers ∷ before) (lawful.0, lawful.1, lawful.2) (tt, spelled.1) refl
              (arrived_mode before all answers ∙ sym (arrived_mode before bytes answers) ∙ off)
              (Arrives calls before all all [] answers drives (sym (append-nil all)));
        }

pub read_at : (seens : List (Seen Ticket)) (index : ℕ) (seen : Seen Ticket) → slice_get seens index ≡ Some seen → AllRead seens → IsRead seen
read_at [] index seen there all = absurd (none_some seen there)
read_at (first ∷ others) zero seen there all = subst IsRead (some_same first seen there) all.0
read_at (first ∷ others) (suc index) seen there all = read_at others index seen there all.1

first_none : (one other : List Slice) → one ++ other ≡ [] → one ≡ []
first_none [] other e = refl
first_none (x ∷ one) other e = absurd (none_end x (one ++ other) e)

-- the request with this cookie on a link, and what it came to so far
abbrev request_on : Histories → (link cookie : ℕ) → commands.Request Ticket → Request
request_on histories link cookie asks = asked.request link cookie asks.flight.done.callback (record { command = bare asks; outcome = outcome_after (histories link) cookie })

-- A part of a turn, where each request on a link of the source is in the list of which the board's rows know.
module _ (from : Place) (F : board.Seen → Histories → Type 0) (how : How) (slices rest : List Slice) (now now' : board.Seen) (calls part : List wire.Call) (before after : List (Seen Ticket)) (ending : Ending)
    (source destination : List Request) (cells : Cells) (told : ℕ → Bool) (end block : ℕ) (wanted : Option (ℕ × ℕ)) (known : Known)
    (course : CourseOf F now calls before) (heeds : Heeds course.histories wanted known.whole known.reach now) (turns : Turns steps before now part after now' ending) (stands : AllStand after)
    (stood : Stands how slices now.rows source destination)
    (found : (link cookie : ℕ) (asks : commands.Request Ticket) → is_of from (calls ++ part) link ≡ true → request (course.histories link) cookie ≡ Some asks →
    under.IsFound (request_on course.histories link cookie asks) source)
    (planned : (p : ℕ) → IsPlannedOnce cells told 0 end p (slices ++ rest)) (some : 0 < block) (zeros : (p : ℕ) → known.whole block p ≡ true → p < end → told p ≡ true) (behind : IsBehind end wanted) where
  abbrev all : List wire.Call
  all = calls ++ part

  -- What was told.

  abbrev old : Histories
  old = course.histories

  turned : Turned (FreezeAsOld old) before after now' old
  turned = turns_all (FreezeAsOld old)
      (λ link event one other happens now now' same unissued plays. event_freezes old link event one other happens unissued now now' same)
      (λ link event one other happens now same unissued still. event_freezes old link event one other happens unissued now now same)
      before now part after now' ending old turns course.drive.own course.held (λ link. frozen_here (old link))

  says : (link : ℕ) → Says (old link) link all
  says link = elim (there_or_apart link after stands) [
    | inl h ↦
        let run = run_of all after h.index h.seen h.there
        (turn_runs calls before now part after now' ending turns (all_run calls before course.drive.drive course.drive.plain) (none_unread before course.drive.plain) course.drive.own) in
        let left = read_at after h.index h.seen h.there (all_read before now part after now' ending turns (none_unread before course.drive.plain)) in
        let frozen = subst (λ (x : History Ticket). Frozen (old h.seen.link) x) (one_has h.index h.seen turned.histories after h.there turned.held) (turned.stood h.seen.link) in
        subst (λ (n : ℕ). Says (old n) n all) h.same (says_read (old h.seen.link) all h.seen h.stands run frozen left)
    | inr apart ↦
        let was = turned.was_apart link apart in
        record {
          history = old link;
          frozen = frozen_here (old link);
          says = subst (DrivenSays (old link)) (sym (said_stays link calls part (turns_pass_others steps link part before after now now' ending was turns))) (course.parted link was);
        }
  ]

  -- What was asked by then had been asked before.
  module _ (link cookie : ℕ) (command : Command Nobody) (is : (dealt_with from all).asked link cookie ≡ Some command) where
    here : (is_of from all link ≡ true) × (asked_on (on_link link all) cookie ≡ Some command)
    here = only_if_some (is_of from all link) (asked_on (on_link link all) cookie) command is

    asked_then : IsAsked (says link).history cookie command
    asked_then = asked_by (says link).history (on_link link all) cookie command (says link).says here.1

    asked_before : request (old link) cookie ≡ Some asked_then.asks
    asked_before = sym ((says link).frozen.requests cookie) ∙ asked_then.is

    abbrev mine : Request
    mine = request_on old link cookie asked_then.asks

    there : under.IsFound mine source
    there = found link cookie asked_then.asks here.0 asked_before

    -- a block status tells extents
    tells : command.kind ≡ BlockStatus → tells_extents asked_then.asks.flight ≡ true
    tells kind =
        let asked_so : AsksOfSource slices asked_then.asks.flight.done.callback (bare asked_then.asks) =
        (Each-back (λ (r : Request). AsksOfSource slices r.ticket r.said.command) there.front (mine ∷ there.back)
        (subst (λ (l : List Request). Each (λ r. AsksOfSource slices r.ticket r.said.command) l) there.is stood.reads)).0 in
        either_true (first_tells asked_then.asks.flight.first) (is_extents asked_then.asks.flight.done.callback)
        (extents_by slices asked_then.asks.flight.done.callback (bare asked_then.asks) asked_so (ap (λ (c : Command Nobody). c.kind) asked_then.same ∙ kind))

    unread_here : (p : ℕ) → reads_over p source ≡ [] → reads command p ≡ false
    unread_here p none =
        ap (λ (c : Command Nobody). reads c p) (sym asked_then.same) ∙ none_reads p mine source none (subst (IsIn mine) (sym there.is) (in_middle there.front there.back mine))

  module _ (p : ℕ) (w : WasToldWhole block (dealt_with from all) p) where
    at : is_of from all w.link ≡ true
    at = (here w.link w.cookie w.command w.asked).0

    abbrev s : Says (old w.link) w.link all
    s = says w.link

    abbrev a : IsAsked s.history w.cookie w.command
    a = asked_then w.link w.cookie w.command w.asked

    was_asked : request (old w.link) w.cookie ≡ Some a.asks
    was_asked = asked_before w.link w.cookie w.command w.asked

    tells_it : tells_extents a.asks.flight ≡ true
    tells_it = tells w.link w.cookie w.command w.asked w.kind

    -- one that was over before tells nothing else since
    heard_known : IsHeard (old w.link) known.whole known.reach w.cookie a.asks → known.whole block p ≡ true
    heard_known heard =
        let same = s.frozen.same w.cookie heard.over in
        let done : outcome_after (old w.link) w.cookie ≡ Done w.bytes =
        ap (λ q. outcome_of q (own w.cookie (reading (old w.link)).known.entries)) (sym (s.frozen.requests w.cookie))
        ∙ ap (λ l. outcome_of (request s.history w.cookie) l) (sym same)
        ∙ sym (s.says.outcomes w.cookie a.out) ∙ sym (ap (λ (c : Bool). if c then answered (on_link w.link all) w.cookie else Unfinished) at) ∙ w.done in
        let zero_same : (q : ℕ) → zero_after (old w.link) w.cookie q ≡ told_zero (on_link w.link all) w.cookie q = λ q.
        ap (λ r. zero_told r (own w.cookie (reading (old w.link)).known.entries) q) (sym (s.frozen.requests w.cookie))
        ∙ ap (λ l. zero_told (request s.history w.cookie) l q) (sym same)
        ∙ sym (s.says.zero w.cookie q a.out) in
        heard.whole (record { bytes = w.bytes; is = done }) block p
        (ap (λ (f : ℕ → Bool). is_whole block f p) (λ i q. (ap (λ (c : Command Nobody). has c q && zero_after (old w.link) w.cookie q) a.same
        ∙ ap (λ (c : Bool). has w.command q && c) (zero_same q) ∙ sym (ap (λ (c : Bool). has w.command q && (c && told_zero (on_link w.link all) w.cookie q)) at)) i) ∙ w.whole)

    -- the block lies in the request
    inside : has w.command p ≡ true
    inside = and_left (has w.command p) _ (all_elim (λ q. has w.command q && (dealt_with from all).zero w.link w.cookie q) (p / block * block) block w.whole p (div-mul-le_self p block) (lt-div-mul-add some))

    begins : (range : ℕ × ℕ) → a.asks.offset ≡ range.0 → range.0 ≤ p
    begins range is =
        let low = leb-true w.command.offset p (and_left (nat_le w.command.offset p) _ inside) in
        let same : w.command.offset ≡ range.0 = ap (λ (c : Command Nobody). c.offset) (sym a.same) ∙ is in
        omega (arith, low, same)

    past : (range : ℕ × ℕ) → end ≤ range.0 → range.0 ≤ p → p < end → told p ≡ true
    past range ahead low lower = absurd (omega (arith, ahead, low, lower))

    heeded : (range : Option (ℕ × ℕ)) → IsBehind end range → Heeds old range known.whole known.reach now → p < end → told p ≡ true
    heeded None ahead heeds = zeros p (heard_known (heeds w.link w.cookie a.asks was_asked tells_it))
    heeded (Some range) ahead heeds = elim (heeds.others w.link w.cookie a.asks was_asked tells_it) [
      | inl same ↦
          let q : heeds.asks ≡ a.asks = some_same heeds.asks a.asks (sym heeds.asked ∙ ap (λ x. request (old x) heeds.cookie) (sym same.0) ∙ ap (request (old w.link)) (sym same.1) ∙ was_asked) in
          past range ahead (begins range (ap (λ (x : commands.Request Ticket). x.offset) (sym q) ∙ heeds.offset))
      | inr heard ↦ zeros p (heard_known heard)
    ]

    zero_or_behind : p < end → told p ≡ true
    zero_or_behind = heeded wanted behind heeds

  -- What is read.

  -- nothing at a position that is planned as zero, or not planned yet
  read_none : (p : ℕ) → (p < end → told p ≡ true) → reads_over p source ≡ []
  read_none p zero_here = elim (cases_lt p end) [
    | inl low ↦ unread how cells told end p slices rest now.rows source destination stood (planned p) (zero_here low)
    | inr high ↦ reads_nowhere p slices source (first_none (slices_at p slices) (slices_at p rest) (sym (at_both p slices rest) ∙ (planned p).outside (inr high))) stood.reads
  ]

  part_spares : ReadsNoZeros block (dealt_with from all)
  part_spares p w link cookie command is = unread_here link cookie command is p (read_none p (zero_or_behind p w))

pub parts_spare : PartsSpare
parts_spare from to size how sides slices rest now now' calls part before after ending cells told end block wanted known b t well turns stands planned two some zeros behind =
    let s = t.course.stood in
    let old = t.course.histories in
    part_spares from (Stood how sides slices) how slices rest now now' calls part before after ending s.source s.destination cells told end block wanted known t.course t.heeds turns stands (s.stands well)
    (λ link cookie asks here is. under.found link cookie (request_on old link cookie asks) s.source
    ((s.reads link).each cookie
    ∙ ap (λ (h : History Ticket). tracks.told_by link cookie h)
    (on_here sides old link (source_here from to size how sides slices now now' calls part before after ending b turns stands two link here))
    ∙ ap (λ o. tracks.request_of link cookie o (outcome_after (old link) cookie)) is))
    planned some zeros behind

-- Of a copy to a file each link is one of the export.
pub parts_spare_far : PartsSpareFar
parts_spare_far done at size how slices now now' calls part before after ending block wanted known b well turns stands plan =
    let s = b.course.stood.stood in
    let old = b.course.histories in
    part_spares at (Knows (FarStood (ToFile done) how slices) every wanted known) how slices plan.rest now now' calls part before after ending s.asked done plan.cells plan.told plan.end block wanted known
    b.course b.course.stood.heeds turns stands (s.stands well)
    (λ link cookie asks here is. under.found link cookie (request_on old link cookie asks) s.asked
    ((s.tracked link).each cookie ∙ ap (λ o. tracks.request_of link cookie o (outcome_after (old link) cookie)) is))
    plan.once plan.some plan.zeros plan.behind
