-- Each change is a longest run of what was read, or of what was told as zero, also where a turn ends short.
use Rattle.std.proofs.Common.{◌≡◌, ◌≢◌, ◌⊎◌, inl, inr, ℕ, ◌+◌, ◌<◌, ◌≤◌, Bool, true, false, not, ◌&&◌, ◌||◌, List, [], ◌∷◌, ◌++◌, ◌-◌, length, get_or, slice_get, Option, Some, None, refl, ap, sym, subst, ◌∙◌, arith, nat_le, append-nil, if◌then◌else◌}
use Rattle.std.proofs.Math.ListN.{get_or-replicate}
use Rattle.std.proofs.lemmas.Bool.{cases_lt, eq-eqb, false≢true}
use Rattle.std.proofs.lemmas.Option.{get_or_from_slice_get}
use Rattle.std.specs.Option.{option_map}
use Rattle.lnbd_model.specs.declared.kind.Kind.{Kind}
use Rattle.lnbd_model.specs.declared.kind.Kind.TheVariants.{Flush}
use Rattle.lnbd_model.specs.declared.target.Place.{Place}
use Rattle.lnbd_extents.specs.Positions.{within}
use Rattle.lnbd_keyed.specs.Keyed.{value_at}
use Rattle.lnbd_outcome.specs.Outcome.{Done, Unfinished}
use Rattle.lnbd_link.specs.Call as wire
use Rattle.lnbd_history.specs.Commands as commands
use Rattle.lnbd_history.specs.Commands.{Command}
use Rattle.lnbd_history.specs.Entries.{Filing, is_ended, own as own_of}
use Rattle.lnbd_history.specs.Events.{Answer, History, Arrived}
use Rattle.lnbd_history.specs.History.{reading, request}
use Rattle.lnbd_history.specs.Laws.{Lawful}
use Rattle.lnbd_asked.specs.Driven.{AllSpell, DrivenSays, Drives, outcome_after, written, zero_after}
use Rattle.lnbd_asked.specs.Exports.{name_set}
use Rattle.lnbd_asked.specs.Honest.{changes, has}
use Rattle.lnbd_asked.specs.Link.{Nobody}
use Rattle.lnbd_asked.specs.Transcript.{Dealt, answered, asked_on, bare, dealt_with, is_name, is_of, is_target, name_asked, on_link, only_if, outcome_of, told_zero, zero_told}
use Rattle.lnbd_asked.proofs.Driving.{driven_say_so}
use Rattle.lnbd_asked.proofs.Naming.{driven_are_of}
use Rattle.lnbd_asked.proofs.Staying.{names_stay}
use Rattle.lnbd_poll.specs.Seen.{Seen}
use Rattle.lnbd_poll.specs.Turns.{Ending, Turns}
use Rattle.lnbd_drives.proofs.Modes.{arrived_mode, mode}
use Rattle.lnbd_drives.proofs.Exports.{turns_give_none}
use Rattle.lnbd_drives.proofs.Passing.{said_stays}
use Rattle.lnbd_drives.proofs.Taking.{Runs}
use Rattle.lnbd_drives.proofs.Turning.{turns_pass_others}
use Rattle.lnbd_plan.specs.declared.cells.Cells.{Cells}
use Rattle.lnbd_plan.specs.declared.grid.Slice.{Slice}
use Rattle.lnbd_plan.specs.Blocks.{in_zero_block}
use Rattle.lnbd_plan.specs.Laws.{IsInOne, IsPlannedOnce, slices_at}
use Rattle.lnbd_plan.proofs.OnceLaws.{at_both}
use Rattle.lnbd_board.specs.declared.how.How.{How}
use Rattle.lnbd_board.specs.declared.row.Row.{Row}
use Rattle.lnbd_board.specs.declared.ticket.Ticket.{Ticket}
use Rattle.lnbd_board.specs.declared.ticket.Ticket.TheVariants as ticket
use Rattle.lnbd_board.specs.Carried.{IsUnread, Puts}
use Rattle.lnbd_board.specs.Files as board
use Rattle.lnbd_board.specs.Holds.{WasToldZero}
use Rattle.lnbd_board.specs.Pieces.{AreRuns, detects, is_told, ask_of, spell1, stretch}
use Rattle.lnbd_board.specs.Requests.{IsIn, Request, Said, own, reads}
use Rattle.lnbd_board.specs.Requests as asked
use Rattle.lnbd_board.specs.Rows.{AsksOfDestination, IsInside, IsRead, IsZeroed, KnownBy, StandsAs, lies_in, slice_at}
use Rattle.lnbd_board.proofs.Lists.{in_each, none_reads, own_first}
use Rattle.lnbd_board.proofs.Spelling.{apart, found, has_piece, some_at, within_at, within_true}
use Rattle.lnbd_tracks.specs.Mapping.{IsToldZero}
use Rattle.lnbd_tracks.specs.Tracks.{Histories}
use Rattle.lnbd_tracks.proofs.Outcomes.{waits}
use Rattle.lnbd_tracks.proofs.Written.{done_is_written}
use Rattle.lnbd_course.specs.Between.{Between, place_of}
use Rattle.lnbd_course.specs.Course.{Course, on_side}
use Rattle.lnbd_course.specs.Failed.{AllStand, HasHandle}
use Rattle.lnbd_course.specs.Runs.{IsOfTold, IsRunOfRead, PartsWriteRuns, RunsAreWhole, RunsThatTouchDiffer, counts_zero, is_zeroing}
use Rattle.lnbd_course.specs.Told.{Known, ToldCourse}
use Rattle.lnbd_course.proofs.Address.{is_called, is_there, target_stays}
use Rattle.lnbd_course.proofs.Cutting.{Among, IsPieceOf, among_own, asks_size, asks_start, asks_zeros, at_piece, over_piece, run_before, run_behind, run_some, run_whole}
use Rattle.lnbd_course.proofs.Ending.{of_it}
use Rattle.lnbd_course.proofs.Failing.{there_or_apart}
use Rattle.lnbd_course.proofs.Frozen.{FreezeAsOld, Frozen, IsRead as HasAllArrived, all_read, at_once, event_freezes, frozen_here}
use Rattle.lnbd_course.proofs.Holding.{one_has}
use Rattle.lnbd_course.proofs.Listing.{asked_by, none_end}
use Rattle.lnbd_course.proofs.Parts.{all_run, destination_listed, none_unread, run_of, source_listed, turn_runs}
use Rattle.lnbd_course.proofs.Placed.{asked_given, one_written}
use Rattle.lnbd_course.proofs.Sparing.{unread}
use Rattle.lnbd_course.proofs.Spared.{Says, read_at, says_read}
use Rattle.lnbd_course.proofs.Turning.{Turned, steps, turns_all}

none_some : {A : Type 0} (one : A) → None ≡ Some one → ⊥
none_some one e = cc

-- What a run is.

at_first : (change : Command Nobody) → 0 < change.length → has change change.offset ≡ true
at_first change some = within_at change.offset change.length change.offset (omega arith) (omega (arith, some))

at_last : (change : Command Nobody) (n : ℕ) → n + 1 ≡ change.length → has change (change.offset + n) ≡ true
at_last change n e = within_at change.offset change.length (change.offset + n) (omega arith) (omega (arith, e))

module _ (how : How) (source : Dealt) (change : Command Nobody) (run : IsRunOfRead how source change) (blind : detects how ≡ false) where
  none : (p : ℕ) → counts_zero how run.read.offset run.bytes p ≡ false
  none p = ap (λ (b : Bool). b && in_zero_block how.block run.read.offset run.bytes p) blind

  is_write : is_zeroing change.kind ≡ false
  is_write = sym (run.alike change.offset (at_first change run.some)) ∙ none change.offset

  -- what was read just beside it would count as zero
  nothing_beside : (p : ℕ) → counts_zero how run.read.offset run.bytes p ≡ not (is_zeroing change.kind) → ⊥
  nothing_beside p is = false≢true (sym (none p) ∙ is ∙ ap not is_write)

  first_read : (run.read.offset ≤ change.offset) × (change.offset < run.read.offset + run.read.length)
  first_read = within_true run.read.offset run.read.length change.offset (run.inside change.offset (at_first change run.some))

  last_read : change.offset + change.length ≤ run.read.offset + run.read.length
  last_read =
      let some = run.some in
      let e : change.length - 1 + 1 ≡ change.length = omega (arith, some) in
      let w = within_true run.read.offset run.read.length (change.offset + (change.length - 1)) (run.inside (change.offset + (change.length - 1)) (at_last change (change.length - 1) e)) in
      let high = w.1 in
      omega (arith, high, e)

  start_same : change.offset ≡ run.read.offset
  start_same =
      let low = first_read.0 in
      let high = first_read.1 in
      elim (cases_lt run.read.offset change.offset) [
        | inl less ↦
            let here : has run.read (change.offset - 1) ≡ true = within_at run.read.offset run.read.length (change.offset - 1) (omega (arith, less)) (omega (arith, less, high)) in
            absurd (nothing_beside (change.offset - 1) (run.before (change.offset - 1) here (omega (arith, less))))
        | inr more ↦ omega (arith, low, more)
      ]

  size_same : change.length ≡ run.read.length
  size_same =
      let start = start_same in
      let last = last_read in
      elim (cases_lt change.length run.read.length) [
        | inl less ↦
            let here : has run.read (change.offset + change.length) ≡ true = within_at run.read.offset run.read.length (change.offset + change.length) (omega (arith, start)) (omega (arith, start, less)) in
            absurd (nothing_beside (change.offset + change.length) (run.behind here))
        | inr more ↦ omega (arith, start, last, more)
      ]

pub runs_are_whole : RunsAreWhole
runs_are_whole how source change run blind = (is_write how source change run blind, start_same how source change run blind, size_same how source change run blind)

same_command : (one other : Command Nobody) → Some one ≡ Some other → one ≡ other
same_command one other e = cc

same_bytes : (one other : List ℕ) → Done one ≡ Done other → one ≡ other
same_bytes one other e = cc

pub runs_differ : RunsThatTouchDiffer
runs_differ how source one other run run' link cookie touch =
    let read = same_command run.read run'.read (sym run.asked ∙ ap (λ (l : ℕ). source.asked l run.cookie) link ∙ ap (source.asked run'.link) cookie ∙ run'.asked) in
    let bytes = same_bytes run.bytes run'.bytes (sym run.done ∙ ap (λ (l : ℕ). source.outcome l run.cookie) link ∙ ap (source.outcome run'.link) cookie ∙ run'.done) in
    let alike = run'.alike other.offset (at_first other run'.some) in
    let here : has run.read (one.offset + one.length) ≡ true = ap (λ (c : Command Nobody). has c (one.offset + one.length)) read ∙ ap (has run'.read) touch ∙ run'.inside other.offset (at_first other run'.some) in
    sym alike
    ∙ ap (λ (c : Command Nobody). counts_zero how c.offset run'.bytes other.offset) (sym read)
    ∙ ap (λ (b : List ℕ). counts_zero how run.read.offset b other.offset) (sym bytes)
    ∙ ap (counts_zero how run.read.offset run.bytes) (sym touch)
    ∙ run.behind here

-- What is done is over.

ended_done : (o : Option (commands.Request Ticket)) (filings : List (Filing Ticket)) (bytes : List ℕ) → outcome_of o filings ≡ Done bytes → is_ended filings ≡ true
ended_done None filings bytes e = absurd (cc)
ended_done (Some asks) filings bytes e = go (is_ended filings) refl
  where
    differ : Unfinished ≡ Done bytes → ⊥
    differ k = cc

    go : (b : Bool) → is_ended filings ≡ b → is_ended filings ≡ true
    go true is = is
    go false is = absurd (differ (sym (waits asks filings is) ∙ e))

-- What was done by a history is done by a link whose handle did more since.
record IsDoneOn (link : ℕ) (cookie : ℕ) (asks : commands.Request Ticket) (bytes : List ℕ) (all : List wire.Call) : Type 0 where
  asked : asked_on (on_link link all) cookie ≡ Some (bare asks)
  came : answered (on_link link all) cookie ≡ Done bytes

module _ (old : History Ticket) (link : ℕ) (all : List wire.Call) (s : Says old link all) (cookie : ℕ) (asks : commands.Request Ticket) (bytes : List ℕ) (is : request old cookie ≡ Some asks) (done : outcome_after old cookie ≡ Done bytes) where
  same : own_of cookie (reading s.history).known.entries ≡ own_of cookie (reading old).known.entries
  same = s.frozen.same cookie (ended_done (request old cookie) (own_of cookie (reading old).known.entries) bytes done)

  came_so : outcome_after s.history cookie ≡ Done bytes
  came_so = ap (λ q. outcome_of q (own_of cookie (reading s.history).known.entries)) (s.frozen.requests cookie) ∙ ap (λ l. outcome_of (request old cookie) l) same ∙ done

  out : nat_le cookie (written s.history) ≡ true
  out = done_is_written s.history cookie bytes came_so

  done_on : IsDoneOn link cookie asks bytes all
  done_on = record {
    asked = s.says.requests cookie
        ∙ ap (λ (b : Bool). if b then option_map bare (request s.history cookie) else None) out
        ∙ ap (λ (a : Option (commands.Request Ticket)). option_map bare a) (s.frozen.requests cookie ∙ is);
    came = s.says.outcomes cookie out ∙ came_so;
  }

  zero_on : (p : ℕ) → told_zero (on_link link all) cookie p ≡ zero_after old cookie p
  zero_on p = s.says.zero cookie p out
      ∙ ap (λ q. zero_told q (own_of cookie (reading s.history).known.entries) p) (s.frozen.requests cookie)
      ∙ ap (λ l. zero_told (request old cookie) l p) same

-- After a part of a turn.

module _ (how : How) (sides : ℕ → Bool) (slices : List Slice) (now now' : board.Seen) (calls part : List wire.Call) (before after : List (Seen Ticket)) (ending : Ending) (c : Course how sides slices now calls before) (turns : Turns steps before now part after now' ending) (stands : AllStand after) where
  abbrev all_calls : List wire.Call
  all_calls = calls ++ part

  turned : Turned (FreezeAsOld c.histories) before after now' c.histories
  turned = turns_all (FreezeAsOld c.histories)
      (λ link event one other happens now now' same unissued plays. event_freezes c.histories link event one other happens unissued now now' same)
      (λ link event one other happens now same unissued still. event_freezes c.histories link event one other happens unissued now now same)
      before now part after now' ending c.histories turns c.drive.own c.held (λ link. frozen_here (c.histories link))

  -- each link says what was before, and perhaps more
  says : (link : ℕ) → Says (c.histories link) link (calls ++ part)
  says link = elim (there_or_apart link after stands) [
    | inl h ↦
        let run = run_of (calls ++ part) after h.index h.seen h.there (turn_runs calls before now part after now' ending turns (all_run calls before c.drive.drive c.drive.plain) (none_unread before c.drive.plain) c.drive.own) in
        let left = read_at after h.index h.seen h.there (all_read before now part after now' ending turns (none_unread before c.drive.plain)) in
        let frozen = subst (λ (x : History Ticket). Frozen (c.histories h.seen.link) x) (one_has h.index h.seen turned.histories after h.there turned.held) (turned.stood h.seen.link) in
        subst (λ (n : ℕ). Says (c.histories n) n (calls ++ part)) h.same (says_read (c.histories h.seen.link) (calls ++ part) h.seen h.stands run frozen left)
    | inr apart ↦
        let was = turned.was_apart link apart in
        record {
          history = c.histories link;
          frozen = frozen_here (c.histories link);
          says = subst (DrivenSays (c.histories link)) (sym (said_stays link calls part (turns_pass_others steps link part before after now now' ending was turns))) (c.parted link was);
        }
  ]

-- A link on which a command was wholly written asked for the name that was set.

named_read : (calls : List wire.Call) (seen : Seen Ticket) → HasHandle seen.history → Runs seen.link calls seen.history seen.unread → HasAllArrived seen → (cookie : ℕ) (command : Command Nobody) → asked_on (on_link seen.link calls) cookie ≡ Some command →
    name_asked (on_link seen.link calls).wishes ≡ Some (name_set seen.history)
named_read calls seen stands run (inl none) cookie command is =
    let drives = subst (Drives seen.link calls seen.history) none run.drives in
    let says = driven_say_so stands.limit seen.link calls seen.history stands.stands.lawful run.spelled stands.stands.going run.off drives in
    let of = driven_are_of stands.limit seen.link calls seen.history stands.stands.lawful run.spelled stands.stands.going run.off drives in
    let a = asked_by seen.history (on_link seen.link calls) cookie command says is in
    (of.asked (one_written seen.history cookie a.asks a.is a.out)).0
named_read calls seen stands run (inr a) cookie command is = by a.bytes a.answers a.before a.is
  where
    by : (bytes : List ℕ) (answers : List Answer) (before : History Ticket) → seen.history ≡ Arrived bytes answers ∷ before → name_asked (on_link seen.link calls).wishes ≡ Some (name_set seen.history)
    by bytes answers before e =
        let lawful = subst (λ (h : History Ticket). Lawful stands.limit h) e stands.stands.lawful in
        let spelled = subst AllSpell e run.spelled in
        let off : mode (Arrived bytes answers ∷ before) ≡ false = ap mode (sym e) ∙ run.off in
        let drives = at_once seen.link calls bytes answers before seen.unread (subst (λ (h : History Ticket). Drives seen.link calls h seen.unread) e run.drives) in
        let all : List ℕ = bytes ++ seen.unread in
        let now : History Ticket = Arrived all answers ∷ before in
        let still = arrived_mode before all answers ∙ sym (arrived_mode before bytes answers) ∙ off in
        let arrives = Drives.Arrives calls before all all [] answers drives (sym (append-nil all)) in
        let says = driven_say_so stands.limit seen.link calls now (lawful.0, lawful.1, lawful.2) (tt, spelled.1) refl still arrives in
        let of = driven_are_of stands.limit seen.link calls now (lawful.0, lawful.1, lawful.2) (tt, spelled.1) refl still arrives in
        let a = asked_by now (on_link seen.link calls) cookie command says is in
        (of.asked (one_written now cookie a.asks a.is a.out)).0
        ∙ ap (λ n. Some n) (names_stay before (Arrived all answers) refl ∙ sym (names_stay before (Arrived bytes answers) refl) ∙ ap name_set (sym e))

-- What was said for a slice.

piece_at : (how : How) (s : Slice) (row : Option Row) (read changed : List Said) (x : Said) → StandsAs how s row read changed → Among x changed → IsPieceOf how s read x
piece_at how s None read changed x h there = over_piece how s read changed x h there
piece_at how s (Some row) read changed x h there = at_piece how s row.stage read changed x h.1 there

-- the handle of a link on the source's side
side_of : (sides : ℕ → Bool) (histories : Histories) (link cookie : ℕ) (asks : commands.Request Ticket) → request (on_side sides histories link) cookie ≡ Some asks → (sides link ≡ true) × (on_side sides histories link ≡ histories link)
side_of sides histories link cookie asks is = go (sides link) refl is
  where
    go : (b : Bool) → sides link ≡ b → request (if b then histories link else []) cookie ≡ Some asks → (sides link ≡ true) × (on_side sides histories link ≡ histories link)
    go true e k = (e, ap (λ (b : Bool). if b then histories link else []) e)
    go false e k = absurd (none_some asks k)

-- Slices that are told as zero.

first_same : (s slice : Slice) (more rest : List Slice) → (s ∷ more) ++ rest ≡ slice ∷ [] → (s ≡ slice) × (more ≡ [])
first_same s slice [] rest e = (cc, refl)
first_same s slice (t ∷ more) rest e = absurd (cc)

few_one : (s : Slice) (more : List Slice) (xs : List Slice) → xs ≡ s ∷ more → more ≡ [] → length xs ≤ 1
few_one s more xs e none = subst (λ (l : List Slice). length l ≤ 1) (sym (e ∙ ap (λ (l : List Slice). s ∷ l) none)) (omega arith)

none_few : (xs : List Slice) → xs ≡ [] → 0 < length xs → ⊥
none_few xs e some = absurd (let k : 0 < 0 = subst (λ (l : List Slice). 0 < length l) e some in omega (arith, k))

-- each of their positions is
told_slice : (cells : Cells) (told : ℕ → Bool) (end p n : ℕ) (slices rest : List Slice) → IsPlannedOnce cells told 0 end p (slices ++ rest) → n < length slices → (slice_at slices n).zero ≡ true → lies_in (slice_at slices n) p ≡ true → told p ≡ true
told_slice cells told end p n slices rest planned begun zeroed here = at (slices_at p slices) refl
  where
    at : (xs : List Slice) → slices_at p slices ≡ xs → told p ≡ true
    at [] e = absurd (none_few (slices_at p slices) e (some_at p n slices begun here))
    at (s ∷ more) e = go (cases_lt p end)
      where
        all : slices_at p (slices ++ rest) ≡ (s ∷ more) ++ slices_at p rest
        all = at_both p slices rest ∙ ap (λ (l : List Slice). l ++ slices_at p rest) e

        one : IsInOne (told p) p (slices ++ rest) → told p ≡ true
        one o =
            let f = found p s slices more e in
            let same = first_same s o.slice more (slices_at p rest) (sym all ∙ o.one) in
            let number = apart p n f.number slices (few_one s more (slices_at p slices) e same.1) begun f.held here f.has in
            sym o.alike ∙ ap (λ (x : Slice). x.zero) (sym same.0 ∙ sym f.is ∙ ap (slice_at slices) (sym number)) ∙ zeroed

        go : (p < end) ⊎ (end ≤ p) → told p ≡ true
        go (inr high) = absurd (none_end s (more ++ slices_at p rest) (sym all ∙ planned.outside (inr high)))
        go (inl low) = elim (cells.zeros || not (told p)) as (λ b. (cells.zeros || not (told p)) ≡ b → told p ≡ true) [
          | true ↦ λ is. one (planned.one (omega arith) low is)
          | false ↦ λ is. absurd (none_end s (more ++ slices_at p rest) (sym all ∙ planned.none (omega arith) low is))
        ] refl

-- A part of a turn of a copy.
module _ (from to : Place) (size : Option ℕ) (how : How) (sides : ℕ → Bool) (slices rest : List Slice) (now now' : board.Seen) (calls part : List wire.Call) (before after : List (Seen Ticket)) (ending : Ending) (cells : Cells) (told : ℕ → Bool) (end : ℕ) (wanted : Option (ℕ × ℕ)) (known : Known)
    (b : Between from to size how sides slices now calls before) (t : ToldCourse how sides slices now calls before wanted known) (well : now.error ≡ None) (turns : Turns steps before now part after now' ending) (stands : AllStand after)
    (planned : (p : ℕ) → IsPlannedOnce cells told 0 end p (slices ++ rest)) (two : from ≢ to) (knows : (p : ℕ) → told p ≡ true → known.zero p ≡ true) where
  abbrev all : List wire.Call
  all = calls ++ part

  abbrev old : Histories
  old = b.course.histories

  abbrev source : List Request
  source = b.course.stood.source

  abbrev destination : List Request
  destination = b.course.stood.destination

  b_says : (link : ℕ) → Says (old link) link all
  b_says link = says how sides slices now now' calls part before after ending b.course turns stands link

  -- Links.

  named : (link cookie : ℕ) (command : Command Nobody) → asked_on (on_link link all) cookie ≡ Some command → name_asked (on_link link all).wishes ≡ Some (name_set (old link))
  named link cookie command is = elim (there_or_apart link after stands) [
    | inl h ↦
        let turned_ = turned how sides slices now now' calls part before after ending b.course turns stands in
        let run = run_of all after h.index h.seen h.there (turn_runs calls before now part after now' ending turns (all_run calls before b.course.drive.drive b.course.drive.plain) (none_unread before b.course.drive.plain) b.course.drive.own) in
        let left = read_at after h.index h.seen h.there (all_read before now part after now' ending turns (none_unread before b.course.drive.plain)) in
        let name : name_set h.seen.history ≡ name_set (old h.seen.link) = ap name_set (sym (one_has h.index h.seen turned_.histories after h.there turned_.held)) ∙ (turned_.later h.seen.link).name in
        subst (λ (n : ℕ). asked_on (on_link n all) cookie ≡ Some command → name_asked (on_link n all).wishes ≡ Some (name_set (old n))) h.same
        (λ e. named_read all h.seen h.stands run left cookie command e ∙ ap (λ (x : List ℕ). Some x) name) is
    | inr apart ↦
        let was = (turned how sides slices now now' calls part before after ending b.course turns stands).was_apart link apart in
        let same = said_stays link calls part (turns_pass_others steps link part before after now now' ending was turns) in
        let a = asked_by (old link) (on_link link calls) cookie command (b.course.parted link was) (ap (λ l. asked_on l cookie) (sym same) ∙ is) in
        ap (λ l. name_asked l.wishes) same ∙ ((b.parted link was).asked (one_written (old link) cookie a.asks a.is a.out)).0
  ]

  -- a link on which a command was wholly written is of its side's export
  of_side : (link cookie : ℕ) (command : Command Nobody) → asked_on (on_link link all) cookie ≡ Some command → is_of (place_of from to (sides link)) all link ≡ true
  of_side link cookie command is =
      let s = b_says link in
      let a = asked_by s.history (on_link link all) cookie command s.says is in
      let given = asked_given from to size how sides slices now calls before b link cookie a.asks (sym (s.frozen.requests cookie) ∙ a.is) in
      let mine = place_of from to (sides link) in
      ap (λ o. is_target mine.to o && is_name mine.name (name_asked (on_link link all).wishes)) (target_stays link calls part (turns_give_none steps link part before after now now' ending turns) ∙ b.placed.address link given)
      ∙ ap (λ (c : Bool). c && is_name mine.name (name_asked (on_link link all).wishes)) (is_there mine.to)
      ∙ ap (is_name mine.name) (named link cookie command is ∙ ap (λ (n : List ℕ). Some n) (b.placed.name link given))
      ∙ is_called mine.name

  of_source : (link cookie : ℕ) (command : Command Nobody) → sides link ≡ true → asked_on (on_link link all) cookie ≡ Some command → is_of from all link ≡ true
  of_source link cookie command side is = subst (λ (p : Place). is_of p all link ≡ true) (ap (place_of from to) side) (of_side link cookie command is)

  -- What was told as zero.

  was_told : (p : ℕ) → IsToldZero sides t.course.histories p → WasToldZero (dealt_with from all) p
  was_told p z =
      let s = says how sides slices now now' calls part before after ending t.course turns stands z.link in
      let d = done_on (t.course.histories z.link) z.link all s z.cookie z.asks z.done.bytes z.asked z.done.is in
      let here = of_source z.link z.cookie (bare z.asks) z.source d.asked in
      record {
        link = z.link;
        cookie = z.cookie;
        command = bare z.asks;
        bytes = z.done.bytes;
        asked = ap (λ (x : Bool). only_if x (asked_on (on_link z.link all) z.cookie)) here ∙ d.asked;
        kind = z.kind;
        done = ap (λ (x : Bool). if x then answered (on_link z.link all) z.cookie else Unfinished) here ∙ d.came;
        has = z.has;
        zero = ap (λ (x : Bool). x && told_zero (on_link z.link all) z.cookie p) here ∙ zero_on (t.course.histories z.link) z.link all s z.cookie z.asks z.done.bytes z.asked z.done.is p ∙ z.zero;
      }

  was_unread : (p : ℕ) → told p ≡ true → IsUnread (dealt_with from all) p
  was_unread p zeroed link cookie command is =
      let u = source_listed from to size how sides slices now now' calls part before after ending b turns stands two link cookie command is in
      ap (λ (c : Command Nobody). reads c p) (sym u.asks)
      ∙ none_reads p u.request source (unread how cells told end p slices rest now.rows source destination (b.course.stood.stands well) (planned p) zeroed) u.within

  -- What is written of a slice that was read.
  module _ (n : ℕ) (x : Said) (piece : IsPieceOf how (slice_at slices n) (own n source) x) (untold : (slice_at slices n).zero ≡ false) (inside : (p : ℕ) → has x.command p ≡ true → lies_in (slice_at slices n) p ≡ true) where
    abbrev s : Slice
    s = slice_at slices n

    abbrev asks : Command Nobody
    asks = ask_of how piece.at piece.piece

    abbrev run : Slice
    run = stretch piece.at piece.piece

    read : IsRead s (Done piece.bytes) (own n source)
    read = subst (λ (z : Bool). KnownBy z s piece.bytes (own n source)) untold piece.known.by

    has_read : (p : ℕ) → has read.command p ≡ lies_in s p
    has_read p = ap (λ (m : ℕ). within (m, read.command.length) p) read.start ∙ ap (λ (m : ℕ). within (s.start, m) p) read.size

    counts : (p : ℕ) → counts_zero how read.command.offset piece.bytes p ≡ is_told how s piece.bytes p
    counts p = ap (λ (m : ℕ). counts_zero how m piece.bytes p) read.start

    cut : AreRuns how s piece.bytes piece.runs
    cut = piece.cut untold

    zeros : is_zeroing asks.kind ≡ run.zero
    zeros = asks_zeros how piece.at piece.piece

    ends : asks.offset + asks.length ≡ run.start + run.length
    ends = let start = asks_start how piece.at piece.piece in let many = asks_size how piece.at piece.piece in omega (arith, start, many)

    alike : (p : ℕ) → has asks p ≡ true → counts_zero how read.command.offset piece.bytes p ≡ is_zeroing asks.kind
    alike p here =
        let w = within_true piece.at (length (spell1 piece.piece)) p (sym (has_piece how p piece.at piece.piece) ∙ here) in
        let whole = run_whole (is_told how s piece.bytes) (λ _. false) run piece.runs cut.whole piece.there in
        counts p ∙ whole.alike p w.0 w.1 ∙ sym zeros

    before_it : (p : ℕ) → has read.command p ≡ true → p + 1 ≡ asks.offset → counts_zero how read.command.offset piece.bytes p ≡ not (is_zeroing asks.kind)
    before_it p here is =
        let w = within_true s.start s.length p (sym (has_read p) ∙ here) in
        counts p ∙ run_before (is_told how s piece.bytes) run s.start (s.start + s.length) piece.runs cut.between cut.whole cut.parted piece.there p w.0 (is ∙ asks_start how piece.at piece.piece) ∙ ap not (sym zeros)

    behind_it : has read.command (asks.offset + asks.length) ≡ true → counts_zero how read.command.offset piece.bytes (asks.offset + asks.length) ≡ not (is_zeroing asks.kind)
    behind_it here =
        let w = within_true s.start s.length (asks.offset + asks.length) (sym (has_read (asks.offset + asks.length)) ∙ here) in
        counts (asks.offset + asks.length) ∙ ap (is_told how s piece.bytes) ends
        ∙ run_behind (is_told how s piece.bytes) run s.start (s.start + s.length) piece.runs cut.between cut.whole cut.parted piece.there (let low = w.1 in omega (arith, low, ends)) ∙ ap not (sym zeros)

    -- each position is put as it was read
    puts : (p byte : ℕ) → has asks p ≡ true → slice_get piece.bytes (p - read.command.offset) ≡ Some byte → Puts asks p byte
    puts p byte here is =
        let told = get_or_from_slice_get piece.bytes (p - s.start) byte 0 (ap (λ (m : ℕ). slice_get piece.bytes (p - m)) (sym read.start) ∙ is) in
        subst (λ (b : ℕ). Puts asks p b) told (piece.puts p here).2

    some : 0 < asks.length
    some =
        let least = (run_some (is_told how s piece.bytes) (λ _. false) run s.start (s.start + s.length) piece.runs cut.between piece.there).0 in
        let many = asks_size how piece.at piece.piece in
        omega (arith, least, many)

    is_run : IsRunOfRead how (dealt_with from all) asks
    is_run =
        let first = own_first n (record { command = read.command; outcome = Done piece.bytes }) source read.one in
        let r = first.0 in
        let o = of_it (on_side sides old) source r b.course.stood.reads first.1.0 in
        let side = side_of sides old r.link r.cookie o.asks o.is in
        let is : request (old r.link) r.cookie ≡ Some o.asks = ap (λ (h : History Ticket). request h r.cookie) (sym side.1) ∙ o.is in
        let came : outcome_after (old r.link) r.cookie ≡ Done piece.bytes = ap (λ (h : History Ticket). outcome_after h r.cookie) (sym side.1) ∙ sym o.outcome ∙ ap (λ (y : Said). y.outcome) first.1.1 in
        let d = done_on (old r.link) r.link all (b_says r.link) r.cookie o.asks piece.bytes is came in
        let here = of_source r.link r.cookie (bare o.asks) side.0 d.asked in
        record {
          link = r.link;
          cookie = r.cookie;
          read = read.command;
          bytes = piece.bytes;
          asked = ap (λ (z : Bool). only_if z (asked_on (on_link r.link all) r.cookie)) here ∙ d.asked ∙ ap (λ (c : Command Nobody). Some c) (sym o.command ∙ ap (λ (y : Said). y.command) first.1.1);
          kind = read.kind;
          done = ap (λ (z : Bool). if z then answered (on_link r.link all) r.cookie else Unfinished) here ∙ d.came;
          some = some;
          inside = λ p h. has_read p ∙ inside p (ap (λ (c : Command Nobody). has c p) piece.is ∙ h);
          puts = puts;
          alike = alike;
          before = before_it;
          behind = behind_it;
        }

  -- Whatever was said for a slice.

  abbrev Fits : Command Nobody → Type 0
  Fits command = IsRunOfRead how (dealt_with from all) command ⊎ IsOfTold how (dealt_with from all) command

  -- what was told as zero is put as zeros
  put_zeros : (s : Slice) (read : List Said) (x : Said) (piece : IsPieceOf how s read x) → s.zero ≡ true → (p : ℕ) → has x.command p ≡ true → Puts x.command p 0
  put_zeros s read x piece zeroed p here =
      let known = subst (λ (z : Bool). KnownBy z s piece.bytes read) zeroed piece.known.by in
      let size = piece.known.size in
      let asks = ask_of how piece.at piece.piece in
      let m = piece.puts p (ap (λ (c : Command Nobody). has c p) (sym piece.is) ∙ here) in
      let low = m.0 in
      let high = m.1 in
      let byte : get_or piece.bytes (p - s.start) 0 ≡ 0 = ap (λ (l : List ℕ). get_or l (p - s.start) 0) known.0 ∙ get_or-replicate s.length (p - s.start) 0 0 (omega (arith, size, low, high)) in
      subst (λ (c : Command Nobody). Puts c p 0) (sym piece.is) (subst (λ (b : ℕ). Puts asks p b) byte m.2)

  of_slice : (n : ℕ) (x : Said) → IsPieceOf how (slice_at slices n) (own n source) x → IsInside slices n x.command → IsZeroed how (slice_at slices n) x.command → Fits x.command
  of_slice n x piece inside zeroes = go (slice_at slices n).zero refl
    where
      go : (z : Bool) → (slice_at slices n).zero ≡ z → Fits x.command
      go true zeroed = inr (record {
        each = λ p here.
            let is = told_slice cells told end p n slices rest (planned p) inside.begun zeroed (inside.inside p here) in
            record { told = was_told p (t.knows p (knows p is)); unread = was_unread p is };
        zeros = put_zeros (slice_at slices n) (own n source) x piece zeroed;
        kind = zeroes zeroed;
      })
      go false untold = inl (subst (IsRunOfRead how (dealt_with from all)) (sym piece.is) (is_run n x piece untold inside.inside))

  no_change : (kind : Kind) → kind ≡ Flush → changes kind ≡ true → ⊥
  no_change kind is e = false≢true (sym (ap changes is) ∙ e)

  by_ticket : (r : Request) → IsIn r destination → (by : Ticket) → r.ticket ≡ by → AsksOfDestination how slices by r.said.command → changes r.said.command.kind ≡ true → Fits r.said.command
  by_ticket r there (ticket.Slice n) is a e =
      let begun = a.1.begun in
      of_slice n r.said
      (piece_at how (slice_at slices n) (value_at n now.rows) (own n source) (own n destination) r.said ((b.course.stood.stands well).each n begun)
      (among_own n r destination there (ap (asked.is_of n) is ∙ eq-eqb n n refl)))
      a.1 a.3
  by_ticket r there ticket.Extents is a e = absurd a
  by_ticket r there ticket.Flush is a e = absurd (no_change r.said.command.kind a.0 e)

  write_runs : (link cookie : ℕ) (command : Command Nobody) → (dealt_with to all).asked link cookie ≡ Some command → changes command.kind ≡ true → Fits command
  write_runs link cookie command is e =
      let u = destination_listed from to size how sides slices now now' calls part before after ending b turns stands two link cookie command is in
      let asks = in_each (λ (x : Request). AsksOfDestination how slices x.ticket x.said.command) u.request destination u.within (b.course.stood.stands well).changes in
      subst Fits u.asks (by_ticket u.request u.within u.request.ticket refl asks (ap (λ (c : Command Nobody). changes c.kind) u.asks ∙ e))

pub parts_write_runs : PartsWriteRuns
parts_write_runs from to size how has slices rest now now' calls part before after ending cells told end wanted known b t well turns stands planned two knows link cookie command is e =
    write_runs from to size how has slices rest now now' calls part before after ending cells told end wanted known b t well turns stands planned two knows link cookie command is e
