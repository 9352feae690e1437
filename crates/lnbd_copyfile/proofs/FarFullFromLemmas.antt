-- What is under way by the board of a copy from a file to an export is unanswered by its calls, where no handle has anything to write.
use Rattle.std.proofs.Common.{◌≡◌, inl, inr, ℕ, ◌<◌, Bool, true, List, [], ◌∷◌, length, Option, Some, None, refl, ap, sym, subst, ◌∙◌, arith, nat_le, if◌then◌else◌}
use Rattle.lnbd_keyed.specs.Keyed.{IsBelow, value_at}
use Rattle.lnbd_model.specs.declared.target.Place.{Place}
use Rattle.lnbd_outcome.specs.Outcome.{Unfinished}
use Rattle.lnbd_link.specs.Call as wire
use Rattle.lnbd_history.specs.Commands.{Command, Request}
use Rattle.lnbd_history.specs.History.{request}
use Rattle.lnbd_asked.specs.Driven.{DrivenSays, outcome_after, written}
use Rattle.lnbd_asked.specs.Link.{Nobody}
use Rattle.lnbd_asked.specs.Transcript.{Dealt, answered, asked_on, bare, dealt_with, is_of, on_link}
use Rattle.lnbd_poll.specs.Seen.{Seen}
use Rattle.lnbd_plan.specs.declared.grid.Slice.{Slice}
use Rattle.lnbd_board.specs.declared.how.How.{How}
use Rattle.lnbd_board.specs.declared.row.Row.{Row}
use Rattle.lnbd_board.specs.declared.ticket.Ticket.{Ticket}
use Rattle.lnbd_board.specs.Files as board
use Rattle.lnbd_board.specs.Requests.{IsDealt, IsIn, own}
use Rattle.lnbd_board.specs.Requests as sides
use Rattle.lnbd_board.specs.Rows.{Stands, StandsAs, StandsAt, busy, slice_at}
use Rattle.lnbd_board.proofs.Lists.{Each-back}
use Rattle.lnbd_board.specs.Requests.{Each}
use Rattle.lnbd_onesided.specs.Dealt.{dealt_by}
use Rattle.lnbd_tracks.specs.Laws.{IsDone, moves_bytes}
use Rattle.lnbd_tracks.specs.Tracks.{Histories, request_of}
use Rattle.lnbd_tracks.specs.Unanswered.{AreUnanswered, IsUnanswered}
use Rattle.lnbd_tracks.proofs.Finished.{finished_are_done}
use Rattle.lnbd_tracks.proofs.Under.{found}
use Rattle.lnbd_course.specs.Failed.{AllStand}
use Rattle.lnbd_course.specs.Far.{AreNumbered, FarStood, FromFile}
use Rattle.lnbd_course.specs.FarCourse.{FarCourse, IsSettled, every}
use Rattle.lnbd_course.specs.Slices.{AreBegun, IsAwaited}
use Rattle.lnbd_course.specs.Told.{Known, Knows}
use Rattle.lnbd_course.specs.UnderWay.{AllHeld, NoneWrites}
use Rattle.lnbd_course.proofs.Ending.{are_dealt, done_out, gone_out, in_out, of_it}
use Rattle.lnbd_course.proofs.Failing.{course_says, written_here}
use Rattle.lnbd_course.proofs.Listing.{IsAsked, asked_by}
use Rattle.lnbd_course.proofs.SliceCounts.{IsBegun, are_begun, each_busy}
use Rattle.lnbd_course.proofs.SliceStates.{SaysDone, SaysWaiting, is_awaited, is_finished}
use Rattle.lnbd_course.proofs.UnderWay.{waiting_out}
use Rattle.lnbd_copyfile.specs.FromFileFull.{AreSent}
use Rattle.lnbd_copyfile.proofs.FarFullLemmas.{any_from, none_waits, only_if_some, says_file, unfinished_done, waits_file}

-- No read of the file waits, so each slice that is begun is finished, or a change of it is unanswered.
sent : (size : ℕ) (read : List sides.Request) → AreNumbered 0 read → (how : How) (destination : Dealt) (slices : List Slice) (n : ℕ) → AreBegun how (dealt_by size read) destination slices n →
    AreSent how (dealt_by size read) destination slices n
sent size read numbered how destination [] n begun = begun
sent size read numbered how destination (slice ∷ slices) n (inl one) = inl (one.0, sent size read numbered how destination slices n one.1)
sent size read numbered how destination (slice ∷ slices) n (inr one) = elim one.0 [
  | inl reads ↦ absurd (none_waits size read numbered reads.read.link reads.read.cookie reads.read.command reads.read.asked reads.read.came)
  | inr changes ↦ inr (changes, (one.1.0, (one.1.1.0, sent size read numbered how destination slices one.1.0 one.1.1.1)))
]

module _ (n : ℕ) (read : List sides.Request) (at : Place) (size : Option ℕ) (how : How) (slices : List Slice) (now : board.Seen) (calls : List wire.Call) (seens : List (Seen Ticket))
    (wanted : Option (ℕ × ℕ)) (known : Known) (b : FarCourse (FromFile read) at size how slices now calls seens wanted known) (well : now.error ≡ None) (stands : AllStand seens) where
  abbrev F : board.Seen → Histories → Type 0
  F = Knows (FarStood (FromFile read) how slices) every wanted known

  abbrev histories : Histories
  histories = b.course.histories

  abbrev s : FarStood (FromFile read) how slices now b.course.histories
  s = b.course.stood.stood

  says : (link : ℕ) → DrivenSays (b.course.histories link) (on_link link calls)
  says = course_says F now calls seens b.course stands

  here : (link cookie : ℕ) (asks : Request Ticket) → request (histories link) cookie ≡ Some asks → nat_le cookie (written (histories link)) ≡ true → is_of at calls link ≡ true
  here = written_here F (IsSettled size) at at every now calls seens b stands

  -- What was dealt was asked by a handle.
  asked_here : (link cookie : ℕ) (command : Command Nobody) → (dealt_with at calls).asked link cookie ≡ Some command → (is_of at calls link ≡ true) × IsAsked (histories link) cookie command
  asked_here link cookie command asked =
      let both = only_if_some (is_of at calls link) (asked_on (on_link link calls) cookie) command asked in
      (both.0, asked_by (histories link) (on_link link calls) cookie command (says link) both.1)

  came_so : (link cookie : ℕ) → is_of at calls link ≡ true → nat_le cookie (written (histories link)) ≡ true → (dealt_with at calls).outcome link cookie ≡ outcome_after (histories link) cookie
  came_so link cookie ours out = ap (λ (t : Bool). if t then answered (on_link link calls) cookie else Unfinished) ours ∙ (says link).outcomes cookie out

  pub all_done : AreNumbered 0 read
  all_done = s.numbered

  -- The slices that were begun.

  dealt_near : IsDealt (gone_out histories s.asked) (dealt_with at calls)
  dealt_near = are_dealt at calls histories s.asked s.tracked (λ link ours. says link) here

  says_done : SaysDone s.asked (dealt_with at calls)
  says_done r there done = dealt_near.shown r (in_out histories r s.asked there (done_out histories s.asked r s.tracked there done))

  -- each slice that has a row is awaited
  abbrev RowsAreAwaited : Type 0
  RowsAreAwaited = (i : ℕ) (row : Row) → value_at i now.rows ≡ Some row → StandsAt how (slice_at slices i) row.stage (own i read) (own i s.asked)
      → IsAwaited how (slice_at slices i) (dealt_by n read) (dealt_with at calls)

  abbrev rows_stand : Stands how slices now.rows read s.asked
  rows_stand = s.stands well

  one_begun : RowsAreAwaited → (i : ℕ) → i < length slices → IsBegun how (dealt_by n read) (dealt_with at calls) (slice_at slices i) (value_at i now.rows)
  one_begun awaited i l = go (value_at i now.rows) refl (rows_stand.each i l)
    where
      go : (row : Option Row) → value_at i now.rows ≡ row → StandsAs how (slice_at slices i) row (own i read) (own i s.asked) →
          IsBegun how (dealt_by n read) (dealt_with at calls) (slice_at slices i) row
      go None is over = is_finished how i (slice_at slices i) read s.asked (dealt_by n read) (dealt_with at calls) (says_file n read s.numbered) says_done over
      go (Some row) is on = awaited i row is on.1

  begun_so : RowsAreAwaited → AreSent how (dealt_by n read) (dealt_with at calls) slices (length now.rows)
  begun_so awaited =
      sent n read s.numbered how (dealt_with at calls) slices (length now.rows)
      (are_begun how (dealt_by n read) (dealt_with at calls) 0 slices now.rows (any_from now.rows) rows_stand.rising (subst (λ (m : ℕ). IsBelow now.rows m) (omega arith) rows_stand.below)
      (λ i l. subst (λ (m : ℕ). IsBegun how (dealt_by n read) (dealt_with at calls) (slice_at slices i) (value_at m now.rows)) (omega arith) (one_begun awaited i l)))

  no_row : (row : Row) → None ≡ Some row → ⊥
  no_row row e = cc

  -- Where none has a row.
  module _ (over : now.rows ≡ []) where
    pub ended_sent : AreSent how (dealt_by n read) (dealt_with at calls) slices 0
    ended_sent = subst (λ (rows : List (ℕ × Row)). AreSent how (dealt_by n read) (dealt_with at calls) slices (length rows)) over
        (begun_so (λ i row is on. absurd (no_row row (sym (ap (λ (rows : List (ℕ × Row)). value_at i rows) over) ∙ is))))

    -- A request of a link is in the list.
    abbrev mine_of : (link cookie : ℕ) → Request Ticket → sides.Request
    mine_of link cookie asks = sides.request link cookie asks.flight.done.callback (record { command = bare asks; outcome = outcome_after (histories link) cookie })

    moves_not : (link cookie : ℕ) → IsUnanswered moves_bytes (dealt_with at calls) link cookie → ⊥
    moves_not link cookie u =
        let a = asked_here link cookie u.command u.asked in
        let there = found link cookie (mine_of link cookie a.1.asks) s.asked
        ((s.tracked link).each cookie ∙ ap (λ (o : Option (Request Ticket)). request_of link cookie o (outcome_after (histories link) cookie)) a.1.is) in
        let each = (finished_are_done how slices read s.asked (subst (λ (rows : List (ℕ × Row)). Stands how slices rows read s.asked) over rows_stand)).1 in
        let done = (Each-back (λ (r : sides.Request). moves_bytes r.said.command.kind ≡ true → IsDone r.said.outcome) there.front (mine_of link cookie a.1.asks ∷ there.back)
        (subst (λ (l : List sides.Request). Each (λ r. moves_bytes r.said.command.kind ≡ true → IsDone r.said.outcome) l) there.is each)).0
        (ap (λ (c : Command Nobody). moves_bytes c.kind) a.1.same ∙ u.kind) in
        unfinished_done done.bytes (sym u.waits ∙ came_so link cookie a.0 a.1.out ∙ done.is)

    pub none_moves_from : AreUnanswered moves_bytes (dealt_with at calls) 0
    none_moves_from = record { list = []; many = refl; once = tt; all = λ link cookie. ((λ none. absurd none), moves_not link cookie) }

  -- Where each link that was given is a handle's, and none has anything to write.
  module _ (quiet : NoneWrites seens) (all : AllHeld calls seens) where
    out : (link cookie : ℕ) (asks : Request Ticket) → request (histories link) cookie ≡ Some asks → outcome_after (histories link) cookie ≡ Unfinished →
        nat_le cookie (written (histories link)) ≡ true
    out = waiting_out F (IsSettled size) at at every now calls seens b stands quiet all

    says_waiting : SaysWaiting s.asked (dealt_with at calls)
    says_waiting r there waits =
        let o = of_it histories s.asked r s.tracked there in
        dealt_near.shown r (in_out histories r s.asked there (out r.link r.cookie o.asks o.is (sym o.outcome ∙ waits)))

    pub quiet_sent : busy now.rows ≡ length now.rows → AreSent how (dealt_by n read) (dealt_with at calls) slices (length now.rows)
    quiet_sent busy_all = begun_so (λ i row is on.
        is_awaited how i (slice_at slices i) read s.asked (dealt_by n read) (dealt_with at calls) (says_file n read s.numbered) (waits_file n read s.numbered)
        says_waiting row.stage (each_busy i row now.rows busy_all is) on)
