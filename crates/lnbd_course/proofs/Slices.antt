-- By its calls the slices of a copy that were begun are finished, or one request of each waits.
use Rattle.std.proofs.Common.{◌≡◌, ◌≢◌, ℕ, ◌<◌, Bool, List, [], ◌∷◌, length, Option, Some, None, refl, sym, subst, ◌∙◌, arith}
use Rattle.lnbd_keyed.specs.Keyed.{IsBelow, value_at}
use Rattle.lnbd_model.specs.declared.target.Place.{Place}
use Rattle.lnbd_outcome.specs.Outcome.{Done, Outcome, Unfinished}
use Rattle.lnbd_link.specs.Call as wire
use Rattle.lnbd_asked.specs.Transcript.{Dealt, dealt_with}
use Rattle.lnbd_poll.specs.Seen.{Seen}
use Rattle.lnbd_plan.specs.declared.grid.Slice.{Slice}
use Rattle.lnbd_board.specs.declared.how.How.{How}
use Rattle.lnbd_board.specs.declared.row.Row.{Row}
use Rattle.lnbd_board.specs.declared.ticket.Ticket.{Ticket}
use Rattle.lnbd_board.specs.Files as board
use Rattle.lnbd_board.specs.Requests.{IsDealt, Request, own}
use Rattle.lnbd_board.specs.Rows.{Stands, StandsAs, StandsAt, busy, slice_at}
use Rattle.lnbd_tracks.specs.Laws.{IsDone, moves_bytes}
use Rattle.lnbd_tracks.specs.Tracks.{AllTrack, Histories}
use Rattle.lnbd_tracks.specs.Unanswered.{AreUnanswered, AreWaitingOn, IsUnanswered}
use Rattle.lnbd_course.specs.Asks.{AreDone}
use Rattle.lnbd_course.specs.Between.{Between}
use Rattle.lnbd_course.specs.Course.{beside, on_side}
use Rattle.lnbd_course.specs.Failed.{AllStand}
use Rattle.lnbd_course.specs.Slices.{AreBegun, EndedAreBegun, IsAwaited, QuietAreBegun}
use Rattle.lnbd_course.specs.UnderWay.{AllHeld, NoneWrites}
use Rattle.lnbd_course.proofs.Ending.{are_dealt, destination_dealt, done_out, gone_out, in_out, of_it, source_dealt}
use Rattle.lnbd_course.proofs.Once.{ended_are_done}
use Rattle.lnbd_course.proofs.Placed.{links_are_of_sides}
use Rattle.lnbd_course.proofs.SliceCounts.{AreFrom, IsBegun, are_begun, each_busy}
use Rattle.lnbd_course.proofs.SliceStates.{SaysDone, SaysWaiting, is_awaited, is_finished}
use Rattle.lnbd_course.proofs.UnderWay.{of_destination, of_source}

-- What was dealt says it of each request of a list that is done, and of each that waits.

says_done : (histories : Histories) (requests : List Request) (dealt : Dealt) → AllTrack histories requests → IsDealt (gone_out histories requests) dealt → SaysDone requests dealt
says_done histories requests dealt all d r there done = d.shown r (in_out histories r requests there (done_out histories requests r all there done))

module _ (place : Place) (calls : List wire.Call) (histories : Histories) (requests : List Request) (all : AllTrack histories requests) (are : AreWaitingOn place calls histories) where
  dealt : IsDealt (gone_out histories requests) (dealt_with place calls)
  dealt = are_dealt place calls histories requests all are.says are.asked

  says_waiting : SaysWaiting requests (dealt_with place calls)
  says_waiting r there waits = let o = of_it histories requests r all there in dealt.shown r (in_out histories r requests there (are.out r.link r.cookie o.asks o.is (sym o.outcome ∙ waits)))

-- The slices, by what was said.

any_from : (rows : List (ℕ × Row)) → AreFrom 0 rows
any_from [] = tt
any_from (x ∷ xs) = omega arith

module _ (how : How) (slices : List Slice) (rows : List (ℕ × Row)) (source destination : List Request) (stands : Stands how slices rows source destination) (reads_of changes_of : Dealt)
    (says : SaysDone source reads_of) (says' : SaysDone destination changes_of) where
  -- each slice that has a row is awaited
  abbrev RowsAreAwaited : Type 0
  RowsAreAwaited = (i : ℕ) (row : Row) → value_at i rows ≡ Some row → StandsAt how (slice_at slices i) row.stage (own i source) (own i destination) → IsAwaited how (slice_at slices i) reads_of changes_of

  one : RowsAreAwaited → (i : ℕ) → i < length slices → IsBegun how reads_of changes_of (slice_at slices i) (value_at i rows)
  one awaited i l = go (value_at i rows) refl (stands.each i l)
    where
      go : (row : Option Row) → value_at i rows ≡ row → StandsAs how (slice_at slices i) row (own i source) (own i destination) → IsBegun how reads_of changes_of (slice_at slices i) row
      go None is at = is_finished how i (slice_at slices i) source destination reads_of changes_of says says' at
      go (Some row) is at = awaited i row is at.1

  begun : RowsAreAwaited → AreBegun how reads_of changes_of slices (length rows)
  begun awaited =
      are_begun how reads_of changes_of 0 slices rows (any_from rows) stands.rising (subst (λ (n : ℕ). IsBelow rows n) (omega arith) stands.below)
      (λ i l. subst (λ (n : ℕ). IsBegun how reads_of changes_of (slice_at slices i) (value_at n rows)) (omega arith) (one awaited i l))

-- Where no handle has anything to write.

module _ (from to : Place) (size : Option ℕ) (how : How) (has : ℕ → Bool) (slices : List Slice) (now : board.Seen) (calls : List wire.Call) (seens : List (Seen Ticket)) (b : Between from to size how has slices now calls seens)
    (well : now.error ≡ None) (handles : AllStand seens) (none : NoneWrites seens) (all : AllHeld calls seens) (two : from ≢ to) (busy_all : busy now.rows ≡ length now.rows) where
  abbrev source : List Request
  source = b.course.stood.source

  abbrev destination : List Request
  destination = b.course.stood.destination

  sources : AreWaitingOn from calls (on_side has b.course.histories)
  sources = of_source from to size how has slices now calls seens b handles none all two

  destinations : AreWaitingOn to calls (on_side (beside has) b.course.histories)
  destinations = of_destination from to size how has slices now calls seens b handles none all two

  are_quiet : AreBegun how (dealt_with from calls) (dealt_with to calls) slices (length now.rows)
  are_quiet =
      begun how slices now.rows source destination (b.course.stood.stands well) (dealt_with from calls) (dealt_with to calls)
      (says_done (on_side has b.course.histories) source (dealt_with from calls) b.course.stood.reads (dealt from calls (on_side has b.course.histories) source b.course.stood.reads sources))
      (says_done (on_side (beside has) b.course.histories) destination (dealt_with to calls) b.course.stood.changes (dealt to calls (on_side (beside has) b.course.histories) destination b.course.stood.changes destinations))
      (λ i row is at. is_awaited how i (slice_at slices i) source destination (dealt_with from calls) (dealt_with to calls)
      (says_done (on_side has b.course.histories) source (dealt_with from calls) b.course.stood.reads (dealt from calls (on_side has b.course.histories) source b.course.stood.reads sources))
      (says_waiting from calls (on_side has b.course.histories) source b.course.stood.reads sources)
      (says_waiting to calls (on_side (beside has) b.course.histories) destination b.course.stood.changes destinations)
      row.stage (each_busy i row now.rows busy_all is) at)

pub quiet_are_begun : QuietAreBegun
quiet_are_begun from to size how has slices now calls seens b well handles none all two busy_all = are_quiet from to size how has slices now calls seens b well handles none all two busy_all

-- Where no handle is held.

no_row : (row : Row) → None ≡ Some row → ⊥
no_row row e = cc

no_wait : (outcome : Outcome) (bytes : List ℕ) → outcome ≡ Unfinished → outcome ≡ Done bytes → ⊥
no_wait outcome bytes waits done = let e : Unfinished ≡ Done bytes = sym waits ∙ done in absurd (cc e)

-- none is unanswered where each is done
none_waits : (dealt : Dealt) → AreDone dealt → AreUnanswered moves_bytes dealt 0
none_waits dealt done = record {
  list = [];
  many = refl;
  once = tt;
  all = λ link cookie. ((λ none. absurd none), waits_not link cookie);
}
  where
    waits_not : (link cookie : ℕ) → IsUnanswered moves_bytes dealt link cookie → ⊥
    waits_not link cookie u = let d : IsDone (dealt.outcome link cookie) = done link cookie u.command u.asked u.kind in no_wait (dealt.outcome link cookie) d.bytes u.waits d.is

pub ended_are_begun : EndedAreBegun
ended_are_begun from to size how has slices now calls b over well two =
    let law = links_are_of_sides from to size how has slices now calls b two in
    let stood = b.course.stood in
    let stands = subst (λ (rows : List (ℕ × Row)). Stands how slices rows stood.source stood.destination) over (stood.stands well) in
    let done = ended_are_done from to size how has slices now calls b over well two in (
      begun how slices [] stood.source stood.destination stands (dealt_with from calls) (dealt_with to calls)
          (says_done (on_side has b.course.histories) stood.source (dealt_with from calls) stood.reads (source_dealt from to how has slices now calls b.course law.0))
          (says_done (on_side (beside has) b.course.histories) stood.destination (dealt_with to calls) stood.changes (destination_dealt from to how has slices now calls b.course law.0))
          (λ i row is at. absurd (no_row row is)),
      record {
        source = 0;
        destination = 0;
        reads = none_waits (dealt_with from calls) done.source;
        changes = none_waits (dealt_with to calls) done.destination;
        all = refl;
      },
    )
