-- What a copy to a file, or from one, leaves.
use Rattle.std.proofs.Common.{◌≡◌, ℕ, Bool, true, false, List, [], ◌∷◌, cond, length, Option, Some, None, refl, ap, subst, ◌∙◌, nat_le}
use Rattle.lnbd_model.specs.declared.target.Place.{Place}
use Rattle.lnbd_link.specs.Call as wire
use Rattle.lnbd_history.specs.Commands as commands
use Rattle.lnbd_history.specs.History.{request}
use Rattle.lnbd_history.specs.Commands.{Command}
use Rattle.lnbd_asked.specs.Driven.{outcome_after, written}
use Rattle.lnbd_asked.specs.Link.{Nobody}
use Rattle.lnbd_asked.specs.Transcript.{bare, is_of, dealt_with}
use Rattle.lnbd_plan.specs.declared.grid.Slice.{Slice}
use Rattle.lnbd_plan.specs.Laws.{told_by}
use Rattle.lnbd_board.specs.declared.how.How.{How}
use Rattle.lnbd_board.specs.declared.row.Row.{Row}
use Rattle.lnbd_board.specs.declared.ticket.Ticket.{Ticket}
use Rattle.lnbd_board.specs.Files as board
use Rattle.lnbd_board.specs.Pieces.{IsDense}
use Rattle.lnbd_board.specs.Requests.{Each, IsDealt, Request, reads}
use Rattle.lnbd_board.specs.Requests as sides
use Rattle.lnbd_board.proofs.Lists.{Each-back, in_each, none_reads}
use Rattle.lnbd_board.specs.Rows.{AsksOfDestination, AsksOfSource, Stands}
use Rattle.lnbd_onesided.specs.Dealt.{dealt_by}
use Rattle.lnbd_onesided.proofs.DealtLemmas.{apart_are_dealt}
use Rattle.lnbd_onesided.proofs.FileLemmas.{from_file_holds, to_file_holds}
use Rattle.lnbd_tracks.specs.Tracks.{request_of}
use Rattle.lnbd_tracks.proofs.Finished.{finished_are_done}
use Rattle.lnbd_tracks.proofs.Under.{found}
use Rattle.lnbd_course.specs.Counted.{up_to_end}
use Rattle.lnbd_course.specs.Far.{Far, FarStood, FromFile, ToFile, AreNumbered, destination_of, source_of}
use Rattle.lnbd_course.specs.FarCourse.{FarCourse, IsSettled, every}
use Rattle.lnbd_course.specs.FarEnds.{EndedAreAllDoneFar, EndedAreDenseFar, EndedAsksOnceFar, EndedFlushedFar, EndedFlushesOnceFar, EndedSparesFar, EndedSumsFar, EndedUnflushedFar}
use Rattle.lnbd_course.specs.FarLaws.{SizeWasToldFar, KnownWasToldFar, ToFileEnds, FromFileEnds}
use Rattle.lnbd_course.specs.Told.{Known, Knows}
use Rattle.lnbd_course.proofs.AllDone.{looks_done, stores_done}
use Rattle.lnbd_course.proofs.Ending.{are_dealt, destination_out_stands, gone_out, planned_once, source_out_stands}
use Rattle.lnbd_course.proofs.FarStanding.{numbered_apart}
use Rattle.lnbd_course.proofs.Flushing.{flushes_once, none_flushes, was_flushed}
use Rattle.lnbd_course.proofs.Dense.{dense_of}
use Rattle.lnbd_course.proofs.Once.{asked_once, dealt_done, each_asked, listed, placed_links}
use Rattle.lnbd_course.proofs.Sparing.{told_known, unread}
use Rattle.lnbd_course.proofs.Placed.{side_asked, size_of}
use Rattle.lnbd_course.proofs.Summing.{out_once, out_read, out_written, out_zeroed, sums_of}
use Rattle.lnbd_course.proofs.Telling.{are_of_source, was_told}

module _ (far : Far) (at : Place) (size : Option ℕ) (how : How) (slices : List Slice) (now : board.Seen) (calls : List wire.Call) (wanted : Option (ℕ × ℕ)) (known : Known)
    (b : FarCourse far at size how slices now calls [] wanted known) where
  -- a link on which a command was wholly written is one of the export
  asked_of_it : (link cookie : ℕ) (asks : commands.Request Ticket) → request (b.course.histories link) cookie ≡ Some asks → nat_le cookie (written (b.course.histories link)) ≡ true →
      is_of at calls link ≡ true
  asked_of_it = side_asked (Knows (FarStood far how slices) every wanted known) (IsSettled size) at at every now calls b

  -- what went out on the links is what was dealt with it
  was_dealt : IsDealt (gone_out b.course.histories b.course.stood.stood.asked) (dealt_with at calls)
  was_dealt = are_dealt at calls b.course.histories b.course.stood.stood.asked b.course.stood.stood.tracked (λ link here. b.course.parted link tt) asked_of_it

  stands_over : now.rows ≡ [] → now.error ≡ None → Stands how slices [] (source_of far b.course.stood.stood.asked) (destination_of far b.course.stood.stood.asked)
  stands_over over well = subst (λ (rows : List (ℕ × Row)). Stands how slices rows (source_of far b.course.stood.stood.asked) (destination_of far b.course.stood.stood.asked)) over
      (b.course.stood.stood.stands well)

pub size_was_told_far : SizeWasToldFar
size_was_told_far far at size how slices now calls wanted known b = size_of (Knows (FarStood far how slices) every wanted known) (IsSettled (Some size)) at at every now calls b true size b.told

pub known_was_told_far : KnownWasToldFar
known_was_told_far far at size how slices now calls wanted known b p zero =
    was_told at every calls b.course.histories (λ link. b.course.parted link tt)
    (are_of_source at calls every b.course.histories (λ link. b.course.parted link tt) (λ link cookie q is there out. asked_of_it far at size how slices now calls wanted known b link cookie q there
    out)) p (b.course.stood.knows p zero)

pub to_file_ends : ToFileEnds
to_file_ends done from size how slices now calls wanted known cells windows file b over well planned made source honest =
    let s = b.course.stood.stood in
    to_file_holds how cells (told_by 0 windows) size slices (gone_out b.course.histories s.asked) done (dealt_with from calls) file
    (record {
      planned = planned_once cells windows size slices planned.are planned.whole;
      left_out = planned.left_out;
      over = source_out_stands how slices b.course.histories s.asked done (stands_over (ToFile done) from (Some size) how slices now calls wanted known b over well) s.tracked;
    })
    (was_dealt (ToFile done) from (Some size) how slices now calls wanted known b) (numbered_apart 0 done s.numbered) made source honest
    (size_was_told_far (ToFile done) from size how slices now calls wanted known b) planned.told

pub from_file_ends : FromFileEnds
from_file_ends done to room how slices now calls wanted known cells windows file b over well planned each fits before end honest bare =
    let s = b.course.stood.stood in
    from_file_holds how cells (told_by 0 windows) (length file) room slices done (gone_out b.course.histories s.asked) (dealt_with to calls) file
    (record {
      planned = planned_once cells windows (length file) slices planned.are planned.whole;
      left_out = planned.left_out;
      over = destination_out_stands how slices b.course.histories done s.asked (stands_over (FromFile done) to (Some room) how slices now calls wanted known b over well) s.tracked;
    })
    (was_dealt (FromFile done) to (Some room) how slices now calls wanted known b) (numbered_apart 0 done s.numbered) each refl planned.untold before end honest
    (size_was_told_far (FromFile done) to room how slices now calls wanted known b) fits bare

-- What was asked, and that it is done.

-- what was asked of a file of any size was dealt with it
file_dealt : (size : ℕ) (done : List Request) → AreNumbered 0 done → IsDealt done (dealt_by size done)
file_dealt size done numbered = apart_are_dealt size done (numbered_apart 0 done numbered)

pub ended_asks_once_far : EndedAsksOnceFar
ended_asks_once_far (FromFile done) at settled size how slices rest now calls wanted known cells told end b well planned fits =
    let s = b.course.stood.stood in
    record {
      links = placed_links (Knows (FarStood (FromFile done) how slices) every wanted known) (IsSettled settled) at at every now calls b;
      asked = asked_once how cells told end size slices rest now.rows done s.asked (dealt_by size done) (dealt_with at calls) (s.stands well) planned fits (file_dealt size done s.numbered).only
          (listed b.course.histories s.asked (dealt_with at calls) (was_dealt (FromFile done) at settled how slices now calls wanted known b));
    }
ended_asks_once_far (ToFile done) at settled size how slices rest now calls wanted known cells told end b well planned fits =
    let s = b.course.stood.stood in
    record {
      links = placed_links (Knows (FarStood (ToFile done) how slices) every wanted known) (IsSettled settled) at at every now calls b;
      asked = asked_once how cells told end size slices rest now.rows s.asked done (dealt_with at calls) (dealt_by size done) (s.stands well) planned fits
          (listed b.course.histories s.asked (dealt_with at calls) (was_dealt (ToFile done) at settled how slices now calls wanted known b)) (file_dealt size done s.numbered).only;
    }

pub ended_sums_far : EndedSumsFar
ended_sums_far (FromFile done) at settled size how slices rest now calls wanted known cells told end b over well planned fits room =
    let s = b.course.stood.stood in
    let stands = stands_over (FromFile done) at settled how slices now calls wanted known b over well in
    let over = (finished_are_done how slices done s.asked stands).1 in
    let sums = sums_of how slices rest done (gone_out b.course.histories s.asked) now cells told end size
    (destination_out_stands how slices b.course.histories done s.asked stands s.tracked) planned fits room
    s.counted.read (s.counted.written ∙ ap up_to_end (out_written b.course.histories s.asked s.tracked over))
    (s.counted.zeroed ∙ ap up_to_end (out_zeroed b.course.histories s.asked s.tracked over)) in
    record {
      asked = gone_out b.course.histories s.asked;
      all = record { are = was_dealt (FromFile done) at settled how slices now calls wanted known b; once = out_once b.course.histories s.asked s.tracked };
      read = sums.read;
      written = sums.written;
      zeroed = sums.zeroed;
      skipped = sums.skipped;
    }
ended_sums_far (ToFile done) at settled size how slices rest now calls wanted known cells told end b over well planned fits room =
    let s = b.course.stood.stood in
    let stands = stands_over (ToFile done) at settled how slices now calls wanted known b over well in
    let sums = sums_of how slices rest (gone_out b.course.histories s.asked) done now cells told end size
    (source_out_stands how slices b.course.histories s.asked done stands s.tracked) planned fits room
    (s.counted.read ∙ ap up_to_end (out_read b.course.histories s.asked s.tracked (finished_are_done how slices s.asked done stands).0)) s.counted.written s.counted.zeroed in
    record {
      asked = gone_out b.course.histories s.asked;
      all = record { are = was_dealt (ToFile done) at settled how slices now calls wanted known b; once = out_once b.course.histories s.asked s.tracked };
      read = sums.read;
      written = sums.written;
      zeroed = sums.zeroed;
      skipped = sums.skipped;
    }

pub ended_flushes_once_far : EndedFlushesOnceFar
ended_flushes_once_far done at settled how slices now calls wanted known b =
    flushes_once b.course.histories b.course.stood.stood.asked (dealt_with at calls) (was_dealt (FromFile done) at settled how slices now calls wanted known b) now.flushing
    b.course.stood.stood.counted.flushes

pub ended_unflushed_far : EndedUnflushedFar
ended_unflushed_far done at settled how slices now calls wanted known b none =
    none_flushes b.course.histories b.course.stood.stood.asked (dealt_with at calls) (was_dealt (FromFile done) at settled how slices now calls wanted known b)
    (b.course.stood.stood.counted.flushes ∙ ap (λ (f : Bool). cond f 1 0) none)

pub ended_flushed_far : EndedFlushedFar
ended_flushed_far done at settled how slices now calls wanted known b well told =
    was_flushed b.course.histories b.course.stood.stood.asked (dealt_with at calls) (was_dealt (FromFile done) at settled how slices now calls wanted known b) b.course.stood.stood.tracked
    (b.course.stood.stood.flushed well told)

pub ended_are_all_done_far : EndedAreAllDoneFar
ended_are_all_done_far (FromFile done) at settled how slices now calls known b over well flushed =
    let s = b.course.stood.stood in
    let went = was_dealt (FromFile done) at settled how slices now calls None known b in
    let stands = stands_over (FromFile done) at settled how slices now calls None known b over well in
    stores_done how slices b.course.histories s.asked (dealt_with at calls) went stands.changes (dealt_done b.course.histories s.asked (dealt_with at calls) went
    (finished_are_done how slices done s.asked stands).1) now.flushing
    (ended_flushes_once_far done at settled how slices now calls None known b) (ended_unflushed_far done at settled how slices now calls None known b)
    (λ e. ended_flushed_far done at settled how slices now calls None known b well (flushed e))
ended_are_all_done_far (ToFile done) at settled how slices now calls known b over well flushed =
    let s = b.course.stood.stood in
    let went = was_dealt (ToFile done) at settled how slices now calls None known b in
    let stands = stands_over (ToFile done) at settled how slices now calls None known b over well in
    looks_done slices b.course.histories s.asked (dealt_with at calls) s.tracked went stands.reads (dealt_done b.course.histories s.asked (dealt_with at calls) went
    (finished_are_done how slices s.asked done stands).0) b.course.stood.maps

-- What is spared.

pub ended_spares_far : EndedSparesFar
ended_spares_far done at settled how slices rest now calls known cells told end block b well planned zeros p w =
    let s = b.course.stood.stood in
    let stands = s.stands well in
    let none = unread how cells told end p slices rest now.rows s.asked done stands (planned p)
    (zeros p (told_known at calls b.course.histories slices known b.course.stood.heeds (λ link. b.course.parted link tt) (λ link cookie asks here is. asks_so link cookie asks is) block p w)) in
    each_asked (λ (c : Command Nobody). reads c p ≡ false) s.asked (dealt_with at calls) (listed b.course.histories s.asked (dealt_with at calls)
    (was_dealt (ToFile done) at settled how slices now calls None known b))
    (λ r there. none_reads p r s.asked none there)
  where
    asks_so : (link cookie : ℕ) (asks : commands.Request Ticket) → request (b.course.histories link) cookie ≡ Some asks → AsksOfSource slices asks.flight.done.callback (bare asks)
    asks_so link cookie asks is =
        let r : Request = sides.request link cookie asks.flight.done.callback (record { command = bare asks; outcome = outcome_after (b.course.histories link) cookie }) in
        let there = found link cookie r b.course.stood.stood.asked
        ((b.course.stood.stood.tracked link).each cookie ∙ ap (λ (o : Option (commands.Request Ticket)). request_of link cookie o (outcome_after (b.course.histories link) cookie)) is) in
        (Each-back (λ (x : Request). AsksOfSource slices x.ticket x.said.command) there.front (r ∷ there.back)
        (subst (λ (l : List Request). Each (λ (x : Request). AsksOfSource slices x.ticket x.said.command) l) there.is (b.course.stood.stood.stands well).reads)).0

pub ended_are_dense_far : EndedAreDenseFar
ended_are_dense_far done at settled how slices now calls wanted known b well =
    let s = b.course.stood.stood in
    each_asked (IsDense how) s.asked (dealt_with at calls) (listed b.course.histories s.asked (dealt_with at calls) (was_dealt (FromFile done) at settled how slices now calls wanted known b))
    (λ r there. dense_of how slices r.ticket r.said.command (in_each (λ (x : Request). AsksOfDestination how slices x.ticket x.said.command) r s.asked there (s.stands well).changes))
