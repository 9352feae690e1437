-- What a copy to a file, or from one, asked in the end, and that it is done.
use Rattle.std.specs.Prelude.{◌≡◌, ◌≤◌, ◌++◌, ℕ, Bool, true, false, List, [], Option, None}
use Rattle.lnbd_model.specs.Kind.{is_read, is_write}
use Rattle.lnbd_model.specs.declared.target.Place.{Place}
use Rattle.lnbd_link.specs.Call.{Call}
use Rattle.lnbd_asked.specs.Transcript.{Dealt, dealt_with}
use Rattle.lnbd_plan.specs.declared.cells.Cells.{Cells}
use Rattle.lnbd_plan.specs.declared.grid.Slice.{Slice}
use Rattle.lnbd_plan.specs.declared.summary.Summary.{Summary}
use Rattle.lnbd_plan.specs.Laws.{IsPlannedOnce}
use Rattle.lnbd_board.specs.declared.how.How.{How}
use Rattle.lnbd_board.specs.Files as board
use Rattle.lnbd_board.specs.Requests.{Request}
use Rattle.lnbd_onesided.specs.Dealt.{dealt_by}
use Rattle.lnbd_course.specs.AllDone.{AreAllDone}
use Rattle.lnbd_course.specs.Asks.{AreAskedOnce, AreOwnLinks}
use Rattle.lnbd_course.specs.Counted.{bytes_of, is_zero}
use Rattle.lnbd_course.specs.Counts.{AreAll, summary_of, uncovered}
use Rattle.lnbd_course.specs.Far.{Far, FromFile, ToFile, destination_of, source_of}
use Rattle.lnbd_course.specs.FarCourse.{FarCourse}
use Rattle.lnbd_course.specs.Flushes.{IsFlushed, IsUnflushed, OneFlushes}
use Rattle.lnbd_course.specs.Spares.{ReadsNoZeros, WritesNoZeros}
use Rattle.lnbd_course.specs.Told.{Known}

-- what was dealt with both sides: by these calls with the export, and with a file of this size what was asked of it
abbrev pub dealt_source : Far → (at : Place) → (size : ℕ) → List Call → Dealt
dealt_source (FromFile done) at size calls = dealt_by size done
dealt_source (ToFile done) at size calls = dealt_with at calls

abbrev pub dealt_destination : Far → (at : Place) → (size : ℕ) → List Call → Dealt
dealt_destination (FromFile done) at size calls = dealt_with at calls
dealt_destination (ToFile done) at size calls = dealt_by size done

-- What was asked of both sides was asked once, and nothing past this size; and the links of the calls are the export's.
pub record HasAskedOnceFar (allocated skip : Bool) (size : ℕ) (far : Far) (at : Place) (calls : List Call) : Type 0 where
  pub links : AreOwnLinks at at calls
  pub asked : AreAskedOnce allocated skip size (dealt_source far at size calls) (dealt_destination far at size calls)

-- A summary of these calls, and of what was asked of the file, has the bytes that the source was asked to read, and those that the destination was asked to write and to zero; and,
-- of so many positions, how many no request covers on the destination.
pub record SummarizesFar (far : Far) (at : Place) (size : ℕ) (summary : Summary) (calls : List Call) : Type 0 where
  pub asked : List Request
  pub all : AreAll asked (dealt_with at calls)
  pub read : summary.read ≡ bytes_of is_read (source_of far asked)
  pub written : summary.written ≡ bytes_of is_write (destination_of far asked)
  pub zeroed : summary.zeroed ≡ bytes_of is_zero (destination_of far asked)
  pub skipped : summary.skipped ≡ uncovered (destination_of far asked) size

-- Laws. No handle is held.

-- Where no error was told, and the slices that were begun, with those still to come, plan no position twice, what was asked was asked once.
abbrev pub EndedAsksOnceFar : Type 0
EndedAsksOnceFar = (far : Far) (at : Place) (settled : Option ℕ) (size : ℕ) (how : How) (slices rest : List Slice) (now : board.Seen) (calls : List Call) (wanted : Option (ℕ × ℕ)) (known : Known)
    (cells : Cells) (told : ℕ → Bool) (end : ℕ) →
    FarCourse far at settled how slices now calls [] wanted known → now.error ≡ None → ((p : ℕ) → IsPlannedOnce cells told 0 end p (slices ++ rest)) → end ≤ size →
    HasAskedOnceFar how.allocated how.skip size far at calls

-- Where besides nothing is begun and not over, what the board counted is a summary.
abbrev pub EndedSumsFar : Type 0
EndedSumsFar = (far : Far) (at : Place) (settled : Option ℕ) (size : ℕ) (how : How) (slices rest : List Slice) (now : board.Seen) (calls : List Call) (wanted : Option (ℕ × ℕ)) (known : Known)
    (cells : Cells) (told : ℕ → Bool) (end : ℕ) →
    FarCourse far at settled how slices now calls [] wanted known → now.rows ≡ [] → now.error ≡ None → ((p : ℕ) → IsPlannedOnce cells told 0 end p (slices ++ rest)) → end ≤ size →
    size ≤ 18446744073709551615 →
    SummarizesFar far at size (summary_of size now) calls

-- The calls of a copy from a file flush the export once at most,
abbrev pub EndedFlushesOnceFar : Type 0
EndedFlushesOnceFar = (done : List Request) (at : Place) (settled : Option ℕ) (how : How) (slices : List Slice) (now : board.Seen) (calls : List Call) (wanted : Option (ℕ × ℕ)) (known : Known) →
    FarCourse (FromFile done) at settled how slices now calls [] wanted known → OneFlushes (dealt_with at calls)

-- not at all where the board asked for no flush,
abbrev pub EndedUnflushedFar : Type 0
EndedUnflushedFar = (done : List Request) (at : Place) (settled : Option ℕ) (how : How) (slices : List Slice) (now : board.Seen) (calls : List Call) (wanted : Option (ℕ × ℕ)) (known : Known) →
    FarCourse (FromFile done) at settled how slices now calls [] wanted known → now.flushing ≡ false → IsUnflushed at calls

-- and it was flushed where the board was told that its flush was answered, and no error.
abbrev pub EndedFlushedFar : Type 0
EndedFlushedFar = (done : List Request) (at : Place) (settled : Option ℕ) (how : How) (slices : List Slice) (now : board.Seen) (calls : List Call) (wanted : Option (ℕ × ℕ)) (known : Known) →
    FarCourse (FromFile done) at settled how slices now calls [] wanted known → now.error ≡ None → now.flushed ≡ true → IsFlushed at calls

-- Where nothing is begun and not over, no extents are waited for, no error was told, and a flush that was asked for was answered, all that was asked of the export is done.
abbrev pub EndedAreAllDoneFar : Type 0
EndedAreAllDoneFar = (far : Far) (at : Place) (settled : Option ℕ) (how : How) (slices : List Slice) (now : board.Seen) (calls : List Call) (known : Known) →
    FarCourse far at settled how slices now calls [] None known → now.rows ≡ [] → now.error ≡ None → (now.flushing ≡ true → now.flushed ≡ true) → AreAllDone (dealt_with at calls)

-- To a file, where each block of this size that is known was planned as zero, no position was planned twice and no extents are waited for, no READ covers a block that one answer told as
-- zero whole.
abbrev pub EndedSparesFar : Type 0
EndedSparesFar = (done : List Request) (at : Place) (settled : Option ℕ) (how : How) (slices rest : List Slice) (now : board.Seen) (calls : List Call) (known : Known) (cells : Cells)
    (told : ℕ → Bool) (end block : ℕ) →
    FarCourse (ToFile done) at settled how slices now calls [] None known → now.error ≡ None → ((p : ℕ) → IsPlannedOnce cells told 0 end p (slices ++ rest)) →
    ((p : ℕ) → known.whole block p ≡ true → told p ≡ true) → ReadsNoZeros block (dealt_with at calls)

-- From a file, where zeros are looked for, no WRITE contains a whole block that is all zeros.
abbrev pub EndedAreDenseFar : Type 0
EndedAreDenseFar = (done : List Request) (at : Place) (settled : Option ℕ) (how : How) (slices : List Slice) (now : board.Seen) (calls : List Call) (wanted : Option (ℕ × ℕ)) (known : Known) →
    FarCourse (FromFile done) at settled how slices now calls [] wanted known → now.error ≡ None → WritesNoZeros how (dealt_with at calls)
