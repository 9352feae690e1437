-- How many bytes a store took and gave in a copy of which one side is a file.
use Rattle.std.proofs.Common.{◌≡◌, ◌≤◌, ℕ, ◌+◌, Bool, List, [], ◌++◌, length, Option, Some, None, ap, sym, subst, arith, append-nil}
use Rattle.lnbd_model.specs.Kind.{is_read}
use Rattle.lnbd_model.specs.declared.target.Place.{Place}
use Rattle.lnbd_link.specs.Call as wire
use Rattle.lnbd_asked.specs.Honest.{changes}
use Rattle.lnbd_plan.specs.declared.cells.Cells.{Cells}
use Rattle.lnbd_plan.specs.declared.grid.Slice.{Slice}
use Rattle.lnbd_plan.specs.Laws.{IsPlannedOnce, Window, told_by, windows_end, windows_slices}
use Rattle.lnbd_board.specs.declared.how.How.{How}
use Rattle.lnbd_board.specs.Files as board
use Rattle.lnbd_board.specs.Requests.{Request, over, reads_over}
use Rattle.lnbd_board.proofs.Once.{once}
use Rattle.lnbd_course.specs.Far.{FromFile}
use Rattle.lnbd_course.specs.FarCourse.{FarCourse}
use Rattle.lnbd_course.specs.Told.{Known}
use Rattle.lnbd_course.proofs.Ending.{planned_once}
use Rattle.lnbd_course.proofs.Summing.{at_most, both_bytes, is_none, over_same, reads_same}
use Rattle.lnbd_course.proofs.Tallying.{bytes_fit, touching}
use Rattle.lnbd_touched.proofs.TouchLemmas.{touches_then}
use Rattle.lnbd_touched.specs.Parts.{IsShort}
use Rattle.lnbd_copyfile.specs.Holes.{IsReadWhole}
use Rattle.lnbd_copyfile.specs.Loading.{ToldMore}
use Rattle.lnbd_copyfile.specs.OneSide.{FromFileIsSummed, ToFileIsSummed, ToldFilesLast}

-- all is planned once, and nothing is left
pub planned_all : (cells : Cells) (windows : List Window) (size : ℕ) (slices : List Slice) → slices ≡ windows_slices cells 0 windows → windows_end 0 windows ≡ size
    → (p : ℕ) → IsPlannedOnce cells (told_by 0 windows) 0 size p (slices ++ [])
planned_all cells windows size slices are whole p =
    subst (λ (ss : List Slice). IsPlannedOnce cells (told_by 0 windows) 0 size p ss) (sym (append-nil slices)) (planned_once cells windows size slices are whole p)

pub to_file_is_summed : ToFileIsSummed
to_file_is_summed made from size how slices now calls wanted known cells windows taken taken2 course well planned room took =
    let stood = course.course.stood.stood in
    let stands = stood.stands well in
    let o = once how cells (told_by 0 windows) size slices [] now.rows stood.asked made stands (planned_all cells windows size slices planned.are planned.whole) in
    let fits = bytes_fit changes size made (λ p. at_most 1 (over p made) (touching changes p made) (over_same p made) (o.0.changes p))
    (λ p l. at_most 0 (over p made) (touching changes p made) (over_same p made) (is_none (over p made) (o.1.changes p l))) in
    let both = both_bytes how slices made stands.changes in
    let written = stood.counted.written in
    let zeroed = stood.counted.zeroed in
    record {
      few = omega (arith, fits, both, written, zeroed, room);
      took = λ low. let rose = took.on (omega (arith, fits, room, low)) in omega (arith, rose, fits, both, written, zeroed, room);
    }

pub from_file_is_summed : FromFileIsSummed
from_file_is_summed read to size room how slices now calls wanted known cells windows zero given given2 course well planned low_ gave =
    let stood = course.course.stood.stood in
    let o = once how cells (told_by 0 windows) size slices [] now.rows read stood.asked (stood.stands well) (planned_all cells windows size slices planned.are planned.whole) in
    let fits = bytes_fit is_read size read (λ p. at_most 1 (reads_over p read) (touching is_read p read) (reads_same p read) (o.0.reads p))
    (λ p l. at_most 0 (reads_over p read) (touching is_read p read) (reads_same p read) (is_none (reads_over p read) (o.1.reads p l))) in
    let counted = stood.counted.read in
    record {
      few = omega (arith, fits, counted, low_);
      gave = λ low. let rose = gave.on (omega (arith, fits, low_, low)) in omega (arith, rose, fits, counted, low_);
    }

-- no more is written and zeroed than the file has
pub from_file_fits : (read : List Request) (to : Place) (size room : ℕ) (how : How) (slices : List Slice) (now : board.Seen) (calls : List wire.Call) (wanted : Option (ℕ × ℕ)) (known : Known)
    (cells : Cells) (windows : List Window) (zero : ℕ → Bool) → FarCourse (FromFile read) to (Some room) how slices now calls [] wanted known → now.error ≡ None →
    IsReadWhole how cells windows zero size slices →
    now.written + now.zeroed ≤ size
from_file_fits read to size room how slices now calls wanted known cells windows zero course well planned =
    let stood = course.course.stood.stood in
    let stands = stood.stands well in
    let o = once how cells (told_by 0 windows) size slices [] now.rows read stood.asked stands (planned_all cells windows size slices planned.are planned.whole) in
    let fits = bytes_fit changes size stood.asked (λ p. at_most 1 (over p stood.asked) (touching changes p stood.asked) (over_same p stood.asked) (o.0.changes p))
    (λ p l. at_most 0 (over p stood.asked) (touching changes p stood.asked) (over_same p stood.asked) (is_none (over p stood.asked) (o.1.changes p l))) in
    let both = both_bytes how slices stood.asked stands.changes in
    let written = stood.counted.written in
    let zeroed = stood.counted.zeroed in
    omega (arith, fits, both, written, zeroed)

pub told_files_last : ToldFilesLast
told_files_last path n size read a b c d source touched short now e =
    let all = touches_then n (ToldMore [] read) (IsShort size) (λ x z. IsShort size x z) b c d
    (λ x y z told ends. record { short = let same = ap (λ (xs : List ℕ). length xs) told.same in let l = ends.short in omega (arith, same, l) }) touched short in
    let two = all.on now e in
    let one = source.on two.0 two.1 in
    let file = two.2.file path one.2.bytes one.2.opened in
    let l = file.2.short in
    let s = one.2.size_ in
    absurd (omega (arith, l, s))
