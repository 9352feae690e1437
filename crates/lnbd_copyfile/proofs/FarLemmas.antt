-- What stands of a copy of which one side is a file, step by step and in the end.
use Rattle.std.proofs.Common.{◌≡◌, ℕ, ◌+◌, ◌≤◌, true, false, List, [], ◌∷◌, ◌++◌, length, replicate, Option, Some, refl, ap, sym, subst, ◌∙◌, arith, append-nil, inl, inr}
use Rattle.std.proofs.lemmas.Bool.{cases_lt}
use Rattle.std.proofs.lemmas.List.{length-replicate}
use Rattle.lnbd_plan.specs.declared.cells.Cells.{Cells}
use Rattle.lnbd_plan.specs.declared.grid.Slice.{Slice}
use Rattle.lnbd_plan.specs.Laws.{IsPlannedOnce, Window, told_by}
use Rattle.lnbd_board.specs.declared.ask.Ask.{Ask}
use Rattle.lnbd_board.specs.declared.ask.Ask.TheVariants as ask
use Rattle.lnbd_board.specs.declared.ask.Change.{Change}
use Rattle.lnbd_board.specs.declared.how.How.{How}
use Rattle.lnbd_board.specs.declared.row.Row.{Row}
use Rattle.lnbd_board.specs.Asks.{change_of, read_at}
use Rattle.lnbd_board.specs.Board.{AsksOn, EndsRow}
use Rattle.lnbd_board.specs.Files as board
use Rattle.lnbd_board.specs.Requests.{Each, IsIn, Request, over}
use Rattle.lnbd_board.specs.Rows.{Stands}
use Rattle.lnbd_board.proofs.Lists.{none_covers}
use Rattle.lnbd_board.proofs.Once.{once}
use Rattle.lnbd_onesided.specs.Desk.{Completes, done_more}
use Rattle.lnbd_onesided.specs.Honest.{Begins, IsRead, Made}
use Rattle.lnbd_tracks.specs.Mapping.{ToldAlike}
use Rattle.lnbd_board.specs.declared.ticket.Ticket.{Ticket}
use Rattle.lnbd_course.specs.Counted.{CountsFirst, CountsNext, CountsSame, bytes_of}
use Rattle.lnbd_course.specs.Far.{FromFile, ToFile}
use Rattle.lnbd_course.specs.Told.{Known}
use Rattle.lnbd_link.specs.Call as wire
use Rattle.lnbd_model.specs.declared.target.Place.{Place}
use Rattle.lnbd_poll.specs.Seen.{Seen}
use Rattle.lnbd_store.specs.Shelf.{IsOpen, Shelf}
use Rattle.lnbd_copyfile.specs.Loading.{HasLoaded}
use Rattle.lnbd_course.specs.FarCourse.{FarCourse}
use Rattle.lnbd_course.specs.FarLaws.{ComesAtOnce}
use Rattle.lnbd_course.proofs.Ending.{planned_once}
use Rattle.lnbd_course.proofs.FarEnding.{to_file_ends}
use Rattle.lnbd_course.proofs.FarKeeping.{board_moves_keep_far, changes_keep_far, first_changes_keep_far, reads_keep_far}
use Rattle.lnbd_copyfile.specs.Holes.{AreHoles, IsReadWhole}
use Rattle.lnbd_copyfile.specs.Making.{Changed, Ended, IsBegun, IsBelow, MadeMore, Rested}
use Rattle.lnbd_copyfile.specs.OneSide.{BeginningKeeps, FromFileIsCopied, GoingKeeps, LoadingKeeps, ToFileIsCopied}
use Rattle.lnbd_model.specs.Kind.{is_read}
use Rattle.lnbd_copyfile.proofs.MadeLemmas.{bytes_joined}
use Rattle.lnbd_copyfile.proofs.SparseLemmas.{sparse_ends}

-- What a step of the board leaves of the rest of it.

pub row_counts : (how : How) (n source destination : ℕ) (now mid : board.Seen) → EndsRow how n source destination now mid → CountsSame now mid
row_counts how n source destination now mid ends = record {
  read = ap (λ (s : board.Seen). s.read) ends.now;
  written = ap (λ (s : board.Seen). s.written) ends.now;
  zeroed = ap (λ (s : board.Seen). s.zeroed) ends.now;
  flushing = ap (λ (s : board.Seen). s.flushing) ends.now;
  flushed = ap (λ (s : board.Seen). s.flushed) ends.now;
}

pub row_alike : (how : How) (n source destination : ℕ) (now mid : board.Seen) → EndsRow how n source destination now mid → ToldAlike now mid
row_alike how n source destination now mid ends = record {
  told = ap (λ (s : board.Seen). s.told) ends.now;
  mapped = ap (λ (s : board.Seen). s.mapped) ends.now;
  short = ap (λ (s : board.Seen). s.short) ends.now;
}

pub change_counts : (how : How) (n destination : ℕ) (one : Change) (now mid : board.Seen) → AsksOn how n destination one now mid → CountsNext one now mid
change_counts how n destination one now mid asks = record {
  read = ap (λ (s : board.Seen). s.read) asks.now;
  written = ap (λ (s : board.Seen). s.written) asks.now;
  zeroed = ap (λ (s : board.Seen). s.zeroed) asks.now;
  flushing = ap (λ (s : board.Seen). s.flushing) asks.now;
  flushed = ap (λ (s : board.Seen). s.flushed) asks.now;
}

change_comes : (how : How) (n destination : ℕ) (one : Change) (bytes : List ℕ) (now mid back : board.Seen) → AsksOn how n destination one now mid → Completes n bytes mid back →
    ComesAtOnce n bytes now mid back
change_comes how n destination one bytes now mid back asks came = record {
  earlier = λ none. sym (ap (λ (s : board.Seen). s.error) asks.now) ∙ none;
  alike = record {
    told = ap (λ (s : board.Seen). s.told) asks.now;
    mapped = ap (λ (s : board.Seen). s.mapped) asks.now;
    short = ap (λ (s : board.Seen). s.short) asks.now;
  };
  completes = came;
}

pub first_counts : (slice : Slice) (source destination : ℕ) (one : Ask) (now mid : board.Seen) → IsBegun slice source destination one now mid → CountsFirst one now mid
first_counts slice source destination one now mid begun = record {
  read = ap (λ (s : board.Seen). s.read) begun.row;
  written = ap (λ (s : board.Seen). s.written) begun.row;
  zeroed = ap (λ (s : board.Seen). s.zeroed) begun.row;
  flushing = ap (λ (s : board.Seen). s.flushing) begun.row;
  flushed = ap (λ (s : board.Seen). s.flushed) begun.row;
}

first_comes : (slice : Slice) (source destination : ℕ) (one : Ask) (n : ℕ) (bytes : List ℕ) (now mid back : board.Seen) → IsBegun slice source destination one now mid → Completes n bytes mid back
    → ComesAtOnce n bytes now mid back
first_comes slice source destination one n bytes now mid back begun came = record {
  earlier = λ none. sym (ap (λ (s : board.Seen). s.error) begun.row) ∙ none;
  alike = record {
    told = ap (λ (s : board.Seen). s.told) begun.row;
    mapped = ap (λ (s : board.Seen). s.mapped) begun.row;
    short = ap (λ (s : board.Seen). s.short) begun.row;
  };
  completes = came;
}

-- Steps.

pub going_keeps : GoingKeeps
going_keeps how at size slices calls seens wanted known now now2 made made2 (Rested _ _ _ _ same none) course =
    subst (λ (xs : List Request). FarCourse (ToFile xs) at size how slices now2 calls seens wanted known) (sym none)
    (subst (λ (s : board.Seen). FarCourse (ToFile made) at size how slices s calls seens wanted known) (sym same) course)
going_keeps how at size slices calls seens wanted known now now2 made made2 (Ended _ mid _ _ _ n source destination ends more) course =
    going_keeps how at size slices calls seens wanted known mid now2 made made2 more
    (board_moves_keep_far (ToFile made) at size how slices now mid calls seens wanted known course (λ none. sym (ap (λ (s : board.Seen). s.error) ends.now) ∙ none)
    (row_counts how n source destination now mid ends) (λ reads changed. ends.goes.on reads changed 0 0) (row_alike how n source destination now mid ends))
going_keeps how at size slices calls seens wanted known now now2 made made2 (Changed _ mid back _ _ _ n destination one asks came more) course =
    going_keeps how at size slices calls seens wanted known back now2 (done_more (length made) n (change_of one) (change_of one).payload made) made2 more
    (changes_keep_far made at size how slices now mid back calls seens wanted known n one course asks.goes (change_counts how n destination one now mid asks)
    (change_comes how n destination one (change_of one).payload now mid back asks came))

pub beginning_keeps : BeginningKeeps
beginning_keeps file slice source destination made at size slices now now2 calls seens wanted known old new taken taken2 first count course =
    let one = first.one in
    subst (λ (xs : List Request). FarCourse (ToFile xs) at size now.how (slices ++ slice ∷ []) now2 calls seens wanted known) (sym first.all)
    (first_changes_keep_far made at size now.how slices now first.mid now2 calls seens wanted known slice now.begun one course count first.begun.begins
    (first_counts slice source destination (ask.Change one) now first.mid first.begun)
    (first_comes slice source destination (ask.Change one) now.begun (change_of one).payload now first.mid now2 first.begun first.came))

-- A slice was read.
module _ (file : ℕ) (slice : Slice) (source destination : ℕ) (read : List Request) (now now2 : board.Seen) (old new : Option Shelf) (given given2 : ℕ)
    (loaded : HasLoaded file slice source destination read now now2 old new given given2) where
  -- all reads, with that one
  abbrev pub loaded_with : List Request
  loaded_with = done_more (length read) now.begun (read_at loaded.offset (length loaded.buf)) loaded.bytes read

  pub loading_stands : (at : Place) (size : Option ℕ) (slices : List Slice) (calls : List wire.Call) (seens : List (Seen Ticket)) (wanted : Option (ℕ × ℕ)) (known : Known) →
      length slices ≡ now.begun → FarCourse (FromFile read) at size now.how slices now calls seens wanted known →
      FarCourse (FromFile loaded_with) at size now.how (slices ++ slice ∷ []) now2 calls seens wanted known
  loading_stands at size slices calls seens wanted known count course =
      let one = ask.Read loaded.offset loaded.buf in
      let begun : IsBegun slice source destination one now loaded.next = record { begins = loaded.begins; row = loaded.begun } in
      reads_keep_far read at size now.how slices now loaded.next now2 calls seens wanted known slice now.begun loaded.offset loaded.buf loaded.bytes course count loaded.begins
      (first_counts slice source destination one now loaded.next begun) loaded.size (first_comes slice source destination one now.begun loaded.bytes now loaded.next now2 begun loaded.came)

  pub loading_reads : bytes_of is_read loaded_with ≡ bytes_of is_read read + length loaded.bytes
  loading_reads = bytes_joined is_read read _ ∙ (let n = loaded.size in omega (arith, n))

pub loading_keeps : LoadingKeeps
loading_keeps file slice source destination read at size slices now now2 calls seens wanted known old new given given2 loaded count course = (
  loaded_with file slice source destination read now now2 old new given given2 loaded,
  record {
    stands = loading_stands file slice source destination read now now2 old new given given2 loaded at size slices calls seens wanted known count course;
    touched = loaded.touched;
    count = length loaded.bytes;
    more = loading_reads file slice source destination read now now2 old new given given2 loaded;
    gave = loaded.gave;
  },
)

-- The end.

each_of : (P : Request → Type 0) (xs : List Request) → ((r : Request) → IsIn r xs → P r) → Each P xs
each_of P [] f = tt
each_of P (x ∷ xs) f = (f x (inl refl), each_of P xs (λ r i. f r (inr i)))

true_false : true ≡ false → ⊥
true_false e = cc

-- where nothing is changed behind the end, each change is before it
all_below : (size : ℕ) (made : List Request) → ((p : ℕ) → size ≤ p → over p made ≡ []) → Each (λ r. IsBelow size r.said.command) made
all_below size made none = each_of (λ r. IsBelow size r.said.command) made (λ r i p covered. elim (cases_lt p size) [
  | inl l ↦ l
  | inr l ↦ absurd (true_false (sym covered ∙ none_covers p r made (none p l) i))
])

changes_below : (how : How) (cells : Cells) (windows : List Window) (size : ℕ) (slices : List Slice) (rows : List (ℕ × Row)) (source made : List Request) → Stands how slices rows source made
    → ((p : ℕ) → IsPlannedOnce cells (told_by 0 windows) 0 size p slices) → Each (λ r. IsBelow size r.said.command) made
changes_below how cells windows size slices rows source made stands planned =
    all_below size made (once how cells (told_by 0 windows) size slices [] rows source made stands
    (λ p. subst (λ (ss : List Slice). IsPlannedOnce cells (told_by 0 windows) 0 size p ss) (sym (append-nil slices)) (planned p))).1.changes

-- what a file of zeros made
made_all : (size : ℕ) (made : List Request) (now : List ℕ) → Each (λ r. IsBelow size r.said.command) made → MadeMore [] made (replicate size 0) now → Made (replicate size 0) made now
made_all size made now below more =
    more.on (replicate size 0) (subst (λ (n : ℕ). Each (λ r. IsBelow n r.said.command) made) (sym (length-replicate size 0)) below) (Begins [] (replicate size 0) refl refl)

pub to_file_is_copied : ToFileIsCopied
to_file_is_copied path n size made from how slices now calls wanted known cells windows a b c blank touched course over well planned = record {
  on = λ shelf e.
      let two = touched.on shelf e in
      let one = blank.on two.0 two.1 in
      let file = two.2.file path (replicate size 0) one.2.opened in
      let below = changes_below how cells windows size slices now.rows course.course.stood.stood.asked made (course.course.stood.stood.stands well)
      (planned_once cells windows size slices planned.are planned.whole) in
      let all = made_all size made file.0 below file.2 in (
        one.0,
        one.1,
        record {
          file = λ source honest. file.1 ∙ ap (λ (xs : List ℕ). Some xs) (to_file_ends made from size how slices now calls wanted known cells windows file.0
              course over well planned all source honest);
          rest = λ other d. two.2.rest path other one.2.opened.path_ d ∙ one.2.rest other d;
        },
      );
}

same_shelf : {x y : Shelf} → Some x ≡ Some y → x ≡ y
same_shelf e = cc

pub from_file_is_copied : FromFileIsCopied
from_file_is_copied path n size room read to how slices now calls wanted known cells windows zero a b c source touched holes course over well planned fits = record {
  on = λ shelf e.
      let two = touched.on shelf e in
      let one = source.on two.0 two.1 in
      let bytes = one.2.bytes in
      let file = two.2.file path bytes one.2.opened in
      let each : Each (IsRead bytes) read = subst (λ (xs : List ℕ). Each (IsRead xs) read) file.2.same (file.2.on tt) in
      let told = holes.on shelf e in
      let hole = told.2.file path bytes (subst (λ (s : Shelf). IsOpen s n path bytes) (same_shelf (sym two.1 ∙ told.1)) one.2.opened) in
      let are : AreHoles zero bytes = subst (λ (xs : List ℕ). AreHoles zero xs) hole.2.same (hole.2.on (λ p within none. absurd (true_false (sym none)))) in
      let whole : IsReadWhole how cells windows zero (length bytes) slices = subst (λ (k : ℕ). IsReadWhole how cells windows zero k slices) (sym one.2.size_) planned in
      let room_ : length bytes ≤ room = subst (λ (k : ℕ). k ≤ room) (sym one.2.size_) fits in (
        one.0,
        one.1,
        record {
          bytes = bytes;
          file = one.2.file;
          size_ = one.2.size_;
          held = λ before end honest bare. sparse_ends read to room how slices now calls wanted known cells windows zero bytes course over well whole each are room_ before end honest bare;
          same = file.1 ∙ ap (λ (xs : List ℕ). Some xs) file.2.same;
          rest = λ other d. two.2.rest path other one.2.opened.path_ d ∙ one.2.rest other d;
        },
      );
}
