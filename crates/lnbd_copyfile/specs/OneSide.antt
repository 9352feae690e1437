-- What a copy leaves of which one side is a file, and what of its steps keeps what stands of it.
use Rattle.std.specs.Prelude.{◌≡◌, ◌≢◌, ◌<◌, ◌≤◌, ◌+◌, ◌^◌, ℕ, Bool, true, List, [], ◌∷◌, ◌++◌, length, Option, Some, None}
use Rattle.lnbd_model.specs.declared.target.Place.{Place}
use Rattle.lnbd_link.specs.Call as wire
use Rattle.lnbd_model.specs.Kind.{is_read}
use Rattle.lnbd_asked.specs.Honest.{IsHonest, changes}
use Rattle.lnbd_poll.specs.Seen.{Seen}
use Rattle.lnbd_plan.specs.declared.cells.Cells.{Cells}
use Rattle.lnbd_plan.specs.declared.grid.Slice.{Slice}
use Rattle.lnbd_plan.specs.Laws.{Window}
use Rattle.lnbd_board.specs.declared.how.How.{How}
use Rattle.lnbd_board.specs.declared.ticket.Ticket.{Ticket}
use Rattle.lnbd_board.specs.Files as board
use Rattle.lnbd_board.specs.Holds.{Holds}
use Rattle.lnbd_board.specs.Requests.{Request}
use Rattle.lnbd_course.specs.Copied.{IsBlank}
use Rattle.lnbd_course.specs.Counted.{bytes_of}
use Rattle.lnbd_course.specs.Course.{IsPlannedWhole}
use Rattle.lnbd_course.specs.Far.{FromFile, ToFile}
use Rattle.lnbd_course.specs.FarCourse.{FarCourse}
use Rattle.lnbd_course.specs.Told.{Known}
use Rattle.lnbd_store.specs.Shelf.{Goes, Shelf}
use Rattle.lnbd_touched.specs.Grown.{RoseBy}
use Rattle.lnbd_touched.specs.Parts.{IsShort}
use Rattle.lnbd_touched.specs.Touches.{Touches}
use Rattle.lnbd_copyfile.specs.Holes.{IsReadWhole, ToldHoles, nowhere}
use Rattle.lnbd_copyfile.specs.Loading.{HasLoaded, ToldMore}
use Rattle.lnbd_copyfile.specs.Making.{HasMadeFirst, MadeMore, WentOn}
use Rattle.lnbd_copyfile.specs.Steps as steps

-- What is left.

-- The file at the path is what the source holds, whatever that is, if its server is honest over these calls. No other file changed.
pub record IsCopiedTo (path : List ℕ) (from : Place) (calls : List wire.Call) (was now : Shelf) : Type 0 where
  pub file : (source : List ℕ) → IsHonest from source calls source → now.files path ≡ Some source
  pub rest : (other : List ℕ) → other ≢ path → now.files other ≡ was.files other

-- Each file is as it was. The destination holds the one at the path, which has so many bytes, whatever the destination held before and holds in the end, if its
-- server is honest over these calls, and if it was zero as far as the file reaches where the copy was told so.
pub record IsCopiedFrom (path : List ℕ) (size : ℕ) (to : Place) (blank : Bool) (calls : List wire.Call) (was now : Shelf) : Type 0 where
  pub bytes : List ℕ
  pub file : was.files path ≡ Some bytes
  pub size_ : length bytes ≡ size
  pub held : (before end : List ℕ) → IsHonest to before calls end → (blank ≡ true → IsBlank bytes before) → Holds bytes before end
  pub same : now.files path ≡ Some bytes
  pub rest : (other : List ℕ) → other ≢ path → now.files other ≡ was.files other

-- Steps.

-- What stands of a copy to a file goes on where rows of the board do,
abbrev pub GoingKeeps : Type 0
GoingKeeps = (how : How) (at : Place) (size : Option ℕ) (slices : List Slice) (calls : List wire.Call) (seens : List (Seen Ticket)) (wanted : Option (ℕ × ℕ)) (known : Known)
    (now now2 : board.Seen) (made made2 : List Request) →
    WentOn how now made now2 made2 → FarCourse (ToFile made) at size how slices now calls seens wanted known → FarCourse (ToFile made2) at size how slices now2 calls seens wanted known

-- and where a slice begins with a change.
abbrev pub BeginningKeeps : Type 0
BeginningKeeps = (file : ℕ) (slice : Slice) (source destination : ℕ) (made : List Request) (at : Place) (size : Option ℕ) (slices : List Slice) (now now2 : board.Seen)
    (calls : List wire.Call) (seens : List (Seen Ticket)) (wanted : Option (ℕ × ℕ)) (known : Known)
    (old new : Option Shelf) (taken taken2 : ℕ) (made_ : HasMadeFirst file slice source destination made now now2 old new taken taken2) → length slices ≡ now.begun →
    FarCourse (ToFile made) at size now.how slices now calls seens wanted known →
    FarCourse (ToFile (made ++ made_.more)) at size now.how (slices ++ slice ∷ []) now2 calls seens wanted known

-- What stands of a copy from a file goes on where a slice is read: then one read more was made, and the store gave as many bytes.
pub record HasReadMore (read read2 : List Request) (file : ℕ) (at : Place) (size : Option ℕ) (how : How) (slices : List Slice) (now : board.Seen) (calls : List wire.Call)
    (seens : List (Seen Ticket)) (wanted : Option (ℕ × ℕ)) (known : Known) (old new : Option Shelf) (given given2 : ℕ) : Type 0 where
  pub stands : FarCourse (FromFile read2) at size how slices now calls seens wanted known
  pub touched : Touches file (ToldMore read read2) old new
  pub count : ℕ
  pub more : bytes_of is_read read2 ≡ bytes_of is_read read + count
  pub gave : RoseBy count given given2

abbrev pub LoadingKeeps : Type 0
LoadingKeeps = (file : ℕ) (slice : Slice) (source destination : ℕ) (read : List Request) (at : Place) (size : Option ℕ) (slices : List Slice) (now now2 : board.Seen)
    (calls : List wire.Call) (seens : List (Seen Ticket)) (wanted : Option (ℕ × ℕ)) (known : Known)
    (old new : Option Shelf) (given given2 : ℕ) → HasLoaded file slice source destination read now now2 old new given given2 → length slices ≡ now.begun →
    FarCourse (FromFile read) at size now.how slices now calls seens wanted known →
    (read2 : List Request) × HasReadMore read read2 file at size now.how (slices ++ slice ∷ []) now2 calls seens wanted known old new given given2

-- The end.

-- The file was opened and cut, so that it was so many zeros, and then made the changes. Where the copy ends without an error, with all planned and nothing begun and not over, it is copied.
abbrev pub ToFileIsCopied : Type 0
ToFileIsCopied = (path : List ℕ) (n size : ℕ) (made : List Request) (from : Place) (how : How) (slices : List Slice) (now : board.Seen) (calls : List wire.Call)
    (wanted : Option (ℕ × ℕ)) (known : Known) (cells : Cells) (windows : List Window) (a b c : Option Shelf) →
    Goes a b (steps.IsBlank path n size) → Touches n (MadeMore [] made) b c → FarCourse (ToFile made) from (Some size) how slices now calls [] wanted known → now.rows ≡ [] →
    now.error ≡ None → IsPlannedWhole how cells windows from calls size slices →
    Goes a c (IsCopiedTo path from calls)

-- The file was opened and measured, and then read but for what it told to be zeros. Where the copy ends so, it is copied.
abbrev pub FromFileIsCopied : Type 0
FromFileIsCopied = (path : List ℕ) (n size room : ℕ) (read : List Request) (to : Place) (how : How) (slices : List Slice) (now : board.Seen) (calls : List wire.Call)
    (wanted : Option (ℕ × ℕ)) (known : Known) (cells : Cells) (windows : List Window) (zero : ℕ → Bool) (a b c : Option Shelf) →
    Goes a b (steps.IsSource path n size) → Touches n (ToldMore [] read) b c → Touches n (ToldHoles nowhere zero) b c → FarCourse (FromFile read) to (Some room) how slices now calls [] wanted known → now.rows ≡ [] →
    now.error ≡ None → IsReadWhole how cells windows zero size slices → size ≤ room →
    Goes a c (IsCopiedFrom path size to how.skip calls)

-- A file that told that it has so many bytes never ends before, where the store tells its files.
abbrev pub ToldFilesLast : Type 0
ToldFilesLast = (path : List ℕ) (n size : ℕ) (read : List Request) (a b c d : Option Shelf) → Goes a b (steps.IsSource path n size) → Touches n (ToldMore [] read) b c →
    Touches n (IsShort size) c d → (now : Shelf) → d ≡ Some now → ⊥

-- Of so many positions each was written or zeroed once at most, and the store took as many bytes as the board counts.
pub record IsTaken (size : ℕ) (now : board.Seen) (taken taken2 : ℕ) : Type 0 where
  pub few : now.written + now.zeroed ≤ size
  pub took : taken < 2 ^ 63 → taken2 ≡ taken + (now.written + now.zeroed)

abbrev pub ToFileIsSummed : Type 0
ToFileIsSummed = (made : List Request) (from : Place) (size : ℕ) (how : How) (slices : List Slice) (now : board.Seen) (calls : List wire.Call) (wanted : Option (ℕ × ℕ))
    (known : Known) (cells : Cells) (windows : List Window) (taken taken2 : ℕ) →
    FarCourse (ToFile made) from (Some size) how slices now calls [] wanted known → now.error ≡ None → IsPlannedWhole how cells windows from calls size slices → size ≤ 2 ^ 63 →
    RoseBy (bytes_of changes made) taken taken2 → IsTaken size now taken taken2

-- Each was read once at most, and the store gave as many bytes as the board counts.
pub record IsGiven (size : ℕ) (now : board.Seen) (given given2 : ℕ) : Type 0 where
  pub few : now.read ≤ size
  pub gave : given < 2 ^ 63 → given2 ≡ given + now.read

abbrev pub FromFileIsSummed : Type 0
FromFileIsSummed = (read : List Request) (to : Place) (size room : ℕ) (how : How) (slices : List Slice) (now : board.Seen) (calls : List wire.Call) (wanted : Option (ℕ × ℕ))
    (known : Known) (cells : Cells) (windows : List Window) (zero : ℕ → Bool) (given given2 : ℕ) →
    FarCourse (FromFile read) to (Some room) how slices now calls [] wanted known → now.error ≡ None → IsReadWhole how cells windows zero size slices → size ≤ 2 ^ 63 →
    RoseBy (bytes_of is_read read) given given2 → IsGiven size now given given2
