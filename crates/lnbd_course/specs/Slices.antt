-- How far the slices of a copy are, by its calls.
use Rattle.std.specs.Prelude.{◌≡◌, ◌≢◌, ◌⊎◌, ℕ, ◌+◌, Bool, true, false, List, [], ◌∷◌, length, Option, Some, None}
use Rattle.lnbd_model.specs.declared.kind.Kind.{Kind}
use Rattle.lnbd_model.specs.declared.kind.Kind.TheVariants.{Read}
use Rattle.lnbd_model.specs.declared.target.Place.{Place}
use Rattle.lnbd_outcome.specs.Outcome.{Outcome, Unfinished}
use Rattle.lnbd_link.specs.Call as wire
use Rattle.lnbd_history.specs.Commands.{Command}
use Rattle.lnbd_asked.specs.Honest.{Done, changes, covers, has}
use Rattle.lnbd_asked.specs.Link.{Nobody}
use Rattle.lnbd_asked.specs.Transcript.{Dealt, dealt_with}
use Rattle.lnbd_poll.specs.Seen.{Seen}
use Rattle.lnbd_plan.specs.declared.grid.Slice.{Slice}
use Rattle.lnbd_board.specs.declared.how.How.{How}
use Rattle.lnbd_board.specs.declared.ticket.Ticket.{Ticket}
use Rattle.lnbd_board.specs.Files as board
use Rattle.lnbd_board.specs.Pieces.{zeroing_kind}
use Rattle.lnbd_board.specs.Requests.{reads}
use Rattle.lnbd_board.specs.Rows.{busy, lies_in}
use Rattle.lnbd_tracks.specs.Laws.{IsDone}
use Rattle.lnbd_tracks.specs.Unanswered.{AreUnanswered}
use Rattle.lnbd_course.specs.Between.{Between}
use Rattle.lnbd_course.specs.Failed.{AllStand}
use Rattle.lnbd_course.specs.Runs.{counts_zero}
use Rattle.lnbd_course.specs.Told.{Known, ToldCourse}
use Rattle.lnbd_course.specs.UnderWay.{AllHeld, AreUnderWay, NoneWrites, is_block_status}

-- One request of an export, of this kind, asks for all of a slice and no more; and it came to something of this kind.
pub record IsAskedWhole (kind : Kind) (slice : Slice) (Came : Outcome → Type 0) (dealt : Dealt) : Type 0 where
  pub link : ℕ
  pub cookie : ℕ
  pub command : Command Nobody
  pub asked : dealt.asked link cookie ≡ Some command
  pub is : command.kind ≡ kind
  pub start : command.offset ≡ slice.start
  pub size : command.length ≡ slice.length
  pub came : Came (dealt.outcome link cookie)

-- A change that lies within a slice has this position, and is done.
pub record WasChanged (slice : Slice) (p : ℕ) (destination : Dealt) : Type 0 where
  pub link : ℕ
  pub cookie : ℕ
  pub command : Command Nobody
  pub asked : destination.asked link cookie ≡ Some command
  pub here : covers command p ≡ true
  pub inside : (q : ℕ) → has command q ≡ true → lies_in slice q ≡ true
  pub done : IsDone (destination.outcome link cookie)

-- Where zeros are looked for, a READ of this position is done, and told all as zero that it read of its block.
pub record WasFoundZero (how : How) (p : ℕ) (source : Dealt) : Type 0 where
  pub link : ℕ
  pub cookie : ℕ
  pub command : Command Nobody
  pub bytes : List ℕ
  pub asked : source.asked link cookie ≡ Some command
  pub here : reads command p ≡ true
  pub done : Done source link cookie bytes
  pub zero : counts_zero how command.offset bytes p ≡ true

-- The byte of this position is known to be zero: its slice was told as zero, or it was found in a block of zeros.
abbrev pub IsKnownZero : How → Slice → ℕ → (source : Dealt) → Type 0
IsKnownZero how slice p source = (slice.zero ≡ true) ⊎ WasFoundZero how p source

-- All of a slice was read by one READ, which is done, unless it was told as zero.
abbrev pub WasRead : Slice → (source : Dealt) → Type 0
WasRead slice source = slice.zero ≡ false → IsAskedWhole Read slice IsDone source

-- A slice is finished: it was read, and all of it was written or zeroed by requests within it, but for blocks of zeros where the destination is known to be zero; each of
-- these requests is done. One that was told as zero was zeroed by one request.
pub record IsFinished (how : How) (slice : Slice) (source destination : Dealt) : Type 0 where
  pub read : WasRead slice source
  pub changed : (p : ℕ) → lies_in slice p ≡ true → WasChanged slice p destination ⊎ ((how.skip ≡ true) × IsKnownZero how slice p source)
  pub zeroed : slice.zero ≡ true → IsAskedWhole (zeroing_kind how) slice IsDone destination

-- nothing came of a request
abbrev pub IsUnfinished : Outcome → Type 0
IsUnfinished outcome = outcome ≡ Unfinished

-- The READ of a slice is unanswered, which was not told as zero.
pub record WaitsToRead (slice : Slice) (source : Dealt) : Type 0 where
  pub data_ : slice.zero ≡ false
  pub read : IsAskedWhole Read slice IsUnfinished source

-- A slice was read, and one change of it is unanswered, all of which lies within the slice. That of a slice which was told as zero is all of it.
pub record WaitsToChange (how : How) (slice : Slice) (source destination : Dealt) : Type 0 where
  pub read : WasRead slice source
  pub link : ℕ
  pub cookie : ℕ
  pub command : Command Nobody
  pub asked : destination.asked link cookie ≡ Some command
  pub kind : changes command.kind ≡ true
  pub inside : (p : ℕ) → has command p ≡ true → lies_in slice p ≡ true
  pub waits : IsUnfinished (destination.outcome link cookie)
  pub zeroes : slice.zero ≡ true → IsAskedWhole (zeroing_kind how) slice IsUnfinished destination

-- One request of a slice is unanswered, of the source or of the destination.
abbrev pub IsAwaited : How → Slice → (source destination : Dealt) → Type 0
IsAwaited how slice source destination = WaitsToRead slice source ⊎ WaitsToChange how slice source destination

-- Of these slices each is finished, or one request of it is unanswered, which so many are.
abbrev pub AreBegun : How → (source destination : Dealt) → List Slice → ℕ → Type 0
AreBegun how source destination [] n = n ≡ 0
AreBegun how source destination (slice ∷ slices) n =
    (IsFinished how slice source destination × AreBegun how source destination slices n)
    ⊎ (IsAwaited how slice source destination × ((m : ℕ) × ((n ≡ m + 1) × AreBegun how source destination slices m)))

-- Where no handle has anything to write, no error was told and each row of the board has a request under way, the slices that were begun are finished, but for
-- as many as there are rows, of each of which one request is unanswered.
abbrev pub QuietAreBegun : Type 0
QuietAreBegun = (from to : Place) (size : Option ℕ) (how : How) (has : ℕ → Bool) (slices : List Slice) (now : board.Seen) (calls : List wire.Call) (seens : List (Seen Ticket)) →
    Between from to size how has slices now calls seens → now.error ≡ None → AllStand seens → NoneWrites seens → AllHeld calls seens → from ≢ to → busy now.rows ≡ length now.rows →
    AreBegun how (dealt_with from calls) (dealt_with to calls) slices (length now.rows)

-- Where no handle is held and nothing is begun and not over, all are finished, and no READ, WRITE or WRITE_ZEROES is unanswered.
abbrev pub EndedAreBegun : Type 0
EndedAreBegun = (from to : Place) (size : ℕ) (how : How) (has : ℕ → Bool) (slices : List Slice) (now : board.Seen) (calls : List wire.Call) →
    Between from to (Some size) how has slices now calls [] → now.rows ≡ [] → now.error ≡ None → from ≢ to → AreBegun how (dealt_with from calls) (dealt_with to calls) slices 0 × AreUnderWay from to 0 calls

-- One BLOCK_STATUS of an export is unanswered, and it asks for this range, which is where it begins and its length.
pub record AsksExtentsOf (range : ℕ × ℕ) (from : Place) (calls : List wire.Call) : Type 0 where
  pub one : AreUnanswered is_block_status (dealt_with from calls) 1
  pub link : ℕ
  pub cookie : ℕ
  pub command : Command Nobody
  pub asked : (dealt_with from calls).asked link cookie ≡ Some command
  pub kind : is_block_status command.kind ≡ true
  pub waits : (dealt_with from calls).outcome link cookie ≡ Unfinished
  pub begins : command.offset ≡ range.0
  pub long : command.length ≡ range.1

-- Where extents are waited for, and the board was not told that they were answered, the one BLOCK_STATUS asks for their range.
abbrev pub QuietAsks : Type 0
QuietAsks = (from to : Place) (size : Option ℕ) (how : How) (has : ℕ → Bool) (slices : List Slice) (now : board.Seen) (calls : List wire.Call) (seens : List (Seen Ticket)) (range : ℕ × ℕ) (known : Known) →
    Between from to size how has slices now calls seens → ToldCourse how has slices now calls seens (Some range) known → now.error ≡ None → now.mapped ≡ false → AllStand seens → NoneWrites seens → AllHeld calls seens → from ≢ to →
    AsksExtentsOf range from calls
