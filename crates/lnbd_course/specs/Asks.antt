-- What a copy asks of both exports.
use Rattle.std.specs.Prelude.{◌≡◌, ◌≢◌, ◌⊎◌, ◌<◌, ◌≤◌, ◌++◌, ℕ, Bool, true, false, List, [], Option, Some, None}
use Rattle.lnbd_model.specs.declared.kind.Kind.{Kind}
use Rattle.lnbd_model.specs.declared.kind.Kind.TheVariants.{Read, Write, Flush, Trim, Cache, Zero, BlockStatus}
use Rattle.lnbd_model.specs.declared.target.Place.{Place}
use Rattle.lnbd_link.specs.Call.{Call}
use Rattle.lnbd_history.specs.Commands.{Command}
use Rattle.lnbd_asked.specs.Honest.{covers}
use Rattle.lnbd_asked.specs.Link.{Nobody}
use Rattle.lnbd_asked.specs.Transcript.{Dealt, dealt_with}
use Rattle.lnbd_link.specs.Numbers.{is_given}
use Rattle.lnbd_link.specs.Part.{Grows}
use Rattle.lnbd_link.specs.Traffic.{target_of}
use Rattle.lnbd_poll.specs.Alone.{calls_on}
use Rattle.lnbd_plan.specs.declared.cells.Cells.{Cells}
use Rattle.lnbd_plan.specs.declared.grid.Slice.{Slice}
use Rattle.lnbd_plan.specs.Laws.{IsPlannedOnce}
use Rattle.lnbd_board.specs.declared.how.How.{How}
use Rattle.lnbd_board.specs.Files as board
use Rattle.lnbd_board.specs.Holds.{WasToldSize}
use Rattle.lnbd_board.specs.Pieces.{zero_flags}
use Rattle.lnbd_board.specs.Requests.{reads}
use Rattle.lnbd_board.specs.Rows.{max_extents}
use Rattle.lnbd_tracks.specs.Laws.{IsDone, moves_bytes}
use Rattle.lnbd_course.specs.Between.{Between}

-- READ and BLOCK_STATUS
abbrev pub is_look : Kind → Bool
is_look Read = true
is_look Write = false
is_look Flush = false
is_look Trim = false
is_look Cache = false
is_look Zero = false
is_look BlockStatus = true

-- WRITE, WRITE_ZEROES and FLUSH
abbrev pub is_store : Kind → Bool
is_store Read = false
is_store Write = true
is_store Flush = true
is_store Trim = false
is_store Cache = false
is_store Zero = true
is_store BlockStatus = false

-- each request that was asked of an export
abbrev pub EachAsked : (Command Nobody → Type 0) → Dealt → Type 0
EachAsked P dealt = (link cookie : ℕ) (command : Command Nobody) → dealt.asked link cookie ≡ Some command → P command

-- No two requests that were asked touch the same position.
abbrev pub NoneMeet : (touches : Command Nobody → ℕ → Bool) → Dealt → Type 0
NoneMeet touches dealt = (link cookie link' cookie' p : ℕ) (one other : Command Nobody) → dealt.asked link cookie ≡ Some one → dealt.asked link' cookie' ≡ Some other →
    touches one p ≡ true → touches other p ≡ true → (link' ≡ link) × (cookie' ≡ cookie)

-- each position that the request touches is before the end
abbrev pub EndsBy : (touches : Command Nobody → ℕ → Bool) → (end : ℕ) → Command Nobody → Type 0
EndsBy touches end command = (p : ℕ) → touches command p ≡ true → p < end

-- only WRITE_ZEROES has flags
abbrev pub IsPlain : Command Nobody → Type 0
IsPlain command = command.kind ≢ Zero → command.flags ≡ 0

-- What is asked of a source of so many bytes, and of the destination, where zeros are to be allocated or not, and passed over or not, as where the destination is known
-- to be zero.
pub record AreAskedOnce (allocated skip : Bool) (size : ℕ) (source destination : Dealt) : Type 0 where
  -- Of the source only READ and BLOCK_STATUS are asked, and of the destination only WRITE, WRITE_ZEROES and FLUSH.
  pub looks : EachAsked (λ command. is_look command.kind ≡ true) source
  pub stores : EachAsked (λ command. is_store command.kind ≡ true) destination
  -- No position of the source is read twice, and none of the destination is changed twice.
  pub reads_once : NoneMeet reads source
  pub changes_once : NoneMeet covers destination
  -- Nothing is read or changed past the source's last byte.
  pub reads_within : EachAsked (EndsBy reads size) source
  pub changes_within : EachAsked (EndsBy covers size) destination
  -- WRITE_ZEROES has NO_HOLE exactly where zeros are to be allocated.
  pub holes : EachAsked (λ command. command.kind ≡ Zero → command.flags ≡ zero_flags allocated) destination
  -- No other command has flags.
  pub looks_plain : EachAsked IsPlain source
  pub stores_plain : EachAsked IsPlain destination
  -- No WRITE_ZEROES is asked where zeros are passed over.
  pub skips : skip ≡ true → EachAsked (λ command. command.kind ≢ Zero) destination
  -- BLOCK_STATUS asks for 134,217,728 bytes at most.
  pub extents : EachAsked (λ command. command.kind ≡ BlockStatus → command.length ≤ max_extents) source

-- Each number that a call gave is that of a link that was connected to one of both places, and no other link was read or written.
pub record AreOwnLinks (from to : Place) (calls : List Call) : Type 0 where
  pub connected : (link : ℕ) → is_given link calls ≡ true → (target_of link calls ≡ Some from.to) ⊎ (target_of link calls ≡ Some to.to)
  pub used : (link : ℕ) → is_given link calls ≡ false → calls_on link calls ≡ []

-- What these calls asked of both places, on links of their own, where the source told this size.
pub record HasAskedOnce (allocated skip : Bool) (from to : Place) (calls : List Call) : Type 0 where
  pub links : AreOwnLinks from to calls
  pub size : ℕ
  pub told : WasToldSize (dealt_with from calls) size
  pub asked : AreAskedOnce allocated skip size (dealt_with from calls) (dealt_with to calls)

-- each READ, WRITE and WRITE_ZEROES that was asked of an export is done
abbrev pub AreDone : Dealt → Type 0
AreDone dealt = (link cookie : ℕ) (command : Command Nobody) → dealt.asked link cookie ≡ Some command → moves_bytes command.kind ≡ true → IsDone (dealt.outcome link cookie)

-- So it is with both places.
pub record WereDone (from to : Place) (calls : List Call) : Type 0 where
  pub source : AreDone (dealt_with from calls)
  pub destination : AreDone (dealt_with to calls)

-- Where a transcript is told, the part that it grew by is so.
abbrev pub GrewBy : (Is : List Call → Type 0) → (told told' : Option (List Call)) → Type 0
GrewBy Is told told' = (all part : List Call) → told' ≡ Some all → Grows told told' part → Is part

-- Where no handle is held, no error was told, and the slices that were begun, with those still to come, plan no position twice, what a copy from one place to
-- another asked was asked once.
abbrev pub EndedAsksOnce : Type 0
EndedAsksOnce = (from to : Place) (size : ℕ) (how : How) (has : ℕ → Bool) (slices rest : List Slice) (now : board.Seen) (calls : List Call) (cells : Cells) (told : ℕ → Bool) (end : ℕ) →
    Between from to (Some size) how has slices now calls [] → now.error ≡ None → ((p : ℕ) → IsPlannedOnce cells told 0 end p (slices ++ rest)) → end ≤ size → from ≢ to → HasAskedOnce how.allocated how.skip from to calls

-- So all of it is done, where nothing is begun and not over.
abbrev pub EndedAreDone : Type 0
EndedAreDone = (from to : Place) (size : ℕ) (how : How) (has : ℕ → Bool) (slices : List Slice) (now : board.Seen) (calls : List Call) → Between from to (Some size) how has slices now calls [] → now.rows ≡ [] → now.error ≡ None → from ≢ to → WereDone from to calls
