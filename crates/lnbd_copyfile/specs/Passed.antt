-- What a copy from an export to a file passes over: the file was cut to nothing first, so that all its places are zeros; and a bridge behind what is claimed.
use Rattle.std.specs.Prelude.{◌≡◌, ◌<◌, ◌⊎◌, ℕ, Bool, true, false, List, Option, Some}
use Rattle.lnbd_model.specs.declared.export.ExportInfo.{ExportInfo}
use Rattle.lnbd_model.specs.declared.target.Place.{Place}
use Rattle.lnbd_link.specs.Call as wire
use Rattle.lnbd_history.specs.Commands.{Command}
use Rattle.lnbd_asked.specs.Honest.{Done}
use Rattle.lnbd_asked.specs.Link.{Nobody}
use Rattle.lnbd_asked.specs.Transcript.{Dealt, dealt_with}
use Rattle.lnbd_plan.specs.declared.options.CopyOptions.{CopyOptions}
use Rattle.lnbd_board.specs.Carried.{IsToldUnread}
use Rattle.lnbd_board.specs.Requests.{reads}
use Rattle.lnbd_board.specs.declared.how.How.{How}
use Rattle.lnbd_course.specs.Runs.{counts_zero}
use Rattle.lnbd_conduct.specs.declared.terms.Terms.{Terms}
use Rattle.lnbd_conduct.specs.Grounds.{Drove, IsShown}
use Rattle.lnbd_conduct.specs.Told.{AtSome, Told}
use Rattle.lnbd_copyfile.specs.Shares.{AreSettledTo}
use Rattle.lnbd_copyfile.specs.Sharing.{HasTermsTo}
use Rattle.lnbd_copyfile.specs.Zeros.{count_of}

-- A READ that is done told the position in a block that it read as zeros, of those that are looked for.
pub record IsReadZero (how : How) (source : Dealt) (p : ℕ) : Type 0 where
  pub link : ℕ
  pub cookie : ℕ
  pub command : Command Nobody
  pub bytes : List ℕ
  pub asked : source.asked link cookie ≡ Some command
  pub reads_ : reads command p ≡ true
  pub done : Done source link cookie bytes
  pub zero : counts_zero how command.offset bytes p ≡ true

-- The position was told as zero and not read, or it was read in such a block.
abbrev pub IsZeroThere : How → Dealt → (p : ℕ) → Type 0
IsZeroThere how source p = IsToldUnread source p ⊎ IsReadZero how source p

-- Of the first positions, as many as the size is, so many are so.
pub record AreZero (how : How) (source : Dealt) (size many : ℕ) : Type 0 where
  pub passed : ℕ → Bool
  pub are : (p : ℕ) → p < size → passed p ≡ true → IsZeroThere how source p
  pub all : (p : ℕ) → p < size → IsZeroThere how source p → passed p ≡ true
  pub count : many ≡ count_of passed 0 size

-- Where zeros are passed over, as many positions are as were told as zero, or read as blocks of zeros; else none is.
pub record PassesOver (how : How) (source : Dealt) (size many : ℕ) : Type 0 where
  pub zeros : how.skip ≡ true → AreZero how source size many
  pub none : how.skip ≡ false → many ≡ 0

-- A connection was told of the export, which with the options settles in which blocks zeros are looked for, and that they are passed over unless they are to be allocated; and so many of its positions
-- were passed over.
pub record HasPassedOver (options : CopyOptions) (from : Place) (many : ℕ) (calls : List wire.Call) : Type 0 where
  pub source : ExportInfo
  pub shown : AtSome (Drove options.extents from (IsShown source)) calls
  pub terms : Terms
  pub settled : AreSettledTo options source terms
  pub passes : PassesOver terms.how (dealt_with from calls) terms.size many

-- Between the steps: so it is by the calls since the transcript was this.
pub record HasPassedBy (options : CopyOptions) (from : Place) (start told : Option (List wire.Call)) (many : ℕ) : Type 0 where
  pub terms : Terms
  pub has : HasTermsTo options from start told terms
  pub passes : Told start told (λ calls. PassesOver terms.how (dealt_with from calls) terms.size many)
