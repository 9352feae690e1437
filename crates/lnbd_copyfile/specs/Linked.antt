-- What a copy of which one side is a file did with its links since it began. All of this stands between the steps of the code: no claim names it.
use Rattle.std.specs.Prelude.{◌≡◌, ◌⊎◌, ℕ, Bool, true, List, [], Option}
use Rattle.lnbd_model.specs.declared.export.ExportInfo.{ExportInfo}
use Rattle.lnbd_model.specs.declared.target.Place.{Place}
use Rattle.lnbd_model.specs.declared.target.Target.{Target}
use Rattle.lnbd_link.specs.Call as wire
use Rattle.lnbd_poll.specs.Held.{Held}
use Rattle.lnbd_plan.specs.declared.options.CopyOptions.{CopyOptions}
use Rattle.lnbd_board.specs.declared.ticket.Ticket.{Ticket}
use Rattle.lnbd_conduct.specs.Grounds.{IsShown}
use Rattle.lnbd_conduct.specs.Links.{AllConnected}
use Rattle.lnbd_conduct.specs.Terms.{connections}
use Rattle.lnbd_conduct.specs.Told.{AtSome, Told}
use Rattle.lnbd_copy.specs.Grounds.{Happens}
use Rattle.lnbd_copy.specs.Links.{LinksGo}
use Rattle.lnbd_connections.specs.Uses.{Uses, UsesTo}
use Rattle.lnbd_copyfile.specs.Connects.{WasInformed, connected_to}

-- The first handle was told of an export to which so many connections are to be made.
pub record FindsMany (options : CopyOptions) (many : ℕ) (held : List (Held Ticket)) : Type 0 where
  pub info : ExportInfo
  pub shown : Happens (IsShown info) 0 held
  pub are : many ≡ connections options info

-- So it is by the calls since the transcript was this.
pub record HasSettledOn (options : CopyOptions) (at : Place) (start told : Option (List wire.Call)) (many : ℕ) : Type 0 where
  pub info : ExportInfo
  pub shown : Told start told (AtSome (WasInformed at info))
  pub are : many ≡ connections options info

-- Steps from the start on connect to the export alone, once or as often as is settled, or less often, and use their links well.
pub record UsesWithin (first : ℕ) (options : CopyOptions) (at : Place) (held : List (Held Ticket)) (told : Option (List wire.Call)) (waited : ℕ)
    (held' : List (Held Ticket)) (told' : Option (List wire.Call)) (waited' : ℕ) : Type 0 where
  pub many : ℕ
  pub as_told : (many ≡ 1) ⊎ HasSettledOn options at told told' many
  pub uses : UsesTo true first (connected_to at many) held told waited held' told' waited'

-- They connect as often as is settled, and each connect gives a link.
pub record UsesAsTold (last : Bool) (first : ℕ) (options : CopyOptions) (at : Place) (held : List (Held Ticket)) (told : Option (List wire.Call)) (waited : ℕ)
    (held' : List (Held Ticket)) (told' : Option (List wire.Call)) (waited' : ℕ) : Type 0 where
  pub many : ℕ
  pub settled : HasSettledOn options at told told' many
  pub uses : Uses last first (connected_to at many) held told waited held' told' waited'
  pub connected : Told told told' AllConnected

-- A step that connects to nothing goes on so, from wherever the calls are counted.
pub record UsesOn (first : ℕ) (held : List (Held Ticket)) (told : Option (List wire.Call)) (waited : ℕ) (held' : List (Held Ticket)) (told' : Option (List wire.Call)) (waited' : ℕ) : Type 0 where
  pub links : LinksGo [] held told held' told'
  pub on : (to : List Target) (before : List (Held Ticket)) (start : Option (List wire.Call)) (had : ℕ) → Uses true first to before start had held told waited →
      Uses true first to before start had held' told' waited'
