-- What the first connection of each side was told, by the handles that are held.
use Rattle.std.specs.Prelude.{◌≡◌, ℕ, List, Some, slice_get}
use Rattle.lnbd_model.specs.declared.export.ExportInfo.{ExportInfo}
use Rattle.lnbd_asked.specs.Exports.{export_known}
use Rattle.lnbd_drives.specs.Exports.{export_in}
use Rattle.lnbd_poll.specs.Held.{Held, AreAt}
use Rattle.lnbd_poll.specs.Seen.{Seen}
use Rattle.lnbd_board.specs.declared.ticket.Ticket.{Ticket}

-- The handle in this place knows the export of which this tells.
pub record Knows (index : ℕ) (info : ExportInfo) (seens : List (Seen Ticket)) : Type 0 where
  pub seen : Seen Ticket
  pub there : slice_get seens index ≡ Some seen
  pub known : export_known seen.history ≡ Some (export_in info)

-- The handles that are held stand for histories by which the first one knows the one export, and the second one the other.
pub record KnowBoth (source destination : ExportInfo) (held : List (Held Ticket)) : Type 0 where
  pub seens : List (Seen Ticket)
  pub at : AreAt held seens
  pub first : Knows 0 source seens
  pub second : Knows 1 destination seens
