-- How much each handle of a copy was asked to write.
use Rattle.std.specs.Prelude.{◌≡◌, ℕ, ◌+◌, ◌*◌, ◌<◌, ◌≤◌, Bool, false, List, [], ◌∷◌, ◌++◌, cond, Some, None, slice_get}
use Rattle.lnbd_model.specs.Kind.{is_status}
use Rattle.lnbd_model.specs.declared.target.Place.{Place}
use Rattle.lnbd_link.specs.Call as wire
use Rattle.lnbd_history.specs.Events.{History, Issue}
use Rattle.lnbd_poll.specs.Seen.{Seen}
use Rattle.lnbd_plan.specs.declared.cells.Cells.{Cells}
use Rattle.lnbd_plan.specs.declared.grid.Slice.{Slice}
use Rattle.lnbd_plan.specs.Laws.{IsPlannedOnce}
use Rattle.lnbd_board.specs.declared.how.How.{How}
use Rattle.lnbd_board.specs.declared.ticket.Ticket.{Ticket}
use Rattle.lnbd_board.specs.Files as board
use Rattle.lnbd_spoken.specs.Little.{asked_bytes, longest_head}
use Rattle.lnbd_course.specs.Between.{Between}
use Rattle.lnbd_course.specs.Counted.{is_flush}

-- how often a handle was asked for extents
abbrev pub extents_asked : History Ticket → ℕ
extents_asked [] = 0
extents_asked (Issue command ∷ before) = cond (is_status command.kind) 1 0 + extents_asked before
extents_asked (event ∷ before) = extents_asked before

-- Each command that it was asked, but a flush, has a byte at least.
abbrev pub AllAskSome : History Ticket → Type 0
AllAskSome [] = Unit {0}
AllAskSome (Issue command ∷ before) = (is_flush command.kind ≡ false → 0 < command.length) × AllAskSome before
AllAskSome (event ∷ before) = AllAskSome before

-- for each byte of the source a head and the byte, and a head more for each question for extents, and for one flush
abbrev pub most_asked : (size questions : ℕ) → ℕ
most_asked size questions = (longest_head + 1) * size + longest_head * (questions + 1)

-- Where no error was told, and the slices that were begun, with those still to come, plan no position twice and none past the source's end, a handle that is held was asked to write no more.
abbrev pub HandlesAreAskedLittle : Type 0
HandlesAreAskedLittle = (from to : Place) (size : ℕ) (how : How) (has : ℕ → Bool) (slices rest : List Slice) (now : board.Seen) (calls : List wire.Call) (seens : List (Seen Ticket)) (cells : Cells) (told : ℕ → Bool) (end index : ℕ) (seen : Seen Ticket) →
    Between from to (Some size) how has slices now calls seens → now.error ≡ None → ((p : ℕ) → IsPlannedOnce cells told 0 end p (slices ++ rest)) → end ≤ size → slice_get seens index ≡ Some seen → AllAskSome seen.history →
    asked_bytes seen.history ≤ most_asked size (extents_asked seen.history)
