-- No READ and no WRITE of a copy is larger than a cell, also in a turn that fails it.
use Rattle.std.proofs.Common.{◌≡◌, ◌≢◌, ℕ, ◌<◌, Bool, true, false, List, ◌++◌, None, ap, sym, subst, ◌∙◌, arith, if◌then◌else◌}
use Rattle.std.proofs.lemmas.List.{append_assoc}
use Rattle.lnbd_callbacks.specs.Calls.{Call}
use Rattle.lnbd_callbacks.specs.Steps.{OneByOne}
use Rattle.lnbd_link.specs.Call as wire
use Rattle.lnbd_model.specs.declared.export.ExportInfo.{ExportInfo}
use Rattle.lnbd_model.specs.declared.target.Place.{Place}
use Rattle.lnbd_asked.specs.Transcript.{Dealt, dealt_with}
use Rattle.lnbd_poll.specs.Held.{Held, AreAt}
use Rattle.lnbd_poll.specs.Seen.{Seen}
use Rattle.lnbd_poll.specs.Turns.{Ending, Turns}
use Rattle.lnbd_plan.specs.declared.cells.Cells.{Cells}
use Rattle.lnbd_plan.specs.declared.grid.Slice.{Slice}
use Rattle.lnbd_plan.specs.declared.options.CopyOptions.{CopyOptions}
use Rattle.lnbd_plan.specs.Laws.{windows_slices}
use Rattle.lnbd_board.specs.declared.how.How.{How}
use Rattle.lnbd_board.specs.declared.ticket.Ticket.{Ticket}
use Rattle.lnbd_board.specs.Files as board
use Rattle.lnbd_board.specs.Requests.{Each}
use Rattle.lnbd_board.proofs.Lists.{Each-front}
use Rattle.lnbd_course.specs.Cells.{AreInCells, IsCut}
use Rattle.lnbd_course.proofs.Cells.{parts_are_in_cells, planned_are_cut}
use Rattle.lnbd_course.proofs.Quiet.{dealt_stays}
use Rattle.lnbd_conduct.specs.Changes.{KeepsToCells}
use Rattle.lnbd_copy.specs.Job as job
use Rattle.lnbd_conduct.specs.Slices.{cells_of}
use Rattle.lnbd_conduct.specs.Told.{AtSome}
use Rattle.lnbd_conduct.specs.Settled.{AreSettledBy}
use Rattle.lnbd_conduct.specs.Terms as both
use Rattle.lnbd_copy.specs.Way.{IsUnderWay, Way}
use Rattle.lnbd_copy.proofs.AlikeLemmas.{alike_later}
use Rattle.lnbd_copy.proofs.FailLemmas.{all_stand}
use Rattle.lnbd_copy.proofs.IdleLemmas.{StaysIdly}
use Rattle.lnbd_copy.proofs.UntouchedLemmas.{grain_some}

abbrev steps : board.Seen → List (Call Ticket) → board.Seen → Type 0
steps = OneByOne board.Files

-- The size of cells.

cell_some : (options : CopyOptions) (source destination : ExportInfo) → 0 < both.cell options source destination
cell_some options source destination = let some = grain_some source destination in omega (arith, some)

zero_cell_some : (options : CopyOptions) (source destination : ExportInfo) → 0 < both.zero_cell options source destination
zero_cell_some options source destination =
    let some = cell_some options source destination in
    elim (both.takes_zeroes destination) as (λ b. 0 < (if b then both.max_zeroes else both.cell options source destination)) [ true ↦ omega arith | false ↦ some ]

-- What calls that ask nothing keep.

some_longer : {Is : List wire.Call → Type 0} (calls more : List wire.Call) → AtSome Is calls → AtSome Is (calls ++ more)
some_longer calls more s = record { before = s.before; after = s.after ++ more; are = ap (λ (l : List wire.Call). l ++ more) s.are ∙ append_assoc s.before s.after more; is = s.is }

pub cells_stay : (options : CopyOptions) (from to : Place) → StaysIdly (KeepsToCells options from to)
cells_stay options from to calls more quiet none kept = record {
  source = kept.source;
  destination = kept.destination;
  shown = some_longer calls more kept.shown;
  shown' = some_longer calls more kept.shown';
  none = kept.none;
  is =
      subst (λ (d : Dealt). AreInCells (both.cell options kept.source kept.destination) (both.zero_cell options kept.source kept.destination) d (dealt_with to (calls ++ more))) (sym (dealt_stays calls more quiet none from))
      (subst (λ (d : Dealt). AreInCells (both.cell options kept.source kept.destination) (both.zero_cell options kept.source kept.destination) (dealt_with from calls) d) (sym (dealt_stays calls more quiet none to)) kept.is);
  all = alike_later options.extents from to kept.source kept.destination calls more none kept.all;
}

-- A turn, whole or short.

module _ (options : CopyOptions) (source destination : ExportInfo) (j : job.Seen) (way : Way) (settled : AreSettledBy options source destination j.terms) (now now' : board.Seen) (parting : Bool) (calls part : List wire.Call) (held held' : List (Held Ticket)) (after : List (Seen Ticket))
    (is : job.IsJob j way now) (well : now.error ≡ None) (on : IsUnderWay parting way now calls held) (at : AreAt held' after) (ending : Ending) (turns : Turns steps on.seens now part after now' ending) (two : way.from ≢ way.to) where
  abbrev cells : Cells
  cells = cells_of j.terms

  begun_cut : Each (IsCut cells) way.slices
  begun_cut =
      Each-front (IsCut cells) way.slices j.windows.plan.slices
      (subst (λ (l : List Slice). Each (IsCut cells) l) (sym (is.planned.are ∙ ap (λ (c : Cells). windows_slices c 0 is.planned.parts) is.cells)) (planned_are_cut cells 0 is.planned.parts))

  -- zeros are cut as bytes are, where the destination takes no WRITE_ZEROES
  alike : way.how.zeroes ≡ false → j.terms.zero_cell ≡ j.terms.cell
  alike none =
      let takes : both.takes_zeroes destination ≡ false = sym (ap (λ (h : How). h.zeroes) (is.how ∙ settled.how)) ∙ none in
      settled.zero_cell ∙ ap (λ (b : Bool). if b then both.max_zeroes else both.cell options source destination) takes ∙ sym settled.cell

  pub part_in_cells : AreInCells j.terms.cell j.terms.zero_cell (dealt_with way.from (calls ++ part)) (dealt_with way.to (calls ++ part))
  part_in_cells =
      parts_are_in_cells way.from way.to way.size way.how on.has way.slices now now' calls part on.seens after ending cells on.stands.between well turns (all_stand held' after at) two begun_cut
      (subst (λ (n : ℕ). 0 < n) (sym settled.cell) (cell_some options source destination)) (subst (λ (n : ℕ). 0 < n) (sym settled.zero_cell) (zero_cell_some options source destination)) alike
