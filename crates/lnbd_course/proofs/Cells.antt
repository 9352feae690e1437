-- What a copy asks is in cells: its slices are cut at their multiples, and each request lies in its slice.
use Rattle.std.proofs.Common.{◌≡◌, ℕ, zero, suc, ◌+◌, ◌-◌, ◌%◌, ◌<◌, ◌==◌, ◌⊎◌, ◌||◌, inl, inr, Bool, true, false, not, List, [], ◌∷◌, ◌++◌, cond, length, refl, ap, sym, subst, ◌∙◌, arith, if◌then◌else◌}
use Rattle.std.proofs.Math.Nat.{mod-lt}
use Rattle.std.proofs.lemmas.Bool.{cases_lt, false≢true}
use Rattle.lnbd_model.specs.declared.kind.Kind.{Kind}
use Rattle.lnbd_model.specs.declared.kind.Kind.TheVariants.{BlockStatus, Flush, Read, Write, Zero}
use Rattle.lnbd_history.specs.Commands.{Command}
use Rattle.lnbd_asked.specs.Honest.{has}
use Rattle.lnbd_asked.specs.Link.{Nobody}
use Rattle.lnbd_asked.specs.Transcript.{dealt_with}
use Rattle.lnbd_plan.specs.declared.cells.Cells.{Cells}
use Rattle.lnbd_plan.specs.declared.grid.Slice.{Slice}
use Rattle.lnbd_plan.specs.Laws.{AreWhole, IsWhole, Window, windows_slices}
use Rattle.lnbd_plan.specs.Plans.{copied, is_cut, is_multiple, window_slices}
use Rattle.lnbd_plan.specs.Slices.{slices_of}
use Rattle.lnbd_plan.proofs.CutLaws.{kind_cut}
use Rattle.lnbd_plan.proofs.GridLaws.{end_begins}
use Rattle.lnbd_plan.proofs.LongestLaws.{longest}
use Rattle.lnbd_board.specs.declared.how.How.{How}
use Rattle.lnbd_board.specs.declared.ticket.Ticket.{Ticket}
use Rattle.lnbd_board.specs.declared.ticket.Ticket.TheVariants as ticket
use Rattle.lnbd_board.specs.Requests.{Each, Request}
use Rattle.lnbd_board.specs.Rows.{AsksOfDestination, AsksOfSource, lies_in, slice_at}
use Rattle.lnbd_board.proofs.Lists.{Each-append, in_each}
use Rattle.lnbd_board.proofs.Spelling.{within_at, within_true}
use Rattle.lnbd_course.specs.Cells.{IsCut, IsInCell, PartsAreInCells}
use Rattle.lnbd_course.proofs.Once.{each_asked}
use Rattle.lnbd_course.proofs.Parts.{destination_listed, source_listed}

-- What lies in a slice is cut no more than it.
module _ (cell : ℕ) (s : Slice) (command : Command Nobody) (some : 0 < cell) (cuts : (p : ℕ) → s.start < p → p < s.start + s.length → is_multiple cell p ≡ false) (inside : (p : ℕ) → has command p ≡ true → lies_in s p ≡ true) where
  uncut : (p : ℕ) → command.offset < p → p < command.offset + command.length → is_multiple cell p ≡ false
  uncut p low high =
      let first = within_true s.start s.length command.offset (inside command.offset (within_at command.offset command.length command.offset (omega arith) (omega (arith, low, high)))) in
      let here = within_true s.start s.length p (inside p (within_at command.offset command.length p (omega (arith, low)) high)) in
      cuts p (omega (arith, first.0, low)) here.1

  is_zero : (n : ℕ) → n ≡ 0 → (n == 0) ≡ true
  is_zero n e = ap (λ (m : ℕ). m == 0) e

  not_more : cell < command.length → ⊥
  not_more more =
      let small : command.offset % cell < cell = mod-lt command.offset some in
      let end : ℕ = command.offset + (cell - command.offset % cell) in
      let cut : is_multiple cell end ≡ true = is_zero (end % cell) (end_begins cell command.offset some) in
      false≢true (sym (uncut end (omega (arith, small)) (omega (arith, more))) ∙ cut)

  pub in_cell : IsInCell cell command
  in_cell = record {
    few = elim (cases_lt cell command.length) [ inl more ↦ absurd (not_more more) | inr fits ↦ fits ];
    uncut = uncut;
  }

-- The slice of a number is one of them.
each_slice : (P : Slice → Type 0) (slices : List Slice) → Each P slices → (n : ℕ) → n < length slices → P (slice_at slices n)
each_slice P [] each n l = absurd (omega (arith, l))
each_slice P (s ∷ ss) each zero l = each.0
each_slice P (s ∷ ss) each (suc n) l = each_slice P ss each.1 n (omega (arith, l))

-- Kinds are no others.

no_read : (kind : Kind) → kind ≡ BlockStatus → kind ≡ Read → ⊥
no_read kind one other = let e = sym one ∙ other in absurd (cc e)

flush_writes : (kind : Kind) → kind ≡ Flush → kind ≡ Write → ⊥
flush_writes kind one other = let e = sym one ∙ other in absurd (cc e)

flush_zeroes : (kind : Kind) → kind ≡ Flush → kind ≡ Zero → ⊥
flush_zeroes kind one other = let e = sym one ∙ other in absurd (cc e)

zero_writes : (kind : Kind) → kind ≡ Zero → kind ≡ Write → ⊥
zero_writes kind one other = let e = sym one ∙ other in absurd (cc e)

-- zeros are written only where WRITE_ZEROES isn't taken
writes_zeros : (takes : Bool) (kind : Kind) → kind ≡ (if takes then Zero else Write) → kind ≡ Write → takes ≡ false
writes_zeros true kind is writes = absurd (zero_writes kind is writes)
writes_zeros false kind is writes = refl

module _ (cells : Cells) (slices : List Slice) (cut : Each (IsCut cells) slices) (some : 0 < cells.cell) (some' : 0 < cells.zero_cell) where
  -- a request for the slice of a number, by whether that was told as zero
  in_data : (n : ℕ) (command : Command Nobody) → n < length slices → ((p : ℕ) → has command p ≡ true → lies_in (slice_at slices n) p ≡ true) → (slice_at slices n).zero ≡ false → IsInCell cells.cell command
  in_data n command begun inside data_ =
      in_cell cells.cell (slice_at slices n) command some
      (λ p low high. sym (ap (λ (z : Bool). is_multiple (if z then cells.zero_cell else cells.cell) p) data_) ∙ each_slice (IsCut cells) slices cut n begun p low high) inside

  in_zeros : (n : ℕ) (command : Command Nobody) → n < length slices → ((p : ℕ) → has command p ≡ true → lies_in (slice_at slices n) p ≡ true) → (slice_at slices n).zero ≡ true → IsInCell cells.zero_cell command
  in_zeros n command begun inside told =
      in_cell cells.zero_cell (slice_at slices n) command some'
      (λ p low high. sym (ap (λ (z : Bool). is_multiple (if z then cells.zero_cell else cells.cell) p) told) ∙ each_slice (IsCut cells) slices cut n begun p low high) inside

  look_in : (by : Ticket) (command : Command Nobody) → AsksOfSource slices by command → command.kind ≡ Read → IsInCell cells.cell command
  look_in (ticket.Slice n) command asks reads = in_data n command asks.1.begun asks.1.inside asks.3
  look_in ticket.Extents command asks reads = absurd (no_read command.kind asks.0 reads)
  look_in ticket.Flush command asks reads = absurd asks

  module _ (how : How) (alike : how.zeroes ≡ false → cells.zero_cell ≡ cells.cell) where
    write_in : (by : Ticket) (command : Command Nobody) → AsksOfDestination how slices by command → command.kind ≡ Write → IsInCell cells.cell command
    write_in (ticket.Slice n) command asks writes = go (slice_at slices n).zero refl
      where
        go : (z : Bool) → (slice_at slices n).zero ≡ z → IsInCell cells.cell command
        go false is = in_data n command asks.1.begun asks.1.inside is
        go true is = subst (λ (cell : ℕ). IsInCell cell command) (alike (writes_zeros how.zeroes command.kind (asks.3 is) writes)) (in_zeros n command asks.1.begun asks.1.inside is)
    write_in ticket.Extents command asks writes = absurd asks
    write_in ticket.Flush command asks writes = absurd (flush_writes command.kind asks.0 writes)

    zero_in : (by : Ticket) (command : Command Nobody) → AsksOfDestination how slices by command → command.kind ≡ Zero → IsInCell cells.cell command ⊎ IsInCell cells.zero_cell command
    zero_in (ticket.Slice n) command asks zeroes = go (slice_at slices n).zero refl
      where
        go : (z : Bool) → (slice_at slices n).zero ≡ z → IsInCell cells.cell command ⊎ IsInCell cells.zero_cell command
        go false is = inl (in_data n command asks.1.begun asks.1.inside is)
        go true is = inr (in_zeros n command asks.1.begun asks.1.inside is)
    zero_in ticket.Extents command asks zeroes = absurd asks
    zero_in ticket.Flush command asks zeroes = absurd (flush_zeroes command.kind asks.0 zeroes)

pub parts_are_in_cells : PartsAreInCells
parts_are_in_cells from to size how has slices now now' calls part before after ending cells b well turns stands two cut some some' alike =
    let stood = b.course.stood.stands well in
    let listed = source_listed from to size how has slices now now' calls part before after ending b turns stands two in
    let listed' = destination_listed from to size how has slices now now' calls part before after ending b turns stands two in
    record {
      reads = each_asked (λ (c : Command Nobody). c.kind ≡ Read → IsInCell cells.cell c) b.course.stood.source (dealt_with from (calls ++ part)) listed
          (λ r there. look_in cells slices cut some some' r.ticket r.said.command (in_each (λ (x : Request). AsksOfSource slices x.ticket x.said.command) r b.course.stood.source there stood.reads));
      writes = each_asked (λ (c : Command Nobody). c.kind ≡ Write → IsInCell cells.cell c) b.course.stood.destination (dealt_with to (calls ++ part)) listed'
          (λ r there. write_in cells slices cut some some' how alike r.ticket r.said.command (in_each (λ (x : Request). AsksOfDestination how slices x.ticket x.said.command) r b.course.stood.destination there stood.changes));
      zeroes = each_asked (λ (c : Command Nobody). c.kind ≡ Zero → IsInCell cells.cell c ⊎ IsInCell cells.zero_cell c) b.course.stood.destination (dealt_with to (calls ++ part)) listed'
          (λ r there. zero_in cells slices cut some some' how alike r.ticket r.said.command (in_each (λ (x : Request). AsksOfDestination how slices x.ticket x.said.command) r b.course.stood.destination there stood.changes));
    }

-- Planned slices are cut so.

whole_cut : (cells : Cells) (told : ℕ → Bool) (slices : List Slice) → AreWhole told (is_cut cells told) slices → Each (IsCut cells) slices
whole_cut cells told [] whole = tt
whole_cut cells told (s ∷ ss) whole = (one whole.0, whole_cut cells told ss whole.1)
  where
    one : IsWhole told (is_cut cells told) s → IsCut cells s
    one w p low high = sym (kind_cut cells told s.zero p (w.alike p (omega (arith, low)) high)) ∙ w.uncut p low high

fewer_cut : (cells : Cells) (zeros : Bool) (slices : List Slice) → Each (IsCut cells) slices → Each (IsCut cells) (copied zeros slices)
fewer_cut cells zeros [] each = tt
fewer_cut cells zeros (s ∷ ss) each =
    let more = fewer_cut cells zeros ss each.1 in
    elim (zeros || not s.zero) as (λ b. Each (IsCut cells) (cond b (s ∷ copied zeros ss) (copied zeros ss))) [ true ↦ (each.0, more) | false ↦ more ]

pub planned_are_cut : (cells : Cells) (start : ℕ) (windows : List Window) → Each (IsCut cells) (windows_slices cells start windows)
planned_are_cut cells start [] = tt
planned_are_cut cells start (w ∷ ws) =
    Each-append (IsCut cells) (window_slices cells w.told start w.count) (windows_slices cells (start + w.count) ws)
    (fewer_cut cells cells.zeros (slices_of w.told (is_cut cells w.told) start w.count) (whole_cut cells w.told (slices_of w.told (is_cut cells w.told) start w.count) (longest w.told (is_cut cells w.told) start w.count).whole))
    (planned_are_cut cells (start + w.count) ws)
