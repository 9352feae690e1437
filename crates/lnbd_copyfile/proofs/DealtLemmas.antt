-- The slices of a copy from a file stay spread over the connections of the export.
use Rattle.std.proofs.Common.{◌≡◌, ◌<◌, ◌-◌, ◌+◌, ◌^◌, ℕ, Bool, true, false, List, [], ◌∷◌, ◌++◌, length, replicate, slice_index, slice_set, refl, ap, sym, subst, ◌∙◌, if◌then◌else◌, length-append}
use Rattle.lnbd_keyed.specs.Keyed.{value_at}
use Rattle.lnbd_plan.specs.declared.grid.Slice.{Slice}
use Rattle.lnbd_poll.specs.Held.{Held}
use Rattle.lnbd_board.specs.declared.ask.Change.{Change}
use Rattle.lnbd_board.specs.declared.how.How.{How}
use Rattle.lnbd_board.specs.declared.next.Next.{Next}
use Rattle.lnbd_board.specs.declared.next.Next.TheVariants as next
use Rattle.lnbd_board.specs.declared.row.Row.{Row}
use Rattle.lnbd_board.specs.declared.ticket.Ticket.{Ticket}
use Rattle.lnbd_board.specs.Board.{AsksOn, EndsRow, IsNext, first_row, risen}
use Rattle.lnbd_board.specs.Bound.{IsFewest}
use Rattle.lnbd_board.specs.Files as board
use Rattle.lnbd_board.specs.Files.{came_with, is_unfit, or_error, rows_with}
use Rattle.lnbd_onesided.specs.Desk.{Completes}
use Rattle.lnbd_conduct.specs.declared.terms.Terms.{Terms}
use Rattle.lnbd_copy.specs.Bound.{on_destination}
use Rattle.lnbd_copy.specs.Dealt.{IsDealt}
use Rattle.lnbd_copy.proofs.BoundLemmas.{bound_append, bound_many, bound_with, bound_within, dealt_none, rows_bound, side_begins, side_ends}
use Rattle.lnbd_store.specs.Shelf.{Shelf}
use Rattle.std.proofs.Common.{Option}
use Rattle.lnbd_copyfile.specs.Binding.{Deals, Spreads}
use Rattle.lnbd_copyfile.specs.FromFileJob.{Seen}
use Rattle.lnbd_copyfile.specs.Loading.{BeginsSlice, Was_asked, Was_read}
use Rattle.lnbd_copyfile.specs.Sending.{BeginsOne}

pub dealt_begins : (limit count : ℕ) (bound : List ℕ) → bound ≡ replicate count 0 → IsDealt limit count bound []
dealt_begins limit count bound is = subst (λ (c : List ℕ). IsDealt limit count c []) (sym is) (dealt_none limit count)

pub deals_none : (limit : ℕ) (bound : List ℕ) (now : board.Seen) → Deals limit bound bound now now
deals_none limit bound now = record { on = λ count dealt. dealt }

pub deals_then : (limit : ℕ) (a b c : List ℕ) (x y z : board.Seen) → Deals limit a b x y → Deals limit b c y z → Deals limit a c x z
deals_then limit a b c x y z first second = record { on = λ count dealt. second.on count (first.on count dealt) }

-- Slices stay bound as they are.
deals_same : (limit : ℕ) (bound : List ℕ) (x y : board.Seen) → on_destination y.rows ≡ on_destination x.rows → Deals limit bound bound x y
deals_same limit bound x y same = record { on = λ count dealt. subst (λ (l : List ℕ). IsDealt limit count bound l) (sym same) dealt }

pub deals_nothing : (limit : ℕ) (how : How) (told : Next) (old new : board.Seen) (bound : List ℕ) → told ≡ next.Nothing → IsNext how told old new → Deals limit bound bound old new
deals_nothing limit how told old new bound is nothing =
    let same = subst (λ (x : Next). IsNext how x old new) is nothing in
    deals_same limit bound old new (ap (λ (s : board.Seen). on_destination s.rows) same.1)

-- One goes on.
pub deals_on : (limit : ℕ) (how : How) (n destination : ℕ) (one : Change) (told : Next) (old mid new : board.Seen) (bound : List ℕ) → told ≡ next.Asks n destination one →
    IsNext how told old mid → new ≡ mid →
    Deals limit bound bound old new
deals_on limit how n destination one told old mid new bound is goes same =
    let on : AsksOn how n destination one old mid = subst (λ (x : Next). IsNext how x old mid) is goes in
    deals_same limit bound old new
    (ap (λ (s : board.Seen). on_destination s.rows) (same ∙ on.now) ∙ bound_with (λ row. row.destination) n on.row (record on.row { stage = on.stage }) old.rows refl on.held)

-- One is over.
pub deals_over : (limit : ℕ) (how : How) (n source destination : ℕ) (told : Next) (old new : board.Seen) (a b : List ℕ) → told ≡ next.Over n source destination → IsNext how told old new →
    (destination < length a → b ≡ slice_set a destination (slice_index a destination - 1)) → Deals limit a b old new
deals_over limit how n source destination told old new a b is ends released = record {
  on = λ count dealt.
      let over : EndsRow how n source destination old new = subst (λ (x : Next). IsNext how x old new) is ends in
      let here : destination < count = bound_within (λ row. row.destination) limit count n destination over.row old.rows a over.writes over.held dealt in
      side_ends (λ row. row.destination) limit count n destination over.row old.rows new.rows a b over.writes over.held (ap (λ (s : board.Seen). s.rows) over.now)
      (released (subst (λ (m : ℕ). destination < m) (sym dealt.many) here)) dealt;
}

-- One begins, and what was read of it came at once, or it asks for a change.

completed_destinations : (n : ℕ) (bytes : List ℕ) (next after : board.Seen) → Completes n bytes next after → on_destination after.rows ≡ on_destination next.rows
completed_destinations n bytes next after c = ap (λ (s : board.Seen). on_destination s.rows) (c.1.1 ∙ c.1.0.1) ∙ go (is_unfit (value_at n next.rows) bytes)
  where
    go : (b : Bool) → on_destination (if b then record next { error = or_error next.error 71 } else record next {
      rows = rows_with (value_at n next.rows) n bytes next.rows;
      came = came_with (value_at n next.rows) n next.came;
    }).rows ≡ on_destination next.rows
    go true = refl
    go false = rows_bound (λ row. row.destination) (λ row stage. refl) n bytes next.rows

module _ (file : ℕ) (slice : Slice) (now now' : board.Seen) (held held' : List (Held Ticket)) (a b : Option Shelf) (given given' : ℕ)
    (begins : BeginsOne file slice now now' held held' a b given given') where
  row_so : BeginsSlice file slice 0 begins.destination now now' held held' a b given given' →
      on_destination now'.rows ≡ on_destination (now.rows ++ (now.begun, first_row slice 0 begins.destination) ∷ [])
  row_so (Was_read loads same) =
      let loaded = loads.on [] in
      completed_destinations now.begun loaded.bytes loaded.next now' loaded.came ∙ ap (λ (s : board.Seen). on_destination s.rows) loaded.begun
  row_so (Was_asked has shelf gave) = ap (λ (s : board.Seen). on_destination s.rows) has.begun.row

  pub one_more : length now'.rows ≡ length now.rows + 1
  one_more =
      let bound : on_destination now'.rows ≡ on_destination now.rows ++ begins.destination ∷ [] =
      row_so begins.begins
      ∙ bound_append (λ row. row.destination) now.rows ((now.begun, first_row slice 0 begins.destination) ∷ []) in
      sym (bound_many (λ row. row.destination) now'.rows) ∙ ap (λ (l : List ℕ). length l) bound ∙ length-append (on_destination now.rows) (begins.destination ∷ [])
      ∙ ap (λ (n : ℕ). n + 1) (bound_many (λ row. row.destination) now.rows)

  pub deals_begun : (limit : ℕ) (counts counts' : List ℕ) → IsFewest counts begins.destination → counts' ≡ slice_set counts begins.destination (risen (slice_index counts begins.destination) 1) →
      limit < 2 ^ 64 →
      length now.rows < limit → Deals limit counts counts' now now'
  deals_begun limit counts counts' fewest counted fits less = record {
    on = λ count dealt.
        subst (λ (l : List ℕ). IsDealt limit count counts' l) (sym (row_so begins.begins))
        (side_begins (λ row. row.destination) limit count now.begun begins.destination (first_row slice 0 begins.destination) now.rows
        (now.rows ++ (now.begun, first_row slice 0 begins.destination) ∷ []) counts counts' refl refl counted fits less fewest dealt);
  }

-- Jobs.

pub spreads_none : (job : Seen) (now : board.Seen) → Spreads job job now now
spreads_none job now = record { on = λ dealt. dealt }

pub spreads_then : (a b c : Seen) (x y z : board.Seen) → Spreads a b x y → Spreads b c y z → Spreads a c x z
spreads_then a b c x y z first second = record { on = λ dealt. second.on (first.on dealt) }

pub spreads_deals : (a b : Seen) (x y : board.Seen) → b.terms ≡ a.terms → Deals a.terms.limit a.bound b.bound x y → Spreads a b x y
spreads_deals a b x y same deals = record {
  on = λ dealt. subst (λ (t : Terms). IsDealt t.limit t.sides.destination b.bound (on_destination y.rows)) (sym same) (deals.on a.terms.sides.destination dealt);
}

pub spreads_same : (a b : Seen) (x y : board.Seen) → b.terms ≡ a.terms → b.bound ≡ a.bound → y.rows ≡ x.rows → Spreads a b x y
spreads_same a b x y terms bound rows = record {
  on = λ dealt. subst (λ (t : Terms). IsDealt t.limit t.sides.destination b.bound (on_destination y.rows)) (sym terms)
      (subst (λ (l : List ℕ). IsDealt a.terms.limit a.terms.sides.destination l (on_destination y.rows)) (sym bound)
      (subst (λ (l : List (ℕ × Row)). IsDealt a.terms.limit a.terms.sides.destination a.bound (on_destination l)) (sym rows) dealt));
}
