-- The steps of a copy to a file leave its slices that are begun and not over spread over the export's connections.
use Rattle.std.proofs.Common.{◌≡◌, ℕ, ◌+◌, ◌-◌, ◌^◌, ◌<◌, List, [], ◌∷◌, ◌++◌, length}
use Rattle.std.proofs.Common.{length-append, replicate, slice_index, slice_set, Option, ap, sym, subst, ◌∙◌, arith}
use Rattle.lnbd_plan.specs.declared.grid.Slice.{Slice}
use Rattle.lnbd_board.specs.declared.ask.Ask.TheVariants as ask
use Rattle.lnbd_board.specs.declared.how.How.{How}
use Rattle.lnbd_board.specs.declared.row.Row.{Row}
use Rattle.lnbd_board.specs.Board.{first_row, risen}
use Rattle.lnbd_board.specs.Bound.{IsFewest}
use Rattle.lnbd_board.specs.Files as board
use Rattle.lnbd_conduct.specs.declared.terms.Terms.{Terms}
use Rattle.lnbd_copy.specs.Bound.{on_source}
use Rattle.lnbd_copy.specs.Dealt.{IsDealt}
use Rattle.lnbd_copy.proofs.BoundLemmas.{bound_append, bound_many, bound_within, dealt_more, dealt_none, side_ends}
use Rattle.lnbd_store.specs.Shelf.{Shelf}
use Rattle.lnbd_copyfile.specs.declared.desk.First.{First}
use Rattle.lnbd_copyfile.specs.declared.desk.First.TheVariants as first
use Rattle.lnbd_copyfile.specs.Jobs.{Seen}
use Rattle.lnbd_copyfile.specs.Making.{HasBegun, HasEnded, IsBegun}
use Rattle.lnbd_copyfile.specs.ToFileJob.{BindsOne, Spreads}
use Rattle.lnbd_copyfile.proofs.WentLemmas.{completed_sources}
use Rattle.lnbd_board.specs.declared.ask.Ask.{Ask}
use Rattle.lnbd_board.specs.Asks.{change_of}

pub dealt_begins : (limit count : ℕ) (bound : List ℕ) → bound ≡ replicate count 0 → IsDealt limit count bound []
dealt_begins limit count bound is = subst (λ (c : List ℕ). IsDealt limit count c []) (sym is) (dealt_none limit count)

pub spreads_none : (job : Seen) (now : board.Seen) → Spreads job job now now
spreads_none job now = record { on = λ dealt. dealt }

pub spreads_then : (a b c : Seen) (x y z : board.Seen) → Spreads a b x y → Spreads b c y z → Spreads a c x z
spreads_then a b c x y z first second = record { on = λ dealt. second.on (first.on dealt) }

-- Slices stay bound as they are.
pub spreads_same : (a b : Seen) (x y : board.Seen) → b.terms ≡ a.terms → b.bound ≡ a.bound → on_source y.rows ≡ on_source x.rows → Spreads a b x y
spreads_same a b x y terms bound sources = record {
  on = λ dealt. subst (λ (t : Terms). IsDealt t.limit t.sides.source b.bound (on_source y.rows)) (sym terms)
      (subst (λ (l : List ℕ). IsDealt a.terms.limit a.terms.sides.source l (on_source y.rows)) (sym bound)
      (subst (λ (l : List ℕ). IsDealt a.terms.limit a.terms.sides.source a.bound l) (sym sources) dealt));
}

-- One is over.
pub spreads_over : (a b : Seen) (how : How) (source : ℕ) (x y : board.Seen) → b.terms ≡ a.terms → (source < a.terms.sides.source → b.bound ≡ slice_set a.bound source (slice_index a.bound source - 1))
    → HasEnded how source x y → Spreads a b x y
spreads_over a b how source x y terms released ended = record {
  on = λ dealt.
      let on = λ (row : Row). row.source in
      let before = ended.before in
      let ends = ended.ends.ends in
      let was : IsDealt a.terms.limit a.terms.sides.source a.bound (on_source before.rows) = subst (λ (l : List ℕ). IsDealt a.terms.limit a.terms.sides.source a.bound l) (sym ended.same) dealt in
      let here : source < a.terms.sides.source = bound_within on a.terms.limit a.terms.sides.source ended.ends.n source ends.row before.rows a.bound ends.reads ends.held was in
      subst (λ (t : Terms). IsDealt t.limit t.sides.source b.bound (on_source y.rows)) (sym terms)
      (side_ends on a.terms.limit a.terms.sides.source ended.ends.n source ends.row before.rows y.rows a.bound b.bound ends.reads ends.held (ap (λ (s : board.Seen). s.rows) ends.now)
      (released here) was);
}

-- One begins.
pub spreads_begun : (a b : Seen) (x y : board.Seen) → b.terms ≡ a.terms → BindsOne a.bound b.bound x.rows y.rows → a.terms.limit < 2 ^ 64 → length x.rows < a.terms.limit → Spreads a b x y
spreads_begun a b x y terms binds fits less = record {
  on = λ dealt.
      let many = bound_many (λ row. row.source) x.rows in
      subst (λ (t : Terms). IsDealt t.limit t.sides.source b.bound (on_source y.rows)) (sym terms)
      (subst (λ (l : List ℕ). IsDealt a.terms.limit a.terms.sides.source b.bound l) (sym binds.bound)
      (subst (λ (l : List ℕ). IsDealt a.terms.limit a.terms.sides.source l (on_source x.rows ++ binds.source ∷ [])) (sym binds.counted)
      (dealt_more a.terms.limit a.terms.sides.source a.bound (on_source x.rows) binds.source fits (omega (arith, many, less)) binds.fewest dealt)));
}

begun_sources : (slice : Slice) (source : ℕ) (one : Ask) (now mid : board.Seen) → IsBegun slice source 0 one now mid → on_source mid.rows ≡ on_source now.rows ++ source ∷ []
begun_sources slice source one now mid begun = ap (λ (s : board.Seen). on_source s.rows) begun.row ∙ bound_append (λ row. row.source) now.rows ((now.begun, first_row slice source 0) ∷ [])

-- whatever it begins with
first_sources : (one : First) (file : ℕ) (slice : Slice) (source : ℕ) (now now' : board.Seen) (old new : Option Shelf) (taken taken' : ℕ)
    → HasBegun one file slice source 0 now now' old new taken taken'
    → on_source now'.rows ≡ on_source now.rows ++ source ∷ []
first_sources (first.Reads offset buf) file slice source now now' old new taken taken' begun = begun_sources slice source (ask.Read offset buf) now now' begun.0
first_sources first.Made file slice source now now' old new taken taken' begun =
    let made = begun [] in
    completed_sources now.begun (change_of made.one).payload made.mid now' made.came ∙ begun_sources slice source (ask.Change made.one) now made.mid made.begun

pub binds_one : (one : First) (file : ℕ) (slice : Slice) (source : ℕ) (counts counts' : List ℕ) (now mid now' : board.Seen) (old new : Option Shelf) (taken taken' : ℕ)
    → HasBegun one file slice source 0 now mid old new taken taken' → IsFewest counts source → counts' ≡ slice_set counts source (risen (slice_index counts source) 1) → now' ≡ mid
    → BindsOne counts counts' now.rows now'.rows
binds_one one file slice source counts counts' now mid now' old new taken taken' begun fewest counted same = record {
  source = source;
  fewest = fewest;
  counted = counted;
  bound = ap (λ (s : board.Seen). on_source s.rows) same ∙ first_sources one file slice source now mid old new taken taken' begun;
}

pub one_more : (counts counts' : List ℕ) (rows rows' : List (ℕ × Row)) → BindsOne counts counts' rows rows' → length rows' ≡ length rows + 1
one_more counts counts' rows rows' binds =
    let sum : length (on_source rows') ≡ length (on_source rows) + 1 = ap (λ (l : List ℕ). length l) binds.bound ∙ length-append (on_source rows) (binds.source ∷ []) in
    sym (bound_many (λ row. row.source) rows') ∙ sum ∙ ap (λ (n : ℕ). n + 1) (bound_many (λ row. row.source) rows)
