use Rattle.std.proofs.Common.{arith, ◌≡◌, ◌+◌, ◌-◌, [], ℕ, List, false, get_or, take, drop, refl, subst, ◌∙◌}
use Rattle.std.proofs.lemmas.List.{take_all}
use Rattle.lnbd_plan.specs.declared.grid.Slice.{Slice}
use Rattle.lnbd_touched.specs.Touches.{Touches}
use Rattle.lnbd_touched.proofs.GrownLemmas.{grew_both, grew_none, rose_none, rose_then}
use Rattle.lnbd_touched.proofs.TouchLemmas.{touches_none, touches_then}
use Rattle.lnbd_copyfile.specs.declared.fault.Stop.TheVariants as stop
use Rattle.lnbd_copyfile.specs.Calls.{Breaks, Moves}
use Rattle.lnbd_copyfile.specs.Steps.{ArePieces, Fills, data_length}
use Rattle.lnbd_copyfile.proofs.CallLemmas.{breaks_behind, moves_on}
use Rattle.lnbd_copyfile.proofs.FillLemmas.{fills_none, fills_piece}
use Rattle.lnbd_copyfile.proofs.PieceLemmas.{part_few, next_count, next_few, next_fits, next_left, no_data, none_left}
use Rattle.lnbd_copyfile.proofs.writing.put_pieces.Goals as goal

abbrev none : Slice
none = record { start = 0; length = 0; zero = false }

pub pieces-init : goal.pieces-init
pieces-init g c = record {
  at = omega arith;
  written = omega arith;
  left = let e : c.args.offset ≡ c.args.offset + 0 = omega arith in subst (λ (k : ℕ). ArePieces k c.args.bytes.now c.args.pieces.now) e c.requires.pieces;
  count = omega arith;
  fills = touches_none c.args.file (Fills c.args.offset []) _ (λ x. fills_none c.args.offset x);
  moves = λ cell size from few. grew_none _ (Moves cell size from c.args.file) tt;
  later = omega arith;
  given = refl;
  taken = rose_none _;
}

pub returns-in-Err-clause-breaks : goal.returns-in-Err-clause-breaks
returns-in-Err-clause-breaks g c = λ cell size from few.
    let file = c.args.file in
    let part = part_few c.pieces.at _ cell c.args.bytes.now few in
    grew_both _ _ _ (Moves cell size from file) (Breaks cell size from file stop.Failed) (Breaks cell size from file stop.Failed)
    (λ calls more m b. breaks_behind cell size from file stop.Failed calls more m b) (c.pieces.invariant.moves cell size from few) (c.in-Err.ensures.breaks cell size from part)

pub overflow_add-to : goal.overflow_add-to
overflow_add-to g c =
    let fits = next_fits (c.args.offset + c.pieces.at) c.pieces.at c.args.bytes.now c.args.pieces.now c.pieces.piece-index none c.pieces-test.true c.pieces.invariant.at c.pieces.invariant.left in
    let room = c.requires.fits in
    omega (arith, fits, room)

pub pieces-preserved : goal.pieces-preserved
pieces-preserved g c =
    let file = c.args.file in
    let offset = c.args.offset in
    let bytes = c.args.bytes.now in
    let pieces = c.args.pieces.now in
    let at = c.pieces.at in
    let i = c.pieces.piece-index in
    let inv = c.pieces.invariant in
    let call = c.in-Ok.ensures in
    let n = (get_or pieces i none).length in
    let part = take (at + n - at) (drop at bytes) in
    let below = c.pieces-test.true in
    let fits = next_fits (offset + at) at bytes pieces i none below inv.at inv.left in
    let few = next_few at c.in-Ok.n bytes pieces i none fits call.count in
    record {
      at = fits;
      written = let w = inv.written in omega (arith, w, few);
      left = next_left offset at bytes pieces i none below inv.left;
      count = next_count at c.pieces.written c.in-Ok.n (data_length pieces) bytes pieces i none below fits inv.count call.count;
      fills =
          touches_then file (Fills offset (take at bytes)) (Fills (offset + at) part) (Fills offset (take (at + n) bytes)) _ _ _
          (λ x y z f h. fills_piece offset at n bytes x y z inv.at f h) inv.fills call.fills;
      moves = λ cell size from few_.
          grew_both _ _ _ (Moves cell size from file) (Moves cell size from file) (Moves cell size from file) (λ xs ys p q. moves_on cell size from file xs ys p q) (inv.moves cell size from few_)
          (call.moves cell size from (part_few at (at + n - at) cell bytes few_));
      later = let a = inv.later in let b = call.later in omega (arith, a, b);
      given = call.given ∙ inv.given;
      taken = rose_then c.pieces.written c.in-Ok.n _ _ _ inv.taken call.taken;
    }

pub returns-clause-fills : goal.returns-clause-fills
returns-clause-fills g c =
    let bytes = c.args.bytes.now in
    let at = c.pieces.at in
    let all : take at bytes ≡ bytes = take_all at bytes (none_left (c.args.offset + at) at c.pieces.piece-index bytes c.args.pieces.now c.pieces-test.false c.pieces.invariant.left) in
    subst (λ (xs : List ℕ). Touches c.args.file (Fills c.args.offset xs) (g.S.Store.shelf c.args.store.now) (g.S.Store.shelf c.pieces.store)) all c.pieces.invariant.fills

pub returns-clause-count : goal.returns-clause-count
returns-clause-count g c = no_data c.pieces.piece-index c.pieces.written (data_length c.args.pieces.now) c.args.pieces.now c.pieces-test.false c.pieces.invariant.count

pub returns-in-Err-clause-failed : goal.returns-in-Err-clause-failed
returns-in-Err-clause-failed g c = let r = c.in-Err.ensures.failed in let l = c.pieces.invariant.later in omega (arith, r, l)
