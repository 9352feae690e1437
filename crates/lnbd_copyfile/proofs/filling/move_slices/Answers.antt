use Rattle.std.proofs.Common.{arith, ◌≡◌, ◌+◌, ℕ, refl, subst, ◌∙◌}
use Rattle.lnbd_touched.specs.Both.{Both}
use Rattle.lnbd_touched.proofs.BothLemmas.{both_none}
use Rattle.lnbd_touched.proofs.GrownLemmas.{grew_both, grew_none, rose_none, rose_then}
use Rattle.lnbd_copyfile.specs.Calls.{Breaks, Moves}
use Rattle.lnbd_copyfile.specs.Steps.{Moved}
use Rattle.lnbd_copyfile.proofs.CallLemmas.{breaks_behind, moves_on}
use Rattle.lnbd_copyfile.proofs.CountLemmas.{zero_begins}
use Rattle.lnbd_copyfile.proofs.FillLemmas.{moved_none}
use Rattle.lnbd_copyfile.proofs.ShelfLemmas.{moves_follow, moves_lack}
use Rattle.lnbd_copyfile.proofs.filling.move_slices.Goals as goal

pub slices-init : goal.slices-init
slices-init g c = record {
  same = refl;
  at = omega arith;
  begins = λ more. zero_begins c.args.way.cell;
  few = omega arith;
  low = omega arith;
  all = λ none. refl;
  moved = both_none c.args.way.from c.args.to (Moved c.args.way.cell c.args.way.block c.args.way.size 0 0 0) _ (λ x y. moved_none c.args.way.cell c.args.way.block c.args.way.size 0 x y);
  moves = grew_none _ (Moves c.args.way.cell c.args.way.size c.args.way.from c.args.to) tt;
  later = omega arith;
  given = rose_none _;
  taken = rose_none _;
}

pub slices-preserved : goal.slices-preserved
slices-preserved g c =
    let way = c.args.way in
    let inv = c.slices.invariant in
    let call = c.in-Ok.ensures in
    let at = c.slices.at in
    let part = c.in-Ok.part in
    let here = Moves way.cell way.size way.from c.args.to in
    record {
      same = call.same ∙ inv.same;
      at = call.within;
      begins = call.ends;
      few = let a = inv.few in let b = call.few in omega (arith, a, b);
      low = let a = inv.low in let b = call.low in omega (arith, a, b);
      all = λ none. let a = inv.all none in let b = call.all none in omega (arith, a, b);
      moved = moves_follow way.cell way.block way.from c.args.to way.size 0 at (at + part.length) c.slices.written part.amounts.written _ _ _ (omega arith) (omega arith) inv.moved call.moved;
      moves = grew_both _ _ _ here here here (λ xs ys p q. moves_on way.cell way.size way.from c.args.to xs ys p q) inv.moves call.moves;
      later = let a = inv.later in let b = call.later in omega (arith, a, b);
      given = rose_then c.slices.read part.amounts.read _ _ _ inv.given call.given;
      taken = rose_then c.slices.written part.amounts.written _ _ _ inv.taken call.taken;
    }

pub returns-in-Err-clause-breaks : goal.returns-in-Err-clause-breaks
returns-in-Err-clause-breaks g c =
    let way = c.args.way in
    let why = c.in-Err.why in
    grew_both _ _ _ (Moves way.cell way.size way.from c.args.to) (Breaks way.cell way.size way.from c.args.to why) (Breaks way.cell way.size way.from c.args.to why)
    (λ xs ys p q. breaks_behind way.cell way.size way.from c.args.to why xs ys p q) c.slices.invariant.moves c.in-Err.ensures.breaks

pub returns-in-Err-clause-short : goal.returns-in-Err-clause-short
returns-in-Err-clause-short g c = λ is.
    moves_lack c.args.way.cell c.args.way.block c.args.way.from c.args.to c.args.way.size 0 c.slices.at c.slices.written _ _ _ c.slices.invariant.moved (c.in-Err.ensures.short is)

pub returns-clause-moved : goal.returns-clause-moved
returns-clause-moved g c =
    let way = c.args.way in
    let all : c.slices.at ≡ way.size = let i = c.slices.invariant.at in let t = c.slices-test.false in omega (arith, i, t) in
    subst (λ (k : ℕ). Both way.from c.args.to (Moved way.cell way.block way.size 0 k c.slices.written)
    (g.S.Store.shelf c.args.store.now) (g.S.Store.shelf c.slices.store)) all c.slices.invariant.moved

pub returns-in-Err-clause-failed : goal.returns-in-Err-clause-failed
returns-in-Err-clause-failed g c = λ e. let r = c.in-Err.ensures.failed (cc e) in let l = c.slices.invariant.later in omega (arith, r, l)
