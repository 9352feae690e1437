use Rattle.std.proofs.Common.{arith, refl}
use Rattle.lnbd_script.proofs.RoundLemmas.{passing_end, passing_here, passing_none, passing_on, passing_short}
use Rattle.lnbd_script.proofs.TurnLemmas.{counts_none, counts_on}
use Rattle.lnbd_script.proofs.rounds.round.Goals as goal

pub places-init : goal.places-init
places-init g c = record { passing = λ handles at. passing_none _ handles _ _ at; count = refl; counts = counts_none _ _ _; unread = c.requires.unread }

pub places-preserved : goal.places-preserved
places-preserved g c = record {
  passing = λ handles at. passing_on _ _ _ handles _ c.places.places.items _ _ c.places.i c.places.stirred _ _ (c.places.invariant.passing handles at) (omega (arith, c.places-test.true, c.places.invariant.count, c.places.places.ok.0)) c.index_mut-place.ensures.value c.in-Ok.part c.either-stirred.result c.either-stirred.ensures c.in-Ok.ensures.ok;
  count = c.places.invariant.count;
  counts = counts_on _ _ _ _ _ _ _ _ _ c.places.invariant.counts c.take_part.ensures.counts;
  unread =
      let here = passing_here _ _ (g.W.Wires.told c.places.wires) _ _ c.places.places.items _ c.places.first c.places.i c.places.stirred _ c.index_mut-place.result.now (c.places.invariant.passing c.requires.reached.0 c.requires.reached.1)
      (omega (arith, c.places-test.true, c.places.invariant.count, c.places.places.ok.0)) c.index_mut-place.ensures.value in
      c.in-Ok.ensures.unread here.0 here.1;
}

pub returns-in-Err-clause-short : goal.returns-in-Err-clause-short
returns-in-Err-clause-short g c handles at = passing_short _ _ _ handles _ c.places.places.items _ _ c.places.i c.places.stirred _ _ (c.places.invariant.passing handles at) (omega (arith, c.places-test.true, c.places.invariant.count, c.places.places.ok.0)) c.index_mut-place.ensures.value c.in-Err.ensures.short

pub returns-in-Err-clause-counts : goal.returns-in-Err-clause-counts
returns-in-Err-clause-counts g c = counts_on _ _ _ _ _ _ _ _ _ c.places.invariant.counts c.take_part.ensures.counts

pub returns-clause-ok : goal.returns-clause-ok
returns-clause-ok g c handles at = passing_end _ _ handles _ c.places.places.items _ c.places.i c.places.stirred (omega (arith, c.places-test.false, c.places.invariant.count, c.places.places.ok.0)) (c.places.invariant.passing handles at)
