use Rattle.std.proofs.Common.{◌++◌, ◌∙◌, ap, arith, length}
use Rattle.std.specs.Prelude.{option_to_list}
use Rattle.std.specs.Vec.Iter.{into_iter_items}
use Rattle.lnbd_poll.proofs.HeldLemmas.{none_left}
use Rattle.lnbd_script.proofs.PlayLemmas.{ending_done, ending_none, ending_on}
use Rattle.lnbd_script.proofs.playing.end_all.Goals as goal

pub places-init : goal.places-init
places-init g c =
    let long = ap length c.into_iter-left.ensures.rest in
    record {
      ending = λ handles at. ending_none _ handles c.args.places.items _ c.into_iter-left.ensures.rest at;
      lens = omega (arith, long, c.into_iter-left.ensures.len, c.args.places.ok.0);
      opened_small = omega (arith, c.requires, c.into_iter-left.ensures.len);
      freed_small = omega (arith, c.requires, c.into_iter-left.ensures.len);
      faults_later = omega arith;
      idles_later = omega arith;
    }

pub places-preserved : goal.places-preserved
places-preserved g c =
    let first = c.next.ensures.items ∙ ap (λ o. option_to_list o ++ into_iter_items c.next.new.self) c.in-Some.is in
    let one = ap (λ o. length (option_to_list o)) c.in-Some.is in
    let long = ap length first in
    record {
      ending = λ handles at. ending_on _ _ _ handles (into_iter_items c.places.left) (into_iter_items c.next.new.self) c.in-Some.place c.places.sum _ c.end-over.result (c.places.invariant.ending handles at) first c.with_count-opened.ensures.value c.with_count-freed.ensures.value c.end-over.ensures.ends;
      lens = omega (arith, one, long, c.next.ensures.len, c.places.invariant.lens);
      opened_small = omega (arith, one, c.next.ensures.len, c.with_count-opened.ensures.small, c.places.invariant.opened_small);
      freed_small = omega (arith, one, c.next.ensures.len, c.with_count-freed.ensures.small, c.places.invariant.freed_small);
      faults_later = omega (arith, c.places.invariant.faults_later, c.end-over.ensures.faults_later);
      idles_later = omega (arith, c.places.invariant.idles_later, c.end-over.ensures.idles_later);
    }

pub returns-clause-ends : goal.returns-clause-ends
returns-clause-ends g c handles at = ending_done _ _ handles (into_iter_items c.places.left) c.places.sum (c.places.invariant.ending handles at) (omega (arith, c.places.invariant.lens, none_left _ c.next.result c.in_default.is c.next.ensures.variant))
