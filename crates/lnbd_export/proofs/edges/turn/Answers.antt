use Rattle.std.proofs.Common.{◌≡◌, true, false, sym, ◌∙◌}
use Rattle.lnbd_export.proofs.EdgeLaws.{apart, in_order}
use Rattle.lnbd_export.proofs.edges.turn.Goals as goal

pub put_two-requires-clause-order : goal.put_two-requires-clause-order
put_two-requires-clause-order c =
    let found = in_order c.args.places.now.items c.deref.result.now c.deref-2.result.now c.args.start c.args.end c.below-from.result c.below-until.result c.requires.some c.below-from.ensures c.deref.ensures.value c.below-until.ensures c.deref-2.ensures.value in found.0

pub put_two-requires-clause-within : goal.put_two-requires-clause-within
put_two-requires-clause-within c =
    let found = in_order c.args.places.now.items c.deref.result.now c.deref-2.result.now c.args.start c.args.end c.below-from.result c.below-until.result c.requires.some c.below-from.ensures c.deref.ensures.value c.below-until.ensures c.deref-2.ensures.value in found.1

pub put_one-requires-clause-some : goal.put_one-requires-clause-some
put_one-requires-clause-some c =
    let found = in_order c.args.places.now.items c.deref.result.now c.deref-2.result.now c.args.start c.args.end c.below-from.result c.below-until.result c.requires.some c.below-from.ensures c.deref.ensures.value c.below-until.ensures c.deref-2.ensures.value in
    apart c.below-from.result c.below-until.result c.is_odd.result c.is_odd-2.result c.args.zero found.0 c.is_odd.ensures c.is_odd-2.ensures
    (λ same. let no : true ≡ false = sym c.in-true-false.is-0 ∙ same ∙ c.in-true-false.is-1 in cc)

pub put_one-requires-clause-within : goal.put_one-requires-clause-within
put_one-requires-clause-within c =
    let found = in_order c.args.places.now.items c.deref.result.now c.deref-2.result.now c.args.start c.args.end c.below-from.result c.below-until.result c.requires.some c.below-from.ensures c.deref.ensures.value c.below-until.ensures c.deref-2.ensures.value in found.1

pub put_one-requires-in-false-true-clause-some : goal.put_one-requires-in-false-true-clause-some
put_one-requires-in-false-true-clause-some c =
    let found = in_order c.args.places.now.items c.deref.result.now c.deref-2.result.now c.args.start c.args.end c.below-from.result c.below-until.result c.requires.some c.below-from.ensures c.deref.ensures.value c.below-until.ensures c.deref-2.ensures.value in
    apart c.below-from.result c.below-until.result c.is_odd.result c.is_odd-2.result c.args.zero found.0 c.is_odd.ensures c.is_odd-2.ensures
    (λ same. let no : true ≡ false = sym c.in-false-true.is-1 ∙ sym same ∙ c.in-false-true.is-0 in cc)

pub put_one-requires-in-false-true-clause-within : goal.put_one-requires-in-false-true-clause-within
put_one-requires-in-false-true-clause-within c =
    let found = in_order c.args.places.now.items c.deref.result.now c.deref-2.result.now c.args.start c.args.end c.below-from.result c.below-until.result c.requires.some c.below-from.ensures c.deref.ensures.value c.below-until.ensures c.deref-2.ensures.value in found.1

pub cut-requires-clause-order : goal.cut-requires-clause-order
cut-requires-clause-order c =
    let found = in_order c.args.places.now.items c.deref.result.now c.deref-2.result.now c.args.start c.args.end c.below-from.result c.below-until.result c.requires.some c.below-from.ensures c.deref.ensures.value c.below-until.ensures c.deref-2.ensures.value in found.0

pub cut-requires-clause-within : goal.cut-requires-clause-within
cut-requires-clause-within c =
    let found = in_order c.args.places.now.items c.deref.result.now c.deref-2.result.now c.args.start c.args.end c.below-from.result c.below-until.result c.requires.some c.below-from.ensures c.deref.ensures.value c.below-until.ensures c.deref-2.ensures.value in found.1
