use Rattle.std.proofs.Common.{refl, sym, ◌∙◌, ◌≡◌, true, get_or, rules, arith, false}
use Rattle.std.proofs.lemmas.Grind.{common_steps}
use Rattle.std.proofs.lemmas.Bool.{false≢true}
use Rattle.std.proofs.Math.ListN.{drop_of_length-le}
use Rattle.lnbd_model.specs.declared.export.Extent.{Extent}
use Rattle.lnbd_records.specs.Numbers.{has_bit}
use Rattle.lnbd_copy.proofs.SparedLemmas.{whole_begins, whole_held, whole_on}
use Rattle.lnbd_copy.proofs.ToldLemmas.{told_before}
use Rattle.lnbd_copy.proofs.WindowLemmas.{hold_on, hold_passes, next_any, hold_begins, walk_begins}
use Rattle.lnbd_copy.proofs.windows.hold_zeroes.Goals.{then-extent-ne0+in_ok-hold_blocks, else-extent-ne0}
use Rattle.lnbd_copy.proofs.windows.hold_zeroes.Goals as goal

pub extents-init : goal.extents-init
extents-init c = (
  hold_begins c.args.told.now c.args.zero.now c.args.zero.now c.args.from c.args.most refl,
  whole_begins c.args.told.now c.args.zero.now c.args.from c.args.grain c.args.most c.requires.grain c.requires.joined (walk_begins c.args.told.now c.args.most),
  λ p e. e,
)

pub extents-preserved : goal.extents-preserved
extents-preserved c =
    let d : Extent = record { length = 0; flags = 0 } in
    let item : Extent = get_or c.args.told.now c.extents.extent-index d in
    let next = next_any c.args.told.now c.extents.extent-index d c.extents-test.true in
    elim c.if-extent-ne0.branch [
      | then-extent-ne0+in_ok-hold_blocks w ↦
          let flag : has_bit 2 item.flags ≡ true = first_of (assumption (w.if-extent-ne0.true), grind (arith, common_steps, w.if-extent-ne0.true), search rules) in
          rw w.zero-is (
            hold_on c.args.told.now c.args.zero.now c.extents.zero w.hold_blocks.new.zero c.args.from c.extents.extent-index c.extents.reached c.args.most c.min-length.result item c.extents.invariant.0 next c.min-length.ensures flag w.in_ok-hold_blocks.ensures.held,
            whole_on c.args.told.now c.extents.zero w.hold_blocks.new.zero c.args.from c.args.grain c.extents.extent-index c.extents.reached c.args.most c.min-length.result item c.requires.grain c.requires.one c.extents.invariant.1 next c.min-length.ensures
                w.in_ok-hold_blocks.ensures.kept (λ f. w.in_ok-hold_blocks.ensures.whole),
            λ p e. w.in_ok-hold_blocks.ensures.kept p (c.extents.invariant.2 p e),
          )
      | else-extent-ne0 w ↦
          let none : has_bit 2 item.flags ≡ false = first_of (assumption (w.if-extent-ne0.false), grind (arith, common_steps, w.if-extent-ne0.false), search rules) in
          rw w.zero-is (
            hold_passes c.args.told.now c.args.zero.now c.extents.zero c.args.from c.extents.extent-index c.extents.reached c.args.most c.min-length.result item c.extents.invariant.0 next c.min-length.ensures,
            whole_on c.args.told.now c.extents.zero c.extents.zero c.args.from c.args.grain c.extents.extent-index c.extents.reached c.args.most c.min-length.result item c.requires.grain c.requires.one c.extents.invariant.1 next c.min-length.ensures
                (λ p e. e) (λ f p inside. absurd (false≢true (sym none ∙ f))),
            c.extents.invariant.2,
          )
    ]

pub returns-clause-whole : goal.returns-clause-whole
returns-clause-whole c =
    whole_held c.args.told.now c.extents.zero c.args.from c.args.grain c.extents.extent-index c.extents.reached c.args.most c.requires.grain c.extents.invariant.1 (drop_of_length-le c.args.told.now c.extents-test.false)

pub returns-clause-far : goal.returns-clause-far
returns-clause-far c =
    told_before c.args.told.now c.extents.extent-index c.extents.reached c.args.most c.extents.invariant.0.walks (drop_of_length-le c.args.told.now c.extents-test.false)

pub returns-clause-near : goal.returns-clause-near
returns-clause-near c = c.extents.invariant.0.walks.all
