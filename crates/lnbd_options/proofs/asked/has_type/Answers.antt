use Rattle.std.proofs.Common.{sym, ◌∙◌}
use Rattle.lnbd_options.proofs.AskedLemmas.{types_start, types_other, types_found, types_end}
use Rattle.lnbd_options.proofs.asked.has_type.Goals as goal

pub loop-index-init : goal.loop-index-init
loop-index-init c = types_start c.args.count c.args.wanted c.args.types.now

pub loop-index-preserved : goal.loop-index-preserved
loop-index-preserved c = sym (types_other c.args.count c.loop-index.index c.args.wanted c.args.types.now c.loop-index-test.true (λ e. c.if-found-wanted.false (c.u16_at-found.ensures ∙ e))) ∙ c.loop-index.invariant

pub returns-then-found-wanted : goal.returns-then-found-wanted
returns-then-found-wanted c = sym (types_found c.args.count c.loop-index.index c.args.wanted c.args.types.now c.loop-index-test.true (sym c.u16_at-found.ensures ∙ c.if-found-wanted.true)) ∙ c.loop-index.invariant

pub returns : goal.returns
returns c = sym (types_end c.args.count c.loop-index.index c.args.wanted c.args.types.now c.loop-index-test.false) ∙ c.loop-index.invariant
