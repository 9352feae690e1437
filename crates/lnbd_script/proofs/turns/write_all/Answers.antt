use Rattle.std.proofs.Common.{◌||◌, Bool, refl, sym, ◌∙◌, ap}
use Rattle.lnbd_script.proofs.TurnLemmas.{counts_none, counts_on, writing_ends, writing_none, writing_on}
use Rattle.lnbd_script.proofs.turns.write_all.Goals as goal

pub writing-init : goal.writing-init
writing-init g c = record { writing = λ seen at. writing_none _ _ _ seen at; counts = counts_none _ _ _; same = refl }

pub writing-preserved : goal.writing-preserved
writing-preserved g c = record {
  writing = λ seen at. writing_on _ _ _ _ _ c.args.link c.write-moved.result c.writing.stirred c.either-stirred.result seen (c.writing.invariant.writing seen at) (c.either-stirred.ensures ∙ ap (λ (b : Bool). c.writing.stirred || b) c.is_stirring.ensures) c.write-moved.ensures.told (sym c.is_bytes.ensures ∙ c.if-not-is_bytes.false);
  counts = counts_on _ _ _ _ _ _ _ _ _ c.writing.invariant.counts c.write-moved.ensures.counts;
  same = c.write-moved.ensures.link ∙ c.writing.invariant.same;
}

pub returns-then-not-is_bytes : goal.returns-then-not-is_bytes
returns-then-not-is_bytes g c = record {
  writes = λ seen at. writing_ends _ _ _ _ _ c.args.link c.write-moved.result c.writing.stirred c.either-stirred.result seen (c.writing.invariant.writing seen at) (c.either-stirred.ensures ∙ ap (λ (b : Bool). c.writing.stirred || b) c.is_stirring.ensures) c.write-moved.ensures.told (sym c.is_bytes.ensures ∙ c.if-not-is_bytes.true);
  counts = counts_on _ _ _ _ _ _ _ _ _ c.writing.invariant.counts c.write-moved.ensures.counts;
  link = c.write-moved.ensures.link ∙ c.writing.invariant.same;
}
