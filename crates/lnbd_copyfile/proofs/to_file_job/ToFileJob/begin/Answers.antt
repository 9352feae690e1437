use Rattle.std.proofs.Common.{ℕ, ◌≡◌, ◌+◌, arith, refl, ap, sym, ◌∙◌}
use Rattle.std.proofs.lemmas.Bool.{false≢true}
use Rattle.lnbd_conduct.specs.declared.terms.Terms.{Terms}
use Rattle.lnbd_copy.proofs.LinkLemmas.{same_none, same_then}
use Rattle.lnbd_touched.proofs.GrownLemmas.{grew_both, grew_none}
use Rattle.lnbd_copyfile.specs.OneFile.{BreaksWriting, Writes}
use Rattle.lnbd_copyfile.proofs.OneFileLemmas.{breaks_writing_behind, writes_on}
use Rattle.lnbd_copyfile.proofs.ToFileJobLemmas.{acts_none, acts_then}
use Rattle.lnbd_copyfile.proofs.SpreadLemmas.{spreads_none, spreads_then}
use Rattle.lnbd_copyfile.proofs.to_file_job.ToFileJob.begin.Goals as goal

pub slices-init : goal.slices-init
slices-init g c = record {
  links = same_none c.args.handles.now;
  kept = λ none. refl;
  acts = acts_none c.args.file c.args.self.now c.args.board.now c.args.handles.now _ _;
  how = c.requires.how;
  terms = refl;
  copying = c.requires.copying;
  still = λ none. (refl, refl);
  count = sym c.count-under_way.ensures.count;
  most = λ l. l;
  spread = spreads_none c.args.self.now c.args.board.now;
  writes = grew_none _ (Writes c.args.file) tt;
  later = omega arith;
  given = refl;
  at = refl;
}

pub slices-preserved : goal.slices-preserved
slices-preserved g c =
    let inv = c.slices.invariant in
    let call = c.in-Ok-true.ensures in
    let same : c.slices.self.terms.limit ≡ c.args.self.now.terms.limit = ap (λ (t : Terms). t.limit) inv.terms in
    let limit = c.limit-under_way-end.ensures.limit in
    let fits = c.limit-under_way-end.ensures.fits in
    let count = inv.count in
    let less = c.slices-test.true in
    record {
      links = same_then _ _ _ inv.links c.begin_next.ensures.links;
      kept = λ none. absurd (false≢true (sym none));
      acts = acts_then c.args.file _ _ _ _ _ _ _ _ _ _ _ _ _ _ _ inv.acts call.acts;
      how = call.how ∙ inv.how ∙ sym (ap (λ (t : Terms). t.how) call.terms);
      terms = call.terms ∙ inv.terms;
      copying = call.copying;
      still = λ none. absurd (false≢true (sym none));
      count = call.more c.in-Ok-true.field-0-test ∙ ap (λ (n : ℕ). n + 1) inv.count;
      most = λ l. let more = call.more c.in-Ok-true.field-0-test in omega (arith, more, count, limit, less, same);
      spread = spreads_then c.args.self.now c.slices.self c.begin_next.new.self c.args.board.now c.slices.board c.begin_next.new.board inv.spread
          (call.spread (omega (arith, same, limit, fits)) (omega (arith, same, limit, count, less)));
      writes = grew_both _ _ _ (Writes c.args.file) (Writes c.args.file) (Writes c.args.file) (λ xs ys p q. writes_on c.args.file xs ys p q) inv.writes call.writes;
      later = let a = inv.later in let b = call.later in omega (arith, a, b);
      given = call.given ∙ inv.given;
      at = c.begin_next.ensures.at ∙ inv.at;
    }

pub returns-in-Ok-false-clause-acts : goal.returns-in-Ok-false-clause-acts
returns-in-Ok-false-clause-acts g c = acts_then c.args.file _ _ _ _ _ _ _ _ _ _ _ _ _ _ _ c.slices.invariant.acts c.in-Ok-false.ensures.acts

pub returns-in-Ok-false-clause-writes : goal.returns-in-Ok-false-clause-writes
returns-in-Ok-false-clause-writes g c =
    grew_both _ _ _ (Writes c.args.file) (Writes c.args.file) (Writes c.args.file) (λ xs ys p q. writes_on c.args.file xs ys p q) c.slices.invariant.writes c.in-Ok-false.ensures.writes

pub returns-in-Err-clause-breaks : goal.returns-in-Err-clause-breaks
returns-in-Err-clause-breaks g c =
    grew_both _ _ _ (Writes c.args.file) (BreaksWriting c.args.file c.in-Err.why) (BreaksWriting c.args.file c.in-Err.why)
    (λ calls more m b. breaks_writing_behind c.args.file c.in-Err.why calls more m b) c.slices.invariant.writes c.in-Err.ensures.breaks

pub returns-in-Ok-false-clause-spread : goal.returns-in-Ok-false-clause-spread
returns-in-Ok-false-clause-spread g c =
    let inv = c.slices.invariant in
    let same : c.slices.self.terms.limit ≡ c.args.self.now.terms.limit = ap (λ (t : Terms). t.limit) inv.terms in
    let limit = c.limit-under_way-end.ensures.limit in
    let fits = c.limit-under_way-end.ensures.fits in
    let count = inv.count in
    let less = c.slices-test.true in
    spreads_then c.args.self.now c.slices.self c.begin_next.new.self c.args.board.now c.slices.board c.begin_next.new.board inv.spread
    (c.in-Ok-false.ensures.spread (omega (arith, same, limit, fits)) (omega (arith, same, limit, count, less)))
