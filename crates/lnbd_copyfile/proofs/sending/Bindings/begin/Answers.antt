use Rattle.std.proofs.Common.{ℕ, ◌+◌, refl, ap, sym, ◌∙◌, arith}
use Rattle.std.proofs.lemmas.Bool.{false≢true}
use Rattle.lnbd_touched.proofs.GrownLemmas.{grew_both, grew_none}
use Rattle.lnbd_copyfile.specs.OneFile.{BreaksReading, Reads}
use Rattle.lnbd_copyfile.proofs.DealtLemmas.{deals_none, deals_then}
use Rattle.lnbd_copyfile.proofs.OneFileLemmas.{breaks_reading_behind, reads_on}
use Rattle.lnbd_copy.proofs.LinkLemmas.{same_none, same_then}
use Rattle.lnbd_copyfile.proofs.SendingLemmas.{sends_none, sends_short, sends_then, zeros_stay}
use Rattle.lnbd_copyfile.proofs.sending.Bindings.begin.Goals as goal

pub slices-init : goal.slices-init
slices-init g c = record {
  zeros = c.requires.zeros;
  windows = refl;
  links = same_none c.args.handles.now;
  kept = λ none. refl;
  begins = sends_none c.args.source.file c.args.windows.now c.args.board.now c.args.handles.now _ _;
  deals = deals_none c.args.limit c.args.self.now c.args.board.now;
  most = λ l. l;
  count = sym c.count-under_way.ensures.count;
  reads = grew_none _ (Reads c.args.source.file) tt;
  later = omega arith;
  taken = refl;
}

pub slices-preserved : goal.slices-preserved
slices-preserved g c =
    let inv = c.slices.invariant in
    let next = c.in-Ok-true.ensures in
    let all = sends_then c.args.source.file c.args.windows.now c.slices.windows c.begin_next.new.windows c.args.board.now c.slices.board c.begin_next.new.board
    c.args.handles.now c.slices.handles c.begin_next.new.handles _ _ _ _ _ _ inv.begins next.begins in
    record {
      zeros = zeros_stay c.args.source.file c.args.windows.now c.begin_next.new.windows c.args.board.now c.begin_next.new.board
          c.args.handles.now c.begin_next.new.handles _ _ _ _ c.requires.zeros all;
      windows = all.others;
      links = same_then _ _ _ inv.links c.begin_next.ensures.links;
      kept = λ none. absurd (false≢true (sym none));
      begins = all;
      deals = deals_then c.args.limit _ _ _ _ _ _ inv.deals
          (next.deals c.args.limit c.ranges.limit.fits (let count = inv.count in let less = c.slices-test.true in omega (arith, count, less)));
      most = λ l. let more = next.more c.in-Ok-true.field-0-test in let count = inv.count in let less = c.slices-test.true in omega (arith, more, count, less);
      count = next.more c.in-Ok-true.field-0-test ∙ ap (λ (n : ℕ). n + 1) inv.count;
      reads = grew_both _ _ _ (Reads c.args.source.file) (Reads c.args.source.file) (Reads c.args.source.file) (λ xs ys p q. reads_on c.args.source.file xs ys p q) inv.reads next.reads;
      later = (let f = inv.later in let h = c.begin_next.ensures.later in omega (arith, f, h));
      taken = c.begin_next.ensures.taken ∙ inv.taken;
    }

pub returns-in-Ok-false-clause-begins : goal.returns-in-Ok-false-clause-begins
returns-in-Ok-false-clause-begins g c =
    sends_then c.args.source.file c.args.windows.now c.slices.windows c.begin_next.new.windows c.args.board.now c.slices.board c.begin_next.new.board
    c.args.handles.now c.slices.handles c.begin_next.new.handles _ _ _ _ _ _ c.slices.invariant.begins c.in-Ok-false.ensures.begins

pub returns-in-Ok-false-clause-reads : goal.returns-in-Ok-false-clause-reads
returns-in-Ok-false-clause-reads g c =
    grew_both _ _ _ (Reads c.args.source.file) (Reads c.args.source.file) (Reads c.args.source.file) (λ xs ys p q. reads_on c.args.source.file xs ys p q) c.slices.invariant.reads
    c.in-Ok-false.ensures.reads

pub returns-in-Err-clause-breaks : goal.returns-in-Err-clause-breaks
returns-in-Err-clause-breaks g c =
    let why = c.in-Err.why in
    let source = c.args.source in
    grew_both _ _ _ (Reads source.file) (BreaksReading source.file source.size why) (BreaksReading source.file source.size why)
    (λ xs ys p q. breaks_reading_behind source.file source.size why xs ys p q) c.slices.invariant.reads c.in-Err.ensures.breaks

pub returns-in-Err-clause-short : goal.returns-in-Err-clause-short
returns-in-Err-clause-short g c = λ changed.
    sends_short c.args.source.file c.args.source.size c.args.windows.now c.slices.windows c.args.board.now c.slices.board c.args.handles.now c.slices.handles _ _ _ _ _ c.slices.invariant.begins (c.in-Err.ensures.short changed)

pub returns-in-Ok-false-clause-deals : goal.returns-in-Ok-false-clause-deals
returns-in-Ok-false-clause-deals g c =
    deals_then c.args.limit _ _ _ _ _ _ c.slices.invariant.deals
    (c.in-Ok-false.ensures.deals c.args.limit c.ranges.limit.fits (let count = c.slices.invariant.count in let less = c.slices-test.true in omega (arith, count, less)))
