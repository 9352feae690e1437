use Rattle.std.proofs.Common.{refl, ap, sym, ◌∙◌}
use Rattle.std.proofs.lemmas.Bool.{false≢true}
use Rattle.lnbd_touched.proofs.GrownLemmas.{grew_both, grew_none}
use Rattle.lnbd_copyfile.specs.FromFileJob.{Seen}
use Rattle.lnbd_copyfile.specs.OneFile.{Reads}
use Rattle.lnbd_copyfile.proofs.FromFileJobLemmas.{acts_none, acts_then}
use Rattle.lnbd_copyfile.proofs.OneFileLemmas.{reads_on}
use Rattle.lnbd_copyfile.proofs.from_file_job.FromFileJob.hear.Goals as goal

pub parts-init : goal.parts-init
parts-init g c = record {
  acts = λ now held. acts_none c.args.file c.args.self.now now held _ _;
  others = refl;
  ends = refl;
  still = λ none. refl;
  reads = grew_none _ (Reads c.args.file) tt;
  faults = refl;
  given = refl;
  taken = refl;
}

pub hear_part-requires : goal.hear_part-requires
hear_part-requires g c = record { copying = ap (λ (j : Seen). j.phase) c.parts.invariant.others ∙ c.requires.copying }

pub parts-preserved : goal.parts-preserved
parts-preserved g c =
    let inv = c.parts.invariant in
    let part = c.hear_part.ensures in
    record {
      acts = λ now held. acts_then c.args.file _ _ _ _ _ _ _ _ _ _ _ _ _ _ _ (inv.acts now held) (c.in_ok-hear_part.ensures.acts now held);
      others = part.others ∙ ap (λ (j : Seen). record j { windows = c.hear_part.new.self.windows }) inv.others;
      ends = part.ends ∙ inv.ends;
      still = λ none. absurd (false≢true (sym none));
      reads = grew_both _ _ _ (Reads c.args.file) (Reads c.args.file) (Reads c.args.file) (λ xs ys p q. reads_on c.args.file xs ys p q) inv.reads part.reads;
      faults = part.faults ∙ inv.faults;
      given = part.given ∙ inv.given;
      taken = part.taken ∙ inv.taken;
    }

pub returns-then-not-branch-clause-acts : goal.returns-then-not-branch-clause-acts
returns-then-not-branch-clause-acts g c = λ now held.
    acts_then c.args.file _ _ _ _ _ _ _ _ _ _ _ _ _ _ _ (c.parts.invariant.acts now held) (c.in_ok-hear_part.ensures.acts now held)

pub returns-then-not-branch-clause-reads : goal.returns-then-not-branch-clause-reads
returns-then-not-branch-clause-reads g c =
    grew_both _ _ _ (Reads c.args.file) (Reads c.args.file) (Reads c.args.file) (λ xs ys p q. reads_on c.args.file xs ys p q) c.parts.invariant.reads c.hear_part.ensures.reads

pub returns-in_err-hear_part-clause-reads : goal.returns-in_err-hear_part-clause-reads
returns-in_err-hear_part-clause-reads g c =
    grew_both _ _ _ (Reads c.args.file) (Reads c.args.file) (Reads c.args.file) (λ xs ys p q. reads_on c.args.file xs ys p q) c.parts.invariant.reads c.hear_part.ensures.reads
