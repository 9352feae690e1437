use Rattle.std.proofs.Common.{◌≡◌, arith, false, ℕ, Option, is_none, refl, ap, sym, subst, ◌∙◌}
use Rattle.lnbd_touched.proofs.GrownLemmas.{grew_both, grew_none}
use Rattle.lnbd_copyfile.specs.Jobs.{Seen}
use Rattle.lnbd_copyfile.specs.OneFile.{BreaksWriting, Writes}
use Rattle.lnbd_copyfile.proofs.OneFileLemmas.{breaks_writing_behind, writes_on}
use Rattle.lnbd_copyfile.proofs.ToFileJobLemmas.{acts_none, acts_went}
use Rattle.lnbd_copyfile.proofs.WentLemmas.{makes_last, makes_none}
use Rattle.lnbd_copyfile.proofs.SpreadLemmas.{spreads_none, spreads_over, spreads_same, spreads_then}
use Rattle.lnbd_copyfile.specs.Making.{HasEnded}
use Rattle.std.specs.Prelude.{IfSome}
use Rattle.lnbd_copyfile.proofs.to_file_job.ToFileJob.go_on.Goals as goal

pub slices-init : goal.slices-init
slices-init g c = record {
  acts = λ held. acts_none c.args.file c.args.self.now c.args.board.now held _ _;
  job = refl;
  how = refl;
  makes = makes_none c.args.board.now.how c.args.file c.args.board.now _ _;
  spread = spreads_none c.args.self.now c.args.board.now;
  writes = grew_none _ (Writes c.args.file) tt;
  later = omega arith;
  given = refl;
}

pub slices-preserved : goal.slices-preserved
slices-preserved g c =
    let inv = c.slices.invariant in
    let call = c.in-Ok-Some.ensures in
    let how : c.slices.board.how ≡ c.slices.self.terms.how = inv.how ∙ c.requires.how ∙ sym (ap (λ (j : Seen). j.terms.how) inv.job) in
    let copying : c.slices.self.is_parting ≡ false = ap (λ (j : Seen). j.is_parting) inv.job ∙ c.requires.copying in
    record {
      acts = λ held. acts_went c.args.file c.args.self.now c.slices.self c.release.new.self c.args.board.now c.slices.board c.go_on.new.board held _ _ _ _ _ _ how copying call.how
          c.release.ensures.others (inv.acts held) call.makes;
      job = c.release.ensures.others ∙ ap (λ (j : Seen). record j { bound = c.release.new.self.bound }) inv.job;
      how = call.how ∙ inv.how;
      makes = makes_last c.args.board.now.how c.args.file c.args.board.now c.slices.board c.go_on.new.board _ _ _ _ _ _ inv.how inv.makes call.makes;
      spread = spreads_then c.args.self.now c.slices.self c.release.new.self c.args.board.now c.slices.board c.go_on.new.board inv.spread
          (spreads_over c.slices.self c.release.new.self c.slices.board.how c.in-Ok-Some.source c.slices.board c.go_on.new.board (ap (λ (j : Seen). j.terms) c.release.ensures.others)
          c.release.ensures.released
          (subst (λ (o : Option ℕ). IfSome o (λ source. HasEnded c.slices.board.how source c.slices.board c.go_on.new.board)) c.in-Ok-Some.field-0-is call.over));
      writes = grew_both _ _ _ (Writes c.args.file) (Writes c.args.file) (Writes c.args.file) (λ xs ys p q. writes_on c.args.file xs ys p q) inv.writes call.writes;
      later = let a = inv.later in let b = call.later in omega (arith, a, b);
      given = call.given ∙ inv.given;
    }

pub returns-in-Ok-None-clause-acts : goal.returns-in-Ok-None-clause-acts
returns-in-Ok-None-clause-acts g c held =
    let inv = c.slices.invariant in
    let call = c.in-Ok-None.ensures in
    acts_went c.args.file c.args.self.now c.slices.self c.slices.self c.args.board.now c.slices.board c.go_on.new.board held _ _ _ _ _ _
    (inv.how ∙ c.requires.how ∙ sym (ap (λ (j : Seen). j.terms.how) inv.job)) (ap (λ (j : Seen). j.is_parting) inv.job ∙ c.requires.copying) call.how refl (inv.acts held) call.makes

pub returns-in-Ok-None-clause-writes : goal.returns-in-Ok-None-clause-writes
returns-in-Ok-None-clause-writes g c =
    grew_both _ _ _ (Writes c.args.file) (Writes c.args.file) (Writes c.args.file) (λ xs ys p q. writes_on c.args.file xs ys p q) c.slices.invariant.writes c.in-Ok-None.ensures.writes

pub returns-in-Err-clause-breaks : goal.returns-in-Err-clause-breaks
returns-in-Err-clause-breaks g c =
    grew_both _ _ _ (Writes c.args.file) (BreaksWriting c.args.file c.in-Err.why) (BreaksWriting c.args.file c.in-Err.why)
    (λ calls more m b. breaks_writing_behind c.args.file c.in-Err.why calls more m b) c.slices.invariant.writes c.in-Err.ensures.breaks

pub returns-in-Ok-None-clause-spread : goal.returns-in-Ok-None-clause-spread
returns-in-Ok-None-clause-spread g c =
    spreads_then c.args.self.now c.slices.self c.slices.self c.args.board.now c.slices.board c.go_on.new.board c.slices.invariant.spread
    (spreads_same c.slices.self c.slices.self c.slices.board c.go_on.new.board refl refl (c.in-Ok-None.ensures.bound (ap (λ (o : Option ℕ). is_none o) c.in-Ok-None.field-0-is)))

pub returns-in-Ok-None-clause-makes : goal.returns-in-Ok-None-clause-makes
returns-in-Ok-None-clause-makes g c =
    makes_last c.args.board.now.how c.args.file c.args.board.now c.slices.board c.go_on.new.board _ _ _ _ _ _ c.slices.invariant.how c.slices.invariant.makes c.in-Ok-None.ensures.makes
