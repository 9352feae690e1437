use Rattle.std.proofs.Common.{arith, ◌∙◌, refl}
use Rattle.lnbd_copyfile.proofs.WentLemmas.{ended_last, made_sources, makes_last, makes_none, nothing_sources}
use Rattle.lnbd_copyfile.proofs.desk.go_on.Goals as goal
use Rattle.lnbd_copyfile.specs.declared.fault.Stop.TheVariants as stop
use Rattle.lnbd_copyfile.specs.OneFile.{BreaksWriting, Write_lacks_memory, Writes}
use Rattle.lnbd_copyfile.proofs.OneFileLemmas.{breaks_writing_behind, writes_on}
use Rattle.lnbd_touched.proofs.GrownLemmas.{grew_as, grew_both, grew_none}

pub steps-init : goal.steps-init
steps-init g c =
    record { makes = makes_none c.args.board.now.how c.args.file c.args.board.now _ _; writes = grew_none _ (Writes c.args.file) tt; how = refl; sources = refl; later = omega arith; given = refl }

pub steps-preserved : goal.steps-preserved
steps-preserved g c =
    let inv = c.steps.invariant in
    let call = c.in-Ok-Made.ensures in
    record {
      makes = makes_last c.args.board.now.how c.args.file c.args.board.now c.steps.board c.go_on_once.new.board _ _ _ _ _ _ inv.how inv.makes call.makes;
      writes = grew_both _ _ _ (Writes c.args.file) (Writes c.args.file) (Writes c.args.file) (λ xs ys p q. writes_on c.args.file xs ys p q) inv.writes call.writes;
      how = call.how ∙ inv.how;
      sources = made_sources c.steps.board.how c.in-Ok-Made.field-0 c.steps.board c.go_on_once.new.board c.in-Ok-Made.field-0-is call.looked ∙ inv.sources;
      later = let a = inv.later in let b = call.later in omega (arith, a, b);
      given = call.given ∙ inv.given;
    }

pub returns-in-Ok-Over-clause-makes : goal.returns-in-Ok-Over-clause-makes
returns-in-Ok-Over-clause-makes g c =
    makes_last c.args.board.now.how c.args.file c.args.board.now c.steps.board c.go_on_once.new.board _ _ _ _ _ _ c.steps.invariant.how c.steps.invariant.makes c.in-Ok-Over.ensures.makes

pub returns-in-Ok-Nothing-clause-makes : goal.returns-in-Ok-Nothing-clause-makes
returns-in-Ok-Nothing-clause-makes g c =
    makes_last c.args.board.now.how c.args.file c.args.board.now c.steps.board c.go_on_once.new.board _ _ _ _ _ _ c.steps.invariant.how c.steps.invariant.makes c.in-Ok-Nothing.ensures.makes

pub returns-in-Ok-Over-clause-over : goal.returns-in-Ok-Over-clause-over
returns-in-Ok-Over-clause-over g c =
    ended_last c.args.board.now.how c.steps.board.how c.in-Ok-Over.source c.in-Ok-Over.field-0 c.args.board.now c.steps.board c.go_on_once.new.board c.steps.invariant.how c.in-Ok-Over.field-0-is
    c.steps.invariant.sources c.in-Ok-Over.ensures.looked

pub returns-in-Ok-Over-clause-writes : goal.returns-in-Ok-Over-clause-writes
returns-in-Ok-Over-clause-writes g c =
    grew_both _ _ _ (Writes c.args.file) (Writes c.args.file) (Writes c.args.file) (λ xs ys p q. writes_on c.args.file xs ys p q) c.steps.invariant.writes c.in-Ok-Over.ensures.writes

pub returns-in-Ok-Nothing-clause-writes : goal.returns-in-Ok-Nothing-clause-writes
returns-in-Ok-Nothing-clause-writes g c =
    grew_both _ _ _ (Writes c.args.file) (Writes c.args.file) (Writes c.args.file) (λ xs ys p q. writes_on c.args.file xs ys p q) c.steps.invariant.writes c.in-Ok-Nothing.ensures.writes

pub returns-in-Err-clause-breaks : goal.returns-in-Err-clause-breaks
returns-in-Err-clause-breaks g c =
    grew_both _ _ _ (Writes c.args.file) (BreaksWriting c.args.file c.in-Err.why) (BreaksWriting c.args.file c.in-Err.why)
    (λ calls more m b. breaks_writing_behind c.args.file c.in-Err.why calls more m b) c.steps.invariant.writes c.in-Err.ensures.breaks

pub returns-clause-breaks : goal.returns-clause-breaks
returns-clause-breaks g c = grew_as _ _ (Writes c.args.file) (BreaksWriting c.args.file stop.NoMemory) (λ calls m. Write_lacks_memory m refl) c.steps.invariant.writes

pub returns-in-Ok-Nothing-clause-bound : goal.returns-in-Ok-Nothing-clause-bound
returns-in-Ok-Nothing-clause-bound g c none =
    nothing_sources c.steps.board.how c.in-Ok-Nothing.field-0 c.steps.board c.go_on_once.new.board c.in-Ok-Nothing.field-0-is c.in-Ok-Nothing.ensures.looked ∙ c.steps.invariant.sources
