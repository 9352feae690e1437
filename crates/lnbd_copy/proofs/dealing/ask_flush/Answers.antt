use Rattle.std.proofs.Common.{subst, ◌<◌, ◌^◌, ℕ}
use Rattle.lnbd_copy.proofs.AskedLemmas.{is_asked, flush_room}
use Rattle.lnbd_callbacks.specs.Steps.{OneByOne}
use Rattle.lnbd_handle.specs.Issues.{flush_of}
use Rattle.lnbd_board.specs.declared.ticket.Ticket.TheVariants as ticket
use Rattle.lnbd_board.specs.Files.{Files}
use Rattle.lnbd_copy.proofs.LawfulLemmas.{faults_expected}
use Rattle.lnbd_copy.proofs.dealing.ask_flush.Goals as goal

pub returns-in-Ok-clause-asked : goal.returns-in-Ok-clause-asked
returns-in-Ok-clause-asked c =
    is_asked _ (flush_room _) c.get_mut.result.now.machine c.aio_flush-answer.new.self.machine (subst (λ (n : ℕ). n < 2 ^ 64) c.in-Ok.ensures.cookie c.told.ensures.small) c.in-Ok.ensures.stands 1 c.args.handles.now c.get_mut.ensures.value

pub of_memory-requires : goal.of_memory-requires
of_memory-requires c =
    faults_expected (OneByOne Files) (flush_of ticket.Flush 0) c.in-Err.fault c.get_mut.result.now.machine c.aio_flush-answer.new.self.machine c.begin_flush.new.self c.aio_flush-answer.new.world c.in-Err.ensures.faults (c.requires.may c.get_mut.result.now.machine c.get_mut.ensures.value)
