use Rattle.std.proofs.Common.{subst, ◌<◌, ◌^◌, ℕ, arith}
use Rattle.lnbd_copy.proofs.AskedLemmas.{is_asked, zero_room}
use Rattle.lnbd_callbacks.specs.Steps.{OneByOne}
use Rattle.lnbd_handle.specs.Issues.{zero_of}
use Rattle.lnbd_board.specs.declared.ticket.Ticket.TheVariants as ticket
use Rattle.lnbd_board.specs.Files.{Files}
use Rattle.lnbd_copy.proofs.LawfulLemmas.{faults_expected}
use Rattle.lnbd_copy.proofs.dealing.ask_zero.Goals as goal

pub returns-in-Ok-clause-asked : goal.returns-in-Ok-clause-asked
returns-in-Ok-clause-asked c =
    is_asked _ (zero_room c.args.count c.args.offset _ c.args.flags (omega (arith, c.ranges.offset.fits))) c.get_mut.result.now.machine c.aio_zero-answer.new.self.machine (subst (λ (n : ℕ). n < 2 ^ 64) c.in-Ok.ensures.cookie c.told.ensures.small) c.in-Ok.ensures.stands c.args.index c.args.handles.now c.get_mut.ensures.value

pub of_memory-requires : goal.of_memory-requires
of_memory-requires c =
    faults_expected (OneByOne Files) (zero_of c.args.count c.args.offset (ticket.Slice c.args.number) c.args.flags) c.in-Err.fault c.get_mut.result.now.machine c.aio_zero-answer.new.self.machine c.args.board.now c.aio_zero-answer.new.world c.in-Err.ensures.faults (c.requires.may c.get_mut.result.now.machine c.get_mut.ensures.value)
