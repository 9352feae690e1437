use Rattle.std.proofs.Common.{ℕ, List, ap, length, refl}
use Rattle.lnbd_copyfile.proofs.SpreadLemmas.{binds_one}
use Rattle.lnbd_copyfile.proofs.ToFileJobLemmas.{begins_made, begins_read}
use Rattle.lnbd_copyfile.proofs.to_file_job.begin_one.Goals as goal

pub returns-in-Made-clause-begins : goal.returns-in-Made-clause-begins
returns-in-Made-clause-begins g c =
    begins_made c.args.file c.args.slice c.fewest-source.result c.args.board.now c.begin_slice.new.board c.args.handles.now _ _ _ _ c.in-Ok.first c.in-Made.is c.in-Ok.ensures.begun

pub returns-in-Ok-ask_read-clause-begins : goal.returns-in-Ok-ask_read-clause-begins
returns-in-Ok-ask_read-clause-begins g c =
    begins_read c.args.file c.args.slice c.fewest-source.result c.in-Reads.offset c.begun-number.result c.in-Reads.buf c.into_vec.result.items c.args.board.now c.begin_slice.new.board
    c.ask_read.new.board
    c.args.handles.now c.ask_read.new.handles _ _ _ _ c.in-Ok.first c.in-Reads.is c.in-Ok.ensures.begun c.begun-number.ensures c.in-Ok-ask_read.ensures.board
    (ap (λ (l : List ℕ). length l) c.into_vec.ensures) c.in-Ok-ask_read.ensures.asked

pub returns-in-Made-clause-binds : goal.returns-in-Made-clause-binds
returns-in-Made-clause-binds g c =
    binds_one c.in-Ok.first c.args.file c.args.slice c.fewest-source.result c.args.bound.now c.bind.new.self c.args.board.now c.begin_slice.new.board c.begin_slice.new.board _ _ _ _
    c.in-Ok.ensures.begun
    c.fewest-source.ensures c.bind.ensures refl

pub returns-in-Ok-ask_read-clause-binds : goal.returns-in-Ok-ask_read-clause-binds
returns-in-Ok-ask_read-clause-binds g c =
    binds_one c.in-Ok.first c.args.file c.args.slice c.fewest-source.result c.args.bound.now c.bind.new.self c.args.board.now c.begin_slice.new.board c.ask_read.new.board _ _ _ _ c.in-Ok.ensures.begun
    c.fewest-source.ensures c.bind.ensures c.in-Ok-ask_read.ensures.board
