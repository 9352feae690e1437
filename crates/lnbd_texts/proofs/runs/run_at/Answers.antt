use Rattle.std.proofs.lemmas.Slice.{between_to_end}
use Rattle.std.proofs.Common.{◌≤◌, ◌-◌, arith, drop, get_or, length, refl, take}
use Rattle.lnbd_texts.proofs.RunLemmas.{run_at_place}
use Rattle.lnbd_texts.proofs.runs.run_at.Goals as goal

pub returns-clause-longest : goal.returns-clause-longest
returns-clause-longest c =
    let bytes = c.args.bytes.now in
    let at = c.args.at in
    let whole : length bytes ≤ length bytes = omega arith in
    run_at_place bytes at c.count_equal.result (get_or bytes at 0) (take (length bytes - at) (drop at bytes)) c.requires refl (between_to_end bytes at (length bytes) whole) c.count_equal.ensures
