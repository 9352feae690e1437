use Rattle.std.proofs.Common.{arith}
use Rattle.lnbd_lines.proofs.ScriptLemmas.{answers_fault, answers_script}
use Rattle.lnbd_lines.proofs.script.parse.Goals as goal

pub returns-clause-accepts : goal.returns-clause-accepts
returns-clause-accepts c = answers_script c.args.bytes.now c.read_all.result c.read_all.ensures.script c.read_all.ensures.fault

pub returns-clause-refuses : goal.returns-clause-refuses
returns-clause-refuses c = answers_fault c.args.bytes.now c.read_all.result c.read_all.ensures.script c.read_all.ensures.fault

pub returns-clause-too_long : goal.returns-clause-too_long
returns-clause-too_long c =
    let short = c.if-bytes-gt-LIMIT.false in
    (c.read_all.ensures.fault 0, λ long. absurd (omega arith))
