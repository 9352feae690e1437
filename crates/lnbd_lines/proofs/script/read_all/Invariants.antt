use Rattle.std.proofs.Common.{option_copied}
use Rattle.lnbd_lines.proofs.ScriptLemmas.{Progress, left}
use Rattle.lnbd_lines.proofs.script.read_all.Given as goal

abbrev pub invariant-loop-rest : goal.invariant-loop-rest
invariant-loop-rest l = Progress l.bytes (option_copied l.rest) l.script l.number

-- each turn takes a line off what is left
abbrev pub decreases-loop-rest : goal.decreases-loop-rest
decreases-loop-rest l = left (option_copied l.rest)
