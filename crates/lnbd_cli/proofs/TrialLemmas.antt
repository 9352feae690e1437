-- The line of a copy that was made in memory.
use Rattle.std.proofs.Common.{◌≡◌, ℕ, List, subst}
use Rattle.lnbd_memnet.specs.Wires.{Served}
use Rattle.lnbd_plan.specs.declared.summary.Summary.{Summary}
use Rattle.lnbd_rehearsal.specs.Rehearsed.{HasRehearsed}
use Rattle.lnbd_cli.specs.declared.selftesting.Trial.{Trial}
use Rattle.lnbd_cli.specs.Trials.{TellsTrial, Tested, sums_line}

pub made_of : (trial : Trial) (sums : Summary) (wires : Served) (line : List ℕ) → HasRehearsed trial.seed trial.size sums wires → line ≡ sums_line trial sums → TellsTrial trial line
made_of trial sums wires line rehearsed is = record { sums = sums; wires = wires; rehearsed = rehearsed; is = is }

-- the line was printed, as the bytes that it has
pub tested : (trial : Trial) (line shown : List ℕ) (Printed : List ℕ → Type 0) → TellsTrial trial line → shown ≡ line → Printed shown → Tested trial Printed
tested trial line shown Printed made is printed = record { line = line; made = made; printed = subst Printed is printed }
