use Rattle.std.proofs.Common.{◌≡◌, ◌-◌, ◌≤◌, ◌++◌, drop, length}
use Rattle.std.specs.Prelude.{codes, flat_map, string_bytes}
use Rattle.lnbd_texts.specs.Runs.{run_text, runs, runs_text}
use Rattle.lnbd_texts.proofs.runs.push_runs.Given as goal

-- what is pushed and what the runs from here on will add are the whole text
abbrev pub invariant-runs : goal.invariant-runs
invariant-runs l = record {
  within : l.at ≤ length l.bytes;
  rest : string_bytes l.text ++ flat_map (λ run. codes " " ++ run_text run) (runs (drop l.at l.bytes)) ≡ string_bytes l.fn.text ++ runs_text l.bytes;
}

abbrev pub decreases-runs : goal.decreases-runs
decreases-runs l = length l.bytes - l.at
