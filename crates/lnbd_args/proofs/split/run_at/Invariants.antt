use Rattle.std.proofs.Common.{◌≡◌, ◌+◌, map, string_bytes, drop}
use Rattle.lnbd_args.specs.Written.{run_at}
use Rattle.lnbd_args.proofs.split.run_at.Given as goal

-- the words so far were counted, and `--run` stands as far behind them as it does in those that are left
abbrev pub invariant-loop-word : goal.invariant-loop-word
invariant-loop-word l = (l.count ≡ l.word-index) × (l.count + run_at (map string_bytes (drop l.word-index l.words)) ≡ run_at (map string_bytes l.words))
