use Rattle.std.proofs.Common.{◌≡◌, ℕ, ◌<◌, get_or}
use Rattle.lnbd_uri.specs.Parts.{HasDigitsBehind}
use Rattle.lnbd_uri.proofs.escape.is_escaped.Given as goal

-- each `%` so far has its digits
abbrev pub invariant-loop-index : goal.invariant-loop-index
invariant-loop-index l = (i : ℕ) → i < l.index → get_or l.part i 0 ≡ 37 → HasDigitsBehind l.part i
