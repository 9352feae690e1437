use Rattle.std.proofs.Common.{◌≡◌, ◌∙◌, ◌∷◌, ◌-◌, ◌+◌, ℕ, List, ap, arith, drop, length, length-drop, sym, take}
use Rattle.std.proofs.lemmas.List.{take_all}
use Rattle.lnbd_lines.proofs.ScriptLemmas.{lines_first, lines_one}
use Rattle.lnbd_lines.specs.Scripts.{lines_of}
use Rattle.lnbd_lines.proofs.script.first_line.Goals as goal

-- all that stands behind a place
all_behind : (text : List ℕ) (k : ℕ) → take (length text - k) (drop k text) ≡ drop k text
all_behind text k = take_all (length text - k) (drop k text) (omega (arith, length-drop k text))

pub returns-in-Some-clause-cut : goal.returns-in-Some-clause-cut
returns-in-Some-clause-cut c =
    lines_first c.args.text.now c.in-Some.end (sym c.in-Some.ensures)
    ∙ ap (λ rest. take c.in-Some.end c.args.text.now ∷ lines_of rest) (sym (all_behind c.args.text.now (c.in-Some.end + 1)))

pub returns-in-None-clause-cut : goal.returns-in-None-clause-cut
returns-in-None-clause-cut c = lines_one c.args.text.now (sym c.in-None.ensures)
