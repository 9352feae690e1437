use Rattle.lnbd_lines.proofs.lines.connect_unix.Goals as goal

pub returns-in_default : goal.returns-in_default
returns-in_default c path h = c.in_default.ensures.cases h.0 h.1
