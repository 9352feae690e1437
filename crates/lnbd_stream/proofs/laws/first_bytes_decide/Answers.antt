use Rattle.lnbd_stream.proofs.Grammar.{once_decides, wants_decides, choice_decides, rest_decides, whole_decides}
use Rattle.lnbd_stream.proofs.laws.first_bytes_decide.Goals as goal

pub returns-clause-once : goal.returns-clause-once
returns-clause-once g c = once_decides

pub returns-clause-wants : goal.returns-clause-wants
returns-clause-wants g c = wants_decides

pub returns-clause-choice : goal.returns-clause-choice
returns-clause-choice g c = choice_decides

pub returns-clause-rest : goal.returns-clause-rest
returns-clause-rest g c = rest_decides

pub returns-clause-whole : goal.returns-clause-whole
returns-clause-whole g c = whole_decides
