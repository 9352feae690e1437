use Rattle.lnbd_stream.proofs.Grammar.{once_stays, wants_stays, choice_stays, rest_stays, each_byte_stays}
use Rattle.lnbd_stream.proofs.laws.words_stay.Goals as goal

pub returns-clause-once : goal.returns-clause-once
returns-clause-once g c = once_stays

pub returns-clause-wants : goal.returns-clause-wants
returns-clause-wants g c = wants_stays

pub returns-clause-choice : goal.returns-clause-choice
returns-clause-choice g c = choice_stays

pub returns-clause-rest : goal.returns-clause-rest
returns-clause-rest g c = rest_stays

pub returns-clause-each_byte : goal.returns-clause-each_byte
returns-clause-each_byte g c = each_byte_stays
