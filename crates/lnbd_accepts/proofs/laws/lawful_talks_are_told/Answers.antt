use Rattle.lnbd_accepts.proofs.Talks.{lawful_hellos_are_told, lawful_answers_are_told}
use Rattle.lnbd_accepts.proofs.laws.lawful_talks_are_told.Goals as goal

pub returns-clause-hello : goal.returns-clause-hello
returns-clause-hello c = lawful_hellos_are_told

pub returns-clause-reply : goal.returns-clause-reply
returns-clause-reply c = lawful_answers_are_told
