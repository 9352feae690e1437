use Rattle.lnbd_history.proofs.ByName.{is_awaited, is_told, is_too_big}
use Rattle.lnbd_history.proofs.laws_of_history.export_name_reply_is_filled.Goals as goal

pub returns-clause-awaited : goal.returns-clause-awaited
returns-clause-awaited c = is_awaited

pub returns-clause-told : goal.returns-clause-told
returns-clause-told c = is_told

pub returns-clause-too_big : goal.returns-clause-too_big
returns-clause-too_big c = is_too_big
