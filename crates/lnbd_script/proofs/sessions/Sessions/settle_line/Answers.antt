use Rattle.std.proofs.Common.{sym, ◌∙◌}
use Rattle.lnbd_script.proofs.SceneLemmas.{settle_gone, settle_on, settled_whole}
use Rattle.lnbd_script.proofs.sessions.Sessions.settle_line.Goals as goal

pub returns-then-not-is_open-clause-acts : goal.returns-then-not-is_open-clause-acts
returns-then-not-is_open-clause-acts g c = settle_gone c.args.self.now c.current.result.now _ _ c.current.ensures c.requires.used (sym c.is_open.ensures ∙ c.if-not-is_open.true)

pub returns-clause-acts : goal.returns-clause-acts
returns-clause-acts g c = settle_on c.args.self.now _ c.current.result.now _ _ _ _ c.settle.result c.of_settle.result c.of_settle.ensures c.current.ensures (sym c.is_open.ensures ∙ c.if-not-is_open.false) c.settle.ensures.settles

pub returns-clause-unread : goal.returns-clause-unread
returns-clause-unread g c = settled_whole c.settle.result c.of_settle.result _ c.of_settle.ensures c.settle.ensures.unread
