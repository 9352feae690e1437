use Rattle.std.proofs.Common.{◌∙◌, sym}
use Rattle.lnbd_link.proofs.Parts.{keeps_none}
use Rattle.lnbd_dump.proofs.FillLemmas.{known_of, long_of, none_at, none_first, some_long}
use Rattle.lnbd_dump.proofs.MoreLemmas.{learns_none}
use Rattle.lnbd_dump.proofs.turning.learn.Goals as goal

pub returns-in-Some-clause-goes : goal.returns-in-Some-clause-goes
returns-in-Some-clause-goes g c = learns_none c.args.plan.now c.args.runs.now c.args.world.now _ _ c.args.handles.now

pub returns-in-Some-clause-more : goal.returns-in-Some-clause-more
returns-in-Some-clause-more g c = some_long c.args.runs.now c.in-Some.field-0 (sym c.first.ensures ∙ c.in-Some.is)

pub returns-in-Some-clause-contents : goal.returns-in-Some-clause-contents
returns-in-Some-clause-contents g c = keeps_none _

pub ask_more-requires-clause-none : goal.ask_more-requires-clause-none
ask_more-requires-clause-none g c = none_first c.args.runs.now (sym c.first.ensures ∙ c.in-None.is)

pub ask_more-requires-clause-some : goal.ask_more-requires-clause-some
ask_more-requires-clause-some g c = (none_at c.args.plan.now.at c.args.plan.now.known c.args.runs.now (none_first c.args.runs.now (sym c.first.ensures ∙ c.in-None.is)) c.requires.order, c.requires.some.0, c.requires.some.2)

pub returns-in-None-clause-more : goal.returns-in-None-clause-more
returns-in-None-clause-more g c = long_of c.ask_more.result c.ask_more.new.plan.at c.ask_more.new.plan.known c.ask_more.new.plan.end c.ask_more.new.runs c.ask_more.ensures.order c.ask_more.ensures.within

pub returns-in-None-clause-within : goal.returns-in-None-clause-within
returns-in-None-clause-within g c = known_of c.ask_more.result c.ask_more.new.plan.at c.ask_more.new.plan.known c.ask_more.new.plan.end c.ask_more.ensures.within
