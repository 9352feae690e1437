use Rattle.std.proofs.Common.{◌∙◌, ap, false}
use Rattle.lnbd_keyed.specs.Keyed.{without}
use Rattle.lnbd_keyed.proofs.KeyedLemmas.{without_last}
use Rattle.lnbd_callbacks.proofs.LiveLemmas.{IsBelow-next}
use Rattle.lnbd_callbacks.proofs.live.enlist_two.Goals as goal

pub enlist-requires-2 : goal.enlist-requires-2
enlist-requires-2 c = rw c.in_ok-enlist.ensures.ok (IsBelow-next c.args.number false c.args.live.now.entries c.requires.above)

pub returns-in_default-clause-err : goal.returns-in_default-clause-err
returns-in_default-clause-err c = c.strike.ensures ∙ ap (λ xs. without c.args.number xs) (c.in_default.ensures.err ∙ c.in_ok-enlist.ensures.ok) ∙ without_last c.args.number false c.args.live.now.entries c.requires.above
