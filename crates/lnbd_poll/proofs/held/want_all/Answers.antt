use Rattle.std.proofs.Common.{arith, ◌++◌, [], ◌∙◌, ap}
use Rattle.std.proofs.lemmas.List.{take_all}
use Rattle.lnbd_poll.specs.Held.{all_held, seen_held, wants_now, with_want}
use Rattle.lnbd_poll.proofs.HeldLemmas.{held_here, held_length, wants_on}
use Rattle.lnbd_poll.proofs.held.want_all.Goals as goal

pub handles-preserved : goal.handles-preserved
handles-preserved g c = record {
  wants = c.push_want.ensures.items ∙ ap (λ w. c.handles.wants.items ++ with_want w []) c.want.ensures ∙ wants_on c.handles.i (all_held c.args.all.now.items) (seen_held c.index.result.now) c.handles.wants.items (omega (arith, c.handles-test.true, c.args.all.now.ok.0, held_length c.args.all.now.items)) (held_here c.handles.i c.args.all.now.items c.index.result.now c.index.ensures) c.handles.invariant.wants;
  few = omega (arith, c.push_want.ensures.len, c.handles.invariant.few);
  room = c.push_want.ensures.room ∙ c.handles.invariant.room;
}

pub returns-clause-items : goal.returns-clause-items
returns-clause-items g c = c.handles.invariant.wants ∙ ap wants_now (take_all c.handles.i (all_held c.args.all.now.items) (omega (arith, c.handles-test.false, c.args.all.now.ok.0, held_length c.args.all.now.items)))
