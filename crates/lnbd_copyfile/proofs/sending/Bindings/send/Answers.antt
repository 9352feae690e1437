use Rattle.std.proofs.Common.{not, ap, sym, ◌∙◌}
use Rattle.lnbd_board.specs.declared.how.How.{How}
use Rattle.lnbd_copyfile.proofs.SendingLemmas.{passes_how, passes_sent}
use Rattle.lnbd_copyfile.proofs.sending.Bindings.send.Goals as goal
use Rattle.lnbd_copyfile.proofs.DealtLemmas.{deals_then}

pub begin-requires : goal.begin-requires
begin-requires g c = record {
  zeros = c.requires.zeros ∙ sym (ap (λ (w : How). not w.skip) (passes_how c.args.board.now c.go_on.new.board c.args.handles.now c.go_on.new.handles c.args.windows.now c.in-Ok.ensures.passes));
}

pub returns-then-begun-clause-sends : goal.returns-then-begun-clause-sends
returns-then-begun-clause-sends g c =
    passes_sent c.args.source.file c.args.windows.now c.begin.new.windows c.args.board.now c.go_on.new.board c.begin.new.board c.go_on-2.new.board c.args.handles.now c.go_on.new.handles
    c.begin.new.handles c.go_on-2.new.handles _ _ _ _ c.in-Ok.ensures.passes c.in-Ok-begin.ensures.begins c.in-Ok-go_on.ensures.passes

pub returns-else-begun-clause-sends : goal.returns-else-begun-clause-sends
returns-else-begun-clause-sends g c =
    passes_sent c.args.source.file c.args.windows.now c.begin.new.windows c.args.board.now c.go_on.new.board c.begin.new.board c.go_on-2.new.board c.args.handles.now c.go_on.new.handles
    c.begin.new.handles c.go_on-2.new.handles _ _ _ _ c.in-Ok.ensures.passes c.in-Ok-begin.ensures.begins c.in-Ok-go_on.ensures.passes

pub returns-then-begun-clause-deals : goal.returns-then-begun-clause-deals
returns-then-begun-clause-deals g c =
    deals_then c.args.limit _ _ _ _ _ _ (c.in-Ok.ensures.deals c.args.limit) (deals_then c.args.limit _ _ _ _ _ _ c.in-Ok-begin.ensures.deals (c.in-Ok-go_on.ensures.deals c.args.limit))

pub returns-else-begun-clause-deals : goal.returns-else-begun-clause-deals
returns-else-begun-clause-deals g c =
    deals_then c.args.limit _ _ _ _ _ _ (c.in-Ok.ensures.deals c.args.limit) (deals_then c.args.limit _ _ _ _ _ _ c.in-Ok-begin.ensures.deals (c.in-Ok-go_on.ensures.deals c.args.limit))
