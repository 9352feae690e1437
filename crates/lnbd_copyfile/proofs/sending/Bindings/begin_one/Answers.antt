use Rattle.lnbd_copyfile.proofs.DealtLemmas.{deals_begun, one_more}
use Rattle.lnbd_copyfile.proofs.sending.Bindings.begin_one.Goals as goal

pub returns-in-Ok-clause-deals : goal.returns-in-Ok-clause-deals
returns-in-Ok-clause-deals g c limit fits less =
    deals_begun c.args.source.file c.args.slice c.args.board.now c.load_slice.new.board c.args.handles.now c.load_slice.new.handles _ _ _ _ (record {
      destination = c.fewest-destination.result;
      begins = c.in-Ok.ensures.begins;
    }) limit c.args.self.now
    c.bind.new.self c.fewest-destination.ensures.fewest c.bind.ensures fits less

pub returns-in-Ok-clause-more : goal.returns-in-Ok-clause-more
returns-in-Ok-clause-more g c =
    one_more c.args.source.file c.args.slice c.args.board.now c.load_slice.new.board c.args.handles.now c.load_slice.new.handles _ _ _ _
    (record { destination = c.fewest-destination.result; begins = c.in-Ok.ensures.begins })
