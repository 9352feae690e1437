use Rattle.std.proofs.lemmas.Result.{on_ok_weaker}
use Rattle.lnbd_copy.proofs.EndLemmas.{grown_copies}
use Rattle.lnbd_copy.proofs.MadeLemmas.{is_made}
use Rattle.lnbd_copy.proofs.ConductLemmas.{conducts}
use Rattle.lnbd_copy.proofs.copier.Copier.run.Goals as goal

pub returns-clause-copies : goal.returns-clause-copies
returns-clause-copies g c two =
    on_ok_weaker c.carry_out.result
    (λ carried. grown_copies c.args.self.from c.args.self.to c.args.self.options.destination_is_zero _ _ carried)
    (c.carry_out.ensures.carries two)

pub returns-clause-conducts : goal.returns-clause-conducts
returns-clause-conducts g c =
    conducts c.args.self.options c.args.self.from c.args.self.to _ _ c.carry_out.ensures.links c.carry_out.ensures.within c.carry_out.ensures.behaves c.carry_out.ensures.pauses c.carry_out.ensures.fewest
    c.carry_out.ensures.waits c.carry_out.ensures.writes c.carry_out.ensures.reads c.carry_out.ensures.wanted c.carry_out.ensures.drives c.carry_out.ensures.tries c.carry_out.ensures.little c.carry_out.ensures.wants_all c.carry_out.ensures.few c.carry_out.ensures.paces

pub returns-clause-made : goal.returns-clause-made
returns-clause-made g c two =
    is_made c.args.self.options c.args.self.from c.args.self.to _ _ c.carry_out.result (c.carry_out.ensures.carries two) (c.carry_out.ensures.asks two) (c.carry_out.ensures.done two) (c.carry_out.ensures.whole two)
    (c.carry_out.ensures.summary two) (c.carry_out.ensures.spares two) (c.carry_out.ensures.dense two) (c.carry_out.ensures.flushes two) (c.carry_out.ensures.flushed two)
    c.carry_out.ensures.connects c.carry_out.ensures.connected c.carry_out.ensures.driven c.carry_out.ensures.left (returns-clause-conducts g c)
