use Rattle.std.proofs.Common.{Some, ap, ◌∙◌}
use Rattle.lnbd_script.specs.Lines.{connected}
use Rattle.lnbd_script.specs.Seen.{Seen}
use Rattle.lnbd_script.proofs.session.Session.start_as.Goals as goal

pub returns-clause-started : goal.returns-clause-started
returns-clause-started c seen at =
    let named = c.take_name.ensures.named seen at in
    let started = c.start.ensures.started named.0 named.2 in (started.0, started.1 ∙ ap (λ (x : Seen). connected (Some c.args.link) x) named.1, started.2)
