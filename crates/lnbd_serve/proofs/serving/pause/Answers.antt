use Rattle.std.proofs.Common.{List, subst, ◌∙◌}
use Rattle.lnbd_link.specs.Call.{Pause}
use Rattle.lnbd_link.specs.Part.{Adds}
use Rattle.lnbd_link.specs.declared.wires.Want.{Want}
use Rattle.lnbd_serve.proofs.serving.pause.Goals as goal

pub returns-clause-ok : goal.returns-clause-ok
returns-clause-ok g c export =
    subst (λ (ws : List Want). Adds (g.W.Wires.told c.args.wires.now) (g.W.Wires.told c.pause.new.self) (Pause ws)) (c.deref.ensures.value ∙ c.in_ok-wants.ensures export) c.pause.ensures.told
