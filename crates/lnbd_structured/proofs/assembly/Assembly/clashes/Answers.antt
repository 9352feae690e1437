use Rattle.std.proofs.Common.{◌∙◌, ap, sym}
use Rattle.lnbd_structured.proofs.ShiftLemmas.{clash_of}
use Rattle.lnbd_structured.specs.Assembly.{Assembled}
use Rattle.lnbd_structured.proofs.assembly.Assembly.clashes.Goals as goal

pub returns : goal.returns
returns c =
    clash_of c.args.self.now c.self.inside.offset c.args.offset c.args.length c.meets.result c.self.inside.told
    (ap (λ (s : Assembled). s.query.offset) c.self.view_is) (ap (λ (s : Assembled). s.facts.told) c.self.view_is) c.requires.within
    (sym c.came_again.ensures ∙ c.if-came_again.false) c.meets.ensures
