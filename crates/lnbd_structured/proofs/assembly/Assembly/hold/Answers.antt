use Rattle.std.proofs.Common.{◌≡◌, ◌≤◌, ◌-◌, ◌∙◌, true, false, ap, sym, refl, arith}
use Rattle.lnbd_extents.specs.Positions.{holds, any_at}
use Rattle.lnbd_structured.proofs.ShiftLemmas.{again, clash_of, from_offset, missed, with_shift}
use Rattle.lnbd_structured.specs.Assembly.{Assembled, waiting_of}
use Rattle.lnbd_structured.proofs.assembly.Assembly.hold.Goals as goal

pub returns-in-Ok-clause-ok : goal.returns-in-Ok-clause-ok
returns-in-Ok-clause-ok c =
    let here : c.self.inside.offset ≡ c.args.self.now.query.offset = ap (λ (s : Assembled). s.query.offset) c.self.view_is in
    let low : c.self.inside.offset ≤ c.args.offset = omega (arith, here, from_offset (waiting_of c.args.self.now) c.args.offset c.args.length c.requires.within) in
    let moved = with_shift c.self.inside.offset (c.args.offset - c.self.inside.offset) c.args.length c.args.offset c.self.inside.told (again c.self.inside.offset c.args.offset low) in
    rw (← c.self.view_is) (rw (moved, c.in-Ok.ensures.ok) refl)

pub returns-in-Ok-clause-fault : goal.returns-in-Ok-clause-fault
returns-in-Ok-clause-fault c =
    clash_of c.args.self.now c.self.inside.offset c.args.offset c.args.length false c.self.inside.told
    (ap (λ (s : Assembled). s.query.offset) c.self.view_is) (ap (λ (s : Assembled). s.facts.told) c.self.view_is) c.requires.within
    (sym c.came_again.ensures ∙ c.if-came_again.false) (missed _ _ _ c.in-Ok.ensures.overlap)

pub returns-in-Err-Overlap-clause-fault : goal.returns-in-Err-Overlap-clause-fault
returns-in-Err-Overlap-clause-fault c =
    let is = c.in-Err-Overlap.field-0-is in
    let met : any_at (holds c.self.inside.told) (c.args.offset - c.self.inside.offset) c.args.length ≡ true = c.in-Err-Overlap.ensures.overlap.0 (cc) in
    clash_of c.args.self.now c.self.inside.offset c.args.offset c.args.length true c.self.inside.told
    (ap (λ (s : Assembled). s.query.offset) c.self.view_is) (ap (λ (s : Assembled). s.facts.told) c.self.view_is) c.requires.within
    (sym c.came_again.ensures ∙ c.if-came_again.false) (sym met)
