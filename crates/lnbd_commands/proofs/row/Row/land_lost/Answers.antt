use Rattle.std.proofs.Common.{◌≡◌, None, refl, ap, sym, ◌∙◌}
use Rattle.std.specs.Prelude.{Option}
use Rattle.lnbd_model.specs.declared.failure.Failure.{Failure}
use Rattle.lnbd_model.specs.declared.failure.Origin.TheVariants as from
use Rattle.lnbd_outcome.specs.Outcome.{buffer, error_number, failing, or_else}
use Rattle.lnbd_commands.proofs.LandsLemmas.{lands_lost}
use Rattle.lnbd_commands.proofs.MaskLemmas.{opened, opened_facts}
use Rattle.lnbd_commands.proofs.RealLemmas.{lost_number}
use Rattle.lnbd_commands.proofs.row.Row.land_lost.Goals as goal

pub land-requires-clause-whole : goal.land-requires-clause-whole
land-requires-clause-whole g c = λ read done.
    let kept : c.self.inside.kept ≡ None = ap (λ r. r.kept) c.self.view_is ∙ c.requires.held in
    let held = opened c.self.inside.kept _ c.self.inside.buf.items c.self.inside.assembly kept c.self.invariant in
    let facts : c.args.self.now.facts ≡ c.self.inside.assembly.facts = sym (ap (λ r. r.facts) c.self.view_is) ∙ opened_facts c.self.inside.kept c.self.inside.assembly c.self.inside.failure kept in
    let fails : c.first_of-failure.result ≡ or_else c.self.inside.assembly.facts.failure (failing from.Lost 107) = c.first_of-failure.ensures ∙ rw (c.failure.ensures, c.failing.ensures) refl in
    absurd (lost_number c.self.inside.assembly.facts.failure held.real (sym (ap error_number fails) ∙ done))

pub returns-clause-landed : goal.returns-clause-landed
returns-clause-landed g c =
    let kept : c.self.inside.kept ≡ None = ap (λ r. r.kept) c.self.view_is ∙ c.requires.held in
    let held = opened c.self.inside.kept _ c.self.inside.buf.items c.self.inside.assembly kept c.self.invariant in
    let facts : c.args.self.now.facts ≡ c.self.inside.assembly.facts = sym (ap (λ r. r.facts) c.self.view_is) ∙ opened_facts c.self.inside.kept c.self.inside.assembly c.self.inside.failure kept in
    let fails : c.first_of-failure.result ≡ or_else c.args.self.now.facts.failure (failing from.Lost 107) = c.first_of-failure.ensures ∙ rw (c.failure.ensures, c.failing.ensures, facts) refl in
    lands_lost c.args.self.now c.land.result.0 c.land.ensures.heard (c.land.ensures.failure ∙ fails)
    (c.land.ensures.bytes ∙ ap (λ (o : Option Failure). buffer c.args.self.now.kind c.args.self.now.length c.args.self.now.bytes (error_number o) c.args.self.now.bytes) (sym c.land.ensures.failure))
