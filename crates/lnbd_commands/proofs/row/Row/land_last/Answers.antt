use Rattle.std.proofs.Common.{◌≡◌, None, refl, ap, sym, ◌∙◌}
use Rattle.std.specs.Prelude.{Option}
use Rattle.lnbd_model.specs.declared.failure.Failure.{Failure}
use Rattle.lnbd_outcome.specs.Outcome.{buffer, error_number, or_else}
use Rattle.lnbd_commands.specs.Lands.{lacking}
use Rattle.lnbd_commands.proofs.MaskLemmas.{opened, opened_facts}
use Rattle.lnbd_commands.proofs.RealLemmas.{whole_end}
use Rattle.lnbd_commands.proofs.row.Row.land_last.Goals as goal

pub land-requires-clause-whole : goal.land-requires-clause-whole
land-requires-clause-whole g c = λ read done.
    let kept : c.self.inside.kept ≡ None = ap (λ r. r.kept) c.self.view_is ∙ c.requires.held in
    let held = opened c.self.inside.kept _ c.self.inside.buf.items c.self.inside.assembly kept c.self.invariant in
    let facts : c.args.self.now.facts ≡ c.self.inside.assembly.facts = sym (ap (λ r. r.facts) c.self.view_is) ∙ opened_facts c.self.inside.kept c.self.inside.assembly c.self.inside.failure kept in
    let fails : c.first_of-failure.result ≡ or_else c.self.inside.assembly.facts.failure (lacking c.args.contexts.now c.args.self.now) = c.first_of-failure.ensures ∙ rw (c.failure.ensures, c.lack-lack.ensures) refl in
    whole_end c.args.self.now c.args.contexts.now c.self.inside.assembly.facts.failure held.real read (sym (ap error_number fails) ∙ done)

pub returns-clause-ends : goal.returns-clause-ends
returns-clause-ends g c =
    let kept : c.self.inside.kept ≡ None = ap (λ r. r.kept) c.self.view_is ∙ c.requires.held in
    let held = opened c.self.inside.kept _ c.self.inside.buf.items c.self.inside.assembly kept c.self.invariant in
    let facts : c.args.self.now.facts ≡ c.self.inside.assembly.facts = sym (ap (λ r. r.facts) c.self.view_is) ∙ opened_facts c.self.inside.kept c.self.inside.assembly c.self.inside.failure kept in
    let fails : c.first_of-failure.result ≡ or_else c.args.self.now.facts.failure (lacking c.args.contexts.now c.args.self.now) = c.first_of-failure.ensures ∙ rw (c.failure.ensures, c.lack-lack.ensures, facts) refl in
    record {
      flight = c.land.ensures.flight;
      heard = c.land.ensures.heard;
      failure = c.land.ensures.failure ∙ fails;
      bytes = c.land.ensures.bytes ∙ ap (λ (o : Option Failure). buffer c.args.self.now.kind c.args.self.now.length c.args.self.now.bytes (error_number o) c.args.self.now.bytes) (sym c.land.ensures.failure);
    }
