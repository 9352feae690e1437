use Rattle.std.proofs.Common.{◌≡◌, None, refl, sym, subst, ap, ◌∙◌}
use Rattle.std.specs.Prelude.{Option}
use Rattle.lnbd_model.specs.declared.failure.Failure.{Failure}
use Rattle.lnbd_model.specs.declared.failure.Origin.TheVariants as from
use Rattle.lnbd_outcome.specs.Hearing.{Hearing}
use Rattle.lnbd_outcome.specs.Outcome.{buffer, error_number, failing, or_else}
use Rattle.lnbd_history.specs.Entries.{heard_error}
use Rattle.lnbd_commands.specs.Contents.{bytes_in}
use Rattle.lnbd_commands.specs.Lands.{Hears, reply_bad, reply_failure, reply_hearing}
use Rattle.lnbd_commands.specs.Rows.{IsReal}
use Rattle.lnbd_commands.specs.Seen.{told_to}
use Rattle.lnbd_commands.proofs.LandsLemmas.{good_end, lands_reply}
use Rattle.lnbd_commands.proofs.MaskLemmas.{opened, opened_facts}
use Rattle.lnbd_commands.proofs.row.Row.land_reply.Goals as goal

pub land-requires-clause-whole : goal.land-requires-clause-whole
land-requires-clause-whole g c = λ read done.
    let kept : c.self.inside.kept ≡ None = ap (λ r. r.kept) c.self.view_is ∙ c.requires.held in
    let held = opened c.self.inside.kept _ c.self.inside.buf.items c.self.inside.assembly kept c.self.invariant in
    let facts : c.args.self.now.facts ≡ c.self.inside.assembly.facts = sym (ap (λ r. r.facts) c.self.view_is) ∙ opened_facts c.self.inside.kept c.self.inside.assembly c.self.inside.failure kept in
    let fails : c.first_of-failure.result ≡ or_else (or_else c.self.inside.assembly.facts.failure (reply_failure c.is_bad-bad.result c.args.error)) (failing from.Callback (heard_error c.in-Ok.heard)) =
    c.first_of-failure.ensures ∙ rw (c.first_of-first.ensures, c.failure-before.ensures, c.told_by.ensures, c.failing.ensures, c.number_of.ensures) refl in
    let good = good_end c.self.inside.assembly.facts.failure c.is_bad-bad.result c.args.error (heard_error c.in-Ok.heard) held.real (sym (ap error_number fails) ∙ done) in
    let sized = c.requires.sized in
    rw (good.0, read) at sized

pub returns-clause-lands : goal.returns-clause-lands
returns-clause-lands g c =
    let kept : c.self.inside.kept ≡ None = ap (λ r. r.kept) c.self.view_is ∙ c.requires.held in
    let held = opened c.self.inside.kept _ c.self.inside.buf.items c.self.inside.assembly kept c.self.invariant in
    let facts : c.args.self.now.facts ≡ c.self.inside.assembly.facts = sym (ap (λ r. r.facts) c.self.view_is) ∙ opened_facts c.self.inside.kept c.self.inside.assembly c.self.inside.failure kept in
    let real : IsReal c.args.self.now.facts.failure = rw facts held.real in
    let fails : c.first_of-failure.result ≡ or_else (or_else c.args.self.now.facts.failure (reply_failure (reply_bad c.args.self.now c.args.error) c.args.error)) (failing from.Callback (heard_error c.in-Ok.heard)) =
    c.first_of-failure.ensures ∙ rw (c.first_of-first.ensures, c.failure-before.ensures, c.told_by.ensures, c.failing.ensures, c.number_of.ensures, c.is_bad-bad.ensures, facts) refl in
    let hearing : told_to c.reply_hearing-told.result ≡ reply_hearing c.args.self.now.kind (reply_bad c.args.self.now c.args.error) c.args.error c.args.self.now.offset (bytes_in c.args.content) (error_number c.args.self.now.facts.failure) =
    c.reply_hearing-told.ensures ∙ rw (c.is_bad-bad.ensures, c.as_slice.ensures, c.error_number.ensures, c.failure-before.ensures, facts, ← c.self.view_is) refl in
    let told = subst (λ (o : Option Hearing). Hears g.K.Caller.steps c.self.inside.flight o c.in-Ok.heard c.args.desk.now.log c.hear.new.desk.log c.args.world.now c.hear.new.world) hearing c.in-Ok.ensures.hears in
    let flown = subst (λ r. Hears g.K.Caller.steps r.flight (reply_hearing c.args.self.now.kind (reply_bad c.args.self.now c.args.error) c.args.error c.args.self.now.offset (bytes_in c.args.content) (error_number c.args.self.now.facts.failure)) c.in-Ok.heard c.args.desk.now.log c.hear.new.desk.log c.args.world.now c.hear.new.world) c.self.view_is told in
    lands_reply g.K.Caller.steps c.args.self.now c.args.error (bytes_in c.args.content) c.land.result.0 c.args.desk.now.log c.hear.new.desk.log c.args.world.now c.hear.new.world
    real c.requires.sized c.land.ensures.flight (rw c.land.ensures.heard flown) (rw (c.land.ensures.heard, c.land.ensures.failure) fails) (c.land.ensures.bytes ∙ ap (λ (o : Option Failure). buffer c.args.self.now.kind c.args.self.now.length c.args.self.now.bytes (error_number o) (bytes_in c.args.content)) (sym c.land.ensures.failure))
