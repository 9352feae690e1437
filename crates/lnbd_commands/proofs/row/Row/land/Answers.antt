use Rattle.std.proofs.Common.{◌≡◌, None, ap, ◌∙◌}
use Rattle.lnbd_commands.proofs.MaskLemmas.{land_seen, opened}
use Rattle.lnbd_commands.proofs.row.Row.land.Goals as goal

pub returns-clause-bytes : goal.returns-clause-bytes
returns-clause-bytes g c =
    let kept : c.self.inside.kept ≡ None = ap (λ r. r.kept) c.self.view_is ∙ c.requires.held in
    let held = opened c.self.inside.kept _ c.self.inside.buf.items c.self.inside.assembly kept c.self.invariant in
    let whole = rw (← c.self.view_is) at c.requires.whole in
    let seen = land_seen c.self.inside.flags c.self.inside.offset c.self.inside.length c.self.inside.flight c.self.inside.buf.items c.self.inside.assembly c.self.inside.failure (Rattle.lnbd_outcome.specs.Outcome.error_number c.args.failure) c.self.inside.kind c.self.inside.kept c.args.content kept held.buffer whole in
    rw (← c.self.view_is, c.from_vec-2.ensures, c.last_buffer-bytes.ensures.bytes, c.error_number-error.ensures, c.replace-own.ensures.value) seen
