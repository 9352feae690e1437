use Rattle.std.proofs.Common.{◌≡◌, None, true, sym, ap, ◌∙◌, subst}
use Rattle.lnbd_model.specs.Kind.{is_read}
use Rattle.lnbd_chunks.specs.Chunk.{lies_within}
use Rattle.lnbd_outcome.specs.Pieces.{Query}
use Rattle.lnbd_machine.specs.Machine.{query_in}
use Rattle.lnbd_commands.proofs.FaultyLemmas.{clash_is}
use Rattle.lnbd_commands.proofs.MaskLemmas.{opened, opened_facts}
use Rattle.lnbd_commands.proofs.row.Row.is_faulty.Goals as goal

pub clashes-requires-clause-read : goal.clashes-requires-clause-read
clashes-requires-clause-read g c =
    let kept : c.self.inside.kept ≡ None = ap (λ r. r.kept) c.self.view_is ∙ c.requires.held in
    let held = opened c.self.inside.kept _ c.self.inside.buf.items c.self.inside.assembly kept c.self.invariant in
    let own : query_in c.args.self.now ≡ c.self.inside.assembly.query = rw (← c.self.view_is) (sym held.own) in
    sym (ap (λ (q : Query). is_read q.kind) own) ∙ c.requires.asked.0

pub clashes-requires-clause-within : goal.clashes-requires-clause-within
clashes-requires-clause-within g c =
    let kept : c.self.inside.kept ≡ None = ap (λ r. r.kept) c.self.view_is ∙ c.requires.held in
    let held = opened c.self.inside.kept _ c.self.inside.buf.items c.self.inside.assembly kept c.self.invariant in
    let own : query_in c.args.self.now ≡ c.self.inside.assembly.query = rw (← c.self.view_is) (sym held.own) in
    subst (λ (q : Query). lies_within (record { kind = q.kind; offset = q.offset; length = q.length; faults = 0 }) c.args.offset c.args.size ≡ true) own c.requires.asked.1

pub returns : goal.returns
returns g c =
    let kept : c.self.inside.kept ≡ None = ap (λ r. r.kept) c.self.view_is ∙ c.requires.held in
    let held = opened c.self.inside.kept _ c.self.inside.buf.items c.self.inside.assembly kept c.self.invariant in
    let own : query_in c.args.self.now ≡ c.self.inside.assembly.query = rw (← c.self.view_is) (sym held.own) in
    let facts = sym (ap (λ r. r.facts) c.self.view_is) ∙ opened_facts c.self.inside.kept c.self.inside.assembly c.self.inside.failure kept in
    c.clashes.ensures ∙ clash_is c.self.inside.assembly (query_in c.args.self.now) c.args.self.now.facts c.args.offset c.args.size own facts
