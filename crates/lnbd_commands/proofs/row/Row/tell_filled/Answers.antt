use Rattle.std.proofs.Common.{◌≡◌, Bool, if◌then◌else◌, false, None, sym, subst, ap, ◌∙◌}
use Rattle.lnbd_outcome.specs.Facts.{Facts, is_bad}
use Rattle.lnbd_outcome.specs.Hearing.{content_heard}
use Rattle.lnbd_outcome.specs.Outcome.{error_number}
use Rattle.lnbd_outcome.specs.Pieces.{Query}
use Rattle.lnbd_records.specs.Content.{Data}
use Rattle.lnbd_machine.specs.Machine.{query_in}
use Rattle.lnbd_commands.specs.Lands.{Hears, known_of}
use Rattle.lnbd_commands.proofs.MaskLemmas.{opened, opened_facts}
use Rattle.lnbd_commands.proofs.TellLemmas.{bad_row, bad_held, good_row, good_held}
use Rattle.lnbd_commands.proofs.row.Row.tell_filled.Goals as goal

pub invariant_of-self-then-bad : goal.invariant_of-self-then-bad
invariant_of-self-then-bad g c =
    let kept : c.self.inside.kept ≡ None = ap (λ r. r.kept) c.self.view_is ∙ c.requires.held in
    bad_held c.self.inside.kind c.self.inside.flags c.self.inside.offset c.self.inside.length c.self.inside.flight c.self.inside.buf.items c.self.inside.assembly c.tell.new.self c.self.inside.failure c.args.contexts.now (Data c.args.offset c.args.buffer.items) c.self.inside.kept kept c.self.invariant (rw c.as_slice.ensures.value at (c.in-Ok-tell.ensures.ok false))

pub returns-then-bad-clause-row : goal.returns-then-bad-clause-row
returns-then-bad-clause-row g c =
    let kept : c.self.inside.kept ≡ None = ap (λ r. r.kept) c.self.view_is ∙ c.requires.held in
    let held = opened c.self.inside.kept _ c.self.inside.buf.items c.self.inside.assembly kept c.self.invariant in
    let bad = ap (λ (q : Query). is_bad q c.args.contexts.now c.self.inside.assembly.facts (Data c.args.offset c.args.buffer.items)) (sym held.own) ∙ sym (rw c.as_slice.ensures.value at c.in-Ok-tell.ensures.fault) ∙ c.if-bad.true in
    rw (← c.self.view_is) (bad_row c.self.inside.kind c.self.inside.flags c.self.inside.offset c.self.inside.length c.self.inside.flight c.self.inside.buf.items c.self.inside.assembly c.tell.new.self c.self.inside.failure c.args.contexts.now (Data c.args.offset c.args.buffer.items) c.self.inside.kept kept c.self.invariant bad (rw c.as_slice.ensures.value at (c.in-Ok-tell.ensures.ok false)))

pub invariant_of-self-in-Ok-hear : goal.invariant_of-self-in-Ok-hear
invariant_of-self-in-Ok-hear g c =
    let kept : c.self.inside.kept ≡ None = ap (λ r. r.kept) c.self.view_is ∙ c.requires.held in
    good_held c.self.inside.kind c.self.inside.flags c.self.inside.offset c.self.inside.length c.self.inside.flight c.self.inside.buf.items c.self.inside.assembly c.tell.new.self c.self.inside.failure c.args.contexts.now (Data c.args.offset c.args.buffer.items) c.fail.new.self c.in-Ok-hear.heard (rw c.number_of.ensures at c.fail.ensures) c.self.inside.kept kept c.self.invariant (rw c.as_slice.ensures.value at (c.in-Ok-tell.ensures.ok false)) c.put_filled-spare.new.own.items c.put_filled-spare.ensures.bytes

pub returns-clause-row : goal.returns-clause-row
returns-clause-row g c =
    let kept : c.self.inside.kept ≡ None = ap (λ r. r.kept) c.self.view_is ∙ c.requires.held in
    let held = opened c.self.inside.kept _ c.self.inside.buf.items c.self.inside.assembly kept c.self.invariant in
    let fine = ap (λ (q : Query). is_bad q c.args.contexts.now c.self.inside.assembly.facts (Data c.args.offset c.args.buffer.items)) (sym held.own) ∙ sym (rw c.as_slice.ensures.value at c.in-Ok-tell.ensures.fault) ∙ c.if-bad.false in
    rw (← c.self.view_is) (good_row c.self.inside.kind c.self.inside.flags c.self.inside.offset c.self.inside.length c.self.inside.flight c.self.inside.buf.items c.self.inside.assembly c.tell.new.self c.self.inside.failure c.args.contexts.now (Data c.args.offset c.args.buffer.items) c.fail.new.self c.in-Ok-hear.heard (rw c.number_of.ensures at c.fail.ensures) (known_of c.args.self.now) (sym (ap (λ r. r.kind) c.self.view_is)) c.requires.inside c.self.inside.kept kept c.self.invariant fine (rw c.as_slice.ensures.value at (c.in-Ok-tell.ensures.ok false)) c.put_filled-spare.new.own.items c.put_filled-spare.ensures.bytes)

pub returns-clause-hears : goal.returns-clause-hears
returns-clause-hears g c =
    let kept : c.self.inside.kept ≡ None = ap (λ r. r.kept) c.self.view_is ∙ c.requires.held in
    let held = opened c.self.inside.kept _ c.self.inside.buf.items c.self.inside.assembly kept c.self.invariant in
    let facts : c.args.self.now.facts ≡ c.self.inside.assembly.facts = sym (ap (λ r. r.facts) c.self.view_is) ∙ opened_facts c.self.inside.kept c.self.inside.assembly c.self.inside.failure kept in
    let own : query_in c.args.self.now ≡ c.self.inside.assembly.query = rw (← c.self.view_is) (sym held.own) in
    let fine : is_bad (query_in c.args.self.now) c.args.contexts.now c.args.self.now.facts (Data c.args.offset c.args.buffer.items) ≡ false =
    ap (λ (q : Query). is_bad q c.args.contexts.now c.args.self.now.facts (Data c.args.offset c.args.buffer.items)) own
    ∙ ap (λ (f : Facts). is_bad c.self.inside.assembly.query c.args.contexts.now f (Data c.args.offset c.args.buffer.items)) facts
    ∙ sym (rw c.as_slice.ensures.value at c.in-Ok-tell.ensures.fault) ∙ c.if-bad.false in
    let error : c.error-error.result ≡ error_number c.args.self.now.facts.failure = c.error-error.ensures ∙ ap (λ (f : Facts). error_number f.failure) (sym facts) in
    let told = rw (c.as_slice-2.ensures.value, error) at (rw c.in-Ok.ensures.ok at c.in-Ok-hear.ensures.hears) in
    subst (λ (b : Bool). Hears g.K.Caller.steps c.args.self.now.flight (if b then None else content_heard (query_in c.args.self.now) c.args.contexts.now (error_number c.args.self.now.facts.failure) (Data c.args.offset c.args.buffer.items)) c.in-Ok-hear.heard c.args.desk.now.log c.hear.new.desk.log c.args.world.now c.hear.new.world) (sym fine)
    (subst (λ r. Hears g.K.Caller.steps r.flight (content_heard (query_in c.args.self.now) c.args.contexts.now (error_number c.args.self.now.facts.failure) (Data c.args.offset c.args.buffer.items)) c.in-Ok-hear.heard c.args.desk.now.log c.hear.new.desk.log c.args.world.now c.hear.new.world) c.self.view_is told)
