use Rattle.std.proofs.Common.{ℕ, Bool, List, ◌+◌, ◌-◌, ◌*◌, ap, refl, ◌∙◌, arith, if◌then◌else◌}
use Rattle.lnbd_extents.specs.Positions.{within}
use Rattle.lnbd_export.specs.declared.spans.Span.{Span}
use Rattle.lnbd_export.specs.Spans.{tells, tells_at}
use Rattle.lnbd_export.proofs.SpanLaws.{told_across}
use Rattle.lnbd_export.proofs.spans.tell_across.Goals as goal

pub returns-clause-told : goal.returns-clause-told
returns-clause-told c =
    let first : ℕ = c.index_of-first.result in
    let last : ℕ = c.index_of-last.result in
    told_across (tells_at c.args.spans.now.items) (λ k p. tells c.tell.new.self p) (tells_at c.tell_in.new.spans.items) (tells_at c.put.new.spans.items) (tells_at c.cover.new.spans.items)
    c.args.start c.args.length first last ((first + 1) * 65536) (last * 65536) c.args.zero c.index_of-first.ensures c.index_of-last.ensures (omega arith) refl refl
    (λ p. c.in_ok-tell.ensures.told p
    ∙ ap (λ (b : Bool). if within (c.args.start, (first + 1) * 65536 - c.args.start) p then c.args.zero else b) (c.in_ok-front.ensures p ∙ ap (λ (spans : List Span). tells_at spans first p) c.deref.ensures.value))
    c.in_ok-tell_in.ensures.told c.in_ok-tell_in.ensures.others c.put.ensures.here c.put.ensures.others c.cover.ensures
