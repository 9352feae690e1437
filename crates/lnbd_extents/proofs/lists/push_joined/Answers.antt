use Rattle.std.proofs.Common.{ℕ, ◌+◌, ◌<◌, ◌≡◌, ◌++◌, [], ◌∷◌, ◌∙◌, ap, arith}
use Rattle.lnbd_extents.specs.Lists.{span, flags_at, AreJoined, joining}
use Rattle.lnbd_extents.proofs.ListLaws.{then_ok, flags_at_joining, span_joining, joined_joining, flags_with_empty}
use Rattle.lnbd_extents.proofs.lists.push_joined.Goals as goal

pub returns-then-extent-eq0-clause-flags : goal.returns-then-extent-eq0-clause-flags
returns-then-extent-eq0-clause-flags c = flags_with_empty c.args.list.now.items c.args.extent c.if-extent-eq0.true

pub returns-clause-flags : goal.returns-clause-flags
returns-clause-flags c =
    then_ok c.put_last.result (c.put_last.new.list.items ≡ joining c.args.list.now.items c.args.extent)
    ((p : ℕ) → flags_at c.put_last.new.list.items p ≡ flags_at (c.args.list.now.items ++ c.args.extent ∷ []) p)
    (λ e p. ap (λ xs. flags_at xs p) e ∙ flags_at_joining c.args.list.now.items c.args.extent p) c.put_last.ensures.ok

pub returns-clause-length : goal.returns-clause-length
returns-clause-length c =
    then_ok c.put_last.result (c.put_last.new.list.items ≡ joining c.args.list.now.items c.args.extent)
    (span c.put_last.new.list.items ≡ span c.args.list.now.items + c.args.extent.length)
    (λ e. ap span e ∙ span_joining c.args.list.now.items c.args.extent) c.put_last.ensures.ok

pub returns-clause-joined : goal.returns-clause-joined
returns-clause-joined c =
    let some : 0 < c.args.extent.length = omega arith in
    then_ok c.put_last.result (c.put_last.new.list.items ≡ joining c.args.list.now.items c.args.extent)
    (AreJoined c.args.list.now.items → AreJoined c.put_last.new.list.items)
    (λ e j. rw e (joined_joining c.args.list.now.items c.args.extent some j)) c.put_last.ensures.ok
