use Rattle.std.proofs.Common.{ℕ, ◌+◌, ◌<◌, ◌≡◌, ◌++◌, min}
use Rattle.lnbd_extents.specs.Lists.{span, flags_at, clipped}
use Rattle.lnbd_extents.proofs.ListLaws.{then_ok, flags_after_clip, span_after_clip}
use Rattle.lnbd_extents.proofs.lists.clip.Goals as goal

pub returns-clause-flags : goal.returns-clause-flags
returns-clause-flags c =
    then_ok c.append_clipped.result (c.append_clipped.new.out.items ≡ c.args.out.now.items ++ clipped c.args.length c.args.entries.now)
    ((p : ℕ) → p < c.args.length → flags_at c.append_clipped.new.out.items (span c.args.out.now.items + p) ≡ flags_at c.args.entries.now p)
    (flags_after_clip c.args.length c.args.entries.now c.args.out.now.items c.append_clipped.new.out.items) c.append_clipped.ensures.ok

pub returns-clause-end : goal.returns-clause-end
returns-clause-end c =
    then_ok c.append_clipped.result (c.append_clipped.new.out.items ≡ c.args.out.now.items ++ clipped c.args.length c.args.entries.now)
    (span c.append_clipped.new.out.items ≡ span c.args.out.now.items + min c.args.length (span c.args.entries.now))
    (span_after_clip c.args.length c.args.entries.now c.args.out.now.items c.append_clipped.new.out.items) c.append_clipped.ensures.ok
