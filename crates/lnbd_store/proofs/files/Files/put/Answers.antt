use Rattle.std.proofs.Common.{refl, ap}
use Rattle.lnbd_store.specs.Bytes.{put_at}
use Rattle.lnbd_store.proofs.StoreLemmas.{changes_at}
use Rattle.lnbd_store.proofs.files.Files.put.Goals as goal

pub returns-in_ok-put-in-Some-clause-ok : goal.returns-in_ok-put-in-Some-clause-ok
returns-in_ok-put-in-Some-clause-ok c =
    changes_at c.args.file c.in-Some.i c.args.self.now (record { files = c.put.new.files.items; opened = c.self.inside.opened.items }) c.self.inside.files.items c.put.new.files.items (put_at c.args.offset c.args.from.now)
    (ap (λ h. h.files) c.self.view_is) refl (c.in-Some.ensures.some).1 c.in_ok-put-in-Some.ensures.ok (ap (λ h. h.opened) c.self.view_is)
