use Rattle.std.proofs.Common.{refl, ap}
use Rattle.lnbd_store.specs.Bytes.{cut_to}
use Rattle.lnbd_store.proofs.StoreLemmas.{changes_at}
use Rattle.lnbd_store.proofs.files.Files.cut.Goals as goal

pub returns-in_ok-cut-in-Some-clause-ok : goal.returns-in_ok-cut-in-Some-clause-ok
returns-in_ok-cut-in-Some-clause-ok c =
    changes_at c.args.file c.in-Some.i c.args.self.now (record { files = c.cut.new.files.items; opened = c.self.inside.opened.items }) c.self.inside.files.items c.cut.new.files.items (cut_to c.args.size)
    (ap (λ h. h.files) c.self.view_is) refl (c.in-Some.ensures.some).1 c.in_ok-cut-in-Some.ensures.ok (ap (λ h. h.opened) c.self.view_is)
