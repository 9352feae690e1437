use Rattle.std.proofs.Common.{◌≡◌, ◌<◌, List, length, refl, ap, sym, subst}
use Rattle.std.proofs.lemmas.Option.{slice_get_read}
use Rattle.lnbd_store.specs.declared.file.StoreFile.{StoreFile}
use Rattle.lnbd_store.proofs.StoreLemmas.{has_bytes_at}
use Rattle.lnbd_store.proofs.files.Files.bytes.Goals as goal

pub returns-in-Some-clause-some : goal.returns-in-Some-clause-some
returns-in-Some-clause-some c =
    let files = c.self.inside.files.items in
    let e : files ≡ c.args.self.now.files = ap (λ h. h.files) c.self.view_is in
    let l : c.in-Some.i < length files = subst (λ (xs : List StoreFile). c.in-Some.i < length xs) (sym e) (c.in-Some.ensures.some).0 in
    rw c.as_slice.ensures (has_bytes_at c.args.file c.in-Some.i c.args.self.now files c.index.result.now e (c.in-Some.ensures.some).1 (slice_get_read files (length files) c.in-Some.i c.index.result.now refl l c.index.ensures))
