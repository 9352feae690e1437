use Rattle.std.proofs.Common.{◌≡◌, ◌<◌, List, length, refl, ap, subst}
use Rattle.std.proofs.lemmas.Option.{slice_get_read}
use Rattle.lnbd_store.specs.declared.file.StoreFile.{StoreFile}
use Rattle.lnbd_store.specs.Memory.{IsPlace}
use Rattle.lnbd_store.proofs.StoreLemmas.{file_at}
use Rattle.lnbd_store.proofs.files.Files.at.Goals as goal

pub returns-in-Some-clause-some : goal.returns-in-Some-clause-some
returns-in-Some-clause-some c =
    let files = c.self.inside.files.items in
    let e : files ≡ c.args.self.now.files = ap (λ h. h.files) c.self.view_is in
    let d : c.deref.result.now ≡ files = c.deref.ensures.value in
    let k : IsPlace c.args.path.now files c.in-Some.i = subst (λ (l : List StoreFile). IsPlace c.args.path.now l c.in-Some.i) d (c.in-Some.ensures.some).1 in
    let l : c.in-Some.i < length files = subst (λ (l : List StoreFile). c.in-Some.i < length l) d (c.in-Some.ensures.some).0 in
    rw c.as_slice.ensures (file_at c.args.path.now c.in-Some.i files c.args.self.now.files c.index.result.now e k (slice_get_read files (length files) c.in-Some.i c.index.result.now refl l c.index.ensures))
