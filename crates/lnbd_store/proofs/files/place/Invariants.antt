use Rattle.std.proofs.Common.{◌≡◌, ℕ, ◌<◌, Some, slice_get, false}
use Rattle.std.specs.Prelude.{bytes_eq}
use Rattle.lnbd_store.specs.declared.file.StoreFile.{StoreFile}
use Rattle.lnbd_store.proofs.files.place.Given as goal

abbrev pub invariant-files : goal.invariant-files
invariant-files l = (j : ℕ) (other : StoreFile) → j < l.i → slice_get l.files j ≡ Some other → bytes_eq other.path l.path ≡ false
