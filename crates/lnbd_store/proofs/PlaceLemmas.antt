-- The place of a file among others.
use Rattle.std.proofs.Common.{◌≡◌, ◌≢◌, ℕ, zero, suc, ◌<◌, List, [], ◌∷◌, true, false, cond, refl, ap, sym, subst, ◌∙◌, arith, Some, None, slice_get, slice_set}
use Rattle.std.proofs.lemmas.Slice.Eq.{bytes_eq-Decides}
use Rattle.std.specs.Prelude.{bytes_eq}
use Rattle.lnbd_store.specs.declared.file.StoreFile.{StoreFile}
use Rattle.lnbd_store.specs.Memory.{file_in, with_file, IsPlace, IsPut}

pub eq_self : (path : List ℕ) → bytes_eq path path ≡ true
eq_self path = (bytes_eq-Decides path path).1 refl

pub eq_is : (one other : List ℕ) → bytes_eq one other ≡ true → one ≡ other
eq_is one other h = (bytes_eq-Decides one other).0 h

pub differ : (one other : List ℕ) → other ≢ one → bytes_eq one other ≡ false
differ one other h = elim (bytes_eq one other) as (λ b. bytes_eq one other ≡ b → b ≡ false) [ true ↦ λ e. absurd (h (sym (eq_is one other e))) | false ↦ λ e. refl ] refl

pub none_in : (path : List ℕ) (files : List StoreFile) → ((j : ℕ) (other : StoreFile) → slice_get files j ≡ Some other → bytes_eq other.path path ≡ false) → file_in path files ≡ None
none_in path [] h = refl
none_in path (f ∷ fs) h = rw (h 0 f refl) (none_in path fs (λ j other e. h (suc j) other e))

pub found_at : (path : List ℕ) (files : List StoreFile) (i : ℕ) (file : StoreFile) → slice_get files i ≡ Some file → bytes_eq file.path path ≡ true →
    ((j : ℕ) (other : StoreFile) → j < i → slice_get files j ≡ Some other → bytes_eq other.path path ≡ false) → file_in path files ≡ Some file.bytes
found_at path [] i file h e b = absurd (cc)
found_at path (f ∷ fs) zero file h e b = let k : f ≡ file = cc in subst (λ (x : StoreFile). cond (bytes_eq x.path path) (Some x.bytes) (file_in path fs) ≡ Some file.bytes) (sym k) (rw e refl)
found_at path (f ∷ fs) (suc i) file h e b = rw (b 0 f (omega arith) refl) (found_at path fs i file h e (λ j other l g. b (suc j) other (omega (arith, l)) g))

pub set_at : (path bytes : List ℕ) (files : List StoreFile) (i : ℕ) (file : StoreFile) → slice_get files i ≡ Some file → bytes_eq file.path path ≡ true →
    ((j : ℕ) (other : StoreFile) → j < i → slice_get files j ≡ Some other → bytes_eq other.path path ≡ false) → with_file path bytes files ≡ slice_set files i (record file { bytes = bytes })
set_at path bytes [] i file h e b = absurd (cc)
set_at path bytes (f ∷ fs) zero file h e b = let k : f ≡ file = cc in subst (λ (x : StoreFile). cond (bytes_eq x.path path) (record x { bytes = bytes } ∷ fs) (x ∷ with_file path bytes fs) ≡ record file { bytes = bytes } ∷ fs) (sym k) (rw e refl)
set_at path bytes (f ∷ fs) (suc i) file h e b = rw (b 0 f (omega arith) refl) (ap (λ l. f ∷ l) (set_at path bytes fs i file h e (λ j other l g. b (suc j) other (omega (arith, l)) g)))

-- what a file in its place has then
pub with_here : (path bytes was : List ℕ) (files : List StoreFile) → file_in path files ≡ Some was → file_in path (with_file path bytes files) ≡ Some bytes
with_here path bytes was [] h = absurd (cc)
with_here path bytes was (f ∷ fs) h =
    elim (bytes_eq f.path path) as (λ b. bytes_eq f.path path ≡ b → cond b (Some f.bytes) (file_in path fs) ≡ Some was → file_in path (cond b (record f { bytes = bytes } ∷ fs) (f ∷ with_file path bytes fs)) ≡ Some bytes) [
      | true ↦ λ e k. rw e refl
      | false ↦ λ e k. rw e (with_here path bytes was fs k)
    ] refl h

pub with_other : (path bytes other : List ℕ) (files : List StoreFile) → bytes_eq path other ≡ false → file_in other (with_file path bytes files) ≡ file_in other files
with_other path bytes other [] h = refl
with_other path bytes other (f ∷ fs) h =
    elim (bytes_eq f.path path) as (λ b. bytes_eq f.path path ≡ b → file_in other (cond b (record f { bytes = bytes } ∷ fs) (f ∷ with_file path bytes fs)) ≡ cond (bytes_eq f.path other) (Some f.bytes) (file_in other fs)) [
      | true ↦ λ e. let p : f.path ≡ path = eq_is f.path path e in let q : bytes_eq f.path other ≡ false = ap (λ x. bytes_eq x other) p ∙ h in rw q refl
      | false ↦ λ e. ap (λ l. cond (bytes_eq f.path other) (Some f.bytes) l) (with_other path bytes other fs h)
    ] refl

some_is : {a b : StoreFile} → Some a ≡ Some b → a ≡ b
some_is e = cc

pub is_put : (path : List ℕ) (f : List ℕ → List ℕ) (files files2 : List StoreFile) (i : ℕ) (file : StoreFile) → IsPlace path files i → slice_get files i ≡ Some file → files2 ≡ slice_set files i (record file { bytes = f file.bytes }) → IsPut path f files files2
is_put path f files files2 i file k h e =
    let same : k.file ≡ file = some_is (sym k.there ∙ h) in
    record {
      bytes = file.bytes;
      was = found_at path files i file h (ap (λ (x : StoreFile). bytes_eq x.path path) (sym same) ∙ k.path_) k.before;
      is = e ∙ sym (set_at path (f file.bytes) files i file h (ap (λ (x : StoreFile). bytes_eq x.path path) (sym same) ∙ k.path_) k.before);
    }
