-- What a call on files in memory does, as the trait says it.
use Rattle.std.proofs.Common.{◌≡◌, ◌≢◌, ℕ, ◌++◌, ◌∷◌, List, [], Bool, true, false, refl, ap, sym, subst, ◌∙◌, length, Some, None, slice_get, cond, zero, suc, Result, Ok, Err, IfOk}
use Rattle.std.specs.Prelude.{bytes_eq}
use Rattle.lnbd_store.specs.declared.file.StoreFile.{StoreFile}
use Rattle.lnbd_store.specs.Memory.{Filed, shelf_of, IsPlace, IsPut, IsOf, IsMissing, file_in}
use Rattle.lnbd_store.specs.Shelf.{Shelf, Goes, Same, Opens, Reads, Changes, HasBytes, or_empty}
use Rattle.lnbd_store.proofs.PlaceLemmas.{found_at, with_here, with_other, eq_self, differ}

some_is : {a b : StoreFile} → Some a ≡ Some b → a ≡ b
some_is e = cc

path_is : {a b : List ℕ} → Some a ≡ Some b → a ≡ b
path_is e = cc

pub goes_told : (old new : Filed) (P : Shelf → Shelf → Type 0) → P (shelf_of old) (shelf_of new) → Goes (Some (shelf_of old)) (Some (shelf_of new)) P
goes_told old new P p = record { on = λ now e. let same : shelf_of new ≡ now = cc in (shelf_of old, refl, subst (λ (s : Shelf). P (shelf_of old) s) same p) }

pub same_held : (old new : Filed) → new.files ≡ old.files → new.opened ≡ old.opened → Same (shelf_of old) (shelf_of new)
same_held old new f o = record { files = λ path. ap (file_in path) f; paths = λ n. ap (λ l. slice_get l n) o }

-- a call that changes neither
pub same_filed : (old new : Filed) → new ≡ old → Same (shelf_of old) (shelf_of new)
same_filed old new e = same_held old new (ap (λ h. h.files) e) (ap (λ h. h.opened) e)

-- what is so of the bytes of a number's file
pub reads_filed : (n : ℕ) (old new : Filed) (bytes : List ℕ) (P : List ℕ → Type 0) → HasBytes n (shelf_of old) bytes → P bytes → new ≡ old → Reads n P (shelf_of old) (shelf_of new)
reads_filed n old new bytes P h p e = record { path = h.path; bytes = bytes; opened = h.opened; is = p; same = same_filed old new e }

-- the bytes of a file that is found
pub has_bytes : (n i : ℕ) (h : Filed) (file : StoreFile) → IsOf n h i → slice_get h.files i ≡ Some file → HasBytes n (shelf_of h) file.bytes
has_bytes n i h file k g =
    let same : k.place.file ≡ file = some_is (sym k.place.there ∙ g) in
    record { path = k.path; opened = record { path_ = k.number; file = found_at k.path h.files i file g (ap (λ (x : StoreFile). bytes_eq x.path k.path) (sym same) ∙ k.place.path_) k.place.before } }

pub changes_of : (n i : ℕ) (old new : Filed) (f : List ℕ → List ℕ) → IsOf n old i → ((path : List ℕ) → IsPlace path old.files i → IsPut path f old.files new.files) → new.opened ≡ old.opened → Changes n f (shelf_of old) (shelf_of new)
changes_of n i old new f k g o =
    let p = g k.path k.place in
    record {
      path = k.path;
      bytes = p.bytes;
      opened = record { path_ = k.number; file = p.was };
      file = ap (file_in k.path) p.is ∙ with_here k.path (f p.bytes) p.bytes old.files p.was;
      rest = λ other d. ap (file_in other) p.is ∙ with_other k.path (f p.bytes) other old.files (differ k.path other d);
      paths = λ m. ap (λ l. slice_get l m) o;
    }

-- A number more.

last_number : (path : List ℕ) (xs : List (List ℕ)) → slice_get (xs ++ path ∷ []) (length xs) ≡ Some path
last_number path [] = refl
last_number path (x ∷ xs) = last_number path xs

no_number : (xs : List (List ℕ)) → slice_get xs (length xs) ≡ None
no_number [] = refl
no_number (x ∷ xs) = no_number xs

other_number : (path : List ℕ) (xs : List (List ℕ)) (m : ℕ) → m ≢ length xs → slice_get (xs ++ path ∷ []) m ≡ slice_get xs m
other_number path [] zero d = absurd (d refl)
other_number path [] (suc m) d = refl
other_number path (x ∷ xs) zero d = refl
other_number path (x ∷ xs) (suc m) d = other_number path xs m (λ e. d (ap suc e))

file_last : (path : List ℕ) (files : List StoreFile) → file_in path files ≡ None → file_in path (files ++ record { path = path; bytes = [] } ∷ []) ≡ Some []
file_last path [] h = rw (eq_self path) refl
file_last path (f ∷ fs) h =
    elim (bytes_eq f.path path) as (λ b. cond b (Some f.bytes) (file_in path fs) ≡ None → cond b (Some f.bytes) (file_in path (fs ++ record { path = path; bytes = [] } ∷ [])) ≡ Some []) [
      | true ↦ λ e. absurd (cc)
      | false ↦ λ e. file_last path fs e
    ] h

file_other : (path other : List ℕ) (files : List StoreFile) → bytes_eq path other ≡ false → file_in other (files ++ record { path = path; bytes = [] } ∷ []) ≡ file_in other files
file_other path other [] h = rw h refl
file_other path other (f ∷ fs) h = ap (λ l. cond (bytes_eq f.path other) (Some f.bytes) l) (file_other path other fs h)

pub opens_found : (path : List ℕ) (write : Bool) (n i : ℕ) (old new : Filed) → IsPlace path old.files i → n ≡ length old.opened → new ≡ record old { opened = old.opened ++ path ∷ [] } → Opens path write n (shelf_of old) (shelf_of new)
opens_found path write n i old new k e now =
    let o : new.opened ≡ old.opened ++ path ∷ [] = ap (λ h. h.opened) now in
    let f : new.files ≡ old.files = ap (λ h. h.files) now in
    let is : file_in path old.files ≡ Some (or_empty (file_in path old.files)) = let at = found_at path old.files i k.file k.there k.path_ k.before in at ∙ sym (ap (λ b. Some (or_empty b)) at) in
    record {
      fresh = subst (λ (m : ℕ). slice_get old.opened m ≡ None) (sym e) (no_number old.opened);
      number = ap (λ l. slice_get l n) o ∙ subst (λ (m : ℕ). slice_get (old.opened ++ path ∷ []) m ≡ Some path) (sym e) (last_number path old.opened);
      numbers = λ m d. ap (λ l. slice_get l m) o ∙ other_number path old.opened m (λ g. d (g ∙ sym e));
      file = ap (file_in path) f ∙ is;
      found = λ read. is;
      rest = λ other d. ap (file_in other) f;
    }

pub opens_made : (path : List ℕ) (n : ℕ) (old new : Filed) → file_in path old.files ≡ None → n ≡ length old.opened → new.opened ≡ old.opened ++ path ∷ [] → new.files ≡ old.files ++ record { path = path; bytes = [] } ∷ [] → Opens path true n (shelf_of old) (shelf_of new)
opens_made path n old new none e o f = record {
  fresh = subst (λ (m : ℕ). slice_get old.opened m ≡ None) (sym e) (no_number old.opened);
  number = ap (λ l. slice_get l n) o ∙ subst (λ (m : ℕ). slice_get (old.opened ++ path ∷ []) m ≡ Some path) (sym e) (last_number path old.opened);
  numbers = λ m d. ap (λ l. slice_get l m) o ∙ other_number path old.opened m (λ g. d (g ∙ sym e));
  file = ap (file_in path) f ∙ file_last path old.files none ∙ sym (ap (λ b. Some (or_empty b)) none);
  found = λ read. absurd (cc);
  rest = λ other d. ap (file_in other) f ∙ file_other path other old.files (differ path other d);
}

pub if_ok_then : {T E : Type 0} {P Q : T → Type 0} (r : Result T E) → ((n : T) → P n → Q n) → IfOk r P → IfOk r Q
if_ok_then (Ok n) f h = f n h
if_ok_then (Err e) f h = tt

-- The same, where the files are known by another name.

pub changes_at : (n i : ℕ) (old new : Filed) (files files2 : List StoreFile) (f : List ℕ → List ℕ) → files ≡ old.files → files2 ≡ new.files → IsOf n old i → ((path : List ℕ) → IsPlace path files i → IsPut path f files files2) → new.opened ≡ old.opened →
    Changes n f (shelf_of old) (shelf_of new)
changes_at n i old new files files2 f e1 e2 k g o =
    changes_of n i old new f k (subst (λ (l : List StoreFile). (path : List ℕ) → IsPlace path old.files i → IsPut path f old.files l) e2 (subst (λ (l : List StoreFile). (path : List ℕ) → IsPlace path l i → IsPut path f l files2) e1 g)) o

pub has_bytes_at : (n i : ℕ) (h : Filed) (files : List StoreFile) (file : StoreFile) → files ≡ h.files → IsOf n h i → slice_get files i ≡ Some file → HasBytes n (shelf_of h) file.bytes
has_bytes_at n i h files file e k g = has_bytes n i h file k (ap (λ l. slice_get l i) (sym e) ∙ g)

pub opens_found_at : (path : List ℕ) (write : Bool) (n i : ℕ) (old new : Filed) (files : List StoreFile) → files ≡ old.files → IsPlace path files i → n ≡ length old.opened → new ≡ record old { opened = old.opened ++ path ∷ [] } → Opens path write n (shelf_of old) (shelf_of new)
opens_found_at path write n i old new files e k = opens_found path write n i old new (subst (λ (l : List StoreFile). IsPlace path l i) e k)

-- What is missing.

pub missing_number : (n : ℕ) (h : Filed) → slice_get h.opened n ≡ None → IsMissing n h
missing_number n h e = record { none = λ path bytes o. let k : slice_get h.opened n ≡ Some path = o.path_ in cc }

pub missing_file : (n : ℕ) (path : List ℕ) (h : Filed) → slice_get h.opened n ≡ Some path → file_in path h.files ≡ None → IsMissing n h
missing_file n path h e f = record {
  none = λ other bytes o.
      let k : slice_get h.opened n ≡ Some other = o.path_ in
      let same : path ≡ other = path_is (sym e ∙ k) in
      let there : file_in path h.files ≡ Some bytes = subst (λ (p : List ℕ). file_in p h.files ≡ Some bytes) (sym same) o.file in
      cc;
}

-- the bytes of the file at a place
pub file_at : (path : List ℕ) (i : ℕ) (here files : List StoreFile) (file : StoreFile) → here ≡ files → IsPlace path here i → slice_get here i ≡ Some file → file_in path files ≡ Some file.bytes
file_at path i here files file e k g =
    let same : k.file ≡ file = some_is (sym k.there ∙ g) in
    ap (file_in path) (sym e) ∙ found_at path here i file g (ap (λ (x : StoreFile). bytes_eq x.path path) (sym same) ∙ k.path_) k.before

-- a file that is there has one number more, where files and numbers are known by other names
pub opens_numbered : (path : List ℕ) (write : Bool) (n i : ℕ) (old : Filed) (files : List StoreFile) (opened opened2 : List (List ℕ)) (here : List StoreFile) → files ≡ old.files → opened ≡ old.opened → here ≡ files → IsPlace path here i →
    n ≡ length opened → opened2 ≡ opened ++ path ∷ [] → Opens path write n (shelf_of old) (shelf_of (record { files = files; opened = opened2 }))
opens_numbered path write n i old files opened opened2 here f o d k e now =
    let same : opened2 ≡ old.opened ++ path ∷ [] = now ∙ ap (λ l. l ++ path ∷ []) o in
    let is : record { files = files; opened = opened2 } ≡ record old { opened = old.opened ++ path ∷ [] } = cc in
    opens_found_at path write n i old (record { files = files; opened = opened2 }) here (d ∙ f) k (e ∙ ap length o) is
