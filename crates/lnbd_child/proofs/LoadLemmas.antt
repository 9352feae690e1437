-- The export of a file's bytes.
use Rattle.std.proofs.Common.{◌≡◌, ℕ, zero, suc, ◌+◌, ◌≤◌, Bool, true, false, List, [], ◌∷◌, replicate, Option, refl, ap, sym, subst, ◌∙◌}
use Rattle.std.proofs.lemmas.Bool.{false≢true}
use Rattle.lnbd_extents.specs.Positions.{holds}
use Rattle.lnbd_export.specs.Export.{AreZeros, Export, flags}
use Rattle.lnbd_export.specs.Generated.{IsGenerated}
use Rattle.lnbd_store.specs.Call.{Call}
use Rattle.lnbd_store.specs.Shelf.{Shelf}
use Rattle.lnbd_store.specs.declared.serving.Content.{Content}
use Rattle.lnbd_store.specs.declared.serving.Content.TheVariants.{Made, File}
use Rattle.lnbd_child.specs.Closing.{Leaves, WritesBack, WritesNotBack}
use Rattle.lnbd_child.specs.Loading.{BeginsAs, Holds, IsFew, IsOfNumber, Loads, of_file}
use Rattle.lnbd_child.specs.Reading.{HasRead, IsRead, max_file}
use Rattle.lnbd_child.specs.Writing.{HasWritten, IsWritten, NotWritten}

no_flag : (start n : ℕ) → flags (holds []) start n ≡ replicate n false
no_flag start zero = refl
no_flag start (suc n) = ap (λ (xs : List Bool). false ∷ xs) (no_flag (start + 1) n)

pub no_flags : (zeros : List (ℕ × ℕ)) (start n : ℕ) → zeros ≡ [] → flags (holds zeros) start n ≡ replicate n false
no_flags zeros start n none = ap (λ (z : List (ℕ × ℕ)). flags (holds z) start n) none ∙ no_flag start n

pub no_zeros : (zeros : List (ℕ × ℕ)) (bytes : List ℕ) → zeros ≡ [] → AreZeros bytes (holds zeros)
no_zeros zeros bytes none = subst (λ (z : List (ℕ × ℕ)). AreZeros bytes (holds z)) (sym none) (λ p told. absurd (false≢true told))

pub bytes_of : (export : Export) (name bytes : List ℕ) (read_only : Bool) → export ≡ of_file name bytes read_only → export.bytes ≡ bytes
bytes_of export name bytes read_only e = ap (λ (x : Export). x.bytes) e

pub again : (export : Export) (name bytes : List ℕ) (read_only : Bool) → export ≡ of_file name bytes read_only → export ≡ of_file name export.bytes read_only
again export name bytes read_only e = e ∙ ap (λ (b : List ℕ). of_file name b read_only) (sym (bytes_of export name bytes read_only e))

-- What is asked for.

module _ (content : Content) (seed n : ℕ) (is : content ≡ Made seed n) where
  pub made_begins : (name : List ℕ) (read_only : Bool) (start : Export) → IsGenerated name seed n read_only start → BeginsAs content name read_only start
  made_begins name read_only start made = subst (λ (k : Content). BeginsAs k name read_only start) (sym is) made

  pub made_loads : (bytes : List ℕ) → Loads content bytes []
  made_loads bytes = subst (λ (k : Content). Loads k bytes []) (sym is) refl

  pub made_holds : (bytes : List ℕ) (files : Option Shelf) → Holds content bytes files files
  made_holds bytes files = subst (λ (k : Content). Holds k bytes files files) (sym is) refl

  pub made_few : IsFew content → n ≤ max_file
  made_few few = subst IsFew is few

  pub made_back : (read_only : Bool) (bytes : List ℕ) → WritesBack content read_only bytes []
  made_back read_only bytes = subst (λ (k : Content). WritesBack k read_only bytes []) (sym is) refl

  pub made_leaves : (read_only : Bool) (bytes : List ℕ) (files : Option Shelf) → Leaves content read_only bytes files files
  made_leaves read_only bytes files = subst (λ (k : Content). Leaves k read_only bytes files files) (sym is) refl

module _ (content : Content) (path : List ℕ) (is : content ≡ File path) where
  pub file_begins : (name : List ℕ) (read_only : Bool) (start : Export) → start ≡ of_file name start.bytes read_only → BeginsAs content name read_only start
  file_begins name read_only start e = subst (λ (k : Content). BeginsAs k name read_only start) (sym is) e

  pub file_loads : (bytes : List ℕ) (moves : List Call) → HasRead path bytes moves → Loads content bytes moves
  file_loads bytes moves read = subst (λ (k : Content). Loads k bytes moves) (sym is) read

  pub file_holds : (bytes : List ℕ) (old new : Option Shelf) → IsRead path bytes old new → Holds content bytes old new
  file_holds bytes old new read = subst (λ (k : Content). Holds k bytes old new) (sym is) read

  pub not_made : IsOfNumber content → ⊥
  not_made made = subst IsOfNumber is made

  module _ (read_only : Bool) where
    pub locked_back : read_only ≡ true → (bytes : List ℕ) → WritesBack content read_only bytes []
    locked_back locked bytes = subst (λ (b : Bool). WritesBack content b bytes []) (sym locked) (subst (λ (k : Content). WritesBack k true bytes []) (sym is) refl)

    pub locked_leaves : read_only ≡ true → (bytes : List ℕ) (files : Option Shelf) → Leaves content read_only bytes files files
    locked_leaves locked bytes files = subst (λ (b : Bool). Leaves content b bytes files files) (sym locked) (subst (λ (k : Content). Leaves k true bytes files files) (sym is) refl)

    pub file_back : read_only ≡ false → (bytes : List ℕ) (moves : List Call) → HasWritten path bytes moves → WritesBack content read_only bytes moves
    file_back free bytes moves written = subst (λ (b : Bool). WritesBack content b bytes moves) (sym free) (subst (λ (k : Content). WritesBack k false bytes moves) (sym is) written)

    pub file_unwritten : read_only ≡ false → (bytes : List ℕ) (moves : List Call) → NotWritten path bytes moves → WritesNotBack content read_only bytes moves
    file_unwritten free bytes moves un = subst (λ (b : Bool). WritesNotBack content b bytes moves) (sym free) (subst (λ (k : Content). WritesNotBack k false bytes moves) (sym is) un)

    pub file_leaves : read_only ≡ false → (bytes : List ℕ) (old new : Option Shelf) → IsWritten path bytes old new → Leaves content read_only bytes old new
    file_leaves free bytes old new written = subst (λ (b : Bool). Leaves content b bytes old new) (sym free) (subst (λ (k : Content). Leaves k false bytes old new) (sym is) written)
