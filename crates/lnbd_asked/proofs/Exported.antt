-- An export and its size: what of the one was told shows what of the other was.
use Rattle.std.proofs.Common.{◌≡◌, ℕ, Option, Some, None, refl, ap, ◌∙◌}
use Rattle.lnbd_history.specs.declared.kinds.Phase.{Phase}
use Rattle.lnbd_history.specs.declared.kinds.Phase.TheVariants.{Greeting, Asked, AskedByName, OptMode, Ready, Refused}
use Rattle.lnbd_history.specs.Agreement.{Export}
use Rattle.lnbd_asked.specs.Exports.{export_known, SizeWasTold, SizesAreOfExports}
use Rattle.lnbd_asked.specs.Transcript.{export_at, size_of}

none_exported : (export : Export) → None ≡ Some export → ⊥
none_exported export e = cc

none_sized : (size : ℕ) → None ≡ Some size → ⊥
none_sized size e = cc

-- An export is told where requests may be made, and nowhere else.
pub exported_ready : (p : Phase) (told : Option Export) (export : Export) → export_at p told ≡ Some export → p ≡ Ready
exported_ready Ready told export e = refl
exported_ready Greeting told export e = absurd (none_exported export e)
exported_ready (Asked option) told export e = absurd (none_exported export e)
exported_ready AskedByName told export e = absurd (none_exported export e)
exported_ready OptMode told export e = absurd (none_exported export e)
exported_ready (Refused code) told export e = absurd (none_exported export e)

-- A size is that of an export.
pub of_size : (told : Option Export) (size : ℕ) → size_of told ≡ Some size → (export : Export) × (told ≡ Some export) × (export.size ≡ size)
of_size None size e = absurd (none_sized size e)
of_size (Some export) size e = (export, refl, same export.size size e)
  where
    same : (one other : ℕ) → Some one ≡ Some other → one ≡ other
    same one other e = cc

pub sized_as : (told : Option Export) (export : Export) (size : ℕ) → told ≡ Some export → export.size ≡ size → size_of told ≡ Some size
sized_as told export size e same = ap size_of e ∙ ap (λ (n : ℕ). Some n) same

pub size_was_told : {K : Type 0} → SizeWasTold K
size_was_told history export w = record { earlier = w.earlier; since = w.since; is = w.is; knew = ap size_of w.knew; out = w.out }

pub sizes_are_of_exports : {K : Type 0} → SizesAreOfExports K
sizes_are_of_exports history size w =
    let o = of_size (export_known w.earlier) size w.knew in
    (o.0, record { earlier = w.earlier; since = w.since; is = w.is; knew = o.1; out = w.out }, o.2)
