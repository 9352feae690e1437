-- How many bytes were read, written and passed over.
use Rattle.std.proofs.Common.{◌≡◌, ◌-◌, ◌<◌, ◌≤◌, ◌^◌, ◌||◌, Bool, true, ℕ, refl, ap, sym, subst, ◌∙◌, arith}
use Rattle.std.specs.Prelude.{if◌then◌else◌, nat_lt}
use Rattle.lnbd_plan.specs.declared.options.CopyOptions.{CopyOptions}
use Rattle.lnbd_plan.specs.declared.summary.Summary.{Summary}
use Rattle.lnbd_touched.specs.Grown.{RoseBy}
use Rattle.lnbd_copyfile.specs.Between.{IsSummed, copied_length}
use Rattle.lnbd_copyfile.specs.Zeros.{block_of}

pub summed_is : (size read written : ℕ) (summary : Summary) (g0 g1 g2 t0 t1 t2 : ℕ)
    → summary ≡ record { read = read; written = written; zeroed = 0; skipped = size - written } → size < 2 ^ 63 → written ≤ read → read ≤ size
    → g1 ≡ g0 → RoseBy read g1 g2 → t1 ≡ t0 → RoseBy written t1 t2 → IsSummed summary g0 g2 t0 t2
summed_is size read written summary g0 g1 g2 t0 t1 t2 is bound few least e f k h =
    subst (λ (s : Summary). IsSummed s g0 g2 t0 t2) (sym is) (record {
      read = λ low. let rose = f.on (omega (arith, low, e, bound, least)) in omega (arith, rose, e);
      written = λ low. let rose = h.on (omega (arith, low, k, bound, few, least)) in omega (arith, rose, k);
      few = few;
      low = omega (arith, few, least);
      zeroed = refl;
    })

-- what was written and what was passed over is the whole file
pub all_copied : (size read written : ℕ) (summary : Summary) → summary ≡ record { read = read; written = written; zeroed = 0; skipped = size - written } → written ≤ read → read ≤ size
    → size ≡ copied_length summary
all_copied size read written summary is few least = subst (λ (s : Summary). size ≡ copied_length s) (sym is) (omega (arith, few, least))

pub none_skipped : (size read written : ℕ) (summary : Summary) → summary ≡ record { read = read; written = written; zeroed = 0; skipped = size - written } → written ≡ size
    → summary.skipped ≡ 0
none_skipped size read written summary is all = ap (λ (s : Summary). s.skipped) is ∙ omega (arith, all)

pub no_blocks : (options : CopyOptions) → options.allocated ≡ true → block_of options ≡ 0
no_blocks options on = ap (λ (b : Bool). if b || nat_lt options.request_size options.sparse then 0 else options.sparse) on
