-- The calls on a client's callbacks, each with its arguments and its answer.
use Rattle.std.specs.Prelude.{ℕ, List, Bool, true, false, ◌==◌, if◌then◌else◌}
use Rattle.lnbd_model.specs.declared.export.Extent.{Extent}
use Rattle.lnbd_callbacks.specs.declared.caller.Heard.{Heard}
use Rattle.lnbd_callbacks.specs.declared.caller.Heard.TheVariants.{Going, Fail}
use Rattle.lnbd_callbacks.specs.declared.caller.Verdict.{Verdict}
use Rattle.lnbd_callbacks.specs.declared.caller.Verdict.TheVariants.{Keep, Retire}

-- one call: the callback, the function with its arguments, and the answer as it counts
pub data Call (K : Type 0) : Type 0 where
  Chunk : (callback : K) (bytes : List ℕ) (offset status error : ℕ) (heard : Heard) → Call K
  Extents : (callback : K) (context : List ℕ) (offset : ℕ) (entries : List Extent) (error : ℕ) (heard : Heard) → Call K
  Complete : (callback : K) (error : ℕ) (buf : List ℕ) (verdict : Verdict) → Call K
  Free : (callback : K) → Call K

-- an answer as it counts: to fail with the number 0 is to fail with EPROTO, 71
abbrev pub counted : Heard → Heard
counted Going = Going
counted (Fail number) = Fail (if number == 0 then 71 else number)

-- the number by which a note tells an answer that counts: 0 where all is well
abbrev pub heard_number : Heard → ℕ
heard_number Going = 0
heard_number (Fail number) = number

-- whether the verdict keeps the result
abbrev pub is_keep : Verdict → Bool
is_keep (Keep error buf) = true
is_keep Retire = false
