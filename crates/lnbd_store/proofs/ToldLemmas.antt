-- What a call leaves told.
use Rattle.std.proofs.Common.{◌≡◌, ◌++◌, ◌∷◌, List, [], ap, ◌∙◌, Option, None, Result, Ok, Err, IfOk, OnErr}
use Rattle.lnbd_link.specs.Part.{Adds}
use Rattle.lnbd_model.specs.declared.fault.NoMemory.{NoMemory}
use Rattle.lnbd_store.specs.declared.log.Kept.{Kept}
use Rattle.lnbd_store.specs.Call.{Call}
use Rattle.lnbd_store.specs.Log.{call_of}
use Rattle.lnbd_store.specs.Memory.{Stays}

-- the call stands at the end of what was told before, where it was kept
pub told_then : (old mid new : Option (List Call)) (made : Result Kept NoMemory) (call : Call) → Stays old mid → IfOk made (λ kept. Adds mid new (call_of kept)) → OnErr made (new ≡ None) → IfOk made (λ kept. call_of kept ≡ call) → Adds old new call
told_then old mid new (Ok kept) call stays adds none is = λ ys e. let r = adds ys e in (r.0, stays r.0 r.1, r.2 ∙ ap (λ c. r.0 ++ c ∷ []) is)
told_then old mid new (Err fault) call stays adds none is = λ ys e. absurd (cc)

-- the same of a call that is kept as it is
pub told_as : (old mid new : Option (List Call)) (kept : Kept) (call : Call) → Stays old mid → Adds mid new (call_of kept) → call_of kept ≡ call → Adds old new call
told_as old mid new kept call stays adds is = λ ys e. let r = adds ys e in (r.0, stays r.0 r.1, r.2 ∙ ap (λ c. r.0 ++ c ∷ []) is)
