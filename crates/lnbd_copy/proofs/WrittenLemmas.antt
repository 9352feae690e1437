-- Of a link that was written in vain the last write took nothing.
use Rattle.std.proofs.Common.{◌≡◌, ◌==◌, ℕ, Bool, true, false, List, [], ◌∷◌, ◌++◌, Option, Some, None, if◌then◌else◌, refl, ap, ◌∙◌}
use Rattle.std.specs.List.{list_any}
use Rattle.std.proofs.lemmas.Bool.{eq-eqb}
use Rattle.lnbd_link.specs.Call as wire
use Rattle.lnbd_link.specs.Call.{Connect, Listen, Accept, Read, Write, Pause, Shut, Moved, Unready, Ended, ReadFault, WriteTold, Sent, Full, WriteFault}
use Rattle.lnbd_usage.specs.Vain.{has_happened}
use Rattle.lnbd_copy.specs.Written.{VainWritesAreLast, last_write, told_after, told_with}
use Rattle.lnbd_copy.proofs.FullLemmas.{true_is}

told_append : (link : ℕ) (calls more : List wire.Call) (last : Option WriteTold) → told_after link (calls ++ more) last ≡ told_after link more (told_after link calls last)
told_append link [] more last = refl
told_append link (call ∷ calls) more last = told_append link calls more (told_with link call last)

-- Where nothing happened, what was written last took nothing still.
stays_full : (link : ℕ) (calls : List wire.Call) → list_any has_happened calls ≡ false → told_after link calls (Some Full) ≡ Some Full
stays_full link [] nothing = refl
stays_full link (Connect to given ∷ calls) nothing = true_is nothing
stays_full link (Listen at listener ∷ calls) nothing = true_is nothing
stays_full link (Accept listener answer ∷ calls) nothing = true_is nothing
stays_full link (Read n room (Moved bytes) ∷ calls) nothing = true_is nothing
stays_full link (Read n room Unready ∷ calls) nothing = stays_full link calls nothing
stays_full link (Read n room Ended ∷ calls) nothing = true_is nothing
stays_full link (Read n room ReadFault ∷ calls) nothing = true_is nothing
stays_full link (Write n offered (Sent bytes) ∷ calls) nothing = true_is nothing
stays_full link (Write n offered Full ∷ calls) nothing =
    elim (n == link) as (λ b. told_after link calls (if b then Some Full else Some Full) ≡ Some Full) [ true ↦ stays_full link calls nothing | false ↦ stays_full link calls nothing ]
stays_full link (Write n offered WriteFault ∷ calls) nothing = true_is nothing
stays_full link (Pause wants ∷ calls) nothing = true_is nothing
stays_full link (Shut n ∷ calls) nothing = true_is nothing

pub vain_is_last : VainWritesAreLast
vain_is_last link calls vain =
    let before = told_after link vain.earlier None in
    ap (last_write link) vain.are ∙ told_append link vain.earlier (Write link vain.offered Full ∷ vain.later) None
    ∙ ap (λ (b : Bool). told_after link vain.later (if b then Some Full else before)) (eq-eqb link link refl) ∙ stays_full link vain.later vain.nothing
