-- What the wires of a rehearsal began with, which their calls keep.
use Rattle.std.proofs.Common.{◌≡◌, ℕ, zero, suc, ◌+◌, Bool, false, List, [], ◌∷◌, ◌++◌, length, map, replicate, refl, sym, ◌∙◌, ap, subst}
use Rattle.std.proofs.lemmas.List.{length-replicate}
use Rattle.lnbd_extents.specs.Positions.{holds}
use Rattle.lnbd_export.specs.Export.{Export, flags}
use Rattle.lnbd_export.specs.Generated.{IsGenerated}
use Rattle.lnbd_link.specs.Call.{Call}
use Rattle.lnbd_model.specs.declared.target.Target.TheVariants.{Unix}
use Rattle.lnbd_memnet.specs.Network.{Network, hosted_of}
use Rattle.lnbd_memnet.specs.Wires.{Begins, Came, None_yet, Played, Served, Steps, Then}
use Rattle.lnbd_memnet.specs.declared.hosted.Served.{Served as Handed}
use Rattle.lnbd_memnet.specs.declared.schedule.Schedule.{Schedule}
use Rattle.lnbd_rehearsal.specs.Rehearsed.{CameFrom, IsNoise, IsSetUp, destination_name, source_name}

untold : (start n : ℕ) → flags (holds []) start n ≡ replicate n false
untold start zero = refl
untold start (suc n) = ap (λ (l : List Bool). false ∷ l) (untold (start + 1) n)

pub noise_of : (n : ℕ) (name description bytes : List ℕ) (zeros : List (ℕ × ℕ)) (export : Export) → name ≡ destination_name → description ≡ [] → bytes ≡ replicate n 255 → zeros ≡ []
    → export ≡ record { name = name; description = description; bytes = bytes; zeros = flags (holds zeros) 0 (length bytes); read_only = false } → IsNoise n export
noise_of n name description bytes zeros export called none full untold_any is = record {
  name = ap (λ (e : Export). e.name) is ∙ called;
  description = ap (λ (e : Export). e.description) is ∙ none;
  bytes = ap (λ (e : Export). e.bytes) is ∙ full;
  zeros = ap (λ (e : Export). e.zeros) is ∙ ap (λ (z : List (ℕ × ℕ)). flags (holds z) 0 (length bytes)) untold_any ∙ untold 0 (length bytes) ∙ ap (λ (k : ℕ). replicate k false) (ap (λ (b : List ℕ). length b) full ∙ length-replicate {A = ℕ} n 255);
  read_only = ap (λ (e : Export). e.read_only) is;
}

never_called : (calls : List Call) (call : Call) → [] ≡ calls ++ call ∷ [] → ⊥
never_called [] call is = absurd (cc is)
never_called (x ∷ calls) call is = absurd (cc is)

-- where nothing was called, they are what they began with
first_is : (first network : Network) (calls : List Call) → calls ≡ [] → Played first calls network → network ≡ first
first_is first network calls none (None_yet _ _ empty is) = is
first_is first network calls none (Then before _ middle _ call played plays all) = absurd (never_called before call (sym none ∙ all))

set_up_by : (seed n : ℕ) (source destination : Handed) (network : Network) → source.at ≡ Unix source_name → IsGenerated source_name seed n false source.export → destination.at ≡ Unix destination_name → IsNoise n destination.export
    → network.exports ≡ map hosted_of (source ∷ destination ∷ []) → IsSetUp seed n network
set_up_by seed n source destination network from generated to noise are = record { source = source; destination = destination; exports = are; from = from; generated = generated; to = to; noise = noise }

pub staged_first : (seed n : ℕ) (source destination : Handed) (exports : List Handed) (schedule : Schedule) (wires : Served) → source.at ≡ Unix source_name → IsGenerated source_name seed n false source.export → destination.at ≡ Unix destination_name → IsNoise n destination.export
    → exports ≡ source ∷ destination ∷ [] → wires ≡ record { network = record { exports = map hosted_of exports; links = []; schedule = schedule; turn = 0 }; calls = []; shorts = 0; faults = 0; idles = 0 } → (wires.shorts ≡ 0 → Came wires.calls wires.network)
    → wires.shorts ≡ 0 → CameFrom seed n wires.calls wires.network
staged_first seed n source destination exports schedule wires from generated to noise are is came none =
    let c = came none in
    let calls : wires.calls ≡ [] = ap (λ (w : Served). w.calls) is in
    record {
      first = wires.network;
      set_up = set_up_by seed n source destination wires.network from generated to noise (ap (λ (w : Served). w.network.exports) is ∙ ap (λ (e : List Handed). map hosted_of e) are);
      begins = subst Begins (sym (first_is c.first wires.network wires.calls calls c.played)) c.begins;
      played = None_yet wires.calls wires.network calls refl;
    }

-- One call more.
pub staged_on : (seed n : ℕ) (before after : Served) (call : Call) → (before.shorts ≡ 0 → CameFrom seed n before.calls before.network) → Steps before call after → after.shorts ≡ 0 → CameFrom seed n after.calls after.network
staged_on seed n before after call came steps none =
    let step = steps none in
    let c = came step.0 in
    record { first = c.first; set_up = c.set_up; begins = c.begins; played = Then before.calls after.calls before.network after.network call c.played step.2 step.1 }
