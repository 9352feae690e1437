-- The rules of wires, from the calls that were played.
use Rattle.std.proofs.Common.{◌≡◌, ℕ, false, List, Some, Result, Ok, Err, IfOk, subst, ◌∙◌, ap, arith}
use Rattle.lnbd_model.specs.declared.target.Target.{Target}
use Rattle.lnbd_link.specs.declared.wires.WireFailed.{WireFailed}
use Rattle.lnbd_link.specs.Call.{Call, Connect, link_told}
use Rattle.lnbd_link.specs.Numbers.{is_given, is_open}
use Rattle.lnbd_memnet.specs.Network.{link_in}
use Rattle.lnbd_memnet.specs.Wires.{Served, Came, Steps, told_by}
use Rattle.lnbd_memnet.proofs.Numbered.{came_numbered}
use Rattle.lnbd_memnet.proofs.Telling.{telling}

pub fresh_connect : (old new : Served) (to : Target) (result : Result ℕ WireFailed) → (old.shorts ≡ 0 → Came old.calls old.network) → Steps old (Connect to (link_told result)) new → IfOk result (λ link. new.shorts ≡ old.shorts) →
    IfOk result (λ link. (calls : List Call) → told_by old ≡ Some calls → is_given link calls ≡ false)
fresh_connect old new to (Ok link) came steps same = λ calls is.
    let t = telling old.shorts old.calls calls is in
    let opens = (steps (same ∙ t.0)).2 in
    let numbered = came_numbered old.calls old.network (came t.0) in
    subst (λ (cs : List Call). is_given link cs ≡ false) t.1 (numbered.fresh link (omega (arith, opens.number)))
fresh_connect old new to (Err e) came steps same = tt

pub shut_fails : (old : Served) (link : ℕ) (P : Type 0) → (old.shorts ≡ 0 → Came old.calls old.network) → ((link_in old.network.links link).opened ≡ false → P) → (calls : List Call) → told_by old ≡ Some calls → is_open link calls ≡ false → P
shut_fails old link P came fails = λ calls is closed.
    let t = telling old.shorts old.calls calls is in
    let numbered = came_numbered old.calls old.network (came t.0) in
    fails (numbered.open_is link ∙ ap (λ (cs : List Call). is_open link cs) t.1 ∙ closed)
