-- A call that is added stands at the end.
use Rattle.std.proofs.Common.{◌≡◌, ℕ, ◌≤◌, List, [], ◌∷◌, ◌++◌, length, take, drop, refl, ◌∙◌, ap, arith, sum_by, length-drop}
use Rattle.std.proofs.lemmas.List.{take-append-le, drop-append-le, take_all}
use Rattle.std.proofs.lemmas.List.Sums.{sum_by-cons}
use Rattle.lnbd_model.specs.declared.target.Target.{Target}
use Rattle.lnbd_model.specs.declared.target.Target.TheVariants as target
use Rattle.lnbd_link.specs.Call.{Call, read_told, write_told}
use Rattle.lnbd_link.specs.declared.wires.Want.{Want}
use Rattle.lnbd_link.specs.declared.wires.Got.{Got}
use Rattle.lnbd_link.specs.declared.wires.Got.TheVariants as got
use Rattle.lnbd_link.specs.declared.wires.Took.{Took}
use Rattle.lnbd_link.specs.declared.wires.Took.TheVariants as took
use Rattle.lnbd_link.specs.declared.kept.Kept.{Kept}
use Rattle.lnbd_link.specs.Room.{text_of, got_len, took_len}
use Rattle.lnbd_link.specs.Kept.{bytes_of, wants_of, call_of, calls_of, read_as, write_as, reach_of, target_of}

pub calls_of-append : (ks : List Kept) (k : Kept) (bs more : List ℕ) (ws wmore : List Want) → sum_by bytes_of ks ≡ length bs → sum_by wants_of ks ≡ length ws → bytes_of k ≡ length more → wants_of k ≡ length wmore → calls_of (ks ++ k ∷ []) (bs ++ more) (ws ++ wmore) ≡ calls_of ks bs ws ++ call_of k more wmore ∷ []
calls_of-append [] k [] more [] wmore b w mb mw =
    ap (λ (x : List ℕ). call_of k x (take (wants_of k) wmore) ∷ []) (take_all (bytes_of k) more (omega arith)) ∙ ap (λ (y : List Want). call_of k more y ∷ []) (take_all (wants_of k) wmore (omega arith))
calls_of-append [] k [] more (v ∷ ws) wmore b w mb mw = absurd (omega arith)
calls_of-append [] k (x ∷ bs) more ws wmore b w mb mw = absurd (omega arith)
calls_of-append (x ∷ ks) k bs more ws wmore b w mb mw =
    let sb = sum_by-cons bytes_of x ks in
    let sw = sum_by-cons wants_of x ks in
    let hb : bytes_of x ≤ length bs = omega arith in
    let hw : wants_of x ≤ length ws = omega arith in
    let db : sum_by bytes_of ks ≡ length (drop (bytes_of x) bs) = omega (arith, length-drop (bytes_of x) bs) in
    let dw : sum_by wants_of ks ≡ length (drop (wants_of x) ws) = omega (arith, length-drop (wants_of x) ws) in
    let ih = calls_of-append ks k (drop (bytes_of x) bs) more (drop (wants_of x) ws) wmore db dw mb mw in
    rw (take-append-le (bytes_of x) bs more hb, take-append-le (wants_of x) ws wmore hw, drop-append-le (bytes_of x) bs more hb, drop-append-le (wants_of x) ws wmore hw) (ap (λ (cs : List Call). call_of x (take (bytes_of x) bs) (take (wants_of x) ws) ∷ cs) ih)

pub read_as-told : (g : Got) (into : List ℕ) → read_as g (take (got_len g) into) ≡ read_told g into
read_as-told (got.Bytes n) into = refl
read_as-told got.NotReady into = refl
read_as-told got.End into = refl
read_as-told got.Failed into = refl

pub write_as-told : (t : Took) (from : List ℕ) → write_as t (take (took_len t) from) ≡ write_told t from
write_as-told (took.Bytes n) from = refl
write_as-told took.NotReady from = refl
write_as-told took.Failed from = refl

-- an address is its kind and its text
pub target_of-reach : (t : Target) → target_of (reach_of t) (text_of t) ≡ t
target_of-reach (target.Tcp host port) = refl
target_of-reach (target.Unix path) = refl
