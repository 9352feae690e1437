-- What a call that was played leaves told.
use Rattle.std.proofs.Common.{◌≡◌, ℕ, ◌+◌, ◌<◌, ◌≤◌, ◌^◌, Bool, true, false, cond, List, [], ◌∷◌, ◌++◌, length, map, Some, None, refl, ap, sym, subst, ◌∙◌, arith, ◌==◌, if◌then◌else◌}
use Rattle.std.proofs.lemmas.Bool.Decides.{nat_tests}
use Rattle.std.proofs.lemmas.List.Sums.{sum_by-append, count_by-le-length}
use Rattle.lnbd_link.specs.Call.{Call, Connect, Listen, Accept, Read, Write, Pause, Shut, WriteTold, Sent, Full, WriteFault}
use Rattle.lnbd_link.specs.Contents.{Origin, Keeps, origin_of}
use Rattle.lnbd_link.specs.Count.{raised_by}
use Rattle.lnbd_link.specs.Failed.{failed}
use Rattle.lnbd_link.specs.Listed.{has_failed}
use Rattle.lnbd_link.specs.Part.{Adds}
use Rattle.lnbd_export.specs.Export.{TellsTruly}
use Rattle.lnbd_memnet.specs.declared.hosted.Hosted.{Hosted}
use Rattle.lnbd_memnet.specs.declared.hosted.Served.{Served as Handed}
use Rattle.lnbd_memnet.specs.declared.link.Link.{Link}
use Rattle.lnbd_memnet.specs.declared.schedule.Schedule.{Schedule}
use Rattle.lnbd_memnet.specs.declared.schedule.Step.{Step}
use Rattle.lnbd_memnet.specs.Network.{Network, AreApart, export_in, hosted_of, stored_of}
use Rattle.lnbd_memnet.specs.Plays.{Plays, WritesIf, DeliversIf}
use Rattle.lnbd_memnet.specs.Wires.{Served, None_yet, Then, Came, Lasts, Steps, told_by, contents_of}
use Rattle.lnbd_memnet.proofs.Hosting.{hosted_start}
use Rattle.lnbd_memnet.proofs.Names.{takes_name, origins, origins_set}

some_if : {A : Type 0} (b : Bool) (x y : A) → (if b then Some x else None) ≡ Some y → (b ≡ true) × (x ≡ y)
some_if true x y e = (refl, cc)
some_if false x y e = absurd cc

pub telling : {A : Type 0} (shorts : ℕ) (x y : A) → (if shorts == 0 then Some x else None) ≡ Some y → (shorts ≡ 0) × (x ≡ y)
telling shorts x y e =
    let is = some_if (shorts == 0) x y e in
    let none : (shorts == 0) ≡ true = is.0 in
    (grind (arith, nat_tests), is.1)

tells : {A : Type 0} (shorts : ℕ) (x : A) → shorts ≡ 0 → (if shorts == 0 then Some x else None) ≡ Some x
tells shorts x e = ap (λ (n : ℕ). if n == 0 then Some x else None) e

pub told_added : (old new : Served) (call : Call) → Steps old call new → Adds (told_by old) (told_by new) call
told_added old new call steps = λ ys is.
    let t = telling new.shorts new.calls ys is in
    let s = steps t.0 in
    (old.calls, tells old.shorts old.calls s.0, sym t.1 ∙ s.1)

-- The exports stay at their places, with their names and their bytes at the start.

-- the origin of an export that has this name
abbrev named : Hosted → List ℕ → Origin
named hosted name = record { at = hosted.at; name = name; start = hosted.start }

delivers_keep : (b : Bool) (step : Step) (offered : ℕ) (hosted : Hosted) (before : Link) (answer : WriteTold) (after : Link) (end : Hosted) → DeliversIf b step offered hosted before answer after end →
    origin_of (stored_of end) ≡ origin_of (stored_of hosted)
delivers_keep true step offered hosted before (Sent bytes) after end d =
    ap (λ (h : Hosted). origin_of (stored_of h)) d.holds ∙ ap (named hosted) (takes_name before.session d.session hosted.export d.export bytes d.takes)
delivers_keep true step offered hosted before Full after end d = absurd d
delivers_keep true step offered hosted before WriteFault after end d = absurd d
delivers_keep false step offered hosted before answer after end d = ap (λ (h : Hosted). origin_of (stored_of h)) d.2

writes_keep : (opened : Bool) (step : Step) (exports : List Hosted) (links : List Link) (n offered : ℕ) (answer : WriteTold) (exports' : List Hosted) (links' : List Link) →
    WritesIf opened step exports links n offered answer exports' links' → origins exports' ≡ origins exports
writes_keep true step exports links n offered answer exports' links' w =
    ap origins w.holds ∙ origins_set exports _ w.hosted (delivers_keep _ step offered _ _ answer w.link w.hosted w.delivers)
writes_keep false step exports links n offered answer exports' links' w = ap origins w.1

abbrev same_exports : (before after : Network) → after.exports ≡ before.exports → origins after.exports ≡ origins before.exports
same_exports before after e = ap origins e

pub plays_keep : (before after : Network) (call : Call) → Plays before call after → origins after.exports ≡ origins before.exports
plays_keep before after (Connect to (Some link)) p = ap (λ (n : Network). origins n.exports) p.is
plays_keep before after (Connect to None) p = ap (λ (n : Network). origins n.exports) p.1
plays_keep before after (Listen at listener) p = ap (λ (n : Network). origins n.exports) p.1
plays_keep before after (Accept listener answer) p = ap (λ (n : Network). origins n.exports) p.1
plays_keep before after (Read link room answer) p = ap (λ (n : Network). origins n.exports) p.is
plays_keep before after (Write link offered answer) p =
    ap (λ (n : Network). origins n.exports) p.is ∙ writes_keep _ _ before.exports before.links link offered answer p.exports p.links p.writes
plays_keep before after (Pause wants) p = ap (λ (n : Network). origins n.exports) p
plays_keep before after (Shut link) p = ap (λ (n : Network). origins n.exports) p

pub contents_kept : (old new : Served) (call : Call) → Steps old call new → Keeps (contents_of old) (contents_of new)
contents_kept old new call steps = λ after is.
    let t = telling new.shorts (map stored_of new.network.exports) after is in
    let s = steps t.0 in
    (map stored_of old.network.exports, tells old.shorts (map stored_of old.network.exports) s.0, ap (map origin_of) (sym t.1) ∙ plays_keep old.network new.network call s.2)

-- One call more was played.
came_then : (calls all : List Call) (before after : Network) (call : Call) → Came calls before → Plays before call after → all ≡ calls ++ call ∷ [] → Came all after
came_then calls all before after call came plays is = record { first = came.first; begins = came.begins; played = Then calls all before after call came.played plays is }

-- Nothing was called yet.
pub came_first : (served : List Handed) (schedule : Schedule) (calls : List Call) (network : Network) → calls ≡ [] → network ≡ record { exports = map hosted_of served; links = []; schedule = schedule; turn = 0 } →
    AreApart (map hosted_of served) → ((place : ℕ) → TellsTruly (export_in network.exports place).export) → Came calls network
came_first served schedule calls network none is apart truly = record {
  first = network;
  begins = record {
    links = ap (λ (n : Network). n.links) is;
    turn = ap (λ (n : Network). n.turn) is;
    apart = subst (λ (es : List Hosted). AreApart es) (sym (ap (λ (n : Network). n.exports) is)) apart;
    start = subst (λ (es : List Hosted). (place : ℕ) → (export_in es place).start ≡ (export_in es place).export.bytes) (sym (ap (λ (n : Network). n.exports) is)) (hosted_start served);
    truly = truly;
  };
  played = None_yet calls network none refl;
}

counts_then : (calls : List Call) (call : Call) (faults after : ℕ) → after ≡ (if has_failed call then raised_by 1 faults else faults) → faults ≡ raised_by (failed calls) 0 → after ≡ raised_by (failed (calls ++ call ∷ [])) 0
counts_then calls call faults after rises was = by (has_failed call) refl
  where
    more : failed (calls ++ call ∷ []) ≡ failed calls + (0 + cond (has_failed call) 1 0)
    more = sum_by-append (λ (c : Call). cond (has_failed c) 1 0) calls (call ∷ [])

    by : (b : Bool) → has_failed call ≡ b → after ≡ raised_by (failed (calls ++ call ∷ [])) 0
    by true e =
        let one : failed (calls ++ call ∷ []) ≡ failed calls + (0 + 1) = more ∙ ap (λ b. failed calls + (0 + cond b 1 0)) e in
        let rose : after ≡ raised_by 1 faults = rises ∙ ap (λ b. if b then raised_by 1 faults else faults) e in
        omega (arith, one, rose, was)
    by false e =
        let none : failed (calls ++ call ∷ []) ≡ failed calls + (0 + 0) = more ∙ ap (λ b. failed calls + (0 + cond b 1 0)) e in
        let same : after ≡ faults = rises ∙ ap (λ b. if b then raised_by 1 faults else faults) e in
        omega (arith, none, same, was)

-- What holds of wires holds after a call that was played and told, and counted if it failed.
pub held_then : (shorts faults after_faults : ℕ) (calls all : List Call) (before after : Network) (call : Call) → (shorts ≤ faults) × (shorts ≡ 0 → Lasts calls before faults) → faults ≤ after_faults →
    after_faults ≡ (if has_failed call then raised_by 1 faults else faults) → all ≡ calls ++ call ∷ [] → Plays before call after → (shorts ≤ after_faults) × (shorts ≡ 0 → Lasts all after after_faults)
held_then shorts faults after_faults calls all before after call held more rises is plays =
    let few : shorts ≤ faults = held.0 in (
      omega arith,
      λ none. record {
        came = came_then calls all before after call (held.1 none).came plays is;
        counted = counts_then calls call faults after_faults rises (held.1 none).counted ∙ ap (λ (cs : List Call). raised_by (failed cs) 0) (sym is);
      },
    )

-- The count is that of the calls that are told.
pub counted_told : (network : Network) (wires self : Served) (calls : List Call) → wires ≡ self → (wires.shorts ≡ 0 → Lasts wires.calls network wires.faults) → length wires.calls < 2 ^ 63 → told_by self ≡ Some calls →
    (wires.faults ≡ failed calls) × (failed calls < 2 ^ 63)
counted_told network wires self calls view lasts short told =
    let t = telling wires.shorts wires.calls calls (ap told_by view ∙ told) in
    let counted = (lasts t.0).counted in
    let most = count_by-le-length has_failed wires.calls in
    subst (λ (cs : List Call). (wires.faults ≡ failed cs) × (failed cs < 2 ^ 63)) t.1 (omega (arith, counted, most, short), omega (arith, most, short))
