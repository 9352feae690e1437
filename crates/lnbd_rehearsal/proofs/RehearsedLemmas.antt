-- What stands behind the wires once a rehearsal is over.
use Rattle.std.proofs.Common.{◌≡◌, ◌≢◌, ◌≤◌, ℕ, zero, suc, Bool, false, if◌then◌else◌, ◌==◌, List, [], ◌∷◌, get_or, length, map, Option, Some, None, refl, sym, ap, subst, ◌∙◌, arith}
use Rattle.std.proofs.lemmas.List.{length-replicate}
use Rattle.lnbd_link.specs.Call.{Call}
use Rattle.lnbd_link.specs.Contents.{Keeps, Origin, Stored, origin_of}
use Rattle.lnbd_model.specs.declared.target.Place.{Place}
use Rattle.lnbd_model.specs.declared.target.Target.{Target}
use Rattle.lnbd_model.specs.declared.target.Target.TheVariants.{Unix}
use Rattle.lnbd_export.specs.Generated.{IsGenerated}
use Rattle.lnbd_memnet.specs.declared.hosted.Hosted.{Hosted}
use Rattle.lnbd_memnet.specs.declared.hosted.Served.{Served as Handed}
use Rattle.lnbd_memnet.specs.Network.{Network, export_in, hosted_of, stored_of}
use Rattle.lnbd_memnet.specs.Schedule.{Moves}
use Rattle.lnbd_memnet.specs.Wires.{Came, Served, contents_of, told_by}
use Rattle.lnbd_memnet.specs.declared.schedule.Schedule.TheVariants.{Seeded}
use Rattle.lnbd_plan.specs.declared.options.CopyOptions.{CopyOptions}
use Rattle.lnbd_plan.specs.declared.summary.Summary.{Summary}
use Rattle.lnbd_course.specs.Asks.{GrewBy}
use Rattle.lnbd_course.specs.Copied.{Copied, Copies}
use Rattle.lnbd_conduct.specs.Conduct.{Conducts}
use Rattle.lnbd_conduct.specs.Made.{IsMade}
use Rattle.lnbd_served.specs.Served.{IsServable}
use Rattle.lnbd_served.specs.Served as served
use Rattle.lnbd_lively.specs.Lively.{AreServable}
use Rattle.lnbd_rehearsal.specs.Carrying.{AreSmall, largest}
use Rattle.lnbd_rehearsal.specs.Rehearsed.{CameFrom, HasRehearsed, IsDestination, IsNoise, IsSource, destination_name, place_of, source_name, usual}
use Rattle.lnbd_rehearsal.specs.Sums.{sums_of}
use Rattle.lnbd_rehearsal.proofs.CarryLemmas.{copies_move_bytes}
use Rattle.lnbd_rehearsal.proofs.EqualLemmas.{AreEqual, are_equal}

-- What both are at first.

-- an export as it is told when the wires are made
abbrev first_told : Handed → Stored
first_told handed = stored_of (hosted_of handed)

source_is : (seed n : ℕ) (source : Handed) (stored : Stored) → source.at ≡ Unix source_name → IsGenerated source_name seed n false source.export → origin_of stored ≡ origin_of (first_told source) → IsSource seed n stored
source_is seed n source stored at generated same =
    let start : stored.start ≡ source.export.bytes = ap (λ (o : Origin). o.start) same in
    record {
      at = ap (λ (o : Origin). o.at) same ∙ at;
      name = ap (λ (o : Origin). o.name) same ∙ generated.name;
      size = ap (λ (b : List ℕ). length b) start ∙ generated.size;
      bytes = λ p less. ap (λ (b : List ℕ). get_or b p 0) start ∙ generated.bytes p less;
    }

destination_is : (n : ℕ) (destination : Handed) (stored : Stored) → destination.at ≡ Unix destination_name → IsNoise n destination.export → origin_of stored ≡ origin_of (first_told destination) → IsDestination n stored
destination_is n destination stored at noise same = record {
  at = ap (λ (o : Origin). o.at) same ∙ at;
  name = ap (λ (o : Origin). o.name) same ∙ noise.name;
  bytes = ap (λ (o : Origin). o.start) same ∙ noise.bytes;
}

-- The transcript.

apart : place_of source_name ≢ place_of destination_name
apart same = let e = ap (λ (p : Place). length p.name) same in omega (arith, e)

pub copies_between : (from to : Place) (a b : Option (List Call)) (blank : Bool) → from ≡ place_of source_name → to ≡ place_of destination_name → blank ≡ false → (from ≢ to → Copies from to blank a b)
    → Copies (place_of source_name) (place_of destination_name) false a b
copies_between from to a b blank f t never copies =
    let one : Copies from to blank a b = copies (λ e. apart (sym f ∙ e ∙ t)) in
    let two : Copies (place_of source_name) to blank a b = subst (λ (p : Place). Copies p to blank a b) f one in
    let three : Copies (place_of source_name) (place_of destination_name) blank a b = subst (λ (p : Place). Copies (place_of source_name) p blank a b) t two in
    subst (λ (x : Bool). Copies (place_of source_name) (place_of destination_name) x a b) never three

pub made_between : (options : CopyOptions) (from to : Place) (summary : Summary) (a b : Option (List Call)) → options ≡ usual → from ≡ place_of source_name → to ≡ place_of destination_name → (from ≢ to → GrewBy (IsMade options from to summary) a b)
    → GrewBy (IsMade usual (place_of source_name) (place_of destination_name) summary) a b
made_between options from to summary a b o f t made =
    let one : GrewBy (IsMade options from to summary) a b = made (λ e. apart (sym f ∙ e ∙ t)) in
    let two : GrewBy (IsMade options (place_of source_name) to summary) a b = subst (λ (p : Place). GrewBy (IsMade options p to summary) a b) f one in
    let three : GrewBy (IsMade options (place_of source_name) (place_of destination_name) summary) a b = subst (λ (p : Place). GrewBy (IsMade options (place_of source_name) p summary) a b) t two in
    subst (λ (x : CopyOptions). GrewBy (IsMade x (place_of source_name) (place_of destination_name) summary) a b) o three

pub conducts_between : (options : CopyOptions) (from to : Place) (a b : Option (List Call)) → options ≡ usual → from ≡ place_of source_name → to ≡ place_of destination_name → GrewBy (Conducts options from to) a b
    → GrewBy (Conducts usual (place_of source_name) (place_of destination_name)) a b
conducts_between options from to a b o f t conducts =
    let two : GrewBy (Conducts options (place_of source_name) to) a b = subst (λ (p : Place). GrewBy (Conducts options p to) a b) f conducts in
    let three : GrewBy (Conducts options (place_of source_name) (place_of destination_name)) a b = subst (λ (p : Place). GrewBy (Conducts options (place_of source_name) p) a b) t two in
    subst (λ (x : CopyOptions). GrewBy (Conducts x (place_of source_name) (place_of destination_name)) a b) o three

-- From no calls on, all that is told is so.
grown : {Is : List Call → Type 0} (before after : Option (List Call)) (calls : List Call) → before ≡ Some [] → after ≡ Some calls → GrewBy Is before after → Is calls
grown before after calls none told so = so calls calls told (λ ys is. ([], none, cc (is, told)))

-- The wires came from what they began with.
pub came_by : (seed n : ℕ) (calls : List Call) (network : Network) → CameFrom seed n calls network → Came calls network
came_by seed n calls network came = record { first = came.first; begins = came.begins; played = came.played }

-- Those that a stage gives back.
pub came_there : (seed n seed' n' : ℕ) (wires there : Served) → wires ≡ there → seed' ≡ seed → n' ≡ n → (there.shorts ≡ 0 → CameFrom seed' n' there.calls there.network) → wires.shorts ≡ 0 → CameFrom seed n wires.calls wires.network
came_there seed n seed' n' wires there same seeds sizes came none =
    subst (λ (k : ℕ). CameFrom k n wires.calls wires.network) seeds
    (subst (λ (k : ℕ). CameFrom seed' k wires.calls wires.network) sizes
    (subst (λ (w : Served). w.shorts ≡ 0 → CameFrom seed' n' w.calls w.network) (sym same) came none))

-- Two exports.

both_there : (both : List Hosted) → length both ≡ 2 → both ≡ export_in both 0 ∷ export_in both 1 ∷ []
both_there [] count = absurd (omega (arith, count))
both_there (x ∷ []) count = absurd (omega (arith, count))
both_there (x ∷ y ∷ []) count = refl
both_there (x ∷ y ∷ z ∷ more) count = absurd (omega (arith, count))

two_servable : (network : Network) → length network.exports ≡ 2 → IsServable (export_in network.exports 0).export → IsServable (export_in network.exports 1).export → AreServable network
two_servable network count fits fits' zero there = fits
two_servable network count fits fits' (suc zero) there = fits'
two_servable network count fits fits' (suc (suc place)) there = absurd (omega (arith, there, count))

-- no export is larger than both
two_small : (network : Network) → length network.exports ≡ 2 → length (export_in network.exports 0).export.bytes ≤ largest → length (export_in network.exports 1).export.bytes ≤ largest → AreSmall network
two_small network count few few' zero there = few
two_small network count few few' (suc zero) there = few'
two_small network count few few' (suc (suc place)) there = absurd (omega (arith, there, count))

place_at : (hosted : Hosted) (name : List ℕ) → hosted.at ≡ Unix name → hosted.export.name ≡ name → served.place_of hosted ≡ place_of name
place_at hosted name at called = ap (λ (t : Target). record { to = t; name = hosted.export.name }) at ∙ ap (λ (x : List ℕ). record { to = Unix name; name = x }) called

-- Two exports with these origins.

module _ (seed n : ℕ) (source destination : Handed) (at : source.at ≡ Unix source_name) (generated : IsGenerated source_name seed n false source.export) (to : destination.at ≡ Unix destination_name) (noise : IsNoise n destination.export) where
  -- What stands behind the wires when the copy is over.
  pub record Ended (wires : Served) (summary : Summary) : Type 0 where
    pub told : contents_of wires ≡ Some (stored_of (export_in wires.network.exports 0) ∷ stored_of (export_in wires.network.exports 1) ∷ [])
    pub first : origin_of (stored_of (export_in wires.network.exports 0)) ≡ origin_of (first_told source)
    pub second : origin_of (stored_of (export_in wires.network.exports 1)) ≡ origin_of (first_told destination)
    pub copied : Copied (place_of source_name) (place_of destination_name) false wires.calls
    pub made : IsMade usual (place_of source_name) (place_of destination_name) summary wires.calls
    pub equal : AreEqual wires.network
    pub conducts : Conducts usual (place_of source_name) (place_of destination_name) wires.calls
    pub servable : AreServable wires.network
    pub small : AreSmall wires.network
    -- how many bytes the first holds
    pub long : length (export_in wires.network.exports 0).export.bytes ≡ n

  pub ended : (exports : List Handed) (before after : Served) (summary : Summary) → n ≤ 16777216 → exports ≡ source ∷ destination ∷ []
      → contents_of before ≡ Some (map stored_of (map hosted_of exports)) → Keeps (contents_of before) (contents_of after)
      → after.shorts ≡ 0 → length after.network.exports ≡ 2 → Came after.calls after.network → IsServable (export_in after.network.exports 0).export → IsServable (export_in after.network.exports 1).export
      → told_by before ≡ Some [] → Copies (place_of source_name) (place_of destination_name) false (told_by before) (told_by after)
      → GrewBy (IsMade usual (place_of source_name) (place_of destination_name) summary) (told_by before) (told_by after) → GrewBy (Conducts usual (place_of source_name) (place_of destination_name)) (told_by before) (told_by after) → Ended after summary
  ended exports before after summary few are held keeps shorts count came fits fits' none copies makes conducts =
      let both = both_there after.network.exports count in
      let told : contents_of after ≡ Some (map stored_of after.network.exports) = ap (λ (s : ℕ). if s == 0 then Some (map stored_of after.network.exports) else None) shorts in
      let calls : told_by after ≡ Some after.calls = ap (λ (s : ℕ). if s == 0 then Some after.calls else None) shorts in
      let kept = keeps (map stored_of after.network.exports) told in
      let same : kept.0 ≡ map stored_of (map hosted_of exports) = cc (sym kept.1 ∙ held) in
      let origins : origin_of (stored_of (export_in after.network.exports 0)) ∷ origin_of (stored_of (export_in after.network.exports 1)) ∷ [] ≡ origin_of (first_told source) ∷ origin_of (first_told destination) ∷ [] =
      sym (ap (λ (es : List Hosted). map origin_of (map stored_of es)) both) ∙ kept.2 ∙ ap (λ (s : List Stored). map origin_of s) same ∙ ap (λ (es : List Handed). map origin_of (map stored_of (map hosted_of es))) are in
      let first : origin_of (stored_of (export_in after.network.exports 0)) ≡ origin_of (first_told source) = cc origins in
      let second : origin_of (stored_of (export_in after.network.exports 1)) ≡ origin_of (first_told destination) = cc origins in
      let from = source_is seed n source (stored_of (export_in after.network.exports 0)) at generated first in
      let into = destination_is n destination (stored_of (export_in after.network.exports 1)) to noise second in
      let copied = grown {Is = Copied (place_of source_name) (place_of destination_name) false} (told_by before) (told_by after) after.calls none calls copies in
      let made = grown {Is = IsMade usual (place_of source_name) (place_of destination_name) summary} (told_by before) (told_by after) after.calls none calls makes in
      let conducted = grown {Is = Conducts usual (place_of source_name) (place_of destination_name)} (told_by before) (told_by after) after.calls none calls conducts in
      let equal =
      are_equal (place_of source_name) (place_of destination_name) after.calls after.network came made.driven count fits fits'
      (place_at (export_in after.network.exports 0) source_name from.at from.name) (place_at (export_in after.network.exports 1) destination_name into.at into.name)
      (ap (λ (b : List ℕ). length b) into.bytes ∙ length-replicate {A = ℕ} n 255 ∙ sym from.size) copied made.asks.asked.looks in
      let long : length (export_in after.network.exports 0).export.bytes ≡ n = ap (λ (b : List ℕ). length b) equal.kept ∙ from.size in
      let long' : length (export_in after.network.exports 1).export.bytes ≡ n = ap (λ (b : List ℕ). length b) equal.equal ∙ from.size in
      record {
        told = told ∙ ap (λ (es : List Hosted). Some (map stored_of es)) both;
        first = first;
        second = second;
        copied = copied;
        made = made;
        equal = equal;
        conducts = conducted;
        servable = two_servable after.network count fits fits';
        small = two_small after.network count (omega (arith, long, few)) (omega (arith, long', few));
        long = long;
      }

  -- the same of the wires that a stage gives back
  pub ended_there : (before there after : Served) (summary : Summary) → after ≡ there → n ≤ 16777216
      → contents_of before ≡ Some (map stored_of (map hosted_of (source ∷ destination ∷ []))) → Keeps (contents_of before) (contents_of there)
      → after.shorts ≡ 0 → length after.network.exports ≡ 2 → Came after.calls after.network → IsServable (export_in after.network.exports 0).export → IsServable (export_in after.network.exports 1).export
      → told_by before ≡ Some [] → Copies (place_of source_name) (place_of destination_name) false (told_by before) (told_by there)
      → GrewBy (IsMade usual (place_of source_name) (place_of destination_name) summary) (told_by before) (told_by there) → GrewBy (Conducts usual (place_of source_name) (place_of destination_name)) (told_by before) (told_by there) → Ended after summary
  ended_there before there after summary same few held keeps shorts count came fits fits' none copies makes conducts =
      ended (source ∷ destination ∷ []) before after summary few refl held (subst (λ (w : Served). Keeps (contents_of before) (contents_of w)) (sym same) keeps) shorts count came fits fits' none
      (subst (λ (w : Served). Copies (place_of source_name) (place_of destination_name) false (told_by before) (told_by w)) (sym same) copies)
      (subst (λ (w : Served). GrewBy (IsMade usual (place_of source_name) (place_of destination_name) summary) (told_by before) (told_by w)) (sym same) makes)
      (subst (λ (w : Served). GrewBy (Conducts usual (place_of source_name) (place_of destination_name)) (told_by before) (told_by w)) (sym same) conducts)

  pub rehearsed : (wires : Served) (summary : Summary) → wires.shorts ≡ 0 → wires.network.schedule ≡ Seeded seed → CameFrom seed n wires.calls wires.network → summary ≡ sums_of seed (export_in wires.network.exports 0).export.bytes → Ended wires summary → HasRehearsed seed n summary wires
  unfolding came_by
  rehearsed wires summary shorts seeded came right e = record {
    source = stored_of (export_in wires.network.exports 0);
    destination = stored_of (export_in wires.network.exports 1);
    contents = e.told;
    from = source_is seed n source (stored_of (export_in wires.network.exports 0)) at generated e.first;
    to = destination_is n destination (stored_of (export_in wires.network.exports 1)) to noise e.second;
    shorts = shorts;
    seeded = seeded;
    came = came_by seed n wires.calls wires.network came;
    set_up = came.set_up;
    copied = e.copied;
    made = e.made;
    kept = e.equal.kept;
    equal = e.equal.equal;
    sums = right ∙ ap (λ (b : List ℕ). sums_of seed b) e.equal.kept;
    conducts = e.conducts;
    moved = copies_move_bytes usual (place_of source_name) (place_of destination_name) wires.calls wires.network (came_by seed n wires.calls wires.network came) e.small (subst Moves (sym seeded) tt) e.servable e.conducts;
  }
