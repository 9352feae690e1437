use Rattle.std.proofs.Common.{◌≡◌, ◌-◌, suc, sym, arith}
use Rattle.std.proofs.lemmas.Grind.{common_steps}
use Rattle.lnbd_extents.specs.Spots.{place}
use Rattle.lnbd_extents.proofs.SpotLaws.{covers_at, covers_nowhere, last_start}
use Rattle.lnbd_extents.proofs.places.has_all.Goals as goal

pub returns-then-at-eq0 : goal.returns-then-at-eq0
returns-then-at-eq0 c = sym (covers_nowhere 0 c.args.start c.args.length c.args.ranges.now c.requires.longest (omega arith))

pub returns-then-reach-count : goal.returns-then-reach-count
returns-then-reach-count c =
    let p : place c.args.start c.args.ranges.now ≡ suc (c.place_of-at.result - 1) = omega arith in
    let k = covers_at 0 c.args.start c.args.length (c.place_of-at.result - 1) (0, 0) c.args.ranges.now c.requires.longest c.requires.some p in
    let low = last_start c.args.start (0, 0) c.args.ranges.now c.requires.longest (omega arith) in
    grind (arith, common_steps)

pub returns-else-reach-count : goal.returns-else-reach-count
returns-else-reach-count c =
    let p : place c.args.start c.args.ranges.now ≡ suc (c.place_of-at.result - 1) = omega arith in
    let k = covers_at 0 c.args.start c.args.length (c.place_of-at.result - 1) (0, 0) c.args.ranges.now c.requires.longest c.requires.some p in
    let low = last_start c.args.start (0, 0) c.args.ranges.now c.requires.longest (omega arith) in
    grind (arith, common_steps)
