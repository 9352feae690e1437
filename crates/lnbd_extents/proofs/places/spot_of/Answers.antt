use Rattle.lnbd_extents.proofs.SpotLaws.{last_start, next_meets, previous_meets, apart_apart, apart_joins, joins_apart, joins_joins}
use Rattle.std.proofs.Common.{subst, sym, ◌<◌, ◌≤◌, ◌-◌, get_or, ℕ}
use Rattle.lnbd_extents.proofs.places.spot_of.Goals as goal

pub previous_side-previous-requires-clause-started : goal.previous_side-previous-requires-clause-started
previous_side-previous-requires-clause-started c =
    subst (λ (k : ℕ). 0 < k → (get_or c.args.ranges.now (k - 1) (0, 0)).0 ≤ c.args.start) (sym c.place_of-at.ensures.place) (last_start c.args.start (0, 0) c.args.ranges.now c.requires.from)

pub returns-in-Meets : goal.returns-in-Meets
returns-in-Meets c = previous_meets c.args.start c.args.length c.args.ranges.now c.requires.from c.requires.some c.place_of-at.result c.place_of-at.ensures.place c.in-Meets.ensures

pub returns-in-Meets-next : goal.returns-in-Meets-next
returns-in-Meets-next c = next_meets c.args.start c.args.length c.args.ranges.now c.requires.from c.requires.some c.place_of-at.result c.place_of-at.ensures.place c.in-Meets-next.ensures

pub returns-in-Joins-next : goal.returns-in-Joins-next
returns-in-Joins-next c = joins_joins c.args.start c.args.length c.args.ranges.now c.requires.from c.requires.some c.place_of-at.result c.place_of-at.ensures.place c.in-Joins.ensures c.in-Joins-next.ensures

pub returns-in-Apart-next : goal.returns-in-Apart-next
returns-in-Apart-next c = joins_apart c.args.start c.args.length c.args.ranges.now c.requires.from c.requires.some c.place_of-at.result c.place_of-at.ensures.place c.in-Joins.ensures c.in-Apart-next.ensures

pub returns-in-Meets-next-2 : goal.returns-in-Meets-next-2
returns-in-Meets-next-2 c = next_meets c.args.start c.args.length c.args.ranges.now c.requires.from c.requires.some c.place_of-at.result c.place_of-at.ensures.place c.in-Meets-next-2.ensures

pub returns-in-Joins-next-2 : goal.returns-in-Joins-next-2
returns-in-Joins-next-2 c = apart_joins c.args.start c.args.length c.args.ranges.now c.requires.from c.requires.some c.place_of-at.result c.place_of-at.ensures.place c.in-Apart.ensures c.in-Joins-next-2.ensures

pub returns-in-Apart-next-2 : goal.returns-in-Apart-next-2
returns-in-Apart-next-2 c = apart_apart c.args.start c.args.length c.args.ranges.now c.requires.from c.requires.some c.place_of-at.result c.place_of-at.ensures.place c.in-Apart.ensures c.in-Apart-next-2.ensures
