use Rattle.std.proofs.Common.{◌∙◌, arith}
use Rattle.lnbd_keyed.proofs.PlaceLaws.{rank_place, place_within}
use Rattle.lnbd_keyed.proofs.places.place_in.Goals as goal

pub returns-clause-place : goal.returns-clause-place
returns-clause-place g c = c.rank_of.ensures.rank ∙ rank_place c.args.key c.args.rows.now c.requires.rising c.requires.held

pub returns-clause-within : goal.returns-clause-within
returns-clause-within g c =
    omega (arith, rank_place c.args.key c.args.rows.now c.requires.rising c.requires.held, place_within c.args.key c.args.rows.now c.requires.held)
