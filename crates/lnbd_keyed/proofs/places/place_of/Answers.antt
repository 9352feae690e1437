use Rattle.std.proofs.Common.{◌∙◌, get_or, ap, sym, arith}
use Rattle.lnbd_keyed.proofs.PlaceLaws.{rank_place, rank_held, rank_end, rank_other}
use Rattle.lnbd_keyed.proofs.places.place_of.Goals as goal

pub returns-then-at-rows-clause-none : goal.returns-then-at-rows-clause-none
returns-then-at-rows-clause-none g c = rank_end c.args.key c.args.rows.now c.requires (sym c.rank_of-at.ensures.rank ∙ c.if-at-rows.true)

pub returns-then-rows-at-clause-held : goal.returns-then-rows-at-clause-held
returns-then-rows-at-clause-held g c =
    rank_held c.args.key c.index-rows-at.result c.args.rows.now (omega arith)
    (ap (λ i. (get_or c.args.rows.now i c.index-rows-at.result).0) (sym c.rank_of-at.ensures.rank) ∙ c.if-rows-at.true)

pub returns-then-rows-at-clause-place : goal.returns-then-rows-at-clause-place
returns-then-rows-at-clause-place g c =
    let held = rank_held c.args.key c.index-rows-at.result c.args.rows.now (omega arith)
    (ap (λ i. (get_or c.args.rows.now i c.index-rows-at.result).0) (sym c.rank_of-at.ensures.rank) ∙ c.if-rows-at.true) in
    c.rank_of-at.ensures.rank ∙ rank_place c.args.key c.args.rows.now c.requires held

pub returns-else-rows-at-clause-none : goal.returns-else-rows-at-clause-none
returns-else-rows-at-clause-none g c =
    rank_other c.args.key c.index-rows-at.result c.args.rows.now c.requires
    (λ same. c.if-rows-at.false (ap (λ i. (get_or c.args.rows.now i c.index-rows-at.result).0) c.rank_of-at.ensures.rank ∙ same))
