use Rattle.std.proofs.Common.{◌≡◌, true, sym, subst, ◌∙◌}
use Rattle.lnbd_keyed.proofs.KeyedLemmas.{value_at_with}
use Rattle.lnbd_board.specs.declared.row.Row.{Row}
use Rattle.lnbd_board.specs.Asks.{is_over}
use Rattle.lnbd_board.proofs.board.go_on.Goals as goal

pub advance-requires-clause-sits : goal.advance-requires-clause-sits
advance-requires-clause-sits c = c.requires.sits c.args.number c.in-Some.row.now (sym c.in-Some.ensures.value)

pub returns-clause-over : goal.returns-clause-over
returns-clause-over c = λ none row held.
    let now = value_at_with c.args.number c.in-Some.row.now c.advance.new.row c.args.rows.now.rows (sym c.in-Some.ensures.value) in
    let same : c.advance.new.row ≡ row = cc in
    subst (λ (r : Row). is_over r.stage ≡ true) same (c.in_ok-change-in-Some.ensures.over ∙ none)
