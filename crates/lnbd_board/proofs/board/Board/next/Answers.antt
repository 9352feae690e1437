use Rattle.std.proofs.Common.{ℕ, List, None, ap, sym, subst, ◌∙◌, refl, is_some, deque_capacity}
use Rattle.lnbd_board.specs.Files.{Seen}
use Rattle.lnbd_board.specs.Asks.{Goes}
use Rattle.lnbd_board.specs.Board.{IsKept, risen}
use Rattle.lnbd_board.proofs.Kept.{kept_went, kept_went_on, kept_went_over, held_still, noted_first}
use Rattle.lnbd_board.proofs.Going.{goes_of, goes_none, asks_on, ends_row}
use Rattle.lnbd_board.proofs.Moves.{on_err}
use Rattle.lnbd_board.proofs.board.Board.next.Goals as goal

pub invariant_of-self : goal.invariant_of-self
invariant_of-self c =
    let first = noted_first c.self.inside.came.items _ c.in-Some.number (sym c.first_came.ensures ∙ c.in-Some.is) refl in
    let k = subst (λ (l : List ℕ). IsKept c.self.inside.how c.self.inside.rows.rows l (deque_capacity c.self.inside.came) c.self.inside.begun) first c.self.invariant in
    subst (λ (l : List ℕ). IsKept c.self.inside.how c.go_on.new.rows.rows l (deque_capacity c.self.inside.came) c.self.inside.begun) (sym first)
    (kept_went c.self.inside.how c.in-Some.number None c.self.inside.rows.rows c.go_on.new.rows.rows _ _ _ refl c.in_err-change.ensures.err k)

pub returns-in_err-change-clause-err : goal.returns-in_err-change-clause-err
returns-in_err-change-clause-err c =
    on_err c.from_residual.result _
    (subst (λ (s : Seen). Goes s.how 0 None s.rows c.go_on.new.rows.rows) c.self.view_is
    (goes_none c.self.inside.how c.in-Some.number 0 c.self.inside.rows.rows c.go_on.new.rows.rows
    (goes_of c.self.inside.how c.in-Some.number None c.self.inside.rows.rows c.go_on.new.rows.rows c.in_err-change.ensures.err)))

pub invariant_of-self-in-Some-change : goal.invariant_of-self-in-Some-change
invariant_of-self-in-Some-change c =
    let first = noted_first c.self.inside.came.items c.pop_front-number.new.self.items c.in-Some.number (sym c.first_came.ensures ∙ c.in-Some.is) c.pop_front-number.ensures.rest in
    let k = subst (λ (l : List ℕ). IsKept c.self.inside.how c.self.inside.rows.rows l (deque_capacity c.self.inside.came) c.self.inside.begun) first c.self.invariant in
    rw c.pop_front-number.ensures.capacity
    (kept_went_on c.self.inside.how c.in-Some.number _ _ c.self.inside.rows.rows c.go_on.new.rows.rows c.pop_front-number.new.self.items _ _ c.in-Some-change.is c.in_ok-change.ensures.ok k)

pub drop_row-requires : goal.drop_row-requires
drop_row-requires c = record { held = ap is_some (held_still c.self.inside.how c.in-Some.number _ c.self.inside.rows.rows c.go_on.new.rows.rows c.in_ok-change.ensures.ok) }

pub invariant_of-self-in-None : goal.invariant_of-self-in-None
invariant_of-self-in-None c =
    let first = noted_first c.self.inside.came.items c.pop_front-number.new.self.items c.in-Some.number (sym c.first_came.ensures ∙ c.in-Some.is) c.pop_front-number.ensures.rest in
    let k = subst (λ (l : List ℕ). IsKept c.self.inside.how c.self.inside.rows.rows l (deque_capacity c.self.inside.came) c.self.inside.begun) first c.self.invariant in
    rw c.pop_front-number.ensures.capacity
    (kept_went_over c.self.inside.how c.in-Some.number _ c.self.inside.rows.rows c.go_on.new.rows.rows c.drop_row.new.rows.rows c.pop_front-number.new.self.items _ _ c.in-None.is c.in_ok-change.ensures.ok c.drop_row.ensures k)

pub returns-in-Some-change-clause-ok : goal.returns-in-Some-change-clause-ok
returns-in-Some-change-clause-ok c =
    let first = noted_first c.self.inside.came.items c.pop_front-number.new.self.items c.in-Some.number (sym c.first_came.ensures ∙ c.in-Some.is) c.pop_front-number.ensures.rest in
    rw (← c.self.view_is)
    (asks_on c.self.inside.how c.in-Some.number _ _ _ c.in-Some-change.change _ c.go_on.new.rows.rows c.pop_front-number.new.self.items _ _ c.in-Some-change.is first c.in_ok-change.ensures.ok c.in_ok-change.ensures.bound
    (c.saturating_add-self-inside.ensures ∙ ap (λ (m : ℕ). risen c.self.inside.written m) c.written.ensures)
    (c.saturating_add-self-inside-in-Some-change.ensures ∙ ap (λ (m : ℕ). risen c.self.inside.zeroed m) c.zeroed.ensures))

pub returns-in-None-clause-ok : goal.returns-in-None-clause-ok
returns-in-None-clause-ok c =
    let first = noted_first c.self.inside.came.items c.pop_front-number.new.self.items c.in-Some.number (sym c.first_came.ensures ∙ c.in-Some.is) c.pop_front-number.ensures.rest in
    rw (← c.self.view_is)
    (ends_row c.self.inside.how c.in-Some.number _ _ _ _ c.go_on.new.rows.rows c.drop_row.new.rows.rows c.pop_front-number.new.self.items c.in-None.is first c.in_ok-change.ensures.ok c.in_ok-change.ensures.over c.in_ok-change.ensures.bound c.drop_row.ensures)
