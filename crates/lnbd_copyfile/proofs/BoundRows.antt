-- Rows are bound to the connections that they were bound to, as a file makes what is asked of it.
use Rattle.std.proofs.Common.{◌≡◌, inl, inr, ℕ, Bool, true, false, List, [], ◌∷◌, length, Option, Some, None, ap, sym, subst, ◌∙◌, if◌then◌else◌}
use Rattle.lnbd_keyed.specs.Keyed.{IsRising, value_at, with_value}
use Rattle.lnbd_keyed.proofs.KeyedLemmas.{IsRising_with, IsRising_without}
use Rattle.lnbd_callbacks.specs.Calls.{Complete}
use Rattle.lnbd_callbacks.specs.declared.caller.Verdict.TheVariants.{Retire}
use Rattle.lnbd_plan.specs.declared.grid.Slice.{Slice}
use Rattle.lnbd_board.specs.declared.ask.Ask.{Ask}
use Rattle.lnbd_board.specs.declared.how.How.{How}
use Rattle.lnbd_board.specs.declared.row.Row.{Row}
use Rattle.lnbd_board.specs.declared.ticket.Ticket.TheVariants as ticket
use Rattle.lnbd_board.specs.Asks.{change_of}
use Rattle.lnbd_board.specs.Board.{EndsRow, first_row}
use Rattle.lnbd_board.specs.Files.{came_with, is_unfit, or_error, received, rows_with}
use Rattle.lnbd_board.specs.Files as board
use Rattle.lnbd_board.specs.Requests.{Request}
use Rattle.lnbd_board.specs.Rows.{is_busy}
use Rattle.lnbd_onesided.specs.Desk.{Completes, done_more}
use Rattle.lnbd_course.proofs.FarStanding.{completed_earlier}
use Rattle.lnbd_copy.proofs.BindingLemmas.{Binds, SameBindings, binds_first, same_none, same_with, same_without}
use Rattle.lnbd_connections.proofs.BoundLemmas.{calls_same}
use Rattle.lnbd_copyfile.specs.Making.{Changed, Ended, IsBegun, Rested, WentOn}

same_then : (a b c : List (ℕ × Row)) → SameBindings a b → SameBindings b c → SameBindings a c
same_then a b c one two = record {
  each = λ n row is.
      let m = two.each n row is in
      let k = one.each n m.was m.held in
      record { was = k.was; held = k.held; source = m.source ∙ k.source; destination = m.destination ∙ k.destination };
}

-- A completion.

pub completed_same : (n : ℕ) (bytes : List ℕ) (next after : board.Seen) → Completes n bytes next after → SameBindings next.rows after.rows
completed_same n bytes next after c = calls_same (Complete (ticket.Slice n) 0 bytes Retire ∷ []) next after c

received_rising : (o : Option Row) (n : ℕ) (buf : List ℕ) (rows : List (ℕ × Row)) → IsRising rows → IsRising (rows_with o n buf rows)
received_rising None n buf rows rising = rising
received_rising (Some row) n buf rows rising = elim (is_busy row.stage) as (λ b. IsRising (if b then with_value n (record row { stage = received row.stage buf }) rows else rows)) [
  | true ↦ IsRising_with n (record row { stage = received row.stage buf }) rows rising
  | false ↦ rising
]

completed_rising : (n : ℕ) (bytes : List ℕ) (next after : board.Seen) → Completes n bytes next after → IsRising next.rows → IsRising after.rows
completed_rising n bytes next after c rising = subst (λ (s : board.Seen). IsRising s.rows) (sym (c.1.1 ∙ c.1.0.1)) (go (is_unfit (value_at n next.rows) bytes))
  where
    go : (b : Bool) → IsRising (if b then record next { error = or_error next.error 71 } else record next {
      rows = rows_with (value_at n next.rows) n bytes next.rows;
      came = came_with (value_at n next.rows) n next.came;
    }).rows
    go true = rising
    go false = received_rising (value_at n next.rows) n bytes next.rows rising

-- Rows go on.

ended_same : (how : How) (n source destination : ℕ) (now mid : board.Seen) → EndsRow how n source destination now mid → IsRising now.rows → SameBindings now.rows mid.rows
ended_same how n source destination now mid ends rising =
    subst (λ (rows : List (ℕ × Row)). SameBindings now.rows rows) (sym (ap (λ (s : board.Seen). s.rows) ends.now)) (same_without n now.rows rising)

ended_rising : (how : How) (n source destination : ℕ) (now mid : board.Seen) → EndsRow how n source destination now mid → IsRising now.rows → IsRising mid.rows
ended_rising how n source destination now mid ends rising = subst IsRising (sym (ap (λ (s : board.Seen). s.rows) ends.now)) (IsRising_without n now.rows rising)

module _ (how : How) where
  pub went_same : (now now2 : board.Seen) (made made2 : List Request) → WentOn how now made now2 made2 → IsRising now.rows → SameBindings now.rows now2.rows
  went_same now now2 made made2 (Rested _ _ _ _ same none) rising =
      subst (λ (s : board.Seen). SameBindings now.rows s.rows) (sym same) (same_none now.rows)
  went_same now now2 made made2 (Ended _ mid _ _ _ n source destination ends more) rising =
      same_then now.rows mid.rows now2.rows (ended_same how n source destination now mid ends rising) (went_same mid now2 made made2 more (ended_rising how n source destination now mid ends rising))
  went_same now now2 made made2 (Changed _ mid back _ _ _ n destination one asks came more) rising =
      let rows : mid.rows ≡ with_value n (record asks.row { stage = asks.stage }) now.rows = ap (λ (s : board.Seen). s.rows) asks.now in
      same_then now.rows mid.rows now2.rows (subst (λ (l : List (ℕ × Row)). SameBindings now.rows l) (sym rows) (same_with n asks.row asks.stage now.rows asks.held))
      (same_then mid.rows back.rows now2.rows (completed_same n (change_of one).payload mid back came)
      (went_same back now2 (done_more (length made) n (change_of one) (change_of one).payload made) made2 more
      (completed_rising n (change_of one).payload mid back came (subst (λ (l : List (ℕ × Row)). IsRising l) (sym rows) (IsRising_with n (record asks.row { stage = asks.stage }) now.rows rising)))))

  pub went_earlier : (now now2 : board.Seen) (made made2 : List Request) → WentOn how now made now2 made2 → now2.error ≡ None → now.error ≡ None
  went_earlier now now2 made made2 (Rested _ _ _ _ same none) well = sym (ap (λ (s : board.Seen). s.error) same) ∙ well
  went_earlier now now2 made made2 (Ended _ mid _ _ _ n source destination ends more) well = sym (ap (λ (s : board.Seen). s.error) ends.now) ∙ went_earlier mid now2 made made2 more well
  went_earlier now now2 made made2 (Changed _ mid back _ _ _ n destination one asks came more) well =
      sym (ap (λ (s : board.Seen). s.error) asks.now)
      ∙ completed_earlier n (change_of one).payload mid back came (went_earlier back now2 (done_more (length made) n (change_of one) (change_of one).payload made) made2 more well)

-- A slice begins with what the file makes at once: no connection is asked.

no_slice : (n : ℕ) → ticket.Flush ≡ ticket.Slice n → ⊥
no_slice n e = cc

pub binds_made : (side : Bool) (slice : Slice) (source destination : ℕ) (one : Ask) (now mid after : board.Seen) (n : ℕ) (bytes : List ℕ) → IsBegun slice source destination one now mid →
    Completes n bytes mid after →
    {connection : ℕ} → Binds side connection ticket.Flush now after
binds_made side slice source destination one now mid after n bytes begun came = record {
  earlier = λ m row is.
      let k = (completed_same n bytes mid after came).each m row is in
      elim ((binds_first side (first_row slice source destination) now mid (ap (λ (s : board.Seen). s.rows) begun.row)).earlier m k.was k.held) [
        | inl b ↦ inl (record { was = b.was; held = b.held; source = k.source ∙ b.source; destination = k.destination ∙ b.destination })
        | inr e ↦ inr e
      ];
  here = λ below m row of held. absurd (no_slice m of);
}
