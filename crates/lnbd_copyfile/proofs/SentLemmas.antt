-- No more slices of a copy from a file are under way where they go on.
use Rattle.std.proofs.Common.{◌≡◌, ◌≤◌, ◌+◌, ℕ, length, ap, subst, ◌∙◌, arith}
use Rattle.lnbd_keyed.specs.Keyed.{without}
use Rattle.lnbd_keyed.proofs.KeyedLemmas.{length_with, length_without}
use Rattle.lnbd_board.specs.declared.ask.Change.{Change}
use Rattle.lnbd_board.specs.declared.how.How.{How}
use Rattle.lnbd_board.specs.declared.next.Next.{Next}
use Rattle.lnbd_board.specs.declared.next.Next.TheVariants as next
use Rattle.lnbd_board.specs.Board.{AsksOn, EndsRow, IsNext}
use Rattle.lnbd_board.specs.Files as board

pub fewer_over : (how : How) (n source destination : ℕ) (told : Next) (old new : board.Seen) → told ≡ next.Over n source destination → IsNext how told old new →
    length new.rows ≤ length old.rows
fewer_over how n source destination told old new is goes =
    let over : EndsRow how n source destination old new = subst (λ (x : Next). IsNext how x old new) is goes in
    let less : length (without n old.rows) + 1 ≡ length old.rows = length_without n over.row old.rows over.held in
    let left : length new.rows ≡ length (without n old.rows) = ap (λ (s : board.Seen). length s.rows) over.now in
    omega (arith, less, left)

pub fewer_on : (how : How) (n destination : ℕ) (one : Change) (told : Next) (old mid new : board.Seen) → told ≡ next.Asks n destination one → IsNext how told old mid → new ≡ mid →
    length new.rows ≤ length old.rows
fewer_on how n destination one told old mid new is goes same =
    let on : AsksOn how n destination one old mid = subst (λ (x : Next). IsNext how x old mid) is goes in
    let kept : length new.rows ≡ length old.rows = ap (λ (s : board.Seen). length s.rows) (same ∙ on.now) ∙ length_with n (record on.row { stage = on.stage }) old.rows in
    omega (arith, kept)
