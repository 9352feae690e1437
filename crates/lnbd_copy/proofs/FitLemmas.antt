-- The slices of rows fit: so they do when one goes on, is over, or begins.
use Rattle.std.proofs.Common.{◌≡◌, ℕ, ◌==◌, Bool, true, false, List, [], ◌∷◌, ◌++◌, cond, Option, Some, None, if◌then◌else◌, refl, ap, sym, subst, ◌∙◌}
use Rattle.lnbd_keyed.specs.Keyed.{value_at, with_value, without}
use Rattle.lnbd_plan.specs.declared.cells.Cells.{Cells}
use Rattle.lnbd_plan.specs.declared.grid.Slice.{Slice}
use Rattle.lnbd_board.specs.declared.ask.Ask.{Ask}
use Rattle.lnbd_board.specs.declared.ask.Change.{Change}
use Rattle.lnbd_board.specs.declared.how.How.{How}
use Rattle.lnbd_board.specs.declared.next.Next.{Next}
use Rattle.lnbd_board.specs.declared.next.Next.TheVariants as next
use Rattle.lnbd_board.specs.declared.row.Row.{Row}
use Rattle.lnbd_board.specs.Board.{AsksOn, EndsRow, IsNext, begun_with}
use Rattle.lnbd_board.specs.Files.{received, rows_with}
use Rattle.lnbd_board.specs.Files as board
use Rattle.lnbd_board.specs.Rows.{is_busy}
use Rattle.lnbd_copy.specs.Windows.{AllFit, IsFit}

none_some : (row : Row) → None ≡ Some row → ⊥
none_some row e = cc

some_same : (one other : Row) → Some one ≡ Some other → one ≡ other
some_same one other e = cc

module _ (size : ℕ) (cells : Cells) where
  pub fit_at : (n : ℕ) (row : Row) (rows : List (ℕ × Row)) → value_at n rows ≡ Some row → AllFit size cells rows → IsFit size cells row.slice
  fit_at n row [] held fit = absurd (none_some row held)
  fit_at n row (x ∷ xs) held fit = elim (n == x.0) as (λ b. cond b (Some x.1) (value_at n xs) ≡ Some row → IsFit size cells row.slice) [
    | true ↦ λ e. subst (λ (r : Row). IsFit size cells r.slice) (some_same x.1 row e) fit.0
    | false ↦ λ e. fit_at n row xs e fit.1
  ] held

  pub fit_with : (n : ℕ) (row new : Row) (rows : List (ℕ × Row)) → new.slice ≡ row.slice → value_at n rows ≡ Some row → AllFit size cells rows → AllFit size cells (with_value n new rows)
  fit_with n row new [] same held fit = tt
  fit_with n row new (x ∷ xs) same held fit = elim (n == x.0) as (λ b. cond b (Some x.1) (value_at n xs) ≡ Some row → AllFit size cells (cond b ((x.0, new) ∷ xs) (x ∷ with_value n new xs))) [
    | true ↦ λ e. (subst (λ (s : Slice). IsFit size cells s) (ap (λ (r : Row). r.slice) (some_same x.1 row e) ∙ sym same) fit.0, fit.1)
    | false ↦ λ e. (fit.0, fit_with n row new xs same e fit.1)
  ] held

  fit_without : (n : ℕ) (rows : List (ℕ × Row)) → AllFit size cells rows → AllFit size cells (without n rows)
  fit_without n [] fit = tt
  fit_without n (x ∷ xs) fit = elim (n == x.0) as (λ b. AllFit size cells (cond b xs (x ∷ without n xs))) [ true ↦ fit.1 | false ↦ (fit.0, fit_without n xs fit.1) ]

  fit_last : (n : ℕ) (row : Row) (rows : List (ℕ × Row)) → IsFit size cells row.slice → AllFit size cells rows → AllFit size cells (rows ++ (n, row) ∷ [])
  fit_last n row [] one fit = (one, tt)
  fit_last n row (x ∷ xs) one fit = (fit.0, fit_last n row xs one fit.1)

  -- A row that something came for has the slice that it had.
  pub rows_fit : (n : ℕ) (buf : List ℕ) (rows : List (ℕ × Row)) → AllFit size cells rows → AllFit size cells (rows_with (value_at n rows) n buf rows)
  rows_fit n buf rows fit = elim (value_at n rows) as (λ (o : Option Row). value_at n rows ≡ o → AllFit size cells (rows_with o n buf rows)) [
    | None ↦ λ e. fit
    | Some row ↦ λ e. elim (is_busy row.stage) as (λ b. AllFit size cells (if b then with_value n (record row { stage = received row.stage buf }) rows else rows)) [
      | true ↦ fit_with n row (record row { stage = received row.stage buf }) rows refl e fit
      | false ↦ fit
    ]
  ] refl

  -- What comes next.

  pub fit_nothing : (how : How) (told : Next) (old new : board.Seen) → told ≡ next.Nothing → IsNext how told old new → AllFit size cells old.rows → AllFit size cells new.rows
  fit_nothing how told old new is nothing fit =
      let same = subst (λ (x : Next). IsNext how x old new) is nothing in
      subst (λ (s : board.Seen). AllFit size cells s.rows) (sym same.1) fit

  pub fit_on : (how : How) (n destination : ℕ) (one : Change) (told : Next) (old mid new : board.Seen) → told ≡ next.Asks n destination one → IsNext how told old mid → new ≡ mid → AllFit size cells old.rows → AllFit size cells new.rows
  fit_on how n destination one told old mid new is goes same fit =
      let on : AsksOn how n destination one old mid = subst (λ (x : Next). IsNext how x old mid) is goes in
      subst (λ (l : List (ℕ × Row)). AllFit size cells l) (sym (ap (λ (s : board.Seen). s.rows) same ∙ ap (λ (s : board.Seen). s.rows) on.now))
      (fit_with n on.row (record on.row { stage = on.stage }) old.rows refl on.held fit)

  pub fit_over : (how : How) (n source destination : ℕ) (told : Next) (old new : board.Seen) → told ≡ next.Over n source destination → IsNext how told old new → AllFit size cells old.rows → AllFit size cells new.rows
  fit_over how n source destination told old new is ends fit =
      let over : EndsRow how n source destination old new = subst (λ (x : Next). IsNext how x old new) is ends in
      subst (λ (l : List (ℕ × Row)). AllFit size cells l) (sym (ap (λ (s : board.Seen). s.rows) over.now)) (fit_without n old.rows fit)

  -- A slice begins.
  pub fit_begun : (row : Row) (one : Ask) (old mid new : board.Seen) → mid ≡ begun_with old row one → new ≡ mid → IsFit size cells row.slice → AllFit size cells old.rows → AllFit size cells new.rows
  fit_begun row one old mid new is same slice fit =
      subst (λ (l : List (ℕ × Row)). AllFit size cells l) (sym (ap (λ (s : board.Seen). s.rows) same ∙ ap (λ (s : board.Seen). s.rows) is)) (fit_last old.begun row old.rows slice fit)

-- What a step keeps by one size and cells it keeps by those that are the same.
pub fit_as : (size size' : ℕ) (cells cells' : Cells) (rows rows' : List (ℕ × Row)) → size ≡ size' → cells ≡ cells' → (AllFit size cells rows → AllFit size cells rows') → AllFit size' cells' rows → AllFit size' cells' rows'
fit_as size size' cells cells' rows rows' one two fits fit =
    subst (λ (n : ℕ). AllFit n cells' rows') one (subst (λ (c : Cells). AllFit size c rows') two
    (fits (subst (λ (n : ℕ). AllFit n cells rows) (sym one) (subst (λ (c : Cells). AllFit size' c rows) (sym two) fit))))
