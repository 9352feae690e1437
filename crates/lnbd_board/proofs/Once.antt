-- No position is asked for twice.
use Rattle.std.proofs.Common.{◌≡◌, ℕ, ◌+◌, ◌≤◌, inl, inr, List, [], ◌∷◌, ◌++◌, Bool, true, false, not, ◌||◌, cond, refl, ap, sym, ◌∙◌, arith, length, Option, Some, None, length-append}
use Rattle.std.proofs.lemmas.Bool.{cases_lt}
use Rattle.lnbd_outcome.specs.Outcome.{Outcome, Unfinished, Done}
use Rattle.lnbd_asked.specs.Honest.{covers}
use Rattle.lnbd_plan.specs.declared.grid.Slice.{Slice}
use Rattle.lnbd_plan.specs.declared.cells.Cells.{Cells}
use Rattle.lnbd_plan.specs.Laws.{slices_at, IsPlannedOnce}
use Rattle.lnbd_plan.proofs.OnceLaws.{at_both}
use Rattle.lnbd_board.specs.declared.how.How.{How}
use Rattle.lnbd_board.specs.declared.row.Row.{Row}
use Rattle.lnbd_board.specs.declared.row.Stage.{Stage}
use Rattle.lnbd_board.specs.declared.row.Stage.TheVariants.{Reading, Last, Came, Writing, Holding, Finished}
use Rattle.lnbd_board.specs.Requests.{Said, Request, reads, over, over_said, reads_over, reads_over_said, waiting}
use Rattle.lnbd_board.specs.Pieces.{Piece, spell, spell1, ask_of, wrote}
use Rattle.lnbd_board.specs.Rows.{slice_at, Stands, StandsAs, StandsAt, KnownBy, IsRead}
use Rattle.lnbd_board.specs.Holds.{EachIsAskedOnce}
use Rattle.lnbd_board.proofs.Spelling.{Found, found, Covered, Once, Never, covered, wrote_before, wrote_after, covers_piece, within_below}
use Rattle.lnbd_board.proofs.Inside.{reads_slice, reads_nowhere, over_slice, over_nowhere}

over_said-append : (p : ℕ) (xs ys : List Said) → over_said p (xs ++ ys) ≡ over_said p xs ++ over_said p ys
over_said-append p [] ys = refl
over_said-append p (x ∷ xs) ys =
    let e = over_said-append p xs ys in
    elim (covers x.command p) as (λ b. cond b (x ∷ over_said p (xs ++ ys)) (over_said p (xs ++ ys)) ≡ cond b (x ∷ over_said p xs) (over_said p xs) ++ over_said p ys)
    [ true ↦ ap (λ l. x ∷ l) e | false ↦ e ]

one_change : (p : ℕ) (x : Said) → length (over_said p (x ∷ [])) ≤ 1
one_change p x = elim (covers x.command p) as (λ b. length (cond b (x ∷ []) []) ≤ 1) [ true ↦ omega arith | false ↦ omega arith ]

one_read : (p : ℕ) (x : Said) → length (reads_over_said p (x ∷ [])) ≤ 1
one_read p x = elim (reads x.command p) as (λ b. length (cond b (x ∷ []) []) ≤ 1) [ true ↦ omega arith | false ↦ omega arith ]

covered_once : (how : How) (p b : ℕ) (said : List Said) → Covered how p b said → length (over_said p said) ≤ 1
covered_once how p b said (Once at piece e w byte) = rw e (omega arith)
covered_once how p b said (Never s e k) = rw e (omega arith)

wrote_once : (how : How) (p at : ℕ) (pieces : List Piece) → length (over_said p (wrote how at pieces)) ≤ 1
wrote_once how p at pieces =
    elim (cases_lt p at) [
      | inl l ↦ rw (wrote_before how p at pieces l) (omega arith)
      | inr l ↦ elim (cases_lt p (at + length (spell pieces))) [
        | inl k ↦ covered_once how p _ _ (covered how p at pieces l k)
        | inr k ↦ rw (wrote_after how p at pieces k) (omega arith)
      ]
    ]

writes_once : (how : How) (p at : ℕ) (pieces : List Piece) (piece : Piece) → length (over_said p (wrote how at pieces ++ waiting (ask_of how (at + length (spell pieces)) piece) ∷ [])) ≤ 1
writes_once how p at pieces piece =
    rw (over_said-append p (wrote how at pieces) (waiting (ask_of how (at + length (spell pieces)) piece) ∷ []))
    (elim (cases_lt p (at + length (spell pieces))) [
      | inl l ↦
          let c = covers_piece how p (at + length (spell pieces)) piece ∙ within_below (at + length (spell pieces)) (length (spell1 piece)) p l in
          let one = wrote_once how p at pieces in
          rw c (let e = length-append (over_said p (wrote how at pieces)) [] in omega (arith, e, one))
      | inr l ↦ rw (wrote_after how p at pieces l) (one_change p (waiting (ask_of how (at + length (spell pieces)) piece)))
    ])

read_once : (p : ℕ) (s : Slice) (outcome : Outcome) (read : List Said) → IsRead s outcome read → length (reads_over_said p read) ≤ 1
read_once p s outcome read k = rw k.one (one_read p (record { command = k.command; outcome = outcome }))

known_once : (z : Bool) (p : ℕ) (s : Slice) (bytes : List ℕ) (read : List Said) → KnownBy z s bytes read → length (reads_over_said p read) ≤ 1
known_once true p s bytes read k = rw k.1 (omega arith)
known_once false p s bytes read k = read_once p s (Done bytes) read k

abbrev Both : ℕ → List Said → List Said → Type 0
Both p read changed = (length (reads_over_said p read) ≤ 1) × (length (over_said p changed) ≤ 1)

at_once : (how : How) (p : ℕ) (s : Slice) (stage : Stage) (read changed : List Said) → StandsAt how s stage read changed → Both p read changed
at_once how p s Reading read changed h = (read_once p s Unfinished read h.asked, rw h.unchanged (omega arith))
at_once how p s Last read changed h = (known_once s.zero p s h.bytes read h.known.by, rw h.asked (writes_once how p s.start h.did h.now))
at_once how p s (Came bytes) read changed h = (known_once s.zero p s bytes read h.known.by, rw h.unchanged (omega arith))
at_once how p s (Writing bytes left) read changed h = (known_once s.zero p s bytes read h.known.by, rw h.asked (writes_once how p s.start h.did h.now))
at_once how p s (Holding bytes left) read changed h = (known_once s.zero p s bytes read h.known.by, rw h.asked (wrote_once how p s.start h.did))
at_once how p s (Finished bytes) read changed h = (known_once s.zero p s h.bytes read h.known.by, rw h.asked (wrote_once how p s.start h.did))

as_once : (how : How) (p : ℕ) (s : Slice) (row : Option Row) (read changed : List Said) → StandsAs how s row read changed → Both p read changed
as_once how p s None read changed h = (known_once s.zero p s h.bytes read h.known.by, rw h.asked (wrote_once how p s.start h.did))
as_once how p s (Some row) read changed h = at_once how p s row.stage read changed h.1

-- Each position is in one slice, or in none.

planned_few : (cells : Cells) (told : ℕ → Bool) (size p : ℕ) (slices : List Slice) → IsPlannedOnce cells told 0 size p slices → length (slices_at p slices) ≤ 1
planned_few cells told size p slices h =
    elim (cases_lt p size) [
      | inr l ↦ rw (h.outside (inr l)) (omega arith)
      | inl l ↦ elim (cells.zeros || not (told p)) as (λ b. cells.zeros || not (told p) ≡ b → length (slices_at p slices) ≤ 1) [
        | true ↦ λ e. rw (h.one (omega arith) l e).one (omega arith)
        | false ↦ λ e. rw (h.none (omega arith) l e) (omega arith)
      ] refl
    ]

begun_few : (p : ℕ) (slices rest : List Slice) → length (slices_at p (slices ++ rest)) ≤ 1 → length (slices_at p slices) ≤ 1
begun_few p slices rest h =
    let e : length (slices_at p (slices ++ rest)) ≡ length (slices_at p slices) + length (slices_at p rest) = ap (λ (l : List Slice). length l) (at_both p slices rest) ∙ length-append (slices_at p slices) (slices_at p rest) in
    omega (arith, h, e)

data FirstOf (p : ℕ) (slices : List Slice) : Type 0 where
  Nowhere : slices_at p slices ≡ [] → FirstOf p slices
  Somewhere : (s : Slice) → Found p s slices → FirstOf p slices

first_of_all : (p : ℕ) (slices : List Slice) → FirstOf p slices
first_of_all p slices =
    elim (slices_at p slices) as (λ l. slices_at p slices ≡ l → FirstOf p slices) [
      | [] ↦ λ e. Nowhere e
      | s ∷ more ↦ λ e. Somewhere s (found p s slices more e)
    ] refl

once_at : (how : How) (p : ℕ) (slices : List Slice) (rows : List (ℕ × Row)) (source destination : List Request) → Stands how slices rows source destination → length (slices_at p slices) ≤ 1 → FirstOf p slices →
    (length (reads_over p source) ≤ 1) × (length (over p destination) ≤ 1)
once_at how p slices rows source destination stands few (Nowhere none) = (rw (reads_nowhere p slices source none stands.reads) (omega arith), rw (over_nowhere how p slices destination none stands.changes) (omega arith))
once_at how p slices rows source destination stands few (Somewhere s f) =
    let k = as_once how p (slice_at slices f.number) _ _ _ (stands.each f.number f.held) in
    (rw (reads_slice p f.number slices source few f.held f.has stands.reads) k.0, rw (over_slice how p f.number slices destination few f.held f.has stands.changes) k.1)

none_begun : (p : ℕ) (slices rest : List Slice) → slices_at p (slices ++ rest) ≡ [] → slices_at p slices ≡ []
none_begun p slices rest h = let e : slices_at p slices ++ slices_at p rest ≡ [] = sym (at_both p slices rest) ∙ h in empty (slices_at p slices) (slices_at p rest) e
  where
    empty : (xs ys : List Slice) → xs ++ ys ≡ [] → xs ≡ []
    empty [] ys e = refl
    empty (x ∷ xs) ys e = absurd (cc)

pub once : EachIsAskedOnce
once how cells told size slices rest rows source destination stands planned = (
  record {
    reads = λ p. (once_at how p slices rows source destination stands (begun_few p slices rest (planned_few cells told size p (slices ++ rest) (planned p))) (first_of_all p slices)).0;
    changes = λ p. (once_at how p slices rows source destination stands (begun_few p slices rest (planned_few cells told size p (slices ++ rest) (planned p))) (first_of_all p slices)).1;
  },
  record {
    reads = λ p l. reads_nowhere p slices source (none_begun p slices rest ((planned p).outside (inr l))) stands.reads;
    changes = λ p l. over_nowhere how p slices destination (none_begun p slices rest ((planned p).outside (inr l))) stands.changes;
  },
)
