-- As much stays under way as may be, in a copy from an export to a file, while its file makes changes at once.
use Rattle.std.proofs.Common.{◌≡◌, ◌≤◌, ◌<◌, ◌+◌, ℕ, Bool, true, false, not, ◌&&◌, ◌==◌, List, [], ◌∷◌, ◌++◌, length, Option, Some, None, if◌then◌else◌, refl, ap, sym, subst, ◌∙◌, arith}
use Rattle.lnbd_keyed.specs.Keyed.{value_at, without}
use Rattle.lnbd_keyed.proofs.KeyedLemmas.{IsBelow_at, length_with, length_without}
use Rattle.lnbd_plan.specs.declared.grid.Slice.{Slice}
use Rattle.lnbd_board.specs.declared.ask.Change.{Change}
use Rattle.lnbd_board.specs.declared.how.How.{How}
use Rattle.lnbd_board.specs.declared.row.Row.{Row}
use Rattle.lnbd_board.specs.declared.row.Stage.{Stage}
use Rattle.lnbd_board.specs.declared.row.Stage.TheVariants.{Reading, Last, Came, Writing, Holding, Finished}
use Rattle.lnbd_board.specs.declared.ticket.Ticket.TheVariants as ticket
use Rattle.lnbd_board.specs.Asks.{change_of}
use Rattle.lnbd_board.specs.Files.{Seen, came_with, is_reading, is_unfit, or_error, rows_with}
use Rattle.lnbd_board.specs.Requests.{Request, Said, asking, own, waiting}
use Rattle.lnbd_board.specs.Rows.{Stands, StandsAs, StandsAt, slice_at}
use Rattle.lnbd_board.proofs.Lists.{own_asking}
use Rattle.lnbd_onesided.specs.Desk.{Completes, done_more, no_link}
use Rattle.lnbd_onesided.proofs.DeskLemmas.{changes_are_made}
use Rattle.lnbd_copy.proofs.UnderWayLemmas.{rows_many}
use Rattle.lnbd_store.specs.Shelf.{Shelf}
use Rattle.lnbd_conduct.specs.declared.terms.Terms.{Terms}
use Rattle.lnbd_copyfile.specs.Fullness.{StaysWell}
use Rattle.lnbd_copyfile.specs.Jobs as job
use Rattle.lnbd_copyfile.specs.Making.{Changed, Ended, MakesChanges, Rested, WentOn}

-- How many rows there are.

completed_many : (n : ℕ) (bytes : List ℕ) (next after : Seen) → Completes n bytes next after → length after.rows ≡ length next.rows
completed_many n bytes next after c = ap (λ (s : Seen). length s.rows) (c.1.1 ∙ c.1.0.1) ∙ go (is_unfit (value_at n next.rows) bytes)
  where
    go : (b : Bool) → length (if b then record next { error = or_error next.error 71 } else record next {
      rows = rows_with (value_at n next.rows) n bytes next.rows;
      came = came_with (value_at n next.rows) n next.came;
    }).rows ≡ length next.rows
    go true = refl
    go false = rows_many (value_at n next.rows) n bytes next.rows

went_few : (how : How) (now now2 : Seen) (made made2 : List Request) → WentOn how now made now2 made2 → length now2.rows ≤ length now.rows
went_few how now now2 made made2 (Rested _ _ _ _ same none) = let e : length now2.rows ≡ length now.rows = ap (λ (s : Seen). length s.rows) same in omega (arith, e)
went_few how now now2 made made2 (Ended _ mid _ _ _ n source destination ends more) =
    let rest = went_few how mid now2 made made2 more in
    let less : length (without n now.rows) + 1 ≡ length now.rows = length_without n ends.row now.rows ends.held in
    let left : length mid.rows ≡ length (without n now.rows) = ap (λ (s : Seen). length s.rows) ends.now in
    omega (arith, rest, less, left)
went_few how now now2 made made2 (Changed _ mid back _ _ _ n destination one asks came more) =
    let rest = went_few how back now2 (done_more (length made) n (change_of one) (change_of one).payload made) made2 more in
    let kept : length mid.rows ≡ length now.rows = ap (λ (s : Seen). length s.rows) asks.now ∙ length_with n (record asks.row { stage = asks.stage }) now.rows in
    let same = completed_many n (change_of one).payload mid back came in
    omega (arith, rest, kept, same)

pub makes_few : (how : How) (file : ℕ) (now now2 : Seen) (old new : Option Shelf) (taken taken2 : ℕ) → MakesChanges how file now now2 old new taken taken2 → length now2.rows ≤ length now.rows
makes_few how file now now2 old new taken taken2 makes = let one = makes.on [] in went_few how now now2 [] one.more one.went

-- No error comes.

module _ (how : How) (s : Slice) (one : Said) (read changed : List Said) where
  no_end : (xs : List Said) → xs ++ one ∷ [] ≡ [] → ⊥
  no_end [] e = cc
  no_end (x ∷ xs) e = cc

  -- a slice of which a change is asked waits for no read
  unread : (stage : Stage) → StandsAt how s stage read (changed ++ one ∷ []) → is_reading stage ≡ false
  unread Reading at = absurd (no_end changed at.unchanged)
  unread Last at = refl
  unread (Came bytes) at = refl
  unread (Writing bytes left) at = refl
  unread (Holding bytes left) at = refl
  unread (Finished bytes) at = refl

  fit : (row : Option Row) (buf : List ℕ) → StandsAs how s row read (changed ++ one ∷ []) → is_unfit row buf ≡ false
  fit None buf at = refl
  fit (Some row) buf at = ap (λ (b : Bool). b && not (length buf == row.slice.length)) (unread row.stage at.1)

none_unfit : (how : How) (slices : List Slice) (rows : List (ℕ × Row)) (source destination : List Request) (n : ℕ) (one : Change) (buf : List ℕ) →
    Stands how slices rows source (asking no_link 0 (ticket.Slice n) (change_of one) destination) → is_unfit (value_at n rows) buf ≡ false
none_unfit how slices rows source destination n one buf stands = go (value_at n rows) refl
  where
    here : n < length slices → StandsAs how (slice_at slices n) (value_at n rows) (own n source) (own n destination ++ waiting (change_of one) ∷ [])
    here less =
        subst (λ (l : List Said). StandsAs how (slice_at slices n) (value_at n rows) (own n source) l) (own_asking n no_link 0 (change_of one) destination) (stands.each n less)

    go : (row : Option Row) → value_at n rows ≡ row → is_unfit (value_at n rows) buf ≡ false
    go None is = ap (λ (o : Option Row). is_unfit o buf) is
    go (Some row) is =
        fit how (slice_at slices n) (waiting (change_of one)) (own n source) (own n destination) (value_at n rows) buf (here (IsBelow_at (length slices) n row rows stands.below is))

completed_well : (n : ℕ) (bytes : List ℕ) (next after : Seen) → Completes n bytes next after → is_unfit (value_at n next.rows) bytes ≡ false → after.error ≡ next.error
completed_well n bytes next after c fits =
    ap (λ (s : Seen). s.error) (c.1.1 ∙ c.1.0.1)
    ∙ ap (λ (b : Bool). (if b then record next { error = or_error next.error 71 } else record next {
      rows = rows_with (value_at n next.rows) n bytes next.rows;
      came = came_with (value_at n next.rows) n next.came;
    }).error) fits

went_well : (how : How) (slices : List Slice) (source : List Request) (now now2 : Seen) (made made2 destination : List Request) → WentOn how now made now2 made2
    → Stands how slices now.rows source destination → now.error ≡ None → now2.error ≡ None
went_well how slices source now now2 made made2 destination (Rested _ _ _ _ same none) stands well = ap (λ (s : Seen). s.error) same ∙ well
went_well how slices source now now2 made made2 destination (Ended _ mid _ _ _ n from to ends more) stands well =
    went_well how slices source mid now2 made made2 destination more ((ends.goes.on source destination no_link 0).on slices stands) (ap (λ (s : Seen). s.error) ends.now ∙ well)
went_well how slices source now now2 made made2 destination (Changed _ mid back _ _ _ n to one asks came more) stands well =
    let command = change_of one in
    let fits = none_unfit how slices mid.rows source destination n one command.payload ((asks.goes.on source destination no_link 0).on slices stands) in
    let still : back.error ≡ None = completed_well n command.payload mid back came fits ∙ ap (λ (s : Seen). s.error) asks.now ∙ well in
    went_well how slices source back now2 (done_more (length made) n command command.payload made) made2 (done_more 0 n command command.payload destination) more
    ((changes_are_made how n 0 one now.rows mid back source destination asks.goes came still).on slices stands) still

pub makes_well : (how : How) (file : ℕ) (now now2 : Seen) (old new : Option Shelf) (taken taken2 : ℕ) → MakesChanges how file now now2 old new taken taken2 → StaysWell how now now2
makes_well how file now now2 old new taken taken2 makes = record {
  on = λ slices source destination stands well. let one = makes.on [] in went_well how slices source now now2 [] one.more destination one.went stands well;
}

pub well_none : (how : How) (now : Seen) → StaysWell how now now
well_none how now = record { on = λ slices source destination stands well. well }

-- The job.

-- Slices went on, extents were heard and asked for, and slices were begun: no more are under way than may be.
pub fills_most : (file : ℕ) (j j1 j2 : job.Seen) (b b1 b2 b3 : Seen) (old new : Option Shelf) (taken taken2 : ℕ) → MakesChanges b.how file b b1 old new taken taken2 → j1.terms ≡ j.terms →
    j2.terms ≡ j1.terms →
    b2.rows ≡ b1.rows → (length b2.rows ≤ j2.terms.limit → length b3.rows ≤ j2.terms.limit) → length b.rows ≤ j.terms.limit → length b3.rows ≤ j.terms.limit
fills_most file j j1 j2 b b1 b2 b3 old new taken taken2 makes terms terms2 rows begins few =
    let limit : j2.terms.limit ≡ j.terms.limit = ap (λ (t : Terms). t.limit) terms2 ∙ ap (λ (t : Terms). t.limit) terms in
    let fewer = makes_few b.how file b b1 old new taken taken2 makes in
    let same : length b2.rows ≡ length b1.rows = ap (λ (l : List (ℕ × Row)). length l) rows in
    let most = begins (omega (arith, few, fewer, same, limit)) in
    omega (arith, most, limit)

-- Where nothing was heard, asked for or begun no error came.
pub acts_well : (file : ℕ) (b b1 b2 b3 : Seen) (old new : Option Shelf) (taken taken2 : ℕ) → MakesChanges b.how file b b1 old new taken taken2 → b2 ≡ b1 → b3 ≡ b2 → StaysWell b.how b b3
acts_well file b b1 b2 b3 old new taken taken2 makes heard begun =
    subst (λ (s : Seen). StaysWell b.how b s) (sym (begun ∙ heard)) (makes_well b.how file b b1 old new taken taken2 makes)
