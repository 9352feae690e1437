-- What is under way after the steps of a job: slices go on, extents are asked for, and slices are begun up to the limit.
use Rattle.std.proofs.Common.{◌≡◌, ◌≢◌, ◌↔◌, inl, inr, ℕ, ◌+◌, ◌/◌, ◌<◌, ◌≤◌, Bool, true, false, List, [], ◌∷◌, ◌++◌, length, length-append, min, Option, Some, None, IsSome, is_some, option_to_list, if◌then◌else◌, refl, ap, sym, subst, ◌∙◌, arith}
use Rattle.std.proofs.Math.Nat.{div-le_self}
use Rattle.std.proofs.lemmas.Bool.{cases_lt, false≢true}
use Rattle.lnbd_keyed.specs.Keyed.{with_value, without}
use Rattle.lnbd_keyed.proofs.KeyedLemmas.{length_with, length_without}
use Rattle.lnbd_link.specs.Call as wire
use Rattle.lnbd_plan.specs.declared.grid.Slice.{Slice}
use Rattle.lnbd_board.specs.declared.ask.Ask.{Ask}
use Rattle.lnbd_board.specs.declared.ask.Change.{Change}
use Rattle.lnbd_board.specs.declared.how.How.{How}
use Rattle.lnbd_board.specs.declared.next.Next.{Next}
use Rattle.lnbd_board.specs.declared.next.Next.TheVariants as next
use Rattle.lnbd_board.specs.declared.row.Row.{Row}
use Rattle.lnbd_board.specs.Board.{AsksOn, EndsRow, IsNext, begun_with}
use Rattle.lnbd_board.specs.Files.{received, rows_with}
use Rattle.lnbd_board.specs.Files as board
use Rattle.lnbd_board.specs.Rows.{busy, is_busy}
use Rattle.lnbd_copy.specs.declared.job.Phase.{Phase}
use Rattle.lnbd_copy.specs.declared.job.Phase.TheVariants.{Copying, Flushing, Parting}
use Rattle.lnbd_conduct.specs.declared.terms.Terms.{Terms}
use Rattle.lnbd_copy.specs.Bound.{Bound}
use Rattle.lnbd_copy.specs.Copier.{IsOnItsWay, IsParting, Seen}
use Rattle.lnbd_copy.specs.Dealing.{HasBegun}
use Rattle.lnbd_copy.specs.Job as work
use Rattle.lnbd_copy.specs.UnderWay.{AreAwaited, Fills, HasAsked, HasBegunOne, HasFilled, HasLooked, HaveLooked, IsBusy, WorksInFull, IsPast, IsWantedOf, Refills, unfinished}
use Rattle.lnbd_copy.specs.Windows as windows

-- A row that something came for is a row still.
pub rows_many : (row : Option Row) (n : ℕ) (buf : List ℕ) (all : List (ℕ × Row)) → length (rows_with row n buf all) ≡ length all
rows_many None n buf all = refl
rows_many (Some row) n buf all = go (is_busy row.stage)
  where
    go : (b : Bool) → length (if b then with_value n (record row { stage = received row.stage buf }) all else all) ≡ length all
    go true = length_with n (record row { stage = received row.stage buf }) all
    go false = refl

-- Slices go on.

pub looked_over : (how : How) (n source destination : ℕ) (told : Next) (old new : board.Seen) → told ≡ next.Over n source destination → IsNext how told old new → length new.rows ≤ length old.rows
looked_over how n source destination told old new is ends =
    let over : EndsRow how n source destination old new = subst (λ (x : Next). IsNext how x old new) is ends in
    let less : length (without n old.rows) + 1 ≡ length old.rows = length_without n over.row old.rows over.held in
    let now : length new.rows ≡ length (without n old.rows) = ap (λ (s : board.Seen). length s.rows) over.now in
    omega (arith, less, now)

pub looked_on : (how : How) (n destination : ℕ) (one : Change) (told : Next) (old mid new : board.Seen) → told ≡ next.Asks n destination one → IsNext how told old mid → new ≡ mid → length new.rows ≤ length old.rows
looked_on how n destination one told old mid new is goes same =
    let on : AsksOn how n destination one old mid = subst (λ (x : Next). IsNext how x old mid) is goes in
    let kept : length mid.rows ≡ length old.rows = ap (λ (s : board.Seen). length s.rows) on.now ∙ length_with n (record on.row { stage = on.stage }) old.rows in
    let all : length new.rows ≡ length mid.rows = ap (λ (s : board.Seen). length s.rows) same in
    omega (arith, kept, all)

pub looked_more : (went : Bool) (a b c : board.Seen) → went ≡ true → length b.rows ≤ length a.rows → HasLooked went b c → length c.rows ≤ length a.rows
looked_more true a b c is few looked = omega (arith, few, looked)
looked_more false a b c is few looked = absurd (false≢true is)

pub looked_none : (went : Bool) (b c : board.Seen) → went ≡ false → HasLooked went b c → c ≡ b
looked_none true b c is looked = absurd (false≢true (sym is))
looked_none false b c is looked = looked.1

pub looked_all : (went : Bool) (a b c : board.Seen) → went ≡ false → length b.rows ≤ length a.rows → HasLooked went b c → HaveLooked a c
looked_all true a b c is few looked = absurd (false≢true (sym is))
looked_all false a b c is few looked =
    let same : length c.rows ≡ length b.rows = ap (λ (s : board.Seen). length s.rows) looked.1 in
    record { few = omega (arith, few, same); none = ap (λ (s : board.Seen). s.came) looked.1 ∙ looked.0 }

-- Slices begin.

pub begun_more : (row : Row) (one : Ask) (old mid new : board.Seen) → mid ≡ begun_with old row one → new ≡ mid → length new.rows ≡ length old.rows + 1
begun_more row one old mid new is same = ap (λ (s : board.Seen). length s.rows) same ∙ ap (λ (s : board.Seen). length s.rows) is ∙ length-append old.rows ((old.begun, row) ∷ [])

pub begun_one : (slice : Slice) (old new : windows.Seen) (now now' : board.Seen) → old.plan.slices ≡ slice ∷ new.plan.slices → length now'.rows ≡ length now.rows + 1 → HasBegunOne true old new now now'
begun_one slice old new now now' taken more =
    let left : length old.plan.slices ≡ length (slice ∷ new.plan.slices) = ap (λ (l : List Slice). length l) taken in
    (more, omega (arith, left))

no_slice : (n : ℕ) (told : Option Slice) → told ≡ None → IsSome told ↔ (0 < n) → n ≡ 0
no_slice n None is some = elim (cases_lt 0 n) [ inl k ↦ absurd (false≢true (some.1 k)) | inr k ↦ omega (arith, k) ]
no_slice n (Some slice) is some = absurd (cc is)

pub none_begun : (told : Option Slice) (old new : windows.Seen) (now : board.Seen) → told ≡ None → old.plan.slices ≡ option_to_list told ++ new.plan.slices → new ≡ record old { plan = record old.plan { slices = new.plan.slices } } → IsSome told ↔ (0 < length old.plan.slices) →
    HasBegunOne false old new now now
none_begun told old new now is taken others some =
    let same : old.plan.slices ≡ new.plan.slices = taken ∙ ap (λ (o : Option Slice). option_to_list o ++ new.plan.slices) is in
    (no_slice (length old.plan.slices) told is some, others ∙ ap (λ (l : List Slice). record old { plan = record old.plan { slices = l } }) (sym same), refl)

pub begun_all : (went : Bool) (p q r : windows.Seen) (a b c : board.Seen) → went ≡ true → unfinished q b ≡ unfinished p a → HasBegunOne went q r b c → unfinished r c ≡ unfinished p a
begun_all true p q r a b c is all begun = let rows = begun.0 in let slices = begun.1 in omega (arith, all, rows, slices)
begun_all false p q r a b c is all begun = absurd (false≢true is)

pub begun_count : (went : Bool) (q r : windows.Seen) (b c : board.Seen) → went ≡ true → HasBegunOne went q r b c → length c.rows ≡ length b.rows + 1
begun_count true q r b c is begun = begun.0
begun_count false q r b c is begun = absurd (false≢true is)

-- None is begun where no more may be, or none is planned.
pub none_to_begin : (went : Bool) (limit : ℕ) (p q r : windows.Seen) (a b c : board.Seen) → went ≡ true → length a.rows ≤ length b.rows → length b.rows < limit → unfinished q b ≡ unfinished p a → (length a.rows < limit → length p.plan.slices ≡ 0) → HasBegunOne went q r b c → ⊥
none_to_begin true limit p q r a b c is more less all stop begun =
    let none = stop (omega (arith, more, less)) in
    let slices = begun.1 in
    omega (arith, none, slices, all, more)
none_to_begin false limit p q r a b c is more less all stop begun = absurd (false≢true is)

pub fills_stop : (limit : ℕ) (went : Bool) (p q r : windows.Seen) (a b c : board.Seen) → went ≡ false → unfinished q b ≡ unfinished p a → (length a.rows ≤ limit → length b.rows ≤ limit) → HasBegunOne went q r b c → Fills limit p r a c
fills_stop limit true p q r a b c is all most begun = absurd (false≢true (sym is))
fills_stop limit false p q r a b c is all most begun =
    let rows : length c.rows ≡ length b.rows = ap (λ (s : board.Seen). length s.rows) begun.2 in
    let slices : length r.plan.slices ≡ length q.plan.slices = ap (λ (w : windows.Seen). length w.plan.slices) begun.1 in
    let none = begun.0 in
    record {
      all = omega (arith, all, rows, slices);
      most = λ few. let m = most few in omega (arith, m, rows);
      none = λ less. omega (arith, slices, none);
    }

pub fills_end : (limit : ℕ) (p q : windows.Seen) (a b : board.Seen) → unfinished q b ≡ unfinished p a → (length a.rows ≤ limit → length b.rows ≤ limit) → limit ≤ length b.rows → Fills limit p q a b
fills_end limit p q a b all most end = record { all = all; most = most; none = λ less. absurd (omega (arith, less, end)) }

-- A job goes on.

-- no more than the limit, and none left where it is fewer
least_of : (begun left limit limit' : ℕ) → begun ≤ limit → (begun < limit → left ≡ 0) → limit' ≡ limit → begun ≡ min limit' (begun + left)
least_of begun left limit limit' most none same = elim (cases_lt begun limit) [
  | inl less ↦ (let all = none less in omega (arith, less, all, same))
  | inr more ↦ omega (arith, more, most, same)
]

-- Extents are not asked for: they are already, enough slices are planned, or no window is left.
pub unasked : (j : work.Seen) (now : board.Seen) → (j.asked ≡ false → j.terms.limit ≤ unfinished j.windows now) → IsWantedOf j.windows → HasAsked j j now now
unasked j now enough wanted = record {
  job = refl;
  board = refl;
  extents = λ untold less left. elim j.asked as (λ b. j.asked ≡ b → AreAwaited j.asked now) [
    | true ↦ λ is. record { awaited = is; untold = untold is }
    | false ↦ λ is. absurd (let l = enough is in omega (arith, l, less))
  ] refl;
  left = wanted;
  untold = λ untold. untold;
}

some_is : (range : Option (ℕ × ℕ)) → range ≡ None → is_some range ≡ true → ⊥
some_is range none some = false≢true (sym (ap (λ (o : Option (ℕ × ℕ)). is_some o) none) ∙ some)

pub unwanted : (j : work.Seen) (now : board.Seen) → windows.wanted j.windows ≡ None → IsWantedOf j.windows → HasAsked j j now now
unwanted j now none wanted = record { job = refl; board = refl; extents = λ untold less left. absurd (some_is (windows.wanted j.windows) none left); left = wanted; untold = λ untold. untold }

-- They are asked for.
pub has_asked : (j : work.Seen) (now now' : board.Seen) → now' ≡ record now { told = []; mapped = false } → IsWantedOf j.windows → HasAsked j (record j { asked = true }) now now'
has_asked j now now' is wanted = record {
  job = refl;
  board = is ∙ ap (λ (s : board.Seen). record now { told = s.told; mapped = s.mapped }) (sym is);
  extents = λ untold less left. record { awaited = refl; untold = ap (λ (s : board.Seen). s.mapped) is };
  left = wanted;
  untold = λ untold now_asked. ap (λ (s : board.Seen). s.mapped) is;
}

-- Slices are begun.
pub has_filled : (j : work.Seen) (planned : windows.Seen) (bound : Bound) (now now' : board.Seen) → planned ≡ record j.windows { plan = record j.windows.plan { slices = planned.plan.slices } } → HasBegun now now' → Fills j.terms.limit j.windows planned now now' →
    HasFilled j (record j { windows = planned; bound = bound }) now now'
has_filled j planned bound now now' others begun fills = record {
  job = refl;
  planned = others;
  wanted = ap (λ (w : windows.Seen). windows.wanted w) others;
  left = λ left. subst IsWantedOf (sym others) left;
  came = ap (λ (s : board.Seen). s.came) begun;
  mapped = ap (λ (s : board.Seen). s.mapped) begun;
  flushed = ap (λ (s : board.Seen). s.flushed) begun;
  fills = fills;
}

-- Slices went on, extents were heard and asked for, and slices were begun.
pub refilled : (j0 j2 j3 j4 : work.Seen) (b0 b1 b3 b4 : board.Seen) → HaveLooked b0 b1 → j2.terms ≡ j0.terms → (j2.asked ≡ true → b1.mapped ≡ false) → HasAsked j2 j3 b1 b3 → HasFilled j3 j4 b3 b4 →
    (b4.came ≡ [] → busy b4.rows ≡ length b4.rows) → Refills j0 j4 b0 b4
refilled j0 j2 j3 j4 b0 b1 b3 b4 looked terms untold asked filled quiet =
    let limit2 : j2.terms.limit ≡ j0.terms.limit = ap (λ (t : Terms). t.limit) terms in
    let limit3 : j3.terms.limit ≡ j2.terms.limit = ap (λ (j : work.Seen). j.terms.limit) asked.job in
    let limit4 : j4.terms.limit ≡ j3.terms.limit = ap (λ (j : work.Seen). j.terms.limit) filled.job in
    let rows : length b3.rows ≡ length b1.rows = ap (λ (s : board.Seen). length s.rows) asked.board in
    let same : j3.windows ≡ j2.windows = ap (λ (j : work.Seen). j.windows) asked.job in
    let slices : length j3.windows.plan.slices ≡ length j2.windows.plan.slices = ap (λ (w : windows.Seen). length w.plan.slices) same in
    let few = looked.few in
    let most : length b0.rows ≤ j0.terms.limit → length b4.rows ≤ j3.terms.limit = λ l. filled.fills.most (omega (arith, l, few, rows, limit2, limit3)) in
    record {
      most = λ l. let m = most l in omega (arith, m, limit2, limit3);
      full = λ l copying. record {
        slices = least_of (length b4.rows) (length j4.windows.plan.slices) j3.terms.limit j4.terms.limit (most l) filled.fills.none limit4;
        requests = quiet (filled.came ∙ ap (λ (s : board.Seen). s.came) asked.board ∙ looked.none);
        extents = λ less left.
            let all = filled.fills.all in
            let was = asked.extents untold (omega (arith, less, all, rows, slices, limit3, limit4)) (sym (ap (λ (w : windows.Seen). is_some (windows.wanted w)) same) ∙ sym (ap (λ (o : Option (ℕ × ℕ)). is_some o) filled.wanted) ∙ left) in
            record { awaited = ap (λ (j : work.Seen). j.asked) filled.job ∙ was.awaited; untold = filled.mapped ∙ was.untold };
        left = filled.left (subst IsWantedOf (sym same) asked.left);
        untold = λ is. filled.mapped ∙ asked.untold untold (sym (ap (λ (j : work.Seen). j.asked) filled.job) ∙ is);
      };
    }

parting_differs : Parting ≡ Copying → ⊥
parting_differs e = cc

flushing_differs : Flushing ≡ Copying → ⊥
flushing_differs e = cc

pub flushing_past : (j : work.Seen) (now now' : board.Seen) → j.phase ≡ Flushing → now' ≡ record now { flushing = true } → IsPast j now now'
flushing_past j now now' at same = record { past = λ copying. flushing_differs (sym at ∙ copying); rows = ap (λ (s : board.Seen). s.rows) same }

pub parting_past : (j : work.Seen) (now now' : board.Seen) → j.phase ≡ Parting → now' ≡ now → IsPast j now now'
parting_past j now now' at same = record { past = λ copying. parting_differs (sym at ∙ copying); rows = ap (λ (s : board.Seen). s.rows) same }

-- Then all are asked to part, or the destination is flushed.
pub past_refills : (j0 j4 j5 : work.Seen) (b0 b4 b5 : board.Seen) → Refills j0 j4 b0 b4 → IsPast j5 b4 b5 → Refills j0 j5 b0 b5
past_refills j0 j4 j5 b0 b4 b5 refills past =
    let rows : length b5.rows ≡ length b4.rows = ap (λ (l : List (ℕ × Row)). length l) past.rows in
    record { most = λ l. let m = refills.most l in omega (arith, m, rows); full = λ l copying. absurd (past.past copying) }

pub past_none : (j0 j1 : work.Seen) (now : board.Seen) → j1.phase ≢ Copying → Refills j0 j1 now now
past_none j0 j1 now past = record { most = λ l. l; full = λ l copying. absurd (past copying) }

pub parting_none : (j : work.Seen) (now : board.Seen) → j.phase ≡ Parting → Refills j j now now
parting_none j now at = past_none j j now (λ copying. parting_differs (sym at ∙ copying))

-- The copy goes on.

job_same : (one other : work.Seen) → Some one ≡ Some other → one ≡ other
job_same one other e = cc

pub busy_after : (copy : Seen) (start told : Option (List wire.Call)) (j j' : work.Seen) (now : board.Seen) → copy.job ≡ Some j → Refills j j' copy.board now → IsOnItsWay start told copy → IsBusy (Some j') now
busy_after copy start told j j' now there refills on =
    let same : on.job ≡ j = job_same on.job j (sym on.there ∙ there) in
    let most : length copy.board.rows ≤ j.terms.limit = subst (λ (x : work.Seen). length copy.board.rows ≤ x.terms.limit) same on.most in
    record {
      full = λ one is copying.
          let same' : j' ≡ one = job_same j' one is in
          subst (λ (x : work.Seen). WorksInFull x now) same' (refills.full most (ap (λ (x : work.Seen). x.phase) same' ∙ copying));
    }

parts_not : (phase : Phase) → work.is_parting phase ≡ true → phase ≢ Copying
parts_not Copying parts = absurd (false≢true parts)
parts_not Flushing parts = absurd (false≢true parts)
parts_not Parting parts = parting_differs

pub parting_busy : (copy : Seen) (now : board.Seen) → IsParting copy → IsBusy copy.job now
parting_busy copy now parting = record {
  full = λ one is copying. absurd (parts_not parting.job.phase parting.parts (ap (λ (x : work.Seen). x.phase) (job_same parting.job one (sym parting.there ∙ is)) ∙ copying));
}

-- The limit.

pub limit_is : (asked bytes cell : ℕ) → bytes ≤ 18446744073709551615 → min (min asked 18446744073709551615) (bytes / cell) ≡ min asked (bytes / cell)
limit_is asked bytes cell few = let below = div-le_self bytes cell in omega (arith, few, below)
