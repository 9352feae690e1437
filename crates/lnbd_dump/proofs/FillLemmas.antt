-- Parts are begun, one after another.
use Rattle.std.proofs.Common.{◌≡◌, ◌⊎◌, inl, inr, ℕ, ◌+◌, ◌<◌, ◌≤◌, List, [], ◌∷◌, ◌++◌, length, Option, Some, None, Result, Ok, Err, refl, sym, ◌∙◌, ap, subst, arith}
use Rattle.std.specs.Prelude.{OnOk, slice_get}
use Rattle.lnbd_model.specs.declared.export.ExportInfo.{ExportInfo}
use Rattle.lnbd_history.specs.Events.{History}
use Rattle.lnbd_dump.specs.declared.asking.Plan.{Plan}
use Rattle.lnbd_dump.specs.declared.reader.Latest.{Latest}
use Rattle.lnbd_dump.specs.declared.reader.Reader.{Reader}
use Rattle.lnbd_reel.specs.declared.reel.Part.{Part}
use Rattle.lnbd_reel.specs.declared.reel.Run.{Run}
use Rattle.lnbd_dump.specs.declared.stop.Stop.{Stop}
use Rattle.lnbd_ask.specs.Maps.{block_of}
use Rattle.lnbd_dump.specs.Conduct.{AreWell, WasToldWhole}
use Rattle.lnbd_dump.specs.Course.{IsUnderWay}
use Rattle.lnbd_dump.specs.Filling.{BeginsPart, Continues, FollowEach, IsLeft}
use Rattle.lnbd_dump.specs.Leads.{TellsZero}
use Rattle.lnbd_reel.specs.Reel.{AreRuns, AreSpared, IsBegun}
use Rattle.lnbd_dump.proofs.CourseLemmas.{begins}
use Rattle.lnbd_reel.proofs.LaidLemmas.{laid_more, runs_left, runs_taken, spared_left, spared_taken}

-- Where the first run is left or over, the runs lie from there on.
pub order_left : (zero : ℕ → Type 0) (at at' : ℕ) (runs runs' : List Run) (to : ℕ) (run : Run) → slice_get runs 0 ≡ Some run → at ≤ at' → IsLeft run runs at' runs' → AreRuns zero at runs to → AreRuns zero at' runs' to
order_left zero at at' runs runs' to run first up (inl left) h = subst (λ (l : List Run). AreRuns zero at' l to) (sym left.0) (runs_left zero at at' runs to run first up left.1 h)
order_left zero at at' runs runs' to run first up (inr over) h = subst (λ (n : ℕ). AreRuns zero n runs' to) (sym over.1) (runs_taken zero at runs runs' to run first over.0 h)

pub spare_left : (is : ℕ → Type 0) (at at' : ℕ) (runs runs' : List Run) (to : ℕ) (run : Run) → slice_get runs 0 ≡ Some run → at ≤ at' → IsLeft run runs at' runs' → AreSpared is at runs to → AreSpared is at' runs' to
spare_left is at at' runs runs' to run first up (inl left) s = subst (λ (l : List Run). AreSpared is at' l to) (sym left.0) (spared_left is at at' runs to run first up s)
spare_left is at at' runs runs' to run first up (inr over) s = subst (λ (n : ℕ). AreSpared is n runs' to) (sym over.1) (spared_taken is at runs runs' to run over.0 s)

-- the first run, and what lies behind it
record HasFirst (runs : List Run) (run : Run) : Type 0 where
  rest : List Run
  is : runs ≡ run ∷ rest

has_first : (runs : List Run) (run : Run) → slice_get runs 0 ≡ Some run → HasFirst runs run
has_first [] run e = absurd (cc e)
has_first (first ∷ rest) run e = let same : first ≡ run = cc e in record { rest = rest; is = ap (λ (r : Run). r ∷ rest) same }

-- A part is begun.
module _ (plan : Plan) (run : Run) (runs : List Run) (reel : List Part) (part : Part) (world : Latest) (before after : History Reader) (first : slice_get runs 0 ≡ Some run) (some : 0 < part.length) (fits : plan.at + part.length ≤ run.end) (b : BeginsPart plan run part before after) where
  pub begin_continues : (plan' : Plan) (runs' : List Run) (reel' : List Part) (world' : Latest) → plan' ≡ record plan { at = plan.at + part.length } → IsLeft run runs (plan.at + part.length) runs' → reel' ≡ reel ++ part ∷ [] → world' ≡ world
      → (info : ExportInfo) (from : ℕ) → IsUnderWay info from plan runs reel world before → AreWell info after × IsUnderWay info from plan' runs' reel' world' after
  begin_continues plan' runs' reel' world' plan_is left reel_is same info from u =
      let now = begins info from plan plan' run runs runs' reel part world before after first plan_is some fits b (order_left (TellsZero before) plan.at (plan.at + part.length) runs runs' plan.known run first (omega arith) left u.course.runs_are)
      (spare_left (WasToldWhole (block_of info) before) plan.at (plan.at + part.length) runs runs' plan.known run first (omega arith) left u.course.spared) u in
      (now.course.well, subst (λ (w : Latest). IsUnderWay info from plan' runs' reel' w after) (sym same) (subst (λ (l : List Part). IsUnderWay info from plan' runs' l world after) (sym reel_is) now))

  -- whatever comes then, it was asked well
  pub begin_well : (info : ExportInfo) (from : ℕ) → IsUnderWay info from plan runs reel world before → AreWell info after
  begin_well info from u = go (split (plan.at + part.length) run.end fits)
    where
      split : (n m : ℕ) → n ≤ m → (n < m) ⊎ (n ≡ m)
      split n m le = grind arith

      next : Plan
      next = record plan { at = plan.at + part.length }

      go : (plan.at + part.length < run.end) ⊎ (plan.at + part.length ≡ run.end) → AreWell info after
      go (inl less) = (begin_continues next runs (reel ++ part ∷ []) world refl (inl (refl, less)) refl refl info from u).0
      go (inr same) = let h = has_first runs run first in (begin_continues next h.rest (reel ++ part ∷ []) world refl (inr (h.is, same)) refl refl info from u).0

-- parts follow each other
pub follow_more : (from : ℕ) (reel reel' : List Part) (at at' : ℕ) (part : Part) → part.start ≡ at → 0 < part.length → at' ≡ at + part.length → reel' ≡ reel ++ part ∷ [] → FollowEach from reel at → FollowEach from reel' at'
follow_more from reel reel' at at' part start some is reel_is h = subst (λ (l : List Part). FollowEach from l at') (sym reel_is) (laid_more (λ p. Unit {0}) (λ cookie offset count. Unit {0}) from reel at part h start some (begun part.cookie) at' is)
  where
    begun : (cookie : Option ℕ) → IsBegun (λ p. Unit {0}) (λ k offset count. Unit {0}) part.start part.length cookie
    begun None = λ p low high. tt
    begun (Some cookie) = tt

-- one step and the next
module _ (plan plan' plan'' : Plan) (runs runs' runs'' : List Run) (reel reel' reel'' : List Part) (world world' world'' : Latest) where
  pub continues_on : (result : Result (Unit {0}) Stop) (one : Result (Unit {0}) Stop) (done : Unit {0}) → one ≡ Ok done → (a b c : History Reader) → Continues one plan runs reel world a plan' runs' reel' world' b → Continues result plan' runs' reel' world' b plan'' runs'' reel'' world'' c
      → Continues result plan runs reel world a plan'' runs'' reel'' world'' c
  continues_on result (Ok d) done is a b c one two info from u = two info from (one info from u).1
  continues_on result (Err why) done is a b c one two info from u = absurd (cc is)

pub continues_none : (plan : Plan) (runs : List Run) (reel : List Part) (world : Latest) (history : History Reader) (done : Unit {0}) → Continues (Ok done) plan runs reel world history plan runs reel world history
continues_none plan runs reel world history done info from u = (u.course.well, u)

pub none_first : (runs : List Run) → slice_get runs 0 ≡ None → runs ≡ []
none_first [] e = refl
none_first (run ∷ runs) e = absurd (cc e)

pub some_long : (runs : List Run) (run : Run) → slice_get runs 0 ≡ Some run → 0 < length runs
some_long [] run e = absurd (cc e)
some_long (first ∷ runs) run e = omega arith

-- where they lie up to a place behind, there is one
pub order_long : (at to : ℕ) (runs : List Run) → at < to → AreRuns (λ p. Unit {0}) at runs to → 0 < length runs
order_long at to [] below h = absurd (omega (arith, below, h))
order_long at to (run ∷ runs) below h = omega arith

pub order_of : (zero : ℕ → Type 0) (at : ℕ) (runs : List Run) (to : ℕ) → AreRuns zero at runs to → AreRuns (λ p. Unit {0}) at runs to
order_of zero at [] to h = h
order_of zero at (run ∷ runs) to h = (h.0, (λ is p low high. tt), order_of zero run.end runs to h.2)

-- a part was begun, or there was no run
pub begun_some : (i : ℕ) (runs old : List Run) (reel : List Part) → slice_get runs 0 ≡ None → (0 < i → 0 < length reel) → (i ≡ 0 → runs ≡ old) → 0 < length old → 0 < length reel
begun_some i runs old reel none some same long = go (split i)
  where
    split : (n : ℕ) → (0 < n) ⊎ (n ≡ 0)
    split n = grind arith

    go : (0 < i) ⊎ (i ≡ 0) → 0 < length reel
    go (inl up) = some up
    go (inr first) =
        let empty : runs ≡ [] = none_first runs none in
        let size : length old ≡ 0 = ap (λ (l : List Run). length l) (sym (same first) ∙ empty) in
        absurd (omega (arith, size, long))

-- where there is none, they end where they begin
pub none_at : (at to : ℕ) (runs : List Run) → runs ≡ [] → AreRuns (λ p. Unit {0}) at runs to → at ≡ to
none_at at to runs none h = subst (λ (l : List Run). AreRuns (λ p. Unit {0}) at l to) none h

-- ---- The same, if it went well.

pub long_of : (result : Result (Unit {0}) Stop) (at to end : ℕ) (runs : List Run) → OnOk result (AreRuns (λ p. Unit {0}) at runs to) → OnOk result ((at < to) × (to ≤ end)) → OnOk result (0 < length runs)
long_of (Ok done) at to end runs order within = order_long at to runs within.0 order
long_of (Err why) at to end runs order within = tt

pub known_of : (result : Result (Unit {0}) Stop) (at to end : ℕ) → OnOk result ((at < to) × (to ≤ end)) → OnOk result (to ≤ end)
known_of (Ok done) at to end within = within.1
known_of (Err why) at to end within = tt

pub ok_of : (result : Result (Unit {0}) Stop) (P : Type 0) → P → OnOk result P
ok_of (Ok done) P p = p
ok_of (Err why) P p = tt
