-- The next part is had.
use Rattle.std.proofs.Common.{◌≡◌, ◌∙◌, ℕ, ◌+◌, ◌<◌, ◌≤◌, true, false, List, [], ◌∷◌, ◌++◌, length, Option, Some, None, Result, Ok, Err, refl, sym, ap, subst, arith}
use Rattle.std.specs.Prelude.{IfNone, option_to_list}
use Rattle.lnbd_link.specs.Call as wire
use Rattle.lnbd_poll.specs.Held.{Held}
use Rattle.lnbd_poll.specs.Seen.{Seen}
use Rattle.lnbd_dump.specs.declared.asking.Plan.{Plan}
use Rattle.lnbd_dump.specs.declared.reader.Latest.{Latest}
use Rattle.lnbd_dump.specs.declared.reader.Reader.{Reader}
use Rattle.lnbd_dump.specs.declared.stop.Stop.{Stop}
use Rattle.lnbd_dump.specs.Course.{IsUnderWay}
use Rattle.lnbd_dump.specs.Filling.{FollowEach}
use Rattle.lnbd_dump.specs.Leads.{GoesTo}
use Rattle.lnbd_dump.specs.Showing.{HasNext}
use Rattle.lnbd_dump.specs.Stops.{HasStop}
use Rattle.lnbd_reel.specs.declared.reel.Part.{Part}
use Rattle.lnbd_reel.specs.declared.reel.Run.{Run}
use Rattle.lnbd_reel.proofs.LaidLemmas.{laid_up}
use Rattle.lnbd_dump.proofs.LeadLemmas.{goes_by_acts, goes_map, leads_none}
use Rattle.lnbd_dump.proofs.MoreLemmas.{Goes_on}

abbrev pub Nexts : (plan plan' : Plan) (runs runs' : List Run) (reel reel' : List Part) (world world' : Latest) → Result (Option Part) Stop → Seen Reader → Seen Reader → Type 0
Nexts plan plan' runs runs' reel reel' world world' result s t = HasStop result t.history × HasNext result plan runs reel world s.history plan' runs' reel' world' t.history

-- one is under way, or none is left
pub next_there : (plan : Plan) (runs : List Run) (reel reel' : List Part) (world : Latest) (a : Option (List wire.Call)) (f : ℕ) (all : List (Held Reader)) (found : Option Part) → reel ≡ option_to_list found ++ reel' → GoesTo false a a f f all all (Nexts plan plan runs runs reel reel' world world (Ok found))
next_there plan runs reel reel' world a f all found parts =
    goes_by_acts (Nexts plan plan runs runs reel reel' world world (Ok found)) false a f all all
    (λ seen at. (seen, at, leads_none false seen, (tt, λ info from u. (u.course.well, subst (λ (l : List Part). IsUnderWay info from plan runs l world seen.history) parts u))))

-- some were begun
pub next_begun : (plan plan' : Plan) (runs runs' : List Run) (reel reel2 reel' : List Part) (world world' : Latest) (a b : Option (List wire.Call)) (f g : ℕ) (old new : List (Held Reader)) (found : Option Part) → reel2 ≡ option_to_list found ++ reel'
    → GoesTo false a b f g old new (Goes_on plan plan' runs runs' reel reel2 world world' (Ok tt)) → GoesTo false a b f g old new (Nexts plan plan' runs runs' reel reel' world world' (Ok found))
next_begun plan plan' runs runs' reel reel2 reel' world world' a b f g old new found parts goes =
    goes_map (Goes_on plan plan' runs runs' reel reel2 world world' (Ok tt)) (Nexts plan plan' runs runs' reel reel' world world' (Ok found))
    (λ s t is. (tt, λ info from u. (let now = is.1 info from u in (now.0, subst (λ (l : List Part). IsUnderWay info from plan' runs' l world' t.history) parts now.1)))) false a b f g old new goes

-- none were
pub next_stops : (plan plan' : Plan) (runs runs' : List Run) (reel reel' : List Part) (world world' : Latest) (a b : Option (List wire.Call)) (f g : ℕ) (old new : List (Held Reader)) (why : Stop)
    → GoesTo true a b f g old new (Goes_on plan plan' runs runs' reel reel' world world' (Err why)) → GoesTo true a b f g old new (Nexts plan plan' runs runs' reel reel' world world' (Err why))
next_stops plan plan' runs runs' reel reel' world world' a b f g old new why goes =
    goes_map (Goes_on plan plan' runs runs' reel reel' world world' (Err why)) (Nexts plan plan' runs runs' reel reel' world world' (Err why)) (λ s t is. (is.0, λ info from u. ((is.1 info from u).0, tt))) true a b f g old new goes

pub follows_in : (from to : ℕ) (reel reel' : List Part) (found : Option Part) → reel ≡ option_to_list found ++ reel' → FollowEach from reel to → FollowEach from (option_to_list found ++ reel') to
follows_in from to reel reel' found parts h = subst (λ (l : List Part). FollowEach from l to) parts h

-- there was one
pub not_none : (found : Option Part) (size : ℕ) (P : Type 0) → IfNone found (size ≡ 0) → (size ≡ 0 → ⊥) → IfNone found P
not_none None size P none some = absurd (some none)
not_none (Some part) size P none some = tt

pub none_left : (reel : List Part) → length reel ≡ 0 → reel ≡ []
none_left [] e = refl
none_left (part ∷ reel) e = absurd (omega (arith, e))

-- ---- The first part.

-- The part that is had lies here, and those behind it follow.
pub record FirstOf (at : ℕ) (part : Part) (rest : List Part) (to : ℕ) : Type 0 where
  pub start : part.start ≡ at
  pub some : 0 < part.length
  pub within : part.start + part.length ≤ to
  pub follow : FollowEach (part.start + part.length) rest to

pub first_of : (at to : ℕ) (found : Option Part) (part : Part) (rest : List Part) → found ≡ Some part → FollowEach at (option_to_list found ++ rest) to → FirstOf at part rest to
first_of at to found part rest is h =
    let all : FollowEach at (part ∷ rest) to = subst (λ (o : Option Part). FollowEach at (option_to_list o ++ rest) to) is h in
    let place : at + part.length ≡ part.start + part.length = ap (λ (n : ℕ). n + part.length) (sym all.0) in
    let behind : FollowEach (part.start + part.length) rest to = subst (λ (n : ℕ). FollowEach n rest to) place all.3 in
    record { start = all.0; some = all.1; within = laid_up (λ p. Unit {0}) (λ cookie offset count. Unit {0}) (part.start + part.length) rest to behind; follow = behind }

-- None is left.
pub none_of : (at to end : ℕ) (found : Option Part) (rest : List Part) → found ≡ None → FollowEach at (option_to_list found ++ rest) to → IfNone found ((rest ≡ []) × (to ≡ end)) → at ≡ end
none_of at to end found rest is h none =
    let left : (rest ≡ []) × (to ≡ end) = subst (λ (o : Option Part). IfNone o ((rest ≡ []) × (to ≡ end))) is none in
    let all : FollowEach at rest to = subst (λ (o : Option Part). FollowEach at (option_to_list o ++ rest) to) is h in
    let here : at ≡ to = subst (λ (l : List Part). FollowEach at l to) left.0 all in
    here ∙ left.1
