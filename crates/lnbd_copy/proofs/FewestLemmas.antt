-- The slices that a step begins go to the connections with the fewest: one begins so, and the steps of a turn one after another.
use Rattle.std.proofs.Common.{◌≡◌, ◌<◌, ◌≤◌, ℕ, ◌+◌, List, [], ◌∷◌, ◌++◌, length, Option, Some, slice_index, refl, ap, sym, subst, ◌∙◌, arith, append-nil, append_assoc, length-append}
use Rattle.lnbd_keyed.specs.Keyed.{with_value, without}
use Rattle.lnbd_board.specs.declared.ask.Ask.{Ask}
use Rattle.lnbd_board.specs.declared.ask.Change.{Change}
use Rattle.lnbd_board.specs.declared.how.How.{How}
use Rattle.lnbd_board.specs.declared.next.Next.{Next}
use Rattle.lnbd_board.specs.declared.next.Next.TheVariants as next
use Rattle.lnbd_board.specs.declared.row.Row.{Row}
use Rattle.lnbd_board.specs.Board.{AsksOn, EndsRow, IsNext, begun_with}
use Rattle.lnbd_board.specs.Bound.{IsFewest}
use Rattle.lnbd_board.specs.Files as board
use Rattle.lnbd_conduct.specs.declared.sides.Sides.{Sides}
use Rattle.lnbd_conduct.specs.declared.terms.Terms.{Terms}
use Rattle.lnbd_conduct.specs.Fewest.{Account, DealBy, DealsOnce, DealsOn, GoToFewest, HasFewest, WentToFewest, bound_to, no_slices}
use Rattle.lnbd_copy.specs.Bound.{Bound, bound_by, on_destination, on_source}
use Rattle.lnbd_copy.specs.Dealt.{AreDealt, Deals, HasDealt, HaveDealt, IsDealt, Spreads}
use Rattle.lnbd_copy.specs.Fewest.{Adds, AddsFewest, GoesToFewest, HasTaken, HaveBeenDealt, LeavesFewer, TakesFewest, account_of}
use Rattle.lnbd_copy.specs.Job as work
use Rattle.lnbd_copy.specs.UnderWay.{HasAsked, IsPast}
use Rattle.lnbd_copy.specs.Way.{Filed}
use Rattle.lnbd_copy.proofs.BoundLemmas.{bound_append, bound_with, bound_without}
use Rattle.lnbd_copy.proofs.SpreadLemmas.{spreads_same}

-- Worked: of three slices two are on connection 1, so the next goes to connection 0, of two.
two_of_three : bound_to 1 (1 ∷ 0 ∷ 1 ∷ []) ≡ 2
two_of_three = refl

-- Slices begin.

adds_none : (count n : ℕ) (bound : List ℕ) → Adds count n n bound bound
adds_none count n bound = record { more = []; are = sym (append-nil bound); many = omega arith; fewest = tt }

fewest_then : (count : ℕ) (bound xs ys : List ℕ) → GoToFewest count bound xs → GoToFewest count (bound ++ xs) ys → GoToFewest count bound (xs ++ ys)
fewest_then count bound [] ys early late = subst (λ (l : List ℕ). GoToFewest count l ys) (append-nil bound) late
fewest_then count bound (x ∷ xs) ys early late =
    (early.0, fewest_then count (bound ++ x ∷ []) xs ys early.1 (subst (λ (l : List ℕ). GoToFewest count l ys) (sym (append_assoc bound (x ∷ []) xs)) late))

adds_then : (count a b c : ℕ) (x y z : List ℕ) → Adds count a b x y → Adds count b c y z → Adds count a c x z
adds_then count a b c x y z one two = record {
  more = one.more ++ two.more;
  are = two.are ∙ ap (λ (l : List ℕ). l ++ two.more) one.are ∙ append_assoc x one.more two.more;
  many = (let first = one.many in let second = two.many in let all = length-append one.more two.more in omega (arith, first, second, all));
  fewest = fewest_then count x one.more two.more one.fewest (subst (λ (l : List ℕ). GoToFewest count l two.more) one.are two.fewest);
}

-- the connection of the least count is that with the fewest
has_fewest : (limit count : ℕ) (counts bound : List ℕ) (at : ℕ) → IsFewest counts at → IsDealt limit count counts bound → HasFewest count bound at
has_fewest limit count counts bound at is dealt =
    let all = dealt.many in
    let held : at < count = (let h = is.held in omega (arith, h, all)) in
    let here : slice_index counts at ≡ bound_to at bound = dealt.counted at held in
    record {
      held = held;
      fewest = λ other l. (let least = is.fewest.least other (omega (arith, l, all)) in let there = dealt.counted other l in omega (arith, least, here, there));
      first = λ other l. (let less = is.fewest.first other l (omega (arith, l, held, all)) in let there = dealt.counted other (omega (arith, l, held)) in omega (arith, less, here, there));
    }

side_adds : (on : Row → ℕ) (limit count begun at : ℕ) (row : Row) (rows rows' : List (ℕ × Row)) (counts : List ℕ) → on row ≡ at → rows' ≡ rows ++ (begun, row) ∷ [] → IsFewest counts at → IsDealt limit count counts (bound_by on rows) →
    Adds count begun (begun + 1) (bound_by on rows) (bound_by on rows')
side_adds on limit count begun at row rows rows' counts is more fewest dealt = record {
  more = at ∷ [];
  are = ap (λ (l : List (ℕ × Row)). bound_by on l) more ∙ bound_append on rows ((begun, row) ∷ []) ∙ ap (λ (n : ℕ). bound_by on rows ++ n ∷ []) is;
  many = omega arith;
  fewest = (has_fewest limit count counts (bound_by on rows) at fewest dealt, tt);
}

pub begun_adds : (sides : Sides) (row : Row) (one : Ask) (old mid new : board.Seen) (bound : Bound) → mid ≡ begun_with old row one → new ≡ mid → IsFewest bound.source row.source → IsFewest bound.destination row.destination → HaveDealt sides bound old.rows →
    AddsFewest sides old new
begun_adds sides row one old mid new bound is same source destination dealt =
    let rows : new.rows ≡ old.rows ++ (old.begun, row) ∷ [] = ap (λ (s : board.Seen). s.rows) same ∙ ap (λ (s : board.Seen). s.rows) is in
    let begun : old.begun + 1 ≡ new.begun = sym (ap (λ (s : board.Seen). s.begun) same ∙ ap (λ (s : board.Seen). s.begun) is) in
    record {
      source = subst (λ (n : ℕ). Adds sides.source old.begun n (on_source old.rows) (on_source new.rows)) begun
          (side_adds (λ r. r.source) dealt.limit sides.source old.begun row.source row old.rows new.rows bound.source refl rows source dealt.dealt.source);
      destination = subst (λ (n : ℕ). Adds sides.destination old.begun n (on_destination old.rows) (on_destination new.rows)) begun
          (side_adds (λ r. r.destination) dealt.limit sides.destination old.begun row.destination row old.rows new.rows bound.destination refl rows destination dealt.dealt.destination);
    }

pub all_add_none : (sides : Sides) (now : board.Seen) → AddsFewest sides now now
all_add_none sides now = record { source = adds_none sides.source now.begun (on_source now.rows); destination = adds_none sides.destination now.begun (on_destination now.rows) }

pub all_add_then : (sides : Sides) (a b c : board.Seen) → AddsFewest sides a b → AddsFewest sides b c → AddsFewest sides a c
all_add_then sides a b c one two = record {
  source = adds_then sides.source a.begun b.begun c.begun (on_source a.rows) (on_source b.rows) (on_source c.rows) one.source two.source;
  destination = adds_then sides.destination a.begun b.begun c.begun (on_destination a.rows) (on_destination b.rows) (on_destination c.rows) one.destination two.destination;
}

-- Slices go on, or are over.

pub fewer_none : (now : board.Seen) → LeavesFewer now now
fewer_none now = record { source = λ connection. omega arith; destination = λ connection. omega arith; begun = refl }

pub fewer_then : (a b c : board.Seen) → LeavesFewer a b → LeavesFewer b c → LeavesFewer a c
fewer_then a b c one two = record {
  source = λ n. (let x = one.source n in let y = two.source n in omega (arith, x, y));
  destination = λ n. (let x = one.destination n in let y = two.destination n in omega (arith, x, y));
  begun = two.begun ∙ one.begun;
}

-- bound as before
fewer_bound : (old new : board.Seen) → on_source new.rows ≡ on_source old.rows → on_destination new.rows ≡ on_destination old.rows → new.begun ≡ old.begun → LeavesFewer old new
fewer_bound old new source destination begun = record {
  source = λ n. subst (λ (l : List ℕ). bound_to n l ≤ bound_to n (on_source old.rows)) (sym source) (omega arith);
  destination = λ n. subst (λ (l : List ℕ). bound_to n l ≤ bound_to n (on_destination old.rows)) (sym destination) (omega arith);
  begun = begun;
}

pub fewer_filed : (old new : board.Seen) → Filed old new → LeavesFewer old new
fewer_filed old new filed = fewer_bound old new filed.reads filed.writes filed.begun

pub fewer_nothing : (how : How) (told : Next) (old new : board.Seen) → told ≡ next.Nothing → IsNext how told old new → LeavesFewer old new
fewer_nothing how told old new is nothing =
    let same = subst (λ (x : Next). IsNext how x old new) is nothing in
    subst (λ (s : board.Seen). LeavesFewer old s) (sym same.1) (fewer_none old)

pub fewer_on : (how : How) (n destination : ℕ) (one : Change) (told : Next) (old mid new : board.Seen) → told ≡ next.Asks n destination one → IsNext how told old mid → new ≡ mid → LeavesFewer old new
fewer_on how n destination one told old mid new is goes same =
    let on : AsksOn how n destination one old mid = subst (λ (x : Next). IsNext how x old mid) is goes in
    let row : Row = record on.row { stage = on.stage } in
    let rows : new.rows ≡ with_value n row old.rows = ap (λ (s : board.Seen). s.rows) same ∙ ap (λ (s : board.Seen). s.rows) on.now in
    fewer_bound old new (ap (λ (l : List (ℕ × Row)). on_source l) rows ∙ bound_with (λ r. r.source) n on.row row old.rows refl on.held)
    (ap (λ (l : List (ℕ × Row)). on_destination l) rows ∙ bound_with (λ r. r.destination) n on.row row old.rows refl on.held) (ap (λ (s : board.Seen). s.begun) same ∙ ap (λ (s : board.Seen). s.begun) on.now)

pub fewer_over : (how : How) (n source destination : ℕ) (told : Next) (old new : board.Seen) → told ≡ next.Over n source destination → IsNext how told old new → LeavesFewer old new
fewer_over how n source destination told old new is ends =
    let over : EndsRow how n source destination old new = subst (λ (x : Next). IsNext how x old new) is ends in
    let rows : new.rows ≡ without n old.rows = ap (λ (s : board.Seen). s.rows) over.now in
    record {
      source = λ c. subst (λ (l : List (ℕ × Row)). bound_to c (on_source l) ≤ bound_to c (on_source old.rows)) (sym rows) (let left = bound_without (λ r. r.source) n over.row old.rows over.held c in omega (arith, left));
      destination = λ c. subst (λ (l : List (ℕ × Row)). bound_to c (on_destination l) ≤ bound_to c (on_destination old.rows)) (sym rows) (let left = bound_without (λ r. r.destination) n over.row old.rows over.held c in omega (arith, left));
      begun = ap (λ (s : board.Seen). s.begun) over.now;
    }

-- Steps together.

side_takes : (count first mid now : ℕ) (old left new : List ℕ) → ((c : ℕ) → bound_to c left ≤ bound_to c old) → mid ≡ first → Adds count mid now left new → WentToFewest count first now old new
side_takes count first mid now old left new over same adds = record { left = left; more = adds.more; are = adds.are; over = over; many = adds.many ∙ ap (λ (n : ℕ). n + length adds.more) same; fewest = adds.fewest }

-- Slices go on, and then others begin.
takes : (sides : Sides) (a b c : board.Seen) → LeavesFewer a b → AddsFewest sides b c → TakesFewest sides a c
takes sides a b c fewer adds = record {
  source = side_takes sides.source a.begun b.begun c.begun (on_source a.rows) (on_source b.rows) (on_source c.rows) fewer.source fewer.begun adds.source;
  destination = side_takes sides.destination a.begun b.begun c.begun (on_destination a.rows) (on_destination b.rows) (on_destination c.rows) fewer.destination fewer.begun adds.destination;
}

-- none begins
pub takes_fewer : (sides : Sides) (a b : board.Seen) → LeavesFewer a b → TakesFewest sides a b
takes_fewer sides a b fewer = takes sides a b b fewer (all_add_none sides b)

pub takes_none : (sides : Sides) (now : board.Seen) → TakesFewest sides now now
takes_none sides now = takes_fewer sides now now (fewer_none now)

-- the same slices are bound, and as many were begun
takes_alike : (sides : Sides) (a b c : board.Seen) → on_source c.rows ≡ on_source b.rows → on_destination c.rows ≡ on_destination b.rows → c.begun ≡ b.begun → TakesFewest sides a b → TakesFewest sides a c
takes_alike sides a b c source destination begun takes = record {
  source = subst (λ (l : List ℕ). WentToFewest sides.source a.begun c.begun (on_source a.rows) l) (sym source) (subst (λ (n : ℕ). WentToFewest sides.source a.begun n (on_source a.rows) (on_source b.rows)) (sym begun) takes.source);
  destination = subst (λ (l : List ℕ). WentToFewest sides.destination a.begun c.begun (on_destination a.rows) l) (sym destination)
      (subst (λ (n : ℕ). WentToFewest sides.destination a.begun n (on_destination a.rows) (on_destination b.rows)) (sym begun) takes.destination);
}

side_later : (count first mid now : ℕ) (old half new : List ℕ) → ((c : ℕ) → bound_to c half ≤ bound_to c old) → mid ≡ first → WentToFewest count mid now half new → WentToFewest count first now old new
side_later count first mid now old half new over same went = record {
  left = went.left;
  more = went.more;
  are = went.are;
  over = λ c. (let x = went.over c in let y = over c in omega (arith, x, y));
  many = went.many ∙ ap (λ (n : ℕ). n + length went.more) same;
  fewest = went.fewest;
}

-- Bindings begin slices while the limit allows it.
pub adds_on : (limit : ℕ) (sides sides' : Sides) (a b c : board.Seen) (first bound : Bound) → sides' ≡ sides → Deals limit sides first bound a.rows b.rows → (AreDealt limit sides first a.rows → AddsFewest sides a b) → (HaveDealt sides' bound b.rows → AddsFewest sides' b c) →
    AreDealt limit sides first a.rows → AddsFewest sides a c
adds_on limit sides sides' a b c first bound same deals before next dealt =
    all_add_then sides a b c (before dealt)
    (subst (λ (s : Sides). AddsFewest s b c) same (next (record { limit = limit; dealt = subst (λ (s : Sides). AreDealt limit s bound b.rows) (sym same) (deals.on dealt) })))

-- Jobs.

pub job_adds : (j : work.Seen) (sides : Sides) (a b : board.Seen) → sides ≡ j.terms.sides → (AreDealt j.terms.limit sides j.bound a.rows → AddsFewest sides a b) → HasDealt j a → AddsFewest j.terms.sides a b
job_adds j sides a b same adds dealt = subst (λ (s : Sides). AddsFewest s a b) same (adds (subst (λ (s : Sides). AreDealt j.terms.limit s j.bound a.rows) (sym same) dealt))

-- Slices go on, extents are heard and asked for, and slices are begun.
pub copy_takes : (j0 j1 j2 j3 : work.Seen) (b0 b1 b3 b4 : board.Seen) → Spreads j0 j1 b0 b1 → j1.terms ≡ j0.terms → LeavesFewer b0 b1 → j2.terms ≡ j1.terms → j2.bound ≡ j1.bound → HasAsked j2 j3 b1 b3 → (HasDealt j3 b3 → AddsFewest j3.terms.sides b3 b4) →
    HasDealt j0 b0 → TakesFewest j0.terms.sides b0 b4
copy_takes j0 j1 j2 j3 b0 b1 b3 b4 gone terms leaves heard bound asked begun dealt =
    let rows : b3.rows ≡ b1.rows = ap (λ (s : board.Seen). s.rows) asked.board in
    let asks : LeavesFewer b1 b3 = fewer_bound b1 b3 (ap (λ (l : List (ℕ × Row)). on_source l) rows) (ap (λ (l : List (ℕ × Row)). on_destination l) rows) (ap (λ (s : board.Seen). s.begun) asked.board) in
    let same : j3.terms ≡ j0.terms = ap (λ (j : work.Seen). j.terms) asked.job ∙ heard ∙ terms in
    let on : HasDealt j3 b3 = (spreads_same j2 j3 b1 b3 (ap (λ (j : work.Seen). j.terms) asked.job) (ap (λ (j : work.Seen). j.bound) asked.job) rows).on ((spreads_same j1 j2 b1 b1 heard bound refl).on (gone.on dealt)) in
    takes j0.terms.sides b0 b3 b4 (fewer_then b0 b1 b3 leaves asks) (subst (λ (t : Terms). AddsFewest t.sides b3 b4) same (begun on))

-- Then all are asked to part, or the destination is flushed.
pub past_takes : (sides : Sides) (j : work.Seen) (a b c : board.Seen) → TakesFewest sides a b → IsPast j b c → c.begun ≡ b.begun → TakesFewest sides a c
past_takes sides j a b c takes past begun = takes_alike sides a b c (ap (λ (l : List (ℕ × Row)). on_source l) past.rows) (ap (λ (l : List (ℕ × Row)). on_destination l) past.rows) begun takes

-- A copy takes a turn.

job_same : (one other : work.Seen) → Some one ≡ Some other → one ≡ other
job_same one other e = cc

pub job_takes : (job : Option work.Seen) (j j' : work.Seen) (a b : board.Seen) → job ≡ Some j → j'.terms ≡ j.terms → TakesFewest j.terms.sides a b → GoesToFewest job (Some j') a b
job_takes job j j' a b there terms takes = record {
  each = λ one is. subst (λ (k : work.Seen). HasTaken k (Some j') a b) (job_same j one (sym there ∙ is)) (record { next = j'; there = refl; terms = terms; takes = takes });
}

-- behind what callbacks were told
pub goes_after : (job job' : Option work.Seen) (a b c : board.Seen) → LeavesFewer a b → GoesToFewest job job' b c → GoesToFewest job job' a c
goes_after job job' a b c fewer goes = record {
  each = λ one is. (let had = goes.each one is in record {
    next = had.next;
    there = had.there;
    terms = had.terms;
    takes = record {
      source = side_later one.terms.sides.source a.begun b.begun c.begun (on_source a.rows) (on_source b.rows) (on_source c.rows) fewer.source fewer.begun had.takes.source;
      destination = side_later one.terms.sides.destination a.begun b.begun c.begun (on_destination a.rows) (on_destination b.rows) (on_destination c.rows) fewer.destination fewer.begun had.takes.destination;
    };
  });
}

-- and before it
pub goes_filed : (first job : Option work.Seen) (a b c : board.Seen) → Filed b c → GoesToFewest first job a b → GoesToFewest first job a c
goes_filed first job a b c filed goes = record {
  each = λ one is. (let had = goes.each one is in record { next = had.next; there = had.there; terms = had.terms; takes = takes_alike one.terms.sides a b c filed.reads filed.writes filed.begun had.takes });
}

-- Step by step.

pub deals_none : (sides : Sides) (now : Account) → DealsOn sides now now
deals_none sides now = record { steps = []; by = refl }

deal_then : (sides : Sides) (a b c : Account) (steps more : List Account) → DealBy sides a steps b → DealBy sides b more c → DealBy sides a (steps ++ more) c
deal_then sides a b c [] more same rest = subst (λ (x : Account). DealBy sides x more c) same rest
deal_then sides a b c (next ∷ steps) more one rest = (one.0, deal_then sides next b c steps more one.1 rest)

pub deals_then : (sides : Sides) (a b c : Account) → DealsOn sides a b → DealsOn sides b c → DealsOn sides a c
deals_then sides a b c one two = record { steps = one.steps ++ two.steps; by = deal_then sides a b c one.steps two.steps one.by two.by }

pub deals_step : (sides : Sides) (a b c : Account) → DealsOn sides a b → DealsOnce sides b c → DealsOn sides a c
deals_step sides a b c one step = deals_then sides a b c one (record { steps = c ∷ []; by = (step, refl) })

-- What callbacks are told leaves an account as it was.
same_account : (old new : board.Seen) → Filed old new → account_of new ≡ account_of old
same_account old new filed = go (account_of new) filed.reads filed.writes filed.begun
  where
    go : (a : Account) → a.source ≡ on_source old.rows → a.destination ≡ on_destination old.rows → a.begun ≡ old.begun → a ≡ account_of old
    go a source destination begun =
        ap (λ (l : List ℕ). record { source = l; destination = a.destination; begun = a.begun }) source
        ∙ ap (λ (l : List ℕ). record { source = on_source old.rows; destination = l; begun = a.begun }) destination
        ∙ ap (λ (n : ℕ). record { source = on_source old.rows; destination = on_destination old.rows; begun = n }) begun

pub dealt_on_filed : (sides : Sides) (old new : board.Seen) → Filed old new → HaveBeenDealt sides old → HaveBeenDealt sides new
dealt_on_filed sides old new filed dealt = subst (λ (a : Account). DealsOn sides no_slices a) (sym (same_account old new filed)) dealt

-- A copy begins without slices.
pub begins_dealt_on : (sides : Sides) (now : board.Seen) → now.rows ≡ [] → now.begun ≡ 0 → HaveBeenDealt sides now
begins_dealt_on sides now empty new = record {
  steps = [];
  by = ap (λ (l : List (ℕ × Row)). record { source = on_source l; destination = on_destination l; begun = now.begun }) empty ∙ ap (λ (n : ℕ). record { source = []; destination = []; begun = n }) new;
}
