-- Served wires at a front of the calls, and the first write on a link after a pause that wanted it.
use Rattle.std.proofs.Common.{◌≡◌, ◌<◌, ◌≤◌, ◌||◌, ℕ, zero, suc, Bool, true, false, List, [], ◌∷◌, ◌++◌, length, min, inl, inr, All, Some, None, refl, ap, sym, subst, ◌∙◌, append_assoc, arith}
use Rattle.std.proofs.lemmas.Bool.{cases_lt, false≢true}
use Rattle.std.proofs.lemmas.List.{append-nil, get_or_past, length-set}
use Rattle.std.specs.List.{list_any}
use Rattle.lnbd_link.specs.Call.{Call, Connect, Listen, Accept, Read, Write, Pause, Shut, WriteTold, Sent, Full, WriteFault}
use Rattle.lnbd_link.specs.declared.wires.Want.{Want}
use Rattle.lnbd_memnet.specs.declared.hosted.Hosted.{Hosted}
use Rattle.lnbd_memnet.specs.declared.link.Link.{Link}
use Rattle.lnbd_memnet.specs.declared.schedule.Schedule.{Schedule}
use Rattle.lnbd_memnet.specs.declared.schedule.Schedule.TheVariants as schedule
use Rattle.lnbd_memnet.specs.declared.schedule.Step.{Step}
use Rattle.lnbd_memnet.specs.Laws.{WasWanted, writes_on}
use Rattle.lnbd_memnet.specs.Network.{Network, link_in}
use Rattle.lnbd_memnet.specs.Plays.{DeliversIf, Plays, Writes, WritesIf}
use Rattle.lnbd_memnet.specs.Schedule.{Moves, at_once, step_at}
use Rattle.lnbd_memnet.specs.Wires.{Came, None_yet, Played, Then}
use Rattle.lnbd_memnet.proofs.Wanted.{writes_are_let_in}

-- Lists from their ends.

cons_none : {A : Type 0} (front : List A) (one : A) → [] ≡ front ++ one ∷ [] → ⊥
cons_none [] one e = cc
cons_none (first ∷ front) one e = cc

cons_more : {A : Type 0} (xs : List A) (x y : A) → x ∷ [] ≡ y ∷ xs → x ≡ y
cons_more xs x y e = cc

tail_more : {A : Type 0} (xs ys : List A) (x y : A) → x ∷ xs ≡ y ∷ ys → xs ≡ ys
tail_more xs ys x y e = cc

head_more : {A : Type 0} (xs ys : List A) (x y : A) → x ∷ xs ≡ y ∷ ys → x ≡ y
head_more xs ys x y e = cc

-- the last element and those before it are determined
last_same : {A : Type 0} (xs ys : List A) (x y : A) → xs ++ x ∷ [] ≡ ys ++ y ∷ [] → (xs ≡ ys) × (x ≡ y)
last_same [] [] x y e = (refl, head_more [] [] x y e)
last_same [] (b ∷ ys) x y e = absurd (cons_none ys y (tail_more [] (ys ++ y ∷ []) x b e))
last_same (a ∷ xs) [] x y e = absurd (cons_none xs x (sym (tail_more (xs ++ x ∷ []) [] a y e)))
last_same {A} (a ∷ xs) (b ∷ ys) x y e =
    let rest = last_same xs ys x y (tail_more (xs ++ x ∷ []) (ys ++ y ∷ []) a b e) in
    (ap (λ (l : List A). a ∷ l) rest.0 ∙ ap (λ (o : A). o ∷ ys) (head_more (xs ++ x ∷ []) (ys ++ y ∷ []) a b e), rest.1)

-- A list is empty, or has a last element.
data Ended : List Call → Type 0 where
  Nothing : (calls : List Call) → calls ≡ [] → Ended calls
  Behind : (calls front : List Call) (last : Call) → calls ≡ front ++ last ∷ [] → Ended calls

ended_of : (calls : List Call) → Ended calls
ended_of [] = Nothing [] refl
ended_of (call ∷ calls) = go (ended_of calls)
  where
    go : Ended calls → Ended (call ∷ calls)
    go (Nothing _ none) = Behind (call ∷ calls) [] call (ap (λ (l : List Call). call ∷ l) none)
    go (Behind _ front last are) = Behind (call ∷ calls) (call ∷ front) last (ap (λ (l : List Call). call ∷ l) are)

-- Networks on the way.

pub record Cut (start : Network) (calls more : List Call) (network : Network) : Type 0 where
  pub middle : Network
  pub front : Played start calls middle
  pub rest : Played middle more network

pub played_cut : (start : Network) (all : List Call) (network : Network) → Played start all network → (calls more : List Call) → all ≡ calls ++ more → Cut start calls more network
played_cut start _ _ (None_yet all network none is) calls more e = record {
  middle = network;
  front = None_yet calls network (first_none calls more (sym e ∙ none)) is;
  rest = None_yet more network (second_none calls more (sym e ∙ none)) refl;
}
  where
    first_none : (xs ys : List Call) → xs ++ ys ≡ [] → xs ≡ []
    first_none [] ys f = refl
    first_none (x ∷ xs) ys f = cc

    second_none : (xs ys : List Call) → xs ++ ys ≡ [] → ys ≡ []
    second_none [] ys f = f
    second_none (x ∷ xs) ys f = cc
played_cut start _ _ (Then front all before after call earlier plays are) calls more e = go (ended_of more) (λ (rest : List Call) (f : front ≡ calls ++ rest). played_cut start front before earlier calls rest f)
  where
    go : Ended more → ((rest : List Call) → front ≡ calls ++ rest → Cut start calls rest before) → Cut start calls more after
    go (Nothing _ none) shorter = record {
      middle = after;
      front = Then front calls before after call earlier plays (sym (sym (sym e ∙ are) ∙ ap (λ (l : List Call). calls ++ l) none ∙ append-nil calls));
      rest = None_yet more after none refl;
    }
    go (Behind _ init last ends) shorter =
        let same = last_same front (calls ++ init) call last (sym are ∙ e ∙ ap (λ (l : List Call). calls ++ l) ends ∙ sym (append_assoc calls init (last ∷ []))) in
        let cut = shorter init same.0 in
        record {
          middle = cut.middle;
          front = cut.front;
          rest = Then init more before after call cut.rest plays (ends ∙ ap (λ (c : Call). init ++ c ∷ []) (sym same.1));
        }

-- one call alone
played_one : (start : Network) (calls : List Call) (network : Network) → Played start calls network → (call : Call) → calls ≡ call ∷ [] → Plays start call network
played_one start _ _ (None_yet calls network none is) call e = absurd (cons_none [] call (sym none ∙ e))
played_one start _ _ (Then front all before after last earlier plays are) call e = go earlier
  where
    same : (front ≡ []) × (last ≡ call)
    same = last_same front [] last call (sym are ∙ e)

    go : Played start front before → Plays start call after
    go (None_yet _ _ none is) = subst (λ (c : Call). Plays start c after) same.1 (subst (λ (n : Network). Plays n last after) is plays)
    go (Then more all' before' after' last' earlier' plays' are') = absurd (cons_none more last' (sym same.0 ∙ are'))

-- A pause among the calls, those that came then, and one more.
pub record Paused (calls before : List Call) (wants : List Want) (earlier : List Call) (call : Call) (network : Network) : Type 0 where
  pub first : Network
  pub came : Came before first
  pub paused : Network
  pub pauses : Plays first (Pause wants) paused
  pub then : Network
  pub played : Played paused earlier then
  pub reaches : Came (before ++ Pause wants ∷ earlier) then
  pub after : Network
  pub plays : Plays then call after
  pub rest : List Call
  pub ends : Played after rest network
  -- from the moment before the pause on
  pub others : List Call
  pub are : calls ≡ before ++ others
  pub back : Played first others network

pub paused_at : (calls before earlier later : List Call) (wants : List Want) (call : Call) (network : Network) → Came calls network → calls ≡ before ++ Pause wants ∷ earlier ++ call ∷ later → Paused calls before wants earlier call network
paused_at calls before earlier later wants call network came e =
    let one = played_cut came.first calls network came.played before (Pause wants ∷ earlier ++ call ∷ later) (e ∙ append_assoc before (Pause wants ∷ earlier) (call ∷ later)) in
    let two = played_cut one.middle (Pause wants ∷ earlier ++ call ∷ later) network one.rest (Pause wants ∷ []) (earlier ++ call ∷ later) refl in
    let three = played_cut two.middle (earlier ++ call ∷ later) network two.rest earlier (call ∷ later) refl in
    let four = played_cut three.middle (call ∷ later) network three.rest (call ∷ []) later refl in
    let front = played_cut came.first calls network came.played (before ++ Pause wants ∷ earlier) (call ∷ later) e in
    record {
      first = one.middle;
      came = record { first = came.first; begins = came.begins; played = one.front };
      paused = two.middle;
      pauses = played_one one.middle (Pause wants ∷ []) two.middle two.front (Pause wants) refl;
      then = three.middle;
      played = three.front;
      reaches = record { first = came.first; begins = came.begins; played = played_then came.first before one.middle one.front (Pause wants ∷ earlier) three.middle (played_then one.middle (Pause wants ∷ []) two.middle two.front earlier three.middle three.front) };
      after = four.middle;
      plays = played_one three.middle (call ∷ []) four.middle four.front call refl;
      rest = later;
      ends = four.rest;
      others = Pause wants ∷ earlier ++ call ∷ later;
      are = e ∙ append_assoc before (Pause wants ∷ earlier) (call ∷ later);
      back = one.rest;
    }
  where
    played_then : (start : Network) (calls : List Call) (middle : Network) → Played start calls middle → (more : List Call) (end : Network) → Played middle more end → Played start (calls ++ more) end
    played_then start calls middle front _ _ (None_yet more end none is) =
        subst (λ (l : List Call). Played start (calls ++ l) end) (sym none) (subst (λ (l : List Call). Played start l end) (sym (append-nil calls)) (subst (λ (n : Network). Played start calls n) (sym is) front))
    played_then start calls middle front _ _ (Then more all before after last earlier plays are) =
        Then (calls ++ more) (calls ++ all) before after last (played_then start calls middle front more before earlier) plays (ap (λ (l : List Call). calls ++ l) are ∙ sym (append_assoc calls more (last ∷ [])))

-- The schedule stays.

plays_schedule : (before after : Network) (call : Call) → Plays before call after → after.schedule ≡ before.schedule
plays_schedule before after (Connect to (Some link)) p = ap (λ (n : Network). n.schedule) p.is
plays_schedule before after (Connect to None) p = ap (λ (n : Network). n.schedule) p.1
plays_schedule before after (Listen at listener) p = ap (λ (n : Network). n.schedule) p.1
plays_schedule before after (Accept listener answer) p = ap (λ (n : Network). n.schedule) p.1
plays_schedule before after (Read n room answer) p = ap (λ (n : Network). n.schedule) p.is
plays_schedule before after (Write n offered answer) p = ap (λ (n : Network). n.schedule) p.is
plays_schedule before after (Pause wants) p = ap (λ (n : Network). n.schedule) p
plays_schedule before after (Shut n) p = ap (λ (n : Network). n.schedule) p

pub played_schedule : (start : Network) (calls : List Call) (network : Network) → Played start calls network → network.schedule ≡ start.schedule
played_schedule start _ _ (None_yet calls network none is) = ap (λ (n : Network). n.schedule) is
played_schedule start _ _ (Then calls all before after call earlier plays are) = plays_schedule before after call plays ∙ played_schedule start calls before earlier

pub moves_one : (plan : Schedule) (turn : ℕ) → Moves plan → 1 ≤ (step_at plan turn).most
moves_one (schedule.Seeded seed) turn moves = omega arith
moves_one (schedule.List steps) turn moves = elim (cases_lt turn (length steps.items)) [
  | inl less ↦ moves turn at_once less
  | inr over ↦ subst (λ (s : Step). 1 ≤ s.most) (sym (get_or_past steps.items turn at_once over)) (omega arith)
]

-- A write that is let in takes a byte, where one is offered.

same_bytes : (one other : List ℕ) → Sent one ≡ Sent other → one ≡ other
same_bytes one other e = cc

delivers_one : (b : Bool) (step : Step) (offered : ℕ) (hosted : Hosted) (before : Link) (answer : WriteTold) (after : Link) (end : Hosted) (bytes : List ℕ) → answer ≡ Sent bytes → 1 ≤ step.most → 0 < offered → DeliversIf b step offered hosted before answer after end → 0 < length bytes
delivers_one true step offered hosted before (Sent own) after end bytes is most some d =
    let size : length bytes ≡ min step.most offered = ap (λ (l : List ℕ). length l) (sym (same_bytes own bytes is)) ∙ d.size in
    omega (arith, size, most, some)
delivers_one true step offered hosted before Full after end bytes is most some d = absurd d
delivers_one true step offered hosted before WriteFault after end bytes is most some d = absurd d
delivers_one false step offered hosted before answer after end bytes is most some d = absurd (no (sym is ∙ d.0))
  where
    no : Sent bytes ≡ Full → ⊥
    no e = cc

pub all_none : (p q : Call → Bool) → ((call : Call) → q call ≡ p call) → (calls : List Call) → list_any p calls ≡ false → All (λ call. q call ≡ false) calls
all_none p q same [] none k other less = absurd (omega (arith, less))
all_none p q same (call ∷ calls) none zero other less = same call ∙ left (p call) (list_any p calls) none
  where
    left : (a b : Bool) → (a || b) ≡ false → a ≡ false
    left true b e = e
    left false b e = refl
all_none p q same (call ∷ calls) none (suc k) other less = all_none p q same calls (right (p call) (list_any p calls) none) k other (omega (arith, less))
  where
    right : (a b : Bool) → (a || b) ≡ false → b ≡ false
    right true b e = absurd (false≢true (sym e))
    right false b e = e

pub let_in : (n offered : ℕ) (calls : List Call) (network after : Network) (answer : WriteTold) → WasWanted n calls network → list_any (writes_on n) calls ≡ false → (link_in network.links n).opened ≡ true → Moves network.schedule → 0 < offered → Writes network n offered answer after
    → (bytes : List ℕ) × (answer ≡ Sent bytes) × (0 < length bytes)
let_in n offered calls network after answer wanted none opened moves some writes =
    let sent = writes_are_let_in n offered calls network after answer wanted (all_none (writes_on n) (writes_on n) (λ call. refl) calls none) opened writes in
    let done = subst (λ (b : Bool). WritesIf b (step_at network.schedule network.turn) network.exports network.links n offered answer writes.exports writes.links) opened writes.writes in
    (sent.0, sent.1, delivers_one _ (step_at network.schedule network.turn) offered _ (link_in network.links n) answer done.link done.hosted sent.0 sent.1 (moves_one network.schedule network.turn moves) some done.delivers)

-- As many exports stay.

plays_count : (before after : Network) (call : Call) → Plays before call after → length after.exports ≡ length before.exports
plays_count before after (Connect to (Some link)) p = ap (λ (n : Network). length n.exports) p.is
plays_count before after (Connect to None) p = ap (λ (n : Network). length n.exports) p.1
plays_count before after (Listen at listener) p = ap (λ (n : Network). length n.exports) p.1
plays_count before after (Accept listener answer) p = ap (λ (n : Network). length n.exports) p.1
plays_count before after (Read n room answer) p = ap (λ (n : Network). length n.exports) p.is
plays_count before after (Write n offered answer) p = ap (λ (n : Network). length n.exports) p.is ∙ written _ _ p.writes
  where
    written : (opened : Bool) (step : Step) → WritesIf opened step before.exports before.links n offered answer p.exports p.links → length p.exports ≡ length before.exports
    written true step w = ap (λ (es : List Hosted). length es) w.holds ∙ length-set before.exports _ _
    written false step w = ap (λ (es : List Hosted). length es) w.1
plays_count before after (Pause wants) p = ap (λ (n : Network). length n.exports) p
plays_count before after (Shut n) p = ap (λ (n : Network). length n.exports) p

pub played_count : (start : Network) (calls : List Call) (network : Network) → Played start calls network → length network.exports ≡ length start.exports
played_count start _ _ (None_yet calls network none is) = ap (λ (n : Network). length n.exports) is
played_count start _ _ (Then calls all before after call earlier plays are) = plays_count before after call plays ∙ played_count start calls before earlier
