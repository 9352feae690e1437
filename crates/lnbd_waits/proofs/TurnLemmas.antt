-- A turn over one handle alone.
use Rattle.std.proofs.Common.{◌≡◌, ℕ, false, List, [], ◌∷◌, ◌++◌, length, Option, Some, None, refl, sym, ◌∙◌, ap, subst}
use Rattle.std.specs.Prelude.{Result, Ok, Err, IfOk, OnErr}
use Rattle.std.proofs.lemmas.List.{append-nil}
use Rattle.lnbd_callbacks.specs.Calls.{Call}
use Rattle.lnbd_link.specs.Call as wire
use Rattle.lnbd_poll.specs.declared.noticed.Noticed.{Noticed}
use Rattle.lnbd_poll.specs.declared.noticed.Noticed.TheVariants as noticed
use Rattle.lnbd_poll.specs.declared.noticed.Turn.{Turn}
use Rattle.lnbd_poll.specs.Seen.{Seen, Goes}
use Rattle.lnbd_poll.specs.Held.{Held, AreAt}
use Rattle.lnbd_poll.specs.Steps.{TookEnough, TookShort}
use Rattle.lnbd_poll.specs.Turned.{TurnsShort, TurnsWhole}
use Rattle.lnbd_poll.specs.Turns.{AllTook, Ending, Whole, Short, Turns, All_took, Takes, Runs_short, Breaks_off, TurnsOne, is_short, turn_of, with_moved}
use Rattle.lnbd_waits.specs.Waits.{Holds}

pub held_one : {K : Type 0} (all : List (Held K)) (seen : Seen K) → Holds all seen → length all ≡ 1
held_one [] seen at = absurd at
held_one (held ∷ []) seen at = refl
held_one (held ∷ other ∷ others) seen at = absurd at.1

-- how much a turn of no other handle adds
with_no_other : (moved : Option ℕ) (rest : Ending) → rest ≡ Whole None → with_moved moved rest ≡ Whole moved
with_no_other None rest is = ap (with_moved None) is
with_no_other (Some n) rest is = ap (with_moved (Some n)) is

rest_short : (moved : Option ℕ) (rest : Ending) → with_moved moved rest ≡ Short → rest ≡ Short
rest_short moved (Whole rest) is = absurd (cc is)
rest_short moved Short is = refl

module _ {K World : Type 0} (steps : World → List (Call K) → World → Type 0) where
  -- No handle took a part.
  record Nobody (world : World) (calls : List wire.Call) (after : List (Seen K)) (world' : World) (ending : Ending) : Type 0 where
    made : calls ≡ []
    none : after ≡ []
    same : world' ≡ world
    whole : ending ≡ Whole None

  nobody : (before : List (Seen K)) (world : World) (calls : List wire.Call) (after : List (Seen K)) (world' : World) (ending : Ending) (turns : Turns steps before world calls after world' ending) → AllTook turns → before ≡ [] → Nobody world calls after world' ending
  nobody before world calls after world' ending (All_took _ _ _ _ _ _ is made none same end) all empty = record { made = made; none = none; same = same; whole = end }
  nobody before world calls after world' ending (Takes _ _ _ _ _ _ seen others notice own here half moved other there rest is turns enough more calls_are after_is end) all empty = absurd (cc (is, empty))
  nobody before world calls after world' ending (Runs_short _ _ _ _ _ _ seen others here moved is turns after_is end) all empty = absurd (cc (is, empty))
  nobody before world calls after world' ending (Breaks_off _ _ _ _ _ _ none after_is world_is end) all empty = absurd all

  -- Memory doesn't run out where there is no handle.
  none_short : (before : List (Seen K)) (world : World) (calls : List wire.Call) (after : List (Seen K)) (world' : World) (ending : Ending) → Turns steps before world calls after world' ending → before ≡ [] → ending ≡ Short → ⊥
  none_short before world calls after world' ending (All_took _ _ _ _ _ _ is made none same end) empty short = cc (end, short)
  none_short before world calls after world' ending (Takes _ _ _ _ _ _ seen others notice own here half moved other there rest is turns enough more calls_are after_is end) empty short = cc (is, empty)
  none_short before world calls after world' ending (Runs_short _ _ _ _ _ _ seen others here moved is turns after_is end) empty short = cc (is, empty)
  none_short before world calls after world' ending (Breaks_off _ _ _ _ _ _ none after_is world_is end) empty short = cc (end, short)

  -- The one handle took its part.
  record One (seen : Seen K) (world : World) (calls : List wire.Call) (after : List (Seen K)) (world' : World) (moved : Option ℕ) : Type 0 where
    here : Seen K
    notice : Noticed
    after_is : after ≡ here ∷ []
    enough : is_short notice ≡ false
    turns : TurnsOne steps notice seen world calls here world' moved

  whole_one : (seen : Seen K) (moved : Option ℕ) (before : List (Seen K)) (world : World) (calls : List wire.Call) (after : List (Seen K)) (world' : World) (ending : Ending) (turns : Turns steps before world calls after world' ending) → AllTook turns → before ≡ seen ∷ [] → ending ≡ Whole moved
      → One seen world calls after world' moved
  whole_one seen moved before world calls after world' ending (All_took _ _ _ _ _ _ is made none same end) all one whole = absurd (cc (is, one))
  whole_one seen moved before world calls after world' ending (Runs_short _ _ _ _ _ _ first others here n is turns after_is end) all one whole = absurd (cc (end, whole))
  whole_one seen moved before world calls after world' ending (Breaks_off _ _ _ _ _ _ none after_is world_is end) all one whole = absurd all
  whole_one seen moved before world calls after world' ending (Takes _ _ _ _ _ _ first others notice own here half n other there rest is turns enough more calls_are after_is end) all one whole =
      let alone : others ≡ [] = cc (is, one) in
      let same : first ≡ seen = cc (is, one) in
      let none = nobody others half other there world' rest more all alone in
      let so_much : n ≡ moved = cc (sym (with_no_other n rest none.whole) ∙ (sym end ∙ whole)) in
      let own_calls : calls ≡ own = calls_are ∙ (ap (λ (l : List wire.Call). own ++ l) none.made ∙ append-nil own) in
      record {
        here = here;
        notice = notice;
        after_is = after_is ∙ ap (λ (l : List (Seen K)). here ∷ l) none.none;
        enough = enough;
        turns = subst (λ (s : Seen K). TurnsOne steps notice s world calls here world' moved) same
            (subst (λ (l : List wire.Call). TurnsOne steps notice first world l here world' moved) (sym own_calls)
            (subst (λ (w : World). TurnsOne steps notice first world own here w moved) (sym none.same)
            (subst (λ (m : Option ℕ). TurnsOne steps notice first world own here half m) so_much turns)));
      }

  -- The one handle ran short.
  record OneShort (seen : Seen K) (world : World) (calls : List wire.Call) (after : List (Seen K)) (world' : World) : Type 0 where
    here : Seen K
    moved : Option ℕ
    after_is : after ≡ here ∷ []
    turns : TurnsOne steps noticed.NoMemory seen world calls here world' moved

  short_one : (seen : Seen K) (before : List (Seen K)) (world : World) (calls : List wire.Call) (after : List (Seen K)) (world' : World) (ending : Ending) → Turns steps before world calls after world' ending → before ≡ seen ∷ [] → ending ≡ Short
      → OneShort seen world calls after world'
  short_one seen before world calls after world' ending (All_took _ _ _ _ _ _ is made none same end) one short = absurd (cc (is, one))
  short_one seen before world calls after world' ending (Runs_short _ _ _ _ _ _ first others here n is turns after_is end) one short =
      let alone : others ≡ [] = cc (is, one) in
      let same : first ≡ seen = cc (is, one) in
      record {
        here = here;
        moved = n;
        after_is = after_is ∙ ap (λ (l : List (Seen K)). here ∷ l) alone;
        turns = subst (λ (s : Seen K). TurnsOne steps noticed.NoMemory s world calls here world' n) same turns;
      }
  short_one seen before world calls after world' ending (Takes _ _ _ _ _ _ first others notice own here half n other there rest is turns enough more calls_are after_is end) one short =
      let alone : others ≡ [] = cc (is, one) in
      absurd (none_short others half other there world' rest more alone (rest_short n rest (sym end ∙ short)))
  short_one seen before world calls after world' ending (Breaks_off _ _ _ _ _ _ none after_is world_is end) one short = absurd (cc (end, short))

  pub turn_one : (a b : Option (List wire.Call)) (f g : ℕ) (old new : List (Held K)) (told : Turn) (world world' : World)
      → Goes a b (λ seen. AreAt old seen) (λ seen. AreAt new seen) (λ before calls after. TurnsWhole steps f g told before world calls after world')
      → Goes a b (Holds old) (Holds new) (λ before calls after. TookEnough steps f g told before world calls after world')
  turn_one a b f g old new told world world' goes seen at =
      let went = goes (seen ∷ []) at in
      let one = whole_one seen went.leads.moved (seen ∷ []) world went.calls went.after world' (Whole went.leads.moved) went.leads.turns went.leads.all refl refl in
      record {
        calls = went.calls;
        after = one.here;
        grown = went.grown;
        leads = (one.notice, one.enough, record { moved = went.leads.moved; turns = one.turns; tells = went.leads.tells; blames = went.leads.blames });
        at = subst (AreAt new) one.after_is went.at;
      }

  pub turn_short : (a b : Option (List wire.Call)) (f g : ℕ) (old new : List (Held K)) (world world' : World)
      → Goes a b (λ seen. AreAt old seen) (λ seen. AreAt new seen) (λ before calls after. TurnsShort steps f g before world calls after world')
      → Goes a b (Holds old) (Holds new) (λ before calls after. TookShort steps f g before world calls after world')
  turn_short a b f g old new world world' goes seen at =
      let went = goes (seen ∷ []) at in
      let one = short_one seen (seen ∷ []) world went.calls went.after world' Short went.leads.turns refl refl in
      record {
        calls = went.calls;
        after = one.here;
        grown = went.grown;
        leads = (turn_of one.moved, record { moved = one.moved; turns = one.turns; tells = refl; blames = went.leads.blames });
        at = subst (AreAt new) one.after_is went.at;
      }

-- What holds of a value that is Ok, or of an error, gives another.
pub if_ok : {A E : Type 0} {P Q : A → Type 0} (result : Result A E) → ((a : A) → P a → Q a) → IfOk result P → IfOk result Q
if_ok (Ok a) f p = f a p
if_ok (Err e) f p = p

pub on_err : {A E P Q : Type 0} (result : Result A E) → (P → Q) → OnErr result P → OnErr result Q
on_err (Ok a) f p = p
on_err (Err e) f p = f p
