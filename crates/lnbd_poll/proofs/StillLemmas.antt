-- In a turn in which nothing happened bytes wait on only where a write took nothing.
use Rattle.std.proofs.Common.{◌≡◌, ◌==◌, ◌||◌, ℕ, Bool, true, false, List, [], ◌∷◌, ◌++◌, length, Option, Some, None, is_some, refl, sym, ◌∙◌, ap, subst}
use Rattle.std.proofs.lemmas.Bool.{false≢true}
use Rattle.std.proofs.lemmas.List.Folds.{list_any-append}
use Rattle.std.specs.List.{list_any}
use Rattle.lnbd_callbacks.specs.Calls.{Call}
use Rattle.lnbd_history.specs.Events.{History}
use Rattle.lnbd_history.specs.Answers.{out_after}
use Rattle.lnbd_link.specs.Call as wire
use Rattle.lnbd_link.specs.Call.{Write, ReadTold, Moved, Unready, Ended, ReadFault, WriteTold, Sent, Full, WriteFault}
use Rattle.lnbd_poll.specs.declared.noticed.Noticed.{Noticed}
use Rattle.lnbd_poll.specs.declared.noticed.Noticed.TheVariants as noticed
use Rattle.lnbd_poll.specs.Seen.{Seen}
use Rattle.lnbd_poll.specs.Notices.{Arrives, Hears, ReadsIf, ReadsOn, Sends, WritesIf, is_reading, is_waiting}
use Rattle.lnbd_poll.specs.Still.{WaitWhereFull, is_full}
use Rattle.lnbd_poll.proofs.NumberLemmas.{same_number}
use Rattle.lnbd_poll.specs.Turns.{Ending, Whole, Short, Told, Turns, All_took, Takes, Runs_short, Breaks_off, TurnsOne, WritesAll, Stops, Goes_on, is_lost, is_moved, is_short, moved_by, together, with_moved}

some_is_none : {A : Type 0} (n : ℕ) → Some n ≡ None → A
some_is_none n is = absurd (false≢true (sym (ap is_some is)))

both_none : (a b : Option ℕ) → together a b ≡ None → (a ≡ None) × (b ≡ None)
both_none None b is = (refl, is)
both_none (Some n) None is = some_is_none n is
both_none (Some n) (Some m) is = some_is_none _ is

moves : {A : Type 0} (notice : Noticed) (n : ℕ) → notice ≡ noticed.Moved n → moved_by notice ≡ None → A
moves notice n is none = some_is_none n (sym (ap moved_by is) ∙ none)

loses : {A : Type 0} (notice : Noticed) → notice ≡ noticed.LinkFailed → moved_by notice ≡ None → A
loses notice is none = some_is_none 0 (sym (ap moved_by is) ∙ none)

ends : {A : Type 0} (notice : Noticed) → notice ≡ noticed.Ended → moved_by notice ≡ None → A
ends notice is none = some_is_none 0 (sym (ap moved_by is) ∙ none)

is_moved_some : {A : Type 0} (notice : Noticed) (rest : Option ℕ) → is_moved notice ≡ true → together (moved_by notice) rest ≡ None → A
is_moved_some (noticed.Moved n) None some is = some_is_none n is
is_moved_some (noticed.Moved n) (Some m) some is = some_is_none _ is
is_moved_some noticed.NotReady rest some is = absurd (false≢true some)
is_moved_some noticed.Idle rest some is = absurd (false≢true some)
is_moved_some noticed.Ended rest some is = absurd (false≢true some)
is_moved_some noticed.LinkFailed rest some is = absurd (false≢true some)
is_moved_some noticed.NoMemory rest some is = absurd (false≢true some)

true_or : (a b : Bool) → a ≡ true → (a || b) ≡ true
true_or true b is = refl
true_or false b is = absurd (false≢true is)

or_true : (a b : Bool) → b ≡ true → (a || b) ≡ true
or_true true b is = refl
or_true false b is = is

any_first : (p : wire.Call → Bool) (xs ys : List wire.Call) → list_any p xs ≡ true → list_any p (xs ++ ys) ≡ true
any_first p xs ys is = list_any-append p xs ys ∙ true_or (list_any p xs) (list_any p ys) is

any_later : (p : wire.Call → Bool) (xs ys : List wire.Call) → list_any p ys ≡ true → list_any p (xs ++ ys) ≡ true
any_later p xs ys is = list_any-append p xs ys ∙ or_true (list_any p xs) (list_any p ys) is

-- a handle that is as before, and of which bytes wait only where a write took nothing
record Waits {K : Type 0} (link : ℕ) (before : History K) (calls : List wire.Call) (after : History K) : Type 0 where
  same : after ≡ before
  full : is_waiting before ≡ true → list_any (is_full link) calls ≡ true

write_waits : {K : Type 0} (b : Bool) (link : ℕ) (notice : Noticed) (before after : History K) (calls : List wire.Call) → is_waiting before ≡ b → WritesIf b link notice before calls after → moved_by notice ≡ None → Waits link before calls after
write_waits false link notice before after calls is w none = record { same = w.2; full = λ e. absurd (false≢true (sym is ∙ e)) }
write_waits true link notice before after calls is w none = go w.0 w.1 w.2
  where
    go : (told : WriteTold) → calls ≡ Write link (length (out_after before)) told ∷ [] → Sends told notice before after → Waits link before calls after
    go (Sent bytes) own s = moves notice _ s.0 none
    go Full own s = record { same = s.1; full = λ e. ap (list_any (is_full link)) own ∙ true_or (link == link) false (same_number link) }
    go WriteFault own s = loses notice s.0 none

not_lost : (notice : Noticed) → moved_by notice ≡ None → is_lost notice ≡ false
not_lost (noticed.Moved n) none = refl
not_lost noticed.NotReady none = refl
not_lost noticed.Idle none = refl
not_lost noticed.Ended none = refl
not_lost noticed.LinkFailed none = some_is_none 0 none
not_lost noticed.NoMemory none = refl

all_later : {K : Type 0} (own other : List wire.Call) (all : List (Seen K)) → WaitWhereFull other all → WaitWhereFull (own ++ other) all
all_later own other [] each = tt
all_later own other (s ∷ ss) each = (λ waiting. any_later (is_full s.link) own other (each.0 waiting), all_later own other ss each.1)

with_none : (moved : Option ℕ) (rest : Ending) → with_moved moved rest ≡ Whole None → (moved ≡ None) × (rest ≡ Whole None)
with_none moved (Whole rest) is = let quiet = both_none moved rest (cc is) in (quiet.0, ap Whole quiet.1)
with_none moved Short is = absurd (cc is)

module _ {K World : Type 0} (steps : World → List (Call K) → World → Type 0) where
  told_same : (lost : Bool) (before after : History K) (world world' : World) → lost ≡ false → Told steps lost before world after world' → after ≡ before
  told_same false before after world world' is told = told.0
  told_same true before after world world' is told = absurd (false≢true (sym is))

  writes_wait : (link : ℕ) (before : History K) (world : World) (calls : List wire.Call) (after : History K) (world' : World) (moved : Option ℕ) → WritesAll steps link before world calls after world' moved → moved ≡ None → Waits link before calls after
  writes_wait link before world calls after world' moved (Stops _ _ _ _ _ _ notice w stop is) none =
      let quiet = sym is ∙ none in
      let waits = write_waits (is_waiting before) link notice before w.middle calls refl w.writes quiet in
      record { same = told_same (is_lost notice) w.middle after world world' (not_lost notice quiet) w.told ∙ waits.same; full = waits.full }
  writes_wait link before world calls after world' moved (Goes_on _ _ _ _ _ _ notice own middle half other rest w some more calls_are is) none = is_moved_some notice rest some (sym is ∙ none)

  arrives_none : {A : Type 0} (bytes : List ℕ) (notice : Noticed) (before after : Seen K) (world world' : World) → Arrives steps bytes notice before after world world' → moved_by notice ≡ None → is_short notice ≡ false → A
  arrives_none bytes (noticed.Moved n) before after world world' a none enough = some_is_none n none
  arrives_none bytes noticed.NoMemory before after world world' a none enough = absurd (false≢true (sym enough))
  arrives_none bytes noticed.NotReady before after world world' a none enough = absurd a
  arrives_none bytes noticed.Idle before after world world' a none enough = absurd a
  arrives_none bytes noticed.Ended before after world world' a none enough = absurd a
  arrives_none bytes noticed.LinkFailed before after world world' a none enough = absurd a

  reads_same : (b : Bool) (notice : Noticed) (before after : Seen K) (world world' : World) (calls : List wire.Call) → ReadsIf steps b notice before world calls after world' → moved_by notice ≡ None → is_short notice ≡ false → after ≡ before
  reads_same false notice before after world world' calls r none enough = r.2.0
  reads_same true notice before after world world' calls r none enough = on before.unread r
    where
      hears : (told : ReadTold) → Hears steps told notice before after world world' → after ≡ before
      hears (Moved bytes) h = arrives_none bytes notice before after world world' h.1 none enough
      hears Unready h = h.1.0
      hears Ended h = ends notice h.0 none
      hears ReadFault h = loses notice h.0 none

      on : (unread : List ℕ) → ReadsOn steps unread notice before world calls after world' → after ≡ before
      on [] r = hears r.0 r.2
      on (byte ∷ bytes) r = arrives_none (byte ∷ bytes) notice before after world world' r.1 none enough

  part_waits : (notice : Noticed) (before : Seen K) (world : World) (calls : List wire.Call) (after : Seen K) (world' : World) (moved : Option ℕ) → TurnsOne steps notice before world calls after world' moved → is_short notice ≡ false → moved ≡ None
      → (is_waiting after.history ≡ true → list_any (is_full after.link) calls ≡ true)
  part_waits notice before world calls after world' moved t enough none waiting =
      let quiet = both_none t.sent (moved_by notice) (sym t.moved_is ∙ none) in
      let w = writes_wait before.link before.history world t.written t.middle t.half t.sent t.writes quiet.0 in
      let middle : Seen K = record { link = before.link; history = t.middle; unread = before.unread } in
      let same = reads_same (is_reading t.middle) notice middle after t.half world' t.read t.reads quiet.1 enough in
      let waited = sym (ap (λ (s : Seen K). is_waiting s.history) same ∙ ap is_waiting w.same) ∙ waiting in
      ap (λ (n : ℕ). list_any (is_full n) calls) (ap (λ (s : Seen K). s.link) same) ∙ ap (list_any (is_full before.link)) t.calls_are ∙ any_first (is_full before.link) t.written t.read (w.full waited)

  pub waits_where_full : (before : List (Seen K)) (world : World) (calls : List wire.Call) (after : List (Seen K)) (world' : World) (ending : Ending) → Turns steps before world calls after world' ending → ending ≡ Whole None → WaitWhereFull calls after
  waits_where_full before world calls after world' ending (All_took _ _ _ _ _ _ is none after_is world_is end) still = subst (WaitWhereFull calls) (sym after_is) tt
  waits_where_full before world calls after world' ending (Takes _ _ _ _ _ _ seen others notice own here half moved other there rest is turns enough more calls_are after_is end) still =
      let quiet = with_none moved rest (sym end ∙ still) in
      let first : is_waiting here.history ≡ true → list_any (is_full here.link) (own ++ other) ≡ true = λ waiting. any_first (is_full here.link) own other (part_waits notice seen world own here half moved turns enough quiet.0 waiting) in
      let both_of : WaitWhereFull (own ++ other) (here ∷ there) = (first, all_later own other there (waits_where_full others half other there world' rest more quiet.1)) in
      subst (WaitWhereFull calls) (sym after_is) (subst (λ (l : List wire.Call). WaitWhereFull l (here ∷ there)) (sym calls_are) both_of)
  waits_where_full before world calls after world' ending (Runs_short _ _ _ _ _ _ seen others here moved is turns after_is end) still = absurd (cc (end, still))
  waits_where_full before world calls after world' ending (Breaks_off _ _ _ _ _ _ none after_is world_is end) still = absurd (cc (end, still))
