-- In a turn each handle takes its part by the calls on its own link.
use Rattle.std.proofs.Common.{◌≡◌, ◌≢◌, ◌⊎◌, inl, inr, ℕ, Bool, true, false, List, [], ◌∷◌, ◌++◌, Option, Some, if◌then◌else◌, refl, sym, ◌∙◌, ap, subst}
use Rattle.std.proofs.lemmas.List.{append-nil}
use Rattle.lnbd_callbacks.specs.Calls.{Call}
use Rattle.lnbd_history.specs.Events.{History}
use Rattle.lnbd_link.specs.Call as wire
use Rattle.lnbd_link.specs.Call.{Read, Write, ReadTold, WriteTold}
use Rattle.lnbd_link.specs.Numbers.{is_number}
use Rattle.lnbd_poll.specs.declared.noticed.Noticed.{Noticed}
use Rattle.lnbd_poll.specs.Alone.{AreApart, EachTook, HaveOwnLinks, Took, calls_on, link_of}
use Rattle.lnbd_poll.specs.Seen.{Seen}
use Rattle.lnbd_poll.specs.Notices.{ReadsIf, ReadsOn, WritesIf, is_reading, is_waiting}
use Rattle.lnbd_poll.proofs.NumberLemmas.{other_number, same_number}
use Rattle.lnbd_poll.specs.Turns.{Ending, Turns, All_took, Takes, Runs_short, Breaks_off, TurnsOne, WritesAll, Stops, Goes_on}

-- all calls are reads and writes of this link
abbrev AreOn : ℕ → List wire.Call → Type 0
AreOn link [] = Unit {0}
AreOn link (call ∷ calls) = (link_of call ≡ Some link) × AreOn link calls

on_both : (link : ℕ) (xs ys : List wire.Call) → AreOn link xs → AreOn link ys → AreOn link (xs ++ ys)
on_both link [] ys one two = two
on_both link (x ∷ xs) ys one two = (one.0, on_both link xs ys one.1 two)

own_first : (link : ℕ) (call : wire.Call) (calls : List wire.Call) → link_of call ≡ Some link → calls_on link (call ∷ calls) ≡ call ∷ calls_on link calls
own_first link call calls is = ap (λ (b : Bool). if b then call ∷ calls_on link calls else calls_on link calls) (ap (is_number link) is ∙ same_number link)

other_first : (link other : ℕ) (call : wire.Call) (calls : List wire.Call) → link_of call ≡ Some other → other ≢ link → calls_on link (call ∷ calls) ≡ calls_on link calls
other_first link other call calls is differ = ap (λ (b : Bool). if b then call ∷ calls_on link calls else calls_on link calls) (ap (is_number link) is ∙ other_number other link differ)

own_calls : (link : ℕ) (own other : List wire.Call) → AreOn link own → calls_on link (own ++ other) ≡ own ++ calls_on link other
own_calls link [] other on = refl
own_calls link (call ∷ own) other on = own_first link call (own ++ other) on.0 ∙ ap (λ (l : List wire.Call). call ∷ l) (own_calls link own other on.1)

other_calls : (link n : ℕ) (own other : List wire.Call) → AreOn n own → n ≢ link → calls_on link (own ++ other) ≡ calls_on link other
other_calls link n [] other on differ = refl
other_calls link n (call ∷ own) other on differ = other_first link n call (own ++ other) on.0 differ ∙ other_calls link n own other on.1 differ

-- Each call of a handle's part is on its link.

none_on : (link : ℕ) (calls : List wire.Call) → calls ≡ [] → AreOn link calls
none_on link calls is = subst (AreOn link) (sym is) tt

one_on : (link : ℕ) (calls : List wire.Call) (call : wire.Call) → calls ≡ call ∷ [] → link_of call ≡ Some link → AreOn link calls
one_on link calls call is on = subst (AreOn link) (sym is) (on, tt)

write_on : {K : Type 0} (b : Bool) (link : ℕ) (notice : Noticed) (before after : History K) (calls : List wire.Call) → WritesIf b link notice before calls after → AreOn link calls
write_on false link notice before after calls w = none_on link calls w.1
write_on true link notice before after calls w = one_on link calls _ w.1 refl

module _ {K World : Type 0} (steps : World → List (Call K) → World → Type 0) where
  read_on : (b : Bool) (unread : List ℕ) (notice : Noticed) (before after : Seen K) (world world' : World) (calls : List wire.Call) → before.unread ≡ unread → ReadsIf steps b notice before world calls after world' → AreOn before.link calls
  read_on false unread notice before after world world' calls is r = none_on before.link calls r.1
  read_on true unread notice before after world world' calls is r = go unread (subst (λ (u : List ℕ). ReadsOn steps u notice before world calls after world') is r)
    where
      go : (u : List ℕ) → ReadsOn steps u notice before world calls after world' → AreOn before.link calls
      go [] r = one_on before.link calls _ r.1 refl
      go (byte ∷ bytes) r = none_on before.link calls r.0

  writes_on : (link : ℕ) (before : History K) (world : World) (calls : List wire.Call) (after : History K) (world' : World) (moved : Option ℕ) → WritesAll steps link before world calls after world' moved → AreOn link calls
  writes_on link before world calls after world' moved (Stops _ _ _ _ _ _ notice w none is) = write_on (is_waiting before) link notice before w.middle calls w.writes
  writes_on link before world calls after world' moved (Goes_on _ _ _ _ _ _ notice own middle half other rest w some others is moved_is) =
      subst (AreOn link) (sym is) (on_both link own other (write_on (is_waiting before) link notice before w.middle own w.writes) (writes_on link middle half other after world' rest others))

  part_on : (notice : Noticed) (before : Seen K) (world : World) (calls : List wire.Call) (after : Seen K) (world' : World) (moved : Option ℕ) → TurnsOne steps notice before world calls after world' moved → AreOn before.link calls
  part_on notice before world calls after world' moved t =
      subst (AreOn before.link) (sym t.calls_are) (on_both before.link t.written t.read
      (writes_on before.link before.history world t.written t.middle t.half t.sent t.writes)
      (read_on (is_reading t.middle) before.unread notice (record { link = before.link; history = t.middle; unread = before.unread }) after t.half world' t.read refl t.reads))

  -- Other handles make no call on a link that is none of theirs.
  none_of : (link : ℕ) (before : List (Seen K)) (world : World) (calls : List wire.Call) (after : List (Seen K)) (world' : World) (ending : Ending) → Turns steps before world calls after world' ending → AreApart link before → calls_on link calls ≡ []
  none_of link before world calls after world' ending (All_took _ _ _ _ _ _ is none after_is world_is end) differ = ap (calls_on link) none
  none_of link before world calls after world' ending (Takes _ _ _ _ _ _ seen others notice own here half moved other there rest is turns enough more calls_are after_is end) differ =
      let apart = subst (AreApart link) is differ in
      ap (calls_on link) calls_are ∙ other_calls link seen.link own other (part_on notice seen world own here half moved turns) apart.0 ∙ none_of link others half other there world' rest more apart.1
  none_of link before world calls after world' ending (Runs_short _ _ _ _ _ _ seen others here moved is turns after_is end) differ =
      let apart = subst (AreApart link) is differ in
      ap (calls_on link) (sym (append-nil calls)) ∙ other_calls link seen.link calls [] (part_on _ seen world calls here world' moved turns) apart.0
  none_of link before world calls after world' ending (Breaks_off _ _ _ _ _ _ none after_is world_is end) differ = ap (calls_on link) none

  -- Calls on another link change nothing for the others.
  each_more : (n : ℕ) (own other : List wire.Call) (before after : List (Seen K)) → AreOn n own → AreApart n before → EachTook steps other before after → EachTook steps (own ++ other) before after
  each_more n own other [] [] on differ each = tt
  each_more n own other [] (a ∷ ts) on differ each = absurd each
  each_more n own other (s ∷ ss) [] on differ each = absurd each
  each_more n own other (s ∷ ss) (a ∷ ts) on differ each =
      let same = other_calls s.link n own other on (λ is. differ.0 (sym is)) in (
        subst (λ (l : List wire.Call). Took steps s l a ⊎ ((l ≡ []) × (a ≡ s))) (sym same) each.0,
        each_more n own other ss ts on differ.1 each.1,
      )

  untried : (calls : List wire.Call) (n : ℕ) (all : List (Seen K)) → AreOn n calls → AreApart n all → EachTook steps calls all all
  untried calls n [] on differ = tt
  untried calls n (s ∷ ss) on differ = (inr (ap (calls_on s.link) (sym (append-nil calls)) ∙ other_calls s.link n calls [] on (λ is. differ.0 (sym is)), refl), untried calls n ss on differ.1)

  none_tried : (all : List (Seen K)) → EachTook steps [] all all
  none_tried [] = tt
  none_tried (s ∷ ss) = (inr (refl, refl), none_tried ss)

  pub each_took : (before : List (Seen K)) (world : World) (calls : List wire.Call) (after : List (Seen K)) (world' : World) (ending : Ending) → Turns steps before world calls after world' ending → HaveOwnLinks before → EachTook steps calls before after
  each_took before world calls after world' ending (All_took _ _ _ _ _ _ is none after_is world_is end) own_links =
      subst (λ (b : List (Seen K)). EachTook steps calls b after) (sym is) (subst (λ (a : List (Seen K)). EachTook steps calls [] a) (sym after_is) tt)
  each_took before world calls after world' ending (Takes _ _ _ _ _ _ seen others notice own here half moved other there rest is turns enough more calls_are after_is end) own_links =
      let apart = subst HaveOwnLinks is own_links in
      let on = part_on notice seen world own here half moved turns in
      let mine : calls_on seen.link (own ++ other) ≡ own = own_calls seen.link own other on ∙ ap (λ (l : List wire.Call). own ++ l) (none_of seen.link others half other there world' rest more apart.0) ∙ append-nil own in
      let first : Took steps seen own here = record { notice = notice; world = world; world' = half; moved = moved; turns = turns } in
      let both_of : EachTook steps (own ++ other) (seen ∷ others) (here ∷ there) = (inl (subst (λ (l : List wire.Call). Took steps seen l here) (sym mine) first), each_more seen.link own other others there on apart.0 (each_took others half other there world' rest more apart.1)) in
      subst (λ (b : List (Seen K)). EachTook steps calls b after) (sym is) (subst (λ (a : List (Seen K)). EachTook steps calls (seen ∷ others) a) (sym after_is) (subst (λ (l : List wire.Call). EachTook steps l (seen ∷ others) (here ∷ there)) (sym calls_are) both_of))
  each_took before world calls after world' ending (Runs_short _ _ _ _ _ _ seen others here moved is turns after_is end) own_links =
      let apart = subst HaveOwnLinks is own_links in
      let on = part_on _ seen world calls here world' moved turns in
      let mine : calls_on seen.link calls ≡ calls = ap (calls_on seen.link) (sym (append-nil calls)) ∙ own_calls seen.link calls [] on ∙ append-nil calls in
      let first : Took steps seen calls here = record { notice = _; world = world; world' = world'; moved = moved; turns = turns } in
      let both_of : EachTook steps calls (seen ∷ others) (here ∷ others) = (inl (subst (λ (l : List wire.Call). Took steps seen l here) (sym mine) first), untried calls seen.link others on apart.0) in
      subst (λ (b : List (Seen K)). EachTook steps calls b after) (sym is) (subst (λ (a : List (Seen K)). EachTook steps calls (seen ∷ others) a) (sym after_is) both_of)
  each_took before world calls after world' ending (Breaks_off _ _ _ _ _ _ none after_is world_is end) own_links =
      subst (λ (a : List (Seen K)). EachTook steps calls before a) (sym after_is) (subst (λ (l : List wire.Call). EachTook steps l before before) (sym none) (none_tried before))
