-- What is so at each pause stays so while calls are added.
use Rattle.std.proofs.Common.{◌≡◌, ◌⊎◌, inl, inr, ◌||◌, ℕ, Bool, true, false, List, [], ◌∷◌, ◌++◌, Option, Result, Ok, Err, OnErr, OnOk, refl, ap, sym, subst, ◌∙◌, append_assoc}
use Rattle.std.proofs.lemmas.Bool.{false≢true}
use Rattle.std.proofs.lemmas.List.{append-nil}
use Rattle.std.proofs.lemmas.List.Folds.{list_any-append}
use Rattle.std.specs.List.{list_any}
use Rattle.lnbd_link.specs.Call as wire
use Rattle.lnbd_link.specs.Call.{Pause, Shut}
use Rattle.lnbd_link.specs.Part.{Adds}
use Rattle.lnbd_link.specs.declared.wires.Want.{Want}
use Rattle.lnbd_copy.specs.Pauses.{Pauses, Unpaused}
use Rattle.lnbd_usage.specs.Pauses.{HasNoPause, AtEachPause, is_pause}
use Rattle.lnbd_conduct.specs.Told.{Told}
use Rattle.lnbd_copy.proofs.TurnLemmas.{since_on, told_begins}

-- Among calls.

pub none_cons : {A : Type 0} (before after : List A) (one : A) → [] ≡ before ++ one ∷ after → ⊥
none_cons [] after one e = cc
none_cons (first ∷ before) after one e = cc

pub head_same : {A : Type 0} (x y : A) (xs ys : List A) → x ∷ xs ≡ y ∷ ys → x ≡ y
head_same x y xs ys e = cc

pub tail_same : {A : Type 0} (x y : A) (xs ys : List A) → x ∷ xs ≡ y ∷ ys → xs ≡ ys
tail_same x y xs ys e = cc

pub has_pause : (before after : List wire.Call) (wants : List Want) → list_any is_pause (before ++ Pause wants ∷ after) ≡ true
has_pause [] after wants = refl
has_pause (call ∷ before) after wants = or_true (is_pause call) (list_any is_pause (before ++ Pause wants ∷ after)) (has_pause before after wants)
  where
    or_true : (a b : Bool) → b ≡ true → (a || b) ≡ true
    or_true true b is = refl
    or_true false b is = is

-- A pause that is not among the last calls is among the first.
record IsBefore (calls before : List wire.Call) (wants : List Want) : Type 0 where
  after : List wire.Call
  are : calls ≡ before ++ Pause wants ∷ after

is_before : (calls more before after : List wire.Call) (wants : List Want) → HasNoPause more → calls ++ more ≡ before ++ Pause wants ∷ after → IsBefore calls before wants
is_before [] more before after wants none e = absurd (false≢true (sym none ∙ ap (list_any is_pause) e ∙ has_pause before after wants))
is_before (call ∷ calls) more [] after wants none e = record { after = calls; are = ap (λ (c : wire.Call). c ∷ calls) (head_same call (Pause wants) (calls ++ more) after e) }
is_before (call ∷ calls) more (first ∷ before) after wants none e =
    let rest = is_before calls more before after wants none (tail_same call first (calls ++ more) (before ++ Pause wants ∷ after) e) in
    record { after = rest.after; are = ap (λ (l : List wire.Call). call ∷ l) rest.are ∙ ap (λ (c : wire.Call). c ∷ before ++ Pause wants ∷ rest.after) (head_same call first (calls ++ more) (before ++ Pause wants ∷ after) e) }

is_last_or : (calls before after : List wire.Call) (last wants : List Want) → calls ++ Pause last ∷ [] ≡ before ++ Pause wants ∷ after → IsBefore calls before wants ⊎ ((before ≡ calls) × (wants ≡ last))
is_last_or [] [] after last wants e = inr (refl, wants_same last wants (head_same (Pause last) (Pause wants) [] after e))
  where
    wants_same : (one other : List Want) → Pause one ≡ Pause other → other ≡ one
    wants_same one other e = cc
is_last_or [] (first ∷ before) after last wants e = absurd (none_cons before after (Pause wants) (tail_same (Pause last) first [] (before ++ Pause wants ∷ after) e))
is_last_or (call ∷ calls) [] after last wants e = inl (record { after = calls; are = ap (λ (c : wire.Call). c ∷ calls) (head_same call (Pause wants) (calls ++ Pause last ∷ []) after e) })
is_last_or (call ∷ calls) (first ∷ before) after last wants e =
    let same : call ≡ first = head_same call first (calls ++ Pause last ∷ []) (before ++ Pause wants ∷ after) e in
    go same (is_last_or calls before after last wants (tail_same call first (calls ++ Pause last ∷ []) (before ++ Pause wants ∷ after) e))
  where
    go : call ≡ first → IsBefore calls before wants ⊎ ((before ≡ calls) × (wants ≡ last)) → IsBefore (call ∷ calls) (first ∷ before) wants ⊎ ((first ∷ before ≡ call ∷ calls) × (wants ≡ last))
    go same (inl is) = inl (record { after = is.after; are = ap (λ (l : List wire.Call). call ∷ l) is.are ∙ ap (λ (c : wire.Call). c ∷ before ++ Pause wants ∷ is.after) same })
    go same (inr is) = inr (ap (λ (c : wire.Call). c ∷ before) (sym same) ∙ ap (λ (l : List wire.Call). call ∷ l) is.0, is.1)

module _ (Is : (before : List wire.Call) → List Want → Type 0) where
  pub no_pauses : AtEachPause Is []
  no_pauses before after wants e = absurd (none_cons before after (Pause wants) e)

  pub pauses_stay : (calls more : List wire.Call) → HasNoPause more → AtEachPause Is calls → AtEachPause Is (calls ++ more)
  pauses_stay calls more none each before after wants e = let is = is_before calls more before after wants none e in each before is.after wants is.are

  pub one_more : (calls : List wire.Call) (last : List Want) → Is calls last → AtEachPause Is calls → AtEachPause Is (calls ++ Pause last ∷ [])
  one_more calls last so each before after wants e = go (is_last_or calls before after last wants e)
    where
      go : IsBefore calls before wants ⊎ ((before ≡ calls) × (wants ≡ last)) → Is before wants
      go (inl is) = each before is.after wants is.are
      go (inr is) = subst (λ (l : List wire.Call). Is l wants) (sym is.0) (subst (Is calls) (sym is.1) so)

-- Steps.

pub no_pause_then : (calls more : List wire.Call) → HasNoPause calls → HasNoPause more → HasNoPause (calls ++ more)
no_pause_then calls more one two = list_any-append is_pause calls more ∙ ap (λ (b : Bool). b || list_any is_pause more) one ∙ two

pub unpaused_none : (told : Option (List wire.Call)) → Unpaused told told
unpaused_none told = record { on = λ all is. record { before = all; more = []; was = is; now = sym (append-nil all); are = refl } }

pub unpaused_adds : (a b : Option (List wire.Call)) (call : wire.Call) → is_pause call ≡ false → Adds a b call → Unpaused a b
unpaused_adds a b call none adds = record {
  on = λ all is.
      let added = adds all is in
      record { before = added.0; more = call ∷ []; was = added.1; now = added.2; are = ap (λ (b : Bool). b || false) none };
}

pub unpaused_shut : (a b : Option (List wire.Call)) (link : ℕ) → Adds a b (Shut link) → Unpaused a b
unpaused_shut a b link adds = unpaused_adds a b (Shut link) refl adds

pub unpaused_then : (a b c : Option (List wire.Call)) → Unpaused a b → Unpaused b c → Unpaused a c
unpaused_then a b c one two = record {
  on = λ all is.
      let late = two.on all is in
      let early = one.on late.before late.was in
      record {
        before = early.before;
        more = early.more ++ late.more;
        was = early.was;
        now = late.now ∙ ap (λ (l : List wire.Call). l ++ late.more) early.now ∙ append_assoc early.before early.more late.more;
        are = no_pause_then early.more late.more early.are late.are;
      };
}

pub unpaused_as : (a b c : Option (List wire.Call)) → c ≡ b → Unpaused a b → Unpaused a c
unpaused_as a b c same unpaused = subst (λ (t : Option (List wire.Call)). Unpaused a t) (sym same) unpaused

pub unpaused_same : (a b : Option (List wire.Call)) → b ≡ a → Unpaused a b
unpaused_same a b same = unpaused_as a a b same (unpaused_none a)

-- What follows from either result is so.
pub either_way : {T F A B C : Type 0} (r : Result T F) → OnOk r A → OnErr r B → (A → C) → (B → C) → C
either_way (Ok value) a b on_ok on_err = on_ok a
either_way (Err fault) a b on_ok on_err = on_err b

-- At each pause since a start.

pub pauses_none : {Is : (before : List wire.Call) → List Want → Type 0} (told : Option (List wire.Call)) → Pauses Is told told
pauses_none told = record { on = λ start is. is }

pub pauses_then : {Is : (before : List wire.Call) → List Want → Type 0} (a b c : Option (List wire.Call)) → Pauses Is a b → Pauses Is b c → Pauses Is a c
pauses_then a b c one two = record { on = λ start is. two.on start (one.on start is) }

pub pauses_unpaused : {Is : (before : List wire.Call) → List Want → Type 0} (a b : Option (List wire.Call)) → Unpaused a b → Pauses Is a b
pauses_unpaused {Is} a b unpaused = record {
  on = λ start told. record {
    since = λ all is.
        let made = unpaused.on all is in
        let since = told.since made.before made.was in
        since_on start made.before all made.more made.now since (pauses_stay Is since.calls made.more made.are since.is);
  };
}

-- A pause behind calls of which this is so, whatever was before.
pub pauses_adds : (Is : (before : List wire.Call) → List Want → Type 0) (start a b : Option (List wire.Call)) (wants : List Want) → Told start a (λ calls. AtEachPause Is calls × Is calls wants) → Adds a b (Pause wants) → Told start b (AtEachPause Is)
pauses_adds Is start a b wants told adds = record {
  since = λ all is.
      let added = adds all is in
      let since = told.since added.0 added.1 in
      since_on start added.0 all (Pause wants ∷ []) added.2 since (one_more Is since.calls wants since.is.1 since.is.0);
}

pub told_same : (Is : List wire.Call → Type 0) (start a b : Option (List wire.Call)) → b ≡ a → Told start a Is → Told start b Is
told_same Is start a b same told = subst (λ (t : Option (List wire.Call)). Told start t Is) (sym same) told

-- From the start itself.
pub pauses_begin : {Is : (before : List wire.Call) → List Want → Type 0} (a b : Option (List wire.Call)) → Pauses Is a b → Told a b (AtEachPause Is)
pauses_begin {Is} a b pauses = pauses.on a (told_begins a (no_pauses Is))
