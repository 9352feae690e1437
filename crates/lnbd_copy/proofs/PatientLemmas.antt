-- The pauses of a copy are counted, and there are no more than are borne.
use Rattle.std.proofs.Common.{◌≡◌, ◌||◌, ℕ, ◌+◌, ◌<◌, ◌≤◌, Bool, true, false, List, [], ◌∷◌, ◌++◌, length, filter, if◌then◌else◌, Option, None, arith, refl, ap, sym, subst, ◌∙◌, Result, Ok, Err, IfErr}
use Rattle.std.proofs.Math.Nat.{lt_of_not-le}
use Rattle.std.proofs.lemmas.Bool.{false≢true}
use Rattle.std.proofs.lemmas.List.{length-append}
use Rattle.std.proofs.lemmas.List.Elements.{filter-append}
use Rattle.std.specs.List.{list_any}
use Rattle.lnbd_link.specs.Call as wire
use Rattle.lnbd_link.specs.Count.{Rises, patience}
use Rattle.lnbd_link.specs.Part.{Adds}
use Rattle.lnbd_link.specs.declared.wires.Want.{Want}
use Rattle.lnbd_plan.specs.declared.fault.CopyFault.{CopyFault}
use Rattle.lnbd_copy.specs.Copier.{IsOnItsWay}
use Rattle.lnbd_copy.specs.Copier as copier
use Rattle.lnbd_conduct.specs.Decided.{IsDecided}
use Rattle.lnbd_conduct.specs.Grounds.{needs_no_ground}
use Rattle.lnbd_copy.specs.Patient.{HasWaited, PausesLess, StaysPatient, may_end_waiting}
use Rattle.lnbd_conduct.specs.Pauses.{PausesWithin, pauses_in}
use Rattle.lnbd_usage.specs.Pauses.{is_pause, HasNoPause}
use Rattle.lnbd_copy.specs.Pauses.{Unpaused}
use Rattle.lnbd_conduct.specs.Told.{Told}
use Rattle.lnbd_copy.proofs.CopierLemmas.{told_as}
use Rattle.lnbd_copy.proofs.DecidingLemmas.{was_decided, way_calm}
use Rattle.lnbd_copy.proofs.ReadyLemmas.{live_alive}
use Rattle.lnbd_copy.proofs.TurnLemmas.{goes_none, since_on, told_begins}

-- Among calls.

pub pauses-append : (calls more : List wire.Call) → pauses_in (calls ++ more) ≡ pauses_in calls + pauses_in more
pauses-append calls more = ap length (filter-append is_pause calls more) ∙ length-append (filter is_pause calls) (filter is_pause more)

pub no_pauses_in : (calls : List wire.Call) → HasNoPause calls → pauses_in calls ≡ 0
no_pauses_in [] none = refl
no_pauses_in (call ∷ calls) none = go (is_pause call) refl none (no_pauses_in calls)
  where
    go : (b : Bool) → is_pause call ≡ b → (is_pause call || list_any is_pause calls) ≡ false → (HasNoPause calls → pauses_in calls ≡ 0) → pauses_in (call ∷ calls) ≡ 0
    go true is none rest = absurd (false≢true (sym none ∙ ap (λ (b : Bool). b || list_any is_pause calls) is))
    go false is none rest = ap (λ (b : Bool). length (if b then call ∷ filter is_pause calls else filter is_pause calls)) is ∙ rest (sym (ap (λ (b : Bool). b || list_any is_pause calls) is) ∙ none)

-- From count to count.

waits_none : (last : Bool) (first waited waited' : ℕ) (calls more : List wire.Call) → HasNoPause more → waited ≤ waited' → HasWaited last first waited calls → HasWaited last first waited' (calls ++ more)
waits_none last first waited waited' calls more none on was =
    let same : pauses_in (calls ++ more) ≡ pauses_in calls = pauses-append calls more ∙ ap (λ (n : ℕ). pauses_in calls + n) (no_pauses_in more none) ∙ omega arith in
    record {
      counted = (let was_counted = was.counted in omega (arith, same, was_counted, on));
      within = (let was_within = was.within in omega (arith, same, was_within));
      less = λ is. (let was_less = was.less is in omega (arith, same, was_less));
    }

few_more : (pauses first waited : ℕ) → Rises pauses first waited → ¬ Rises patience first waited → pauses < patience
few_more pauses first waited counted not = lt_of_not-le (λ (most : patience ≤ pauses). not (omega (arith, counted, most)))

waits_once : (first waited waited' : ℕ) (calls : List wire.Call) (wants : List Want) → Rises 1 waited waited' → ¬ Rises patience first waited → HasWaited false first waited calls → HasWaited true first waited' (calls ++ wire.Pause wants ∷ [])
waits_once first waited waited' calls wants rises not was =
    let same : pauses_in (calls ++ wire.Pause wants ∷ []) ≡ pauses_in calls + 1 = pauses-append calls (wire.Pause wants ∷ []) in
    let was_counted = was.counted in
    let less = was.less refl in
    record { counted = omega (arith, same, was_counted, rises); within = omega (arith, same, less); less = λ is. absurd (false≢true (sym is)) }

-- Steps.

-- one without a call
pub patient_none : (last : Bool) (first waited : ℕ) (told : Option (List wire.Call)) → StaysPatient last first told waited told waited
patient_none last first waited told = record { on = λ start was. told_as start told (λ calls is. record { counted = is.counted; within = is.within; less = λ other. is.less refl }) was }

pub patient_any : (last : Bool) (first waited waited' : ℕ) (a b : Option (List wire.Call)) → StaysPatient false first a waited b waited' → StaysPatient last first a waited b waited'
patient_any last first waited waited' a b stays = record {
  on = λ start was. told_as start b (λ calls is. record { counted = is.counted; within = is.within; less = λ other. is.less refl }) (stays.on start was);
}

-- one without a pause
pub patient_unpaused : (first waited waited' : ℕ) (a b : Option (List wire.Call)) → Unpaused a b → waited ≤ waited' → StaysPatient false first a waited b waited'
patient_unpaused first waited waited' a b unpaused on = record {
  on = λ start was. record {
    since = λ all is.
        let made = unpaused.on all is in
        let since = was.since made.before made.was in
        since_on start made.before all made.more made.now since (waits_none false first waited waited' since.calls made.more made.are on since.is);
  };
}

-- a pause, where the wires waited for less than is borne
pub patient_paused : (first waited waited' : ℕ) (a b : Option (List wire.Call)) (wants : List Want) → Adds a b (wire.Pause wants) → Rises 1 waited waited' → ¬ Rises patience first waited → StaysPatient true first a waited b waited'
patient_paused first waited waited' a b wants adds rises not = record {
  on = λ start was. record {
    since = λ all is.
        let added = adds all is in
        let since = was.since added.0 added.1 in
        since_on start added.0 all (wire.Pause wants ∷ []) added.2 since (waits_once first waited waited' since.calls wants rises not since.is);
  };
}

-- They waited for less than is borne still.
pub patient_looked : (last : Bool) (first waited waited' : ℕ) (a b : Option (List wire.Call)) → ¬ Rises patience first waited' → StaysPatient last first a waited b waited' → StaysPatient false first a waited b waited'
patient_looked last first waited waited' a b not stays = record {
  on = λ start was. told_as start b (λ calls is. record { counted = is.counted; within = is.within; less = λ other. few_more (pauses_in calls) first waited' is.counted not }) (stays.on start was);
}

pub patient_then : (last : Bool) (first i j k : ℕ) (a b c : Option (List wire.Call)) → StaysPatient false first a i b j → StaysPatient last first b j c k → StaysPatient last first a i c k
patient_then last first i j k a b c one two = record { on = λ start was. two.on start (one.on start was) }

pub patient_as : (last : Bool) (first i j : ℕ) (a b b' : Option (List wire.Call)) → b' ≡ b → StaysPatient last first a i b j → StaysPatient last first a i b' j
patient_as last first i j a b b' same stays = subst (λ (t : Option (List wire.Call)). StaysPatient last first a i t j) (sym same) stays

-- It ends by silence, or for want of memory.
pub patient_gives : (why : CopyFault) (first waited waited' : ℕ) (a b : Option (List wire.Call)) → may_end_waiting why ≡ true → StaysPatient true first a waited b waited' → StaysPatient (may_end_waiting why) first a waited b waited'
patient_gives why first waited waited' a b may stays = subst (λ (last : Bool). StaysPatient last first a waited b waited') (sym may) stays

-- the count that it is measured from is the same
pub patient_at : (last : Bool) (first first' i j : ℕ) (a b : Option (List wire.Call)) → first' ≡ first → StaysPatient last first' a i b j → StaysPatient last first a i b j
patient_at last first first' i j a b same stays = subst (λ (n : ℕ). StaysPatient last n a i b j) same stays

-- behind a step without a pause
pub patient_settles : (last : Bool) (first first' i j k : ℕ) (a b c : Option (List wire.Call)) → Unpaused a b → i ≤ j → first' ≡ first → StaysPatient last first' b j c k → StaysPatient last first a i c k
patient_settles last first first' i j k a b c unpaused on same stays = patient_then last first i j k a b c (patient_unpaused first i j a b unpaused on) (patient_at last first first' j k b c same stays)

pub always_if_err : {T F : Type 0} {P : F → Type 0} (r : Result T F) → ((why : F) → P why) → IfErr r P
always_if_err (Ok value) p = tt
always_if_err (Err why) p = p why

-- From the start.

pub patient_begins : (last : Bool) (first first' waited : ℕ) (a b : Option (List wire.Call)) → first' ≡ first → StaysPatient last first' a first b waited → Told a b (HasWaited last first waited)
patient_begins last first first' waited a b same stays =
    (patient_at last first first' first waited a b same stays).on a (told_begins a (record { counted = omega arith; within = omega arith; less = λ is. omega arith }))

pub waited_on : (last : Bool) (first i j : ℕ) (start a b : Option (List wire.Call)) → Unpaused a b → i ≤ j → Told start a (HasWaited last first i) → Told start b (HasWaited last first j)
waited_on last first i j start a b unpaused on was = record {
  since = λ all is.
      let made = unpaused.on all is in
      let since = was.since made.before made.was in
      since_on start made.before all made.more made.now since (waits_none last first i j since.calls made.more made.are on since.is);
}

-- what the wires counted was looked at
pub waited_looked : (last : Bool) (first waited : ℕ) (start told : Option (List wire.Call)) → ¬ Rises patience first waited → Told start told (HasWaited last first waited) → Told start told (HasWaited false first waited)
waited_looked last first waited start told not was =
    told_as start told (λ calls is. record { counted = is.counted; within = is.within; less = λ other. few_more (pauses_in calls) first waited is.counted not }) was

pub waited_any : (last : Bool) (first waited : ℕ) (start told : Option (List wire.Call)) → Told start told (HasWaited false first waited) → Told start told (HasWaited last first waited)
waited_any last first waited start told was = told_as start told (λ calls is. record { counted = is.counted; within = is.within; less = λ other. is.less refl }) was

pub waited_as : (last : Bool) (first i j : ℕ) (start a b : Option (List wire.Call)) → b ≡ a → j ≡ i → Told start a (HasWaited last first i) → Told start b (HasWaited last first j)
waited_as last first i j start a b same count was = subst (λ (t : Option (List wire.Call)). Told start t (HasWaited last first j)) (sym same) (subst (λ (n : ℕ). Told start a (HasWaited last first n)) (sym count) was)

pub unrisen_at : (first first' waited : ℕ) → first' ≡ first → ¬ Rises patience first' waited → ¬ Rises patience first waited
unrisen_at first first' waited same not = subst (λ (n : ℕ). ¬ Rises patience n waited) same not

pub waited_within : (last : Bool) (first waited : ℕ) (start told : Option (List wire.Call)) → Told start told (HasWaited last first waited) → Told start told PausesWithin
waited_within last first waited start told was = told_as start told (λ calls is. is.within) was

pub waited_less : (last : Bool) (first waited : ℕ) (start told : Option (List wire.Call)) → last ≡ false → Told start told (HasWaited last first waited) → Told start told PausesLess
waited_less last first waited start told is_not was = told_as start told (λ calls is. is.less is_not) was

-- calls without a pause are added
pub few_stay : (Few : ℕ → Type 0) (start a b : Option (List wire.Call)) → Unpaused a b → Told start a (λ calls. Few (pauses_in calls)) → Told start b (λ calls. Few (pauses_in calls))
few_stay Few start a b unpaused told = record {
  since = λ all is.
      let made = unpaused.on all is in
      let since = told.since made.before made.was in
      let same : pauses_in (since.calls ++ made.more) ≡ pauses_in since.calls = pauses-append since.calls made.more ∙ ap (λ (n : ℕ). pauses_in since.calls + n) (no_pauses_in made.more made.are) ∙ omega arith in
      since_on start made.before all made.more made.now since (subst Few (sym same) since.is);
}

-- A copy on its way that waits no longer ends by the first event.
pub looked_decided : (copy : copier.Seen) (start told : Option (List wire.Call)) (why : CopyFault) → needs_no_ground why ≡ true → IsOnItsWay start told copy → IsDecided start told copy.options copy.from copy.to why
looked_decided copy start told why free on = record {
  on = λ other. (was_decided copy.options copy.from copy.to why start told free (way_calm copy start told told copy.board copy.held (goes_none _ _ _) (record { alive = live_alive copy.held on.may.live; well = on.well; fit = tt }) on)).on other;
}
