-- What a round spends of what may still come and go on all links.
use Rattle.std.proofs.Common.{◌≡◌, inl, inr, ◌<◌, ◌≤◌, ◌+◌, ◌||◌, ℕ, Bool, true, false, List, [], ◌∷◌, Option, Some, None, refl, sym, ◌∙◌, ap, arith}
use Rattle.std.proofs.lemmas.Bool.{false≢true}
use Rattle.std.proofs.lemmas.List.Folds.{list_any-append}
use Rattle.std.specs.List.{list_any}
use Rattle.lnbd_history.specs.Laws.{is_closed}
use Rattle.lnbd_machine.specs.Machine.{machine}
use Rattle.lnbd_bounds.specs.Budget.{budget}
use Rattle.lnbd_link.specs.Call.{Call}
use Rattle.lnbd_script.specs.declared.event.Event.{Event}
use Rattle.lnbd_script.specs.declared.place.Place.{Place}
use Rattle.lnbd_script.specs.declared.place.Place.TheVariants as place
use Rattle.lnbd_script.specs.Rounds.{Round, TakesPart}
use Rattle.lnbd_script.specs.Scenes.{Held, held_of, seen_of, unused}
use Rattle.lnbd_script.specs.Seen.{Seen}
use Rattle.lnbd_script.specs.Steps.{AreHeld, IsHeld}
use Rattle.lnbd_script.specs.Turns.{stirs}
use Rattle.lnbd_script.proofs.SpendLemmas.{left_at, stands_at, turn_spends}

-- what may still come and go on a handle that is not closed
abbrev left_if : (closed : Bool) → ℕ → ℕ
left_if true n = 0
left_if false n = n

abbrev left_on : Held → ℕ
left_on held = left_if (is_closed held.history) (budget (machine held.history))

abbrev left_of : List Held → ℕ
left_of [] = 0
left_of (held ∷ others) = left_on held + left_of others

-- the same, of the handles as they are
abbrev budget_on : Place → ℕ
budget_on place.Unused = left_on unused
budget_on (place.Open session) = budget session.handle.machine
budget_on (place.Over over) = 0

abbrev pub budget_of : List Place → ℕ
budget_of [] = 0
budget_of (p ∷ ps) = budget_on p + budget_of ps

budget_is : (held : Held) (p : Place) → IsHeld held p → budget_on p ≡ left_on held
budget_is held place.Unused at = sym (ap left_on at)
budget_is held (place.Open session) at = left_at (seen_of held session.first) session at ∙ ap (λ (c : Bool). left_if c (budget (machine held.history))) (sym at.stands.going)
budget_is held (place.Over over) at = sym (ap (λ (c : Bool). left_if c (budget (machine held.history))) at.closed)

budgets_are : (handles : List Held) (places : List Place) → AreHeld handles places → budget_of places ≡ left_of handles
budgets_are [] [] at = refl
budgets_are [] (p ∷ ps) at = absurd at
budgets_are (h ∷ hs) [] at = absurd at
budgets_are (h ∷ hs) (p ∷ ps) at =
    let one = budget_is h p at.0 in
    let rest = budgets_are hs ps at.1 in
    omega (arith, one, rest)

-- From one place to another no more is left, and less where something happened.
abbrev Less : ℕ → ℕ → Bool → Type 0
Less old new stirred = (new ≤ old) × (stirred ≡ true → new < old)

-- nothing was done
idle_spends : (held : Held) (first : Option Event) (calls : List Call) (here : Seen) → (calls ≡ []) × (here ≡ seen_of held first) → Less (left_on held) (left_on (held_of here)) (list_any stirs calls)
idle_spends held first calls here idle =
    let same = ap (λ (s : Seen). left_on (held_of s)) idle.1 in
    (omega (arith, same), λ e. absurd (false≢true (sym (ap (list_any stirs) idle.0) ∙ e)))

part_spends : (held : Held) (p : Place) (first : Option Event) (calls : List Call) (here : Seen) → IsHeld held p → (link : Option ℕ) → link ≡ held.link → TakesPart link (seen_of held first) calls here → Less (left_on held) (left_on (held_of here)) (list_any stirs calls)
part_spends held p first calls here at None is t = idle_spends held first calls here t
part_spends held place.Unused first calls here at (Some link) is t = absurd (cc (is, ap (λ (h : Held). h.link) at))
part_spends held (place.Over over) first calls here at (Some link) is t = absurd (cc (is, at.link))
part_spends held (place.Open session) first calls here at (Some link) is t =
    let s = turn_spends link (seen_of held first) here calls t (stands_at (seen_of held session.first) session at) in
    let before = ap (λ (c : Bool). left_if c (budget (machine held.history))) at.stands.going in
    let after = ap (λ (c : Bool). left_if c (budget (machine here.history))) s.standing.going in
    (omega (arith, before, after, s.later), λ e. omega (arith, before, after, s.less e))

either : (a b : Bool) (m m' n n' : ℕ) → Less m m' a → Less n n' b → (a || b) ≡ true → m' + n' < m + n
either true b m m' n n' one two h = omega (arith, one.1 refl, two.0)
either false b m m' n n' one two h = omega (arith, one.0, two.1 h)

round_spends : (handles : List Held) (places : List Place) (first : Option Event) (calls : List Call) (after : List Held) (first' : Option Event) → AreHeld handles places → Round true handles first calls after first' → Less (left_of handles) (left_of after) (list_any stirs calls)
round_spends [] places first calls after first' at r =
    let same = ap left_of r.2 in
    (omega (arith, same), λ e. absurd (false≢true (sym (ap (list_any stirs) r.1) ∙ e)))
round_spends (h ∷ hs) [] first calls after first' at r = absurd at
round_spends (h ∷ hs) (p ∷ ps) first calls after first' at (inr short) = absurd (false≢true (sym short.0))
round_spends (h ∷ hs) (p ∷ ps) first calls after first' at (inl then) =
    let one = part_spends h p first then.own then.here at.0 h.link refl then.part in
    let rest = round_spends hs ps then.here.first then.other then.there first' at.1 then.others in
    let same = ap left_of then.after_is in
    let any : list_any stirs calls ≡ (list_any stirs then.own || list_any stirs then.other) = ap (list_any stirs) then.calls_are ∙ list_any-append stirs then.own then.other in
    (omega (arith, same, one.0, rest.0), λ e. let less = either (list_any stirs then.own) (list_any stirs then.other) _ _ _ _ one rest (sym any ∙ e) in omega (arith, same, less))

pub places_spend : (handles after : List Held) (places places' : List Place) (first first' : Option Event) (calls : List Call) (stirred : Bool) → AreHeld handles places → AreHeld after places' → Round true handles first calls after first' → stirred ≡ list_any stirs calls
    → (budget_of places' ≤ budget_of places) × (stirred ≡ true → budget_of places' < budget_of places)
places_spend handles after places places' first first' calls stirred at at' r is =
    let s = round_spends handles places first calls after first' at r in
    let a = budgets_are handles places at in
    let b = budgets_are after places' at' in
    (omega (arith, a, b, s.0), λ e. omega (arith, a, b, s.1 (sym is ∙ e)))
