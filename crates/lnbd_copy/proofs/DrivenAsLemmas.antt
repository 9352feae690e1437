-- A copy drives its links as its options and both sides say, whatever it comes to.
use Rattle.std.proofs.Common.{◌≡◌, ◌⊎◌, ◌≤◌, ◌+◌, ◌&&◌, inl, inr, ℕ, Bool, true, false, List, [], ◌∷◌, ◌++◌, length, length-append, Option, Some, None, refl, ap, sym, subst, ◌∙◌, arith}
use Rattle.std.proofs.lemmas.Bool.{false≢true}
use Rattle.std.specs.List.{list_any}
use Rattle.lnbd_link.specs.Call as wire
use Rattle.lnbd_link.specs.Numbers.{is_given}
use Rattle.lnbd_model.specs.declared.target.Place.{Place}
use Rattle.lnbd_model.specs.declared.target.Target.{Target}
use Rattle.lnbd_plan.specs.declared.options.CopyOptions.{CopyOptions}
use Rattle.lnbd_poll.specs.Held.{Held}
use Rattle.lnbd_board.specs.declared.how.How.{How}
use Rattle.lnbd_board.specs.declared.ticket.Ticket.{Ticket}
use Rattle.lnbd_conduct.specs.declared.sides.Sides.{Sides}
use Rattle.lnbd_conduct.specs.declared.terms.Terms.{Terms}
use Rattle.lnbd_conduct.specs.Connects.{one_each, AreDrivenBy}
use Rattle.lnbd_copy.specs.Copier.{HasMet, IsOnItsWay, Seen}
use Rattle.lnbd_conduct.specs.Driven.{AreDrivenTo, given_links}
use Rattle.lnbd_copy.specs.Driving.{DrivesOn}
use Rattle.lnbd_copy.specs.Faults.{GoesIdly}
use Rattle.lnbd_copy.specs.Job as work
use Rattle.lnbd_copy.specs.Lasting.{Lasts}
use Rattle.lnbd_copy.specs.Links.{LinksGoTo, LinksStand}
use Rattle.lnbd_conduct.specs.Links.{ConnectTo}
use Rattle.lnbd_usage.specs.Links.{serves, targets}
use Rattle.lnbd_copy.specs.Settled.{HasTerms}
use Rattle.lnbd_conduct.specs.Settled.{IsToldFirst}
use Rattle.lnbd_conduct.specs.Terms as both
use Rattle.lnbd_conduct.specs.Told.{Told}
use Rattle.lnbd_conduct.specs.Sides.{is_source}
use Rattle.lnbd_copy.proofs.AlwaysLemmas.{some_longer}
use Rattle.lnbd_copy.proofs.CopierLemmas.{with_held}
use Rattle.lnbd_copy.proofs.DrivingLemmas.{driven_stays}
use Rattle.lnbd_copy.proofs.EndLemmas.{with_all}
use Rattle.lnbd_copy.proofs.IdleLemmas.{StaysIdly, told_idly}
use Rattle.lnbd_copy.proofs.LastLemmas.{terms_later}
use Rattle.lnbd_copy.proofs.LinkLemmas.{links_begin}
use Rattle.lnbd_copy.proofs.OrderLemmas.{same_given}
use Rattle.lnbd_copy.proofs.SettledLemmas.{first_with, told_both}
use Rattle.lnbd_copy.proofs.TurnLemmas.{told_begins, told_map}

-- Calls that read and write no link, and give none.

told_longer : (options : CopyOptions) (from to : Place) (sides : Sides) (calls more : List wire.Call) → ((link : ℕ) → is_given link more ≡ false) →
    (length (given_links calls) ≤ 2) ⊎ IsToldFirst options.extents from to (λ source destination. sides ≡ both.sides_by options source destination) calls →
    (length (given_links (calls ++ more)) ≤ 2) ⊎ IsToldFirst options.extents from to (λ source destination. sides ≡ both.sides_by options source destination) (calls ++ more)
told_longer options from to sides calls more none (inl few) = inl (subst (λ (l : List ℕ). length l ≤ 2) (sym (same_given calls more none)) few)
told_longer options from to sides calls more none (inr told) = inr (record { source = told.source; destination = told.destination; shown = some_longer calls more told.shown; shown' = some_longer calls more told.shown'; none = told.none; is = told.is })

pub wanted_longer : (options : CopyOptions) (from to : Place) (flush : Bool) (calls more : List wire.Call) → (flush ≡ true) ⊎ IsToldFirst options.extents from to (λ source destination. flush ≡ (options.flush && both.takes_flush destination)) calls →
    (flush ≡ true) ⊎ IsToldFirst options.extents from to (λ source destination. flush ≡ (options.flush && both.takes_flush destination)) (calls ++ more)
wanted_longer options from to flush calls more (inl is) = inl is
wanted_longer options from to flush calls more (inr told) = inr (record { source = told.source; destination = told.destination; shown = some_longer calls more told.shown; shown' = some_longer calls more told.shown'; none = told.none; is = told.is })

by_stays : (options : CopyOptions) (from to : Place) → StaysIdly (AreDrivenBy options from to)
by_stays options from to calls more quiet none d = record {
  sides = d.sides;
  many = told_longer options from to d.sides calls more none d.many;
  flush = d.flush;
  wanted = wanted_longer options from to d.flush calls more d.wanted;
  are = driven_stays (is_source d.sides) options.extents options.destination_is_zero d.flush from to calls more quiet none d.are;
}

pub driven_idly : (options : CopyOptions) (from to : Place) (start a b : Option (List wire.Call)) → GoesIdly a b → Told start a (AreDrivenBy options from to) → Told start b (AreDrivenBy options from to)
driven_idly options from to start a b idly told = told_idly (AreDrivenBy options from to) start a b (by_stays options from to) idly told

-- Two connections at most.

-- no more links were given than addresses connected to
few_given : (calls : List wire.Call) → list_any serves calls ≡ false → length (given_links calls) ≤ length (targets calls)
few_given [] none = omega arith
few_given (wire.Connect to (Some link) ∷ calls) none = let rest = few_given calls none in omega (arith, rest)
few_given (wire.Connect to None ∷ calls) none = let rest = few_given calls none in omega (arith, rest)
few_given (wire.Listen at listener ∷ calls) none = absurd (false≢true (sym none))
few_given (wire.Accept listener answer ∷ calls) none = absurd (false≢true (sym none))
few_given (wire.Read link room answer ∷ calls) none = few_given calls none
few_given (wire.Write link offered answer ∷ calls) none = few_given calls none
few_given (wire.Pause wants ∷ calls) none = few_given calls none
few_given (wire.Shut link ∷ calls) none = few_given calls none

pub first_driven : (options : CopyOptions) (from to : Place) (held held' : List (Held Ticket)) (a b : Option (List wire.Call)) → held ≡ [] → LinksGoTo (from.to ∷ to.to ∷ []) held a held' b → Told a b (AreDrivenTo (is_source one_each) options.extents options.destination_is_zero true from to) → Told a b (AreDrivenBy options from to)
first_driven options from to held held' a b empty links told =
    told_map a b (λ calls all. record { sides = one_each; many = inl (few calls all.0 all.1.0); flush = true; wanted = inl refl; are = all.1.1 })
    (told_both a b (links.go.on a (links_begin held a empty)) (told_both a b (links.go.connects a [] (told_begins a refl)) told))
  where
    few : (calls : List wire.Call) → LinksStand held' calls → ConnectTo links.to calls → length (given_links calls) ≤ 2
    few calls stand is =
        let less = few_given calls stand.none in
        let same : length (targets calls) ≡ length links.to = ap (λ (l : List Target). length l) is in
        let whole : 2 ≡ length links.to + length links.others = ap (λ (l : List Target). length l) links.are ∙ length-append links.to links.others in
        omega (arith, less, same, whole)

-- As both sides told.

told_driven : (options : CopyOptions) (from to : Place) (start told : Option (List wire.Call)) (sides : Sides) (flush : Bool) (terms : Terms) → (s : HasTerms options from to start told terms) → sides ≡ terms.sides → (flush ≡ true) ⊎ (flush ≡ terms.flush) →
    Told start told (AreDrivenTo (is_source sides) options.extents options.destination_is_zero flush from to) → Told start told (AreDrivenBy options from to)
told_driven options from to start told sides flush terms s same wants is =
    told_map start told (λ calls all. record {
      sides = sides;
      many = inr (record { source = all.source; destination = all.destination; shown = all.shown; shown' = all.shown'; none = all.none; is = all.is.1 });
      flush = flush;
      wanted = elim all.is.2 [
        | inl is ↦ inl is
        | inr so ↦ inr (record { source = all.source; destination = all.destination; shown = all.shown; shown' = all.shown'; none = all.none; is = so })
      ];
      are = all.is.0;
    })
    (first_with (λ source destination calls. AreDrivenTo (is_source sides) options.extents options.destination_is_zero flush from to calls × (sides ≡ both.sides_by options source destination) × ((flush ≡ true) ⊎ (flush ≡ (options.flush && both.takes_flush destination)))) options from to start told terms s
    (told_map start told (λ calls one. (one, same ∙ s.settled.sides, as_told wants)) is))
  where
    as_told : (flush ≡ true) ⊎ (flush ≡ terms.flush) → (flush ≡ true) ⊎ (flush ≡ (options.flush && both.takes_flush s.destination))
    as_told (inl is) = inl is
    as_told (inr same) = inr (same ∙ s.settled.flush)

-- Further connections are made behind those that met.
pub met_driven : (copy mid : Seen) (t u v : Option (List wire.Call)) (terms : Terms) → mid ≡ with_held copy mid → HasMet mid t u terms → Lasts u v → Told t v (AreDrivenTo (is_source terms.sides) mid.options.extents mid.options.destination_is_zero true mid.from mid.to) → Told t v (AreDrivenBy copy.options copy.from copy.to)
met_driven copy mid t u v terms kept met lasts told =
    subst (λ (s : Seen). Told t v (AreDrivenBy s.options s.from s.to)) kept
    (told_driven mid.options mid.from mid.to t v terms.sides true terms (terms_later mid.options mid.from mid.to t u v terms lasts met.settled) refl (inl refl) told)

-- A copy on its way.
pub way_driven : (copy : Seen) (start a b : Option (List wire.Call)) → DrivesOn copy.board copy.held a b → IsOnItsWay start a copy → Told start b (AreDrivenBy copy.options copy.from copy.to)
way_driven copy start a b drives on =
    told_driven copy.options copy.from copy.to start b on.way.sides on.way.flush on.job.terms (terms_later copy.options copy.from copy.to start a b on.job.terms (drives.lasts on.stand) on.settled.first) on.is.sides (inr on.is.wants)
    (subst (λ (k : Bool). Told start b (AreDrivenTo (is_source on.way.sides) copy.options.extents k on.way.flush copy.from copy.to)) (ap (λ (h : How). h.skip) on.is.how ∙ on.wished.skip)
    (subst (λ (e : Bool). Told start b (AreDrivenTo (is_source on.way.sides) e on.way.how.skip on.way.flush copy.from copy.to)) on.extents
    (subst (λ (t : Place). Told start b (AreDrivenTo (is_source on.way.sides) on.way.extents on.way.how.skip on.way.flush copy.from t)) on.to
    (subst (λ (f : Place). Told start b (AreDrivenTo (is_source on.way.sides) on.way.extents on.way.how.skip on.way.flush f on.way.to)) on.from (drives.on (work.is_parting on.job.phase) on.way start on.stand on.on)))))

-- the exports and the options are the same
pub driven_as : (copy now : Seen) (start told : Option (List wire.Call)) → now ≡ with_all copy now → Told start told (AreDrivenBy now.options now.from now.to) → Told start told (AreDrivenBy copy.options copy.from copy.to)
driven_as copy now start told kept driven = subst (λ (s : Seen). Told start told (AreDrivenBy s.options s.from s.to)) kept driven
