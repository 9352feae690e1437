-- What calls that read and write no link leave of what was asked.
use Rattle.std.proofs.Common.{◌≡◌, ◌⊎◌, inl, inr, ℕ, Bool, true, false, ◌||◌, List, [], ◌∷◌, ◌++◌, Option, Some, None, refl, ap, sym, subst, ◌∙◌, ◌&&◌, if◌then◌else◌}
use Rattle.std.proofs.lemmas.Bool.{cases_eq, false≢true}
use Rattle.lnbd_model.specs.declared.target.Place.{Place}
use Rattle.lnbd_model.specs.declared.target.Target.{Target}
use Rattle.lnbd_link.specs.Call as wire
use Rattle.lnbd_link.specs.Numbers.{is_given}
use Rattle.lnbd_link.specs.Traffic.{target_of}
use Rattle.lnbd_link.proofs.Openings.{is_given-append}
use Rattle.lnbd_outcome.specs.Outcome.{Unfinished}
use Rattle.lnbd_asked.specs.Link.{Link}
use Rattle.lnbd_asked.specs.Transcript.{Dealt, answered, asked_on, dealt_with, is_name, is_target, name_asked, only_if, size_told, told_zero}
use Rattle.lnbd_poll.specs.Alone.{calls_on}
use Rattle.lnbd_drives.proofs.Passing.{both_off, said_stays}
use Rattle.lnbd_course.specs.Asks.{AreOwnLinks, HasAskedOnce}
use Rattle.lnbd_course.specs.Parts.{AsksAtMostOnce, NothingWasAsked}
use Rattle.lnbd_course.proofs.Address.{given_stays, new_none, or_else, target_more, target_new, target_stays}
use Rattle.lnbd_course.proofs.Holding.{not_before}

-- what was dealt with a place, by where each link was connected to and what is known of it
abbrev dealt_by : Place → (ℕ → Option Target) → (ℕ → Link) → Dealt
dealt_by place target link_ = record {
  asked = λ link cookie. only_if (is_target place.to (target link) && is_name place.name (name_asked (link_ link).wishes)) (asked_on (link_ link) cookie);
  outcome = λ link cookie. if is_target place.to (target link) && is_name place.name (name_asked (link_ link).wishes) then answered (link_ link) cookie else Unfinished;
  zero = λ link cookie p. (is_target place.to (target link) && is_name place.name (name_asked (link_ link).wishes)) && told_zero (link_ link) cookie p;
  size = λ link. only_if (is_target place.to (target link) && is_name place.name (name_asked (link_ link).wishes)) (size_told (link_ link));
}

-- Calls that neither read nor write a link.

pub nothing_stays : (calls more : List wire.Call) → ((link : ℕ) → calls_on link more ≡ []) → NothingWasAsked calls → NothingWasAsked (calls ++ more)
nothing_stays calls more quiet none link cookie = ap (λ (l : Link). asked_on l cookie) (said_stays link calls more (quiet link)) ∙ none link cookie

-- and that make none
module _ (calls more : List wire.Call) (quiet : (link : ℕ) → calls_on link more ≡ []) (none : (link : ℕ) → is_given link more ≡ false) where
  pub dealt_stays : (place : Place) → dealt_with place (calls ++ more) ≡ dealt_with place calls
  dealt_stays place = λ i. dealt_by place (λ link. target_stays link calls more (none link) i) (λ link. said_stays link calls more (quiet link) i)

  pub links_stay : (from to : Place) → AreOwnLinks from to calls → AreOwnLinks from to (calls ++ more)
  links_stay from to own = record {
    connected = λ link given.
        subst (λ (t : Option Target). (t ≡ Some from.to) ⊎ (t ≡ Some to.to)) (sym (target_stays link calls more (none link))) (own.connected link (sym (given_stays link calls more (none link)) ∙ given));
    used = λ link free. both_off link calls more (own.used link (not_before link calls more free)) (quiet link);
  }

  once_stays : (allocated skip : Bool) (from to : Place) → HasAskedOnce allocated skip from to calls → HasAskedOnce allocated skip from to (calls ++ more)
  once_stays allocated skip from to once =
      let same = dealt_stays from in
      let same' = dealt_stays to in
      record {
        links = links_stay from to once.links;
        size = once.size;
        told = rw same once.told;
        asked = rw same (rw same' once.asked);
      }

  pub at_most_stays : (allocated skip : Bool) (from to : Place) → AsksAtMostOnce allocated skip from to calls → AsksAtMostOnce allocated skip from to (calls ++ more)
  at_most_stays allocated skip from to a = record {
    links = links_stay from to a.links;
    asked = elim a.asked [
      | inl nothing ↦ inl (nothing_stays calls more quiet nothing)
      | inr once ↦ inr (once_stays allocated skip from to once)
    ];
  }

-- A link more to one of both places, or one that was refused.

goes_there : (from to : Place) (at : Target) → (at ≡ from.to) ⊎ (at ≡ to.to) → (Some at ≡ Some from.to) ⊎ (Some at ≡ Some to.to)
goes_there from to at (inl is) = inl (ap (λ (t : Target). Some t) is)
goes_there from to at (inr is) = inr (ap (λ (t : Target). Some t) is)

first_stays : (o : Option Target) (x : Target) (other : Option Target) → o ≡ Some x → or_else o other ≡ Some x
first_stays o x other is = ap (λ (t : Option Target). or_else t other) is

module _ (from to : Place) (at : Target) (there : (at ≡ from.to) ⊎ (at ≡ to.to)) (calls : List wire.Call) (own : AreOwnLinks from to calls) where
  refused_own : AreOwnLinks from to (calls ++ wire.Connect at None ∷ [])
  refused_own = links_stay calls (wire.Connect at None ∷ []) (λ link. refl) (λ link. refl) from to own

  abbrev with_link : ℕ → List wire.Call
  with_link number = calls ++ wire.Connect at (Some number) ∷ []

  connected_own : (number : ℕ) → AreOwnLinks from to (calls ++ wire.Connect at (Some number) ∷ [])
  connected_own number = record {
    connected = λ link given. was link given (is_given link calls) refl;
    used = λ link free. both_off link calls (wire.Connect at (Some number) ∷ []) (own.used link (not_before link calls (wire.Connect at (Some number) ∷ []) free)) refl;
  }
    where
      first : (link : ℕ) → (target_of link calls ≡ Some from.to) ⊎ (target_of link calls ≡ Some to.to) → (target_of link (with_link number) ≡ Some from.to) ⊎ (target_of link (with_link number) ≡ Some to.to)
      first link (inl is) = inl (target_more link calls (wire.Connect at (Some number) ∷ []) ∙ first_stays (target_of link calls) from.to (target_of link (wire.Connect at (Some number) ∷ [])) is)
      first link (inr is) = inr (target_more link calls (wire.Connect at (Some number) ∷ []) ∙ first_stays (target_of link calls) to.to (target_of link (wire.Connect at (Some number) ∷ [])) is)

      was : (link : ℕ) → is_given link (with_link number) ≡ true → (before : Bool) → is_given link calls ≡ before → (target_of link (with_link number) ≡ Some from.to) ⊎ (target_of link (with_link number) ≡ Some to.to)
      was link given true is = first link (own.connected link is)
      was link given false is = new (cases_eq number link)
        where
          new : (number ≡ link) ⊎ (number ≡ link → ⊥) → (target_of link (with_link number) ≡ Some from.to) ⊎ (target_of link (with_link number) ≡ Some to.to)
          new (inl same) =
              let here : target_of number (with_link number) ≡ Some at = target_new number calls at (ap (λ (n : ℕ). is_given n calls) same ∙ is) in
              subst (λ (n : ℕ). (target_of n (with_link number) ≡ Some from.to) ⊎ (target_of n (with_link number) ≡ Some to.to)) same
              (subst (λ (t : Option Target). (t ≡ Some from.to) ⊎ (t ≡ Some to.to)) (sym here) (goes_there from to at there))
          new (inr differ) = absurd (false≢true (sym (is_given-append link calls (wire.Connect at (Some number) ∷ []) ∙ ap (λ (b : Bool). b || is_given link (wire.Connect at (Some number) ∷ [])) is ∙ new_none number link at differ) ∙ given))

  pub connects_own : (given : Option ℕ) → AreOwnLinks from to (calls ++ wire.Connect at given ∷ [])
  connects_own None = refused_own
  connects_own (Some number) = connected_own number
