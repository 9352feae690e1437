-- What the handles of an export's links track is what was dealt with the export.
use Rattle.std.proofs.Common.{◌≡◌, ℕ, Bool, true, false, ◌&&◌, List, [], ◌∷◌, ◌++◌, cond, Option, Some, None, refl, ap, sym, subst, ◌∙◌, ◌==◌, inl, inr, nat_le, if◌then◌else◌}
use Rattle.std.specs.Option.{option_map}
use Rattle.lnbd_model.specs.declared.target.Place.{Place}
use Rattle.lnbd_link.specs.Call.{Call}
use Rattle.lnbd_history.specs.Commands.{Command}
use Rattle.lnbd_history.specs.Commands as commands
use Rattle.lnbd_history.specs.History as history_of
use Rattle.lnbd_outcome.specs.Outcome.{Unfinished}
use Rattle.lnbd_asked.specs.Driven.{outcome_after, written}
use Rattle.lnbd_asked.specs.Link.{Nobody}
use Rattle.lnbd_asked.specs.Transcript.{is_of, on_link, asked_on, answered, bare, only_if, dealt_with}
use Rattle.lnbd_board.specs.declared.ticket.Ticket.{Ticket}
use Rattle.lnbd_board.specs.Requests.{Said, Request, request, IsIn, Under}
use Rattle.lnbd_tracks.specs.Dealing.{AreOf, TrackedAreDealt}
use Rattle.lnbd_tracks.specs.Tracks.{Histories, AllTrack, under, request_of}
use Rattle.lnbd_tracks.proofs.Under.{same_key, found}

pub in_under : (r : Request) (xs : List Request) → IsIn r xs → IsIn r (under r.link r.cookie xs)
in_under r [] h = h
in_under r (x ∷ xs) (inl e) = subst (λ (k : Bool). IsIn r (cond k (x ∷ under r.link r.cookie xs) (under r.link r.cookie xs))) (sym there) (inl e)
  where
    there : ((x.link == r.link) && (x.cookie == r.cookie)) ≡ true
    there = ap (λ (y : Request). (y.link == r.link) && (y.cookie == r.cookie)) e ∙ same_key r.link r.cookie
in_under r (x ∷ xs) (inr h) =
    let more = in_under r xs h in
    elim ((x.link == r.link) && (x.cookie == r.cookie)) as (λ b. IsIn r (cond b (x ∷ under r.link r.cookie xs) (under r.link r.cookie xs))) [ true ↦ inr more | false ↦ more ]

pub in_middle : (r : Request) (front back : List Request) → IsIn r (front ++ r ∷ back)
in_middle r [] back = inl refl
in_middle r (x ∷ front) back = inr (in_middle r front back)

module _ (place : Place) (calls : List Call) (histories : Histories) (requests : List Request) (all : AllTrack histories requests) (are : AreOf place calls histories) where
  -- what the history of a link says of a cookie
  abbrev said : (link cookie : ℕ) → commands.Request Ticket → Said
  said link cookie q = record { command = bare q; outcome = outcome_after (histories link) cookie }

  -- A command is asked on a link of the export.
  is_of_it : (link cookie : ℕ) (q : commands.Request Ticket) → history_of.request (histories link) cookie ≡ Some q → is_of place calls link ≡ true
  is_of_it link cookie q is = go (is_of place calls link) refl
    where
      go : (b : Bool) → is_of place calls link ≡ b → is_of place calls link ≡ true
      go true e = e
      go false e = let bad : None ≡ Some q = sym (are.others link cookie e) ∙ is in absurd (cc)

  asked_so : (link cookie : ℕ) (q : commands.Request Ticket) → history_of.request (histories link) cookie ≡ Some q → (dealt_with place calls).asked link cookie ≡ Some (bare q)
  asked_so link cookie q is =
      let of = is_of_it link cookie q is in
      ap (λ (b : Bool). only_if b (asked_on (on_link link calls) cookie)) of
      ∙ (are.says link of).requests cookie
      ∙ ap (λ (b : Bool). if b then option_map bare (history_of.request (histories link) cookie) else None) (are.whole link cookie q is)
      ∙ ap (λ (a : Option (commands.Request Ticket)). option_map bare a) is

  came_so : (link cookie : ℕ) (q : commands.Request Ticket) → history_of.request (histories link) cookie ≡ Some q → (dealt_with place calls).outcome link cookie ≡ outcome_after (histories link) cookie
  came_so link cookie q is =
      let of = is_of_it link cookie q is in
      ap (λ (b : Bool). if b then answered (on_link link calls) cookie else Unfinished) of ∙ (are.says link of).outcomes cookie (are.whole link cookie q is)

  shown : (r : Request) → IsIn r requests → ((dealt_with place calls).asked r.link r.cookie ≡ Some r.said.command) × ((dealt_with place calls).outcome r.link r.cookie ≡ r.said.outcome)
  shown r h = go (history_of.request (histories r.link) r.cookie) refl (subst (λ l. IsIn r l) ((all r.link).each r.cookie) (in_under r requests h))
    where
      go : (a : Option (commands.Request Ticket)) → history_of.request (histories r.link) r.cookie ≡ a → IsIn r (request_of r.link r.cookie a (outcome_after (histories r.link) r.cookie)) →
          ((dealt_with place calls).asked r.link r.cookie ≡ Some r.said.command) × ((dealt_with place calls).outcome r.link r.cookie ≡ r.said.outcome)
      go None is none = absurd none
      go (Some q) is (inr none) = absurd none
      go (Some q) is (inl e) = (asked_so r.link r.cookie q is ∙ ap (λ (x : Request). Some x.said.command) e, came_so r.link r.cookie q is ∙ ap (λ (x : Request). x.said.outcome) e)

  only : (link cookie : ℕ) (command : Command Nobody) → (dealt_with place calls).asked link cookie ≡ Some command → Under link cookie command requests
  only link cookie command e = on (is_of place calls link) refl e
    where
      asked_by : (a : Option (commands.Request Ticket)) → history_of.request (histories link) cookie ≡ a → option_map bare a ≡ Some command → Under link cookie command requests
      asked_by None is k = absurd (cc)
      asked_by (Some q) is k =
          let r : Request = request link cookie q.flight.done.callback (said link cookie q) in
          let there = found link cookie r requests ((all link).each cookie ∙ ap (λ (a : Option (commands.Request Ticket)). request_of link cookie a (outcome_after (histories link) cookie)) is) in
          record { request = r; within = subst (λ l. IsIn r l) (sym there.is) (in_middle r there.front there.back); on = refl; by = refl; asks = cc }

      whole : (b : Bool) → (if b then option_map bare (history_of.request (histories link) cookie) else None) ≡ Some command → Under link cookie command requests
      whole true k = asked_by (history_of.request (histories link) cookie) refl k
      whole false k = absurd (cc)

      on : (b : Bool) → is_of place calls link ≡ b → only_if b (asked_on (on_link link calls) cookie) ≡ Some command → Under link cookie command requests
      on true of k = whole (nat_le cookie (written (histories link))) (sym ((are.says link of).requests cookie) ∙ k)
      on false of k = absurd (cc)

pub tracked_are_dealt : TrackedAreDealt
tracked_are_dealt place calls histories requests all are = record { shown = shown place calls histories requests all are; only = only place calls histories requests all are }
