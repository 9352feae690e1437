-- Links are given to both sides in turn, and stay so.
use Rattle.std.proofs.Common.{◌≡◌, ◌||◌, ℕ, zero, suc, Bool, true, false, List, [], ◌∷◌, ◌++◌, map, Option, Some, None, slice_get, refl, ap, sym, ◌∙◌}
use Rattle.std.proofs.lemmas.Bool.{eq-eqb, false≢true}
use Rattle.std.proofs.lemmas.List.{append-nil}
use Rattle.lnbd_model.specs.declared.target.Target.{Target}
use Rattle.lnbd_history.specs.Events.{Event}
use Rattle.lnbd_link.specs.Call as wire
use Rattle.lnbd_link.specs.Numbers.{given_by, gives, is_given, is_number}
use Rattle.lnbd_poll.specs.Seen.{Seen}
use Rattle.lnbd_drives.specs.Driving.{with_event}
use Rattle.lnbd_board.specs.declared.ticket.Ticket.{Ticket}
use Rattle.lnbd_conduct.specs.declared.sides.Sides.{Sides}
use Rattle.lnbd_copy.specs.Driven.{HasOrder}
use Rattle.lnbd_conduct.specs.Driven.{AreInOrder, given_links, with_given}
use Rattle.lnbd_copy.specs.Way.{ArePlaced}
use Rattle.lnbd_conduct.specs.Sides.{is_source}
use Rattle.lnbd_copy.proofs.DrivenTurns.{AllBrought}

-- The links that calls gave.

given_before : (one : Option ℕ) (links more : List ℕ) → with_given one (links ++ more) ≡ with_given one links ++ more
given_before None links more = refl
given_before (Some link) links more = refl

pub given_more : (calls more : List wire.Call) → given_links (calls ++ more) ≡ given_links calls ++ given_links more
given_more [] more = refl
given_more (call ∷ calls) more = ap (with_given (given_by call)) (given_more calls more) ∙ given_before (given_by call) (given_links calls) (given_links more)

or_true : (a b : Bool) → a ≡ true → (a || b) ≡ true
or_true true b e = refl
or_true false b e = absurd (false≢true e)

none_given : (calls : List wire.Call) → ((link : ℕ) → is_given link calls ≡ false) → given_links calls ≡ []
none_given [] none = refl
none_given (call ∷ calls) none = go (none_given calls (λ link. others (gives link call) (is_given link calls) (none link))) (given_by call) refl
  where
    others : (a b : Bool) → (a || b) ≡ false → b ≡ false
    others true b e = absurd (false≢true (sym e))
    others false b e = e

    go : given_links calls ≡ [] → (o : Option ℕ) → given_by call ≡ o → with_given (given_by call) (given_links calls) ≡ []
    go later None is = ap (λ (g : Option ℕ). with_given g (given_links calls)) is ∙ later
    go later (Some link) is =
        absurd (false≢true (sym (none link) ∙ or_true (gives link call) (is_given link calls) (ap (λ (g : Option ℕ). is_number link g) is ∙ eq-eqb link link refl)))

pub same_given : (calls more : List wire.Call) → ((link : ℕ) → is_given link more ≡ false) → given_links (calls ++ more) ≡ given_links calls
same_given calls more none = given_more calls more ∙ ap (λ (l : List ℕ). given_links calls ++ l) (none_given more none) ∙ append-nil (given_links calls)

pub order_later : (side has : ℕ → Bool) (calls more : List wire.Call) → ((link : ℕ) → is_given link more ≡ false) → AreInOrder side has calls → AreInOrder side has (calls ++ more)
order_later side has calls more none order = record { each = λ index link there. order.each index link (sym (ap (λ (l : List ℕ). slice_get l index) (same_given calls more none)) ∙ there) }

-- Handles.

abbrev links : List (Seen Ticket) → List ℕ
links seens = map (λ (seen : Seen Ticket). seen.link) seens

event_links : (index : ℕ) (event : Event Ticket) (seens : List (Seen Ticket)) → links (with_event index event seens) ≡ links seens
event_links index event [] = refl
event_links zero event (seen ∷ others) = refl
event_links (suc index) event (seen ∷ others) = ap (λ (l : List ℕ). seen.link ∷ l) (event_links index event others)

brought_links : (before after : List (Seen Ticket)) → AllBrought before after → links after ≡ links before
brought_links [] [] all = refl
brought_links [] (here ∷ there) all = absurd all
brought_links (seen ∷ others) [] all = absurd all
brought_links (seen ∷ others) (here ∷ there) all = ap (λ (n : ℕ). n ∷ links there) all.0.link ∙ ap (λ (l : List ℕ). seen.link ∷ l) (brought_links others there all.1)

last_links : (seens : List (Seen Ticket)) (last : Seen Ticket) → links (seens ++ last ∷ []) ≡ links seens ++ last.link ∷ []
last_links [] last = refl
last_links (seen ∷ others) last = ap (λ (l : List ℕ). seen.link ∷ l) (last_links others last)

-- the handle of a link
record HasLink (index link : ℕ) (seens : List (Seen Ticket)) : Type 0 where
  seen : Seen Ticket
  there : slice_get seens index ≡ Some seen
  is : seen.link ≡ link

none_some : (link : ℕ) → None ≡ Some link → ⊥
none_some link e = cc

some_same : (one other : ℕ) → Some one ≡ Some other → one ≡ other
some_same one other e = cc

has_link : (index link : ℕ) (seens : List (Seen Ticket)) → slice_get (links seens) index ≡ Some link → HasLink index link seens
has_link index link [] there = absurd (none_some link there)
has_link zero link (seen ∷ others) there = record { seen = seen; there = refl; is = some_same seen.link link there }
has_link (suc index) link (seen ∷ others) there = let rest = has_link index link others there in record { seen = rest.seen; there = rest.there; is = rest.is }

-- Between two turns.

pub in_order : (parting : Bool) (sides : Sides) (has : ℕ → Bool) (calls : List wire.Call) (seens : List (Seen Ticket)) → ArePlaced parting sides has seens → HasOrder parting (is_source sides) has calls seens → AreInOrder (is_source sides) has calls
in_order true sides has calls seens sided order = order
in_order false sides has calls seens sided order = record {
  each = λ index link there.
      let one = has_link index link seens (sym (ap (λ (l : List ℕ). slice_get l index) order) ∙ there) in
      ap has (sym one.is) ∙ sided index one.seen one.there;
}

module _ (side has : ℕ → Bool) (calls : List wire.Call) where
  same_order : (parting : Bool) (seens seens' : List (Seen Ticket)) → links seens' ≡ links seens → HasOrder parting side has calls seens → HasOrder parting side has calls seens'
  same_order true seens seens' same order = order
  same_order false seens seens' same order = order ∙ sym same

  pub ordered_event : (parting : Bool) (index : ℕ) (event : Event Ticket) (seens : List (Seen Ticket)) → HasOrder parting side has calls seens → HasOrder parting side has calls (with_event index event seens)
  ordered_event parting index event seens order = same_order parting seens (with_event index event seens) (event_links index event seens) order

  pub ordered_called : (parting : Bool) (more : List wire.Call) (seens : List (Seen Ticket)) → ((link : ℕ) → is_given link more ≡ false) → HasOrder parting side has calls seens → HasOrder parting side has (calls ++ more) seens
  ordered_called true more seens none order = order_later side has calls more none order
  ordered_called false more seens none order = same_given calls more none ∙ order

pub ordered_turned : (side has : ℕ → Bool) (calls part : List wire.Call) (parting : Bool) (before after : List (Seen Ticket)) → AllBrought before after → ((link : ℕ) → is_given link part ≡ false) → HasOrder parting side has calls before → HasOrder parting side has (calls ++ part) after
ordered_turned side has calls part parting before after all none order =
    same_order side has (calls ++ part) parting before after (brought_links before after all) (ordered_called side has calls parting part before none order)

-- One link more was made, and a handle begins on it.
pub ordered_dialed : (side has has' : ℕ → Bool) (calls : List wire.Call) (to : Target) (seens : List (Seen Ticket)) (last : Seen Ticket) → HasOrder false side has calls seens → HasOrder false side has' (calls ++ wire.Connect to (Some last.link) ∷ []) (seens ++ last ∷ [])
ordered_dialed side has has' calls to seens last order =
    given_more calls (wire.Connect to (Some last.link) ∷ []) ∙ ap (λ (l : List ℕ). l ++ last.link ∷ []) order ∙ sym (last_links seens last)
