-- What stands of the positions that count as heard goes on standing, and so does the first connection.
use Rattle.std.proofs.Common.{◌≡◌, ◌||◌, inl, inr, ℕ, Bool, true, false, List, [], ◌∷◌, ◌++◌, length, Option, Some, None, slice_get, refl, ap, sym, ◌∙◌}
use Rattle.std.proofs.lemmas.Bool.{eq-eqb, false≢true}
use Rattle.std.proofs.lemmas.List.{append_assoc}
use Rattle.lnbd_model.specs.declared.target.Place.{Place}
use Rattle.lnbd_model.specs.declared.target.Target.{Target}
use Rattle.lnbd_link.specs.Call as wire
use Rattle.lnbd_link.specs.Numbers.{given_by, gives, is_given, is_number}
use Rattle.lnbd_poll.specs.Seen.{Seen}
use Rattle.lnbd_board.specs.declared.ticket.Ticket.{Ticket}
use Rattle.lnbd_course.specs.Passed.{WasFirst}
use Rattle.lnbd_course.specs.Reached.{WasTold}
use Rattle.lnbd_course.proofs.Answering.{answers_stay}
use Rattle.lnbd_conduct.specs.Begun.{BeganAs, opened}
use Rattle.lnbd_copy.specs.Statuses.{Hears, IsFirst, first_held}
use Rattle.lnbd_conduct.specs.Answered.{FirstAgreedNone, MayBeRead, WasPassed, WasSoFirst, first_given, or_later}
use Rattle.lnbd_copy.proofs.BegunLemmas.{FirstGoes, began_stays, last_began, link_stays}

-- The first number that calls gave.

-- Worked values: a link that was refused is passed over, and what is given later is of no matter.

first_of_two : (to : Target) → first_given (wire.Connect to None ∷ wire.Connect to (Some 3) ∷ wire.Connect to (Some 5) ∷ []) ≡ Some 3
first_of_two to = refl

or_later_then : (one two three : Option ℕ) → or_later (or_later one two) three ≡ or_later one (or_later two three)
or_later_then None two three = refl
or_later_then (Some link) two three = refl

pub or_later_none : (one : Option ℕ) → or_later one None ≡ one
or_later_none None = refl
or_later_none (Some link) = refl

pub given_then : (calls more : List wire.Call) → first_given (calls ++ more) ≡ or_later (first_given calls) (first_given more)
given_then [] more = refl
given_then (call ∷ calls) more = ap (or_later (given_by call)) (given_then calls more) ∙ sym (or_later_then (given_by call) (first_given calls) (first_given more))

or_true : (a b : Bool) → a ≡ true → (a || b) ≡ true
or_true true b e = refl
or_true false b e = absurd (false≢true e)

itself : (n : ℕ) → is_number n (Some n) ≡ true
itself n = eq-eqb n n refl

-- calls that give no number give no first one
pub none_given : (calls : List wire.Call) → ((link : ℕ) → is_given link calls ≡ false) → first_given calls ≡ None
none_given [] none = refl
none_given (call ∷ calls) none = go (none_given calls (λ link. others (gives link call) (is_given link calls) (none link))) (given_by call) refl
  where
    others : (a b : Bool) → (a || b) ≡ false → b ≡ false
    others true b e = absurd (false≢true (sym e))
    others false b e = e

    go : first_given calls ≡ None → (o : Option ℕ) → given_by call ≡ o → or_later (given_by call) (first_given calls) ≡ None
    go later None is = ap (λ (g : Option ℕ). or_later g (first_given calls)) is ∙ later
    go later (Some link) is =
        absurd (false≢true (sym (none link) ∙ or_true (gives link call) (is_given link calls) (ap (λ (g : Option ℕ). is_number link g) is ∙ itself link)))

-- The first handle.

some_same : (one other : Seen Ticket) → Some one ≡ Some other → one ≡ other
some_same one other e = cc

none_some : (seen : Seen Ticket) → None ≡ Some seen → ⊥
none_some seen e = cc

pub first_there : (seens : List (Seen Ticket)) (seen : Seen Ticket) → slice_get seens 0 ≡ Some seen → first_held seens ≡ Some seen.link
first_there [] seen there = absurd (none_some seen there)
first_there (first ∷ others) seen there = ap (λ (s : Seen Ticket). Some s.link) (some_same first seen there)

-- the last of some handles is the first where it is the only one
last_first : (seens : List (Seen Ticket)) (last : Seen Ticket) → or_later (first_held seens) (Some last.link) ≡ first_held (seens ++ last ∷ [])
last_first [] last = refl
last_first (first ∷ others) last = refl

-- calls that give no number leave the first one, and so do all once there is one
pub first_later : (parting : Bool) (calls more : List wire.Call) (before after : List (Seen Ticket)) → first_held after ≡ first_held before → or_later (first_held before) (first_given more) ≡ first_held before → IsFirst parting calls before →
    IsFirst parting (calls ++ more) after
first_later true calls more before after same still first = tt
first_later false calls more before after same still first = given_then calls more ∙ ap (λ (o : Option ℕ). or_later o (first_given more)) first ∙ still ∙ sym same

pub first_same : (parting : Bool) (calls : List wire.Call) (before after : List (Seen Ticket)) → first_held after ≡ first_held before → IsFirst parting calls before → IsFirst parting calls after
first_same true calls before after same first = tt
first_same false calls before after same first = first ∙ sym same

pub no_more_given : (more : List wire.Call) (seens : List (Seen Ticket)) → ((link : ℕ) → is_given link more ≡ false) → or_later (first_held seens) (first_given more) ≡ first_held seens
no_more_given more seens none = ap (or_later (first_held seens)) (none_given more none) ∙ or_later_none (first_held seens)

-- What may be read.

none_stays : (extents : Bool) (from : Place) (calls more : List wire.Call) → FirstAgreedNone extents from calls → FirstAgreedNone extents from (calls ++ more)
none_stays extents from calls more agreed = record {
  before = agreed.before;
  after = agreed.after ++ more;
  are = ap (λ (l : List wire.Call). l ++ more) agreed.are ∙ append_assoc agreed.before agreed.after more;
  link = agreed.link;
  history = agreed.history;
  first = agreed.first;
  drives = agreed.drives;
  address = agreed.address;
  name = agreed.name;
  begun = agreed.begun;
  none = agreed.none;
}

pub may_stay : (extents : Bool) (from : Place) (p : ℕ) (calls more : List wire.Call) → MayBeRead extents from p calls → MayBeRead extents from p (calls ++ more)
may_stay extents from p calls more (inl answered) = inl (answers_stay from p calls more answered)
may_stay extents from p calls more (inr agreed) = inr (none_stays extents from calls more agreed)

-- What asking passed.

so_stays : (from : Place) (p : ℕ) (Is : List wire.Call → Type 0) (calls more : List wire.Call) → WasSoFirst from p Is calls → WasSoFirst from p Is (calls ++ more)
so_stays from p Is calls more was = record { before = was.before; after = was.after ++ more; are = ap (λ (l : List wire.Call). l ++ more) was.are ∙ append_assoc was.before was.after more; so = was.so; unread = was.unread }

pub passed_stays : (extents : Bool) (grain : ℕ) (from : Place) (p : ℕ) (calls more : List wire.Call) → WasPassed extents grain from p calls → WasPassed extents grain from p (calls ++ more)
passed_stays extents grain from p calls more (inl (inl told)) = inl (inl (so_stays from p (WasTold from p) calls more told))
passed_stays extents grain from p calls more (inl (inr first)) = inl (inr (so_stays from p (WasFirst grain from p) calls more first))
passed_stays extents grain from p calls more (inr agreed) = inr (none_stays extents from calls more agreed)

-- Between two turns.

module _ (parting extents : Bool) (from to : Place) (heard : (grain p : ℕ) → Bool) (error error' : Option ℕ) (earlier : error' ≡ None → error ≡ None) (calls : List wire.Call) (seens seens' : List (Seen Ticket)) (goes : FirstGoes seens seens')
    (hears : Hears parting extents from to heard error calls seens) where
  -- no call was made
  pub hears_on : Hears parting extents from to heard error' calls seens'
  hears_on = record { passed = λ well two grain p h. hears.passed (earlier well) two grain p h; answered = λ well two grain p h. hears.answered (earlier well) two grain p h; first = first_same parting calls seens seens' (link_stays seens seens' goes) hears.first; begun = began_stays parting (opened from.name extents) seens seens' goes hears.begun }

  -- these calls were made
  pub hears_later : (more : List wire.Call) → or_later (first_held seens) (first_given more) ≡ first_held seens → Hears parting extents from to heard error' (calls ++ more) seens'
  hears_later more still = record { passed = λ well two grain p h. passed_stays extents grain from p calls more (hears.passed (earlier well) two grain p h); answered = λ well two grain p h. may_stay extents from p calls more (hears.answered (earlier well) two grain p h); first = first_later parting calls more seens seens' (link_stays seens seens' goes) still hears.first; begun = began_stays parting (opened from.name extents) seens seens' goes hears.begun }

-- One link more was made, and a handle begins on it.
pub hears_dialed : (extents : Bool) (from to : Place) (heard : (grain p : ℕ) → Bool) (error : Option ℕ) (calls : List wire.Call) (seens : List (Seen Ticket)) (at : Target) (last : Seen Ticket) → (length seens ≡ 0 → BeganAs (opened from.name extents) last.history) → Hears false extents from to heard error calls seens →
    Hears false extents from to heard error (calls ++ wire.Connect at (Some last.link) ∷ []) (seens ++ last ∷ [])
hears_dialed extents from to heard error calls seens at last only hears = record {
  passed = λ well two grain p h. passed_stays extents grain from p calls (wire.Connect at (Some last.link) ∷ []) (hears.passed well two grain p h);
  answered = λ well two grain p h. may_stay extents from p calls (wire.Connect at (Some last.link) ∷ []) (hears.answered well two grain p h);
  first = given_then calls (wire.Connect at (Some last.link) ∷ []) ∙ ap (λ (o : Option ℕ). or_later o (Some last.link)) hears.first ∙ last_first seens last;
  begun = last_began (opened from.name extents) seens last hears.begun only;
}

-- While handles are taken out it does not matter which one is the first.
pub hears_parting : (parting extents : Bool) (from to : Place) (heard : (grain p : ℕ) → Bool) (error error' : Option ℕ) (earlier : error' ≡ None → error ≡ None) (calls : List wire.Call) (seens seens' : List (Seen Ticket)) → Hears parting extents from to heard error calls seens →
    Hears true extents from to heard error' calls seens'
hears_parting parting extents from to heard error error' earlier calls seens seens' hears = record { answered = λ well two grain p h. hears.answered (earlier well) two grain p h; first = tt; begun = tt; passed = λ well two grain p h. hears.passed (earlier well) two grain p h }
