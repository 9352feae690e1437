-- Calls on other links.
use Rattle.std.proofs.Common.{◌≡◌, ◌≢◌, ℕ, Bool, true, false, cond, List, [], ◌∷◌, ◌++◌, Some, refl, ap, sym, subst, ◌∙◌, append_assoc, append-nil}
use Rattle.lnbd_link.specs.Call as wire
use Rattle.lnbd_link.specs.Call.{Connect, Listen, Accept, Read, Write, Pause, Shut}
use Rattle.lnbd_link.specs.Numbers.{is_number}
use Rattle.lnbd_history.specs.Events.{History}
use Rattle.lnbd_asked.specs.Driven.{Drives, Passes}
use Rattle.lnbd_asked.specs.Laws.{is_on}
use Rattle.lnbd_asked.specs.Link.{Both}
use Rattle.lnbd_asked.specs.Transcript.{after_calls, untold}
use Rattle.lnbd_asked.proofs.Calls.{calls_follow, others_pass}
use Rattle.lnbd_poll.specs.Alone.{calls_on, link_of}
use Rattle.lnbd_poll.proofs.NumberLemmas.{other_number}
use Rattle.lnbd_drives.specs.Laws.{SaidStays}

on_is : (link : ℕ) (call : wire.Call) → is_on link call ≡ is_number link (link_of call)
on_is link (Connect to given) = refl
on_is link (Listen at given) = refl
on_is link (Accept n answer) = refl
on_is link (Read n room answer) = refl
on_is link (Write n offered answer) = refl
on_is link (Pause wants) = refl
on_is link (Shut n) = refl

-- Where none of the calls is on the link, the first is not, and none of the rest is.

cons_none : {A : Type 0} (x : A) (xs : List A) → x ∷ xs ≡ [] → ⊥
cons_none x xs e = cc

first_off : (link : ℕ) (call : wire.Call) (more : List wire.Call) → calls_on link (call ∷ more) ≡ [] → is_number link (link_of call) ≡ false
first_off link call more e = go (is_number link (link_of call)) e
  where
    go : (b : Bool) → cond b (call ∷ calls_on link more) (calls_on link more) ≡ [] → b ≡ false
    go true e = absurd (cons_none call (calls_on link more) e)
    go false e = refl

rest_off : (link : ℕ) (call : wire.Call) (more : List wire.Call) → calls_on link (call ∷ more) ≡ [] → calls_on link more ≡ []
rest_off link call more e = go (is_number link (link_of call)) e
  where
    go : (b : Bool) → cond b (call ∷ calls_on link more) (calls_on link more) ≡ [] → calls_on link more ≡ []
    go true e = absurd (cons_none call (calls_on link more) e)
    go false e = e

-- None of them is where neither is.

pub both_off : (link : ℕ) (some more : List wire.Call) → calls_on link some ≡ [] → calls_on link more ≡ [] → calls_on link (some ++ more) ≡ []
both_off link [] more first then = then
both_off link (call ∷ some) more first then =
    ap (λ (b : Bool). cond b (call ∷ calls_on link (some ++ more)) (calls_on link (some ++ more))) (first_off link call some first) ∙ both_off link some more (rest_off link call some first) then

pub one_off : (link n : ℕ) (call : wire.Call) → link_of call ≡ Some n → n ≢ link → calls_on link (call ∷ []) ≡ []
one_off link n call is differ = ap (λ (b : Bool). cond b (call ∷ []) []) (ap (is_number link) is ∙ other_number n link differ)

-- They change nothing.
pub passes : {K : Type 0} (link : ℕ) (calls : List wire.Call) (history : History K) (left : List ℕ) (more : List wire.Call) → Drives link calls history left → calls_on link more ≡ [] → Drives link (calls ++ more) history left
passes link calls history left [] d none = subst (λ (cs : List wire.Call). Drives link cs history left) (sym (append-nil calls)) d
passes link calls history left (call ∷ more) d none =
    subst (λ (cs : List wire.Call). Drives link cs history left) (append_assoc calls (call ∷ []) more)
    (passes link (calls ++ call ∷ []) history left more (Passes calls history left call (calls ++ call ∷ []) d (on_is link call ∙ first_off link call more none) refl) (rest_off link call more none))

-- So what the link says stays.

still : (link : ℕ) (both : Both) (more : List wire.Call) → calls_on link more ≡ [] → after_calls link both more ≡ both
still link both [] none = refl
still link both (call ∷ more) none = ap (λ (b : Both). after_calls link b more) (others_pass link both call (on_is link call ∙ first_off link call more none)) ∙ still link both more (rest_off link call more none)

pub said_stays : SaidStays
said_stays link calls more none = ap (λ (b : Both). b.link) (calls_follow link untold calls more ∙ still link (after_calls link untold calls) more none)
