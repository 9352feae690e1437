-- Histories in which more has happened, but no name was set.
use Rattle.std.proofs.Common.{◌≡◌, ◌⊎◌, inl, inr, ℕ, false, [], ◌∷◌, ◌++◌, ap, sym, subst, ◌∙◌, append_assoc}
use Rattle.std.proofs.lemmas.Bool.{cases_eq}
use Rattle.lnbd_history.specs.Events.{Event, History}
use Rattle.lnbd_asked.specs.Exports.{HasToldSize, is_naming, name_set}
use Rattle.lnbd_asked.proofs.Staying.{names_stay}
use Rattle.lnbd_board.specs.declared.ticket.Ticket.{Ticket}
use Rattle.lnbd_tracks.specs.Tracks.{Histories}
use Rattle.lnbd_course.proofs.Standing.{with_history, with_here, with_others}

pub record IsLater (before after : History Ticket) : Type 0 where
  pub since : History Ticket
  pub is : after ≡ since ++ before
  pub name : name_set after ≡ name_set before

pub later_same : (before after : History Ticket) → after ≡ before → IsLater before after
later_same before after e = record { since = []; is = e; name = ap name_set e }

pub later_then : {one other more : History Ticket} → IsLater one other → IsLater other more → IsLater one more
later_then {one} a b = record { since = b.since ++ a.since; is = b.is ∙ ap (λ h. b.since ++ h) a.is ∙ sym (append_assoc b.since a.since one); name = b.name ∙ a.name }

-- What was told was told.
pub told_later : (before after : History Ticket) (size : ℕ) → IsLater before after → HasToldSize before size → HasToldSize after size
told_later before after size l w = record {
  earlier = w.earlier;
  since = l.since ++ w.since;
  is = l.is ∙ ap (λ h. l.since ++ h) w.is ∙ sym (append_assoc l.since w.since w.earlier);
  knew = w.knew;
  out = w.out;
}

-- This happened on one link.
pub later_on : (link : ℕ) (event : Event Ticket) (histories : Histories) → is_naming event ≡ false → (n : ℕ) → IsLater (histories n) (with_history link (event ∷ histories link) histories n)
later_on link event histories unnamed n = go (cases_eq link n)
  where
    go : (link ≡ n) ⊎ (link ≡ n → ⊥) → IsLater (histories n) (with_history link (event ∷ histories link) histories n)
    go (inl same) = subst (λ m. IsLater (histories m) (with_history link (event ∷ histories link) histories m)) same
        (record { since = event ∷ []; is = with_here link (event ∷ histories link) histories; name = ap name_set (with_here link (event ∷ histories link) histories) ∙ names_stay (histories link) event unnamed })
    go (inr differ) = later_same (histories n) (with_history link (event ∷ histories link) histories n) (with_others link (event ∷ histories link) histories n (λ e. differ (sym e)))
