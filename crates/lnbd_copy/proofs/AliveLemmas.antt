-- While no handle is dead, each link is driven so, and by one history also where connections were to end.
use Rattle.std.proofs.Common.{◌≡◌, inl, inr, ℕ, zero, suc, Bool, true, false, List, [], ◌∷◌, Some, slice_get, refl, sym, subst, ◌∙◌}
use Rattle.std.proofs.lemmas.Bool.{false≢true}
use Rattle.lnbd_model.specs.declared.state.Cause.{Cause}
use Rattle.lnbd_model.specs.declared.state.State.TheVariants as state
use Rattle.lnbd_model.specs.declared.target.Place.{Place}
use Rattle.lnbd_history.specs.Events.{History}
use Rattle.lnbd_link.specs.Call as wire
use Rattle.lnbd_link.specs.Numbers.{is_given}
use Rattle.lnbd_poll.specs.Alone.{AreApart}
use Rattle.lnbd_poll.specs.Held.{Held, AreAt}
use Rattle.lnbd_poll.specs.Seen.{Seen}
use Rattle.lnbd_drives.proofs.Saying.{one_of}
use Rattle.lnbd_board.specs.declared.ticket.Ticket.{Ticket}
use Rattle.lnbd_board.specs.Files as board
use Rattle.lnbd_course.proofs.Failing.{there_or_apart}
use Rattle.lnbd_copy.specs.Deciding.{AreAlive, IsAliveAt}
use Rattle.lnbd_conduct.specs.Decided.{AreAliveSince, AreAliveToEnd, IsAliveSince}
use Rattle.lnbd_copy.specs.Driven.{AllUnended, AllWentOn, HasEnded}
use Rattle.lnbd_conduct.specs.Driven.{EndAfter, HasParted, IsAlive, WasLeftSince, WasUnendedAlive}
use Rattle.lnbd_copy.specs.Way.{IsOn, IsUnderWay, Way}
use Rattle.lnbd_copy.proofs.DrivenLemmas.{one_drove, went_there}
use Rattle.lnbd_copy.proofs.DrivingLemmas.{lawful_there, unended_there}
use Rattle.lnbd_copy.proofs.FailLemmas.{all_stand}
use Rattle.lnbd_copy.proofs.SinceLemmas.{history_on, history_there}
use Rattle.lnbd_copy.proofs.TurnLemmas.{none_some, some_same}

-- One that is held, by the history that it stands for.
pub alive_there : (held : List (Held Ticket)) (seens : List (Seen Ticket)) (index : ℕ) (seen : Seen Ticket) → AreAt held seens → slice_get seens index ≡ Some seen → IsAliveAt index held → IsAlive seen.history
alive_there [] [] index seen at there a = absurd (none_some seen there)
alive_there [] (one ∷ all) index seen at there a = absurd at
alive_there (held ∷ others) [] index seen at there a = absurd at
alive_there (held ∷ others) (one ∷ all) zero seen at there a = subst (λ (s : Seen Ticket). IsAlive s.history) (some_same one seen there) (a.each held refl one.history at.0.stands)
alive_there (held ∷ others) (one ∷ all) (suc index) seen at there a = alive_there others all index seen at.1 there (record { each = λ h is. a.each h is })

module _ (way : Way) (now : board.Seen) (calls : List wire.Call) (held : List (Held Ticket)) (not : way.ended ≡ false) (alive : AreAlive held) (on : IsOn way now calls held) where
  all_unended : AllUnended on.seens
  all_unended = subst (λ (e : Bool). HasEnded e false way.extents way.how.skip way.flush way.from way.to calls on.seens) not on.ends

  one_unended_alive : (index : ℕ) (seen : Seen Ticket) → slice_get on.seens index ≡ Some seen → is_given seen.link calls ≡ true → WasUnendedAlive (history_on on.seens seen.link) way.extents way.from way.to seen.link calls
  unfolding one_drove
  one_unended_alive index seen there given =
      let own = on.stands.between.course.drive in
      let one = one_of calls on.seens index seen there own.drive own.plain in
      record {
        source = on.has seen.link;
        driven = one_drove way.extents way.from way.to on.has calls on.seens index seen there (lawful_there held on.seens index seen on.at there) one.plain.spelled one.drives (on.stands.between.placed.address seen.link given) on.drives.went (on.drives.first seen.link);
        is = sym (history_there on.seens index seen own.own there);
        unended = unended_there on.seens index seen there all_unended;
        alive = alive_there held on.seens index seen on.at there (alive.at index);
        arrived = one.plain.arrived;
      }

  -- None was asked for the end of its connection.
  pub on_unended_alive : (link : ℕ) → is_given link calls ≡ true → WasUnendedAlive (history_on on.seens link) way.extents way.from way.to link calls
  on_unended_alive link given = elim (there_or_apart link on.seens (all_stand held on.seens on.at)) [
    | inl t ↦ subst (λ (n : ℕ). WasUnendedAlive (history_on on.seens n) way.extents way.from way.to n calls) t.same (one_unended_alive t.index t.seen t.there (subst (λ (n : ℕ). is_given n calls ≡ true) (sym t.same) given))
    | inr apart ↦ absurd (false≢true (sym (on.all link apart) ∙ given))
  ]

closed_alive : (why : Cause) → state.Closed ≡ state.Dead why → ⊥
closed_alive why e = cc

closing_alive : (why : Cause) → state.Closing ≡ state.Dead why → ⊥
closing_alive why e = cc

-- One that had parted is not dead.
pub parted_alive : (history : History Ticket) → HasParted history → IsAlive history
parted_alive history (inl closed) = λ why dead. closed_alive why (sym closed ∙ dead)
parted_alive history (inr closing) = λ why dead. closing_alive why (sym closing.0 ∙ dead)

-- Held or taken out, each is driven by one history since all was done,
module _ (parting : Bool) (way : Way) (now : board.Seen) (calls : List wire.Call) (held : List (Held Ticket)) (on : IsUnderWay parting way now calls held) (alive : AreAlive held) where
  one_since : (first : ℕ → History Ticket) (index : ℕ) (seen : Seen Ticket) → slice_get on.seens index ≡ Some seen → is_given seen.link calls ≡ true → AllWentOn first on.seens → IsAliveSince (first seen.link) way.extents way.from way.to seen.link calls
  unfolding one_drove
  one_since first index seen there given went =
      let own = on.stands.between.course.drive in
      let one = one_of calls on.seens index seen there own.drive own.plain in
      record {
        alive = record {
          source = on.has seen.link;
          driven = one_drove way.extents way.from way.to on.has calls on.seens index seen there (lawful_there held on.seens index seen on.at there) one.plain.spelled one.drives (on.stands.between.placed.address seen.link given) on.drives.went (on.drives.first seen.link);
          alive = alive_there held on.seens index seen on.at there (alive.at index);
          arrived = one.plain.arrived;
        };
        went = went_there first on.seens index seen there went;
      }

  all_since : (end : EndAfter way.extents way.how.skip way.flush way.from way.to calls) → AllWentOn end.was on.seens → ((link : ℕ) → AreApart link on.seens → is_given link calls ≡ true → IsAliveSince (end.was link) way.extents way.from way.to link calls) → AreAliveSince way.extents way.how.skip way.flush way.from way.to calls
  all_since end went left = record {
    end = end;
    each = λ link given. elim (there_or_apart link on.seens (all_stand held on.seens on.at)) [
      | inl t ↦ subst (λ (n : ℕ). IsAliveSince (end.was n) way.extents way.from way.to n calls) t.same (one_since end.was t.index t.seen t.there (subst (λ (n : ℕ). is_given n calls ≡ true) (sym t.same) given) went)
      | inr apart ↦ left link apart given
    ];
  }

left_alive : (first : History Ticket) (extents : Bool) (from to : Place) (link : ℕ) (calls : List wire.Call) → WasLeftSince first extents from to link calls → IsAliveSince first extents from to link calls
left_alive first extents from to link calls l = record { alive = record { source = l.source; driven = l.left.driven; alive = parted_alive l.left.driven.history l.left.parted; arrived = l.left.arrived }; went = l.went }

-- so that none ended before.
pub alive_to_end : (parting : Bool) (way : Way) (now : board.Seen) (calls : List wire.Call) (held : List (Held Ticket)) → IsUnderWay parting way now calls held → AreAlive held → AreAliveToEnd way.extents way.how.skip way.flush way.from way.to calls
alive_to_end false way now calls held on alive = go way.ended refl on.ends
  where
    go : (ended : Bool) → way.ended ≡ ended → HasEnded ended false way.extents way.how.skip way.flush way.from way.to calls on.seens → AreAliveToEnd way.extents way.how.skip way.flush way.from way.to calls
    go true is s = inr (all_since false way now calls held on alive s.end s.went (λ link apart given. absurd (false≢true (sym (on.all link apart) ∙ given))))
    go false is s = inl (record { was = history_on on.seens; each = on_unended_alive way now calls held is alive on })
alive_to_end true way now calls held on alive = go way.ended on.ends
  where
    go : (ended : Bool) → HasEnded ended true way.extents way.how.skip way.flush way.from way.to calls on.seens → AreAliveToEnd way.extents way.how.skip way.flush way.from way.to calls
    go true s = inr (all_since true way now calls held on alive s.ends.end s.ends.went (λ link apart given. left_alive (s.ends.end.was link) way.extents way.from way.to link calls (s.left link apart given)))
    go false s = absurd s
