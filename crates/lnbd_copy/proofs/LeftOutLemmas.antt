-- A pause for the handles of a copy leaves out only links whose handles wait for nothing.
use Rattle.std.proofs.Common.{◌≡◌, ◌⊎◌, inl, inr, ◌||◌, ◌==◌, ℕ, zero, suc, Bool, true, false, List, [], ◌∷◌, Option, Some, None, slice_get, if◌then◌else◌, arith, refl, ap, sym, subst, ◌∙◌}
use Rattle.std.proofs.lemmas.Bool.{eq-eqb, false≢true, ne_eqb}
use Rattle.lnbd_model.specs.declared.target.Place.{Place}
use Rattle.lnbd_handle.specs.Histories.{max_unretired}
use Rattle.lnbd_history.specs.Answers.{direction_after, in_flight_after, state_after}
use Rattle.lnbd_history.specs.Laws.{Lawful}
use Rattle.lnbd_asked.specs.Driven.{AllSpell, Drives}
use Rattle.lnbd_link.specs.Call as wire
use Rattle.lnbd_link.specs.Numbers.{is_given, is_open}
use Rattle.lnbd_link.specs.Traffic.{target_of}
use Rattle.lnbd_link.specs.declared.wires.Want.{Want}
use Rattle.lnbd_drives.proofs.Saying.{one_of}
use Rattle.lnbd_poll.proofs.HeldLemmas.{wants_same}
use Rattle.lnbd_poll.specs.Alone.{AreApart}
use Rattle.lnbd_poll.specs.Held.{Held, AreAt, is_wanting, wants_after, wants_now, with_want}
use Rattle.lnbd_poll.specs.Seen.{Seen}
use Rattle.lnbd_board.specs.declared.ticket.Ticket.{Ticket}
use Rattle.lnbd_board.specs.Files as board
use Rattle.lnbd_course.proofs.Failing.{there_or_apart}
use Rattle.lnbd_course.specs.Between.{place_of}
use Rattle.lnbd_copy.specs.Copier.{IsOnItsWay}
use Rattle.lnbd_copy.specs.Copier as copier
use Rattle.lnbd_copy.specs.Driven.{AllWentOn, beginning_on}
use Rattle.lnbd_copy.specs.Job as work
use Rattle.lnbd_conduct.specs.Waiting.{WaitsForNothing, WantsAll, is_wanted}
use Rattle.lnbd_copy.specs.Links.{LinksStand, links_of, times}
use Rattle.lnbd_conduct.specs.Links.{once_if}
use Rattle.lnbd_usage.specs.Pauses.{AtEachPause}
use Rattle.lnbd_conduct.specs.Answered.{first_given}
use Rattle.lnbd_copy.specs.Unready.{IsEarlyPause}
use Rattle.lnbd_copy.specs.Way.{IsUnderWay, Way}
use Rattle.lnbd_conduct.specs.Told.{Told}
use Rattle.lnbd_copy.proofs.CopierLemmas.{told_as}
use Rattle.lnbd_copy.proofs.DrivenLemmas.{one_drove}
use Rattle.lnbd_copy.proofs.DrivingLemmas.{lawful_there}
use Rattle.lnbd_copy.proofs.FailLemmas.{all_stand}
use Rattle.lnbd_copy.proofs.LinkLemmas.{unopened}
use Rattle.lnbd_copy.proofs.SettledLemmas.{told_both}
use Rattle.lnbd_copy.proofs.TurnLemmas.{none_some, some_same}

-- The link of a handle that waits for it is wanted.

wanted_first : (link direction : ℕ) (others : List Want) (b : Bool) → b ≡ true → is_wanted link (with_want (if b then Some (record { link = link; direction = direction }) else None) others) ≡ true
wanted_first link direction others true is = ap (λ (b : Bool). b || is_wanted link others) (eq-eqb link link refl)
wanted_first link direction others false is = absurd (false≢true is)

or_true : (a b : Bool) → b ≡ true → (a || b) ≡ true
or_true true b is = refl
or_true false b is = is

wanted_behind : (link : ℕ) (want : Option Want) (others : List Want) → is_wanted link others ≡ true → is_wanted link (with_want want others) ≡ true
wanted_behind link None others is = is
wanted_behind link (Some want) others is = or_true (want.link == link) (is_wanted link others) is

abbrev waits : Seen Ticket → Bool
waits seen = is_wanting (state_after seen.history) (in_flight_after seen.history) (direction_after seen.history)

wanted_there : (seens : List (Seen Ticket)) (index : ℕ) (seen : Seen Ticket) → slice_get seens index ≡ Some seen → waits seen ≡ true → is_wanted seen.link (wants_after seens) ≡ true
wanted_there [] index seen there is = absurd (none_some seen there)
wanted_there (one ∷ others) zero seen there is =
    subst (λ (s : Seen Ticket). waits s ≡ true → is_wanted s.link (wants_after (one ∷ others)) ≡ true) (some_same one seen there) (λ here. wanted_first one.link (direction_after one.history) (wants_after others) (waits one) here) is
wanted_there (one ∷ others) (suc index) seen there is = wanted_behind seen.link _ (wants_after others) (wanted_there others index seen there is)

-- A link that none of the handles has is not open.

not_once : (b : Bool) → 0 ≡ once_if b → b ≡ true → ⊥
not_once true e is = absurd (omega (arith, e))
not_once false e is = false≢true is

apart_times : (link : ℕ) (held : List (Held Ticket)) (seens : List (Seen Ticket)) → AreAt held seens → AreApart link seens → times link (links_of held) ≡ 0
apart_times link [] seens at apart = refl
apart_times link (one ∷ others) [] at apart = absurd at
apart_times link (one ∷ others) (seen ∷ all) at apart =
    let differ = ap once_if (ne_eqb one.link link (λ same. apart.0 (at.0.link ∙ same))) in
    let none = apart_times link others all at.1 apart.1 in
    omega (arith, differ, none)

-- The handle of a link that is open waits for it, or for nothing.

given_by_open : (link : ℕ) (calls : List wire.Call) (b : Bool) → is_given link calls ≡ b → is_open link calls ≡ true → is_given link calls ≡ true
given_by_open link calls true given opened = given
given_by_open link calls false given opened = absurd (false≢true (sym (unopened link calls given) ∙ opened))

module _ (extents : Bool) (from to : Place) (has : ℕ → Bool) (calls : List wire.Call) (seens : List (Seen Ticket)) where
  one_idle : (index : ℕ) (seen : Seen Ticket) → slice_get seens index ≡ Some seen → Lawful max_unretired seen.history → AllSpell seen.history → Drives seen.link calls seen.history seen.unread →
      target_of seen.link calls ≡ Some (place_of from to (has seen.link)).to → AllWentOn (beginning_on extents from to has calls) seens → (first_given calls ≡ Some seen.link → has seen.link ≡ true) → seen.unread ≡ [] → waits seen ≡ false → WaitsForNothing extents from to seen.link calls
  unfolding one_drove
  one_idle index seen there lawful spelled drives address went first arrived idle = record { source = has seen.link; driven = one_drove extents from to has calls seens index seen there lawful spelled drives address went first; arrived = arrived; idle = idle }

module _ (parting : Bool) (way : Way) (now : board.Seen) (calls : List wire.Call) (held : List (Held Ticket)) (on : IsUnderWay parting way now calls held) (links : LinksStand held calls) where
  seen_wanted : (index : ℕ) (seen : Seen Ticket) → slice_get on.seens index ≡ Some seen → is_given seen.link calls ≡ true → (is_wanted seen.link (wants_after on.seens) ≡ true) ⊎ WaitsForNothing way.extents way.from way.to seen.link calls
  seen_wanted index seen there given = go (waits seen) refl
    where
      go : (b : Bool) → waits seen ≡ b → (is_wanted seen.link (wants_after on.seens) ≡ true) ⊎ WaitsForNothing way.extents way.from way.to seen.link calls
      go true is = inl (wanted_there on.seens index seen there is)
      go false is =
          let own = on.stands.between.course.drive in
          let one = one_of calls on.seens index seen there own.drive own.plain in
          inr (one_idle way.extents way.from way.to on.has calls on.seens index seen there (lawful_there held on.seens index seen on.at there) one.plain.spelled one.drives
          (on.stands.between.placed.address seen.link given) on.drives.went (on.drives.first seen.link) one.plain.arrived is)

  all_wanted : WantsAll way.extents way.from way.to calls (wants_after on.seens)
  all_wanted link opened = elim (there_or_apart link on.seens (all_stand held on.seens on.at)) [
    | inl t ↦
        subst (λ (n : ℕ). (is_wanted n (wants_after on.seens) ≡ true) ⊎ WaitsForNothing way.extents way.from way.to n calls) t.same
        (seen_wanted t.index t.seen t.there (subst (λ (n : ℕ). is_given n calls ≡ true) (sym t.same) (given_by_open link calls (is_given link calls) refl opened)))
    | inr apart ↦ absurd (not_once (is_open link calls) (sym (apart_times link held on.seens on.at apart) ∙ links.opened link) opened)
  ]

pub wants_all : (parting : Bool) (way : Way) (now : board.Seen) (calls : List wire.Call) (held : List (Held Ticket)) → IsUnderWay parting way now calls held → LinksStand held calls → WantsAll way.extents way.from way.to calls (wants_now held)
wants_all parting way now calls held on links = subst (WantsAll way.extents way.from way.to calls) (sym (wants_same held on.seens on.at)) (all_wanted parting way now calls held on links)

-- So it is of a copy on its way.
pub way_wants : (copy : copier.Seen) (start told : Option (List wire.Call)) → IsOnItsWay start told copy → Told start told (LinksStand copy.held) → Told start told (λ calls. WantsAll copy.options.extents copy.from copy.to calls (wants_now copy.held))
way_wants copy start told way links =
    told_as start told
    (λ calls both. subst (λ (e : Bool). WantsAll e copy.from copy.to calls (wants_now copy.held)) way.extents (subst (λ (t : Place). WantsAll way.way.extents copy.from t calls (wants_now copy.held)) way.to (subst (λ (f : Place). WantsAll way.way.extents f way.way.to calls (wants_now copy.held)) way.from
    (wants_all (work.is_parting way.job.phase) way.way copy.board calls copy.held both.0 both.1))))
    (told_both start told way.on links)

-- At each pause while connections negotiate it is so.
pub early_wants : (extents : Bool) (from to : Place) (start told : Option (List wire.Call)) → Told start told (AtEachPause (IsEarlyPause extents from to)) → Told start told (AtEachPause (WantsAll extents from to))
early_wants extents from to start told early = told_as start told (λ calls each before after wants are. (each before after wants are).2) early

-- Of a copy that keeps its places and options,
pub wants_as : (one other : copier.Seen) (a b : Option (List wire.Call)) → one ≡ other → Told a b (AtEachPause (WantsAll one.options.extents one.from one.to)) → Told a b (AtEachPause (WantsAll other.options.extents other.from other.to))
wants_as one other a b same told = subst (λ (s : copier.Seen). Told a b (AtEachPause (WantsAll s.options.extents s.from s.to))) same told
