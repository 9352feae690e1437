-- What a caller does with a handle, a handle that was just created, and one that is taken out.
use Rattle.std.proofs.Common.{◌≡◌, ◌≢◌, ℕ, zero, suc, true, false, List, [], ◌∷◌, ◌++◌, ◌+◌, take, drop, arith, Some, None, slice_get, refl, ap, sym, subst, ◌∙◌}
use Rattle.lnbd_link.specs.Call as wire
use Rattle.lnbd_history.specs.Events.{Event}
use Rattle.lnbd_asked.specs.Driven.{Begins, Does, Spells, is_inward}
use Rattle.lnbd_poll.specs.Alone.{AreApart, HaveOwnLinks, calls_on}
use Rattle.lnbd_poll.specs.Seen.{Seen}
use Rattle.lnbd_drives.specs.Driving.{AllDrive, AllPlain, DriveOwnLinks, new_on, sets_opt_mode, with_event}
use Rattle.lnbd_drives.specs.Laws.{CallersDrive, NewDrive, TakenDrive}
use Rattle.lnbd_drives.proofs.Modes.{inward_mode}
use Rattle.lnbd_drives.proofs.Passing.{passes}

-- without the element of this index
abbrev removed : {A : Type 0} → ℕ → List A → List A
removed index [] = []
removed zero (x ∷ xs) = xs
removed (suc index) (x ∷ xs) = x ∷ removed index xs

take_drop : {A : Type 0} (index : ℕ) (xs : List A) → removed index xs ≡ take index xs ++ drop (index + 1) xs
take_drop zero [] = refl
take_drop (suc index) [] = sym (nothing (suc index + 1))
  where
    nothing : {A : Type 0} (n : ℕ) → drop {A = A} n [] ≡ []
    nothing zero = refl
    nothing (suc n) = refl
take_drop zero (x ∷ xs) = sym (all xs)
  where
    all : {A : Type 0} (xs : List A) → drop 0 xs ≡ xs
    all [] = refl
    all (x ∷ xs) = refl
take_drop (suc index) (x ∷ xs) = ap (λ ys. x ∷ ys) (take_drop index xs) ∙ ap (λ n. x ∷ (take index xs ++ drop n (x ∷ xs))) (one_more index)
  where
    one_more : (n : ℕ) → suc (n + 1) ≡ suc n + 1
    one_more n = omega arith

module _ {K : Type 0} where
  some_same : (one other : Seen K) → Some one ≡ Some other → one ≡ other
  some_same one other e = cc

  none_some : (one : Seen K) → None ≡ Some one → ⊥
  none_some one e = cc

  -- Links stay.
  event_apart : (link index : ℕ) (event : Event K) (seens : List (Seen K)) → AreApart link seens → AreApart link (with_event index event seens)
  event_apart link index event [] apart = tt
  event_apart link zero event (seen ∷ others) apart = apart
  event_apart link (suc index) event (seen ∷ others) apart = (apart.0, event_apart link index event others apart.1)

  event_own : (index : ℕ) (event : Event K) (seens : List (Seen K)) → HaveOwnLinks seens → HaveOwnLinks (with_event index event seens)
  event_own index event [] own = tt
  event_own zero event (seen ∷ others) own = own
  event_own (suc index) event (seen ∷ others) own = (event_apart seen.link index event others own.0, event_own index event others own.1)

  module _ (event : Event K) (inward : is_inward event ≡ true) (off : sets_opt_mode event ≡ false) where
    event_drive : (calls : List wire.Call) (seens : List (Seen K)) (index : ℕ) → AllDrive calls seens → AllDrive calls (with_event index event seens)
    event_drive calls [] index drive = tt
    event_drive calls (seen ∷ others) zero drive = (Does calls seen.history seen.unread event drive.0 inward, drive.1)
    event_drive calls (seen ∷ others) (suc index) drive = (drive.0, event_drive calls others index drive.1)

    event_plain : (seens : List (Seen K)) (index : ℕ) (seen : Seen K) → slice_get seens index ≡ Some seen → Spells seen.history event → AllPlain seens → AllPlain (with_event index event seens)
    event_plain [] index seen there spells plain = tt
    event_plain (first ∷ others) zero seen there spells plain = (
      record {
        arrived = plain.0.arrived;
        spelled = (subst (λ (s : Seen K). Spells s.history event) (sym (some_same first seen there)) spells, plain.0.spelled);
        mode = inward_mode first.history event inward off plain.0.mode;
      },
      plain.1,
    )
    event_plain (first ∷ others) (suc index) seen there spells plain = (plain.0, event_plain others index seen there spells plain.1)

  pub callers_drive : CallersDrive K
  callers_drive calls seens index seen event d there inward spells off =
      record { own = event_own index event seens d.own; drive = event_drive event inward off calls seens index d.drive; plain = event_plain event inward off seens index seen there spells d.plain }

  -- A new handle.

  new_apart : (link n : ℕ) (seens : List (Seen K)) → link ≢ n → AreApart n seens → AreApart n (seens ++ new_on link ∷ [])
  new_apart link n [] differ apart = (differ, tt)
  new_apart link n (seen ∷ others) differ apart = (apart.0, new_apart link n others differ apart.1)

  new_own : (link : ℕ) (seens : List (Seen K)) → AreApart link seens → HaveOwnLinks seens → HaveOwnLinks (seens ++ new_on link ∷ [])
  new_own link [] apart own = (tt, tt)
  new_own link (seen ∷ others) apart own = (new_apart link seen.link others (λ is. apart.0 (sym is)) own.0, new_own link others apart.1 own.1)

  new_drives : (link : ℕ) (calls : List wire.Call) (seens : List (Seen K)) → calls_on link calls ≡ [] → AllDrive calls seens → AllDrive calls (seens ++ new_on link ∷ [])
  new_drives link calls [] none drive = (passes link [] [] [] calls Begins none, tt)
  new_drives link calls (seen ∷ others) none drive = (drive.0, new_drives link calls others none drive.1)

  new_plain : (link : ℕ) (seens : List (Seen K)) → AllPlain seens → AllPlain (seens ++ new_on link ∷ [])
  new_plain link [] plain = (record { arrived = refl; spelled = tt; mode = refl }, tt)
  new_plain link (seen ∷ others) plain = (plain.0, new_plain link others plain.1)

  pub new_drive : NewDrive K
  new_drive calls seens link d apart none = record { own = new_own link seens apart d.own; drive = new_drives link calls seens none d.drive; plain = new_plain link seens d.plain }

  -- One is taken out.

  removed_apart : (link index : ℕ) (seens : List (Seen K)) → AreApart link seens → AreApart link (removed index seens)
  removed_apart link index [] apart = tt
  removed_apart link zero (seen ∷ others) apart = apart.1
  removed_apart link (suc index) (seen ∷ others) apart = (apart.0, removed_apart link index others apart.1)

  removed_own : (index : ℕ) (seens : List (Seen K)) → HaveOwnLinks seens → HaveOwnLinks (removed index seens)
  removed_own index [] own = tt
  removed_own zero (seen ∷ others) own = own.1
  removed_own (suc index) (seen ∷ others) own = (removed_apart seen.link index others own.0, removed_own index others own.1)

  removed_drive : (calls : List wire.Call) (index : ℕ) (seens : List (Seen K)) → AllDrive calls seens → AllDrive calls (removed index seens)
  removed_drive calls index [] drive = tt
  removed_drive calls zero (seen ∷ others) drive = drive.1
  removed_drive calls (suc index) (seen ∷ others) drive = (drive.0, removed_drive calls index others drive.1)

  removed_plain : (index : ℕ) (seens : List (Seen K)) → AllPlain seens → AllPlain (removed index seens)
  removed_plain index [] plain = tt
  removed_plain zero (seen ∷ others) plain = plain.1
  removed_plain (suc index) (seen ∷ others) plain = (plain.0, removed_plain index others plain.1)

  pub taken_drive : TakenDrive K
  taken_drive calls seens index d =
      subst (DriveOwnLinks calls) (take_drop index seens) (record { own = removed_own index seens d.own; drive = removed_drive calls index seens d.drive; plain = removed_plain index seens d.plain })
