-- What the links of handles say.
use Rattle.std.proofs.Common.{◌≡◌, ℕ, zero, suc, Bool, true, false, List, [], ◌∷◌, Option, Some, None, slice_get, arith, nat_le, refl, ap, sym, subst, ◌∙◌, if◌then◌else◌}
use Rattle.std.specs.Option.{option_map}
use Rattle.std.proofs.lemmas.Bool.{leb-false, le-leb}
use Rattle.lnbd_outcome.specs.Outcome.{Unfinished, Done}
use Rattle.lnbd_link.specs.Call as wire
use Rattle.lnbd_history.specs.Answers as answer
use Rattle.lnbd_history.specs.Commands.{Command, Request, query_of}
use Rattle.lnbd_history.specs.Entries.{own}
use Rattle.lnbd_history.specs.History.{request, reading}
use Rattle.lnbd_history.proofs.Cookies.{request_past}
use Rattle.lnbd_asked.specs.Driven.{Drives, outcome_after, written}
use Rattle.lnbd_asked.specs.Link.{Nobody}
use Rattle.lnbd_asked.specs.Transcript.{bare, answered, outcome_of}
use Rattle.lnbd_asked.proofs.Driving.{driven_say_so}
use Rattle.lnbd_poll.specs.Seen.{Seen}
use Rattle.lnbd_drives.specs.Driving.{AllDrive, AllPlain, IsPlain}
use Rattle.lnbd_drives.specs.Laws.{DrivenSaid, AllSaid, DoneSaid}
use Rattle.lnbd_drives.specs.Said.{SaysDone}
use Rattle.lnbd_drives.proofs.Framing.{done_low, done_silent}

bare_none : (asks : Option (Request Nobody)) → option_map bare asks ≡ None → asks ≡ None
bare_none None e = refl
bare_none (Some asks) e = absurd (some_none (bare asks) e)
  where
    some_none : (x : Command Nobody) → Some x ≡ None → ⊥
    some_none x e = cc

module _ {K : Type 0} where
  -- one of the handles
  pub record One (calls : List wire.Call) (seen : Seen K) : Type 0 where
    pub drives : Drives seen.link calls seen.history seen.unread
    pub plain : IsPlain seen

  pub one_of : (calls : List wire.Call) (seens : List (Seen K)) (index : ℕ) (seen : Seen K) → slice_get seens index ≡ Some seen → AllDrive calls seens → AllPlain seens → One calls seen
  one_of calls [] index seen there drive plain = absurd (none_some seen there)
    where
      none_some : (one : Seen K) → None ≡ Some one → ⊥
      none_some one e = cc
  one_of calls (first ∷ others) zero seen there drive plain = subst (One calls) (some_same first seen there) (record { drives = drive.0; plain = plain.0 })
    where
      some_same : (one other : Seen K) → Some one ≡ Some other → one ≡ other
      some_same one other e = cc
  one_of calls (first ∷ others) (suc index) seen there drive plain = one_of calls others index seen there drive.1 plain.1

  pub driven_said : DrivenSaid K
  driven_said limit calls seens index seen now d there stands =
      let one = one_of calls seens index seen there d.drive d.plain in
      driven_say_so limit seen.link calls seen.history stands.lawful one.plain.spelled stands.going one.plain.mode (subst (Drives seen.link calls seen.history) one.plain.arrived one.drives)

  pub all_said : AllSaid K
  all_said history link says all = record { requests = λ c. asks c (nat_le c (written history)) refl; outcomes = λ c. comes c (nat_le c (written history)) refl }
    where
      none : (c : ℕ) → nat_le c (written history) ≡ false → request history c ≡ None
      none c high = let l = leb-false c (written history) high in request_past history c (omega (arith, l, all))

      asks : (c : ℕ) (b : Bool) → nat_le c (written history) ≡ b → option_map bare (request link.requests c) ≡ option_map bare (request history c)
      asks c true low = says.requests c ∙ ap (λ (b : Bool). if b then option_map bare (request history c) else None) low
      asks c false high = says.requests c ∙ ap (λ (b : Bool). if b then option_map bare (request history c) else None) high ∙ sym (ap (option_map bare) (none c high))

      comes : (c : ℕ) (b : Bool) → nat_le c (written history) ≡ b → answered link c ≡ outcome_after history c
      comes c true low = says.outcomes c low
      comes c false high =
          let gone = bare_none (request link.requests c) (asks c false high ∙ ap (option_map bare) (none c high)) in
          ap (λ a. outcome_of a (own c link.heard.entries)) gone ∙ sym (ap (λ a. outcome_of a (own c (reading history).known.entries)) (none c high))

  pub done_said : DoneSaid K
  done_said history link cookie kept says done = go (request history cookie) refl done
    where
      unfinished : Unfinished ≡ Done kept → ⊥
      unfinished e = cc

      go : (asks : Option (Request K)) → request history cookie ≡ asks → answer.outcome_of asks (own cookie (reading history).known.entries) ≡ Done kept → SaysDone history link cookie kept
      go None is e = absurd (unfinished e)
      go (Some q) is e =
          let low = le-leb cookie (written history) (done_low history cookie (query_of q) kept e) in
          record {
            asks = says.requests cookie ∙ ap (λ (b : Bool). if b then option_map bare (request history cookie) else None) low;
            done = says.outcomes cookie low ∙ ap (λ a. outcome_of a (own cookie (reading history).known.entries)) is ∙ done_silent (own cookie (reading history).known.entries) (query_of q) kept e;
          }
