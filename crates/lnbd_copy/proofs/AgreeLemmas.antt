-- Handles that may make requests and have nothing to write, and that such a handle was told the size of which it tells.
use Rattle.std.proofs.Common.{◌≡◌, inl, inr, ℕ, zero, suc, ◌+◌, ◌<◌, ◌≤◌, Bool, true, false, nat_lt, length, List, [], ◌∷◌, Option, Some, None, slice_get, if◌then◌else◌, refl, ap, sym, subst, ◌∙◌, arith}
use Rattle.std.proofs.lemmas.Bool.{cases_lt, false≢true, lt-ltb}
use Rattle.std.specs.Option.{option_map}
use Rattle.lnbd_model.specs.declared.export.ExportInfo.{ExportInfo}
use Rattle.lnbd_model.specs.declared.state.State.TheVariants as state
use Rattle.lnbd_history.specs.Answers.{direction_after, info_after, state_after}
use Rattle.lnbd_machine.specs.Machine.{Machine}
use Rattle.lnbd_standing.specs.Standing.{StandsFor}
use Rattle.lnbd_handle.specs.Histories.{ForEach, max_unretired}
use Rattle.lnbd_plan.specs.declared.fault.Rule.{Rule}
use Rattle.lnbd_poll.specs.Held.{Held, AreAt}
use Rattle.lnbd_poll.specs.Seen.{Seen}
use Rattle.lnbd_drives.proofs.Exports.{info_was_told}
use Rattle.lnbd_board.specs.declared.ticket.Ticket.{Ticket}
use Rattle.lnbd_copy.specs.Agreed.{Agrees, AreQuiet, HasTold, IsQuiet, Tells}
use Rattle.lnbd_conduct.specs.Terms.{broken_rule}
use Rattle.lnbd_copy.proofs.TurnLemmas.{none_some, some_same}

module _ (handle : Machine Ticket) (info : ExportInfo) (ready : ForEach handle (λ history. state_after history ≡ state.Ready)) (quiet : ForEach handle (λ history. direction_after history ≡ 1)) (told : ForEach handle (λ history. Some info ≡ info_after history)) where
  told_at : (index : ℕ) (all : List (Held Ticket)) (seens : List (Seen Ticket)) → option_map (λ held. held.handle) (slice_get all index) ≡ Some handle → AreAt all seens → HasTold index info.size seens
  told_at index [] seens is at = absurd (none_some handle is)
  told_at index (held ∷ others) [] is at = absurd at
  told_at zero (held ∷ others) (seen ∷ more) is at =
      let stands = subst (λ (m : Machine Ticket). StandsFor max_unretired seen.history m) (some_same held.handle handle is) at.0.stands in
      record { seen = seen; there = refl; told = info_was_told seen.history info (ready seen.history stands) (quiet seen.history stands) (sym (told seen.history stands)) }
  told_at (suc index) (held ∷ others) (seen ∷ more) is at = let rest = told_at index others more is at.1 in record { seen = rest.seen; there = rest.there; told = rest.told }

  pub tells : (index : ℕ) (all : List (Held Ticket)) → option_map (λ held. held.handle) (slice_get all index) ≡ Some handle → Tells index info.size all
  tells index all is = record { on = λ seens at. told_at index all seens is at }

-- Each handle that is held is quiet.

pub quiet_at : (held : List (Held Ticket)) (index : ℕ) (handle : Machine Ticket) → AreQuiet held → option_map (λ (one : Held Ticket). one.handle) (slice_get held index) ≡ Some handle → IsQuiet handle
quiet_at held index handle quiet is = go (slice_get held index) refl is
  where
    go : (o : Option (Held Ticket)) → slice_get held index ≡ o → option_map (λ (one : Held Ticket). one.handle) o ≡ Some handle → IsQuiet handle
    go None there none = absurd (none_some handle none)
    go (Some one) there same = subst IsQuiet (some_same one.handle handle same) (quiet index one there)

-- So many of them are.
pub record QuietBelow (n : ℕ) (held : List (Held Ticket)) : Type 0 where
  pub on : (index : ℕ) (one : Held Ticket) → index < n → slice_get held index ≡ Some one → IsQuiet one.handle

pub none_quiet : (held : List (Held Ticket)) → QuietBelow 0 held
none_quiet held = record { on = λ index one l there. absurd (omega (arith, l)) }

pub quiet_more : (n : ℕ) (held : List (Held Ticket)) (handle : Machine Ticket) → QuietBelow n held → option_map (λ (one : Held Ticket). one.handle) (slice_get held n) ≡ Some handle → IsQuiet handle → QuietBelow (n + 1) held
quiet_more n held handle below is quiet = record {
  on = λ index one l there. elim (cases_lt index n) [
    | inl k ↦ below.on index one k there
    | inr k ↦
        let same : index ≡ n = omega (arith, l, k) in
        let here : slice_get held n ≡ Some one = subst (λ (m : ℕ). slice_get held m ≡ Some one) same there in
        subst IsQuiet (sym (some_same one.handle handle (sym (ap (λ (o : Option (Held Ticket)). option_map (λ (h : Held Ticket). h.handle) o) here) ∙ is))) quiet
  ];
}

pub held_below : (held : List (Held Ticket)) (index : ℕ) (one : Held Ticket) → slice_get held index ≡ Some one → index < length held
held_below [] index one there = absurd (none_some one there)
held_below (first ∷ others) zero one there = omega arith
held_below (first ∷ others) (suc index) one there = let more = held_below others index one there in omega (arith, more)

pub all_quiet : (n : ℕ) (held : List (Held Ticket)) → QuietBelow n held → length held ≤ n → AreQuiet held
all_quiet n held below all index one there = let l = held_below held index one there in below.on index one (omega (arith, l, all)) there

-- Where no rule is broken the destination is no smaller, and so both agree on the source's size.

breaks : (read_only smaller : Bool) (one two : Rule) (more : Option Rule) → smaller ≡ true → (if read_only then Some one else if smaller then Some two else more) ≡ None → ⊥
breaks true smaller one two more is none = cc
breaks false true one two more is none = cc
breaks false false one two more is none = absurd (false≢true is)

no_smaller : (source destination : ExportInfo) → broken_rule source destination ≡ None → source.size ≤ destination.size
no_smaller source destination none = elim (cases_lt destination.size source.size) [
  | inl less ↦ absurd (breaks _ (nat_lt destination.size source.size) _ _ _ (lt-ltb destination.size source.size less) none)
  | inr fits ↦ fits
]

pub agrees : (held : List (Held Ticket)) (size : ℕ) (source destination : ExportInfo) → size ≡ source.size → Tells 0 source.size held → Tells 1 destination.size held → broken_rule source destination ≡ None → Agrees size held
agrees held size source destination same one two none = subst (λ (n : ℕ). Agrees n held) (sym same) (record {
  on = λ seens at. record { source = one.on seens at; room = destination.size; destination = two.on seens at; fits = no_smaller source destination none };
})
