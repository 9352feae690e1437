-- Bytes that are passed over after an abort.
use Rattle.std.proofs.Common.{◌≡◌, ℕ, ◌+◌, ◌-◌, ◌<◌, ◌≤◌, Bool, List, [], ◌∷◌, ◌++◌, length, take, drop, Some, if◌then◌else◌, refl, ap, sym, ◌∙◌, subst, arith, add-zero}
use Rattle.std.proofs.lemmas.Bool.{lt-ltb, le-ltb}
use Rattle.std.proofs.lemmas.List.{take_all, length-take-le, length-drop}
use Rattle.lnbd_model.specs.declared.breach.Breach.TheVariants.{TooManyReplies}
use Rattle.lnbd_model.specs.declared.state.Cause.TheVariants.{Broke}
use Rattle.lnbd_records.specs.Limits.{max_passed}
use Rattle.lnbd_stream.specs.Stream.{fresh, settle, feed}
use Rattle.lnbd_callbacks.specs.Calls.{Call}
use Rattle.lnbd_history.specs.declared.kinds.Stage.TheVariants.{Aborting, Dead}
use Rattle.lnbd_history.specs.Arrivals.{Broken, Passed, shows_at}
use Rattle.lnbd_machine.specs.Machine.{Doing, kill, on_state, sight, waited, table_rules}
use Rattle.lnbd_handle.proofs.FrontLemmas.{shows}
use Rattle.lnbd_handle.specs.declared.connection.Connection.{Connection}
use Rattle.lnbd_handle.specs.Runs.{doing, Acts, Runs}
use Rattle.lnbd_handle.specs.Seen.{state_of, machine_of}
use Rattle.lnbd_handle.specs.Turns.{arriving, ShowsNothing}
use Rattle.lnbd_handle.proofs.RunLemmas.{runs_none}
use Rattle.lnbd_handle.proofs.TurnLemmas.{turn_broken}
use Rattle.lnbd_handle.proofs.DrainLemmas.{arrives_all}

module _ {K : Type 0} where
  -- so many bytes more were passed over
  abbrev pub passing : ℕ → Doing K → Doing K
  passing n d = on_state (λ state. record state { passed = state.passed + n }) d

  -- One byte more is passed over where so many were not yet.
  byte_passed : (d : Doing K) (byte : ℕ) → d.state.stage ≡ Aborting → d.state.passed < max_passed → shows d (byte ∷ []) ≡ Some Passed
  byte_passed d byte is few =
      ap (λ s. shows_at s (sight d.state) (waited d.state) (byte ∷ [])) is
      ∙ ap (λ (b : Bool). if b then Some Passed else Some (Broken TooManyReplies)) (lt-ltb d.state.passed max_passed few)

  -- After so many the next byte is a breach.
  pub byte_broke : (d : Doing K) (bytes : List ℕ) → d.state.stage ≡ Aborting → max_passed ≤ d.state.passed → 0 < length bytes → shows d bytes ≡ Some (Broken TooManyReplies)
  byte_broke d [] is many some = absurd (omega (arith, some))
  byte_broke d (byte ∷ bytes) is many some =
      ap (λ s. shows_at s (sight d.state) (waited d.state) (byte ∷ bytes)) is
      ∙ ap (λ (b : Bool). if b then Some Passed else Some (Broken TooManyReplies)) (le-ltb d.state.passed max_passed many)

  pub nothing_shown : (c : Connection K) (bytes : List ℕ) → c.stage ≡ Aborting → bytes ≡ [] → ShowsNothing (state_of c) bytes
  nothing_shown c bytes is none =
      ap (λ s. shows_at s (sight (state_of c)) (waited (state_of c)) bytes) is ∙ ap (λ b. shows_at Aborting (sight (state_of c)) (waited (state_of c)) b) none

  pub feed_passed : (d : Doing K) (bytes : List ℕ) → d.state.stage ≡ Aborting → length bytes ≤ max_passed - d.state.passed → feed (table_rules {K = K}) (fresh d) bytes ≡ fresh (passing (length bytes) d)
  feed_passed d [] is few = ap (λ (n : ℕ). fresh (on_state (λ state. record state { passed = n }) d)) (sym (add-zero d.state.passed))
  feed_passed d (byte ∷ bytes) is few =
      let sum : d.state.passed + 1 + length bytes ≡ d.state.passed + length (byte ∷ bytes) = omega arith in
      ap (λ v. feed (table_rules {K = K}) (settle (table_rules {K = K}) d (byte ∷ []) v) bytes) (byte_passed d byte is (omega (arith, few)))
      ∙ feed_passed (passing 1 d) bytes is (omega (arith, few))
      ∙ ap (λ (n : ℕ). fresh (on_state (λ state. record state { passed = n }) d)) sum

module _ {K World : Type 0} (steps : World → List (Call K) → World → Type 0) (none : (w : World) → steps w [] w) where
  pub turn_passed : (old : Connection K) (before : World) (rest : List ℕ) (count : ℕ) → old.stage ≡ Aborting → count ≡ length rest → count ≤ max_passed - old.passed →
      Runs steps (arriving rest) (machine_of old []) (machine_of (record old { passed = old.passed + count }) []) before before
  turn_passed old before rest count is all few = runs_none steps none (arriving rest) (machine_of old []) (machine_of (record old { passed = old.passed + count }) []) before before refl
      (λ more made. feed_passed (doing (state_of old) more made) rest is (omega (arith, all, few)) ∙ ap (λ (n : ℕ). fresh (passing n (doing (state_of old) more made))) (sym all))

  pub turn_all_passed : (old : Connection K) (before : World) (rest : List ℕ) (count : ℕ) → old.stage ≡ Aborting → count ≡ length rest → count ≤ max_passed - old.passed →
      Runs steps (arriving (take count rest)) (machine_of old []) (machine_of (record old { passed = old.passed + count }) []) before before
  turn_all_passed old before rest count is all few =
      subst (λ b. Runs steps (arriving b) (machine_of old []) (machine_of (record old { passed = old.passed + count }) []) before before) (sym (take_all count rest (omega (arith, all))))
      (turn_passed old before rest count is all few)

  -- So many bytes are passed over, and the next one is a breach.
  pub turn_over : ((a b c : World) (first second : List (Call K)) → steps a first b → steps b second c → steps a (first ++ second) c) →
      (old new : Connection K) (before after : World) (rest : List ℕ) (left : ℕ) → old.stage ≡ Aborting → left ≡ max_passed - old.passed → left < length rest →
      Acts steps (kill (Broke TooManyReplies)) (state_of (record old { passed = old.passed + left })) (state_of new) before after → new.stage ≡ Dead (Broke TooManyReplies) →
      Runs steps (arriving rest) (machine_of old []) (machine_of new []) before after
  turn_over join old new before after rest left is room more acts dead =
      let middle : Connection K = record old { passed = old.passed + left } in
      let first = length-take-le left rest (omega (arith, more)) in
      let many : max_passed ≤ old.passed + left = omega (arith, room) in
      let some : 0 < length (drop left rest) = omega (arith, more, length-drop left rest) in
      arrives_all steps none join (machine_of old []) (machine_of middle []) (machine_of new []) before before after rest left
      (turn_passed old before (take left rest) left is (sym first) (omega (arith, room))) (drop left rest) refl
      (turn_broken steps middle middle new before after (drop left rest) TooManyReplies (Broke TooManyReplies) refl
      (λ answers made. byte_broke (doing (state_of middle) answers made) (drop left rest) is many some) refl acts dead)
