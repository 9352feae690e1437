-- What is said to the peer and heard of it: the machine's talk and waiting parts are those of the turns and of all parts.
use Rattle.std.proofs.Common.{◌≡◌, ℕ, ◌+◌, ◌≤◌, false, List, [], ◌∷◌, ◌++◌, length, map, Option, None, refl, ap, sym, subst, ◌∙◌, arith}
use Rattle.std.proofs.lemmas.Bool.{false≢true}
use Rattle.lnbd_model.specs.declared.state.Cause.{Cause}
use Rattle.lnbd_model.specs.declared.state.State.{State}
use Rattle.lnbd_model.specs.declared.state.State.TheVariants as state
use Rattle.lnbd_model.specs.declared.refusal.Why.{Why}
use Rattle.lnbd_history.specs.declared.kinds.Phase.{Phase}
use Rattle.lnbd_history.specs.declared.kinds.Phase.TheVariants as phase
use Rattle.lnbd_history.specs.declared.kinds.Stage.{Stage}
use Rattle.lnbd_history.specs.declared.kinds.Stage.TheVariants.{Created, Open, Disconnecting, Aborting, Closed, Dead}
use Rattle.lnbd_history.specs.Agreement.{Turn, Replied, ByName, Set, Opted}
use Rattle.lnbd_history.specs.Agreement as turn
use Rattle.lnbd_history.specs.Answers.{state_in, state_at}
use Rattle.lnbd_history.specs.History.{sent_by, waiting_at}
use Rattle.lnbd_history.specs.Outgoing.{Part, plain, whole, total, out, wrote, ended}
use Rattle.lnbd_history.specs.Refusals.{by_state}
use Rattle.lnbd_history.specs.Talk.{Talk, taking, sent, sent_with, agreed}
use Rattle.lnbd_history.proofs.Agree.{turn_agreed}
use Rattle.lnbd_history.proofs.Flies.{is_over}
use Rattle.lnbd_history.proofs.PartLaws.{waiting-append, whole-append, waiting-more, whole-more, total-more, total-append}

-- Stages.

in_created : (p : Phase) → state_in p ≡ state.Created → ⊥
in_created phase.Greeting e = cc
in_created (phase.Asked option) e = cc
in_created phase.AskedByName e = cc
in_created phase.OptMode e = cc
in_created phase.Ready e = cc
in_created (phase.Refused code) e = cc

pub created_stage : (s : Stage) (p : Phase) → state_at s p ≡ state.Created → s ≡ Created
created_stage Created p e = refl
created_stage Open p e = absurd (in_created p e)
created_stage Disconnecting p e = cc
created_stage Aborting p e = cc
created_stage Closed p e = cc
created_stage (Dead cause) p e = cc

pub opt_mode_stage : (s : Stage) (p : Phase) → state_at s p ≡ state.OptMode → s ≡ Open
opt_mode_stage Created p e = cc
opt_mode_stage Open p e = refl
opt_mode_stage Disconnecting p e = cc
opt_mode_stage Aborting p e = cc
opt_mode_stage Closed p e = cc
opt_mode_stage (Dead cause) p e = cc

pub ready_stage : (s : Stage) (p : Phase) → state_at s p ≡ state.Ready → s ≡ Open
ready_stage Created p e = cc
ready_stage Open p e = refl
ready_stage Disconnecting p e = cc
ready_stage Aborting p e = cc
ready_stage Closed p e = cc
ready_stage (Dead cause) p e = cc

pub not_refused_ready : (s : State) (later : Option Why) → by_state s later ≡ None → s ≡ state.Ready
not_refused_ready state.Created later e = cc
not_refused_ready state.Negotiating later e = cc
not_refused_ready state.OptMode later e = cc
not_refused_ready state.Ready later e = refl
not_refused_ready state.Closing later e = cc
not_refused_ready state.Closed later e = cc
not_refused_ready (state.Dead cause) later e = cc

-- Parts.

waiting_at-append : (s : Stage) (ps qs : List Part) (n : ℕ) → is_over s ≡ false → n ≤ total ps → waiting_at s (ps ++ qs) n ≡ waiting_at s ps n ++ qs
waiting_at-append Created ps qs n a h = waiting-append ps qs n h
waiting_at-append Open ps qs n a h = waiting-append ps qs n h
waiting_at-append Disconnecting ps qs n a h = waiting-append ps qs n h
waiting_at-append Aborting ps qs n a h = waiting-append ps qs n h
waiting_at-append Closed ps qs n a h = absurd (false≢true (sym a))
waiting_at-append (Dead cause) ps qs n a h = absurd (false≢true (sym a))

waiting_at-more : (s : Stage) (ps : List Part) (n k : ℕ) → k ≤ length (out (waiting_at s ps n)) → waiting_at s ps (n + k) ≡ wrote (waiting_at s ps n) k
waiting_at-more Created ps n k g = waiting-more ps n k g
waiting_at-more Open ps n k g = waiting-more ps n k g
waiting_at-more Disconnecting ps n k g = waiting-more ps n k g
waiting_at-more Aborting ps n k g = waiting-more ps n k g
waiting_at-more Closed ps n k g = refl
waiting_at-more (Dead cause) ps n k g = refl

total_more : (s : Stage) (ps : List Part) (n k : ℕ) → n ≤ total ps → k ≤ length (out (waiting_at s ps n)) → n + k ≤ total ps
total_more Created ps n k f g = total-more ps n k f g
total_more Open ps n k f g = total-more ps n k f g
total_more Disconnecting ps n k f g = total-more ps n k f g
total_more Aborting ps n k f g = total-more ps n k f g
total_more Closed ps n k f g = omega (arith, f, g)
total_more (Dead cause) ps n k f g = omega (arith, f, g)

none_more : (ps : List Part) (n k : ℕ) → k ≤ 0 → whole ps n + 0 ≡ whole ps (n + k)
none_more ps n k g = let none : n + k ≡ n = omega (arith, g) in let same : whole ps (n + k) ≡ whole ps n = ap (whole ps) none in omega (arith, same)

whole_more : (s : Stage) (ps : List Part) (n k : ℕ) → k ≤ length (out (waiting_at s ps n)) → whole ps n + ended (waiting_at s ps n) k ≡ whole ps (n + k)
whole_more Created ps n k g = sym (whole-more ps n k g)
whole_more Open ps n k g = sym (whole-more ps n k g)
whole_more Disconnecting ps n k g = sym (whole-more ps n k g)
whole_more Aborting ps n k g = sym (whole-more ps n k g)
whole_more Closed ps n k g = none_more ps n k g
whole_more (Dead cause) ps n k g = none_more ps n k g

-- The two sides.

pub record Speaks (gone : ℕ) (stage : Stage) (flags passed : ℕ) (talk : Talk) (waits : List Part) (written : ℕ) (stage2 : Stage) (flags2 passed2 : ℕ) (turns : List Turn) (parts : List Part) : Type 0 where
  pub stage_is : stage ≡ stage2
  pub flags_are : flags ≡ flags2
  pub passed_is : passed ≡ passed2
  pub talk_is : talk ≡ agreed turns
  pub waits_are : waits ≡ waiting_at stage2 parts gone
  pub within : gone ≤ total parts
  pub written_is : written ≡ whole parts gone

module _ (gone : ℕ) (stage : Stage) (flags passed : ℕ) (talk : Talk) (waits : List Part) (written : ℕ) (stage2 : Stage) (flags2 passed2 : ℕ) (turns : List Turn) (parts : List Part) (speaks : Speaks gone stage flags passed talk waits written stage2 flags2 passed2 turns parts) where
  -- parts that are asked
  pub speaks_parts : (qs : List Part) → is_over stage2 ≡ false → Speaks gone stage flags passed talk (waits ++ qs) written stage2 flags2 passed2 turns (parts ++ qs)
  speaks_parts qs alive = record {
    stage_is = speaks.stage_is;
    flags_are = speaks.flags_are;
    passed_is = speaks.passed_is;
    talk_is = speaks.talk_is;
    waits_are = ap (λ (w : List Part). w ++ qs) speaks.waits_are ∙ sym (waiting_at-append stage2 parts qs gone alive speaks.within);
    within = omega (arith, speaks.within, total-append parts qs);
    written_is = speaks.written_is ∙ sym (whole-append parts qs gone speaks.within);
  }

  -- the same where the parts that wait are said in other words
  pub speaks_parts_as : (qs rs : List Part) → rs ≡ qs → is_over stage2 ≡ false → Speaks gone stage flags passed talk (waits ++ rs) written stage2 flags2 passed2 turns (parts ++ qs)
  speaks_parts_as qs rs same alive = record {
    stage_is = speaks.stage_is;
    flags_are = speaks.flags_are;
    passed_is = speaks.passed_is;
    talk_is = speaks.talk_is;
    waits_are = ap (λ (w : List Part). waits ++ w) same ∙ (speaks_parts qs alive).waits_are;
    within = (speaks_parts qs alive).within;
    written_is = (speaks_parts qs alive).written_is;
  }

  pub speaks_turn : (turn : Turn) → Speaks gone stage flags passed (taking turn talk) waits written stage2 flags2 passed2 (turn ∷ turns) parts
  speaks_turn turn = record {
    stage_is = speaks.stage_is;
    flags_are = speaks.flags_are;
    passed_is = speaks.passed_is;
    talk_is = ap (taking turn) speaks.talk_is ∙ turn_agreed turn turns;
    waits_are = speaks.waits_are;
    within = speaks.within;
    written_is = speaks.written_is;
  }

  pub speaks_flags : (new : ℕ) → Speaks gone stage new passed talk waits written stage2 new passed2 turns parts
  speaks_flags new = record { stage_is = speaks.stage_is; flags_are = refl; passed_is = speaks.passed_is; talk_is = speaks.talk_is; waits_are = speaks.waits_are; within = speaks.within; written_is = speaks.written_is }

  pub speaks_passed : Speaks gone stage flags (passed + 1) talk waits written stage2 flags2 (passed2 + 1) turns parts
  speaks_passed = record { stage_is = speaks.stage_is; flags_are = speaks.flags_are; passed_is = ap (λ (n : ℕ). n + 1) speaks.passed_is; talk_is = speaks.talk_is; waits_are = speaks.waits_are; within = speaks.within; written_is = speaks.written_is }

  pub speaks_dead : (cause : Cause) → Speaks gone (Dead cause) flags passed talk [] written (Dead cause) flags2 passed2 turns parts
  speaks_dead cause = record { stage_is = refl; flags_are = speaks.flags_are; passed_is = speaks.passed_is; talk_is = speaks.talk_is; waits_are = refl; within = speaks.within; written_is = speaks.written_is }

  pub speaks_closed : Speaks gone Closed flags passed talk [] written Closed flags2 passed2 turns parts
  speaks_closed = record { stage_is = refl; flags_are = speaks.flags_are; passed_is = speaks.passed_is; talk_is = speaks.talk_is; waits_are = refl; within = speaks.within; written_is = speaks.written_is }

  -- another living stage
  pub speaks_stage : (new : Stage) → waiting_at stage2 parts gone ≡ waiting_at new parts gone → Speaks gone new flags passed talk waits written new flags2 passed2 turns parts
  speaks_stage new same = record { stage_is = refl; flags_are = speaks.flags_are; passed_is = speaks.passed_is; talk_is = speaks.talk_is; waits_are = speaks.waits_are ∙ same; within = speaks.within; written_is = speaks.written_is }

  -- bytes that go out
  pub speaks_wrote : (n : ℕ) → n ≤ length (out (waiting_at stage2 parts gone)) → Speaks (gone + n) stage flags passed talk (wrote waits n) (written + ended waits n) stage2 flags2 passed2 turns parts
  speaks_wrote n fits = record {
    stage_is = speaks.stage_is;
    flags_are = speaks.flags_are;
    passed_is = speaks.passed_is;
    talk_is = speaks.talk_is;
    waits_are = ap (λ w. wrote w n) speaks.waits_are ∙ sym (waiting_at-more stage2 parts gone n fits);
    within = total_more stage2 parts gone n speaks.within fits;
    written_is = ap (λ w. written + ended w n) speaks.waits_are ∙ ap (λ (x : ℕ). x + ended (waiting_at stage2 parts gone) n) speaks.written_is ∙ whole_more stage2 parts gone n fits;
  }

sent_as : (turn : Turn) (turns : List Turn) → sent_with turn (agreed (turn ∷ turns)) ≡ sent_by turn turns
sent_as turn.Hello turns = refl
sent_as (Replied reply) turns = refl
sent_as (ByName size flags) turns = refl
sent_as (Set setting) turns = refl
sent_as (Opted option) turns = refl

sent_is : (turn : Turn) (talk : Talk) (turns : List Turn) → talk ≡ agreed turns → sent turn talk ≡ sent_by turn turns
sent_is turn talk turns e = ap (λ t. sent_with turn t) (ap (taking turn) e ∙ turn_agreed turn turns) ∙ sent_as turn turns

-- a turn, with the request that it sends
pub speaks_turned : (gone : ℕ) (stage : Stage) (flags passed : ℕ) (talk : Talk) (waits : List Part) (written : ℕ) (stage2 : Stage) (flags2 passed2 : ℕ) (turns : List Turn) (parts : List Part) (turn : Turn) → is_over stage2 ≡ false →
    Speaks gone stage flags passed talk waits written stage2 flags2 passed2 turns parts →
    Speaks gone stage flags passed (taking turn talk) (waits ++ map plain (sent turn talk)) written stage2 flags2 passed2 (turn ∷ turns) (parts ++ map plain (sent_by turn turns))
speaks_turned gone stage flags passed talk waits written stage2 flags2 passed2 turns parts turn alive speaks =
    let e : sent turn talk ≡ sent_by turn turns = sent_is turn talk turns speaks.talk_is in
    subst (λ qs. Speaks gone stage flags passed (taking turn talk) (waits ++ map plain qs) written stage2 flags2 passed2 (turn ∷ turns) (parts ++ map plain (sent_by turn turns))) (sym e)
    (speaks_parts gone stage flags passed (taking turn talk) waits written stage2 flags2 passed2 (turn ∷ turns) parts (speaks_turn gone stage flags passed talk waits written stage2 flags2 passed2 turns parts speaks turn) (map plain (sent_by turn turns)) alive)
