-- A handle that waits only to read: what is unanswered on its link.
use Rattle.std.proofs.Common.{◌≡◌, ◌≢◌, ℕ, zero, suc, ◌+◌, ◌-◌, ◌<◌, ◌≤◌, ◌⊎◌, inl, inr, Bool, true, false, List, [], ◌∷◌, ◌++◌, length, drop, is_some, ◌==◌, nat_lt, refl, ap, sym, subst, ◌∙◌, arith, if◌then◌else◌, length-append}
use Rattle.std.specs.List.{flat_map}
use Rattle.std.proofs.lemmas.Bool.{false≢true, eqb-true, lt-ltb, le-leb, ltb-true, ltb-false}
use Rattle.std.proofs.lemmas.List.{length-drop}
use Rattle.lnbd_model.specs.declared.state.State.TheVariants as state
use Rattle.lnbd_records.specs.Numbers.{row}
use Rattle.lnbd_stream.specs.Stream.{Held}
use Rattle.lnbd_history.specs.declared.kinds.Phase.{Phase}
use Rattle.lnbd_history.specs.declared.kinds.Phase.TheVariants as phase
use Rattle.lnbd_history.specs.declared.kinds.Stage.{Stage}
use Rattle.lnbd_history.specs.declared.kinds.Stage.TheVariants.{Created, Open, Disconnecting, Aborting, Closed, Dead}
use Rattle.lnbd_history.specs.Agreement.{phase, steps, extended}
use Rattle.lnbd_history.specs.Answers.{is_living, direction_of, state_at, state_after, out_after, in_flight_after}
use Rattle.lnbd_history.specs.Entries.{Entry}
use Rattle.lnbd_history.specs.Events.{History}
use Rattle.lnbd_history.specs.History.{asked, reading, in_flight, flying, waiting_at}
use Rattle.lnbd_history.specs.Outgoing.{Part, plain, waiting, out}
use Rattle.lnbd_link.specs.Call.{Call}
use Rattle.lnbd_asked.specs.Client.{Said, Flags, Wishes, Orders, Stray, order_head, spell}
use Rattle.lnbd_asked.specs.Link.{Link, kind_of, is_by_name}
use Rattle.lnbd_asked.specs.Parts.{parts_of, request_parts, count}
use Rattle.lnbd_asked.specs.Transcript.{on_link}
use Rattle.lnbd_asked.proofs.Alive.{Owed, Meets, Haggles, Transmits, Alive, Stands, is_done}
use Rattle.lnbd_asked.proofs.Chain.{Reaches}
use Rattle.lnbd_asked.proofs.Counting.{head_long}
use Rattle.lnbd_asked.proofs.Driving.{held_of, drives_at, At}
use Rattle.lnbd_asked.proofs.Match.{both_fly}
use Rattle.lnbd_asked.proofs.Sending.{Sends, offered}
use Rattle.lnbd_asked.proofs.Steps.{matches}
use Rattle.lnbd_lively.specs.Lively.{IsDrivenNow, WaitsToRead}

-- Where something is to be said, bytes of it are offered.

some_of : (part : Part) (ps : List Part) (k : ℕ) → k < length part.bytes → 0 < length (out (waiting (part ∷ ps) k))
some_of part ps k less = go (k == 0) refl
  where
    inner : (b : Bool) → nat_lt k (length part.bytes) ≡ b → 0 < length (out (if b then record { bytes = drop k part.bytes; ends = part.ends } ∷ ps else waiting ps (k - length part.bytes)))
    inner true e = let n = length-drop k part.bytes in omega (arith, n, less)
    inner false e = absurd (false≢true (sym e ∙ lt-ltb k (length part.bytes) less))

    go : (b : Bool) → (k == 0) ≡ b → 0 < length (out (if b then part ∷ ps else if nat_lt k (length part.bytes) then record { bytes = drop k part.bytes; ends = part.ends } ∷ ps else waiting ps (k - length part.bytes)))
    go true e = omega (arith, less)
    go false e = inner (nat_lt k (length part.bytes)) refl

-- the second part, once the first is out
past_first : (part : Part) (ps : List Part) (k : ℕ) → 0 < length part.bytes → length part.bytes ≤ k → waiting (part ∷ ps) k ≡ waiting ps (k - length part.bytes)
past_first part ps k some past = go (k == 0) refl (nat_lt k (length part.bytes)) refl
  where
    go : (a : Bool) → (k == 0) ≡ a → (b : Bool) → nat_lt k (length part.bytes) ≡ b → waiting (part ∷ ps) k ≡ waiting ps (k - length part.bytes)
    go true e b f = let z = eqb-true k 0 e in absurd (omega (arith, z, some, past))
    go false e true f = let l = ltb-true k (length part.bytes) f in absurd (omega (arith, l, past))
    go false e false f =
        ap (λ (c : Bool). if c then part ∷ ps else if nat_lt k (length part.bytes) then record { bytes = drop k part.bytes; ends = part.ends } ∷ ps else waiting ps (k - length part.bytes)) e
        ∙ ap (λ (c : Bool). if c then record { bytes = drop k part.bytes; ends = part.ends } ∷ ps else waiting ps (k - length part.bytes)) f

request_some : (ends : Bool) (head payload : List ℕ) (ps : List Part) (k : ℕ) → 0 < length head → k < length (head ++ payload) → 0 < length (out (waiting (request_parts ends head payload ++ ps) k))
request_some ends head [] ps k some less = let size = length-append head [] in some_of (record { bytes = head; ends = ends }) ps k (omega (arith, less, size))
request_some ends head (byte ∷ bytes) ps k some less = go (nat_lt k (length head)) refl
  where
    size : length (head ++ byte ∷ bytes) ≡ length head + length (byte ∷ bytes)
    size = length-append head (byte ∷ bytes)

    go : (b : Bool) → nat_lt k (length head) ≡ b → 0 < length (out (waiting (plain head ∷ record { bytes = byte ∷ bytes; ends = ends } ∷ ps) k))
    go true e = some_of (plain head) (record { bytes = byte ∷ bytes; ends = ends } ∷ ps) k (ltb-true k (length head) e)
    go false e =
        let large = ltb-false k (length head) e in
        let p = past_first (plain head) (record { bytes = byte ∷ bytes; ends = ends } ∷ ps) k some (omega (arith, large)) in
        let m = some_of (record { bytes = byte ∷ bytes; ends = ends }) ps (k - length head) (omega (arith, less, large, size)) in
        let same = ap (λ (w : List Part). length (out w)) p in
        omega (arith, m, same)

said_some : (extended : Bool) (one : Said) (ps : List Part) (k : ℕ) → k < length (spell extended one) → 0 < length (out (waiting (parts_of extended one ++ ps) k))
said_some extended (Flags flags) ps k less = some_of (plain (spell extended (Flags flags))) ps k less
said_some extended (Wishes wish) ps k less = some_of (plain (spell extended (Wishes wish))) ps k less
said_some extended (Orders order) ps k less = request_some (is_some (kind_of order.type)) (row (order_head extended order)) order.payload ps k (omega (arith, head_long extended order)) less
said_some extended Stray ps k less = absurd (omega (arith, less))

-- Where no bytes are offered, nothing is to be said.
all_said : (extended : Bool) (parts : List Part) (wrote : ℕ) (front rest : List Said) (written : List ℕ) → Sends extended parts wrote front rest written → out (waiting parts wrote) ≡ [] → rest ≡ []
all_said extended parts wrote front [] written s none = refl
all_said extended parts wrote front (one ∷ more) written s none =
    let some = said_some extended one (flat_map (parts_of extended) more) (length written) s.part in
    let given = ap length (sym (offered extended parts wrote front (one ∷ more) written s) ∙ none) in
    absurd (omega (arith, some, given))

none_both : (one other : List Said) → one ++ other ≡ [] → (one ≡ []) × (other ≡ [])
none_both [] other e = (refl, e)
none_both (x ∷ one) other e = cc

-- What is unanswered on a link.

-- an answer in negotiation
abbrev pub IsHaggling : Phase → (by_name : Bool) → Type 0
IsHaggling phase.Greeting by_name = Unit {0}
IsHaggling (phase.Asked option) by_name = Unit {0}
IsHaggling phase.AskedByName by_name = ⊥
IsHaggling phase.OptMode by_name = by_name ≡ true
IsHaggling phase.Ready by_name = ⊥
IsHaggling (phase.Refused code) by_name = ⊥

abbrev pub WaitsForAnswer : Link → Type 0
WaitsForAnswer known = (known.heard.stage ≡ Open) × IsHaggling (phase known.heard.turns) (is_by_name known.wishes)

-- a reply to a request
pub record WaitsForReply (known : Link) : Type 0 where
  pub cookie : ℕ
  pub flies : in_flight known.requests known.heard.entries cookie ≡ true
  pub ready : phase known.heard.turns ≡ phase.Ready

-- Where a handle waits only to read, it has said all, and is living.

one_living : (living : Bool) (bytes : List ℕ) → direction_of living bytes ≡ 1 → (living ≡ true) × (bytes ≡ [])
one_living false bytes e = absurd (omega (arith, e))
one_living true [] e = (refl, refl)
one_living true (byte ∷ bytes) e = absurd (omega (arith, e))

living_waits : (stage : Stage) (parts : List Part) (n : ℕ) → is_living stage ≡ true → waiting_at stage parts n ≡ waiting parts n
living_waits Created parts n e = cc
living_waits Open parts n e = refl
living_waits Disconnecting parts n e = refl
living_waits Aborting parts n e = refl
living_waits Closed parts n e = cc
living_waits (Dead why) parts n e = cc

living_done : (stage : Stage) → is_living stage ≡ true → is_done stage ≡ true → ⊥
living_done Created l d = false≢true l
living_done Open l d = false≢true d
living_done Disconnecting l d = false≢true d
living_done Aborting l d = false≢true d
living_done Closed l d = false≢true l
living_done (Dead why) l d = false≢true l

ready_state : (stage : Stage) → state_at stage phase.Ready ≡ state.Negotiating → ⊥
ready_state Created e = cc
ready_state Open e = cc
ready_state Disconnecting e = cc
ready_state Aborting e = cc
ready_state Closed e = cc
ready_state (Dead why) e = cc

-- negotiation goes on on both sides
meets_haggling : (p : Phase) (link : Link) → Meets p link → IsHaggling (phase link.heard.turns) (is_by_name link.wishes)
meets_haggling phase.Greeting link m = subst (λ (q : Phase). IsHaggling q (is_by_name link.wishes)) (sym m.0) tt
meets_haggling (phase.Asked option) link m = subst (λ (q : Phase). IsHaggling q (is_by_name link.wishes)) (sym m.0) tt
meets_haggling phase.AskedByName link m = subst (λ (q : Phase). IsHaggling q (is_by_name link.wishes)) (sym m.0) m.1
meets_haggling phase.OptMode link m = absurd m
meets_haggling phase.Ready link m = absurd m
meets_haggling (phase.Refused code) link m = absurd m

module _ {K : Type 0} where
  -- one of those in flight
  pub some_flies : (history : History K) (entries : List (Entry K)) (n : ℕ) → flying history entries n ≢ 0 → (c : ℕ) × (c ≤ n) × (in_flight history entries c ≡ true)
  some_flies history entries zero some = absurd (some refl)
  some_flies history entries (suc n) some = go (in_flight history entries (suc n)) refl (λ more. some_flies history entries n more)
    where
      go : (b : Bool) → in_flight history entries (suc n) ≡ b → (flying history entries n ≢ 0 → (c : ℕ) × (c ≤ n) × (in_flight history entries c ≡ true)) → (c : ℕ) × (c ≤ suc n) × (in_flight history entries c ≡ true)
      go true e earlier = (suc n, omega arith, e)
      go false e earlier =
          let rest = earlier (λ none. some (ap (λ (b : Bool). flying history entries n + (if b then 1 else 0)) e ∙ plus_none (flying history entries n) none)) in
          (rest.0, let low = rest.1 in omega (arith, low), rest.2)
        where
          plus_none : (k : ℕ) → k ≡ 0 → k + 0 ≡ 0
          plus_none k e = omega (arith, e)

  alive_waits : (history : History K) (h : Held Link) (written : List ℕ) → WaitsToRead history → Alive history (reading history) h written → WaitsForAnswer h.known ⊎ WaitsForReply h.known
  alive_waits history h written waits a = subst (λ (k : Held Link). WaitsForAnswer k.known ⊎ WaitsForReply k.known) (sym same) (go a.stands)
    where
      alone : (is_living (reading history).known.stage ≡ true) × (out_after history ≡ [])
      alone = one_living (is_living (reading history).known.stage) (out_after history) waits.alone

      none : out (waiting (reading history).known.parts (asked history).wrote) ≡ []
      none = ap out (sym (living_waits (reading history).known.stage (reading history).known.parts (asked history).wrote alone.0)) ∙ alone.1

      said : (a.asks ≡ []) × (a.orders ≡ [])
      said = none_both a.asks a.orders (all_said (extended (steps (reading history).known.turns)) (reading history).known.parts (asked history).wrote a.front (a.asks ++ a.orders) written (a.sends (extended (steps (reading history).known.turns)) (λ r. refl)) none)

      same : h ≡ a.v
      same = subst (λ (asks : List Said). Reaches h asks a.v) said.0 a.reach

      go : Haggles history (reading history).known a.v.known a.front a.orders ⊎ Transmits history (reading history).known a.v.known a.front a.asks a.orders → WaitsForAnswer a.v.known ⊎ WaitsForReply a.v.known
      go (inl g) = inl (g.stage', meets_haggling (phase (reading history).known.turns) a.v.known g.meets)
      go (inr t) = inr (by waits.waits)
        where
          issued : (asked history).issued ≡ count a.front
          issued = subst (λ (os : List Said). Owed (extended (steps (reading history).known.turns)) history (count a.front) os) said.1 t.owed

          by : (state_after history ≡ state.Negotiating) ⊎ (in_flight_after history ≢ 0) → WaitsForReply a.v.known
          by (inl nay) = absurd (ready_state (reading history).known.stage (ap (state_at (reading history).known.stage) (sym t.step.ready) ∙ nay))
          by (inr some) =
              let one = some_flies history (reading history).known.entries (asked history).issued some in
              let low = one.1 in
              record {
                cookie = one.0;
                flies = sym (both_fly history a.v.known.requests (count a.front) t.step.requests one.0 (reading history).known a.v.known.heard (le-leb one.0 (count a.front) (omega (arith, low, issued))) (matches history (count a.front) (reading history).known a.v.known t.step)) ∙ one.2;
                ready = t.step.ready';
              }

  -- So an answer or a reply is still to come on its link.
  pub handle_waits : (link : ℕ) (calls : List Call) (history : History K) → IsDrivenNow link history calls → WaitsToRead history → WaitsForAnswer (on_link link calls) ⊎ WaitsForReply (on_link link calls)
  handle_waits link calls history d waits = subst (λ (known : Link). WaitsForAnswer known ⊎ WaitsForReply known) (sym (ap (λ both. both.link) at.there)) (go at.stands)
    where
      at : At link calls history []
      at = drives_at d.limit link calls history [] d.drives d.lawful d.spelled d.going (λ n. d.mode)

      go : Stands history (reading history) (held_of at.before) at.before.written → WaitsForAnswer at.before.link ⊎ WaitsForReply at.before.link
      go (inl a) = alive_waits history (held_of at.before) at.before.written waits a
      go (inr o) = absurd (living_done (reading history).known.stage (one_living (is_living (reading history).known.stage) (out_after history) waits.alone).0 o.done_)
