-- The place of a handle has the data that the history says are still to come.
use Rattle.std.proofs.Common.{◌≡◌, ℕ, ◌-◌, ◌&&◌, ◌||◌, Bool, true, false, List, [], length, replicate, take, Option, Some, None, nat_le, refl, ap, sym, ◌∙◌, if◌then◌else◌}
use Rattle.std.proofs.lemmas.Bool.{false≢true}
use Rattle.std.proofs.Math.ListN.{length-replicate}
use Rattle.lnbd_records.specs.Content.{Data}
use Rattle.lnbd_history.specs.declared.kinds.Phase.{Phase}
use Rattle.lnbd_history.specs.declared.kinds.Stage.{Stage}
use Rattle.lnbd_history.specs.Arrivals.{Waiting}
use Rattle.lnbd_history.specs.Commands.{Request}
use Rattle.lnbd_history.specs.Entries.{Filing, is_ended, is_retired, own}
use Rattle.lnbd_history.specs.Events.{History}
use Rattle.lnbd_history.specs.History.{Known, asked, is_taken, reading, request, waiting_of}
use Rattle.lnbd_history.specs.History as h
use Rattle.lnbd_history.specs.Outgoing.{whole}
use Rattle.lnbd_history.specs.Talk.{Talk, agreed}
use Rattle.lnbd_machine.specs.Machine.{Machine, State, machine}
use Rattle.lnbd_machine.specs.Machine as m
use Rattle.lnbd_machine.proofs.Bytes.{waits_are}
use Rattle.lnbd_machine.proofs.Filing.{Stands}
use Rattle.lnbd_machine.proofs.Fold.{row_judges}
use Rattle.lnbd_machine.proofs.Right.{machine_is_right, stands_at}
use Rattle.lnbd_machine.proofs.Table.{row_at}
use Rattle.lnbd_standing.specs.Standing.{StandsFor}
use Rattle.lnbd_commands.specs.Faulty.{faulty_as, faulty_at}
use Rattle.lnbd_arrivals.specs.Frames.{announced_in, front_size, is_chunk, replies_by}
use Rattle.lnbd_arrivals.specs.declared.announced.Announced.{Announced}
use Rattle.lnbd_arrivals.specs.declared.replies.Replies.{Replies}
use Rattle.lnbd_arrivals.proofs.Fronts.{announces_of}
use Rattle.lnbd_handle.specs.Announcing.{announced_where, is_speaking, takes_replies}
use Rattle.lnbd_handle.specs.Placing.{data_to_come, left_of, place_size, without_fault}
use Rattle.lnbd_poll.specs.Coming.{data_to_come_after, data_to_come_where, has_fault_of, if_lawful, reply_begun}

-- a command waits for the reply that is announced
command_waits : (stage : Stage) (p : Phase) (replies : Replies) (waits : ℕ → Option Waiting) (front : List ℕ) (found : Announced) → announced_where stage p replies waits front ≡ Some found → (command : Waiting) × (waits found.cookie ≡ Some command)
command_waits stage p replies waits front found says = go (is_speaking stage && takes_replies p) says
  where
    go : (b : Bool) → (if b then announced_in replies waits front else None) ≡ Some found → (command : Waiting) × (waits found.cookie ≡ Some command)
    go false e = cc
    go true e =
        let all = (announces_of replies waits front found e).whole (replicate found.size 0) (length-replicate {A = ℕ} found.size 0) in
        (all.command, all.waits)

module _ {K : Type 0} where
  -- by what the row of a command shows
  row_faulty : (b gone ended : Bool) (mine : List (Filing K)) (asks : Option (Request K)) (command : Waiting) (offset size : ℕ) → is_ended mine ≡ ended → (gone ≡ true → is_ended mine ≡ true)
      → waiting_of b ended mine asks ≡ Some command → faulty_as (row_at gone mine asks) offset size ≡ has_fault_of asks mine offset size
  row_faulty false gone ended mine asks command offset size e over waits = cc
  row_faulty true gone true mine asks command offset size e over waits = cc
  row_faulty true gone false mine None command offset size e over waits = cc
  row_faulty true true false mine (Some q) command offset size e over waits = absurd (false≢true (sym e ∙ over refl))
  row_faulty true false false mine (Some q) command offset size e over waits = row_judges q mine e [] (Data offset (replicate size 0))

  module _ (history : History K) (state : State K) (known : Known K) (stands : Stands history state known) where
    faulty_same : (cookie offset size : ℕ) (command : Waiting) → h.waited history known cookie ≡ Some command → faulty_at cookie offset size state.rows ≡ has_fault_of (request history cookie) (own cookie known.entries) offset size
    faulty_same cookie offset size command waits =
        ap (λ r. faulty_as r offset size) (stands.tabled.rows_are cookie)
        ∙ row_faulty (nat_le cookie (whole known.parts (asked history).wrote)) (is_taken history cookie || is_retired (own cookie known.entries)) (is_ended (own cookie known.entries)) (own cookie known.entries)
        (request history cookie) command offset size refl (stands.tabled.over cookie) waits

    lawful_same : (found : Option Announced) → ((reply : Announced) → found ≡ Some reply → (command : Waiting) × (h.waited history known reply.cookie ≡ Some command)) → without_fault state.rows found ≡ if_lawful history known found
    lawful_same None waits = refl
    lawful_same (Some reply) waits = let w = waits reply refl in
        ap (λ (b : Bool). if is_chunk reply.carrier && b then None else Some reply) (faulty_same reply.cookie reply.offset reply.size w.0 w.1)

    announced_by : Stage → Talk → (ℕ → Option Waiting) → List ℕ → Option Announced
    announced_by stage talk waits bytes = announced_where stage talk.phase (replies_by talk.structured talk.extended) waits (take (front_size (replies_by talk.structured talk.extended)) bytes)

    left_by : Option Announced → Talk → List ℕ → ℕ
    left_by found talk bytes = left_of found (length bytes - front_size (replies_by talk.structured talk.extended))

    to_come_same : (bytes : List ℕ) → data_to_come state bytes ≡ data_to_come_where history known bytes
    unfolding data_to_come announced_by left_by
    to_come_same bytes =
        let waits : m.waited state ≡ h.waited history known = λ i c. waits_are history [] state known stands c i in
        let s = stands.speaks in
        ap (λ x. left_by (without_fault state.rows (announced_by x state.talk (m.waited state) bytes)) state.talk bytes) s.stage_is
        ∙ ap (λ (t : Talk). left_by (without_fault state.rows (announced_by known.stage t (m.waited state) bytes)) t bytes) s.talk_is
        ∙ ap (λ w. left_by (without_fault state.rows (announced_by known.stage (agreed known.turns) w bytes)) (agreed known.turns) bytes) waits
        ∙ ap (λ (found : Option Announced). left_by found (agreed known.turns) bytes)
        (lawful_same (reply_begun history known bytes) (λ reply says. command_waits _ _ _ (h.waited history known) _ reply says))

  -- where the machine stands for the history
  pub place_stands : (limit : ℕ) (history : History K) (now : Machine K) → StandsFor limit history now → place_size now ≡ data_to_come_after history - 1
  unfolding place_size data_to_come_after
  place_stands limit history now stands =
      ap place_size stands.same
      ∙ ap (λ (bytes : List ℕ). data_to_come (machine history).known bytes - 1) (machine_is_right limit history stands.lawful).pending
      ∙ ap (λ (n : ℕ). n - 1) (to_come_same history (machine history).known (reading history).known (stands_at limit history stands.lawful) (reading history).pending)
