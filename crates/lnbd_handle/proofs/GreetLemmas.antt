-- What the turns of negotiation queue and change.
use Rattle.std.proofs.Common.{◌≡◌, ℕ, ◌+◌, ◌<◌, ◌≤◌, Bool, true, false, List, [], ◌∷◌, ◌++◌, length, map, ◌^◌, bit_and, Option, Some, Ok, Err, is_some, if◌then◌else◌, refl, ap, sym, ◌∙◌, subst, arith, append-nil, length-append, add_assoc}
use Rattle.std.specs.List.{concat}
use Rattle.lnbd_model.specs.declared.state.Cause.{Cause}
use Rattle.lnbd_model.specs.declared.state.Cause.TheVariants.{Broke, Refused, Ended, LinkFailed}
use Rattle.lnbd_model.specs.declared.breach.Breach.TheVariants.{SizeTooBig}
use Rattle.lnbd_records.specs.Handshake as handshake
use Rattle.lnbd_records.specs.Numbers.{row}
use Rattle.lnbd_records.proofs.NumberLaws.{length-row}
use Rattle.lnbd_records.specs.Told.{Told}
use Rattle.lnbd_history.specs.declared.kinds.Phase.{Phase}
use Rattle.lnbd_history.specs.declared.kinds.Phase.TheVariants as phase
use Rattle.lnbd_history.specs.declared.kinds.Stage.TheVariants.{Open}
use Rattle.lnbd_history.specs.Agreement.{Hello, Replied, end_of}
use Rattle.lnbd_history.specs.Arrivals.{Shown}
use Rattle.lnbd_history.specs.Outgoing.{Part, plain, one_if, client_flags, option_request, option_body, request_at}
use Rattle.lnbd_history.specs.Talk.{Talk, taking, sent}
use Rattle.lnbd_machine.specs.Machine.{greeted, turned}
use Rattle.lnbd_negotiate.specs.Means.{Applies, ToldByName, Takes, next_of}
use Rattle.lnbd_negotiate.specs.declared.kinds.Next.{Next}
use Rattle.lnbd_negotiate.specs.declared.kinds.TalkFault.TheVariants as fault
use Rattle.lnbd_outgoing.specs.Queue.{Queue, waits, AllFit}
use Rattle.lnbd_handle.specs.declared.connection.Connection.{Connection}
use Rattle.lnbd_handle.specs.Greets.{Replies, goes_on}
use Rattle.lnbd_handle.specs.Seen.{AreAhead, IsSound, state_of, writes_in, flies_in, waits_in, ends_in}
use Rattle.lnbd_handle.proofs.TurnLemmas.{open_queue, open_stands}

pub ends_append : (xs : List Part) (part : Part) → ends_in (xs ++ part ∷ []) ≡ ends_in xs + one_if part.ends
ends_append [] part = omega arith
ends_append (x ∷ xs) part = ap (λ n. one_if x.ends + n) (ends_append xs part) ∙ sym (add_assoc (one_if x.ends) (ends_in xs) (one_if part.ends))

pub flags_size : (flags : ℕ) → 0 < length (client_flags flags)
flags_size flags = let n = length-row (handshake.client_flags (bit_and flags 3)) in omega (arith, n)

request_size : (option : ℕ) (body : List ℕ) → 0 < length (option_request option body)
request_size option body = let n = length-row (handshake.option_head option (length body)) in omega (arith, n, length-append (row (handshake.option_head option (length body))) body)

full : (option : ℕ) (body : List ℕ) → [] ≡ option_request option body → ⊥
full option body e = let n = ap length e in absurd (omega (arith, n, request_size option body))

pub one_request : (at : Phase) (name : List ℕ) (wanted : List (List ℕ)) (request : List ℕ) → (request ≡ [] → ⊥) → request ≡ concat (request_at at name wanted) → map plain (request_at at name wanted) ≡ plain request ∷ []
one_request phase.Greeting name wanted request some e = absurd (some e)
one_request (phase.Asked option) name wanted request some e = ap (λ b. plain b ∷ []) (sym (e ∙ append-nil (option_request option (option_body option name wanted))))
one_request phase.AskedByName name wanted request some e = ap (λ b. plain b ∷ []) (sym (e ∙ append-nil (option_request 1 (option_body 1 name wanted))))
one_request phase.OptMode name wanted request some e = absurd (some e)
one_request phase.Ready name wanted request some e = absurd (some e)
one_request (phase.Refused code) name wanted request some e = absurd (some e)

pub no_request : (at : Phase) (name : List ℕ) (wanted : List (List ℕ)) → [] ≡ concat (request_at at name wanted) → map plain (request_at at name wanted) ≡ []
no_request phase.Greeting name wanted e = refl
no_request (phase.Asked option) name wanted e = absurd (full option (option_body option name wanted) (e ∙ append-nil (option_request option (option_body option name wanted))))
no_request phase.AskedByName name wanted e = absurd (full 1 (option_body 1 name wanted) (e ∙ append-nil (option_request 1 (option_body 1 name wanted))))
no_request phase.OptMode name wanted e = refl
no_request phase.Ready name wanted e = refl
no_request (phase.Refused code) name wanted e = refl

pub no_items : (xs : List ℕ) → length xs ≡ 0 → xs ≡ []
no_items [] e = refl
no_items (x ∷ xs) e = absurd (omega (arith, e))

-- what is queued of the request that some bytes are
abbrev pub Queues : List ℕ → List Part → List Part → Type 0
Queues request old new = (at : Phase) (name : List ℕ) (wanted : List (List ℕ)) → request ≡ concat (request_at at name wanted) → new ≡ old ++ map plain (request_at at name wanted)

if_sent : (b : Bool) (at : Phase) (name : List ℕ) (wanted : List (List ℕ)) (request : List ℕ) (old new : List Part) → Queues request old new → request ≡ concat (if b then request_at at name wanted else []) → new ≡ old ++ map plain (if b then request_at at name wanted else [])
if_sent true at name wanted request old new queues e = queues at name wanted e
if_sent false at name wanted request old new queues e = queues phase.Greeting name wanted e

goes : (at : Phase) (next : Next) → next_of at ≡ Some next → goes_on at ≡ true
goes phase.Greeting next e = refl
goes (phase.Asked option) next e = refl
goes phase.AskedByName next e = refl
goes phase.OptMode next e = refl
goes phase.Ready next e = refl
goes (phase.Refused code) next e = cc

module _ {K : Type 0} where
  pub talk_sound : (old : Connection K) (talk : Talk) → old.stage ≡ Open → IsSound old → IsSound (record old { talk = talk })
  talk_sound old talk opened s = record { fits = s.fits; ahead = s.ahead; stands = open_stands old.stage talk.phase old.queue.ended opened (open_queue old s opened); counted = s.counted }

  pub queue_sound : (old : Connection K) (flags : ℕ) (talk : Talk) (queue : Queue) → old.stage ≡ Open → IsSound old → AllFit (writes_in old.commands) queue.pieces → AreAhead (flies_in old.commands) old.written queue.pieces → queue.ended ≡ false → ends_in (waits (writes_in old.commands) queue) ≡ ends_in (waits_in old) →
      IsSound (record old { flags = flags; talk = talk; queue = queue })
  queue_sound old flags talk queue opened s fits ahead ended same = record {
    fits = fits;
    ahead = ahead;
    stands = open_stands old.stage talk.phase queue.ended opened ended;
    counted = subst (λ n. old.written + n ≤ old.commands.issued) (sym same) s.counted;
  }

  pub greeted_state : (old : Connection K) (flags : ℕ) (talk : Talk) (queue : Queue) (request : List ℕ) (middle : List Part) → talk ≡ taking Hello old.talk → request ≡ concat (sent Hello old.talk) →
      middle ≡ waits_in old ++ plain (client_flags flags) ∷ [] → Queues request middle (waits (writes_in old.commands) queue) →
      state_of (record old { flags = flags; talk = talk; queue = queue }) ≡ greeted flags (state_of old)
  greeted_state old flags talk queue request middle taken e first queues =
      let t = taking Hello old.talk in
      let all : waits (writes_in old.commands) queue ≡ (waits_in old ++ plain (client_flags flags) ∷ []) ++ map plain (sent Hello old.talk) =
      queues t.phase t.name t.wanted e ∙ ap (λ m. m ++ map plain (sent Hello old.talk)) first in
      ap (λ t. state_of (record old { flags = flags; talk = t; queue = queue })) taken ∙ ap (λ w. record (state_of (record old { flags = flags; talk = taking Hello old.talk })) { waits = w }) all

  pub replied_state : (old : Connection K) (talk : Talk) (queue : Queue) (told : Told) (request : List ℕ) → Takes (Replied told) old.talk talk [] request → Queues request (waits_in old) (waits (writes_in old.commands) queue) →
      state_of (record old { talk = talk; queue = queue }) ≡ turned (Replied told) (state_of old)
  replied_state old talk queue told request takes queues =
      let t = taking (Replied told) old.talk in
      let all : waits (writes_in old.commands) queue ≡ waits_in old ++ map plain (sent (Replied told) old.talk) =
      if_sent (is_some (end_of told)) t.phase t.name t.wanted request (waits_in old) (waits (writes_in old.commands) queue) queues takes.sends in
      ap (λ t. state_of (record old { talk = t; queue = queue })) takes.talk ∙ ap (λ w. record (state_of (record old { talk = taking (Replied told) old.talk })) { waits = w }) all

  pub replied_well : (old : Connection K) (talk : Talk) (queue : Queue) (verdict : Option Shown) (request : List ℕ) (next : Next) → Applies old.talk verdict [] (Ok next) talk request → Queues request (waits_in old) (waits (writes_in old.commands) queue) →
      Replies (state_of old) verdict (Ok tt) (state_of (record old { talk = talk; queue = queue }))
  replied_well old talk queue verdict request next a queues = (a.0, a.1, replied_state old talk queue a.0 request a.2 queues, goes talk.phase next a.3)

  pub replied_ill : (old : Connection K) (talk : Talk) (queue : Queue) (verdict : Option Shown) (request : List ℕ) (cause : Cause) → Applies old.talk verdict [] (Err (fault.Cause cause)) talk request → Queues request (waits_in old) (waits (writes_in old.commands) queue) →
      Replies (state_of old) verdict (Err (fault.Cause cause)) (state_of (record old { talk = talk; queue = queue }))
  replied_ill old talk queue verdict request (Broke breach) a queues =
      let same : waits (writes_in old.commands) queue ≡ waits_in old = queues phase.Greeting [] [] a.1.sends ∙ append-nil (waits_in old) in
      (a.0, ap (λ t. state_of (record old { talk = t; queue = queue })) a.1.talk ∙ ap (λ w. record (state_of old) { waits = w }) same)
  replied_ill old talk queue verdict request (Refused option code) a queues = (a.0, a.1, replied_state old talk queue a.0 request a.2 queues, a.3, a.4)
  replied_ill old talk queue verdict request Ended a queues = absurd a
  replied_ill old talk queue verdict request LinkFailed a queues = absurd a

pub told_cause : (old : Talk) (size flags : ℕ) (cause : Cause) (new : Talk) → ToldByName old size flags (Err (fault.Cause cause)) new → (cause ≡ Broke SizeTooBig) × (2 ^ 63 ≤ size) × (new ≡ old)
told_cause old size flags (Broke breach) new e = (ap Broke e.1, e.0, e.2)
told_cause old size flags (Refused option code) new e = absurd e
told_cause old size flags Ended new e = absurd e
told_cause old size flags LinkFailed new e = absurd e
