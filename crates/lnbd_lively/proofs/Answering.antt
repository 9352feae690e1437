-- What is unanswered on a link whose session isn't at its end is on its way, or pending.
use Rattle.std.proofs.Common.{◌≡◌, ℕ, ◌+◌, ◌<◌, ◌⊎◌, inl, inr, Bool, true, false, not, ◌&&◌, List, [], ◌∷◌, ◌++◌, length, Option, Some, None, is_some, refl, ap, sym, subst, ◌∙◌, arith, length-append}
use Rattle.std.specs.List.{flat_map}
use Rattle.lnbd_stream.specs.Laws.{IsPart}
use Rattle.lnbd_history.specs.declared.kinds.Phase.{Phase}
use Rattle.lnbd_history.specs.declared.kinds.Phase.TheVariants as phase
use Rattle.lnbd_history.specs.declared.kinds.Stage.TheVariants.{Open, Dead}
use Rattle.lnbd_history.specs.Agreement.{phase}
use Rattle.lnbd_history.specs.Commands.{Request as Asking}
use Rattle.lnbd_history.specs.Entries.{own, is_ended}
use Rattle.lnbd_history.specs.History.{request}
use Rattle.lnbd_link.specs.Call.{Call}
use Rattle.lnbd_asked.specs.Link.{Nobody, Link, is_by_name}
use Rattle.lnbd_asked.specs.Transcript.{on_link, untold, after_calls}
use Rattle.lnbd_export.specs.Requests.{is_extended}
use Rattle.lnbd_export.specs.declared.request.Request.{Request}
use Rattle.lnbd_server.specs.declared.stage.Stage.{Stage}
use Rattle.lnbd_memnet.specs.Network.{Network, link_in, export_in}
use Rattle.lnbd_memnet.specs.Wires.{Begins, Played, None_yet, Then}
use Rattle.lnbd_served.proofs.Honest.{played_count, servable_first}
use Rattle.lnbd_served.proofs.Items.{Said, Greets, encode, ends_answer}
use Rattle.lnbd_served.proofs.Targets.{Targets, targets_first, targets_then}
use Rattle.lnbd_served.proofs.Worlds.{opened_there}
use Rattle.lnbd_lively.specs.Known.{was_unknown, GoIsKnown}
use Rattle.lnbd_lively.specs.Lively.{OpenAnswer}
use Rattle.lnbd_lively.proofs.Owing.{IsPending, IsComing, Expects, Stands, IsAt}
use Rattle.lnbd_lively.proofs.Calls.{all_live}
use Rattle.lnbd_lively.proofs.Hearing.{dead_open}
use Rattle.lnbd_lively.proofs.Waiting.{IsHaggling, WaitsForAnswer, WaitsForReply, handle_waits}

-- A thing that is on its way has bytes that wait.
rest_waits : (read out : List ℕ) (rest : List Said) → read ++ out ≡ flat_map encode rest → IsPart encode read rest → (rest ≡ [] → ⊥) → 0 < length out
rest_waits read out [] left part some = absurd (some refl)
rest_waits read out (one ∷ more) left part some =
    let n = ap length left in
    let less : length read < length (encode one) = part in
    omega (arith, n, less, length-append read out, length-append (encode one) (flat_map encode more))

pending_waits : (c : ℕ) (waiting : List Request) → IsPending c waiting → 0 < length waiting
pending_waits c [] p = absurd p
pending_waits c (first ∷ waiting) p = omega arith

coming_some : (c : ℕ) (rest : List Said) → IsComing c rest → rest ≡ [] → ⊥
coming_some c rest p none = subst (λ (xs : List Said). IsComing c xs) none p

answer_some : (rest : List Said) → ends_answer rest ≡ true → rest ≡ [] → ⊥
answer_some rest e none = let nay : false ≡ true = sym (ap ends_answer none) ∙ e in cc

greets_some : (rest : List Said) → rest ≡ Greets ∷ [] → rest ≡ [] → ⊥
greets_some rest e none = let n = ap length (sym e ∙ none) in omega (arith, n)

-- what flies was asked and isn't ended
flies_is : (known : Link) (c : ℕ) (v : Option (Asking Nobody)) (b : Bool) → request known.requests c ≡ v → is_ended (own c known.heard.entries) ≡ b → (is_some v && not b) ≡ true → (q : Asking Nobody) × (request known.requests c ≡ Some q) × (is_ended (own c known.heard.entries) ≡ false)
flies_is known c None b e f t = cc
flies_is known c (Some q) true e f t = cc
flies_is known c (Some q) false e f t = (q, e, f)

module _ (size : ℕ) (waiting : List Request) (stage : Stage) (ext : Bool) (read out : List ℕ) (known : Link) where
  more_out : 0 < length out → 0 < length out + length waiting
  more_out some = omega (arith, some)

  more_waiting : 0 < length waiting → 0 < length out + length waiting
  more_waiting some = omega (arith, some)

  stands_out : (s : Stands size waiting stage ext read out known) → (s.rest ≡ [] → ⊥) → 0 < length out + length waiting
  stands_out s some = more_out (rest_waits read out s.rest s.left s.part some)

  -- An answer is awaited.
  answer_more : (s : Stands size waiting stage ext read out known) (p : Phase) (b : Bool) → IsHaggling p b → Expects size waiting b known.requests known.heard.entries p s.rest → 0 < length out + length waiting
  answer_more s phase.Greeting b h e = stands_out s (greets_some s.rest e.0)
  answer_more s (phase.Asked option) b h e = stands_out s (answer_some s.rest e.1)
  answer_more s phase.AskedByName b h e = absurd h
  answer_more s phase.OptMode true h e = stands_out s (λ none. let n = ap length (sym e.0.1 ∙ none) in omega (arith, n))
  answer_more s phase.OptMode false h e = cc
  answer_more s phase.Ready b h e = absurd h
  answer_more s (phase.Refused code) b h e = absurd h

  -- A reply is awaited.
  reply_more : IsAt size waiting stage ext read out known → WaitsForReply known → 0 < length out + length waiting
  reply_more at w = go at (flies_is known w.cookie (request known.requests w.cookie) (is_ended (own w.cookie known.heard.entries)) refl refl w.flies)
    where
      go : IsAt size waiting stage ext read out known → ((q : Asking Nobody) × (request known.requests w.cookie ≡ Some q) × (is_ended (own w.cookie known.heard.entries) ≡ false)) → 0 < length out + length waiting
      go (inl over) (q, is, open_) = absurd (let nay : true ≡ false = sym (over.1 w.cookie q is) ∙ open_ in cc)
      go (inr s) (q, is, open_) =
          let e = subst (λ (p : Phase). Expects size waiting (is_by_name known.wishes) known.requests known.heard.entries p s.rest) w.ready s.awaits.expects in
          owed (e.1 w.cookie q is open_)
        where
          owed : IsPending w.cookie waiting ⊎ IsComing w.cookie s.rest → 0 < length out + length waiting
          owed (inl pending) = more_waiting (pending_waits w.cookie waiting pending)
          owed (inr coming) = stands_out s (coming_some w.cookie s.rest coming)

  at_more : IsAt size waiting stage ext read out known → WaitsForAnswer known ⊎ WaitsForReply known → 0 < length out + length waiting
  at_more at (inr w) = reply_more at w
  at_more (inl over) (inl w) = absurd (let bad : Open ≡ Dead over.0.0 = sym w.0 ∙ over.0.1 in cc)
  at_more (inr s) (inl w) = answer_more s (phase known.heard.turns) (is_by_name known.wishes) w.1 s.awaits.expects

-- the links stand for what was connected
pub targets_all : (first : Network) (calls : List Call) (network : Network) → Begins first → Played first calls network → Targets calls network
targets_all first calls network begins (None_yet _ _ none is) = subst (λ (cs : List Call). Targets cs network) (sym none) (subst (λ (x : Network). Targets [] x) (sym is) (targets_first first begins))
targets_all first calls network begins (Then earlier _ before _ call played plays is) = subst (λ (cs : List Call). Targets cs network) (sym is) (targets_then earlier call before network plays (targets_all first earlier before begins played))

pub open_answer : {K : Type 0} → OpenAnswer K
open_answer calls network link history came servable speaks opened goes driven waits =
    at_more (length (export_in came.first.exports (link_in network.links link).place).export.bytes) (link_in network.links link).session.dialogue.waiting (link_in network.links link).session.dialogue.stage (is_extended (link_in network.links link).session.dialogue.agreed.replies) (after_calls link untold calls).read (link_in network.links link).session.dialogue.out (on_link link calls)
    (all_live came.first came.begins (link_in network.links link).place less (servable_first came.first calls network (link_in network.links link).place came.played (servable (link_in network.links link).place there)) link calls network came.played speaks (inl refl) goes)
    (handle_waits link calls history driven waits)
  where
    there : (link_in network.links link).place < length network.exports
    there = (targets_all came.first calls network came.begins came.played).hosted link (opened_there network.links link opened)

    less : (link_in network.links link).place < length came.first.exports
    less = let n = played_count came.first calls network came.played in let m = there in omega (arith, n, m)

-- GO isn't refused as unknown.
pub go_is_known : GoIsKnown
go_is_known calls network link came servable speaks opened goes open_ =
    known_at (all_live came.first came.begins (link_in network.links link).place less (servable_first came.first calls network (link_in network.links link).place came.played (servable (link_in network.links link).place there)) link calls network came.played speaks (inl refl) goes)
  where
    there : (link_in network.links link).place < length network.exports
    there = (targets_all came.first calls network came.begins came.played).hosted link (opened_there network.links link opened)

    less : (link_in network.links link).place < length came.first.exports
    less = let n = played_count came.first calls network came.played in let m = there in omega (arith, n, m)

    known_at : IsAt (length (export_in came.first.exports (link_in network.links link).place).export.bytes) (link_in network.links link).session.dialogue.waiting (link_in network.links link).session.dialogue.stage
        (is_extended (link_in network.links link).session.dialogue.agreed.replies) (after_calls link untold calls).read (link_in network.links link).session.dialogue.out (on_link link calls) → was_unknown (on_link link calls).heard.turns ≡ false
    known_at (inl over) = absurd (dead_open (on_link link calls) over open_)
    known_at (inr s) = s.awaits.knew
