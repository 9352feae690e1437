-- The laws.
use Rattle.std.proofs.lemmas.Bool.{ltb-true}
use Rattle.std.proofs.Common.{◌≡◌, ℕ, ◌+◌, ◌≤◌, ◌<◌, subst, nat_lt, Bool, true, false, not, ◌&&◌, ◌||◌, List, [], ◌∷◌, Option, None, refl, ap, sym, ◌∙◌, arith, if◌then◌else◌}
use Rattle.lnbd_model.specs.declared.export.Context.{Context as MetaContext}
use Rattle.lnbd_model.specs.declared.failure.Failure.{Failure}
use Rattle.lnbd_model.specs.declared.failure.Origin.TheVariants as from
use Rattle.lnbd_outcome.specs.Facts.{Facts, is_bad, telling, closing, facts_of, without_payload, Same}
use Rattle.lnbd_outcome.specs.Faults.{one_if}
use Rattle.lnbd_outcome.proofs.Standing.{facts_stand}
use Rattle.lnbd_outcome.specs.Hearing.{content_heard}
use Rattle.lnbd_outcome.specs.Outcome.{or_else, failing, error_number}
use Rattle.lnbd_outcome.specs.Pieces.{Query, Item, Piece, Framed, is_last}
use Rattle.lnbd_outcome.specs.Pieces.{is_error as tells_error}
use Rattle.lnbd_records.specs.Content.{Content, Data, Hole, Status, Error, ErrorAt, Nothing, Bare}
use Rattle.lnbd_structured.specs.Assembly.{effect_by}
use Rattle.lnbd_structured.specs.Steps.{failed}
use Rattle.lnbd_structured.specs.Laws.{StepsAreOneReply, StandsForItsChunks, FaultsStayFew, EffectsAreHeard, ended_if, facts_by_steps, heard_so, data_told, descriptors_told}
use Rattle.lnbd_chunks.specs.Chunk.{is_done, form_of, is_error}
use Rattle.lnbd_structured.specs.Assembly.{waiting_of}
use Rattle.lnbd_structured.proofs.BreachLemmas.{lawful}
use Rattle.lnbd_structured.proofs.FactLemmas.{or_none}

-- the callback's answer is noted after the reply
heard_after : (query : Query) (contexts : List MetaContext) (item : Item) (heard : ℕ) (facts : Facts) →
    telling query contexts item heard facts ≡ failed heard (telling query contexts item 0 facts)
heard_after query contexts item heard facts =
    ap (λ (f : Option Failure). record (telling query contexts item 0 facts) { failure = or_else f (failing from.Callback heard) }) (sym (or_none _))

not_last : (facts : Facts) → ◌≡◌ {A = Facts} (record facts { failure = or_else facts.failure None }) facts
not_last facts = ap (λ (f : Option Failure). record facts { failure = f }) (or_none facts.failure)

pub one_reply : StepsAreOneReply
one_reply query contexts content heard facts = (
  not_last (telling query contexts (Framed content false) heard facts) ∙ heard_after query contexts (Framed content false) heard facts,
  ap (closing true query contexts) (heard_after query contexts (Framed content true) heard facts),
)

effects : (query : Query) (contexts : List MetaContext) (error : ℕ) (content : Content) (bad : Bool) →
    (if bad then None else content_heard query contexts error content) ≡ heard_so query contexts error (data_told content) (descriptors_told content) (effect_by bad content)
effects query contexts error content true = refl
effects query contexts error (Data offset bytes) false = refl
effects query contexts error (Hole offset size) false = refl
effects query contexts error (Status id descriptors) false = refl
effects query contexts error (Error number) false = refl
effects query contexts error (ErrorAt number offset) false = refl
effects query contexts error Nothing false = refl
effects query contexts error Bare false = refl

pub effects_heard : EffectsAreHeard
effects_heard query contexts facts content last = effects query contexts (error_number facts.failure) content (is_bad query contexts facts content)

-- Step by step.

stepped : (last : Bool) (query : Query) (contexts : List MetaContext) (item : Item) (heard : ℕ) (facts : Facts) →
    closing last query contexts (telling query contexts item heard facts) ≡ ended_if last query contexts (failed heard (telling query contexts item 0 facts))
stepped false query contexts item heard facts = not_last (telling query contexts item heard facts) ∙ heard_after query contexts item heard facts
stepped true query contexts item heard facts = ap (closing true query contexts) (heard_after query contexts item heard facts)

by_steps : (query : Query) (pieces : List Piece) → facts_of query pieces ≡ facts_by_steps query pieces
by_steps query [] = refl
by_steps query (piece ∷ earlier) =
    stepped (is_last piece.item) query piece.contexts piece.item piece.heard (facts_of query earlier)
    ∙ ap (λ (facts : Facts). ended_if (is_last piece.item) query piece.contexts (failed piece.heard (telling query piece.contexts piece.item 0 facts))) (by_steps query earlier)

pub stands : StandsForItsChunks
stands query pieces = subst (λ (facts : Facts). Same query pieces facts) (by_steps (without_payload query) pieces) (facts_stand query pieces)

-- Faults.

below : (a b : Bool) (n : ℕ) → a ≡ false → (nat_lt n 1024 || (a && b)) ≡ true → n < 1024
below true b n none e = absurd (cc (none))
below false b n none e = ltb-true n 1024 (plain (nat_lt n 1024) e)
  where
    plain : (x : Bool) → (x || false) ≡ true → x ≡ true
    plain true h = refl
    plain false h = h

one_more : (b : Bool) (n : ℕ) → n < 1024 → n + one_if b ≤ 1024
one_more true n h = omega (arith, h)
one_more false n h = omega (arith, h)

pub few : FaultsStayFew
few command head bytes contexts content e going =
    let l = lawful command.extended (waiting_of command) head bytes (form_of command.extended head.type) refl e in
    one_more (tells_error content || is_bad command.query contexts command.facts content) command.facts.faults
    (below (is_done head) (not (is_error (form_of command.extended head.type))) command.facts.faults going l.may)
