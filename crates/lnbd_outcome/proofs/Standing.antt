-- The facts that are kept of a command say what all that came for it says.
use Rattle.std.proofs.Common.{◌≡◌, ℕ, ◌+◌, Bool, true, false, not, ◌&&◌, ◌||◌, List, [], ◌∷◌, Option, None, refl, ap, sym, ◌∙◌, arith, ◌==◌, nat_le, nat_lt, if◌then◌else◌}
use Rattle.lnbd_extents.specs.Positions.{within, holds, any_at, all_at}
use Rattle.lnbd_extents.specs.Ranges.{with_positions}
use Rattle.lnbd_extents.proofs.RangeLaws.{holds-with_positions}
use Rattle.lnbd_model.specs.Kind.{is_status}
use Rattle.lnbd_model.specs.declared.errors.TheConstants.{EPROTO}
use Rattle.lnbd_model.specs.declared.export.Context.{Context as MetaContext}
use Rattle.lnbd_model.specs.declared.failure.Failure.{Failure}
use Rattle.lnbd_model.specs.declared.failure.Origin.TheVariants as from
use Rattle.lnbd_records.specs.Content.{Content, Data, Hole, Status, Error, ErrorAt, Nothing, Bare}
use Rattle.lnbd_outcome.specs.Pieces.{Query, Item, Framed, Lost, Dropped, Piece, is_whole, is_single, is_last, is_content, is_error, content_of, start_of, size_of, has_place, came}
use Rattle.lnbd_outcome.specs.Faults.{told, content_fault, context_told, tells_context, fault_by, has_fault, has_all, faults, one_if, is_complete}
use Rattle.lnbd_outcome.specs.Outcome.{failing, or_else, error_number, item_failure, failure}
use Rattle.lnbd_outcome.specs.Hearing.{Hearing, content_heard, hearing}
use Rattle.lnbd_outcome.specs.Facts.{Facts, no_facts, has, without_payload, is_bad, contexts_with, failure_told, telling_as, telling, is_told, closing, heard_by, facts_of, Same}
use Rattle.lnbd_outcome.specs.Laws.{FactsStand}

-- The bytes to be written count for nothing.

fault_without : (query : Query) (contexts : List MetaContext) (before : Bool) (some : ℕ → ℕ → Bool) (told : ℕ → Bool) (content : Content) →
    fault_by (without_payload query) contexts before some told content ≡ fault_by query contexts before some told content
fault_without query contexts before some told (Data offset bytes) = refl
fault_without query contexts before some told (Hole offset size) = refl
fault_without query contexts before some told (Status id descriptors) = refl
fault_without query contexts before some told (Error number) = refl
fault_without query contexts before some told (ErrorAt number offset) = refl
fault_without query contexts before some told Nothing = refl
fault_without query contexts before some told Bare = refl

heard_without : (query : Query) (contexts : List MetaContext) (error : ℕ) (content : Content) →
    content_heard (without_payload query) contexts error content ≡ content_heard query contexts error content
heard_without query contexts error (Data offset bytes) = refl
heard_without query contexts error (Hole offset size) = refl
heard_without query contexts error (Status id descriptors) = refl
heard_without query contexts error (Error number) = refl
heard_without query contexts error (ErrorAt number offset) = refl
heard_without query contexts error Nothing = refl
heard_without query contexts error Bare = refl

-- The places, the contexts, whether content came and the first error decide all that follows.
module _ (query : Query) (pieces : List Piece) (facts : Facts)
    (places : (p : ℕ) → holds facts.told p ≡ told query pieces p) (ids : (id : ℕ) → has facts.contexts id ≡ context_told query pieces id)
    (before : facts.came ≡ came pieces) (first : facts.failure ≡ failure query pieces) where
  places_are : holds facts.told ≡ told query pieces
  places_are i p = places p i

  ids_are : has facts.contexts ≡ context_told query pieces
  ids_are i id = ids id i

  judged_so : (contexts : List MetaContext) (content : Content) → is_bad (without_payload query) contexts facts content ≡ has_fault query pieces contexts content
  judged_so contexts content =
      fault_without query contexts facts.came (any_at (holds facts.told)) (has facts.contexts) content
      ∙ ap (λ (b : Bool). fault_by query contexts b (any_at (holds facts.told)) (has facts.contexts) content) before
      ∙ ap (λ (t : ℕ → Bool). fault_by query contexts (came pieces) (any_at t) (has facts.contexts) content) places_are
      ∙ ap (λ (t : ℕ → Bool). fault_by query contexts (came pieces) (any_at (told query pieces)) t content) ids_are

  heard_so : (contexts : List MetaContext) (item : Item) → heard_by (without_payload query) facts contexts item ≡ hearing query pieces contexts item
  heard_so contexts (Framed content last) =
      ap (λ (b : Bool). if b then None else content_heard (without_payload query) contexts (error_number facts.failure) content) (judged_so contexts content)
      ∙ ap (λ (f : Option Failure). if has_fault query pieces contexts content then None else content_heard (without_payload query) contexts (error_number f) content) first
      ∙ ap (λ (h : Option Hearing). if has_fault query pieces contexts content then None else h) (heard_without query contexts (error_number (failure query pieces)) content)
  heard_so contexts Lost = refl
  heard_so contexts Dropped = refl

  complete_so : (contexts : List MetaContext) → is_told (without_payload query) contexts facts ≡ has_all query contexts pieces
  complete_so contexts =
      ap (λ (t : ℕ → Bool). is_complete query contexts (all_at t) (has facts.contexts)) places_are
      ∙ ap (λ (t : ℕ → Bool). is_complete query contexts (all_at (told query pieces)) t) ids_are

-- One piece more.

and_true : (a : Bool) → (a && true) ≡ a
and_true true = refl
and_true false = refl

and_false : (a : Bool) → (a && false) ≡ false
and_false true = refl
and_false false = refl

nowhere : (p : ℕ) → within (0, 0) p ≡ false
nowhere p = let none : nat_lt p 0 ≡ false = grind arith in ap (λ (b : Bool). nat_le 0 p && b) none ∙ and_false (nat_le 0 p)

module _ (query : Query) (earlier : List Piece) (facts : Facts) (ih : Same query earlier facts) where
  -- content that has places
  placed : (content : Content) (bad : Bool) → content_fault (is_whole query) (came earlier) (any_at (told query earlier)) content ≡ bad → (p : ℕ) →
      holds (if bad then facts.told else with_positions (start_of content) (size_of content) facts.told) p
      ≡ ((has_place content p && not (content_fault (is_whole query) (came earlier) (any_at (told query earlier)) content)) || told query earlier p)
  placed content true is p =
      ih.told p ∙ sym (ap (λ (b : Bool). (has_place content p && not b) || told query earlier p) is ∙ ap (λ (b : Bool). b || told query earlier p) (and_false (has_place content p)))
  placed content false is p =
      holds-with_positions (start_of content) (size_of content) facts.told p
      ∙ ap (λ (b : Bool). has_place content p || b) (ih.told p)
      ∙ sym (ap (λ (b : Bool). (has_place content p && not b) || told query earlier p) is ∙ ap (λ (b : Bool). b || told query earlier p) (and_true (has_place content p)))

  -- and content that has none
  unplaced : (fault bad : Bool) (p : ℕ) →
      holds (if bad then facts.told else facts.told) p ≡ ((within (0, 0) p && fault) || told query earlier p)
  unplaced fault true p = ih.told p ∙ ap (λ (b : Bool). (b && fault) || told query earlier p) (sym (nowhere p))
  unplaced fault false p = ih.told p ∙ ap (λ (b : Bool). (b && fault) || told query earlier p) (sym (nowhere p))

  told_now : (contexts : List MetaContext) (content : Content) (p : ℕ) →
      holds (if has_fault query earlier contexts content then facts.told else with_positions (start_of content) (size_of content) facts.told) p
      ≡ ((has_place content p && not (content_fault (is_whole query) (came earlier) (any_at (told query earlier)) content)) || told query earlier p)
  told_now contexts (Data offset bytes) p = placed (Data offset bytes) _ refl p
  told_now contexts (Hole offset size) p = placed (Hole offset size) _ refl p
  told_now contexts (Status id descriptors) p = unplaced _ (has_fault query earlier contexts (Status id descriptors)) p
  told_now contexts (Error number) p = unplaced _ false p
  told_now contexts (ErrorAt number offset) p = unplaced _ false p
  told_now contexts Nothing p = unplaced _ false p
  told_now contexts Bare p = unplaced _ (is_status query.kind) p

  -- contexts
  named : (bad : Bool) (id c : ℕ) → has (if bad then facts.contexts else id ∷ facts.contexts) c ≡ (((id == c) && not bad) || context_told query earlier c)
  named true id c = ih.contexts c ∙ ap (λ (b : Bool). b || context_told query earlier c) (sym (and_false (id == c)))
  named false id c = ap (λ (b : Bool). (id == c) || b) (ih.contexts c) ∙ ap (λ (b : Bool). b || context_told query earlier c) (sym (and_true (id == c)))

  unnamed : (bad : Bool) (c : ℕ) → has (if bad then facts.contexts else facts.contexts) c ≡ (false || context_told query earlier c)
  unnamed true c = ih.contexts c
  unnamed false c = ih.contexts c

  contexts_now : (contexts : List MetaContext) (content : Content) (c : ℕ) →
      has (if has_fault query earlier contexts content then facts.contexts else contexts_with content facts.contexts) c
      ≡ (tells_context (is_single query) contexts (context_told query earlier) content c || context_told query earlier c)
  contexts_now contexts (Data offset bytes) c = unnamed (has_fault query earlier contexts (Data offset bytes)) c
  contexts_now contexts (Hole offset size) c = unnamed (has_fault query earlier contexts (Hole offset size)) c
  contexts_now contexts (Status id descriptors) c = named (has_fault query earlier contexts (Status id descriptors)) id c
  contexts_now contexts (Error number) c = unnamed false c
  contexts_now contexts (ErrorAt number offset) c = unnamed false c
  contexts_now contexts Nothing c = unnamed false c
  contexts_now contexts Bare c = unnamed (is_status query.kind) c

  failure_now : (contexts : List MetaContext) (item : Item) → failure_told (has_fault query earlier contexts (content_of item)) item ≡ item_failure query earlier contexts item
  failure_now contexts (Framed content last) = refl
  failure_now contexts Lost = refl
  failure_now contexts Dropped = refl

  module _ (piece : Piece) where
    content : Content
    content = content_of piece.item

    judged : is_bad (without_payload query) piece.contexts facts content ≡ has_fault query earlier piece.contexts content
    unfolding content
    judged = ih.judged piece.contexts (content_of piece.item)

    now : Facts
    now = telling (without_payload query) piece.contexts piece.item piece.heard facts

    now_is : now ≡ telling_as (has_fault query earlier piece.contexts (content_of piece.item)) piece.item piece.heard facts
    unfolding now content
    now_is = ap (λ (b : Bool). telling_as b piece.item piece.heard facts) judged

    told_is : (p : ℕ) → holds now.told p ≡ told query (piece ∷ earlier) p
    told_is p = ap (λ (f : Facts). holds f.told p) now_is ∙ told_now piece.contexts (content_of piece.item) p

    contexts_are : (c : ℕ) → has now.contexts c ≡ context_told query (piece ∷ earlier) c
    contexts_are c = ap (λ (f : Facts). has f.contexts c) now_is ∙ contexts_now piece.contexts (content_of piece.item) c

    came_is : now.came ≡ came (piece ∷ earlier)
    came_is = ap (λ (f : Facts). f.came) now_is ∙ ap (λ (b : Bool). is_content (content_of piece.item) || b) ih.came

    faults_are : now.faults ≡ faults query (piece ∷ earlier)
    faults_are = ap (λ (f : Facts). f.faults) now_is ∙ ap (λ (n : ℕ). n + one_if (is_error (content_of piece.item) || has_fault query earlier piece.contexts (content_of piece.item))) ih.faults

    first_error : Option Failure
    first_error = or_else (or_else (failure query earlier) (item_failure query earlier piece.contexts piece.item)) (failing from.Callback piece.heard)

    error_is : now.failure ≡ first_error
    unfolding first_error
    error_is = ap (λ (f : Facts). f.failure) now_is
        ∙ ap (λ (f : Option Failure). or_else (or_else f (failure_told (has_fault query earlier piece.contexts (content_of piece.item)) piece.item)) (failing from.Callback piece.heard)) ih.failure
        ∙ ap (λ (f : Option Failure). or_else (or_else (failure query earlier) f) (failing from.Callback piece.heard)) (failure_now piece.contexts piece.item)

    places_now : holds now.told ≡ told query (piece ∷ earlier)
    places_now i p = told_is p i

    ids_now : has now.contexts ≡ context_told query (piece ∷ earlier)
    ids_now i id = contexts_are id i

    complete_now : is_told (without_payload query) piece.contexts now ≡ has_all query piece.contexts (piece ∷ earlier)
    complete_now =
        ap (λ (t : ℕ → Bool). is_complete query piece.contexts (all_at t) (has now.contexts)) places_now
        ∙ ap (λ (t : ℕ → Bool). is_complete query piece.contexts (all_at (told query (piece ∷ earlier))) t) ids_now

    failure_is : (closing (is_last piece.item) (without_payload query) piece.contexts now).failure ≡ failure query (piece ∷ earlier)
    unfolding first_error
    failure_is =
        ap (λ (f : Option Failure). or_else f (if is_last piece.item && not (is_told (without_payload query) piece.contexts now) then failing from.Content EPROTO else None)) error_is
        ∙ ap (λ (b : Bool). or_else first_error (if is_last piece.item && not b then failing from.Content EPROTO else None)) complete_now

    stands : Same query (piece ∷ earlier) (closing (is_last piece.item) (without_payload query) piece.contexts now)
    stands = record {
      told = told_is;
      contexts = contexts_are;
      came = came_is;
      faults = faults_are;
      failure = failure_is;
      judged = judged_so query (piece ∷ earlier) (closing (is_last piece.item) (without_payload query) piece.contexts now) told_is contexts_are came_is failure_is;
      heard = heard_so query (piece ∷ earlier) (closing (is_last piece.item) (without_payload query) piece.contexts now) told_is contexts_are came_is failure_is;
      complete = complete_so query (piece ∷ earlier) (closing (is_last piece.item) (without_payload query) piece.contexts now) told_is contexts_are came_is failure_is;
    }

pub facts_stand : FactsStand
unfolding now
facts_stand query [] =
    let none : (p : ℕ) → holds [] p ≡ told query [] p = λ p. refl in
    let unnamed : (id : ℕ) → has [] id ≡ context_told query [] id = λ id. refl in
    record {
      told = none;
      contexts = unnamed;
      came = refl;
      faults = refl;
      failure = refl;
      judged = judged_so query [] no_facts none unnamed refl refl;
      heard = heard_so query [] no_facts none unnamed refl refl;
      complete = complete_so query [] no_facts none unnamed refl refl;
    }
facts_stand query (piece ∷ earlier) = stands query earlier (facts_of (without_payload query) earlier) (facts_stand query earlier) piece
