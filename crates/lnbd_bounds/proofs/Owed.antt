-- A reply that isn't the last tells something, or is an error or has a content fault: so it leaves fewer to come.
use Rattle.std.proofs.Common.{◌≡◌, ℕ, zero, suc, ◌+◌, ◌<◌, ◌≤◌, List, [], ◌∷◌, length, Bool, true, false, not, ◌&&◌, ◌||◌, Some, is_some, if◌then◌else◌, ◌==◌, nat_le, refl, ap, sym, ◌∙◌, subst, arith, inl, inr}
use Rattle.std.proofs.lemmas.Bool.{false≢true, eqb-true, eq-eqb, le-leb, lt-ltb}
use Rattle.lnbd_extents.specs.Positions.{within, holds, any_at}
use Rattle.lnbd_extents.specs.Ranges.{with_positions}
use Rattle.lnbd_extents.proofs.RangeLaws.{holds-with_positions, or_left, or_right, same_or_less}
use Rattle.lnbd_extents.proofs.PositionLaws.{any_none}
use Rattle.lnbd_model.specs.Kind.{is_read, is_status}
use Rattle.lnbd_model.specs.declared.export.Context.{Context as MetaContext}
use Rattle.lnbd_model.specs.declared.kind.Kind.{Kind}
use Rattle.lnbd_model.specs.declared.kind.Kind.TheVariants.{Read, Write, Flush, Trim, Cache, Zero, BlockStatus}
use Rattle.lnbd_records.specs.Content.{Content, Data, Hole, Status, Error, ErrorAt, Nothing, Bare}
use Rattle.lnbd_records.specs.Limits.{max_faults}
use Rattle.lnbd_chunks.specs.Chunk.{Waiting}
use Rattle.lnbd_outcome.specs.Pieces.{Query, Framed, is_whole, is_single, is_error}
use Rattle.lnbd_outcome.specs.Faults.{context_of, any_empty, one_if}
use Rattle.lnbd_outcome.specs.Facts.{Facts, has, is_bad, telling_as, facts_with}
use Rattle.lnbd_bounds.specs.Owed.{none_if, missing, unnamed, untold, owed}

-- One test holds wherever the other does, so it leaves no more, and less where it holds and the other doesn't.
module _ (f g : ℕ → Bool) (more : (p : ℕ) → f p ≡ true → g p ≡ true) where
  one_most : (p : ℕ) → none_if (g p) ≤ none_if (f p)
  one_most p = go (f p) refl (g p) refl
    where
      go : (a : Bool) → f p ≡ a → (b : Bool) → g p ≡ b → none_if b ≤ none_if a
      go false v true w = omega arith
      go false v false w = omega arith
      go true v true w = omega arith
      go true v false w = absurd (false≢true (sym w ∙ more p v))

  one_less : (p : ℕ) → f p ≡ false → g p ≡ true → none_if (g p) < none_if (f p)
  one_less p a b = rw (a, b) (omega arith)

  missing_most : (s n : ℕ) → missing g s n ≤ missing f s n
  missing_most s zero = omega arith
  missing_most s (suc n) = omega (arith, one_most s, missing_most (s + 1) n)

  missing_less : (s n p : ℕ) → s ≤ p → p < s + n → f p ≡ false → g p ≡ true → missing g s n < missing f s n
  missing_less s zero p a b v w = absurd (omega (arith, a, b))
  missing_less s (suc n) p a b v w = elim (same_or_less s p a) [
    | inl same ↦ omega (arith, one_less s (subst (λ q. f q ≡ false) (sym same) v) (subst (λ q. g q ≡ true) (sym same) w), missing_most (s + 1) n)
    | inr less ↦ omega (arith, one_most s, missing_less (s + 1) n p (omega (arith, less)) (omega (arith, b)) v w)
  ]

  unnamed_most : (contexts : List MetaContext) → unnamed g contexts ≤ unnamed f contexts
  unnamed_most [] = omega arith
  unnamed_most (context ∷ contexts) = omega (arith, one_most context.id, unnamed_most contexts)

  unnamed_less : (contexts : List MetaContext) (id : ℕ) → is_some (context_of id contexts) ≡ true → f id ≡ false → g id ≡ true → unnamed g contexts < unnamed f contexts
  unnamed_less [] id there v w = absurd (false≢true there)
  unnamed_less (context ∷ contexts) id there v w =
      elim (context.id == id) as (λ b. (context.id == id) ≡ b → is_some (if b then Some context else context_of id contexts) ≡ true → unnamed g (context ∷ contexts) < unnamed f (context ∷ contexts)) [
        | true ↦ λ e k. let same : id ≡ context.id = sym (eqb-true context.id id e) in omega (arith, one_less context.id (subst (λ q. f q ≡ false) same v) (subst (λ q. g q ≡ true) same w), unnamed_most contexts)
        | false ↦ λ e k. omega (arith, one_most context.id, unnamed_less contexts id k v w)
      ] refl there

or_true : (a b : Bool) → b ≡ true → (a || b) ≡ true
or_true true b e = refl
or_true false b e = e

true_or : (a b : Bool) → a ≡ true → (a || b) ≡ true
true_or a b e = ap (λ (x : Bool). x || b) e

not_false : (a : Bool) → not a ≡ false → a ≡ true
not_false true e = refl
not_false false e = absurd (false≢true (sym e))

within_start : (s n : ℕ) → 0 < n → within (s, n) s ≡ true
within_start s n some = rw (le-leb s s (omega arith), lt-ltb s (s + n) (omega (arith, some))) refl

-- places that are told, of which none was
content_less : (s n start size : ℕ) (ranges : List (ℕ × ℕ)) → 0 < n → start ≤ s → s + n ≤ start + size → any_at (holds ranges) s n ≡ false →
    missing (holds (with_positions s n ranges)) start size < missing (holds ranges) start size
content_less s n start size ranges some low high none =
    missing_less (holds ranges) (holds (with_positions s n ranges)) (λ p e. holds-with_positions s n ranges p ∙ or_true (within (s, n) p) (holds ranges p) e) start size s low (omega (arith, some, high))
    (any_none (holds ranges) s n none s (omega arith) (omega (arith, some))) (holds-with_positions s n ranges s ∙ true_or (within (s, n) s) (holds ranges s) (within_start s n some))

-- a context that is told, and wasn't
status_less : (id : ℕ) (told : List ℕ) (contexts : List MetaContext) → is_some (context_of id contexts) ≡ true → has told id ≡ false → unnamed (has (id ∷ told)) contexts < unnamed (has told) contexts
status_less id told contexts there new =
    unnamed_less (has told) (has (id ∷ told)) (λ x e. or_true (id == x) (has told x) e) contexts id there new (true_or (id == id) (has told id) (eq-eqb id id refl))

status_not_read : (kind : Kind) → is_status kind ≡ true → is_read kind ≡ false
status_not_read Read e = absurd (false≢true e)
status_not_read Write e = refl
status_not_read Flush e = refl
status_not_read Trim e = refl
status_not_read Cache e = refl
status_not_read Zero e = refl
status_not_read BlockStatus e = refl

-- What may come in a chunk that isn't the last.
abbrev pub May : Waiting → Content → Type 0
May command (Data offset bytes) = (is_read command.kind ≡ true) × (0 < length bytes) × (command.offset ≤ offset) × (offset + length bytes ≤ command.offset + command.length)
May command (Hole offset size) = (is_read command.kind ≡ true) × (command.offset ≤ offset) × (offset + size ≤ command.offset + command.length)
May command (Status id descriptors) = is_status command.kind ≡ true
May command (Error number) = Unit {0}
May command (ErrorAt number offset) = Unit {0}
May command Nothing = ⊥
May command Bare = ⊥

pub record MayFollow (command : Waiting) (content : Content) : Type 0 where
  pub few : command.faults < max_faults
  pub may : May command content

abbrev pub waiting_for : Query → Facts → Waiting
waiting_for query facts = record { kind = query.kind; offset = query.offset; length = query.length; faults = facts.faults }

module _ (query : Query) (contexts : List MetaContext) (facts : Facts) where
  -- a read
  read_as : (new : Facts) → is_read query.kind ≡ true → untold query contexts new ≡ missing (holds new.told) query.offset query.length
  read_as new e = ap (λ (b : Bool). if b then missing (holds new.told) query.offset query.length else if is_status query.kind then unnamed (has new.contexts) contexts else 0) e

  status_as : (new : Facts) → is_status query.kind ≡ true → untold query contexts new ≡ unnamed (has new.contexts) contexts
  status_as new e =
      ap (λ (b : Bool). if b then missing (holds new.told) query.offset query.length else if is_status query.kind then unnamed (has new.contexts) contexts else 0) (status_not_read query.kind e)
      ∙ ap (λ (b : Bool). if b then unnamed (has new.contexts) contexts else 0) e

  untold_same : (new : Facts) → new.told ≡ facts.told → new.contexts ≡ facts.contexts → untold query contexts new ≡ untold query contexts facts
  untold_same new a b =
      ap (λ (t : List (ℕ × ℕ)). if is_read query.kind then missing (holds t) query.offset query.length else if is_status query.kind then unnamed (has new.contexts) contexts else 0) a
      ∙ ap (λ (t : List ℕ). if is_read query.kind then missing (holds facts.told) query.offset query.length else if is_status query.kind then unnamed (has t) contexts else 0) b

  faults_less : (new : Facts) → facts.faults < max_faults → new.faults ≡ facts.faults + 1 → untold query contexts new ≡ untold query contexts facts → owed query contexts new < owed query contexts facts
  unfolding owed
  faults_less new few more same = omega (arith, few, more, same)

  told_less : (new : Facts) → new.faults ≡ facts.faults + 0 → untold query contexts new < untold query contexts facts → owed query contexts new < owed query contexts facts
  unfolding owed
  told_less new same less = omega (arith, same, less)

  -- content
  placed_less : (s n : ℕ) (new : Facts) → is_read query.kind ≡ true → 0 < n → query.offset ≤ s → s + n ≤ query.offset + query.length → any_at (holds facts.told) s n ≡ false → new.told ≡ with_positions s n facts.told →
      untold query contexts new < untold query contexts facts
  placed_less s n new reads some low high none told =
      rw (read_as new reads, read_as facts reads, told) (content_less s n query.offset query.length facts.told some low high none)

  fault_parts : (empty before some : Bool) → (empty || before || some) ≡ false → (empty ≡ false) × (some ≡ false)
  fault_parts false before some e = (refl, or_right before some e)
  fault_parts true before some e = absurd (false≢true (sym e))

  some_size : (n : ℕ) → (n == 0) ≡ false → 0 < n
  some_size zero e = absurd (false≢true (sym e))
  some_size (suc n) e = omega arith

  module _ (heard : ℕ) where
    faulty_less : (content : Content) → facts.faults < max_faults → owed query contexts (telling_as true (Framed content false) heard facts) < owed query contexts facts
    faulty_less content few =
        faults_less (telling_as true (Framed content false) heard facts) few (ap (λ (b : Bool). facts.faults + one_if b) (or_true (is_error content) true refl)) (untold_same (telling_as true (Framed content false) heard facts) refl refl)

    fine_less : (content : Content) → MayFollow (waiting_for query facts) content → is_bad query contexts facts content ≡ false → owed query contexts (telling_as false (Framed content false) heard facts) < owed query contexts facts
    fine_less (Data offset bytes) follows fine =
        let new = telling_as false (Framed (Data offset bytes) false) heard facts in
        let parts = fault_parts false (is_whole query && facts.came) (any_at (holds facts.told) offset (length bytes)) fine in
        told_less new refl (placed_less offset (length bytes) new follows.may.0 follows.may.1 follows.may.2 follows.may.3 parts.1 refl)
    fine_less (Hole offset size) follows fine =
        let new = telling_as false (Framed (Hole offset size) false) heard facts in
        let parts = fault_parts (size == 0) (is_whole query && facts.came) (any_at (holds facts.told) offset size) fine in
        told_less new refl (placed_less offset size new follows.may.0 (some_size size parts.0) follows.may.1 follows.may.2 parts.1 refl)
    fine_less (Status id descriptors) follows fine =
        let new = telling_as false (Framed (Status id descriptors) false) heard facts in
        let named = is_some (context_of id contexts) in
        let before = has facts.contexts id in
        let both : (not named || before) ≡ false = or_left (not named || before) (any_empty descriptors) (or_left (not named || before || any_empty descriptors) (is_single query && nat_le 2 (length descriptors)) fine) in
        told_less new refl (rw (status_as new follows.may, status_as facts follows.may) (status_less id facts.contexts contexts (not_false named (or_left (not named) before both)) (or_right (not named) before both)))
    fine_less (Error number) follows fine = faults_less (telling_as false (Framed (Error number) false) heard facts) follows.few refl (untold_same (telling_as false (Framed (Error number) false) heard facts) refl refl)
    fine_less (ErrorAt number offset) follows fine = faults_less (telling_as false (Framed (ErrorAt number offset) false) heard facts) follows.few refl (untold_same (telling_as false (Framed (ErrorAt number offset) false) heard facts) refl refl)
    fine_less Nothing follows fine = absurd follows.may
    fine_less Bare follows fine = absurd follows.may

    pub follows_less : (content : Content) → MayFollow (waiting_for query facts) content → owed query contexts (facts_with query contexts (Framed content false) heard facts) < owed query contexts facts
    unfolding owed
    follows_less content follows = go (is_bad query contexts facts content) refl
      where
        go : (bad : Bool) → is_bad query contexts facts content ≡ bad → owed query contexts (telling_as bad (Framed content false) heard facts) < owed query contexts facts
        go true e = faulty_less content follows.few
        go false e = fine_less content follows e

  pub owes_one : 0 < owed query contexts facts
  unfolding owed
  owes_one = omega arith
