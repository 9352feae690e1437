-- The same is filed on both sides.
use Rattle.std.proofs.Common.{◌≡◌, ℕ, zero, suc, ◌+◌, ◌≤◌, Bool, true, false, not, ◌&&◌, ◌||◌, List, [], ◌∷◌, ◌++◌, Option, Some, None, is_some, refl, ap, sym, subst, ◌∙◌, arith, ◌==◌, nat_le, if◌then◌else◌}
use Rattle.std.specs.Option.{option_map}
use Rattle.std.proofs.lemmas.Bool.{le-leb, leb-true, leb-false}
use Rattle.std.proofs.lemmas.Bool.Decides.{nat_tests}
use Rattle.lnbd_model.specs.declared.state.Cause.{Cause}
use Rattle.lnbd_history.specs.declared.kinds.Stage.TheVariants.{Dead}
use Rattle.lnbd_history.specs.Commands.{Request}
use Rattle.lnbd_extents.specs.Positions.{any_at}
use Rattle.lnbd_outcome.specs.Pieces.{Query, is_whole, is_single, is_content, is_error, content_of, has_place, came}
use Rattle.lnbd_outcome.specs.Pieces.{is_ended as all_ended}
use Rattle.lnbd_outcome.specs.Faults.{told, content_fault, context_told, tells_context, fault_by, has_fault, faults, one_if}
use Rattle.lnbd_history.specs.Entries.{Item, Lost, Piece, Filing, own, is_ended, ends, piece_of, pieces}
use Rattle.lnbd_history.specs.Events.{History}
use Rattle.lnbd_history.specs.History.{Known, asked, request, agreed_contexts, file, file_under, filing_of, file_all, in_flight, die, cookies}
use Rattle.lnbd_asked.specs.Link.{Nobody}
use Rattle.lnbd_asked.specs.Transcript.{bare}
use Rattle.lnbd_asked.specs.InStep.{silent_pieces, SameRequests}

pub if_same : {A : Type 0} (a b : Bool) (x y z w : A) → a ≡ b → x ≡ z → y ≡ w → (if a then x else y) ≡ (if b then z else w)
if_same true b x y z w e h k = h ∙ ap (λ (c : Bool). if c then z else w) e
if_same false b x y z w e h k = k ∙ ap (λ (c : Bool). if c then z else w) e

-- What a callback answered counts for no ending, no content and no fault.

abbrev hush : Piece → Piece
hush piece = record { item = piece.item; contexts = piece.contexts; heard = 0 }

abbrev hushed : List Piece → List Piece
hushed [] = []
hushed (piece ∷ earlier) = hush piece ∷ hushed earlier

came_hushed : (pieces : List Piece) → came (hushed pieces) ≡ came pieces
came_hushed [] = refl
came_hushed (piece ∷ earlier) = ap (λ b. is_content (content_of piece.item) || b) (came_hushed earlier)

told_hushed : (query : Query) (pieces : List Piece) (p : ℕ) → told query (hushed pieces) p ≡ told query pieces p
told_hushed query [] p = refl
told_hushed query (piece ∷ earlier) p =
    ap (λ b. (has_place (content_of piece.item) p && not (content_fault (is_whole query) b (any_at (told query (hushed earlier))) (content_of piece.item))) || told query (hushed earlier) p) (came_hushed earlier)
    ∙ ap (λ (t : ℕ → Bool). (has_place (content_of piece.item) p && not (content_fault (is_whole query) (came earlier) (any_at t) (content_of piece.item))) || t p) (λ i q. told_hushed query earlier q i)

context_hushed : (query : Query) (pieces : List Piece) (id : ℕ) → context_told query (hushed pieces) id ≡ context_told query pieces id
context_hushed query [] id = refl
context_hushed query (piece ∷ earlier) id =
    ap (λ (t : ℕ → Bool). tells_context (is_single query) piece.contexts t (content_of piece.item) id || t id) (λ i other. context_hushed query earlier other i)

faults_hushed : (query : Query) (pieces : List Piece) → faults query (hushed pieces) ≡ faults query pieces
faults_hushed query [] = refl
faults_hushed query (piece ∷ earlier) =
    ap (λ n. n + one_if (is_error (content_of piece.item) || has_fault query (hushed earlier) piece.contexts (content_of piece.item))) (faults_hushed query earlier)
    ∙ ap (λ b. faults query earlier + one_if (is_error (content_of piece.item) || fault_by query piece.contexts b (any_at (told query (hushed earlier))) (context_told query (hushed earlier)) (content_of piece.item))) (came_hushed earlier)
    ∙ ap (λ (t : ℕ → Bool). faults query earlier + one_if (is_error (content_of piece.item) || fault_by query piece.contexts (came earlier) (any_at t) (context_told query (hushed earlier)) (content_of piece.item))) (λ i q. told_hushed query earlier q i)
    ∙ ap (λ (t : ℕ → Bool). faults query earlier + one_if (is_error (content_of piece.item) || fault_by query piece.contexts (came earlier) (any_at (told query earlier)) t (content_of piece.item))) (λ i q. context_hushed query earlier q i)

-- One side.
module _ {K : Type 0} where
  -- what comes for a command with an item
  abbrev pub piece_with : Item → Known K → Piece
  piece_with item known = record { item = item; contexts = agreed_contexts known; heard = 0 }

  pub file_pieces : (asks : Option (Request K)) (c : ℕ) (item : Item) (known : Known K) (other : ℕ) →
      silent_pieces (own other (file_under asks c item known).entries)
      ≡ (if is_some asks && (c == other) then piece_with item known ∷ silent_pieces (own other known.entries) else silent_pieces (own other known.entries))
  file_pieces None c item known other = refl
  file_pieces (Some q) c item known other = go (c == other)
    where
      go : (b : Bool) → silent_pieces (if b then filing_of q c (own c known.entries) (agreed_contexts known) item known.answers ∷ own other known.entries else own other known.entries)
          ≡ (if b then piece_with item known ∷ silent_pieces (own other known.entries) else silent_pieces (own other known.entries))
      go true = refl
      go false = refl

  pieces_hushed : (filings : List (Filing K)) → silent_pieces filings ≡ hushed (pieces filings)
  pieces_hushed [] = refl
  pieces_hushed (f ∷ more) = ap (λ ps. hush (piece_of f) ∷ ps) (pieces_hushed more)

  ended_pieces : (filings : List (Filing K)) → is_ended filings ≡ all_ended (silent_pieces filings)
  ended_pieces [] = refl
  ended_pieces (f ∷ more) = ap (λ b. ends f.item || b) (ended_pieces more)

  pub faults_pieces : (query : Query) (filings : List (Filing K)) → faults query (pieces filings) ≡ faults query (silent_pieces filings)
  faults_pieces query filings = sym (ap (faults query) (pieces_hushed filings) ∙ faults_hushed query (pieces filings))

  -- what filing leaves as it is
  pub record Still (before after : Known K) : Type 0 where
    pub turns : after.turns ≡ before.turns
    pub parts : after.parts ≡ before.parts
    pub stage : after.stage ≡ before.stage

  pub file_still : (asks : Option (Request K)) (c : ℕ) (item : Item) (known : Known K) → Still known (file_under asks c item known)
  file_still None c item known = record { turns = refl; parts = refl; stage = refl }
  file_still (Some q) c item known = record { turns = refl; parts = refl; stage = refl }

  still_if : (b : Bool) (known after : Known K) → Still known after → Still known (if b then after else known)
  still_if true known after s = s
  still_if false known after s = record { turns = refl; parts = refl; stage = refl }

  pub all_still : (before : History K) (item : Item) (list : List ℕ) (known : Known K) → Still known (file_all before item list known)
  all_still before item [] known = record { turns = refl; parts = refl; stage = refl }
  all_still before item (c ∷ list) known =
      let one = still_if (in_flight before known.entries c) known (file before c item known) (file_still (request before c) c item known) in
      let rest = all_still before item list (if in_flight before known.entries c then file before c item known else known) in
      record { turns = rest.turns ∙ one.turns; parts = rest.parts ∙ one.parts; stage = rest.stage ∙ one.stage }

  pub file_append : (before : History K) (item : Item) (a b : List ℕ) (known : Known K) → file_all before item (a ++ b) known ≡ file_all before item b (file_all before item a known)
  file_append before item [] b known = refl
  file_append before item (c ∷ a) b known = file_append before item a b (if in_flight before known.entries c then file before c item known else known)

-- Both sides.
module _ {K : Type 0} (history : History K) (requests : History Nobody) (n : ℕ) (same : SameRequests history requests n) where
  pub record Matches (known : Known K) (heard : Known Nobody) : Type 0 where
    pub filed : (c : ℕ) → nat_le c n ≡ true → silent_pieces (own c known.entries) ≡ silent_pieces (own c heard.entries)
    pub agreed : agreed_contexts known ≡ agreed_contexts heard

  both_there : (c : ℕ) → nat_le c n ≡ true → is_some (request history c) ≡ is_some (request requests c)
  both_there c low = sym (some_bare (request history c)) ∙ ap is_some (same.same c low) ∙ some_bare (request requests c)
    where
      some_bare : {L : Type 0} (a : Option (Request L)) → is_some (option_map bare a) ≡ is_some a
      some_bare None = refl
      some_bare (Some q) = refl

  file_agrees : {L : Type 0} (asks : Option (Request L)) (c : ℕ) (item : Item) (known : Known L) → agreed_contexts (file_under asks c item known) ≡ agreed_contexts known
  file_agrees None c item known = refl
  file_agrees (Some q) c item known = refl

  pub file_match : (c : ℕ) (item : Item) (known : Known K) (heard : Known Nobody) → nat_le c n ≡ true → Matches known heard → Matches (file history c item known) (file requests c item heard)
  file_match c item known heard low m = record {
    filed = λ other small.
        file_pieces (request history c) c item known other
        ∙ if_same _ _ _ _ _ _ (ap (λ b. b && (c == other)) (both_there c low))
        (ap (λ cs. record { item = item; contexts = cs; heard = 0 } ∷ silent_pieces (own other known.entries)) m.agreed ∙ ap (λ xs. piece_with item heard ∷ xs) (m.filed other small)) (m.filed other small)
        ∙ sym (file_pieces (request requests c) c item heard other);
    agreed = file_agrees (request history c) c item known ∙ m.agreed ∙ sym (file_agrees (request requests c) c item heard);
  }

  pub both_ended : (c : ℕ) (known : Known K) (heard : Known Nobody) → nat_le c n ≡ true → Matches known heard → is_ended (own c known.entries) ≡ is_ended (own c heard.entries)
  both_ended c known heard low m = ended_pieces (own c known.entries) ∙ ap all_ended (m.filed c low) ∙ sym (ended_pieces (own c heard.entries))

  pub both_fly : (c : ℕ) (known : Known K) (heard : Known Nobody) → nat_le c n ≡ true → Matches known heard → in_flight history known.entries c ≡ in_flight requests heard.entries c
  both_fly c known heard low m = ap (λ b. b && not (is_ended (own c known.entries))) (both_there c low) ∙ ap (λ b. is_some (request requests c) && not b) (both_ended c known heard low m)

  step_match : (c : ℕ) (item : Item) (known : Known K) (heard : Known Nobody) → nat_le c n ≡ true → Matches known heard
      → Matches (if in_flight history known.entries c then file history c item known else known) (if in_flight requests heard.entries c then file requests c item heard else heard)
  step_match c item known heard low m = subst (λ b. Matches (if in_flight history known.entries c then file history c item known else known) (if b then file requests c item heard else heard)) (both_fly c known heard low m) (go (in_flight history known.entries c))
    where
      go : (b : Bool) → Matches (if b then file history c item known else known) (if b then file requests c item heard else heard)
      go true = file_match c item known heard low m
      go false = m

  -- what is filed under a later request is nothing to them
  pub skip_file : (c : ℕ) (item : Item) (known : Known K) (heard : Known Nobody) → nat_le c n ≡ false → Matches known heard → Matches (file history c item known) heard
  skip_file c item known heard high m = record {
    filed = λ other small.
        file_pieces (request history c) c item known other
        ∙ if_same _ false _ _ (piece_with item known ∷ silent_pieces (own other known.entries)) _ (none (is_some (request history c)) (c == other) (differ c other high small)) refl refl
        ∙ m.filed other small;
    agreed = file_agrees (request history c) c item known ∙ m.agreed;
  }
    where
      none : (a b : Bool) → b ≡ false → (a && b) ≡ false
      none true b e = e
      none false b e = refl

      differ : (c other : ℕ) → nat_le c n ≡ false → nat_le other n ≡ true → (c == other) ≡ false
      differ c other high small = grind (arith, nat_tests)

  skip_match : (c : ℕ) (item : Item) (known : Known K) (heard : Known Nobody) → nat_le c n ≡ false → Matches known heard
      → Matches (if in_flight history known.entries c then file history c item known else known) heard
  skip_match c item known heard high m = go (in_flight history known.entries c)
    where
      go : (b : Bool) → Matches (if b then file history c item known else known) heard
      go true = skip_file c item known heard high m
      go false = m

  low_match : (i : ℕ) (item : Item) (known : Known K) (heard : Known Nobody) → i ≤ n → Matches known heard → Matches (file_all history item (cookies i) known) (file_all requests item (cookies i) heard)
  low_match zero item known heard low m = m
  low_match (suc i) item known heard low m =
      let before = low_match i item known heard (omega (arith, low)) m in
      let one = step_match (suc i) item (file_all history item (cookies i) known) (file_all requests item (cookies i) heard) (le-leb (suc i) n low) before in
      subst (λ k. Matches k (file_all requests item (cookies (suc i)) heard)) (sym (file_append history item (cookies i) (suc i ∷ []) known))
      (subst (λ l. Matches (file_all history item (suc i ∷ []) (file_all history item (cookies i) known)) l) (sym (file_append requests item (cookies i) (suc i ∷ []) heard)) one)

  high_match : (i : ℕ) (item : Item) (known : Known K) (heard : Known Nobody) → n ≤ i → Matches known heard → Matches (file_all history item (cookies i) known) (file_all requests item (cookies n) heard)
  high_match zero item known heard high m = let none : zero ≡ n = omega (arith, high) in subst (λ j. Matches known (file_all requests item (cookies j) heard)) none m
  high_match (suc i) item known heard high m = go (nat_le (suc i) n) refl (high_match i item known heard)
    where
      go : (b : Bool) → nat_le (suc i) n ≡ b → (n ≤ i → Matches known heard → Matches (file_all history item (cookies i) known) (file_all requests item (cookies n) heard))
          → Matches (file_all history item (cookies (suc i)) known) (file_all requests item (cookies n) heard)
      go true e rest = let low = leb-true (suc i) n e in let last : suc i ≡ n = omega (arith, high, low) in subst (λ j. Matches (file_all history item (cookies (suc i)) known) (file_all requests item (cookies j) heard)) last (low_match (suc i) item known heard (omega (arith, last)) m)
      go false e rest =
          let above = leb-false (suc i) n e in
          subst (λ k. Matches k (file_all requests item (cookies n) heard)) (sym (file_append history item (cookies i) (suc i ∷ []) known))
          (skip_match (suc i) item (file_all history item (cookies i) known) (file_all requests item (cookies n) heard) e (rest (omega (arith, above)) m))

  -- Both die alike.
  pub die_match : (cause : Cause) (known : Known K) (heard : Known Nobody) → Matches known heard → Matches (die history cause known) (die requests cause heard)
  die_match cause known heard m =
      subst (λ j. Matches (die history cause known) (file_all requests Lost (cookies j) (record heard { stage = Dead cause }))) (sym same.all)
      (high_match (asked history).issued Lost (record known { stage = Dead cause }) (record heard { stage = Dead cause }) same.there (record { filed = m.filed; agreed = m.agreed }))
