-- Where a command's first error came from.
use Rattle.std.proofs.Common.{◌≡◌, ◌≢◌, ◌∙◌, ⊎_elim, ℕ, ◌<◌, Bool, true, false, not, ◌==◌, ◌&&◌, ◌||◌, List, [], ◌∷◌, Option, Some, None, if◌then◌else◌, ap, arith, refl, subst, sym}
use Rattle.std.proofs.lemmas.Bool.{cases_Bool, false≢true, ne_eqb}
use Rattle.std.specs.List.{list_any}
use Rattle.lnbd_model.specs.Errors.{error_of, known_errors}
use Rattle.lnbd_model.specs.Kind.{is_read}
use Rattle.lnbd_model.specs.declared.errors.TheConstants.{EPROTO}
use Rattle.lnbd_model.specs.declared.export.Context.{Context as MetaContext}
use Rattle.lnbd_model.specs.declared.export.Extent.{Extent}
use Rattle.lnbd_model.specs.declared.failure.Failure.{Failure}
use Rattle.lnbd_model.specs.declared.failure.Origin.{Origin}
use Rattle.lnbd_model.specs.declared.failure.Origin.TheVariants as from
use Rattle.lnbd_records.specs.Content.{Content, Data, Hole, Status, Error, ErrorAt, Nothing, Bare}
use Rattle.lnbd_outcome.specs.Faults.{context_of, has_all, has_fault}
use Rattle.lnbd_outcome.specs.Hearing.{Chunk, content_heard, extents_heard, hearing}
use Rattle.lnbd_outcome.specs.Outcome.{error_number, failing, failure, item_failure, lack_failure, or_else}
use Rattle.lnbd_outcome.specs.Pieces.{Query, Item, Framed, Lost, Dropped, Piece, content_of, is_error, is_last, number_of}
use Rattle.lnbd_script.specs.Kept.{failure_of, origin_of}
use Rattle.lnbd_script.specs.Origins.{AreHeard, fails_by, fails_itself}

-- Numbers.

failing_some : (origin : Origin) (n : ℕ) → (n == 0) ≡ false → failing origin n ≡ Some (record { origin = origin; error = n })
failing_some origin n e = ap (λ (b : Bool). if b then None else Some (record { origin = origin; error = n })) e

failing_none : (origin : Origin) (n : ℕ) → (n == 0) ≡ true → failing origin n ≡ None
failing_none origin n e = ap (λ (b : Bool). if b then None else Some (record { origin = origin; error = n })) e

-- A number that no peer tells is none that it may tell, and not EINVAL.
untold : (m n : ℕ) → list_any (λ known. m == known) known_errors ≡ false → (22 ≢ m) → error_of n ≢ m
untold m n unknown other e = by_cases (list_any (λ known. n == known) known_errors) refl e
  where
    by_cases : (b : Bool) → list_any (λ known. n == known) known_errors ≡ b → (if b then n else 22) ≡ m → ⊥
    by_cases true known same = false≢true (sym unknown ∙ subst (λ (k : ℕ). list_any (λ known. k == known) known_errors ≡ true) same known)
    by_cases false known same = other same

not_content : (n : ℕ) → (error_of n == 71) ≡ false
not_content n = ne_eqb (error_of n) 71 (untold 71 n refl (λ e. absurd (omega (arith, e))))

not_lost : (n : ℕ) → (error_of n == 107) ≡ false
not_lost n = ne_eqb (error_of n) 107 (untold 107 n refl (λ e. absurd (omega (arith, e))))

-- an error that is told is one
told_some : (n : ℕ) → 0 < n → (error_of n == 0) ≡ false
told_some n some = ne_eqb (error_of n) 0 (by_cases (list_any (λ known. n == known) known_errors))
  where
    by_cases : (b : Bool) → (if b then n else 22) ≡ 0 → ⊥
    by_cases true same = absurd (omega (arith, some, same))
    by_cases false same = absurd (omega (arith, same))

-- Failures.

-- it came from there, as its number and its own callback tell
abbrev IsBy : Bool → Option Failure → Type 0
IsBy own None = own ≡ false
IsBy own (Some failure) = ((failure.error == 0) ≡ false) × (failure.origin ≡ origin_of own failure.error)

by_number : (own : Bool) (f : Option Failure) → IsBy own f → f ≡ failure_of own (error_number f)
by_number true None h = absurd (false≢true (sym h))
by_number false None h = refl
by_number own (Some f) h = ap (λ (o : Origin). Some (record { origin = o; error = f.error })) h.1 ∙ sym (failing_some (origin_of own f.error) f.error h.0)

framed_by : (bad : Bool) (n : ℕ) → IsBy false (if bad then failing from.Content EPROTO else failing from.Told (error_of n))
framed_by true n = (refl, refl)
framed_by false n = ⊎_elim
    (λ none. subst (λ (f : Option Failure). IsBy false f) (sym (failing_none from.Told (error_of n) none)) refl)
    (λ some. subst (λ (f : Option Failure). IsBy false f) (sym (failing_some from.Told (error_of n) some)) (some, sym (told (not_content n) (not_lost n))))
    (cases_Bool (error_of n == 0))
  where
    told : (error_of n == 71) ≡ false → (error_of n == 107) ≡ false → origin_of false (error_of n) ≡ from.Told
    told content lost =
        ap (λ (b : Bool). if b then from.Content else if error_of n == 107 then from.Lost else from.Told) content
        ∙ ap (λ (b : Bool). if b then from.Lost else from.Told) lost

item_by : (query : Query) (earlier : List Piece) (contexts : List MetaContext) (item : Item) → IsBy false (item_failure query earlier contexts item)
item_by query earlier contexts (Framed content last) = framed_by (has_fault query earlier contexts content) (number_of content)
item_by query earlier contexts Lost = (refl, refl)
item_by query earlier contexts Dropped = refl

lack_by : (lacks : Bool) → IsBy false (if lacks then failing from.Content EPROTO else None)
lack_by true = (refl, refl)
lack_by false = refl

-- One piece more.

step : (earlier item lack : Option Failure) (own fails : Bool) (answered : ℕ) → IsBy own earlier → IsBy false item → IsBy false lack
    → (fails ≡ true → ((error_number earlier == 0) ≡ true) × ((error_number item == 0) ≡ true) × ((answered == 0) ≡ false))
    → (fails ≡ false → (error_number (or_else earlier item) == 0) ≡ true → (answered == 0) ≡ true)
    → IsBy (own || fails) (or_else (or_else (or_else earlier item) (failing from.Callback answered)) lack)
step (Some f) item lack own true answered e i l first not_first = absurd (false≢true (sym e.0 ∙ (first refl).0))
step (Some f) item lack true false answered e i l first not_first = e
step (Some f) item lack false false answered e i l first not_first = e
step None (Some f) lack own true answered e i l first not_first = absurd (false≢true (sym i.0 ∙ (first refl).1))
step None (Some f) lack true false answered e i l first not_first = absurd (false≢true (sym e))
step None (Some f) lack false false answered e i l first not_first = i
step None None lack true true answered e i l first not_first = absurd (false≢true (sym e))
step None None lack false true answered e i l first not_first =
    subst (λ (f : Option Failure). IsBy true (or_else f lack)) (sym (failing_some from.Callback answered (first refl).2)) ((first refl).2, refl)
step None None lack true false answered e i l first not_first = absurd (false≢true (sym e))
step None None lack false false answered e i l first not_first =
    subst (λ (f : Option Failure). IsBy false (or_else f lack)) (sym (failing_none from.Callback answered (not_first refl refl))) l

-- What the callback is told.

both : (x y : Bool) → x && not y ≡ true → (x ≡ true) × (y ≡ false)
both true true h = absurd (false≢true h)
both true false h = (refl, refl)
both false y h = absurd (false≢true h)

not_both : (x y : Bool) → x && not y ≡ false → x ≡ true → y ≡ true
not_both true true h e = refl
not_both true false h e = absurd (false≢true (sym h))
not_both false y h e = absurd (false≢true e)

-- Where it is told the command's error so far, it is the first to fail the command if there is none yet.
first_at : (error answered : ℕ) → (error == 0) && not (answered == 0) ≡ true → ((error == 0) ≡ true) × ((0 == 0) ≡ true) × ((answered == 0) ≡ false)
first_at error answered h = let b = both (error == 0) (answered == 0) h in (b.0, refl, b.1)

extents_first : (found : Option MetaContext) (offset : ℕ) (entries : List Extent) (error answered : ℕ) → fails_by (extents_heard found offset entries error) answered ≡ true
    → ((error == 0) ≡ true) × ((0 == 0) ≡ true) × ((answered == 0) ≡ false)
extents_first None offset entries error answered h = absurd (false≢true h)
extents_first (Some context) offset entries error answered h = first_at error answered h

place_first : (read : Bool) (n offset answered : ℕ) → 0 < n → fails_by (if read then Some (Chunk [] offset 3 (error_of n)) else None) answered ≡ true → ⊥
place_first true n offset answered some h = false≢true (sym (told_some n some) ∙ (both (error_of n == 0) (answered == 0) h).0)
place_first false n offset answered some h = false≢true h

content_first : (query : Query) (contexts : List MetaContext) (error : ℕ) (content : Content) (answered : ℕ) → (is_error content ≡ true → 0 < number_of content)
    → fails_by (content_heard query contexts error content) answered ≡ true
    → ((error == 0) ≡ true) × ((error_number (failing from.Told (error_of (number_of content))) == 0) ≡ true) × ((answered == 0) ≡ false)
content_first query contexts error (Data offset bytes) answered told h = first_at error answered h
content_first query contexts error (Hole offset size) answered told h = first_at error answered h
content_first query contexts error (Status id descriptors) answered told h = extents_first (context_of id contexts) query.offset descriptors error answered h
content_first query contexts error (Error n) answered told h = absurd (false≢true h)
content_first query contexts error (ErrorAt n offset) answered told h = absurd (place_first (is_read query.kind) n offset answered (told refl) h)
content_first query contexts error Nothing answered told h = absurd (false≢true h)
content_first query contexts error Bare answered told h = absurd (false≢true h)

framed_first : (bad : Bool) (query : Query) (contexts : List MetaContext) (error : ℕ) (content : Content) (answered : ℕ) → (is_error content ≡ true → 0 < number_of content)
    → fails_by (if bad then None else content_heard query contexts error content) answered ≡ true
    → ((error == 0) ≡ true) × ((error_number (if bad then failing from.Content EPROTO else failing from.Told (error_of (number_of content))) == 0) ≡ true) × ((answered == 0) ≡ false)
framed_first true query contexts error content answered told h = absurd (false≢true h)
framed_first false query contexts error content answered told h = content_first query contexts error content answered told h

item_first : (query : Query) (earlier : List Piece) (contexts : List MetaContext) (item : Item) (answered : ℕ) → (is_error (content_of item) ≡ true → 0 < number_of (content_of item))
    → fails_by (hearing query earlier contexts item) answered ≡ true
    → ((error_number (failure query earlier) == 0) ≡ true) × ((error_number (item_failure query earlier contexts item) == 0) ≡ true) × ((answered == 0) ≡ false)
item_first query earlier contexts (Framed content last) answered told h =
    framed_first (has_fault query earlier contexts content) query contexts (error_number (failure query earlier)) content answered told h
item_first query earlier contexts Lost answered told h = absurd (false≢true h)
item_first query earlier contexts Dropped answered told h = absurd (false≢true h)

-- Where it is not, and the command has no error, it answers none.

or_none : (f : Option Failure) → (error_number (or_else f None) == 0) ≡ true → (error_number f == 0) ≡ true
or_none None e = e
or_none (Some f) e = e

extents_rests : (found : Option MetaContext) (offset : ℕ) (entries : List Extent) (error answered : ℕ) → fails_by (extents_heard found offset entries error) answered ≡ false
    → (error == 0) ≡ true → (extents_heard found offset entries error ≡ None → (answered == 0) ≡ true) → (answered == 0) ≡ true
extents_rests None offset entries error answered h none called = called refl
extents_rests (Some context) offset entries error answered h none called = not_both (error == 0) (answered == 0) h none

-- an error that is told with a place is an error of the command
place_rests : (read own : Bool) (f : Option Failure) (n offset answered : ℕ) → 0 < n → IsBy own f → (error_number (or_else f (failing from.Told (error_of n))) == 0) ≡ true
    → ((if read then Some (Chunk [] offset 3 (error_of n)) else None) ≡ None → (answered == 0) ≡ true) → (answered == 0) ≡ true
place_rests false own f n offset answered some by none called = called refl
place_rests true own None n offset answered some by none called =
    absurd (false≢true (sym (told_some n some) ∙ sym (ap (λ (g : Option Failure). error_number g == 0) (failing_some from.Told (error_of n) (told_some n some))) ∙ none))
place_rests true own (Some f) n offset answered some by none called = absurd (false≢true (sym by.0 ∙ none))

content_rests : (query : Query) (contexts : List MetaContext) (own : Bool) (f : Option Failure) (content : Content) (answered : ℕ) → (is_error content ≡ true → 0 < number_of content) → IsBy own f
    → fails_by (content_heard query contexts (error_number f) content) answered ≡ false
    → (error_number (or_else f (failing from.Told (error_of (number_of content)))) == 0) ≡ true
    → (content_heard query contexts (error_number f) content ≡ None → (answered == 0) ≡ true) → (answered == 0) ≡ true
content_rests query contexts own f (Data offset bytes) answered told by h none called = not_both (error_number f == 0) (answered == 0) h (or_none f none)
content_rests query contexts own f (Hole offset size) answered told by h none called = not_both (error_number f == 0) (answered == 0) h (or_none f none)
content_rests query contexts own f (Status id descriptors) answered told by h none called =
    extents_rests (context_of id contexts) query.offset descriptors (error_number f) answered h (or_none f none) called
content_rests query contexts own f (Error n) answered told by h none called = called refl
content_rests query contexts own f (ErrorAt n offset) answered told by h none called = place_rests (is_read query.kind) own f n offset answered (told refl) by none called
content_rests query contexts own f Nothing answered told by h none called = called refl
content_rests query contexts own f Bare answered told by h none called = called refl

framed_rests : (bad : Bool) (query : Query) (contexts : List MetaContext) (own : Bool) (f : Option Failure) (content : Content) (answered : ℕ) → (is_error content ≡ true → 0 < number_of content) → IsBy own f
    → fails_by (if bad then None else content_heard query contexts (error_number f) content) answered ≡ false
    → (error_number (or_else f (if bad then failing from.Content EPROTO else failing from.Told (error_of (number_of content)))) == 0) ≡ true
    → ((if bad then None else content_heard query contexts (error_number f) content) ≡ None → (answered == 0) ≡ true) → (answered == 0) ≡ true
framed_rests true query contexts own f content answered told by h none called = called refl
framed_rests false query contexts own f content answered told by h none called = content_rests query contexts own f content answered told by h none called

item_rests : (query : Query) (earlier : List Piece) (contexts : List MetaContext) (item : Item) (own : Bool) (answered : ℕ) → (is_error (content_of item) ≡ true → 0 < number_of (content_of item))
    → IsBy own (failure query earlier) → fails_by (hearing query earlier contexts item) answered ≡ false
    → (error_number (or_else (failure query earlier) (item_failure query earlier contexts item)) == 0) ≡ true
    → (hearing query earlier contexts item ≡ None → (answered == 0) ≡ true) → (answered == 0) ≡ true
item_rests query earlier contexts (Framed content last) own answered told by h none called =
    framed_rests (has_fault query earlier contexts content) query contexts own (failure query earlier) content answered told by h none called
item_rests query earlier contexts Lost own answered told by h none called = called refl
item_rests query earlier contexts Dropped own answered told by h none called = called refl

-- All pieces.

all_by : (query : Query) (pieces : List Piece) → AreHeard query pieces → IsBy (fails_itself query pieces) (failure query pieces)
all_by query [] h = refl
all_by query (piece ∷ earlier) (now, before) =
    let by = all_by query earlier before in
    step (failure query earlier) (item_failure query earlier piece.contexts piece.item) (lack_failure query earlier piece) (fails_itself query earlier)
    (fails_by (hearing query earlier piece.contexts piece.item) piece.heard) piece.heard by (item_by query earlier piece.contexts piece.item)
    (lack_by (is_last piece.item && not (has_all query piece.contexts (piece ∷ earlier))))
    (λ h. item_first query earlier piece.contexts piece.item piece.heard now.told h)
    (λ h none. item_rests query earlier piece.contexts piece.item (fails_itself query earlier) piece.heard now.told by h none (λ e. ap (λ (n : ℕ). n == 0) (now.called e)))

pub origins : (query : Query) (pieces : List Piece) → AreHeard query pieces → failure query pieces ≡ failure_of (fails_itself query pieces) (error_number (failure query pieces))
origins query pieces h = by_number (fails_itself query pieces) (failure query pieces) (all_by query pieces h)
