-- What is known of a chunk that shows no breach.
use Rattle.std.proofs.Common.{◌≡◌, ℕ, ◌+◌, ◌-◌, ◌*◌, ◌≤◌, List, ◌++◌, length, take, drop, not, ◌==◌, Bool, true, false, Option, Some, None, refl, ap, sym, ◌∙◌, arith, if◌then◌else◌, nat_lt}
use Rattle.std.proofs.lemmas.Grind.{common_steps}
use Rattle.lnbd_chunks.specs.Chunk.{Waiting, Head, is_done, form_of, fits_length, fits_command, may_come, lies_within, fits_message, is_between, shows_data, shows_hole, shows_status, shows_extended_status, shows_error, shows_payload, shows_form, shows_chunk}
use Rattle.lnbd_chunks.specs.Laws.{breach_in, breach_of}
use Rattle.lnbd_chunks.specs.declared.form.Form.{Form}
use Rattle.lnbd_chunks.specs.declared.form.Form.TheVariants.{Empty, Data, Hole, Status, ExtendedStatus, Error, ErrorAt, OtherError, Unknown}
use Rattle.lnbd_model.specs.Kind.{is_read}
use Rattle.lnbd_model.specs.declared.breach.Breach.{Breach}
use Rattle.lnbd_model.specs.declared.breach.Breach.TheVariants.{BadChunkLength, BadChunkType, OutOfRange, ZeroError, TooManyErrors}
use Rattle.lnbd_records.specs.Content.{Content}
use Rattle.lnbd_records.specs.Numbers.{number_at}
use Rattle.lnbd_stream.specs.Grammar.{once, wants}
use Rattle.lnbd_structured.specs.Assembly.{is_data, fixed_of}
use Rattle.lnbd_structured.specs.Laws.{PartsShowTheBreach}
use Rattle.lnbd_structured.proofs.PartLemmas.{number_front}
use Rattle.lnbd_chunks.proofs.Steady.{at_more}
use Rattle.std.proofs.lemmas.Bool.{and_parts, leb-true, eqb-true}
use Rattle.std.proofs.lemmas.List.{length-take-le, length-append}

abbrev breaks : Breach → Option Breach
breaks breach = Some breach

abbrev hides : Content → Option Breach
hides content = None

passes : (test : Bool) (breach : Breach) (rest : Option (Option Breach)) → breach_in (wants test (Some breach) rest) ≡ None → (test ≡ true) × (breach_in rest ≡ None)
unfolding wants
passes true breach rest e = (refl, e)
passes false breach rest e = absurd (cc (e))

there : (n : ℕ) (bytes : List ℕ) (rest : Option (Option Breach)) → n ≤ length bytes → breach_in (once n bytes rest) ≡ None → breach_in rest ≡ None
unfolding once
there n bytes rest h e =
    let no : nat_lt (length bytes) n ≡ false = grind (arith, common_steps) in
    ap (λ (b : Bool). breach_in (if b then None else rest)) (sym no) ∙ e

-- of a chunk of some form
pub record Lawful (form : Form) (waiting : Waiting) (head : Head) (bytes : List ℕ) : Type 0 where
  pub long : fits_length form head.length ≡ true
  pub suits : fits_command form (is_done head) waiting.kind ≡ true
  pub may : may_come waiting.faults form (is_done head) ≡ true
  pub payload : breach_in (shows_payload breaks hides form waiting head.length bytes) ≡ None

lawful_form : (form : Form) (waiting : Waiting) (head : Head) (bytes : List ℕ) → breach_in (shows_form breaks hides form waiting head bytes) ≡ None → Lawful form waiting head bytes
lawful_form form waiting head bytes e =
    let a = passes _ _ _ e in
    let b = passes _ _ _ a.1 in
    let c = passes _ _ _ b.1 in
    record { long = a.0; suits = b.0; may = c.0; payload = c.1 }

pub lawful : (extended : Bool) (waiting : Waiting) (head : Head) (bytes : List ℕ) (form : Form) → form_of extended head.type ≡ form → breach_of extended waiting head bytes ≡ None → Lawful form waiting head bytes
unfolding shows_chunk
lawful extended waiting head bytes form is e =
    lawful_form form waiting head bytes (ap (λ (f : Form). breach_in (shows_form breaks hides f waiting head bytes)) (sym is) ∙ e)

-- Content lies within its command, which is a read.

pub data_lies : (extended : Bool) (waiting : Waiting) (head : Head) (bytes : List ℕ) → form_of extended head.type ≡ Data → breach_of extended waiting head bytes ≡ None → 8 ≤ length bytes →
    (is_read waiting.kind ≡ true) × (lies_within waiting (number_at 0 8 bytes) (head.length - 8) ≡ true)
unfolding shows_data
data_lies extended waiting head bytes is e h =
    let l = lawful extended waiting head bytes Data is e in
    (l.suits, (passes _ _ _ (there 8 bytes _ h l.payload)).0)

pub hole_lies : (extended : Bool) (waiting : Waiting) (head : Head) (bytes : List ℕ) → form_of extended head.type ≡ Hole → breach_of extended waiting head bytes ≡ None → 12 ≤ length bytes →
    (is_read waiting.kind ≡ true) × (lies_within waiting (number_at 0 8 bytes) (number_at 8 4 bytes) ≡ true)
unfolding shows_hole
hole_lies extended waiting head bytes is e h =
    let l = lawful extended waiting head bytes Hole is e in
    let first = passes _ _ _ (there 8 bytes _ (omega (arith, h)) l.payload) in
    (l.suits, (passes _ _ _ (there 12 bytes _ h first.1)).0)

pub is_data_form : (form : Form) → is_data form ≡ true → form ≡ Data
is_data_form Empty e = absurd (cc (e))
is_data_form Data e = refl
is_data_form Hole e = absurd (cc (e))
is_data_form Status e = absurd (cc (e))
is_data_form ExtendedStatus e = absurd (cc (e))
is_data_form Error e = absurd (cc (e))
is_data_form ErrorAt e = absurd (cc (e))
is_data_form OtherError e = absurd (cc (e))
is_data_form Unknown e = absurd (cc (e))

-- What is handed in of a whole payload shows the breach that the payload shows.

met : (n : ℕ) (bytes : List ℕ) (rest : Option (Option Breach)) → n ≤ length bytes → once n bytes rest ≡ rest
unfolding once
met n bytes rest h =
    let no : nat_lt (length bytes) n ≡ false = grind (arith, common_steps) in
    ap (λ (b : Bool). if b then None else rest) no

-- at the end of a payload nothing is seen
hidden : (n : ℕ) (bytes : List ℕ) → breach_in (once n bytes (Some None)) ≡ None
unfolding once
hidden n bytes = go (nat_lt (length bytes) n)
  where
    go : (b : Bool) → breach_in (if b then None else Some None) ≡ None
    go true = refl
    go false = refl

alike : (test : Bool) (breach : Breach) (one other : Option (Option Breach)) → (test ≡ true → breach_in one ≡ breach_in other) → breach_in (wants test (Some breach) one) ≡ breach_in (wants test (Some breach) other)
unfolding wants
alike true breach one other e = e refl
alike false breach one other e = refl

parts_data : (waiting : Waiting) (n : ℕ) (payload : List ℕ) → 8 ≤ length payload → breach_in (shows_data breaks hides waiting n (take 8 payload)) ≡ breach_in (shows_data breaks hides waiting n payload)
unfolding shows_data
parts_data waiting n payload h =
    ap breach_in (met 8 (take 8 payload) _ (rw (length-take-le 8 payload h) (omega arith)))
    ∙ ap (λ x. breach_in (wants (lies_within waiting x (n - 8)) (Some OutOfRange) (once n (take 8 payload) (Some None)))) (number_front 0 8 8 payload (omega arith) h)
    ∙ alike (lies_within waiting (number_at 0 8 payload) (n - 8)) OutOfRange _ _ (λ t. hidden n (take 8 payload) ∙ sym (hidden n payload))
    ∙ ap breach_in (sym (met 8 payload _ h))

parts_hole : (waiting : Waiting) (payload : List ℕ) → 12 ≤ length payload → breach_in (shows_hole breaks hides waiting (take 12 payload)) ≡ breach_in (shows_hole breaks hides waiting payload)
unfolding shows_hole
parts_hole waiting payload h =
    let long : 12 ≤ length (take 12 payload) = rw (length-take-le 12 payload h) (omega arith) in
    ap breach_in (met 8 (take 12 payload) _ (omega (arith, long)))
    ∙ ap (λ r. breach_in (wants (lies_within waiting (number_at 0 8 (take 12 payload)) 0) (Some OutOfRange) r)) (met 12 (take 12 payload) _ long)
    ∙ ap (λ x. breach_in (wants (lies_within waiting x 0) (Some OutOfRange) (wants (lies_within waiting x (number_at 8 4 (take 12 payload))) (Some OutOfRange) (Some None)))) (number_front 0 8 12 payload (omega arith) h)
    ∙ ap (λ x. breach_in (wants (lies_within waiting (number_at 0 8 payload) 0) (Some OutOfRange) (wants (lies_within waiting (number_at 0 8 payload) x) (Some OutOfRange) (Some None)))) (number_front 8 4 12 payload (omega arith) h)
    ∙ ap (λ r. breach_in (wants (lies_within waiting (number_at 0 8 payload) 0) (Some OutOfRange) r)) (sym (met 12 payload _ h))
    ∙ ap breach_in (sym (met 8 payload _ (omega (arith, h))))

parts_extended : (n : ℕ) (payload : List ℕ) → 8 ≤ length payload → breach_in (shows_extended_status breaks hides n (take 8 payload)) ≡ breach_in (shows_extended_status breaks hides n payload)
unfolding shows_extended_status
parts_extended n payload h =
    ap breach_in (met 8 (take 8 payload) _ (rw (length-take-le 8 payload h) (omega arith)))
    ∙ ap (λ x. breach_in (wants (8 + 16 * x == n) (Some BadChunkLength) (once n (take 8 payload) (Some None)))) (number_front 4 4 8 payload (omega arith) h)
    ∙ alike (8 + 16 * number_at 4 4 payload == n) BadChunkLength _ _ (λ t. hidden n (take 8 payload) ∙ sym (hidden n payload))
    ∙ ap breach_in (sym (met 8 payload _ h))

-- some bytes with the payload's front
parts_error : (form : Form) (n : ℕ) (fixed payload : List ℕ) → 6 ≤ length fixed → 6 ≤ length payload → number_at 4 2 fixed ≡ number_at 4 2 payload → number_at 0 4 fixed ≡ number_at 0 4 payload →
    breach_in (shows_error breaks hides form n fixed) ≡ breach_in (shows_error breaks hides form n payload)
unfolding shows_error
parts_error form n fixed payload l h a b =
    ap breach_in (met 6 fixed _ l)
    ∙ ap (λ x. breach_in (wants (fits_message form n x) (Some BadChunkLength) (wants (not (number_at 0 4 fixed == 0)) (Some ZeroError) (once n fixed (Some None))))) a
    ∙ ap (λ x. breach_in (wants (fits_message form n (number_at 4 2 payload)) (Some BadChunkLength) (wants (not (x == 0)) (Some ZeroError) (once n fixed (Some None))))) b
    ∙ alike (fits_message form n (number_at 4 2 payload)) BadChunkLength _ _
    (λ t. alike (not (number_at 0 4 payload == 0)) ZeroError _ _ (λ t. hidden n fixed ∙ sym (hidden n payload)))
    ∙ ap breach_in (sym (met 6 payload _ h))

front_error : (form : Form) (n : ℕ) (more payload : List ℕ) → 6 ≤ length payload → breach_in (shows_error breaks hides form n (take 6 payload ++ more)) ≡ breach_in (shows_error breaks hides form n payload)
front_error form n more payload h =
    let front : length (take 6 payload) ≡ 6 = length-take-le 6 payload h in
    let long : 6 ≤ length (take 6 payload ++ more) = rw (length-append (take 6 payload) more, front) (omega arith) in
    parts_error form n (take 6 payload ++ more) payload long h
    (at_more 4 2 (take 6 payload) more (rw front (omega arith)) ∙ number_front 4 2 6 payload (omega arith) h)
    (at_more 0 4 (take 6 payload) more (rw front (omega arith)) ∙ number_front 0 4 6 payload (omega arith) h)

bare_error : (form : Form) (n : ℕ) (payload : List ℕ) → 6 ≤ length payload → breach_in (shows_error breaks hides form n (take 6 payload)) ≡ breach_in (shows_error breaks hides form n payload)
bare_error form n payload h =
    parts_error form n (take 6 payload) payload (rw (length-take-le 6 payload h) (omega arith)) h (number_front 4 2 6 payload (omega arith) h) (number_front 0 4 6 payload (omega arith) h)

least : (a b n : ℕ) → is_between a b n ≡ true → a ≤ n
least a b n e = leb-true a n (and_parts _ _ e).0

parts_status : (n : ℕ) (fixed payload : List ℕ) → breach_in (shows_status breaks hides n fixed) ≡ breach_in (shows_status breaks hides n payload)
unfolding shows_status
parts_status n fixed payload = hidden n fixed ∙ sym (hidden n payload)

parts_payload : (form : Form) (waiting : Waiting) (n : ℕ) (payload : List ℕ) → n ≤ length payload → fits_length form n ≡ true →
    breach_in (shows_payload breaks hides form waiting n (fixed_of form n payload)) ≡ breach_in (shows_payload breaks hides form waiting n payload)
parts_payload Empty waiting n payload l f = refl
parts_payload Data waiting n payload l f = parts_data waiting n payload (omega (arith, l, least _ _ n f))
parts_payload Hole waiting n payload l f = parts_hole waiting payload (omega (arith, l, eqb-true n 12 f))
parts_payload Status waiting n payload l f = parts_status n (take 4 payload) payload
parts_payload ExtendedStatus waiting n payload l f = parts_extended n payload (omega (arith, l, least _ _ n (and_parts _ _ f).0))
parts_payload Error waiting n payload l f = bare_error Error n payload (omega (arith, l, least _ _ n f))
parts_payload ErrorAt waiting n payload l f = front_error ErrorAt n (take 8 (drop (n - 8) payload)) payload (omega (arith, l, least _ _ n f))
parts_payload OtherError waiting n payload l f = bare_error OtherError n payload (omega (arith, l, least _ _ n f))
parts_payload Unknown waiting n payload l f = refl

pub parts_show : PartsShowTheBreach
unfolding shows_chunk
parts_show extended waiting head payload l =
    alike (fits_length (form_of extended head.type) head.length) BadChunkLength _ _
    (λ f. alike (fits_command (form_of extended head.type) (is_done head) waiting.kind) BadChunkType _ _
    (λ t. alike (may_come waiting.faults (form_of extended head.type) (is_done head)) TooManyErrors _ _
    (λ u. parts_payload (form_of extended head.type) waiting head.length payload l f)))
