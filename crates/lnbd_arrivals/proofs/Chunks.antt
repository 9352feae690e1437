-- What a chunk shows, by the breach that it shows or doesn't.
use Rattle.std.proofs.Common.{◌≡◌, ℕ, ◌-◌, ◌<◌, ◌≤◌, Bool, true, false, List, ◌++◌, length, drop, Option, Some, None, refl, ap, sym, subst, ◌∙◌, arith, nat_lt, ◌%◌, ◌==◌, ◌||◌, ◌&&◌, not, if◌then◌else◌, length-append}
use Rattle.std.proofs.lemmas.Bool.{eqb-true, ltb-true}
use Rattle.std.proofs.lemmas.List.{length-drop, take_all}
use Rattle.lnbd_model.specs.declared.breach.Breach.{Breach}
use Rattle.lnbd_records.specs.Content.{Content}
use Rattle.lnbd_records.specs.Content as content
use Rattle.lnbd_records.specs.Limits.{max_faults}
use Rattle.lnbd_records.specs.Numbers.{number_at}
use Rattle.lnbd_stream.specs.Grammar.{once, wants}
use Rattle.lnbd_stream.proofs.Grammar.{once_there, once_less, wants_true}
use Rattle.lnbd_chunks.specs.declared.form.Form.{Form}
use Rattle.lnbd_chunks.specs.declared.form.Form.TheVariants.{Empty, Data, Hole, Status, ExtendedStatus, Error, ErrorAt, OtherError, Unknown}
use Rattle.lnbd_chunks.specs.Chunk.{Waiting, Head, is_done, is_error, form_of, fits_length, may_come, lies_within, shows_data, shows_hole, shows_status, shows_extended_status, shows_error, shows_payload, shows_form, shows_chunk}
use Rattle.lnbd_chunks.specs.Laws.{breach_in, breach_of}
use Rattle.lnbd_chunks.proofs.Steady.{at_more, least, least_and, stays_chunk}
use Rattle.lnbd_structured.specs.Told.{MayCome}
use Rattle.lnbd_structured.specs.Assembly.{fixed_size}
use Rattle.lnbd_structured.specs.Told.{IsInside}
use Rattle.lnbd_structured.proofs.BreachLemmas.{lawful, data_lies, hole_lies}
use Rattle.lnbd_arrivals.specs.Payloads.{told_by}

abbrev breaks : Breach → Option Breach
breaks breach = Some breach

abbrev hides : Content → Option Breach
hides content = None

-- a payload that fits its form has what is read of it
pub fixed_there : (form : Form) (n : ℕ) → fits_length form n ≡ true → fixed_size form ≤ n
fixed_there Empty n fits = omega arith
fixed_there Data n fits = let h = least 9 33554440 n fits in omega (arith, h)
fixed_there Hole n fits = let h = eqb-true n 12 fits in omega (arith, h)
fixed_there Status n fits = let h = least_and 12 8388612 n (n % 8 == 4) fits in omega (arith, h)
fixed_there ExtendedStatus n fits = let h = least_and 24 16777224 n (n % 16 == 8) fits in omega (arith, h)
fixed_there Error n fits = least 6 4102 n fits
fixed_there ErrorAt n fits = least 14 4110 n fits
fixed_there OtherError n fits = least 6 65536 n fits
fixed_there Unknown n fits = omega arith

module _ {R : Type 0} (broken : Breach → R) (told : Content → R) where
  -- A breach is shown.

  broke_wants : (test : Bool) (fault breach : Breach) (seen : Option (Option Breach)) (shown : Option R) → (breach_in seen ≡ Some breach → shown ≡ Some (broken breach)) →
      breach_in (wants test (Some fault) seen) ≡ Some breach → wants test (broken fault) shown ≡ Some (broken breach)
  unfolding wants
  broke_wants true fault breach seen shown go e = go e
  broke_wants false fault breach seen shown go e = let same : fault ≡ breach = cc in ap (λ b. Some (broken b)) same

  broke_once : (n : ℕ) (bytes : List ℕ) (breach : Breach) (seen : Option (Option Breach)) (shown : Option R) → (breach_in seen ≡ Some breach → shown ≡ Some (broken breach)) →
      breach_in (once n bytes seen) ≡ Some breach → once n bytes shown ≡ Some (broken breach)
  unfolding once
  broke_once n bytes breach seen shown go e = by (nat_lt (length bytes) n) e
    where
      by : (b : Bool) → breach_in (if b then None else seen) ≡ Some breach → (if b then None else shown) ≡ Some (broken breach)
      by true h = absurd (cc (h))
      by false h = go h

  broke_payload : (form : Form) (waiting : Waiting) (n : ℕ) (p : List ℕ) (breach : Breach) → breach_in (shows_payload breaks hides form waiting n p) ≡ Some breach → shows_payload broken told form waiting n p ≡ Some (broken breach)
  unfolding shows_data shows_hole shows_status shows_extended_status shows_error
  broke_payload Empty waiting n p b e = absurd (cc (e))
  broke_payload Data waiting n p b e = broke_once 8 p b _ _ (broke_wants _ _ b _ _ (broke_once n p b _ _ (λ h. absurd (cc (h))))) e
  broke_payload Hole waiting n p b e = broke_once 8 p b _ _ (broke_wants _ _ b _ _ (broke_once 12 p b _ _ (broke_wants _ _ b _ _ (λ h. absurd (cc (h)))))) e
  broke_payload Status waiting n p b e = broke_once n p b _ _ (λ h. absurd (cc (h))) e
  broke_payload ExtendedStatus waiting n p b e = broke_once 8 p b _ _ (broke_wants _ _ b _ _ (broke_once n p b _ _ (λ h. absurd (cc (h))))) e
  broke_payload Error waiting n p b e = broke_once 6 p b _ _ (broke_wants _ _ b _ _ (broke_wants _ _ b _ _ (broke_once n p b _ _ (λ h. absurd (cc (h)))))) e
  broke_payload ErrorAt waiting n p b e = broke_once 6 p b _ _ (broke_wants _ _ b _ _ (broke_wants _ _ b _ _ (broke_once n p b _ _ (λ h. absurd (cc (h)))))) e
  broke_payload OtherError waiting n p b e = broke_once 6 p b _ _ (broke_wants _ _ b _ _ (broke_wants _ _ b _ _ (broke_once n p b _ _ (λ h. absurd (cc (h)))))) e
  broke_payload Unknown waiting n p b e = let same : Rattle.lnbd_model.specs.declared.breach.Breach.TheVariants.BadChunkType ≡ b = cc in ap (λ x. Some (broken x)) same

  pub broke_chunk : (extended : Bool) (waiting : Waiting) (head : Head) (p : List ℕ) (breach : Breach) → breach_of extended waiting head p ≡ Some breach → shows_chunk broken told extended waiting head p ≡ Some (broken breach)
  unfolding shows_chunk
  broke_chunk extended waiting head p b e =
      broke_wants _ _ b _ _ (broke_wants _ _ b _ _ (broke_wants _ _ b _ _ (broke_payload (form_of extended head.type) waiting head.length p b))) e

  -- Where no breach is shown.

  fair_wants : (t : Option R) (test : Bool) (fault : Breach) (seen : Option (Option Breach)) (shown : Option R) → (test ≡ true → breach_in seen ≡ None → shown ≡ t) →
      breach_in (wants test (Some fault) seen) ≡ None → wants test (broken fault) shown ≡ t
  unfolding wants
  fair_wants t true fault seen shown go e = go refl e
  fair_wants t false fault seen shown go e = absurd (cc (e))

  fair_once : (t : Option R) (n : ℕ) (bytes : List ℕ) (seen : Option (Option Breach)) (shown : Option R) → n ≤ length bytes → (breach_in seen ≡ None → shown ≡ t) →
      breach_in (once n bytes seen) ≡ None → once n bytes shown ≡ t
  fair_once t n bytes seen shown enough go e = once_there n bytes shown enough ∙ go (ap breach_in (sym (once_there n bytes seen enough)) ∙ e)

  none_once : (n : ℕ) (bytes : List ℕ) (seen : Option (Option Breach)) (shown : Option R) → (breach_in seen ≡ None → shown ≡ None) → breach_in (once n bytes seen) ≡ None → once n bytes shown ≡ None
  unfolding once
  none_once n bytes seen shown go e = by (nat_lt (length bytes) n) e
    where
      by : (b : Bool) → breach_in (if b then None else seen) ≡ None → (if b then None else shown) ≡ None
      by true h = refl
      by false h = go h

  -- With fewer bytes than its head announces nothing is shown.

  none_payload : (form : Form) (waiting : Waiting) (n : ℕ) (p : List ℕ) → fits_length form n ≡ true → length p < n → breach_in (shows_payload breaks hides form waiting n p) ≡ None → shows_payload broken told form waiting n p ≡ None
  unfolding shows_data shows_hole shows_status shows_extended_status shows_error
  none_payload Empty waiting n p fits short e = let h = eqb-true n 0 fits in absurd (omega (arith, h, short))
  none_payload Data waiting n p fits short e = none_once 8 p _ _ (fair_wants None _ _ _ _ (λ t h. once_less n p _ short)) e
  none_payload Hole waiting n p fits short e = let long = eqb-true n 12 fits in none_once 8 p _ _ (fair_wants None _ _ _ _ (λ t h. once_less 12 p _ (omega (arith, long, short)))) e
  none_payload Status waiting n p fits short e = once_less n p _ short
  none_payload ExtendedStatus waiting n p fits short e = none_once 8 p _ _ (fair_wants None _ _ _ _ (λ t h. once_less n p _ short)) e
  none_payload Error waiting n p fits short e = none_once 6 p _ _ (fair_wants None _ _ _ _ (λ t. fair_wants None _ _ _ _ (λ u h. once_less n p _ short))) e
  none_payload ErrorAt waiting n p fits short e = none_once 6 p _ _ (fair_wants None _ _ _ _ (λ t. fair_wants None _ _ _ _ (λ u h. once_less n p _ short))) e
  none_payload OtherError waiting n p fits short e = none_once 6 p _ _ (fair_wants None _ _ _ _ (λ t. fair_wants None _ _ _ _ (λ u h. once_less n p _ short))) e
  none_payload Unknown waiting n p fits short e = absurd (cc (e))

  pub none_chunk : (extended : Bool) (waiting : Waiting) (head : Head) (p : List ℕ) → length p < head.length → breach_of extended waiting head p ≡ None → shows_chunk broken told extended waiting head p ≡ None
  unfolding shows_chunk
  none_chunk extended waiting head p short e =
      fair_wants None _ _ _ _ (λ fits. fair_wants None _ _ _ _ (λ s. fair_wants None _ _ _ _ (λ m. none_payload (form_of extended head.type) waiting head.length p fits short))) e

  -- A whole payload tells what its form says.

  told_payload : (form : Form) (waiting : Waiting) (p : List ℕ) → fits_length form (length p) ≡ true → breach_in (shows_payload breaks hides form waiting (length p) p) ≡ None →
      shows_payload broken told form waiting (length p) p ≡ Some (told (told_by form p))
  unfolding shows_data shows_hole shows_status shows_extended_status shows_error
  told_payload Empty waiting p fits e = refl
  told_payload Data waiting p fits e =
      fair_once _ 8 p _ _ (fixed_there Data (length p) fits) (fair_wants _ _ _ _ _ (λ t. fair_once _ (length p) p _ _ (omega arith)
      (λ h. ap (λ bytes. Some (told (content.Data (number_at 0 8 p) bytes))) (take_all (length p - 8) (drop 8 p) (omega (arith, length-drop 8 p)))))) e
  told_payload Hole waiting p fits e =
      fair_once _ 8 p _ _ (omega (arith, fixed_there Hole (length p) fits)) (fair_wants _ _ _ _ _ (λ t. fair_once _ 12 p _ _ (fixed_there Hole (length p) fits) (fair_wants _ _ _ _ _ (λ u h. refl)))) e
  told_payload Status waiting p fits e = fair_once _ (length p) p _ _ (omega arith) (λ h. refl) e
  told_payload ExtendedStatus waiting p fits e =
      fair_once _ 8 p _ _ (fixed_there ExtendedStatus (length p) fits) (fair_wants _ _ _ _ _ (λ t. fair_once _ (length p) p _ _ (omega arith) (λ h. refl))) e
  told_payload Error waiting p fits e =
      fair_once _ 6 p _ _ (fixed_there Error (length p) fits) (fair_wants _ _ _ _ _ (λ t. fair_wants _ _ _ _ _ (λ u. fair_once _ (length p) p _ _ (omega arith) (λ h. refl)))) e
  told_payload ErrorAt waiting p fits e =
      fair_once _ 6 p _ _ (omega (arith, fixed_there ErrorAt (length p) fits)) (fair_wants _ _ _ _ _ (λ t. fair_wants _ _ _ _ _ (λ u. fair_once _ (length p) p _ _ (omega arith) (λ h. refl)))) e
  told_payload OtherError waiting p fits e =
      fair_once _ 6 p _ _ (fixed_there OtherError (length p) fits) (fair_wants _ _ _ _ _ (λ t. fair_wants _ _ _ _ _ (λ u. fair_once _ (length p) p _ _ (omega arith) (λ h. refl)))) e
  told_payload Unknown waiting p fits e = absurd (cc (e))

  told_at : (form : Form) (waiting : Waiting) (n : ℕ) (p : List ℕ) → length p ≡ n → fits_length form n ≡ true → breach_in (shows_payload breaks hides form waiting n p) ≡ None →
      shows_payload broken told form waiting n p ≡ Some (told (told_by form p))
  told_at form waiting n p whole =
      subst (λ k. fits_length form k ≡ true → breach_in (shows_payload breaks hides form waiting k p) ≡ None → shows_payload broken told form waiting k p ≡ Some (told (told_by form p))) whole (told_payload form waiting p)

  pub told_chunk : (extended : Bool) (waiting : Waiting) (head : Head) (p : List ℕ) → length p ≡ head.length → breach_of extended waiting head p ≡ None →
      shows_chunk broken told extended waiting head p ≡ Some (told (told_by (form_of extended head.type) p))
  unfolding shows_chunk
  told_chunk extended waiting head p whole e =
      fair_wants _ _ _ _ _ (λ fits. fair_wants _ _ _ _ _ (λ s. fair_wants _ _ _ _ _ (λ m. told_at (form_of extended head.type) waiting head.length p whole fits))) e

-- What shows no breach shows none by its first bytes.
pub front_fair : (extended : Bool) (waiting : Waiting) (head : Head) (p more : List ℕ) → breach_of extended waiting head (p ++ more) ≡ None → breach_of extended waiting head p ≡ None
front_fair extended waiting head p more e = go (shows_chunk breaks hides extended waiting head p) refl
  where
    go : (v : Option (Option Breach)) → shows_chunk breaks hides extended waiting head p ≡ v → breach_in v ≡ None
    go None is = refl
    go (Some None) is = refl
    go (Some (Some breach)) is =
        let kept : breach_of extended waiting head (p ++ more) ≡ Some breach = ap breach_in (stays_chunk breaks hides extended waiting head p more (Some breach) is) in
        absurd (cc (kept, e))

-- What a chunk tells lies in what its command asked for.
inside : (extended : Bool) (waiting : Waiting) (head : Head) (p : List ℕ) (form : Form) → form_of extended head.type ≡ form → breach_of extended waiting head p ≡ None → length p ≡ head.length → fits_length form head.length ≡ true → IsInside waiting (told_by form p)
inside extended waiting head p Empty is e whole fits = tt
inside extended waiting head p Data is e whole fits =
    let lies = data_lies extended waiting head p is e (omega (arith, whole, fixed_there Data head.length fits)) in
    let size : head.length - 8 ≡ length (drop 8 p) = omega (arith, whole, length-drop 8 p) in
    (lies.0, subst (λ k. lies_within waiting (number_at 0 8 p) k ≡ true) size lies.1)
inside extended waiting head p Hole is e whole fits = hole_lies extended waiting head p is e (omega (arith, whole, fixed_there Hole head.length fits))
inside extended waiting head p Status is e whole fits = tt
inside extended waiting head p ExtendedStatus is e whole fits = tt
inside extended waiting head p Error is e whole fits = tt
inside extended waiting head p ErrorAt is e whole fits = tt
inside extended waiting head p OtherError is e whole fits = tt
inside extended waiting head p Unknown is e whole fits = tt

few : (faults : ℕ) (form : Form) (done : Bool) → may_come faults form done ≡ true → done ≡ false → faults < 1024
few faults form true e not_last = absurd (cc (not_last))
few faults form false e not_last = go (nat_lt faults max_faults) refl e
  where
    go : (b : Bool) → nat_lt faults max_faults ≡ b → (b || (false && not (is_error form))) ≡ true → faults < 1024
    go true is h = ltb-true faults 1024 is
    go false is h = absurd (cc (h))

-- A whole chunk that shows no breach may be filed.
pub chunk_may_come : (extended : Bool) (waiting : Waiting) (head : Head) (p : List ℕ) → length p ≡ head.length → breach_of extended waiting head p ≡ None →
    MayCome waiting (told_by (form_of extended head.type) p) (is_done head)
chunk_may_come extended waiting head p whole e =
    let l = lawful extended waiting head p (form_of extended head.type) refl e in
    record { inside = inside extended waiting head p (form_of extended head.type) refl e whole l.long; few = few waiting.faults (form_of extended head.type) (is_done head) l.may }

pub chunk_fits : (extended : Bool) (waiting : Waiting) (head : Head) (p : List ℕ) → breach_of extended waiting head p ≡ None → fits_length (form_of extended head.type) head.length ≡ true
chunk_fits extended waiting head p e = (lawful extended waiting head p (form_of extended head.type) refl e).long

-- At its end a payload shows no breach.
at_end : (n : ℕ) (p : List ℕ) → breach_in (once n p (Some None)) ≡ None
unfolding once
at_end n p = go (nat_lt (length p) n)
  where
    go : (b : Bool) → breach_in (if b then None else Some None) ≡ None
    go true = refl
    go false = refl

-- Data show no breach behind a place that shows none.
pub fair_data : (extended : Bool) (waiting : Waiting) (head : Head) (place more : List ℕ) → form_of extended head.type ≡ Data → 8 ≤ length place → breach_of extended waiting head place ≡ None →
    breach_of extended waiting head (place ++ more) ≡ None
unfolding shows_chunk shows_data
fair_data extended waiting head place more is there e =
    let l = lawful extended waiting head place Data is e in
    let lies = data_lies extended waiting head place is e there in
    let within : lies_within waiting (number_at 0 8 (place ++ more)) (head.length - 8) ≡ true = ap (λ (n : ℕ). lies_within waiting n (head.length - 8)) (at_more 0 8 place more there) ∙ lies.1 in
    ap (λ (f : Form). breach_in (shows_form breaks hides f waiting head (place ++ more))) is
    ∙ ap breach_in (wants_true _ _ _ l.long ∙ wants_true _ _ _ l.suits ∙ wants_true _ _ _ l.may ∙ once_there 8 (place ++ more) _ (omega (arith, there, length-append place more)) ∙ wants_true _ _ _ within)
    ∙ at_end head.length (place ++ more)
