-- What is told of a command as done is what it came to.
use Rattle.std.proofs.Common.{◌≡◌, ◌∙◌, ◌⊎◌, inl, inr, ℕ, ◌||◌, Bool, true, false, List, [], ◌∷◌, ◌++◌, map, Option, Some, None, sym, ap, subst, refl}
use Rattle.std.specs.Prelude.{if◌then◌else◌, ◌==◌}
use Rattle.std.proofs.lemmas.Bool.{cases_Bool, false≢true, eqb-true}
use Rattle.lnbd_model.specs.declared.failure.Failure.{Failure}
use Rattle.lnbd_callbacks.specs.declared.caller.Verdict.{Verdict}
use Rattle.lnbd_callbacks.specs.declared.caller.Verdict.TheVariants.{Keep}
use Rattle.lnbd_outcome.specs.Pieces.{Item, Framed, Lost, Dropped, is_completed}
use Rattle.lnbd_outcome.specs.Outcome.{Outcome, bytes, error_number, failure, is_finished, outcome, verdict}
use Rattle.lnbd_outcome.specs.Outcome as outcome
use Rattle.lnbd_outcome.proofs.Contents.{real_failure}
use Rattle.lnbd_history.specs.declared.kinds.Completed.{Completed}
use Rattle.lnbd_history.specs.declared.kinds.Completed.TheVariants as completed
use Rattle.lnbd_history.specs.Answers.{completed_of, kept_as, outcome_of}
use Rattle.lnbd_callbacks.specs.Calls.{Call}
use Rattle.lnbd_history.specs.Commands.{Flight, Request, query_of}
use Rattle.lnbd_history.specs.Entries as act
use Rattle.lnbd_history.specs.Entries.{Act, Cleared, Entry, Filed, Filing, Freed, Kept, acts_of, call_of, calls, end_acts, first_acts, first_free_acts, free_acts, hearing_in, own, bytes_in, completes, ends, error_in, is_ended, kept_by, kept_in, pieces}
use Rattle.lnbd_kept.specs.Kept.{AllKeep, AllKeptAreOutcomes, AreFiled, AreWellFiled, IsWellFiled, KeptIsOutcome}

abbrev is_done : Completed → Bool
is_done (completed.Done buf) = true
is_done (completed.Failed error buf) = false
is_done completed.NotYet = false
is_done completed.NoSuchCookie = false

abbrev buf_of : Completed → List ℕ
buf_of (completed.Done buf) = buf
buf_of (completed.Failed error buf) = buf
buf_of completed.NotYet = []
buf_of completed.NoSuchCookie = []

-- what completes a command ends it
ends_too : (item : Item) → completes item ≡ true → ends item ≡ true
ends_too (Framed content last) e = e
ends_too Lost e = refl
ends_too Dropped e = absurd (false≢true e)

first_false : (a b : Bool) → (a || b) ≡ false → (a ≡ false) × (b ≡ false)
first_false true b e = absurd (false≢true (sym e))
first_false false b e = (refl, e)

not_completing : (item : Item) → ends item ≡ false → completes item ≡ false
not_completing (Framed content last) e = e
not_completing Lost e = absurd (false≢true (sym e))
not_completing Dropped e = refl

abbrev is_said : Option Verdict → Bool
is_said None = false
is_said (Some v) = true

some_same : {A : Type 0} {x y : A} → Some x ≡ Some y → x ≡ y
some_same {A} {x} {y} e = ap (λ (o : Option A). from x o) e
  where
    from : A → Option A → A
    from d None = d
    from d (Some a) = a

abbrev is_there : Option Failure → Bool
is_there None = false
is_there (Some f) = true

-- what it comes to, by the failure and the bytes
by_failure : (o : Option Failure) (own : List ℕ) (buf : List ℕ) → (error_number o ≡ 0 → o ≡ None) → kept_as (Some (record { error = error_number o; bytes = own })) ≡ completed.Done buf → verdict o own ≡ outcome.Done buf
by_failure None own buf real e = ap outcome.Done (ap buf_of e)
by_failure (Some f) own buf real e = go (cases_Bool (f.error == 0))
  where
    go : ((f.error == 0) ≡ true) ⊎ ((f.error == 0) ≡ false) → verdict (Some f) own ≡ outcome.Done buf
    go (inl zero) = absurd (false≢true (sym (ap is_there (real (eqb-true f.error 0 zero)))))
    go (inr some) = absurd (false≢true (sym (ap (λ (b : Bool). is_done (if b then completed.Done own else completed.Failed f.error own)) some) ∙ ap is_done e))

module _ {K : Type 0} where
  uncompleted : (own : List (Filing K)) → is_ended own ≡ false → is_completed (pieces own) ≡ false
  uncompleted [] e = refl
  uncompleted (f ∷ earlier) e =
      let both = first_false (ends f.item) (is_ended earlier) e in
      ap (λ (b : Bool). b || is_completed (pieces earlier)) (not_completing f.item both.0) ∙ uncompleted earlier both.1

  pub kept_is_outcome : KeptIsOutcome K
  kept_is_outcome asks [] buf filed e = absurd (false≢true (ap is_done e))
  kept_is_outcome asks (f ∷ earlier) buf filed e = go (cases_Bool (completes f.item))
    where
      own : List (Filing K)
      own = f ∷ earlier

      fails : Option Failure
      fails = failure (query_of asks) (pieces own)

      holds : List ℕ
      holds = bytes (query_of asks) (pieces own)

      finished : (o : Option Failure) (b : List ℕ) → is_finished (verdict o b) ≡ true
      finished None b = refl
      finished (Some x) b = refl

      kept : (v : Option Verdict) → f.verdict ≡ v → kept_as (kept_by v) ≡ completed.Done buf → verdict fails holds ≡ outcome.Done buf
      kept None is k = absurd (false≢true (ap is_done k))
      kept (Some v) is k =
          let same : v ≡ Keep (error_in asks own) (bytes_in asks own) = filed.0.handed v is in
          by_failure fails holds buf (real_failure (query_of asks) (pieces own)) (subst (λ (x : Verdict). kept_as (kept_by (Some x)) ≡ completed.Done buf) same k)

      go : (completes f.item ≡ true) ⊎ (completes f.item ≡ false) → outcome_of (Some asks) own ≡ outcome.Done buf
      go (inl final) =
          let came : outcome_of (Some asks) own ≡ verdict fails holds = ap (λ (b : Bool). if b || is_completed (pieces earlier) then verdict fails holds else outcome.Unfinished) final in
          let stands : kept_in own ≡ kept_by f.verdict = ap (λ (b : Bool). if b then kept_by f.verdict else kept_in earlier) (ends_too f.item final) in
          let told : completed_of (verdict fails holds) (kept_by f.verdict) ≡ completed.Done buf = ap (λ (x : Option Kept). completed_of (verdict fails holds) x) (sym stands) ∙ ap (λ (o : Outcome). completed_of o (kept_in own)) (sym came) ∙ e in
          let now_told : kept_as (kept_by f.verdict) ≡ completed.Done buf = ap (λ (b : Bool). if b then kept_as (kept_by f.verdict) else completed.NotYet) (sym (finished fails holds)) ∙ told in
          came ∙ kept f.verdict refl now_told
      go (inr further) =
          let not_yet : is_completed (pieces own) ≡ false = ap (λ (b : Bool). b || is_completed (pieces earlier)) further ∙ uncompleted earlier filed.0.going in
          let came : outcome_of (Some asks) own ≡ outcome.Unfinished = ap (λ (b : Bool). if b then verdict fails holds else outcome.Unfinished) not_yet in
          absurd (false≢true (sym (ap (λ (o : Outcome). is_done (completed_of o (kept_in own))) came) ∙ ap is_done e))

-- From the entries.

module _ {K : Type 0} where
  keep_behind : (xs ys : List (Act K)) → AllKeep (map call_of (xs ++ ys)) → AllKeep (map call_of ys)
  keep_behind [] ys all = all
  keep_behind (x ∷ xs) ys all = keep_behind xs ys all.1

  keep_front : (xs ys : List (Call K)) → AllKeep (xs ++ ys) → AllKeep xs × AllKeep ys
  keep_front [] ys all = (tt, all)
  keep_front (x ∷ xs) ys all = let h = keep_front xs ys all.1 in ((all.0, h.0), h.1)

  handed_over : (flight : Flight K) (item : Item) (v : Verdict) (error : ℕ) (bytes : List ℕ) → completes item ≡ true → AllKeep (map call_of (end_acts flight item (Some v) error bytes)) → v ≡ Keep error bytes
  handed_over flight (Framed content last) v error bytes e all = (keep_behind (first_free_acts flight.first) (act.Complete flight.done error bytes v ∷ act.Free flight.done ∷ []) all).0
  handed_over flight Lost v error bytes e all = (keep_behind (first_free_acts flight.first) (act.Complete flight.done error bytes v ∷ act.Free flight.done ∷ []) all).0
  handed_over flight Dropped v error bytes e all = absurd (false≢true e)

  handed_in : (f : Filing K) (earlier : List (Filing K)) → (completes f.item ≡ false → f.verdict ≡ None) → AllKeep (map call_of (acts_of f earlier))
      → (v : Verdict) → f.verdict ≡ Some v → v ≡ Keep (error_in f.request (f ∷ earlier)) (bytes_in f.request (f ∷ earlier))
  handed_in f earlier silent all v is = go (cases_Bool (completes f.item))
    where
      error : ℕ
      error = error_in f.request (f ∷ earlier)

      told : List ℕ
      told = bytes_in f.request (f ∷ earlier)

      last : AllKeep (map call_of (end_acts f.request.flight f.item f.verdict error told))
      last = keep_behind (first_acts f.request.flight.first (hearing_in f.request earlier f.contexts f.item) f.heard) (end_acts f.request.flight f.item f.verdict error told) all

      go : (completes f.item ≡ true) ⊎ (completes f.item ≡ false) → v ≡ Keep error told
      go (inl final) = handed_over f.request.flight f.item v error told final (subst (λ (o : Option Verdict). AllKeep (map call_of (end_acts f.request.flight f.item o error told))) is last)
      go (inr further) = absurd (false≢true (ap is_said (sym (silent further) ∙ is)))

  well_filed : (asks : ℕ → Option (Request K)) (entries : List (Entry K)) (cookie : ℕ) (q : Request K) → AreFiled asks entries → AllKeep (calls entries) → asks cookie ≡ Some q → AreWellFiled q (own cookie entries)
  well_filed asks [] cookie q filed all is = tt
  well_filed asks (Freed flight ∷ earlier) cookie q filed all is = well_filed asks earlier cookie q filed (keep_front (calls earlier) (map call_of (free_acts flight)) all).0 is
  well_filed asks (Cleared ∷ earlier) cookie q filed all is = well_filed asks earlier cookie q filed all is
  well_filed asks (Filed f ∷ earlier) cookie q filed all is =
      go (well_filed asks earlier cookie q filed.3 (keep_front (calls earlier) (map call_of (acts_of f (own f.cookie earlier))) all).0 is) (cases_Bool (f.cookie == cookie))
    where
      both : AllKeep (calls earlier) × AllKeep (map call_of (acts_of f (own f.cookie earlier)))
      both = keep_front (calls earlier) (map call_of (acts_of f (own f.cookie earlier))) all

      go : AreWellFiled q (own cookie earlier) → ((f.cookie == cookie) ≡ true) ⊎ ((f.cookie == cookie) ≡ false) → AreWellFiled q (own cookie (Filed f ∷ earlier))
      go rest (inr other) = subst (λ (b : Bool). AreWellFiled q (if b then f ∷ own cookie earlier else own cookie earlier)) (sym other) rest
      go rest (inl same) =
          let at : f.cookie ≡ cookie = eqb-true f.cookie cookie same in
          let asked : f.request ≡ q = some_same (sym filed.0 ∙ ap asks at ∙ is) in
          let one : IsWellFiled q f (own cookie earlier) = record {
            request = asked;
            going = subst (λ (c : ℕ). is_ended (own c earlier) ≡ false) at filed.1;
            silent = filed.2;
            handed = λ v said. subst (λ (c : ℕ). v ≡ Keep (error_in q (f ∷ own c earlier)) (bytes_in q (f ∷ own c earlier))) at
                (subst (λ (a : Request K). v ≡ Keep (error_in a (f ∷ own f.cookie earlier)) (bytes_in a (f ∷ own f.cookie earlier))) asked (handed_in f (own f.cookie earlier) filed.2 both.1 v said));
          } in
          subst (λ (b : Bool). AreWellFiled q (if b then f ∷ own cookie earlier else own cookie earlier)) (sym same) (one, rest)

  pub all_kept_are_outcomes : AllKeptAreOutcomes K
  all_kept_are_outcomes asks entries cookie buf q filed all is e = kept_is_outcome q (own cookie entries) buf (well_filed asks entries cookie q filed all is) e
