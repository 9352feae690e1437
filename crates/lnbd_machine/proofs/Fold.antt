-- The row that the entries of one command make.
use Rattle.std.proofs.Common.{◌≡◌, ℕ, zero, suc, ◌+◌, ◌-◌, ◌≤◌, ◌<◌, Bool, true, false, not, ◌&&◌, ◌||◌, List, [], ◌∷◌, get_or, replicate, Option, Some, None, is_some, refl, ap, sym, ◌∙◌, arith, ◌==◌, nat_le, nat_lt, if◌then◌else◌, ◌⊎◌, inl, inr}
use Rattle.std.proofs.lemmas.Bool.{false≢true, cases_eq}
use Rattle.lnbd_extents.specs.Positions.{within, any_at}
use Rattle.lnbd_model.specs.declared.export.Context.{Context as MetaContext}
use Rattle.lnbd_model.specs.declared.failure.Failure.{Failure}
use Rattle.lnbd_model.specs.declared.kind.Kind.{Kind}
use Rattle.lnbd_outcome.specs.Pieces.{Query, Piece, content_of, is_content, has_place, byte_of, is_whole, came, is_completed}
use Rattle.lnbd_outcome.specs.Faults.{told, byte_told, content_fault, has_fault}
use Rattle.lnbd_outcome.specs.Outcome.{error_number, each, buffer, Unfinished, verdict, failure_of}
use Rattle.lnbd_outcome.specs.Facts.{Facts, Same, without_payload, is_bad, facts_with, facts_of, heard_by}
use Rattle.lnbd_outcome.proofs.Standing.{facts_stand}
use Rattle.lnbd_records.specs.Content.{Content, Data, Hole, Status, Error, ErrorAt, Nothing, Bare}
use Rattle.lnbd_callbacks.specs.declared.caller.Verdict.{Verdict}
use Rattle.lnbd_history.specs.declared.kinds.Completed.TheVariants.{NotYet}
use Rattle.lnbd_history.specs.Answers.{kept_as, completed_of}
use Rattle.lnbd_history.specs.Commands.{Flight, Request, query_of, is_read, is_write}
use Rattle.lnbd_history.specs.Entries.{Item, Framed, Lost, Dropped, Filing, Kept, ends, completes, heard_error, kept_by, is_ended, is_retired, retires, pieces, failure_in, error_in, bytes_in, faults_in, hearing_in, outcome_in, kept_in}
use Rattle.lnbd_machine.specs.Machine.{Row, new_row, query_in, hearing, heard_in, ending, add, result_bytes, error_of_row, told_bytes}
use Rattle.lnbd_machine.specs.Now.{completed_with, failure_with}

-- Bytes at places.

each_same : (f g : ℕ → ℕ) (s n : ℕ) → ((p : ℕ) → s ≤ p → p < s + n → f p ≡ g p) → each f s n ≡ each g s n
each_same f g s zero same = refl
each_same f g s (suc n) same =
    let first : f s ≡ g s = same s (omega arith) (omega arith) in
    let rest : each f (s + 1) n ≡ each g (s + 1) n = each_same f g (s + 1) n (λ p low high. same p (omega (arith, low)) (omega (arith, high))) in
    rw (first, rest) refl

each_zero : (s n : ℕ) → each (λ p. 0) s n ≡ replicate n 0
each_zero s zero = refl
each_zero s (suc n) = ap (λ r. 0 ∷ r) (each_zero (s + 1) n)

each_get_as : (f : ℕ → ℕ) (s n p : ℕ) → s ≤ p → p < s + suc n → (s + 1 ≤ p → p < s + 1 + n → get_or (each f (s + 1) n) (p - (s + 1)) 0 ≡ f p) → get_or (f s ∷ each f (s + 1) n) (p - s) 0 ≡ f p
each_get_as f s n p low high ih = go (cases_eq s p)
  where
    go : (s ≡ p) ⊎ (s ≡ p → ⊥) → get_or (f s ∷ each f (s + 1) n) (p - s) 0 ≡ f p
    go (inl is) = let none : p - s ≡ 0 = omega (arith, is) in rw none (ap f is)
    go (inr other) =
        let more : s + 1 ≤ p = omega (arith, low, other) in
        let less : p - s ≡ suc (p - (s + 1)) = omega (arith, more) in
        rw less (ih more (omega (arith, high)))

each_get : (f : ℕ → ℕ) (s n p : ℕ) → s ≤ p → p < s + n → get_or (each f s n) (p - s) 0 ≡ f p
each_get f s zero p low high = absurd (omega (arith, low, high))
each_get f s (suc n) p low high = each_get_as f s n p low high (each_get f (s + 1) n p)

-- Content.

nowhere : (p : ℕ) → within (0, 0) p ≡ false
nowhere p = let none : nat_lt p 0 ≡ false = grind arith in ap (λ (b : Bool). nat_le 0 p && b) none ∙ both_false (nat_le 0 p)
  where
    both_false : (a : Bool) → (a && false) ≡ false
    both_false true = refl
    both_false false = refl

is_not : (b : Bool) → not b ≡ true → b ≡ false
is_not false e = refl
is_not true e = absurd (false≢true e)

at_fault : (a b : Bool) → b ≡ true → (a && not b) ≡ false
at_fault true b e = ap not e
at_fault false b e = refl

is_so : (b : Bool) → not b ≡ false → b ≡ true
is_so true e = refl
is_so false e = absurd (false≢true (sym e))

-- content that is told has no fault
module _ (query : Query) (earlier : List Piece) (contexts : List MetaContext) where
  faulty : Content → Bool
  faulty content = content_fault (is_whole query) (came earlier) (any_at (told query earlier)) content

  told_well : (content : Content) → (is_content content && not (has_fault query earlier contexts content)) ≡ true → faulty content ≡ false
  unfolding faulty
  told_well (Data offset bytes) e = is_not (faulty (Data offset bytes)) e
  told_well (Hole offset size) e = is_not (faulty (Hole offset size)) e
  told_well (Status id descriptors) e = absurd (false≢true e)
  told_well (Error number) e = absurd (false≢true e)
  told_well (ErrorAt number offset) e = absurd (false≢true e)
  told_well Nothing e = absurd (false≢true e)
  told_well Bare e = absurd (false≢true e)

  none_placed : (content : Content) (p : ℕ) → (is_content content && not (has_fault query earlier contexts content)) ≡ false → (has_place content p && not (faulty content)) ≡ false
  unfolding faulty
  none_placed (Data offset bytes) p e = let bad : faulty (Data offset bytes) ≡ true = is_so (faulty (Data offset bytes)) e in at_fault (has_place (Data offset bytes) p) (faulty (Data offset bytes)) bad
  none_placed (Hole offset size) p e = let bad : faulty (Hole offset size) ≡ true = is_so (faulty (Hole offset size)) e in at_fault (has_place (Hole offset size) p) (faulty (Hole offset size)) bad
  none_placed (Status id descriptors) p e = ap (λ (b : Bool). b && not (faulty (Status id descriptors))) (nowhere p)
  none_placed (Error number) p e = ap (λ (b : Bool). b && not (faulty (Error number))) (nowhere p)
  none_placed (ErrorAt number offset) p e = ap (λ (b : Bool). b && not (faulty (ErrorAt number offset))) (nowhere p)
  none_placed Nothing p e = ap (λ (b : Bool). b && not (faulty Nothing)) (nowhere p)
  none_placed Bare p e = ap (λ (b : Bool). b && not (faulty Bare)) (nowhere p)

-- Rows.

ending-kind : {K : Type 0} (b : Bool) (verdict : Option Verdict) (row : Row K) → (ending b verdict row).kind ≡ row.kind
ending-kind true verdict row = refl
ending-kind false verdict row = refl

ending-flags : {K : Type 0} (b : Bool) (verdict : Option Verdict) (row : Row K) → (ending b verdict row).flags ≡ row.flags
ending-flags true verdict row = refl
ending-flags false verdict row = refl

ending-offset : {K : Type 0} (b : Bool) (verdict : Option Verdict) (row : Row K) → (ending b verdict row).offset ≡ row.offset
ending-offset true verdict row = refl
ending-offset false verdict row = refl

ending-length : {K : Type 0} (b : Bool) (verdict : Option Verdict) (row : Row K) → (ending b verdict row).length ≡ row.length
ending-length true verdict row = refl
ending-length false verdict row = refl

ending-failure : {K : Type 0} (b : Bool) (verdict : Option Verdict) (row : Row K) → (ending b verdict row).facts.failure ≡ row.facts.failure
ending-failure true verdict row = refl
ending-failure false verdict row = refl

told_as : (read write : Bool) → (content payload : List ℕ) → List ℕ
told_as read write content payload = if read then content else if write then payload else []

pub parts : (a b : Bool) → (a || b) ≡ false → (a ≡ false) × (b ≡ false)
parts true b e = absurd (false≢true (sym e))
parts false b e = (refl, e)

handed : (size error : ℕ) (content payload : List ℕ) (read write : Bool) →
    (if read then if error == 0 then told_as read write content payload else replicate size 0 else if write then told_as read write content payload else [])
    ≡ (if read then if error == 0 then content else replicate size 0 else if write then payload else [])
unfolding told_as
handed size error content payload true write = refl
handed size error content payload false true = refl
handed size error content payload false false = refl

asked_as : Kind → (flags offset length : ℕ) → Query
asked_as kind flags offset length = record { kind = kind; flags = flags; offset = offset; length = length; payload = [] }

completes_ends : (item : Item) → ends item ≡ false → completes item ≡ false
completes_ends (Framed content last) e = e
completes_ends Lost e = e
completes_ends Dropped e = refl

module _ {K : Type 0} where
  -- the row after these entries, the latest first
  abbrev pub row_of : Request K → List (Filing K) → Row K
  row_of q [] = new_row q
  row_of q (f ∷ own) = add (row_of q own) f.contexts f.item f.heard f.verdict

  -- the row as an entry tells it, before it may end
  abbrev pub row_heard : Request K → List (Filing K) → Filing K → Row K
  row_heard q own f = hearing (row_of q own) f.contexts f.item f.heard

  -- Of the entries of a command only the latest may end it.
  abbrev pub EndsLast : List (Filing K) → Type 0
  EndsLast [] = Unit {0}
  EndsLast (f ∷ earlier) = is_ended earlier ≡ false

  pub row_kind : (q : Request K) (own : List (Filing K)) → (row_of q own).kind ≡ q.kind
  row_kind q [] = refl
  row_kind q (f ∷ own) = ending-kind (ends f.item) f.verdict (row_heard q own f) ∙ row_kind q own

  pub row_flags : (q : Request K) (own : List (Filing K)) → (row_of q own).flags ≡ q.flags
  row_flags q [] = refl
  row_flags q (f ∷ own) = ending-flags (ends f.item) f.verdict (row_heard q own f) ∙ row_flags q own

  pub row_offset : (q : Request K) (own : List (Filing K)) → (row_of q own).offset ≡ q.offset
  row_offset q [] = refl
  row_offset q (f ∷ own) = ending-offset (ends f.item) f.verdict (row_heard q own f) ∙ row_offset q own

  pub row_length : (q : Request K) (own : List (Filing K)) → (row_of q own).length ≡ q.length
  row_length q [] = refl
  row_length q (f ∷ own) = ending-length (ends f.item) f.verdict (row_heard q own f) ∙ row_length q own

  pub row_query : (q : Request K) (own : List (Filing K)) → query_in (row_of q own) ≡ without_payload (query_of q)
  unfolding asked_as
  row_query q own =
      let row = row_of q own in
      ap (λ k. asked_as k row.flags row.offset row.length) (row_kind q own)
      ∙ ap (λ (f : ℕ). asked_as q.kind f row.offset row.length) (row_flags q own)
      ∙ ap (λ (o : ℕ). asked_as q.kind q.flags o row.length) (row_offset q own)
      ∙ ap (λ (l : ℕ). asked_as q.kind q.flags q.offset l) (row_length q own)

  -- What is kept of a command in flight are the facts of all that came.

  abbrev pub facts_now : Request K → List (Filing K) → Facts
  facts_now q own = facts_of (without_payload (query_of q)) (pieces own)

  facts_heard_as : (q : Request K) (own : List (Filing K)) (f : Filing K) → (row_of q own).facts ≡ facts_now q own → (row_heard q own f).facts ≡ facts_now q (f ∷ own)
  facts_heard_as q own f e =
      ap (λ a. facts_with a f.contexts f.item (heard_error f.heard) (row_of q own).facts) (row_query q own)
      ∙ ap (λ a. facts_with (without_payload (query_of q)) f.contexts f.item (heard_error f.heard) a) e

  pub row_facts : (q : Request K) (own : List (Filing K)) → is_ended own ≡ false → (row_of q own).facts ≡ facts_now q own
  row_facts q [] e = refl
  row_facts q (f ∷ own) e =
      let live = parts (ends f.item) (is_ended own) e in
      ap (λ (b : Bool). (ending b f.verdict (row_heard q own f)).facts) live.0 ∙ facts_heard_as q own f (row_facts q own live.1)

  stand : (q : Request K) (own : List (Filing K)) → Same (query_of q) (pieces own) (facts_now q own)
  stand q own = facts_stand (query_of q) (pieces own)

  module _ (q : Request K) (own : List (Filing K)) (live : is_ended own ≡ false) where
    facts_heard : (f : Filing K) → (row_heard q own f).facts ≡ facts_now q (f ∷ own)
    facts_heard f = facts_heard_as q own f (row_facts q own live)

    failure_heard : (f : Filing K) → (row_heard q own f).facts.failure ≡ failure_in q (f ∷ own)
    failure_heard f = ap (λ (a : Facts). a.failure) (facts_heard f) ∙ (stand q (f ∷ own)).failure

    pub error_heard : (f : Filing K) → error_of_row (row_heard q own f) ≡ error_in q (f ∷ own)
    error_heard f = ap error_number (failure_heard f)

    pub row_hears : (contexts : List MetaContext) (item : Item) → heard_in (row_of q own) contexts item ≡ hearing_in q own contexts item
    row_hears contexts item =
        ap (λ a. heard_by a (row_of q own).facts contexts item) (row_query q own)
        ∙ ap (λ a. heard_by (without_payload (query_of q)) a contexts item) (row_facts q own live)
        ∙ (stand q own).heard contexts item

    pub row_faults : (row_of q own).facts.faults ≡ faults_in q own
    row_faults = ap (λ (a : Facts). a.faults) (row_facts q own live) ∙ (stand q own).faults

    pub row_judges : (contexts : List MetaContext) (content : Content) → is_bad (query_in (row_of q own)) contexts (row_of q own).facts content ≡ has_fault (query_of q) (pieces own) contexts content
    row_judges contexts content =
        ap (λ a. is_bad a contexts (row_of q own).facts content) (row_query q own)
        ∙ ap (λ a. is_bad (without_payload (query_of q)) contexts a content) (row_facts q own live)
        ∙ (stand q own).judged contexts content

  -- Its first error stays at its end.
  pub row_failure : (q : Request K) (own : List (Filing K)) → EndsLast own → (row_of q own).facts.failure ≡ failure_in q own
  row_failure q [] last = refl
  row_failure q (f ∷ own) last = ending-failure (ends f.item) f.verdict (row_heard q own f) ∙ failure_heard q own last f

  abbrev pub flight_if : Bool → Flight K → Option (Flight K)
  flight_if true flight = None
  flight_if false flight = Some flight

  ending-flight : (b c : Bool) (verdict : Option Verdict) (row : Row K) (flight : Flight K) → row.flight ≡ flight_if c flight → (ending b verdict row).flight ≡ flight_if (b || c) flight
  ending-flight true c verdict row flight e = refl
  ending-flight false c verdict row flight e = e

  pub row_flight : (q : Request K) (own : List (Filing K)) → (row_of q own).flight ≡ flight_if (is_ended own) q.flight
  row_flight q [] = refl
  row_flight q (f ∷ own) = ending-flight (ends f.item) (is_ended own) f.verdict (row_heard q own f) q.flight (row_flight q own)

  ending-kept : (b : Bool) (verdict : Option Verdict) (row : Row K) (kept : Option Kept) → row.kept ≡ kept → (ending b verdict row).kept ≡ (if b then kept_by verdict else kept)
  ending-kept true verdict row kept e = refl
  ending-kept false verdict row kept e = e

  pub row_kept : (q : Request K) (own : List (Filing K)) → (row_of q own).kept ≡ kept_in own
  row_kept q [] = refl
  row_kept q (f ∷ own) = ending-kept (ends f.item) f.verdict (row_heard q own f) (kept_in own) (row_kept q own)

  -- The buffer, while the command is in flight.

  byte_now : Request K → List (Filing K) → ℕ → ℕ
  byte_now q own = byte_told (query_of q) (pieces own)

  told_row : Request K → List (Filing K) → List ℕ
  told_row q own = told_as (is_read q.kind) (is_write q.kind) (each (byte_now q own) q.offset q.length) q.payload

  module _ (q : Request K) (own : List (Filing K)) (f : Filing K) where
    content : Content
    content = content_of f.item

    bad : Bool
    bad = has_fault (query_of q) (pieces own) f.contexts (content_of f.item)

    byte_at : ℕ → ℕ → ℕ
    byte_at p x = if has_place content p then byte_of content p else x

    told_more : (s n : ℕ) → (is_content content && not bad) ≡ true → each (λ p. byte_at p (get_or (each (byte_now q own) s n) (p - s) 0)) s n ≡ each (byte_now q (f ∷ own)) s n
    unfolding byte_at byte_now content bad faulty
    told_more s n well = each_same (λ p. byte_at p (get_or (each (byte_now q own) s n) (p - s) 0)) (byte_now q (f ∷ own)) s n
        (λ p low high. ap (byte_at p) (each_get (byte_now q own) s n p low high)
        ∙ sym (ap (λ (b : Bool). if has_place content p && not b then byte_of content p else byte_now q own p) (told_well (query_of q) (pieces own) f.contexts content well)
        ∙ ap (λ (b : Bool). if b then byte_of content p else byte_now q own p) (and_true (has_place content p))))
      where
        and_true : (a : Bool) → (a && true) ≡ a
        and_true true = refl
        and_true false = refl

    told_not : (s n : ℕ) → (is_content content && not bad) ≡ false → each (byte_now q own) s n ≡ each (byte_now q (f ∷ own)) s n
    unfolding byte_now content bad faulty
    told_not s n none = each_same (byte_now q own) (byte_now q (f ∷ own)) s n
        (λ p low high. sym (ap (λ (b : Bool). if b then byte_of content p else byte_now q own p) (none_placed (query_of q) (pieces own) f.contexts content p none)))

    -- one entry more, where what is read of the row is given apart
    told_by : (s n : ℕ) (payload : List ℕ) (read write : Bool) →
        (if read && is_content content && not bad then each (λ p. byte_at p (get_or (told_as read write (each (byte_now q own) s n) payload) (p - s) 0)) s n else told_as read write (each (byte_now q own) s n) payload)
        ≡ told_as read write (each (byte_now q (f ∷ own)) s n) payload
    unfolding told_as
    told_by s n payload false write = refl
    told_by s n payload true write = go (is_content content && not bad) refl
      where
        go : (b : Bool) → (is_content content && not bad) ≡ b → (if b then each (λ p. byte_at p (get_or (each (byte_now q own) s n) (p - s) 0)) s n else each (byte_now q own) s n) ≡ each (byte_now q (f ∷ own)) s n
        go true e = told_more s n e
        go false e = told_not s n e

  bytes_heard : (q : Request K) (own : List (Filing K)) (f : Filing K) → is_ended own ≡ false → (row_of q own).bytes ≡ told_row q own → (row_heard q own f).bytes ≡ told_row q (f ∷ own)
  unfolding told_row byte_at content bad
  bytes_heard q own f live e =
      let row = row_of q own in
      ap (λ (b : Bool). told_bytes b row.kind row.offset row.length (content_of f.item) row.bytes) (row_judges q own live f.contexts (content_of f.item))
      ∙ ap (λ k. told_bytes (bad q own f) k row.offset row.length (content_of f.item) row.bytes) (row_kind q own)
      ∙ ap (λ (o : ℕ). told_bytes (bad q own f) q.kind o row.length (content_of f.item) row.bytes) (row_offset q own)
      ∙ ap (λ (l : ℕ). told_bytes (bad q own f) q.kind q.offset l (content_of f.item) row.bytes) (row_length q own)
      ∙ ap (λ b. told_bytes (bad q own f) q.kind q.offset q.length (content_of f.item) b) e
      ∙ told_by q own f q.offset q.length q.payload (is_read q.kind) (is_write q.kind)

  row_bytes : (q : Request K) (own : List (Filing K)) → is_ended own ≡ false → (row_of q own).bytes ≡ told_row q own
  unfolding told_row told_as byte_now
  row_bytes q [] e = go (is_read q.kind) (is_write q.kind)
    where
      go : (read write : Bool) → (if read then replicate q.length 0 else if write then q.payload else []) ≡ (if read then each (byte_told (query_of q) []) q.offset q.length else if write then q.payload else [])
      go true write = sym (each_zero q.offset q.length)
      go false write = refl
  row_bytes q (f ∷ own) e =
      let live = parts (ends f.item) (is_ended own) e in
      ap (λ (b : Bool). (ending b f.verdict (row_heard q own f)).bytes) live.0 ∙ bytes_heard q own f live.1 (row_bytes q own live.1)

  -- what goes to the completion callback is what the entries come to
  pub bytes_handed : (q : Request K) (own : List (Filing K)) (f : Filing K) → is_ended own ≡ false → result_bytes (row_heard q own f) ≡ bytes_in q (f ∷ own)
  unfolding told_row byte_now
  bytes_handed q own f live =
      let bytes = bytes_heard q own f live (row_bytes q own live) in
      let row = row_heard q own f in
      ap (λ k. buffer k row.length row.bytes (error_of_row row) row.bytes) (row_kind q own)
      ∙ ap (λ (l : ℕ). buffer q.kind l row.bytes (error_of_row row) row.bytes) (row_length q own)
      ∙ ap (λ (e : ℕ). buffer q.kind q.length row.bytes e row.bytes) (error_heard q own live f)
      ∙ ap (λ b. buffer q.kind q.length b (error_in q (f ∷ own)) b) bytes
      ∙ handed q.length (error_in q (f ∷ own)) (each (byte_now q (f ∷ own)) q.offset q.length) q.payload (is_read q.kind) (is_write q.kind)

  -- What it comes to.

  -- a command that is neither retired nor kept is in flight
  none_kept : (own : List (Filing K)) → is_retired own ≡ false → kept_in own ≡ None → is_ended own ≡ false
  none_kept [] e none = refl
  none_kept (f ∷ own) e none = go (ends f.item) refl (parts (retires f) (is_retired own) e) none (none_kept own)
    where
      go : (b : Bool) → ends f.item ≡ b → (retires f ≡ false) × (is_retired own ≡ false) → (if b then kept_by f.verdict else kept_in own) ≡ None → (is_retired own ≡ false → kept_in own ≡ None → is_ended own ≡ false) → (b || is_ended own) ≡ false
      go true last left gone rest = absurd (false≢true (sym left.0 ∙ ap (λ (b : Bool). b && not (is_some (kept_by f.verdict))) last ∙ ap (λ k. not (is_some k)) gone))
      go false last left gone rest = rest left.1 gone

  pub live_unfinished : (own : List (Filing K)) → is_ended own ≡ false → is_completed (pieces own) ≡ false
  live_unfinished [] e = refl
  live_unfinished (f ∷ own) e =
      let live = parts (ends f.item) (is_ended own) e in
      ap (λ (b : Bool). b || is_completed (pieces own)) (completes_ends f.item live.0) ∙ live_unfinished own live.1

  -- what is kept came with a completion
  abbrev pub Settled : List (Filing K) → Type 0
  Settled own = is_some (kept_in own) ≡ true → is_completed (pieces own) ≡ true

  module _ (q : Request K) (own : List (Filing K)) (stays : is_retired own ≡ false) (settled : Settled own) where
    completed_by : (b : Bool) → is_completed (pieces own) ≡ b → (kept : Option Kept) → kept_in own ≡ kept → completed_with kept ≡ completed_of (if b then verdict (failure_in q own) (bytes_in q own) else Unfinished) kept
    completed_by b done None e = go b (sym done ∙ live_unfinished own (none_kept own stays e))
      where
        go : (b : Bool) → b ≡ false → NotYet ≡ completed_of (if b then verdict (failure_in q own) (bytes_in q own) else Unfinished) None
        go false w = refl
        go true w = absurd (false≢true (sym w))
    completed_by b done (Some kept) e = go b (sym done ∙ settled (ap is_some e)) (failure_in q own)
      where
        go : (b : Bool) → b ≡ true → (failure : Option Failure) → kept_as (Some kept) ≡ completed_of (if b then verdict failure (bytes_in q own) else Unfinished) (Some kept)
        go true w None = refl
        go true w (Some failure) = refl
        go false w failure = absurd (false≢true w)

    pub row_completed : completed_with (row_of q own).kept ≡ completed_of (outcome_in q own) (kept_in own)
    row_completed = ap completed_with (row_kept q own) ∙ completed_by (is_completed (pieces own)) refl (kept_in own) refl

    failed_by : (b : Bool) → is_completed (pieces own) ≡ b → (kept : Option Kept) → kept_in own ≡ kept → failure_with kept (failure_in q own) ≡ failure_of (if b then verdict (failure_in q own) (bytes_in q own) else Unfinished)
    failed_by b done None e = go b (sym done ∙ live_unfinished own (none_kept own stays e))
      where
        go : (b : Bool) → b ≡ false → None ≡ failure_of (if b then verdict (failure_in q own) (bytes_in q own) else Unfinished)
        go false w = refl
        go true w = absurd (false≢true (sym w))
    failed_by b done (Some kept) e = go b (sym done ∙ settled (ap is_some e)) (failure_in q own)
      where
        go : (b : Bool) → b ≡ true → (failure : Option Failure) → failure ≡ failure_of (if b then verdict failure (bytes_in q own) else Unfinished)
        go true w None = refl
        go true w (Some failure) = refl
        go false w failure = absurd (false≢true w)

    pub row_failed : EndsLast own → failure_with (row_of q own).kept (row_of q own).facts.failure ≡ failure_of (outcome_in q own)
    row_failed last =
        ap (λ k. failure_with k (row_of q own).facts.failure) (row_kept q own)
        ∙ ap (λ f. failure_with (kept_in own) f) (row_failure q own last)
        ∙ failed_by (is_completed (pieces own)) refl (kept_in own) refl
