-- The laws of all streams, as lemmas.
use Rattle.std.proofs.Common.{◌≡◌, ℕ, ◌+◌, ◌≤◌, List, [], ◌∷◌, ◌++◌, length, take, drop, Option, Some, None, refl, ap, sym, subst, ◌∙◌, arith, append_assoc}
use Rattle.std.proofs.Math.Seq.{take-add}
use Rattle.std.proofs.lemmas.List.{length-append}
use Rattle.lnbd_stream.specs.Stream.{Rules, Held, fresh, settle, take_byte, feed, shown_by, trace, spelled, things}
use Rattle.lnbd_stream.specs.Grammar.{Sized}
use Rattle.lnbd_stream.specs.Laws.{Steady, Front, Cuts, Alike, Lasts, Passes, after_passing}

append_none : (xs : List ℕ) → xs ++ [] ≡ xs
append_none [] = refl
append_none (x ∷ xs) = ap (λ r. x ∷ r) (append_none xs)

pub feed-append : {S R : Type 0} (rules : Rules S R) (h : Held S) (first second : List ℕ) → feed rules h (first ++ second) ≡ feed rules (feed rules h first) second
feed-append rules h [] second = refl
feed-append rules h (byte ∷ first) second = feed-append rules (take_byte rules h byte) first second

-- What was taken so far, and then the next bytes, is what is taken of all of them.
pub feed_take : {S R : Type 0} (rules : Rules S R) (h : Held S) (used n : ℕ) (buffer : List ℕ) → feed rules h (take (used + n) buffer) ≡ feed rules (feed rules h (take used buffer)) (take n (drop used buffer))
feed_take rules h used n buffer = ap (feed rules h) (take-add used n buffer) ∙ feed-append rules h (take used buffer) (take n (drop used buffer))

-- what is shown in two pieces
pub trace-append : {S R : Type 0} (rules : Rules S R) (held : Held S) (first second : List ℕ) → trace rules held (first ++ second) ≡ trace rules held first ++ trace rules (feed rules held first) second
trace-append rules held [] second = refl
trace-append rules held (byte ∷ first) second =
    ap (λ t. shown_by (held.pending ++ byte ∷ []) (rules.shows held.known (held.pending ++ byte ∷ [])) ++ t) (trace-append rules (take_byte rules held byte) first second)
    ∙ sym (append_assoc (shown_by (held.pending ++ byte ∷ []) (rules.shows held.known (held.pending ++ byte ∷ []))) (trace rules (take_byte rules held byte) first) (trace rules (feed rules (take_byte rules held byte) first) second))

module _ {S T R : Type 0} (left : Rules S R) (right : Rules T R) (Same : S → T → Type 0) (alike : Alike left right Same) where
  settle_alike : (a : S) (b : T) (bytes : List ℕ) (v : Option R) → right.shows b bytes ≡ v → Same a b →
      Same (settle left a bytes v).known (settle right b bytes v).known × ((settle left a bytes v).pending ≡ (settle right b bytes v).pending)
  settle_alike a b bytes None e same = (same, refl)
  settle_alike a b bytes (Some found) e same = (alike.enter a b bytes found same e, refl)

  take_alike : (a : Held S) (b : Held T) (byte : ℕ) → Same a.known b.known → a.pending ≡ b.pending →
      Same (take_byte left a byte).known (take_byte right b byte).known × ((take_byte left a byte).pending ≡ (take_byte right b byte).pending)
  take_alike a b byte known pending =
      let joined : a.pending ++ byte ∷ [] ≡ b.pending ++ byte ∷ [] = ap (λ p. p ++ byte ∷ []) pending in
      rw (joined, alike.shows a.known b.known (b.pending ++ byte ∷ []) known) (settle_alike a.known b.known (b.pending ++ byte ∷ []) (right.shows b.known (b.pending ++ byte ∷ [])) refl known)

  pub feed_alike : (a : Held S) (b : Held T) (bytes : List ℕ) → Same a.known b.known → a.pending ≡ b.pending →
      Same (feed left a bytes).known (feed right b bytes).known × ((feed left a bytes).pending ≡ (feed right b bytes).pending)
  feed_alike a b [] known pending = (known, pending)
  feed_alike a b (byte ∷ bytes) known pending = let one = take_alike a b byte known pending in feed_alike (take_byte left a byte) (take_byte right b byte) bytes one.0 one.1

  pub trace_alike : (a : Held S) (b : Held T) (bytes : List ℕ) → Same a.known b.known → a.pending ≡ b.pending → trace left a bytes ≡ trace right b bytes
  trace_alike a b [] known pending = refl
  trace_alike a b (byte ∷ bytes) known pending =
      let now : List ℕ = b.pending ++ byte ∷ [] in
      let joined : a.pending ++ byte ∷ [] ≡ now = ap (λ p. p ++ byte ∷ []) pending in
      let one = take_alike a b byte known pending in
      let rest : trace left (take_byte left a byte) bytes ≡ trace right (take_byte right b byte) bytes = trace_alike (take_byte left a byte) (take_byte right b byte) bytes one.0 one.1 in
      ap (λ p. shown_by p (left.shows a.known p) ++ trace left (take_byte left a byte) bytes) joined
      ∙ ap (λ v. shown_by now v ++ trace left (take_byte left a byte) bytes) (alike.shows a.known b.known now known)
      ∙ ap (λ t. shown_by now (right.shows b.known now) ++ t) rest

module _ {S R : Type 0} (rules : Rules S R) (P : S → Type 0) (lasts : Lasts rules P) where
  settle_lasts : (a : S) (bytes : List ℕ) (v : Option R) → rules.shows a bytes ≡ v → P a → P (settle rules a bytes v).known
  settle_lasts a bytes None e p = p
  settle_lasts a bytes (Some found) e p = lasts a bytes found p e

  pub feed_lasts : (h : Held S) (bytes : List ℕ) → P h.known → P (feed rules h bytes).known
  feed_lasts h [] p = p
  feed_lasts h (byte ∷ bytes) p = feed_lasts (take_byte rules h byte) bytes (settle_lasts h.known (h.pending ++ byte ∷ []) (rules.shows h.known (h.pending ++ byte ∷ [])) refl p)

module _ {S R : Type 0} (rules : Rules S R) (none : (known : S) → rules.shows known [] ≡ None) where
  settle_partial : (known : S) (bytes : List ℕ) (v : Option R) → rules.shows known bytes ≡ v → rules.shows (settle rules known bytes v).known (settle rules known bytes v).pending ≡ None
  settle_partial known bytes None e = e
  settle_partial known bytes (Some found) e = none (rules.enter found known)

  -- the bytes that are held show nothing
  pub feed_partial : (held : Held S) (bytes : List ℕ) → rules.shows held.known held.pending ≡ None → rules.shows (feed rules held bytes).known (feed rules held bytes).pending ≡ None
  feed_partial held [] e = e
  feed_partial held (byte ∷ bytes) e = feed_partial (take_byte rules held byte) bytes (settle_partial held.known (held.pending ++ byte ∷ []) (rules.shows held.known (held.pending ++ byte ∷ [])) refl)

module _ {S R : Type 0} (rules : Rules S R) (shown : S → R) (P : S → Type 0) (passes : Passes rules shown P) where
  -- bytes that are passed over one by one
  pub feed_passed : (known : S) (bytes : List ℕ) → P known → feed rules (fresh known) bytes ≡ fresh (after_passing rules shown bytes known)
  feed_passed known [] p = refl
  feed_passed known (byte ∷ bytes) p =
      ap (λ v. feed rules (settle rules known (byte ∷ []) v) bytes) (passes.shows known byte p) ∙ feed_passed (rules.enter (shown known) known) bytes (passes.lasts known p)

-- a shorter front of pending ++ b ∷ [] is a front of pending
prefix_of : (xs ys : List ℕ) (m b : ℕ) (more : List ℕ) → xs ++ m ∷ more ≡ ys ++ b ∷ [] → (q : List ℕ) × (ys ≡ xs ++ q)
prefix_of [] ys m b more e = (ys, refl)
prefix_of (x ∷ xs) [] m b more e = let n = ap length e in absurd (omega (arith, n, length-append xs (m ∷ more)))
prefix_of (x ∷ xs) (y ∷ ys) m b more e =
    let tails : xs ++ m ∷ more ≡ ys ++ b ∷ [] = cc in
    let heads : y ≡ x = cc in
    let r = prefix_of xs ys m b more tails in
    (r.0, cc (r.1))

-- Buffers, where what is shown stays.
module _ {S R : Type 0} (rules : Rules S R) (steady : Steady rules) where
  -- a front of what shows nothing shows nothing
  pub front_none : (known : S) (bytes more : List ℕ) → rules.shows known (bytes ++ more) ≡ None → rules.shows known bytes ≡ None
  front_none known bytes more e = go (rules.shows known bytes) refl
    where
      go : (v : Option R) → rules.shows known bytes ≡ v → rules.shows known bytes ≡ None
      go None w = w
      go (Some found) w = let c : None ≡ Some found = sym e ∙ steady.stays known bytes more found w in cc

  -- bytes that show nothing are held
  pub feed_none : (known : S) (pending bytes : List ℕ) → rules.shows known (pending ++ bytes) ≡ None → feed rules (record { known = known; pending = pending }) bytes ≡ record { known = known; pending = pending ++ bytes }
  feed_none known pending [] e = ap (λ p. record { known = known; pending = p }) (sym (append_none pending))
  feed_none known pending (byte ∷ bytes) e =
      let joined : (pending ++ byte ∷ []) ++ bytes ≡ pending ++ byte ∷ bytes = append_assoc pending (byte ∷ []) bytes in
      let whole : rules.shows known ((pending ++ byte ∷ []) ++ bytes) ≡ None = ap (rules.shows known) joined ∙ e in
      ap (λ v. feed rules (settle rules known (pending ++ byte ∷ []) v) bytes) (front_none known (pending ++ byte ∷ []) bytes whole)
      ∙ feed_none known (pending ++ byte ∷ []) bytes whole ∙ ap (λ p. record { known = known; pending = p }) joined

  -- what these bytes show is shown at some first front
  first_front : (known : S) (pending bytes : List ℕ) (found : R) → rules.shows known pending ≡ None → rules.shows known (pending ++ bytes) ≡ Some found →
      (front more : List ℕ) × (pending ++ bytes ≡ front ++ more) × Front rules known front found
      × (feed rules (record { known = known; pending = pending }) bytes ≡ feed rules (record { known = rules.enter found known; pending = [] }) more)
  first_front known pending [] found before e = let c : None ≡ Some found = sym before ∙ ap (rules.shows known) (sym (append_none pending)) ∙ e in cc
  first_front known pending (byte ∷ bytes) found before e = go (rules.shows known now) refl (λ still. first_front known now bytes found still whole)
    where
      now : List ℕ
      now = pending ++ byte ∷ []

      joined : now ++ bytes ≡ pending ++ byte ∷ bytes
      joined = append_assoc pending (byte ∷ []) bytes

      whole : rules.shows known (now ++ bytes) ≡ Some found
      whole = ap (rules.shows known) joined ∙ e

      go : (v : Option R) → rules.shows known now ≡ v →
          (rules.shows known now ≡ None → (front more : List ℕ) × (now ++ bytes ≡ front ++ more) × Front rules known front found
          × (feed rules (record { known = known; pending = now }) bytes ≡ feed rules (record { known = rules.enter found known; pending = [] }) more)) →
          (front more : List ℕ) × (pending ++ byte ∷ bytes ≡ front ++ more) × Front rules known front found
          × (feed rules (settle rules known now (rules.shows known now)) bytes ≡ feed rules (record { known = rules.enter found known; pending = [] }) more)
      go None w rest = let r = rest w in (r.0, r.1, sym joined ∙ r.2, r.3, ap (λ v. feed rules (settle rules known now v) bytes) w ∙ r.4)
      go (Some other) w rest =
          let c : Some found ≡ Some other = sym whole ∙ steady.stays known now bytes other w in
          let same : other ≡ found = cc in
          let shown : rules.shows known now ≡ Some found = w ∙ ap (λ x. Some x) same in
          (now, bytes, sym joined, record { shown = shown; first = λ bytes' more' byte' same. let r = prefix_of bytes' pending byte' byte more' same in front_none known bytes' r.0 (ap (rules.shows known) (sym r.1) ∙ before) }, ap (λ v. feed rules (settle rules known now v) bytes) shown)

  pub feed_found : (known : S) (bytes : List ℕ) (found : R) → rules.shows known bytes ≡ Some found →
      (front more : List ℕ) × (bytes ≡ front ++ more) × Front rules known front found
      × (feed rules (record { known = known; pending = [] }) bytes ≡ feed rules (record { known = rules.enter found known; pending = [] }) more)
  feed_found known bytes found e = first_front known [] bytes found (steady.none known) e

  pub feed_front : (known : S) (front more : List ℕ) (found : R) → Front rules known front found →
      feed rules (record { known = known; pending = [] }) (front ++ more) ≡ feed rules (record { known = rules.enter found known; pending = [] }) more
  feed_front known front more found f =
      let r = feed_found known front found f.shown in
      feed-append rules (record { known = known; pending = [] }) front more ∙ ap (λ h. feed rules h more) (go r.0 r.1 r.2 r.3 r.4)
    where
      go : (a b : List ℕ) → front ≡ a ++ b → Front rules known a found →
          feed rules (record { known = known; pending = [] }) front ≡ feed rules (record { known = rules.enter found known; pending = [] }) b →
          feed rules (record { known = known; pending = [] }) front ≡ record { known = rules.enter found known; pending = [] }
      go a [] same g e = e
      go a (x ∷ b) same g e = let c : None ≡ Some found = sym (f.first a b x (sym same)) ∙ g.shown in cc

  -- a thing shown of a size at bytes of that size is shown there first
  pub front_of_size : (size : R → ℕ) → ((k : S) → Sized size (rules.shows k)) →
      (known : S) (front : List ℕ) (found : R) → rules.shows known front ≡ Some found → length front ≤ size found → Front rules known front found
  front_of_size size sized known front found e fits = record { shown = e; first = λ bytes more byte same. go bytes more byte same (rules.shows known bytes) refl }
    where
      go : (bytes more : List ℕ) (byte : ℕ) → bytes ++ byte ∷ more ≡ front → (v : Option R) → rules.shows known bytes ≡ v → rules.shows known bytes ≡ None
      go bytes more byte same None w = w
      go bytes more byte same (Some other) w =
          let late : Some found ≡ Some other = sym e ∙ ap (rules.shows known) (sym same) ∙ steady.stays known bytes (byte ∷ more) other w in
          let is : found ≡ other = cc in
          let short : size other ≤ length bytes = sized known bytes other w in
          absurd (omega (arith, ap size is, ap length same, length-append bytes (byte ∷ more)))

  -- the cut of the bytes is what is taken of them
  pub feed_cuts : (records : List R) (known after : S) (bytes rest : List ℕ) → Cuts rules known bytes records after rest →
      feed rules (record { known = known; pending = [] }) bytes ≡ record { known = after; pending = rest }
  feed_cuts [] known after bytes rest cuts = ap (λ b. feed rules (record { known = known; pending = [] }) b) cuts.1 ∙ ap (λ k. feed rules (record { known = k; pending = [] }) rest) cuts.0 ∙ feed_none after [] rest cuts.2
  feed_cuts (found ∷ records) known after bytes rest cuts = let f = feed_front known cuts.0 cuts.1 found cuts.3 in
      ap (λ b. feed rules (record { known = known; pending = [] }) b) cuts.2 ∙ f ∙ feed_cuts records (rules.enter found known) after cuts.1 rest cuts.4

  -- a front shows its thing and no other
  trace_first : (known : S) (pending bytes : List ℕ) (found : R) → rules.shows known pending ≡ None → Front rules known (pending ++ bytes) found →
      trace rules (record { known = known; pending = pending }) bytes ≡ (pending ++ bytes, found) ∷ []
  trace_first known pending [] found before front = let c : None ≡ Some found = sym before ∙ ap (rules.shows known) (sym (append_none pending)) ∙ front.shown in cc
  trace_first known pending (byte ∷ []) found before front =
      ap (λ v. shown_by (pending ++ byte ∷ []) v ++ []) front.shown
  trace_first known pending (byte ∷ next ∷ bytes) found before front =
      let now : List ℕ = pending ++ byte ∷ [] in
      let joined : now ++ next ∷ bytes ≡ pending ++ byte ∷ next ∷ bytes = append_assoc pending (byte ∷ []) (next ∷ bytes) in
      let still : rules.shows known now ≡ None = front.first now bytes next joined in
      ap (λ v. shown_by now v ++ trace rules (settle rules known now v) (next ∷ bytes)) still
      ∙ trace_first known now (next ∷ bytes) found still (subst (λ b. Front rules known b found) (sym joined) front)
      ∙ ap (λ b. (b, found) ∷ []) joined

  pub trace_front : (known : S) (front more : List ℕ) (found : R) → Front rules known front found →
      trace rules (fresh known) (front ++ more) ≡ (front, found) ∷ trace rules (fresh (rules.enter found known)) more
  trace_front known front more found f =
      let after : feed rules (fresh known) front ≡ fresh (rules.enter found known) = ap (feed rules (fresh known)) (sym (append_none front)) ∙ feed_front known front [] found f in
      trace-append rules (fresh known) front more
      ∙ ap (λ t. t ++ trace rules (feed rules (fresh known) front) more) (trace_first known [] front found (steady.none known) f)
      ∙ ap (λ h. (front, found) ∷ trace rules h more) after

  -- bytes that show nothing leave no trace
  pub trace_none : (known : S) (pending bytes : List ℕ) → rules.shows known (pending ++ bytes) ≡ None → trace rules (record { known = known; pending = pending }) bytes ≡ []
  trace_none known pending [] e = refl
  trace_none known pending (byte ∷ bytes) e =
      let joined : (pending ++ byte ∷ []) ++ bytes ≡ pending ++ byte ∷ bytes = append_assoc pending (byte ∷ []) bytes in
      let whole : rules.shows known ((pending ++ byte ∷ []) ++ bytes) ≡ None = ap (rules.shows known) joined ∙ e in
      ap (λ v. shown_by (pending ++ byte ∷ []) v ++ trace rules (settle rules known (pending ++ byte ∷ []) v) bytes) (front_none known (pending ++ byte ∷ []) bytes whole)
      ∙ trace_none known (pending ++ byte ∷ []) bytes whole

  -- the things of any cut of the bytes are those that they show
  pub trace_of_cuts : (records : List R) (known after : S) (bytes rest : List ℕ) → Cuts rules known bytes records after rest → things (trace rules (fresh known) bytes) ≡ records
  trace_of_cuts [] known after bytes rest cuts = ap things (trace_none known [] bytes (ap (rules.shows known) cuts.1 ∙ ap (λ k. rules.shows k rest) cuts.0 ∙ cuts.2))
  trace_of_cuts (found ∷ records) known after bytes rest cuts =
      ap (λ b. things (trace rules (fresh known) b)) cuts.2 ∙ ap things (trace_front known cuts.0 cuts.1 found cuts.3)
      ∙ ap (λ t. found ∷ t) (trace_of_cuts records (rules.enter found known) after cuts.1 rest cuts.4)

  -- What is traced cuts the bytes, and it is what is taken of them.
  cut_from : (known : S) (pending bytes : List ℕ) → rules.shows known pending ≡ None →
      Cuts rules known (pending ++ bytes) (things (trace rules (record { known = known; pending = pending }) bytes)) (feed rules (record { known = known; pending = pending }) bytes).known (feed rules (record { known = known; pending = pending }) bytes).pending
  cut_from known pending [] before = (refl, append_none pending, before)
  cut_from known pending (byte ∷ bytes) before = go (rules.shows known now) refl (λ still. cut_from known now bytes still) (λ found. cut_from (rules.enter found known) [] bytes (steady.none (rules.enter found known)))
    where
      now : List ℕ
      now = pending ++ byte ∷ []

      go : (v : Option R) → rules.shows known now ≡ v →
          (rules.shows known now ≡ None → Cuts rules known (now ++ bytes) (things (trace rules (record { known = known; pending = now }) bytes)) (feed rules (record { known = known; pending = now }) bytes).known (feed rules (record { known = known; pending = now }) bytes).pending) →
          ((found : R) → Cuts rules (rules.enter found known) bytes (things (trace rules (fresh (rules.enter found known)) bytes)) (feed rules (fresh (rules.enter found known)) bytes).known (feed rules (fresh (rules.enter found known)) bytes).pending) →
          Cuts rules known (pending ++ byte ∷ bytes) (things (shown_by now v ++ trace rules (settle rules known now v) bytes)) (feed rules (settle rules known now v) bytes).known (feed rules (settle rules known now v) bytes).pending
      go None w rest after =
          subst (λ b. Cuts rules known b (things (trace rules (record { known = known; pending = now }) bytes)) (feed rules (record { known = known; pending = now }) bytes).known (feed rules (record { known = known; pending = now }) bytes).pending) (append_assoc pending (byte ∷ []) bytes) (rest w)
      go (Some found) w rest after =
          let front : Front rules known now found = record { shown = w; first = λ bytes' more' byte' same. let q = prefix_of bytes' pending byte' byte more' same in front_none known bytes' q.0 (ap (rules.shows known) (sym q.1) ∙ before) } in
          (now, bytes, sym (append_assoc pending (byte ∷ []) bytes), front, after found)

  pub trace_cuts : (known : S) (bytes : List ℕ) → Cuts rules known bytes (things (trace rules (fresh known) bytes)) (feed rules (fresh known) bytes).known (feed rules (fresh known) bytes).pending
  trace_cuts known bytes = cut_from known [] bytes (steady.none known)

  pub some_cut : (known : S) (bytes : List ℕ) → (records : List R) × Cuts rules known bytes records (feed rules (fresh known) bytes).known (feed rules (fresh known) bytes).pending
  some_cut known bytes = (things (trace rules (fresh known) bytes), trace_cuts known bytes)

-- No byte is lost and none is taken twice: what was held and came is what was shown, one after another, and what is held.
pub trace_spells : {S R : Type 0} (rules : Rules S R) (held : Held S) (bytes : List ℕ) → held.pending ++ bytes ≡ spelled (trace rules held bytes) ++ (feed rules held bytes).pending
trace_spells rules held [] = append_none held.pending
trace_spells {S} {R} rules held (byte ∷ bytes) = go (rules.shows held.known now) (λ v. trace_spells rules (settle rules held.known now v) bytes)
  where
    now : List ℕ
    now = held.pending ++ byte ∷ []

    joined : held.pending ++ byte ∷ bytes ≡ now ++ bytes
    joined = sym (append_assoc held.pending (byte ∷ []) bytes)

    go : (v : Option R) → ((v : Option R) → (settle rules held.known now v).pending ++ bytes ≡ spelled (trace rules (settle rules held.known now v) bytes) ++ (feed rules (settle rules held.known now v) bytes).pending) →
        held.pending ++ byte ∷ bytes ≡ spelled (shown_by now v ++ trace rules (settle rules held.known now v) bytes) ++ (feed rules (settle rules held.known now v) bytes).pending
    go None ih = joined ∙ ih None
    go (Some found) ih = joined ∙ ap (λ r. now ++ r) (ih (Some found)) ∙ sym (append_assoc now (spelled (trace rules (settle rules held.known now (Some found)) bytes)) (feed rules (settle rules held.known now (Some found)) bytes).pending)
