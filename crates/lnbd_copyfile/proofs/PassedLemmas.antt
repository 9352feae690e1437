-- Which positions a copy to a file passes over.
use Rattle.std.proofs.Common.{◌≡◌, ◌<◌, ◌≤◌, ◌+◌, ◌-◌, ◌&&◌, ◌||◌, ℕ, zero, suc, Bool, true, false, not, cond, List, [], ◌∷◌, get_or, length, Some, inl, inr, refl, ap, sym, subst, ◌∙◌, arith, length-append}
use Rattle.std.proofs.lemmas.Bool.{false≢true}
use Rattle.lnbd_model.specs.Kind.{is_read}
use Rattle.lnbd_model.specs.declared.kind.Kind.TheVariants.{Write, Zero}
use Rattle.lnbd_outcome.specs.Outcome as outcome
use Rattle.lnbd_extents.specs.Positions.{within}
use Rattle.lnbd_history.specs.Commands.{Command}
use Rattle.lnbd_asked.specs.Link.{Nobody}
use Rattle.lnbd_asked.specs.Transcript.{Dealt}
use Rattle.lnbd_asked.specs.Honest.{has, covers}
use Rattle.lnbd_plan.specs.declared.grid.Slice.{Slice}
use Rattle.lnbd_plan.specs.declared.cells.Cells.{Cells}
use Rattle.lnbd_plan.specs.Laws.{AreWhole, IsInOne, slices_at}
use Rattle.lnbd_board.specs.declared.how.How.{How}
use Rattle.lnbd_board.specs.Requests.{Said, Request, IsIn, own, over, over_said, reads, reads_over, reads_over_said, done, IsDealt}
use Rattle.lnbd_board.specs.Pieces.{Piece, Bytes, Zeros, spell, spell1, ask_of, is_passed, is_told, kind_of, stretches, wrote, zeroing_kind}
use Rattle.lnbd_board.specs.Rows.{slice_at, lies_in, IsOnePiece, IsOver, IsRead, KnownBy, Stands}
use Rattle.lnbd_board.specs.Holds.{IsCopied, WasToldZero}
use Rattle.lnbd_board.specs.Carried.{IsToldUnread, IsUnread}
use Rattle.lnbd_board.proofs.Lists.{none_reads, own_first}
use Rattle.lnbd_board.proofs.Spelling.{Covered, Found, Once, Never, covered, covers_piece, found, within_at, within_true, within_above, within_false, wrote_before}
use Rattle.lnbd_board.proofs.Inside.{over_slice, over_nowhere, reads_nowhere, reads_slice}
use Rattle.lnbd_course.specs.Counts.{is_covered, uncovered}
use Rattle.lnbd_course.specs.Runs.{counts_zero}
use Rattle.lnbd_copyfile.specs.Passed.{AreZero, IsReadZero, IsZeroThere, PassesOver}
use Rattle.lnbd_copyfile.specs.Zeros.{count_of}

-- Pieces.

-- A position of pieces that are as they are told: a zero piece is passed over there, where zeros are; or one request changes it.
data Lies (how : How) (told : ℕ → Bool) (p : ℕ) (said : List Said) : Type 0 where
  Passed : how.skip ≡ true → told p ≡ true → over_said p said ≡ [] → Lies how told p said
  Put : (x : Said) → over_said p said ≡ x ∷ [] → (how.skip ≡ true → told p ≡ false) → Lies how told p said

module _ (how : How) (told cut : ℕ → Bool) (p : ℕ) where
  lies_here : (at : ℕ) (piece : Piece) (pieces : List Piece) → AreWhole told cut (stretches at (piece ∷ pieces)) → within (at, length (spell1 piece)) p ≡ true →
      Lies how told p (wrote how at (piece ∷ pieces))
  lies_here at (Bytes bytes) pieces whole h =
      let w = within_true at (length bytes) p h in
      let rest = wrote_before how p (at + length bytes) pieces (omega (arith, w.1)) in
      let c = covers_piece how p at (Bytes bytes) ∙ h in
      Put (done (ask_of how at (Bytes bytes))) (rw (c, rest) refl) (λ skips. whole.0.alike p w.0 w.1)
  lies_here at (Zeros n) pieces whole h =
      let w = within_true at (length (spell1 (Zeros n))) p h in
      let rest = wrote_before how p (at + length (spell1 (Zeros n))) pieces (omega (arith, w.1)) in
      let c = covers_piece how p at (Zeros n) ∙ h in
      elim how.skip as (λ b. how.skip ≡ b →
      Lies how told p (cond b (wrote how (at + length (spell1 (Zeros n))) pieces) (done (ask_of how at (Zeros n)) ∷ wrote how (at + length (spell1 (Zeros n))) pieces))) [
        | true ↦ λ e. Passed e (whole.0.alike p w.0 w.1) rest
        | false ↦ λ e. Put (done (ask_of how at (Zeros n))) (rw (c, rest) refl) (λ skips. absurd (false≢true (sym e ∙ skips)))
      ] refl

  lies_there : (at : ℕ) (piece : Piece) (pieces : List Piece) → at + length (spell1 piece) ≤ p → Lies how told p (wrote how (at + length (spell1 piece)) pieces) →
      Lies how told p (wrote how at (piece ∷ pieces))
  lies_there at piece pieces h k =
      let c = covers_piece how p at piece ∙ within_above at (length (spell1 piece)) p h in
      elim (is_passed how piece) as (λ b. Lies how told p (cond b (wrote how (at + length (spell1 piece)) pieces) (done (ask_of how at piece) ∷ wrote how (at + length (spell1 piece)) pieces))) [
        | true ↦ k
        | false ↦ elim k [ Passed s t e ↦ Passed s t (rw c e) | Put x e t ↦ Put x (rw c e) t ]
      ]

  lies : (at : ℕ) (pieces : List Piece) → AreWhole told cut (stretches at pieces) → at ≤ p → p < at + length (spell pieces) → Lies how told p (wrote how at pieces)
  lies at [] whole h k = absurd (omega arith)
  lies at (piece ∷ pieces) whole h k =
      let l = length-append (spell1 piece) (spell pieces) in
      elim (within (at, length (spell1 piece)) p) as (λ b. within (at, length (spell1 piece)) p ≡ b → Lies how told p (wrote how at (piece ∷ pieces))) [
        | true ↦ λ e. lies_here at piece pieces whole e
        | false ↦ λ e. let a = within_false at (length (spell1 piece)) p e h in
            lies_there at piece pieces a (lies (at + length (spell1 piece)) pieces whole.1 a (omega arith))
      ] refl

-- Lists.

not_covered : (p : ℕ) (xs : List Request) → over p xs ≡ [] → is_covered xs p ≡ false
not_covered p [] e = refl
not_covered p (r ∷ rs) e =
    elim (covers r.said.command p) as (λ b. cond b (r.said ∷ over p rs) (over p rs) ≡ [] → b || is_covered rs p ≡ false) [ true ↦ λ k. absurd (cc) | false ↦ λ k. not_covered p rs k ] e

was_covered : (p : ℕ) (x : Said) (more : List Said) (xs : List Request) → over p xs ≡ x ∷ more → is_covered xs p ≡ true
was_covered p x more [] e = absurd (cc)
was_covered p x more (r ∷ rs) e =
    elim (covers r.said.command p) as (λ b. cond b (r.said ∷ over p rs) (over p rs) ≡ x ∷ more → b || is_covered rs p ≡ true)
    [ true ↦ λ k. refl | false ↦ λ k. was_covered p x more rs k ] e

none_then : (p : ℕ) (r : Request) (xs : List Request) → IsIn r xs → reads r.said.command p ≡ true → reads_over p xs ≡ [] → ⊥
none_then p r xs there h e = false≢true (sym (none_reads p r xs e there) ∙ h)

-- the one that reads a position
the_read : (p : ℕ) (x : Said) (r : Request) (xs : List Request) → IsIn r xs → reads r.said.command p ≡ true → reads_over p xs ≡ x ∷ [] → r.said ≡ x
the_read p x r [] there h e = absurd there
the_read p x r (y ∷ ys) (inl same) h e =
    let here : reads y.said.command p ≡ true = subst (λ (z : Request). reads z.said.command p ≡ true) (sym same) h in
    let k : y.said ∷ reads_over p ys ≡ x ∷ [] = ap (λ (b : Bool). cond b (y.said ∷ reads_over p ys) (reads_over p ys)) (sym here) ∙ e in
    ap (λ (z : Request). z.said) (sym same) ∙ first k
  where
    first : y.said ∷ reads_over p ys ≡ x ∷ [] → y.said ≡ x
    first k = cc
the_read p x r (y ∷ ys) (inr there) h e =
    elim (reads y.said.command p) as (λ b. cond b (y.said ∷ reads_over p ys) (reads_over p ys) ≡ x ∷ [] → r.said ≡ x) [
      | true ↦ λ k. let rest : reads_over p ys ≡ [] = cc in absurd (none_then p r ys there h rest)
      | false ↦ λ k. the_read p x r ys there h k
    ] e

-- Positions.

-- A position is covered by a change, and where zeros are passed over it is no such zero; or they are, and it is one that no change covers.
pub data Decided (how : How) (source : Dealt) (changed : List Request) (p : ℕ) : Type 0 where
  Covers : is_covered changed p ≡ true → (how.skip ≡ true → IsZeroThere how source p → ⊥) → Decided how source changed p
  Leaves : how.skip ≡ true → is_covered changed p ≡ false → IsZeroThere how source p → Decided how source changed p

both_true : (a b : Bool) → a ≡ true → b ≡ true → a && b ≡ true
both_true a b e f = rw (e, f) refl

same_bytes : (xs ys : List ℕ) → outcome.Done xs ≡ outcome.Done ys → xs ≡ ys
same_bytes xs ys e = cc

-- one READ that is done reads the position
module _ (how : How) (p : ℕ) (s : Slice) (bytes : List ℕ) (asked : List Request) (source : Dealt) (d : IsDealt asked source) (own_ : List Said)
    (is : IsRead s (outcome.Done bytes) own_) (one : reads_over p asked ≡ record { command = is.command; outcome = outcome.Done bytes } ∷ []) where
  abbrev its_said : Said
  its_said = record { command = is.command; outcome = outcome.Done bytes }

  -- whatever is read there is read so
  only_read : (z : IsReadZero how source p) → (z.command ≡ is.command) × (z.bytes ≡ bytes)
  only_read z =
      let u = d.only z.link z.cookie z.command z.asked in
      let r = u.request in
      let same = the_read p its_said r asked u.within (subst (λ (c : Command Nobody). reads c p ≡ true) (sym u.asks) z.reads_) one in
      let shown = (d.shown r u.within).1 in
      let came : source.outcome z.link z.cookie ≡ r.said.outcome = ap (λ (n : ℕ). source.outcome n z.cookie) (sym u.on) ∙ ap (λ (n : ℕ). source.outcome r.link n) (sym u.by) ∙ shown in
      (sym u.asks ∙ ap (λ (x : Said). x.command) same, same_bytes z.bytes bytes (sym z.done ∙ came ∙ ap (λ (x : Said). x.outcome) same))

  -- it is told by the pieces whether the position is such a zero
  zero_is : IsReadZero how source p → is_told how s bytes p ≡ true
  zero_is z =
      let o = only_read z in
      let at : z.command.offset ≡ s.start = ap (λ (c : Command Nobody). c.offset) o.0 ∙ is.start in
      sym (ap (λ (n : ℕ). counts_zero how n bytes p) at) ∙ sym (ap (λ (l : List ℕ). counts_zero how z.command.offset l p) o.1) ∙ z.zero

  here : lies_in s p ≡ true → reads is.command p ≡ true
  here w =
      let b = within_true s.start s.length p w in
      let start = is.start in
      let size = is.size in
      both_true (is_read is.command.kind) (has is.command p) (ap is_read is.kind) (within_at is.command.offset is.command.length p (omega (arith, start, b.0)) (omega (arith, start, size, b.1)))

  -- the READ that was dealt
  zero_read : lies_in s p ≡ true → is_told how s bytes p ≡ true → (r : Request) → IsIn r asked → r.said ≡ its_said → IsReadZero how source p
  zero_read w is_zero r there same =
      let shown = d.shown r there in
      record {
        link = r.link;
        cookie = r.cookie;
        command = is.command;
        bytes = bytes;
        asked = shown.0 ∙ ap (λ (x : Said). Some x.command) same;
        reads_ = here w;
        done = shown.1 ∙ ap (λ (x : Said). x.outcome) same;
        zero = ap (λ (n : ℕ). counts_zero how n bytes p) is.start ∙ is_zero;
      }

  not_unread : lies_in s p ≡ true → (r : Request) → IsIn r asked → r.said ≡ its_said → IsToldUnread source p → ⊥
  not_unread w r there same told =
      let none = told.unread r.link r.cookie is.command ((d.shown r there).0 ∙ ap (λ (x : Said). Some x.command) same) in
      false≢true (sym none ∙ here w)

-- A slice of bytes that is over.
read_decided : (how : How) (p : ℕ) (s : Slice) (bytes : List ℕ) (asked changed : List Request) (mine : List Said) (source : Dealt) (d : IsDealt asked source)
    (own_ : List Said) (is : IsRead s (outcome.Done bytes) own_) → reads_over p asked ≡ record { command = is.command; outcome = outcome.Done bytes } ∷ [] → lies_in s p ≡ true → (r : Request) → IsIn r asked → r.said ≡ record { command = is.command; outcome = outcome.Done bytes } →
    over p changed ≡ over_said p mine → Lies how (is_told how s bytes) p mine → Decided how source changed p
read_decided how p s bytes asked changed mine source d own_ is one w r there same e (Passed skips is_zero none) =
    Leaves skips (not_covered p changed (e ∙ none)) (inr (zero_read how p s bytes asked source d own_ is one w is_zero r there same))
read_decided how p s bytes asked changed mine source d own_ is one w r there same e (Put x its not_zero) =
    Covers (was_covered p x [] changed (e ∙ its)) (λ skips z. go skips z)
  where
    go : how.skip ≡ true → IsZeroThere how source p → ⊥
    go skips (inl told) = not_unread how p s bytes asked source d own_ is one w r there same told
    go skips (inr z) = false≢true (sym (not_zero skips) ∙ zero_is how p s bytes asked source d own_ is one z)

-- A slice that was told as zero is one piece; it is not passed over, and where zeros are, there is none.
zeroed_covers : (how : How) (p at : ℕ) (did : List Piece) (mine : List Said) → how.zeroes ≡ true → IsOnePiece how did → (how.skip ≡ true → ⊥)
zeroed_covers how p at did mine zeroes one skips = go one.piece one.kept one.kind
  where
    zero_kind : zeroing_kind how ≡ Zero
    zero_kind = rw zeroes refl

    go : (piece : Piece) → is_passed how piece ≡ false → kind_of piece ≡ zeroing_kind how → ⊥
    go (Bytes bytes) kept kind = let k : Write ≡ Zero = kind ∙ zero_kind in absurd (cc)
    go (Zeros n) kept kind = false≢true (sym kept ∙ skips)

kept_covers : (how : How) (p b : ℕ) (mine : List Said) (source : Dealt) (changed : List Request) → (how.skip ≡ true → ⊥) → over p changed ≡ over_said p mine → Covered how p b mine →
    Decided how source changed p
kept_covers how p b mine source changed keeps e (Once at piece one w is) = Covers (was_covered p (done (ask_of how at piece)) [] changed (e ∙ one)) (λ skips. absurd (keeps skips))
kept_covers how p b mine source changed keeps e (Never skips none is) = absurd (keeps skips)

module _ (how : How) (p : ℕ) (told : Bool) (slices : List Slice) (asked changed : List Request) (source : Dealt) (zeroes : how.zeroes ≡ true)
    (stands : Stands how slices [] asked changed) (d : IsDealt asked source) (one : IsInOne told p slices) where
  f : Found p one.slice slices
  f = found p one.slice slices [] one.one

  abbrev s : Slice
  s = slice_at slices f.number

  few : length (slices_at p slices) ≤ 1
  few = let e = ap (λ (l : List Slice). length l) one.one in omega (arith, e)

  over_ : IsOver how s (own f.number asked) (own f.number changed)
  over_ = stands.each f.number f.held

  w : (s.start ≤ p) × (p < s.start + s.length)
  w = within_true s.start s.length p f.has

  len : length (spell over_.did) ≡ s.length
  len = ap length over_.spelt ∙ over_.known.size

  e : over p changed ≡ over_said p (own f.number changed)
  e = over_slice how p f.number slices changed few f.held f.has stands.changes

  read_once : (known : IsRead s (outcome.Done over_.bytes) (own f.number asked)) → reads_over p asked ≡ record { command = known.command; outcome = outcome.Done over_.bytes } ∷ []
  read_once known =
      let start = known.start in
      let size = known.size in
      let here : has known.command p ≡ true = within_at known.command.offset known.command.length p (omega (arith, start, w.0)) (omega (arith, start, size, w.1)) in
      let there : reads known.command p ≡ true = both_true (is_read known.command.kind) (has known.command p) (ap is_read known.kind) here in
      reads_slice p f.number slices asked few f.held f.has stands.reads ∙ ap (reads_over_said p) known.one
      ∙ ap (λ (b : Bool). cond b (record { command = known.command; outcome = outcome.Done over_.bytes } ∷ []) []) there

  slice_decided : (z : Bool) → s.zero ≡ z → Decided how source changed p
  slice_decided true is_zero = kept_covers how p (get_or (spell over_.did) (p - s.start) 0) (own f.number changed) source changed (zeroed_covers how p s.start over_.did (own f.number changed) zeroes (over_.one is_zero)) e
      (rw over_.asked (covered how p s.start over_.did w.0 (omega (arith, len, w.1))))
  slice_decided false data_ =
      let known : IsRead s (outcome.Done over_.bytes) (own f.number asked) = subst (λ (b : Bool). KnownBy b s over_.bytes (own f.number asked)) data_ over_.known.by in
      let q = own_first f.number _ asked known.one in
      read_decided how p s over_.bytes asked changed (own f.number changed) source d (own f.number asked) known (read_once known) f.has q.0 q.1.0 q.1.1 e
      (rw over_.asked (lies how (is_told how s over_.bytes) (λ q. false) p s.start over_.did (over_.cut data_).whole w.0 (omega (arith, len, w.1))))

  in_slice : Decided how source changed p
  in_slice = slice_decided s.zero refl

-- a position that was told as zero and left out
left_out : (how : How) (p : ℕ) (slices : List Slice) (asked changed : List Request) (source : Dealt) → Stands how slices [] asked changed → IsDealt asked source → WasToldZero source p →
    how.skip ≡ true → slices_at p slices ≡ [] → Decided how source changed p
left_out how p slices asked changed source stands d told skips none =
    Leaves skips (not_covered p changed (over_nowhere how p slices changed none stands.changes)) (inl (record { told = told; unread = unread }))
  where
    unread : IsUnread source p
    unread link cookie command e =
        let u = d.only link cookie command e in
        subst (λ (c : Command Nobody). reads c p ≡ false) u.asks (none_reads p u.request asked (reads_nowhere p slices asked none stands.reads) u.within)

or_not : (a b : Bool) → a || not b ≡ false → (a ≡ false) × (b ≡ true)
or_not true b h = absurd (cc)
or_not false true h = (refl, refl)
or_not false false h = absurd (cc)

decided : (how : How) (cells : Cells) (told : ℕ → Bool) (size : ℕ) (slices : List Slice) (asked changed : List Request) (source : Dealt) (p : ℕ) → how.zeroes ≡ true →
    IsCopied how cells told size slices asked changed → IsDealt asked source → ((p : ℕ) → p < size → told p ≡ true → WasToldZero source p) → p < size → Decided how source changed p
decided how cells told size slices asked changed source p zeroes copied d was l =
    elim (cells.zeros || not (told p)) as (λ b. cells.zeros || not (told p) ≡ b → Decided how source changed p) [
      | true ↦ λ e. in_slice how p (told p) slices asked changed source zeroes copied.over d ((copied.planned p).one (omega arith) l e)
      | false ↦ λ e. let k = or_not cells.zeros (told p) e in
          left_out how p slices asked changed source copied.over d (was p l k.1) (copied.left_out k.0) ((copied.planned p).none (omega arith) l e)
    ] refl

-- The counts.

count_more : (is : ℕ → Bool) (p n : ℕ) → count_of is p (suc n) ≡ count_of is p n + cond (is (p + n)) 1 0
count_more is p zero = let k : p + 0 ≡ p = omega arith in let f : ◌≡◌ {A = ℕ} (cond (is (p + 0)) 1 0) (cond (is p) 1 0) = ap (λ (q : ℕ). cond (is q) 1 0) k in omega (arith, f)
count_more is p (suc n) =
    let e = count_more is (p + 1) n in
    let k : p + 1 + n ≡ p + suc n = omega arith in
    let f : ◌≡◌ {A = ℕ} (cond (is (p + 1 + n)) 1 0) (cond (is (p + suc n)) 1 0) = ap (λ (q : ℕ). cond (is q) 1 0) k in
    omega (arith, e, f)

e_of : (u c x more y z : ℕ) → u ≡ c → more ≡ c + z → x ≡ y → z ≡ y → x + u ≡ more
e_of u c x more y z e m k f = omega (arith, e, m, k, f)

uncovered_count : (xs : List Request) (n : ℕ) → uncovered xs n ≡ count_of (λ p. not (is_covered xs p)) 0 n
uncovered_count xs zero = refl
uncovered_count xs (suc n) =
    let e = uncovered_count xs n in
    let m = count_more (λ p. not (is_covered xs p)) 0 n in
    let z : ◌≡◌ {A = ℕ} (cond (not (is_covered xs (0 + n))) 1 0) (cond (not (is_covered xs n)) 1 0) = (let q : 0 + n ≡ n = omega arith in ap (λ (i : ℕ). cond (not (is_covered xs i)) 1 0) q) in
    let k : ◌≡◌ {A = ℕ} (cond (is_covered xs n) 0 1) (cond (not (is_covered xs n)) 1 0) = turned (is_covered xs n) in
    e_of (uncovered xs n) (count_of (λ p. not (is_covered xs p)) 0 n) _ _ _ _ e m k z
  where
    turned : (b : Bool) → ◌≡◌ {A = ℕ} (cond b 0 1) (cond (not b) 1 0)
    turned true = refl
    turned false = refl

none_uncovered : (xs : List Request) (n : ℕ) → ((p : ℕ) → p < n → is_covered xs p ≡ true) → uncovered xs n ≡ 0
none_uncovered xs zero all = refl
none_uncovered xs (suc n) all =
    let e = none_uncovered xs n (λ p l. all p (omega (arith, l))) in
    let k : ◌≡◌ {A = ℕ} (cond (is_covered xs n) 0 1) 0 = ap (λ (b : Bool). cond b 0 1) (all n (omega arith)) in
    omega (arith, e, k)

-- All of the copy.
module _ (how : How) (size : ℕ) (changed : List Request) (source : Dealt) (each : (p : ℕ) → p < size → Decided how source changed p) where
  are_zero : how.skip ≡ true → AreZero how source size (uncovered changed size)
  are_zero skips = record { passed = λ p. not (is_covered changed p); are = are; all = all; count = uncovered_count changed size }
    where
      turned : (b : Bool) → not b ≡ true → b ≡ false
      turned true e = absurd (false≢true e)
      turned false e = refl

      are : (p : ℕ) → p < size → not (is_covered changed p) ≡ true → IsZeroThere how source p
      are p l e = go (each p l)
        where
          go : Decided how source changed p → IsZeroThere how source p
          go (Covers c not_zero) = absurd (false≢true (sym (turned (is_covered changed p) e) ∙ c))
          go (Leaves skips' c z) = z

      all : (p : ℕ) → p < size → IsZeroThere how source p → not (is_covered changed p) ≡ true
      all p l z = go (each p l)
        where
          go : Decided how source changed p → not (is_covered changed p) ≡ true
          go (Covers c not_zero) = absurd (not_zero skips z)
          go (Leaves skips' c z') = ap not c

  none_passed : how.skip ≡ false → uncovered changed size ≡ 0
  none_passed keeps = none_uncovered changed size (λ p l. go p (each p l))
    where
      go : (p : ℕ) → Decided how source changed p → is_covered changed p ≡ true
      go p (Covers c not_zero) = c
      go p (Leaves skips c z) = absurd (false≢true (sym keeps ∙ skips))

  pub passes_over : PassesOver how source size (uncovered changed size)
  passes_over = record { zeros = are_zero; none = none_passed }

pub passed_over : (how : How) (cells : Cells) (told : ℕ → Bool) (size : ℕ) (slices : List Slice) (asked changed : List Request) (source : Dealt) → how.zeroes ≡ true →
    IsCopied how cells told size slices asked changed → IsDealt asked source → ((p : ℕ) → p < size → told p ≡ true → WasToldZero source p) → PassesOver how source size (uncovered changed size)
passed_over how cells told size slices asked changed source zeroes copied d was =
    passes_over how size changed source (λ p l. decided how cells told size slices asked changed source p zeroes copied d was l)
