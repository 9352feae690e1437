-- What a piece of a slice is among the longest runs of what was read.
use Rattle.std.proofs.Common.{◌≡◌, ◌⊎◌, inl, inr, ℕ, ◌+◌, ◌-◌, ◌<◌, ◌≤◌, Bool, true, false, not, List, [], ◌∷◌, ◌++◌, cond, length, drop, get_or, take, length-append, append-nil, refl, ap, sym, subst, ◌∙◌, arith}
use Rattle.std.proofs.Math.ListN.{get_or-append, length-replicate}
use Rattle.std.proofs.Math.Seq.{get_or-append_right}
use Rattle.std.proofs.lemmas.Bool.{cases_lt, false≢true}
use Rattle.std.proofs.lemmas.List.{take-append-drop}
use Rattle.lnbd_extents.specs.Positions.{within}
use Rattle.lnbd_history.specs.Commands.{Command}
use Rattle.lnbd_asked.specs.Honest.{has}
use Rattle.lnbd_asked.specs.Link.{Nobody}
use Rattle.lnbd_plan.specs.declared.grid.Slice.{Slice}
use Rattle.lnbd_plan.specs.Laws.{ArePartedBy, AreWhole, IsWhole, LieBetween}
use Rattle.lnbd_board.specs.declared.how.How.{How}
use Rattle.lnbd_board.specs.declared.row.Stage.{Stage}
use Rattle.lnbd_board.specs.declared.row.Stage.TheVariants.{Reading, Last, Came, Writing, Holding, Finished}
use Rattle.lnbd_board.specs.Carried.{Puts}
use Rattle.lnbd_board.specs.Pieces.{AreRuns, Bytes, Piece, Zeros, ask_of, is_passed, is_zeros, spell, spell1, stretch, stretches, wrote}
use Rattle.lnbd_board.specs.Requests.{IsIn, Request, Said, done, over_said, own, waiting}
use Rattle.lnbd_board.specs.Requests as asked
use Rattle.lnbd_board.specs.Rows.{IsOver, Known, StandsAt}
use Rattle.lnbd_board.proofs.Runs.{stretches_more}
use Rattle.lnbd_board.proofs.Spelling.{covers_piece, has_piece, puts_piece, within_above, within_at, within_true}
use Rattle.lnbd_course.specs.Runs.{is_zeroing}

-- A run among the longest.

abbrev pub Among : {A : Type 0} → A → List A → Type 0
Among x [] = ⊥
Among x (y ∷ ys) = (y ≡ x) ⊎ Among x ys

among_front : {A : Type 0} (x : A) (xs ys : List A) → Among x xs → Among x (xs ++ ys)
among_front x [] ys there = absurd there
among_front x (y ∷ xs) ys (inl same) = inl same
among_front x (y ∷ xs) ys (inr there) = inr (among_front x xs ys there)

among_back : {A : Type 0} (x : A) (xs ys : List A) → Among x ys → Among x (xs ++ ys)
among_back x [] ys there = there
among_back x (y ∷ xs) ys there = inr (among_back x xs ys there)

among_either : {A : Type 0} (x : A) (xs ys : List A) → Among x (xs ++ ys) → Among x xs ⊎ Among x ys
among_either x [] ys there = inr there
among_either x (y ∷ xs) ys (inl same) = inl (inl same)
among_either x (y ∷ xs) ys (inr there) = elim (among_either x xs ys there) [ inl front ↦ inl (inr front) | inr back ↦ inr back ]

module _ (told cut : ℕ → Bool) where
  pub run_whole : (t : Slice) (runs : List Slice) → AreWhole told cut runs → Among t runs → IsWhole told cut t
  run_whole t [] whole there = absurd there
  run_whole t (s ∷ runs) whole (inl same) = subst (IsWhole told cut) same whole.0
  run_whole t (s ∷ runs) whole (inr there) = run_whole t runs whole.1 there

  pub run_some : (t : Slice) (from end : ℕ) (runs : List Slice) → LieBetween from end runs → Among t runs → (0 < t.length) × (from ≤ t.start)
  run_some t from end [] between there = absurd there
  run_some t from end (s ∷ runs) between (inl same) = (subst (λ (x : Slice). 0 < x.length) same between.1, (let start : t.start ≡ from = ap (λ (x : Slice). x.start) (sym same) ∙ between.0 in omega (arith, start)))
  run_some t from end (s ∷ runs) between (inr there) = let more = run_some t (from + s.length) end runs between.2 there in (more.0, (let low = more.1 in omega (arith, low)))

not_twice : (a b : Bool) → a ≡ not b → b ≡ not a
not_twice true true e = e
not_twice true false e = refl
not_twice false true e = refl
not_twice false false e = e

-- What no position cuts is told otherwise beside each run.
module _ (told : ℕ → Bool) where
  abbrev uncut : ℕ → Bool
  uncut p = false

  next_other : (s t : Slice) (runs : List Slice) → ArePartedBy uncut (s ∷ t ∷ runs) → t.zero ≡ not s.zero
  next_other s t runs parted = go parted.0
    where
      go : (uncut t.start ≡ true) ⊎ (t.zero ≡ not s.zero) → t.zero ≡ not s.zero
      go (inl cuts) = absurd (false≢true cuts)
      go (inr other) = other

  parted_rest : (s : Slice) (runs : List Slice) → ArePartedBy uncut (s ∷ runs) → ArePartedBy uncut runs
  parted_rest s [] parted = tt
  parted_rest s (t ∷ runs) parted = parted.1

  pub run_behind : (t : Slice) (from end : ℕ) (runs : List Slice) → LieBetween from end runs → AreWhole told uncut runs → ArePartedBy uncut runs → Among t runs → t.start + t.length < end → told (t.start + t.length) ≡ not t.zero
  run_behind t from end [] between whole parted there low = absurd there
  run_behind t from end (s ∷ runs) between whole parted (inr there) low = run_behind t (from + s.length) end runs between.2 whole.1 (parted_rest s runs parted) there low
  run_behind t from end (s ∷ []) between whole parted (inl same) low =
      let start : t.start ≡ from = ap (λ (x : Slice). x.start) (sym same) ∙ between.0 in
      let size : t.length ≡ s.length = ap (λ (x : Slice). x.length) (sym same) in
      let all = between.2 in
      absurd (omega (arith, start, size, all, low))
  run_behind t from end (s ∷ u ∷ runs) between whole parted (inl same) low =
      let start : t.start ≡ from = ap (λ (x : Slice). x.start) (sym same) ∙ between.0 in
      let size : t.length ≡ s.length = ap (λ (x : Slice). x.length) (sym same) in
      let next = between.2.0 in
      let some = between.2.1 in
      whole.1.0.alike (t.start + t.length) (omega (arith, start, size, next)) (omega (arith, start, size, next, some)) ∙ next_other s u runs parted ∙ ap (λ (x : Slice). not x.zero) same

  pub run_before : (t : Slice) (from end : ℕ) (runs : List Slice) → LieBetween from end runs → AreWhole told uncut runs → ArePartedBy uncut runs → Among t runs → (p : ℕ) → from ≤ p → p + 1 ≡ t.start → told p ≡ not t.zero
  run_before t from end [] between whole parted there p low is = absurd there
  run_before t from end (s ∷ runs) between whole parted (inl same) p low is =
      let start : t.start ≡ from = ap (λ (x : Slice). x.start) (sym same) ∙ between.0 in
      absurd (omega (arith, start, low, is))
  run_before t from end (s ∷ runs) between whole parted (inr there) p low is = elim (cases_lt p (from + s.length)) [
    | inr behind ↦ run_before t (from + s.length) end runs between.2 whole.1 (parted_rest s runs parted) there p behind is
    | inl within ↦ last runs between.2 parted there within
  ]
    where
      last : (runs : List Slice) → LieBetween (from + s.length) end runs → ArePartedBy uncut (s ∷ runs) → Among t runs → p < from + s.length → told p ≡ not t.zero
      last [] between' parted' there within = absurd there
      last (u ∷ runs) between' parted' (inl same) within =
          let start = between.0 in
          whole.0.alike p (omega (arith, start, low)) (omega (arith, start, within)) ∙ not_twice u.zero s.zero (next_other s u runs parted') ∙ ap (λ (x : Slice). not x.zero) same
      last (u ∷ runs) between' parted' (inr there) within =
          let some = between'.1 in
          let far = (run_some told uncut t (from + s.length + u.length) end runs between'.2 there).1 in
          absurd (omega (arith, some, far, is, within))

-- A piece of a slice.

pub asks_start : (how : How) (at : ℕ) (piece : Piece) → (ask_of how at piece).offset ≡ at
asks_start how at (Bytes bytes) = refl
asks_start how at (Zeros n) = refl

pub asks_size : (how : How) (at : ℕ) (piece : Piece) → (ask_of how at piece).length ≡ length (spell1 piece)
asks_size how at (Bytes bytes) = refl
asks_size how at (Zeros n) = sym (length-replicate {A = ℕ} n 0)

pub asks_zeros : (how : How) (at : ℕ) (piece : Piece) → is_zeroing (ask_of how at piece).kind ≡ is_zeros piece
asks_zeros how at (Bytes bytes) = refl
asks_zeros how at (Zeros n) = refl

-- What is covered by none of the requests was passed over, and so it is told as zero.
pub passed_told : (how : How) (told cut : ℕ → Bool) (p at end : ℕ) (pieces : List Piece) → LieBetween at end (stretches at pieces) → AreWhole told cut (stretches at pieces) → at ≤ p → p < end → over_said p (wrote how at pieces) ≡ [] → told p ≡ true
passed_told how told cut p at end [] between whole low high none = let e = between in absurd (omega (arith, e, low, high))
passed_told how told cut p at end (piece ∷ pieces) between whole low high none = elim (cases_lt p (at + length (spell1 piece))) [
  | inl here ↦ first piece (within_at at (length (spell1 piece)) p low here) whole.0 none here
  | inr behind ↦ passed_told how told cut p (at + length (spell1 piece)) end pieces between.2 whole.1 behind high (rest (is_passed how piece) none behind)
]
  where
    no_none : (x : Said) (xs : List Said) → x ∷ xs ≡ [] → ⊥
    no_none x xs e = cc

    first : (piece : Piece) → within (at, length (spell1 piece)) p ≡ true → IsWhole told cut (stretch at piece) →
        over_said p (cond (is_passed how piece) (wrote how (at + length (spell1 piece)) pieces) (done (ask_of how at piece) ∷ wrote how (at + length (spell1 piece)) pieces)) ≡ [] → p < at + length (spell1 piece) → told p ≡ true
    first (Zeros n) here w e less = w.alike p low less
    first (Bytes bytes) here w e less =
        let more = over_said p (wrote how (at + length bytes) pieces) in
        let ask = done (ask_of how at (Bytes bytes)) in
        absurd (no_none ask more (subst (λ (b : Bool). cond b (ask ∷ more) more ≡ []) (covers_piece how p at (Bytes bytes) ∙ here) e))

    rest : (b : Bool) → over_said p (cond b (wrote how (at + length (spell1 piece)) pieces) (done (ask_of how at piece) ∷ wrote how (at + length (spell1 piece)) pieces)) ≡ [] → at + length (spell1 piece) ≤ p → over_said p (wrote how (at + length (spell1 piece)) pieces) ≡ []
    rest true e far = e
    rest false e far =
        let more = over_said p (wrote how (at + length (spell1 piece)) pieces) in
        let ask = done (ask_of how at piece) in
        subst (λ (b : Bool). cond b (ask ∷ more) more ≡ []) (covers_piece how p at piece ∙ within_above at (length (spell1 piece)) p far) e

-- Of bytes from a place on, the command puts those that it has.
abbrev pub PutsFrom : (start : ℕ) → List ℕ → Command Nobody → Type 0
PutsFrom start all command = (p : ℕ) → has command p ≡ true → (start ≤ p) × (p < start + length all) × Puts command p (get_or all (p - start) 0)

puts_first : (how : How) (at : ℕ) (piece : Piece) (more : List ℕ) → PutsFrom at (spell1 piece ++ more) (ask_of how at piece)
puts_first how at piece more p here =
    let inside : within (at, length (spell1 piece)) p ≡ true = sym (has_piece how p at piece) ∙ here in
    let w = within_true at (length (spell1 piece)) p inside in
    let l = length-append (spell1 piece) more in
    (w.0, omega (arith, w.1, l), puts_piece how p at (get_or (spell1 piece ++ more) (p - at) 0) piece inside (sym (get_or-append (spell1 piece) more 0 (p - at) (omega (arith, w.0, w.1)))))

puts_behind : (at : ℕ) (front all : List ℕ) (command : Command Nobody) → PutsFrom (at + length front) all command → PutsFrom at (front ++ all) command
puts_behind at front all command puts p here =
    let m = puts p here in
    let low = m.0 in
    let high = m.1 in
    let l = length-append front all in
    let same : p - at - length front ≡ p - (at + length front) = omega (arith, low) in
    let byte : get_or (front ++ all) (p - at) 0 ≡ get_or all (p - (at + length front)) 0 = get_or-append_right front all (p - at) 0 (omega (arith, low)) ∙ ap (λ (k : ℕ). get_or all k 0) same in
    (omega (arith, low), omega (arith, high, l), subst (λ (b : ℕ). Puts command p b) (sym byte) m.2)

puts_before : (at : ℕ) (all back : List ℕ) (command : Command Nobody) → PutsFrom at all command → PutsFrom at (all ++ back) command
puts_before at all back command puts p here =
    let m = puts p here in
    let low = m.0 in
    let high = m.1 in
    let l = length-append all back in
    (low, omega (arith, high, l), subst (λ (b : ℕ). Puts command p b) (sym (get_or-append all back 0 (p - at) (omega (arith, low, high)))) m.2)

-- it is asked for, at its place, with its bytes
record IsAskedFor (how : How) (x : Said) (start : ℕ) (all : List ℕ) (runs : List Slice) : Type 0 where
  at : ℕ
  piece : Piece
  is : x.command ≡ ask_of how at piece
  there : Among (stretch at piece) runs
  puts : PutsFrom start all (ask_of how at piece)

asked_more : (how : How) (x : Said) (start : ℕ) (all back : List ℕ) (runs more : List Slice) → IsAskedFor how x start all runs → IsAskedFor how x start (all ++ back) (runs ++ more)
asked_more how x start all back runs more a = record {
  at = a.at;
  piece = a.piece;
  is = a.is;
  there = among_front (stretch a.at a.piece) runs more a.there;
  puts = puts_before start all back (ask_of how a.at a.piece) a.puts;
}

wrote_for : (how : How) (at : ℕ) (pieces : List Piece) (x : Said) → Among x (wrote how at pieces) → IsAskedFor how x at (spell pieces) (stretches at pieces)
wrote_for how at [] x there = absurd there
wrote_for how at (piece ∷ pieces) x there = go (wrote_for how (at + length (spell1 piece)) pieces x) (is_passed how piece) there
  where
    later : IsAskedFor how x (at + length (spell1 piece)) (spell pieces) (stretches (at + length (spell1 piece)) pieces) → IsAskedFor how x at (spell (piece ∷ pieces)) (stretches at (piece ∷ pieces))
    later a = record { at = a.at; piece = a.piece; is = a.is; there = inr a.there; puts = puts_behind at (spell1 piece) (spell pieces) (ask_of how a.at a.piece) a.puts }

    go : (Among x (wrote how (at + length (spell1 piece)) pieces) → IsAskedFor how x (at + length (spell1 piece)) (spell pieces) (stretches (at + length (spell1 piece)) pieces)) → (b : Bool) →
        Among x (cond b (wrote how (at + length (spell1 piece)) pieces) (done (ask_of how at piece) ∷ wrote how (at + length (spell1 piece)) pieces)) →
        IsAskedFor how x at (spell (piece ∷ pieces)) (stretches at (piece ∷ pieces))
    go more true m = later (more m)
    go more false (inl same) = record { at = at; piece = piece; is = ap (λ (y : Said). y.command) (sym same); there = inl refl; puts = puts_first how at piece (spell pieces) }
    go more false (inr m) = later (more m)

-- with the one that is asked for
now_for : (how : How) (at : ℕ) (did : List Piece) (now : Piece) (x : Said) → Among x (wrote how at did ++ waiting (ask_of how (at + length (spell did)) now) ∷ []) →
    IsAskedFor how x at (spell did ++ spell1 now) (stretches at (did ++ now ∷ []))
now_for how at did now x there =
    subst (IsAskedFor how x at (spell did ++ spell1 now)) (sym (stretches_more at (at + length (spell did)) did now refl))
    (elim (among_either x (wrote how at did) (waiting (ask_of how (at + length (spell did)) now) ∷ []) there) [
      | inl front ↦ asked_more how x at (spell did) (spell1 now) (stretches at did) (stretch (at + length (spell did)) now ∷ []) (wrote_for how at did x front)
      | inr back ↦ last back
    ])
  where
    last : Among x (waiting (ask_of how (at + length (spell did)) now) ∷ []) → IsAskedFor how x at (spell did ++ spell1 now) (stretches at did ++ stretch (at + length (spell did)) now ∷ [])
    last (inl same) = record {
      at = at + length (spell did);
      piece = now;
      is = ap (λ (y : Said). y.command) (sym same);
      there = among_back (stretch (at + length (spell did)) now) (stretches at did) (stretch (at + length (spell did)) now ∷ []) (inl refl);
      puts = puts_behind at (spell did) (spell1 now) (ask_of how (at + length (spell did)) now)
          (subst (λ (l : List ℕ). PutsFrom (at + length (spell did)) l (ask_of how (at + length (spell did)) now)) (append-nil (spell1 now)) (puts_first how (at + length (spell did)) now []));
    }
    last (inr none) = absurd none

with_left : (how : How) (x : Said) (start : ℕ) (all : List ℕ) (runs left : List Slice) → IsAskedFor how x start all runs → IsAskedFor how x start all (runs ++ left)
with_left how x start all runs left a = record { at = a.at; piece = a.piece; is = a.is; there = among_front (stretch a.at a.piece) runs left a.there; puts = a.puts }

-- The first of some bytes are so many of them.
taken_for : (how : How) (x : Said) (start n : ℕ) (some bytes : List ℕ) (runs : List Slice) → some ≡ take n bytes → IsAskedFor how x start some runs → IsAskedFor how x start bytes runs
taken_for how x start n some bytes runs is a =
    let whole : some ++ drop n bytes ≡ bytes = ap (λ (l : List ℕ). l ++ drop n bytes) is ∙ take-append-drop n bytes in
    record {
      at = a.at;
      piece = a.piece;
      is = a.is;
      there = a.there;
      puts = subst (λ (l : List ℕ). PutsFrom start l (ask_of how a.at a.piece)) whole (puts_before start some (drop n bytes) (ask_of how a.at a.piece) a.puts);
    }

-- What was said for a slice is a piece of it, one of the longest runs unless the slice was told as zero.
pub record IsPieceOf (how : How) (s : Slice) (read : List Said) (x : Said) : Type 0 where
  pub bytes : List ℕ
  pub known : Known s bytes read
  pub runs : List Slice
  pub cut : s.zero ≡ false → AreRuns how s bytes runs
  pub at : ℕ
  pub piece : Piece
  pub is : x.command ≡ ask_of how at piece
  pub there : Among (stretch at piece) runs
  pub puts : PutsFrom s.start bytes (ask_of how at piece)

piece_so : (how : How) (s : Slice) (bytes : List ℕ) (read : List Said) (x : Said) (runs : List Slice) → Known s bytes read → (s.zero ≡ false → AreRuns how s bytes runs) →
    IsAskedFor how x s.start bytes runs → IsPieceOf how s read x
piece_so how s bytes read x runs known cut a = record { bytes = bytes; known = known; runs = runs; cut = cut; at = a.at; piece = a.piece; is = a.is; there = a.there; puts = a.puts }

none_said : (x : Said) (xs : List Said) → xs ≡ [] → Among x xs → ⊥
none_said x [] e there = there
none_said x (y ∷ xs) e there = cc e

pub over_piece : (how : How) (s : Slice) (read changed : List Said) (x : Said) → IsOver how s read changed → Among x changed → IsPieceOf how s read x
over_piece how s read changed x h there =
    piece_so how s h.bytes read x (stretches s.start h.did) h.known h.cut
    (subst (λ (l : List ℕ). IsAskedFor how x s.start l (stretches s.start h.did)) h.spelt (wrote_for how s.start h.did x (subst (Among x) h.asked there)))

pub at_piece : (how : How) (s : Slice) (stage : Stage) (read changed : List Said) (x : Said) → StandsAt how s stage read changed → Among x changed → IsPieceOf how s read x
at_piece how s Reading read changed x h there = absurd (none_said x changed h.unchanged there)
at_piece how s Last read changed x h there =
    piece_so how s h.bytes read x (stretches s.start (h.did ++ h.now ∷ [])) h.known h.cut
    (subst (λ (l : List ℕ). IsAskedFor how x s.start l (stretches s.start (h.did ++ h.now ∷ []))) h.spelt (now_for how s.start h.did h.now x (subst (Among x) h.asked there)))
at_piece how s (Came bytes) read changed x h there = absurd (none_said x changed h.unchanged there)
at_piece how s (Writing bytes left) read changed x h there =
    let now = now_for how s.start h.did h.now x (subst (Among x) h.asked there) in
    piece_so how s bytes read x (stretches s.start (h.did ++ h.now ∷ []) ++ left) h.known (λ untold. h.cut)
    (with_left how x s.start bytes (stretches s.start (h.did ++ h.now ∷ [])) left
    (taken_for how x s.start h.to (spell h.did ++ spell1 h.now) bytes (stretches s.start (h.did ++ h.now ∷ [])) h.next now))
at_piece how s (Holding bytes left) read changed x h there =
    let did = wrote_for how s.start h.did x (subst (Among x) h.asked there) in
    piece_so how s bytes read x (stretches s.start h.did ++ left) h.known (λ untold. h.cut)
    (with_left how x s.start bytes (stretches s.start h.did) left (taken_for how x s.start h.at (spell h.did) bytes (stretches s.start h.did) h.spelt did))
at_piece how s (Finished bytes) read changed x h there = over_piece how s read changed x h there

-- A request for a slice is among what was said for it.
pub among_own : (n : ℕ) (r : Request) (xs : List Request) → IsIn r xs → asked.is_of n r.ticket ≡ true → Among r.said (own n xs)
among_own n r [] there mine = absurd there
among_own n r (x ∷ xs) (inl same) mine =
    subst (λ (b : Bool). Among r.said (cond b (x.said ∷ own n xs) (own n xs))) (sym (ap (λ (y : Request). asked.is_of n y.ticket) same ∙ mine)) (inl (ap (λ (y : Request). y.said) same))
among_own n r (x ∷ xs) (inr there) mine =
    let more = among_own n r xs there mine in
    elim (asked.is_of n x.ticket) as (λ b. Among r.said (cond b (x.said ∷ own n xs) (own n xs))) [ true ↦ inr more | false ↦ more ]
