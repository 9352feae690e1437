-- What a row asks for next keeps the invariant.
use Rattle.std.proofs.Common.{◌≡◌, ℕ, zero, suc, ◌+◌, ◌-◌, ◌*◌, ◌/◌, ◌<◌, ◌≤◌, List, [], ◌∷◌, ◌++◌, Bool, true, false, not, ◌&&◌, ◌==◌, inl, inr, refl, ap, sym, subst, ◌∙◌, arith, length, get_or, take, drop, Option, Some, None, length-take, length-drop, append-nil, replicate, Result, Ok, Err, OnErr}
use Rattle.std.proofs.lemmas.Grind.{common_steps, same_number_lists}
use Rattle.std.proofs.lemmas.Bool.{false≢true}
use Rattle.std.proofs.lemmas.List.{get_or-take, get_or-drop}
use Rattle.std.proofs.Math.ListN.{length-replicate, get_or-replicate}
use Rattle.std.proofs.Math.Seq.{take-add}
use Rattle.std.proofs.Math.Nat.{div-mul-le_self, lt-div-mul-add}
use Rattle.lnbd_keyed.specs.Keyed.{value_at, with_value}
use Rattle.lnbd_keyed.proofs.KeyedLemmas.{value_at_with, with_value_twice}
use Rattle.lnbd_model.specs.declared.kind.Kind.TheVariants.{Write, Zero}
use Rattle.lnbd_extents.specs.Positions.{within}
use Rattle.lnbd_history.specs.Commands.{Command}
use Rattle.lnbd_asked.specs.Link.{Nobody}
use Rattle.lnbd_asked.specs.Honest.{has}
use Rattle.lnbd_plan.specs.declared.grid.Slice.{Slice}
use Rattle.lnbd_plan.specs.Blocks.{in_zero_block}
use Rattle.lnbd_plan.specs.Laws.{LieBetween}
use Rattle.lnbd_plan.proofs.BlockLaws.{zeros_mean, zeros_from}
use Rattle.lnbd_plan.proofs.OnceLaws.{ends_up}
use Rattle.lnbd_board.specs.declared.ask.Change.{Change}
use Rattle.lnbd_board.specs.declared.ask.Change.TheVariants as change
use Rattle.lnbd_board.specs.declared.how.How.{How}
use Rattle.lnbd_board.specs.declared.row.Row.{Row}
use Rattle.lnbd_board.specs.declared.row.Stage.{Stage}
use Rattle.lnbd_board.specs.declared.row.Stage.TheVariants.{Reading, Last, Came, Writing, Holding, Finished}
use Rattle.lnbd_board.specs.Files.{rows_with}
use Rattle.lnbd_board.specs.Requests.{Said, own, waiting}
use Rattle.lnbd_board.specs.Pieces.{Piece, Bytes, Zeros, spell, spell1, ask_of, is_passed, is_zeros, wrote, zero_flags, detects, is_told, stretches, AreLeft, AreRuns, IsDense}
use Rattle.lnbd_board.specs.Rows.{is_busy, IsHeld, IsWritten, IsEnding, StandsAt, slice_at, IsInside, IsChange, IsZeroed}
use Rattle.lnbd_board.specs.Asks.{change_of, Advances, Sits, Cuts, Passes, cutting, bytes_of}
use Rattle.lnbd_board.proofs.Runs.{none_between, parted_rest, runs_left, taken}
use Rattle.lnbd_board.proofs.Spelling.{within_at, within_true, has_piece, spell_more, wrote_passed}
use Rattle.lnbd_board.proofs.Steps.{row_stands, regarded, asked}

module _ {V : Type 0} where
  pub with_value_self : (n : ℕ) (v : V) (xs : List (ℕ × V)) → value_at n xs ≡ Some v → with_value n v xs ≡ xs
  with_value_self n v [] h = refl
  with_value_self n v (x ∷ xs) h = let e : value_at n xs ≡ Some v → with_value n v xs ≡ xs = with_value_self n v xs in grind (arith, common_steps)

-- a row that waits for nothing is as it was, whatever comes
pub not_waiting : (n : ℕ) (row : Row) (buf : List ℕ) (rows : List (ℕ × Row)) → value_at n rows ≡ Some row → is_busy row.stage ≡ false → with_value n row rows ≡ rows_with (value_at n rows) n buf rows
not_waiting n row buf rows held idle = rw (held, idle) (with_value_self n row rows held)

pub on_err : {A E : Type 0} (r : Result A E) (P : Type 0) → P → OnErr r P
on_err (Ok x) P h = tt
on_err (Err e) P h = h

-- Steps of a row, one after another.

pub advances_none : (how : How) (n : ℕ) (s : Slice) (stage : Stage) → Advances how n s stage stage None
advances_none how n s stage = record {
  on = λ row rows source destination link cookie held same e. record {
    on = λ slices stands.
        let same_row : record row { stage = stage } ≡ row = rw (← e) refl in
        rw (same_row, with_value_self n row rows held) stands;
  };
}

pub advances_then : (how : How) (n : ℕ) (s : Slice) (a b c : Stage) (asks : Option Change) → Advances how n s a b None → Advances how n s b c asks → Advances how n s a c asks
advances_then how n s a b c asks first second = record {
  on = λ row rows source destination link cookie held same stage. record {
    on = λ slices stands.
        rw (← with_value_twice n (record row { stage = b }) (record row { stage = c }) rows)
        ((second.on (record row { stage = b }) (with_value n (record row { stage = b }) rows) source destination link cookie (value_at_with n row (record row { stage = b }) rows held) same refl).on slices
        ((first.on row rows source destination link cookie held same stage).on slices stands));
  };
}

-- a row stays without a request
idle_step : (how : How) (n : ℕ) (s : Slice) (old new : Stage) → is_busy old ≡ false → is_busy new ≡ false →
    ((read changed : List Said) → StandsAt how s old read changed → StandsAt how s new read changed) → Advances how n s old new None
idle_step how n s old new idle idle2 f = record {
  on = λ row rows source destination link cookie held same stage. record {
    on = λ slices stands.
        let r = row_stands how slices n row rows source destination stands held in
        let is : slice_at slices n ≡ s = sym r.1 ∙ same in
        regarded how slices n row (record row { stage = new }) rows source destination stands held refl (rw stage idle) idle2
        (λ h. rw is (f (own n source) (own n destination) (rw (stage, is) at h)));
  };
}

-- a row asks for a change
busy_step : (how : How) (n : ℕ) (s : Slice) (old new : Stage) (one : Change) → is_busy old ≡ false → is_busy new ≡ true →
    ((read changed : List Said) → StandsAt how s old read changed → StandsAt how s new read (changed ++ waiting (change_of one) ∷ [])) →
    ((read changed : List Said) → StandsAt how s old read changed → IsChange how (change_of one) × ((p : ℕ) → has (change_of one) p ≡ true → within (s.start, s.length) p ≡ true) × IsDense how (change_of one) × IsZeroed how s (change_of one)) →
    Advances how n s old new (Some one)
busy_step how n s old new one idle idle2 f lawful = record {
  on = λ row rows source destination link cookie held same stage. record {
    on = λ slices stands.
        let r = row_stands how slices n row rows source destination stands held in
        let is : slice_at slices n ≡ s = sym r.1 ∙ same in
        let h : StandsAt how s old (own n source) (own n destination) = rw (stage, is) at r.2 in
        let k = lawful (own n source) (own n destination) h in
        let inside : IsInside slices n (change_of one) = record { begun = r.0; inside = λ p t. rw is (k.1 p t) } in
        asked how slices n link cookie row (record row { stage = new }) (change_of one) rows source destination stands held refl (rw stage idle) idle2
        (λ g. rw is (f (own n source) (own n destination) h))
        (k.0, inside, k.2, subst (λ (x : Slice). IsZeroed how x (change_of one)) (sym is) k.3);
  };
}

-- Pieces that are left.

-- the first of them, and the rest
pub record FirstLeft (how : How) (s : Slice) (bytes : List ℕ) (at : ℕ) (piece : Slice) (left : List Slice) : Type 0 where
  pub start : piece.start ≡ s.start + at
  pub some : 0 < piece.length
  pub fits : at + piece.length ≤ s.length
  pub alike : (p : ℕ) → piece.start ≤ p → p < piece.start + piece.length → is_told how s bytes p ≡ piece.zero
  pub rest : AreLeft how s bytes (at + piece.length) left

pub first_left : (how : How) (s : Slice) (bytes : List ℕ) (at : ℕ) (piece : Slice) (left : List Slice) → AreLeft how s bytes at (piece ∷ left) → FirstLeft how s bytes at piece left
first_left how s bytes at piece left h =
    let b = h.between in
    let e : s.start + at + piece.length ≡ s.start + (at + piece.length) = omega arith in
    let up = ends_up (s.start + at + piece.length) (s.start + s.length) left b.2 in
    record {
      start = b.0;
      some = b.1;
      fits = omega (arith, up);
      alike = h.whole.0.alike;
      rest = record { between = subst (λ (n : ℕ). LieBetween n (s.start + s.length) left) e b.2; whole = h.whole.1; parted = parted_rest (λ _. false) piece left h.parted };
    }

-- nothing is left at the end
pub none_left : (how : How) (s : Slice) (bytes : List ℕ) (at : ℕ) → AreLeft how s bytes at [] → at ≡ s.length
none_left how s bytes at h = let e = h.between in omega (arith, e)

second : (a b : Bool) → a && b ≡ true → b ≡ true
second true b h = h
second false b h = absurd (cc)

-- a byte of a zero piece is zero
told_byte : (how : How) (s : Slice) (bytes : List ℕ) (i : ℕ) → i < length bytes → is_told how s bytes (s.start + i) ≡ true → get_or bytes i 0 ≡ 0
told_byte how s bytes i l h = zeros_mean how.block ((s.start + i) / how.block) s.start bytes (second (detects how) (in_zero_block how.block s.start bytes (s.start + i)) h) i l refl

-- so a zero piece is zeros
zero_piece : (how : How) (s : Slice) (bytes : List ℕ) (at : ℕ) (piece : Slice) (left : List Slice) → length bytes ≡ s.length → FirstLeft how s bytes at piece left → piece.zero ≡ true →
    replicate piece.length 0 ≡ take piece.length (drop at bytes)
zero_piece how s bytes at piece left len f z =
    let start = f.start in
    let fits = f.fits in
    let l = length-take piece.length (drop at bytes) in
    let d = length-drop at bytes in
    let r = length-replicate {A = ℕ} piece.length 0 in
    same_number_lists (replicate piece.length 0) (take piece.length (drop at bytes)) (omega (arith, l, d, r, fits, len)) (λ k h.
    let small : k < piece.length = omega (arith, h, r) in
    let t : is_told how s bytes (s.start + (at + k)) ≡ true = f.alike (s.start + (at + k)) (omega (arith, start)) (omega (arith, start, small)) ∙ z in
    get_or-replicate piece.length k 0 0 small
    ∙ sym (get_or-take piece.length (drop at bytes) k 0 small ∙ (get_or-drop at bytes k 0 ∙ told_byte how s bytes (at + k) (omega (arith, small, fits, len)) t)))

-- A piece that is taken is a run like the others, with those that are left.

length_at : (did : List Piece) (at : ℕ) (bytes : List ℕ) → spell did ≡ take at bytes → at ≤ length bytes → length (spell did) ≡ at
length_at did at bytes e l = ap length e ∙ (let t = length-take at bytes in omega (arith, t, l))

length_piece : (bytes : List ℕ) (at n : ℕ) → at + n ≤ length bytes → length (take n (drop at bytes)) ≡ n
length_piece bytes at n l = let t = length-take n (drop at bytes) in let d = length-drop at bytes in omega (arith, t, d, l)

takes : (how : How) (s : Slice) (bytes : List ℕ) (piece : Slice) (left : List Slice) (now : Piece) (read changed : List Said) (k : IsHeld how s bytes (piece ∷ left) read changed) →
    spell1 now ≡ take piece.length (drop k.at bytes) → is_zeros now ≡ piece.zero → AreRuns how s bytes (stretches s.start (k.did ++ now ∷ []) ++ left)
takes how s bytes piece left now read changed k e alike =
    let f = first_left how s bytes k.at piece left k.rest in
    let size = k.known.size in
    let fits = f.fits in
    let start = f.start in
    let len = length_at k.did k.at bytes k.spelt k.fits in
    let many : length (spell1 now) ≡ piece.length = ap length e ∙ length_piece bytes k.at piece.length (omega (arith, fits, size)) in
    subst (AreRuns how s bytes) (sym (taken s.start piece.start k.did now piece left (omega (arith, start, len)) refl (sym many) (sym alike))) k.cut

-- A read slice is cut.
pub cut_step : (how : How) (n : ℕ) (s : Slice) (bytes : List ℕ) (left : List Slice) → AreLeft how s bytes 0 left → Advances how n s (Came bytes) (Holding bytes left) None
cut_step how n s bytes left h = idle_step how n s (Came bytes) (Holding bytes left) refl refl (λ read changed k. record {
  known = k.known;
  at = 0;
  did = [];
  spelt = refl;
  fits = omega arith;
  asked = k.unchanged;
  rest = h;
  data_ = k.data_;
  cut = runs_left how s bytes left h;
})

pub cut_steps : (how : How) (n : ℕ) (s : Slice) (stage : Stage) (left : List Slice) → Cuts how s stage left → Advances how n s stage (cutting stage left) None
cut_steps how n s Reading left h = advances_none how n s Reading
cut_steps how n s Last left h = advances_none how n s Last
cut_steps how n s (Came bytes) left h = cut_step how n s bytes left (h.on bytes refl)
cut_steps how n s (Writing bytes rest) left h = advances_none how n s (Writing bytes rest)
cut_steps how n s (Holding bytes rest) left h = advances_none how n s (Holding bytes rest)
cut_steps how n s (Finished bytes) left h = advances_none how n s (Finished bytes)

pub cut_sits : (how : How) (s : Slice) (stage : Stage) (left : List Slice) → Cuts how s stage left → Sits how s stage → Sits how s (cutting stage left)
cut_sits how s Reading left h k = k
cut_sits how s Last left h k = tt
cut_sits how s (Came bytes) left h k = record { size = k.0; data_ = k.1; at = 0; fits = omega arith; rest = h.on bytes refl }
cut_sits how s (Writing bytes rest) left h k = k
cut_sits how s (Holding bytes rest) left h k = k
cut_sits how s (Finished bytes) left h k = tt

pub cut_busy : (stage : Stage) (left : List Slice) → is_busy (cutting stage left) ≡ is_busy stage
cut_busy Reading left = refl
cut_busy Last left = refl
cut_busy (Came bytes) left = refl
cut_busy (Writing bytes rest) left = refl
cut_busy (Holding bytes rest) left = refl
cut_busy (Finished bytes) left = refl

-- A zero piece is passed over.
pub pass_step : (how : How) (n : ℕ) (s : Slice) (bytes : List ℕ) (piece : Slice) (left : List Slice) → how.skip ≡ true → piece.zero ≡ true → Advances how n s (Holding bytes (piece ∷ left)) (Holding bytes left) None
pass_step how n s bytes piece left skip z = idle_step how n s (Holding bytes (piece ∷ left)) (Holding bytes left) refl refl (λ read changed k.
    let f = first_left how s bytes k.at piece left k.rest in
    let size = k.known.size in
    let fits = f.fits in
    let e = zero_piece how s bytes k.at piece left k.known.size f z in
    record {
      known = k.known;
      at = k.at + piece.length;
      did = k.did ++ Zeros piece.length ∷ [];
      spelt = spell_more k.did (Zeros piece.length) ∙ rw (k.spelt, e) (sym (take-add k.at piece.length bytes));
      fits = omega (arith, size, fits);
      asked = k.asked ∙ sym (wrote_passed how s.start k.did (Zeros piece.length) skip);
      rest = f.rest;
      data_ = k.data_;
      cut = takes how s bytes piece left (Zeros piece.length) read changed k e (sym z);
    })

pub passes_none : (how : How) (left : List Slice) → Passes how left left
passes_none how left = record { on = λ n s bytes. advances_none how n s (Holding bytes left); cut = λ s bytes k. k }

pub passes_first : (how : How) (piece : Slice) (left : List Slice) → how.skip ≡ true → piece.zero ≡ true → Passes how (piece ∷ left) left
passes_first how piece left skip z = record {
  on = λ n s bytes. pass_step how n s bytes piece left skip z;
  cut = λ s bytes k.
      let f = first_left how s bytes k.at piece left k.rest in
      let size = k.size in
      let fits = f.fits in
      record { size = k.size; data_ = k.data_; at = k.at + piece.length; fits = omega (arith, size, fits); rest = f.rest };
}

pub passes_then : (how : How) (a b c : List Slice) → Passes how a b → Passes how b c → Passes how a c
passes_then how a b c f g = record { on = λ n s bytes. advances_then how n s _ _ _ None (f.on n s bytes) (g.on n s bytes); cut = λ s bytes k. g.cut s bytes (f.cut s bytes k) }

-- Nothing is left.
pub end_step : (how : How) (n : ℕ) (s : Slice) (bytes : List ℕ) → Advances how n s (Holding bytes []) (Finished bytes) None
end_step how n s bytes = idle_step how n s (Holding bytes []) (Finished bytes) refl refl (λ read changed k.
    let e = none_left how s bytes k.at k.rest in
    let size = k.known.size in
    let all : length bytes ≤ k.at = omega (arith, e, size) in
    record {
      bytes = bytes;
      known = k.known;
      did = k.did;
      spelt = k.spelt ∙ grind (arith, common_steps, all);
      asked = k.asked;
      one = λ z. absurd (false≢true (sym k.data_ ∙ z));
      cut = λ untold. subst (AreRuns how s bytes) (append-nil (stretches s.start k.did)) k.cut;
    })

-- A piece is asked to be written.

-- what is asked for a piece lies in the slice
piece_inside : (how : How) (s : Slice) (at : ℕ) (piece : Piece) (p : ℕ) → at + length (spell1 piece) ≤ s.length → has (ask_of how (s.start + at) piece) p ≡ true → within (s.start, s.length) p ≡ true
piece_inside how s at piece p l h =
    let w = within_true (s.start + at) (length (spell1 piece)) p (sym (has_piece how p (s.start + at) piece) ∙ h) in
    within_at s.start s.length p (omega (arith, w.0)) (omega (arith, w.1, l))

writes : (how : How) (s : Slice) (bytes : List ℕ) (piece : Slice) (left : List Slice) (now : Piece) (read changed : List Said) (k : IsHeld how s bytes (piece ∷ left) read changed) →
    spell1 now ≡ take piece.length (drop k.at bytes) → is_zeros now ≡ piece.zero → is_passed how now ≡ false → IsWritten how s bytes left read (changed ++ waiting (ask_of how piece.start now) ∷ [])
writes how s bytes piece left now read changed k e alike kept =
    let f = first_left how s bytes k.at piece left k.rest in
    let size = k.known.size in
    let fits = f.fits in
    let start = f.start in
    let len = length_at k.did k.at bytes k.spelt k.fits in
    let place : piece.start ≡ s.start + length (spell k.did) = omega (arith, start, len) in
    record {
      known = k.known;
      to = k.at + piece.length;
      did = k.did;
      now = now;
      next = rw (k.spelt, e) (sym (take-add k.at piece.length bytes));
      fits = omega (arith, size, fits);
      kept = kept;
      asked = ap (λ c. c ++ waiting (ask_of how piece.start now) ∷ []) k.asked ∙ ap (λ (m : ℕ). wrote how s.start k.did ++ waiting (ask_of how m now) ∷ []) place;
      rest = f.rest;
      data_ = k.data_;
      cut = takes how s bytes piece left now read changed k e alike;
    }

ends : (how : How) (s : Slice) (bytes : List ℕ) (piece : Slice) (left : List Slice) (now : Piece) (read changed : List Said) (k : IsHeld how s bytes (piece ∷ left) read changed) →
    spell1 now ≡ take piece.length (drop k.at bytes) → is_zeros now ≡ piece.zero → is_passed how now ≡ false → k.at + piece.length ≡ length bytes → IsEnding how s read (changed ++ waiting (ask_of how piece.start now) ∷ [])
ends how s bytes piece left now read changed k e alike kept all =
    let f = first_left how s bytes k.at piece left k.rest in
    let start = f.start in
    let len = length_at k.did k.at bytes k.spelt k.fits in
    let place : piece.start ≡ s.start + length (spell k.did) = omega (arith, start, len) in
    let front : spell k.did ++ spell1 now ≡ take (k.at + piece.length) bytes = rw (k.spelt, e) (sym (take-add k.at piece.length bytes)) in
    let whole : take (k.at + piece.length) bytes ≡ bytes = rw all (grind (arith, common_steps)) in
    record {
      bytes = bytes;
      known = k.known;
      did = k.did;
      now = now;
      spelt = front ∙ whole;
      kept = kept;
      asked = ap (λ c. c ++ waiting (ask_of how piece.start now) ∷ []) k.asked ∙ ap (λ (m : ℕ). wrote how s.start k.did ++ waiting (ask_of how m now) ∷ []) place;
      alone = λ z. absurd (false≢true (sym k.data_ ∙ z));
      cut = λ untold.
          let cut = takes how s bytes piece left now read changed k e alike in
          let size = k.known.size in
          let none = none_between (s.start + (k.at + piece.length)) (s.start + s.length) left f.rest.between (omega (arith, all, size)) in
          subst (AreRuns how s bytes) (ap (λ (l : List Slice). stretches s.start (k.did ++ now ∷ []) ++ l) none ∙ append-nil (stretches s.start (k.did ++ now ∷ []))) cut;
    }

block_some : (how : How) → detects how ≡ true → 0 < how.block
block_some how h = some how.block (first (not (how.block == 0)) _ h)
  where
    first : (a b : Bool) → a && b ≡ true → a ≡ true
    first true b h = refl
    first false b h = absurd (cc)

    some : (n : ℕ) → not (n == 0) ≡ true → 0 < n
    some zero h = absurd (cc)
    some (suc n) h = omega arith

untold : (a b : Bool) → a ≡ true → a && b ≡ false → b ≡ false
untold true b e h = h
untold false b e h = absurd (cc)

-- a piece that isn't zero has no whole block that is
dense_piece : (how : How) (s : Slice) (bytes : List ℕ) (at : ℕ) (piece : Slice) (left : List Slice) → length bytes ≡ s.length → FirstLeft how s bytes at piece left → piece.zero ≡ false →
    IsDense how (ask_of how piece.start (Bytes (take piece.length (drop at bytes))))
dense_piece how s bytes at piece left len f z looks kind p low high =
    elim (in_zero_block how.block piece.start (take piece.length (drop at bytes)) p) as (λ b. in_zero_block how.block piece.start (take piece.length (drop at bytes)) p ≡ b → b ≡ false) [
      | false ↦ λ e. refl
      | true ↦ λ e. absurd (contradiction e)
    ] refl
  where
    contradiction : in_zero_block how.block piece.start (take piece.length (drop at bytes)) p ≡ true → ⊥
    contradiction e =
        let some = block_some how looks in
        let lo : p / how.block * how.block ≤ p = div-mul-le_self p how.block in
        let hi : p < p / how.block * how.block + how.block = lt-div-mul-add some in
        let start = f.start in
        let fits = f.fits in
        let n = length_piece bytes at piece.length (omega (arith, fits, len)) in
        let t : is_told how s bytes p ≡ false = f.alike p (omega (arith, lo, low)) (omega (arith, hi, high, n)) ∙ z in
        let not_zero : in_zero_block how.block s.start bytes p ≡ false = untold (detects how) (in_zero_block how.block s.start bytes p) looks t in
        let zero_ : in_zero_block how.block s.start bytes p ≡ true = zeros_from how.block (p / how.block) s.start bytes (λ i l q.
        let lo2 : (s.start + i) / how.block * how.block ≤ s.start + i = div-mul-le_self (s.start + i) how.block in
        let hi2 : s.start + i < (s.start + i) / how.block * how.block + how.block = lt-div-mul-add some in
        let same : (s.start + i) / how.block * how.block ≡ p / how.block * how.block = ap (λ m. m * how.block) q in
        let behind : at ≤ i = omega (arith, lo2, same, low, start) in
        let before : i - at < piece.length = omega (arith, hi2, same, high, n, start, behind) in
        let place : piece.start + (i - at) ≡ s.start + i = omega (arith, start, behind) in
        let back : at + (i - at) ≡ i = omega (arith, behind) in
        let m = zeros_mean how.block (p / how.block) piece.start (take piece.length (drop at bytes)) e (i - at) (omega (arith, n, before)) (ap (λ x. x / how.block) place ∙ q) in
        subst (λ (x : ℕ). get_or bytes x 0 ≡ 0) back (sym (get_or-take piece.length (drop at bytes) (i - at) 0 before ∙ get_or-drop at bytes (i - at) 0) ∙ m)) in
        absurd (cc)

not_write : (command : Command Nobody) → command.kind ≡ Zero → command.kind ≡ Write → ⊥
not_write command z w = absurd (cc)

pub zero_step : (how : How) (n : ℕ) (s : Slice) (bytes : List ℕ) (piece : Slice) (left : List Slice) → piece.zero ≡ true → how.skip ≡ false →
    Advances how n s (Holding bytes (piece ∷ left)) (Writing bytes left) (Some (change.Zero piece.start piece.length (zero_flags how.allocated)))
zero_step how n s bytes piece left z skip = busy_step how n s (Holding bytes (piece ∷ left)) (Writing bytes left) (change.Zero piece.start piece.length (zero_flags how.allocated)) refl refl
    (λ read changed k. writes how s bytes piece left (Zeros piece.length) read changed k (zero_piece how s bytes k.at piece left k.known.size (first_left how s bytes k.at piece left k.rest) z) (sym z) skip)
    (λ read changed k.
    let f = first_left how s bytes k.at piece left k.rest in
    let fits = f.fits in
    let len = length-replicate {A = ℕ} piece.length 0 in (
      inr (refl, refl, skip),
      λ p h. piece_inside how s k.at (Zeros piece.length) p (omega (arith, fits, len)) (subst (λ (m : ℕ). has (ask_of how m (Zeros piece.length)) p ≡ true) f.start h),
      λ looks w. absurd (not_write (ask_of how piece.start (Zeros piece.length)) refl w),
      λ zero. absurd (false≢true (sym k.data_ ∙ zero)),
    ))

pub part_step : (how : How) (n : ℕ) (s : Slice) (bytes part : List ℕ) (piece : Slice) (left : List Slice) → piece.zero ≡ false → part ≡ bytes_of s bytes piece →
    Advances how n s (Holding bytes (piece ∷ left)) (Writing bytes left) (Some (change.Write piece.start part))
part_step how n s bytes part piece left z is = busy_step how n s (Holding bytes (piece ∷ left)) (Writing bytes left) (change.Write piece.start part) refl refl
    (λ read changed k. writes how s bytes piece left (Bytes part) read changed k (here read changed k) (sym z) refl)
    (λ read changed k.
    let f = first_left how s bytes k.at piece left k.rest in
    let fits = f.fits in
    let size = k.known.size in
    let len : length part ≡ piece.length = ap length (here read changed k) ∙ length_piece bytes k.at piece.length (omega (arith, fits, size)) in (
      inl (refl, refl),
      λ p h. piece_inside how s k.at (Bytes part) p (omega (arith, fits, len)) (subst (λ (m : ℕ). has (ask_of how m (Bytes part)) p ≡ true) f.start h),
      subst (λ (b : List ℕ). IsDense how (ask_of how piece.start (Bytes b))) (sym (here read changed k)) (dense_piece how s bytes k.at piece left k.known.size f z),
      λ zero. absurd (false≢true (sym k.data_ ∙ zero)),
    ))
  where
    here : (read changed : List Said) (k : IsHeld how s bytes (piece ∷ left) read changed) → part ≡ take piece.length (drop k.at bytes)
    here read changed k =
        let f = first_left how s bytes k.at piece left k.rest in
        let start = f.start in
        let e : piece.start - s.start ≡ k.at = omega (arith, start) in
        is ∙ ap (λ (m : ℕ). take piece.length (drop m bytes)) e

whole_bytes : (bytes : List ℕ) (at n : ℕ) → at ≡ 0 → n ≡ length bytes → bytes ≡ take n (drop at bytes)
whole_bytes bytes at n a e = rw (a, e) (grind (arith, common_steps))

pub last_step : (how : How) (n : ℕ) (s : Slice) (bytes : List ℕ) (piece : Slice) (left : List Slice) → piece.zero ≡ false → piece.length ≡ s.length →
    Advances how n s (Holding bytes (piece ∷ left)) Last (Some (change.Write piece.start bytes))
last_step how n s bytes piece left z all = busy_step how n s (Holding bytes (piece ∷ left)) Last (change.Write piece.start bytes) refl refl
    (λ read changed k.
    let f = first_left how s bytes k.at piece left k.rest in
    let fits = f.fits in
    let size = k.known.size in
    ends how s bytes piece left (Bytes bytes) read changed k (here read changed k) (sym z) refl (omega (arith, fits, size, all)))
    (λ read changed k.
    let f = first_left how s bytes k.at piece left k.rest in
    let fits = f.fits in
    let size = k.known.size in (
      inl (refl, refl),
      λ p h. piece_inside how s k.at (Bytes bytes) p (omega (arith, fits, size, all)) (subst (λ (m : ℕ). has (ask_of how m (Bytes bytes)) p ≡ true) f.start h),
      subst (λ (b : List ℕ). IsDense how (ask_of how piece.start (Bytes b))) (sym (here read changed k)) (dense_piece how s bytes k.at piece left k.known.size f z),
      λ zero. absurd (false≢true (sym k.data_ ∙ zero)),
    ))
  where
    here : (read changed : List Said) (k : IsHeld how s bytes (piece ∷ left) read changed) → bytes ≡ take piece.length (drop k.at bytes)
    here read changed k =
        let f = first_left how s bytes k.at piece left k.rest in
        let fits = f.fits in
        let size = k.known.size in
        whole_bytes bytes k.at piece.length (omega (arith, fits, all)) (omega (arith, size, all))
