-- Pieces that name writes, while commands come and go and bytes go out.
use Rattle.std.proofs.Common.{◌≡◌, ◌≢◌, ℕ, ◌+◌, ◌<◌, ◌≤◌, Bool, true, false, nat_lt, if◌then◌else◌, List, [], ◌∷◌, ◌++◌, map, Option, Some, None, refl, ap, sym, ◌∙◌, subst, arith, add-zero, add_assoc}
use Rattle.std.specs.Prelude.{is_some}
use Rattle.std.proofs.lemmas.Bool.{false≢true}
use Rattle.lnbd_keyed.specs.Keyed.{value_at}
use Rattle.lnbd_keyed.proofs.KeyedLemmas.{value_at_with_other, value_at_without_other}
use Rattle.lnbd_history.specs.Commands.{Flight}
use Rattle.lnbd_history.specs.Entries.{Item}
use Rattle.lnbd_history.specs.Outgoing.{Part, last_of, one_if}
use Rattle.lnbd_machine.specs.Machine.{Row, Doing, file_in, file_row, file_flight, filed}
use Rattle.lnbd_outgoing.specs.declared.piece.Piece.{Piece}
use Rattle.lnbd_outgoing.specs.declared.piece.Piece.TheVariants.{Text, Abort, Whole, Head, Own}
use Rattle.lnbd_outgoing.specs.Pieces.{Writes, part_of, size_of, ends_of}
use Rattle.lnbd_outgoing.specs.Queue.{Queue, cut, waits, left_after, ends_after}
use Rattle.lnbd_outgoing.specs.Laws.{AgreeOn}
use Rattle.lnbd_outgoing.proofs.QueueLemmas.{others_wait, others_fit}
use Rattle.lnbd_commands.specs.Commands.{Commands, payload_as, with_commands, retiring}
use Rattle.lnbd_commands.specs.Rows.{flight_of_row}
use Rattle.lnbd_handle.specs.declared.connection.Connection.{Connection}
use Rattle.lnbd_handle.specs.Seen.{IsAhead, AreAhead, IsSound, writes_in, flies_in, waits_in, state_of, ends_in}

-- Commands that end with pieces.

-- how many commands end with these pieces
abbrev pub ends_among : List Piece → ℕ
ends_among [] = 0
ends_among (piece ∷ pieces) = one_if (ends_of piece) + ends_among pieces

ends_part : (writes : Writes) (piece : Piece) → (part_of writes piece).ends ≡ ends_of piece
ends_part writes (Text bytes) = refl
ends_part writes (Abort bytes) = refl
ends_part writes (Whole head) = refl
ends_part writes (Head head) = refl
ends_part writes (Own cookie size) = refl

ends_parts : (writes : Writes) (pieces : List Piece) → ends_in (map (part_of writes) pieces) ≡ ends_among pieces
ends_parts writes [] = refl
ends_parts writes (piece ∷ pieces) = ap (λ (b : Bool). one_if b + ends_in (map (part_of writes) pieces)) (ends_part writes piece) ∙ ap (λ (n : ℕ). one_if (ends_of piece) + n) (ends_parts writes pieces)

ends_cut : (n : ℕ) (parts : List Part) → ends_in (cut n parts) ≡ ends_in parts
ends_cut n [] = refl
ends_cut n (part ∷ parts) = refl

pub ends_waits : (writes : Writes) (q : Queue) → ends_in (waits writes q) ≡ ends_among q.pieces
ends_waits writes q = ends_cut q.cursor (map (part_of writes) q.pieces) ∙ ends_parts writes q.pieces

pub ends_both : (first second : List Piece) → ends_among (first ++ second) ≡ ends_among first + ends_among second
ends_both [] second = omega arith
ends_both (piece ∷ first) second = ap (λ (n : ℕ). one_if (ends_of piece) + n) (ends_both first second) ∙ sym (add_assoc (one_if (ends_of piece)) (ends_among first) (ends_among second))

-- Pieces that come and go.

pub ahead_push : (flies : ℕ → Bool) (written : ℕ) (pieces : List Piece) (piece : Piece) → AreAhead flies written pieces → IsAhead flies (written + ends_among pieces) piece → AreAhead flies written (pieces ++ piece ∷ [])
ahead_push flies written [] piece all is = (subst (λ (n : ℕ). IsAhead flies n piece) (add-zero written) is, tt)
ahead_push flies written (p ∷ pieces) piece all is =
    (all.0, ahead_push flies (written + one_if (ends_of p)) pieces piece all.1 (subst (λ (n : ℕ). IsAhead flies n piece) (sym (add_assoc written (one_if (ends_of p)) (ends_among pieces))) is))

pub ahead_after : (flies : ℕ → Bool) (written n cursor : ℕ) (pieces : List Piece) → AreAhead flies written pieces → AreAhead flies (written + one_if (ends_after n cursor pieces)) (left_after n cursor pieces)
ahead_after flies written n cursor [] all = tt
ahead_after flies written n cursor (piece ∷ pieces) all = go (nat_lt (cursor + n) (size_of piece))
  where
    go : (b : Bool) → AreAhead flies (written + one_if (if b then false else ends_of piece)) (if b then piece ∷ pieces else pieces)
    go true = subst (λ (k : ℕ). AreAhead flies k (piece ∷ pieces)) (sym (add-zero written)) all
    go false = all.1

later_differs : (cookie written other : ℕ) → cookie ≤ written → written < other → other ≢ cookie
later_differs cookie written other low high = λ same. absurd (omega (arith, low, high, same))

-- Commands that come and go.

module _ {K : Type 0} where
  -- The commands that are in flight and not wholly written stay as they are.
  abbrev pub KeepsUnwritten : (written : ℕ) (old new : Commands K) → Type 0
  KeepsUnwritten written old new = (cookie : ℕ) → written < cookie → flies_in old cookie ≡ true → value_at cookie new.rows ≡ value_at cookie old.rows

  same_piece : (old new : Commands K) (written : ℕ) (piece : Piece) → KeepsUnwritten written old new → IsAhead (flies_in old) written piece →
      (part_of (writes_in new) piece ≡ part_of (writes_in old) piece) × IsAhead (flies_in new) written piece
  same_piece old new written (Text bytes) keeps is = (refl, tt)
  same_piece old new written (Abort bytes) keeps is = (refl, tt)
  same_piece old new written (Whole head) keeps is = (refl, tt)
  same_piece old new written (Head head) keeps is = (refl, tt)
  same_piece old new written (Own cookie size) keeps is =
      let same = keeps cookie is.0 is.1 in
      (ap (λ (r : Option (Row K)). last_of (payload_as r)) same, (is.0, ap (λ (r : Option (Row K)). is_some (flight_of_row r)) same ∙ is.1))

  pub same_pieces : (old new : Commands K) (written : ℕ) (pieces : List Piece) → KeepsUnwritten written old new → AreAhead (flies_in old) written pieces →
      AgreeOn (writes_in old) (writes_in new) pieces × AreAhead (flies_in new) written pieces
  same_pieces old new written [] keeps all = (tt, tt)
  same_pieces old new written (piece ∷ pieces) keeps all =
      let first = same_piece old new written piece keeps all.0 in
      let rest = same_pieces old new (written + one_if (ends_of piece)) pieces (λ cookie later flies. keeps cookie (omega (arith, later)) flies) all.1 in
      ((first.0, rest.0), (first.1, rest.1))

  -- What waits is the same, and all stays sound.
  pub kept_waits : (old : Connection K) (commands : Commands K) → KeepsUnwritten old.written old.commands commands → IsSound old → waits (writes_in commands) old.queue ≡ waits_in old
  kept_waits old commands keeps s = others_wait (writes_in old.commands) (writes_in commands) old.queue (same_pieces old.commands commands old.written old.queue.pieces keeps s.ahead).0

  pub kept_state : (old : Connection K) (commands : Commands K) → KeepsUnwritten old.written old.commands commands → IsSound old → state_of (record old { commands = commands }) ≡ with_commands commands (state_of old)
  kept_state old commands keeps s = ap (λ (parts : List Part). record (with_commands commands (state_of old)) { waits = parts }) (kept_waits old commands keeps s)

  pub kept_sound : (old : Connection K) (commands : Commands K) → KeepsUnwritten old.written old.commands commands → commands.issued ≡ old.commands.issued → IsSound old → IsSound (record old { commands = commands })
  kept_sound old commands keeps issued s =
      let same = same_pieces old.commands commands old.written old.queue.pieces keeps s.ahead in
      record {
        fits = others_fit (writes_in old.commands) (writes_in commands) old.queue.pieces same.0 s.fits;
        ahead = same.1;
        stands = s.stands;
        counted =
            let parts = ap ends_in (kept_waits old commands keeps s) in
            omega (arith, parts, issued, s.counted);
      }

  -- Which commands stay.

  filed_others : (gone : Bool) (cookie other : ℕ) (row : Row K) (rows : List (ℕ × Row K)) → other ≢ cookie → value_at other (filed gone cookie row rows) ≡ value_at other rows
  filed_others true cookie other row rows differs = value_at_without_other other cookie rows differs
  filed_others false cookie other row rows differs = value_at_with_other other cookie row rows differs

  flight_others : (f : Option (Flight K)) (row : Row K) (cookie other : ℕ) (item : Item) (d : Doing K) → other ≢ cookie → value_at other (file_flight f row cookie item d).state.rows ≡ value_at other d.state.rows
  flight_others None row cookie other item d differs = refl
  flight_others (Some flight) row cookie other item d differs = filed_others _ cookie other _ d.state.rows differs

  row_others : (r : Option (Row K)) (cookie other : ℕ) (item : Item) (d : Doing K) → other ≢ cookie → value_at other (file_row r cookie item d).state.rows ≡ value_at other d.state.rows
  row_others None cookie other item d differs = refl
  row_others (Some row) cookie other item d differs = flight_others row.flight row cookie other item d differs

  -- Filing under one command leaves the others.
  pub file_others : (cookie other : ℕ) (item : Item) (d : Doing K) → other ≢ cookie → value_at other (file_in cookie item d).state.rows ≡ value_at other d.state.rows
  file_others cookie other item d differs = row_others (value_at cookie d.state.rows) cookie other item d differs

  pub filed_keeps : (written cookie : ℕ) (item : Item) (old new : Commands K) (d : Doing K) → cookie ≤ written → d.state.rows ≡ old.rows → (file_in cookie item d).state.rows ≡ new.rows → KeepsUnwritten written old new
  filed_keeps written cookie item old new d low before after other later flies =
      ap (value_at other) (sym after) ∙ file_others cookie other item d (later_differs cookie written other low later) ∙ ap (value_at other) before

  not_flying : (r : Option (Row K)) → ((row : Row K) → r ≡ Some row → row.flight ≡ None) → is_some (flight_of_row r) ≡ true → ⊥
  not_flying None ended flies = false≢true flies
  not_flying (Some row) ended flies = let e = ended row refl in false≢true (sym (ap is_some e) ∙ flies)

  -- A command that is retired is in flight no more.
  pub retired_keeps : (written cookie : ℕ) (old : Commands K) → ((row : Row K) → value_at cookie old.rows ≡ Some row → row.flight ≡ None) → KeepsUnwritten written old (retiring cookie old)
  retired_keeps written cookie old ended other later flies = value_at_without_other other cookie old.rows
      (λ same. not_flying (value_at other old.rows) (λ row is. ended row (ap (λ (n : ℕ). value_at n old.rows) (sym same) ∙ is)) flies)

  pub rows_keep : (written : ℕ) (old new : Commands K) → new.rows ≡ old.rows → KeepsUnwritten written old new
  rows_keep written old new same cookie later flies = ap (value_at cookie) same
