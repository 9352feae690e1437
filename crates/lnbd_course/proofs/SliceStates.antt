-- What was said for a slice, by what was dealt: a slice that is over is finished, and one whose row has a request under way is awaited.
use Rattle.std.proofs.Common.{◌≡◌, ◌⊎◌, inl, inr, ℕ, ◌+◌, ◌-◌, ◌≤◌, Bool, true, false, ◌&&◌, List, [], ◌∷◌, ◌++◌, cond, length, take, get_or, Some, refl, ap, sym, subst, ◌∙◌, arith, length-append, length-take}
use Rattle.std.proofs.lemmas.Bool.{false≢true}
use Rattle.std.proofs.Math.ListN.{length-replicate}
use Rattle.lnbd_model.specs.declared.kind.Kind.TheVariants.{Read}
use Rattle.lnbd_model.specs.Kind.{is_read}
use Rattle.lnbd_extents.specs.Positions.{within}
use Rattle.lnbd_outcome.specs.Outcome as outcome
use Rattle.lnbd_outcome.specs.Outcome.{Outcome}
use Rattle.lnbd_history.specs.Commands.{Command}
use Rattle.lnbd_asked.specs.Honest.{changes, covers, has}
use Rattle.lnbd_asked.specs.Link.{Nobody}
use Rattle.lnbd_asked.specs.Transcript.{Dealt}
use Rattle.lnbd_plan.specs.declared.grid.Slice.{Slice}
use Rattle.lnbd_board.specs.declared.how.How.{How}
use Rattle.lnbd_board.specs.declared.row.Stage.{Stage}
use Rattle.lnbd_board.specs.declared.row.Stage.TheVariants.{Reading, Last, Came, Writing, Holding, Finished}
use Rattle.lnbd_board.specs.Pieces.{Bytes, Piece, Zeros, ask_of, is_passed, is_told, kind_of, spell, spell1, wrote, zeroing_kind}
use Rattle.lnbd_board.specs.Requests.{IsIn, Request, Said, done, is_of, over_said, own, reads, waiting}
use Rattle.lnbd_board.specs.Rows.{IsOnePiece, IsOver, IsRead, Known, KnownBy, StandsAt, is_busy, lies_in}
use Rattle.lnbd_board.proofs.Lists.{own_first}
use Rattle.lnbd_board.proofs.Spelling.{ask_kind, Covered, Never, Once, covered, covers_piece, has_piece, within_at, within_true}
use Rattle.lnbd_tracks.specs.Laws.{IsDone}
use Rattle.lnbd_course.specs.Runs.{counts_zero}
use Rattle.lnbd_course.specs.Slices.{IsAskedWhole, IsAwaited, IsFinished, IsUnfinished, WaitsToChange, WasChanged, WasFoundZero, WasRead}
use Rattle.lnbd_course.proofs.Cutting.{passed_told}

-- a request of a list that said this
abbrev pub IsSaid : Said → List Request → Type 0
IsSaid x xs = (r : Request) × (IsIn r xs × (r.said ≡ x))

later : (x : Said) (r : Request) (rs : List Request) → IsSaid x rs → IsSaid x (r ∷ rs)
later x r rs said = (said.0, (inr said.1.0, said.1.1))

-- the one over a position that was said for a slice
own_over : (p i : ℕ) (x : Said) (xs : List Request) → over_said p (own i xs) ≡ x ∷ [] → IsSaid x xs
own_over p i x [] h = absurd (cc)
own_over p i x (r ∷ rs) h =
    elim (is_of i r.ticket) as (λ b. over_said p (cond b (r.said ∷ own i rs) (own i rs)) ≡ x ∷ [] → IsSaid x (r ∷ rs)) [
      | true ↦ λ k. elim (covers r.said.command p) as (λ b. cond b (r.said ∷ over_said p (own i rs)) (over_said p (own i rs)) ≡ x ∷ [] → IsSaid x (r ∷ rs)) [
        | true ↦ λ e. (r, (inl refl, cc))
        | false ↦ λ e. later x r rs (own_over p i x rs e)
      ] k
      | false ↦ λ k. later x r rs (own_over p i x rs k)
    ] h

-- the last that was said for it
own_last : (i : ℕ) (front : List Said) (x : Said) (xs : List Request) → own i xs ≡ front ++ x ∷ [] → IsSaid x xs
own_last i front x [] h = no_last front h
  where
    no_last : (front : List Said) → [] ≡ front ++ x ∷ [] → IsSaid x []
    no_last [] e = absurd (cc)
    no_last (y ∷ front) e = absurd (cc)
own_last i front x (r ∷ rs) h =
    elim (is_of i r.ticket) as (λ b. cond b (r.said ∷ own i rs) (own i rs) ≡ front ++ x ∷ [] → IsSaid x (r ∷ rs)) [
      | true ↦ λ k. first front k (λ front e. own_last i front x rs e)
      | false ↦ λ k. later x r rs (own_last i front x rs k)
    ] h
  where
    first : (front : List Said) → r.said ∷ own i rs ≡ front ++ x ∷ [] → ((front : List Said) → own i rs ≡ front ++ x ∷ [] → IsSaid x rs) → IsSaid x (r ∷ rs)
    first [] e rest = (r, (inl refl, cc))
    first (y ∷ front) e rest = later x r rs (rest front (cc))

-- What is dealt says this of a request.
abbrev pub Says : Dealt → Request → Type 0
Says dealt r = (dealt.asked r.link r.cookie ≡ Some r.said.command) × (dealt.outcome r.link r.cookie ≡ r.said.outcome)

-- so it is with each that is done
abbrev pub SaysDone : List Request → Dealt → Type 0
SaysDone requests dealt = (r : Request) → IsIn r requests → IsDone r.said.outcome → Says dealt r

-- and with each that waits
abbrev pub SaysWaiting : List Request → Dealt → Type 0
SaysWaiting requests dealt = (r : Request) → IsIn r requests → r.said.outcome ≡ outcome.Unfinished → Says dealt r

-- a request that came to something, under its link and cookie
record Shown (command : Command Nobody) (came : Outcome) (dealt : Dealt) : Type 0 where
  link : ℕ
  cookie : ℕ
  asked : dealt.asked link cookie ≡ Some command
  outcome : dealt.outcome link cookie ≡ came

shown : (x : Said) (xs : List Request) (dealt : Dealt) (said : IsSaid x xs) → Says dealt said.0 → Shown x.command x.outcome dealt
shown x xs dealt said says = record {
  link = said.0.link;
  cookie = said.0.cookie;
  asked = says.0 ∙ ap (λ (y : Said). Some y.command) said.1.1;
  outcome = says.1 ∙ ap (λ (y : Said). y.outcome) said.1.1;
}

done_shown : (x : Said) (bytes : List ℕ) (xs : List Request) (dealt : Dealt) → SaysDone xs dealt → IsSaid x xs → x.outcome ≡ outcome.Done bytes → Shown x.command (outcome.Done bytes) dealt
done_shown x bytes xs dealt says said is =
    subst (λ (o : Outcome). Shown x.command o dealt) is (shown x xs dealt said (says said.0 said.1.0 (record { bytes = bytes; is = ap (λ (y : Said). y.outcome) said.1.1 ∙ is })))

waiting_shown : (x : Said) (xs : List Request) (dealt : Dealt) → SaysWaiting xs dealt → IsSaid x xs → x.outcome ≡ outcome.Unfinished → Shown x.command outcome.Unfinished dealt
waiting_shown x xs dealt says said is =
    subst (λ (o : Outcome). Shown x.command o dealt) is (shown x xs dealt said (says said.0 said.1.0 (ap (λ (y : Said). y.outcome) said.1.1 ∙ is)))

-- A read of a whole slice.

read_here : (s : Slice) (came : Outcome) (read : List Said) (known : IsRead s came read) (p : ℕ) → has known.command p ≡ lies_in s p
read_here s came read known p = ap (λ (n : ℕ). within (n, known.command.length) p) known.start ∙ ap (λ (n : ℕ). within (s.start, n) p) known.size

both_true : (a b : Bool) → a ≡ true → b ≡ true → a && b ≡ true
both_true true b e f = f
both_true false b e f = absurd (false≢true e)

reads_here : (s : Slice) (came : Outcome) (read : List Said) (known : IsRead s came read) (p : ℕ) → lies_in s p ≡ true → reads known.command p ≡ true
reads_here s came read known p here = both_true (is_read known.command.kind) (has known.command p) (ap is_read known.kind) (read_here s came read known p ∙ here)

-- so it is one request for all of it
read_whole : (i : ℕ) (s : Slice) (bytes : List ℕ) (source : List Request) (reads_of : Dealt) → SaysDone source reads_of → IsRead s (outcome.Done bytes) (own i source) → IsAskedWhole Read s IsDone reads_of
read_whole i s bytes source reads_of says known =
    let r = done_shown (record { command = known.command; outcome = outcome.Done bytes }) bytes source reads_of says (own_first i (record { command = known.command; outcome = outcome.Done bytes }) source known.one) refl in
    record { link = r.link; cookie = r.cookie; command = known.command; asked = r.asked; is = known.kind; start = known.start; size = known.size; came = record { bytes = bytes; is = r.outcome } }

was_read : (i : ℕ) (s : Slice) (bytes : List ℕ) (source : List Request) (reads_of : Dealt) → SaysDone source reads_of → Known s bytes (own i source) → WasRead s reads_of
was_read i s bytes source reads_of says known data_ = read_whole i s bytes source reads_of says (subst (λ (b : Bool). KnownBy b s bytes (own i source)) data_ known.by)

-- A piece of a slice.

ask_start : (how : How) (at : ℕ) (piece : Piece) → (ask_of how at piece).offset ≡ at
ask_start how at (Bytes bytes) = refl
ask_start how at (Zeros n) = refl

ask_size : (how : How) (at : ℕ) (piece : Piece) → (ask_of how at piece).length ≡ length (spell1 piece)
ask_size how at (Bytes bytes) = refl
ask_size how at (Zeros n) = sym (length-replicate {A = ℕ} n 0)

-- this was said
abbrev Among : Said → List Said → Type 0
Among x [] = ⊥
Among x (y ∷ ys) = (y ≡ x) ⊎ Among x ys

over_among : (p : ℕ) (x : Said) (xs : List Said) → over_said p xs ≡ x ∷ [] → Among x xs
over_among p x [] h = absurd (cc)
over_among p x (y ∷ ys) h =
    let more = over_among p x ys in
    elim (covers y.command p) as (λ b. cond b (y ∷ over_said p ys) (over_said p ys) ≡ x ∷ [] → Among x (y ∷ ys)) [
      | true ↦ λ e. inl (cc)
      | false ↦ λ e. inr (more e)
    ] h

-- what is said of pieces that are written lies among their bytes
wrote_inside : (how : How) (at : ℕ) (pieces : List Piece) (x : Said) → Among x (wrote how at pieces) → (q : ℕ) → has x.command q ≡ true → within (at, length (spell pieces)) q ≡ true
wrote_inside how at [] x among q here = absurd among
wrote_inside how at (piece ∷ pieces) x among q here = go (λ m. wrote_inside how (at + length (spell1 piece)) pieces x m q here) (is_passed how piece) among
  where
    rest : within (at + length (spell1 piece), length (spell pieces)) q ≡ true → within (at, length (spell1 piece ++ spell pieces)) q ≡ true
    rest inside =
        let w = within_true (at + length (spell1 piece)) (length (spell pieces)) q inside in
        let len = length-append (spell1 piece) (spell pieces) in
        within_at at (length (spell1 piece ++ spell pieces)) q (omega (arith, w.0)) (omega (arith, w.1, len))

    first : done (ask_of how at piece) ≡ x → within (at, length (spell1 piece ++ spell pieces)) q ≡ true
    first same =
        let w = within_true at (length (spell1 piece)) q (sym (has_piece how q at piece) ∙ ap (λ (y : Said). has y.command q) same ∙ here) in
        let len = length-append (spell1 piece) (spell pieces) in
        within_at at (length (spell1 piece ++ spell pieces)) q w.0 (omega (arith, w.1, len))

    go : (Among x (wrote how (at + length (spell1 piece)) pieces) → within (at + length (spell1 piece), length (spell pieces)) q ≡ true) → (b : Bool) →
        Among x (cond b (wrote how (at + length (spell1 piece)) pieces) (done (ask_of how at piece) ∷ wrote how (at + length (spell1 piece)) pieces)) → within (at, length (spell1 piece ++ spell pieces)) q ≡ true
    go more true m = rest (more m)
    go more false (inl same) = first same
    go more false (inr m) = rest (more m)

-- The slice of a number.
module _ (how : How) (i : ℕ) (s : Slice) (source destination : List Request) (reads_of changes_of : Dealt) (says : SaysDone source reads_of) (says' : SaysDone destination changes_of) where
  read_done : (bytes : List ℕ) (known : IsRead s (outcome.Done bytes) (own i source)) → Shown known.command (outcome.Done bytes) reads_of
  read_done bytes known = done_shown (record { command = known.command; outcome = outcome.Done bytes }) bytes source reads_of says (own_first i (record { command = known.command; outcome = outcome.Done bytes }) source known.one) refl

  -- A zero of it is known: it was told so or found.
  known_zero : (zero : Bool) (bytes : List ℕ) (p : ℕ) → KnownBy zero s bytes (own i source) → lies_in s p ≡ true → (zero ≡ false → is_told how s bytes p ≡ true) → (zero ≡ true) ⊎ WasFoundZero how p reads_of
  known_zero true bytes p known here is = inl refl
  known_zero false bytes p known here is =
      let r = read_done bytes known in
      inr (record {
        link = r.link;
        cookie = r.cookie;
        command = known.command;
        bytes = bytes;
        asked = r.asked;
        here = reads_here s (outcome.Done bytes) (own i source) known p here;
        done = r.outcome;
        zero = ap (λ (n : ℕ). counts_zero how n bytes p) known.start ∙ is refl;
      })

  -- A position of it that was covered by what was written is changed, or it is a zero that was passed over.
  changed : (zero : Bool) (bytes : List ℕ) (p : ℕ) → KnownBy zero s bytes (own i source) → lies_in s p ≡ true → ((x : Said) → Among x (own i destination) → (q : ℕ) → has x.command q ≡ true → lies_in s q ≡ true) →
      (over_said p (own i destination) ≡ [] → zero ≡ false → is_told how s bytes p ≡ true) → Covered how p (get_or bytes (p - s.start) 0) (own i destination) → WasChanged s p changes_of ⊎ ((how.skip ≡ true) × ((zero ≡ true) ⊎ WasFoundZero how p reads_of))
  changed zero bytes p known here inside told (Once at piece one within_it byte) =
      let r = done_shown (done (ask_of how at piece)) (ask_of how at piece).payload destination changes_of says' (own_over p i (done (ask_of how at piece)) destination one) refl in
      inl (record {
        link = r.link;
        cookie = r.cookie;
        command = ask_of how at piece;
        asked = r.asked;
        here = covers_piece how p at piece ∙ within_it;
        inside = inside (done (ask_of how at piece)) (over_among p (done (ask_of how at piece)) (own i destination) one);
        done = record { bytes = (ask_of how at piece).payload; is = r.outcome };
      })
  changed zero bytes p known here inside told (Never skips none is) = inr (skips, known_zero zero bytes p known here (told none))

  is_covered : (over : IsOver how s (own i source) (own i destination)) (p : ℕ) → lies_in s p ≡ true → Covered how p (get_or over.bytes (p - s.start) 0) (own i destination)
  is_covered over p here =
      let w = within_true s.start s.length p here in
      let len : length (spell over.did) ≡ s.length = ap length over.spelt ∙ over.known.size in
      let c = covered how p s.start over.did w.0 (omega (arith, len, w.1)) in
      subst (λ (l : List Said). Covered how p (get_or over.bytes (p - s.start) 0) l) (sym over.asked) (subst (λ (b : List ℕ). Covered how p (get_or b (p - s.start) 0) (wrote how s.start over.did)) over.spelt c)

  is_inside : (over : IsOver how s (own i source) (own i destination)) (x : Said) → Among x (own i destination) → (q : ℕ) → has x.command q ≡ true → lies_in s q ≡ true
  is_inside over x among q here =
      let len : length (spell over.did) ≡ s.length = ap length over.spelt ∙ over.known.size in
      subst (λ (n : ℕ). within (s.start, n) q ≡ true) len (wrote_inside how s.start over.did x (subst (Among x) over.asked among) q here)

  -- What was passed over was found.
  is_found : (over : IsOver how s (own i source) (own i destination)) (p : ℕ) → lies_in s p ≡ true → over_said p (own i destination) ≡ [] → s.zero ≡ false → is_told how s over.bytes p ≡ true
  is_found over p here none untold =
      let w = within_true s.start s.length p here in
      let cut = over.cut untold in
      passed_told how (is_told how s over.bytes) (λ _. false) p s.start (s.start + s.length) over.did cut.between cut.whole w.0 w.1 (ap (over_said p) (sym over.asked) ∙ none)

  -- A zero slice was changed by one request.
  zeroed : (over : IsOver how s (own i source) (own i destination)) → IsOnePiece how over.did → IsAskedWhole (zeroing_kind how) s IsDone changes_of
  zeroed over one =
      let asks : Command Nobody = ask_of how s.start one.piece in
      let alone : own i destination ≡ done asks ∷ [] =
      over.asked ∙ ap (wrote how s.start) one.is ∙ ap (λ (b : Bool). cond b (wrote how (s.start + length (spell1 one.piece)) []) (done asks ∷ wrote how (s.start + length (spell1 one.piece)) [])) one.kept in
      let r = done_shown (done asks) asks.payload destination changes_of says' (own_first i (done asks) destination alone) refl in
      let len : length (spell1 one.piece ++ []) ≡ s.length = ap (λ (d : List Piece). length (spell d)) (sym one.is) ∙ ap length over.spelt ∙ over.known.size in
      let more = length-append (spell1 one.piece) [] in
      record {
        link = r.link;
        cookie = r.cookie;
        command = asks;
        asked = r.asked;
        is = ask_kind how s.start one.piece ∙ one.kind;
        start = ask_start how s.start one.piece;
        size = ask_size how s.start one.piece ∙ omega (arith, len, more);
        came = record { bytes = asks.payload; is = r.outcome };
      }

  pub is_finished : IsOver how s (own i source) (own i destination) → IsFinished how s reads_of changes_of
  is_finished over = record {
    read = was_read i s over.bytes source reads_of says over.known;
    changed = λ p here. changed s.zero over.bytes p over.known.by here (is_inside over) (is_found over p here) (is_covered over p here);
    zeroed = λ zero. zeroed over (over.one zero);
  }

-- A request of it that waits.
module _ (how : How) (i : ℕ) (s : Slice) (source destination : List Request) (reads_of changes_of : Dealt) (came : SaysDone source reads_of) (says : SaysWaiting source reads_of) (says' : SaysWaiting destination changes_of) where
  read_waits : IsRead s outcome.Unfinished (own i source) → IsAskedWhole Read s IsUnfinished reads_of
  read_waits known =
      let r = waiting_shown (record { command = known.command; outcome = outcome.Unfinished }) source reads_of says (own_first i (record { command = known.command; outcome = outcome.Unfinished }) source known.one) refl in
      record { link = r.link; cookie = r.cookie; command = known.command; asked = r.asked; is = known.kind; start = known.start; size = known.size; came = r.outcome }

  piece_changes : (at : ℕ) (piece : Piece) → changes (ask_of how at piece).kind ≡ true
  piece_changes at (Bytes bytes) = refl
  piece_changes at (Zeros n) = refl

  -- a piece lies in the slice, where it ends before its end
  piece_inside : (past : ℕ) (piece : Piece) (p : ℕ) → past + length (spell1 piece) ≤ s.length → has (ask_of how (s.start + past) piece) p ≡ true → lies_in s p ≡ true
  piece_inside past piece p fits here =
      let w = within_true (s.start + past) (length (spell1 piece)) p (sym (has_piece how p (s.start + past) piece) ∙ here) in
      within_at s.start s.length p (omega (arith, w.0)) (omega (arith, w.1, fits))

  piece_waits : (bytes : List ℕ) (did : List Piece) (piece : Piece) → Known s bytes (own i source) → own i destination ≡ wrote how s.start did ++ waiting (ask_of how (s.start + length (spell did)) piece) ∷ [] → length (spell did ++ spell1 piece) ≤ s.length →
      (s.zero ≡ true → (did ≡ []) × (kind_of piece ≡ zeroing_kind how)) → (s.zero ≡ true → length (spell did ++ spell1 piece) ≡ s.length) → WaitsToChange how s reads_of changes_of
  piece_waits bytes did piece known asked fits alone all =
      let command : Command Nobody = ask_of how (s.start + length (spell did)) piece in
      let r = waiting_shown (waiting command) destination changes_of says' (own_last i (wrote how s.start did) (waiting command) destination asked) refl in
      let parts = length-append (spell did) (spell1 piece) in
      record {
        read = was_read i s bytes source reads_of came known;
        link = r.link;
        cookie = r.cookie;
        command = command;
        asked = r.asked;
        kind = piece_changes (s.start + length (spell did)) piece;
        inside = λ p here. piece_inside (length (spell did)) piece p (omega (arith, parts, fits)) here;
        waits = r.outcome;
        zeroes = λ zero.
            let none : length (spell did) ≡ 0 = ap (λ (d : List Piece). length (spell d)) (alone zero).0 in
            let whole = all zero in
            record {
              link = r.link;
              cookie = r.cookie;
              command = command;
              asked = r.asked;
              is = ask_kind how (s.start + length (spell did)) piece ∙ (alone zero).1;
              start = ask_start how (s.start + length (spell did)) piece ∙ omega (arith, none);
              size = ask_size how (s.start + length (spell did)) piece ∙ omega (arith, none, whole, parts);
              came = r.outcome;
            };
      }

  pub is_awaited : (stage : Stage) → is_busy stage ≡ true → StandsAt how s stage (own i source) (own i destination) → IsAwaited how s reads_of changes_of
  is_awaited Reading on at = inl (record { data_ = at.data_; read = read_waits at.asked })
  is_awaited Last on at =
      let len : length (spell at.did ++ spell1 at.now) ≡ s.length = ap length at.spelt ∙ at.known.size in
      inr (piece_waits at.bytes at.did at.now at.known at.asked (omega (arith, len)) at.alone (λ zero. len))
  is_awaited (Came bytes) on at = absurd (false≢true on)
  is_awaited (Writing bytes left) on at =
      let len : length (spell at.did ++ spell1 at.now) ≡ length (take at.to bytes) = ap length at.next in
      let front = length-take at.to bytes in
      let size = at.known.size in
      inr (piece_waits bytes at.did at.now at.known at.asked (omega (arith, len, front, size)) (λ zero. absurd (false≢true (sym at.data_ ∙ zero))) (λ zero. absurd (false≢true (sym at.data_ ∙ zero))))
  is_awaited (Holding bytes left) on at = absurd (false≢true on)
  is_awaited (Finished bytes) on at = absurd (false≢true on)
