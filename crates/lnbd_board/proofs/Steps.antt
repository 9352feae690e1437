-- Each step of a copy keeps the invariant: it changes one row, and what was asked for one slice.
use Rattle.std.proofs.Common.{◌≡◌, ◌≢◌, ℕ, ◌+◌, ◌<◌, ◌≤◌, ◌⊎◌, inl, inr, List, [], ◌∷◌, ◌++◌, Bool, true, false, cond, refl, ap, sym, subst, ◌∙◌, arith, length, ◌==◌, Some, length-append, replicate}
use Rattle.std.proofs.lemmas.Grind.{common_steps}
use Rattle.std.proofs.lemmas.Bool.{cases_lt, false≢true}
use Rattle.std.proofs.Math.ListN.{length-replicate, get_or-append}
use Rattle.lnbd_keyed.specs.Keyed.{value_at, with_value, without, IsBelow}
use Rattle.lnbd_keyed.proofs.KeyedLemmas.{IsRising_append, IsRising_without, IsRising_with, value_at_with, value_at_with_other, value_at_without, value_at_without_other, value_at_last, value_at_last_other, IsBelow_append, IsBelow_without, IsBelow_with, IsBelow_less, IsBelow_at}
use Rattle.lnbd_model.specs.declared.kind.Kind.TheVariants.{Read}
use Rattle.lnbd_model.specs.Kind.{is_read}
use Rattle.lnbd_extents.specs.Positions.{within}
use Rattle.lnbd_outcome.specs.Outcome.{Done}
use Rattle.lnbd_history.specs.Commands.{Command}
use Rattle.lnbd_asked.specs.Link.{Nobody}
use Rattle.lnbd_plan.specs.declared.grid.Slice.{Slice}
use Rattle.lnbd_board.specs.declared.how.How.{How}
use Rattle.lnbd_board.specs.declared.row.Row.{Row}
use Rattle.lnbd_board.specs.declared.row.Stage.TheVariants.{Reading, Last, Came, Writing, Holding, Finished}
use Rattle.lnbd_board.specs.declared.ticket.Ticket.{Ticket}
use Rattle.lnbd_board.specs.declared.ticket.Ticket.TheVariants as ticket
use Rattle.lnbd_board.specs.Requests.{Said, Request, own, is_of, unanswered, said_unanswered, Each, waiting, asking, Answers}
use Rattle.lnbd_board.specs.Pieces.{Piece, spell, spell1, ask_of, is_passed, wrote, IsDense, kind_of, zeroing_kind}
use Rattle.lnbd_board.specs.Rows.{is_busy, busy, IsRead, KnownBy, IsReading, IsEnding, IsHere, IsHeld, IsWritten, IsOver, StandsAt, StandsAs, slice_at, IsInside, AsksOfSource, AsksOfDestination, IsChange, IsZeroed, Stands}
use Rattle.lnbd_board.proofs.Lists.{eq_true, eq_false, not_same, Each-append, Each-map, own_asking, own_asking_other, own_answers, own_answers_other, each_answers, unanswered_asking, unanswered_answers}
use Rattle.lnbd_board.proofs.Spelling.{ask_kind, has_piece, spell_more, wrote_more, wrote_idle, suits_piece}

-- The number of busy rows.

abbrev pub busy1 : Row → ℕ
busy1 row = cond (is_busy row.stage) 1 0

pub busy_last : (i : ℕ) (row : Row) (xs : List (ℕ × Row)) → busy (xs ++ (i, row) ∷ []) ≡ busy xs + busy1 row
busy_last i row [] = omega arith
busy_last i row (x ∷ xs) = let e = busy_last i row xs in omega (arith, e)

pub busy_with : (i : ℕ) (old new : Row) (xs : List (ℕ × Row)) → value_at i xs ≡ Some old → busy (with_value i new xs) + busy1 old ≡ busy xs + busy1 new
busy_with i old new [] h = absurd (cc)
busy_with i old new (x ∷ xs) h = let e : value_at i xs ≡ Some old → busy (with_value i new xs) + busy1 old ≡ busy xs + busy1 new = busy_with i old new xs in grind (arith, common_steps)

pub busy_without : (i : ℕ) (old : Row) (xs : List (ℕ × Row)) → value_at i xs ≡ Some old → busy (without i xs) + busy1 old ≡ busy xs
busy_without i old [] h = absurd (cc)
busy_without i old (x ∷ xs) h = let e : value_at i xs ≡ Some old → busy (without i xs) + busy1 old ≡ busy xs = busy_without i old xs in grind (arith, common_steps)

pub busy_few : (xs : List (ℕ × Row)) → busy xs ≤ length xs
busy_few [] = omega arith
busy_few (x ∷ xs) = let e = busy_few xs in elim (is_busy x.1.stage) as (λ b. cond b 1 0 + busy xs ≤ length (x ∷ xs)) [ true ↦ omega (arith, e) | false ↦ omega (arith, e) ]

-- a row that is busy counts
pub busy_some : (i : ℕ) (row : Row) (xs : List (ℕ × Row)) → value_at i xs ≡ Some row → is_busy row.stage ≡ true → 0 < busy xs
busy_some i row [] h b = absurd (cc)
busy_some i row (x ∷ xs) h b = let e : value_at i xs ≡ Some row → is_busy row.stage ≡ true → 0 < busy xs = busy_some i row xs in grind (arith, common_steps)

-- What was said for one slice.

pub known_idle : (z : Bool) (s : Slice) (bytes : List ℕ) (read : List Said) → KnownBy z s bytes read → said_unanswered read ≡ 0
known_idle true s bytes read k = rw k.1 refl
known_idle false s bytes read k = rw k.one refl

pub read_done : (how : How) (n : ℕ) (s : Slice) (buf : List ℕ) (source source2 : List Request) (changed : List Said) → IsReading s (own n source) changed → Answers (ticket.Slice n) buf source source2 → IsHere s buf (own n source2) changed
read_done how n s buf source source2 changed h a =
    let k = own_answers n buf source source2 [] h.asked.command a h.asked.one refl in
    let by_read : IsRead s (Done buf) (own n source2) = record { command = h.asked.command; kind = h.asked.kind; start = h.asked.start; size = h.asked.size; one = k.0 } in
    record {
      known = record { by = subst (λ (b : Bool). KnownBy b s buf (own n source2)) (sym h.data_) by_read; size = k.1.read (ap is_read h.asked.kind) ∙ h.asked.size };
      unchanged = h.unchanged;
      data_ = h.data_;
    }

pub last_done : (how : How) (n : ℕ) (s : Slice) (buf : List ℕ) (destination destination2 : List Request) (read : List Said) → IsEnding how s read (own n destination) → Answers (ticket.Slice n) buf destination destination2 → IsOver how s read (own n destination2)
last_done how n s buf destination destination2 read h a =
    let k = own_answers n buf destination destination2 (wrote how s.start h.did) (ask_of how (s.start + length (spell h.did)) h.now) a h.asked (wrote_idle how s.start h.did) in
    record {
      bytes = h.bytes;
      known = h.known;
      did = h.did ++ h.now ∷ [];
      spelt = spell_more h.did h.now ∙ h.spelt;
      asked = k.0 ∙ (ap (λ x. wrote how s.start h.did ++ x ∷ []) (suits_piece how (s.start + length (spell h.did)) h.now buf k.1) ∙ sym (wrote_more how s.start (s.start + length (spell h.did)) h.did h.now h.kept refl));
      one = λ z. record { piece = h.now; is = ap (λ (l : List Piece). l ++ h.now ∷ []) (h.alone z).0; kept = h.kept; kind = (h.alone z).1 };
      cut = h.cut;
    }

pub write_done : (how : How) (n : ℕ) (s : Slice) (bytes : List ℕ) (left : List Slice) (buf : List ℕ) (destination destination2 : List Request) (read : List Said) →
    IsWritten how s bytes left read (own n destination) → Answers (ticket.Slice n) buf destination destination2 → IsHeld how s bytes left read (own n destination2)
write_done how n s bytes left buf destination destination2 read h a =
    let k = own_answers n buf destination destination2 (wrote how s.start h.did) (ask_of how (s.start + length (spell h.did)) h.now) a h.asked (wrote_idle how s.start h.did) in
    record {
      known = h.known;
      at = h.to;
      did = h.did ++ h.now ∷ [];
      spelt = spell_more h.did h.now ∙ h.next;
      fits = h.fits;
      asked = k.0 ∙ (ap (λ x. wrote how s.start h.did ++ x ∷ []) (suits_piece how (s.start + length (spell h.did)) h.now buf k.1) ∙ sym (wrote_more how s.start (s.start + length (spell h.did)) h.did h.now h.kept refl));
      rest = h.rest;
      data_ = h.data_;
      cut = h.cut;
    }

-- The steps of the whole.

-- only one slice is stood otherwise
one_slice : (how : How) (slices : List Slice) (i : ℕ) (rows rows2 : List (ℕ × Row)) (source source2 destination destination2 : List Request) →
    ((j : ℕ) → j ≢ i → value_at j rows2 ≡ value_at j rows) → ((j : ℕ) → j ≢ i → own j source2 ≡ own j source) → ((j : ℕ) → j ≢ i → own j destination2 ≡ own j destination) →
    ((j : ℕ) → j < length slices → StandsAs how (slice_at slices j) (value_at j rows) (own j source) (own j destination)) → StandsAs how (slice_at slices i) (value_at i rows2) (own i source2) (own i destination2) →
    (j : ℕ) → j < length slices → StandsAs how (slice_at slices j) (value_at j rows2) (own j source2) (own j destination2)
one_slice how slices i rows rows2 source source2 destination destination2 f g h old new j l =
    elim (j == i) as (λ b. (j == i) ≡ b → StandsAs how (slice_at slices j) (value_at j rows2) (own j source2) (own j destination2)) [
      | true ↦ λ e. subst (λ (k : ℕ). StandsAs how (slice_at slices k) (value_at k rows2) (own k source2) (own k destination2)) (sym (eq_true i j e)) new
      | false ↦ λ e. let n = eq_false i j e in rw (f j n, g j n, h j n) (old j l)
    ] refl

-- what was asked of a slice that has a row
pub row_stands : (how : How) (slices : List Slice) (i : ℕ) (row : Row) (rows : List (ℕ × Row)) (source destination : List Request) → Stands how slices rows source destination → value_at i rows ≡ Some row →
    (i < length slices) × (row.slice ≡ slice_at slices i) × StandsAt how (slice_at slices i) row.stage (own i source) (own i destination)
row_stands how slices i row rows source destination stands h =
    let l = IsBelow_at (length slices) i row rows stands.below h in
    let k : StandsAs how (slice_at slices i) (value_at i rows) (own i source) (own i destination) = stands.each i l in
    let m = rw h at k in
    (l, m.0, m.1)

-- A row takes another stage, where what was asked for its slice fits.
pub restaged : (how : How) (slices : List Slice) (i : ℕ) (row new : Row) (rows : List (ℕ × Row)) (source source2 destination destination2 : List Request) →
    Stands how slices rows source destination → value_at i rows ≡ Some row → new.slice ≡ row.slice →
    ((j : ℕ) → j ≢ i → own j source2 ≡ own j source) → ((j : ℕ) → j ≢ i → own j destination2 ≡ own j destination) →
    StandsAt how (slice_at slices i) new.stage (own i source2) (own i destination2) →
    Each (λ r. AsksOfSource slices r.ticket r.said.command) source2 → Each (λ r. AsksOfDestination how slices r.ticket r.said.command) destination2 →
    unanswered source2 + unanswered destination2 + busy1 row ≡ unanswered source + unanswered destination + busy1 new →
    Stands how slices (with_value i new rows) source2 destination2
restaged how slices i row new rows source source2 destination destination2 stands held same f g now reads changes count =
    let r = row_stands how slices i row rows source destination stands held in
    record {
      each = one_slice how slices i rows (with_value i new rows) source source2 destination destination2 (λ j n. value_at_with_other j i new rows n) f g stands.each (rw (value_at_with i row new rows held) (same ∙ r.1, now));
      reads = reads;
      changes = changes;
      rising = IsRising_with i new rows stands.rising;
      below = IsBelow_with (length slices) i new rows stands.below;
      counted = let c = stands.counted in let d = busy_with i row new rows held in omega (arith, c, d, count);
    }

-- A row is taken off the board.
pub ended : (how : How) (slices : List Slice) (i : ℕ) (row : Row) (rows : List (ℕ × Row)) (source destination : List Request) →
    Stands how slices rows source destination → value_at i rows ≡ Some row → is_busy row.stage ≡ false → IsOver how (slice_at slices i) (own i source) (own i destination) →
    Stands how slices (without i rows) source destination
ended how slices i row rows source destination stands held idle over =
    record {
      each = one_slice how slices i rows (without i rows) source source destination destination (λ j n. value_at_without_other j i rows n) (λ j n. refl) (λ j n. refl) stands.each (rw (value_at_without i rows stands.rising) over);
      reads = stands.reads;
      changes = stands.changes;
      rising = IsRising_without i rows stands.rising;
      below = IsBelow_without (length slices) i rows stands.below;
      counted = let c = stands.counted in let d = busy_without i row rows held in let z : busy1 row ≡ 0 = rw idle refl in omega (arith, c, d, z);
    }

-- A read comes back.
pub read_came : (how : How) (slices : List Slice) (i : ℕ) (row : Row) (buf : List ℕ) (rows : List (ℕ × Row)) (source source2 destination : List Request) →
    Stands how slices rows source destination → value_at i rows ≡ Some row → row.stage ≡ Reading → Answers (ticket.Slice i) buf source source2 →
    Stands how slices (with_value i (record row { stage = Came buf }) rows) source2 destination
read_came how slices i row buf rows source source2 destination stands held stage a =
    let r = row_stands how slices i row rows source destination stands held in
    let k : StandsAt how (slice_at slices i) Reading (own i source) (own i destination) = rw stage at r.2 in
    let u = unanswered_answers i buf source source2 a in
    let z : busy1 row ≡ 1 = rw stage refl in
    restaged how slices i row (record row { stage = Came buf }) rows source source2 destination destination stands held refl
    (λ j n. own_answers_other i j buf source source2 n a) (λ j n. refl)
    (read_done how i (slice_at slices i) buf source source2 (own i destination) k a)
    (each_answers (AsksOfSource slices) (ticket.Slice i) buf source source2 a stands.reads) stands.changes (omega (arith, u, z))

-- The write of a whole slice comes back.
pub last_came : (how : How) (slices : List Slice) (i : ℕ) (row : Row) (buf : List ℕ) (rows : List (ℕ × Row)) (source destination destination2 : List Request) →
    Stands how slices rows source destination → value_at i rows ≡ Some row → row.stage ≡ Last → Answers (ticket.Slice i) buf destination destination2 →
    Stands how slices (with_value i (record row { stage = Finished buf }) rows) source destination2
last_came how slices i row buf rows source destination destination2 stands held stage a =
    let r = row_stands how slices i row rows source destination stands held in
    let k : StandsAt how (slice_at slices i) Last (own i source) (own i destination) = rw stage at r.2 in
    let u = unanswered_answers i buf destination destination2 a in
    let z : busy1 row ≡ 1 = rw stage refl in
    restaged how slices i row (record row { stage = Finished buf }) rows source source destination destination2 stands held refl
    (λ j n. refl) (λ j n. own_answers_other i j buf destination destination2 n a)
    (last_done how i (slice_at slices i) buf destination destination2 (own i source) k a)
    stands.reads (each_answers (AsksOfDestination how slices) (ticket.Slice i) buf destination destination2 a stands.changes) (omega (arith, u, z))

-- A piece that was written comes back.
pub write_came : (how : How) (slices : List Slice) (i : ℕ) (row : Row) (buf bytes : List ℕ) (left : List Slice) (rows : List (ℕ × Row)) (source destination destination2 : List Request) →
    Stands how slices rows source destination → value_at i rows ≡ Some row → row.stage ≡ Writing bytes left → Answers (ticket.Slice i) buf destination destination2 →
    Stands how slices (with_value i (record row { stage = Holding bytes left }) rows) source destination2
write_came how slices i row buf bytes left rows source destination destination2 stands held stage a =
    let r = row_stands how slices i row rows source destination stands held in
    let k : StandsAt how (slice_at slices i) (Writing bytes left) (own i source) (own i destination) = rw stage at r.2 in
    let u = unanswered_answers i buf destination destination2 a in
    let z : busy1 row ≡ 1 = rw stage refl in
    restaged how slices i row (record row { stage = Holding bytes left }) rows source source destination destination2 stands held refl
    (λ j n. refl) (λ j n. own_answers_other i j buf destination destination2 n a)
    (write_done how i (slice_at slices i) bytes left buf destination destination2 (own i source) k a)
    stands.reads (each_answers (AsksOfDestination how slices) (ticket.Slice i) buf destination destination2 a stands.changes) (omega (arith, u, z))

-- A row that has nothing under way still has nothing, and nothing is asked.
pub regarded : (how : How) (slices : List Slice) (i : ℕ) (row new : Row) (rows : List (ℕ × Row)) (source destination : List Request) →
    Stands how slices rows source destination → value_at i rows ≡ Some row → new.slice ≡ row.slice → is_busy row.stage ≡ false → is_busy new.stage ≡ false →
    (StandsAt how (slice_at slices i) row.stage (own i source) (own i destination) → StandsAt how (slice_at slices i) new.stage (own i source) (own i destination)) →
    Stands how slices (with_value i new rows) source destination
regarded how slices i row new rows source destination stands held same idle idle2 f =
    let r = row_stands how slices i row rows source destination stands held in
    let z : busy1 row ≡ 0 = rw idle refl in
    let z2 : busy1 new ≡ 0 = rw idle2 refl in
    restaged how slices i row new rows source source destination destination stands held same (λ j n. refl) (λ j n. refl) (f r.2) stands.reads stands.changes (omega (arith, z, z2))

-- A row that has nothing under way asks for a change.
pub asked : (how : How) (slices : List Slice) (i link cookie : ℕ) (row new : Row) (command : Command Nobody) (rows : List (ℕ × Row)) (source destination : List Request) →
    Stands how slices rows source destination → value_at i rows ≡ Some row → new.slice ≡ row.slice → is_busy row.stage ≡ false → is_busy new.stage ≡ true →
    (StandsAt how (slice_at slices i) row.stage (own i source) (own i destination) → StandsAt how (slice_at slices i) new.stage (own i source) (own i destination ++ waiting command ∷ [])) →
    AsksOfDestination how slices (ticket.Slice i) command →
    Stands how slices (with_value i new rows) source (asking link cookie (ticket.Slice i) command destination)
asked how slices i link cookie row new command rows source destination stands held same idle busy_ f lawful =
    let r = row_stands how slices i row rows source destination stands held in
    let z : busy1 row ≡ 0 = rw idle refl in
    let z2 : busy1 new ≡ 1 = rw busy_ refl in
    let u = unanswered_asking i link cookie command destination in
    restaged how slices i row new rows source source destination (asking link cookie (ticket.Slice i) command destination) stands held same (λ j n. refl) (λ j n. own_asking_other i j link cookie command destination n)
    (rw (own_asking i link cookie command destination) (f r.2))
    stands.reads (Each-append (λ (r : Request). AsksOfDestination how slices r.ticket r.said.command) destination _ stands.changes (lawful, tt)) (omega (arith, z, z2, u))

-- A slice more.

-- what lies in slices lies in them when there are more
inside_more : (slices more : List Slice) (n : ℕ) (command : Command Nobody) → IsInside slices n command → IsInside (slices ++ more) n command
inside_more slices more n command h =
    let l = length-append slices more in
    let b = h.begun in
    let e : slice_at (slices ++ more) n ≡ slice_at slices n = get_or-append slices more (record { start = 0; length = 0; zero = false }) n h.begun in
    record { begun = omega (arith, l, b); inside = λ p k. rw e (h.inside p k) }

source_more : (slices more : List Slice) (by : Ticket) (command : Command Nobody) → AsksOfSource slices by command → AsksOfSource (slices ++ more) by command
source_more slices more (ticket.Slice n) command h =
    let e : slice_at (slices ++ more) n ≡ slice_at slices n = get_or-append slices more (record { start = 0; length = 0; zero = false }) n h.1.begun in
    (h.0, inside_more slices more n command h.1, h.2, ap (λ (s : Slice). s.zero) e ∙ h.3)
source_more slices more ticket.Extents command h = h
source_more slices more ticket.Flush command h = h

destination_more : (how : How) (slices more : List Slice) (by : Ticket) (command : Command Nobody) → AsksOfDestination how slices by command → AsksOfDestination how (slices ++ more) by command
destination_more how slices more (ticket.Slice n) command h =
    let e : slice_at (slices ++ more) n ≡ slice_at slices n = get_or-append slices more (record { start = 0; length = 0; zero = false }) n h.1.begun in
    (h.0, inside_more slices more n command h.1, h.2, subst (λ (s : Slice). IsZeroed how s command) (sym e) h.3)
destination_more how slices more ticket.Extents command h = h
destination_more how slices more ticket.Flush command h = h

-- nothing was asked for a number that no slice has yet
fresh_source : (slices : List Slice) (n : ℕ) (by : Ticket) (command : Command Nobody) → length slices ≤ n → AsksOfSource slices by command → is_of n by ≡ false
fresh_source slices n (ticket.Slice m) command l k = let b = k.1.begun in not_same m n (omega (arith, l, b))
fresh_source slices n ticket.Extents command l k = refl
fresh_source slices n ticket.Flush command l k = refl

pub own_source : (slices : List Slice) (n : ℕ) (xs : List Request) → length slices ≤ n → Each (λ r. AsksOfSource slices r.ticket r.said.command) xs → own n xs ≡ []
own_source slices n [] l h = refl
own_source slices n (x ∷ xs) l h = rw (fresh_source slices n x.ticket x.said.command l h.0) (own_source slices n xs l h.1)

fresh_destination : (how : How) (slices : List Slice) (n : ℕ) (by : Ticket) (command : Command Nobody) → length slices ≤ n → AsksOfDestination how slices by command → is_of n by ≡ false
fresh_destination how slices n (ticket.Slice m) command l k = let b = k.1.begun in not_same m n (omega (arith, l, b))
fresh_destination how slices n ticket.Extents command l k = refl
fresh_destination how slices n ticket.Flush command l k = refl

pub own_destination : (how : How) (slices : List Slice) (n : ℕ) (xs : List Request) → length slices ≤ n → Each (λ r. AsksOfDestination how slices r.ticket r.said.command) xs → own n xs ≡ []
own_destination how slices n [] l h = refl
own_destination how slices n (x ∷ xs) l h = rw (fresh_destination how slices n x.ticket x.said.command l h.0) (own_destination how slices n xs l h.1)

last_is : (slices : List Slice) (s : Slice) → slice_at (slices ++ s ∷ []) (length slices) ≡ s
last_is [] s = refl
last_is (x ∷ slices) s = last_is slices s

either_end : (n j : ℕ) → j < n + 1 → (j < n) ⊎ (j ≡ n)
either_end n j l = elim (cases_lt j n) [ inl k ↦ inl k | inr k ↦ inr (omega (arith, l, k)) ]

-- The next slice begins.
pub began : (how : How) (slices : List Slice) (n : ℕ) (s : Slice) (row : Row) (rows : List (ℕ × Row)) (source source2 destination destination2 : List Request) → n ≡ length slices →
    Stands how slices rows source destination → row.slice ≡ s →
    ((j : ℕ) → j ≢ n → own j source2 ≡ own j source) → ((j : ℕ) → j ≢ n → own j destination2 ≡ own j destination) →
    StandsAt how s row.stage (own n source2) (own n destination2) →
    Each (λ r. AsksOfSource (slices ++ s ∷ []) r.ticket r.said.command) source2 → Each (λ r. AsksOfDestination how (slices ++ s ∷ []) r.ticket r.said.command) destination2 →
    unanswered source2 + unanswered destination2 ≡ unanswered source + unanswered destination + busy1 row →
    Stands how (slices ++ s ∷ []) (rows ++ (n, row) ∷ []) source2 destination2
began how slices n s row rows source source2 destination destination2 len stands same f g now reads changes count =
    let below : IsBelow rows n = subst (λ (m : ℕ). IsBelow rows m) (sym len) stands.below in
    let more : length (slices ++ s ∷ []) ≡ n + 1 = length-append slices (s ∷ []) ∙ omega (arith, len) in
    let is : slice_at (slices ++ s ∷ []) n ≡ s = subst (λ (m : ℕ). slice_at (slices ++ s ∷ []) m ≡ s) (sym len) (last_is slices s) in
    record {
      each = λ j l. elim (either_end n j (omega (arith, l, more))) [
        | inl k ↦
            let e : slice_at (slices ++ s ∷ []) j ≡ slice_at slices j = get_or-append slices (s ∷ []) (record { start = 0; length = 0; zero = false }) j (omega (arith, k, len)) in
            let d : j ≢ n = omega (arith, k) in
            rw (e, value_at_last_other j n row rows d, f j d, g j d) (stands.each j (omega (arith, k, len)))
        | inr k ↦ subst (λ (m : ℕ). StandsAs how (slice_at (slices ++ s ∷ []) m) (value_at m (rows ++ (n, row) ∷ [])) (own m source2) (own m destination2)) (sym k)
            (rw (is, value_at_last n row rows below) (same, now))
      ];
      reads = reads;
      changes = changes;
      rising = IsRising_append n row rows stands.rising below;
      below = subst (λ (m : ℕ). IsBelow (rows ++ (n, row) ∷ []) m) (sym more) (IsBelow_append (n + 1) n row rows (IsBelow_less n (n + 1) rows (omega arith) below) (omega arith));
      counted = let c = stands.counted in let d = busy_last n row rows in omega (arith, c, d, count);
    }

-- It begins to be read.
pub began_read : (how : How) (slices : List Slice) (n link cookie : ℕ) (s : Slice) (row : Row) (command : Command Nobody) (rows : List (ℕ × Row)) (source destination : List Request) → n ≡ length slices →
    Stands how slices rows source destination → row.slice ≡ s → row.stage ≡ Reading → s.zero ≡ false → command.kind ≡ Read → command.offset ≡ s.start → command.length ≡ s.length → command.flags ≡ 0 →
    Stands how (slices ++ s ∷ []) (rows ++ (n, row) ∷ []) (asking link cookie (ticket.Slice n) command source) destination
began_read how slices n link cookie s row command rows source destination len stands same stage told kind start size plain =
    let u = unanswered_asking n link cookie command source in
    let z : busy1 row ≡ 1 = rw stage refl in
    let l = length-append slices (s ∷ []) in
    let is : slice_at (slices ++ s ∷ []) n ≡ s = subst (λ (m : ℕ). slice_at (slices ++ s ∷ []) m ≡ s) (sym len) (last_is slices s) in
    let none = own_source slices n source (omega (arith, len)) stands.reads in
    let none2 = own_destination how slices n destination (omega (arith, len)) stands.changes in
    let reading : StandsAt how s Reading (own n (asking link cookie (ticket.Slice n) command source)) (own n destination) = record {
      data_ = told;
      asked = record { command = command; kind = kind; start = start; size = size; one = own_asking n link cookie command source ∙ ap (λ x. x ++ waiting command ∷ []) none };
      unchanged = none2;
    } in
    began how slices n s row rows source (asking link cookie (ticket.Slice n) command source) destination destination len stands same
    (λ j d. own_asking_other n j link cookie command source d) (λ j d. refl)
    (rw stage reading)
    (Each-append (λ (r : Request). AsksOfSource (slices ++ s ∷ []) r.ticket r.said.command) source _ (Each-map (λ r k. source_more slices (s ∷ []) r.ticket r.said.command k) source stands.reads)
    ((kind, record { begun = omega (arith, len, l); inside = λ p h. rw is (subst (λ (m : ℕ). within (s.start, m) p ≡ true) size (subst (λ (m : ℕ). within (m, command.length) p ≡ true) start h)) }, plain, ap (λ (x : Slice). x.zero) is ∙ told), tt))
    (Each-map (λ r k. destination_more how slices (s ∷ []) r.ticket r.said.command k) destination stands.changes)
    (omega (arith, u, z))

-- It begins to be written, since its bytes are known to be zero.
pub began_zero : (how : How) (slices : List Slice) (n link cookie : ℕ) (s : Slice) (row : Row) (piece : Piece) (rows : List (ℕ × Row)) (source destination : List Request) → n ≡ length slices →
    Stands how slices rows source destination → row.slice ≡ s → row.stage ≡ Last → s.zero ≡ true → spell1 piece ≡ replicate s.length 0 → is_passed how piece ≡ false →
    IsChange how (ask_of how s.start piece) → IsDense how (ask_of how s.start piece) → kind_of piece ≡ zeroing_kind how →
    Stands how (slices ++ s ∷ []) (rows ++ (n, row) ∷ []) source (asking link cookie (ticket.Slice n) (ask_of how s.start piece) destination)
began_zero how slices n link cookie s row piece rows source destination len stands same stage told spelt kept change dense zeroed =
    let u = unanswered_asking n link cookie (ask_of how s.start piece) destination in
    let z : busy1 row ≡ 1 = rw stage refl in
    let l = length-append slices (s ∷ []) in
    let is : slice_at (slices ++ s ∷ []) n ≡ s = subst (λ (m : ℕ). slice_at (slices ++ s ∷ []) m ≡ s) (sym len) (last_is slices s) in
    let none = own_source slices n source (omega (arith, len)) stands.reads in
    let none2 = own_destination how slices n destination (omega (arith, len)) stands.changes in
    let plus : s.start + 0 ≡ s.start = omega arith in
    let many : length (spell1 piece) ≡ s.length = ap length spelt ∙ length-replicate {A = ℕ} s.length 0 in
    let ending : StandsAt how s Last (own n source) (own n (asking link cookie (ticket.Slice n) (ask_of how s.start piece) destination)) = record {
      bytes = replicate s.length 0;
      known = record { by = subst (λ (b : Bool). KnownBy b s (replicate s.length 0) (own n source)) (sym told) (refl, none); size = length-replicate {A = ℕ} s.length 0 };
      did = [];
      now = piece;
      spelt = spelt;
      kept = kept;
      asked = own_asking n link cookie (ask_of how s.start piece) destination ∙ rw (none2, plus) refl;
      alone = λ z. (refl, zeroed);
      cut = λ untold. absurd (false≢true (sym untold ∙ told));
    } in
    began how slices n s row rows source source destination (asking link cookie (ticket.Slice n) (ask_of how s.start piece) destination) len stands same
    (λ j d. refl) (λ j d. own_asking_other n j link cookie (ask_of how s.start piece) destination d)
    (rw stage ending)
    (Each-map (λ r k. source_more slices (s ∷ []) r.ticket r.said.command k) source stands.reads)
    (Each-append (λ (r : Request). AsksOfDestination how (slices ++ s ∷ []) r.ticket r.said.command) destination _ (Each-map (λ r k. destination_more how slices (s ∷ []) r.ticket r.said.command k) destination stands.changes)
    ((change, record { begun = omega (arith, len, l); inside = λ p h. rw is (subst (λ (m : ℕ). within (s.start, m) p ≡ true) many (sym (has_piece how p s.start piece) ∙ h)) }, dense, subst (λ (x : Slice). IsZeroed how x (ask_of how s.start piece)) (sym is) (λ z. ask_kind how s.start piece ∙ zeroed)), tt))
    (omega (arith, u, z))
