-- More bytes leave what was said, and let more be said.
use Rattle.std.proofs.Common.{◌≡◌, ◌∙◌, ℕ, zero, suc, ◌+◌, ◌-◌, ◌*◌, ◌<◌, ◌≤◌, ◌⊎◌, ◌&&◌, Bool, true, false, List, [], ◌∷◌}
use Rattle.std.proofs.Common.{◌++◌, length, take, drop, refl, sym, ap, subst, arith, inl, inr, append-nil, append_assoc, length-append, length-drop, nat_lt, nat_le, codes}
use Rattle.std.specs.Prelude.{if◌then◌else◌, Result, OnOk}
use Rattle.std.specs.Str.{bytes_eq}
use Rattle.std.proofs.lemmas.Bool.{cases_Bool, lt-ltb, leb-true}
use Rattle.std.proofs.lemmas.List.{drop-append-le, take-append-le, take_all, drop_all, length-take-le}
use Rattle.std.proofs.Math.Seq.{take-add}
use Rattle.lnbd_hexdump.specs.Dump.{group, group_line, is_repeat}
use Rattle.lnbd_hexdump.specs.Said.{Fed, IsAt, Kept, Stands, early_line, early_lines, gone_after, gone_text, made_room, room_text, said, settled, with_more}

pub group_stays : (bytes more : List ℕ) (k : ℕ) → 16 * (k + 1) ≤ length bytes → group (bytes ++ more) k ≡ group bytes k
group_stays bytes more k most =
    let split : drop (16 * k) (bytes ++ more) ≡ drop (16 * k) bytes ++ more = drop-append-le (16 * k) bytes more (omega arith) in
    let some : 16 ≤ length (drop (16 * k) bytes) = rw (length-drop (16 * k) bytes) (omega arith) in
    ap (λ (t : List ℕ). take 16 t) split ∙ take-append-le 16 (drop (16 * k) bytes) more some

pub repeat_stays : (bytes more : List ℕ) (k : ℕ) → 16 * (k + 1) ≤ length bytes → is_repeat (bytes ++ more) k ≡ is_repeat bytes k
repeat_stays bytes more k most =
    let here = group_stays bytes more k most in
    let there = group_stays bytes more (k - 1) (omega arith) in
    ap (λ (t : List ℕ). nat_lt 0 k && bytes_eq t (group (bytes ++ more) (k - 1))) here ∙ ap (λ (t : List ℕ). nat_lt 0 k && bytes_eq (group bytes k) t) there

pub line_stays : (first : ℕ) (bytes more : List ℕ) (k : ℕ) → 16 * (k + 1) ≤ length bytes → early_line first (bytes ++ more) k ≡ early_line first bytes k
line_stays first bytes more k most =
    let one = repeat_stays bytes more k most in
    let two = repeat_stays bytes more (k - 1) (omega arith) in
    let three = group_stays bytes more k most in
    ap (λ (b : Bool). if b then (if is_repeat (bytes ++ more) (k - 1) then [] else codes "*\n") else group_line (first + 16 * k) (group (bytes ++ more) k)) one
    ∙ ap (λ (b : Bool). if is_repeat bytes k then (if b then [] else codes "*\n") else group_line (first + 16 * k) (group (bytes ++ more) k)) two
    ∙ ap (λ (t : List ℕ). if is_repeat bytes k then (if is_repeat bytes (k - 1) then [] else codes "*\n") else group_line (first + 16 * k) t) three

pub lines_stay : (first : ℕ) (bytes more : List ℕ) (n : ℕ) → 16 * n ≤ length bytes → early_lines first (bytes ++ more) n ≡ early_lines first bytes n
lines_stay first bytes more zero most = refl
lines_stay first bytes more (suc k) most =
    let front = lines_stay first bytes more k (omega arith) in
    let last = line_stays first bytes more k (omega arith) in
    ap (λ (t : List ℕ). t ++ early_line first (bytes ++ more) k) front ∙ ap (λ (t : List ℕ). early_lines first bytes k ++ t) last

-- ---- a piece is added behind what is kept

pub adds : (first : ℕ) (bytes piece : List ℕ) (gone : ℕ) (kept : Kept) → IsAt first bytes gone kept → length kept.pending + length piece ≤ 16
    → IsAt first (bytes ++ piece) gone (with_more kept piece)
adds first bytes piece gone kept is room =
    let counted = is.count in
    record {
      at = is.at;
      count = rw (length-append bytes piece, length-append kept.pending piece) (omega arith);
      most = rw (length-append kept.pending piece) room;
      pending = ap (λ (t : List ℕ). t ++ piece) is.pending ∙ sym (drop-append-le (16 * gone) bytes piece (omega arith));
      before = is.before ∙ before gone counted;
      repeated = is.repeated ∙ repeated gone counted;
    }
  where
    before : (n : ℕ) → length bytes ≡ 16 * n + length kept.pending
        → (if nat_le n 0 then [] else group bytes (n - 1)) ≡ (if nat_le n 0 then [] else group (bytes ++ piece) (n - 1))
    before zero counted = refl
    before (suc n) counted = ap (λ (t : List ℕ). if nat_le (suc n) 0 then [] else t) (sym (group_stays bytes piece (suc n - 1) (omega arith)))

    repeated : (n : ℕ) → length bytes ≡ 16 * n + length kept.pending → is_repeat bytes (n - 1) ≡ is_repeat (bytes ++ piece) (n - 1)
    repeated zero counted = refl
    repeated (suc n) counted = sym (repeat_stays bytes piece (suc n - 1) (omega arith))

-- a whole group is no group before it, where there is none
pub none_alike : (xs : List ℕ) → 0 < length xs → bytes_eq xs [] ≡ false
none_alike [] some = absurd (omega arith)
none_alike (x ∷ xs) some = refl

-- ---- a whole group goes out

pub is_gone_group : (first : ℕ) (bytes : List ℕ) (gone : ℕ) (kept : Kept) → IsAt first bytes gone kept → group bytes gone ≡ kept.pending
is_gone_group first bytes gone kept is = ap (λ (t : List ℕ). take 16 t) (sym is.pending) ∙ take_all 16 kept.pending is.most

pub is_gone_repeat : (first : ℕ) (bytes : List ℕ) (gone : ℕ) (kept : Kept) → IsAt first bytes gone kept → 0 < length kept.pending
    → bytes_eq kept.pending kept.before ≡ is_repeat bytes gone
is_gone_repeat first bytes zero kept is some = ap (λ (t : List ℕ). bytes_eq kept.pending t) is.before ∙ none_alike kept.pending some
is_gone_repeat first bytes (suc k) kept is some =
    let here = is_gone_group first bytes (suc k) kept is in
    let there : kept.before ≡ group bytes (suc k - 1) = is.before ∙ ap (λ (b : Bool). if b then [] else group bytes (suc k - 1)) (no k) in
    ap (λ (t : List ℕ). bytes_eq kept.pending t) there
    ∙ ap (λ (t : List ℕ). bytes_eq t (group bytes (suc k - 1))) (sym here)
    ∙ ap (λ (b : Bool). b && bytes_eq (group bytes (suc k)) (group bytes (suc k - 1))) (sym (yes k))
  where
    no : (n : ℕ) → nat_le (suc n) 0 ≡ false
    no n = grind (arith)

    yes : (n : ℕ) → nat_lt 0 (suc n) ≡ true
    yes n = lt-ltb 0 (suc n) (omega arith)

pub leaves : (first : ℕ) (bytes : List ℕ) (gone : ℕ) (kept : Kept) → IsAt first bytes gone kept → length kept.pending ≡ 16
    → IsAt first bytes (gone + 1) (gone_after kept)
leaves first bytes gone kept is whole =
    let counted = is.count in
    let placed = is.at in
    let back : (gone + 1) - 1 ≡ gone = omega arith in
    let some : nat_le (gone + 1) 0 ≡ false = grind (arith) in
    record {
      at = omega arith;
      count = omega arith;
      most = omega arith;
      pending = sym (drop_all (16 * (gone + 1)) bytes (omega arith));
      before = rw (some, back) (sym (is_gone_group first bytes gone kept is));
      repeated = rw back (is_gone_repeat first bytes gone kept is (omega arith));
    }

pub gone_line : (first : ℕ) (bytes : List ℕ) (gone : ℕ) (kept : Kept) → IsAt first bytes gone kept → length kept.pending ≡ 16
    → early_line first bytes gone ≡ gone_text kept
gone_line first bytes gone kept is whole =
    let same = is_gone_repeat first bytes gone kept is (omega arith) in
    let here = is_gone_group first bytes gone kept is in
    ap (λ (b : Bool). if b then (if is_repeat bytes (gone - 1) then [] else codes "*\n") else group_line (first + 16 * gone) (group bytes gone)) (sym same)
    ∙ ap (λ (b : Bool). if bytes_eq kept.pending kept.before then (if b then [] else codes "*\n") else group_line (first + 16 * gone) (group bytes gone)) (sym is.repeated)
    ∙ ap (λ (t : List ℕ). if bytes_eq kept.pending kept.before then (if kept.repeated then [] else codes "*\n") else group_line (first + 16 * gone) t) here
    ∙ ap (λ (n : ℕ). if bytes_eq kept.pending kept.before then (if kept.repeated then [] else codes "*\n") else group_line n kept.pending) (sym is.at)

-- one line more
pub one_more : (first : ℕ) (bytes : List ℕ) (k : ℕ) → early_lines first bytes (k + 1) ≡ early_lines first bytes k ++ early_line first bytes k
one_more first bytes k = let e : k + 1 ≡ suc k = omega arith in ap (λ (n : ℕ). early_lines first bytes n) e

-- ---- a piece that fits behind it

next : (n p gone : ℕ) → n ≡ 16 * gone + 16 → 0 < p → p ≤ 16 → settled (n + p) ≡ gone + 1
next n p gone e some most = omega arith

same : (n q p gone : ℕ) → n ≡ 16 * gone + q → 0 < p → q + p ≤ 16 → settled (n + p) ≡ gone
same n q p gone e some most = omega arith

-- what is said where so many groups are settled
pub said_as : (first : ℕ) (bytes : List ℕ) (n : ℕ) → settled (length bytes) ≡ n → said first bytes ≡ early_lines first bytes n
unfolding said
said_as first bytes n e = ap (λ (k : ℕ). early_lines first bytes k) e

pub feeds : (first : ℕ) (bytes piece : List ℕ) (kept : Kept) → Stands first bytes kept → 0 < length piece → length (made_room kept).pending + length piece ≤ 16
    → Stands first (bytes ++ piece) (with_more (made_room kept) piece) × (said first (bytes ++ piece) ≡ said first bytes ++ room_text kept)
feeds first bytes piece kept is some = go (cases_Bool (nat_le 16 (length kept.pending)))
  where
    gone : ℕ
    gone = settled (length bytes)

    go : ((nat_le 16 (length kept.pending) ≡ true) ⊎ (nat_le 16 (length kept.pending) ≡ false)) → length (made_room kept).pending + length piece ≤ 16
        → Stands first (bytes ++ piece) (with_more (made_room kept) piece) × (said first (bytes ++ piece) ≡ said first bytes ++ room_text kept)
    go (inl full) room =
        let most = is.most in
        let least = leb-true 16 (length kept.pending) full in
        let whole : length kept.pending ≡ 16 = omega arith in
        let counted = is.count in
        let left = leaves first bytes gone kept is whole in
        let made : made_room kept ≡ gone_after kept = ap (λ (b : Bool). if b then gone_after kept else kept) full in
        let fit : 0 + length piece ≤ 16 = subst (λ (k : Kept). length k.pending + length piece ≤ 16) made room in
        let fits : length piece ≤ 16 = omega arith in
        let n : settled (length (bytes ++ piece)) ≡ gone + 1 = rw (length-append bytes piece) (next (length bytes) (length piece) gone (omega arith) some fits) in
        let added = adds first bytes piece (gone + 1) (gone_after kept) left fit in
        let stands : IsAt first (bytes ++ piece) (settled (length (bytes ++ piece))) (with_more (gone_after kept) piece) =
        subst (λ (k : ℕ). IsAt first (bytes ++ piece) k (with_more (gone_after kept) piece)) (sym n) added in
        let text : room_text kept ≡ gone_text kept = ap (λ (b : Bool). if b then gone_text kept else []) full in
        let front = lines_stay first bytes piece gone (omega arith) in
        let last = line_stays first bytes piece gone (omega arith) ∙ gone_line first bytes gone kept is whole in
        let lines : early_lines first (bytes ++ piece) (gone + 1) ≡ early_lines first bytes gone ++ gone_text kept =
        one_more first (bytes ++ piece) gone ∙ ap (λ (t : List ℕ). t ++ early_line first (bytes ++ piece) gone) front ∙ ap (λ (t : List ℕ). early_lines first bytes gone ++ t) last in
        let told = said_as first (bytes ++ piece) (gone + 1) n ∙ lines
        ∙ ap (λ (t : List ℕ). early_lines first bytes gone ++ t) (sym text) ∙ ap (λ (t : List ℕ). t ++ room_text kept) (sym (said_as first bytes gone refl)) in
        (subst (λ (k : Kept). IsAt first (bytes ++ piece) (settled (length (bytes ++ piece))) (with_more k piece)) (sym made) stands, told)
    go (inr lacks) room =
        let counted = is.count in
        let made : made_room kept ≡ kept = ap (λ (b : Bool). if b then gone_after kept else kept) lacks in
        let fits : length kept.pending + length piece ≤ 16 = subst (λ (k : Kept). length k.pending + length piece ≤ 16) made room in
        let n : settled (length (bytes ++ piece)) ≡ gone = rw (length-append bytes piece) (same (length bytes) (length kept.pending) (length piece) gone counted some fits) in
        let added = adds first bytes piece gone kept is fits in
        let stands : IsAt first (bytes ++ piece) (settled (length (bytes ++ piece))) (with_more kept piece) =
        subst (λ (k : ℕ). IsAt first (bytes ++ piece) k (with_more kept piece)) (sym n) added in
        let text : room_text kept ≡ [] = ap (λ (b : Bool). if b then gone_text kept else []) lacks in
        let front = lines_stay first bytes piece gone (omega arith) in
        let told = said_as first (bytes ++ piece) gone n ∙ front ∙ sym (said_as first bytes gone refl) ∙ sym (append-nil (said first bytes)) ∙ ap (λ (t : List ℕ). said first bytes ++ t) (sym text) in
        (subst (λ (k : Kept). IsAt first (bytes ++ piece) (settled (length (bytes ++ piece))) (with_more k piece)) (sym made) stands, told)

-- ---- pieces one after another

pub fed_none : (kept : Kept) (text : List ℕ) → Fed kept kept [] text text
fed_none kept text first bytes is = (
  subst (λ (t : List ℕ). Stands first t kept) (sym (append-nil bytes)) is,
  record { part = []; text_is = sym (append-nil text); said_is = ap (λ (t : List ℕ). said first t) (append-nil bytes) ∙ sym (append-nil (said first bytes)) },
)

pub fed_then : (kept between after : Kept) (more rest text text' text'' : List ℕ) → Fed kept between more text text' → Fed between after rest text' text''
    → Fed kept after (more ++ rest) text text''
fed_then kept between after more rest text text' text'' one two first bytes is =
    let a = one first bytes is in
    let b = two first (bytes ++ more) a.0 in
    let whole : (bytes ++ more) ++ rest ≡ bytes ++ (more ++ rest) = append_assoc bytes more rest in (
      subst (λ (t : List ℕ). Stands first t after) whole b.0,
      record {
        part = a.1.part ++ b.1.part;
        text_is = b.1.text_is ∙ ap (λ (t : List ℕ). t ++ b.1.part) a.1.text_is ∙ append_assoc text a.1.part b.1.part;
        said_is = ap (λ (t : List ℕ). said first t) (sym whole) ∙ b.1.said_is ∙ ap (λ (t : List ℕ). t ++ b.1.part) a.1.said_is ∙ append_assoc (said first bytes) a.1.part b.1.part;
      },
    )

pub fed_one : (kept : Kept) (piece text : List ℕ) → 0 < length piece → length (made_room kept).pending + length piece ≤ 16
    → Fed kept (with_more (made_room kept) piece) piece text (text ++ room_text kept)
fed_one kept piece text some fits first bytes is =
    let a = feeds first bytes piece kept is some fits in
    (a.0, record { part = room_text kept; text_is = refl; said_is = a.1 })

-- a front of what is left comes behind what came
pub fed_front : (kept between after : Kept) (bytes : List ℕ) (at n : ℕ) (text text' text'' : List ℕ) → Fed kept between (take at bytes) text text'
    → 0 < n → n ≤ length (drop at bytes) → length (made_room between).pending + n ≤ 16
    → after ≡ with_more (made_room between) (take n (drop at bytes)) → text'' ≡ text' ++ room_text between
    → Fed kept after (take (at + n) bytes) text text''
fed_front kept between after bytes at n text text' text'' one some most fits e f =
    let long : length (take n (drop at bytes)) ≡ n = length-take-le n (drop at bytes) most in
    let two : Fed between (with_more (made_room between) (take n (drop at bytes))) (take n (drop at bytes)) text' (text' ++ room_text between) =
    fed_one between (take n (drop at bytes)) text' (rw long some) (rw long fits) in
    let three : Fed between after (take n (drop at bytes)) text' text'' =
    subst (λ (t : List ℕ). Fed between after (take n (drop at bytes)) text' t) (sym f) (subst (λ (k : Kept). Fed between k (take n (drop at bytes)) text' (text' ++ room_text between)) (sym e) two) in
    subst (λ (t : List ℕ). Fed kept after t text text'') (sym (take-add at n bytes)) (fed_then kept between after (take at bytes) (take n (drop at bytes)) text text' text'' one three)

pub fed_all : (kept after : Kept) (bytes : List ℕ) (at : ℕ) (text text' : List ℕ) → Fed kept after (take at bytes) text text' → length bytes ≤ at → Fed kept after bytes text text'
fed_all kept after bytes at text text' one most = subst (λ (t : List ℕ). Fed kept after t text text') (take_all at bytes most) one

pub fed_as : {E : Type 0} (r : Result (Unit {0}) E) (kept after : Kept) (more more' text text' : List ℕ) → more ≡ more'
    → OnOk r (Fed kept after more text text') → OnOk r (Fed kept after more' text text')
fed_as r kept after more more' text text' e told = subst (λ (t : List ℕ). OnOk r (Fed kept after t text text')) e told
