-- A request's body by its fields and by what stands where asks the same.
use Rattle.std.proofs.Common.{◌≡◌, ℕ, zero, suc, ◌+◌, ◌*◌, ◌^◌, ◌<◌, ◌≤◌, Bool, true, false, ◌&&◌, List, [], ◌∷◌, ◌++◌, length, map, take, drop, get_or, Option, Some, None, refl, sym, ap, subst, ◌∙◌, arith, nat_le, ◌==◌, append_assoc, length-append, length-drop, length-take}
use Rattle.std.specs.Prelude.{All}
use Rattle.std.proofs.lemmas.List.{take-append-drop, drop-drop}
use Rattle.byteorder.specs.Endian.{big_bytes}
use Rattle.lnbd_records.specs.Numbers.{number, row, AllFit, IsBytes, IsRowThen, number_at, counted}
use Rattle.lnbd_records.specs.Requests.{all_counted, information_types, info_request, meta_request, Asked, Name, Info, Meta, Plain, is_info, has_no_data, Asks, types_in, texts_in, info_asked, meta_asked, asked_of}
use Rattle.lnbd_records.proofs.Basics.{le_true, le_of, eq_of, both_of, parts, nothing, same_true}
use Rattle.lnbd_records.proofs.NumberLaws.{then_reads, reads_then, length-row, row-append, row-one, bytes_of_drop}

-- Bytes behind their length, and what follows them.
record Counted (bytes one rest : List ℕ) : Type 0 where
  size : number_at 0 4 bytes ≡ length one
  first : take (number_at 0 4 bytes) (drop 4 bytes) ≡ one
  behind : drop (4 + number_at 0 4 bytes) bytes ≡ rest
  long : length bytes ≡ 4 + length one + length rest

read_counted : (bytes one rest : List ℕ) → length one < 2 ^ 32 → bytes ≡ counted one ++ rest → Counted bytes one rest
read_counted bytes one rest h e =
    let r : IsRowThen (number 4 (length one) ∷ []) (one ++ rest) bytes = record { fit = (h, tt); spelled = e ∙ append_assoc (row (number 4 (length one) ∷ [])) one rest } in
    let read = then_reads (number 4 (length one) ∷ []) (one ++ rest) bytes r in
    let n : number_at 0 4 bytes ≡ length one = let f = read.fields in cc in
    let p = parts (number_at 0 4 bytes) bytes one rest n read.behind in
    let all : length bytes ≡ 4 + length (one ++ rest) = read.size in
    record { size = n; first = p.0; behind = p.1; long = omega (arith, all, length-append one rest) }

abbrev pub IsShort : List ℕ → Type 0
IsShort query = length query < 2 ^ 32

first_short : (one : List ℕ) (more : List (List ℕ)) → All IsShort (one ∷ more) → length one < 2 ^ 32
first_short one more h = h 0 [] (omega arith)

more_short : (one : List ℕ) (more : List (List ℕ)) → All IsShort (one ∷ more) → All IsShort more
more_short one more h = λ k d p. h (suc k) d (omega (arith, p))

short_first : (one : List ℕ) (more : List (List ℕ)) → length one < 2 ^ 32 → All IsShort more → All IsShort (one ∷ more)
short_first one more a h = go
  where
    go : (k : ℕ) (d : List ℕ) → k < suc (length more) → IsShort (get_or (one ∷ more) k d)
    go zero d p = a
    go (suc k) d p = h k d (omega (arith, p))

texts_counted : (queries : List (List ℕ)) (bytes : List ℕ) → All IsShort queries → bytes ≡ all_counted queries → texts_in (length queries) bytes ≡ Some queries
texts_counted [] bytes h e = rw e refl
texts_counted (one ∷ more) bytes h e =
    let r = read_counted bytes one (all_counted more) (first_short one more h) e in
    let ih = texts_counted more (drop (4 + number_at 0 4 bytes) bytes) (more_short one more h) r.behind in
    let a : nat_le 4 (length bytes) ≡ true = le_true 4 (length bytes) (omega (arith, r.long)) in
    let b : nat_le (4 + number_at 0 4 bytes) (length bytes) ≡ true = le_true (4 + number_at 0 4 bytes) (length bytes) (omega (arith, r.long, r.size)) in
    rw (a, b, ih) (ap (λ (q : List ℕ). Some (q ∷ more)) r.first)

-- some bytes behind their length stand there, and these follow
there_counted : (bytes : List ℕ) → IsBytes bytes → 4 + number_at 0 4 bytes ≤ length bytes → (length (take (number_at 0 4 bytes) (drop 4 bytes)) ≡ number_at 0 4 bytes) × (number_at 0 4 bytes < 2 ^ 32) × (bytes ≡ counted (take (number_at 0 4 bytes) (drop 4 bytes)) ++ drop (4 + number_at 0 4 bytes) bytes)
there_counted bytes h long =
    let n = number_at 0 4 bytes in
    let name = take n (drop 4 bytes) in
    let read = reads_then (4 ∷ []) bytes h (omega (arith, long)) in
    let size : length name ≡ n = simp (length-take, length-drop) (omega (arith, long)) in
    let rest : drop n (drop 4 bytes) ≡ drop (4 + n) bytes = drop-drop n 4 bytes in
    let seam : take n (drop 4 bytes) ++ drop n (drop 4 bytes) ≡ drop 4 bytes = take-append-drop n (drop 4 bytes) in
    let whole : name ++ drop (4 + n) bytes ≡ drop 4 bytes = ap (λ (t : List ℕ). take n (drop 4 bytes) ++ t) (sym rest) ∙ seam in
    let P : ℕ → Type 0 = λ k. bytes ≡ row (number 4 k ∷ []) ++ drop 4 bytes in
    let spelled : bytes ≡ row (number 4 (length name) ∷ []) ++ drop 4 bytes = subst P (sym size) read.spelled in
    (size, read.fit.0, spelled ∙ ap (λ (t : List ℕ). row (number 4 (length name) ∷ []) ++ t) (sym whole) ∙ sym (append_assoc (row (number 4 (length name) ∷ [])) name (drop (4 + n) bytes)))

record Texts (n : ℕ) (bytes : List ℕ) (queries : List (List ℕ)) : Type 0 where
  count : length queries ≡ n
  short : All IsShort queries
  spelled : bytes ≡ all_counted queries

none_short : (let none : List (List ℕ) = [] in All IsShort none)
none_short = λ k d p. absurd (omega (arith, p))

texts_there : (n : ℕ) (bytes : List ℕ) (queries : List (List ℕ)) → IsBytes bytes → texts_in n bytes ≡ Some queries → Texts n bytes queries
texts_there zero bytes queries h e = go (length bytes == 0) refl
  where
    P : List (List ℕ) → Type 0
    P qs = Texts 0 bytes qs

    go : (b : Bool) → (length bytes == 0) ≡ b → Texts 0 bytes queries
    go true f =
        let g : Some (let none : List (List ℕ) = [] in none) ≡ Some queries = rw f at e in
        let q : (let none : List (List ℕ) = [] in none) ≡ queries = cc in
        subst P q (record { count = refl; short = none_short; spelled = nothing bytes (eq_of (length bytes) 0 f) })
    go false f = absurd (let g = rw f at e in cc)
texts_there (suc n) bytes queries h e =
    go h (λ qs. texts_there n (drop (4 + number_at 0 4 bytes) bytes) qs (bytes_of_drop (4 + number_at 0 4 bytes) bytes h)) (nat_le 4 (length bytes)) refl (nat_le (4 + number_at 0 4 bytes) (length bytes)) refl (texts_in n (drop (4 + number_at 0 4 bytes) bytes)) refl e
  where
    name : List ℕ
    name = take (number_at 0 4 bytes) (drop 4 bytes)

    rest : List ℕ
    rest = drop (4 + number_at 0 4 bytes) bytes

    P : List (List ℕ) → Type 0
    P qs = Texts (suc n) bytes qs

    go : IsBytes bytes → ((qs : List (List ℕ)) → texts_in n (drop (4 + number_at 0 4 bytes) bytes) ≡ Some qs → Texts n (drop (4 + number_at 0 4 bytes) bytes) qs) → (a : Bool) → nat_le 4 (length bytes) ≡ a → (b : Bool) → nat_le (4 + number_at 0 4 bytes) (length bytes) ≡ b → (r : Option (List (List ℕ))) → texts_in n (drop (4 + number_at 0 4 bytes) bytes) ≡ r → texts_in (suc n) bytes ≡ Some queries → Texts (suc n) bytes queries
    go h ih true p true q (Some more) s e =
        let g : Some (take (number_at 0 4 bytes) (drop 4 bytes) ∷ more) ≡ Some queries = rw (p, q, s) at e in
        let same : take (number_at 0 4 bytes) (drop 4 bytes) ∷ more ≡ queries = cc in
        let t = ih more s in
        let c = there_counted bytes h (le_of (4 + number_at 0 4 bytes) (length bytes) q) in
        subst P same (record {
          count = ap suc t.count;
          short = short_first (take (number_at 0 4 bytes) (drop 4 bytes)) more (omega (arith, c.0, c.1)) t.short;
          spelled = c.2 ∙ ap (λ (t : List ℕ). counted (take (number_at 0 4 bytes) (drop 4 bytes)) ++ t) t.spelled;
        })
    go h ih true p true q None s e = absurd (let g = rw (p, q, s) at e in cc)
    go h ih true p false q r s e = absurd (let g = rw (p, q) at e in cc)
    go h ih false p b q r s e = absurd (let g = rw (p) at e in cc)

-- Types.

types_counted : (types bytes : List ℕ) → AllFit (map (number 2) types) → bytes ≡ row (map (number 2) types) → types_in (length types) bytes ≡ types
unfolding row
types_counted [] bytes h e = refl
types_counted (type ∷ types) bytes h e =
    let r : IsRowThen (number 2 type ∷ []) (row (map (number 2) types)) bytes = record { fit = (h.0, tt); spelled = e ∙ ap (λ (t : List ℕ). t ++ row (map (number 2) types)) (sym (row-one 2 type)) } in
    let read = then_reads (number 2 type ∷ []) (row (map (number 2) types)) bytes r in
    let first : number_at 0 2 bytes ≡ type = let f = read.fields in cc in
    let behind : drop 2 bytes ≡ row (map (number 2) types) = read.behind in
    let ih = types_counted types (drop 2 bytes) h.1 behind in
    rw (first, ih) refl

length-types : (types : List ℕ) → length (row (map (number 2) types)) ≡ 2 * length types
unfolding row
length-types [] = refl
length-types (type ∷ types) =
    let ih = length-types types in
    omega (arith, ih, length-append (row (number 2 type ∷ [])) (row (map (number 2) types)), length-row (number 2 type ∷ map (number 2) types), length-row (map (number 2) types))

record Types (n : ℕ) (bytes : List ℕ) : Type 0 where
  count : length (types_in n bytes) ≡ n
  fit : AllFit (map (number 2) (types_in n bytes))
  spelled : bytes ≡ row (map (number 2) (types_in n bytes))

types_there : (n : ℕ) (bytes : List ℕ) → IsBytes bytes → length bytes ≡ 2 * n → Types n bytes
unfolding row
types_there zero bytes h e = record { count = refl; fit = tt; spelled = nothing bytes (omega (arith, e)) }
types_there (suc n) bytes h e =
    let long : 2 ≤ length bytes = omega (arith, e) in
    let read = reads_then (2 ∷ []) bytes h long in
    let size : length (drop 2 bytes) ≡ 2 * n = simp length-drop (omega (arith, e)) in
    let ih = types_there n (drop 2 bytes) (bytes_of_drop 2 bytes h) size in
    record {
      count = ap suc ih.count;
      fit = (read.fit.0, ih.fit);
      spelled = read.spelled ∙ ap (λ (t : List ℕ). t ++ drop 2 bytes) (row-one 2 (number_at 0 2 bytes)) ∙ ap (λ (t : List ℕ). big_bytes 2 (number_at 0 2 bytes) ++ t) ih.spelled;
    }

-- INFO and GO.

number_behind : (place width : ℕ) (bytes : List ℕ) → number_at place width bytes ≡ number_at 0 width (drop place bytes)
unfolding number_at
number_behind place width bytes = refl

info_so : (bytes name types : List ℕ) → length name < 2 ^ 32 → AllFit (information_types types) → bytes ≡ info_request name types → info_asked bytes ≡ Some (Info name types)
info_so bytes name types h fit e =
    let tail = row (information_types types) in
    let r = read_counted bytes name tail h e in
    let size = number_at 0 4 bytes in
    let after : drop (4 + size) bytes ≡ row (number 2 (length types) ∷ map (number 2) types) = r.behind in
    let one : IsRowThen (number 2 (length types) ∷ []) (row (map (number 2) types)) (drop (4 + size) bytes) = record { fit = (fit.0, tt); spelled = after ∙ row-append (number 2 (length types) ∷ []) (map (number 2) types) } in
    let read = then_reads (number 2 (length types) ∷ []) (row (map (number 2) types)) (drop (4 + size) bytes) one in
    let n : number_at 0 2 (drop (4 + size) bytes) ≡ length types = let f = read.fields in cc in
    let count : number_at (4 + size) 2 bytes ≡ length types = number_behind (4 + size) 2 bytes ∙ n in
    let k : 4 + size + 2 ≡ 6 + size = omega arith in
    let behind : drop (6 + size) bytes ≡ row (map (number 2) types) = ap (λ (i : ℕ). drop i bytes) (sym k) ∙ sym (drop-drop 2 (4 + size) bytes) ∙ read.behind in
    let long : length (drop (4 + size) bytes) ≡ 2 + length (row (map (number 2) types)) = read.size in
    let there : length bytes ≡ 6 + size + 2 * length types = omega (arith, r.long, r.size, ap length r.behind, long, length-types types) in
    let a : nat_le 4 (length bytes) ≡ true = le_true 4 (length bytes) (omega (arith, there)) in
    let b : nat_le (6 + size) (length bytes) ≡ true = le_true (6 + size) (length bytes) (omega (arith, there)) in
    let c : (length bytes == 6 + size + 2 * length types) ≡ true = same_true (length bytes) (6 + size + 2 * length types) there in
    let d : types_in (length types) (drop (6 + size) bytes) ≡ types = types_counted types (drop (6 + size) bytes) fit.1 behind in
    rw (count, a, b, c, d) (ap (λ (m : List ℕ). Some (Info m types)) r.first)

record IsInfo (bytes : List ℕ) (asked : Asked) : Type 0 where
  name : List ℕ
  types : List ℕ
  is : Info name types ≡ asked
  short : length name < 2 ^ 32
  fit : AllFit (information_types types)
  spelled : bytes ≡ info_request name types

info_there : (bytes : List ℕ) (asked : Asked) → IsBytes bytes → info_asked bytes ≡ Some asked → IsInfo bytes asked
info_there bytes asked h e = go (nat_le 4 (length bytes) && nat_le (6 + number_at 0 4 bytes) (length bytes) && (length bytes == 6 + number_at 0 4 bytes + 2 * number_at (4 + number_at 0 4 bytes) 2 bytes)) refl e
  where
    size : ℕ
    size = number_at 0 4 bytes

    count : ℕ
    count = number_at (4 + size) 2 bytes

    go : (b : Bool) → (nat_le 4 (length bytes) && nat_le (6 + number_at 0 4 bytes) (length bytes) && (length bytes == 6 + number_at 0 4 bytes + 2 * number_at (4 + number_at 0 4 bytes) 2 bytes)) ≡ b → info_asked bytes ≡ Some asked → IsInfo bytes asked
    go true t e =
        let whole = both_of (nat_le 4 (length bytes) && nat_le (6 + size) (length bytes)) (length bytes == 6 + size + 2 * count) t in
        let all : length bytes ≡ 6 + size + 2 * count = eq_of (length bytes) (6 + size + 2 * count) whole.1 in
        let c = there_counted bytes h (omega (arith, all)) in
        let tail : List ℕ = drop (4 + size) bytes in
        let bt : IsBytes tail = bytes_of_drop (4 + size) bytes h in
        let tail_size : length tail ≡ 2 + 2 * count = simp length-drop (omega (arith, all)) in
        let read = reads_then (2 ∷ []) tail bt (omega (arith, tail_size)) in
        let n : number_at 0 2 tail ≡ count = sym (number_behind (4 + size) 2 bytes) in
        let k : 4 + size + 2 ≡ 6 + size = omega arith in
        let rest : drop 2 tail ≡ drop (6 + size) bytes = drop-drop 2 (4 + size) bytes ∙ ap (λ (i : ℕ). drop i bytes) k in
        let rest_size : length (drop (6 + size) bytes) ≡ 2 * count = simp length-drop (omega (arith, all)) in
        let ts = types_there count (drop (6 + size) bytes) (bytes_of_drop (6 + size) bytes h) rest_size in
        let types : List ℕ = types_in count (drop (6 + size) bytes) in
        let m : number_at 0 2 tail ≡ length types = n ∙ sym ts.count in
        let P : ℕ → Type 0 = λ i. IsRowThen (number 2 i ∷ []) (drop 2 tail) tail in
        let head = subst P m read in
        let spelled : tail ≡ row (information_types types) = head.spelled ∙ ap (λ (t : List ℕ). row (number 2 (length types) ∷ []) ++ t) (rest ∙ ts.spelled) ∙ sym (row-append (number 2 (length types) ∷ []) (map (number 2) types)) in
        record {
          name = take size (drop 4 bytes);
          types = types;
          is = let g = rw t at e in cc;
          short = omega (arith, c.0, c.1);
          fit = (head.fit.0, ts.fit);
          spelled = c.2 ∙ ap (λ (t : List ℕ). counted (take size (drop 4 bytes)) ++ t) spelled;
        }
    go false t e = absurd (let g = rw t at e in cc)

-- SET_META_CONTEXT.

meta_so : (bytes name : List ℕ) (queries : List (List ℕ)) → length name < 2 ^ 32 → length queries < 2 ^ 32 → All IsShort queries → bytes ≡ meta_request name queries → meta_asked bytes ≡ Some (Meta name queries)
meta_so bytes name queries h few short e =
    let tail = row (number 4 (length queries) ∷ []) ++ all_counted queries in
    let r = read_counted bytes name tail h e in
    let size = number_at 0 4 bytes in
    let one : IsRowThen (number 4 (length queries) ∷ []) (all_counted queries) (drop (4 + size) bytes) = record { fit = (few, tt); spelled = r.behind } in
    let read = then_reads (number 4 (length queries) ∷ []) (all_counted queries) (drop (4 + size) bytes) one in
    let n : number_at 0 4 (drop (4 + size) bytes) ≡ length queries = let f = read.fields in cc in
    let count : number_at (4 + size) 4 bytes ≡ length queries = number_behind (4 + size) 4 bytes ∙ n in
    let k : 4 + size + 4 ≡ 8 + size = omega arith in
    let behind : drop (8 + size) bytes ≡ all_counted queries = ap (λ (i : ℕ). drop i bytes) (sym k) ∙ sym (drop-drop 4 (4 + size) bytes) ∙ read.behind in
    let long : length (drop (4 + size) bytes) ≡ 4 + length (all_counted queries) = read.size in
    let there : 8 + size ≤ length bytes = omega (arith, r.long, r.size, ap length r.behind, long) in
    let a : nat_le 4 (length bytes) ≡ true = le_true 4 (length bytes) (omega (arith, there)) in
    let b : nat_le (8 + size) (length bytes) ≡ true = le_true (8 + size) (length bytes) (omega (arith, there)) in
    let d : texts_in (length queries) (drop (8 + size) bytes) ≡ Some queries = texts_counted queries (drop (8 + size) bytes) short behind in
    rw (count, a, b, d) (ap (λ (m : List ℕ). Some (Meta m queries)) r.first)

record IsMeta (bytes : List ℕ) (asked : Asked) : Type 0 where
  name : List ℕ
  queries : List (List ℕ)
  is : Meta name queries ≡ asked
  short : length name < 2 ^ 32
  few : length queries < 2 ^ 32
  all_short : All IsShort queries
  spelled : bytes ≡ meta_request name queries

meta_there : (bytes : List ℕ) (asked : Asked) → IsBytes bytes → meta_asked bytes ≡ Some asked → IsMeta bytes asked
meta_there bytes asked h e = go (nat_le 4 (length bytes) && nat_le (8 + number_at 0 4 bytes) (length bytes)) refl (texts_in (number_at (4 + number_at 0 4 bytes) 4 bytes) (drop (8 + number_at 0 4 bytes) bytes)) refl e
  where
    size : ℕ
    size = number_at 0 4 bytes

    go : (b : Bool) → (nat_le 4 (length bytes) && nat_le (8 + number_at 0 4 bytes) (length bytes)) ≡ b → (r : Option (List (List ℕ))) → texts_in (number_at (4 + number_at 0 4 bytes) 4 bytes) (drop (8 + number_at 0 4 bytes) bytes) ≡ r → meta_asked bytes ≡ Some asked → IsMeta bytes asked
    go true t (Some queries) q e =
        let count : ℕ = number_at (4 + size) 4 bytes in
        let whole = both_of (nat_le 4 (length bytes)) (nat_le (8 + size) (length bytes)) t in
        let long : 8 + size ≤ length bytes = le_of (8 + size) (length bytes) whole.1 in
        let c = there_counted bytes h (omega (arith, long)) in
        let tail : List ℕ = drop (4 + size) bytes in
        let bt : IsBytes tail = bytes_of_drop (4 + size) bytes h in
        let tail_size : 4 ≤ length tail = simp length-drop (omega (arith, long)) in
        let read = reads_then (4 ∷ []) tail bt tail_size in
        let n : number_at 0 4 tail ≡ count = sym (number_behind (4 + size) 4 bytes) in
        let k : 4 + size + 4 ≡ 8 + size = omega arith in
        let rest : drop 4 tail ≡ drop (8 + size) bytes = drop-drop 4 (4 + size) bytes ∙ ap (λ (i : ℕ). drop i bytes) k in
        let ts = texts_there count (drop (8 + size) bytes) queries (bytes_of_drop (8 + size) bytes h) q in
        let m : number_at 0 4 tail ≡ length queries = n ∙ sym ts.count in
        let P : ℕ → Type 0 = λ i. IsRowThen (number 4 i ∷ []) (drop 4 tail) tail in
        let head = subst P m read in
        let spelled : tail ≡ row (number 4 (length queries) ∷ []) ++ all_counted queries = head.spelled ∙ ap (λ (t : List ℕ). row (number 4 (length queries) ∷ []) ++ t) (rest ∙ ts.spelled) in
        record {
          name = take size (drop 4 bytes);
          queries = queries;
          is = let g = rw (t, q) at e in cc;
          short = omega (arith, c.0, c.1);
          few = head.fit.0;
          all_short = ts.short;
          spelled = c.2 ∙ ap (λ (t : List ℕ). counted (take size (drop 4 bytes)) ++ t) spelled;
        }
    go true t None q e = absurd (let g = rw (t, q) at e in cc)
    go false t r q e = absurd (let g = rw t at e in cc)

-- All options.

pub asked_so : (option : ℕ) (bytes : List ℕ) (asked : Asked) → Asks option bytes asked → asked_of option bytes ≡ Some asked
unfolding asked_of
asked_so option bytes (Name name) h = rw (h.0, h.1) refl
asked_so option bytes (Info name types) h = info_option (option == 1) refl
  where
    info_option : (b : Bool) → (option == 1) ≡ b → asked_of option bytes ≡ Some (Info name types)
    info_option true e = absurd (let i : is_info 1 ≡ true = rw (eq_of option 1 e) at h.0 in cc)
    info_option false e = rw (e, h.0) (info_so bytes name types h.1 h.2 h.3)
asked_so option bytes (Meta name queries) h = rw (h.0) (meta_so bytes name queries h.1 h.2 h.3 h.4)
asked_so option bytes Plain h = plain (option == 1) refl (is_info option) refl (option == 10) refl (has_no_data option) refl
  where
    plain : (a : Bool) → (option == 1) ≡ a → (b : Bool) → is_info option ≡ b → (c : Bool) → (option == 10) ≡ c → (d : Bool) → has_no_data option ≡ d → asked_of option bytes ≡ Some Plain
    plain false p false q false r true s =
        let none : bytes ≡ [] = h.1 s in
        rw (p, q, r, s, none) refl
    plain false p false q false r false s = rw (p, q, r, s) refl
    plain false p false q true r d s = absurd (let e = rw (p, q, r) at h.0 in cc)
    plain false p true q c r d s = absurd (let e = rw (p, q) at h.0 in cc)
    plain true p b q c r d s = absurd (let e = rw p at h.0 in cc)

asks_with : (option : ℕ) (bytes : List ℕ) (a asked : Asked) → a ≡ asked → Asks option bytes a → Asks option bytes asked
asks_with option bytes a asked e h =
    let P : Asked → Type 0 = λ b. Asks option bytes b in
    subst P e h

pub asked_there : (option : ℕ) (bytes : List ℕ) (asked : Asked) → IsBytes bytes → asked_of option bytes ≡ Some asked → Asks option bytes asked
unfolding asked_of
asked_there option bytes asked h e = go (option == 1) refl (is_info option) refl (option == 10) refl (has_no_data option) refl (length bytes == 0) refl e
  where
    go : (a : Bool) → (option == 1) ≡ a → (b : Bool) → is_info option ≡ b → (c : Bool) → (option == 10) ≡ c → (d : Bool) → has_no_data option ≡ d → (z : Bool) → (length bytes == 0) ≡ z → asked_of option bytes ≡ Some asked → Asks option bytes asked
    go true p b q c r d s z t e = asks_with option bytes (Name bytes) asked (let g = rw p at e in cc) (eq_of option 1 p, refl)
    go false p true q c r d s z t e =
        let i = info_there bytes asked h (rw (p, q) at e) in
        asks_with option bytes (Info i.name i.types) asked i.is (q, i.short, i.fit, i.spelled)
    go false p false q true r d s z t e =
        let m = meta_there bytes asked h (rw (p, q, r) at e) in
        asks_with option bytes (Meta m.name m.queries) asked m.is (eq_of option 10 r, m.short, m.few, m.all_short, m.spelled)
    go false p false q false r true s true t e =
        asks_with option bytes Plain asked (let g = rw (p, q, r, s, t) at e in cc) (rw (p, q, r) refl, λ k. nothing bytes (eq_of (length bytes) 0 t))
    go false p false q false r true s false t e = absurd (let g = rw (p, q, r, s, t) at e in cc)
    go false p false q false r false s z t e =
        asks_with option bytes Plain asked (let g = rw (p, q, r, s) at e in cc) (rw (p, q, r) refl, λ k. absurd (cc))
