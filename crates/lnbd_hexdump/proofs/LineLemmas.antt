-- Writes in place, and the line that they make.
use Rattle.std.proofs.Common.{◌≡◌, ◌∙◌, ℕ, zero, suc, ◌+◌, ◌-◌, ◌*◌, ◌/◌, ◌%◌, ◌<◌, ◌≤◌, List, [], ◌∷◌, ◌++◌}
use Rattle.std.proofs.Common.{length, take, drop, set, get_or, map, replicate, refl, sym, ap, subst, arith, append-nil, append_assoc, length-append}
use Rattle.std.specs.Prelude.{flat_map}
use Rattle.std.proofs.lemmas.List.{length-map, length-replicate, length-take-le, set_at, take_at, take_more}
use Rattle.std.proofs.lemmas.List.{map_more, drop_more, drop-set, drop-replicate, take-append-drop, replicate-append-replicate}
use Rattle.std.proofs.lemmas.List.Concat.{flat_map-append}
use Rattle.std.proofs.Math.Seq.{drop-append-add}
use Rattle.lnbd_hexdump.specs.Dump.{cell, digit, group_line, hex, letter, width}
use Rattle.lnbd_hexdump.specs.Written.{written}

-- ---- a piece that grows

pub writes_none : (old : List ℕ) (at : ℕ) → old ≡ written old at []
writes_none old at = let e : at + 0 ≡ at = omega arith in sym (ap (λ (k : ℕ). take at old ++ drop k old) e ∙ take-append-drop at old)

-- one byte behind what was written
pub writes_one : (old line piece : List ℕ) (at n a : ℕ) → line ≡ written old at piece → n ≡ at + length piece → n < length old → set line n a ≡ written old at (piece ++ a ∷ [])
writes_one old line piece at n a e place within =
    let short = length-take-le at old (omega arith) in
    let front : length (take at old ++ piece) ≡ n = omega (arith, length-append (take at old) piece, short) in
    let rest : drop (at + length piece) old ≡ get_or old n 0 ∷ drop (n + 1) old = ap (λ (k : ℕ). drop k old) (sym place) ∙ drop_more old n 0 within in
    let end : n + 1 ≡ at + length (piece ++ a ∷ []) = omega (arith, length-append piece (a ∷ [])) in
    ap (λ (t : List ℕ). set t n a) (e ∙ ap (λ (t : List ℕ). take at old ++ (piece ++ t)) rest ∙ sym (append_assoc (take at old) piece (get_or old n 0 ∷ drop (n + 1) old)))
    ∙ set_at (take at old ++ piece) (get_or old n 0) (drop (n + 1) old) a n front
    ∙ append_assoc (take at old) piece (a ∷ drop (n + 1) old)
    ∙ ap (λ (t : List ℕ). take at old ++ t) (sym (append_assoc piece (a ∷ []) (drop (n + 1) old)))
    ∙ ap (λ (k : ℕ). take at old ++ ((piece ++ a ∷ []) ++ drop k old)) end

-- ---- cells and letters

pub length_cells : (group : List ℕ) → length (flat_map cell group) ≡ 3 * length group
length_cells [] = refl
length_cells (byte ∷ group) = let e = length_cells group in omega arith

cells_push : (group : List ℕ) (i : ℕ) → i < length group → flat_map cell (take (i + 1) group) ≡ flat_map cell (take i group) ++ cell (get_or group i 0)
cells_push group i within =
    ap (λ (t : List ℕ). flat_map cell t) (take_more group i 0 within)
    ∙ flat_map-append cell (take i group) (get_or group i 0 ∷ [])
    ∙ ap (λ (t : List ℕ). flat_map cell (take i group) ++ t) (append-nil (cell (get_or group i 0)))

pub cells_more : (old line group : List ℕ) (at i byte high low : ℕ) → i < length group → at + 3 * length group ≤ length old → byte < 256 → byte ≡ get_or group i 0
    → high ≡ digit (byte / 16) → low ≡ digit (byte % 16) → line ≡ written old at (flat_map cell (take i group))
    → set (set (set line (at + 3 * i) high) (at + 3 * i + 1) low) (at + 3 * i + 2) 32 ≡ written old at (flat_map cell (take (i + 1) group))
cells_more old line group at i byte high low within fits small is first second e =
    let piece : List ℕ = flat_map cell (take i group) in
    let short = length-take-le i group (omega arith) in
    let size : length piece ≡ 3 * i = length_cells (take i group) ∙ ap (λ (k : ℕ). 3 * k) short in
    let one = writes_one old line piece at (at + 3 * i) high e (omega arith) (omega arith) in
    let two = writes_one old (set line (at + 3 * i) high) (piece ++ high ∷ []) at (at + 3 * i + 1) low one (omega (arith, length-append piece (high ∷ []))) (omega arith) in
    let three = writes_one old (set (set line (at + 3 * i) high) (at + 3 * i + 1) low) ((piece ++ high ∷ []) ++ low ∷ []) at (at + 3 * i + 2) 32 two
    (omega (arith, length-append piece (high ∷ []), length-append (piece ++ high ∷ []) (low ∷ []))) (omega arith) in
    let half : byte / 16 ≡ byte / 16 % 16 = omega arith in
    let same : high ∷ low ∷ 32 ∷ [] ≡ cell (get_or group i 0) =
    ap (λ (h : ℕ). h ∷ low ∷ 32 ∷ []) (first ∙ ap (λ (k : ℕ). digit k) half)
    ∙ ap (λ (l : ℕ). digit (byte / 16 % 16) ∷ l ∷ 32 ∷ []) second ∙ ap (λ (b : ℕ). cell b) is in
    three ∙ ap (λ (t : List ℕ). written old at t)
    (ap (λ (t : List ℕ). t ++ 32 ∷ []) (append_assoc piece (high ∷ []) (low ∷ []))
    ∙ append_assoc piece (high ∷ low ∷ []) (32 ∷ []) ∙ ap (λ (t : List ℕ). piece ++ t) same ∙ sym (cells_push group i within))

pub letters_more : (old line group : List ℕ) (at i a : ℕ) → i < length group → at + length group ≤ length old → a ≡ letter (get_or group i 0)
    → line ≡ written old at (map letter (take i group)) → set line (at + i) a ≡ written old at (map letter (take (i + 1) group))
letters_more old line group at i a within fits is e =
    let short = length-map (take i group) letter ∙ length-take-le i group (omega arith) in
    writes_one old line (map letter (take i group)) at (at + i) a e (omega arith) (omega arith)
    ∙ ap (λ (t : List ℕ). written old at t) (ap (λ (b : ℕ). map letter (take i group) ++ b ∷ []) is ∙ sym (map_more letter group i 0 within))

-- ---- a number

pub length_hex : (width n : ℕ) → length (hex width n) ≡ width
length_hex zero n = refl
length_hex (suc width) n = length-append (hex width (n / 16)) (digit (n % 16) ∷ []) ∙ ap (λ (k : ℕ). k + 1) (length_hex width (n / 16)) ∙ omega arith

pub hex_more : (old line : List ℕ) (width n a : ℕ) → 0 < width → width ≤ length old → a ≡ digit (n % 16) → line ≡ written (set old (width - 1) a) 0 (hex (width - 1) (n / 16))
    → line ≡ written old 0 (hex width n)
hex_more old line zero n a some fits is e = absurd (omega arith)
hex_more old line (suc width) n a some fits is e =
    let w : suc width - 1 ≡ width = omega arith in
    let long : width ≡ 0 + length (hex width (n / 16)) = omega (arith, length_hex width (n / 16)) in
    let whole : width + 1 ≡ 0 + length (hex (suc width) n) = omega (arith, length_hex (suc width) n) in
    e
    ∙ ap (λ (k : ℕ). written (set old k a) 0 (hex k (n / 16))) w
    ∙ ap (λ (k : ℕ). hex width (n / 16) ++ drop k (set old width a)) (sym long)
    ∙ ap (λ (t : List ℕ). hex width (n / 16) ++ t) (drop-set old width a (omega arith))
    ∙ sym (append_assoc (hex width (n / 16)) (a ∷ []) (drop (width + 1) old))
    ∙ ap (λ (b : ℕ). (hex width (n / 16) ++ b ∷ []) ++ drop (width + 1) old) is
    ∙ ap (λ (k : ℕ). hex (suc width) n ++ drop k old) whole

-- ---- a line that is begun: blanks behind what is done

abbrev Begun : List ℕ → List ℕ → Type 0
Begun done line = line ≡ done ++ replicate (86 - length done) 32

begun_written : (done line piece : List ℕ) (at : ℕ) → Begun done line → at ≡ length done → length done + length piece ≤ 86 → Begun (done ++ piece) (written line at piece)
begun_written done line piece at e place fits =
    let blanks : List ℕ = replicate (86 - length done) 32 in
    let front : take at line ≡ done = ap (λ (t : List ℕ). take at t) e ∙ take_at done blanks at (sym place) in
    let rest : drop (at + length piece) line ≡ replicate (86 - length done - length piece) 32 =
    ap (λ (k : ℕ). drop (k + length piece) line) place ∙ ap (λ (t : List ℕ). drop (length done + length piece) t) e
    ∙ drop-append-add done blanks (length piece) ∙ drop-replicate (length piece) (86 - length done) 32 in
    let left : 86 - length done - length piece ≡ 86 - length (done ++ piece) = omega (arith, length-append done piece) in
    let tail : drop (at + length piece) line ≡ replicate (86 - length (done ++ piece)) 32 = rest ∙ ap (λ (k : ℕ). replicate k 32) left in
    ap (λ (t : List ℕ). t ++ (piece ++ drop (at + length piece) line)) front
    ∙ ap (λ (t : List ℕ). done ++ (piece ++ t)) tail
    ∙ sym (append_assoc done piece (replicate (86 - length (done ++ piece)) 32))

begun_set : (done line : List ℕ) (n a : ℕ) → Begun done line → n ≡ length done → n < 86 → Begun (done ++ a ∷ []) (set line n a)
begun_set done line n a e place within =
    let left : 86 - length done ≡ suc (86 - length (done ++ a ∷ [])) = omega (arith, length-append done (a ∷ [])) in
    ap (λ (t : List ℕ). set t n a) (e ∙ ap (λ (k : ℕ). done ++ replicate k 32) left)
    ∙ set_at done 32 (replicate (86 - length (done ++ a ∷ [])) 32) a n (sym place)
    ∙ sym (append_assoc done (a ∷ []) (replicate (86 - length (done ++ a ∷ [])) 32))

begun_blank : (done line : List ℕ) (count : ℕ) → Begun done line → length done + count ≤ 86 → Begun (done ++ replicate count 32) line
begun_blank done line count e fits =
    let left : 86 - length done ≡ count + (86 - length (done ++ replicate count 32)) = omega (arith, length-append done (replicate count 32), length-replicate {A = ℕ} count 32) in
    e ∙ ap (λ (k : ℕ). done ++ replicate k 32) left
    ∙ ap (λ (t : List ℕ). done ++ t) (sym (replicate-append-replicate count (86 - length (done ++ replicate count 32)) 32))
    ∙ sym (append_assoc done (replicate count 32) (replicate (86 - length (done ++ replicate count 32)) 32))

-- the line of a group, part by part
line_parts : (h c b l : List ℕ)
    → ((((((((h ++ 58 ∷ []) ++ 32 ∷ []) ++ c) ++ b) ++ 32 ∷ []) ++ 124 ∷ []) ++ l) ++ 124 ∷ []) ++ 10 ∷ [] ≡ h ++ (58 ∷ 32 ∷ (c ++ (b ++ (32 ∷ 124 ∷ (l ++ (124 ∷ 10 ∷ []))))))
line_parts h c b l =
    let t1 : List ℕ = 124 ∷ 10 ∷ [] in
    let t2 : List ℕ = l ++ t1 in
    let t3 : List ℕ = 32 ∷ 124 ∷ t2 in
    let t4 : List ℕ = b ++ t3 in
    let t5 : List ℕ = c ++ t4 in
    let x1 : List ℕ = h ++ 58 ∷ [] in
    let x2 : List ℕ = x1 ++ 32 ∷ [] in
    let x3 : List ℕ = x2 ++ c in
    let x4 : List ℕ = x3 ++ b in
    let x5 : List ℕ = x4 ++ 32 ∷ [] in
    let x6 : List ℕ = x5 ++ 124 ∷ [] in
    let x7 : List ℕ = x6 ++ l in
    append_assoc x7 (124 ∷ []) (10 ∷ []) ∙ append_assoc x6 l t1 ∙ append_assoc x5 (124 ∷ []) t2 ∙ append_assoc x4 (32 ∷ []) (124 ∷ t2)
    ∙ append_assoc x3 b t3 ∙ append_assoc x2 c t4 ∙ append_assoc x1 (32 ∷ []) t5 ∙ append_assoc h (58 ∷ []) (32 ∷ t5)

line_begun : (old one two three group : List ℕ) (position w cells bar letters end after : ℕ) → old ≡ replicate 86 32 → w ≡ width position → w ≤ 16 → length group ≤ 16
    → cells ≡ w + 2 → bar ≡ w + 51 → letters ≡ w + 52 → end ≡ w + 52 + length group → after ≡ w + 53 + length group
    → one ≡ written old 0 (hex w position) → two ≡ written (set one w 58) cells (flat_map cell group) → three ≡ written (set two bar 124) letters (map letter group)
    → Begun (group_line position group) (set (set three end 124) after 10)
line_begun old one two three group position w cells bar letters end after blank is most fits e1 e2 e3 e4 e5 first second third =
    let h : List ℕ = hex w position in
    let c : List ℕ = flat_map cell group in
    let b : List ℕ = replicate (3 * (16 - length group)) 32 in
    let l : List ℕ = map letter group in
    let hs = length_hex w position in
    let cs = length_cells group in
    let bs = length-replicate {A = ℕ} (3 * (16 - length group)) 32 in
    let ls = length-map group letter in
    let d1 : List ℕ = h ++ 58 ∷ [] in
    let s1 : length d1 ≡ w + 1 = omega (arith, hs, length-append h (58 ∷ [])) in
    let d2 : List ℕ = d1 ++ 32 ∷ [] in
    let s2 : length d2 ≡ w + 2 = omega (arith, s1, length-append d1 (32 ∷ [])) in
    let d3 : List ℕ = d2 ++ c in
    let s3 : length d3 ≡ w + 2 + 3 * length group = omega (arith, s2, cs, length-append d2 c) in
    let d4 : List ℕ = d3 ++ b in
    let s4 : length d4 ≡ w + 50 = omega (arith, s3, bs, length-append d3 b) in
    let d5 : List ℕ = d4 ++ 32 ∷ [] in
    let s5 : length d5 ≡ w + 51 = omega (arith, s4, length-append d4 (32 ∷ [])) in
    let d6 : List ℕ = d5 ++ 124 ∷ [] in
    let s6 : length d6 ≡ w + 52 = omega (arith, s5, length-append d5 (124 ∷ [])) in
    let d7 : List ℕ = d6 ++ l in
    let s7 : length d7 ≡ w + 52 + length group = omega (arith, s6, ls, length-append d6 l) in
    let d8 : List ℕ = d7 ++ 124 ∷ [] in
    let s8 : length d8 ≡ w + 53 + length group = omega (arith, s7, length-append d7 (124 ∷ [])) in
    let b0 : Begun h one = subst (λ (t : List ℕ). Begun h t) (sym first) (begun_written [] old h 0 blank refl (omega (arith, hs))) in
    let b1 : Begun d1 (set one w 58) = begun_set h one w 58 b0 (sym hs) (omega arith) in
    let b2 : Begun d2 (set one w 58) = begun_blank d1 (set one w 58) 1 b1 (omega (arith, s1)) in
    let b3 : Begun d3 two = subst (λ (t : List ℕ). Begun d3 t) (sym second) (begun_written d2 (set one w 58) c cells b2 (e1 ∙ sym s2) (omega (arith, s2, cs))) in
    let b4 : Begun d4 two = begun_blank d3 two (3 * (16 - length group)) b3 (omega (arith, s3)) in
    let b5 : Begun d5 two = begun_blank d4 two 1 b4 (omega (arith, s4)) in
    let b6 : Begun d6 (set two bar 124) = begun_set d5 two bar 124 b5 (e2 ∙ sym s5) (omega arith) in
    let b7 : Begun d7 three = subst (λ (t : List ℕ). Begun d7 t) (sym third) (begun_written d6 (set two bar 124) l letters b6 (e3 ∙ sym s6) (omega (arith, s6, ls))) in
    let b8 : Begun d8 (set three end 124) = begun_set d7 three end 124 b7 (e4 ∙ sym s7) (omega arith) in
    let b9 = begun_set d8 (set three end 124) after 10 b8 (e5 ∙ sym s8) (omega arith) in
    let whole : d8 ++ 10 ∷ [] ≡ group_line position group = line_parts h c b l ∙ ap (λ (k : ℕ). hex k position ++ (58 ∷ 32 ∷ (c ++ (b ++ (32 ∷ 124 ∷ (l ++ (124 ∷ 10 ∷ []))))))) is in
    subst (λ (t : List ℕ). Begun t (set (set three end 124) after 10)) whole b9

length_line : (position w : ℕ) (group : List ℕ) → w ≡ width position → length group ≤ 16 → length (group_line position group) ≡ w + 54 + length group
length_line position w group is fits =
    let h : List ℕ = hex (width position) position in
    let c : List ℕ = flat_map cell group in
    let b : List ℕ = replicate (3 * (16 - length group)) 32 in
    let l : List ℕ = map letter group in
    let tail : List ℕ = l ++ (124 ∷ 10 ∷ []) in
    let hs = length_hex (width position) position in
    let cs = length_cells group in
    let bs = length-replicate {A = ℕ} (3 * (16 - length group)) 32 in
    let ls = length-map group letter in
    omega (
      arith,
      hs,
      cs,
      bs,
      ls,
      length-append l (124 ∷ 10 ∷ []),
      length-append b (32 ∷ 124 ∷ tail),
      length-append c (b ++ (32 ∷ 124 ∷ tail)),
      length-append h (58 ∷ 32 ∷ (c ++ (b ++ (32 ∷ 124 ∷ tail)))),
    )

pub line_is : (old one two three group : List ℕ) (position w cells bar letters end after n : ℕ) → old ≡ replicate 86 32 → w ≡ width position → w ≤ 16 → length group ≤ 16
    → cells ≡ w + 2 → bar ≡ w + 51 → letters ≡ w + 52 → end ≡ w + 52 + length group → after ≡ w + 53 + length group → n ≡ w + 54 + length group
    → one ≡ written old 0 (hex w position) → two ≡ written (set one w 58) cells (flat_map cell group) → three ≡ written (set two bar 124) letters (map letter group)
    → take n (set (set three end 124) after 10) ≡ group_line position group
line_is old one two three group position w cells bar letters end after n blank is most fits e1 e2 e3 e4 e5 e6 first second third =
    ap (λ (t : List ℕ). take n t) (line_begun old one two three group position w cells bar letters end after blank is most fits e1 e2 e3 e4 e5 first second third)
    ∙ take_at (group_line position group) (replicate (86 - length (group_line position group)) 32) n (length_line position w group is fits ∙ sym e6)
