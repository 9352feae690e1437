-- What is shown, part by part, and what it says of an export.
use Rattle.std.proofs.Common.{◌≡◌, ◌∙◌, ℕ, ◌+◌, ◌-◌, ◌<◌, ◌≤◌, ◌⊎◌, inl, inr, List, [], ◌∷◌, ◌++◌, length, take, drop, get_or, refl, sym, ap, subst, arith, append-nil, append_assoc, length-append, length-drop}
use Rattle.std.proofs.lemmas.List.{get_or-replicate, length-replicate, get_or-append_right, get_or_append_left, get_or-drop, get_or-take, length-take-le}
use Rattle.lnbd_hexdump.specs.Dump.{dump}
use Rattle.lnbd_hexdump.specs.Said.{Ends, Fed, IsFront, Kept, Stands, said}
use Rattle.lnbd_hexdump.proofs.EndLemmas.{said_front}
use Rattle.std.specs.Prelude.{Option, Result, Ok, Err, OnOk, replicate}
use Rattle.lnbd_link.specs.Part.{Takes, TakesFront}
use Rattle.lnbd_reel.specs.Said.{AreTold, IsSaid, SaysMore, Shown, ShownPart, shown_to}
use Rattle.lnbd_link.proofs.Parts.{takes_on}

pub told_keeps : (told told' : ℕ → ℕ → Type 0) → ((p byte : ℕ) → told p byte → told' p byte) → (offset : ℕ) (bytes : List ℕ) → AreTold told offset bytes → AreTold told' offset bytes
told_keeps told told' t offset bytes h i lt = t (offset + i) (get_or bytes i 0) (h i lt)

told_more : (told : ℕ → ℕ → Type 0) (offset : ℕ) (bytes piece : List ℕ) → AreTold told offset bytes → ((i : ℕ) → i < length piece → told (offset + length bytes + i) (get_or piece i 0)) → AreTold told offset (bytes ++ piece)
told_more told offset bytes piece h k i lt = go (split i (length bytes))
  where
    split : (a b : ℕ) → (a < b) ⊎ (b ≤ a)
    split a b = grind arith

    go : (i < length bytes) ⊎ (length bytes ≤ i) → told (offset + i) (get_or (bytes ++ piece) i 0)
    go (inl low) = subst (λ (b : ℕ). told (offset + i) b) (sym (get_or_append_left bytes piece 0 i low)) (h i low)
    go (inr high) =
        let all = length-append bytes piece in
        let e : offset + length bytes + (i - length bytes) ≡ offset + i = omega arith in
        let at : get_or piece (i - length bytes) 0 ≡ get_or (bytes ++ piece) i 0 = sym (get_or-append_right bytes piece (length bytes) i 0 refl high) in
        subst (λ (b : ℕ). told (offset + i) b) at (subst (λ (p : ℕ). told p (get_or piece (i - length bytes) 0)) e (k (i - length bytes) (omega arith)))

-- a piece comes behind what was said
pub said_more : (told told' : ℕ → ℕ → Type 0) → ((p byte : ℕ) → told p byte → told' p byte) → (offset end at to : ℕ) (kept kept' : Kept) (piece front text : List ℕ)
    → IsSaid told offset end at kept front → Fed kept kept' piece [] text → shown_to offset end to ≡ shown_to offset end at + length piece
    → ((i : ℕ) → i < length piece → told' (offset + shown_to offset end at + i) (get_or piece i 0))
    → IsSaid told' offset end to kept' (front ++ text)
said_more told told' t offset end at to kept kept' piece front text is fed long here =
    let f = fed offset is.bytes is.stands in
    let part : text ≡ f.1.part = f.1.text_is in
    let counted : length is.bytes ≡ shown_to offset end at = is.count in
    let all = length-append is.bytes piece in
    record {
      bytes = is.bytes ++ piece;
      told_are = told_more told' offset is.bytes piece (told_keeps told told' t offset is.bytes is.told_are)
          (λ i lt. subst (λ (n : ℕ). told' (offset + n + i) (get_or piece i 0)) (sym counted) (here i lt));
      count = all ∙ ap (λ (n : ℕ). n + length piece) counted ∙ sym long;
      stands = f.0;
      said_is = ap (λ (x : List ℕ). x ++ text) is.said_is ∙ ap (λ (x : List ℕ). said offset is.bytes ++ x) part ∙ sym f.1.said_is;
    }

pub said_keeps : (told told' : ℕ → ℕ → Type 0) → ((p byte : ℕ) → told p byte → told' p byte) → (offset end at : ℕ) (kept : Kept) (front : List ℕ) → IsSaid told offset end at kept front → IsSaid told' offset end at kept front
said_keeps told told' t offset end at kept front is = record { bytes = is.bytes; told_are = told_keeps told told' t offset is.bytes is.told_are; count = is.count; stands = is.stands; said_is = is.said_is }

-- ---- What the output took.

cut_front : (a front rest whole : List ℕ) → IsFront (a ++ (front ++ rest)) whole → IsFront (a ++ front) whole
cut_front a front rest whole f = record { rest = rest ++ f.rest; is = f.is ∙ ap (λ (t : List ℕ). t ++ f.rest) (sym (append_assoc a front rest)) ∙ append_assoc (a ++ front) rest f.rest }

-- what was said so far is a front of the dump
front_is : (offset : ℕ) (bytes front more : List ℕ) → front ≡ said offset bytes → IsFront front (dump offset (bytes ++ more))
front_is offset bytes front more e = subst (λ (t : List ℕ). IsFront t (dump offset (bytes ++ more))) (sym e) (said_front offset bytes more)

pub part_front : (told : ℕ → ℕ → Type 0) (offset count at : ℕ) (kept : Kept) (front : List ℕ) (taken taken' : Option (List ℕ)) → IsSaid told offset (offset + count) at kept front → Takes taken taken' front → ShownPart told offset count taken taken'
part_front told offset count at kept front taken taken' is takes = record {
  bytes = is.bytes;
  told_are = is.told_are;
  few = (let n = is.count in omega (arith, n));
  text = front;
  takes = takes;
  front = λ more fits. front_is offset is.bytes front more is.said_is;
}

-- the output failed within a text
pub part_cut : (told : ℕ → ℕ → Type 0) (offset count at : ℕ) (kept : Kept) (front text : List ℕ) (taken taken' taken'' : Option (List ℕ)) → IsSaid told offset (offset + count) at kept (front ++ text)
    → Takes taken taken' front → TakesFront taken' taken'' text → ShownPart told offset count taken taken''
part_cut told offset count at kept front text taken taken' taken'' is takes cut = record {
  bytes = is.bytes;
  told_are = is.told_are;
  few = (let n = is.count in omega (arith, n));
  text = front ++ cut.front;
  takes = takes_on taken taken' taken'' front cut.front takes cut.takes;
  front = λ more fits. cut_front front cut.front cut.rest (dump offset (is.bytes ++ more))
      (subst (λ (t : List ℕ). IsFront (front ++ t) (dump offset (is.bytes ++ more))) cut.split (front_is offset is.bytes (front ++ text) more is.said_is));
}

-- the end
whole_is : (offset : ℕ) (bytes front text : List ℕ) (kept : Kept) → front ≡ said offset bytes → Stands offset bytes kept → Ends kept [] text → front ++ text ≡ dump offset bytes
whole_is offset bytes front text kept e stands ends =
    let end = ends offset bytes stands in
    ap (λ (t : List ℕ). t ++ text) e ∙ ap (λ (t : List ℕ). said offset bytes ++ t) end.1 ∙ sym end.2

pub part_all : (told : ℕ → ℕ → Type 0) (offset count at : ℕ) (kept : Kept) (front text : List ℕ) (taken taken' taken'' : Option (List ℕ)) → IsSaid told offset (offset + count) at kept front → offset + count ≤ at → Ends kept [] text
    → Takes taken taken' front → Takes taken' taken'' text → Shown told offset count taken taken''
part_all told offset count at kept front text taken taken' taken'' is far ends one two = record {
  bytes = is.bytes;
  told_are = is.told_are;
  count_is = (let n = is.count in omega (arith, n, far));
  takes = subst (λ (t : List ℕ). Takes taken taken'' t) (whole_is offset is.bytes front text kept is.said_is is.stands ends) (takes_on taken taken' taken'' front text one two);
}

none_more : (xs : List ℕ) → length xs ≡ 0 → xs ≡ []
none_more [] e = refl
none_more (x ∷ xs) e = absurd (omega (arith, e))

pub part_all_cut : (told : ℕ → ℕ → Type 0) (offset count at : ℕ) (kept : Kept) (front text : List ℕ) (taken taken' taken'' : Option (List ℕ)) → IsSaid told offset (offset + count) at kept front → offset + count ≤ at → Ends kept [] text
    → Takes taken taken' front → TakesFront taken' taken'' text → ShownPart told offset count taken taken''
part_all_cut told offset count at kept front text taken taken' taken'' is far ends one cut = record {
  bytes = is.bytes;
  told_are = is.told_are;
  few = (let n = is.count in omega (arith, n));
  text = front ++ cut.front;
  takes = takes_on taken taken' taken'' front cut.front one cut.takes;
  front = λ more fits. (
      let n = is.count in
      let none : more ≡ [] = none_more more (omega (arith, n, far, fits)) in
      let whole : front ++ text ≡ dump offset is.bytes = whole_is offset is.bytes front text kept is.said_is is.stands ends in
      subst (λ (m : List ℕ). IsFront (front ++ cut.front) (dump offset (is.bytes ++ m))) (sym none)
      (subst (λ (b : List ℕ). IsFront (front ++ cut.front) (dump offset b)) (sym (append-nil is.bytes))
      (record { rest = cut.rest; is = sym whole ∙ ap (λ (t : List ℕ). front ++ t) cut.split ∙ sym (append_assoc front cut.front cut.rest) })));
}

-- ---- one part

pub says_zeros : {E : Type 0} (r : Result (Unit {0}) E) (told : ℕ → ℕ → Type 0) (offset end at to from until count : ℕ) (kept kept' : Kept) (old text : List ℕ) → old ≡ []
    → shown_to offset end to ≡ shown_to offset end at + (until - from) → from ≤ until → (from < until → at + from ≡ offset + shown_to offset end at) → until ≤ count
    → ((p : ℕ) → at ≤ p → p < at + count → told p 0) → OnOk r (Fed kept kept' (replicate (until - from) 0) old text) → OnOk r (SaysMore told told offset end at to kept kept' text)
says_zeros (Err e) told offset end at to from until count kept kept' old text empty long order place within zero fed = fed
says_zeros (Ok done) told offset end at to from until count kept kept' old text empty long order place within zero fed = λ front is.
    let n : ℕ = until - from in
    let size : length (replicate n 0) ≡ n = length-replicate n 0 in
    let fed' : Fed kept kept' (replicate n 0) [] text = subst (λ (t : List ℕ). Fed kept kept' (replicate n 0) t text) empty fed in
    said_more told told (λ p byte t. t) offset end at to kept kept' (replicate n 0) front text is fed' (long ∙ ap (λ (k : ℕ). shown_to offset end at + k) (sym size))
    (λ i lt.
    let less : i < n = subst (λ (k : ℕ). i < k) size lt in
    let e : at + from ≡ offset + shown_to offset end at = place (omega arith) in
    let p : at + from + i ≡ offset + shown_to offset end at + i = omega arith in
    subst (λ (b : ℕ). told (offset + shown_to offset end at + i) b) (sym (get_or-replicate n i 0 0 less)) (subst (λ (q : ℕ). told q 0) p (zero (at + from + i) (omega arith) (omega arith))))

pub says_bytes : {E : Type 0} (r : Result (Unit {0}) E) (told told' : ℕ → ℕ → Type 0) → ((p byte : ℕ) → told p byte → told' p byte) → (offset end at to from until count : ℕ) (kept kept' : Kept) (bytes piece old text : List ℕ) → old ≡ []
    → shown_to offset end to ≡ shown_to offset end at + (until - from) → from ≤ until → (from < until → at + from ≡ offset + shown_to offset end at) → until ≤ count → length bytes ≡ count
    → ((i : ℕ) → i < count → told' (at + i) (get_or bytes i 0)) → piece ≡ take (until - from) (drop from bytes) → OnOk r (Fed kept kept' piece old text) → OnOk r (SaysMore told told' offset end at to kept kept' text)
says_bytes (Err e) told told' t offset end at to from until count kept kept' bytes piece old text empty long order place within size here cut fed = fed
says_bytes (Ok done) told told' t offset end at to from until count kept kept' bytes piece old text empty long order place within size here cut fed = λ front is.
    let n : ℕ = until - from in
    let left = length-drop from bytes in
    let many : length (take n (drop from bytes)) ≡ n = length-take-le n (drop from bytes) (omega arith) in
    let some : length piece ≡ n = ap (λ (x : List ℕ). length x) cut ∙ many in
    let fed' : Fed kept kept' piece [] text = subst (λ (x : List ℕ). Fed kept kept' piece x text) empty fed in
    said_more told told' t offset end at to kept kept' piece front text is fed' (long ∙ ap (λ (k : ℕ). shown_to offset end at + k) (sym some))
    (λ i lt.
    let less : i < n = subst (λ (k : ℕ). i < k) some lt in
    let e : at + from ≡ offset + shown_to offset end at = place (omega arith) in
    let p : at + (from + i) ≡ offset + shown_to offset end at + i = omega arith in
    let byte : get_or piece i 0 ≡ get_or bytes (from + i) 0 = ap (λ (x : List ℕ). get_or x i 0) cut ∙ get_or-take n (drop from bytes) i 0 less ∙ get_or-drop from bytes i 0 in
    subst (λ (b : ℕ). told' (offset + shown_to offset end at + i) b) (sym byte) (subst (λ (q : ℕ). told' q (get_or bytes (from + i) 0)) p (here (from + i) (omega arith))))

-- nothing is said yet
pub nothing_said : (told : ℕ → ℕ → Type 0) (offset end at : ℕ) (kept : Kept) → at ≤ offset → Stands offset [] kept → IsSaid told offset end at kept []
unfolding said
nothing_said told offset end at kept low is = record { bytes = []; told_are = λ i lt. absurd (omega (arith, lt)); count = omega arith; stands = is; said_is = refl }
