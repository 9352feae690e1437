-- Parts of a transcript, of bytes taken and of bytes left, one after another; and counts that rise.
use Rattle.std.proofs.Common.{◌≡◌, ℕ, ◌+◌, ◌≤◌, List, [], ◌++◌, Option, Some, None, refl, sym, ◌∙◌, ap, append_assoc, arith}
use Rattle.std.proofs.lemmas.List.{append-nil, append_cancel_left}
use Rattle.std.specs.Option.{option_map}
use Rattle.lnbd_link.specs.Part.{Grows, Takes, Gives}
use Rattle.lnbd_link.specs.Contents.{Stored, Keeps}
use Rattle.lnbd_link.specs.Count.{Rises}

-- nothing was called
pub grows_none : {A : Type 0} (old : Option (List A)) → Grows old old []
grows_none old ys is = (ys, is, sym (append-nil ys))

-- one part after another
pub grows_on : {A : Type 0} (a b c : Option (List A)) (p q : List A) → Grows a b p → Grows b c q → Grows a c (p ++ q)
grows_on a b c p q f g ys is =
    let y = g ys is in
    let x = f y.0 y.1 in
    (x.0, x.1, y.2 ∙ ap (λ l. l ++ q) x.2 ∙ append_assoc x.0 p q)

-- where it is told afterwards, the part is the only one
pub grows_once : {A : Type 0} (a b : Option (List A)) (p q ys : List A) → Grows a b p → Grows a b q → b ≡ Some ys → p ≡ q
grows_once a b p q ys f g is =
    let x = f ys is in
    let y = g ys is in
    let same : x.0 ≡ y.0 = cc (x.1, y.1) in
    append_cancel_left x.0 p q (sym x.2 ∙ y.2 ∙ ap (λ l. l ++ q) (sym same))

-- no byte was taken
pub takes_none : {A : Type 0} (old : Option (List A)) → Takes old old []
takes_none None = refl
takes_none (Some xs) = ap (λ l. Some l) (sym (append-nil xs))

-- one part after another
pub takes_on : {A : Type 0} (a b c : Option (List A)) (p q : List A) → Takes a b p → Takes b c q → Takes a c (p ++ q)
takes_on None b c p q f g = g ∙ ap (option_map (λ xs. xs ++ q)) f
takes_on (Some xs) b c p q f g = g ∙ ap (option_map (λ xs. xs ++ q)) f ∙ ap (λ l. Some l) (append_assoc xs p q)

-- no byte came
pub gives_none : {A : Type 0} (old : Option (List A)) → Gives old old []
gives_none None = refl
gives_none (Some xs) = refl

-- one part after another
pub gives_on : {A : Type 0} (a b c : Option (List A)) (p q : List A) → Gives a b p → Gives b c q → Gives a c (p ++ q)
gives_on a b None p q f g = f ∙ ap (option_map (λ ys. p ++ ys)) g
gives_on a b (Some xs) p q f g = f ∙ ap (option_map (λ ys. p ++ ys)) g ∙ ap (λ l. Some l) (sym (append_assoc p q xs))

-- where none is left, all came
pub gives_all : {A : Type 0} (old new : Option (List A)) (part : List A) → Gives old new part → ((ys : List A) → new ≡ Some ys → ys ≡ []) → (xs : List A) → old ≡ Some xs → part ≡ xs
gives_all old None part f none xs is = absurd (cc (f, is))
gives_all old (Some ys) part f none xs is = let e = none ys refl in let h : Some (part ++ ys) ≡ Some xs = sym f ∙ is in sym (append-nil part) ∙ ap (λ l. part ++ l) (sym e) ∙ cc

-- nothing was called, so the contents are as they were
pub keeps_none : (old : Option (List Stored)) → Keeps old old
keeps_none old ys is = (ys, is, refl)

-- one part after another
pub keeps_on : (a b c : Option (List Stored)) → Keeps a b → Keeps b c → Keeps a c
keeps_on a b c f g ys is =
    let y = g ys is in
    let x = f y.0 y.1 in
    (x.0, x.1, y.2 ∙ x.2)

-- a count that rose and then didn't fall rose
pub rises_later : (n a b c : ℕ) → Rises n a b → b ≤ c → Rises n a c
rises_later n a b c r l = omega arith

-- a count that didn't fall and then rose rose
pub rises_earlier : (n a b c : ℕ) → a ≤ b → Rises n b c → Rises n a c
rises_earlier n a b c l r = omega arith

-- a count that rose twice rose by both
pub rises_on : (m n a b c : ℕ) → Rises m a b → Rises n b c → Rises (m + n) a c
rises_on m n a b c r s = omega arith
