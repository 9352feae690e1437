-- A text is cut at the first place of a mark in one way.
use Rattle.std.proofs.Common.{◌≡◌, ◌≢◌, ◌∙◌, ℕ, List, [], ◌∷◌, ◌++◌, All, true, false, cond, eqb, refl, sym, ap, arith, length, length-append}
use Rattle.std.proofs.lemmas.Bool.Decides.{nat_tests}
use Rattle.std.proofs.lemmas.List.Elements.{All-head, All-tail}
use Rattle.lnbd_lines.specs.Grammar.{IsCut}

-- what stands before the first mark, and behind it: all, and nothing, where there is no mark
abbrev pub before : ℕ → List ℕ → List ℕ
before mark [] = []
before mark (c ∷ cs) = cond (eqb c mark) [] (c ∷ before mark cs)

abbrev pub behind : ℕ → List ℕ → List ℕ
behind mark [] = []
behind mark (c ∷ cs) = cond (eqb c mark) cs (behind mark cs)

other : (mark c : ℕ) → c ≢ mark → eqb c mark ≡ false
other mark c h = grind (arith, nat_tests)

same : (mark : ℕ) → eqb mark mark ≡ true
same mark = grind (arith, nat_tests)

before-word : (mark : ℕ) (word rest : List ℕ) → All (λ c. c ≢ mark) word → before mark (word ++ mark ∷ rest) ≡ word
before-word mark [] rest all = rw (same mark) refl
before-word mark (c ∷ word) rest all =
    rw (other mark c (All-head (λ c. c ≢ mark) c word all)) (ap (λ cs. c ∷ cs) (before-word mark word rest (All-tail (λ c. c ≢ mark) c word all)))

behind-word : (mark : ℕ) (word rest : List ℕ) → All (λ c. c ≢ mark) word → behind mark (word ++ mark ∷ rest) ≡ rest
behind-word mark [] rest all = rw (same mark) refl
behind-word mark (c ∷ word) rest all =
    rw (other mark c (All-head (λ c. c ≢ mark) c word all)) (behind-word mark word rest (All-tail (λ c. c ≢ mark) c word all))

pub before_is : (mark : ℕ) (text word rest : List ℕ) → IsCut mark text word rest → before mark text ≡ word
before_is mark text word rest h = ap (before mark) h.spelled ∙ before-word mark word rest h.one_word

pub behind_is : (mark : ℕ) (text word rest : List ℕ) → IsCut mark text word rest → behind mark text ≡ rest
behind_is mark text word rest h = ap (behind mark) h.spelled ∙ behind-word mark word rest h.one_word

pub cut_once : (mark : ℕ) (text a b c d : List ℕ) → IsCut mark text a b → IsCut mark text c d → (a ≡ c) × (b ≡ d)
cut_once mark text a b c d h k =
    (sym (before_is mark text a b h) ∙ before_is mark text c d k, sym (behind_is mark text a b h) ∙ behind_is mark text c d k)

-- a text without the mark stands before it whole
pub uncut_before : (mark : ℕ) (text : List ℕ) → All (λ c. c ≢ mark) text → before mark text ≡ text
uncut_before mark [] all = refl
uncut_before mark (c ∷ text) all =
    rw (other mark c (All-head (λ c. c ≢ mark) c text all)) (ap (λ cs. c ∷ cs) (uncut_before mark text (All-tail (λ c. c ≢ mark) c text all)))

pub uncut_behind : (mark : ℕ) (text : List ℕ) → All (λ c. c ≢ mark) text → behind mark text ≡ []
uncut_behind mark [] all = refl
uncut_behind mark (c ∷ text) all =
    rw (other mark c (All-head (λ c. c ≢ mark) c text all)) (uncut_behind mark text (All-tail (λ c. c ≢ mark) c text all))

-- and it is not cut
pub uncut : (mark : ℕ) (text a b : List ℕ) → All (λ c. c ≢ mark) text → IsCut mark text a b → ⊥
uncut mark text a b all h =
    let short : length text ≡ length a = ap length (sym (uncut_before mark text all) ∙ before_is mark text a b h) in
    let long : length text ≡ length (a ++ mark ∷ b) = ap length h.spelled in
    omega (arith, short, simp length-append at long)
