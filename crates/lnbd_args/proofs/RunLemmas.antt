-- The first `--run` divides the words behind `serve` in one way.
use Rattle.std.proofs.Common.{◌≡◌, ◌≢◌, ◌∙◌, ◌<◌, ◌≤◌, ◌==◌, true≢false, ℕ, zero, suc, Bool, true, false, List, [], ◌∷◌, ◌++◌, All, codes, drop, get_or, length, map, refl, sym, ap, subst, arith, string_bytes, String}
use Rattle.std.specs.Prelude.{⊤, if◌then◌else◌}
use Rattle.std.specs.Str.{bytes_eq}
use Rattle.std.specs.Cmp.Lexicographic.{other_text, same_text}
use Rattle.std.specs.declared.alloc.Global.{Global}
use Rattle.std.proofs.lemmas.Bool.{eqb-true}
use Rattle.std.proofs.lemmas.List.{length-map, map-append}
use Rattle.std.proofs.lemmas.List.Elements.{All-cons, All-head, All-nil, All-tail}
use Rattle.lnbd_args.specs.Tools.{IsSplit, run_words}
use Rattle.lnbd_args.specs.Words.{Word}
use Rattle.lnbd_args.specs.Written.{run_at}

-- the word is not `--run`
abbrev pub IsPlain : Word → Type 0
IsPlain word = word ≢ codes "--run"

-- the words are none, or the first of them is `--run`
abbrev pub IsTail : List Word → Type 0
IsTail [] = ⊤
IsTail (w ∷ ws) = w ≡ codes "--run"

tail_of : (run : List Word) → IsTail (run_words run)
tail_of [] = tt
tail_of (program ∷ words) = refl

-- ---- one division

no_list : (w : Word) (ws : List Word) → [] ≡ w ∷ ws → ⊥
no_list w ws e = let n = ap length e in absurd (omega (arith, n))

join_once : (own other xs ys : List Word) → All IsPlain own → All IsPlain other → IsTail xs → IsTail ys → own ++ xs ≡ other ++ ys → (own ≡ other) × (xs ≡ ys)
join_once [] [] xs ys h k t u e = (refl, e)
join_once [] (w ∷ ws) [] ys h k t u e = absurd (no_list w (ws ++ ys) e)
join_once [] (w ∷ ws) (x ∷ xs) ys h k t u e = absurd (All-head IsPlain w ws k (ap (λ l. get_or l 0 []) (sym e) ∙ t))
join_once (v ∷ vs) [] xs [] h k t u e = absurd (no_list v (vs ++ xs) (sym e))
join_once (v ∷ vs) [] xs (y ∷ ys) h k t u e = absurd (All-head IsPlain v vs h (ap (λ l. get_or l 0 []) e ∙ u))
join_once (v ∷ vs) (w ∷ ws) xs ys h k t u e =
    let first : v ≡ w = ap (λ l. get_or l 0 []) e in
    let rest = join_once vs ws xs ys (All-tail IsPlain v vs h) (All-tail IsPlain w ws k) t u (ap (λ l. drop 1 l) e) in
    ((λ i. first i ∷ rest.0 i), rest.1)

run_once : (run more : List Word) → run_words run ≡ run_words more → run ≡ more
run_once [] [] e = refl
run_once [] (w ∷ ws) e = absurd (no_list (codes "--run") (w ∷ ws) e)
run_once (v ∷ vs) [] e = absurd (no_list (codes "--run") (v ∷ vs) (sym e))
run_once (v ∷ vs) (w ∷ ws) e = ap (λ l. drop 1 l) e

pub split_once : (words own run other more : List Word) → IsSplit words own run → IsSplit words other more → (own ≡ other) × (run ≡ more)
split_once words own run other more h k =
    let both = join_once own other (run_words run) (run_words more) h.first k.first (tail_of run) (tail_of more) (sym h.joined ∙ k.joined) in
    (both.0, run_once run more both.1)

-- ---- where it is found

-- a front that is as long as where `--run` stands
parted : (xs ys : List Word) → length xs ≡ run_at (xs ++ ys) → All IsPlain xs × IsTail ys
parted [] [] e = (All-nil IsPlain, tt)
parted [] (y ∷ ys) e = (All-nil IsPlain, by_test (bytes_eq y (codes "--run")) refl e)
  where
    by_test : (b : Bool) → bytes_eq y (codes "--run") ≡ b → 0 ≡ (if b then 0 else suc (run_at ys)) → y ≡ codes "--run"
    by_test true is e = same_text y (codes "--run") (sym is)
    by_test false is e = absurd (omega (arith, e))
parted (x ∷ xs) ys e = by_test (bytes_eq x (codes "--run")) refl e (λ f. parted xs ys f)
  where
    by_test : (b : Bool) → bytes_eq x (codes "--run") ≡ b → suc (length xs) ≡ (if b then 0 else suc (run_at (xs ++ ys)))
        → (length xs ≡ run_at (xs ++ ys) → All IsPlain xs × IsTail ys) → All IsPlain (x ∷ xs) × IsTail ys
    by_test true is e go = absurd (omega (arith, e))
    by_test false is e go = let rest = go (omega (arith, e)) in (All-cons IsPlain x xs (other_text x (codes "--run") (sym is)) rest.0, rest.1)

run_at_fits : (ws : List Word) → run_at ws ≤ length ws
run_at_fits [] = omega arith
run_at_fits (w ∷ ws) = by_test (bytes_eq w (codes "--run")) (run_at_fits ws)
  where
    by_test : (b : Bool) → run_at ws ≤ length ws → (if b then 0 else suc (run_at ws)) ≤ suc (length ws)
    by_test true h = omega arith
    by_test false h = omega (arith, h)

pub run_at_within : (ws : List (String Global)) → run_at (map string_bytes ws) ≤ length ws
run_at_within ws = let n = length-map ws string_bytes in let fits = run_at_fits (map string_bytes ws) in omega (arith, n, fits)

-- the words before it, and the others
divided : (ws xs ys : List (String Global)) → ws ≡ xs ++ ys → length xs ≡ run_at (map string_bytes ws) → All IsPlain (map string_bytes xs) × IsTail (map string_bytes ys)
divided ws xs ys e n =
    parted (map string_bytes xs) (map string_bytes ys) (length-map xs string_bytes ∙ n ∙ ap run_at (ap (map string_bytes) e ∙ map-append string_bytes xs ys))

-- nothing stands behind the first `--run`
none_behind : (words own : List Word) (w : Word) → All IsPlain own → w ≡ codes "--run" → words ≡ own ++ w ∷ [] → (other run : List Word) → IsSplit words other run → ⊥
none_behind words own w h t e other run k = no_behind run (join_once own other (w ∷ []) (run_words run) h k.first t (tail_of run) (sym e ∙ k.joined)).1
  where
    no_behind : (run : List Word) → w ∷ [] ≡ run_words run → ⊥
    no_behind [] f = no_list w [] (sym f)
    no_behind (program ∷ rest) f = no_list program rest (ap (λ l. drop 1 l) f)

-- ---- the loop that looks for it

pub stops : (words : List (String Global)) (i : ℕ) (d : String Global) → i < length words → bytes_eq (string_bytes (get_or words i d)) (codes "--run") ≡ true → run_at (map string_bytes (drop i words)) ≡ 0
stops [] i d within is = absurd (omega (arith, within))
stops (w ∷ ws) zero d within is = ap (λ (b : Bool). if b then 0 else suc (run_at (map string_bytes ws))) is
stops (w ∷ ws) (suc i) d within is = stops ws i d (omega (arith, within)) is

-- ---- the words, cut where it is found

empty_is : (ys : List (String Global)) → length ys ≡ 0 → ys ≡ []
empty_is [] n = refl
empty_is (y ∷ ys) n = absurd (omega (arith, n))

module _ (ws xs ys : List (String Global)) (cut : ws ≡ xs ++ ys) (here : length xs ≡ run_at (map string_bytes ws)) where
  spelled : map string_bytes ws ≡ map string_bytes xs ++ map string_bytes ys
  spelled = ap (map string_bytes) cut ∙ map-append string_bytes xs ys

  pub not_found : length ys ≡ 0 → IsSplit (map string_bytes ws) (map string_bytes xs) (map string_bytes ys)
  not_found n = let none = empty_is ys n in record {
    joined = spelled ∙ ap (λ l. map string_bytes xs ++ l) (ap (map string_bytes) none ∙ sym (ap (λ l. run_words (map string_bytes l)) none));
    first = (divided ws xs ys cut here).0;
  }

  pub found : (w : String Global) (run : List (String Global)) → ys ≡ w ∷ run → (length run == 0) ≡ false → IsSplit (map string_bytes ws) (map string_bytes xs) (map string_bytes run)
  found w [] e some = absurd (true≢false some)
  found w (program ∷ rest) e some =
      let tail = (divided ws xs ys cut here).1 in
      let word : string_bytes w ≡ codes "--run" = subst (λ l. IsTail (map string_bytes l)) e tail in
      record {
        joined = spelled ∙ ap (λ l. map string_bytes xs ++ map string_bytes l) e ∙ ap (λ x. map string_bytes xs ++ x ∷ map string_bytes (program ∷ rest)) word;
        first = (divided ws xs ys cut here).0;
      }

  pub found_alone : (w : String Global) (run : List (String Global)) → ys ≡ w ∷ run → (length run == 0) ≡ true → (own more : List Word) → IsSplit (map string_bytes ws) own more → ⊥
  found_alone w (program ∷ rest) e none = let n = eqb-true (length (program ∷ rest)) 0 none in absurd (omega (arith, n))
  found_alone w [] e none =
      let tail = (divided ws xs ys cut here).1 in
      let word : string_bytes w ≡ codes "--run" = subst (λ l. IsTail (map string_bytes l)) e tail in
      none_behind (map string_bytes ws) (map string_bytes xs) (string_bytes w) (divided ws xs ys cut here).0 word (spelled ∙ ap (λ l. map string_bytes xs ++ map string_bytes l) e)
