-- What is shown stays, so many bytes decide, and sizes, word by word of a grammar.
use Rattle.std.proofs.Common.{◌≡◌, ℕ, ◌+◌, ◌<◌, ◌≤◌, Bool, true, false, List, [], ◌∷◌, ◌++◌, length, take, drop, Option, Some, None, refl, ap, sym, subst, ◌∙◌, arith, nat_lt, if◌then◌else◌, ◌⊎◌, inl, inr}
use Rattle.std.proofs.lemmas.Bool.{ltb-false, lt-ltb, le-ltb, false≢true}
use Rattle.std.proofs.lemmas.List.{length-append, length-drop, drop-append-le, take-append-le}
use Rattle.lnbd_stream.specs.Stream.{Rules}
use Rattle.lnbd_stream.specs.Grammar.{once, wants, each_byte, rules_by_place, Kept, Stays, Reads, Decides, Fits}
use Rattle.lnbd_stream.specs.Laws.{Steady}

module _ {R : Type 0} where
  -- enough bytes, and too few
  pub once_there : (n : ℕ) (bytes : List ℕ) (shown : Option R) → n ≤ length bytes → once n bytes shown ≡ shown
  unfolding once
  once_there n bytes shown enough = ap (λ b. if b then None else shown) (le-ltb (length bytes) n enough)

  pub once_less : (n : ℕ) (bytes : List ℕ) (shown : Option R) → length bytes < n → once n bytes shown ≡ None
  unfolding once
  once_less n bytes shown less = ap (λ b. if b then None else shown) (lt-ltb (length bytes) n less)

  -- a thing that is shown is shown by enough bytes
  pub once_some : (n : ℕ) (bytes : List ℕ) (shown : Option R) (found : R) → once n bytes shown ≡ Some found → (n ≤ length bytes) × (shown ≡ Some found)
  unfolding once
  once_some n bytes shown found e = go (nat_lt (length bytes) n) refl e
    where
      go : (b : Bool) → nat_lt (length bytes) n ≡ b → (if b then None else shown) ≡ Some found → (n ≤ length bytes) × (shown ≡ Some found)
      go true w e = absurd (let c : None ≡ Some found = e in cc)
      go false w e = (ltb-false (length bytes) n w, e)

  pub wants_true : (test : Bool) (fault : R) (shown : Option R) → test ≡ true → wants test fault shown ≡ shown
  unfolding wants
  wants_true true fault shown e = refl
  wants_true false fault shown e = absurd (false≢true e)

  pub wants_false : (test : Bool) (fault : R) (shown : Option R) → test ≡ false → wants test fault shown ≡ Some fault
  unfolding wants
  wants_false true fault shown e = absurd (false≢true (sym e))
  wants_false false fault shown e = refl

  -- what is shown is what follows or the fault
  pub wants_is : (test : Bool) (fault : R) (shown v : Option R) → wants test fault shown ≡ v → ((test ≡ true) × (shown ≡ v)) ⊎ ((test ≡ false) × (Some fault ≡ v))
  unfolding wants
  wants_is true fault shown v e = inl (refl, e)
  wants_is false fault shown v e = inr (refl, e)

  -- What is shown of some bytes is shown of more: pair by pair.

  pub kept_same : (a : Option R) → Kept a a
  kept_same a found e = e

  pub kept_none : (b : Option R) → Kept None b
  kept_none b found e = cc

  pub kept_is : (a b : Option R) → b ≡ a → Kept a b
  kept_is a b is found e = is ∙ e

  pub kept_once : (n : ℕ) (bytes more : List ℕ) (x y : Option R) → (n ≤ length bytes → Kept x y) → Kept (once n bytes x) (once n (bytes ++ more) y)
  kept_once n bytes more x y keep found e =
      let k = once_some n bytes x found e in
      once_there n (bytes ++ more) y (omega (arith, k.0, length-append bytes more)) ∙ keep k.0 found k.1

  pub kept_wants : (test : Bool) (fault : R) (x y : Option R) → Kept x y → Kept (wants test fault x) (wants test fault y)
  unfolding wants
  kept_wants true fault x y keep = keep
  kept_wants false fault x y keep = kept_same (Some fault)

  pub kept_each_byte : (shown : R) (bytes more : List ℕ) → Kept (each_byte shown bytes) (each_byte shown (bytes ++ more))
  unfolding each_byte
  kept_each_byte shown [] more = kept_none (each_byte shown more)
  kept_each_byte shown (byte ∷ bytes) more = kept_same (Some shown)

  -- What is shown stays: word by word.

  pub more_stays : (m n : ℕ) (shows : List ℕ → Option R) → m ≤ n → Stays m shows → Stays n shows
  more_stays m n shows less stays bytes more enough = stays bytes more (omega arith)

  pub read_stays : (n : ℕ) (shows : List ℕ → Option R) → Reads n shows → Stays n shows
  read_stays n shows reads bytes more enough = kept_is (shows bytes) (shows (bytes ++ more)) (reads bytes more enough)

  pub once_stays : (m n : ℕ) (shows : List ℕ → Option R) → Stays n shows → Stays m (λ bytes. once n bytes (shows bytes))
  once_stays m n shows stays bytes more enough = kept_once n bytes more (shows bytes) (shows (bytes ++ more)) (stays bytes more)

  pub wants_stays : (n : ℕ) (test : List ℕ → Bool) (fault : R) (shows : List ℕ → Option R) → Reads n test → Stays n shows → Stays n (λ bytes. wants (test bytes) fault (shows bytes))
  wants_stays n test fault shows reads stays bytes more enough =
      subst (λ t. Kept (wants (test bytes) fault (shows bytes)) (wants t fault (shows (bytes ++ more)))) (sym (reads bytes more enough))
      (kept_wants (test bytes) fault (shows bytes) (shows (bytes ++ more)) (stays bytes more enough))

  pub choice_stays : {A : Type 0} (n : ℕ) (read : List ℕ → A) (shows : A → List ℕ → Option R) → Reads n read → ((a : A) → Stays n (shows a)) → Stays n (λ bytes. shows (read bytes) bytes)
  choice_stays n read shows reads stays bytes more enough =
      subst (λ a. Kept (shows (read bytes) bytes) (shows a (bytes ++ more))) (sym (reads bytes more enough)) (stays (read bytes) bytes more enough)

  pub rest_stays : (m n : ℕ) (shows : List ℕ → Option R) → Stays n shows → Stays (m + n) (λ bytes. shows (drop m bytes))
  rest_stays m n shows stays bytes more enough =
      subst (λ b. Kept (shows (drop m bytes)) (shows b)) (sym (drop-append-le m bytes more (omega arith))) (stays (drop m bytes) more (omega (arith, length-drop m bytes)))

  pub each_byte_stays : (shown : R) → Stays 0 (each_byte shown)
  each_byte_stays shown bytes more enough = kept_each_byte shown bytes more

  pub each_byte_none : (shown : R) → each_byte shown [] ≡ None
  unfolding each_byte
  each_byte_none shown = refl

  pub once_none : (n : ℕ) (shown : Option R) → 0 < n → once n [] shown ≡ None
  once_none n shown some = once_less n [] shown some

  -- So many bytes decide: word by word.

  pub once_decides : {A : Type 0} (seen : Option R → A) (m n : ℕ) (shows : List ℕ → Option R) → m ≤ n → Decides seen n shows → Decides seen n (λ bytes. once m bytes (shows bytes))
  once_decides seen m n shows less decides bytes more enough =
      ap seen (once_there m (bytes ++ more) (shows (bytes ++ more)) (omega (arith, length-append bytes more))) ∙ decides bytes more enough ∙ ap seen (sym (once_there m bytes (shows bytes) (omega arith)))

  pub wants_decides : {A : Type 0} (seen : Option R → A) (n : ℕ) (test : List ℕ → Bool) (fault : R) (shows : List ℕ → Option R) → Reads n test → Decides seen n shows → Decides seen n (λ bytes. wants (test bytes) fault (shows bytes))
  unfolding wants
  wants_decides seen n test fault shows reads decides bytes more enough =
      ap (λ t. seen (wants t fault (shows (bytes ++ more)))) (reads bytes more enough) ∙ go (test bytes)
    where
      go : (t : Bool) → seen (if t then shows (bytes ++ more) else Some fault) ≡ seen (if t then shows bytes else Some fault)
      go true = decides bytes more enough
      go false = refl

  pub choice_decides : {A B : Type 0} (seen : Option R → A) (n : ℕ) (read : List ℕ → B) (shows : B → List ℕ → Option R) → Reads n read → ((b : B) → Decides seen n (shows b)) → Decides seen n (λ bytes. shows (read bytes) bytes)
  choice_decides seen n read shows reads decides bytes more enough = ap (λ b. seen (shows b (bytes ++ more))) (reads bytes more enough) ∙ decides (read bytes) bytes more enough

  pub rest_decides : {A : Type 0} (seen : Option R → A) (m n : ℕ) (shows : List ℕ → Option R) → Decides seen n shows → Decides seen (m + n) (λ bytes. shows (drop m bytes))
  rest_decides seen m n shows decides bytes more enough =
      ap (λ b. seen (shows b)) (drop-append-le m bytes more (omega arith)) ∙ decides (drop m bytes) more (omega (arith, length-drop m bytes))

  -- what is seen of the thing is seen before it is there
  pub whole_decides : {A : Type 0} (seen : Option R → A) (m n : ℕ) (shows : List ℕ → Option R) → ((bytes : List ℕ) → seen (shows bytes) ≡ seen None) → Decides seen n (λ bytes. once m bytes (shows bytes))
  unfolding once
  whole_decides seen m n shows same bytes more enough = nothing (bytes ++ more) ∙ sym (nothing bytes)
    where
      nothing : (b : List ℕ) → seen (once m b (shows b)) ≡ seen None
      nothing b = go (nat_lt (length b) m)
        where
          go : (t : Bool) → seen (if t then None else shows b) ≡ seen None
          go true = refl
          go false = same b

  -- No thing is shown by fewer bytes than its size.

  pub fits_some : (size : R → ℕ) (bytes : List ℕ) (shown : R) → size shown ≤ length bytes → Fits size bytes (Some shown)
  fits_some size bytes shown enough found e = let is : shown ≡ found = cc in subst (λ r. size r ≤ length bytes) is enough

  pub fits_once : (size : R → ℕ) (n : ℕ) (bytes : List ℕ) (shown : Option R) → (n ≤ length bytes → Fits size bytes shown) → Fits size bytes (once n bytes shown)
  fits_once size n bytes shown fits found e = let k = once_some n bytes shown found e in fits k.0 found k.1

  pub fits_wants : (size : R → ℕ) (bytes : List ℕ) (test : Bool) (fault : R) (shown : Option R) → size fault ≤ length bytes → Fits size bytes shown → Fits size bytes (wants test fault shown)
  unfolding wants
  fits_wants size bytes true fault shown small fits = fits
  fits_wants size bytes false fault shown small fits = fits_some size bytes fault small

-- What is read of the first bytes.

pub constant_reads : {A : Type 0} (n : ℕ) (a : A) → Reads n (λ bytes. a)
constant_reads n a bytes more enough = refl

pub more_reads : {A : Type 0} (m n : ℕ) (read : List ℕ → A) → m ≤ n → Reads m read → Reads n read
more_reads m n read less reads bytes more enough = reads bytes more (omega arith)

pub map_reads : {A B : Type 0} (n : ℕ) (f : A → B) (read : List ℕ → A) → Reads n read → Reads n (λ bytes. f (read bytes))
map_reads n f read reads bytes more enough = ap f (reads bytes more enough)

pub both_read : {A B C : Type 0} (n : ℕ) (f : A → B → C) (read : List ℕ → A) (also : List ℕ → B) → Reads n read → Reads n also → Reads n (λ bytes. f (read bytes) (also bytes))
both_read n f read also reads alike bytes more enough = ap (λ a. f a (also (bytes ++ more))) (reads bytes more enough) ∙ ap (f (read bytes)) (alike bytes more enough)

pub part_more : (start size : ℕ) (bytes more : List ℕ) → start + size ≤ length bytes → take size (drop start (bytes ++ more)) ≡ take size (drop start bytes)
part_more start size bytes more enough =
    ap (take size) (drop-append-le start bytes more (omega arith)) ∙ take-append-le size (drop start bytes) more (omega (arith, length-drop start bytes))

pub part_reads : (n start size : ℕ) → start + size ≤ n → Reads n (λ bytes. take size (drop start bytes))
part_reads n start size less bytes more enough = part_more start size bytes more (omega arith)

-- rules are steady where each grammar is
pub steady_rules : {S R : Type 0} (rules : Rules S R) → ((known : S) → Stays 0 (rules.shows known)) → ((known : S) → rules.shows known [] ≡ None) → Steady rules
steady_rules rules stays none = record { stays = λ known bytes more found e. stays known bytes more (omega arith) found e; none = none }

pub steady_by_place : {S P R : Type 0} (place : S → P) (grammar : P → S → List ℕ → Option R) (enter : R → S → S) →
    ((p : P) (known : S) → Stays 0 (grammar p known)) → ((p : P) (known : S) → grammar p known [] ≡ None) → Steady (rules_by_place place grammar enter)
steady_by_place place grammar enter stays none = record { stays = λ known bytes more found e. stays (place known) known bytes more (omega arith) found e; none = λ known. none (place known) known }
