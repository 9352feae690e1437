-- A record at the front of what arrived is taken whole.
use Rattle.std.proofs.Common.{◌≡◌, ℕ, ◌+◌, ◌<◌, ◌≤◌, nat_lt, Bool, true, false, List, [], ◌∷◌, ◌++◌, length, take, drop, Option, Some, None, is_some, if◌then◌else◌, refl, ap, sym, ◌∙◌, subst, arith, append_assoc, length-append}
use Rattle.std.proofs.lemmas.Bool.{ltb-true, ltb-false}
use Rattle.std.proofs.lemmas.List.{length-take-le, take-append-drop}
use Rattle.lnbd_model.specs.declared.breach.Breach.{Breach}
use Rattle.lnbd_records.specs.Numbers.{number_at}
use Rattle.lnbd_records.specs.Told.{Told, Body}
use Rattle.lnbd_records.specs.Replies.{body_of}
use Rattle.lnbd_stream.specs.Stream.{fresh, settle, feed}
use Rattle.lnbd_stream.specs.Grammar.{wants, once}
use Rattle.lnbd_stream.proofs.Grammar.{once_there, once_some}
use Rattle.lnbd_stream.proofs.Stream.{feed_found}
use Rattle.lnbd_chunks.proofs.Steady.{at_more}
use Rattle.lnbd_history.specs.Arrivals.{Shown, Hello, OptionReply, ExportReply, Reply, Broken, Passed, Ignored, Sight, shows_hello, shows_option, shows_by_name, shows_whole}
use Rattle.lnbd_machine.specs.Machine.{Doing, enter, sight, table_rules}
use Rattle.lnbd_machine.proofs.Partial.{table_steady}

-- no breach
IsGood : Shown → Type 0
IsGood (Broken breach) = ⊥
IsGood (Hello flags) = Unit {0}
IsGood (OptionReply told) = Unit {0}
IsGood (ExportReply size flags) = Unit {0}
IsGood (Reply frame) = Unit {0}
IsGood Passed = Unit {0}
IsGood Ignored = Unit {0}

good : (test : Bool) (breach : Breach) (shown : Option Shown) (found : Shown) → IsGood found → wants test (Broken breach) shown ≡ Some found → shown ≡ Some found
unfolding wants IsGood
good true breach shown found ok e = e
good false breach shown found ok e = let is : found ≡ Broken breach = cc in absurd (subst IsGood is ok)

some_once : (n : ℕ) (bytes : List ℕ) (shown : Option Shown) → n ≤ length bytes → is_some shown ≡ true → is_some (once n bytes shown) ≡ true
some_once n bytes shown h e = ap is_some (once_there n bytes shown h) ∙ e

some_wants : (test : Bool) (breach : Breach) (shown : Option Shown) → is_some shown ≡ true → is_some (wants test (Broken breach) shown) ≡ true
unfolding wants
some_wants true breach shown e = e
some_wants false breach shown e = refl

-- The hello.

hello_there : (bytes : List ℕ) → 18 ≤ length bytes → is_some (shows_hello bytes) ≡ true
unfolding shows_hello
hello_there bytes h =
    some_once 8 bytes _ (omega (arith, h)) (some_wants _ _ _ (some_once 16 bytes _ (omega (arith, h)) (some_wants _ _ _ (some_wants _ _ _ (some_once 18 bytes _ h (some_wants _ _ _ refl))))))

hello_sized : (bytes : List ℕ) (flags : ℕ) → shows_hello bytes ≡ Some (Hello flags) → 18 ≤ length bytes
unfolding shows_hello IsGood
hello_sized bytes flags e =
    let a = once_some 8 bytes _ (Hello flags) e in
    let b = once_some 16 bytes _ (Hello flags) (good _ _ _ (Hello flags) tt a.1) in
    (once_some 18 bytes _ (Hello flags) (good _ _ _ (Hello flags) tt (good _ _ _ (Hello flags) tt b.1))).0

-- The reply to EXPORT_NAME.

by_name_there : (n : Bool) (bytes : List ℕ) → (if n then 10 else 134) ≤ length bytes → is_some (shows_by_name n bytes) ≡ true
unfolding shows_by_name
by_name_there n bytes h = some_once (if n then 10 else 134) bytes _ h (some_wants _ _ _ refl)

by_name_sized : (n : Bool) (bytes : List ℕ) (found : Shown) → shows_by_name n bytes ≡ Some found → (if n then 10 else 134) ≤ length bytes
unfolding shows_by_name
by_name_sized n bytes found e = (once_some (if n then 10 else 134) bytes _ found e).0

-- Option replies.

whole_some : (sight : Sight) (option type : ℕ) (body : Option Body) → is_some (shows_whole sight option type body) ≡ true
whole_some sight option type None = refl
whole_some sight option type (Some body) = some_wants _ _ _ (some_wants _ _ _ (some_wants _ _ _ (some_wants _ _ _ refl)))

option_there : (sight : Sight) (bytes : List ℕ) → 20 + number_at 16 4 bytes ≤ length bytes → is_some (shows_option sight bytes) ≡ true
unfolding shows_option
option_there sight bytes h =
    some_once 8 bytes _ (omega (arith, h)) (some_wants _ _ _ (some_once 20 bytes _ (omega (arith, h)) (some_wants _ _ _ (some_wants _ _ _ (some_wants _ _ _ (some_once (20 + number_at 16 4 bytes) bytes _ h (whole_some sight (number_at 8 4 bytes) (number_at 12 4 bytes) (body_of (number_at 12 4 bytes) (take (number_at 16 4 bytes) (drop 20 bytes))))))))))

option_sized : (sight : Sight) (bytes : List ℕ) (told : Told) → shows_option sight bytes ≡ Some (OptionReply told) → 20 + number_at 16 4 bytes ≤ length bytes
unfolding shows_option IsGood
option_sized sight bytes told e =
    let found = OptionReply told in
    let a = once_some 8 bytes _ found e in
    let b = once_some 20 bytes _ found (good _ _ _ found tt a.1) in
    (once_some (20 + number_at 16 4 bytes) bytes _ found (good _ _ _ found tt (good _ _ _ found tt (good _ _ _ found tt b.1)))).0

no_more : (more : List ℕ) → length more ≡ 0 → more ≡ []
no_more [] e = refl
no_more (m ∷ ms) e = absurd (omega (arith, e))

-- a number in the first n bytes
first_at : (place width n : ℕ) (rest : List ℕ) → n ≤ length rest → place + width ≤ n → number_at place width (take n rest) ≡ number_at place width rest
first_at place width n rest fits h =
    let long : length (take n rest) ≡ n = length-take-le n rest fits in
    sym (at_more place width (take n rest) (drop n rest) (omega (arith, long, h))) ∙ ap (number_at place width) (take-append-drop n rest)

module _ {K : Type 0} where
  abbrev pub shows : Doing K → List ℕ → Option Shown
  shows doing bytes = (table_rules {K = K}).shows doing bytes

  -- each byte is ignored
  abbrev pub Ignores : Doing K → Type 0
  Ignores doing = (byte : ℕ) → shows doing (byte ∷ []) ≡ Some Ignored

  pub feed_ignored : (doing : Doing K) (bytes : List ℕ) → Ignores doing → feed (table_rules {K = K}) (fresh doing) bytes ≡ fresh doing
  feed_ignored doing [] h = refl
  feed_ignored doing (byte ∷ bytes) h = ap (λ v. feed (table_rules {K = K}) (settle (table_rules {K = K}) doing (byte ∷ []) v) bytes) (h byte) ∙ feed_ignored doing bytes h

  pub broke : (doing : Doing K) (rest : List ℕ) (breach : Breach) → shows doing rest ≡ Some (Broken breach) → Ignores (enter (Broken breach) doing) → feed (table_rules {K = K}) (fresh doing) rest ≡ fresh (enter (Broken breach) doing)
  broke doing rest breach e h =
      let f = feed_found (table_rules {K = K}) table_steady doing rest (Broken breach) e in
      f.4 ∙ feed_ignored (enter (Broken breach) doing) f.1 h

  pub took : (doing : Doing K) (rest : List ℕ) (n : ℕ) (found : Shown) → n ≤ length rest → shows doing rest ≡ Some found → is_some (shows doing (take n rest)) ≡ true →
      ((x y : List ℕ) → rest ≡ x ++ y → shows doing x ≡ Some found → n ≤ length x) → feed (table_rules {K = K}) (fresh doing) (take n rest) ≡ fresh (enter found doing)
  took doing rest n found fits e there sized = go (shows doing (take n rest)) refl there
    where
      go : (o : Option Shown) → shows doing (take n rest) ≡ o → is_some o ≡ true → feed (table_rules {K = K}) (fresh doing) (take n rest) ≡ fresh (enter found doing)
      go None is some = cc
      go (Some other) is some =
          let joined : take n rest ++ drop n rest ≡ rest = take-append-drop n rest in
          let later : shows doing rest ≡ Some other = ap (shows doing) (sym joined) ∙ table_steady.stays doing (take n rest) (drop n rest) other is in
          let same : Some other ≡ Some found = sym later ∙ e in
          let f = feed_found (table_rules {K = K}) table_steady doing (take n rest) found (is ∙ same) in
          let all : rest ≡ f.0 ++ (f.1 ++ drop n rest) = sym joined ∙ ap (λ t. t ++ drop n rest) f.2 ∙ append_assoc f.0 f.1 (drop n rest) in
          let enough : n ≤ length f.0 = sized f.0 (f.1 ++ drop n rest) all f.3.shown in
          let lengths : n ≡ length f.0 + length f.1 = sym (length-take-le n rest fits) ∙ ap length f.2 ∙ length-append f.0 f.1 in
          let none : f.1 ≡ [] = no_more f.1 (omega (arith, enough, lengths)) in
          f.4 ∙ ap (feed (table_rules {K = K}) (fresh (enter found doing))) none

  -- what is shown by just so many bytes, and nothing by fewer
  pub took_shown : (doing : Doing K) (rest : List ℕ) (n : ℕ) (found : Shown) → n ≤ length rest → shows doing (take n rest) ≡ Some found →
      ((front more : List ℕ) → rest ≡ front ++ more → length front < n → shows doing front ≡ None) → feed (table_rules {K = K}) (fresh doing) (take n rest) ≡ fresh (enter found doing)
  took_shown doing rest n found fits here before =
      took doing rest n found fits
      (ap (shows doing) (sym (take-append-drop n rest)) ∙ table_steady.stays doing (take n rest) (drop n rest) found here)
      (ap is_some here)
      (λ x y all shown. sized x y all shown (nat_lt (length x) n) refl)
    where
      sized : (x y : List ℕ) → rest ≡ x ++ y → shows doing x ≡ Some found → (b : Bool) → nat_lt (length x) n ≡ b → n ≤ length x
      sized x y all shown true is = let none = before x y all (ltb-true (length x) n is) in absurd (cc (none, shown))
      sized x y all shown false is = ltb-false (length x) n is

  pub took_hello : (doing : Doing K) (rest : List ℕ) (flags : ℕ) → ((b : List ℕ) → shows doing b ≡ shows_hello b) → 18 ≤ length rest → shows_hello rest ≡ Some (Hello flags) →
      feed (table_rules {K = K}) (fresh doing) (take 18 rest) ≡ fresh (enter (Hello flags) doing)
  took_hello doing rest flags same fits e =
      let long : length (take 18 rest) ≡ 18 = length-take-le 18 rest fits in
      took doing rest 18 (Hello flags) fits (same rest ∙ e) (ap is_some (same (take 18 rest)) ∙ hello_there (take 18 rest) (omega (arith, long)))
      (λ x y all shown. hello_sized x flags (sym (same x) ∙ shown))

  pub took_by_name : (doing : Doing K) (rest : List ℕ) (n : Bool) (found : Shown) → ((b : List ℕ) → shows doing b ≡ shows_by_name n b) → (if n then 10 else 134) ≤ length rest → shows_by_name n rest ≡ Some found →
      feed (table_rules {K = K}) (fresh doing) (take (if n then 10 else 134) rest) ≡ fresh (enter found doing)
  took_by_name doing rest n found same fits e =
      let size : ℕ = if n then 10 else 134 in
      let long : length (take size rest) ≡ size = length-take-le size rest fits in
      took doing rest size found fits (same rest ∙ e) (ap is_some (same (take size rest)) ∙ by_name_there n (take size rest) (omega (arith, long)))
      (λ x y all shown. by_name_sized n x found (sym (same x) ∙ shown))

  pub took_option : (doing : Doing K) (rest : List ℕ) (size : ℕ) (told : Told) → ((b : List ℕ) → shows doing b ≡ shows_option (sight doing.state) b) → size ≡ number_at 16 4 rest → 20 + size ≤ length rest →
      shows_option (sight doing.state) rest ≡ Some (OptionReply told) → feed (table_rules {K = K}) (fresh doing) (take (20 + size) rest) ≡ fresh (enter (OptionReply told) doing)
  took_option doing rest size told same sized fits e =
      let long : length (take (20 + size) rest) ≡ 20 + size = length-take-le (20 + size) rest fits in
      let number : number_at 16 4 (take (20 + size) rest) ≡ size = first_at 16 4 (20 + size) rest fits (omega arith) ∙ sym sized in
      took doing rest (20 + size) (OptionReply told) fits (same rest ∙ e)
      (ap is_some (same (take (20 + size) rest)) ∙ option_there (sight doing.state) (take (20 + size) rest) (omega (arith, long, number)))
      (λ x y all shown.
      let enough = option_sized (sight doing.state) x told (sym (same x) ∙ shown) in
      let equal : size ≡ number_at 16 4 x = sized ∙ ap (number_at 16 4) all ∙ at_more 16 4 x y (omega (arith, enough)) in
      omega (arith, enough, equal))
