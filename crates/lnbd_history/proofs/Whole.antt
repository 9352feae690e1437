-- A hello, and a reply to an option, that is told is a whole record.
use Rattle.std.proofs.Common.{◌≡◌, ℕ, ◌+◌, ◌≤◌, Bool, true, false, List, [], ◌∷◌, length, take, drop, Option, Some, None, refl, ap, sym, subst, ◌∙◌, arith, ◌⊎◌, inl, inr}
use Rattle.std.proofs.lemmas.Bool.{eqb-true}
use Rattle.std.proofs.lemmas.List.{take-append-drop, length-drop, length-take-le}
use Rattle.lnbd_model.specs.declared.breach.Breach.{Breach}
use Rattle.lnbd_records.specs.Handshake.{init_magic, option_magic, option_reply_magic, option_reply_head}
use Rattle.lnbd_records.specs.Numbers.{number, IsRow, IsRowThen, IsBytes, Begins, number_at}
use Rattle.lnbd_records.specs.Replies.{body_of, Tells}
use Rattle.lnbd_records.specs.Told.{Told, Body}
use Rattle.lnbd_records.proofs.NumberLaws.{reads_then, read_begins, bytes_of_drop, bytes_of_take}
use Rattle.lnbd_records.proofs.ReplyLemmas.{from_told}
use Rattle.lnbd_stream.specs.Grammar.{wants}
use Rattle.lnbd_stream.proofs.Grammar.{once_some, wants_is}
use Rattle.lnbd_history.specs.Arrivals.{Shown, Hello, OptionReply, Broken, Sight, shows_hello, shows_option, shows_whole}
use Rattle.lnbd_history.specs.Filled.{HelloIsWhole, OptionReplyIsWhole}

-- no breach was shown
abbrev is_broken : Shown → Bool
is_broken (Broken breach) = true
is_broken shown = false

passed : (test : Bool) (breach : Breach) (shown : Option Shown) (found : Shown) → is_broken found ≡ false → wants test (Broken breach) shown ≡ Some found → (test ≡ true) × (shown ≡ Some found)
passed test breach shown found sound e = go (wants_is test (Broken breach) shown (Some found) e)
  where
    go : ((test ≡ true) × (shown ≡ Some found)) ⊎ ((test ≡ false) × (Some (Broken breach) ≡ Some found)) → (test ≡ true) × (shown ≡ Some found)
    go (inl both) = both
    go (inr bad) =
        let same : Broken breach ≡ found = let x = bad.1 in cc in
        let broken : true ≡ false = ap is_broken same ∙ sound in
        absurd (cc)

abbrev flags_in : Option Shown → ℕ
flags_in (Some (Hello flags)) = flags
flags_in shown = 0

abbrev told_in : Told → Option Shown → Told
told_in other (Some (OptionReply told)) = told
told_in other shown = other

pub hello_is_whole : HelloIsWhole
unfolding shows_hello
hello_is_whole flags bytes h e =
    let a = once_some 8 bytes _ _ e in
    let b = passed _ _ _ _ refl a.1 in
    let c = once_some 16 bytes _ _ b.1 in
    let d = passed _ _ _ _ refl c.1 in
    let f = passed _ _ _ _ refl d.1 in
    let g = once_some 18 bytes _ _ f.1 in
    let i = passed _ _ _ _ refl g.1 in
    let there : Begins (IsRow (number 8 (number_at 0 8 bytes) ∷ number 8 (number_at 8 8 bytes) ∷ number 2 (number_at 16 2 bytes) ∷ [])) bytes = read_begins (8 ∷ 8 ∷ 2 ∷ []) bytes h g.0 in
    let first : number_at 0 8 bytes ≡ init_magic = eqb-true (number_at 0 8 bytes) init_magic b.0 in
    let second : number_at 8 8 bytes ≡ option_magic = eqb-true (number_at 8 8 bytes) option_magic f.0 in
    let third : number_at 16 2 bytes ≡ flags = ap flags_in i.1 in
    subst (λ (x : ℕ). Begins (IsRow (number 8 init_magic ∷ number 8 option_magic ∷ number 2 x ∷ [])) bytes) third
    (subst (λ (x : ℕ). Begins (IsRow (number 8 init_magic ∷ number 8 x ∷ number 2 (number_at 16 2 bytes) ∷ [])) bytes) second
    (subst (λ (x : ℕ). Begins (IsRow (number 8 x ∷ number 8 (number_at 8 8 bytes) ∷ number 2 (number_at 16 2 bytes) ∷ [])) bytes) first there))

-- what is shown of a whole reply tells its body
body_tells : (sight : Sight) (option type : ℕ) (bytes : List ℕ) (body : Option Body) (told : Told) → IsBytes bytes → body_of type bytes ≡ body → shows_whole sight option type body ≡ Some (OptionReply told) → Tells type bytes told
body_tells sight option type bytes None told h is e =
    let bad : true ≡ false = ap (λ shown. broken_in shown) e in
    absurd (cc)
  where
    broken_in : Option Shown → Bool
    broken_in (Some shown) = is_broken shown
    broken_in None = false
body_tells sight option type bytes (Some body) told h is e =
    let a = passed _ _ _ _ refl e in
    let b = passed _ _ _ _ refl a.1 in
    let c = passed _ _ _ _ refl b.1 in
    let d = passed _ _ _ _ refl c.1 in
    let same : body.told ≡ told = ap (told_in told) d.1 in
    subst (λ (t : Told). Tells type bytes t) same (from_told type bytes body h is).tells

pub option_reply_is_whole : OptionReplyIsWhole
unfolding shows_option
option_reply_is_whole sight told bytes h e =
    let a = once_some 8 bytes _ _ e in
    let b = passed _ _ _ _ refl a.1 in
    let c = once_some 20 bytes _ _ b.1 in
    let d = passed _ _ _ _ refl c.1 in
    let f = passed _ _ _ _ refl d.1 in
    let g = passed _ _ _ _ refl f.1 in
    let i = once_some (20 + number_at 16 4 bytes) bytes _ _ g.1 in
    let enough : number_at 16 4 bytes ≤ length (drop 20 bytes) = omega (arith, i.0, length-drop 20 bytes) in
    let magic : number_at 0 8 bytes ≡ option_reply_magic = eqb-true (number_at 0 8 bytes) option_reply_magic b.0 in
    let count : length (take (number_at 16 4 bytes) (drop 20 bytes)) ≡ number_at 16 4 bytes = length-take-le (number_at 16 4 bytes) (drop 20 bytes) enough in
    let head : IsRowThen (number 8 (number_at 0 8 bytes) ∷ number 4 (number_at 8 4 bytes) ∷ number 4 (number_at 12 4 bytes) ∷ number 4 (number_at 16 4 bytes) ∷ []) (drop 20 bytes) bytes = reads_then (8 ∷ 4 ∷ 4 ∷ 4 ∷ []) bytes h c.0 in
    let named : IsRowThen (option_reply_head (number_at 8 4 bytes) (number_at 12 4 bytes) (number_at 16 4 bytes)) (drop 20 bytes) bytes =
    subst (λ (m : ℕ). IsRowThen (number 8 m ∷ number 4 (number_at 8 4 bytes) ∷ number 4 (number_at 12 4 bytes) ∷ number 4 (number_at 16 4 bytes) ∷ []) (drop 20 bytes) bytes) magic head in
    let counted : IsRowThen (option_reply_head (number_at 8 4 bytes) (number_at 12 4 bytes) (length (take (number_at 16 4 bytes) (drop 20 bytes)))) (drop 20 bytes) bytes =
    subst (λ (n : ℕ). IsRowThen (option_reply_head (number_at 8 4 bytes) (number_at 12 4 bytes) n) (drop 20 bytes) bytes) (sym count) named in
    record {
      option = number_at 8 4 bytes;
      type = number_at 12 4 bytes;
      body = take (number_at 16 4 bytes) (drop 20 bytes);
      rest = drop (number_at 16 4 bytes) (drop 20 bytes);
      spelled = subst (λ (r : List ℕ). IsRowThen (option_reply_head (number_at 8 4 bytes) (number_at 12 4 bytes) (length (take (number_at 16 4 bytes) (drop 20 bytes)))) r bytes) (sym (take-append-drop (number_at 16 4 bytes) (drop 20 bytes))) counted;
      asked = d.0;
      tells = body_tells sight (number_at 8 4 bytes) (number_at 12 4 bytes) (take (number_at 16 4 bytes) (drop 20 bytes)) _ told (bytes_of_take (number_at 16 4 bytes) (drop 20 bytes) (bytes_of_drop 20 bytes h) enough) refl i.1;
    }
