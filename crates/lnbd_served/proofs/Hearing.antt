-- What a session hears is what a transcript reads.
use Rattle.std.proofs.Common.{◌≡◌, ◌≢◌, ℕ, ◌+◌, ◌*◌, ◌<◌, ◌≤◌, Bool, true, false, not, ◌&&◌, List, length, take, drop, get_or, nat_le, Option, Some, None, refl, ap, sym, ◌∙◌, arith, inl, inr, ◌==◌, if◌then◌else◌}
use Rattle.std.proofs.lemmas.Bool.{cases_lt, eqb-true, ne_eqb}
use Rattle.std.proofs.lemmas.List.{length-take, length-drop}
use Rattle.std.specs.Option.{option_map}
use Rattle.lnbd_records.specs.Handshake.{option_magic}
use Rattle.lnbd_records.specs.Numbers.{number_at, IsBytes}
use Rattle.lnbd_stream.specs.Grammar.{once, wants}
use Rattle.lnbd_stream.proofs.Grammar.{once_there, once_less, wants_true, wants_false}
use Rattle.lnbd_server.specs.declared.stage.Stage.TheVariants.{Greeting, Haggling, Serving, Ended, Strayed}
use Rattle.lnbd_server.specs.Client.{Heard, heard, stray, asks_of, max_option_request, are_client_flags}
use Rattle.lnbd_server.specs.Client as server
use Rattle.lnbd_asked.specs.Client.{Said, Flags, Wishes, Orders, Stray, head_size, length_size, magic_of, data_size, lacks_data}
use Rattle.lnbd_asked.specs.Client as client
use Rattle.lnbd_served.specs.Grammars.{HeardAsRead, heard_of}

-- one is the other, unless it is astray
abbrev pub Heeds : Bool → Option Heard → Option Said → Type 0
Heeds extended one other = one ≢ Some stray → one ≡ option_map (heard_of extended) other

heeds_once : (e : Bool) (n : ℕ) (bytes : List ℕ) (a : Option Heard) (b : Option Said) → (n ≤ length bytes → Heeds e a b) → Heeds e (once n bytes a) (once n bytes b)
heeds_once e n bytes a b h = elim (cases_lt (length bytes) n) [
  | inl less ↦ λ ok. once_less n bytes a less ∙ ap (option_map (heard_of e)) (sym (once_less n bytes b less))
  | inr there ↦ λ ok. once_there n bytes a there ∙ h there (λ astray. ok (once_there n bytes a there ∙ astray)) ∙ ap (option_map (heard_of e)) (sym (once_there n bytes b there))
]

heeds_wants : (e test : Bool) (a : Option Heard) (b : Option Said) → (test ≡ true → Heeds e a b) → Heeds e (wants test stray a) b
heeds_wants e true a b h = λ ok. wants_true true stray a refl ∙ h refl (λ astray. ok (wants_true true stray a refl ∙ astray))
heeds_wants e false a b h = λ ok. absurd (ok (wants_false false stray a refl))

heeds_as : (e : Bool) (a : Option Heard) (b other : Option Said) → b ≡ other → Heeds e a other → Heeds e a b
heeds_as e a b other is h = λ ok. h ok ∙ ap (option_map (heard_of e)) (sym is)

-- so many bytes behind a place are there
pub part_size : (place n : ℕ) (bytes : List ℕ) → place + n ≤ length bytes → length (take n (drop place bytes)) ≡ n
part_size place n bytes there = omega (arith, length-take n (drop place bytes), length-drop place bytes)

pub if_true : {A : Type 0} (test : Bool) (a b : A) → test ≡ true → (if test then a else b) ≡ a
if_true test a b e = ap (λ (t : Bool). if t then a else b) e

pub if_false : {A : Type 0} (test : Bool) (a b : A) → test ≡ false → (if test then a else b) ≡ b
if_false test a b e = ap (λ (t : Bool). if t then a else b) e

if_both : {A : Type 0} (test : Bool) (a b c : A) → a ≡ c → b ≡ c → (if test then a else b) ≡ c
if_both true a b c one other = one
if_both false a b c one other = other

both_left : (a b : Bool) → (a && b) ≡ true → a ≡ true
both_left true b e = refl
both_left false b e = e

-- The flags.

pub greeting : (e : Bool) (bytes : List ℕ) → Heeds e (server.says_flags bytes) (client.says_flags bytes)
unfolding server.says_flags client.says_flags
greeting e bytes = heeds_once e 4 bytes _ _ (λ there. heeds_wants e (are_client_flags (number_at 0 4 bytes)) (heard 4 (server.Flags (number_at 0 4 bytes))) (Some (Flags (number_at 0 4 bytes))) (λ fits ok. refl))

-- Options. No option request begins as a request does.

pub begins_apart : (bytes : List ℕ) (request : ℕ) → request ≤ 1000000000 → IsBytes bytes → number_at 0 8 bytes ≡ option_magic → number_at 0 4 bytes ≡ request → ⊥
unfolding number_at
begins_apart bytes request small are eight four =
    let b4 : get_or bytes 4 0 < 256 = are 4 in
    let b5 : get_or bytes 5 0 < 256 = are 5 in
    let b6 : get_or bytes 6 0 < 256 = are 6 in
    let b7 : get_or bytes 7 0 < 256 = are 7 in
    let whole : get_or bytes 0 0 * 72057594037927936 + (get_or bytes 1 0 * 281474976710656 + (get_or bytes 2 0 * 1099511627776 + (get_or bytes 3 0 * 4294967296
    + (get_or bytes 4 0 * 16777216 + (get_or bytes 5 0 * 65536 + (get_or bytes 6 0 * 256 + (get_or bytes 7 0 * 1 + 0))))))) ≡ 5280542401877725268 = eight in
    let front : get_or bytes 0 0 * 16777216 + (get_or bytes 1 0 * 65536 + (get_or bytes 2 0 * 256 + (get_or bytes 3 0 * 1 + 0))) ≡ request = four in
    omega arith

not_request : (e : Bool) (bytes : List ℕ) → IsBytes bytes → number_at 0 8 bytes ≡ option_magic → (number_at 0 4 bytes == magic_of e) ≡ false
not_request true bytes are eight = ne_eqb _ _ (λ four. begins_apart bytes (magic_of true) (omega arith) are eight four)
not_request false bytes are eight = ne_eqb _ _ (λ four. begins_apart bytes (magic_of false) (omega arith) are eight four)

pub next_less : (e : Bool) (bytes : List ℕ) → length bytes < 8 → client.says_next e bytes ≡ None
unfolding client.says_next client.says_request client.says_option
next_less true bytes less = elim (cases_lt (length bytes) 4) [
  | inl fewer ↦ once_less 4 bytes _ fewer
  | inr there ↦ once_there 4 bytes _ there ∙ if_both _ _ _ None (once_less 32 bytes _ (omega arith)) (once_less 8 bytes _ less)
]
next_less false bytes less = elim (cases_lt (length bytes) 4) [
  | inl fewer ↦ once_less 4 bytes _ fewer
  | inr there ↦ once_there 4 bytes _ there ∙ if_both _ _ _ None (once_less 28 bytes _ (omega arith)) (once_less 8 bytes _ less)
]

-- what is read of option requests whose magic stands there
abbrev wishes : List ℕ → Option Said
wishes bytes = once 16 bytes (once (16 + number_at 12 4 bytes) bytes (Some (Wishes (record { option = number_at 8 4 bytes; body = take (number_at 12 4 bytes) (drop 16 bytes) }))))

next_option : (e : Bool) (bytes : List ℕ) → IsBytes bytes → 8 ≤ length bytes → number_at 0 8 bytes ≡ option_magic → client.says_next e bytes ≡ wishes bytes
unfolding client.says_next client.says_option
next_option e bytes are there eight =
    once_there 4 bytes _ (omega arith) ∙ if_false _ (client.says_request e bytes) _ (not_request e bytes are eight)
    ∙ once_there 8 bytes _ there ∙ wants_true (number_at 0 8 bytes == option_magic) Stray _ (ap (λ (n : ℕ). n == option_magic) eight)

wished : (e : Bool) (option n : ℕ) (body : List ℕ) → length body ≡ n → heard (16 + n) (server.OptionRequest option body) ≡ Some (heard_of e (Wishes (record { option = option; body = body })))
wished e option n body size = ap (λ (k : ℕ). heard (16 + k) (server.OptionRequest option body)) (sym size)

pub haggling : (e : Bool) (bytes : List ℕ) → IsBytes bytes → Heeds e (server.says_option bytes) (client.says_next e bytes)
unfolding server.says_option
haggling e bytes are = elim (cases_lt (length bytes) 8) [
  | inl less ↦ λ ok. once_less 8 bytes _ less ∙ ap (option_map (heard_of e)) (sym (next_less e bytes less))
  | inr there ↦ λ ok. once_there 8 bytes _ there ∙ heeds_wants e (number_at 0 8 bytes == option_magic) _ (client.says_next e bytes) (λ magic.
      heeds_as e _ (client.says_next e bytes) (wishes bytes) (next_option e bytes are there (eqb-true (number_at 0 8 bytes) option_magic magic))
      (heeds_once e 16 bytes _ _ (λ head. heeds_wants e (nat_le (number_at 12 4 bytes) max_option_request) _ _ (λ few.
      heeds_once e (16 + number_at 12 4 bytes) bytes _ _ (λ whole ok'. wished e (number_at 8 4 bytes) (number_at 12 4 bytes) (take (number_at 12 4 bytes) (drop 16 bytes)) (part_size 16 (number_at 12 4 bytes) bytes whole))))))
      (λ astray. ok (once_there 8 bytes _ there ∙ astray))
]

-- Requests.

-- the size and the data that are asked in these bytes
abbrev size_at : Bool → List ℕ → ℕ
size_at e bytes = number_at 24 (length_size e) bytes

abbrev data_at : Bool → List ℕ → ℕ
data_at e bytes = data_size e (number_at 6 2 bytes) (number_at 4 2 bytes) (size_at e bytes)

asked : (e : Bool) (type flags cookie offset size n : ℕ) (payload : List ℕ) → length payload ≡ n → heard (head_size e + n) (asks_of type flags cookie offset size payload) ≡
    Some (heard_of e (Orders (record { flags = flags; type = type; cookie = cookie; offset = offset; length = size; payload = payload })))
asked e type flags cookie offset size n payload is = ap (λ (k : ℕ). heard (head_size e + k) (asks_of type flags cookie offset size payload)) (sym is)

asking : (e : Bool) (bytes : List ℕ) →
    Heeds e (once (head_size e) bytes (server.says_asked e (head_size e) (number_at 6 2 bytes) (number_at 4 2 bytes) (number_at 8 8 bytes) (number_at 16 8 bytes) (size_at e bytes) bytes)) (client.says_request e bytes)
unfolding server.says_asked client.says_request
asking e bytes = heeds_once e (head_size e) bytes _ _ (λ head. heeds_wants e _ _ _ (λ fits.
    heeds_as e _ _ _ (wants_true (not (lacks_data e (number_at 6 2 bytes) (number_at 4 2 bytes))) Stray _ (both_left _ _ fits))
    (heeds_once e (head_size e + data_at e bytes) bytes _ _ (λ whole ok.
    asked e (number_at 6 2 bytes) (number_at 4 2 bytes) (number_at 8 8 bytes) (number_at 16 8 bytes) (size_at e bytes) (data_at e bytes) (take (data_at e bytes) (drop (head_size e) bytes)) (part_size (head_size e) (data_at e bytes) bytes whole)))))

pub serving : (bytes : List ℕ) → Heeds false (server.says_request bytes) (client.says_next false bytes)
unfolding server.says_request client.says_next
serving bytes = heeds_once false 4 bytes _ _ (λ there. heeds_wants false (number_at 0 4 bytes == magic_of false) _ _ (λ magic.
    heeds_as false _ _ (client.says_request false bytes) (if_true _ (client.says_request false bytes) (client.says_option bytes) magic) (asking false bytes)))

pub serving_extended : (bytes : List ℕ) → Heeds true (server.says_extended bytes) (client.says_next true bytes)
unfolding server.says_extended client.says_next
serving_extended bytes = heeds_once true 4 bytes _ _ (λ there. heeds_wants true (number_at 0 4 bytes == magic_of true) _ _ (λ magic.
    heeds_as true _ _ (client.says_request true bytes) (if_true _ (client.says_request true bytes) (client.says_option bytes) magic) (asking true bytes)))

pub heard_as_read : HeardAsRead
heard_as_read Greeting e bytes are opened = greeting e bytes
heard_as_read Haggling e bytes are opened = haggling e bytes are
heard_as_read Serving true bytes are opened = serving_extended bytes
heard_as_read Serving false bytes are opened = serving bytes
heard_as_read Ended e bytes are opened = λ ok. cc
heard_as_read Strayed e bytes are opened = λ ok. cc
