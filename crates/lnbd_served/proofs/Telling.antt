-- What a session hears is what a transcript reads, also where one of the two takes extended headers to be on and the other doesn't: then their magic
-- numbers tell.
use Rattle.std.proofs.Common.{◌≡◌, ◌≢◌, ℕ, ◌<◌, ◌≤◌, Bool, true, false, List, length, Option, Some, None, refl, ap, sym, ◌∙◌, arith, inl, inr, ◌==◌}
use Rattle.std.proofs.lemmas.Bool.{cases_lt, eqb-true, ne_eqb}
use Rattle.std.specs.Option.{option_map}
use Rattle.lnbd_records.specs.Handshake.{option_magic}
use Rattle.lnbd_records.specs.Numbers.{number_at, IsBytes}
use Rattle.lnbd_stream.proofs.Grammar.{once_there, once_less, wants_true, wants_false}
use Rattle.lnbd_server.specs.declared.stage.Stage.{Stage}
use Rattle.lnbd_server.specs.declared.stage.Stage.TheVariants.{Greeting, Haggling, Serving, Ended, Strayed}
use Rattle.lnbd_server.specs.Client.{Heard, stray, says}
use Rattle.lnbd_server.specs.Client as server
use Rattle.lnbd_server.specs.Session.{is_closed}
use Rattle.lnbd_asked.specs.Client.{Said, Stray, magic_of}
use Rattle.lnbd_asked.specs.Client as client
use Rattle.lnbd_served.specs.Grammars.{as_heard, heard_of, is_greeted}
use Rattle.lnbd_served.proofs.Hearing.{greeting, haggling, serving, serving_extended, next_less, begins_apart, if_false}

abbrev pub said_of : Heard → server.Said
said_of found = found.said

said_parts : (e : Bool) (one : Option Heard) (other : Option Said) → one ≡ option_map (heard_of e) other → option_map said_of one ≡ option_map as_heard other
said_parts e one None is = ap (option_map said_of) is
said_parts e one (Some said) is = ap (option_map said_of) is

-- the client's bytes are astray where the other magic stands there
astray : (e : Bool) (bytes : List ℕ) (magic : ℕ) → magic ≤ 1000000000 → (magic == magic_of e) ≡ false → IsBytes bytes → number_at 0 4 bytes ≡ magic → 8 ≤ length bytes → client.says_next e bytes ≡ Some Stray
unfolding client.says_next client.says_option
astray e bytes magic small other are four there =
    once_there 4 bytes _ (omega (arith, there)) ∙ if_false (number_at 0 4 bytes == magic_of e) (client.says_request e bytes) _ (ap (λ (n : ℕ). n == magic_of e) four ∙ other)
    ∙ once_there 8 bytes _ there ∙ wants_false (number_at 0 8 bytes == option_magic) Stray _ (ne_eqb _ _ (λ eight. begins_apart bytes magic small are eight four))

extended_apart : (bytes : List ℕ) → IsBytes bytes → server.says_extended bytes ≢ Some stray → client.says_next false bytes ≢ Some Stray → option_map said_of (server.says_extended bytes) ≡ option_map as_heard (client.says_next false bytes)
unfolding server.says_extended
extended_apart bytes are ok straight = elim (cases_lt (length bytes) 8) [
  | inl less ↦ ap (option_map said_of) (none less) ∙ ap (option_map as_heard) (sym (next_less false bytes less))
  | inr there ↦ absurd (straight (astray false bytes (magic_of true) (omega arith) refl are (magic there) there))
]
  where
    test : (b : Bool) → (number_at 0 4 bytes == magic_of true) ≡ b → 4 ≤ length bytes → b ≡ true
    test true e there = refl
    test false e there = absurd (ok (once_there 4 bytes _ there ∙ wants_false (number_at 0 4 bytes == magic_of true) stray _ e))

    magic : 8 ≤ length bytes → number_at 0 4 bytes ≡ magic_of true
    magic there = eqb-true (number_at 0 4 bytes) (magic_of true) (test (number_at 0 4 bytes == magic_of true) refl (omega (arith, there)))

    none : length bytes < 8 → server.says_extended bytes ≡ None
    none less = elim (cases_lt (length bytes) 4) [
      | inl fewer ↦ once_less 4 bytes _ fewer
      | inr there ↦ once_there 4 bytes _ there ∙ wants_true (number_at 0 4 bytes == magic_of true) stray _ (test (number_at 0 4 bytes == magic_of true) refl there) ∙ once_less 32 bytes _ (omega (arith, less))
    ]

request_apart : (bytes : List ℕ) → IsBytes bytes → server.says_request bytes ≢ Some stray → client.says_next true bytes ≢ Some Stray → option_map said_of (server.says_request bytes) ≡ option_map as_heard (client.says_next true bytes)
unfolding server.says_request
request_apart bytes are ok straight = elim (cases_lt (length bytes) 8) [
  | inl less ↦ ap (option_map said_of) (none less) ∙ ap (option_map as_heard) (sym (next_less true bytes less))
  | inr there ↦ absurd (straight (astray true bytes (magic_of false) (omega arith) refl are (magic there) there))
]
  where
    test : (b : Bool) → (number_at 0 4 bytes == magic_of false) ≡ b → 4 ≤ length bytes → b ≡ true
    test true e there = refl
    test false e there = absurd (ok (once_there 4 bytes _ there ∙ wants_false (number_at 0 4 bytes == magic_of false) stray _ e))

    magic : 8 ≤ length bytes → number_at 0 4 bytes ≡ magic_of false
    magic there = eqb-true (number_at 0 4 bytes) (magic_of false) (test (number_at 0 4 bytes == magic_of false) refl (omega (arith, there)))

    none : length bytes < 8 → server.says_request bytes ≡ None
    none less = elim (cases_lt (length bytes) 4) [
      | inl fewer ↦ once_less 4 bytes _ fewer
      | inr there ↦ once_there 4 bytes _ there ∙ wants_true (number_at 0 4 bytes == magic_of false) stray _ (test (number_at 0 4 bytes == magic_of false) refl there) ∙ once_less 28 bytes _ (omega (arith, less))
    ]

pub said_as_read : (stage : Stage) (one other : Bool) (bytes : List ℕ) → IsBytes bytes → is_closed stage ≡ false → says stage one bytes ≢ Some stray → client.says false (is_greeted stage) other bytes ≢ Some Stray →
    option_map said_of (says stage one bytes) ≡ option_map as_heard (client.says false (is_greeted stage) other bytes)
said_as_read Greeting one other bytes are opened ok straight = said_parts other _ _ (greeting other bytes ok)
said_as_read Haggling one other bytes are opened ok straight = said_parts other _ _ (haggling other bytes are ok)
said_as_read Serving true true bytes are opened ok straight = said_parts true _ _ (serving_extended bytes ok)
said_as_read Serving true false bytes are opened ok straight = extended_apart bytes are ok straight
said_as_read Serving false true bytes are opened ok straight = request_apart bytes are ok straight
said_as_read Serving false false bytes are opened ok straight = said_parts false _ _ (serving bytes ok)
said_as_read Ended one other bytes are opened ok straight = cc
said_as_read Strayed one other bytes are opened ok straight = cc
