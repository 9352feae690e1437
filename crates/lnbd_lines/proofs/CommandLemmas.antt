-- A text is one command.
use Rattle.std.proofs.Common.{◌≡◌, ◌∙◌, ℕ, List, [], ◌∷◌, Option, Some, None, Result, Ok, Err, IfOk, MatchOption, ap, cond, drop, eqb, get_or, sym, inl, inr}
use Rattle.std.specs.Result.{result_unwrap_or}
use Rattle.std.specs.Str.Parse.{digits_value}
use Rattle.hex.specs.Hex.{decode_of}
use Rattle.hex.specs.declared.error.FromHexError.{FromHexError}
use Rattle.lnbd_lines.proofs.CutLemmas.{before, behind, before_is, behind_is, uncut_before, uncut_behind}
use Rattle.lnbd_lines.proofs.NumberLemmas.{digits_no_space}
use Rattle.lnbd_lines.specs.Grammar.{IsCommand, IsHex, IsPayload, IsPlace, IsRange, IsWrite, colon, space}
use Rattle.lnbd_lines.specs.Written.{HasNoRange, HasNoRead}
use Rattle.lnbd_lines.specs.declared.command.Range.{Range}
use Rattle.lnbd_lines.specs.declared.command.Payload.{Payload}
use Rattle.lnbd_lines.specs.declared.command.Payload.TheVariants.{Hex, Fill}
use Rattle.lnbd_lines.specs.declared.command.Command.{Command}
use Rattle.lnbd_lines.specs.declared.command.Command.TheVariants.{Pread, PreadStructured, Pwrite, Flush, Trim, Zero, Cache, BlockStatus}

-- What the parts of a command are, told by the places of the marks.

abbrev number : List ℕ → ℕ
number digits = digits_value 10 digits

abbrev offset_in : List ℕ → ℕ
offset_in text = number (before space text)

abbrev flags_in : List ℕ → ℕ
flags_in text = number (behind space text)

place_is : (text : List ℕ) (offset flags : ℕ) → IsPlace text offset flags → (offset_in text ≡ offset) × (flags_in text ≡ flags)
place_is text offset flags (inl (is, none)) =
    let plain = digits_no_space text is.decimal in
    (ap number (uncut_before space text plain) ∙ is.value_is, ap number (uncut_behind space text plain) ∙ sym none)
place_is text offset flags (inr h) =
    (ap number (before_is space text h.first h.second h.cut) ∙ h.offset_is.value_is, ap number (behind_is space text h.first h.second h.cut) ∙ h.flags_are.number.value_is)

abbrev range_in : List ℕ → Range
range_in text = record { length = number (before space text); offset = offset_in (behind space text); flags = flags_in (behind space text) }

range_is : (text : List ℕ) (range : Range) → IsRange text range → range_in text ≡ range
range_is text range h =
    let place = place_is h.second range.offset range.flags h.place in
    let first : number (before space text) ≡ range.length = ap number (before_is space text h.first h.second h.cut) ∙ h.length_is.value_is in
    let second : behind space text ≡ h.second = behind_is space text h.first h.second h.cut in
    ap (λ (n : ℕ). record { length = n; offset = offset_in (behind space text); flags = flags_in (behind space text) }) first
    ∙ ap (λ (t : List ℕ). record { length = range.length; offset = offset_in t; flags = flags_in t }) second
    ∙ ap (λ (o : ℕ). record { length = range.length; offset = o; flags = flags_in h.second }) place.0
    ∙ ap (λ (f : ℕ). record { length = range.length; offset = range.offset; flags = f }) place.1

abbrev bytes_in : List ℕ → List ℕ
bytes_in digits = result_unwrap_or (decode_of digits) []

hex_is : (digits bytes : List ℕ) → IsHex digits bytes → bytes_in digits ≡ bytes
hex_is digits bytes h = ap (λ (r : Result (List ℕ) FromHexError). result_unwrap_or r []) h.pairs

abbrev byte_in : List ℕ → ℕ
byte_in digits = get_or (bytes_in digits) 0 0

abbrev payload_in : List ℕ → Payload
payload_in text = cond (eqb (get_or text 0 0) 104) (Hex (bytes_in (drop 4 text))) (Fill (byte_in (before colon (drop 5 text))) (number (behind colon (drop 5 text))))

payload_is : (text : List ℕ) (payload : Payload) → IsPayload text payload → payload_in text ≡ payload
payload_is text (Hex bytes) (rest, is, h) = ap payload_in is ∙ ap (λ (b : List ℕ). Hex b) (hex_is rest bytes h)
payload_is text (Fill byte size) (rest, is, h) =
    ap payload_in is
    ∙ ap (λ (p : List ℕ). Fill (byte_in p) (number (behind colon rest))) (before_is colon rest h.pair h.digits h.cut)
    ∙ ap (λ (d : List ℕ). Fill (byte_in h.pair) (number d)) (behind_is colon rest h.pair h.digits h.cut)
    ∙ ap (λ (b : List ℕ). Fill (get_or b 0 0) (number h.digits)) (hex_is h.pair (byte ∷ []) h.byte_is)
    ∙ ap (λ (n : ℕ). Fill byte n) h.size_is.number.value_is

abbrev write_in : List ℕ → Command
write_in text = Pwrite (payload_in (before space text)) (offset_in (behind space text)) (flags_in (behind space text))

write_is : (text : List ℕ) (payload : Payload) (offset flags : ℕ) → IsWrite text payload offset flags → write_in text ≡ Pwrite payload offset flags
write_is text payload offset flags h =
    let place = place_is h.second offset flags h.place in
    ap (λ (t : List ℕ). Pwrite (payload_in t) (offset_in (behind space text)) (flags_in (behind space text))) (before_is space text h.first h.second h.cut)
    ∙ ap (λ (p : Payload). Pwrite p (offset_in (behind space text)) (flags_in (behind space text))) (payload_is h.first payload h.payload_is)
    ∙ ap (λ (t : List ℕ). Pwrite payload (offset_in t) (flags_in t)) (behind_is space text h.first h.second h.cut)
    ∙ ap (λ (o : ℕ). Pwrite payload o (flags_in h.second)) place.0
    ∙ ap (λ (f : ℕ). Pwrite payload offset f) place.1

-- the byte at this place
abbrev pub at : ℕ → List ℕ → ℕ
at i text = get_or text i 0

-- which command a text is, if it is one: told by the bytes at which they differ
abbrev pub command_in : List ℕ → Command
command_in text =
    cond (eqb (at 0 text) 112) (cond (eqb (at 1 text) 114) (cond (eqb (at 5 text) 32) (Pread (range_in (drop 6 text))) (PreadStructured (range_in (drop 17 text)))) (write_in (drop 7 text)))
    (cond (eqb (at 0 text) 102) (Flush (number (drop 6 text)))
    (cond (eqb (at 0 text) 116) (Trim (range_in (drop 5 text)))
    (cond (eqb (at 0 text) 122) (Zero (range_in (drop 5 text)))
    (cond (eqb (at 0 text) 98) (BlockStatus (range_in (drop 13 text))) (Cache (range_in (drop 6 text)))))))

pub command_is : (text : List ℕ) (command : Command) → IsCommand text command → command_in text ≡ command
command_is text (Pread range) ((rest, is, h), small) = ap command_in is ∙ ap (λ (r : Range). Pread r) (range_is rest range h)
command_is text (PreadStructured range) ((rest, is, h), small) = ap command_in is ∙ ap (λ (r : Range). PreadStructured r) (range_is rest range h)
command_is text (Pwrite payload offset flags) (rest, is, h) = ap command_in is ∙ write_is rest payload offset flags h
command_is text (Flush flags) (inl (is, none)) = ap command_in is ∙ ap (λ (f : ℕ). Flush f) (sym none)
command_is text (Flush flags) (inr (rest, is, h)) = ap command_in is ∙ ap (λ (f : ℕ). Flush f) h.number.value_is
command_is text (Trim range) (rest, is, h) = ap command_in is ∙ ap (λ (r : Range). Trim r) (range_is rest range h)
command_is text (Zero range) (rest, is, h) = ap command_in is ∙ ap (λ (r : Range). Zero r) (range_is rest range h)
command_is text (Cache range) (rest, is, h) = ap command_in is ∙ ap (λ (r : Range). Cache r) (range_is rest range h)
command_is text (BlockStatus range) (rest, is, h) = ap command_in is ∙ ap (λ (r : Range). BlockStatus r) (range_is rest range h)

-- a text that is none of the commands
pub no_command : {E : Type 0} (text : List ℕ) (r : Result (Option Command) E)
    → HasNoRead text → HasNoRange text → ((flags : ℕ) → IsCommand text (Flush flags) → ⊥)
    → IfOk r (λ found. MatchOption found ((payload : Payload) (offset flags : ℕ) → IsCommand text (Pwrite payload offset flags) → ⊥) (λ command. IsCommand text command))
    → IfOk r (λ found. MatchOption found ((command : Command) → IsCommand text command → ⊥) (λ command. IsCommand text command))
no_command text (Ok None) read range flush write = none
  where
    none : (command : Command) → IsCommand text command → ⊥
    none (Pread r) h = read.plain r h
    none (PreadStructured r) h = read.structured r h
    none (Pwrite payload offset flags) h = write payload offset flags h
    none (Flush flags) h = flush flags h
    none (Trim r) h = range.trim r h
    none (Zero r) h = range.zero r h
    none (Cache r) h = range.cache r h
    none (BlockStatus r) h = range.status r h
no_command text (Ok (Some command)) read range flush is = is
no_command text (Err e) read range flush write = tt
