-- What is no part of a line, from what the steps of the code found.
use Rattle.std.proofs.Common.{◌≡◌, ◌≢◌, ◌∙◌, ℕ, ◌<◌, ◌≤◌, List, [], ◌∷◌, ◌++◌, Option, Some, None, Bor, MatchOption, Result, Ok, Err, IfOk, ap, arith, codes, inl, inr, length, subst, sym}
use Rattle.std.specs.Str.Pattern.{FindsTextPrefix, StripsPrefix}
use Rattle.std.proofs.lemmas.List.{append_cancel_left}
use Rattle.std.proofs.lemmas.List.Elements.{All-from_get_or, All-get_or}
use Rattle.std.proofs.lemmas.Str.Pattern.{IsSplitOnceResult, split_after, split_parts}
use Rattle.lnbd_model.specs.declared.target.Place.{Place}
use Rattle.lnbd_uri.proofs.AnswerLemmas.{address_has_no_fault}
use Rattle.lnbd_uri.specs.Address.{IsAddress}
use Rattle.lnbd_uri.specs.Fault.{HasFault}
use Rattle.lnbd_uri.specs.declared.fault.UriFault.{UriFault}
use Rattle.lnbd_uri.specs.declared.fault.UriFault.TheVariants.{NoMemory}
use Rattle.lnbd_lines.proofs.CutLemmas.{cut_once, uncut}
use Rattle.lnbd_lines.proofs.NumberLemmas.{digits_no_space, number_once}
use Rattle.lnbd_lines.specs.Grammar.{Follows, IsCommand, IsCut, IsFailing, IsFill, IsFlags, IsHex, IsNumber, IsPayload, IsPlace, IsRange, IsSize, IsTcp, IsWrite, colon, space}
use Rattle.lnbd_lines.specs.Written.{IsWriteOf}
use Rattle.lnbd_lines.specs.declared.command.Command.{Command}
use Rattle.lnbd_lines.specs.declared.command.Command.TheVariants.{Pread, PreadStructured, Pwrite, Flush, Trim, Zero, Cache, BlockStatus}
use Rattle.lnbd_lines.specs.declared.command.Payload.{Payload}
use Rattle.lnbd_lines.specs.declared.command.Payload.TheVariants.{Hex, Fill}
use Rattle.lnbd_lines.specs.declared.command.Range.{Range}

-- what `split_once` gives at a mark
pub cut_read : (mark : ℕ) (text : List ℕ) (r : Option (Bor (List ℕ) × Bor (List ℕ))) → mark < 128 → IsSplitOnceResult mark text r
    → MatchOption r ((word rest : List ℕ) → IsCut mark text word rest → ⊥) (λ parts. IsCut mark text parts.0.now parts.1.now)
cut_read mark text (Some parts) ascii given =
    let found = split_parts mark text (Some parts) given ascii in
    record { spelled = found.0; one_word = All-from_get_or (λ c. c ≢ mark) parts.0.now 0 found.1 }
cut_read mark text None ascii given =
    λ word rest h. split_after mark text word rest None given ascii h.spelled (λ i within. All-get_or (λ c. c ≢ mark) word i 0 within h.one_word)

-- what is left behind a front
pub stripped_is : (front text : List ℕ) (rest : Bor (List ℕ)) → StripsPrefix (FindsTextPrefix front) text rest.now → text ≡ front ++ rest.now
stripped_is front text rest (n, finds, is, whole) = finds.1 ∙ ap (λ r. front ++ r) (sym is)

-- a line that begins with a front has one rest behind it
pub follows_at : (front text rest : List ℕ) (P : List ℕ → Type 0) → text ≡ front ++ rest → Follows front P text → P rest
follows_at front text rest P e h = subst P (append_cancel_left front h.0 rest (sym h.1 ∙ e)) h.2

-- what is no place

no_offset : (text a b : List ℕ) → IsCut space text a b → ((start mask : ℕ) → IsNumber a start → IsFlags b mask → ⊥) → (offset flags : ℕ) → IsPlace text offset flags → ⊥
no_offset text a b cut none offset flags (inl (is, zero)) = uncut space text a b (digits_no_space text is.decimal) cut
no_offset text a b cut none offset flags (inr h) =
    let same = cut_once space text a b h.first h.second cut h.cut in
    none offset flags (subst (λ d. IsNumber d offset) (sym same.0) h.offset_is) (subst (λ d. IsFlags d flags) (sym same.1) h.flags_are)

pub flagged_at : (text a b : List ℕ) (r : Option (ℕ × ℕ)) → IsCut space text a b
    → MatchOption r ((start mask : ℕ) → IsNumber a start → IsFlags b mask → ⊥) (λ place. IsNumber a place.0 × IsFlags b place.1)
    → MatchOption r ((offset flags : ℕ) → IsPlace text offset flags → ⊥) (λ place. IsPlace text place.0 place.1)
flagged_at text a b None cut none = no_offset text a b cut none
flagged_at text a b (Some place) cut h = inr (record { first = a; second = b; cut = cut; offset_is = h.0; flags_are = h.1 })

pub no_plain : (text : List ℕ) → ((word rest : List ℕ) → IsCut space text word rest → ⊥) → ((value : ℕ) → IsNumber text value → ⊥) → (offset flags : ℕ) → IsPlace text offset flags → ⊥
no_plain text whole none offset flags (inl (is, zero)) = none offset is
no_plain text whole none offset flags (inr h) = whole h.first h.second h.cut

-- what is no payload
pub no_payload_kind : {E : Type 0} (text : List ℕ) (r : Result (Option Payload) E) → ((byte size : ℕ) → IsPayload text (Fill byte size) → ⊥)
    → IfOk r (λ found. MatchOption found ((bytes : List ℕ) → IsPayload text (Hex bytes) → ⊥) (λ payload. IsPayload text payload))
    → IfOk r (λ found. MatchOption found ((payload : Payload) → IsPayload text payload → ⊥) (λ payload. IsPayload text payload))
no_payload_kind text (Ok None) fill hex = none
  where
    none : (payload : Payload) → IsPayload text payload → ⊥
    none (Hex bytes) h = hex bytes h
    none (Fill byte size) h = fill byte size h
no_payload_kind text (Ok (Some payload)) fill is = is
no_payload_kind text (Err e) fill hex = tt

-- what is no range

pub no_length : (text a b : List ℕ) → IsCut space text a b → ((v : ℕ) → IsNumber a v → ⊥) → (range : Range) → IsRange text range → ⊥
no_length text a b cut none range h =
    let same = cut_once space text a b h.first h.second cut h.cut in
    none range.length (subst (λ d. IsNumber d range.length) (sym same.0) h.length_is)

pub no_place : (text a b : List ℕ) → IsCut space text a b → ((offset flags : ℕ) → IsPlace b offset flags → ⊥) → (range : Range) → IsRange text range → ⊥
no_place text a b cut none range h =
    let same = cut_once space text a b h.first h.second cut h.cut in
    none range.offset range.flags (subst (λ d. IsPlace d range.offset range.flags) (sym same.1) h.place)

-- what stands behind a front is a range, or none does
pub range_at : (front text rest : List ℕ) (r : Option Range) → text ≡ front ++ rest
    → MatchOption r ((range : Range) → IsRange rest range → ⊥) (λ range. IsRange rest range)
    → MatchOption r ((range : Range) → Follows front (λ rest. IsRange rest range) text → ⊥) (λ range. Follows front (λ rest. IsRange rest range) text)
range_at front text rest None is none = λ range h. none range (follows_at front text rest (λ t. IsRange t range) is h)
range_at front text rest (Some range) is h = (rest, is, h)

-- a read and a range of one text have one length
pub no_small : (front text : List ℕ) (range : Range) → Follows front (λ rest. IsRange rest range) text → 67108864 < range.length
    → (other : Range) → Follows front (λ rest. IsRange rest other) text × (other.length ≤ 67108864) → ⊥
no_small front text range h big other (k, small) =
    let same : range.length ≡ other.length = length_once h.0 range other h.2 (follows_at front text h.0 (λ t. IsRange t other) h.1 k) in
    omega (arith, same)
  where
    length_once : (text : List ℕ) (a b : Range) → IsRange text a → IsRange text b → a.length ≡ b.length
    length_once text a b h k =
        let same = cut_once space text h.first h.second k.first k.second h.cut k.cut in
        number_once h.first a.length b.length h.length_is (subst (λ d. IsNumber d b.length) (sym same.0) k.length_is)

-- what is no write

pub no_write_place : (text a b : List ℕ) → IsCut space text a b → ((offset flags : ℕ) → IsPlace b offset flags → ⊥) → (payload : Payload) (offset flags : ℕ) → IsWrite text payload offset flags → ⊥
no_write_place text a b cut none payload offset flags h =
    let same = cut_once space text a b h.first h.second cut h.cut in
    none offset flags (subst (λ d. IsPlace d offset flags) (sym same.1) h.place)

pub no_payload : (text a b : List ℕ) → IsCut space text a b → ((payload : Payload) → IsPayload a payload → ⊥) → (payload : Payload) (offset flags : ℕ) → IsWrite text payload offset flags → ⊥
no_payload text a b cut none payload offset flags h =
    let same = cut_once space text a b h.first h.second cut h.cut in
    none payload (subst (λ d. IsPayload d payload) (sym same.0) h.payload_is)

-- what stands behind `pwrite` is a write, or none does
pub write_at : {E : Type 0} (text rest : List ℕ) (r : Result (Option Command) E) → text ≡ codes "pwrite " ++ rest
    → IfOk r (λ found. MatchOption found ((payload : Payload) (offset flags : ℕ) → IsWrite rest payload offset flags → ⊥) (λ command. IsWriteOf rest command))
    → IfOk r (λ found. MatchOption found ((payload : Payload) (offset flags : ℕ) → IsCommand text (Pwrite payload offset flags) → ⊥) (λ command. IsCommand text command))
write_at text rest (Ok None) is none = λ payload offset flags h. none payload offset flags (follows_at (codes "pwrite ") text rest (λ t. IsWrite t payload offset flags) is h)
write_at text rest (Ok (Some (Pwrite payload offset flags))) is h = (rest, is, h)
write_at text rest (Ok (Some (Pread range))) is h = absurd h
write_at text rest (Ok (Some (PreadStructured range))) is h = absurd h
write_at text rest (Ok (Some (BlockStatus range))) is h = absurd h
write_at text rest (Ok (Some (Flush flags))) is h = absurd h
write_at text rest (Ok (Some (Trim range))) is h = absurd h
write_at text rest (Ok (Some (Zero range))) is h = absurd h
write_at text rest (Ok (Some (Cache range))) is h = absurd h
write_at text rest (Err e) is h = tt

-- what is no fill

pub no_byte : (text a b : List ℕ) → IsCut colon text a b → ((byte : ℕ) → IsHex a (byte ∷ []) → ⊥) → (byte size : ℕ) → IsFill text byte size → ⊥
no_byte text a b cut none byte size h =
    let same = cut_once colon text a b h.pair h.digits cut h.cut in
    none byte (subst (λ d. IsHex d (byte ∷ [])) (sym same.0) h.byte_is)

pub no_size : (text a b : List ℕ) → IsCut colon text a b → ((size : ℕ) → IsSize b size → ⊥) → (byte size : ℕ) → IsFill text byte size → ⊥
no_size text a b cut none byte size h =
    let same = cut_once colon text a b h.pair h.digits cut h.cut in
    none size (subst (λ d. IsSize d size) (sym same.1) h.size_is)

-- a host that is no host, or a port that is no port
pub no_host : (text a b : List ℕ) → IsCut space text a b → (0 < length a → length a ≤ 4096 → ⊥) → (host : List ℕ) (port : ℕ) → IsTcp text host port → ⊥
no_host text a b cut none host port h =
    let same = cut_once space text a b host h.digits cut h.cut in
    none (subst (λ d. 0 < length d) (sym same.0) h.named) (subst (λ d. length d ≤ 4096) (sym same.0) h.short)

pub no_port : (text a b : List ℕ) → IsCut space text a b → ((v : ℕ) → IsNumber b v → 1 ≤ v → v ≤ 65535 → ⊥) → (host : List ℕ) (port : ℕ) → IsTcp text host port → ⊥
no_port text a b cut none host port h =
    let same = cut_once space text a b host h.digits cut h.cut in
    none port (subst (λ d. IsNumber d port) (sym same.1) h.number) h.low h.high

-- a text that has a fault is no address
pub no_address : (text : List ℕ) (fault : UriFault) → fault ≢ NoMemory → (fault ≢ NoMemory → HasFault text fault) → (place : Place) → IsAddress text place → ⊥
no_address text fault other has place h = address_has_no_fault text place fault h (has other)

-- what fails no command

pub no_error : (text a b : List ℕ) → IsCut space text a b → ((n : ℕ) → IsFlags a n → ⊥) → (error : ℕ) (command : Command) → IsFailing text error command → ⊥
no_error text a b cut none error command h =
    let same = cut_once space text a b h.first h.second cut h.cut in
    none error (subst (λ d. IsFlags d error) (sym same.0) h.error_is)

pub no_failed : (text a b : List ℕ) → IsCut space text a b → ((command : Command) → IsCommand b command → ⊥) → (error : ℕ) (command : Command) → IsFailing text error command → ⊥
no_failed text a b cut none error command h =
    let same = cut_once space text a b h.first h.second cut h.cut in
    none command (subst (λ d. IsCommand d command) (sym same.1) h.command_is)
