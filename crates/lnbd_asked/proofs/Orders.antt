-- The request that a command makes.
use Rattle.std.proofs.Common.{◌≡◌, ℕ, ◌+◌, ◌-◌, ◌/◌, ◌%◌, ◌^◌, ◌<◌, Bool, true, false, not, ◌&&◌, List, [], ◌∷◌, length, Option, Some, is_some, refl, ap, sym, subst, ◌∙◌, ◌==◌, arith, bit_and, if◌then◌else◌}
use Rattle.std.proofs.lemmas.Bool.{false≢true, eqb-true}
use Rattle.std.proofs.lemmas.Nat.{and_mask, and_shr, or_disjoint, and_or_self}
use Rattle.lnbd_model.specs.Kind.{type_of, has_range}
use Rattle.lnbd_model.specs.declared.kind.Kind.{Kind}
use Rattle.lnbd_model.specs.declared.kind.Kind.TheVariants.{Read, Write, Flush, Trim, Cache, Zero, BlockStatus}
use Rattle.lnbd_records.specs.Flags.{cmd_flag_payload_len}
use Rattle.lnbd_records.specs.Numbers.{row, has_bit}
use Rattle.lnbd_history.specs.Agreement.{is_empty}
use Rattle.lnbd_history.specs.Commands.{Command, is_write}
use Rattle.lnbd_history.specs.Outgoing.{plain, last_of, head, command_parts, disconnect_part, sent_flags}
use Rattle.lnbd_asked.specs.Client.{Orders, Order, Fits, order_head}
use Rattle.lnbd_asked.specs.Driven.{Spelled}
use Rattle.lnbd_asked.specs.Link.{kind_of, flags_asked}
use Rattle.lnbd_asked.specs.Parts.{request_parts, parts_of}

pub kind_back : (kind : Kind) → kind_of (type_of kind) ≡ Some kind
kind_back Read = refl
kind_back Write = refl
kind_back Flush = refl
kind_back Trim = refl
kind_back Cache = refl
kind_back Zero = refl
kind_back BlockStatus = refl

-- The flag PAYLOAD_LEN, where the flags don't have it.

no_bit : (flags : ℕ) → has_bit cmd_flag_payload_len flags ≡ false → bit_and flags 32 ≡ 0
no_bit flags e = go (bit_and flags 32 == 0) refl e
  where
    go : (b : Bool) → (bit_and flags 32 == 0) ≡ b → not b ≡ false → bit_and flags 32 ≡ 0
    go true is e = eqb-true (bit_and flags 32) 0 is
    go false is e = absurd (false≢true (sym e))

with_bit : (flags : ℕ) → has_bit cmd_flag_payload_len flags ≡ false → has_bit cmd_flag_payload_len (flags + 32) ≡ true
with_bit flags e =
    let apart = no_bit flags e in
    ap (λ f. not (bit_and f 32 == 0)) (sym (or_disjoint flags 32 apart)) ∙ ap (λ x. not (x == 0)) (and_or_self 32 flags)

small_with_bit : (flags : ℕ) → flags < 2 ^ 16 → has_bit cmd_flag_payload_len flags ≡ false → flags + 32 < 65536
small_with_bit flags small e =
    let half : bit_and (flags / 32) 1 ≡ 0 = sym (and_shr flags 32 5) ∙ ap (λ n. n / 32) (no_bit flags e) in
    let even : flags / 32 % 2 ≡ 0 = sym (and_mask (flags / 32) 1) ∙ half in
    omega (arith, small, even)

pub flags_back : (extended : Bool) (kind : Kind) (flags : ℕ) → flags_asked extended kind (if extended then sent_flags kind flags else flags) ≡ flags
flags_back false kind flags = refl
flags_back true kind flags = go (is_write kind)
  where
    go : (b : Bool) → (if b then (if b then flags + 32 else flags) - 32 else (if b then flags + 32 else flags)) ≡ flags
    go true = omega arith
    go false = refl

no_data : (payload : List ℕ) → length payload ≡ 0 → payload ≡ []
no_data [] e = refl
no_data (byte ∷ bytes) e = absurd (omega (arith, e))

one_part : (bytes : List ℕ) (payload : List ℕ) → payload ≡ [] → last_of bytes ∷ [] ≡ request_parts true bytes payload
one_part bytes payload e = sym (ap (request_parts true bytes) e)

write_parts : (front payload : List ℕ) → (if not (is_empty payload) then plain front ∷ last_of payload ∷ [] else last_of front ∷ []) ≡ request_parts true front payload
write_parts front [] = refl
write_parts front (byte ∷ bytes) = refl

head_is : (extended : Bool) (kind : Kind) (flags cookie offset length : ℕ) (payload : List ℕ) →
    head extended kind flags cookie offset length
    ≡ row (order_head extended (record { flags = if extended then sent_flags kind flags else flags; type = type_of kind; cookie = cookie; offset = offset; length = length; payload = payload }))
head_is true kind flags cookie offset length payload = refl
head_is false kind flags cookie offset length payload = refl

kind_small : (kind : Kind) → type_of kind < 65536
kind_small Read = omega arith
kind_small Write = omega arith
kind_small Flush = omega arith
kind_small Trim = omega arith
kind_small Cache = omega arith
kind_small Zero = omega arith
kind_small BlockStatus = omega arith

module _ {K : Type 0} where
  -- the request under this cookie
  abbrev pub order_for : (extended : Bool) → ℕ → Command K → Order
  order_for extended cookie command = record {
    flags = if extended then sent_flags command.kind command.flags else command.flags;
    type = type_of command.kind;
    cookie = cookie;
    offset = command.offset;
    length = command.length;
    payload = command.payload;
  }

  -- Its parts.

  parts_by : (extended : Bool) (kind : Kind) (flags cookie offset length_ : ℕ) (payload : List ℕ) (first : Option K) (done : K) → length payload ≡ (if is_write kind then length_ else 0) → (has_range kind ≡ false → (offset ≡ 0) × (length_ ≡ 0)) →
      command_parts {K = K} extended cookie (record { kind = kind; flags = flags; offset = offset; length = length_; payload = payload; first = first; done = done })
      ≡ request_parts (is_some (kind_of (type_of kind))) (row (order_head extended (record { flags = if extended then sent_flags kind flags else flags; type = type_of kind; cookie = cookie; offset = offset; length = length_; payload = payload }))) payload
  parts_by extended Read flags cookie offset length_ payload first done n r = ap (λ h. last_of h ∷ []) (head_is extended Read flags cookie offset length_ payload) ∙ one_part _ payload (no_data payload n)
  parts_by extended Write flags cookie offset length_ payload first done n r =
      ap (λ h. if not (is_empty payload) then plain h ∷ last_of payload ∷ [] else last_of h ∷ []) (head_is extended Write flags cookie offset length_ payload) ∙ write_parts _ payload
  parts_by extended Flush flags cookie offset length_ payload first done n r =
      ap (λ h. last_of h ∷ []) (ap (λ o. head extended Flush flags cookie o 0) (sym (r refl).0) ∙ ap (head extended Flush flags cookie offset) (sym (r refl).1) ∙ head_is extended Flush flags cookie offset length_ payload) ∙ one_part _ payload (no_data payload n)
  parts_by extended Trim flags cookie offset length_ payload first done n r = ap (λ h. last_of h ∷ []) (head_is extended Trim flags cookie offset length_ payload) ∙ one_part _ payload (no_data payload n)
  parts_by extended Cache flags cookie offset length_ payload first done n r = ap (λ h. last_of h ∷ []) (head_is extended Cache flags cookie offset length_ payload) ∙ one_part _ payload (no_data payload n)
  parts_by extended Zero flags cookie offset length_ payload first done n r = ap (λ h. last_of h ∷ []) (head_is extended Zero flags cookie offset length_ payload) ∙ one_part _ payload (no_data payload n)
  parts_by extended BlockStatus flags cookie offset length_ payload first done n r = ap (λ h. last_of h ∷ []) (head_is extended BlockStatus flags cookie offset length_ payload) ∙ one_part _ payload (no_data payload n)

  pub order_parts : (extended : Bool) (cookie : ℕ) (command : Command K) → Spelled extended cookie command → command_parts extended cookie command ≡ parts_of extended (Orders (order_for extended cookie command))
  order_parts extended cookie command s = parts_by extended command.kind command.flags cookie command.offset command.length command.payload command.first command.done s.data_ s.ranged

  -- It fits.

  pub order_fits : (extended : Bool) (cookie : ℕ) (command : Command K) → Spelled extended cookie command → Fits extended (Orders (order_for extended cookie command))
  order_fits true cookie command s = by_kind command.kind (is_write command.kind) refl
    where
      never : (b : Bool) → (b && not true) ≡ false
      never true = refl
      never false = refl

      no_write : (kind : Kind) → is_write kind ≡ false → (type_of kind == 1) ≡ false
      no_write Read e = refl
      no_write Write e = absurd (false≢true (sym e))
      no_write Flush e = refl
      no_write Trim e = refl
      no_write Cache e = refl
      no_write Zero e = refl
      no_write BlockStatus e = refl

      by_kind : (kind : Kind) (b : Bool) → is_write command.kind ≡ b → Fits true (Orders (order_for true cookie command))
      by_kind kind true w = record {
        fit = (omega arith, (subst (λ b. (if b then command.flags + 32 else command.flags) < 65536) (sym w) (small_with_bit command.flags s.flags s.own), (kind_small command.kind, (s.cookie_, (s.offset, (s.length_, tt))))));
        says_so = ap (λ b. (type_of command.kind == 1) && not (has_bit 32 (if b then command.flags + 32 else command.flags))) w ∙ ap (λ b. (type_of command.kind == 1) && not b) (with_bit command.flags s.own) ∙ never (type_of command.kind == 1);
        sized = s.data_ ∙ ap (λ b. if b then command.length else 0) (w ∙ sym (ap (λ b. has_bit 32 (if b then command.flags + 32 else command.flags)) w ∙ with_bit command.flags s.own));
      }
      by_kind kind false w = record {
        fit = (omega arith, (subst (λ b. (if b then command.flags + 32 else command.flags) < 65536) (sym w) s.flags, (kind_small command.kind, (s.cookie_, (s.offset, (s.length_, tt))))));
        says_so = ap (λ b. b && not (has_bit 32 (if is_write command.kind then command.flags + 32 else command.flags))) (no_write command.kind w);
        sized = s.data_ ∙ ap (λ b. if b then command.length else 0) (w ∙ sym (ap (λ b. has_bit 32 (if b then command.flags + 32 else command.flags)) w ∙ s.own));
      }
  order_fits false cookie command s = record {
    fit = (omega arith, (s.flags, (kind_small command.kind, (s.cookie_, (s.offset, (s.length_, tt))))));
    says_so = refl;
    sized = s.data_ ∙ ap (λ b. if b then command.length else 0) (written_type command.kind);
  }
    where
      written_type : (kind : Kind) → is_write kind ≡ (type_of kind == 1)
      written_type Read = refl
      written_type Write = refl
      written_type Flush = refl
      written_type Trim = refl
      written_type Cache = refl
      written_type Zero = refl
      written_type BlockStatus = refl

-- DISC

abbrev pub the_disconnect : Order
the_disconnect = record { flags = 0; type = 2; cookie = 0; offset = 0; length = 0; payload = [] }

pub disconnect_parts : (extended : Bool) → disconnect_part extended ∷ [] ≡ parts_of extended (Orders the_disconnect)
disconnect_parts true = refl
disconnect_parts false = refl

pub disconnect_fits : (extended : Bool) → Fits extended (Orders the_disconnect)
disconnect_fits true = record { fit = (omega arith, (omega arith, (omega arith, (omega arith, (omega arith, (omega arith, tt)))))); says_so = refl; sized = refl }
disconnect_fits false = record { fit = (omega arith, (omega arith, (omega arith, (omega arith, (omega arith, (omega arith, tt)))))); says_so = refl; sized = refl }
