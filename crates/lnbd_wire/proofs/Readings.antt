-- A head is read in one way.
use Rattle.std.proofs.Common.{◌≡◌, ◌↔◌, ℕ, List, [], ◌∷◌, refl, subst}
use Rattle.lnbd_records.specs.Numbers.{Field, number, number_at, fields_at}
use Rattle.lnbd_records.specs.Fronts.{IsFront}
use Rattle.lnbd_records.specs.Transmission.{simple_reply_magic, request_magic, structured_reply_magic, extended_request_magic, extended_reply_magic}
use Rattle.lnbd_records.proofs.FrontLemmas.{IsHead, one_front, number_of, nth}
use Rattle.lnbd_wire.specs.declared.read.Read.{Read}
use Rattle.lnbd_wire.specs.declared.read.Read.TheVariants.{Value, NeedMore, BadMagic}
use Rattle.lnbd_wire.specs.declared.simple.SimpleHead.{SimpleHead}
use Rattle.lnbd_wire.specs.declared.request.RequestHead.{RequestHead}
use Rattle.lnbd_wire.specs.declared.chunk.ChunkHead.{ChunkHead}
use Rattle.lnbd_wire.specs.declared.extended_request.ExtRequest.{ExtRequest}
use Rattle.lnbd_wire.specs.declared.extended_chunk.ExtHead.{ExtHead}
use Rattle.lnbd_wire.specs.Heads.{simple_fields, request_fields, chunk_fields, extended_request_fields, extended_chunk_fields, front_of}

same_read : {T : Type 0} (a b : Read T) → front_of a ≡ front_of b → a ≡ b
same_read (Value x) (Value y) e = cc
same_read (Value x) NeedMore e = cc
same_read (Value x) (BadMagic n) e = cc
same_read NeedMore (Value y) e = cc
same_read NeedMore NeedMore e = refl
same_read NeedMore (BadMagic n) e = cc
same_read (BadMagic m) (Value y) e = cc
same_read (BadMagic m) NeedMore e = cc
same_read (BadMagic m) (BadMagic n) e = cc

-- An answer that is said of some bytes is the one answer.
pub exactly : {T : Type 0} (fields : T → List Field) (magic size : ℕ) (ws : List ℕ) → IsHead T fields 4 magic size ws → (bytes : List ℕ) (a : Read T) → IsFront fields 4 magic size bytes (front_of a) → (b : Read T) → (a ≡ b) ↔ IsFront fields 4 magic size bytes (front_of b)
exactly {T = T} fields magic size ws k bytes a p b =
    let P : Read T → Type 0 = λ v. IsFront fields 4 magic size bytes (front_of v) in
    (λ e. subst P e p, λ q. same_read a b (one_front fields 4 magic size ws k bytes (front_of a) (front_of b) p q))

pub simple_head : IsHead SimpleHead simple_fields 4 simple_reply_magic 16 (4 ∷ 4 ∷ 8 ∷ [])
unfolding number_of nth
simple_head = record {
  first = λ head. (_, refl);
  wide = λ head. refl;
  whole = refl;
  back = λ fs. record { error = nth 1 fs; cookie = nth 2 fs };
  undone = λ head. refl;
}

pub chunk_head : IsHead ChunkHead chunk_fields 4 structured_reply_magic 20 (4 ∷ 2 ∷ 2 ∷ 8 ∷ 4 ∷ [])
unfolding number_of nth
chunk_head = record {
  first = λ head. (_, refl);
  wide = λ head. refl;
  whole = refl;
  back = λ fs. record { flags = nth 1 fs; kind = nth 2 fs; cookie = nth 3 fs; length = nth 4 fs };
  undone = λ head. refl;
}

pub request_head : IsHead RequestHead request_fields 4 request_magic 28 (4 ∷ 2 ∷ 2 ∷ 8 ∷ 8 ∷ 4 ∷ [])
unfolding number_of nth
request_head = record {
  first = λ head. (_, refl);
  wide = λ head. refl;
  whole = refl;
  back = λ fs. record { flags = nth 1 fs; kind = nth 2 fs; cookie = nth 3 fs; offset = nth 4 fs; length = nth 5 fs };
  undone = λ head. refl;
}

pub extended_chunk_head : IsHead ExtHead extended_chunk_fields 4 extended_reply_magic 32 (4 ∷ 2 ∷ 2 ∷ 8 ∷ 8 ∷ 8 ∷ [])
unfolding number_of nth
extended_chunk_head = record {
  first = λ head. (_, refl);
  wide = λ head. refl;
  whole = refl;
  back = λ fs. record { flags = nth 1 fs; kind = nth 2 fs; cookie = nth 3 fs; offset = nth 4 fs; length = nth 5 fs };
  undone = λ head. refl;
}

pub extended_request_head : IsHead ExtRequest extended_request_fields 4 extended_request_magic 32 (4 ∷ 2 ∷ 2 ∷ 8 ∷ 8 ∷ 8 ∷ [])
unfolding number_of nth
extended_request_head = record {
  first = λ head. (_, refl);
  wide = λ head. refl;
  whole = refl;
  back = λ fs. record { flags = nth 1 fs; kind = nth 2 fs; cookie = nth 3 fs; offset = nth 4 fs; length = nth 5 fs };
  undone = λ head. refl;
}

-- What stands where a head begins, and its length, in so many bytes, behind it or behind an offset.

pub without_offset : (bytes : List ℕ) (width m f k c l : ℕ) → number_at 0 4 bytes ≡ m → f ≡ number_at 4 2 bytes → k ≡ number_at 6 2 bytes → c ≡ number_at 8 8 bytes → l ≡ number_at 16 width bytes →
    fields_at 0 (4 ∷ 2 ∷ 2 ∷ 8 ∷ width ∷ []) bytes ≡ number 4 m ∷ number 2 f ∷ number 2 k ∷ number 8 c ∷ number width l ∷ []
without_offset bytes width m f k c l magic flags kind cookie long = cc

pub with_offset : (bytes : List ℕ) (width m f k c o l : ℕ) → number_at 0 4 bytes ≡ m → f ≡ number_at 4 2 bytes → k ≡ number_at 6 2 bytes → c ≡ number_at 8 8 bytes → o ≡ number_at 16 8 bytes → l ≡ number_at 24 width bytes →
    fields_at 0 (4 ∷ 2 ∷ 2 ∷ 8 ∷ 8 ∷ width ∷ []) bytes ≡ number 4 m ∷ number 2 f ∷ number 2 k ∷ number 8 c ∷ number 8 o ∷ number width l ∷ []
with_offset bytes width m f k c o l magic flags kind cookie offset long = cc
