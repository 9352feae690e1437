-- The head of an option reply is read in one way.
use Rattle.std.proofs.Common.{◌≡◌, ◌↔◌, ℕ, List, [], ◌∷◌, refl, subst}
use Rattle.lnbd_records.specs.Fronts.{IsFront}
use Rattle.lnbd_records.specs.Handshake.{option_reply_magic}
use Rattle.lnbd_records.proofs.FrontLemmas.{IsHead, one_front, number_of, nth}
use Rattle.lnbd_options.specs.declared.head.OptionHead.{OptionHead}
use Rattle.lnbd_options.specs.declared.head.Read64.{Read64}
use Rattle.lnbd_options.specs.declared.head.Read64.TheVariants.{Value, NeedMore, BadMagic}
use Rattle.lnbd_options.specs.Heads.{reply_fields, front_of}

same_read : {T : Type 0} (a b : Read64 T) → front_of a ≡ front_of b → a ≡ b
same_read (Value x) (Value y) e = cc
same_read (Value x) NeedMore e = cc
same_read (Value x) (BadMagic n) e = cc
same_read NeedMore (Value y) e = cc
same_read NeedMore NeedMore e = refl
same_read NeedMore (BadMagic n) e = cc
same_read (BadMagic m) (Value y) e = cc
same_read (BadMagic m) NeedMore e = cc
same_read (BadMagic m) (BadMagic n) e = cc

reply_head : IsHead OptionHead reply_fields 8 option_reply_magic 20 (8 ∷ 4 ∷ 4 ∷ 4 ∷ [])
unfolding number_of nth
reply_head = record {
  first = λ head. (_, refl);
  wide = λ head. refl;
  whole = refl;
  back = λ fs. record { option = nth 1 fs; kind = nth 2 fs; length = nth 3 fs };
  undone = λ head. refl;
}

-- An answer that is said of some bytes is the one answer.
pub exactly : (bytes : List ℕ) (a : Read64 OptionHead) → IsFront reply_fields 8 option_reply_magic 20 bytes (front_of a) → (b : Read64 OptionHead) → (a ≡ b) ↔ IsFront reply_fields 8 option_reply_magic 20 bytes (front_of b)
exactly bytes a p b =
    let P : Read64 OptionHead → Type 0 = λ v. IsFront reply_fields 8 option_reply_magic 20 bytes (front_of v) in
    (λ e. subst P e p, λ q. same_read a b (one_front reply_fields 8 option_reply_magic 20 _ reply_head bytes (front_of a) (front_of b) p q))
