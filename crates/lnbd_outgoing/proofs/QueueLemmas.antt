-- How a queue of pieces grows and goes out.
use Rattle.std.proofs.Common.{◌≡◌, ℕ, ◌+◌, ◌-◌, ◌<◌, ◌≤◌, List, [], ◌∷◌, ◌++◌, length, map, refl, ap, sym, subst, ◌∙◌, arith}
use Rattle.std.proofs.Common.{length-drop}
use Rattle.std.proofs.lemmas.List.{drop-drop}
use Rattle.lnbd_history.specs.Outgoing.{Part, out, wrote, ended}
use Rattle.lnbd_outgoing.specs.declared.piece.Piece.{Piece}
use Rattle.lnbd_outgoing.specs.declared.piece.Piece.TheVariants.{Text, Abort, Whole, Head, Own}
use Rattle.lnbd_outgoing.specs.Pieces.{Writes, part_of, size_of, Fits}
use Rattle.lnbd_outgoing.specs.Queue.{cut, left_of, AllFit, IsWithin, AllFull}
use Rattle.lnbd_outgoing.specs.Laws.{AgreeOn, OthersWait, OthersFit, LeftIsOffered}

pub full_push : (ps : List Piece) (p : Piece) → AllFull ps → 0 < size_of p → AllFull (ps ++ p ∷ [])
full_push [] p all full = (full, tt)
full_push (q ∷ ps) p all full = (all.0, full_push ps p all.1 full)

pub fit_push : (writes : Writes) (ps : List Piece) (p : Piece) → AllFit writes ps → Fits writes p → AllFit writes (ps ++ p ∷ [])
fit_push writes [] p all fits = (fits, tt)
fit_push writes (q ∷ ps) p all fits = (all.0, fit_push writes ps p all.1 fits)

pub within_push : (n : ℕ) (ps : List Piece) (p : Piece) → IsWithin n ps → 0 < size_of p → IsWithin n (ps ++ p ∷ [])
within_push n [] p w full = subst (λ (k : ℕ). k < size_of p) (sym w) full
within_push n (q ∷ ps) p w full = w

cut_push : (writes : Writes) (n : ℕ) (ps : List Piece) (p : Part) → IsWithin n ps → cut n (map (part_of writes) ps ++ p ∷ []) ≡ cut n (map (part_of writes) ps) ++ p ∷ []
cut_push writes n [] p w = rw w refl
cut_push writes n (q ∷ ps) p w = refl

map_push : (writes : Writes) (ps : List Piece) (p : Piece) → map (part_of writes) (ps ++ p ∷ []) ≡ map (part_of writes) ps ++ part_of writes p ∷ []
map_push writes [] p = refl
map_push writes (q ∷ ps) p = ap (λ r. part_of writes q ∷ r) (map_push writes ps p)

pub waits_push : (ps : List Piece) (n : ℕ) (p : Piece) → IsWithin n ps → (writes : Writes) → cut n (map (part_of writes) (ps ++ p ∷ [])) ≡ cut n (map (part_of writes) ps) ++ part_of writes p ∷ []
waits_push ps n p w writes = ap (cut n) (map_push writes ps p) ∙ cut_push writes n ps (part_of writes p) w

pub fits_length : (writes : Writes) (p : Piece) → Fits writes p → length (part_of writes p).bytes ≡ size_of p
fits_length writes (Text bytes) fits = refl
fits_length writes (Abort bytes) fits = refl
fits_length writes (Whole head) fits = refl
fits_length writes (Head head) fits = refl
fits_length writes (Own cookie size) fits = fits

-- bytes of the first part that go out, and leave some
part_within : (part : Part) (cursor n : ℕ) (parts : List Part) → cursor + n < length part.bytes → cut (cursor + n) (part ∷ parts) ≡ wrote (cut cursor (part ∷ parts)) n
part_within part cursor n parts h = grind (arith, h, drop-drop n cursor part.bytes, length-drop cursor part.bytes)

part_stays : (part : Part) (cursor n : ℕ) (parts : List Part) → cursor + n < length part.bytes → ended (cut cursor (part ∷ parts)) n ≡ 0
part_stays part cursor n parts h = grind (arith, h, length-drop cursor part.bytes)

-- the first piece goes on
pub wrote_within : (writes : Writes) (p : Piece) (ps : List Piece) (cursor n : ℕ) → Fits writes p → cursor + n < size_of p → cut (cursor + n) (map (part_of writes) (p ∷ ps)) ≡ wrote (cut cursor (map (part_of writes) (p ∷ ps))) n
wrote_within writes p ps cursor n fits h = part_within (part_of writes p) cursor n (map (part_of writes) ps) (subst (λ (k : ℕ). cursor + n < k) (sym (fits_length writes p fits)) h)

pub stays_within : (writes : Writes) (p : Piece) (ps : List Piece) (cursor n : ℕ) → Fits writes p → cursor + n < size_of p → ended (cut cursor (map (part_of writes) (p ∷ ps))) n ≡ 0
stays_within writes p ps cursor n fits h = part_stays (part_of writes p) cursor n (map (part_of writes) ps) (subst (λ (k : ℕ). cursor + n < k) (sym (fits_length writes p fits)) h)

same_parts : (old new : Writes) (pieces : List Piece) → AgreeOn old new pieces → map (part_of new) pieces ≡ map (part_of old) pieces
same_parts old new [] agree = refl
same_parts old new (piece ∷ pieces) agree = let first = agree.0 in let rest = same_parts old new pieces agree.1 in ap (λ p. p ∷ map (part_of new) pieces) first ∙ ap (λ r. part_of old piece ∷ r) rest

pub others_wait : OthersWait
others_wait old new q agree = ap (cut q.cursor) (same_parts old new q.pieces agree)

still_fits : (old new : Writes) (piece : Piece) → part_of new piece ≡ part_of old piece → Fits old piece → Fits new piece
still_fits old new (Text bytes) e fits = tt
still_fits old new (Abort bytes) e fits = tt
still_fits old new (Whole head) e fits = tt
still_fits old new (Head head) e fits = tt
still_fits old new (Own cookie size) e fits = ap (λ (p : Part). length p.bytes) e ∙ fits

pub others_fit : OthersFit
others_fit old new [] agree fit = tt
others_fit old new (piece ∷ pieces) agree fit = (still_fits old new piece agree.0 fit.0, others_fit old new pieces agree.1 fit.1)

left_is : (writes : Writes) (cursor : ℕ) (pieces : List Piece) → AllFit writes pieces → left_of cursor pieces ≡ length (out (cut cursor (map (part_of writes) pieces)))
left_is writes cursor [] fit = refl
left_is writes cursor (piece ∷ pieces) fit = ap (λ (k : ℕ). k - cursor) (sym (fits_length writes piece fit.0)) ∙ sym (length-drop cursor (part_of writes piece).bytes)

pub left_is_offered : LeftIsOffered
left_is_offered writes q fit = left_is writes q.cursor q.pieces fit

-- the cursor stands within the bytes of a first piece that fits
pub offered : (writes : Writes) (piece : Piece) (cursor : ℕ) (bytes : List ℕ) → Fits writes piece → cursor < size_of piece → bytes ≡ (part_of writes piece).bytes → cursor ≤ length bytes
offered writes piece cursor bytes fits within e = let size = fits_length writes piece fits in let same = ap (λ (b : List ℕ). length b) e in omega (arith, within, size, same)
