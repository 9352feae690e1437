-- Callbacks count each free: their count is that of the notes.
use Rattle.std.proofs.Common.{◌≡◌, ◌+◌, ◌≤◌, min, map, ℕ, List, [], ◌∷◌, ◌++◌, refl, ap, arith}
use Rattle.lnbd_model.specs.declared.note.Note.{Note}
use Rattle.lnbd_model.specs.declared.note.Note.TheVariants as note
use Rattle.lnbd_callbacks.specs.Calls.{Call}
use Rattle.lnbd_callbacks.specs.Calls as call
use Rattle.lnbd_history.specs.Entries.{Act, Chunk, Extents, Complete, Free, Entry, Filed, Freed, Cleared, acts_of, call_of, calls, free_acts, frees, note_of, notes, own}
use Rattle.lnbd_script.specs.declared.keeper.Keeper.{Keeper}
use Rattle.lnbd_script.specs.Kept.{counted_on, freed_by, frees_in}

frees_in_on : (xs ys : List (Call Keeper)) → frees_in (xs ++ ys) ≡ frees_in xs + frees_in ys
frees_in_on [] ys = omega arith
frees_in_on (call.Free callback ∷ xs) ys = let more = frees_in_on xs ys in omega (arith, more)
frees_in_on (call.Chunk callback bytes offset status error heard ∷ xs) ys = frees_in_on xs ys
frees_in_on (call.Extents callback context offset entries error heard ∷ xs) ys = frees_in_on xs ys
frees_in_on (call.Complete callback error bytes verdict ∷ xs) ys = frees_in_on xs ys

frees_on : (xs ys : List Note) → frees (xs ++ ys) ≡ frees xs + frees ys
frees_on [] ys = omega arith
frees_on (note.Freed number ∷ xs) ys = let more = frees_on xs ys in omega (arith, more)
frees_on (note.Chunk slot offset size status error heard ∷ xs) ys = frees_on xs ys
frees_on (note.Extents slot context offset count error heard ∷ xs) ys = frees_on xs ys
frees_on (note.Completed slot error kept ∷ xs) ys = frees_on xs ys

acts_same : (acts : List (Act Keeper)) → frees_in (map call_of acts) ≡ frees (map note_of acts)
acts_same [] = refl
acts_same (Free slot ∷ acts) = ap (λ (n : ℕ). 1 + n) (acts_same acts)
acts_same (Chunk slot bytes offset status error heard ∷ acts) = acts_same acts
acts_same (Extents slot context offset entries error heard ∷ acts) = acts_same acts
acts_same (Complete slot error bytes verdict ∷ acts) = acts_same acts

behind : (earlier : List (Entry Keeper)) (acts : List (Act Keeper)) → frees_in (calls earlier) ≡ frees (notes earlier) → frees_in (calls earlier ++ map call_of acts) ≡ frees (notes earlier ++ map note_of acts)
behind earlier acts same =
    let one = frees_in_on (calls earlier) (map call_of acts) in
    let two = frees_on (notes earlier) (map note_of acts) in
    let three = acts_same acts in
    omega (arith, one, two, three, same)

-- what the calls free is what the notes tell
pub calls_same : (entries : List (Entry Keeper)) → frees_in (calls entries) ≡ frees (notes entries)
calls_same [] = refl
calls_same (Filed filing ∷ earlier) = behind earlier (acts_of filing (own filing.cookie earlier)) (calls_same earlier)
calls_same (Freed flight ∷ earlier) = behind earlier (free_acts flight) (calls_same earlier)
calls_same (Cleared ∷ earlier) = calls_same earlier

counted : (count : ℕ) (cs : List (Call Keeper)) → count ≤ 18446744073709551615 → freed_by count cs ≡ min (count + frees_in cs) 18446744073709551615
counted count [] fits = omega (arith, fits)
counted count (call.Free callback ∷ cs) fits = let more = counted (counted_on count) cs (omega arith) in omega (arith, more, fits)
counted count (call.Chunk callback bytes offset status error heard ∷ cs) fits = counted count cs fits
counted count (call.Extents callback context offset entries error heard ∷ cs) fits = counted count cs fits
counted count (call.Complete callback error bytes verdict ∷ cs) fits = counted count cs fits

-- the count is that of the notes, as long as that fits
pub freed_is : (entries : List (Entry Keeper)) → frees (notes entries) ≤ 18446744073709551615 → freed_by 0 (calls entries) ≡ frees (notes entries)
freed_is entries fits =
    let count = counted 0 (calls entries) (omega arith) in
    let same = calls_same entries in
    omega (arith, count, same, fits)
