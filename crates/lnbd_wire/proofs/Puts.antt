-- A number that is put after the fields so far.
use Rattle.std.proofs.Common.{◌≡◌, ℕ, ◌+◌, ◌≤◌, List, [], ◌∷◌, ◌++◌, length, take, sym, ap, ◌∙◌, append_assoc}
use Rattle.std.proofs.lemmas.List.{length-take-le}
use Rattle.std.proofs.Math.Seq.{take-append-add, take-append_seam}
use Rattle.byteorder.specs.Endian.{big_bytes}
use Rattle.byteorder.specs.Numbers.{length-bytes_high_first}
use Rattle.lnbd_records.specs.Numbers.{Field, number, row}
use Rattle.lnbd_records.proofs.NumberLaws.{row-push}

pub take-put : (w v at : ℕ) (out buf rest post : List ℕ) (fs : List Field) → at ≤ length out → buf ≡ big_bytes w v ++ rest → take at out ≡ row fs → take (at + w) (take at out ++ (buf ++ post)) ≡ row (fs ++ number w v ∷ [])
take-put w v at out buf rest post fs h e r =
    let size : length (take at out) ≡ at = length-take-le at out h in
    let front : take (length (take at out) + w) (take at out ++ (buf ++ post)) ≡ take at out ++ take w (buf ++ post) = take-append-add (take at out) (buf ++ post) w in
    let moved : take (at + w) (take at out ++ (buf ++ post)) ≡ take at out ++ take w (buf ++ post) = ap (λ (k : ℕ). take (k + w) (take at out ++ (buf ++ post))) (sym size) ∙ front in
    let spelled : buf ++ post ≡ big_bytes w v ++ (rest ++ post) = ap (λ (t : List ℕ). t ++ post) e ∙ append_assoc (big_bytes w v) rest post in
    let seam : take (length (big_bytes w v)) (big_bytes w v ++ (rest ++ post)) ≡ big_bytes w v = take-append_seam (big_bytes w v) (rest ++ post) in
    let one : take w (buf ++ post) ≡ big_bytes w v = ap (take w) spelled ∙ ap (λ (k : ℕ). take k (big_bytes w v ++ (rest ++ post))) (sym (length-bytes_high_first w v)) ∙ seam in
    moved ∙ ap (λ (t : List ℕ). take at out ++ t) one ∙ ap (λ (t : List ℕ). t ++ big_bytes w v) r ∙ sym (row-push fs w v)
