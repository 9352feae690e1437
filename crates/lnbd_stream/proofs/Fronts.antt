-- Things that are written one after another, and read in pieces that are cut anywhere.
use Rattle.std.proofs.Common.{◌≡◌, ℕ, ◌<◌, ◌≤◌, List, [], ◌∷◌, ◌++◌, length, Some, None, refl, ap, sym, ◌∙◌, arith, append_assoc, length-append, append-nil}
use Rattle.std.specs.List.{flat_map}
use Rattle.lnbd_stream.specs.Stream.{Rules, fresh, settle, feed}
use Rattle.lnbd_stream.specs.Laws.{Fronts, IsPart, ReadSoFar}

-- where two cuts of one list meet
pub cuts_meet : (a b c d : List ℕ) → a ++ b ≡ c ++ d → length a ≤ length c → (m : List ℕ) × (c ≡ a ++ m) × (b ≡ m ++ d)
cuts_meet [] b c d e le = (c, refl, e)
cuts_meet (x ∷ a) b [] d e le = absurd (omega arith)
cuts_meet (x ∷ a) b (y ∷ c) d e le =
    let tails : a ++ b ≡ c ++ d = cc in
    let heads : y ≡ x = cc in
    let r = cuts_meet a b c d tails (omega arith) in
    (r.0, cc (r.1), r.2)

module _ {S R Q : Type 0} (rules : Rules S R) (as_shown : Q → R) (encode : Q → List ℕ) (full : (one : Q) → 0 < length (encode one)) where
  -- nothing is held of what comes
  pub part_none : (all : List Q) → IsPart encode [] all
  part_none [] = refl
  part_none (one ∷ more) = full one

  pub feed_fronts : (known : S) (pending bytes coming : List ℕ) (all : List Q) → pending ++ (bytes ++ coming) ≡ flat_map encode all → Fronts rules as_shown encode known all → IsPart encode pending all →
      ReadSoFar rules as_shown encode known all (feed rules (record { known = known; pending = pending }) bytes) coming
  feed_fronts known pending [] coming all e fronts part = record { front = []; rest = all; split = refl; knows = refl; left = e; part = part }
  feed_fronts known pending (byte ∷ bytes) coming [] e fronts part =
      let n = ap length e in absurd (omega (arith, n, length-append pending (byte ∷ (bytes ++ coming))))
  feed_fronts known pending (byte ∷ bytes) coming (one ∷ all) e fronts part =
      go met.0 met.1 met.2 (λ enough joined. feed_fronts known now bytes coming (one ∷ all) joined fronts enough) (λ joined. feed_fronts (rules.enter (as_shown one) known) [] bytes coming all joined fronts.1 (part_none all))
    where
      now : List ℕ
      now = pending ++ byte ∷ []

      joined : now ++ (bytes ++ coming) ≡ encode one ++ flat_map encode all
      joined = append_assoc pending (byte ∷ []) (bytes ++ coming) ∙ e

      met : (m : List ℕ) × (encode one ≡ now ++ m) × (bytes ++ coming ≡ m ++ flat_map encode all)
      met = cuts_meet now (bytes ++ coming) (encode one) (flat_map encode all) joined (omega (arith, length-append pending (byte ∷ [])))

      go : (m : List ℕ) → encode one ≡ now ++ m → bytes ++ coming ≡ m ++ flat_map encode all →
          (length now < length (encode one) → now ++ (bytes ++ coming) ≡ flat_map encode (one ∷ all) → ReadSoFar rules as_shown encode known (one ∷ all) (feed rules (record { known = known; pending = now }) bytes) coming) →
          (bytes ++ coming ≡ flat_map encode all → ReadSoFar rules as_shown encode (rules.enter (as_shown one) known) all (feed rules (fresh (rules.enter (as_shown one) known)) bytes) coming) →
          ReadSoFar rules as_shown encode known (one ∷ all) (feed rules (settle rules known now (rules.shows known now)) bytes) coming
      go [] whole other more next =
          let is : now ≡ encode one = sym (whole ∙ append-nil now) in
          let shown : rules.shows known now ≡ Some (as_shown one) = ap (rules.shows known) is ∙ fronts.0.shown in
          let c = next other in
          rw shown (record { front = one ∷ c.front; rest = c.rest; split = ap (λ xs. one ∷ xs) c.split; knows = c.knows; left = c.left; part = c.part })
      go (m ∷ ms) whole other more next =
          let n = ap length whole in
          let none : rules.shows known now ≡ None = fronts.0.first now ms m (sym whole) in
          rw none (more (omega (arith, n, length-append now (m ∷ ms))) joined)
