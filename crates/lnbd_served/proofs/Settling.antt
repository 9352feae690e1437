-- Things that are written one after another, and read in pieces that are cut anywhere by a reader that may give up on one of them.
use Rattle.std.proofs.Common.{◌≡◌, ℕ, ◌<◌, ◌≤◌, Bool, true, false, List, [], ◌∷◌, ◌++◌, length, Option, Some, None, refl, ap, sym, subst, ◌∙◌, arith, append_assoc, length-append, ◌⊎◌, inl, inr}
use Rattle.std.specs.List.{flat_map}
use Rattle.std.proofs.lemmas.Bool.{cases_lt}
use Rattle.lnbd_stream.specs.Stream.{Rules, Held, fresh, settle, feed}
use Rattle.lnbd_stream.specs.Grammar.{once, wants}
use Rattle.lnbd_stream.specs.Laws.{Lasts, IsPart}
use Rattle.lnbd_stream.proofs.Stream.{feed_lasts}
use Rattle.lnbd_stream.proofs.Fronts.{cuts_meet}
use Rattle.lnbd_stream.proofs.Grammar.{once_there, once_less, wants_true, wants_false}

module _ {S R Q : Type 0} (rules : Rules S R) (encode : Q → List ℕ) (full : (one : Q) → 0 < length (encode one)) (P : S → List Q → Type 0) (Bad : S → Type 0) where
  -- a thing was shown that the reader gives up on, or all of the first thing
  abbrev pub Found : S → (left : List ℕ) → (more : List Q) → R → Type 0
  Found known left more found = Bad (rules.enter found known) ⊎ ((left ≡ []) × P (rules.enter found known) more)

  -- what these bytes of the first thing show, where others of it are left
  abbrev pub Settles : S → (left : List ℕ) → (more : List Q) → Option R → Type 0
  Settles known left more None = 0 < length left
  Settles known left more (Some found) = Found known left more found

  -- The reader has entered the first things, and knows what is to come; or it has given up.
  pub record Reading (after : Held S) (coming : List ℕ) : Type 0 where
    pub rest : List Q
    pub fits : P after.known rest
    pub left : after.pending ++ coming ≡ flat_map encode rest
    pub part : IsPart encode after.pending rest

  module _ (bad : Lasts rules Bad) (each : (known : S) (one : Q) (more : List Q) (now left : List ℕ) → P known (one ∷ more) → now ++ left ≡ encode one → Settles known left more (rules.shows known now)) where
    part_none : (all : List Q) → IsPart encode [] all
    part_none [] = refl
    part_none (one ∷ more) = full one

    pub feed_settles : (known : S) (pending bytes coming : List ℕ) (all : List Q) → P known all → pending ++ (bytes ++ coming) ≡ flat_map encode all → IsPart encode pending all →
        Bad (feed rules (record { known = known; pending = pending }) bytes).known ⊎ Reading (feed rules (record { known = known; pending = pending }) bytes) coming
    feed_settles known pending [] coming all p e part = inr (record { rest = all; fits = p; left = e; part = part })
    feed_settles known pending (byte ∷ bytes) coming [] p e part =
        let n = ap length e in absurd (omega (arith, n, length-append pending (byte ∷ (bytes ++ coming))))
    feed_settles known pending (byte ∷ bytes) coming (one ∷ all) p e part =
        go met.0 met.1 met.2 (rules.shows known now) (each known one all now met.0 p (sym met.1))
        (λ enough. feed_settles known now bytes coming (one ∷ all) p joined enough)
        (λ found after other. feed_settles (rules.enter found known) [] bytes coming all after other (part_none all))
      where
        now : List ℕ
        now = pending ++ byte ∷ []

        joined : now ++ (bytes ++ coming) ≡ encode one ++ flat_map encode all
        joined = append_assoc pending (byte ∷ []) (bytes ++ coming) ∙ e

        met : (m : List ℕ) × (encode one ≡ now ++ m) × (bytes ++ coming ≡ m ++ flat_map encode all)
        met = cuts_meet now (bytes ++ coming) (encode one) (flat_map encode all) joined (omega (arith, length-append pending (byte ∷ [])))

        given_up : (found : R) → Bad (rules.enter found known) → Bad (feed rules (settle rules known now (Some found)) bytes).known
        given_up found b = feed_lasts rules Bad bad (settle rules known now (Some found)) bytes b

        go : (m : List ℕ) → encode one ≡ now ++ m → bytes ++ coming ≡ m ++ flat_map encode all → (v : Option R) → Settles known m all v →
            (length now < length (encode one) → Bad (feed rules (record { known = known; pending = now }) bytes).known ⊎ Reading (feed rules (record { known = known; pending = now }) bytes) coming) →
            ((found : R) → P (rules.enter found known) all → bytes ++ coming ≡ flat_map encode all →
            Bad (feed rules (fresh (rules.enter found known)) bytes).known ⊎ Reading (feed rules (fresh (rules.enter found known)) bytes) coming) →
            Bad (feed rules (settle rules known now v) bytes).known ⊎ Reading (feed rules (settle rules known now v) bytes) coming
        go m whole other None some more next = more (omega (arith, some, ap length whole, length-append now m))
        go m whole other (Some found) (inl b) more next = inl (given_up found b)
        go m whole other (Some found) (inr (none, after)) more next = next found after (other ∙ ap (λ (x : List ℕ). x ++ flat_map encode all) none)

-- Word by word of a grammar: what a front of some bytes shows, where `left` of them are still to come: nothing before the end, a fault, or at the end this.
module _ {R : Type 0} (IsFault : R → Type 0) (Right : R → Type 0) where
  abbrev pub Good : (left : List ℕ) → Option R → Type 0
  Good left None = 0 < length left
  Good left (Some found) = IsFault found ⊎ ((left ≡ []) × Right found)

  pub good_as : (left : List ℕ) (one other : Option R) → one ≡ other → Good left other → Good left one
  good_as left one other e g = subst (λ (v : Option R). Good left v) (sym e) g

  -- nothing is shown before so many bytes, which are no more than there are
  pub good_once : (n : ℕ) (now left : List ℕ) (shown : Option R) → n ≤ length (now ++ left) → (n ≤ length now → Good left shown) → Good left (once n now shown)
  good_once n now left shown fits h = elim (cases_lt (length now) n) [
    | inl less ↦ good_as left _ None (once_less n now shown less) (omega (arith, fits, less, length-append now left))
    | inr there ↦ good_as left _ shown (once_there n now shown there) (h there)
  ]

  pub good_wants : (left : List ℕ) (test : Bool) (fault : R) (shown : Option R) → IsFault fault → (test ≡ true → Good left shown) → Good left (wants test fault shown)
  good_wants left true fault shown is h = good_as left _ shown (wants_true true fault shown refl) (h refl)
  good_wants left false fault shown is h = good_as left _ (Some fault) (wants_false false fault shown refl) (inl is)

  -- shown with the last of the bytes
  pub good_whole : (n : ℕ) (now left : List ℕ) (shown : Option R) → n ≡ length (now ++ left) → (left ≡ [] → Good [] shown) → Good left (once n now shown)
  good_whole n now left shown all h = good_once n now left shown (omega (arith, all)) (λ there. go left (omega (arith, all, there, length-append now left)) h)
    where
      go : (l : List ℕ) → length l ≡ 0 → (l ≡ [] → Good [] shown) → Good l shown
      go [] none h = h refl
      go (x ∷ l) none h = absurd (omega (arith, none))
