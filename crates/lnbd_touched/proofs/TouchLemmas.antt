-- Steps on the file of a number follow one another.
use Rattle.std.proofs.Common.{◌≡◌, ℕ, List, Option, Some, refl, ap, sym, subst, ◌∙◌}
use Rattle.lnbd_store.specs.Shelf.{Shelf, Goes, Same, IsOpen, Reads, Changes}
use Rattle.lnbd_touched.specs.Touches.{Alone, Touches}

some_is : {A : Type 0} {a b : A} → Some a ≡ Some b → a ≡ b
some_is e = cc

module _ (n : ℕ) where
  alone_then : (R S T : List ℕ → List ℕ → Type 0) (a b c : Shelf) → ((x y z : List ℕ) → R x y → S y z → T x z) → Alone n R a b → Alone n S b c → Alone n T a c
  alone_then R S T a b c f g h = record {
    paths = λ m. h.paths m ∙ g.paths m;
    file = λ path bytes o.
        let one = g.file path bytes o in
        let two = h.file path one.0 (record { path_ = g.paths n ∙ o.path_; file = one.1 }) in
        (two.0, two.1, f bytes one.0 two.0 one.2 two.2);
    rest = λ path other p d. h.rest path other (g.paths n ∙ p) d ∙ g.rest path other p d;
  }

  pub touches_then : (R S T : List ℕ → List ℕ → Type 0) (a b c : Option Shelf) → ((x y z : List ℕ) → R x y → S y z → T x z) → Touches n R a b → Touches n S b c → Touches n T a c
  touches_then R S T a b c f g h = record {
    on = λ now e.
        let two = h.on now e in
        let one = g.on two.0 two.1 in
        (one.0, one.1, alone_then R S T one.0 two.0 now f one.2 two.2);
  }

  pub touches_weaker : (R S : List ℕ → List ℕ → Type 0) (a b : Option Shelf) → ((x y : List ℕ) → R x y → S x y) → Touches n R a b → Touches n S a b
  touches_weaker R S a b f g = record {
    on = λ now e.
        let one = g.on now e in
        (one.0, one.1, record { paths = one.2.paths; file = λ path bytes o. let k = one.2.file path bytes o in (k.0, k.1, f bytes k.0 k.2); rest = one.2.rest });
  }

  pub touches_none : (R : List ℕ → List ℕ → Type 0) (a : Option Shelf) → ((x : List ℕ) → R x x) → Touches n R a a
  touches_none R a f = record { on = λ now e. (now, e, record { paths = λ m. refl; file = λ path bytes o. (bytes, o.file, f bytes); rest = λ path other p d. refl }) }

  -- the number's path and bytes are one
  one_file : (shelf : Shelf) (path path2 bytes bytes2 : List ℕ) → IsOpen shelf n path bytes → IsOpen shelf n path2 bytes2 → (path ≡ path2) × (bytes ≡ bytes2)
  one_file shelf path path2 bytes bytes2 o q =
      let p : path ≡ path2 = some_is (sym o.path_ ∙ q.path_) in
      (p, some_is (sym o.file ∙ ap (λ x. shelf.files x) p ∙ q.file))

  pub touches_changed : (R : List ℕ → List ℕ → Type 0) (f : List ℕ → List ℕ) (a b : Option Shelf) → ((x : List ℕ) → R x (f x)) → Goes a b (Changes n f) → Touches n R a b
  touches_changed R f a b r g = record {
    on = λ now e.
        let one = g.on now e in
        let k = one.2 in (
          one.0,
          one.1,
          record {
            paths = k.paths;
            file = λ path bytes o. let s = one_file one.0 path k.path bytes k.bytes o k.opened in (f bytes, ap (λ x. now.files x) s.0 ∙ k.file ∙ ap (λ x. Some (f x)) (sym s.1), r bytes);
            rest = λ path other p d. k.rest other (λ h. d (h ∙ some_is (sym k.opened.path_ ∙ p)));
          },
        );
  }

  pub touches_read : (R : List ℕ → List ℕ → Type 0) (P : List ℕ → Type 0) (a b : Option Shelf) → ((x : List ℕ) → P x → R x x) → Goes a b (Reads n P) → Touches n R a b
  touches_read R P a b r g = record {
    on = λ now e.
        let one = g.on now e in
        let k = one.2 in (
          one.0,
          one.1,
          record {
            paths = k.same.paths;
            file = λ path bytes o. let s = one_file one.0 path k.path bytes k.bytes o k.opened in (bytes, k.same.files path ∙ o.file, r bytes (subst P (sym s.1) k.is));
            rest = λ path other p d. k.same.files other;
          },
        );
  }

  pub touches_same : (R : List ℕ → List ℕ → Type 0) (a b : Option Shelf) → ((x : List ℕ) → R x x) → Goes a b Same → Touches n R a b
  touches_same R a b r g = record {
    on = λ now e.
        let one = g.on now e in
        (one.0, one.1, record { paths = one.2.paths; file = λ path bytes o. (bytes, one.2.files path ∙ o.file, r bytes); rest = λ path other p d. one.2.files other });
  }
