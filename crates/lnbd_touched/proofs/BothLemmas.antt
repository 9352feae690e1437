-- Steps on two files follow one another.
use Rattle.std.proofs.Common.{◌≡◌, ℕ, List, Option, refl, sym, ◌∙◌}
use Rattle.lnbd_store.specs.Shelf.{Shelf}
use Rattle.lnbd_touched.specs.Both.{Bytes4, Both}
use Rattle.lnbd_touched.specs.Laws.{WritesLeaveOther, ReadsLeaveBoth}
use Rattle.lnbd_touched.specs.Parts.{Puts, Tells}
use Rattle.lnbd_touched.specs.Touches.{Touches}

module _ (n m : ℕ) where
  pub both_first : (R : List ℕ → List ℕ → Type 0) (a b : Option Shelf) → Touches n R a b → Both n m (λ x y x2 y2. R x x2 × (y2 ≡ y)) a b
  both_first R a b t = record {
    on = λ now e.
        let one = t.on now e in (
          one.0,
          one.1,
          record {
            paths = one.2.paths;
            files = λ p q x y o r d. let k = one.2.file p x o in (k.0, (y, k.1, one.2.rest p q o.path_ (λ g. d (sym g)) ∙ r.file, (k.2, refl)));
            rest = λ p q other hp hq d f. one.2.rest p other hp d;
          },
        );
  }

  pub both_second : (R : List ℕ → List ℕ → Type 0) (a b : Option Shelf) → Touches m R a b → Both n m (λ x y x2 y2. (x2 ≡ x) × R y y2) a b
  both_second R a b t = record {
    on = λ now e.
        let one = t.on now e in (
          one.0,
          one.1,
          record {
            paths = one.2.paths;
            files = λ p q x y o r d. let k = one.2.file q y r in (x, (k.0, one.2.rest q p r.path_ d ∙ o.file, k.1, (refl, k.2)));
            rest = λ p q other hp hq d f. one.2.rest q other hq f;
          },
        );
  }

  pub both_then : (P Q T : Bytes4) (a b c : Option Shelf) → ((x y x2 y2 x3 y3 : List ℕ) → P x y x2 y2 → Q x2 y2 x3 y3 → T x y x3 y3) → Both n m P a b → Both n m Q b c → Both n m T a c
  both_then P Q T a b c f g h = record {
    on = λ now e.
        let two = h.on now e in
        let one = g.on two.0 two.1 in (
          one.0,
          one.1,
          record {
            paths = λ k. two.2.paths k ∙ one.2.paths k;
            files = λ p q x y o r d.
                let i = one.2.files p q x y o r d in
                let j = two.2.files p q i.0 i.1.0 (record { path_ = one.2.paths n ∙ o.path_; file = i.1.1 }) (record { path_ = one.2.paths m ∙ r.path_; file = i.1.2 }) d in
                (j.0, (j.1.0, j.1.1, j.1.2, f x y i.0 i.1.0 j.0 j.1.0 i.1.3 j.1.3));
            rest = λ p q other hp hq d f. two.2.rest p q other (one.2.paths n ∙ hp) (one.2.paths m ∙ hq) d f ∙ one.2.rest p q other hp hq d f;
          },
        );
  }

  pub both_none : (Q : Bytes4) (a : Option Shelf) → ((x y : List ℕ) → Q x y x y) → Both n m Q a a
  both_none Q a f = record {
    on = λ now e. (now, e, record { paths = λ k. refl; files = λ p q x y o r d. (x, (y, o.file, r.file, f x y)); rest = λ p q other hp hq d f. refl });
  }

pub writes_leave_other : WritesLeaveOther
writes_leave_other n m at bytes a b t = both_second n m (Puts at bytes) a b t

pub reads_leave_both : ReadsLeaveBoth
reads_leave_both n m at bytes a b t = both_first n m (Tells at bytes) a b t
