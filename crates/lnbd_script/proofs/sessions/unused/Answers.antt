use Rattle.std.proofs.Common.{◌≡◌, ◌++◌, ◌∷◌, [], ℕ, List, replicate, vec_len, sym, ◌∙◌, ap, arith}
use Rattle.lnbd_script.specs.declared.place.Place.{Place}
use Rattle.lnbd_script.specs.declared.place.Place.TheVariants as place
use Rattle.lnbd_script.proofs.SceneLemmas.{replicate_more}
use Rattle.lnbd_script.proofs.sessions.unused.Goals as goal

pub places-preserved : goal.places-preserved
places-preserved c = record {
  items = c.push_reserved.ensures.items ∙ ap (λ (l : List Place). l ++ place.Unused ∷ []) c.places.invariant.items ∙ replicate_more (vec_len c.places.places) place.Unused ∙ ap (λ (n : ℕ). replicate n place.Unused) (sym c.push_reserved.ensures.len);
  few = omega (arith, c.push_reserved.ensures.len, c.places-test.true, c.len.ensures);
  room = omega (arith, c.push_reserved.ensures.capacity, c.places.invariant.room);
}

pub returns : goal.returns
returns c =
    let full : vec_len c.places.places ≡ 16 = omega (arith, c.places.invariant.few, c.places-test.false, c.len.ensures) in
    c.places.invariant.items ∙ ap (λ (n : ℕ). replicate n place.Unused) full
