-- What a line tells, of what the handle answers.
use Rattle.std.proofs.Common.{◌≡◌, ℕ, List, ◌++◌, Result, Ok, Err, OnOk, sym, ◌∙◌, ap, subst}
use Rattle.lnbd_script.specs.declared.session.Session.{Session}
use Rattle.lnbd_script.specs.declared.told.Told.{Told}
use Rattle.lnbd_script.specs.declared.place.Place.{Place}
use Rattle.lnbd_script.specs.declared.place.Place.TheVariants as place
use Rattle.lnbd_script.specs.Scenes.{Held, seen_of}
use Rattle.lnbd_script.specs.Seen.{Seen, IsAt}
use Rattle.lnbd_script.specs.Steps.{IsHeld}
use Rattle.lnbd_script.specs.Texts.{text_of}

pub answer_told : {E : Type 0} (r : Result (Unit {0}) E) (told given : Told) (session : Session) (old new piece : List ℕ) → told ≡ given → OnOk r (new ≡ old ++ piece)
    → ((seen : Seen) → IsAt seen session → piece ≡ text_of seen.history given) → OnOk r ((seen : Seen) → IsAt seen session → new ≡ old ++ text_of seen.history told)
answer_told (Ok done) told given session old new piece is grown same =
    λ seen at. grown ∙ ap (λ (p : List ℕ). old ++ p) (same seen at) ∙ ap (λ (t : Told). old ++ text_of seen.history t) (sym is)
answer_told (Err fault) told given session old new piece is grown same = tt

pub held_told : {E : Type 0} (r : Result (Unit {0}) E) (told : Told) (p : Place) (session : Session) (old new : List ℕ) → p ≡ place.Open session → OnOk r ((seen : Seen) → IsAt seen session → new ≡ old ++ text_of seen.history told)
    → OnOk r ((held : Held) → IsHeld held p → new ≡ old ++ text_of held.history told)
held_told (Ok done) told p session old new is same = λ held at. same (seen_of held session.first) (subst (λ (q : Place). IsHeld held q) is at)
held_told (Err fault) told p session old new is same = tt
