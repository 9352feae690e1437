-- Data that are still to come to a read in flight.
use Rattle.std.proofs.Common.{◌≡◌, ℕ, ◌&&◌, ◌||◌, [], true, Option, Some, None, replicate, refl, ap, sym, ◌∙◌, subst}
use Rattle.std.specs.Prelude.{is_some}
use Rattle.std.proofs.lemmas.List.{length-replicate}
use Rattle.lnbd_keyed.specs.Keyed.{value_at}
use Rattle.lnbd_extents.specs.Positions.{holds, any_at}
use Rattle.lnbd_records.specs.Content.{Data}
use Rattle.lnbd_chunks.specs.Chunk.{Waiting}
use Rattle.lnbd_outcome.specs.Facts.{Facts, is_bad}
use Rattle.lnbd_outcome.specs.Pieces.{Query, is_whole}
use Rattle.lnbd_structured.specs.Assembly.{Assembled, clashes}
use Rattle.lnbd_machine.specs.Machine.{Row}
use Rattle.lnbd_commands.specs.Commands.{Commands, waiting_at}
use Rattle.lnbd_commands.specs.Faulty.{HasAsked}
use Rattle.lnbd_commands.specs.Lands.{known_of}
use Rattle.lnbd_commands.specs.Sound.{IsSound}
use Rattle.lnbd_commands.proofs.MarkLemmas.{unkept}
use Rattle.lnbd_commands.proofs.ReplyLemmas.{Flying, flying_row, none_of}

-- What is at fault by the places that are kept is at fault.
pub clash_is : (kept : Assembled) (query : Query) (facts : Facts) (offset size : ℕ) → query ≡ kept.query → facts ≡ kept.facts → clashes kept offset size ≡ is_bad query [] facts (Data offset (replicate size 0))
clash_is kept query facts offset size asked told =
    rw (asked, told) (ap (λ (n : ℕ). (is_whole kept.query && kept.facts.came) || any_at (holds kept.facts.told) offset n) (sym (length-replicate size 0)))

asks : (o : Option Waiting) (offset size : ℕ) → HasAsked o offset size → is_some o ≡ true
asks None offset size h = absurd h
asks (Some known) offset size h = refl

-- The row of a command in flight to which data come.
module _ {K : Type 0} (c : ℕ) (m : Commands K) (offset size : ℕ) (asked : HasAsked (waiting_at c m) offset size) where
  pub asked_row : Flying c m
  asked_row = flying_row c m (asks (waiting_at c m) offset size asked)

  same_row : (one other : Row K) → Some one ≡ Some other → one ≡ other
  same_row one other e = cc

  pub asked_held : IsSound m → (row : Row K) → value_at c m.rows ≡ Some row → row.kept ≡ None
  asked_held sound row at =
      let f = asked_row in
      subst (λ (r : Row K). r.kept ≡ None) (same_row f.row row (sym f.at ∙ at)) (none_of f.row.kept (unkept c f.row f.flight m.done m.rows sound.rows f.at f.flies))

  pub asked_known : (row : Row K) → value_at c m.rows ≡ Some row → HasAsked (Some (known_of row)) offset size
  asked_known row at =
      let f = asked_row in
      subst (λ (r : Row K). HasAsked (Some (known_of r)) offset size) (same_row f.row row (sym f.at ∙ at)) (subst (λ (o : Option Waiting). HasAsked o offset size) f.known asked)
