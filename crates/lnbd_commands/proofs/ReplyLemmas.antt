-- A command in flight and its row.
use Rattle.std.proofs.Common.{◌≡◌, ℕ, List, true, false, refl, ap, sym, subst, Some, None, Option, ◌∙◌}
use Rattle.std.specs.Prelude.{is_some}
use Rattle.lnbd_keyed.specs.Keyed.{value_at, with_value}
use Rattle.lnbd_model.specs.declared.failure.Failure.{Failure}
use Rattle.lnbd_chunks.specs.Chunk.{Waiting}
use Rattle.lnbd_history.specs.Commands.{Flight}
use Rattle.lnbd_history.specs.Entries.{Kept}
use Rattle.lnbd_machine.specs.Machine.{Row}
use Rattle.lnbd_commands.specs.Commands.{Commands, waiting_as, waiting_at}
use Rattle.lnbd_commands.specs.Lands.{known_of, IsLiveRow, IsAnswerable, IsLosable}
use Rattle.lnbd_commands.specs.Rows.{changing, changed, landed}
use Rattle.lnbd_commands.specs.Sound.{IsSound}
use Rattle.lnbd_commands.specs.Takes.{IsReply}
use Rattle.lnbd_commands.proofs.MarkLemmas.{unkept}
use Rattle.lnbd_commands.proofs.SoundLemmas.{live_row}

pub none_of : {A : Type 0} (o : Option A) → is_some o ≡ false → o ≡ None
none_of None h = refl
none_of (Some a) h = absurd (cc (h))

waits : (o : Option Waiting) (error : ℕ) (bytes : List ℕ) → IsReply o error bytes → is_some o ≡ true
waits None error bytes h = absurd h
waits (Some known) error bytes h = refl

module _ {K : Type 0} where
  -- the row and the callbacks of a command in flight
  pub record Flying (c : ℕ) (m : Commands K) : Type 0 where
    pub row : Row K
    pub flight : Flight K
    pub at : value_at c m.rows ≡ Some row
    pub flies : row.flight ≡ Some flight
    pub known : waiting_at c m ≡ Some (known_of row)

  flying_as : (c : ℕ) (m : Commands K) (row : Row K) (o : Option (Flight K)) → value_at c m.rows ≡ Some row → row.flight ≡ o → is_some (waiting_at c m) ≡ true → Flying c m
  flying_as c m row None at e h =
      let none : waiting_at c m ≡ None = ap waiting_as at ∙ ap (λ (o : Option (Flight K)). Rattle.lnbd_machine.specs.Machine.waiting_row o row) e in
      let bad : false ≡ true = sym (ap is_some none) ∙ h in
      absurd (cc (bad))
  flying_as c m row (Some f) at e h =
      record { row = row; flight = f; at = at; flies = e; known = ap waiting_as at ∙ ap (λ (o : Option (Flight K)). Rattle.lnbd_machine.specs.Machine.waiting_row o row) e }

  flying_at : (c : ℕ) (m : Commands K) (o : Option (Row K)) → value_at c m.rows ≡ o → is_some (waiting_at c m) ≡ true → Flying c m
  flying_at c m None at h = let bad : false ≡ true = sym (ap (λ (o : Option (Row K)). is_some (waiting_as o)) at) ∙ h in absurd (cc (bad))
  flying_at c m (Some row) at h = flying_as c m row row.flight at refl h

  pub flying_row : (c : ℕ) (m : Commands K) → is_some (waiting_at c m) ≡ true → Flying c m
  flying_row c m h = flying_at c m (value_at c m.rows) refl h

  -- a command that is replied to
  pub replied_row : (c : ℕ) (m : Commands K) (error : ℕ) (bytes : List ℕ) → IsReply (waiting_at c m) error bytes → Flying c m
  replied_row c m error bytes h = flying_row c m (waits (waiting_at c m) error bytes h)

  pub answerable : (c : ℕ) (m : Commands K) (error : ℕ) (bytes : List ℕ) → IsSound m → (h : IsReply (waiting_at c m) error bytes) (f : Flying c m) → IsAnswerable f.row error bytes m.log
  answerable c m error bytes sound h f = record {
    flies = ap is_some f.flies;
    held = none_of f.row.kept (unkept c f.row f.flight m.done m.rows sound.rows f.at f.flies);
    live = subst (λ (o : Option (Flight K)). IsLiveRow o m.log) (sym f.flies) (live_row m c f.row f.flight m.log sound f.at f.flies refl);
    sized = subst (λ (o : Option Waiting). IsReply o error bytes) f.known h;
  }

  pub losable : (c : ℕ) (m : Commands K) → IsSound m → (f : Flying c m) → IsLosable f.row
  losable c m sound f = record { flies = ap is_some f.flies; held = none_of f.row.kept (unkept c f.row f.flight m.done m.rows sound.rows f.at f.flies) }

  -- a row that landed
  pub landed_rows : (c : ℕ) (failure : Option Failure) (kept : Kept) (row : Row K) (rows : List (ℕ × Row K)) → value_at c rows ≡ Some row → changed (landed failure kept) c rows ≡ with_value c (landed failure kept row) rows
  landed_rows c failure kept row rows at = ap (λ (o : Option (Row K)). changing (landed failure kept) c o rows) at
