-- A result that is handed out retires its command.
use Rattle.std.proofs.Common.{◌≡◌, ℕ, List, Option, Some, None, true, refl, ap, sym, ◌∙◌, subst}
use Rattle.std.specs.Prelude.{is_some}
use Rattle.lnbd_keyed.specs.Keyed.{value_at}
use Rattle.lnbd_history.specs.declared.kinds.Completed.{Completed}
use Rattle.lnbd_history.specs.declared.kinds.Completed.TheVariants.{Done, Failed, NotYet, NoSuchCookie}
use Rattle.lnbd_history.specs.Events.{Event, Retire}
use Rattle.lnbd_history.specs.Entries.{Kept}
use Rattle.lnbd_machine.specs.Machine.{Row, State, Machine, step}
use Rattle.lnbd_machine.specs.Laws.{IsPartial, Keeps}
use Rattle.lnbd_machine.specs.Now.{completed_row, completed_with}
use Rattle.lnbd_machine.proofs.Partial.{step_partial}
use Rattle.lnbd_commands.specs.Asks.{taking as taking_result}
use Rattle.lnbd_commands.specs.Commands.{Commands, retiring}
use Rattle.lnbd_commands.specs.Sound.{IsSound as AreSound}
use Rattle.lnbd_commands.proofs.ResultLemmas.{kept_landed}
use Rattle.lnbd_handle.specs.declared.connection.Connection.{Connection}
use Rattle.lnbd_handle.specs.Seen.{IsSound, machine_of}
use Rattle.lnbd_handle.specs.Completing.{completing}
use Rattle.lnbd_handle.proofs.PlacesLemmas.{IsIdle}
use Rattle.lnbd_handle.proofs.QueuedLemmas.{KeepsUnwritten, kept_state, kept_sound, retired_keeps}

-- what is done or failed was kept
done_kept : (o : Option Kept) (bytes : List ℕ) → Done bytes ≡ completed_with o → is_some o ≡ true
done_kept None bytes e = cc
done_kept (Some k) bytes e = refl

failed_kept : (o : Option Kept) (error : ℕ) (bytes : List ℕ) → Failed error bytes ≡ completed_with o → is_some o ≡ true
failed_kept None error bytes e = cc
failed_kept (Some k) error bytes e = refl

module _ {K : Type 0} where
  -- what is owed where a handle is closed again
  abbrev pub Whole : Connection K → List ℕ → Type 0
  Whole c held = IsSound c × IsPartial (machine_of c held)

  pub record Took (event : Event K) (old : Connection K) (held : List ℕ) (new : Connection K) (now : List ℕ) : Type 0 where
    pub step : machine_of new now ≡ step (machine_of old held) event
    pub whole : Whole new now

  pub took : (event : Event K) (old : Connection K) (held : List ℕ) (new : Connection K) (now : List ℕ) → machine_of new now ≡ step (machine_of old held) event →
      Keeps (machine_of old held) event → IsPartial (machine_of old held) → IsSound new → Took event old held new now
  took event old held new now e keeps partial sound = record { step = e; whole = (sound, subst (λ (m : Machine K). IsPartial m) (sym e) (step_partial event (machine_of old held) keeps partial)) }

  abbrev pub Results : Completed → ℕ → Connection K → List ℕ → Commands K → Type 0
  Results result cookie old held commands = (machine_of (record old { commands = commands }) held ≡ completing result cookie (machine_of old held)) × Whole (record old { commands = commands }) held

  retires : (cookie : ℕ) (old : Connection K) (held : List ℕ) (commands : Commands K) → AreSound old.commands → ((row : Row K) → value_at cookie old.commands.rows ≡ Some row → is_some row.kept ≡ true) →
      commands ≡ retiring cookie old.commands → Whole old held → Took (Retire cookie) old held (record old { commands = commands }) held
  retires cookie old held commands sound kept e w = subst (λ (c : Commands K). Took (Retire cookie) old held (record old { commands = c }) held) (sym e)
      (took (Retire cookie) old held (record old { commands = retiring cookie old.commands }) held (ap (λ (s : State K). record { known = s; pending = held }) (kept_state old (retiring cookie old.commands) keeps w.0))
      (sound.cookies, landed) w.1
      (kept_sound old (retiring cookie old.commands) keeps refl w.0))
    where
      landed : (row : Row K) → value_at cookie old.commands.rows ≡ Some row → row.flight ≡ None
      landed row is = kept_landed cookie row old.commands.done old.commands.rows sound.rows is (kept row is)

      keeps : KeepsUnwritten old.written old.commands (retiring cookie old.commands)
      keeps = retired_keeps old.written cookie old.commands landed

  pub took_result : (result : Completed) (cookie : ℕ) (old : Connection K) (held : List ℕ) (commands : Commands K) → AreSound old.commands → result ≡ completed_row (value_at cookie old.commands.rows) →
      commands ≡ taking_result result cookie old.commands → Whole old held → Results result cookie old held commands
  took_result (Done bytes) cookie old held commands sound is e w =
      let t = retires cookie old held commands sound (λ row at. done_kept row.kept bytes (is ∙ ap (λ (o : Option (Row K)). completed_row o) at)) e w in (t.step, t.whole)
  took_result (Failed error bytes) cookie old held commands sound is e w =
      let t = retires cookie old held commands sound (λ row at. failed_kept row.kept error bytes (is ∙ ap (λ (o : Option (Row K)). completed_row o) at)) e w in (t.step, t.whole)
  took_result NotYet cookie old held commands sound is e w = subst (λ (c : Commands K). Results NotYet cookie old held c) (sym e) (refl, w)
  took_result NoSuchCookie cookie old held commands sound is e w = subst (λ (c : Commands K). Results NoSuchCookie cookie old held c) (sym e) (refl, w)

  -- a command whose result is taken is not in flight
  pub idle_result : (result : Completed) (cookie : ℕ) (commands : Commands K) → AreSound commands → result ≡ completed_row (value_at cookie commands.rows) → IsIdle result cookie commands
  idle_result (Done bytes) cookie commands sound is = λ row at. kept_landed cookie row commands.done commands.rows sound.rows at (done_kept row.kept bytes (is ∙ ap (λ (o : Option (Row K)). completed_row o) at))
  idle_result (Failed error bytes) cookie commands sound is = λ row at. kept_landed cookie row commands.done commands.rows sound.rows at (failed_kept row.kept error bytes (is ∙ ap (λ (o : Option (Row K)). completed_row o) at))
  idle_result NotYet cookie commands sound is = tt
  idle_result NoSuchCookie cookie commands sound is = tt
