-- Each event keeps what holds of the commands of every handle.
use Rattle.std.proofs.Common.{◌≡◌, ℕ, ◌+◌, ◌≤◌, List, [], ◌∷◌, ◌++◌, Bool, true, false, refl, ap, sym, subst, arith, Some, None, length, ◌∙◌, length-append}
use Rattle.std.specs.Prelude.{is_none, is_some}
use Rattle.lnbd_keyed.specs.Keyed.{value_at, with_value, without, IsAbove, IsBelow, IsRising}
use Rattle.lnbd_keyed.proofs.Parts.{with_value_twice, without_with, IsBelow_without, IsBelow_with}
use Rattle.lnbd_keyed.proofs.KeyedLemmas.{IsRising_with, IsRising_without, value_at_with, IsAbove_with, IsAbove_without}
use Rattle.lnbd_callbacks.specs.Desk.{Log}
use Rattle.lnbd_callbacks.specs.declared.caller.Verdict.{Verdict}
use Rattle.lnbd_callbacks.specs.declared.caller.Verdict.TheVariants.{Keep, Retire}
use Rattle.lnbd_inflight.specs.Table.{Table}
use Rattle.lnbd_inflight.specs.Done.{is_done}
use Rattle.lnbd_inflight.proofs.Order.{forgetting_none}
use Rattle.lnbd_history.specs.Commands.{Flight}
use Rattle.lnbd_machine.specs.Machine.{Row}
use Rattle.lnbd_commands.specs.Commands.{Commands}
use Rattle.lnbd_commands.specs.Flights.{IsLiveFlight, completing, flight_numbers, flight_count}
use Rattle.lnbd_commands.specs.Rows.{ended, keeping}
use Rattle.lnbd_commands.specs.Sound.{IsSound, live_numbers}
use Rattle.lnbd_commands.proofs.NumberLemmas.{around, ends, length_flight, first_freed_admitted}
use Rattle.lnbd_commands.proofs.MarkLemmas.{unmarked, fresh, rows_mark, rows_without}

module _ {K : Type 0} where
  -- the table after a row that landed was kept, and after it was retired
  pub ended_keep : (c e : ℕ) (b : List ℕ) (s : Row K) (r : Row K) (rows : List (ℕ × Row K)) (done : List ℕ) → value_at c rows ≡ Some r →
      ended (Keep e b) c (record { rows = with_value c s rows; done = done }) ≡ record { rows = with_value c (keeping (record { error = e; bytes = b }) s) rows; done = done ++ c ∷ [] }
  ended_keep c e b s r rows done h =
      let out = value_at_with c r s rows h in
      rw (out, with_value_twice) refl

  pub ended_retire : (c : ℕ) (s : Row K) (rows : List (ℕ × Row K)) (done : List ℕ) → is_done c done ≡ false →
      ended Retire c (record { rows = with_value c s rows; done = done }) ≡ record { rows = without c rows; done = done }
  ended_retire c s rows done h = rw (without_with, forgetting_none c done h) refl

  -- the numbers where a flight is gone
  record Gone (m : Commands K) (f : Flight K) (rows : List (ℕ × Row K)) (log : Log) : Type 0 where
    live : log.live ≡ live_numbers rows
    numbered : IsRising (live_numbers rows)
    below : IsBelow (live_numbers rows) (log.admitted + 1)
    counted : m.freed + flight_count f + length (live_numbers rows) ≡ log.admitted

  gone : (m : Commands K) (f : Flight K) (before after : List (ℕ × Bool)) (rows : List (ℕ × Row K)) (log : Log) → IsSound m →
      live_numbers m.rows ≡ before ++ (flight_numbers f ++ after) → live_numbers rows ≡ before ++ after → log.live ≡ before ++ after → log.admitted ≡ m.log.admitted → Gone m f rows log
  gone m f before after rows log s here lives live admitted =
      let risen : IsRising (before ++ (flight_numbers f ++ after)) = subst IsRising here s.numbered in
      let low : IsBelow (before ++ (flight_numbers f ++ after)) (m.log.admitted + 1) = subst (λ l. IsBelow l (m.log.admitted + 1)) here s.below in
      record {
        live = live ∙ sym lives;
        numbered = rw lives (rising_part before (flight_numbers f) after risen);
        below = rw (lives, admitted) (below_part before (flight_numbers f) after (m.log.admitted + 1) low);
        counted =
            let a = ap length here in
            let b = ap length lives in
            let c = length-append before (flight_numbers f ++ after) in
            let d = length-append (flight_numbers f) after in
            let e = length-append before after in
            let g = length_flight f in
            let k = s.counted in
            omega arith;
      }
    where
      above_part : (n : ℕ) (before middle after : List (ℕ × Bool)) → IsAbove n (before ++ (middle ++ after)) → IsAbove n (before ++ after)
      above_part n [] [] after h = h
      above_part n [] (x ∷ middle) after h = above_part n [] middle after h.1
      above_part n (x ∷ before) middle after h = (h.0, above_part n before middle after h.1)

      rising_part : (before middle after : List (ℕ × Bool)) → IsRising (before ++ (middle ++ after)) → IsRising (before ++ after)
      rising_part [] [] after h = h
      rising_part [] (x ∷ middle) after h = rising_part [] middle after h.1
      rising_part (x ∷ before) middle after h = (above_part x.0 before middle after h.0, rising_part before middle after h.1)

      below_part : (before middle after : List (ℕ × Bool)) (n : ℕ) → IsBelow (before ++ (middle ++ after)) n → IsBelow (before ++ after) n
      below_part [] [] after n h = h
      below_part [] (x ∷ middle) after n h = below_part [] middle after n h.1
      below_part (x ∷ before) middle after n h = (h.0, below_part before middle after n h.1)

  -- the callbacks of a row in flight are live on the desk
  pub live_row : (m : Commands K) (c : ℕ) (r : Row K) (f : Flight K) (log : Log) → IsSound m → value_at c m.rows ≡ Some r → r.flight ≡ Some f → log.live ≡ m.log.live → IsLiveFlight f log
  live_row m c r f log s h k same =
      let a = around c r f m.rows h k in
      let here : log.live ≡ a.before ++ (flight_numbers f ++ a.after) = same ∙ (s.live ∙ a.here) in
      let up : IsRising log.live = rw (same ∙ s.live) s.numbered in
      (ends f a.before a.after log here up).live (fresh c r f m.done m.rows s.rows h k)

  -- the count of freed callbacks stays below that of those admitted
  pub freed_fits : (m : Commands K) (c : ℕ) (r : Row K) (f : Flight K) → IsSound m → value_at c m.rows ≡ Some r → r.flight ≡ Some f → m.freed + flight_count f ≤ m.log.admitted
  freed_fits m c r f s h k =
      let a = around c r f m.rows h k in
      let x = ap length a.here in
      let y = length-append a.before (flight_numbers f ++ a.after) in
      let z = length-append (flight_numbers f) a.after in
      let w = length_flight f in
      let n = s.counted in
      omega arith

  -- A command ends: its row landed as s, and was kept or retired; its callbacks were called and freed.
  pub sound_ended : (m : Commands K) (c e : ℕ) (v : Verdict) (r s : Row K) (f : Flight K) (log : Log) (room : ℕ) → IsSound m → value_at c m.rows ≡ Some r → r.flight ≡ Some f →
      s.flight ≡ None → is_some s.kept ≡ true → s.facts.faults ≤ 1024 → log.live ≡ m.log.live → log.admitted ≡ m.log.admitted →
      IsSound (record { issued = m.issued; rows = (ended v c (record { rows = with_value c s m.rows; done = m.done })).rows; done = (ended v c (record { rows = with_value c s m.rows; done = m.done })).done; log = completing f e v log; freed = m.freed + flight_count f; room = room })
  sound_ended m c e (Keep e' b) r s f log room sound h k empty kept few same admitted =
      let a = around c r f m.rows h k in
      let last = keeping (record { error = e'; bytes = b }) s in
      let up : IsRising log.live = rw (same ∙ sound.live) sound.numbered in
      let en = ends f a.before a.after log (same ∙ (sound.live ∙ a.here)) up in
      let all : (completing f e (Keep e' b) log).admitted ≡ m.log.admitted = first_freed_admitted f.first log ∙ admitted in
      let l = gone m f a.before a.after (with_value c last m.rows) (completing f e (Keep e' b) log) sound a.here (a.cleared last empty) (en.completed e (Keep e' b)) all in
      subst (λ (t : Table (Row K)). IsSound (record { issued = m.issued; rows = t.rows; done = t.done; log = completing f e (Keep e' b) log; freed = m.freed + flight_count f; room = room })) (sym (ended_keep c e' b s r m.rows m.done h)) (record {
        live = l.live;
        numbered = l.numbered;
        below = l.below;
        cookies = IsRising_with c last m.rows sound.cookies;
        positive = IsAbove_with 0 c last m.rows sound.positive;
        issued = IsBelow_with (m.issued + 1) c last m.rows sound.issued;
        rows = rows_mark c last m.done m.rows sound.cookies sound.rows (record { flies = ap is_none (sym empty); fresh = rw empty tt; kept = ap is_none (sym empty); few = few });
        counted = l.counted;
      })
  sound_ended m c e Retire r s f log room sound h k empty kept few same admitted =
      let a = around c r f m.rows h k in
      let up : IsRising log.live = rw (same ∙ sound.live) sound.numbered in
      let en = ends f a.before a.after log (same ∙ (sound.live ∙ a.here)) up in
      let all : (completing f e Retire log).admitted ≡ m.log.admitted = first_freed_admitted f.first log ∙ admitted in
      let l = gone m f a.before a.after (without c m.rows) (completing f e Retire log) sound a.here a.gone (en.completed e Retire) all in
      subst (λ (t : Table (Row K)). IsSound (record { issued = m.issued; rows = t.rows; done = t.done; log = completing f e Retire log; freed = m.freed + flight_count f; room = room })) (sym (ended_retire c s m.rows m.done (unmarked c r f m.done m.rows sound.rows h k))) (record {
        live = l.live;
        numbered = l.numbered;
        below = l.below;
        cookies = IsRising_without c m.rows sound.cookies;
        positive = IsAbove_without 0 c m.rows sound.positive;
        issued = IsBelow_without (m.issued + 1) c m.rows sound.issued;
        rows = rows_without c m.done m.rows sound.rows;
        counted = l.counted;
      })
