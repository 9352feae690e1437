-- The close of a handle's commands, row by row.
use Rattle.std.proofs.Common.{◌≡◌, ℕ, ◌+◌, List, [], ◌∷◌, ◌++◌, Bool, refl, ap, sym, subst, arith, Some, None, Option, length, ◌∙◌, append_assoc, append-nil, length-append, map}
use Rattle.lnbd_keyed.specs.Keyed.{keys, without, IsRising}
use Rattle.lnbd_keyed.proofs.KeyedLemmas.{IsRising_without, IsRising_right, value_at_head, value_at_right, without_head, without_right}
use Rattle.lnbd_callbacks.specs.Calls.{Call}
use Rattle.lnbd_callbacks.specs.Desk.{Log}
use Rattle.lnbd_callbacks.specs.Slot.{Slot}
use Rattle.lnbd_history.specs.Commands.{Flight}
use Rattle.lnbd_history.specs.Entries.{Act, Dropped, first_acts, free_acts, filing_acts, call_of, note_of, frees}
use Rattle.lnbd_history.specs.Events.{Answer}
use Rattle.lnbd_machine.specs.Machine.{Row, State, Doing, error_of_row, hearing, result_bytes, file_all, file_in, file_row, file_flight}
use Rattle.lnbd_commands.specs.Closes.{row_count, row_free_calls, row_freed}
use Rattle.lnbd_commands.specs.Commands.{Commands, with_commands}
use Rattle.lnbd_commands.specs.Flights.{flight_numbers}
use Rattle.lnbd_commands.specs.Lands.{IsLiveRow}
use Rattle.lnbd_commands.specs.Sound.{IsSound, IsFresh, AreRows, live_numbers, row_numbers}
use Rattle.lnbd_commands.specs.Takes.{Takes}
use Rattle.lnbd_commands.proofs.IssueLemmas.{freeing_notes, frees_flight}
use Rattle.lnbd_commands.proofs.NumberLemmas.{ends, first_freed_admitted, length_flight}

module _ {K : Type 0} where
  -- no completion was called
  abbrev pub AreFresh : List (ℕ × Row K) → Type 0
  AreFresh [] = Unit {0}
  AreFresh (x ∷ xs) = IsFresh x.1.flight × AreFresh xs

  pub all_fresh : (done : List ℕ) (rows : List (ℕ × Row K)) → AreRows done rows → AreFresh rows
  all_fresh done [] a = tt
  all_fresh done (x ∷ xs) a = (a.0.fresh, all_fresh done xs a.1)

  -- the first row that is left
  pub record First (flight : Option (Flight K)) (xs : List (ℕ × Row K)) (log : Log) : Type 0 where
    pub live : IsLiveRow flight log
    pub freed : (row_freed flight log).live ≡ live_numbers xs
    pub numbered : IsRising (live_numbers xs)
    pub count : row_count flight + length (live_numbers xs) ≡ length (row_numbers flight ++ live_numbers xs)
    pub admitted : (row_freed flight log).admitted ≡ log.admitted

  pub first_row : (flight : Option (Flight K)) (xs : List (ℕ × Row K)) (log : Log) → log.live ≡ row_numbers flight ++ live_numbers xs → IsRising (row_numbers flight ++ live_numbers xs) → IsFresh flight → First flight xs log
  first_row None xs log l r f = record { live = tt; freed = l; numbered = r; count = omega arith; admitted = refl }
  first_row (Some g) xs log l r f =
      let up : IsRising log.live = subst (λ (t : List (ℕ × Bool)). IsRising t) (sym l) r in
      let en = ends g [] (live_numbers xs) log l up in
      record {
        live = en.live f;
        freed = en.closed;
        numbered = IsRising_right (flight_numbers g) (live_numbers xs) r;
        count = let n = length-append (flight_numbers g) (live_numbers xs) in let k = length_flight g in omega arith;
        admitted = first_freed_admitted g.first log;
      }

  -- the rows that stay in the machine's table
  abbrev pub staying : Option (Flight K) → ℕ × Row K → List (ℕ × Row K)
  staying None x = x ∷ []
  staying (Some flight) x = []

  -- the commands under way: the rows that stayed and those that are left, the log and the count
  abbrev pub halfway : Commands K → List (ℕ × Row K) → List (ℕ × Row K) → Log → ℕ → Commands K
  halfway m front rest log freed = record m { rows = front ++ rest; log = log; freed = freed }

  -- where a handle is closed, a command only has its callbacks freed
  dropped_acts : (f : Flight K) (error : ℕ) (bytes : List ℕ) → filing_acts f None Dropped None None error bytes ≡ free_acts f
  dropped_acts f error bytes = ap (λ (l : List (Act K)). l ++ free_acts f) (none f.first)
    where
      none : (first : Option (Slot K)) → first_acts first None None ≡ []
      none None = refl
      none (Some slot) = refl

  file_dropped : (f : Flight K) (row : Row K) (c : ℕ) (doing : Doing K) → file_flight (Some f) row c Dropped doing
      ≡ record {
        state = record doing.state { rows = without c doing.state.rows; notes = doing.state.notes ++ map note_of (free_acts f); freed = doing.state.freed + frees (map note_of (free_acts f)) };
        answers = doing.answers;
        calls = doing.calls ++ map call_of (free_acts f);
      }
  file_dropped f row c doing =
      ap (λ (acts : List (Act K)). record {
        state = record doing.state { rows = without c doing.state.rows; notes = doing.state.notes ++ map note_of acts; freed = doing.state.freed + frees (map note_of acts) };
        answers = doing.answers;
        calls = doing.calls ++ map call_of acts;
      }) (dropped_acts f (error_of_row (hearing row doing.state.talk.contexts Dropped None)) (result_bytes (hearing row doing.state.talk.contexts Dropped None)))

  -- what the machine does at the first row that is left
  pub file_first : (m : Commands K) (front xs : List (ℕ × Row K)) (x : ℕ × Row K) (log : Log) (freed : ℕ) (flight : Option (Flight K)) (state : State K) (more : List Answer) (made : List (Call K)) →
      IsRising (front ++ x ∷ xs) → x.1.flight ≡ flight →
      file_in x.0 Dropped (record { state = with_commands (halfway m front (x ∷ xs) log freed) state; answers = more; calls = made })
      ≡ record { state = with_commands (halfway m (front ++ staying flight x) xs (row_freed flight log) (freed + row_count flight)) state; answers = more; calls = made ++ row_free_calls flight }
  file_first m front xs x log freed None state more made up is =
      let doing : Doing K = record { state = with_commands (halfway m front (x ∷ xs) log freed) state; answers = more; calls = made } in
      ap (λ (o : Option (Row K)). file_row o x.0 Dropped doing) (value_at_right x.0 x.1 front (x ∷ xs) up (value_at_head x.0 x.1 xs))
      ∙ (ap (λ (o : Option (Flight K)). file_flight o x.1 x.0 Dropped doing) is
      ∙ rw (append_assoc front (x ∷ []) xs, append-nil made) (let n : freed + 0 ≡ freed = omega arith in rw n refl))
  file_first m front xs x log freed (Some f) state more made up is =
      let doing : Doing K = record { state = with_commands (halfway m front (x ∷ xs) log freed) state; answers = more; calls = made } in
      ap (λ (o : Option (Row K)). file_row o x.0 Dropped doing) (value_at_right x.0 x.1 front (x ∷ xs) up (value_at_head x.0 x.1 xs))
      ∙ (ap (λ (o : Option (Flight K)). file_flight o x.1 x.0 Dropped doing) is
      ∙ (file_dropped f x.1 x.0 doing
      ∙ rw (without_right x.0 x.1 front (x ∷ xs) up (value_at_head x.0 x.1 xs), without_head x.0 x.1 xs, append-nil front, freeing_notes f log, first_freed_admitted f.first log, frees_flight f) refl))

  -- Where a close stands: the machine has the rows that stayed and those that are left.
  pub record Closing {W : Type 0} (steps : W → List (Call K) → W → Type 0) (m : Commands K) (before : W) (rest : List (ℕ × Row K)) (log : Log) (freed : ℕ) (world : W) : Type 0 where
    pub front : List (ℕ × Row K)
    pub calls : List (Call K)
    pub called : steps before calls world
    pub does : (state : State K) (more : List Answer) (made : List (Call K)) →
        file_all Dropped (keys m.rows) (record { state = with_commands m state; answers = more; calls = made })
        ≡ file_all Dropped (keys rest) (record { state = with_commands (halfway m front rest log freed) state; answers = more; calls = made ++ calls })
    pub rising : IsRising (front ++ rest)
    pub live : log.live ≡ live_numbers rest
    pub numbered : IsRising (live_numbers rest)
    pub fresh : AreFresh rest
    pub counted : freed + length (live_numbers rest) ≡ log.admitted
    pub admitted : log.admitted ≡ m.log.admitted

  pub close_begins : {W : Type 0} (steps : W → List (Call K) → W → Type 0) (m : Commands K) (before : W) → steps before [] before → IsSound m → Closing steps m before m.rows m.log m.freed before
  close_begins steps m before none s = record {
    front = [];
    calls = [];
    called = none;
    does = λ state more made. rw (append-nil made) refl;
    rising = s.cookies;
    live = s.live;
    numbered = s.numbered;
    fresh = all_fresh m.done m.rows s.rows;
    counted = s.counted;
    admitted = refl;
  }

  pub first_left : {W : Type 0} (steps : W → List (Call K) → W → Type 0) (m : Commands K) (before : W) (x : ℕ × Row K) (xs : List (ℕ × Row K)) (log : Log) (freed : ℕ) (world : W) →
      Closing steps m before (x ∷ xs) log freed world → First x.1.flight xs log
  first_left steps m before x xs log freed world c = first_row x.1.flight xs log c.live c.numbered c.fresh.0

  rising_staying : (o : Option (Flight K)) (x : ℕ × Row K) (front xs : List (ℕ × Row K)) → IsRising (front ++ x ∷ xs) → IsRising ((front ++ staying o x) ++ xs)
  rising_staying None x front xs up = rw (append_assoc front (x ∷ []) xs) up
  rising_staying (Some f) x front xs up =
      rw (append-nil front) (subst (λ (l : List (ℕ × Row K)). IsRising l)
      (without_right x.0 x.1 front (x ∷ xs) up (value_at_head x.0 x.1 xs) ∙ ap (λ (l : List (ℕ × Row K)). front ++ l) (without_head x.0 x.1 xs))
      (IsRising_without x.0 (front ++ x ∷ xs) up))

  -- a close goes on
  pub close_step : {W : Type 0} (steps : W → List (Call K) → W → Type 0) (m : Commands K) (before : W) (x : ℕ × Row K) (xs : List (ℕ × Row K)) (log : Log) (freed : ℕ) (world after : W) →
      ((a b c : W) (p q : List (Call K)) → steps a p b → steps b q c → steps a (p ++ q) c) →
      Closing steps m before (x ∷ xs) log freed world → steps world (row_free_calls x.1.flight) after →
      Closing steps m before xs (row_freed x.1.flight log) (freed + row_count x.1.flight) after
  close_step steps m before x xs log freed world after append c called =
      let f = first_left steps m before x xs log freed world c in
      record {
        front = c.front ++ staying x.1.flight x;
        calls = c.calls ++ row_free_calls x.1.flight;
        called = append before world after c.calls (row_free_calls x.1.flight) c.called called;
        does = λ state more made.
            c.does state more made
            ∙ ap (λ (d : Doing K). file_all Dropped (keys xs) d)
            (file_first m c.front xs x log freed x.1.flight state more (made ++ c.calls) c.rising refl
            ∙ rw (append_assoc made c.calls (row_free_calls x.1.flight)) refl);
        rising = rising_staying x.1.flight x c.front xs c.rising;
        live = f.freed;
        numbered = f.numbered;
        fresh = c.fresh.1;
        counted = let n = f.count in let k = c.counted in let a = f.admitted in omega arith;
        admitted = f.admitted ∙ c.admitted;
      }

  -- and comes to its end
  pub closed : {W : Type 0} (steps : W → List (Call K) → W → Type 0) (m : Commands K) (before : W) (rest : List (ℕ × Row K)) (log : Log) (freed : ℕ) (world : W) →
      rest ≡ [] → (c : Closing steps m before rest log freed world) → Takes steps (file_all Dropped (keys m.rows)) m (halfway m c.front rest log freed) before world
  closed steps m before rest log freed world none c = record {
    answers = [];
    calls = c.calls;
    world = c.called;
    does = λ state more made.
        c.does state more made
        ∙ ap (λ (l : List (ℕ × Row K)). file_all Dropped (keys l) (record { state = with_commands (halfway m c.front rest log freed) state; answers = more; calls = made ++ c.calls })) none;
  }
