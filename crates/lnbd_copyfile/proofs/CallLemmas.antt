-- Which calls were made, move by move.
use Rattle.std.proofs.Common.{◌≡◌, ◌<◌, ℕ, Bool, List, [], ◌∷◌, ◌++◌, refl, ap, sym, ◌∙◌, append_assoc, arith}
use Rattle.lnbd_plan.specs.declared.options.CopyOptions.{CopyOptions}
use Rattle.lnbd_store.specs.Call.{Call, ReadAt, WriteAt, Ended, ReadFault, WriteFault}
use Rattle.lnbd_copyfile.specs.declared.fault.Stop.{Stop}
use Rattle.lnbd_copyfile.specs.declared.fault.Stop.TheVariants as stop
use Rattle.lnbd_copyfile.specs.Calls.{Moves, IsMove, rest_of, Breaks, Lacks_memory, Read_fails, Read_ends, Write_fails, HasMoved, NotMoved, Broke, Not_synced, closing}
use Rattle.lnbd_copyfile.specs.Calls.{HasDone, HasFilled, making, opening, NotFilled, Lacks_room, Unmade, Unmoved, NotDone, No_source, Not_filled, NotClosed}

module _ (cell size from to : ℕ) where
  pub moves_on : (calls more : List Call) → Moves cell size from to calls → Moves cell size from to more → Moves cell size from to (calls ++ more)
  moves_on [] more f g = g
  moves_on (call ∷ calls) more f g = (f.0, moves_on calls more f.1 g)

  pub moves_last : (call : Call) (calls : List Call) → IsMove cell size from to call → Moves cell size from to calls → Moves cell size from to (calls ++ call ∷ [])
  moves_last call calls is f = moves_on calls (call ∷ []) f (is, tt)

  -- it broke behind earlier moves
  pub breaks_behind : (why : Stop) (calls more : List Call) → Moves cell size from to calls → Breaks cell size from to why more → Breaks cell size from to why (calls ++ more)
  breaks_behind why calls more f (Lacks_memory g e) = Lacks_memory (moves_on calls more f g) e
  breaks_behind why calls more f (Read_fails own offset g are e) =
      Read_fails (calls ++ own) offset (moves_on calls own f g)
      (ap (λ (xs : List Call). calls ++ xs) are ∙ sym (append_assoc calls own (ReadAt from offset (rest_of cell size offset) ReadFault ∷ []))) e
  breaks_behind why calls more f (Read_ends own end g few are e) =
      Read_ends (calls ++ own) end (moves_on calls own f g) few
      (ap (λ (xs : List Call). calls ++ xs) are ∙ sym (append_assoc calls own (ReadAt from end (rest_of cell size end) Ended ∷ []))) e
  breaks_behind why calls more f (Write_fails own offset offered g few are e) =
      Write_fails (calls ++ own) offset offered (moves_on calls own f g) few (ap (λ (xs : List Call). calls ++ xs) are ∙ sym (append_assoc calls own (WriteAt to offset offered WriteFault ∷ []))) e

  pub moved_then : (flush : Bool) (calls more : List Call) → Moves cell size from to calls → more ≡ closing to flush → HasMoved cell size from to flush (calls ++ more)
  moved_then flush calls more f e = record { own = calls; moves = f; calls_are = ap (λ (xs : List Call). calls ++ xs) e }

  pub unsynced_then : (flush : Bool) (calls more : List Call) → Moves cell size from to calls → NotClosed to flush more → NotMoved cell size from to flush stop.Failed (calls ++ more)
  unsynced_then flush calls more f g = Not_synced calls g.flush_ f (ap (λ (xs : List Call). calls ++ xs) g.calls_are) refl

  -- The destination was made before.

  pub filled_then : (path : List ℕ) (flush : Bool) (calls more : List Call) → calls ≡ making path to size → HasMoved cell size from to flush more → HasFilled cell size from path flush (calls ++ more)
  filled_then path flush calls more e m = record { to = to; own = more; moved = m; calls_are = ap (λ (xs : List Call). xs ++ more) e }

  pub unfilled_then : (path : List ℕ) (flush : Bool) (why : Stop) (calls more : List Call) → calls ≡ making path to size → NotMoved cell size from to flush why more
      → NotFilled cell size from path flush why (calls ++ more)
  unfilled_then path flush why calls more e m = Unmoved to more m (ap (λ (xs : List Call). xs ++ more) e)

-- The source was opened before that.

pub done_then : (from to : List ℕ) (file size : ℕ) (options : CopyOptions) (calls more : List Call)
    → calls ≡ opening from file size → HasFilled options.request_size size file to options.flush more → HasDone from to size options (calls ++ more)
done_then from to file size options calls more e m = record { file = file; own = more; filled = m; calls_are = ap (λ (xs : List Call). xs ++ more) e }

pub undone_then : (from to : List ℕ) (file size : ℕ) (options : CopyOptions) (why : Stop) (calls more : List Call)
    → calls ≡ opening from file size → NotFilled options.request_size size file to options.flush why more → NotDone from to options why (calls ++ more)
undone_then from to file size options why calls more e m = Not_filled file size more m (ap (λ (xs : List Call). xs ++ more) e)

-- a source that changed ended early
early_break : (cell size from to n end : ℕ) (why : Stop) (calls : List Call) → why ≡ stop.Changed n end → Breaks cell size from to why calls → end < n
early_break cell size from to n end why calls is (Lacks_memory f e) = absurd (cc (is, e))
early_break cell size from to n end why calls is (Read_fails own offset f are e) = absurd (cc (is, e))
early_break cell size from to n end why calls is (Read_ends own at f few are e) =
    let k : stop.Changed n end ≡ stop.Changed size at = sym is ∙ e in
    let one : n ≡ size = cc k in
    let two : end ≡ at = cc k in
    omega (arith, one, two, few)
early_break cell size from to n end why calls is (Write_fails own offset offered f few are e) = absurd (cc (is, e))

early_move : (cell size from to n end : ℕ) (flush : Bool) (why : Stop) (calls : List Call) → why ≡ stop.Changed n end → NotMoved cell size from to flush why calls → end < n
early_move cell size from to n end flush why calls is (Broke b) = early_break cell size from to n end why calls is b
early_move cell size from to n end flush why calls is (Not_synced own on f are e) = absurd (cc (is, e))

early_fill : (cell size from n end : ℕ) (path : List ℕ) (flush : Bool) (why : Stop) (calls : List Call) → why ≡ stop.Changed n end → NotFilled cell size from path flush why calls → end < n
early_fill cell size from n end path flush why calls is (Lacks_room are e) = absurd (cc (is, e))
early_fill cell size from n end path flush why calls is (Unmade made e) = absurd (cc (is, e))
early_fill cell size from n end path flush why calls is (Unmoved to own m are) = early_move cell size from to n end flush why own is m

pub early : (from to : List ℕ) (n end : ℕ) (options : CopyOptions) (why : Stop) (calls : List Call) → why ≡ stop.Changed n end → NotDone from to options why calls → end < n
early from to n end options why calls is (No_source f e) = absurd (cc (is, e))
early from to n end options why calls is (Not_filled file size own f are) = early_fill options.request_size size file n end to options.flush why own is f
