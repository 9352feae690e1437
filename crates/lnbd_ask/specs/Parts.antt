-- What is done on the one handle that is held and on its link, part after part.
use Rattle.std.specs.Prelude.{◌≡◌, ℕ, List, [], ◌++◌, Result, Ok, Err}
use Rattle.lnbd_link.specs.Call as wire
use Rattle.lnbd_poll.specs.Held.{Held}
use Rattle.lnbd_poll.specs.Seen.{Seen}
use Rattle.lnbd_poll.specs.Turns.{Blames}
use Rattle.lnbd_waits.specs.declared.waiting.Halt.{Halt}
use Rattle.lnbd_waits.specs.declared.waiting.Halt.TheVariants as halt
use Rattle.lnbd_waits.specs.Waits.{Holds}

-- It leads by these calls from where the handle stood, and from one world, to where it then stands, and to another. It gives a value or breaks off.
abbrev pub Part : Type 0 → Type 0 → Type 0 → Type 1
Part K World A = Seen K → World → List wire.Call → Seen K → World → Result A Halt → Type 0

-- of an act that gives no value
abbrev pub no_value : {K : Type 0} → Seen K → Unit {0}
no_value seen = tt

module _ {K A : Type 0} where
  -- The act is done and its value given; or memory runs out, and nothing has happened.
  abbrev pub Acted : (Seen K → Seen K) → (Seen K → A) → Result A Halt → Seen K → Seen K → Type 0
  Acted act value (Ok given) before after = (after ≡ act before) × (given ≡ value before)
  Acted act value (Err why) before after = (after ≡ before) × (why ≡ halt.NoMemory)

  -- the same of the one handle that is held
  abbrev pub ActsOn : (Seen K → Seen K) → (Seen K → A) → Result A Halt → List (Held K) → List (Held K) → Type 0
  ActsOn act value end old new = (before : Seen K) → Holds old before → (after : Seen K) × Acted act value end before after × Holds new after

-- An act on the handle alone.
pub record Acts {K World A : Type 0} (act : Seen K → Seen K) (value : Seen K → A) (before : Seen K) (world : World) (calls : List wire.Call) (after : Seen K) (world' : World) (end : Result A Halt) : Type 0 where
  pub acted : Acted act value end before after
  pub none : calls ≡ []
  pub same : world' ≡ world

-- Nothing is done, and this value given.
pub record Gives {K World A : Type 0} (value : A) (before : Seen K) (world : World) (calls : List wire.Call) (after : Seen K) (world' : World) (end : Result A Halt) : Type 0 where
  pub stays : after ≡ before
  pub none : calls ≡ []
  pub same : world' ≡ world
  pub is : end ≡ Ok value

-- One part, and then the one that its value asks for. Where the first breaks off, the second never begins.
pub data Then {K World A B : Type 0} (First : Part K World A) (Second : A → Part K World B) : Seen K → World → List wire.Call → Seen K → World → Result B Halt → Type 0 where
  Stops : (before : Seen K) (world : World) (calls : List wire.Call) (after : Seen K) (world' : World) (end : Result B Halt)
      → (why : Halt)
      → First before world calls after world' (Err why) → end ≡ Err why
      → Then First Second before world calls after world' end
  Follows : (before : Seen K) (world : World) (calls : List wire.Call) (after : Seen K) (world' : World) (end : Result B Halt)
      → (value : A) (own : List wire.Call) (middle : Seen K) (half : World) (other : List wire.Call)
      → First before world own middle half (Ok value) → Second value middle half other after world' end → calls ≡ own ++ other
      → Then First Second before world calls after world' end

-- So it was done, and a call that failed raised the count of faults.
pub record Done {K World A : Type 0} (part : Part K World A) (faults faults' : ℕ) (end : Result A Halt) (before : Seen K) (world : World) (calls : List wire.Call) (after : Seen K) (world' : World) : Type 0 where
  pub does : part before world calls after world' end
  pub blames : Blames calls faults faults'
