-- What holds of wires that peers ask for, between the wires beneath and their marks.
use Rattle.std.specs.Prelude.{◌≡◌, ◌≤◌, ◌<◌, ◌-◌, ◌^◌, ℕ, nat_lt, Bool, true, false, List, [], All, length, slice_index_or}
use Rattle.lnbd_link.specs.Connects.{connects}
use Rattle.lnbd_link.specs.Left.{LinkLeft}
use Rattle.lnbd_link.specs.declared.left.ReadAnswer.{ReadAnswer}
use Rattle.lnbd_link.specs.Listed.{Listed, no_link}
use Rattle.lnbd_link.specs.Numbers.{is_given, is_open}
use Rattle.lnbd_link.specs.Room.{target_len}
use Rattle.lnbd_inbound.specs.Inbound.{let_in}
use Rattle.lnbd_inbound.specs.Retold.{retold}
use Rattle.lnbd_inbound.specs.declared.marks.Mark.{Mark}
use Rattle.lnbd_inbound.specs.declared.inbound.InboundWires.TheInside.{Inside}

-- while the calls are told: each has its mark, and number `next` is the next one
pub record Standing (w : Listed) (marks : List Mark) (left next : ℕ) (hears : Bool) : Type 0 where
  pub paired : length marks ≡ length w.calls
  pub fits : w.room ≤ left
  pub made : connects w.calls ≡ next
  pub heard : is_given 0 w.calls ≡ nat_lt 0 next
  pub count : let_in (retold marks w.calls) ≡ next - 1
  pub open_is : is_open 0 w.calls ≡ hears
  pub opened : hears ≡ true → 0 < next

-- no connect beneath fails while there is a link
abbrev pub Willing : LinkLeft → Type 0
Willing link = link.fails ≡ false

-- what number 0 has to read
abbrev pub listened : List LinkLeft → List ReadAnswer
listened links = (slice_index_or links 0 no_link).reads

-- so many links, the listener with them, of which none fails, and the listener has nothing to read
pub record Ready (links : List LinkLeft) (many : ℕ) : Type 0 where
  pub willing : All Willing links
  pub silent : listened links ≡ []
  pub count : many ≡ length links

-- the wires beneath and the marks, with how many more marks fit
pub record Kept (w : Listed) (marks : List Mark × ℕ) (next : ℕ) (hears : Bool) (many : ℕ) : Type 0 where
  pub covered : length w.calls ≤ length marks.0
  pub ready : Ready w.links many
  pub standing : w.telling ≡ true → Standing w marks.0 marks.1 next hears

pub record IsInbound (a : Inside) : Type 0 where
  pub kept : Kept a.beneath a.marks a.next a.hearing a.links
  pub nameless : target_len a.nowhere ≡ 0
  pub within : (0 < a.links) × (a.next ≤ a.links) × (a.links < 2 ^ 32)
