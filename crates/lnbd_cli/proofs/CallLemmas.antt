-- How a play ends.
use Rattle.std.proofs.Common.{◌≡◌, ◌⊎◌, inl, inr, ℕ, List, Option, Some, Ok, Err, sym, subst}
use Rattle.lnbd_link.specs.Call.{Call}
use Rattle.lnbd_lines.specs.declared.line.Line.{Line}
use Rattle.lnbd_script.specs.declared.event.Event.{Event}
use Rattle.lnbd_script.specs.Plays.{Finished, HasPlayed, How, first_fault}
use Rattle.lnbd_cli.specs.Calls.{PlayEnds}
use Rattle.lnbd_cli.specs.Inputs.{ReadsScript}
use Rattle.lnbd_cli.specs.declared.input.Unread.{Unread}
use Rattle.lnbd_cli.specs.declared.input.Unread.TheVariants as unread
use Rattle.lnbd_cli.specs.declared.ending.Fault.{Fault}
use Rattle.lnbd_cli.specs.declared.ending.Fault.TheVariants as fault

-- what is so of the first event, and so something else is
pub as_first : (lines : List Line) (told told' : Option (List Call)) (taken taken' : Option (List ℕ)) (how : How) (P Q : Option Event → Type 0)
    → ((first : Option Event) → P first → Q first) → HasPlayed lines told told' taken taken' how P → HasPlayed lines told told' taken taken' how Q
as_first lines told told' taken taken' how P Q f p =
    record { calls = p.calls; text = p.text; end = p.end; grown = p.grown; taken = p.taken; plays = p.plays; first = f p.end.first p.first; closed = p.closed }

-- a script that was played without an event, but a count of the wires rose
pub counted_ends : (why : Fault) (lines : List Line) (told told' : Option (List Call)) (taken taken' : Option (List ℕ)) → (why ≡ fault.Link) ⊎ (why ≡ fault.Silent)
    → HasPlayed lines told told' taken taken' Finished (λ first. Ok tt ≡ first_fault first) → PlayEnds (Err why) lines told told' taken taken'
counted_ends why lines told told' taken taken' (inl is) played =
    subst (λ (w : Fault). PlayEnds (Err w) lines told told' taken taken') (sym is) (as_first lines told told' taken taken' Finished _ _ (λ first none. inr none) played)
counted_ends why lines told told' taken taken' (inr is) played = subst (λ (w : Fault). PlayEnds (Err w) lines told told' taken taken') (sym is) (inr played)

-- why no script was read: a line
pub line_of : (u : Unread) (number : ℕ) (left left' : Option (List ℕ)) → u ≡ unread.Line number → ((all : List ℕ) → left ≡ Some all → ReadsScript (Err u) all left') → (all : List ℕ)
    → left ≡ Some all → ReadsScript (Err (unread.Line number)) all left'
line_of u number left left' is reads all held = subst (λ (w : Unread). ReadsScript (Err w) all left') is (reads all held)
