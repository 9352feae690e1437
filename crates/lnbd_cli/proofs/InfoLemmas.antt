-- How a run of nbdinfo ends once its text is printed.
use Rattle.std.proofs.Common.{◌≡◌, ◌≢◌, inl, inr, ℕ, Bool, true, false, List, Option, Result, Ok, Err, sym, ◌∙◌, ap}
use Rattle.lnbd_link.specs.Call.{Call}
use Rattle.lnbd_cli.specs.Ends.{End, status_of}
use Rattle.lnbd_cli.specs.Heard.{Says}
use Rattle.lnbd_cli.specs.Informs.{Answered, Cut, EndsAs, InfoEnds, IsPrinted, is_info_status}
use Rattle.lnbd_cli.specs.declared.ending.Fault.TheVariants as fault
use Rattle.lnbd_cli.specs.declared.hearing.Question.{Question}

pub told_ends : (result : End) (q : Question) (text : List ℕ) (answer : Result Bool ℕ) (told told' : Option (List Call)) (taken taken' : Option (List ℕ)) (Uncalled Unprinted : Type 0)
    → Says q.what q.json q.place told told' text answer → IsPrinted result text answer taken taken' → InfoEnds q told told' taken taken' Uncalled Unprinted result
told_ends result q text answer told told' taken taken' Uncalled Unprinted says (inl all) = Answered answer all.0 (record { text = text; says = says; takes = all.1 })
told_ends result q text answer told told' taken taken' Uncalled Unprinted says (inr front) = Cut front.0 (record { text = text; end = answer; says = says; takes = front.1 })

known_answer : (answer : Result Bool ℕ) (end : End) → EndsAs answer end → is_info_status (status_of end) ≡ true
known_answer (Ok true) end is = ap (λ (e : End). is_info_status (status_of e)) is
known_answer (Ok false) end is = ap (λ (e : End). is_info_status (status_of e)) is
known_answer (Err code) end is = ap (λ (e : End). is_info_status (status_of e)) is

pub told_known : (result : End) (text : List ℕ) (answer : Result Bool ℕ) (taken taken' : Option (List ℕ)) → IsPrinted result text answer taken taken' → is_info_status (status_of result) ≡ true
told_known result text answer taken taken' (inl all) = known_answer answer result all.0
told_known result text answer taken taken' (inr front) = ap (λ (e : End). is_info_status (status_of e)) front.0

other_answer : (answer : Result Bool ℕ) (end : End) → EndsAs answer end → (end ≢ Err fault.Link) × (end ≢ Err fault.Silent)
other_answer (Ok holds) end is = (λ e. cc (sym is ∙ e), λ e. cc (sym is ∙ e))
other_answer (Err code) end is = (λ e. cc (sym is ∙ e), λ e. cc (sym is ∙ e))

pub told_of_wires : (result : End) (text : List ℕ) (answer : Result Bool ℕ) (taken taken' : Option (List ℕ)) → IsPrinted result text answer taken taken'
    → (result ≢ Err fault.Link) × (result ≢ Err fault.Silent)
told_of_wires result text answer taken taken' (inl all) = other_answer answer result all.0
told_of_wires result text answer taken taken' (inr front) = (λ e. cc (sym front.0 ∙ e), λ e. cc (sym front.0 ∙ e))
