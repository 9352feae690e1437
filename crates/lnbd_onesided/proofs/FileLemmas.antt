-- What a copy leaves of which one side is a file.
use Rattle.std.proofs.Common.{◌≡◌, ℕ, ◌<◌, ◌≤◌, List, [], ◌∷◌, Bool, true, false, refl, ap, sym, subst, ◌∙◌, arith, length, take, replicate, get_or, inl, inr}
use Rattle.std.proofs.lemmas.Grind.{common_steps}
use Rattle.std.proofs.Math.ListN.{get_or-replicate}
use Rattle.lnbd_model.specs.declared.kind.Kind.TheVariants.{Read, Write, Zero, Flush}
use Rattle.lnbd_history.specs.Commands.{Command}
use Rattle.lnbd_asked.specs.Link.{Nobody}
use Rattle.lnbd_asked.specs.Transcript.{Dealt}
use Rattle.lnbd_asked.specs.Honest.{Honest}
use Rattle.lnbd_plan.specs.declared.cells.Cells.{Cells}
use Rattle.lnbd_plan.specs.declared.grid.Slice.{Slice}
use Rattle.lnbd_board.specs.declared.how.How.{How}
use Rattle.lnbd_board.specs.declared.ticket.Ticket.{Ticket}
use Rattle.lnbd_board.specs.declared.ticket.Ticket.TheVariants as ticket
use Rattle.lnbd_board.specs.Holds.{Holds, IsCopied, WasToldSize, WasToldZero}
use Rattle.lnbd_board.specs.Requests.{Request, Each, IsDealt}
use Rattle.lnbd_board.specs.Rows.{AsksOfDestination, IsChange}
use Rattle.lnbd_board.proofs.Copied.{copied_is_carried}
use Rattle.lnbd_board.proofs.Held.{carried_is_held}
use Rattle.lnbd_onesided.specs.Dealt.{dealt_by}
use Rattle.lnbd_onesided.specs.Honest.{IsNoRead}
use Rattle.lnbd_onesided.specs.Files.{ToFileHolds, FromFileHolds}
use Rattle.lnbd_onesided.proofs.DealtLemmas.{apart_are_dealt}
use Rattle.lnbd_onesided.proofs.HonestLemmas.{reads_are_honest, changes_are_honest}

-- what is copied is carried, and so held
copied_is_held : (how : How) (cells : Cells) (told : ℕ → Bool) (size room : ℕ) (slices : List Slice) (asked changed : List Request) (source destination : Dealt) →
    IsCopied how cells told size slices asked changed → IsDealt asked source → IsDealt changed destination → (from to end : List ℕ) → Honest from source from → Honest to destination end →
    WasToldSize source size → WasToldSize destination room → size ≤ room → ((p : ℕ) → p < size → told p ≡ true → WasToldZero source p) →
    (how.skip ≡ true → (p : ℕ) → p < size → get_or to p 0 ≡ 0) → Holds from to end
copied_is_held how cells told size room slices asked changed source destination copied dealt dealt2 from to end honest honest2 sized sized2 fits zeros bare =
    carried_is_held how.skip size room source destination (copied_is_carried how cells told size slices asked changed source destination copied dealt dealt2 zeros)
    from to end honest honest2 sized sized2 fits bare

write_read : Write ≡ Read → ⊥
write_read e = cc

zero_read : Zero ≡ Read → ⊥
zero_read e = cc

flush_read : Flush ≡ Read → ⊥
flush_read e = cc

change_no_read : (how : How) (command : Command Nobody) → IsChange how command → command.kind ≡ Read → ⊥
change_no_read how command (inl x) k = write_read (sym x.0 ∙ k)
change_no_read how command (inr x) k = zero_read (sym x.0 ∙ k)

no_read : (how : How) (slices : List Slice) (t : Ticket) (command : Command Nobody) → AsksOfDestination how slices t command → command.kind ≡ Read → ⊥
no_read how slices (ticket.Slice n) command a k = change_no_read how command a.0 k
no_read how slices ticket.Extents command a k = a
no_read how slices ticket.Flush command a k = flush_read (sym a.0 ∙ k)

none_read : (how : How) (slices : List Slice) (asked : List Request) → Each (λ r. AsksOfDestination how slices r.ticket r.said.command) asked → Each IsNoRead asked
none_read how slices [] h = tt
none_read how slices (r ∷ rs) h = (no_read how slices r.ticket r.said.command h.0, none_read how slices rs h.1)

told_this : (size : ℕ) (asked : List Request) → WasToldSize (dealt_by size asked) size
told_this size asked = record { link = 0; told = refl }

whole_is : (from end : List ℕ) → length end ≡ length from → take (length from) end ≡ from → end ≡ from
whole_is from end n e = sym (ap (λ k. take k end) (sym n) ∙ grind (arith, common_steps)) ∙ e

pub to_file_holds : ToFileHolds
to_file_holds how cells told size slices asked made source now copied dealt apart done from honest sized zeros =
    let n : length (replicate {A = ℕ} size 0) ≡ size = grind (arith, common_steps) in
    let is_size : size ≡ length from = honest.sizes.told sized.link size sized.told in
    let file : Honest (replicate size 0) (dealt_by (length (replicate {A = ℕ} size 0)) made) now = changes_are_honest (replicate size 0) now made apart
    (none_read how slices made copied.over.changes) done in
    let h : Holds from (replicate size 0) now = copied_is_held how cells told size size slices asked made source (dealt_by (length (replicate {A = ℕ} size 0)) made) copied dealt
    (apart_are_dealt (length (replicate {A = ℕ} size 0)) made apart)
    from (replicate size 0) now honest file sized (subst (λ (k : ℕ). WasToldSize (dealt_by (length (replicate {A = ℕ} size 0)) made) k) n (told_this (length
    (replicate {A = ℕ} size 0)) made)) (omega arith) zeros (λ k p l. get_or-replicate size p 0 0 l) in
    whole_is from now (file.sizes.kept ∙ n ∙ is_size) h.front

pub from_file_holds : FromFileHolds
from_file_holds how cells told size room slices read changed destination file copied dealt apart each n none to end honest sized fits bare =
    copied_is_held how cells told size room slices read changed (dealt_by (length file) read) destination copied (apart_are_dealt (length file) read apart) dealt
    file to end (reads_are_honest file read each) honest (subst (λ (k : ℕ). WasToldSize (dealt_by (length file) read) k) n (told_this (length file) read)) sized fits
    (λ p l t. absurd (no (sym t ∙ none p))) bare
  where
    no : true ≡ false → ⊥
    no e = cc
