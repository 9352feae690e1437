-- What holds of a handle's entries and of the board is kept by an event, if each thing that it files keeps it along with its calls.
use Rattle.std.proofs.Common.{◌≡◌, ℕ, false, List, [], ◌∷◌, ◌++◌, map, Some, refl, ap, sym, subst, ◌∙◌}
use Rattle.std.proofs.lemmas.List.{append-nil, append_assoc, append_cancel_left}
use Rattle.lnbd_model.specs.declared.export.Context.{Context as MetaContext}
use Rattle.lnbd_callbacks.specs.Calls.{Call}
use Rattle.lnbd_callbacks.specs.Steps.{OneByOne}
use Rattle.lnbd_history.specs.Commands.{Flight, Request}
use Rattle.lnbd_history.specs.Entries.{Item, Entry, Filed, Freed, Cleared, own, is_ended, call_of, acts_of, free_acts, calls}
use Rattle.lnbd_history.specs.Events.{Answer, Event, History}
use Rattle.lnbd_history.specs.History.{request, filing_of, reading}
use Rattle.lnbd_board.specs.declared.ticket.Ticket.{Ticket}
use Rattle.lnbd_board.specs.Files.{Seen, Files}
use Rattle.lnbd_tracks.specs.Tracks.{Adds}
use Rattle.lnbd_tracks.proofs.Coming.{event_keeps}

-- calls, and then others
record Parted (first second : List (Call Ticket)) (before after : Seen) : Type 0 where
  between : Seen
  one : OneByOne Files before first between
  other : OneByOne Files between second after

parted : (first second : List (Call Ticket)) (before after : Seen) → OneByOne Files before (first ++ second) after → Parted first second before after
parted [] second before after f = record { between = before; one = refl; other = f }
parted (call ∷ first) second before after f =
    let rest = parted first second f.0 after f.1.1 in
    record { between = rest.between; one = (f.0, (f.1.0, rest.one)); other = rest.other }

module _ (history : History Ticket) (R : List (Entry Ticket) → Seen → Type 0)
    (filed : (asks : Request Ticket) (c : ℕ) (item : Item) (contexts : List MetaContext) (answers : List Answer) (entries : List (Entry Ticket)) (before after : Seen) → request history c ≡ Some asks → is_ended (own c entries) ≡ false → R entries before →
    OneByOne Files before (map call_of (acts_of (filing_of asks c (own c entries) contexts item answers) (own c entries))) after → R (Filed (filing_of asks c (own c entries) contexts item answers) ∷ entries) after)
    (freed : (flight : Flight Ticket) (entries : List (Entry Ticket)) (before after : Seen) → R entries before → OneByOne Files before (map call_of (free_acts flight)) after → R (Freed flight ∷ entries) after)
    (cleared : (entries : List (Entry Ticket)) (now : Seen) → R entries now → R (Cleared ∷ entries) now) where
  -- with the calls that these entries have more than there were at the start
  record Leads (start : List (Call Ticket)) (before : Seen) (entries : List (Entry Ticket)) : Type 0 where
    added : List (Call Ticket)
    is : calls entries ≡ start ++ added
    leads : (after : Seen) → OneByOne Files before added after → R entries after

  module _ (start : List (Call Ticket)) (before : Seen) where
    none_leads : (entries : List (Entry Ticket)) → start ≡ calls entries → R entries before → Leads start before entries
    none_leads entries e r = record { added = []; is = sym e ∙ sym (append-nil start); leads = λ after f. subst (R entries) (sym f) r }

    filed_leads : (asks : Request Ticket) (c : ℕ) (item : Item) (contexts : List MetaContext) (answers : List Answer) (entries : List (Entry Ticket)) → Unit {0} → request history c ≡ Some asks → is_ended (own c entries) ≡ false → Leads start before entries →
        Leads start before (Filed (filing_of asks c (own c entries) contexts item answers) ∷ entries)
    filed_leads asks c item contexts answers entries any is going l =
        let more : List (Call Ticket) = map call_of (acts_of (filing_of asks c (own c entries) contexts item answers) (own c entries)) in
        record {
          added = l.added ++ more;
          is = ap (λ x. x ++ more) l.is ∙ append_assoc start l.added more;
          leads = λ after f. (
              let p = parted l.added more before after f in
              filed asks c item contexts answers entries p.between after is going (l.leads p.between p.one) p.other);
        }

    freed_leads : (flight : Flight Ticket) (entries : List (Entry Ticket)) → Leads start before entries → Leads start before (Freed flight ∷ entries)
    freed_leads flight entries l =
        let more : List (Call Ticket) = map call_of (free_acts flight) in
        record {
          added = l.added ++ more;
          is = ap (λ x. x ++ more) l.is ∙ append_assoc start l.added more;
          leads = λ after f. (let p = parted l.added more before after f in freed flight entries p.between after (l.leads p.between p.one) p.other);
        }

    cleared_leads : (entries : List (Entry Ticket)) → Leads start before entries → Leads start before (Cleared ∷ entries)
    cleared_leads entries l = record { added = l.added; is = l.is; leads = λ after f. cleared entries after (l.leads after f) }

  pub along : (event : Event Ticket) (added : List (Call Ticket)) (before after : Seen) → R (reading history).known.entries before → Adds event history added → OneByOne Files before added after → R (reading (event ∷ history)).known.entries after
  along event added before after r adds files =
      let start : List (Call Ticket) = calls (reading history).known.entries in
      let l = event_keeps history (Leads start before) (λ item. Unit {0}) (filed_leads start before) (λ item. tt) (freed_leads start before) (cleared_leads start before)
      event (none_leads start before (reading history).known.entries refl r) in
      l.leads after (subst (λ x. OneByOne Files before x after) (sym (append_cancel_left start l.added added (sym l.is ∙ adds))) files)
