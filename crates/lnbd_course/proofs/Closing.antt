-- Where a handle is closed nothing is completed, so the board is told of no answer, and of no error.
use Rattle.std.proofs.Common.{◌≡◌, inl, inr, ℕ, Bool, true, false, List, [], ◌∷◌, ◌++◌, map, Some, refl, ap, sym, subst, ◌∙◌}
use Rattle.std.proofs.lemmas.List.{append-nil, append_assoc, append_cancel_left}
use Rattle.lnbd_callbacks.specs.Calls.{Call, Chunk, Extents, Complete, Free}
use Rattle.lnbd_callbacks.specs.Steps.{OneByOne}
use Rattle.lnbd_model.specs.declared.export.Context.{Context as MetaContext}
use Rattle.lnbd_model.specs.declared.export.Extent.{Extent}
use Rattle.lnbd_history.specs.Commands.{Request}
use Rattle.lnbd_history.specs.Entries.{Dropped, Entry, Filed, Item, acts_of, bytes_in, call_of, calls, completes, error_in, hearing_in, hears, is_ended, own}
use Rattle.lnbd_history.specs.Events.{Answer, Close, History}
use Rattle.lnbd_history.specs.History.{filing_of, left, reading, request, with_answers}
use Rattle.lnbd_board.specs.declared.ticket.Ticket.{Ticket}
use Rattle.lnbd_board.specs.Files.{Files, Hears, Seen, is_map}
use Rattle.lnbd_board.specs.Requests.{Each}
use Rattle.lnbd_board.proofs.Lists.{Each-append}
use Rattle.lnbd_tracks.specs.Tracks.{Adds}
use Rattle.lnbd_tracks.proofs.Calling.{IsQuiet, filing_quiet}
use Rattle.lnbd_tracks.proofs.Coming.{closed_keeps}
use Rattle.lnbd_course.proofs.Flushed.{heard_same}

quiet_same : (calls : List (Call Ticket)) (old new : Seen) → Each IsQuiet calls → OneByOne Files old calls new → new.flushed ≡ old.flushed
quiet_same [] old new quiet f = ap (λ (s : Seen). s.flushed) f
quiet_same (call ∷ calls) old new quiet f = quiet_same calls f.0 new quiet.1 f.1.1 ∙ one call quiet.0 f.1.0
  where
    one : (call : Call Ticket) → IsQuiet call → Files old call f.0 → f.0.flushed ≡ old.flushed
    one (Chunk by bytes offset status error heard) q h = ap (λ (s : Seen). s.flushed) h.1
    one (Extents by context offset entries error heard) q h = heard_same (is_map by context) entries old f.0 h.1
    one (Complete by error buf verdict) q h = absurd q
    one (Free by) q h = ap (λ (s : Seen). s.flushed) h

quiet_well : (calls : List (Call Ticket)) (old new : Seen) → Each IsQuiet calls → OneByOne Files old calls new → new.error ≡ old.error
quiet_well [] old new quiet f = ap (λ (s : Seen). s.error) f
quiet_well (call ∷ calls) old new quiet f = quiet_well calls f.0 new quiet.1 f.1.1 ∙ one call quiet.0 f.1.0
  where
    heard : (is : Bool) (entries : List Extent) → Hears is entries old f.0 → f.0.error ≡ old.error
    heard true entries (inl h) = ap (λ (s : Seen). s.error) h.1
    heard true entries (inr h) = ap (λ (s : Seen). s.error) h
    heard false entries h = ap (λ (s : Seen). s.error) h

    one : (call : Call Ticket) → IsQuiet call → Files old call f.0 → f.0.error ≡ old.error
    one (Chunk by bytes offset status error going) q h = ap (λ (s : Seen). s.error) h.1
    one (Extents by context offset entries error going) q h = heard (is_map by context) entries h.1
    one (Complete by error buf verdict) q h = absurd q
    one (Free by) q h = ap (λ (s : Seen). s.error) h

module _ (history : History Ticket) where
  -- more calls than there were at the start, none of which completes a command
  record Quietly (start : List (Call Ticket)) (entries : List (Entry Ticket)) : Type 0 where
    added : List (Call Ticket)
    is : calls entries ≡ start ++ added
    quiet : Each IsQuiet added

  dropped : (start : List (Call Ticket)) (asks : Request Ticket) (cookie : ℕ) (item : Item) (contexts : List MetaContext) (answers : List Answer) (entries : List (Entry Ticket)) → item ≡ Dropped → request history cookie ≡ Some asks → is_ended (own cookie entries) ≡ false → Quietly start entries →
      Quietly start (Filed (filing_of asks cookie (own cookie entries) contexts item answers) ∷ entries)
  dropped start asks cookie item contexts answers entries is there going l =
      let f = filing_of asks cookie (own cookie entries) contexts item answers in
      let more : List (Call Ticket) = map call_of (acts_of f (own cookie entries)) in
      let none : completes item ≡ false = ap completes is in
      record {
        added = l.added ++ more;
        is = ap (λ x. x ++ more) l.is ∙ append_assoc start l.added more;
        quiet = Each-append IsQuiet l.added more l.quiet
            (filing_quiet asks.flight (hearing_in asks (own cookie entries) contexts item) item f.heard (left (hears asks.flight (hearing_in asks (own cookie entries) contexts item)) answers) (error_in asks (f ∷ own cookie entries)) (bytes_in asks (f ∷ own cookie entries)) none);
      }

  closing_is_quiet : (added : List (Call Ticket)) → Adds Close history added → Each IsQuiet added
  closing_is_quiet added adds =
      let start : List (Call Ticket) = calls (reading history).known.entries in
      let l = closed_keeps history (Quietly start) (λ item. item ≡ Dropped) (dropped start) (with_answers [] (reading history).known) refl (record { added = []; is = sym (append-nil start); quiet = tt }) in
      subst (λ (x : List (Call Ticket)). Each IsQuiet x) (append_cancel_left start l.added added (sym l.is ∙ adds)) l.quiet

  pub closing_answers_none : (added : List (Call Ticket)) (before after : Seen) → Adds Close history added → OneByOne Files before added after → after.flushed ≡ before.flushed
  closing_answers_none added before after adds files = quiet_same added before after (closing_is_quiet added adds) files

  pub closing_fails_none : (added : List (Call Ticket)) (before after : Seen) → Adds Close history added → OneByOne Files before added after → after.error ≡ before.error
  closing_fails_none added before after adds files = quiet_well added before after (closing_is_quiet added adds) files
