-- What is done stays so, with the same bytes: nothing more comes for it.
use Rattle.std.proofs.Common.{◌≡◌, ◌⊎◌, inl, inr, ℕ, false, List, [], ◌∷◌, ◌++◌, Option, Some, refl, sym, ◌∙◌, ap}
use Rattle.std.proofs.lemmas.Bool.{cases_eq}
use Rattle.lnbd_model.specs.declared.export.Context.{Context as MetaContext}
use Rattle.lnbd_outcome.specs.Outcome.{Done, Unfinished}
use Rattle.lnbd_history.specs.Commands.{Request}
use Rattle.lnbd_history.specs.Entries.{Entry, Filed, Filing, Item, is_ended, own}
use Rattle.lnbd_history.specs.Events.{Answer, Event, History}
use Rattle.lnbd_history.specs.History.{filing_of, reading, request}
use Rattle.lnbd_asked.specs.Driven.{outcome_after}
use Rattle.lnbd_asked.specs.Transcript.{outcome_of}
use Rattle.lnbd_tracks.proofs.Coming.{event_keeps}
use Rattle.lnbd_tracks.proofs.Outcomes.{waits}
use Rattle.lnbd_tracks.proofs.Staying.{asked_stays}
use Rattle.lnbd_tracks.proofs.Unfiled.{own_other}
use Rattle.lnbd_dump.specs.declared.reader.Reader.{Reader}

waits_not : (q : Request Reader) (filings : List (Filing Reader)) (bytes : List ℕ) → outcome_of (Some q) filings ≡ Done bytes → is_ended filings ≡ false → ⊥
waits_not q filings bytes e going = differ (sym (waits q filings going) ∙ e)
  where
    differ : Unfinished ≡ Done bytes → ⊥
    differ k = cc

own_stays : (before : History Reader) (event : Event Reader) (c : ℕ) (q : Request Reader) (bytes : List ℕ) → request before c ≡ Some q → outcome_after before c ≡ Done bytes → own c (reading (event ∷ before)).known.entries ≡ own c (reading before).known.entries
own_stays before event c q bytes is done =
    event_keeps before (λ entries. own c entries ≡ own c (reading before).known.entries) (λ item. Unit {0}) same (λ item. tt) (λ flight entries h. h) (λ entries h. h) event refl
  where
    done_is : outcome_of (Some q) (own c (reading before).known.entries) ≡ Done bytes
    done_is = sym (ap (λ (a : Option (Request Reader)). outcome_of a (own c (reading before).known.entries)) is) ∙ done

    same : (asks : Request Reader) (k : ℕ) (item : Item) (contexts : List MetaContext) (answers : List Answer) (entries : List (Entry Reader)) → Unit {0} → request before k ≡ Some asks → is_ended (own k entries) ≡ false → own c entries ≡ own c (reading before).known.entries →
        own c (Filed (filing_of asks k (own k entries) contexts item answers) ∷ entries) ≡ own c (reading before).known.entries
    same asks k item contexts answers entries any there going h = go (cases_eq k c)
      where
        go : (k ≡ c) ⊎ (k ≡ c → ⊥) → own c (Filed (filing_of asks k (own k entries) contexts item answers) ∷ entries) ≡ own c (reading before).known.entries
        go (inl e) = absurd (waits_not q (own c (reading before).known.entries) bytes done_is (ap is_ended (sym h) ∙ ap (λ (x : ℕ). is_ended (own x entries)) (sym e) ∙ going))
        go (inr differ) = own_other c (filing_of asks k (own k entries) contexts item answers) entries differ ∙ h

pub done_same : (before : History Reader) (event : Event Reader) (c : ℕ) (q : Request Reader) (bytes : List ℕ) → request before c ≡ Some q → outcome_after before c ≡ Done bytes → outcome_after (event ∷ before) c ≡ Done bytes
done_same before event c q bytes is done =
    ap (λ (a : Option (Request Reader)). outcome_of a (own c (reading (event ∷ before)).known.entries)) (asked_stays before event c q is)
    ∙ ap (λ (l : List (Filing Reader)). outcome_of (Some q) l) (own_stays before event c q bytes is done)
    ∙ sym (ap (λ (a : Option (Request Reader)). outcome_of a (own c (reading before).known.entries)) is)
    ∙ done

-- So it is whatever happens since.
pub record StaysDone (before after : History Reader) (c : ℕ) (q : Request Reader) (bytes : List ℕ) : Type 0 where
  pub asked : request after c ≡ Some q
  pub done : outcome_after after c ≡ Done bytes
  pub own_same : own c (reading after).known.entries ≡ own c (reading before).known.entries

pub stays_done : (since before : History Reader) (c : ℕ) (q : Request Reader) (bytes : List ℕ) → request before c ≡ Some q → outcome_after before c ≡ Done bytes → StaysDone before (since ++ before) c q bytes
stays_done [] before c q bytes is done = record { asked = is; done = done; own_same = refl }
stays_done (event ∷ since) before c q bytes is done =
    let s = stays_done since before c q bytes is done in
    record {
      asked = asked_stays (since ++ before) event c q s.asked;
      done = done_same (since ++ before) event c q bytes s.asked s.done;
      own_same = own_stays (since ++ before) event c q bytes s.asked s.done ∙ s.own_same;
    }
