-- What one call of a callback leaves.
use Rattle.std.proofs.Common.{◌≡◌, ◌∙◌, ℕ, Bool, List, [], ◌∷◌, ◌++◌, codes, refl, sym, ap, append_assoc, string_bytes}
use Rattle.std.proofs.lemmas.List.{append-nil}
use Rattle.std.proofs.lemmas.List.Elements.{All-cons, All-nil}
use Rattle.lnbd_model.specs.declared.export.Extent.{Extent}
use Rattle.lnbd_callbacks.specs.Calls.{Call, Chunk, Extents, Complete, counted}
use Rattle.lnbd_callbacks.specs.declared.caller.Heard.{Heard}
use Rattle.lnbd_callbacks.specs.declared.caller.Heard.TheVariants.{Going, Fail}
use Rattle.lnbd_callbacks.specs.declared.caller.Verdict.{Verdict}
use Rattle.lnbd_texts.specs.Heard.{chunk_text, complete_text, extents_text}
use Rattle.lnbd_script.specs.declared.keeper.Keeper.{Keeper}
use Rattle.lnbd_script.specs.declared.keeper.Heeded.{Heeded}
use Rattle.lnbd_script.specs.Kept.{Heeds, IsAnswered, Notes, Tally, fails_first, freed_by, heard_of, heed, line_of, marking, settling, tally_of, verdict_of}

-- one step after another
pub notes_on : (a b c : Heeded) (f g : Tally → Tally) (x y : List ℕ) → Notes a b f x → Notes b c g y → Notes a c (λ t. g (f t)) (x ++ y)
notes_on a b c f g x y one two = record {
  tally = two.tally ∙ ap g one.tally;
  hears = λ e. one.hears (two.hears e);
  heard = λ e. two.heard e ∙ ap (λ (t : List ℕ). t ++ y) (one.heard (two.hears e)) ∙ append_assoc (string_bytes a.heard) x y;
  freed = two.freed ∙ one.freed;
}

-- a call that frees nothing
heeds_one : (call : Call Keeper) (before after : Heeded) → IsAnswered call → freed_by before.freed (call ∷ []) ≡ before.freed → Notes before after (λ t. heed t call) (line_of call)
    → Heeds before (call ∷ []) after
heeds_one call before after answered none notes = record {
  answered = All-cons IsAnswered call [] answered (All-nil IsAnswered);
  tally = notes.tally;
  hears = notes.hears;
  heard = λ e. notes.heard e ∙ ap (λ (t : List ℕ). string_bytes before.heard ++ t) (sym (append-nil (line_of call)));
  freed = notes.freed ∙ sym none;
}

-- whether a callback failed first does not change by how its answer counts
counted_first : (error : ℕ) (heard : Heard) → fails_first error (counted heard) ≡ fails_first error heard
counted_first error Going = refl
counted_first error (Fail number) = refl

pub heeds_chunk : (callback : Keeper) (bytes : List ℕ) (offset status error : ℕ) (heard : Heard) (first : Bool) (a b c : Heeded) → heard ≡ heard_of callback.fails → first ≡ fails_first error heard
    → Notes a b (λ t. t) (chunk_text bytes offset status error ++ codes "\n") → Notes b c (λ t. marking first callback.command t) []
    → Heeds a (Chunk callback bytes offset status error (counted heard) ∷ []) c
heeds_chunk callback bytes offset status error heard first a b c answered is one two =
    let line = chunk_text bytes offset status error ++ codes "\n" in
    let both = notes_on a b c (λ t. t) (λ t. marking first callback.command t) line [] one two in
    heeds_one (Chunk callback bytes offset status error (counted heard)) a c (ap counted answered) refl (record {
      tally = both.tally ∙ ap (λ (f : Bool). marking f callback.command (tally_of a)) (is ∙ sym (counted_first error heard));
      hears = both.hears;
      heard = λ e. both.heard e ∙ ap (λ (t : List ℕ). string_bytes a.heard ++ t) (append-nil line);
      freed = both.freed;
    })

pub heeds_extents : (callback : Keeper) (context : List ℕ) (offset : ℕ) (entries : List Extent) (error : ℕ) (heard : Heard) (first : Bool) (a b c : Heeded) → heard ≡ heard_of callback.fails → first ≡ fails_first error heard
    → Notes a b (λ t. t) (extents_text context offset entries error ++ codes "\n") → Notes b c (λ t. marking first callback.command t) []
    → Heeds a (Extents callback context offset entries error (counted heard) ∷ []) c
heeds_extents callback context offset entries error heard first a b c answered is one two =
    let line = extents_text context offset entries error ++ codes "\n" in
    let both = notes_on a b c (λ t. t) (λ t. marking first callback.command t) line [] one two in
    heeds_one (Extents callback context offset entries error (counted heard)) a c (ap counted answered) refl (record {
      tally = both.tally ∙ ap (λ (f : Bool). marking f callback.command (tally_of a)) (is ∙ sym (counted_first error heard));
      hears = both.hears;
      heard = λ e. both.heard e ∙ ap (λ (t : List ℕ). string_bytes a.heard ++ t) (append-nil line);
      freed = both.freed;
    })

pub heeds_completion : (callback : Keeper) (error : ℕ) (bytes : List ℕ) (verdict : Verdict) (a b c d : Heeded) → verdict ≡ verdict_of callback.retires error bytes
    → Notes a b (λ t. t) (complete_text error bytes ++ codes "\n") → Notes b c (λ t. settling callback.command error t) [] → Notes c d (λ t. t) []
    → Heeds a (Complete callback error bytes verdict ∷ []) d
heeds_completion callback error bytes verdict a b c d answered one two three =
    let line = complete_text error bytes ++ codes "\n" in
    let both = notes_on a b c (λ t. t) (λ t. settling callback.command error t) line [] one two in
    let all = notes_on a c d (λ t. settling callback.command error t) (λ t. t) (line ++ []) [] both three in
    heeds_one (Complete callback error bytes verdict) a d answered refl (record {
      tally = all.tally;
      hears = all.hears;
      heard = λ e. all.heard e ∙ ap (λ (t : List ℕ). string_bytes a.heard ++ t) (append-nil (line ++ []) ∙ append-nil line);
      freed = all.freed;
    })
