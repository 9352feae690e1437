-- A transcript goes on, and what is so of a front of its calls stays so.
use Rattle.std.proofs.Common.{List, [], ◌∷◌, ◌++◌, Option, ap, sym, ◌∙◌}
use Rattle.std.proofs.lemmas.List.{append-nil, append_assoc}
use Rattle.lnbd_link.specs.Call as wire
use Rattle.lnbd_link.specs.Part.{Adds}
use Rattle.lnbd_model.specs.declared.target.Place.{Place}
use Rattle.lnbd_plan.specs.declared.options.CopyOptions.{CopyOptions}
use Rattle.lnbd_conduct.specs.declared.terms.Terms.{Terms}
use Rattle.lnbd_copy.specs.Lasting.{Lasts}
use Rattle.lnbd_conduct.specs.Told.{AtSome, Told}
use Rattle.lnbd_copy.specs.Settled.{HasTerms}

-- At the time itself.
pub at_once : {Is : List wire.Call → Type 0} (calls : List wire.Call) → Is calls → AtSome Is calls
at_once calls is = record { before = calls; after = []; are = sym (append-nil calls); is = is }

-- The transcript goes on.

pub lasts_none : (told : Option (List wire.Call)) → Lasts told told
lasts_none told = record { on = λ all is. at_once all is }

pub lasts_adds : (a b : Option (List wire.Call)) (call : wire.Call) → Adds a b call → Lasts a b
lasts_adds a b call adds = record { on = λ all is. let added = adds all is in record { before = added.0; after = call ∷ []; are = added.2; is = added.1 } }

pub lasts_then : (a b c : Option (List wire.Call)) → Lasts a b → Lasts b c → Lasts a c
lasts_then a b c one two = record {
  on = λ all is.
      let late = two.on all is in
      let early = one.on late.before late.is in
      record { before = early.before; after = early.after ++ late.after; are = late.are ∙ ap (λ (l : List wire.Call). l ++ late.after) early.are ∙ append_assoc early.before early.after late.after; is = early.is };
}

pub told_later : {Is : List wire.Call → Type 0} (start a b : Option (List wire.Call)) → Lasts a b → Told start a (AtSome Is) → Told start b (AtSome Is)
told_later start a b lasts t = record {
  since = λ all is.
      let front = lasts.on all is in
      let since = t.since front.before front.is in
      record {
        before = since.before;
        calls = since.calls ++ front.after;
        was = since.was;
        now = front.are ∙ ap (λ (l : List wire.Call). l ++ front.after) since.now ∙ append_assoc since.before since.calls front.after;
        is = record { before = since.is.before; after = since.is.after ++ front.after; are = ap (λ (l : List wire.Call). l ++ front.after) since.is.are ∙ append_assoc since.is.before since.is.after front.after; is = since.is.is };
      };
}

-- What both sides told is told still.
unfoldable pub terms_later : (options : CopyOptions) (from to : Place) (start a b : Option (List wire.Call)) (terms : Terms) → Lasts a b → HasTerms options from to start a terms → HasTerms options from to start b terms
terms_later options from to start a b terms lasts s = record {
  source = s.source;
  destination = s.destination;
  shown = told_later start a b lasts s.shown;
  shown' = told_later start a b lasts s.shown';
  none = s.none;
  settled = s.settled;
}
