-- What is so of the calls of a copy by what both sides told.
use Rattle.std.proofs.Common.{◌≡◌, List, [], ◌∷◌, ◌++◌, Option, Some, ap, sym, subst, ◌∙◌}
use Rattle.lnbd_link.specs.Call as wire
use Rattle.lnbd_model.specs.declared.export.ExportInfo.{ExportInfo}
use Rattle.lnbd_model.specs.declared.target.Place.{Place}
use Rattle.lnbd_plan.specs.declared.options.CopyOptions.{CopyOptions}
use Rattle.lnbd_conduct.specs.declared.terms.Terms.{Terms}
use Rattle.lnbd_conduct.specs.Grounds.{AllAlike, Drove, IsShown}
use Rattle.lnbd_conduct.specs.Told.{AtSome, Since, Told}
use Rattle.lnbd_copy.specs.Settled.{HasSettled, HasTerms}
use Rattle.lnbd_conduct.specs.Settled.{IsToldFirst, Settled}

pub same_rest : (one two three : List wire.Call) → one ++ two ≡ one ++ three → two ≡ three
same_rest [] two three e = e
same_rest (call ∷ one) two three e = same_rest one two three (cc e)

pub same_calls : (one two : List wire.Call) → Some one ≡ Some two → one ≡ two
same_calls one two e = cc

-- The calls since the start are the same, whatever is said of them.
pub same_since : {Is Is' : List wire.Call → Type 0} (start : Option (List wire.Call)) (all : List wire.Call) → (one : Since start all Is) → (other : Since start all Is') → one.calls ≡ other.calls
same_since start all one other =
    let same : one.before ≡ other.before = same_calls one.before other.before (sym one.was ∙ other.was) in
    same_rest one.before one.calls other.calls (sym one.now ∙ other.now ∙ ap (λ (l : List wire.Call). l ++ other.calls) (sym same))

-- Both are so of the calls since the start.
pub told_both : {Is Is' : List wire.Call → Type 0} (start told : Option (List wire.Call)) → Told start told Is → Told start told Is' → Told start told (λ calls. Is calls × Is' calls)
told_both {Is} {Is'} start told one other = record {
  since = λ all is.
      let here = one.since all is in
      let there = other.since all is in
      record { before = here.before; calls = here.calls; was = here.was; now = here.now; is = (here.is, subst Is' (sym (same_since start all here there)) there.is) };
}

pub settled_with : (Is : (source destination : ExportInfo) → List wire.Call → Type 0) (options : CopyOptions) (from to : Place) (start told : Option (List wire.Call)) (terms : Terms) → (s : HasSettled options from to start told terms) → Told start told (Is s.first.source s.first.destination) →
    Told start told (λ calls. Settled options.extents from to (λ source destination. Is source destination calls) calls)
settled_with Is options from to start told terms s so = record {
  since = λ all is.
      let one = so.since all is in
      let source = s.first.shown.since all is in
      let destination = s.first.shown'.since all is in
      let alike = s.all.since all is in
      record {
        before = one.before;
        calls = one.calls;
        was = one.was;
        now = one.now;
        is = record {
          source = s.first.source;
          destination = s.first.destination;
          shown = subst (AtSome (Drove options.extents from (IsShown s.first.source))) (same_since start all source one) source.is;
          shown' = subst (AtSome (Drove options.extents to (IsShown s.first.destination))) (same_since start all destination one) destination.is;
          none = s.first.none;
          is = one.is;
          all = subst (AllAlike options.extents from to s.first.source s.first.destination) (same_since start all alike one) alike.is;
        };
      };
}

-- The same of what the first connections told.
pub first_with : (Is : (source destination : ExportInfo) → List wire.Call → Type 0) (options : CopyOptions) (from to : Place) (start told : Option (List wire.Call)) (terms : Terms) → (s : HasTerms options from to start told terms) → Told start told (Is s.source s.destination) →
    Told start told (λ calls. IsToldFirst options.extents from to (λ source destination. Is source destination calls) calls)
first_with Is options from to start told terms s so = record {
  since = λ all is.
      let one = so.since all is in
      let source = s.shown.since all is in
      let destination = s.shown'.since all is in
      record {
        before = one.before;
        calls = one.calls;
        was = one.was;
        now = one.now;
        is = record {
          source = s.source;
          destination = s.destination;
          shown = subst (AtSome (Drove options.extents from (IsShown s.source))) (same_since start all source one) source.is;
          shown' = subst (AtSome (Drove options.extents to (IsShown s.destination))) (same_since start all destination one) destination.is;
          none = s.none;
          is = one.is;
        };
      };
}
