-- A transcript goes on by calls that read and write no link, and make none.
use Rattle.std.proofs.Common.{◌≡◌, ◌||◌, ℕ, Bool, false, List, [], ◌∷◌, ◌++◌, Option, refl, ap, sym, ◌∙◌}
use Rattle.std.proofs.lemmas.List.{append-nil, append_assoc}
use Rattle.lnbd_link.specs.Call as wire
use Rattle.lnbd_link.specs.Numbers.{is_given}
use Rattle.lnbd_link.specs.Part.{Adds}
use Rattle.lnbd_link.proofs.Openings.{is_given-append}
use Rattle.lnbd_link.specs.declared.wires.Want.{Want}
use Rattle.lnbd_drives.proofs.Passing.{both_off}
use Rattle.lnbd_poll.specs.Alone.{calls_on}
use Rattle.lnbd_copy.specs.Faults.{GoesIdly}
use Rattle.lnbd_conduct.specs.Told.{Told}
use Rattle.lnbd_copy.proofs.TurnLemmas.{since_on}

pub idly_none : (told : Option (List wire.Call)) → GoesIdly told told
idly_none told = record { on = λ all is. record { before = all; more = []; was = is; are = sym (append-nil all); quiet = λ link. refl; none = λ link. refl } }

pub idly_adds : (a b : Option (List wire.Call)) (call : wire.Call) → ((link : ℕ) → calls_on link (call ∷ []) ≡ []) → ((link : ℕ) → is_given link (call ∷ []) ≡ false) → Adds a b call → GoesIdly a b
idly_adds a b call quiet none adds = record { on = λ all is. (let grown = adds all is in record { before = grown.0; more = call ∷ []; was = grown.1; are = grown.2; quiet = quiet; none = none }) }

pub idly_shut : (a b : Option (List wire.Call)) (link : ℕ) → Adds a b (wire.Shut link) → GoesIdly a b
idly_shut a b link adds = idly_adds a b (wire.Shut link) (λ n. refl) (λ n. refl) adds

pub idly_paused : (a b : Option (List wire.Call)) (wants : List Want) → Adds a b (wire.Pause wants) → GoesIdly a b
idly_paused a b wants adds = idly_adds a b (wire.Pause wants) (λ n. refl) (λ n. refl) adds

none_of_both : (link : ℕ) (one other : List wire.Call) → is_given link one ≡ false → is_given link other ≡ false → is_given link (one ++ other) ≡ false
none_of_both link one other first second = is_given-append link one other ∙ ap (λ (b : Bool). b || is_given link other) first ∙ second

pub idly_then : (a b c : Option (List wire.Call)) → GoesIdly a b → GoesIdly b c → GoesIdly a c
idly_then a b c one two = record {
  on = λ all is.
      let late = two.on all is in
      let early = one.on late.before late.was in
      record {
        before = early.before;
        more = early.more ++ late.more;
        was = early.was;
        are = late.are ∙ ap (λ (l : List wire.Call). l ++ late.more) early.are ∙ append_assoc early.before early.more late.more;
        quiet = λ link. both_off link early.more late.more (early.quiet link) (late.quiet link);
        none = λ link. none_of_both link early.more late.more (early.none link) (late.none link);
      };
}

-- What such calls leave is so still.
abbrev pub StaysIdly : (List wire.Call → Type 0) → Type 0
StaysIdly Is = (calls more : List wire.Call) → ((link : ℕ) → calls_on link more ≡ []) → ((link : ℕ) → is_given link more ≡ false) → Is calls → Is (calls ++ more)

pub told_idly : (Is : List wire.Call → Type 0) (start a b : Option (List wire.Call)) → StaysIdly Is → GoesIdly a b → Told start a Is → Told start b Is
told_idly Is start a b stays idly told = record {
  since = λ all is.
      let idle = idly.on all is in
      let since = told.since idle.before idle.was in
      since_on start idle.before all idle.more idle.are since (stays since.calls idle.more idle.quiet idle.none since.is);
}
