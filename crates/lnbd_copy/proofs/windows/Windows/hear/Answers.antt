use Rattle.std.proofs.Common.{is_some, refl, ap, sym, ◌∙◌, true, ◌≡◌, ◌<◌, ◌≤◌, ◌+◌, ◌-◌, ◌||◌, ℕ, Bool, List, subst, arith}
use Rattle.lnbd_model.specs.declared.export.Extent.{Extent}
use Rattle.lnbd_extents.specs.Lists.{flags_at}
use Rattle.lnbd_asked.specs.Transcript.{is_zero}
use Rattle.lnbd_tracks.specs.Saying.{is_told}
use Rattle.lnbd_plan.specs.Plans.{Planned}
use Rattle.lnbd_plan.specs.declared.grid.Slice.{Slice}
use Rattle.lnbd_copy.specs.Heard.{IsHeardTo, passed_heard}
use Rattle.lnbd_copy.specs.Reached.{IsToldTo, told_heard}
use Rattle.lnbd_copy.specs.Windows.{Seen, IsPlanned, wanted, zero_heard}
use Rattle.lnbd_copy.specs.Spared.{IsSpared, whole_heard}
use Rattle.lnbd_copy.proofs.QueriedLemmas.{none_wanted}
use Rattle.lnbd_copy.proofs.ReachLemmas.{all_passed, heard_further, heard_still, steps_partly, steps_wholly}
use Rattle.lnbd_copy.proofs.SparedLemmas.{spared_partly, spared_wholly}
use Rattle.lnbd_copy.proofs.ToldLemmas.{told_partly, told_still, told_wholly}
use Rattle.lnbd_copy.proofs.WindowLemmas.{window_kept, hear_wholly}
use Rattle.lnbd_copy.proofs.windows.Windows.hear.Goals as goal

pub invariant_of-self-2 : goal.invariant_of-self-2
invariant_of-self-2 c =
    let kept = c.self.invariant in
    let ahead = kept.ahead in
    let order = c.end_of-end.ensures.order in
    let most = c.passed.ensures.inside in
    let left : c.self.inside.at < c.end_of-end.result = omega arith in
    let last : c.self.inside.start + (c.self.inside.at + c.passed.result - c.self.inside.start) ≡ c.self.inside.at + c.passed.result = omega arith in
    window_kept c.self.inside.plan c.window.new.self c.self.inside.start c.self.inside.at c.self.inside.size c.self.inside.grain (c.self.inside.at + c.passed.result - c.self.inside.start) (c.self.inside.at + c.passed.result)
    c.hold_zeroes.new.zero kept last (omega arith) c.in_ok-window.ensures.ok

pub returns-clause-planned : goal.returns-clause-planned
returns-clause-planned c =
    let was : Seen = record { plan = c.self.inside.plan; size = c.self.inside.size; grain = c.self.inside.grain; at = c.self.inside.at; zero = c.self.inside.zero } in
    let now : Seen = record { plan = c.window.new.self; size = c.self.inside.size; grain = c.self.inside.grain; at = c.self.inside.at + c.passed.result; zero = c.new.result } in
    let left : c.self.inside.at < c.end_of-end.result = omega arith in
    let ahead = c.self.invariant.ahead in
    let order = c.end_of-end.ensures.order in
    let most = c.passed.ensures.inside in
    let fits : c.self.inside.start + (c.self.inside.at + c.passed.result - c.self.inside.start) ≤ c.self.inside.size = omega arith in
    let last : c.self.inside.start + (c.self.inside.at + c.passed.result - c.self.inside.start) ≡ c.end_of-end.result = omega arith in
    subst (λ (w : Seen). (blank : ℕ → Bool) (slices : List Slice) → IsPlanned w blank slices → IsPlanned now (λ p. blank p || zero_heard (wanted w) c.args.told.now p) slices) c.self.view_is
    (hear_wholly was c.self.inside.start c.end_of-end.result c.args.told.now c.deref.result.now c.in_ok-joined.joined.items c.hold_zeroes.new.zero c.self.invariant.begins c.end_of-end.ensures.end left c.deref.ensures.value c.in_ok-joined.ensures.told
    c.in_ok-reached.ensures.held now (c.self.inside.at + c.passed.result - c.self.inside.start) c.in_ok-window.ensures.ok fits c.new.ensures refl last)

pub returns-then-at-end-clause-spared : goal.returns-then-at-end-clause-spared
returns-then-at-end-clause-spared c =
    let was : Seen = record { plan = c.self.inside.plan; size = c.self.inside.size; grain = c.self.inside.grain; at = c.self.inside.at; zero = c.self.inside.zero } in
    let now : Seen = record { plan = c.self.inside.plan; size = c.self.inside.size; grain = c.self.inside.grain; at = c.self.inside.at + c.passed.result; zero = c.hold_zeroes.new.zero } in
    let left : c.self.inside.at < c.end_of-end.result = omega arith in
    subst (λ (w : Seen). (whole : ℕ → Bool) (slices : List Slice) → IsSpared w whole slices → IsSpared now (λ p. whole p || whole_heard w.grain (wanted w) c.args.told.now p) slices) c.self.view_is
    (spared_partly was c.self.inside.start c.end_of-end.result c.self.inside.grain c.args.told.now c.deref.result.now c.hold_zeroes.new.zero c.self.invariant.begins c.self.invariant.ahead c.end_of-end.ensures.end left c.self.invariant.some
    (λ p low e. subst (λ (l : List Extent). is_zero (flags_at l p) ≡ true) (sym c.deref.ensures.value) (c.in_ok-joined.ensures.all p low e)) c.in_ok-reached.ensures.kept c.in_ok-reached.ensures.whole now refl refl refl)

pub returns-clause-spared : goal.returns-clause-spared
returns-clause-spared c =
    let was : Seen = record { plan = c.self.inside.plan; size = c.self.inside.size; grain = c.self.inside.grain; at = c.self.inside.at; zero = c.self.inside.zero } in
    let now : Seen = record { plan = c.window.new.self; size = c.self.inside.size; grain = c.self.inside.grain; at = c.self.inside.at + c.passed.result; zero = c.new.result } in
    let left : c.self.inside.at < c.end_of-end.result = omega arith in
    let ahead = c.self.invariant.ahead in
    let order = c.end_of-end.ensures.order in
    let most = c.passed.ensures.inside in
    let fits : c.self.inside.start + (c.self.inside.at + c.passed.result - c.self.inside.start) ≤ c.self.inside.size = omega arith in
    let last : c.self.inside.start + (c.self.inside.at + c.passed.result - c.self.inside.start) ≡ c.end_of-end.result = omega arith in
    subst (λ (w : Seen). (whole : ℕ → Bool) (slices : List Slice) → IsSpared w whole slices → IsSpared now (λ p. whole p || whole_heard w.grain (wanted w) c.args.told.now p) slices) c.self.view_is
    (spared_wholly was c.self.inside.start c.end_of-end.result c.self.inside.grain c.args.told.now c.deref.result.now c.hold_zeroes.new.zero c.self.invariant.begins ahead c.end_of-end.ensures.end left c.self.invariant.some
    (λ p low e. subst (λ (l : List Extent). is_zero (flags_at l p) ≡ true) (sym c.deref.ensures.value) (c.in_ok-joined.ensures.all p low e)) c.in_ok-reached.ensures.kept c.in_ok-reached.ensures.whole now
    (c.self.inside.at + c.passed.result - c.self.inside.start) c.in_ok-window.ensures.ok last fits)

pub returns-then-at-end-clause-heard : goal.returns-then-at-end-clause-heard
returns-then-at-end-clause-heard c =
    let was : Seen = record { plan = c.self.inside.plan; size = c.self.inside.size; grain = c.self.inside.grain; at = c.self.inside.at; zero = c.self.inside.zero } in
    let now : Seen = record { plan = c.self.inside.plan; size = c.self.inside.size; grain = c.self.inside.grain; at = c.self.inside.at + c.passed.result; zero = c.hold_zeroes.new.zero } in
    let left : c.self.inside.at < c.end_of-end.result = omega arith in
    let less : c.self.inside.at + c.passed.result < c.end_of-end.result = omega arith in
    let begins = c.self.invariant.begins in
    let ahead = c.self.invariant.ahead in
    subst (λ (w : Seen). (heard : ℕ → Bool) → IsHeardTo w heard → IsHeardTo now (λ p. heard p || passed_heard w.grain (wanted w) c.args.told.now p)) c.self.view_is
    (heard_further was now c.self.inside.start c.end_of-end.result c.passed.result c.args.told.now begins c.end_of-end.ensures.end left c.passed.ensures.inside refl (omega (arith, begins, ahead))
    (all_passed c.args.told.now c.deref.result.now c.self.inside.at c.self.inside.grain c.in_ok-reached.reached c.passed.result c.passed.ensures.told c.in_ok-reached.ensures.near
    (λ q e. c.in_ok-joined.ensures.told_so q (subst (λ (l : List Extent). is_told (flags_at l q) ≡ true) c.deref.ensures.value e)))
    (steps_partly was now c.end_of-end.result c.passed.result c.passed.ensures.blocks left less refl refl refl))

pub returns-clause-heard : goal.returns-clause-heard
returns-clause-heard c =
    let was : Seen = record { plan = c.self.inside.plan; size = c.self.inside.size; grain = c.self.inside.grain; at = c.self.inside.at; zero = c.self.inside.zero } in
    let now : Seen = record { plan = c.window.new.self; size = c.self.inside.size; grain = c.self.inside.grain; at = c.self.inside.at + c.passed.result; zero = c.new.result } in
    let left : c.self.inside.at < c.end_of-end.result = omega arith in
    let ahead = c.self.invariant.ahead in
    let ends = ap (λ (p : Planned). p.end) c.in_ok-window.ensures.ok in
    subst (λ (w : Seen). (heard : ℕ → Bool) → IsHeardTo w heard → IsHeardTo now (λ p. heard p || passed_heard w.grain (wanted w) c.args.told.now p)) c.self.view_is
    (heard_further was now c.self.inside.start c.end_of-end.result c.passed.result c.args.told.now c.self.invariant.begins c.end_of-end.ensures.end left c.passed.ensures.inside refl (omega (arith, ends, ahead))
    (all_passed c.args.told.now c.deref.result.now c.self.inside.at c.self.inside.grain c.in_ok-reached.reached c.passed.result c.passed.ensures.told c.in_ok-reached.ensures.near
    (λ q e. c.in_ok-joined.ensures.told_so q (subst (λ (l : List Extent). is_told (flags_at l q) ≡ true) c.deref.ensures.value e)))
    (steps_wholly was now (omega (arith, ends, ahead))))

pub returns-then-end-self-clause-heard : goal.returns-then-end-self-clause-heard
returns-then-end-self-clause-heard c = λ heard was. heard_still c.args.self.now c.args.told.now heard was

pub returns-then-at-end-clause-reached : goal.returns-then-at-end-clause-reached
returns-then-at-end-clause-reached c =
    let was : Seen = record { plan = c.self.inside.plan; size = c.self.inside.size; grain = c.self.inside.grain; at = c.self.inside.at; zero = c.self.inside.zero } in
    let now : Seen = record { plan = c.self.inside.plan; size = c.self.inside.size; grain = c.self.inside.grain; at = c.self.inside.at + c.passed.result; zero = c.hold_zeroes.new.zero } in
    let left : c.self.inside.at < c.end_of-end.result = omega arith in
    let less : c.self.inside.at + c.passed.result < c.end_of-end.result = omega arith in
    subst (λ (w : Seen). (reach : ℕ → Bool) → IsToldTo w reach → IsToldTo now (λ p. reach p || told_heard (wanted w) c.args.told.now p)) c.self.view_is
    (told_partly was c.self.inside.start c.end_of-end.result c.in_ok-reached.reached c.passed.result c.args.told.now c.deref.result.now c.self.invariant.begins c.self.invariant.ahead c.end_of-end.ensures.end left
    (λ p low e. subst (λ (l : List Extent). is_told (flags_at l p) ≡ true) (sym c.deref.ensures.value) (c.in_ok-joined.ensures.reach p low e)) c.in_ok-reached.ensures.far c.in_ok-reached.ensures.reached c.passed.ensures.inside c.passed.ensures.whole c.passed.ensures.near
    now refl refl refl refl less)

pub returns-clause-reached : goal.returns-clause-reached
returns-clause-reached c =
    let was : Seen = record { plan = c.self.inside.plan; size = c.self.inside.size; grain = c.self.inside.grain; at = c.self.inside.at; zero = c.self.inside.zero } in
    let now : Seen = record { plan = c.window.new.self; size = c.self.inside.size; grain = c.self.inside.grain; at = c.self.inside.at + c.passed.result; zero = c.new.result } in
    let left : c.self.inside.at < c.end_of-end.result = omega arith in
    let ahead = c.self.invariant.ahead in
    let most = c.passed.ensures.inside in
    let last : c.self.inside.start + (c.self.inside.at + c.passed.result - c.self.inside.start) ≡ c.end_of-end.result = omega arith in
    subst (λ (w : Seen). (reach : ℕ → Bool) → IsToldTo w reach → IsToldTo now (λ p. reach p || told_heard (wanted w) c.args.told.now p)) c.self.view_is
    (told_wholly was c.self.inside.start c.end_of-end.result c.in_ok-reached.reached c.passed.result c.args.told.now c.deref.result.now c.self.invariant.begins ahead c.end_of-end.ensures.end left
    (λ p low e. subst (λ (l : List Extent). is_told (flags_at l p) ≡ true) (sym c.deref.ensures.value) (c.in_ok-joined.ensures.reach p low e)) c.in_ok-reached.ensures.far c.in_ok-reached.ensures.reached c.passed.ensures.inside c.passed.ensures.whole c.passed.ensures.near
    now (ap (λ (p : Planned). p.end) c.in_ok-window.ensures.ok ∙ last))

pub returns-then-end-self-clause-reached : goal.returns-then-end-self-clause-reached
returns-then-end-self-clause-reached c =
    let was : Seen = record { plan = c.self.inside.plan; size = c.self.inside.size; grain = c.self.inside.grain; at = c.self.inside.at; zero = c.self.inside.zero } in
    let past : c.end_of-end.result ≤ c.self.inside.at = omega arith in
    subst (λ (w : Seen). (reach : ℕ → Bool) → IsToldTo w reach → IsToldTo w (λ p. reach p || told_heard (wanted w) c.args.told.now p)) c.self.view_is
    (told_still was c.self.inside.start c.end_of-end.result c.args.told.now c.self.invariant.begins c.end_of-end.ensures.end past)

pub returns-then-end-self-clause-ahead : goal.returns-then-end-self-clause-ahead
returns-then-end-self-clause-ahead c =
    let was : Seen = record { plan = c.self.inside.plan; size = c.self.inside.size; grain = c.self.inside.grain; at = c.self.inside.at; zero = c.self.inside.zero } in
    let past : c.end_of-end.result ≤ c.self.inside.at = omega arith in
    subst (λ (w : Seen). is_some (wanted w) ≡ true → w.at < w.at) c.self.view_is (λ some. absurd (none_wanted was c.self.inside.start c.end_of-end.result c.self.invariant.begins c.end_of-end.ensures.end past some))

pub returns-then-at-end-clause-ahead : goal.returns-then-at-end-clause-ahead
returns-then-at-end-clause-ahead c =
    let was : Seen = record { plan = c.self.inside.plan; size = c.self.inside.size; grain = c.self.inside.grain; at = c.self.inside.at; zero = c.self.inside.zero } in
    let left : 0 < c.end_of-end.result - c.self.inside.at = omega arith in
    let more = c.passed.ensures.some left in
    subst (λ (w : Seen). is_some (wanted w) ≡ true → w.at < c.self.inside.at + c.passed.result) c.self.view_is (λ some. omega (arith, more))

pub returns-clause-ahead : goal.returns-clause-ahead
returns-clause-ahead c =
    let was : Seen = record { plan = c.self.inside.plan; size = c.self.inside.size; grain = c.self.inside.grain; at = c.self.inside.at; zero = c.self.inside.zero } in
    let left : 0 < c.end_of-end.result - c.self.inside.at = omega arith in
    let more = c.passed.ensures.some left in
    subst (λ (w : Seen). is_some (wanted w) ≡ true → w.at < c.self.inside.at + c.passed.result) c.self.view_is (λ some. omega (arith, more))
