use Rattle.std.proofs.Common.{◌≡◌, ◌<◌, ◌≤◌, ◌+◌, ◌-◌, ◌++◌, ℕ, Bool, cond, List, Some, None, true, length, ap, sym, subst, ◌∙◌, arith}
use Rattle.lnbd_export.specs.Requests.{is_extended}
use Rattle.lnbd_server.specs.Client.{Heard, says}
use Rattle.lnbd_server.specs.Seen.{heard_of, used_of}
use Rattle.lnbd_server.specs.Session.{Dialogue, state_of, entering}
use Rattle.lnbd_server.proofs.Steps.{further_none, further_some, further_count}
use Rattle.lnbd_server.proofs.dialogue.Dialogue.further.Goals as goal

-- what was held and what came, joined
joined_as : (grew : Bool) (held before bytes new all : List ℕ) → new ≡ (cond grew (held ++ bytes) held) → grew ≡ true → held ≡ before → all ≡ new → all ≡ before ++ bytes
joined_as grew held before bytes new all items good is same = same ∙ items ∙ ap (λ (b : Bool). cond b (held ++ bytes) held) good ∙ ap (λ (xs : List ℕ). xs ++ bytes) is

pub overflow_sub-result : goal.overflow_sub-result
overflow_sub-result c =
    let joined = joined_as _ c.take_heard-all.result.items c.args.self.now.heard c.args.bytes.now _ c.deref.result.now c.extend_from_slice.ensures.items c.if-is_err.ensures.negation c.take_heard-all.ensures.bytes c.deref.ensures.value in
    let said = subst (λ (d : Dialogue). says d.stage (is_extended d.agreed.replies) c.deref.result.now ≡ heard_of c.seen_in-seen.result c.deref.result.now) c.take_heard-all.ensures.none c.seen_in-seen.ensures.said in
    let count = further_count c.args.self.now c.args.export.now c.args.bytes.now c.deref.result.now c.seen_in-seen.result c.take_heard-all.ensures.shows c.requires.some joined c.in_default.not-Nothing said c.seen_in-seen.ensures.there in
    let behind : length c.args.self.now.heard < used_of c.seen_in-seen.result (length c.deref.result.now) = count.0 in
    let used : c.used.result ≡ used_of c.seen_in-seen.result (length c.deref.result.now) = c.used.ensures ∙ ap (used_of c.seen_in-seen.result) (c.len.ensures ∙ sym c.deref.ensures.len) in
    let before : c.len-before.result ≡ length c.args.self.now.heard = c.len-before.ensures ∙ c.take_heard-all.result.ok.0 ∙ ap (λ (xs : List ℕ). length xs) c.take_heard-all.ensures.bytes in
    omega arith

pub returns-in-Nothing-clause-ok : goal.returns-in-Nothing-clause-ok
returns-in-Nothing-clause-ok c =
    let all = c.deref.result.now in
    let joined : all ≡ c.args.self.now.heard ++ c.args.bytes.now =
    joined_as _ c.take_heard-all.result.items c.args.self.now.heard c.args.bytes.now _ all c.extend_from_slice.ensures.items c.if-is_err.ensures.negation c.take_heard-all.ensures.bytes c.deref.ensures.value in
    let said = subst (λ (d : Dialogue). says d.stage (is_extended d.agreed.replies) all ≡ None) c.take_heard-all.ensures.none c.in-Nothing.ensures.said in
    let after : c.put_heard-in-Nothing.new.self ≡ record c.args.self.now { heard = all } =
    c.put_heard-in-Nothing.ensures ∙ ap (λ (d : Dialogue). record d { heard = c.extend_from_slice.new.self.items }) c.take_heard-all.ensures.none
    ∙ ap (λ (xs : List ℕ). record c.args.self.now { heard = xs }) (sym c.deref.ensures.value) in
    further_none c.args.offers c.args.self.now c.put_heard-in-Nothing.new.self c.args.export.now c.args.bytes.now all joined said after

pub returns-in-Ok : goal.returns-in-Ok
returns-in-Ok c =
    let all = c.deref.result.now in
    let joined : all ≡ c.args.self.now.heard ++ c.args.bytes.now =
    joined_as _ c.take_heard-all.result.items c.args.self.now.heard c.args.bytes.now _ all c.extend_from_slice.ensures.items c.if-is_err.ensures.negation c.take_heard-all.ensures.bytes c.deref.ensures.value in
    let same : c.deref-in_default.result.now ≡ all = c.deref-in_default.ensures.value ∙ sym c.deref.ensures.value in
    let said = subst (λ (d : Dialogue). says d.stage (is_extended d.agreed.replies) all ≡ heard_of c.seen_in-seen.result all) c.take_heard-all.ensures.none c.seen_in-seen.ensures.said in
    let count = further_count c.args.self.now c.args.export.now c.args.bytes.now all c.seen_in-seen.result c.take_heard-all.ensures.shows c.requires.some joined c.in_default.not-Nothing said c.seen_in-seen.ensures.there in
    let behind : length c.args.self.now.heard < used_of c.seen_in-seen.result (length all) = count.0 in
    let within : used_of c.seen_in-seen.result (length all) ≤ length c.args.self.now.heard + length c.args.bytes.now = count.1 in
    let used : c.used.result ≡ used_of c.seen_in-seen.result (length all) = c.used.ensures ∙ ap (used_of c.seen_in-seen.result) (c.len.ensures ∙ sym c.deref.ensures.len) in
    let before : c.len-before.result ≡ length c.args.self.now.heard = c.len-before.ensures ∙ c.take_heard-all.result.ok.0 ∙ ap (λ (xs : List ℕ). length xs) c.take_heard-all.ensures.bytes in
    let does = subst (λ (xs : List ℕ). (heard : Heard) → heard_of c.seen_in-seen.result xs ≡ Some heard → state_of c.enter.new.self c.enter.new.export ≡ entering c.args.offers heard.said (state_of c.args.self.now c.args.export.now)) same
    (subst (λ (d : Dialogue). (heard : Heard) → heard_of c.seen_in-seen.result c.deref-in_default.result.now ≡ Some heard → state_of c.enter.new.self c.enter.new.export ≡ entering c.args.offers heard.said (state_of d c.args.export.now))
    c.take_heard-all.ensures.none c.in-Ok.ensures.ok) in
    let n : c.used.result - c.len-before.result ≡ used_of c.seen_in-seen.result (length all) - length c.args.self.now.heard = ap (λ k. k - c.len-before.result) used ∙ ap (λ k. used_of c.seen_in-seen.result (length all) - k) before in
    record {
      count = (omega arith, omega arith);
      ok = further_some c.args.offers c.args.self.now c.enter.new.self c.args.export.now c.enter.new.export c.args.bytes.now all c.seen_in-seen.result (c.used.result - c.len-before.result) c.take_heard-all.ensures.shows
          c.requires.some joined c.in_default.not-Nothing said c.seen_in-seen.ensures.there c.in-Ok.ensures.none does n;
      err = tt;
    }
