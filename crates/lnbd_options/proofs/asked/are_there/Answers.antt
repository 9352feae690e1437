use Rattle.std.proofs.Common.{◌≡◌, ℕ, ◌+◌, ◌-◌, List, drop, length, is_some, ◌==◌, ap, sym, ◌∙◌, arith}
use Rattle.lnbd_records.specs.Numbers.{number_at}
use Rattle.lnbd_records.specs.Requests.{texts_in}
use Rattle.lnbd_options.proofs.AskedLemmas.{next_there, too_few, too_short, no_texts}
use Rattle.lnbd_options.proofs.asked.are_there.Goals as goal

pub loop-index-init : goal.loop-index-init
loop-index-init c =
    let e : c.args.count ≡ c.args.count - 0 = omega arith in
    ap (λ (n : ℕ). is_some (texts_in n c.args.bytes.now)) e

pub loop-index-preserved : goal.loop-index-preserved
loop-index-preserved c =
    let rest = c.loop-index.rest.now in
    let m = c.args.count - (c.loop-index._index + 1) in
    let behind : drop (4 + number_at 0 4 rest) rest ≡ c.split_at.result.1.now = ap (λ (k : ℕ). drop (4 + k) rest) (sym c.u32_at-size.ensures) ∙ sym c.split_at.ensures.back in
    let size = c.u32_at-size.ensures in
    c.loop-index.invariant ∙ next_there (c.args.count - c.loop-index._index) m rest (omega arith) c.if-rest-lt4.false (omega (arith, size, c.if-rest-lt4.false, c.if-rest-size.false)) ∙ ap (λ (t : List ℕ). is_some (texts_in m t)) behind

pub returns-then-rest-lt4 : goal.returns-then-rest-lt4
returns-then-rest-lt4 c = sym (c.loop-index.invariant ∙ too_few (c.args.count - c.loop-index._index) (c.args.count - (c.loop-index._index + 1)) c.loop-index.rest.now (omega arith) c.if-rest-lt4.true)

pub returns-then-rest-size : goal.returns-then-rest-size
returns-then-rest-size c =
    let size = c.u32_at-size.ensures in
    sym (c.loop-index.invariant ∙ too_short (c.args.count - c.loop-index._index) (c.args.count - (c.loop-index._index + 1)) c.loop-index.rest.now (omega arith) c.if-rest-lt4.false (omega (arith, size, c.if-rest-size.true)))

pub returns : goal.returns
returns c =
    let all : is_some (texts_in c.args.count c.args.bytes.now) ≡ (length c.loop-index.rest.now == 0) = c.loop-index.invariant ∙ no_texts (c.args.count - c.loop-index._index) c.loop-index.rest.now (omega arith) in
    c.is_empty.ensures ∙ sym all
