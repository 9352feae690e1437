use Rattle.std.proofs.Common.{◌≡◌, ℕ, ◌+◌, ◌-◌, take, drop, ap, ◌∙◌, arith}
use Rattle.std.proofs.lemmas.Result.{err_from_is_err_and}
use Rattle.lnbd_records.specs.Numbers.{number_at}
use Rattle.lnbd_records.specs.Requests.{texts_in}
use Rattle.lnbd_options.proofs.AskedLemmas.{first_text, begin_texts, more_texts, bad_text, end_texts}
use Rattle.lnbd_options.proofs.asked.texts.Goals as goal

pub loop-index-init : goal.loop-index-init
loop-index-init c = begin_texts c.args.count (c.args.count - 0) c.args.bytes.now c.new-list.result (omega arith) c.new-list.ensures c.requires

pub loop-index-preserved : goal.loop-index-preserved
loop-index-preserved c =
    let rest = c.loop-index.rest.now in
    let size = c.u32_at-size.ensures in
    let part : c.in_ok-one.one ≡ take (number_at 0 4 rest) (drop 4 rest) =
    c.in_ok-one.ensures.0 ∙ c.split_at-in-loop-index-2.ensures.front ∙ ap (λ (k : ℕ). take k c.split_at-in-loop-index.result.1.now) size ∙ ap (take (number_at 0 4 rest)) c.split_at-in-loop-index.ensures.back in
    let behind : c.split_at.result.1.now ≡ drop (4 + number_at 0 4 rest) rest = c.split_at.ensures.back ∙ ap (λ (k : ℕ). drop (4 + k) rest) size in
    let good = ap Rattle.lnbd_records.specs.Replies.is_text c.in_ok-one.ensures.0 ∙ c.in_ok-one.ensures.1 in
    more_texts (texts_in c.args.count c.args.bytes.now) c.loop-index.list c.push.new.self (c.args.count - c.loop-index._index) (c.args.count - (c.loop-index._index + 1)) rest c.in_ok-one.one c.split_at.result.1.now (omega arith) c.loop-index.invariant part behind good c.in_ok-push.ensures.ok

pub returns-in_err-one : goal.returns-in_err-one
returns-in_err-one c =
    let rest = c.loop-index.rest.now in
    let size = c.u32_at-size.ensures in
    let part : c.split_at-in-loop-index-2.result.0.now ≡ take (number_at 0 4 rest) (drop 4 rest) =
    c.split_at-in-loop-index-2.ensures.front ∙ ap (λ (k : ℕ). take k c.split_at-in-loop-index.result.1.now) size ∙ ap (take (number_at 0 4 rest)) c.split_at-in-loop-index.ensures.back in
    let p = err_from_is_err_and c.from_residual.result c.from_residual.ensures.1 in
    rw (p.1, p.2) (bad_text (texts_in c.args.count c.args.bytes.now) c.loop-index.list (c.args.count - c.loop-index._index) (c.args.count - (c.loop-index._index + 1)) rest c.split_at-in-loop-index-2.result.0.now c.in_err-one.field-0.0 (omega arith) c.loop-index.invariant part c.in_err-one.ensures)

pub returns : goal.returns
returns c = end_texts (texts_in c.args.count c.args.bytes.now) c.loop-index.list (c.args.count - c.loop-index._index) c.loop-index.rest.now (omega arith) c.loop-index.invariant

pub u32_at-size-requires : goal.u32_at-size-requires
u32_at-size-requires c = (first_text (c.args.count - c.loop-index._index) (c.args.count - (c.loop-index._index + 1)) c.loop-index.rest.now (omega arith) c.loop-index.invariant.whole).four

pub split_at-requires : goal.split_at-requires
split_at-requires c =
    let long = (first_text (c.args.count - c.loop-index._index) (c.args.count - (c.loop-index._index + 1)) c.loop-index.rest.now (omega arith) c.loop-index.invariant.whole).long in
    let size = c.u32_at-size.ensures in
    omega (arith, long, size)
