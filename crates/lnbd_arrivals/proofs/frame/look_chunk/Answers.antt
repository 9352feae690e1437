use Rattle.std.proofs.Common.{◌≡◌, ◌∙◌, ℕ, ◌+◌, Some, length, drop, ap, refl, arith}
use Rattle.std.specs.Option.{option_map}
use Rattle.lnbd_records.specs.Numbers.{number_at}
use Rattle.lnbd_structured.specs.Waiting.{seen_waiting}
use Rattle.lnbd_structured.specs.Assembly.{head_of}
use Rattle.lnbd_arrivals.specs.Frames.{is_extended}
use Rattle.lnbd_arrivals.specs.Heads.{head_size}
use Rattle.lnbd_arrivals.proofs.Frames.{begins_at, judged_by, chunk_unknown, chunk_broken, chunk_nothing, chunk_whole}
use Rattle.lnbd_arrivals.proofs.Fronts.{begun, chunk_tells, chunk_waits}
use Rattle.lnbd_arrivals.proofs.frame.look_chunk.Goals as goal

pub returns-in-None : goal.returns-in-None
returns-in-None c waited e = chunk_unknown c.args.replies waited c.args.bytes.now c.args.head.now c.requires.agreed c.requires.head (e ∙ ap (option_map seen_waiting) c.in-None.is)

pub returns-in-Some-breach_shown : goal.returns-in-Some-breach_shown
returns-in-Some-breach_shown c waited e =
    let part : c.split_at.result.1.now ≡ drop (head_size (is_extended c.args.replies)) c.args.bytes.now =
    begins_at c.is_extended-extended.result (is_extended c.args.replies) c.head_size.result c.split_at.result.1.now c.args.bytes.now c.is_extended-extended.ensures c.head_size.ensures c.split_at.ensures.back in
    let judged = judged_by c.is_extended-extended.result (is_extended c.args.replies) (seen_waiting c.in-Some.command) (seen_waiting c.in-Some.command) (head_of c.args.head.now) c.split_at.result.1.now
    (drop (head_size (is_extended c.args.replies)) c.args.bytes.now) c.breach_shown.result c.breach_shown.ensures c.is_extended-extended.ensures refl part in
    let waits : waited (number_at 8 8 c.args.bytes.now) ≡ Some (seen_waiting c.in-Some.command) = e ∙ ap (option_map seen_waiting) c.in-Some.is in
    chunk_broken c.args.replies waited c.args.bytes.now c.args.head.now c.requires.agreed c.requires.head (seen_waiting c.in-Some.command) waits c.in-Some-breach_shown.breach (judged ∙ c.in-Some-breach_shown.is)

-- Not all of the payload is there: what shows, and what the front announces.
pub returns-in-Some-data_begun : goal.returns-in-Some-data_begun
returns-in-Some-data_begun c waited e =
    let part : c.split_at.result.1.now ≡ drop (head_size (is_extended c.args.replies)) c.args.bytes.now =
    begins_at c.is_extended-extended.result (is_extended c.args.replies) c.head_size.result c.split_at.result.1.now c.args.bytes.now c.is_extended-extended.ensures c.head_size.ensures c.split_at.ensures.back in
    let judged = judged_by c.is_extended-extended.result (is_extended c.args.replies) (seen_waiting c.in-Some.command) (seen_waiting c.in-Some.command) (head_of c.args.head.now) c.split_at.result.1.now
    (drop (head_size (is_extended c.args.replies)) c.args.bytes.now) c.breach_shown.result c.breach_shown.ensures c.is_extended-extended.ensures refl part in
    let waits : waited (number_at 8 8 c.args.bytes.now) ≡ Some (seen_waiting c.in-Some.command) = e ∙ ap (option_map seen_waiting) c.in-Some.is in
    let fair = judged ∙ c.in_default.is in
    begun c.args.replies waited c.args.bytes.now c.in-Some-data_begun.announced
    (chunk_nothing c.args.replies waited c.args.bytes.now c.args.head.now c.requires.agreed c.requires.head (seen_waiting c.in-Some.command) waits fair (omega (arith, ap length part, c.if-payload-head.true)))
    (chunk_tells c.args.replies waited c.args.bytes.now c.args.head.now c.requires.agreed c.requires.head (seen_waiting c.in-Some.command) waits fair c.split_at.result.1.now c.in-Some-data_begun.announced part c.in-Some-data_begun.ensures.some)

pub returns-in-None-data_begun : goal.returns-in-None-data_begun
returns-in-None-data_begun c waited e =
    let part : c.split_at.result.1.now ≡ drop (head_size (is_extended c.args.replies)) c.args.bytes.now =
    begins_at c.is_extended-extended.result (is_extended c.args.replies) c.head_size.result c.split_at.result.1.now c.args.bytes.now c.is_extended-extended.ensures c.head_size.ensures c.split_at.ensures.back in
    let judged = judged_by c.is_extended-extended.result (is_extended c.args.replies) (seen_waiting c.in-Some.command) (seen_waiting c.in-Some.command) (head_of c.args.head.now) c.split_at.result.1.now
    (drop (head_size (is_extended c.args.replies)) c.args.bytes.now) c.breach_shown.result c.breach_shown.ensures c.is_extended-extended.ensures refl part in
    let waits : waited (number_at 8 8 c.args.bytes.now) ≡ Some (seen_waiting c.in-Some.command) = e ∙ ap (option_map seen_waiting) c.in-Some.is in
    let fair = judged ∙ c.in_default.is in (
      chunk_nothing c.args.replies waited c.args.bytes.now c.args.head.now c.requires.agreed c.requires.head (seen_waiting c.in-Some.command) waits fair (omega (arith, ap length part, c.if-payload-head.true)),
      chunk_waits c.args.replies waited c.args.bytes.now c.args.head.now c.requires.agreed c.requires.head (seen_waiting c.in-Some.command) waits fair c.split_at.result.1.now part c.in-None-data_begun.ensures.none,
    )

pub returns-else-payload-head : goal.returns-else-payload-head
returns-else-payload-head c waited e =
    let part : c.split_at.result.1.now ≡ drop (head_size (is_extended c.args.replies)) c.args.bytes.now =
    begins_at c.is_extended-extended.result (is_extended c.args.replies) c.head_size.result c.split_at.result.1.now c.args.bytes.now c.is_extended-extended.ensures c.head_size.ensures c.split_at.ensures.back in
    let judged = judged_by c.is_extended-extended.result (is_extended c.args.replies) (seen_waiting c.in-Some.command) (seen_waiting c.in-Some.command) (head_of c.args.head.now) c.split_at.result.1.now
    (drop (head_size (is_extended c.args.replies)) c.args.bytes.now) c.breach_shown.result c.breach_shown.ensures c.is_extended-extended.ensures refl part in
    let waits : waited (number_at 8 8 c.args.bytes.now) ≡ Some (seen_waiting c.in-Some.command) = e ∙ ap (option_map seen_waiting) c.in-Some.is in
    chunk_whole c.args.replies waited c.args.bytes.now c.args.head.now c.requires.agreed c.requires.head (seen_waiting c.in-Some.command) waits (judged ∙ c.in_default.is)
    (record { extended = c.is_extended-extended.result; head = c.args.head.now; size = c.head_size-in-Some.result + c.args.head.now.length }) c.is_extended-extended.ensures refl
    (ap (λ (k : ℕ). k + c.args.head.now.length) (c.head_size-in-Some.ensures ∙ ap head_size c.is_extended-extended.ensures)) (omega (arith, ap length part, c.if-payload-head.false))
