use Rattle.std.proofs.Common.{◌∙◌, ap, sym, arith}
use Rattle.std.specs.Option.{option_map}
use Rattle.lnbd_chunks.specs.Reply.{content_size}
use Rattle.lnbd_structured.specs.Waiting.{seen_waiting}
use Rattle.lnbd_arrivals.specs.declared.announced.Carrier.TheVariants.{Reply}
use Rattle.lnbd_arrivals.proofs.Frames.{simple_unknown, for_read, no_data, whole}
use Rattle.lnbd_arrivals.proofs.Fronts.{begun, simple_says}
use Rattle.lnbd_arrivals.proofs.frame.look_simple.Goals as goal

pub returns-in-None : goal.returns-in-None
returns-in-None c waited e = simple_unknown c.args.replies waited c.args.bytes.now c.requires.compact c.requires.head.there c.requires.head.magic (e ∙ ap (option_map seen_waiting) c.in-None.is)

pub returns-then-wants_chunks : goal.returns-then-wants_chunks
returns-then-wants_chunks c waited e =
    for_read c.args.replies waited c.args.bytes.now c.requires.compact c.requires.head.there c.requires.head.magic (seen_waiting c.in-Some.command) (e ∙ ap (option_map seen_waiting) c.in-Some.is)
    (sym c.wants_chunks.ensures ∙ c.if-wants_chunks.true)

pub returns-then-bytes-size : goal.returns-then-bytes-size
returns-then-bytes-size c waited e =
    let command = seen_waiting c.in-Some.command in
    let waits = e ∙ ap (option_map seen_waiting) c.in-Some.is in
    let lawful = sym c.wants_chunks.ensures ∙ c.if-wants_chunks.false in
    let size = c.content_size-size.result in
    begun c.args.replies waited c.args.bytes.now (record { cookie = c.args.head.now.cookie; offset = command.offset; size = size; carrier = Reply })
    (no_data c.args.replies waited c.args.bytes.now c.requires.compact c.requires.head.there c.requires.head.magic command waits lawful size (c.content_size-size.ensures ∙ ap (content_size command) c.requires.head.error) (omega (arith, c.if-bytes-size.true)))
    (simple_says waited c.args.bytes.now c.requires.head.there c.requires.head.magic command waits c.args.replies c.args.head.now.cookie c.args.head.now.error size c.requires.compact lawful c.requires.head.cookie c.requires.head.error c.content_size-size.ensures
    (omega (arith, c.if-bytes-size.true)))

pub returns-else-bytes-size : goal.returns-else-bytes-size
returns-else-bytes-size c waited e =
    whole c.args.replies waited c.args.bytes.now c.requires.compact c.requires.head.there c.requires.head.magic (seen_waiting c.in-Some.command) (e ∙ ap (option_map seen_waiting) c.in-Some.is)
    (sym c.wants_chunks.ensures ∙ c.if-wants_chunks.false) c.args.head.now.cookie c.args.head.now.error c.content_size-size.result c.requires.head.cookie c.requires.head.error c.content_size-size.ensures
    (omega (arith, c.if-bytes-size.false, c.requires.head.there))
