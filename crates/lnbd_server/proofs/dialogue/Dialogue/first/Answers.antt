use Rattle.lnbd_server.proofs.Steps.{first_none, first_some, first_count}
use Rattle.lnbd_server.proofs.dialogue.Dialogue.first.Goals as goal

pub returns-in_ok-hold-in-Nothing-clause-ok : goal.returns-in_ok-hold-in-Nothing-clause-ok
returns-in_ok-hold-in-Nothing-clause-ok c =
    first_none c.args.offers c.args.self.now c.hold.new.self c.args.export.now c.args.bytes.now c.requires.none c.in-Nothing.ensures.said c.in_ok-hold-in-Nothing.ensures.ok

pub returns-in_ok-enter-in_default : goal.returns-in_ok-enter-in_default
returns-in_ok-enter-in_default c = record {
  count = first_count c.args.self.now c.args.export.now c.args.bytes.now c.seen_in-seen.result c.used.result c.requires.some c.in_default.not-Nothing
      c.seen_in-seen.ensures.said c.seen_in-seen.ensures.there c.used.ensures;
  ok = first_some c.args.offers c.args.self.now c.enter.new.self c.args.export.now c.enter.new.export c.args.bytes.now c.seen_in-seen.result c.used.result c.requires.none c.in_default.not-Nothing
      c.seen_in-seen.ensures.said c.seen_in-seen.ensures.there c.in_ok-enter-in_default.ensures.none c.in_ok-enter-in_default.ensures.ok c.used.ensures;
  err = tt;
}
