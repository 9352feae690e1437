use Rattle.std.proofs.Common.{◌<◌, ◌≡◌, Bool, true, false, [], take, sym, ap, subst, ◌∙◌, arith}
use Rattle.lnbd_arrivals.specs.Heads.{head_size}
use Rattle.lnbd_arrivals.specs.Payloads.{told_in}
use Rattle.lnbd_handle.specs.Runs.{Runs}
use Rattle.lnbd_handle.specs.Seen.{IsSound, machine_of}
use Rattle.lnbd_handle.specs.Turns.{arriving}
use Rattle.lnbd_handle.proofs.QueuedLemmas.{KeepsUnwritten, kept_sound}
use Rattle.lnbd_handle.proofs.TurnLemmas.{turn_chunk}
use Rattle.lnbd_handle.proofs.turns.turn_chunk.Given.{Over}
use Rattle.lnbd_handle.proofs.turns.turn_chunk.Goals as goal

some_head : (extended : Bool) → 0 < head_size extended
some_head true = omega arith
some_head false = omega arith

-- The chunk is filed, and no command more is issued.
filed : (g : Over) (c : goal.After-drop-entries g) →
    Runs g.K.Caller.steps (arriving (take c.args.chunk.now.size c.args.rest.now)) (machine_of c.args.connection.now []) (machine_of (record c.args.connection.now { commands = c.chunk.new.self }) []) c.args.world.now c.chunk.new.world
    × (c.chunk.new.self.issued ≡ c.args.connection.now.commands.issued) × KeepsUnwritten c.args.connection.now.written c.args.connection.now.commands c.chunk.new.self
filed g c =
    let told = c.told-told.ensures ∙ ap (told_in c.args.chunk.now) c.payload-payload.ensures in
    turn_chunk g.K.Caller.steps c.args.connection.now c.args.replies c.chunk.new.self c.args.world.now c.chunk.new.world c.args.rest.now c.args.chunk.now c.requires.speaking c.requires.ready c.requires.agreed c.requires.sound c.requires.whole
    (rw (← c.contexts.ensures, ← c.cookie.ensures, ← told, ← c.is_last.ensures) c.in-Ok-chunk.ensures.ok)

pub returns-in-Ok-chunk-clause-means : goal.returns-in-Ok-chunk-clause-means
returns-in-Ok-chunk-clause-means g c = (omega (arith, c.requires.whole.sized, some_head c.args.chunk.now.extended), c.requires.whole.there, (filed g c).0)

pub returns-in-Ok-chunk-clause-sound : goal.returns-in-Ok-chunk-clause-sound
returns-in-Ok-chunk-clause-sound g c = kept_sound c.args.connection.now c.chunk.new.self (filed g c).2 (filed g c).1 c.requires.sound

-- Where memory ran out nothing has changed but how much is reserved.
pub returns-clause-sound : goal.returns-clause-sound
returns-clause-sound g c =
    let old = c.args.connection.now in
    let s = c.requires.sound in
    subst (λ commands. IsSound (record old { commands = commands })) (sym c.in-Err.ensures.err) (record { fits = s.fits; ahead = s.ahead; stands = s.stands; counted = s.counted })
