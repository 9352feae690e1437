use Rattle.std.proofs.Common.{◌≡◌, ◌<◌, ◌++◌, List, length, [], take, refl, ap, sym, subst, arith}
use Rattle.std.proofs.lemmas.List.{length-take}
use Rattle.lnbd_keyed.specs.Keyed.{value_at}
use Rattle.lnbd_model.specs.declared.export.Context.{Context as MetaContext}
use Rattle.lnbd_arrivals.specs.Frames.{front_size}
use Rattle.lnbd_handle.specs.declared.pending.Pending.{Pending}
use Rattle.lnbd_handle.specs.Announcing.{announced_at, replies_in}
use Rattle.lnbd_handle.specs.Filing.{MayFile, TakesData}
use Rattle.lnbd_commands.specs.Commands.{waiting_at}
use Rattle.lnbd_handle.specs.Held.{data_in, held_in}
use Rattle.lnbd_handle.specs.Room.{KeepsFrontAt}
use Rattle.lnbd_handle.specs.Runs.{Runs}
use Rattle.lnbd_handle.specs.Seen.{IsSound, machine_of, state_of}
use Rattle.lnbd_handle.specs.Turns.{arriving, ShowsNothing}
use Rattle.lnbd_handle.proofs.AnnouncedLemmas.{said_data, said_empty, said_same}
use Rattle.lnbd_handle.proofs.CalmLemmas.{first_none}
use Rattle.lnbd_handle.proofs.HeadLemmas.{data_shown, data_held, data_filed, may_file_data, not_chunk}
use Rattle.lnbd_handle.proofs.PlaceLemmas.{brings_front, size_fits}
use Rattle.lnbd_handle.proofs.QueuedLemmas.{KeepsUnwritten, kept_sound}
use Rattle.lnbd_handle.proofs.pieces.hold_content.Given.{Over}
use Rattle.lnbd_handle.proofs.pieces.hold_content.Goals as goal

pub returns-then-pending-announced-clause-means : goal.returns-then-pending-announced-clause-means
returns-then-pending-announced-clause-means g c =
    let old = c.args.connection.now in
    let head = c.args.pending.now.head.items in
    let content = data_in c.args.pending.now in
    let front = c.args.front.now in
    let got = data_in c.put.new.self in
    let short : length got < c.args.announced.size = omega (arith, c.if-pending-announced.true, length-take c.put.new.self.came c.put.new.self.content.items) in
    subst (λ h. Runs g.K.Caller.steps (arriving front) (machine_of old (head ++ content)) (machine_of old (h.items ++ got)) c.args.world.now c.args.world.now × ShowsNothing (state_of old) (h.items ++ got)) (sym c.put.ensures.head) (
      data_held g.K.Caller.steps g.met.K.Caller.empty g.met.K.Caller.append old c.requires.sound head content front got c.args.announced (brings_front c.args.connection.now c.args.pending.now c.requires.partial c.requires.places c.args.announced c.requires.announces) c.requires.partial c.put.ensures.data c.args.world.now short,
      data_shown g.K.Caller.steps g.met.K.Caller.empty g.met.K.Caller.append old c.requires.sound head content front got c.args.announced (brings_front c.args.connection.now c.args.pending.now c.requires.partial c.requires.places c.args.announced c.requires.announces) c.requires.partial c.put.ensures.data short,
    )

pub file_data-filed-requires-clause-may : goal.file_data-filed-requires-clause-may
file_data-filed-requires-clause-may g c =
    let got = data_in c.put.new.self in
    let came : c.put.new.self.came ≡ c.args.announced.size = omega (arith, c.if-pending-announced.false, c.put.ensures.came, c.requires.fits) in
    let long : length got ≡ c.args.announced.size = omega (arith, came, length-take c.put.new.self.came c.put.new.self.content.items, c.put.ensures.kept.within, c.put.new.self.content.ok.0) in
    subst (λ n. MayFile (waiting_at c.args.announced.cookie c.args.connection.now.commands) c.args.announced (take n c.put.new.self.content.items)) came
    (may_file_data c.args.connection.now c.args.pending.now.head.items got c.args.announced (brings_front c.args.connection.now c.args.pending.now c.requires.partial c.requires.places c.args.announced c.requires.announces) long)

-- The reply whose data are there is filed.
filed : (g : Over) (c : goal.After-clear g) →
    Runs g.K.Caller.steps (arriving (take (length c.args.front.now) c.args.front.now)) (machine_of c.args.connection.now (held_in c.args.pending.now)) (machine_of (record c.args.connection.now { commands = c.file_data-filed.new.commands }) []) c.args.world.now c.file_data-filed.new.world
    × (c.file_data-filed.new.commands.issued ≡ c.args.connection.now.commands.issued)
    × KeepsUnwritten c.args.connection.now.written c.args.connection.now.commands c.file_data-filed.new.commands
filed g c =
    let got = data_in c.put.new.self in
    let came : c.put.new.self.came ≡ c.args.announced.size = omega (arith, c.if-pending-announced.false, c.put.ensures.came, c.requires.fits) in
    let long : length got ≡ c.args.announced.size = omega (arith, came, length-take c.put.new.self.came c.put.new.self.content.items, c.put.ensures.kept.within, c.put.new.self.content.ok.0) in
    let told = subst (λ (l : List MetaContext). TakesData l g.K.Caller.steps c.args.announced (take c.args.announced.size c.put.new.self.content.items) c.args.connection.now.commands c.file_data-filed.new.commands c.args.world.now c.file_data-filed.new.world) c.contexts.ensures c.in-Ok.ensures.ok in
    let takes = subst (λ n. TakesData c.args.connection.now.talk.contexts g.K.Caller.steps c.args.announced (take n c.put.new.self.content.items) c.args.connection.now.commands c.file_data-filed.new.commands c.args.world.now c.file_data-filed.new.world) (sym came) told in
    data_filed g.K.Caller.steps g.met.K.Caller.empty g.met.K.Caller.append c.args.connection.now c.requires.sound c.args.pending.now.head.items (data_in c.args.pending.now) c.args.front.now got c.args.announced (brings_front c.args.connection.now c.args.pending.now c.requires.partial c.requires.places c.args.announced c.requires.announces) c.requires.partial c.put.ensures.data c.file_data-filed.new.commands c.args.world.now c.file_data-filed.new.world long takes

pub returns-in-Ok-clause-means : goal.returns-in-Ok-clause-means
returns-in-Ok-clause-means g c = (omega arith, (filed g c).0, c.clear.ensures.empty)

pub returns-in-Ok-clause-sound : goal.returns-in-Ok-clause-sound
returns-in-Ok-clause-sound g c = kept_sound c.args.connection.now c.file_data-filed.new.commands (filed g c).2 (filed g c).1 c.requires.sound

-- Where memory ran out nothing has changed but how much is reserved.
pub returns-in-Err-clause-sound : goal.returns-in-Err-clause-sound
returns-in-Err-clause-sound g c =
    let old = c.args.connection.now in
    let s = c.requires.sound in
    subst (λ commands. IsSound (record old { commands = commands })) (sym c.in-Err.ensures.err) (record { fits = s.fits; ahead = s.ahead; stands = s.stands; counted = s.counted })

pub returns-in-Err-clause-memory : goal.returns-in-Err-clause-memory
returns-in-Err-clause-memory g c calm =
    let quiet = calm (brings_front c.args.connection.now c.args.pending.now c.requires.partial c.requires.places c.args.announced c.requires.announces).speaking in
    let simple = not_chunk c.args.connection.now c.args.pending.now.head.items c.args.announced (brings_front c.args.connection.now c.args.pending.now c.requires.partial c.requires.places c.args.announced c.requires.announces) quiet.0.compact quiet.0.short in
    absurd (first_none (value_at c.args.announced.cookie c.args.connection.now.commands.rows) c.args.connection.now.commands.rows c.args.announced.cookie refl quiet.1 (c.in-Err.ensures.read simple) (c.in-Err.ensures.needed simple))

-- There is room for all that was announced.
pub put-requires-clause-fits : goal.put-requires-clause-fits
put-requires-clause-fits g c =
    let fits = size_fits c.args.connection.now c.args.pending.now c.requires.partial c.requires.places c.args.announced c.requires.announces in
    omega (arith, fits, c.requires.fits)

pub file_data-filed-requires-clause-there : goal.file_data-filed-requires-clause-there
file_data-filed-requires-clause-there g c =
    let fits = size_fits c.args.connection.now c.args.pending.now c.requires.partial c.requires.places c.args.announced c.requires.announces in
    omega (arith, fits, c.put.ensures.room)

-- What is kept of the front.
pub returns-then-pending-announced-clause-said : goal.returns-then-pending-announced-clause-said
returns-then-pending-announced-clause-said g c =
    let state = state_of c.args.connection.now in
    said_data (front_size (replies_in state)) (announced_at state) c.args.pending.now c.put.new.self c.args.announced c.requires.announces c.put.ensures.announced (ap (λ h. h.items) c.put.ensures.head) c.requires.places.said

pub returns-in-Ok-clause-said : goal.returns-in-Ok-clause-said
returns-in-Ok-clause-said g c = said_empty (state_of (record c.args.connection.now { commands = c.file_data-filed.new.commands })) c.clear.new.self c.clear.ensures.kept c.clear.ensures.empty c.clear.ensures.unannounced

pub returns-in-Err-clause-said : goal.returns-in-Err-clause-said
returns-in-Err-clause-said g c =
    let old = c.args.connection.now in
    let state = state_of old in
    let q : Pending = record c.put.new.self { content = c.file_data-filed.new.buffer; came = c.args.pending.now.came } in
    subst (λ commands. KeepsFrontAt (state_of (record old { commands = commands })) q) (sym c.in-Err.ensures.err)
    (said_same (front_size (replies_in state)) (announced_at state) c.args.pending.now q c.put.ensures.announced (ap (λ h. h.items) c.put.ensures.head) refl c.requires.places.said)
