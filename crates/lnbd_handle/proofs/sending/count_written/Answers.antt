use Rattle.std.proofs.Common.{◌≡◌, ℕ, Bool, ◌+◌, sym, ap, subst, ◌∙◌, arith, add-zero}
use Rattle.lnbd_history.specs.Outgoing.{one_if, wrote, ended}
use Rattle.lnbd_outgoing.specs.Queue.{waits, left_after}
use Rattle.lnbd_handle.specs.Seen.{AreAhead, writes_in, flies_in, waits_in, ends_in, state_of, Stands}
use Rattle.lnbd_handle.proofs.QueuedLemmas.{ahead_after}
use Rattle.lnbd_handle.proofs.SendLemmas.{ends_wrote}
use Rattle.lnbd_handle.proofs.sending.count_written.Goals as goal

pub overflow_add-connection : goal.overflow_add-connection
overflow_add-connection g c =
    let parts = waits_in c.args.connection.now in
    let one : ended parts c.args.n ≡ 1 = sym (c.wrote.ensures.ends (writes_in c.args.connection.now.commands) c.requires.sound.fits) ∙ ap one_if c.if-wrote.true in
    omega (arith, one, ends_wrote parts c.args.n, c.requires.sound.counted, c.issued-issued.ensures, c.issued-issued.type_inv)

pub returns-then-wrote-clause-state : goal.returns-then-wrote-clause-state
returns-then-wrote-clause-state g c =
    let old = c.args.connection.now in
    let parts = waits_in old in
    let one : ended parts c.args.n ≡ 1 = sym (c.wrote.ensures.ends (writes_in c.args.connection.now.commands) c.requires.sound.fits) ∙ ap one_if c.if-wrote.true in
    ap (λ w. record (state_of old) { waits = w; written = old.written + 1 }) (c.wrote.ensures.waits (writes_in c.args.connection.now.commands) c.requires.sound.fits)
    ∙ ap (λ (k : ℕ). record (state_of old) { waits = wrote parts c.args.n; written = old.written + k }) (sym one)

pub returns-then-wrote-clause-sound : goal.returns-then-wrote-clause-sound
returns-then-wrote-clause-sound g c =
    let old = c.args.connection.now in
    let parts = waits_in old in
    let one : ended parts c.args.n ≡ 1 = sym (c.wrote.ensures.ends (writes_in c.args.connection.now.commands) c.requires.sound.fits) ∙ ap one_if c.if-wrote.true in
    let now : ends_in (waits (writes_in c.args.connection.now.commands) c.wrote.new.self) ≡ ends_in (wrote parts c.args.n) = ap ends_in (c.wrote.ensures.waits (writes_in c.args.connection.now.commands) c.requires.sound.fits) in
    record {
      fits = c.wrote.ensures.fit (writes_in c.args.connection.now.commands) c.requires.sound.fits;
      ahead = subst (λ ps. AreAhead (flies_in old.commands) (old.written + 1) ps) (sym c.wrote.ensures.pieces) (subst (λ (b : Bool). AreAhead (flies_in old.commands) (old.written + one_if b) (left_after c.args.n old.queue.cursor old.queue.pieces)) (sym c.wrote.ensures.last ∙ c.if-wrote.true) (ahead_after (flies_in old.commands) old.written c.args.n old.queue.cursor old.queue.pieces c.requires.sound.ahead));
      stands = subst (λ e. Stands old.stage old.talk.phase e) (sym c.wrote.ensures.ended) c.requires.sound.stands;
      counted = omega (arith, one, now, ends_wrote parts c.args.n, c.requires.sound.counted);
    }

pub returns-else-wrote-clause-state : goal.returns-else-wrote-clause-state
returns-else-wrote-clause-state g c =
    let old = c.args.connection.now in
    let parts = waits_in old in
    let none : ended parts c.args.n ≡ 0 = sym (c.wrote.ensures.ends (writes_in c.args.connection.now.commands) c.requires.sound.fits) ∙ ap one_if c.if-wrote.false in
    ap (λ w. record (state_of old) { waits = w }) (c.wrote.ensures.waits (writes_in c.args.connection.now.commands) c.requires.sound.fits)
    ∙ ap (λ (k : ℕ). record (state_of old) { waits = wrote parts c.args.n; written = k }) (sym (add-zero old.written))
    ∙ ap (λ (k : ℕ). record (state_of old) { waits = wrote parts c.args.n; written = old.written + k }) (sym none)

pub returns-else-wrote-clause-sound : goal.returns-else-wrote-clause-sound
returns-else-wrote-clause-sound g c =
    let old = c.args.connection.now in
    let parts = waits_in old in
    let now : ends_in (waits (writes_in c.args.connection.now.commands) c.wrote.new.self) ≡ ends_in (wrote parts c.args.n) = ap ends_in (c.wrote.ensures.waits (writes_in c.args.connection.now.commands) c.requires.sound.fits) in
    record {
      fits = c.wrote.ensures.fit (writes_in c.args.connection.now.commands) c.requires.sound.fits;
      ahead = subst (λ ps. AreAhead (flies_in old.commands) old.written ps) (sym c.wrote.ensures.pieces) (subst (λ (k : ℕ). AreAhead (flies_in old.commands) k (left_after c.args.n old.queue.cursor old.queue.pieces)) (add-zero old.written) (subst (λ (b : Bool). AreAhead (flies_in old.commands) (old.written + one_if b) (left_after c.args.n old.queue.cursor old.queue.pieces)) (sym c.wrote.ensures.last ∙ c.if-wrote.false) (ahead_after (flies_in old.commands) old.written c.args.n old.queue.cursor old.queue.pieces c.requires.sound.ahead)));
      stands = subst (λ e. Stands old.stage old.talk.phase e) (sym c.wrote.ensures.ended) c.requires.sound.stands;
      counted = omega (arith, now, ends_wrote parts c.args.n, c.requires.sound.counted);
    }
