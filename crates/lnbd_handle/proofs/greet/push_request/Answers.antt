use Rattle.std.proofs.Common.{◌≡◌, ◌==◌, ◌++◌, ◌∷◌, [], length, vec_len, sym, ap, subst, ◌∙◌, arith, append-nil, add-zero}
use Rattle.std.proofs.lemmas.Bool.{false≢true}
use Rattle.lnbd_history.specs.Outgoing.{plain}
use Rattle.lnbd_outgoing.specs.declared.piece.Piece.TheVariants.{Text}
use Rattle.lnbd_outgoing.specs.Queue.{waits}
use Rattle.lnbd_handle.specs.Seen.{AreAhead, ends_in}
use Rattle.lnbd_handle.proofs.GreetLemmas.{ends_append, one_request, no_request, no_items}
use Rattle.lnbd_handle.proofs.QueuedLemmas.{ahead_push}
use Rattle.lnbd_handle.proofs.greet.push_request.Goals as goal

some : (c : goal.After-push) → c.args.request.items ≡ [] → ⊥
some c e = let n : vec_len c.args.request ≡ 0 = c.args.request.ok.0 ∙ ap length e in false≢true (c.if-not-is_empty.ensures ∙ ap (λ k. k == 0) n)

pub returns-then-not-is_empty-clause-waits : goal.returns-then-not-is_empty-clause-waits
returns-then-not-is_empty-clause-waits c writes at name wanted e =
    let old = waits writes c.args.queue.now in
    c.push.ensures.waits writes ∙ ap (λ b. old ++ plain b ∷ []) c.from_vec.ensures ∙ ap (λ ps. old ++ ps) (sym (one_request at name wanted c.args.request.items (some c) e))

pub returns-then-not-is_empty-clause-fits : goal.returns-then-not-is_empty-clause-fits
returns-then-not-is_empty-clause-fits c writes = c.push.ensures.fits writes tt

pub returns-then-not-is_empty-clause-ahead : goal.returns-then-not-is_empty-clause-ahead
returns-then-not-is_empty-clause-ahead c flies written all =
    subst (λ q. AreAhead flies written q.pieces) (sym c.push.ensures.queued) (ahead_push flies written c.args.queue.now.pieces (Text c.from_vec.result) all tt)

pub returns-then-not-is_empty-clause-ends : goal.returns-then-not-is_empty-clause-ends
returns-then-not-is_empty-clause-ends c writes =
    ap ends_in (c.push.ensures.waits writes) ∙ ends_append (waits writes c.args.queue.now) (plain c.from_vec.result) ∙ add-zero (ends_in (waits writes c.args.queue.now))

pub returns-else-not-is_empty-clause-waits : goal.returns-else-not-is_empty-clause-waits
returns-else-not-is_empty-clause-waits c writes at name wanted e =
    let old = waits writes c.args.queue.now in
    let zero : vec_len c.args.request ≡ 0 = grind (arith, c.if-not-is_empty.ensures) in
    let none : c.args.request.items ≡ [] = no_items c.args.request.items (sym c.args.request.ok.0 ∙ zero) in
    sym (ap (λ ps. old ++ ps) (no_request at name wanted (sym none ∙ e)) ∙ append-nil old)
