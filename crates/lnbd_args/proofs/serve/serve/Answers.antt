use Rattle.std.proofs.Common.{[], ◌∷◌, Err, ap, codes, map, string_bytes, refl, sym, subst}
use Rattle.lnbd_args.specs.Tools.{IsSplit, serve}
use Rattle.lnbd_args.proofs.ServeLemmas.{not_given, not_hosted, not_short, reads_of}
use Rattle.lnbd_args.proofs.ToolLemmas.{first_misplaced, handed_on, only_serve}
use Rattle.lnbd_args.proofs.serve.serve.Goals as goal

pub returns-in_default-clause-usage : goal.returns-in_default-clause-usage
returns-in_default-clause-usage c = λ is wanted reads.
    only_serve (map string_bytes c.args.words.now) wanted reads (λ content read_only sessions address run h. c.in_default.ensures h.own run h.split)

pub returns-in_err-content-clause-usage : goal.returns-in_err-content-clause-usage
returns-in_err-content-clause-usage c = λ is.
    not_hosted (map string_bytes c.args.words.now) _ _ c.in-Some.ensures (c.in_err-content.ensures.usage (ap Err (handed_on c.from_residual.result _ _ c.from_residual.ensures.1 is)))

pub returns-in_err-run-clause-usage : goal.returns-in_err-run-clause-usage
returns-in_err-run-clause-usage c = λ is.
    not_short (map string_bytes c.args.words.now) _ _ c.in-Some.ensures
    (c.in_err-run.ensures.usage (ap Err (handed_on c.from_residual-in_err-run.result _ _ c.from_residual-in_err-run.ensures.1 is)))

pub returns-in_err-uri-clause-usage : goal.returns-in_err-uri-clause-usage
returns-in_err-uri-clause-usage c = λ is.
    let ws = map string_bytes c.args.words.now in
    let split = subst (IsSplit ws (map string_bytes c.in-Some.own.now)) (sym c.in_ok-run.ensures.texts) c.in-Some.ensures in
    not_given ws _ _ _ _ _ _ split c.in_ok-content.ensures.hosts
    (c.in_err-uri.ensures.usage (ap Err (handed_on c.from_residual-in_err-uri.result _ _ c.from_residual-in_err-uri.ensures.1 is)))

pub returns-in_err-place-clause-address : goal.returns-in_err-place-clause-address
returns-in_err-place-clause-address c fault is =
    let ws = map string_bytes c.args.words.now in
    let reads = reads_of ws _ _ _ _ _ _ _ c.in-Some.ensures c.in_ok-run.ensures.short c.in_ok-run.ensures.texts c.in_ok-uri.ensures.short c.in_ok-content.ensures.hosts in
    first_misplaced (codes "serve" ∷ ws) (serve c.in_ok-content.content c.in_ok-content.read_only c.in_ok-content.sessions c.in_ok-content.address.now c.in_ok-run.run')
    c.in_ok-content.address.now [] c.in_err-place.field-0.0 fault
    reads refl c.in_err-place.ensures.fault (handed_on c.from_residual-in_err-place.result _ _ c.from_residual-in_err-place.ensures.1 is)

pub returns-clause-asked : goal.returns-clause-asked
returns-clause-asked c =
    let ws = map string_bytes c.args.words.now in (
      c.in_ok-content.address.now,
      reads_of ws _ _ _ _ _ _ _ c.in-Some.ensures c.in_ok-run.ensures.short c.in_ok-run.ensures.texts c.in_ok-uri.ensures.short c.in_ok-content.ensures.hosts,
      c.in_ok-place.ensures.place,
      c.in_ok-uri.ensures.given,
    )
