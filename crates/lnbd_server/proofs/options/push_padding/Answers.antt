use Rattle.std.proofs.Common.{ℕ, ◌++◌, Bool, replicate, sym, ap, ◌∙◌, append-nil}
use Rattle.lnbd_records.specs.Handshake.{padding}
use Rattle.lnbd_server.proofs.options.push_padding.Goals as goal

pub returns-then-no_zeroes : goal.returns-then-no_zeroes
returns-then-no_zeroes c = sym (append-nil c.args.bytes.now.items) ∙ ap (λ (b : Bool). c.args.bytes.now.items ++ replicate {A = ℕ} (padding b) 0) (sym c.if-no_zeroes.true)

pub returns : goal.returns
returns c = c.in_ok-extend_from_slice.ensures.items ∙ ap (λ (b : Bool). c.args.bytes.now.items ++ replicate {A = ℕ} (padding b) 0) (sym c.if-no_zeroes.false)
