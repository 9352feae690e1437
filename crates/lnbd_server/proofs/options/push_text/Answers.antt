use Rattle.std.proofs.Common.{◌≡◌, ℕ, List, ◌++◌, Bool, sym, subst, ap, ◌∙◌, append-nil}
use Rattle.std.specs.Prelude.{OnOk}
use Rattle.lnbd_server.specs.Options.{put_reply, put_replies, told_if, text_told}
use Rattle.lnbd_server.proofs.options.push_text.Goals as goal

pub returns-then-asked : goal.returns-then-asked
returns-then-asked c = subst (λ (xs : List ℕ). OnOk c.push_told.result (c.push_told.new.bytes.items ≡ c.args.bytes.now.items ++ xs))
    (sym (append-nil (put_reply c.args.option (text_told c.args.kind c.args.text.now))) ∙ ap (λ (b : Bool). put_replies c.args.option (told_if b c.args.kind c.args.text.now)) (sym c.if-asked.true)) c.push_told.ensures

pub returns : goal.returns
returns c = sym (append-nil c.args.bytes.now.items) ∙ ap (λ (b : Bool). c.args.bytes.now.items ++ put_replies c.args.option (told_if b c.args.kind c.args.text.now)) (sym c.if-asked.false)
