use Rattle.std.proofs.Common.{◌&&◌, refl}
use Rattle.std.proofs.lemmas.Result.{err_from_is_err_and}
use Rattle.lnbd_records.specs.Told as told
use Rattle.lnbd_records.specs.Replies.{is_text}
use Rattle.lnbd_options.proofs.TextLemmas.{unread, and_false}
use Rattle.lnbd_options.proofs.reply.listed.Goals as goal

pub returns-in_err-name : goal.returns-in_err-name
returns-in_err-name c =
    let p = err_from_is_err_and c.from_residual.result c.from_residual.ensures.1 in
    rw (p.1, p.2) (unread told.Server _ (told.Server (record { name = c.args.name.now; description = c.args.description.now })) (is_text c.args.name.now && is_text c.args.description.now) c.args.name.now c.in_err-name.field-0.0 refl (λ no. rw no refl) c.in_err-name.ensures)

pub returns-in_err-description : goal.returns-in_err-description
returns-in_err-description c =
    let p = err_from_is_err_and c.from_residual-in_err-description.result c.from_residual-in_err-description.ensures.1 in
    rw (p.1, p.2) (unread told.Server _ (told.Server (record { name = c.args.name.now; description = c.args.description.now })) (is_text c.args.name.now && is_text c.args.description.now) c.args.description.now c.in_err-description.field-0.0 refl (λ no. rw no (and_false (is_text c.args.name.now))) c.in_err-description.ensures)
