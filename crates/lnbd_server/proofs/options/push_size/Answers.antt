use Rattle.std.proofs.Common.{◌≡◌, ℕ, List, [], ◌∷◌, ◌++◌, length, subst, ap, ◌∙◌, append-nil, arith}
use Rattle.std.specs.Prelude.{OnOk}
use Rattle.lnbd_records.specs.Numbers.{number, row}
use Rattle.lnbd_records.proofs.NumberLaws.{length-row}
use Rattle.lnbd_options.proofs.PutLemmas.{more}
use Rattle.lnbd_server.specs.Options.{put_reply}
use Rattle.lnbd_server.proofs.options.push_size.Goals as goal

pub push_reply-requires : goal.push_reply-requires
push_reply-requires c =
    let body : c.deref.result.now ≡ row (number 2 0 ∷ number 8 c.args.size ∷ number 2 c.args.flags ∷ []) =
    c.deref.ensures.value
    ∙ more _ _ _ (number 2 0 ∷ number 8 c.args.size ∷ []) (number 2 c.args.flags) (more _ _ _ (number 2 0 ∷ []) (number 8 c.args.size) c.in_ok-push_u16.ensures.ok c.in_ok-push_u64.ensures.ok) c.in_ok-push_u16-2.ensures.ok
    ∙ ap (λ (xs : List ℕ). xs ++ row (number 2 0 ∷ number 8 c.args.size ∷ number 2 c.args.flags ∷ [])) c.new-body.ensures.items in
    let size : length c.deref.result.now ≡ 12 = ap (λ (xs : List ℕ). length xs) body ∙ length-row (number 2 0 ∷ number 8 c.args.size ∷ number 2 c.args.flags ∷ []) in
    omega arith

pub returns : goal.returns
returns c = subst (λ (body : List ℕ). OnOk c.push_reply.result (c.push_reply.new.out.items ≡ c.args.bytes.now.items ++ put_reply c.args.option (record { type = 3; body = body })))
    (append-nil c.deref.result.now ∙ c.deref.ensures.value
    ∙ more _ _ _ (number 2 0 ∷ number 8 c.args.size ∷ []) (number 2 c.args.flags) (more _ _ _ (number 2 0 ∷ []) (number 8 c.args.size) c.in_ok-push_u16.ensures.ok c.in_ok-push_u64.ensures.ok) c.in_ok-push_u16-2.ensures.ok
    ∙ ap (λ (xs : List ℕ). xs ++ row (number 2 0 ∷ number 8 c.args.size ∷ number 2 c.args.flags ∷ [])) c.new-body.ensures.items)
    c.push_reply.ensures
