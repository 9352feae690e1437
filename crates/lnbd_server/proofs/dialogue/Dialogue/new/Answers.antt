use Rattle.std.proofs.Common.{◌≡◌, ℕ, List, [], ◌∷◌, ◌++◌, ◌+◌, false, ap, refl, ◌∙◌}
use Rattle.lnbd_records.specs.Flags.{flag_no_zeroes, flag_fixed_newstyle}
use Rattle.lnbd_records.specs.Handshake.{hello}
use Rattle.lnbd_records.specs.Numbers.{row}
use Rattle.lnbd_export.specs.declared.request.Replies.TheVariants.{Simple}
use Rattle.lnbd_export.specs.declared.request.Request.{Request}
use Rattle.lnbd_server.specs.Session.{begun}
use Rattle.lnbd_server.specs.declared.stage.Stage.TheVariants.{Greeting}
use Rattle.lnbd_server.proofs.Says.{empty_none}
use Rattle.lnbd_server.proofs.dialogue.Dialogue.new.Goals as goal

hello_is : 78 ∷ 66 ∷ 68 ∷ 77 ∷ 65 ∷ 71 ∷ 73 ∷ 67 ∷ 73 ∷ 72 ∷ 65 ∷ 86 ∷ 69 ∷ 79 ∷ 80 ∷ 84 ∷ 0 ∷ 3 ∷ [] ≡ row (hello (flag_fixed_newstyle + flag_no_zeroes))
unfolding row
hello_is = refl

begins : (waiting : List Request) (heard out empty : List ℕ) → waiting ≡ [] → heard ≡ [] → empty ≡ [] → out ≡ empty ++ row (hello (flag_fixed_newstyle + flag_no_zeroes)) →
    record { stage = Greeting; no_zeroes = false; agreed = record { replies = Simple; allocation = false }; waiting = waiting; heard = heard; out = out } ≡ begun
begins waiting heard out empty a b d e = let out_is = e ∙ ap (λ (xs : List ℕ). xs ++ row (hello (flag_fixed_newstyle + flag_no_zeroes))) d in cc

pub invariant_of-result : goal.invariant_of-result
invariant_of-result c = empty_none Greeting false _ c.new-2.ensures.items

pub returns : goal.returns
returns c = begins c.new.result.items c.new-2.result.items c.append.new.self c.new-out.result c.new.ensures.items c.new-2.ensures.items c.new-out.ensures
    (c.in_ok-append.ensures.ok ∙ ap (λ (xs : List ℕ). c.new-out.result ++ xs) hello_is)
