use Rattle.std.proofs.Common.{◌≡◌, ℕ, List, [], ◌∷◌, ◌++◌, length, ap, ◌∙◌, arith}
use Rattle.lnbd_records.specs.Numbers.{number, row}
use Rattle.lnbd_records.proofs.NumberLaws.{length-row}
use Rattle.lnbd_server.proofs.Descriptors.{descriptor_more, two_more}
use Rattle.lnbd_server.proofs.replies.block_status.Goals as goal

pub loop-extent-init : goal.loop-extent-init
loop-extent-init c =
    let e : c.push_u32.new.out.items ≡ row (number 4 1 ∷ []) = c.in_ok-push_u32.ensures.ok ∙ ap (λ (xs : List ℕ). xs ++ row (number 4 1 ∷ [])) c.new-payload.ensures.items in
    record { so_far = e; size = ap (λ (xs : List ℕ). length xs) e ∙ length-row (number 4 1 ∷ []) }

pub loop-extent-preserved : goal.loop-extent-preserved
loop-extent-preserved c = record {
  so_far = descriptor_more c.args.statuses.now c.loop-extent.extent-index c.low.result c.low-in-loop-extent.result _ c.loop-extent.payload.items _ _ c.loop-extent-test.true c.loop-extent.invariant.so_far
      c.in_ok-push_u32-2.ensures.ok c.in_ok-push_u32-3.ensures.ok c.low.ensures c.low-in-loop-extent.ensures;
  size = let more = two_more 4 c.low.result c.low-in-loop-extent.result c.loop-extent.payload.items _ _ c.in_ok-push_u32-2.ensures.ok c.in_ok-push_u32-3.ensures.ok in omega arith;
}
