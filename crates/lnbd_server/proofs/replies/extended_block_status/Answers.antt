use Rattle.std.proofs.Common.{◌≡◌, ℕ, List, [], ◌∷◌, ◌++◌, length, ap, ◌∙◌, arith}
use Rattle.lnbd_records.specs.Numbers.{number, row}
use Rattle.lnbd_records.proofs.NumberLaws.{length-row}
use Rattle.lnbd_options.proofs.PutLemmas.{more}
use Rattle.lnbd_server.proofs.Descriptors.{extended_more, two_more}
use Rattle.lnbd_server.proofs.replies.extended_block_status.Goals as goal

pub loop-extent-init : goal.loop-extent-init
loop-extent-init c =
    let n = length c.args.statuses.now in
    let e : c.push_u32-2.new.out.items ≡ row (number 4 1 ∷ number 4 n ∷ []) =
    more _ _ _ (number 4 1 ∷ []) (number 4 n) c.in_ok-push_u32.ensures.ok c.in_ok-push_u32-2.ensures.ok
    ∙ ap (λ (xs : List ℕ). xs ++ row (number 4 1 ∷ number 4 n ∷ [])) c.new-payload.ensures.items in
    record { so_far = e; size = ap (λ (xs : List ℕ). length xs) e ∙ length-row (number 4 1 ∷ number 4 n ∷ []) }

pub loop-extent-preserved : goal.loop-extent-preserved
loop-extent-preserved c = record {
  so_far = extended_more c.args.statuses.now c.loop-extent.extent-index (length c.args.statuses.now) _ c.loop-extent.payload.items _ _ c.loop-extent-test.true c.loop-extent.invariant.so_far
      c.in_ok-push_u64.ensures.ok c.in_ok-push_u64-2.ensures.ok;
  size = let more = two_more 8 _ _ c.loop-extent.payload.items _ _ c.in_ok-push_u64.ensures.ok c.in_ok-push_u64-2.ensures.ok in omega arith;
}
