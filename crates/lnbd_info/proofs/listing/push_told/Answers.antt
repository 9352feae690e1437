use Rattle.std.proofs.Common.{◌∙◌, ◌++◌, List, ap, codes, string_bytes, ℕ}
use Rattle.std.specs.Prelude.{flat_map}
use Rattle.std.specs.Fmt.{decimal}
use Rattle.lnbd_model.specs.declared.export.Context.{Context}
use Rattle.lnbd_info.specs.Listing.{answer_line, blocks_lines, contexts_lines, description_line, description_of, line, questions, shown_contexts}
use Rattle.lnbd_info.proofs.PushLemmas.{pushed_then}
use Rattle.lnbd_info.proofs.listing.push_told.Goals as goal

pub returns : goal.returns
returns c =
    let info = c.args.info.now in
    let described = c.in_ok-push_description.ensures ∙ ap (λ (t : List ℕ). string_bytes c.args.text.now ++ description_line t) c.description_of.ensures in
    let named = c.in_ok-push_contexts.ensures ∙ ap (λ (cs : List Context). string_bytes c.push_number.new.text ++ contexts_lines cs) c.shown_contexts.ensures in
    let fourth = pushed_then c.push_blocks.result _ _ _ (flat_map (answer_line info) questions) (blocks_lines info.blocks) c.in_ok-push_answers.ensures c.push_blocks.ensures in
    let third = pushed_then c.push_blocks.result _ _ _ (contexts_lines (shown_contexts c.args.contexts info)) _ named fourth in
    let second = pushed_then c.push_blocks.result _ _ _ (line (codes "export-size") (decimal info.size)) _ c.in_ok-push_number.ensures third in
    pushed_then c.push_blocks.result _ _ _ (description_line (description_of c.args.listed.now info)) _ described second
