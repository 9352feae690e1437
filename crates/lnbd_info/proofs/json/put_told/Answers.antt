use Rattle.std.proofs.Common.{◌∙◌, ◌∷◌, ◌++◌, [], List, ap, codes, map, ℕ}
use Rattle.serde_json.specs.Data.{Data, put}
use Rattle.serde_json.specs.View.{members_view}
use Rattle.lnbd_model.specs.declared.export.Context.{Context}
use Rattle.lnbd_info.specs.Json.{Member, number_of, with_members}
use Rattle.lnbd_info.specs.Listing.{description_of, questions, shown_contexts}
use Rattle.lnbd_info.specs.ListingJson.{answer_member, blocks_members, contexts_member, description_member}
use Rattle.lnbd_info.proofs.ListingLemmas.{put_behind}
use Rattle.lnbd_info.proofs.json.put_told.Goals as goal

pub returns : goal.returns
returns c =
    let info = c.args.info.now in
    let described = c.in_ok-put_description.ensures ∙ ap (λ (t : List ℕ). with_members (description_member t) (members_view c.args.members.now.entries)) c.description_of.ensures in
    let named = c.in_ok-put_contexts.ensures ∙ ap (λ (cs : List Context). with_members (contexts_member cs) (members_view c.put.new.map.entries)) c.shown_contexts.ensures in
    let sized = c.in_ok-put.ensures.ok ∙ ap (λ (d : Data). put (codes "export-size") d (members_view c.put_description.new.members.entries)) c.from.ensures in
    let before = members_view c.args.members.now.entries in
    let one = members_view c.put_description.new.members.entries in
    let two = members_view c.put.new.map.entries in
    let three = members_view c.put_contexts.new.members.entries in
    let four = members_view c.put_answers.new.members.entries in
    let all = members_view c.put_blocks.new.members.entries in
    let answers : List Member = map (answer_member info) questions in
    let sizes : List Member = blocks_members info.blocks in
    let names : List Member = contexts_member (shown_contexts c.args.contexts info) in
    let size : List Member = (codes "export-size", number_of info.size) ∷ [] in
    let fourth = put_behind c.put_blocks.result answers sizes three four all c.in_ok-put_answers.ensures c.put_blocks.ensures in
    let third = put_behind c.put_blocks.result names (answers ++ sizes) two three all named fourth in
    let second = put_behind c.put_blocks.result size (names ++ (answers ++ sizes)) one two all sized third in
    put_behind c.put_blocks.result (description_member (description_of c.args.listed.now info)) (size ++ (names ++ (answers ++ sizes))) before one all described second
