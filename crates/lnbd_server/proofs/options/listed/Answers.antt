use Rattle.std.proofs.Common.{◌≡◌, ℕ, List, [], ◌∷◌, ◌++◌, ◌+◌, length, ap, ◌∙◌, arith, length-append}
use Rattle.lnbd_records.specs.Numbers.{number, row, counted}
use Rattle.lnbd_records.proofs.NumberLaws.{length-row}
use Rattle.lnbd_server.specs.Options.{put_reply, export_told, acknowledged, listing}
use Rattle.lnbd_server.proofs.Answering.{went_on, two_replies}
use Rattle.lnbd_server.proofs.options.listed.Goals as goal

pub push_reply-requires : goal.push_reply-requires
push_reply-requires c =
    let pieces : c.deref.result.now ≡ (c.new-name.result.items ++ row (number 4 c.len.result ∷ [])) ++ c.as_bytes.result.now =
    c.deref.ensures.value ∙ c.in_ok-extend_from_slice.ensures.items ∙ ap (λ (xs : List ℕ). xs ++ c.as_bytes.result.now) c.in_ok-push_u32.ensures.ok in
    let none : length c.new-name.result.items ≡ 0 = ap (λ (xs : List ℕ). length xs) c.new-name.ensures.items in
    let head : length (row (number 4 c.len.result ∷ [])) ≡ 4 = length-row (number 4 c.len.result ∷ []) in
    let all : length c.deref.result.now ≡ length ((c.new-name.result.items ++ row (number 4 c.len.result ∷ [])) ++ c.as_bytes.result.now) = ap (λ (xs : List ℕ). length xs) pieces in
    let one : length ((c.new-name.result.items ++ row (number 4 c.len.result ∷ [])) ++ c.as_bytes.result.now) ≡ length (c.new-name.result.items ++ row (number 4 c.len.result ∷ [])) + length c.as_bytes.result.now =
    length-append (c.new-name.result.items ++ row (number 4 c.len.result ∷ [])) c.as_bytes.result.now in
    let two : length (c.new-name.result.items ++ row (number 4 c.len.result ∷ [])) ≡ length c.new-name.result.items + length (row (number 4 c.len.result ∷ [])) = length-append c.new-name.result.items (row (number 4 c.len.result ∷ [])) in
    let name : length c.as_bytes.result.now ≡ length c.name-2.result.now = ap (λ (xs : List ℕ). length xs) c.as_bytes.ensures.value in
    let short = c.as_bytes.ensures.text.1 in
    let description : length c.as_bytes-2.result.now ≡ length c.description.result.now = ap (λ (xs : List ℕ). length xs) c.as_bytes-2.ensures.value in
    let brief = c.as_bytes-2.ensures.text.1 in
    omega arith

pub returns : goal.returns
returns c =
    let name : c.deref.result.now ≡ counted c.args.export.now.name =
    c.deref.ensures.value ∙ c.in_ok-extend_from_slice.ensures.items
    ∙ ap (λ (xs : List ℕ). xs ++ c.as_bytes.result.now) (c.in_ok-push_u32.ensures.ok ∙ ap (λ (xs : List ℕ). xs ++ row (number 4 c.len.result ∷ [])) c.new-name.ensures.items
    ∙ ap (λ (n : ℕ). row (number 4 n ∷ [])) (c.len.ensures.length ∙ ap (λ (xs : List ℕ). length xs) c.name.ensures))
    ∙ ap (λ (xs : List ℕ). row (number 4 (length c.args.export.now.name) ∷ []) ++ xs) (c.as_bytes.ensures.value ∙ c.name-2.ensures) in
    let description : c.as_bytes-2.result.now ≡ c.args.export.now.description = c.as_bytes-2.ensures.value ∙ c.description.ensures in
    went_on c.args.option (listing c.args.export.now) c.args.agreed _
    (two_replies c.args.option (export_told c.args.export.now) acknowledged _ _ _ c.new-bytes.ensures.items
    (c.in_ok-push_reply.ensures ∙ ap (λ (xs : List ℕ). c.new-bytes.result.items ++ put_reply c.args.option (record { type = 2; body = xs ++ c.as_bytes-2.result.now })) name
    ∙ ap (λ (xs : List ℕ). c.new-bytes.result.items ++ put_reply c.args.option (record { type = 2; body = counted c.args.export.now.name ++ xs })) description)
    c.in_ok-push_reply-2.ensures)
