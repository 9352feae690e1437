-- Option replies put one behind another.
use Rattle.std.proofs.Common.{◌≡◌, ℕ, ◌+◌, List, [], ◌∷◌, ◌++◌, length, Bool, refl, ap, sym, ◌∙◌, arith, append_assoc, append-nil, length-append}
use Rattle.lnbd_records.specs.Handshake.{option_reply_head}
use Rattle.lnbd_records.specs.Numbers.{row}
use Rattle.lnbd_export.specs.Export.{Export, size}
use Rattle.lnbd_export.specs.declared.request.Replies.{Replies}
use Rattle.lnbd_server.specs.Options.{Reply, put_reply, put_replies, size_told, blocks_told, acknowledged, told_if, flags_of, information}

pub pushed : (out with_head with_first new : List ℕ) (option type n : ℕ) (first second : List ℕ) → with_head ≡ out ++ row (option_reply_head option type n) → with_first ≡ with_head ++ first → new ≡ with_first ++ second →
    n ≡ length first + length second → new ≡ out ++ put_reply option (record { type = type; body = first ++ second })
pushed out with_head with_first new option type n first second head one two size =
    let all : n ≡ length (first ++ second) = omega (arith, length-append first second) in
    two ∙ ap (λ xs. xs ++ second) one ∙ append_assoc with_head first second ∙ ap (λ xs. xs ++ (first ++ second)) head
    ∙ append_assoc out (row (option_reply_head option type n)) (first ++ second) ∙ ap (λ k. out ++ (row (option_reply_head option type k) ++ (first ++ second))) all

pub put_replies-append : (option : ℕ) (xs ys : List Reply) → put_replies option (xs ++ ys) ≡ put_replies option xs ++ put_replies option ys
put_replies-append option [] ys = refl
put_replies-append option (x ∷ xs) ys = ap (λ bs. put_reply option x ++ bs) (put_replies-append option xs ys) ∙ sym (append_assoc (put_reply option x) (put_replies option xs) (put_replies option ys))

-- one more at the end
pub one_more : (option : ℕ) (xs : List Reply) (x : Reply) (out new : List ℕ) → out ≡ put_replies option xs → new ≡ out ++ put_reply option x → new ≡ put_replies option (xs ++ x ∷ [])
one_more option xs x out new before e =
    e ∙ ap (λ bs. bs ++ put_reply option x) before ∙ ap (λ bs. put_replies option xs ++ bs) (sym (append-nil (put_reply option x))) ∙ sym (put_replies-append option xs (x ∷ []))

pub some_more : (option : ℕ) (xs ys : List Reply) (out new : List ℕ) → out ≡ put_replies option xs → new ≡ out ++ put_replies option ys → new ≡ put_replies option (xs ++ ys)
some_more option xs ys out new before e = e ∙ ap (λ bs. bs ++ put_replies option ys) before ∙ sym (put_replies-append option xs ys)

-- the replies that tell of an export, piece by piece
pub informed : (option : ℕ) (size_ : Reply) (names descriptions : List Reply) (blocks ack : Reply) (one two three four five : List ℕ) → one ≡ [] ++ put_reply option size_ → two ≡ one ++ put_replies option names →
    three ≡ two ++ put_replies option descriptions → four ≡ three ++ put_reply option blocks → five ≡ four ++ put_reply option ack →
    five ≡ put_replies option ((size_ ∷ []) ++ names ++ descriptions ++ (blocks ∷ ack ∷ []))
informed option size_ names descriptions blocks ack one two three four five a b c d e =
    let first : one ≡ put_replies option (size_ ∷ []) = a ∙ sym (append-nil (put_reply option size_)) in
    let second : two ≡ put_replies option ((size_ ∷ []) ++ names) = some_more option (size_ ∷ []) names one two first b in
    let third : three ≡ put_replies option ((size_ ∷ []) ++ names ++ descriptions) = some_more option ((size_ ∷ []) ++ names) descriptions two three second c in
    let last : five ≡ three ++ put_replies option (blocks ∷ ack ∷ []) =
    e ∙ ap (λ bs. bs ++ put_reply option ack) d ∙ append_assoc three (put_reply option blocks) (put_reply option ack)
    ∙ ap (λ bs. three ++ (put_reply option blocks ++ bs)) (sym (append-nil (put_reply option ack))) in
    some_more option ((size_ ∷ []) ++ names ++ descriptions) (blocks ∷ ack ∷ []) three five third last

pub informed_as : (option : ℕ) (replies : Replies) (offered : Export) (wants_name wants_description : Bool) (none one two three four five : List ℕ) (n flags : ℕ) (name description : List ℕ) → none ≡ [] →
    one ≡ none ++ put_reply option (size_told n flags) → two ≡ one ++ put_replies option (told_if wants_name 1 name) → three ≡ two ++ put_replies option (told_if wants_description 2 description) →
    four ≡ three ++ put_reply option blocks_told → five ≡ four ++ put_reply option acknowledged →
    n ≡ size offered → flags ≡ flags_of replies offered → name ≡ offered.name → description ≡ offered.description → five ≡ put_replies option (information replies offered wants_name wants_description)
informed_as option replies offered wants_name wants_description none one two three four five n flags name description empty a b c d e is_n is_flags is_name is_description =
    informed option (size_told (size offered) (flags_of replies offered)) (told_if wants_name 1 offered.name) (told_if wants_description 2 offered.description) blocks_told acknowledged one two three four five
    (a ∙ ap (λ (xs : List ℕ). xs ++ put_reply option (size_told n flags)) empty ∙ ap (λ (k : ℕ). put_reply option (size_told k flags)) is_n ∙ ap (λ (k : ℕ). put_reply option (size_told (size offered) k)) is_flags)
    (b ∙ ap (λ (xs : List ℕ). one ++ put_replies option (told_if wants_name 1 xs)) is_name)
    (c ∙ ap (λ (xs : List ℕ). two ++ put_replies option (told_if wants_description 2 xs)) is_description) d e
