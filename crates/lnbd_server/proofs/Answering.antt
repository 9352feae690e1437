-- Answers to options, by the pieces of which they are made.
use Rattle.std.proofs.Common.{◌≡◌, ℕ, List, [], ◌∷◌, ◌++◌, replicate, Bool, true, false, refl, ap, sym, ◌∙◌, append-nil, bytes_eq, Some, None}
use Rattle.lnbd_records.specs.Handshake.{export_name_reply, padding}
use Rattle.lnbd_records.specs.Numbers.{number, row}
use Rattle.lnbd_records.proofs.NumberLaws.{row-append}
use Rattle.lnbd_records.specs.Requests.{Asked, asked_of, asks_texts}
use Rattle.lnbd_options.specs.Answers.{request_of}
use Rattle.lnbd_export.specs.Export.{Export, size}
use Rattle.lnbd_export.specs.Requests.{is_structured}
use Rattle.lnbd_export.specs.declared.request.Agreed.{Agreed}
use Rattle.lnbd_options.specs.declared.asked.Request.{Request}
use Rattle.lnbd_server.specs.declared.stage.Offers.{Offers}
use Rattle.lnbd_server.specs.declared.stage.Stage.{Stage}
use Rattle.lnbd_server.specs.declared.stage.Stage.TheVariants.{Haggling, Serving, Strayed}
use Rattle.lnbd_server.specs.Options.{Reply, put_reply, put_replies, Answer, going, refused, err_invalid, err_unknown, without_allocation, flags_of, information, contexts, has_allocation, name_answer, info_answer, meta_answer, invalid_answer, stage_after, answer_of, option_answer, wish_of}

pub one_reply : (option : ℕ) (r : Reply) (none bytes : List ℕ) → none ≡ [] → bytes ≡ none ++ put_reply option r → bytes ≡ put_replies option (r ∷ [])
one_reply option r none bytes empty e = e ∙ ap (λ (xs : List ℕ). xs ++ put_reply option r) empty ∙ sym (append-nil (put_reply option r))

pub two_replies : (option : ℕ) (r q : Reply) (none one two : List ℕ) → none ≡ [] → one ≡ none ++ put_reply option r → two ≡ one ++ put_reply option q → two ≡ put_replies option (r ∷ q ∷ [])
two_replies option r q none one two empty e f =
    f ∙ ap (λ (xs : List ℕ). xs ++ put_reply option q) (e ∙ ap (λ (xs : List ℕ). xs ++ put_reply option r) empty)
    ∙ ap (λ (xs : List ℕ). put_reply option r ++ xs) (sym (append-nil (put_reply option q)))

abbrev pub answer : List ℕ → Agreed → Stage → Answer
answer bytes agreed stage = record { bytes = bytes; agreed = agreed; stage = stage }

pub went_on : (option : ℕ) (replies : List Reply) (agreed : Agreed) (bytes : List ℕ) → bytes ≡ put_replies option replies → answer bytes agreed Haggling ≡ going option replies agreed
went_on option replies agreed bytes e = ap (λ (b : List ℕ). answer b agreed Haggling) e

-- EXPORT_NAME

pub named_bytes : (n flags : ℕ) (pad none one two three : List ℕ) → none ≡ [] → one ≡ none ++ row (number 8 n ∷ []) → two ≡ one ++ row (number 2 flags ∷ []) → three ≡ two ++ pad →
    three ≡ row (export_name_reply n flags) ++ pad
named_bytes n flags pad none one two three empty a b c =
    c ∙ ap (λ (xs : List ℕ). xs ++ pad) (b ∙ ap (λ (xs : List ℕ). xs ++ row (number 2 flags ∷ [])) (a ∙ ap (λ (xs : List ℕ). xs ++ row (number 8 n ∷ [])) empty) ∙ sym (row-append (number 8 n ∷ []) (number 2 flags ∷ [])))

pub named : (offered : Export) (no_zeroes : Bool) (agreed : Agreed) (name bytes : List ℕ) (n flags : ℕ) → bytes_eq name offered.name ≡ true → n ≡ size offered → flags ≡ flags_of agreed.replies offered →
    bytes ≡ row (export_name_reply n flags) ++ replicate (padding no_zeroes) 0 → answer bytes agreed Serving ≡ name_answer offered no_zeroes agreed name
named offered no_zeroes agreed name bytes n flags same is_n is_flags e =
    ap (λ (b : List ℕ). answer b agreed Serving) (e ∙ ap (λ (k : ℕ). row (export_name_reply k flags) ++ replicate (padding no_zeroes) 0) is_n
    ∙ ap (λ (k : ℕ). row (export_name_reply (size offered) k) ++ replicate (padding no_zeroes) 0) is_flags)
    ∙ sym (rw same refl)

pub misnamed : (offered : Export) (no_zeroes : Bool) (agreed : Agreed) (name : List ℕ) (given : Answer) → bytes_eq name offered.name ≡ false → given ≡ answer [] agreed Strayed → given ≡ name_answer offered no_zeroes agreed name
misnamed offered no_zeroes agreed name given other e = e ∙ sym (rw other refl)

-- INFO and GO

pub is_informed : (offered : Export) (agreed : Agreed) (option : ℕ) (name bytes : List ℕ) (wants_name wants_description : Bool) (stage : Stage) → bytes_eq name offered.name ≡ true →
    bytes ≡ put_replies option (information agreed.replies offered wants_name wants_description) → stage ≡ stage_after option → answer bytes agreed stage ≡ info_answer offered agreed option name wants_name wants_description
is_informed offered agreed option name bytes wants_name wants_description stage same e s =
    ap (λ (b : List ℕ). answer b agreed stage) e ∙ ap (λ (k : Stage). answer (put_replies option (information agreed.replies offered wants_name wants_description)) agreed k) s ∙ sym (rw same refl)

pub not_informed : (offered : Export) (agreed : Agreed) (option : ℕ) (name : List ℕ) (wants_name wants_description : Bool) (given : Answer) → bytes_eq name offered.name ≡ false →
    given ≡ going option (refused err_unknown ∷ []) agreed → given ≡ info_answer offered agreed option name wants_name wants_description
not_informed offered agreed option name wants_name wants_description given other e = e ∙ sym (rw other refl)

-- SET_META_CONTEXT

pub no_contexts : (offered : Export) (agreed : Agreed) (option : ℕ) (name : List ℕ) (queries : List (List ℕ)) (given : Answer) → is_structured agreed.replies ≡ false →
    given ≡ going option (refused err_invalid ∷ []) (without_allocation agreed) → given ≡ meta_answer offered agreed option name queries
no_contexts offered agreed option name queries given off e = e ∙ sym (rw off refl)

pub other_name : (offered : Export) (agreed : Agreed) (option : ℕ) (name : List ℕ) (queries : List (List ℕ)) (given : Answer) → is_structured agreed.replies ≡ true → bytes_eq name offered.name ≡ false →
    given ≡ going option (refused err_unknown ∷ []) (without_allocation agreed) → given ≡ meta_answer offered agreed option name queries
other_name offered agreed option name queries given on other e = e ∙ sym (rw (on, other) refl)

pub in_contexts : (offered : Export) (agreed : Agreed) (option : ℕ) (name : List ℕ) (queries : List (List ℕ)) (allocation : Bool) (bytes : List ℕ) → is_structured agreed.replies ≡ true → bytes_eq name offered.name ≡ true →
    allocation ≡ has_allocation queries → bytes ≡ put_replies option (contexts allocation) → answer bytes (record { replies = agreed.replies; allocation = allocation }) Haggling ≡ meta_answer offered agreed option name queries
in_contexts offered agreed option name queries allocation bytes on same is e =
    ap (λ (b : List ℕ). answer b (record { replies = agreed.replies; allocation = allocation }) Haggling) e
    ∙ ap (λ (a : Bool). going option (contexts a) (record { replies = agreed.replies; allocation = a })) is ∙ sym (rw (on, same) refl)

-- by what was read

pub not_lawful : (offers : Offers) (offered : Export) (no_zeroes : Bool) (agreed : Agreed) (option : ℕ) (body : List ℕ) (given : Answer) → wish_of option body ≡ None → given ≡ invalid_answer agreed option →
    given ≡ option_answer offers offered no_zeroes agreed option body
not_lawful offers offered no_zeroes agreed option body given none e = e ∙ sym (ap (answer_of offers offered no_zeroes agreed option) none)

pub is_lawful : (offers : Offers) (offered : Export) (no_zeroes : Bool) (agreed : Agreed) (option : ℕ) (body : List ℕ) (request : Request) (given : Answer) → wish_of option body ≡ Some request →
    given ≡ answer_of offers offered no_zeroes agreed option (Some request) → given ≡ option_answer offers offered no_zeroes agreed option body
is_lawful offers offered no_zeroes agreed option body request given is e = e ∙ sym (ap (answer_of offers offered no_zeroes agreed option) is)

pub wish_is : (option : ℕ) (body : List ℕ) (asks : Asked) (request : Request) → asked_of option body ≡ Some asks → asks_texts asks ≡ true → request ≡ request_of asks → wish_of option body ≡ Some request
wish_is option body asks request e texts is = rw e (rw texts (ap (λ (r : Request). Some r) (sym is)))

pub wish_none : (option : ℕ) (body : List ℕ) → asked_of option body ≡ None → wish_of option body ≡ None
wish_none option body e = rw e refl

pub wish_untold : (option : ℕ) (body : List ℕ) (asks : Asked) → asked_of option body ≡ Some asks → asks_texts asks ≡ false → wish_of option body ≡ None
wish_untold option body asks e texts = rw e (rw texts refl)
