-- How a server answers options: the protocol's "Option types" and "Option reply types".
use Rattle.std.specs.Prelude.{ℕ, ◌+◌, Bool, false, not, ◌||◌, List, [], ◌∷◌, ◌++◌, length, replicate, codes, Option, Some, None, if◌then◌else◌, ◌==◌, bytes_eq}
use Rattle.std.specs.List.{flat_map}
use Rattle.lnbd_records.specs.Flags.{flag_can_multi_conn, flag_has_flags, flag_read_only, flag_send_flush, flag_send_fua, flag_send_trim, flag_send_write_zeroes, flag_send_df, flag_send_cache}
use Rattle.lnbd_records.specs.Handshake.{option_reply_head, export_name_reply, padding}
use Rattle.lnbd_records.specs.Limits.{max_data}
use Rattle.lnbd_records.specs.Numbers.{Field, number, row, counted}
use Rattle.lnbd_records.specs.Options.{opt_export_name, opt_abort, opt_list, opt_go, opt_structured_reply, opt_set_meta_context, opt_extended_headers, rep_ack, rep_server, rep_info, rep_meta_context, first_rep_error, err_unsup, info_name, info_description}
pub use Rattle.lnbd_records.specs.Options.{err_invalid, err_unknown}
use Rattle.lnbd_records.specs.Replies.{export, block_size}
use Rattle.lnbd_records.specs.Requests.{Asked, asked_of, asks_texts}
use Rattle.lnbd_options.specs.Answers.{request_of}
use Rattle.lnbd_options.specs.declared.asked.Request.{Request}
use Rattle.lnbd_options.specs.declared.asked.Request.TheVariants.{Name, Info, Meta, Plain}
use Rattle.lnbd_export.specs.Export.{Export, size}
use Rattle.lnbd_export.specs.Requests.{is_structured, flag_if}
use Rattle.lnbd_export.specs.declared.request.Agreed.{Agreed}
use Rattle.lnbd_export.specs.declared.request.Replies.{Replies}
use Rattle.lnbd_export.specs.declared.request.Replies.TheVariants.{Simple, Structured, Extended}
use Rattle.lnbd_server.specs.declared.stage.Offers.{Offers}
use Rattle.lnbd_server.specs.declared.stage.Stage.{Stage}
use Rattle.lnbd_server.specs.declared.stage.Stage.TheVariants.{Haggling, Serving, Ended, Strayed}

-- Option replies.

pub record Reply : Type 0 where
  pub type : ℕ
  pub body : List ℕ

abbrev pub put_reply : ℕ → Reply → List ℕ
put_reply option reply = row (option_reply_head option reply.type (length reply.body)) ++ reply.body

abbrev pub put_replies : ℕ → List Reply → List ℕ
put_replies option replies = flat_map (put_reply option) replies

abbrev pub acknowledged : Reply
acknowledged = record { type = rep_ack; body = [] }

abbrev pub refused : ℕ → Reply
refused code = record { type = first_rep_error + code; body = [] }

-- What is told of an export.

-- the transmission flags: DF is offered where replies may come in chunks
abbrev pub flags_of : Replies → Export → ℕ
flags_of replies offered =
    flag_has_flags + flag_send_flush + flag_send_fua + flag_send_trim + flag_send_write_zeroes + flag_can_multi_conn + flag_send_cache
    + flag_if (is_structured replies) flag_send_df + flag_if offered.read_only flag_read_only

-- the sizes of blocks that are told: the smallest, the preferred and the largest
abbrev pub blocks : List Field
blocks = block_size 1 4096 max_data

abbrev pub size_told : (size flags : ℕ) → Reply
size_told n flags = record { type = rep_info; body = row (export (record { size = n; flags = flags })) }

abbrev pub blocks_told : Reply
blocks_told = record { type = rep_info; body = row blocks }

abbrev pub text_told : (type : ℕ) → List ℕ → Reply
text_told type text = record { type = rep_info; body = row (number 2 type ∷ []) ++ text }

abbrev pub told_if : Bool → (type : ℕ) → List ℕ → List Reply
told_if asked type text = if asked then text_told type text ∷ [] else []

-- INFO and GO: the size and the flags, the texts that were asked for, the sizes of blocks, and an end
abbrev pub information : Replies → Export → (wants_name wants_description : Bool) → List Reply
information replies offered wants_name wants_description =
    (size_told (size offered) (flags_of replies offered) ∷ [])
    ++ told_if wants_name info_name offered.name
    ++ told_if wants_description info_description offered.description
    ++ (blocks_told ∷ acknowledged ∷ [])

abbrev pub export_told : Export → Reply
export_told offered = record { type = rep_server; body = counted offered.name ++ offered.description }

-- LIST: the one export, and an end
abbrev pub listing : Export → List Reply
listing offered = export_told offered ∷ acknowledged ∷ []

abbrev pub allocation_name : List ℕ
allocation_name = codes "base:allocation"

abbrev pub allocation_id : ℕ
allocation_id = 1

-- whether it is among the queries
abbrev pub has_allocation : List (List ℕ) → Bool
has_allocation [] = false
has_allocation (query ∷ queries) = bytes_eq query allocation_name || has_allocation queries

abbrev pub allocation_told : Reply
allocation_told = record { type = rep_meta_context; body = row (number 4 allocation_id ∷ []) ++ allocation_name }

-- SET_META_CONTEXT: base:allocation where it is asked for, and an end
abbrev pub contexts : Bool → List Reply
contexts allocation =
    if allocation then allocation_told ∷ acknowledged ∷ [] else acknowledged ∷ []

-- What an option asks, where its data fits it and its texts are texts.
abbrev pub lawful : Option Asked → Option Request
lawful None = None
lawful (Some asks) = if asks_texts asks then Some (request_of asks) else None

abbrev pub wish_of : ℕ → List ℕ → Option Request
wish_of option body = lawful (asked_of option body)

-- What answering changes: the bytes that go out, what is agreed, and the stage.
pub record Answer : Type 0 where
  pub bytes : List ℕ
  pub agreed : Agreed
  pub stage : Stage

-- haggling goes on
abbrev pub going : ℕ → List Reply → Agreed → Answer
going option replies agreed = record { bytes = put_replies option replies; agreed = agreed; stage = Haggling }

abbrev pub without_allocation : Agreed → Agreed
without_allocation agreed = record { replies = agreed.replies; allocation = false }

-- EXPORT_NAME has no way to refuse: another name ends the session.
abbrev pub name_answer : Export → Bool → Agreed → List ℕ → Answer
name_answer offered no_zeroes agreed name =
    if bytes_eq name offered.name
    then record { bytes = row (export_name_reply (size offered) (flags_of agreed.replies offered)) ++ replicate (padding no_zeroes) 0; agreed = agreed; stage = Serving }
    else record { bytes = []; agreed = agreed; stage = Strayed }

abbrev pub stage_after : ℕ → Stage
stage_after option = if option == opt_go then Serving else Haggling

abbrev pub info_answer : Export → Agreed → ℕ → List ℕ → (wants_name wants_description : Bool) → Answer
info_answer offered agreed option name wants_name wants_description =
    if bytes_eq name offered.name
    then record { bytes = put_replies option (information agreed.replies offered wants_name wants_description); agreed = agreed; stage = stage_after option }
    else going option (refused err_unknown ∷ []) agreed

abbrev pub meta_answer : Export → Agreed → ℕ → List ℕ → List (List ℕ) → Answer
meta_answer offered agreed option name queries =
    if not (is_structured agreed.replies) then going option (refused err_invalid ∷ []) (without_allocation agreed)
    else if not (bytes_eq name offered.name) then going option (refused err_unknown ∷ []) (without_allocation agreed)
    else going option (contexts (has_allocation queries)) (record { replies = agreed.replies; allocation = has_allocation queries })

-- Extended headers bring structured replies with them, and stay on.
abbrev pub with_structured : Replies → Replies
with_structured Simple = Structured
with_structured Structured = Structured
with_structured Extended = Extended

abbrev pub switched : Bool → Replies → ℕ → Agreed → Answer
switched on replies option agreed =
    if on then going option (acknowledged ∷ []) (record { replies = replies; allocation = agreed.allocation })
    else going option (refused err_unsup ∷ []) agreed

abbrev pub plain_answer : Offers → Export → Agreed → ℕ → Answer
plain_answer offers offered agreed option =
    if option == opt_abort then record { bytes = put_replies option (acknowledged ∷ []); agreed = agreed; stage = Ended }
    else if option == opt_list then going option (listing offered) agreed
    else if option == opt_structured_reply then switched offers.structured (with_structured agreed.replies) option agreed
    else if option == opt_extended_headers then switched offers.extended Extended option agreed
    else going option (refused err_unsup ∷ []) agreed

-- An answer to SET_META_CONTEXT that is an error leaves no context agreed.
abbrev pub invalid_answer : Agreed → ℕ → Answer
invalid_answer agreed option =
    if option == opt_export_name then record { bytes = []; agreed = agreed; stage = Strayed }
    else going option (refused err_invalid ∷ []) (if option == opt_set_meta_context then without_allocation agreed else agreed)

abbrev pub answer_of : Offers → Export → Bool → Agreed → ℕ → Option Request → Answer
answer_of offers offered no_zeroes agreed option None = invalid_answer agreed option
answer_of offers offered no_zeroes agreed option (Some (Name name)) = name_answer offered no_zeroes agreed name
answer_of offers offered no_zeroes agreed option (Some (Info name wants_name wants_description)) = info_answer offered agreed option name wants_name wants_description
answer_of offers offered no_zeroes agreed option (Some (Meta name queries)) = meta_answer offered agreed option name queries
answer_of offers offered no_zeroes agreed option (Some Plain) = plain_answer offers offered agreed option

-- the answer to an option request
abbrev pub option_answer : Offers → Export → Bool → Agreed → ℕ → List ℕ → Answer
option_answer offers offered no_zeroes agreed option body = answer_of offers offered no_zeroes agreed option (wish_of option body)
