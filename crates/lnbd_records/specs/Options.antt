-- The numbers of options, of the replies to them and of information, by the standard's names: the protocol's "Option types", "Option reply
-- types" and, with NBD_OPT_INFO, "Information types".
use Rattle.std.specs.Prelude.{ℕ, ◌^◌}

abbrev pub opt_export_name : ℕ
opt_export_name = 1

abbrev pub opt_abort : ℕ
opt_abort = 2

abbrev pub opt_list : ℕ
opt_list = 3

abbrev pub opt_info : ℕ
opt_info = 6

abbrev pub opt_go : ℕ
opt_go = 7

abbrev pub opt_structured_reply : ℕ
opt_structured_reply = 8

abbrev pub opt_set_meta_context : ℕ
opt_set_meta_context = 10

abbrev pub opt_extended_headers : ℕ
opt_extended_headers = 11

abbrev pub rep_ack : ℕ
rep_ack = 1

abbrev pub rep_server : ℕ
rep_server = 2

abbrev pub rep_info : ℕ
rep_info = 3

abbrev pub rep_meta_context : ℕ
rep_meta_context = 4

-- from here on a reply is an error, whose code is what it has beyond
abbrev pub first_rep_error : ℕ
first_rep_error = 2 ^ 31

-- the codes of an option that the server doesn't know, of a request whose data isn't lawful, and of an export that isn't there
abbrev pub err_unsup : ℕ
err_unsup = 1

abbrev pub err_invalid : ℕ
err_invalid = 3

abbrev pub err_unknown : ℕ
err_unknown = 6

abbrev pub info_export : ℕ
info_export = 0

abbrev pub info_name : ℕ
info_name = 1

abbrev pub info_description : ℕ
info_description = 2

abbrev pub info_block_size : ℕ
info_block_size = 3
