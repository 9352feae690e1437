-- Flags by the standard's names, each as its value: the protocol's "Handshake flags", "Transmission flags" and "Command flags".
use Rattle.std.specs.Prelude.{ℕ}

abbrev pub flag_fixed_newstyle : ℕ
flag_fixed_newstyle = 1

abbrev pub flag_no_zeroes : ℕ
flag_no_zeroes = 2

-- Of an export.

abbrev pub flag_has_flags : ℕ
flag_has_flags = 1

abbrev pub flag_read_only : ℕ
flag_read_only = 2

abbrev pub flag_send_flush : ℕ
flag_send_flush = 4

abbrev pub flag_send_fua : ℕ
flag_send_fua = 8

abbrev pub flag_rotational : ℕ
flag_rotational = 16

abbrev pub flag_send_trim : ℕ
flag_send_trim = 32

abbrev pub flag_send_write_zeroes : ℕ
flag_send_write_zeroes = 64

abbrev pub flag_send_df : ℕ
flag_send_df = 128

abbrev pub flag_can_multi_conn : ℕ
flag_can_multi_conn = 256

abbrev pub flag_send_cache : ℕ
flag_send_cache = 1024

abbrev pub flag_send_fast_zero : ℕ
flag_send_fast_zero = 2048

-- Of a command.

abbrev pub no_cmd_flags : ℕ
no_cmd_flags = 0

abbrev pub cmd_flag_fua : ℕ
cmd_flag_fua = 1

abbrev pub cmd_flag_no_hole : ℕ
cmd_flag_no_hole = 2

abbrev pub cmd_flag_df : ℕ
cmd_flag_df = 4

abbrev pub cmd_flag_req_one : ℕ
cmd_flag_req_one = 8

abbrev pub cmd_flag_fast_zero : ℕ
cmd_flag_fast_zero = 16

abbrev pub cmd_flag_payload_len : ℕ
cmd_flag_payload_len = 32

-- Of a chunk.

abbrev pub reply_flag_done : ℕ
reply_flag_done = 1

-- Of an extent of base:allocation.

abbrev pub state_hole : ℕ
state_hole = 1

abbrev pub state_zero : ℕ
state_zero = 2
