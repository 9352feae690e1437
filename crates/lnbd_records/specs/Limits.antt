-- The limits of what is taken from a peer, and of what is asked of it.
use Rattle.std.specs.Prelude.{ℕ}
use Rattle.lnbd_model.specs.Text.{text_limit}

-- the most bytes of a read, of a write, and of the data in one chunk
abbrev pub max_data : ℕ
max_data = 33554432

-- the most descriptors in one chunk
abbrev pub max_descriptors : ℕ
max_descriptors = 1048576

-- the longest message of an error, and the longest name or description
abbrev pub max_text : ℕ
max_text = text_limit

-- the longest payload of an error of a type that isn't known
abbrev pub max_other_error : ℕ
max_other_error = 65536

-- how many chunks of one command may be errors or have a content fault before its last
abbrev pub max_faults : ℕ
max_faults = 1024

-- the longest range of a command that carries no data: 2^32 - 1, and 2^63 - 1 with extended headers
abbrev pub max_range : ℕ
max_range = 4294967295

abbrev pub max_extended_range : ℕ
max_extended_range = 9223372036854775807

-- the longest body of an option reply
abbrev pub max_option_reply : ℕ
max_option_reply = 65536

-- how many exports a server may list, and how many replies another option may have before its last
abbrev pub max_listed : ℕ
max_listed = 10000

abbrev pub max_replies : ℕ
max_replies = 1024

-- how many bytes are passed over after an abort
abbrev pub max_passed : ℕ
max_passed = 65536

-- how many meta contexts may be asked for
abbrev pub max_contexts : ℕ
max_contexts = 16

-- the largest minimum of told block sizes that count
abbrev pub max_minimum_block : ℕ
max_minimum_block = 65536
