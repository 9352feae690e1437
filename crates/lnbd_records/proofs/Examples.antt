-- Records as they stand on the wire, computed from the definitions.
use Rattle.std.proofs.Common.{◌≡◌, true, false, ◌&&◌, [], ◌∷◌, Some, None, refl}
use Rattle.std.specs.Prelude.{codes}
use Rattle.lnbd_records.specs.Numbers.{row, number_at}
use Rattle.lnbd_records.specs.Handshake.{hello}
use Rattle.lnbd_records.specs.Told.{Told, Body}
use Rattle.lnbd_records.specs.Told as told
use Rattle.lnbd_records.specs.Replies.{is_text, are_blocks, body_of}
use Rattle.lnbd_records.specs.Requests.{info_request, Info, Meta, asked_of}
use Rattle.lnbd_records.specs.Transmission.{request, disconnect, extended_request, extended_disconnect, extended_chunk_head, extended_block_status}

hello_bytes : row (hello 3) ≡ 0x4e ∷ 0x42 ∷ 0x44 ∷ 0x4d ∷ 0x41 ∷ 0x47 ∷ 0x49 ∷ 0x43 ∷ 0x49 ∷ 0x48 ∷ 0x41 ∷ 0x56 ∷ 0x45 ∷ 0x4f ∷ 0x50 ∷ 0x54 ∷ 0 ∷ 3 ∷ []
unfolding row
hello_bytes = refl

-- GO for the export with no name, that asks for the types 1, 2 and 3
go_body : info_request [] (1 ∷ 2 ∷ 3 ∷ []) ≡ 0 ∷ 0 ∷ 0 ∷ 0 ∷ 0 ∷ 3 ∷ 0 ∷ 1 ∷ 0 ∷ 2 ∷ 0 ∷ 3 ∷ []
unfolding row
go_body = refl

go_asked : asked_of 7 (0 ∷ 0 ∷ 0 ∷ 0 ∷ 0 ∷ 3 ∷ 0 ∷ 1 ∷ 0 ∷ 2 ∷ 0 ∷ 3 ∷ []) ≡ Some (Info [] (1 ∷ 2 ∷ 3 ∷ []))
unfolding number_at asked_of
go_asked = refl

go_cut : asked_of 7 (0 ∷ 0 ∷ 0 ∷ 0 ∷ 0 ∷ 3 ∷ 0 ∷ 1 ∷ 0 ∷ 2 ∷ 0 ∷ []) ≡ None
unfolding number_at asked_of
go_cut = refl

meta_asks : asked_of 10 (0 ∷ 0 ∷ 0 ∷ 1 ∷ 97 ∷ 0 ∷ 0 ∷ 0 ∷ 1 ∷ 0 ∷ 0 ∷ 0 ∷ 2 ∷ 98 ∷ 58 ∷ []) ≡ Some (Meta (97 ∷ []) ((98 ∷ 58 ∷ []) ∷ []))
unfolding number_at asked_of
meta_asks = refl

-- a size of 1 MiB and the flags 1
export_told : body_of 3 (0 ∷ 0 ∷ 0 ∷ 0 ∷ 0 ∷ 0 ∷ 0 ∷ 0x10 ∷ 0 ∷ 0 ∷ 0 ∷ 1 ∷ []) ≡ Some (record { told = told.Export (record { size = 1048576; flags = 1 }); texts = true })
unfolding number_at body_of
export_told = refl

-- the export "a" with the description "x"
server_told : body_of 2 (0 ∷ 0 ∷ 0 ∷ 1 ∷ 0x61 ∷ 0x78 ∷ []) ≡ Some (record { told = told.Server (record { name = codes "a"; description = codes "x" }); texts = is_text (codes "a") && is_text (codes "x") })
unfolding number_at body_of
server_told = refl

server_cut : body_of 2 (0 ∷ 0 ∷ 0 ∷ 3 ∷ 0x61 ∷ 0x78 ∷ []) ≡ None
unfolding number_at body_of
server_cut = refl

blocks_told : body_of 3 (0 ∷ 3 ∷ 0 ∷ 0 ∷ 2 ∷ 0 ∷ 0 ∷ 0 ∷ 0x10 ∷ 0 ∷ 0 ∷ 1 ∷ 0 ∷ 0 ∷ []) ≡ Some (record { told = told.Blocks (record { minimum = 512; preferred = 4096; maximum = 65536 }); texts = true })
unfolding number_at body_of are_blocks lib.Count.ones
blocks_told = refl

-- 3,000 is no power of two
blocks_passed : body_of 3 (0 ∷ 3 ∷ 0 ∷ 0 ∷ 2 ∷ 0 ∷ 0 ∷ 0 ∷ 0x0b ∷ 0xb8 ∷ 0 ∷ 1 ∷ 0 ∷ 0 ∷ []) ≡ Some (record { told = told.Passed; texts = true })
unfolding number_at body_of are_blocks lib.Count.ones
blocks_passed = refl

no_maximum : are_blocks 1 4096 0xffffffff ≡ true
unfolding are_blocks lib.Count.ones
no_maximum = refl

zero_maximum : are_blocks 1 4096 0 ≡ false
unfolding are_blocks lib.Count.ones
zero_maximum = refl

uneven_maximum : are_blocks 512 512 1000 ≡ false
unfolding are_blocks lib.Count.ones
uneven_maximum = refl

large_minimum : are_blocks 131072 131072 131072 ≡ false
unfolding are_blocks lib.Count.ones
large_minimum = refl

read_request : row (request 0 0 1 0 512) ≡ 0x25 ∷ 0x60 ∷ 0x95 ∷ 0x13 ∷ 0 ∷ 0 ∷ 0 ∷ 0 ∷ 0 ∷ 0 ∷ 0 ∷ 0 ∷ 0 ∷ 0 ∷ 0 ∷ 1 ∷ 0 ∷ 0 ∷ 0 ∷ 0 ∷ 0 ∷ 0 ∷ 0 ∷ 0 ∷ 0 ∷ 0 ∷ 2 ∷ 0 ∷ []
unfolding row
read_request = refl

session_end : row disconnect ≡ 0x25 ∷ 0x60 ∷ 0x95 ∷ 0x13 ∷ 0 ∷ 0 ∷ 0 ∷ 2 ∷ 0 ∷ 0 ∷ 0 ∷ 0 ∷ 0 ∷ 0 ∷ 0 ∷ 0 ∷ 0 ∷ 0 ∷ 0 ∷ 0 ∷ 0 ∷ 0 ∷ 0 ∷ 0 ∷ 0 ∷ 0 ∷ 0 ∷ 0 ∷ []
unfolding row
session_end = refl

-- a request of 6 GiB of zeroes, with extended headers
extended_zero : row (extended_request 0 6 1 0 0x180000000) ≡ 0x21 ∷ 0xe4 ∷ 0x1c ∷ 0x71 ∷ 0 ∷ 0 ∷ 0 ∷ 6 ∷ 0 ∷ 0 ∷ 0 ∷ 0 ∷ 0 ∷ 0 ∷ 0 ∷ 1 ∷ 0 ∷ 0 ∷ 0 ∷ 0 ∷ 0 ∷ 0 ∷ 0 ∷ 0 ∷ 0 ∷ 0 ∷ 0 ∷ 1 ∷ 0x80 ∷ 0 ∷ 0 ∷ 0 ∷ []
unfolding row
extended_zero = refl

extended_session_end : row extended_disconnect ≡ 0x21 ∷ 0xe4 ∷ 0x1c ∷ 0x71 ∷ 0 ∷ 0 ∷ 0 ∷ 2 ∷ 0 ∷ 0 ∷ 0 ∷ 0 ∷ 0 ∷ 0 ∷ 0 ∷ 0 ∷ 0 ∷ 0 ∷ 0 ∷ 0 ∷ 0 ∷ 0 ∷ 0 ∷ 0 ∷ 0 ∷ 0 ∷ 0 ∷ 0 ∷ 0 ∷ 0 ∷ 0 ∷ 0 ∷ []
unfolding row
extended_session_end = refl

-- the last chunk for it, which tells nothing
extended_done : row (extended_chunk_head 1 0 1 0 0) ≡ 0x6e ∷ 0x8a ∷ 0x27 ∷ 0x8c ∷ 0 ∷ 1 ∷ 0 ∷ 0 ∷ 0 ∷ 0 ∷ 0 ∷ 0 ∷ 0 ∷ 0 ∷ 0 ∷ 1 ∷ 0 ∷ 0 ∷ 0 ∷ 0 ∷ 0 ∷ 0 ∷ 0 ∷ 0 ∷ 0 ∷ 0 ∷ 0 ∷ 0 ∷ 0 ∷ 0 ∷ 0 ∷ 0 ∷ []
unfolding row
extended_done = refl

-- of the context 1 one descriptor: 8,192 bytes with the flags 3
extended_status : row (extended_block_status 1 (record { length = 8192; flags = 3 } ∷ [])) ≡ 0 ∷ 0 ∷ 0 ∷ 1 ∷ 0 ∷ 0 ∷ 0 ∷ 1 ∷ 0 ∷ 0 ∷ 0 ∷ 0 ∷ 0 ∷ 0 ∷ 0x20 ∷ 0 ∷ 0 ∷ 0 ∷ 0 ∷ 0 ∷ 0 ∷ 0 ∷ 0 ∷ 3 ∷ []
unfolding row
extended_status = refl
