-- Yes or no questions about an export: nbdinfo(1), "--is" and "--can". Most are answered by one of the protocol's "Transmission flags".
use Rattle.std.specs.Prelude.{Bool, true, false, not}
use Rattle.lnbd_model.specs.declared.export.ExportInfo.{ExportInfo}
use Rattle.lnbd_records.specs.Flags.{flag_can_multi_conn, flag_read_only, flag_rotational, flag_send_cache, flag_send_df, flag_send_fast_zero, flag_send_flush, flag_send_fua, flag_send_trim, flag_send_write_zeroes}
use Rattle.lnbd_records.specs.Numbers.{has_bit}
use Rattle.lnbd_args.specs.declared.asked.Predicate.{Predicate}
use Rattle.lnbd_args.specs.declared.asked.Predicate.TheVariants.{IsReadOnly, IsRotational, IsTls, CanCache, CanDf, CanFastZero, CanFlush, CanFua, CanMultiConn, CanTrim, CanZero, CanWrite, CanRead, CanConnect, CanStructuredReply}

-- the answer, by what was told of the export: TLS is never spoken, and an export that was told of can be connected to and read
abbrev pub is_true_of : Predicate → ExportInfo → Bool
is_true_of IsReadOnly info = has_bit flag_read_only info.flags
is_true_of IsRotational info = has_bit flag_rotational info.flags
is_true_of IsTls info = false
is_true_of CanCache info = has_bit flag_send_cache info.flags
is_true_of CanDf info = has_bit flag_send_df info.flags
is_true_of CanFastZero info = has_bit flag_send_fast_zero info.flags
is_true_of CanFlush info = has_bit flag_send_flush info.flags
is_true_of CanFua info = has_bit flag_send_fua info.flags
is_true_of CanMultiConn info = has_bit flag_can_multi_conn info.flags
is_true_of CanTrim info = has_bit flag_send_trim info.flags
is_true_of CanZero info = has_bit flag_send_write_zeroes info.flags
is_true_of CanWrite info = not (has_bit flag_read_only info.flags)
is_true_of CanRead info = true
is_true_of CanConnect info = true
is_true_of CanStructuredReply info = info.structured
