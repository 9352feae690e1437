-- The heads of option replies, and what is read where one is wanted.
use Rattle.std.specs.Prelude.{List}
use Rattle.lnbd_records.specs.Numbers.{Field}
use Rattle.lnbd_records.specs.Fronts.{Front, Whole, Short, Other}
use Rattle.lnbd_records.specs.Handshake.{option_reply_head}
use Rattle.lnbd_options.specs.declared.head.OptionHead.{OptionHead}
use Rattle.lnbd_options.specs.declared.head.Read64.{Read64}
use Rattle.lnbd_options.specs.declared.head.Read64.TheVariants.{Value, NeedMore, BadMagic}

abbrev pub reply_fields : OptionHead → List Field
reply_fields head = option_reply_head head.option head.kind head.length

-- what is said of the front of some bytes
abbrev pub front_of : {T : Type 0} → Read64 T → Front T
front_of (Value head) = Whole head
front_of NeedMore = Short
front_of (BadMagic other) = Other other
