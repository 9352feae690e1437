-- What a server may lawfully say in negotiation is told, and no breach: the protocol's "Fixed newstyle negotiation", "Option haggling" and "Option
-- reply types". The rules are said here by the records' own fields, and not by how a client tests them.
use Rattle.std.specs.Prelude.{◌≡◌, ◌≢◌, ℕ, ◌^◌, ◌<◌, ◌≤◌, true, List, ◌++◌, length, Some, ◌⊎◌}
use Rattle.lnbd_model.specs.Text.{IsText}
use Rattle.lnbd_records.specs.Flags.{flag_fixed_newstyle}
use Rattle.lnbd_records.specs.Handshake.{hello, option_reply_head}
use Rattle.lnbd_records.specs.Limits.{max_listed, max_option_reply, max_replies}
use Rattle.lnbd_records.specs.Numbers.{IsRowThen, has_bit}
use Rattle.lnbd_records.specs.Options.{opt_go, opt_info, opt_list, opt_set_meta_context}
use Rattle.lnbd_records.specs.Replies.{Tells}
use Rattle.lnbd_records.specs.Told.{Told, Size}
use Rattle.lnbd_records.specs.Told as told
use Rattle.lnbd_history.specs.Arrivals.{Hello, OptionReply, Sight, shows_hello, shows_option}
use Rattle.lnbd_history.specs.declared.kinds.Phase.TheVariants.{Asked}

-- The hello.

-- The hello of a server that speaks the fixed newstyle is told, whatever follows it.
abbrev pub LawfulHellosAreTold : Type 0
LawfulHellosAreTold = (flags : ℕ) (rest bytes : List ℕ) → IsRowThen (hello flags) rest bytes → has_bit flag_fixed_newstyle flags ≡ true → shows_hello bytes ≡ Some (Hello flags)

-- Option replies.

-- each text that is told is one
abbrev pub HasTexts : Told → Type 0
HasTexts (told.Server listed) = IsText listed.name × IsText listed.description
HasTexts (told.Name name) = IsText name
HasTexts (told.Description description) = IsText description
HasTexts (told.Context context) = IsText context.name
HasTexts told.Ack = Unit {0}
HasTexts (told.Error code) = Unit {0}
HasTexts (told.Export size) = Unit {0}
HasTexts (told.Blocks blocks) = Unit {0}
HasTexts told.Passed = Unit {0}

-- information comes to INFO and GO, and not too much of it
abbrev pub MayInform : Sight → (option : ℕ) → Type 0
MayInform sight option = ((option ≡ opt_info) ⊎ (option ≡ opt_go)) × (sight.count < max_replies)

-- What may come to an option, behind what came before: SERVER to LIST, INFO to INFO and GO, META_CONTEXT to SET_META_CONTEXT, an error to each; an
-- ACK to each, but to INFO and GO only behind the export's size, which is less than 2^63.
abbrev pub MayCome : Sight → (option : ℕ) → Told → Type 0
MayCome sight option told.Ack = ((option ≢ opt_info) × (option ≢ opt_go)) ⊎ ((size : Size) × (sight.size ≡ Some size))
MayCome sight option (told.Error code) = Unit {0}
MayCome sight option (told.Server listed) = (option ≡ opt_list) × (sight.count < max_listed)
MayCome sight option (told.Export size) = MayInform sight option × (size.size < 2 ^ 63)
MayCome sight option (told.Name name) = MayInform sight option
MayCome sight option (told.Description description) = MayInform sight option
MayCome sight option (told.Blocks blocks) = MayInform sight option
MayCome sight option told.Passed = MayInform sight option
MayCome sight option (told.Context context) = (option ≡ opt_set_meta_context) × (sight.count < max_replies)

-- The bytes begin with a reply that may come to the option that is unanswered, and its body tells this.
pub record BeginsWithLawfulAnswer (sight : Sight) (told : Told) (bytes : List ℕ) : Type 0 where
  pub option : ℕ
  pub type : ℕ
  pub body : List ℕ
  pub rest : List ℕ
  pub spelled : IsRowThen (option_reply_head option type (length body)) (body ++ rest) bytes
  pub asked : sight.phase ≡ Asked option
  pub tells : Tells type body told
  pub short : length body ≤ max_option_reply
  pub texts : HasTexts told
  pub comes : MayCome sight option told

-- It is told just as it stands, whatever follows it, and is no breach.
abbrev pub LawfulAnswersAreTold : Type 0
LawfulAnswersAreTold = (sight : Sight) (told : Told) (bytes : List ℕ) → BeginsWithLawfulAnswer sight told bytes → shows_option sight bytes ≡ Some (OptionReply told)
