-- What an option reply tells: the protocol's "Option reply types" and "Metadata and information types".
use Rattle.std.specs.Prelude.{ℕ, Bool, List}
use Rattle.lnbd_model.specs.declared.export.Listed.{Listed}
use Rattle.lnbd_model.specs.declared.export.Blocks.{Blocks as BlockSizes}
use Rattle.lnbd_model.specs.declared.export.Context.{Context as MetaContext}

-- an export's size and its transmission flags
pub record Size : Type 0 where
  pub size : ℕ
  pub flags : ℕ

pub data Told : Type 0 where
  Ack : Told
  -- an error; the code is the reply's type less 2^31
  Error : (code : ℕ) → Told
  Server : Listed → Told
  Export : Size → Told
  Name : List ℕ → Told
  Description : List ℕ → Told
  Blocks : BlockSizes → Told
  -- information that counts for nothing
  Passed : Told
  Context : MetaContext → Told

-- A reply's body that fits the form of its type: what it tells, and whether its texts are texts.
pub record Body : Type 0 where
  pub told : Told
  pub texts : Bool
