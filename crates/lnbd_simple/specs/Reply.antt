-- What a simple reply says of its command: the protocol's "Simple reply message".
use Rattle.std.specs.Prelude.{ℕ, Bool, false, ◌==◌, if◌then◌else◌}
use Rattle.lnbd_model.specs.Errors.{error_of}
use Rattle.lnbd_model.specs.declared.errors.TheConstants.{EPROTO}
use Rattle.lnbd_model.specs.declared.kind.Kind.{Kind}
use Rattle.lnbd_model.specs.declared.kind.Kind.TheVariants.{Read, BlockStatus}

-- where structured replies were negotiated, a simple reply is no lawful answer to a read
abbrev pub breaks : Kind → Bool → Bool
breaks Read structured = structured
breaks _ structured = false

-- The error of the command, 0 being none: the one that the reply tells. A block status that is answered without one lacks
-- its extents, which is a fault of the reply.
abbrev pub reply_error : Kind → ℕ → ℕ
reply_error BlockStatus told = if told == 0 then EPROTO else error_of told
reply_error _ told = error_of told
