-- What a caller asks for, and what is taken of a command that is completed.
use Rattle.std.specs.Prelude.{ℕ}
use Rattle.lnbd_history.specs.declared.kinds.Completed.{Completed}
use Rattle.lnbd_history.specs.declared.kinds.Completed.TheVariants.{Done, Failed, NotYet, NoSuchCookie}
use Rattle.lnbd_history.specs.Commands.{Command}
use Rattle.lnbd_commands.specs.declared.row.Asked.{Asked}
use Rattle.lnbd_commands.specs.Commands.{Commands, retiring}

module _ {K : Type 0} where
  -- the command, with the bytes of its buffer
  abbrev pub command_of : Asked K → Command K
  command_of asked = record {
    kind = asked.kind;
    flags = asked.flags;
    offset = asked.offset;
    length = asked.length;
    payload = asked.buf.items;
    first = asked.first;
    done = asked.done;
  }

  -- A result that is taken retires its command.
  abbrev pub taking : Completed → ℕ → Commands K → Commands K
  taking (Done bytes) cookie commands = retiring cookie commands
  taking (Failed error bytes) cookie commands = retiring cookie commands
  taking NotYet cookie commands = commands
  taking NoSuchCookie cookie commands = commands
