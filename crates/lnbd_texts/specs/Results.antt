-- What a command came to, and which completed command comes next.
use Rattle.std.specs.Prelude.{ℕ, List, ◌++◌, codes, decimal, length}
use Rattle.lnbd_history.specs.declared.kinds.Completed.{Completed}
use Rattle.lnbd_history.specs.declared.kinds.Completed.TheVariants.{Done, Failed, NotYet, NoSuchCookie}
use Rattle.lnbd_history.specs.declared.kinds.Peeked.{Peeked}
use Rattle.lnbd_history.specs.declared.kinds.Peeked.TheVariants.{Cookie, NoneDone, NoneLeft}
use Rattle.lnbd_texts.specs.Runs.{runs_text}

abbrev pub completed_text : Completed → List ℕ
completed_text (Done bytes) = codes "done " ++ decimal (length bytes) ++ codes " " ++ runs_text bytes
completed_text (Failed error bytes) =
    codes "failed " ++ decimal error ++ codes " " ++ decimal (length bytes) ++ codes " " ++ runs_text bytes
completed_text NotYet = codes "not-yet"
completed_text NoSuchCookie = codes "no-such-cookie"

abbrev pub peeked_text : Peeked → List ℕ
peeked_text (Cookie cookie) = codes "cookie " ++ decimal cookie
peeked_text NoneDone = codes "none-done"
peeked_text NoneLeft = codes "none-left"
