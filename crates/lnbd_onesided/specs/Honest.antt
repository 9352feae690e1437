-- A file that is only read, and one that is only written: what was asked of it is answered at once.
use Rattle.std.specs.Prelude.{◌≡◌, ℕ, ◌-◌, true, false, List, [], ◌∷◌, ◌++◌, length, get_or}
use Rattle.lnbd_model.specs.declared.kind.Kind.TheVariants.{Read}
use Rattle.lnbd_outcome.specs.Outcome.{Done}
use Rattle.lnbd_history.specs.Commands.{Command}
use Rattle.lnbd_asked.specs.Link.{Nobody}
use Rattle.lnbd_asked.specs.Honest.{Honest, has, covers, Leaves}
use Rattle.lnbd_board.specs.Requests.{Request, Each}
use Rattle.lnbd_onesided.specs.Dealt.{dealt_by, AreApart}

-- a read that told the file's bytes
pub record IsRead (file : List ℕ) (r : Request) : Type 0 where
  pub kind : r.said.command.kind ≡ Read
  pub tells : (bytes : List ℕ) (p : ℕ) → r.said.outcome ≡ Done bytes → has r.said.command p ≡ true → get_or bytes (p - r.said.command.offset) 0 ≡ get_or file p 0

-- A file of which all was read so is honest: it is as it was.
abbrev pub ReadsAreHonest : Type 0
ReadsAreHonest = (file : List ℕ) (asked : List Request) → Each (IsRead file) asked → Honest file (dealt_by (length file) asked) file

-- What a change makes of the file's bytes.
pub record Makes (command : Command Nobody) (old new : List ℕ) : Type 0 where
  pub kept : length new ≡ length old
  pub inside : (p : ℕ) → covers command p ≡ true → Leaves command p (get_or new p 0)
  pub outside : (p : ℕ) → covers command p ≡ false → get_or new p 0 ≡ get_or old p 0

-- a read would tell the start's bytes, where nothing changes them: of a file that is only written none is asked
abbrev pub IsNoRead : Request → Type 0
IsNoRead r = r.said.command.kind ≡ Read → ⊥

-- One change after another was made, the earliest first.
pub data Made (start : List ℕ) : List Request → List ℕ → Type 0 where
  Begins : (asked : List Request) (now : List ℕ) → asked ≡ [] → now ≡ start → Made start asked now
  Then : (asked asked2 : List Request) (now now2 : List ℕ) (r : Request) → Made start asked now → Makes r.said.command now now2 → asked2 ≡ asked ++ r ∷ [] → Made start asked2 now2

-- A file that was only written is honest.
abbrev pub ChangesAreHonest : Type 0
ChangesAreHonest = (start now : List ℕ) (asked : List Request) → AreApart asked → Each IsNoRead asked → Made start asked now → Honest start (dealt_by (length start) asked) now
