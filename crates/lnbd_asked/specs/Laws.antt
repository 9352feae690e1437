-- Laws of what is read of a link, and of honest servers.
use Rattle.std.specs.Prelude.{◌≡◌, ℕ, ◌+◌, ◌-◌, Bool, true, false, not, ◌&&◌, List, [], ◌∷◌, ◌++◌, get_or, Some, is_some, if◌then◌else◌, ◌==◌}
use Rattle.lnbd_model.specs.declared.kind.Kind.TheVariants as kind
use Rattle.lnbd_link.specs.Call.{Call, Connect, Listen, Accept, Read, Write, Pause, Shut}
use Rattle.lnbd_stream.specs.Laws.{Steady, Front, Fronts}
use Rattle.lnbd_asked.specs.Client.{Said, Flags, Wishes, Orders, Stray, Wish, spell, Fits}
use Rattle.lnbd_asked.specs.Link.{Nobody, Link, Both, client, server, is_extended, next, kind_of, said, is_free, is_by_name, again, after_read}
use Rattle.lnbd_history.specs.Agreement.{phase}
use Rattle.lnbd_history.specs.Commands.{Command}
use Rattle.lnbd_asked.specs.Transcript.{Dealt, after_call, after_calls}
use Rattle.lnbd_asked.specs.Honest.{Honest, Done, Untouched, OnlyOne, has}

-- One call is read after another.
abbrev pub CallsFollow : Type 0
CallsFollow = (link : ℕ) (both : Both) (first second : List Call) → after_calls link both (first ++ second) ≡ after_calls link (after_calls link both first) second

-- whether a call moves bytes of this link, or fails to
abbrev pub is_on : ℕ → Call → Bool
is_on link (Read n room answer) = n == link
is_on link (Write n offered answer) = n == link
is_on link (Connect to given) = false
is_on link (Listen at given) = false
is_on link (Accept n answer) = false
is_on link (Pause wants) = false
is_on link (Shut n) = false

-- Other calls change nothing.
abbrev pub OthersPass : Type 0
OthersPass = (link : ℕ) (both : Both) (call : Call) → is_on link call ≡ false → after_call link both call ≡ both

-- Two reads that follow each other are as one.
abbrev pub ReadsJoin : Type 0
ReadsJoin = (both : Both) (first second : List ℕ) → after_read second (after_read first both) ≡ after_read (first ++ second) both

-- What a client says shows whatever follows, and so does what a server says.
abbrev pub SidesAreSteady : Type 0
SidesAreSteady = Steady client × Steady server

-- A client that has sent its flags says these things, where its next request is the n + 1st: options, and requests in order of their cookies,
-- with extended headers or without.
abbrev pub AreSaid : (extended : Bool) → ℕ → List Said → Type 0
AreSaid extended n [] = Unit {0}
AreSaid extended n (Flags flags ∷ more) = ⊥
AreSaid extended n (Wishes wish ∷ more) = Fits extended (Wishes wish) × AreSaid extended n more
AreSaid extended n (Orders order ∷ more) =
    Fits extended (Orders order) × (is_some (kind_of order.type) ≡ true → order.cookie ≡ n) × AreSaid extended (if is_some (kind_of order.type) then n + 1 else n) more
AreSaid extended n (Stray ∷ more) = ⊥

-- They are read so: each is shown by its bytes, and not before.
abbrev pub WhatIsSaidIsRead : Type 0
WhatIsSaidIsRead = (extended : Bool) (link : Link) (all : List Said) → link.strayed ≡ false → link.greeted ≡ true → is_extended link ≡ extended →
    AreSaid extended (next link) all → Fronts client (λ one. one) (spell extended) link all

abbrev pub FlagsAreRead : Type 0
FlagsAreRead = (extended : Bool) (link : Link) (flags : ℕ) → link.strayed ≡ false → link.greeted ≡ false → Fits extended (Flags flags) →
    Front client link (spell extended (Flags flags)) (Flags flags)

-- Two ways of dealing that are the same under each link and cookie.
pub record Agree (one other : Dealt) : Type 0 where
  pub asked : (link cookie : ℕ) → one.asked link cookie ≡ other.asked link cookie
  pub outcome : (link cookie : ℕ) → one.outcome link cookie ≡ other.outcome link cookie
  pub zero : (link cookie p : ℕ) → one.zero link cookie p ≡ other.zero link cookie p
  pub size : (link : ℕ) → one.size link ≡ other.size link

-- What is honest over one is honest over the other: the order of calls doesn't count, nor that of requests.
abbrev pub SameIsAsHonest : Type 0
SameIsAsHonest = (start end : List ℕ) (one other : Dealt) → Agree one other → Honest start one end → Honest start other end

-- A READ of the source that is done told the position's byte, and the one WRITE of the destination over the position is done and has it.
pub record IsCopied (from to : Dealt) (p : ℕ) : Type 0 where
  pub link : ℕ
  pub cookie : ℕ
  pub read : Command Nobody
  pub bytes : List ℕ
  pub asked : from.asked link cookie ≡ Some read
  pub reads : read.kind ≡ kind.Read
  pub told : Done from link cookie bytes
  pub has : has read p ≡ true
  pub untouched : Untouched from p
  pub link' : ℕ
  pub cookie' : ℕ
  pub write : Command Nobody
  pub kept : List ℕ
  pub one : OnlyOne to link' cookie' write p
  pub writes : write.kind ≡ kind.Write
  pub done : Done to link' cookie' kept
  pub same : get_or write.payload (p - write.offset) 0 ≡ get_or bytes (p - read.offset) 0

-- Over honest servers the destination then holds the source's byte.
abbrev pub CopiedIsHeld : Type 0
CopiedIsHeld = (source destination end : List ℕ) (from to : Dealt) (p : ℕ) → Honest source from source → Honest destination to end → IsCopied from to p → get_or end p 0 ≡ get_or source p 0

-- no option is unanswered, and the last wasn't EXPORT_NAME: what comes waits
abbrev pub is_waiting : Link → Bool
is_waiting link = is_free (phase link.heard.turns) && not (is_by_name link.wishes)

-- a wish more, by which what waited is read
abbrev pub asking : Wish → Both → Both
asking wish both = again (record both { link = said (Wishes wish) both.link })

-- It doesn't matter whether a server answers an option before it is asked.
abbrev pub EarlyIsReadLate : Type 0
EarlyIsReadLate = (both : Both) (wish : Wish) (bytes : List ℕ) → is_waiting both.link ≡ true → asking wish (after_read bytes both) ≡ after_read bytes (asking wish both)
