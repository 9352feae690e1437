-- One client of a server: its link, its session, and what the calls on the link do.
use Rattle.std.specs.Prelude.{◌≡◌, ℕ, ◌≤◌, ◌<◌, Bool, true, false, ◌&&◌, ◌||◌, List, [], ◌∷◌, ◌++◌, length, take, drop}
use Rattle.lnbd_export.specs.Export.{Export}
use Rattle.lnbd_export.specs.declared.request.Request.{Request}
use Rattle.lnbd_link.specs.Call.{Call, Read, Write, Moved, Unready, Ended, ReadFault, Sent, Full, WriteFault}
use Rattle.lnbd_server.specs.Session.{Session, Takes, Answers, is_closed}
use Rattle.lnbd_serve.specs.declared.guest.Guest.{Guest}
use Rattle.lnbd_serve.specs.declared.guest.Halt.{Halt}
use Rattle.lnbd_serve.specs.declared.guest.Halt.TheVariants as halt

abbrev pub out_of : Guest → List ℕ
out_of guest = guest.session.dialogue.out

abbrev pub waiting_of : Guest → List Request
waiting_of guest = guest.session.dialogue.waiting

-- DISC or ABORT was read, or the bytes were no client's
abbrev pub is_over : Guest → Bool
is_over guest = is_closed guest.session.dialogue.stage

abbrev pub is_empty : {A : Type 0} → List A → Bool
is_empty [] = true
is_empty (x ∷ xs) = false

-- The client's end came, or the session is over and all its replies went out.
abbrev pub is_done : Guest → Bool
is_done guest = guest.gone || (is_over guest && (is_empty (waiting_of guest) && is_empty (out_of guest)))

-- A link is read only where its session isn't over, no reply of it is pending, and no byte waits or its last write took nothing.
pub record MayRead (guest : Guest) : Type 0 where
  pub here : guest.gone ≡ false
  pub open_ : is_over guest ≡ false
  pub answered : waiting_of guest ≡ []
  pub sent : guest.full ≡ false → out_of guest ≡ []

abbrev pub with_session : Session → Guest → Guest
with_session session guest = record guest { session = session }

-- so many bytes of those that wait went out
abbrev pub gave : ℕ → Guest → Guest
gave n guest = record guest { session = record guest.session { dialogue = record guest.session.dialogue { out = drop n (out_of guest) } }; full = false }

-- One thing that is done for a client; the export is that of all.
pub data Step : Guest → Export → List Call → Guest → Export → Type 0 where
  -- a write took some of the bytes that wait
  Sends : (before : Guest) (export : Export) (calls : List Call) (after : Guest) (export' : Export) (n : ℕ) → 0 < n → n ≤ length (out_of before) → calls ≡ Write before.link (length (out_of before)) (Sent (take n (out_of before))) ∷ []
      → after ≡ gave n before → export' ≡ export → Step before export calls after export'
  -- a write took none of them
  Waits : (before : Guest) (export : Export) (calls : List Call) (after : Guest) (export' : Export) → 0 < length (out_of before) → calls ≡ Write before.link (length (out_of before)) Full ∷ []
      → after ≡ record before { full = true } → export' ≡ export → Step before export calls after export'
  -- the first pending reply was made
  Replies : (before : Guest) (export : Export) (calls : List Call) (after : Guest) (export' : Export) (session : Session) → 0 < length (waiting_of before) → Answers before.session 0 export session → calls ≡ []
      → after ≡ with_session session before → export' ≡ export → Step before export calls after export'
  -- bytes came, and were taken
  Hears : (before : Guest) (export : Export) (calls : List Call) (after : Guest) (export' : Export) (room : ℕ) (bytes : List ℕ) (session : Session) → MayRead before → 0 < length bytes → calls ≡ Read before.link room (Moved bytes) ∷ []
      → Takes before.session export bytes session export' → after ≡ with_session session before → Step before export calls after export'
  -- no byte had come
  Hears_none : (before : Guest) (export : Export) (calls : List Call) (after : Guest) (export' : Export) (room : ℕ) → MayRead before → calls ≡ Read before.link room Unready ∷ [] → after ≡ before → export' ≡ export
      → Step before export calls after export'
  -- the client sends no more
  Hears_end : (before : Guest) (export : Export) (calls : List Call) (after : Guest) (export' : Export) (room : ℕ) → MayRead before → calls ≡ Read before.link room Ended ∷ [] → after ≡ record before { gone = true } → export' ≡ export
      → Step before export calls after export'

-- One thing after another. For a client that is done nothing more is done.
pub data Steps : Guest → Export → List Call → Guest → Export → Type 0 where
  No_more : (before : Guest) (export : Export) (calls : List Call) (after : Guest) (export' : Export) → calls ≡ [] → after ≡ before → export' ≡ export → Steps before export calls after export'
  Then : (before : Guest) (export : Export) (calls : List Call) (after : Guest) (export' : Export) (own : List Call) (middle : Guest) (half : Export) (other : List Call) → is_done before ≡ false
      → Step before export own middle half → Steps middle half other after export' → calls ≡ own ++ other → Steps before export calls after export'

-- What ends a run: a call on the client's link failed, or memory ran out, for a reply or after the first of the bytes that came.
pub data Breaks : Guest → Export → List Call → Guest → Export → Halt → Type 0 where
  Write_fails : (before : Guest) (export : Export) (calls : List Call) (after : Guest) (export' : Export) (why : Halt) → 0 < length (out_of before) → calls ≡ Write before.link (length (out_of before)) WriteFault ∷ []
      → after ≡ before → export' ≡ export → why ≡ halt.Link → Breaks before export calls after export' why
  Read_fails : (before : Guest) (export : Export) (calls : List Call) (after : Guest) (export' : Export) (why : Halt) (room : ℕ) → MayRead before → calls ≡ Read before.link room ReadFault ∷ []
      → after ≡ before → export' ≡ export → why ≡ halt.Link → Breaks before export calls after export' why
  Lacks_reply : (before : Guest) (export : Export) (calls : List Call) (after : Guest) (export' : Export) (why : Halt) → 0 < length (waiting_of before) → calls ≡ [] → after ≡ before → export' ≡ export
      → why ≡ halt.NoMemory → Breaks before export calls after export' why
  Hears_part : (before : Guest) (export : Export) (calls : List Call) (after : Guest) (export' : Export) (why : Halt) (room : ℕ) (bytes : List ℕ) (taken : ℕ) (session : Session) → MayRead before
      → calls ≡ Read before.link room (Moved bytes) ∷ [] → taken ≤ length bytes → Takes before.session export (take taken bytes) session export' → after ≡ with_session session before → why ≡ halt.NoMemory
      → Breaks before export calls after export' why

-- Things are done for a client, and then this ends the run.
pub record Halts (before : Guest) (export : Export) (calls : List Call) (after : Guest) (export' : Export) (why : Halt) : Type 0 where
  pub own : List Call
  pub middle : Guest
  pub half : Export
  pub last : List Call
  pub steps : Steps before export own middle half
  pub breaks : Breaks middle half last after export' why
  pub calls_are : calls ≡ own ++ last
