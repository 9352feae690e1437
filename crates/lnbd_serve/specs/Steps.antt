-- Words on the code's own steps.
use Rattle.std.specs.Prelude.{◌≡◌, ℕ, ◌+◌, ◌-◌, ◌≤◌, ◌<◌, Bool, true, false, if◌then◌else◌, List, [], length, take, Option, Result, Ok, Err}
use Rattle.std.specs.List.{list_any, sum_by}
use Rattle.lnbd_export.specs.Export.{Export}
use Rattle.lnbd_link.specs.Call.{Call}
use Rattle.lnbd_link.specs.Count.{Rises}
use Rattle.lnbd_link.specs.Part.{Grows}
use Rattle.lnbd_export.specs.Requests.{reply}
use Rattle.lnbd_export.specs.declared.request.Agreed.{Agreed}
use Rattle.lnbd_export.specs.declared.request.Request.{Request}
use Rattle.lnbd_server.specs.Client.{max_client}
use Rattle.lnbd_server.specs.Replies.{put_reply}
use Rattle.lnbd_server.specs.Session.{Session, Takes}
use Rattle.lnbd_serve.specs.declared.guest.Guest.{Guest}
use Rattle.lnbd_serve.specs.declared.guest.Doing.{Doing}
use Rattle.lnbd_serve.specs.declared.guest.Doing.TheVariants as doing
use Rattle.lnbd_serve.specs.declared.guest.Halt.{Halt}
use Rattle.lnbd_serve.specs.declared.guest.Halt.TheVariants as halt
use Rattle.lnbd_serve.specs.Calm.{is_moving, is_unread, is_unwritten, was_since}
use Rattle.lnbd_serve.specs.Guests.{Step, Steps, is_over, out_of, waiting_of}
use Rattle.lnbd_serve.specs.Halls.{IsIdle}

-- These calls were made, and so they lead.
pub record Went (told told' : Option (List Call)) (Leads : List Call → Type 0) : Type 0 where
  pub calls : List Call
  pub grown : Grows told told' calls
  pub leads : Leads calls

-- Counts.

abbrev pub is_link : Halt → Bool
is_link halt.Link = true
is_link halt.NoMemory = false
is_link halt.Silent = false

-- a link is blamed
abbrev pub blames : {A : Type 0} → Result A Halt → Bool
blames (Ok value) = false
blames (Err why) = is_link why

-- The counts never fall, and a link is blamed only where the count of faults rose.
pub record Counts (blamed : Bool) (faults faults' idles idles' : ℕ) : Type 0 where
  pub faults_later : faults ≤ faults'
  pub idles_later : idles ≤ idles'
  pub cause : blamed ≡ true → Rises 1 faults faults'

-- What is still to come of a client at most: each byte of it, and that its session is over, and its end.
abbrev pub left : Guest → ℕ
left guest = if guest.gone then 0 else (if is_over guest then 1 else 2 + (max_client - guest.session.came))

-- how many bytes the reply to a request would have now, and one more
unfoldable pub reply_size : Agreed → Export → Request → ℕ
reply_size agreed export request = length (put_reply agreed.replies request (reply agreed export request)) + 1

-- how many bytes wait to go out to a client, and what the replies that are pending would add
abbrev pub owed : Export → Guest → ℕ
owed export guest = length (out_of guest) + sum_by (reply_size guest.session.dialogue.agreed export) (waiting_of guest)

-- but for its bytes that go out it is as it was
abbrev pub IsAsBefore : Guest → Guest → Type 0
IsAsBefore before after = after ≡ record before { session = record before.session { dialogue = record before.session.dialogue { out = out_of after } }; full = after.full }

-- one write; whether a byte moved
pub record Wrote (moved : Bool) (before : Guest) (calls : List Call) (after : Guest) : Type 0 where
  pub step : (export : Export) → Step before export calls after export
  pub same : IsAsBefore before after
  pub none : moved ≡ false → (list_any is_moving calls ≡ false) × (was_since (is_unwritten before.link) calls ≡ true) × (after.full ≡ true)
  pub less : moved ≡ true → length (out_of after) < length (out_of before)
  pub no_more : length (out_of after) ≤ length (out_of before)

-- it wrote so far; whether a byte moved
pub record Flushing (moved : Bool) (before : Guest) (calls : List Call) (after : Guest) : Type 0 where
  pub steps : (export : Export) → Steps before export calls after export
  pub same : IsAsBefore before after
  pub calm : moved ≡ false → list_any is_moving calls ≡ false
  pub less : moved ≡ true → length (out_of after) < length (out_of before)
  pub no_more : length (out_of after) ≤ length (out_of before)

-- it wrote until nothing waits or a write took nothing
pub record Flushed (moved : Bool) (before : Guest) (calls : List Call) (after : Guest) : Type 0 where
  pub writes : Flushing moved before calls after
  pub full : 0 < length (out_of after) → was_since (is_unwritten after.link) calls ≡ true
  pub sent : after.full ≡ false → out_of after ≡ []

-- it wrote, made the first reply that was pending, if one was, and wrote
pub record Replied (before : Guest) (export : Export) (calls : List Call) (after : Guest) : Type 0 where
  pub steps : Steps before export calls after export
  pub left_same : left after ≡ left before

-- it made the first reply that was pending, and wrote
pub record RepliedOnce (before : Guest) (export : Export) (calls : List Call) (after : Guest) : Type 0 where
  pub steps : Steps before export calls after export
  pub less : owed export after < owed export before
  pub left_same : left after ≡ left before

-- Only the first of the bytes were taken, for want of memory.
abbrev pub TakesPart : Session → Export → List ℕ → Session → Export → Halt → Type 0
TakesPart before start bytes after end why = (why ≡ halt.NoMemory) × ((taken : ℕ) × (taken ≤ length bytes) × Takes before start (take taken bytes) after end)

-- the first of the replies to what was read is made, or the client sends no more
pub record GoesOn (before : Guest) (export : Export) (calls : List Call) (after : Guest) : Type 0 where
  pub steps : Steps before export calls after export
  pub left_same : left after ≡ left before

-- one read; whether anything came
pub record HasRead (came : Bool) (before : Guest) (export : Export) (calls : List Call) (after : Guest) (export' : Export) : Type 0 where
  pub step : Step before export calls after export'
  pub none : came ≡ false → (after ≡ before) × (list_any is_moving calls ≡ false) × (was_since (is_unread before.link) calls ≡ true) × (export' ≡ export)
  pub news : came ≡ true → left after < left before

abbrev pub doing_of : Bool → Doing
doing_of true = doing.Sent
doing_of false = doing.Still

abbrev pub is_news : Doing → Bool
is_news doing.News = true
is_news doing.Still = false
is_news doing.Sent = false

abbrev pub both : Doing → Doing → Doing
both doing.News other = doing.News
both doing.Still other = other
both doing.Sent doing.News = doing.News
both doing.Sent doing.Still = doing.Sent
both doing.Sent doing.Sent = doing.Sent

-- a client's turn
pub record Attended (did : Doing) (before : Guest) (export : Export) (calls : List Call) (after : Guest) (export' : Export) : Type 0 where
  pub steps : Steps before export calls after export'
  pub kept : is_news did ≡ false → export' ≡ export
  pub still : did ≡ doing.Still → (list_any is_moving calls ≡ false) × IsIdle calls after × (owed export after ≤ owed export before)
  pub sent : did ≡ doing.Sent → owed export after < owed export before
  pub news : did ≡ doing.News → left after < left before
