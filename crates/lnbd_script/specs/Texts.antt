-- The text of what a line tells, without the end of the line.
use Rattle.std.specs.Prelude.{ℕ, List, ◌++◌, codes, decimal, string_bytes}
use Rattle.lnbd_history.specs.Events.{History}
use Rattle.lnbd_history.specs.Answers.{state_after, in_flight_after, direction_after, peeked_after, info_after, listed_after, log_after, opt_answer_after}
use Rattle.lnbd_texts.specs.States.{state_text}
use Rattle.lnbd_texts.specs.Refusals.{refusal_text, refused_state_text}
use Rattle.lnbd_texts.specs.Results.{completed_text, peeked_text}
use Rattle.lnbd_texts.specs.Notes.{log_text}
use Rattle.lnbd_texts.specs.Information.{info_text}
use Rattle.lnbd_texts.specs.Options.{answer_text, listing_text}
use Rattle.lnbd_script.specs.declared.keeper.Keeper.{Keeper}
use Rattle.lnbd_script.specs.declared.told.Moved.{Moved}
use Rattle.lnbd_script.specs.declared.told.Moved.TheVariants as moved
use Rattle.lnbd_script.specs.declared.told.Told.{Told}
use Rattle.lnbd_script.specs.declared.told.Told.TheVariants as told

abbrev pub moved_text : Moved → List ℕ
moved_text (moved.Bytes n) = codes "moved " ++ decimal n
moved_text moved.NotReady = codes "not-ready"
moved_text moved.Idle = codes "idle"
moved_text moved.Ended = codes "ended"
moved_text moved.Failed = codes "failed"

-- what a line tells after this history
abbrev pub text_of : History Keeper → Told → List ℕ
text_of history told.Gone = codes "gone"
text_of history told.Done = codes "ok"
text_of history told.Connected = codes "connected"
text_of history told.NotConnected = codes "connect failed"
text_of history told.Settled = codes "settled"
text_of history (told.RefusedState state) = refused_state_text state
text_of history (told.RefusedContext most) = codes "refused too-many " ++ decimal most
text_of history told.RefusedUnstructured = codes "refused not-structured"
text_of history (told.RefusedStrict bits) = codes "refused strict " ++ decimal bits
text_of history (told.Cookie cookie) = codes "cookie " ++ decimal cookie
text_of history (told.Refused why) = refusal_text why
text_of history (told.Moved moved) = moved_text moved
text_of history (told.Result completed) = completed_text completed
text_of history (told.Heard lines) = string_bytes lines ++ codes "end"
text_of history (told.Closed opened freed) = codes "closed " ++ decimal opened ++ codes " " ++ decimal freed
text_of history told.Log = log_text (log_after history)
text_of history told.Peek = peeked_text (peeked_after history)
text_of history told.InFlight = decimal (in_flight_after history)
text_of history told.Direction = decimal (direction_after history)
text_of history told.State = state_text (state_after history)
text_of history told.Answer = answer_text (opt_answer_after history)
text_of history told.Listing = listing_text (listed_after history)
text_of history told.Info = info_text (info_after history)

-- The last line of a run: so many callbacks were admitted on all handles, and each was freed.
abbrev pub last_text : ℕ → List ℕ
last_text admitted = codes "opened " ++ decimal admitted ++ codes " freed " ++ decimal admitted

abbrev pub ended : List ℕ → List ℕ
ended text = text ++ codes "\n"
