-- An export has as many bytes behind serving as before, however it ends.
use Rattle.std.proofs.Common.{◌≡◌, ℕ, ◌+◌, ◌-◌, Bool, true, false, List, [], length, take, nat_le, Ok, Err, refl, ap, sym, subst, ◌∙◌, if◌then◌else◌}
use Rattle.lnbd_stream.specs.Stream.{Held, feed}
use Rattle.lnbd_stream.specs.Laws.{Lasts}
use Rattle.lnbd_stream.proofs.Stream.{feed_lasts}
use Rattle.lnbd_link.specs.Call.{Call}
use Rattle.lnbd_export.specs.Export.{Export}
use Rattle.lnbd_server.specs.declared.stage.Offers.{Offers}
use Rattle.lnbd_server.specs.declared.stage.Stage.TheVariants.{Strayed}
use Rattle.lnbd_server.specs.Client.{Said, Flags, OptionRequest, Asks, Disconnect, Stray, Ignored, max_client}
use Rattle.lnbd_server.specs.Session.{State, Session, Takes, rules, entering, past_limit, with_export, is_closed}
use Rattle.lnbd_serve.specs.declared.guest.Guest.{Guest}
use Rattle.lnbd_serve.specs.declared.guest.Halt.{Halt}
use Rattle.lnbd_serve.specs.declared.fault.ServeFault.TheVariants as fault
use Rattle.lnbd_serve.specs.Guests.{Step, Sends, Waits, Replies, Hears, Hears_none, Hears_end, Steps, No_more, Then, Breaks, Write_fails, Read_fails, Lacks_reply, Hears_part, Halts}
use Rattle.lnbd_serve.specs.Halls.{Hall, Does, Welcomes, Nobody, Attends, Leaves, Works, No_work, Work, Serves, Works_on, Pauses, Stops, Accept_fails, Lacks_place, Lacks_room, Turn_breaks, Ends, Stops_so, Waits_too_long, ServesUntil}
use Rattle.lnbd_serve.specs.Served.{CutOff}
use Rattle.lnbd_served.proofs.Effects.{effect_alike}
use Rattle.lnbd_served.proofs.Sized.{IsSized, says_sized}
use Rattle.lnbd_child.specs.Serving.{IsAsLong, ServingKeepsLength}

same : (one two : Export) → two ≡ one → IsAsLong one two
same one two e = ap (λ (x : Export). length x.bytes) e

-- What a client says.

entered : (offers : Offers) (said : Said) (state : State) → IsSized said → IsAsLong state.export (entering offers said state).export
entered offers (Flags flags) state sized = refl
entered offers (OptionRequest option body) state sized = refl
entered offers (Asks request payload) state sized = (effect_alike state.agreed request payload state.export sized).0
entered offers Disconnect state sized = refl
entered offers Stray state sized = refl
entered offers Ignored state sized = refl

lasts : (offers : Offers) (start : Export) → Lasts (rules offers) (λ (state : State). IsAsLong start state.export)
lasts offers start state bytes found long shown = entered offers found.said state (says_sized _ _ bytes found shown) ∙ long

fed : (offers : Offers) (held : Held State) (bytes : List ℕ) → IsAsLong held.known.export (feed (rules offers) held bytes).known.export
fed offers held bytes = feed_lasts (rules offers) (λ (state : State). IsAsLong held.known.export state.export) (lasts offers held.known.export) held bytes refl

past : (held : Held State) (start : Export) → IsAsLong start held.known.export → IsAsLong start (past_limit held).known.export
past held start long = go (is_closed held.known.stage)
  where
    go : (b : Bool) → IsAsLong start (if b then held else record { known = record held.known { stage = Strayed }; pending = [] }).known.export
    go true = long
    go false = long

takes_length : (before after : Session) (start end : Export) (bytes : List ℕ) → Takes before start bytes after end → IsAsLong start end
takes_length before after start end bytes takes = subst (λ (h : Held State). IsAsLong start h.known.export) takes.fed (go (nat_le (before.came + length bytes) max_client))
  where
    go : (b : Bool) → IsAsLong start (if b then feed (rules before.offers) (with_export before.dialogue start) bytes
        else past_limit (feed (rules before.offers) (with_export before.dialogue start) (take (max_client - before.came) bytes))).known.export
    go true = fed before.offers (with_export before.dialogue start) bytes
    go false = past (feed (rules before.offers) (with_export before.dialogue start) (take (max_client - before.came) bytes)) start (fed before.offers (with_export before.dialogue start) (take (max_client - before.came) bytes))

-- What is done for a client.

step_length : (guest : Guest) (start : Export) (calls : List Call) (guest' : Guest) (end : Export) → Step guest start calls guest' end → IsAsLong start end
step_length guest start calls guest' end (Sends _ _ _ _ _ n some fits made after is) = same start end is
step_length guest start calls guest' end (Waits _ _ _ _ _ some made after is) = same start end is
step_length guest start calls guest' end (Replies _ _ _ _ _ session some answers made after is) = same start end is
step_length guest start calls guest' end (Hears _ _ _ _ _ room bytes session may some made takes after) = takes_length guest.session session start end bytes takes
step_length guest start calls guest' end (Hears_none _ _ _ _ _ room may made after is) = same start end is
step_length guest start calls guest' end (Hears_end _ _ _ _ _ room may made after is) = same start end is

steps_length : (guest : Guest) (start : Export) (calls : List Call) (guest' : Guest) (end : Export) → Steps guest start calls guest' end → IsAsLong start end
steps_length guest start calls guest' end (No_more _ _ _ _ _ made after is) = same start end is
steps_length guest start calls guest' end (Then _ _ _ _ _ own middle half other done step steps made) = steps_length middle half other guest' end steps ∙ step_length guest start own middle half step

breaks_length : (guest : Guest) (start : Export) (calls : List Call) (guest' : Guest) (end : Export) (why : Halt) → Breaks guest start calls guest' end why → IsAsLong start end
breaks_length guest start calls guest' end why (Write_fails _ _ _ _ _ _ some made after is blames) = same start end is
breaks_length guest start calls guest' end why (Read_fails _ _ _ _ _ _ room may made after is blames) = same start end is
breaks_length guest start calls guest' end why (Lacks_reply _ _ _ _ _ _ some made after is blames) = same start end is
breaks_length guest start calls guest' end why (Hears_part _ _ _ _ _ _ room bytes taken session may made fits takes after blames) = takes_length guest.session session start end (take taken bytes) takes

halts_length : (guest : Guest) (start : Export) (calls : List Call) (guest' : Guest) (end : Export) (why : Halt) → Halts guest start calls guest' end why → IsAsLong start end
halts_length guest start calls guest' end why h = breaks_length h.middle h.half h.last guest' end why h.breaks ∙ steps_length guest start h.own h.middle h.half h.steps

-- What is done for all.

module _ (listener limit : ℕ) where
  hall_same : (before after : Hall) → after ≡ before → IsAsLong before.export after.export
  hall_same before after e = ap (λ (h : Hall). length h.export.bytes) e

  does_length : (before : Hall) (calls : List Call) (after : Hall) → Does listener limit before calls after → IsAsLong before.export after.export
  does_length before calls after (Welcomes _ _ _ link rests accepting made is) = ap (λ (h : Hall). length h.export.bytes) is
  does_length before calls after (Nobody _ _ _ rests accepting made is) = hall_same before after is
  does_length before calls after (Attends _ _ _ at guest guest' export' rests inside found steps is) = ap (λ (h : Hall). length h.export.bytes) is ∙ steps_length guest before.export calls guest' export' steps
  does_length before calls after (Leaves _ _ _ at guest inside found done made is) = ap (λ (h : Hall). length h.export.bytes) is

  works_length : (before : Hall) (calls : List Call) (after : Hall) → Works listener limit before calls after → IsAsLong before.export after.export
  works_length before calls after (No_work _ _ _ made is) = hall_same before after is
  works_length before calls after (Work _ _ _ own middle other does works made) = works_length middle other after works ∙ does_length before own middle does

  serves_length : (before : Hall) (calls : List Call) (after : Hall) → Serves listener limit before calls after → IsAsLong before.export after.export
  serves_length before calls after (Works_on _ _ _ works) = works_length before calls after works
  serves_length before calls after (Pauses _ _ _ own middle other works rests some still serves made) = serves_length middle other after serves ∙ works_length before own middle works

  stops_length : (before : Hall) (calls : List Call) (after : Hall) (why : Halt) → Stops listener limit before calls after why → IsAsLong before.export after.export
  stops_length before calls after why (Accept_fails _ _ _ _ accepting made is blames) = hall_same before after is
  stops_length before calls after why (Lacks_place _ _ _ _ link accepting made is blames) = hall_same before after is
  stops_length before calls after why (Lacks_room _ _ _ _ made is blames) = hall_same before after is
  stops_length before calls after why (Turn_breaks _ _ _ _ at guest guest' export' inside found halts is) =
      ap (λ (h : Hall). length h.export.bytes) is ∙ halts_length guest before.export calls guest' export' why halts

  ends_length : (before : Hall) (calls : List Call) (after : Hall) (why : Halt) → Ends listener limit before calls after why → IsAsLong before.export after.export
  ends_length before calls after why (Stops_so _ _ _ _ stops) = stops_length before calls after why stops
  ends_length before calls after why (Waits_too_long _ _ _ _ made is blames) = hall_same before after is

  until_length : (before : Hall) (calls : List Call) (after : Hall) (why : Halt) → ServesUntil listener limit before calls after why → IsAsLong before.export after.export
  until_length before calls after why u = ends_length u.middle u.last after why u.ends ∙ serves_length before u.own u.middle u.serves

  cut_length : (why : Halt) (start : Export) (calls : List Call) (end : Export) → CutOff listener limit why start calls end → IsAsLong start end
  cut_length why start calls end cut = ap (λ (x : Export). length x.bytes) (sym cut.export) ∙ until_length _ cut.own cut.after why cut.serves

pub serving_keeps_length : ServingKeepsLength
serving_keeps_length listener limit (Ok n) start calls end served = serves_length listener limit _ calls _ served.1
serving_keeps_length listener limit (Err fault.Client) start calls end served = serves_length listener limit _ calls _ served
serving_keeps_length listener limit (Err fault.NoMemory) start calls end served = cut_length listener limit _ start calls end served
serving_keeps_length listener limit (Err (fault.Link before after)) start calls end served = cut_length listener limit _ start calls end served
serving_keeps_length listener limit (Err fault.Output) start calls end served = absurd served
serving_keeps_length listener limit (Err (fault.Silent idles)) start calls end served = cut_length listener limit _ start calls end served
