-- What stays of each export, whatever its clients send: its texts, its size, and whether it may be changed.
use Rattle.std.proofs.Common.{◌≡◌, ℕ, zero, suc, ◌+◌, ◌-◌, Bool, true, false, List, [], ◌∷◌, length, take, slice_set, nat_le, Some, None, refl, ap, sym, subst, ◌∙◌, if◌then◌else◌}
use Rattle.lnbd_stream.specs.Stream.{Held, feed}
use Rattle.lnbd_stream.specs.Laws.{Lasts}
use Rattle.lnbd_stream.proofs.Stream.{feed_lasts}
use Rattle.lnbd_link.specs.Call.{Call, Connect, Listen, Accept, Read, Write, Pause, Shut, WriteTold, Sent, Full, WriteFault}
use Rattle.lnbd_export.specs.Export.{Export}
use Rattle.lnbd_server.specs.declared.stage.Offers.{Offers}
use Rattle.lnbd_server.specs.declared.stage.Stage.TheVariants.{Strayed}
use Rattle.lnbd_server.specs.Client.{Said, Flags, OptionRequest, Asks, Disconnect, Stray, Ignored, max_client}
use Rattle.lnbd_server.specs.Session.{State, Session, Takes, rules, entering, past_limit, with_export, is_closed}
use Rattle.lnbd_memnet.specs.declared.hosted.Hosted.{Hosted}
use Rattle.lnbd_memnet.specs.declared.link.Link.{Link}
use Rattle.lnbd_memnet.specs.declared.schedule.Step.{Step}
use Rattle.lnbd_memnet.specs.Network.{Network, export_in, link_in}
use Rattle.lnbd_memnet.specs.Plays.{Plays, WritesIf, DeliversIf}
use Rattle.lnbd_memnet.specs.Wires.{Played, None_yet, Then}
use Rattle.lnbd_served.proofs.Effects.{effect_alike}
use Rattle.lnbd_served.proofs.Sized.{IsSized, says_sized}
use Rattle.lnbd_served.proofs.Taking.{SameFace}

face_same : (export : Export) → SameFace export export
face_same export = (refl, refl, refl, refl)

face_then : (one two three : Export) → SameFace one two → SameFace two three → SameFace one three
face_then one two three a b = (a.0 ∙ b.0, a.1 ∙ b.1, a.2 ∙ b.2, a.3 ∙ b.3)

pub face_back : (one two : Export) → SameFace one two → SameFace two one
face_back one two a = (sym a.0, sym a.1, sym a.2, sym a.3)

entered_face : (offers : Offers) (said : Said) (state : State) → IsSized said → SameFace (entering offers said state).export state.export
entered_face offers (Flags flags) state sized = face_same state.export
entered_face offers (OptionRequest option body) state sized = face_same state.export
entered_face offers (Asks request payload) state sized = effect_alike state.agreed request payload state.export sized
entered_face offers Disconnect state sized = face_same state.export
entered_face offers Stray state sized = face_same state.export
entered_face offers Ignored state sized = face_same state.export

face_lasts : (offers : Offers) (face : Export) → Lasts (rules offers) (λ (state : State). SameFace state.export face)
face_lasts offers face state bytes found same shown = face_then (entering offers found.said state).export state.export face (entered_face offers found.said state (says_sized _ _ bytes found shown)) same

feed_face : (offers : Offers) (held : Held State) (bytes : List ℕ) → SameFace (feed (rules offers) held bytes).known.export held.known.export
feed_face offers held bytes = feed_lasts (rules offers) (λ (state : State). SameFace state.export held.known.export) (face_lasts offers held.known.export) held bytes (face_same held.known.export)

past_face : (held : Held State) (face : Export) → SameFace held.known.export face → SameFace (past_limit held).known.export face
past_face held face same = go (is_closed held.known.stage)
  where
    go : (b : Bool) → SameFace (if b then held else record { known = record held.known { stage = Strayed }; pending = [] }).known.export face
    go true = same
    go false = same

takes_face : (before after : Session) (start end : Export) (bytes : List ℕ) → Takes before start bytes after end → SameFace end start
takes_face before after start end bytes takes = subst (λ (h : Held State). SameFace h.known.export start) takes.fed (go (nat_le (before.came + length bytes) max_client))
  where
    go : (b : Bool) → SameFace (if b then feed (rules before.offers) (with_export before.dialogue start) bytes
        else past_limit (feed (rules before.offers) (with_export before.dialogue start) (take (max_client - before.came) bytes))).known.export start
    go true = feed_face before.offers (with_export before.dialogue start) bytes
    go false = past_face (feed (rules before.offers) (with_export before.dialogue start) (take (max_client - before.came) bytes)) start (feed_face before.offers (with_export before.dialogue start) (take (max_client - before.came) bytes))

-- each export is as it was, but for its bytes
abbrev AllSame : List Hosted → List Hosted → Type 0
AllSame after before = (q : ℕ) → SameFace (export_in after q).export (export_in before q).export

delivers_face : (b : Bool) (step : Step) (offered : ℕ) (hosted : Hosted) (before : Link) (answer : WriteTold) (after : Link) (end : Hosted) → DeliversIf b step offered hosted before answer after end → SameFace end.export hosted.export
delivers_face true step offered hosted before (Sent bytes) after end d = subst (λ (h : Hosted). SameFace h.export hosted.export) (sym d.holds) (takes_face before.session d.session hosted.export d.export bytes d.takes)
delivers_face true step offered hosted before Full after end d = absurd d
delivers_face true step offered hosted before WriteFault after end d = absurd d
delivers_face false step offered hosted before answer after end d = subst (λ (h : Hosted). SameFace h.export hosted.export) (sym d.2) (face_same hosted.export)

set_face : (exports : List Hosted) (k : ℕ) (hosted : Hosted) → SameFace hosted.export (export_in exports k).export → AllSame (slice_set exports k hosted) exports
set_face [] k hosted same q = (refl, refl, refl, refl)
set_face (x ∷ exports) zero hosted same zero = same
set_face (x ∷ exports) zero hosted same (suc q) = (refl, refl, refl, refl)
set_face (x ∷ exports) (suc k) hosted same zero = (refl, refl, refl, refl)
set_face (x ∷ exports) (suc k) hosted same (suc q) = set_face exports k hosted same q

writes_face : (opened : Bool) (step : Step) (exports : List Hosted) (links : List Link) (n offered : ℕ) (answer : WriteTold) (exports' : List Hosted) (links' : List Link) → WritesIf opened step exports links n offered answer exports' links' → AllSame exports' exports
writes_face true step exports links n offered answer exports' links' w =
    subst (λ (es : List Hosted). AllSame es exports) (sym w.holds) (set_face exports (link_in links n).place w.hosted (delivers_face _ step offered _ _ answer w.link w.hosted w.delivers))
writes_face false step exports links n offered answer exports' links' w = subst (λ (es : List Hosted). AllSame es exports) (sym w.1) (λ q. (refl, refl, refl, refl))

equal_face : (before after : Network) → after.exports ≡ before.exports → AllSame after.exports before.exports
equal_face before after e = subst (λ (es : List Hosted). AllSame es before.exports) (sym e) (λ q. (refl, refl, refl, refl))

plays_face : (before after : Network) (call : Call) → Plays before call after → AllSame after.exports before.exports
plays_face before after (Connect to (Some link)) p = equal_face before after (ap (λ (n : Network). n.exports) p.is)
plays_face before after (Connect to None) p = equal_face before after (ap (λ (n : Network). n.exports) p.1)
plays_face before after (Listen at listener) p = equal_face before after (ap (λ (n : Network). n.exports) p.1)
plays_face before after (Accept listener answer) p = equal_face before after (ap (λ (n : Network). n.exports) p.1)
plays_face before after (Read link room answer) p = equal_face before after (ap (λ (n : Network). n.exports) p.is)
plays_face before after (Write link offered answer) p =
    subst (λ (es : List Hosted). AllSame es before.exports) (sym (ap (λ (n : Network). n.exports) p.is)) (writes_face _ _ before.exports before.links link offered answer p.exports p.links p.writes)
plays_face before after (Pause wants) p = equal_face before after (ap (λ (n : Network). n.exports) p)
plays_face before after (Shut link) p = equal_face before after (ap (λ (n : Network). n.exports) p)

pub played_face : (start : Network) (calls : List Call) (network : Network) → Played start calls network → AllSame network.exports start.exports
played_face start calls network (None_yet _ _ none is) q = equal_face start network (ap (λ (n : Network). n.exports) is) q
played_face start calls network (Then earlier _ before _ call played plays is) q =
    face_then (export_in network.exports q).export (export_in before.exports q).export (export_in start.exports q).export (plays_face before network call plays q) (played_face start earlier before played q)
