-- No bytes of a client change the name of an export.
use Rattle.std.proofs.Common.{◌≡◌, ℕ, Bool, true, false, List, [], ◌∷◌, map, length, take, ◌+◌, ◌-◌, Option, Some, None, get_or, slice_set, zero, suc, refl, ap, sym, ◌∙◌, nat_le, if◌then◌else◌}
use Rattle.lnbd_stream.specs.Stream.{Held, feed}
use Rattle.lnbd_stream.specs.Laws.{Lasts}
use Rattle.lnbd_stream.proofs.Stream.{feed_lasts}
use Rattle.lnbd_model.specs.declared.kind.Kind.{Kind}
use Rattle.lnbd_model.specs.declared.kind.Kind.TheVariants as kind
use Rattle.lnbd_link.specs.Contents.{Origin, origin_of}
use Rattle.lnbd_export.specs.Export.{Export}
use Rattle.lnbd_export.specs.Requests.{effect, refusal, done, unless}
use Rattle.lnbd_export.specs.declared.request.Agreed.{Agreed}
use Rattle.lnbd_export.specs.declared.request.Request.{Request}
use Rattle.lnbd_server.specs.Client.{Said, Flags, OptionRequest, Asks, Disconnect, Stray, Ignored, max_client}
use Rattle.lnbd_server.specs.declared.stage.Offers.{Offers}
use Rattle.lnbd_server.specs.declared.stage.Stage.TheVariants.{Strayed}
use Rattle.lnbd_server.specs.Session.{State, Session, Takes, rules, entering, past_limit, after_bytes, with_export, is_closed}
use Rattle.lnbd_memnet.specs.declared.hosted.Hosted.{Hosted}
use Rattle.lnbd_memnet.specs.Network.{no_export, stored_of}

done_name : (k : Option Kind) (request : Request) (payload : List ℕ) (export : Export) → (done k request payload export).name ≡ export.name
done_name None request payload export = refl
done_name (Some kind.Read) request payload export = refl
done_name (Some kind.Write) request payload export = refl
done_name (Some kind.Flush) request payload export = refl
done_name (Some kind.Trim) request payload export = refl
done_name (Some kind.Cache) request payload export = refl
done_name (Some kind.Zero) request payload export = refl
done_name (Some kind.BlockStatus) request payload export = refl

unless_name : (refused : Option ℕ) (done stays : Export) → done.name ≡ stays.name → (unless refused done stays).name ≡ stays.name
unless_name None done stays e = e
unless_name (Some error) done stays e = refl

effect_name : (agreed : Agreed) (request : Request) (payload : List ℕ) (export : Export) → (effect agreed request payload export).name ≡ export.name
effect_name agreed request payload export = unless_name (refusal agreed export request) (done request.kind request payload export) export (done_name request.kind request payload export)

entered_name : (offers : Offers) (said : Said) (state : State) → (entering offers said state).export.name ≡ state.export.name
entered_name offers (Flags flags) state = refl
entered_name offers (OptionRequest option body) state = refl
entered_name offers (Asks request payload) state = effect_name state.agreed request payload state.export
entered_name offers Disconnect state = refl
entered_name offers Stray state = refl
entered_name offers Ignored state = refl

abbrev Named : List ℕ → State → Type 0
Named name state = state.export.name ≡ name

name_lasts : (offers : Offers) (name : List ℕ) → Lasts (rules offers) (Named name)
name_lasts offers name state bytes found named shown = entered_name offers found.said state ∙ named

feed_name : (offers : Offers) (held : Held State) (bytes : List ℕ) → (feed (rules offers) held bytes).known.export.name ≡ held.known.export.name
feed_name offers held bytes = feed_lasts (rules offers) (Named held.known.export.name) (name_lasts offers held.known.export.name) held bytes refl

past_name : (held : Held State) → (past_limit held).known.export.name ≡ held.known.export.name
past_name held = go (is_closed held.known.stage)
  where
    go : (b : Bool) → (if b then held else record { known = record held.known { stage = Strayed }; pending = [] }).known.export.name ≡ held.known.export.name
    go true = refl
    go false = refl

pub takes_name : (before after : Session) (start end : Export) (bytes : List ℕ) → Takes before start bytes after end → end.name ≡ start.name
takes_name before after start end bytes takes = sym (ap (λ (h : Held State). h.known.export.name) takes.fed) ∙ whole
  where
    whole : (after_bytes before.offers before.came bytes (with_export before.dialogue start)).known.export.name ≡ start.name
    whole = go (nat_le (before.came + length bytes) max_client)
      where
        go : (b : Bool) → (if b then feed (rules before.offers) (with_export before.dialogue start) bytes
            else past_limit (feed (rules before.offers) (with_export before.dialogue start) (take (max_client - before.came) bytes))).known.export.name ≡ start.name
        go true = feed_name before.offers (with_export before.dialogue start) bytes
        go false = past_name (feed (rules before.offers) (with_export before.dialogue start) (take (max_client - before.came) bytes)) ∙ feed_name before.offers (with_export before.dialogue start) (take (max_client - before.came) bytes)

-- what stays of each export
abbrev pub origins : List Hosted → List Origin
origins exports = map origin_of (map stored_of exports)

pub origins_set : (exports : List Hosted) (place : ℕ) (hosted : Hosted) → origin_of (stored_of hosted) ≡ origin_of (stored_of (get_or exports place no_export)) → origins (slice_set exports place hosted) ≡ origins exports
origins_set [] place hosted e = refl
origins_set (one ∷ exports) zero hosted e = ap (λ (o : Origin). o ∷ origins exports) e
origins_set (one ∷ exports) (suc place) hosted e = ap (λ (os : List Origin). origin_of (stored_of one) ∷ os) (origins_set exports place hosted e)
