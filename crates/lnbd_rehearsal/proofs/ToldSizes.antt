-- What a handle was told of its export's size over served wires is the size of the export behind its link.
use Rattle.std.proofs.Common.{◌≡◌, ℕ, ◌<◌, ◌⊎◌, inl, inr, Bool, true, false, ◌&&◌, List, [], ◌∷◌, length, Option, Some, None, ◌==◌, if◌then◌else◌, refl, ap, sym, subst, ◌∙◌, arith}
use Rattle.std.specs.List.{flat_map}
use Rattle.std.proofs.lemmas.Bool.{false≢true}
use Rattle.std.proofs.lemmas.Slice.Eq.{bytes_eq-Decides}
use Rattle.lnbd_model.specs.declared.export.Context.{Context}
use Rattle.lnbd_model.specs.declared.export.ExportInfo.{ExportInfo}
use Rattle.lnbd_model.specs.declared.kind.Kind.{Kind}
use Rattle.lnbd_model.specs.declared.state.Cause.{Cause}
use Rattle.lnbd_model.specs.declared.state.State.TheVariants as state
use Rattle.lnbd_model.specs.declared.target.Target.{Target}
use Rattle.lnbd_records.specs.Options.{opt_export_name}
use Rattle.lnbd_stream.specs.Stream.{Held, fresh, feed}
use Rattle.lnbd_history.specs.declared.kinds.Phase.TheVariants as phases
use Rattle.lnbd_history.specs.declared.kinds.Stage.{Stage}
use Rattle.lnbd_history.specs.declared.kinds.Stage.TheVariants.{Created, Open, Disconnecting, Aborting, Closed, Dead}
use Rattle.lnbd_history.specs.Agreement.{Export, Opted, contexts, export, extended, phase, steps, structured}
use Rattle.lnbd_history.specs.Answers.{info_after, info_of, state_after}
use Rattle.lnbd_history.specs.Events.{History}
use Rattle.lnbd_history.specs.History.{reading}
use Rattle.lnbd_link.specs.Call.{Call}
use Rattle.lnbd_asked.specs.Client.{Said, Flags, Wishes, Orders, Stray}
use Rattle.lnbd_asked.specs.Exports.{export_known}
use Rattle.lnbd_asked.specs.InStep.{is_reading}
use Rattle.lnbd_asked.specs.Laws.{is_waiting}
use Rattle.lnbd_asked.specs.Link.{Both, Link, issued, kind_of, next, ordered, said, server}
use Rattle.lnbd_asked.specs.Parts.{count}
use Rattle.lnbd_asked.specs.Transcript.{after_calls, export_at, export_told, is_name, is_of, is_target, name_asked, on_link, only_if, size_of, size_told, untold}
use Rattle.lnbd_asked.proofs.Alive.{Alive, Haggles, IsOpened, Meets, Stands, Transmits, is_done}
use Rattle.lnbd_asked.proofs.Chain.{Reaches, tell}
use Rattle.lnbd_asked.proofs.Comes.{in_step_tells}
use Rattle.lnbd_asked.proofs.Doing.{state_of}
use Rattle.lnbd_asked.proofs.Driving.{At, drives_at, held_of}
use Rattle.lnbd_asked.proofs.Keeping.{reaches_opened}
use Rattle.lnbd_memnet.specs.Network.{Network, export_in, link_in}
use Rattle.lnbd_memnet.specs.Wires.{Came}
use Rattle.lnbd_served.specs.Served.{IsServable, place_of}
use Rattle.lnbd_served.proofs.Faces.{played_face}
use Rattle.lnbd_served.proofs.Honest.{Now, all_now, played_count, served_is_honest, servable_first}
use Rattle.lnbd_served.proofs.Items.{IsOver, IsSound, encode}
use Rattle.lnbd_served.proofs.Saying.{waiting_none, waiting_opt}
use Rattle.lnbd_served.proofs.Taking as served
use Rattle.lnbd_served.proofs.Taking.{nothing_both}
use Rattle.lnbd_served.proofs.Targets.{Targets, is_target-same}
use Rattle.lnbd_spoken.specs.Speaking.{SpeaksWell}
use Rattle.lnbd_spoken.proofs.Saying.{open_before}
use Rattle.lnbd_lively.specs.Lively.{AreServable, IsDrivenNow}
use Rattle.lnbd_lively.proofs.Answering.{targets_all}

-- A link that is ready for requests once its client has said all.

asked_ready : (option : ℕ) → phases.Asked option ≡ phases.Ready → ⊥
asked_ready option e = cc

opt_ready : phases.OptMode ≡ phases.Ready → ⊥
opt_ready e = cc

-- nothing that a client says makes its link ready for requests
said_ready : (one : Said) (link : Link) → phase (said one link).heard.turns ≡ phases.Ready → phase link.heard.turns ≡ phases.Ready
said_ready (Flags flags) link e = e
said_ready (Wishes wish) link e = go (wish.option == opt_export_name) e
  where
    go : (b : Bool) → phase (if b then link.heard.turns else Opted wish.option ∷ link.heard.turns) ≡ phases.Ready → phase link.heard.turns ≡ phases.Ready
    go true e = e
    go false e = absurd (asked_ready wish.option e)
said_ready (Orders order) link e = go (kind_of order.type) e
  where
    both : (b : Bool) (kind : Kind) → phase (if b then issued kind order link else record link { strayed = true }).heard.turns ≡ phases.Ready → phase link.heard.turns ≡ phases.Ready
    both true kind e = e
    both false kind e = e

    go : (kind : Option Kind) → phase (ordered kind order link).heard.turns ≡ phases.Ready → phase link.heard.turns ≡ phases.Ready
    go None e = e
    go (Some kind) e = both (order.cookie == next link) kind e
said_ready Stray link e = e

-- where no byte waits to be read, it was ready before
ready_before : (h : Held Link) (all : List Said) (v : Held Link) → h.pending ≡ [] → Reaches h all v → phase v.known.heard.turns ≡ phases.Ready → phase h.known.heard.turns ≡ phases.Ready
ready_before h [] v none r e = ap (λ (k : Held Link). phase k.known.heard.turns) r ∙ e
ready_before h (one ∷ more) v none r e =
    let told : tell one h ≡ fresh (said one h.known) = ap (λ (bytes : List ℕ). feed server (fresh (said one h.known)) bytes) none in
    said_ready one h.known (ap (λ (k : Held Link). phase k.known.heard.turns) (sym told) ∙ ready_before (tell one h) more v (ap (λ (k : Held Link). k.pending) told) r.1 e)

-- a link of which replies are read is open
read_open : (stage : Stage) → IsOpened stage → is_reading stage ≡ true → stage ≡ Open
read_open Open o r = refl
read_open (Dead why) o r = absurd (false≢true r)
read_open Created o r = absurd o
read_open Disconnecting o r = absurd o
read_open Aborting o r = absurd o
read_open Closed o r = absurd o

-- an open link that waits for its client was sent no more
abbrev IsCalm : Held Link → Type 0
IsCalm h = h.known.heard.stage ≡ Open → is_waiting h.known ≡ true → h.pending ≡ []

-- a link is ready for requests, and tells what the handle was told
record TellsSo {K : Type 0} (history : History K) (link : Link) : Type 0 where
  ready : phase link.heard.turns ≡ phases.Ready
  tells : export_told link ≡ export_known history

module _ {K : Type 0} (history : History K) (can_ask : state_after history ≡ state.Ready) (h : Held Link) (written : List ℕ) where
  stage_is : ((reading history).known.stage ≡ Open) × (phase (reading history).known.turns ≡ phases.Ready)
  stage_is = state_of (reading history).known.stage (phase (reading history).known.turns) can_ask

  transmits : (a : Alive history (reading history) h written) → Transmits history (reading history).known a.v.known a.front a.asks a.orders → IsCalm h → TellsSo history h.known
  transmits a t calm = go a.asks refl a.reach
    where
      open_ : h.known.heard.stage ≡ Open
      open_ = open_before h a.asks a.v a.reach a.opened (read_open a.v.known.heard.stage (reaches_opened h a.asks a.v a.opened a.reach) (sym t.step.reading ∙ ap is_reading stage_is.0))

      go : (asks : List Said) → a.asks ≡ asks → Reaches h asks a.v → TellsSo history h.known
      go [] e same = record {
        ready = ap (λ (k : Held Link). phase k.known.heard.turns) same ∙ t.step.ready';
        tells = ap (λ (k : Held Link). export_told k.known) same ∙ in_step_tells history (count a.front) (reading history).known a.v.known t.step;
      }
      go (one ∷ more) e r = absurd (opt_ready (sym (waiting_opt [] 0 [] 0 h.known r.0) ∙ ready_before h (one ∷ more) a.v (calm open_ r.0) r t.step.ready'))

  link_tells : Stands history (reading history) h written → IsCalm h → TellsSo history h.known
  link_tells (inr over) calm = absurd (false≢true (sym (ap is_done stage_is.0) ∙ over.done_))
  link_tells (inl a) calm = go a.stands
    where
      go : Haggles history (reading history).known a.v.known a.front a.orders ⊎ Transmits history (reading history).known a.v.known a.front a.asks a.orders → TellsSo history h.known
      go (inl g) = absurd (subst (λ p. Meets p a.v.known) stage_is.1 g.meets)
      go (inr t) = transmits a t calm

-- What was told of the size.

none_info : (info : ExportInfo) → None ≡ Some info → ⊥
none_info info e = cc

info_size : (told : Option Export) (agreed : List Context) (structured extended : Bool) (info : ExportInfo) → info_of told agreed structured extended ≡ Some info → size_of told ≡ Some info.size
info_size None agreed structured extended info e = absurd (none_info info e)
info_size (Some one) agreed structured extended info e = ap size_in e
  where
    size_in : Option ExportInfo → Option ℕ
    size_in None = None
    size_in (Some i) = Some i.size

-- Behind served wires.

module _ (calls : List Call) (network : Network) (link : ℕ) (came : Came calls network) (servable : AreServable network) (speaks : (l : ℕ) → SpeaksWell l calls) (given : link < length network.links) where
  abbrev place : ℕ
  place = (link_in network.links link).place

  targets : Targets calls network
  targets = targets_all came.first calls network came.begins came.played

  there : place < length network.exports
  there = targets.hosted link given

  there_first : place < length came.first.exports
  there_first = let h = there in let k = played_count came.first calls network came.played in omega (arith, h, k)

  fits_first : IsServable (export_in came.first.exports place).export
  fits_first = servable_first came.first calls network place came.played (servable place there)

  now : Now came.first came.begins place there_first fits_first calls network
  now = all_now came.first came.begins place there_first fits_first calls network came.played speaks

  stands : IsOver (export_in came.first.exports place).export.name (length (export_in came.first.exports place).export.bytes) now.world.all link (on_link link calls)
      ⊎ served.Stands (export_in came.first.exports place).export.name (length (export_in came.first.exports place).export.bytes) now.world.all link (after_calls link untold calls).read (link_in network.links link).session.dialogue.out (on_link link calls)
  stands = (now.world.each link (inl refl)).tie.stands

  calm : IsCalm (held_of (after_calls link untold calls))
  calm open_ waits = go stands
    where
      dead : (cause : Cause) → Open ≡ Dead cause → ⊥
      dead cause e = cc

      go : IsOver (export_in came.first.exports place).export.name (length (export_in came.first.exports place).export.bytes) now.world.all link (on_link link calls)
          ⊎ served.Stands (export_in came.first.exports place).export.name (length (export_in came.first.exports place).export.bytes) now.world.all link (after_calls link untold calls).read (link_in network.links link).session.dialogue.out (on_link link calls) → (after_calls link untold calls).read ≡ []
      go (inl over) = absurd (dead over.0.0 (sym open_ ∙ over.0.1))
      go (inr s) =
          let none = waiting_none (export_in came.first.exports place).export.name (length (export_in came.first.exports place).export.bytes) now.world.all link (on_link link calls) s.rest waits s.awaits in
          (nothing_both (after_calls link untold calls).read (link_in network.links link).session.dialogue.out (s.left ∙ ap (λ rest. flat_map encode rest) none)).0

  sound : IsSound (export_in came.first.exports place).export.name (length (export_in came.first.exports place).export.bytes) now.world.all link (on_link link calls)
  sound = elim stands [
    | inl over ↦ over.1
    | inr s ↦ s.awaits.sound
  ]

  named : phase (on_link link calls).heard.turns ≡ phases.Ready → is_of (place_of (export_in network.exports place)) calls link ≡ true
  named ready =
      ap (λ (v : Option Target). is_target (export_in network.exports place).at v && is_name (export_in network.exports place).export.name (name_asked (on_link link calls).wishes)) (targets.to link given)
      ∙ ap (λ (b : Bool). b && is_name (export_in network.exports place).export.name (name_asked (on_link link calls).wishes)) (is_target-same (export_in network.exports place).at)
      ∙ ap (λ (v : Option (List ℕ)). is_name (export_in network.exports place).export.name v) (sound.named ready)
      ∙ (bytes_eq-Decides (export_in network.exports place).export.name (export_in came.first.exports place).export.name).1 (played_face came.first calls network came.played place).2

  -- What the link tells of a size is so.
  link_size : (size : ℕ) → phase (on_link link calls).heard.turns ≡ phases.Ready → size_told (on_link link calls) ≡ Some size → size ≡ length (export_in network.exports place).export.bytes
  link_size size ready told =
      let honest = served_is_honest calls network place came there (servable place there) speaks in
      honest.sizes.told link size (ap (λ (b : Bool). only_if b (size_told (on_link link calls))) (named ready) ∙ told) ∙ sym honest.sizes.kept

pub told_size : {K : Type 0} (calls : List Call) (network : Network) (link : ℕ) (history : History K) (info : ExportInfo) → Came calls network → AreServable network → ((l : ℕ) → SpeaksWell l calls) → link < length network.links →
    IsDrivenNow link history calls → state_after history ≡ state.Ready → info_after history ≡ Some info → info.size ≡ length (export_in network.exports (link_in network.links link).place).export.bytes
told_size {K} calls network link history info came servable speaks given d ready told = link_size calls network link came servable speaks given info.size link_so.ready size_so
  where
    at : At link calls history []
    at = drives_at d.limit link calls history [] d.drives d.lawful d.spelled d.going (λ begun. d.mode)

    so : TellsSo history at.before.link
    so = link_tells history ready (held_of at.before) at.before.written at.stands (subst (λ (both : Both). IsCalm (held_of both)) at.there (calm calls network link came servable speaks given))

    link_so : TellsSo history (on_link link calls)
    link_so = subst (λ (both : Both). TellsSo history both.link) (sym at.there) so

    size_so : size_told (on_link link calls) ≡ Some info.size
    size_so =
        let all = steps (reading history).known.turns in
        ap size_of link_so.tells ∙ ap (λ p. size_of (export_at p (export all))) (stage_is history ready (held_of at.before) at.before.written).1 ∙ info_size (export all) (contexts all) (structured all) (extended all) info told
