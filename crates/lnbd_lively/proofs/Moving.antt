-- The first read and the first write of a link after a pause that wanted it move bytes.
use Rattle.std.proofs.Common.{◌≡◌, ℕ, ◌+◌, ◌<◌, ◌≤◌, Bool, true, false, ◌&&◌, ◌||◌, List, length, take, ◌==◌, nat_lt, refl, ap, sym, subst, ◌∙◌, arith, inl, inr, if◌then◌else◌, length-append}
use Rattle.std.proofs.lemmas.Bool.{cases_lt, cases_eq, lt-ltb, eqb-true, eq-eqb}
use Rattle.std.proofs.lemmas.List.{get_or_past, length-take}
use Rattle.lnbd_link.specs.Call.{ReadTold, Moved, Unready, Ended, WriteTold, Sent, Full}
use Rattle.lnbd_export.specs.Export.{Export}
use Rattle.lnbd_export.specs.Requests.{reply}
use Rattle.lnbd_server.specs.Session.{Session}
use Rattle.lnbd_memnet.specs.declared.hosted.Hosted.{Hosted}
use Rattle.lnbd_memnet.specs.declared.link.Link.{Link}
use Rattle.lnbd_memnet.specs.declared.schedule.Schedule.{Schedule}
use Rattle.lnbd_memnet.specs.declared.schedule.Schedule.TheVariants as schedule
use Rattle.lnbd_memnet.specs.declared.schedule.Step.{Step}
use Rattle.lnbd_memnet.specs.Network.{link_in, export_in}
use Rattle.lnbd_memnet.specs.Plays.{Gives, Readies, DeliversIf, WritesIf, has_ended, share, told}
use Rattle.lnbd_memnet.specs.Schedule.{step_at, at_once, Moves}
use Rattle.lnbd_memnet.proofs.Wanted.{reads_are_let_in, writes_are_let_in}
use Rattle.lnbd_served.proofs.Items.{Replies_to, encode}
use Rattle.lnbd_served.proofs.Linking.{full_said}
use Rattle.lnbd_lively.specs.Lively.{HasMore}
use Rattle.lnbd_lively.specs.Moving.{BringsBytes, FirstReadsBring, FirstWritesTake, WaitedReadsBring}
use Rattle.lnbd_lively.proofs.Answering.{open_answer}

-- each step moves a byte at least
step_moves : (all : Schedule) (turn : ℕ) → Moves all → 1 ≤ (step_at all turn).most
step_moves (schedule.Seeded seed) turn m = omega arith
step_moves (schedule.List steps) turn m = elim (cases_lt turn (length steps.items)) [
  | inl less ↦ m turn at_once less
  | inr past ↦ subst (λ (s : Step). 1 ≤ s.most) (sym (get_or_past steps.items turn at_once (omega (arith, past)))) (omega arith)
]

-- once a reply was made where none waited
ready_more : (session : Session) (pick : ℕ) (export : Export) (ready : Session) → 0 < length session.dialogue.out + length session.dialogue.waiting → (a b : Bool) → (length session.dialogue.out == 0) ≡ a → nat_lt 0 (length session.dialogue.waiting) ≡ b →
    Readies (a && b) session pick export ready → 0 < length ready.dialogue.out
ready_more session pick export ready more true true e f r =
    let is = ap (λ d. length d.out) r.replies.is in
    let one = full_said (Replies_to session.dialogue.agreed.replies r.replies.request (reply session.dialogue.agreed export r.replies.request)) in
    omega (arith, is, one, length-append session.dialogue.out (encode (Replies_to session.dialogue.agreed.replies r.replies.request (reply session.dialogue.agreed export r.replies.request))))
ready_more session pick export ready more true false e f r =
    let none = eqb-true (length session.dialogue.out) 0 e in absurd (let bad : false ≡ true = sym f ∙ lt-ltb 0 (length session.dialogue.waiting) (omega (arith, more, none)) in cc)
ready_more session pick export ready more false b e f r = subst (λ (s : Session). 0 < length s.dialogue.out) (sym r) (elim (cases_eq (length session.dialogue.out) 0) [
  | inl none ↦ absurd (let bad : false ≡ true = sym e ∙ eq-eqb (length session.dialogue.out) 0 none in cc)
  | inr some ↦ omega (arith, some)
])

told_brings : (k : ℕ) (ready : Session) → 1 ≤ k → k ≤ length ready.dialogue.out → BringsBytes (told k ready)
told_brings k ready some low = subst (λ (b : Bool). BringsBytes (if b then Moved (take k ready.dialogue.out) else if has_ended ready.dialogue.stage then Ended else Unready)) (sym (lt-ltb 0 k (omega (arith, some))))
    (take k ready.dialogue.out, refl, omega (arith, length-take k ready.dialogue.out, some, low))

gives_brings : (step : Step) (room : ℕ) (export : Export) (before : Link) (answer : ReadTold) (after : Link) → 1 ≤ step.most → 1 ≤ room → HasMore before.session → Gives step room export before answer after → BringsBytes answer
gives_brings step room export before answer after most some more g =
    let out = ready_more before.session step.pick export g.ready more (length before.session.dialogue.out == 0) (nat_lt 0 (length before.session.dialogue.waiting)) refl refl g.readies in
    subst BringsBytes (sym g.answers) (told_brings (share step room g.ready) g.ready (omega (arith, most, some, out)) (omega arith))

pub first_reads_bring : FirstReadsBring
first_reads_bring n room since network after answer wanted none opened moves some more reads =
    let g = reads_are_let_in n room since network after answer wanted none opened reads in
    gives_brings (step_at network.schedule network.turn) room (export_in network.exports (link_in network.links n).place).export (link_in network.links n) answer g.0 (step_moves network.schedule network.turn moves) some more g.1

delivers_takes : (b : Bool) (step : Step) (offered : ℕ) (hosted : Hosted) (before : Link) (bytes : List ℕ) (after : Link) (end : Hosted) → 1 ≤ step.most → 1 ≤ offered → DeliversIf b step offered hosted before (Sent bytes) after end → 1 ≤ length bytes
delivers_takes true step offered hosted before bytes after end most some d = let n = d.size in omega (arith, n, most, some)
delivers_takes false step offered hosted before bytes after end most some d = absurd (no d.0)
  where
    no : Sent bytes ≡ Full → ⊥
    no e = cc

pub first_writes_take : FirstWritesTake
first_writes_take n offered since network after answer wanted none opened moves some writes =
    let w = writes_are_let_in n offered since network after answer wanted none opened writes in
    (w.0, w.1, go w.0 w.1)
  where
    go : (bytes : List ℕ) → answer ≡ Sent bytes → 1 ≤ length bytes
    go bytes e =
        let let_in = subst (λ (b : Bool). WritesIf b (step_at network.schedule network.turn) network.exports network.links n offered answer writes.exports writes.links) opened writes.writes in
        delivers_takes ((step_at network.schedule network.turn).ready || (link_in network.links n).write_due) (step_at network.schedule network.turn) offered (export_in network.exports (link_in network.links n).place) (link_in network.links n) bytes let_in.link let_in.hosted
        (step_moves network.schedule network.turn moves) some
        (subst (λ (a : WriteTold). DeliversIf ((step_at network.schedule network.turn).ready || (link_in network.links n).write_due) (step_at network.schedule network.turn) offered (export_in network.exports (link_in network.links n).place) (link_in network.links n) a let_in.link let_in.hosted) e let_in.delivers)

pub waited_reads_bring : {K : Type 0} → WaitedReadsBring K
waited_reads_bring n room calls since network after history answer came servable speaks opened goes driven waits wanted none moves some reads =
    first_reads_bring n room since network after answer wanted none opened moves some (open_answer calls network n history came servable speaks opened goes driven waits) reads
