-- A link that a pause wanted is due until it is read, or written.
use Rattle.std.proofs.Common.{◌≡◌, ◌≢◌, ℕ, zero, suc, ◌<◌, Bool, true, false, ◌||◌, List, [], ◌∷◌, ◌++◌, Some, None, length, slice_set, All, Any, get_or-set_same, get_or-set_other, refl, ap, sym, subst, ◌∙◌, arith, inl, inr, ◌==◌}
use Rattle.std.proofs.lemmas.Bool.{false≢true, cases_eq, eq-eqb}
use Rattle.std.proofs.lemmas.List.{length-set, length-append, get_or_append_left}
use Rattle.lnbd_link.specs.declared.wires.Want.{Want}
use Rattle.lnbd_link.specs.Call.{Call, Connect, Listen, Accept, Read, Write, Pause, Shut, ReadTold, WriteTold, Sent, Full, WriteFault}
use Rattle.lnbd_memnet.specs.declared.hosted.Hosted.{Hosted}
use Rattle.lnbd_memnet.specs.declared.link.Link.{Link}
use Rattle.lnbd_memnet.specs.declared.schedule.Step.{Step}
use Rattle.lnbd_memnet.specs.Laws.{reads_on, writes_on, WasWanted, ReadsAreLetIn, WritesAreLetIn}
use Rattle.lnbd_memnet.specs.Network.{Network, no_link, link_in, export_in, new_link}
use Rattle.lnbd_memnet.specs.Plays.{Plays, GivesIf, ReadsIf, DeliversIf, WritesIf, due_at, all_due}
use Rattle.lnbd_memnet.specs.Schedule.{step_at}
use Rattle.lnbd_memnet.specs.Wires.{Played, None_yet, Then}

-- for reads, or for writes

abbrev due : (reads : Bool) → Link → Bool
due true link = link.read_due
due false link = link.write_due

abbrev uses : (reads : Bool) → ℕ → Call → Bool
uses true n call = reads_on n call
uses false n call = writes_on n call

record Due (reads : Bool) (n : ℕ) (links : List Link) : Type 0 where
  there : n < length links
  is : due reads (link_in links n) ≡ true

-- another link in a place, which is due if the place is this one
set_due : (reads : Bool) (n k : ℕ) (links : List Link) (link : Link) → (k ≡ n → due reads link ≡ true) → Due reads n links → Due reads n (slice_set links k link)
set_due reads n k links link here d = elim (cases_eq k n) [
  | inl e ↦ record {
    there = let size = length-set links k link in let less = d.there in omega (arith, size, less);
    is = ap (λ (j : ℕ). due reads (link_in (slice_set links k link) j)) (sym e) ∙ ap (due reads) (get_or-set_same links k link no_link (let less = d.there in omega (arith, e, less))) ∙ here e;
  }
  | inr ne ↦ record {
    there = let size = length-set links k link in let less = d.there in omega (arith, size, less);
    is = ap (due reads) (get_or-set_other links k n link no_link (λ e. ne (sym e))) ∙ d.is;
  }
]

-- the link in this place stays due
here_due : (reads : Bool) (n k : ℕ) (links : List Link) (link : Link) → due reads link ≡ due reads (link_in links k) → Due reads n links → k ≡ n → due reads link ≡ true
here_due reads n k links link same d e = same ∙ ap (λ (j : ℕ). due reads (link_in links j)) e ∙ d.is

abbrev made_due : Link → Link
made_due link = record link { read_due = true; write_due = true }

due_now : (reads : Bool) (link : Link) → due reads (made_due link) ≡ true
due_now true link = refl
due_now false link = refl

all_due_stay : (reads : Bool) (n : ℕ) (wants : List Want) (links : List Link) → Due reads n links → Due reads n (all_due wants links)
all_due_stay reads n [] links d = d
all_due_stay reads n (want ∷ wants) links d = all_due_stay reads n wants (due_at want.link links) (set_due reads n want.link links _ (λ e. due_now reads (link_in links want.link)) d)

wanted_due : (reads : Bool) (n : ℕ) (wants : List Want) (links : List Link) → n < length links → Any (λ (want : Want). want.link ≡ n) wants → Due reads n (all_due wants links)
wanted_due reads n [] links there w = let none = w.2 in absurd (omega (arith, none))
wanted_due reads n (want ∷ wants) links there (zero, one, less, at, is) =
    let same : want.link ≡ n = ap (λ (x : Want). x.link) at ∙ is in
    all_due_stay reads n wants (due_at want.link links) (record {
      there = let size = length-set links want.link (made_due (link_in links want.link)) in omega (arith, size, there);
      is = ap (λ (j : ℕ). due reads (link_in (due_at want.link links) j)) (sym same) ∙ ap (due reads) (get_or-set_same links want.link _ no_link (omega (arith, same, there))) ∙ due_now reads (link_in links want.link);
    })
wanted_due reads n (want ∷ wants) links there (suc k, one, less, at, is) =
    wanted_due reads n wants (due_at want.link links) (let size = length-set links want.link (made_due (link_in links want.link)) in omega (arith, size, there)) (k, one, omega (arith, less), at, is)

differ : (k n : ℕ) → (k == n) ≡ false → k ≢ n
differ k n e same = false≢true (sym e ∙ eq-eqb k n same)

gives_due : (b : Bool) (step : Step) (room : ℕ) (export : _) (before : Link) (answer : ReadTold) (after : Link) → GivesIf b step room export before answer after → after.write_due ≡ before.write_due
gives_due true step room export before answer after g = ap (λ (l : Link). l.write_due) g.is
gives_due false step room export before answer after g = ap (λ (l : Link). l.write_due) g.1

delivers_due : (b : Bool) (step : Step) (offered : ℕ) (hosted : Hosted) (before : Link) (answer : WriteTold) (after : Link) (end : Hosted) → DeliversIf b step offered hosted before answer after end → after.read_due ≡ before.read_due
delivers_due true step offered hosted before (Sent bytes) after end d = ap (λ (l : Link). l.read_due) d.is
delivers_due true step offered hosted before Full after end d = absurd d
delivers_due true step offered hosted before WriteFault after end d = absurd d
delivers_due false step offered hosted before answer after end d = ap (λ (l : Link). l.read_due) d.1

reads_due : (reads opened : Bool) (step : Step) (exports : List Hosted) (links : List Link) (k room : ℕ) (answer : ReadTold) (after : List Link) (n : ℕ) → ReadsIf opened step exports links k room answer after →
    uses reads n (Read k room answer) ≡ false → Due reads n links → Due reads n after
reads_due reads false step exports links k room answer after n r off d = subst (Due reads n) (sym r.1) d
reads_due true true step exports links k room answer after n r off d = subst (Due true n) (sym r.is) (set_due true n k links r.link (λ e. absurd (differ k n off e)) d)
reads_due false true step exports links k room answer after n r off d = subst (Due false n) (sym r.is) (set_due false n k links r.link (here_due false n k links r.link (gives_due _ step room _ (link_in links k) answer r.link r.gives) d) d)

writes_due : (reads opened : Bool) (step : Step) (exports : List Hosted) (links : List Link) (k offered : ℕ) (answer : WriteTold) (exports' : List Hosted) (after : List Link) (n : ℕ) → WritesIf opened step exports links k offered answer exports' after →
    uses reads n (Write k offered answer) ≡ false → Due reads n links → Due reads n after
writes_due reads false step exports links k offered answer exports' after n w off d = subst (Due reads n) (sym w.2) d
writes_due false true step exports links k offered answer exports' after n w off d = subst (Due false n) (sym w.is) (set_due false n k links w.link (λ e. absurd (differ k n off e)) d)
writes_due true true step exports links k offered answer exports' after n w off d =
    subst (Due true n) (sym w.is) (set_due true n k links w.link (here_due true n k links w.link (delivers_due _ step offered _ (link_in links k) answer w.link w.hosted w.delivers) d) d)

same_due : (reads : Bool) (n : ℕ) (before after : Network) → after ≡ before → Due reads n before.links → Due reads n after.links
same_due reads n before after e d = subst (Due reads n) (sym (ap (λ (w : Network). w.links) e)) d

-- A link stays due until it is used.
plays_due : (reads : Bool) (n : ℕ) (before after : Network) (call : Call) → Plays before call after → uses reads n call ≡ false → Due reads n before.links → Due reads n after.links
plays_due reads n before after (Connect to (Some link)) p off d = subst (Due reads n) (sym (ap (λ (w : Network). w.links) p.is)) (record {
  there = let size = length-append before.links (new_link p.place ∷ []) in let less = d.there in omega (arith, size, less);
  is = ap (due reads) (get_or_append_left before.links (new_link p.place ∷ []) no_link n d.there) ∙ d.is;
})
plays_due reads n before after (Connect to None) p off d = same_due reads n before after p.1 d
plays_due reads n before after (Listen at listener) p off d = same_due reads n before after p.1 d
plays_due reads n before after (Accept listener answer) p off d = same_due reads n before after p.1 d
plays_due reads n before after (Read k room answer) p off d = subst (Due reads n) (sym (ap (λ (w : Network). w.links) p.is)) (reads_due reads _ _ before.exports before.links k room answer p.links n p.reads off d)
plays_due reads n before after (Write k offered answer) p off d = subst (Due reads n) (sym (ap (λ (w : Network). w.links) p.is)) (writes_due reads _ _ before.exports before.links k offered answer p.exports p.links n p.writes off d)
plays_due reads n before after (Pause wants) p off d = subst (Due reads n) (sym (ap (λ (w : Network). w.links) p)) (all_due_stay reads n wants before.links d)
plays_due reads n before after (Shut k) p off d = subst (Due reads n) (sym (ap (λ (w : Network). w.links) p)) (set_due reads n k before.links _ (here_due reads n k before.links _ (shut_due reads (link_in before.links k)) d) d)
  where
    shut_due : (way : Bool) (link : Link) → due way (record link { opened = false }) ≡ due way link
    shut_due true link = refl
    shut_due false link = refl

none_of : (reads : Bool) (n : ℕ) (calls all : List Call) (call : Call) → all ≡ calls ++ call ∷ [] → All (λ (one : Call). uses reads n one ≡ false) all → All (λ (one : Call). uses reads n one ≡ false) calls × (uses reads n call ≡ false)
none_of reads n calls all call e off =
    let here = subst (All (λ (one : Call). uses reads n one ≡ false)) e off in
    go calls here
  where
    go : (front : List Call) → All (λ (one : Call). uses reads n one ≡ false) (front ++ call ∷ []) → All (λ (one : Call). uses reads n one ≡ false) front × (uses reads n call ≡ false)
    go [] h = ((λ k other less. absurd (omega (arith, less))), h 0 call (omega arith))
    go (first ∷ front) h = let rest = go front (λ k other less. h (suc k) other (omega (arith, less))) in (more first front (h 0 first (omega arith)) rest.0, rest.1)
      where
        more : (one : Call) (others : List Call) → uses reads n one ≡ false → All (λ (x : Call). uses reads n x ≡ false) others → All (λ (x : Call). uses reads n x ≡ false) (one ∷ others)
        more one others h t zero other less = h
        more one others h t (suc k) other less = t k other (omega (arith, less))

played_due : (reads : Bool) (n : ℕ) (start : Network) (calls : List Call) (network : Network) → Played start calls network → All (λ (one : Call). uses reads n one ≡ false) calls → Due reads n start.links → Due reads n network.links
played_due reads n start _ _ (None_yet calls network none is) off d = same_due reads n start network is d
played_due reads n start _ _ (Then calls all before after call earlier plays is) off d =
    let split = none_of reads n calls all call is off in
    plays_due reads n before after call plays split.1 (played_due reads n start calls before earlier split.0 d)

was_due : (reads : Bool) (n : ℕ) (calls : List Call) (network : Network) → WasWanted n calls network → All (λ (one : Call). uses reads n one ≡ false) calls → Due reads n network.links
was_due reads n calls network w off = played_due reads n w.paused calls network w.played off (subst (Due reads n) (sym (ap (λ (k : Network). k.links) w.pauses)) (wanted_due reads n w.wants w.before.links w.there w.wanted))

either_ready : (a b : Bool) → b ≡ true → a || b ≡ true
either_ready true b e = refl
either_ready false b e = e

pub reads_are_let_in : ReadsAreLetIn
reads_are_let_in n room calls network after answer w off opened r =
    let d = was_due true n calls network w off in
    let step = step_at network.schedule network.turn in
    let reads = subst (λ (b : Bool). ReadsIf b step network.exports network.links n room answer r.links) opened r.reads in
    (reads.link, subst (λ (b : Bool). GivesIf b step room (export_in network.exports (link_in network.links n).place).export (link_in network.links n) answer reads.link) (either_ready step.ready (link_in network.links n).read_due d.is) reads.gives)

pub writes_are_let_in : WritesAreLetIn
writes_are_let_in n offered calls network after answer w off opened r =
    let d = was_due false n calls network w off in
    let step = step_at network.schedule network.turn in
    let writes = subst (λ (b : Bool). WritesIf b step network.exports network.links n offered answer r.exports r.links) opened r.writes in
    sent step answer writes.link writes.hosted (subst (λ (b : Bool). DeliversIf b step offered (export_in network.exports (link_in network.links n).place) (link_in network.links n) answer writes.link writes.hosted) (either_ready step.ready (link_in network.links n).write_due d.is) writes.delivers)
  where
    sent : (step : Step) (answer : WriteTold) (link : Link) (end : Hosted) → DeliversIf true step offered (export_in network.exports (link_in network.links n).place) (link_in network.links n) answer link end → (bytes : List ℕ) × (answer ≡ Sent bytes)
    sent step (Sent bytes) link end delivers = (bytes, refl)
    sent step Full link end delivers = absurd delivers
    sent step WriteFault link end delivers = absurd delivers
