-- Which export each link is to, from the transcript alone.
use Rattle.std.proofs.Common.{◌≡◌, ℕ, zero, suc, ◌<◌, ◌≤◌, inl, inr, Bool, true, false, ◌&&◌, List, [], ◌∷◌, ◌++◌, length, Option, Some, None, ◌==◌, bytes_eq, refl, ap, sym, subst, ◌∙◌, arith, if◌then◌else◌, slice_set, length-append}
use Rattle.std.proofs.lemmas.Bool.{cases_lt, eq-eqb, eqb-true, ne_eqb}
use Rattle.std.proofs.lemmas.List.{length-set}
use Rattle.std.proofs.lemmas.Slice.Eq.{bytes_eq-Decides}
use Rattle.lnbd_model.specs.declared.target.Target.{Target}
use Rattle.lnbd_model.specs.declared.target.Target.TheVariants.{Tcp, Unix}
use Rattle.lnbd_link.specs.Call.{Call, Connect, Listen, Accept, Read, Write, Pause, Shut, ReadTold, WriteTold, Sent, Full, WriteFault}
use Rattle.lnbd_link.specs.Traffic.{target_of, if_number}
use Rattle.lnbd_asked.specs.Transcript.{is_target}
use Rattle.lnbd_memnet.specs.declared.hosted.Hosted.{Hosted}
use Rattle.lnbd_memnet.specs.declared.link.Link.{Link}
use Rattle.lnbd_memnet.specs.declared.schedule.Step.{Step}
use Rattle.lnbd_memnet.specs.Network.{Network, link_in, export_in, new_link, AreApart}
use Rattle.lnbd_memnet.specs.Plays.{Plays, ReadsIf, DeliversIf, WritesIf}
use Rattle.lnbd_memnet.specs.Wires.{Begins}
use Rattle.lnbd_served.proofs.Worlds.{set_place, due_same, pushed_before, gives_place, delivers_place}

-- Two addresses.

pub is_target-true : (to : Target) (other : Option Target) → is_target to other ≡ true → other ≡ Some to
is_target-true to None e = cc
is_target-true (Tcp host port) (Some (Tcp other n)) e = go (bytes_eq host other) (port == n) refl refl e
  where
    go : (a b : Bool) → bytes_eq host other ≡ a → (port == n) ≡ b → a && b ≡ true → Some (Tcp other n) ≡ Some (Tcp host port)
    go true true p q e = let same : host ≡ other = (bytes_eq-Decides host other).0 p in let ports : port ≡ n = eqb-true port n q in ap (λ h. Some (Tcp h n)) (sym same) ∙ ap (λ m. Some (Tcp host m)) (sym ports)
    go true false p q e = cc
    go false b p q e = cc
is_target-true (Tcp host port) (Some (Unix path)) e = cc
is_target-true (Unix path) (Some (Unix other)) e = let same : path ≡ other = (bytes_eq-Decides path other).0 e in ap (λ p. Some (Unix p)) (sym same)
is_target-true (Unix path) (Some (Tcp host port)) e = cc

pub is_target-same : (to : Target) → is_target to (Some to) ≡ true
is_target-same (Tcp host port) = ap (λ (b : Bool). b && (port == port)) ((bytes_eq-Decides host host).1 refl) ∙ eq-eqb port port refl
is_target-same (Unix path) = (bytes_eq-Decides path path).1 refl

pushed_last : (links : List Link) (link : Link) → link_in (links ++ link ∷ []) (length links) ≡ link
pushed_last [] link = refl
pushed_last (l ∷ links) link = pushed_last links link

-- The first connect that gave a number counts.

abbrev or_later : Option Target → Option Target → Option Target
or_later None later = later
or_later (Some to) later = Some to

number_later : (l : ℕ) (given : Option ℕ) (to : Target) (one later : Option Target) → if_number l given to (or_later one later) ≡ or_later (if_number l given to one) later
number_later l None to one later = refl
number_later l (Some n) to one later = go (n == l)
  where
    go : (b : Bool) → (if b then Some to else or_later one later) ≡ or_later (if b then Some to else one) later
    go true = refl
    go false = refl

target-append : (l : ℕ) (calls more : List Call) → target_of l (calls ++ more) ≡ or_later (target_of l calls) (target_of l more)
target-append l [] more = refl
target-append l (Connect to given ∷ calls) more = ap (if_number l given to) (target-append l calls more) ∙ number_later l given to (target_of l calls) (target_of l more)
target-append l (Listen at given ∷ calls) more = target-append l calls more
target-append l (Accept n answer ∷ calls) more = target-append l calls more
target-append l (Read n room answer ∷ calls) more = target-append l calls more
target-append l (Write n offered answer ∷ calls) more = target-append l calls more
target-append l (Pause wants ∷ calls) more = target-append l calls more
target-append l (Shut n ∷ calls) more = target-append l calls more

or_none : (one : Option Target) → or_later one None ≡ one
or_none None = refl
or_none (Some to) = refl

-- Each link is to the export of its place, and no other has its address.
pub record Targets (calls : List Call) (network : Network) : Type 0 where
  pub to : (l : ℕ) → l < length network.links → target_of l calls ≡ Some (export_in network.exports (link_in network.links l).place).at
  pub none : (l : ℕ) → length network.links ≤ l → target_of l calls ≡ None
  pub hosted : (l : ℕ) → l < length network.links → (link_in network.links l).place < length network.exports
  pub apart : AreApart network.exports

-- the same addresses
record SameExports (before after_ : List Hosted) : Type 0 where
  count : length after_ ≡ length before
  at : (q : ℕ) → (export_in after_ q).at ≡ (export_in before q).at

same_exports : (before after_ : List Hosted) → after_ ≡ before → SameExports before after_
same_exports before after_ e = record { count = ap length e; at = λ q. ap (λ (es : List Hosted). (export_in es q).at) e }

set_at : (exports : List Hosted) (k : ℕ) (hosted : Hosted) → hosted.at ≡ (export_in exports k).at → (q : ℕ) → (export_in (slice_set exports k hosted) q).at ≡ (export_in exports q).at
set_at [] k hosted e q = refl
set_at (x ∷ exports) zero hosted e zero = e
set_at (x ∷ exports) zero hosted e (suc q) = refl
set_at (x ∷ exports) (suc k) hosted e zero = refl
set_at (x ∷ exports) (suc k) hosted e (suc q) = set_at exports k hosted e q

apart_then : (before after_ : List Hosted) → SameExports before after_ → AreApart before → AreApart after_
apart_then before after_ same apart i j a b e = apart i j (omega (arith, a, same.count)) (omega (arith, b, same.count)) (sym (same.at i) ∙ e ∙ same.at j)

-- the same places
record SamePlaces (before after_ : List Link) : Type 0 where
  count : length after_ ≡ length before
  place : (n : ℕ) → (link_in after_ n).place ≡ (link_in before n).place

same_places : (before after_ : List Link) → after_ ≡ before → SamePlaces before after_
same_places before after_ e = record { count = ap length e; place = λ n. ap (λ (ls : List Link). (link_in ls n).place) e }

set_places : (links after_ : List Link) (k : ℕ) (link : Link) → link.place ≡ (link_in links k).place → after_ ≡ slice_set links k link → SamePlaces links after_
set_places links after_ k link p e = record { count = ap length e ∙ length-set links k link; place = λ n. ap (λ (ls : List Link). (link_in ls n).place) e ∙ set_place links k link p n }

kept : (calls : List Call) (call : Call) (before after_ : Network) → ((l : ℕ) → target_of l (call ∷ []) ≡ None) → SamePlaces before.links after_.links → SameExports before.exports after_.exports → Targets calls before → Targets (calls ++ call ∷ []) after_
kept calls call before after_ gives same exports t = record {
  to = λ l less. target-append l calls (call ∷ []) ∙ ap (or_later (target_of l calls)) (gives l) ∙ or_none (target_of l calls) ∙ t.to l (omega (arith, less, same.count))
      ∙ ap (λ (q : ℕ). Some (export_in before.exports q).at) (sym (same.place l)) ∙ ap (λ (x : Target). Some x) (sym (exports.at (link_in after_.links l).place));
  none = λ l past. target-append l calls (call ∷ []) ∙ ap (or_later (target_of l calls)) (gives l) ∙ or_none (target_of l calls) ∙ t.none l (omega (arith, past, same.count));
  hosted = λ l less. let h = t.hosted l (omega (arith, less, same.count)) in let p = same.place l in omega (arith, h, p, exports.count);
  apart = apart_then before.exports after_.exports exports t.apart;
}

reads_places : (opened : Bool) (step : Step) (exports : List Hosted) (links : List Link) (k room : ℕ) (answer : ReadTold) (after_ : List Link) → ReadsIf opened step exports links k room answer after_ → SamePlaces links after_
reads_places true step exports links k room answer after_ r = set_places links after_ k r.link (gives_place _ step room _ (link_in links k) answer r.link r.gives) r.is
reads_places false step exports links k room answer after_ r = same_places links after_ r.1

delivers_at : (b : Bool) (step : Step) (offered : ℕ) (hosted : Hosted) (before : Link) (answer : WriteTold) (after_ : Link) (end : Hosted) → DeliversIf b step offered hosted before answer after_ end → end.at ≡ hosted.at
delivers_at true step offered hosted before (Sent bytes) after_ end d = ap (λ (h : Hosted). h.at) d.holds
delivers_at true step offered hosted before Full after_ end d = absurd d
delivers_at true step offered hosted before WriteFault after_ end d = absurd d
delivers_at false step offered hosted before answer after_ end d = ap (λ (h : Hosted). h.at) d.2

writes_places : (opened : Bool) (step : Step) (exports : List Hosted) (links : List Link) (k offered : ℕ) (answer : WriteTold) (exports' : List Hosted) (after_ : List Link) → WritesIf opened step exports links k offered answer exports' after_ →
    SamePlaces links after_ × SameExports exports exports'
writes_places true step exports links k offered answer exports' after_ w = (
  set_places links after_ k w.link (delivers_place _ step offered _ (link_in links k) answer w.link w.hosted w.delivers) w.is,
  record {
    count = ap length w.holds ∙ length-set exports (link_in links k).place w.hosted;
    at = λ q. ap (λ (es : List Hosted). (export_in es q).at) w.holds ∙ set_at exports (link_in links k).place w.hosted (delivers_at _ step offered _ (link_in links k) answer w.link w.hosted w.delivers) q;
  },
)
writes_places false step exports links k offered answer exports' after_ w = (same_places links after_ w.2, same_exports exports exports' w.1)

opened_target : (calls : List Call) (before after_ : Network) (to : Target) (l q : ℕ) → l ≡ length before.links → q < length before.exports → (export_in before.exports q).at ≡ to → after_ ≡ record before { links = before.links ++ new_link q ∷ [] } →
    Targets calls before → Targets (calls ++ Connect to (Some l) ∷ []) after_
opened_target calls before after_ to l q number there at is t = subst (λ (n : Network). Targets (calls ++ Connect to (Some l) ∷ []) n) (sym is) (record {
  to = λ n less. target-append n calls (Connect to (Some l) ∷ []) ∙ elim (cases_lt n (length before.links)) [
    | inl old ↦ ap (λ (o : Option Target). or_later o (target_of n (Connect to (Some l) ∷ []))) (t.to n old) ∙ ap (λ (x : Link). Some (export_in before.exports x.place).at) (sym (pushed_before before.links (new_link q) n old))
    | inr new ↦ (
        let here : n ≡ length before.links = omega (arith, less, new, length-append before.links (new_link q ∷ [])) in
        ap (λ (o : Option Target). or_later o (target_of n (Connect to (Some l) ∷ []))) (t.none n new) ∙ ap (λ (b : Bool). if b then Some to else None) (eq-eqb l n (number ∙ sym here))
        ∙ ap (λ (x : Target). Some x) (sym at) ∙ ap (λ (x : Link). Some (export_in before.exports x.place).at) (sym (ap (link_in (before.links ++ new_link q ∷ [])) here ∙ pushed_last before.links (new_link q))))
  ];
  none = λ n past. target-append n calls (Connect to (Some l) ∷ []) ∙ ap (λ (o : Option Target). or_later o (target_of n (Connect to (Some l) ∷ []))) (t.none n (omega (arith, past, length-append before.links (new_link q ∷ []))))
      ∙ ap (λ (b : Bool). if b then Some to else None) (ne_eqb l n (omega (arith, past, number, length-append before.links (new_link q ∷ []))));
  hosted = λ n less. elim (cases_lt n (length before.links)) [
    | inl old ↦ (let h = t.hosted n old in let e = ap (λ (x : Link). x.place) (pushed_before before.links (new_link q) n old) in omega (arith, h, e))
    | inr new ↦ (
        let here : n ≡ length before.links = omega (arith, less, new, length-append before.links (new_link q ∷ [])) in
        let e : (link_in (before.links ++ new_link q ∷ []) n).place ≡ q = ap (λ (k : ℕ). (link_in (before.links ++ new_link q ∷ []) k).place) here ∙ ap (λ (x : Link). x.place) (pushed_last before.links (new_link q)) in
        omega (arith, there, e))
  ];
  apart = t.apart;
})

pub targets_then : (calls : List Call) (call : Call) (before after_ : Network) → Plays before call after_ → Targets calls before → Targets (calls ++ call ∷ []) after_
targets_then calls (Connect to (Some l)) before after_ p t = opened_target calls before after_ to l p.place p.number p.there p.at p.is t
targets_then calls (Connect to None) before after_ p t = kept calls (Connect to None) before after_ (λ l. refl) (same_places before.links after_.links (ap (λ (n : Network). n.links) p.1)) (same_exports before.exports after_.exports (ap (λ (n : Network). n.exports) p.1)) t
targets_then calls (Listen at listener) before after_ p t = kept calls (Listen at listener) before after_ (λ l. refl) (same_places before.links after_.links (ap (λ (n : Network). n.links) p.1)) (same_exports before.exports after_.exports (ap (λ (n : Network). n.exports) p.1)) t
targets_then calls (Accept listener answer) before after_ p t = kept calls (Accept listener answer) before after_ (λ l. refl) (same_places before.links after_.links (ap (λ (n : Network). n.links) p.1)) (same_exports before.exports after_.exports (ap (λ (n : Network). n.exports) p.1)) t
targets_then calls (Read k room answer) before after_ p t = kept calls (Read k room answer) before after_ (λ l. refl) (subst (λ (ls : List Link). SamePlaces before.links ls) (sym (ap (λ (n : Network). n.links) p.is)) (reads_places (link_in before.links k).opened _ before.exports before.links k room answer p.links p.reads))
    (same_exports before.exports after_.exports (ap (λ (n : Network). n.exports) p.is)) t
targets_then calls (Write k offered answer) before after_ p t =
    let w = writes_places (link_in before.links k).opened _ before.exports before.links k offered answer p.exports p.links p.writes in
    kept calls (Write k offered answer) before after_ (λ l. refl) (subst (λ (ls : List Link). SamePlaces before.links ls) (sym (ap (λ (n : Network). n.links) p.is)) w.0) (subst (λ (es : List Hosted). SameExports before.exports es) (sym (ap (λ (n : Network). n.exports) p.is)) w.1) t
targets_then calls (Pause wants) before after_ p t = let d = due_same wants before.links in
    kept calls (Pause wants) before after_ (λ l. refl) (subst (λ (ls : List Link). SamePlaces before.links ls) (sym (ap (λ (n : Network). n.links) p)) (record { count = d.count; place = d.place })) (same_exports before.exports after_.exports (ap (λ (n : Network). n.exports) p)) t
targets_then calls (Shut l) before after_ p t =
    kept calls (Shut l) before after_ (λ n. refl) (set_places before.links after_.links l (record (link_in before.links l) { opened = false }) refl (ap (λ (n : Network). n.links) p)) (same_exports before.exports after_.exports (ap (λ (n : Network). n.exports) p)) t

pub targets_first : (network : Network) → Begins network → Targets [] network
targets_first network b = record {
  to = λ l less. absurd (let n : length network.links ≡ 0 = ap length b.links in omega (arith, less, n));
  none = λ l past. refl;
  hosted = λ l less. absurd (let n : length network.links ≡ 0 = ap length b.links in omega (arith, less, n));
  apart = b.apart;
}
