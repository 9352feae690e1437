-- Which numbers of links are given and open, as the calls say.
use Rattle.std.proofs.Common.{◌≡◌, ◌≢◌, ℕ, zero, suc, ◌≤◌, Bool, true, false, List, [], ◌∷◌, ◌++◌, Option, Some, None, length, slice_set, get_or-set_other, refl, ap, sym, subst, ◌∙◌, arith, inl, inr, ◌||◌, ◌&&◌, not}
use Rattle.std.proofs.lemmas.Bool.{cases_eq, eq-eqb, ne_eqb}
use Rattle.std.proofs.lemmas.List.{length-append, length-set}
use Rattle.lnbd_model.specs.declared.target.Target.{Target}
use Rattle.lnbd_link.specs.declared.wires.Accepted.{Accepted}
use Rattle.lnbd_link.specs.declared.wires.Accepted.TheVariants as accepted
use Rattle.lnbd_link.specs.declared.wires.Want.{Want}
use Rattle.lnbd_link.specs.Call.{Call, Connect, Listen, Accept, Read, Write, Pause, Shut, ReadTold, WriteTold, Sent, Full, WriteFault}
use Rattle.lnbd_link.specs.Numbers.{gives, is_given, open_by, is_open}
use Rattle.lnbd_link.proofs.Openings.{is_open-call, not_given-call}
use Rattle.lnbd_export.specs.Export.{Export}
use Rattle.lnbd_memnet.specs.declared.hosted.Hosted.{Hosted}
use Rattle.lnbd_memnet.specs.declared.link.Link.{Link}
use Rattle.lnbd_memnet.specs.declared.schedule.Step.{Step}
use Rattle.lnbd_memnet.specs.Network.{Network, no_link, link_in, new_link}
use Rattle.lnbd_memnet.specs.Plays.{Plays, GivesIf, ReadsIf, DeliversIf, WritesIf, due_at, all_due, shut_at}
use Rattle.lnbd_memnet.specs.Wires.{Played, None_yet, Then, Came}

-- No number from the count of links on was given, and the links that are open are those that the calls leave open.
pub record Numbered (calls : List Call) (links : List Link) : Type 0 where
  pub fresh : (n : ℕ) → length links ≤ n → is_given n calls ≡ false
  pub open_is : (n : ℕ) → (link_in links n).opened ≡ is_open n calls

-- as many links, and the same of them are open
record SameOpen (before after : List Link) : Type 0 where
  count : length after ≡ length before
  each : (n : ℕ) → (link_in after n).opened ≡ (link_in before n).opened

same_open : (before : List Link) → SameOpen before before
same_open before = record { count = refl; each = λ n. refl }

equal_open : (before after : List Link) → after ≡ before → SameOpen before after
equal_open before after e = subst (λ ls. SameOpen before ls) (sym e) (same_open before)

then_open : (one two three : List Link) → SameOpen one two → SameOpen two three → SameOpen one three
then_open one two three a b = record { count = b.count ∙ a.count; each = λ n. b.each n ∙ a.each n }

set_open : (links : List Link) (k : ℕ) (link : Link) → link.opened ≡ (link_in links k).opened → SameOpen links (slice_set links k link)
set_open links k link e = record { count = length-set links k link; each = each links k e }
  where
    each : (links : List Link) (k : ℕ) → link.opened ≡ (link_in links k).opened → (n : ℕ) → (link_in (slice_set links k link) n).opened ≡ (link_in links n).opened
    each [] k e n = refl
    each (l ∷ links) zero e zero = e
    each (l ∷ links) zero e (suc n) = refl
    each (l ∷ links) (suc k) e zero = refl
    each (l ∷ links) (suc k) e (suc n) = each links k e n

gives_open : (b : Bool) (step : Step) (room : ℕ) (export : Export) (before : Link) (answer : ReadTold) (after : Link) → GivesIf b step room export before answer after → after.opened ≡ before.opened
gives_open true step room export before answer after g = ap (λ (l : Link). l.opened) g.is
gives_open false step room export before answer after g = ap (λ (l : Link). l.opened) g.1

delivers_open : (b : Bool) (step : Step) (offered : ℕ) (hosted : Hosted) (before : Link) (answer : WriteTold) (after : Link) (end : Hosted) → DeliversIf b step offered hosted before answer after end → after.opened ≡ before.opened
delivers_open true step offered hosted before (Sent bytes) after end d = ap (λ (l : Link). l.opened) d.is
delivers_open true step offered hosted before Full after end d = absurd d
delivers_open true step offered hosted before WriteFault after end d = absurd d
delivers_open false step offered hosted before answer after end d = ap (λ (l : Link). l.opened) d.1

reads_open : (opened : Bool) (step : Step) (exports : List Hosted) (links : List Link) (n room : ℕ) (answer : ReadTold) (after : List Link) → ReadsIf opened step exports links n room answer after → SameOpen links after
reads_open true step exports links n room answer after r =
    subst (λ ls. SameOpen links ls) (sym r.is) (set_open links n r.link (gives_open _ step room _ _ answer r.link r.gives))
reads_open false step exports links n room answer after r = equal_open links after r.1

writes_open : (opened : Bool) (step : Step) (exports : List Hosted) (links : List Link) (n offered : ℕ) (answer : WriteTold) (exports' : List Hosted) (after : List Link) →
    WritesIf opened step exports links n offered answer exports' after → SameOpen links after
writes_open true step exports links n offered answer exports' after w =
    subst (λ ls. SameOpen links ls) (sym w.is) (set_open links n w.link (delivers_open _ step offered _ _ answer w.link w.hosted w.delivers))
writes_open false step exports links n offered answer exports' after w = equal_open links after w.2

due_open : (links : List Link) (n : ℕ) → SameOpen links (due_at n links)
due_open links n = set_open links n _ refl

all_due_open : (wants : List Want) (links : List Link) → SameOpen links (all_due wants links)
all_due_open [] links = same_open links
all_due_open (want ∷ wants) links = then_open links (due_at want.link links) (all_due wants (due_at want.link links)) (due_open links want.link) (all_due_open wants (due_at want.link links))

-- a call that gives no number and opens and shuts none
plain : (calls : List Call) (call : Call) (before after : List Link) → ((n : ℕ) → gives n call ≡ false) → ((n : ℕ) (was : Bool) → open_by n was call ≡ was) → SameOpen before after → Numbered calls before → Numbered (calls ++ call ∷ []) after
plain calls call before after g o same numbered = record {
  fresh = λ n le. not_given-call n calls call (numbered.fresh n (subst (λ k. k ≤ n) same.count le)) (g n);
  open_is = λ n. same.each n ∙ numbered.open_is n ∙ sym (is_open-call n calls call ∙ o n _);
}

-- a call that gave no number
nothing_given : (calls : List Call) (call : Call) (before after : Network) → ((n : ℕ) → gives n call ≡ false) → ((n : ℕ) (was : Bool) → open_by n was call ≡ was) → after ≡ before → Numbered calls before.links → Numbered (calls ++ call ∷ []) after.links
nothing_given calls call before after g o e numbered = plain calls call before.links after.links g o (equal_open before.links after.links (ap (λ (n : Network). n.links) e)) numbered

pushed_last : (links : List Link) (link : Link) → link_in (links ++ link ∷ []) (length links) ≡ link
pushed_last [] link = refl
pushed_last (l ∷ links) link = pushed_last links link

pushed_other : (links : List Link) (link : Link) (n : ℕ) → n ≢ length links → link_in (links ++ link ∷ []) n ≡ link_in links n
pushed_other [] link zero ne = absurd (ne refl)
pushed_other [] link (suc n) ne = refl
pushed_other (l ∷ links) link zero ne = refl
pushed_other (l ∷ links) link (suc n) ne = pushed_other links link n (λ e. ne (ap suc e))

opened_one : (calls : List Call) (to : Target) (links : List Link) (place : ℕ) → Numbered calls links → Numbered (calls ++ Connect to (Some (length links)) ∷ []) (links ++ new_link place ∷ [])
opened_one calls to links place numbered = record {
  fresh = λ n le. not_given-call n calls (Connect to (Some (length links))) (numbered.fresh n (omega (arith, le, length-append links (new_link place ∷ [])))) (ne_eqb (length links) n (omega (arith, le, length-append links (new_link place ∷ []))));
  open_is = λ n. each n ∙ sym (is_open-call n calls (Connect to (Some (length links))));
}
  where
    each : (n : ℕ) → (link_in (links ++ new_link place ∷ []) n).opened ≡ open_by n (is_open n calls) (Connect to (Some (length links)))
    each n = elim (cases_eq (length links) n) [
      | inl e ↦ ap (λ (k : ℕ). (link_in (links ++ new_link place ∷ []) k).opened) (sym e) ∙ ap (λ (l : Link). l.opened) (pushed_last links (new_link place)) ∙ sym (ap (λ (b : Bool). b || is_open n calls) (eq-eqb (length links) n e))
      | inr ne ↦ ap (λ (l : Link). l.opened) (pushed_other links (new_link place) n (λ e. ne (sym e))) ∙ numbered.open_is n ∙ sym (ap (λ (b : Bool). b || is_open n calls) (ne_eqb (length links) n ne))
    ]

set_shut : (links : List Link) (k n : ℕ) → k ≢ n → (link_in (shut_at k links) n).opened ≡ (link_in links n).opened
set_shut links k n ne = ap (λ (l : Link). l.opened) (get_or-set_other links k n _ no_link (λ e. ne (sym e)))

set_shut_here : (links : List Link) (k : ℕ) (link : Link) → link.opened ≡ false → (link_in (slice_set links k link) k).opened ≡ false
set_shut_here [] k link e = refl
set_shut_here (l ∷ links) zero link e = e
set_shut_here (l ∷ links) (suc k) link e = set_shut_here links k link e

shut_one : (calls : List Call) (links : List Link) (k : ℕ) → Numbered calls links → Numbered (calls ++ Shut k ∷ []) (shut_at k links)
shut_one calls links k numbered = record {
  fresh = λ n le. not_given-call n calls (Shut k) (numbered.fresh n (subst (λ m. m ≤ n) (length-set links k _) le)) refl;
  open_is = λ n. each n ∙ sym (is_open-call n calls (Shut k));
}
  where
    each : (n : ℕ) → (link_in (shut_at k links) n).opened ≡ open_by n (is_open n calls) (Shut k)
    each n = elim (cases_eq k n) [
      | inl e ↦ ap (λ (j : ℕ). (link_in (shut_at k links) j).opened) (sym e) ∙ set_shut_here links k _ refl ∙ sym (ap (λ (b : Bool). not b && is_open n calls) (eq-eqb k n e))
      | inr ne ↦ set_shut links k n ne ∙ numbered.open_is n ∙ sym (ap (λ (b : Bool). not b && is_open n calls) (ne_eqb k n ne))
    ]

numbered_then : (calls : List Call) (call : Call) (before after : Network) → Plays before call after → Numbered calls before.links → Numbered (calls ++ call ∷ []) after.links
numbered_then calls (Connect to (Some link)) before after p numbered =
    subst (λ (ls : List Link). Numbered (calls ++ Connect to (Some link) ∷ []) ls) (sym (ap (λ (n : Network). n.links) p.is))
    (subst (λ (k : ℕ). Numbered (calls ++ Connect to (Some k) ∷ []) (before.links ++ new_link p.place ∷ [])) (sym p.number) (opened_one calls to before.links p.place numbered))
numbered_then calls (Connect to None) before after p numbered = nothing_given calls (Connect to None) before after (λ n. refl) (λ n was. refl) p.1 numbered
numbered_then calls (Listen at listener) before after p numbered =
    subst (λ (o : Option ℕ). Numbered (calls ++ Listen at o ∷ []) after.links) (sym p.0) (nothing_given calls (Listen at None) before after (λ n. refl) (λ n was. refl) p.1 numbered)
numbered_then calls (Accept listener answer) before after p numbered =
    subst (λ (a : Accepted). Numbered (calls ++ Accept listener a ∷ []) after.links) (sym p.0) (nothing_given calls (Accept listener accepted.Failed) before after (λ n. refl) (λ n was. refl) p.1 numbered)
numbered_then calls (Read link room answer) before after p numbered =
    plain calls (Read link room answer) before.links after.links (λ n. refl) (λ n was. refl)
    (subst (λ (ls : List Link). SameOpen before.links ls) (sym (ap (λ (n : Network). n.links) p.is)) (reads_open _ _ _ before.links link room answer p.links p.reads)) numbered
numbered_then calls (Write link offered answer) before after p numbered =
    plain calls (Write link offered answer) before.links after.links (λ n. refl) (λ n was. refl)
    (subst (λ (ls : List Link). SameOpen before.links ls) (sym (ap (λ (n : Network). n.links) p.is)) (writes_open _ _ _ before.links link offered answer p.exports p.links p.writes)) numbered
numbered_then calls (Pause wants) before after p numbered =
    plain calls (Pause wants) before.links after.links (λ n. refl) (λ n was. refl)
    (subst (λ (ls : List Link). SameOpen before.links ls) (sym (ap (λ (n : Network). n.links) p)) (all_due_open wants before.links)) numbered
numbered_then calls (Shut link) before after p numbered =
    subst (λ (ls : List Link). Numbered (calls ++ Shut link ∷ []) ls) (sym (ap (λ (n : Network). n.links) p)) (shut_one calls before.links link numbered)

played_numbered : (start : Network) (calls : List Call) (network : Network) → start.links ≡ [] → Played start calls network → Numbered calls network.links
played_numbered start _ _ none (None_yet calls network e f) =
    subst (λ (cs : List Call). Numbered cs network.links) (sym e) (subst (λ (ls : List Link). Numbered [] ls) (sym (ap (λ (n : Network). n.links) f ∙ none)) (record { fresh = λ n le. refl; open_is = λ n. refl }))
played_numbered start _ _ none (Then calls all before after call earlier plays e) =
    subst (λ (cs : List Call). Numbered cs after.links) (sym e) (numbered_then calls call before after plays (played_numbered start calls before none earlier))

pub came_numbered : (calls : List Call) (network : Network) → Came calls network → Numbered calls network.links
came_numbered calls network came = played_numbered came.first calls network came.begins.links came.played
