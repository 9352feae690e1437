-- What is told of a fault of dumping has its cause, and what was shown by how a run ended.
use Rattle.std.proofs.Common.{◌≡◌, ◌≤◌, inl, inr, ℕ, true, List, [], Option, Result, Ok, Err, refl, sym, ◌∙◌, arith, ap, subst}
use Rattle.std.proofs.lemmas.List.{append-nil}
use Rattle.lnbd_link.specs.Call.{Call}
use Rattle.lnbd_link.specs.Count.{Rises}
use Rattle.lnbd_link.specs.Part.{Takes}
use Rattle.lnbd_link.proofs.Parts.{takes_none}
use Rattle.lnbd_dump.specs.Conduct.{IfLink, IfSilent}
use Rattle.lnbd_dump.specs.Shown.{Shows}
use Rattle.lnbd_dump.specs.declared.fault.DumpFault.{DumpFault}
use Rattle.lnbd_dump.specs.declared.fault.DumpFault.TheVariants as dumping
use Rattle.lnbd_cli.specs.declared.dumping.Excerpt.{Excerpt}
use Rattle.lnbd_cli.specs.declared.ending.Fault.{Fault}
use Rattle.lnbd_cli.specs.declared.ending.Fault.TheVariants as fault
use Rattle.lnbd_cli.specs.Dumps.{Broken_off, Counted, DumpEnds, IsShown, IsShownInPart, TellsDumpFault, Unbegun, Whole}
use Rattle.lnbd_cli.specs.Ends.{End}

abbrev failed : Fault → End
failed why = Err why

abbrev answer : DumpFault → Result ℕ DumpFault
answer why = Err why

pub told_link : (f : DumpFault) (why : Fault) (m n : ℕ) → TellsDumpFault f why → IfLink f (λ before after. (before ≡ m) × Rises 1 before after × (after ≤ n))
    → failed why ≡ Err fault.Link → Rises 1 m n
told_link (dumping.Link before after) why m n is rose e = omega (arith, rose.0, rose.1, rose.2)
told_link dumping.NoMemory why m n is rose e = cc (ap failed (sym is) ∙ e)
told_link (dumping.Broke broken) why m n is rose e = cc (ap failed (sym is) ∙ e)
told_link (dumping.Peer option code) why m n is rose e = cc (ap failed (sym is) ∙ e)
told_link (dumping.Silent idles) why m n is rose e = cc (ap failed (sym is) ∙ e)
told_link dumping.Output why m n is rose e = cc (ap failed (sym is) ∙ e)
told_link (dumping.Range offset length size) why m n is rose e = cc (ap failed (sym is) ∙ e)
told_link (dumping.Uneven size block) why m n is rose e = cc (ap failed (sym is) ∙ e)

pub told_silent : (f : DumpFault) (why : Fault) (i j : ℕ) → TellsDumpFault f why → IfSilent f (λ idles. Rises 1000000000 i idles × (idles ≤ j))
    → failed why ≡ Err fault.Silent → Rises 1000000000 i j
told_silent (dumping.Silent idles) why i j is rose e = omega (arith, rose.0, rose.1)
told_silent dumping.NoMemory why i j is rose e = cc (ap failed (sym is) ∙ e)
told_silent (dumping.Link before after) why i j is rose e = cc (ap failed (sym is) ∙ e)
told_silent (dumping.Broke broken) why i j is rose e = cc (ap failed (sym is) ∙ e)
told_silent (dumping.Peer option code) why i j is rose e = cc (ap failed (sym is) ∙ e)
told_silent dumping.Output why i j is rose e = cc (ap failed (sym is) ∙ e)
told_silent (dumping.Range offset length size) why i j is rose e = cc (ap failed (sym is) ∙ e)
told_silent (dumping.Uneven size block) why i j is rose e = cc (ap failed (sym is) ∙ e)

pub told_output : (f : DumpFault) (why : Fault) (P : Type 0) → TellsDumpFault f why → (answer f ≡ Err dumping.Output → P) → failed why ≡ Err fault.Output → P
told_output dumping.Output why P is rose e = rose refl
told_output dumping.NoMemory why P is rose e = cc (ap failed (sym is) ∙ e)
told_output (dumping.Link before after) why P is rose e = cc (ap failed (sym is) ∙ e)
told_output (dumping.Broke broken) why P is rose e = cc (ap failed (sym is) ∙ e)
told_output (dumping.Peer option code) why P is rose e = cc (ap failed (sym is) ∙ e)
told_output (dumping.Silent idles) why P is rose e = cc (ap failed (sym is) ∙ e)
told_output (dumping.Range offset length size) why P is rose e = cc (ap failed (sym is) ∙ e)
told_output (dumping.Uneven size block) why P is rose e = cc (ap failed (sym is) ∙ e)

module _ (e : Excerpt) (told told' : Option (List Call)) (taken taken' : Option (List ℕ)) (Uncalled Unprinted : Type 0) (end : End) where
  -- on 0 all was shown
  pub shown_whole : DumpEnds e told told' taken taken' Uncalled Unprinted end → end ≡ Ok true → IsShown e told told' taken taken'
  shown_whole (Whole is all) done = (all.count, all.shows)
  shown_whole (Broken_off fault why is tells part) done = cc (sym is ∙ done)
  shown_whole (Counted (inl is) all) done = cc (sym is ∙ done)
  shown_whole (Counted (inr is) all) done = cc (sym is ∙ done)
  shown_whole (Unbegun is called printed) done = cc (sym is ∙ done)

  front_of : (count : ℕ) → Shows e.place e.offset e.length count told told' taken taken' → IsShownInPart e told told' taken taken'
  front_of count s = record {
    text = s.text;
    takes = s.takes;
    is = λ all part grown grows holds honest.
        record { rest = []; is = sym (s.is all part grown grows holds honest).2 ∙ sym (append-nil s.text) };
  }

  -- and a front of it whatever came
  pub shown_front : DumpEnds e told told' taken taken' Uncalled Unprinted end → (Unprinted → taken' ≡ taken) → IsShownInPart e told told' taken taken'
  shown_front (Whole is all) same = front_of all.count all.shows
  shown_front (Broken_off fault why is tells part) same = part.fronts
  shown_front (Counted is all) same = front_of all.count all.shows
  shown_front (Unbegun is called printed) same =
      record { text = []; takes = subst (λ (k : Option (List ℕ)). Takes taken k []) (sym (same printed)) (takes_none taken); is = λ all part grown grows holds honest. record { rest = _; is = refl } }
