-- What was heard of a server.
use Rattle.std.proofs.Common.{◌≡◌, ◌≤◌, ℕ, Bool, true, List, Option, Some, None, Result, Ok, Err, sym, ◌∙◌, ap, subst, arith}
use Rattle.std.specs.Prelude.{IfErr, IfOk}
use Rattle.lnbd_args.specs.declared.asked.What.{What}
use Rattle.lnbd_args.specs.declared.asked.What.TheVariants as what
use Rattle.lnbd_info.specs.declared.told.Entry.{Entry}
use Rattle.lnbd_link.specs.Call.{Call}
use Rattle.lnbd_model.specs.declared.export.Extent.{Extent}
use Rattle.lnbd_model.specs.declared.fault.NoMemory.{NoMemory}
use Rattle.lnbd_model.specs.declared.target.Place.{Place}
use Rattle.lnbd_cli.specs.declared.ending.Fault.{Fault}
use Rattle.lnbd_cli.specs.declared.ending.Fault.TheVariants as fault
use Rattle.lnbd_cli.specs.declared.hearing.News.{News}
use Rattle.lnbd_ask.specs.Lists.{HasListed}
use Rattle.lnbd_ask.specs.Maps.{Mapped}
use Rattle.lnbd_ask.specs.Quiet.{Passes}
use Rattle.lnbd_ask.specs.declared.fault.InfoFault.{InfoFault}
use Rattle.lnbd_ask.specs.declared.fault.InfoFault.TheVariants as info
use Rattle.lnbd_cli.specs.Heard.{IsMapText, IsToldAs, Says, SaysList, SaysMap, Unheard, WasAsked, end_of_entries, exports_text, heard}
use Rattle.lnbd_ask.specs.Asks.{IfLink, IfSilent}
use Rattle.lnbd_link.specs.Count.{Rises}

pub if_both : {A E : Type 0} {P Q R : A → Type 0} (result : Result A E) → IfOk result P → IfOk result Q → ((a : A) → P a → Q a → R a) → IfOk result R
if_both (Ok a) p q f = f a p q
if_both (Err e) p q f = tt

pub heard_ok : (made : Result News NoMemory) (P : News → Type 0) → IfOk made P → IfOk (heard made) P
heard_ok (Ok news) P p = p
heard_ok (Err short) P p = tt

pub heard_err : (made : Result News NoMemory) (P : Fault → Type 0) → P fault.NoMemory → IfErr (heard made) P
heard_err (Ok news) P p = tt
heard_err (Err short) P p = p

module _ (which other : What) (json : Bool) (place : Place) (told told' : Option (List Call)) (result : Result News Fault) (is : which ≡ other) where
  pub says_as : IfOk result (λ news. Says other json place told told' news.text.items news.end) → IfOk result (λ news. Says which json place told told' news.text.items news.end)
  says_as says = subst (λ (w : What). IfOk result (λ news. Says w json place told told' news.text.items news.end)) (sym is) says

  pub fails_as : IfErr result (Unheard other place told told') → IfErr result (Unheard which place told told')
  fails_as fails = subst (λ (w : What). IfErr result (Unheard w place told told')) (sym is) fails

-- What is told of a fault has its cause.

pub told_link : (f : InfoFault) (context : Option (List ℕ)) (why : Fault) (m n : ℕ) → IsToldAs f context why
    → IfLink f (λ before after. (before ≡ m) × Rises 1 before after × (after ≤ n)) → why ≡ fault.Link → Rises 1 m n
told_link (info.Link before after) context why m n told rose is = omega (arith, rose.0, rose.1, rose.2)
told_link (info.Peer option code) context why m n told rose is = cc (sym told ∙ is)
told_link (info.Broke broken) context why m n told rose is = cc (sym told ∙ is)
told_link (info.Silent idles) context why m n told rose is = cc (sym told ∙ is)
told_link info.NoMemory context why m n told rose is = cc (sym told ∙ is)
told_link info.NoContext (Some name) why m n told rose is = cc (sym told ∙ is)
told_link info.NoContext None why m n told rose is = absurd told

pub told_silent : (f : InfoFault) (context : Option (List ℕ)) (why : Fault) (m n : ℕ) → IsToldAs f context why → IfSilent f (λ idles. Rises 1000000000 m idles × (idles ≤ n))
    → why ≡ fault.Silent → Rises 1000000000 m n
told_silent (info.Silent idles) context why m n told rose is = omega (arith, rose.0, rose.1)
told_silent (info.Link before after) context why m n told rose is = cc (sym told ∙ is)
told_silent (info.Peer option code) context why m n told rose is = cc (sym told ∙ is)
told_silent (info.Broke broken) context why m n told rose is = cc (sym told ∙ is)
told_silent info.NoMemory context why m n told rose is = cc (sym told ∙ is)
told_silent info.NoContext (Some name) why m n told rose is = cc (sym told ∙ is)
told_silent info.NoContext None why m n told rose is = absurd told

-- The server was asked, where its answer is told.
pub was_asked : (which : What) (json : Bool) (place : Place) (told told' : Option (List Call)) (text : List ℕ) (end : Result Bool ℕ) → Says which json place told told' text end
    → WasAsked which place told told'
was_asked what.Listing json place told told' text end says = (Ok says.found, says.collected)
was_asked what.Size json place told told' text end says = (Ok says.found, says.collected)
was_asked (what.Test predicate) json place told told' text end says = (Ok says.found, says.collected)
was_asked what.List json place told told' text end says = (Ok says.entries, says.listed)
was_asked (what.Map context) json place told told' text end says = (Ok says.map, says.mapped)
was_asked (what.Totals context) json place told told' text end says = (Ok says.map, says.mapped)

-- What is printed of a list and of a map.

pub list_says : (json : Bool) (place : Place) (told told' : Option (List Call)) (made : Result News NoMemory) (shown entries : List Entry) → shown ≡ entries
    → IfOk made (λ news. news.text.items ≡ exports_text json shown) → IfOk made (λ news. news.end ≡ end_of_entries shown)
    → HasListed Passes place told told' (Ok entries) → IfOk (heard made) (λ news. SaysList json place told told' news.text.items news.end)
list_says json place told told' (Ok news) shown entries same is ends listed =
    record { entries = entries; listed = listed; is = is ∙ ap (λ (e : List Entry). exports_text json e) same; ends = ends ∙ ap (λ (e : List Entry). end_of_entries e) same }
list_says json place told told' (Err short) shown entries same is ends listed = tt

pub map_says : (sums json : Bool) (context : List ℕ) (place : Place) (told told' : Option (List Call)) (made : Result News NoMemory) (shown extents : List Extent) → shown ≡ extents
    → IfOk made (λ news. IsMapText sums json context shown news.text.items) → IfOk made (λ news. news.end ≡ Ok true)
    → Mapped place context told told' (Ok extents) → IfOk (heard made) (λ news. SaysMap sums json context place told told' news.text.items news.end)
map_says sums json context place told told' (Ok news) shown extents same is ends mapped =
    record { map = extents; mapped = mapped; is = subst (λ (m : List Extent). IsMapText sums json context m news.text.items) same is; ends = ends }
map_says sums json context place told told' (Err short) shown extents same is ends mapped = tt
