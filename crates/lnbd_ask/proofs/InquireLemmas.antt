-- One range after another.
use Rattle.std.proofs.Common.{◌≡◌, ◌≤◌, ◌<◌, ◌+◌, ℕ, List, [], ◌∷◌, ◌++◌, Option, Result, Ok, Err, refl, sym, ◌∙◌, ap, subst, append_assoc, append-nil}
use Rattle.lnbd_model.specs.declared.export.Extent.{Extent}
use Rattle.lnbd_extents.specs.Lists.{span}
use Rattle.lnbd_info.specs.Map.{IsMapOf}
use Rattle.lnbd_link.specs.Call as wire
use Rattle.lnbd_link.specs.Part.{Grows}
use Rattle.lnbd_link.proofs.Parts.{grows_none, grows_on}
use Rattle.lnbd_poll.specs.Held.{Held}
use Rattle.lnbd_poll.specs.Seen.{Goes, Seen, Went}
use Rattle.lnbd_poll.specs.Turns.{Blames}
use Rattle.lnbd_poll.proofs.TurnLemmas.{blames_on}
use Rattle.lnbd_waits.specs.declared.waiting.Halt.TheVariants as halt
use Rattle.lnbd_ask.specs.declared.stops.Stop.{Stop}
use Rattle.lnbd_ask.specs.declared.stops.Stop.TheVariants as stop
use Rattle.lnbd_ask.specs.declared.survey.Surveyor.{Surveyor}
use Rattle.lnbd_ask.specs.Maps.{All_answered, AreAsked, Asked, Inquires, Is_answered, Runs_short, counting, length_at, told_by}
use Rattle.lnbd_ask.specs.MapSteps.{AsksOne, Inquired, with_all}
use Rattle.lnbd_waits.specs.Waits.{Holds}
use Rattle.lnbd_ask.proofs.LayLemmas.{map_none, map_with_all, told_by_more}
use Rattle.lnbd_waits.proofs.WaitLemmas.{blames_none}

module _ (context : List ℕ) (block whole : ℕ) where
  -- The ranges so far: whatever the others do goes on from here.
  pub record Inquiring (a b : Option (List wire.Call)) (f g : ℕ) (all : List (Held Surveyor)) (seen : Seen Surveyor) (at : ℕ) (map : List Extent) : Type 0 where
    pub asked : List Asked
    pub calls : List wire.Call
    pub now : Seen Surveyor
    pub grown : Grows a b calls
    pub holds : Holds all now
    pub blames : Blames calls f g
    pub goes_on : (others : List Asked) (more : List wire.Call) (after : Seen Surveyor) → Inquires context others now more after → Inquires context (asked ++ others) seen (calls ++ more) after
    pub walks : (others : List Asked) (to : ℕ) → AreAsked block whole at others to → AreAsked block whole 0 (asked ++ others) to
    pub counts : IsMapOf (told_by block asked) map

  pub inquiring_none : (a : Option (List wire.Call)) (f : ℕ) (all : List (Held Surveyor)) (seen : Seen Surveyor) (map : List Extent) → map ≡ [] → Holds all seen → Inquiring a a f f all seen 0 map
  inquiring_none a f all seen map none holds = record {
    asked = [];
    calls = [];
    now = seen;
    grown = grows_none a;
    holds = holds;
    blames = blames_none f f;
    goes_on = λ others more after inquires. inquires;
    walks = λ others to asked. asked;
    counts = subst (λ (l : List Extent). IsMapOf [] l) (sym none) map_none;
  }

  -- A range more is answered, and what counts of it is not yet laid.
  pub record Answering (a c : Option (List wire.Call)) (f h : ℕ) (all : List (Held Surveyor)) (seen : Seen Surveyor) (at size : ℕ) (told map : List Extent) : Type 0 where
    pub asked : List Asked
    pub calls : List wire.Call
    pub now : Seen Surveyor
    pub grown : Grows a c calls
    pub holds : Holds all now
    pub blames : Blames calls f h
    pub goes_on : (others : List Asked) (more : List wire.Call) (after : Seen Surveyor) → Inquires context others now more after → Inquires context (asked ++ others) seen (calls ++ more) after
    pub walks : (others : List Asked) (to : ℕ) → AreAsked block whole (at + span (counting block size told)) others to → AreAsked block whole 0 (asked ++ others) to
    pub counts : (laid : List Extent) → laid ≡ with_all map (counting block size told) → IsMapOf (told_by block asked) laid

  pub answering : (a b c : Option (List wire.Call)) (f g h : ℕ) (all all' : List (Held Surveyor)) (seen : Seen Surveyor) (at size : ℕ) (told map : List Extent) (end : Result (Unit {0}) Stop) → end ≡ Ok tt → at < whole → size ≡ length_at whole at → f ≤ g → g ≤ h
      → Inquiring a b f g all seen at map → Goes b c (Holds all) (Holds all') (λ before calls after. AsksOne context at size told g h end before calls after) → Answering a c f h all' seen at size told map
  answering a b c f g h all all' seen at size told map end ok below size_is fg gh so goes =
      let went = goes so.now so.holds in
      let asks = (subst (λ (e : Result (Unit {0}) Stop). AsksOne context at size told g h e so.now went.calls went.after) ok went.leads).asks in
      let one : Asked = record { offset = at; length = size; told = told } in
      record {
        asked = so.asked ++ one ∷ [];
        calls = so.calls ++ went.calls;
        now = went.after;
        grown = grows_on a b c so.calls went.calls so.grown went.grown;
        holds = went.at;
        blames = blames_on so.calls went.calls f g h so.blames went.leads.blames fg gh;
        goes_on = λ others more after inquires.
            subst (λ (l : List Asked). Inquires context l seen ((so.calls ++ went.calls) ++ more) after) (sym (append_assoc so.asked (one ∷ []) others))
            (subst (λ (l : List wire.Call). Inquires context (so.asked ++ one ∷ others) seen l after) (sym (append_assoc so.calls went.calls more))
            (so.goes_on (one ∷ others) (went.calls ++ more) after (Is_answered (one ∷ others) so.now (went.calls ++ more) after one others asks.0 went.calls went.after more refl asks.1 asks.2 inquires refl)));
        walks = λ others to asked.
            subst (λ (l : List Asked). AreAsked block whole 0 l to) (sym (append_assoc so.asked (one ∷ []) others))
            (so.walks (one ∷ others) to ((below, refl, size_is), asked));
        counts = λ laid is.
            subst (λ (l : List Extent). IsMapOf l laid) (sym (told_by_more block so.asked one))
            (subst (λ (l : List Extent). IsMapOf (told_by block so.asked ++ counting block size told) l) (sym is) (map_with_all (told_by block so.asked) map (counting block size told) so.counts));
      }

  -- What counts of it is laid, and the asking goes on behind it.
  pub inquiring_on : (a c : Option (List wire.Call)) (f h : ℕ) (all : List (Held Surveyor)) (seen : Seen Surveyor) (at size passed on : ℕ) (told map laid : List Extent) → passed ≡ span (counting block size told) → on ≡ at + passed → laid ≡ with_all map (counting block size told)
      → Answering a c f h all seen at size told map → Inquiring a c f h all seen on laid
  inquiring_on a c f h all seen at size passed on told map laid passed_is on_is laid_is so = record {
    asked = so.asked;
    calls = so.calls;
    now = so.now;
    grown = so.grown;
    holds = so.holds;
    blames = so.blames;
    goes_on = so.goes_on;
    walks = λ others to asked. so.walks others to (subst (λ (n : ℕ). AreAsked block whole n others to) (on_is ∙ ap (λ (n : ℕ). at + n) passed_is) asked);
    counts = so.counts laid laid_is;
  }

  -- Memory runs out where it is to be laid.
  pub inquire_unlaid : (a c : Option (List wire.Call)) (f h : ℕ) (all : List (Held Surveyor)) (seen : Seen Surveyor) (at size : ℕ) (told map last : List Extent) → Answering a c f h all seen at size told map
      → Went a c (Holds all) (λ calls after. Inquired context block whole last f h (Err (stop.Halted halt.NoMemory)) seen calls after)
  inquire_unlaid a c f h all seen at size told map last so = record {
    calls = so.calls;
    after = so.now;
    grown = so.grown;
    leads = record {
      asks = record {
        all = so.asked;
        to = at + span (counting block size told);
        own = so.calls;
        last = so.now;
        more = [];
        inquires = subst (λ (l : List wire.Call). Inquires context so.asked seen l so.now) (append-nil so.calls)
            (subst (λ (l : List Asked). Inquires context l seen (so.calls ++ []) so.now) (append-nil so.asked) (so.goes_on [] [] so.now (All_answered [] so.now [] so.now refl refl refl)));
        asked = subst (λ (l : List Asked). AreAsked block whole 0 l (at + span (counting block size told))) (append-nil so.asked) (so.walks [] (at + span (counting block size told)) refl);
        stops = Runs_short so.now [] so.now refl refl refl;
        calls_are = sym (append-nil so.calls);
      };
      blames = so.blames;
    };
    at = so.holds;
  }

  -- The asking stops.
  pub inquire_stops : (a b c : Option (List wire.Call)) (f g h : ℕ) (all all' : List (Held Surveyor)) (seen : Seen Surveyor) (at size : ℕ) (told map last : List Extent) (why : Stop) (end : Result (Unit {0}) Stop) → end ≡ Err why → at < whole → size ≡ length_at whole at → f ≤ g → g ≤ h
      → Inquiring a b f g all seen at map → Goes b c (Holds all) (Holds all') (λ before calls after. AsksOne context at size told g h end before calls after)
      → Went a c (Holds all') (λ calls after. Inquired context block whole last f h (Err why) seen calls after)
  inquire_stops a b c f g h all all' seen at size told map last why end fails below size_is fg gh so goes =
      let went = goes so.now so.holds in
      let asks = (subst (λ (e : Result (Unit {0}) Stop). AsksOne context at size told g h e so.now went.calls went.after) fails went.leads).asks in
      record {
        calls = so.calls ++ went.calls;
        after = went.after;
        grown = grows_on a b c so.calls went.calls so.grown went.grown;
        leads = record {
          asks = record {
            all = so.asked;
            to = at;
            own = so.calls;
            last = so.now;
            more = went.calls;
            inquires = subst (λ (l : List wire.Call). Inquires context so.asked seen l so.now) (append-nil so.calls)
                (subst (λ (l : List Asked). Inquires context l seen (so.calls ++ []) so.now) (append-nil so.asked) (so.goes_on [] [] so.now (All_answered [] so.now [] so.now refl refl refl)));
            asked = subst (λ (l : List Asked). AreAsked block whole 0 l at) (append-nil so.asked) (so.walks [] at refl);
            stops = asks whole below size_is;
            calls_are = refl;
          };
          blames = blames_on so.calls went.calls f g h so.blames went.leads.blames fg gh;
        };
        at = went.at;
      }

  -- All ranges are answered.
  pub inquired_all : (a b : Option (List wire.Call)) (f g : ℕ) (all : List (Held Surveyor)) (seen : Seen Surveyor) (at : ℕ) (map : List Extent) → at ≡ whole → Inquiring a b f g all seen at map
      → Went a b (Holds all) (λ calls after. Inquired context block whole map f g (Ok tt) seen calls after)
  inquired_all a b f g all seen at map is so = record {
    calls = so.calls;
    after = so.now;
    grown = so.grown;
    leads = record {
      asks = record {
        all = so.asked;
        inquires = subst (λ (l : List wire.Call). Inquires context so.asked seen l so.now) (append-nil so.calls)
            (subst (λ (l : List Asked). Inquires context l seen (so.calls ++ []) so.now) (append-nil so.asked) (so.goes_on [] [] so.now (All_answered [] so.now [] so.now refl refl refl)));
        asked = subst (λ (l : List Asked). AreAsked block whole 0 l whole) (append-nil so.asked) (so.walks [] whole (sym is));
        counts = so.counts;
      };
      blames = so.blames;
    };
    at = so.holds;
  }

-- the same context under another name
pub asks_in : (context context' : List ℕ) (offset size : ℕ) (told : List Extent) (a b : Option (List wire.Call)) (f g : ℕ) (all all' : List (Held Surveyor)) (end : Result (Unit {0}) Stop) → context' ≡ context
    → Goes a b (Holds all) (Holds all') (λ before calls after. AsksOne context' offset size told f g end before calls after) → Goes a b (Holds all) (Holds all') (λ before calls after. AsksOne context offset size told f g end before calls after)
asks_in context context' offset size told a b f g all all' end same goes = subst (λ (x : List ℕ). Goes a b (Holds all) (Holds all') (λ before calls after. AsksOne x offset size told f g end before calls after)) same goes

pub inquired_in : (context context' : List ℕ) (block whole : ℕ) (map : List Extent) (a b : Option (List wire.Call)) (f g : ℕ) (all all' : List (Held Surveyor)) (end : Result (Unit {0}) Stop) → context' ≡ context
    → Goes a b (Holds all) (Holds all') (λ before calls after. Inquired context' block whole map f g end before calls after) → Goes a b (Holds all) (Holds all') (λ before calls after. Inquired context block whole map f g end before calls after)
inquired_in context context' block whole map a b f g all all' end same goes = subst (λ (x : List ℕ). Goes a b (Holds all) (Holds all') (λ before calls after. Inquired x block whole map f g end before calls after)) same goes
