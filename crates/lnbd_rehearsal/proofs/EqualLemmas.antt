-- Over wires that serve, an export that was only looked at stays as it was, and the one to which it was copied comes to hold its bytes.
use Rattle.std.proofs.Common.{◌≡◌, ℕ, Bool, true, false, ◌&&◌, List, length, ap, sym, subst, ◌∙◌, refl, arith}
use Rattle.std.proofs.lemmas.Bool.{false≢true}
use Rattle.std.proofs.lemmas.Grind.{same_number_lists}
use Rattle.std.proofs.lemmas.List.{take_all}
use Rattle.lnbd_model.specs.declared.kind.Kind.{Kind}
use Rattle.lnbd_model.specs.declared.kind.Kind.TheVariants.{Read, Write, Flush, Trim, Cache, Zero, BlockStatus}
use Rattle.lnbd_model.specs.declared.target.Place.{Place}
use Rattle.lnbd_link.specs.Call.{Call}
use Rattle.lnbd_history.specs.Commands.{Command}
use Rattle.lnbd_asked.specs.Honest.{Honest, IsHonest, changes, covers, has}
use Rattle.lnbd_asked.specs.Link.{Nobody}
use Rattle.lnbd_asked.specs.Transcript.{Dealt, dealt_with}
use Rattle.lnbd_board.specs.declared.ticket.Ticket.{Ticket}
use Rattle.lnbd_board.specs.Holds.{Holds}
use Rattle.lnbd_memnet.specs.Network.{Network, export_in}
use Rattle.lnbd_memnet.specs.Wires.{Came}
use Rattle.lnbd_course.specs.Asks.{EachAsked, is_look}
use Rattle.lnbd_course.specs.Copied.{Copied}
use Rattle.lnbd_course.specs.Driven.{AreDriven}
use Rattle.lnbd_served.specs.Served.{IsServable, place_of}
use Rattle.lnbd_served.proofs.Honest.{driven_served_is_honest}

-- READ and BLOCK_STATUS change nothing.
look_changes : (kind : Kind) → is_look kind ≡ true → changes kind ≡ false
look_changes Read e = refl
look_changes Write e = absurd (false≢true e)
look_changes Flush e = refl
look_changes Trim e = absurd (false≢true e)
look_changes Cache e = refl
look_changes Zero e = absurd (false≢true e)
look_changes BlockStatus e = refl

look_covers : (asks : Command Nobody) (p : ℕ) → is_look asks.kind ≡ true → covers asks p ≡ false
look_covers asks p look = ap (λ (b : Bool). b && has asks p) (look_changes asks.kind look)

-- So an export of which nothing else was asked is as it was.
looked_stays : (start end : List ℕ) (dealt : Dealt) → Honest start dealt end → EachAsked (λ command. is_look command.kind ≡ true) dealt → end ≡ start
looked_stays start end dealt honest looks =
    same_number_lists end start honest.sizes.kept (λ p less. honest.rest p (λ link cookie asks asked. look_covers asks p (looks link cookie asks asked)))

-- A destination of as many bytes holds nothing but the source's.
all_held : (source before end : List ℕ) → Holds source before end → length end ≡ length source → end ≡ source
all_held source before end holds same = sym (take_all (length source) end (omega (arith, same))) ∙ holds.front

-- the export at this place
abbrev bytes_at : Network → ℕ → List ℕ
bytes_at network place = (export_in network.exports place).export.bytes

abbrev start_at : Network → ℕ → List ℕ
start_at network place = (export_in network.exports place).start

-- What the first two exports hold.
pub record AreEqual (network : Network) : Type 0 where
  pub kept : bytes_at network 0 ≡ start_at network 0
  pub equal : bytes_at network 1 ≡ start_at network 0

pub are_equal : (from to : Place) (calls : List Call) (network : Network) → Came calls network → AreDriven calls → length network.exports ≡ 2
    → IsServable (export_in network.exports 0).export → IsServable (export_in network.exports 1).export → place_of (export_in network.exports 0) ≡ from → place_of (export_in network.exports 1) ≡ to
    → length (start_at network 1) ≡ length (start_at network 0) → Copied from to false calls → EachAsked (λ command. is_look command.kind ≡ true) (dealt_with from calls) → AreEqual network
are_equal from to calls network came driven count fits fits' is is' long copied looks =
    let source : IsHonest from (start_at network 0) calls (bytes_at network 0) =
    subst (λ (p : Place). IsHonest p (start_at network 0) calls (bytes_at network 0)) is (driven_served_is_honest {K = Ticket} calls network 0 came (omega (arith, count)) fits driven) in
    let destination : IsHonest to (start_at network 1) calls (bytes_at network 1) =
    subst (λ (p : Place). IsHonest p (start_at network 1) calls (bytes_at network 1)) is' (driven_served_is_honest {K = Ticket} calls network 1 came (omega (arith, count)) fits' driven) in
    let kept = looked_stays (start_at network 0) (bytes_at network 0) (dealt_with from calls) source looks in
    let still : IsHonest from (start_at network 0) calls (start_at network 0) = subst (λ (bytes : List ℕ). IsHonest from (start_at network 0) calls bytes) kept source in
    record {
      kept = kept;
      equal = all_held (start_at network 0) (start_at network 1) (bytes_at network 1)
          (copied (start_at network 0) (start_at network 1) (bytes_at network 1) still destination (λ blank. absurd (false≢true blank)))
          (destination.sizes.kept ∙ long);
    }
