-- A slice is read of a file.
use Rattle.std.proofs.Common.{◌≡◌, ℕ, ◌+◌, ◌-◌, ◌<◌, List, [], ◌∷◌, ◌++◌, length, take, drop, get_or, Option, refl, ap, sym, subst, ◌∙◌, arith}
use Rattle.std.proofs.lemmas.List.{get_or-drop, get_or-take}
use Rattle.lnbd_outcome.specs.Outcome as outcome
use Rattle.lnbd_plan.specs.declared.grid.Slice.{Slice}
use Rattle.lnbd_poll.specs.Held.{Held}
use Rattle.lnbd_course.specs.Orders.{command_of}
use Rattle.lnbd_copy.specs.Asked.{IsAsked}
use Rattle.lnbd_board.specs.declared.ask.Ask.{Ask}
use Rattle.lnbd_board.specs.declared.ask.Ask.TheVariants as ask
use Rattle.lnbd_board.specs.declared.ask.Change.{Change}
use Rattle.lnbd_board.specs.declared.ticket.Ticket.{Ticket}
use Rattle.lnbd_board.specs.declared.ticket.Ticket.TheVariants as ticket
use Rattle.lnbd_board.specs.Asks.{Begins, read_at}
use Rattle.lnbd_board.specs.Board.{begun_with, first_row}
use Rattle.lnbd_board.specs.Files.{Seen}
use Rattle.lnbd_board.specs.Requests.{Each, Request, done_with, request}
use Rattle.lnbd_onesided.specs.Desk.{Completes, done_more, no_link}
use Rattle.lnbd_onesided.specs.Honest.{IsRead}
use Rattle.lnbd_store.specs.Shelf.{Shelf}
use Rattle.lnbd_touched.specs.Grown.{RoseBy}
use Rattle.lnbd_touched.specs.Parts.{Tells}
use Rattle.lnbd_touched.specs.Touches.{Touches}
use Rattle.lnbd_touched.proofs.TouchLemmas.{touches_weaker}
use Rattle.lnbd_copyfile.specs.Loading.{BeginsSlice, Loads, ToldMore, Was_asked}
use Rattle.lnbd_copyfile.specs.Making.{IsBegun}
use Rattle.lnbd_copyfile.proofs.ChangeLemmas.{within_is}
use Rattle.lnbd_copyfile.proofs.MadeLemmas.{each_more}

-- a byte that was read is the file's
byte_read : (at p : ℕ) (bytes old : List ℕ) → bytes ≡ take (length bytes) (drop at old) → p < at + length bytes → (p - at) + at ≡ p → get_or bytes (p - at) 0 ≡ get_or old p 0
byte_read at p bytes old are l behind =
    ap (λ (xs : List ℕ). get_or xs (p - at) 0) are ∙ get_or-take (length bytes) (drop at old) (p - at) 0 (omega (arith, l, behind)) ∙ get_or-drop at old (p - at) 0
    ∙ ap (λ (k : ℕ). get_or old k 0) (omega (arith, behind))

module _ (n cookie at : ℕ) (buf bytes : List ℕ) (size : length bytes ≡ length buf) where
  abbrev asks : Request
  asks = request no_link cookie (ticket.Slice n) (done_with (read_at at (length buf)) bytes)

  done_bytes : (other : List ℕ) → outcome.Done bytes ≡ outcome.Done other → bytes ≡ other
  done_bytes other e = cc

  read_is : (old new : List ℕ) → Tells at bytes old new → IsRead new asks
  read_is old new told = record {
    kind = refl;
    tells = λ other p done has.
        let w = within_is at (length buf) p has in
        ap (λ (xs : List ℕ). get_or xs (p - at) 0) (sym (done_bytes other done)) ∙ byte_read at p bytes old told.are (omega (arith, w, size)) (omega (arith, w))
        ∙ ap (λ (xs : List ℕ). get_or xs p 0) (sym told.same);
  }

  told_more : (read : List Request) (old new : List ℕ) → Tells at bytes old new → ToldMore read (read ++ asks ∷ []) old new
  told_more read old new told = record {
    same = told.same;
    on = λ each. each_more (IsRead new) read asks (subst (λ (file : List ℕ). Each (IsRead file) read) (sym told.same) each) (read_is old new told);
  }

pub loads : (file : ℕ) (slice : Slice) (source destination : ℕ) (now next now2 : Seen) (one : Ask) (number at : ℕ) (buf bytes : List ℕ) (old new : Option Shelf) (given given2 : ℕ)
    → one ≡ ask.Read at buf → number ≡ now.begun → Begins now.how slice now.begun one now.rows next.rows → next ≡ begun_with now (first_row slice source destination) one
    → length bytes ≡ length buf → Completes number bytes next now2 → Touches file (Tells at bytes) old new → RoseBy (length bytes) given given2
    → Loads file slice source destination now now2 old new given given2
loads file slice source destination now next now2 one number at buf bytes old new given given2 is begun begins row size came tells gave = record {
  on = λ read. record {
    offset = at;
    buf = buf;
    bytes = bytes;
    next = next;
    begins = subst (λ (x : Ask). Begins now.how slice now.begun x now.rows next.rows) is begins;
    begun = subst (λ (x : Ask). next ≡ begun_with now (first_row slice source destination) x) is row;
    size = size;
    came = subst (λ (k : ℕ). Completes k bytes next now2) begun came;
    touched = touches_weaker file (Tells at bytes) (ToldMore read (done_more (length read) now.begun (read_at at (length buf)) bytes read)) old new
        (λ x y t. told_more now.begun (length read) at buf bytes size read x y t) tells;
    gave = gave;
  };
}

-- A slice asks the export for a change first.
pub asked_first : (file : ℕ) (slice : Slice) (source destination : ℕ) (now next now2 : Seen) (held held2 : List (Held Ticket)) (one : Ask) (change : Change) (number : ℕ) (a : Option Shelf) (given : ℕ)
    → one ≡ ask.Change change → number ≡ now.begun → Begins now.how slice now.begun one now.rows next.rows → next ≡ begun_with now (first_row slice source destination) one → now2 ≡ next
    → IsAsked destination (command_of number change) held held2 → BeginsSlice file slice source destination now now2 held held2 a a given given
asked_first file slice source destination now next now2 held held2 one change number a given is begun begins row same asked = Was_asked (record {
  one = change;
  begun = subst (λ (s : Seen). IsBegun slice source destination (ask.Change change) now s) (sym same) (record {
    begins = subst (λ (x : Ask). Begins now.how slice now.begun x now.rows next.rows) is begins;
    row = subst (λ (x : Ask). next ≡ begun_with now (first_row slice source destination) x) is row;
  });
  asked = subst (λ (k : ℕ). IsAsked destination (command_of k change) held held2) begun asked;
}) refl refl
