-- What was heard of extents was answered, and what is not planned yet is not read.
use Rattle.std.proofs.Common.{◌≡◌, inr, ℕ, Bool, true, List, [], ◌∷◌, ◌++◌, Option, Some, None, refl, ap, sym, ◌∙◌, nat_le, if◌then◌else◌}
use Rattle.std.proofs.lemmas.List.{append_assoc}
use Rattle.std.specs.Option.{option_map}
use Rattle.lnbd_model.specs.declared.target.Place.{Place}
use Rattle.lnbd_outcome.specs.Outcome.{Unfinished}
use Rattle.lnbd_link.specs.Call.{Call}
use Rattle.lnbd_extents.specs.Positions.{within}
use Rattle.lnbd_history.specs.Commands.{Request}
use Rattle.lnbd_history.specs.History.{request}
use Rattle.lnbd_asked.specs.Driven.{DrivenSays, written}
use Rattle.lnbd_asked.specs.Transcript.{answered, asked_on, bare, dealt_with, is_of, on_link, only_if}
use Rattle.lnbd_plan.specs.Laws.{slices_at}
use Rattle.lnbd_plan.proofs.OnceLaws.{at_both}
use Rattle.lnbd_board.specs.declared.ticket.Ticket.{Ticket}
use Rattle.lnbd_board.specs.Files as board
use Rattle.lnbd_board.proofs.Inside.{reads_nowhere}
use Rattle.lnbd_tracks.specs.Mapping.{IsWanted}
use Rattle.lnbd_tracks.specs.Tracks.{Histories}
use Rattle.lnbd_tracks.proofs.Written.{done_is_written}
use Rattle.lnbd_course.specs.Answered.{AnswersStay, NothingIsReadBehind, RangesWereAnswered, WasAnswered}
use Rattle.lnbd_course.specs.Told.{AreOfSource}
use Rattle.lnbd_course.proofs.Listing.{none_end, none_read}

-- The block status for the range was wholly written, and so it was asked of the export.
module _ (from : Place) (has : ℕ → Bool) (calls : List Call) (histories : Histories) (says : (link : ℕ) → DrivenSays (histories link) (on_link link calls)) (of : AreOfSource from calls has) (range : ℕ × ℕ) (now : board.Seen)
    (w : IsWanted has histories range now) (mapped : now.mapped ≡ true) where
  pub out : nat_le w.cookie (written (histories w.link)) ≡ true
  out = let done = w.answered mapped in done_is_written (histories w.link) w.cookie done.bytes done.is

  pub asked_so : asked_on (on_link w.link calls) w.cookie ≡ Some (bare w.asks)
  asked_so =
      (says w.link).requests w.cookie
      ∙ ap (λ (b : Bool). if b then option_map bare (request (histories w.link) w.cookie) else None) out
      ∙ ap (λ (a : Option (Request Ticket)). option_map bare a) w.asked

  pub here : is_of from calls w.link ≡ true
  here = of w.link w.cookie (bare w.asks) w.source asked_so

  was_answered : (p : ℕ) → within range p ≡ true → WasAnswered (dealt_with from calls) p
  was_answered p inside =
      let done = w.answered mapped in
      record {
        link = w.link;
        cookie = w.cookie;
        command = bare w.asks;
        bytes = done.bytes;
        asked = ap (λ (b : Bool). only_if b (asked_on (on_link w.link calls) w.cookie)) here ∙ asked_so;
        kind = w.kind;
        done = ap (λ (b : Bool). if b then answered (on_link w.link calls) w.cookie else Unfinished) here ∙ (says w.link).outcomes w.cookie out ∙ done.is;
        has = ap (λ (n : ℕ). within (n, w.asks.length) p) w.offset ∙ ap (λ (n : ℕ). within (range.0, n) p) w.length_ ∙ inside;
      }

pub ranges_were_answered : RangesWereAnswered
ranges_were_answered from how has slices now calls range known t mapped of p inside = was_answered from has calls t.course.histories (λ link. t.course.parted link tt) of range now t.maps mapped p inside

-- of two lists that are nothing together the first is nothing
first_none : {A : Type 0} (xs ys : List A) → xs ++ ys ≡ [] → xs ≡ []
first_none [] ys e = refl
first_none (x ∷ xs) ys e = absurd (none_end x (xs ++ ys) e)

pub nothing_is_read_behind : NothingIsReadBehind
nothing_is_read_behind from how has slices rest now calls cells told end course well of planned p behind =
    none_read from how has slices now calls course of p
    (reads_nowhere p slices course.stood.source (first_none (slices_at p slices) (slices_at p rest) (sym (at_both p slices rest) ∙ (planned p).outside (inr behind))) (course.stood.stands well).reads)

pub answers_stay : AnswersStay
answers_stay from p calls more was = record {
  before = was.before;
  after = was.after ++ more;
  are = ap (λ (l : List Call). l ++ more) was.are ∙ append_assoc was.before was.after more;
  answered = was.answered;
  unread = was.unread;
}
