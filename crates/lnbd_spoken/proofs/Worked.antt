-- Worked transcripts: a client that a handle drives, and one that speaks too early.
use Rattle.std.proofs.Common.{ℕ, List, [], ◌∷◌, refl, arith}
use Rattle.std.proofs.lemmas.Bool.{false≢true}
use Rattle.lnbd_records.specs.Handshake as handshake
use Rattle.lnbd_records.specs.Handshake.{option_head}
use Rattle.lnbd_records.specs.Numbers.{row, number_at}
use Rattle.lnbd_stream.specs.Grammar.{once, wants}
use Rattle.lnbd_history.specs.Arrivals.{shows_hello}
use Rattle.lnbd_history.specs.Events.{History, Start, Arrived, Wrote}
use Rattle.lnbd_link.specs.Call.{Call, Read, Write, Moved, Sent}
use Rattle.lnbd_asked.specs.Client.{says_flags, says_option, says_next}
use Rattle.lnbd_asked.specs.Driven.{Begins, Does, Writes, Reads, Arrives}
use Rattle.lnbd_asked.specs.Link.{Nobody}
use Rattle.lnbd_spoken.specs.Driven.{IsDriven}
use Rattle.lnbd_spoken.specs.Speaking.{SpeaksWell}

-- what is unfolded so that bytes are computed with
unfoldable computing : Unit {0}
unfolding once wants number_at row shows_hello says_flags says_option says_next
computing = tt

-- The server's hello with both flags, the client's flags, and STRUCTURED_REPLY (8).

abbrev hello : List ℕ
hello = row (handshake.hello 3)

abbrev flags : List ℕ
flags = row (handshake.client_flags 3)

abbrev structured : List ℕ
structured = row (option_head 8 0)

-- The hello is read, and then the flags are written, and the option.
abbrev greeted : List Call
greeted = Read 0 32 (Moved hello) ∷ Write 0 4 (Sent flags) ∷ []

abbrev asked : List Call
asked = Read 0 32 (Moved hello) ∷ Write 0 4 (Sent flags) ∷ Write 0 16 (Sent structured) ∷ []

asked_well : SpeaksWell 0 asked
unfolding computing
asked_well = (tt, ((λ e. ((refl, refl, λ offered. refl), tt)), ((λ e. ((refl, refl), tt)), tt)))

-- a client that writes its flags before it was greeted
abbrev early : List Call
early = Write 0 4 (Sent flags) ∷ Read 0 32 (Moved hello) ∷ []

early_is_not_well : SpeaksWell 0 early → ⊥
unfolding computing
early_is_not_well speaks = false≢true ((speaks.0 refl).0.1)

-- one that leaves NO_ZEROES out though it is offered
abbrev bare : List Call
bare = Read 0 32 (Moved hello) ∷ Write 0 4 (Sent (row (handshake.client_flags 1))) ∷ []

bare_is_not_well : SpeaksWell 0 bare → ⊥
unfolding computing
bare_is_not_well speaks = false≢true ((speaks.1.0 refl).0.2 refl)

-- A handle that was started, to which the hello arrived, and of which the flags went out, drives the link.
abbrev history : History Nobody
history = Wrote 4 ∷ Arrived hello [] ∷ Start ∷ []

greeted_is_driven : IsDriven Nobody 0 greeted
unfolding computing
greeted_is_driven = record {
  limit = 1;
  history = history;
  unread = [];
  lawful = (((tt, refl, refl), refl, refl), refl, omega arith);
  spelled = (tt, (tt, (tt, tt)));
  mode = refl;
  drives = Writes (Read 0 32 (Moved hello) ∷ []) (Arrived hello [] ∷ Start ∷ []) 4 flags greeted
      (Arrives (Read 0 32 (Moved hello) ∷ []) (Start ∷ []) hello hello [] []
      (Reads [] (Start ∷ []) [] 32 hello (Read 0 32 (Moved hello) ∷ []) hello (Does [] [] [] Start Begins refl) refl refl)
      refl)
      refl refl;
}
