-- Bytes that were read and have not arrived change nothing of what was asked: the link says of it what the history says.
use Rattle.std.proofs.Common.{◌≡◌, ℕ, Bool, false, List, [], ◌∷◌, ◌++◌, length, nat_le, Some, None, refl, ap, sym, subst, ◌∙◌, arith, append-nil, if◌then◌else◌}
use Rattle.std.proofs.lemmas.Bool.{eq-eqb}
use Rattle.std.specs.Option.{option_map}
use Rattle.lnbd_link.specs.Call.{Call, Read, Write, ReadTold, WriteTold, Moved, Unready, Full}
use Rattle.lnbd_history.specs.declared.kinds.Phase.TheVariants.{Ready}
use Rattle.lnbd_history.specs.Agreement.{export, opt_mode, phase, steps}
use Rattle.lnbd_history.specs.Events.{History}
use Rattle.lnbd_history.specs.History.{reading, request}
use Rattle.lnbd_history.specs.Laws.{Lawful, is_closed}
use Rattle.lnbd_asked.specs.Driven.{Drives, Begins, Does, Passes, Writes, Writes_none, Reads, Reads_none, Arrives, Ends, Fails_to_read, Fails_to_write, AllSpell, written}
use Rattle.lnbd_asked.specs.Exports.{HasToldSize, name_set}
use Rattle.lnbd_asked.specs.Link.{Both, Link, after_read}
use Rattle.lnbd_asked.specs.Transcript.{after_calls, after_read_told, after_write_told, asked_on, bare, export_told, name_asked, on_link, size_at, size_told, untold}
use Rattle.lnbd_asked.proofs.Calls.{others_pass, reads_join}
use Rattle.lnbd_asked.proofs.Driving.{driven_say_so, one_call}
use Rattle.lnbd_asked.proofs.Exported.{exported_ready, of_size}
use Rattle.lnbd_asked.proofs.Keeping.{SameClient, client_stays}
use Rattle.lnbd_asked.proofs.Naming.{driven_are_of}
use Rattle.lnbd_asked.proofs.Wished.{Since, read_keeps, since_keep}

-- What a link says of what was asked on it, by the history of the handle that drives it: the requests wholly written, the name that was asked for, and the size that
-- was told.
pub record AsksSo {K : Type 0} (history : History K) (link : Link) : Type 0 where
  pub requests : (cookie : ℕ) → asked_on link cookie ≡ (if nat_le cookie (written history) then option_map bare (request history cookie) else None)
  pub name : (name : List ℕ) → name_asked link.wishes ≡ Some name → name ≡ name_set history
  pub told : (size : ℕ) → HasToldSize history size → (size_told link ≡ Some size) × (name_asked link.wishes ≡ Some (name_set history))

-- A call more on the link.

read_on : (link room : ℕ) (calls after : List Call) (answer : ReadTold) → after ≡ calls ++ Read link room answer ∷ [] → after_calls link untold after ≡ after_read_told answer (after_calls link untold calls)
read_on link room calls after answer is =
    one_call link calls after (Read link room answer) is ∙ ap (λ (b : Bool). if b then after_read_told answer (after_calls link untold calls) else after_calls link untold calls) (eq-eqb link link refl)

write_on : (link offered : ℕ) (calls after : List Call) (answer : WriteTold) → after ≡ calls ++ Write link offered answer ∷ [] → after_calls link untold after ≡ after_write_told answer (after_calls link untold calls)
write_on link offered calls after answer is =
    one_call link calls after (Write link offered answer) is ∙ ap (λ (b : Bool). if b then after_write_told answer (after_calls link untold calls) else after_calls link untold calls) (eq-eqb link link refl)

module _ {K : Type 0} where
  -- Of calls by which all that was read has arrived, the link is as it is once the rest is read.
  record Without (link : ℕ) (calls : List Call) (history : History K) (left : List ℕ) : Type 0 where
    fewer : List Call
    drives : Drives link fewer history []
    there : after_calls link untold calls ≡ after_read left (after_calls link untold fewer)

  same_without : (link : ℕ) (calls after : List Call) (history : History K) (left : List ℕ) → after_calls link untold after ≡ after_calls link untold calls → Without link calls history left → Without link after history left
  same_without link calls after history left same w = record { fewer = w.fewer; drives = w.drives; there = same ∙ w.there }

  all_arrived : (link : ℕ) (calls : List Call) (history : History K) → Drives link calls history [] → Without link calls history []
  all_arrived link calls history d = record { fewer = calls; drives = d; there = refl }

  without : (link : ℕ) (calls : List Call) (history : History K) (left : List ℕ) → Drives link calls history left → Without link calls history left
  without link _ _ _ Begins = all_arrived link [] [] Begins
  without link calls _ left (Does _ before _ event d inward) =
      let w = without link calls before left d in
      record { fewer = w.fewer; drives = Does w.fewer before [] event w.drives inward; there = w.there }
  without link after history left (Passes calls _ _ call _ d off is) = same_without link calls after history left (one_call link calls after call is ∙ others_pass link (after_calls link untold calls) call off) (without link calls history left d)
  without link after _ _ (Writes calls before offered bytes _ d front is) = all_arrived link after _ (Writes calls before offered bytes after d front is)
  without link after history left (Writes_none calls _ _ offered _ d is) = same_without link calls after history left (write_on link offered calls after Full is) (without link calls history left d)
  without link after history more (Reads calls _ left room bytes _ _ d is joined) =
      let w = without link calls history left d in
      record {
        fewer = w.fewer;
        drives = w.drives;
        there = read_on link room calls after (Moved bytes) is
            ∙ ap (after_read bytes) w.there
            ∙ reads_join (after_calls link untold w.fewer) left bytes
            ∙ ap (λ (bs : List ℕ). after_read bs (after_calls link untold w.fewer)) (sym joined);
      }
  without link after history left (Reads_none calls _ _ room _ d is) = same_without link calls after history left (read_on link room calls after Unready is) (without link calls history left d)
  without link calls _ left (Arrives _ before all bytes _ answers d joined) =
      let w = without link calls before all d in
      let read : List Call = w.fewer ++ Read link 0 (Moved bytes) ∷ [] in
      record {
        fewer = read;
        drives = Arrives read before bytes bytes [] answers (Reads w.fewer before [] 0 bytes read bytes w.drives refl refl) (sym (append-nil bytes));
        there = w.there
            ∙ ap (λ (bs : List ℕ). after_read bs (after_calls link untold w.fewer)) joined
            ∙ sym (reads_join (after_calls link untold w.fewer) bytes left)
            ∙ ap (after_read left) (sym (read_on link 0 w.fewer read (Moved bytes) refl));
      }
  without link after _ _ (Ends calls before room answers _ d living is) = all_arrived link after _ (Ends calls before room answers after d living is)
  without link after _ _ (Fails_to_read calls before room answers _ d living is) = all_arrived link after _ (Fails_to_read calls before room answers after d living is)
  without link after _ _ (Fails_to_write calls before offered answers _ d living is) = all_arrived link after _ (Fails_to_write calls before offered answers after d living is)

-- More that is read leaves what the client said, and a size that was told.

read_client : (left : List ℕ) (both : Both) → SameClient (after_read left both).link both.link
read_client left both = client_stays (record { known = both.link; pending = both.read }) left

size_stays : (left : List ℕ) (both : Both) (size : ℕ) → size_told both.link ≡ Some size → size_told (after_read left both).link ≡ Some size
size_stays left both size told =
    let export_ = of_size (export_told both.link) size told in
    let ready : phase both.link.heard.turns ≡ Ready = exported_ready (phase both.link.heard.turns) (export (steps both.link.heard.turns)) export_.0 export_.1 in
    let since = read_keeps (Since both.link) (since_keep both.link) left both (record { grown = omega arith; still = λ r l. refl }) in
    ap (λ ts. size_at (phase ts) (export (steps ts))) (since.still ready (ap length (read_client left both).wishes)) ∙ told

-- So a link asks what its history says, whatever has not arrived.
pub drives_asks : {K : Type 0} (limit link : ℕ) (calls : List Call) (history : History K) (left : List ℕ) → Lawful limit history → AllSpell history → is_closed history ≡ false → opt_mode (reading history).known.turns ≡ false → Drives link calls history left →
    AsksSo history (on_link link calls)
drives_asks limit link calls history left lawful fits live mode d =
    let w = without link calls history left d in
    let both : Both = after_calls link untold w.fewer in
    let says = driven_say_so limit link w.fewer history lawful fits live mode w.drives in
    let is_of = driven_are_of limit link w.fewer history lawful fits live mode w.drives in
    let client = read_client left both in
    subst (λ (b : Both). AsksSo history b.link) (sym w.there) (record {
      requests = λ cookie. ap (λ rs. option_map bare (request rs cookie)) client.requests ∙ says.requests cookie;
      name = λ name e. is_of.name name (sym (ap name_asked client.wishes) ∙ e);
      told = λ size told.
          let said = is_of.told size told in
          (size_stays left both size said, ap name_asked client.wishes ∙ (is_of.size size said).0);
    })
