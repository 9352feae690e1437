-- What was asked stays asked: where nothing was asked by some calls, nothing was by a front of them.
use Rattle.std.proofs.Common.{◌≡◌, ℕ, Bool, true, false, List, [], ◌∷◌, ◌++◌, Option, Some, None, refl, ap, sym, subst, ◌∙◌, ◌==◌, if◌then◌else◌}
use Rattle.std.specs.Option.{option_map}
use Rattle.lnbd_model.specs.declared.kind.Kind.{Kind}
use Rattle.lnbd_link.specs.Call.{Call, Connect, Listen, Accept, Read, Write, Pause, Shut, ReadTold, WriteTold, Moved, Unready, Ended, ReadFault, Sent, Full, WriteFault}
use Rattle.lnbd_stream.specs.Laws.{Lasts}
use Rattle.lnbd_stream.proofs.Stream.{feed_lasts}
use Rattle.lnbd_history.specs.Commands.{Request}
use Rattle.lnbd_history.specs.Events.{Issue}
use Rattle.lnbd_history.specs.History.{request}
use Rattle.lnbd_asked.specs.Client.{Flags, Wishes, Orders, Stray, Order}
use Rattle.lnbd_asked.specs.Link.{Both, Link, Nobody, after_read, after_write, client, command_of, is_extended, issued, next, ordered, kind_of, server}
use Rattle.lnbd_asked.specs.Transcript.{after_call, after_calls, after_read_told, after_write_told, asked_on, bare, on_link, untold}
use Rattle.lnbd_asked.proofs.Calls.{calls_follow}
use Rattle.lnbd_tracks.proofs.Staying.{asked_stays}
use Rattle.lnbd_course.specs.Fronts.{NothingWasBefore}

module _ (cookie : ℕ) (asks : Request Nobody) where
  -- it was asked
  abbrev Has : Link → Type 0
  Has link = request link.requests cookie ≡ Some asks

  orders_last : (kind : Option Kind) (order : Order) (link : Link) → Has link → Has (ordered kind order link)
  orders_last None order link p = p
  orders_last (Some kind) order link p =
      elim (order.cookie == next link) as (λ b. Has (if b then issued kind order link else record link { strayed = true }))
      [ true ↦ asked_stays link.requests (Issue (command_of (is_extended link) kind order)) cookie asks p | false ↦ p ]

  client_lasts : Lasts client Has
  client_lasts link bytes (Flags flags) p e = p
  client_lasts link bytes (Wishes wish) p e = p
  client_lasts link bytes (Orders order) p e = orders_last (kind_of order.type) order link p
  client_lasts link bytes Stray p e = p

  server_lasts : Lasts server Has
  server_lasts link bytes found p e = p

  read_lasts : (bytes : List ℕ) (both : Both) → Has both.link → Has (after_read bytes both).link
  read_lasts bytes both p = feed_lasts server Has server_lasts (record { known = both.link; pending = both.read }) bytes p

  write_lasts : (bytes : List ℕ) (both : Both) → Has both.link → Has (after_write bytes both).link
  write_lasts bytes both p =
      let fed = feed_lasts client Has client_lasts (record { known = both.link; pending = both.written }) bytes p in
      feed_lasts server Has server_lasts _ both.read fed

  read_told_lasts : (told : ReadTold) (both : Both) → Has both.link → Has (after_read_told told both).link
  read_told_lasts (Moved bytes) both p = read_lasts bytes both p
  read_told_lasts Unready both p = p
  read_told_lasts Ended both p = p
  read_told_lasts ReadFault both p = p

  write_told_lasts : (told : WriteTold) (both : Both) → Has both.link → Has (after_write_told told both).link
  write_told_lasts (Sent bytes) both p = write_lasts bytes both p
  write_told_lasts Full both p = p
  write_told_lasts WriteFault both p = p

  either : (b : Bool) (one other : Both) → Has one.link → Has other.link → Has (if b then one else other).link
  either true one other p q = p
  either false one other p q = q

  call_lasts : (link : ℕ) (both : Both) (call : Call) → Has both.link → Has (after_call link both call).link
  call_lasts link both (Read n room answer) p = either (n == link) (after_read_told answer both) both (read_told_lasts answer both p) p
  call_lasts link both (Write n offered answer) p = either (n == link) (after_write_told answer both) both (write_told_lasts answer both p) p
  call_lasts link both (Connect to given) p = p
  call_lasts link both (Listen at given) p = p
  call_lasts link both (Accept n answer) p = p
  call_lasts link both (Pause wants) p = p
  call_lasts link both (Shut n) p = p

  calls_last : (link : ℕ) (both : Both) (calls : List Call) → Has both.link → Has (after_calls link both calls).link
  calls_last link both [] p = p
  calls_last link both (call ∷ calls) p = calls_last link (after_call link both call) calls (call_lasts link both call p)

  still_asked : (link : ℕ) (front back : List Call) → Has (on_link link front) → Has (on_link link (front ++ back))
  still_asked link front back p = subst (λ (both : Both). Has both.link) (sym (calls_follow link untold front back)) (calls_last link (after_calls link untold front) back p)

pub nothing_before : NothingWasBefore
nothing_before front back none link cookie = go (request (on_link link front).requests cookie) refl
  where
    none_some : (asks : Request Nobody) → None ≡ Some (bare asks) → ⊥
    none_some asks e = cc

    go : (o : Option (Request Nobody)) → request (on_link link front).requests cookie ≡ o → asked_on (on_link link front) cookie ≡ None
    go None is = ap (option_map bare) is
    go (Some asks) is = absurd (none_some asks (sym (none link cookie) ∙ ap (option_map bare) (still_asked cookie asks link front back is)))
