-- An option, but ABORT and EXPORT_NAME, leaves a session open.
use Rattle.std.proofs.Common.{◌≡◌, ℕ, ◌+◌, ◌*◌, Bool, true, false, not, ◌&&◌, List, length, take, drop, Option, Some, None, ◌==◌, bytes_eq, nat_le, refl, sym, subst, if◌then◌else◌}
use Rattle.std.specs.List.{list_any}
use Rattle.lnbd_records.specs.Numbers.{number_at}
use Rattle.lnbd_records.specs.Options.{opt_export_name, opt_abort, opt_list, opt_go, opt_structured_reply, opt_set_meta_context, opt_extended_headers}
use Rattle.lnbd_records.specs.Requests.{Asked, asked_of, asks_texts, info_asked, meta_asked, with_name, is_info, has_no_data, texts_in, types_in}
use Rattle.lnbd_records.specs.Requests as asks
use Rattle.lnbd_options.specs.Answers.{request_of}
use Rattle.lnbd_export.specs.Export.{Export}
use Rattle.lnbd_export.specs.Requests.{is_structured}
use Rattle.lnbd_export.specs.declared.request.Agreed.{Agreed}
use Rattle.lnbd_export.specs.declared.request.Replies.{Replies}
use Rattle.lnbd_server.specs.declared.stage.Offers.{Offers}
use Rattle.lnbd_server.specs.declared.stage.Stage.TheVariants.{Haggling, Serving}
use Rattle.lnbd_server.specs.Options.{Answer, lawful, answer_of, invalid_answer, info_answer, meta_answer, plain_answer, switched}
use Rattle.lnbd_server.specs.Session.{is_closed}
use Rattle.lnbd_lively.specs.Fair.{OptionsLeaveOpen}

abbrev IsOpen : Answer → Type 0
IsOpen answer = is_closed answer.stage ≡ false

by_if : (b : Bool) (one other : Answer) → IsOpen one → IsOpen other → IsOpen (if b then one else other)
by_if true one other e f = e
by_if false one other e f = f

by_other : (b : Bool) (one other : Answer) → b ≡ false → IsOpen other → IsOpen (if b then one else other)
by_other b one other e f = subst (λ (c : Bool). IsOpen (if c then one else other)) (sym e) f

-- it isn't EXPORT_NAME
abbrev IsUnnamed : Option Asked → Type 0
IsUnnamed None = Unit {0}
IsUnnamed (Some (asks.Name name)) = ⊥
IsUnnamed (Some (asks.Info name types)) = Unit {0}
IsUnnamed (Some (asks.Meta name queries)) = Unit {0}
IsUnnamed (Some asks.Plain) = Unit {0}

unnamed_if : (b : Bool) (one other : Option Asked) → IsUnnamed one → IsUnnamed other → IsUnnamed (if b then one else other)
unnamed_if true one other e f = e
unnamed_if false one other e f = f

with_unnamed : (name : List ℕ) (v : Option (List (List ℕ))) → IsUnnamed (with_name name v)
with_unnamed name None = tt
with_unnamed name (Some queries) = tt

info_unnamed : (body : List ℕ) → IsUnnamed (info_asked body)
info_unnamed body = unnamed_if (nat_le 4 (length body) && nat_le (6 + number_at 0 4 body) (length body) && (length body == 6 + number_at 0 4 body + 2 * number_at (4 + number_at 0 4 body) 2 body))
    (Some (asks.Info (take (number_at 0 4 body) (drop 4 body)) (types_in (number_at (4 + number_at 0 4 body) 2 body) (drop (6 + number_at 0 4 body) body)))) None tt tt

meta_unnamed : (body : List ℕ) → IsUnnamed (meta_asked body)
meta_unnamed body = unnamed_if (nat_le 4 (length body) && nat_le (8 + number_at 0 4 body) (length body))
    (with_name (take (number_at 0 4 body) (drop 4 body)) (texts_in (number_at (4 + number_at 0 4 body) 4 body) (drop (8 + number_at 0 4 body) body))) None
    (with_unnamed (take (number_at 0 4 body) (drop 4 body)) (texts_in (number_at (4 + number_at 0 4 body) 4 body) (drop (8 + number_at 0 4 body) body))) tt

asked_unnamed : (option : ℕ) (body : List ℕ) → (option == opt_export_name) ≡ false → IsUnnamed (asked_of option body)
unfolding asked_of
asked_unnamed option body other =
    subst (λ (b : Bool). IsUnnamed (if b then Some (asks.Name body) else if is_info option then info_asked body else if option == opt_set_meta_context then meta_asked body else if has_no_data option && not (length body == 0) then None else Some asks.Plain)) (sym other)
    (unnamed_if (is_info option) (info_asked body) (if option == opt_set_meta_context then meta_asked body else if has_no_data option && not (length body == 0) then None else Some asks.Plain) (info_unnamed body)
    (unnamed_if (option == opt_set_meta_context) (meta_asked body) (if has_no_data option && not (length body == 0) then None else Some asks.Plain) (meta_unnamed body)
    (unnamed_if (has_no_data option && not (length body == 0)) None (Some asks.Plain) tt tt)))

module _ (offers : Offers) (export : Export) (zeroes : Bool) (agreed : Agreed) (option : ℕ) (other : (option == opt_export_name) ≡ false) (goes : (option == opt_abort) ≡ false) where
  invalid_open : IsOpen (invalid_answer agreed option)
  invalid_open = by_other (option == opt_export_name) _ _ other refl

  after_open : (b : Bool) → is_closed (if b then Serving else Haggling) ≡ false
  after_open true = refl
  after_open false = refl

  info_open : (name : List ℕ) (a b : Bool) → IsOpen (info_answer export agreed option name a b)
  info_open name a b = by_if (bytes_eq name export.name) _ _ (after_open (option == opt_go)) refl

  meta_open : (name : List ℕ) (queries : List (List ℕ)) → IsOpen (meta_answer export agreed option name queries)
  meta_open name queries = by_if (not (is_structured agreed.replies)) _ _ refl (by_if (not (bytes_eq name export.name)) _ _ refl refl)

  switched_open : (on : Bool) (replies : Replies) → IsOpen (switched on replies option agreed)
  switched_open on replies = by_if on _ _ refl refl

  plain_open : IsOpen (plain_answer offers export agreed option)
  plain_open = by_other (option == opt_abort) _ _ goes (by_if (option == opt_list) _ _ refl (by_if (option == opt_structured_reply) _ _ (switched_open offers.structured _) (by_if (option == opt_extended_headers) _ _ (switched_open offers.extended _) refl)))

  texts_open : (a : Asked) (b : Bool) → IsUnnamed (Some a) → IsOpen (answer_of offers export zeroes agreed option (if b then Some (request_of a) else None))
  texts_open a false e = invalid_open
  texts_open (asks.Name name) true e = absurd e
  texts_open (asks.Info name types) true e = info_open name (list_any (λ type. type == 1) types) (list_any (λ type. type == 2) types)
  texts_open (asks.Meta name queries) true e = meta_open name queries
  texts_open asks.Plain true e = plain_open

  asked_open : (v : Option Asked) → IsUnnamed v → IsOpen (answer_of offers export zeroes agreed option (lawful v))
  asked_open None e = invalid_open
  asked_open (Some a) e = texts_open a (asks_texts a) e

pub options_leave_open : OptionsLeaveOpen
options_leave_open offers export zeroes agreed option body other goes = asked_open offers export zeroes agreed option other goes (asked_of option body) (asked_unnamed option body other)
