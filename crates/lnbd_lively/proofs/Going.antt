-- What a server answers to GO, reply by reply: no refusal of it as an option that isn't known.
use Rattle.std.proofs.Common.{◌≡◌, ℕ, ◌+◌, ◌-◌, ◌*◌, ◌^◌, ◌<◌, ◌≤◌, ◌⊎◌, inl, inr, Bool, true, false, ◌&&◌, ◌||◌, List, [], ◌∷◌, ◌++◌, length, take, drop, Option, Some, None, ◌==◌, bytes_eq, nat_le, refl, ap, sym, subst, ◌∙◌, arith, if◌then◌else◌, append_assoc}
use Rattle.std.specs.List.{flat_map, list_any}
use Rattle.std.proofs.lemmas.Bool.{false≢true, eqb-true, eq-eqb, ne_eqb, leb-true, leb-false, le-leb}
use Rattle.lnbd_records.specs.Handshake.{option_reply_head}
use Rattle.lnbd_records.specs.Numbers.{AllFit, row, number_at}
use Rattle.lnbd_records.specs.Options.{opt_go, rep_ack, rep_server, rep_info, rep_meta_context, first_rep_error, err_unsup}
use Rattle.lnbd_records.specs.Replies.{body_of, fits, server_body, info_body, context_body}
use Rattle.lnbd_records.specs.Requests.{Asked, asked_of, asks_texts, info_asked, types_in}
use Rattle.lnbd_records.specs.Requests as asks
use Rattle.lnbd_records.specs.Told.{Told, Body}
use Rattle.lnbd_records.specs.Told as told
use Rattle.lnbd_records.proofs.NumberLaws.{then_reads}
use Rattle.lnbd_options.specs.Answers.{request_of}
use Rattle.lnbd_history.specs.Agreement.{End, Acknowledged, Failed, end_of}
use Rattle.lnbd_export.specs.Export.{Export}
use Rattle.lnbd_export.specs.declared.request.Agreed.{Agreed}
use Rattle.lnbd_server.specs.declared.stage.Offers.{Offers}
use Rattle.lnbd_server.specs.declared.stage.Stage.TheVariants.{Serving}
use Rattle.lnbd_server.specs.Options.{Answer, put_replies, refused, going, information, stage_after, lawful, answer_of, option_answer, err_unknown, err_invalid}
use Rattle.lnbd_served.proofs.Items.{Said, Greets, Answers, Names, Replies_to, encode, AreReplies, acknowledges, ends_answer}
use Rattle.lnbd_served.proofs.Linking.{of_fits, EndsBy, body_ends}
use Rattle.lnbd_served.proofs.Shown.{value}
use Rattle.lnbd_lively.specs.Known.{is_unknown}

-- No reply to come is such a refusal.
abbrev pub AreKnown : List Said → Type 0
AreKnown [] = Unit {0}
AreKnown (Answers option reply ∷ more) = ((reply.type == first_rep_error + err_unsup) ≡ false) × AreKnown more
AreKnown (Greets ∷ more) = AreKnown more
AreKnown (Names size flags ∷ more) = AreKnown more
AreKnown (Replies_to replies request made ∷ more) = AreKnown more

-- An answer that acknowledges has none, since an error would end it.
pub acked_known : (size option : ℕ) (items : List Said) → AreReplies size option items → acknowledges items ≡ true → AreKnown items
acked_known size option [] are acks = absurd (false≢true acks)
acked_known size option (Greets ∷ more) are acks = absurd are
acked_known size option (Names n flags ∷ more) are acks = absurd are
acked_known size option (Replies_to replies request made ∷ more) are acks = absurd are
acked_known size option (Answers other reply ∷ more) are acks = go (λ e. acked_known size option more are.3 e) (nat_le first_rep_error reply.type) refl (reply.type == rep_ack) refl
  where
    -- the last
    ends : more ≡ [] → AreKnown more
    ends none = subst AreKnown (sym none) tt

    go : (acknowledges more ≡ true → AreKnown more) → (a : Bool) → nat_le first_rep_error reply.type ≡ a → (b : Bool) → (reply.type == rep_ack) ≡ b → AreKnown (Answers other reply ∷ more)
    go later a x true y =
        let is = eqb-true reply.type rep_ack y in
        (ne_eqb reply.type (first_rep_error + err_unsup) (λ e. absurd (omega (arith, is, e))), ends (are.2 (or_right (nat_le first_rep_error reply.type) (reply.type == rep_ack) y)))
      where
        or_right : (p q : Bool) → q ≡ true → p || q ≡ true
        or_right true q e = refl
        or_right false q e = e
    go later true x false y =
        let none = are.2 (ap (λ p. p || (reply.type == rep_ack)) x) in
        absurd (false≢true (sym (ap (λ p. p || acknowledges more) y ∙ ap acknowledges none) ∙ acks))
    go later false x false y =
        let low = leb-false first_rep_error reply.type x in
        (ne_eqb reply.type (first_rep_error + err_unsup) (λ e. absurd (omega (arith, low, e))), later (sym (ap (λ p. p || acknowledges more) y) ∙ acks))

-- Nor has an answer that is one other refusal.
pub refused_known : (size option code : ℕ) (items : List Said) → option < 256 ^ 4 → code ≤ 1000 → (code ≡ err_unsup → ⊥) → AreReplies size option items → ends_answer items ≡ true → put_replies option (refused code ∷ []) ≡ flat_map encode items → AreKnown items
unfolding number_at
refused_known size option code [] small few other are ends e = absurd (false≢true ends)
refused_known size option code (Greets ∷ more) small few other are ends e = absurd are
refused_known size option code (Names n flags ∷ more) small few other are ends e = absurd are
refused_known size option code (Replies_to replies request made ∷ more) small few other are ends e = absurd are
refused_known size option code (Answers asked reply ∷ more) small few other are ends e =
    (ne_eqb reply.type (first_rep_error + err_unsup) (λ same. other (omega (arith, same, is))), subst AreKnown (sym none) tt)
  where
    fit : AllFit (option_reply_head asked reply.type (length reply.body))
    fit = subst (λ o. AllFit (option_reply_head o reply.type (length reply.body))) (sym are.0) are.1.fit

    made : number_at 12 4 (flat_map encode (Answers asked reply ∷ more)) ≡ reply.type
    made = ap (λ fs. value fs 2) (then_reads (option_reply_head asked reply.type (length reply.body)) (reply.body ++ flat_map encode more) (flat_map encode (Answers asked reply ∷ more))
        (record { fit = fit; spelled = append_assoc (row (option_reply_head asked reply.type (length reply.body))) reply.body (flat_map encode more) })).fields

    given : number_at 12 4 (put_replies option (refused code ∷ [])) ≡ first_rep_error + code
    given = ap (λ fs. value fs 2) (then_reads (option_reply_head option (first_rep_error + code) 0) [] (put_replies option (refused code ∷ []))
        (record { fit = (omega arith, (small, (omega (arith, few), (omega arith, tt)))); spelled = append_assoc (row (option_reply_head option (first_rep_error + code) 0)) [] [] })).fields

    is : reply.type ≡ first_rep_error + code
    is = sym made ∙ sym (ap (number_at 12 4) e) ∙ given

    none : more ≡ []
    none = are.2 (ap (λ p. p || (reply.type == rep_ack)) (le-leb first_rep_error reply.type (omega (arith, is))))

-- A reply of another type tells no such refusal.
pub told_known : (type : ℕ) (bytes : List ℕ) (body : Body) → body_of type bytes ≡ Some body → (type == first_rep_error + err_unsup) ≡ false → is_unknown (end_of body.told) ≡ false
unfolding body_of
told_known type bytes body e apart = go (nat_le first_rep_error type) refl
  where
    go : (a : Bool) → nat_le first_rep_error type ≡ a → is_unknown (end_of body.told) ≡ false
    go true x =
        let high = leb-true first_rep_error type x in
        let is : body.told ≡ told.Error (type - first_rep_error) = of_fits true (told.Error (type - first_rep_error)) body
        (sym (ap (λ (b : Bool). if b then fits true (told.Error (type - first_rep_error)) else if type == rep_ack then fits (length bytes == 0) told.Ack else if type == rep_server then server_body bytes else if type == rep_info then info_body bytes
        else if type == rep_meta_context then context_body bytes else None) x) ∙ e) in
        ap (λ t. is_unknown (end_of t)) is ∙ ne_eqb (type - first_rep_error) err_unsup (λ same. absurd (false≢true (sym apart ∙ eq-eqb type (first_rep_error + err_unsup) (omega (arith, same, high)))))
    go false x = by (body_ends type bytes body e)
      where
        acked : (end : End) → end_of body.told ≡ Some end → (end ≡ Acknowledged → (type == rep_ack) ≡ true) → (type == rep_ack) ≡ true → is_unknown (end_of body.told) ≡ false
        acked Acknowledged ends acks l = ap is_unknown ends
        acked (Failed code) ends acks l =
            let is : body.told ≡ told.Ack = of_fits (length bytes == 0) told.Ack body (sym (ap (λ (k : ℕ). body_of k bytes) (eqb-true type rep_ack l)) ∙ e) in
            ap (λ t. is_unknown (end_of t)) is

        by : EndsBy type body.told → is_unknown (end_of body.told) ≡ false
        by (inl (l, end, ends, ack)) = acked end ends ack (sym (ap (λ p. p || (type == rep_ack)) x) ∙ l)
        by (inr (l, none)) = ap is_unknown none

-- The answer to GO: the session serves then, or refuses it for its name or its data.
abbrev pub IsGoAnswer : Answer → Type 0
IsGoAnswer answer = (answer.stage ≡ Serving) ⊎ ((code : ℕ) × (code ≤ 1000) × (code ≡ err_unsup → ⊥) × (answer.bytes ≡ put_replies opt_go (refused code ∷ [])))

abbrev IsInfo : Option Asked → Type 0
IsInfo None = Unit {0}
IsInfo (Some (asks.Name name)) = ⊥
IsInfo (Some (asks.Info name types)) = Unit {0}
IsInfo (Some (asks.Meta name queries)) = ⊥
IsInfo (Some asks.Plain) = ⊥

go_info : (body : List ℕ) → IsInfo (asked_of opt_go body)
unfolding asked_of
go_info body = by_if (nat_le 4 (length body) && nat_le (6 + number_at 0 4 body) (length body) && (length body == 6 + number_at 0 4 body + 2 * number_at (4 + number_at 0 4 body) 2 body))
    (Some (asks.Info (take (number_at 0 4 body) (drop 4 body)) (types_in (number_at (4 + number_at 0 4 body) 2 body) (drop (6 + number_at 0 4 body) body)))) None tt tt
  where
    by_if : (b : Bool) (one other : Option Asked) → IsInfo one → IsInfo other → IsInfo (if b then one else other)
    by_if true one other e f = e
    by_if false one other e f = f

module _ (offers : Offers) (export : Export) (zeroes : Bool) (agreed : Agreed) where
  one_invalid : err_invalid ≡ err_unsup → ⊥
  one_invalid e = omega (arith, e)

  one_unknown : err_unknown ≡ err_unsup → ⊥
  one_unknown e = omega (arith, e)

  info_answers : (b : Bool) (name : List ℕ) (n d : Bool) → IsGoAnswer (if b then record { bytes = put_replies opt_go (information agreed.replies export n d); agreed = agreed; stage = stage_after opt_go } else going opt_go (refused err_unknown ∷ []) agreed)
  info_answers true name n d = inl refl
  info_answers false name n d = inr (err_unknown, omega arith, one_unknown, refl)

  texts_answer : (a : Asked) (b : Bool) → IsInfo (Some a) → IsGoAnswer (answer_of offers export zeroes agreed opt_go (if b then Some (request_of a) else None))
  texts_answer a false e = inr (err_invalid, omega arith, one_invalid, refl)
  texts_answer (asks.Name name) true e = absurd e
  texts_answer (asks.Info name types) true e = info_answers (bytes_eq name export.name) name (list_any (λ type. type == 1) types) (list_any (λ type. type == 2) types)
  texts_answer (asks.Meta name queries) true e = absurd e
  texts_answer asks.Plain true e = absurd e

  asked_answer : (v : Option Asked) → IsInfo v → IsGoAnswer (answer_of offers export zeroes agreed opt_go (lawful v))
  asked_answer None e = inr (err_invalid, omega arith, one_invalid, refl)
  asked_answer (Some a) e = texts_answer a (asks_texts a) e

  pub go_answer : (body : List ℕ) → IsGoAnswer (option_answer offers export zeroes agreed opt_go body)
  go_answer body = asked_answer (asked_of opt_go body) (go_info body)
