use Rattle.std.proofs.Common.{◌≡◌, ℕ, List, length, ◌∙◌, ap, false, inl, inr, refl, rules, subst, sym}
use Rattle.std.specs.Prelude.{◌==◌}
use Rattle.std.proofs.lemmas.Bool.{false≢true}
use Rattle.std.proofs.lemmas.Result.{err_from_is_err_and}
use Rattle.percent_encoding.specs.Percent.{percent_decode}
use Rattle.lnbd_uri.proofs.FaultLemmas.{IsSome-copied, None-copied, TextsFault-same, empty_from_length, nonempty_from_length, positive_from_length, unix_escape_fault, unix_texts_fault}
use Rattle.lnbd_uri.specs.Parts.{IsEscaped}
use Rattle.lnbd_uri.specs.Written.{parts_of}
use Rattle.lnbd_uri.proofs.place.unix_place.Goals as goal
use Rattle.lnbd_uri.proofs.place.unix_place.Goals.{then-is_some-via-then-is_some, then-is_some-via-else-is_some+then-not-is_escaped, then-is_some-via-else-is_some+else-not-is_escaped+then-not-is_escaped-2}

-- `is_empty` answered false
abbrev IsLong : List ℕ → Type 0
IsLong bytes = false ≡ (length bytes == 0)

pub returns-then-is_some-clause-fault : goal.returns-then-is_some-clause-fault
returns-then-is_some-clause-fault c other =
    let name_is = c.as_bytes-name.ensures.value ∙ c.written_name.ensures in
    let socket_is = c.as_bytes-socket.ensures.value ∙ c.written_socket.ensures in
    unix_escape_fault (parts_of c.args.parts.now) (λ long. false≢true (c.if-has_authority.ensures.1 long))
    (elim c.then-is_some.branch [
      | then-is_some-via-then-is_some w ↦ inl (IsSome-copied c.args.parts.now.fragment w.if-is_some.ensures)
      | then-is_some-via-else-is_some+then-not-is_escaped w ↦ inr (inl (λ good. false≢true (w.if-not-is_escaped.ensures.1 (subst IsEscaped (sym name_is) good))))
      | then-is_some-via-else-is_some+else-not-is_escaped+then-not-is_escaped-2 w ↦ inr (inr (λ good. false≢true (w.if-not-is_escaped-2.ensures.1 (subst IsEscaped (sym socket_is) good))))
    ])

pub returns-in_err-name-2-clause-fault : goal.returns-in_err-name-2-clause-fault
returns-in_err-name-2-clause-fault c =
    let told = err_from_is_err_and c.from_residual-in_err-name-2.result c.from_residual-in_err-name-2.ensures.1 in
    let name_is = c.as_bytes-name.ensures.value ∙ c.written_name.ensures in
    let socket_is = c.as_bytes-socket.ensures.value ∙ c.written_socket.ensures in
    rw (told.1, told.2)
    (unix_texts_fault (parts_of c.args.parts.now) c.in_err-name-2.field-0.0
    (λ long. false≢true (c.if-has_authority.ensures.1 long))
    (None-copied c.args.parts.now.fragment c.if-is_some.ensures)
    (subst IsEscaped name_is (c.if-not-is_escaped.ensures.0 refl))
    (subst IsEscaped socket_is (c.if-not-is_escaped-2.ensures.0 refl))
    (nonempty_from_length _ (positive_from_length _ (subst IsLong socket_is c.if-is_empty.ensures)))
    (TextsFault-same c.in_err-name-2.field-0.0 _ _ _ _
    (c.deref.ensures.value ∙ (c.in_ok-name.ensures ∙ ap percent_decode name_is))
    (c.deref-2.ensures.value ∙ (c.in_ok-path.ensures ∙ ap percent_decode socket_is))
    c.in_err-name-2.ensures.fault))

pub returns-clause-place : goal.returns-clause-place
returns-clause-place c =
    let name_is = c.as_bytes-name.ensures.value ∙ c.written_name.ensures in
    let socket_is = c.as_bytes-socket.ensures.value ∙ c.written_socket.ensures in
    record {
      no_authority = empty_from_length _ (λ long. false≢true (c.if-has_authority.ensures.1 long));
      has_socket = positive_from_length _ (subst IsLong socket_is c.if-is_empty.ensures);
      path_is = search rules;
      name_is = search rules;
      no_fragment = None-copied c.args.parts.now.fragment c.if-is_some.ensures;
    }
