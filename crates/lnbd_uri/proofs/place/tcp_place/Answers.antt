use Rattle.std.proofs.Common.{◌∙◌, ap, refl, subst}
use Rattle.std.proofs.lemmas.Result.{err_from_is_err_and}
use Rattle.percent_encoding.specs.Percent.{percent_decode}
use Rattle.lnbd_uri.proofs.FaultLemmas.{None-copied, TextsFault-same, tcp_port_fault, tcp_texts_fault}
use Rattle.lnbd_uri.specs.Parts.{IsEscaped}
use Rattle.lnbd_uri.specs.Written.{parts_of}
use Rattle.lnbd_uri.proofs.place.tcp_place.Goals as goal

pub returns-in_default-clause-fault : goal.returns-in_default-clause-fault
returns-in_default-clause-fault c other =
    tcp_port_fault (parts_of c.args.parts.now) (c.if-not-is_host.ensures.0 refl) c.in_default.ensures

pub returns-in_err-host-clause-fault : goal.returns-in_err-host-clause-fault
returns-in_err-host-clause-fault c =
    let told = err_from_is_err_and c.from_residual-in_err-host.result c.from_residual-in_err-host.ensures.1 in
    let name_is = c.as_bytes-name.ensures.value ∙ c.written_name.ensures in
    let decoded_is = c.deref.ensures.value ∙ (c.in_ok-name.ensures ∙ ap percent_decode name_is) in
    rw (told.1, told.2)
    (tcp_texts_fault (parts_of c.args.parts.now) c.in-Some.port c.in_err-host.field-0.0
    (c.if-not-is_host.ensures.0 refl)
    c.in-Some.ensures
    (None-copied c.args.parts.now.fragment c.if-is_some.ensures)
    (subst IsEscaped name_is (c.if-not-is_escaped.ensures.0 refl))
    (TextsFault-same c.in_err-host.field-0.0 _ _ _ _ c.as_bytes.ensures.value decoded_is c.in_err-host.ensures.fault))
