use Rattle.std.proofs.Common.{◌∙◌, Option, codes, refl, sym, ap, subst, not}
use Rattle.lnbd_args.specs.Tools.{IsRequestSize, IsSparse, IsWithin}
use Rattle.lnbd_args.specs.Words.{Word}
use Rattle.lnbd_args.proofs.copy.copy_options.Goals as goal

pub returns-in_err-connections : goal.returns-in_err-connections
returns-in_err-connections c =
    rw c.from_residual.ensures (λ parts t options h. c.in_err-connections.ensures options.connections (subst (λ (g : Option Word). IsWithin 4 1 16 g options.connections) (sym (t.value (codes "connections") _ refl refl)) h.connections))

pub returns-in_err-requests : goal.returns-in_err-requests
returns-in_err-requests c =
    rw c.from_residual-in_err-requests.ensures (λ parts t options h. c.in_err-requests.ensures options.requests (subst (λ (g : Option Word). IsWithin 64 1 512 g options.requests) (sym (t.value (codes "requests") _ refl refl)) h.requests))

pub returns-in_err-request_size : goal.returns-in_err-request_size
returns-in_err-request_size c =
    rw c.from_residual-in_err-request_size.ensures (λ parts t options h. c.in_err-request_size.ensures options.request_size (subst (λ (g : Option Word). IsRequestSize g options.request_size) (sym (t.value (codes "request-size") _ refl refl)) h.request_size))

pub returns-in_err-sparse : goal.returns-in_err-sparse
returns-in_err-sparse c =
    rw c.from_residual-in_err-sparse.ensures (λ parts t options h. c.in_err-sparse.ensures options.sparse (subst (λ (g : Option Word). IsSparse g options.sparse) (sym (t.value (codes "sparse") _ refl refl)) h.sparse))

pub returns : goal.returns
returns c parts t = record {
  connections = subst (λ (g : Option Word). IsWithin 4 1 16 g c.in_ok-connections.connections) (t.value (codes "connections") _ refl refl) c.in_ok-connections.ensures;
  requests = subst (λ (g : Option Word). IsWithin 64 1 512 g c.in_ok-requests.requests) (t.value (codes "requests") _ refl refl) c.in_ok-requests.ensures;
  request_size = subst (λ (g : Option Word). IsRequestSize g c.in_ok-request_size.request_size) (t.value (codes "request-size") _ refl refl) c.in_ok-request_size.ensures;
  sparse = subst (λ (g : Option Word). IsSparse g c.in_ok-sparse.sparse) (t.value (codes "sparse") _ refl refl) c.in_ok-sparse.ensures;
  extents = ap not (c.is_given.ensures ∙ t.flag (codes "no-extents") _ refl refl);
  allocated = c.is_given-2.ensures ∙ t.flag (codes "allocated") _ refl refl;
  destination_is_zero = c.is_given-3.ensures ∙ t.flag (codes "destination-is-zero") _ refl refl;
  flush = c.is_given-4.ensures ∙ t.flag (codes "flush") _ refl refl;
}
