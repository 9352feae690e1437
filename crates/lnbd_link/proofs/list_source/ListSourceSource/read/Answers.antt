use Rattle.std.proofs.Common.{rules, ap, sym, ◌∙◌, ℕ, List, take, drop}
use Rattle.lnbd_link.specs.Streams.{SourceState}
use Rattle.lnbd_link.proofs.SourceLemmas.{none_left, given_left}
use Rattle.lnbd_link.proofs.list_source.ListSourceSource.read.Goals as goal

pub returns-then-n-eq0-clause-end : goal.returns-then-n-eq0-clause-end
returns-then-n-eq0-clause-end c u bytes same =
    none_left c.self.inside.bytes.items _ bytes c.self.inside.at _ c.copied-n.result (ap (λ (v : SourceState). v.left) (sym c.self.view_is)) (search rules) (search rules) c.requires same

pub returns-clause-left : goal.returns-clause-left
returns-clause-left c =
    given_left c.self.inside.bytes.items _ c.copied-n.new.into c.self.inside.at c.copied-n.result (ap (λ (v : SourceState). v.left) (sym c.self.view_is)) (c.copied-n.ensures.moved ∙ ap (λ (l : List ℕ). take c.copied-n.result (drop c.self.inside.at l)) c.deref.ensures.value)
