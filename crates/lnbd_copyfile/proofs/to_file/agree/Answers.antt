use Rattle.std.proofs.Common.{subst}
use Rattle.lnbd_model.specs.declared.export.ExportInfo.{ExportInfo}
use Rattle.lnbd_conduct.specs.Settled.{AreSettledBy}
use Rattle.lnbd_copyfile.specs.Shares.{to_a_file}
use Rattle.lnbd_copyfile.proofs.to_file.agree.Goals as goal

pub returns-clause-settles : goal.returns-clause-settles
returns-clause-settles c = record {
  source = c.in_ok-source.source.now;
  shown = c.in_ok-source.ensures.shown;
  settled = record {
    by = subst (λ (file : ExportInfo). AreSettledBy (to_a_file c.args.options) c.in_ok-source.source.now file c.settled.result) c.as_export-file.ensures.told c.settled.ensures.settles;
    limited = record { is = c.settled.ensures.limited.is };
  };
}
