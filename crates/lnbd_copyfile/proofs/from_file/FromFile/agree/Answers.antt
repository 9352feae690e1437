use Rattle.std.proofs.Common.{ap, sym, subst}
use Rattle.lnbd_copy.specs.Agreed.{AreQuiet}
use Rattle.lnbd_copyfile.specs.FromFile.{Seen}
use Rattle.lnbd_copyfile.specs.SharingFrom.{FindsTermsFrom}
use Rattle.lnbd_conduct.specs.Settled.{AreSettledBy}
use Rattle.lnbd_model.specs.declared.export.ExportInfo.{ExportInfo}
use Rattle.lnbd_copyfile.proofs.from_file.FromFile.agree.Goals as goal

pub info_of-requires-clause-quiet : goal.info_of-requires-clause-quiet
info_of-requires-clause-quiet c = subst AreQuiet (sym (ap (λ (s : Seen). s.held) c.self.view_is)) c.requires.quiet

pub returns-clause-settles : goal.returns-clause-settles
returns-clause-settles c =
    subst (λ (s : Seen). FindsTermsFrom s.options c.settled.result s.held) c.self.view_is (record {
      destination = c.in_ok-destination.destination.now;
      shown = c.in_ok-destination.ensures.shown;
      settled = record {
        size = c.args.size;
        by = subst (λ (file : ExportInfo). AreSettledBy c.self.inside.options file c.in_ok-destination.destination.now c.settled.result) c.info_of_file-source.ensures.told c.settled.ensures.settles;
        limited = record { is = c.settled.ensures.limited.is };
      };
    })
