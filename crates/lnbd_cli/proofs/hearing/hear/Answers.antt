use Rattle.lnbd_args.specs.declared.asked.What.TheVariants as what
use Rattle.lnbd_cli.proofs.HeardLemmas.{fails_as, says_as}
use Rattle.lnbd_cli.proofs.hearing.hear.Goals as goal

pub returns-in-List-clause-says : goal.returns-in-List-clause-says
returns-in-List-clause-says g c = says_as c.args.question.what what.List _ _ _ _ c.hear_list.result c.in-List.is c.hear_list.ensures.says

pub returns-in-List-clause-fails : goal.returns-in-List-clause-fails
returns-in-List-clause-fails g c = fails_as c.args.question.what what.List c.args.question.json _ _ _ c.hear_list.result c.in-List.is c.hear_list.ensures.fails

pub returns-in-Map-clause-says : goal.returns-in-Map-clause-says
returns-in-Map-clause-says g c = says_as c.args.question.what (what.Map c.in-Map.context) _ _ _ _ c.hear_map.result c.in-Map.is c.hear_map.ensures.says

pub returns-in-Map-clause-fails : goal.returns-in-Map-clause-fails
returns-in-Map-clause-fails g c = fails_as c.args.question.what (what.Map c.in-Map.context) c.args.question.json _ _ _ c.hear_map.result c.in-Map.is c.hear_map.ensures.fails

pub returns-clause-says : goal.returns-clause-says
returns-clause-says g c = says_as c.args.question.what (what.Totals c.in-Totals.context) _ _ _ _ c.hear_map-in-Totals.result c.in-Totals.is c.hear_map-in-Totals.ensures.says

pub returns-clause-fails : goal.returns-clause-fails
returns-clause-fails g c = fails_as c.args.question.what (what.Totals c.in-Totals.context) c.args.question.json _ _ _ c.hear_map-in-Totals.result c.in-Totals.is c.hear_map-in-Totals.ensures.fails

pub returns-in-Listing-clause-says : goal.returns-in-Listing-clause-says
returns-in-Listing-clause-says g c = says_as c.args.question.what what.Listing _ _ _ _ c.hear_export.result c.in-Listing.is c.hear_export.ensures.says

pub returns-in-Listing-clause-fails : goal.returns-in-Listing-clause-fails
returns-in-Listing-clause-fails g c = fails_as c.args.question.what what.Listing c.args.question.json _ _ _ c.hear_export.result c.in-Listing.is c.hear_export.ensures.fails

pub returns-in-Size-clause-says : goal.returns-in-Size-clause-says
returns-in-Size-clause-says g c = says_as c.args.question.what what.Size _ _ _ _ c.hear_export-in-Size.result c.in-Size.is c.hear_export-in-Size.ensures.says

pub returns-in-Size-clause-fails : goal.returns-in-Size-clause-fails
returns-in-Size-clause-fails g c = fails_as c.args.question.what what.Size c.args.question.json _ _ _ c.hear_export-in-Size.result c.in-Size.is c.hear_export-in-Size.ensures.fails

pub returns-in-Test-clause-says : goal.returns-in-Test-clause-says
returns-in-Test-clause-says g c = says_as c.args.question.what (what.Test c.in-Test.predicate) _ _ _ _ c.hear_export-in-Test.result c.in-Test.is c.hear_export-in-Test.ensures.says

pub returns-in-Test-clause-fails : goal.returns-in-Test-clause-fails
returns-in-Test-clause-fails g c = fails_as c.args.question.what
    (what.Test c.in-Test.predicate) c.args.question.json _ _ _ c.hear_export-in-Test.result c.in-Test.is c.hear_export-in-Test.ensures.fails
