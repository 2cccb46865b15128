use Rattle.std.proofs.Common.{◌<◌, length, ◌∙◌, None, arith}
use Rattle.stub_compare.proofs.CompareLists.{at_any}
use Rattle.stub_compare.proofs.CompareLaid.{one_free, one_taken}
use Rattle.stub_compare.proofs.CompareOps.{told_absent}
use Rattle.stub_compare.proofs.CompareLaying.{told_there}
use Rattle.stub_compare.proofs.compare_cells.lay_one.Goals as goal

pub returns-in-Some-clause-laid : goal.returns-in-Some-clause-laid
returns-in-Some-clause-laid c =
    let within : c.args.at < length c.args.places.now.items = omega (arith, c.requires, c.args.places.now.ok.0) in
    told_absent _ _ (one_taken c.args.at c.args.owner c.in-Some.field-0 c.args.places.now.items
    (at_any c.args.places.now.items c.args.at c.index.result.now None within c.index.ensures ∙ c.in-Some.is))

pub returns-in-None-clause-laid : goal.returns-in-None-clause-laid
returns-in-None-clause-laid c =
    let within : c.args.at < length c.args.places.now.items = omega (arith, c.requires, c.args.places.now.ok.0) in
    told_there _ _ (one_free c.args.at c.args.owner c.args.places.now.items within
    (at_any c.args.places.now.items c.args.at c.index.result.now None within c.index.ensures ∙ c.in-None.is))
