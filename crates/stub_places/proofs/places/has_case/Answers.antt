use Rattle.std.proofs.Common.{ap, ◌∙◌, is_some}
use Rattle.stub_places.proofs.CasesFound.{case_found}
use Rattle.stub_places.proofs.places.has_case.Goals as goal

pub returns : goal.returns
returns c = λ last. c.is_some.ensures ∙ ap is_some c.find.ensures.place ∙ case_found c.args.n.now 0 c.args.cases.now last
