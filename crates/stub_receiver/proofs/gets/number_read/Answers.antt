use Rattle.std.proofs.Common.{rules, ap, ◌∙◌, FitsSigned}
use Rattle.std.specs.Int.{w128}
use Rattle.std.proofs.lemmas.Int.{to_z-of_z}
use Rattle.mint.specs.Values.{num}
use Rattle.cast_stub.specs.Draft.{done}
use Rattle.stub_receiver.proofs.Drafting.{drawn-Done}
use Rattle.stub_receiver.proofs.Getting.{seen-Num}
use Rattle.stub_receiver.proofs.gets.number_read.Goals as goal

pub returns : goal.returns
returns c =
    let fits : FitsSigned w128 c.args.n.now = search rules in
    drawn-Done c.args.mint.now _ ∙ ap done (seen-Num _ ∙ ap num (to_z-of_z w128 _ fits))
