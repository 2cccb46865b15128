use Rattle.std.proofs.Common.{◌∙◌, sym, ap, rules, FitsSigned}
use Rattle.std.specs.Int.{w128}
use Rattle.std.proofs.lemmas.Int.{to_z-of_z}
use Rattle.mint.specs.Values.{num}
use Rattle.cast_stub.specs.Draft.{done}
use Rattle.cast_stub.specs.Runs.{gives}
use Rattle.stub_receiver.specs.Ran.{place_of}
use Rattle.stub_receiver.proofs.gets.num_into.Goals as goal

pub returns-in-Some : goal.returns-in-Some
returns-in-Some c =
    let fits : FitsSigned w128 c.in-Some.n = search rules in
    c.in-Some.ensures ∙ ap (λ d. gives d (place_of c.args.view.now))
    (sym (c.number_read.ensures ∙ ap (λ n. done (num n)) (to_z-of_z w128 _ fits)))
