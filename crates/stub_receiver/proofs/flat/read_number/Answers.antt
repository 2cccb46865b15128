use Rattle.std.proofs.Common.{◌∙◌, ◌++◌, ◌∷◌, [], ℤ, sym, ap, refl, rules, map, FitsSigned}
use Rattle.std.specs.Int.{w128}
use Rattle.std.proofs.lemmas.Int.{to_z-of_z}
use Rattle.mint.specs.Values.{num, seen}
use Rattle.cast_stub.specs.Runs.{gives}
use Rattle.stub_receiver.specs.Flat.{read_so_far}
use Rattle.stub_receiver.specs.Ran.{place_of}
use Rattle.stub_receiver.proofs.Flattening.{number_there, number_given, number_refused}
use Rattle.stub_receiver.proofs.flat.read_number.Goals as goal

pub scalar_number-requires-clause-scalar : goal.scalar_number-requires-clause-scalar
scalar_number-requires-clause-scalar c = number_there c.args.mint.now c.args.nested c.args.ids.now c.args.values.now c.len-at.result _
    c.args.off c.args.path.now c.args.width c.args.order (place_of c.args.view.now) (c.if-not-is_width.ensures.yes refl) c.len-at.ensures
    (c.if-not-is_at.ensures refl) (sym c.in-Some.ensures) c.requires _ c.load-m.ensures.value

pub returns-in-Some-scalar_number : goal.returns-in-Some-scalar_number
returns-in-Some-scalar_number c =
    let fits : FitsSigned w128 c.in-Some-scalar_number.n = search rules in
    number_given c.args.mint.now c.args.nested c.args.ids.now c.args.values.now c.len-at.result _ c.args.off c.args.path.now c.args.width
    c.args.order (place_of c.args.view.now) (c.if-not-is_width.ensures.yes refl) c.len-at.ensures (c.if-not-is_at.ensures refl)
    (sym c.in-Some.ensures) c.requires _ c.load-m.ensures.value c.in-Some-scalar_number.n
    (sym c.scalar_number.ensures ∙ c.in-Some-scalar_number.is)
    ∙ ap (λ (k : ℤ). gives (read_so_far c.args.mint.now c.args.nested c.args.ids.now (map seen c.args.values.now ++ num k ∷ []))
    (place_of c.args.view.now)) (sym (to_z-of_z w128 _ fits))

pub returns-in-None : goal.returns-in-None
returns-in-None c = number_refused c.args.mint.now c.args.nested c.args.ids.now c.args.values.now c.len-at.result _
    c.args.off c.args.path.now c.args.width c.args.order (place_of c.args.view.now) (c.if-not-is_width.ensures.yes refl) c.len-at.ensures
    (c.if-not-is_at.ensures refl) (sym c.in-Some.ensures) c.requires _ c.load-m.ensures.value (sym c.scalar_number.ensures ∙ c.in-None.is)
