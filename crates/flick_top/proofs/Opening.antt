-- What was written begins the one output of the words, whatever became of a run.
use Rattle.std.proofs.Common.{◌∙◌, inl, inr, [], refl, ap}
use Rattle.flick_top.specs.Laws.{OutputsBegin}
use Rattle.flick_top.specs.Made.{codes_of}
use Rattle.flick_top.specs.Task.{Out, out_of}
use Rattle.flick_top.proofs.Outputs.{one_output}

pub outputs_begin : OutputsBegin
outputs_begin made words files left left' held held' source source' status old new (inl (ends, took, wrote)) task f is all
    only input reported =
    ([], (out_of task f input).octets, refl, wrote)
outputs_begin made words files left left' held held' source source' status old new (inr (other, g, comes, answered, done)) task f
    is all only input reported =
    let (begun, rest, parts, wrote) = done.prefix input reported in
    let same = one_output (codes_of made) (codes_of made) words files task other f g (λ shown. refl)
    (λ checks. only checks ∙ done.engine) is comes all answered input in
    (begun, rest, ap (λ (o : Out). o.octets) same ∙ parts, wrote)
