use Rattle.std.proofs.Common.{◌≡◌, sym, ◌∙◌, ap}
use Rattle.pres.specs.Bindings.{Binding}
use Rattle.stub_codes.specs.Stubs.{Coded}
use Rattle.flick_top.specs.Answer.{engine_in}
use Rattle.flick_top.proofs.Begun.{lines-new, parts-new}
use Rattle.flick_top.proofs.cutter.Cutter.new.Goals as goal

pub returns-then-reads_stream : goal.returns-then-reads_stream
returns-then-reads_stream c =
    let of : c.back.result ≡ (engine_in c.args.job.now).binding.back =
    c.back.ensures ∙ ap (λ (b : Binding). b.back) (c.bound.ensures.value ∙ ap (λ (e : Coded). e.binding) c.engine.ensures) in
    parts-new c.args.job.now c.back.result _ (sym c.reads_stream.ensures ∙ c.if-reads_stream.true) of c.new.ensures

pub returns-else-reads_stream : goal.returns-else-reads_stream
returns-else-reads_stream c =
    lines-new c.args.job.now _ (sym c.reads_stream.ensures ∙ c.if-reads_stream.false) c.new-else-reads_stream.ensures
