use Rattle.std.proofs.Common.{◌∙◌, sym, subst}
use Rattle.wire_def.specs.declared.encoding.Back.{Back}
use Rattle.flick_engine.specs.Backs.{IsMinorOver}
use Rattle.flick_top.proofs.file.bound_to.Goals as goal

pub compile_with-requires : goal.compile_with-requires
compile_with-requires c =
    subst (λ (k : Back). IsMinorOver k c.minor.result) (sym (c.in-Ok.ensures.back ∙ c.back.ensures)) c.minor.ensures.is
