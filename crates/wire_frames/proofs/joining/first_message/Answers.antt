use Rattle.std.proofs.Common.{◌≢◌, ℕ, List, ◌∙◌, subst, sym}
use Rattle.std.proofs.lemmas.Result.{IfOk-weaker}
use Rattle.wire_def.specs.declared.encoding.Back.TheVariants.{Xdr}
use Rattle.wire_frames.specs.First.{first, IsMessage}
use Rattle.wire_frames.proofs.Answering.{used_fits, prefix_is_message}
use Rattle.wire_frames.proofs.joining.first_message.Goals as goal

pub prefix-requires : goal.prefix-requires
prefix-requires c = used_fits c.args.back c.args.kept.now c.args.used c.requires

pub returns-else-has_records : goal.returns-else-has_records
returns-else-has_records c =
    let other : c.args.back ≢ Xdr = c.has_records.ensures.others c.if-has_records.false in
    let whole = prefix_is_message c.args.back c.args.kept.now c.args.used other c.requires in
    let is_first = λ (x : List ℕ). IsMessage (first c.args.back c.args.kept.now) x c.args.used in
    IfOk-weaker c.from_slice.result _ is_first (λ (m : List ℕ) e. subst is_first (sym (e ∙ c.prefix.ensures)) whole)
    c.from_slice.ensures
