use Rattle.std.proofs.Common.{refl}
use Rattle.json_shape.proofs.UsualRecords.{args_absent, args_taken}
use Rattle.json_shape.proofs.UsualTexts.{same_first}
use Rattle.json_shape.proofs.usual_args.args_at.Goals as goal

pub returns-then-is_end-clause-value : goal.returns-then-is_end-clause-value
returns-then-is_end-clause-value c = args_absent _ _ _ _ _ (same_first _ _ _ (c.if-is_end.ensures refl)) c.in_ok-none.ensures.value

pub returns-clause-value : goal.returns-clause-value
returns-clause-value c =
    args_taken _ _ _ _ _ _ _ (same_first _ _ _ (c.if-not-is_key.ensures refl)) c.in_ok-value.ensures.value
    c.in_ok-end_members.ensures
