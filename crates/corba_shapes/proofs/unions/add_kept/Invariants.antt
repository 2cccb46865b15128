use Rattle.std.proofs.Common.{◌≡◌, ◌++◌, drop}
use Rattle.idl_names.specs.Arms.{arms_for, arms_held}
use Rattle.corba_shapes.specs.Forms.{form_shape, lengths_of}
use Rattle.corba_shapes.proofs.unions.add_kept.Given as goal

abbrev pub invariant-loop-n : goal.invariant-loop-n
invariant-loop-n l = arms_held l.initial.arms ++ arms_for (form_shape l.form (lengths_of l.lengths)) l.numbers ≡ arms_held l.arms
    ++ arms_for (form_shape l.form (lengths_of l.lengths)) (drop l.n-index l.numbers)
