-- The types of what is exchanged in calls of the operations of a binding.
use Rattle.std.specs.Prelude.{ℕ, map, slice_index_or}
use Rattle.mint.specs.Types.{Ty, type_at}
use Rattle.pres.specs.declared.ops.Op.{Op}
use Rattle.pres.specs.Bindings.{Binding}

-- the type of the request of an operation
abbrev pub request_type : Binding → ℕ → Ty
request_type b op = type_at b.nodes (slice_index_or (map (λ (o : Op). o.request) b.ops) op 0)

-- the type of the reply of an operation: a union whose arm 0 is the answer, and arm k the k-th exception
abbrev pub reply_type : Binding → ℕ → Ty
reply_type b op = type_at b.nodes (slice_index_or (map (λ (o : Op). o.reply) b.ops) op 0)
