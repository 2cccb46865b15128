-- The heads that are sent of a version, by its minor number, in which the size is set once the message is whole.
use Rattle.std.specs.Prelude.{ℕ, zero, suc, Bool, List, [], slice_index_or}
use Rattle.wire_def.specs.declared.head.Order.{Order}
use Rattle.giop_head.specs.Printed.{request_octets, answer_octets, user_octets}
use Rattle.back_cdr.specs.Targets.{Target}

-- the head of a request, which a body may follow
abbrev pub lead : ℕ → Bool → Order → Target → ℕ → List ℕ
lead m body r t id = request_octets m body r (record { id = id; wants = t.wants; key = t.key; name = t.name })

-- the head of a reply: 0 is the answer, and the exceptions of an operation follow
abbrev pub reply_lead : ℕ → Order → Target → ℕ → ℕ → List ℕ
reply_lead m r t zero id = answer_octets m r id
reply_lead m r t (suc k) id = user_octets m r id (slice_index_or t.ids k [])
