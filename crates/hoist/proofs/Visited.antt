-- Operations that are visited from the last to the first.
use Rattle.wire_def.specs.declared.encoding.Encoding.{Encoding}
use Rattle.std.proofs.Common.{◌≡◌, List, [], ◌∷◌, ◌++◌, sym, ap, ◌∙◌, subst, append_assoc}
use Rattle.mint.specs.Types.{Ty}
use Rattle.cast_stub.specs.declared.send.SendOp.{SendOp}
use Rattle.cast_stub.specs.Block.{stop, op_seen, code_seen}
use Rattle.cast_stub.specs.Append.{append}
use Rattle.cast_stub.proofs.Appending.{op-append, code_seen-append}
use Rattle.hoist.specs.Hoisted.{Hoisted, Roles, hoisted, closed, IsTaken}
use Rattle.hoist.specs.Seen.{span_roles, InFront}
use Rattle.hoist.proofs.InStep.{both-taken}

-- operations are left before those that are visited, which are hoisted
pub record AreVisited (r : Roles) (t : Ty) (all left : List SendOp) (x : Hoisted) : Type 0 where
  pub visited : List SendOp
  pub split : all ≡ left ++ visited
  pub hoisted_so : hoisted r t (code_seen visited) ≡ x

-- one more is visited
turn_over : (all old new : List SendOp) (o : SendOp) (visited : List SendOp) → all ≡ old ++ visited → old ≡ new ++ o ∷ []
    → all ≡ new ++ o ∷ visited
turn_over all old new o visited split is = split ∙ ap (λ (l : List SendOp). l ++ visited) is ∙ append_assoc new (o ∷ []) visited

module _ (enc : Encoding) (t : Ty) where
  -- what is visited next is taken
  pub last-taken : (all old new : List SendOp) (o : SendOp) (x : Hoisted) → AreVisited (span_roles enc) t all old x → old ≡ new ++ o ∷ []
      → IsTaken (span_roles enc) t (code_seen all) → IsTaken (span_roles enc) t (op_seen o stop)
  last-taken all old new o x v is taken =
      let whole : code_seen all ≡ append (code_seen new) (op_seen o (code_seen v.visited)) =
      ap code_seen (turn_over all old new o v.visited v.split is) ∙ code_seen-append new (o ∷ v.visited) in
      let behind = (both-taken enc t (code_seen new) (op_seen o (code_seen v.visited))
      (subst (IsTaken (span_roles enc) t) whole taken)).1 in
      (both-taken enc t (op_seen o stop) (code_seen v.visited)
      (subst (IsTaken (span_roles enc) t) (sym (op-append o stop (code_seen v.visited))) behind)).0

  pub one-visited : (all old new : List SendOp) (o : SendOp) (x y : Hoisted) → AreVisited (span_roles enc) t all old x → old ≡ new ++ o ∷ []
      → InFront enc t o x y → AreVisited (span_roles enc) t all new y
  one-visited all old new o x y v is front = record {
    visited = o ∷ v.visited;
    split = turn_over all old new o v.visited v.split is;
    hoisted_so = front (code_seen v.visited) v.hoisted_so;
  }

  pub all-visited : (all left : List SendOp) (x : Hoisted) → AreVisited (span_roles enc) t all left x → left ≡ []
      → closed x ≡ closed (hoisted (span_roles enc) t (code_seen all))
  all-visited all left x v none =
      ap closed (sym v.hoisted_so)
      ∙ ap (λ (l : List SendOp). closed (hoisted (span_roles enc) t (code_seen l)))
      (sym (v.split ∙ ap (λ (l : List SendOp). l ++ v.visited) none))
