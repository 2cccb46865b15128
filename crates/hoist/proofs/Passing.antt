-- Operations put before code that was visited.
use Rattle.wire_def.specs.declared.encoding.Encoding.{Encoding}
use Rattle.std.proofs.Common.{◌≡◌, ℕ, ℤ, ◌-◌, List, [], ◌∷◌, ◌++◌, Option, Some, refl, sym, ap, ◌∙◌, subst}
use Rattle.std.specs.Prelude.{reverse}
use Rattle.mint.specs.declared.kind.Count.{Count}
use Rattle.mint.specs.Types.{Scalar, Ty, items_type, choice_type, maybe_type, Arms}
use Rattle.wire_def.specs.declared.head.Order.{Order}
use Rattle.cast_stub.specs.declared.put.Put.{Put}
use Rattle.cast_stub.specs.declared.send.SendOp.{SendOp}
use Rattle.cast_stub.specs.declared.send.SendOp.TheVariants as op
use Rattle.cast_stub.specs.Block.{Block, stop, align, chunk, patch, each, if_there, switch, Cases, Piece, op_seen, code_seen, cases_seen}
use Rattle.cast_stub.proofs.Pieces.{seen-Align, seen-Chunk, seen-Patch, seen-Each, seen-Some, seen-Switch}
use Rattle.hoist.specs.declared.ahead.Ahead.{Ahead}
use Rattle.hoist.specs.declared.ahead.Plan.{Plan as CodePlan}
use Rattle.hoist.specs.declared.ahead.Plan.TheVariants as code_plan
use Rattle.cast_stub.specs.Parts.{on_some}
use Rattle.cast_stub.specs.PartTypes.{ty_at, present_at, present_type, arms_at, arms_type}
use Rattle.hoist.specs.Hoisted.{Pending, Hoisted, Plan, flat, raised, settled, closed, hoisted, cases_hoisted, kept, each_plan, some_plan, switch_plan, items_at, items_in_type, or_void, or_none, InType, WhereApart, IsTaken, CasesTaken}
use Rattle.hoist.specs.Seen.{ahead_seen, plan_seen, after, span_roles, InFront}
use Rattle.hoist.proofs.Reversed.{after-push}

abbrev piece : Piece → Piece
piece p = p

abbrev pair : Block → Pending → Hoisted
pair b p = (b, p)

-- the last operation of a reversed code is the first
pushed : (back new : List SendOp) (o : SendOp) (piece : Piece) → op_seen o ≡ piece → new ≡ back ++ o ∷ []
    → code_seen (reverse new) ≡ piece (code_seen (reverse back))
pushed back new o piece s n =
    ap (λ (l : List SendOp). code_seen (reverse l)) n ∙ after-push back o ∙ ap (λ (p : Piece). p (code_seen (reverse back))) s

module _ (enc : Encoding) (t : Ty) where
  -- an operation that becomes a piece, where the code after it changes first
  turned : (o o' : SendOp) (piece : Piece) (f : Hoisted → Hoisted) (back mid new : List SendOp) (ah then : Ahead)
      → ((r : Block)
      → hoisted (span_roles enc) t (op_seen o r) ≡ pair (piece (f (hoisted (span_roles enc) t r)).0) (f (hoisted (span_roles enc) t r)).1)
      → op_seen o' ≡ piece → after mid then ≡ f (after back ah) → new ≡ mid ++ o' ∷ []
      → InFront enc t o (after back ah) (after new then)
  turned o o' piece f back mid new ah then go s e n r is =
      go r ∙ ap (λ (x : Hoisted). pair (piece (f x).0) (f x).1) is ∙ ap (λ (y : Hoisted). pair (piece y.0) y.1) (sym e)
      ∙ ap (λ (b : Block). pair b (ahead_seen then)) (sym (pushed mid new o' piece s n))

  pub front-align : (o : SendOp) (a n : ℕ) (back new : List SendOp) (ah then : Ahead) → o ≡ op.Align a → n ≡ a - 1
      → new ≡ back ++ op.Align a ∷ [] → ahead_seen then ≡ raised n (ahead_seen ah)
      → InFront enc t o (after back ah) (after new then)
  front-align o a n back new ah then is one made e =
      turned o (op.Align a) (align a) (settled (flat (a - 1))) back back new ah then
      (λ r. ap (λ (p : Piece). hoisted (span_roles enc) t (p r)) (ap op_seen is ∙ seen-Align a)) (seen-Align a)
      (ap (pair (code_seen (reverse back))) (e ∙ ap (λ (k : ℕ). raised k (ahead_seen ah)) one)) made

  pub front-chunk : (o : SendOp) (s : ℕ) (puts : List Put) (back new : List SendOp) (ah then : Ahead) → o ≡ op.Chunk s puts
      → new ≡ back ++ op.Chunk s puts ∷ [] → ahead_seen then ≡ raised s (ahead_seen ah)
      → InFront enc t o (after back ah) (after new then)
  front-chunk o s puts back new ah then is made e =
      turned o (op.Chunk s puts) (chunk s puts) (settled (flat s)) back back new ah then
      (λ r. ap (λ (p : Piece). hoisted (span_roles enc) t (p r)) (ap op_seen is ∙ seen-Chunk s puts)) (seen-Chunk s puts)
      (ap (pair (code_seen (reverse back))) e) made

  pub front-patch : (o : SendOp) (at sub : ℕ) (order : Order) (back new : List SendOp) (ah : Ahead) → o ≡ op.Patch at sub order
      → new ≡ back ++ op.Patch at sub order ∷ []
      → InFront enc t o (after back ah) (after new ah)
  front-patch o at sub order back new ah is made =
      turned o (op.Patch at sub order) (patch at sub order) (λ x. x) back back new ah ah
      (λ r. ap (λ (p : Piece). hoisted (span_roles enc) t (p r)) (ap op_seen is ∙ seen-Patch at sub order)) (seen-Patch at sub order) refl
      made

  -- an operation with bodies, which its plan keeps or hoists by themselves
  front-bodies : {A : Type 0} (o o' : SendOp) (put : List ℕ → A → Block → Block) (path : List ℕ) (given inner made' : A)
      (plan : CodePlan) (plan' : Plan) (back mid new : List SendOp) (ah then : Ahead)
      → ((r : Block)
      → hoisted (span_roles enc) t (op_seen o r)
      ≡ pair (put path (kept plan' given made') (settled plan' (hoisted (span_roles enc) t r)).0)
      (settled plan' (hoisted (span_roles enc) t r)).1)
      → op_seen o' ≡ put path inner → plan_seen path plan ≡ plan' → inner ≡ kept (plan_seen path plan) given made'
      → after mid then ≡ settled (plan_seen path plan) (after back ah) → new ≡ mid ++ o' ∷ []
      → InFront enc t o (after back ah) (after new then)
  front-bodies {A} o o' put path given inner made' plan plan' back mid new ah then go seen planned made e new' =
      turned o o' (put path (kept plan' given made')) (settled plan') back mid new ah then go
      (seen ∙ ap (λ (x : A). piece (put path x)) (made ∙ ap (λ (x : Plan). kept x given made') planned))
      (e ∙ ap (λ (x : Plan). settled x (after back ah)) planned) new'

  pub front-each : (o : SendOp) (path : List ℕ) (body inner : List SendOp) (plan : CodePlan) (back mid new : List SendOp)
      (ah then : Ahead) → o ≡ op.Each path body
      → plan_seen path plan ≡ each_plan (span_roles enc) t path (code_seen body)
      → code_seen inner ≡ kept (plan_seen path plan) (code_seen body)
      (closed (hoisted (span_roles enc) (or_void (items_at path t)) (code_seen body)))
      → after mid then ≡ settled (plan_seen path plan) (after back ah) → new ≡ mid ++ op.Each path inner ∷ []
      → InFront enc t o (after back ah) (after new then)
  front-each o path body inner plan back mid new ah then is =
      front-bodies o (op.Each path inner) each path (code_seen body) (code_seen inner)
      (closed (hoisted (span_roles enc) (or_void (items_at path t)) (code_seen body))) plan
      (each_plan (span_roles enc) t path (code_seen body)) back mid new ah then
      (λ r. ap (λ (p : Piece). hoisted (span_roles enc) t (p r)) (ap op_seen is ∙ seen-Each path body)) (seen-Each path inner)

  pub front-some : (o : SendOp) (path : List ℕ) (body inner : List SendOp) (plan : CodePlan) (back mid new : List SendOp)
      (ah then : Ahead) → o ≡ op.Some path body
      → plan_seen path plan ≡ some_plan (span_roles enc) t path (code_seen body)
      → code_seen inner ≡ kept (plan_seen path plan) (code_seen body)
      (closed (hoisted (span_roles enc) (or_void (present_at path t)) (code_seen body)))
      → after mid then ≡ settled (plan_seen path plan) (after back ah) → new ≡ mid ++ op.Some path inner ∷ []
      → InFront enc t o (after back ah) (after new then)
  front-some o path body inner plan back mid new ah then is =
      front-bodies o (op.Some path inner) if_there path (code_seen body) (code_seen inner)
      (closed (hoisted (span_roles enc) (or_void (present_at path t)) (code_seen body))) plan
      (some_plan (span_roles enc) t path (code_seen body)) back mid new ah then
      (λ r. ap (λ (p : Piece). hoisted (span_roles enc) t (p r)) (ap op_seen is ∙ seen-Some path body)) (seen-Some path inner)

  pub front-switch : (o : SendOp) (path : List ℕ) (cases bodies : List (ℤ × List SendOp)) (last rest : Option (List SendOp))
      (plan : CodePlan) (back mid new : List SendOp) (ah then : Ahead) → o ≡ op.Switch path cases last
      → plan_seen path plan ≡ switch_plan (span_roles enc) t path (cases_seen cases last)
      → cases_seen bodies rest
      ≡ kept (plan_seen path plan) (cases_seen cases last)
      (cases_hoisted (span_roles enc) (or_none (arms_at path t)) (cases_seen cases last))
      → after mid then ≡ settled (plan_seen path plan) (after back ah) → new ≡ mid ++ op.Switch path bodies rest ∷ []
      → InFront enc t o (after back ah) (after new then)
  front-switch o path cases bodies last rest plan back mid new ah then is =
      front-bodies o (op.Switch path bodies rest) switch path (cases_seen cases last) (cases_seen bodies rest)
      (cases_hoisted (span_roles enc) (or_none (arms_at path t)) (cases_seen cases last)) plan
      (switch_plan (span_roles enc) t path (cases_seen cases last)) back mid new ah then
      (λ r. ap (λ (p : Piece). hoisted (span_roles enc) t (p r)) (ap op_seen is ∙ seen-Switch path cases last))
      (seen-Switch path bodies rest)

  -- the bodies of a switch that is taken
  pub switch-taken : (o : SendOp) (path : List ℕ) (cases : List (ℤ × List SendOp)) (last : Option (List SendOp)) (plan : CodePlan)
      → o ≡ op.Switch path cases last → plan_seen path plan ≡ switch_plan (span_roles enc) t path (cases_seen cases last)
      → IsTaken (span_roles enc) t (op_seen o stop)
      → WhereApart (plan_seen path plan) (InType (arms_at path t) (λ arms. CasesTaken (span_roles enc) arms (cases_seen cases last)))
  switch-taken o path cases last plan is planned taken =
      let whole : IsTaken (span_roles enc) t (switch path (cases_seen cases last) stop) =
      subst (λ (p : Piece). IsTaken (span_roles enc) t (p stop)) (ap op_seen is ∙ seen-Switch path cases last) taken in
      subst (λ (x : Plan). WhereApart x (InType (arms_at path t) (λ arms. CasesTaken (span_roles enc) arms (cases_seen cases last))))
      (sym planned) whole.0

  -- the arms at the path of a switch whose bodies are hoisted by themselves
  arms-there : (path : List ℕ) (u : Ty) (s : Scalar) (arms : Arms) → Some u ≡ ty_at path t → u ≡ choice_type s arms
      → arms_at path t ≡ Some arms
  arms-there path u s arms is of = ap (λ (x : Option Ty). on_some x arms_type) (sym is) ∙ ap arms_type of

  pub switch-apart : (path : List ℕ) (plan : CodePlan) (u : Ty) (s : Scalar) (arms : Arms) (cs : Cases) → plan ≡ code_plan.Apart
      → Some u ≡ ty_at path t → u ≡ choice_type s arms
      → WhereApart (plan_seen path plan) (InType (arms_at path t) (λ arms. CasesTaken (span_roles enc) arms cs))
      → CasesTaken (span_roles enc) arms cs
  switch-apart path plan u s arms cs e is of taken =
      let there : InType (arms_at path t) (λ (x : Arms). CasesTaken (span_roles enc) x cs) = subst
      (λ (x : CodePlan). WhereApart (plan_seen path x) (InType (arms_at path t) (λ arms. CasesTaken (span_roles enc) arms cs))) e
      taken in
      subst (λ (x : Option Arms). InType x (λ (y : Arms). CasesTaken (span_roles enc) y cs)) (arms-there path u s arms is of) there

  pub switch-kept : (path : List ℕ) (plan : CodePlan) (u : Ty) (s : Scalar) (arms : Arms) (cs cs' : Cases) → plan ≡ code_plan.Apart
      → Some u ≡ ty_at path t → u ≡ choice_type s arms → cs' ≡ cases_hoisted (span_roles enc) arms cs
      → cs' ≡ kept (plan_seen path plan) cs (cases_hoisted (span_roles enc) (or_none (arms_at path t)) cs)
  switch-kept path plan u s arms cs cs' e is of made =
      made ∙ ap (λ (x : Option Arms). cases_hoisted (span_roles enc) (or_none x) cs) (sym (arms-there path u s arms is of))
      ∙ ap (λ (x : CodePlan). kept (plan_seen path x) cs (cases_hoisted (span_roles enc) (or_none (arms_at path t)) cs)) (sym e)

  -- the body of a loop, and of a value that may be there, hoisted by itself
  pub each-kept : (path : List ℕ) (plan : CodePlan) (u w : Ty) (k : Count) (b b' : Block) → plan ≡ code_plan.Apart → Some u ≡ ty_at path t
      → u ≡ items_type k w → b' ≡ closed (hoisted (span_roles enc) w b)
      → b' ≡ kept (plan_seen path plan) b (closed (hoisted (span_roles enc) (or_void (items_at path t)) b))
  each-kept path plan u w k b b' e is of made =
      let there : items_at path t ≡ Some w = ap (λ (x : Option Ty). on_some x items_in_type) (sym is) ∙ ap items_in_type of in
      made ∙ ap (λ (x : Option Ty). closed (hoisted (span_roles enc) (or_void x) b)) (sym there)
      ∙ ap (λ (x : CodePlan). kept (plan_seen path x) b (closed (hoisted (span_roles enc) (or_void (items_at path t)) b))) (sym e)

  pub some-kept : (path : List ℕ) (plan : CodePlan) (u w : Ty) (b b' : Block) → plan ≡ code_plan.Apart → Some u ≡ ty_at path t
      → u ≡ maybe_type w → b' ≡ closed (hoisted (span_roles enc) w b)
      → b' ≡ kept (plan_seen path plan) b (closed (hoisted (span_roles enc) (or_void (present_at path t)) b))
  some-kept path plan u w b b' e is of made =
      let there : present_at path t ≡ Some w = ap (λ (x : Option Ty). on_some x present_type) (sym is) ∙ ap present_type of in
      made ∙ ap (λ (x : Option Ty). closed (hoisted (span_roles enc) (or_void x) b)) (sym there)
      ∙ ap (λ (x : CodePlan). kept (plan_seen path x) b (closed (hoisted (span_roles enc) (or_void (present_at path t)) b))) (sym e)
