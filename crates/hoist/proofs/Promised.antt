-- What the pass promises, of code that is the given one hoisted.
use Rattle.std.proofs.Common.{◌≡◌, ℕ, ◌++◌, ◌≤◌, List, [], ◌∷◌, Option, None, Some, option_map, refl, sym, ap, subst, ◌∙◌, IfSome}
use Rattle.mint.specs.Types.{Ty}
use Rattle.mint.specs.Sound.{IsSound}
use Rattle.mint.specs.Values.{Val}
use Rattle.wire_def.specs.declared.encoding.Encoding.{Encoding}
use Rattle.wire_def.specs.declared.head.Head.{Head}
use Rattle.cast_stub.specs.declared.send.SendCode.{SendCode}
use Rattle.cast_stub.specs.Block.{Block, code_seen}
use Rattle.cast_stub.specs.Meaning.{patched, wrote, costs, AreCovered}
use Rattle.cast_stub.specs.Parts.{on_some, IsThere}
use Rattle.cast_stub.specs.Steps.{Step, Room, Pad, Stored, Widened, Copied, Patched, Steps, Calls, steps}
use Rattle.cast_stub.specs.Subs.{deepest, calls_of, sent_steps}
use Rattle.cast_stub.specs.Kept.{unensured, without_room, SendsTheSame, ChangesOnlyEnsures, IsCoveredFor}
use Rattle.cast_stub.specs.Bare.{RowsAreBare}
use Rattle.hoist.specs.Hoisted.{closed, hoisted, IsTaken}
use Rattle.hoist.specs.Pass.{IsGiven, EnsuresRows, IsSparing}
use Rattle.hoist.specs.Rows.{RowsEnsured}
use Rattle.hoist.specs.Regions.{regions}
use Rattle.hoist.specs.Seen.{span_roles}
use Rattle.hoist.specs.SpanSizes.{sizes}
use Rattle.hoist.proofs.Covered.{covers}
use Rattle.hoist.proofs.EnsuredRows.{ensures_rows}
use Rattle.hoist.proofs.Keeping.{keeps_steps, keeps_code}
use Rattle.hoist.proofs.SpanSizes.{are_sizes}
use Rattle.hoist.proofs.Sparing as spare
use Rattle.hoist.proofs.Sparse.{spares_rows}
use Rattle.hoist.proofs.Taken.{framed_taken}

pub given-taken : (enc : Encoding) (t : Ty) (given : SendCode) → IsGiven t given → IsTaken (span_roles enc) t (code_seen given.ops)
given-taken enc t given is = framed_taken (sizes enc) t is.1 (code_seen given.ops) (are_sizes enc) is.2

-- ---- what is written does not depend on room

pub same-then : (x : Option (List ℕ)) (f g : List ℕ → Option (List ℕ)) → ((a : List ℕ) → f a ≡ g a) → on_some x f ≡ on_some x g
same-then None f g e = refl
same-then (Some a) f g e = e a

wrote-same : (base : ℕ) (ss : List Step) (o : List ℕ) → wrote base o (without_room ss) ≡ wrote base o ss
wrote-same base [] o = refl
wrote-same base (Room n ∷ ss) o = wrote-same base ss o
wrote-same base (Pad a ∷ ss) o = wrote-same base ss _
wrote-same base (Stored os k ∷ ss) o = wrote-same base ss (o ++ os)
wrote-same base (Widened os k ∷ ss) o = wrote-same base ss (o ++ os)
wrote-same base (Copied os ∷ ss) o = wrote-same base ss (o ++ os)
wrote-same base (Patched at sub order ∷ ss) o =
    same-then (patched base at sub order o) (λ a. wrote base a (without_room ss)) (λ a. wrote base a ss) (λ a. wrote-same base ss a)

-- what steps write from a position
abbrev written : ℕ → Steps → Option (List ℕ)
written p x = on_some x (wrote p [])

written-same : (p : ℕ) (x : Steps) → written p (option_map without_room x) ≡ written p x
written-same p None = refl
written-same p (Some ss) = wrote-same p ss []

-- ---- hoisted code without codes to call

module _ (enc : Encoding) (given code : SendCode) (t : Ty)
    (e : code_seen code.ops ≡ closed (hoisted (span_roles enc) t (code_seen given.ops))) (from : given.subs ≡ [])
    (to : code.subs ≡ []) where
  abbrev by-calls : Head → Calls
  by-calls h = calls_of code.subs h deepest

  -- its steps, as the laws speak of them
  met : (h : Head) (v : Val) → steps (by-calls h) h (closed (hoisted (span_roles enc) t (code_seen given.ops))) v ≡ sent_steps code h v
  met h v = ap (λ (b : Block). steps (by-calls h) h b v) (sym e)

  same-steps : (h : Head) (v : Val) → option_map without_room (sent_steps code h v) ≡ option_map without_room (sent_steps given h v)
  same-steps h v =
      ap (option_map without_room) (sym (met h v)) ∙ keeps_steps (span_roles enc) (by-calls h) h t (code_seen given.ops) v
      ∙ ap (λ subs. option_map without_room (steps (calls_of subs h deepest) h (code_seen given.ops) v)) (to ∙ sym from)

  pub sends-same : SendsTheSame given code
  sends-same h v p = sym (written-same p (sent_steps code h v)) ∙ ap (written p) (same-steps h v) ∙ written-same p (sent_steps given h v)

  pub changes-only-ensures : ChangesOnlyEnsures given code
  changes-only-ensures = ap unensured e ∙ keeps_code (span_roles enc) t (code_seen given.ops)

  pub covered-for : IsTaken (span_roles enc) t (code_seen given.ops) → IsCoveredFor t given code
  covered-for taken h v p typed there = cut (sent_steps code h v) (met h v) (subst IsThere (sym (sends-same h v p)) there) where
    cut : (x : Steps) → steps (by-calls h) h (closed (hoisted (span_roles enc) t (code_seen given.ops))) v ≡ x → IsThere (written p x)
        → AreCovered x p
    cut None is writes = absurd writes
    cut (Some ss) is writes = (writes, covers (span_roles enc) (by-calls h) h t (code_seen given.ops) v ss p taken typed is)

  pub sparing : IsSound t → IsSparing enc t given code
  sparing sound n h v framed typed = cut (sent_steps code h v) (met h v) where
    cut : (x : Steps) → steps (by-calls h) h (closed (hoisted (span_roles enc) t (code_seen given.ops))) v ≡ x
        → IfSome (option_map costs x) (λ c. c.checks ≤ regions (sizes enc) n t v)
    cut None is = tt
    cut (Some ss) is = spare.sparing (sizes enc) (by-calls h) h t n (code_seen given.ops) v ss (are_sizes enc) sound framed typed is

  pub bare-rows : IsTaken (span_roles enc) t (code_seen given.ops) → RowsAreBare t (code_seen code.ops)
  bare-rows taken = subst (RowsAreBare t) (sym e) (spares_rows (span_roles enc) t (code_seen given.ops) taken)

  pub big-rows : IsTaken (span_roles enc) t (code_seen given.ops) → EnsuresRows enc t code
  big-rows taken = subst (RowsEnsured (span_roles enc) t None) (sym e) (ensures_rows (span_roles enc) t (code_seen given.ops) taken)
