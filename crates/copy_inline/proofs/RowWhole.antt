-- What the pass promises, of code that is the given one with its rows as blocks.
use Rattle.std.proofs.Common.{◌≡◌, ℕ, List, [], Option, None, Some, option_map, refl, sym, ap, subst, ◌∙◌, IfSome, Bool, true, false}
use Rattle.mint.specs.Types.{Ty, Arms, array_type, items_type, no_other, others, arm_type}
use Rattle.mint.specs.Typed.{IsOf}
use Rattle.mint.specs.Values.{Val}
use Rattle.wire_def.specs.declared.encoding.Encoding.{Encoding}
use Rattle.wire_def.specs.declared.head.Head.{Head}
use Rattle.cast_stub.specs.declared.send.SendCode.{SendCode}
use Rattle.cast_stub.specs.Block.{Block, stop, ensure, ensure_row, align, chunk, row_copy, row_swap, row_wide, each, switch, if_there, call, patch, Cases, no_default, default, case, code_seen}
use Rattle.cast_stub.specs.CallFree.{HasNoCall, CasesHaveNoCall}
use Rattle.cast_stub.specs.Follows.{flat}
use Rattle.wire_def.specs.declared.head.Order.{Order}
use Rattle.wire_def.specs.Arrays.{kind_of}
use Rattle.cast_stub.specs.Layouts.{order_of}
use Rattle.cast_stub.specs.Kept.{Anywhere, SendsTheSameAt, StaysCoveredAt, ChecksTheSame}
use Rattle.cast_stub.specs.Meaning.{Cost, costs}
use Rattle.cast_stub.specs.PartTypes.{ty_at, present_at, arms_at}
use Rattle.cast_stub.specs.Steps.{Steps, Calls, steps}
use Rattle.cast_stub.specs.Subs.{deepest, calls_of, sent_steps}
use Rattle.cast_stub.proofs.Followed.{mapped}
use Rattle.copy_inline.specs.declared.sorts.Sort.{Sort}
use Rattle.copy_inline.specs.declared.sorts.Sort.TheVariants as sort
use Rattle.copy_inline.specs.Counted.{blocks}
use Rattle.copy_inline.specs.Ready.{LoopIs, IsReady, CasesReady}
use Rattle.copy_inline.specs.Rowed.{row_or_loop, loop_rowed, rowed, cases_rowed}
use Rattle.copy_inline.specs.Rows.{IsGiven, IsRowed, GivesBlocks}
use Rattle.copy_inline.specs.Sorts.{sort_of, is_image}
use Rattle.copy_inline.proofs.Joined.{AreJoined, same_written, same_covered, same_checks}
use Rattle.copy_inline.proofs.RowCounts.{Counts, row_counts}
use Rattle.copy_inline.proofs.RowReady.{given_ready}
use Rattle.copy_inline.proofs.RowSteps.{joins}
use Rattle.copy_inline.proofs.RecvRowWhole.{typed_free}

-- ---- no call

turn_free : (b : Block) (n : ℕ) → flat b ≡ Some n → HasNoCall b
turn_free stop n f = tt
turn_free (chunk s ps r) n f = let m = mapped _ (flat r) n f in turn_free r m.0 m.1
turn_free (align a r) n f = let m = mapped _ (flat r) n f in turn_free r m.0 m.1
turn_free _ n f = absurd cc

row_free : (s : Sort) (image : Bool) (o : Order) (p : List ℕ) (b r : Block) → HasNoCall b → HasNoCall r
    → HasNoCall (row_or_loop s image o p b r)
row_free sort.Block true o p b r h k = k
row_free sort.Block false o p b r h k = k
row_free sort.Wide image o p b r h k = k
row_free sort.Looped image o p b r h k = (h, k)

loop_free : (e : Encoding) (x : Option Ty) (p : List ℕ) (b r : Block) → LoopIs e x b (λ u. IsReady e u b)
    → ((u : Ty) → IsReady e u b → HasNoCall (rowed e u b)) → HasNoCall r
    → HasNoCall (loop_rowed e x p b (λ u. rowed e u b) r)
loop_free e (Some (array_type a)) p b r ok go k =
    row_free (sort_of e a) (is_image (order_of e) (kind_of a)) (order_of e) p b r (turn_free b ok.1 ok.2) k
loop_free e (Some (items_type c t)) p b r ok go k = (go t ok, k)
loop_free e None p b r ok go k = absurd ok
loop_free e (Some _) p b r ok go k = absurd ok

mutual
  rowed_free : (e : Encoding) (b : Block) (t : Ty) → IsReady e t b → HasNoCall (rowed e t b)
  rowed_free e stop t ok = tt
  rowed_free e (ensure n r) t ok = rowed_free e r t ok
  rowed_free e (ensure_row p u x r) t ok = rowed_free e r t ok
  rowed_free e (align a r) t ok = rowed_free e r t ok
  rowed_free e (chunk s ps r) t ok = rowed_free e r t ok
  rowed_free e (row_copy p r) t ok = absurd ok
  rowed_free e (row_swap p r) t ok = absurd ok
  rowed_free e (row_wide p o r) t ok = absurd ok
  rowed_free e (each p b r) t ok = loop_free e (ty_at p t) p b (rowed e t r) ok.0 (λ u k. rowed_free e b u k) (rowed_free e r t ok.1)
  rowed_free e (switch p cs r) t ok = (
    typed_free (arms_at p t) cs (λ arms. cases_rowed e arms cs) (λ arms. CasesReady e arms cs) CasesHaveNoCall ok.0
        (λ arms k. cases_free e cs arms k),
    rowed_free e r t ok.1,
  )
  rowed_free e (if_there p b r) t ok = (
    typed_free (present_at p t) b (λ u. rowed e u b) (λ u. IsReady e u b) HasNoCall ok.0
        (λ u k. rowed_free e b u k),
    rowed_free e r t ok.1,
  )
  rowed_free e (call k p r) t ok = absurd ok
  rowed_free e (patch a s o r) t ok = rowed_free e r t ok

  cases_free : (e : Encoding) (cs : Cases) (arms : Arms) → CasesReady e arms cs → CasesHaveNoCall (cases_rowed e arms cs)
  cases_free e no_default no_other ok = tt
  cases_free e (default b) (others t) ok = rowed_free e b t ok
  cases_free e (case m b cs) (arm_type n t arms) ok = (rowed_free e b t ok.1, cases_free e cs arms ok.2)
  cases_free e no_default (others t) ok = absurd ok
  cases_free e no_default (arm_type n t arms) ok = absurd ok
  cases_free e (default b) no_other ok = absurd ok
  cases_free e (default b) (arm_type n t arms) ok = absurd ok
  cases_free e (case m b cs) no_other ok = absurd ok
  cases_free e (case m b cs) (others t) ok = absurd ok

-- ---- the promises

-- a cost's checks, of steps that may be there
checks_of : (x : Steps) → option_map (λ (c : Cost). c.checks) (option_map costs x) ≡ option_map (λ ss. (costs ss).checks) x
checks_of None = refl
checks_of (Some ss) = refl

counted_cost : (x : Steps) (n : ℕ) → Counts x n → IfSome (option_map costs x) (λ c. c.rows ≡ n)
counted_cost None n k = tt
counted_cost (Some ss) n k = k

module _ (e : Encoding) (t : Ty) (given code : SendCode) (of : IsGiven e t given) (is : IsRowed e t given code)
    (none : code.subs ≡ []) where
  abbrev Calling : Head → Calls
  Calling h = calls_of given.subs h deepest

  -- its steps, as the laws speak of them
  met : (h : Head) (v : Val) → steps (Calling h) h (rowed e t (code_seen given.ops)) v ≡ sent_steps code h v
  met h v = ap (λ (b : Block). steps (Calling h) h b v) (sym is)
      ∙ ap (λ subs. steps (calls_of subs h deepest) h (code_seen code.ops) v) (of.subs ∙ sym none)

  joined : (h : Head) (v : Val) → IsOf t v → AreJoined (sent_steps given h v) (sent_steps code h v)
  joined h v typed =
      subst (AreJoined (sent_steps given h v)) (met h v) (joins e (Calling h) h (code_seen given.ops) t v (given_ready e t given of) typed)

  pub sends_same : SendsTheSameAt Anywhere t given code
  sends_same h v p here typed = same_written (sent_steps given h v) (sent_steps code h v) p (joined h v typed)

  pub stays_covered : StaysCoveredAt Anywhere t given code
  stays_covered h v p here typed covered = same_covered (sent_steps given h v) (sent_steps code h v) p (joined h v typed) covered

  pub checks_same : ChecksTheSame t given code
  checks_same h v typed = checks_of (sent_steps code h v) ∙ same_checks (sent_steps given h v) (sent_steps code h v) (joined h v typed)
      ∙ sym (checks_of (sent_steps given h v))

  pub gives_blocks : GivesBlocks e t code
  gives_blocks h v typed =
      counted_cost (sent_steps code h v) (blocks e t v)
      (subst (λ (x : Steps). Counts x (blocks e t v)) (met h v) (row_counts e (Calling h) h t (code_seen given.ops) v of.framed typed))

  pub has_no_call : HasNoCall (code_seen code.ops)
  has_no_call = subst HasNoCall (sym is) (rowed_free e (code_seen given.ops) t (given_ready e t given of))
