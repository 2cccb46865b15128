-- What the passes make of such code sends the messages.
use Rattle.std.proofs.Common.{◌≡◌, ℕ, ◌+◌, ◌*◌, ◌≤◌, List, [], ◌∷◌, map, length, Option, None, Some, option_map, Result, Ok, Err, IfOk, IfSome, refl, sym, ap, subst, ◌∙◌, arith}
use Rattle.kit_base.specs.declared.errors.NoMemory.{NoMemory}
use Rattle.mint.specs.Types.{Ty}
use Rattle.mint.specs.Typed.{IsOf, IsWellTyped}
use Rattle.mint.specs.Values.{Val}
use Rattle.wire_def.specs.declared.encoding.Back.{Back}
use Rattle.wire_def.specs.declared.encoding.Encoding.{Encoding}
use Rattle.wire_def.specs.declared.head.Head.{Head}
use Rattle.cast_stub.specs.declared.send.SendCode.{SendCode}
use Rattle.cast_stub.specs.declared.send.SendOp.{SendOp}
use Rattle.cast_stub.specs.Block.{Block, stop, ensure, ensure_row, align, chunk, row_copy, row_swap, row_wide, each, switch, if_there, call, patch, Cases, no_default, default, case, code_seen}
use Rattle.cast_stub.specs.CallFree.{HasNoCall, CasesHaveNoCall}
use Rattle.cast_stub.specs.Entries.{entries, leaves}
use Rattle.cast_stub.specs.Framed.{IsFramed}
use Rattle.cast_stub.specs.Kept.{SendsTheSame, IsCoveredFor, Anywhere, SendsTheSameAt, StaysCoveredAt, ChecksTheSame}
use Rattle.cast_stub.specs.KeptAt.{Wherever, SendsAsAt, IsCoveredAsAt, ChecksAs, RowsAs, KeepsOthers, StoresWithin, MovesWithin}
use Rattle.cast_stub.specs.Meaning.{meaning, Cost, cost, costs, AreCovered}
use Rattle.cast_stub.specs.Met.{met, rows_in, moves_allowed}
use Rattle.cast_stub.specs.Parts.{IsThere}
use Rattle.cast_stub.specs.Puts.{IsHead}
use Rattle.cast_stub.specs.Skeletons.{skeleton, cases_skeleton}
use Rattle.cast_stub.specs.Steps.{Step, Room, Pad, Stored, Widened, Copied, Patched, Steps}
use Rattle.cast_stub.specs.Subs.{sent_steps}
use Rattle.stub_lower.specs.Leads.{Leads}
use Rattle.chunker.specs.declared.phase.Phase.{Phase}
use Rattle.chunker.specs.Phases.{AtPhase}
use Rattle.copy_inline.specs.Rows.{GivesBlocks}
use Rattle.hoist.specs.Pass.{IsSparing}
use Rattle.hoist.specs.Regions.{regions}
use Rattle.hoist.specs.SpanSizes.{sizes}
use Rattle.stub_codes.specs.Backs.{encoding}
use Rattle.stub_codes.specs.Messages.{framed}
use Rattle.stub_codes.specs.Sending.{AreHeads, SendsAfter}
use Rattle.stub_codes.specs.Within.{HasCostWithin}
use Rattle.stub_codes.proofs.Following.{some_same}
use Rattle.cast_stub.proofs.Trees.{beside}

-- ---- steps and what is made of them

there : {A : Type 0} (x : Option A) (a : A) → x ≡ Some a → IsThere x
there x a e = subst IsThere (sym e) tt

-- what is known where something is there
known : {A : Type 0} (x : Option A) (a : A) (P : A → Type 0) → x ≡ Some a → IfSome x P → P a
known x a P e h = subst (λ (y : Option _). IfSome y P) e h

-- a bound of the checks, where as many are made
carried : (x y : Option Cost) (m : ℕ) → option_map (λ (c : Cost). c.checks) x ≡ option_map (λ (c : Cost). c.checks) y
    → IfSome y (λ c. c.checks ≤ m) → IfSome x (λ c. c.checks ≤ m)
carried None y m e h = tt
carried (Some a) None m e h = absurd cc
carried (Some a) (Some b) m e h = subst (λ (n : ℕ). n ≤ m) (sym (some_same a.checks b.checks e)) h

covered_steps : (x : Steps) → AreCovered x 0 → (ss : List Step) × (x ≡ Some ss)
covered_steps None h = absurd h
covered_steps (Some ss) h = (ss, refl)

-- both steps are there
wherever_both : (x y : Steps) (P : List Step → List Step → Type 0) (ss made : List Step) → x ≡ Some ss → y ≡ Some made → Wherever x y P
    → P ss made
wherever_both x y P ss made e f h =
    subst (λ (z : Steps). Wherever (Some ss) z P) f (subst (λ (z : Steps). Wherever z y P) e h)

-- as many rows as are told
rows_told : (ss : List Step) → (costs (rows_in ss)).rows ≡ (costs ss).rows
rows_told [] = refl
rows_told (Room n ∷ ss) = omega (arith, rows_told ss)
rows_told (Pad a ∷ ss) = omega (arith, rows_told ss)
rows_told (Stored os k ∷ ss) = omega (arith, rows_told ss)
rows_told (Widened os k ∷ ss) = omega (arith, rows_told ss)
rows_told (Copied os ∷ ss) = omega (arith, rows_told ss)
rows_told (Patched at sub order ∷ ss) = omega (arith, rows_told ss)

same_rows : (a b : List Step) → rows_in b ≡ rows_in a → (costs b).rows ≡ (costs a).rows
same_rows a b e = sym (rows_told b) ∙ ap (λ (l : List Step). (costs l).rows) e ∙ rows_told a

-- ---- calls and codes to call

-- the operations that are kept have a call exactly where the code has
mutual
  free : (b : Block) → (HasNoCall b → HasNoCall (skeleton b)) × (HasNoCall (skeleton b) → HasNoCall b)
  free stop = (λ h. h, λ h. h)
  free (ensure n r) = free r
  free (ensure_row p u e r) = free r
  free (align a r) = free r
  free (chunk s ps r) = free r
  free (row_copy p r) = free r
  free (row_swap p r) = free r
  free (row_wide p o r) = free r
  free (each p b r) = beside (free b) (free r)
  free (switch p cs r) = beside (cases_free cs) (free r)
  free (if_there p b r) = beside (free b) (free r)
  free (call k p r) = (λ h. h, λ h. h)
  free (patch a s o r) = free r

  cases_free : (cs : Cases)
      → (CasesHaveNoCall cs → CasesHaveNoCall (cases_skeleton cs)) × (CasesHaveNoCall (cases_skeleton cs) → CasesHaveNoCall cs)
  cases_free no_default = (λ h. h, λ h. h)
  cases_free (default b) = free b
  cases_free (case m b cs) = beside (free b) (cases_free cs)

-- no call where another code of the same operations has none
same_free : (a b : Block) → skeleton b ≡ skeleton a → HasNoCall a → HasNoCall b
same_free a b e h = (free b).1 (subst HasNoCall (sym e) ((free a).0 h))

-- as many codes, none
pub none_left : {A B : Type 0} (f : A → B) (xs ys : List A) → map f xs ≡ map f ys → ys ≡ [] → xs ≡ []
none_left f [] ys e none = refl
none_left f (x ∷ xs) [] e none = absurd cc
none_left f (x ∷ xs) (y ∷ ys) e none = absurd cc

-- ---- the code that is kept

-- wherever steps are defined, the code is allowed few moves, and few stores are met
abbrev pub HasFew : Encoding → Ty → SendCode → Type 0
HasFew e t code = (h : Head) (v : Val) → IsOf t v → (ss : List Step) → sent_steps code h v ≡ Some ss
    → (moves_allowed 7 code v ≤ 8 * (entries e t v + (costs ss).checks)) × (met ss ≤ 3 * leaves e t v + 8)

-- the beginning of an empty buffer
abbrev start : Phase
start = record { m = 8; r = 0 }

-- what is made of a code, pass by pass: ensures first, then rows as blocks, and then chunks
module _ (k : Back) (t : Ty) (lead given code rowed : SendCode)
    (made : (o : Head → List ℕ) → Leads o lead → AreHeads k o → (h : Head) (v : Val) → IsHead h → IsWellTyped t v
    → meaning given h v 0 ≡ Some (framed k (o h) t v))
    (is_framed : (o : Head → List ℕ) → Leads o lead → AreHeads k o → (h : Head) (v : Val) → IsHead h
    → IsFramed (length (o h)) t (code_seen given.ops))
    (same : SendsTheSame given code) (covered : IsCoveredFor t given code) (sparing : IsSparing (encoding k) t given code)
    (alike : SendsTheSameAt Anywhere t code rowed) (stays : StaysCoveredAt Anywhere t code rowed) (checks : ChecksTheSame t code rowed)
    (blocks : GivesBlocks (encoding k) t rowed) (calls : HasNoCall (code_seen rowed.ops)) (none : rowed.subs ≡ [])
    (bounds : HasFew (encoding k) t rowed) where
  module _ (o : Head → List ℕ) (leads : Leads o lead) (heads : AreHeads k o) (h : Head) (v : Val) (head : IsHead h)
      (typed : IsWellTyped t v) where
    rowed_means : meaning rowed h v 0 ≡ Some (framed k (o h) t v)
    rowed_means = alike h v 0 tt typed.is_of ∙ same h v 0 ∙ made o leads heads h v head typed

    rowed_covered : AreCovered (sent_steps rowed h v) 0
    rowed_covered = stays h v 0 tt typed.is_of (covered h v 0 typed.is_of
        (there (meaning given h v 0) (framed k (o h) t v) (made o leads heads h v head typed)))

    rowed_checks : IfSome (cost rowed h v) (λ c. c.checks ≤ regions (sizes (encoding k)) (length (o h)) t v)
    rowed_checks = carried (cost rowed h v) (cost code h v) _ (checks h v typed.is_of)
        (sparing (length (o h)) h v (is_framed o leads heads h v head) typed.is_of)

    -- the cost of the code that is made last
    within : (c : SendCode) → AreCovered (sent_steps c h v) 0 → ChecksAs rowed c → RowsAs rowed c → StoresWithin rowed c
        → MovesWithin 7 rowed c → HasCostWithin (encoding k) (length (o h)) t v (cost c h v)
    within c covers as_many as_rows as_stored as_moved =
        let (ss, is) = covered_steps (sent_steps rowed h v) rowed_covered in
        let (last, ends) = covered_steps (sent_steps c h v) covers in
        let many = wherever_both (sent_steps rowed h v) (sent_steps c h v) (λ a b. (costs b).checks ≡ (costs a).checks) ss last is ends
        (as_many h v) in
        let rows = wherever_both (sent_steps rowed h v) (sent_steps c h v) (λ a b. rows_in b ≡ rows_in a) ss last is ends (as_rows h v) in
        let stored = wherever_both (sent_steps rowed h v) (sent_steps c h v) (λ a b. (costs b).stores ≤ met a) ss last is ends
        (as_stored h v) in
        let moved = known (sent_steps c h v) last (λ b. (costs b).moves ≤ moves_allowed 7 rowed v) ends (as_moved h v) in
        let most = bounds h v typed.is_of ss is in
        let most_moves = most.0 in
        let most_stores = most.1 in
        let given_cost : cost rowed h v ≡ Some (costs ss) = ap (option_map costs) is in
        let few = known (cost rowed h v) (costs ss) (λ c. c.checks ≤ regions (sizes (encoding k)) (length (o h)) t v) given_cost
        rowed_checks in
        let as_blocks = known (cost rowed h v) (costs ss) _ given_cost (blocks h v typed.is_of) in (
          costs last,
          ap (option_map costs) ends,
          record {
            checks = omega (arith, many, few);
            rows = same_rows ss last rows ∙ as_blocks;
            moves = omega (arith, moved, most_moves, few);
            stores = omega (arith, stored, most_stores);
          },
        )

  sends : (c : SendCode) → SendsAsAt (AtPhase start) rowed c → IsCoveredAsAt (AtPhase start) rowed c → ChecksAs rowed c
      → RowsAs rowed c → KeepsOthers rowed c → StoresWithin rowed c → MovesWithin 7 rowed c → SendsAfter k lead t c
  sends c as_sent as_covered as_many as_rows others as_stored as_moved o leads heads =
      let covers : (h : Head) (v : Val) → IsHead h → IsWellTyped t v → AreCovered (sent_steps c h v) 0 =
      λ h v head typed. as_covered h v 0 refl (rowed_covered o leads heads h v head typed) in
      record {
        means = λ h v head typed. known (meaning rowed h v 0) (framed k (o h) t v) (λ os. meaning c h v 0 ≡ Some os)
            (rowed_means o leads heads h v head typed) (as_sent h v 0 refl);
        covered = covers;
        costs = λ h v head typed. within o leads heads h v head typed c (covers h v head typed) as_many as_rows as_stored as_moved;
        calls = same_free (code_seen rowed.ops) (code_seen c.ops) others.ops calls;
        subs = none_left (λ (s : List SendOp). skeleton (code_seen s)) c.subs rowed.subs others.subs none;
      }

  pub sends_made : (r : Result SendCode NoMemory) → IfOk r (λ c. SendsAsAt (AtPhase start) rowed c)
      → IfOk r (λ c. IsCoveredAsAt (AtPhase start) rowed c) → IfOk r (λ c. ChecksAs rowed c) → IfOk r (λ c. RowsAs rowed c)
      → IfOk r (λ c. KeepsOthers rowed c) → IfOk r (λ c. StoresWithin rowed c) → IfOk r (λ c. MovesWithin 7 rowed c)
      → IfOk r (λ c. SendsAfter k lead t c)
  sends_made (Ok c) as_sent as_covered as_many as_rows others as_stored as_moved =
      sends c as_sent as_covered as_many as_rows others as_stored as_moved
  sends_made (Err e) as_sent as_covered as_many as_rows others as_stored as_moved = tt
