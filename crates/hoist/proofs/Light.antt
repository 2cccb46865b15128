-- What the code of a small part adds, by induction on its type.
use Rattle.std.proofs.Common.{◌≡◌, ℕ, zero, suc, ◌+◌, ◌-◌, ◌≤◌, ℤ, List, [], ◌∷◌, ◌++◌, length, Option, None, Some, refl, sym, ap, subst, ◌∙◌, arith, Bool, true, ◌||◌, if◌then◌else◌}
use Rattle.mint.specs.declared.kind.Count.{Count}
use Rattle.mint.specs.declared.kind.Count.TheVariants.{Exactly, AtMost, Any}
use Rattle.mint.specs.Types.{Ty, void_type, scalar_type, array_type, group_type, items_type, choice_type, maybe_type, Tys, no_fields, field}
use Rattle.mint.specs.Values.{Val, arm_in}
use Rattle.wire_def.specs.declared.head.Head.{Head}
use Rattle.cast_stub.specs.Parts.{on_some, at, elements_in, IsThere}
use Rattle.cast_stub.specs.Block.{Block, stop, align, chunk, each, switch, if_there, Cases}
use Rattle.cast_stub.specs.Append.{append}
use Rattle.cast_stub.specs.Steps.{Steps, both, over, if_present, Calls, steps, case_steps, chunk_steps, align_steps}
use Rattle.cast_stub.specs.Follows as follows
use Rattle.cast_stub.specs.Follows.{IsCount, Follows, FieldsFollow}
use Rattle.cast_stub.specs.Subs.{no_subs}
use Rattle.cast_stub.specs.PartTypes.{ty_at, element_at, present_at, arms_at}
use Rattle.cast_stub.proofs.Appending.{append-assoc}
use Rattle.cast_stub.specs.Bare.{IsBare, CasesBare}
use Rattle.hoist.specs.Bound.{bound, cases_bound, plus}
use Rattle.hoist.specs.Hoisted.{Pending, nothing, octets, row, Hoisted, closed, Plan, flat, small, raised, settled, Role, is_small, loop_plan, body_plan, each_plan, some_plan, switch_plan, kept, items_at, or_void, or_none, hoisted, cases_hoisted}
use Rattle.wire_def.specs.Hollow.{is_hollow, are_hollow}
use Rattle.hoist.specs.Regions.{Sizes, AreSizes, on_way, roles, role_at, weight_at, is_light, fields_top, fields_weight}
use Rattle.hoist.proofs.Weighing.{spent, weigh, weigh_less, weigh_quiet, low, high, least, greatest, flat_least, small_least}
use Rattle.cast_stub.proofs.Followed.{own}
use Rattle.hoist.proofs.Quiet.{quiet, case_quiet, quiet_over, quiet_present, quiet_on, quiet_chunk, quiet_align, mapped, bare, arms_bare, flat_bare}
use Rattle.hoist.proofs.Ways.{AreFrom, from-first, from-next, from-head, ty-field, way-field, loop_bound, array_there, items_there, choice_there, maybe_there}
use Rattle.std.proofs.lemmas.Bool.{and_parts}

pub loop_small : (role : Role) (n u : Option ℕ) (p : List ℕ) (k : ℕ) → role ≡ is_small k → IsThere n
    → (m : ℕ) × (loop_plan role n u p ≡ small m k)
loop_small role None u p k e there = absurd there
loop_small role (Some m) u p k e there = (m, ap (λ (r : Role). loop_plan r (Some m) u p) e)

body_small : (role : Role) (n : Option ℕ) (k : ℕ) → role ≡ is_small k → IsThere n → (m : ℕ) × (body_plan role n ≡ small m k)
body_small role None k e there = absurd there
body_small role (Some m) k e there = (m, ap (λ (r : Role). body_plan r (Some m)) e)

pub small_role : (z : Sizes) (p : List ℕ) (t0 t : Ty) → on_way z p t0 ≡ true → ty_at p t0 ≡ Some t → roles z t0 p ≡ is_small (z.weight t)
small_role z p t0 t way is =
    ap (λ (b : Bool). if b then is_small (weight_at z (ty_at p t0)) else role_at z (ty_at p t0)) way
    ∙ ap (λ (x : Option Ty). is_small (weight_at z x)) is

pub high_same : (p : Pending) → high (raised 0 p) ≤ high p
high_same nothing = omega arith
high_same (octets m j) = omega arith
high_same (row p u m) = omega arith

module _ (z : Sizes) (sizes : AreSizes z) (c : Calls) (h : Head) (v : Val) (t0 : Ty) where
  -- a code hoisted, at least and at most
  abbrev pub least_of : Block → ℕ
  least_of b = least c h v (hoisted (roles z) t0 b)

  abbrev pub greatest_of : Block → ℕ
  greatest_of b = greatest c h v (hoisted (roles z) t0 b)

  pub flat_adds : (b r : Block) (n : ℕ) → follows.flat b ≡ Some n → least_of (append b r) ≤ least_of r
  flat_adds stop r n e = omega arith
  flat_adds (chunk s ps b) r n e =
      let m = mapped (λ k. length ps + k) (follows.flat b) n e in
      let one = flat_least c h v (chunk_steps s ps h v) (quiet_chunk h v ps s) s (hoisted (roles z) t0 (append b r)) in
      let others = flat_adds b r m.0 m.1 in
      omega (arith, one, others)
  flat_adds (align a b) r n e =
      let m = mapped suc (follows.flat b) n e in
      let one = flat_least c h v (align_steps a) (quiet_align a) (a - 1) (hoisted (roles z) t0 (append b r)) in
      let others = flat_adds b r m.0 m.1 in
      omega (arith, one, others)
  flat_adds _ r n e = absurd cc

  pub count_adds : (k : Count) (b r : Block) → IsCount k b → least_of (append b r) ≤ least_of r
  count_adds (Exactly n) b r e = subst (λ (x : Block). least_of (append x r) ≤ least_of r) (sym e) (omega arith)
  count_adds (AtMost n) b r e = flat_adds b r e.0 e.1
  count_adds Any b r e = flat_adds b r e.0 e.1

  op_small : {A : Type 0} (O : A → Steps) (plan : Plan) (n k : ℕ) (b b' : A) (x : Hoisted) → plan ≡ small n k → spent (O b) ≡ 0
      → weigh (both (O (kept plan b b')) (steps c h (settled plan x).0 v)) (low (settled plan x).1) ≤ least c h v x + k
  op_small O plan n k b b' x e q =
      subst (λ (y : Plan). weigh (both (O (kept y b b')) (steps c h (settled y x).0 v)) (low (settled y x).1) ≤ least c h v x + k) (sym e)
      (small_least c h v (O b) q n k x)

  each_light : (p : List ℕ) (b r : Block) (t : Ty) (n : ℕ) → on_way z p t0 ≡ true → ty_at p t0 ≡ Some t → z.top t ≡ Some n
      → IsThere (loop_bound p t0 b) → IsBare b
      → least_of (each p b r) ≤ least_of r + (z.weight t)
  each_light p b r t n way is top there bare =
      let s = loop_small (roles z t0 p) (loop_bound p t0 b) (on_some (element_at p t0) (λ e. bound e.0 b)) p (z.weight t)
      (small_role z p t0 t way is) there in
      op_small (λ (d : Block). on_some (on_some (at p v) elements_in) (over (steps c h d))) (each_plan (roles z) t0 p b) s.0 (z.weight t) b
      (closed (hoisted (roles z) (or_void (items_at p t0)) b)) (hoisted (roles z) t0 r) s.1
      (quiet_on (on_some (at p v) elements_in) (over (steps c h b)) (λ vs. quiet_over (steps c h b) vs (λ (w : Val). quiet c h b w bare)))

  some_light : (p : List ℕ) (b r : Block) (t : Ty) (n : ℕ) → on_way z p t0 ≡ true → ty_at p t0 ≡ Some t → z.top t ≡ Some n
      → IsThere (on_some (present_at p t0) (λ u. bound u b)) → IsBare b
      → least_of (if_there p b r) ≤ least_of r + (z.weight t)
  some_light p b r t n way is top there bare =
      let s = body_small (roles z t0 p) (on_some (present_at p t0) (λ u. bound u b)) (z.weight t) (small_role z p t0 t way is) there in
      op_small (λ (d : Block). on_some (at p v) (if_present (steps c h d))) (some_plan (roles z) t0 p b) s.0 (z.weight t) b
      (closed (hoisted (roles z) (or_void (present_at p t0)) b)) (hoisted (roles z) t0 r) s.1
      (quiet_on (at p v) (if_present (steps c h b)) (λ (w : Val). quiet_present (steps c h b) w (λ (u : Val). quiet c h b u bare)))

  switch_light : (p : List ℕ) (cs : Cases) (r : Block) (t : Ty) (n : ℕ) → on_way z p t0 ≡ true → ty_at p t0 ≡ Some t → z.top t ≡ Some n
      → IsThere (on_some (arms_at p t0) (λ arms. cases_bound arms cs)) → CasesBare cs
      → least_of (switch p cs r) ≤ least_of r + (z.weight t)
  switch_light p cs r t n way is top there bare =
      let s = body_small (roles z t0 p) (on_some (arms_at p t0) (λ arms. cases_bound arms cs)) (z.weight t) (small_role z p t0 t way is)
      there in
      op_small (λ (d : Cases). on_some (on_some (at p v) arm_in) (λ a. case_steps c h d a.0 a.1)) (switch_plan (roles z) t0 p cs) s.0
      (z.weight t) cs (cases_hoisted (roles z) (or_none (arms_at p t0)) cs) (hoisted (roles z) t0 r) s.1
      (quiet_on (on_some (at p v) arm_in) (λ a. case_steps c h cs a.0 a.1) (λ (a : ℤ × Val). case_quiet c h cs a.0 a.1 bare))

  top_there : (t : Ty) (n : ℕ) → z.top t ≡ Some n → IsThere (z.top t)
  top_there t n e = subst IsThere (sym e) tt

  split_tops : (a b : Option ℕ) (n : ℕ) → plus a b ≡ Some n → (i : ℕ) × (j : ℕ) × (a ≡ Some i) × (b ≡ Some j) × (i + j ≡ n)
  split_tops None b n e = absurd cc
  split_tops (Some i) None n e = absurd cc
  split_tops (Some i) (Some j) n e = (i, j, refl, refl, cc)

  mutual
    weighs : (t : Ty) (below : ℕ) (p : List ℕ) (b r : Block) (n : ℕ) → on_way z p t0 ≡ true → ty_at p t0 ≡ Some t → z.top t ≡ Some n
        → Follows no_subs t below p b
        → least_of (append b r) ≤ least_of r + z.weight t
    weighs void_type below p b r n way is top f = let e = flat_adds b r f.0 f.1 in omega (arith, e)
    weighs (scalar_type s) below p b r n way is top f = let e = flat_adds b r f.0 f.1 in omega (arith, e)
    weighs (array_type a) below p b r n way is top f =
        let e : append b r ≡ append f.0 (each p f.1 (append f.2 r)) =
        ap (λ (x : Block). append x r) f.6 ∙ append-assoc f.0 (each p f.1 f.2) r in
        let before = flat_adds f.0 (each p f.1 (append f.2 r)) f.3 f.7 in
        let op = each_light p f.1 (append f.2 r) (array_type a) n way is top
        (array_there z sizes a p f.1 f.4 t0 is (top_there (array_type a) n top) f.8) (flat_bare f.1 f.4 f.8) in
        let after = flat_adds f.2 r f.5 f.9 in
        subst (λ (x : Block). least_of x ≤ least_of r + z.weight (array_type a)) (sym e) (omega (arith, before, op, after))
    weighs (group_type ts) below p b r n way is top f =
        let m = sizes.group ts n top in
        let e = fields_light ts 0 ts below p b r m.0 way is (from-first ts) m.1 f in
        omega (arith, e, sizes.fields ts n top)
    weighs (items_type k t) below p b r n way is top f =
        let e : append b r ≡ append f.0 (each p f.1 r) = ap (λ (x : Block). append x r) f.2 ∙ append-assoc f.0 (each p f.1 stop) r in
        let body = own (Follows no_subs t) below [] f.1 f.4 in
        let before = count_adds k f.0 (each p f.1 r) f.3 in
        let op = each_light p f.1 r (items_type k t) n way is top
        (items_there z sizes k t below p f.1 t0 is (top_there (items_type k t) n top) body) (bare t below [] f.1 body) in
        subst (λ (x : Block). least_of x ≤ least_of r + z.weight (items_type k t)) (sym e) (omega (arith, before, op))
    weighs (choice_type s arms) below p b r n way is top f =
        let e : append b r ≡ append f.0 (switch p f.1 r) = ap (λ (x : Block). append x r) f.2 ∙ append-assoc f.0 (switch p f.1 stop) r in
        let before = flat_adds f.0 (switch p f.1 r) (f.3).0 (f.3).1 in
        let op = switch_light p f.1 r (choice_type s arms) n way is top
        (choice_there z sizes s arms below p f.1 t0 is (top_there (choice_type s arms) n top) f.4) (arms_bare arms below f.1 f.4) in
        subst (λ (x : Block). least_of x ≤ least_of r + z.weight (choice_type s arms)) (sym e) (omega (arith, before, op))
    weighs (maybe_type t) below p b r n way is top f =
        let e : append b r ≡ append f.0 (if_there p f.1 r) =
        ap (λ (x : Block). append x r) f.2 ∙ append-assoc f.0 (if_there p f.1 stop) r in
        let body = own (Follows no_subs t) below [] f.1 f.4 in
        let before = flat_adds f.0 (if_there p f.1 r) (f.3).0 (f.3).1 in
        let op = some_light p f.1 r (maybe_type t) n way is top
        (maybe_there z sizes t below p f.1 t0 is (top_there (maybe_type t) n top) body) (bare t below [] f.1 body) in
        subst (λ (x : Block). least_of x ≤ least_of r + z.weight (maybe_type t)) (sym e) (omega (arith, before, op))

    fields_light : (ts : Tys) (i : ℕ) (all : Tys) (below : ℕ) (p : List ℕ) (b r : Block) (n : ℕ) → on_way z p t0 ≡ true
        → ty_at p t0 ≡ Some (group_type all) → AreFrom i all ts → fields_top z ts ≡ Some n → FieldsFollow no_subs ts i below p b
        → least_of (append b r) ≤ least_of r + fields_weight z ts
    fields_light no_fields i all below p b r n way is from top f =
        subst (λ (x : Block). least_of (append x r) ≤ least_of r + 0) (sym f) (omega arith)
    fields_light (field t ts) i all below p b r n way is from top f =
        let tops = split_tops (z.top t) (fields_top z ts) n top in
        let e : append b r ≡ append f.0 (append f.1 r) = ap (λ (x : Block). append x r) f.2 ∙ append-assoc f.0 f.1 r in
        let head = from-head i all t ts from in
        let on : on_way z (p ++ i ∷ []) t0 ≡ true =
        way-field z p i t0 (group_type all) t is head ∙ ap (λ (x : Bool). x || is_light (z.top t)) way in
        let first = weighs t below (p ++ i ∷ []) f.0 (append f.1 r) tops.0 on (ty-field p i t0 (group_type all) t is head) tops.2
        (own (Follows no_subs t) below (p ++ i ∷ []) f.0 f.3) in
        let rest = fields_light ts (suc i) all below p f.1 r tops.1 way is (from-next i all t ts from) tops.3 f.4 in
        subst (λ (x : Block). least_of x ≤ least_of r + fields_weight z (field t ts)) (sym e) (omega (arith, first, rest))

  pub light : (t : Ty) (below : ℕ) (p : List ℕ) (b r : Block) (n : ℕ) → on_way z p t0 ≡ true → ty_at p t0 ≡ Some t → z.top t ≡ Some n
      → Follows no_subs t below p b
      → least_of (append b r) ≤ least_of r + (n - 1)
  light t below p b r n way is top f = omega (arith, weighs t below p b r n way is top f, sizes.weight t n top)

  -- ---- code of what has no octets

  zero_chunk : (s : ℕ) (x : Hoisted)
      → weigh (both (chunk_steps s [] h v) (steps c h (settled (flat s) x).0 v)) (high (settled (flat s) x).1) ≤ greatest c h v x
  zero_chunk zero (b, p) =
      let q = weigh_quiet (chunk_steps 0 [] h v) (steps c h b v) (high (raised 0 p)) (quiet_chunk h v [] 0) in
      let l = weigh_less (steps c h b v) (high (raised 0 p)) (high p) (high_same p) in
      omega (arith, q, l)
  zero_chunk (suc s) x = omega arith

  zero_flat : (b r : Block) (n : ℕ) → follows.flat b ≡ Some n → n ≤ 0 → greatest_of (append b r) ≤ greatest_of r
  zero_flat stop r n e le = omega arith
  zero_flat (chunk s [] b) r n e le =
      let m = mapped (λ k. 0 + k) (follows.flat b) n e in
      let one = zero_chunk s (hoisted (roles z) t0 (append b r)) in
      let others = zero_flat b r m.0 m.1 (omega (arith, m.2, le)) in
      omega (arith, one, others)
  zero_flat (chunk s (q ∷ ps) b) r n e le =
      let m = mapped (λ k. length (q ∷ ps) + k) (follows.flat b) n e in
      absurd (omega (arith, m.2, le))
  zero_flat (align a b) r n e le = let m = mapped suc (follows.flat b) n e in absurd (omega (arith, m.2, le))
  zero_flat _ r n e le = absurd cc

  mutual
    pub hollow : (t : Ty) (below : ℕ) (p : List ℕ) (b r : Block) → is_hollow t ≡ true → Follows no_subs t below p b
        → greatest_of (append b r) ≤ greatest_of r
    hollow void_type below p b r e f = zero_flat b r f.0 f.1 f.2
    hollow (group_type ts) below p b r e f = fields_hollow ts 0 below p b r e f
    hollow _ below p b r e f = absurd cc

    fields_hollow : (ts : Tys) (i below : ℕ) (p : List ℕ) (b r : Block) → are_hollow ts ≡ true → FieldsFollow no_subs ts i below p b
        → greatest_of (append b r) ≤ greatest_of r
    fields_hollow no_fields i below p b r e f = subst (λ (x : Block). greatest_of (append x r) ≤ greatest_of r) (sym f) (omega arith)
    fields_hollow (field t ts) i below p b r e f =
        let both = and_parts (is_hollow t) (are_hollow ts) e in
        let same : append b r ≡ append f.0 (append f.1 r) = ap (λ (x : Block). append x r) f.2 ∙ append-assoc f.0 f.1 r in
        let first = hollow t below (p ++ i ∷ []) f.0 (append f.1 r) both.0 (own (Follows no_subs t) below (p ++ i ∷ []) f.0 f.3) in
        let rest = fields_hollow ts (suc i) below p f.1 r both.1 f.4 in
        subst (λ (x : Block). greatest_of x ≤ greatest_of r) (sym same) (omega (arith, first, rest))
