-- Hoisted code looks at the buffer at most once for each group of parts, by induction on the type.
use Rattle.std.proofs.Common.{◌≡◌, ℕ, suc, ◌+◌, ◌-◌, ◌*◌, ◌≤◌, ℤ, List, [], ◌∷◌, ◌++◌, length, Option, None, Some, refl, sym, ap, subst, ◌∙◌, arith, append_assoc, Bool, true, false, ◌||◌, if◌then◌else◌, MatchBool}
use Rattle.std.proofs.lemmas.List.{append-nil}
use Rattle.std.specs.Ordering.{int_eq}
use Rattle.mint.specs.declared.kind.Count.{Count}
use Rattle.mint.specs.declared.kind.Count.TheVariants.{Exactly, AtMost, Any}
use Rattle.mint.specs.Types.{Ty, void_type, scalar_type, array_type, group_type, items_type, choice_type, maybe_type, Tys, no_fields, field, Arms, no_other, others, arm_type}
use Rattle.mint.specs.Typed.{IsOf, AreOf, IsOfArm, Each}
use Rattle.mint.specs.Sound.{IsSound, AreSound, ArmsSound}
use Rattle.mint.specs.Values.{Val, group, items, arm, absent, present, Vals, no_more, val, arm_in}
use Rattle.wire_def.specs.declared.head.Head.{Head}
use Rattle.cast_stub.specs.Parts.{on_some, at, elements_in, IsThere}
use Rattle.cast_stub.specs.Block.{Block, stop, align, chunk, each, switch, if_there, Cases}
use Rattle.cast_stub.specs.Append.{append}
use Rattle.cast_stub.specs.Steps.{Steps, both, over, if_present, Calls, steps, case_steps, chunk_steps, align_steps}
use Rattle.cast_stub.specs.Follows as follows
use Rattle.cast_stub.specs.Follows.{IsFlat, IsCount, Going, Child, Follows, FieldsFollow, ArmsFollow}
use Rattle.cast_stub.specs.Subs.{no_subs}
use Rattle.cast_stub.specs.PartTypes.{ty_at, element_at, present_at, arms_at, present_type, arms_type}
use Rattle.cast_stub.proofs.Appending.{append-stop, append-assoc}
use Rattle.cast_stub.specs.Bare.{IsBare}
use Rattle.hoist.specs.Bound.{most, times, bound, cases_bound}
use Rattle.hoist.specs.Hoisted.{nothing, octets, row, Hoisted, closed, Plan, flat, apart, settled, Role, is_row, is_break, loop_plan, body_plan, each_plan, some_plan, switch_plan, kept, items_at, items_in_type, or_void, or_none, hoisted, cases_hoisted}
use Rattle.hoist.specs.Regions.{Sizes, AreSizes, Part, row_part, break_part, lone, is_light, light_or, with_breaks, broken, parts, fields_parts, arm_parts, groups, on_way, roles}
use Rattle.wire_def.specs.Hollow.{is_hollow}
use Rattle.hoist.proofs.Grouping.{load, loaded, apart_groups, total, broken_groups, load_lone, load_some, load_small}
use Rattle.hoist.proofs.Weighing.{spent, checks-append, weigh, weigh_quiet, weigh_less, low, high, least, greatest, greatest_least, closed_fits, loop_greatest, apart_greatest}
use Rattle.cast_stub.proofs.Followed.{own}
use Rattle.hoist.proofs.Quiet.{quiet, quiet_over, quiet_on, quiet_chunk, quiet_align, mapped, bare, flat_bare}
use Rattle.hoist.proofs.Ways.{AreFrom, from-first, from-next, from-head, ty-field, way-field, at-field, turn_there, row_turn_there}
use Rattle.hoist.proofs.Light.{flat_adds, light, hollow}
use Rattle.hoist.proofs.Standing.{either_way, light_top, light_is, light_parts, heavy_or, parts_are, low_high, ValuesFrom, values-first, values-next, values-head, IsRow, loop_row, heavy_role, row_settled}

module _ (z : Sizes) (sizes : AreSizes z) (c : Calls) (h : Head) where
  module _ (v : Val) (t0 : Ty) where
    abbrev L : Block → ℕ
    L b = least c h v (hoisted (roles z) t0 b)

    abbrev G : Block → ℕ
    G b = greatest c h v (hoisted (roles z) t0 b)

    least_greatest : (b : Block) → L b ≤ G b
    least_greatest b = weigh_less (steps c h (hoisted (roles z) t0 b).0 v) (low (hoisted (roles z) t0 b).1)
        (high (hoisted (roles z) t0 b).1) (low_high (hoisted (roles z) t0 b).1)

    greatest_more : (b : Block) → G b ≤ L b + 1
    greatest_more b = greatest_least c h v (hoisted (roles z) t0 b)

    -- a small part
    light_fits : (t : Ty) → IsSound t → (below : ℕ) (p : List ℕ) (b r : Block) (w : Val) (ps : List Part) → is_light (z.top t) ≡ true
        → ty_at p t0 ≡ Some t → on_way z p t0 ≡ is_light (z.top t) → Follows no_subs t below p b → G r ≤ load ps
        → G (append b r) ≤ load (parts z t w ++ ps)
    light_fits t sound below p b r w ps e is way f le =
        let n = light_top (z.top t) e in
        let are = parts_are z t w in
        let same : lone n.0 ≡ parts z t w = sym (are.1 ∙ light_parts (z.top t) are.0 n.0 e n.1) in
        subst (λ (x : List Part). G (append b r) ≤ load (x ++ ps)) same (by (is_hollow t) refl n.0 n.1 n.2) where
          by : (q : Bool) → is_hollow t ≡ q → (n : ℕ) → z.top t ≡ Some n → n ≤ 8192 → G (append b r) ≤ load (lone n ++ ps)
          by true e' n top fits = let a = hollow z sizes c h v t0 t below p b r e' f in let l = load_lone n ps in omega (arith, a, l, le)
          by false e' n top fits =
              let solid = sizes.solid t n sound e' top in
              let a = light z sizes c h v t0 t below p b r n (way ∙ e) is top f in
              let g = greatest_more (append b r) in
              let k = least_greatest r in
              let l = load_small n ps fits in
              omega (arith, solid, a, g, k, l, le)

    -- chunks and aligns before a row
    keeps : (own : Steps) (n : ℕ) (x : Hoisted) → spent own ≡ 0 → IsRow x.1
        → (weigh (both own (steps c h (settled (flat n) x).0 v)) (high (settled (flat n) x).1) ≤ greatest c h v x)
        × IsRow (settled (flat n) x).1
    keeps own n (b, row p u m) q is = (weigh_quiet own (steps c h b v) 8192 q, tt)
    keeps own n (b, nothing) q is = absurd is
    keeps own n (b, octets m j) q is = absurd is

    flat_keeps : (b r : Block) (n : ℕ) → follows.flat b ≡ Some n → IsRow (hoisted (roles z) t0 r).1
        → (G (append b r) ≤ G r) × IsRow (hoisted (roles z) t0 (append b r)).1
    flat_keeps stop r n e is = (omega arith, is)
    flat_keeps (chunk s ps b) r n e is =
        let m = mapped (λ k. length ps + k) (follows.flat b) n e in
        let others = flat_keeps b r m.0 m.1 is in
        let one = keeps (chunk_steps s ps h v) s (hoisted (roles z) t0 (append b r)) (quiet_chunk h v ps s) others.1 in
        (omega (arith, one.0, others.0), one.1)
    flat_keeps (align a b) r n e is =
        let m = mapped suc (follows.flat b) n e in
        let others = flat_keeps b r m.0 m.1 is in
        let one = keeps (align_steps a) (a - 1) (hoisted (roles z) t0 (append b r)) (quiet_align a) others.1 in
        (omega (arith, one.0, others.0), one.1)
    flat_keeps _ r n e is = absurd cc

    count_keeps : (k : Count) (b r : Block) → IsCount k b → IsRow (hoisted (roles z) t0 r).1 → G (append b r) ≤ G r
    count_keeps (Exactly n) b r e is = subst (λ (x : Block). G (append x r) ≤ G r) (sym e) (omega arith)
    count_keeps (AtMost n) b r e is = (flat_keeps b r e.0 e.1 is).0
    count_keeps Any b r e is = (flat_keeps b r e.0 e.1 is).0

    -- chunks and aligns before bodies that ensure by themselves
    pub flat_fits : (b r : Block) (k n : ℕ) (ps : List Part) → follows.flat b ≡ Some n → 1 ≤ k → G r ≤ load ps
        → G (append b r) ≤ load (lone k ++ ps)
    flat_fits b r k n ps e one le =
        let a = flat_adds z sizes c h v t0 b r n e in
        let g = greatest_more (append b r) in
        let l = least_greatest r in
        let s = load_some k ps one in
        omega (arith, a, g, l, s, le)

    count_fits : (k : Count) (t : Ty) (b r : Block) (ps : List Part) → IsCount k b → G r ≤ load ps
        → G (append b r) ≤ load (lone (z.front (items_type k t)) ++ ps)
    count_fits (Exactly n) t b r ps e le = subst (λ (x : Block). G (append x r) ≤ load (lone (z.front (items_type (Exactly n) t)) ++ ps))
        (sym e) (let l = load_lone (z.front (items_type (Exactly n) t)) ps in omega (arith, l, le))
    count_fits (AtMost n) t b r ps e le = flat_fits b r (z.front (items_type (AtMost n) t)) e.0 ps e.1 (sizes.count (AtMost n) t tt) le
    count_fits Any t b r ps e le = flat_fits b r (z.front (items_type Any t)) e.0 ps e.1 (sizes.count Any t tt) le

    -- ---- an operation whose list is a row

    op_row : (p : List ℕ) (b r : Block) (t : Ty) (g : ℕ) → roles z t0 p ≡ is_row → IsThere (on_some (element_at p t0) (λ e. bound e.0 b))
        → IsBare b → L r ≤ 8192 * g
        → (G (each p b r) ≤ 8192 * suc g) × IsRow (hoisted (roles z) t0 (each p b r)).1
    op_row p b r t g role there bare le =
        let s = loop_row (roles z t0 p) (on_some (element_at p t0) (λ e. times (most e.1) (bound e.0 b)))
        (on_some (element_at p t0) (λ e. bound e.0 b)) p role there in
        let b' = closed (hoisted (roles z) (or_void (items_at p t0)) b) in
        let x = hoisted (roles z) t0 r in
        let q : spent (on_some (on_some (at p v) elements_in) (over (steps c h b))) ≡ 0 = quiet_on (on_some (at p v) elements_in)
        (over (steps c h b)) (λ vs. quiet_over (steps c h b) vs (λ (w : Val). quiet c h b w bare)) in (
          subst
              (λ (y : Plan). weigh
              (both (on_some (on_some (at p v) elements_in) (over (steps c h (kept y b b')))) (steps c h (settled y x).0 v))
              (high (settled y x).1)
              ≤ 8192 * suc g) (sym s.1)
              (loop_greatest c h v (on_some (on_some (at p v) elements_in) (over (steps c h b))) q p s.0 x g le),
          subst (λ (y : Plan). IsRow (settled y x).1) (sym s.1) (row_settled p s.0 x),
        )

    -- ---- an operation whose bodies ensure by themselves

    op_apart : {A : Type 0} (O : A → Steps) (plan : Plan) (b b' : A) (n g : ℕ) (x : Hoisted) → plan ≡ apart → spent (O b') ≤ n
        → greatest c h v x ≤ 8192 * g
        → weigh (both (O (kept plan b b')) (steps c h (settled plan x).0 v)) (high (settled plan x).1) ≤ 8192 * (n + g)
    op_apart O plan b b' n g x e s le =
        subst (λ (y : Plan). weigh (both (O (kept y b b')) (steps c h (settled y x).0 v)) (high (settled y x).1) ≤ 8192 * (n + g)) (sym e)
        (apart_greatest c h v (O b') n g x s le)

  -- a block by itself
  closes : (t : Ty) (b : Block) (v : Val) → greatest c h v (hoisted (roles z) t (append b stop)) ≤ load (parts z t v ++ [])
      → spent (steps c h (closed (hoisted (roles z) t b)) v) ≤ groups None (parts z t v)
  closes t b v le =
      let same : greatest c h v (hoisted (roles z) t (append b stop)) ≡ greatest c h v (hoisted (roles z) t b) =
      ap (λ (x : Block). greatest c h v (hoisted (roles z) t x)) (append-stop b) in
      let all : load (parts z t v ++ []) ≡ load (parts z t v) = ap load (append-nil (parts z t v)) in
      let l = loaded (parts z t v) in
      closed_fits c h v (hoisted (roles z) t b) (groups None (parts z t v)) (omega (arith, same, all, l, le))

  spent_over : (f : Val → Steps) (g : Val → List Part) (t : Ty) (vs : Vals) → Each (IsOf t) vs
      → ((w : Val) → IsOf t w → spent (f w) ≤ groups None (g w))
      → spent (over f vs) ≤ total g vs
  spent_over f g t no_more typed go = omega arith
  spent_over f g t (val w vs) typed go =
      let one = go w typed.0 in
      let others = spent_over f g t vs typed.1 go in
      let sum = spent_both (f w) (over f vs) in
      omega (arith, one, others, sum) where
        spent_both : (x y : Steps) → spent (both x y) ≤ spent x + spent y
        spent_both None y = omega arith
        spent_both (Some x) None = omega arith
        spent_both (Some x) (Some y) = omega (arith, checks-append x y)

  -- ---- rows and lists of elements that are alike

  row_fits : (v : Val) (t0 t : Ty) (p : List ℕ) (b before r : Block) (n : ℕ) (front : ℕ) (ps : List Part)
      → (G v t0 (append before (each p b r)) ≤ G v t0 (each p b r)) → roles z t0 p ≡ is_row
      → IsThere (on_some (element_at p t0) (λ e. bound e.0 b)) → IsBare b → L v t0 r ≤ load ps
      → G v t0 (append before (each p b r)) ≤ load ((lone front ++ row_part ∷ []) ++ ps)
  row_fits v t0 t p b before r n front ps kept_front role there bare' le =
      let l = loaded ps in
      let op = op_row v t0 p b r t (groups None ps) role there bare' (omega (arith, l, le)) in
      let f = load_lone front (row_part ∷ ps) in
      let same : load ((lone front ++ row_part ∷ []) ++ ps) ≡ load (lone front ++ row_part ∷ ps) =
      ap load (append_assoc (lone front) (row_part ∷ []) ps) in
      omega (arith, op.0, f, same, kept_front)

  -- ---- the bodies of an arm

  arm_fits : (q : Bool) (A B : Type 0) (x y : Steps) (ps qs : List Part) → MatchBool q A B → (A → spent x ≤ groups None ps)
      → (B → spent y ≤ groups None qs)
      → spent (if q then x else y) ≤ groups None (if q then ps else qs)
  arm_fits true A B x y ps qs o f g = f o
  arm_fits false A B x y ps qs o f g = g o

  -- what is between breaks
  between : (front : ℕ) (ps qs : List Part)
      → load ((lone front ++ break_part ∷ (ps ++ break_part ∷ [])) ++ qs) ≡ load (lone front ++ break_part ∷ (ps ++ break_part ∷ qs))
  between front ps qs =
      ap load (append_assoc (lone front) (break_part ∷ (ps ++ break_part ∷ [])) qs)
      ∙ ap (λ (x : List Part). load (lone front ++ break_part ∷ x)) (append_assoc ps (break_part ∷ []) qs)

  -- an operation with bodies by themselves, after chunks and aligns
  apart_fits : (v : Val) (t0 : Ty) (a d r : Block) (front n g : ℕ) (ps qs : List Part) → follows.flat a ≡ Some n → 1 ≤ front
      → G v t0 d ≤ 8192 * (g + groups None qs) → g ≡ groups None ps
      → G v t0 (append a d) ≤ load ((lone front ++ break_part ∷ (ps ++ break_part ∷ [])) ++ qs)
  apart_fits v t0 a d r front n g ps qs e one le is =
      let sum = apart_groups None ps qs in
      let f = flat_fits v t0 a d front n (break_part ∷ (ps ++ break_part ∷ qs)) e one (omega (arith, le, is, sum)) in
      omega (arith, f, between front ps qs)

  broken_load : (front : ℕ) (f : Val → List Part) (vs : Vals) (ps : List Part)
      → load ((lone front ++ broken f vs) ++ ps) ≡ load (lone front ++ break_part ∷ (with_breaks f vs ++ ps))
  broken_load front f vs ps = ap load (append_assoc (lone front) (broken f vs) ps)

  -- a value that may be there and is no small part: its body by itself, within the parts of what is there
  maybe_apart : (t : Ty) (w : Val) (inside : List Part)
      → parts z (maybe_type t) w
      ≡ light_or (z.top (maybe_type t)) (lone (z.front (maybe_type t)) ++ break_part ∷ (inside ++ break_part ∷ []))
      → (below : ℕ) (p : List ℕ) (b r : Block) (t0 : Ty) (v : Val) (ps : List Part) → ty_at p t0 ≡ Some (maybe_type t) → at p v ≡ Some w
      → on_way z p t0 ≡ is_light (z.top (maybe_type t)) → (f : Follows no_subs (maybe_type t) below p b) → G v t0 r ≤ load ps
      → is_light (z.top (maybe_type t)) ≡ false
      → spent (if_present (steps c h (closed (hoisted (roles z) t f.1))) w) ≤ groups None inside
      → G v t0 (append b r) ≤ load (parts z (maybe_type t) w ++ ps)
  maybe_apart t w inside parted below p b r t0 v ps is there way f le e turn =
      let same : append b r ≡ append f.0 (if_there p f.1 r) =
      ap (λ (x : Block). append x r) f.2 ∙ append-assoc f.0 (if_there p f.1 stop) r in
      let role : roles z t0 p ≡ is_break = heavy_role z p t0 (maybe_type t) (way ∙ e) is in
      let front = z.front (maybe_type t) in
      let l = loaded ps in
      let plan : some_plan (roles z) t0 p f.1 ≡ apart =
      ap (λ (x : Role). body_plan x (on_some (present_at p t0) (λ y. bound y f.1))) role in
      let el : present_at p t0 ≡ Some t = ap (λ (x : Option Ty). on_some x present_type) is in
      let turn' : spent (on_some (at p v) (if_present (steps c h (closed (hoisted (roles z) (or_void (present_at p t0)) f.1)))))
      ≤ groups None inside =
      subst
      (λ (x : Option Ty). spent (on_some (at p v) (if_present (steps c h (closed (hoisted (roles z) (or_void x) f.1)))))
      ≤ groups None inside) (sym el)
      (subst (λ (x : Option Val). spent (on_some x (if_present (steps c h (closed (hoisted (roles z) t f.1))))) ≤ groups None inside)
      (sym there) turn) in
      let op = op_apart v t0 (λ (d : Block). on_some (at p v) (if_present (steps c h d))) (some_plan (roles z) t0 p f.1) f.1
      (closed (hoisted (roles z) (or_void (present_at p t0)) f.1)) (groups None inside) (groups None ps) (hoisted (roles z) t0 r) plan
      turn' (omega (arith, le, l)) in
      let all = apart_fits v t0 f.0 (if_there p f.1 r) r front (f.3).0 (groups None inside) inside ps (f.3).1 (sizes.flag t) op refl in
      subst (λ (x : Block). G v t0 x ≤ load (parts z (maybe_type t) w ++ ps)) (sym same)
      (subst (λ (x : List Part). G v t0 (append f.0 (if_there p f.1 r)) ≤ load (x ++ ps))
      (sym (parted ∙ heavy_or (z.top (maybe_type t)) (lone front ++ break_part ∷ (inside ++ break_part ∷ [])) e)) all)

  mutual
    pub heavy : (t : Ty) (w : Val) → IsSound t → IsOf t w → (below : ℕ) (p : List ℕ) (b r : Block) (t0 : Ty) (v : Val) (ps : List Part)
        → ty_at p t0 ≡ Some t → at p v ≡ Some w → on_way z p t0 ≡ is_light (z.top t) → Follows no_subs t below p b → G v t0 r ≤ load ps
        → G v t0 (append b r) ≤ load (parts z t w ++ ps)
    heavy void_type w sound typed below p b r t0 v ps is there way f le =
        light_fits v t0 void_type sound below p b r w ps (light_is 0 (z.top void_type) sizes.nothing (omega arith)) is way f le
    heavy (scalar_type s) w sound typed below p b r t0 v ps is there way f le =
        let n = sizes.scalar s in
        light_fits v t0 (scalar_type s) sound below p b r w ps (light_is n.0 (z.top (scalar_type s)) n.1 n.3) is way f le
    heavy (array_type a) w sound typed below p b r t0 v ps is there way f le =
        either_way (is_light (z.top (array_type a))) (G v t0 (append b r) ≤ load (parts z (array_type a) w ++ ps))
        (λ e. light_fits v t0 (array_type a) sound below p b r w ps e is way f le)
        (λ e.
        let same : append b r ≡ append f.0 (each p f.1 (append f.2 r)) =
        ap (λ (x : Block). append x r) f.6 ∙ append-assoc f.0 (each p f.1 f.2) r in
        let role = heavy_role z p t0 (array_type a) (way ∙ e) is in
        let there' = row_turn_there z sizes a p f.1 f.4 t0 is f.8 in
        let bare' = flat_bare f.1 f.4 f.8 in
        let after = flat_adds z sizes c h v t0 f.2 r f.5 f.9 in
        let least' = least_greatest v t0 r in
        let l = loaded ps in
        let op = op_row v t0 p f.1 (append f.2 r) (array_type a) (groups None ps) role there' bare'
        (omega (arith, after, least', le, l)) in
        let kept' = flat_keeps v t0 f.0 (each p f.1 (append f.2 r)) f.3 f.7 op.1 in
        let front = row_fits v t0 (array_type a) p f.1 f.0 (append f.2 r) 0 (z.front (array_type a)) ps kept'.0 role there' bare'
        (omega (arith, after, least', le)) in
        subst (λ (x : Block). G v t0 x ≤ load (parts z (array_type a) w ++ ps)) (sym same)
        (subst (λ (x : List Part). G v t0 (append f.0 (each p f.1 (append f.2 r))) ≤ load (x ++ ps))
        (sym (heavy_or (z.top (array_type a)) (lone (z.front (array_type a)) ++ row_part ∷ []) e)) front))
    heavy (group_type ts) (group vs) sound typed below p b r t0 v ps is there way f le =
        either_way (is_light (z.top (group_type ts))) (G v t0 (append b r) ≤ load (parts z (group_type ts) (group vs) ++ ps))
        (λ e. light_fits v t0 (group_type ts) sound below p b r (group vs) ps e is way f le)
        (λ e. subst (λ (x : List Part). G v t0 (append b r) ≤ load (x ++ ps))
        (sym (heavy_or (z.top (group_type ts)) (fields_parts z ts vs) e))
        (fields_heavy ts vs sound.1 typed 0 ts vs below p b r t0 v ps is there (from-first ts) (values-first vs) (way ∙ e) f le))
    heavy (group_type ts) _ sound typed below p b r t0 v ps is there way f le = absurd typed
    heavy (items_type k t) (items vs) sound typed below p b r t0 v ps is there way f le =
        either_way (is_light (z.top (items_type k t))) (G v t0 (append b r) ≤ load (parts z (items_type k t) (items vs) ++ ps))
        (λ e. light_fits v t0 (items_type k t) sound below p b r (items vs) ps e is way f le)
        (λ e.
        let same : append b r ≡ append f.0 (each p f.1 r) = ap (λ (x : Block). append x r) f.2 ∙ append-assoc f.0 (each p f.1 stop) r in
        let body = own (Follows no_subs t) below [] f.1 f.4 in
        let role = heavy_role z p t0 (items_type k t) (way ∙ e) is in
        let front = z.front (items_type k t) in
        let least' = least_greatest v t0 r in
        let l = loaded ps in
        either_way (z.fixed t) (G v t0 (append b r) ≤ load (parts z (items_type k t) (items vs) ++ ps))
        (λ e'.
        let are : lone front ++ row_part ∷ [] ≡ parts z (items_type k t) (items vs) =
        ap (λ (q : Bool). lone front ++ (if q then row_part ∷ [] else broken (parts z t) vs)) (sym e')
        ∙ sym (heavy_or (z.top (items_type k t)) (lone front ++ (if z.fixed t then row_part ∷ [] else broken (parts z t) vs)) e) in
        let role' : roles z t0 p ≡ is_row = role ∙ ap (λ (q : Bool). if q then is_row else is_break) e' in
        let there' = turn_there z sizes k t below p f.1 t0 is (sizes.fixed t e') body in
        let bare' = bare t below [] f.1 body in
        let op = op_row v t0 p f.1 r (items_type k t) (groups None ps) role' there' bare' (omega (arith, least', le, l)) in
        let kept' = count_keeps v t0 k f.0 (each p f.1 r) f.3 op.1 in
        let all = row_fits v t0 (items_type k t) p f.1 f.0 r 0 front ps kept' role' there' bare' (omega (arith, least', le)) in
        subst (λ (x : Block). G v t0 x ≤ load (parts z (items_type k t) (items vs) ++ ps)) (sym same)
        (subst (λ (x : List Part). G v t0 (append f.0 (each p f.1 r)) ≤ load (x ++ ps)) are all))
        (λ e'.
        let are : lone front ++ broken (parts z t) vs ≡ parts z (items_type k t) (items vs) =
        ap (λ (q : Bool). lone front ++ (if q then row_part ∷ [] else broken (parts z t) vs)) (sym e')
        ∙ sym (heavy_or (z.top (items_type k t)) (lone front ++ (if z.fixed t then row_part ∷ [] else broken (parts z t) vs)) e) in
        let role' : roles z t0 p ≡ is_break = role ∙ ap (λ (q : Bool). if q then is_row else is_break) e' in
        let plan : each_plan (roles z) t0 p f.1 ≡ apart = ap (λ (x : Role). loop_plan x
        (on_some (element_at p t0) (λ y. times (most y.1) (bound y.0 f.1))) (on_some (element_at p t0) (λ y. bound y.0 f.1)) p) role' in
        let turn : spent (over (steps c h (closed (hoisted (roles z) t f.1))) vs) ≤ total (parts z t) vs =
        spent_over (steps c h (closed (hoisted (roles z) t f.1))) (parts z t) t vs typed.1
        (λ (w : Val) o. closes t f.1 w (heavy t w sound.1 o below [] f.1 stop t w [] refl refl refl body (omega arith))) in
        let el : items_at p t0 ≡ Some t = ap (λ (x : Option Ty). on_some x items_in_type) is in
        let turn' : spent
        (on_some (on_some (at p v) elements_in) (over (steps c h (closed (hoisted (roles z) (or_void (items_at p t0)) f.1)))))
        ≤ total (parts z t) vs =
        subst
        (λ (x : Option Ty). spent (on_some (on_some (at p v) elements_in) (over (steps c h (closed (hoisted (roles z) (or_void x) f.1)))))
        ≤ total (parts z t) vs) (sym el)
        (subst (λ (x : Option Val). spent (on_some (on_some x elements_in) (over (steps c h (closed (hoisted (roles z) t f.1)))))
        ≤ total (parts z t) vs) (sym there) turn) in
        let op = op_apart v t0 (λ (d : Block). on_some (on_some (at p v) elements_in) (over (steps c h d))) (each_plan (roles z) t0 p f.1)
        f.1 (closed (hoisted (roles z) (or_void (items_at p t0)) f.1)) (total (parts z t) vs) (groups None ps) (hoisted (roles z) t0 r)
        plan turn' (omega (arith, le, l)) in
        let sum = broken_groups (parts z t) vs ps in
        let all = count_fits v t0 k t f.0 (each p f.1 r) (break_part ∷ (with_breaks (parts z t) vs ++ ps)) f.3 (omega (arith, op, sum)) in
        let same' = broken_load front (parts z t) vs ps in
        subst (λ (x : Block). G v t0 x ≤ load (parts z (items_type k t) (items vs) ++ ps)) (sym same)
        (subst (λ (x : List Part). G v t0 (append f.0 (each p f.1 r)) ≤ load (x ++ ps)) are (omega (arith, all, same')))))
    heavy (items_type k t) _ sound typed below p b r t0 v ps is there way f le = absurd typed
    heavy (choice_type s arms) (arm n w) sound typed below p b r t0 v ps is there way f le =
        either_way (is_light (z.top (choice_type s arms))) (G v t0 (append b r) ≤ load (parts z (choice_type s arms) (arm n w) ++ ps))
        (λ e. light_fits v t0 (choice_type s arms) sound below p b r (arm n w) ps e is way f le)
        (λ e.
        let same : append b r ≡ append f.0 (switch p f.1 r) = ap (λ (x : Block). append x r) f.2 ∙ append-assoc f.0 (switch p f.1 stop) r in
        let role : roles z t0 p ≡ is_break = heavy_role z p t0 (choice_type s arms) (way ∙ e) is in
        let front = z.front (choice_type s arms) in
        let l = loaded ps in
        let plan : switch_plan (roles z) t0 p f.1 ≡ apart =
        ap (λ (x : Role). body_plan x (on_some (arms_at p t0) (λ y. cases_bound y f.1))) role in
        let turn = arms_heavy arms n w sound.1 typed.1 below f.1 f.4 in
        let el : arms_at p t0 ≡ Some arms = ap (λ (x : Option Ty). on_some x arms_type) is in
        let turn' : spent
        (on_some (on_some (at p v) arm_in) (λ a. case_steps c h (cases_hoisted (roles z) (or_none (arms_at p t0)) f.1) a.0 a.1))
        ≤ groups None (arm_parts z arms n w) =
        subst
        (λ (x : Option Arms). spent
        (on_some (on_some (at p v) arm_in) (λ a. case_steps c h (cases_hoisted (roles z) (or_none x) f.1) a.0 a.1))
        ≤ groups None (arm_parts z arms n w)) (sym el)
        (subst (λ (x : Option Val). spent (on_some (on_some x arm_in) (λ a. case_steps c h (cases_hoisted (roles z) arms f.1) a.0 a.1))
        ≤ groups None (arm_parts z arms n w)) (sym there) turn) in
        let op = op_apart v t0 (λ (d : Cases). on_some (on_some (at p v) arm_in) (λ a. case_steps c h d a.0 a.1))
        (switch_plan (roles z) t0 p f.1) f.1 (cases_hoisted (roles z) (or_none (arms_at p t0)) f.1) (groups None (arm_parts z arms n w))
        (groups None ps) (hoisted (roles z) t0 r) plan turn' (omega (arith, le, l)) in
        let all = apart_fits v t0 f.0 (switch p f.1 r) r front (f.3).0 (groups None (arm_parts z arms n w)) (arm_parts z arms n w) ps
        (f.3).1 (sizes.tag s arms) op refl in
        subst (λ (x : Block). G v t0 x ≤ load (parts z (choice_type s arms) (arm n w) ++ ps)) (sym same)
        (subst (λ (x : List Part). G v t0 (append f.0 (switch p f.1 r)) ≤ load (x ++ ps))
        (sym (heavy_or (z.top (choice_type s arms)) (lone front ++ break_part ∷ (arm_parts z arms n w ++ break_part ∷ [])) e)) all))
    heavy (choice_type s arms) _ sound typed below p b r t0 v ps is there way f le = absurd typed
    heavy (maybe_type t) absent sound typed below p b r t0 v ps is there way f le =
        either_way (is_light (z.top (maybe_type t))) (G v t0 (append b r) ≤ load (parts z (maybe_type t) absent ++ ps))
        (λ e. light_fits v t0 (maybe_type t) sound below p b r absent ps e is way f le)
        (λ e. maybe_apart t absent [] refl below p b r t0 v ps is there way f le e (omega arith))
    heavy (maybe_type t) (present w) sound typed below p b r t0 v ps is there way f le =
        either_way (is_light (z.top (maybe_type t))) (G v t0 (append b r) ≤ load (parts z (maybe_type t) (present w) ++ ps))
        (λ e. light_fits v t0 (maybe_type t) sound below p b r (present w) ps e is way f le)
        (λ e. maybe_apart t (present w) (parts z t w) refl below p b r t0 v ps is there way f le e
        (closes t f.1 w
        (heavy t w sound.1 typed below [] f.1 stop t w [] refl refl refl (own (Follows no_subs t) below [] f.1 f.4) (omega arith))))
    heavy (maybe_type t) _ sound typed below p b r t0 v ps is there way f le = absurd typed

    fields_heavy : (ts : Tys) (vs : Vals) → AreSound ts → AreOf ts vs
        → (i : ℕ) (all : Tys) (whole : Vals) (below : ℕ) (p : List ℕ) (b r : Block) (t0 : Ty) (v : Val) (ps : List Part)
        → ty_at p t0 ≡ Some (group_type all) → at p v ≡ Some (group whole) → AreFrom i all ts → ValuesFrom i whole vs
        → on_way z p t0 ≡ false → FieldsFollow no_subs ts i below p b → G v t0 r ≤ load ps
        → G v t0 (append b r) ≤ load (fields_parts z ts vs ++ ps)
    fields_heavy no_fields no_more sound typed i all whole below p b r t0 v ps is there from values way f le =
        subst (λ (x : Block). G v t0 (append x r) ≤ load ps) (sym f) le
    fields_heavy no_fields (val w vs) sound typed i all whole below p b r t0 v ps is there from values way f le = absurd typed
    fields_heavy (field t ts) no_more sound typed i all whole below p b r t0 v ps is there from values way f le = absurd typed
    fields_heavy (field t ts) (val w vs) sound typed i all whole below p b r t0 v ps is there from values way f le =
        let same : append b r ≡ append f.0 (append f.1 r) = ap (λ (x : Block). append x r) f.2 ∙ append-assoc f.0 f.1 r in
        let rest = fields_heavy ts vs sound.1 typed.1 (suc i) all whole below p f.1 r t0 v ps is there (from-next i all t ts from)
        (values-next i whole w vs values) way f.4 le in
        let head = from-head i all t ts from in
        let way' : on_way z (p ++ i ∷ []) t0 ≡ is_light (z.top t) =
        way-field z p i t0 (group_type all) t is head ∙ ap (λ (x : Bool). x || is_light (z.top t)) way in
        let first = heavy t w sound.0 typed.0 below (p ++ i ∷ []) f.0 (append f.1 r) t0 v (fields_parts z ts vs ++ ps)
        (ty-field p i t0 (group_type all) t is head) (at-field p i v whole w there (values-head i whole w vs values)) way'
        (own (Follows no_subs t) below (p ++ i ∷ []) f.0 f.3) rest in
        let joined : parts z t w ++ (fields_parts z ts vs ++ ps) ≡ (parts z t w ++ fields_parts z ts vs) ++ ps =
        sym (append_assoc (parts z t w) (fields_parts z ts vs) ps) in
        subst (λ (x : Block). G v t0 x ≤ load ((parts z t w ++ fields_parts z ts vs) ++ ps)) (sym same)
        (subst (λ (x : List Part). G v t0 (append f.0 (append f.1 r)) ≤ load x) joined first)

    arms_heavy : (arms : Arms) (n : ℤ) (w : Val) → ArmsSound arms → IsOfArm arms n w → (below : ℕ) (cs : Cases)
        → ArmsFollow no_subs arms below cs
        → spent (case_steps c h (cases_hoisted (roles z) arms cs) n w) ≤ groups None (arm_parts z arms n w)
    arms_heavy no_other n w sound typed below cs f = absurd typed
    arms_heavy (others t) n w sound typed below cs f =
        subst (λ (x : Cases). spent (case_steps c h (cases_hoisted (roles z) (others t) x) n w) ≤ groups None (parts z t w)) (sym f.1)
        (closes t f.0 w
        (heavy t w sound typed below [] f.0 stop t w [] refl refl refl (own (Follows no_subs t) below [] f.0 f.2) (omega arith)))
    arms_heavy (arm_type m t arms) n w sound typed below cs f =
        subst (λ (x : Cases). spent (case_steps c h (cases_hoisted (roles z) (arm_type m t arms) x) n w)
        ≤ groups None (arm_parts z (arm_type m t arms) n w)) (sym f.2)
        (arm_fits (int_eq n m) (IsOf t w) (IsOfArm arms n w) (steps c h (closed (hoisted (roles z) t f.0)) w)
        (case_steps c h (cases_hoisted (roles z) arms f.1) n w) (parts z t w) (arm_parts z arms n w) typed
        (λ o. closes t f.0 w
        (heavy t w sound.0 o below [] f.0 stop t w [] refl refl refl (own (Follows no_subs t) below [] f.0 f.3) (omega arith)))
        (λ o. arms_heavy arms n w sound.1 o below f.1 f.4))
