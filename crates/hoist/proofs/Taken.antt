-- Code that goes through a type is taken, by induction on the type.
use Rattle.std.proofs.Common.{◌≡◌, ℕ, suc, ◌+◌, List, [], ◌∷◌, ◌++◌, length, Option, None, Some, refl, sym, ap, subst, ◌∙◌, Bool, true, false, ◌||◌, if◌then◌else◌}
use Rattle.mint.specs.declared.kind.Count.{Count}
use Rattle.mint.specs.declared.kind.Count.TheVariants.{Exactly, AtMost, Any}
use Rattle.mint.specs.Types.{Ty, void_type, scalar_type, array_type, group_type, items_type, choice_type, maybe_type, Tys, no_fields, field, Arms, no_other, others, arm_type}
use Rattle.cast_stub.specs.Parts.{on_some, IsThere}
use Rattle.cast_stub.specs.Block.{Block, stop, align, chunk, each, switch, if_there, patch, Cases}
use Rattle.cast_stub.specs.Append.{append}
use Rattle.cast_stub.specs.Follows as follows
use Rattle.cast_stub.specs.Follows.{IsCount, Follows, FieldsFollow, ArmsFollow}
use Rattle.cast_stub.specs.Subs.{no_subs}
use Rattle.cast_stub.specs.PartTypes.{ty_at, element_at, present_at, arms_at, present_type, arms_type}
use Rattle.cast_stub.proofs.Appending.{append-stop, append-assoc}
use Rattle.hoist.specs.Bound.{bound}
use Rattle.cast_stub.specs.Framed.{lead_length, IsTail}
use Rattle.hoist.specs.Hoisted.{Plan, flat, small, loop, apart, Role, is_small, is_row, is_break, IfRow, turn_bound, each_plan, some_plan, switch_plan, items_in_type, items_at, InType, WhereApart, IsTaken, CasesTaken}
use Rattle.hoist.specs.Laws.{FramedIsTaken}
use Rattle.hoist.specs.Regions.{Sizes, AreSizes, on_way, roles, role_at, weight_at, is_light, fields_top}
use Rattle.hoist.proofs.Standing.{loop_row, heavy_role, either_way}
use Rattle.hoist.proofs.Light.{loop_small, small_role}
use Rattle.cast_stub.proofs.Followed.{own}
use Rattle.hoist.proofs.Quiet.{mapped}
use Rattle.hoist.proofs.Ways.{AreFrom, from-first, from-next, from-head, ty-field, way-field, some_of, loop_bound, array_there, row_turn_there, turn_there}
use Rattle.hoist.proofs.Sparse.{parts_there}

not_apart : (plan other : Plan) (T : Type 0) → plan ≡ other → WhereApart other T → WhereApart plan T
not_apart plan other T e h = subst (λ (y : Plan). WhereApart y T) (sym e) h

any_plan : (plan : Plan) (T : Type 0) → T → WhereApart plan T
any_plan (flat n) T h = tt
any_plan (small n k) T h = tt
any_plan (loop p u) T h = tt
any_plan apart T h = h

any_row : (role : Role) (T : Type 0) → T → IfRow role T
any_row is_row T h = h
any_row (is_small k) T h = tt
any_row is_break T h = tt

-- a role that is that of a row only where a test holds
row_where : (way test : Bool) (k : ℕ) (T : Type 0) → (test ≡ true → T)
    → IfRow (if way then is_small k else if test then is_row else is_break) T
row_where true test k T go = tt
row_where false true k T go = go refl
row_where false false k T go = tt

in_type : {A : Type 0} (x : Option A) (P : A → Type 0) (a : A) → x ≡ Some a → P a → InType x P
in_type x P a e h = subst (λ y. InType y P) (sym e) h

light_there : (x : Option ℕ) → is_light x ≡ true → IsThere x
light_there None e = absurd cc
light_there (Some n) e = tt

one_of : (a b : Bool) (G : Type 0) → (a || b) ≡ true → (a ≡ true → G) → (b ≡ true → G) → G
one_of true b G e f g = f refl
one_of false b G e f g = g e

module _ (z : Sizes) (sizes : AreSizes z) where
  -- elements of one length
  items_turn : (t0 : Ty) (p : List ℕ) (k : Count) (t : Ty) → ty_at p t0 ≡ Some (items_type k t) → (T : Type 0) → (z.fixed t ≡ true → T)
      → IfRow (roles z t0 p) T
  items_turn t0 p k t is T go =
      subst (λ (x : Option Ty). IfRow (if on_way z p t0 then is_small (weight_at z (ty_at p t0)) else role_at z x) T) (sym is)
      (row_where (on_way z p t0) (z.fixed t) (weight_at z (ty_at p t0)) T go)

  module _ (t0 : Ty) where
    flat_taken : (b r : Block) (n : ℕ) → follows.flat b ≡ Some n → IsTaken (roles z) t0 r → IsTaken (roles z) t0 (append b r)
    flat_taken stop r n e h = h
    flat_taken (chunk s ps b) r n e h = let m = mapped (λ k. length ps + k) (follows.flat b) n e in flat_taken b r m.0 m.1 h
    flat_taken (align a b) r n e h = let m = mapped suc (follows.flat b) n e in flat_taken b r m.0 m.1 h
    flat_taken _ r n e h = absurd cc

    count_taken : (k : Count) (b r : Block) → IsCount k b → IsTaken (roles z) t0 r → IsTaken (roles z) t0 (append b r)
    count_taken (Exactly n) b r e h = subst (λ (x : Block). IsTaken (roles z) t0 (append x r)) (sym e) h
    count_taken (AtMost n) b r e h = flat_taken b r e.0 e.1 h
    count_taken Any b r e h = flat_taken b r e.0 e.1 h

  mutual
    taken : (t : Ty) (below : ℕ) (p : List ℕ) (b r : Block) (t0 : Ty) → ty_at p t0 ≡ Some t → (on_way z p t0 ≡ true → IsThere (z.top t))
        → Follows no_subs t below p b → IsTaken (roles z) t0 r
        → IsTaken (roles z) t0 (append b r)
    taken void_type below p b r t0 is way f h = flat_taken t0 b r f.0 f.1 h
    taken (scalar_type s) below p b r t0 is way f h = flat_taken t0 b r f.0 f.1 h
    taken (array_type a) below p b r t0 is way f h =
        let e : append b r ≡ append f.0 (each p f.1 (append f.2 r)) =
        ap (λ (x : Block). append x r) f.6 ∙ append-assoc f.0 (each p f.1 f.2) r in
        let n = loop_bound p t0 f.1 in
        let u = on_some (element_at p t0) (λ y. bound y.0 f.1) in
        let T = InType (items_at p t0) (λ y. IsTaken (roles z) y f.1) in
        let plan : WhereApart (each_plan (roles z) t0 p f.1) T =
        either_way (on_way z p t0) (WhereApart (each_plan (roles z) t0 p f.1) T)
        (λ w.
        let s = loop_small (roles z t0 p) n u p (z.weight (array_type a)) (small_role z p t0 (array_type a) w is)
        (array_there z sizes a p f.1 f.4 t0 is (way w) f.8) in
        not_apart (each_plan (roles z) t0 p f.1) (small s.0 (z.weight (array_type a))) T s.1 tt)
        (λ w.
        let s = loop_row (roles z t0 p) n u p (heavy_role z p t0 (array_type a) w is) (row_turn_there z sizes a p f.1 f.4 t0 is f.8) in
        not_apart (each_plan (roles z) t0 p f.1) (loop p s.0) T s.1 tt) in
        let turn = any_row (roles z t0 p) (IsThere (turn_bound p t0 f.1)) (row_turn_there z sizes a p f.1 f.4 t0 is f.8) in
        subst (IsTaken (roles z) t0) (sym e)
        (flat_taken t0 f.0 (each p f.1 (append f.2 r)) f.3 f.7 (plan, turn, flat_taken t0 f.2 r f.5 f.9 h))
    taken (group_type ts) below p b r t0 is way f h = fields_taken ts 0 ts below p b r t0 is (from-first ts)
        (λ w. let n = some_of (z.top (group_type ts)) (way w) in subst IsThere (sym (sizes.group ts n.0 n.1).1) tt) f h
    taken (items_type k t) below p b r t0 is way f h =
        let e : append b r ≡ append f.0 (each p f.1 r) = ap (λ (x : Block). append x r) f.2 ∙ append-assoc f.0 (each p f.1 stop) r in
        let body = subst (IsTaken (roles z) t) (append-stop f.1)
        (taken t below [] f.1 stop t refl (light_there (z.top t)) (own (Follows no_subs t) below [] f.1 f.4) tt) in
        let T = InType (items_at p t0) (λ y. IsTaken (roles z) y f.1) in
        let plan = any_plan (each_plan (roles z) t0 p f.1) T
        (in_type (items_at p t0) (λ y. IsTaken (roles z) y f.1) t (ap (λ (x : Option Ty). on_some x items_in_type) is) body) in
        let turn = items_turn t0 p k t is (IsThere (turn_bound p t0 f.1))
        (λ x. turn_there z sizes k t below p f.1 t0 is (sizes.fixed t x) (own (Follows no_subs t) below [] f.1 f.4)) in
        subst (IsTaken (roles z) t0) (sym e) (count_taken t0 k f.0 (each p f.1 r) f.3 (plan, turn, h))
    taken (choice_type s arms) below p b r t0 is way f h =
        let e : append b r ≡ append f.0 (switch p f.1 r) = ap (λ (x : Block). append x r) f.2 ∙ append-assoc f.0 (switch p f.1 stop) r in
        let T = InType (arms_at p t0) (λ y. CasesTaken (roles z) y f.1) in
        let plan = any_plan (switch_plan (roles z) t0 p f.1) T (in_type (arms_at p t0) (λ y. CasesTaken (roles z) y f.1) arms
        (ap (λ (x : Option Ty). on_some x arms_type) is) (arms_taken arms below f.1 f.4)) in
        subst (IsTaken (roles z) t0) (sym e) (flat_taken t0 f.0 (switch p f.1 r) (f.3).0 (f.3).1 (plan, h))
    taken (maybe_type t) below p b r t0 is way f h =
        let e : append b r ≡ append f.0 (if_there p f.1 r) =
        ap (λ (x : Block). append x r) f.2 ∙ append-assoc f.0 (if_there p f.1 stop) r in
        let body = subst (IsTaken (roles z) t) (append-stop f.1)
        (taken t below [] f.1 stop t refl (light_there (z.top t)) (own (Follows no_subs t) below [] f.1 f.4) tt) in
        let T = InType (present_at p t0) (λ y. IsTaken (roles z) y f.1) in
        let plan = any_plan (some_plan (roles z) t0 p f.1) T
        (in_type (present_at p t0) (λ y. IsTaken (roles z) y f.1) t (ap (λ (x : Option Ty). on_some x present_type) is) body) in
        subst (IsTaken (roles z) t0) (sym e) (flat_taken t0 f.0 (if_there p f.1 r) (f.3).0 (f.3).1 (plan, h))

    fields_taken : (ts : Tys) (i : ℕ) (all : Tys) (below : ℕ) (p : List ℕ) (b r : Block) (t0 : Ty) → ty_at p t0 ≡ Some (group_type all)
        → AreFrom i all ts → (on_way z p t0 ≡ true → IsThere (fields_top z ts)) → FieldsFollow no_subs ts i below p b
        → IsTaken (roles z) t0 r
        → IsTaken (roles z) t0 (append b r)
    fields_taken no_fields i all below p b r t0 is from way f h = subst (λ (x : Block). IsTaken (roles z) t0 (append x r)) (sym f) h
    fields_taken (field t ts) i all below p b r t0 is from way f h =
        let e : append b r ≡ append f.0 (append f.1 r) = ap (λ (x : Block). append x r) f.2 ∙ append-assoc f.0 f.1 r in
        let head = from-head i all t ts from in
        let on = way-field z p i t0 (group_type all) t is head in
        let way' : on_way z (p ++ i ∷ []) t0 ≡ true → IsThere (z.top t) =
        λ w. one_of (on_way z p t0) (is_light (z.top t)) (IsThere (z.top t)) (sym on ∙ w)
        (λ a. (parts_there (z.top t) (fields_top z ts) (way a)).0) (light_there (z.top t)) in
        let rest = fields_taken ts (suc i) all below p f.1 r t0 is (from-next i all t ts from)
        (λ w. (parts_there (z.top t) (fields_top z ts) (way w)).1) f.4 h in
        subst (IsTaken (roles z) t0) (sym e) (taken t below (p ++ i ∷ []) f.0 (append f.1 r) t0 (ty-field p i t0 (group_type all) t is head)
        way' (own (Follows no_subs t) below (p ++ i ∷ []) f.0 f.3) rest)

    arms_taken : (arms : Arms) (below : ℕ) (cs : Cases) → ArmsFollow no_subs arms below cs → CasesTaken (roles z) arms cs
    arms_taken no_other below cs f = subst (CasesTaken (roles z) no_other) (sym f) tt
    arms_taken (others t) below cs f =
        subst (CasesTaken (roles z) (others t)) (sym f.1) (subst (IsTaken (roles z) t) (append-stop f.0)
        (taken t below [] f.0 stop t refl (light_there (z.top t)) (own (Follows no_subs t) below [] f.0 f.2) tt))
    arms_taken (arm_type n t arms) below cs f =
        subst (CasesTaken (roles z) (arm_type n t arms)) (sym f.2) (
          refl,
          subst (IsTaken (roles z) t) (append-stop f.0)
              (taken t below [] f.0 stop t refl (light_there (z.top t)) (own (Follows no_subs t) below [] f.0 f.3) tt),
          arms_taken arms below f.1 f.4,
        )

  lead_taken : (t : Ty) (b r : Block) (n : ℕ) → lead_length b ≡ Some n → IsTaken (roles z) t r → IsTaken (roles z) t (append b r)
  lead_taken t stop r n e h = h
  lead_taken t (chunk s ps b) r n e h = let m = mapped (λ k. s + k) (lead_length b) n e in lead_taken t b r m.0 m.1 h
  lead_taken t _ r n e h = absurd cc

  tail_taken : (t : Ty) (b : Block) → IsTail b → IsTaken (roles z) t b
  tail_taken t stop h = tt
  tail_taken t (patch a s o stop) h = tt
  tail_taken t _ h = absurd h

pub framed_taken : FramedIsTaken
framed_taken z t n b sizes f =
    subst (IsTaken (roles z) t) (sym f.4)
    (lead_taken z sizes t f.0 (append f.1 f.2) n f.5
    (taken z sizes t f.3 [] f.1 f.2 t refl (light_there (z.top t)) f.6 (tail_taken z sizes t f.2 f.7)))
