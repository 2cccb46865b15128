-- Code that goes through a type: a child's own code, and no row operation, by induction on the type.
use Rattle.std.proofs.Common.{◌≡◌, inl, inr, ℕ, suc, ◌+◌, List, [], ◌∷◌, ◌++◌, length, Option, Some, None, option_map, refl, sym, subst}
use Rattle.mint.specs.declared.kind.Count.{Count}
use Rattle.mint.specs.declared.kind.Count.TheVariants.{Exactly, AtMost, Any}
use Rattle.mint.specs.declared.node.Node.{Node}
use Rattle.mint.specs.Types.{Array, Ty, void_type, scalar_type, array_type, group_type, items_type, choice_type, maybe_type, Tys, no_fields, field, Arms, no_other, others, arm_type, type_at}
use Rattle.cast_stub.specs.declared.send.SendOp.{SendOp}
use Rattle.cast_stub.specs.Block.{Block, stop, ensure, ensure_row, align, chunk, row_copy, row_swap, row_wide, each, switch, if_there, call, patch, Cases}
use Rattle.cast_stub.specs.Append.{append}
use Rattle.cast_stub.specs.Subs.{no_subs}
use Rattle.cast_stub.specs.Follows.{flat, IsLoop, IsCount, Going, Child, Loops, FollowsBy, FieldsFollowBy, ArmsFollowBy, AllFollow}
use Rattle.cast_stub.specs.Rowless.{IsRowless, AreRowless, HaveNoRow}

-- without codes to call, a child is its own code
pub own : (F : Going) (below : ℕ) (p : List ℕ) (b : Block) → Child no_subs F below p b → F below p b
own F below p b (inl f) = f
own F below p b (inr c) = absurd (let none = c.4 in cc)

-- what is there after a function was there before it
pub mapped : (f : ℕ → ℕ) (x : Option ℕ) (n : ℕ) → option_map f x ≡ Some n → (m : ℕ) × (x ≡ Some m)
mapped f None n e = absurd cc
mapped f (Some m) n e = (m, refl)

-- ---- no row operation

pub append_rowless : (a b : Block) → IsRowless a → IsRowless b → IsRowless (append a b)
append_rowless stop b h k = k
append_rowless (ensure n r) b h k = append_rowless r b h k
append_rowless (ensure_row p u e r) b h k = append_rowless r b h k
append_rowless (align a r) b h k = append_rowless r b h k
append_rowless (chunk s ps r) b h k = append_rowless r b h k
append_rowless (row_copy p r) b h k = absurd h
append_rowless (row_swap p r) b h k = absurd h
append_rowless (row_wide p o r) b h k = absurd h
append_rowless (each p w r) b h k = (h.0, append_rowless r b h.1 k)
append_rowless (switch p cs r) b h k = (h.0, append_rowless r b h.1 k)
append_rowless (if_there p w r) b h k = (h.0, append_rowless r b h.1 k)
append_rowless (call n p r) b h k = append_rowless r b h k
append_rowless (patch a s o r) b h k = append_rowless r b h k

pub flat_rowless : (b : Block) (n : ℕ) → flat b ≡ Some n → IsRowless b
flat_rowless stop n e = tt
flat_rowless (chunk s ps r) n e = let m = mapped (λ k. length ps + k) (flat r) n e in flat_rowless r m.0 m.1
flat_rowless (align a r) n e = let m = mapped suc (flat r) n e in flat_rowless r m.0 m.1
flat_rowless _ n e = absurd cc

count_rowless : (c : Count) (b : Block) → IsCount c b → IsRowless b
count_rowless (Exactly n) b h = subst IsRowless (sym h) tt
count_rowless (AtMost n) b h = flat_rowless b h.0 h.1
count_rowless Any b h = flat_rowless b h.0 h.1

loop_rowless : (p : List ℕ) (b : Block) → IsLoop p b → IsRowless b
loop_rowless p b f =
    subst IsRowless (sym f.6) (append_rowless f.0 (each p f.1 f.2) (flat_rowless f.0 f.3 f.7)
    (flat_rowless f.1 f.4 f.8, flat_rowless f.2 f.5 f.9))

module _ (L : Loops) (loops : (a : Array) (p : List ℕ) (b : Block) → L a p b → IsRowless b) (subs : ℕ → Option Block) where
  child_rowless : (F : Going) (below : ℕ) (p : List ℕ) (b : Block) → (F below p b → IsRowless b) → Child subs F below p b → IsRowless b
  child_rowless F below p b go (inl f) = go f
  child_rowless F below p b go (inr c) = subst IsRowless (sym c.2) tt

  mutual
    pub go_rowless : (t : Ty) (below : ℕ) (p : List ℕ) (b : Block) → FollowsBy L subs t below p b → IsRowless b
    go_rowless void_type below p b f = flat_rowless b f.0 f.1
    go_rowless (scalar_type s) below p b f = flat_rowless b f.0 f.1
    go_rowless (array_type a) below p b f = loops a p b f
    go_rowless (group_type ts) below p b f = fields_rowless ts 0 below p b f
    go_rowless (items_type c t) below p b f =
        let body = child_rowless (FollowsBy L subs t) below [] f.1 (go_rowless t below [] f.1) f.4 in
        subst IsRowless (sym f.2) (append_rowless f.0 (each p f.1 stop) (count_rowless c f.0 f.3) (body, tt))
    go_rowless (choice_type s arms) below p b f =
        subst IsRowless (sym f.2) (append_rowless f.0 (switch p f.1 stop) (flat_rowless f.0 (f.3).0 (f.3).1)
        (arms_rowless arms below f.1 f.4, tt))
    go_rowless (maybe_type t) below p b f =
        let body = child_rowless (FollowsBy L subs t) below [] f.1 (go_rowless t below [] f.1) f.4 in
        subst IsRowless (sym f.2) (append_rowless f.0 (if_there p f.1 stop) (flat_rowless f.0 (f.3).0 (f.3).1) (body, tt))

    fields_rowless : (ts : Tys) (i below : ℕ) (p : List ℕ) (b : Block) → FieldsFollowBy L subs ts i below p b → IsRowless b
    fields_rowless no_fields i below p b f = subst IsRowless (sym f) tt
    fields_rowless (field t ts) i below p b f =
        let one = child_rowless (FollowsBy L subs t) below (p ++ i ∷ []) f.0 (go_rowless t below (p ++ i ∷ []) f.0) f.3 in
        subst IsRowless (sym f.2) (append_rowless f.0 f.1 one (fields_rowless ts (suc i) below p f.1 f.4))

    arms_rowless : (arms : Arms) (below : ℕ) (cs : Cases) → ArmsFollowBy L subs arms below cs → AreRowless cs
    arms_rowless no_other below cs f = subst AreRowless (sym f) tt
    arms_rowless (others t) below cs f =
        subst AreRowless (sym f.1) (child_rowless (FollowsBy L subs t) below [] f.0 (go_rowless t below [] f.0) f.2)
    arms_rowless (arm_type n t arms) below cs f =
        let body = child_rowless (FollowsBy L subs t) below [] f.0 (go_rowless t below [] f.0) f.3 in
        subst AreRowless (sym f.2) (body, arms_rowless arms below f.1 f.4)

-- codes that go through the types of a table have no row operation
pub follow_rowless : (nodes : List Node) (subs : List (List SendOp)) → AllFollow nodes subs → HaveNoRow subs
follow_rowless nodes subs all k b e = go_rowless (λ a. IsLoop) (λ a. loop_rowless) _ (type_at nodes k) k [] b (all k b e)

-- so has code that goes through a type by itself
pub through_rowless : (t : Ty) (below : ℕ) (p : List ℕ) (b : Block) → FollowsBy (λ a. IsLoop) no_subs t below p b → IsRowless b
through_rowless = go_rowless (λ a. IsLoop) (λ a. loop_rowless) no_subs
