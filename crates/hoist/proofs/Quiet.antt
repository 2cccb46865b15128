-- Code that goes through a type ensures nothing, and is bounded where the type is, by induction on type and code.
use Rattle.std.proofs.Common.{◌≡◌, ℕ, suc, ◌+◌, ℤ, List, [], ◌∷◌, ◌++◌, length, Option, None, Some, option_map, refl, sym, subst, arith, Bool, true, false, if◌then◌else◌}
use Rattle.std.specs.Ordering.{int_eq}
use Rattle.mint.specs.declared.kind.Count.{Count}
use Rattle.mint.specs.declared.kind.Count.TheVariants.{Exactly, AtMost, Any}
use Rattle.mint.specs.Types.{Ty, void_type, scalar_type, array_type, group_type, items_type, choice_type, maybe_type, Tys, no_fields, field, Arms, no_other, others, arm_type}
use Rattle.mint.specs.Values.{Val, Vals, no_more, val, absent, present, arm_in}
use Rattle.wire_def.specs.declared.head.Head.{Head}
use Rattle.cast_stub.specs.declared.put.Put.{Put}
use Rattle.cast_stub.specs.Parts.{on_some, at, elements_in}
use Rattle.cast_stub.specs.Puts.{filled}
use Rattle.cast_stub.specs.Block.{Block, stop, align, chunk, each, switch, if_there, patch, Cases, no_default, default, case}
use Rattle.cast_stub.specs.Append.{append}
use Rattle.cast_stub.specs.Steps.{Pad, Stored, Patched, Steps, both, over, if_present, Calls, steps, case_steps, chunk_steps, align_steps, is_width}
use Rattle.cast_stub.specs.Follows as follows
use Rattle.cast_stub.specs.Follows.{IsFlat, IsLoop, IsCount, Going, Child, Follows, FieldsFollow, ArmsFollow}
use Rattle.cast_stub.specs.Subs.{no_subs}
use Rattle.cast_stub.proofs.Followed.{own}
use Rattle.cast_stub.specs.Bare.{IsBare, CasesBare}
use Rattle.hoist.proofs.Weighing.{spent, checks-append}

-- ---- nothing is ensured

quiet_both : (x y : Steps) → spent x ≡ 0 → spent y ≡ 0 → spent (both x y) ≡ 0
quiet_both None y e f = refl
quiet_both (Some x) None e f = refl
quiet_both (Some x) (Some y) e f = omega (arith, checks-append x y, e, f)

pub quiet_on : {A : Type 0} (x : Option A) (f : A → Steps) → ((a : A) → spent (f a) ≡ 0) → spent (on_some x f) ≡ 0
quiet_on None f go = refl
quiet_on (Some a) f go = go a

pub quiet_over : (f : Val → Steps) (vs : Vals) → ((w : Val) → spent (f w) ≡ 0) → spent (over f vs) ≡ 0
quiet_over f no_more go = refl
quiet_over f (val v vs) go = quiet_both (f v) (over f vs) (go v) (quiet_over f vs go)

pub quiet_present : (f : Val → Steps) (v : Val) → ((w : Val) → spent (f w) ≡ 0) → spent (if_present f v) ≡ 0
quiet_present f absent go = refl
quiet_present f (present v) go = go v
quiet_present f _ go = refl

quiet_if : (b : Bool) (x y : Steps) → spent x ≡ 0 → spent y ≡ 0 → spent (if b then x else y) ≡ 0
quiet_if true x y e f = e
quiet_if false x y e f = f

pub quiet_align : (a : ℕ) → spent (align_steps a) ≡ 0
quiet_align a = quiet_if (is_width a) (Some (Pad a ∷ [])) None refl refl

pub quiet_chunk : (h : Head) (v : Val) (ps : List Put) (s : ℕ) → spent (chunk_steps s ps h v) ≡ 0
quiet_chunk h v ps s = quiet_on (filled s ps h v) (λ o. Some (Stored o (length ps) ∷ [])) (λ (o : List ℕ). refl)

module _ (c : Calls) (h : Head) where
  mutual
    pub quiet : (b : Block) (v : Val) → IsBare b → spent (steps c h b v) ≡ 0
    quiet stop v bare = refl
    quiet (align a r) v bare = quiet_both (align_steps a) (steps c h r v) (quiet_align a) (quiet r v bare)
    quiet (chunk s ps r) v bare = quiet_both (chunk_steps s ps h v) (steps c h r v) (quiet_chunk h v ps s) (quiet r v bare)
    quiet (each p b r) v bare =
        quiet_both (on_some (on_some (at p v) elements_in) (over (steps c h b))) (steps c h r v)
        (quiet_on (on_some (at p v) elements_in) (over (steps c h b))
        (λ (vs : Vals). quiet_over (steps c h b) vs (λ (w : Val). quiet b w bare.0))) (quiet r v bare.1)
    quiet (switch p cs r) v bare =
        quiet_both (on_some (on_some (at p v) arm_in) (λ a. case_steps c h cs a.0 a.1)) (steps c h r v)
        (quiet_on (on_some (at p v) arm_in) (λ a. case_steps c h cs a.0 a.1) (λ (a : ℤ × Val). case_quiet cs a.0 a.1 bare.0))
        (quiet r v bare.1)
    quiet (if_there p b r) v bare =
        quiet_both (on_some (at p v) (if_present (steps c h b))) (steps c h r v)
        (quiet_on (at p v) (if_present (steps c h b)) (λ (w : Val). quiet_present (steps c h b) w (λ (u : Val). quiet b u bare.0)))
        (quiet r v bare.1)
    quiet (patch a s o r) v bare = quiet_both (Some (Patched a s o ∷ [])) (steps c h r v) refl (quiet r v bare)
    quiet _ v bare = absurd bare

    pub case_quiet : (cs : Cases) (n : ℤ) (w : Val) → CasesBare cs → spent (case_steps c h cs n w) ≡ 0
    case_quiet no_default n w bare = refl
    case_quiet (default b) n w bare = quiet b w bare
    case_quiet (case m b cs) n w bare =
        quiet_if (int_eq n m) (steps c h b w) (case_steps c h cs n w) (quiet b w bare.0) (case_quiet cs n w bare.1)

-- ---- code that goes through a type is bare

pub bare-append : (a b : Block) → IsBare a → IsBare b → IsBare (append a b)
bare-append stop b h k = k
bare-append (align a r) b h k = bare-append r b h k
bare-append (chunk s ps r) b h k = bare-append r b h k
bare-append (each p w r) b h k = (h.0, bare-append r b h.1 k)
bare-append (switch p cs r) b h k = (h.0, bare-append r b h.1 k)
bare-append (if_there p w r) b h k = (h.0, bare-append r b h.1 k)
bare-append (patch a s o r) b h k = bare-append r b h k
bare-append _ b h k = absurd h

pub mapped : (f : ℕ → ℕ) (x : Option ℕ) (n : ℕ) → option_map f x ≡ Some n → (m : ℕ) × (x ≡ Some m) × (f m ≡ n)
mapped f None n e = absurd cc
mapped f (Some m) n e = (m, refl, cc)

pub flat_bare : (b : Block) (n : ℕ) → follows.flat b ≡ Some n → IsBare b
flat_bare stop n e = tt
flat_bare (chunk s ps r) n e = let m = mapped (λ k. length ps + k) (follows.flat r) n e in flat_bare r m.0 m.1
flat_bare (align a r) n e = let m = mapped suc (follows.flat r) n e in flat_bare r m.0 m.1
flat_bare _ n e = absurd cc

count_bare : (c : Count) (b : Block) → IsCount c b → IsBare b
count_bare (Exactly n) b h = subst IsBare (sym h) tt
count_bare (AtMost n) b h = flat_bare b h.0 h.1
count_bare Any b h = flat_bare b h.0 h.1

mutual
  pub bare : (t : Ty) (below : ℕ) (p : List ℕ) (b : Block) → Follows no_subs t below p b → IsBare b
  bare void_type below p b h = flat_bare b h.0 h.1
  bare (scalar_type s) below p b h = flat_bare b h.0 h.1
  bare (array_type a) below p b h =
      subst IsBare (sym h.6) (bare-append h.0 (each p h.1 h.2) (flat_bare h.0 h.3 h.7) (flat_bare h.1 h.4 h.8, flat_bare h.2 h.5 h.9))
  bare (group_type ts) below p b h = fields_bare ts 0 below p b h
  bare (items_type c t) below p b h = subst IsBare (sym h.2)
      (bare-append h.0 (each p h.1 stop) (count_bare c h.0 h.3) (bare t below [] h.1 (own (Follows no_subs t) below [] h.1 h.4), tt))
  bare (choice_type s arms) below p b h =
      subst IsBare (sym h.2) (bare-append h.0 (switch p h.1 stop) (flat_bare h.0 (h.3).0 (h.3).1) (arms_bare arms below h.1 h.4, tt))
  bare (maybe_type t) below p b h = subst IsBare (sym h.2) (bare-append h.0 (if_there p h.1 stop) (flat_bare h.0 (h.3).0 (h.3).1)
      (bare t below [] h.1 (own (Follows no_subs t) below [] h.1 h.4), tt))

  fields_bare : (ts : Tys) (i below : ℕ) (p : List ℕ) (b : Block) → FieldsFollow no_subs ts i below p b → IsBare b
  fields_bare no_fields i below p b h = subst IsBare (sym h) tt
  fields_bare (field t ts) i below p b h =
      subst IsBare (sym h.2) (bare-append h.0 h.1 (bare t below (p ++ i ∷ []) h.0 (own (Follows no_subs t) below (p ++ i ∷ []) h.0 h.3))
      (fields_bare ts (suc i) below p h.1 h.4))

  pub arms_bare : (arms : Arms) (below : ℕ) (cs : Cases) → ArmsFollow no_subs arms below cs → CasesBare cs
  arms_bare no_other below cs h = subst CasesBare (sym h) tt
  arms_bare (others t) below cs h = subst CasesBare (sym h.1) (bare t below [] h.0 (own (Follows no_subs t) below [] h.0 h.2))
  arms_bare (arm_type n t arms) below cs h =
      subst CasesBare (sym h.2) (bare t below [] h.0 (own (Follows no_subs t) below [] h.0 h.3), arms_bare arms below h.1 h.4)
