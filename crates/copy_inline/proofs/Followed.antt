-- Code that goes through a type goes through it with its calls replaced, by induction on the type.
use Rattle.std.proofs.Common.{◌≡◌, inl, inr, ℕ, zero, suc, ◌+◌, ◌<◌, ◌≤◌, List, [], ◌∷◌, ◌++◌, length, Option, Some, option_map, refl, sym, ap, subst, ◌∙◌, arith, append_assoc}
use Rattle.std.proofs.lemmas.List.{length-map, append-nil}
use Rattle.mint.specs.declared.kind.Count.{Count}
use Rattle.mint.specs.declared.kind.Count.TheVariants.{Exactly, AtMost, Any}
use Rattle.mint.specs.Types.{Array, Ty, void_type, scalar_type, array_type, group_type, items_type, choice_type, maybe_type, Tys, no_fields, field, Arms, no_other, others, arm_type}
use Rattle.mint.specs.Blank.{depth, fields_depth, arms_depth}
use Rattle.cast_stub.specs.Block.{Block, stop, align, chunk, each, switch, if_there, Cases}
use Rattle.cast_stub.specs.Append.{rebase, put_rebased}
use Rattle.cast_stub.specs.Subs.{no_subs}
use Rattle.cast_stub.specs.Follows.{flat, IsFlat, IsLoop, IsCount, Child, Loops, FollowsBy, FieldsFollowBy, ArmsFollowBy}
use Rattle.cast_stub.specs.Turned.{Layout, IsTurned}
use Rattle.cast_stub.proofs.Appending.{append-stop}
use Rattle.cast_stub.proofs.Followed.{own, mapped}
use Rattle.copy_inline.specs.Spliced.{spliced, cases_spliced, spliced_or_stop, inlined}
use Rattle.copy_inline.proofs.Blocks.{rebase-append, spliced-append}

-- ---- chunks and aligns

flat-rebase : (q : List ℕ) (b : Block) → flat (rebase q b) ≡ flat b
flat-rebase q (chunk s ps r) = rw (length-map ps (put_rebased q), flat-rebase q r) refl
flat-rebase q (align a r) = ap (option_map suc) (flat-rebase q r)
flat-rebase q _ = refl

spliced-flat : (code : ℕ → Block) (b : Block) (n : ℕ) → flat b ≡ Some n → spliced code b ≡ b
spliced-flat code stop n e = refl
spliced-flat code (chunk s ps r) n e = let m = mapped (λ k. length ps + k) (flat r) n e in ap (chunk s ps) (spliced-flat code r m.0 m.1)
spliced-flat code (align a r) n e = let m = mapped suc (flat r) n e in ap (align a) (spliced-flat code r m.0 m.1)
spliced-flat code _ n e = absurd cc

flat_rebased : (most : ℕ) (q : List ℕ) (b : Block) → IsFlat most b → IsFlat most (rebase q b)
flat_rebased most q b h = (h.0, flat-rebase q b ∙ h.1, h.2)

flat_spliced : (code : ℕ → Block) (most : ℕ) (b : Block) → IsFlat most b → IsFlat most (spliced code b)
flat_spliced code most b h = subst (IsFlat most) (sym (spliced-flat code b h.0 h.1)) h

count_rebased : (c : Count) (q : List ℕ) (b : Block) → IsCount c b → IsCount c (rebase q b)
count_rebased (Exactly n) q b h = ap (rebase q) h
count_rebased (AtMost n) q b h = flat_rebased 3 q b h
count_rebased Any q b h = flat_rebased 3 q b h

count_spliced : (code : ℕ → Block) (c : Count) (b : Block) → IsCount c b → IsCount c (spliced code b)
count_spliced code (Exactly n) b h = ap (spliced code) h
count_spliced code (AtMost n) b h = flat_spliced code 3 b h
count_spliced code Any b h = flat_spliced code 3 b h

-- ---- for a part, and with calls replaced

-- loops that stay what they are
pub record AreKept (L : Loops) : Type 0 where
  pub rebased : (a : Array) (q p : List ℕ) (b : Block) → L a p b → L a (q ++ p) (rebase q b)
  pub spliced_too : (code : ℕ → Block) (a : Array) (p : List ℕ) (b : Block) → L a p b → L a p (spliced code b)

module _ (L : Loops) (kept : AreKept L) where
  mutual
    rebased : (t : Ty) (below : ℕ) (q p : List ℕ) (b : Block) → FollowsBy L no_subs t below p b
        → FollowsBy L no_subs t below (q ++ p) (rebase q b)
    rebased void_type below q p b h = flat_rebased 0 q b h
    rebased (scalar_type s) below q p b h = flat_rebased 3 q b h
    rebased (array_type a) below q p b h = kept.rebased a q p b h
    rebased (group_type ts) below q p b h = fields_rebased ts 0 below q p b h
    rebased (items_type c t) below q p b h =
        (rebase q h.0, h.1, ap (rebase q) h.2 ∙ rebase-append q h.0 (each p h.1 stop), count_rebased c q h.0 h.3, h.4)
    rebased (choice_type s arms) below q p b h =
        (rebase q h.0, h.1, ap (rebase q) h.2 ∙ rebase-append q h.0 (switch p h.1 stop), flat_rebased 3 q h.0 h.3, h.4)
    rebased (maybe_type t) below q p b h =
        (rebase q h.0, h.1, ap (rebase q) h.2 ∙ rebase-append q h.0 (if_there p h.1 stop), flat_rebased 3 q h.0 h.3, h.4)

    fields_rebased : (ts : Tys) (i below : ℕ) (q p : List ℕ) (b : Block) → FieldsFollowBy L no_subs ts i below p b
        → FieldsFollowBy L no_subs ts i below (q ++ p) (rebase q b)
    fields_rebased no_fields i below q p b h = ap (rebase q) h
    fields_rebased (field t ts) i below q p b h =
        let one = rebased t below q (p ++ i ∷ []) h.0 (own (FollowsBy L no_subs t) below (p ++ i ∷ []) h.0 h.3) in (
          rebase q h.0,
          rebase q h.1,
          ap (rebase q) h.2 ∙ rebase-append q h.0 h.1,
          inl (subst (λ (x : List ℕ). FollowsBy L no_subs t below x (rebase q h.0)) (sym (append_assoc q p (i ∷ []))) one),
          fields_rebased ts (suc i) below q p h.1 h.4,
        )

  module _ (subs : ℕ → Option Block) where
    -- what inlining makes of code that goes through a type
    abbrev pub Goes : Ty → Type 0
    Goes t = (n below then : ℕ) (p : List ℕ) (b : Block) → depth t ≤ n → FollowsBy L subs t below p b
        → FollowsBy L no_subs t then p (spliced (inlined subs n) b)

    child : (t : Ty) (n below then : ℕ) (p : List ℕ) (b : Block) → depth t < n → Goes t → Child subs (FollowsBy L subs t) below p b
        → FollowsBy L no_subs t then p (spliced (inlined subs n) b)
    child t n below then p b lt go (inl f) = go n below then p b (omega arith) f
    child t zero below then p b lt go (inr c) = absurd (omega (arith, lt))
    child t (suc n) below then p b lt go (inr c) =
        let code = spliced (inlined subs n) c.1 in
        let body : FollowsBy L no_subs t then [] code = go n c.0 then [] c.1 (omega arith) c.5 in
        let moved : FollowsBy L no_subs t then (p ++ []) (rebase p code) = rebased t then p [] code body in
        let is : rebase p code ≡ spliced (inlined subs (suc n)) b =
        ap (λ (o : Option Block). rebase p (spliced_or_stop (inlined subs n) o)) (sym c.4)
        ∙ sym (append-stop (rebase p (inlined subs (suc n) c.0))) ∙ sym (ap (spliced (inlined subs (suc n))) c.2) in
        subst (FollowsBy L no_subs t then p) is (subst (λ (q : List ℕ). FollowsBy L no_subs t then q (rebase p code)) (append-nil p) moved)

    mutual
      pub goes : (t : Ty) → Goes t
      goes void_type n below then p b le h = flat_spliced (inlined subs n) 0 b h
      goes (scalar_type s) n below then p b le h = flat_spliced (inlined subs n) 3 b h
      goes (array_type a) n below then p b le h = kept.spliced_too (inlined subs n) a p b h
      goes (group_type ts) n below then p b le h = fields_go ts 0 n below then p b (omega arith) h
      goes (items_type c t) n below then p b le h = (
        spliced (inlined subs n) h.0,
        spliced (inlined subs n) h.1,
        ap (spliced (inlined subs n)) h.2 ∙ spliced-append (inlined subs n) h.0 (each p h.1 stop),
        count_spliced (inlined subs n) c h.0 h.3,
        inl (child t n below then [] h.1 (omega arith) (goes t) h.4),
      )
      goes (choice_type s arms) n below then p b le h = (
        spliced (inlined subs n) h.0,
        cases_spliced (inlined subs n) h.1,
        ap (spliced (inlined subs n)) h.2 ∙ spliced-append (inlined subs n) h.0 (switch p h.1 stop),
        flat_spliced (inlined subs n) 3 h.0 h.3,
        arms_go arms n below then h.1 (omega arith) h.4,
      )
      goes (maybe_type t) n below then p b le h = (
        spliced (inlined subs n) h.0,
        spliced (inlined subs n) h.1,
        ap (spliced (inlined subs n)) h.2 ∙ spliced-append (inlined subs n) h.0 (if_there p h.1 stop),
        flat_spliced (inlined subs n) 3 h.0 h.3,
        inl (child t n below then [] h.1 (omega arith) (goes t) h.4),
      )

      fields_go : (ts : Tys) (i n below then : ℕ) (p : List ℕ) (b : Block) → fields_depth ts < n → FieldsFollowBy L subs ts i below p b
          → FieldsFollowBy L no_subs ts i then p (spliced (inlined subs n) b)
      fields_go no_fields i n below then p b lt h = ap (spliced (inlined subs n)) h
      fields_go (field t ts) i n below then p b lt h = (
        spliced (inlined subs n) h.0,
        spliced (inlined subs n) h.1,
        ap (spliced (inlined subs n)) h.2 ∙ spliced-append (inlined subs n) h.0 h.1,
        inl (child t n below then (p ++ i ∷ []) h.0 (omega arith) (goes t) h.3),
        fields_go ts (suc i) n below then p h.1 (omega arith) h.4,
      )

      arms_go : (arms : Arms) (n below then : ℕ) (cs : Cases) → arms_depth arms < n → ArmsFollowBy L subs arms below cs
          → ArmsFollowBy L no_subs arms then (cases_spliced (inlined subs n) cs)
      arms_go no_other n below then cs lt h = ap (cases_spliced (inlined subs n)) h
      arms_go (others t) n below then cs lt h = (
        spliced (inlined subs n) h.0,
        ap (cases_spliced (inlined subs n)) h.1,
        inl (child t n below then [] h.0 (omega arith) (goes t) h.2),
      )
      arms_go (arm_type m t arms) n below then cs lt h = (
        spliced (inlined subs n) h.0,
        cases_spliced (inlined subs n) h.1,
        ap (cases_spliced (inlined subs n)) h.2,
        inl (child t n below then [] h.0 (omega arith) (goes t) h.3),
        arms_go arms n below then h.1 (omega arith) h.4,
      )

-- ---- loops

-- the loop of one whose turn may be one number
abbrev loop_of : (layout : Layout) (a : Array) (p : List ℕ) (b : Block) → IsTurned layout a p b → IsLoop p b
loop_of layout a p b h = (h.0, h.1, h.2, h.3, h.4, h.5, h.6, h.7, h.8, h.9, h.10, h.11)

moved_loop : (q p : List ℕ) (b : Block) → IsLoop p b → IsLoop (q ++ p) (rebase q b)
moved_loop q p b h =
    let whole = ap (rebase q) h.6 ∙ rebase-append q h.0 (each p h.1 h.2) in
    let first = flat-rebase q h.0 ∙ h.7 in
    let last = flat-rebase q h.2 ∙ h.9 in
    (rebase q h.0, h.1, rebase q h.2, h.3, h.4, h.5, whole, first, h.8, last, h.10, h.11)

-- a loop holds no call
same_loop : (code : ℕ → Block) (p : List ℕ) (b : Block) → IsLoop p b → spliced code b ≡ b
same_loop code p b h =
    ap (spliced code) h.6 ∙ spliced-append code h.0 (each p h.1 h.2)
    ∙ rw (spliced-flat code h.0 h.3 h.7, spliced-flat code h.1 h.4 h.8, spliced-flat code h.2 h.5 h.9) (sym h.6)

pub loops_kept : AreKept (λ a. IsLoop)
loops_kept =
    record { rebased = λ a q p b h. moved_loop q p b h; spliced_too = λ code a p b h. subst (IsLoop p) (sym (same_loop code p b h)) h }

pub turns_kept : (layout : Layout) → AreKept (IsTurned layout)
unfolding moved_loop
turns_kept layout = record { rebased = moved; spliced_too = same } where
  moved : (a : Array) (q p : List ℕ) (b : Block) → IsTurned layout a p b → IsTurned layout a (q ++ p) (rebase q b)
  moved a q p b h =
      let m = moved_loop q p b (loop_of layout a p b h) in
      (m.0, m.1, m.2, m.3, m.4, m.5, m.6, m.7, m.8, m.9, m.10, m.11, h.12)

  same : (code : ℕ → Block) (a : Array) (p : List ℕ) (b : Block) → IsTurned layout a p b → IsTurned layout a p (spliced code b)
  same code a p b h = subst (IsTurned layout a p) (sym (same_loop code p b (loop_of layout a p b h))) h
