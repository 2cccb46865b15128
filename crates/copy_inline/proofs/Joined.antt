-- Steps with stores that follow one another given as one row, by induction on the steps.
use Rattle.std.proofs.Common.{◌≡◌, ℕ, ◌+◌, ◌-◌, ◌≤◌, max, List, [], ◌∷◌, ◌++◌, length, replicate, Option, None, Some, option_map, refl, sym, ap, subst, ◌∙◌, arith, append_assoc, append-nil, length-append}
use Rattle.wire_def.specs.Scalars.{gap}
use Rattle.cast_stub.specs.Parts.{on_some, IsThere}
use Rattle.cast_stub.specs.Steps.{Step, Room, Pad, Stored, Widened, Copied, Patched, Steps, both}
use Rattle.cast_stub.specs.Meaning.{patched, wrote, costs, HasRoom, AreCovered}
use Rattle.copy_inline.proofs.RowWords.{stores, together}
use Rattle.hoist.proofs.Promised.{same-then}

-- the second steps are the first, with stores one after the other as a row
abbrev pub Joined : List Step → List Step → Type 0
Joined xs [] = xs ≡ []
Joined xs (Room n ∷ ys) = (zs : List Step) × (xs ≡ Room n ∷ zs) × Joined zs ys
Joined xs (Pad a ∷ ys) = (zs : List Step) × (xs ≡ Pad a ∷ zs) × Joined zs ys
Joined xs (Stored os k ∷ ys) = (zs : List Step) × (xs ≡ Stored os k ∷ zs) × Joined zs ys
Joined xs (Widened os k ∷ ys) = (ps : List (List ℕ)) × (zs : List Step) × (xs ≡ stores ps ++ zs) × (os ≡ together ps) × Joined zs ys
Joined xs (Copied os ∷ ys) = (ps : List (List ℕ)) × (zs : List Step) × (xs ≡ stores ps ++ zs) × (os ≡ together ps) × Joined zs ys
Joined xs (Patched a s o ∷ ys) = (zs : List Step) × (xs ≡ Patched a s o ∷ zs) × Joined zs ys

-- the same of steps that may be there
abbrev pub AreJoined : Steps → Steps → Type 0
AreJoined None None = Unit {0}
AreJoined (Some xs) (Some ys) = Joined xs ys
AreJoined _ _ = ⊥

-- ---- one after the other

joined-append : (ys xs xs' ys' : List Step) → Joined xs ys → Joined xs' ys' → Joined (xs ++ xs') (ys ++ ys')
joined-append [] xs xs' ys' j k = subst (λ (l : List Step). Joined (l ++ xs') ys') (sym j) k
joined-append (Room n ∷ ys) xs xs' ys' j k = (j.0 ++ xs', ap (λ (l : List Step). l ++ xs') j.1, joined-append ys j.0 xs' ys' j.2 k)
joined-append (Pad a ∷ ys) xs xs' ys' j k = (j.0 ++ xs', ap (λ (l : List Step). l ++ xs') j.1, joined-append ys j.0 xs' ys' j.2 k)
joined-append (Stored os n ∷ ys) xs xs' ys' j k = (j.0 ++ xs', ap (λ (l : List Step). l ++ xs') j.1, joined-append ys j.0 xs' ys' j.2 k)
joined-append (Widened os n ∷ ys) xs xs' ys' j k =
    (j.0, j.1 ++ xs', ap (λ (l : List Step). l ++ xs') j.2 ∙ append_assoc (stores j.0) j.1 xs', j.3, joined-append ys j.1 xs' ys' j.4 k)
joined-append (Copied os ∷ ys) xs xs' ys' j k =
    (j.0, j.1 ++ xs', ap (λ (l : List Step). l ++ xs') j.2 ∙ append_assoc (stores j.0) j.1 xs', j.3, joined-append ys j.1 xs' ys' j.4 k)
joined-append (Patched a s o ∷ ys) xs xs' ys' j k = (j.0 ++ xs', ap (λ (l : List Step). l ++ xs') j.1, joined-append ys j.0 xs' ys' j.2 k)

pub joined_both : (x x' y y' : Steps) → AreJoined x x' → AreJoined y y' → AreJoined (both x y) (both x' y')
joined_both None None y y' j k = tt
joined_both (Some a) (Some a') None None j k = tt
joined_both (Some a) (Some a') (Some b) (Some b') j k = joined-append a' a b b' j k
joined_both None (Some a') y y' j k = absurd j
joined_both (Some a) None y y' j k = absurd j
joined_both (Some a) (Some a') None (Some b') j k = absurd k
joined_both (Some a) (Some a') (Some b) None j k = absurd k

pub joined_on : {A : Type 0} (x : Option A) (f g : A → Steps) → ((a : A) → x ≡ Some a → AreJoined (f a) (g a))
    → AreJoined (on_some x f) (on_some x g)
joined_on None f g go = tt
joined_on (Some a) f g go = go a refl

-- a row in the place of stores
pub joined_row : (y : Option (List (List ℕ))) (f : List ℕ → Steps) → ((ps : List (List ℕ)) → AreJoined (Some (stores ps)) (f (together ps)))
    → AreJoined (option_map stores y) (on_some (option_map together y) f)
joined_row None f go = tt
joined_row (Some ps) f go = go ps

pub joined_copied : (ps : List (List ℕ)) → AreJoined (Some (stores ps)) (Some (Copied (together ps) ∷ []))
joined_copied ps = (ps, [], sym (append-nil (stores ps)), refl, refl)

pub joined_widened : (k : ℕ) (ps : List (List ℕ)) → AreJoined (Some (stores ps)) (Some (Widened (together ps) k ∷ []))
joined_widened k ps = (ps, [], sym (append-nil (stores ps)), refl, refl)

-- ---- what they write

stores_wrote : (ps : List (List ℕ)) (base : ℕ) (o : List ℕ) (zs : List Step)
    → wrote base o (stores ps ++ zs) ≡ wrote base (o ++ together ps) zs
stores_wrote [] base o zs = ap (λ (l : List ℕ). wrote base l zs) (sym (append-nil o))
stores_wrote (p ∷ ps) base o zs = stores_wrote ps base (o ++ p) zs ∙ ap (λ (l : List ℕ). wrote base l zs) (append_assoc o p (together ps))

joined_wrote : (ys xs : List Step) (base : ℕ) (o : List ℕ) → Joined xs ys → wrote base o ys ≡ wrote base o xs
joined_wrote [] xs base o j = ap (wrote base o) (sym j)
joined_wrote (Room n ∷ ys) xs base o j = joined_wrote ys j.0 base o j.2 ∙ ap (wrote base o) (sym j.1)
joined_wrote (Pad a ∷ ys) xs base o j =
    joined_wrote ys j.0 base (o ++ replicate (gap (base + length o) a) 0) j.2 ∙ ap (wrote base o) (sym j.1)
joined_wrote (Stored os k ∷ ys) xs base o j = joined_wrote ys j.0 base (o ++ os) j.2 ∙ ap (wrote base o) (sym j.1)
joined_wrote (Widened os k ∷ ys) xs base o j =
    ap (λ (l : List ℕ). wrote base (o ++ l) ys) j.3 ∙ joined_wrote ys j.1 base (o ++ together j.0) j.4 ∙ sym (stores_wrote j.0 base o j.1)
    ∙ ap (wrote base o) (sym j.2)
joined_wrote (Copied os ∷ ys) xs base o j =
    ap (λ (l : List ℕ). wrote base (o ++ l) ys) j.3 ∙ joined_wrote ys j.1 base (o ++ together j.0) j.4 ∙ sym (stores_wrote j.0 base o j.1)
    ∙ ap (wrote base o) (sym j.2)
joined_wrote (Patched at sub order ∷ ys) xs base o j =
    same-then (patched base at sub order o) (λ a. wrote base a ys) (λ a. wrote base a j.0) (λ a. joined_wrote ys j.0 base a j.2)
    ∙ ap (wrote base o) (sym j.1)

pub same_written : (x y : Steps) (p : ℕ) → AreJoined x y → on_some y (wrote p []) ≡ on_some x (wrote p [])
same_written None None p j = refl
same_written (Some xs) (Some ys) p j = joined_wrote ys xs p [] j
same_written None (Some ys) p j = absurd j
same_written (Some xs) None p j = absurd j

-- ---- the room that they need

stores_room : (ps : List (List ℕ)) (p a : ℕ) (zs : List Step) → HasRoom p a (stores ps ++ zs)
    → (length (together ps) ≤ a) × HasRoom (p + length (together ps)) (a - length (together ps)) zs
stores_room [] p a zs h =
    let far : p ≡ p + 0 = omega arith in
    let left : a ≡ a - 0 = omega arith in
    (omega arith, subst (λ (q : ℕ). HasRoom q (a - 0) zs) far (subst (λ (b : ℕ). HasRoom p b zs) left h))
stores_room (o ∷ ps) p a zs h =
    let rest = stores_room ps (p + length o) (a - length o) zs h.1 in
    let long : length (o ++ together ps) ≡ length o + length (together ps) = length-append o (together ps) in
    let far : p + length o + length (together ps) ≡ p + length (o ++ together ps) = omega (arith, long) in
    let left : a - length o - length (together ps) ≡ a - length (o ++ together ps) = omega (arith, long) in (
      omega (arith, long, h.0, rest.0),
      subst (λ (q : ℕ). HasRoom q (a - length (o ++ together ps)) zs) far
          (subst (λ (b : ℕ). HasRoom (p + length o + length (together ps)) b zs) left rest.1),
    )

row_room : (os : List ℕ) (ps : List (List ℕ)) (p a : ℕ) (zs : List Step) → os ≡ together ps → HasRoom p a (stores ps ++ zs)
    → (length os ≤ a) × HasRoom (p + length os) (a - length os) zs
row_room os ps p a zs e h =
    subst (λ (l : List ℕ). (length l ≤ a) × HasRoom (p + length l) (a - length l) zs) (sym e) (stores_room ps p a zs h)

joined_room : (ys xs : List Step) (p a : ℕ) → Joined xs ys → HasRoom p a xs → HasRoom p a ys
joined_room [] xs p a j h = tt
joined_room (Room n ∷ ys) xs p a j h = joined_room ys j.0 p (max n a) j.2 (subst (HasRoom p a) j.1 h)
joined_room (Pad x ∷ ys) xs p a j h = let k = subst (HasRoom p a) j.1 h in (k.0, joined_room ys j.0 (p + gap p x) (a - gap p x) j.2 k.1)
joined_room (Stored os n ∷ ys) xs p a j h =
    let k = subst (HasRoom p a) j.1 h in
    (k.0, joined_room ys j.0 (p + length os) (a - length os) j.2 k.1)
joined_room (Widened os n ∷ ys) xs p a j h =
    let k = row_room os j.0 p a j.1 j.3 (subst (HasRoom p a) j.2 h) in
    (k.0, joined_room ys j.1 (p + length os) (a - length os) j.4 k.1)
joined_room (Copied os ∷ ys) xs p a j h =
    let k = row_room os j.0 p a j.1 j.3 (subst (HasRoom p a) j.2 h) in
    (k.0, joined_room ys j.1 (p + length os) (a - length os) j.4 k.1)
joined_room (Patched at sub order ∷ ys) xs p a j h = joined_room ys j.0 p a j.2 (subst (HasRoom p a) j.1 h)

pub same_covered : (x y : Steps) (p : ℕ) → AreJoined x y → AreCovered x p → AreCovered y p
same_covered None None p j h = h
same_covered (Some xs) (Some ys) p j h = (subst IsThere (sym (joined_wrote ys xs p [] j)) h.0, joined_room ys xs p 0 j h.1)
same_covered None (Some ys) p j h = absurd j
same_covered (Some xs) None p j h = absurd j

-- ---- how often they look at the buffer

stores_checks : (ps : List (List ℕ)) (zs : List Step) → (costs (stores ps ++ zs)).checks ≡ (costs zs).checks
stores_checks [] zs = refl
stores_checks (o ∷ ps) zs = omega (arith, stores_checks ps zs)

joined_checks : (ys xs : List Step) → Joined xs ys → (costs ys).checks ≡ (costs xs).checks
joined_checks [] xs j = ap (λ (l : List Step). (costs l).checks) (sym j)
joined_checks (Room n ∷ ys) xs j = ap (λ (k : ℕ). 1 + k) (joined_checks ys j.0 j.2) ∙ ap (λ (l : List Step). (costs l).checks) (sym j.1)
joined_checks (Pad a ∷ ys) xs j = ap (λ (k : ℕ). 0 + k) (joined_checks ys j.0 j.2) ∙ ap (λ (l : List Step). (costs l).checks) (sym j.1)
joined_checks (Stored os k ∷ ys) xs j =
    ap (λ (k : ℕ). 0 + k) (joined_checks ys j.0 j.2) ∙ ap (λ (l : List Step). (costs l).checks) (sym j.1)
joined_checks (Widened os k ∷ ys) xs j =
    omega (arith, joined_checks ys j.1 j.4, stores_checks j.0 j.1, ap (λ (l : List Step). (costs l).checks) j.2)
joined_checks (Copied os ∷ ys) xs j =
    omega (arith, joined_checks ys j.1 j.4, stores_checks j.0 j.1, ap (λ (l : List Step). (costs l).checks) j.2)
joined_checks (Patched at sub order ∷ ys) xs j =
    ap (λ (k : ℕ). 0 + k) (joined_checks ys j.0 j.2) ∙ ap (λ (l : List Step). (costs l).checks) (sym j.1)

pub same_checks : (x y : Steps) → AreJoined x y → option_map (λ ss. (costs ss).checks) y ≡ option_map (λ ss. (costs ss).checks) x
same_checks None None j = refl
same_checks (Some xs) (Some ys) j = ap Some (joined_checks ys xs j)
same_checks None (Some ys) j = absurd j
same_checks (Some xs) None j = absurd j
