-- What a table makes of sets is what the function makes whose sets it lists.
use Rattle.std.proofs.Common.{◌≡◌, ℕ, zero, suc, ◌+◌, ◌-◌, ◌<◌, ◌≤◌, Bool, true, false, ◌&&◌, ◌||◌, not, inl, inr, refl, sym, ap, ◌∙◌, subst, arith, lit≤, lit<, List, [], get_or, if◌then◌else◌}
use Rattle.std.proofs.lemmas.Bool.{eqb-true, or_cases, or_left, or_right}
use Rattle.stub_flat.specs.Residues.{Residues, only, none, sum, moved, aligned, within_first, is_within, size_first, closing, closed}
use Rattle.stub_flat.proofs.Sets.{Within}
use Rattle.stub_compare.specs.CompareSets.{Agree, IsTableOf, LedBy, applied, row, rows_of}
use Rattle.stub_places.specs.Sets.{each_of, set_of}
use Rattle.stub_places.proofs.Eights.{eighth, eight_same}
use Rattle.stub_compare.proofs.CompareBools.{same_truth, chosen, at_or_below}
use Rattle.stub_compare.proofs.CompareLinear.{IsLinear, only_within, none_within, linear_agree, linear_moved, agree_then}

-- ---- sets and tables as lists

-- a set that is listed
pub agree_each : (S : Residues) (a : List Bool) → a ≡ each_of S → Agree (set_of a) S
agree_each S a is r lt = ap (λ (l : List Bool). get_or l r false) is ∙ eighth S false r lt

-- the same residues are listed as the same values
pub each_agree : (S T : Residues) → Agree S T → each_of S ≡ each_of T
each_agree S T same = eight_same S T (same 0 (lit< tt)) (same 1 (lit< tt)) (same 2 (lit< tt)) (same 3 (lit< tt)) (same 4 (lit< tt))
    (same 5 (lit< tt)) (same 6 (lit< tt)) (same 7 (lit< tt))

-- the set at a place
ninth : (f : ℕ → Residues) (k : ℕ) → k < 9 → get_or (rows_of f) k [] ≡ each_of (f k)
ninth f zero h = refl
ninth f (suc zero) h = refl
ninth f (suc (suc zero)) h = refl
ninth f (suc (suc (suc zero))) h = refl
ninth f (suc (suc (suc (suc zero)))) h = refl
ninth f (suc (suc (suc (suc (suc zero))))) h = refl
ninth f (suc (suc (suc (suc (suc (suc zero)))))) h = refl
ninth f (suc (suc (suc (suc (suc (suc (suc zero))))))) h = refl
ninth f (suc (suc (suc (suc (suc (suc (suc (suc zero)))))))) h = refl
ninth f (suc (suc (suc (suc (suc (suc (suc (suc (suc k))))))))) h = absurd (omega arith)

-- a table that is listed
pub row_is : (f : ℕ → Residues) (t : List (List Bool)) → t ≡ rows_of f → (k : ℕ) → k < 9 → Agree (row t k) (f k)
row_is f t is k lt = agree_each (f k) (get_or t k []) (ap (λ (l : List (List Bool)). get_or l k []) is ∙ ninth f k lt)

-- ---- what a table makes of sets

none_eighth : (S : Residues) → Within (only 8) S
none_eighth S q lt e = absurd (omega (arith, eqb-true q 8 e))

applied_forth : (f : Residues → Residues) → IsLinear f → (t : List (List Bool)) → IsTableOf f t → (k : ℕ) → k ≤ 8 → (S : Residues) (r : ℕ)
    → r < 8 → applied k t S r ≡ true → f S r ≡ true
applied_forth f l t is zero le S r lt = λ e. l.up (only 8) S (none_eighth S) r lt (sym (is 8 (lit< tt) r lt) ∙ e)
applied_forth f l t is (suc k) le S r lt =
    let P : Residues → Type 0 = λ Z. Z r ≡ true → f S r ≡ true in
    chosen P (S k) (sum (applied k t S) (row t k)) (applied k t S)
    (λ there e. elim (or_cases (applied k t S r) (row t k r) e) [
      | inl x ↦ applied_forth f l t is k (omega arith) S r lt x
      | inr y ↦ l.up (only k) S (only_within k S there) r lt (sym (is k (omega arith) r lt) ∙ y)
    ])
    (λ there e. applied_forth f l t is k (omega arith) S r lt e)

applied_last : (t : List (List Bool)) (k : ℕ) (S : Residues) (r : ℕ) → row t 8 r ≡ true → applied k t S r ≡ true
applied_last t zero S r e = e
applied_last t (suc k) S r e =
    let P : Residues → Type 0 = λ Z. Z r ≡ true in
    chosen P (S k) (sum (applied k t S) (row t k)) (applied k t S)
    (λ there. or_left (applied k t S r) (row t k r) (applied_last t k S r e)) (λ there. applied_last t k S r e)

applied_one : (t : List (List Bool)) (k : ℕ) (S : Residues) (r q : ℕ) → q < k → S q ≡ true → row t q r ≡ true → applied k t S r ≡ true
applied_one t zero S r q lt inside e = absurd (omega arith)
applied_one t (suc k) S r q lt inside e =
    let P : Residues → Type 0 = λ Z. Z r ≡ true in
    elim (at_or_below q k lt) [
      | inl same ↦ (let Q : ℕ → Type 0 = λ z. S z ≡ true in
          let R : ℕ → Type 0 = λ z. row t z r ≡ true in
          chosen P (S k) (sum (applied k t S) (row t k)) (applied k t S)
          (λ there. or_right (applied k t S r) (row t k r) (subst R same e))
          (λ there. absurd (let d : S k ≡ true = subst Q same inside in cc)))
      | inr below ↦ chosen P (S k) (sum (applied k t S) (row t k)) (applied k t S)
          (λ there. or_left (applied k t S r) (row t k r) (applied_one t k S r q below inside e))
          (λ there. applied_one t k S r q below inside e)
    ]

pub applied_is : (f : Residues → Residues) → IsLinear f → (t : List (List Bool)) → IsTableOf f t → (S : Residues)
    → Agree (applied 8 t S) (f S)
applied_is f l t is S r lt = same_truth (applied 8 t S r) (f S r) (applied_forth f l t is 8 (lit≤ tt) S r lt)
    (λ e. elim (l.from S r lt e) [
      | inl n ↦ applied_last t 8 S r (is 8 (lit< tt) r lt ∙ l.up none (only 8) (none_within (only 8)) r lt n)
      | inr o ↦ applied_one t 8 S r o.residue o.small o.inside (is o.residue (omega (arith, o.small)) r lt ∙ o.leads)
    ])

-- ---- closing

within_agree : (k : ℕ) → k ≤ 8 → (A B S T : Residues) → Agree A B → Agree S T → within_first k A S ≡ within_first k B T
within_agree zero le A B S T a s = refl
within_agree (suc k) le A B S T a s =
    ap (λ (b : Bool). (not b || S k) && within_first k A S) (a k (omega arith))
    ∙ ap (λ (b : Bool). (not (B k) || b) && within_first k A S) (s k (omega arith))
    ∙ ap (λ (b : Bool). (not (B k) || T k) && b) (within_agree k (omega arith) A B S T a s)

pub sum_agree : (A B S T : Residues) → Agree A B → Agree S T → Agree (sum A S) (sum B T)
sum_agree A B S T a s r lt = ap (λ (b : Bool). b || S r) (a r lt) ∙ ap (λ (b : Bool). B r || b) (s r lt)

choice_agree : (b c : Bool) → b ≡ c → (A B S T : Residues) → Agree A B → Agree S T → Agree (if b then A else S) (if c then B else T)
choice_agree true true e A B S T a s = a
choice_agree true false e A B S T a s = absurd (cc)
choice_agree false true e A B S T a s = absurd (cc)
choice_agree false false e A B S T a s = s

pub applied_agree : (t : List (List Bool)) (k : ℕ) → k ≤ 8 → (S T : Residues) → Agree S T → Agree (applied k t S) (applied k t T)
applied_agree t zero le S T same = λ r lt. refl
applied_agree t (suc k) le S T same =
    let inner = applied_agree t k (omega arith) S T same in
    choice_agree (S k) (T k) (same k (omega arith)) (sum (applied k t S) (row t k)) (sum (applied k t T) (row t k)) (applied k t S)
    (applied k t T) (sum_agree (applied k t S) (applied k t T) (row t k) (row t k) inner (λ r lt. refl)) inner

pub closing_agree : (F f : Residues → Residues) → ((S T : Residues) → Agree S T → Agree (F S) (f T)) → (n : ℕ) (S T : Residues) → Agree S T
    → Agree (closing n F S) (closing n f T)
closing_agree F f both zero S T same = same
closing_agree F f both (suc n) S T same =
    choice_agree (is_within (F S) S) (is_within (f T) T) (within_agree 8 (lit≤ tt) (F S) (f T) S T (both S T same) same) S T
    (closing n F (sum S (F S))) (closing n f (sum T (f T))) same
    (closing_agree F f both n (sum S (F S)) (sum T (f T)) (sum_agree S T (F S) (f T) same (both S T same)))

-- closing by a table is closing by its function
pub closed_is : (f : Residues → Residues) → IsLinear f → (t : List (List Bool)) → IsTableOf f t → (S : Residues)
    → Agree (closed (applied 8 t) S) (closed f S)
closed_is f l t is S = closing_agree (applied 8 t) f
    (λ A B same. agree_then (applied 8 t A) (f A) (f B) (applied_is f l t is A) (linear_agree f l A B same)) (8 - size_first 8 S) S S
    (λ r lt. refl)

one_turn : (n i : ℕ) (F : Residues → Residues) (S : Residues) → n ≡ 8 - i → i < 8
    → closing (8 - i) F S ≡ (if is_within (F S) S then S else closing (8 - (i + 1)) F (sum S (F S)))
one_turn zero i F S e lt = absurd (omega arith)
one_turn (suc n) i F S e lt =
    let less : n ≡ 8 - (i + 1) = omega arith in
    ap (λ m. closing m F S) (sym e) ∙ ap (λ m. if is_within (F S) S then S else closing m F (sum S (F S))) less

-- a turn of the loop that closes a set by a table, where it ends
pub turn_ends : (t : List (List Bool)) (M next Z : Residues) (i : ℕ) → i < 8 → Agree next (applied 8 t M) → is_within next M ≡ true
    → Agree (closing (8 - i) (applied 8 t) M) Z → Agree M Z
turn_ends t M next Z i lt is inside inv r small =
    let F = applied 8 t in
    let same : is_within (F M) M ≡ true = sym (within_agree 8 (lit≤ tt) next (F M) M M is (λ q h. refl)) ∙ inside in
    sym (ap (λ (X : Residues). X r) (one_turn (8 - i) i F M refl lt)
    ∙ ap (λ (b : Bool). (if b then M else closing (8 - (i + 1)) F (sum M (F M))) r) same) ∙ inv r small

-- and where it goes on
pub turn_goes : (t : List (List Bool)) (M next new Z : Residues) (i : ℕ) → i < 8 → Agree next (applied 8 t M) → is_within next M ≡ false
    → Agree new (sum M next) → Agree (closing (8 - i) (applied 8 t) M) Z → Agree (closing (8 - (i + 1)) (applied 8 t) new) Z
turn_goes t M next new Z i lt is inside more inv r small =
    let F = applied 8 t in
    let same : is_within (F M) M ≡ false = sym (within_agree 8 (lit≤ tt) next (F M) M M is (λ q h. refl)) ∙ inside in
    closing_agree F F (applied_agree t 8 (lit≤ tt)) (8 - (i + 1)) new (sum M (F M))
    (agree_then new (sum M next) (sum M (F M)) more (sum_agree M M next (F M) (λ q h. refl) is)) r small
    ∙ sym (ap (λ (X : Residues). X r) (one_turn (8 - i) i F M refl lt)
    ∙ ap (λ (b : Bool). (if b then M else closing (8 - (i + 1)) F (sum M (F M))) r) same) ∙ inv r small

-- all turns made
pub turns_end : (t : List (List Bool)) (M Z : Residues) (i : ℕ) → 8 ≤ i → Agree (closing (8 - i) (applied 8 t) M) Z → Agree M Z
turns_end t M Z i le inv r small =
    let over : 8 - i ≡ 0 = omega (arith, le) in sym (ap (λ n. closing n (applied 8 t) M r) over) ∙ inv r small

-- one residue more of a set
pub applied_more : (t : List (List Bool)) (S M next : Residues) (k : ℕ) → k < 8 → Agree next (if S k then sum M (row t k) else M)
    → Agree M (applied k t S) → Agree next (applied (k + 1) t S)
applied_more t S M next k lt is inv r small =
    let on : suc k ≡ k + 1 = omega arith in
    is r small
    ∙ choice_agree (S k) (S k) refl (sum M (row t k)) (sum (applied k t S) (row t k)) M (applied k t S)
    (sum_agree M (applied k t S) (row t k) (row t k) inv (λ q h. refl)) inv r small
    ∙ ap (λ n. applied n t S r) on

-- ---- tables led on

-- a table led on by a function, as it is listed
pub rows_led : (f : Residues → Residues) (old new : List (List Bool)) → new ≡ rows_of (λ k. f (row old k)) → LedBy f old new
rows_led f old new is = row_is (λ k. f (row old k)) new is

pub led_same : (t : List (List Bool)) → LedBy (λ S. S) t t
led_same t k lt r small = refl

pub led_then : (f g : Residues → Residues) → IsLinear g → (a b c : List (List Bool)) → LedBy f a b → LedBy g b c → LedBy (λ S. g (f S)) a c
led_then f g l a b c x y k lt =
    agree_then (row c k) (g (row b k)) (g (f (row a k))) (y k lt) (linear_agree g l (row b k) (f (row a k)) (x k lt))

-- a table led on from each residue by itself, and none
pub table_led : (f : Residues → Residues) → IsLinear f → (a b : List (List Bool)) → a ≡ rows_of only → LedBy f a b → IsTableOf f b
table_led f l a b is led k lt =
    agree_then (row b k) (f (row a k)) (f (only k)) (led k lt) (linear_agree f l (row a k) (only k) (row_is only a is k lt))

pub moving_is : (n : ℕ) (a b : List (List Bool)) → a ≡ rows_of only → b ≡ rows_of (λ k. moved n (row a k)) → IsTableOf (moved n) b
moving_is n a b is moves = table_led (moved n) (linear_moved n) a b is (rows_led (moved n) a b moves)

-- sets closed by a table
pub closed_led : (f : Residues → Residues) → IsLinear f → (t old new : List (List Bool)) → IsTableOf f t
    → new ≡ rows_of (λ k. closed (applied 8 t) (row old k)) → LedBy (closed f) old new
closed_led f l t old new is made k lt =
    agree_then (row new k) (closed (applied 8 t) (row old k)) (closed f (row old k)) (rows_led (closed (applied 8 t)) old new made k lt)
    (closed_is f l t is (row old k))

pub closed_by_moves : (n : ℕ) (t old new : List (List Bool)) → IsTableOf (moved n) t
    → new ≡ rows_of (λ k. closed (applied 8 t) (row old k)) → LedBy (closed (moved n)) old new
closed_by_moves n t old new is made = closed_led (moved n) (linear_moved n) t old new is made

pub set_closed : (f : Residues → Residues) → IsLinear f → (t : List (List Bool)) (old new : List Bool) → IsTableOf f t
    → new ≡ each_of (closed (applied 8 t) (set_of old)) → Agree (set_of new) (closed f (set_of old))
set_closed f l t old new is made = agree_then (set_of new) (closed (applied 8 t) (set_of old)) (closed f (set_of old))
    (agree_each (closed (applied 8 t) (set_of old)) new made) (closed_is f l t is (set_of old))

pub set_closed_by_moves : (n : ℕ) (t : List (List Bool)) (old new : List Bool) → IsTableOf (moved n) t
    → new ≡ each_of (closed (applied 8 t) (set_of old)) → Agree (set_of new) (closed (moved n) (set_of old))
set_closed_by_moves n t old new is made = set_closed (moved n) (linear_moved n) t old new is made

-- aligns
pub aligned_led : (a : ℕ) (b : Bool) (old new : List (List Bool)) → b ≡ true → new ≡ rows_of (λ k. aligned a (row old k))
    → LedBy (λ S. if b then aligned a S else S) old new
aligned_led a true old new e is = rows_led (aligned a) old new is
aligned_led a false old new e is = absurd (cc)

pub unaligned_led : (a : ℕ) (b : Bool) (old : List (List Bool)) → b ≡ false → LedBy (λ S. if b then aligned a S else S) old old
unaligned_led a true old e = absurd (cc)
unaligned_led a false old e = led_same old

-- one residue more, if it is there
pub row_chosen : (b : Bool) (M : Residues) (t : List (List Bool)) (k : ℕ) (r s : List Bool) → b ≡ true → r ≡ get_or t k []
    → s ≡ each_of (sum M (set_of r)) → Agree (set_of s) (if b then sum M (row t k) else M)
row_chosen true M t k r s e at is =
    agree_each (sum M (row t k)) s (is ∙ ap (λ (l : List Bool). each_of (sum M (set_of l))) at)
row_chosen false M t k r s e at is = absurd (cc)

pub row_kept : (b : Bool) (M : Residues) (t : List (List Bool)) (k : ℕ) → b ≡ false → Agree M (if b then sum M (row t k) else M)
row_kept true M t k e = absurd (cc)
row_kept false M t k e = λ r lt. refl
