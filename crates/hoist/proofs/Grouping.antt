-- Groups of parts, by the octets that fill them, by induction on the list of parts.
use Rattle.std.proofs.Common.{◌≡◌, ℕ, zero, suc, ◌+◌, ◌*◌, ◌≤◌, min, Bool, true, false, nat_le, if◌then◌else◌, List, [], ◌∷◌, ◌++◌, Option, None, Some, refl, ap, ◌∙◌, arith, append_assoc}
use Rattle.std.proofs.lemmas.Bool.Decides.{nat_tests}
use Rattle.mint.specs.Values.{Val, Vals, no_more, val}
use Rattle.hoist.specs.Regions.{Part, small_part, row_part, break_part, lone, groups, with_breaks}

-- octets of parts: those of the small ones up to a row or a break, and the whole of what comes after
abbrev pub load : List Part → ℕ
load [] = 0
load (row_part ∷ ps) = 8192 * suc (groups None ps)
load (break_part ∷ ps) = 8192 * groups None ps
load (small_part n ∷ ps) = min n 8192 + load ps

small_fits : (b : Bool) (m n l g k : ℕ) → nat_le (m + n) 8192 ≡ b → l + min (m + n) 8192 ≤ 8192 * g + 8192
    → l + min n 8192 ≤ 8192 * k + 8192
    → (min n 8192 + l) + min m 8192 ≤ 8192 * (if b then g else suc k) + 8192
small_fits true m n l g k e h i = let le : m + n ≤ 8192 = grind (arith, nat_tests, e) in omega (arith, le, h)
small_fits false m n l g k e h i = omega (arith, i)

opened : (m : ℕ) (ps : List Part) → load ps + min m 8192 ≤ 8192 * groups (Some m) ps + 8192
opened m [] = omega arith
opened m (row_part ∷ ps) = omega arith
opened m (break_part ∷ ps) = omega arith
opened m (small_part n ∷ ps) =
    small_fits (nat_le (m + n) 8192) m n (load ps) (groups (Some (m + n)) ps) (groups (Some n) ps) refl (opened (m + n) ps) (opened n ps)

pub loaded : (ps : List Part) → load ps ≤ 8192 * groups None ps
loaded [] = omega arith
loaded (row_part ∷ ps) = omega arith
loaded (break_part ∷ ps) = omega arith
loaded (small_part n ∷ ps) = let o = opened n ps in omega (arith, o)

one_of : (b : Bool) (x y k a c : ℕ) → x ≡ a + k → y ≡ c + k → (if b then x else suc y) ≡ (if b then a else suc c) + k
one_of true x y k a c e f = e
one_of false x y k a c e f = omega (arith, f)

pub apart_groups : (begun : Option ℕ) (a ps : List Part) → groups begun (a ++ break_part ∷ ps) ≡ groups begun a + groups None ps
apart_groups begun [] ps = omega arith
apart_groups begun (row_part ∷ a) ps = let one = apart_groups None a ps in omega (arith, one)
apart_groups begun (break_part ∷ a) ps = apart_groups None a ps
apart_groups None (small_part n ∷ a) ps = let one = apart_groups (Some n) a ps in omega (arith, one)
apart_groups (Some m) (small_part n ∷ a) ps =
    one_of (nat_le (m + n) 8192) (groups (Some (m + n)) (a ++ break_part ∷ ps)) (groups (Some n) (a ++ break_part ∷ ps)) (groups None ps)
    (groups (Some (m + n)) a) (groups (Some n) a) (apart_groups (Some (m + n)) a ps) (apart_groups (Some n) a ps)

-- the groups of each
abbrev pub total : (Val → List Part) → Vals → ℕ
total f no_more = 0
total f (val v vs) = groups None (f v) + total f vs

pub broken_groups : (f : Val → List Part) (vs : Vals) (ps : List Part) → groups None (with_breaks f vs ++ ps) ≡ total f vs + groups None ps
broken_groups f no_more ps = omega arith
broken_groups f (val v vs) ps =
    let one = ap (groups None) (append_assoc (f v) (break_part ∷ with_breaks f vs) ps) ∙ apart_groups None (f v) (with_breaks f vs ++ ps) in
    let others = broken_groups f vs ps in
    omega (arith, one, others)

pub load_lone : (n : ℕ) (ps : List Part) → load ps ≤ load (lone n ++ ps)
load_lone zero ps = omega arith
load_lone (suc n) ps = omega arith

pub load_some : (n : ℕ) (ps : List Part) → 1 ≤ n → load ps + 1 ≤ load (lone n ++ ps)
load_some zero ps le = absurd (omega (arith, le))
load_some (suc n) ps le = omega arith

pub load_small : (n : ℕ) (ps : List Part) → n ≤ 8192 → load ps + n ≤ load (lone n ++ ps)
load_small zero ps le = omega arith
load_small (suc n) ps le = omega (arith, le)
