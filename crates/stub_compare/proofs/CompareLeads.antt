-- What one more operation and one more body make of each set of a table.
use Rattle.std.proofs.Common.{◌≡◌, ℕ, ◌+◌, ◌<◌, ◌≤◌, ℤ, Bool, true, false, ◌||◌, List, [], get_or, length, drop, Option, Some, None, refl, sym, ap, ◌∙◌, subst}
use Rattle.std.proofs.Math.ListN.{drop_of_length-le}
use Rattle.mint.specs.declared.node.Node.{Node}
use Rattle.cast_stub.specs.declared.send.SendOp.{SendOp}
use Rattle.cast_stub.specs.Block.{Block, Cases, Piece, op_seen, code_seen, cases_seen}
use Rattle.stub_flat.specs.Places.{Spot, arm_spot, rest_spot}
use Rattle.stub_flat.specs.Residues.{Residues, none, sum}
use Rattle.stub_flat.specs.Leaves.{leaves, ways_leave}
use Rattle.stub_compare.specs.CompareSets.{Agree, LedBy, row, rows_of}
use Rattle.stub_compare.specs.CompareTold.{IsLedThrough}
use Rattle.stub_compare.proofs.CompareLists.{first_of}
use Rattle.stub_compare.proofs.CompareLinear.{agree_then}
use Rattle.stub_compare.proofs.CompareOps.{leaves_agree}
use Rattle.stub_compare.proofs.CompareTables.{row_is, sum_agree}

-- ---- operations

-- an operation that is seen as a piece, which leads as a function
pub leads_by : (N : List Node) (s : Spot) (op : SendOp) (p : Piece) (f : Residues → Residues) (old new : List (List Bool)) → op_seen op ≡ p
    → ((r : Block) (S : Residues) → leaves N s (p r) S ≡ leaves N s r (f S)) → LedBy f old new → IsLedThrough N s (op_seen op) old new
leads_by N s op p f old new seen is led =
    let made : IsLedThrough N s p old new = λ r k lt q small.
    leaves_agree N s r (f (row old k)) (row new k) (led k lt) q small ∙ ap (λ (X : Residues). X q) (sym (is r (row old k))) in
    subst (λ (z : Piece). IsLedThrough N s z old new) (sym seen) made

-- what may be there
pub sum_led : (f : Residues → Residues) (old behind new : List (List Bool)) → LedBy f old behind
    → new ≡ rows_of (λ k. sum (row old k) (row behind k)) → LedBy (λ S. sum S (f S)) old new
sum_led f old behind new led is k lt =
    agree_then (row new k) (sum (row old k) (row behind k)) (sum (row old k) (f (row old k)))
    (row_is (λ j. sum (row old j) (row behind j)) new is k lt)
    (sum_agree (row old k) (row old k) (row behind k) (f (row old k)) (λ q h. refl) (led k lt))

-- a function of a place, at the same place
pub led_at : {A : Type 0} (f : A → Residues → Residues) (x y : A) (old new : List (List Bool)) → x ≡ y → LedBy (f x) old new
    → LedBy (f y) old new
led_at {A} f x y old new e led = subst (λ (z : A). LedBy (f z) old new) e led

-- ---- blocks

-- what is left of a block makes of the sets so far what the block makes of the first ones
abbrev pub IsLeft : List Node → Spot → List SendOp → List SendOp → List (List Bool) → List (List Bool) → Type 0
IsLeft N s ops rest old now = (k : ℕ) → k < 9 → Agree (leaves N s (code_seen rest) (row now k)) (leaves N s (code_seen ops) (row old k))

pub left_all : (N : List Node) (s : Spot) (ops : List SendOp) (t : List (List Bool)) → IsLeft N s ops ops t t
left_all N s ops t k lt r small = refl

pub left_one : (N : List Node) (s : Spot) (ops items : List SendOp) (i : ℕ) (o : SendOp) (old now next : List (List Bool))
    → i < length items
    → o ≡ get_or items i o → IsLeft N s ops (drop i items) old now → IsLedThrough N s (op_seen o) now next
    → IsLeft N s ops (drop (i + 1) items) old next
left_one N s ops items i o old now next less is left led k lt r small =
    led (code_seen (drop (i + 1) items)) k lt r small
    ∙ ap (λ (l : List SendOp). leaves N s (code_seen l) (row now k) r) (sym (first_of items i o less is)) ∙ left k lt r small

pub left_none : (N : List Node) (s : Spot) (ops items : List SendOp) (i : ℕ) (old now : List (List Bool)) → length items ≤ i → items ≡ ops
    → IsLeft N s items (drop i items) old now → LedBy (leaves N s (code_seen ops)) old now
left_none N s ops items i old now le same left k lt r small =
    ap (λ (l : List SendOp). leaves N s (code_seen l) (row now k) r) (sym (drop_of_length-le items le)) ∙ left k lt r small
    ∙ ap (λ (l : List SendOp). leaves N s (code_seen l) (row old k) r) same

-- ---- bodies of a switch

or_assoc : (a b c : Bool) → ((a || b) || c) ≡ (a || (b || c))
or_assoc true b c = refl
or_assoc false b c = refl

or_none : (a : Bool) → (a || false) ≡ a
or_none true = refl
or_none false = refl

-- the sets behind the bodies so far, and what the bodies that are left make of each set
abbrev pub AreLeft : List Node → Option Node → Cases → Cases → Cases → List (List Bool) → List (List Bool) → Type 0
AreLeft N n all cs rest t total = (k : ℕ) → k < 9 → Agree (sum (row total k) (ways_leave N n all rest (row t k)))
    (ways_leave N n all cs (row t k))

pub ways_all : (N : List Node) (n : Option Node) (all cs : Cases) (t total : List (List Bool)) → total ≡ rows_of (λ k. none)
    → AreLeft N n all cs cs t total
ways_all N n all cs t total is k lt r small =
    ap (λ (b : Bool). b || ways_leave N n all cs (row t k) r) (row_is (λ j. none) total is k lt r small)

-- sets with those behind one more body
more_sum : (a b c : Residues) (s : Residues) → Agree c (sum a b) → Agree (sum c s) (sum a (sum b s))
more_sum a b c s is r small = ap (λ (x : Bool). x || s r) (is r small) ∙ or_assoc (a r) (b r) (s r)

pub ways_one : (N : List Node) (n : Option Node) (all cs : Cases) (items : List (ℤ × List SendOp)) (last : Option (List SendOp)) (i : ℕ)
    (z : ℤ × List SendOp) (spot : Spot) (t total behind next : List (List Bool)) → i < length items → z ≡ get_or items i z
    → spot ≡ arm_spot n z.0 → AreLeft N n all cs (cases_seen (drop i items) last) t total
    → LedBy (leaves N spot (code_seen z.1)) t behind → next ≡ rows_of (λ k. sum (row total k) (row behind k))
    → AreLeft N n all cs (cases_seen (drop (i + 1) items) last) t next
ways_one N n all cs items last i z spot t total behind next less at place left led is k lt r small =
    let W = ways_leave N n all (cases_seen (drop (i + 1) items) last) (row t k) in
    let B = leaves N (arm_spot n z.0) (code_seen z.1) (row t k) in
    let body = led_at (λ (x : Spot). leaves N x (code_seen z.1)) spot (arm_spot n z.0) t behind place led in
    let summed : Agree (row next k) (sum (row total k) B) =
    agree_then (row next k) (sum (row total k) (row behind k)) (sum (row total k) B)
    (row_is (λ j. sum (row total j) (row behind j)) next is k lt)
    (sum_agree (row total k) (row total k) (row behind k) B (λ q h. refl) (body k lt)) in
    more_sum (row total k) B (row next k) W summed r small
    ∙ ap (λ (l : List (ℤ × List SendOp)). sum (row total k) (ways_leave N n all (cases_seen l last) (row t k)) r)
    (sym (first_of items i z less at))
    ∙ left k lt r small

-- the bodies as the loop goes over them
ways_over : (N : List Node) (n : Option Node) (all : Cases) (items cases : List (ℤ × List SendOp)) (last : Option (List SendOp)) (i : ℕ)
    (t total : List (List Bool)) → length items ≤ i → items ≡ cases
    → AreLeft N n all (cases_seen items last) (cases_seen (drop i items) last) t total
    → AreLeft N n all (cases_seen cases last) (cases_seen [] last) t total
ways_over N n all items cases last i t total le same left =
    let P : List (ℤ × List SendOp) → Type 0 = λ l. AreLeft N n all (cases_seen l last) (cases_seen [] last) t total in
    let Q : List (ℤ × List SendOp) → Type 0 = λ l. AreLeft N n all (cases_seen items last) (cases_seen l last) t total in
    subst P same (subst Q (drop_of_length-le items le) left)

pub ways_last : (N : List Node) (n : Option Node) (all : Cases) (items cases : List (ℤ × List SendOp)) (last : Option (List SendOp)) (i : ℕ)
    (body : List SendOp) (spot : Spot) (t total behind new : List (List Bool)) → length items ≤ i → items ≡ cases → last ≡ Some body
    → spot ≡ rest_spot n all → AreLeft N n all (cases_seen items last) (cases_seen (drop i items) last) t total
    → LedBy (leaves N spot (code_seen body)) t behind → new ≡ rows_of (λ k. sum (row total k) (row behind k))
    → LedBy (ways_leave N n all (cases_seen cases last)) t new
ways_last N n all items cases last i body spot t total behind new le same there place left led is k lt =
    let over = ways_over N n all items cases last i t total le same left in
    let R : Option (List SendOp) → Type 0 = λ l. AreLeft N n all (cases_seen cases last) (cases_seen [] l) t total in
    let ends = subst R there over in
    let B = leaves N (rest_spot n all) (code_seen body) (row t k) in
    let inner = led_at (λ (x : Spot). leaves N x (code_seen body)) spot (rest_spot n all) t behind place led in
    agree_then (row new k) (sum (row total k) B) (ways_leave N n all (cases_seen cases last) (row t k))
    (agree_then (row new k) (sum (row total k) (row behind k)) (sum (row total k) B)
    (row_is (λ j. sum (row total j) (row behind j)) new is k lt)
    (sum_agree (row total k) (row total k) (row behind k) B (λ q h. refl) (inner k lt))) (ends k lt)

pub ways_end : (N : List Node) (n : Option Node) (all : Cases) (items cases : List (ℤ × List SendOp)) (last : Option (List SendOp)) (i : ℕ)
    (t total empty new : List (List Bool)) → length items ≤ i → items ≡ cases → last ≡ None
    → AreLeft N n all (cases_seen items last) (cases_seen (drop i items) last) t total
    → empty ≡ rows_of (λ k. none) → new ≡ rows_of (λ k. sum (row total k) (row empty k))
    → LedBy (ways_leave N n all (cases_seen cases last)) t new
ways_end N n all items cases last i t total empty new le same there left nothing is k lt =
    let over = ways_over N n all items cases last i t total le same left in
    let R : Option (List SendOp) → Type 0 = λ l. AreLeft N n all (cases_seen cases last) (cases_seen [] l) t total in
    let ends = subst R there over in
    agree_then (row new k) (sum (row total k) none) (ways_leave N n all (cases_seen cases last) (row t k))
    (agree_then (row new k) (sum (row total k) (row empty k)) (sum (row total k) none)
    (row_is (λ j. sum (row total j) (row empty j)) new is k lt)
    (sum_agree (row total k) (row total k) (row empty k) none (λ q h. refl) (row_is (λ j. none) empty nothing k lt))) (ends k lt)
