-- Operations stand interface by interface, by induction on the interfaces.
use Rattle.std.proofs.Common.{◌≡◌, Bool, true, false, ◌==◌, ℕ, zero, suc, ◌+◌, ◌<◌, ◌≤◌, List, [], ◌∷◌, ◌++◌, length, map, take, drop, get_or, Some, option_map, slice_get, refl, sym, ap, subst, ◌∙◌, length-append, arith}
use Rattle.std.specs.Prelude.{if◌then◌else◌}
use Rattle.std.proofs.lemmas.List.{length-map}
use Rattle.std.proofs.lemmas.Option.{slice_get_read}
use Rattle.std.proofs.lemmas.Bool.Decides.{Decides-eqb}
use Rattle.wire_def.specs.declared.encoding.Back.{Back}
use Rattle.aoi.specs.Plain.{PlainOperation, PlainInterface}
use Rattle.pres.specs.declared.ops.Op.{Op}
use Rattle.pres.specs.Bindings.{Binding, IsBinding}
use Rattle.pres.specs.Faces.{Face, faces}
use Rattle.pres.specs.Offers.{Offer, offer, offer_at, offers_from, operations, gotten, gets_null, null_operation, type_faces}
use Rattle.json_shape.specs.Homes.{homes, homes_from, Leads}
use Rattle.std.proofs.lemmas.Bool.{false_from_ne_true}

-- ---- the operations of a bound unit

home : Offer → ℕ
home f = f.interface

homes_at : (fs : List Face) (ops : List Op) → map home (map (offer_at fs) ops) ≡ homes ops
unfolding home
homes_at fs [] = refl
homes_at fs (o ∷ ops) = ap (λ (l : List ℕ). o.interface ∷ l) (homes_at fs ops)

homes_of : (fs : List Face) (b : Back) (k : ℕ) (ops : List PlainOperation) (more : List Offer) (rest : List ℕ) → map home more ≡ rest
    → map home (map (offer fs b k) ops ++ more) ≡ map (λ (op : PlainOperation). k) ops ++ rest
unfolding home
homes_of fs b k [] more rest e = e
homes_of fs b k (op ∷ ops) more rest e = ap (λ (l : List ℕ). k ∷ l) (homes_of fs b k ops more rest e)

homes_offered : (fs : List Face) (b : Back) (k : ℕ) (is : List PlainInterface) → map home (offers_from fs b k is) ≡ homes_from b k is
homes_offered fs b k [] = refl
homes_offered fs b k (i ∷ is) =
    homes_of fs b k (operations b i) (offers_from fs b (suc k) is) (homes_from b (suc k) is) (homes_offered fs b (suc k) is)

-- operations stand interface by interface
pub bound_homes : (b : Binding) → IsBinding b → homes b.ops ≡ homes_from b.back 0 b.unit.interfaces
bound_homes b h =
    sym (homes_at (faces b.nodes b.shapes) b.ops) ∙ ap (λ (fs : List Offer). map home fs) h.offered
    ∙ homes_offered (type_faces b.unit) b.back 0 b.unit.interfaces

-- ---- where those of an interface end

get_home : (ops : List Op) (n : ℕ) → slice_get (homes ops) n ≡ option_map (λ (o : Op). o.interface) (slice_get ops n)
get_home [] n = refl
get_home (o ∷ ops) zero = refl
get_home (o ∷ ops) (suc n) = get_home ops n

get_past : (k : ℕ) (ops : List PlainOperation) (rest : List ℕ)
    → slice_get (map (λ (op : PlainOperation). k) ops ++ rest) (length ops) ≡ slice_get rest 0
get_past k [] rest = refl
get_past k (op ∷ ops) rest = get_past k ops rest

map_more : (k : ℕ) (xs ys : List PlainOperation) (rest : List ℕ)
    → map (λ (op : PlainOperation). k) (xs ++ ys) ++ rest
    ≡ map (λ (op : PlainOperation). k) xs ++ (map (λ (op : PlainOperation). k) ys ++ rest)
map_more k [] ys rest = refl
map_more k (x ∷ xs) ys rest = ap (λ (l : List ℕ). k ∷ l) (map_more k xs ys rest)

not_below_by : (b : Back) (k m : ℕ) (is : List PlainInterface) (ops : List PlainOperation)
    → slice_get (map (λ (op : PlainOperation). k) ops ++ homes_from b (suc k) is) 0 ≡ Some m
    → (slice_get (homes_from b (suc k) is) 0 ≡ Some m → suc k ≤ m) → k ≤ m
not_below_by b k m is [] e more = let above : suc k ≤ m = more e in omega arith
not_below_by b k m is (op ∷ ops) e more = let same : k ≡ m = cc in omega arith

-- the first of the homes from k on is not below k
not_below : (b : Back) (k m : ℕ) (is : List PlainInterface) → slice_get (homes_from b k is) 0 ≡ Some m → k ≤ m
not_below b k m [] e = absurd cc
not_below b k m (i ∷ is) e = not_below_by b k m is (operations b i) e (not_below b (suc k) m is)

first_past : (b : Back) (k : ℕ) (i : PlainInterface) (is : List PlainInterface)
    → slice_get (homes_from b k (i ∷ is)) (length i.ops)
    ≡ slice_get (map (λ (op : PlainOperation). k) (gotten b i) ++ homes_from b (suc k) is) 0
first_past b k i is =
    ap (λ (l : List ℕ). slice_get l (length i.ops)) (map_more k i.ops (gotten b i) (homes_from b (suc k) is))
    ∙ get_past k i.ops (map (λ (op : PlainOperation). k) (gotten b i) ++ homes_from b (suc k) is)

null_by : (b : Back) (k : ℕ) (is : List PlainInterface) (t : Bool) (m : ℕ)
    → Some m ≡ slice_get (map (λ (op : PlainOperation). k) (if t then null_operation ∷ [] else []) ++ homes_from b (suc k) is) 0
    → (m == k) ≡ t
null_by b k is true m e = let same : m ≡ k = cc in (Decides-eqb m k).1 same
null_by b k is false m e = false_from_ne_true (m == k) (λ h. omega (arith, not_below b (suc k) m is (sym e), (Decides-eqb m k).0 h))

home_past : (b : Back) (k : ℕ) (i : PlainInterface) (is : List PlainInterface) (ops : List Op) → homes ops ≡ homes_from b k (i ∷ is)
    → option_map (λ (o : Op). o.interface) (slice_get ops (length i.ops))
    ≡ slice_get (map (λ (op : PlainOperation). k) (gotten b i) ++ homes_from b (suc k) is) 0
home_past b k i is ops e =
    sym (get_home ops (length i.ops)) ∙ ap (λ (l : List ℕ). slice_get l (length i.ops)) e ∙ first_past b k i is

-- the operation after those of the file tells whether there is one more
pub null_here : (b : Back) (k : ℕ) (i : PlainInterface) (ops : List Op) (n : ℕ) (op : Op) → Leads b k i ops → n ≡ length i.ops
    → n < length ops → op ≡ get_or ops n op → (op.interface == k) ≡ gets_null b i
null_here b k i ops n op leads e h is =
    let there : slice_get ops (length i.ops) ≡ Some op = ap (slice_get ops) (sym e) ∙ slice_get_read ops (length ops) n op refl h is in
    null_by b k leads.others (gets_null b i) op.interface
    (ap (option_map (λ (o : Op). o.interface)) (sym there) ∙ home_past b k i leads.others ops leads.are)

own_length : (xs : List PlainOperation) (t : Bool)
    → length (xs ++ (if t then null_operation ∷ [] else [])) ≡ (if t then length xs + 1 else length xs)
own_length xs true = length-append xs (null_operation ∷ []) ∙ omega arith
own_length xs false = length-append xs [] ∙ omega arith

own_count : (b : Back) (i : PlainInterface) (t : Bool) → t ≡ gets_null b i
    → length (operations b i) ≡ (if t then length i.ops + 1 else length i.ops)
own_count b i t e =
    subst (λ (g : Bool). length (operations b i) ≡ (if g then length i.ops + 1 else length i.ops)) (sym e)
    (own_length i.ops (gets_null b i))

pub count_more : (b : Back) (i : PlainInterface) (n : ℕ) → n ≡ length i.ops → true ≡ gets_null b i → n + 1 ≡ length (operations b i)
count_more b i n e t = ap (λ (m : ℕ). m + 1) e ∙ sym (own_count b i true t)

pub count_same : (b : Back) (i : PlainInterface) (n : ℕ) → n ≡ length i.ops → false ≡ gets_null b i → n ≡ length (operations b i)
count_same b i n e t = e ∙ sym (own_count b i false t)

-- there are as many operations as those of the interface
pub count_within : (b : Back) (k : ℕ) (i : PlainInterface) (ops : List Op) → Leads b k i ops → length (operations b i) ≤ length ops
count_within b k i ops leads =
    let all : length (homes ops) ≡ length (map (λ (op : PlainOperation). k) (operations b i)) + length (homes_from b (suc k) leads.others) =
    ap (λ (l : List ℕ). length l) leads.are
    ∙ length-append (map (λ (op : PlainOperation). k) (operations b i)) (homes_from b (suc k) leads.others) in
    omega (arith, all, length-map ops (λ (o : Op). o.interface), length-map (operations b i) (λ (op : PlainOperation). k))

-- ---- those of one interface, and those after them

-- operations of the k-th interface
abbrev pub AreOf : ℕ → List Op → Type 0
AreOf k [] = Unit {0}
AreOf k (o ∷ os) = (o.interface ≡ k) × AreOf k os

pub are_of : (k : ℕ) (own : List PlainOperation) (rest : List ℕ) (ops : List Op) → homes ops ≡ map (λ (op : PlainOperation). k) own ++ rest
    → AreOf k (take (length own) ops) × (homes (drop (length own) ops) ≡ rest)
are_of k [] rest ops e = (tt, e)
are_of k (op ∷ own) rest [] e = absurd cc
are_of k (op ∷ own) rest (o ∷ ops) e =
    let here : o.interface ≡ k = cc in
    let more : homes ops ≡ map (λ (op : PlainOperation). k) own ++ rest = cc in
    let both = are_of k own rest ops more in
    ((here, both.0), both.1)
