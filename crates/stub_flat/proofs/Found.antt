-- Each call of the codes that are found leads to the node of the code that it names, by induction on the rounds.
use Rattle.std.proofs.Common.{◌≡◌, ◌⊎◌, inl, inr, ℕ, zero, suc, ◌<◌, ◌≤◌, List, [], ◌∷◌, ◌++◌, length, Option, None, Some, option_map, Bool, true, false, if◌then◌else◌, nat_eq, nat_lt, slice_get, refl, sym, ap, subst, ◌∙◌, arith}
use Rattle.std.specs.List.{AllByRecursion}
use Rattle.std.proofs.lemmas.Bool.{cases_lt, eqb-true, ltb-false}
use Rattle.mint.specs.declared.node.Node.{Node}
use Rattle.cast_stub.specs.Block.{Block}
use Rattle.cast_stub.specs.Parts.{on_some}
use Rattle.stub_flat.specs.Places.{Spot}
use Rattle.stub_flat.specs.Residues.{every}
use Rattle.stub_flat.specs.Items.{Items, items}
use Rattle.stub_flat.specs.Flat.{Called, calls, Spots, noted, all_noted, calls_of_known, found_in, unknown, spots, list_items}
use Rattle.cast_stub.proofs.Filled.{some_of, mapped_of}

-- ---- the parts of a list of calls

pub calls_first : (P : Called → Type 0) (a b : List Called) → AllByRecursion P (a ++ b) → AllByRecursion P a
calls_first P [] b h = tt
calls_first P (k ∷ a) b h = (h.0, calls_first P a b h.1)

pub calls_second : (P : Called → Type 0) (a b : List Called) → AllByRecursion P (a ++ b) → AllByRecursion P b
calls_second P [] b h = h
calls_second P (k ∷ a) b h = calls_second P a b h.1

-- ---- more nodes that are known

-- the nodes of one list are in another
abbrev Extends : Spots → Spots → Type 0
Extends [] [] = Unit {0}
Extends (None ∷ ts) (u ∷ us) = Extends ts us
Extends (Some n ∷ ts) (u ∷ us) = (u ≡ Some n) × Extends ts us
Extends _ _ = ⊥

extends_same : (ts : Spots) → Extends ts ts
extends_same [] = tt
extends_same (None ∷ ts) = extends_same ts
extends_same (Some n ∷ ts) = (refl, extends_same ts)

extends_then : (ts us vs : Spots) → Extends ts us → Extends us vs → Extends ts vs
extends_then [] [] [] f g = tt
extends_then [] [] (v ∷ vs) f g = absurd g
extends_then [] (u ∷ us) vs f g = absurd f
extends_then (None ∷ ts) [] vs f g = absurd f
extends_then (Some n ∷ ts) [] vs f g = absurd f
extends_then (None ∷ ts) (None ∷ us) [] f g = absurd g
extends_then (None ∷ ts) (Some m ∷ us) [] f g = absurd g
extends_then (None ∷ ts) (None ∷ us) (v ∷ vs) f g = extends_then ts us vs f g
extends_then (None ∷ ts) (Some m ∷ us) (v ∷ vs) f g = extends_then ts us vs f g.1
extends_then (Some n ∷ ts) (None ∷ us) vs f g = let no = f.0 in absurd cc
extends_then (Some n ∷ ts) (Some m ∷ us) [] f g = absurd g
extends_then (Some n ∷ ts) (Some m ∷ us) (v ∷ vs) f g = (g.0 ∙ f.0, extends_then ts us vs f.1 g.1)

extends_long : (ts us : Spots) → Extends ts us → length us ≡ length ts
extends_long [] [] f = refl
extends_long [] (u ∷ us) f = absurd f
extends_long (None ∷ ts) [] f = absurd f
extends_long (Some n ∷ ts) [] f = absurd f
extends_long (None ∷ ts) (u ∷ us) f = ap suc (extends_long ts us f)
extends_long (Some n ∷ ts) (u ∷ us) f = ap suc (extends_long ts us f.1)

extends_at : (ts us : Spots) (k n : ℕ) → Extends ts us → slice_get ts k ≡ Some (Some n) → slice_get us k ≡ Some (Some n)
extends_at [] us k n f e = absurd cc
extends_at (None ∷ ts) [] k n f e = absurd f
extends_at (Some m ∷ ts) [] k n f e = absurd f
extends_at (None ∷ ts) (u ∷ us) zero n f e = absurd cc
extends_at (None ∷ ts) (u ∷ us) (suc k) n f e = extends_at ts us k n f e
extends_at (Some m ∷ ts) (u ∷ us) zero n f e = let same = f.0 in cc
extends_at (Some m ∷ ts) (u ∷ us) (suc k) n f e = extends_at ts us k n f.1 e

-- how many nodes are not known
abbrev open_spots : Spots → ℕ
open_spots [] = 0
open_spots (None ∷ ts) = suc (open_spots ts)
open_spots (Some n ∷ ts) = open_spots ts

open_fewer : (ts us : Spots) → Extends ts us → open_spots us ≤ open_spots ts
open_fewer [] [] f = omega arith
open_fewer [] (u ∷ us) f = absurd f
open_fewer (None ∷ ts) [] f = absurd f
open_fewer (Some n ∷ ts) [] f = absurd f
open_fewer (None ∷ ts) (None ∷ us) f = let rest = open_fewer ts us f in omega (arith, rest)
open_fewer (None ∷ ts) (Some m ∷ us) f = let rest = open_fewer ts us f in omega (arith, rest)
open_fewer (Some n ∷ ts) (None ∷ us) f = let no = f.0 in absurd cc
open_fewer (Some n ∷ ts) (Some m ∷ us) f = open_fewer ts us f.1

-- where no fewer are open, the nodes are the same
none_found : (ts us : Spots) → Extends ts us → open_spots ts ≤ open_spots us → us ≡ ts
none_found [] [] f le = refl
none_found [] (u ∷ us) f le = absurd f
none_found (None ∷ ts) [] f le = absurd f
none_found (Some n ∷ ts) [] f le = absurd f
none_found (None ∷ ts) (None ∷ us) f le = ap (λ (l : Spots). None ∷ l) (none_found ts us f (omega (arith, le)))
none_found (None ∷ ts) (Some m ∷ us) f le = let rest = open_fewer ts us f in absurd (omega (arith, le, rest))
none_found (Some n ∷ ts) (None ∷ us) f le = let no = f.0 in absurd cc
none_found (Some n ∷ ts) (Some m ∷ us) f le =
    ap (λ (s : Spot). s ∷ us) f.0 ∙ ap (λ (l : Spots). Some n ∷ l) (none_found ts us f.1 le)

-- ---- calls

-- a call leads to the node of its code, or beyond the list
abbrev pub Agrees : Spots → Called → Type 0
Agrees ts c = (length ts ≤ c.0) ⊎ ((n : ℕ) × ((c.1 ≡ Some n) × (slice_get ts c.0 ≡ Some (Some n))))

abbrev pub AllAgree : Spots → List Called → Type 0
AllAgree ts cs = AllByRecursion (λ c. Agrees ts c) cs

agrees_later : (ts us : Spots) (c : Called) → Extends ts us → Agrees ts c → Agrees us c
agrees_later ts us c f (inl le) = let long = extends_long ts us f in inl (omega (arith, le, long))
agrees_later ts us c f (inr g) = inr (g.0, (g.1.0, extends_at ts us c.0 g.0 f g.1.1))

all_later : (ts us : Spots) (cs : List Called) → Extends ts us → AllAgree ts cs → AllAgree us cs
all_later ts us [] f g = tt
all_later ts us (c ∷ cs) f g = (agrees_later ts us c f g.0, all_later ts us cs f g.1)

-- a call that is noted
record IsNoted (c : Called) (ts us : Spots) : Type 0 where
  more : Extends ts us
  agrees : Agrees us c

further : (k n : ℕ) (t : Spot) (us : Spots) → Agrees us (k, Some n) → Agrees (t ∷ us) (suc k, Some n)
further k n t us (inl le) = inl (omega (arith, le))
further k n t us (inr g) = inr (g.0, (g.1.0, g.1.1))

extends_one : (t : Spot) (ts us : Spots) → Extends ts us → Extends (t ∷ ts) (t ∷ us)
extends_one None ts us f = f
extends_one (Some n) ts us f = (refl, f)

noted_is : (k : ℕ) (s : Spot) (ts us : Spots) → noted (k, s) ts ≡ Some us → IsNoted (k, s) ts us
noted_is k s [] us e =
    let same : [] ≡ us = cc in
    subst (λ (l : Spots). IsNoted (k, s) [] l) same (record { more = tt; agrees = inl (omega arith) })
noted_is k None (t ∷ ts) us e = by (nat_lt k (length (t ∷ ts))) refl e where
  by : (b : Bool) → nat_lt k (length (t ∷ ts)) ≡ b → (if b then None else Some (t ∷ ts)) ≡ Some us → IsNoted (k, None) (t ∷ ts) us
  by true f g = absurd cc
  by false f g =
      let same : t ∷ ts ≡ us = cc in
      let beyond = ltb-false k (length (t ∷ ts)) f in
      subst (λ (l : Spots). IsNoted (k, None) (t ∷ ts) l) same
      (record { more = extends_same (t ∷ ts); agrees = inl (omega (arith, beyond)) })
noted_is zero (Some n) (None ∷ ts) us e =
    let same : Some n ∷ ts ≡ us = cc in
    subst (λ (l : Spots). IsNoted (zero, Some n) (None ∷ ts) l) same
    (record { more = extends_same ts; agrees = inr (n, (refl, refl)) })
noted_is zero (Some n) (Some m ∷ ts) us e = by (nat_eq n m) refl e where
  by : (b : Bool) → nat_eq n m ≡ b → (if b then Some (Some m ∷ ts) else None) ≡ Some us → IsNoted (zero, Some n) (Some m ∷ ts) us
  by true f g =
      let same : Some m ∷ ts ≡ us = cc in
      let one : m ≡ n = sym (eqb-true n m f) in
      subst (λ (l : Spots). IsNoted (zero, Some n) (Some m ∷ ts) l) same
      (record { more = extends_same (Some m ∷ ts); agrees = inr (n, (refl, ap (λ (x : ℕ). Some (Some x)) one)) })
  by false f g = absurd cc
noted_is (suc k) (Some n) (t ∷ ts) us e =
    let m = mapped_of (noted (k, Some n) ts) (λ (l : Spots). t ∷ l) us e in
    let rest = noted_is k (Some n) ts m.0 m.1.0 in
    subst (λ (l : Spots). IsNoted (suc k, Some n) (t ∷ ts) l) m.1.1
    (record { more = extends_one t ts m.0 rest.more; agrees = further k n t m.0 rest.agrees })

-- calls that are noted
record AreNoted (cs : List Called) (ts us : Spots) : Type 0 where
  more : Extends ts us
  agree : AllAgree us cs

all_noted_is : (cs : List Called) (ts us : Spots) → all_noted cs ts ≡ Some us → AreNoted cs ts us
all_noted_is [] ts us e =
    let same : ts ≡ us = cc in
    subst (λ (l : Spots). AreNoted [] ts l) same (record { more = extends_same ts; agree = tt })
all_noted_is (c ∷ cs) ts us e =
    let x = some_of (noted c ts) (all_noted cs) us e in
    let one = noted_is c.0 c.1 ts x.0 x.1.0 in
    let rest = all_noted_is cs x.0 us x.1.1 in
    record { more = extends_then ts x.0 us one.more rest.more; agree = (agrees_later x.0 us c rest.more one.agrees, rest.agree) }

-- ---- rounds

module _ (N : List Node) (bs : List Block) where
  found_more : (n : ℕ) (ts us : Spots) → found_in n N bs ts ≡ Some us → Extends ts us
  found_more zero ts us e = let same : ts ≡ us = cc in subst (λ (l : Spots). Extends ts l) same (extends_same ts)
  found_more (suc n) ts us e =
      let x = some_of (all_noted (calls_of_known N bs ts) ts) (found_in n N bs) us e in
      extends_then ts x.0 us (all_noted_is (calls_of_known N bs ts) ts x.0 x.1.0).more (found_more n x.0 us x.1.1)

  -- nothing more is found
  still : (n : ℕ) (ts us : Spots) → all_noted (calls_of_known N bs ts) ts ≡ Some ts → found_in n N bs ts ≡ Some us → us ≡ ts
  still zero ts us e f = let same : ts ≡ us = cc in sym same
  still (suc n) ts us e f =
      let next : found_in (suc n) N bs ts ≡ found_in n N bs ts = ap (λ (x : Option Spots). on_some x (found_in n N bs)) e in
      still n ts us e (sym next ∙ f)

  -- after as many rounds as nodes were open each call agrees
  found_agree : (n : ℕ) (ts us : Spots) → open_spots ts < n → found_in n N bs ts ≡ Some us → AllAgree us (calls_of_known N bs us)
  found_agree zero ts us lt e = absurd (omega (arith, lt))
  found_agree (suc n) ts us lt e =
      let x = some_of (all_noted (calls_of_known N bs ts) ts) (found_in n N bs) us e in
      let one = all_noted_is (calls_of_known N bs ts) ts x.0 x.1.0 in
      elim (cases_lt (open_spots x.0) (open_spots ts)) [
        | inl fewer ↦ found_agree n x.0 us (omega (arith, lt, fewer)) x.1.1
        | inr same ↦
            let here : x.0 ≡ ts = none_found ts x.0 one.more same in
            let all : all_noted (calls_of_known N bs ts) ts ≡ Some ts = x.1.0 ∙ ap (λ (l : Spots). Some l) here in
            let there : found_in n N bs ts ≡ Some us = subst (λ (l : Spots). found_in n N bs l ≡ Some us) here x.1.1 in
            let last : us ≡ ts = still n ts us all there in
            subst (λ (l : Spots). AllAgree l (calls_of_known N bs l)) (sym last) (all_noted_is (calls_of_known N bs ts) ts ts all).agree
      ]

open_unknown : (bs : List Block) → open_spots (unknown bs) ≡ length bs
open_unknown [] = refl
open_unknown (b ∷ bs) = ap suc (open_unknown bs)

none_known : (N : List Node) (bs : List Block) → calls_of_known N bs (unknown bs) ≡ []
none_known N [] = refl
none_known N (b ∷ bs) = none_known N bs

-- calls of a code and of the codes so found
pub record AreFound (N : List Node) (s : Spot) (b : Block) (bs : List Block) (ts : Spots) : Type 0 where
  pub main : AllAgree ts (calls N s b)
  pub subs : AllAgree ts (calls_of_known N bs ts)

pub spots_are : (N : List Node) (s : Spot) (b : Block) (bs : List Block) (ts : Spots) → spots N s b bs ≡ Some ts → AreFound N s b bs ts
spots_are N s b bs ts e =
    let x = some_of (all_noted (calls N s b) (unknown bs)) (found_in (length bs) N bs) ts e in
    let one = all_noted_is (calls N s b) (unknown bs) x.0 x.1.0 in
    let all = open_unknown bs in
    let first = all_later x.0 ts (calls N s b) (found_more N bs (length bs) x.0 ts x.1.1) one.agree in
    elim (cases_lt (open_spots x.0) (length bs)) [
      | inl fewer ↦ record { main = first; subs = found_agree N bs (length bs) x.0 ts fewer x.1.1 }
      | inr same ↦
          let here : x.0 ≡ unknown bs = none_found (unknown bs) x.0 one.more (omega (arith, same, all)) in
          let quiet : all_noted (calls_of_known N bs (unknown bs)) (unknown bs) ≡ Some (unknown bs) =
          ap (λ (l : List Called). all_noted l (unknown bs)) (none_known N bs) in
          let there : found_in (length bs) N bs (unknown bs) ≡ Some ts =
          subst (λ (l : Spots). found_in (length bs) N bs l ≡ Some ts) here x.1.1 in
          let last : ts ≡ unknown bs = still N bs (length bs) (unknown bs) ts quiet there in
          record {
            main = first;
            subs = subst (λ (l : Spots). AllAgree l (calls_of_known N bs l)) (sym last)
                (subst (λ (l : List Called). AllAgree (unknown bs) l) (sym (none_known N bs)) tt);
          }
    ]

-- ---- the codes of a list

-- the code that a call names, with its items
pub record IsListed (N : List Node) (us : Spots) (bs : List Block) (is : List Items) (k n : ℕ) : Type 0 where
  pub code : Block
  pub its : Items
  pub there : slice_get bs k ≡ Some code
  pub found : slice_get is k ≡ Some its
  pub made : items N (Some n) code every ≡ Some its
  pub agree : AllAgree us (calls N (Some n) code)

pub listed : (N : List Node) (us : Spots) (bs : List Block) (ts : Spots) (is : List Items) (k n : ℕ) → list_items N bs ts ≡ Some is
    → slice_get ts k ≡ Some (Some n) → AllAgree us (calls_of_known N bs ts) → IsListed N us bs is k n
listed N us [] [] is k n e f a = absurd cc
listed N us [] (t ∷ ts) is k n e f a = absurd cc
listed N us (b ∷ bs) [] is k n e f a = absurd cc
listed N us (b ∷ bs) (None ∷ ts) is k n e f a = absurd cc
listed N us (b ∷ bs) (Some m ∷ ts) is zero n e f a =
    let x = some_of (items N (Some m) b every) (λ (i : Items). option_map (λ (l : List Items). i ∷ l) (list_items N bs ts)) is e in
    let y = mapped_of (list_items N bs ts) (λ (l : List Items). x.0 ∷ l) is x.1.1 in
    let same : m ≡ n = cc in
    record {
      code = b;
      its = x.0;
      there = refl;
      found = ap (λ (l : List Items). slice_get l zero) (sym y.1.1);
      made = subst (λ (j : ℕ). items N (Some j) b every ≡ Some x.0) same x.1.0;
      agree = subst (λ (j : ℕ). AllAgree us (calls N (Some j) b)) same
          (calls_first (λ c. Agrees us c) (calls N (Some m) b) (calls_of_known N bs ts) a);
    }
listed N us (b ∷ bs) (Some m ∷ ts) is (suc k) n e f a =
    let x = some_of (items N (Some m) b every) (λ (i : Items). option_map (λ (l : List Items). i ∷ l) (list_items N bs ts)) is e in
    let y = mapped_of (list_items N bs ts) (λ (l : List Items). x.0 ∷ l) is x.1.1 in
    let r = listed N us bs ts y.0 k n y.1.0 f (calls_second (λ c. Agrees us c) (calls N (Some m) b) (calls_of_known N bs ts) a) in
    record {
      code = r.code;
      its = r.its;
      there = r.there;
      found = ap (λ (l : List Items). slice_get l (suc k)) (sym y.1.1) ∙ r.found;
      made = r.made;
      agree = r.agree;
    }

-- beyond the list there is neither a code nor items
pub unlisted : (N : List Node) (bs : List Block) (ts : Spots) (is : List Items) (k : ℕ) → list_items N bs ts ≡ Some is → length ts ≤ k
    → (slice_get bs k ≡ None) × (slice_get is k ≡ None)
unlisted N [] [] is k e le =
    let same : [] ≡ is = cc in (refl, ap (λ (l : List Items). slice_get l k) (sym same))
unlisted N [] (t ∷ ts) is k e le = absurd cc
unlisted N (b ∷ bs) [] is k e le = absurd cc
unlisted N (b ∷ bs) (None ∷ ts) is k e le = absurd cc
unlisted N (b ∷ bs) (Some m ∷ ts) is zero e le = absurd (omega (arith, le))
unlisted N (b ∷ bs) (Some m ∷ ts) is (suc k) e le =
    let x = some_of (items N (Some m) b every) (λ (i : Items). option_map (λ (l : List Items). i ∷ l) (list_items N bs ts)) is e in
    let y = mapped_of (list_items N bs ts) (λ (l : List Items). x.0 ∷ l) is x.1.1 in
    let r = unlisted N bs ts y.0 k y.1.0 (omega (arith, le)) in
    (r.0, ap (λ (l : List Items). slice_get l (suc k)) (sym y.1.1) ∙ r.1)
