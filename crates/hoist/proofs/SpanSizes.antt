-- Spans are sizes that belong together, by induction on the type.
use Rattle.std.proofs.Common.{◌≡◌, ℕ, zero, suc, ◌+◌, ◌-◌, ◌*◌, ◌%◌, ◌<◌, ◌≤◌, max, nat_le, Bool, true, false, ◌&&◌, cond, List, [], ◌∷◌, length, get_or, Option, None, Some, refl, arith}
use Rattle.std.specs.List.{list_all}
use Rattle.std.specs.Int.{Width, byte_len}
use Rattle.std.proofs.Math.Nat.{one-le-mul}
use Rattle.mint.specs.declared.kind.Count.{Count}
use Rattle.mint.specs.declared.kind.Count.TheVariants.{Exactly, AtMost, Any}
use Rattle.mint.specs.Types.{Scalar, number, Array, text, row_of, Ty, void_type, scalar_type, array_type, group_type, items_type, choice_type, maybe_type, Tys, no_fields, field, Arms, no_other, others, arm_type}
use Rattle.wire_def.specs.declared.encoding.Encoding.{Encoding}
use Rattle.wire_def.specs.declared.encoding.Encoding.TheVariants.{Xdr, CdrBig, CdrLittle, Mach}
use Rattle.wire_def.specs.Scalars.{gap, own_width, width_of}
use Rattle.wire_def.specs.Described.{is_long}
use Rattle.wire_def.proofs.Words.{IsOwn, is8, is16, is32, is64, own_of}
use Rattle.wire_def.specs.Arrays.{counted, kind_of, is_octets, count_of}
use Rattle.wire_def.specs.Send.{flag}
use Rattle.wire_def.proofs.Sound.{IsCount, TakesRoom, FieldsTakeRoom, room}
use Rattle.storage_class.specs.declared.span.Span.{Span}
use Rattle.storage_class.specs.declared.span.Span.TheVariants.{Fixed, Bounded, Unbounded}
use Rattle.storage_class.specs.Classing.{from_each, length_at, length_after, run, greatest, exactly, at_most, is_fixed, top, loose, sum_of_tops, greater_top, after, either, times, times_top}
use Rattle.storage_class.proofs.Residues.{eighth}
use Rattle.storage_class.specs.Spans.{lone_length, scalar_span, element_length, described_length, array_length, array_most, array_counted, text_counted, array_span, span, are_fixed, chain, sum_of, fields_span, arms_span}
use Rattle.cast_stub.specs.Parts.{IsThere}
use Rattle.hoist.specs.Bound.{most, plus}
use Rattle.wire_def.specs.Hollow.{is_hollow, are_hollow}
use Rattle.hoist.specs.Regions.{AreSizes, fields_top, fields_weight, ArmsBounded, IsCounted}
use Rattle.hoist.specs.SpanSizes.{least, weight_of, scalar_top, count_length, sizes}
use Rattle.wire_def.proofs.Short.{gap_most}

-- ---- greatest and least lengths

some_same : (i j : ℕ) → Some i ≡ Some j → i ≡ j
some_same i j e = cc

-- what is so of both of two spans
either_way : (P : Span → Type 0) (b : Bool) (x y : Span) → P x → P y → P (cond b x y)
either_way P true x y h j = h
either_way P false x y h j = j

-- lengths for each remainder
abbrev IsEight : Span → Type 0
IsEight (Fixed f) = length f ≡ 8
IsEight _ = Unit {0}

least_item : (f : List ℕ) (i : ℕ) → i < length f → least f ≤ get_or f i 0
least_item [] i h = absurd (omega arith)
least_item (n ∷ []) zero h = omega arith
least_item (n ∷ []) (suc i) h = absurd (omega arith)
least_item (n ∷ m ∷ ns) zero h = omega arith
least_item (n ∷ m ∷ ns) (suc i) h = let rest = least_item (m ∷ ns) i (omega arith) in omega (arith, rest)

least_from : (k : ℕ) (f : List ℕ) → 0 < length f → ((i : ℕ) → i < length f → k ≤ get_or f i 0) → k ≤ least f
least_from k [] some h = absurd (omega arith)
least_from k (n ∷ []) some h = h 0 (omega arith)
least_from k (n ∷ m ∷ ns) some h =
    let rest = least_from k (m ∷ ns) (omega arith) (λ i lt. h (suc i) (omega arith)) in
    let here = h 0 (omega arith) in
    omega (arith, rest, here)

least_greatest : (f : List ℕ) → least f ≤ greatest f
least_greatest [] = omega arith
least_greatest (n ∷ []) = omega arith
least_greatest (n ∷ m ∷ ns) = let rest = least_greatest (m ∷ ns) in omega (arith, rest)

length_least : (f : List ℕ) (p : ℕ) → length f ≡ 8 → least f ≤ length_at f p
unfolding length_at
length_least f p long = least_item f (p % 8) (omega (arith, long))

-- a number that is nowhere above
each_least : (k : ℕ) (g : ℕ → ℕ) → ((p : ℕ) → k ≤ g p) → k ≤ least (from_each g)
each_least k g h = least_from k (from_each g) (omega arith) at_each where
  at_each : (i : ℕ) → i < 8 → k ≤ get_or (from_each g) i 0
  at_each i lt = let one = eighth g i lt in let low = h i in omega (arith, one, low)

eight_reported : (b : Bool) (s : Span) → IsEight s → IsEight (cond b s Unbounded)
eight_reported true s h = h
eight_reported false s h = tt

eight_tops : (a b : Option ℕ) → IsEight (sum_of_tops a b)
eight_tops None b = tt
eight_tops (Some m) None = tt
eight_tops (Some m) (Some n) = eight_reported (nat_le (m + n) 4294967295) (Bounded (m + n)) tt

eight_after : (a b : Span) → IsEight (after a b)
eight_after (Fixed f) (Fixed g) =
    eight_reported (list_all (λ n. nat_le n 4294967295) (from_each (length_after f g))) (Fixed (from_each (length_after f g))) refl
eight_after (Fixed f) (Bounded n) = eight_tops (Some (greatest f)) (Some n)
eight_after (Fixed f) Unbounded = tt
eight_after (Bounded m) b = eight_tops (Some m) (top b)
eight_after Unbounded b = tt

eight_chain : (e : Encoding) (ts : Tys) → IsEight (chain e ts)
eight_chain e no_fields = refl
eight_chain e (field t ts) = eight_after (span e t) (chain e ts)

eight_sum : (e : Encoding) (ts : Tys) → IsEight (sum_of e ts)
eight_sum e no_fields = tt
eight_sum e (field t ts) = eight_tops (top (span e t)) (top (sum_of e ts))

eight_exactly : (g : ℕ → ℕ) → IsEight (exactly (from_each g))
eight_exactly g = eight_reported (list_all (λ n. nat_le n 4294967295) (from_each g)) (Fixed (from_each g)) refl

eight_most : (n : ℕ) → IsEight (at_most n)
eight_most n = eight_reported (nat_le n 4294967295) (Bounded n) tt

eight_counted : (e : Encoding) (a : Array) (c : Count) → IsEight (array_counted e a c)
eight_counted e a (Exactly n) = eight_exactly (array_length e a n)
eight_counted e a (AtMost n) = eight_most (array_most e a n)
eight_counted e a Any = tt

eight_text : (e : Encoding) (c : Count) → IsEight (text_counted e c)
eight_text e (Exactly n) = eight_most (array_most e (text (Exactly n)) n)
eight_text e (AtMost n) = eight_most (array_most e (text (AtMost n)) n)
eight_text e Any = tt

eight_array : (e : Encoding) (a : Array) → IsEight (array_span e a)
eight_array Xdr a = eight_counted Xdr a (count_of a)
eight_array Mach a = eight_counted Mach a (count_of a)
eight_array CdrBig (text c) = eight_text CdrBig c
eight_array CdrBig (row_of k c) = eight_counted CdrBig (row_of k c) c
eight_array CdrLittle (text c) = eight_text CdrLittle c
eight_array CdrLittle (row_of k c) = eight_counted CdrLittle (row_of k c) c

eight_times_top : (n : ℕ) (o : Option ℕ) → IsEight (times_top n o)
eight_times_top n (Some m) = eight_most (n * m)
eight_times_top n None = tt

eight_times : (n : ℕ) (s : Span) → IsEight (times n s)
eight_times n (Fixed f) = eight_exactly (run n f)
eight_times n (Bounded m) = eight_most (n * m)
eight_times n Unbounded = tt

eight : (e : Encoding) (t : Ty) → IsEight (span e t)
eight e void_type = refl
eight e (scalar_type s) = refl
eight e (array_type a) = eight_array e a
eight e (group_type ts) =
    either_way (λ s. IsEight s) (are_fixed e ts) (chain e ts) (sum_of e ts) (eight_chain e ts) (eight_sum e ts)
eight e (items_type (Exactly n) t) = eight_times n (span e t)
eight e (items_type (AtMost n) t) = eight_after (scalar_span e counted) (times_top n (top (span e t)))
eight e (items_type Any t) = tt
eight e (choice_type s arms) = eight_after (scalar_span e s) (arms_span e arms)
eight e (maybe_type t) = eight_after (scalar_span e flag) (loose (span e t))

-- ---- weights

reported_weight : (b : Bool) (s : Span) (k : ℕ) → k ≤ weight_of s → IsThere (top (cond b s Unbounded)) → k ≤ weight_of (cond b s Unbounded)
reported_weight true s k h there = h
reported_weight false s k h there = absurd there

top_weight : (s : Span) (n : ℕ) → top s ≡ Some n → weight_of s ≤ n - 1
top_weight (Fixed f) n h = let most = least_greatest f in let same = some_same (greatest f) n h in omega (arith, most, same)
top_weight (Bounded m) n h = let same = some_same m n h in omega (arith, same)
top_weight Unbounded n h = absurd cc

tops_weight : (x y : Option ℕ) (k l : ℕ) → ((m : ℕ) → x ≡ Some m → k ≤ m - 1) → ((n : ℕ) → y ≡ Some n → l ≤ n - 1)
    → IsThere (top (sum_of_tops x y)) → k + l ≤ weight_of (sum_of_tops x y)
tops_weight (Some m) (Some n) k l f g there =
    let one = f m refl in
    let two = g n refl in
    reported_weight (nat_le (m + n) 4294967295) (Bounded (m + n)) (k + l) (omega (arith, one, two)) there
tops_weight (Some m) None k l f g there = absurd there
tops_weight None y k l f g there = absurd there

-- two parts, by their bounds alone
both_weight : (a b : Span) → IsThere (top (sum_of_tops (top a) (top b)))
    → weight_of a + weight_of b ≤ weight_of (sum_of_tops (top a) (top b))
both_weight a b there = tops_weight (top a) (top b) (weight_of a) (weight_of b) (top_weight a) (top_weight b) there

after_weight : (a b : Span) → IsEight a → IsEight b → IsThere (top (after a b)) → weight_of a + weight_of b ≤ weight_of (after a b)
after_weight (Fixed f) (Fixed g) i j there =
    let low = each_least (least f + least g) (length_after f g)
    (λ p. let one = length_least f p i in let two = length_least g (p + length_at f p) j in omega (arith, one, two)) in
    reported_weight (list_all (λ n. nat_le n 4294967295) (from_each (length_after f g))) (Fixed (from_each (length_after f g)))
    (weight_of (Fixed f) + weight_of (Fixed g)) (weights (least f) (least g) (least (from_each (length_after f g))) low) there
  where
    weights : (m n k : ℕ) → m + n ≤ k → (m - 1) + (n - 1) ≤ k - 1
    weights m n k h = omega arith
after_weight a b i j there = both_weight a b there

-- ---- what has a greatest length has parts that have one

reported_there : (b : Bool) (s : Span) → IsThere (top (cond b s Unbounded)) → IsThere (top s)
reported_there true s h = h
reported_there false s h = absurd h

tops_there : (x y : Option ℕ) → IsThere (top (sum_of_tops x y)) → IsThere x × IsThere y
tops_there (Some m) (Some n) h = (tt, tt)
tops_there (Some m) None h = absurd h
tops_there None y h = absurd h

first_there : (a b : Span) → IsThere (top (after a b)) → IsThere (top a)
first_there (Fixed f) b h = tt
first_there (Bounded m) b h = tt
first_there Unbounded b h = absurd h

after_there : (a b : Span) → IsThere (top (after a b)) → IsThere (top b)
after_there a (Fixed n) h = tt
after_there a (Bounded n) h = tt
after_there (Fixed m) Unbounded h = h
after_there (Bounded m) Unbounded h = h
after_there Unbounded Unbounded h = h

loose_there : (s : Span) → IsThere (top (loose s)) → IsThere (top s)
loose_there (Fixed n) h = tt
loose_there (Bounded n) h = tt
loose_there Unbounded h = h

either_there : (a b : Span) → IsThere (top (either a b)) → IsThere (top a) × IsThere (top b)
either_there (Fixed m) (Fixed n) h = (tt, tt)
either_there (Fixed m) (Bounded n) h = (tt, tt)
either_there (Bounded m) (Fixed n) h = (tt, tt)
either_there (Bounded m) (Bounded n) h = (tt, tt)
either_there Unbounded b h = absurd h
either_there (Fixed m) Unbounded h = absurd h
either_there (Bounded m) Unbounded h = absurd h

times_there : (n : ℕ) (s : Span) → IsThere (top (times n s)) → IsThere (top s)
times_there n (Fixed m) h = tt
times_there n (Bounded m) h = tt
times_there n Unbounded h = h

many_there : (n : ℕ) (o : Option ℕ) → IsThere (top (times_top n o)) → IsThere o
many_there n (Some m) h = tt
many_there n None h = h

some_there : (o : Option ℕ) → IsThere o → (n : ℕ) × (o ≡ Some n)
some_there (Some n) h = (n, refl)
some_there None h = absurd h

both_there : (a b : Option ℕ) → (i : ℕ) × (a ≡ Some i) → (j : ℕ) × (b ≡ Some j) → (k : ℕ) × (plus a b ≡ Some k)
both_there None b x y = let wrong = x.1 in absurd cc
both_there (Some i) None x y = let wrong = y.1 in absurd cc
both_there (Some i) (Some j) x y = (i + j, refl)

chain_tops : (e : Encoding) (ts : Tys) → IsThere (top (chain e ts)) → (m : ℕ) × (fields_top (sizes e) ts ≡ Some m)
chain_tops e no_fields h = (0, refl)
chain_tops e (field t ts) h =
    both_there (top (span e t)) (fields_top (sizes e) ts) (some_there (top (span e t)) (first_there (span e t) (chain e ts) h))
    (chain_tops e ts (after_there (span e t) (chain e ts) h))

sum_tops : (e : Encoding) (ts : Tys) → IsThere (top (sum_of e ts)) → (m : ℕ) × (fields_top (sizes e) ts ≡ Some m)
sum_tops e no_fields h = (0, refl)
sum_tops e (field t ts) h =
    let both = tops_there (top (span e t)) (top (sum_of e ts)) h in
    both_there (top (span e t)) (fields_top (sizes e) ts) (some_there (top (span e t)) both.0) (sum_tops e ts both.1)

fields_tops : (e : Encoding) (ts : Tys) → IsThere (top (fields_span e ts)) → (m : ℕ) × (fields_top (sizes e) ts ≡ Some m)
fields_tops e ts = either_way (λ s. IsThere (top s) → (m : ℕ) × (fields_top (sizes e) ts ≡ Some m)) (are_fixed e ts) (chain e ts)
    (sum_of e ts) (chain_tops e ts) (sum_tops e ts)

chain_weights : (e : Encoding) (ts : Tys) → IsThere (top (chain e ts)) → fields_weight (sizes e) ts ≤ weight_of (chain e ts)
chain_weights e no_fields h = omega arith
chain_weights e (field t ts) h =
    let rest = chain_weights e ts (after_there (span e t) (chain e ts) h) in
    let both = after_weight (span e t) (chain e ts) (eight e t) (eight_chain e ts) h in
    omega (arith, rest, both)

sum_weights : (e : Encoding) (ts : Tys) → IsThere (top (sum_of e ts)) → fields_weight (sizes e) ts ≤ weight_of (sum_of e ts)
sum_weights e no_fields h = omega arith
sum_weights e (field t ts) h =
    let rest = sum_weights e ts (tops_there (top (span e t)) (top (sum_of e ts)) h).1 in
    let both = both_weight (span e t) (sum_of e ts) h in
    omega (arith, rest, both)

fields_weights : (e : Encoding) (ts : Tys) → IsThere (top (fields_span e ts)) → fields_weight (sizes e) ts ≤ weight_of (fields_span e ts)
fields_weights e ts = either_way (λ s. IsThere (top s) → fields_weight (sizes e) ts ≤ weight_of s) (are_fixed e ts) (chain e ts)
    (sum_of e ts) (chain_weights e ts) (sum_weights e ts)

counted_there : (e : Encoding) (a : Array) (c : Count) → IsThere (top (array_counted e a c)) → IsThere (most c)
counted_there e a (Exactly n) h = tt
counted_there e a (AtMost n) h = tt
counted_there e a Any h = h

text_there : (e : Encoding) (c : Count) → IsThere (top (text_counted e c)) → IsThere (most c)
text_there e (Exactly n) h = tt
text_there e (AtMost n) h = tt
text_there e Any h = h

array_there : (e : Encoding) (a : Array) → IsThere (top (span e (array_type a))) → IsThere (most (count_of a))
array_there Xdr a h = counted_there Xdr a (count_of a) h
array_there Mach a h = counted_there Mach a (count_of a) h
array_there CdrBig (text c) h = text_there CdrBig c h
array_there CdrBig (row_of k c) h = counted_there CdrBig (row_of k c) c h
array_there CdrLittle (text c) h = text_there CdrLittle c h
array_there CdrLittle (row_of k c) h = counted_there CdrLittle (row_of k c) c h

items_there : (e : Encoding) (c : Count) (t : Ty) → IsThere (top (span e (items_type c t))) → IsThere (most c) × IsThere (top (span e t))
items_there e (Exactly n) t h = (tt, times_there n (span e t) h)
items_there e (AtMost n) t h = (tt, many_there n (top (span e t)) (after_there (scalar_span e counted) (times_top n (top (span e t))) h))
items_there e Any t h = absurd h

arms_there : (e : Encoding) (arms : Arms) → IsThere (top (arms_span e arms)) → ArmsBounded (sizes e) arms
arms_there e no_other h = tt
arms_there e (others t) h = loose_there (span e t) h
arms_there e (arm_type n t arms) h =
    let x = either_there (span e t) (arms_span e arms) h in
    (x.0, arms_there e arms x.1)

fixed_there : (s : Span) → is_fixed s ≡ true → IsThere (top s)
fixed_there (Fixed n) h = tt
fixed_there (Bounded n) h = tt
fixed_there Unbounded h = absurd cc

-- ---- what has octets

-- nowhere without octets
abbrev IsSolid : Span → Type 0
IsSolid (Fixed f) = 1 ≤ least f
IsSolid (Bounded n) = 1 ≤ n
IsSolid Unbounded = Unit {0}

solid_top : (s : Span) (n : ℕ) → IsSolid s → top s ≡ Some n → 1 ≤ n
solid_top (Fixed f) n h e = let most = least_greatest f in let same = some_same (greatest f) n e in omega (arith, most, same, h)
solid_top (Bounded m) n h e = let same = some_same m n e in omega (arith, same, h)
solid_top Unbounded n h e = absurd cc

solid_reported : (b : Bool) (s : Span) → IsSolid s → IsSolid (cond b s Unbounded)
solid_reported true s h = h
solid_reported false s h = tt

solid_exactly : (g : ℕ → ℕ) → ((p : ℕ) → 1 ≤ g p) → IsSolid (exactly (from_each g))
solid_exactly g h = solid_reported (list_all (λ n. nat_le n 4294967295) (from_each g)) (Fixed (from_each g)) (each_least 1 g h)

solid_most : (n : ℕ) → 1 ≤ n → IsSolid (at_most n)
solid_most n h = solid_reported (nat_le n 4294967295) (Bounded n) h

solid_tops_first : (x y : Option ℕ) → ((m : ℕ) → x ≡ Some m → 1 ≤ m) → IsSolid (sum_of_tops x y)
solid_tops_first (Some m) (Some n) h = solid_most (m + n) (let one = h m refl in omega (arith, one))
solid_tops_first (Some m) None h = tt
solid_tops_first None y h = tt

solid_tops_second : (x y : Option ℕ) → ((n : ℕ) → y ≡ Some n → 1 ≤ n) → IsSolid (sum_of_tops x y)
solid_tops_second (Some m) (Some n) h = solid_most (m + n) (let two = h n refl in omega (arith, two))
solid_tops_second (Some m) None h = tt
solid_tops_second None y h = tt

solid_first : (a b : Span) → IsEight a → IsEight b → IsSolid a → IsSolid (after a b)
solid_first (Fixed f) (Fixed g) i j h = solid_exactly (length_after f g) (λ p. let one = length_least f p i in omega (arith, one, h))
solid_first a b i j h = solid_tops_first (top a) (top b) (λ m. solid_top a m h)

solid_second : (a b : Span) → IsEight a → IsEight b → IsSolid b → IsSolid (after a b)
solid_second (Fixed f) (Fixed g) i j h =
    solid_exactly (length_after f g) (λ p. let two = length_least g (p + length_at f p) j in omega (arith, two, h))
solid_second a b i j h = solid_tops_second (top a) (top b) (λ n. solid_top b n h)

solid_times : (n : ℕ) (s : Span) → 1 ≤ n → IsEight s → IsSolid s → IsSolid (times n s)
unfolding run
solid_times zero s some i h = absurd (omega arith)
solid_times (suc n) (Fixed f) some i h = solid_exactly (run (suc n) f) (λ p. let one = length_least f p i in omega (arith, one, h))
solid_times (suc n) (Bounded m) some i h = solid_most (suc n * m) (one-le-mul some h)
solid_times (suc n) Unbounded some i h = tt

-- a product of what is more than nothing
product_some : (k j : ℕ) → 1 ≤ k → 1 ≤ j → 1 ≤ k * j
product_some k j a b = one-le-mul a b

own_some : (w : Width) → IsOwn w → (1 ≤ byte_len w) × (byte_len w ≤ 8)
own_some _ is8 = (omega arith, omega arith)
own_some _ is16 = (omega arith, omega arith)
own_some _ is32 = (omega arith, omega arith)
own_some _ is64 = (omega arith, omega arith)

lone_some : (e : Encoding) (s : Scalar) (p : ℕ) → 1 ≤ lone_length e s p
lone_some Xdr s p = let w = own_some (width_of Xdr s) (own_of Xdr s) in omega (arith, w.0)
lone_some CdrBig s p = let w = own_some (width_of CdrBig s) (own_of CdrBig s) in omega (arith, w.0)
lone_some CdrLittle s p = let w = own_some (width_of CdrLittle s) (own_of CdrLittle s) in omega (arith, w.0)
lone_some Mach s p = omega arith

lone_few : (e : Encoding) (s : Scalar) (p : ℕ) → lone_length e s p ≤ 15
lone_few Xdr s p = let w = own_some (width_of Xdr s) (own_of Xdr s) in let none : gap p 1 ≡ 0 = omega arith in omega (arith, w.1, none)
lone_few CdrBig s p =
    let w = own_some (width_of CdrBig s) (own_of CdrBig s) in
    omega (arith, w.1, gap_most (own_width s) (own_of CdrBig s) p)
lone_few CdrLittle s p =
    let w = own_some (width_of CdrLittle s) (own_of CdrLittle s) in
    omega (arith, w.1, gap_most (own_width s) (own_of CdrLittle s) p)
lone_few Mach s p = let w = own_some (width_of Mach s) (own_of Mach s) in omega (arith, w.1)

max_few : (a b k : ℕ) → a ≤ k → b ≤ k → max a b ≤ k
max_few a b k h j = omega arith

greatest_few : (k : ℕ) (g : ℕ → ℕ) → ((p : ℕ) → g p ≤ k) → greatest (from_each g) ≤ k
greatest_few k g h =
    max_few (g 0) _ k (h 0) (max_few (g 1) _ k (h 1) (max_few (g 2) _ k (h 2) (max_few (g 3) _ k (h 3)
    (max_few (g 4) _ k (h 4) (max_few (g 5) _ k (h 5) (max_few (g 6) _ k (h 6) (max_few (g 7) 0 k (h 7) (omega arith))))))))

scalar_solid : (e : Encoding) (s : Scalar) → IsSolid (scalar_span e s)
scalar_solid e s = each_least 1 (lone_length e s) (lone_some e s)

scalar_some : (e : Encoding) (s : Scalar) → (1 ≤ scalar_top e s) × (scalar_top e s ≤ 8192)
scalar_some e s =
    let few = greatest_few 15 (lone_length e s) (lone_few e s) in
    (solid_top (scalar_span e s) (scalar_top e s) (scalar_solid e s) refl, omega (arith, few))

element_some : (e : Encoding) (a : Array) → 1 ≤ element_length e a
element_some e a = by (is_octets a) (byte_len (width_of e (number (kind_of a))))
    (own_some (width_of e (number (kind_of a))) (own_of e (number (kind_of a)))).0 where
      by : (b : Bool) (k : ℕ) → 1 ≤ k → 1 ≤ cond b 1 k
      by true k h = omega arith
      by false k h = h

array_some : (e : Encoding) (a : Array) (n p : ℕ) → 1 ≤ n → 1 ≤ array_length e a n p
array_some Xdr a n p h = let x = product_some n (element_length Xdr a) h (element_some Xdr a) in omega (arith, x)
array_some Mach a n p h = let x = product_some n (element_length Mach a) h (element_some Mach a) in omega (arith, x)
array_some CdrBig a n p h = let x = product_some n (element_length CdrBig a) h (element_some CdrBig a) in omega (arith, x)
array_some CdrLittle a n p h = let x = product_some n (element_length CdrLittle a) h (element_some CdrLittle a) in omega (arith, x)

described_some : (a : Array) → 4 ≤ described_length a
described_some a = by (is_long (count_of a) (number (kind_of a))) where
  by : (b : Bool) → 4 ≤ cond b 12 4
  by true = omega arith
  by false = omega arith

most_some : (e : Encoding) (a : Array) (n : ℕ) → 1 ≤ array_most e a n
most_some Xdr a n = omega arith
most_some Mach a n = let d = described_some a in omega (arith, d)
most_some CdrBig a n = omega arith
most_some CdrLittle a n = omega arith

counted_solid : (e : Encoding) (a : Array) (c : Count) → IsCount c → IsSolid (array_counted e a c)
counted_solid e a (Exactly n) some = solid_exactly (array_length e a n) (λ p. array_some e a n p some)
counted_solid e a (AtMost n) some = solid_most (array_most e a n) (most_some e a n)
counted_solid e a Any some = tt

text_solid : (e : Encoding) (c : Count) → IsSolid (text_counted e c)
text_solid e (Exactly n) = solid_most (array_most e (text (Exactly n)) n) (most_some e (text (Exactly n)) n)
text_solid e (AtMost n) = solid_most (array_most e (text (AtMost n)) n) (most_some e (text (AtMost n)) n)
text_solid e Any = tt

array_solid : (e : Encoding) (a : Array) → IsCount (count_of a) → IsSolid (array_span e a)
array_solid Xdr a some = counted_solid Xdr a (count_of a) some
array_solid Mach a some = counted_solid Mach a (count_of a) some
array_solid CdrBig (text c) some = text_solid CdrBig c
array_solid CdrBig (row_of k c) some = counted_solid CdrBig (row_of k c) c some
array_solid CdrLittle (text c) some = text_solid CdrLittle c
array_solid CdrLittle (row_of k c) some = counted_solid CdrLittle (row_of k c) c some

either_solid : (a b : Bool) {P : Type 0} → (a ≡ false → P) → (b ≡ false → P) → a && b ≡ false → P
either_solid false b f g h = f refl
either_solid true b f g h = g h

eight_loose : (s : Span) → IsEight (loose s)
eight_loose (Fixed f) = tt
eight_loose (Bounded n) = tt
eight_loose Unbounded = tt

eight_arms : (e : Encoding) (arms : Arms) → IsEight (arms_span e arms)
eight_arms e no_other = tt
eight_arms e (others t) = eight_loose (span e t)
eight_arms e (arm_type n t arms) = both (top (span e t)) (top (arms_span e arms)) where
  both : (a b : Option ℕ) → IsEight (greater_top a b)
  both None b = tt
  both (Some m) None = tt
  both (Some m) (Some n) = tt

mutual
  filled : (e : Encoding) (t : Ty) → TakesRoom t → is_hollow t ≡ false → IsSolid (span e t)
  filled e void_type some fill = absurd cc
  filled e (scalar_type s) some fill = scalar_solid e s
  filled e (array_type a) some fill = array_solid e a some
  filled e (group_type ts) some fill =
      either_way (λ s. IsSolid s) (are_fixed e ts) (chain e ts) (sum_of e ts) (chain_filled e ts some fill) (sum_filled e ts some fill)
  filled e (items_type (Exactly n) t) some fill = solid_times n (span e t) some.0 (eight e t) (filled e t some.2 some.1)
  filled e (items_type (AtMost n) t) some fill =
      solid_first (scalar_span e counted) (times_top n (top (span e t))) refl (eight_times_top n (top (span e t))) (scalar_solid e counted)
  filled e (items_type Any t) some fill = tt
  filled e (choice_type s arms) some fill = solid_first (scalar_span e s) (arms_span e arms) refl (eight_arms e arms) (scalar_solid e s)
  filled e (maybe_type t) some fill =
      solid_first (scalar_span e flag) (loose (span e t)) refl (eight_loose (span e t)) (scalar_solid e flag)

  chain_filled : (e : Encoding) (ts : Tys) → FieldsTakeRoom ts → are_hollow ts ≡ false → IsSolid (chain e ts)
  chain_filled e no_fields some fill = absurd cc
  chain_filled e (field t ts) some fill =
      either_solid (is_hollow t) (are_hollow ts)
      (λ y. solid_first (span e t) (chain e ts) (eight e t) (eight_chain e ts) (filled e t some.0 y))
      (λ y. solid_second (span e t) (chain e ts) (eight e t) (eight_chain e ts) (chain_filled e ts some.1 y)) fill

  sum_filled : (e : Encoding) (ts : Tys) → FieldsTakeRoom ts → are_hollow ts ≡ false → IsSolid (sum_of e ts)
  sum_filled e no_fields some fill = absurd cc
  sum_filled e (field t ts) some fill =
      either_solid (is_hollow t) (are_hollow ts)
      (λ y. solid_tops_first (top (span e t)) (top (sum_of e ts)) (λ m. solid_top (span e t) m (filled e t some.0 y)))
      (λ y. solid_tops_second (top (span e t)) (top (sum_of e ts)) (λ n. solid_top (sum_of e ts) n (sum_filled e ts some.1 y))) fill

count_some : (e : Encoding) (c : Count) → IsCounted c → (1 ≤ count_length e c)
count_some e (Exactly n) h = absurd h
count_some e (AtMost n) h = (scalar_some e counted).0
count_some e Any h = (scalar_some e counted).0

top_there : (s : Span) (n : ℕ) → top s ≡ Some n → IsThere (top s)
top_there s n e = rw e tt

pub are_sizes : (e : Encoding) → AreSizes (sizes e)
are_sizes e = record {
  nothing = refl;
  scalar = λ s. (scalar_top e s, refl, (scalar_some e s).0, (scalar_some e s).1);
  group = λ ts n h. fields_tops e ts (top_there (fields_span e ts) n h);
  fields = λ ts n h. fields_weights e ts (top_there (fields_span e ts) n h);
  weight = λ t n h. top_weight (span e t) n h;
  array = array_there e;
  items = items_there e;
  choice = λ s arms h. arms_there e arms (after_there (scalar_span e s) (arms_span e arms) h);
  maybe = λ t h. loose_there (span e t) (after_there (scalar_span e flag) (loose (span e t)) h);
  solid = λ t n sound e' h. solid_top (span e t) n (filled e t (room t sound) e') h;
  fixed = λ t. fixed_there (span e t);
  count = λ c t. count_some e c;
  tag = λ s arms. (scalar_some e s).0;
  flag = λ t. (scalar_some e flag).0;
}
