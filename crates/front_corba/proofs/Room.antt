-- The interfaces of a file have room in its unit, by induction on the interfaces.
use Rattle.std.proofs.Common.{◌≡◌, ℕ, zero, suc, ◌+◌, ◌<◌, ◌≤◌, ◌&&◌, nat_le, true, false, get_or, drop, List, [], ◌∷◌, ◌++◌, length, map, sym, ap, subst, ◌∙◌, arith}
use Rattle.std.specs.List.{list_all}
use Rattle.std.proofs.Math.Seq.{drop-cons}
use Rattle.std.proofs.lemmas.Bool.{and_parts, leb-true}
use Rattle.std.proofs.lemmas.List.{length-map}
use Rattle.aoi.specs.declared.interfaces.Interface.{Interface}
use Rattle.aoi.specs.Units.{is_twice}
use Rattle.aoi.specs.Plain.{PlainInterface, plain_operation, plain_interface}
use Rattle.aoi.specs.Sound.{are_distinct}
use Rattle.front_corba.specs.declared.state.Offering.{Offering}
use Rattle.front_corba.specs.State.{PlainOffer, PlainOffering}
use Rattle.front_corba.specs.Held.{plain_offer, plain_offering}
use Rattle.front_corba.specs.Interfaces.{full_names}
use Rattle.front_corba.specs.Resolved.{interface, interfaces, are_fit}
use Rattle.front_corba.proofs.Apart.{none_twice}

all_few : (is : List Offering) (k : ℕ) (i : Offering)
    → list_all (λ (j : PlainOffering). nat_le (length j.ops) 256) (map plain_offering is) ≡ true → k < length is
    → i ≡ get_or is k i → length i.ops ≤ 256
all_few [] k i h lt e = absurd (omega (arith, lt))
all_few (j ∷ is) zero i h lt e =
    let parts = and_parts (nat_le (length (map plain_offer j.ops)) 256) _ h in
    let count = length-map j.ops plain_offer in
    let low = leb-true (length (map plain_offer j.ops)) 256 parts.0 in
    subst (λ (z : Offering). length z.ops ≤ 256) (sym e) (omega (arith, count, low))
all_few (j ∷ is) (suc k) i h lt e =
    let parts = and_parts (nat_le (length (map plain_offer j.ops)) 256) _ h in all_few is k i parts.1 (omega (arith, lt)) e

-- interfaces that are fit have few operations
pub few_at : (is : List Offering) (k : ℕ) (i : Offering) → are_fit (map plain_offering is) ≡ true → k < length is → i ≡ get_or is k i
    → length i.ops ≤ 256
few_at is k i h lt e =
    all_few is k i (and_parts (nat_le (length (map plain_offering is)) 64 && are_distinct (full_names (map plain_offering is))) _ h).1 lt e

-- an interface has the operations that are offered
pub few_kept : (x : Interface) (place : ℕ) (i : Offering) → plain_interface x ≡ interface place (plain_offering i) → length i.ops ≤ 256
    → length x.ops ≤ 256
few_kept x place i made low =
    let a = length-map x.ops plain_operation in
    let b = length-map (map plain_offer i.ops) (λ (o : PlainOffer). o.operation) in
    let c = length-map i.ops plain_offer in
    let same = ap (λ (z : PlainInterface). length z.ops) made in
    omega (arith, a, b, c, same, low)

-- the interface at a place is not a twin of those before it
pub none_there : (list : List Offering) (others : List Interface) (place : ℕ) (i : Offering) (x : Interface)
    → are_fit (map plain_offering list) ≡ true
    → map plain_interface others ++ interfaces place (map plain_offering (drop place list)) ≡ interfaces 0 (map plain_offering list)
    → place < length list → i ≡ get_or list place i → plain_interface x ≡ interface place (plain_offering i) → is_twice x others ≡ false
none_there list others place i x fit ahead lt e made =
    let both = (and_parts (nat_le (length (map plain_offering list)) 64 && are_distinct (full_names (map plain_offering list))) _ fit).0 in
    let apart = (and_parts (nat_le (length (map plain_offering list)) 64) _ both).1 in
    let rest = drop (suc place) list in
    let tail = interfaces (place + 1) (map plain_offering rest) in
    let cut : drop place list ≡ i ∷ rest = drop-cons list place i lt ∙ ap (λ z. z ∷ rest) (sym e) in
    let first : map plain_interface others ++ plain_interface x ∷ tail ≡ map plain_interface others
    ++ interface place (plain_offering i) ∷ tail =
    ap (λ z. map plain_interface others ++ z ∷ tail) made in
    let then : map plain_interface others ++ interfaces place (map plain_offering (i ∷ rest)) ≡ interfaces 0 (map plain_offering list) =
    subst (λ z. map plain_interface others ++ interfaces place (map plain_offering z) ≡ interfaces 0 (map plain_offering list)) cut ahead in
    none_twice (map plain_offering list) others x tail (first ∙ then) apart
