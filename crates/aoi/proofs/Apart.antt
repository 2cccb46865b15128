-- One more interface, by induction on the interfaces before it.
use Rattle.std.proofs.Common.{◌≡◌, ℕ, ◌+◌, ◌≤◌, ◌<◌, List, [], ◌∷◌, ◌++◌, length, Bool, false, refl, sym, ap, subst, ◌∙◌, length-append, arith}
use Rattle.std.specs.List.{list_any}
use Rattle.std.proofs.lemmas.Bool.{or_parts, or_from}
use Rattle.aoi.specs.declared.interfaces.Interface.{Interface}
use Rattle.aoi.specs.Units.{are_twins, is_twice, AreApart}

none_after : (p : Interface → Bool) (is : List Interface) (i : Interface) → list_any p is ≡ false → p i ≡ false
    → list_any p (is ++ i ∷ []) ≡ false
none_after p [] i a b = or_from (p i) false b refl
none_after p (j ∷ is) i a b = let h = or_parts _ _ a in or_from _ _ h.0 (none_after p is i h.1 b)

pub one_more : (is : List Interface) (i : Interface) → AreApart is → is_twice i is ≡ false → length i.ops ≤ 256 → AreApart (is ++ i ∷ [])
one_more [] i apart once few = (refl, few, tt)
one_more (j ∷ is) i apart once few =
    let h = or_parts (are_twins j i) (is_twice i is) once in
    (none_after (are_twins j) is i apart.0 h.0, apart.1, one_more is i apart.2 h.1 few)

pub grown : (old new slice : List Interface) (i : Interface) (n m : ℕ) → AreApart old → new ≡ old ++ i ∷ []
    → slice ≡ old → is_twice i slice ≡ false → n ≡ length old → n < 64 → m ≡ length i.ops → m ≤ 256
    → (length new ≤ 64) × AreApart new
grown old new slice i n m apart is same once n_is few m_is small =
    let count : length new ≡ length old + 1 = ap length is ∙ length-append old (i ∷ []) in
    let once' : is_twice i old ≡ false = subst (λ z. is_twice i z ≡ false) same once in
    (omega (arith, count, n_is, few), subst AreApart (sym is) (one_more old i apart once' (omega (arith, m_is, small))))
