-- Values that are made, as they are seen, by induction on the list of values.
use Rattle.std.proofs.Common.{◌≡◌, List, [], ◌∷◌, ◌++◌, Some, Box, Global, refl, ap, rules}
use Rattle.mint.specs.declared.value.Value.{Value, Opt, Void, the_lemmas}
use Rattle.mint.specs.Values.{Val, Vals, no_more, val, void, present, seen, all_seen}

pub seen-Some : (b : Box Value Global) → seen (Opt (Some b)) ≡ present (seen b.value)
seen-Some b = search (rules, the_lemmas)

pub seen-Void : seen Void ≡ void
seen-Void = search (rules, the_lemmas)

-- values after values
abbrev pub joined : Vals → Vals → Vals
joined no_more vs = vs
joined (val v us) vs = val v (joined us vs)

pub joined-no_more : (us : Vals) → joined us no_more ≡ us
joined-no_more no_more = refl
joined-no_more (val v us) = ap (val v) (joined-no_more us)

pub joined_one : (us : Vals) (v : Val) (vs : Vals) → joined (joined us (val v no_more)) vs ≡ joined us (val v vs)
joined_one no_more v vs = refl
joined_one (val u us) v vs = ap (val u) (joined_one us v vs)

pub all_seen-push : (xs : List Value) (x : Value) → all_seen (xs ++ x ∷ []) ≡ joined (all_seen xs) (val (seen x) no_more)
all_seen-push [] x = refl
all_seen-push (y ∷ xs) x = ap (val (seen y)) (all_seen-push xs x)
