-- A chunk has as many octets as it says, by induction on its puts and cells.
use Rattle.std.proofs.Common.{◌≡◌, ℕ, zero, suc, List, [], ◌∷◌, length, replicate, Option, Some, None, option_map, refl, sym, ap, ◌∙◌}
use Rattle.std.proofs.lemmas.List.{length-replicate}
use Rattle.mint.specs.Values.{Val}
use Rattle.wire_def.specs.declared.head.Head.{Head}
use Rattle.cast_stub.specs.declared.put.Put.{Put}
use Rattle.cast_stub.specs.Parts.{on_some}
use Rattle.cast_stub.specs.Puts.{Cells, placed, put_octets, offset, put_one, put_all, full, filled}

-- what an option that is there is made of
pub some_of : {A B : Type 0} (o : Option A) (f : A → Option B) (b : B) → on_some o f ≡ Some b → (a : A) × ((o ≡ Some a) × (f a ≡ Some b))
some_of None f b e = absurd cc
some_of (Some a) f b e = (a, (refl, e))

pub opened : {A B : Type 0} (x : Option A) (f : A → Option B) (b : B) → on_some x f ≡ Some b → (a : A) × (x ≡ Some a) × (f a ≡ Some b)
opened None f b e = absurd cc
opened (Some a) f b e = (a, refl, e)

pub mapped_of : {A B : Type 0} (o : Option A) (f : A → B) (b : B) → option_map f o ≡ Some b → (a : A) × ((o ≡ Some a) × (f a ≡ b))
mapped_of None f b e = absurd cc
mapped_of (Some a) f b e =
    let same : f a ≡ b = cc in (a, (refl, same))

placed_length : (n : ℕ) (os : List ℕ) (cs ds : Cells) → placed n os cs ≡ Some ds → length ds ≡ length cs
placed_length zero [] cs ds e = let same : cs ≡ ds = cc in sym (ap length same)
placed_length zero (o ∷ os) [] ds e = absurd cc
placed_length zero (o ∷ os) (c ∷ cs) ds e =
    let m = mapped_of (placed zero os cs) (λ (x : Cells). Some o ∷ x) ds e in
    sym (ap length m.1.1) ∙ ap suc (placed_length zero os cs m.0 m.1.0)
placed_length (suc n) os [] ds e = absurd cc
placed_length (suc n) os (c ∷ cs) ds e =
    let m = mapped_of (placed n os cs) (λ (x : Cells). c ∷ x) ds e in
    sym (ap length m.1.1) ∙ ap suc (placed_length n os cs m.0 m.1.0)

pub put_length : (h : Head) (v : Val) (ps : List Put) (cs ds : Cells) → put_all h v ps cs ≡ Some ds → length ds ≡ length cs
put_length h v [] cs ds e = let same : cs ≡ ds = cc in sym (ap length same)
put_length h v (p ∷ ps) cs ds e =
    let one = some_of (put_one h v p cs) (put_all h v ps) ds e in
    let os = some_of (put_octets h p v) (λ (l : List ℕ). placed (offset p) l cs) one.0 one.1.0 in
    put_length h v ps one.0 ds one.1.1 ∙ placed_length (offset p) os.0 cs one.0 os.1.1

full_length : (cs : Cells) (xs : List ℕ) → full cs ≡ Some xs → length xs ≡ length cs
full_length [] xs e = let same : [] ≡ xs = cc in sym (ap length same)
full_length (None ∷ cs) xs e = absurd cc
full_length (Some c ∷ cs) xs e =
    let m = mapped_of (full cs) (λ (l : List ℕ). c ∷ l) xs e in
    sym (ap length m.1.1) ∙ ap suc (full_length cs m.0 m.1.0)

pub length-filled : (h : Head) (v : Val) (ps : List Put) (n : ℕ) (o : List ℕ) → filled n ps h v ≡ Some o → length o ≡ n
length-filled h v ps n o e =
    let c = some_of (put_all h v ps (replicate n None)) full o e in
    full_length c.0 o c.1.1 ∙ put_length h v ps (replicate n None) c.0 c.1.0 ∙ length-replicate n None
