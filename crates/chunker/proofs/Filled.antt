-- Chunks that become one: their octets are those of the first and then those of the second, by induction on puts and cells.
use Rattle.std.proofs.Common.{◌≡◌, ℕ, zero, suc, ◌+◌, ◌≤◌, List, [], ◌∷◌, ◌++◌, length, map, replicate, Option, Some, None, option_map, nat_eq, if◌then◌else◌, Bool, true, false, refl, sym, ap, ◌∙◌, subst, arith}
use Rattle.std.proofs.lemmas.Bool.{eqb-true}
use Rattle.std.proofs.lemmas.List.{replicate-append-replicate}
use Rattle.mint.specs.Values.{Val}
use Rattle.wire_def.specs.declared.head.Head.{Head}
use Rattle.cast_stub.specs.declared.put.Put.{Put}
use Rattle.cast_stub.specs.declared.put.Put.TheVariants as put
use Rattle.cast_stub.specs.Parts.{on_some}
use Rattle.cast_stub.specs.Puts.{put_octets, offset, Cells, placed, put_one, put_all, full, filled}
use Rattle.cast_stub.proofs.Putting.{placed_whole, full_whole}
use Rattle.chunker.specs.Chunked.{moved, const_of, with_const, taken, consts_joined, zeros}
use Rattle.cast_stub.proofs.Filled.{some_of, mapped_of, put_length}

-- ---- cells

placed_front : (n : ℕ) (os : List ℕ) (cs es ds : Cells) → placed n os cs ≡ Some ds → placed n os (cs ++ es) ≡ Some (ds ++ es)
placed_front zero [] cs es ds e = let same : cs ≡ ds = cc in ap (λ (x : Cells). Some (x ++ es)) same
placed_front zero (o ∷ os) [] es ds e = absurd cc
placed_front zero (o ∷ os) (c ∷ cs) es ds e =
    let m = mapped_of (placed zero os cs) (λ (x : Cells). Some o ∷ x) ds e in
    ap (option_map (λ (x : Cells). Some o ∷ x)) (placed_front zero os cs es m.0 m.1.0) ∙ ap (λ (x : Cells). Some (x ++ es)) m.1.1
placed_front (suc n) os [] es ds e = absurd cc
placed_front (suc n) os (c ∷ cs) es ds e =
    let m = mapped_of (placed n os cs) (λ (x : Cells). c ∷ x) ds e in
    ap (option_map (λ (x : Cells). c ∷ x)) (placed_front n os cs es m.0 m.1.0) ∙ ap (λ (x : Cells). Some (x ++ es)) m.1.1

placed_behind : (xs : Cells) (n : ℕ) (os : List ℕ) (cs ds : Cells) → placed n os cs ≡ Some ds
    → placed (n + length xs) os (xs ++ cs) ≡ Some (xs ++ ds)
placed_behind [] n os cs ds e =
    let none : n ≡ n + length {A = Option ℕ} [] = omega arith in subst (λ (k : ℕ). placed k os cs ≡ Some ds) none e
placed_behind (x ∷ xs) n os cs ds e =
    let more : suc (n + length xs) ≡ n + length (x ∷ xs) = omega arith in
    subst (λ (k : ℕ). placed k os (x ∷ xs ++ cs) ≡ Some (x ∷ xs ++ ds)) more
    (ap (option_map (λ (y : Cells). x ∷ y)) (placed_behind xs n os cs ds e))

placed_none : (n : ℕ) (cs ds : Cells) → placed n [] cs ≡ Some ds → cs ≡ ds
placed_none zero cs ds e = cc
placed_none (suc n) [] ds e = absurd cc
placed_none (suc n) (c ∷ cs) ds e =
    let m = mapped_of (placed n [] cs) (λ (x : Cells). c ∷ x) ds e in
    ap (λ (x : Cells). c ∷ x) (placed_none n cs m.0 m.1.0) ∙ m.1.1

-- octets after octets, where the first ended
placed_after : (n : ℕ) (xs ys : List ℕ) (cs ds es : Cells) → placed n xs cs ≡ Some ds → placed (n + length xs) ys ds ≡ Some es
    → placed n (xs ++ ys) cs ≡ Some es
placed_after zero [] ys cs ds es e f = let same : cs ≡ ds = cc in subst (λ (x : Cells). placed zero ys x ≡ Some es) (sym same) f
placed_after zero (x ∷ xs) ys [] ds es e f = absurd cc
placed_after zero (x ∷ xs) ys (c ∷ cs) ds es e f =
    let m = mapped_of (placed zero xs cs) (λ (y : Cells). Some x ∷ y) ds e in
    let further : zero + length (x ∷ xs) ≡ suc (length xs) = omega arith in
    let near : length xs ≡ zero + length xs = omega arith in
    let g = subst (λ (i : ℕ). placed i ys (Some x ∷ m.0) ≡ Some es) further
    (subst (λ (y : Cells). placed (zero + length (x ∷ xs)) ys y ≡ Some es) (sym m.1.1) f) in
    let k = mapped_of (placed (length xs) ys m.0) (λ (y : Cells). Some x ∷ y) es g in
    let there = subst (λ (i : ℕ). placed i ys m.0 ≡ Some k.0) near k.1.0 in
    ap (option_map (λ (y : Cells). Some x ∷ y)) (placed_after zero xs ys cs m.0 k.0 m.1.0 there) ∙ ap Some k.1.1
placed_after (suc n) xs ys [] ds es e f = absurd cc
placed_after (suc n) xs ys (c ∷ cs) ds es e f =
    let m = mapped_of (placed n xs cs) (λ (y : Cells). c ∷ y) ds e in
    let further : suc n + length xs ≡ suc (n + length xs) = omega arith in
    let g = subst (λ (i : ℕ). placed i ys (c ∷ m.0) ≡ Some es) further
    (subst (λ (y : Cells). placed (suc n + length xs) ys y ≡ Some es) (sym m.1.1) f) in
    let k = mapped_of (placed (n + length xs) ys m.0) (λ (y : Cells). c ∷ y) es g in
    ap (option_map (λ (y : Cells). c ∷ y)) (placed_after n xs ys cs m.0 k.0 m.1.0 k.1.0) ∙ ap Some k.1.1

-- ---- puts

moved_octets : (h : Head) (v : Val) (n : ℕ) (p : Put) → put_octets h (moved n p) v ≡ put_octets h p v
moved_octets h v n (put.Num off p w o) = refl
moved_octets h v n _ = refl

moved_offset : (n : ℕ) (p : Put) → offset (moved n p) ≡ offset p + n
moved_offset n (put.Num off p w o) = refl
moved_offset n _ = refl

-- no octet
abbrev hole : Option ℕ
hole = None

module _ (h : Head) (v : Val) where
  put_front : (ps : List Put) (cs es ds : Cells) → put_all h v ps cs ≡ Some ds → put_all h v ps (cs ++ es) ≡ Some (ds ++ es)
  put_front [] cs es ds e = let same : cs ≡ ds = cc in ap (λ (x : Cells). Some (x ++ es)) same
  put_front (p ∷ ps) cs es ds e =
      let one = some_of (put_one h v p cs) (put_all h v ps) ds e in
      let os = some_of (put_octets h p v) (λ (l : List ℕ). placed (offset p) l cs) one.0 one.1.0 in
      let first : put_one h v p (cs ++ es) ≡ Some (one.0 ++ es) =
      ap (λ (x : Option (List ℕ)). on_some x (λ (l : List ℕ). placed (offset p) l (cs ++ es))) os.1.0
      ∙ placed_front (offset p) os.0 cs es one.0 os.1.1 in
      ap (λ (x : Option Cells). on_some x (put_all h v ps)) first ∙ put_front ps one.0 es ds one.1.1

  put_behind : (xs : Cells) (ps : List Put) (cs ds : Cells) → put_all h v ps cs ≡ Some ds
      → put_all h v (map (moved (length xs)) ps) (xs ++ cs) ≡ Some (xs ++ ds)
  put_behind xs [] cs ds e = let same : cs ≡ ds = cc in ap (λ (x : Cells). Some (xs ++ x)) same
  put_behind xs (p ∷ ps) cs ds e =
      let one = some_of (put_one h v p cs) (put_all h v ps) ds e in
      let os = some_of (put_octets h p v) (λ (l : List ℕ). placed (offset p) l cs) one.0 one.1.0 in
      let q = moved (length xs) p in
      let first : put_one h v q (xs ++ cs) ≡ Some (xs ++ one.0) =
      ap (λ (x : Option (List ℕ)). on_some x (λ (l : List ℕ). placed (offset q) l (xs ++ cs))) (moved_octets h v (length xs) p ∙ os.1.0)
      ∙ ap (λ (k : ℕ). placed k os.0 (xs ++ cs)) (moved_offset (length xs) p)
      ∙ placed_behind xs (offset p) os.0 cs one.0 os.1.1 in
      ap (λ (x : Option Cells). on_some x (put_all h v (map (moved (length xs)) ps))) first ∙ put_behind xs ps one.0 ds one.1.1

  put_after : (ps qs : List Put) (cs ds es : Cells) → put_all h v ps cs ≡ Some ds → put_all h v qs ds ≡ Some es
      → put_all h v (ps ++ qs) cs ≡ Some es
  put_after [] qs cs ds es e f = let same : cs ≡ ds = cc in subst (λ (x : Cells). put_all h v qs x ≡ Some es) (sym same) f
  put_after (p ∷ ps) qs cs ds es e f =
      let one = some_of (put_one h v p cs) (put_all h v ps) ds e in
      ap (λ (x : Option Cells). on_some x (put_all h v (ps ++ qs))) one.1.0 ∙ put_after ps qs one.0 ds es one.1.1 f

  -- ---- constants

  const_maybe : (a : ℕ) (xs : List ℕ) (ps : List Put) (cs ds : Cells) → put_all h v (put.Const a xs ∷ ps) cs ≡ Some ds
      → put_all h v (with_const a xs ps) cs ≡ Some ds
  const_maybe a [] ps cs ds e =
      let one = some_of (placed a [] cs) (put_all h v ps) ds e in
      subst (λ (x : Cells). put_all h v ps x ≡ Some ds) (sym (placed_none a cs one.0 one.1.0)) one.1.1
  const_maybe a (x ∷ xs) ps cs ds e = e

  const_after : (a : ℕ) (xs ys : List ℕ) (ps : List Put) (cs ds : Cells)
      → put_all h v (with_const a xs (put.Const (a + length xs) ys ∷ ps)) cs ≡ Some ds
      → put_all h v (with_const a (xs ++ ys) ps) cs ≡ Some ds
  const_after a [] ys ps cs ds e =
      let none : a + 0 ≡ a = omega arith in
      const_maybe a ys ps cs ds (subst (λ (k : ℕ). put_all h v (put.Const k ys ∷ ps) cs ≡ Some ds) none e)
  const_after a (x ∷ xs) ys ps cs ds e =
      let one = some_of (placed a (x ∷ xs) cs) (put_all h v (put.Const (a + length (x ∷ xs)) ys ∷ ps)) ds e in
      let two = some_of (placed (a + length (x ∷ xs)) ys one.0) (put_all h v ps) ds one.1.1 in
      ap (λ (z : Option Cells). on_some z (put_all h v ps)) (placed_after a (x ∷ xs) ys cs one.0 two.0 one.1.0 two.1.0) ∙ two.1.1

  under_const : (a : ℕ) (xs : List ℕ) (ps qs : List Put)
      → ((cs ds : Cells) → put_all h v ps cs ≡ Some ds → put_all h v qs cs ≡ Some ds) → (cs ds : Cells)
      → put_all h v (with_const a xs ps) cs ≡ Some ds
      → put_all h v (with_const a xs qs) cs ≡ Some ds
  under_const a [] ps qs f cs ds e = f cs ds e
  under_const a (x ∷ xs) ps qs f cs ds e =
      let one = some_of (placed a (x ∷ xs) cs) (put_all h v ps) ds e in
      ap (λ (z : Option Cells). on_some z (put_all h v qs)) one.1.0 ∙ f one.0 ds one.1.1

  under_put : (p : Put) (ps qs : List Put) → ((cs ds : Cells) → put_all h v ps cs ≡ Some ds → put_all h v qs cs ≡ Some ds)
      → (cs ds : Cells) → put_all h v (p ∷ ps) cs ≡ Some ds → put_all h v (p ∷ qs) cs ≡ Some ds
  under_put p ps qs f cs ds e =
      let one = some_of (put_one h v p cs) (put_all h v ps) ds e in
      ap (λ (z : Option Cells). on_some z (put_all h v qs)) one.1.0 ∙ f one.0 ds one.1.1

  -- what a step of the join does
  abbrev Joined : (ℕ → List ℕ → List Put) → List Put → Type 0
  Joined rest ps = (a : ℕ) (xs : List ℕ) (cs ds : Cells) → put_all h v (with_const a xs ps) cs ≡ Some ds
      → put_all h v (rest a xs) cs ≡ Some ds

  by_place : (b : Bool) (a c : ℕ) (xs ys : List ℕ) (ps : List Put) (rest : ℕ → List ℕ → List Put) → nat_eq c (a + length xs) ≡ b
      → Joined rest ps → (cs ds : Cells) → put_all h v (with_const a xs (put.Const c ys ∷ ps)) cs ≡ Some ds
      → put_all h v (if b then rest a (xs ++ ys) else with_const a xs (rest c ys)) cs ≡ Some ds
  by_place true a c xs ys ps rest t f cs ds e =
      f a (xs ++ ys) cs ds (const_after a xs ys ps cs ds
      (subst (λ (k : ℕ). put_all h v (with_const a xs (put.Const k ys ∷ ps)) cs ≡ Some ds) (eqb-true c (a + length xs) t) e))
  by_place false a c xs ys ps rest t f cs ds e =
      under_const a xs (put.Const c ys ∷ ps) (rest c ys) (λ x y k. f c ys x y (const_maybe c ys ps x y k)) cs ds e

  taken_same : (p : Put) (ps : List Put) (rest : ℕ → List ℕ → List Put) → Joined rest ps
      → Joined (λ a xs. taken a xs p (const_of p) rest) (p ∷ ps)
  taken_same (put.Const c ys) ps rest f a xs cs ds e = by_place (nat_eq c (a + length xs)) a c xs ys ps rest refl f cs ds e
  taken_same (put.Num off p w o) ps rest f a xs cs ds e =
      let q = put.Num off p w o in under_const a xs (q ∷ ps) (q ∷ rest 0 []) (under_put q ps (rest 0 []) (f 0 [])) cs ds e
  taken_same (put.Tag off p w o) ps rest f a xs cs ds e =
      let q = put.Tag off p w o in under_const a xs (q ∷ ps) (q ∷ rest 0 []) (under_put q ps (rest 0 []) (f 0 [])) cs ds e
  taken_same (put.Flag off p w o) ps rest f a xs cs ds e =
      let q = put.Flag off p w o in under_const a xs (q ∷ ps) (q ∷ rest 0 []) (under_put q ps (rest 0 []) (f 0 [])) cs ds e
  taken_same (put.Count off p m s w o) ps rest f a xs cs ds e =
      let q = put.Count off p m s w o in under_const a xs (q ∷ ps) (q ∷ rest 0 []) (under_put q ps (rest 0 []) (f 0 [])) cs ds e
  taken_same (put.Short off p name size m) ps rest f a xs cs ds e =
      let q = put.Short off p name size m in under_const a xs (q ∷ ps) (q ∷ rest 0 []) (under_put q ps (rest 0 []) (f 0 [])) cs ds e
  taken_same (put.Head off g w o) ps rest f a xs cs ds e =
      let q = put.Head off g w o in under_const a xs (q ∷ ps) (q ∷ rest 0 []) (under_put q ps (rest 0 []) (f 0 [])) cs ds e

  joined_same : (ps : List Put) → Joined (λ a xs. consts_joined a xs ps) ps
  joined_same [] a xs cs ds e = e
  joined_same (p ∷ ps) a xs cs ds e = taken_same p ps (λ b ys. consts_joined b ys ps) (joined_same ps) a xs cs ds e

  -- ---- chunks

  full_append : (cs ds : Cells) (xs ys : List ℕ) → full cs ≡ Some xs → full ds ≡ Some ys → full (cs ++ ds) ≡ Some (xs ++ ys)
  full_append [] ds xs ys e f = let same : [] ≡ xs = cc in f ∙ ap (λ (l : List ℕ). Some (l ++ ys)) same
  full_append (None ∷ cs) ds xs ys e f = absurd cc
  full_append (Some c ∷ cs) ds xs ys e f =
      let m = mapped_of (full cs) (λ (l : List ℕ). c ∷ l) xs e in
      ap (option_map (λ (l : List ℕ). c ∷ l)) (full_append cs ds m.0 ys m.1.0 f) ∙ ap (λ (l : List ℕ). Some (l ++ ys)) m.1.1

  empty_cells : (n : ℕ) → length (replicate n hole) ≡ n
  empty_cells zero = refl
  empty_cells (suc n) = ap suc (empty_cells n)

  -- two chunks as one
  pub filled_two : (n s : ℕ) (ps qs : List Put) (o x : List ℕ) → filled n ps h v ≡ Some o → filled s qs h v ≡ Some x
      → filled (n + s) (ps ++ map (moved n) qs) h v ≡ Some (o ++ x)
  filled_two n s ps qs o x e f =
      let c = some_of (put_all h v ps (replicate n hole)) full o e in
      let d = some_of (put_all h v qs (replicate s hole)) full x f in
      let size : length c.0 ≡ n = put_length h v ps (replicate n hole) c.0 c.1.0 ∙ empty_cells n in
      let first = put_front ps (replicate n hole) (replicate s hole) c.0 c.1.0 in
      let second = subst (λ (k : ℕ). put_all h v (map (moved k) qs) (c.0 ++ replicate s hole) ≡ Some (c.0 ++ d.0)) size
      (put_behind c.0 qs (replicate s hole) d.0 d.1.0) in
      let all = put_after ps (map (moved n) qs) (replicate n hole ++ replicate s hole) (c.0 ++ replicate s hole)
      (c.0 ++ d.0) first second in
      let start = subst (λ (l : Cells). put_all h v (ps ++ map (moved n) qs) l ≡ Some (c.0 ++ d.0))
      (replicate-append-replicate n s hole) all in
      ap (λ (z : Option Cells). on_some z full) start ∙ full_append c.0 d.0 o x c.1.1 d.1.1

  -- a chunk with its constants joined
  pub filled_joined : (n : ℕ) (ps : List Put) (o : List ℕ) → filled n ps h v ≡ Some o → filled n (consts_joined 0 [] ps) h v ≡ Some o
  filled_joined n ps o e =
      let c = some_of (put_all h v ps (replicate n hole)) full o e in
      ap (λ (z : Option Cells). on_some z full) (joined_same ps 0 [] (replicate n hole) c.0 c.1.0) ∙ c.1.1

  zeros_many : (k : ℕ) → length {A = ℕ} (replicate k 0) ≡ k
  zeros_many zero = refl
  zeros_many (suc k) = ap suc (zeros_many k)

  zeros_there : (g : ℕ) → filled g (zeros 0 g) h v ≡ Some (replicate g 0)
  zeros_there zero = refl
  zeros_there (suc g) =
      let os : List ℕ = replicate (suc g) 0 in
      let many : length {A = ℕ} os ≡ suc g = zeros_many (suc g) in
      let put : placed 0 os (replicate (suc g) None) ≡ Some (map Some os) =
      subst (λ (k : ℕ). placed 0 os (replicate k None) ≡ Some (map Some os)) many (placed_whole os) in
      ap (λ (z : Option Cells). on_some (on_some z (λ (l : Cells). Some l)) full) put ∙ full_whole os

  zeros_moved : (n g : ℕ) → map (moved n) (zeros 0 g) ≡ zeros n g
  zeros_moved n zero = refl
  zeros_moved n (suc g) = let none : 0 + n ≡ n = omega arith in ap (λ (k : ℕ). put.Const k (replicate (suc g) 0) ∷ []) none

  -- a chunk and zeros behind it
  pub filled_zeros : (n g : ℕ) (ps : List Put) (o : List ℕ) → filled n ps h v ≡ Some o
      → filled (n + g) (ps ++ zeros n g) h v ≡ Some (o ++ replicate g 0)
  filled_zeros n g ps o e =
      subst (λ (l : List Put). filled (n + g) (ps ++ l) h v ≡ Some (o ++ replicate g 0)) (zeros_moved n g)
      (filled_two n g ps (zeros 0 g) o (replicate g 0) e (zeros_there g))

-- ---- how many puts

pub zeros_few : (n g : ℕ) → length (zeros n g) ≤ 1
zeros_few n zero = omega arith
zeros_few n (suc g) = omega arith

const_few : (a : ℕ) (xs : List ℕ) (ps : List Put) → length (with_const a xs ps) ≤ suc (length ps)
const_few a [] ps = omega arith
const_few a (x ∷ xs) ps = omega arith

abbrev FewOf : (ℕ → List ℕ → List Put) → List Put → Type 0
FewOf rest ps = (a : ℕ) (xs : List ℕ) → length (rest a xs) ≤ length (with_const a xs ps)

const_less : (a : ℕ) (xs : List ℕ) (ps qs : List Put) → length ps ≤ length qs → length (with_const a xs ps) ≤ length (with_const a xs qs)
const_less a [] ps qs le = le
const_less a (x ∷ xs) ps qs le = omega (arith, le)

one_fewer : (a : ℕ) (xs ys : List ℕ) (p : Put) (ps : List Put)
    → length (with_const a (xs ++ ys) ps) ≤ length (with_const a xs (p ∷ ps))
one_fewer a [] [] p ps = omega arith
one_fewer a [] (y ∷ ys) p ps = omega arith
one_fewer a (x ∷ xs) ys p ps = omega arith

few_place : (b : Bool) (a c : ℕ) (xs ys : List ℕ) (ps : List Put) (rest : ℕ → List ℕ → List Put) → FewOf rest ps
    → length (if b then rest a (xs ++ ys) else with_const a xs (rest c ys)) ≤ length (with_const a xs (put.Const c ys ∷ ps))
few_place true a c xs ys ps rest f = omega (arith, f a (xs ++ ys), one_fewer a xs ys (put.Const c ys) ps)
few_place false a c xs ys ps rest f =
    const_less a xs (rest c ys) (put.Const c ys ∷ ps) (omega (arith, f c ys, const_few c ys ps))

few_put : (a : ℕ) (xs : List ℕ) (p : Put) (ps : List Put) (rest : ℕ → List ℕ → List Put) → FewOf rest ps
    → length (with_const a xs (p ∷ rest 0 [])) ≤ length (with_const a xs (p ∷ ps))
few_put a xs p ps rest f = const_less a xs (p ∷ rest 0 []) (p ∷ ps) (omega (arith, f 0 []))

taken_few : (p : Put) (ps : List Put) (rest : ℕ → List ℕ → List Put) → FewOf rest ps
    → FewOf (λ a xs. taken a xs p (const_of p) rest) (p ∷ ps)
taken_few (put.Const c ys) ps rest f a xs = few_place (nat_eq c (a + length xs)) a c xs ys ps rest f
taken_few (put.Num off p w o) ps rest f a xs = few_put a xs (put.Num off p w o) ps rest f
taken_few (put.Tag off p w o) ps rest f a xs = few_put a xs (put.Tag off p w o) ps rest f
taken_few (put.Flag off p w o) ps rest f a xs = few_put a xs (put.Flag off p w o) ps rest f
taken_few (put.Count off p m s w o) ps rest f a xs = few_put a xs (put.Count off p m s w o) ps rest f
taken_few (put.Short off p name size m) ps rest f a xs = few_put a xs (put.Short off p name size m) ps rest f
taken_few (put.Head off g w o) ps rest f a xs = few_put a xs (put.Head off g w o) ps rest f

joined_less : (ps : List Put) → FewOf (λ a xs. consts_joined a xs ps) ps
joined_less [] a xs = omega arith
joined_less (p ∷ ps) a xs = taken_few p ps (λ b ys. consts_joined b ys ps) (joined_less ps) a xs

-- no more than before their constants were joined
pub joined_few : (ps : List Put) → length (consts_joined 0 [] ps) ≤ length ps
joined_few ps = joined_less ps 0 []
