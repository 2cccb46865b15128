-- The puts of a chunk have as many octets as it has, by induction on the puts and on the places.
use Rattle.std.proofs.Common.{◌≡◌, ℕ, zero, suc, ◌+◌, refl, sym, ap, ◌∙◌, arith, List, [], ◌∷◌, length, map, replicate, Option, Some, None, option_map}
use Rattle.std.specs.List.{range_with_len}
use Rattle.std.proofs.lemmas.List.{length-replicate}
use Rattle.std.proofs.lemmas.List.FromFn.{length-map-range_with_len}
use Rattle.cast_stub.specs.declared.put.Put.{Put}
use Rattle.cast_stub.specs.Parts.{on_some}
use Rattle.cast_stub.specs.Puts.{offset}
use Rattle.stub_flat.specs.Items.{Cell, Places, piece, put_on, puts_on, all_put, cells}
use Rattle.stub_compare.specs.CompareCells.{cell_of, is_turned, lengths, plus, put_length, turned_at}
use Rattle.stub_compare.proofs.CompareLaid.{Counted, map_pair, no_piece, piece_cells, put_count}

-- what is there behind a step that is there
pub record Behind {A B : Type 0} (o : Option A) (f : A → Option B) (b : B) : Type 0 where
  pub value : A
  pub is : o ≡ Some value
  pub gives : f value ≡ Some b

behind : {A B : Type 0} (o : Option A) (f : A → Option B) (b : B) → on_some o f ≡ Some b → Behind o f b
behind None f b e = absurd (cc)
behind (Some a) f b e = record { value = a; is = refl; gives = e }

pub record Mapped {A B : Type 0} (f : A → B) (o : Option A) (b : B) : Type 0 where
  pub value : A
  pub is : o ≡ Some value
  pub gives : f value ≡ b

mapped : {A B : Type 0} (f : A → B) (o : Option A) (b : B) → option_map f o ≡ Some b → Mapped f o b
mapped f None b e = absurd (cc)
mapped f (Some a) b e = record { value = a; is = refl; gives = cc }

abbrev one : Option Cell → ℕ
one None = 0
one (Some c) = 1

count_cons : (c : Option Cell) (cs : Places) → put_count (c ∷ cs) ≡ one c + put_count cs
count_cons None cs = omega arith
count_cons (Some c) cs = omega arith

put_counted : (n : ℕ) (os : List Cell) (cs ds : Places) → put_on n os cs ≡ Some ds → Counted (length os) cs ds
put_counted zero [] cs ds e =
    let same : cs ≡ ds = cc in
    record { count = ap put_count (sym same) ∙ (let z : put_count cs ≡ 0 + put_count cs = omega arith in z); size = ap length (sym same) }
put_counted zero (o ∷ os) [] ds e = absurd (cc)
put_counted zero (o ∷ os) (Some c ∷ cs) ds e = absurd (cc)
put_counted zero (o ∷ os) (None ∷ cs) ds e =
    let m = mapped (λ (es : Places). Some o ∷ es) (put_on zero os cs) ds e in
    let inner = put_counted zero os cs m.value m.is in
    record {
      count = ap put_count (sym m.gives) ∙ (let z : suc (put_count m.value)
          ≡ suc (length os) + put_count cs = omega (arith, inner.count) in z);
      size = ap length (sym m.gives) ∙ ap suc inner.size;
    }
put_counted (suc n) os [] ds e = absurd (cc)
put_counted (suc n) os (c ∷ cs) ds e =
    let m = mapped (λ (es : Places). c ∷ es) (put_on n os cs) ds e in
    let inner = put_counted n os cs m.value m.is in
    record {
      count = ap put_count (sym m.gives) ∙ count_cons c m.value
          ∙ (let z : one c + put_count m.value ≡ length os + (one c + put_count cs) = omega (arith, inner.count) in z)
          ∙ ap (λ k. length os + k) (sym (count_cons c cs));
      size = ap length (sym m.gives) ∙ ap suc inner.size;
    }

known_length : (p : Put) (os : List Cell) (o : Option ℕ) → put_length p ≡ o → piece p ≡ Some os → put_length p ≡ Some (length os)
known_length p os None l e = absurd (let none = no_piece p l in cc)
known_length p os (Some n) l e =
    let put_all = map (cell_of p) (map (turned_at (is_turned p) n) (range_with_len 0 n)) in
    let same : put_all ≡ os = (let there = piece_cells p n l in cc) in
    let long : length put_all ≡ n = ap length (map_pair (cell_of p) (turned_at (is_turned p) n) (range_with_len 0 n))
    ∙ length-map-range_with_len (λ j. cell_of p (turned_at (is_turned p) n j)) 0 n in
    l ∙ ap (λ k. Some k) (sym long ∙ ap length same)

-- places on which puts of so many octets stand
pub record AllCounted (ps : List Put) (cs ds : Places) : Type 0 where
  pub total : ℕ
  pub known : lengths ps ≡ Some total
  pub counted : Counted total cs ds

puts_counted : (ps : List Put) (cs ds : Places) → puts_on ps cs ≡ Some ds → AllCounted ps cs ds
puts_counted [] cs ds e =
    let same : cs ≡ ds = cc in
    record {
      total = 0;
      known = refl;
      counted = record {
        count = ap put_count (sym same) ∙ (let z : put_count cs ≡ 0 + put_count cs = omega arith in z);
        size = ap length (sym same);
      };
    }
puts_counted (p ∷ ps) cs ds e =
    let first = behind (piece p) (λ os. on_some (put_on (offset p) os cs) (puts_on ps)) ds e in
    let next = behind (put_on (offset p) first.value cs) (puts_on ps) ds first.gives in
    let one_put = put_counted (offset p) first.value cs next.value next.is in
    let more = puts_counted ps next.value ds next.gives in
    record {
      total = length first.value + more.total;
      known = ap (λ o. plus o (lengths ps)) (known_length p first.value (put_length p) refl first.is)
          ∙ ap (λ o. plus (Some (length first.value)) o) more.known;
      counted = record {
        count = omega (arith, one_put.count, more.counted.count);
        size = more.counted.size ∙ one_put.size;
      };
    }

all_counted : (ds : Places) (os : List Cell) → all_put ds ≡ Some os → put_count ds ≡ length ds
all_counted [] os e = refl
all_counted (None ∷ ds) os e = absurd (cc)
all_counted (Some c ∷ ds) os e =
    let m = mapped (λ (cs : List Cell). c ∷ cs) (all_put ds) os e in ap suc (all_counted ds m.value m.is)

none_put : (n : ℕ) → put_count (replicate n None) ≡ 0
none_put zero = refl
none_put (suc n) = none_put n

-- a chunk whose octets each have one put has as many as its puts
pub cells_lengths : (size : ℕ) (ps : List Put) (os : List Cell) → cells size ps ≡ Some os → lengths ps ≡ Some size
cells_lengths size ps os e =
    let b = behind (puts_on ps (replicate size None)) all_put os e in
    let c = puts_counted ps (replicate size None) b.value b.is in
    let same : c.total ≡ size = omega (
      arith,
      c.counted.count,
      c.counted.size,
      none_put size,
      all_counted b.value os b.gives,
      length-replicate {A = Option Cell} size None,
    ) in
    c.known ∙ ap (λ k. Some k) same
