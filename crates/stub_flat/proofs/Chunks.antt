-- A chunk appends the octets of its items where each of its numbers fits, else it has none, by induction on puts and cells.
use Rattle.std.proofs.Common.{◌≡◌, ℕ, zero, suc, ◌+◌, ◌-◌, ◌*◌, ◌<◌, ℤ, pos, List, [], ◌∷◌, ◌++◌, length, map, replicate, Option, Some, None, option_map, Bool, true, false, if◌then◌else◌, nat_lt, ◌&&◌, refl, sym, ap, ◌∙◌, arith, append_assoc, append-nil}
use Rattle.std.proofs.lemmas.Bool.{lt-ltb, ltb-true, and_parts}
use Rattle.std.proofs.lemmas.List.{length-map}
use Rattle.mint.specs.Values.{Val}
use Rattle.wire_def.specs.declared.head.Head.{Head}
use Rattle.wire_def.specs.declared.head.Order.{Order}
use Rattle.wire_def.specs.declared.head.Order.TheVariants.{Big, Little}
use Rattle.wire_def.specs.Descriptors.{descriptor}
use Rattle.wire_def.specs.Orders.{in_order}
use Rattle.cast_stub.specs.declared.put.Put.{Put}
use Rattle.cast_stub.specs.declared.put.Put.TheVariants as put
use Rattle.cast_stub.specs.Parts.{on_some, at, length_in}
use Rattle.cast_stub.specs.Puts.{word, put_octets, offset, Cells, placed, put_one, put_all, full, filled}
use Rattle.cast_stub.specs.Steps.{Stored, chunk_steps}
use Rattle.cast_stub.specs.Meaning.{wrote}
use Rattle.cast_stub.proofs.Putting.{if_so}
use Rattle.stub_flat.specs.Items.{Source, num, tag, flag, count, short, head, Cell, fixed, Items, done, octets, ordered, word_of, piece, Places, put_on, puts_on, all_put, cells}
use Rattle.stub_flat.proofs.Counted.{word_wide, wide_counts, unput, octets_weigh}
use Rattle.stub_flat.proofs.Ends.{fitting, fit_then, fit_map}
use Rattle.stub_flat.proofs.Octets.{spelled, lack, word_spelled}
use Rattle.stub_flat.proofs.Told.{described, number_of, value, gain, loss, weigh, Answers, tell, told, put_lacks, lacks}
use Rattle.cast_stub.proofs.Widths.{Wide, one, two, four, eight}
use Rattle.cast_stub.proofs.Filled.{some_of, mapped_of}

-- ---- what a put takes of a value

through : {A : Type 0} (x : Option A) (g : A → ℤ) (f : ℤ → Option (List ℕ))
    → on_some x (λ a. f (g a)) ≡ on_some (on_some x (λ a. Some (g a))) f
through None g f = refl
through (Some a) g f = refl

through_some : {A : Type 0} (x : Option A) (k : A → Option (List ℕ)) (g : A → Option ℤ) (f : ℤ → Option (List ℕ))
    → ((a : A) → k a ≡ on_some (g a) f) → on_some x k ≡ on_some (on_some x g) f
through_some None k g f e = refl
through_some (Some a) k g f e = e a

-- a short descriptor is a word
described_is : (name size n : ℕ) → descriptor name size n ≡ on_some (described name size n) (word 4 Little)
described_is name size n = by (nat_lt name 256 && (nat_lt size 256 && nat_lt n 4096)) refl where
  m : ℕ
  m = name + size * 256 + n * 65536 + 268435456

  few : (nat_lt name 256 && (nat_lt size 256 && nat_lt n 4096)) ≡ true → m < 4294967296
  few t =
      let a = and_parts (nat_lt name 256) (nat_lt size 256 && nat_lt n 4096) t in
      let b = and_parts (nat_lt size 256) (nat_lt n 4096) a.1 in
      omega (arith, ltb-true name 256 a.0, ltb-true size 256 b.0, ltb-true n 4096 b.1)

  by : (t : Bool) → (nat_lt name 256 && (nat_lt size 256 && nat_lt n 4096)) ≡ t
      → (if t then Some (in_order Little 4 m) else None) ≡ on_some (if t then Some (pos m) else None) (word 4 Little)
  by true t =
      let fits = if_so (nat_lt m 4294967296) m (lt-ltb m 4294967296 (few t)) in
      sym (ap (λ (o : Option ℕ). on_some o (λ k. Some (in_order Little 4 k))) fits)
  by false t = refl

module _ (h : Head) (v : Val) where
  -- the octets of cells
  abbrev pub values : List Cell → List ℕ
  values cs = map (value h v) cs

  -- those of a chunk
  abbrev seen : Places → Cells
  seen cs = map (option_map (value h v)) cs

  pub ordered_values : (s : Source) (w : ℕ) → Wide w → (o : Order) → values (ordered s w o) ≡ spelled (number_of h v s) w o
  ordered_values s _ one Little = refl
  ordered_values s _ one Big = refl
  ordered_values s _ two Little = refl
  ordered_values s _ two Big = refl
  ordered_values s _ four Little = refl
  ordered_values s _ four Big = refl
  ordered_values s _ eight Little = refl
  ordered_values s _ eight Big = refl

  wide_fits : (s : Source) (w : ℕ) → Wide w → (o : Order)
      → on_some (number_of h v s) (word w o) ≡ fitting (lack w (number_of h v s)) (values (ordered s w o))
  wide_fits s w is o =
      word_spelled w is (number_of h v s) o
      ∙ ap (λ (l : List ℕ). fitting (lack w (number_of h v s)) l) (sym (ordered_values s w is o))

  word_fits : (s : Source) (w : ℕ) (o : Order) (os : List Cell) → word_of s w o ≡ Some os
      → on_some (number_of h v s) (word w o) ≡ fitting (lack w (number_of h v s)) (values os)
  word_fits s w o os e =
      let t = word_wide s w o os e in
      wide_fits s w t.0 o ∙ ap (λ (l : List Cell). fitting (lack w (number_of h v s)) (values l)) t.1

  fixed_values : (os : List ℕ) → values (map fixed os) ≡ os
  fixed_values [] = refl
  fixed_values (o ∷ os) = ap (λ (l : List ℕ). o ∷ l) (fixed_values os)

  -- the octets of a put are those of its cells, where its number fits
  piece_fits : (p : Put) (os : List Cell) → piece p ≡ Some os → put_octets h p v ≡ fitting (put_lacks h v p) (values os)
  piece_fits (put.Num off p w o) os e = word_fits (num p) w o os e
  piece_fits (put.Tag off p w o) os e = word_fits (tag p) w o os e
  piece_fits (put.Flag off p w o) os e = word_fits (flag p) w o os e
  piece_fits (put.Count off p m a w o) os e =
      through (on_some (at p v) length_in) (λ n. pos (n * m + a)) (word w o) ∙ word_fits (count p m a) w o os e
  piece_fits (put.Short off p name size m) os e =
      let s = short p name size m in
      let same : ordered s 4 Little ≡ os = cc in
      through_some (on_some (at p v) length_in) (λ n. descriptor name size (n * m)) (λ n. described name size (n * m)) (word 4 Little)
      (λ n. described_is name size (n * m))
      ∙ wide_fits s 4 four Little ∙ ap (λ (l : List Cell). fitting (lack 4 (number_of h v s)) (values l)) same
  piece_fits (put.Const off cs) os e =
      let same : map fixed cs ≡ os = cc in
      sym (ap (λ (l : List ℕ). Some l) (fixed_values cs)) ∙ ap (λ (l : List Cell). Some (values l)) same
  piece_fits (put.Head off f w o) os e = word_fits (head f) w o os e

  -- ---- the cells of a chunk

  put_seen : (n : ℕ) (os : List Cell) (cs ds : Places) → put_on n os cs ≡ Some ds → placed n (values os) (seen cs) ≡ Some (seen ds)
  put_seen zero [] cs ds e = let same : cs ≡ ds = cc in ap (λ (l : Places). Some (seen l)) same
  put_seen zero (o ∷ os) [] ds e = absurd cc
  put_seen zero (o ∷ os) (None ∷ cs) ds e =
      let m = mapped_of (put_on zero os cs) (λ (l : Places). Some o ∷ l) ds e in
      ap (option_map (λ (l : Cells). Some (value h v o) ∷ l)) (put_seen zero os cs m.0 m.1.0) ∙ ap (λ (l : Places). Some (seen l)) m.1.1
  put_seen zero (o ∷ os) (Some c ∷ cs) ds e = absurd cc
  put_seen (suc n) os [] ds e = absurd cc
  put_seen (suc n) os (c ∷ cs) ds e =
      let m = mapped_of (put_on n os cs) (λ (l : Places). c ∷ l) ds e in
      ap (option_map (λ (l : Cells). option_map (value h v) c ∷ l)) (put_seen n os cs m.0 m.1.0) ∙ ap (λ (l : Places). Some (seen l)) m.1.1

  puts_seen : (ps : List Put) (cs ds : Places) → puts_on ps cs ≡ Some ds → put_all h v ps (seen cs) ≡ fitting (lacks h v ps) (seen ds)
  puts_seen [] cs ds e = let same : cs ≡ ds = cc in ap (λ (l : Places). Some (seen l)) same
  puts_seen (p ∷ ps) cs ds e =
      let a = some_of (piece p) (λ (os : List Cell). on_some (put_on (offset p) os cs) (puts_on ps)) ds e in
      let b = some_of (put_on (offset p) a.0 cs) (puts_on ps) ds a.1.1 in
      let one : put_one h v p (seen cs) ≡ fitting (put_lacks h v p) (seen b.0) =
      ap (λ (x : Option (List ℕ)). on_some x (λ os. placed (offset p) os (seen cs))) (piece_fits p a.0 a.1.0)
      ∙ fit_map (put_lacks h v p) (values a.0) (seen b.0) (λ os. placed (offset p) os (seen cs)) (put_seen (offset p) a.0 cs b.0 b.1.0) in
      ap (λ (x : Option Cells). on_some x (put_all h v ps)) one
      ∙ fit_then (put_lacks h v p) (lacks h v ps) (seen b.0) (seen ds) (put_all h v ps) (puts_seen ps b.0 ds b.1.1)

  all_seen : (cs : Places) (os : List Cell) → all_put cs ≡ Some os → full (seen cs) ≡ Some (values os)
  all_seen [] os e = let same : [] ≡ os = cc in ap (λ (l : List Cell). Some (values l)) same
  all_seen (None ∷ cs) os e = absurd cc
  all_seen (Some c ∷ cs) os e =
      let m = mapped_of (all_put cs) (λ (l : List Cell). c ∷ l) os e in
      ap (option_map (λ (l : List ℕ). value h v c ∷ l)) (all_seen cs m.0 m.1.0) ∙ ap (λ (l : List Cell). Some (values l)) m.1.1

  none_seen : (n : ℕ) → seen (unput n) ≡ replicate n None
  none_seen zero = refl
  none_seen (suc n) = ap (λ (l : Cells). None ∷ l) (none_seen n)

  -- the octets of a chunk are those of its cells, where each number fits
  chunk_fits : (n : ℕ) (ps : List Put) (os : List Cell) → cells n ps ≡ Some os → filled n ps h v ≡ fitting (lacks h v ps) (values os)
  chunk_fits n ps os e =
      let c = some_of (puts_on ps (unput n)) all_put os e in
      let put : put_all h v ps (replicate n None) ≡ fitting (lacks h v ps) (seen c.0) =
      ap (put_all h v ps) (sym (none_seen n)) ∙ puts_seen ps (unput n) c.0 c.1.0 in
      ap (λ (x : Option Cells). on_some x full) put
      ∙ fit_map (lacks h v ps) (seen c.0) (values os) full (all_seen c.0 os c.1.1)

  stored : (m k : ℕ) (o vs : List ℕ)
      → on_some (on_some (fitting m vs) (λ os. Some (Stored os k ∷ []))) (wrote 0 o) ≡ fitting m (o ++ vs)
  stored zero k o vs = refl
  stored (suc m) k o vs = refl

  -- octets, and after them those of a chunk
  pub chunk_told : (n : ℕ) (ps : List Put) (os : List Cell) → cells n ps ≡ Some os → (o : List ℕ)
      → on_some (chunk_steps n ps h v) (wrote 0 o) ≡ fitting (lacks h v ps) (o ++ values os)
  chunk_told n ps os e o =
      ap (λ (x : Option (List ℕ)). on_some (on_some x (λ y. Some (Stored y (length ps) ∷ []))) (wrote 0 o)) (chunk_fits n ps os e)
      ∙ stored (lacks h v ps) (length ps) o (values os)

  -- ---- octets of items

  pub tell_octets : (d : Answers) (os : List Cell) (r : Items) (o : List ℕ)
      → tell d h (octets os r) v o ≡ tell d h r v (o ++ values os)
  tell_octets d [] r o = ap (tell d h r v) (sym (append-nil o))
  tell_octets d (c ∷ os) r o =
      tell_octets d os r (o ++ value h v c ∷ []) ∙ ap (tell d h r v) (append_assoc o (value h v c ∷ []) (values os))

  -- a number by itself
  pub told_number : (d : Answers) (s : Source) (w : ℕ) → Wide w → (o : Order) (x : List ℕ)
      → told d h (octets (ordered s w o) done) v x ≡ fitting (lack w (number_of h v s)) (x ++ spelled (number_of h v s) w o)
  told_number d s w is o x =
      let cs = ordered s w o in
      let i = octets cs done in
      let n = lack w (number_of h v s) in
      let counts = wide_counts h v s w o is in
      let gains = octets_weigh (gain h v) cs done in
      let losses = octets_weigh (loss h v) cs done in
      let few : weigh (gain h v) i - weigh (loss h v) i ≡ n = omega (arith, counts, gains, losses) in
      ap (λ (k : ℕ). on_some (fitting k x) (tell d h i v)) few
      ∙ fit_map n x (x ++ spelled (number_of h v s) w o) (tell d h i v)
      (tell_octets d cs done x ∙ ap (λ (l : List ℕ). Some (x ++ l)) (ordered_values s w is o))

-- ---- how many octets

put_long : (n : ℕ) (os : List Cell) (cs ds : Places) → put_on n os cs ≡ Some ds → length ds ≡ length cs
put_long zero [] cs ds e = let same : cs ≡ ds = cc in sym (ap length same)
put_long zero (o ∷ os) [] ds e = absurd cc
put_long zero (o ∷ os) (None ∷ cs) ds e =
    let m = mapped_of (put_on zero os cs) (λ (l : Places). Some o ∷ l) ds e in
    sym (ap length m.1.1) ∙ ap suc (put_long zero os cs m.0 m.1.0)
put_long zero (o ∷ os) (Some c ∷ cs) ds e = absurd cc
put_long (suc n) os [] ds e = absurd cc
put_long (suc n) os (c ∷ cs) ds e =
    let m = mapped_of (put_on n os cs) (λ (l : Places). c ∷ l) ds e in
    sym (ap length m.1.1) ∙ ap suc (put_long n os cs m.0 m.1.0)

puts_long : (ps : List Put) (cs ds : Places) → puts_on ps cs ≡ Some ds → length ds ≡ length cs
puts_long [] cs ds e = let same : cs ≡ ds = cc in sym (ap length same)
puts_long (p ∷ ps) cs ds e =
    let a = some_of (piece p) (λ (os : List Cell). on_some (put_on (offset p) os cs) (puts_on ps)) ds e in
    let b = some_of (put_on (offset p) a.0 cs) (puts_on ps) ds a.1.1 in
    puts_long ps b.0 ds b.1.1 ∙ put_long (offset p) a.0 cs b.0 b.1.0

all_long : (cs : Places) (os : List Cell) → all_put cs ≡ Some os → length os ≡ length cs
all_long [] os e = let same : [] ≡ os = cc in sym (ap length same)
all_long (None ∷ cs) os e = absurd cc
all_long (Some c ∷ cs) os e =
    let m = mapped_of (all_put cs) (λ (l : List Cell). c ∷ l) os e in
    sym (ap length m.1.1) ∙ ap suc (all_long cs m.0 m.1.0)

unput_long : (n : ℕ) → length (unput n) ≡ n
unput_long zero = refl
unput_long (suc n) = ap suc (unput_long n)

-- a chunk has as many cells as its size
cells_long : (n : ℕ) (ps : List Put) (os : List Cell) → cells n ps ≡ Some os → length os ≡ n
cells_long n ps os e =
    let c = some_of (puts_on ps (unput n)) all_put os e in
    all_long c.0 os c.1.1 ∙ puts_long ps (unput n) c.0 c.1.0 ∙ unput_long n

pub values_long : (h : Head) (v : Val) (n : ℕ) (ps : List Put) (os : List Cell) → cells n ps ≡ Some os → length (values h v os) ≡ n
values_long h v n ps os e = length-map os (value h v) ∙ cells_long n ps os e
