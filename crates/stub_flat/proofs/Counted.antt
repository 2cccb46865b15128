-- How many numbers of a block lack octets is counted in its items: sums over cells, puts and chunks.
use Rattle.std.proofs.Common.{◌≡◌, ℕ, zero, suc, ◌+◌, ◌-◌, List, [], ◌∷◌, map, replicate, Option, Some, None, option_map, Bool, true, false, if◌then◌else◌, nat_eq, refl, ap, subst, arith}
use Rattle.mint.specs.declared.node.Node.{Node}
use Rattle.mint.specs.Values.{Val}
use Rattle.wire_def.specs.declared.head.Order.{Order}
use Rattle.wire_def.specs.declared.head.Order.TheVariants.{Big, Little}
use Rattle.wire_def.specs.declared.head.Head.{Head}
use Rattle.wire_def.specs.Scalars.{gap}
use Rattle.cast_stub.specs.declared.put.Put.{Put}
use Rattle.cast_stub.specs.declared.put.Put.TheVariants as put
use Rattle.cast_stub.specs.Block.{Block, stop, ensure, ensure_row, align, chunk, row_copy, row_swap, row_wide, each, switch, if_there, call, patch}
use Rattle.cast_stub.specs.Parts.{on_some}
use Rattle.cast_stub.specs.Puts.{offset}
use Rattle.cast_stub.specs.Steps.{is_width}
use Rattle.stub_flat.specs.Places.{Spot, node_of, spot_at, element, present, row_kind, has_length}
use Rattle.stub_flat.specs.Residues.{Residues, every, closed, moved, size_first, single_first}
use Rattle.stub_flat.specs.Leaves.{width_of, leaves}
use Rattle.stub_flat.specs.Items.{Source, num, tag, flag, count, short, head, Cell, fixed, Items, done, zeros, loop, ways, if_present, called, patched, Ways, octets, ordered, word_of, piece, Places, put_on, puts_on, all_put, cells, align_items, row_items, is_row, items, way_items}
use Rattle.stub_flat.proofs.Ends.{provided_of}
use Rattle.stub_flat.proofs.Octets.{lack}
use Rattle.stub_flat.proofs.Told.{number_of, gain, loss, total, weigh, put_lacks, lacks, misfits}
use Rattle.cast_stub.proofs.Widths.{Wide, one, two, four, eight, wide_is}
use Rattle.cast_stub.proofs.Filled.{some_of, mapped_of}

-- ---- the octets of a put

-- the octets of a number are in a width
pub word_wide : (s : Source) (w : ℕ) (o : Order) (os : List Cell) → word_of s w o ≡ Some os → Wide w × (ordered s w o ≡ os)
word_wide s w o os e = by (is_width w) refl e where
  by : (t : Bool) → is_width w ≡ t → (if t then Some (ordered s w o) else None) ≡ Some os → Wide w × (ordered s w o ≡ os)
  by true t e =
      let same : ordered s w o ≡ os = cc in (wide_is w t, same)
  by false t e = absurd cc

module _ (h : Head) (v : Val) where
  -- the octets of a number count it where it lacks some
  pub wide_counts : (s : Source) (w : ℕ) (o : Order) → Wide w
      → total (gain h v) (ordered s w o) ≡ total (loss h v) (ordered s w o) + lack w (number_of h v s)
  wide_counts s _ Little one = omega arith
  wide_counts s _ Big one = omega arith
  wide_counts s _ Little two = omega arith
  wide_counts s _ Big two = omega arith
  wide_counts s _ Little four = omega arith
  wide_counts s _ Big four = omega arith
  wide_counts s _ Little eight = omega arith
  wide_counts s _ Big eight = omega arith

  word_counts : (s : Source) (w : ℕ) (o : Order) (os : List Cell) → word_of s w o ≡ Some os
      → total (gain h v) os ≡ total (loss h v) os + lack w (number_of h v s)
  word_counts s w o os e =
      let t = word_wide s w o os e in
      subst (λ (l : List Cell). total (gain h v) l ≡ total (loss h v) l + lack w (number_of h v s)) t.1 (wide_counts s w o t.0)

  fixed_counts : (os : List ℕ) → total (gain h v) (map fixed os) ≡ total (loss h v) (map fixed os) + 0
  fixed_counts [] = refl
  fixed_counts (o ∷ os) = let e = fixed_counts os in omega (arith, e)

  piece_counts : (p : Put) (os : List Cell) → piece p ≡ Some os → total (gain h v) os ≡ total (loss h v) os + put_lacks h v p
  piece_counts (put.Num off p w o) os e = word_counts (num p) w o os e
  piece_counts (put.Tag off p w o) os e = word_counts (tag p) w o os e
  piece_counts (put.Flag off p w o) os e = word_counts (flag p) w o os e
  piece_counts (put.Count off p m a w o) os e = word_counts (count p m a) w o os e
  piece_counts (put.Short off p name size m) os e =
      let s = short p name size m in
      let same : ordered s 4 Little ≡ os = cc in
      subst (λ (l : List Cell). total (gain h v) l ≡ total (loss h v) l + lack 4 (number_of h v s)) same (wide_counts s 4 Little four)
  piece_counts (put.Const off cs) os e =
      let same : map fixed cs ≡ os = cc in
      subst (λ (l : List Cell). total (gain h v) l ≡ total (loss h v) l + 0) same (fixed_counts cs)
  piece_counts (put.Head off f w o) os e = word_counts (head f) w o os e

-- ---- the cells of a chunk

-- what the octets of places weigh together
abbrev held : (Cell → ℕ) → Places → ℕ
held f [] = 0
held f (None ∷ cs) = held f cs
held f (Some c ∷ cs) = f c + held f cs

-- a place, and those behind it
held_more : (f : Cell → ℕ) (c : Option Cell) (cs ds : Places) (k : ℕ) → held f ds ≡ k + held f cs → held f (c ∷ ds) ≡ k + held f (c ∷ cs)
held_more f None cs ds k e = e
held_more f (Some c) cs ds k e = omega (arith, e)

put_held : (f : Cell → ℕ) (n : ℕ) (os : List Cell) (cs ds : Places) → put_on n os cs ≡ Some ds → held f ds ≡ total f os + held f cs
put_held f zero [] cs ds e =
    let same : cs ≡ ds = cc in
    let here : held f cs ≡ 0 + held f cs = omega arith in
    subst (λ (l : Places). held f l ≡ 0 + held f cs) same here
put_held f zero (o ∷ os) [] ds e = absurd cc
put_held f zero (o ∷ os) (None ∷ cs) ds e =
    let m = mapped_of (put_on zero os cs) (λ (l : Places). Some o ∷ l) ds e in
    let rest : held f m.0 ≡ total f os + held f cs = put_held f zero os cs m.0 m.1.0 in
    let all : held f (Some o ∷ m.0) ≡ (f o + total f os) + held f cs = omega (arith, rest) in
    subst (λ (l : Places). held f l ≡ (f o + total f os) + held f cs) m.1.1 all
put_held f zero (o ∷ os) (Some c ∷ cs) ds e = absurd cc
put_held f (suc n) os [] ds e = absurd cc
put_held f (suc n) os (c ∷ cs) ds e =
    let m = mapped_of (put_on n os cs) (λ (l : Places). c ∷ l) ds e in
    subst (λ (l : Places). held f l ≡ total f os + held f (c ∷ cs)) m.1.1
    (held_more f c cs m.0 (total f os) (put_held f n os cs m.0 m.1.0))

all_held : (f : Cell → ℕ) (cs : Places) (os : List Cell) → all_put cs ≡ Some os → total f os ≡ held f cs
all_held f [] os e =
    let same : [] ≡ os = cc in subst (λ (l : List Cell). total f l ≡ 0) same refl
all_held f (None ∷ cs) os e = absurd cc
all_held f (Some c ∷ cs) os e =
    let m = mapped_of (all_put cs) (λ (l : List Cell). c ∷ l) os e in
    subst (λ (l : List Cell). total f l ≡ f c + held f cs) m.1.1 (ap (λ (k : ℕ). f c + k) (all_held f cs m.0 m.1.0))

-- places that are not put
abbrev pub unput : ℕ → Places
unput n = replicate n None

none_held : (f : Cell → ℕ) (n : ℕ) → held f (unput n) ≡ 0
none_held f zero = refl
none_held f (suc n) = none_held f n

module _ (h : Head) (v : Val) where
  puts_count : (ps : List Put) (cs ds : Places) → puts_on ps cs ≡ Some ds
      → held (gain h v) ds + held (loss h v) cs ≡ held (loss h v) ds + held (gain h v) cs + lacks h v ps
  puts_count [] cs ds e =
      let same : cs ≡ ds = cc in
      let here : held (gain h v) cs + held (loss h v) cs ≡ held (loss h v) cs + held (gain h v) cs + 0 = omega arith in
      subst (λ (l : Places). held (gain h v) l + held (loss h v) cs ≡ held (loss h v) l + held (gain h v) cs + 0) same here
  puts_count (p ∷ ps) cs ds e =
      let a = some_of (piece p) (λ (os : List Cell). on_some (put_on (offset p) os cs) (puts_on ps)) ds e in
      let b = some_of (put_on (offset p) a.0 cs) (puts_on ps) ds a.1.1 in
      let rest = puts_count ps b.0 ds b.1.1 in
      let gains = put_held (gain h v) (offset p) a.0 cs b.0 b.1.0 in
      let losses = put_held (loss h v) (offset p) a.0 cs b.0 b.1.0 in
      let counts = piece_counts h v p a.0 a.1.0 in
      omega (arith, rest, gains, losses, counts)

  -- a chunk's octets count its puts that lack octets
  pub cells_count : (n : ℕ) (ps : List Put) (os : List Cell) → cells n ps ≡ Some os
      → total (gain h v) os ≡ total (loss h v) os + lacks h v ps
  cells_count n ps os e =
      let c = some_of (puts_on ps (unput n)) all_put os e in
      let counts = puts_count ps (unput n) c.0 c.1.0 in
      let gains = all_held (gain h v) c.0 os c.1.1 in
      let losses = all_held (loss h v) c.0 os c.1.1 in
      let none = none_held (gain h v) n in
      let nothing = none_held (loss h v) n in
      omega (arith, counts, gains, losses, none, nothing)

-- ---- blocks

pub octets_weigh : (f : Cell → ℕ) (os : List Cell) (r : Items) → weigh f (octets os r) ≡ total f os + weigh f r
octets_weigh f [] r = let same : weigh f r ≡ 0 + weigh f r = omega arith in same
octets_weigh f (c ∷ os) r = let e = octets_weigh f os r in omega (arith, e)

module _ (h : Head) (v : Val) (N : List Node) (s : Spot) where
  -- items that count so many numbers
  abbrev Counts : ℕ → Items → Type 0
  Counts n i = weigh (gain h v) i ≡ weigh (loss h v) i + n

  zeros_weigh : (f : Cell → ℕ) (n : ℕ) (r : Items) → f (fixed 0) ≡ 0 → weigh f (octets (replicate n (fixed 0)) r) ≡ weigh f r
  zeros_weigh f zero r e = refl
  zeros_weigh f (suc n) r e = let rest = zeros_weigh f n r e in omega (arith, e, rest)

  align_counts : (a : ℕ) (S : Residues) (n : ℕ) (r : Items) → Counts n r → Counts n (align_items a S r)
  align_counts a S n r e = by (nat_eq (size_first 8 S) 1) where
    by : (t : Bool) → Counts n (if t then octets (replicate (gap (single_first 8 S) a) (fixed 0)) r else zeros a r)
    by true =
        let k = gap (single_first 8 S) a in
        let gains = zeros_weigh (gain h v) k r refl in
        let losses = zeros_weigh (loss h v) k r refl in
        omega (arith, gains, losses, e)
    by false = e

  mapped_counts : (o : Option Items) (f : Items → Items) (i : Items) (n : ℕ) → ((r : Items) → Counts n r → Counts n (f r))
      → option_map f o ≡ Some i → ((r : Items) → o ≡ Some r → Counts n r) → Counts n i
  mapped_counts o f i n g e more =
      let m = mapped_of o f i e in
      subst (λ (x : Items). Counts n x) m.1.1 (g m.0 (more m.0 m.1.0))

  -- the items of a block count its numbers that lack octets
  pub block_counts : (b : Block) (S : Residues) (i : Items) → items N s b S ≡ Some i → Counts (misfits h v b) i
  block_counts stop S i e = let same : done ≡ i = cc in subst (λ (x : Items). Counts 0 x) same refl
  block_counts (ensure n r) S i e = block_counts r S i e
  block_counts (ensure_row p u x r) S i e =
      block_counts r S i (provided_of (has_length (node_of N (spot_at N p s))) (items N s r S) i e).1
  block_counts (align a r) S i e =
      let T = leaves N s (align a stop) S in
      mapped_counts (items N s r T) (align_items a S) i (misfits h v r) (align_counts a S (misfits h v r))
      (provided_of (is_width a) (option_map (align_items a S) (items N s r T)) i e).1 (λ x f. block_counts r T x f)
  block_counts (chunk n ps r) S i e =
      let c = some_of (cells n ps) (λ (os : List Cell). option_map (octets os) (items N s r (moved n S))) i e in
      let m = mapped_of (items N s r (moved n S)) (octets c.0) i c.1.1 in
      let rest = block_counts r (moved n S) m.0 m.1.0 in
      let here = cells_count h v n ps c.0 c.1.0 in
      let gains = octets_weigh (gain h v) c.0 m.0 in
      let losses = octets_weigh (loss h v) c.0 m.0 in
      let all : Counts (lacks h v ps + misfits h v r) (octets c.0 m.0) = omega (arith, rest, here, gains, losses) in
      subst (λ (x : Items). Counts (lacks h v ps + misfits h v r) x) m.1.1 all
  block_counts (row_copy p r) S i e =
      let T = leaves N s (row_copy p stop) S in
      let w = width_of (row_kind (node_of N (spot_at N p s))) in
      mapped_counts (items N s r T) (row_items p w Little) i (misfits h v r) (λ x c. c)
      (provided_of (is_row N (spot_at N p s)) (option_map (row_items p w Little) (items N s r T)) i e).1 (λ x f. block_counts r T x f)
  block_counts (row_swap p r) S i e =
      let T = leaves N s (row_swap p stop) S in
      let w = width_of (row_kind (node_of N (spot_at N p s))) in
      mapped_counts (items N s r T) (row_items p w Big) i (misfits h v r) (λ x c. c)
      (provided_of (is_row N (spot_at N p s)) (option_map (row_items p w Big) (items N s r T)) i e).1 (λ x f. block_counts r T x f)
  block_counts (row_wide p o r) S i e =
      let T = leaves N s (row_wide p o stop) S in
      mapped_counts (items N s r T) (row_items p 4 o) i (misfits h v r) (λ x c. c)
      (provided_of (is_row N (spot_at N p s)) (option_map (row_items p 4 o) (items N s r T)) i e).1 (λ x f. block_counts r T x f)
  block_counts (each p b r) S i e =
      let inner = element (node_of N (spot_at N p s)) in
      let T = leaves N s (each p b stop) S in
      let x = some_of (items N inner b (closed (leaves N inner b) S)) (λ (y : Items). option_map (loop p y) (items N s r T)) i e in
      mapped_counts (items N s r T) (loop p x.0) i (misfits h v r) (λ y c. c) x.1.1 (λ y f. block_counts r T y f)
  block_counts (switch p cs r) S i e =
      let T = leaves N s (switch p cs stop) S in
      let x = some_of (way_items N (node_of N (spot_at N p s)) cs cs S) (λ (y : Ways). option_map (ways p y) (items N s r T)) i e in
      mapped_counts (items N s r T) (ways p x.0) i (misfits h v r) (λ y c. c) x.1.1 (λ y f. block_counts r T y f)
  block_counts (if_there p b r) S i e =
      let inner = present (node_of N (spot_at N p s)) in
      let T = leaves N s (if_there p b stop) S in
      let x = some_of (items N inner b S) (λ (y : Items). option_map (if_present p y) (items N s r T)) i e in
      mapped_counts (items N s r T) (if_present p x.0) i (misfits h v r) (λ y c. c) x.1.1 (λ y f. block_counts r T y f)
  block_counts (call k p r) S i e =
      mapped_counts (items N s r every) (called k p) i (misfits h v r) (λ y c. c) e (λ y f. block_counts r every y f)
  block_counts (patch a z o r) S i e =
      mapped_counts (items N s r S) (patched a z o) i (misfits h v r) (λ y c. c) e (λ y f. block_counts r S y f)

  -- what is counted in items is how many numbers lack octets
  pub block_lacks : (b : Block) (S : Residues) (i : Items) → items N s b S ≡ Some i
      → weigh (gain h v) i - weigh (loss h v) i ≡ misfits h v b
  block_lacks b S i e = let c = block_counts b S i e in omega (arith, c)
