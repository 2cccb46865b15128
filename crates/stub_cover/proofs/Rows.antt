-- A row operation leads as a loop over its numbers, each of so many octets, by induction on their number.
use Rattle.std.proofs.Common.{◌≡◌, ℕ, zero, suc, ◌+◌, ◌-◌, ◌*◌, ◌%◌, ◌≤◌, ℤ, true, List, [], ◌∷◌, ◌++◌, length, reverse, replicate, Option, None, Some, option_map, refl, sym, ap, ◌∙◌, subst, arith, length-append}
use Rattle.std.proofs.lemmas.List.{length-replicate, length-reverse}
use Rattle.mint.specs.declared.kind.Kind.{Kind}
use Rattle.mint.specs.declared.node.Node.{Node}
use Rattle.mint.specs.Kinds.{width}
use Rattle.mint.specs.Row.{octets_of, image_of}
use Rattle.mint.specs.Typed.{Each}
use Rattle.mint.specs.Values.{Val, void, Vals, no_more, val, count, row_in}
use Rattle.mint.proofs.Images.{octets_many}
use Rattle.wire_def.specs.declared.head.Order.{Order}
use Rattle.wire_def.specs.Orders.{in_order}
use Rattle.cast_stub.specs.Parts.{on_some, at, length_in}
use Rattle.cast_stub.specs.Puts.{word, half_of, wrapped}
use Rattle.cast_stub.specs.Steps.{Step, Stored, Widened, Copied, Steps, both, over, swapped, wide, wide_steps}
use Rattle.stub_flat.specs.Places.{row_kind, greatest}
use Rattle.stub_flat.specs.Residues.{moved, closed}
use Rattle.stub_flat.specs.Leaves.{width_of}
use Rattle.stub_cover.specs.Rooms.{Rooms, reached, took}
use Rattle.stub_cover.specs.Covers.{run_row}
use Rattle.stub_cover.proofs.Leading.{AreQuiet, Leads, Reaches, reaches_some, reaches_on_some}
use Rattle.stub_cover.proofs.Going.{begins, goes_round, goes_moved}
use Rattle.stub_cover.proofs.Rooms.{some_same, Holds, within_there, took_holds}
use Rattle.stub_cover.proofs.Quiet.{IsQuiet}
use Rattle.stub_flat.proofs.PartsTyped.{IsOfNode}
use Rattle.stub_cover.proofs.Lengths.{length_row, few, kind_known}
use Rattle.stub_cover.proofs.Looping.{After, loop_leads}
use Rattle.cast_stub.proofs.Patched.{four}
use Rattle.cast_stub.proofs.Filled.{opened}

-- ---- how many octets

pub image_long : (k : Kind) (ns : List ℤ) → length (image_of k ns) ≡ length ns * width k
image_long k [] = let none : 0 ≡ 0 * width k = omega arith in none
image_long k (n ∷ ns) =
    let first = octets_many k n in
    let rest = image_long k ns in
    let all = length-append (octets_of k n) (image_of k ns) in
    omega (arith, first, rest, all)

pub swapped_long : (k : Kind) (ns : List ℤ) → length (swapped k ns) ≡ length ns * width k
swapped_long k [] = let none : 0 ≡ 0 * width k = omega arith in none
swapped_long k (n ∷ ns) =
    let first : length (reverse (octets_of k n)) ≡ width k = length-reverse (octets_of k n) ∙ octets_many k n in
    let rest = swapped_long k ns in
    let all = length-append (reverse (octets_of k n)) (swapped k ns) in
    omega (arith, first, rest, all)

word_long : (o : Order) (z : ℤ) (os : List ℕ) → word 4 o z ≡ Some os → length os ≡ 4
word_long o z os e =
    let m = opened (on_some (half_of 4) (λ h. wrapped h z)) (λ (n : ℕ). Some (in_order o 4 n)) os e in
    sym (ap length (some_same (in_order o 4 m.0) os m.2)) ∙ four o m.0

wide_long : (o : Order) (ns : List ℤ) (os : List ℕ) → wide o ns ≡ Some os → length os ≡ length ns * 4
wide_long o [] os e = sym (ap length (some_same [] os e))
wide_long o (n ∷ ns) os e =
    let a = opened (word 4 o n) (λ (x : List ℕ). on_some (wide o ns) (λ (y : List ℕ). Some (x ++ y))) os e in
    let b = opened (wide o ns) (λ (y : List ℕ). Some (a.0 ++ y)) os a.2 in
    let first : length a.0 ≡ 4 = word_long o n a.0 a.1 in
    let rest : length b.0 ≡ length ns * 4 = wide_long o ns b.0 b.1 in
    let all : length (a.0 ++ b.0) ≡ length a.0 + length b.0 = length-append {A = ℕ} a.0 b.0 in
    let same : length os ≡ length (a.0 ++ b.0) = sym (ap length (some_same (a.0 ++ b.0) os b.2)) in
    omega (arith, first, rest, all, same)

-- ---- the octets of each number as a step

abbrev words : ℕ → ℕ → List Step
words w zero = []
words w (suc n) = Stored (replicate w 0) 0 ∷ words w n

abbrev voids : ℕ → Vals
voids zero = no_more
voids (suc n) = val void (voids n)

-- the octets of one number
abbrev one_word : ℕ → Val → Steps
one_word w v = Some (Stored (replicate w 0) 0 ∷ [])

over_voids : (w n : ℕ) → over (one_word w) (voids n) ≡ Some (words w n)
over_voids w zero = refl
over_voids w (suc n) = ap (both (Some (Stored (replicate w 0) 0 ∷ []))) (over_voids w n)

count_voids : (n : ℕ) → count (voids n) ≡ n
count_voids zero = refl
count_voids (suc n) = ap suc (count_voids n)

each_void : (n : ℕ) → Each (λ v. Unit {0}) (voids n)
each_void zero = tt
each_void (suc n) = (tt, each_void n)

-- one step of so many octets
abbrev pub Far : (ℕ → ℕ → Type 0) → ℕ → ℕ → ℕ → Type 0
Far Q p a l = (l ≤ a) × Q (p + l) (a - l)

words_lead : (Q : ℕ → ℕ → Type 0) (w n p a : ℕ) → Leads Q p a (words w n) → Far Q p a (n * w)
words_lead Q w zero p a h =
    let none : 0 ≡ 0 * w = omega arith in
    let same : p ≡ p + 0 = omega arith in
    let all : a ≡ a - 0 = omega arith in
    subst (Far Q p a) none (omega arith, subst (λ (x : ℕ). Q x (a - 0)) same (subst (λ (x : ℕ). Q p x) all h))
words_lead Q w (suc n) p a h =
    let l : length {A = ℕ} (replicate w 0) ≡ w = length-replicate w 0 in
    let first : (w ≤ a) × Leads Q (p + w) (a - w) (words w n) =
    subst (λ (x : ℕ). (x ≤ a) × Leads Q (p + x) (a - x) (words w n)) l h in
    further Q w n p a first.0 (words_lead Q w n (p + w) (a - w) first.1)
  where
    further : (Q : ℕ → ℕ → Type 0) (w n p a : ℕ) → w ≤ a → Far Q (p + w) (a - w) (n * w) → Far Q p a (suc n * w)
    further Q w n p a le h =
        let place : p + w + n * w ≡ p + suc n * w = omega arith in
        let left : a - w - n * w ≡ a - suc n * w = omega arith in
        (omega (arith, le, h.0), subst (λ (x : ℕ). Q x (a - suc n * w)) place (subst (λ (x : ℕ). Q (p + w + n * w) x) left h.1))

took_turn : (w : ℕ) (v : Val) (R S : Rooms) → took w R ≡ Some S → (p a : ℕ) → Holds R 0 p a
    → Reaches (After S (moved w) p) (one_word w v) p a
took_turn w v R S e p a h =
    let l : w ≡ length {A = ℕ} (replicate w 0) = sym (length-replicate w 0) in
    let t = took_holds w R S 0 p a e h in
    reaches_some (After S (moved w) p) (Stored (replicate w 0) 0 ∷ []) p a
    (subst (Far (After S (moved w) p) p a) l (t.0, (t.1, goes_moved w p)))

-- a row operation, by how many numbers it has
row_far : (node : Option Node) (w n : ℕ) (unit : Option ℕ) (R S : Rooms) → run_row node (Some w) unit R ≡ Some S
    → ((m : ℕ) → greatest node ≡ Some m → n ≤ m) → (x p a : ℕ) → ((u : ℕ) → unit ≡ Some u → x ≡ n * u) → Holds R x p a
    → Far (After S (closed (moved w)) p) p a (n * w)
row_far node w n unit R S e most x p a owed h =
    words_lead (After S (closed (moved w)) p) w n p a
    (loop_leads (took w) (moved w) (one_word w) (λ v. Unit {0}) (λ v good Y Z made q b g. took_turn w v Y Z made q b g)
    (closed (moved w) (reached R)) true (greatest node) unit R S e
    (λ q t go g. goes_round (moved w) (reached R) q t go g)
    (λ plain v. quiet_word w v) (voids n) (each_void n)
    (λ m is. subst (λ (k : ℕ). k ≤ m) (sym (count_voids n)) (most m is)) x p a
    (λ u is. owed u is ∙ ap (λ (k : ℕ). k * u) (sym (count_voids n)))
    (begins (moved w) (reached R) p (within_there (R (p % 8)) x a h)) h
    (words w n) (over_voids w n))
  where
    quiet_word : (w : ℕ) (v : Val) → IsQuiet (one_word w v)
    quiet_word w v ss e = subst AreQuiet (some_same (Stored (replicate w 0) 0 ∷ []) ss e) tt

-- ---- the row operations

-- what is known of a row at a path
module _ (N : List Node) (node : Option Node) (unit : Option ℕ) (q : List ℕ) (v : Val) (x p a : ℕ)
    (typed : (y : Val) → at q v ≡ Some y → IsOfNode N node y)
    (owed : (u n : ℕ) → unit ≡ Some u → on_some (at q v) length_in ≡ Some n → x ≡ n * u) where
  -- steps of a row, each of which is one of so many octets
  of_row : (w : ℕ) (R S : Rooms) (g : Kind × List ℤ → Steps) → run_row node (Some w) unit R ≡ Some S → Holds R x p a
      → ((y : Val) (r : Kind × List ℤ) → IsOfNode N node y → row_in y ≡ Some r
      → Far (After S (closed (moved w)) p) p a (length r.1 * w) → Reaches (After S (closed (moved w)) p) (g r) p a)
      → Reaches (After S (closed (moved w)) p) (on_some (on_some (at q v) row_in) g) p a
  of_row w R S g e h made =
      reaches_on_some (After S (closed (moved w)) p) (on_some (at q v) row_in) g p a (λ r is.
      let y = opened (at q v) row_in r is in
      let n : length_in y.0 ≡ Some (length r.1) = length_row y.0 r y.2 in
      made y.0 r (typed y.0 y.1) y.2
      (row_far node w (length r.1) unit R S e (λ m most. few N node y.0 (length r.1) m (typed y.0 y.1) n most) x p a
      (λ u is'. owed u (length r.1) is' (ap (λ (o : Option Val). on_some o length_in) y.1 ∙ n)) h))

  -- the octets of a row as one block, whatever their order
  pub block_leads : (f : Kind → List ℤ → List ℕ) → ((k : Kind) (ns : List ℤ) → length (f k ns) ≡ length ns * width k)
      → (k : Option Kind) (R S : Rooms) → row_kind node ≡ k → run_row node (option_map width k) unit R ≡ Some S → Holds R x p a
      → Reaches (After S (closed (moved (width_of k))) p) (on_some (on_some (at q v) row_in) (λ r. Some (Copied (f r.0 r.1) ∷ []))) p a
  block_leads f long None R S is e h = absurd cc
  block_leads f long (Some k) R S is e h =
      let Q = After S (closed (moved (width k))) p in
      of_row (width k) R S (λ r. Some (Copied (f r.0 r.1) ∷ [])) e h (λ y r t there far.
      reaches_some Q (Copied (f r.0 r.1) ∷ []) p a
      (subst (Far Q p a) (sym (long r.0 r.1 ∙ ap (λ (j : Kind). length r.1 * width j) (kind_known N node y r k t there is))) far))

  pub wide_leads : (o : Order) (k : Option Kind) (R S : Rooms) → run_row node (option_map (λ j. 4) k) unit R ≡ Some S
      → Holds R x p a → Reaches (After S (closed (moved 4)) p) (wide_steps q o v) p a
  wide_leads o None R S e h = absurd cc
  wide_leads o (Some k) R S e h =
      of_row 4 R S (λ r. on_some (wide o r.1) (λ os. Some (Widened os (length r.1) ∷ []))) e h (λ y r t there far.
      reaches_on_some (After S (closed (moved 4)) p) (wide o r.1) (λ os. Some (Widened os (length r.1) ∷ [])) p a (λ os made.
      reaches_some (After S (closed (moved 4)) p) (Widened os (length r.1) ∷ []) p a
      (subst (Far (After S (closed (moved 4)) p) p a) (sym (wide_long o r.1 os made)) far)))
