-- A row operation appends what a loop over its numbers appends, by induction on the numbers.
use Rattle.std.proofs.Common.{◌≡◌, ℕ, zero, suc, ◌-◌, ℤ, List, [], ◌∷◌, ◌++◌, length, map, reverse, Option, None, Some, IsTrue, refl, sym, ap, subst, ◌∙◌, append_assoc, append-nil}
use Rattle.std.specs.List.{list_all}
use Rattle.mint.specs.declared.kind.Kind.{Kind}
use Rattle.mint.specs.declared.node.Node.{Node}
use Rattle.mint.specs.Kinds.{in_range, width}
use Rattle.mint.specs.Row.{octets_of, image_of}
use Rattle.mint.specs.Types.{IsTable}
use Rattle.mint.specs.Values.{Val, num as num_val, row, vals_of, row_in}
use Rattle.wire_def.specs.declared.head.Head.{Head}
use Rattle.wire_def.specs.declared.head.Order.{Order}
use Rattle.wire_def.specs.declared.head.Order.TheVariants.{Big, Little}
use Rattle.cast_stub.specs.Parts.{on_some, elements_in}
use Rattle.cast_stub.specs.Puts.{word}
use Rattle.cast_stub.specs.Steps.{Steps, swapped, wide}
use Rattle.cast_stub.specs.Meaning.{wrote}
use Rattle.stub_flat.specs.Items.{num, done, octets, ordered}
use Rattle.stub_flat.specs.Places.{Spot, node_of, row_kind}
use Rattle.stub_flat.specs.Residues.{Residues, moved}
use Rattle.stub_flat.proofs.Chunks.{told_number}
use Rattle.stub_flat.proofs.Ends.{Ends, fitting, fit_map, At, Goes, goes_one, goes_eq, then_goes}
use Rattle.stub_flat.proofs.Octets.{spelled, lack, word_spelled, spelled_long}
use Rattle.stub_flat.proofs.PartsTyped.{IsPart, IsRow, node_typed, row_part}
use Rattle.stub_flat.proofs.Sets.{Within, at_within, at_moved}
use Rattle.stub_flat.proofs.Told.{Answers, over_all, told}
use Rattle.cast_stub.proofs.RowWords.{word_little, word_big}
use Rattle.cast_stub.proofs.Widths.{Wide}
use Rattle.cast_stub.proofs.Filled.{some_of}
use Rattle.std.proofs.lemmas.Bool.{and_parts}

-- ---- numbers one by one

-- octets, and after them each number in so many, if it fits
abbrev pub words_over : ℕ → Order → List ℤ → List ℕ → Ends
words_over w o [] x = Some x
words_over w o (n ∷ ns) x = on_some (on_some (word w o n) (λ a. Some (x ++ a))) (words_over w o ns)

pub image_words : (k : Kind) (ns : List ℤ) → IsTrue (list_all (in_range k) ns) → (x : List ℕ)
    → Some (x ++ image_of k ns) ≡ words_over (width k) Little ns x
image_words k [] h x = ap (λ (l : List ℕ). Some l) (append-nil x)
image_words k (n ∷ ns) h x =
    let b = and_parts (in_range k n) (list_all (in_range k) ns) h in
    ap (λ (l : List ℕ). Some l) (sym (append_assoc x (octets_of k n) (image_of k ns)))
    ∙ image_words k ns b.1 (x ++ octets_of k n)
    ∙ sym (ap (λ (y : Ends). on_some (on_some y (λ a. Some (x ++ a))) (words_over (width k) Little ns)) (word_little k n b.0))

pub swapped_words : (k : Kind) (ns : List ℤ) → IsTrue (list_all (in_range k) ns) → (x : List ℕ)
    → Some (x ++ swapped k ns) ≡ words_over (width k) Big ns x
swapped_words k [] h x = ap (λ (l : List ℕ). Some l) (append-nil x)
swapped_words k (n ∷ ns) h x =
    let b = and_parts (in_range k n) (list_all (in_range k) ns) h in
    ap (λ (l : List ℕ). Some l) (sym (append_assoc x (reverse (octets_of k n)) (swapped k ns)))
    ∙ swapped_words k ns b.1 (x ++ reverse (octets_of k n))
    ∙ sym (ap (λ (y : Ends). on_some (on_some y (λ a. Some (x ++ a))) (words_over (width k) Big ns)) (word_big k n b.0))

further : (x a : List ℕ) (z : Ends)
    → on_some (on_some z (λ b. Some (a ++ b))) (λ os. Some (x ++ os)) ≡ on_some z (λ os. Some ((x ++ a) ++ os))
further x a None = refl
further x a (Some b) = ap (λ (l : List ℕ). Some l) (sym (append_assoc x a b))

pub wide_words : (o : Order) (ns : List ℤ) (x : List ℕ) → on_some (wide o ns) (λ os. Some (x ++ os)) ≡ words_over 4 o ns x
wide_words o [] x = ap (λ (l : List ℕ). Some l) (append-nil x)
wide_words o (n ∷ ns) x = by (word 4 o n) (λ a. wide_words o ns (x ++ a)) where
  by : (y : Ends) → ((a : List ℕ) → on_some (wide o ns) (λ os. Some ((x ++ a) ++ os)) ≡ words_over 4 o ns (x ++ a))
      → on_some (on_some y (λ a. on_some (wide o ns) (λ b. Some (a ++ b)))) (λ os. Some (x ++ os))
      ≡ on_some (on_some y (λ a. Some (x ++ a))) (words_over 4 o ns)
  by None more = refl
  by (Some a) more = further x a (wide o ns) ∙ more a

-- ---- a loop over the numbers

fitting_long : (n w : ℕ) (vs a : List ℕ) → length vs ≡ w → fitting n vs ≡ Some a → length a ≡ w
fitting_long zero w vs a long e = let same : vs ≡ a = cc in sym (ap length same) ∙ long
fitting_long (suc n) w vs a long e = absurd cc

word_long : (w : ℕ) → Wide w → (o : Order) (z : ℤ) (a : List ℕ) → word w o z ≡ Some a → length a ≡ w
word_long w is o z a e =
    fitting_long (lack w (Some z)) w (spelled (Some z) w o) a (spelled_long w is (Some z) o) (sym (word_spelled w is (Some z) o) ∙ e)

module _ (d : Answers) (h : Head) (w : ℕ) (is : Wide w) (o : Order) (C : Residues) (within : Within (moved w C) C) where
  -- what the body appends for a value
  abbrev body : Val → List ℕ → Ends
  body = told d h (octets (ordered (num []) w o) done)

  word_told : (z : ℤ) (x : List ℕ) → on_some (word w o z) (λ a. Some (x ++ a)) ≡ body (num_val z) x
  word_told z x =
      let vs = spelled (Some z) w o in
      ap (λ (y : Ends). on_some y (λ a. Some (x ++ a))) (word_spelled w is (Some z) o)
      ∙ fit_map (lack w (Some z)) vs (x ++ vs) (λ a. Some (x ++ a)) refl
      ∙ sym (told_number h (num_val z) d (num []) w is o x)

  turn_goes : (z : ℤ) (x : List ℕ) → At C x → Goes (on_some (word w o z) (λ a. Some (x ++ a))) (body (num_val z) x) C
  turn_goes z x at = record {
    same = word_told z x;
    ends = λ y e.
        let a = some_of (word w o z) (λ (l : List ℕ). Some (x ++ l)) y e in
        let same : x ++ a.0 ≡ y = cc in
        subst (λ (l : List ℕ). At C l) same
        (at_within (moved w C) C within (x ++ a.0) (at_moved w C x a.0 (word_long w is o z a.0 a.1.0) at));
  }

  words_goes : (ns : List ℤ) (x : List ℕ) → At C x → Goes (words_over w o ns x) (over_all body (vals_of (map num_val ns)) x) C
  words_goes [] x at = goes_one C x at
  words_goes (n ∷ ns) x at =
      then_goes (on_some (word w o n) (λ a. Some (x ++ a))) (body (num_val n) x) C C (words_over w o ns)
      (over_all body (vals_of (map num_val ns))) (turn_goes n x at) (λ y here. words_goes ns y here)

  -- a row operation, from a residue that it does not leave
  pub row_goes : (k : Kind) (g : Kind × List ℤ → Steps)
      → ((ns : List ℤ) → IsTrue (list_all (in_range k) ns) → (x : List ℕ) → on_some (g (k, ns)) (wrote 0 x) ≡ words_over w o ns x)
      → (x : List ℕ) → At C x → (a : Option Val) (u : Val) → a ≡ Some u → IsRow k u
      → Goes (on_some (on_some (on_some a row_in) g) (wrote 0 x)) (on_some (on_some a elements_in) (λ vs. over_all body vs x)) C
  row_goes k g words x at a u e r =
      let there : a ≡ Some (row k r.numbers) = e ∙ ap (λ (y : Val). Some y) r.is in
      let all = over_all body (vals_of (map num_val r.numbers)) x in
      subst (λ (y : Option Val). Goes (on_some (on_some (on_some y row_in) g) (wrote 0 x))
      (on_some (on_some y elements_in) (λ vs. over_all body vs x)) C) (sym there)
      (goes_eq (on_some (g (k, r.numbers)) (wrote 0 x)) (words_over w o r.numbers x) all all C (words r.numbers r.ranged x) refl
      (words_goes r.numbers x at))

-- a row is where its place is known
pub row_there : (N : List Node) → IsTable N → (a : Option Val) (s : Spot) (k : Kind) → IsPart N a s → row_kind (node_of N s) ≡ Some k
    → (u : Val) × ((a ≡ Some u) × IsRow k u)
row_there N table None s k t e =
    let none : row_kind (node_of N None) ≡ Some k = subst (λ (p : Spot). row_kind (node_of N p) ≡ Some k) t e in absurd cc
row_there N table (Some u) s k t e = (u, (refl, row_part N (node_of N s) k u e (node_typed N table s u t)))
