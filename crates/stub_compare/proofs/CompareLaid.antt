-- The octets of a chunk, laid one after the other, by induction on the places.
use Rattle.std.proofs.Common.{◌≡◌, ℕ, zero, suc, ◌+◌, ◌<◌, ◌≤◌, Bool, true, false, ◌||◌, inl, inr, refl, sym, ap, ◌∙◌, arith, List, [], ◌∷◌, length, map, drop, get_or, set, slice_get, Option, Some, None, option_map, eqb, add-one, subst, if◌then◌else◌}
use Rattle.std.specs.List.{range_with_len}
use Rattle.std.proofs.lemmas.Bool.{eqb-true, or_cases}
use Rattle.wire_def.specs.declared.head.Order.{Order}
use Rattle.wire_def.specs.declared.head.Order.TheVariants.{Big, Little}
use Rattle.cast_stub.specs.declared.put.Put.{Put}
use Rattle.cast_stub.specs.declared.put.Put.TheVariants as put
use Rattle.cast_stub.specs.Parts.{on_some}
use Rattle.cast_stub.specs.Steps.{is_width}
use Rattle.stub_flat.specs.Items.{Source, num, tag, flag, count, short, head, Cell, fixed, part, ordered, piece, put_on}
use Rattle.stub_compare.specs.CompareCells.{Owner, cell_in, cell_of, is_big, is_turned, laid, laid_one, owned, owners, put_length, seen, turned_at}

-- ---- one octet more

-- more behind something that is there
mapped_then : {A : Type 0} (c : Option A) (o : Option (List (Option A))) (f g : List (Option A) → Option (List (Option A)))
    → ((ds : List (Option A)) → g (c ∷ ds) ≡ option_map (λ es. c ∷ es) (f ds))
    → option_map (λ ds. c ∷ ds) (on_some o f) ≡ on_some (option_map (λ ds. c ∷ ds) o) g
mapped_then c None f g h = refl
mapped_then c (Some ds) f g h = sym (h ds)

pub laid_more : {A : Type 0} (n : ℕ) (o : A) (os : List A) (cs : List (Option A))
    → laid n (o ∷ os) cs ≡ on_some (laid_one n o cs) (laid (suc n) os)
laid_more zero o os [] = refl
laid_more zero o os (None ∷ cs) = refl
laid_more zero o os (Some c ∷ cs) = refl
laid_more (suc n) o os [] = refl
laid_more (suc n) o os (c ∷ cs) =
    ap (λ x. option_map (λ ds. c ∷ ds) x) (laid_more n o os cs)
    ∙ mapped_then c (laid_one n o cs) (laid (suc n) os) (laid (suc (suc n)) os) (λ ds. refl)

pub one_free : {A : Type 0} (n : ℕ) (o : A) (cs : List (Option A)) → n < length cs → get_or cs n None ≡ None
    → laid_one n o cs ≡ Some (set cs n (Some o))
one_free n o [] lt e = absurd (omega arith)
one_free zero o (None ∷ cs) lt e = refl
one_free zero o (Some c ∷ cs) lt e = absurd (cc)
one_free (suc n) o (c ∷ cs) lt e = ap (λ x. option_map (λ ds. c ∷ ds) x) (one_free n o cs (omega (arith, lt)) e)

pub one_taken : {A : Type 0} (n : ℕ) (o c : A) (cs : List (Option A)) → get_or cs n None ≡ Some c → laid_one n o cs ≡ None
one_taken n o c [] e = absurd (cc)
one_taken zero o c (None ∷ cs) e = absurd (cc)
one_taken zero o c (Some d ∷ cs) e = refl
one_taken (suc n) o c (d ∷ cs) e = ap (λ x. option_map (λ ds. d ∷ ds) x) (one_taken n o c cs e)

pub laid_all : {A : Type 0} (n : ℕ) (cs : List (Option A)) → n ≤ length cs → laid n [] cs ≡ Some cs
laid_all zero cs le = refl
laid_all (suc n) [] le = absurd (omega arith)
laid_all (suc n) (c ∷ cs) le = ap (λ x. option_map (λ ds. c ∷ ds) x) (laid_all n cs (omega (arith, le)))

pub laid_outside : {A : Type 0} (n : ℕ) (os : List A) (cs : List (Option A)) → length cs < n + length os → laid n os cs ≡ None
laid_outside zero [] cs lt = absurd (omega (arith, lt))
laid_outside zero (o ∷ os) [] lt = refl
laid_outside zero (o ∷ os) (None ∷ cs) lt = ap (λ x. option_map (λ ds. Some o ∷ ds) x) (laid_outside zero os cs (omega (arith, lt)))
laid_outside zero (o ∷ os) (Some c ∷ cs) lt = refl
laid_outside (suc n) os [] lt = refl
laid_outside (suc n) os (c ∷ cs) lt = ap (λ x. option_map (λ ds. c ∷ ds) x) (laid_outside n os cs (omega (arith, lt)))

-- ---- octets of puts

pub map_pair : {A B C : Type 0} (f : B → C) (g : A → B) (xs : List A) → map f (map g xs) ≡ map (λ x. f (g x)) xs
map_pair f g [] = refl
map_pair f g (x ∷ xs) = ap (λ ys. f (g x) ∷ ys) (map_pair f g xs)

map_seen : (ps : List Put) (c : Option Owner) (o : Option (List (Option Owner)))
    → option_map (λ ds. option_map (owned ps) c ∷ ds) (option_map (seen ps) o) ≡ option_map (seen ps) (option_map (λ ds. c ∷ ds) o)
map_seen ps c None = refl
map_seen ps c (Some ds) = refl

pub put_seen : (ps : List Put) (n : ℕ) (os : List Owner) (cs : List (Option Owner))
    → put_on n (map (owned ps) os) (seen ps cs) ≡ option_map (seen ps) (laid n os cs)
put_seen ps zero [] cs = refl
put_seen ps zero (o ∷ os) [] = refl
put_seen ps zero (o ∷ os) (None ∷ cs) =
    ap (λ x. option_map (λ ds. Some (owned ps o) ∷ ds) x) (put_seen ps zero os cs) ∙ map_seen ps (Some o) (laid zero os cs)
put_seen ps zero (o ∷ os) (Some c ∷ cs) = refl
put_seen ps (suc n) os [] = refl
put_seen ps (suc n) os (c ∷ cs) =
    ap (λ x. option_map (λ ds. option_map (owned ps) c ∷ ds) x) (put_seen ps n os cs) ∙ map_seen ps c (laid n os cs)

-- a fact of each width
pub at_width : (P : ℕ → Type 0) → P 1 → P 2 → P 4 → P 8 → (w : ℕ) → is_width w ≡ true → P w
at_width P a b c d w e =
    let at = λ (n : ℕ) (h : eqb w n ≡ true) (p : P n). subst P (sym (eqb-true w n h)) p in
    elim (or_cases (eqb w 1 || eqb w 2 || eqb w 4) (eqb w 8) e) [
      | inl x ↦ elim (or_cases (eqb w 1 || eqb w 2) (eqb w 4) x) [
        | inl y ↦ elim (or_cases (eqb w 1) (eqb w 2) y) [ inl z ↦ at 1 z a | inr z ↦ at 2 z b ]
        | inr z ↦ at 4 z c
      ]
      | inr z ↦ at 8 z d
    ]

-- the octets of a number of a width, by which one stands where
pub word_cells : (s : Source) (o : Order) (w : ℕ) → is_width w ≡ true
    → ordered s w o ≡ map (part s) (map (turned_at (is_big o) w) (range_with_len 0 w))
word_cells s Big w e =
    at_width (λ n. ordered s n Big ≡ map (part s) (map (turned_at true n) (range_with_len 0 n))) refl refl refl refl w e
word_cells s Little w e =
    at_width (λ n. ordered s n Little ≡ map (part s) (map (turned_at false n) (range_with_len 0 n))) refl refl refl refl w e

wide_cells : (s : Source) (o : Order) (w n : ℕ) (b : Bool) → is_width w ≡ b → (if b then Some w else None) ≡ Some n
    → (if b then Some (ordered s w o) else None) ≡ Some (map (part s) (map (turned_at (is_big o) n) (range_with_len 0 n)))
wide_cells s o w n true is e =
    let same : w ≡ n = cc in
    ap (λ z. Some z) (word_cells s o w is) ∙ ap (λ z. Some (map (part s) (map (turned_at (is_big o) z) (range_with_len 0 z)))) same
wide_cells s o w n false is e = absurd (cc)

narrow_word : (s : Source) (o : Order) (w : ℕ) (b : Bool) → is_width w ≡ b → (if b then Some w else None) ≡ None
    → (if b then Some (ordered s w o) else None) ≡ None
narrow_word s o w true is e = absurd (cc)
narrow_word s o w false is e = refl

get_or_drop : (all : List ℕ) (a x : ℕ) (xs : List ℕ) → drop a all ≡ x ∷ xs → get_or all a 0 ≡ x
get_or_drop [] zero x xs e = absurd (cc)
get_or_drop [] (suc a) x xs e = absurd (cc)
get_or_drop (y ∷ all) zero x xs e = cc
get_or_drop (y ∷ all) (suc a) x xs e = get_or_drop all a x xs e

drop_next : (all : List ℕ) (a x : ℕ) (xs : List ℕ) → drop a all ≡ x ∷ xs → drop (suc a) all ≡ xs
drop_next [] zero x xs e = absurd (cc)
drop_next [] (suc a) x xs e = absurd (cc)
drop_next (y ∷ all) zero x xs e = cc
drop_next (y ∷ all) (suc a) x xs e = drop_next all a x xs e

drop_more : (all : List ℕ) (a x : ℕ) (xs : List ℕ) → drop a all ≡ x ∷ xs → drop (a + 1) all ≡ xs
drop_more all a x xs e = ap (λ n. drop n all) (add-one a) ∙ drop_next all a x xs e

-- the octets of a list, read one after the other
reads : (all xs : List ℕ) (a : ℕ) → drop a all ≡ xs → map (λ j. fixed (get_or all j 0)) (range_with_len a (length xs)) ≡ map fixed xs
reads all [] a e = refl
reads all (x ∷ xs) a e =
    let here : get_or all a 0 ≡ x = get_or_drop all a x xs e in
    let more : drop (a + 1) all ≡ xs = drop_more all a x xs e in
    ap (λ c. fixed c ∷ map (λ j. fixed (get_or all j 0)) (range_with_len (a + 1) (length xs))) here
    ∙ ap (λ cs. fixed x ∷ cs) (reads all xs (a + 1) more)

-- the octets of a put that has so many, by which one stands where
pub piece_cells : (p : Put) (n : ℕ) → put_length p ≡ Some n
    → piece p ≡ Some (map (cell_of p) (map (turned_at (is_turned p) n) (range_with_len 0 n)))
piece_cells (put.Num off q w o) n e = wide_cells (num q) o w n (is_width w) refl e
piece_cells (put.Tag off q w o) n e = wide_cells (tag q) o w n (is_width w) refl e
piece_cells (put.Flag off q w o) n e = wide_cells (flag q) o w n (is_width w) refl e
piece_cells (put.Count off q m a w o) n e = wide_cells (count q m a) o w n (is_width w) refl e
piece_cells (put.Short off q name size m) n e =
    ap (λ z. Some (map (part (short q name size m)) (map (turned_at false z) (range_with_len 0 z)))) (let same : 4 ≡ n = cc in same)
piece_cells (put.Const off os) n e =
    let same : length os ≡ n = cc in
    ap (λ z. Some z) (sym (reads os os 0 refl) ∙ sym (map_pair (λ k. fixed (get_or os k 0)) (turned_at false (length os))
    (range_with_len 0 (length os))))
    ∙ ap (λ z. Some (map (cell_of (put.Const off os)) (map (turned_at false z) (range_with_len 0 z)))) same
piece_cells (put.Head off f w o) n e = wide_cells (head f) o w n (is_width w) refl e

pub no_piece : (p : Put) → put_length p ≡ None → piece p ≡ None
no_piece (put.Num off q w o) e = narrow_word (num q) o w (is_width w) refl e
no_piece (put.Tag off q w o) e = narrow_word (tag q) o w (is_width w) refl e
no_piece (put.Flag off q w o) e = narrow_word (flag q) o w (is_width w) refl e
no_piece (put.Count off q m a w o) e = narrow_word (count q m a) o w (is_width w) refl e
no_piece (put.Short off q name size m) e = absurd (cc)
no_piece (put.Const off os) e = absurd (cc)
no_piece (put.Head off f w o) e = narrow_word (head f) o w (is_width w) refl e

-- the octets of a put of a number, in their places
pub piece_owned : (ps : List Put) (i : ℕ) (p : Put) (n : ℕ) → slice_get ps i ≡ Some p → put_length p ≡ Some n
    → piece p ≡ Some (map (owned ps) (owners i (is_turned p) n))
piece_owned ps i p n there e =
    piece_cells p n e
    ∙ ap (λ z. Some z) (map_pair (cell_of p) (turned_at (is_turned p) n) (range_with_len 0 n)
    ∙ ap (λ (o : Option Put). map (λ j. cell_in o (turned_at (is_turned p) n j)) (range_with_len 0 n)) (sym there)
    ∙ sym (map_pair (owned ps) (λ j. (i, turned_at (is_turned p) n j)) (range_with_len 0 n)))

-- ---- how many octets are put

abbrev pub put_count : List (Option Cell) → ℕ
put_count [] = 0
put_count (None ∷ cs) = put_count cs
put_count (Some c ∷ cs) = suc (put_count cs)

-- places that were put on: as many as before, so many more of them put
pub record Counted (n : ℕ) (cs ds : List (Option Cell)) : Type 0 where
  pub count : put_count ds ≡ n + put_count cs
  pub size : length ds ≡ length cs
