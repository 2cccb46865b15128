-- Rows that are given as a block, by induction on the row's numbers.
use Rattle.std.proofs.Common.{◌≡◌, ◌≢◌, ◌≤◌, ◌<◌, ℕ, zero, suc, ◌+◌, ◌-◌, ◌*◌, ℤ, pos, List, [], ◌∷◌, ◌++◌, length, take, drop, get_or, slice_get, reverse, Option, None, Some, option_map, refl, sym, ap, subst, ◌∙◌, arith, append_assoc, append-nil, length-append, length-drop, Bool, true, false, nat_le, if◌then◌else◌}
use Rattle.std.proofs.Math.Seq.{take-suc, drop-drop}
use Rattle.std.proofs.lemmas.List.{length-reverse, take_at, drop_at, take_all}
use Rattle.std.proofs.lemmas.Bool.{leb-true, le-leb}
use Rattle.kit_base.specs.Bytes.{written}
use Rattle.mint.specs.declared.kind.Kind.{Kind}
use Rattle.mint.specs.Kinds.{width}
use Rattle.mint.specs.Row.{octets_of, image_of}
use Rattle.mint.proofs.Images.{octets_many}
use Rattle.wire_def.specs.declared.head.Order.{Order}
use Rattle.wire_def.specs.declared.head.Order.TheVariants.{Big, Little}
use Rattle.kit_swap.specs.Swapped as kit
use Rattle.kit_swap.proofs.Swapping.{swapped-none}
use Rattle.kit_swap.proofs.Moving.{put_next}
use Rattle.raw_buf.specs.declared.tally.Tally.{Tally}
use Rattle.raw_buf.specs.Buf.{Buf, moved, stored, rowed}
use Rattle.wire_def.specs.Orders.{in_order}
use Rattle.raw_buf.proofs.Images.{image_swapped, swap_width}
use Rattle.cast_stub.specs.Parts.{on_some, IsThere}
use Rattle.cast_stub.specs.Puts.{word, half_of, wrapped}
use Rattle.cast_stub.specs.Steps.{Step, Widened, Copied, swapped, wide}
use Rattle.stub_machine.specs.Run.{State, state_of, stored_times, appended, Runs, Ends, ran}
use Rattle.stub_machine.specs.Putting.{octets_in, Writes}
use Rattle.stub_machine.proofs.Rooms.{state}
use Rattle.stub_machine.proofs.Filling.{appended_at}

-- ---- octets that are appended

room_if : (b : Bool) (n m : ℕ) (t : State) → nat_le n m ≡ b → IsThere (on_some (if b then Some t else None) (ran [])) → n ≤ m
room_if true n m t e r = leb-true n m e
room_if false n m t e r = absurd r

state_same : (d d' : List ℕ) (a a' : ℕ) (t t' u u' : Tally) → d ≡ d' → a ≡ a' → t ≡ t' → u ≡ u' → state d a t u ≡ state d' a' t' u'
state_same d d' a a' t t' u u' p q r s = rw (p, q, r, s) refl

appended_room : (o : List ℕ) (cost : Tally → Tally) (s : State) → IsThere (on_some (appended o cost s) (ran [])) → length o ≤ s.ahead
appended_room o cost s r = room_if (nat_le (length o) s.ahead) (length o) s.ahead _ refl r

appended_ends : (o : List ℕ) (cost : Tally → Tally) (b c : Buf) → length o ≤ length b.front → c.done ≡ b.done ++ o
    → c.front ≡ drop (length o) b.front → c.tally ≡ cost b.tally → c.spent ≡ cost b.spent
    → on_some (appended o cost (state_of b)) (ran []) ≡ Some (state_of c)
appended_ends o cost b c fits d f t u =
    let left : length c.front ≡ length b.front - length o = ap length f ∙ length-drop (length o) b.front in
    appended_at (nat_le (length o) (length b.front)) (state (b.done ++ o) (length b.front - length o) (cost b.tally) (cost b.spent))
    (state_of c) (le-leb (length o) (length b.front) fits) (state_same _ _ _ _ _ _ _ _ (sym d) (sym left) (sym t) (sym u))

-- ---- a row as it is, or with each number's octets reversed

module _ (f : Kind × List ℤ → List ℕ) (z : Option (Kind × List ℤ)) (k : Kind) (ns : List ℤ) (is : Some (k, ns) ≡ z) where
  pub copied_fits : (s : State) → Runs (on_some z (λ r. Some (Copied (f r) ∷ []))) s → length (f (k, ns)) ≤ s.ahead
  copied_fits s r = appended_room (f (k, ns)) rowed s
      (subst (λ (y : Option (Kind × List ℤ)). Runs (on_some y (λ r. Some (Copied (f r) ∷ []))) s) (sym is) r)

  pub copied_ends : (b c : Buf) → length (f (k, ns)) ≤ length b.front → c.done ≡ b.done ++ f (k, ns)
      → c.front ≡ drop (length (f (k, ns))) b.front → c.tally ≡ rowed b.tally → c.spent ≡ rowed b.spent
      → Ends (on_some z (λ r. Some (Copied (f r) ∷ []))) (state_of b) (state_of c)
  copied_ends b c fits d fr t u = subst
      (λ (y : Option (Kind × List ℤ)). Ends (on_some y (λ r. Some (Copied (f r) ∷ []))) (state_of b) (state_of c)) is
      (appended_ends (f (k, ns)) rowed b c fits d fr t u)

one_octet : (o : List ℕ) → length o ≡ 1 → reverse o ≡ o
one_octet [] e = absurd (omega arith)
one_octet (a ∷ []) e = refl
one_octet (a ∷ b ∷ o) e = absurd (omega arith)

-- numbers of one octet have one order
pub single_swapped : (k : Kind) (ns : List ℤ) → width k ≡ 1 → swapped k ns ≡ image_of k ns
single_swapped k [] e = refl
single_swapped k (n ∷ ns) e = rw (one_octet (octets_of k n) (octets_many k n ∙ e), single_swapped k ns e) refl

-- an image in the other order is each number in the other order
pub image_turned : (k : Kind) (ns : List ℤ) → kit.IsSwapWidth (width k) → kit.swapped (width k) (image_of k ns) ≡ swapped k ns
image_turned k [] is = swapped-none (width k) is
image_turned k (n ∷ ns) is = image_swapped k n ns is ∙ ap (λ (o : List ℕ). reverse (octets_of k n) ++ o) (image_turned k ns is)

reversed_long : (k : Kind) (ns : List ℤ) → length (swapped k ns) ≡ length (image_of k ns)
reversed_long k [] = refl
reversed_long k (n ∷ ns) =
    length-append (reverse (octets_of k n)) (swapped k ns)
    ∙ omega (arith, length-append (octets_of k n) (image_of k ns), length-reverse (octets_of k n), reversed_long k ns)

pub turned_width : (k : Kind) (w : ℕ) → w ≡ width k → w ≢ 1 → kit.IsSwapWidth (width k)
turned_width k w is other = swap_width k (λ e. other (is ∙ e))

pub length-turned : (k : Kind) (ns : List ℤ) → length (swapped k ns) ≡ length (image_of k ns)
length-turned k ns = reversed_long k ns

-- ---- a row of numbers in four octets each

-- octets, or none where they are not there
abbrev pub given : Option (List ℕ) → List ℕ
given None = []
given (Some o) = o

abbrev pub words_of : Order → List ℤ → List ℕ
words_of o [] = []
words_of o (n ∷ ns) = given (word 4 o n) ++ words_of o ns

both_there : (a b : Option (List ℕ)) → IsThere (on_some a (λ x. on_some b (λ y. Some (x ++ y)))) → IsThere a × IsThere b
both_there None b h = absurd h
both_there (Some x) None h = absurd h
both_there (Some x) (Some y) h = (tt, tt)

both_given : (a b : Option (List ℕ)) → IsThere (on_some a (λ x. on_some b (λ y. Some (x ++ y))))
    → on_some a (λ x. on_some b (λ y. Some (x ++ y))) ≡ Some (given a ++ given b)
both_given None b h = absurd h
both_given (Some x) None h = absurd h
both_given (Some x) (Some y) h = refl

given_some : (z : Option (List ℕ)) (o : List ℕ) → z ≡ Some o → given z ≡ o
given_some z o e = ap given e

pub wide_is : (o : Order) (ns : List ℤ) → IsThere (wide o ns) → wide o ns ≡ Some (words_of o ns)
wide_is o [] h = refl
wide_is o (n ∷ ns) h =
    let two = both_there (word 4 o n) (wide o ns) h in
    both_given (word 4 o n) (wide o ns) h
    ∙ ap (λ (l : List ℕ). Some (given (word 4 o n) ++ l)) (given_some (wide o ns) (words_of o ns) (wide_is o ns two.1))

pub word_there : (o : Order) (ns : List ℤ) (i : ℕ) → IsThere (wide o ns) → i < length ns → IsThere (word 4 o (get_or ns i (pos 0)))
word_there o [] i h lt = absurd (omega arith)
word_there o (n ∷ ns) zero h lt = (both_there (word 4 o n) (wide o ns) h).0
word_there o (n ∷ ns) (suc i) h lt = word_there o ns i (both_there (word 4 o n) (wide o ns) h).1 (omega arith)

four_of : (z : Option ℕ) (o : Order) → IsThere (on_some z (λ n. Some (in_order o 4 n)))
    → octets_in (on_some z (λ n. Some (in_order o 4 n))) ≡ 4
four_of None o h = absurd h
four_of (Some n) Big h = refl
four_of (Some n) Little h = refl

pub word_four : (o : Order) (n : ℤ) → IsThere (word 4 o n) → octets_in (word 4 o n) ≡ 4
word_four o n h = four_of (on_some (half_of 4) (λ h. wrapped h n)) o h

octets_given : (z : Option (List ℕ)) → octets_in z ≡ length (given z)
octets_given None = refl
octets_given (Some o) = refl

pub words_long : (o : Order) (ns : List ℤ) → IsThere (wide o ns) → length (words_of o ns) ≡ 4 * length ns
words_long o [] h = refl
words_long o (n ∷ ns) h =
    let two = both_there (word 4 o n) (wide o ns) h in
    length-append (given (word 4 o n)) (words_of o ns)
    ∙ omega (arith, octets_given (word 4 o n), word_four o n two.0, words_long o ns two.1)

words-append : (o : Order) (ns : List ℤ) (n : ℤ) → words_of o (ns ++ n ∷ []) ≡ words_of o ns ++ given (word 4 o n)
words-append o [] n = append-nil (given (word 4 o n))
words-append o (m ∷ ns) n = ap (λ (l : List ℕ). given (word 4 o m) ++ l) (words-append o ns n)
    ∙ sym (append_assoc (given (word 4 o m)) (words_of o ns) (given (word 4 o n)))

taken_long : (o : Order) (ns : List ℤ) (i : ℕ) → IsThere (wide o ns) → i ≤ length ns → length (words_of o (take i ns)) ≡ 4 * i
taken_long o ns zero h le = refl
taken_long o [] (suc i) h le = absurd (omega arith)
taken_long o (n ∷ ns) (suc i) h le =
    let two = both_there (word 4 o n) (wide o ns) h in
    length-append (given (word 4 o n)) (words_of o (take i ns))
    ∙ omega (arith, octets_given (word 4 o n), word_four o n two.0, taken_long o ns i two.1 (omega arith))

times_more : (k : ℕ) (t : Tally) → stored (stored_times k t) ≡ stored_times (suc k) t
times_more zero t = refl
times_more (suc k) t = times_more k (stored t)

pub got_number : (ns : List ℤ) (i : ℕ) (n : ℤ) → slice_get ns i ≡ Some n → n ≡ get_or ns i (pos 0)
got_number [] i n e = absurd cc
got_number (m ∷ ns) zero n e = let same : m ≡ n = cc in sym same
got_number (m ∷ ns) (suc i) n e = got_number ns i n e

-- what a loop over the numbers keeps
pub record WideLeft (o : Order) (ns : List ℤ) (old new : Buf) (i : ℕ) : Type 0 where
  pub done : new.done ≡ old.done
  pub front : new.front ≡ words_of o (take i ns) ++ drop (4 * i) old.front
  pub tally : new.tally ≡ stored_times i old.tally
  pub spent : new.spent ≡ stored_times i old.spent

pub wide_start : (o : Order) (ns : List ℤ) (b : Buf) → WideLeft o ns b b 0
wide_start o ns b = record { done = refl; front = refl; tally = refl; spent = refl }

pub wide_fits : (o : Order) (ns : List ℤ) (old b : Buf) (i : ℕ) (n : ℤ) → WideLeft o ns old b i → IsThere (wide o ns)
    → 4 * length ns ≤ length old.front → i < length ns → n ≡ get_or ns i (pos 0)
    → IsThere (word 4 o n) × (4 * i + octets_in (word 4 o n) ≤ length b.front)
wide_fits o ns old b i n l there fits lt same =
    let at : IsThere (word 4 o n) = subst (λ (m : ℤ). IsThere (word 4 o m)) (sym same) (word_there o ns i there lt) in (
      at,
      omega (
        arith,
        ap length l.front,
        length-append (words_of o (take i ns)) (drop (4 * i) old.front),
        taken_long o ns i there (omega arith),
        length-drop (4 * i) old.front,
        word_four o n at,
        fits,
      ),
    )

writes_given : (x : Option (List ℕ)) (off : ℕ) (b c : Buf) → Writes b c off x
    → (c.done ≡ b.done) × (c.front ≡ written b.front off (given x)) × (c.tally ≡ stored b.tally) × (c.spent ≡ stored b.spent)
writes_given None off b c w = absurd w
writes_given (Some o) off b c w = w

pub wide_step : (o : Order) (ns : List ℤ) (old b c : Buf) (i : ℕ) (n : ℤ) → WideLeft o ns old b i → IsThere (wide o ns)
    → 4 * length ns ≤ length old.front → i < length ns → n ≡ get_or ns i (pos 0) → Writes b c (4 * i) (word 4 o n)
    → WideLeft o ns old c (i + 1)
wide_step o ns old b c i n l there fits lt same w =
    let r = writes_given (word 4 o n) (4 * i) b c w in
    let at : IsThere (word 4 o n) = subst (λ (m : ℤ). IsThere (word 4 o m)) (sym same) (word_there o ns i there lt) in
    let a = words_of o (take i ns) in
    let x = given (word 4 o n) in
    let rest = drop (4 * i) old.front in
    let four : length x ≡ 4 = sym (octets_given (word 4 o n)) ∙ word_four o n at in
    let long : length a ≡ 4 * i = taken_long o ns i there (omega arith) in
    let next : i + 1 ≡ suc i = omega arith in
    let one : take (i + 1) ns ≡ take i ns ++ n ∷ [] =
    ap (λ (k : ℕ). take k ns) next ∙ take-suc ns i (pos 0) lt ∙ ap (λ (m : ℤ). take i ns ++ m ∷ []) (sym same) in
    let far : 4 * i + 4 ≡ 4 * (i + 1) = omega arith in
    let front : written (a ++ rest) (4 * i) x ≡ words_of o (take (i + 1) ns) ++ drop (4 * (i + 1)) old.front =
    append_assoc (take (4 * i) (a ++ rest)) x (drop (4 * i + length x) (a ++ rest))
    ∙ ap (λ (k : ℕ). take (4 * i) (a ++ rest) ++ (x ++ drop (4 * i + k) (a ++ rest))) four
    ∙ put_next a x rest (4 * i) 4 long four
    ∙ ap (λ (l : List ℕ). l ++ drop 4 rest) (sym (ap (words_of o) one ∙ words-append o (take i ns) n))
    ∙ ap (λ (l : List ℕ). words_of o (take (i + 1) ns) ++ l) (drop-drop 4 (4 * i) old.front ∙ ap (λ (k : ℕ). drop k old.front) far) in
    record {
      done = r.0 ∙ l.done;
      front = r.1 ∙ ap (λ (f : List ℕ). written f (4 * i) x) l.front ∙ front;
      tally = r.2 ∙ ap stored l.tally ∙ times_more i old.tally ∙ ap (λ (k : ℕ). stored_times k old.tally) (sym next);
      spent = r.3 ∙ ap stored l.spent ∙ times_more i old.spent ∙ ap (λ (k : ℕ). stored_times k old.spent) (sym next);
    }

pub wide_end : (o : Order) (ns : List ℤ) (old new : Buf) (i : ℕ) → WideLeft o ns old new i → IsThere (wide o ns) → i ≡ length ns
    → option_map (λ os. os ++ drop (4 * length ns) old.front) (wide o ns) ≡ Some new.front
wide_end o ns old new i l there end =
    ap (option_map (λ (os : List ℕ). os ++ drop (4 * length ns) old.front)) (wide_is o ns there)
    ∙ ap Some (sym (l.front ∙ ap (λ (k : ℕ). words_of o (take k ns) ++ drop (4 * k) old.front) end
    ∙ ap (λ (xs : List ℤ). words_of o xs ++ drop (4 * length ns) old.front) (take_all (length ns) ns (omega arith))))

given_put : (x : Option (List ℕ)) (rest f : List ℕ) → option_map (λ os. os ++ rest) x ≡ Some f → f ≡ given x ++ rest
given_put None rest f e = absurd cc
given_put (Some os) rest f e = let same : os ++ rest ≡ f = cc in sym same

pub wide_put : (o : Order) (ns : List ℤ) (f g : List ℕ) → IsThere (wide o ns)
    → option_map (λ os. os ++ drop (4 * length ns) f) (wide o ns) ≡ Some g
    → g ≡ words_of o ns ++ drop (4 * length ns) f
wide_put o ns f g there e = given_put (wide o ns) (drop (4 * length ns) f) g e
    ∙ ap (λ (x : Option (List ℕ)). given x ++ drop (4 * length ns) f) (wide_is o ns there)

pub wide_kept : (o : Order) (ns : List ℤ) (f g : List ℕ) → IsThere (wide o ns) → 4 * length ns ≤ length f
    → option_map (λ os. os ++ drop (4 * length ns) f) (wide o ns) ≡ Some g
    → 4 * length ns ≤ length g
wide_kept o ns f g there fits e =
    omega (arith, ap length (wide_put o ns f g there e), length-append (words_of o ns) (drop (4 * length ns) f), words_long o ns there)

-- ---- the whole of a wide row

module _ (o : Order) (z : Option (Kind × List ℤ)) (k : Kind) (ns : List ℤ) (is : Some (k, ns) ≡ z) where
  abbrev widened : Option (Kind × List ℤ) → Option (List Step)
  widened y = on_some y (λ r. on_some (wide o r.1) (λ os. Some (Widened os (length r.1) ∷ [])))

  wide_runs : (x : Option (List ℕ)) (s : State) → Runs (on_some x (λ os. Some (Widened os (length ns) ∷ []))) s
      → IsThere x × (length (given x) ≤ s.ahead)
  wide_runs None s r = absurd r
  wide_runs (Some os) s r = (tt, appended_room os (λ t. moved (stored_times (length ns) t)) s r)

  pub widened_fits : (s : State) → Runs (widened z) s → IsThere (wide o ns) × (4 * length ns ≤ s.ahead)
  widened_fits s r =
      let k = wide_runs (wide o ns) s (subst (λ (y : Option (Kind × List ℤ)). Runs (widened y) s) (sym is) r) in
      (k.0, omega (arith, k.1, ap (λ (x : Option (List ℕ)). length (given x)) (wide_is o ns k.0), words_long o ns k.0))

  pub widened_ends : (b c d : Buf) → IsThere (wide o ns) → 4 * length ns ≤ length b.front → c.done ≡ b.done
      → option_map (λ os. os ++ drop (4 * length ns) b.front) (wide o ns) ≡ Some c.front → c.tally ≡ stored_times (length ns) b.tally
      → c.spent ≡ stored_times (length ns) b.spent → d.done ≡ c.done ++ take (4 * length ns) c.front
      → d.front ≡ drop (4 * length ns) c.front → d.tally ≡ moved c.tally → d.spent ≡ moved c.spent
      → Ends (widened z) (state_of b) (state_of d)
  widened_ends b c d there fits done front tally spent done' front' tally' spent' =
      let os = words_of o ns in
      let m : ℕ = 4 * length ns in
      let long : length os ≡ m = words_long o ns there in
      let cost : Tally → Tally = λ t. moved (stored_times (length ns) t) in
      let w : wide o ns ≡ Some os = wide_is o ns there in
      let so : c.front ≡ os ++ drop m b.front = wide_put o ns b.front c.front there front in
      let all : d.done ≡ b.done ++ os =
      done' ∙ (λ i. done i ++ take m (so i)) ∙ ap (λ (l : List ℕ). b.done ++ l) (take_at os (drop m b.front) m long) in
      let left : d.front ≡ drop (length os) b.front =
      front' ∙ ap (drop m) so ∙ drop_at os (drop m b.front) m long ∙ ap (λ (n : ℕ). drop n b.front) (sym long) in
      subst (λ (y : Option (Kind × List ℤ)). Ends (widened y) (state_of b) (state_of d)) is
      (subst (λ (x : Option (List ℕ)). Ends (on_some x (λ l. Some (Widened l (length ns) ∷ []))) (state_of b) (state_of d)) (sym w)
      (appended_ends os cost b d (omega (arith, long, fits)) all left (tally' ∙ ap moved tally) (spent' ∙ ap moved spent)))
