-- Code whose runs are short moves as often as is allowed for them at most; chunked code is allowed no more, by induction on the block.
use Rattle.std.proofs.Common.{◌≡◌, ℕ, zero, suc, ◌+◌, ◌*◌, ◌≤◌, ℤ, List, [], ◌∷◌, ◌++◌, length, map, Option, Some, None, Bool, true, false, if◌then◌else◌, refl, ap, subst, arith}
use Rattle.std.specs.Ordering.{int_eq}
use Rattle.mint.specs.Values.{Val, Vals, no_more, val, absent, present, arm_in, row_in}
use Rattle.mint.specs.Row.{image_of}
use Rattle.wire_def.specs.declared.head.Order.{Order}
use Rattle.wire_def.specs.declared.head.Head.{Head}
use Rattle.wire_def.specs.Scalars.{gap}
use Rattle.cast_stub.specs.declared.put.Put.{Put}
use Rattle.cast_stub.specs.Block.{Block, stop, ensure, ensure_row, align, chunk, row_copy, row_swap, row_wide, each, switch, if_there, call, patch, Cases, no_default, default, case}
use Rattle.cast_stub.specs.Meaning.{costs}
use Rattle.cast_stub.specs.Met.{Begins, of_some, of_each, of_present, first_run, moves_after, case_moves, moves_in}
use Rattle.cast_stub.specs.Parts.{on_some, at, elements_in, length_in}
use Rattle.cast_stub.specs.Puts.{filled}
use Rattle.cast_stub.specs.Skeletons.{IsShortAfter, AreShort}
use Rattle.cast_stub.specs.Steps.{Step, Room, Pad, Stored, Widened, Copied, Patched, Steps, both, over, if_present, is_width, Calls, steps, case_steps, align_steps, chunk_steps, row_room, swapped, wide, copy_steps, swap_steps, wide_steps}
use Rattle.cast_stub.proofs.Folding.{costs-append}
use Rattle.chunker.specs.declared.phase.Phase.{Phase}
use Rattle.chunker.specs.Chunked.{moved, zeros, consts_joined, chunk_of, closed, chunked, cases_chunked}
use Rattle.chunker.specs.Left.{by_fours, looped, switched, perhaps}
use Rattle.chunker.specs.Phases.{unknown, shift, is_known, modulo}

-- ---- moves of steps

-- behind so many moves of a run: so many in all, at most
abbrev pub Few : Steps → ℕ → ℕ → Type 0
Few x k n = (ss : List Step) → x ≡ Some ss → k + (costs ss).moves ≤ n

few_is : (s : List Step) (k n : ℕ) → k + (costs s).moves ≤ n → Few (Some s) k n
few_is s k n le ss e =
    let same : s ≡ ss = cc in subst (λ (l : List Step). k + (costs l).moves ≤ n) same le

few_on_some : {X : Type 0} (o : Option X) (f : X → Steps) (k n : ℕ) → ((x : X) → Few (f x) k n) → Few (on_some o f) k n
few_on_some None f k n g ss e = absurd cc
few_on_some (Some x) f k n g ss e = g x ss e

few_of_some : {X : Type 0} (o : Option X) (f : X → Steps) (g : X → ℕ) → ((x : X) → Few (f x) 0 (g x)) → Few (on_some o f) 0 (of_some o g)
few_of_some None f g h ss e = absurd cc
few_of_some (Some x) f g h ss e = h x ss e

few_both : (x y : Steps) (k n m i : ℕ) → Few x 0 n → Few y 0 m → k + n + m ≤ i → Few (both x y) k i
few_both None y k n m i f g le ss e = absurd cc
few_both (Some a) None k n m i f g le ss e = absurd cc
few_both (Some a) (Some b) k n m i f g le ss e =
    let same : a ++ b ≡ ss = cc in
    let moves : (costs (a ++ b)).moves ≡ (costs a).moves + (costs b).moves = ap (λ c. c.moves) (costs-append a b) in
    let first = f a refl in
    let rest = g b refl in
    subst (λ (s : List Step). k + (costs s).moves ≤ i) same (omega (arith, moves, first, rest, le))

few_over : (f : Val → Steps) (g : Val → ℕ) → ((w : Val) → Few (f w) 0 (g w)) → (vs : Vals) → Few (over f vs) 0 (of_each g vs)
few_over f g h no_more = few_is [] 0 0 (omega arith)
few_over f g h (val v vs) =
    few_both (f v) (over f vs) 0 (g v) (of_each g vs) (g v + of_each g vs) (h v) (few_over f g h vs) (omega arith)

few_present : (f : Val → Steps) (g : Val → ℕ) → ((w : Val) → Few (f w) 0 (g w)) → (v : Val) → Few (if_present f v) 0 (of_present g v)
few_present f g h absent = few_is [] 0 0 (omega arith)
few_present f g h (present v) = h v
few_present f g h _ = λ ss e. absurd cc

few_if : (t : Bool) (x y : Steps) (n m : ℕ) → Few x 0 n → Few y 0 m → Few (if t then x else y) 0 (if t then n else m)
few_if true x y n m f g = f
few_if false x y n m f g = g

-- one move more of a run
few_more : (x y : Steps) (k n i : ℕ) → ((s : List Step) → x ≡ Some s → (costs s).moves ≤ 1) → Few y (suc k) n → n ≤ i → Few (both x y) k i
few_more None y k n i f g le ss e = absurd cc
few_more (Some a) None k n i f g le ss e = absurd cc
few_more (Some a) (Some b) k n i f g le ss e =
    let same : a ++ b ≡ ss = cc in
    let moves : (costs (a ++ b)).moves ≡ (costs a).moves + (costs b).moves = ap (λ c. c.moves) (costs-append a b) in
    let one = f a refl in
    let rest = g b refl in
    subst (λ (s : List Step). k + (costs s).moves ≤ i) same (omega (arith, moves, one, rest, le))

align_one : (a : ℕ) (s : List Step) → align_steps a ≡ Some s → (costs s).moves ≤ 1
align_one a s = by_test (is_width a) where
  by_test : (t : Bool) → (if t then Some (Pad a ∷ []) else None) ≡ Some s → (costs s).moves ≤ 1
  by_test true e = let same : Pad a ∷ [] ≡ s = cc in subst (λ (l : List Step). (costs l).moves ≤ 1) same (omega arith)
  by_test false e = absurd cc

chunk_one : (n : ℕ) (o : Option (List ℕ)) (s : List Step) → on_some o (λ x. Some (Stored x n ∷ [])) ≡ Some s → (costs s).moves ≤ 1
chunk_one n None s e = absurd cc
chunk_one n (Some x) s e = let same : Stored x n ∷ [] ≡ s = cc in subst (λ (l : List Step). (costs l).moves ≤ 1) same (omega arith)

few_room : (z : Option ℕ) (u x : ℕ) → Few (on_some z (λ n. Some (Room (n * u + x) ∷ []))) 0 0
few_room z u x = few_on_some z (λ n. Some (Room (n * u + x) ∷ [])) 0 0 (λ n. few_is (Room (n * u + x) ∷ []) 0 0 (omega arith))

few_wide : (q : List ℕ) (o : Order) (v : Val) → Few (wide_steps q o v) 0 1
few_wide q o v =
    few_on_some (on_some (at q v) row_in) (λ r. on_some (wide o r.1) (λ os. Some (Widened os (length r.1) ∷ []))) 0 1 (λ r.
    few_on_some (wide o r.1) (λ os. Some (Widened os (length r.1) ∷ [])) 0 1 (λ os.
    few_is (Widened os (length r.1) ∷ []) 0 1 (omega arith)))

few_copy : (q : List ℕ) (v : Val) → Few (copy_steps q v) 0 0
few_copy q v =
    few_on_some (on_some (at q v) row_in) (λ r. Some (Copied (image_of r.0 r.1) ∷ [])) 0 0 (λ r.
    few_is (Copied (image_of r.0 r.1) ∷ []) 0 0 (omega arith))

few_swap : (q : List ℕ) (v : Val) → Few (swap_steps q v) 0 0
few_swap q v =
    few_on_some (on_some (at q v) row_in) (λ r. Some (Copied (swapped r.0 r.1) ∷ [])) 0 0 (λ r.
    few_is (Copied (swapped r.0 r.1) ∷ []) 0 0 (omega arith))

-- ---- moves of code whose runs are short

-- what is allowed for the run that a block begins with, behind so many moves of it
abbrev opened : ℕ → Block → ℕ
opened zero b = first_run 7 b
opened (suc k) b = 7

within : (k : ℕ) (b : Block) → k ≤ 7 → k ≤ opened k b
within zero b le = omega arith
within (suc k) b le = le

goes_on : (k : ℕ) (b : Block) → first_run 7 b ≡ 7 → opened k b ≡ 7
goes_on zero b e = e
goes_on (suc k) b e = refl

-- an operation that ends a run, with what is allowed for it, and what follows it
few_next : (x y : Steps) (k : ℕ) (b : Block) (n m : ℕ) → k ≤ 7 → Few x 0 n → Few y 0 m → Few (both x y) k (opened k b + (n + m))
few_next x y k b n m le f g = let open_moves = within k b le in few_both x y k n m (opened k b + (n + m)) f g (omega (arith, open_moves))

-- one that allows one move by itself
few_one : (x y : Steps) (k : ℕ) (b : Block) (m : ℕ) → k ≤ 7 → Few x 0 1 → Few y 0 m → Few (both x y) k (opened k b + suc m)
few_one x y k b m le f g = let open_moves = within k b le in few_both x y k 1 m (opened k b + suc m) f g (omega (arith, open_moves))

-- one that allows nothing by itself
few_plain : (x y : Steps) (k : ℕ) (b : Block) (m : ℕ) → k ≤ 7 → Few x 0 0 → Few y 0 m → Few (both x y) k (opened k b + m)
few_plain x y k b m le f g = let open_moves = within k b le in few_both x y k 0 m (opened k b + m) f g (omega (arith, open_moves))

-- one move of a run
few_run : (x y : Steps) (k : ℕ) (b : Block) (m : ℕ) → first_run 7 b ≡ 7 → ((s : List Step) → x ≡ Some s → (costs s).moves ≤ 1)
    → Few y (suc k) (7 + m) → Few (both x y) k (opened k b + m)
few_run x y k b m e f g = let same = goes_on k b e in few_more x y k (7 + m) (opened k b + m) f g (omega (arith, same))

module _ (c : Calls) (h : Head) (e : Begins) (few : (k : ℕ) (w : Val) → Few (c k w) 0 (e k w)) where
  mutual
    pub moves_few : (b : Block) (v : Val) (k : ℕ) → IsShortAfter 7 k b → Few (steps c h b v) k (opened k b + moves_after 7 e b v)
    moves_few stop v k s = let open_moves = within k stop s in few_is [] k (opened k stop + 0) (omega (arith, open_moves))
    moves_few (ensure n r) v k s =
        few_plain (Some (Room n ∷ [])) (steps c h r v) k (ensure n r) (moves_in 7 e r v) s.0 (few_is (Room n ∷ []) 0 0 (omega arith))
        (moves_few r v 0 s.1)
    moves_few (ensure_row q u x r) v k s =
        few_plain (row_room q u x v) (steps c h r v) k (ensure_row q u x r) (moves_in 7 e r v) s.0
        (few_room (on_some (at q v) length_in) u x) (moves_few r v 0 s.1)
    moves_few (align a r) v k s =
        few_run (align_steps a) (steps c h r v) k (align a r) (moves_after 7 e r v) refl (align_one a) (moves_few r v (suc k) s)
    moves_few (chunk n ps r) v k s =
        few_run (chunk_steps n ps h v) (steps c h r v) k (chunk n ps r) (moves_after 7 e r v) refl
        (chunk_one (length ps) (filled n ps h v)) (moves_few r v (suc k) s)
    moves_few (row_copy q r) v k s =
        few_plain (copy_steps q v) (steps c h r v) k (row_copy q r) (moves_in 7 e r v) s.0 (few_copy q v) (moves_few r v 0 s.1)
    moves_few (row_swap q r) v k s =
        few_plain (swap_steps q v) (steps c h r v) k (row_swap q r) (moves_in 7 e r v) s.0 (few_swap q v) (moves_few r v 0 s.1)
    moves_few (row_wide q o r) v k s =
        few_one (wide_steps q o v) (steps c h r v) k (row_wide q o r) (moves_in 7 e r v) s.0 (few_wide q o v) (moves_few r v 0 s.1)
    moves_few (each q b r) v k s =
        few_next (on_some (on_some (at q v) elements_in) (over (steps c h b))) (steps c h r v) k (each q b r)
        (of_some (on_some (at q v) elements_in) (of_each (moves_in 7 e b))) (moves_in 7 e r v) s.0
        (few_of_some (on_some (at q v) elements_in) (over (steps c h b)) (of_each (moves_in 7 e b))
        (few_over (steps c h b) (moves_in 7 e b) (λ w. moves_few b w 0 s.1.0))) (moves_few r v 0 s.1.1)
    moves_few (switch q cs r) v k s =
        few_next (on_some (on_some (at q v) arm_in) (λ a. case_steps c h cs a.0 a.1)) (steps c h r v) k (switch q cs r)
        (of_some (on_some (at q v) arm_in) (λ a. case_moves 7 e cs a.0 a.1)) (moves_in 7 e r v) s.0
        (few_of_some (on_some (at q v) arm_in) (λ a. case_steps c h cs a.0 a.1) (λ a. case_moves 7 e cs a.0 a.1)
        (λ a. case_few cs a.0 a.1 s.1.0)) (moves_few r v 0 s.1.1)
    moves_few (if_there q b r) v k s =
        few_next (on_some (at q v) (if_present (steps c h b))) (steps c h r v) k (if_there q b r)
        (of_some (at q v) (of_present (moves_in 7 e b))) (moves_in 7 e r v) s.0
        (few_of_some (at q v) (if_present (steps c h b)) (of_present (moves_in 7 e b))
        (few_present (steps c h b) (moves_in 7 e b) (λ w. moves_few b w 0 s.1.0))) (moves_few r v 0 s.1.1)
    moves_few (call i q r) v k s =
        few_next (on_some (at q v) (c i)) (steps c h r v) k (call i q r) (of_some (at q v) (e i)) (moves_in 7 e r v) s.0
        (few_of_some (at q v) (c i) (e i) (few i)) (moves_few r v 0 s.1)
    moves_few (patch x n o r) v k s =
        few_plain (Some (Patched x n o ∷ [])) (steps c h r v) k (patch x n o r) (moves_in 7 e r v) s.0
        (few_is (Patched x n o ∷ []) 0 0 (omega arith)) (moves_few r v 0 s.1)

    case_few : (cs : Cases) (n : ℤ) (w : Val) → AreShort 7 cs → Few (case_steps c h cs n w) 0 (case_moves 7 e cs n w)
    case_few no_default n w s = λ ss f. absurd cc
    case_few (default b) n w s = moves_few b w 0 s
    case_few (case m b cs) n w s =
        few_if (int_eq n m) (steps c h b w) (case_steps c h cs n w) (moves_in 7 e b w) (case_moves 7 e cs n w) (moves_few b w 0 s.0)
        (case_few cs n w s.1)

-- ---- chunked code is allowed no more

some_less : {A : Type 0} (o : Option A) (f g : A → ℕ) → ((a : A) → f a ≤ g a) → of_some o f ≤ of_some o g
some_less None f g le = omega arith
some_less (Some a) f g le = le a

each_less : (f g : Val → ℕ) → ((w : Val) → f w ≤ g w) → (vs : Vals) → of_each f vs ≤ of_each g vs
each_less f g le no_more = omega arith
each_less f g le (val v vs) = let one = le v in let rest = each_less f g le vs in omega (arith, one, rest)

present_less : (f g : Val → ℕ) → ((w : Val) → f w ≤ g w) → (v : Val) → of_present f v ≤ of_present g v
present_less f g le (present v) = le v
present_less f g le _ = omega arith

if_less : (t : Bool) (x x' y y' : ℕ) → x ≤ x' → y ≤ y' → (if t then x else y) ≤ (if t then x' else y')
if_less true x x' y y' e f = e
if_less false x x' y y' e f = f

-- a run is allowed seven moves at most
pub at_most : (b : Block) → first_run 7 b ≤ 7
at_most (align a r) = omega arith
at_most (chunk s ps r) = omega arith
at_most _ = omega arith

-- what is allowed for the run that is open with these puts before a block
abbrev open_run : List Put → Block → ℕ
open_run [] b = first_run 7 b
open_run (p ∷ ps) b = 7

full : (ps : List Put) (b : Block) → first_run 7 b ≡ 7 → open_run ps b ≡ 7
full [] b e = e
full (p ∷ ps) b e = refl

-- a block that begins with no run, behind what is open
first_closed : (n : ℕ) (ps : List Put) (r b : Block) → first_run 7 r ≡ 0 → first_run 7 (closed n ps r) ≤ open_run ps b
first_closed n [] r b e = omega (arith, e)
first_closed n (p ∷ ps) r b e = at_most (closed n (p ∷ ps) r)

first_chunked : (b : Block) (ph : Phase) (n : ℕ) (ps : List Put) → first_run 7 (chunked ph n ps b) ≤ open_run ps b
first_chunked stop ph n ps = first_closed n ps stop stop refl
first_chunked (ensure k r) ph n ps = first_closed n ps (ensure k (chunked ph 0 [] r)) (ensure k r) refl
first_chunked (ensure_row q u x r) ph n ps = first_closed n ps (ensure_row q u x (chunked ph 0 [] r)) (ensure_row q u x r) refl
first_chunked (align a r) ph n ps =
    let most = at_most (chunked ph n ps (align a r)) in let all = full ps (align a r) refl in omega (arith, most, all)
first_chunked (chunk s qs r) ph n ps =
    let most = at_most (chunked ph n ps (chunk s qs r)) in let all = full ps (chunk s qs r) refl in omega (arith, most, all)
first_chunked (row_copy q r) ph n ps = first_closed n ps (row_copy q (chunked unknown 0 [] r)) (row_copy q r) refl
first_chunked (row_swap q r) ph n ps = first_closed n ps (row_swap q (chunked unknown 0 [] r)) (row_swap q r) refl
first_chunked (row_wide q o r) ph n ps = first_closed n ps (row_wide q o (chunked (by_fours ph) 0 [] r)) (row_wide q o r) refl
first_chunked (each q b r) ph n ps =
    first_closed n ps (each q (chunked (looped ph b) 0 [] b) (chunked (looped ph b) 0 [] r)) (each q b r) refl
first_chunked (switch q cs r) ph n ps =
    first_closed n ps (switch q (cases_chunked ph cs) (chunked (switched ph cs) 0 [] r)) (switch q cs r) refl
first_chunked (if_there q b r) ph n ps =
    first_closed n ps (if_there q (chunked ph 0 [] b) (chunked (perhaps ph b) 0 [] r)) (if_there q b r) refl
first_chunked (call k q r) ph n ps = first_closed n ps (call k q (chunked unknown 0 [] r)) (call k q r) refl
first_chunked (patch a s o r) ph n ps = first_closed n ps (patch a s o (chunked ph 0 [] r)) (patch a s o r) refl

module _ (e d : Begins) (less : (k : ℕ) (w : Val) → d k w ≤ e k w) where
  chunk_after : (n : ℕ) (qs : List Put) (r : Block) (v : Val) → moves_after 7 d (chunk_of n qs r) v ≡ moves_after 7 d r v
  chunk_after n [] r v = refl
  chunk_after n (q ∷ qs) r v = refl

  after_closed : (n : ℕ) (ps : List Put) (r : Block) (v : Val) (m : ℕ) → moves_after 7 d r v ≤ m → moves_after 7 d (closed n ps r) v ≤ m
  after_closed n ps r v m le = let same = chunk_after n (consts_joined 0 [] ps) r v in omega (arith, same, le)

  after_if : (t : Bool) (x y : Block) (v : Val) (m : ℕ) → moves_after 7 d x v ≤ m → moves_after 7 d y v ≤ m
      → moves_after 7 d (if t then x else y) v ≤ m
  after_if true x y v m f g = f
  after_if false x y v m f g = g

  both_less : (a b x y : ℕ) → a ≤ x → b ≤ y → a + b ≤ x + y
  both_less a b x y f g = omega (arith, f, g)

  -- the run that a block begins with, and what is behind it
  whole_less : (b : Block) (ph : Phase) (v : Val) → moves_after 7 d (chunked ph 0 [] b) v ≤ moves_after 7 e b v
      → moves_in 7 d (chunked ph 0 [] b) v ≤ moves_in 7 e b v
  whole_less b ph v le =
      both_less (first_run 7 (chunked ph 0 [] b)) (moves_after 7 d (chunked ph 0 [] b) v) (first_run 7 b) (moves_after 7 e b v)
      (first_chunked b ph 0 []) le

  mutual
    after_chunked : (b : Block) (ph : Phase) (n : ℕ) (ps : List Put) (v : Val)
        → moves_after 7 d (chunked ph n ps b) v ≤ moves_after 7 e b v
    after_chunked stop ph n ps v = after_closed n ps stop v 0 (omega arith)
    after_chunked (ensure k r) ph n ps v =
        after_closed n ps (ensure k (chunked ph 0 [] r)) v (moves_in 7 e r v) (whole_less r ph v (after_chunked r ph 0 [] v))
    after_chunked (ensure_row q u x r) ph n ps v =
        after_closed n ps (ensure_row q u x (chunked ph 0 [] r)) v (moves_in 7 e r v) (whole_less r ph v (after_chunked r ph 0 [] v))
    after_chunked (align a r) ph n ps v =
        after_if (is_width a) (if is_known ph a then chunked (shift ph (gap ph.r a)) (n + gap ph.r a) (ps ++ zeros n (gap ph.r a)) r
        else closed n ps (align a (chunked (modulo a 0) 0 [] r))) (chunked ph n ps r) v (moves_after 7 e r v)
        (after_if (is_known ph a) (chunked (shift ph (gap ph.r a)) (n + gap ph.r a) (ps ++ zeros n (gap ph.r a)) r)
        (closed n ps (align a (chunked (modulo a 0) 0 [] r))) v (moves_after 7 e r v)
        (after_chunked r (shift ph (gap ph.r a)) (n + gap ph.r a) (ps ++ zeros n (gap ph.r a)) v)
        (after_closed n ps (align a (chunked (modulo a 0) 0 [] r)) v (moves_after 7 e r v) (after_chunked r (modulo a 0) 0 [] v)))
        (after_chunked r ph n ps v)
    after_chunked (chunk s qs r) ph n ps v = after_chunked r (shift ph s) (n + s) (ps ++ map (moved n) qs) v
    after_chunked (row_copy q r) ph n ps v =
        after_closed n ps (row_copy q (chunked unknown 0 [] r)) v (moves_in 7 e r v)
        (whole_less r unknown v (after_chunked r unknown 0 [] v))
    after_chunked (row_swap q r) ph n ps v =
        after_closed n ps (row_swap q (chunked unknown 0 [] r)) v (moves_in 7 e r v)
        (whole_less r unknown v (after_chunked r unknown 0 [] v))
    after_chunked (row_wide q o r) ph n ps v =
        let rest = whole_less r (by_fours ph) v (after_chunked r (by_fours ph) 0 [] v) in
        after_closed n ps (row_wide q o (chunked (by_fours ph) 0 [] r)) v (suc (moves_in 7 e r v)) (omega (arith, rest))
    after_chunked (each q b r) ph n ps v =
        let s = looped ph b in
        after_closed n ps (each q (chunked s 0 [] b) (chunked s 0 [] r)) v
        (of_some (on_some (at q v) elements_in) (of_each (moves_in 7 e b)) + moves_in 7 e r v)
        (both_less (of_some (on_some (at q v) elements_in) (of_each (moves_in 7 d (chunked s 0 [] b)))) (moves_in 7 d (chunked s 0 [] r) v)
        (of_some (on_some (at q v) elements_in) (of_each (moves_in 7 e b))) (moves_in 7 e r v)
        (some_less (on_some (at q v) elements_in) (of_each (moves_in 7 d (chunked s 0 [] b))) (of_each (moves_in 7 e b))
        (each_less (moves_in 7 d (chunked s 0 [] b)) (moves_in 7 e b) (λ w. whole_less b s w (after_chunked b s 0 [] w))))
        (whole_less r s v (after_chunked r s 0 [] v)))
    after_chunked (switch q cs r) ph n ps v =
        let s = switched ph cs in
        after_closed n ps (switch q (cases_chunked ph cs) (chunked s 0 [] r)) v
        (of_some (on_some (at q v) arm_in) (λ a. case_moves 7 e cs a.0 a.1) + moves_in 7 e r v)
        (both_less (of_some (on_some (at q v) arm_in) (λ a. case_moves 7 d (cases_chunked ph cs) a.0 a.1))
        (moves_in 7 d (chunked s 0 [] r) v) (of_some (on_some (at q v) arm_in) (λ a. case_moves 7 e cs a.0 a.1)) (moves_in 7 e r v)
        (some_less (on_some (at q v) arm_in) (λ a. case_moves 7 d (cases_chunked ph cs) a.0 a.1) (λ a. case_moves 7 e cs a.0 a.1)
        (λ a. case_chunked cs ph a.0 a.1)) (whole_less r s v (after_chunked r s 0 [] v)))
    after_chunked (if_there q b r) ph n ps v =
        let s = perhaps ph b in
        after_closed n ps (if_there q (chunked ph 0 [] b) (chunked s 0 [] r)) v
        (of_some (at q v) (of_present (moves_in 7 e b)) + moves_in 7 e r v)
        (both_less (of_some (at q v) (of_present (moves_in 7 d (chunked ph 0 [] b)))) (moves_in 7 d (chunked s 0 [] r) v)
        (of_some (at q v) (of_present (moves_in 7 e b))) (moves_in 7 e r v)
        (some_less (at q v) (of_present (moves_in 7 d (chunked ph 0 [] b))) (of_present (moves_in 7 e b))
        (present_less (moves_in 7 d (chunked ph 0 [] b)) (moves_in 7 e b) (λ w. whole_less b ph w (after_chunked b ph 0 [] w))))
        (whole_less r s v (after_chunked r s 0 [] v)))
    after_chunked (call k q r) ph n ps v =
        after_closed n ps (call k q (chunked unknown 0 [] r)) v (of_some (at q v) (e k) + moves_in 7 e r v)
        (both_less (of_some (at q v) (d k)) (moves_in 7 d (chunked unknown 0 [] r) v) (of_some (at q v) (e k)) (moves_in 7 e r v)
        (some_less (at q v) (d k) (e k) (less k)) (whole_less r unknown v (after_chunked r unknown 0 [] v)))
    after_chunked (patch a s o r) ph n ps v =
        after_closed n ps (patch a s o (chunked ph 0 [] r)) v (moves_in 7 e r v) (whole_less r ph v (after_chunked r ph 0 [] v))

    case_chunked : (cs : Cases) (ph : Phase) (n : ℤ) (w : Val) → case_moves 7 d (cases_chunked ph cs) n w ≤ case_moves 7 e cs n w
    case_chunked no_default ph n w = omega arith
    case_chunked (default b) ph n w = whole_less b ph w (after_chunked b ph 0 [] w)
    case_chunked (case m b cs) ph n w =
        if_less (int_eq n m) (moves_in 7 d (chunked ph 0 [] b) w) (moves_in 7 e b w) (case_moves 7 d (cases_chunked ph cs) n w)
        (case_moves 7 e cs n w) (whole_less b ph w (after_chunked b ph 0 [] w)) (case_chunked cs ph n w)

  pub in_chunked : (b : Block) (ph : Phase) (v : Val) → moves_in 7 d (chunked ph 0 [] b) v ≤ moves_in 7 e b v
  in_chunked b ph v = whole_less b ph v (after_chunked b ph 0 [] v)
