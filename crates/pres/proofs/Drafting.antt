-- A sketch with one more node, and what is at its places, by induction on the nodes.
use Rattle.std.proofs.Common.{◌≡◌, ℕ, zero, suc, ◌+◌, ◌<◌, ◌≤◌, List, [], ◌∷◌, ◌++◌, map, length, get_or, Some, slice_get, refl, sym, ap, ◌∙◌, inl, inr, length-append, arith}
use Rattle.std.specs.List.{AllByRecursion, zip}
use Rattle.std.proofs.Math.ListN.{get_or-append}
use Rattle.std.proofs.Math.Seq.{get_or-append_seam}
use Rattle.std.proofs.lemmas.List.{length-map, map-append}
use Rattle.mint.specs.declared.node.Node.{Node}
use Rattle.mint.specs.Types.{HasChildrenBelow, IsTable}
use Rattle.mint.proofs.Measuring.{found}
use Rattle.pres.specs.declared.draft.Entry.{Entry}
use Rattle.pres.specs.declared.shape.Shape.{Shape}
use Rattle.pres.specs.Faces.{Face, nothing, at, level, faces_from, faces}
use Rattle.pres.specs.Named.{IsNamed, AreNamed}
use Rattle.pres.specs.Drafts.{Sketch, IsSketch, drawn, known, Grows, IsDrawn}
use Rattle.pres.proofs.Facing.{face_at-level}

-- ---- one more node

faces_pushed : (fs : List Face) (ns : List Node) (ss : List Shape) (n : Node) (s : Shape) → AreNamed ns ss
    → faces_from fs (zip (ns ++ n ∷ []) (ss ++ s ∷ [])) ≡ faces_from fs (zip ns ss) ++ level (faces_from fs (zip ns ss)) n s ∷ []
unfolding faces_from
faces_pushed fs [] [] n s named = refl
faces_pushed fs [] (r ∷ ss) n s named = absurd named
faces_pushed fs (m ∷ ns) [] n s named = absurd named
faces_pushed fs (m ∷ ns) (r ∷ ss) n s named = faces_pushed (fs ++ level fs m r ∷ []) ns ss n s named.1

pub faces-push : (ns : List Node) (ss : List Shape) (n : Node) (s : Shape) → AreNamed ns ss
    → faces (ns ++ n ∷ []) (ss ++ s ∷ []) ≡ faces ns ss ++ level (faces ns ss) n s ∷ []
unfolding faces
faces-push ns ss n s named = faces_pushed [] ns ss n s named

faces_length : (fs : List Face) (ns : List Node) (ss : List Shape) → AreNamed ns ss
    → length (faces_from fs (zip ns ss)) ≡ length fs + length ns
unfolding faces_from
faces_length fs [] [] named = omega arith
faces_length fs [] (r ∷ ss) named = absurd named
faces_length fs (m ∷ ns) [] named = absurd named
faces_length fs (m ∷ ns) (r ∷ ss) named =
    omega (arith, faces_length (fs ++ level fs m r ∷ []) ns ss named.1, length-append fs (level fs m r ∷ []))

pub faces-length : (ns : List Node) (ss : List Shape) → AreNamed ns ss → length (faces ns ss) ≡ length ns
unfolding faces
faces-length ns ss named = omega (arith, faces_length [] ns ss named)

named_push : (ns : List Node) (ss : List Shape) (n : Node) (s : Shape) → AreNamed ns ss → IsNamed n s
    → AreNamed (ns ++ n ∷ []) (ss ++ s ∷ [])
named_push [] [] n s named is = (is, tt)
named_push [] (r ∷ ss) n s named is = absurd named
named_push (m ∷ ns) [] n s named is = absurd named
named_push (m ∷ ns) (r ∷ ss) n s named is = (named.0, named_push ns ss n s named.1 is)

table_push : (nodes : List Node) (n : Node) → IsTable nodes → HasChildrenBelow (length nodes) n → IsTable (nodes ++ n ∷ [])
table_push nodes n table below k m is =
    elim (found nodes n m k is) [ inl there ↦ table k m there | inr last ↦ rw (last.0, ← last.1) below ]

pub below_more : (n m : ℕ) (is : List ℕ) → n ≤ m → AllByRecursion (λ i. i < n) is → AllByRecursion (λ i. i < m) is
below_more n m [] le below = tt
below_more n m (i ∷ is) le below = (omega (arith, below.0, le), below_more n m is le below.1)

pub below_push : (n : ℕ) (is : List ℕ) (i : ℕ) → AllByRecursion (λ j. j < n) is → i < n → AllByRecursion (λ j. j < n) (is ++ i ∷ [])
below_push n [] i below h = (h, tt)
below_push n (j ∷ is) i below h = (below.0, below_push n is i below.1 h)

-- ---- sketches

abbrev pub sketch : List Node → List Shape → List ℕ → Sketch
sketch ns ss ts = record { nodes = ns; shapes = ss; types = ts }

pub drawn-length : (s : Sketch) → IsSketch s → length (drawn s) ≡ length s.nodes
unfolding drawn
drawn-length s is = faces-length s.nodes s.shapes is.named

pub sketch_push : (s : Sketch) (n : Node) (h : Shape) → IsSketch s → length s.nodes < 65536
    → HasChildrenBelow (length (drawn s)) n → IsNamed n h
    → IsSketch (sketch (s.nodes ++ n ∷ []) (s.shapes ++ h ∷ []) s.types)
sketch_push s n h is few below named =
    let more : length (s.nodes ++ n ∷ []) ≡ length s.nodes + 1 = length-append s.nodes (n ∷ []) in
    record {
      table = table_push s.nodes n is.table (rw (← drawn-length s is) below);
      named = named_push s.nodes s.shapes n h is.named named;
      few = omega (arith, more, few);
      below = below_more (length s.nodes) _ s.types (omega (arith, more)) is.below;
    }

pub at_stays : (fs gs : List Face) (is : List ℕ) → AllByRecursion (λ i. i < length fs) is → map (at (fs ++ gs)) is ≡ map (at fs) is
at_stays fs gs [] below = refl
at_stays fs gs (i ∷ is) below = rw (get_or-append fs gs nothing i below.0, at_stays fs gs is below.1) refl

pub grown : (s : Sketch) (n : Node) (h : Shape) → IsSketch s
    → Grows s (sketch (s.nodes ++ n ∷ []) (s.shapes ++ h ∷ []) s.types) (level (drawn s) n h ∷ [])
unfolding drawn known
grown s n h is =
    let more = faces-push s.nodes s.shapes n h is.named in
    record {
      nodes = more;
      types = rw more (at_stays (drawn s) (level (drawn s) n h ∷ []) s.types (rw (drawn-length s is) is.below));
    }

pub pushed : (s : Sketch) (n : Node) (h : Shape) (id : ℕ) → IsSketch s → id ≡ length s.nodes
    → IsDrawn (sketch (s.nodes ++ n ∷ []) (s.shapes ++ h ∷ []) s.types) id (level (drawn s) n h)
pushed s n h id is id_is =
    let g = grown s n h is in
    let long = drawn-length s is in
    record {
      below = rw g.nodes (omega (arith, length-append (drawn s) (level (drawn s) n h ∷ []), long, id_is));
      is = rw (g.nodes, id_is, ← long) (get_or-append_seam (drawn s) (level (drawn s) n h) [] nothing);
    }

pub known-length : (s : Sketch) → length (known s) ≡ length s.types
unfolding known
known-length s = length-map s.types (at (drawn s))

-- ---- at a place

pub entry_there : {A X : Type 0} (f : A → X) (es : List A) (i : ℕ) (e : A) → i < length es → e ≡ get_or es i e
    → slice_get (map f es) i ≡ Some (f e)
entry_there f [] i e h is = absurd (omega arith)
entry_there f (d ∷ es) zero e h is = ap (λ z. Some (f z)) (sym is)
entry_there f (d ∷ es) (suc i) e h is = entry_there f es i e (omega arith) is

get_below : (n : ℕ) (is : List ℕ) (k : ℕ) (d : ℕ) → AllByRecursion (λ i. i < n) is → k < length is → get_or is k d < n
get_below n [] k d below h = absurd (omega arith)
get_below n (i ∷ is) zero d below h = below.0
get_below n (i ∷ is) (suc k) d below h = get_below n is k d below.1 (omega arith)

map_at : (fs : List Face) (is : List ℕ) (k : ℕ) (d : ℕ) → k < length is → at (map (at fs) is) k ≡ at fs (get_or is k d)
map_at fs [] k d h = absurd (omega arith)
map_at fs (i ∷ is) zero d h = refl
map_at fs (i ∷ is) (suc k) d h = map_at fs is k d (omega arith)

pub type_drawn : (s : Sketch) (k d : ℕ) → IsSketch s → k < length s.types → IsDrawn s (get_or s.types k d) (at (known s) k)
unfolding known
type_drawn s k d is h = record {
  below = rw (drawn-length s is) (get_below (length s.nodes) s.types k d is.below h);
  is = sym (map_at (drawn s) s.types k d h);
}

pub level-at : (s : Sketch) (k : ℕ) (n : Node) (h : Shape) → IsSketch s → slice_get s.nodes k ≡ Some n → slice_get s.shapes k ≡ Some h
    → at (drawn s) k ≡ level (drawn s) n h
unfolding drawn
level-at s k n h is node shape = face_at-level s.nodes s.shapes k n h node shape (is.table k n node)

pub within : (s : Sketch) (es : List Entry) (id : ℕ) → IsSketch s → s.nodes ≡ map (λ (e : Entry). e.node) es → id < length (drawn s)
    → id < length es
within s es id is same h = omega (arith, h, drawn-length s is, ap length same, length-map es (λ (e : Entry). e.node))

-- one more type has its node
pub sketch_name : (s : Sketch) (id : ℕ) → IsSketch s → id < length (drawn s) → IsSketch (sketch s.nodes s.shapes (s.types ++ id ∷ []))
sketch_name s id is h = record {
  table = is.table;
  named = is.named;
  few = is.few;
  below = below_push (length s.nodes) s.types id is.below (omega (arith, h, drawn-length s is));
}

pub named_drawn : (s : Sketch) (id : ℕ) → drawn (sketch s.nodes s.shapes (s.types ++ id ∷ [])) ≡ drawn s
unfolding drawn
named_drawn s id = refl

pub named_known : (s : Sketch) (id : ℕ) → known (sketch s.nodes s.shapes (s.types ++ id ∷ [])) ≡ known s ++ at (drawn s) id ∷ []
unfolding drawn known
named_known s id = map-append (at (drawn s)) s.types (id ∷ [])

-- ---- growth

pub drawn_stays : (old new : Sketch) (more : List Face) (id : ℕ) (f : Face) → Grows old new more → IsDrawn old id f → IsDrawn new id f
drawn_stays old new more id f g d = record {
  below = rw g.nodes (omega (arith, d.below, length-append (drawn old) more));
  is = rw g.nodes (get_or-append (drawn old) more nothing id d.below ∙ d.is);
}
