-- Nodes that are put into a table, one after another, by induction on the faces and on a node's parts.
use Rattle.std.proofs.Common.{◌≡◌, ◌≢◌, Bool, true, false, ℕ, zero, suc, ◌+◌, ◌<◌, ℤ, List, [], ◌∷◌, ◌++◌, map, take, drop, length, nat_lt, nat_le, if◌then◌else◌, Option, None, Some, slice_get, refl, sym, ap, ◌∙◌, length-append, append_assoc, append-nil, arith}
use Rattle.std.specs.List.{list_any, list_all}
use Rattle.std.proofs.Math.ListN.{drop_of_length-le}
use Rattle.std.proofs.Math.Seq.{drop-cons}
use Rattle.std.proofs.lemmas.Bool.{lt-ltb, lt-leb, or_right, or_parts}
use Rattle.std.proofs.lemmas.List.{map_more}
use Rattle.mint.specs.declared.node.Node.{Node}
use Rattle.mint.specs.declared.node.Node.TheVariants as node
use Rattle.mint.specs.declared.errors.MintErr.{MintErr}
use Rattle.mint.specs.declared.errors.MintErr.TheVariants as err
use Rattle.mint.specs.Sound.{is_below, children_below, refusal}
use Rattle.mint.specs.Types as mint
use Rattle.mint.specs.Types.{unfolded, AreBelow, ArmsBelow, IsBelow, HasChildrenBelow}
use Rattle.mint.proofs.Unfolding.{unfolded-push}
use Rattle.pres.specs.declared.draft.Entry.{Entry}
use Rattle.pres.specs.declared.errors.BindErr.{BindErr}
use Rattle.pres.specs.declared.errors.BindErr.TheVariants as bind
use Rattle.pres.specs.declared.shape.Shape.{Shape}
use Rattle.pres.specs.Faces.{Face, nothing, at, level, type_of}
use Rattle.pres.specs.Faults.{is_deep, is_heavy}
use Rattle.pres.specs.Named.{IsNamed}
use Rattle.pres.specs.Drafts.{Sketch, IsSketch, drawn}
use Rattle.pres.specs.Regular.{is_ranged, IsRegular, AreRegular}
use Rattle.pres.proofs.Facing.{level_agree, level_type, named_at}
use Rattle.pres.proofs.Drafting.{drawn-length, level-at}
use Rattle.pres.proofs.Measures.{at_take}

ids_below : (k : ℕ) (is : List ℕ) → AreBelow k is → list_all (λ i. nat_lt i k) is ≡ true
ids_below k [] h = refl
ids_below k (i ∷ is) h = rw (lt-ltb i k h.0, ids_below k is h.1) refl

arms_below : (k : ℕ) (arms : List (ℤ × ℕ)) → ArmsBelow k arms → list_all (λ a. nat_lt a.1 k) arms ≡ true
arms_below k [] h = refl
arms_below k (a ∷ arms) h = rw (lt-ltb a.1 k h.0, arms_below k arms h.1) refl

last_below : (k : ℕ) (o : Option ℕ) → IsBelow k o → is_below k o ≡ true
last_below k None h = refl
last_below k (Some i) h = lt-ltb i k h

all_below : (k : ℕ) (n : Node) → HasChildrenBelow k n → children_below k n ≡ true
all_below k node.Void h = refl
all_below k (node.Num x) h = refl
all_below k (node.Enum x) h = refl
all_below k (node.Text c) h = refl
all_below k (node.Row x c) h = refl
all_below k (node.Group ids) h = ids_below k ids h
all_below k (node.Items i c) h = lt-ltb i k h
all_below k (node.Choice t arms o) h = rw (arms_below k arms h.0, last_below k o h.1) refl
all_below k (node.Maybe i) h = lt-ltb i k h

seam_get : {X : Type 0} (xs : List X) (y : X) (ys : List X) → slice_get (xs ++ y ∷ ys) (length xs) ≡ Some y
seam_get [] y ys = refl
seam_get (x ∷ xs) y ys = seam_get xs y ys

regular_at : (fs : List Face) (k : ℕ) → AreRegular fs → k < length fs → IsRegular (type_of (at fs k))
regular_at [] k h lt = absurd (omega arith)
regular_at (f ∷ fs) zero h lt = h.0
regular_at (f ∷ fs) (suc k) h lt = regular_at fs k h.1 (omega arith)

none_at : (p : Face → Bool) (fs : List Face) (k : ℕ) → list_any p fs ≡ false → k < length fs → p (at fs k) ≡ false
none_at p [] k h lt = absurd (omega arith)
none_at p (f ∷ fs) zero h lt = (or_parts (p f) _ h).0
none_at p (f ∷ fs) (suc k) h lt = none_at p fs k ((or_parts (p f) _ h).1) (omega arith)

some_at : (p : Face → Bool) (fs : List Face) (k : ℕ) → k < length fs → p (at fs k) ≡ true → list_any p fs ≡ true
some_at p [] k lt h = absurd (omega arith)
some_at p (f ∷ fs) zero lt h = rw h refl
some_at p (f ∷ fs) (suc k) lt h = or_right (p f) _ (some_at p fs k (omega arith) h)

-- a table with the first nodes of a sketch, and what is left
pub record IsStage (s : Sketch) (m : List Node) (ps : List Shape) (rest : List Entry) : Type 0 where
  pub nodes : m ++ map (λ (e : Entry). e.node) rest ≡ s.nodes
  pub shapes : ps ++ map (λ (e : Entry). e.shape) rest ≡ s.shapes
  pub step : length m ≡ length ps
  pub trees : map type_of (take (length m) (drawn s)) ≡ unfolded m

pub within : (s : Sketch) (m : List Node) (ps : List Shape) (e : Entry) (rest : List Entry) → IsSketch s → IsStage s m ps (e ∷ rest)
    → (length m < length (drawn s)) × (length m < 65536)
within s m ps e rest is st =
    let long : length s.nodes ≡ length m + suc
    (length (map (λ (e : Entry). e.node) rest)) = ap length (sym st.nodes) ∙ length-append m (map (λ (e : Entry).
    e.node) (e ∷ rest)) in
    (omega (arith, long, drawn-length s is), omega (arith, long, is.few))

face_is : (s : Sketch) (m : List Node) (ps : List Shape) (e : Entry) (rest : List Entry) → IsSketch s → IsStage s m ps (e ∷ rest)
    → (HasChildrenBelow (length m) e.node × IsNamed e.node e.shape)
    × (at (drawn s) (length m) ≡ level (take (length m) (drawn s)) e.node e.shape)
face_is s m ps e rest is st =
    let k : ℕ = length m in
    let n_is : slice_get s.nodes k ≡ Some e.node =
    ap (λ z. slice_get z k) (sym st.nodes) ∙ seam_get m e.node (map (λ (e : Entry). e.node) rest) in
    let h_is : slice_get s.shapes k ≡ Some e.shape =
    ap (λ z.
    slice_get z k) (sym st.shapes)
    ∙ ap (slice_get (ps ++ e.shape ∷ map (λ (e : Entry). e.shape) rest)) st.step ∙ seam_get ps e.shape (map (λ (e : Entry).
    e.shape) rest) in
    let below : HasChildrenBelow k e.node = is.table k e.node n_is in (
      (below, named_at s.nodes s.shapes k e.node e.shape is.named n_is h_is),
      level-at s k e.node e.shape is n_is h_is
          ∙ level_agree k (drawn s) (take k (drawn s)) e.node e.shape (λ i lt. sym (at_take (drawn s) k i lt)) below,
    )

tree_is : (s : Sketch) (m : List Node) (ps : List Shape) (e : Entry) (rest : List Entry) → IsSketch s → IsStage s m ps (e ∷ rest)
    → mint.level (unfolded m) e.node ≡ type_of (at (drawn s) (length m))
tree_is s m ps e rest is st =
    let f = face_is s m ps e rest is st in
    ap (λ z. mint.level z e.node) (sym st.trees) ∙ sym (level_type (take (length m) (drawn s)) e.node e.shape f.0.1) ∙ ap type_of (sym f.1)

-- a table refuses a node as too heavy, or takes it
pub refusal_is : (s : Sketch) (m : List Node) (ps : List Shape) (e : Entry) (rest : List Entry) → IsSketch s → IsStage s m ps (e ∷ rest)
    → AreRegular (drawn s) → list_any is_deep (drawn s) ≡ false → ((ts : List mint.Ty) → is_ranged (mint.level ts e.node) ≡ true)
    → refusal m e.node ≡ (if is_heavy (at (drawn s) (length m)) then Some err.Heavy else None)
refusal_is s m ps e rest is st regular shallow ranged =
    let k : ℕ = length m in
    let lt = within s m ps e rest is st in
    let f = face_is s m ps e rest is st in
    let tree = tree_is s m ps e rest is st in
    let many : nat_le 65536 k ≡ false = lt-leb 65536 k lt.1 in
    let below : children_below k e.node ≡ true = all_below k e.node f.0.0 in
    let r = regular_at (drawn s) k regular lt.0 in
    let deep : is_deep (at (drawn s) k) ≡ false = none_at is_deep (drawn s) k shallow lt.0 in
    let labels = r.labelled (rw (← tree) (ranged (unfolded m))) in
    rw (many, below, tree, r.fit, r.full, labels, deep) refl

pub addable : (r : Option MintErr) (b : Bool) → r ≡ (if b then Some err.Heavy else None) → (e : MintErr) → r ≡ Some e → e ≡ err.Heavy
addable r true is e h = let same : Some e ≡ Some err.Heavy = sym h ∙ is in cc
addable r false is e h = absurd cc

-- what a table's refusal becomes
pub reported_cause : (refused : MintErr) (e : BindErr) (r : Option MintErr) → (refused ≡ err.Heavy → e ≡ bind.Heavy)
    → (refused ≡ err.NoMemory → e ≡ bind.NoMemory) → ((refused ≢ err.NoMemory) → r ≡ Some refused)
    → ((refused ≢ err.NoMemory) → refused ≡ err.Heavy) → e ≢ bind.NoMemory
    → (e ≡ bind.Heavy) × (r ≡ Some err.Heavy)
reported_cause refused e r heavy memory is alone ne =
    let other : refused ≢ err.NoMemory = λ same. ne (memory same) in
    (heavy (alone other), is other ∙ ap Some (alone other))

pub was_heavy : (r : Option MintErr) (b : Bool) → r ≡ (if b then Some err.Heavy else None) → r ≡ Some err.Heavy → b ≡ true
was_heavy r true is h = refl
was_heavy r false is h = absurd cc

pub was_light : (r : Option MintErr) (b : Bool) → r ≡ (if b then Some err.Heavy else None) → r ≡ None → b ≡ false
was_light r true is h = absurd cc
was_light r false is h = refl

pub heavy_there : (s : Sketch) (m : List Node) (ps : List Shape) (e : Entry) (rest : List Entry) → IsSketch s
    → IsStage s m ps (e ∷ rest) → is_heavy (at (drawn s) (length m)) ≡ true
    → list_any is_heavy (drawn s) ≡ true
heavy_there s m ps e rest is st h = some_at is_heavy (drawn s) (length m) (within s m ps e rest is st).0 h

pub next_stage : (s : Sketch) (m m' : List Node) (ps ps' : List Shape) (e : Entry) (rest : List Entry) → IsSketch s
    → IsStage s m ps (e ∷ rest) → m' ≡ m ++ e.node ∷ [] → ps' ≡ ps ++ e.shape ∷ []
    → IsStage s m' ps' rest
next_stage s m m' ps ps' e rest is st m_is ps_is =
    let count : length m' ≡ length m + 1 = ap length m_is ∙ length-append m (e.node ∷ []) in
    let count' : length ps' ≡ length ps + 1 = ap length ps_is ∙ length-append ps (e.shape ∷ []) in
    let lt = within s m ps e rest is st in
    let f = face_is s m ps e rest is st in
    record {
      nodes =
          ap (λ z. z ++ map (λ (e : Entry). e.node) rest) m_is ∙ append_assoc m (e.node ∷ []) (map (λ (e : Entry).
          e.node) rest) ∙ st.nodes;
      shapes =
          ap (λ z. z ++ map (λ (e : Entry). e.shape) rest) ps_is ∙ append_assoc ps (e.shape ∷ []) (map (λ (e : Entry).
          e.shape) rest) ∙ st.shapes;
      step = omega (arith, count, count', st.step);
      trees =
          ap (λ z. map type_of (take z (drawn s))) count ∙ map_more type_of (drawn s) (length m) nothing lt.0
          ∙ ap (λ z. z ++ type_of (at (drawn s) (length m)) ∷ []) st.trees ∙ ap (λ z.
          unfolded m ++ z ∷ []) (sym (tree_is s m ps e rest is st))
          ∙ sym (unfolded-push m e.node) ∙ ap unfolded (sym m_is);
    }

pub light_on : (fs : List Face) (k k' : ℕ) → k' ≡ k + 1 → k < length fs
    → list_any is_heavy fs ≡ list_any is_heavy (drop k fs) → is_heavy (at fs k) ≡ false
    → list_any is_heavy fs ≡ list_any is_heavy (drop k' fs)
light_on fs k k' next lt h light =
    let up : k' ≡ suc k = omega (arith, next) in
    h ∙ ap (list_any is_heavy) (drop-cons fs k nothing lt) ∙ (rw (light, up) refl)

pub all_light : (s : Sketch) (m : List Node) (ps : List Shape) → IsSketch s → IsStage s m ps []
    → list_any is_heavy (drawn s) ≡ list_any is_heavy (drop (length m) (drawn s))
    → list_any is_heavy (drawn s) ≡ false
all_light s m ps is st h =
    let long : length m ≡ length s.nodes = ap length (sym (append-nil m) ∙ st.nodes) in
    h ∙ ap (list_any is_heavy) (drop_of_length-le (drawn s) (omega (arith, long, drawn-length s is)))

pub first_stage : (s : Sketch) (es items : List Entry) (m : List Node) (ps : List Shape) → m ≡ [] → ps ≡ [] → items ≡ es
    → map (λ (e : Entry). e.node) es ≡ s.nodes → map (λ (e : Entry). e.shape) es ≡ s.shapes
    → IsStage s m ps items
unfolding unfolded mint.unfolded_from
first_stage s es items m ps m_is ps_is same ns ss = record {
  nodes = rw (m_is, same) ns;
  shapes = rw (ps_is, same) ss;
  step = rw (m_is, ps_is) refl;
  trees = rw m_is refl;
}
