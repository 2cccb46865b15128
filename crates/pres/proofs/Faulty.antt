-- Which refusal is the first, and what sizes up to a limit say of it, by induction on the faces and operations.
use Rattle.std.proofs.Common.{◌≡◌, Bool, true, false, ◌||◌, ℕ, ◌+◌, ◌<◌, ◌≤◌, min, List, [], ◌∷◌, map, length, nat_lt, sum_by, None, Some, refl, sym, ap, ◌∙◌, subst, arith, true≢false}
use Rattle.std.specs.List.{list_any, AllByRecursion}
use Rattle.std.proofs.lemmas.Bool.{lt-ltb, le-ltb, ltb-true, ltb-false, or_parts}
use Rattle.std.proofs.lemmas.List.Sums.{sum_by-cons}
use Rattle.std.proofs.Math.ListN.{get_or-map}
use Rattle.mint.specs.Blank.{depth}
use Rattle.wire_def.specs.declared.encoding.Back.{Back}
use Rattle.aoi.specs.Plain.{PlainUnit, IsSoundPlain}
use Rattle.pres.specs.declared.errors.BindErr.TheVariants as err
use Rattle.pres.specs.declared.ops.Op.{Op}
use Rattle.pres.specs.declared.sizes.Size.{Size}
use Rattle.mint.specs.declared.node.Node.{Node}
use Rattle.pres.specs.declared.shape.Shape.{Shape}
use Rattle.pres.specs.Bindings.{Binding, IsPlaced, IsBinding}
use Rattle.pres.specs.Drafts.{Sketch, drawn, AreOffered}
use Rattle.pres.specs.Named.{AreNamed}
use Rattle.pres.proofs.Drafting.{faces-length}
use Rattle.pres.specs.Faces.{Face, nothing, at, type_of, faces}
use Rattle.pres.specs.Faults.{is_deep, is_heavy, spread, spread_of, is_spread, has_long_in, is_wide, bind_fault}
use Rattle.pres.specs.Made.{all_made}
use Rattle.pres.specs.Offers.{offers, offer_at}
use Rattle.pres.specs.Sizes as sizes
use Rattle.pres.specs.Sizes.{size_of, nodes_of, is_over}

pub deep_next : (u : PlainUnit) (b : Back) → length (all_made u b) ≤ 65536
    → list_any is_deep (all_made u b) ≡ true
    → bind_fault u b ≡ Some err.Deep
deep_next u b m d = rw (le-ltb 65536 (length (all_made u b)) m, d) refl

pub heavy_next : (u : PlainUnit) (b : Back) → length (all_made u b) ≤ 65536
    → list_any is_deep (all_made u b) ≡ false → list_any is_heavy (all_made u b) ≡ true
    → bind_fault u b ≡ Some err.Heavy
heavy_next u b m d w = rw (le-ltb 65536 (length (all_made u b)) m, d, w) refl

pub wide_next : (u : PlainUnit) (b : Back) → length (all_made u b) ≤ 65536
    → list_any is_deep (all_made u b) ≡ false → list_any is_heavy (all_made u b) ≡ false → is_wide u b ≡ true
    → bind_fault u b ≡ Some err.Wide
wide_next u b m d w x = rw (le-ltb 65536 (length (all_made u b)) m, d, w, x) refl

pub none_at_last : (u : PlainUnit) (b : Back) → length (all_made u b) ≤ 65536
    → list_any is_deep (all_made u b) ≡ false → list_any is_heavy (all_made u b) ≡ false → is_wide u b ≡ false
    → bind_fault u b ≡ None
none_at_last u b m d w x = rw (le-ltb 65536 (length (all_made u b)) m, d, w, x) refl

-- ---- sizes

less_same : (a b k : ℕ) → (k < a → k < b) → (k < b → k < a) → nat_lt k a ≡ nat_lt k b
less_same a b k f g = by (nat_lt k a) refl (nat_lt k b) refl where
  by : (s : Bool) → nat_lt k a ≡ s → (t : Bool) → nat_lt k b ≡ t → nat_lt k a ≡ nat_lt k b
  by true e true d = e ∙ sym d
  by false e false d = e ∙ sym d
  by true e false d = absurd (true≢false (sym (lt-ltb k b (f (ltb-true k a e))) ∙ d))
  by false e true d = absurd (true≢false (sym (lt-ltb k a (g (ltb-true k b d))) ∙ e))

pub deep_sizes : (fs : List Face) → list_any (λ (s : Size). nat_lt 32 s.depth) (map size_of fs) ≡ list_any is_deep fs
deep_sizes [] = refl
deep_sizes (f ∷ fs) =
    let d : ℕ = depth (type_of f) in
    let same : nat_lt 32 (min d 33) ≡ nat_lt 32 d = less_same (min d 33) d 32 (λ h. omega (arith, h)) (λ h. omega (arith, h)) in
    rw (same, deep_sizes fs) refl

pub size-nodes : (fs : List Face) (i : ℕ) → (sizes.at (map size_of fs) i).nodes ≡ min (spread (at fs i)) 65537
size-nodes fs i = ap (λ (s : Size). s.nodes) (get_or-map size_of fs i nothing)

each_over : (fs : List Face) (o : Op) → nat_lt 65536 (nodes_of (map size_of fs) o) ≡ nat_lt 65536 (spread_of (offer_at fs o))
each_over fs o =
    let a : ℕ = spread (at fs o.request) in
    let b : ℕ = spread (at fs o.reply) in
    rw (size-nodes fs o.request, size-nodes fs o.reply)
    (less_same (min a 65537 + min b 65537) (a + b) 65536 (λ h. omega (arith, h)) (λ h. omega (arith, h)))

each_exact : (fs : List Face) (o : Op) → nat_lt 65536 (spread_of (offer_at fs o)) ≡ false
    → nodes_of (map size_of fs) o ≡ spread_of (offer_at fs o)
each_exact fs o h =
    let a : ℕ = spread (at fs o.request) in
    let b : ℕ = spread (at fs o.reply) in
    let few : a + b ≤ 65536 = ltb-false 65536 (a + b) h in
    rw (size-nodes fs o.request, size-nodes fs o.reply) (omega (arith, few))

any_over : (fs : List Face) (os : List Op)
    → list_any (λ o. nat_lt 65536 (nodes_of (map size_of fs) o)) os ≡ list_any (λ o. nat_lt 65536 (spread_of o)) (map (offer_at fs) os)
any_over fs [] = refl
any_over fs (o ∷ os) = rw (each_over fs o, any_over fs os) refl

sum_exact : (fs : List Face) (os : List Op) → list_any (λ o. nat_lt 65536 (spread_of o)) (map (offer_at fs) os) ≡ false
    → sum_by (nodes_of (map size_of fs)) os ≡ sum_by spread_of (map (offer_at fs) os)
sum_exact fs [] h = refl
sum_exact fs (o ∷ os) h =
    let p = or_parts (nat_lt 65536 (spread_of (offer_at fs o))) _ h in
    omega (
      arith,
      each_exact fs o p.0,
      sum_exact fs os p.1,
      sum_by-cons (nodes_of (map size_of fs)) o os,
      sum_by-cons spread_of (offer_at fs o) (map (offer_at fs) os),
    )

pub over_spread : (fs : List Face) (os : List Op) → is_over (map size_of fs) os ≡ is_spread (map (offer_at fs) os)
over_spread fs os = by (list_any (λ o. nat_lt 65536 (spread_of o)) (map (offer_at fs) os)) refl where
  by : (t : Bool)
      → list_any
      (λ o. nat_lt 65536 (spread_of o)) (map (offer_at fs) os) ≡ t → is_over (map size_of fs) os ≡ is_spread (map (offer_at fs) os)
  by true e = let one : list_any (λ o. nat_lt 65536 (nodes_of (map size_of fs) o)) os ≡ true = any_over fs os ∙ e in rw (one, e) refl
  by false e =
      let one : list_any (λ o. nat_lt 65536 (nodes_of (map size_of fs) o)) os ≡ false = any_over fs os ∙ e in
      rw (one, e) (ap (nat_lt 262144) (sum_exact fs os e))

-- ---- the binding

pub short_names : (u : PlainUnit) (ss : List Size) (os : List Op) → (list_any has_long_in u.interfaces || is_over ss os) ≡ false
    → list_any has_long_in u.interfaces ≡ false
short_names u ss os h = (or_parts (list_any has_long_in u.interfaces) (is_over ss os) h).0

pub wide_is : (u : PlainUnit) (b : Back) (fs : List Face) (ss : List Size) (os : List Op) → ss ≡ map size_of fs
    → map (offer_at fs) os ≡ offers u b
    → (list_any has_long_in u.interfaces || is_over ss os) ≡ is_wide u b
wide_is u b fs ss os sizes_are offers_are =
    ap (λ z. list_any has_long_in u.interfaces || z) (ap (λ z. is_over z os) sizes_are ∙ over_spread fs os ∙ ap is_spread offers_are)

pub placed_by : (b : Binding) (n : ℕ) (os : List Op) → n ≡ length b.nodes → AllByRecursion (λ (o : Op). (o.request < n) × (o.reply < n)) os
    → AllByRecursion (IsPlaced b) os
placed_by b n [] is h = tt
placed_by b n (o ∷ os) is h = (record { request = omega (arith, is, h.0.0); reply = omega (arith, is, h.0.1) }, placed_by b n os is h.1)

pub placed_in : (n m : ℕ) (os : List Op) → n ≡ m → AllByRecursion (λ (o : Op). (o.request < n) × (o.reply < n)) os
    → AllByRecursion (λ (o : Op). (o.request < m) × (o.reply < m)) os
placed_in n m os is h = subst (λ z. AllByRecursion (λ (o : Op). (o.request < z) × (o.reply < z)) os) is h

pub table_faces : (s : Sketch) (m : List Node) (ps : List Shape) → m ≡ s.nodes → ps ≡ s.shapes → faces m ps ≡ drawn s
unfolding drawn
table_faces s m ps m_is ps_is = rw (m_is, ps_is) refl

pub bound : (s : Sketch) (b : Binding) → IsSoundPlain b.unit → list_any has_long_in b.unit.interfaces ≡ false
    → AreNamed b.nodes b.shapes → b.nodes ≡ s.nodes → b.shapes ≡ s.shapes → AreOffered s b.ops (offers b.unit b.back)
    → IsBinding b
bound s b sound short named ns ss o =
    let same : faces b.nodes b.shapes ≡ drawn s = table_faces s b.nodes b.shapes ns ss in
    let long : length (drawn s) ≡ length b.nodes = ap length (sym same) ∙ faces-length b.nodes b.shapes named in
    record {
      named = named;
      sound = sound;
      placed = placed_by b (length (drawn s)) b.ops long o.placed;
      short = short;
      offered = ap (λ z. map (offer_at z) b.ops) same ∙ o.are;
    }
