-- Sketches that are drawn in definitions: nodes for a type, for a message, for a unit, by induction on the type.
use Rattle.std.proofs.Common.{◌≡◌, IsTrue, Bool, true, false, ℕ, zero, suc, ◌+◌, ◌<◌, ◌≤◌, ℤ, pos, List, [], ◌∷◌, ◌++◌, map, length, get_or, zip, Option, None, Some, if◌then◌else◌, refl, sym, ap, ◌∙◌, subst, length-append, append_assoc, append-nil, arith}
use Rattle.std.specs.List.{AllByRecursion}
use Rattle.std.proofs.lemmas.Bool.{ltb-true, and_parts}
use Rattle.std.proofs.lemmas.List.{map-append}
use Rattle.mint.specs.declared.kind.Kind.{Kind}
use Rattle.mint.specs.declared.kind.Kind.TheVariants as kind
use Rattle.mint.specs.declared.kind.Count.{Count}
use Rattle.mint.specs.declared.node.Tag.{Tag}
use Rattle.mint.specs.declared.node.Tag.TheVariants as tag
use Rattle.mint.specs.declared.node.Node.{Node}
use Rattle.mint.specs.declared.node.Node.TheVariants as node
use Rattle.mint.specs.Types.{HasChildrenBelow}
use Rattle.wire_def.specs.declared.encoding.Back.{Back}
use Rattle.aoi.specs.Shapes as aoi
use Rattle.aoi.specs.Plain.{PlainRaise, PlainOperation, PlainInterface}
use Rattle.aoi.specs.Sound.{are_distinct, names_of}
use Rattle.pres.specs.declared.ops.Op.{Op}
use Rattle.pres.specs.declared.shape.Shape.{Shape}
use Rattle.pres.specs.declared.shape.Shape.TheVariants.{Plain, FieldNames, LabelNames}
use Rattle.pres.specs.Faces.{Sign, number, item, Face, nothing, scalar, numbers, values, members, list, choice, maybe, Arms, other, arm, at, labels_of, arms_at, sign_of, group_face, level, faces_from, faces}
use Rattle.pres.specs.Named.{IsTagShape, IsNamed, AreNamed}
use Rattle.pres.specs.Made.{kept, made, made_inside, made_after, made_in_types, made_request, made_answer, made_raised, made_reply, made_by, made_in_interfaces}
use Rattle.pres.specs.Offers.{Offer, packed, elements_by, sign_in, put_arm, face_of, parts_of, arms_of, faces_of, exception, raised, request_of, answer_of, reply_of, is_answered, offer, null_operation, gets_null, gotten, operations, offers_from, offer_at}
use Rattle.pres.specs.Rising.{put_pair}
use Rattle.pres.specs.Drafts.{Sketch, IsSketch, drawn, known, Grows, IsDrawn, AreDrawn, AreArms, is_drawable, are_drawable, arms_drawable, faces_inside, IsDrawableOperation, IsDrawableInterface, AreDrawable, AreOffered}
use Rattle.pres.proofs.Drafting.{sketch, drawn-length, sketch_push, grown, pushed, drawn_stays, known-length, type_drawn, sketch_name, named_drawn, named_known}
use Rattle.pres.proofs.Drawn.{grows_twice, members_by, values_by, names_each, arms_stay, below_pair, node_after, drawn_as}
use Rattle.pres.proofs.Exchange.{answer_by, offers_stay, placed_more}
use Rattle.pres.proofs.Ordered.{put_pair-face}

-- ---- room

-- there is room for more nodes
abbrev pub Fits : Sketch → List Face → Type 0
Fits s more = length (drawn s) + length more ≤ 65536

pub longer : (s t : Sketch) (more : List Face) → Grows s t more → length (drawn t) ≡ length (drawn s) + length more
longer s t more g = ap length g.nodes ∙ length-append (drawn s) more

pub fits_first : (s : Sketch) (xs ys : List Face) → Fits s (xs ++ ys) → Fits s xs
fits_first s xs ys fits = omega (arith, fits, length-append xs ys)

pub fits_rest : (s t : Sketch) (xs ys : List Face) → Grows s t xs → Fits s (xs ++ ys) → Fits t ys
fits_rest s t xs ys g fits = omega (arith, fits, length-append xs ys, longer s t xs g)

pub grows_none : (s : Sketch) → Grows s s []
grows_none s = record { nodes = sym (append-nil (drawn s)); types = refl }

-- ---- what is drawn after a sketch

-- a node after others
pub record Draws (s : Sketch) (more : List Face) (f : Face) : Type 0 where
  pub new : Sketch
  pub id : ℕ
  pub is : IsSketch new
  pub grows : Grows s new more
  pub there : IsDrawn new id f

-- nodes after others
pub record DrawsAll (s : Sketch) (more fs : List Face) : Type 0 where
  pub new : Sketch
  pub ids : List ℕ
  pub is : IsSketch new
  pub grows : Grows s new more
  pub there : AreDrawn new ids fs

-- arms after others
pub record DrawsArms (s : Sketch) (more : List Face) (fs : Arms) : Type 0 where
  pub new : Sketch
  pub arms : List (ℤ × ℕ)
  pub last : Option ℕ
  pub is : IsSketch new
  pub grows : Grows s new more
  pub there : AreArms new arms last fs

-- operations after others
pub record DrawsOps (s : Sketch) (more : List Face) (fs : List Offer) : Type 0 where
  pub new : Sketch
  pub ops : List Op
  pub is : IsSketch new
  pub grows : Grows s new more
  pub there : AreOffered new ops fs

-- one more node
pub push : (s : Sketch) (n : Node) (h : Shape) → IsSketch s → Fits s (level (drawn s) n h ∷ []) → HasChildrenBelow (length (drawn s)) n
    → IsNamed n h
    → Draws s (level (drawn s) n h ∷ []) (level (drawn s) n h)
push s n h is fits below named = record {
  new = sketch (s.nodes ++ n ∷ []) (s.shapes ++ h ∷ []) s.types;
  id = length s.nodes;
  is = sketch_push s n h is (omega (arith, fits, drawn-length s is)) below named;
  grows = grown s n h is;
  there = pushed s n h (length s.nodes) is refl;
}

-- one more node after those inside it, which is to unfold to a face
pub push_after : (s a : Sketch) (xs : List Face) (n : Node) (h : Shape) (f : Face) → IsSketch a → Grows s a xs → Fits s (xs ++ f ∷ [])
    → HasChildrenBelow (length (drawn a)) n → IsNamed n h → level (drawn a) n h ≡ f → Draws s (xs ++ f ∷ []) f
push_after s a xs n h f is g fits below named same =
    let d = push a n h is (fits_rest s a xs (f ∷ []) g fits) below named in
    record {
      new = d.new;
      id = d.id;
      is = d.is;
      grows = node_after s a d.new xs (level (drawn a) n h) f same g d.grows;
      there =
          drawn_as d.new d.id (level (drawn a) n h) f same d.there;
    }

-- ---- tags

-- an enum whose items have different names, or any other face
abbrev IsSigned : Face → Type 0
IsSigned (scalar (item items)) = IsTrue (are_distinct (map (λ i. i.0) items))
IsSigned _ = Unit {0}

signed_group : (fs : List Face) (ids : List ℕ) (h : Shape) → IsSigned (group_face fs ids h)
signed_group fs ids Plain = tt
signed_group fs ids (FieldNames names) = tt
signed_group fs ids (LabelNames items) = tt

signed_enum : (labels : List ℤ) (h : Shape) → IsTagShape (tag.Enum labels) h → IsSigned (scalar (sign_of (tag.Enum labels) h))
signed_enum labels Plain named = absurd named
signed_enum labels (FieldNames names) named = absurd named
signed_enum labels (LabelNames items) named = named.distinct

signed_level : (fs : List Face) (n : Node) (h : Shape) → IsNamed n h → IsSigned (level fs n h)
signed_level fs node.Void h named = tt
signed_level fs (node.Num k) h named = tt
signed_level fs (node.Enum labels) h named = signed_enum labels h named
signed_level fs (node.Text c) h named = tt
signed_level fs (node.Row k c) h named = tt
signed_level fs (node.Group ids) h named = signed_group fs ids h
signed_level fs (node.Items i c) h named = tt
signed_level fs (node.Choice t arms o) h named = tt
signed_level fs (node.Maybe i) h named = tt

signed_more : (fs : List Face) (f : Face) → AllByRecursion IsSigned fs → IsSigned f → AllByRecursion IsSigned (fs ++ f ∷ [])
signed_more [] f all h = (h, tt)
signed_more (g ∷ fs) f all h = (all.0, signed_more fs f all.1 h)

signed_from : (fs : List Face) (ns : List Node) (hs : List Shape) → AllByRecursion IsSigned fs → AreNamed ns hs
    → AllByRecursion IsSigned (faces_from fs (zip ns hs))
unfolding faces_from
signed_from fs [] [] all named = all
signed_from fs [] (h ∷ hs) all named = absurd named
signed_from fs (n ∷ ns) [] all named = absurd named
signed_from fs (n ∷ ns) (h ∷ hs) all named =
    signed_from (fs ++ level fs n h ∷ []) ns hs (signed_more fs (level fs n h) all (signed_level fs n h named.0)) named.1

signed_at : (fs : List Face) (i : ℕ) → AllByRecursion IsSigned fs → IsSigned (at fs i)
signed_at [] i all = tt
signed_at (f ∷ fs) zero all = all.0
signed_at (f ∷ fs) (suc i) all = signed_at fs i all.1

signed_drawn : (s : Sketch) (id : ℕ) → IsSketch s → IsSigned (at (drawn s) id)
unfolding drawn faces
signed_drawn s id is = signed_at (faces s.nodes s.shapes) id (signed_from [] s.nodes s.shapes tt is.named)

-- what a type stands for, if it is an enum, has items of different names
signed_type : (fs : List Face) (x : aoi.Shape) (s : Sketch) → IsSketch s → known s ≡ fs → IsTrue (is_drawable (length fs) x)
    → IsSigned (face_of fs x)
signed_type fs aoi.void s is k d = tt
signed_type fs (aoi.number kind_) s is k d = tt
signed_type fs (aoi.enumeration items) s is k d = d
signed_type fs (aoi.text c) s is k d = tt
signed_type fs (aoi.array x c) s is k d = by (packed (face_of fs x)) where
  by : (o : Option Kind) → IsSigned (elements_by o c (face_of fs x))
  by None = tt
  by (Some q) = tt
signed_type fs (aoi.structure ms) s is k d = tt
signed_type fs (aoi.choice t arms) s is k d = tt
signed_type fs (aoi.optional x) s is k d = tt
signed_type fs (aoi.named n) s is k d =
    let below : n < length s.types = omega (arith, is_below n fs d, ap length k, known-length s) in
    let there = type_drawn s n 0 is below in
    subst IsSigned (there.is ∙ ap (λ z. at z n) k) (signed_drawn s (get_or s.types n 0) is) where
      is_below : (n : ℕ) (fs : List Face) → IsTrue (is_drawable (length fs) (aoi.named n)) → n < length fs
      is_below n fs d = ltb-true n (length fs) d

-- a tag for a sign, with its shape
record IsTagOf (g : Sign) : Type 0 where
  tag : Tag
  shape : Shape
  named : IsTagShape tag shape
  same : sign_of tag shape ≡ g

no_tag : IsTagOf (number kind.U32)
no_tag = record { tag = tag.Num kind.U32; shape = Plain; named = tt; same = refl }

tag_of : (f : Face) → IsSigned f → IsTagOf (sign_in f)
tag_of (scalar (number k)) signed = record { tag = tag.Num k; shape = Plain; named = tt; same = refl }
tag_of (scalar (item items)) signed =
    record {
      tag = tag.Enum (labels_of items);
      shape = LabelNames items;
      named = record { labels = refl; distinct = signed };
      same =
          refl;
    }
tag_of nothing signed = no_tag
tag_of (numbers a) signed = no_tag
tag_of (values ps) signed = no_tag
tag_of (members ps) signed = no_tag
tag_of (list c f) signed = no_tag
tag_of (choice g arms) signed = no_tag
tag_of (maybe f) signed = no_tag

-- ---- types

-- elements that stand together, or a list of what was drawn
draw_elements : (o : Option Kind) (c : Count) (f : Face) (s : Sketch) (more : List Face) → IsSketch s → (Fits s more → Draws s more f)
    → Fits s (kept o more ++ elements_by o c f ∷ [])
    → Draws s (kept o more ++ elements_by o c f ∷ []) (elements_by o c f)
draw_elements None c f s more is inside fits =
    let r = inside (fits_first s more (list c f ∷ []) fits) in
    push_after s r.new more (node.Items r.id c) Plain (list c f) r.is r.grows fits r.there.below tt (ap (list c) r.there.is)
draw_elements (Some q) c f s more is inside fits = push s (node.Row q c) Plain is fits tt tt

mutual
  pub draw : (x : aoi.Shape) (fs : List Face) (s : Sketch) → IsSketch s → known s ≡ fs → IsTrue (is_drawable (length fs) x)
      → Fits s (made fs x) → Draws s (made fs x) (face_of fs x)
  draw aoi.void fs s is k d fits = push s node.Void Plain is fits tt tt
  draw (aoi.number q) fs s is k d fits = push s (node.Num q) Plain is fits tt tt
  draw (aoi.enumeration items) fs s is k d fits = push s (node.Enum (labels_of items)) (LabelNames items) is fits tt
      (record { labels = refl; distinct = d })
  draw (aoi.text c) fs s is k d fits = push s (node.Text c) Plain is fits tt tt
  draw (aoi.array x c) fs s is k d fits = draw_elements (packed (face_of fs x)) c (face_of fs x) s (made fs x) is (draw x fs s is k d) fits
  draw (aoi.structure ms) fs s is k d fits =
      let parts = and_parts (are_distinct (names_of ms)) (are_drawable (length fs) ms) d in
      let e = draw_members ms fs s is k parts.1 (fits_first s (made_inside fs ms) (members (parts_of fs ms) ∷ []) fits) in
      push_after s e.new (made_inside fs ms) (node.Group e.ids) (FieldNames (names_of ms)) (members (parts_of fs ms)) e.is e.grows fits
      e.there.below
      (record { each = names_each (drawn e.new) fs e.ids ms e.there.are; distinct = parts.0 })
      (members_by e.new fs e.ids (names_of ms) ms e.there refl)
  draw (aoi.choice t arms) fs s is k d fits =
      let parts = and_parts (is_drawable (length fs) t) (arms_drawable (length fs) arms) d in
      let f : Face = choice (sign_in (face_of fs t)) (arms_of fs arms) in
      let e = draw_arms arms fs s is k parts.1 (fits_first s (made_after fs arms) (f ∷ []) fits) in
      let g = tag_of (face_of fs t) (signed_type fs t s is k parts.0) in
      push_after s e.new (made_after fs arms) (node.Choice g.tag e.arms e.last) g.shape f e.is e.grows fits
      (e.there.below, e.there.other) g.named
      (ap (λ z. choice z (arms_at (drawn e.new) e.arms e.last)) g.same ∙ ap (choice (sign_in (face_of fs t))) e.there.are)
  draw (aoi.optional x) fs s is k d fits =
      let r = draw x fs s is k d (fits_first s (made fs x) (maybe (face_of fs x) ∷ []) fits) in
      push_after s r.new (made fs x) (node.Maybe r.id) Plain (maybe (face_of fs x)) r.is r.grows fits r.there.below tt
      (ap maybe r.there.is)
  draw (aoi.named n) fs s is k d fits =
      let below : n < length s.types = omega (arith, ltb-true n (length fs) d, ap length k, known-length s) in
      let id : ℕ = get_or s.types n 0 in
      record {
        new = s;
        id = id;
        is = is;
        grows = grows_none s;
        there =
            drawn_as s id (at (known s) n) (at fs n) (ap (λ z. at z n) k) (type_drawn s n 0 is below);
      }

  pub draw_members : (ms : aoi.Members) (fs : List Face) (s : Sketch) → IsSketch s → known s ≡ fs → IsTrue (are_drawable (length fs) ms)
      → Fits s (made_inside fs ms)
      → DrawsAll s (made_inside fs ms) (faces_inside fs ms)
  draw_members aoi.no_more fs s is k d fits =
      record { new = s; ids = []; is = is; grows = grows_none s; there = record { below = tt; are = refl } }
  draw_members (aoi.member n x ms) fs s is k d fits =
      let parts = and_parts (is_drawable (length fs) x) (are_drawable (length fs) ms) d in
      let r = draw x fs s is k parts.0 (fits_first s (made fs x) (made_inside fs ms) fits) in
      let e = draw_members ms fs r.new r.is (r.grows.types ∙ k) parts.1 (fits_rest s r.new (made fs x) (made_inside fs ms) r.grows fits) in
      let st = drawn_stays r.new e.new (made_inside fs ms) r.id (face_of fs x) e.grows r.there in
      record {
        new = e.new;
        ids = r.id ∷ e.ids;
        is = e.is;
        grows = grows_twice s r.new e.new (made fs x) (made_inside fs ms) r.grows e.grows;
        there =
            record {
              below = (st.below, e.there.below);
              are =
                  ap (λ z. z ∷ map (at (drawn e.new)) e.ids) st.is ∙ ap (λ z. face_of fs x ∷ z) e.there.are;
            };
      }

  pub draw_arms : (arms : aoi.Arms) (fs : List Face) (s : Sketch) → IsSketch s → known s ≡ fs → IsTrue (arms_drawable (length fs) arms)
      → Fits s (made_after fs arms)
      → DrawsArms s (made_after fs arms) (arms_of fs arms)
  draw_arms aoi.no_default fs s is k d fits =
      record { new = s; arms = []; last = None; is = is; grows = grows_none s; there = record { below = tt; other = tt; are = refl } }
  draw_arms (aoi.default x) fs s is k d fits =
      let r = draw x fs s is k d fits in
      record {
        new = r.new;
        arms = [];
        last = Some r.id;
        is = r.is;
        grows = r.grows;
        there =
            record { below = tt; other = r.there.below; are = ap other r.there.is };
      }
  draw_arms (aoi.arm n x arms) fs s is k d fits =
      let parts = and_parts (is_drawable (length fs) x) (arms_drawable (length fs) arms) d in
      let e = draw_arms arms fs s is k parts.1 (fits_first s (made_after fs arms) (made fs x) fits) in
      let r = draw x fs e.new e.is (e.grows.types ∙ k) parts.0 (fits_rest s e.new (made_after fs arms) (made fs x) e.grows fits) in
      let still = arms_stay e.new r.new (made fs x) e.arms e.last (arms_of fs arms) r.grows e.there in
      record {
        new = r.new;
        arms = put_pair (n, r.id) e.arms;
        last = e.last;
        is = r.is;
        grows = grows_twice s e.new r.new (made_after fs arms) (made fs x) e.grows r.grows;
        there = record {
          below = below_pair (length (drawn r.new)) (n, r.id) e.arms r.there.below still.below;
          other = still.other;
          are =
              put_pair-face (drawn r.new) (n, r.id) e.arms e.last ∙ ap (λ z. put_arm n z (arms_at (drawn r.new) e.arms e.last)) r.there.is
              ∙ ap (put_arm n (face_of fs x)) still.are;
        };
      }

-- ---- messages

draw_request : (op : PlainOperation) (fs : List Face) (s : Sketch) → IsSketch s → known s ≡ fs → IsDrawableOperation (length fs) op
    → Fits s (made_request fs op) → Draws s (made_request fs op) (request_of fs op)
draw_request op fs s is k d fits =
    let e = draw_members op.ins fs s is k d.ins (fits_first s (made_inside fs op.ins) (request_of fs op ∷ []) fits) in
    push_after s e.new (made_inside fs op.ins) (node.Group e.ids) Plain (request_of fs op) e.is e.grows fits e.there.below tt
    (values_by e.new fs e.ids op.ins e.there)

draw_answer : (op : PlainOperation) (fs : List Face) (s : Sketch) → IsSketch s → known s ≡ fs → IsDrawableOperation (length fs) op
    → Fits s (made_answer fs op) → Draws s (made_answer fs op) (answer_of fs op)
draw_answer op fs s is k d fits =
    let inner = fits_first s (made fs op.result ++ made_inside fs op.outs) (answer_of fs op ∷ []) fits in
    let r = draw op.result fs s is k d.result (fits_first s (made fs op.result) (made_inside fs op.outs) inner) in
    let e = draw_members op.outs fs r.new r.is (r.grows.types ∙ k) d.outs
    (fits_rest s r.new (made fs op.result) (made_inside fs op.outs) r.grows inner) in
    let st = drawn_stays r.new e.new (made_inside fs op.outs) r.id (face_of fs op.result) e.grows r.there in
    let g = grows_twice s r.new e.new (made fs op.result) (made_inside fs op.outs) r.grows e.grows in
    push_after s e.new (made fs op.result ++ made_inside fs op.outs) (node.Group (r.id ∷ e.ids)) Plain (answer_of fs op) e.is g fits
    (st.below, e.there.below) tt
    (answer_by r.new e.new (made_inside fs op.outs) op r.id e.ids (r.id ∷ e.ids) fs e.grows r.there e.there refl)

draw_raises : (rs : List PlainRaise) (j : ℕ) (fs : List Face) (s : Sketch) → IsSketch s → known s ≡ fs
    → AllByRecursion (λ r. IsTrue (is_drawable (length fs) (exception r))) rs → Fits s (made_raised fs rs)
    → DrawsArms s (made_raised fs rs) (raised fs j rs)
draw_raises [] j fs s is k d fits =
    record { new = s; arms = []; last = None; is = is; grows = grows_none s; there = record { below = tt; other = tt; are = refl } }
draw_raises (x ∷ rs) j fs s is k d fits =
    let r = draw (exception x) fs s is k d.0 (fits_first s (made fs (exception x)) (made_raised fs rs) fits) in
    let e = draw_raises rs (suc j) fs r.new r.is (r.grows.types ∙ k) d.1
    (fits_rest s r.new (made fs (exception x)) (made_raised fs rs) r.grows fits) in
    let st = drawn_stays r.new e.new (made_raised fs rs) r.id (face_of fs (exception x)) e.grows r.there in
    record {
      new = e.new;
      arms = (pos j, r.id) ∷ e.arms;
      last = e.last;
      is = e.is;
      grows = grows_twice s r.new e.new (made fs (exception x)) (made_raised fs rs) r.grows e.grows;
      there = record {
        below = (st.below, e.there.below);
        other = e.there.other;
        are = ap (λ z. arm (pos j) z (arms_at (drawn e.new) e.arms e.last)) st.is ∙ ap (arm (pos j) (face_of fs (exception x))) e.there.are;
      };
    }

draw_reply : (op : PlainOperation) (fs : List Face) (s : Sketch) → IsSketch s → known s ≡ fs → IsDrawableOperation (length fs) op
    → Fits s (made_reply fs op) → Draws s (made_reply fs op) (reply_of fs op)
draw_reply op fs s is k d fits =
    let inner = fits_first s (made_answer fs op ++ made_raised fs op.raises) (reply_of fs op ∷ []) fits in
    let r = draw_answer op fs s is k d (fits_first s (made_answer fs op) (made_raised fs op.raises) inner) in
    let e = draw_raises op.raises 1 fs r.new r.is (r.grows.types ∙ k) d.raises
    (fits_rest s r.new (made_answer fs op) (made_raised fs op.raises) r.grows inner) in
    let st = drawn_stays r.new e.new (made_raised fs op.raises) r.id (answer_of fs op) e.grows r.there in
    let g = grows_twice s r.new e.new (made_answer fs op) (made_raised fs op.raises) r.grows e.grows in
    push_after s e.new (made_answer fs op ++ made_raised fs op.raises) (node.Choice (tag.Num kind.U32) ((pos 0, r.id) ∷ e.arms) e.last)
    Plain (reply_of fs op) e.is g fits
    ((st.below, e.there.below), e.there.other) tt
    (ap (λ z. choice (number kind.U32) (arm (pos 0) z (arms_at (drawn e.new) e.arms e.last))) st.is ∙ ap (λ z.
    choice (number kind.U32) (arm (pos 0) (answer_of fs op) z)) e.there.are)

-- ---- operations

placed_both : (n : ℕ) (os ps : List Op) → AllByRecursion (λ (o : Op). (o.request < n) × (o.reply < n)) os
    → AllByRecursion (λ (o : Op). (o.request < n) × (o.reply < n)) ps
    → AllByRecursion (λ (o : Op). (o.request < n) × (o.reply < n)) (os ++ ps)
placed_both n [] ps h k = k
placed_both n (o ∷ os) ps h k = (h.0, placed_both n os ps h.1 k)

offered_both : (old new : Sketch) (more : List Face) (os ps : List Op) (fs gs : List Offer) → Grows old new more → AreOffered old os fs
    → AreOffered new ps gs → AreOffered new (os ++ ps) (fs ++ gs)
offered_both old new more os ps fs gs g h k = record {
  placed =
      placed_both (length (drawn new)) os ps
      (placed_more (length (drawn old)) (length (drawn new)) os (omega (arith, longer old new more g)) h.placed) k.placed;
  are =
      map-append (offer_at (drawn new)) os ps
      ∙ ap (λ z.
      z ++ map (offer_at (drawn new)) ps) (ap (λ z. map (offer_at z) os) g.nodes ∙ offers_stay (drawn old) more os h.placed ∙ h.are)
      ∙ ap (λ z. fs ++ z) k.are;
}

no_operations : (s : Sketch) → IsSketch s → DrawsOps s [] []
no_operations s is = record { new = s; ops = []; is = is; grows = grows_none s; there = record { placed = tt; are = refl } }

draw_both : (s : Sketch) (xs ys : List Face) (fs gs : List Offer) (a : DrawsOps s xs fs) → DrawsOps a.new ys gs
    → DrawsOps s (xs ++ ys) (fs ++ gs)
draw_both s xs ys fs gs a b = record {
  new = b.new;
  ops = a.ops ++ b.ops;
  is = b.is;
  grows = grows_twice s a.new b.new xs ys a.grows b.grows;
  there = offered_both a.new b.new ys a.ops b.ops fs gs b.grows a.there b.there;
}

draw_operation : (op : PlainOperation) (b : Back) (j : ℕ) (fs : List Face) (s : Sketch) → IsSketch s → known s ≡ fs
    → IsDrawableOperation (length fs) op → Fits s (made_request fs op ++ made_reply fs op)
    → DrawsOps s (made_request fs op ++ made_reply fs op) (offer fs b j op ∷ [])
draw_operation op b j fs s is k d fits =
    let q = draw_request op fs s is k d (fits_first s (made_request fs op) (made_reply fs op) fits) in
    let p = draw_reply op fs q.new q.is (q.grows.types ∙ k) d (fits_rest s q.new (made_request fs op) (made_reply fs op) q.grows fits) in
    let st = drawn_stays q.new p.new (made_reply fs op) q.id (request_of fs op) p.grows q.there in
    let o : Op = record { interface = j; name = op.name; request = q.id; reply = p.id; has_reply = is_answered b op } in
    record {
      new = p.new;
      ops = o ∷ [];
      is = p.is;
      grows = grows_twice s q.new p.new (made_request fs op) (made_reply fs op) q.grows p.grows;
      there = record { placed = ((st.below, p.there.below), tt); are = rw (st.is, p.there.is) refl };
    }

draw_operations : (ops : List PlainOperation) (b : Back) (j : ℕ) (fs : List Face) (s : Sketch) → IsSketch s → known s ≡ fs
    → AllByRecursion (IsDrawableOperation (length fs)) ops → Fits s (made_by fs ops)
    → DrawsOps s (made_by fs ops) (map (offer fs b j) ops)
draw_operations [] b j fs s is k d fits = no_operations s is
draw_operations (op ∷ ops) b j fs s is k d fits =
    let one : List Face = made_request fs op ++ made_reply fs op in
    let a = draw_operation op b j fs s is k d.0 (fits_first s one (made_by fs ops) fits) in
    let e = draw_operations ops b j fs a.new a.is (a.grows.types ∙ k) d.1 (fits_rest s a.new one (made_by fs ops) a.grows fits) in
    draw_both s one (made_by fs ops) (offer fs b j op ∷ []) (map (offer fs b j) ops) a e

gotten_drawable : (n : ℕ) (b : Back) (i : PlainInterface) → AllByRecursion (IsDrawableOperation n) (gotten b i)
gotten_drawable n b i = by (gets_null b i) where
  by : (t : Bool) → AllByRecursion (IsDrawableOperation n) (if t then null_operation ∷ [] else [])
  by true = (record { ins = refl; outs = refl; result = refl; raises = tt }, tt)
  by false = tt

-- the same nodes for offers that are the same
offers_as : (s : Sketch) (more : List Face) (fs gs : List Offer) → fs ≡ gs → DrawsOps s more fs → DrawsOps s more gs
offers_as s more fs gs same d =
    record { new = d.new; ops = d.ops; is = d.is; grows = d.grows; there = subst (AreOffered d.new d.ops) same d.there }

draw_interface : (i : PlainInterface) (b : Back) (j : ℕ) (fs : List Face) (s : Sketch) → IsSketch s → known s ≡ fs
    → IsDrawableInterface (length fs) i → Fits s (made_by fs i.ops ++ made_by fs (gotten b i))
    → DrawsOps s (made_by fs i.ops ++ made_by fs (gotten b i)) (map (offer fs b j) (operations b i))
draw_interface i b j fs s is k d fits =
    let own : List Face = made_by fs i.ops in
    let got : List Face = made_by fs (gotten b i) in
    let a = draw_operations i.ops b j fs s is k d (fits_first s own got fits) in
    let e = draw_operations (gotten b i) b j fs a.new a.is (a.grows.types ∙ k) (gotten_drawable (length fs) b i)
    (fits_rest s a.new own got a.grows fits) in
    offers_as s (own ++ got) _ _ (sym (map-append (offer fs b j) i.ops (gotten b i)))
    (draw_both s own got (map (offer fs b j) i.ops) (map (offer fs b j) (gotten b i)) a e)

pub draw_interfaces : (is : List PlainInterface) (b : Back) (j : ℕ) (fs : List Face) (s : Sketch) → IsSketch s → known s ≡ fs
    → AllByRecursion (IsDrawableInterface (length fs)) is → Fits s (made_in_interfaces fs b is)
    → DrawsOps s (made_in_interfaces fs b is) (offers_from fs b j is)
draw_interfaces [] b j fs s sound k d fits = no_operations s sound
draw_interfaces (i ∷ is) b j fs s sound k d fits =
    let one : List Face = made_by fs i.ops ++ made_by fs (gotten b i) in
    let a = draw_interface i b j fs s sound k d.0 (fits_first s one (made_in_interfaces fs b is) fits) in
    let e = draw_interfaces is b (suc j) fs a.new a.is (a.grows.types ∙ k) d.1
    (fits_rest s a.new one (made_in_interfaces fs b is) a.grows fits) in
    draw_both s one (made_in_interfaces fs b is) (map (offer fs b j) (operations b i)) (offers_from fs b (suc j) is) a e

-- ---- named types

-- the nodes of types after others
pub record DrawsTypes (s : Sketch) (more gs : List Face) : Type 0 where
  pub new : Sketch
  pub is : IsSketch new
  pub nodes : drawn new ≡ drawn s ++ more
  pub types : known new ≡ gs

pub draw_types : (ss : List aoi.Shape) (fs : List Face) (s : Sketch) → IsSketch s → known s ≡ fs → AreDrawable (length fs) ss
    → Fits s (made_in_types fs ss) → DrawsTypes s (made_in_types fs ss) (faces_of fs ss)
draw_types [] fs s is k d fits = record { new = s; is = is; nodes = sym (append-nil (drawn s)); types = k }
draw_types (x ∷ ss) fs s is k d fits =
    let more : List Face = fs ++ face_of fs x ∷ [] in
    let r = draw x fs s is k d.0 (fits_first s (made fs x) (made_in_types more ss) fits) in
    let t : Sketch = sketch r.new.nodes r.new.shapes (r.new.types ++ r.id ∷ []) in
    let same : drawn t ≡ drawn r.new = named_drawn r.new r.id in
    let names : known t ≡ more = named_known r.new r.id
    ∙ ap (λ z. z ++ at (drawn r.new) r.id ∷ []) (r.grows.types ∙ k) ∙ ap (λ z. fs ++ z ∷ []) r.there.is in
    let count : suc (length fs) ≡ length more = omega (arith, length-append fs (face_of fs x ∷ [])) in
    let room : Fits t (made_in_types more ss) =
    omega (arith, fits_rest s r.new (made fs x) (made_in_types more ss) r.grows fits, ap length same) in
    let e = draw_types ss more t (sketch_name r.new r.id r.is r.there.below) names (subst (λ n. AreDrawable n ss) count d.1) room in
    record {
      new = e.new;
      is = e.is;
      nodes =
          e.nodes
          ∙ ap (λ z. z ++ made_in_types more ss) (same ∙ r.grows.nodes) ∙ append_assoc (drawn s) (made fs x) (made_in_types more ss);
      types = e.types;
    }
