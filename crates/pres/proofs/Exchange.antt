-- Requests and replies that are drawn, by induction on the arms and on the operations.
use Rattle.std.proofs.Common.{◌≡◌, IsTrue, true, ℕ, suc, ◌+◌, ◌<◌, ◌≤◌, ℤ, pos, List, [], ◌∷◌, ◌++◌, map, length, get_or, drop, None, refl, sym, ap, ◌∙◌, subst, length-append, append_assoc, append-nil, arith}
use Rattle.std.specs.List.{AllByRecursion}
use Rattle.std.proofs.Math.ListN.{get_or-append}
use Rattle.std.proofs.Math.Seq.{drop-cons}
use Rattle.std.proofs.lemmas.List.{map-append}
use Rattle.mint.specs.Types.{ArmsBelow}
use Rattle.aoi.specs.declared.interfaces.Operation.{Operation}
use Rattle.aoi.specs.declared.interfaces.Raise.{Raise}
use Rattle.aoi.specs.Plain.{PlainOperation, PlainInterface, plain_raise, plain_operation}
use Rattle.wire_def.specs.declared.encoding.Back.{Back}
use Rattle.pres.specs.declared.ops.Op.{Op}
use Rattle.pres.specs.Faces.{Face, nothing, values, Arms, no_other, other, arm, at, parts_at, arms_at}
use Rattle.pres.specs.Made.{made, made_request, made_raised, made_reply, made_by}
use Rattle.pres.specs.Offers.{Offer, face_of, parts_of, unnamed, exception, answer_of, raised, offer, offer_at, gets_null, gotten, null_operation}
use Rattle.pres.specs.Drafts.{Sketch, drawn, Grows, IsDrawn, AreDrawn, AreArms, is_drawable, faces_inside, IsDrawableOperation, IsOffered, AreOffered}
use Rattle.pres.proofs.Drafting.{drawn_stays}
use Rattle.pres.proofs.Drawn.{with_end, arms_stay, unnamed_by}

-- ---- an answer

pub answer_by : (a s : Sketch) (more : List Face) (op : PlainOperation) (id : ℕ) (outs ids : List ℕ) (fs : List Face)
    → Grows a s more → IsDrawn a id (face_of fs op.result) → AreDrawn s outs (faces_inside fs op.outs) → ids ≡ id ∷ outs
    → values (parts_at (drawn s) [] ids) ≡ answer_of fs op
answer_by a s more op id outs ids fs g d ds is =
    let first : at (drawn s) id ≡ face_of fs op.result = (drawn_stays a s more id _ g d).is in
    let rest : parts_at (drawn s) [] outs ≡ unnamed (parts_of fs op.outs) = unnamed_by (drawn s) fs outs op.outs ds.are in
    rw (is, first, rest) refl

-- ---- exceptions

cut_raises : (rs : List Raise) (i : ℕ) (r : Raise) → i < length rs → r ≡ get_or rs i r → drop i rs ≡ r ∷ drop (i + 1) rs
cut_raises rs i r lt is =
    let next : i + 1 ≡ suc i = omega arith in
    rw next (drop-cons rs i r lt ∙ ap (λ z. z ∷ drop (suc i) rs) (sym is))

with_one : (x : Arms) (n : ℤ) (f : Face) (d : Arms) → with_end (with_end x (arm n f no_other)) d ≡ with_end x (arm n f d)
with_one (arm m g arms) n f d = ap (arm m g) (with_one arms n f d)
with_one no_other n f d = refl
with_one (other g) n f d = refl

arms_at-push : (fs : List Face) (arms : List (ℤ × ℕ)) (a : ℤ × ℕ)
    → arms_at fs (arms ++ a ∷ []) None ≡ with_end (arms_at fs arms None) (arm a.0 (at fs a.1) no_other)
arms_at-push fs [] a = refl
arms_at-push fs (b ∷ arms) a = ap (arm b.0 (at fs b.1)) (arms_at-push fs arms a)

arms_below_push : (n : ℕ) (arms : List (ℤ × ℕ)) (a : ℤ × ℕ) → ArmsBelow n arms → a.1 < n → ArmsBelow n (arms ++ a ∷ [])
arms_below_push n [] a below h = (h, tt)
arms_below_push n (b ∷ arms) a below h = (below.0, arms_below_push n arms a below.1 h)

pub raise_left : (n : ℕ) (rs : List Raise) (i : ℕ) (r : Raise) → i < length rs → r ≡ get_or rs i r
    → AllByRecursion (λ r. IsTrue (is_drawable n (exception r))) (map plain_raise (drop i rs))
    → IsTrue (is_drawable n (exception (plain_raise r)))
    × AllByRecursion (λ r. IsTrue (is_drawable n (exception r))) (map plain_raise (drop (i + 1) rs))
raise_left n rs i r lt is h = rw (cut_raises rs i r lt is) at h

pub raise_nodes : (fs : List Face) (rs : List Raise) (i : ℕ) (r : Raise) (mid new all : List Face) → i < length rs → r ≡ get_or rs i r
    → mid ++ made_raised fs (map plain_raise (drop i rs)) ≡ all → new ≡ mid ++ made fs (exception (plain_raise r))
    → new ++ made_raised fs (map plain_raise (drop (i + 1) rs)) ≡ all
raise_nodes fs rs i r mid new all lt is h new_is =
    ap (λ z.
    z ++ made_raised fs (map plain_raise (drop (i + 1) rs))) new_is
    ∙ append_assoc mid (made fs (exception (plain_raise r))) (made_raised fs (map plain_raise (drop (i + 1) rs)))
    ∙ (rw (cut_raises rs i r lt is) at h)

-- the arms so far, and those of the exceptions left
pub record AreSoFar (s : Sketch) (arms : List (ℤ × ℕ)) (rest all : Arms) : Type 0 where
  pub below : ArmsBelow (length (drawn s)) arms
  pub are : with_end (arms_at (drawn s) arms None) rest ≡ all

pub raise_arms : (fs : List Face) (rs : List Raise) (i : ℕ) (r : Raise) (mid new : Sketch) (more : List Face)
    (arms arms' : List (ℤ × ℕ)) (n : ℤ) (id : ℕ) (all : Arms)
    → i < length rs → r ≡ get_or rs i r → Grows mid new more → IsDrawn new id (face_of fs (exception (plain_raise r)))
    → n ≡ pos (1 + i) → arms' ≡ arms ++ (n, id) ∷ [] → AreSoFar mid arms (raised fs (1 + i) (map plain_raise (drop i rs))) all
    → AreSoFar new arms' (raised fs (1 + (i + 1)) (map plain_raise (drop (i + 1) rs))) all
raise_arms fs rs i r mid new more arms arms' n id all lt is g d n_is arms_are so =
    let still = arms_stay mid new more arms None _ g (record { below = so.below; other = tt; are = refl }) in
    let next : suc (1 + i) ≡ 1 + (i + 1) = omega arith in
    let rest : Arms = raised fs (1 + (i + 1)) (map plain_raise (drop (i + 1) rs)) in
    let cut : raised fs (1 + i) (map plain_raise (drop i rs)) ≡ arm (pos (1 + i)) (face_of fs (exception (plain_raise r))) rest =
    ap (λ z. raised fs (1 + i) (map plain_raise z)) (cut_raises rs i r lt is) ∙ ap (λ k.
    arm (pos (1 + i)) (face_of fs (exception (plain_raise r))) (raised fs k (map plain_raise (drop (i + 1) rs)))) next in
    let old : with_end (arms_at (drawn mid) arms None) (arm (pos (1 + i)) (face_of fs (exception (plain_raise r))) rest)
    ≡ all = ap (with_end (arms_at (drawn mid) arms None)) (sym cut) ∙ so.are in
    let grown : arms_at (drawn new) arms' None
    ≡ with_end (arms_at (drawn mid) arms None) (arm (pos (1 + i)) (face_of fs (exception (plain_raise r))) no_other) =
    ap (λ z. arms_at (drawn new) z None) arms_are ∙ arms_at-push (drawn new) arms (n, id)
    ∙ ap (λ z. with_end z (arm n (at (drawn new) id) no_other)) still.are
    ∙ ap (λ z. with_end (arms_at (drawn mid) arms None) (arm n z no_other)) d.is
    ∙ ap (λ z. with_end (arms_at (drawn mid) arms None) (arm z (face_of fs (exception (plain_raise r))) no_other)) n_is in
    record {
      below = subst (ArmsBelow (length (drawn new))) (sym arms_are) (arms_below_push (length (drawn new)) arms (n, id) still.below d.below);
      are =
          ap (λ z.
          with_end z rest) grown ∙ with_one (arms_at (drawn mid) arms None) (pos (1 + i)) (face_of fs (exception (plain_raise r))) rest
          ∙ old;
    }

ends_none : (fs : List Face) (arms : List (ℤ × ℕ)) → with_end (arms_at fs arms None) no_other ≡ arms_at fs arms None
ends_none fs [] = refl
ends_none fs (a ∷ arms) = ap (arm a.0 (at fs a.1)) (ends_none fs arms)

pub raises_end : (s : Sketch) (arms : List (ℤ × ℕ)) (all : Arms) → AreSoFar s arms no_other all → AreArms s arms None all
raises_end s arms all so = record { below = so.below; other = tt; are = sym (ends_none (drawn s) arms) ∙ so.are }

-- ---- operations

-- operations that are offers, and the offers left
pub record AreListed (s : Sketch) (os : List Op) (rest all : List Offer) : Type 0 where
  pub placed : AllByRecursion (λ (o : Op). (o.request < length (drawn s)) × (o.reply < length (drawn s))) os
  pub are : map (offer_at (drawn s)) os ++ rest ≡ all

cut_ops : (ops : List Operation) (i : ℕ) (op : Operation) → i < length ops → op ≡ get_or ops i op → drop i ops ≡ op ∷ drop (i + 1) ops
cut_ops ops i op lt is =
    let next : i + 1 ≡ suc i = omega arith in
    rw next (drop-cons ops i op lt ∙ ap (λ z. z ∷ drop (suc i) ops) (sym is))

pub op_left : (n : ℕ) (ops : List Operation) (i : ℕ) (op : Operation) → i < length ops → op ≡ get_or ops i op
    → AllByRecursion (IsDrawableOperation n) (map plain_operation (drop i ops))
    → IsDrawableOperation n (plain_operation op) × AllByRecursion (IsDrawableOperation n) (map plain_operation (drop (i + 1) ops))
op_left n ops i op lt is h = rw (cut_ops ops i op lt is) at h

pub op_nodes : (fs : List Face) (ops : List Operation) (i : ℕ) (op : Operation) (mid new all : List Face)
    → i < length ops → op ≡ get_or ops i op → mid ++ made_by fs (map plain_operation (drop i ops)) ≡ all
    → new ≡ mid ++ (made_request fs (plain_operation op) ++ made_reply fs (plain_operation op))
    → new ++ made_by fs (map plain_operation (drop (i + 1) ops)) ≡ all
op_nodes fs ops i op mid new all lt is h new_is =
    ap (λ z.
    z ++ made_by fs (map plain_operation (drop (i + 1) ops))) new_is
    ∙ append_assoc mid (made_request fs (plain_operation op) ++ made_reply fs (plain_operation op))
    (made_by fs (map plain_operation (drop (i + 1) ops))) ∙ (rw (cut_ops ops i op lt is) at h)

pub placed_more : (n m : ℕ) (os : List Op) → n ≤ m → AllByRecursion (λ (o : Op). (o.request < n) × (o.reply < n)) os
    → AllByRecursion (λ (o : Op). (o.request < m) × (o.reply < m)) os
placed_more n m [] le h = tt
placed_more n m (o ∷ os) le h = ((omega (arith, h.0.0, le), omega (arith, h.0.1, le)), placed_more n m os le h.1)

placed_push : (n : ℕ) (os : List Op) (o : Op) → AllByRecursion (λ (o : Op). (o.request < n) × (o.reply < n)) os
    → o.request < n → o.reply < n
    → AllByRecursion (λ (o : Op). (o.request < n) × (o.reply < n)) (os ++ o ∷ [])
placed_push n [] o h a b = ((a, b), tt)
placed_push n (p ∷ os) o h a b = (h.0, placed_push n os o h.1 a b)

pub offers_stay : (fs more : List Face) (os : List Op) → AllByRecursion (λ (o : Op). (o.request < length fs) × (o.reply < length fs)) os
    → map (offer_at (fs ++ more)) os ≡ map (offer_at fs) os
offers_stay fs more [] h = refl
offers_stay fs more (o ∷ os) h =
    rw (get_or-append fs more nothing o.request h.0.0, get_or-append fs more nothing o.reply h.0.1, offers_stay fs more os h.1) refl

pub listed_stay : (mid new : Sketch) (more : List Face) (os : List Op) (rest all : List Offer) → Grows mid new more
    → AreListed mid os rest all
    → AreListed new os rest all
listed_stay mid new more os rest all g l =
    let longer : length (drawn new) ≡ length (drawn mid) + length more = ap length g.nodes ∙ length-append (drawn mid) more in
    record {
      placed = placed_more (length (drawn mid)) _ os (omega (arith, longer)) l.placed;
      are = ap (λ z. map (offer_at z) os ++ rest) g.nodes ∙ ap (λ z. z ++ rest) (offers_stay (drawn mid) more os l.placed) ∙ l.are;
    }

pub listed_push : (s : Sketch) (os os' : List Op) (o : Op) (f : Offer) (rest all : List Offer) → os' ≡ os ++ o ∷ []
    → IsOffered s o f → AreListed s os (f ∷ rest) all
    → AreListed s os' rest all
listed_push s os os' o f rest all is d l = record {
  placed =
      subst
      (AllByRecursion
      (λ (o : Op).
      (o.request < length (drawn s)) × (o.reply < length (drawn s)))) (sym is)
      (placed_push (length (drawn s)) os o l.placed d.request d.reply);
  are = ap (λ z. map (offer_at (drawn s)) z ++ rest) is ∙ ap (λ z. z ++ rest) (map-append (offer_at (drawn s)) os (o ∷ []))
      ∙ append_assoc (map (offer_at (drawn s)) os) (offer_at (drawn s) o ∷ []) rest
      ∙ ap (λ z. map (offer_at (drawn s)) os ++ z ∷ rest) d.is ∙ l.are;
}

pub op_listed : (fs : List Face) (b : Back) (k : ℕ) (ops : List Operation) (i : ℕ) (op : Operation) (mid new : Sketch)
    (more : List Face) (os os' : List Op) (o : Op) (all : List Offer)
    → i < length ops → op ≡ get_or ops i op → Grows mid new more → IsOffered new o (offer fs b k (plain_operation op))
    → os' ≡ os ++ o ∷ [] → AreListed mid os (map (offer fs b k) (map plain_operation (drop i ops))) all
    → AreListed new os' (map (offer fs b k) (map plain_operation (drop (i + 1) ops))) all
op_listed fs b k ops i op mid new more os os' o all lt is g d os_is l =
    let cut : map (offer fs b k) (map plain_operation (drop i ops)) ≡ offer fs b k (plain_operation op)
    ∷ map (offer fs b k) (map plain_operation (drop (i + 1) ops)) =
    ap (λ z. map (offer fs b k) (map plain_operation z)) (cut_ops ops i op lt is) in
    listed_push new os os' o (offer fs b k (plain_operation op)) _ all os_is d
    (listed_stay mid new more os _ all g (subst (λ z. AreListed mid os z all) cut l))

pub listed_none : (s : Sketch) (os : List Op) (all : List Offer) → AreListed s os [] all → AreOffered s os all
listed_none s os all l = record { placed = l.placed; are = sym (append-nil (map (offer_at (drawn s)) os)) ∙ l.are }

pub one_gotten : (b : Back) (i : PlainInterface) (fs : List Face) (k : ℕ) (old new : Sketch) (more : List Face)
    (os os' : List Op) (o : Op) (op : PlainOperation)
    → true ≡ gets_null b i → AreOffered old os (map (offer_at (drawn old)) os) → Grows old new more
    → op ≡ null_operation → IsOffered new o (offer fs b k op) → os' ≡ os ++ o ∷ []
    → AreOffered new os' (map (offer_at (drawn old)) os ++ map (offer fs b k) (gotten b i))
one_gotten b i fs k old new more os os' o op gets l g op_is d os_is =
    let yes : gets_null b i ≡ true = sym gets in
    let got : map (offer fs b k) (gotten b i) ≡ offer fs b k op ∷ [] = rw (yes, op_is) refl in
    let first : AreListed old os (offer fs b k op ∷ []) (map (offer_at (drawn old)) os ++ map (offer fs b k) (gotten b i)) =
    record { placed = l.placed; are = ap (λ z. map (offer_at (drawn old)) os ++ z) (sym got) } in
    listed_none new os' _ (listed_push new os os' o (offer fs b k op) [] _ os_is d (listed_stay old new more os _ _ g first))
