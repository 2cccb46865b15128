-- Nodes of parts, and bounds of operations before others.
use Rattle.std.proofs.Common.{◌≡◌, ℕ, zero, suc, ◌<◌, ℤ, List, [], ◌∷◌, length, drop, get_or, Option, Some, None, option_map, refl, sym, ap, ◌∙◌, Bool, true, false, if◌then◌else◌}
use Rattle.std.specs.Prelude.{slice_get}
use Rattle.std.proofs.Math.Seq.{drop-cons}
use Rattle.std.specs.Ordering.{int_eq}
use Rattle.mint.specs.declared.kind.Count.{Count}
use Rattle.mint.specs.Types.{arms_at as arms_at_nodes}
use Rattle.mint.specs.Types.{Scalar, Ty, scalar_type, at, fields_at}
use Rattle.cast_stub.specs.declared.send.SendOp.{SendOp}
use Rattle.cast_stub.specs.declared.send.SendOp.TheVariants as op
use Rattle.cast_stub.specs.Parts.{on_some}
use Rattle.cast_stub.specs.Block.{Block, Piece, op_seen, code_seen, cases_seen}
use Rattle.cast_stub.specs.PartTypes.{field_type, element_at, present_at, arms_at}
use Rattle.cast_stub.proofs.Codes.{code-drop}
use Rattle.cast_stub.proofs.Pieces.{pieces, seen-Switch}
use Rattle.hoist.specs.Bound.{plus, greater, bound, cases_bound}
use Rattle.hoist.proofs.Bounds.{none_more}

abbrev pair : Ty → Count → Ty × Count
pair t n = (t, n)

pub field-at : (us : List Ty) (ids : List ℕ) (n : ℕ) → field_type n (fields_at us ids) ≡ option_map (at us) (slice_get ids n)
field-at us [] n = refl
field-at us (i ∷ ids) zero = refl
field-at us (i ∷ ids) (suc n) = field-at us ids n

-- no part of a number has elements, arms or a value
pub no-elements : (p : List ℕ) (s : Scalar) → element_at p (scalar_type s) ≡ None
no-elements [] s = refl
no-elements (n ∷ p) s = refl

pub no-value : (p : List ℕ) (s : Scalar) → present_at p (scalar_type s) ≡ None
no-value [] s = refl
no-value (n ∷ p) s = refl

pub no-arms : (p : List ℕ) (s : Scalar) → arms_at p (scalar_type s) ≡ None
no-arms [] s = refl
no-arms (n ∷ p) s = refl

pub ruleset nodes = (field-at, no-elements, no-value, no-arms, code-drop, none_more, pieces)

-- ---- arms and bodies in step

pub uneven : (us : List Ty) (arms : List (ℤ × ℕ)) (o : Option ℕ) (bodies : List (ℤ × List SendOp)) (last : Option (List SendOp))
    → (length arms ≡ length bodies → ⊥)
    → None ≡ cases_bound (arms_at_nodes us arms o) (cases_seen bodies last)
uneven us [] o [] last h = absurd (h refl)
uneven us [] None (c ∷ bodies) last h = refl
uneven us [] (Some i) (c ∷ bodies) last h = refl
uneven us (a ∷ arms) o [] None h = refl
uneven us (a ∷ arms) o [] (Some b) h = refl
uneven us (a ∷ arms) o (c ∷ bodies) last h = neither (int_eq a.0 c.0) (bound (at us a.1) (code_seen c.1))
    ∙ ap (λ (x : Option ℕ). if int_eq a.0 c.0 then greater (bound (at us a.1) (code_seen c.1)) x else None)
    (uneven us arms o bodies last (λ e. h (ap suc e))) where
      neither : (q : Bool) (x : Option ℕ) → None ≡ (if q then greater x None else None)
      neither true None = refl
      neither true (Some n) = refl
      neither false x = refl

pub arm_before : (us : List Ty) (arms : List (ℤ × ℕ)) (o : Option ℕ) (bodies : List (ℤ × List SendOp)) (last : Option (List SendOp)) (i : ℕ)
    (d : ℤ × ℕ) (d' : ℤ × List SendOp) (n rest : Option ℕ) → i < length arms → i < length bodies
    → rest ≡ cases_bound (arms_at_nodes us (drop (suc i) arms) o) (cases_seen (drop (suc i) bodies) last)
    → n ≡ (if int_eq (get_or arms i d).0 (get_or bodies i d').0
    then greater (bound (at us (get_or arms i d).1) (code_seen (get_or bodies i d').1)) rest
    else None)
    → n ≡ cases_bound (arms_at_nodes us (drop i arms) o) (cases_seen (drop i bodies) last)
arm_before us arms o bodies last i d d' n rest h k after is =
    is ∙ ap (λ (x : Option ℕ). if int_eq (get_or arms i d).0 (get_or bodies i d').0
    then greater (bound (at us (get_or arms i d).1) (code_seen (get_or bodies i d').1)) x
    else None) after
    ∙ sym (ap (λ (l : List (ℤ × ℕ)). cases_bound (arms_at_nodes us l o) (cases_seen (drop i bodies) last)) (drop-cons arms i d h)
    ∙ ap (λ (l : List (ℤ × List SendOp)). cases_bound (arms_at_nodes us (get_or arms i d ∷ drop (suc i) arms) o) (cases_seen l last))
    (drop-cons bodies i d' k))

-- a switch before others
pub switch_turn : (t : Ty) (o : SendOp) (path : List ℕ) (cases : List (ℤ × List SendOp)) (other : Option (List SendOp)) (n : Option ℕ)
    → o ≡ op.Switch path cases other → n ≡ on_some (arms_at path t) (λ arms. cases_bound arms (cases_seen cases other)) → (r : Block)
    → bound t (op_seen o r) ≡ plus n (bound t r)
switch_turn t o path cases other n is same r =
    ap (λ (p : Piece). bound t (p r)) (ap op_seen is ∙ seen-Switch path cases other) ∙ ap (λ (x : Option ℕ). plus x (bound t r)) (sym same)
