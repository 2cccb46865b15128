-- One more arm before the others.
use Rattle.std.proofs.Common.{◌≡◌, ℕ, zero, suc, ◌<◌, ℤ, List, [], ◌∷◌, length, get_or, drop, Option, Some, slice_get, sym, ap, ◌∙◌, arith}
use Rattle.std.proofs.Math.Seq.{drop-cons}
use Rattle.mint.specs.declared.node.Node.{Node}
use Rattle.mint.specs.Types.{arms_at, type_at, unfolded, ArmsBelow}
use Rattle.wire_def.specs.declared.encoding.Encoding.{Encoding}
use Rattle.storage_class.specs.declared.span.Span.{Span}
use Rattle.storage_class.specs.Classing.{either}
use Rattle.storage_class.specs.Spans.{span, arms_span, AreSpans}

arm_below : (k : ℕ) (arms : List (ℤ × ℕ)) (i : ℕ) (d : ℤ × ℕ) → ArmsBelow k arms → i < length arms → (get_or arms i d).1 < k
arm_below k [] i d h j = absurd (omega arith)
arm_below k (a ∷ arms) zero d h j = h.0
arm_below k (a ∷ arms) (suc i) d h j = arm_below k arms i d h.1 (omega arith)

some_same : (x y : Span) → Some x ≡ Some y → x ≡ y
some_same x y h = cc

-- the span of an arm and those after it
pub arm_before : (e : Encoding) (nodes : List Node) (known : List Span) (arms : List (ℤ × ℕ)) (o : Option ℕ) (i : ℕ) (d : ℤ × ℕ)
    (s rest : Span) → ArmsBelow (length known) arms → AreSpans e nodes known → i < length arms
    → slice_get known (get_or arms i d).1 ≡ Some s → rest ≡ arms_span e (arms_at (unfolded nodes) (drop (suc i) arms) o)
    → either s rest ≡ arms_span e (arms_at (unfolded nodes) (drop i arms) o)
arm_before e nodes known arms o i d s rest below are h is after =
    let same : s ≡ span e (type_at nodes (get_or arms i d).1) =
    some_same s _ (sym is ∙ are (get_or arms i d).1 (arm_below (length known) arms i d below h)) in
    let one = ap (λ z. arms_span e (arms_at (unfolded nodes) z o)) (drop-cons arms i d h) in
    ap (λ z. either z rest) same ∙ ap (λ z. either (span e (type_at nodes (get_or arms i d).1)) z) after ∙ sym one
