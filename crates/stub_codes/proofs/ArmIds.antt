-- The arms of a reply above 0 are as many as its operation's exceptions, and over CDR as their ids, by induction on the
-- interfaces.
use Rattle.std.proofs.Common.{◌≡◌, ◌<◌, ◌≤◌, ℕ, zero, suc, List, [], ◌∷◌, ◌++◌, map, length, Option, Some, None, refl, sym, ap, ◌∙◌, arith}
use Rattle.std.specs.Prelude.{slice_get, slice_index_or, option_map}
use Rattle.std.proofs.lemmas.List.{map-append, length-map}
use Rattle.std.proofs.lemmas.Option.{slice_get-map}
use Rattle.std.proofs.lemmas.Simd.{map-map}
use Rattle.wire_def.specs.declared.encoding.Back.{Back}
use Rattle.aoi.specs.Plain.{PlainRaise, PlainInterface, PlainOperation}
use Rattle.pres.specs.Bindings.{Binding, IsBinding}
use Rattle.pres.specs.Offers.{operations, type_faces}
use Rattle.pres.specs.Raises.{raises_of, sources, sources_of}
use Rattle.head_arms.specs.Raised.{exceptions}
use Rattle.head_arms.proofs.Raising.{made_of, raises_made, all_made_of}
use Rattle.head_arms.proofs.Raising as raising
use Rattle.back_cdr.specs.Targets.{IsCdr, Target, no_target, target_in, targets_in, targets, target_of}
use Rattle.back_cdr.proofs.Counting.{own_alone}
use Rattle.stub_codes.specs.Operations.{operations_in, IsOperation}
use Rattle.stub_codes.specs.Replies.{reply_type, HasArm}
use Rattle.stub_codes.proofs.Numbering.{few_arms}
use Rattle.stub_codes.proofs.ReplyTypes.{are_the_replies}

-- ---- the exceptions of an operation

abbrev raises_in : PlainInterface × PlainOperation → List PlainRaise
raises_in q = q.1.raises

raises_each : (xs : List (Option PlainOperation)) → map raises_of xs ≡ map (λ (p : PlainOperation). p.raises) (map made_of xs)
raises_each [] = refl
raises_each (x ∷ xs) =
    ap (λ (r : List PlainRaise). r ∷ map raises_of xs) (raises_made x)
    ∙ ap (λ (l : List (List PlainRaise)). (made_of x).raises ∷ l) (raises_each xs)

raises_first : (k : Back) (i : PlainInterface)
    → map raises_of (sources_of k i) ≡ map raises_in (map (λ (p : PlainOperation). (i, p)) (operations k i))
raises_first k i =
    raises_each (sources_of k i) ∙ ap (map (λ (p : PlainOperation). p.raises)) (all_made_of k i)
    ∙ sym (map-map raises_in (λ (p : PlainOperation). (i, p)) (operations k i))

raises_all : (k : Back) (is : List PlainInterface) → map raises_of (sources k is) ≡ map raises_in (operations_in k is)
raises_all k [] = refl
raises_all k (i ∷ is) =
    map-append raises_of (sources_of k i) (sources k is)
    ∙ ap (λ (l : List (List PlainRaise)). l ++ map raises_of (sources k is)) (raises_first k i)
    ∙ ap (λ (l : List (List PlainRaise)). map raises_in (map (λ (p : PlainOperation). (i, p)) (operations k i)) ++ l) (raises_all k is)
    ∙ sym (map-append raises_in (map (λ (p : PlainOperation). (i, p)) (operations k i)) (operations_in k is))

-- an operation has the exceptions that its unit has for it
pub many_raised : (b : Binding) (op : ℕ) (i : PlainInterface) (p : PlainOperation) → IsOperation b op i p
    → exceptions b op ≡ length p.raises
many_raised b op i p is =
    let here : slice_get (map raises_of (sources b.back b.unit.interfaces)) op ≡ Some p.raises =
    ap (λ (l : List (List PlainRaise)). slice_get l op) (raises_all b.back b.unit.interfaces)
    ∙ slice_get-map raises_in (operations_in b.back b.unit.interfaces) op ∙ ap (option_map raises_in) is in
    ap length (raising.there raises_of (sources b.back b.unit.interfaces) op None p.raises here)

-- ---- their ids over CDR

abbrev target_at : PlainInterface × PlainOperation → Target
target_at q = target_in q.0 q.1

targets_are : (k : Back) → IsCdr k → (is : List PlainInterface) → targets is ≡ map target_at (operations_in k is)
targets_are k cdr [] = refl
targets_are k cdr (i ∷ is) =
    let first : targets_in i ≡ map target_at (map (λ (p : PlainOperation). (i, p)) (operations k i)) =
    sym (map-map target_at (λ (p : PlainOperation). (i, p)) (operations k i) ∙ ap (map (target_in i)) (own_alone k i cdr)) in
    ap (λ (l : List Target). l ++ targets is) first
    ∙ ap (λ (l : List Target). map target_at (map (λ (p : PlainOperation). (i, p)) (operations k i)) ++ l) (targets_are k cdr is)
    ∙ sym (map-append target_at (map (λ (p : PlainOperation). (i, p)) (operations k i)) (operations_in k is))

here : {A : Type 0} (xs : List A) (n : ℕ) (x d : A) → slice_get xs n ≡ Some x → slice_index_or xs n d ≡ x
here [] n x d e = absurd cc
here (y ∷ xs) zero x d e = cc
here (y ∷ xs) (suc n) x d e = here xs n x d e

-- the ids that replies tell apart are those of the operation's exceptions
pub many_ids : (k : Back) → IsCdr k → (b : Binding) (op : ℕ) (i : PlainInterface) (p : PlainOperation)
    → slice_get (operations_in k b.unit.interfaces) op ≡ Some (i, p)
    → length (target_of b op).ids ≡ length p.raises
many_ids k cdr b op i p is =
    let there : slice_get (targets b.unit.interfaces) op ≡ Some (target_in i p) =
    ap (λ (l : List Target).
    slice_get l op) (targets_are k cdr b.unit.interfaces) ∙ slice_get-map target_at (operations_in k b.unit.interfaces) op
    ∙ ap (option_map target_at) is in
    ap (λ (t : Target).
    length t.ids) (here (targets b.unit.interfaces) op (target_in i p) no_target there)
    ∙ length-map p.raises (λ (r : PlainRaise). r.id)

-- each arm above 0 has an id
pub arms_few : (b : Binding) (op : ℕ) → IsBinding b → op < length b.ops → IsCdr b.back → (k : ℕ) → HasArm b op k
    → k ≤ length (target_of b op).ids
arms_few b op stands h cdr k has =
    let (i, p, is, same) = are_the_replies b op stands h in
    omega (arith, many_ids b.back cdr b op i p is, few_arms (type_faces b.unit) p (reply_type b op) same k has)
