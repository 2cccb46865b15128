-- An exception that is found among those that are kept is the one that a reply tells, by induction on the interfaces.
use Rattle.std.proofs.Common.{◌≡◌, ℕ, zero, suc, List, [], ◌∷◌, ◌++◌, map, refl, sym, ap, ◌∙◌}
use Rattle.std.specs.Prelude.{Option, None, slice_get, slice_index_or, unwrap_or}
use Rattle.std.specs.List.{position_from}
use Rattle.std.specs.Str.{bytes_eq}
use Rattle.std.proofs.lemmas.List.{map-append}
use Rattle.std.proofs.lemmas.Option.{unwrap_or-slice_get}
use Rattle.aoi.specs.Plain.{PlainInterface, PlainOperation}
use Rattle.back_cdr.specs.Targets.{Target, no_target, target_in, targets_in, targets}
use Rattle.back_cdr.specs.declared.names.Names.{Names}
use Rattle.back_cdr.specs.Names.{AreNames, raise_of}
use Rattle.back_cdr.specs.Offered.{Offered, nothing, number_in, raised_by, raised_each}
use Rattle.back_cdr.proofs.Picking.{counted}

-- the exceptions of a target
abbrev reported : Target → Offered
reported t = record { first = 1; names = t.ids }

of_one : (i : PlainInterface) (ops : List PlainOperation) → map raised_by ops ≡ map reported (map (target_in i) ops)
of_one i [] = refl
of_one i (op ∷ ops) = ap (λ l. raised_by op ∷ l) (of_one i ops)

of_all : (is : List PlainInterface) → raised_each is ≡ map reported (targets is)
of_all [] = refl
of_all (i ∷ is) =
    ap (λ l. map raised_by i.ops ++ l) (of_all is)
    ∙ ap (λ l. l ++ map reported (targets is)) (of_one i i.ops)
    ∙ sym (map-append reported (targets_in i) (targets is))

reported_at : (ts : List Target) (k : ℕ) → slice_index_or (map reported ts) k nothing ≡ reported (slice_index_or ts k no_target)
reported_at [] k = refl
reported_at (t ∷ ts) zero = refl
reported_at (t ∷ ts) (suc k) = reported_at ts k

-- the number of an exception among those of an operation
pub raise_found : (is : List PlainInterface) (n : Names) (op : ℕ) (id : List ℕ) → AreNames is n
    → raise_of n op id ≡ position_from (bytes_eq id) 1 (slice_index_or (targets is) op no_target).ids
raise_found is n op id are =
    ap (λ (l : List Offered). number_in (slice_index_or l op nothing) id) (are.raised ∙ of_all is)
    ∙ ap (λ (x : Offered). number_in x id) (reported_at (targets is) op)
    ∙ sym (counted (bytes_eq id) 1 0 (slice_index_or (targets is) op no_target).ids)

-- an operation past the last has no exceptions
pub none_past : (n : Names) (op : ℕ) (id : List ℕ) → None ≡ slice_get n.raised op → None ≡ raise_of n op id
none_past n op id past =
    ap (λ (x : Offered). number_in x id)
    (ap (λ (o : Option Offered). unwrap_or o nothing) past ∙ unwrap_or-slice_get n.raised op nothing)
