-- The types that unions make.
use Rattle.std.specs.Prelude.{ℕ, ℤ, List, [], ◌∷◌, ◌++◌, Option, Some, None, Ok}
use Rattle.aoi.specs.declared.faults.NameFault.TheVariants.{Twice, NotType}
use Rattle.aoi.specs.Shapes.{Shape, void, choice, Arms, default_of, arms_of}
use Rattle.onc_syntax.specs.declared.tree.Arm.{Arm}
use Rattle.onc_syntax.specs.declared.tree.Arm.TheVariants as A
use Rattle.onc_syntax.specs.declared.tree.Label.{Label as LabelTree}
use Rattle.onc_syntax.specs.declared.tree.Case.{Case}
use Rattle.onc_syntax.specs.declared.tree.Union.{Union}
use Rattle.idl_names.specs.declared.uses.Tag.{Tag}
use Rattle.idl_names.specs.declared.uses.Tag.TheVariants as tag
use Rattle.idl_names.specs.declared.uses.Use.{Use}
use Rattle.idl_names.specs.Names.{has, is_declared}
use Rattle.idl_names.specs.Uses.{shape_of_use, tag_of_use, is_other}
use Rattle.front_onc.specs.declared.meaning.Form.{Form}
use Rattle.idl_names.specs.Answers.{Answer, and_then, refused}
use Rattle.idl_names.specs.Labels.{numbered}
use Rattle.idl_names.specs.Arms.{with_arm}
use Rattle.front_onc.specs.Names.{Scope, value, type_use}
use Rattle.front_onc.specs.State.{State, with_type}
use Rattle.front_onc.specs.Declarations.{name_of, form, shape}

-- a label after those before it
abbrev pub label_on : Scope → List (ℕ × ℤ) → Tag → ℕ → List ℤ → LabelTree → Answer (List ℤ)
label_on scope labels tag d numbers l = and_then (value scope d l.value) (numbered labels tag d numbers)

-- the labels of a case after those before them
abbrev pub labels_on : Scope → List (ℕ × ℤ) → Tag → ℕ → List ℤ → List LabelTree → Answer (List ℤ)
labels_on scope labels tag d numbers [] = Ok numbers
labels_on scope labels tag d numbers (l ∷ ls) = and_then (label_on scope labels tag d numbers l)
    (λ numbers. labels_on scope labels tag d numbers ls)

-- what an arm makes of its type; without a declaration it is void
abbrev pub arm_shape : Option Form → Shape
arm_shape None = void
arm_shape (Some f) = shape f

-- an arm, after the names that come before it
abbrev pub arm_on : Scope → ℕ → List (List ℕ) → Arm → Answer (Option Form × List (List ℕ))
arm_on scope d names A.Void = Ok (None, names)
arm_on scope d names (A.Decl decl) = and_then (form scope d (has (name_of decl) names) decl) (λ f. Ok (Some f, names ++ name_of decl ∷ []))

-- the labels and names so far, and the arms, one for each label
pub record Cases : Type 0 where
  pub numbers : List ℤ
  pub names : List (List ℕ)
  pub arms : List (ℤ × Shape)

-- a case after those before it
abbrev pub case_on : Scope → List (ℕ × ℤ) → Tag → ℕ → Cases → Case → Answer Cases
case_on scope labels tag d cs c =
    and_then (labels_on scope labels tag d cs.numbers c.labels) (λ numbers.
    and_then (arm_on scope d cs.names c.arm) (λ a.
    Ok (record { numbers = numbers; names = a.1; arms = with_arm numbers cs.arms (arm_shape a.0) })))

-- cases after those before them
abbrev pub cases_on : Scope → List (ℕ × ℤ) → Tag → ℕ → Cases → List Case → Answer Cases
cases_on scope labels tag d cs [] = Ok cs
cases_on scope labels tag d cs (c ∷ rest) = and_then (case_on scope labels tag d cs c) (λ cs. cases_on scope labels tag d cs rest)

-- the default arm
abbrev pub other : Scope → ℕ → List (List ℕ) → Option Arm → Answer Arms
other scope d names None = Ok (default_of None)
other scope d names (Some a) = and_then (arm_on scope d names a) (λ a. Ok (default_of (Some (arm_shape a.0))))

-- the type of a union, by the type of its tag
abbrev pub union_shape : State → ℕ → Use → Union → Answer Shape
union_shape s d t u =
    and_then (refused NotType d (is_other (tag_of_use t))) (λ _.
    and_then (cases_on s.scope s.labels (tag_of_use t) d (record { numbers = []; names = u.tag_name ∷ []; arms = [] }) u.cases) (λ cs.
    and_then (other s.scope d cs.names u.default) (λ o.
    Ok (choice (shape_of_use t) (arms_of cs.arms o)))))

-- a type with a choice; its name is declared after it
abbrev pub union_on : ℕ → State → Union → Answer State
union_on d s u =
    and_then (refused Twice d (is_declared u.name s.scope)) (λ _.
    and_then (type_use s.scope d u.tag) (λ t.
    and_then (union_shape s d t u) (λ shape.
    Ok (with_type u.name shape tag.Other s))))
