-- Unions.
use Rattle.std.specs.Prelude.{Bool, true, false, ℕ, ℤ, List, [], ◌∷◌, Option, Some, None, Ok}
use Rattle.std.specs.Option.{is_some, unwrap_or}
use Rattle.mint.specs.declared.kind.Kind.TheVariants as kind
use Rattle.aoi.specs.declared.faults.NameFault.TheVariants.{Label, NotType}
use Rattle.aoi.specs.Shapes.{Shape, void, choice, default, arms_of}
use Rattle.idl_names.specs.declared.uses.Tag.{Tag}
use Rattle.idl_names.specs.declared.uses.Tag.TheVariants as tag
use Rattle.idl_names.specs.declared.uses.Use.{Use}
use Rattle.idl_names.specs.declared.uses.Use.TheVariants.{Number}
use Rattle.idl_names.specs.Answers.{Answer, and_then, refused}
use Rattle.idl_names.specs.Uses.{shape_of_use, tag_of_use}
use Rattle.idl_names.specs.Labels.{numbered}
use Rattle.idl_names.specs.Arms.{with_arm}
use Rattle.corba_decls.specs.declared.decl_tree.Tag.{Tag as TagTree}
use Rattle.corba_decls.specs.declared.decl_tree.Tag.TheVariants as T
use Rattle.corba_decls.specs.declared.decl_tree.Label.{Label as LabelTree}
use Rattle.corba_decls.specs.declared.decl_tree.Label.TheVariants as L
use Rattle.corba_decls.specs.declared.decl_tree.Case.{Case}
use Rattle.corba_decls.specs.declared.decl_tree.Union.{Union}
use Rattle.corba_scopes.specs.Names.{Names, entered, left, clash, refused_by}
use Rattle.corba_scopes.specs.Consts.{number}
use Rattle.corba_shapes.specs.State.{State, with_type}
use Rattle.corba_shapes.specs.Forms.{kind_of, named_type, type_form, form_shape}
use Rattle.corba_shapes.specs.Fields.{placed_on}

-- ---- the tag

-- the type of a tag
abbrev pub tag_use : Names → ℕ → TagTree → Answer Use
tag_use s d (T.Int i) = Ok (Number (kind_of i))
tag_use s d T.Char = Ok (Number kind.Char)
tag_use s d T.Boolean = Ok (Number kind.Bool)
tag_use s d (T.Named n) = and_then (named_type s d n) (λ t. Ok t.0)

-- a type that no tag has: it is not an integer, a character, a truth value or an enum
abbrev pub is_no_tag : Tag → Bool
is_no_tag (tag.Number kind.Octet) = true
is_no_tag tag.Other = true
is_no_tag _ = false

-- ---- labels

-- the numbers so far, and whether there was a default
pub record Labels : Type 0 where
  pub numbers : List ℤ
  pub default : Bool

-- a label after those before it; there is one default at most
abbrev pub label_on : Names → List (ℕ × ℤ) → Tag → ℕ → Labels → LabelTree → Answer Labels
label_on s labels tag d ls (L.Case e) =
    and_then (number s d e) (λ n.
    and_then (numbered labels tag d ls.numbers n) (λ numbers.
    Ok (record ls { numbers = numbers })))
label_on s labels tag d ls L.Default = and_then (refused Label d ls.default) (λ _. Ok (record ls { default = true }))

-- labels after those before them
abbrev pub labels_on : Names → List (ℕ × ℤ) → Tag → ℕ → Labels → List LabelTree → Answer Labels
labels_on s labels tag d ls [] = Ok ls
labels_on s labels tag d ls (x ∷ xs) = and_then (label_on s labels tag d ls x) (λ ls. labels_on s labels tag d ls xs)

-- ---- cases

-- the names and numbers so far, the arms, one for each number, and what the default is
pub record Cases : Type 0 where
  pub names : Names
  pub numbers : List ℤ
  pub arms : List (ℤ × Shape)
  pub other : Option Shape

-- what the default is after a case: the type of the case, where it is the first that has the default
abbrev pub other_with : Bool → Option Shape → Shape → Option Shape
other_with true None s = Some s
other_with _ other s = other

-- a case after those before it
abbrev pub case_on : List (ℕ × ℤ) → Tag → ℕ → Cases → Case → Answer Cases
case_on labels tag d cs c =
    and_then (labels_on cs.names labels tag d (record { numbers = cs.numbers; default = is_some cs.other }) c.labels) (λ ls.
    and_then (type_form cs.names d c.of.0 c.of.1) (λ f.
    and_then (placed_on d cs.names c.declarator) (λ r.
    Ok (record {
      names = r.0;
      numbers = ls.numbers;
      arms = with_arm ls.numbers cs.arms (form_shape f r.1);
      other = other_with ls.default cs.other (form_shape f r.1);
    }))))

-- cases after those before them
abbrev pub cases_on : List (ℕ × ℤ) → Tag → ℕ → Cases → List Case → Answer Cases
cases_on labels tag d cs [] = Ok cs
cases_on labels tag d cs (c ∷ rest) = and_then (case_on labels tag d cs c) (λ cs. cases_on labels tag d cs rest)

-- ---- the union

-- a choice; where no case is the default, every other number stands for nothing
abbrev pub union_shape : Use → Cases → Shape
union_shape t cs = choice (shape_of_use t) (arms_of cs.arms (default (unwrap_or cs.other void)))

-- a type with a choice; its name is tested where it is, and declared after its cases
abbrev pub union_on : ℕ → State → Union → Answer State
union_on d s u =
    and_then (refused_by d (clash s.names u.name.name)) (λ _.
    and_then (tag_use (entered u.name.name s.names) d u.tag) (λ t.
    and_then (refused NotType d (is_no_tag (tag_of_use t))) (λ _.
    and_then (cases_on s.labels (tag_of_use t) d
    (record { names = entered u.name.name s.names; numbers = []; arms = []; other = None }) u.cases) (λ cs.
    with_type d u.name.name (union_shape t cs) tag.Other None (record s { names = left cs.names })))))
