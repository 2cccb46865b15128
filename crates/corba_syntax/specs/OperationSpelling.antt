-- The tokens of attributes and operations.
use Rattle.std.specs.Prelude.{ℕ, zero, suc, ◌-◌, false, List, [], ◌∷◌, Option, Some, None, codes}
use Rattle.idl_read.specs.Grammar.{Text, empty, word, mark, ◌&◌, when, joined}
use Rattle.idl_exprs.specs.Trees.{Tree}
use Rattle.idl_exprs.specs.Spelling.{identifier, scoped}
use Rattle.corba_decls.specs.declared.type_tree.Base.{Base}
use Rattle.corba_decls.specs.TypeSpelling.{type}
use Rattle.corba_syntax.specs.declared.operation_tree.Reference.{Reference}
use Rattle.corba_syntax.specs.declared.operation_tree.Attribute.{Attribute}
use Rattle.corba_syntax.specs.declared.operation_tree.Direction.{Direction}
use Rattle.corba_syntax.specs.declared.operation_tree.Direction.TheVariants as D
use Rattle.corba_syntax.specs.declared.operation_tree.Parameter.{Parameter}
use Rattle.corba_syntax.specs.declared.operation_tree.Operation.{Operation}

-- the text of a list, and no tokens where the list is empty
abbrev pub if_any : {A : Type 0} → (List A → Text) → List A → Text
if_any S [] = empty
if_any S (x ∷ xs) = S (x ∷ xs)

-- a type with its own end
abbrev pub type_text : ℕ → List (Option Tree) × Base → Text
type_text n t = type n t.0 t.1 false

-- a name that refers to an interface or an exception: it needs one level
abbrev pub reference : ℕ → Reference → Text
reference zero r ks = ⊥
reference (suc n) r ks = scoped r.name ks

-- attribute = [ "readonly" ] "attribute" type identifier { "," identifier }
abbrev pub attribute : ℕ → Attribute → Text
attribute n a =
    when (word (codes "readonly")) a.readonly & word (codes "attribute") & type_text n a.of & joined (codes ",") identifier a.names

-- the word of a direction
abbrev pub direction_spell : Direction → List ℕ
direction_spell D.In = codes "in"
direction_spell D.Out = codes "out"
direction_spell D.InOut = codes "inout"

-- parameter = ( "in" | "out" | "inout" ) type identifier
abbrev pub parameter : ℕ → Parameter → Text
parameter n p = word (direction_spell p.direction) & type_text n p.of & identifier p.name

-- result = "void" | type
abbrev pub result : ℕ → Option (List (Option Tree) × Base) → Text
result n None = word (codes "void")
result n (Some t) = type_text n t

-- parameters = "(" [ parameter { "," parameter } ] ")"
abbrev pub parameters : ℕ → List Parameter → Text
parameters n ps = mark (codes "(") & if_any (joined (codes ",") (parameter n)) ps & mark (codes ")")

-- raises = "raises" "(" name { "," name } ")"
abbrev pub raises : ℕ → List Reference → Text
raises n rs = word (codes "raises") & mark (codes "(") & joined (codes ",") (reference n) rs & mark (codes ")")

-- operation = [ "oneway" ] result identifier parameters [ raises ], with one level less in its parentheses
abbrev pub operation : ℕ → Operation → Text
operation n o =
    when (word (codes "oneway")) o.oneway & result n o.result & identifier o.name
    & parameters (n - 1) o.parameters & if_any (raises (n - 1)) o.raises
