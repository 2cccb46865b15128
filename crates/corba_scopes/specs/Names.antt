-- The names that are declared, the scopes around a place, and how a name is declared in the innermost.
use Rattle.std.specs.Prelude.{ℕ, List, [], ◌∷◌, ◌++◌, map, Option, Some, None, Ok, if◌then◌else◌}
use Rattle.std.specs.Str.{bytes_eq}
use Rattle.std.specs.Char.{to_ascii_lowercase}
use Rattle.aoi.specs.declared.faults.NameFault.{NameFault}
use Rattle.aoi.specs.declared.faults.NameFault.TheVariants.{Twice, CaseClash}
use Rattle.idl_names.specs.Answers.{Answer, fault, and_then}
use Rattle.idl_names.specs.Names.{has, is_declared}
use Rattle.corba_scopes.specs.declared.meanings.Meaning.{Meaning}
use Rattle.corba_scopes.specs.Around.{innermost, inside, outside}

-- full names in the order of their declarations, each with what it stands for
abbrev pub Meanings : Type 0
Meanings = List (List ℕ × Meaning)

-- what is declared: full names, each with what it stands for; the same with the last identifier in lower case; the lines of interfaces;
-- and the scopes around the place of the next declaration, the innermost first, without that of the file
pub record Names : Type 0 where
  pub meanings : Meanings
  pub folded : List (List ℕ)
  pub lines : List (List ℕ × List (List ℕ))
  pub env : List (List ℕ)

-- nothing is declared
abbrev pub nothing : Names
nothing = record { meanings = []; folded = []; lines = []; env = [] }

-- the innermost scope around the place
abbrev pub here : Names → List ℕ
here s = innermost s.env

-- the same at a place inside what is declared by this name
abbrev pub entered : List ℕ → Names → Names
entered name s = record s { env = inside name s.env }

-- the same at a place outside of the innermost scope
abbrev pub left : Names → Names
left s = record s { env = outside s.env }

-- the same with something held by this name, in its place or after the others
abbrev pub put : {V : Type 0} → List ℕ → V → List (List ℕ × V) → List (List ℕ × V)
put name v [] = (name, v) ∷ []
put name v (e ∷ es) = if bytes_eq name e.0 then (e.0, v) ∷ es else e ∷ put name v es

-- an identifier with its letters in lower case
abbrev pub lower : List ℕ → List ℕ
lower name = map to_ascii_lowercase name

-- why a name may not be declared here: it is declared in this scope, or one is that differs only in the case of letters
abbrev pub clash : Names → List ℕ → Option NameFault
clash s name =
    if is_declared (here s ++ name) s.meanings then Some Twice
    else if has (here s ++ lower name) s.folded then Some CaseClash
    else None

-- one more name here
abbrev pub declared : List ℕ → Meaning → Names → Names
declared name m s =
    record s { meanings = s.meanings ++ (here s ++ name, m) ∷ []; folded = s.folded ++ (here s ++ lower name) ∷ [] }

-- the lower of two faults of one identifier: Twice is lower than CaseClash
abbrev pub lower_of : Option NameFault → Option NameFault → Option NameFault
lower_of None g = g
lower_of (Some f) None = Some f
lower_of (Some Twice) (Some g) = Some Twice
lower_of (Some f) (Some g) = Some g

-- nothing, or the fault of a declaration
abbrev pub refused_by : ℕ → Option NameFault → Answer (Unit {0})
refused_by d None = Ok tt
refused_by d (Some f) = fault f d

-- one more name here, or its clash
abbrev pub declared_on : ℕ → Names → List ℕ → Meaning → Answer Names
declared_on d s name m = and_then (refused_by d (clash s name)) (λ _. Ok (declared name m s))
