-- Rows worked by hand: names at a place in B of this file.
--   const long x = 3;
--   interface A { const long x = 1; const string s = "t"; };
--   module M { const long x = 2; interface B : ::A { .. }; };
use Rattle.std.proofs.Common.{◌≡◌, ℕ, List, [], ◌∷◌, Bool, true, false, Some, None, refl}
use Rattle.std.specs.Prelude.{codes, pos, Ok}
use Rattle.idl_const.specs.declared.tree.BinaryOp.TheVariants.{Add, Div, Left}
use Rattle.idl_const.specs.declared.tree.UnaryOp.TheVariants.{Minus}
use Rattle.aoi.specs.declared.faults.NameFault.TheVariants.{Unknown, Twice, CaseClash, NotConst, Range}
use Rattle.idl_names.specs.Answers.{fault}
use Rattle.idl_exprs.specs.declared.tree.Identifier.{Identifier}
use Rattle.idl_exprs.specs.declared.tree.ScopedName.{ScopedName}
use Rattle.idl_exprs.specs.declared.tree.Leaf.TheVariants as L
use Rattle.idl_exprs.specs.Trees.{Tree, leaf, unary, binary}
use Rattle.corba_scopes.specs.declared.meanings.Meaning.TheVariants as M
use Rattle.corba_scopes.specs.declared.meanings.Constant.TheVariants as C
use Rattle.corba_scopes.specs.Names.{Names, nothing, entered, left, declared, clash}
use Rattle.corba_scopes.specs.Finding.{named, inheriting}
use Rattle.corba_scopes.specs.Consts.{number, constant, length_of}

abbrev part : List ℕ → Identifier
part name = record { name = name }

abbrev scoped : Bool → List Identifier → ScopedName
scoped absolute parts = record { absolute = absolute; parts = parts }

abbrev in_file : Names
in_file = declared (codes "x") (M.Number (pos 3)) nothing

abbrev in_a : Names
in_a =
    declared (codes "s") M.Text
    (declared (codes "x") (M.Number (pos 1)) (entered (codes "A") (declared (codes "A") (M.Interface 0) in_file)))

abbrev in_m : Names
in_m = declared (codes "x") (M.Number (pos 2)) (entered (codes "M") (declared (codes "M") M.Module (left in_a)))

abbrev in_b : Names
in_b =
    entered (codes "B")
    (declared (codes "B") (M.Interface 1) (inheriting (codes "B") (named in_m (scoped true (part (codes "A") ∷ []))) in_m))

abbrev name : Bool → List Identifier → Tree
name absolute parts = leaf (L.Name (scoped absolute parts))

abbrev n : ℕ → Tree
n k = leaf (L.Number (pos k))

-- x is that of the base, before that of the module
base_before_module : number in_b 5 (name false (part (codes "x") ∷ [])) ≡ Ok (pos 1)
base_before_module = refl

-- ::x is that of the file
with_colons : number in_b 5 (name true (part (codes "x") ∷ [])) ≡ Ok (pos 3)
with_colons = refl

-- M::x is that of the module, and M::B::x that of the base
in_module : number in_b 5 (name false (part (codes "M") ∷ part (codes "x") ∷ [])) ≡ Ok (pos 2)
in_module = refl

in_base : number in_b 5 (name false (part (codes "M") ∷ part (codes "B") ∷ part (codes "x") ∷ [])) ≡ Ok (pos 1)
in_base = refl

-- X is not x, a constant has no scope, and neither an interface nor a string is a number
other_case : number in_b 5 (name false (part (codes "X") ∷ [])) ≡ fault Unknown 5
other_case = refl

no_scope : number in_b 5 (name false (part (codes "x") ∷ part (codes "x") ∷ [])) ≡ fault Unknown 5
no_scope = refl

interface_is_not_a_number : number in_b 5 (name false (part (codes "A") ∷ [])) ≡ fault NotConst 5
interface_is_not_a_number = refl

string_is_not_a_number : number in_b 5 (name false (part (codes "s") ∷ [])) ≡ fault NotConst 5
string_is_not_a_number = refl

-- what a base declares may be declared again; what a scope declares may not, even in another case
again_below : clash in_b (codes "x") ≡ None
again_below = refl

again : clash (left in_b) (codes "x") ≡ Some Twice
again = refl

again_in_another_case : clash (left in_b) (codes "b") ≡ Some CaseClash
again_in_another_case = refl

-- 1 / 0 + Y is out of range, and Y + 1 / 0 has an unknown name
left_fault_first : number in_b 5 (binary Add (binary Div (n 1) (n 0)) (name false (part (codes "Y") ∷ []))) ≡ fault Range 5
left_fault_first = refl

right_fault_last : number in_b 5 (binary Add (name false (part (codes "Y") ∷ [])) (binary Div (n 1) (n 0))) ≡ fault Unknown 5
right_fault_last = refl

-- a character is its code, TRUE is 1; a string alone is a constant
leaves : number in_b 5 (binary Add (leaf (L.Character 97)) (leaf (L.Truth true))) ≡ Ok (pos 98)
leaves = refl

string_alone : constant in_b 5 (leaf (L.Text (codes "t"))) ≡ Ok (C.Text 1)
string_alone = refl

-- bounds are 1 to 2^32 - 1
greatest_bound : length_of in_b 5 (n 4294967295) ≡ Ok 4294967295
greatest_bound = refl

bound_above : length_of in_b 5 (binary Left (n 1) (n 32)) ≡ fault Range 5
bound_above = refl

bound_of_0 : length_of in_b 5 (n 0) ≡ fault Range 5
bound_of_0 = refl

bound_below : length_of in_b 5 (unary Minus (n 1)) ≡ fault Range 5
bound_below = refl
