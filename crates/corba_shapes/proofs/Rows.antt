-- Declarations worked by hand.
use Rattle.std.proofs.Common.{◌≡◌, ℕ, true, false, List, [], ◌∷◌, Option, Some, refl}
use Rattle.std.specs.Prelude.{pos, codes, Ok, Err}
use Rattle.mint.specs.declared.kind.Kind.TheVariants as kind
use Rattle.mint.specs.declared.kind.Count.TheVariants.{Exactly, AtMost}
use Rattle.aoi.specs.Shapes.{Shape, void, number, enumeration, text, array, choice, arm, default, member, no_more}
use Rattle.aoi.specs.Plain.{PlainRaise}
use Rattle.aoi.specs.declared.faults.NameFault.TheVariants as fault_
use Rattle.idl_names.specs.Answers.{Answer, fault}
use Rattle.idl_exprs.specs.Trees.{Tree, leaf}
use Rattle.idl_exprs.specs.declared.tree.Identifier.{Identifier}
use Rattle.idl_exprs.specs.declared.tree.Leaf.TheVariants as E
use Rattle.corba_decls.specs.declared.type_tree.IntSize.TheVariants.{Long}
use Rattle.corba_decls.specs.declared.type_tree.Base.{Base}
use Rattle.corba_decls.specs.declared.type_tree.Base.TheVariants as B
use Rattle.corba_decls.specs.declared.member_tree.Declarator.{Declarator}
use Rattle.corba_decls.specs.declared.decl_tree.Tag.TheVariants as T
use Rattle.corba_decls.specs.declared.decl_tree.Label.TheVariants as L
use Rattle.corba_decls.specs.declared.decl_tree.Aliased.TheVariants as A
use Rattle.corba_decls.specs.declared.decl_tree.ConstantType.TheVariants as C
use Rattle.corba_decls.specs.declared.decl_tree.Declaration.TheVariants as D
use Rattle.corba_scopes.specs.Names.{entered}
use Rattle.corba_shapes.specs.State.{State, start}
use Rattle.corba_shapes.specs.Declarations.{declaration_on}

abbrev called : List ℕ → Identifier
called name = record { name = name }

abbrev long : List (Option Tree) × Base
long = ([], B.Int (record { unsigned = false; size = Long }))

abbrev plain : List ℕ → Declarator
plain name = record { name = called name; dimensions = [] }

abbrev types_of : Answer State → List (List ℕ × Shape)
types_of (Ok s) = s.types
types_of (Err e) = []

abbrev exceptions_of : Answer State → List PlainRaise
exceptions_of (Ok s) = s.exceptions
exceptions_of (Err e) = []

-- enum hue { red, green };
row1 : types_of
    (declaration_on 1 start
    (D.Enum (record { name = called (codes "hue"); items = called (codes "red") ∷ called (codes "green") ∷ [] })))
    ≡ (codes "hue", enumeration ((codes "red", pos 0) ∷ (codes "green", pos 1) ∷ [])) ∷ []
row1 = refl

-- enum a { A, a };
row2 : declaration_on 1 start (D.Enum (record { name = called (codes "a"); items = called (codes "A") ∷ called (codes "a") ∷ [] }))
    ≡ fault fault_.Twice 1
row2 = refl

-- enum a { A };
row3 : declaration_on 1 start (D.Enum (record { name = called (codes "a"); items = called (codes "A") ∷ [] }))
    ≡ fault fault_.CaseClash 1
row3 = refl

-- module M { exception Bad { long why; }; };
row4 : exceptions_of
    (declaration_on 2 (record start { names = entered (codes "M") start.names })
    (D.Exception (record { name = called (codes "Bad"); members = record { of = long; declarators = plain (codes "why") ∷ [] } ∷ [] })))
    ≡ record { name = codes "M.Bad"; id = codes "IDL:M/Bad:1.0"; members = member (codes "why") (number kind.I32) no_more } ∷ []
row4 = refl

-- const octet X = 256;
row5 : declaration_on 1 start (D.Constant (record { of = C.Octet; name = called (codes "X"); value = leaf (E.Number (pos 256)) }))
    ≡ fault fault_.Range 1
row5 = refl

-- union u switch (boolean) { case TRUE: long a; };
row6 : types_of
    (declaration_on 1 start
    (D.Union
    (record {
      name = called (codes "u");
      tag = T.Boolean;
      cases =
          record { labels = L.Case (leaf (E.Truth true)) ∷ []; of = long; declarator = plain (codes "a") } ∷ [];
    })))
    ≡ (codes "u", choice (number kind.Bool) (arm (pos 1) (number kind.I32) (default void))) ∷ []
row6 = refl

-- typedef sequence<string<4>, 2> t[3];
row7 : types_of (declaration_on 1 start (D.Typedef (record {
  of = A.Type (Some (leaf (E.Number (pos 2))) ∷ [], B.Text (Some (leaf (E.Number (pos 4)))));
  declarators = record { name = called (codes "t"); dimensions = record { length = leaf (E.Number (pos 3)) } ∷ [] } ∷ [];
}))) ≡ (codes "t", array (array (text (AtMost 4)) (AtMost 2)) (Exactly 3)) ∷ []
row7 = refl

pub rows : ℕ
rows = 7
