-- Worked rows: what short files resolve to
use Rattle.std.proofs.Common.{◌≡◌, [], ◌∷◌, None, false, refl}
use Rattle.std.specs.Prelude.{pos, codes, Ok}
use Rattle.mint.specs.declared.kind.Kind.TheVariants as kind
use Rattle.aoi.specs.Shapes.{number, structure, member, no_more, named}
use Rattle.aoi.specs.declared.faults.NameFault.TheVariants as fault_
use Rattle.onc_syntax.specs.declared.tree.Value.TheVariants as V
use Rattle.onc_syntax.specs.declared.tree.IntWord.TheVariants.{Int}
use Rattle.onc_syntax.specs.declared.tree.TypeName.TheVariants as T
use Rattle.onc_syntax.specs.declared.tree.Decl.TheVariants as D
use Rattle.onc_syntax.specs.declared.tree.Def.TheVariants as F
use Rattle.onc_syntax.specs.declared.tree.ProcType.TheVariants as P
use Rattle.idl_names.specs.Answers.{fault}
use Rattle.front_onc.specs.Programs.{argument}
use Rattle.front_onc.specs.Resolved.{resolved}

row1 : resolved (F.Const (codes "A") (V.Name (codes "B")) ∷ []) ≡ fault fault_.Unknown 1
row1 = refl

row2 : resolved (F.Typedef (D.Plain (T.Named None (codes "float")) (codes "f")) ∷ []) ≡ fault fault_.OutOfScope 1
row2 = refl

row3 : resolved (F.Struct (codes "s") (record { decl = D.Array (T.Int false Int) (codes "a") (V.Number false (pos 0)) } ∷ []) ∷ [])
    ≡ fault fault_.Range 1
row3 = refl

row4 : resolved (F.Struct (codes "pair")
    (record { decl = D.Plain (T.Int false Int) (codes "a") } ∷ record { decl = D.Plain (T.Int false Int) (codes "b") } ∷ [])
    ∷ F.Program (codes "CALC") (record {
      name = codes "V";
      procedures = record {
        result = P.Plain (T.Int false Int);
        name = codes "ADD";
        parameters = P.Plain (T.Named None (codes "pair")) ∷ [];
        number = V.Number false (pos 1);
      } ∷ [];
      number = V.Number false (pos 1);
    } ∷ []) (V.Number false (pos 0x20000001)) ∷ [])
    ≡ Ok (record {
      types = (codes "pair", structure (member (codes "a") (number kind.I32) (member (codes "b") (number kind.I32) no_more))) ∷ [];
      interfaces = record {
        name = codes "CALC.V";
        program = 0x20000001;
        version = 1;
        base = 1000;
        slots = 1;
        ops = record {
          name = codes "ADD";
          proc_no = 1;
          slot = 0;
          ins = member (argument 1) (named 0) no_more;
          outs = no_more;
          result = number kind.I32;
          raises = [];
          oneway = false;
        } ∷ [];
      } ∷ [];
    })
row4 = refl
