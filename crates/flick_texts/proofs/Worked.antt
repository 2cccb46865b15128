-- Texts that were worked out by hand.
use Rattle.std.proofs.Common.{◌≡◌, [], ◌∷◌, ◌++◌, pos, negsuc, true, false, refl, codes}
use Rattle.std.specs.Fmt.{digits}
use Rattle.hex.proofs.OnLiterals.{hex_on_literals}
use Rattle.mint.specs.declared.kind.Kind.TheVariants as kind
use Rattle.mint.specs.declared.kind.Count.TheVariants.{Exactly, AtMost, Any}
use Rattle.aoi.specs.Shapes.{void, number, enumeration, text, array, structure, choice, optional, named, no_more, member, default, arm}
use Rattle.aoi.specs.Plain.{PlainUnit}
use Rattle.flick_texts.specs.Counted.{counts_line, folded, folded_with}
use Rattle.flick_texts.specs.Show.{show_text}
use Rattle.flick_texts.specs.TypeText.{type_text}

struct_text : type_text [] (structure (member (codes "a") (number kind.U32) (member (codes "b") (optional (text (AtMost 8))) no_more))) []
    ≡ codes "struct{a:u32;b:maybe text 8}"
unfolding digits
struct_text = refl

union_text : type_text (codes "T" ∷ []) (choice (enumeration ((codes "A", pos 0) ∷ (codes "B", negsuc 0) ∷ []))
    (arm (pos 0) (array (named 0) (Exactly 3)) (arm (negsuc 0) (array (number kind.Octet) Any) (default void)))) []
    ≡ codes "union enum{A=0,B=-1}{0:array 3 of T;-1:list of octet;default:void}"
unfolding digits
union_text = refl

abbrev a_unit : PlainUnit
a_unit = record {
  types = (codes "pair", structure (member (codes "x") (number kind.I32) no_more)) ∷ [];
  interfaces = record {
    name = codes "CALC.V";
    program = 536870912;
    version = 1;
    base = 1000;
    slots = 2;
    ops = record {
      name = codes "ADD";
      proc_no = 1;
      slot = 0;
      ins = member (codes "a") (named 0) (member (codes "b") (number kind.Bool) no_more);
      outs = member (codes "c") (text Any) no_more;
      result = void;
      raises = record { name = codes "X"; id = []; members = no_more } ∷ record { name = codes "Y"; id = []; members = no_more } ∷ [];
      oneway = false;
    } ∷ record {
      name = codes "GO";
      proc_no = 2;
      slot = 1;
      ins = no_more;
      outs = no_more;
      result = void;
      raises = [];
      oneway = true;
    } ∷ [];
  } ∷ [];
}

unit_text : show_text a_unit ≡ codes "type pair = struct{x:i32}\n"
    ++ codes "interface CALC.V program 536870912 version 1 base 1000\n"
    ++ codes "op ADD proc 1 slot 0 (pair, bool) -> (void, text) raises X, Y\n"
    ++ codes "op GO proc 2 slot 1 () -> (void) oneway\n"
unfolding digits
unit_text = refl

made_text : counts_line 3 1 40 255 ≡ codes "made 3 long 1 octets 40 fold 000000ff\n"
unfolding digits hex_on_literals
made_text = refl

fold_of_three : folded 0 (1 ∷ 2 ∷ 3 ∷ []) ≡ 1026
unfolding folded_with
fold_of_three = refl
