-- A loop over operators reads what `chain_on` reads.
use Rattle.std.proofs.Common.{◌≡◌, ℕ, suc, ◌+◌, ◌<◌, ◌≤◌, max, List, drop, Option, Some, None, Bool, true, false, refl, sym, ◌∙◌, nat_le, arith}
use Rattle.std.proofs.lemmas.Bool.{le-leb, lt-leb}
use Rattle.idl_lex.specs.declared.kinds.Token.{Token}
use Rattle.idl_const.specs.declared.tree.BinaryOp.{BinaryOp}
use Rattle.idl_read.specs.declared.halt.Halt.{Halt}
use Rattle.idl_read.specs.declared.halt.Halt.TheVariants as halts
use Rattle.idl_read.specs.Reading.{Read, Reader, Fails}
use Rattle.idl_exprs.specs.declared.languages.Language.{Language}
use Rattle.idl_exprs.specs.Trees.{Tree, binary}
use Rattle.idl_exprs.specs.Readers.{Levelled, over, chain_on, climb, operator_at}

pub begins : (operand : Language → Bool → ℕ → Reader Levelled) (below more : ℕ) (lang : Language) (angle : Bool) (loose d : ℕ)
    (ts : List Token)
    (x : Levelled) (us : List Token)
    → loose ≡ suc d → more ≡ suc below → climb operand below lang angle d ts ≡ Some (x, us)
    → climb operand below lang angle loose ts ≡ chain_on (operand lang angle d) (operator_at lang angle d) (suc below) more x us
begins operand below more lang angle loose d ts x us is all e = rw (is, all, e) refl

module _ (operand : Reader Levelled) (op : List Token → Option BinaryOp) (levels more left : ℕ) (x : Levelled)
    (ts : List Token) (whole : Read Levelled) (so : whole ≡ chain_on operand op levels more x ts) (some : more ≡ suc left)
    (o : BinaryOp) (goes : op ts ≡ Some o) (next : List Token) (next_is : next ≡ drop 1 ts) where
  none : operand next ≡ None → whole ≡ None
  none e = so ∙ rw (some, goes, sym next_is, e) refl

  pub fails : (halt : Halt) → Fails halt (operand next) → Fails halt whole
  fails halts.NoMemory h = tt
  fails halts.Syntax h = none h

  pub too_high : (y : Levelled) (us : List Token) → operand next ≡ Some (y, us) → nat_le (over o x y).1 levels ≡ false → whole ≡ None
  too_high y us e high = so ∙ rw (some, goes, sym next_is, e, high) refl

  pub goes_on : (y : Levelled) (us : List Token) → operand next ≡ Some (y, us) → nat_le (over o x y).1 levels ≡ true
      → whole ≡ chain_on operand op levels left (over o x y) us
  goes_on y us e low = so ∙ rw (some, goes, sym next_is, e, low) refl

pub stays : (operand : Reader Levelled) (op : List Token → Option BinaryOp) (levels more left : ℕ) (x : Levelled)
    (ts : List Token) (whole : Read Levelled)
    → whole ≡ chain_on operand op levels more x ts → more ≡ suc left → op ts ≡ None
    → whole ≡ Some (x, ts)
stays operand op levels more left x ts whole so some none = so ∙ rw (some, none) refl

pub used_up : (operand : Reader Levelled) (op : List Token → Option BinaryOp) (levels more : ℕ) (x : Levelled)
    (ts : List Token) (whole : Read Levelled)
    → whole ≡ chain_on operand op levels more x ts → more ≡ 0
    → whole ≡ None
used_up operand op levels more x ts whole so none = so ∙ rw none refl

-- an operator between its operands, by its parts
pub same_over : (o : BinaryOp) (x y : Levelled) (t : Tree) (h : ℕ) → t ≡ binary o x.0 y.0 → h ≡ suc (max x.1 y.1) → over o x y ≡ (t, h)
same_over o x y t h a b = cc

pub is_high : (o : BinaryOp) (x y : Levelled) (h levels : ℕ) → h ≡ max x.1 y.1 → levels < h + 1 → nat_le (over o x y).1 levels ≡ false
is_high o x y h levels is high = lt-leb (suc (max x.1 y.1)) levels (omega (arith, is, high))

pub is_low : (o : BinaryOp) (x y : Levelled) (h levels : ℕ) → h ≡ max x.1 y.1 → h + 1 ≤ levels → nat_le (over o x y).1 levels ≡ true
is_low o x y h levels is low = le-leb (suc (max x.1 y.1)) levels (omega (arith, is, low))
