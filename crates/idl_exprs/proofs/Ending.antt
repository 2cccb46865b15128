-- What may follow an expression: a text that begins with a mark with which no expression goes on.
use Rattle.std.proofs.Common.{◌≡◌, ℕ, List, [], ◌∷◌, ◌++◌, Option, Some, None, Bool, true, false, refl}
use Rattle.std.specs.Prelude.{codes, is_some}
use Rattle.idl_lex.specs.declared.kinds.Token.{Token}
use Rattle.idl_lex.specs.declared.kinds.TokenKind.{TokenKind}
use Rattle.idl_lex.specs.declared.kinds.TokenKind.TheVariants as K
use Rattle.idl_read.specs.Reading.{mark_is, begins_with}
use Rattle.idl_read.specs.Grammar.{Text, mark, kinds, Leads}
use Rattle.idl_read.proofs.Leaves.{mark_named, leads_mark, begins_not, Apart, apart_mark}
use Rattle.idl_const.specs.declared.tree.BinaryOp.{BinaryOp}
use Rattle.idl_exprs.specs.declared.languages.Language.{Language}
use Rattle.idl_exprs.specs.Readers.{binary_in, operator_at}
use Rattle.idl_exprs.proofs.Again.{MayFollow}

abbrev is_operator : TokenKind → Bool
is_operator k = is_some (binary_in k)

no_operator : (lang : Language) (ts : List Token) → begins_with is_operator ts ≡ false → (d : ℕ) → operator_at lang false d ts ≡ None
no_operator lang [] h d = refl
no_operator lang (t ∷ ts) h d = go (binary_in t.kind) refl where
  go : (o : Option BinaryOp) → binary_in t.kind ≡ o → operator_at lang false d (t ∷ ts) ≡ None
  go None is = rw is refl
  go (Some op) is = absurd (let no : is_operator t.kind ≡ true = rw is refl in cc)

-- a text that begins with such a mark
pub closed_by : {A : Type 0} {S : A → Text} (lang : Language) (m : List ℕ) → binary_in (K.Mark m) ≡ None
    → mark_is m (K.Mark (codes "::")) ≡ false
    → Leads S (mark_is m) → (a : A) (front rest : List Token) → S a (kinds front)
    → MayFollow lang false 6 (front ++ rest)
closed_by lang m h other l a front rest s = record {
  name = begins_not (mark_is (codes "::")) l (apart_mark (mark_is m) (codes "::") other) a front rest s;
  no_operator = λ d lt. no_operator lang (front ++ rest) (begins_not is_operator l apart a front rest s) d;
  joint = λ yes. absurd cc;
} where
  apart : Apart (mark_is m) is_operator
  apart k e = let is = mark_named m k e in rw (is, h) refl

-- such a mark alone
pub before_mark : (lang : Language) (m : List ℕ) → binary_in (K.Mark m) ≡ None → mark_is m (K.Mark (codes "::")) ≡ false
    → (front rest : List Token) → mark m (kinds front)
    → MayFollow lang false 6 (front ++ rest)
before_mark lang m h other front rest s = closed_by {S = λ (_ : Unit {0}). mark m} lang m h other (leads_mark m) tt front rest s
