-- Expressions: what is read is what is spelled.
use Rattle.std.proofs.Common.{◌≡◌, ℕ, List, [], ◌∷◌, Bool, false, refl, sym, ap, subst, arith}
use Rattle.idl_lex.specs.declared.kinds.Token.{Token}
use Rattle.idl_lex.specs.declared.kinds.TokenKind.{TokenKind}
use Rattle.idl_read.specs.Reading.{mapped}
use Rattle.idl_read.specs.Grammar.{kinds, IsGrammar}
use Rattle.idl_read.proofs.Grammars.{map_some, one_tree}
use Rattle.idl_exprs.specs.declared.languages.Language.{Language}
use Rattle.idl_exprs.specs.declared.languages.Language.TheVariants.{Corba, Mig}
use Rattle.idl_exprs.specs.Trees.{Tree}
use Rattle.idl_exprs.specs.Spelling.{within, expression_in, expression, mig_expression}
use Rattle.idl_exprs.specs.Readers.{Levelled, within_at, expression_at, mig_expression_at}
use Rattle.idl_exprs.proofs.Within.{more, within_found}
use Rattle.idl_exprs.proofs.Again.{MayFollow, May, within_again}

any_is : (lang : Language) (n : ℕ) (angle : Bool)
    → IsGrammar (mapped (λ (x : Levelled). x.0) (within_at n lang angle 6)) (expression_in lang n) (MayFollow lang angle 6)
any_is lang n angle = record {
  found = λ ts t rest e.
      let m = map_some (λ (x : Levelled). x.0) (within_at n lang angle 6 ts) t rest e in
      let a = within_found n lang angle 6 ts m.0 rest m.1 in
      (a.1.0, a.1.1, subst (λ z. within lang n 6 z (kinds a.1.0)) m.2 (more lang m.0.1 n a.0 6 6 (omega arith) m.0.0 (kinds a.1.0) a.1.2));
  again = λ t front rest s may.
      let a = within_again lang n angle 6 t front rest n (omega arith) s may in
      rw a.2 refl;
}

pub expression_is : (n : ℕ) (angle : Bool) → IsGrammar (expression_at n angle) (expression n) (May angle 6)
unfolding expression_at
expression_is n angle = any_is Corba n angle

pub mig_expression_is : (n : ℕ) → IsGrammar (mig_expression_at n) (mig_expression n) (MayFollow Mig false 6)
unfolding mig_expression_at
mig_expression_is n = any_is Mig n false

-- nothing may follow an expression
at_end : (lang : Language) → MayFollow lang false 6 []
at_end lang = record { name = refl; no_operator = λ d lt. refl; joint = λ yes. absurd cc }

pub with_lines : (ks : List TokenKind) → (ts : List Token) × (kinds ts ≡ ks)
with_lines [] = ([], refl)
with_lines (k ∷ ks) = let r = with_lines ks in (record { kind = k; line = 1 } ∷ r.0, ap (λ z. k ∷ z) r.1)

pub one_only : (lang : Language) (n : ℕ) (a b : Tree) (ks : List TokenKind) → expression_in lang n a ks → expression_in lang n b ks → a ≡ b
one_only lang n a b ks s t =
    let w = with_lines ks in
    one_tree (any_is lang n false) (at_end lang) a b w.0 (subst (expression_in lang n a) (sym w.1) s)
    (subst (expression_in lang n b) (sym w.1) t)
