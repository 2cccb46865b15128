-- An expression between `<` and `>` is not taken for what follows a type, by induction on the levels.
use Rattle.std.proofs.Common.{◌≡◌, inl, inr, ℕ, zero, suc, List, [], ◌∷◌, ◌++◌, Some, Bool, true, false, ◌&&◌, refl, sym, ap, subst, ◌∙◌, append_assoc}
use Rattle.std.specs.Prelude.{codes}
use Rattle.idl_lex.specs.declared.kinds.Token.{Token}
use Rattle.idl_lex.specs.declared.kinds.TokenKind.{TokenKind}
use Rattle.idl_lex.specs.declared.kinds.TokenKind.TheVariants as K
use Rattle.idl_read.specs.Reading.{begins_with}
use Rattle.idl_read.specs.Grammar.{mark, ◌&◌, each, joined, kinds}
use Rattle.idl_read.proofs.Grammars.{parted}
use Rattle.idl_read.proofs.Leaves.{one_kind}
use Rattle.idl_const.specs.declared.tree.UnaryOp.{UnaryOp}
use Rattle.idl_const.specs.declared.tree.UnaryOp.TheVariants as U
use Rattle.idl_const.specs.declared.tree.BinaryOp.{BinaryOp}
use Rattle.idl_const.specs.declared.tree.BinaryOp.TheVariants as B
use Rattle.idl_exprs.specs.declared.languages.Language.{Language}
use Rattle.idl_exprs.specs.declared.languages.Language.TheVariants.{Corba, Mig}
use Rattle.idl_exprs.specs.declared.tree.Identifier.{Identifier}
use Rattle.idl_exprs.specs.declared.tree.Leaf.{Leaf}
use Rattle.idl_exprs.specs.declared.tree.Leaf.TheVariants as L
use Rattle.idl_exprs.specs.Trees.{Tree, leaf, unary, binary}
use Rattle.idl_exprs.specs.Spelling.{identifier, scoped, leaf_text, leaf_in, unary_spell, binary_spell, looseness, within}
use Rattle.idl_exprs.specs.Readers.{binary_in, is_joint, is_after, is_identifier, closes}

pub first_kind : (ts : List Token) (k : TokenKind) (ks : List TokenKind) → kinds ts ≡ k ∷ ks
    → (t : Token) × (us : List Token) × (ts ≡ t ∷ us) × (t.kind ≡ k) × (kinds us ≡ ks)
first_kind [] k ks e = absurd cc
first_kind (t ∷ us) k ks e = (t, us, refl, cc, cc)

-- what begins with a token that follows no type
apart : (front rest : List Token) (k : TokenKind) (ks : List TokenKind) → kinds front ≡ k ∷ ks → is_after k ≡ false
    → is_identifier k ≡ false
    → closes (front ++ rest) ≡ false
apart front rest k ks e a i = let t = first_kind front k ks e in rw (t.2, t.3, a, i) refl

pub binary_back : (op : BinaryOp) → binary_in (K.Mark (binary_spell op)) ≡ Some op
binary_back B.Or = refl
binary_back B.Xor = refl
binary_back B.And = refl
binary_back B.Left = refl
binary_back B.Right = refl
binary_back B.Add = refl
binary_back B.Sub = refl
binary_back B.Mul = refl
binary_back B.Div = refl
binary_back B.Rem = refl

pub joint_operator : (op : BinaryOp) → is_joint (K.Mark (binary_spell op)) ≡ true
joint_operator op = rw (binary_back op) refl

unary_apart : (op : UnaryOp) → (is_after (K.Mark (unary_spell op)) ≡ false) × (is_identifier (K.Mark (unary_spell op)) ≡ false)
unary_apart U.Minus = (refl, refl)
unary_apart U.Plus = (refl, refl)

-- a name, after which an expression goes on
joint_next : (us rest : List Token) (is : List Identifier) → each (λ i. mark (codes "::") & identifier i) is (kinds us)
    → begins_with is_joint rest ≡ true
    → begins_with is_joint (us ++ rest) ≡ true
joint_next [] rest is s j = j
joint_next (t ∷ us) rest [] s j = absurd cc
joint_next (t ∷ us) rest (i ∷ is) s j =
    let a = s.3 in
    let k : t.kind ≡ K.Mark (codes "::") = first (a.0) (a.1) (s.0) s.1 a.3 a.2 s.2 in
    rw k refl
  where
    first : (a b c d : List TokenKind) → a ≡ K.Mark (codes "::") ∷ [] → c ≡ a ++ b → kinds (t ∷ us) ≡ c ++ d → t.kind ≡ K.Mark (codes "::")
    first a b c d p q r = cc (r, ap (λ z. z ++ d) q, ap (λ z. (z ++ b) ++ d) p)

identifier_apart : (k : TokenKind) (n : List ℕ) → k ≡ K.Name n → is_after k ≡ false
identifier_apart k n e = rw e refl

name_goes_on : (parts : List Identifier) (front rest : List Token) → joined (codes "::") identifier parts (kinds front)
    → begins_with is_joint rest ≡ true
    → closes (front ++ rest) ≡ false
name_goes_on [] front rest s j = absurd s
name_goes_on (i ∷ is) front rest s j =
    let p = parted front s.0 s.1 s.2 in
    let id_text : identifier i (kinds p.0) = subst (identifier i) (sym p.3) s.3 in
    let t = one_kind p.0 (K.Name id_text.0) id_text.2.0 in
    let more = joint_next p.1 rest is (subst (each (λ i. mark (codes "::") & identifier i) is) (sym p.4) s.4) j in
    rw (p.2, t.1, t.2, more) (none (is_identifier (K.Name id_text.0)))
  where
    none : (b : Bool) → (b && false) ≡ false
    none true = refl
    none false = refl

scoped_goes_on : (absolute : Bool) (parts : List Identifier) (front rest : List Token)
    → scoped (record { absolute = absolute; parts = parts }) (kinds front) → begins_with is_joint rest ≡ true
    → closes (front ++ rest) ≡ false
scoped_goes_on true parts front rest s j = apart front rest (K.Mark (codes "::")) s.1 (s.2 ∙ ap (λ z. z ++ s.1) s.3) refl refl
scoped_goes_on false parts front rest s j =
    name_goes_on parts front rest (subst (joined (codes "::") identifier parts) (sym (s.2 ∙ ap (λ z. z ++ s.1) s.3)) s.4) j

leaf_goes_on : (l : Leaf) (front rest : List Token) → leaf_text l (kinds front) → begins_with is_joint rest ≡ true
    → closes (front ++ rest) ≡ false
leaf_goes_on (L.Number n) front rest s j = apart front rest (K.Number n) [] s refl refl
leaf_goes_on (L.Character n) front rest s j = apart front rest (K.Char n) [] s refl refl
leaf_goes_on (L.Text n) front rest s j = apart front rest (K.Text n) [] s refl refl
leaf_goes_on (L.Truth true) front rest s j = apart front rest (K.Name (codes "TRUE")) [] s refl refl
leaf_goes_on (L.Truth false) front rest s j = apart front rest (K.Name (codes "FALSE")) [] s refl refl
leaf_goes_on (L.Name n) front rest s j = scoped_goes_on n.absolute n.parts front rest s j

leaf_in_goes_on : (lang : Language) (l : Leaf) (front rest : List Token) → leaf_in lang l (kinds front) → begins_with is_joint rest ≡ true
    → closes (front ++ rest) ≡ false
leaf_in_goes_on Corba l front rest s j = leaf_goes_on l front rest s j
leaf_in_goes_on Mig (L.Number n) front rest s j = apart front rest (K.Number n) [] s refl refl
leaf_in_goes_on Mig (L.Character n) front rest s j = absurd s
leaf_in_goes_on Mig (L.Text n) front rest s j = absurd s
leaf_in_goes_on Mig (L.Truth n) front rest s j = absurd s
leaf_in_goes_on Mig (L.Name n) front rest s j = absurd s

-- an expression, after which another goes on or `>` follows
pub goes_on : (lang : Language) (n loose : ℕ) (t : Tree) (front rest : List Token) → within lang n loose t (kinds front)
    → begins_with is_joint rest ≡ true
    → closes (front ++ rest) ≡ false
goes_on lang zero loose t front rest s j = absurd s
goes_on lang (suc n) loose t front rest (inr p) j = apart front rest (K.Mark (codes "(")) p.1 (p.2 ∙ ap (λ z. z ++ p.1) p.3) refl refl
goes_on lang (suc n) loose (leaf l) front rest (inl s) j = leaf_in_goes_on lang l front rest s j
goes_on lang (suc n) loose (unary op a) front rest (inl s) j =
    let x = s.1 in
    apart front rest (K.Mark (unary_spell op)) x.1 (x.2 ∙ ap (λ z. z ++ x.1) x.3) (unary_apart op).0 (unary_apart op).1
goes_on lang (suc n) loose (binary op a b) front rest (inl s) j =
    let x = s.1 in
    let p = parted front x.0 x.1 x.2 in
    let q = parted p.1 x.4.0 x.4.1 (p.4 ∙ x.4.2) in
    let t = one_kind q.0 (K.Mark (binary_spell op)) (q.3 ∙ x.4.3) in
    let joint : begins_with is_joint (p.1 ++ rest) ≡ true = rw (q.2, t.1, t.2) (joint_operator op) in
    let here = goes_on lang n (suc (looseness op)) a p.0 (p.1 ++ rest) (subst (within lang n (suc (looseness op)) a) (sym p.3) x.3) joint in
    rw (p.2, append_assoc) here
