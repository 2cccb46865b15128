-- What is spelled is read, by induction on levels and looseness.
use Rattle.std.proofs.Common.{◌≡◌, inl, inr, ℕ, zero, suc, ◌+◌, ◌-◌, ◌<◌, ◌≤◌, max, List, [], ◌∷◌, ◌++◌, Option, Some, None, Bool, true, false, ◌&&◌, ◌==◌, nat_le, refl, sym, ap, subst, ◌∙◌, append_assoc, arith}
use Rattle.std.specs.Prelude.{codes}
use Rattle.std.proofs.lemmas.Bool.{le-leb, eq-eqb, ne_eqb, cases_lt}
use Rattle.idl_lex.specs.declared.kinds.Token.{Token}
use Rattle.idl_lex.specs.declared.kinds.TokenKind.TheVariants as K
use Rattle.idl_read.specs.Reading.{Reader, mark_is, begins_with}
use Rattle.idl_read.specs.Grammar.{mark, ◌&◌, kinds}
use Rattle.idl_read.proofs.Grammars.{parted}
use Rattle.idl_read.proofs.Leaves.{one_kind, same_bytes, begins_so, begins_not, Apart, apart_mark}
use Rattle.idl_const.specs.declared.tree.UnaryOp.{UnaryOp}
use Rattle.idl_const.specs.declared.tree.BinaryOp.{BinaryOp}
use Rattle.idl_const.specs.declared.tree.BinaryOp.TheVariants as B
use Rattle.idl_exprs.specs.declared.languages.Language.{Language}
use Rattle.idl_exprs.specs.declared.languages.Language.TheVariants.{Corba}
use Rattle.idl_exprs.specs.declared.tree.Leaf.{Leaf}
use Rattle.idl_exprs.specs.Trees.{Tree, leaf, unary, binary}
use Rattle.idl_exprs.specs.Spelling.{leaf_in, has_signs, has, unary_spell, binary_spell, looseness, within}
use Rattle.idl_exprs.specs.Readers.{Levelled, is_unary, is_right, is_joint, closes, operator_at, over, chain_on, climb, primary_at, within_at}
use Rattle.idl_exprs.proofs.LeavesRead.{NameMay, is_leaf, leads_leaf_in, leaf_by_is, unary_is, leads_unary}
use Rattle.idl_exprs.proofs.Closing.{binary_back, joint_operator, goes_on}

-- what may follow an expression: no part of a name, no operator that binds less loosely, and between `<` and `>` a token that goes on or ends there
pub record MayFollow (lang : Language) (angle : Bool) (loose : ℕ) (rest : List Token) : Type 0 where
  pub name : NameMay rest
  pub no_operator : (d : ℕ) → d < loose → operator_at lang angle d rest ≡ None
  pub joint : angle ≡ true → begins_with is_joint rest ≡ true

-- the same, of an expression of CORBA
abbrev pub May : Bool → ℕ → List Token → Type 0
May angle loose rest = MayFollow Corba angle loose rest

tighter : (lang : Language) (angle : Bool) (a b : ℕ) (rest : List Token) → a ≤ b → MayFollow lang angle b rest → MayFollow lang angle a rest
tighter lang angle a b rest le m = record { name = m.name; no_operator = λ d lt. m.no_operator d (omega (arith, lt, le)); joint = m.joint }

and_none : (b : Bool) → (b && false) ≡ false
and_none true = refl
and_none false = refl

-- the operator that is there is read
operator_again : (lang : Language) (angle : Bool) (op : BinaryOp) (t : Token) (rest : List Token) → has lang op ≡ true
    → t.kind ≡ K.Mark (binary_spell op) → (angle ≡ true → closes rest ≡ false)
    → operator_at lang angle (looseness op) (t ∷ rest) ≡ Some op
operator_again lang false op t rest there k open_ = let same : (looseness op == looseness op)
    ≡ true = eq-eqb (looseness op) (looseness op) refl in rw (k, binary_back op, there, same) refl
operator_again lang true op t rest there k open_ =
    let same : (looseness op == looseness op) ≡ true = eq-eqb (looseness op) (looseness op) refl in
    let shut = open_ refl in
    let none = and_none (is_right op) in
    rw (k, binary_back op, there, same, shut, none) refl

-- and is none that binds otherwise
operator_other : (lang : Language) (angle : Bool) (op : BinaryOp) (d : ℕ) (t : Token) (rest : List Token)
    → t.kind ≡ K.Mark (binary_spell op) → d < looseness op
    → operator_at lang angle d (t ∷ rest) ≡ None
operator_other lang angle op d t rest k lt = let other : (looseness op == d)
    ≡ false = ne_eqb (looseness op) d (omega (arith, lt)) in rw (k, binary_back op, other, and_none (has lang op)) refl

name_ended : (op : BinaryOp) → mark_is (codes "::") (K.Mark (binary_spell op)) ≡ false
name_ended B.Or = refl
name_ended B.Xor = refl
name_ended B.And = refl
name_ended B.Left = refl
name_ended B.Right = refl
name_ended B.Add = refl
name_ended B.Sub = refl
name_ended B.Mul = refl
name_ended B.Div = refl
name_ended B.Rem = refl

before_operator : (lang : Language) (angle : Bool) (op : BinaryOp) (t : Token) (rest : List Token) → t.kind ≡ K.Mark (binary_spell op)
    → MayFollow lang angle (looseness op) (t ∷ rest)
before_operator lang angle op t rest k = record {
  name = rw k (name_ended op);
  no_operator = λ d lt. operator_other lang angle op d t rest k lt;
  joint = λ yes. rw k (joint_operator op);
}

-- after what is in parentheses
before_close : (lang : Language) (t : Token) (rest : List Token) → t.kind ≡ K.Mark (codes ")") → MayFollow lang false 6 (t ∷ rest)
before_close lang t rest k = record { name = rw k refl; no_operator = λ d lt. rw k refl; joint = λ yes. absurd cc }

same_mark : (m : List ℕ) → mark_is (codes "::") (K.Mark m) ≡ true → m ≡ codes "::"
same_mark m h = same_bytes m (codes "::") h

apart_mark_of : (m : List ℕ) (b : Bool) → mark_is (codes "::") (K.Mark m) ≡ b → is_leaf (K.Mark m) ≡ true → is_unary (K.Mark m) ≡ false
apart_mark_of m true h e = let is = same_mark m h in rw is refl
apart_mark_of m false h e = absurd (let no : is_leaf (K.Mark m) ≡ false = rw h refl in cc)

apart_unary : Apart is_leaf is_unary
apart_unary (K.Mark m) e = apart_mark_of m (mark_is (codes "::") (K.Mark m)) refl e
apart_unary (K.Number m) e = refl
apart_unary (K.Char m) e = refl
apart_unary (K.Text m) e = refl
apart_unary (K.FileName m) e = refl
apart_unary (K.Name m) e = refl

-- ---- the two statements

-- an expression is read, within the levels that it has
abbrev Reads : Language → ℕ → Type 0
Reads lang n = (angle : Bool) (loose : ℕ) (t : Tree) (front rest : List Token) (m : ℕ) → n ≤ m → within lang n loose t (kinds front)
    → MayFollow lang angle loose rest → (h : ℕ) × (h ≤ n) × (within_at m lang angle loose (front ++ rest) ≡ Some ((t, h), rest))

abbrev Climbs : Language → ℕ → ℕ → Type 0
Climbs lang n loose = (angle : Bool) (t : Tree) (front rest : List Token) (m : ℕ) → n ≤ suc m → within lang n loose t (kinds front)
    → MayFollow lang angle loose rest → (h : ℕ) × (h ≤ n) × (climb (within_at m) m lang angle loose (front ++ rest) ≡ Some ((t, h), rest))

-- an expression is what has been read when its last operand has, and operators may follow
abbrev Chains : Language → ℕ → ℕ → Type 0
Chains lang n d = (angle : Bool) (t : Tree) (front rest : List Token) (m : ℕ) → n ≤ suc m → within lang n (suc d) t (kinds front)
    → MayFollow lang angle d rest
    → (h : ℕ) × (left : ℕ) × (h ≤ n) × (suc (suc m) ≤ left + n)
    × (climb (within_at m) m lang angle (suc d) (front ++ rest)
    ≡ chain_on (within_at m lang angle d) (operator_at lang angle d) (suc m) left (t, h) rest)

module _ (lang : Language) (n : ℕ) (reads : Reads lang n) (chains : (d : ℕ) → Chains lang n d) where
  -- ---- operands

  by_leaf : (angle : Bool) (l : Leaf) (front rest : List Token) (m : ℕ) → leaf_in lang l (kinds front) → NameMay rest
      → primary_at (within_at m) lang angle (front ++ rest) ≡ Some ((leaf l, 1), rest)
  by_leaf angle l front rest m s may =
      let no_open = begins_not (mark_is (codes "(")) (leads_leaf_in lang) (apart_mark is_leaf (codes "(") refl) l front rest s in
      let no_unary = begins_not is_unary (leads_leaf_in lang) apart_unary l front rest s in
      rw (no_open, no_unary, and_none (has_signs lang), (leaf_by_is lang).again l front rest s may) refl

  by_unary : (angle : Bool) (op : UnaryOp) (a : Tree) (front rest : List Token) (m : ℕ) → n ≤ m → has_signs lang ≡ true
      → (mark (unary_spell op) & within lang n 0 a) (kinds front) → MayFollow lang angle 0 rest
      → (h : ℕ) × (h ≤ suc n) × (primary_at (within_at m) lang angle (front ++ rest) ≡ Some ((unary op a, h), rest))
  by_unary angle op a front rest m le signs s may =
      let p = parted front s.0 s.1 s.2 in
      let sign : mark (unary_spell op) (kinds p.0) = p.3 ∙ s.3 in
      let r = reads angle 0 a p.1 rest m le (subst (within lang n 0 a) (sym p.4) s.4) may in
      let no_open = begins_not (mark_is (codes "(")) leads_unary (apart_mark is_unary (codes "(") refl) op p.0 (p.1 ++ rest) sign in
      let goes = begins_so leads_unary op p.0 (p.1 ++ rest) sign in
      let one = unary_is.again op p.0 (p.1 ++ rest) sign tt in
      let parts : front ++ rest ≡ p.0 ++ (p.1 ++ rest) = ap (λ z. z ++ rest) p.2 ∙ append_assoc p.0 p.1 rest in
      let done : primary_at (within_at m) lang angle (p.0 ++ (p.1 ++ rest)) ≡ Some ((unary op a, suc r.0), rest) =
      rw (no_open, signs, goes, one, r.2) refl in
      (suc r.0, omega (arith, r.1), ap (primary_at (within_at m) lang angle) parts ∙ done)

  by_parentheses : (angle : Bool) (t : Tree) (front rest : List Token) (m : ℕ) → n ≤ m
      → (mark (codes "(") & within lang n 6 t & mark (codes ")")) (kinds front)
      → (h : ℕ) × (h ≤ suc n) × (primary_at (within_at m) lang angle (front ++ rest) ≡ Some ((t, h), rest))
  by_parentheses angle t front rest m le s =
      let p = parted front s.0 s.1 s.2 in
      let q = parted p.1 s.4.0 s.4.1 (p.4 ∙ s.4.2) in
      let o = one_kind p.0 (K.Mark (codes "(")) (p.3 ∙ s.3) in
      let c = one_kind q.1 (K.Mark (codes ")")) (q.4 ∙ s.4.4) in
      let r = reads false 6 t q.0 (c.0 ∷ rest) m le (subst (within lang n 6 t) (sym q.3) s.4.3) (before_close lang c.0 rest c.2) in
      let parts : front ++ rest ≡ o.0 ∷ (q.0 ++ (c.0 ∷ rest)) =
      ap (λ z. z ++ rest) (p.2 ∙ ap (λ z. z ++ p.1) o.1 ∙ ap (λ z. o.0 ∷ z) (q.2 ∙ ap (λ z. q.0 ++ z) c.1)) ∙ ap (λ z.
      o.0 ∷ z) (append_assoc q.0 (c.0 ∷ []) rest) in (
        suc r.0,
        omega (arith, r.1),
        ap (primary_at (within_at m) lang angle) parts
            ∙ closed m angle o.0 c.0 (q.0 ++ (c.0 ∷ rest)) rest (t, r.0) o.2 c.2 r.2,
      )
    where
      closed : (m : ℕ) (angle : Bool) (o c : Token) (us rest : List Token) (x : Levelled) → o.kind ≡ K.Mark (codes "(") → c.kind
          ≡ K.Mark (codes ")") → within_at m lang false 6 us ≡ Some (x, c ∷ rest)
          → primary_at (within_at m) lang angle (o ∷ us) ≡ Some ((x.0, suc x.1), rest)
      closed m angle o c us rest x p q e = rw (p, e, q) refl

  -- ---- operators

  climbs_first : Climbs lang (suc n) 0
  climbs_first angle t front rest m le (inr p) may = by_parentheses angle t front rest m (omega (arith, le)) p
  climbs_first angle (leaf l) front rest m le (inl s) may = (1, omega arith, by_leaf angle l front rest m s may.name)
  climbs_first angle (unary op a) front rest m le (inl s) may = by_unary angle op a front rest m (omega (arith, le)) s.0 s.1 may
  climbs_first angle (binary op a b) front rest m le (inl s) may = absurd (omega (arith, s.0.1))

  -- an operand whose operators bind less loosely
  tighter_chain : (d : ℕ) → Climbs lang (suc n) d → (angle : Bool) (t : Tree) (front rest : List Token) (m : ℕ)
      → suc n ≤ suc m → within lang (suc n) d t (kinds front) → MayFollow lang angle d rest
      → (h : ℕ) × (left : ℕ) × (h ≤ suc n) × (suc (suc m) ≤ left + suc n) × (climb (within_at m) m lang angle (suc d) (front ++ rest)
      ≡ chain_on (within_at m lang angle d) (operator_at lang angle d) (suc m) left (t, h) rest)
  tighter_chain d climbs angle t front rest m le s may =
      let c = climbs angle t front rest m le s may in
      (c.0, suc m, c.1, omega arith, rw c.2 refl)

  -- an operator that binds just so loosely
  one_more : (angle : Bool) (op : BinaryOp) (a b : Tree) (front rest : List Token) (m : ℕ) → suc n ≤ suc m → has lang op ≡ true
      → (within lang n (suc (looseness op)) a & mark (binary_spell op) & within lang n (looseness op) b) (kinds front)
      → MayFollow lang angle (looseness op) rest
      → (h : ℕ) × (left : ℕ) × (h ≤ suc n) × (suc (suc m) ≤ left + suc n)
      × (climb (within_at m) m lang angle (suc (looseness op)) (front ++ rest)
      ≡ chain_on (within_at m lang angle (looseness op)) (operator_at lang angle (looseness op)) (suc m) left (binary op a b, h) rest)
  one_more angle op a b front rest m le there s may =
      let d = looseness op in
      let p = parted front s.0 s.1 s.2 in
      let q = parted p.1 s.4.0 s.4.1 (p.4 ∙ s.4.2) in
      let o = one_kind q.0 (K.Mark (binary_spell op)) (q.3 ∙ s.4.3) in
      let right : within lang n d b (kinds q.1) = subst (within lang n d b) (sym q.4) s.4.4 in
      let y = reads angle d b q.1 rest m (omega (arith, le)) right may in
      let x = chains d angle a p.0 (o.0 ∷ (q.1 ++ rest)) m (omega (arith, le)) (subst (within lang n (suc d) a) (sym p.3) s.3)
      (before_operator lang angle op o.0 (q.1 ++ rest) o.2) in
      let goes = operator_again lang angle op o.0 (q.1 ++ rest) there o.2 (λ yes. goes_on lang n d b q.1 rest right (may.joint yes)) in
      let low : nat_le (suc (max x.0 y.0)) (suc m) ≡ true = le-leb (suc (max x.0 y.0)) (suc m) (omega (arith, x.2, y.1, le)) in
      let some : x.1 ≡ suc (x.1 - 1) = omega (arith, x.3, le) in
      let step : chain_on (within_at m lang angle d) (operator_at lang angle d) (suc m) x.1 (a, x.0) (o.0 ∷ (q.1 ++ rest))
      ≡ chain_on (within_at m lang angle d) (operator_at lang angle d) (suc m) (x.1 - 1) (binary op a b, suc (max x.0 y.0)) rest =
      stepped (within_at m lang angle d) (operator_at lang angle d) (suc m) x.1 (x.1 - 1) (a, x.0) (b, y.0) op o.0
      (q.1 ++ rest) rest some goes y.2
      low in
      let parts : front ++ rest ≡ p.0 ++ (o.0 ∷ (q.1 ++ rest)) =
      ap (λ z. z ++ rest) (p.2 ∙ ap (λ z. p.0 ++ z) (q.2 ∙ ap (λ z. z ++ q.1) o.1)) ∙ append_assoc p.0 (o.0 ∷ q.1) rest in
      (suc (max x.0 y.0), x.1 - 1, omega (arith, x.2, y.1), omega (arith, x.3, some), rw parts (x.4 ∙ step))
    where
      stepped : (operand : Reader Levelled) (op : List Token → Option BinaryOp) (levels more_ left : ℕ) (x y : Levelled) (o : BinaryOp)
          (t : Token) (ts rest : List Token) → more_ ≡ suc left
          → op (t ∷ ts) ≡ Some o → operand ts ≡ Some (y, rest) → nat_le (over o x y).1 levels ≡ true
          → chain_on operand op levels more_ x (t ∷ ts) ≡ chain_on operand op levels left (over o x y) rest
      stepped operand op levels more_ left x y o t ts rest some goes e low = rw (some, goes, e, low) refl

  chains_at : (d : ℕ) → Climbs lang (suc n) d → Chains lang (suc n) d
  chains_at d climbs angle (leaf l) front rest m le (inl s) may = tighter_chain d climbs angle (leaf l) front rest m le (inl s) may
  chains_at d climbs angle (unary op a) front rest m le (inl s) may = tighter_chain d climbs angle (unary op a) front rest m le (inl s) may
  chains_at d climbs angle (binary op a b) front rest m le (inl s) may = elim (cases_lt (looseness op) d) [
    | inl lt ↦ tighter_chain d climbs angle (binary op a b) front rest m le (inl ((s.0.0, lt), s.1)) may
    | inr ge ↦
        let same : looseness op ≡ d = omega (arith, ge, s.0.1) in
        subst
        (λ z.
        MayFollow lang angle z rest → (h : ℕ) × (left : ℕ) × (h ≤ suc n) × (suc (suc m) ≤ left + suc n)
        × (climb (within_at m) m lang angle (suc z) (front ++ rest)
        ≡ chain_on (within_at m lang angle z) (operator_at lang angle z) (suc m) left (binary op a b, h) rest))
        same (one_more angle op a b front rest m le s.0.0 s.1) may
  ]
  chains_at d climbs angle t front rest m le (inr p) may = tighter_chain d climbs angle t front rest m le (inr p) may

  climbs_all : (loose : ℕ) → Climbs lang (suc n) loose
  climbs_all zero angle t front rest m le s may = climbs_first angle t front rest m le s may
  climbs_all (suc d) angle t front rest m le s may =
      let c = chains_at d (climbs_all d) angle t front rest m le s (tighter lang angle d (suc d) rest (omega arith) may) in
      let some : c.1 ≡ suc (c.1 - 1) = omega (arith, c.3, le) in (
        c.0,
        c.2,
        c.4 ∙ ended (within_at m lang angle d) (operator_at lang angle d) (suc m) c.1 (c.1 - 1) (t, c.0) rest some
            (may.no_operator d (omega arith)),
      )
    where
      ended : (operand : Reader Levelled) (op : List Token → Option BinaryOp) (levels more_ left : ℕ) (x : Levelled) (ts : List Token)
          → more_ ≡ suc left → op ts ≡ None → chain_on operand op levels more_ x ts ≡ Some (x, ts)
      ended operand op levels more_ left x ts some none = rw (some, none) refl

  reads_next : Reads lang (suc n)
  reads_next angle loose t front rest zero le s may = absurd (omega (arith, le))
  reads_next angle loose t front rest (suc m) le s may = climbs_all loose angle t front rest m le s may

all : (lang : Language) (n : ℕ) → Reads lang n × ((d : ℕ) → Chains lang n d)
all lang zero = ((λ angle loose t front rest m le s may. absurd s), (λ d angle t front rest m le s may. absurd s))
all lang (suc n) = let a = all lang n in (reads_next lang n a.0 a.1, λ d. chains_at lang n a.0 a.1 d (climbs_all lang n a.0 a.1 d))

pub within_again : (lang : Language) (n : ℕ) (angle : Bool) (loose : ℕ) (t : Tree) (front rest : List Token) (m : ℕ) → n ≤ m
    → within lang n loose t (kinds front) → MayFollow lang angle loose rest
    → (h : ℕ) × (h ≤ n) × (within_at m lang angle loose (front ++ rest) ≡ Some ((t, h), rest))
within_again lang n = (all lang n).0
