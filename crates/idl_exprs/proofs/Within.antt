-- What is read of an expression is spelled, within the levels that it takes, by induction on levels and looseness.
use Rattle.std.proofs.Common.{◌≡◌, inl, inr, ℕ, zero, suc, ◌≤◌, max, List, [], ◌∷◌, ◌++◌, drop, Option, Some, None, Bool, true, false, ◌&&◌, cond, ◌==◌, nat_le, refl, sym, ap, subst, ◌∙◌, append_assoc, arith}
use Rattle.std.specs.Prelude.{codes}
use Rattle.std.specs.Str.{bytes_eq}
use Rattle.std.proofs.lemmas.Bool.{eqb-true, leb-true}
use Rattle.std.proofs.lemmas.List.{append-nil}
use Rattle.idl_lex.specs.declared.kinds.Token.{Token}
use Rattle.idl_lex.specs.declared.kinds.TokenKind.{TokenKind}
use Rattle.idl_lex.specs.declared.kinds.TokenKind.TheVariants as K
use Rattle.idl_read.specs.Reading.{Read, Reader, then_on, mark_is, mark_at, begins_with, token_at, both, after, before, either}
use Rattle.idl_read.specs.Grammar.{Text, kinds}
use Rattle.idl_read.proofs.Grammars.{then_some, read_is, map_some, cond_some, kinds-append}
use Rattle.idl_read.proofs.Leaves.{same_bytes, mark_reads}
use Rattle.idl_const.specs.declared.tree.UnaryOp.{UnaryOp}
use Rattle.idl_const.specs.declared.tree.BinaryOp.{BinaryOp}
use Rattle.idl_const.specs.declared.tree.BinaryOp.TheVariants as B
use Rattle.idl_exprs.specs.declared.languages.Language.{Language}
use Rattle.idl_exprs.specs.Trees.{Tree, leaf, unary, binary}
use Rattle.idl_exprs.specs.Spelling.{binary_spell, looseness, has_signs, has, bare, within}
use Rattle.idl_exprs.specs.Readers.{Levelled, leaf_by, is_unary, begins_sign, unary_in, binary_of, by_operator, binary_in, operator_of, operator_at, over, kept_in, chain_on, climb, primary_at, primary_of, within_at}
use Rattle.idl_exprs.proofs.LeavesRead.{leaf_by_is, unary_is}

-- ---- more levels, and looser operators

bare_more : (lang : Language) (P Q : ℕ → Tree → Text) → ((loose : ℕ) (t : Tree) (ks : List TokenKind) → P loose t ks → Q loose t ks)
    → (a b : ℕ) → a ≤ b → (t : Tree) (ks : List TokenKind) → bare lang P a t ks
    → bare lang Q b t ks
bare_more lang P Q f a b le (leaf l) ks s = s
bare_more lang P Q f a b le (unary op t) ks s = let r = s.1 in (s.0, (r.0, r.1, r.2, r.3, f 0 t r.1 r.4))
bare_more lang P Q f a b le (binary op x y) ks s =
    let r = s.1.4 in (
      (s.0.0, omega (arith, s.0.1, le)),
      (
        s.1.0,
        s.1.1,
        s.1.2,
        f (suc (looseness op)) x s.1.0 s.1.3,
        (r.0, r.1, r.2, r.3, f (looseness op) y r.1 r.4),
      ),
    )

pub more : (lang : Language) (n m : ℕ) → n ≤ m → (a b : ℕ) → a ≤ b → (t : Tree) (ks : List TokenKind) → within lang n a t ks
    → within lang m b t ks
more lang zero m le a b lt t ks s = absurd s
more lang (suc n) zero le a b lt t ks s = absurd (omega (arith, le))
more lang (suc n) (suc m) le a b lt t ks s =
    let fewer : n ≤ m = omega (arith, le) in
    elim s [
      | inl h ↦ inl (bare_more lang (within lang n) (within lang m)
          (λ loose u us w. more lang n m fewer loose loose (omega arith) u us w) a b lt t ks h)
      | inr p ↦ let r = p.4 in inr (p.0, p.1, p.2, p.3, (r.0, r.1, r.2, more lang n m fewer 6 6 (omega arith) t r.0 r.3, r.4))
    ]

-- ---- operators between operands

binary_named : (m : List ℕ) (op : BinaryOp) → binary_of m ≡ Some op → m ≡ binary_spell op
binary_named m op e =
    at (bytes_eq m (codes "|")) _ B.Or refl (λ h. same_bytes m (codes "|") h)
    (at (bytes_eq m (codes "^")) _ B.Xor refl (λ h. same_bytes m (codes "^") h)
    (at (bytes_eq m (codes "&")) _ B.And refl (λ h. same_bytes m (codes "&") h)
    (at (bytes_eq m (codes "<<")) _ B.Left refl (λ h. same_bytes m (codes "<<") h)
    (at (bytes_eq m (codes ">>")) _ B.Right refl (λ h. same_bytes m (codes ">>") h)
    (at (bytes_eq m (codes "+")) _ B.Add refl (λ h. same_bytes m (codes "+") h)
    (at (bytes_eq m (codes "-")) _ B.Sub refl (λ h. same_bytes m (codes "-") h)
    (at (bytes_eq m (codes "*")) _ B.Mul refl (λ h. same_bytes m (codes "*") h)
    (at (bytes_eq m (codes "/")) _ B.Div refl (λ h. same_bytes m (codes "/") h)
    (at (bytes_eq m (codes "%")) None B.Rem refl (λ h. same_bytes m (codes "%") h) (λ q. absurd cc)))))))))) e
  where
    at : (b : Bool) (others : Option BinaryOp) (o : BinaryOp) {c : Bool} → b ≡ c → (b ≡ true → m ≡ binary_spell o)
        → (others ≡ Some op → m ≡ binary_spell op) → cond b (Some o) others ≡ Some op → m ≡ binary_spell op
    at true others o h named others_are q = let is : o ≡ op = cc in subst (λ z. m ≡ binary_spell z) is (named refl)
    at false others o h named others_are q = others_are q

binary_kind : (k : TokenKind) (op : BinaryOp) → binary_in k ≡ Some op → k ≡ K.Mark (binary_spell op)
binary_kind (K.Mark m) op e = ap K.Mark (binary_named m op e)
binary_kind (K.Number n) op e = absurd cc
binary_kind (K.Char n) op e = absurd cc
binary_kind (K.Text n) op e = absurd cc
binary_kind (K.FileName n) op e = absurd cc
binary_kind (K.Name n) op e = absurd cc

-- the token of an operator that is read, and how loosely it binds
operator_some : (lang : Language) (angle : Bool) (loose : ℕ) (ts : List Token) (o op : Option BinaryOp) (x : BinaryOp) → o ≡ op
    → operator_of lang angle loose ts op ≡ Some x
    → (o ≡ Some x) × (looseness x ≡ loose) × (has lang x ≡ true)
operator_some lang angle loose ts o None x is e = absurd cc
operator_some lang angle loose ts o (Some y) x is e = go (has lang y) (looseness y == loose) _ refl refl e where
  go : (a b c : Bool) → has lang y ≡ a → (looseness y == loose) ≡ b → cond ((a && b) && c) (Some y) None ≡ Some x
      → (o ≡ Some x) × (looseness x ≡ loose) × (has lang x ≡ true)
  go true true true g h q = let same : y ≡ x = cc in
      (is ∙ ap Some same, subst (λ z. looseness z ≡ loose) same (eqb-true _ _ h), subst (λ z. has lang z ≡ true) same g)
  go true true false g h q = absurd cc
  go true false c g h q = absurd cc
  go false b c g h q = absurd cc

pub operator_found : (lang : Language) (angle : Bool) (loose : ℕ) (ts : List Token) (op : BinaryOp)
    → operator_at lang angle loose ts ≡ Some op
    → (t : Token) × (us : List Token) × (ts ≡ t ∷ us) × (t.kind ≡ K.Mark (binary_spell op)) × (looseness op ≡ loose) × (has lang op ≡ true)
operator_found lang angle loose [] op e = absurd cc
operator_found lang angle loose (t ∷ us) op e =
    let p = operator_some lang angle loose us (binary_in t.kind) (binary_in t.kind) op refl e in
    (t, us, refl, binary_kind t.kind op p.0, p.1, p.2)

-- ---- what is read

after_some : {A : Type 0} (r : Reader (Unit {0})) (s : Reader A) (ts : List Token) (a : A) (rest : List Token)
    → after r s ts ≡ Some (a, rest)
    → (u : Unit {0}) × (us : List Token) × (r ts ≡ Some (u, us)) × (s us ≡ Some (a, rest))
after_some {A} r s ts a rest e =
    let m = map_some (λ (x : Unit {0} × A). x.1) (both r s ts) a rest e in
    let k = then_some (r ts) (λ a us. then_on (s us) (λ b vs. Some ((a, b), vs))) (m.0, rest) m.1 in
    let l = then_some (s k.0.1) (λ b vs. Some ((k.0.0, b), vs)) (m.0, rest) k.2 in
    let is = read_is (k.0.0, l.0.0) m.0 l.0.1 rest l.2 in
    (k.0.0, k.0.1, k.1, l.1 ∙ ap (λ (z : A). Some (z, l.0.1)) (ap (λ (z : Unit {0} × A). z.1) is.0 ∙ m.2) ∙ ap (λ z. Some (a, z)) is.1)

before_some : {A : Type 0} (r : Reader A) (s : Reader (Unit {0})) (ts : List Token) (a : A) (rest : List Token)
    → before r s ts ≡ Some (a, rest)
    → (us : List Token) × (r ts ≡ Some (a, us)) × (s us ≡ Some (tt, rest))
before_some {A} r s ts a rest e =
    let m = map_some (λ (x : A × Unit {0}). x.0) (both r s ts) a rest e in
    let k = then_some (r ts) (λ a us. then_on (s us) (λ b vs. Some ((a, b), vs))) (m.0, rest) m.1 in
    let l = then_some (s k.0.1) (λ b vs. Some ((k.0.0, b), vs)) (m.0, rest) k.2 in
    let is = read_is (k.0.0, l.0.0) m.0 l.0.1 rest l.2 in
    (k.0.1, k.1 ∙ ap (λ (z : A). Some (z, k.0.1)) (ap (λ (z : A × Unit {0}). z.0) is.0 ∙ m.2), l.1 ∙ ap (λ z. Some (tt, z)) is.1)

-- what is read is spelled
abbrev pub Found : Language → Reader Levelled → ℕ → ℕ → Type 0
Found lang r levels loose = (ts : List Token) (x : Levelled) (rest : List Token) → r ts ≡ Some (x, rest)
    → (x.1 ≤ levels) × ((front : List Token) × (ts ≡ front ++ rest) × within lang x.1 loose x.0 (kinds front))

module _ (lang : Language) (n : ℕ) (operand : Language → Bool → ℕ → Reader Levelled)
    (found : (angle : Bool) (loose : ℕ) → Found lang (operand lang angle loose) n loose) where
  -- one more operator
  joined_up : (o : BinaryOp) (loose : ℕ) (y z : Levelled) (f g : List Token) (t : Token) → looseness o ≡ loose → has lang o ≡ true
      → t.kind ≡ K.Mark (binary_spell o) → within lang y.1 (suc loose) y.0 (kinds f) → within lang z.1 loose z.0 (kinds g)
      → within lang (over o y z).1 (suc loose) (over o y z).0 (kinds (f ++ t ∷ g))
  joined_up o loose y z f g t is h k s w =
      let left = more lang y.1 (max y.1 z.1) (omega arith) (suc loose) (suc (looseness o)) (omega (arith, is)) y.0 (kinds f) s in
      let right = more lang z.1 (max y.1 z.1) (omega arith) loose (looseness o) (omega (arith, is)) z.0 (kinds g) w in
      inl (
        (h, omega (arith, is)),
        (kinds f, kinds (t ∷ g), kinds-append f (t ∷ g), left, (t.kind ∷ [], kinds g, refl, ap (λ k. k ∷ []) k, right)),
      )

  abbrev Chain : Bool → ℕ → ℕ → Levelled → List Token → Type 0
  Chain angle loose fuel x rest = (y : Levelled) (us f0 : List Token) → y.1 ≤ suc n → within lang y.1 (suc loose) y.0 (kinds f0)
      → chain_on (operand lang angle loose) (operator_at lang angle loose) (suc n) fuel y us ≡ Some (x, rest)
      → (x.1 ≤ suc n) × ((f : List Token) × (us ≡ f ++ rest) × within lang x.1 (suc loose) x.0 (kinds (f0 ++ f)))

  kept : (c : Bool) (r : Read Levelled) (y : Levelled × List Token) → cond c r None ≡ Some y → (c ≡ true) × (r ≡ Some y)
  kept true r y e = (refl, e)
  kept false r y e = absurd cc

  chain_by : (angle : Bool) (loose fuel : ℕ) (x : Levelled) (rest : List Token) → Chain angle loose fuel x rest
      → (y : Levelled) (us f0 : List Token) → y.1 ≤ suc n → within lang y.1 (suc loose) y.0 (kinds f0) → (o : Option BinaryOp)
      → operator_at lang angle loose us ≡ o → by_operator o (Some (y, us)) (λ o. then_on (operand lang angle loose (drop 1 us))
      (λ z vs. kept_in (suc n) (over o y z) (chain_on (operand lang angle loose) (operator_at lang angle loose) (suc n) fuel
      (over o y z)) vs))
      ≡ Some (x, rest)
      → (x.1 ≤ suc n) × ((f : List Token) × (us ≡ f ++ rest) × within lang x.1 (suc loose) x.0 (kinds (f0 ++ f)))
  chain_by angle loose fuel x rest next y us f0 le s None h q =
      let is = read_is y x us rest q in (
        subst
            (λ z. z.1 ≤ suc n) is.0 le,
        (
          [],
          is.1,
          subst (λ (z : Levelled).
              within lang z.1 (suc loose) z.0 (kinds (f0 ++ []))) is.0
              (subst (λ z. within lang y.1 (suc loose) y.0 (kinds z)) (sym (append-nil f0)) s),
        ),
      )
  chain_by angle loose fuel x rest next y us f0 le s (Some o) h q =
      let m =
      then_some (operand lang angle loose (drop 1 us))
      (λ z vs.
      kept_in (suc n) (over o y z) (chain_on (operand lang angle loose) (operator_at lang angle loose) (suc n) fuel (over o y z)) vs)
      (x, rest)
      q in
      let z = m.0.0 in
      let low =
      kept (nat_le (over o y z).1 (suc n)) (chain_on (operand lang angle loose) (operator_at lang angle loose) (suc n) fuel
      (over o y z) m.0.1)
      (x, rest) m.2 in
      let t = operator_found lang angle loose us o h in
      let a = found angle loose (drop 1 us) z m.0.1 m.1 in
      let us_is : us ≡ t.0 ∷ (a.1.0 ++ m.0.1) = t.2 ∙ ap (λ w. t.0 ∷ w) (sym (ap (drop 1) t.2) ∙ a.1.1) in
      let b = next (over o y z) m.0.1 (f0 ++ t.0 ∷ a.1.0) (leb-true _ _ low.0)
      (joined_up o loose y z f0 a.1.0 t.0 t.4 t.5 t.3 s a.1.2) low.1
      in (
        b.0,
        (
          t.0 ∷ (a.1.0 ++ b.1.0),
          us_is ∙ ap (λ w. t.0 ∷ w) (ap (λ w. a.1.0 ++ w) b.1.1 ∙ sym (append_assoc a.1.0 b.1.0 rest)),
          subst (λ w. within lang x.1 (suc loose) x.0 (kinds w)) (append_assoc f0 (t.0 ∷ a.1.0) b.1.0) b.1.2,
        ),
      )

  chain_found : (angle : Bool) (loose fuel : ℕ) (x : Levelled) (rest : List Token) → Chain angle loose fuel x rest
  chain_found angle loose zero x rest y us f0 le s e = absurd cc
  chain_found angle loose (suc fuel) x rest y us f0 le s e = chain_by angle loose fuel x rest (chain_found angle loose fuel x rest) y us
      f0 le s (operator_at lang angle loose us) refl e

  abbrev Spelled : Levelled → List Token → List Token → Type 0
  Spelled x ts rest = (x.1 ≤ suc n) × ((front : List Token) × (ts ≡ front ++ rest) × within lang x.1 0 x.0 (kinds front))

  in_parentheses : (angle : Bool) (ts : List Token) (x : Levelled) (rest : List Token)
      → after (mark_at (codes "(")) (before (operand lang false 6) (mark_at (codes ")"))) ts ≡ Some (x, rest)
      → Spelled (x.0, suc x.1) ts rest
  in_parentheses angle ts x rest e =
      let opened = after_some (mark_at (codes "(")) (before (operand lang false 6) (mark_at (codes ")"))) ts x rest e in
      let close = before_some (operand lang false 6) (mark_at (codes ")")) opened.1 x rest opened.3 in
      let a = (mark_reads (codes "(")).found ts tt opened.1 opened.2 in
      let b = found false 6 opened.1 x close.0 close.1 in
      let c = (mark_reads (codes ")")).found close.0 tt rest close.2 in (
        omega (arith, b.0),
        (
          a.0 ++ (b.1.0 ++ c.0),
          a.1
              ∙ ap (λ z. a.0 ++ z) (b.1.1 ∙ ap (λ z. b.1.0 ++ z) c.1 ∙ sym (append_assoc b.1.0 c.0 rest))
              ∙ sym (append_assoc a.0 (b.1.0 ++ c.0) rest),
          inr (
            kinds a.0,
            kinds (b.1.0 ++ c.0),
            kinds-append a.0 (b.1.0 ++ c.0),
            a.2,
            (kinds b.1.0, kinds c.0, kinds-append b.1.0 c.0, b.1.2, c.2),
          ),
        ),
      )

  with_operator : (angle : Bool) → has_signs lang ≡ true → (ts : List Token) (x : UnaryOp × Levelled) (rest : List Token)
      → both (token_at unary_in) (operand lang angle 0) ts ≡ Some (x, rest)
      → Spelled (unary x.0 x.1.0, suc x.1.1) ts rest
  with_operator angle signs ts x rest e =
      let m = then_some (token_at unary_in ts) (λ a us. then_on (operand lang angle 0 us) (λ b vs. Some ((a, b), vs))) (x, rest) e in
      let k = then_some (operand lang angle 0 m.0.1) (λ b vs. Some ((m.0.0, b), vs)) (x, rest) m.2 in
      let is = read_is (m.0.0, k.0.0) x k.0.1 rest k.2 in
      let a = unary_is.found ts m.0.0 m.0.1 m.1 in
      let b = found angle 0 m.0.1 k.0.0 k.0.1 k.1 in
      subst (λ (z : UnaryOp × Levelled). Spelled (unary z.0 z.1.0, suc z.1.1) ts rest) is.0 (
        omega (arith, b.0),
        (
          a.0 ++ b.1.0,
          a.1 ∙ ap (λ z. a.0 ++ z) (b.1.1 ∙ ap (λ z. b.1.0 ++ z) is.1) ∙ sym (append_assoc a.0 b.1.0 rest),
          inl (signs, (kinds a.0, kinds b.1.0, kinds-append a.0 b.1.0, a.2, b.1.2)),
        ),
      )

  signs_are : (ts : List Token) → begins_sign lang ts ≡ true → has_signs lang ≡ true
  signs_are ts e = go (has_signs lang) e where
    go : (b : Bool) → (b && begins_with is_unary ts) ≡ true → b ≡ true
    go true q = refl
    go false q = absurd cc

  primary_found : (angle : Bool) → Found lang (primary_at operand lang angle) (suc n) 0
  primary_found angle ts x rest e =
      let m =
      map_some primary_of
      (either (begins_with (mark_is (codes "("))) (after (mark_at (codes "(")) (before (operand lang false 6) (mark_at (codes ")"))))
      (either (begins_sign lang) (both (token_at unary_in) (operand lang angle 0)) (leaf_by lang)) ts) x rest e in
      subst (λ z. Spelled z ts rest) m.2 (elim (cond_some (begins_with (mark_is (codes "(")) ts) _ _ (m.0, rest) m.1) [
        | inl (t, e1) ↦
            let k = map_some inl (after (mark_at (codes "(")) (before (operand lang false 6) (mark_at (codes ")"))) ts) m.0 rest e1 in
            subst (λ z. Spelled (primary_of z) ts rest) k.2 (in_parentheses angle ts k.0 rest k.1)
        | inr (t, e1) ↦
            let k = map_some inr (either (begins_sign lang) (both (token_at unary_in) (operand lang angle 0))
            (leaf_by lang) ts) m.0 rest e1 in
            subst (λ z. Spelled (primary_of z) ts rest) k.2 (elim (cond_some (begins_sign lang ts) _ _ (k.0, rest) k.1) [
              | inl (t2, e2) ↦
                  let l = map_some inl (both (token_at unary_in) (operand lang angle 0) ts) k.0 rest e2 in
                  subst (λ z. Spelled (primary_of (inr z)) ts rest) l.2 (with_operator angle (signs_are ts t2) ts l.0 rest l.1)
              | inr (t2, e2) ↦
                  let l = map_some inr (leaf_by lang ts) k.0 rest e2 in
                  let a = (leaf_by_is lang).found ts l.0 rest l.1 in
                  subst (λ z. Spelled (primary_of (inr z)) ts rest) l.2 (omega arith, (a.0, a.1, inl a.2))
            ])
      ])

  climb_found : (angle : Bool) (loose : ℕ) → Found lang (climb operand n lang angle loose) (suc n) loose
  climb_found angle zero ts x rest e = primary_found angle ts x rest e
  climb_found angle (suc loose) ts x rest e =
      let m =
      then_some (climb operand n lang angle loose ts)
      (λ y us. chain_on (operand lang angle loose) (operator_at lang angle loose) (suc n) (suc n) y us) (x, rest) e in
      let y = m.0.0 in
      let a = climb_found angle loose ts y m.0.1 m.1 in
      let b =
      chain_found angle loose (suc n) x rest y m.0.1 a.1.0 a.0
      (more lang y.1 y.1 (omega arith) loose (suc loose) (omega arith) y.0 (kinds a.1.0) a.1.2) m.2 in
      (b.0, (a.1.0 ++ b.1.0, a.1.1 ∙ ap (λ w. a.1.0 ++ w) b.1.1 ∙ sym (append_assoc a.1.0 b.1.0 rest), b.1.2))

pub within_found : (n : ℕ) (lang : Language) (angle : Bool) (loose : ℕ) → Found lang (within_at n lang angle loose) n loose
within_found zero lang angle loose ts x rest e = absurd cc
within_found (suc n) lang angle loose ts x rest e = climb_found lang n (within_at n) (within_found n lang) angle loose ts x rest e
