-- Files: their trees, and the lines on which tokens without one fail.
use Rattle.std.proofs.Common.{◌≡◌, ◌⊎◌, inl, inr, ℕ, List, Some, None, refl, sym, ap, subst, ◌∙◌}
use Rattle.idl_lex.specs.declared.kinds.Token.{Token}
use Rattle.idl_read.specs.declared.errors.SyntaxErr.{SyntaxErr}
use Rattle.idl_read.specs.declared.errors.SyntaxErr.TheVariants.{Syntax, NoMemory}
use Rattle.idl_read.specs.Reading.{Read}
use Rattle.idl_read.specs.Grammar.{each, kinds}
use Rattle.idl_read.specs.Files.{AreDefs, HaveNone as statements_have_none, Explains as statements_explain}
use Rattle.idl_read.proofs.Grammars.{read_is, kinds-append, parted}
use Rattle.idl_read.proofs.Files as files
use Rattle.idl_exprs.specs.Trees.{Tree}
use Rattle.mig_syntax.specs.Derivation.{statement, heading, Derives, Headed, first_line, HaveNone, Explains, TokensAreDecided}
use Rattle.mig_syntax.specs.StatementReaders.{heading_at}
use Rattle.mig_syntax.specs.declared.tree.Statement.{Statement}
use Rattle.mig_syntax.specs.declared.tree.Subsystem.{Subsystem}
use Rattle.mig_syntax.proofs.StatementsRead.{statement_is, leads_statement, heading_is}

-- what is read of a heading is there, and what is there is read
headed : (ts rest : List Token) (h : Headed ts rest) → heading_at ts ≡ Some ((h.name, h.base), rest)
headed ts rest h = ap heading_at h.parts ∙ heading_is.again (h.name, h.base) h.front rest h.spells tt

heading_of : (ts rest : List Token) (x : List ℕ × Tree) → heading_at ts ≡ Some (x, rest) → Headed ts rest
heading_of ts rest x e = let a = heading_is.found ts x rest e in record { name = x.0; base = x.1; front = a.0; parts = a.1; spells = a.2 }

-- a tree has a heading, and statements after it
parts_of : (ts : List Token) (s : Subsystem) → Derives s ts
    → (rest : List Token) × (heading_at ts ≡ Some ((s.name, s.base), rest)) × AreDefs statement s.statements rest
parts_of ts s d =
    let p = parted ts d.0 d.1 d.2 in
    let h : Headed ts p.1 =
    record { name = s.name; base = s.base; front = p.0; parts = p.2; spells = subst (heading s.name s.base) (sym p.3) d.3 } in
    (p.1, headed ts p.1 h, subst (each statement s.statements) (sym p.4) d.4)

pub whole : (ts rest : List Token) (n : List ℕ) (b : Tree) (ss : List Statement) → heading_at ts ≡ Some ((n, b), rest)
    → AreDefs statement ss rest
    → Derives (record { name = n; base = b; statements = ss }) ts
whole ts rest n b ss e d =
    let a = heading_is.found ts (n, b) rest e in
    (kinds a.0, kinds rest, ap kinds a.1 ∙ kinds-append a.0 rest, a.2, d)

pub unheaded : (ts : List Token) → heading_at ts ≡ None → HaveNone ts (first_line ts)
unheaded ts none = (
  λ s d. let p = parts_of ts s d in let both_ways : Some ((s.name, s.base), p.0) ≡ None = sym p.1 ∙ none in absurd cc,
  inl (λ rest h. let both_ways : Some ((h.name, h.base), rest) ≡ None = sym (headed ts rest h) ∙ none in absurd cc, refl),
)

-- the same of tokens that are others
pub unheaded_at : (ts all : List Token) (line : ℕ) → all ≡ ts → line ≡ first_line all → heading_at all ≡ None → HaveNone ts line
unheaded_at ts all line same is none = subst (λ z. HaveNone z line) same (subst (λ z. HaveNone all z) (sym is) (unheaded all none))

fails : (ts rest : List Token) (n : List ℕ) (b : Tree) (line : ℕ) → heading_at ts ≡ Some ((n, b), rest)
    → statements_have_none statement rest line
    → HaveNone ts line
fails ts rest n b line e h = (
  λ s d. let p = parts_of ts s d in
      let same = read_is (s.name, s.base) (n, b) p.0 rest (sym p.1 ∙ e) in
      h.0 s.statements (subst (AreDefs statement s.statements) same.1 p.2),
  inr (rest, heading_of ts rest (n, b) e, h.1),
)

pub explained : (ts rest : List Token) (n : List ℕ) (b : Tree) (fault : SyntaxErr) → heading_at ts ≡ Some ((n, b), rest)
    → statements_explain statement fault rest
    → Explains fault ts
explained ts rest n b (Syntax line) e h = fails ts rest n b line e h
explained ts rest n b NoMemory e h = tt

-- ---- one tree, or none

abbrev file : List ℕ → Tree → List Statement → Subsystem
file n b ss = record { name = n; base = b; statements = ss }

pub one_tree_only : (a b : Subsystem) (tokens : List Token) → Derives a tokens → Derives b tokens → a ≡ b
one_tree_only a b tokens s t =
    let p = parts_of tokens a s in
    let q = parts_of tokens b t in
    let head = read_is (a.name, a.base) (b.name, b.base) p.0 q.0 (sym p.1 ∙ q.1) in
    let rest : a.statements ≡ b.statements = files.one_tree_only statement_is leads_statement a.statements b.statements q.0
    (subst (AreDefs statement a.statements) head.1 p.2) q.2 in
    same a.name b.name a.base b.base a.statements b.statements (ap (λ z. z.0) head.0) (ap (λ z. z.1) head.0) rest
  where
    same : (n m : List ℕ) (x y : Tree) (us vs : List Statement) → n ≡ m → x ≡ y → us ≡ vs → file n x us ≡ file m y vs
    same n m x y us vs e f g = rw (e, f, g) refl

pub decided : TokensAreDecided
decided tokens = by (heading_at tokens) refl where
  by : (r : Read (List ℕ × Tree)) → heading_at tokens ≡ r → ((tree : Subsystem) × Derives tree tokens) ⊎ ((line : ℕ) × HaveNone tokens line)
  by None e = inr (first_line tokens, unheaded tokens e)
  by (Some x) e = elim (files.decided statement_is leads_statement x.1) [
    | inl (ss, d) ↦ inl (record { name = x.0.0; base = x.0.1; statements = ss }, whole tokens x.1 x.0.0 x.0.1 ss e d)
    | inr (line, h) ↦ inr (line, fails tokens x.1 x.0.0 x.0.1 line e h)
  ]
