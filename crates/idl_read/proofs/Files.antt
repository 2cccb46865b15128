-- The definitions so far are those of the tokens so far; one tree or none, by induction on a bound on the tokens left.
use Rattle.std.proofs.Common.{◌≡◌, ◌⊎◌, inl, inr, ℕ, zero, suc, ◌<◌, ◌≤◌, List, [], ◌∷◌, ◌++◌, length, get_or, Some, None, Bool, false, refl, sym, ap, subst, ◌∙◌, append_assoc, length-append, arith}
use Rattle.std.proofs.lemmas.List.{append-nil}
use Rattle.idl_lex.specs.declared.kinds.Token.{Token}
use Rattle.idl_lex.specs.declared.kinds.TokenKind.{TokenKind}
use Rattle.idl_read.specs.Reading.{Reader, Read, begins_other}
use Rattle.idl_read.specs.Grammar.{Text, each, kinds, IsGrammar, Leads, Any}
use Rattle.idl_read.specs.Files.{AreDefs, FailsAt, HaveNone, AreDecided}
use Rattle.idl_read.proofs.Grammars.{kinds-append, one_tree, many_is}
use Rattle.idl_read.proofs.Leaves.{begins_else}
use Rattle.idl_read.proofs.Lists.{longest, shorter_by}

each_after : {D : Type 0} (S : D → Text) (xs : List D) (x : D) (a b : List TokenKind) → each S xs a → S x b
    → each S (xs ++ x ∷ []) (a ++ b)
each_after S [] x a b s t = (b, [], ap (λ z. z ++ b) s ∙ sym (append-nil b), t, refl)
each_after S (y ∷ ys) x a b s t = (s.0, s.1 ++ b, ap (λ z. z ++ b) s.2 ∙ append_assoc s.0 s.1 b, s.3, each_after S ys x s.1 b s.4 t)

either_read : {A : Type 0} (r : Read A) → (r ≡ None) ⊎ ((x : A × List Token) × (r ≡ Some x))
either_read None = inl refl
either_read (Some x) = inr (x, refl)

-- tokens that are definitions, and what follows them
pub record So {D : Type 0} (S : D → Text) (tokens rest : List Token) (defs : List D) : Type 0 where
  pub front : List Token
  pub parts : tokens ≡ front ++ rest
  pub derives : AreDefs S defs front

module _ {D : Type 0} {r : Reader D} {S : D → Text} {f : TokenKind → Bool} (g : IsGrammar r S Any) (leads : Leads S f) where
  pub begin : (tokens : List Token) → So S tokens tokens []
  begin tokens = record { front = []; parts = refl; derives = refl }

  pub next : (tokens rest after : List Token) (defs : List D) (d : D) → So S tokens rest defs → r rest ≡ Some (d, after)
      → So S tokens after (defs ++ d ∷ [])
  next tokens rest after defs d s e =
      let a = g.found rest d after e in
      record {
        front = s.front ++ a.0;
        parts = s.parts ∙ ap (λ z. s.front ++ z) a.1 ∙ sym (append_assoc s.front a.0 after);
        derives = subst (each S (defs ++ d ∷ [])) (sym (kinds-append s.front a.0))
            (each_after S defs d (kinds s.front) (kinds a.0) s.derives a.2);
      }

  pub shorter : (rest after : List Token) (d : D) → r rest ≡ Some (d, after) → length after < length rest
  shorter rest after d e = shorter_by g leads rest d after e

  fails : (tokens rest : List Token) (defs : List D) (t : Token) (more : List Token) → So S tokens rest defs
      → rest ≡ t ∷ more → r rest ≡ None
      → FailsAt S tokens t.line
  fails tokens rest defs t more s is none = record {
    front = s.front;
    token = t;
    rest = more;
    parts = s.parts ∙ ap (λ z. s.front ++ z) is;
    tree = defs;
    derives = s.derives;
    longest = λ other a b d parts. longest g defs other s.front rest a b (sym s.parts ∙ parts) s.derives d none;
    line_is = refl;
  }

  no_tree : (tokens : List Token) (line : ℕ) → FailsAt S tokens line → (tree : List D) → AreDefs S tree tokens → ⊥
  no_tree tokens line h tree d =
      let le = h.longest tree tokens [] d (sym (append-nil tokens)) in
      absurd (omega (arith, le, ap length h.parts, length-append h.front (h.token ∷ h.rest)))

  pub all : (tokens : List Token) (defs : List D) → So S tokens [] defs → AreDefs S defs tokens
  all tokens defs s = subst (λ z. AreDefs S defs z) (sym (s.parts ∙ append-nil s.front)) s.derives

  pub fails_at : (tokens rest : List Token) (defs : List D) (t : Token) → So S tokens rest defs → 0 < length rest
      → t ≡ get_or rest 0 t → r rest ≡ None
      → HaveNone S tokens t.line
  fails_at tokens [] defs t s lt is none = absurd (omega arith)
  fails_at tokens (u ∷ rest) defs t s lt is none =
      let same : t ≡ u = is in
      let h = fails tokens (u ∷ rest) defs t rest s (ap (λ z. z ∷ rest) (sym same)) none in
      (no_tree tokens t.line h, h)

  -- ---- one tree, or none

  abbrev is_more : List Token → Bool
  is_more = begins_other (λ _. false)

  pub one_tree_only : (a b : List D) (tokens : List Token) → AreDefs S a tokens → AreDefs S b tokens → a ≡ b
  one_tree_only a b tokens s t =
      one_tree
      (many_is is_more g
      (record {
        ends = refl;
        begins = λ d front rest u. begins_else (λ _. false) leads (λ k e. refl) d front rest u;
        goes_on = λ ts h.
            tt;
      })) (refl, tt) a b tokens s t

  decide : (n : ℕ) (tokens rest : List Token) (defs : List D) → So S tokens rest defs → length rest ≤ n
      → ((tree : List D) × AreDefs S tree tokens) ⊎ ((line : ℕ) × HaveNone S tokens line)
  decide n tokens [] defs s few = inl (defs, all tokens defs s)
  decide zero tokens (t ∷ rest) defs s few = absurd (omega (arith, few))
  decide (suc n) tokens (t ∷ rest) defs s few = elim (either_read (r (t ∷ rest))) [
    | inl none ↦ inr (t.line, fails_at tokens (t ∷ rest) defs t s (omega arith) refl none)
    | inr (x, is) ↦ decide n tokens x.1 (defs ++ x.0 ∷ []) (next tokens (t ∷ rest) x.1 defs x.0 s is)
        (omega (arith, few, shorter (t ∷ rest) x.1 x.0 is))
  ]

  pub decided : AreDecided S
  decided tokens = decide (length tokens) tokens tokens [] (begin tokens) (omega arith)
