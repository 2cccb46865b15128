-- Words in any letter case, and identifiers: what is read is what is spelled.
use Rattle.std.proofs.Common.{◌≡◌, ℕ, List, [], ◌∷◌, Option, Some, None, Bool, true, false, ◌||◌, cond, refl, sym, ap, subst, ◌∙◌}
use Rattle.std.specs.Prelude.{is_some}
use Rattle.std.specs.Str.{bytes_eq, str_to_ascii_lowercase as lower}
use Rattle.std.specs.List.{AllByRecursion}
use Rattle.idl_lex.specs.declared.kinds.TokenKind.{TokenKind}
use Rattle.idl_lex.specs.declared.kinds.TokenKind.TheVariants as K
use Rattle.idl_read.specs.Reading.{word_is, token_at}
use Rattle.idl_read.specs.Grammar.{Text, IsGrammar, Leads, Any}
use Rattle.idl_read.proofs.Leaves.{token_is, same_bytes, equal_bytes, word_named, Apart, apart_word}
use Rattle.mig_syntax.specs.Words.{mig_words, is_one_of, like, identifier, folded, like_is, like_at, lower_in, like_in, has_like, named_in, is_identifier, identifier_at}

-- ---- one word

like_named : (w : List ℕ) (k : TokenKind) → like_is w k ≡ true → like w (k ∷ [])
like_named w (K.Name n) e = (n, refl, same_bytes (lower n) (lower w) e)
like_named w (K.Number n) e = absurd cc
like_named w (K.Char n) e = absurd cc
like_named w (K.Text n) e = absurd cc
like_named w (K.FileName n) e = absurd cc
like_named w (K.Mark n) e = absurd cc

if_so : (b : Bool) (u : Unit {0}) → cond b (Some tt) None ≡ Some u → b ≡ true
if_so true u e = refl
if_so false u e = absurd cc

is_like : (w n : List ℕ) → lower n ≡ lower w → like_is w (K.Name n) ≡ true
is_like w n h = ap (λ z. bytes_eq z (lower w)) h ∙ equal_bytes (lower w)

only_so : (b : Bool) → b ≡ true → cond {A = Option (Unit {0})} b (Some tt) None ≡ Some tt
only_so true e = refl
only_so false e = absurd cc

pub like_reads : (w : List ℕ) → IsGrammar (like_at w) (λ _. like w) Any
like_reads w = token_is (λ k. cond (like_is w k) (Some tt) None) (λ _. like w)
    (λ k a e. like_named w k (if_so (like_is w k) a e))
    (λ a ks s. (K.Name s.0, s.1, only_so (like_is w (K.Name s.0)) (is_like w s.0 s.2)))

pub leads_like : (w : List ℕ) → Leads {A = Unit {0}} (λ _. like w) (like_is w)
leads_like w a ks s = (K.Name s.0, [], s.1, is_like w s.0 s.2)

-- ---- words that stand for something

lower_by : {A : Type 0} (spell : A → List ℕ) (x : List ℕ × A) (k : TokenKind) (a : A) (b : Bool) (others : Option A) → spell x.1 ≡ x.0
    → word_is (lower x.0) k ≡ b → (others ≡ Some a → k ≡ K.Name (lower (spell a))) → cond b (Some x.1) others ≡ Some a
    → k ≡ K.Name (lower (spell a))
lower_by spell x k a true others h is rest q = let same : x.1 ≡ a = cc in word_named (lower x.0) k is
    ∙ ap (λ z. K.Name (lower z)) (sym h) ∙ ap (λ z. K.Name (lower (spell z))) same
lower_by spell x k a false others h is rest q = rest q

lower_named : {A : Type 0} (spell : A → List ℕ) (es : List (List ℕ × A)) → AllByRecursion (λ e. spell e.1 ≡ e.0) es
    → (k : TokenKind) (a : A) → lower_in es k ≡ Some a
    → k ≡ K.Name (lower (spell a))
lower_named spell [] h k a e = absurd cc
lower_named spell (x ∷ es) h k a e = lower_by spell x k a (word_is (lower x.0) k) (lower_in es k) h.0 refl (lower_named spell es h.1 k a) e

folded_named : (k : TokenKind) (w : List ℕ) → folded k ≡ K.Name (lower w) → like w (k ∷ [])
folded_named (K.Name n) w e = (n, refl, cc)
folded_named (K.Number n) w e = absurd cc
folded_named (K.Char n) w e = absurd cc
folded_named (K.Text n) w e = absurd cc
folded_named (K.FileName n) w e = absurd cc
folded_named (K.Mark n) w e = absurd cc

module _ {A : Type 0} (table : List (List ℕ × A)) (spell : A → List ℕ)
    (back : (a : A) → lower_in table (K.Name (lower (spell a))) ≡ Some a) where
  found_in : (a : A) (n : List ℕ) → lower n ≡ lower (spell a) → like_in table (K.Name n) ≡ Some a
  found_in a n h = ap (λ z. lower_in table (K.Name z)) h ∙ back a

  pub likes_are : AllByRecursion (λ e. spell e.1 ≡ e.0) table → IsGrammar (token_at (like_in table)) (λ a. like (spell a)) Any
  likes_are all = token_is (like_in table) (λ a. like (spell a))
      (λ k a e. folded_named k (spell a) (lower_named spell table all (folded k) a e))
      (λ a ks s. (K.Name s.0, s.1, found_in a s.0 s.2))

  pub leads_likes : Leads (λ a. like (spell a)) (has_like table)
  leads_likes a ks s = (K.Name s.0, [], s.1, ap is_some (found_in a s.0 s.2))

-- ---- identifiers

-- a name that is none of the words
abbrev named : List (List ℕ) → List ℕ → Text
named ws n ks = (ks ≡ K.Name n ∷ []) × (is_one_of (lower n) ws ≡ false)

named_forth : (ws : List (List ℕ)) (k : TokenKind) (n : List ℕ) → named_in ws k ≡ Some n → named ws n (k ∷ [])
named_forth ws (K.Name x) n e = go (is_one_of (lower x) ws) refl e where
  go : (b : Bool) → is_one_of (lower x) ws ≡ b → cond b None (Some x) ≡ Some n → named ws n (K.Name x ∷ [])
  go true h q = absurd cc
  go false h q = let is : x ≡ n = cc in subst (λ z. named ws z (K.Name x ∷ [])) is (refl, h)
named_forth ws (K.Number x) n e = absurd cc
named_forth ws (K.Char x) n e = absurd cc
named_forth ws (K.Text x) n e = absurd cc
named_forth ws (K.FileName x) n e = absurd cc
named_forth ws (K.Mark x) n e = absurd cc

named_so : (ws : List (List ℕ)) (n : List ℕ) (b : Bool) → is_one_of (lower n) ws ≡ b → named_in ws (K.Name n) ≡ cond b None (Some n)
named_so ws n b h = ap (λ (z : Bool). cond {A = Option (List ℕ)} z None (Some n)) h

named_reads : (ws : List (List ℕ)) → IsGrammar (token_at (named_in ws)) (named ws) Any
named_reads ws = token_is (named_in ws) (named ws) (named_forth ws) (λ n ks s. (K.Name n, s.0, named_so ws n false s.1))

leads_named : (ws : List (List ℕ)) → Leads (named ws) (λ k. is_some (named_in ws k))
leads_named ws n ks s = (K.Name n, [], s.0, ap is_some (named_so ws n false s.1))

pub identifier_reads : IsGrammar identifier_at identifier Any
identifier_reads = named_reads mig_words

pub leads_identifier : Leads identifier is_identifier
leads_identifier = leads_named mig_words

-- ---- what words are apart from

pub apart_like : (g : TokenKind → Bool) (w : List ℕ) → g (K.Name (lower w)) ≡ false → Apart (λ k. g (folded k)) (like_is w)
apart_like g w h k e = apart_word g (lower w) h (folded k) e

pub apart_likes : {A : Type 0} (g : TokenKind → Bool) (es : List (List ℕ × A)) → AllByRecursion (λ e. g (K.Name (lower e.0)) ≡ false) es
    → Apart (λ k. g (folded k)) (has_like es)
apart_likes g [] h k e = refl
apart_likes g (x ∷ es) h k e = rw (apart_word g (lower x.0) h.0 (folded k) e) (apart_likes g es h.1 k e)

module _ (ws : List (List ℕ)) where
  no_name : (w : List ℕ) → is_one_of (lower w) ws ≡ true → (k : TokenKind) → is_some (named_in ws k) ≡ true → like_is w k ≡ false
  no_name w h (K.Name n) e = go (bytes_eq (lower n) (lower w)) refl where
    go : (b : Bool) → bytes_eq (lower n) (lower w) ≡ b → b ≡ false
    go true is =
        let word : is_one_of (lower n) ws ≡ true = ap (λ z. is_one_of z ws) (same_bytes (lower n) (lower w) is) ∙ h in
        let no : true ≡ false = sym e ∙ ap is_some (named_so ws n true word) in
        absurd cc
    go false is = refl
  no_name w h (K.Number n) e = refl
  no_name w h (K.Char n) e = refl
  no_name w h (K.Text n) e = refl
  no_name w h (K.FileName n) e = refl
  no_name w h (K.Mark n) e = refl

  no_names : {A : Type 0} (es : List (List ℕ × A)) → AllByRecursion (λ e. is_one_of (lower e.0) ws ≡ true) es
      → (k : TokenKind) → is_some (named_in ws k) ≡ true
      → has_like es k ≡ false
  no_names [] h k e = refl
  no_names (x ∷ es) h k e = rw (no_name x.0 h.0 k e) (no_names es h.1 k e)

pub apart_identifier : (w : List ℕ) → is_one_of (lower w) mig_words ≡ true → Apart is_identifier (like_is w)
apart_identifier w h k e = no_name mig_words w h k e

pub apart_identifiers : {A : Type 0} (es : List (List ℕ × A)) → AllByRecursion (λ e. is_one_of (lower e.0) mig_words ≡ true) es
    → Apart is_identifier (has_like es)
apart_identifiers es h k e = no_names mig_words es h k e

pub either_apart : (f g h : TokenKind → Bool) → Apart f h → Apart g h → Apart (λ k. f k || g k) h
either_apart f g h a b k e = go (f k) refl e where
  go : (c : Bool) → f k ≡ c → (c || g k) ≡ true → h k ≡ false
  go true is q = a k is
  go false is q = b k q
