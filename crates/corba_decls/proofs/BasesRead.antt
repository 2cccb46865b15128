-- Types that are not sequences: what is read is what is spelled.
use Rattle.std.proofs.Common.{◌≡◌, ◌⊎◌, inl, inr, ℕ, List, [], ◌∷◌, ◌++◌, Option, Some, None, Bool, true, false, ◌&&◌, ◌||◌, ◌==◌, cond, refl, sym, ap, subst, ◌∙◌}
use Rattle.std.specs.Prelude.{codes}
use Rattle.idl_lex.specs.declared.kinds.Token.{Token}
use Rattle.idl_lex.specs.declared.kinds.TokenKind.{TokenKind}
use Rattle.idl_lex.specs.declared.kinds.TokenKind.TheVariants as K
use Rattle.idl_read.specs.Reading.{mark_is, word_is, token_at, begins_with, word_in}
use Rattle.idl_read.specs.Grammar.{Text, empty, word, mark, ◌&◌, one_of, maybe, kinds, IsGrammar, Leads}
use Rattle.idl_read.proofs.Grammars.{mapped_is, both_is, either_is, option_is, parted}
use Rattle.idl_read.proofs.Leaves.{token_is, word_reads, mark_reads, mark_named, one_kind, apart_or, apart_word, apart_mark, leads_word, leads_mark, leads_either, begins_so, begins_not}
use Rattle.idl_read.proofs.Productions.{weaker, after_is, led_is, leads_after, words_are, leads_words, apart_words, leads_by, unit_left, unit_left_back, unit_right, unit_right_back}
use Rattle.idl_read.proofs.Lists.{turns}
use Rattle.idl_exprs.specs.Trees.{Tree}
use Rattle.idl_exprs.specs.declared.tree.ScopedName.{ScopedName}
use Rattle.idl_exprs.specs.Spelling.{scoped, expression}
use Rattle.idl_exprs.specs.Readers.{is_identifier, is_after, closes}
use Rattle.idl_exprs.proofs.LeavesRead.{is_name, scoped_is, leads_scoped}
use Rattle.idl_exprs.proofs.Again.{May}
use Rattle.idl_exprs.proofs.ExpressionsRead.{expression_is}
use Rattle.corba_decls.specs.declared.type_tree.IntSize.{IntSize}
use Rattle.corba_decls.specs.declared.type_tree.IntSize.TheVariants.{Short, Long, LongLong}
use Rattle.corba_decls.specs.declared.type_tree.Int.{Int}
use Rattle.corba_decls.specs.declared.type_tree.Simple.{Simple}
use Rattle.corba_decls.specs.declared.type_tree.Simple.TheVariants as S
use Rattle.corba_decls.specs.declared.type_tree.Base.{Base}
use Rattle.corba_decls.specs.declared.type_tree.Base.TheVariants as B
use Rattle.corba_decls.specs.TypeSpelling.{size, int, simple_spell, close, base, bound}
use Rattle.corba_decls.specs.TypeReaders.{size_of, size_at, int_of, int_at, is_int, simple_words, is_simple, is_long_double, plain_of, plain_at, close_in, string_of, string_at, Typed, base_of, base_at, bound_at}
use Rattle.std.proofs.lemmas.Bool.{and_left}

-- ---- integer types

-- no `long` follows it
abbrev pub IntMay : List Token → Type 0
IntMay rest = begins_with (word_is (codes "long")) rest ≡ false

abbrev size_text : Unit {0} ⊎ Option (Unit {0}) → Text
size_text = one_of (λ _. word (codes "short")) (λ x. word (codes "long") & maybe (λ _. word (codes "long")) x)

size_forth : (x : Unit {0} ⊎ Option (Unit {0})) (ks : List TokenKind) → size_text x ks → size (size_of x) ks
size_forth (inl _) ks s = s
size_forth (inr None) ks s = unit_right (word (codes "long")) ks s
size_forth (inr (Some _)) ks s = s

size_back : (i : IntSize) (ks : List TokenKind) → size i ks → (x : Unit {0} ⊎ Option (Unit {0})) × (size_of x ≡ i) × size_text x ks
size_back Short ks s = (inl tt, refl, s)
size_back Long ks s = (inr None, refl, unit_right_back (word (codes "long")) ks s)
size_back LongLong ks s = (inr (Some tt), refl, s)

abbrev long_text : Option (Unit {0}) → Text
long_text x = word (codes "long") & maybe (λ _. word (codes "long")) x

leads_long : Leads long_text (word_is (codes "long"))
leads_long = leads_after (maybe (λ (_ : Unit {0}). word (codes "long"))) (leads_word (codes "long"))

pub size_is : IsGrammar size_at size IntMay
size_is = mapped_is size_of size
    (either_is {A = Unit {0}} (begins_with (word_is (codes "short"))) (weaker (word_reads (codes "short")) (λ rest may. tt))
    (after_is (word_reads (codes "long"))
    (option_is {S =
    λ (_ : Unit {0}). word (codes "long")} (begins_with (word_is (codes "long"))) (weaker (word_reads (codes "long")) (λ rest may.
    tt)) (λ a front rest s may. begins_so (leads_word (codes "long")) a front rest s) (λ rest may. may)))
    (λ a front rest s may. begins_so (leads_word (codes "short")) a front rest s)
    (λ a front rest s may.
    begins_not (word_is (codes "short")) leads_long (apart_word (word_is (codes "long")) (codes "short") refl) a front rest s))
    size_forth size_back

abbrev is_size : TokenKind → Bool
is_size k = word_is (codes "short") k || word_is (codes "long") k

leads_size : Leads size is_size
leads_size = leads_by size_of size_back (leads_either (leads_word (codes "short")) leads_long)

abbrev int_text : IntSize ⊎ IntSize → Text
int_text = one_of (λ s. word (codes "unsigned") & size s) size

int_forth : (x : IntSize ⊎ IntSize) (ks : List TokenKind) → int_text x ks → int (int_of x) ks
int_forth (inl i) ks s = s
int_forth (inr i) ks s = unit_left_back (size i) ks s

int_parts : (unsigned : Bool) (i : IntSize) (ks : List TokenKind) → int (record { unsigned = unsigned; size = i }) ks
    → (x : IntSize ⊎ IntSize) × (int_of x ≡ record { unsigned = unsigned; size = i }) × int_text x ks
int_parts true i ks s = (inl i, refl, s)
int_parts false i ks s = (inr i, refl, unit_left (size i) ks s)

int_back : (i : Int) (ks : List TokenKind) → int i ks → (x : IntSize ⊎ IntSize) × (int_of x ≡ i) × int_text x ks
int_back i ks s = int_parts i.unsigned i.size ks s

pub int_is : IsGrammar int_at int IntMay
unfolding int_at
int_is = mapped_is int_of int (led_is (codes "unsigned") size_is size_is leads_size refl) int_forth int_back

pub leads_int : Leads int is_int
leads_int = leads_by int_of int_back (leads_either (leads_after size (leads_word (codes "unsigned"))) leads_size)

-- ---- what follows a whole type

-- nothing that goes on with a type
abbrev pub Closes : List Token → Type 0
Closes rest = closes rest ≡ true

abbrev pub is_closing : TokenKind → Bool
is_closing k = is_after k || is_identifier k

first_of : (a b c : Bool) → (a || (b && c)) ≡ true → (a || b) ≡ true
first_of true b c h = refl
first_of false true c h = refl
first_of false false c h = absurd cc

pub closing : (ts : List Token) → Closes ts → begins_with is_closing ts ≡ true
closing [] h = absurd cc
closing (t ∷ ts) h = first_of (is_after t.kind) (is_identifier t.kind) _ h

pub no_word : (w : List ℕ) → is_closing (K.Name w) ≡ false → (ts : List Token) → Closes ts → begins_with (word_is w) ts ≡ false
no_word w h ts c = turns is_closing (word_is w) (apart_word is_closing w h) ts (closing ts c)

pub no_mark : (m : List ℕ) → is_closing (K.Mark m) ≡ false → (ts : List Token) → Closes ts → begins_with (mark_is m) ts ≡ false
no_mark m h ts c = turns is_closing (mark_is m) (apart_mark is_closing m h) ts (closing ts c)

-- ---- types that are not a sequence or a string

abbrev pub plain_base : Base → Text
plain_base (B.Simple s) ks = word (simple_spell s) ks
plain_base B.LongDouble ks = (word (codes "long") & word (codes "double")) ks
plain_base (B.Int i) ks = int i ks
plain_base (B.Name n) ks = scoped n ks
plain_base (B.Text e) ks = ⊥

abbrev long_double : Unit {0} → Text
long_double _ = word (codes "long") & word (codes "double")

abbrev plain_text : Simple ⊎ Unit {0} ⊎ Int ⊎ ScopedName → Text
plain_text = one_of (λ s. word (simple_spell s)) (one_of long_double (one_of int scoped))

plain_forth : (x : Simple ⊎ Unit {0} ⊎ Int ⊎ ScopedName) (ks : List TokenKind) → plain_text x ks → plain_base (plain_of x) ks
plain_forth (inl a) ks s = s
plain_forth (inr (inl _)) ks s = s
plain_forth (inr (inr (inl i))) ks s = s
plain_forth (inr (inr (inr n))) ks s = s

plain_back : (b : Base) (ks : List TokenKind) → plain_base b ks
    → (x : Simple ⊎ Unit {0} ⊎ Int ⊎ ScopedName) × (plain_of x ≡ b) × plain_text x ks
plain_back (B.Simple a) ks s = (inl a, refl, s)
plain_back B.LongDouble ks s = (inr (inl tt), refl, s)
plain_back (B.Int i) ks s = (inr (inr (inl i)), refl, s)
plain_back (B.Name n) ks s = (inr (inr (inr n)), refl, s)
plain_back (B.Text e) ks s = absurd s

simple_word : (a : Simple) → word_in simple_words (K.Name (simple_spell a)) ≡ Some a
simple_word S.Char = refl
simple_word S.Boolean = refl
simple_word S.Octet = refl
simple_word S.Float = refl
simple_word S.Double = refl
simple_word S.Wchar = refl
simple_word S.Wstring = refl
simple_word S.Any = refl
simple_word S.Object = refl

leads_simple : Leads (λ a. word (simple_spell a)) is_simple
leads_simple = leads_words simple_words simple_spell simple_word

leads_double : Leads long_double (word_is (codes "long"))
leads_double = leads_after (λ _. word (codes "double")) (leads_word (codes "long"))

abbrev is_last : TokenKind → Bool
is_last k = is_int k || is_name k

leads_last : Leads (one_of int scoped) is_last
leads_last = leads_either leads_int leads_scoped

abbrev is_rest : TokenKind → Bool
is_rest k = word_is (codes "long") k || is_last k

leads_rest : Leads (one_of long_double (one_of int scoped)) is_rest
leads_rest = leads_either leads_double leads_last

is_double : (u : Unit {0}) (front rest : List Token) → long_double u (kinds front) → is_long_double (front ++ rest) ≡ true
is_double u front rest s =
    let p = parted front s.0 s.1 s.2 in
    let a = one_kind p.0 (K.Name (codes "long")) (p.3 ∙ s.3) in
    let b = one_kind p.1 (K.Name (codes "double")) (p.4 ∙ s.4) in
    rw (p.2, a.1, b.1, a.2, b.2) refl

no_double_size : (i : IntSize) (front rest : List Token) → size i (kinds front) → begins_with (word_is (codes "double")) rest ≡ false
    → is_long_double (front ++ rest) ≡ false
no_double_size Short front rest s may = let a = one_kind front (K.Name (codes "short")) s in rw (a.1, a.2) refl
no_double_size Long front rest s may = let a = one_kind front (K.Name (codes "long")) s in rw (a.1, a.2, may) refl
no_double_size LongLong front rest s may =
    let p = parted front s.0 s.1 s.2 in
    let a = one_kind p.0 (K.Name (codes "long")) (p.3 ∙ s.3) in
    let b = one_kind p.1 (K.Name (codes "long")) (p.4 ∙ s.4) in
    rw (p.2, a.1, b.1, a.2, b.2) refl

no_double_int : (x : IntSize ⊎ IntSize) (front rest : List Token) → int_text x (kinds front)
    → begins_with (word_is (codes "double")) rest ≡ false
    → is_long_double (front ++ rest) ≡ false
no_double_int (inl i) front rest s may =
    and_left _ _ (begins_not (word_is (codes "long")) (leads_after size (leads_word (codes "unsigned")))
    (apart_word (word_is (codes "unsigned")) (codes "long") refl) i front rest s)
no_double_int (inr i) front rest s may = no_double_size i front rest s may

no_double : (x : Int ⊎ ScopedName) (front rest : List Token) → one_of int scoped x (kinds front) → Closes rest
    → is_long_double (front ++ rest) ≡ false
no_double (inl i) front rest s may = let b = int_back i (kinds front) s in no_double_int b.0 front rest b.2
    (no_word (codes "double") refl rest may)
no_double (inr n) front rest s may =
    and_left _ _ (begins_not (word_is (codes "long")) leads_scoped (apart_word is_name (codes "long") refl) n front rest s)

pub plain_is : IsGrammar plain_at plain_base Closes
unfolding plain_at
plain_is = mapped_is plain_of plain_base
    (either_is (begins_with is_simple)
    (weaker (words_are simple_words simple_spell (refl, (refl, (refl, (refl, (refl, (refl, (refl, (refl, (refl, tt)))))))))
    simple_word) (λ rest may. tt))
    (either_is is_long_double (weaker (after_is (word_reads (codes "long")) (word_reads (codes "double"))) (λ rest may. tt))
    (either_is (begins_with is_int)
    (weaker int_is (λ rest may. no_word (codes "long") refl rest may)) (weaker scoped_is (λ rest may.
    no_mark (codes "::") refl rest may))
    (λ i front rest s may. begins_so leads_int i front rest s)
    (λ n front rest s may.
    begins_not is_int leads_scoped (apart_or is_name (word_is (codes "unsigned")) is_size (apart_word is_name (codes "unsigned") refl)
    (apart_or is_name (word_is (codes "short")) (word_is (codes "long")) (apart_word is_name (codes "short") refl)
    (apart_word is_name (codes "long") refl))) n front rest s))
    (λ u front rest s may. is_double u front rest s)
    (λ x front rest s may. no_double x front rest s may))
    (λ a front rest s may. begins_so leads_simple a front rest s)
    (λ x front rest s may.
    begins_not is_simple leads_rest
    (apart_words is_rest simple_words (refl, (refl, (refl, (refl, (refl, (refl, (refl, (refl, (refl, tt)))))))))) x front rest s))
    plain_forth plain_back

pub leads_plain : Leads plain_base (λ k. is_simple k || is_rest k)
leads_plain = leads_by plain_of plain_back (leads_either leads_simple leads_rest)

-- ---- the ends of strings and sequences

close_forth : (k : TokenKind) (b : Bool) → close_in k ≡ Some b → close b (k ∷ [])
close_forth k b e = go (mark_is (codes ">") k) (mark_is (codes ">>") k) refl refl e where
  go : (x y : Bool) → mark_is (codes ">") k ≡ x → mark_is (codes ">>") k ≡ y → cond x (Some false) (cond y (Some true) None) ≡ Some b
      → close b (k ∷ [])
  go true y h g q = let is : false ≡ b = cc in subst (λ z. close z (k ∷ [])) is (ap (λ z. z ∷ []) (mark_named (codes ">") k h))
  go false true h g q = let is : true ≡ b = cc in subst (λ z. close z (k ∷ [])) is (ap (λ z. z ∷ []) (mark_named (codes ">>") k g))
  go false false h g q = absurd cc

close_back : (b : Bool) (ks : List TokenKind) → close b ks → (k : TokenKind) × (ks ≡ k ∷ []) × (close_in k ≡ Some b)
close_back false ks s = (K.Mark (codes ">"), s, refl)
close_back true ks s = (K.Mark (codes ">>"), s, refl)

pub close_is : IsGrammar (token_at close_in) close Closes
close_is = weaker (token_is close_in close close_forth close_back) (λ rest may. tt)

abbrev pub is_close : TokenKind → Bool
is_close k = mark_is (codes ">") k || mark_is (codes ">>") k

pub leads_close : Leads close is_close
leads_close false ks s = (K.Mark (codes ">"), [], s, refl)
leads_close true ks s = (K.Mark (codes ">>"), [], s, refl)

and_no : (a : Bool) → (a && false) ≡ false
and_no true = refl
and_no false = refl

-- an expression ends before such an end
pub before_close : (b : Bool) (front rest : List Token) → close b (kinds front) → Closes rest → May true 6 (front ++ rest)
before_close false front rest s may =
    let t = one_kind front (K.Mark (codes ">")) s in
    subst
    (λ z. May true 6 (z ++ rest)) (sym t.1) (record {
      name = rw t.2 refl;
      no_operator = λ d lt. rw t.2 refl;
      joint = λ yes.
          rw t.2 refl;
    })
before_close true front rest s may =
    let t = one_kind front (K.Mark (codes ">>")) s in
    subst
    (λ z. May true 6 (z ++ rest)) (sym t.1) (record {
      name = rw t.2 refl;
      no_operator = λ d lt.
          (let none = and_no (2 == d) in rw (t.2, may, none) refl);
      joint = λ yes. rw t.2 refl;
    })

-- ---- strings

abbrev pub string_text : ℕ → Base × Bool → Text
string_text n (B.Text None, false) ks = empty ks
string_text n (B.Text None, true) ks = ⊥
string_text n (B.Text (Some e), b) ks = (mark (codes "<") & expression n e & close b) ks
string_text n (B.Simple a, b) ks = ⊥
string_text n (B.LongDouble, b) ks = ⊥
string_text n (B.Int a, b) ks = ⊥
string_text n (B.Name a, b) ks = ⊥

module _ (n : ℕ) where
  abbrev sized : Tree × Bool → Text
  sized x = mark (codes "<") & expression n x.0 & close x.1

  string_forth : (x : Option (Tree × Bool)) (ks : List TokenKind) → maybe sized x ks → string_text n (string_of x) ks
  string_forth None ks s = s
  string_forth (Some x) ks s = s

  string_back : (y : Base × Bool) (ks : List TokenKind) → string_text n y ks
      → (x : Option (Tree × Bool)) × (string_of x ≡ y) × maybe sized x ks
  string_back (B.Text None, false) ks s = (None, refl, s)
  string_back (B.Text None, true) ks s = absurd s
  string_back (B.Text (Some e), b) ks s = (Some (e, b), refl, s)
  string_back (B.Simple a, b) ks s = absurd s
  string_back (B.LongDouble, b) ks s = absurd s
  string_back (B.Int a, b) ks s = absurd s
  string_back (B.Name a, b) ks s = absurd s

  leads_sized : Leads sized (mark_is (codes "<"))
  leads_sized = leads_after (λ (x : Tree × Bool). expression n x.0 & close x.1) (leads_mark (codes "<"))

  pub string_is : IsGrammar (string_at n) (string_text n) Closes
  unfolding string_at
  string_is = mapped_is string_of (string_text n)
      (option_is (begins_with (mark_is (codes "<")))
      (after_is (mark_reads (codes "<")) (both_is (expression_is n true) close_is before_close))
      (λ x front rest s may. begins_so leads_sized x front rest s) (λ rest may. no_mark (codes "<") refl rest may))
      string_forth string_back

  -- ---- types that are not sequences

  abbrev pub base_typed : Typed → Text
  base_typed x ks = (x.0.0 ≡ []) × base n x.0.1 x.1 ks

  abbrev base_shape : (Base × Bool) ⊎ Base → Text
  base_shape = one_of (λ x. word (codes "string") & string_text n x) plain_base

  base_forth : (x : (Base × Bool) ⊎ Base) (ks : List TokenKind) → base_shape x ks → base_typed (base_of x) ks
  base_forth (inl (B.Text None, false)) ks s = (refl, unit_right (word (codes "string")) ks s)
  base_forth (inl (B.Text None, true)) ks s = absurd s.4
  base_forth (inl (B.Text (Some e), b)) ks s = (refl, s)
  base_forth (inl (B.Simple a, b)) ks s = absurd s.4
  base_forth (inl (B.LongDouble, b)) ks s = absurd s.4
  base_forth (inl (B.Int a, b)) ks s = absurd s.4
  base_forth (inl (B.Name a, b)) ks s = absurd s.4
  base_forth (inr (B.Simple a)) ks s = (refl, s)
  base_forth (inr B.LongDouble) ks s = (refl, s)
  base_forth (inr (B.Int i)) ks s = (refl, s)
  base_forth (inr (B.Name m)) ks s = (refl, s)
  base_forth (inr (B.Text e)) ks s = absurd s

  base_parts : (b : Base) (shared : Bool) (ks : List TokenKind) → base n b shared ks
      → (x : (Base × Bool) ⊎ Base) × (base_of x ≡ (([], b), shared)) × base_shape x ks
  base_parts (B.Simple a) false ks s = (inr (B.Simple a), refl, s)
  base_parts (B.Simple a) true ks s = absurd s
  base_parts B.LongDouble false ks s = (inr B.LongDouble, refl, s)
  base_parts B.LongDouble true ks s = absurd s
  base_parts (B.Int a) false ks s = (inr (B.Int a), refl, s)
  base_parts (B.Int a) true ks s = absurd s
  base_parts (B.Name a) false ks s = (inr (B.Name a), refl, s)
  base_parts (B.Name a) true ks s = absurd s
  base_parts (B.Text None) false ks s = (inl (B.Text None, false), refl, unit_right_back (word (codes "string")) ks s)
  base_parts (B.Text None) true ks s = absurd s
  base_parts (B.Text (Some e)) shared ks s = (inl (B.Text (Some e), shared), refl, s)

  base_back : (y : Typed) (ks : List TokenKind) → base_typed y ks → (x : (Base × Bool) ⊎ Base) × (base_of x ≡ y) × base_shape x ks
  base_back y ks s = let p = base_parts y.0.1 y.1 ks s.1 in (p.0, p.1 ∙ ap (λ z. ((z, y.0.1), y.1)) (sym s.0), p.2)

  abbrev pub is_plain : TokenKind → Bool
  is_plain k = is_simple k || is_rest k

  pub base_is : IsGrammar (base_at n) base_typed Closes
  unfolding base_at
  base_is = mapped_is base_of base_typed (led_is (codes "string") string_is plain_is leads_plain refl) base_forth base_back

  pub leads_base : Leads base_typed (λ k. word_is (codes "string") k || is_plain k)
  leads_base = leads_by base_of base_back (leads_either (leads_after (string_text n) (leads_word (codes "string"))) leads_plain)

  -- ---- bounds

  abbrev pub comma : Tree → Text
  comma e = mark (codes ",") & expression n e

  pub leads_comma : Leads comma (mark_is (codes ","))
  leads_comma = leads_after (expression n) (leads_mark (codes ","))

  abbrev BoundMay : List Token → Type 0
  BoundMay rest = (begins_with (mark_is (codes ",")) rest ≡ false) × May true 6 rest

  pub bound_is : IsGrammar (bound_at n) (λ x. bound n x.0 x.1) Closes
  unfolding bound_at
  bound_is = both_is {May = BoundMay}
      (option_is {May = BoundMay} (begins_with (mark_is (codes ",")))
      (after_is (mark_reads (codes ",")) (weaker (expression_is n true) (λ rest may. may.1)))
      (λ x front rest s may. begins_so leads_comma x front rest s) (λ rest may. may.0))
      close_is
      (λ b front rest s may. (
        begins_not (mark_is (codes ",")) leads_close (apart_mark is_close (codes ",") refl) b front rest s,
        before_close b front rest s may,
      ))
