-- The forms that productions are made of.
use Rattle.std.proofs.Common.{◌≡◌, ℕ, List, [], ◌∷◌, ◌++◌, Option, Some, None, Bool, true, false, ◌||◌, cond, refl, sym, ap, subst, ◌∙◌}
use Rattle.std.specs.Prelude.{is_some}
use Rattle.std.specs.List.{AllByRecursion}
use Rattle.std.proofs.lemmas.List.{append-nil}
use Rattle.idl_lex.specs.declared.kinds.Token.{Token}
use Rattle.idl_lex.specs.declared.kinds.TokenKind.{TokenKind}
use Rattle.idl_lex.specs.declared.kinds.TokenKind.TheVariants.{Name, Mark}
use Rattle.idl_read.specs.Reading.{Reader, after, before, either, token_at, word_is, mark_is, word_at, mark_at, begins_with, is_id, word_in, has_word, flag_at, begins_other}
use Rattle.idl_read.specs.Grammar.{Text, empty, word, mark, ◌&◌, one_of, maybe, when, kinds, IsGrammar, Leads, Any, one}
use Rattle.idl_read.proofs.Grammars.{read_is, mapped_is, both_is, either_is}
use Rattle.idl_read.proofs.Leaves.{token_is, word_named, mark_named, equal_bytes, word_reads, mark_reads, Apart, apart_word, apart_mark, leads_word, leads_mark, leads_both, begins_so, begins_not}
use Rattle.std.proofs.lemmas.Bool.{or_right, or_left}

pub weaker : {A : Type 0} {r : Reader A} {S : A → Text} {May May' : List Token → Type 0} → IsGrammar r S May
    → ((rest : List Token) → May' rest → May rest)
    → IsGrammar r S May'
weaker g h = record { found = g.found; again = λ a front rest s may. g.again a front rest s (h rest may) }

pub after_is : {A : Type 0} {r : Reader (Unit {0})} {s : Reader A} {P : Text} {S : A → Text} {May : List Token → Type 0}
    → IsGrammar r (λ _. P) Any → IsGrammar s S May → IsGrammar (after r s) (λ a. P & S a) May
after_is {A} {P = P} {S = S} g h =
    mapped_is (λ (x : Unit {0} × A). x.1) (λ a. P & S a) (both_is g h (λ b front rest t may. tt)) (λ x ks s. s) (λ y ks s.
    ((tt, y), refl, s))

pub before_is : {A : Type 0} {r : Reader A} {s : Reader (Unit {0})} {S : A → Text} {P : Text} {May May' : List Token → Type 0}
    → IsGrammar r S May → IsGrammar s (λ _. P) May' → ((front rest : List Token) → P (kinds front) → May (front ++ rest))
    → IsGrammar (before r s) (λ a. S a & P) May'
before_is {A} {S = S} {P = P} g h next =
    mapped_is (λ (x : A × Unit {0}). x.0) (λ a. S a & P) (both_is g h (λ b front rest t may. next front rest t)) (λ x ks s. s) (λ y ks s.
    ((y, tt), refl, s))

-- a word and what follows it, or something that does not begin with the word
pub led_is : {A B : Type 0} {r : Reader A} {s : Reader B} {S : A → Text} {T : B → Text} {May : List Token → Type 0}
    {g : TokenKind → Bool} (w : List ℕ)
    → IsGrammar r S May → IsGrammar s T May → Leads T g → g (Name w) ≡ false
    → IsGrammar (either (begins_with (word_is w)) (after (word_at w) r) s) (one_of (λ a. word w & S a) T) May
led_is {A} {S = S} {g = g} w p q l apart = either_is (begins_with (word_is w)) (after_is (word_reads w) p) q
    (λ a front rest s may. begins_so (leads_both S (leads_word w)) (tt, a) front rest s)
    (λ b front rest s may. begins_not (word_is w) l (apart_word g w apart) b front rest s)

pub marked_is : {A B : Type 0} {r : Reader A} {s : Reader B} {S : A → Text} {T : B → Text} {May : List Token → Type 0}
    {g : TokenKind → Bool} (m : List ℕ)
    → IsGrammar r S May → IsGrammar s T May → Leads T g → g (Mark m) ≡ false
    → IsGrammar (either (begins_with (mark_is m)) (after (mark_at m) r) s) (one_of (λ a. mark m & S a) T) May
marked_is {A} {S = S} {g = g} m p q l apart = either_is (begins_with (mark_is m)) (after_is (mark_reads m) p) q
    (λ a front rest s may. begins_so (leads_both S (leads_mark m)) (tt, a) front rest s)
    (λ b front rest s may. begins_not (mark_is m) l (apart_mark g m apart) b front rest s)

pub leads_after : {A : Type 0} {P : Text} {f : TokenKind → Bool} (S : A → Text) → Leads {A = Unit {0}} (λ _. P) f → Leads (λ a. P & S a) f
leads_after S l a ks s = let x = l tt s.0 s.3 in (x.0, x.1 ++ s.1, s.2 ∙ ap (λ z. z ++ s.1) x.2, x.3)

-- ---- what may be missing

pub unit_right : (P : Text) (ks : List TokenKind) → (P & empty) ks → P ks
unit_right P ks s = subst P (sym (s.2 ∙ ap (λ z. s.0 ++ z) s.4 ∙ append-nil s.0)) s.3

pub unit_right_back : (P : Text) (ks : List TokenKind) → P ks → (P & empty) ks
unit_right_back P ks s = (ks, [], sym (append-nil ks), s, refl)

pub unit_left : (P : Text) (ks : List TokenKind) → (empty & P) ks → P ks
unit_left P ks s = subst P (sym (s.2 ∙ ap (λ z. z ++ s.1) s.3)) s.4

pub unit_left_back : (P : Text) (ks : List TokenKind) → P ks → (empty & P) ks
unit_left_back P ks s = ([], ks, refl, refl, s)

pub leads_maybe : {A B : Type 0} {S : A → Text} {T : B → Text} {f g : TokenKind → Bool} → Leads S f → Leads T g
    → Leads {A = Option A × B} (λ x. maybe S x.0 & T x.1) (λ k. f k || g k)
leads_maybe {A} {B} {S} {T} {f} {g} l m x ks s = go x.0 s where
  go : (o : Option A) → (maybe S o & T x.1) ks → (k : TokenKind) × (more : List TokenKind) × (ks ≡ k ∷ more) × ((f k || g k) ≡ true)
  go None t = let y = m x.1 ks (unit_left (T x.1) ks t) in (y.0, y.1, y.2, or_right (f y.0) (g y.0) y.3)
  go (Some a) t = let y = l a t.0 t.3 in (y.0, y.1 ++ t.1, t.2 ∙ ap (λ z. z ++ t.1) y.2, or_left (f y.0) (g y.0) y.3)

pub leads_when : {B : Type 0} {P : Text} {T : B → Text} {f g : TokenKind → Bool} → Leads {A = Unit {0}} (λ _. P) f → Leads T g
    → Leads {A = Bool × B} (λ x. when P x.0 & T x.1) (λ k. f k || g k)
leads_when {B} {P} {T} {f} {g} l m x ks s = go x.0 s where
  go : (o : Bool) → (when P o & T x.1) ks → (k : TokenKind) × (more : List TokenKind) × (ks ≡ k ∷ more) × ((f k || g k) ≡ true)
  go false t = let y = m x.1 ks (unit_left (T x.1) ks t) in (y.0, y.1, y.2, or_right (f y.0) (g y.0) y.3)
  go true t = let y = l tt t.0 t.3 in (y.0, y.1 ++ t.1, t.2 ∙ ap (λ z. z ++ t.1) y.2, or_left (f y.0) (g y.0) y.3)

-- a token that may be missing
flag_is : (f : TokenKind → Bool) (x : TokenKind) → ((k : TokenKind) → f k ≡ true → k ≡ x) → f x ≡ true
    → IsGrammar (flag_at f) (when (one x)) (λ rest. begins_with f rest ≡ false)
flag_is f x named is_so = record { found = finds; again = reads } where
  finds : (ts : List Token) (b : Bool) (rest : List Token) → flag_at f ts ≡ Some (b, rest) → (front : List Token)
      × (ts ≡ front ++ rest) × when (one x) b (kinds front)
  finds [] b rest e = let is = read_is false b [] rest e in ([], is.1, subst (λ z. when (one x) z []) is.0 refl)
  finds (t ∷ ts) b rest e = go (f t.kind) refl e where
    go : (c : Bool) → f t.kind ≡ c → cond {A = Option (Bool × List Token)} c (Some (true, ts)) (Some (false, t ∷ ts))
        ≡ Some (b, rest) → (front : List Token) × (t ∷ ts ≡ front ++ rest) × when (one x) b (kinds front)
    go true h q = let is =
        read_is true b ts rest q in (
          t ∷ [],
          ap (λ z. t ∷ z) is.1,
          subst (λ z. when (one x) z (t.kind ∷ [])) is.0 (ap (λ z. z ∷ []) (named t.kind h)),
        )
    go false h q = let is = read_is false b (t ∷ ts) rest q in ([], is.1, subst (λ z. when (one x) z []) is.0 refl)

  stays : (rest : List Token) → begins_with f rest ≡ false → flag_at f rest ≡ Some (false, rest)
  stays [] h = refl
  stays (t ∷ ts) h = rw h refl

  reads : (b : Bool) (front rest : List Token) → when (one x) b (kinds front) → begins_with f rest ≡ false
      → flag_at f (front ++ rest) ≡ Some (b, rest)
  reads false [] rest s may = stays rest may
  reads false (t ∷ front) rest s may = absurd cc
  reads true [] rest s may = absurd cc
  reads true (t ∷ []) rest s may = let is : t.kind ≡ x = cc in rw (is, is_so) refl
  reads true (t ∷ u ∷ front) rest s may = absurd cc

-- a mark that may be missing
pub flag_reads : (m : List ℕ) → IsGrammar (flag_at (mark_is m)) (when (mark m)) (λ rest. begins_with (mark_is m) rest ≡ false)
flag_reads m = flag_is (mark_is m) (Mark m) (mark_named m) (equal_bytes m)

-- a word that may be missing
pub word_flag_reads : (w : List ℕ) → IsGrammar (flag_at (word_is w)) (when (word w)) (λ rest. begins_with (word_is w) rest ≡ false)
word_flag_reads w = flag_is (word_is w) (Name w) (word_named w) (equal_bytes w)

-- ---- words that stand for something

named_by : {A : Type 0} (spell : A → List ℕ) (x : List ℕ × A) (k : TokenKind) (a : A) (b : Bool) (more : Option A)
    → spell x.1 ≡ x.0 → word_is x.0 k ≡ b → (more ≡ Some a → k ≡ Name (spell a)) → cond b (Some x.1) more ≡ Some a
    → k ≡ Name (spell a)
named_by spell x k a true more h is others q = let same : x.1 ≡ a = cc in word_named x.0 k is ∙ ap Name (sym h)
    ∙ ap (λ z. Name (spell z)) same
named_by spell x k a false more h is others q = others q

named : {A : Type 0} (spell : A → List ℕ) (es : List (List ℕ × A)) → AllByRecursion (λ e. spell e.1 ≡ e.0) es
    → (k : TokenKind) (a : A) → word_in es k ≡ Some a
    → k ≡ Name (spell a)
named spell [] h k a e = absurd cc
named spell (x ∷ es) h k a e = named_by spell x k a (word_is x.0 k) (word_in es k) h.0 refl (named spell es h.1 k a) e

pub words_are : {A : Type 0} (table : List (List ℕ × A)) (spell : A → List ℕ)
    → AllByRecursion (λ e. spell e.1 ≡ e.0) table → ((a : A) → word_in table (Name (spell a)) ≡ Some a)
    → IsGrammar (token_at (word_in table)) (λ a. word (spell a)) Any
words_are {A} table spell all back =
    token_is (word_in table) (λ a. word (spell a)) (λ k a e. ap (λ z. z ∷ []) (named spell table all k a e)) (λ a ks s.
    (Name (spell a), s, back a))

pub leads_words : {A : Type 0} (table : List (List ℕ × A)) (spell : A → List ℕ) → ((a : A) → word_in table (Name (spell a)) ≡ Some a)
    → Leads (λ a. word (spell a)) (has_word table)
leads_words table spell back a ks s = (Name (spell a), [], s, ap is_some (back a))

pub apart_words : {A : Type 0} (g : TokenKind → Bool) (table : List (List ℕ × A)) → AllByRecursion (λ e. g (Name e.0) ≡ false) table
    → Apart g (has_word table)
apart_words g [] h k e = refl
apart_words g (x ∷ es) h k e = rw (apart_word g x.0 h.0 k e) (apart_words g es h.1 k e)

pub apart_id : (words : List (List ℕ)) (g : TokenKind → Bool) → ((n : List ℕ) → g (Name n) ≡ false) → Apart g (is_id words)
apart_id words g h (Name n) e = let p = h n in absurd cc
apart_id words g h _ e = refl

-- what a text begins with is what the text seen otherwise begins with
pub leads_by : {A B : Type 0} {S : A → Text} {T : B → Text} {g : TokenKind → Bool} (f : A → B)
    → ((y : B) (ks : List TokenKind) → T y ks → (x : A) × (f x ≡ y) × S x ks) → Leads S g
    → Leads T g
leads_by f back l y ks t = let x = back y ks t in l x.0 ks x.2

pub maybe_not : {A : Type 0} {S : A → Text} {g : TokenKind → Bool} (f : TokenKind → Bool) → Leads S g → Apart g f
    → (o : Option A) (front rest : List Token) → maybe S o (kinds front) → begins_with f rest ≡ false
    → begins_with f (front ++ rest) ≡ false
maybe_not f l apart None [] rest s h = h
maybe_not f l apart None (t ∷ front) rest s h = absurd cc
maybe_not f l apart (Some a) front rest s h = begins_not f l apart a front rest s

pub not_other : (f : TokenKind → Bool) (ts : List Token) → begins_with f ts ≡ true → begins_other f ts ≡ false
not_other f [] h = refl
not_other f (t ∷ ts) h = rw h refl

-- after the last item before a closing mark
pub stopped : {B : Type 0} {T : B → Text} (close : List ℕ) → Leads T (mark_is close) → (b : B) (front rest : List Token) → T b (kinds front)
    → begins_other (mark_is close) (front ++ rest) ≡ false
stopped close l b front rest t = not_other (mark_is close) (front ++ rest) (begins_so l b front rest t)
