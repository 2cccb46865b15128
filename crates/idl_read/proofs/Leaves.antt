-- One token, what it begins with, and what that is apart from.
use Rattle.std.proofs.Common.{◌≡◌, inl, inr, ℕ, ℤ, List, [], ◌∷◌, ◌++◌, Option, Some, None, Bool, true, false, ◌||◌, cond, refl, sym, ap, ◌∙◌}
use Rattle.std.specs.Prelude.{is_some}
use Rattle.std.specs.Str.{bytes_eq}
use Rattle.std.proofs.lemmas.Slice.Eq.{bytes_eq-Decides}
use Rattle.idl_lex.specs.declared.kinds.Token.{Token}
use Rattle.idl_lex.specs.declared.kinds.TokenKind.{TokenKind}
use Rattle.idl_lex.specs.declared.kinds.TokenKind.TheVariants.{Name, Number, Mark}
use Rattle.idl_read.specs.Reading.{with_rest, token_at, only_if, word_is, mark_is, word_at, mark_at, number_in, number_at, begins_with, begins_other, is_in, id_in, id_at, is_id}
use Rattle.idl_read.specs.Grammar.{Text, word, mark, number, id, ◌&◌, one_of, kinds, IsGrammar, Leads, Any}
use Rattle.idl_read.proofs.Grammars.{read_is}
use Rattle.std.proofs.lemmas.Bool.{or_right, or_left}

rest_some : {A : Type 0} (ts : List Token) (o : Option A) (a : A) (rest : List Token) → with_rest ts o ≡ Some (a, rest)
    → (o ≡ Some a) × (ts ≡ rest)
rest_some ts None a rest e = absurd cc
rest_some ts (Some x) a rest e = let is = read_is x a ts rest e in (ap Some is.0, is.1)

pub one_kind : (ts : List Token) (k : TokenKind) → kinds ts ≡ k ∷ [] → (t : Token) × (ts ≡ t ∷ []) × (t.kind ≡ k)
one_kind [] k e = absurd cc
one_kind (t ∷ []) k e = (t, refl, cc)
one_kind (t ∷ u ∷ ts) k e = absurd cc

pub token_is : {A : Type 0} (f : TokenKind → Option A) (S : A → Text) → ((k : TokenKind) (a : A) → f k ≡ Some a → S a (k ∷ []))
    → ((a : A) (ks : List TokenKind) → S a ks → (k : TokenKind) × (ks ≡ k ∷ []) × (f k ≡ Some a))
    → IsGrammar (token_at f) S Any
token_is {A} f S forth back = record {
  found = λ ts a rest e. take ts a rest e;
  again = λ a front rest s may.
      let b = back a (kinds front) s in
      let t = one_kind front b.0 b.1 in
      rw (t.1, t.2, b.2) refl;
} where
  take : (ts : List Token) (a : A) (rest : List Token) → token_at f ts ≡ Some (a, rest) → (front : List Token) × (ts ≡ front ++ rest)
      × S a (kinds front)
  take [] a rest e = absurd cc
  take (t ∷ ts) a rest e =
      let is = rest_some ts (f t.kind) a rest e in
      (t ∷ [], ap (λ z. t ∷ z) is.1, forth t.kind a is.0)

-- ---- words and marks

pub same_bytes : (a b : List ℕ) → bytes_eq a b ≡ true → a ≡ b
same_bytes a b e = (bytes_eq-Decides a b).0 e

pub equal_bytes : (a : List ℕ) → bytes_eq a a ≡ true
equal_bytes a = (bytes_eq-Decides a a).1 refl

pub word_named : (w : List ℕ) (k : TokenKind) → word_is w k ≡ true → k ≡ Name w
word_named w (Name n) e = ap Name (same_bytes n w e)
word_named w _ e = absurd cc

pub mark_named : (w : List ℕ) (k : TokenKind) → mark_is w k ≡ true → k ≡ Mark w
mark_named w (Mark m) e = ap Mark (same_bytes m w e)
mark_named w _ e = absurd cc

only_some : (f : TokenKind → Bool) (k : TokenKind) (u : Unit {0}) → only_if f k ≡ Some u → f k ≡ true
only_some f k u e = go (f k) e where
  go : (b : Bool) → cond b (Some tt) None ≡ Some u → b ≡ true
  go true e' = refl
  go false e' = absurd cc

pub word_reads : (w : List ℕ) → IsGrammar (word_at w) (λ _. word w) Any
word_reads w = token_is (only_if (word_is w)) (λ _. word w)
    (λ k a e. ap (λ z. z ∷ []) (word_named w k (only_some (word_is w) k a e)))
    (λ a ks s. (Name w, s, rw (equal_bytes w) refl))

pub mark_reads : (w : List ℕ) → IsGrammar (mark_at w) (λ _. mark w) Any
mark_reads w = token_is (only_if (mark_is w)) (λ _. mark w)
    (λ k a e. ap (λ z. z ∷ []) (mark_named w k (only_some (mark_is w) k a e)))
    (λ a ks s. (Mark w, s, rw (equal_bytes w) refl))

number_named : (k : TokenKind) (n : ℤ) → number_in k ≡ Some n → k ≡ Number n
number_named (Number m) n e = ap Number cc
number_named _ n e = absurd cc

pub number_reads : IsGrammar number_at number Any
number_reads = token_is number_in number (λ k n e. ap (λ z. z ∷ []) (number_named k n e)) (λ n ks s. (Number n, s, refl))

id_named : (words : List (List ℕ)) (k : TokenKind) (n : List ℕ) → id_in words k ≡ Some n → (k ≡ Name n) × (is_in n words ≡ false)
id_named words (Name x) n e = go (is_in x words) refl e where
  go : (b : Bool) → is_in x words ≡ b → cond b None (Some x) ≡ Some n → (Name x ≡ Name n) × (is_in n words ≡ false)
  go true h e' = absurd cc
  go false h e' = let is : x ≡ n = cc in (ap Name is, rw (← is) h)
id_named words _ n e = absurd cc

pub id_reads : (words : List (List ℕ)) → IsGrammar (id_at words) (id words) Any
id_reads words = token_is (id_in words) (id words)
    (λ k n e. let is = id_named words k n e in (ap (λ z. z ∷ []) is.0, is.1))
    (λ n ks s. (Name n, s.0, rw s.1 refl))

-- ---- what a text begins with

-- kinds of g are none of f
abbrev pub Apart : (TokenKind → Bool) → (TokenKind → Bool) → Type 0
Apart g f = (k : TokenKind) → g k ≡ true → f k ≡ false

pub apart_word : (g : TokenKind → Bool) (w : List ℕ) → g (Name w) ≡ false → Apart g (word_is w)
apart_word g w h k e = go (word_is w k) refl where
  go : (b : Bool) → word_is w k ≡ b → b ≡ false
  go true is = let named = word_named w k is in let both_ways : true ≡ false = sym e ∙ ap g named ∙ h in absurd cc
  go false is = refl

pub apart_mark : (g : TokenKind → Bool) (m : List ℕ) → g (Mark m) ≡ false → Apart g (mark_is m)
apart_mark g m h k e = go (mark_is m k) refl where
  go : (b : Bool) → mark_is m k ≡ b → b ≡ false
  go true is = let named = mark_named m k is in let both_ways : true ≡ false = sym e ∙ ap g named ∙ h in absurd cc
  go false is = refl

pub apart_or : (g f f' : TokenKind → Bool) → Apart g f → Apart g f' → Apart g (λ k. f k || f' k)
apart_or g f f' a b k e = rw (a k e, b k e) refl

pub leads_word : (w : List ℕ) → Leads {A = Unit {0}} (λ _. word w) (word_is w)
leads_word w a ks s = (Name w, [], s, equal_bytes w)

pub leads_mark : (w : List ℕ) → Leads {A = Unit {0}} (λ _. mark w) (mark_is w)
leads_mark w a ks s = (Mark w, [], s, equal_bytes w)

abbrev pub is_number : TokenKind → Bool
is_number k = is_some (number_in k)

pub leads_number : Leads number is_number
leads_number n ks s = (Number n, [], s, refl)

pub leads_id : (words : List (List ℕ)) → Leads (id words) (is_id words)
leads_id words n ks s = (Name n, [], s.0, rw s.1 refl)

pub leads_both : {A B : Type 0} {S : A → Text} {f : TokenKind → Bool} (T : B → Text) → Leads S f → Leads {A = A × B} (λ x. S x.0 & T x.1) f
leads_both T l x ks s = let a = l x.0 s.0 s.3 in (a.0, a.1 ++ s.1, s.2 ∙ ap (λ z. z ++ s.1) a.2, a.3)

pub leads_either : {A B : Type 0} {S : A → Text} {T : B → Text} {f g : TokenKind → Bool} → Leads S f → Leads T g
    → Leads (one_of S T) (λ k. f k || g k)
leads_either {f = f} {g = g} l m (inl a) ks s = let x = l a ks s in (x.0, x.1, x.2, or_left (f x.0) (g x.0) x.3)
leads_either {f = f} {g = g} l m (inr b) ks s = let x = m b ks s in (x.0, x.1, x.2, or_right (f x.0) (g x.0) x.3)

first_token : (ts : List Token) (k : TokenKind) (ks : List TokenKind) → kinds ts ≡ k ∷ ks
    → (t : Token) × (us : List Token) × (ts ≡ t ∷ us) × (t.kind ≡ k)
first_token [] k ks e = absurd cc
first_token (t ∷ us) k ks e = (t, us, refl, cc)

pub begins_so : {A : Type 0} {S : A → Text} {f : TokenKind → Bool} → Leads S f → (a : A) (front rest : List Token) → S a (kinds front)
    → begins_with f (front ++ rest) ≡ true
begins_so {f = f} l a front rest s =
    let x = l a (kinds front) s in
    let t = first_token front x.0 x.1 x.2 in
    rw (t.2, t.3) x.3

pub begins_not : {A : Type 0} {S : A → Text} {g : TokenKind → Bool} (f : TokenKind → Bool) → Leads S g → Apart g f
    → (a : A) (front rest : List Token) → S a (kinds front)
    → begins_with f (front ++ rest) ≡ false
begins_not f l apart a front rest s =
    let x = l a (kinds front) s in
    let t = first_token front x.0 x.1 x.2 in
    rw (t.2, t.3) (apart x.0 x.3)

pub begins_else : {A : Type 0} {S : A → Text} {g : TokenKind → Bool} (f : TokenKind → Bool) → Leads S g → Apart g f
    → (a : A) (front rest : List Token) → S a (kinds front)
    → begins_other f (front ++ rest) ≡ true
begins_else f l apart a front rest s =
    let x = l a (kinds front) s in
    let t = first_token front x.0 x.1 x.2 in
    rw (t.2, t.3, apart x.0 x.3) refl
