-- Reading a tree from the beginning of a list of tokens: a tool beside the grammar, tied to it by IsGrammar.
use Rattle.std.specs.Prelude.{◌≡◌, Bool, true, false, not, ◌||◌, ◌⊎◌, ℕ, ℤ, zero, suc, List, [], ◌∷◌, length, Option, Some, None, is_some, Result, Ok, Err, if◌then◌else◌}
use Rattle.std.proofs.Common.{inl, inr}
use Rattle.std.specs.Str.{bytes_eq}
use Rattle.idl_read.specs.declared.halt.Halt.{Halt}
use Rattle.idl_read.specs.declared.halt.Halt.TheVariants as halts
use Rattle.idl_lex.specs.declared.kinds.Token.{Token}
use Rattle.idl_lex.specs.declared.kinds.TokenKind.{TokenKind}
use Rattle.idl_lex.specs.declared.kinds.TokenKind.TheVariants.{Name, Number, Mark}

-- what is read and the tokens after it, or nothing
abbrev pub Read : Type 0 → Type 0
Read A = Option (A × List Token)

-- a way of reading tokens
abbrev pub Reader : Type 0 → Type 0
Reader A = List Token → Read A

-- nothing read where no tree begins; out of memory is always allowed
abbrev pub Fails : {Y : Type 0} → Halt → Option Y → Type 0
Fails halts.NoMemory read = Unit {0}
Fails halts.Syntax read = read ≡ None

-- what a function returned, seen by view, as what is read
abbrev pub Gives : {X Y : Type 0} → (X → Y) → Result X Halt → Option Y → Type 0
Gives view (Ok x) read = read ≡ Some (view x)
Gives view (Err e) read = Fails e read

-- what is read of the tokens after
abbrev pub then_on : {A B : Type 0} → Read A → (A → Reader B) → Read B
then_on None f = None
then_on (Some x) f = f x.0 x.1

-- the same with another tree
abbrev pub map_read : {A B : Type 0} → (A → B) → Read A → Read B
map_read f None = None
map_read f (Some x) = Some (f x.0, x.1)

-- ---- one token

-- whether a token is this word
abbrev pub word_is : List ℕ → TokenKind → Bool
word_is w (Name n) = bytes_eq n w
word_is w _ = false

-- whether a token is this mark
abbrev pub mark_is : List ℕ → TokenKind → Bool
mark_is w (Mark m) = bytes_eq m w
mark_is w _ = false

-- the number that a token is
abbrev pub number_in : TokenKind → Option ℤ
number_in (Number n) = Some n
number_in _ = None

-- whether the first token is of this kind
abbrev pub begins_with : (TokenKind → Bool) → List Token → Bool
begins_with f [] = false
begins_with f (t ∷ ts) = f t.kind

-- whether a first token is there and of another kind
abbrev pub begins_other : (TokenKind → Bool) → List Token → Bool
begins_other f [] = false
begins_other f (t ∷ ts) = not (f t.kind)

-- what a token gives, if it gives anything
abbrev pub with_rest : {A : Type 0} → List Token → Option A → Read A
with_rest ts None = None
with_rest ts (Some a) = Some (a, ts)

-- a token that gives something
abbrev pub token_at : {A : Type 0} → (TokenKind → Option A) → Reader A
token_at f [] = None
token_at f (t ∷ ts) = with_rest ts (f t.kind)

-- a token of a kind, which gives nothing more
abbrev pub only_if : (TokenKind → Bool) → TokenKind → Option (Unit {0})
only_if f k = if f k then Some tt else None

-- this word
abbrev pub word_at : List ℕ → Reader (Unit {0})
word_at w = token_at (only_if (word_is w))

-- this mark
abbrev pub mark_at : List ℕ → Reader (Unit {0})
mark_at w = token_at (only_if (mark_is w))

-- a number
abbrev pub number_at : Reader ℤ
number_at = token_at number_in

-- whether a name is one of the words
abbrev pub is_in : List ℕ → List (List ℕ) → Bool
is_in n [] = false
is_in n (w ∷ ws) = bytes_eq n w || is_in n ws

-- the name that a token is, if that is none of the words
abbrev pub id_in : List (List ℕ) → TokenKind → Option (List ℕ)
id_in words (Name n) = if is_in n words then None else Some n
id_in words _ = None

-- a name that is none of the words
abbrev pub id_at : List (List ℕ) → Reader (List ℕ)
id_at words = token_at (id_in words)

-- whether a token is a name that is none of the words
abbrev pub is_id : List (List ℕ) → TokenKind → Bool
is_id words k = is_some (id_in words k)

-- whether a token of this kind comes first, which is then read
abbrev pub flag_at : (TokenKind → Bool) → Reader Bool
flag_at f [] = Some (false, [])
flag_at f (t ∷ ts) = if f t.kind then Some (true, ts) else Some (false, t ∷ ts)

-- what a word stands for in a table
abbrev pub word_in : {A : Type 0} → List (List ℕ × A) → TokenKind → Option A
word_in [] k = None
word_in (e ∷ es) k = if word_is e.0 k then Some e.1 else word_in es k

-- whether a token is a word of the table
abbrev pub has_word : {A : Type 0} → List (List ℕ × A) → TokenKind → Bool
has_word es k = is_some (word_in es k)

-- ---- several

-- one after another
abbrev pub both : {A B : Type 0} → Reader A → Reader B → Reader (A × B)
both r s ts = then_on (r ts) (λ a us. then_on (s us) (λ b vs. Some ((a, b), vs)))

-- what is read, as another tree
abbrev pub mapped : {A B : Type 0} → (A → B) → Reader A → Reader B
mapped f r ts = map_read f (r ts)

-- the first where the test passes, else the second
abbrev pub either : {A B : Type 0} → (List Token → Bool) → Reader A → Reader B → Reader (A ⊎ B)
either go r s ts = if go ts then map_read inl (r ts) else map_read inr (s ts)

-- one where the test passes
abbrev pub option : {A : Type 0} → (List Token → Bool) → Reader A → Reader (Option A)
option go r ts = if go ts then map_read Some (r ts) else Some (None, ts)

-- at most n, as long as the test passes
abbrev pub repeat : {A : Type 0} → (List Token → Bool) → Reader A → ℕ → Reader (List A)
repeat go r zero ts = Some ([], ts)
repeat go r (suc n) ts = if go ts then then_on (r ts) (λ x us. then_on (repeat go r n us) (λ xs vs. Some (x ∷ xs, vs))) else Some ([], ts)

-- as many as the test lets begin
abbrev pub many : {A : Type 0} → (List Token → Bool) → Reader A → Reader (List A)
many go r ts = repeat go r (length ts) ts

-- what follows a token that gives nothing
abbrev pub after : {A : Type 0} → Reader (Unit {0}) → Reader A → Reader A
after r s = mapped (λ x. x.1) (both r s)

-- what comes before a token that gives nothing
abbrev pub before : {A : Type 0} → Reader A → Reader (Unit {0}) → Reader A
before r s = mapped (λ x. x.0) (both r s)

-- a list by its first item
abbrev pub cons : {A : Type 0} → A × List A → List A
cons x = x.0 ∷ x.1

-- one or more, with marks between them
abbrev pub joined_at : {A : Type 0} → List ℕ → Reader A → Reader (List A)
joined_at m r = mapped cons (both r (many (begins_with (mark_is m)) (after (mark_at m) r)))

-- as many as come before the mark
abbrev pub until_at : {A : Type 0} → List ℕ → Reader A → Reader (List A)
until_at close r = many (begins_other (mark_is close)) r

-- as many as begin with the word
abbrev pub while_at : {A : Type 0} → List ℕ → Reader A → Reader (List A)
while_at w r = many (begins_with (word_is w)) r

-- a list that has an item
abbrev pub if_some : {A : Type 0} → List A → Reader (List A)
if_some [] us = None
if_some (x ∷ xs) us = Some (x ∷ xs, us)

-- one or more
abbrev pub some_at : {A : Type 0} → Reader (List A) → Reader (List A)
some_at r ts = then_on (r ts) if_some
