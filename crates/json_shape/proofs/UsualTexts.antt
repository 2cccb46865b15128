-- Numbers, items, texts and rows that are read of tokens in the usual form.
use Rattle.std.proofs.Common.{◌≡◌, ◌<◌, ◌≤◌, ℕ, ℤ, pos, negsuc, List, ◌∷◌, ◌++◌, length, map, Bool, true, Option, Some, Ok, option_map, refl, sym, ap, ◌∙◌, arith}
use Rattle.std.specs.Result.{result_ok}
use Rattle.std.proofs.lemmas.Int.{to_z-of_z}
use Rattle.hex.specs.Hex.{decode_of}
use Rattle.json.specs.Json as text
use Rattle.json.specs.Token.{Token}
use Rattle.json.specs.Token as token
use Rattle.json.specs.Tree.{depth, json_tokens}
use Rattle.mint.specs.declared.kind.Kind.{Kind}
use Rattle.mint.specs.declared.kind.Kind.TheVariants as kind
use Rattle.mint.specs.Kinds.{in_range}
use Rattle.mint.specs.Row.{Numbers}
use Rattle.pres.specs.Faces.{ItemList, item}
use Rattle.serde_json.specs.Data.{Data, number, string, boolean}
use Rattle.serde_json.specs.Find.{as_integer, of_integer}
use Rattle.serde_json.specs.Read.{number_of}
use Rattle.json_shape.specs.Scalars.{flag, number_in, number_named, row_in, sign_in, whole_in}
use Rattle.json_shape.specs.Texts.{octets_of}
use Rattle.json_shape.specs.Usual.{IsRead, Reads}

pub ruleset numbers = (to_z-of_z)

integer_again : (n : ℤ) → as_integer (of_integer n) ≡ Some n
integer_again (pos n) = refl
integer_again (negsuc n) = refl

-- ---- one token

-- tokens whose first ones are the same
pub same_first : (s t : Token) (ts : List Token) → s ≡ t → s ∷ ts ≡ t ∷ ts
same_first s t ts same = ap (λ (x : Token). x ∷ ts) same

-- the tokens of a tree of text
taken : {X : Type 0} → (d : ℕ) (j : text.Json) (old new : List Token) (f : Data → Option X) (x : X) → old ≡ json_tokens j ++ new
    → depth j ≤ d → IsRead j f x → Reads d old new f x
taken d j old new f x same nests read = record { source = j; takes = same; nests = nests; read = read }

-- one token is before the others
pub one_less : (t : Token) (old new : List Token) → old ≡ t ∷ new → length new < length old
one_less t old new same = let e = ap (λ (ts : List Token). length ts) same in omega (arith, e)

pub whole_read : (k : Kind) (s : List ℕ) (n m : ℤ) (old new : List Token) → old ≡ token.number s ∷ new
    → number_of s ≡ Some (of_integer n) → m ≡ n → in_range k n ≡ true → Reads 0 old new (whole_in k) m
whole_read k s n m old new same is equal within =
    taken 0 (text.number s) old new (whole_in k) m same (omega arith) (record {
      tree = number (of_integer n);
      is = ap (option_map number) is;
      gives = rw (integer_again n, within) (ap Some (sym equal));
    })

pub truth_read : (b : Bool) (n : ℤ) (old new : List Token) → old ≡ token.boolean b ∷ new → n ≡ flag b
    → Reads 0 old new (number_in kind.Bool) n
truth_read b n old new same is =
    taken 0 (text.boolean b) old new (number_in kind.Bool) n same (omega arith)
    (record { tree = boolean b; is = refl; gives = ap Some (sym is) })

pub item_read : (items : ItemList) (s : List ℕ) (n : ℤ) (old new : List Token) → old ≡ token.string s ∷ new
    → number_named items s ≡ Some n → Reads 0 old new (sign_in (item items)) n
item_read items s n old new same is =
    taken 0 (text.string s) old new (sign_in (item items)) n same (omega arith) (record { tree = string s; is = refl; gives = is })

pub letters_read : (s os xs : List ℕ) (k : Kind) (r : Numbers) (old new : List Token) → old ≡ token.string s ∷ new
    → octets_of s ≡ Some os → xs ≡ os → r ≡ record { kind = k; numbers = map pos xs }
    → Reads 0 old new (row_in kind.Char) r.numbers
letters_read s os xs k r old new same is all made =
    taken 0 (text.string s) old new (row_in kind.Char) r.numbers same (omega arith) (record {
      tree = string s;
      is = refl;
      gives =
          ap (option_map (map pos)) is ∙ ap (λ (x : List ℕ). Some (map pos x)) (sym all)
          ∙ ap (λ (x : Numbers). Some x.numbers) (sym made);
    })

pub digits_read : (s t os xs : List ℕ) (k : Kind) (r : Numbers) (old new : List Token) → old ≡ token.string s ∷ new → t ≡ s
    → decode_of t ≡ Ok os → xs ≡ os → r ≡ record { kind = k; numbers = map pos xs }
    → Reads 0 old new (row_in kind.Octet) r.numbers
digits_read s t os xs k r old new same as_octets is all made =
    taken 0 (text.string s) old new (row_in kind.Octet) r.numbers same (omega arith) (record {
      tree = string s;
      is = refl;
      gives =
          ap (λ x. option_map (map pos) (result_ok (decode_of x))) (sym as_octets) ∙ ap (λ x. option_map (map pos) (result_ok x)) is
          ∙ ap (λ (x : List ℕ). Some (map pos x)) (sym all) ∙ ap (λ (x : Numbers). Some x.numbers) (sym made);
    })
