-- Strings that begin with the string of octets, or are it.
use Rattle.std.proofs.Common.{◌≡◌, ℕ, suc, ◌<◌, ◌≤◌, ◌+◌, List, [], ◌∷◌, ◌++◌, length, get_or, take, drop, true, false, encode_utf8, IsUtf8, bytes_eq, refl, sym, ap, ◌∙◌, arith, add-one, append_assoc, append-nil, length-append}
use Rattle.std.proofs.Math.Seq.{drop-cons, take-suc}
use Rattle.std.specs.Bool.{one_answer}
use Rattle.std.specs.Str.{IsAscii}
use Rattle.std.proofs.lemmas.List.{append_cancel_left, take_all, nil_from_length}
use Rattle.std.proofs.lemmas.Str.{IsUtf8-past_char, encode_same, encodes-append, encodes-IsAscii, length-encode, len_utf8_bounds, length-le-encodes}
use Rattle.std.proofs.lemmas.Slice.Eq.{bytes_eq-Decides}
use Rattle.pres.specs.Tables.{text_of}
use Rattle.std.proofs.lemmas.Bool.{false_from_ne_true}

-- the string of the first octets has been read, and what may still come is that of the others
pub record Passing (octets : List ℕ) (k : ℕ) (start rest : List ℕ) : Type 0 where
  pub utf8 : IsUtf8 rest
  pub past : start ≡ text_of (take k octets) ++ rest
  pub ahead : (more : List ℕ) → start ≡ text_of octets ++ more → rest ≡ text_of (drop k octets) ++ more

pub starts : (octets start : List ℕ) → IsUtf8 start → Passing octets 0 start start
starts octets start utf8 = record { utf8 = utf8; past = refl; ahead = λ more h. h }

is_next : (octets : List ℕ) (k : ℕ) (more : List ℕ) → k < length octets
    → text_of (drop k octets) ++ more ≡ encode_utf8 (get_or octets k 0) ++ (text_of (drop (suc k) octets) ++ more)
is_next octets k more h = rw (drop-cons octets k 0) (append_assoc (encode_utf8 (get_or octets k 0)) (text_of (drop (suc k) octets)) more)

pub never_empty : (c : ℕ) (more : List ℕ) → 0 < length (encode_utf8 c ++ more)
never_empty c more = omega (arith, length-append (encode_utf8 c) more, length-encode c, len_utf8_bounds c)

pub goes_on : (octets : List ℕ) (k c : ℕ) (start rest more : List ℕ) → k < length octets → Passing octets k start rest
    → rest ≡ encode_utf8 c ++ more → c ≡ get_or octets k 0
    → Passing octets (k + 1) start more
goes_on octets k c start rest more h p is same = record {
  utf8 = IsUtf8-past_char rest more c p.utf8 is;
  past =
      let front : text_of (take (suc k) octets) ≡ text_of (take k octets) ++ encode_utf8 c =
      ap text_of (take-suc octets k 0 h) ∙ encodes-append (take k octets) (get_or octets k 0 ∷ [])
      ∙ ap (λ bs. text_of (take k octets) ++ bs) (append-nil (encode_utf8 (get_or octets k 0)))
      ∙ ap (λ (x : ℕ). text_of (take k octets) ++ encode_utf8 x) (sym same) in
      rw (add-one, front) (p.past ∙ ap (λ bs. text_of (take k octets) ++ bs) is
      ∙ sym (append_assoc (text_of (take k octets)) (encode_utf8 c) more));
  ahead =
      λ after from. rw add-one (encode_same c (get_or octets k 0) more (text_of (drop (suc k) octets) ++ after) (sym is
      ∙ p.ahead after from ∙ is_next octets k after h)).1;
}

pub differs : (octets : List ℕ) (k c : ℕ) (start rest more : List ℕ) → k < length octets → Passing octets k start rest
    → rest ≡ encode_utf8 c ++ more → (c ≡ get_or octets k 0 → ⊥) → (after : List ℕ) → start ≡ text_of octets ++ after
    → ⊥
differs octets k c start rest more h p is other after from =
    other (encode_same c (get_or octets k 0) more (text_of (drop (suc k) octets) ++ after) (sym is ∙ p.ahead after from
    ∙ is_next octets k after h)).0

pub falls_short : (octets : List ℕ) (k : ℕ) (start rest : List ℕ) → k < length octets → Passing octets k start rest → length rest ≡ 0
    → (after : List ℕ) → start ≡ text_of octets ++ after
    → ⊥
falls_short octets k start rest h p none after from =
    let there : rest ≡ encode_utf8 (get_or octets k 0) ++ (text_of (drop (suc k) octets) ++ after) =
    p.ahead after from ∙ is_next octets k after h in
    let long = never_empty (get_or octets k 0) (text_of (drop (suc k) octets) ++ after) in
    let same = ap (λ (bs : List ℕ). length bs) there in
    omega (arith, none, long, same)

pub ends : (octets : List ℕ) (k : ℕ) (start rest : List ℕ) → length octets ≤ k → Passing octets k start rest
    → IsUtf8 rest × (start ≡ text_of octets ++ rest)
ends octets k start rest h p = (p.utf8, p.past ∙ ap (λ (os : List ℕ). text_of os ++ rest) (take_all k octets h))

-- a string that is just the octets'
pub whole_text : (octets text rest : List ℕ) → text ≡ text_of octets ++ rest → length rest ≡ 0 → bytes_eq (text_of octets) text ≡ true
whole_text octets text rest is none =
    let empty : rest ≡ [] = nil_from_length rest none in
    (bytes_eq-Decides (text_of octets) text).1 (sym (is ∙ ap (λ bs. text_of octets ++ bs) empty ∙ append-nil (text_of octets)))

-- a string that does not begin so
pub other_text : (octets text : List ℕ) → ((more : List ℕ) → text ≡ text_of octets ++ more → ⊥) → bytes_eq (text_of octets) text ≡ false
other_text octets text h =
    false_from_ne_true (bytes_eq (text_of octets) text)
    (λ e. h [] (sym ((bytes_eq-Decides (text_of octets) text).0 e) ∙ sym (append-nil (text_of octets))))

-- the string of octets of ASCII is these octets
pub plain_name : (name text : List ℕ) → IsAscii name → bytes_eq (text_of name) text ≡ bytes_eq name text
plain_name name text h = ap (λ (t : List ℕ). bytes_eq t text) (encodes-IsAscii name h)

-- octets that are more than a string has are not it
pub too_long : (name text : List ℕ) → length text < length name → bytes_eq (text_of name) text ≡ false
too_long name text h =
    false_from_ne_true (bytes_eq (text_of name) text) (λ e.
    let same : text_of name ≡ text = (bytes_eq-Decides (text_of name) text).0 e in
    omega (arith, h, length-le-encodes name, ap (λ (t : List ℕ). length t) same))

-- what stands after the same front is the same where all is
same_end : (front a b : List ℕ) → bytes_eq a b ≡ bytes_eq (front ++ a) (front ++ b)
same_end front a b =
    one_answer (bytes_eq a b) (bytes_eq (front ++ a) (front ++ b)) (bytes_eq-Decides a b) (
      λ t. append_cancel_left front a b ((bytes_eq-Decides (front ++ a) (front ++ b)).0 t),
      λ e. (bytes_eq-Decides (front ++ a) (front ++ b)).1 (ap (λ z. front ++ z) e),
    )

-- a string that begins with the first piece is the octets' where the rest is the second's
pub rest_decides : (name prefix own text rest : List ℕ) → name ≡ prefix ++ own → text ≡ text_of prefix ++ rest
    → bytes_eq (text_of own) rest ≡ bytes_eq (text_of name) text
rest_decides name prefix own text rest pieces begins =
    same_end (text_of prefix) (text_of own) rest
    ∙ ap (λ t. bytes_eq t (text_of prefix ++ rest)) (sym (ap text_of pieces ∙ encodes-append prefix own))
    ∙ ap (λ t. bytes_eq (text_of name) t) (sym begins)

-- a string that does not begin with the first piece is not the octets'
pub other_front : (name prefix own text : List ℕ) → name ≡ prefix ++ own
    → ((more : List ℕ) → text ≡ text_of prefix ++ more → ⊥)
    → bytes_eq (text_of name) text ≡ false
other_front name prefix own text pieces differs =
    other_text name text (λ more e. differs (text_of own ++ more) (
    e ∙ ap (λ t. t ++ more) (ap text_of pieces ∙ encodes-append prefix own) ∙ append_assoc (text_of prefix) (text_of own) more))

-- octets of ASCII are the same as a string where it is theirs
pub plain_turned : (name text : List ℕ) → IsAscii name → bytes_eq text name ≡ bytes_eq (text_of name) text
plain_turned name text h =
    one_answer (bytes_eq text name) (bytes_eq (text_of name) text) (bytes_eq-Decides text name) (
      λ t. sym (sym (encodes-IsAscii name h) ∙ (bytes_eq-Decides (text_of name) text).0 t),
      λ e. (bytes_eq-Decides (text_of name) text).1 (encodes-IsAscii name h ∙ sym e),
    )
