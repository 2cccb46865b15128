-- Names and strings of ASCII, by induction on the octets.
use Rattle.std.proofs.Common.{◌≡◌, ◌<◌, ◌+◌, ◌==◌, IsUtf8, IfSome, IfNone, Option, Some, None, Bor, subst, ℕ, suc, List, [], ◌∷◌, ◌++◌, length, take, drop, get_or, Bool, true, false, bytes_eq, codes, refl, sym, ap, ◌∙◌, arith, length-append}
use Rattle.std.specs.Str.{IsAscii, IsCharBoundary}
use Rattle.std.proofs.lemmas.Bool.Decides.{Decides-eqb}
use Rattle.std.proofs.lemmas.Str.{encode_same, encodes-append, encodes-IsAscii, IsAscii-take, IsCharBoundary-after_ascii}
use Rattle.std.proofs.lemmas.Slice.Eq.{bytes_eq-Decides}
use Rattle.json_shape.specs.Texts.{text_of}
use Rattle.pres.proofs.Passing.{never_empty, too_long}
use Rattle.json_shape.proofs.Passing.{peeled}
use Rattle.std.proofs.lemmas.Bool.{false_from_ne_true}

-- octets with one string are the same
same_octets : (xs ys : List ℕ) → text_of xs ≡ text_of ys → xs ≡ ys
same_octets [] [] e = refl
same_octets [] (y ∷ ys) e = absurd (omega (arith, never_empty y (text_of ys), ap (λ (t : List ℕ). length t) e))
same_octets (x ∷ xs) [] e = absurd (omega (arith, never_empty x (text_of xs), ap (λ (t : List ℕ). length t) e))
same_octets (x ∷ xs) (y ∷ ys) e =
    let both = encode_same x y (text_of xs) (text_of ys) e in
    ap (λ (z : ℕ). z ∷ xs) both.0 ∙ ap (λ (zs : List ℕ). y ∷ zs) (same_octets xs ys both.1)

same_test : (a b : Bool) → (a ≡ true → b ≡ true) → (b ≡ true → a ≡ true) → a ≡ b
same_test true true f g = refl
same_test true false f g = sym (f refl)
same_test false true f g = g refl
same_test false false f g = refl

pub plain_text : (name text : List ℕ) → IsAscii text → bytes_eq (text_of name) text ≡ bytes_eq name text
plain_text name text h =
    let own : text_of text ≡ text = encodes-IsAscii text h in
    same_test (bytes_eq (text_of name) text) (bytes_eq name text)
    (λ e. (bytes_eq-Decides name text).1 (same_octets name text ((bytes_eq-Decides (text_of name) text).0 e ∙ sym own)))
    (λ e. (bytes_eq-Decides (text_of name) text).1 (ap text_of ((bytes_eq-Decides name text).0 e) ∙ own))

-- ---- after a name and a dot

front_of : (name more : List ℕ) → take (length name) (name ++ more) ≡ name
front_of [] more = refl
front_of (c ∷ name) more = ap (λ (cs : List ℕ). c ∷ cs) (front_of name more)

name_there : (name text more : List ℕ) → text ≡ name ++ (codes "." ++ more) → take (length name) text ≡ name
name_there name text more e = ap (λ (t : List ℕ). take (length name) t) e ∙ front_of name (codes "." ++ more)

-- a name and a dot begin a string
is_cut : (name text : List ℕ) → length name < length text → get_or text (length name) 0 ≡ 46 → take (length name) text ≡ name
    → text ≡ name ++ (codes "." ++ drop (suc (length name)) text)
is_cut [] [] h d e = absurd (omega (arith, h))
is_cut [] (c ∷ text) h d e = ap (λ (z : ℕ). z ∷ text) d
is_cut (n ∷ name) [] h d e = absurd (omega (arith, h))
is_cut (n ∷ name) (c ∷ text) h d e =
    let more : text ≡ name ++ (codes "." ++ drop (suc (length name)) text) = is_cut name text (omega (arith, h)) d cc in
    let first : c ≡ n = cc in
    ap (λ (z : ℕ). z ∷ text) first ∙ ap (λ (t : List ℕ). n ∷ t) more

dot_text : (o : List ℕ) → text_of (codes "." ++ o) ≡ codes "." ++ text_of o
unfolding lib.Utf8.encode
dot_text o = refl

plain_after : (name text rest : List ℕ) → IsAscii name → text ≡ name ++ (codes "." ++ rest) → (o : List ℕ)
    → bytes_eq (text_of (name ++ (codes "." ++ o))) text ≡ bytes_eq (text_of o) rest
plain_after name text rest h e o =
    let first : text ≡ text_of name ++ (codes "." ++ rest) =
    e ∙ ap (λ (n : List ℕ). n ++ (codes "." ++ rest)) (sym (encodes-IsAscii name h)) in
    peeled name (codes "." ++ o) text (codes "." ++ rest) first
    ∙ peeled (codes ".") o (codes "." ++ rest) rest (ap (λ (d : List ℕ). d ++ rest) (sym (dot_text [])))

-- the name in an ASCII string is of ASCII
begun : (name text rest : List ℕ) → IsAscii text → text ≡ name ++ (codes "." ++ rest) → IsAscii name
begun name text rest h e = subst (λ (n : List ℕ). IsAscii n) (name_there name text rest e) (IsAscii-take text (length name) h)

none_after_plain : (name text : List ℕ) → IsAscii name → ((more : List ℕ) → text ≡ name ++ (codes "." ++ more) → ⊥) → (o : List ℕ)
    → bytes_eq (text_of (name ++ (codes "." ++ o))) text ≡ false
none_after_plain name text h f o =
    false_from_ne_true (bytes_eq (text_of (name ++ (codes "." ++ o))) text) (λ e.
    let cut : text_of (name ++ (codes "." ++ o)) ≡ name ++ (codes "." ++ text_of o) =
    encodes-append name (codes "." ++ o) ∙ ap (λ (n : List ℕ). n ++ text_of (codes "." ++ o)) (encodes-IsAscii name h)
    ∙ ap (λ (t : List ℕ). name ++ t) (dot_text o) in
    f (text_of o) (sym ((bytes_eq-Decides (text_of (name ++ (codes "." ++ o))) text).0 e) ∙ cut))

none_in_plain : (name text : List ℕ) → IsAscii text → ((more : List ℕ) → text ≡ name ++ (codes "." ++ more) → ⊥) → (o : List ℕ)
    → bytes_eq (text_of (name ++ (codes "." ++ o))) text ≡ false
none_in_plain name text h f o =
    false_from_ne_true (bytes_eq (text_of (name ++ (codes "." ++ o))) text) (λ e.
    f o (sym ((bytes_eq-Decides (name ++ (codes "." ++ o)) text).0 (sym (plain_text (name ++ (codes "." ++ o)) text h) ∙ e))))

-- a name that is longer than the string does not begin it
pub none_after_long : (name text : List ℕ) → length text < length name → (o : List ℕ)
    → bytes_eq (text_of (name ++ (codes "." ++ o))) text ≡ false
none_after_long name text h o =
    too_long (name ++ (codes "." ++ o)) text (omega (arith, h, length-append name (codes "." ++ o)))

-- ---- what functions over a string's octets find

octet_at : (octets text : List ℕ) (n : ℕ) → octets ≡ text → true ≡ (get_or octets n 0 == 46) → get_or text n 0 ≡ 46
octet_at octets text n e is = ap (λ (t : List ℕ). get_or t n 0) (sym e) ∙ (Decides-eqb (get_or octets n 0) 46).0 (sym is)

-- a string may be cut after a dot
pub cut_after : (octets text : List ℕ) (n : ℕ) → octets ≡ text → IsUtf8 text → n < length octets → true ≡ (get_or octets n 0 == 46)
    → IsCharBoundary text (n + 1)
cut_after octets text n e utf8 h is =
    let dot : get_or text n 0 ≡ 46 = octet_at octets text n e is in
    let long : length octets ≡ length text = ap (λ (t : List ℕ). length t) e in
    IsCharBoundary-after_ascii text n utf8 (omega (arith, h, long)) (omega (arith, dot))

pub cut_by : (name octets text rest : List ℕ) → octets ≡ text → length name < length octets → true ≡ (get_or octets (length name) 0 == 46)
    → true ≡ bytes_eq (take (length name) octets) name → rest ≡ drop (length name + 1) text
    → text ≡ name ++ (codes "." ++ rest)
cut_by name octets text rest e h is front after =
    let dot : get_or text (length name) 0 ≡ 46 = octet_at octets text (length name) e is in
    let long : length octets ≡ length text = ap (λ (t : List ℕ). length t) e in
    let same : take (length name) octets ≡ name = (bytes_eq-Decides (take (length name) octets) name).0 (sym front) in
    let next : suc (length name) ≡ length name + 1 = omega arith in
    is_cut name text (omega (arith, h, long)) dot (ap (λ (t : List ℕ). take (length name) t) (sym e) ∙ same)
    ∙ ap (λ (n : ℕ). name ++ (codes "." ++ drop n text)) next ∙ ap (λ (t : List ℕ). name ++ (codes "." ++ t)) (sym after)

pub not_cut : (name octets text : List ℕ) → octets ≡ text → false ≡ bytes_eq (take (length name) octets) name
    → (more : List ℕ) → text ≡ name ++ (codes "." ++ more) → ⊥
not_cut name octets text e other more is =
    let same : take (length name) octets ≡ name = ap (λ (t : List ℕ). take (length name) t) e ∙ name_there name text more is in
    let test : false ≡ true = other ∙ (bytes_eq-Decides (take (length name) octets) name).1 same in
    cc

ascii_after : (front more : List ℕ) → IsAscii (front ++ more) → IsAscii more
ascii_after [] more h = h
ascii_after (c ∷ front) more h = ascii_after front more (λ i. h (suc i))

-- what stands there is ASCII
pub some_ascii : (name text : List ℕ) (r : Option (Bor (List ℕ))) → IsAscii text
    → IfSome r (λ rest. text ≡ name ++ (codes "." ++ rest.now)) → IfSome r (λ rest. IsAscii rest.now)
some_ascii name text None h e = tt
some_ascii name text (Some rest) h e =
    ascii_after (codes ".") rest.now (ascii_after name (codes "." ++ rest.now) (subst IsAscii e h))

pub some_in_plain : (name text : List ℕ) (r : Option (Bor (List ℕ))) → IsAscii text
    → IfSome r (λ rest. text ≡ name ++ (codes "." ++ rest.now))
    → IfSome r (λ rest. (o : List ℕ) → bytes_eq (text_of (name ++ (codes "." ++ o))) text ≡ bytes_eq (text_of o) rest.now)
some_in_plain name text None h e = tt
some_in_plain name text (Some rest) h e = plain_after name text rest.now (begun name text rest.now h e) e

pub some_after_plain : (name text : List ℕ) (r : Option (Bor (List ℕ))) → IsAscii name
    → IfSome r (λ rest. text ≡ name ++ (codes "." ++ rest.now))
    → IfSome r (λ rest. (o : List ℕ) → bytes_eq (text_of (name ++ (codes "." ++ o))) text ≡ bytes_eq (text_of o) rest.now)
some_after_plain name text None h e = tt
some_after_plain name text (Some rest) h e = plain_after name text rest.now h e

pub if_none_in_plain : (name text : List ℕ) (r : Option (Bor (List ℕ))) → IsAscii text
    → IfNone r ((more : List ℕ) → text ≡ name ++ (codes "." ++ more) → ⊥)
    → IfNone r ((o : List ℕ) → bytes_eq (text_of (name ++ (codes "." ++ o))) text ≡ false)
if_none_in_plain name text None h e = none_in_plain name text h e
if_none_in_plain name text (Some rest) h e = tt

pub if_none_after_plain : (name text : List ℕ) (r : Option (Bor (List ℕ))) → IsAscii name
    → IfNone r ((more : List ℕ) → text ≡ name ++ (codes "." ++ more) → ⊥)
    → IfNone r ((o : List ℕ) → bytes_eq (text_of (name ++ (codes "." ++ o))) text ≡ false)
if_none_after_plain name text None h e = none_after_plain name text h e
if_none_after_plain name text (Some rest) h e = tt
