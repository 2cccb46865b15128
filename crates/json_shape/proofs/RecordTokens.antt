-- The tokens of a request record and the text that they are.
use Rattle.std.proofs.Common.{◌≡◌, ℕ, List, [], ◌∷◌, ◌++◌, refl, ap, ◌∙◌, codes}
use Rattle.json.specs.Token.{Token, begin_object, end_object, key, string}
use Rattle.json.specs.Print.{print}
use Rattle.json.specs.Written.{Written}
use Rattle.wire_def.specs.declared.encoding.Back.{Back}
use Rattle.wire_def.specs.declared.encoding.Back.TheVariants as back
use Rattle.wire_def.specs.declared.head.Head.{Head}
use Rattle.serde_json.specs.Data.{Data, no_members, object, put}
use Rattle.serde_json.specs.Data as json
use Rattle.serde_json.specs.Written.{compact_text}
use Rattle.serde_json.proofs.Texts.{print-outline}
use Rattle.json_shape.specs.Requests.{head_json}
use Rattle.json_shape.specs.Printed.{head_after, head_before, tokens_of, Adds}

-- the members of a record in the order of their keys
abbrev pub record_tokens : Back → Head → Data → List ℕ → List Token
record_tokens b h j s =
    begin_object ∷ key (codes "args") ∷ (tokens_of j
    ++ (head_before b h ++ (key (codes "op") ∷ string s ∷ (head_after b h ++ end_object ∷ []))))

pub record_is : (b : Back) (h : Head) (j : Data) (s : List ℕ)
    → tokens_of (object (put (codes "op") (json.string s) (head_json b h (put (codes "args") j no_members)))) ≡ record_tokens b h j s
record_is back.Xdr h j s = refl
record_is back.CdrBig h j s = refl
record_is back.CdrLittle h j s = refl
record_is back.Mach h j s = refl

-- what a new writer gives
pub text_is : (old new : Written) (d : Data) (text : List ℕ) → old.before ≡ [] → old.tokens ≡ [] → Adds old new (tokens_of d)
    → text ≡ new.before ++ print new.tokens
    → text ≡ compact_text d
text_is old new d text none empty adds is =
    is ∙ ap (λ (b : List ℕ). b ++ print new.tokens) (adds.before ∙ none)
    ∙ ap print (adds.tokens ∙ ap (λ (ts : List Token). ts ++ tokens_of d) empty)
    ∙ print-outline d
