-- What is written of a tree, token by token.
use Rattle.std.specs.Prelude.{◌≡◌, ℕ, List, [], ◌∷◌, ◌++◌, decimal, codes}
use Rattle.json.specs.Token.{Token, key, number, string}
use Rattle.json.specs.Tree.{json_tokens, items_tokens, members_tokens}
use Rattle.json.specs.Written.{Written}
use Rattle.wire_def.specs.declared.encoding.Back.{Back}
use Rattle.wire_def.specs.declared.encoding.Back.TheVariants as back
use Rattle.wire_def.specs.declared.head.Head.{Head}
use Rattle.serde_json.specs.Data.{Data, Items, Members, no_members, member}
use Rattle.serde_json.specs.Written.{outline, items_outline, members_outline}
use Rattle.pres.specs.KeyOrder.{key_at}
use Rattle.json_shape.specs.Texts.{text_of}

-- the tokens of a tree
abbrev pub tokens_of : Data → List Token
tokens_of j = json_tokens (outline j)

-- those of the items of an array, with its closing bracket
abbrev pub tokens_of_items : Items → List Token
tokens_of_items js = items_tokens (items_outline js)

-- those of the members of an object, with its closing bracket
abbrev pub tokens_of_members : Members → List Token
tokens_of_members ms = members_tokens (members_outline ms)

-- tokens were appended, and what was before them is unchanged
pub record Adds (old new : Written) (ts : List Token) : Type 0 where
  pub tokens : new.tokens ≡ old.tokens ++ ts
  pub before : new.before ≡ old.before

-- ---- members by an order of their places

-- the members at places
abbrev pub members_at : List (List ℕ) → (ℕ → Data) → List ℕ → Members
members_at names tree [] = no_members
members_at names tree (i ∷ is) = member (key_at names i) (tree i) (members_at names tree is)

-- ---- the numbers of a head

-- a member with a number
abbrev pub word_tokens : List ℕ → ℕ → List Token
word_tokens k n = key k ∷ number (decimal n) ∷ []

-- the number whose key is before `op`
abbrev pub head_before : Back → Head → List Token
head_before back.Xdr h = []
head_before back.Mach h = word_tokens (codes "local") h.local
head_before _ h = word_tokens (codes "id") h.id

-- the number whose key is after `op`
abbrev pub head_after : Back → Head → List Token
head_after back.Xdr h = word_tokens (codes "xid") h.id
head_after back.Mach h = word_tokens (codes "remote") h.remote
head_after _ h = []

-- the number of a reply's head where its key is before `op`
abbrev pub reply_before : Back → Head → List Token
reply_before back.CdrBig h = word_tokens (codes "id") h.id
reply_before back.CdrLittle h = word_tokens (codes "id") h.id
reply_before _ h = []

-- the number of a reply's head where its key is between `outs` and `result`
abbrev pub reply_amid : Back → Head → List Token
reply_amid back.Mach h = word_tokens (codes "remote") h.remote
reply_amid _ h = []

-- the number of a reply's head where its key is after `result`
abbrev pub reply_after : Back → Head → List Token
reply_after back.Xdr h = word_tokens (codes "xid") h.id
reply_after _ h = []

-- the member with the name of an operation
abbrev pub name_tokens : List ℕ → List Token
name_tokens name = key (codes "op") ∷ string (text_of name) ∷ []
