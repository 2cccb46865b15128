-- The words of the grammar, and identifiers.
use Rattle.std.specs.Prelude.{List, [], ◌∷◌, ℕ, ◌==◌, codes, if◌then◌else◌}

-- the words that the grammar quotes, which are not identifiers
abbrev pub corba_words : List (List ℕ)
corba_words = codes "module" ∷ codes "interface" ∷ codes "typedef" ∷ codes "struct" ∷ codes "union" ∷ codes "switch"
    ∷ codes "case" ∷ codes "default" ∷ codes "enum" ∷ codes "const" ∷ codes "exception" ∷ codes "readonly" ∷ codes "attribute"
    ∷ codes "oneway" ∷ codes "void" ∷ codes "raises" ∷ codes "in" ∷ codes "out" ∷ codes "inout" ∷ codes "unsigned" ∷ codes "short"
    ∷ codes "long" ∷ codes "char" ∷ codes "boolean" ∷ codes "octet" ∷ codes "string" ∷ codes "sequence" ∷ codes "float"
    ∷ codes "double" ∷ codes "wchar" ∷ codes "wstring" ∷ codes "any" ∷ codes "Object" ∷ codes "TRUE" ∷ codes "FALSE" ∷ []

-- an identifier without the `_` that may come first
abbrev pub plain : List ℕ → List ℕ
plain [] = []
plain (o ∷ os) = if o == 95 then os else o ∷ os
