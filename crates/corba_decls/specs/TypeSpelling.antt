-- The tokens of a type.
use Rattle.std.specs.Prelude.{◌≡◌, ◌⊎◌, ℕ, zero, suc, Bool, true, false, List, [], ◌∷◌, Option, Some, None, codes}
use Rattle.idl_read.specs.Grammar.{Text, word, mark, ◌&◌, maybe, when}
use Rattle.idl_exprs.specs.Trees.{Tree}
use Rattle.idl_exprs.specs.Spelling.{scoped, expression}
use Rattle.corba_decls.specs.declared.type_tree.IntSize.{IntSize}
use Rattle.corba_decls.specs.declared.type_tree.IntSize.TheVariants.{Short, Long, LongLong}
use Rattle.corba_decls.specs.declared.type_tree.Int.{Int}
use Rattle.corba_decls.specs.declared.type_tree.Simple.{Simple}
use Rattle.corba_decls.specs.declared.type_tree.Simple.TheVariants as S
use Rattle.corba_decls.specs.declared.type_tree.Base.{Base}
use Rattle.corba_decls.specs.declared.type_tree.Base.TheVariants as B

-- the size of an integer type
abbrev pub size : IntSize → Text
size Short = word (codes "short")
size Long = word (codes "long")
size LongLong = word (codes "long") & word (codes "long")

-- int = [ "unsigned" ] ( "short" | "long" [ "long" ] )
abbrev pub int : Int → Text
int i = when (word (codes "unsigned")) i.unsigned & size i.size

-- the word of a type of one word
abbrev pub simple_spell : Simple → List ℕ
simple_spell S.Char = codes "char"
simple_spell S.Boolean = codes "boolean"
simple_spell S.Octet = codes "octet"
simple_spell S.Float = codes "float"
simple_spell S.Double = codes "double"
simple_spell S.Wchar = codes "wchar"
simple_spell S.Wstring = codes "wstring"
simple_spell S.Any = codes "any"
simple_spell S.Object = codes "Object"

-- The mark that ends a string or a sequence: `>`, or a `>>` by whose second half the sequence around it ends too.
abbrev pub close : Bool → Text
close false = mark (codes ">")
close true = mark (codes ">>")

-- a type that shares no mark with the sequence around it: where it must share one, it has no text
abbrev pub alone : Text → Bool → Text
alone P false ks = P ks
alone P true ks = ⊥

-- a type that is not a sequence; `shared` says that its last mark ends the sequence around it too
abbrev pub base : ℕ → Base → Bool → Text
base n (B.Simple s) shared = alone (word (simple_spell s)) shared
base n B.LongDouble shared = alone (word (codes "long") & word (codes "double")) shared
base n (B.Int i) shared = alone (int i) shared
base n (B.Name m) shared = alone (scoped m) shared
base n (B.Text None) shared = alone (word (codes "string")) shared
base n (B.Text (Some e)) shared = word (codes "string") & mark (codes "<") & expression n e & close shared

-- the bound of a sequence, if there is one, and the mark that ends it
abbrev pub bound : ℕ → Option Tree → Bool → Text
bound n b shared = maybe (λ e. mark (codes ",") & expression n e) b & close shared

-- what follows the `<` of a sequence: an element that shares its end with the sequence, or an element and an end
abbrev pub held : (Bool → Text) → ℕ → Option Tree → Bool → Text
held element n b shared ks = ((b ≡ None) × (shared ≡ false) × element true ks) ⊎ (element false & bound n b shared) ks

-- a type within so many levels: an element has one level less
abbrev pub type : ℕ → List (Option Tree) → Base → Bool → Text
type zero bounds b shared ks = ⊥
type (suc n) [] b shared ks = base (suc n) b shared ks
type (suc n) (x ∷ xs) b shared ks = (word (codes "sequence") & mark (codes "<") & held (type n xs b) (suc n) x shared) ks
