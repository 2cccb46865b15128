-- The trees that the grammar gives are whole, by induction on the depth of modules and the definitions.
use Rattle.std.proofs.Common.{◌≡◌, ℕ, zero, suc, true, List, [], ◌∷◌, refl}
use Rattle.std.specs.Prelude.{codes, Bool}
use Rattle.std.specs.List.{list_all}
use Rattle.std.proofs.lemmas.Bool.{and_from}
use Rattle.idl_lex.specs.declared.kinds.Token.{Token}
use Rattle.idl_lex.specs.declared.kinds.TokenKind.{TokenKind}
use Rattle.idl_read.specs.Grammar.{Text, word, mark, ◌&◌, each, kinds}
use Rattle.idl_exprs.specs.Spelling.{identifier}
use Rattle.corba_decls.specs.DeclSpelling.{declaration}
use Rattle.corba_syntax.specs.OperationSpelling.{if_any}
use Rattle.corba_syntax.specs.declared.interface_tree.Export.{Export}
use Rattle.corba_syntax.specs.declared.interface_tree.Export.TheVariants as E
use Rattle.corba_syntax.specs.declared.interface_tree.Interface.{Interface}
use Rattle.corba_syntax.specs.InterfaceSpelling.{export, exported, bases, interface}
use Rattle.corba_syntax.specs.declared.definition_tree.Definition.{Definition, out-Definition}
use Rattle.corba_syntax.specs.declared.definition_tree.Definition.TheOpen.{Definition-F}
use Rattle.corba_syntax.specs.declared.definition_tree.Module.{Module, out-Module}
use Rattle.corba_syntax.specs.Derivation.{definition_text, definition, outermost, Derives}
use Rattle.corba_shapes.proofs.Derived.{declaration_whole}
use Rattle.front_corba.specs.Resolved.{is_whole_export, is_whole_level, is_whole_definition, is_whole_outermost, IsWhole}

after : (P Q : Text) (ks : List TokenKind) → (P & Q) ks → (b : List TokenKind) × Q b
after P Q ks (a, b, e, p, q) = (b, q)

before : (P Q : Text) (ks : List TokenKind) → (P & Q) ks → (a : List TokenKind) × P a
before P Q ks (a, b, e, p, q) = (a, p)

-- what holds of each text holds of all
each_whole : {A : Type 0} (S : A → Text) (f : A → Bool) → ((x : A) (ks : List TokenKind) → S x ks → f x ≡ true)
    → (xs : List A) (ks : List TokenKind) → each S xs ks → list_all f xs ≡ true
each_whole S f one [] ks h = refl
each_whole S f one (x ∷ xs) ks h =
    let a = before (S x) (each S xs) ks h in
    let b = after (S x) (each S xs) ks h in
    and_from _ _ (one x a.0 a.1) (each_whole S f one xs b.0 b.1)

exported_whole : (n : ℕ) (e : Export) (ks : List TokenKind) → exported n e ks → is_whole_export e ≡ true
exported_whole n (E.Declaration x) ks h = declaration_whole n x ks h
exported_whole n (E.Attribute a) ks h = refl
exported_whole n (E.Operation o) ks h = refl

export_whole : (n : ℕ) (e : Export) (ks : List TokenKind) → export n e ks → is_whole_export e ≡ true
export_whole n e ks h = let a = before (exported n e) (mark (codes ";")) ks h in exported_whole n e a.0 a.1

interface_whole : (n : ℕ) (i : Interface) (ks : List TokenKind) → interface n i ks → list_all is_whole_export i.exports ≡ true
interface_whole n i ks h =
    let end = mark (codes "}") & mark (codes ";") in
    let list = each (export n) i.exports & end in
    let body = mark (codes "{") & list in
    let heirs = if_any (bases n) i.bases & body in
    let a = after (word (codes "interface")) (identifier i.name & heirs) ks h in
    let b = after (identifier i.name) heirs a.0 a.1 in
    let c = after (if_any (bases n) i.bases) body b.0 b.1 in
    let d = after (mark (codes "{")) list c.0 c.1 in
    let e = before (each (export n) i.exports) end d.0 d.1 in
    each_whole (export n) is_whole_export (export_whole n) i.exports e.0 e.1

module _ (n : ℕ) (inner : (d : Definition) (ks : List TokenKind) → definition n d ks → is_whole_definition n d ≡ true) where
  level_whole : (f : Definition-F Definition Module) (ks : List TokenKind) → definition_text (definition n) (suc n) f ks
      → is_whole_level (is_whole_definition n) f ≡ true
  level_whole (Definition-F.Module m) ks h =
      let name = identifier (out-Module m).name in
      let end = mark (codes "}") & mark (codes ";") in
      let list = each (definition n) (out-Module m).definitions & end in
      let body = mark (codes "{") & list in
      let a = after (word (codes "module")) (name & body) ks h in
      let b = after name body a.0 a.1 in
      let c = after (mark (codes "{")) list b.0 b.1 in
      let d = before (each (definition n) (out-Module m).definitions) end c.0 c.1 in
      each_whole (definition n) (is_whole_definition n) inner (out-Module m).definitions d.0 d.1
  level_whole (Definition-F.Interface i) ks h = interface_whole (suc n) i ks h
  level_whole (Definition-F.Declaration x) ks h =
      let a = before (declaration (suc n) x) (mark (codes ";")) ks h in declaration_whole (suc n) x a.0 a.1

definition_whole : (n : ℕ) (d : Definition) (ks : List TokenKind) → definition n d ks → is_whole_definition n d ≡ true
definition_whole zero d ks h = absurd h
definition_whole (suc n) d ks h = level_whole n (definition_whole n) (out-Definition d) ks h

outermost_whole : (d : Definition) (ks : List TokenKind) → outermost d ks → is_whole_outermost d ≡ true
unfolding outermost is_whole_outermost
outermost_whole d ks h = definition_whole 32 d ks h

pub derived_whole : (tree : List Definition) (tokens : List Token) → Derives tree tokens → IsWhole tree
derived_whole tree tokens h = each_whole outermost is_whole_outermost outermost_whole tree (kinds tokens) h
