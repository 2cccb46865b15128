-- The declarations that the grammar gives are whole.
use Rattle.std.proofs.Common.{◌≡◌, ℕ, zero, suc, true, false, List, [], ◌∷◌, refl}
use Rattle.std.specs.Prelude.{codes}
use Rattle.idl_lex.specs.declared.kinds.TokenKind.{TokenKind}
use Rattle.idl_read.specs.Grammar.{Text, word, mark, ◌&◌, each, some, joined}
use Rattle.idl_names.specs.Lists.{is_some_list}
use Rattle.idl_exprs.specs.Spelling.{identifier}
use Rattle.corba_decls.specs.TypeSpelling.{type}
use Rattle.corba_decls.specs.declared.member_tree.Member.{Member}
use Rattle.corba_decls.specs.declared.member_tree.Struct.{Struct}
use Rattle.corba_decls.specs.declared.member_tree.Enum.{Enum}
use Rattle.corba_decls.specs.MemberSpelling.{declarator, member, structure, enumeration}
use Rattle.corba_decls.specs.declared.decl_tree.Aliased.{Aliased}
use Rattle.corba_decls.specs.declared.decl_tree.Aliased.TheVariants as A
use Rattle.corba_decls.specs.declared.decl_tree.Declaration.{Declaration}
use Rattle.corba_decls.specs.declared.decl_tree.Declaration.TheVariants as D
use Rattle.corba_decls.specs.DeclSpelling.{aliased, declaration}
use Rattle.corba_shapes.specs.Declarations.{has_field, is_whole_aliased, is_whole}

after : (P Q : Text) (ks : List TokenKind) → (P & Q) ks → (b : List TokenKind) × Q b
after P Q ks (a, b, e, p, q) = (b, q)

before : (P Q : Text) (ks : List TokenKind) → (P & Q) ks → (a : List TokenKind) × P a
before P Q ks (a, b, e, p, q) = (a, p)

joined_there : {A : Type 0} (m : List ℕ) (S : A → Text) (xs : List A) (ks : List TokenKind) → joined m S xs ks → is_some_list xs ≡ true
joined_there m S [] ks h = absurd h
joined_there m S (x ∷ xs) ks h = refl

fields_there : (n : ℕ) (ms : List Member) (ks : List TokenKind) → some (member n) ms ks → has_field ms ≡ true
fields_there n [] ks h = absurd h
fields_there n (m ∷ ms) ks h =
    let a = before (member n m) (each (member n) ms) ks h in
    let b = after (type n m.of.0 m.of.1 false) (joined (codes ",") (declarator n) m.declarators & mark (codes ";")) a.0 a.1 in
    let c = before (joined (codes ",") (declarator n) m.declarators) (mark (codes ";")) b.0 b.1 in
    joined_there (codes ",") (declarator n) m.declarators c.0 c.1

struct_whole : (n : ℕ) (t : Struct) (ks : List TokenKind) → structure n t ks → has_field t.members ≡ true
struct_whole n t ks h =
    let list = some (member n) t.members & mark (codes "}") in
    let a = after (word (codes "struct")) (identifier t.name & mark (codes "{") & list) ks h in
    let b = after (identifier t.name) (mark (codes "{") & list) a.0 a.1 in
    let c = after (mark (codes "{")) list b.0 b.1 in
    let e = before (some (member n) t.members) (mark (codes "}")) c.0 c.1 in
    fields_there n t.members e.0 e.1

enum_whole : (e : Enum) (ks : List TokenKind) → enumeration e ks → is_some_list e.items ≡ true
enum_whole e ks h =
    let list = joined (codes ",") identifier e.items & mark (codes "}") in
    let a = after (word (codes "enum")) (identifier e.name & mark (codes "{") & list) ks h in
    let b = after (identifier e.name) (mark (codes "{") & list) a.0 a.1 in
    let c = after (mark (codes "{")) list b.0 b.1 in
    let f = before (joined (codes ",") identifier e.items) (mark (codes "}")) c.0 c.1 in
    joined_there (codes ",") identifier e.items f.0 f.1

aliased_whole : (n : ℕ) (of : Aliased) (ks : List TokenKind) → aliased n of ks → is_whole_aliased of ≡ true
aliased_whole n (A.Type t) ks h = refl
aliased_whole n (A.Struct t) ks h = struct_whole n t ks h
aliased_whole n (A.Union u) ks h = refl
aliased_whole n (A.Enum e) ks h = enum_whole e ks h

-- a declaration that has tokens is whole
pub declaration_whole : (n : ℕ) (x : Declaration) (ks : List TokenKind) → declaration n x ks → is_whole x ≡ true
declaration_whole zero x ks h = absurd h
declaration_whole (suc n) (D.Typedef t) ks h =
    let list = joined (codes ",") (declarator (suc n)) t.declarators in
    let a = after (word (codes "typedef")) (aliased (suc n) t.of & list) ks h in
    let b = before (aliased (suc n) t.of) list a.0 a.1 in
    aliased_whole (suc n) t.of b.0 b.1
declaration_whole (suc n) (D.Struct t) ks h = struct_whole (suc n) t ks h
declaration_whole (suc n) (D.Union u) ks h = refl
declaration_whole (suc n) (D.Enum e) ks h = enum_whole e ks h
declaration_whole (suc n) (D.Constant c) ks h = refl
declaration_whole (suc n) (D.Exception e) ks h = refl
