-- The trees that the grammar gives are whole, by induction on the definitions.
use Rattle.std.proofs.Common.{◌≡◌, ℕ, true, List, [], ◌∷◌, refl}
use Rattle.std.specs.Prelude.{codes}
use Rattle.std.specs.List.{list_all}
use Rattle.std.proofs.lemmas.Bool.{and_from}
use Rattle.idl_lex.specs.declared.kinds.Token.{Token}
use Rattle.idl_lex.specs.declared.kinds.TokenKind.{TokenKind}
use Rattle.idl_read.specs.Grammar.{Text, word, mark, ◌&◌, maybe, each, some, joined, kinds}
use Rattle.onc_syntax.specs.Derivation.{name, type, item, member, arm, label, case, default, def, file, Derives}
use Rattle.onc_syntax.specs.declared.tree.Item.{Item}
use Rattle.onc_syntax.specs.declared.tree.Member.{Member}
use Rattle.onc_syntax.specs.declared.tree.Case.{Case}
use Rattle.onc_syntax.specs.declared.tree.Union.{Union}
use Rattle.onc_syntax.specs.declared.tree.Def.{Def}
use Rattle.onc_syntax.specs.declared.tree.Def.TheVariants as D
use Rattle.idl_names.specs.Lists.{is_some_list}
use Rattle.front_onc.specs.Resolved.{has_label, is_whole, IsWhole}

back : (P Q : Text) (ks : List TokenKind) → (P & Q) ks → (b : List TokenKind) × Q b
back P Q ks (a, b, e, p, q) = (b, q)

front : (P Q : Text) (ks : List TokenKind) → (P & Q) ks → (a : List TokenKind) × P a
front P Q ks (a, b, e, p, q) = (a, p)

some_there : {A : Type 0} (S : A → Text) (xs : List A) (ks : List TokenKind) → some S xs ks → is_some_list xs ≡ true
some_there S [] ks h = absurd h
some_there S (x ∷ xs) ks h = refl

joined_there : {A : Type 0} (m : List ℕ) (S : A → Text) (xs : List A) (ks : List TokenKind) → joined m S xs ks → is_some_list xs ≡ true
joined_there m S [] ks h = absurd h
joined_there m S (x ∷ xs) ks h = refl

enum_whole : (n : List ℕ) (is : List Item) (ks : List TokenKind) → def (D.Enum n is) ks → is_some_list is ≡ true
enum_whole n is ks h =
    let list = joined (codes ",") item is & mark (codes "}") in
    let a = back (word (codes "enum")) (name n & mark (codes "{") & list) ks h in
    let b = back (name n) (mark (codes "{") & list) a.0 a.1 in
    let c = back (mark (codes "{")) list b.0 b.1 in
    let d = front (joined (codes ",") item is) (mark (codes "}")) c.0 c.1 in
    joined_there (codes ",") item is d.0 d.1

struct_whole : (n : List ℕ) (ms : List Member) (ks : List TokenKind) → def (D.Struct n ms) ks → is_some_list ms ≡ true
struct_whole n ms ks h =
    let list = some member ms & mark (codes "}") in
    let a = back (word (codes "struct")) (name n & mark (codes "{") & list) ks h in
    let b = back (name n) (mark (codes "{") & list) a.0 a.1 in
    let c = back (mark (codes "{")) list b.0 b.1 in
    let d = front (some member ms) (mark (codes "}")) c.0 c.1 in
    some_there member ms d.0 d.1

cases_there : (cs : List Case) (ks : List TokenKind) → some case cs ks → has_label cs ≡ true
cases_there [] ks h = absurd h
cases_there (c ∷ cs) ks h =
    let a = front (case c) (each case cs) ks h in
    let b = front (some label c.labels) (arm c.arm & mark (codes ";")) a.0 a.1 in
    some_there label c.labels b.0 b.1

union_whole : (u : Union) (ks : List TokenKind) → def (D.Union u) ks → has_label u.cases ≡ true
union_whole u ks h =
    let cases = some case u.cases & maybe default u.default & mark (codes "}") in
    let e = mark (codes "{") & cases in
    let d = mark (codes ")") & e in
    let c = type u.tag & name u.tag_name & d in
    let b = word (codes "switch") & mark (codes "(") & c in
    let h1 = back (word (codes "union")) (name u.name & b) ks h in
    let h2 = back (name u.name) b h1.0 h1.1 in
    let h3 = back (word (codes "switch")) (mark (codes "(") & c) h2.0 h2.1 in
    let h4 = back (mark (codes "(")) c h3.0 h3.1 in
    let h5 = back (type u.tag) (name u.tag_name & d) h4.0 h4.1 in
    let h6 = back (name u.tag_name) d h5.0 h5.1 in
    let h7 = back (mark (codes ")")) e h6.0 h6.1 in
    let h8 = back (mark (codes "{")) cases h7.0 h7.1 in
    let h9 = front (some case u.cases) (maybe default u.default & mark (codes "}")) h8.0 h8.1 in
    cases_there u.cases h9.0 h9.1

def_whole : (d : Def) (ks : List TokenKind) → def d ks → is_whole d ≡ true
def_whole (D.Typedef decl) ks h = refl
def_whole (D.Const n v) ks h = refl
def_whole (D.Program n vs v) ks h = refl
def_whole (D.Enum n is) ks h = enum_whole n is ks h
def_whole (D.Struct n ms) ks h = struct_whole n ms ks h
def_whole (D.Union u) ks h = union_whole u ks h

file_whole : (tree : List Def) (ks : List TokenKind) → file tree ks → list_all is_whole tree ≡ true
file_whole [] ks h = refl
file_whole (d ∷ ds) ks h =
    let a = front (def d & mark (codes ";")) (file ds) ks h in
    let b = front (def d) (mark (codes ";")) a.0 a.1 in
    let c = back (def d & mark (codes ";")) (file ds) ks h in
    and_from _ _ (def_whole d b.0 b.1) (file_whole ds c.0 c.1)

pub derived_whole : (tree : List Def) (tokens : List Token) → Derives tree tokens → IsWhole tree
derived_whole tree tokens h = file_whole tree (kinds tokens) h
