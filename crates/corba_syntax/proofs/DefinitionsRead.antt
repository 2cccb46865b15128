-- Definitions: what is read is what is spelled, by induction on the levels.
use Rattle.std.proofs.Common.{◌≡◌, ◌⊎◌, inl, inr, ℕ, zero, suc, List, Bool, ◌||◌, refl, sym, subst, ◌∙◌}
use Rattle.std.specs.Prelude.{codes}
use Rattle.idl_lex.specs.declared.kinds.TokenKind.{TokenKind}
use Rattle.idl_read.specs.Reading.{word_is, begins_with}
use Rattle.idl_read.specs.Grammar.{Text, word, mark, ◌&◌, one_of, each, IsGrammar, Leads, Any}
use Rattle.idl_read.proofs.Grammars.{mapped_is, both_is, either_is}
use Rattle.idl_read.proofs.Leaves.{word_reads, mark_reads, leads_word, leads_mark, apart_word, apart_mark, leads_both, leads_either, begins_so, begins_not}
use Rattle.idl_read.proofs.Productions.{after_is, before_is, leads_after, leads_by}
use Rattle.idl_read.proofs.Lists.{until_is}
use Rattle.idl_exprs.specs.Spelling.{identifier}
use Rattle.idl_exprs.proofs.LeavesRead.{identifier_is}
use Rattle.corba_decls.specs.DeclSpelling.{declaration}
use Rattle.corba_decls.specs.DeclReaders.{is_declaration}
use Rattle.corba_decls.proofs.DeclarationsRead.{declaration_is, leads_declaration}
use Rattle.corba_syntax.specs.InterfaceSpelling.{interface}
use Rattle.corba_syntax.proofs.InterfacesRead.{interface_is, leads_interface, closed, end_text}
use Rattle.idl_exprs.specs.declared.tree.Identifier.{Identifier}
use Rattle.corba_decls.specs.declared.decl_tree.Declaration.{Declaration}
use Rattle.corba_syntax.specs.declared.interface_tree.Interface.{Interface}
use Rattle.corba_syntax.specs.declared.definition_tree.Definition.{Definition, out-Definition}
use Rattle.corba_syntax.specs.declared.definition_tree.Definition.TheOpen.{Definition-F}
use Rattle.corba_syntax.specs.declared.definition_tree.Definition.TheVariants as V
use Rattle.corba_syntax.specs.declared.definition_tree.Definition.TheViews.{roll-Definition, roll-out-Definition, roll-out-Module, out-roll-Module}
use Rattle.corba_syntax.specs.declared.definition_tree.Module.{Module, out-Module}
use Rattle.corba_syntax.specs.Derivation.{module_text, definition_text, definition, outermost}
use Rattle.corba_syntax.specs.DefinitionReaders.{declared_at, module_of, module_at, definition_of, definition_at, outermost_at}

-- ---- declarations

abbrev declared_text : ℕ → Declaration → Text
declared_text n d = declaration n d & mark (codes ";")

declared_is : (n : ℕ) → IsGrammar (declared_at n) (declared_text n) Any
declared_is n = before_is (declaration_is n) (mark_reads (codes ";")) (λ front rest s. begins_so (leads_mark (codes ";")) tt front rest s)

leads_declared : (n : ℕ) → Leads (declared_text n) is_declaration
leads_declared n d ks s = leads_both (λ (_ : Unit {0}). mark (codes ";")) (leads_declaration n) (d, tt) ks s

-- whether a token begins a definition
abbrev pub is_definition : TokenKind → Bool
is_definition k = word_is (codes "module") k || (word_is (codes "interface") k || is_declaration k)

-- ---- modules

abbrev parts_text : (Definition → Text) → Identifier × List Definition → Text
parts_text inner x = word (codes "module") & (identifier x.0 & (mark (codes "{") & (each inner x.1 & end_text)))

parts_forth : (inner : Definition → Text) (x : Identifier × List Definition) (ks : List TokenKind) → parts_text inner x ks
    → module_text inner (module_of x) ks
parts_forth inner x ks s =
    subst
    (λ z.
    (word (codes "module") & identifier z.name & mark (codes "{") & each inner z.definitions & end_text) ks)
    (sym (out-roll-Module (record { name = x.0; definitions = x.1 }))) s

parts_back : (inner : Definition → Text) (m : Module) (ks : List TokenKind) → module_text inner m ks
    → (x : Identifier × List Definition) × (module_of x ≡ m) × parts_text inner x ks
parts_back inner m ks s = (((out-Module m).name, (out-Module m).definitions), roll-out-Module m, s)

module _ (n : ℕ) (g : IsGrammar (definition_at n) (definition n) Any) (leads : Leads (definition n) is_definition) where
  abbrev inner : Definition → Text
  inner = definition n

  module_is : IsGrammar (module_at (definition_at n)) (module_text inner) Any
  module_is = mapped_is module_of (module_text inner)
      (after_is (word_reads (codes "module")) (both_is identifier_is (after_is (mark_reads (codes "{")) (before_is
      (until_is (codes "}") g leads (apart_mark is_definition (codes "}") refl))
      (after_is (mark_reads (codes "}")) (mark_reads (codes ";"))) closed))
      (λ b front rest t may. tt)))
      (parts_forth inner) (parts_back inner)

  leads_module : Leads (module_text inner) (word_is (codes "module"))
  leads_module m ks s =
      leads_after
      (λ (x : Module).
      identifier (out-Module x).name & mark (codes "{") & each inner (out-Module x).definitions & end_text) (leads_word (codes "module"))
      m ks s

  abbrev other_text : Interface ⊎ Declaration → Text
  other_text = one_of (interface (suc n)) (declared_text (suc n))

  abbrev shape_text : Module ⊎ Interface ⊎ Declaration → Text
  shape_text = one_of (module_text inner) other_text

  leads_other : Leads other_text (λ k. word_is (codes "interface") k || is_declaration k)
  leads_other = leads_either (leads_interface (suc n)) (leads_declared (suc n))

  abbrev one_text : Definition-F Definition Module → Text
  one_text = definition_text inner (suc n)

  shape_forth : (x : Module ⊎ Interface ⊎ Declaration) (ks : List TokenKind) → shape_text x ks → definition (suc n) (definition_of x) ks
  shape_forth (inl m) ks s = subst (λ z. one_text z ks) (sym (V.outs-Module m)) s
  shape_forth (inr (inl i)) ks s = subst (λ z. one_text z ks) (sym (V.outs-Interface i)) s
  shape_forth (inr (inr d)) ks s = subst (λ z. one_text z ks) (sym (V.outs-Declaration d)) s

  shape_back : (d : Definition) (ks : List TokenKind) → definition (suc n) d ks
      → (x : Module ⊎ Interface ⊎ Declaration) × (definition_of x ≡ d) × shape_text x ks
  shape_back d ks s = go (out-Definition d) (roll-out-Definition d) s where
    go : (f : Definition-F Definition Module) → roll-Definition f ≡ d → one_text f ks → (x : Module ⊎ Interface ⊎ Declaration)
        × (definition_of x ≡ d) × shape_text x ks
    go (Definition-F.Module m) is t = (inl m, sym (V.rolls-Module m) ∙ is, t)
    go (Definition-F.Interface i) is t = (inr (inl i), sym (V.rolls-Interface i) ∙ is, t)
    go (Definition-F.Declaration e) is t = (inr (inr e), sym (V.rolls-Declaration e) ∙ is, t)

  next_is : IsGrammar (definition_at (suc n)) (definition (suc n)) Any
  next_is = mapped_is definition_of (definition (suc n))
      (either_is (begins_with (word_is (codes "module"))) module_is
      (either_is (begins_with (word_is (codes "interface"))) (interface_is (suc n)) (declared_is (suc n))
      (λ i front rest s may. begins_so (leads_interface (suc n)) i front rest s)
      (λ d front rest s may.
      begins_not (word_is (codes "interface")) (leads_declared (suc n)) (apart_word is_declaration (codes "interface") refl) d front
      rest s))
      (λ m front rest s may. begins_so leads_module m front rest s)
      (λ x front rest s may.
      begins_not (word_is (codes "module")) leads_other
      (apart_word (λ k. word_is (codes "interface") k || is_declaration k) (codes "module") refl) x front rest s))
      shape_forth shape_back

  next_leads : Leads (definition (suc n)) is_definition
  next_leads = leads_by definition_of shape_back (leads_either leads_module leads_other)

definition_both : (n : ℕ) → IsGrammar (definition_at n) (definition n) Any × Leads (definition n) is_definition
definition_both zero = (record { found = λ ts x rest e. absurd cc; again = λ x front rest s may. absurd s }, λ x ks s. absurd s)
definition_both (suc n) = let b = definition_both n in (next_is n b.0 b.1, next_leads n b.0 b.1)

-- ---- definitions of a file

pub outermost_is : IsGrammar outermost_at outermost Any
unfolding outermost_at outermost
outermost_is = (definition_both 32).0

pub leads_outermost : Leads outermost is_definition
unfolding outermost
leads_outermost = (definition_both 32).1
