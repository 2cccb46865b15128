-- Files of ONC definitions, which are a grammar and begin with words of their own.
use Rattle.std.proofs.Common.{◌≡◌, inl, inr, List}
use Rattle.std.specs.Prelude.{codes}
use Rattle.idl_lex.specs.declared.kinds.Token.{Token}
use Rattle.idl_read.specs.Grammar.{mark, ◌&◌, Leads}
use Rattle.idl_read.proofs.Leaves.{leads_both}
use Rattle.idl_read.proofs.Files as files
use Rattle.onc_syntax.specs.declared.tree.Def.{Def}
use Rattle.onc_syntax.specs.Derivation.{def, Derives, TokensAreDecided}
use Rattle.onc_syntax.proofs.DefinitionsRead.{ended_is, is_def, leads_def}

pub leads_ended : Leads (λ d. def d & mark (codes ";")) is_def
leads_ended d ks s = leads_both (λ (_ : Unit {0}). mark (codes ";")) leads_def (d, tt) ks s

pub one_tree_only : (a b : List Def) (tokens : List Token) → Derives a tokens → Derives b tokens → a ≡ b
one_tree_only = files.one_tree_only ended_is leads_ended

pub decided : TokensAreDecided
decided tokens = elim (files.decided ended_is leads_ended tokens) [ inl h ↦ inl h | inr (line, h) ↦ inr (line, h.0, h.1) ]
