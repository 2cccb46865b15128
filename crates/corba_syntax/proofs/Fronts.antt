-- Files, which are a grammar and begin with words of their own.
use Rattle.std.proofs.Common.{◌≡◌, inl, inr, List}
use Rattle.idl_lex.specs.declared.kinds.Token.{Token}
use Rattle.idl_read.proofs.Files as files
use Rattle.corba_syntax.specs.declared.definition_tree.Definition.{Definition}
use Rattle.corba_syntax.specs.Derivation.{Derives, TokensAreDecided}
use Rattle.corba_syntax.proofs.DefinitionsRead.{outermost_is, leads_outermost}

pub one_tree_only : (a b : List Definition) (tokens : List Token) → Derives a tokens → Derives b tokens → a ≡ b
one_tree_only = files.one_tree_only outermost_is leads_outermost

pub decided : TokensAreDecided
decided tokens = elim (files.decided outermost_is leads_outermost tokens) [ inl h ↦ inl h | inr (line, h) ↦ inr (line, h.0, h.1) ]
