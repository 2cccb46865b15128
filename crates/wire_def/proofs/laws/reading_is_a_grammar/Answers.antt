use Rattle.wire_def.proofs.Encodings.{grammar}
use Rattle.wire_def.proofs.Typing.{typed}
use Rattle.wire_def.proofs.laws.reading_is_a_grammar.Goals as goal

pub returns-clause-grammar : goal.returns-clause-grammar
returns-clause-grammar c = grammar

pub returns-clause-typed : goal.returns-clause-typed
returns-clause-typed c = typed
