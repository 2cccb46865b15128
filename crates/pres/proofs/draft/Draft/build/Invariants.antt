use Rattle.std.proofs.Common.{◌≡◌, drop, length}
use Rattle.std.specs.List.{list_any}
use Rattle.std.specs.Vec.Iter.{into_iter_items, into_iter_len}
use Rattle.pres.specs.Faults.{is_heavy}
use Rattle.pres.specs.Drafts.{drawn}
use Rattle.pres.proofs.Tabling.{IsStage}
use Rattle.pres.proofs.draft.Draft.build.Given as goal

-- what is in the table, and what is left
abbrev pub invariant-loop-entry : goal.invariant-loop-entry
invariant-loop-entry l = record {
  next : (goal.iterator-loop-entry).can_next l.entry-iterator;
  finite : (goal.iterator-loop-entry).is_finite l.entry-iterator;
  long : into_iter_len l.entry-iterator ≡ length (into_iter_items l.entry-iterator);
  stage : IsStage l.fn.self l.mint l.pres (into_iter_items l.entry-iterator);
  light : list_any is_heavy (drawn l.fn.self) ≡ list_any is_heavy (drop (length l.mint) (drawn l.fn.self));
}
