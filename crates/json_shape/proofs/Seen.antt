-- Values that are made, as they are seen.
use Rattle.std.proofs.Common.{◌≡◌, rules}
use Rattle.mint.specs.declared.value.Value.{Void, the_lemmas}
use Rattle.mint.specs.Values.{void, seen}
use Rattle.serde_json.specs.Data.{null}
use Rattle.serde_json.specs.View.{view}
use Rattle.serde_json.specs.declared.value.Value.{Null, the_lemmas as json_lemmas}

pub seen-Void : seen Void ≡ void
seen-Void = search (rules, the_lemmas)

pub view-Null : view Null ≡ null
view-Null = search (rules, json_lemmas)
