-- The interfaces of operations, in their order.
use Rattle.std.specs.Prelude.{◌≡◌, ℕ, suc, List, [], ◌∷◌, ◌++◌, map}
use Rattle.wire_def.specs.declared.encoding.Back.{Back}
use Rattle.aoi.specs.Plain.{PlainOperation, PlainInterface}
use Rattle.pres.specs.declared.ops.Op.{Op}
use Rattle.pres.specs.Offers.{operations}

-- the number of each operation's interface
abbrev pub homes : List Op → List ℕ
homes ops = map (λ (o : Op). o.interface) ops

-- the numbers of interfaces from k on, each once for each of its operations
abbrev pub homes_from : Back → ℕ → List PlainInterface → List ℕ
homes_from b k [] = []
homes_from b k (i ∷ is) = map (λ (op : PlainOperation). k) (operations b i) ++ homes_from b (suc k) is

-- operations that begin with those of the k-th interface
pub record Leads (b : Back) (k : ℕ) (i : PlainInterface) (ops : List Op) : Type 0 where
  pub others : List PlainInterface
  pub are : homes ops ≡ homes_from b k (i ∷ others)
