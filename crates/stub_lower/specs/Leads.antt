-- Code for the head before a message's body.
use Rattle.std.specs.Prelude.{◌≡◌, ℕ, ◌+◌, ◌≤◌, List, length, Option, None, Some, option_map}
use Rattle.mint.specs.Values.{Val}
use Rattle.wire_def.specs.declared.head.Head.{Head}
use Rattle.cast_stub.specs.declared.send.SendCode.{SendCode}
use Rattle.cast_stub.specs.Puts.{IsHead}
use Rattle.cast_stub.specs.Block.{Block, stop, chunk, code_seen}
use Rattle.cast_stub.specs.Meaning.{meaning}

-- code that appends these octets of a head, whatever the value is and wherever it begins
abbrev pub Leads : (Head → List ℕ) → SendCode → Type 0
Leads octets code = (h : Head) (v : Val) (p : ℕ) → IsHead h → meaning code h v p ≡ Some (octets h)

-- how many puts chunks alone have
abbrev pub chunk_puts : Block → Option ℕ
chunk_puts stop = Some 0
chunk_puts (chunk s ps r) = option_map (λ n. length ps + n) (chunk_puts r)
chunk_puts _ = None

-- chunks alone, with at most 7 puts
abbrev pub AreChunks : SendCode → Type 0
AreChunks code = (n : ℕ) × (chunk_puts (code_seen code.ops) ≡ Some n) × (n ≤ 7)
