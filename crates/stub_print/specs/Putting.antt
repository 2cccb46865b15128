-- What a function puts after octets.
use Rattle.std.specs.Prelude.{◌≡◌, List, ◌++◌, ℕ}
use Rattle.cast_stub.specs.Block.{Block}
use Rattle.cast_stub.specs.RecvBlock.{Recv}
use Rattle.stub_print.specs.SendText.{block_text}
use Rattle.stub_print.specs.RecvText as received

-- the new octets are the old ones and then a text, whatever follows it
abbrev pub IsPut : List ℕ → (List ℕ → List ℕ) → List ℕ → Type 0
IsPut old text new = (rest : List ℕ) → old ++ text rest ≡ new ++ rest

-- the same of the text of an operation that sends, whatever block follows it
abbrev pub IsSendPut : List ℕ → (Block → Block) → List ℕ → Type 0
IsSendPut old piece new = (b : Block) (rest : List ℕ) → old ++ block_text (piece b) rest ≡ new ++ block_text b rest

-- the same of an operation that receives
abbrev pub IsRecvPut : List ℕ → (Recv → Recv) → List ℕ → Type 0
IsRecvPut old piece new = (b : Recv) (rest : List ℕ) → old ++ received.block_text (piece b) rest ≡ new ++ received.block_text b rest
