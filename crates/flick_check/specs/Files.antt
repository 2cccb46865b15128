-- A file of stubs as a list of parts: texts of code that sends, and texts after `recv`.
use Rattle.std.specs.Prelude.{◌≡◌, ◌==◌, ◌&&◌, ◌||◌, ℕ, suc, Bool, true, false, List, [], ◌∷◌, map, codes, if◌then◌else◌}
use Rattle.cast_stub.specs.declared.send.SendCode.{SendCode}
use Rattle.cast_stub.specs.Block.{code_seen}
use Rattle.stub_read.specs.Reading.{begins}
use Rattle.stub_read.specs.Stubs.{Begins, BeginsNone}

-- the text of code that sends, by its name, its code and how many octets it has; or so many octets after `recv`
pub data Part : Type 0 where
  sends : List ℕ → SendCode → ℕ → Part
  receives : ℕ → Part

-- octets begin as a text of stub code does
abbrev pub begins_stub : List ℕ → Bool
begins_stub text = begins (codes "send ") text || begins (codes "recv ") text

-- how many octets stand before the next line that begins so, or before the end
abbrev pub passed : List ℕ → ℕ
passed [] = 0
passed (x ∷ xs) = suc (if x == 10 && begins_stub xs then 0 else passed xs)

-- octets begin with a part
abbrev pub IsPart : List ℕ → Part → Type 0
IsPart text (sends name code used) = Begins name (code_seen code.ops) (map code_seen code.subs) used text
IsPart text (receives used) = (begins (codes "recv ") text ≡ true) × (used ≡ passed text)

-- octets begin with none
abbrev pub HasNoPart : List ℕ → Type 0
HasNoPart text = (begins (codes "recv ") text ≡ false) × BeginsNone text

-- how many octets a part has
abbrev pub used_of : Part → ℕ
used_of (sends name code used) = used
used_of (receives used) = used

-- how many lines end in octets
abbrev pub feeds : List ℕ → ℕ
feeds [] = 0
feeds (x ∷ xs) = if x == 10 then suc (feeds xs) else feeds xs
