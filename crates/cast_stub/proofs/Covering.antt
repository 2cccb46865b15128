-- Code that puts a number of the head, and the heads that it is covered for.
use Rattle.std.proofs.Common.{ℕ, ◌<◌, [], ◌∷◌, None, arith, true}
use Rattle.mint.specs.Types.{Ty}
use Rattle.mint.specs.Values.{Val, void}
use Rattle.wire_def.specs.declared.head.Head.{Head}
use Rattle.wire_def.specs.declared.head.Order.TheVariants.{Big}
use Rattle.cast_stub.specs.declared.put.HeadField.{HeadField}
use Rattle.cast_stub.specs.declared.put.HeadField.TheVariants.{Id, Remote, Local}
use Rattle.cast_stub.specs.declared.put.Put.TheVariants as put
use Rattle.cast_stub.specs.declared.send.SendCode.{SendCode}
use Rattle.cast_stub.specs.declared.send.SendOp.TheVariants as op
use Rattle.cast_stub.specs.Puts.{head_number, IsHead}
use Rattle.cast_stub.specs.Block.{stop, ensure, chunk}
use Rattle.cast_stub.specs.Steps.{Calls, steps}
use Rattle.cast_stub.specs.Subs.{calls_of, deepest}
use Rattle.cast_stub.specs.Meaning.{AreCovered, IsCovered}
use Rattle.cast_stub.proofs.Pieces.{seen-Ensure, seen-Chunk}
use Rattle.cast_stub.proofs.Putting.{word_of}

-- room for a word, and a number of the head in it
abbrev pub head_word : HeadField → SendCode
head_word f = record { ops = op.Ensure 4 ∷ op.Chunk 4 (put.Head 0 f 4 Big ∷ []) ∷ []; subs = [] }

-- each number of a head is below what a word can hold
fits : (f : HeadField) (h : Head) → IsHead h → head_number f h < 4294967296
fits Id h is = is.id
fits Remote h is = is.remote
fits Local h is = is.local

covered : (c : Calls) (f : HeadField) (h : Head) (v : Val) (p : ℕ) → IsHead h
    → AreCovered (steps c h (ensure 4 (chunk 4 (put.Head 0 f 4 Big ∷ []) stop)) v) p
covered c f h v p is = rw (word_of (head_number f h) (fits f h is)) (tt, (omega arith, tt))

-- a number of the head is covered for each type and at each position
heads_are_covered : (t : Ty) (p : ℕ) (f : HeadField) → IsCovered t p (head_word f)
heads_are_covered t p f h v is typed = rw (seen-Ensure 4, seen-Chunk 4 (put.Head 0 f 4 Big ∷ []))
    (covered (calls_of [] h deepest) f h v p is)

-- a number that no word can hold is not covered
too_great : AreCovered
    (steps
    (λ k v.
    None) (record { id = 4294967296; remote = 0; local = 0; wants = true; order = Big }) (chunk 4 (put.Head 0 Id 4 Big ∷ []) stop) void) 0
    → ⊥
too_great h = h
