-- Lines whose records are read without their trees are answered by their trees.
use Rattle.std.proofs.Common.{◌≡◌, ℕ, List, Option, Some, None, Result, Ok, Err, sym, subst}
use Rattle.std.specs.Prelude.{IfOk, IfSome, IsUtf8}
use Rattle.kit_base.specs.declared.errors.NoMemory.{NoMemory}
use Rattle.mint.specs.Values.{seen}
use Rattle.raw_buf.specs.Buf.{Buf}
use Rattle.serde_json.specs.Data.{Data}
use Rattle.json_shape.specs.declared.records.RequestRec.{RequestRec}
use Rattle.json_shape.specs.Usual.{IsRecordIn}
use Rattle.flick_lines.specs.Marshalled.{tree_of, Beginning, Texts, IsOfTree}
use Rattle.flick_lines.specs.Usual.{IsUsual}
use Rattle.flick_lines.specs.Paid.{Runs, IsPaidTree}
use Rattle.flick_lines.proofs.Paying.{paid-value}
use Rattle.flick_lines.proofs.Recorded.{of-value}
use Rattle.flick_lines.proofs.Trees.{tree-some}

usual-some : (begun : Beginning) (line text : List ℕ) (o : Option RequestRec) → (text ≡ line) × IsUtf8 line
    → IfSome o (λ r. IsRecordIn begun text r) → IfSome o (λ r. IsUsual begun line r)
usual-some begun line text None same is = tt
usual-some begun line text (Some r) same is =
    record { tree = is.tree; is = tree-some line text is.tree same is.is; comes = is.comes }

-- what is read of a text is read of its line
pub usual-line : (begun : Beginning) (line text : List ℕ) (o : Result (Option RequestRec) NoMemory) → (text ≡ line) × IsUtf8 line
    → IfOk o (λ x. IfSome x (λ r. IsRecordIn begun text r)) → IfOk o (λ x. IfSome x (λ r. IsUsual begun line r))
usual-line begun line text (Ok o) same is = usual-some begun line text o same is
usual-line begun line text (Err e) same is = tt

-- its answer
pub usual-value : (m : Texts) (begun : Beginning) (line : List ℕ) (r : RequestRec) → IsUsual begun line r
    → (a : List ℕ) → a ≡ m r.op r.head (seen r.value) → IsOfTree begun m (tree_of line) a
usual-value m begun line r is a same =
    subst (λ (t : Option Data). IsOfTree begun m t a) (sym is.is) (of-value m (begun is.tree) r is.comes a same)

-- what becomes of the buffer
pub usual-paid : (code : Runs) (begun : Beginning) (line : List ℕ) (r : RequestRec) → IsUsual begun line r → (old new : Buf)
    → code r.op r.head (seen r.value) old new → IsPaidTree code begun (tree_of line) old new
usual-paid code begun line r is old new ran =
    subst (λ (t : Option Data). IsPaidTree code begun t old new) (sym is.is)
    (paid-value code (begun is.tree) r is.comes old new ran)
