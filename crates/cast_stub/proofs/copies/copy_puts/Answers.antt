use Rattle.std.proofs.Common.{◌≡◌, map, ap, ◌∙◌, List, ℕ}
use Rattle.std.proofs.lemmas.Result.{IfOk-weaker}
use Rattle.cast_stub.specs.declared.put.Put.{Put}
use Rattle.cast_stub.specs.Append.{put_rebased}
use Rattle.cast_stub.proofs.Copied.{same-puts}
use Rattle.cast_stub.proofs.copies.copy_puts.Goals as goal

pub returns : goal.returns
returns c =
    IfOk-weaker c.puts_after-2.result _ (λ (ps : List Put). ps ≡ c.args.puts.now)
    (λ (ps : List Put) e.
    e ∙ ap (λ (q : List ℕ). map (put_rebased q) c.args.puts.now) c.new.ensures ∙ same-puts c.args.puts.now) c.puts_after-2.ensures
