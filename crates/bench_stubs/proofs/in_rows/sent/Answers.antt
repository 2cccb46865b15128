use Rattle.std.proofs.Common.{ℕ, true, length, sym, ap, subst, arith}
use Rattle.mint.specs.Values.{seen}
use Rattle.wire_def.specs.declared.head.Head.{Head}
use Rattle.wire_def.specs.declared.head.Order.TheVariants.{Big}
use Rattle.raw_buf.specs.Buf.{Buf}
use Rattle.cast_stub.specs.Meaning.{AreCovered}
use Rattle.cast_stub.specs.Subs.{sent_steps}
use Rattle.cast_stub.specs.Puts.{IsHead}
use Rattle.bench_stubs.proofs.in_rows.sent.Goals as goal

abbrev head : Head
head = record { id = 0; remote = 0; local = 0; wants = true; order = Big }

is_head : IsHead head
is_head = record { id = omega arith; remote = omega arith; local = omega arith }

pub run_send-requires : goal.run_send-requires
run_send-requires c =
    subst (λ (n : ℕ). AreCovered (sent_steps c.args.code.now head (seen c.args.value.now)) n)
    (sym (ap (λ (b : Buf). length b.done) c.in-Ok.ensures))
    (c.requires.covered head (seen c.args.value.now) is_head c.requires.typed)
