-- Code that sends and code that receives, as what they have in common.
use Rattle.std.proofs.Common.{refl}
use Rattle.cast_stub.specs.declared.send.SendOp.{SendOp}
use Rattle.cast_stub.specs.declared.send.SendOp.TheVariants as sent
use Rattle.cast_stub.specs.declared.recv.RecvOp.{RecvOp}
use Rattle.cast_stub.specs.declared.recv.RecvOp.TheVariants as got
use Rattle.cast_stub.specs.Block as block
use Rattle.cast_stub.specs.Append as after
use Rattle.cast_stub.specs.RecvBlock as recv
use Rattle.cast_stub.specs.RecvAppend as recv_after
use Rattle.cast_stub.proofs.Trees.{Trees}
use Rattle.cast_stub.proofs.Appending as appending
use Rattle.cast_stub.proofs.Pieces as pieces
use Rattle.cast_stub.proofs.RecvAppending as recv_appending
use Rattle.cast_stub.proofs.RecvPieces as recv_pieces

-- code that sends
abbrev pub sends : Trees
sends = record {
  Op = SendOp;
  Tree = block.Block;
  Bodies = block.Cases;
  stop = block.stop;
  append = after.append;
  each = block.each;
  if_there = block.if_there;
  switch = block.switch;
  call = block.call;
  no_default = block.no_default;
  default = block.default;
  case = block.case;
  Each = sent.Each;
  There = sent.Some;
  Switch = sent.Switch;
  Call = sent.Call;
  seen = block.op_seen;
  code = block.code_seen;
  bodies = block.cases_seen;
  seen-Each = pieces.seen-Each;
  seen-There = pieces.seen-Some;
  seen-Switch = pieces.seen-Switch;
  seen-Call = pieces.seen-Call;
  code-none = refl;
  code-more = λ o ops. refl;
  bodies-none = refl;
  bodies-last = λ b. refl;
  bodies-more = λ c cases last. refl;
  stop-append = λ a. refl;
  append-assoc = appending.append-assoc;
  seen-append = appending.op-append;
  code-append = appending.code_seen-append;
}

-- code that receives
abbrev pub receives : Trees
receives = record {
  Op = RecvOp;
  Tree = recv.Recv;
  Bodies = recv.Cases;
  stop = recv.finish;
  append = recv_after.append;
  each = recv.each;
  if_there = recv.if_there;
  switch = recv.switch;
  call = recv.call;
  no_default = recv.no_default;
  default = recv.default;
  case = recv.case;
  Each = got.Each;
  There = got.Some;
  Switch = got.Switch;
  Call = got.Call;
  seen = recv.op_seen;
  code = recv.code_seen;
  bodies = recv.cases_seen;
  seen-Each = recv_pieces.seen-Each;
  seen-There = recv_pieces.seen-Some;
  seen-Switch = recv_pieces.seen-Switch;
  seen-Call = recv_pieces.seen-Call;
  code-none = refl;
  code-more = λ o ops. refl;
  bodies-none = refl;
  bodies-last = λ b. refl;
  bodies-more = λ c cases last. refl;
  stop-append = λ a. refl;
  append-assoc = recv_appending.append-assoc;
  seen-append = recv_appending.op-append;
  code-append = recv_appending.code_seen-append;
}
