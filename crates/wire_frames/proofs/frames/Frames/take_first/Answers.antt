use Rattle.wire_frames.proofs.Answering.{used_fits}
use Rattle.wire_frames.proofs.frames.Frames.take_first.Goals as goal

pub pass-requires : goal.pass-requires
pass-requires c = used_fits c.args.self.now.back c.args.self.now.kept c.args.used c.requires
