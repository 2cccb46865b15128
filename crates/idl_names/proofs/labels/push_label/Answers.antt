use Rattle.std.proofs.Math.Facts.{to_z-of_z}
use Rattle.idl_names.proofs.Tables.{label_put}
use Rattle.idl_names.proofs.labels.push_label.Goals as goal

pub returns : goal.returns
returns c =
    record {
      ok = label_put c.args.labels.now.keys c.insert.new.self.keys c.args.k c.args.n _ c.in_ok-insert.ensures.keys
          (to_z-of_z c.ranges.n) c.requires;
    }
