use Rattle.std.proofs.Common.{◌≡◌, drop}
use Rattle.std.specs.Prelude.{map}
use Rattle.kit_base.specs.Memory.{content_of}
use Rattle.kit_base.specs.declared.mem_shelf.File.{File}
use Rattle.kit_base.proofs.mem_shelf.MemShelf.find.Given as goal

abbrev pub invariant-loop-file : goal.invariant-loop-file
invariant-loop-file l = content_of (map (λ (f : File). (f.path, f.content)) (drop l.file-index l.file-items)) l.path
    ≡ content_of l.fn.self.files l.path
