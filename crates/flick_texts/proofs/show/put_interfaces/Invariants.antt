use Rattle.std.proofs.Common.{◌≡◌, ℕ, List, ◌++◌, drop, map}
use Rattle.aoi.specs.Plain.{plain_interface}
use Rattle.flick_texts.specs.Show.{interface_lines}
use Rattle.flick_texts.specs.TypeText.{names_of, trees_of}
use Rattle.flick_texts.proofs.show.put_interfaces.Given as goal

-- what is put, and what is left
abbrev pub invariant-loop-interface : goal.invariant-loop-interface
invariant-loop-interface l = (rest : List ℕ)
    → l.fn.out ++ interface_lines (names_of (trees_of l.types)) (map plain_interface l.interfaces) rest
    ≡ l.out ++ interface_lines (names_of (trees_of l.types)) (map plain_interface (drop l.interface-index l.interfaces)) rest
