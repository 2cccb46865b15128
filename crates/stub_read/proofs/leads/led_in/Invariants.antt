use Rattle.std.proofs.Common.{◌≡◌, map, drop}
use Rattle.stub_read.specs.Leads.{led_in}
use Rattle.stub_read.proofs.leads.led_in.Given as goal

abbrev pub invariant-loop-word : goal.invariant-loop-word
invariant-loop-word g l = led_in (map (λ e. (e.0.now, e.1)) l.table) l.text
    ≡ led_in (map (λ e. (e.0.now, e.1)) (drop l.word-index l.table)) l.text
