use Rattle.flick_top.proofs.Front.{served-decides}
use Rattle.flick_top.proofs.dispatch.serve_file.Goals as goal

pub returns-in_ok-serve_text-in-Ok-clause-serves : goal.returns-in_ok-serve_text-in-Ok-clause-serves
returns-in_ok-serve_text-in-Ok-clause-serves g c = λ files reported.
    served-decides c.args.engine _ files c.args.path.now c.in-Ok.text _ c.in-Ok.ensures.content reported
    c.in_ok-serve_text-in-Ok.ensures.serves
