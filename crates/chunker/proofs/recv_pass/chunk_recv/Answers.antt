use Rattle.chunker.proofs.RecvClauses as clauses
use Rattle.chunker.proofs.recv_pass.chunk_recv.Goals as goal

pub returns-clause-same : goal.returns-clause-same
returns-clause-same c = clauses.receives c.args.phase c.args.code.now
    (record { ops = c.in_ok-chunk_ops.field-0; subs = c.in_ok-chunk_subs.field-0 })
    (record { ops = c.in_ok-chunk_ops.ensures; subs = c.in_ok-chunk_subs.ensures })

pub returns-clause-sound : goal.returns-clause-sound
returns-clause-sound c = clauses.sound c.args.phase c.args.code.now
    (record { ops = c.in_ok-chunk_ops.field-0; subs = c.in_ok-chunk_subs.field-0 })
    (record { ops = c.in_ok-chunk_ops.ensures; subs = c.in_ok-chunk_subs.ensures })

pub returns-clause-others : goal.returns-clause-others
returns-clause-others c = clauses.keeps_others c.args.phase c.args.code.now
    (record { ops = c.in_ok-chunk_ops.field-0; subs = c.in_ok-chunk_subs.field-0 })
    (record { ops = c.in_ok-chunk_ops.ensures; subs = c.in_ok-chunk_subs.ensures })

pub returns-clause-few : goal.returns-clause-few
returns-clause-few c = clauses.test_few c.args.phase c.args.code.now
    (record { ops = c.in_ok-chunk_ops.field-0; subs = c.in_ok-chunk_subs.field-0 })
    (record { ops = c.in_ok-chunk_ops.ensures; subs = c.in_ok-chunk_subs.ensures }) c.requires.phase
