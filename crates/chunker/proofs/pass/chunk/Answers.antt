use Rattle.chunker.proofs.Clauses as clauses
use Rattle.chunker.proofs.pass.chunk.Goals as goal

pub returns-clause-same : goal.returns-clause-same
returns-clause-same c = clauses.sends c.args.phase c.args.code
    (record { ops = c.in_ok-chunk_ops.field-0; subs = c.in_ok-chunk_subs.field-0 })
    (record { ops = c.in_ok-chunk_ops.ensures; subs = c.in_ok-chunk_subs.ensures })

pub returns-clause-covered : goal.returns-clause-covered
returns-clause-covered c = clauses.covered c.args.phase c.args.code
    (record { ops = c.in_ok-chunk_ops.field-0; subs = c.in_ok-chunk_subs.field-0 })
    (record { ops = c.in_ok-chunk_ops.ensures; subs = c.in_ok-chunk_subs.ensures })

pub returns-clause-checks : goal.returns-clause-checks
returns-clause-checks c = clauses.checks c.args.phase c.args.code
    (record { ops = c.in_ok-chunk_ops.field-0; subs = c.in_ok-chunk_subs.field-0 })
    (record { ops = c.in_ok-chunk_ops.ensures; subs = c.in_ok-chunk_subs.ensures }) c.requires.phase

pub returns-clause-calls : goal.returns-clause-calls
returns-clause-calls c = clauses.calls c.args.phase c.args.code
    (record { ops = c.in_ok-chunk_ops.field-0; subs = c.in_ok-chunk_subs.field-0 })
    (record { ops = c.in_ok-chunk_ops.ensures; subs = c.in_ok-chunk_subs.ensures })

pub returns-clause-rows : goal.returns-clause-rows
returns-clause-rows c = clauses.rows c.args.phase c.args.code
    (record { ops = c.in_ok-chunk_ops.field-0; subs = c.in_ok-chunk_subs.field-0 })
    (record { ops = c.in_ok-chunk_ops.ensures; subs = c.in_ok-chunk_subs.ensures }) c.requires.phase

pub returns-clause-others : goal.returns-clause-others
returns-clause-others c = clauses.keeps_others c.args.phase c.args.code
    (record { ops = c.in_ok-chunk_ops.field-0; subs = c.in_ok-chunk_subs.field-0 })
    (record { ops = c.in_ok-chunk_ops.ensures; subs = c.in_ok-chunk_subs.ensures })

pub returns-clause-stores : goal.returns-clause-stores
returns-clause-stores c = clauses.stores c.args.phase c.args.code
    (record { ops = c.in_ok-chunk_ops.field-0; subs = c.in_ok-chunk_subs.field-0 })
    (record { ops = c.in_ok-chunk_ops.ensures; subs = c.in_ok-chunk_subs.ensures }) c.requires.phase

pub returns-clause-short : goal.returns-clause-short
returns-clause-short c = clauses.runs_short c.args.phase c.args.code
    (record { ops = c.in_ok-chunk_ops.field-0; subs = c.in_ok-chunk_subs.field-0 })
    (record { ops = c.in_ok-chunk_ops.ensures; subs = c.in_ok-chunk_subs.ensures }) c.requires.phase

pub returns-clause-moves : goal.returns-clause-moves
returns-clause-moves c = clauses.moves c.args.phase c.args.code
    (record { ops = c.in_ok-chunk_ops.field-0; subs = c.in_ok-chunk_subs.field-0 })
    (record { ops = c.in_ok-chunk_ops.ensures; subs = c.in_ok-chunk_subs.ensures }) c.requires.phase
