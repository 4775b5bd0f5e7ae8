use Rattle.i3c_traces.proofs.trace.run_trace.Goals as goal

pub returns-clause-lines : goal.returns-clause-lines
returns-clause-lines g c = c.run_trace_knowing.ensures.lines
