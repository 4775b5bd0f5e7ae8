use Rattle.i3c_traces.proofs.explaining.run_explained.Goals as goal

pub returns-clause-lines : goal.returns-clause-lines
returns-clause-lines g c = c.run_explained_knowing.ensures.lines
