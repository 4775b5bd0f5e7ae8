use Rattle.i3c_stress.proofs.stressing.stress_watched.Given as goal

abbrev pub ghosts-stress_with-L-Ledger : goal.ghosts-stress_with-L-Ledger
ghosts-stress_with-L-Ledger g a = record { name = a.active.name; parts = a.active.parts }

abbrev pub ghosts-stress_with-M-Ledger : goal.ghosts-stress_with-M-Ledger
ghosts-stress_with-M-Ledger g a = record { name = a.session.name; parts = a.session.parts }

abbrev pub ghosts-stress_with-N-Ledger : goal.ghosts-stress_with-N-Ledger
ghosts-stress_with-N-Ledger g a = record { name = a.frames.name; parts = a.frames.parts }
