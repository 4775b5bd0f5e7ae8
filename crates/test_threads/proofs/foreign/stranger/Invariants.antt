use Rattle.test_threads.proofs.foreign.stranger.Given as goal

abbrev pub ghosts-stranger_with-L-Ledger : goal.ghosts-stranger_with-L-Ledger
ghosts-stranger_with-L-Ledger g a = record { name = a.active.name; parts = a.active.parts }

abbrev pub ghosts-stranger_with-M-Ledger : goal.ghosts-stranger_with-M-Ledger
ghosts-stranger_with-M-Ledger g a = record { name = a.session.name; parts = a.session.parts }

abbrev pub ghosts-stranger_with-N-Ledger : goal.ghosts-stranger_with-N-Ledger
ghosts-stranger_with-N-Ledger g a = record { name = a.frames.name; parts = a.frames.parts }
