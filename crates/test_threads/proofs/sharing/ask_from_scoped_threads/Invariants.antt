use Rattle.test_threads.proofs.sharing.ask_from_scoped_threads.Given as goal

abbrev pub ghosts-ask_from_scoped_threads_with-L-Ledger : goal.ghosts-ask_from_scoped_threads_with-L-Ledger
ghosts-ask_from_scoped_threads_with-L-Ledger g a = record { name = a.active.name; parts = a.active.parts }

abbrev pub ghosts-ask_from_scoped_threads_with-M-Ledger : goal.ghosts-ask_from_scoped_threads_with-M-Ledger
ghosts-ask_from_scoped_threads_with-M-Ledger g a = record { name = a.session.name; parts = a.session.parts }

abbrev pub ghosts-ask_from_scoped_threads_with-N-Ledger : goal.ghosts-ask_from_scoped_threads_with-N-Ledger
ghosts-ask_from_scoped_threads_with-N-Ledger g a = record { name = a.frames.name; parts = a.frames.parts }
