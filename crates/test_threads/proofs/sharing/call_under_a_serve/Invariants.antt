use Rattle.test_threads.proofs.sharing.call_under_a_serve.Given as goal

abbrev pub ghosts-call_under_a_serve_with-L-Ledger : goal.ghosts-call_under_a_serve_with-L-Ledger
ghosts-call_under_a_serve_with-L-Ledger g a = record { name = a.active.name; parts = a.active.parts }

abbrev pub ghosts-call_under_a_serve_with-M-Ledger : goal.ghosts-call_under_a_serve_with-M-Ledger
ghosts-call_under_a_serve_with-M-Ledger g a = record { name = a.session.name; parts = a.session.parts }

abbrev pub ghosts-call_under_a_serve_with-N-Ledger : goal.ghosts-call_under_a_serve_with-N-Ledger
ghosts-call_under_a_serve_with-N-Ledger g a = record { name = a.frames.name; parts = a.frames.parts }
