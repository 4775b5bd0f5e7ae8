use Rattle.test_threads.proofs.setting.is_tried.Given as goal

abbrev pub ghosts-is_tried_with-L-Ledger : goal.ghosts-is_tried_with-L-Ledger
ghosts-is_tried_with-L-Ledger g a = record { name = a.active.name; parts = a.active.parts }

abbrev pub ghosts-is_tried_with-M-Ledger : goal.ghosts-is_tried_with-M-Ledger
ghosts-is_tried_with-M-Ledger g a = record { name = a.session.name; parts = a.session.parts }

abbrev pub ghosts-is_tried_with-N-Ledger : goal.ghosts-is_tried_with-N-Ledger
ghosts-is_tried_with-N-Ledger g a = record { name = a.frames.name; parts = a.frames.parts }
