use Rattle.i3c_model.proofs.plain.Plain.serve_first.Goals as goal

pub returns-in-Accept-clause-chosen : goal.returns-in-Accept-clause-chosen
returns-in-Accept-clause-chosen c = c.accept.ensures.chosen c.args.policy.now
