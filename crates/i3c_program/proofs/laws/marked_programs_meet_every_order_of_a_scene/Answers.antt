use Rattle.i3c_program.proofs.Leaving.{met_all_by_marks}
use Rattle.i3c_program.proofs.laws.marked_programs_meet_every_order_of_a_scene.Goals as goal

pub returns : goal.returns
returns c = met_all_by_marks (λ scenario program start turns tried path marked over why. c.marked_programs_meet_every_order.ensures.covered scenario.tracks program start turns tried path marked over why)
