use Rattle.i3c_program.proofs.Playing.{met_all}
use Rattle.i3c_program.proofs.laws.programs_meet_every_order_of_a_scene.Goals as goal

pub returns : goal.returns
returns c = met_all (λ scenario program start calls tried old new is ends over. c.programs_meet_every_order.ensures.all scenario.tracks program start calls tried old new is ends over)
