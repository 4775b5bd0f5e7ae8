-- The last line breaks an expectation where those before it lead.
use Rattle.i3c_tracks.proofs.broken.unmet_number.Goals as goal

pub returns-in-Some-2 : goal.returns-in-Some-2
returns-in-Some-2 c =
    let (there, tells, put) = rw c.in-Some-2.is at c.in_ok-number.ensures in (
      there,
      record { earlier = c.in-Some.earlier.now; last = c.in-Some.last.now; are = c.in-Some.ensures.cases.0; scene = c.in_ok-scene.scene; led = c.in_ok-scene.ensures; told = tells },
      put,
    )
