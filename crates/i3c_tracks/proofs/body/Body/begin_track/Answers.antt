-- A track begins behind the line that was held.
use Rattle.std.proofs.Common.{Bool, ◌||◌, Some, ap, refl}
use Rattle.i3c_tracks.specs.declared.body.Body.{Body}
use Rattle.i3c_tracks.specs.Drafting.{Open, open_of}
use Rattle.i3c_tracks.specs.Planning.{any_at_risk}
use Rattle.i3c_tracks.proofs.Reading.{both_ok, track_blocks, track_here, track_opened, track_rules}
use Rattle.i3c_tracks.proofs.body.Body.begin_track.Goals as goal

pub returns-in-Some : goal.returns-in-Some
returns-in-Some c =
    let settled : Body = c.settle.new.self in
    let new : Body = record settled { block = Some c.begin_track.new.self } in
    both_ok c.begin_track.result (λ begun inside number. record {
      start = c.in_ok-settle.ensures.start;
      blocks = λ rest. track_blocks c.args.self.now settled new c.in-Some.open (open_of c.begin_track.new.self) number rest c.in-Some.is c.in_ok-settle.ensures refl begun refl refl;
      opened = λ rest. track_opened c.args.self.now settled new c.in-Some.open (open_of c.begin_track.new.self) number rest c.in-Some.is c.in_ok-settle.ensures refl (ap (λ (o : Open). o.last) begun) refl refl;
      rules = λ rest. track_rules c.args.self.now settled new c.in-Some.open (open_of c.begin_track.new.self) number rest c.in-Some.is c.in_ok-settle.ensures refl begun refl;
      risky = λ rest. ap (λ (r : Bool). r || any_at_risk rest) c.in_ok-settle.ensures.risky;
      here = track_here c.args.self.now settled new c.in-Some.open c.begin_track.new.self c.in-Some.is c.in_ok-settle.ensures refl inside refl;
    }) c.begin_track.ensures.begun c.begin_track.ensures.inside
