use Rattle.std.proofs.Common.{refl, rules}
use Rattle.i3c_shared.proofs.Started.{first_count, first_fits}
use Rattle.i3c_shared.proofs.kept.Kept.new.Goals as goal

pub new-requires-3-clause-size : goal.new-requires-3-clause-size
new-requires-3-clause-size g c = rw c.in-Ok-first_rings.ensures (first_count c.in-Ok-new.ring)

pub new-requires-3-clause-fits : goal.new-requires-3-clause-fits
new-requires-3-clause-fits g c = rw (c.in-Ok-first_rings.ensures, c.in-Ok.ensures.run) (first_fits c.in-Ok-new.ring c.in-Ok-new.ensures.consumer.0 c.in-Ok-new.ensures.consumer.2)

pub returns-clause-made : goal.returns-clause-made
returns-clause-made g c = rw (c.new-3.ensures, c.new-4.ensures) (record {
  start = c.in-Ok.ensures.start.0;
  state = c.in-Ok.ensures.start.1;
  run = c.in-Ok.ensures.run;
  ring = c.in-Ok-new.ring;
  rings = c.in-Ok-first_rings.ensures;
  pair = c.in-Ok-new.ensures.pair;
  slot = search rules;
  fresh = c.in-Ok-new.ensures.producer.0;
  held = search rules;
  parked = refl;
})
