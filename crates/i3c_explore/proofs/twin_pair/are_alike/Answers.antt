use Rattle.std.proofs.Common.{length, refl}
use Rattle.std.proofs.lemmas.Option.{slice_get_read}
use Rattle.i3c_explore.proofs.twin_pair.are_alike.Goals as goal

pub returns-in-Some-get : goal.returns-in-Some-get
returns-in-Some-get g c sure =
    let nodes = c.args.nodes.now in let one = c.in-Some.ensures.lookup in let other = c.in-Some-get.ensures.lookup in record {
      one = c.in-Some.one.now;
      other = c.in-Some-get.other.now;
      first = slice_get_read nodes (length nodes) c.args.before c.in-Some.one.now refl one.3.0 one.1;
      second = slice_get_read nodes (length nodes) c.args.later c.in-Some-get.other.now refl other.3.0 other.1;
      places = c.is_like.ensures.places sure;
      state = c.is_like.ensures.state sure;
    }
