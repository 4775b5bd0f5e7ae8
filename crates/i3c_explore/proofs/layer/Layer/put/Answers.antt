use Rattle.std.proofs.Common.{◌∙◌, ap, arith, inl, inr, length, refl}
use Rattle.i3c_explore.specs.declared.node.Node.{Node}
use Rattle.std.proofs.lemmas.List.{length-set}
use Rattle.std.proofs.lemmas.Option.{slice_get_within}
use Rattle.i3c_explore.proofs.Stopping.{memory_stops}
use Rattle.i3c_explore.proofs.layer.Layer.put.Goals as goal

pub returns-in-Some-clause-put : goal.returns-in-Some-clause-put
returns-in-Some-clause-put g c =
    let end = g.M.Machine.shown c.args.runner.now in
    let made : Node g.row.M.Denot = record c.args.node.now { state = end; places = c.in_ok-places.places; orders = c.counted.result } in record {
      made = made;
      state = refl;
      places = c.in_ok-places.ensures;
      orders = c.counted.ensures;
      put = inr (c.merge.ensures made c.in-Some.ensures refl);
    }

pub returns-clause-put : goal.returns-clause-put
returns-clause-put g c =
    let is = c.in_ok-new.ensures in record {
      made = c.in_ok-new.new;
      state = is.state;
      places = is.places ∙ c.in_ok-places.ensures;
      orders = is.orders;
      put = inl (is.order, c.in_ok-push.ensures.nodes);
    }

pub merge-requires : goal.merge-requires
merge-requires g c = let (held, at, _, _) = c.in-Some.ensures in slice_get_within c.args.self.now.nodes.items c.in-Some.index held at

pub moved_on-requires : goal.moved_on-requires
moved_on-requires g c = record { within = c.requires.within; fits = c.requires.fits }

pub returns-in_err-new-clause-full : goal.returns-in_err-new-clause-full
returns-in_err-new-clause-full g c = memory_stops _ c.from_residual-in_err-new.result tt c.from_residual-in_err-new.ensures.1

pub returns-in_err-places-clause-full : goal.returns-in_err-places-clause-full
returns-in_err-places-clause-full g c = memory_stops _ c.from_residual.result tt c.from_residual.ensures.1

pub returns-in_err-push-clause-full : goal.returns-in_err-push-clause-full
returns-in_err-push-clause-full g c = memory_stops _ c.from_residual-in_err-push.result tt c.from_residual-in_err-push.ensures.1

pub returns-in-Some-clause-charged : goal.returns-in-Some-clause-charged
returns-in-Some-clause-charged g c =
    let made : Node g.row.M.Denot = record c.args.node.now { state = g.M.Machine.shown c.args.runner.now; places = c.in_ok-places.places; orders = c.counted.result } in
    let merged = c.merge.ensures made c.in-Some.ensures refl in
    let same = ap length merged.is ∙ length-set c.args.self.now.nodes.items merged.index (record merged.held { orders = merged.total }) in
    record { steps = omega arith; states = refl; narrow = λ le. omega arith }
