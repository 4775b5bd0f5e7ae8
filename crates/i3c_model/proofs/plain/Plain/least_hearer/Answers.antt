use borrow.Author.Tests.{tests}
use Rattle.std.proofs.Common.{ℕ, Bool, ◌&&◌, ◌≡◌, rules}
use Rattle.std.proofs.Math.Bool.{beq}
use Rattle.std.specs.List.{reduce}
use Rattle.std.proofs.lemmas.Iterator.{YieldsList-from_map}
use Rattle.std.proofs.lemmas.Iterator.Consumers.{reduce_from_yields_List, YieldsList-at, YieldsList-from_filter, YieldsList-from_rest}
use Rattle.i3c_base.specs.Cutting.{Lost, lost_by}
use Rattle.i3c_base.specs.State.{Device}
use Rattle.i3c_model.proofs.Entries.{hears_test}
use Rattle.i3c_model.proofs.Hearing.{heard, identity_cmp, least_hearer_of, lesser}
use Rattle.i3c_model.proofs.plain.Plain.least_hearer.Goals as goal

pub returns : goal.returns
returns c =
    let lost : Lost = lost_by c.args.cuts.now 73 in
    let test : ℕ × Device → Bool = λ e. e.1.hearing && beq (lost e.0) c.args.lost in
    let road = YieldsList-from_map _ (λ (e : ℕ × Device). e.1.identity) (YieldsList-at c.map.ensures.source
    (YieldsList-from_filter _ test (YieldsList-at c.filter.ensures.source (YieldsList-from_rest c.self.inside.devices.entries c.iter.ensures.rest)) c.filter.ensures.closure (λ x r q k. search (rules, tests))))
    c.map.ensures.closure (λ x r q k. search rules) in
    let least : c.min.result ≡ reduce (lesser identity_cmp) (heard test c.self.inside.devices.entries) = reduce_from_yields_List (lesser identity_cmp) c.map.result _ c.min.ensures.ran road in
    least_hearer_of c.self.inside c.args.self.now c.self.view_is c.self.invariant c.iter.ensures.ordered lost c.args.lost test (λ s d. hears_test d.hearing (lost s) c.args.lost) c.min.result least
