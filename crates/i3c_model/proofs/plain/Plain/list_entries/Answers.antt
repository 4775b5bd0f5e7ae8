use Rattle.std.proofs.Common.{◌≡◌, ◌+◌, ap, count_by, is_some, ◌∙◌, arith}
use Rattle.i3c_base.specs.declared.range.TheConstants.{ADDRESSES}
use Rattle.i3c_base.specs.State.{State}
use Rattle.i3c_model.specs.Views.{places_of}
use Rattle.i3c_model.proofs.Counting.{places_count, places_few}
use Rattle.i3c_model.proofs.plain.Plain.list_entries.Goals as goal

pub overflow_cast-result : goal.overflow_cast-result
overflow_cast-result c =
    let given = places_few ADDRESSES c.self.inside.given c.len.ensures.ordered c.self.invariant.addresses in
    let legacy = places_few ADDRESSES c.self.inside.legacy c.len-2.ensures.ordered c.self.invariant.statics in
    omega (arith, given, legacy, c.len.ensures.len, c.len-2.ensures.len)

pub returns-clause-same : goal.returns-clause-same
returns-clause-same c =
    let given = places_count ADDRESSES c.self.inside.given c.len.ensures.ordered c.self.invariant.addresses in
    let legacy = places_count ADDRESSES c.self.inside.legacy c.len-2.ensures.ordered c.self.invariant.statics in
    let same : c.len.result + c.len-2.result ≡ count_by is_some (places_of ADDRESSES c.self.inside.given) + count_by is_some (places_of ADDRESSES c.self.inside.legacy) = omega (arith, given, legacy, c.len.ensures.len, c.len-2.ensures.len) in
    same ∙ ap (λ (st : State). count_by is_some st.given + count_by is_some st.legacy) c.self.view_is

pub returns-clause-few : goal.returns-clause-few
returns-clause-few c =
    let given = places_few ADDRESSES c.self.inside.given c.len.ensures.ordered c.self.invariant.addresses in
    let legacy = places_few ADDRESSES c.self.inside.legacy c.len-2.ensures.ordered c.self.invariant.statics in
    omega (arith, given, legacy, c.len.ensures.len, c.len-2.ensures.len)
