-- The head, what holds, and the example make the group.
use Rattle.std.proofs.lemmas.Result.{on_ok_weaker}
use Rattle.i3c_tracks.proofs.GroupLaws.{group_told}
use Rattle.i3c_tracks.proofs.groups.push_group.Goals as goal

pub returns : goal.returns
returns c =
    on_ok_weaker c.push_example.result
    (λ told.
    let (example, shown, put) = told in
    group_told c.args.showing c.args.lines.now c.args.plan.now c.args.questions.now c.args.ends.now c.args.keys.now c.args.place c.args.number c.size_of-size.result c.orders_of-orders.result c.index-ends-place.result c.index-keys-place.result c.as_slice-key.result.now c.args.text.now c.push_head.new.text
    c.push_answers.new.text c.push_example.new.text example c.requires.keys c.requires.within c.index-ends-place.is c.index-keys-place.is c.as_slice-key.ensures.value c.size_of-size.ensures (c.orders_of-orders.ensures c.args.questions.now c.requires.keys) c.in_ok-push_head.ensures c.in_ok-push_answers.ensures shown put)
    c.push_example.ensures
