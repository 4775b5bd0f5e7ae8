use Rattle.std.proofs.Common.{◌≡◌, ◌∙◌, ap, codes}
use Rattle.serde_json.specs.Data.{number, no_members, object, put, unsigned}
use Rattle.serde_json.specs.View.{members_view}
use Rattle.serde_json.proofs.Views.{view-Object}
use Rattle.i3c_json.proofs.objects.tenure_value.Goals as goal

pub returns : goal.returns
returns c =
    let first : members_view c.put_number.new.fields.entries ≡ put (codes "to") (number (unsigned c.args.to)) no_members = c.in_ok-put_number.ensures ∙ (λ i. put (codes "to") (number (unsigned c.args.to)) (members_view (c.new-fields.ensures.empty i))) in
    let second = c.in_ok-put_number-2.ensures ∙ (λ i. put (codes "slot") (number (unsigned (c.index.ensures.same i))) (first i)) in
    let third = c.in_ok-put_number-3.ensures ∙ (λ i. put (codes "from") (number (unsigned c.args.from)) (second i)) in
    view-Object c.put_number-3.new.fields ∙ ap object third
