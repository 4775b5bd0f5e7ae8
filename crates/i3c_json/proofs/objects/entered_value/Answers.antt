use Rattle.std.proofs.Common.{◌≡◌, ◌∙◌, ap, codes}
use Rattle.serde_json.specs.Data.{number, no_members, object, put, unsigned}
use Rattle.serde_json.specs.View.{members_view}
use Rattle.serde_json.proofs.Views.{view-Object}
use Rattle.i3c_json.specs.Values.{byte_data, name_data}
use Rattle.i3c_json.proofs.objects.entered_value.Goals as goal

pub returns : goal.returns
returns c =
    let first : members_view c.put_number.new.fields.entries ≡ put (codes "slot") (number (unsigned c.args.slot)) no_members = c.in_ok-put_number.ensures ∙ (λ i. put (codes "slot") (number (unsigned (c.index.ensures.same i))) (members_view (c.new-fields.ensures.empty i))) in
    let second = c.in_ok-put_name.ensures ∙ (λ i. put (codes "name") (name_data c.args.name.now) (first i)) in
    let third = c.in_ok-put_place.ensures ∙ (λ i. put (codes "address") (byte_data c.args.address) (second i)) in
    view-Object c.put_place.new.fields ∙ ap object third
