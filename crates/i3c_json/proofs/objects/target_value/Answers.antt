use Rattle.std.proofs.Common.{◌≡◌, ◌∙◌, ap, codes}
use Rattle.serde_json.specs.Data.{no_members, object, put}
use Rattle.serde_json.specs.View.{members_view}
use Rattle.serde_json.proofs.Views.{view-Object}
use Rattle.i3c_text.specs.Hex.{byte_text}
use Rattle.i3c_json.specs.Values.{name_data, text_data}
use Rattle.i3c_json.proofs.objects.target_value.Goals as goal

pub returns : goal.returns
returns c =
    let first : members_view c.put_name.new.fields.entries ≡ put (codes "name") (name_data c.args.name.now) no_members = c.in_ok-put_name.ensures ∙ (λ i. put (codes "name") (name_data c.args.name.now) (members_view (c.new-fields.ensures.empty i))) in
    let second = c.in_ok-put_hex.ensures ∙ (λ i. put (codes "address") (text_data (byte_text (c.get.ensures.same i))) (first i)) in
    view-Object c.put_hex.new.fields ∙ ap object second
