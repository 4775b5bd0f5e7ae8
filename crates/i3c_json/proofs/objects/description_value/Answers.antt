use Rattle.std.proofs.Common.{◌≡◌, ◌∙◌, ap, codes}
use Rattle.serde_json.specs.Data.{boolean, no_members, object, put}
use Rattle.serde_json.specs.View.{members_view}
use Rattle.serde_json.proofs.Views.{view-Object}
use Rattle.i3c_json.specs.Values.{name_data, put_identity, wish_data}
use Rattle.i3c_json.proofs.objects.description_value.Goals as goal

pub returns : goal.returns
returns c =
    let first : members_view c.put_wish.new.fields.entries ≡ put (codes "wish") (wish_data c.args.device.now.wish) no_members = c.in_ok-put_wish.ensures ∙ (λ i. put (codes "wish") (wish_data c.args.device.now.wish) (members_view (c.new-fields.ensures.empty i))) in
    let second = c.in_ok-put_flag.ensures ∙ (λ i. put (codes "role") (boolean c.args.device.now.role) (first i)) in
    let third = c.in_ok-put_name.ensures ∙ (λ i. put (codes "name") (name_data c.args.device.now.name) (second i)) in
    let fourth = c.in_ok-put_flag-2.ensures ∙ (λ i. put (codes "join") (boolean c.args.device.now.join) (third i)) in
    let fifth = c.in_ok-put_flag-3.ensures ∙ (λ i. put (codes "interrupt") (boolean c.args.device.now.interrupt) (fourth i)) in
    let sixth = c.in_ok-put_identity.ensures ∙ (λ i. put_identity c.args.device.now.identity (fifth i)) in
    view-Object c.put_identity.new.fields ∙ ap object sixth
