use Rattle.std.proofs.Common.{◌≡◌, ◌∙◌, ap, codes}
use Rattle.serde_json.specs.Data.{number, no_members, object, put, unsigned}
use Rattle.serde_json.specs.View.{members_view}
use Rattle.serde_json.proofs.Views.{view-Object}
use Rattle.i3c_text.specs.Hex.{byte_text}
use Rattle.i3c_json.specs.Values.{byte_data, text_data}
use Rattle.i3c_json.proofs.objects.record_value.Goals as goal

pub returns : goal.returns
returns c =
    let first : members_view c.put_number.new.fields.entries ≡ put (codes "slot") (number (unsigned c.args.recorded.now.slot)) no_members = c.in_ok-put_number.ensures ∙ (λ i. put (codes "slot") (number (unsigned (c.index.ensures.same i))) (members_view (c.new-fields.ensures.empty i))) in
    let second = c.in_ok-put_number-2.ensures ∙ (λ i. put (codes "raise") (number (unsigned c.args.recorded.now.number)) (first i)) in
    let third = c.in_ok-put_number-3.ensures ∙ (λ i. put (codes "number") (number (unsigned c.args.number)) (second i)) in
    let fourth = c.in_ok-put_byte.ensures ∙ (λ i. put (codes "byte") (byte_data c.args.recorded.now.byte) (third i)) in
    let fifth = c.in_ok-put_hex.ensures ∙ (λ i. put (codes "address") (text_data (byte_text (c.get.ensures.same i))) (fourth i)) in
    view-Object c.put_hex.new.fields ∙ ap object fifth
