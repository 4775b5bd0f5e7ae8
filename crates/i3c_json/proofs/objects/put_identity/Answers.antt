use Rattle.std.proofs.Common.{◌≡◌, ◌∙◌, ◌++◌, ap, codes}
use Rattle.std.proofs.lemmas.Result.{on_ok_weaker}
use Rattle.serde_json.specs.Data.{put}
use Rattle.serde_json.specs.View.{members_view}
use Rattle.i3c_text.specs.Hex.{byte_text, hex_text}
use Rattle.i3c_json.specs.Values.{text_data}
use Rattle.i3c_json.proofs.objects.put_identity.Goals as goal

pub returns : goal.returns
returns c =
    let identity = c.args.identity.now in
    let before = members_view c.args.fields.now.entries in
    let digits : c.as_bytes.result.now ≡ hex_text 12 identity.pid = c.as_bytes.ensures ∙ c.in_ok-push_pid.ensures ∙ ap (λ b. b ++ hex_text 12 identity.pid) c.new-digits.ensures in
    let pid = c.in_ok-put_text.ensures ∙ (λ i. put (codes "pid") (text_data (digits i)) before) in
    let dcr = c.in_ok-put_hex.ensures ∙ (λ i. put (codes "dcr") (text_data (byte_text identity.dcr.0)) (pid i)) in
    on_ok_weaker c.put_hex-2.result (λ told. told ∙ (λ i. put (codes "bcr") (text_data (byte_text identity.bcr.0)) (dcr i))) c.put_hex-2.ensures
