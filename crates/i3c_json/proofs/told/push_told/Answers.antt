use Rattle.std.proofs.Common.{◌≡◌, ◌≤◌, ◌++◌, ◌∷◌, ◌∙◌, [], false, Some, append_assoc, ap, string_bytes, subst}
use Rattle.std.proofs.lemmas.Result.{on_ok_weaker}
use Rattle.serde_json.specs.Data.{depth}
use Rattle.serde_json.specs.Read.{read}
use Rattle.serde_json.specs.Written.{compact_text, has_float}
use Rattle.i3c_json.specs.Objects.{told_data}
use Rattle.i3c_json.proofs.Flat.{told_flat}
use Rattle.i3c_json.proofs.Lines.{is_line}
use Rattle.i3c_json.proofs.told.push_told.Goals as goal

pub returns : goal.returns
returns c =
    let told = c.args.told.now in
    let bytes = string_bytes c.in_ok-object.object in
    let written = subst (λ value. (has_float value ≡ false → bytes ≡ compact_text value) × (depth value ≤ 127 → read bytes ≡ Some value)) c.in_ok-told_value.ensures (c.in_ok-object.ensures.text, c.in_ok-object.ensures.reads_back) in
    let before = c.args.text.now in
    on_ok_weaker c.end.result
    (λ ended. (
      bytes ++ 10 ∷ [],
      ended ∙ ap (λ b. b ++ 10 ∷ []) (c.in_ok-push.ensures.appended ∙ ap (λ b. before ++ b) c.as_bytes.ensures.value) ∙ append_assoc before bytes (10 ∷ []),
      is_line (told_data told) bytes (told_flat told) written,
    ))
    c.end.ensures
