use Rattle.std.proofs.Common.{◌∙◌, ap, codes}
use Rattle.std.proofs.lemmas.Result.{on_ok_weaker}
use Rattle.i3c_json.specs.declared.fields.Array.{Array}
use Rattle.i3c_json.specs.Fields.{put_items, values_of}
use Rattle.i3c_json.proofs.fields.put_arrays.Goals as goal

pub returns : goal.returns
returns c =
    let pieces = c.args.pieces.now in
    let step2 = c.in_ok-put_array-2.ensures ∙ ap (put_items (codes "devices") (values_of Array.Devices pieces)) (c.in_ok-put_array.ensures) in
    let step3 = c.in_ok-put_array-3.ensures ∙ ap (put_items (codes "targets") (values_of Array.Targets pieces)) step2 in
    let step4 = c.in_ok-put_array-4.ensures ∙ ap (put_items (codes "log") (values_of Array.Log pieces)) step3 in
    let step5 = c.in_ok-put_array-5.ensures ∙ ap (put_items (codes "descriptions") (values_of Array.Descriptions pieces)) step4 in
    on_ok_weaker c.put_array-6.result (λ told. told ∙ ap (put_items (codes "tenures") (values_of Array.Tenures pieces)) step5) c.put_array-6.ensures
