use Rattle.std.proofs.Common.{◌∙◌, ◌++◌, ap, sym}
use Rattle.i3c_wave.specs.Dump.{free_bus}
use Rattle.i3c_wave.specs.Scripts.{script_preamble}
use Rattle.i3c_streams.specs.Outcomes.{output}
use Rattle.i3c_cli.specs.Wavings.{dump_at}
use Rattle.i3c_cli.proofs.WavedOut.{waved_by}
use Rattle.i3c_cli.proofs.waving.wave_script.Goals as goal

pub returns : goal.returns
returns g c =
    let contents = g.W.Write.contents in
    let legacies = c.args.legacies.0 in
    let content = c.args.content in
    let old = contents c.args.out in
    let new = c.run_viewed-outcome.new.viewer in
    let now = contents new.out in
    let text = c.in-Ok.ensures ∙ ap (λ text. text ++ script_preamble content) c.new-text.ensures in
    waved_by _ new (λ v. dump_at v.legacies.0 v.wave (contents v.out) v.text) legacies content (g.R.Read.remaining c.args.reader.now) old now (contents c.write_last-result.new.out) c.as_bytes.result.now
    c.run_viewed-outcome.result c.write_last-result.result c.run_viewed-outcome.ensures.lines
    (ap (λ wave. dump_at legacies wave old c.push_script_preamble.new.text) c.new.ensures ∙ ap (dump_at legacies (free_bus content) old) text)
    (ap (output now) (sym c.as_bytes.ensures)) c.write_last-result.ensures
