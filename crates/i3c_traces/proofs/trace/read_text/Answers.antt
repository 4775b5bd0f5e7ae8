use Rattle.std.proofs.Common.{◌≡◌, ◌≤◌, ◌++◌, ◌∙◌, ap, arith, drop, length, map, take}
use Rattle.i3c_traces.specs.Traces.{ascii}
use Rattle.i3c_streams.specs.declared.reading.TheConstants.{MOST_BYTES}
use Rattle.i3c_streams.proofs.BytesRead.{all_read}
use Rattle.i3c_traces.proofs.AsciiLaws.{length-ascii, put_back}
use Rattle.i3c_traces.proofs.trace.read_text.Goals as goal

pub returns-clause-text : goal.returns-clause-text
returns-clause-text g c =
    let known = g.R.Read.remaining c.args.reader.now in
    let items = c.in_ok-bytes.bytes.items in
    let long : length c.mark_unknown.new.bytes ≡ c.in_ok-bytes.bytes.len =
    omega (arith, ap length c.mark_unknown.ensures, length-ascii c.deref_mut.result.now, c.deref_mut.ensures.len) in
    let same : take c.in_ok-bytes.bytes.len (c.mark_unknown.new.bytes ++ drop (length c.mark_unknown.new.bytes) items) ≡ map ascii items =
    put_back items c.mark_unknown.new.bytes c.in_ok-bytes.bytes.len long ∙ c.mark_unknown.ensures ∙ ap (map ascii) c.deref_mut.ensures.value in
    all_read known (g.R.Read.remaining c.read_whole.new.reader) items
    (λ bytes. take c.in_ok-bytes.bytes.len (c.mark_unknown.new.bytes ++ drop (length c.mark_unknown.new.bytes) items) ≡ map ascii bytes)
    c.in_ok-bytes.ensures.bytes c.in_ok-bytes.ensures.whole same

pub returns-clause-fits : goal.returns-clause-fits
returns-clause-fits g c =
    all_read (g.R.Read.remaining c.args.reader.now) (g.R.Read.remaining c.read_whole.new.reader) c.in_ok-bytes.bytes.items (λ bytes. length bytes ≤ MOST_BYTES)
    c.in_ok-bytes.ensures.bytes c.in_ok-bytes.ensures.whole c.in_ok-bytes.ensures.fits
