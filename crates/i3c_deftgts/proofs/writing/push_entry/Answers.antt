use Rattle.std.proofs.Common.{◌≡◌, ◌∙◌, false, List, ◌++◌, ◌∷◌, [], get_or, length, take, ap, sym, arith, append_assoc, length-append}
use Rattle.std.proofs.lemmas.List.{length-take, take_all, take_more}
use Rattle.i3c_word.specs.declared.Word.{Word}
use Rattle.i3c_deftgts.proofs.LayoutLaws.{carry_append, length-bytes_of, length-carried}
use Rattle.i3c_deftgts.specs.Layout.{bytes_of}
use Rattle.i3c_deftgts.proofs.writing.push_entry.Goals as goal

-- a blank word
abbrev blank : Word
blank = record { byte = 0; t = false }

pub push-requires : goal.push-requires
push-requires c =
    let long = ap length c.loop-word.invariant in
    let both = length-append c.args.words.now.items (take c.loop-word.word-index c.words-word-items.result) in
    let taken = length-take c.loop-word.word-index c.words-word-items.result in
    let below = c.loop-word-test.true in
    let room = c.requires in
    (omega arith, omega (arith, long, both, taken, below, room))

pub loop-word-preserved : goal.loop-word-preserved
loop-word-preserved c =
    let four : length c.words-word-items.result ≡ 4 = length-carried (bytes_of c.args.entry.now) c.words-word-items.result c.words-word-items.ensures ∙ length-bytes_of c.args.entry.now in
    let below = c.loop-word-test.true in
    let next = take_more c.words-word-items.result c.loop-word.word-index blank (omega (arith, four, below)) in
    let item : List Word = get_or c.words-word-items.result c.loop-word.word-index blank ∷ [] in
    c.push.ensures.items ∙ (ap (λ ws. ws ++ item) c.loop-word.invariant
    ∙ (append_assoc c.args.words.now.items (take c.loop-word.word-index c.words-word-items.result) item ∙ ap (λ ws. c.args.words.now.items ++ ws) (sym next)))

pub returns : goal.returns
returns c sent carried =
    let four : length c.words-word-items.result ≡ 4 = length-carried (bytes_of c.args.entry.now) c.words-word-items.result c.words-word-items.ensures ∙ length-bytes_of c.args.entry.now in
    let past = c.loop-word-test.false in
    let all = take_all c.loop-word.word-index c.words-word-items.result (omega (arith, four, past)) in
    rw (c.loop-word.invariant ∙ ap (λ ws. c.args.words.now.items ++ ws) all) (carry_append sent (bytes_of c.args.entry.now) c.args.words.now.items c.words-word-items.result carried c.words-word-items.ensures)
