use Rattle.std.proofs.Common.{◌∷◌, false, drop, not, ap, sym, ◌∙◌}
use Rattle.i3c_word.specs.declared.Word.{Word}
use Rattle.i3c_deftgts.specs.Layout.{bytes}
use Rattle.i3c_deftgts.specs.Reading.{entry_fault, later_entries}
use Rattle.i3c_deftgts.proofs.FaultLaws.{five_words, is_right, is_whole, read_result, rest_of, told_addresses, told_count}
use Rattle.i3c_deftgts.proofs.reading.read_list.Goals as goal

-- a blank word
abbrev blank : Word
blank = record { byte = 0; t = false }

pub returns-then-not-is_count : goal.returns-then-not-is_count
returns-then-not-is_count c =
    told_count c.args.words.now (sym c.first_wrong_t.ensures ∙ c.in_default.is) (is_whole c.args.words.now c.in-len5-up.len_at_least c.if-rest-ne0.false)
    (is_right c.args.words.now blank c.is_count.result c.in-len5-up.len_at_least c.is_count.ensures ∙ ap not c.if-not-is_count.true)

pub returns-in_default-first_entry : goal.returns-in_default-first_entry
returns-in_default-first_entry c =
    told_addresses c.args.words.now (sym c.first_wrong_t.ensures ∙ c.in_default.is) (is_whole c.args.words.now c.in-len5-up.len_at_least c.if-rest-ne0.false)
    (is_right c.args.words.now blank c.is_count.result c.in-len5-up.len_at_least c.is_count.ensures ∙ ap not c.if-not-is_count.false)
    ∙ ap entry_fault (five_words c.args.words.now blank c.in-len5-up.len_at_least ∙ ap (λ e. e ∷ later_entries (bytes (drop 5 c.args.words.now))) (sym c.first_entry.ensures ∙ c.in_default-first_entry.is))

pub returns : goal.returns
returns c =
    let is = five_words c.args.words.now blank c.in-len5-up.len_at_least ∙ ap (λ e. e ∷ later_entries (bytes (drop 5 c.args.words.now))) (sym c.first_entry.ensures ∙ c.in-Some-first_entry.is) in
    let fault = told_addresses c.args.words.now (sym c.first_wrong_t.ensures ∙ c.in_default.is) (is_whole c.args.words.now c.in-len5-up.len_at_least c.if-rest-ne0.false)
    (is_right c.args.words.now blank c.is_count.result c.in-len5-up.len_at_least c.is_count.ensures ∙ ap not c.if-not-is_count.false) in
    read_result c.read_later.result c.args.words.now _ is (fault ∙ ap entry_fault is) (rw (rest_of c.args.words.now) at c.read_later.ensures)
