use Rattle.std.proofs.Common.{◌≡◌, ◌-◌, ◌∷◌, false, length, drop, take, ap, sym, ◌∙◌, arith}
use Rattle.std.proofs.lemmas.List.{length-drop, take_all}
use Rattle.i3c_word.specs.declared.Word.{Word}
use Rattle.i3c_deftgts.specs.Layout.{bytes}
use Rattle.i3c_deftgts.specs.Reading.{later_entries}
use Rattle.i3c_deftgts.proofs.ReadingLaws.{all_read, first_in, four_words, lacks, reading_more, reading_none, reading_twice, told_twice}
use Rattle.i3c_deftgts.proofs.reading.read_later.Goals as goal

-- a blank word
blank : Word
blank = record { byte = 0; t = false }

pub loop-rest-init : goal.loop-rest-init
loop-rest-init c = reading_none c.args.first c.args.words.now c.insert.new.self (first_in c.insert.result c.new-gathered.result c.insert.new.self c.args.first c.new-gathered.ensures c.insert.ensures)

pub overflow_add-number : goal.overflow_add-number
overflow_add-number c = let few = c.requires in let counted = c.loop-rest.invariant.counted in let left = c.loop-rest.invariant.left in omega (arith, few, counted, left)

pub loop-rest-preserved : goal.loop-rest-preserved
unfolding blank
loop-rest-preserved c =
    let next = four_words c.loop-rest.rest.now blank c.in-len4-up.len_at_least ∙ ap (λ e. e ∷ later_entries (bytes (drop 4 c.loop-rest.rest.now))) (sym c.later_entry.ensures ∙ c.in-Some.is) in
    let more : take (length c.loop-rest.rest.now - 4) (drop 4 c.loop-rest.rest.now) ≡ drop 4 c.loop-rest.rest.now = take_all (length c.loop-rest.rest.now - 4) (drop 4 c.loop-rest.rest.now) (omega (arith, length-drop 4 c.loop-rest.rest.now)) in
    rw more (reading_more c.args.first c.args.words.now c.loop-rest.rest.now (drop 4 c.loop-rest.rest.now) c.loop-rest.gathered c.loop-rest.twice c.loop-rest.number c.in-Some.entry c.insert-in-len4-up.result c.insert-in-len4-up.new.self
    c.loop-rest.invariant next (omega (arith, length-drop 4 c.loop-rest.rest.now, c.in-len4-up.len_at_least)) (sym c.is_some.ensures ∙ c.if-is_some.false) c.insert-in-len4-up.ensures)

pub loop-rest-preserved-then-is_some : goal.loop-rest-preserved-then-is_some
unfolding blank
loop-rest-preserved-then-is_some c =
    let next = four_words c.loop-rest.rest.now blank c.in-len4-up.len_at_least ∙ ap (λ e. e ∷ later_entries (bytes (drop 4 c.loop-rest.rest.now))) (sym c.later_entry.ensures ∙ c.in-Some.is) in
    let more : take (length c.loop-rest.rest.now - 4) (drop 4 c.loop-rest.rest.now) ≡ drop 4 c.loop-rest.rest.now = take_all (length c.loop-rest.rest.now - 4) (drop 4 c.loop-rest.rest.now) (omega (arith, length-drop 4 c.loop-rest.rest.now)) in
    rw more (reading_twice c.args.first c.args.words.now c.loop-rest.rest.now (drop 4 c.loop-rest.rest.now) c.loop-rest.gathered c.loop-rest.twice c.loop-rest.number c.in-Some.entry c.insert-in-len4-up.result c.insert-in-len4-up.new.self
    c.loop-rest.invariant next (omega (arith, length-drop 4 c.loop-rest.rest.now, c.in-len4-up.len_at_least)) (sym c.is_some.ensures ∙ c.if-is_some.true) c.insert-in-len4-up.ensures)

pub returns-in_default-later_entry : goal.returns-in_default-later_entry
unfolding blank
returns-in_default-later_entry c =
    let next = four_words c.loop-rest.rest.now blank c.in-len4-up.len_at_least ∙ ap (λ e. e ∷ later_entries (bytes (drop 4 c.loop-rest.rest.now))) (sym c.later_entry.ensures ∙ c.in_default-later_entry.is) in
    lacks c.args.first c.args.words.now c.loop-rest.rest.now (drop 4 c.loop-rest.rest.now) c.loop-rest.gathered c.loop-rest.twice c.loop-rest.number c.loop-rest.invariant next

pub returns-then-twice : goal.returns-then-twice
returns-then-twice c = told_twice c.args.first c.args.words.now c.loop-rest.rest.now c.loop-rest.gathered c.loop-rest.twice c.loop-rest.number c.loop-rest.invariant c.in_default.len_below c.if-twice.true

pub returns : goal.returns
returns c = rw c.into_list.ensures (all_read c.args.first c.args.words.now c.loop-rest.rest.now c.loop-rest.gathered c.loop-rest.twice c.loop-rest.number c.loop-rest.invariant c.in_default.len_below c.if-twice.false)
