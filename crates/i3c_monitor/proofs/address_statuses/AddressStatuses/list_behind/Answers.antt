use Rattle.std.proofs.Common.{◌≡◌, ◌∙◌, ◌-◌, ap, arith, drop, length, length-drop, take}
use Rattle.std.proofs.lemmas.List.{take_all}
use Rattle.i3c_deftgts.specs.Layout.{bytes}
use Rattle.i3c_deftgts.specs.Reading.{entries_in, first_fault}
use Rattle.i3c_monitor.specs.Due.{words_in}
use Rattle.i3c_monitor.specs.AddressStatuses.{list_read}
use Rattle.i3c_monitor.proofs.address_statuses.AddressStatuses.list_behind.Goals as goal

pub returns : goal.returns
returns c =
    let behind = c.args.behind.now in
    let all : take (length behind - 1) (drop 1 behind) ≡ drop 1 behind = take_all (length behind - 1) (drop 1 behind) (omega (arith, length-drop 1 behind)) in
    let same : c.deref.result.now ≡ words_in (drop 1 behind) = c.deref.ensures.value ∙ c.in_ok-words.ensures ∙ ap words_in all in
    c.list_words.ensures ∙ ap (λ words. list_read (first_fault words) (entries_in (bytes words)) c.args.self.now) same
