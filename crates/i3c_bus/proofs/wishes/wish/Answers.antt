use Rattle.std.proofs.Common.{◌≡◌, ◌∙◌, MatchOption, false, true, ap, subst}
use Rattle.i3c_base.specs.declared.requests.Request.{Request}
use Rattle.i3c_base.specs.Numbers.{kind_set}
use Rattle.i3c_base.specs.Serve.{asks}
use Rattle.i3c_device.specs.Hearing.{enabled}
use Rattle.i3c_bus.specs.Wishing.{wish_of}
use Rattle.i3c_bus.proofs.Wished.{all_enabled, wanted_is_wished}
use Rattle.i3c_bus.proofs.wishes.wish.Goals as goal

pub returns : goal.returns
returns c =
    let d = c.in_ok-device.device in
    let hears : c.hear.new.self ≡ all_enabled d = c.hear.ensures ∙ ap (λ n. enabled (kind_set (record { 0 = n })) d) c.write_word.ensures.byte in
    let asked = subst (λ one. MatchOption c.wants.result ((q : Request) → asks one q ≡ false) (λ r. asks one r ≡ true)) hears c.wants.ensures in
    wanted_is_wished d c.wants.result asked ∙ ap wish_of c.in_ok-device.ensures.device
