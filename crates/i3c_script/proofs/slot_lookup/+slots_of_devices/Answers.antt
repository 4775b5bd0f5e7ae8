-- The first name's slot comes before the others.
use Rattle.std.proofs.Common.{◌≡◌, ◌∙◌, ◌++◌, Ok, Err, List, ℕ, subst, sym}
use Rattle.std.specs.Prelude.{MatchResult}
use Rattle.i3c_script.specs.Asking.{slot_of_device, slots_named, with_others}
use Rattle.i3c_script.proofs.Gathering.{gathered}
use Rattle.i3c_script.proofs.slot_lookup.+slots_of_devices.Goals as goal

pub returns-in-Ok : goal.returns-in-Ok
returns-in-Ok g t c =
    let slot = slot_of_device g.N.Naming.kept c.args.bus.now.state c.args.names.now in
    let rest = c.in-Some.rest.now in
    let result = c.slots_of_devices.result in
    let before = c.args.slots.now.items in
    let now = c.slots_of_devices.new.slots.items in
    subst (λ named. MatchResult (slots_named slot named) (λ found. (result ≡ Ok tt) × (now ≡ before ++ found)) (λ why. result ≡ Err why)) (sym c.in-Some.ensures.cases.0)
    (subst (λ one. MatchResult (with_others one (slots_named slot rest)) (λ found. (result ≡ Ok tt) × (now ≡ before ++ found)) (λ why. result ≡ Err why)) (sym c.in-Ok.is ∙ c.slot_of_device.ensures)
    (gathered c.in-Ok.slot (slots_named slot rest) result before now
    (subst (λ (kept : List ℕ). MatchResult (slots_named slot rest) (λ found. (result ≡ Ok tt) × (now ≡ kept ++ found)) (λ why. result ≡ Err why)) c.push.ensures.items c.slots_of_devices.ensures)))
