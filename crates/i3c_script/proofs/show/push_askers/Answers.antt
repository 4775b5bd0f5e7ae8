use Rattle.std.proofs.Common.{◌≡◌, ◌++◌, Some, refl, subst}
use Rattle.i3c_base.specs.declared.range.TheConstants.{SLOTS}
use Rattle.i3c_base.specs.Serve.{IsFirst}
use Rattle.i3c_script.specs.Pieces.{askers_below}
use Rattle.i3c_script.proofs.Texts.{on_ok}
use Rattle.i3c_script.proofs.show.push_askers.Goals as goal

pub returns-in-Some : goal.returns-in-Some
returns-in-Some g c =
    let st = c.args.bus.now.state in
    let names = g.N.Naming.kept.in_slot c.args.names.now in
    let r = c.in-Some.request in
    on_ok c.push_names.result (λ (told : c.push_names.new.askers.items ≡ c.args.askers.now.items ++ askers_below st names r SLOTS). (askers_below st names r SLOTS, (Some r, subst (IsFirst st) c.in-Some.request-is c.in-Some.ensures.0, refl), told)) c.push_names.ensures
