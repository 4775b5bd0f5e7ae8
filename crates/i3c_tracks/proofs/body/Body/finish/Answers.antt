use Rattle.std.proofs.Common.{rules, ◌≡◌, ◌∙◌, Some, None, Bool, Option, ap, false, true}
use Rattle.std.specs.Option.{is_some}
use Rattle.std.specs.Prelude.{if◌then◌else◌}
use Rattle.i3c_tracks.specs.declared.refusal.Reason.{Reason}
use Rattle.i3c_tracks.specs.declared.refusal.Refusal.{Refusal}
use Rattle.i3c_tracks.specs.Refusing.{at_end}
use Rattle.i3c_tracks.proofs.Reading.{all_left, all_opened, all_ruled, is_open, none_open, none_risked}
use Rattle.i3c_tracks.proofs.body.Body.finish.Goals as goal

abbrev left_open : Bool → Option Refusal
left_open still = if still then Some (at_end Reason.NoClose) else None

pub returns-then-is_some : goal.returns-then-is_some
returns-then-is_some c =
    let still : is_some c.args.self.block ≡ true = search rules in
    ap left_open (is_open c.args.self.block ∙ still)

pub returns : goal.returns
returns c =
    let shut : is_some c.args.self.block ≡ false = search rules in
    let none = none_open c.args.self.block shut in
    let settles = c.in_ok-settle.ensures in
    (settles.start, ap left_open (is_open c.args.self.block ∙ shut), all_left c.args.self c.settle.new.self settles none, all_opened c.args.self c.settle.new.self settles none, all_ruled c.args.self c.settle.new.self settles none, settles.risky ∙ none_risked c.args.self.risky)
