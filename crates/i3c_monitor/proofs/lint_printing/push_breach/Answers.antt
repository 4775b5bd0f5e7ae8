use Rattle.std.proofs.Common.{◌≡◌, ◌++◌, OnOk, subst, sym}
use Rattle.i3c_monitor.specs.LintLines.{breach_text}
use Rattle.i3c_monitor.proofs.lint_printing.push_breach.Goals as goal

pub returns-in-Unanswered : goal.returns-in-Unanswered
returns-in-Unanswered c = subst (λ b. OnOk c.push.result (c.push.new.self ≡ c.args.text.now ++ breach_text b)) (sym c.in-Unanswered.is) c.push.ensures.appended

pub returns-in-Surplus : goal.returns-in-Surplus
returns-in-Surplus c = subst (λ b. OnOk c.push-in-Surplus.result (c.push-in-Surplus.new.self ≡ c.args.text.now ++ breach_text b)) (sym c.in-Surplus.is) c.push-in-Surplus.ensures.appended

pub returns-in-Parity : goal.returns-in-Parity
returns-in-Parity c = subst (λ b. OnOk c.push-in-Parity.result (c.push-in-Parity.new.self ≡ c.args.text.now ++ breach_text b)) (sym c.in-Parity.is) c.push-in-Parity.ensures.appended
