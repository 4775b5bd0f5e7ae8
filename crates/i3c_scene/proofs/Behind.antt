-- A raise leaves a scene that differs in one slot at most.
use Rattle.std.proofs.Common.{◌≡◌, ℕ, false, Option, Result, refl, subst, sym}
use Rattle.std.specs.Prelude.{MatchResult}
use Rattle.i3c_bus.proofs.Nearby.{raised_near}
use Rattle.i3c_facts.specs.declared.before.Before.{Before}
use Rattle.i3c_lines.specs.declared.command.Command.{Command}
use Rattle.i3c_lines.specs.declared.refusals.Refusal.{Refusal}
use Rattle.i3c_script.specs.Obeying.{Answers, IsRefused}
use Rattle.i3c_script.specs.Unkept.{no_past}
use Rattle.i3c_step.specs.declared.events.Event.{Event}
use Rattle.i3c_scene.specs.declared.risk.Risk.{Risk}
use Rattle.i3c_scene.specs.declared.ways.Ways.{Ways}
use Rattle.i3c_scene.specs.Going.{Does, on_bus}
use Rattle.i3c_scene.specs.Near.{IsBehind, Raises, RaisesIn}
use Rattle.i3c_scene.specs.Scenes.{Seen}
use Rattle.i3c_scene.specs.Trying.{RunsIn, cut_as}

pub raised_behind : (old new : Seen) (slot : ℕ) (byte : Option ℕ) (before : Before) → Raises old slot byte before new → IsBehind slot old new
raised_behind old new slot byte before (pieces, refused, (reply, moves, told), came, names) = record {
  state = raised_near old.state new.state slot byte reply moves.step;
  settings = moves.settings;
  cuts = moves.cuts;
  names = names;
}

-- no device is cut in a line that sends no frame
no_cut : (old : Seen) (risk : Risk) (ways : Ways) → cut_as old false risk ways ≡ old
no_cut old Risk.Nobody ways = refl
no_cut old (Risk.One name) ways = refl
no_cut old (Risk.Two one other) ways = refl

-- a raise is what the line does, in all ways
pub raised_runs : (old new : Seen) (command : Option Command) (risk : Risk) (before : Before) (slot : ℕ) (byte : Option ℕ) → RaisesIn old command slot byte → Raises old slot byte before new → (ways : Ways) → RunsIn old command risk ways before new
raised_runs old new command risk before slot byte r (pieces, refused, answers, came, names) ways = subst (λ (c : Option Command). RunsIn old c risk ways before new) (sym r.raise) (
  pieces,
  refused,
  subst (λ (s : Seen). Does s (Command.Raise r.name byte) pieces refused new) (sym (no_cut old risk ways)) (
    names,
    subst (λ (s : Result ℕ Refusal). MatchResult s (λ slot. Answers no_past (on_bus old) (Event.Raise slot byte) pieces refused (on_bus new)) (λ why. (on_bus new ≡ on_bus old) × IsRefused why pieces refused)) (sym r.named) answers,
  ),
  came,
)
