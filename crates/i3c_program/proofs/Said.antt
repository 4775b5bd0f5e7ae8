-- What a program's line says, by its command.
use Rattle.std.proofs.Common.{◌≡◌, ℕ, Bool, true, false, List, ap, arith, inl, inr}
use Rattle.std.specs.Prelude.{if◌then◌else◌}
use Rattle.i3c_every.specs.declared.sent.Sent.{Sent}
use Rattle.i3c_lines.specs.declared.command.Command.{Command}
use Rattle.i3c_lines.specs.Forms.{HasNoForm, IsSkipped}
use Rattle.i3c_scene.specs.Frames.{sends_frame, sends_many, tells_past}
use Rattle.i3c_program.specs.declared.reason.Reason.{Reason}
use Rattle.i3c_program.specs.declared.word.Word.{Word}
use Rattle.i3c_program.specs.Words.{said}

-- a line that may be sent
pub said_sent : (line : List ℕ) (command : Command) (sent : Sent (List ℕ)) → sends_many command ≡ false → tells_past command ≡ false → sent ≡ (if sends_frame command then Sent.Meets line else Sent.Alone line) → Word.Sends sent ≡ said line command
said_sent line command sent many past is = go (sends_many command) (tells_past command) (sends_frame command) many past is
  where
    go : (m p f : Bool) → m ≡ false → p ≡ false → sent ≡ (if f then Sent.Meets line else Sent.Alone line)
        → Word.Sends sent ≡ (if m then Word.Refused Reason.ManyFrames else if p then Word.Refused Reason.NoPast else if f then Word.Sends (Sent.Meets line) else Word.Sends (Sent.Alone line))
    go false false true m p is = ap Word.Sends is
    go false false false m p is = ap Word.Sends is
    go true p f m q is = absurd cc
    go false true f m q is = absurd cc

-- a line that is skipped has a form
pub skipped_form : (line : List ℕ) → IsSkipped line → HasNoForm line → ⊥
skipped_form line skipped (inl long) = omega (arith, long, skipped.0)
skipped_form line skipped (inr none) = none.0 skipped
