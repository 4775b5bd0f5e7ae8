-- The results of driven lines: of those that are read as they come, and of those that are read in capitals.
use Rattle.std.proofs.Common.{◌≡◌, ◌∙◌, ◌<◌, ◌≤◌, ℕ, List, [], ◌++◌, length, arith, ap, Option, Result, Ok, Err, inl, inr, refl, subst, sym}
use Rattle.i3c_drive.specs.declared.driver.Driver.{Driver}
use Rattle.i3c_base.specs.declared.requests.Record.{Record}
use Rattle.i3c_drive.specs.Answers.{DrivenDoes}
use Rattle.i3c_drive.specs.Steps.{Obeyed, Reads, state}
use Rattle.i3c_json.specs.Objects.{IsLineOf, answer_data}
use Rattle.i3c_lines.specs.declared.command.Command.{Command}
use Rattle.i3c_lines.specs.declared.names.Name.{Name}
use Rattle.i3c_lines.specs.declared.refusals.Refusal.{Refusal}
use Rattle.i3c_lines.specs.Capitals.{in_capitals}
use Rattle.i3c_lines.specs.Forms.{HasNoForm, IsCommand, IsForm, IsSkipped, tokens_of}
use Rattle.i3c_lines.proofs.CapitalLaws.{command_in_capitals, long_capitals, no_capitals}
use Rattle.i3c_streams.specs.declared.form.Form.{Form}
use Rattle.i3c_text.specs.declared.line_error.LineError.{LineError}
use Rattle.i3c_script.specs.declared.piece.Piece.{Piece}
use Rattle.i3c_script.specs.Hearing.{all_heard}
use Rattle.i3c_script.specs.Obeying.{ComesTo, IsHeard, ScriptState}
use Rattle.i3c_script.specs.Pieces.{with_next}
use Rattle.i3c_script.specs.Printed.{pieces_text, with_piece}
use Rattle.i3c_script.specs.Stops.{Ends}
use Rattle.i3c_script.proofs.Hearing.{hears_by, list_heard, text_heard}

skipped_form : (line : List ℕ) → IsSkipped line → HasNoForm line → ⊥
skipped_form line skipped (inl long) = omega (arith, long, skipped.0)
skipped_form line skipped (inr none) = none.0 skipped

command_form : (line : List ℕ) (command : Command) → IsCommand line command → HasNoForm line → ⊥
command_form line command is (inl long) = omega (arith, long, is.0)
command_form line command is (inr none) = none.1 command is

module _ {L : Type 0} (heard : L → Piece → L) where
  -- a line that is too long
  pub long_reads : (old : ScriptState) (line : List ℕ) (before : L) → 256 < length line → Reads heard old line before before (Err (LineError.Refused Refusal.BadLine)) old
  long_reads old line before long = ([], refl, (in_capitals line, inr (inl long, refl), inl (long_capitals line long, refl, refl, refl)))

  -- a line with a command
  pub command_reads : (old : ScriptState) (line : List ℕ) (command : Command) (before after : L) (result : Result (Unit {0}) (LineError Refusal)) (new : ScriptState) → IsCommand line command → IsHeard heard old command before after result new
      → Reads heard old line before after result new
  command_reads old line command before after result new is obeyed =
      hears_by heard (λ pieces refused. ComesTo old.stage old.names command pieces refused new) (λ pieces refused. DrivenDoes old line pieces refused new)
      (λ pieces refused comes. (line, inl (command_form line command is, refl), inr (inr (command, is, comes)))) before after result obeyed

  -- a line that has a command in capitals
  pub capitals_read : (old : ScriptState) (line : List ℕ) (command : Command) (before after : L) (result : Result (Unit {0}) (LineError Refusal)) (new : ScriptState) → length line ≤ 256 → HasNoForm line → IsForm (tokens_of (in_capitals line)) command
      → IsHeard heard old command before after result new → Reads heard old line before after result new
  capitals_read old line command before after result new short none form obeyed =
      hears_by heard (λ pieces refused. ComesTo old.stage old.names command pieces refused new) (λ pieces refused. DrivenDoes old line pieces refused new)
      (λ pieces refused comes. (in_capitals line, inr (none, refl), inr (inr (command, command_in_capitals line command short form, comes)))) before after result obeyed

  -- a line that has none in capitals either
  pub formless_reads : (old : ScriptState) (line : List ℕ) (before : L) → length line ≤ 256 → HasNoForm line → ((command : Command) → IsForm (tokens_of (in_capitals line)) command → ⊥)
      → Reads heard old line before before (Err (LineError.Refused Refusal.BadLine)) old
  formless_reads old line before short none form =
      ([], refl, (in_capitals line, inr (none, refl), inl (no_capitals line short (λ skipped. skipped_form line skipped none) form, refl, refl, refl)))

  -- of what a listener heard, this is kept
  kept_by : (Keeps : List Piece → Type 0) (old : ScriptState) (line : List ℕ) (before after : L) (result : Result (Unit {0}) (LineError Refusal)) (new : ScriptState) → ((pieces : List Piece) → after ≡ all_heard heard before pieces → Keeps pieces)
      → Reads heard old line before after result new → Ends (λ refused. (pieces : List Piece) × Keeps pieces × DrivenDoes old line pieces refused new) result
  kept_by Keeps old line before after (Ok done) new keeps (pieces, told, does) = (pieces, keeps pieces told, does)
  kept_by Keeps old line before after (Err (LineError.Refused why)) new keeps (pieces, told, does) = (pieces, keeps pieces told, does)
  kept_by Keeps old line before after (Err LineError.Memory) new keeps h = h

-- what a text heard is printed
pub lines_obeyed : (old : ScriptState) (line before text : List ℕ) (result : Result (Unit {0}) (LineError Refusal)) (driver : Driver) → before ≡ [] → Reads with_piece old line before text result (state driver) → Obeyed Form.Lines old line driver text result
lines_obeyed old line before text result driver none reads =
    kept_by with_piece (λ pieces. text ≡ pieces_text pieces) old line before text result (state driver) (λ pieces told. told ∙ text_heard before pieces ∙ ap (λ t. t ++ pieces_text pieces) none) reads

-- what a list heard is kept
pub pieces_obeyed : (old : ScriptState) (line text : List ℕ) (before : List Piece) (result : Result (Unit {0}) (LineError Refusal)) (driver : Driver) → text ≡ [] → before ≡ [] → Reads with_next old line before driver.pieces result (state driver) → Obeyed Form.Json old line driver text result
pieces_obeyed old line text before result driver empty none reads =
    kept_by with_next (λ pieces. (text ≡ []) × (driver.pieces ≡ pieces)) old line before driver.pieces result (state driver) (λ pieces told. (empty, told ∙ list_heard before pieces ∙ ap (λ l. l ++ pieces) none)) reads

-- an object of these parts is the answer
pub object_written : (number : ℕ) (refused : Option Refusal) (kept pieces : List Piece) (added first : Option (ℕ × Record)) (asking news : Option (List Name)) (before answer : List ℕ) → kept ≡ pieces → added ≡ first → asking ≡ news → before ≡ []
    → (line : List ℕ) × (answer ≡ before ++ line) × IsLineOf (answer_data number refused kept added asking) line → IsLineOf (answer_data number refused pieces first news) answer
object_written number refused kept pieces added first asking news before answer same_pieces same_record same_names none (line, told, is) =
    subst (λ l. IsLineOf (answer_data number refused pieces first news) l) (sym (told ∙ ap (λ t. t ++ line) none)) (subst (λ d. IsLineOf d line) (λ i. answer_data number refused (same_pieces i) (same_record i) (same_names i)) is)
