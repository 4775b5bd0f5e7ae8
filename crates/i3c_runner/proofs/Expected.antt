-- The results of lines that are commands.
use Rattle.std.proofs.Common.{◌≡◌, ◌∙◌, ◌∷◌, ◌++◌, [], ℕ, List, Option, Some, None, Result, Ok, Err, ap, append_assoc, append-nil, inr, refl, subst, sym}
use Rattle.i3c_lines.specs.declared.command.Command.{Command}
use Rattle.i3c_lines.specs.declared.refusals.Refusal.{Refusal}
use Rattle.i3c_text.specs.declared.line_error.LineError.{LineError}
use Rattle.i3c_lines.specs.Forms.{IsCommand}
use Rattle.i3c_script.specs.declared.stage.Stage.{Stage}
use Rattle.i3c_script.specs.declared.piece.Piece.{Piece}
use Rattle.i3c_script.specs.Hearing.{all_heard}
use Rattle.i3c_script.specs.Obeying.{IsHeard, ScriptState}
use Rattle.i3c_script.specs.Printed.{pieces_text, with_piece}
use Rattle.i3c_script.specs.Telling.{Prints}
use Rattle.i3c_script.proofs.Hearing.{text_heard}
use Rattle.i3c_facts.specs.declared.before.Heard.{Heard}
use Rattle.i3c_facts.specs.declared.before.LineResult.{LineResult}
use Rattle.i3c_facts.specs.Hearing.{heard_with, nothing_heard}
use Rattle.i3c_runner.specs.declared.said.Said.{Said}
use Rattle.i3c_runner.specs.Saying.{said_with}
use Rattle.i3c_runner.specs.Scripts.{CountedRuns}
use Rattle.i3c_runner.specs.Expecting.{LastsAt, Standing, lasting_text, still_lasting, unmet_with, went}
use Rattle.i3c_runner.specs.ScriptSteps.{Outlasts, ReadsCounted, noted, refused_so}

-- what is printed of a line that did one thing, it is of a line that did another, which follows of it
pub prints_so : (P Q : List ℕ → Option Refusal → Type 0) (before after : List ℕ) (result : Result (Unit {0}) (LineError Refusal)) → ((said : List ℕ) (refused : Option Refusal) → P said refused → Q said refused)
    → Prints P before after result → Prints Q before after result
prints_so P Q before after (Ok done) follows (said, told, is) = (said, told, follows said None is)
prints_so P Q before after (Err (LineError.Refused why)) follows (said, told, is) = (said, told, follows said (Some why) is)
prints_so P Q before after (Err LineError.Memory) follows short = short

-- where no expectation lasts, none is told
none_lasts : (now : Standing) (stage : Stage) → now.lasting ≡ [] → LastsAt now stage [] now
none_lasts now (Stage.Before board) none = (refl, refl)
none_lasts now (Stage.Running ran) none =
    let st = ran.state in let names = now.script.names in let before = now.before in
    let still : now.lasting ≡ still_lasting st names before now.lasting = none ∙ ap (still_lasting st names before) (sym none) in
    let unmet : now.unmet ≡ unmet_with st names before now.lasting now.unmet = ap (λ l. unmet_with st names before l now.unmet) (sym none) in
    (ap (lasting_text st names before) (sym none), λ i. record now { lasting = still i; unmet = unmet i })

-- what a line prints and what facts know of it hear the same pieces
pub said_heard : (old : Said) (pieces : List Piece) → all_heard said_with old pieces ≡ record { text = old.text ++ pieces_text pieces; heard = all_heard heard_with old.heard pieces }
said_heard old pieces = both old pieces ∙ (λ i. record { text = text_heard old.text pieces i; heard = all_heard heard_with old.heard pieces })
  where
    both : (old : Said) (pieces : List Piece) → all_heard said_with old pieces ≡ record { text = all_heard with_piece old.text pieces; heard = all_heard heard_with old.heard pieces }
    both old [] = refl
    both old (piece ∷ pieces) = both (said_with old piece) pieces

-- a script whose last command was done, after its pieces
abbrev pub done_so : Standing → ScriptState → Heard → Standing
done_so now state heard = record now { script = state; before = record { result = LineResult.Done; heard = heard } }

-- the same where these pieces were heard from the command's start
heard_so : (now : Standing) (state : ScriptState) (old after : Said) (pieces : List Piece) → old.heard ≡ nothing_heard → after ≡ all_heard said_with old pieces → done_so now state after.heard ≡ went now state pieces None
heard_so now state old after pieces none e =
    ap (λ s. done_so now state s.heard) (e ∙ said_heard old pieces) ∙ ap (λ h. done_so now state (all_heard heard_with h pieces)) none

printed_so : (old after : Said) (pieces : List Piece) → after ≡ all_heard said_with old pieces → after.text ≡ old.text ++ pieces_text pieces
printed_so old after pieces e = ap (λ s. s.text) (e ∙ said_heard old pieces)

-- a command that was obeyed, where no expectation lasts
pub command_runs : (now : Standing) (line : List ℕ) (command : Command) (before after : Said) (result : Result (Unit {0}) (LineError Refusal)) (state : ScriptState) → before.heard ≡ nothing_heard → IsCommand line command
    → IsHeard said_with now.script command before after result state → now.lasting ≡ [] → ReadsCounted now line before.text after.text result (noted (done_so now state after.heard) result)
command_runs now line command before after (Ok done) state none asks (pieces, heard, is) still =
    let same = heard_so now state before after pieces none heard in (
      pieces_text pieces,
      printed_so before after pieces heard,
      subst (λ st. CountedRuns now line (pieces_text pieces) None st) (sym same)
          (inr (inr (inr (command, state, pieces, [], asks, is, sym (append-nil (pieces_text pieces)), none_lasts (went now state pieces None) state.stage still)))),
    )
command_runs now line command before after (Err (LineError.Refused why)) state none asks (pieces, heard, is) still =
    let same = ap (λ st. refused_so st why) (heard_so now state before after pieces none heard) in (
      pieces_text pieces,
      printed_so before after pieces heard,
      subst (λ st. CountedRuns now line (pieces_text pieces) (Some why) st) (sym same)
          (inr (inr (inr (command, state, pieces, [], asks, is, sym (append-nil (pieces_text pieces)), none_lasts (went now state pieces (Some why)) state.stage still)))),
    )
command_runs now line command before after (Err LineError.Memory) state none asks short still = short

-- what was tested after a refusal is noted with it
noted_on : (now : Standing) (stage : Stage) (why : Refusal) (told : List ℕ) (new : Standing) → LastsAt (refused_so now why) stage told new → LastsAt (refused_so now why) stage told (refused_so new why)
noted_on now (Stage.Before board) why told new (none, same) = (none, λ i. refused_so (same i) why)
noted_on now (Stage.Running ran) why told new (text, same) = (text, λ i. refused_so (same i) why)

-- a command that was obeyed, and expectations that were tested behind it
pub command_outlasts : (now : Standing) (line : List ℕ) (command : Command) (before mid : Said) (after : List ℕ) (outcome result : Result (Unit {0}) (LineError Refusal)) (state : ScriptState) (new : Standing) → before.heard ≡ nothing_heard
    → IsCommand line command → IsHeard said_with now.script command before mid outcome state → Outlasts (done_so now state mid.heard) mid.text after outcome result new → ReadsCounted now line before.text after result (noted new result)
command_outlasts now line command before mid after (Ok done) (Ok same) state new none asks (pieces, heard, is) (told, more, lasts) =
    let said = pieces_text pieces in (
      said ++ told,
      more ∙ ap (λ t. t ++ told) (printed_so before mid pieces heard) ∙ append_assoc before.text said told,
      inr (inr (inr (command, state, pieces, told, asks, is, refl, subst (λ st. LastsAt st state.stage told new) (heard_so now state before mid pieces none heard) lasts))),
    )
command_outlasts now line command before mid after (Err (LineError.Refused why)) (Err (LineError.Refused other)) state new none asks (pieces, heard, is) (same, (told, more, lasts)) =
    let said = pieces_text pieces in
    subst (λ w. ReadsCounted now line before.text after (Err (LineError.Refused w)) (noted new (Err (LineError.Refused w)))) (sym same) (
      said ++ told,
      more ∙ ap (λ t. t ++ told) (printed_so before mid pieces heard) ∙ append_assoc before.text said told,
      inr (inr (inr (
        command,
        state,
        pieces,
        told,
        asks,
        is,
        refl,
        noted_on (went now state pieces None) state.stage why told new (subst (λ st. LastsAt (refused_so st why) state.stage told new) (heard_so now state before mid pieces none heard) lasts),
      ))),
    )
command_outlasts now line command before mid after (Ok done) (Err (LineError.Refused why)) state new nothing asks is none = absurd none
command_outlasts now line command before mid after (Err (LineError.Refused why)) (Ok done) state new nothing asks is none = absurd none
command_outlasts now line command before mid after (Err LineError.Memory) (Ok done) state new nothing asks is none = absurd none
command_outlasts now line command before mid after (Err LineError.Memory) (Err (LineError.Refused why)) state new nothing asks is none = absurd none
command_outlasts now line command before mid after (Ok done) (Err LineError.Memory) state new nothing asks is short = tt
command_outlasts now line command before mid after (Err (LineError.Refused why)) (Err LineError.Memory) state new nothing asks is short = tt
command_outlasts now line command before mid after (Err LineError.Memory) (Err LineError.Memory) state new nothing asks is short = tt
