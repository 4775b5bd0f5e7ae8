-- The bytes of a file, as they are read.
use Rattle.std.proofs.Common.{◌≡◌, ◌≤◌, ◌∙◌, ℕ, All, List, [], ◌∷◌, ◌++◌, length, arith, Option, IfSome, ap, append_assoc, refl, subst, sym}
use Rattle.std.specs.Global.{Vec}
use Rattle.std.proofs.lemmas.List.Elements.{All-push}
use Rattle.i3c_streams.specs.declared.script_lines.Reading.{Reading}
use Rattle.i3c_streams.specs.declared.script_lines.ScriptLines.{ScriptLines}
use Rattle.i3c_streams.specs.Lines.{GivesLine, IsGivenOut, IsReadAs, IsReadFrom, given, line_in_hand}
use Rattle.i3c_streams.specs.Outcomes.{HasNoFeed}
use Rattle.i3c_streams.proofs.BytesRead.{none_read}
use Rattle.i3c_streams.proofs.LinesRead.{all_given}
use Rattle.i3c_tracks.specs.Planning.{AreLines, lines_bytes}

-- nothing was read yet
pub nothing_read : (known : Option (List ℕ)) (lines : ScriptLines) → lines.reading ≡ Reading.Open → lines.bytes.items ≡ [] → IsReadFrom known known lines
nothing_read known lines reading none =
    let few : length lines.bytes.items ≤ 1048576 = omega (arith, ap length none) in
    subst (λ r. IsReadAs r known known lines.bytes.items) (sym reading) (none_read known lines.bytes.items none, few)

-- one more line
pub bytes_more : (lines : List (Vec ℕ)) (line : Vec ℕ) → lines_bytes (lines ++ line ∷ []) ≡ lines_bytes lines ++ (line.items ++ 10 ∷ [])
bytes_more [] line = refl
bytes_more (first ∷ lines) line = ap (λ b. first.items ++ 10 ∷ b) (bytes_more lines line) ∙ sym (append_assoc first.items (10 ∷ lines_bytes lines) (line.items ++ 10 ∷ []))

-- the lines that were read so far
pub record LinesSoFar (script : ScriptLines) (lines : List (Vec ℕ)) : Type 0 where
  pub feeds : All (λ (line : Vec ℕ). HasNoFeed line.items) lines
  pub given : given script ≡ lines_bytes lines

-- the lines before the first one
pub no_lines : (script : ScriptLines) (lines : List (Vec ℕ)) → given script ≡ [] → lines ≡ [] → LinesSoFar script lines
no_lines script lines none empty = record {
  feeds = subst (All (λ (l : Vec ℕ). HasNoFeed l.items)) (sym empty) (λ k d lt. absurd (omega (arith, lt)));
  given = none ∙ ap lines_bytes (sym empty);
}

pub one_more : (script further : ScriptLines) (lines more : List (Vec ℕ)) (line : List ℕ) (added : Vec ℕ) → LinesSoFar script lines → GivesLine script further → line ≡ line_in_hand further → added.items ≡ line → more ≡ lines ++ added ∷ []
    → LinesSoFar further more
one_more script further lines more line added so_far gives is same all =
    let here : added.items ≡ line_in_hand further = same ∙ is in
    record {
      feeds = subst (All (λ (l : Vec ℕ). HasNoFeed l.items)) (sym all) (All-push (λ (l : Vec ℕ). HasNoFeed l.items) lines added so_far.feeds (subst HasNoFeed (sym here) gives.0));
      given = gives.1 ∙ ap (λ b. b ++ (line_in_hand further ++ 10 ∷ [])) so_far.given ∙ ap (λ b. lines_bytes lines ++ (b ++ 10 ∷ [])) (sym here) ∙ sym (bytes_more lines added) ∙ ap lines_bytes (sym all);
    }

-- the last line was read
pub all_lines : (known left : Option (List ℕ)) (script further : ScriptLines) (lines : List (Vec ℕ)) → LinesSoFar script lines → given further ≡ given script → IsGivenOut further → IsReadFrom known left further → AreLines known lines
all_lines known left script further lines so_far same out read = (so_far.feeds, subst (λ bytes. IfSome known (λ file. bytes ≡ file ++ 10 ∷ [])) (same ∙ so_far.given) (all_given known left further read out).0)

-- a file that was read isn't too large
pub all_few : (known left : Option (List ℕ)) (further : ScriptLines) → IsGivenOut further → IsReadFrom known left further → IfSome known (λ file. length file ≤ 1048576)
all_few known left further out read = (all_given known left further read out).2
