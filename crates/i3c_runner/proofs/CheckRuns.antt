-- The check of a script, line by line.
use Rattle.std.proofs.Common.{◌≡◌, ◌∙◌, ℕ, ◌+◌, List, [], ◌∷◌, ◌++◌, length, min, arith, Option, Some, None, IfSome, ap, append_assoc, append-nil, refl, subst, sym}
use Rattle.std.proofs.lemmas.List.{take_all}
use Rattle.std.specs.Fmt.{decimal}
use Rattle.std.specs.Io.KnownBytes.{Appends}
use Rattle.i3c_lines.specs.declared.names.Names.{Names}
use Rattle.i3c_streams.specs.declared.script_lines.ScriptLines.{ScriptLines}
use Rattle.i3c_runner.specs.Checks.{Checked, ChecksPart, ChecksWhole, LineCheck, LineChecked, checks_bytes, checks_out, checks_told, told_line, tells}
use Rattle.i3c_streams.specs.Lines.{GivesLine, IsGivenOut, IsReadFrom, given, line_in_hand}
use Rattle.i3c_streams.specs.Outcomes.{AppendsSome, HasNoFeed}
use Rattle.i3c_streams.proofs.BytesRead.{none_read, script_is, unread}
use Rattle.i3c_runner.proofs.Gathered.{some_after}
use Rattle.i3c_streams.proofs.LinesRead.{all_given, first_given}
use Rattle.i3c_streams.proofs.Written.{appends_both}

abbrev of : List ℕ → List ℕ → LineCheck
of line told = record { line = line; told = told }

-- one more line was checked
checked_more : (lines : List LineCheck) (from mid to : Names) (number at : ℕ) (line told : List ℕ) → Checked from number lines mid → HasNoFeed line → LineChecked mid at line told to → at ≡ number + length lines
    → Checked from number (lines ++ of line told ∷ []) to
checked_more [] from mid to number at line told same one does e =
    let first : at ≡ number = omega (arith, e) in (to, one, subst (λ n. LineChecked from n line told to) first (subst (λ m. LineChecked m at line told to) same does), refl)
checked_more (check ∷ lines) from mid to number at line told (next, feed, is, rest) one does e =
    (next, feed, is, checked_more lines next mid to (number + 1) at line told rest one does (omega (arith, e)))

bytes_more : (lines : List LineCheck) (line told : List ℕ) → checks_bytes (lines ++ of line told ∷ []) ≡ checks_bytes lines ++ (line ++ 10 ∷ [])
bytes_more [] line told = refl
bytes_more (check ∷ lines) line told = ap (λ b. check.line ++ 10 ∷ b) (bytes_more lines line told) ∙ sym (append_assoc check.line (10 ∷ checks_bytes lines) (line ++ 10 ∷ []))

out_more : (lines : List LineCheck) (line told : List ℕ) → checks_out (lines ++ of line told ∷ []) ≡ checks_out lines ++ told
out_more [] line told = append-nil told
out_more (check ∷ lines) line told = ap (λ b. check.told ++ b) (out_more lines line told) ∙ sym (append_assoc check.told (checks_out lines) told)

told_more : (lines : List LineCheck) (line told : List ℕ) → checks_told (lines ++ of line told ∷ []) ≡ checks_told lines + tells told
told_more [] line told = omega arith
told_more (check ∷ lines) line told = omega (arith, told_more lines line told)

length_more : (lines : List LineCheck) (check : LineCheck) → length (lines ++ check ∷ []) ≡ length lines + 1
length_more [] check = omega arith
length_more (c ∷ lines) check = omega (arith, length_more lines check)

-- the lines that were checked so far, and the number of the next one
pub record CheckedSoFar (known now old new : Option (List ℕ)) (reader : ScriptLines) (from to : Names) (before after at : ℕ) : Type 0 where
  pub lines : List LineCheck
  pub checked : Checked from 1 lines to
  pub number : at ≡ 1 + length lines
  pub bytes : given reader ≡ checks_bytes lines
  pub out : Appends old new (checks_out lines)
  pub counted : min after 18446744073709551615 ≡ min (before + checks_told lines) 18446744073709551615
  pub read : IsReadFrom known now reader

pub nothing_out : (old : Option (List ℕ)) → Appends old old []
nothing_out None = tt
nothing_out (Some xs) = sym (append-nil xs)

-- one more line was checked, and what is told of it went out
pub one_checked : (known now next old mid new : Option (List ℕ)) (reader further : ScriptLines) (from c1 c2 : Names) (before n1 n2 number : ℕ) (told : List ℕ)
    → CheckedSoFar known now old mid reader from c1 before n1 number → GivesLine reader further → IsReadFrom known next further
    → LineChecked c1 number (line_in_hand further) told c2 → min n2 18446744073709551615 ≡ min (n1 + tells told) 18446744073709551615 → Appends mid new told
    → CheckedSoFar known next old new further from c2 before n2 (number + 1)
one_checked known now next old mid new reader further from c1 c2 before n1 n2 number told so_far gives read does count out =
    let lines = so_far.lines in
    let line = line_in_hand further in
    let more = of line told in
    record {
      lines = lines ++ more ∷ [];
      checked = checked_more lines from c1 c2 1 number line told so_far.checked gives.0 does so_far.number;
      number = omega (arith, so_far.number, length_more lines more);
      bytes = gives.1 ∙ ap (λ b. b ++ (line ++ 10 ∷ [])) so_far.bytes ∙ sym (bytes_more lines line told);
      out = subst (Appends old new) (sym (out_more lines line told)) (appends_both old mid new (checks_out lines) told so_far.out out);
      counted = omega (arith, so_far.counted, count, told_more lines line told);
      read = read;
    }

-- the last line was checked
pub all_checked : (known now next old new : Option (List ℕ)) (reader further : ScriptLines) (from to : Names) (before after number : ℕ) → CheckedSoFar known now old new reader from to before after number
    → given further ≡ given reader → IsGivenOut further → IsReadFrom known next further → ChecksWhole known old new from to before after
all_checked known now next old new reader further from to before after number so_far same end read = record {
  lines = so_far.lines;
  checked = so_far.checked;
  all = subst (λ bytes. IfSome known (λ script. bytes ≡ script ++ 10 ∷ [])) (same ∙ so_far.bytes) (all_given known next further read end).0;
  out = so_far.out;
  counted = so_far.counted;
}

pub some_out : (old new : Option (List ℕ)) (text : List ℕ) → Appends old new text → AppendsSome old new text
some_out old new text out = (length text, omega arith, subst (Appends old new) (sym (take_all (length text) text (omega arith))) out)

-- a fault before the next line
pub checks_stop : (known now old new : Option (List ℕ)) (reader : ScriptLines) (from to : Names) (before after number : ℕ) → CheckedSoFar known now old new reader from to before after number → ChecksPart known old new from
checks_stop known now old new reader from to before after number so_far =
    let first = first_given known now reader so_far.read in
    record {
      lines = so_far.lines;
      to = to;
      rest = first.0;
      checked = so_far.checked;
      first = subst (λ bytes. IfSome known (λ script. bytes ++ first.0 ≡ script ++ 10 ∷ [])) so_far.bytes first.1;
      out = some_out old new (checks_out so_far.lines) so_far.out;
    }

-- a fault of the writer
pub checks_lost : (known now next old mid new : Option (List ℕ)) (reader further : ScriptLines) (from c1 c2 : Names) (before n1 number : ℕ) (told : List ℕ)
    → CheckedSoFar known now old mid reader from c1 before n1 number → GivesLine reader further → IsReadFrom known next further
    → LineChecked c1 number (line_in_hand further) told c2 → AppendsSome mid new told → ChecksPart known old new from
checks_lost known now next old mid new reader further from c1 c2 before n1 number told so_far gives read does out =
    let lines = so_far.lines in
    let line = line_in_hand further in
    let more = of line told in
    let first = first_given known next further read in
    let bytes : given further ≡ checks_bytes (lines ++ more ∷ []) = gives.1 ∙ ap (λ b. b ++ (line ++ 10 ∷ [])) so_far.bytes ∙ sym (bytes_more lines line told) in
    record {
      lines = lines ++ more ∷ [];
      to = c2;
      rest = first.0;
      checked = checked_more lines from c1 c2 1 number line told so_far.checked gives.0 does so_far.number;
      first = subst (λ bytes. IfSome known (λ script. bytes ++ first.0 ≡ script ++ 10 ∷ [])) bytes first.1;
      out = subst (AppendsSome old new) (sym (out_more lines line told)) (some_after old mid new (checks_out lines) told so_far.out out);
    }

tells_some : (xs : List ℕ) (y : ℕ) (ys : List ℕ) → tells (xs ++ y ∷ ys) ≡ 1
tells_some [] y ys = refl
tells_some (x ∷ xs) y ys = refl

-- a line that is told counts
pub told_counts : (number : ℕ) (reason told : List ℕ) → told ≡ told_line number reason → tells told ≡ 1
told_counts number reason told e = ap tells e ∙ tells_some (decimal number) 58 (32 ∷ (reason ++ 10 ∷ []))

-- no line was checked
pub no_checks : (known old : Option (List ℕ)) (start : Names) → ChecksPart known old old start
no_checks known old start =
    record { lines = []; to = start; rest = unread known ++ 10 ∷ []; checked = refl; first = script_is known known [] [] [] (none_read known [] refl) refl; out = some_out old old [] (nothing_out old) }
