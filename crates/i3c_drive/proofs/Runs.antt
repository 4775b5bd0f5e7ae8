-- What the lines of a driven bus come to, one after another.
use Rattle.std.proofs.Common.{◌≡◌, ◌∙◌, ◌⊎◌, ◌<◌, ◌≤◌, ℕ, suc, ◌+◌, List, [], ◌∷◌, ◌++◌, drop, length, min, take, arith, Option, Some, IfSome, ap, inl, inr, refl, subst, sym}
use Rattle.std.proofs.lemmas.Bool.{cases_lt}
use Rattle.std.proofs.lemmas.List.{length-take, take_all}
use Rattle.i3c_base.specs.declared.requests.Record.{Record}
use Rattle.i3c_drive.specs.declared.driver.Driver.{Driver}
use Rattle.i3c_drive.specs.Answers.{AreAnswered, Asks, DrivenDoes, DrivenRun, IsAnswered, IsChange, IsDriven, IsDrivenPart, IsNews, IsWritten, LineComesTo, StandFor, StandsFor, driven_refused, forgotten_of, lines_of, log_of}
use Rattle.i3c_drive.specs.Serving.{AreLinesOf, AreServed, ServesPart, ServesWhole, bytes_of_lines}
use Rattle.i3c_drive.specs.Steps.{AnswersSo, Closes, Knows, state}
use Rattle.i3c_lines.specs.Capitals.{in_capitals}
use Rattle.i3c_lines.specs.declared.refusals.Refusal.{Refusal}
use Rattle.i3c_lines.proofs.CapitalLaws.{capitals_have_no_feed, capitals_length, long_capitals}
use Rattle.i3c_streams.specs.declared.faults.ScriptFault.{ScriptFault}
use Rattle.i3c_streams.specs.declared.form.Form.{Form}
use Rattle.i3c_streams.specs.declared.tally.Tally.{Tally}
use Rattle.i3c_streams.specs.Outcomes.{HasNoFeed}
use Rattle.i3c_runner.specs.Scripts.{Lead, LineDoes, LineRun, refusals_of}
use Rattle.i3c_script.specs.declared.piece.Piece.{Piece}
use Rattle.i3c_script.specs.Obeying.{IsBegun, ScriptState}
use Rattle.i3c_script.specs.Printed.{pieces_text}

-- the line that one stands for has no line feed either
one_line : (line written : List ℕ) → StandsFor line written → HasNoFeed line → HasNoFeed written
one_line line written (inl (form, same)) one = subst HasNoFeed (sym same) one
one_line line written (inr (formless, same)) one = subst HasNoFeed (sym same) (capitals_have_no_feed line one)

-- what a line comes to is printed in a script
prints_so : (old : ScriptState) (line : List ℕ) (pieces : List Piece) (refused : Option Refusal) (new : ScriptState) → LineComesTo old line pieces refused new → LineDoes old line (pieces_text pieces) refused new
prints_so old line pieces refused new (inl is) = inl (is.0, ap pieces_text is.1, is.2, is.3)
prints_so old line pieces refused new (inr (inl is)) = inr (inl (is.0, ap pieces_text is.1, is.2, is.3))
prints_so old line pieces refused new (inr (inr is)) = inr (inr (is.0, is.1, (pieces, is.2, refl)))

-- Lines that are answered lead on, as the lines that they stand for
pub answered_lead : (form : Form) (number : ℕ) (old : ScriptState) (lines : List DrivenRun) (new : ScriptState) (answers : List ℕ) → AreAnswered form number old lines new answers → (script : List LineRun) × StandFor lines script × Lead old script new
answered_lead form number old [] new answers (same, none) = ([], refl, same)
answered_lead form number old (run ∷ rest) new answers (mid, is, (answer, later, one, text, are)) =
    let (script, stand, lead) = answered_lead form (suc number) mid rest new later are in
    let (written, stands, does) = is.does in
    let first : LineRun = record { line = written; said = pieces_text run.pieces; refused = run.refused } in
    (first ∷ script, (first, script, refl, stands, refl, refl, stand), (mid, record { one = one_line run.line written stands is.one; does = prints_so old written run.pieces run.refused mid does }, lead))

-- a line that is too long is refused, whatever it says
long_does : (old : ScriptState) (line : List ℕ) (pieces : List Piece) (refused : Option Refusal) (new : ScriptState) → 256 < length line → LineComesTo old line pieces refused new → (pieces ≡ []) × (refused ≡ Some Refusal.BadLine) × (new ≡ old)
long_does old line pieces refused new long (inl is) = (is.1, is.2, is.3)
long_does old line pieces refused new long (inr (inl is)) = absurd (omega (arith, long, is.0.0))
long_does old line pieces refused new long (inr (inr is)) = absurd (omega (arith, long, is.1.0))

-- what stands for a line that is too long is too long
long_stands : (line written : List ℕ) → 256 < length line → StandsFor line written → 256 < length written
long_stands line written long (inl (form, same)) = absurd (form (inl long))
long_stands line written long (inr (formless, same)) = omega (arith, long, ap length same, capitals_length line)

-- a driven line does what it does by its first bytes
driven_whole : (old : ScriptState) (line : List ℕ) (pieces : List Piece) (refused : Option Refusal) (new : ScriptState) → DrivenDoes old (take 257 line) pieces refused new → DrivenDoes old line pieces refused new
driven_whole old line pieces refused new (written, stands, does) = if_short (cases_lt 256 (length (take 257 line))) where
  if_short : (256 < length (take 257 line)) ⊎ (length (take 257 line) ≤ 256) → DrivenDoes old line pieces refused new
  if_short (inl long) =
      let whole : 256 < length line = omega (arith, long, length-take 257 line) in
      let is = long_does old written pieces refused new (long_stands (take 257 line) written long stands) does in
      (in_capitals line, inr (inl whole, refl), inl (long_capitals line whole, is.0, is.1, is.2))
  if_short (inr short) =
      let same : take 257 line ≡ line = take_all 257 line (omega (arith, short, length-take 257 line)) in
      subst (λ l. DrivenDoes old l pieces refused new) same (written, stands, does)

-- a line that was run, as it is answered
pub line_answered : (number : ℕ) (line : List ℕ) (pieces : List Piece) (refused : Option Refusal) (log : List Record) (from mid to : Driver) (answer : List ℕ)
    → DrivenDoes (state from) line pieces refused (state mid) → state to ≡ state mid → log ≡ log_of (state from) → mid.form ≡ from.form → to.form ≡ mid.form → mid.asked ≡ from.asked → Closes number (length log) pieces refused mid to answer
    → to.refused ≡ min (from.refused + refusals_of refused) 18446744073709551615 → AnswersSo from number line answer to
line_answered number line pieces refused log from mid to answer does same logged form closed kept closes count knows =
    let before = log_of (state from) in
    let asks = subst (λ st. Asks st to.asked.items) (sym same) closes.asks in
    let change : IsChange (state from) (state to) closes.news =
    record { before = from.asked.items; after = to.asked.items; asked = knows; asks = asks; is = subst (λ b. IsNews b to.asked.items closes.news) (ap (λ a. a.items) kept) closes.is } in
    let told = subst (λ l. IsWritten mid.form number pieces (forgotten_of (state mid) + length l) (drop (length l) (log_of (state mid))) closes.news refused answer) logged closes.told in
    let here = subst (λ st. IsWritten mid.form number pieces (forgotten_of st + length before) (drop (length before) (log_of st)) closes.news refused answer) (sym same) told in
    record {
      pieces = pieces;
      refused = refused;
      does = subst (DrivenDoes (state from) line pieces refused) (sym same) does;
      text = (closes.news, change, subst (λ f. IsWritten f number pieces (forgotten_of (state to) + length before) (drop (length before) (log_of (state to))) closes.news refused answer) form here);
      knows = asks;
      form = closed ∙ form;
      count = count;
    }

-- lines that a driver answered were run in its form
record AreRun (form : Form) (number : ℕ) (old : Driver) (lines : List (List ℕ)) (new : Driver) (answers : List ℕ) : Type 0 where
  runs : List DrivenRun
  same : lines_of runs ≡ lines
  answered : AreAnswered form number (state old) runs (state new) answers
  count : new.refused ≡ min (old.refused + driven_refused runs) 18446744073709551615

lines_run : (form : Form) (number : ℕ) (old : Driver) (lines : List (List ℕ)) (new : Driver) (text : List ℕ) → old.form ≡ form → Knows old → old.refused ≤ 18446744073709551615 → AreServed AnswersSo number old lines new text → AreRun form number old lines new text
lines_run form number old [] new text own knows few (same, none) = record { runs = []; same = refl; answered = (ap state same, none); count = omega (arith, ap (λ driver. driver.refused) same, few) }
lines_run form number old (line ∷ rest) new text own knows few (one, (mid, answer, later, answers, told, are)) =
    let is = answers knows in
    let run : DrivenRun = record { line = line; pieces = is.pieces; refused = is.refused } in
    let more = lines_run form (suc number) mid rest new later (is.form ∙ own) is.knows (omega (arith, is.count)) are in
    record {
      runs = run ∷ more.runs;
      same = ap (λ lines. line ∷ lines) more.same;
      answered = (
        state mid,
        record { one = one; does = driven_whole (state old) line is.pieces is.refused (state mid) is.does },
        (answer, later, subst (λ f. IsAnswered f number (state old) run (state mid) answer) own is.text, told, more.answered),
      );
      count = omega (arith, is.count, more.count);
    }

module _ (form : Form) (known before after : Option (List ℕ)) (old new : Driver) (begun : IsBegun (state old)) (own : old.form ≡ form) (knows : Knows old) (none : old.refused ≡ 0) where
  -- each line was driven
  pub driven_all : (tally : Tally) → tally.refused ≡ new.refused → ServesWhole AnswersSo known before after old new → IsDriven form known before after tally
  driven_all tally same served =
      let run = lines_run form 1 old served.lines new served.text own knows (omega (arith, none)) served.served in
      record {
        lines = run.runs;
        start = state old;
        end = state new;
        answers = served.text;
        begun = begun;
        answered = run.answered;
        all = subst (λ lines. IfSome known (λ input. AreLinesOf input lines)) (sym run.same) served.all;
        out = served.out;
        counted = omega (arith, same, run.count, none);
      }

  -- the first lines were driven
  pub driven_part : (fault : ScriptFault) → ServesPart AnswersSo known before after old fault → IsDrivenPart form known before after fault
  driven_part fault served =
      let run = lines_run form 1 old served.lines served.end served.text own knows (omega (arith, none)) served.served in
      record {
        lines = run.runs;
        start = state old;
        end = state served.end;
        answers = served.text;
        rest = served.rest;
        begun = begun;
        answered = run.answered;
        first = subst (λ lines. IfSome known (λ input. bytes_of_lines lines ++ served.rest ≡ input ++ 10 ∷ [])) (sym run.same) served.first;
        out = served.out;
      }
