-- A file has one plan at most.
use Rattle.std.proofs.Common.{◌≡◌, ◌∙◌, ℕ, ◌+◌, List, [], ◌∷◌, Ok, ap, arith, inl, inr, refl, subst, sym}
use Rattle.std.proofs.lemmas.Bool.Decides.{leb_tells}
use Rattle.std.specs.Global.{Vec}
use Rattle.i3c_base.specs.declared.device.Setup.{Setup}
use Rattle.i3c_base.specs.State.{Board, IsPick, IsStart, State, addressed, no_board, unaddressed}
use Rattle.i3c_facts.proofs.MarkLaws.{marks_apart}
use Rattle.i3c_facts.proofs.Meaning.{one_mark}
use Rattle.i3c_lines.specs.declared.command.Command.{Command}
use Rattle.i3c_lines.specs.Forms.{HasNoForm, IsCommand, IsSkipped, tokens_of}
use Rattle.i3c_lines.proofs.Beginnings.{skipped_is_none}
use Rattle.i3c_lines.proofs.Meanings.{meant_is}
use Rattle.i3c_scene.specs.Scenes.{Seen, seen}
use Rattle.i3c_tracks.specs.declared.file_line.FileLine.{FileLine}
use Rattle.i3c_tracks.specs.Laws.{FilesHaveOnePlan}
use Rattle.i3c_tracks.specs.Planning.{AreSaid, IsStartOf, Outline, outline}
use Rattle.i3c_tracks.specs.Saying.{IsFileLine}

pub one_command : (line : List ℕ) (one other : Command) → IsCommand line one → IsCommand line other → one ≡ other
one_command line one other first second = sym (meant_is (tokens_of line) one first.1) ∙ meant_is (tokens_of line) other second.1

-- a line without a form isn't passed over, and no command
not_skipped : (line : List ℕ) → HasNoForm line → IsSkipped line → ⊥
not_skipped line (inl long) skipped = omega (arith, long, skipped.0)
not_skipped line (inr (none, others)) skipped = none skipped

pub no_command : (line : List ℕ) (command : Command) → HasNoForm line → IsCommand line command → ⊥
no_command line command (inl long) is = omega (arith, long, is.0)
no_command line command (inr (none, others)) is = others command is

-- a line says one thing
one_said : (line : List ℕ) (one other : FileLine) → IsFileLine line one → IsFileLine line other → one ≡ other
one_said line FileLine.Nothing FileLine.Nothing a b = refl
one_said line FileLine.Nothing (FileLine.Does command) a b = absurd (skipped_is_none line command a.1 b.1)
one_said line FileLine.Nothing (FileLine.Marks mark) a b = absurd ((marks_apart line mark b).1 a)
one_said line FileLine.Nothing FileLine.Formless a b = absurd (not_skipped line b.0 a)
one_said line (FileLine.Does command) FileLine.Nothing a b = absurd (skipped_is_none line command b.1 a.1)
one_said line (FileLine.Does command) (FileLine.Does other) a b = ap FileLine.Does (one_command line command other a b)
one_said line (FileLine.Does command) (FileLine.Marks mark) a b = absurd ((marks_apart line mark b).0 command a)
one_said line (FileLine.Does command) FileLine.Formless a b = absurd (no_command line command b.0 a)
one_said line (FileLine.Marks mark) FileLine.Nothing a b = absurd ((marks_apart line mark a).1 b)
one_said line (FileLine.Marks mark) (FileLine.Does command) a b = absurd ((marks_apart line mark a).0 command b)
one_said line (FileLine.Marks mark) (FileLine.Marks other) a b = ap FileLine.Marks (one_mark line mark other a b)
one_said line (FileLine.Marks mark) FileLine.Formless a b = absurd (b.1 mark a)
one_said line FileLine.Formless FileLine.Nothing a b = absurd (not_skipped line a.0 b)
one_said line FileLine.Formless (FileLine.Does command) a b = absurd (no_command line command a.0 b)
one_said line FileLine.Formless (FileLine.Marks mark) a b = absurd (a.1 mark b)
one_said line FileLine.Formless FileLine.Formless a b = refl

all_said : (number : ℕ) (lines : List (Vec ℕ)) (one other : List (ℕ × FileLine)) → AreSaid number lines one → AreSaid number lines other → one ≡ other
all_said number [] [] [] a b = refl
all_said number [] [] (said ∷ other) a b = absurd b
all_said number [] (said ∷ one) other a b = absurd a
all_said number (line ∷ lines) [] other a b = absurd a
all_said number (line ∷ lines) (said ∷ one) [] a b = absurd b
all_said number (line ∷ lines) ((at, said) ∷ one) ((too, more) ∷ other) a b =
    let here : at ≡ too = a.0 ∙ sym b.0 in
    let says : said ≡ more = one_said line.items said more a.1 b.1 in
    let rest : one ≡ other = all_said (number + 1) lines one other a.2 b.2 in
    cc

-- one address is the least that may be picked
one_pick : (st : State) (a b : ℕ) → IsPick st a → IsPick st b → a ≡ b
one_pick st a b first second =
    elim (leb_tells (a + 1) b) [
      | inl (_, lt) ↦ absurd (second.1 a (omega (arith, lt)) first.0)
      | inr (_, le) ↦ elim (leb_tells (b + 1) a) [
        | inl (_, lt) ↦ absurd (first.1 b (omega (arith, lt)) second.0)
        | inr (_, ge) ↦ omega (arith, le, ge)
      ]
    ]

one_start : (main : Setup) (board : Board) (one other : State) → IsStart main board one → IsStart main board other → one ≡ other
one_start main board one other (a, pick, is, all) (b, picked, same, every) =
    is ∙ ap (λ (n : ℕ). addressed 0 n main.identity (unaddressed main board)) (one_pick (unaddressed main board) a b pick picked) ∙ sym same

begun_once : (out : Outline) (one other : Seen) → IsStartOf out one → IsStartOf out other → one ≡ other
begun_once out one other a b =
    let state : one.state ≡ other.state = one_start out.main out.board one.state other.state a.state b.state in
    let settings : one.settings ≡ other.settings = a.settings ∙ sym b.settings in
    let cuts : one.cuts ≡ other.cuts = a.cuts ∙ sym b.cuts in
    let names : one.names ≡ other.names = a.names ∙ sym b.names in
    ap (λ (s : State). seen s one.settings one.cuts one.names) state ∙ ap (λ p. seen other.state p one.cuts one.names) settings ∙ ap (λ c. seen other.state other.settings c one.names) cuts ∙ ap (λ n. seen other.state other.settings other.cuts n) names

pub one_plan : FilesHaveOnePlan
one_plan lines one other first second =
    let said : first.said ≡ second.said = all_said 1 lines first.said second.said first.are second.are in
    let out : first.outlined ≡ second.outlined = let same : Ok first.outlined ≡ Ok second.outlined = sym first.is ∙ ap (outline no_board [] [] []) said ∙ second.is in cc in
    record {
      start = begun_once first.outlined one.start other.start first.of.start (subst (λ (o : Outline). IsStartOf o other.start) (sym out) second.of.start);
      before = first.of.before ∙ ap (λ (o : Outline). o.before) out ∙ sym second.of.before;
      refused = first.of.refused ∙ ap (λ (o : Outline). o.refused) out ∙ sym second.of.refused;
      blocks = first.of.blocks ∙ ap (λ (o : Outline). o.blocks) out ∙ sym second.of.blocks;
      opened = first.of.opened ∙ ap (λ (o : Outline). o.opened) out ∙ sym second.of.opened;
      rules = first.of.rules ∙ ap (λ (o : Outline). o.rules) out ∙ sym second.of.rules;
      risky = first.of.risky ∙ ap (λ (o : Outline). o.risky) out ∙ sym second.of.risky;
    }
