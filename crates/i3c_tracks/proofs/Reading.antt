-- Each line that is read leaves the outline of the whole file as it is.
use Rattle.std.proofs.Common.{◌≡◌, ◌<◌, ◌≤◌, ◌∙◌, ℕ, ◌+◌, Result, Ok, Err, append-nil, append_assoc, get_or, length, List, [], ◌∷◌, ◌++◌, map, Bool, Option, Some, None, true, false, ◌||◌, ap, refl, subst, sym, take}
use Rattle.std.specs.Global.{Vec}
use Rattle.std.proofs.lemmas.List.{take_all, take_more}
use Rattle.std.specs.Option.{is_some, option_map}
use Rattle.std.specs.Prelude.{MatchResult}
use Rattle.std.specs.Result.{OnOk}
use Rattle.i3c_base.specs.declared.device.Setup.{Setup}
use Rattle.i3c_base.specs.Numbers.{is_capable}
use Rattle.i3c_base.specs.State.{Board, no_board}
use Rattle.i3c_facts.specs.declared.marks.Mark.{Mark}
use Rattle.i3c_lines.specs.declared.command.Command.{Command}
use Rattle.i3c_lines.specs.declared.names.Name.{Name}
use Rattle.i3c_lines.specs.declared.names.Place.{Place}
use Rattle.i3c_scene.specs.declared.line.Expectation.{Expectation}
use Rattle.i3c_scene.specs.declared.line.Line.{Line}
use Rattle.i3c_scene.specs.declared.named.Named.{Named}
use Rattle.i3c_scene.specs.declared.risk.Risk.{Risk}
use Rattle.i3c_scene.specs.declared.rules.Rules.{Rules}
use Rattle.i3c_scene.specs.Scenes.{place_in}
use Rattle.i3c_scene.specs.Scenes.{Seen}
use Rattle.i3c_tracks.specs.declared.body.Body.{Body}
use Rattle.i3c_tracks.specs.declared.draft.Draft.{Draft}
use Rattle.i3c_tracks.specs.declared.front.Front.{Front}
use Rattle.i3c_tracks.specs.declared.open_block.OpenBlock.{OpenBlock}
use Rattle.i3c_tracks.specs.declared.file_line.FileLine.{FileLine}
use Rattle.i3c_tracks.specs.declared.refusal.Reason.{Reason}
use Rattle.i3c_tracks.specs.declared.refusal.Refusal.{Refusal}
use Rattle.i3c_tracks.specs.declared.plan.Plan.{Plan}
use Rattle.i3c_tracks.specs.declared.plan.PlanFault.{PlanFault}
use Rattle.i3c_tracks.specs.Taking.{IsTakenNot}
use Rattle.i3c_tracks.specs.Drafting.{Begins, Declares, IsBegunBy, IsEndFault, IsUnread, Open, Reads, Settles, asked, ReadsOn, all_rules, all_tracks, comes, comes_on, comes_to, has_command_of, held_before, here_of, inside_of, left, open_of, opened_left, opens, refusal_left, refuses, refuses_on, risk_with, risks, rules_here, rules_left}
use Rattle.i3c_tracks.specs.Planning.{AreSaid, BlockRules, HasNoPlan, IsPlan, IsPlanOf, IsStartOf, Outline, Step, any_at_risk, blocks_in, blocks_of, expected, lines_to, made, named, opened_in, outline, place, rules_in, rules_of, step_of, steps_in, steps_of, tracks_in, tracks_of, unless, unopened}
use Rattle.i3c_tracks.specs.Refusing.{Here, Inside, at_line, behind, first_refusal, one_line, one_track, or_later, outside, refuses_before, refuses_here}

-- a line behind the bus that isn't refused leaves the refusal to later ones
passed : (here : Here) (line : ℕ × FileLine) (rest : List (ℕ × FileLine)) → refuses_here here line.1 ≡ None → first_refusal (behind here line.1) rest ≡ first_refusal here (line ∷ rest)
passed here (number, said) rest taken = ap (λ (r : Option Reason). or_later number r (first_refusal (behind here said) rest)) (sym taken)

-- a line behind the bus
pub read_behind : (old new : Draft) (body later : Body) (line : ℕ × FileLine) → old.body ≡ Some body → new.body ≡ Some later → new.before ≡ old.before → new.front ≡ old.front → refuses old line.1 ≡ None → ReadsOn body line later → Reads old line new
read_behind old new body later line was is same fronts taken on first begun =
    let starts = subst (λ b. IsBegunBy b first) was begun in
    let before : List ℕ = old.before.items in
    let refused : List ℕ = old.front.refused.items in
    let free : refuses_on (Some body) line.1 ≡ None = subst (λ (b : Option Body). refuses_on b line.1 ≡ None) was taken in (
      first,
      subst (λ b. IsBegunBy b first) (sym is) (starts.0, starts.1, subst (IsStartOf starts.0) (sym on.start) starts.2),
      λ rest. ap (λ b. comes_on b new.front new.before.items first rest) is
          ∙ ap (λ (v : Vec ℕ). asked (refusal_left later rest) first v.items new.front.refused.items (comes_to later rest) (opens later rest) (all_rules later rest) (risks later rest)) same
          ∙ ap (λ (f : Front). asked (refusal_left later rest) first before f.refused.items (comes_to later rest) (opens later rest) (all_rules later rest) (risks later rest)) fronts
          ∙ ap (λ (h : Here). asked (first_refusal h rest) first before refused (comes_to later rest) (opens later rest) (all_rules later rest) (risks later rest)) on.here
          ∙ ap (λ (r : Option Refusal). asked r first before refused (comes_to later rest) (opens later rest) (all_rules later rest) (risks later rest)) (passed (here_of body) line rest free)
          ∙ ap (λ (bs : List (List (List Step))). asked (refusal_left body (line ∷ rest)) first before refused bs (opens later rest) (all_rules later rest) (risks later rest)) (on.blocks rest)
          ∙ ap (λ (os : List Bool). asked (refusal_left body (line ∷ rest)) first before refused (comes_to body (line ∷ rest)) os (all_rules later rest) (risks later rest)) (on.opened rest)
          ∙ ap (λ (rs : List BlockRules). asked (refusal_left body (line ∷ rest)) first before refused (comes_to body (line ∷ rest)) (opens body (line ∷ rest)) rs (risks later rest)) (on.rules rest)
          ∙ ap (λ (r : Bool). asked (refusal_left body (line ∷ rest)) first before refused (comes_to body (line ∷ rest)) (opens body (line ∷ rest)) (all_rules body (line ∷ rest)) r) (on.risky rest)
          ∙ ap (λ b. comes_on b old.front before first (line ∷ rest)) (sym was),
    )

-- behind a bus that was made the lines that are left are its own
asked_made : (out : Outline) (before refused : List ℕ) (refusal : Option Refusal) (blocks : List (List (List Step))) (opened : List Bool) (rules : List BlockRules) (risky : Bool)
    → asked refusal (Some out) before refused blocks opened rules risky ≡ unless refusal (record out { before = before; refused = refused; blocks = blocks; opened = opened; rules = rules; risky = risky })
asked_made out before refused None blocks opened rules risky = refl
asked_made out before refused (Some refusal) blocks opened rules risky = refl

-- a line that makes the bus
pub read_begun : (old new : Draft) (number : ℕ) (command : Command) (body : Body) → old.body ≡ None → new.body ≡ Some body → new.before.items ≡ old.before.items ++ number ∷ [] → Begins old.front number command new.front body.start
    → IsUnread body → Reads old (number, FileLine.Does command) new
read_begun old new number command body was is counted begins none first begun =
    let out : Option Outline = Some begins.0 in
    let before : List ℕ = old.before.items ++ number ∷ [] in
    let refused : List ℕ = new.front.refused.items in (
      out,
      subst (λ b. IsBegunBy b out) (sym is) (begins.0, refl, begins.1),
      λ rest. ap (λ b. comes_on b new.front new.before.items out rest) is
          ∙ ap (λ (ns : List ℕ). asked (refusal_left body rest) out ns refused (comes_to body rest) (opens body rest) (all_rules body rest) (risks body rest)) counted
          ∙ ap (λ (h : Here). asked (first_refusal h rest) out before refused (comes_to body rest) (opens body rest) (all_rules body rest) (risks body rest)) none.here
          ∙ ap (λ (bs : List (List (List Step))). asked (first_refusal outside rest) out before refused bs (opens body rest) (all_rules body rest) (risks body rest)) (none.blocks rest)
          ∙ ap (λ (os : List Bool). asked (first_refusal outside rest) out before refused (place (expected rest) ++ blocks_in false rest) os (all_rules body rest) (risks body rest)) (none.opened rest)
          ∙ ap (λ (rs : List BlockRules). asked (first_refusal outside rest) out before refused (place (expected rest) ++ blocks_in false rest) (unopened (place (expected rest)) ++ opened_in false rest) rs (risks body rest)) (none.rules rest)
          ∙ ap (λ (r : Bool). asked (first_refusal outside rest) out before refused (place (expected rest) ++ blocks_in false rest) (unopened (place (expected rest)) ++ opened_in false rest) (rules_in false rest) r) (none.risky rest)
          ∙ asked_made begins.0 before refused (first_refusal outside rest) (place (expected rest) ++ blocks_in false rest) (unopened (place (expected rest)) ++ opened_in false rest) (rules_in false rest) (any_at_risk rest)
          ∙ sym (begins.2 old.before.items rest)
          ∙ ap (λ b. comes_on b old.front old.before.items first ((number, FileLine.Does command) ∷ rest)) (sym was),
    )

-- a line before the bus, which makes none
pub read_declared : (old new : Draft) (number : ℕ) (command : Command) → old.body ≡ None → new.body ≡ None → new.before.items ≡ old.before.items ++ number ∷ [] → Declares old.front number command new.front
    → Reads old (number, FileLine.Does command) new
read_declared old new number command was is counted declares first begun = (
  first,
  subst (λ b. IsBegunBy b first) (sym is) tt,
  λ rest. ap (λ b. comes_on b new.front new.before.items first rest) is ∙ ap (λ (ns : List ℕ). outline new.front.legacies new.front.names.items ns new.front.refused.items rest) counted
      ∙ sym (declares old.before.items rest) ∙ ap (λ b. comes_on b old.front old.before.items first ((number, FileLine.Does command) ∷ rest)) (sym was),
)

-- a line before the bus that is refused
before_refused : (board : Board) (names : List Named) (before refused : List ℕ) (number : ℕ) (said : FileLine) (reason : Reason) (rest : List (ℕ × FileLine)) → refuses_before said ≡ Some reason
    → outline board names before refused ((number, said) ∷ rest) ≡ Err (at_line number reason)
before_refused board names before refused number FileLine.Nothing reason rest e = absurd cc
before_refused board names before refused number (FileLine.Does command) reason rest e = absurd cc
before_refused board names before refused number FileLine.Formless reason rest e = let same : Reason.BadLine ≡ reason = cc in ap (λ (r : Reason). Err (at_line number r)) same
before_refused board names before refused number (FileLine.Marks mark) reason rest e = let same : Reason.NoBus ≡ reason = cc in ap (λ (r : Reason). Err (at_line number r)) same

-- a line that is refused: so is the file, whatever comes behind it
refused_comes : (draft : Draft) (first : Option Outline) (number : ℕ) (said : FileLine) (reason : Reason) (rest : List (ℕ × FileLine)) → refuses draft said ≡ Some reason
    → comes draft first ((number, said) ∷ rest) ≡ Err (at_line number reason)
refused_comes draft first number said reason rest e = go draft.body e
  where
    go : (body : Option Body) → refuses_on body said ≡ Some reason → comes_on body draft.front draft.before.items first ((number, said) ∷ rest) ≡ Err (at_line number reason)
    go None e = before_refused draft.front.legacies draft.front.names.items draft.before.items draft.front.refused.items number said reason rest e
    go (Some body) e =
        let line : ℕ × FileLine = (number, said) in
        ap (λ (r : Option Reason). asked (or_later number r (first_refusal (behind (here_of body) said) rest)) first draft.before.items draft.front.refused.items (comes_to body (line ∷ rest)) (opens body (line ∷ rest)) (all_rules body (line ∷ rest)) (risks body (line ∷ rest))) e

-- `main` makes the bus
pub begun_by : (board : Board) (names : List Named) (name : Name) (setup : Setup) (number : ℕ) (before refused : List ℕ) (rest : List (ℕ × FileLine)) → is_some (place_in names name) ≡ false → is_capable setup.identity.bcr ≡ true
    → outline board names before refused ((number, FileLine.Does (Command.Main name setup)) ∷ rest) ≡ made setup board (names ++ named name (Place.Slot 0) ∷ []) (before ++ number ∷ []) refused rest
begun_by board names name setup number before refused rest given capable = rw (given, capable) refl

-- what holds of a call that went well
pub on_ok : {E : Type 0} → {P : Type 0} → {Q : Type 0} → (result : Result (Unit {0}) E) → (P → Q) → OnOk result P → OnOk result Q
on_ok (Ok done) follows h = follows h
on_ok (Err e) follows h = tt

pub both_ok : {E : Type 0} → {P Q R : Type 0} → (result : Result (Unit {0}) E) → (P → Q → R) → OnOk result P → OnOk result Q → OnOk result R
both_ok (Ok done) follows p q = follows p q
both_ok (Err e) follows p q = tt

-- an outline's blocks, and the lines before its bus, have no part in its start
pub same_start : (first : Outline) (before refused : List ℕ) (blocks : List (List (List Step))) (opened : List Bool) (rules : List BlockRules) (risky : Bool) (start later : Seen) → later ≡ start → IsStartOf first start
    → IsStartOf (record first { before = before; refused = refused; blocks = blocks; opened = opened; rules = rules; risky = risky }) later
same_start first before refused blocks opened rules risky start later same is =
    subst (IsStartOf (record first { before = before; refused = refused; blocks = blocks; opened = opened; rules = rules; risky = risky })) (sym same) (record { state = is.state; settings = is.settings; cuts = is.cuts; names = is.names })

-- behind the last line nothing is refused
pub none_left : (body : Body) (first : Option Outline) (out : Outline) (front : Front) (before : List ℕ) → refusal_left body [] ≡ None → first ≡ Some out
    → comes_on (Some body) front before first [] ≡ Ok (record out { before = before; refused = front.refused.items; blocks = comes_to body []; opened = opens body []; rules = all_rules body []; risky = risks body [] })
none_left body first out front before closed is =
    ap (λ (r : Option Refusal). asked r first before front.refused.items (comes_to body []) (opens body []) (all_rules body []) (risks body [])) closed
    ∙ ap (λ (f : Option Outline). asked None f before front.refused.items (comes_to body []) (opens body []) (all_rules body []) (risks body [])) is

-- the blocks behind the last line, where none is open
pub none_open : (block : Option OpenBlock) → is_some block ≡ false → block ≡ None
none_open None e = refl
none_open (Some block) e = cc

none_inside : (block : Option OpenBlock) → option_map inside_of block ≡ None → block ≡ None
none_inside None e = refl
none_inside (Some block) e = cc

-- a block that is open at the end isn't closed
pub is_open : (block : Option OpenBlock) → is_some (option_map inside_of block) ≡ is_some block
is_open None = refl
is_open (Some block) = refl

pub all_left : (old new : Body) → Settles old new → old.block ≡ None → blocks_of new.blocks.items ≡ comes_to old []
all_left old new settles none =
    let shut : new.block ≡ None = none_inside new.block (settles.inside ∙ ap (option_map inside_of) none) in
    sym (append-nil (blocks_of new.blocks.items)) ∙ ap (λ (b : Option OpenBlock). blocks_of new.blocks.items ++ left (option_map open_of b) None []) (sym shut)
    ∙ ap (λ (h : Option Line). blocks_of new.blocks.items ++ left (option_map open_of new.block) (option_map step_of h) []) (sym settles.none) ∙ settles.same [] refl

-- and which of them a line opened
pub all_opened : (old new : Body) → Settles old new → old.block ≡ None → new.opened.items ≡ opens old []
all_opened old new settles none =
    let shut : new.block ≡ None = none_inside new.block (settles.inside ∙ ap (option_map inside_of) none) in
    sym (append-nil new.opened.items) ∙ ap (λ (b : Option OpenBlock). new.opened.items ++ opened_left (option_map open_of b) None []) (sym shut)
    ∙ ap (λ (h : Option Line). new.opened.items ++ opened_left (option_map open_of new.block) (option_map step_of h) []) (sym settles.none) ∙ settles.opened [] refl

-- and what holds in these
pub all_ruled : (old new : Body) → Settles old new → old.block ≡ None → map rules_of new.rules.items ≡ all_rules old []
all_ruled old new settles none =
    let shut : new.block ≡ None = none_inside new.block (settles.inside ∙ ap (option_map inside_of) none) in
    sym (append-nil (map rules_of new.rules.items)) ∙ ap (λ (b : Option OpenBlock). map rules_of new.rules.items ++ rules_left (option_map open_of b) []) (sym shut) ∙ settles.rules []

-- a block that is closed has the rules that it had
closed_rules : (block : OpenBlock) (number : ℕ) (rest : List (ℕ × FileLine)) → record { risk = block.risk; always = block.always.items } ≡ rules_here (open_of block) (open_of block).last ((number, FileLine.Marks Mark.Close) ∷ rest)
closed_rules block number rest = go (option_map steps_of block.last)
  where
    none : (risk : Risk) → risk ≡ risk_with risk Risk.Nobody
    none Risk.Nobody = refl
    none (Risk.One name) = refl
    none (Risk.Two one other) = refl

    go : (last : Option (List Step)) → record { risk = block.risk; always = block.always.items } ≡ rules_here (open_of block) last ((number, FileLine.Marks Mark.Close) ∷ rest)
    go None = λ i. record { risk = none block.risk i; always = sym (append-nil block.always.items) i }
    go (Some last) = refl

pub close_rules : (old settled new : Body) (block : OpenBlock) (rules : BlockRules) (number : ℕ) (rest : List (ℕ × FileLine)) → settled.block ≡ Some block → Settles old settled → new.block ≡ None → map rules_of new.rules.items ≡ map rules_of settled.rules.items ++ rules ∷ []
    → rules ≡ record { risk = block.risk; always = block.always.items } → all_rules new rest ≡ all_rules old ((number, FileLine.Marks Mark.Close) ∷ rest)
close_rules old settled new block rules number rest is settles none ruled rules_are =
    let before : List BlockRules = map rules_of settled.rules.items in
    ap (λ (rs : List BlockRules). rs ++ rules_left (option_map open_of new.block) rest) ruled
    ∙ ap (λ (b : Option OpenBlock). (before ++ rules ∷ []) ++ rules_left (option_map open_of b) rest) none
    ∙ append_assoc before (rules ∷ []) (rules_in false rest)
    ∙ ap (λ (r : BlockRules). before ++ r ∷ rules_in false rest) (rules_are ∙ closed_rules block number rest)
    ∙ ap (λ (b : Option OpenBlock). before ++ rules_left (option_map open_of b) ((number, FileLine.Marks Mark.Close) ∷ rest)) (sym is)
    ∙ settles.rules ((number, FileLine.Marks Mark.Close) ∷ rest)

-- behind the last line no device is put at risk
pub none_risked : (risky : Bool) → risky ≡ (risky || any_at_risk [])
none_risked true = refl
none_risked false = refl

abbrev here : Option Inside → Option Bool → Here
here block before = record { block = block; before = before }

-- where the line behind a command stands
pub command_here : (old settled placed : Body) → Settles old settled → option_map inside_of placed.block ≡ option_map one_line (option_map inside_of settled.block) → here (option_map inside_of placed.block) (Some true) ≡ here (option_map one_line (option_map inside_of old.block)) (Some true)
command_here old settled placed settles same = ap (λ (b : Option Inside). here b (Some true)) (same ∙ ap (option_map one_line) settles.inside)

-- where the line behind a `track` stands
pub track_here : (old settled new : Body) (block begun : OpenBlock) → settled.block ≡ Some block → Settles old settled → new.block ≡ Some begun → inside_of begun ≡ one_track (inside_of block) → new.held ≡ settled.held
    → here_of new ≡ behind (here_of old) (FileLine.Marks Mark.Track)
track_here old settled new block begun is settles opens inside held =
    ap (λ (b : Option OpenBlock). here (option_map inside_of b) (option_map has_command_of (option_map step_of new.held))) opens
    ∙ ap (λ (i : Inside). here (Some i) (option_map has_command_of (option_map step_of new.held))) inside
    ∙ ap (λ (h : Option Line). here (Some (one_track (inside_of block))) (option_map has_command_of (option_map step_of h))) (held ∙ settles.none)
    ∙ ap (λ (b : Option OpenBlock). here (option_map one_track (option_map inside_of b)) None) (sym is)
    ∙ ap (λ (b : Option Inside). here (option_map one_track b) None) settles.inside

risk_alone : (risk : Risk) → risk_with risk Risk.Nobody ≡ risk
risk_alone Risk.Nobody = refl
risk_alone (Risk.One name) = refl
risk_alone (Risk.Two one other) = refl

-- the tracks behind a `track`
left_track : (risk : Risk) (always : List Expectation) (tracks : List (List Step)) (last : Option (List Step)) (number : ℕ) (rest : List (ℕ × FileLine))
    → left (Some (record { risk = risk; always = always; tracks = all_tracks tracks last; last = Some [] })) None rest ≡ left (Some (record { risk = risk; always = always; tracks = tracks; last = last })) None ((number, FileLine.Marks Mark.Track) ∷ rest)
left_track risk always tracks None number rest =
    ap (λ (r : Risk). (tracks ++ (steps_in r always rest ∷ tracks_in r always rest)) ∷ blocks_in true rest) (sym (risk_alone risk))
    ∙ ap (λ (a : List Expectation). (tracks ++ (steps_in (risk_with risk Risk.Nobody) a rest ∷ tracks_in (risk_with risk Risk.Nobody) a rest)) ∷ blocks_in true rest) (sym (append-nil always))
left_track risk always tracks (Some last) number rest =
    let more : List (List Step) = steps_in risk always rest ∷ tracks_in risk always rest in
    ap (λ (ts : List (List Step)). ts ∷ blocks_in true rest) (append_assoc tracks (last ∷ []) more) ∙ ap (λ (l : List Step). (tracks ++ (l ∷ more)) ∷ blocks_in true rest) (sym (append-nil last))

pub track_blocks : (old settled new : Body) (block : OpenBlock) (begun : Open) (number : ℕ) (rest : List (ℕ × FileLine)) → settled.block ≡ Some block → Settles old settled → option_map open_of new.block ≡ Some begun
    → begun ≡ record { risk = block.risk; always = block.always.items; tracks = all_tracks (tracks_of block.tracks.items) (option_map steps_of block.last); last = Some [] } → new.held ≡ settled.held → new.blocks ≡ settled.blocks
    → comes_to new rest ≡ comes_to old ((number, FileLine.Marks Mark.Track) ∷ rest)
track_blocks old settled new block begun number rest is settles opens is_begun held blocks =
    let before : List (List (List Step)) = blocks_of settled.blocks.items in
    ap (λ (bs : Vec (Vec (Vec Line))). blocks_of bs.items ++ left (option_map open_of new.block) (option_map step_of new.held) rest) blocks
    ∙ ap (λ (b : Option Open). before ++ left b (option_map step_of new.held) rest) opens ∙ ap (λ (h : Option Line). before ++ left (Some begun) (option_map step_of h) rest) (held ∙ settles.none)
    ∙ ap (λ (o : Open). before ++ left (Some o) None rest) is_begun
    ∙ ap (λ (ls : List (List (List Step))). before ++ ls) (left_track block.risk block.always.items (tracks_of block.tracks.items) (option_map steps_of block.last) number rest)
    ∙ ap (λ (b : Option OpenBlock). before ++ left (option_map open_of b) None ((number, FileLine.Marks Mark.Track) ∷ rest)) (sym is)
    ∙ ap (λ (h : Option Line). before ++ left (option_map open_of settled.block) (option_map step_of h) ((number, FileLine.Marks Mark.Track) ∷ rest)) (sym settles.none)
    ∙ settles.same ((number, FileLine.Marks Mark.Track) ∷ rest) refl

opened_track : (last : Option (List Step)) (number : ℕ) (rest : List (ℕ × FileLine)) → true ∷ opened_in true rest ≡ unopened (held_before last None ((number, FileLine.Marks Mark.Track) ∷ rest)) ++ true ∷ opened_in true ((number, FileLine.Marks Mark.Track) ∷ rest)
opened_track None number rest = refl
opened_track (Some last) number rest = refl

pub track_opened : (old settled new : Body) (block : OpenBlock) (begun : Open) (number : ℕ) (rest : List (ℕ × FileLine)) → settled.block ≡ Some block → Settles old settled → option_map open_of new.block ≡ Some begun → begun.last ≡ Some []
    → new.held ≡ settled.held → new.opened ≡ settled.opened → opens new rest ≡ opens old ((number, FileLine.Marks Mark.Track) ∷ rest)
track_opened old settled new block begun number rest is settles begins last held same =
    let before : List Bool = settled.opened.items in
    ap (λ (os : Vec Bool). os.items ++ opened_left (option_map open_of new.block) (option_map step_of new.held) rest) same
    ∙ ap (λ (b : Option Open). before ++ opened_left b (option_map step_of new.held) rest) begins ∙ ap (λ (h : Option Line). before ++ opened_left (Some begun) (option_map step_of h) rest) (held ∙ settles.none)
    ∙ ap (λ (l : Option (List Step)). before ++ (unopened (held_before l None rest) ++ true ∷ opened_in true rest)) last ∙ ap (λ (os : List Bool). before ++ os) (opened_track (option_map steps_of block.last) number rest)
    ∙ ap (λ (b : Option OpenBlock). before ++ opened_left (option_map open_of b) None ((number, FileLine.Marks Mark.Track) ∷ rest)) (sym is)
    ∙ ap (λ (h : Option Line). before ++ opened_left (option_map open_of settled.block) (option_map step_of h) ((number, FileLine.Marks Mark.Track) ∷ rest)) (sym settles.none)
    ∙ settles.opened ((number, FileLine.Marks Mark.Track) ∷ rest) refl

-- a block has the same rules where its track has begun
rules_track : (block : Open) (last : Option (List Step)) (number : ℕ) (rest : List (ℕ × FileLine)) → rules_here block (Some []) rest ≡ rules_here block last ((number, FileLine.Marks Mark.Track) ∷ rest)
rules_track block None number rest = λ i. record { risk = none block.risk i; always = sym (append-nil block.always) i }
  where
    none : (risk : Risk) → risk ≡ risk_with risk Risk.Nobody
    none Risk.Nobody = refl
    none (Risk.One name) = refl
    none (Risk.Two one other) = refl
rules_track block (Some last) number rest = refl

pub track_rules : (old settled new : Body) (block : OpenBlock) (begun : Open) (number : ℕ) (rest : List (ℕ × FileLine)) → settled.block ≡ Some block → Settles old settled → option_map open_of new.block ≡ Some begun
    → begun ≡ record (open_of block) { tracks = all_tracks (open_of block).tracks (open_of block).last; last = Some [] } → new.rules ≡ settled.rules → all_rules new rest ≡ all_rules old ((number, FileLine.Marks Mark.Track) ∷ rest)
track_rules old settled new block begun number rest is settles begins begun_is same =
    let before : List BlockRules = map rules_of settled.rules.items in
    ap (λ (rs : Vec Rules). map rules_of rs.items ++ rules_left (option_map open_of new.block) rest) same
    ∙ ap (λ (b : Option Open). before ++ rules_left b rest) begins
    ∙ ap (λ (b : Open). before ++ (rules_here b b.last rest ∷ rules_in true rest)) begun_is
    ∙ ap (λ (r : BlockRules). before ++ (r ∷ rules_in true rest)) (rules_track (open_of block) (open_of block).last number rest)
    ∙ ap (λ (b : Option OpenBlock). before ++ rules_left (option_map open_of b) ((number, FileLine.Marks Mark.Track) ∷ rest)) (sym is)
    ∙ settles.rules ((number, FileLine.Marks Mark.Track) ∷ rest)

-- one more line of the file
pub one_taken : (lines : List (Vec ℕ)) (at : ℕ) (line : Vec ℕ) (more : List (Vec ℕ)) → at < length lines → line ≡ get_or lines at line → take at lines ++ line ∷ more ≡ take (at + 1) lines ++ more
one_taken lines at line more lt is =
    ap (λ (l : Vec ℕ). take at lines ++ l ∷ more) is ∙ sym (append_assoc (take at lines) (get_or lines at line ∷ []) more) ∙ ap (λ (ls : List (Vec ℕ)). ls ++ more) (sym (take_more lines at line lt))

-- whatever the lines behind those that were read say, the file has the outline to which they come
abbrev pub IsReadTo : List (Vec ℕ) → ℕ → Draft → Option Outline → Type 0
IsReadTo lines at draft first = (more : List (Vec ℕ)) (rest : List (ℕ × FileLine)) → AreSaid (at + 1) more rest → (said : List (ℕ × FileLine)) × AreSaid 1 (take at lines ++ more) said × (outline no_board [] [] [] said ≡ comes draft first rest)

-- the file is refused for a line
pub refused_at : (lines : List (Vec ℕ)) (at : ℕ) (line : Vec ℕ) (draft : Draft) (first : Option Outline) (fault : PlanFault) → at < length lines → line ≡ get_or lines at line → IsReadTo lines at draft first
    → IsTakenNot draft (at + 1) line.items fault → HasNoPlan lines fault
refused_at lines at line draft first PlanFault.Memory lt is so_far told = tt
refused_at lines at line draft first (PlanFault.Refused refusal) lt is so_far (said, says, why, numbered) =
    let all = so_far (line ∷ []) ((at + 1, said) ∷ []) (refl, says, tt) in
    let up_to : take at lines ++ line ∷ [] ≡ take (at + 1) lines = one_taken lines at line [] lt is ∙ append-nil (take (at + 1) lines) in
    record {
      said = all.0;
      are = subst (λ (n : Option ℕ). AreSaid 1 (lines_to n lines) all.0) (sym numbered) (subst (λ (ls : List (Vec ℕ)). AreSaid 1 ls all.0) up_to all.1);
      is = all.2 ∙ refused_comes draft first (at + 1) said refusal.reason [] why ∙ ap (λ (n : Option ℕ). Err (record { reason = refusal.reason; line = n })) (sym numbered);
    }

-- behind the last line the file has its plan, or is refused
pub planned : (lines : List (Vec ℕ)) (at : ℕ) (draft : Draft) (first : Option Outline) (result : Result Plan PlanFault) → length lines ≤ at → IsBegunBy draft.body first → IsReadTo lines at draft first
    → MatchResult result (λ plan. (f : Option Outline) → IsBegunBy draft.body f → (out : Outline) × (comes draft f [] ≡ Ok out) × IsPlanOf out plan) (IsEndFault draft) → MatchResult result (IsPlan lines) (HasNoPlan lines)
planned lines at draft first (Ok plan) behind begun so_far outlined =
    let all = so_far [] [] tt in
    let whole : take at lines ++ [] ≡ lines = append-nil (take at lines) ∙ take_all at lines behind in
    let (out, comes_out, is) = outlined first begun in
    record { said = all.0; are = subst (λ (ls : List (Vec ℕ)). AreSaid 1 ls all.0) whole all.1; outlined = out; is = all.2 ∙ comes_out; of = is }
planned lines at draft first (Err PlanFault.Memory) behind begun so_far told = tt
planned lines at draft first (Err (PlanFault.Refused refusal)) behind begun so_far (unnumbered, ends) =
    let all = so_far [] [] tt in
    let whole : take at lines ++ [] ≡ lines = append-nil (take at lines) ∙ take_all at lines behind in
    record {
      said = all.0;
      are = subst (λ (n : Option ℕ). AreSaid 1 (lines_to n lines) all.0) (sym unnumbered) (subst (λ (ls : List (Vec ℕ)). AreSaid 1 ls all.0) whole all.1);
      is = all.2 ∙ ends first;
    }
