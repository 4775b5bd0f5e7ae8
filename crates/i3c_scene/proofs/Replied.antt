-- What a program is answered in the ways that are tried.
use Rattle.std.proofs.Common.{◌≡◌, ◌∙◌, ◌+◌, ℕ, List, [], Option, None, Some, Result, Ok, Err, ap, length, subst, sym}
use Rattle.std.specs.Prelude.{drop, true}
use Rattle.std.proofs.lemmas.Bool.{false≢true}
use Rattle.i3c_facts.specs.Hearing.{came_to, result_of}
use Rattle.i3c_lines.specs.declared.command.Command.{Command}
use Rattle.i3c_lines.specs.declared.refusals.Refusal.{Refusal}
use Rattle.i3c_lines.specs.Forms.{IsCommand, tokens_of}
use Rattle.i3c_lines.proofs.Meanings.{meant_is}
use Rattle.i3c_script.specs.declared.piece.Piece.{Piece}
use Rattle.i3c_script.specs.Hearing.{Hears, all_heard}
use Rattle.i3c_script.specs.Pieces.{with_next}
use Rattle.i3c_script.proofs.Hearing.{list_heard}
use Rattle.i3c_text.specs.declared.line_error.LineError.{LineError}
use Rattle.i3c_scene.specs.declared.rules.Rules.{Rules}
use Rattle.i3c_scene.specs.declared.ways.Ways.{Ways}
use Rattle.i3c_scene.specs.Frames.{sends_many, tells_past}
use Rattle.i3c_scene.specs.Replying.{IsReply, IsToldBehind, LineReplies, MaySend, Replied, replied}
use Rattle.i3c_scene.specs.Scenes.{Seen}
use Rattle.i3c_scene.specs.Trying.{DoesIn, IsEndOf, ways_of}
use Rattle.i3c_scene.specs.Latest.{tried_as}
use Rattle.i3c_scene.specs.Unmet.{IsTold}
use Rattle.i3c_scene.proofs.Late.{does_tried}

-- a line asks for one command
pub one_command : (line : List ℕ) (one other : Command) → IsCommand line one → IsCommand line other → one ≡ other
one_command line one other first second = sym (meant_is (tokens_of line) one first.1) ∙ meant_is (tokens_of line) other second.1

-- a program may not send a line of several frames, nor one that asks for the past
pub many_unsent : (line : List ℕ) (one other : Command) → IsCommand line one → sends_many one ≡ true → MaySend line other → ⊥
many_unsent line one other is many (may, few, now) = false≢true (sym few ∙ subst (λ (c : Command). sends_many c ≡ true) (one_command line one other is may) many)

pub past_unsent : (line : List ℕ) (one other : Command) → IsCommand line one → tells_past one ≡ true → MaySend line other → ⊥
past_unsent line one other is past (may, few, now) = false≢true (sym now ∙ subst (λ (c : Command). tells_past c ≡ true) (one_command line one other is may) past)

-- two replies with the same parts are the same
pub same_reply : (one other : Replied) → (one.pieces ≡ other.pieces) × (one.refused ≡ other.refused) → (one.behind ≡ other.behind) × (one.added ≡ other.added) → one.asking ≡ other.asking → (one.unmet ≡ other.unmet) × (one.there ≡ other.there) → one ≡ other
same_reply one other (pieces, refused) (behind, added) asking (unmet, there) = λ i. replied (pieces i) (refused i) (behind i) (added i) (asking i) (unmet i) (there i)

-- what is done in some ways is done in others
abbrev pub DoesAlso : Seen → Command → Rules → Ways → Ways → Type 0
DoesAlso old command rules ways others = (pieces : List Piece) (refused : Option Refusal) (new : Seen) → DoesIn old command rules.risk ways pieces refused new → DoesIn old command rules.risk others pieces refused new

-- then it is answered alike
pub replies_as : (rules : Rules) (old : Seen) (command : Command) (ways others : Ways) (reply : Replied) (new : Seen) → DoesAlso old command rules ways others → IsReply rules old command ways reply new → IsReply rules old command others reply new
replies_as rules old command ways others reply new leads is = record { does = leads reply.pieces reply.refused new is.does; behind = is.behind; added = is.added; asking = is.asking; unmet = is.unmet }

pub line_replies : (rules : Rules) (old : Seen) (line : List ℕ) (command : Command) (tried way : ℕ) (reply : Replied) (new : Seen) → IsCommand line command → DoesAlso old command rules (ways_of rules.risk tried) (ways_of rules.risk way)
    → LineReplies rules old line tried reply new → LineReplies rules old line way reply new
line_replies rules old line command tried way reply new is leads (other, same, replied) =
    (command, is, replies_as rules old command (ways_of rules.risk tried) (ways_of rules.risk way) reply new leads (subst (λ (c : Command). IsReply rules old c (ways_of rules.risk tried) reply new) (one_command line other command same is) replied))

-- a list that heard what a line comes to, and why it was refused, if it was
pub listed_so : (Is : List Piece → Option Refusal → Type 0) (outcome : Result (Unit {0}) (LineError Refusal)) (refused : Option Refusal) (start heard : List Piece) → start ≡ [] → Hears with_next Is start heard outcome → IsEndOf outcome (result_of refused) → Is heard refused
listed_so Is (Ok done) None start heard none (pieces, told, is) ended = subst (λ (l : List Piece). Is l None) (sym (told ∙ ap (λ (l : List Piece). all_heard with_next l pieces) none ∙ list_heard [] pieces)) is
listed_so Is (Ok done) (Some why) start heard none (pieces, told, is) ended = absurd cc
listed_so Is (Err (LineError.Refused why)) None start heard none (pieces, told, is) ended = absurd cc
listed_so Is (Err (LineError.Refused why)) (Some other) start heard none (pieces, told, is) ended =
    let same : why ≡ other = cc in
    subst (λ (l : List Piece). Is l (Some other)) (sym (told ∙ ap (λ (l : List Piece). all_heard with_next l pieces) none ∙ list_heard [] pieces)) (subst (λ (w : Refusal). Is pieces (Some w)) same is)
listed_so Is (Err LineError.Memory) refused start heard none told ended = absurd ended

-- a line that was obeyed, and what is told behind it
pub reply_told : (rules : Rules) (old : Seen) (command : Command) (ways : Ways) (count behind : ℕ) (live : Seen) (pieces : List Piece) (refused : Option Refusal) (begun reply : Replied) → count ≡ length old.state.records → behind ≡ old.settings.forgotten + count
    → begun ≡ replied pieces refused behind [] [] None [] → DoesIn old command rules.risk ways pieces refused live → IsToldBehind rules count live begun reply → IsReply rules old command ways reply live
reply_told rules old command ways count behind live pieces refused begun reply counted summed is does told =
    let pieces_is : reply.pieces ≡ pieces = told.pieces ∙ ap (λ (r : Replied). r.pieces) is in
    let refused_is : reply.refused ≡ refused = told.refused ∙ ap (λ (r : Replied). r.refused) is in
    record {
      does = subst (λ (ps : List Piece). DoesIn old command rules.risk ways ps reply.refused live) (sym pieces_is) (subst (λ (r : Option Refusal). DoesIn old command rules.risk ways pieces r live) (sym refused_is) does);
      behind = told.behind ∙ ap (λ (r : Replied). r.behind) is ∙ summed ∙ ap (λ (n : ℕ). old.settings.forgotten + n) counted;
      added = told.added ∙ ap (λ (n : ℕ). drop n live.state.records) counted;
      asking = told.asking;
      unmet = subst (λ (ps : List Piece). IsTold live (came_to ps reply.refused) rules.lasting.items reply.unmet reply.there) (sym told.pieces) (subst (λ (r : Option Refusal). IsTold live (came_to begun.pieces r) rules.lasting.items reply.unmet reply.there) (sym told.refused) told.unmet);
    }

-- a line that was answered in the ways that are tried is answered so in its way
pub line_answered : (rules : Rules) (old live new : Seen) (line : List ℕ) (command : Command) (tried : Ways) (way : ℕ) (reply : Replied) → IsCommand line command → live ≡ old → tried ≡ tried_as old.state rules.risk (Some command) way → IsReply rules live command tried reply new → LineReplies rules old line way reply new
line_answered rules old live new line command tried way reply is same tried_is replied =
    let from = subst (λ (s : Seen). IsReply rules s command tried reply new) same replied in
    let in_ways = subst (λ (w : Ways). IsReply rules old command w reply new) tried_is from in
    (command, is, replies_as rules old command (tried_as old.state rules.risk (Some command) way) (ways_of rules.risk way) reply new (does_tried old command rules.risk way) in_ways)
