-- What a line of a program says.
use Rattle.std.specs.Prelude.{◌≡◌, ◌⊎◌, ◌≤◌, ◌++◌, ℕ, List, true, codes, if◌then◌else◌, length}
use Rattle.std.specs.Char.{is_ascii_hexdigit}
use Rattle.std.specs.List.{list_all}
use Rattle.i3c_drive.specs.Answers.{StandsFor}
use Rattle.i3c_every.specs.declared.sent.Sent.{Sent}
use Rattle.i3c_lines.specs.declared.command.Command.{Command}
use Rattle.i3c_lines.specs.Forms.{HasNoForm, IsCommand, IsSkipped}
use Rattle.i3c_scene.specs.Frames.{sends_frame, sends_many, tells_past}
use Rattle.i3c_program.specs.declared.reason.Reason.{Reason}
use Rattle.i3c_program.specs.declared.word.Word.{Word}

-- what a line with this command says: several frames and the past are refused, and before one frame lines of the tracks may run
abbrev pub said : List ℕ → Command → Word
said written command = if sends_many command then Word.Refused Reason.ManyFrames else if tells_past command then Word.Refused Reason.NoPast else if sends_frame command then Word.Sends (Sent.Meets written) else Word.Sends (Sent.Alone written)

abbrev pub IsSaid : List ℕ → Word → Type 0
IsSaid written word = (command : Command) × IsCommand written command × (word ≡ said written command)

-- 1 to 64 hexadecimal digits
abbrev pub AreDigits : List ℕ → Type 0
AreDigits digits = (1 ≤ length digits) × (length digits ≤ 64) × (list_all is_ascii_hexdigit digits ≡ true)

-- a line is a mark: the word, and digits
abbrev pub IsMark : List ℕ → Type 0
IsMark line = (digits : List ℕ) × (line ≡ codes "mark " ++ digits) × AreDigits digits

-- the words that are no lines of a script
abbrev pub IsOwn : List ℕ → Word → Type 0
IsOwn line word = ((line ≡ codes "wait") × (word ≡ Word.Sends Sent.Waits)) ⊎ ((line ≡ codes "again") × (word ≡ Word.Again)) ⊎ ((line ≡ codes "script") × (word ≡ Word.Script)) ⊎ ((line ≡ codes "choices") × (word ≡ Word.Choices)) ⊎ ((line ≡ codes "same") × (word ≡ Word.Same)) ⊎ (IsMark line × (word ≡ Word.Sends (Sent.Marks line)))

-- what a line of a program says: nothing, a word of its own, or the line of a script that it stands for; else it has no form
abbrev pub IsWord : List ℕ → Word → Type 0
IsWord line word = (IsSkipped line × (word ≡ Word.Nothing)) ⊎ IsOwn line word ⊎ ((written : List ℕ) × StandsFor line written × (IsSaid written word ⊎ (HasNoForm written × (word ≡ Word.Refused Reason.BadLine))))
