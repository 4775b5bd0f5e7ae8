use Rattle.std.proofs.Common.{◌≡◌, ℕ, ◌-◌, ◌<◌, drop, get_or, length, replicate, take}
use Rattle.i3c_lines.specs.Tokens.{IsNameLetter}
use Rattle.i3c_lines.proofs.names.Name.leading.Given as goal

-- the letters so far are in their places, and zeros in the others
abbrev pub invariant-loop-place : goal.invariant-loop-place
invariant-loop-place l = record {
  long : length l.bytes ≡ 16;
  first : take l.place l.bytes ≡ take l.place l.line;
  rest : drop l.place l.bytes ≡ replicate (16 - l.place) 0;
  letters : (k : ℕ) → k < l.place → IsNameLetter (get_or l.line k 0);
}
