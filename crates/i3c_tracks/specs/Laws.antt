-- What holds of every file.
use Rattle.std.specs.Prelude.{◌≡◌, ℕ, List, map}
use Rattle.std.specs.Global.{Vec}
use Rattle.i3c_tracks.specs.declared.plan.Plan.{Plan}
use Rattle.i3c_tracks.specs.Planning.{IsPlan, blocks_of, rules_of}

-- two plans are the same: they have the same start, lines before it and blocks
pub record AreAlike (one other : Plan) : Type 0 where
  pub start : one.start ≡ other.start
  pub before : one.before.items ≡ other.before.items
  pub refused : one.refused.items ≡ other.refused.items
  pub blocks : blocks_of one.blocks.items ≡ blocks_of other.blocks.items
  pub opened : one.opened.items ≡ other.opened.items
  pub rules : map rules_of one.rules.items ≡ map rules_of other.rules.items
  pub risky : one.risky ≡ other.risky

-- a file has one plan at most
abbrev pub FilesHaveOnePlan : Type 0
FilesHaveOnePlan = (lines : List (Vec ℕ)) (one other : Plan) → IsPlan lines one → IsPlan lines other → AreAlike one other
