-- What a part takes of the answers to a line.
use Rattle.std.specs.Prelude.{◌≡◌, ◌⊎◌, ◌<◌, ◌≤◌, ◌+◌, ◌-◌, ◌*◌, ◌/◌, ◌%◌, ℕ, suc, min}
use Rattle.std.specs.Int.{div_ceil}
use Rattle.i3c_orders.specs.declared.share.Share.{Share}
use Rattle.i3c_orders.specs.Portions.{Portion, whole}

-- the number of the first answer that a part takes, where the shares differ by one answer at most
abbrev pub begin_of : ℕ → ℕ → ℕ → ℕ
begin_of index of answers = index * (answers / of) + min index (answers % of)

-- the part with this index among those that take the same answer: of these there is one for each whole round of the answers
abbrev pub behind_of : Portion → ℕ → Portion
behind_of portion answers = record { index = portion.index / answers; of = div_ceil (portion.of - portion.index % answers) answers }

-- what a part takes of a line's answers: its share of them, and all that is behind; or, where there are fewer answers than parts, one of them, and a part of what is behind
abbrev pub IsShare : Portion → ℕ → Share → Type 0
IsShare portion answers share =
    ((portion.of ≤ answers) × (share.least ≡ begin_of portion.index portion.of answers) × (suc share.most ≡ begin_of (suc portion.index) portion.of answers) × (share.behind ≡ whole))
    ⊎ ((answers < portion.of) × (share.least ≡ portion.index % answers) × (share.most ≡ portion.index % answers) × (share.behind ≡ behind_of portion answers))
