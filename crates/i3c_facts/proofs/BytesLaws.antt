-- Bytes that a token writes.
use Rattle.std.proofs.Common.{◌≡◌, ◌∙◌, ℕ, ◌<◌, ◌≤◌, List, [], ◌∷◌, ap, arith, length, min, subst, take}
use Rattle.std.proofs.lemmas.List.{length-take, take_all}
use Rattle.i3c_lines.specs.Tokens.{AreBytes, pair_values}
use Rattle.i3c_facts.specs.Forms.{WritesBytes}

some_pairs : (token : List ℕ) → AreBytes token → 0 < length token → 0 < length (pair_values token)
some_pairs [] are some = omega (arith, some)
some_pairs (high ∷ []) are some = absurd are
some_pairs (high ∷ low ∷ digits) are some = omega arith

some_digits : (token : List ℕ) → 0 < length (pair_values token) → 0 < length token
some_digits [] some = omega (arith, some)
some_digits (digit ∷ token) some = omega arith

-- up to sixteen bytes are all that were read of the token
pub bytes_are : (token items : List ℕ) → AreBytes token → items ≡ take 17 (pair_values token) → 0 < length items → length items ≤ 16 → WritesBytes token items
bytes_are token items are read some few =
    let all = pair_values token in
    let taken : length items ≡ min 17 (length all) = ap length read ∙ length-take 17 all in
    let same : items ≡ all = read ∙ take_all 17 all (omega (arith, taken, few)) in
    (some_digits token (subst (λ bytes. 0 < length bytes) same some), are, few, same)

-- more of them are none that a line can read
pub too_many : (token items bytes : List ℕ) → items ≡ take 17 (pair_values token) → 16 < length items → WritesBytes token bytes → ⊥
too_many token items bytes read few writes =
    let taken : length items ≡ min 17 (length (pair_values token)) = ap length read ∙ length-take 17 (pair_values token) in
    omega (arith, taken, few, writes.2, ap length writes.3)

-- and neither is none
pub no_bytes : (token items bytes : List ℕ) → items ≡ take 17 (pair_values token) → length items ≡ 0 → WritesBytes token bytes → ⊥
no_bytes token items bytes read none writes =
    let taken : length items ≡ min 17 (length (pair_values token)) = ap length read ∙ length-take 17 (pair_values token) in
    omega (arith, taken, none, some_pairs token writes.1 writes.0)
