-- Lists of names that are compared, one place after another.
use Rattle.std.proofs.Common.{◌≡◌, ◌∙◌, ◌<◌, ℕ, suc, ◌+◌, List, [], ◌∷◌, ◌++◌, ap, arith, get_or, length, sym, take}
use Rattle.std.proofs.Math.Seq.{take-suc}
use Rattle.i3c_lines.specs.declared.names.Name.{Name}

-- one more name is the same
pub same_more : (names others : List Name) (n : ℕ) (one other : Name) → n < length names → n < length others → take n names ≡ take n others → one ≡ get_or names n one → other ≡ get_or others n other → one ≡ other
    → take (n + 1) names ≡ take (n + 1) others
same_more names others n one other within inside before is is_other same =
    let next : n + 1 ≡ suc n = omega arith in
    ap (λ k. take k names) next
    ∙ take-suc names n one within
    ∙ (λ i. before i ++ (sym is ∙ same ∙ is_other) i ∷ [])
    ∙ sym (take-suc others n other inside)
    ∙ ap (λ k. take k others) (sym next)
