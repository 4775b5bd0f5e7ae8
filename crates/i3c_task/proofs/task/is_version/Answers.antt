use Rattle.std.proofs.Common.{◌≡◌, ◌∙◌, ◌∷◌, ℕ, [], List, codes, length, map, get_or, ap, sym, arith}
use Rattle.std.proofs.lemmas.Slice.Eq.{bytes_eq-Decides}
use Rattle.std.specs.Str.{bytes_eq}
use Rattle.std.specs.String.{string_bytes}
use Rattle.i3c_task.proofs.task.is_version.Goals as goal

-- a list with one item
alone : {X : Type 0} (xs : List X) (x : X) → length xs ≡ 1 → x ≡ get_or xs 0 x → xs ≡ x ∷ []
alone [] x one is = absurd (omega arith)
alone (y ∷ []) x one is = ap (λ z. z ∷ []) (sym is)
alone (y ∷ z ∷ zs) x one is = absurd (omega arith)

pub returns-in-len1 : goal.returns-in-len1
returns-in-len1 c =
    let only = c.only-item.result in
    let one : length c.args.words.now ≡ 1 = omega (arith, c.in-len1.len_below, c.in-len1.len_at_least) in
    let words : map string_bytes c.args.words.now ≡ string_bytes only ∷ [] = ap (map string_bytes) (alone c.args.words.now only one c.only-item.is) in
    let is : c.eq.result ≡ bytes_eq (string_bytes only) (codes "--version") = c.eq.ensures ∙ ap (λ t. bytes_eq t (codes "--version")) c.as_str.ensures.value in
    let same = bytes_eq-Decides (string_bytes only) (codes "--version") in (
      λ yes-it-is. words ∙ ap (λ t. t ∷ []) (same.0 (sym is ∙ yes-it-is)),
      λ are. is ∙ same.1 (ap (λ (l : List (List ℕ)). get_or l 0 (string_bytes only)) (sym words ∙ are)),
    )
