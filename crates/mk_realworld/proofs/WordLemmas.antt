-- The words of a child.
use Rattle.std.proofs.Common.{◌≡◌, ℕ, List, [], ◌∷◌, ◌++◌, ap, ◌∙◌}
use Rattle.std.proofs.lemmas.List.{append_assoc}

-- words that are added behind the shell stand behind it and its recorder
pub words_behind : (program shell : List ℕ) (args recorder rest : List (List ℕ))
    → program ∷ args ≡ recorder ++ shell ∷ []
    → program ∷ (args ++ rest) ≡ recorder ++ shell ∷ rest
words_behind program shell args recorder rest is =
    ap (λ words. words ++ rest) is ∙ append_assoc recorder (shell ∷ []) rest
