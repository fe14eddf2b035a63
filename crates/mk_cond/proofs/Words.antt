-- Words that are there.
use Rattle.std.proofs.Common.{◌≡◌, ◌≢◌, ℕ, List, [], ◌∷◌, Ok, refl}
use Rattle.mk_ast.specs.View.{tree_view}
use Rattle.mk_ast.specs.declared.tree.Part.{Part}
use Rattle.mk_cond.specs.Terms.{some_word}

pub some_word-some : (total : ℕ) (bytes rest : List ℕ) (parts : List Part) → parts ≢ []
    → some_word total bytes (tree_view parts, rest) ≡ Ok (tree_view parts, rest)
some_word-some total bytes rest [] some = absurd (some refl)
some_word-some total bytes rest (part ∷ parts) some = refl
