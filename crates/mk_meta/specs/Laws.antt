-- Of two texts of meta files none begins another, and a head is none.
use Rattle.std.specs.Prelude.{◌≡◌, ◌≢◌, ℕ, List, [], ◌++◌}
use Rattle.mk_meta.specs.Lawful.{IsLawful}
use Rattle.mk_meta.specs.Texts.{head, meta_text}
use Rattle.mk_meta.specs.declared.meta.Meta.{Meta}

-- No text of a lawful value is a proper part of another one, from its beginning.
abbrev pub NoneBegins : Type 0
NoneBegins =
    (one other : Meta) (rest : List ℕ) → IsLawful one → IsLawful other
    → meta_text one ++ rest ≡ meta_text other → rest ≡ []

-- What stands there while a job is open is the text of no value.
abbrev pub HeadIsNone : Type 0
HeadIsNone = (target : List ℕ) (meta : Meta) → IsLawful meta → head target ≢ meta_text meta
