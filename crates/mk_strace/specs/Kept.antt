-- Texts that are kept for processes.
use Rattle.std.specs.Prelude.{ℕ, List, [], if◌then◌else◌}
use Rattle.std.specs.Str.{bytes_eq}

-- a text for each process; the empty one where none was kept
abbrev pub Texts : Type 0
Texts = List ℕ → List ℕ

abbrev pub no_texts : Texts
no_texts = λ process. []

abbrev pub with_text : Texts → List ℕ → List ℕ → Texts
with_text texts process text = λ other. if bytes_eq process other then text else texts other
