-- Texts that may stand for others.
use Rattle.std.specs.Prelude.{ℕ, List, Option, Some, None}

abbrev pub text_or : Option (List ℕ) → List ℕ → List ℕ
text_or None text = text
text_or (Some changed) text = changed
