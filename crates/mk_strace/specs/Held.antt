-- What the texts that are kept stand for.
use Rattle.std.specs.Prelude.{[], unwrap_or}
use Rattle.std.specs.Map.{lookup}
use Rattle.std.specs.Str.{bytes_eq}
use Rattle.mk_strace.specs.Kept.{Texts}
use Rattle.mk_strace.specs.declared.kept.Kept.{Kept}

abbrev pub texts_in : Kept → Texts
texts_in kept = λ process. unwrap_or (lookup (λ key. bytes_eq process key.items) kept.texts.entries) []
