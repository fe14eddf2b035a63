-- Names that mean something of their own: special targets and attributes.
use Rattle.std.specs.Prelude.{ℕ, Bool, List, [], ◌∷◌, Option, Some, None, if◌then◌else◌, codes}
use Rattle.std.specs.Str.{bytes_eq}
pub use Rattle.mk_bytes.specs.Texts.{is_among}
use Rattle.mk_depline.specs.declared.name.Special.{Special}
use Rattle.mk_depline.specs.declared.name.Special.TheVariants.{Main, Begin, End, Default, Order}
use Rattle.mk_depline.specs.declared.name.Special.TheVariants.{Suffixes, Path, NotParallel}
use Rattle.mk_depline.specs.declared.name.Special.TheVariants.{DeleteOnError}
use Rattle.mk_depline.specs.declared.name.Special.TheVariants.{Phony, Precious, Silent, Ignore}

-- the attributes of sources; `.WAIT`, which parts them, counts among these
abbrev pub attributes : List (List ℕ)
attributes =
    codes ".PHONY" ∷ codes ".EXEC" ∷ codes ".OPTIONAL" ∷ codes ".PRECIOUS" ∷ codes ".SILENT"
    ∷ codes ".IGNORE" ∷ codes ".NOTMAIN" ∷ codes ".USE" ∷ codes ".USEBEFORE" ∷ codes ".WAIT"
    ∷ codes ".META" ∷ codes ".NOMETA" ∷ codes ".NOMETA_CMP" ∷ []

abbrev pub is_attribute : List ℕ → Bool
is_attribute name = is_among attributes name

-- the special targets
abbrev pub special_named : List ℕ → Option Special
special_named name =
    if bytes_eq name (codes ".MAIN") then Some Main
    else (if bytes_eq name (codes ".BEGIN") then Some Begin
    else (if bytes_eq name (codes ".END") then Some End
    else (if bytes_eq name (codes ".DEFAULT") then Some Default
    else (if bytes_eq name (codes ".ORDER") then Some Order
    else (if bytes_eq name (codes ".SUFFIXES") then Some Suffixes
    else (if bytes_eq name (codes ".PATH") then Some Path
    else (if bytes_eq name (codes ".NOTPARALLEL") then Some NotParallel
    else (if bytes_eq name (codes ".DELETE_ON_ERROR") then Some DeleteOnError
    else (if bytes_eq name (codes ".PHONY") then Some Phony
    else (if bytes_eq name (codes ".PRECIOUS") then Some Precious
    else (if bytes_eq name (codes ".SILENT") then Some Silent
    else (if bytes_eq name (codes ".IGNORE") then Some Ignore
    else None))))))))))))
