-- Attributes by their names.
use Rattle.std.specs.Prelude.{ℕ, List, Option, Some, None, if◌then◌else◌, codes}
use Rattle.std.specs.Str.{bytes_eq}
use Rattle.mk_graph.specs.declared.attr.Attr.{Attr}
use Rattle.mk_graph.specs.declared.attr.Attr.TheVariants as attr

abbrev pub other_named : List ℕ → Option Attr
other_named name =
    if bytes_eq name (codes ".META") then Some attr.Meta
    else (if bytes_eq name (codes ".NOMETA") then Some attr.NoMeta
    else (if bytes_eq name (codes ".NOMETA_CMP") then Some attr.NoMetaCmp
    else None))

-- The attribute of this name. `.WAIT`, which parts sources, is none of a node.
abbrev pub attr_named : List ℕ → Option Attr
attr_named name =
    if bytes_eq name (codes ".PHONY") then Some attr.Phony
    else (if bytes_eq name (codes ".EXEC") then Some attr.Exec
    else (if bytes_eq name (codes ".OPTIONAL") then Some attr.Optional
    else (if bytes_eq name (codes ".PRECIOUS") then Some attr.Precious
    else (if bytes_eq name (codes ".SILENT") then Some attr.Silent
    else (if bytes_eq name (codes ".IGNORE") then Some attr.Ignore
    else (if bytes_eq name (codes ".NOTMAIN") then Some attr.NotMain
    else (if bytes_eq name (codes ".USE") then Some attr.Macro
    else (if bytes_eq name (codes ".USEBEFORE") then Some attr.MacroBefore
    else other_named name))))))))
