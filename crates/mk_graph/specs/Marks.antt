-- The attributes of a node, each by itself.
use Rattle.std.specs.Prelude.{Bool, true, false, not, ◌&&◌, ◌||◌}
use Rattle.mk_graph.specs.declared.attr.Attr.{Attr}
use Rattle.mk_graph.specs.declared.attr.Attr.TheVariants as attr
use Rattle.mk_graph.specs.declared.attr.Marks.{Marks}

abbrev pub no_marks : Marks
no_marks = record {
  phony = false;
  exec = false;
  optional = false;
  precious = false;
  silent = false;
  ignore = false;
  not_main = false;
  macro_behind = false;
  macro_before = false;
  wait = false;
  meta = false;
  no_meta = false;
  no_meta_cmp = false;
  remake = false;
  target = false;
  rule = false;
}

abbrev pub has : Marks → Attr → Bool
has marks attr.Phony = marks.phony
has marks attr.Exec = marks.exec
has marks attr.Optional = marks.optional
has marks attr.Precious = marks.precious
has marks attr.Silent = marks.silent
has marks attr.Ignore = marks.ignore
has marks attr.NotMain = marks.not_main
has marks attr.Macro = marks.macro_behind
has marks attr.MacroBefore = marks.macro_before
has marks attr.Wait = marks.wait
has marks attr.Meta = marks.meta
has marks attr.NoMeta = marks.no_meta
has marks attr.NoMetaCmp = marks.no_meta_cmp
has marks attr.Remake = marks.remake
has marks attr.Target = marks.target
has marks attr.Rule = marks.rule

-- these and one more
abbrev pub marked : Marks → Attr → Marks
marked marks attr.Phony = record marks { phony = true }
marked marks attr.Exec = record marks { exec = true }
marked marks attr.Optional = record marks { optional = true }
marked marks attr.Precious = record marks { precious = true }
marked marks attr.Silent = record marks { silent = true }
marked marks attr.Ignore = record marks { ignore = true }
marked marks attr.NotMain = record marks { not_main = true }
marked marks attr.Macro = record marks { macro_behind = true }
marked marks attr.MacroBefore = record marks { macro_before = true }
marked marks attr.Wait = record marks { wait = true }
marked marks attr.Meta = record marks { meta = true }
marked marks attr.NoMeta = record marks { no_meta = true }
marked marks attr.NoMetaCmp = record marks { no_meta_cmp = true }
marked marks attr.Remake = record marks { remake = true }
marked marks attr.Target = record marks { target = true }
marked marks attr.Rule = record marks { rule = true }

-- whether a node with these is a macro
abbrev pub is_macro : Marks → Bool
is_macro marks = marks.macro_behind || marks.macro_before

-- a target that is no macro
abbrev pub takes_macros : Marks → Bool
takes_macros marks = marks.target && not (is_macro marks)

-- `.USE` and `.USEBEFORE` are not taken, nor what is no attribute
abbrev pub taken_marks : Marks → Marks → Marks
taken_marks own other = record {
  phony = own.phony || other.phony;
  exec = own.exec || other.exec;
  optional = own.optional || other.optional;
  precious = own.precious || other.precious;
  silent = own.silent || other.silent;
  ignore = own.ignore || other.ignore;
  not_main = own.not_main || other.not_main;
  macro_behind = own.macro_behind;
  macro_before = own.macro_before;
  wait = own.wait || other.wait;
  meta = own.meta || other.meta;
  no_meta = own.no_meta || other.no_meta;
  no_meta_cmp = own.no_meta_cmp || other.no_meta_cmp;
  remake = own.remake;
  target = own.target;
  rule = own.rule;
}
