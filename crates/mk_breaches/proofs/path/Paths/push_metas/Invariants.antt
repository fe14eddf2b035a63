use Rattle.std.proofs.Common.{◌≡◌, ◌++◌, filter, map}
use Rattle.mk_breaches.specs.Held.{texts_of}
use Rattle.mk_breaches.specs.Paths.{is_meta_path}
use Rattle.mk_breaches.specs.declared.breach.Breach.TheVariants.{Meta}
use Rattle.mk_breaches.proofs.path.Paths.push_metas.Given as goal

-- those so far, and those of the paths that are left
abbrev pub invariant-loop-path : goal.invariant-loop-path
invariant-loop-path l =
    l.all ++ map (Meta l.n) (filter is_meta_path (texts_of l.path-iterator))
    ≡ l.initial.all ++ map (Meta l.n) (filter is_meta_path (texts_of l.initial.path-iterator))
