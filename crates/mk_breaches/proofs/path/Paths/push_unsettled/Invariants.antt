use Rattle.std.proofs.Common.{◌≡◌, ◌++◌, ◌||◌, filter, is_none, map, not}
use Rattle.mk_breaches.specs.Held.{rows_in, texts_of}
use Rattle.mk_breaches.specs.Paths.{is_meta_path}
use Rattle.mk_breaches.specs.declared.breach.Breach.TheVariants.{Exists}
use Rattle.mk_breaches.proofs.path.Paths.push_unsettled.Given as goal

-- those so far, and those of the paths that are left
abbrev pub invariant-loop-path : goal.invariant-loop-path
invariant-loop-path l =
    l.all ++ map (Exists l.n) (filter (λ path. (not (is_none (rows_in l.table path).maker) || is_meta_path path)
    || (rows_in l.table path).changed) (texts_of l.path-iterator))
    ≡ l.initial.all ++ map (Exists l.n) (filter (λ path. (not (is_none (rows_in l.table path).maker)
    || is_meta_path path) || (rows_in l.table path).changed) (texts_of l.initial.path-iterator))
