use Rattle.std.proofs.Common.{◌≡◌, ◌++◌, ◌&&◌, ◌||◌, filter, map, not}
use Rattle.mk_breaches.specs.Breaches.{is_own}
use Rattle.mk_breaches.specs.Held.{rows_in, texts_of}
use Rattle.mk_breaches.specs.Rows.{by_other}
use Rattle.mk_breaches.specs.declared.breach.Breach.TheVariants.{Changes}
use Rattle.mk_breaches.proofs.path.Paths.push_shared.Given as goal

-- those so far, and those of the paths that are left
abbrev pub invariant-loop-path : goal.invariant-loop-path
invariant-loop-path l =
    l.all ++ map (Changes l.n) (filter (λ path. not (is_own l.node path)
    && ((rows_in l.table path).node || by_other l.n (rows_in l.table path).naming)) (texts_of l.path-iterator))
    ≡ l.initial.all ++ map (Changes l.n) (filter (λ path. not (is_own l.node path)
    && ((rows_in l.table path).node || by_other l.n (rows_in l.table path).naming))
    (texts_of l.initial.path-iterator))
