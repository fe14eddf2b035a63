use Rattle.std.proofs.Common.{◌≡◌, ◌++◌, ◌&&◌, drop, filter, is_none, map}
use Rattle.mk_breaches.specs.Held.{rows_in}
use Rattle.mk_breaches.specs.declared.breach.Breach.TheVariants.{ReadsChanged}
use Rattle.mk_breaches.proofs.read.push_changed.Given as goal

-- those so far, and those of the reads that are left
abbrev pub invariant-loop-path : goal.invariant-loop-path
invariant-loop-path l =
    l.all ++ map (ReadsChanged l.n)
    (filter (λ path. is_none (rows_in l.table path).maker && (rows_in l.table path).changed)
    (drop l.path-index l.reads))
    ≡ l.initial.all ++ map (ReadsChanged l.n)
    (filter (λ path. is_none (rows_in l.table path).maker && (rows_in l.table path).changed) l.reads)
