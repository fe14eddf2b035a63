use Rattle.std.proofs.Common.{◌≡◌, ◌++◌, drop, filter, map}
use Rattle.mk_breaches.specs.Held.{rows_in}
use Rattle.mk_breaches.specs.Walks.{is_unmet}
use Rattle.mk_breaches.specs.declared.breach.Breach.TheVariants.{ReadsMade}
use Rattle.mk_breaches.proofs.read.push_unmet.Given as goal

-- those so far, and those of the reads that are left
abbrev pub invariant-loop-path : goal.invariant-loop-path
invariant-loop-path l =
    l.all ++ map (ReadsMade l.n)
    (filter (λ path. is_unmet l.met.keys (rows_in l.table path).maker) (drop l.path-index l.reads))
    ≡ l.initial.all ++ map (ReadsMade l.n)
    (filter (λ path. is_unmet l.met.keys (rows_in l.table path).maker) l.reads)
