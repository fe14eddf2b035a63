use Rattle.std.proofs.Common.{◌≡◌, take, drop}
use Rattle.mk_strace.specs.Scan.{cut}
use Rattle.mk_strace.specs.declared.scan.Mode.TheVariants.{Plain}
use Rattle.mk_strace.proofs.ScanLemmas.{with_start}
use Rattle.mk_strace.proofs.scan.cut.Given as goal

-- the bytes so far are the first ones of the word
abbrev pub invariant-loop-place : goal.invariant-loop-place
invariant-loop-place l =
    with_start (take l.place l.text) (cut l.commas l.mode (drop l.place l.text))
    ≡ cut l.commas Plain l.text
