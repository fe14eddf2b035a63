use Rattle.std.proofs.Common.{◌≡◌, ◌+◌, ◌-◌, ◌≤◌, length, take, drop}
use Rattle.mk_ast.specs.Places.{nesting}
use Rattle.mk_ast.specs.Text.{plain_run}
use Rattle.mk_ast.proofs.Runs.{behind}
use Rattle.mk_ast.proofs.run.run_from.Given as goal

-- the run is the bytes so far and the run of the rest; each byte nests at most one opener
abbrev pub invariant-run : goal.invariant-run
invariant-run l = record {
  run : plain_run l.fn.place l.text
      ≡ behind (take l.len l.text) (plain_run l.place (drop l.len l.text));
  within : l.len ≤ length l.text;
  nesting : nesting l.place ≤ nesting l.fn.place + l.len;
}

abbrev pub decreases-run : goal.decreases-run
decreases-run l = length l.text - l.len
