use Rattle.std.proofs.Common.{◌≡◌, length}
use Rattle.mk_recorder.specs.Judgement.{judged}
use Rattle.mk_recorder.proofs.judgement.judge_all.Given as goal

-- the records of the events that are left are those of all
abbrev pub invariant-quiet : goal.invariant-quiet
invariant-quiet l =
    judged l.directory l.before l.rest ≡ judged l.directory l.before l.events

abbrev pub decreases-quiet : goal.decreases-quiet
decreases-quiet l = length l.rest
