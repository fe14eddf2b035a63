-- What a run comes to that told of the runs in a generated world, or told nothing.
use Rattle.std.proofs.Common.{◌≡◌, ◌⊎◌, ℕ, [], inl, inr, subst, arith}
use Rattle.mk_generate.specs.Counts.{told}
use Rattle.mk_generate.specs.Generated as spec
use Rattle.mk_generate.specs.Generated.{OutCause}
use Rattle.mk_generate.specs.Inside as inside
use Rattle.mk_generate.specs.Inside.{EndsInside}
use Rattle.mk_memworld.specs.declared.world.MemWorld.{MemWorld}
use Rattle.mk_modes.specs.Causes as below
use Rattle.mk_modes.specs.Modes.{Held}
use Rattle.mk_modes.specs.declared.report.End.{End}
use Rattle.mk_modes.specs.declared.report.End.TheVariants.{NoMemory, SinkFault}
use Rattle.mk_modes.specs.declared.report.Report.{Report}
use Rattle.mk_world.specs.History.{files_of}
use Rattle.mk_world.specs.Sinks.{Gains}

-- what ends behind two runs that have made all
pub generates-told : (n : ℕ) (world : MemWorld) (first second : Report) (out : Held) (end : End)
    → inside.BothMade n world first second
    → ((end ≡ NoMemory) × Gains out.before out.after [])
    ⊎ spec.Prints (told n first second (files_of world.chronicle)) out end
    → spec.Generates n out end
generates-told n world first second out end both (inl want) =
    inl (record { ends = inl want.0; printed = want.1 })
generates-told n world first second out end both (inr prints) =
    inr (record { world = world; first = first; second = second; both = both; prints = prints })

-- what ends a run that told nothing, and one that told
pub OutCause-nothing : (n faults : ℕ) (end : End) → EndsInside n end → OutCause n faults faults end
OutCause-nothing n faults end ends = record {
  kept = grind arith;
  rose = λ is. inr (subst (EndsInside n) is ends);
  answered = λ rose. absurd (omega (arith, rose));
}

pub OutCause-told : (n before after : ℕ) (end : End) → below.EndCause SinkFault before after end
    → OutCause n before after end
OutCause-told n before after end cause = record {
  kept = cause.kept;
  rose = λ is. inl (cause.rose is);
  answered = cause.answered;
}
