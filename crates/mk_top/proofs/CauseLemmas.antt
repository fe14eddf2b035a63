-- The counts of faults over a run in a generated world.
use Rattle.std.proofs.Common.{◌≡◌, ◌⊎◌, ◌∙◌, ℕ, ◌<◌, List, Option, Some, None, Result, Ok, Err, inl, inr, sym, subst, arith}
use Rattle.mk_bytes.specs.Agrees.{AgreesErr}
use Rattle.mk_cli.specs.Words as cli
use Rattle.mk_cli.specs.declared.order.Order.{Order}
use Rattle.mk_cli.specs.declared.order.Usage.{Usage}
use Rattle.mk_cli.specs.declared.order.Usage.TheVariants.{Word, NoMemory as Want}
use Rattle.mk_modes.specs.Causes as below
use Rattle.mk_modes.specs.Meaning.{asked, taken}
use Rattle.mk_modes.specs.Modes.{Held}
use Rattle.mk_modes.specs.declared.report.End.{End}
use Rattle.mk_modes.specs.declared.report.End.TheVariants.{WorldFault, SinkFault, NoMemory}
use Rattle.mk_world.specs.Causes.{Rose}
use Rattle.mk_top.specs.Causes.{ComesFromInside, WorldCause, SinkCause}
use Rattle.mk_generate.specs.Inside.{EndsInside}
use Rattle.mk_generate.specs.Generated.{Generates, OutCause, Prints}

-- the causes of a run that generates nothing
pub WorldCause-below : (before after : ℕ) (end : End) → below.WorldCause before after end
    → WorldCause None before after end
WorldCause-below before after end cause = record {
  kept = cause.kept;
  rose = λ is. inl (cause.rose is);
  answered = cause.answered;
}

pub SinkCause-below : (a b c d : ℕ) (end : End) → below.SinkCause a b c d end
    → SinkCause None a b c d end
SinkCause-below a b c d end cause = record {
  kept_out = cause.kept_out;
  kept_err = cause.kept_err;
  rose = λ is. inl (cause.rose is);
  answered = cause.answered;
}

-- what is printed ends with no fault of the world
never-printed : (bytes : List ℕ) (out : Held) (end : End) → Prints bytes out end → end ≡ WorldFault → ⊥
never-printed bytes out end (inl done) is = let made = done.0 in absurd cc
never-printed bytes out end (inr cut) is = let failed = cut.0 in absurd cc

-- a fault of the world comes from inside
inside-of : (n : ℕ) (out : Held) (end : End) → Generates n out end → end ≡ WorldFault
    → EndsInside n WorldFault
inside-of n out end (inl nothing) is = subst (EndsInside n) is nothing.ends
inside-of n out end (inr tells) is = absurd (never-printed _ out end tells.prints is)

-- the world's count stands still where another one is generated
pub WorldCause-generated : (n : ℕ) (out : Held) (faults before after : ℕ) (went end : End)
    → Generates n out went → below.LineCause before after went end
    → WorldCause (Some n) faults faults end
WorldCause-generated n out faults before after went end generates line = record {
  kept = grind arith;
  rose = λ is. inr (from line.same is);
  answered = λ rose. absurd (omega (arith, rose));
}
  where
    from : (end ≡ went) ⊎ ((end ≡ SinkFault) × Rose before after) → end ≡ WorldFault
        → EndsInside n WorldFault
    from (inl same) is = inside-of n out went generates (sym same ∙ is)
    from (inr failed) is = let end_is = failed.0 in absurd cc

-- the counts of both sinks
pub SinkCause-generated : (n a b c d : ℕ) (went end : End) → OutCause n a b went
    → below.LineCause c d went end → SinkCause (Some n) a b c d end
SinkCause-generated n a b c d went end out line = record {
  kept_out = out.kept;
  kept_err = line.kept;
  rose = rose line.same;
  answered = answered line.same;
}
  where
    of_out : Rose a b ⊎ EndsInside n SinkFault → (Rose a b ⊎ Rose c d) ⊎ EndsInside n SinkFault
    of_out (inl rose) = inl (inl rose)
    of_out (inr inside) = inr inside

    rose : (end ≡ went) ⊎ ((end ≡ SinkFault) × Rose c d) → end ≡ SinkFault
        → (Rose a b ⊎ Rose c d) ⊎ EndsInside n SinkFault
    rose (inl same) is = of_out (out.rose (sym same ∙ is))
    rose (inr failed) is = inl (inr failed.1)

    answered : (end ≡ went) ⊎ ((end ≡ SinkFault) × Rose c d) → (a < b) ⊎ (c < d) → end ≡ SinkFault
    answered same (inr later) = line.answered later
    answered (inl same) (inl later) = same ∙ out.answered later
    answered (inr failed) (inl later) = failed.0

-- words are refused for no fault of the outside
taken-err : (read : Result Order Usage) (end : End) → taken read ≡ Err end
    → (end ≡ WorldFault → ⊥) × (end ≡ SinkFault → ⊥)
taken-err (Ok order) end is = absurd cc
taken-err (Err (Word refused)) end is = (λ world. absurd cc, λ sink. absurd cc)
taken-err (Err Want) end is = (λ world. absurd cc, λ sink. absurd cc)

pub refused-inside : (cwd : List ℕ) (words : List (List ℕ)) (end : End)
    → AgreesErr NoMemory end (asked cwd words) → (end ≡ WorldFault → ⊥) × (end ≡ SinkFault → ⊥)
refused-inside cwd words end (inl want) = (λ world. absurd cc, λ sink. absurd cc)
refused-inside cwd words end (inr is) = taken-err (cli.order cwd words) end is

pub WorldCause-refused : (generated : Option ℕ) (faults before after : ℕ) (went end : End)
    → (went ≡ WorldFault → ⊥) → below.LineCause before after went end
    → WorldCause generated faults faults end
WorldCause-refused generated faults before after went end never line = record {
  kept = grind arith;
  rose = λ is. absurd (none line.same is);
  answered = λ rose. absurd (omega (arith, rose));
}
  where
    none : (end ≡ went) ⊎ ((end ≡ SinkFault) × Rose before after) → end ≡ WorldFault → ⊥
    none (inl same) is = never (sym same ∙ is)
    none (inr failed) is = let end_is = failed.0 in absurd cc

pub SinkCause-refused : (generated : Option ℕ) (out before after : ℕ) (went end : End)
    → (went ≡ SinkFault → ⊥) → below.LineCause before after went end
    → SinkCause generated out out before after end
SinkCause-refused generated out before after went end never line = record {
  kept_out = grind arith;
  kept_err = line.kept;
  rose = rose line.same;
  answered = answered;
}
  where
    rose : (end ≡ went) ⊎ ((end ≡ SinkFault) × Rose before after) → end ≡ SinkFault
        → (Rose out out ⊎ Rose before after) ⊎ ComesFromInside generated SinkFault
    rose (inl same) is = absurd (never (sym same ∙ is))
    rose (inr failed) is = inl (inr failed.1)

    answered : (out < out) ⊎ (before < after) → end ≡ SinkFault
    answered (inl later) = absurd (omega (arith, later))
    answered (inr later) = line.answered later
