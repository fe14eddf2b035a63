-- The counts of faults over a run, with those of a generated world.
use Rattle.std.specs.Prelude.{◌≡◌, ◌⊎◌, ℕ, ◌<◌, ◌≤◌, List, Option, Some, None, Result, Ok, Err}
use Rattle.mk_cli.specs.declared.order.Order.{Order}
use Rattle.mk_modes.specs.Meaning.{asked}
use Rattle.mk_modes.specs.declared.report.End.{End}
use Rattle.mk_modes.specs.declared.report.End.TheVariants.{WorldFault, SinkFault}
use Rattle.mk_world.specs.Causes.{Rose}
use Rattle.mk_generate.specs.Inside.{EndsInside}

-- how many targets the words ask to generate, where they do
abbrev pub generated_by : Result Order End → Option ℕ
generated_by (Ok order) = order.generate
generated_by (Err end) = None

abbrev pub generated : List ℕ → List (List ℕ) → Option ℕ
generated cwd words = generated_by (asked cwd words)

-- an end that comes from a generated world: from its count, or those of the sinks inside
-- (RunsInside)
abbrev pub ComesFromInside : Option ℕ → End → Type 0
ComesFromInside None end = ⊥
ComesFromInside (Some n) end = EndsInside n end

-- The world's count of faults over a run: `WorldFault` comes only where it rose or is at its end,
-- or from a generated world, and a rise is answered by it, or by a failed write behind it.
pub record WorldCause (generated : Option ℕ) (before after : ℕ) (end : End) : Type 0 where
  pub kept : before ≤ after
  pub rose : end ≡ WorldFault → Rose before after ⊎ ComesFromInside generated WorldFault
  pub answered : before < after → (end ≡ WorldFault) ⊎ (end ≡ SinkFault)

-- The sinks' counts: `SinkFault` comes only where one of them rose or is at its end, or from a sink
-- inside, and a rise is answered by it.
pub record SinkCause (generated : Option ℕ) (out_before out_after err_before err_after : ℕ) (end : End)
    : Type 0
  where
    pub kept_out : out_before ≤ out_after
    pub kept_err : err_before ≤ err_after
    pub rose : end ≡ SinkFault
        → (Rose out_before out_after ⊎ Rose err_before err_after)
        ⊎ ComesFromInside generated SinkFault
    pub answered : (out_before < out_after) ⊎ (err_before < err_after) → end ≡ SinkFault
