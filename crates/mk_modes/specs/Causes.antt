-- The counts of faults over a run.
use Rattle.std.specs.Prelude.{◌≡◌, ◌⊎◌, ℕ, ◌<◌, ◌≤◌}
use Rattle.mk_world.specs.Causes.{Rose}
use Rattle.mk_modes.specs.declared.report.End.{End}
use Rattle.mk_modes.specs.declared.report.End.TheVariants.{WorldFault, SinkFault}

-- The count of an object before the line of the end is written: its fault ends the run only where
-- the count rose or is at its end, and a rise is answered so.
pub record EndCause (failed : End) (before after : ℕ) (end : End) : Type 0 where
  pub kept : before ≤ after
  pub answered : before < after → end ≡ failed
  pub rose : end ≡ failed → Rose before after

-- the count of standard error's faults over the writing of the line of the end
pub record LineCause (before after : ℕ) (went end : End) : Type 0 where
  pub kept : before ≤ after
  pub same : (end ≡ went) ⊎ ((end ≡ SinkFault) × Rose before after)
  pub answered : before < after → end ≡ SinkFault

-- The world's count of faults over a run: `WorldFault` comes only where it rose or is at its end,
-- and a rise is answered by it, or by a failed write behind it.
pub record WorldCause (before after : ℕ) (end : End) : Type 0 where
  pub kept : before ≤ after
  pub rose : end ≡ WorldFault → Rose before after
  pub answered : before < after → (end ≡ WorldFault) ⊎ (end ≡ SinkFault)

-- The sinks' counts: `SinkFault` comes only where one of them rose or is at its end, and a rise is
-- answered by it.
pub record SinkCause (out_before out_after err_before err_after : ℕ) (end : End) : Type 0 where
  pub kept_out : out_before ≤ out_after
  pub kept_err : err_before ≤ err_after
  pub rose : end ≡ SinkFault → Rose out_before out_after ⊎ Rose err_before err_after
  pub answered : (out_before < out_after) ⊎ (err_before < err_after) → end ≡ SinkFault
