-- Runs in a generated world, one behind the other.
use Rattle.std.proofs.Common.{◌≡◌, ◌⊎◌, ℕ, List, [], Result, Ok, Err, Some, IfOk, IfErr, inl, inr, sym, ap, subst}
use Rattle.mk_commands.specs.Meaning.{language}
use Rattle.mk_memworld.specs.Outages.{first_outages}
use Rattle.mk_memworld.specs.declared.sink.MemSink.{MemSink}
use Rattle.mk_memworld.specs.declared.world.MemWorld.{MemWorld}
use Rattle.mk_modes.specs.Building.{point}
use Rattle.mk_modes.specs.Causes.{WorldCause, SinkCause}
use Rattle.mk_run.specs.TrueRuns.{IsTrueOrderRun}
use Rattle.mk_modes.specs.declared.report.End.{End}
use Rattle.mk_modes.specs.declared.report.End.TheVariants.{Done, NoMemory}
use Rattle.mk_modes.specs.declared.report.Report.{Report}
use Rattle.mk_generate.specs.Inside as spec
use Rattle.mk_generate.specs.declared.inside.Request.{Request}

-- a run of a request, between worlds and with new sinks
abbrev Runs : Request → MemWorld → MemWorld → List ℕ → List ℕ → MemSink → MemSink → Report → Type 0
Runs request before after held_out held_err out err report =
    IsTrueOrderRun language request.words request.env request.order
    (point (Some before.chronicle) (Some held_out)) (point (Some after.chronicle) (Some out.held.items))
    (record { before = Some held_err; after = Some err.held.items }) report

pub runs-inside : (request : Request) (before after : MemWorld) (new_out new_err out err : MemSink)
    (report : Report) → request ≡ spec.request → new_out.held.items ≡ [] → new_err.held.items ≡ []
    → new_out.outages ≡ first_outages [] → new_err.outages ≡ first_outages []
    → Runs request before after new_out.held.items new_err.held.items out err report
    → WorldCause before.outages.faults after.outages.faults report.end
    → SinkCause new_out.outages.faults out.outages.faults new_err.outages.faults err.outages.faults report.end
    → spec.RunsInside before after report
runs-inside request before after new_out new_err out err report is out_new err_new out_none err_none ran world sinks =
    record {
      out = out;
      err = err;
      ran = subst (λ r. Runs r before after [] [] out err report) is
          (subst (λ e. Runs request before after [] e out err report) err_new
          (subst (λ o. Runs request before after o new_err.held.items out err report) out_new ran));
      world_fault = world;
      sink_fault =
          subst (λ e. SinkCause 0 out.outages.faults e err.outages.faults report.end)
          (ap (λ o. o.faults) err_none)
          (subst (λ o. SinkCause o out.outages.faults new_err.outages.faults err.outages.faults report.end)
          (ap (λ o. o.faults) out_none) sinks);
    }

-- a run that has made all, or not
pub all-made : (old new : MemWorld) (report : Report) (result : Result Report End)
    → spec.RunsInside old new report
    → IfOk result (λ made. (made ≡ report) × (report.end ≡ Done))
    → IfOk result (λ made. spec.RunsInside old new made × (made.end ≡ Done))
all-made old new report (Ok made) runs is =
    subst (λ made. spec.RunsInside old new made × (made.end ≡ Done)) (sym is.0) (runs, is.1)
all-made old new report (Err end) runs is = tt

pub not-made : (old new : MemWorld) (report : Report) (result : Result Report End)
    → spec.RunsInside old new report
    → IfErr result (λ end. (end ≡ report.end) × (report.end ≡ Done → ⊥))
    → IfErr result (spec.Stops old new)
not-made old new report (Ok made) runs is = tt
not-made old new report (Err end) runs is =
    inr (record { report = report; runs = runs; unmade = is.1; is = is.0 })

-- where a first run, the change or a second run ends what is done
pub first-stops : (n : ℕ) (before after : MemWorld) (end : End) → spec.IsNew n before
    → spec.Stops before after end → spec.EndsInside n end
first-stops n before after end is_new (inl want) = inl want
first-stops n before after end is_new (inr ends) =
    inr (inl (record { before = before; after = after; is_new = is_new; ends = ends }))

pub change-stops : (n : ℕ) (world : MemWorld) (report : Report) (end : End)
    → spec.RunsFirst n world report → (end ≡ NoMemory) ⊎ spec.IsLate world end → spec.EndsInside n end
change-stops n world report end runs (inl want) = inl want
change-stops n world report end runs (inr late) =
    inr (inr (inl (record { world = world; report = report; runs = runs; ends = late })))

pub second-stops : (n : ℕ) (before after : MemWorld) (first : Report) (end : End)
    → spec.IsChanged n before first → spec.Stops before after end → spec.EndsInside n end
second-stops n before after first end changed (inl want) = inl want
second-stops n before after first end changed (inr ends) =
    inr (inr (inr (record { first = first; before = before; after = after; changed = changed; ends = ends })))

pub between-stops : (n : ℕ) (before after : MemWorld) (first : Report) (end : End) → spec.IsNew n before
    → spec.RunsInside before after first → first.end ≡ Done → (end ≡ NoMemory) ⊎ spec.IsLate after end
    → spec.EndsInside n end
between-stops n before after first end new runs made (inl want) = inl want
between-stops n before after first end new runs made (inr late) =
    inr (inr (inl (record {
      world = after;
      report = first;
      runs = record { before = before; is_new = new; runs = runs; made = made };
      ends = late;
    })))
