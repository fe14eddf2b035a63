-- What is added to a lawful history.
use Rattle.std.proofs.Common.{List, ◌++◌, subst, sym}
use Rattle.mk_world.specs.Calls.{AddsEvents}
use Rattle.mk_world.specs.History.{State, MayAll, first_state}
use Rattle.mk_world.specs.Lawful.{IsLawful, RunsStayLawful}
use Rattle.mk_world.specs.Talks.{Meaning}
use Rattle.mk_world.specs.declared.history.Happening.{Happening}
use Rattle.mk_world.specs.declared.history.History.{History}
use Rattle.mk_world.proofs.CallLemmas.{MayAll-append}

pub runs_stay_lawful : (meaning : Meaning) → RunsStayLawful meaning
runs_stay_lawful meaning old new run lawful = record {
  events = subst (λ base. MayAll meaning (first_state base) new.events) (sym run.base)
      (subst (λ events. MayAll meaning (first_state old.base) events) (sym run.longer)
      (MayAll-append meaning (first_state old.base) old.events run.events lawful.events run.lawful));
}

-- a call of a world keeps its history lawful
pub AddsEvents-lawful : {meaning : Meaning} {Own : State → List Happening → Type 0}
    {old new : History} → AddsEvents meaning Own old new → IsLawful meaning old
    → IsLawful meaning new
AddsEvents-lawful {meaning} {Own} {old} {new} adds lawful =
    runs_stay_lawful meaning old new (record {
      events = adds.early ++ (adds.own ++ adds.late);
      base = adds.base;
      longer = adds.events;
      lawful = adds.lawful;
    }) lawful
