-- Which calls fail, and how the failures are counted.
use Rattle.std.specs.Prelude.{◌≡◌, ◌⊎◌, ℕ, ◌+◌, min, Bool, true, false, List, [], ◌∷◌, Result, Ok}
use Rattle.std.specs.Prelude.{Err, if◌then◌else◌}
use Rattle.mk_world.specs.Causes.{last_count}
use Rattle.mk_world.specs.declared.fault.WorldFault.{WorldFault}
use Rattle.mk_world.specs.declared.fault.WorldFault.TheVariants.{Failed, NoMemory}
use Rattle.mk_memworld.specs.declared.outage.CallKind.{CallKind}
use Rattle.mk_memworld.specs.declared.outage.CallKind.TheVariants as kind
use Rattle.mk_memworld.specs.declared.outage.Fail.{Fail}
use Rattle.mk_memworld.specs.declared.outage.Made.{Made}
use Rattle.mk_memworld.specs.declared.outage.Outages.{Outages}

-- one more, up to the last value
abbrev pub one_more : ℕ → ℕ
one_more count = min (count + 1) last_count

abbrev pub none_made : Made
none_made = record {
  read = 0;
  time = 0;
  list = 0;
  stamp = 0;
  put = 0;
  remove = 0;
  ask = 0;
  start = 0;
  wait_any = 0;
  write = 0;
}

abbrev pub first_outages : List Fail → Outages
first_outages fails = record { fails = fails; made = none_made; faults = 0 }

abbrev pub made_of : Made → CallKind → ℕ
made_of made kind.Read = made.read
made_of made kind.Time = made.time
made_of made kind.List = made.list
made_of made kind.Stamp = made.stamp
made_of made kind.Put = made.put
made_of made kind.Remove = made.remove
made_of made kind.Ask = made.ask
made_of made kind.Start = made.start
made_of made kind.WaitAny = made.wait_any
made_of made kind.Write = made.write

-- one call of a kind more
abbrev pub counted : Made → CallKind → Made
counted made kind.Read = record made { read = one_more made.read }
counted made kind.Time = record made { time = one_more made.time }
counted made kind.List = record made { list = one_more made.list }
counted made kind.Stamp = record made { stamp = one_more made.stamp }
counted made kind.Put = record made { put = one_more made.put }
counted made kind.Remove = record made { remove = one_more made.remove }
counted made kind.Ask = record made { ask = one_more made.ask }
counted made kind.Start = record made { start = one_more made.start }
counted made kind.WaitAny = record made { wait_any = one_more made.wait_any }
counted made kind.Write = record made { write = one_more made.write }

-- an entry names this call
abbrev pub IsNamed : CallKind → ℕ → List Fail → Type 0
IsNamed kind nth [] = ⊥
IsNamed kind nth (fail ∷ fails) =
    ((fail.call ≡ kind) × (fail.nth ≡ nth)) ⊎ IsNamed kind nth fails

-- The next call of this kind is to fail.
abbrev pub IsStruck : Outages → CallKind → Type 0
IsStruck outages kind = IsNamed kind (one_more (made_of outages.made kind)) outages.fails

abbrev pub with_call : Outages → CallKind → Outages
with_call outages kind = record outages { made = counted outages.made kind }

abbrev pub with_fault : Outages → Outages
with_fault outages = record outages { faults = one_more outages.faults }

abbrev pub is_failure : {T : Type 0} → Result T WorldFault → Bool
is_failure (Ok answer) = false
is_failure (Err Failed) = true
is_failure (Err NoMemory) = false

-- a fault is counted exactly where the answer is one
abbrev pub with_answer : {T : Type 0} → Outages → Result T WorldFault → Outages
with_answer outages result = if is_failure result then with_fault outages else outages

-- `Failed` is answered exactly where it has this cause, unless memory ran out.
abbrev pub FailsWhere : {T : Type 0} → Type 0 → Result T WorldFault → Type 0
FailsWhere Cause (Ok answer) = Cause → ⊥
FailsWhere Cause (Err Failed) = Cause
FailsWhere Cause (Err NoMemory) = Unit {0}

-- this holds where the answer is `Failed`
abbrev pub OnFailed : {T : Type 0} → Result T WorldFault → Type 0 → Type 0
OnFailed (Ok answer) Fact = Unit {0}
OnFailed (Err Failed) Fact = Fact
OnFailed (Err NoMemory) Fact = Unit {0}

-- this holds where memory ran out
abbrev pub OnNoMemory : {T : Type 0} → Result T WorldFault → Type 0 → Type 0
OnNoMemory (Ok answer) Fact = Unit {0}
OnNoMemory (Err Failed) Fact = Unit {0}
OnNoMemory (Err NoMemory) Fact = Fact
