-- What a command line asks for, and how it changes.
use Rattle.std.specs.Prelude.{ℕ, ◌≤◌, Bool, true, false, List, [], ◌∷◌, ◌++◌, Some, None, IfSome}
use Rattle.mk_flags.specs.declared.Flags.{Flags}
use Rattle.mk_cli.specs.declared.order.Order.{Order}
use Rattle.mk_cli.specs.declared.order.Set.{Set}
use Rattle.mk_cli.specs.declared.reading.Expected.TheVariants.{Any}
use Rattle.mk_cli.specs.declared.reading.Reading.{Reading}

-- The numbers of an order are in their ranges: 1 to 256 jobs, 1 to 10,000 generated makefiles.
pub record IsInRange (order : Order) : Type 0 where
  pub jobs : (1 ≤ order.flags.jobs) × (order.flags.jobs ≤ 256)
  pub generate : IfSome order.generate (λ count. (1 ≤ count) × (count ≤ 10000))

-- without any option there is one job
abbrev pub no_flags : Flags
no_flags = record {
  jobs = 1;
  keep_going = false;
  ignore = false;
  silent = false;
  dry = false;
  query = false;
  progress = false;
  requested = [];
}

-- what no words ask for
abbrev pub no_order : Order
no_order = record {
  files = [];
  near = [];
  system = [];
  sets = [];
  prints = [];
  env_first = false;
  audit = false;
  explain = false;
  generate = None;
  flags = no_flags;
}

-- before the first word
abbrev pub first_reading : Reading
first_reading = record { order = no_order; one_job = false; expected = Any }

-- a reading with this order in place of its own
abbrev pub with_order : Reading → Order → Reading
with_order r order = record r { order = order }

-- a reading whose order has these flags
abbrev pub with_flags : Reading → Flags → Reading
with_flags r flags = with_order r (record r.order { flags = flags })

-- one more makefile
abbrev pub with_file : Order → List ℕ → Order
with_file order path = record order { files = order.files ++ path ∷ [] }

-- one more directory for makefiles in quotes
abbrev pub with_near : Order → List ℕ → Order
with_near order path = record order { near = order.near ++ path ∷ [] }

-- one more directory for makefiles in angle brackets
abbrev pub with_system : Order → List ℕ → Order
with_system order path = record order { system = order.system ++ path ∷ [] }

-- one more assignment
abbrev pub with_set : Order → Set → Order
with_set order set = record order { sets = order.sets ++ set ∷ [] }

-- one more print
abbrev pub with_print : Order → Bool → List ℕ → Order
with_print order full text =
    record order { prints = order.prints ++ record { full = full; text = text } ∷ [] }

-- this many jobs, whatever was said before
abbrev pub with_jobs : Order → ℕ → Order
with_jobs order jobs = record order { flags = record order.flags { jobs = jobs } }

-- what breaches what a build stands on is asked
abbrev pub with_audit : Order → Order
with_audit order = record order { audit = true }

-- why targets are out of date is asked
abbrev pub with_explain : Order → Order
with_explain order = record order { explain = true }

-- how far the build has come is to be shown
abbrev pub with_progress : Order → Order
with_progress order = record order { flags = record order.flags { progress = true } }

-- this many makefiles to generate
abbrev pub with_generate : Order → ℕ → Order
with_generate order count = record order { generate = Some count }
