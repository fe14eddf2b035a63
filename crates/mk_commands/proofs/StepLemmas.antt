-- What a step changes, by its effects.
use Rattle.std.proofs.Common.{◌≡◌, ℕ, ◌+◌, refl, sym, subst, arith}
use Rattle.mk_world.specs.Deeds.{changes}
use Rattle.mk_world.specs.History.{NotEarlier, at_time, last_time}
use Rattle.mk_world.specs.declared.step.Deed.{Deed}
use Rattle.mk_world.specs.declared.step.Deed.TheVariants.{Read, Miss, Write, Delete, Move}
use Rattle.mk_commands.specs.Clock.{numbers_of, time_of}

-- the clock after a step
pub last_time-step : (clock : ℕ) (deed : Deed)
    → last_time clock (at_time (time_of clock deed) (changes deed)) ≡ time_of clock deed
last_time-step clock (Read path bytes) = omega arith
last_time-step clock (Miss path) = omega arith
last_time-step clock (Write path bytes) = refl
last_time-step clock (Delete path) = refl
last_time-step clock (Move from to bytes) = refl

-- a change takes no earlier time
pub NotEarlier-step : (clock : ℕ) (deed : Deed)
    → NotEarlier clock (at_time (time_of clock deed) (changes deed))
NotEarlier-step clock (Read path bytes) = tt
NotEarlier-step clock (Miss path) = tt
NotEarlier-step clock (Write path bytes) = (omega arith, tt)
NotEarlier-step clock (Delete path) = (omega arith, tt)
NotEarlier-step clock (Move from to bytes) = (omega arith, (omega arith, tt))

pub last_time-taken : (clock taken : ℕ) (deed : Deed) → taken ≡ numbers_of deed
    → last_time clock (at_time (clock + taken) (changes deed)) ≡ clock + taken
last_time-taken clock taken deed is =
    subst (λ n. last_time clock (at_time (clock + n) (changes deed)) ≡ clock + n) (sym is)
    (last_time-step clock deed)

pub NotEarlier-taken : (clock taken : ℕ) (deed : Deed) → taken ≡ numbers_of deed
    → NotEarlier clock (at_time (clock + taken) (changes deed))
NotEarlier-taken clock taken deed is =
    subst (λ n. NotEarlier clock (at_time (clock + n) (changes deed))) (sym is) (NotEarlier-step clock deed)
