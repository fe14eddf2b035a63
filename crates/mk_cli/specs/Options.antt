-- What options change in the order of a command line.
use Rattle.std.specs.Prelude.{ℕ, Bool, true, false, ◌||◌, List, [], ◌∷◌, ◌++◌, Result, Ok, Err}
use Rattle.std.specs.Prelude.{if◌then◌else◌, codes}
use Rattle.std.specs.Str.{bytes_eq}
use Rattle.mk_bytes.specs.Agrees.{◌>>=◌}
use Rattle.mk_scopes.specs.declared.scopes.Class.TheVariants.{Global}
use Rattle.mk_cli.specs.Numbers.{number}
use Rattle.mk_cli.specs.Orders.{with_order, with_flags, with_file, with_near, with_system}
use Rattle.mk_cli.specs.Orders.{with_set, with_print, with_jobs, with_generate}
use Rattle.mk_cli.specs.declared.letter.Argument.{Argument}
use Rattle.mk_cli.specs.declared.letter.Argument.TheVariants as takes
use Rattle.mk_cli.specs.declared.letter.Flag.{Flag}
use Rattle.mk_cli.specs.declared.letter.Flag.TheVariants as flag
use Rattle.mk_cli.specs.declared.order.AssignOp.TheVariants.{Plain}
use Rattle.mk_cli.specs.declared.order.Order.{Order}
use Rattle.mk_cli.specs.declared.order.Set.{Set}
use Rattle.mk_cli.specs.declared.order.Usage.{Usage}
use Rattle.mk_cli.specs.declared.order.Usage.TheVariants.{Word}
use Rattle.mk_cli.specs.declared.reading.Reading.{Reading}

-- What a letter that stands alone changes.
abbrev pub with_flag : Reading → Flag → Reading
with_flag r flag.OneJob = record r { one_job = true }
with_flag r flag.EnvFirst = with_order r (record r.order { env_first = true })
with_flag r flag.Ignore = with_flags r (record r.order.flags { ignore = true })
with_flag r flag.KeepGoing = with_flags r (record r.order.flags { keep_going = true })
with_flag r flag.Dry = with_flags r (record r.order.flags { dry = true })
with_flag r flag.Query = with_flags r (record r.order.flags { query = true })
with_flag r flag.NoBuiltin = r
with_flag r flag.Stop = with_flags r (record r.order.flags { keep_going = false })
with_flag r flag.Silent = with_flags r (record r.order.flags { silent = true })

-- an empty text and a lone `-` name no file
abbrev pub names_nothing : List ℕ → Bool
names_nothing text = bytes_eq text [] || bytes_eq text (codes "-")

-- a bad path refuses the word that holds it
abbrev pub path : ℕ → List ℕ → Result (List ℕ) Usage
path place text = if names_nothing text then Err (Word place) else Ok text

-- a path behind others
abbrev pub with_path : ℕ → List (List ℕ) → List ℕ → Result (List (List ℕ)) Usage
with_path place paths text = path place text >>= λ p. Ok (paths ++ p ∷ [])

-- a global that is set to `1`
abbrev pub definition : List ℕ → Set
definition name = record { class = Global; op = Plain; name = name; value = codes "1" }

-- What an option with an argument changes, where its argument is held by the word at `place`.
abbrev pub with_argument : ℕ → Order → Argument → List ℕ → Result Order Usage
with_argument place o takes.Define text = Ok (with_set o (definition text))
with_argument place o takes.File text = path place text >>= λ p. Ok (with_file o p)
with_argument place o takes.Generate text = number 10000 place text >>= λ n. Ok (with_generate o n)
with_argument place o takes.Jobs text = number 256 place text >>= λ n. Ok (with_jobs o n)
with_argument place o takes.Near text = path place text >>= λ p. Ok (with_near o p)
with_argument place o takes.Print text = Ok (with_print o false text)
with_argument place o takes.PrintFull text = Ok (with_print o true text)
with_argument place o takes.System text = path place text >>= λ p. Ok (with_system o p)
