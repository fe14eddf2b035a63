-- Reading a condition: terms, with `!` and parentheses, between `&&`, between `||`.
use Rattle.std.specs.Prelude.{ℕ, zero, suc, ◌-◌, ◌||◌, Bool, if◌then◌else◌, List, [], ◌∷◌, length}
use Rattle.std.specs.Prelude.{drop, Option, Some, None, Result, Ok, Err, codes}
use Rattle.mk_bytes.specs.Agrees.{◌>>=◌}
use Rattle.mk_cond.specs.Cond.{Cond, Conds, any, all, negate, no_more, cond_then}
use Rattle.mk_cond.specs.Terms.{Read, bad_at, skip_blanks, begins, term_at}
use Rattle.mk_cond.specs.declared.cond.Form.{Form}
use Rattle.mk_cond.specs.declared.fault.CondFault.{CondFault}
use Rattle.mk_cond.specs.declared.fault.CondFault.TheVariants.{Bad, TooDeep}
use Rattle.mk_cond.specs.declared.read.Joint.{Joint}
use Rattle.mk_cond.specs.declared.read.Joint.TheVariants.{Or, And}

abbrev pub Reader : Type 0
Reader = List ℕ → Read Cond

-- Joined conditions

abbrev pub joint_text : Joint → List ℕ
joint_text Or = codes "||"
joint_text And = codes "&&"

abbrev pub begins_joint : Joint → List ℕ → Bool
begins_joint joint bytes = begins (joint_text joint) bytes

abbrev pub joint_cond : Joint → Conds → Cond
joint_cond Or conds = any conds
joint_cond And conds = all conds

-- One condition is itself; more are joined.
abbrev pub joined : Joint → Cond → Conds → Cond
joined joint first no_more = first
joined joint first (cond_then c more) = joint_cond joint (cond_then first (cond_then c more))

-- The conditions from a sign on: as often as it stands there, one more. The number bounds them; the
-- length of the bytes is always enough.
unfoldable pub more_at : Joint → Reader → ℕ → List ℕ → Read Conds
more_at joint parts zero bytes = Ok (no_more, bytes)
more_at joint parts (suc turns) bytes =
    if begins_joint joint bytes then (parts (drop 2 bytes)
    >>= λ c. more_at joint parts turns (skip_blanks c.1)
    >>= λ more. Ok (cond_then c.0 more.0, more.1))
    else Ok (no_more, bytes)

-- from these bytes on
abbrev pub more_in : Joint → Reader → List ℕ → Read Conds
more_in joint parts bytes = more_at joint parts (length bytes) bytes

-- conditions with a sign between them, and the blanks behind them
abbrev pub joined_at : Joint → Reader → Reader
joined_at joint parts bytes =
    parts bytes
    >>= λ first. more_in joint parts (skip_blanks first.1)
    >>= λ more. Ok (joined joint first.0 more.0, more.1)

-- between `||` stand conditions that `&&` joins, and between `&&` units
abbrev pub parts_of : Joint → Reader → Reader
parts_of Or units = joined_at And units
parts_of And units = units

abbrev pub or_at : Reader → Reader
or_at units = joined_at Or (parts_of Or units)

-- Units

-- `!` stands for the whole unit behind it
abbrev pub negated_at : Reader → Reader
negated_at units bytes = units bytes >>= λ c. Ok (negate c.0, c.1)

-- past the parenthesis that closes a condition
abbrev pub closed : ℕ → Cond × List ℕ → Read Cond
closed total c =
    if begins (codes ")") c.1 then Ok (c.0, drop 1 c.1) else bad_at total c.1

-- a condition in parentheses, behind the first
abbrev pub grouped_at : ℕ → Reader → Reader
grouped_at total units bytes = or_at units bytes >>= λ c. closed total c

abbrev pub inside_at : ℕ → Reader → Reader
inside_at total units bytes =
    if begins (codes "!") bytes then negated_at units (drop 1 bytes)
    else grouped_at total units (drop 1 bytes)

-- a `!` or a parenthesis, with what is inside, where one more may be opened
abbrev pub opened_at : ℕ → Option Reader → Reader
opened_at total None bytes = Err (TooDeep (total - length bytes))
opened_at total (Some units) bytes = inside_at total units bytes

abbrev pub unit_of : ℕ → Form → Option Reader → Reader
unit_of total form inner bytes =
    if begins (codes "!") bytes || begins (codes "(") bytes then opened_at total inner bytes
    else term_at total form bytes

-- a unit: a term, one in parentheses, or one that is turned round
abbrev pub unit_in : ℕ → Form → Option Reader → Reader
unit_in total form inner bytes = unit_of total form inner (skip_blanks bytes)

-- the units inside, where so many more parentheses and `!` may be open at once
unfoldable pub inner_at : ℕ → Form → ℕ → Option Reader
inner_at total form zero = None
inner_at total form (suc depth) = Some (unit_in total form (inner_at total form depth))

abbrev pub unit_at : ℕ → Form → ℕ → Reader
unit_at total form depth = unit_in total form (inner_at total form depth)

-- Whole conditions

-- how many parentheses and `!` may be open at once
abbrev pub max_open : ℕ
max_open = 256

-- what is left behind a condition does not fit
abbrev pub whole : ℕ → Cond × List ℕ → Result Cond CondFault
whole total (c, []) = Ok c
whole total (c, byte ∷ bytes) = Err (Bad (total - length (byte ∷ bytes)))

-- The condition that a text is, or its first fault.
abbrev pub condition_of : Form → List ℕ → Result Cond CondFault
condition_of form text =
    or_at (unit_at (length text) form max_open) text >>= λ c. whole (length text) c
