-- What is written so is read: terms with `!` and parentheses, between `&&`, between `||`.
use Rattle.std.proofs.Common.{◌≡◌, inl, inr, ℕ, zero, suc, ◌-◌, ◌≤◌, true, List, [], ◌∷◌}
use Rattle.std.proofs.Common.{◌++◌, ◌≢◌, length, drop, Ok, Err, refl, sym, ap, ◌∙◌, arith}
use Rattle.std.proofs.Common.{length-drop}
use Rattle.mk_bytes.specs.Agrees.{AgreesErr}
use Rattle.mk_cond.specs.Cond.{Cond, Conds, no_more, cond_then}
use Rattle.mk_cond.specs.Terms.{skip_blanks, begins}
use Rattle.mk_cond.specs.Conditions.{Reader, begins_joint, joint_text, more_at, joined_at, parts_of}
use Rattle.mk_cond.specs.Conditions.{or_at, inner_at, unit_at, max_open, condition_of}
use Rattle.mk_cond.specs.Grammar.{Rule, IsMore, IsJoined, IsPartOf, IsOr, IsUnit, IsCondition}
use Rattle.mk_cond.specs.declared.cond.Form.{Form}
use Rattle.mk_cond.specs.declared.fault.CondFault.{CondFault}
use Rattle.mk_cond.specs.declared.fault.CondFault.TheVariants.{NoMemory as no_memory}
use Rattle.mk_cond.specs.declared.read.Joint.{Joint}
use Rattle.mk_cond.specs.declared.read.Joint.TheVariants.{Or, And}
use Rattle.mk_cond.proofs.Given.{OnGiven-of}
use Rattle.mk_cond.proofs.Turns.{a_sign_is_there, more_at-over, more_at-more}
use Rattle.mk_cond.proofs.Written.{Leaves, skip_blanks-shorter}
use Rattle.mk_cond.proofs.WrittenConditions.{Writes, parts_of-written}
use Rattle.mk_cond.proofs.WrittenConditions.{unit_at-written}
use Rattle.mk_cond.proofs.ReadAgain.{term_at-read}

-- a reader reads what a rule says
abbrev Reads : Reader → Rule → Type 0
Reads read Is = (c : Cond) (bytes rest : List ℕ) → Is c bytes rest → read bytes ≡ Ok (c, rest)

sign-begins : (joint : Joint) (behind : List ℕ)
    → begins_joint joint (joint_text joint ++ behind) ≡ true
unfolding begins
sign-begins Or behind = refl
sign-begins And behind = refl

behind-sign : (joint : Joint) (behind : List ℕ) → drop 2 (joint_text joint ++ behind) ≡ behind
behind-sign Or behind = refl
behind-sign And behind = refl

more_at-read : (joint : Joint) (parts : Reader) (Parts : Rule) → Writes parts Parts
    → Reads parts Parts → (turns : ℕ) (conds : Conds) (bytes rest : List ℕ) → length bytes ≤ turns
    → IsMore joint Parts conds bytes rest → more_at joint parts turns bytes ≡ Ok (conds, rest)
more_at-read joint parts Parts writes reads turns no_more bytes rest fits is =
    more_at-over joint parts turns bytes is.0 ∙ rw is.1 refl
more_at-read joint parts Parts writes reads turns (cond_then c conds) bytes rest fits is =
    let behind = is.0 in
    let left = is.1 in
    let begins : begins_joint joint bytes ≡ true =
    ap (begins_joint joint) is.2 ∙ sign-begins joint behind in
    let dropped : drop 2 bytes ≡ behind = ap (drop 2) is.2 ∙ behind-sign joint behind in
    let one = reads c behind left is.3 in
    let shorter = (OnGiven-of (Leaves Parts behind) (parts behind) c left (writes behind) one).1 in
    let some = a_sign_is_there joint bytes begins in
    let next = more_at-read joint parts Parts writes reads (turns - 1) conds (skip_blanks left) rest
    (omega (
      arith,
      fits,
      some,
      shorter,
      skip_blanks-shorter left,
      ap length dropped,
      length-drop 2 bytes,
    )) is.4 in
    rw (more_at-more joint parts turns bytes fits begins, dropped, one, next) refl

joined_at-read : (joint : Joint) (parts : Reader) (Parts : Rule) → Writes parts Parts
    → Reads parts Parts → Reads (joined_at joint parts) (IsJoined joint Parts)
joined_at-read joint parts Parts writes reads c bytes rest is =
    let behind = skip_blanks is.2 in
    let more = more_at-read joint parts Parts writes reads (length behind) is.1 behind rest
    (omega arith) is.5 in
    rw (is.3, reads is.0 bytes is.2 is.4, more) refl

parts_of-read : (joint : Joint) (units : Reader) (Units : Rule) → Writes units Units
    → Reads units Units → Reads (parts_of joint units) (IsPartOf joint Units)
parts_of-read Or units Units writes reads = joined_at-read And units Units writes reads
parts_of-read And units Units writes reads = reads

or_at-read : (units : Reader) (Units : Rule) → Writes units Units → Reads units Units
    → Reads (or_at units) (IsOr Units)
or_at-read units Units writes reads =
    joined_at-read Or (parts_of Or units) (IsPartOf Or Units)
    (parts_of-written Or units Units writes) (parts_of-read Or units Units writes reads)

unit_at-read : (total : ℕ) (form : Form) (depth : ℕ)
    → Reads (unit_at total form depth) (IsUnit form depth)
unfolding inner_at IsUnit begins
unit_at-read total form zero c bytes rest is =
    rw (is.0, is.1) (term_at-read total form c (skip_blanks bytes) rest is.2)
unit_at-read total form (suc depth) c bytes rest (inl is) =
    rw (is.0, is.1) (term_at-read total form c (skip_blanks bytes) rest is.2)
unit_at-read total form (suc depth) c bytes rest (inr (inl is)) =
    rw (is.3, unit_at-read total form depth is.0 is.1 rest is.4, is.2) refl
unit_at-read total form (suc depth) c bytes rest (inr (inr is)) =
    let units = unit_at total form depth in
    let inside = or_at-read units (IsUnit form depth) (unit_at-written total form depth)
    (unit_at-read total form depth) c is.0 (41 ∷ rest) is.2 in
    rw (is.1, inside) refl

-- What is written so is read.
pub condition_of-read : (form : Form) (text : List ℕ) (c : Cond) → IsCondition form c text
    → condition_of form text ≡ Ok c
condition_of-read form text c is =
    let total = length text in
    rw (or_at-read (unit_at total form max_open) (IsUnit form max_open)
    (unit_at-written total form max_open) (unit_at-read total form max_open) c text [] is) refl

-- A text is one condition at most.
pub IsCondition-one : (form : Form) (text : List ℕ) (c d : Cond) → IsCondition form c text
    → IsCondition form d text → c ≡ d
IsCondition-one form text c d one other =
    let first = condition_of-read form text c one in
    let second = condition_of-read form text d other in
    cc

-- A text with a fault is no condition.
pub IsCondition-fault : (form : Form) (text : List ℕ) (fault : CondFault)
    → AgreesErr no_memory fault (condition_of form text) → fault ≢ no_memory
    → (c : Cond) → IsCondition form c text → ⊥
IsCondition-fault form text fault (inl is) other c written = other is
IsCondition-fault form text fault (inr is) other c written =
    Ok-not-Err c fault (sym (condition_of-read form text c written) ∙ is)
  where
    Ok-not-Err : (c : Cond) (fault : CondFault) → Ok c ≡ Err fault → ⊥
    Ok-not-Err c fault same = cc
