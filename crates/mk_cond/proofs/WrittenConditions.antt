-- What is read is written so: terms with `!` and parentheses, between `&&`, between `||`.
use Rattle.std.proofs.Common.{◌≡◌, ◌⊎◌, inl, inr, ℕ, zero, suc, ◌≤◌, ◌||◌, true, false, List, []}
use Rattle.std.proofs.Common.{◌∷◌, ◌++◌, length, drop, Ok, Err, refl, sym, ap, subst, ◌∙◌, arith}
use Rattle.std.proofs.Common.{length-drop}
use Rattle.std.proofs.Common.{codes}
use Rattle.std.proofs.lemmas.Bool.{cond_both, or_parts}
use Rattle.mk_bytes.specs.Agrees.{◌>>=◌}
use Rattle.mk_bytes.specs.Bytes.{exclamation, round_open, round_close}
use Rattle.mk_cond.specs.Cond.{Cond, negate, cond_then}
use Rattle.mk_cond.specs.Terms.{Read, skip_blanks, begins, term_at}
use Rattle.mk_cond.specs.Conditions.{Reader, begins_joint, joint_text, joined, more_at, more_in}
use Rattle.mk_cond.specs.Conditions.{joined_at, parts_of, or_at, negated_at, grouped_at}
use Rattle.mk_cond.specs.Conditions.{inside_at, inner_at, unit_at, max_open, whole}
use Rattle.mk_cond.specs.Conditions.{condition_of}
use Rattle.mk_cond.specs.Grammar.{Rule, IsMore, IsJoined, IsPartOf, IsOr, IsNegated, IsGrouped}
use Rattle.mk_cond.specs.Grammar.{IsTerm, IsUnit, IsCondition, IsTermOf}
use Rattle.mk_cond.specs.Terms.{called}
use Rattle.mk_cond.specs.declared.cond.Form.{Form}
use Rattle.mk_cond.specs.declared.read.Joint.{Joint}
use Rattle.mk_cond.specs.declared.read.Joint.TheVariants.{Or, And}
use Rattle.mk_cond.proofs.Given.{OnGiven-bind, OnGiven-map, OnGiven-weaken}
use Rattle.mk_cond.proofs.Written.{Leaves, Written, skip_blanks-shorter, term_at-written}

-- a reader gives what a rule says
abbrev pub Writes : Reader → Rule → Type 0
Writes read Is = (bytes : List ℕ) → Written Is bytes (read bytes)

-- a byte that a text begins with
pub byte-first : (first : ℕ) (bytes : List ℕ) → begins (first ∷ []) bytes ≡ true
    → bytes ≡ first ∷ drop 1 bytes
unfolding begins
byte-first first [] is = cc
byte-first first (byte ∷ bytes) is =
    let same : byte ≡ first = grind (arith, is) in ap (λ b. b ∷ bytes) same

sign-first : (joint : Joint) (bytes : List ℕ) → begins_joint joint bytes ≡ true
    → bytes ≡ joint_text joint ++ drop 2 bytes
unfolding begins
sign-first Or [] is = cc
sign-first Or (a ∷ []) is = grind (arith, is)
sign-first Or (a ∷ b ∷ bytes) is = grind (arith, is)
sign-first And [] is = cc
sign-first And (a ∷ []) is = grind (arith, is)
sign-first And (a ∷ b ∷ bytes) is = grind (arith, is)

no-sign : (joint : Joint) → begins_joint joint [] ≡ false
unfolding begins
no-sign Or = refl
no-sign And = refl

pub more_at-written : (joint : Joint) (parts : Reader) (Parts : Rule) → Writes parts Parts
    → (turns : ℕ) (bytes : List ℕ) → length bytes ≤ turns
    → Written (IsMore joint Parts) bytes (more_at joint parts turns bytes)
unfolding more_at
more_at-written joint parts Parts writes zero [] fits = ((no-sign joint, refl), omega arith)
more_at-written joint parts Parts writes zero (byte ∷ bytes) fits = absurd (omega arith)
more_at-written joint parts Parts writes (suc turns) bytes fits =
    let behind = drop 2 bytes in
    cond_both (begins_joint joint bytes) _ _ (Written (IsMore joint Parts) bytes)
    (λ is. OnGiven-bind (Leaves Parts behind) (Leaves (IsMore joint Parts) bytes) (parts behind) _
    (writes behind)
    (λ c left h.
    let blanks = skip_blanks-shorter left in
    let some : 2 ≤ length bytes = sign-length joint bytes is in
    OnGiven-map (Leaves (IsMore joint Parts) (skip_blanks left)) (Leaves (IsMore joint Parts) bytes)
    (more_at joint parts turns (skip_blanks left)) (cond_then c)
    (more_at-written joint parts Parts writes turns (skip_blanks left)
    (omega (arith, blanks, h.1, some, fits, length-drop 2 bytes)))
    (λ conds rest g. (
      (behind, left, sign-first joint bytes is, h.0, g.0),
      omega (arith, g.1, blanks, h.1, length-drop 2 bytes),
    ))))
    (λ over. ((over, refl), omega arith))
  where
    sign-length : (joint : Joint) (bytes : List ℕ) → begins_joint joint bytes ≡ true
        → 2 ≤ length bytes
    sign-length Or bytes is = omega (arith, ap length (sign-first Or bytes is))
    sign-length And bytes is = omega (arith, ap length (sign-first And bytes is))

pub joined_at-written : (joint : Joint) (parts : Reader) (Parts : Rule) → Writes parts Parts
    → Writes (joined_at joint parts) (IsJoined joint Parts)
joined_at-written joint parts Parts writes bytes =
    OnGiven-bind (Leaves Parts bytes) (Leaves (IsJoined joint Parts) bytes) (parts bytes) _
    (writes bytes)
    (λ first left h.
    let behind = skip_blanks left in
    OnGiven-map (Leaves (IsMore joint Parts) behind) (Leaves (IsJoined joint Parts) bytes)
    (more_in joint parts behind) (joined joint first)
    (more_at-written joint parts Parts writes (length behind) behind (omega arith))
    (λ more rest g. (
      (first, more, left, refl, h.0, g.0),
      omega (arith, g.1, skip_blanks-shorter left, h.1),
    )))

pub parts_of-written : (joint : Joint) (units : Reader) (Units : Rule) → Writes units Units
    → Writes (parts_of joint units) (IsPartOf joint Units)
parts_of-written Or units Units writes = joined_at-written And units Units writes
parts_of-written And units Units writes = writes

pub or_at-written : (units : Reader) (Units : Rule) → Writes units Units
    → Writes (or_at units) (IsOr Units)
or_at-written units Units writes =
    joined_at-written Or (parts_of Or units) (IsPartOf Or Units)
    (parts_of-written Or units Units writes)

negated_at-written : (units : Reader) (Units : Rule) → Writes units Units → (bytes : List ℕ)
    → begins (codes "!") bytes ≡ true
    → Written (IsNegated Units) bytes (negated_at units (drop 1 bytes))
negated_at-written units Units writes bytes is =
    let behind = drop 1 bytes in
    OnGiven-map (Leaves Units behind) (Leaves (IsNegated Units) bytes) (units behind) negate
    (writes behind)
    (λ c rest h. (
      (c, behind, refl, byte-first exclamation bytes is, h.0),
      omega (arith, h.1, length-drop 1 bytes),
    ))

grouped_at-written : (total : ℕ) (units : Reader) (Units : Rule) → Writes units Units
    → (bytes : List ℕ) → begins (codes "(") bytes ≡ true
    → Written (IsGrouped Units) bytes (grouped_at total units (drop 1 bytes))
grouped_at-written total units Units writes bytes is =
    let behind = drop 1 bytes in
    OnGiven-bind (Leaves (IsOr Units) behind) (Leaves (IsGrouped Units) bytes)
    (or_at units behind) _
    (or_at-written units Units writes behind)
    (λ c rest h. cond_both (begins (codes ")") rest) _ _ (Written (IsGrouped Units) bytes)
    (λ closes. (
      (
        behind,
        byte-first round_open bytes is,
        subst (IsOr Units c behind) (byte-first round_close rest closes) h.0,
      ),
      omega (arith, h.1, length-drop 1 bytes, length-drop 1 rest),
    ))
    (λ other. tt))

term-written : (total : ℕ) (form : Form) (bytes : List ℕ)
    → (begins (codes "!") bytes || begins (codes "(") bytes) ≡ false
    → Written (IsTerm form) bytes (term_at total form bytes)
term-written total form bytes other =
    let apart = or_parts (begins (codes "!") bytes) (begins (codes "(") bytes) other in
    OnGiven-weaken (Leaves (IsTermOf form (called bytes)) bytes) (Leaves (IsTerm form) bytes)
    (term_at total form bytes) (term_at-written total form bytes)
    (λ c rest h. ((apart.0, apart.1, h.0), h.1))

inside_at-written : (total : ℕ) (units : Reader) (Units : Rule) → Writes units Units
    → (bytes : List ℕ) → (begins (codes "!") bytes || begins (codes "(") bytes) ≡ true
    → Written (λ c behind rest. IsNegated Units c behind rest ⊎ IsGrouped Units c behind rest) bytes
    (inside_at total units bytes)
inside_at-written total units Units writes bytes is =
    let Q : Cond → List ℕ → List ℕ → Type 0 =
    λ c behind rest. IsNegated Units c behind rest ⊎ IsGrouped Units c behind rest in
    cond_both (begins (codes "!") bytes) _ _ (Written Q bytes)
    (λ negates. OnGiven-weaken (Leaves (IsNegated Units) bytes) (Leaves Q bytes)
    (negated_at units (drop 1 bytes)) (negated_at-written units Units writes bytes negates)
    (λ c rest h. (inl h.0, h.1)))
    (λ other.
    let opens : begins (codes "(") bytes ≡ true =
    sym (ap (λ b. b || begins (codes "(") bytes) other) ∙ is in
    OnGiven-weaken (Leaves (IsGrouped Units) bytes) (Leaves Q bytes)
    (grouped_at total units (drop 1 bytes))
    (grouped_at-written total units Units writes bytes opens)
    (λ c rest h. (inr h.0, h.1)))

pub unit_at-written : (total : ℕ) (form : Form) (depth : ℕ)
    → Writes (unit_at total form depth) (IsUnit form depth)
unfolding inner_at IsUnit
unit_at-written total form zero bytes =
    let start = skip_blanks bytes in
    let blanks = skip_blanks-shorter bytes in
    cond_both (begins (codes "!") start || begins (codes "(") start) _ _
    (Written (IsUnit form zero) bytes) (λ is. tt)
    (λ other. OnGiven-weaken (Leaves (IsTerm form) start) (Leaves (IsUnit form zero) bytes)
    (term_at total form start) (term-written total form start other)
    (λ c rest h. (h.0, omega (arith, h.1, blanks))))
unit_at-written total form (suc depth) bytes =
    let start = skip_blanks bytes in
    let blanks = skip_blanks-shorter bytes in
    let Units = IsUnit form depth in
    let Q : Cond → List ℕ → List ℕ → Type 0 =
    λ c behind rest. IsNegated Units c behind rest ⊎ IsGrouped Units c behind rest in
    cond_both (begins (codes "!") start || begins (codes "(") start) _ _
    (Written (IsUnit form (suc depth)) bytes)
    (λ is. OnGiven-weaken (Leaves Q start) (Leaves (IsUnit form (suc depth)) bytes)
    (inside_at total (unit_at total form depth) start)
    (inside_at-written total (unit_at total form depth) Units
    (unit_at-written total form depth) start is)
    (λ c rest h. (inr h.0, omega (arith, h.1, blanks))))
    (λ other. OnGiven-weaken (Leaves (IsTerm form) start) (Leaves (IsUnit form (suc depth)) bytes)
    (term_at total form start) (term-written total form start other)
    (λ c rest h. (inl h.0, omega (arith, h.1, blanks))))

whole-written : (form : Form) (text : List ℕ) (c : Cond) (read : Read Cond)
    → Written (IsOr (IsUnit form max_open)) text read → (read >>= λ d. whole (length text) d) ≡ Ok c
    → IsCondition form c text
whole-written form text c (Ok (d, [])) holds is =
    let same : d ≡ c = cc in subst (λ x. IsCondition form x text) same holds.0
whole-written form text c (Ok (d, byte ∷ rest)) holds is = cc
whole-written form text c (Err fault) holds is = cc

-- What is read is written so.
pub condition_of-written : (form : Form) (text : List ℕ) (c : Cond) → condition_of form text ≡ Ok c
    → IsCondition form c text
condition_of-written form text c is =
    whole-written form text c (or_at (unit_at (length text) form max_open) text)
    (or_at-written (unit_at (length text) form max_open) (IsUnit form max_open)
    (unit_at-written (length text) form max_open) text)
    is
