-- What a loop over joined conditions has read so far, one turn after another.
use Rattle.std.proofs.Common.{◌≡◌, ℕ, suc, zero, ◌-◌, ◌≤◌, ◌<◌, ◌++◌, ◌∙◌, true, false, List, []}
use Rattle.std.proofs.Common.{◌∷◌, ◌≢◌, length, Ok, Err, Some, refl, sym, ap, arith, drop}
use Rattle.mk_bytes.specs.Agrees.{◌>>=◌}
use Rattle.mk_cond.specs.Cond.{Cond, Conds, no_more, cond_then, any}
use Rattle.mk_cond.specs.Terms.{Read, begins, skip_blanks}
use Rattle.mk_cond.specs.Conditions.{Reader, begins_joint, joint_cond, joined, more_at, unit_in}
use Rattle.mk_cond.specs.Conditions.{joined_at}
use Rattle.mk_cond.specs.Conditions.{inner_at}
use Rattle.mk_cond.specs.View.{conds_view, cond_view}
use Rattle.mk_cond.specs.declared.cond.Cond.{Cond as CodeCond}
use Rattle.mk_cond.specs.declared.cond.Form.{Form}
use Rattle.mk_cond.specs.declared.read.Joint.{Joint}
use Rattle.mk_cond.specs.declared.read.Joint.TheVariants.{Or, And}

-- `||` is read around `&&`
abbrev pub joint_rank : Joint → ℕ
joint_rank Or = 2
joint_rank And = 0

abbrev pub conds_append : Conds → Conds → Conds
conds_append no_more more = more
conds_append (cond_then c conds) more = cond_then c (conds_append conds more)

-- these conditions as one; there is always one
abbrev pub joined_all : Joint → Conds → Cond
joined_all joint no_more = any no_more
joined_all joint (cond_then c more) = joined joint c more

-- the conditions so far, and what is read next
abbrev pub after_conds : Joint → Conds → Read Conds → Read Cond
after_conds joint conds rest =
    rest >>= λ more. Ok (joined_all joint (conds_append conds more.0), more.1)

conds_append-assoc : (a b c : Conds)
    → conds_append (conds_append a b) c ≡ conds_append a (conds_append b c)
conds_append-assoc no_more b c = refl
conds_append-assoc (cond_then x a) b c = ap (cond_then x) (conds_append-assoc a b c)

pub conds_append-none : (conds : Conds) → conds_append conds no_more ≡ conds
conds_append-none no_more = refl
conds_append-none (cond_then c conds) = ap (cond_then c) (conds_append-none conds)

pub conds_view-push : (conds : List CodeCond) (c : CodeCond)
    → conds_view (conds ++ c ∷ [])
    ≡ conds_append (conds_view conds) (cond_then (cond_view c) no_more)
conds_view-push [] c = refl
conds_view-push (x ∷ conds) c = ap (cond_then (cond_view x)) (conds_view-push conds c)

pub after_conds-more : (joint : Joint) (conds : Conds) (c : Cond) (rest : Read Conds)
    → after_conds joint conds (rest >>= λ more. Ok (cond_then c more.0, more.1))
    ≡ after_conds joint (conds_append conds (cond_then c no_more)) rest
after_conds-more joint conds c (Ok more) =
    ap (λ all. Ok (joined_all joint all, more.1))
    (sym (conds_append-assoc conds (cond_then c no_more) more.0))
after_conds-more joint conds c (Err fault) = refl

-- two or more are joined
pub joined_all-push : (joint : Joint) (conds : List CodeCond) (c : CodeCond) → 0 < length conds
    → joined_all joint (conds_view (conds ++ c ∷ []))
    ≡ joint_cond joint (conds_view (conds ++ c ∷ []))
joined_all-push joint [] c some = absurd (omega arith)
joined_all-push joint (x ∷ []) c some = refl
joined_all-push joint (x ∷ y ∷ conds) c some = refl

pub a_sign_is_there : (joint : Joint) (bytes : List ℕ) → begins_joint joint bytes ≡ true
    → 0 < length bytes
unfolding begins
a_sign_is_there Or [] begins = cc
a_sign_is_there And [] begins = cc
a_sign_is_there joint (byte ∷ bytes) begins = omega arith

pub more_at-over : (joint : Joint) (parts : Reader) (turns : ℕ) (bytes : List ℕ)
    → begins_joint joint bytes ≡ false → more_at joint parts turns bytes ≡ Ok (no_more, bytes)
unfolding more_at
more_at-over joint parts zero bytes over = refl
more_at-over joint parts (suc turns) bytes over = rw over refl

pub more_at-more : (joint : Joint) (parts : Reader) (turns : ℕ) (bytes : List ℕ)
    → length bytes ≤ turns → begins_joint joint bytes ≡ true
    → more_at joint parts turns bytes
    ≡ (parts (drop 2 bytes)
    >>= λ c. more_at joint parts (turns - 1) (skip_blanks c.1)
    >>= λ more. Ok (cond_then c.0 more.0, more.1))
unfolding more_at
more_at-more joint parts zero bytes fits more =
    absurd (omega (arith, fits, a_sign_is_there joint bytes more))
more_at-more joint parts (suc turns) bytes fits more =
    let left : suc turns - 1 ≡ turns = omega arith in rw (left, more) refl

-- the first condition is what there is so far
pub joined_at-first : (joint : Joint) (parts : Reader) (text rest bytes : List ℕ) (c : Cond)
    → parts text ≡ Ok (c, rest) → bytes ≡ skip_blanks rest
    → joined_at joint parts text
    ≡ after_conds joint (cond_then c no_more) (more_at joint parts (length bytes) bytes)
joined_at-first joint parts text rest bytes c first behind = rw (first, ← behind) refl

-- behind a sign there is one condition more
pub after_conds-turn : (joint : Joint) (parts : Reader) (turns : ℕ) (bytes left behind : List ℕ)
    (conds : List CodeCond) (c : CodeCond) → length bytes ≤ turns → begins_joint joint bytes ≡ true
    → parts (drop 2 bytes) ≡ Ok (cond_view c, left) → behind ≡ skip_blanks left
    → after_conds joint (conds_view conds) (more_at joint parts turns bytes)
    ≡ after_conds joint (conds_view (conds ++ c ∷ [])) (more_at joint parts (turns - 1) behind)
after_conds-turn joint parts turns bytes left behind conds c fits more one is =
    let next = more_at joint parts (turns - 1) behind in
    let turn : more_at joint parts turns bytes
    ≡ (next >>= λ m. Ok (cond_then (cond_view c) m.0, m.1)) =
    rw (more_at-more joint parts turns bytes fits more, one, is) refl in
    ap (after_conds joint (conds_view conds)) turn
    ∙ after_conds-more joint (conds_view conds) (cond_view c) next
    ∙ ap (λ all. after_conds joint all next) (sym (conds_view-push conds c))

-- nothing more is read where no sign stands
pub after_conds-over : (joint : Joint) (parts : Reader) (turns : ℕ) (bytes : List ℕ) (conds : Conds)
    → begins_joint joint bytes ≡ false
    → after_conds joint conds (more_at joint parts turns bytes) ≡ Ok (joined_all joint conds, bytes)
after_conds-over joint parts turns bytes conds over =
    rw (more_at-over joint parts turns bytes over, conds_append-none conds) refl

pub inner_at-some : (total : ℕ) (form : Form) (depth : ℕ) → depth ≢ 0
    → inner_at total form depth ≡ Some (unit_in total form (inner_at total form (depth - 1)))
unfolding inner_at
inner_at-some total form zero some = absurd (omega arith)
inner_at-some total form (suc depth) some =
    let left : suc depth - 1 ≡ depth = omega arith in rw left refl
