use Rattle.std.proofs.Common.{◌≡◌, ℕ, ◌+◌, ◌*◌, ◌≤◌, ◌<◌, true, length}
use Rattle.mk_cond.specs.Conditions.{begins_joint, more_at, parts_of, unit_at}
use Rattle.mk_cond.specs.Conditions.{joined_at as joined_read}
use Rattle.mk_cond.specs.View.{conds_view}
use Rattle.mk_cond.proofs.Turns.{after_conds, joint_rank}
use Rattle.mk_cond.proofs.read.+read.Given as goal

-- Each open parenthesis and `!` is one less, and within one the functions call one another
-- downwards.
abbrev pub decreases-grouped_at : goal.decreases-grouped_at
decreases-grouped_at l = 8 * l.level.depth + 6

abbrev pub decreases-joined_at : goal.decreases-joined_at
decreases-joined_at l = 8 * l.level.depth + (joint_rank l.joint + 3)

abbrev pub decreases-part_at : goal.decreases-part_at
decreases-part_at l = 8 * l.level.depth + (joint_rank l.joint + 2)

abbrev pub decreases-negated_at : goal.decreases-negated_at
decreases-negated_at l = 8 * l.level.depth + 2

abbrev pub decreases-unit_at : goal.decreases-unit_at
decreases-unit_at l = 8 * l.level.depth + 1

abbrev pub decreases-opened_at : goal.decreases-opened_at
decreases-opened_at l = 8 * l.level.depth

-- the conditions so far, and what is read from the sign in front on
abbrev pub invariant-joined_at-more : goal.invariant-joined_at-more
invariant-joined_at-more l =
    (turns : ℕ) × (length l.rest ≤ turns) × (begins_joint l.joint l.rest ≡ true)
    × (0 < length l.rest) × (0 < length l.conds)
    × (joined_read l.joint
    (parts_of l.joint (unit_at l.level.total l.level.form l.level.depth)) l.text
    ≡ after_conds l.joint (conds_view l.conds)
    (more_at l.joint (parts_of l.joint (unit_at l.level.total l.level.form l.level.depth)) turns
    l.rest))
    × (length l.rest ≤ length l.text)

abbrev pub decreases-joined_at-more : goal.decreases-joined_at-more
decreases-joined_at-more l = length l.rest
