use Rattle.std.proofs.Common.{◌≡◌, ℕ, ◌+◌, ◌*◌, ◌≤◌, length}
use Rattle.mk_ast.specs.Places.{nesting}
use Rattle.mk_ast.specs.References.{ref_at as ref_read, mods_at as mods_read}
use Rattle.mk_ast.specs.Text.{text_at as text_read}
use Rattle.mk_ast.specs.View.{tree_view, mods_view}
use Rattle.mk_ast.proofs.Turns.{after_parts, after_mods}
use Rattle.mk_ast.proofs.+read.Given as goal

-- Each open reference is one less, and within a reference the functions call one another downwards.
abbrev pub decreases-read::mods_at : goal.decreases-read::mods_at
decreases-read::mods_at l = 8 * l.level.depth + 7

abbrev pub decreases-modifier::modifier_at : goal.decreases-modifier::modifier_at
decreases-modifier::modifier_at l = 8 * l.level.depth + 6

abbrev pub decreases-modifier::argument_at : goal.decreases-modifier::argument_at
decreases-modifier::argument_at l = 8 * l.level.depth + 5

abbrev pub decreases-modifier::subst_at : goal.decreases-modifier::subst_at
decreases-modifier::subst_at l = 8 * l.level.depth + 5

abbrev pub decreases-modifier::select_at : goal.decreases-modifier::select_at
decreases-modifier::select_at l = 8 * l.level.depth + 5

abbrev pub decreases-modifier::choose_at : goal.decreases-modifier::choose_at
decreases-modifier::choose_at l = 8 * l.level.depth + 5

abbrev pub decreases-modifier::each_at : goal.decreases-modifier::each_at
decreases-modifier::each_at l = 8 * l.level.depth + 5

abbrev pub decreases-modifier::suffix_at : goal.decreases-modifier::suffix_at
decreases-modifier::suffix_at l = 8 * l.level.depth + 5

abbrev pub decreases-modifier::closed_at : goal.decreases-modifier::closed_at
decreases-modifier::closed_at l = 8 * l.level.depth + 4

abbrev pub decreases-read::text_at : goal.decreases-read::text_at
decreases-read::text_at l = 8 * l.level.depth + 3

abbrev pub decreases-read::part_at : goal.decreases-read::part_at
decreases-read::part_at l = 8 * l.level.depth + 2

abbrev pub decreases-read::dollar_at : goal.decreases-read::dollar_at
decreases-read::dollar_at l = 8 * l.level.depth + 1

abbrev pub decreases-read::ref_at : goal.decreases-read::ref_at
decreases-read::ref_at l = 8 * l.level.depth

-- the parts so far, and what is read from the rest; each byte nests at most one opener
abbrev pub invariant-read::text_at-parts : goal.invariant-read::text_at-parts
invariant-read::text_at-parts l =
    (turns : ℕ) × (length l.rest ≤ turns)
    × (text_read (ref_read l.level.total l.level.depth) l.fn.place (length l.text) l.text
    ≡ after_parts (tree_view l.tree)
    (text_read (ref_read l.level.total l.level.depth) l.place turns l.rest))
    × (length l.rest ≤ length l.text)
    × (nesting l.place + length l.rest ≤ nesting l.fn.place + length l.text)

abbrev pub decreases-read::text_at-parts : goal.decreases-read::text_at-parts
decreases-read::text_at-parts l = length l.rest

-- the modifiers so far, and what is read from the rest
abbrev pub invariant-read::mods_at-mods : goal.invariant-read::mods_at-mods
invariant-read::mods_at-mods l =
    (turns : ℕ) × (length l.rest ≤ turns)
    × (mods_read (ref_read l.level.total l.level.depth) l.level.total l.opened l.round
    (length l.text) l.text
    ≡ after_mods (mods_view l.mods)
    (mods_read (ref_read l.level.total l.level.depth) l.level.total l.opened l.round turns
    l.rest))
    × (length l.rest ≤ length l.text)

abbrev pub decreases-read::mods_at-mods : goal.decreases-read::mods_at-mods
decreases-read::mods_at-mods l = length l.rest
