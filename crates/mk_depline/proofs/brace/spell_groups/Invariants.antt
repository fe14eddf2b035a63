use Rattle.std.proofs.Common.{◌≡◌}
use Rattle.mk_depline.specs.Braces.{Placed, added, all_pending, all_steps, spelled_out}
use Rattle.mk_depline.proofs.brace.spell_groups.Given as goal

-- the names so far, and the words of the groups that are open
abbrev pub invariant-words : goal.invariant-words
invariant-words l = record {
  words : added l.names (all_pending l.word l.waiting.items) ≡ added l.fn.names (spelled_out l.word);
  placed : Placed l.word l.waiting.items;
}

abbrev pub decreases-words : goal.decreases-words
decreases-words l = all_steps l.word l.waiting.items
