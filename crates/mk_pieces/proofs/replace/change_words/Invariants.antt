use Rattle.std.proofs.Common.{◌≡◌, ◌+◌, ◌≤◌, ◌++◌, length, drop}
use Rattle.mk_pieces.specs.Change.{changed_word}
use Rattle.mk_pieces.specs.Limits.{total}
use Rattle.mk_pieces.specs.Substitution.{words_changed}
use Rattle.mk_pieces.specs.Pieces.{texts_of, furthest}
use Rattle.mk_pieces.proofs.ReplaceLemmas.{rest_changed}
use Rattle.mk_pieces.proofs.replace.change_words.Given as goal

-- the words so far, and what becomes of those that are left
abbrev pub invariant-loop-word : goal.invariant-loop-word
invariant-loop-word l =
    let old = l.region.bytes in
    let all = old ++ l.out.items in
    let change = changed_word l.change in
    let left = rest_changed l.ready l.once change (texts_of old (drop l.word-index l.words)) in
    let changed = words_changed l.once change (texts_of old l.words) in
    record {
      within : furthest l.pieces.items ≤ length all;
      words : texts_of all l.pieces.items ++ left ≡ changed;
      room : length l.out.items + total left ≤ total changed;
    }
