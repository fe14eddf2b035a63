use Rattle.std.proofs.Common.{refl}
use Rattle.mk_bytes.proofs.WordLemmas.{next_word-finds}
use Rattle.mk_bytes.proofs.word.next_word_is_first.Goals as goal

pub returns : goal.returns
returns c = next_word-finds c.args.text.now c.args.from _ c.requires refl
