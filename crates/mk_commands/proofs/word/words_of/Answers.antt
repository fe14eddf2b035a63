use Rattle.std.proofs.Common.{ℕ, Ok, rules}
use borrow.Author.Tests.{tests}
use Rattle.std.proofs.lemmas.Iterator.Consumers.{map_from_collect, YieldsList-from_filter}
use Rattle.std.proofs.lemmas.Iterator.Splits.{YieldsList-from_slice_split}
use Rattle.mk_bytes.specs.Words.{is_white}
use Rattle.mk_commands.specs.Words.{is_not_empty}
use Rattle.mk_commands.proofs.word.words_of.Goals as goal

pub returns : goal.returns
returns c =
    map_from_collect {E = ℕ} (Ok c.in_ok-words.words) c.in_ok-words.ensures.ran
    (YieldsList-from_filter {s = c.filter.result} _ is_not_empty
    (YieldsList-from_slice_split {s = c.filter.result.iter} _ is_white c.args.text.now
    (cc) (cc) (cc)
    (λ x b q k. search (rules, tests)))
    c.filter.ensures.closure (λ x b q k. search (rules, tests)))
