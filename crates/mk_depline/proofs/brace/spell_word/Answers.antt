use Rattle.std.proofs.Common.{Ok, sym, ap, ◌∙◌, length}
use Rattle.mk_depline.specs.Braces.{first_group}
use Rattle.mk_depline.proofs.BraceLemmas.{spelled-none}
use Rattle.mk_depline.proofs.brace.spell_word.Goals as goal

pub returns-in_ok-push_word-in-None : goal.returns-in_ok-push_word-in-None
returns-in_ok-push_word-in-None c =
    let word = c.args.word.now in
    let none = sym c.first_open.ensures ∙ c.in-None.is in
    let words = spelled-none (length word) word (ap (first_group word) none) in
    rw words (ap (λ all. Ok all) (sym c.in_ok-push_word-in-None.ensures))
