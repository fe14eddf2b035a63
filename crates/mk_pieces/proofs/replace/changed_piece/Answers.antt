use Rattle.std.proofs.Common.{◌≡◌, ◌+◌, ◌++◌, ℕ, List, Some, None, length, length-append, refl, sym, ◌∙◌, arith}
use Rattle.std.proofs.lemmas.Grind.{common_steps}
use Rattle.std.proofs.lemmas.Result.{err_from_is_err_and}
use Rattle.mk_pieces.specs.Change.{changed_word}
use Rattle.mk_pieces.specs.Pieces.{bytes_of}
use Rattle.mk_pieces.specs.declared.fault.ModFault.TheVariants.{TooLong as too_long}
use Rattle.mk_pieces.proofs.LimitLemmas.{fault_is, pushed_if-none, pushed_if-same, pushed_if-some, pushed_if-long, pushed_if-early}
use Rattle.mk_pieces.proofs.PieceLemmas.{Begins-append, Begins-refl, bytes_of-begins, bytes_of-new}
use Rattle.mk_bytes.proofs.RefusalLemmas.{refused_if}
use Rattle.mk_pieces.proofs.RefusalLemmas.{early_as}
use Rattle.mk_pieces.proofs.ReplaceLemmas.{word_changed-none, word_changed-some}
use Rattle.mk_pieces.proofs.replace.changed_piece.Goals as goal

-- what is put behind the bytes, for a word that is changed
put : (c : goal.In_ok-piece_between) → (text : List ℕ)
    × (changed_word c.args.change (bytes_of c.args.region.now.bytes c.args.word) ≡ Some text)
    × (c.args.out.now.items ++ text ≡ c.changed_word.new.out.items)
put c =
    pushed_if-some c.args.out.now.items _ _ _ c.if-not-branch.false
    (rw c.shown.ensures.value at c.in_ok-changed_word.ensures)

-- nothing is put there for a word that stays
nothing_put : (c : goal.Then-not-branch)
    → changed_word c.args.change (bytes_of c.args.region.now.bytes c.args.word) ≡ None
nothing_put c =
    pushed_if-none c.args.out.now.items _ _ _ c.if-not-branch.true
    (rw c.shown.ensures.value at c.in_ok-changed_word.ensures)

pub returns-then-not-branch-clause-shown : goal.returns-then-not-branch-clause-shown
returns-then-not-branch-clause-shown c =
    let region = c.args.region.now.bytes in
    let new = c.changed_word.new.out.items in
    let word = bytes_of region c.args.word in
    bytes_of-begins region (region ++ new) c.args.word (Begins-append region new) c.requires.word
    ∙ sym (word_changed-none c.args.ready (changed_word c.args.change) word (nothing_put c))

pub returns-then-not-branch-clause-changed : goal.returns-then-not-branch-clause-changed
returns-then-not-branch-clause-changed c = rw (c.if-not-ready.false, nothing_put c) refl

pub returns-then-not-branch-clause-within : goal.returns-then-not-branch-clause-within
returns-then-not-branch-clause-within c = rw length-append (omega (arith, c.requires.word))

pub returns-then-not-branch-clause-begins : goal.returns-then-not-branch-clause-begins
returns-then-not-branch-clause-begins c =
    let old = c.args.out.now.items in
    rw (← pushed_if-same old _ _ _ c.if-not-branch.true c.in_ok-changed_word.ensures)
    (Begins-refl old)

pub returns-then-not-branch-clause-room : goal.returns-then-not-branch-clause-room
returns-then-not-branch-clause-room c =
    let old = c.args.out.now.items in
    rw (← pushed_if-same old _ _ _ c.if-not-branch.true c.in_ok-changed_word.ensures) (omega arith)

pub returns-clause-shown : goal.returns-clause-shown
returns-clause-shown c =
    let region = c.args.region.now.bytes in
    let old = c.args.out.now.items in
    let new = put c in
    let word = bytes_of region c.args.word in
    let piece = c.in_ok-piece_between.ensures in
    let start : c.in_ok-piece_between.field-0.start ≡ length region + length old =
    piece.0 ∙ grind (arith, common_steps, c.len.ensures.value, c.len-2.ensures) in
    let to : c.len-3.result + c.len-4.result ≡ length region + length (old ++ new.0) =
    rw new.2 (grind (arith, common_steps, c.len-3.ensures.value, c.len-4.ensures)) in
    rw (← new.2, bytes_of-new region old new.0 _ _ start (piece.1 ∙ to))
    (sym (word_changed-some c.args.ready (changed_word c.args.change) word new.0
    c.if-not-ready.false new.1))

pub returns-clause-changed : goal.returns-clause-changed
returns-clause-changed c = rw (c.if-not-ready.false, (put c).1) refl

pub returns-clause-within : goal.returns-clause-within
returns-clause-within c =
    rw length-append
    (omega (
      arith,
      c.in_ok-piece_between.ensures.1,
      c.len-3.ensures.value,
      c.len-4.ensures,
      c.changed_word.new.out.ok,
    ))

pub returns-clause-begins : goal.returns-clause-begins
returns-clause-begins c =
    let new = put c in rw (← new.2) (Begins-append c.args.out.now.items new.0)

pub returns-clause-room : goal.returns-clause-room
returns-clause-room c =
    let new = put c in
    let word = bytes_of c.args.region.now.bytes c.args.word in
    let is = word_changed-some c.args.ready (changed_word c.args.change) word new.0
    c.if-not-ready.false new.1 in
    rw (← new.2, is, length-append) (omega arith)

pub returns-in_err-changed_word-clause-shown : goal.returns-in_err-changed_word-clause-shown
returns-in_err-changed_word-clause-shown c =
    refused_if _ _ c.from_residual.result c.from_residual.ensures.1

pub returns-in_err-changed_word-clause-long : goal.returns-in_err-changed_word-clause-long
returns-in_err-changed_word-clause-long c is =
    let word = bytes_of c.args.region.now.bytes c.args.word in
    let fault = c.in_err-changed_word.field-0.0 in
    let p = err_from_is_err_and c.from_residual.result c.from_residual.ensures.1 in
    let long = fault_is c.from_residual.result p.0 fault too_long p.1 p.2 is in
    rw c.if-not-ready.false
    (pushed_if-long c.args.out.now.items word (changed_word c.args.change word) fault long
    (rw c.shown.ensures.value at c.in_err-changed_word.ensures))

pub returns-in_err-changed_word-clause-early : goal.returns-in_err-changed_word-clause-early
returns-in_err-changed_word-clause-early c =
    early_as _ c.from_residual.result c.from_residual.ensures.1
    (pushed_if-early c.args.out.now.items _ c.in_err-changed_word.field-0.0
    c.in_err-changed_word.ensures)
