use Rattle.std.proofs.Common.{sym, ◌∙◌, rules}
use Rattle.mk_glob.specs.Reading.{seen_class}
use Rattle.mk_glob.proofs.PartLemmas.{first_and_rest}
use Rattle.mk_glob.proofs.StarLemmas.{matches-nil, matches-star, matches-one, some_end-matches-one}
use Rattle.mk_glob.proofs.glob.match_head.Goals as goal

pub returns-in-None-clause-tells : goal.returns-in-None-clause-tells
returns-in-None-clause-tells c =
    c.parts.invariant.same
    ∙ matches-nil _ c.parts.left.now c.in-None.ensures.parts ∙ sym c.is_empty.ensures

pub returns-in-Some-Star-default-clause-tells : goal.returns-in-Some-Star-default-clause-tells
returns-in-Some-Star-default-clause-tells c =
    let star = rw c.in-Some-Star-default.field-0-0-is at c.in-Some-Star-default.ensures.parts in
    matches-star c.args.pattern.bytes.now c.parts.pattern.bytes.now
    c.in-Some-Star-default.after.bytes.now c.args.word.now c.parts.left.now star
    c.parts.invariant.same c.parts.invariant.later

pub parts-preserved : goal.parts-preserved
parts-preserved c =
    let here = c.parts.pattern.bytes.now in
    let after = c.in-Some-One-default.after.bytes.now in
    let left = c.parts.left.now in
    let class = seen_class c.in-Some-One-default.class in
    let part = rw c.in-Some-One-default.field-0-0-is at c.in-Some-One-default.ensures.parts in
    let cut = first_and_rest left c.in-len1-up.len_at_least in
    record {
      same = c.parts.invariant.same
          ∙ matches-one here after left _ class _ part cut (sym c.if-takes.ensures);
      later = λ passes.
          some_end-matches-one here after left _ class _ part cut (c.parts.invariant.later passes);
      pattern_left = search rules;
      word_left = search rules;
    }
