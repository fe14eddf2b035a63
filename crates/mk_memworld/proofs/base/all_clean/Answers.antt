use Rattle.std.proofs.Common.{◌∙◌, inl, inr, sym, arith}
use Rattle.mk_memworld.proofs.BaseLemmas.{clean-next, unclean-next}
use Rattle.mk_memworld.proofs.base.all_clean.Goals.{then-not-is_new-via-then-not-is_new, then-not-is_new-via-else-not-is_new+in_ok-is_clean+then-not-branch}
use Rattle.mk_memworld.proofs.base.all_clean.Goals as goal

pub returns-then-not-is_new : goal.returns-then-not-is_new
returns-then-not-is_new c =
    elim c.then-not-is_new.branch [
      | then-not-is_new-via-then-not-is_new w ↦
          unclean-next c.args.cwd.now c.args.files.now c.files.left c.index-files-left.result
          c.files.later.keys c.in_ok-from_slice.field-0 c.in_ok-is_new.is_new c.files-test.true
          c.files.invariant.within c.files.invariant.holds
          (c.in_ok-from_slice.ensures.items ∙ c.bytes.ensures.value) c.in_ok-is_new.ensures.added
          (inl w.if-not-is_new.true)
      | then-not-is_new-via-else-not-is_new+in_ok-is_clean+then-not-branch w ↦
          unclean-next c.args.cwd.now c.args.files.now c.files.left c.index-files-left.result
          c.files.later.keys c.in_ok-from_slice.field-0 c.in_ok-is_new.is_new c.files-test.true
          c.files.invariant.within c.files.invariant.holds
          (c.in_ok-from_slice.ensures.items ∙ c.bytes.ensures.value) c.in_ok-is_new.ensures.added
          (inr (sym w.in_ok-is_clean.ensures ∙ w.if-not-branch.true))
    ]

pub files-preserved : goal.files-preserved
files-preserved c =
    let next = clean-next c.args.cwd.now c.args.files.now c.files.left c.index-files-left.result
    c.files.later.keys c.insert.new.self.keys c.in_ok-from_slice.field-0 c.in_ok-is_new.is_new
    c.files-test.true c.files.invariant.within c.files.invariant.holds
    (c.in_ok-from_slice.ensures.items ∙ c.bytes.ensures.value) c.in_ok-is_new.ensures.added
    c.if-not-is_new.false c.in_ok-is_new.ensures.keys
    (sym c.in_ok-is_clean.ensures ∙ c.if-not-branch.false) c.files.invariant.clean in
    record {
      within = omega (arith, c.files.invariant.within);
      holds = next.0;
      clean = next.1;
    }
