use Rattle.std.proofs.Common.{◌≡◌, ◌-◌, ◌∷◌, length, get_or, take, drop, IsTrue, None, sym, ◌∙◌}
use Rattle.std.proofs.Common.{true}
use Rattle.mk_bytes.specs.Bytes.{square_open}
use Rattle.mk_glob.specs.Patterns.{set_part}
use Rattle.mk_glob.specs.Reading.{has_no_set}
use Rattle.mk_glob.proofs.PartLemmas.{parts_of-set, parts_of-plain, first_and_rest}
use Rattle.mk_glob.proofs.ReadingLemmas.{no_set_begins, none_has_no_set, has_no_set-plain_part}
use Rattle.mk_glob.proofs.ReadingLemmas.{has_no_set-rest}
use Rattle.mk_glob.proofs.part.Pattern.split_first.Goals as goal
use Rattle.mk_glob.proofs.part.Pattern.split_first.Goals.{else-first-eq91}
use Rattle.mk_glob.proofs.part.Pattern.split_first.Goals.{
  then-first-eq91+then-not-unclosed+in_default-read_set,
}

pub returns-in-Some-clause-parts : goal.returns-in-Some-clause-parts
returns-in-Some-clause-parts c =
    parts_of-set _ _ _ _ _ (first_and_rest c.args.self.bytes.now c.in-len1-up.len_at_least)
    c.if-first-eq91.true c.in-Some.ensures.set

pub invariant_of-result-2 : goal.invariant_of-result-2
invariant_of-result-2 c = record {
  no_set = λ unclosed.
      let bytes = c.args.self.bytes.now in
      let first = get_or bytes 0 0 in
      let rest = take (length bytes - 1) (drop 1 bytes) in
      let cut : bytes ≡ first ∷ rest = first_and_rest bytes c.in-len1-up.len_at_least in
      let before = λ (is : c.args.self.unclosed ≡ true).
      has_no_set-rest first rest (rw cut at (c.args.self.no_set is))
      in
      let left : IsTrue (has_no_set rest) = elim c.if-first-eq91.branch [
        | then-first-eq91+then-not-unclosed+in_default-read_set w ↦
            none_has_no_set rest w.in_default-read_set.ensures.set
        | else-first-eq91 w ↦ before (sym w.unclosed-is ∙ unclosed)
      ] in
      rw c.read_plain.ensures.part at (has_no_set-plain_part first rest left);
}

pub returns-clause-parts : goal.returns-clause-parts
returns-clause-parts c =
    let self = c.args.self in
    let bytes = self.bytes.now in
    let first = get_or bytes 0 0 in
    let rest = take (length bytes - 1) (drop 1 bytes) in
    let cut : bytes ≡ first ∷ rest = first_and_rest bytes c.in-len1-up.len_at_least in
    let begins = no_set_begins bytes rest first self.unclosed cut self.no_set in
    let plain : first ≡ square_open → set_part rest ≡ None = elim c.if-first-eq91.branch [
      | then-first-eq91+then-not-unclosed+in_default-read_set w ↦
          λ _. w.in_default-read_set.ensures.set
      | else-first-eq91 w ↦ begins w.else-first-eq91.either
    ] in
    rw c.read_plain.ensures.part at (parts_of-plain bytes rest first cut plain)
