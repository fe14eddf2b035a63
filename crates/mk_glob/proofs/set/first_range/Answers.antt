use Rattle.std.proofs.Common.{◌≢◌, ◌⊎◌, ◌<◌, length, get_or, inl, inr, arith, rules}
use Rattle.mk_glob.proofs.SetLemmas.{is_member-range, is_member-alone, rest_of}
use Rattle.mk_glob.proofs.set.first_range.Goals as goal

pub returns-in-45-clause-first : goal.returns-in-45-clause-first
returns-in-45-clause-first c = λ byte.
    let members = c.args.members.now in
    rw (rest_of 3 members) (is_member-range members byte (omega arith) (search rules))

pub returns-in-len1-up-clause-first : goal.returns-in-len1-up-clause-first
returns-in-len1-up-clause-first c = λ byte.
    let members = c.args.members.now in
    let alone : (length members < 3) ⊎ (get_or members 1 0 ≢ 45) = search (rules, inl, inr) in
    rw (rest_of 1 members) (is_member-alone members byte (search rules) alone)
