use Rattle.std.proofs.Common.{◌∙◌}
use Rattle.mk_strace.proofs.QuotedLemmas.{byte-read, byte-refused, text-ends, text-open}
use Rattle.mk_strace.proofs.quoted.unquoted.Goals as goal

pub returns-in_default-meant_by : goal.returns-in_default-meant_by
returns-in_default-meant_by c =
    byte-refused c.bytes.out c.bytes.escape c.bytes.rest.now c.in-len1-up.len_at_least
    c.in_default-meant_by.ensures
    ∙ c.bytes.invariant

pub bytes-preserved : goal.bytes-preserved
bytes-preserved c =
    byte-read c.bytes.out c.push_meant.new.text c.bytes.escape c.in-Some.meant c.bytes.rest.now
    c.in-len1-up.len_at_least c.in-Some.ensures c.in_ok-push_meant.ensures
    ∙ c.bytes.invariant

pub returns-in_default-last_of : goal.returns-in_default-last_of
returns-in_default-last_of c =
    text-open c.bytes.out c.bytes.escape c.bytes.rest.now c.in_default.len_below
    c.in_default-last_of.ensures
    ∙ c.bytes.invariant

pub returns : goal.returns
returns c =
    text-ends c.bytes.out c.push_byte.new.text c.bytes.escape c.in-Some-last_of.last
    c.bytes.rest.now c.in_default.len_below c.in-Some-last_of.ensures c.in_ok-push_byte.ensures
    ∙ c.bytes.invariant
