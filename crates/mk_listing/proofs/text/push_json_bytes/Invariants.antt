use Rattle.std.proofs.Common.{◌≡◌, ◌++◌, drop, flat_map}
use Rattle.mk_listing.specs.Texts as spec
use Rattle.mk_listing.proofs.text.push_json_bytes.Given as goal

-- the bytes so far, and those that are left
abbrev pub invariant-loop-byte : goal.invariant-loop-byte
invariant-loop-byte l =
    l.out ++ flat_map (spec.json_byte l.is_text) (drop l.byte-index l.text)
    ≡ l.initial.out ++ flat_map (spec.json_byte l.is_text) l.text
