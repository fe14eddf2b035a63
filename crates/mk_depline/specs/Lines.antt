-- Dependency lines: targets, an operator, and sources.
use denote.Ref.{Bor}
use Rattle.std.specs.Prelude.{ℕ, ◌==◌, ◌&&◌, ◌||◌, Bool, false, is_some, List, [], ◌∷◌, map}
use Rattle.std.specs.Prelude.{length, take, drop, position, Option, Some, None, Result, Ok, Err}
use Rattle.std.specs.Prelude.{if◌then◌else◌, nat_eq}
use Rattle.std.specs.List.{list_all, list_any, starts_with}
use Rattle.mk_bytes.specs.Agrees.{◌>>=◌}
use Rattle.mk_bytes.specs.Bytes.{colon, exclamation}
use Rattle.mk_bytes.specs.Paths.{clean}
use Rattle.mk_bytes.specs.Words.{is_white, words_of}
use Rattle.mk_depline.specs.Braces.{all_spelled_out}
use Rattle.mk_depline.specs.Names.{is_among, is_attribute, special_named}
use Rattle.mk_depline.specs.declared.fault.DepFault.{DepFault}
use Rattle.mk_depline.specs.declared.fault.DepFault.TheVariants.{NoOperator, DoubleColon, NoTargets}
use Rattle.mk_depline.specs.declared.fault.DepFault.TheVariants.{MixedSpecial, RuleSources}
use Rattle.mk_depline.specs.declared.line.DepLine.{DepLine}
use Rattle.mk_depline.specs.declared.name.Special.{Special}

abbrev pub is_operator : ℕ → Bool
is_operator byte = byte == colon || byte == exclamation

-- whether a text begins with a byte
abbrev pub begins_with : ℕ → List ℕ → Bool
begins_with byte [] = false
begins_with byte (first ∷ rest) = first == byte

-- what stands before the operator and behind it; with `!` the targets are always made
pub record Sides : Type 0 where
  pub targets : List ℕ
  pub remake : Bool
  pub sources : List ℕ

abbrev pub sides_round : List ℕ → List ℕ → Result Sides DepFault
sides_round targets [] = Err NoOperator
sides_round targets (byte ∷ sources) =
    if byte == colon && begins_with colon sources then Err DoubleColon
    else Ok (record { targets = targets; remake = byte == exclamation; sources = sources })

abbrev pub sides_at : List ℕ → Option ℕ → Result Sides DepFault
sides_at text None = Err NoOperator
sides_at text (Some at) = sides_round (take at text) (drop at text)

-- the first operator parts a line
abbrev pub sides_of : List ℕ → Result Sides DepFault
sides_of text = sides_at text (position is_operator text)

-- a name is cleaned, but for those that mean something of their own
abbrev pub cleaned : List ℕ → List ℕ → List ℕ
cleaned cwd name =
    if is_attribute name || is_some (special_named name) then name else clean cwd name

abbrev pub all_cleaned : List ℕ → List (List ℕ) → List (List ℕ)
all_cleaned cwd names = map (λ name. cleaned cwd name) names

-- a name that is this suffix and another known one
abbrev pub rule_with : List (List ℕ) → List ℕ → List ℕ → Option (List ℕ × List ℕ)
rule_with known name suffix =
    if starts_with nat_eq name suffix && is_among known (drop (length suffix) name)
    then Some (suffix, drop (length suffix) name) else None

abbrev pub shown_rule : List ℕ → Option (Bor (List ℕ)) → Option (List ℕ × List ℕ)
shown_rule suffix None = None
shown_rule suffix (Some rest) = Some (suffix, rest.now)

abbrev pub or_rule : Option (List ℕ × List ℕ) → Option (List ℕ × List ℕ) → Option (List ℕ × List ℕ)
or_rule None other = other
or_rule (Some rule) other = Some rule

-- the rule that a name is, of which the first suffix is the first that fits
abbrev pub first_rule : List (List ℕ) → List ℕ → List (List ℕ) → Option (List ℕ × List ℕ)
first_rule known name [] = None
first_rule known name (suffix ∷ more) =
    or_rule (rule_with known name suffix) (first_rule known name more)

abbrev pub rule_named : List (List ℕ) → List ℕ → Option (List ℕ × List ℕ)
rule_named known name = first_rule known name known

abbrev pub plain_line : List ℕ → Bool → List (List ℕ) → List (List ℕ) → DepLine
plain_line cwd remake targets sources = record {
  targets = all_cleaned cwd targets;
  remake = remake;
  sources = all_cleaned cwd sources;
  special = None;
  rule = None;
}

abbrev pub special_line : List ℕ → Bool → List (List ℕ) → Special → List (List ℕ) → DepLine
special_line cwd remake targets special sources = record {
  targets = targets;
  remake = remake;
  sources = all_cleaned cwd sources;
  special = Some special;
  rule = None;
}

abbrev pub rule_line : Bool → List (List ℕ) → List ℕ × List ℕ → List (List ℕ)
    → Result DepLine DepFault
rule_line remake targets rule [] = Ok (record {
  targets = targets;
  remake = remake;
  sources = [];
  special = None;
  rule = Some rule;
})
rule_line remake targets rule (source ∷ sources) = Err RuleSources

-- a line of one target that is not special
abbrev pub by_rule : List ℕ → Bool → List (List ℕ) → List (List ℕ) → Option (List ℕ × List ℕ)
    → Result DepLine DepFault
by_rule cwd remake targets sources None = Ok (plain_line cwd remake targets sources)
by_rule cwd remake targets sources (Some rule) = rule_line remake targets rule sources

-- a line of one target
abbrev pub by_special : List ℕ → List (List ℕ) → Bool → List (List ℕ) → List ℕ → List (List ℕ)
    → Option Special → Result DepLine DepFault
by_special cwd known remake targets target sources None =
    by_rule cwd remake targets sources (rule_named known target)
by_special cwd known remake targets target sources (Some special) =
    Ok (special_line cwd remake targets special sources)

abbrev pub is_special : List ℕ → Bool
is_special name = is_some (special_named name)

abbrev pub line_of : List ℕ → List (List ℕ) → Bool → List (List ℕ) → List (List ℕ)
    → Result DepLine DepFault
line_of cwd known remake [] sources = Err NoTargets
line_of cwd known remake (target ∷ []) sources =
    by_special cwd known remake (target ∷ []) target sources (special_named target)
line_of cwd known remake (target ∷ other ∷ more) sources =
    if list_any is_special (target ∷ other ∷ more) then Err MixedSpecial
    else Ok (plain_line cwd remake (target ∷ other ∷ more) sources)

abbrev pub between : List ℕ → List (List ℕ) → Sides → Result DepLine DepFault
between cwd known parted =
    if list_all is_white parted.targets then Err NoTargets
    else (all_spelled_out (words_of parted.targets)
    >>= λ targets. all_spelled_out (words_of parted.sources)
    >>= λ sources. line_of cwd known parted.remake targets sources)

-- A dependency line, with the known suffixes, or its first fault.
abbrev pub dep_line : List ℕ → List ℕ → List (List ℕ) → Result DepLine DepFault
dep_line text cwd known = sides_of text >>= λ parted. between cwd known parted
