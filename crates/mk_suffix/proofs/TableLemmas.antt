-- The rules to one suffix.
use Rattle.std.proofs.Common.{◌≡◌, ◌∙◌, ℕ, zero, suc, ◌+◌, ◌<◌, ◌&&◌, Bool, true, false, List}
use Rattle.std.proofs.Common.{[], ◌∷◌, ◌++◌, length, get_or, inl, inr, refl, sym, ap}
use Rattle.std.proofs.Common.{subst, arith, Option, Some, None, is_some, slice_get, drop, cond}
use Rattle.std.proofs.Common.{Vec, Global, append_assoc}
use Rattle.std.proofs.Math.ListN.{get_or-map}
use Rattle.std.proofs.lemmas.Bool.{and_parts, cases_lt, cond_both, false≢true}
use Rattle.std.proofs.lemmas.List.{length-map, map-append}
use Rattle.std.proofs.lemmas.List.Quantifiers.{position-Some}
use Rattle.std.proofs.lemmas.Slice.Eq.{bytes_eq-Decides}
use Rattle.std.specs.Cmp.Lexicographic.{bytes_decides, nat_list_eq_equiv}
use Rattle.std.specs.HashMap.{HashMap, UpdatesBy}
use Rattle.std.specs.Map.{lookup, KeepsOthers, IsKeyTest, AreApart}
use Rattle.std.specs.Option.{option_map}
use Rattle.std.specs.Str.{bytes_eq}
use Rattle.mk_depline.specs.Lines.{rule_named}
use Rattle.mk_depline.specs.Names.{is_among}
use Rattle.mk_graph.specs.Marks.{has}
use Rattle.mk_graph.specs.Nodes.{Node, names_of, new_node, node_at, number_of}
use Rattle.mk_graph.specs.declared.attr.Attr.TheVariants.{Rule as rule_mark}
use Rattle.mk_suffix.specs.Chains.{Suffixes, are_parts, first_of, rule_between}
use Rattle.mk_suffix.specs.Found.{is_marked, is_marked_at}
use Rattle.mk_suffix.specs.Extends.{IsNew, IsStepFrom, extended_by}
use Rattle.mk_suffix.specs.Search.{Way, way_at, reached}
use Rattle.mk_suffix.specs.Table.{Rule, rule_from, row_over, row, froms, Rows, seen_row, row_at}
use Rattle.mk_suffix.specs.Table.{IsRow, AreAll, AreBefore}
use Rattle.mk_suffix.specs.declared.step.Step.{Step}
use Rattle.mk_suffix.specs.declared.table.Source.{Source}
use Rattle.mk_suffix.proofs.AmongLemmas.{among-head, among-tail}

-- the step by a rule to the suffix at a place
abbrev pub step_by : Source → ℕ → Step
step_by source at = record { suffix = source.suffix; rule = source.rule; to = at }

pub is_new : (nodes : List Node) (known : List (List ℕ)) (ways : List Way) (source : Source) (at : ℕ)
    → rule_between nodes known source.suffix.now (first_of (way_at ways at).suffixes)
    ≡ Some source.rule → source.rule < length nodes
    → is_among (reached ways) source.suffix.now ≡ false
    → IsNew nodes known ways source.suffix.now at (step_by source at)
is_new nodes known ways source at rule within new = record {
  suffix_is = refl;
  place = refl;
  rule = rule;
  within = within;
  new = new;
}

pub reached_before : (nodes : List Node) (known : List (List ℕ)) (ways : List Way)
    (suffix : List ℕ) (at : ℕ) → is_among (reached ways) suffix ≡ true
    → IsStepFrom nodes known ways suffix at None
reached_before nodes known ways suffix at is =
    rw is (none (is_some (rule_between nodes known suffix (first_of (way_at ways at).suffixes))))
  where
    none : (b : Bool) → (b && false) ≡ false
    none true = refl
    none false = refl

-- where a rule leads to a suffix from each of these that may go before a chain, the others of all may
-- not
pub froms-extend : (nodes : List Node) (known : List (List ℕ)) (chain : Suffixes)
    (suffixes : List (List ℕ))
    → extended_by nodes known chain (froms (row_over nodes known (first_of chain) suffixes))
    ≡ extended_by nodes known chain suffixes
froms-extend nodes known chain [] = refl
froms-extend nodes known chain (suffix ∷ more) =
    by (rule_between nodes known suffix (first_of chain)) refl (froms-extend nodes known chain more)
  where
    by : (rule : Option ℕ) → rule_between nodes known suffix (first_of chain) ≡ rule
        → extended_by nodes known chain (froms (row_over nodes known (first_of chain) more))
        ≡ extended_by nodes known chain more
        → extended_by nodes known chain (froms (row_over nodes known (first_of chain) (suffix ∷ more)))
        ≡ extended_by nodes known chain (suffix ∷ more)
    by None is rest = rw is rest
    by (Some n) is rest = within (is_among chain suffix) refl
      where
        within : (there : Bool) → is_among chain suffix ≡ there
            → extended_by nodes known chain
            (froms (row_over nodes known (first_of chain) (suffix ∷ more)))
            ≡ extended_by nodes known chain (suffix ∷ more)
        within true there = rw (is, is, there) rest
        within false there = rw (is, is, there) (ap (λ l. (suffix ∷ chain) ∷ l) rest)

-- what holds of a rule in a row
pub record IsRuleTo (nodes : List Node) (known froms : List (List ℕ)) (to : List ℕ) (rule : Rule)
    : Type 0 where
  pub rule_is : rule_between nodes known rule.0 to ≡ Some rule.1
  pub among : is_among froms rule.0 ≡ true

pub row-at : (nodes : List Node) (known : List (List ℕ)) (to : List ℕ) (froms : List (List ℕ))
    (i : ℕ) (rule : Rule) → slice_get (row_over nodes known to froms) i ≡ Some rule
    → IsRuleTo nodes known froms to rule
row-at nodes known to [] i rule is = absurd cc
row-at nodes known to (suffix ∷ more) i rule is =
    by (rule_between nodes known suffix to) refl i is
    (λ j there. row-at nodes known to more j rule there)
  where
    later : IsRuleTo nodes known more to rule → IsRuleTo nodes known (suffix ∷ more) to rule
    later there = record {
      rule_is = there.rule_is;
      among = among-tail rule.0 suffix more there.among;
    }

    by : (found : Option ℕ) → rule_between nodes known suffix to ≡ found → (i : ℕ)
        → slice_get (row_over nodes known to (suffix ∷ more)) i ≡ Some rule
        → ((j : ℕ) → slice_get (row_over nodes known to more) j ≡ Some rule
        → IsRuleTo nodes known more to rule)
        → IsRuleTo nodes known (suffix ∷ more) to rule
    by None none i is rest = later (rest i (rw none at is))
    by (Some n) found zero is rest =
        let first : Some (suffix, n) ≡ Some rule = rw found at is in
        let same : rule ≡ (suffix, n) = cc in
        rw same (record { rule_is = found; among = among-head suffix more })
    by (Some n) found (suc i) is rest = later (rest i (rw found at is))

-- What a rule is

chosen : {A : Type 0} (b : Bool) (found : Option A) (one : A) → cond b found None ≡ Some one
    → (b ≡ true) × (found ≡ Some one)
chosen true found one is = (refl, is)
chosen false found one is = absurd cc

name-at : (nodes : List Node) (i : ℕ) → get_or (names_of nodes) i [] ≡ (node_at nodes i).name
name-at nodes i = get_or-map (λ (node : Node). node.name) nodes i (new_node [])

second-part : (from to : List ℕ) (parts : Option (List ℕ × List ℕ)) → are_parts from to parts ≡ true
    → option_map (λ (parts : List ℕ × List ℕ). parts.1) parts ≡ Some to
second-part from to None is = absurd cc
second-part from to (Some parts) is =
    let both = and_parts (bytes_eq parts.0 from) (bytes_eq parts.1 to) is in
    ap Some ((bytes_eq-Decides parts.1 to).0 both.1)

-- a rule is a node that is so marked, and its name ends with the suffix to which it leads
pub record Leads_to (nodes : List Node) (known : List (List ℕ)) (to : List ℕ) (n : ℕ) : Type 0 where
  pub within : n < length nodes
  pub marked : has (node_at nodes n).marks rule_mark ≡ true
  pub second : option_map (λ (parts : List ℕ × List ℕ). parts.1) (rule_named known (node_at nodes n).name)
      ≡ Some to

pub leads_to : (nodes : List Node) (known : List (List ℕ)) (from to : List ℕ) (n : ℕ)
    → rule_between nodes known from to ≡ Some n → Leads_to nodes known to n
leads_to nodes known from to n is =
    let name = from ++ to in
    let parts = chosen (is_marked nodes name rule_mark && are_parts from to (rule_named known name))
    (number_of nodes name) n is in
    let both = and_parts (is_marked nodes name rule_mark)
    (are_parts from to (rule_named known name)) parts.0 in
    let at = position-Some (bytes_eq name) (names_of nodes) n [] parts.1 in
    let same : name ≡ (node_at nodes n).name =
    (bytes_eq-Decides name (get_or (names_of nodes) n [])).0 at.1 ∙ name-at nodes n in
    record {
      within = subst (λ k. n < k) (length-map nodes (λ (node : Node). node.name)) at.0;
      marked = sym (ap (λ found. is_marked_at nodes found rule_mark) parts.1) ∙ both.0;
      second =
          subst (λ x. option_map (λ (parts : List ℕ × List ℕ). parts.1) (rule_named known x) ≡ Some to)
          same (second-part from to (rule_named known name) both.1);
    }

-- The rows so far

pub before_none : (nodes : List Node) (known : List (List ℕ)) → AreBefore nodes known 0 []
before_none nodes known = record {
  right = λ to sources is. absurd cc;
  whole = λ from to n before is. absurd (omega (arith, before));
}

pub before-next : (nodes : List Node) (known : List (List ℕ)) (n : ℕ) (rows new : Rows)
    → AreBefore nodes known n rows
    → ((to : List ℕ) (sources : List Source) → row_at new to ≡ Some sources
    → seen_row sources ≡ row nodes known to)
    → ((to : List ℕ) → is_some (row_at rows to) ≡ true → is_some (row_at new to) ≡ true)
    → ((to : List ℕ) → Leads_to nodes known to n → is_some (row_at new to) ≡ true)
    → AreBefore nodes known (n + 1) new
before-next nodes known n rows new before right others here = record {
  right = right;
  whole = λ from to m inside is.
      elim (cases_lt m n) [
        | inl earlier ↦ others to (before.whole from to m earlier is)
        | inr behind ↦
            let same : m ≡ n = omega (arith, inside, behind) in
            here to (subst (Leads_to nodes known to) same (leads_to nodes known from to m is))
      ];
}

-- where a node is no rule to a suffix without a row, the rows stay as they are
pub before-same : (nodes : List Node) (known : List (List ℕ)) (n : ℕ) (rows : Rows)
    → AreBefore nodes known n rows
    → ((to : List ℕ) → Leads_to nodes known to n → is_some (row_at rows to) ≡ true)
    → AreBefore nodes known (n + 1) rows
before-same nodes known n rows before here =
    before-next nodes known n rows rows before before.right (λ to is. is) here

abbrev Key : Type 0
Key = Vec ℕ Global

abbrev same_key : Key → Key → Bool
same_key one other = bytes_eq one.items other.items

-- whether a key has these bytes
abbrev pub is_key : List ℕ → Key → Bool
is_key to key = bytes_eq to key.items

others_keep : (test : Key → Bool) (old new : Rows)
    → KeepsOthers same_key test old new → (other : Key → Bool) → IsKeyTest same_key other
    → AreApart test other → lookup other new ≡ lookup other old
unfolding KeepsOthers
others_keep test old new keeps = keeps

differs : (one other key : List ℕ) → bytes_eq one other ≡ false
    → bytes_eq one key ≡ true → bytes_eq other key ≡ false
differs one other key differ same =
    nat_list_eq_equiv.symm other key
    ∙ sym (nat_list_eq_equiv.congr one key other same) ∙ differ

row_at-updated : {S : Type 0} (old new : HashMap Key (List Source) S) (to : List ℕ)
    (sources : List Source)
    → UpdatesBy same_key (is_key to) old new (Some sources) → (other : List ℕ)
    → row_at new.entries other
    ≡ cond (bytes_eq to other) (Some sources) (row_at old.entries other)
row_at-updated old new to sources updates other =
    cond_both (bytes_eq to other) (Some sources) (row_at old.entries other)
    (λ found. row_at new.entries other ≡ found)
    (λ same. subst (λ p. row_at new.entries p ≡ Some sources)
    ((bytes_decides to other).0 same) updates.1)
    (λ differ. others_keep (is_key to) old.entries new.entries updates.3 (is_key other)
    (λ one key. nat_list_eq_equiv.congr other one.items key.items)
    (λ key. differs to other key.items differ))

pub before_more : {S : Type 0} (nodes : List Node) (known : List (List ℕ)) (n : ℕ)
    (old new : HashMap Key (List Source) S) (to : List ℕ) (sources : List Source)
    → AreBefore nodes known n old.entries
    → UpdatesBy same_key (is_key to) old new (Some sources)
    → seen_row sources ≡ row nodes known to
    → option_map (λ (parts : List ℕ × List ℕ). parts.1) (rule_named known (node_at nodes n).name)
    ≡ Some to → AreBefore nodes known (n + 1) new.entries
before_more nodes known n old new to sources before updates is second =
    before-next nodes known n old.entries new.entries before right others here
  where
    now : (other : List ℕ) → row_at new.entries other
        ≡ cond (bytes_eq to other) (Some sources) (row_at old.entries other)
    now other = row_at-updated old new to sources updates other

    right : (other : List ℕ) (found : List Source) → row_at new.entries other ≡ Some found
        → seen_row found ≡ row nodes known other
    right other found there = by (bytes_eq to other) refl (sym (now other) ∙ there)
      where
        by : (same : Bool) → bytes_eq to other ≡ same
            → cond same (Some sources) (row_at old.entries other) ≡ Some found
            → seen_row found ≡ row nodes known other
        by true same there =
            let equal : sources ≡ found = cc in
            subst (λ x. seen_row found ≡ row nodes known x) ((bytes_eq-Decides to other).0 same)
            (subst (λ x. seen_row x ≡ row nodes known to) equal is)
        by false differ there = before.right other found there

    others : (other : List ℕ) → is_some (row_at old.entries other) ≡ true
        → is_some (row_at new.entries other) ≡ true
    others other there = ap is_some (now other) ∙ by (bytes_eq to other)
      where
        by : (same : Bool)
            → is_some (cond same (Some sources) (row_at old.entries other)) ≡ true
        by true = refl
        by false = there

    here : (other : List ℕ) → Leads_to nodes known other n → is_some (row_at new.entries other) ≡ true
    here other leads =
        let same : to ≡ other = same_some to other (sym second ∙ leads.second) in
        subst (λ x. is_some (row_at new.entries x) ≡ true) same (ap is_some updates.1)
      where
        same_some : (one other : List ℕ) → Some one ≡ Some other → one ≡ other
        same_some one other is = cc

-- a node that leads to no suffix, or to one that has a row
pub before_unmarked : (nodes : List Node) (known : List (List ℕ)) (n : ℕ) (rows : Rows)
    → AreBefore nodes known n rows → has (node_at nodes n).marks rule_mark ≡ false
    → AreBefore nodes known (n + 1) rows
before_unmarked nodes known n rows before other =
    before-same nodes known n rows before
    (λ to leads. absurd (false≢true (sym other ∙ leads.marked)))

pub before_no_rule : (nodes : List Node) (known : List (List ℕ)) (n : ℕ) (rows : Rows)
    → AreBefore nodes known n rows
    → None ≡ option_map (λ (parts : List ℕ × List ℕ). parts.1) (rule_named known (node_at nodes n).name)
    → AreBefore nodes known (n + 1) rows
before_no_rule nodes known n rows before none =
    before-same nodes known n rows before (λ to leads. absurd (apart to (none ∙ leads.second)))
  where
    apart : (to : List ℕ) → None ≡ Some to → ⊥
    apart to is = cc

pub before_there : (nodes : List Node) (known : List (List ℕ)) (n : ℕ) (rows : Rows) (to : List ℕ)
    → AreBefore nodes known n rows
    → Some to ≡ option_map (λ (parts : List ℕ × List ℕ). parts.1) (rule_named known (node_at nodes n).name)
    → is_some (row_at rows to) ≡ true → AreBefore nodes known (n + 1) rows
before_there nodes known n rows to before second there =
    before-same nodes known n rows before
    (λ other leads. subst (λ x. is_some (row_at rows x) ≡ true)
    (same_some to other (second ∙ leads.second)) there)
  where
    same_some : (one other : List ℕ) → Some one ≡ Some other → one ≡ other
    same_some one other is = cc

-- a suffix to which no rule leads
pub row-none : (nodes : List Node) (known : List (List ℕ)) (to : List ℕ)
    → ((from : List ℕ) (n : ℕ) → rule_between nodes known from to ≡ Some n → ⊥)
    → (froms : List (List ℕ)) → row_over nodes known to froms ≡ []
row-none nodes known to none [] = refl
row-none nodes known to none (from ∷ more) =
    by (rule_between nodes known from to) refl (row-none nodes known to none more)
  where
    by : (found : Option ℕ) → rule_between nodes known from to ≡ found
        → row_over nodes known to more ≡ [] → row_over nodes known to (from ∷ more) ≡ []
    by None is rest = rw is rest
    by (Some n) is rest = absurd (none from n is)

-- behind the last node they are all
pub are_all : (nodes : List Node) (known : List (List ℕ)) (count : ℕ) (rows : Rows)
    → count ≡ length nodes → AreBefore nodes known count rows → AreAll nodes known rows
are_all nodes known count rows last before to = by (row_at rows to) refl
  where
    by : (found : Option (List Source)) → row_at rows to ≡ found → IsRow nodes known to found
    by (Some sources) is = before.right to sources is
    by None is = sym (row-none nodes known to (λ from n there.
        let within : n < count = omega (arith, last, (leads_to nodes known from to n there).within) in
        false≢true (sym (ap is_some is) ∙ before.whole from to n within there)) known)

-- One row, from the first of the known suffixes on

pub row_next : (nodes : List Node) (known : List (List ℕ)) (to from : List ℕ)
    (froms more : List (List ℕ)) (so_far whole : List Rule) → froms ≡ from ∷ more
    → so_far ++ row_over nodes known to froms ≡ whole
    → (so_far ++ rule_from from (rule_between nodes known from to)) ++ row_over nodes known to more
    ≡ whole
row_next nodes known to from froms more so_far whole are is =
    append_assoc so_far (rule_from from (rule_between nodes known from to))
    (row_over nodes known to more)
    ∙ (sym (ap (λ l. so_far ++ row_over nodes known to l) are) ∙ is)

pub seen_row_append : (sources : List Source) (source : Source)
    → seen_row (sources ++ source ∷ []) ≡ seen_row sources ++ (source.suffix.now, source.rule) ∷ []
seen_row_append sources source =
    map-append (λ (source : Source). (source.suffix.now, source.rule)) sources (source ∷ [])

-- One rule of a row

pub rule_item : (nodes : List Node) (known : List (List ℕ)) (to : List ℕ) (sources : List Source)
    (i : ℕ) (d : Source) → i < length sources → seen_row sources ≡ row nodes known to
    → IsRuleTo nodes known known to ((get_or sources i d).suffix.now, (get_or sources i d).rule)
rule_item nodes known to sources i d within are =
    row-at nodes known to known i ((get_or sources i d).suffix.now, (get_or sources i d).rule)
    (ap (λ l. slice_get l i) (sym are) ∙ at sources i within)
  where
    at : (sources : List Source) (i : ℕ) → i < length sources
        → slice_get (seen_row sources) i
        ≡ Some ((get_or sources i d).suffix.now, (get_or sources i d).rule)
    at [] i within = absurd (omega (arith, within))
    at (one ∷ more) zero within = refl
    at (one ∷ more) (suc i) within = at more i (omega (arith, within))

pub froms_item : (sources : List Source) (i : ℕ) (d : Source) → i < length sources
    → drop i (froms (seen_row sources))
    ≡ (get_or sources i d).suffix.now ∷ drop (i + 1) (froms (seen_row sources))
froms_item [] i d within = absurd (omega (arith, within))
froms_item (one ∷ more) zero d within = refl
froms_item (one ∷ more) (suc i) d within =
    let next : suc i + 1 ≡ suc (i + 1) = omega arith in
    rw next (froms_item more i d (omega (arith, within)))

-- what stands for a rule where there is none
abbrev pub no_source : Source
no_source = record { suffix = record { ref_ptr = (0, 0); now = [] }; rule = 0 }

-- What is found in the table

pub row_found : (nodes : List Node) (known : List (List ℕ)) (rows : Rows) (to : List ℕ)
    (sources : List Source) → AreAll nodes known rows → Some sources ≡ row_at rows to
    → seen_row sources ≡ row nodes known to
row_found nodes known rows to sources all is = subst (IsRow nodes known to) (sym is) (all to)

pub row_missing : (nodes : List Node) (known : List (List ℕ)) (rows : Rows) (to : List ℕ)
    → AreAll nodes known rows → None ≡ row_at rows to → [] ≡ row nodes known to
row_missing nodes known rows to all is = subst (IsRow nodes known to) (sym is) (all to)
