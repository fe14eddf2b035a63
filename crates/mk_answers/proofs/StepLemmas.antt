-- Each step of the lines of makefiles is the same where it is answered the same.
use Rattle.std.proofs.Common.{◌≡◌, ℕ, ◌+◌, Bool, true, false, List, [], ◌∷◌, ◌++◌, Option, Some, None, Result, Ok, Err, codes, if◌then◌else◌}
use Rattle.std.proofs.Common.{refl}
use Rattle.mk_answers.proofs.AnswerLemmas.{condition-same, text-same}
use Rattle.mk_answers.proofs.OutcomeLemmas.{Alike, asking-alike, counts_at, do-alike, expanded-alike, given-alike, if-alike, refused-alike}
use Rattle.mk_ast.specs.declared.fault.AstFault.{AstFault}
use Rattle.mk_blocks.specs.Acts.{looked, listed, ran, wrote}
use Rattle.mk_blocks.specs.Outcomes.{◌>>=◌, refused}
use Rattle.mk_blocks.specs.declared.language.IncludedFile.{IncludedFile}
use Rattle.mk_bytes.specs.declared.pair.Pair.{Pair}
use Rattle.mk_cli.specs.declared.order.AssignOp.{AssignOp}
use Rattle.mk_cli.specs.declared.order.AssignOp.TheVariants.{Plain, Append, Default, Now, Shell}
use Rattle.mk_cli.specs.declared.order.Set.{Set}
use Rattle.mk_cond.specs.Cond.{Cond}
use Rattle.mk_cond.specs.Conditions.{condition_of}
use Rattle.mk_cond.specs.declared.fault.CondFault.{CondFault}
use Rattle.mk_depline.specs.Lines.{dep_line}
use Rattle.mk_depline.specs.declared.fault.DepFault.{DepFault}
use Rattle.mk_depline.specs.declared.line.DepLine.{DepLine}
use Rattle.mk_directive.specs.Arguments.{Heading, Wanted, heading_in, wanted_by}
use Rattle.mk_directive.specs.Directives.{Directed, directive_on}
use Rattle.mk_directive.specs.Words.{words_of}
use Rattle.mk_directive.specs.declared.directive.Directive.{Directive}
use Rattle.mk_directive.specs.declared.directive.Directive.TheVariants.{Undef, Error, Warning, Info, Export, Unexport}
use Rattle.mk_makefile.specs.Assignments.{Parts, assignment}
use Rattle.mk_makefile.specs.Blocks as block
use Rattle.mk_makefile.specs.Dependencies.{Parted, parted, ruled}
use Rattle.mk_makefile.specs.Exports as exports
use Rattle.mk_makefile.specs.Inclusions as inclusion
use Rattle.mk_makefile.specs.Kinds.{command_in, is_only_white, plain_text}
use Rattle.mk_makefile.specs.Messages as message
use Rattle.mk_makefile.specs.Modes as mode
use Rattle.mk_makefile.specs.Moments.{Doing, Moment, closed, given}
use Rattle.mk_makefile.specs.Orders as order
use Rattle.mk_makefile.specs.Questions.{Answers}
use Rattle.mk_makefile.specs.Steps as step
use Rattle.mk_makefile.specs.Values as values
use Rattle.mk_makefile.specs.Values.{command_at, lists_at, reference}
use Rattle.mk_makefile.specs.Variables as variable
use Rattle.mk_makefile.specs.Wildcards as wild
use Rattle.mk_makefile.specs.declared.fault.What.{What}
use Rattle.mk_rules.specs.Rules.{Ruled}
use Rattle.mk_scopes.specs.declared.scopes.Class.{Class}
use Rattle.mk_scopes.specs.declared.scopes.Class.TheVariants.{Global, Command}
use Rattle.mk_values.specs.Locals.{no_locals}
use Rattle.mk_wild.specs.Names.{directory_of, is_pattern}
use Rattle.mk_wild.specs.Wild.{taken}
use Rattle.mk_world.specs.declared.command.Cmd.{Cmd}

module _ (one other : Answers) where
  -- a step whose second is the first where it is answered the same
  abbrev pub Goes : {A : Type 0} → Moment → (Answers → Doing A) → Type 0
  Goes s step = Alike one other s (step one) (step other)

  gives : {A : Type 0} (found : A) (s now : Moment) → counts_at now ≡ counts_at s
      → Alike one other s (given found now) (given found now)
  gives found s now stays = given-alike one other found s now stays

  refuses : {A : Type 0} (s : Moment) (what : What) → Alike one other {A = A} s (refused what) (refused what)
  refuses s what = refused-alike one other _ (counts_at s) what

  both : {A B : Type 0} (s : Moment) (first second : Doing A) (next other_next : A × Moment → Doing B)
      → Alike one other s first second → ((v : A × Moment) → Alike one other v.1 (next v) (other_next v))
      → Alike one other s (first >>= next) (second >>= other_next)
  both s first second next other_next is goes = do-alike one other s first second next other_next is goes

  if-goes : {A : Type 0} (s : Moment) (b : Bool) (first second first_else second_else : Doing A)
      → Alike one other s first second → Alike one other s first_else second_else
      → Alike one other s (if b then first else first_else) (if b then second else second_else)
  if-goes s b first second first_else second_else is is_else =
      if-alike one other _ (counts_at s) b first second first_else second_else is is_else

  -- Values

  value : (keep : Bool) (text : List ℕ) (s : Moment) → Goes s (λ answers. values.value answers keep text s)
  value keep text s =
      expanded-alike one other s _ _
      (text-same s.made.scopes no_locals (lists_at s) one.exists other.exists keep s.asked text)
      (text-same s.made.scopes no_locals (lists_at s) other.exists one.exists keep s.asked text)

  truth : (cond : Cond) (s : Moment) → Goes s (λ answers. values.truth answers cond s)
  truth cond s =
      expanded-alike one other s _ _
      (condition-same s.made.scopes no_locals (lists_at s) one.exists other.exists s.asked cond)
      (condition-same s.made.scopes no_locals (lists_at s) other.exists one.exists s.asked cond)

  contents : (path : List ℕ) (s : Moment) → Goes s (λ answers. values.contents answers path s)
  contents path s = asking-alike one other (looked path) _ _ s (record s { read = s.read + 1 }) refl (λ same. same)

  exported : (name : List ℕ) (s : Moment) → Goes s (λ answers. values.exported answers name s)
  exported name s = both s _ _ _ _ (value false (reference name) s) (λ v. gives _ v.1 v.1 refl)

  all_exported : (pairs : List Pair) (names : List (List ℕ)) (s : Moment)
      → Goes s (λ answers. values.all_exported answers pairs names s)
  all_exported pairs [] s = gives pairs s s refl
  all_exported pairs (name ∷ names) s =
      both s _ _ _ _ (exported name s) (λ v. all_exported (pairs ++ v.0 ∷ []) names v.1)

  printed_by : (cmd : Cmd) (s : Moment) → Goes s (λ answers. values.printed_by answers cmd s)
  printed_by cmd s = asking-alike one other (ran cmd) _ _ s (record s { ran = s.ran + 1 }) refl (λ same. same)

  output : (text : List ℕ) (s : Moment) → Goes s (λ answers. values.output answers text s)
  output text s =
      both s _ _ _ _ (all_exported [] s.made.exports s) (λ v. printed_by (command_at v.1 v.0 text) v.1)

  -- Variables

  not_empty : (name : List ℕ) (s : Moment) → Alike one other s (variable.not_empty name s) (variable.not_empty name s)
  not_empty [] s = refuses s _
  not_empty (byte ∷ name) s = gives (byte ∷ name) s s refl

  variable_name : (text : List ℕ) (s : Moment) → Goes s (λ answers. variable.variable_name answers text s)
  variable_name text s = both s _ _ _ _ (value false text s) (λ v. not_empty v.0 v.1)

  printed : (text : List ℕ) (s : Moment) → Goes s (λ answers. variable.printed answers text s)
  printed text s = both s _ _ _ _ (value false text s) (λ v. output v.0 v.1)

  set_by : (class : Class) (op : AssignOp) (name text : List ℕ) (s : Moment)
      → Goes s (λ answers. variable.set_by answers class op name text s)
  set_by class Plain name text s = gives tt s _ refl
  set_by class Append name text s = gives tt s _ refl
  set_by class Default name text s = gives tt s _ refl
  set_by class Now name text s = both s _ _ _ _ (value true text s) (λ v. gives tt v.1 _ refl)
  set_by class Shell name text s = both s _ _ _ _ (printed text s) (λ v. gives tt v.1 _ refl)

  assigned_by : (class : Class) (op : AssignOp) (name text : List ℕ) (s : Moment)
      → Goes s (λ answers. variable.assigned_by answers class op name text s)
  assigned_by class op name text s =
      both s _ _ _ _ (variable_name name s) (λ v. set_by class op v.0 text v.1)

  -- The words of the command line

  set_of : (class : Class) (set : Set) (s : Moment) → Goes s (λ answers. order.set_of answers class set s)
  set_of Command set s = assigned_by Command set.op set.name set.value s
  set_of Global set s = set_by Global set.op set.name set.value s

  all_set : (sets : List Set) (s : Moment) → Goes s (λ answers. order.all_set answers sets s)
  all_set [] s = gives tt s s refl
  all_set (set ∷ sets) s = both s _ _ _ _ (set_of set.class set s) (λ v. all_set sets v.1)

  pub ordered : (s : Moment) → Goes s (λ answers. order.ordered answers s)
  ordered s = both s _ _ _ _ (all_set s.order.sets s) (λ v. gives tt v.1 _ refl)

  -- Messages

  said : (line : List ℕ) (s : Moment) → Alike one other s (message.said line s) (message.said line s)
  said line s = asking-alike one other (wrote line) tt tt s s refl (λ same. refl)

  warned : (file : List ℕ) (number : ℕ) (mark text : List ℕ) (s : Moment)
      → Goes s (λ answers. message.message answers file number mark text s)
  warned file number mark text s =
      both s _ _ _ _ (value false text s) (λ v. said (message.message_line file number mark v.0) v.1)

  stop : (text : List ℕ) (s : Moment) → Goes s (λ answers. message.stop answers text s)
  stop text s = both s _ _ _ _ (value false text s) (λ v. refuses v.1 _)

  -- Exported variables

  exported_by : (text : List ℕ) (s : Moment) → Goes s (λ answers. exports.exported_by answers text s)
  exported_by text s =
      both s _ _ _ _ (value false text s)
      (λ v. if-goes v.1 (exports.are_export_names (words_of v.0)) _ _ _ _ (gives tt v.1 _ refl) (refuses v.1 _))

  unexported_by : (text : List ℕ) (s : Moment) → Goes s (λ answers. exports.unexported_by answers text s)
  unexported_by text s =
      both s _ _ _ _ (value false text s)
      (λ v. if-goes v.1 (exports.are_export_names (words_of v.0)) _ _ _ _ (gives tt v.1 _ refl) (refuses v.1 _))

  -- Names with wildcards

  names_in : (dir : List ℕ) (s : Moment) → Goes s (λ answers. wild.names_in answers dir s)
  names_in dir s = asking-alike one other (listed dir) _ _ s (record s { listed = s.listed + 1 }) refl (λ same. same)

  with_matches : (paths : List (List ℕ)) (pattern : List ℕ) (s : Moment)
      → Goes s (λ answers. wild.with_matches answers paths pattern s)
  with_matches paths pattern s =
      both s _ _ (λ names. given (paths ++ taken pattern names.0) names.1)
      (λ names. given (paths ++ taken pattern names.0) names.1) (names_in (directory_of pattern) s)
      (λ v. gives _ v.1 v.1 refl)

  with_paths : (paths : List (List ℕ)) (name : List ℕ) (s : Moment)
      → Goes s (λ answers. wild.with_paths answers paths name s)
  with_paths paths name s =
      if-goes s (is_pattern name) _ _ _ _ (with_matches paths name s) (gives (paths ++ name ∷ []) s s refl)

  all_paths : (paths names : List (List ℕ)) (s : Moment) → Goes s (λ answers. wild.all_paths answers paths names s)
  all_paths paths [] s = gives paths s s refl
  all_paths paths (name ∷ names) s = both s _ _ _ _ (with_paths paths name s) (λ v. all_paths v.0 names v.1)

  with_targets : (line : DepLine) (targets : List (List ℕ)) (s : Moment)
      → Alike one other s (wild.with_targets line targets s) (wild.with_targets line targets s)
  with_targets line [] s = refuses s _
  with_targets line (target ∷ more) s = gives _ s s refl

  targets_listed : (line : DepLine) (s : Moment) → Goes s (λ answers. wild.targets_listed answers line s)
  targets_listed line s = both s _ _ _ _ (all_paths [] line.targets s) (λ v. with_targets line v.0 v.1)

  sources_listed : (line : DepLine) (s : Moment) → Goes s (λ answers. wild.sources_listed answers line s)
  sources_listed line s = both s _ _ _ _ (all_paths [] line.sources s) (λ v. gives _ v.1 v.1 refl)

  by_rule : (rule : Option (List ℕ × List ℕ)) (line : DepLine) (s : Moment)
      → Goes s (λ answers. wild.by_rule answers rule line s)
  by_rule None line s = both s _ _ _ _ (targets_listed line s) (λ v. sources_listed v.0 v.1)
  by_rule (Some rule) line s = gives line s s refl

  -- Lines

  command_read : (command : List ℕ) (s : Moment)
      → Alike one other s (step.command_read command s) (step.command_read command s)
  command_read command s =
      if-goes s (is_only_white command) _ _ _ _ (gives tt s s refl)
      (if-goes s s.in_group _ _ _ _ (gives tt s _ refl) (refuses s _))

  opened : (rules : Result Ruled What) (s : Moment) → Alike one other s (step.opened rules s) (step.opened rules s)
  opened (Ok rules) s = gives tt s _ refl
  opened (Err what) s = refuses s what

  by_line : (command : Option (List ℕ)) (line : Result DepLine DepFault) (s : Moment)
      → Goes s (λ answers. step.by_line answers command line s)
  by_line command (Err fault) s = refuses s _
  by_line command (Ok line) s =
      both s _ _ _ _ (by_rule line.rule line s) (λ v. opened (ruled v.1.made.rules command v.0) v.1)

  by_parts : (parts : Result Parted AstFault) (s : Moment) → Goes s (λ answers. step.by_parts answers parts s)
  by_parts (Err fault) s = refuses s _
  by_parts (Ok parts) s =
      both s _ _ _ _ (value false parts.0 s)
      (λ v. by_line parts.1 (dep_line v.0 v.1.made.scopes.cwd v.1.made.rules.suffixes) v.1)

  by_assignment : (line : List ℕ) (found : Option Parts) (s : Moment)
      → Goes s (λ answers. step.by_assignment answers line found s)
  by_assignment line None s = by_parts (parted line) s
  by_assignment line (Some parts) s = assigned_by Global parts.1 parts.0 parts.2 (closed s)

  directed : (file : List ℕ) (number : ℕ) (directive : Directive) (text : List ℕ) (s : Moment)
      → Goes s (λ answers. step.directed answers file number directive text s)
  directed file number Undef text s = gives tt s _ refl
  directed file number Error text s = stop text s
  directed file number Warning text s = warned file number (codes "warning: ") text s
  directed file number Info text s = warned file number [] text s
  directed file number Export text s = exported_by text s
  directed file number Unexport text s = unexported_by text s
  directed file number _ text s = gives tt s s refl

  by_directive : (file : List ℕ) (number : ℕ) (line : List ℕ) (found : Option Directed) (s : Moment)
      → Goes s (λ answers. step.by_directive answers file number line found s)
  by_directive file number line None s = by_assignment line (assignment line) s
  by_directive file number line (Some found) s = directed file number found.0 found.1 s

  plain_read : (file : List ℕ) (number : ℕ) (line : List ℕ) (s : Moment)
      → Goes s (λ answers. step.plain_read answers file number line s)
  plain_read file number [] s = gives tt s s refl
  plain_read file number (byte ∷ line) s = by_directive file number (byte ∷ line) (directive_on (byte ∷ line)) s

  by_command : (file : List ℕ) (number : ℕ) (line : List ℕ) (command : Option (List ℕ)) (s : Moment)
      → Goes s (λ answers. step.by_command answers file number line command s)
  by_command file number line None s = plain_read file number (plain_text line) s
  by_command file number line (Some command) s = command_read command s

  pub line_read : (file : List ℕ) (number : ℕ) (line : List ℕ) (s : Moment)
      → Goes s (λ answers. step.line_read answers file number line s)
  line_read file number line s = by_command file number line (command_in line) s

  -- Branches and loops

  judged : (found : Result Cond CondFault) (s : Moment) → Goes s (λ answers. block.judged answers found s)
  judged (Ok cond) s = truth cond s
  judged (Err fault) s = refuses s _

  pub condition : (line : List ℕ) (s : Moment) → Goes s (λ answers. block.condition answers line s)
  condition line s =
      let found = block.condition_on (plain_text line) in judged (condition_of found.0 found.1) s

  headed : (found : Option Heading) (s : Moment) → Goes s (λ answers. block.headed answers found s)
  headed None s = refuses s _
  headed (Some heading) s =
      both s _ _ _ _ (value false heading.1 s)
      (λ v. if-goes v.1 _ _ _ _ _ (gives _ v.1 v.1 refl) (refuses v.1 _))

  pub turns : (line : List ℕ) (s : Moment) → Goes s (λ answers. block.turns answers line s)
  turns line s = headed (heading_in (block.argument_on (plain_text line))) s

  -- Included files

  file_opened : (path : List ℕ) (found : Option (List ℕ) × Moment)
      → Alike one other found.1 (inclusion.opened path found) (inclusion.opened path found)
  file_opened path (None, s) = gives None s s refl
  file_opened path (Some bytes, s) = gives _ s s refl

  found_at : (path : List ℕ) (s : Moment) → Goes s (λ answers. inclusion.found_at answers path s)
  found_at path s =
      both s _ _ (inclusion.opened path) (inclusion.opened path) (contents path s) (λ v. file_opened path v)

  or_next : (others other_others : Moment → Doing (Option IncludedFile))
      → ((s : Moment) → Alike one other s (others s) (other_others s)) → (found : Option IncludedFile × Moment)
      → Alike one other found.1 (inclusion.or_next others found) (inclusion.or_next other_others found)
  or_next others other_others goes (None, s) = goes s
  or_next others other_others goes (Some file, s) = gives (Some file) s s refl

  sought : (paths : List (List ℕ)) (s : Moment) → Goes s (λ answers. inclusion.sought answers paths s)
  sought [] s = gives None s s refl
  sought (path ∷ paths) s =
      both s (inclusion.found_at one path s) (inclusion.found_at other path s)
      (inclusion.or_next (inclusion.sought one paths)) (inclusion.or_next (inclusion.sought other paths))
      (found_at path s)
      (λ v. or_next (inclusion.sought one paths) (inclusion.sought other paths) (λ now. sought paths now) v)

  required : (optional : Bool) (name : List ℕ) (found : Option IncludedFile × Moment)
      → Alike one other found.1 (inclusion.required optional name found) (inclusion.required optional name found)
  required optional name (Some file, s) = gives (Some file) s s refl
  required true name (None, s) = gives None s s refl
  required false name (None, s) = refuses s _

  wanted_in : (file : List ℕ) (optional : Bool) (found : Option Wanted) (s : Moment)
      → Goes s (λ answers. inclusion.wanted_in answers file optional found s)
  wanted_in file optional None s = refuses s _
  wanted_in file optional (Some wanted) s =
      both s _ _ (inclusion.required optional wanted.1) (inclusion.required optional wanted.1)
      (sought (inclusion.candidates s.order s.made.scopes.cwd file wanted) s) (λ v. required optional wanted.1 v)

  pub included : (file line : List ℕ) (s : Moment) → Goes s (λ answers. inclusion.included answers file line s)
  included file line s =
      both (closed s) _ _ _ _ (value false (block.argument_on (plain_text line)) (closed s))
      (λ v. wanted_in file (inclusion.may_miss (plain_text line)) (wanted_by v.0) v.1)

  pub file_contents : (path : List ℕ) (s : Moment) → Goes s (λ answers. values.contents answers path s)
  file_contents path s = contents path s

  -- How a build goes

  words_in : (text : List ℕ) (s : Moment) → Goes s (λ answers. mode.words_in answers text s)
  words_in text s = both s _ _ _ _ (value false text s) (λ v. gives _ v.1 v.1 refl)

  mode_exporting : (words ignored : List (List ℕ)) (s : Moment)
      → Goes s (λ answers. mode.mode_exporting answers words ignored s)
  mode_exporting words ignored s =
      both s _ _ _ _ (all_exported [] s.made.exports s) (λ v. gives _ v.1 v.1 refl)

  mode_with : (words : List (List ℕ)) (s : Moment) → Goes s (λ answers. mode.mode_with answers words s)
  mode_with words s =
      both s _ _ _ _ (words_in (codes "${.MAKE.META.IGNORE_PATHS}") s) (λ v. mode_exporting words v.0 v.1)

  pub mode_read : (s : Moment) → Goes s (λ answers. mode.mode_read answers s)
  mode_read s = both s _ _ _ _ (words_in (codes "${.MAKE.MODE}") s) (λ v. mode_with v.0 v.1)
