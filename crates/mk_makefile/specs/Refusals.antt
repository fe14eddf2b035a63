-- Why lines are refused.
use Rattle.mk_blocks.specs.declared.fault.LanguageFault.{LanguageFault}
use Rattle.mk_blocks.specs.declared.fault.LanguageFault.TheVariants as language
use Rattle.mk_cond.specs.declared.fault.CondFault.{CondFault}
use Rattle.mk_cond.specs.declared.fault.CondFault.TheVariants as cond
use Rattle.mk_values.specs.Texts.{of_tree}
use Rattle.mk_values.specs.declared.fault.ExpandFault.{ExpandFault}
use Rattle.mk_values.specs.declared.fault.ExpandFault.TheVariants as expand
use Rattle.mk_world.specs.declared.fault.WorldFault.{WorldFault}
use Rattle.mk_world.specs.declared.fault.WorldFault.TheVariants as world
use Rattle.mk_ast.specs.declared.fault.AstFault.{AstFault}
use Rattle.mk_depline.specs.declared.fault.DepFault.{DepFault}
use Rattle.mk_depline.specs.declared.fault.DepFault.TheVariants as line
use Rattle.mk_rules.specs.declared.fault.RuleFault.{RuleFault}
use Rattle.mk_rules.specs.declared.fault.RuleFault.TheVariants as rule
use Rattle.mk_makefile.specs.Dependencies.{of_line, of_rule}
use Rattle.mk_makefile.specs.declared.fault.Outside.{Outside}
use Rattle.mk_makefile.specs.declared.fault.Outside.TheVariants as outside
use Rattle.mk_makefile.specs.declared.fault.Refusal.{Refusal}
use Rattle.mk_makefile.specs.declared.fault.Refusal.TheVariants.{Wrong, Failed, NoMemory}
use Rattle.mk_makefile.specs.declared.fault.What.{What}
use Rattle.mk_makefile.specs.declared.fault.What.TheVariants.{Cond, Expand}

-- a fault of an expansion; those of the outside are what they are everywhere
abbrev pub of_expand : ExpandFault → Refusal
of_expand expand.NoMemory = NoMemory
of_expand expand.Failed = Failed outside.World
of_expand fault = Wrong (Expand fault)

-- a fault of a condition's grammar
abbrev pub of_cond : CondFault → Refusal
of_cond (cond.Bad at) = Wrong (Cond at)
of_cond (cond.TooDeep at) = Wrong (Cond at)
of_cond (cond.Tree fault) = Wrong (Expand (expand.Tree fault))
of_cond cond.NoMemory = NoMemory

-- a fault of a reference in a line
abbrev pub of_ast : AstFault → Refusal
of_ast fault = of_expand (of_tree fault)

-- a fault of a dependency line
abbrev pub of_line_fault : DepFault → Refusal
of_line_fault line.NoMemory = NoMemory
of_line_fault fault = Wrong (of_line fault)

abbrev pub of_rule_fault : RuleFault → Refusal
of_rule_fault rule.NoMemory = NoMemory
of_rule_fault fault = Wrong (of_rule fault)

-- a fault of a call of the world
abbrev pub of_world : WorldFault → Refusal
of_world world.Failed = Failed outside.World
of_world world.NoMemory = Failed outside.NoMemory

-- refusals, sorted
abbrev pub sorted : Refusal → LanguageFault What Outside
sorted (Wrong what) = language.Wrong what
sorted (Failed failure) = language.Failed failure
sorted NoMemory = language.NoMemory
