-- Conditions, as plain data.
use Rattle.std.specs.Prelude.{Bool}
use Rattle.mk_ast.specs.Tree.{Tree}
use Rattle.mk_cond.specs.declared.cond.CmpOp.{CmpOp}
use Rattle.mk_cond.specs.declared.cond.Fun.{Fun}

-- a text that is compared, or whose value stands alone
pub record Side : Type 0 where
  pub text : Tree
  pub quoted : Bool

mutual
  pub data Cond : Type 0 where
    any : Conds → Cond
    all : Conds → Cond
    negate : Cond → Cond
    test : Fun → Tree → Cond
    alone : Side → Cond
    both : Side → CmpOp → Side → Cond

  -- conditions, from left to right
  pub data Conds : Type 0 where
    no_more : Conds
    cond_then : Cond → Conds → Conds
