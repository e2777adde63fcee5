-- `space::joint::joint` meets its contract. Assumes nothing.
use mathlib.Core.Path.{refl}
use native.Mathlib.Omega.{arith}
use Rattle.text.proofs.Searches.{fails_end, opt_missed}
use Rattle.space.proofs.Joints.{joint_line, joint_space, joint_none}
use borrow.Author.Rules.{rules}
use Rattle.space.proofs.joint.joint.Goals as goal
use Rattle.space.proofs.joint.joint.Goals.{in-96-1, in_default+then-this-lt33}

pub returns-then-text-at : goal.returns-then-text-at
returns-then-text-at c = opt_missed (fails_end refl c.if-text-at.true)

pub returns-in-95 : goal.returns-in-95
returns-in-95 c = search (joint_line, rules)

pub returns-in_default : goal.returns-in_default
returns-in_default c = joint_none _ _ (omega arith) (λ e. omega arith) (λ e. omega arith)

pub returns-in-0-to-32 : goal.returns-in-0-to-32
returns-in-0-to-32 c = joint_space _ _ _ (elim c.in-0-to-32-1.branch [ in-96-1 w ↦ (λ e. omega (arith, e)) | in_default+then-this-lt33 w ↦ (λ e. omega (arith, e)) ]) c.space.ensures
