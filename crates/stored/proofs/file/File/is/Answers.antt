-- `stored::file::File::is` meets its contract. Assumes nothing.
use native.Mathlib.Omega.{arith}
use Rattle.rules.proofs.Tests.{says_no, says_yes}
use Rattle.stored.proofs.Loops.{other_length, all_same}
use Rattle.stored.proofs.file.File.is.Goals as goal

pub returns-then-bytes-len : goal.returns-then-bytes-len
returns-then-bytes-len c text v h = says_no (other_length h c.args.bytes.now (λ e. omega (arith, c.if-bytes-len.true, e, c.len.ensures)))

pub returns : goal.returns
returns c text v h =
    let e = c.len.ensures in
    says_yes (all_same h c.args.bytes.now (omega arith) (λ k s. c.loop-at.invariant text v h k (omega (arith, s))))
