-- The backward arrow in its tables, by readings that compute; the converter, and a file that was stored before. Assumes nothing.
use mathlib.Core.Path.{◌≡◌, refl}
use mathlib.Core.Bool.{true}
use mathlib.Core.Option.{none, some}
use Prim.Native.Nat.{ℕ}
use native.Mathlib.Omega.{arith}
use Rattle.rules.specs.Class.{has, codes}
use Rattle.rules.specs.Plain.{between}
use Rattle.lexicon.proofs.Paddings.{next_state_of}
use Rattle.grammar.specs.Tokens.{Span, word}
use Rattle.grammar.specs.Tree as Tree
use Rattle.grammar.specs.Tree.{Value}
use Rattle.reading.specs.Sizes.{base, old_rules}
use Rattle.reading.specs.Answers.{answer}
use Rattle.reading.specs.Buffer as Buffer
use Rattle.files.specs.Writes as Files
use Rattle.files.specs.Writes.{Read}
use Rattle.files.specs.Checks.{accepted}
use Rattle.form.specs.Bare.{bare_from}
use Rattle.form.specs.Writes.{refused, told}
use Rattle.examples.specs.Arrow.{retired, before, conversions, Arrow}
use Rattle.examples.proofs.Starred.{all_agree, all_hold}
use Rattle.examples.proofs.Plain.{all_test, all_rewritten}
use Rattle.examples.proofs.Files.{reads, fails}

-- ---- the tables

today_tested : all_agree base retired ≡ true
unfolding has
today_tested = refl

old_tested : all_agree old_rules before ≡ true
unfolding has
old_tested = refl

conversions_tested : all_test old_rules conversions ≡ true
unfolding has bare_from between next_state_of
conversions_tested = refl

-- ---- one text

abbrev span : ℕ → ℕ → Span
span i j = record { first = i; end = j }

abbrev tree : Value
tree = Tree.plain (Tree.arrowed (span 0 1) (Tree.plain (Tree.text word (span 1 2))) Tree.leftward (span 2 4) (Tree.plain (Tree.text word (span 4 5))) (span 5 6))

read_before : Read old_rules (codes "(b<-a)") (answer 0 6 3) (some tree)
unfolding has
read_before = reads old_rules (omega arith) (codes "(b<-a)") refl tree refl (omega arith)

read_today : Read base (codes "(b<-a)") (answer 15 2 0) none
unfolding has
read_today = fails base (omega arith) (codes "(b<-a)") refl 15 2 refl

broken_off : Read old_rules (codes "(a<-$") (answer 4 4 0) none
unfolding has
broken_off = fails old_rules (omega arith) (codes "(a<-$") refl 4 4 refl

pub arrow : Arrow
unfolding between
arrow =
    record {
      today = all_hold base (omega arith) retired today_tested;
      old = all_hold old_rules (omega arith) before old_tested;
      converted = all_rewritten old_rules conversions conversions_tested;
      written = λ lent h. told read_before (Buffer.written h);
      no_room = λ lent h. told read_before (Buffer.no_room h);
      passed_on = λ lent. refused broken_off;
      not_stored = λ lent. Files.refused read_today;
      still_accepted = accepted (record { read_as = answer 0 6 3; tree = tree; read = read_before; bytes_are = refl });
    }
