-- The seventh word in its table, by readings that compute; the room of a node, and a table of before. Assumes nothing.
use mathlib.Core.Path.{◌≡◌, refl, ap, subst}
use mathlib.Core.Bool.{true}
use mathlib.Core.List.{List}
use mathlib.Core.Option.{none, some}
use Prim.Native.Nat.{ℕ, suc, ◌≤◌, ◌<◌}
use native.Mathlib.Omega.{arith}
use lib.ListN.{length, get_or}
use Rattle.rules.specs.Class.{has, codes}
use Rattle.grammar.specs.Tokens.{Span, word}
use Rattle.grammar.specs.Tree as Tree
use Rattle.grammar.specs.Tree.{Value}
use Rattle.grammar.specs.Level.{level2}
use Rattle.reading.specs.Sizes.{base_limits, base, room}
use Rattle.reading.specs.Answers as Answers
use Rattle.reading.specs.Answers.{answer, second, Accepted, Reading}
use Rattle.reading.specs.Tabled.{other_table}
use Rattle.reading.specs.Tabled as Tabled
use Rattle.form.specs.Writes.{refused}
use Rattle.examples.specs.Skips.{skipped, Skips}
use Rattle.examples.proofs.Readable.{is_short, is_formed}
use Rattle.examples.proofs.Reading.{Sound, holds, Right, verdict, verdict_is}
use Rattle.examples.proofs.Starred.{all_agree, all_hold}

tested : all_agree base skipped ≡ true
unfolding has
tested = refl

abbrev span : ℕ → ℕ → Span
span i j = record { first = i; end = j }

abbrev letter : ℕ → Value
letter i = Tree.plain (Tree.text word (span i (suc i)))

-- ---- one node

one : Accepted base_limits (codes "x") level2 (letter 0)
unfolding has
one =
    let e : verdict (codes "x") base_limits level2 ≡ some (holds (letter 0)) = refl in
    subst (Sound (Right (codes "x") base_limits level2)) e (verdict_is (codes "x") base_limits level2)

no_room_lem : (n : ℕ) → n < 1 → Reading base (codes "x") n 2 (answer 8 1 1) none
unfolding has
no_room_lem n h = Answers.no_room second (is_short (codes "x") refl) (is_formed (codes "x") refl) one h

room_for_it : (n : ℕ) → 1 ≤ n → Reading base (codes "x") n 2 (answer 0 1 1) (some (letter 0))
unfolding has
room_for_it n h = Answers.accepted second (is_short (codes "x") refl) (is_formed (codes "x") refl) one h

-- ---- three nodes

abbrev pair : Value
pair = Tree.plain (Tree.pair (span 0 1) (Tree.text word (span 1 2)) (span 2 3) (letter 3) (span 4 5))

three : Accepted base_limits (codes "(x:y)") level2 pair
unfolding has
three =
    let e : verdict (codes "(x:y)") base_limits level2 ≡ some (holds pair) = refl in
    subst (Sound (Right (codes "(x:y)") base_limits level2)) e (verdict_is (codes "(x:y)") base_limits level2)

few : Reading base (codes "(x:y)") 2 2 (answer 8 5 3) none
unfolding has
few = Answers.no_room second (is_short (codes "(x:y)") refl) (is_formed (codes "(x:y)") refl) three (omega arith)

enough : Reading base (codes "(x:y)") 3 2 (answer 0 5 3) (some pair)
unfolding has
enough = Answers.accepted second (is_short (codes "(x:y)") refl) (is_formed (codes "(x:y)") refl) three (omega arith)

pub skips : Skips
skips =
    record {
      listed = all_hold base (omega arith) skipped tested;
      six_words = λ lent h. record { tree = none; reading = no_room_lem (room base (length lent)) (omega (arith, h)); left_is = refl };
      seven_words = λ lent h. record { tree = some (letter 0); reading = room_for_it (room base (length lent)) (omega (arith, h)); left_is = refl };
      too_few = λ lent. refused (Tabled.refused few);
      not_its_table = λ u v w lent. refused (other_table enough (λ h. absurd (omega (arith, ap (λ (l : List ℕ). get_or l 6 0) h))));
    }
