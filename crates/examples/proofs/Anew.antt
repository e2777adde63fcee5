-- The pairs are related or not, by a test that computes, and their texts read as the table says. Assumes nothing.
use mathlib.Core.Path.{◌≡◌, refl}
use mathlib.Core.Bool.{Bool, true, not, ◌&&◌}
use mathlib.Core.List.{List, [], ◌∷◌}
use native.Mathlib.Omega.{arith}
use Rattle.rules.specs.Class.{has}
use Rattle.rules.specs.Every.{Every, none, also}
use Rattle.rules.proofs.Bools.{and_left, and_right}
use Rattle.decisions.proofs.Tests.{denied}
use Rattle.reading.specs.Sizes.{base}
use Rattle.layout.proofs.Test.{relaid, relaid_is}
use Rattle.examples.specs.Anew.{Pair, IsRelaid, IsNot, related, unrelated, readings, Anew}
use Rattle.examples.proofs.Starred.{all_agree, all_hold}

abbrev all : (Pair → Bool) → List Pair → Bool
all f [] = true
all f (p ∷ ps) = f p && all f ps

every : (f : Pair → Bool) (P : Pair → Type 0) → ((p : Pair) → f p ≡ true → P p) → (ps : List Pair) → all f ps ≡ true → Every P ps
every f P h [] e = none
every f P h (p ∷ ps) e = also (h p (and_left (f p) (all f ps) e)) (every f P h ps (and_right (f p) (all f ps) e))

abbrev test : Pair → Bool
test p = relaid p.text p.other

all_related : all test related ≡ true
unfolding has
all_related = refl

none_related : all (λ p. not (test p)) unrelated ≡ true
unfolding has
none_related = refl

tested : all_agree base readings ≡ true
unfolding has
tested = refl

pub anew : Anew
anew =
    record {
      relaid_all = every test IsRelaid (λ p e. (relaid_is p.text p.other).true_holds e) related all_related;
      relaid_none = every (λ p. not (test p)) IsNot (λ p e. (denied (relaid_is p.text p.other)).true_holds e) unrelated none_related;
      listed = all_hold base (omega arith) readings tested;
    }
