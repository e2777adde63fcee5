-- The starred texts read as the table says: the model's answer is compared with every line by one computed test. Assumes nothing.
use mathlib.Core.Path.{◌≡◌, refl, sym, ap, subst}
use mathlib.Core.Bool.{Bool, true, false, ◌&&◌, false≢true}
use mathlib.Core.List.{List, [], ◌∷◌, ◌++◌}
use mathlib.Core.Option.{Option, none, some}
use Prim.Native.Nat.{ℕ, zero, suc, ◌*◌, ◌≤◌}
use native.Mathlib.Omega.{arith}
use borrow.Author.Tests.{eqb-true}
use lib.Dec.{eqb}
use lib.IntN.{ℤ, pos, negsuc, nat_abs}
use lib.ListN.{length, drop}
use Rattle.rules.specs.Class.{has, codes}
use Rattle.rules.proofs.Bools.{and_left, and_right}
use Rattle.lexicon.specs.Utf8.{WellFormed}
use Rattle.lexicon.specs.Values.{IntegerOf}
use Rattle.grammar.specs.Level.{Level, level1, level2}
use Rattle.grammar.specs.Nodes.{table, table_words, node_words}
use Rattle.decisions.proofs.Tests.{same_as, same_as_lem}
use Rattle.reading.specs.declared.Rules.{Rules}
use Rattle.reading.specs.Sizes.{base, room}
use Rattle.reading.specs.Answers as Answers
use Rattle.reading.specs.Answers.{LevelOf, answer, Answers, faulty}
use Rattle.examples.specs.Starred.{Row, words_of, Outcome, Example, Ends, Means, Holds, AllHold, starred}
use Rattle.examples.proofs.Readable.{readable, is_short, is_formed}
use Rattle.examples.proofs.Integers.{signed_at, size_is, integer_is}
use Rattle.examples.proofs.Reading.{Sound, Verdict, refused, holds, Right, verdict, verdict_is}

-- ---- equal integers

abbrev same_integer : ℤ → ℤ → Bool
same_integer (pos a) (pos b) = eqb a b
same_integer (pos a) (negsuc b) = false
same_integer (negsuc a) (pos b) = false
same_integer (negsuc a) (negsuc b) = eqb a b

same_integer_lem : (a b : ℤ) → same_integer a b ≡ true → a ≡ b
same_integer_lem (pos a) (pos b) e = ap pos (eqb-true a b e)
same_integer_lem (pos a) (negsuc b) e = absurd (false≢true e)
same_integer_lem (negsuc a) (pos b) e = absurd (false≢true e)
same_integer_lem (negsuc a) (negsuc b) e = ap negsuc (eqb-true a b e)

-- ---- the test of one line

abbrev level_of : ℕ → Option Level
level_of zero = none
level_of (suc zero) = some level1
level_of (suc (suc zero)) = some level2
level_of (suc (suc (suc n))) = none

level_is : (n : ℕ) → Sound (LevelOf n) (level_of n)
level_is zero = tt
level_is (suc zero) = Answers.first
level_is (suc (suc zero)) = Answers.second
level_is (suc (suc (suc n))) = tt

abbrev none_of : List Row → Bool
none_of [] = true
none_of (n ∷ ns) = false

-- the verdict on a text of len bytes is this number and place with these nodes
abbrev fits : ℕ → Option Verdict → ℕ → ℕ → List Row → Bool
fits len none n p ns = false
fits len (some (refused m q)) n p ns = (eqb m n && eqb q p) && none_of ns
fits len (some (holds v)) n p ns = (eqb 0 n && eqb len p) && (eqb (length (table v)) (length ns) && same_as (words_of ns) (table_words (table v)))

abbrev fits_at : Rules → List ℕ → Option Level → Outcome → Bool
fits_at rules bytes none o = false
fits_at rules bytes (some l) o = readable bytes && fits (length bytes) (verdict bytes rules.limits l) o.number o.place o.nodes

abbrev means : List ℕ → Option ℤ → List Row → Bool
means bytes none ns = true
means bytes (some z) [] = false
means bytes (some z) (n ∷ ns) = size_is bytes n.first n.end (nat_abs z) && same_integer (signed_at bytes n.first (nat_abs z)) z

abbrev agrees : Rules → Example → Bool
agrees rules e = fits_at rules (codes e.text) (level_of e.level) e.outcome && means (codes e.text) e.outcome.integer e.outcome.nodes

abbrev pub all_agree : Rules → List Example → Bool
all_agree rules [] = true
all_agree rules (e ∷ es) = agrees rules e && all_agree rules es

-- ---- a line that passes holds

module _ (rules : Rules) (long : base.text ≤ rules.text) (bytes : List ℕ) (number : ℕ) where
  module _ (l : Level) (o : LevelOf number l) (short : length bytes ≤ rules.text) (well : WellFormed bytes) where
    fits_ends : (m : Option Verdict) (n p : ℕ) (ns : List Row) → Sound (Right bytes rules.limits l) m → fits (length bytes) m n p ns ≡ true → Ends rules bytes number n p ns
    fits_ends none n p ns s e = absurd (false≢true e)
    fits_ends (some (refused m q)) n p [] s e =
        let both = and_left (eqb m n && eqb q p) true e in
        λ lent h.
        subst (λ (x : ℕ). Answers rules bytes lent number (answer x p 0) lent) (eqb-true m n (and_left (eqb m n) (eqb q p) both))
        (subst (λ (x : ℕ). Answers rules bytes lent number (answer m x 0) lent) (eqb-true q p (and_right (eqb m n) (eqb q p) both)) (record { tree = none; reading = faulty o short well s; left_is = refl }))
    fits_ends (some (refused m q)) n p (r ∷ ns) s e = absurd (false≢true (and_right (eqb m n && eqb q p) false e))
    fits_ends (some (holds v)) n p ns s e =
        let size = eqb (length (table v)) (length ns) in
        let same = same_as (words_of ns) (table_words (table v)) in
        let front = and_left (eqb 0 n && eqb (length bytes) p) (size && same) e in
        let back = and_right (eqb 0 n && eqb (length bytes) p) (size && same) e in
        let is_zero = eqb-true 0 n (and_left (eqb 0 n) (eqb (length bytes) p) front) in
        let is-end = eqb-true (length bytes) p (and_right (eqb 0 n) (eqb (length bytes) p) front) in
        let as_many = eqb-true (length (table v)) (length ns) (and_left size same back) in
        let alike = (same_as_lem (words_of ns) (table_words (table v))).true_holds (and_right size same back) in
        λ lent h.
        subst (λ (x : ℕ). Answers rules bytes lent number (answer x p (length ns)) (words_of ns ++ drop (node_words * length ns) lent)) is_zero
        (subst (λ (x : ℕ). Answers rules bytes lent number (answer 0 x (length ns)) (words_of ns ++ drop (node_words * length ns) lent)) is-end
        (subst (λ (x : List ℕ). Answers rules bytes lent number (answer 0 (length bytes) (length ns)) (x ++ drop (node_words * length ns) lent)) alike
        (subst (λ (x : ℕ). Answers rules bytes lent number (answer 0 (length bytes) x) (table_words (table v) ++ drop (node_words * x) lent)) as_many
        (record { tree = some v; reading = Answers.accepted o short well s (subst (λ (x : ℕ). x ≤ room rules (length lent)) (sym as_many) h); left_is = refl }))))

  ends_at : (m : Option Level) (o : Outcome) → Sound (LevelOf number) m → fits_at rules bytes m o ≡ true → Ends rules bytes number o.number o.place o.nodes
  ends_at none o s e = absurd (false≢true e)
  ends_at (some l) o s e =
      let test = fits (length bytes) (verdict bytes rules.limits l) o.number o.place o.nodes in
      let front = and_left (readable bytes) test e in
      fits_ends l s (omega (arith, long, is_short bytes front)) (is_formed bytes front) (verdict bytes rules.limits l) o.number o.place o.nodes
      (verdict_is bytes rules.limits l) (and_right (readable bytes) test e)

means_so : (bytes : List ℕ) (m : Option ℤ) (ns : List Row) → means bytes m ns ≡ true → Means bytes m ns
means_so bytes none ns e = tt
means_so bytes (some z) [] e = false≢true e
means_so bytes (some z) (n ∷ ns) e =
    let size = size_is bytes n.first n.end (nat_abs z) in
    let same = same_integer (signed_at bytes n.first (nat_abs z)) z in
    subst (IntegerOf bytes n.first n.end) (same_integer_lem (signed_at bytes n.first (nat_abs z)) z (and_right size same e))
    (integer_is bytes n.first n.end (nat_abs z) (and_left size same e))

-- the model agrees with the definitions
pub agrees_holds : (rules : Rules) → base.text ≤ rules.text → (e : Example) → agrees rules e ≡ true → Holds rules e
agrees_holds rules long e t =
    let fit = fits_at rules (codes e.text) (level_of e.level) e.outcome in
    let mean = means (codes e.text) e.outcome.integer e.outcome.nodes in
    record {
      ends = ends_at rules long (codes e.text) e.level (level_of e.level) e.outcome (level_is e.level) (and_left fit mean t);
      means = means_so (codes e.text) e.outcome.integer e.outcome.nodes (and_right fit mean t);
    }

pub all_hold : (rules : Rules) → base.text ≤ rules.text → (es : List Example) → all_agree rules es ≡ true → AllHold rules es
all_hold rules long [] t = tt
all_hold rules long (e ∷ es) t =
    (agrees_holds rules long e (and_left (agrees rules e) (all_agree rules es) t), all_hold rules long es (and_right (agrees rules e) (all_agree rules es) t))

-- the one computed test
tested : all_agree base starred ≡ true
unfolding has
tested = refl

-- every text that document 01 marks with a star reads as it says, but for the one that 02's request 6 changed
pub starred_hold : AllHold base starred
starred_hold = all_hold base (omega arith) starred tested
