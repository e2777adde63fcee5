-- The table of plain forms, by readings that compute, and answers of the writer. Assumes nothing.
use mathlib.Core.Path.{◌≡◌, refl, ap, subst}
use mathlib.Core.Bool.{Bool, true, false, ◌&&◌, false≢true}
use mathlib.Core.List.{List, [], ◌∷◌, ◌++◌}
use mathlib.Core.Option.{Option, none, some}
use Prim.Native.Nat.{ℕ, ◌≤◌, ◌<◌}
use native.Mathlib.Omega.{arith}
use lib.ListN.{length, get_or, length-append}
use Rattle.rules.specs.Class.{has, codes}
use Rattle.rules.specs.Every.{Every, none, also}
use Rattle.rules.specs.Plain.{between}
use Rattle.rules.proofs.Bools.{and_left, and_right}
use Rattle.grammar.specs.Tokens.{Span, word}
use Rattle.grammar.specs.Tree as Tree
use Rattle.grammar.specs.Tree.{Value}
use Rattle.grammar.specs.Level.{level2}
use Rattle.lexicon.proofs.Paddings.{next_state_of}
use Rattle.decisions.proofs.Tests.{same_as, same_as_lem}
use Rattle.reading.specs.declared.Rules.{Rules}
use Rattle.reading.specs.Sizes.{base_limits, base, room}
use Rattle.reading.specs.Answers as Answers
use Rattle.reading.specs.Answers.{answer, second, Accepted}
use Rattle.reading.specs.Tabled.{Judged, other_table, shown}
use Rattle.reading.specs.Tabled as Tabled
use Rattle.reading.specs.Buffer as Buffer
use Rattle.form.specs.Bare.{bare_from}
use Rattle.form.specs.Spell.{plain_form}
use Rattle.form.specs.Writes.{Writes, refused, told}
use Rattle.examples.specs.Plain.{Rewriting, rewritings, Rewritten, words, Plain}
use Rattle.examples.proofs.Readable.{is_short, is_formed}
use Rattle.examples.proofs.Reading.{Verdict, Sound, holds, Right, verdict, verdict_is}
use Rattle.examples.proofs.Reading as Reading

-- ---- the table

-- the verdict's derivation has this plain form
abbrev formed : (text form : List ℕ) → Option Verdict → Bool
formed text form none = false
formed text form (some (Reading.refused n p)) = false
formed text form (some (holds v)) = same_as form (plain_form text v)

module _ (rules : Rules) where
  abbrev test : Rewriting → Bool
  test r = formed (codes r.text) (codes r.form) (verdict (codes r.text) rules.limits level2)

  abbrev pub all_test : List Rewriting → Bool
  all_test [] = true
  all_test (r ∷ rs) = test r && all_test rs

  is_rewritten : (r : Rewriting) (o : Option Verdict) → Sound (Right (codes r.text) rules.limits level2) o → formed (codes r.text) (codes r.form) o ≡ true → Rewritten rules r
  is_rewritten r none s e = absurd (false≢true e)
  is_rewritten r (some (Reading.refused n p)) s e = absurd (false≢true e)
  is_rewritten r (some (holds v)) s e = record { tree = v; accepted = s; form_is = (same_as_lem (codes r.form) (plain_form (codes r.text) v)).true_holds e }

  pub all_rewritten : (rs : List Rewriting) → all_test rs ≡ true → Every (Rewritten rules) rs
  all_rewritten [] e = none
  all_rewritten (r ∷ rs) e =
      also (is_rewritten r (verdict (codes r.text) rules.limits level2) (verdict_is (codes r.text) rules.limits level2) (and_left (test r) (all_test rs) e))
      (all_rewritten rs (and_right (test r) (all_test rs) e))

tested : all_test base rewritings ≡ true
unfolding has bare_from between next_state_of
tested = refl

-- ---- the answers

abbrev text : List ℕ
text = codes "{a->b}"

abbrev span : ℕ → ℕ → Span
span i j = record { first = i; end = j }

abbrev tree : Value
tree =
    Tree.plain (Tree.lot (span 0 1)
    (Tree.one_item (Tree.joined (Tree.plain (Tree.text word (span 1 2))) (Tree.arrow Tree.rightward) (span 2 4) (Tree.plain (Tree.text word (span 4 5))))) (span 5 6))

is_accepted : Accepted base_limits text level2 tree
unfolding has
is_accepted = let e : verdict text base_limits level2 ≡ some (holds tree) = refl in subst (Sound (Right text base_limits level2)) e (verdict_is text base_limits level2)

reads : (table : List ℕ) → 3 ≤ room base (length table) → Judged base text table 2 (answer 0 6 3) (some tree)
unfolding has
reads table h = Answers.accepted second (is_short text refl) (is_formed text refl) is_accepted h

too_many : (table : List ℕ) → length table < 21 → Judged base text table 2 (answer 8 6 3) none
unfolding has
too_many table h = Answers.no_room second (is_short text refl) (is_formed text refl) is_accepted (omega (arith, h))

long : (w : ℕ) (rest : List ℕ) → 3 ≤ room base (length (words w ++ rest))
long w rest = omega (arith, length-append (words w) rest)

not_shown : (w : ℕ) (rest lent : List ℕ) → (w ≡ 3 → ⊥) → Writes base text (words w ++ rest) lent 2 (answer 14 0 0) lent
not_shown w rest lent n = refused (other_table (reads (words w ++ rest) (long w rest)) (λ h. n (ap (λ (l : List ℕ). get_or l 20 0) h)))

pub plain : Plain
unfolding between
plain =
    record {
      forms = all_rewritten base rewritings tested;
      written = λ rest lent h. told (shown (reads (words 3 ++ rest) (long 3 rest)) refl) (Buffer.written h);
      no_room = λ rest lent h. told (shown (reads (words 3 ++ rest) (long 3 rest)) refl) (Buffer.no_room h);
      other_table = λ w rest lent n. not_shown w rest lent n;
      table_first = λ w rest n. not_shown w rest [] n;
      short_table = λ table lent h. refused (Tabled.refused (too_many table h));
    }
